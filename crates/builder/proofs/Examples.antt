-- The three adds of document 01's worked store, computed: `ab` 7 Put `xyz`, `ab` 3 Tombstone, `ac` 5 Put, empty.
-- Assumes nothing.
use mathlib.Core.Path.{◌≡◌, refl}
use mathlib.Core.Bool.{true, false}
use mathlib.Core.List.{List, [], ◌∷◌}
use Prim.Native.Nat.{ℕ}
use lib.ListN.{replicate}
use Rattle.std.specs.Prelude.{Result, Ok, Err}
use Rattle.refusal.specs.declared.Refusal.{Refusal}
use Rattle.refusal.specs.declared.Refusal.TheVariants as refusal
use Rattle.num.specs.Choice.{choice_defs}
use Rattle.num.specs.Number.{le_at, le_bytes}
use Rattle.num.specs.Order.{common_prefix_len}
use Rattle.crc32.specs.V42.{crc_defs}
use Rattle.sstable.specs.Limits.{limit_defs}
use Rattle.sstable.specs.declared.Kind.TheVariants.{Put, Tombstone}
use Rattle.encoding.specs.Encoding.{encoding_defs}
use Rattle.area.specs.Area.{area_defs}
use Rattle.builder.specs.Offer.{Offer, offer_defs}
use Rattle.builder.specs.Record.{empty_builder, size_of_section, builder_defs}
use Rattle.builder.specs.Add.{BuilderState, add_of, add_defs}

unfoldable pub worked_offers : List Offer
worked_offers =
    record { kind = Put; key = 97 ∷ 98 ∷ []; value = 120 ∷ 121 ∷ 122 ∷ []; seq = 7; new_key = true; offset = 23 }
    ∷ record { kind = Tombstone; key = 97 ∷ 98 ∷ []; value = []; seq = 3; new_key = false; offset = 47 }
    ∷ record { kind = Put; key = 97 ∷ 99 ∷ []; value = []; seq = 5; new_key = true; offset = 69 }
    ∷ []

-- one add after another, up to the first refusal
unfoldable pub add_all : BuilderState → List Offer → Result BuilderState Refusal
add_all b [] = Ok b
add_all b (e ∷ es) = elim (add_of b.area b.builder e) [ Ok c ↦ add_all c es | Err r ↦ Err r ]

-- an area of this many bytes, all of them 170
unfoldable pub empty_in : ℕ → BuilderState
empty_in room = record { area = replicate room 170; builder = empty_builder }

worked : add_all (empty_in 97) worked_offers
    ≡ Ok (record {
      area =
          2 ∷ 0 ∷ 0 ∷ 0 ∷ 2 ∷ 0 ∷ 0 ∷ 0 ∷ 97 ∷ 98
          ∷ 7 ∷ 0 ∷ 0 ∷ 0 ∷ 0 ∷ 0 ∷ 0 ∷ 0 ∷ 1 ∷ 3 ∷ 0 ∷ 0 ∷ 0 ∷ 23 ∷ 0 ∷ 0 ∷ 0 ∷ 0 ∷ 0 ∷ 0 ∷ 0 ∷ 103 ∷ 186 ∷ 142 ∷ 235
          ∷ 3 ∷ 0 ∷ 0 ∷ 0 ∷ 0 ∷ 0 ∷ 0 ∷ 0 ∷ 2 ∷ 0 ∷ 0 ∷ 0 ∷ 0 ∷ 47 ∷ 0 ∷ 0 ∷ 0 ∷ 0 ∷ 0 ∷ 0 ∷ 0 ∷ 0 ∷ 0 ∷ 0 ∷ 0
          ∷ 2 ∷ 0 ∷ 0 ∷ 0 ∷ 1 ∷ 0 ∷ 0 ∷ 0 ∷ 97 ∷ 99
          ∷ 5 ∷ 0 ∷ 0 ∷ 0 ∷ 0 ∷ 0 ∷ 0 ∷ 0 ∷ 1 ∷ 0 ∷ 0 ∷ 0 ∷ 0 ∷ 69 ∷ 0 ∷ 0 ∷ 0 ∷ 0 ∷ 0 ∷ 0 ∷ 0 ∷ 0 ∷ 0 ∷ 0 ∷ 0
          ∷ 170 ∷ 170 ∷ [];
      builder =
          record {
            totals =
                record {
                  keys = 2;
                  versions = 3;
                  suffix_bytes = 3;
                  min_seq = 3;
                  max_seq = 7;
                  max_key_len = 2;
                  max_value_len = 3;
                  max_versions = 2;
                  last_value_offset = 69;
                };
            used = 95;
            last_key = 60;
            anchor = 0;
          };
    })
unfolding add_all empty_in worked_offers add_defs builder_defs area_defs offer_defs choice_defs encoding_defs crc_defs limit_defs le_at le_bytes common_prefix_len
worked = refl

-- one byte less is 34
no_room : add_all (empty_in 94) worked_offers ≡ Err refusal.AreaRoom
unfolding add_all empty_in worked_offers add_defs builder_defs area_defs offer_defs choice_defs encoding_defs crc_defs limit_defs le_at le_bytes common_prefix_len
no_room = refl

-- the empty builder's size is 69, and 101 with a prefix
empty_size : (size_of_section empty_builder 0 ≡ Ok 69) × (size_of_section empty_builder 1 ≡ Ok 101)
unfolding builder_defs choice_defs encoding_defs
empty_size = (refl, refl)
