-- Entries in order, and the blocks that hold just them (document 01, "Building").
use Rattle.std.specs.Prelude.{◌≡◌, true, false, ℕ, suc, ◌*◌, ◌<◌, ◌≤◌, length, get_or}
use mathlib.Core.List.{List, [], Memᴰ, map}
use Rattle.num.specs.Order.{less_than}
use Rattle.sstable.specs.declared.Kind.TheVariants.{Put, Tombstone}
use Rattle.block.specs.Walk.{Entry}
use Rattle.validate.specs.Walk.{value_of}
use Rattle.admission.specs.Blocks.{Covers, store_entries}
use Rattle.locating.specs.Store.{LinkerStore, Version, Holds}
use Rattle.builder.specs.Offer.{Offer}

-- stands behind the last one
unfoldable pub no_offer : Offer
no_offer = record { kind = Put; key = []; value = []; seq = 0; new_key = false; offset = 0 }

unfoldable pub offer_at : List Offer → ℕ → Offer
offer_at taken i = get_or taken i no_offer

-- each new key is greater than the last, each entry not marked new carries the last key with a lesser sequence, and tombstones are empty
pub record InOrder (taken : List Offer) : Type 0 where
  pub rising : (i : ℕ) → suc i < length taken → (offer_at taken (suc i)).new_key ≡ true
      → less_than (offer_at taken i).key (offer_at taken (suc i)).key ≡ true
  pub same_key : (i : ℕ) → suc i < length taken → (offer_at taken (suc i)).new_key ≡ false → (offer_at taken (suc i)).key ≡ (offer_at taken i).key
  pub falling : (i : ℕ) → suc i < length taken → (offer_at taken (suc i)).new_key ≡ false → (offer_at taken (suc i)).seq < (offer_at taken i).seq
  pub tombstones : (i : ℕ) → i < length taken → (offer_at taken i).kind ≡ Tombstone → (offer_at taken i).value ≡ []

-- the record of the blocks that an entry is, its value at the added offset
unfoldable pub entry_added : Offer → Entry
entry_added e = record { key = e.key; seq = e.seq; kind = e.kind; place = e.offset; size = length e.value }

-- the version that it is
unfoldable pub version_added : Offer → Version
version_added e = record { key = e.key; seq = e.seq; kind = e.kind; value = e.value }

-- blocks that cover the data hold the entries alone, in order, and each value stands at its added offset; questions 11 to 13 and the cover are
-- `Covers`, and 14 holds since 30 asked it of every entry taken
pub record HoldsJust («data» blocks : List ℕ) (taken : List Offer) : Type 0 where
  pub covers : Covers «data» blocks
  pub just : store_entries «data» blocks ≡ map entry_added taken
  pub values : (i : ℕ) → i < length taken → value_of «data» (entry_added (offer_at taken i)) ≡ (offer_at taken i).value

-- a key scratch of which each key takes at most half (15)
unfoldable pub ScratchHolds : ℕ → List Offer → Type 0
ScratchHolds scratch taken = (i : ℕ) → i < length taken → 2 * length (offer_at taken i).key ≤ scratch

-- a store holds, of a key within a limit, the versions that were added
pub record SameAdded (taken : List Offer) (b : LinkerStore) (key : List ℕ) (limit : ℕ) : Type 0 where
  pub there : (v : Version) → Memᴰ v (map version_added taken) → v.key ≡ key → v.seq ≤ limit → Holds b v
  pub back : (v : Version) → Holds b v → v.key ≡ key → v.seq ≤ limit → Memᴰ v (map version_added taken)

-- for proofs alone: `unfolding in_order_defs` opens the definitions of this file
unfoldable pub in_order_defs : ℕ
unfolding no_offer offer_at entry_added version_added ScratchHolds
in_order_defs = 0
