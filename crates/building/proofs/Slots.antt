-- What construction gives makes every key own its slot, with pilots that open and pack.
-- Assumes nothing.
use mathlib.Core.Path.{◌≡◌, sym, ap, ap₂, ◌∙◌, subst⁻¹}
use mathlib.Core.List.{List, [], map}
use mathlib.Core.Bool.{true}
use Prim.Native.Nat.{ℕ, ◌^◌, ◌<◌, ◌≤◌}
use native.Mathlib.Omega.{arith}
use lib.ListN.{length, get_or, length-map}
use Rattle.std.specs.Prelude.{Ok}
use Rattle.num.proofs.Choice.{false_true}
use Rattle.num.proofs.Lists.{map_at}
use Rattle.num.specs.Wrapping.{mul_mod}
use Rattle.point.specs.Hash.{hash_step, hash_value, bucket_of, is_direct, direct_slot, slot_of}
use Rattle.point.proofs.Hashing.{mix_lt}
use Rattle.encoding.specs.declared.Encoding.{Encoding}
use Rattle.encoding.specs.Encoding.{buckets_of}
use Rattle.construction.specs.Construct.{Constructed, seed_of, hashes_of, bucket_count, placement_of, construct_of}
use Rattle.construction.specs.Promises.{Placed, PilotSound, searched, direct, PlacementSound, SeedDecided}
use Rattle.construction.proofs.Slots.{below_not_direct, direct_slot_lem}
use Rattle.construction.proofs.Promises.{placement_sound, seed_decided}
use Rattle.written.specs.Arena.{KeyGroup, no_group, group_key}
use Rattle.written.specs.Section.{group_hash}
use Rattle.written.specs.Opens.{group_slot, SlotsOwned, Packable}

-- ---- what a sound pilot says

sound_direct : (n p : ℕ) → n ≤ 2 ^ 20 → PilotSound n p → is_direct p ≡ true → direct_slot p < n
sound_direct n p few (searched l) d = false_true (sym (below_not_direct p l) ∙ d)
sound_direct n p few (direct at l e) d = rw (e, direct_slot_lem at (omega arith)) l

sound_packs : (n p : ℕ) → n ≤ 2 ^ 20 → PilotSound n p → direct_slot p < 2 ^ 23
unfolding direct_slot
sound_packs n p few (searched l) = omega arith
sound_packs n p few (direct at l e) = let s = direct_slot_lem at (omega arith) in omega arith

sound_narrow : (n p : ℕ) → n ≤ 2 ^ 20 → PilotSound n p → p < 2 ^ 32
sound_narrow n p few (searched l) = omega arith
sound_narrow n p few (direct at l e) = omega arith

-- ---- keys by number

module _ (gs : List KeyGroup) (seed : ℕ) where
  abbrev hashes : List ℕ
  hashes = hashes_of (map (λ g. g.key) gs) seed

  hashes_length : length hashes ≡ length gs
  unfolding hashes_of
  hashes_length = length-map (map (λ g. g.key) gs) (λ key. hash_value key seed) ∙ length-map gs (λ g. g.key)

  hash_at : (i : ℕ) → i < length gs → get_or hashes i 0 ≡ group_hash seed gs i
  unfolding hashes_of group_hash group_key
  hash_at i h =
      map_at (λ key. hash_value key seed) (map (λ g. g.key) gs) i [] 0 (let n = length-map gs (λ g. g.key) in omega arith)
      ∙ ap (λ (k : List ℕ). hash_value k seed) (map_at (λ g. g.key) gs i no_group [] h)

-- ---- what construction gives

module _ (gs : List KeyGroup) (few : length gs ≤ 2 ^ 20) (c : Constructed) (e : construct_of (map (λ g. g.key) gs) ≡ Ok c) where
  abbrev hs : List ℕ
  hs = hashes gs c.seed

  abbrev pilot : ℕ → ℕ
  pilot x = get_or c.placement.pilots x 0

  abbrev owner : ℕ → ℕ
  owner m = get_or c.placement.slots m 0

  few_hashes : length hs ≤ 2 ^ 20
  few_hashes = let n = hashes_length gs c.seed in omega arith

  placed : Placed hs c.placement
  unfolding SeedDecided PlacementSound
  placed =
      let r = (seed_decided (map (λ g. g.key) gs)).answers c e in
      placement_sound hs c.placement few_hashes (ap (λ (s : ℕ). placement_of (hashes gs s)) r.1.seed ∙ r.1.placement)

  pub seed_fits : c.seed < 2 ^ 64
  unfolding SeedDecided seed_of
  seed_fits =
      let r = (seed_decided (map (λ g. g.key) gs)).answers c e in
      subst⁻¹ (λ (s : ℕ). s < 2 ^ 64) r.1.seed (mix_lt (mul_mod hash_step r.0))

  slot_same : (i : ℕ) → i < length gs → group_slot c.seed (buckets_of (length gs)) gs pilot i ≡ slot_of (get_or hs i 0) (pilot (bucket_of (get_or hs i 0) (bucket_count hs))) (length hs)
  unfolding group_slot bucket_count
  slot_same i h =
      sym (ap₂ (λ (x n : ℕ). slot_of x (pilot (bucket_of x (buckets_of n))) n) (hash_at gs c.seed i h) (hashes_length gs c.seed))

  pub slots_owned : SlotsOwned c.seed (buckets_of (length gs)) gs pilot owner
  slots_owned =
      let n = hashes_length gs c.seed in
      record {
        narrow = λ b h. sound_narrow (length hs) (pilot b) few_hashes (placed.pilots.sound b);
        direct = λ b h d. let l = sound_direct (length hs) (pilot b) few_hashes (placed.pilots.sound b) d in omega arith;
        owned = λ i h. ap owner (slot_same i h) ∙ placed.filled.owned i (omega arith);
      }

  pub packable : (enc : Encoding) → enc.checksum ≡ true → Packable enc gs pilot
  packable enc k = record { checksums = k; few = omega arith; pilots = λ b h. sound_packs (length hs) (pilot b) few_hashes (placed.pilots.sound b) }
