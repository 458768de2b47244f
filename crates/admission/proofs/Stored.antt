-- The records of a store: where each stands in its blocks, and where its value lies in the data.
-- Assumes nothing.
use mathlib.Core.Path.{◌≡◌, sym, ap, ◌∙◌, subst}
use mathlib.Core.List.Memᴰ
use mathlib.Core.List.{List, [], ◌∷◌, ◌++◌, Memᴰ}
use mathlib.Core.Logic.{⊎_elim}
use Prim.Native.Nat.{ℕ, zero, suc, ◌+◌, ◌*◌, ◌<◌, ◌≤◌}
use native.Mathlib.Omega.{arith}
use lib.ListN.{length, take, drop, length-take}
use Rattle.num.specs.Number.{Bytes}
use Rattle.num.proofs.Lists.{part_length, part_part, bytes_nil, bytes_take, bytes_drop}
use Rattle.sstable.specs.declared.Kind.TheVariants.{Tombstone}
use Rattle.block.specs.Verify.{entries_end_in}
use Rattle.block.specs.Walk.{Entry, records_of}
use Rattle.block.proofs.Walk.{walk_inside, walk_bytes}
use Rattle.validate.specs.Walk.{value_of}
use Rattle.admission.specs.Blocks.{offset_at, length_at, pair_end, block_at, Covers, in_data, block_entries, store_entries}
use Rattle.admission.proofs.Covers.{offset_next, block_next}

-- ---- the records of one block

-- a record of a block: its value lies in the block, and a tombstone's is empty
record BlockEntry (raw : List ℕ) (e : Entry) : Type 0 where
  value_inside : e.place + e.size ≤ length raw
  tombstone_empty : e.kind ≡ Tombstone → e.size ≡ 0

block_entry : (raw : List ℕ) (e : Entry) → Memᴰ e (records_of raw).entries → BlockEntry raw e
unfolding records_of entries_end_in
block_entry raw e i =
    let r = walk_inside raw (entries_end_in raw) 0 [] e i in
    record { value_inside = let v = r.value_inside in omega arith; tombstone_empty = r.tombstone_empty }

-- keys of bytes stand in a block of bytes
block_key_bytes : (raw : List ℕ) → Bytes raw → (e : Entry) → Memᴰ e (records_of raw).entries → Bytes e.key
unfolding records_of
block_key_bytes raw b e i = walk_bytes raw (entries_end_in raw) b 0 [] bytes_nil e i

-- ---- a record of the store is a record of one of its blocks

-- it is the record `inner` of the block of pair `pair`, its place counted in the data
pub record StoredIn («data» blocks : List ℕ) (e : Entry) : Type 0 where
  pub pair : ℕ
  pub is_pair : 2 * pair + 1 < length blocks
  pub inner : Entry
  pub member : Memᴰ inner (records_of (block_at «data» blocks pair)).entries
  pub same : in_data (offset_at blocks pair) inner ≡ e

module _ («data» : List ℕ) (x y : ℕ) (pairs : List ℕ) where
  stored_first : (e : Entry) → Memᴰ e (block_entries «data» x y) → StoredIn «data» (x ∷ y ∷ pairs) e
  unfolding block_entries block_at offset_at length_at
  stored_first e i =
      let m = Memᴰ.of_map (in_data x) (records_of (take y (drop x «data»))).entries i in
      record { pair = 0; is_pair = omega arith; inner = m.0; member = m.1; same = m.2 }

  stored_next : (e : Entry) → StoredIn «data» pairs e → StoredIn «data» (x ∷ y ∷ pairs) e
  stored_next e s =
      let l = s.is_pair in
      record {
        pair = suc s.pair;
        is_pair = omega arith;
        inner = s.inner;
        member = rw block_next s.member;
        same = rw offset_next s.same;
      }

-- every record of the store is a record of a block
pub stored_in : («data» blocks : List ℕ) (e : Entry) → Memᴰ e (store_entries «data» blocks) → StoredIn «data» blocks e
unfolding store_entries
stored_in «data» [] e i = absurd (Memᴰ.not-nil i)
stored_in «data» (x ∷ []) e i = absurd (Memᴰ.not-nil i)
stored_in «data» (x ∷ y ∷ pairs) e i =
    ⊎_elim (stored_first «data» x y pairs e) (λ later. stored_next «data» x y pairs e (stored_in «data» pairs e later))
    (Memᴰ.append_cases (block_entries «data» x y) i)

-- and every record of a block is a record of the store
pub in_stored : («data» blocks : List ℕ) (i : ℕ) → 2 * i + 1 < length blocks → (e : Entry) → Memᴰ e (records_of (block_at «data» blocks i)).entries
    → Memᴰ (in_data (offset_at blocks i) e) (store_entries «data» blocks)
unfolding store_entries block_entries block_at offset_at length_at
in_stored «data» [] i h e m = absurd (omega arith)
in_stored «data» (x ∷ []) i h e m = absurd (omega arith)
in_stored «data» (x ∷ y ∷ pairs) zero h e m = Memᴰ.append_left (store_entries «data» pairs) (Memᴰ.map (in_data x) m)
in_stored «data» (x ∷ y ∷ pairs) (suc i) h e m =
    subst (λ (n : ℕ). Memᴰ (in_data n e) (block_entries «data» x y ++ store_entries «data» pairs)) (sym (offset_next x y pairs i))
    (Memᴰ.append_right (block_entries «data» x y)
    (in_stored «data» pairs i (omega arith) e (subst (λ (raw : List ℕ). Memᴰ e (records_of raw).entries) (block_next x y pairs «data» i) m)))

-- ---- a record of the store

-- its value lies in the data, as long as it says, and a tombstone's is empty
pub record StoredEntry («data» : List ℕ) (e : Entry) : Type 0 where
  pub value_inside : e.place + e.size ≤ length «data»
  pub value_length : length (value_of «data» e) ≡ e.size
  pub tombstone_empty : e.kind ≡ Tombstone → e.size ≡ 0

placed_entry : («data» : List ℕ) (offset len : ℕ) (x : Entry) → offset + len ≤ length «data» → BlockEntry (take len (drop offset «data»)) x
    → StoredEntry «data» (in_data offset x)
unfolding in_data value_of
placed_entry «data» offset len x f b =
    let v = b.value_inside in
    let n : offset + x.place + x.size ≤ length «data» = omega (arith, length-take len (drop offset «data»)) in
    record {
      value_inside = n;
      value_length = part_length «data» (offset + x.place) x.size n;
      tombstone_empty = b.tombstone_empty;
    }

pub stored_entry : («data» blocks : List ℕ) → Covers «data» blocks → (e : Entry) → Memᴰ e (store_entries «data» blocks) → StoredEntry «data» e
unfolding pair_end block_at
stored_entry «data» blocks c e i =
    let s = stored_in «data» blocks e i in
    let b = block_entry (block_at «data» blocks s.pair) s.inner s.member in
    subst (StoredEntry «data») s.same (placed_entry «data» (offset_at blocks s.pair) (length_at blocks s.pair) s.inner (c.finishes s.pair s.is_pair) b)

placed_value : («data» : List ℕ) (offset len : ℕ) (x : Entry) → BlockEntry (take len (drop offset «data»)) x
    → value_of «data» (in_data offset x) ≡ value_of (take len (drop offset «data»)) x
unfolding value_of in_data
placed_value «data» offset len x b =
    let v = b.value_inside in
    sym (part_part «data» offset len x.place x.size (omega (arith, length-take len (drop offset «data»))))

-- its value's bytes in the data are those in its block
pub stored_value_lem : («data» blocks : List ℕ) (e : Entry) (s : StoredIn «data» blocks e) → value_of «data» e ≡ value_of (block_at «data» blocks s.pair) s.inner
unfolding block_at
stored_value_lem «data» blocks e s =
    let b = block_entry (block_at «data» blocks s.pair) s.inner s.member in
    ap (value_of «data») (sym s.same) ∙ placed_value «data» (offset_at blocks s.pair) (length_at blocks s.pair) s.inner b

block_bytes_lem : («data» blocks : List ℕ) (i : ℕ) → Bytes «data» → Bytes (block_at «data» blocks i)
unfolding block_at
block_bytes_lem «data» blocks i b = bytes_take (length_at blocks i) (drop (offset_at blocks i) «data») (bytes_drop (offset_at blocks i) «data» b)
