-- P3: what a lookup gives of an accepted store, plain or packed.
-- Assumes nothing.
use mathlib.Core.Path.{◌≡◌, sym, ap, ◌∙◌, subst}
use mathlib.Core.List.{List}
use Prim.Native.Nat.{ℕ, ◌≤◌}
use native.Mathlib.Omega.{arith}
use Rattle.header.specs.declared.Opened.{Opened}
use Rattle.header.proofs.Questions.{yes_packed}
use Rattle.packed.specs.Packed.{packed_bytes}
use Rattle.agreement.specs.Keys.{version_seq}
use Rattle.admission.specs.Blocks.{store_entries}
use Rattle.admission.specs.Admits.{OpensExactly, PacksExactly}
use Rattle.admission.proofs.Opening.{open_exactly}
use Rattle.admission.proofs.PackedOpening.{open_packed_exactly}
use Rattle.lookup.specs.Lookup.{no_limit}
use Rattle.locating.specs.Store.{LinkerStore, Store, plain_opening, packed_opening, Version, Holds}
use Rattle.locating.specs.Looks.{LooksExactly}
use Rattle.locating.proofs.Indexed.{Indexed}
use Rattle.locating.proofs.Plain.{plain_indexed}
use Rattle.locating.proofs.Packed.{packed_indexed}
use Rattle.locating.proofs.Versions.{version_seq_lem, listed}
use Rattle.locating.proofs.Core.{indexed_looks}

-- a lookup can count on an accepted store
pub store_indexed : (t : LinkerStore) → Store t → Indexed t.bytes t.opened t.backing (store_entries t.backing t.blocks)
unfolding OpensExactly PacksExactly
store_indexed t (plain_opening scratch e) =
    plain_indexed t.bytes t.backing t.blocks scratch t.opened ((open_exactly t.bytes t.backing t.blocks scratch t.opened).0 e)
store_indexed t (packed_opening section scratch room e) =
    let f = (open_packed_exactly section t.backing t.blocks scratch room t.opened t.bytes).0 e in
    let a = f.admits in
    let x = packed_indexed section t.backing t.blocks scratch f.plain a.admits (yes_packed f.plain a.checksums a.few) a.pilots in
    subst (λ (s : List ℕ). Indexed s t.opened t.backing (store_entries t.backing t.blocks)) (sym f.same_bytes)
    (subst (λ (o : Opened). Indexed (packed_bytes section f.plain) o t.backing (store_entries t.backing t.blocks)) (sym f.same_record) x)

-- a lookup in an accepted store, plain or packed, is none exactly if no version of the key is within the limit, and otherwise the one of
-- greatest sequence (P3)
pub lookup_exactly : LooksExactly
unfolding LooksExactly
lookup_exactly t st = indexed_looks t (store_indexed t st)

-- without a limit, every version of a store is within it
pub no_limit_lem : (t : LinkerStore) → Store t → (v : Version) → Holds t v → v.seq ≤ no_limit
no_limit_lem t st v h =
    let x = store_indexed t st in
    let y = listed t x v h in
    let e : v.seq ≡ version_seq t.bytes t.opened y.key y.version =
    ap (λ (u : Version). u.seq) (sym y.same) ∙ version_seq_lem t x y.key y.version y.key_below y.version_below in
    let b = (x.versions y.key y.version y.key_below y.version_below).sum in
    omega arith
