-- What a visit that goes on says, and where it leaves the cursor.
-- Assumes nothing.
use mathlib.Core.Path.{◌≡◌, refl, sym, ap, ◌∙◌, subst}
use mathlib.Core.List.{List}
use mathlib.Core.Bool.{Bool, true, false}
use Prim.Native.Nat.{ℕ, suc, ◌+◌, ◌*◌, ◌-◌, ◌≤◌}
use native.Mathlib.Nat.{suc-mul}
use native.Mathlib.Omega.{arith}
use lib.Dec.{eqb}
use borrow.Author.Tests.{eqb-true, eqb-false, eq-eqb, ne_eqb}
use Rattle.std.specs.Prelude.{Result, Ok, Err, IfOk}
use Rattle.refusal.specs.declared.Refusal.{Refusal}
use Rattle.refusal.proofs.Asked.{refused_ok, asked}
use Rattle.num.specs.Choice.{when◌then◌else◌}
use Rattle.block.specs.Walk.{Entry}
use Rattle.encoding.specs.Encoding.{version_len_of}
use Rattle.header.specs.declared.Opened.{Opened}
use Rattle.arena.specs.declared.Cursor.{Cursor}
use Rattle.arena.specs.Internal.{Readable, Inside, Standing}
use Rattle.arena.specs.Key.{key_of}
use Rattle.versions.specs.Version.{version_agrees, checksum_agrees, advanced, version_for, visit_of}
use Rattle.arena.proofs.Entering.{key_inside}
use Rattle.arena.proofs.Reading.{inside_standing}

-- a version that passes questions 20 and 21, and the cursor behind it
pub version_advanced : (s : List ℕ) (o : Opened) (e : Entry) (value : List ℕ) (c d : Cursor) → version_for s o e value (Ok c) ≡ Ok d
    → (version_agrees s o c e ≡ true) × (checksum_agrees s o c value ≡ true) × (advanced o c e.seq ≡ d)
unfolding version_for
version_advanced s o e value c d t =
    let a = asked _ _ _ d t in
    let k = asked _ _ _ d a.1 in
    (a.0, k.0, let w = k.1 in cc)

-- a visit in a key is that of its next version
pub visit_more : (s : List ℕ) (o : Opened) (end : ℕ) (c : Cursor) (previous : List ℕ) (e : Entry) (value : List ℕ) → (c.remaining ≡ 0 → ⊥)
    → visit_of s o end c previous e value ≡ version_for s o e value (Ok c)
unfolding visit_of when◌then◌else◌
visit_more s o end c previous e value n = rw (ne_eqb _ _ n)

-- a visit behind a key is that of the next key and of its first version
pub visit_first : (s : List ℕ) (o : Opened) (end : ℕ) (c : Cursor) (previous : List ℕ) (e : Entry) (value : List ℕ) → c.remaining ≡ 0
    → visit_of s o end c previous e value ≡ version_for s o e value (key_of s o end c previous e.key)
unfolding visit_of when◌then◌else◌
visit_first s o end c previous e value z = rw (eq-eqb _ _ z)

-- a key that is entered stands in the arena
pub entered_stands : (s : List ℕ) (o : Opened) (end : ℕ) (c : Cursor) (previous key : List ℕ) → Inside s o end c
    → (r : Result Cursor Refusal) → r ≡ key_of s o end c previous key → IfOk r (λ d. Standing s o d)
entered_stands s o end c previous key i (Ok d) e = let k = key_inside s o end c previous key d i (sym e) in inside_standing s o end d k.0 k.1
entered_stands s o end c previous key i (Err n) e = tt

-- a version follows a key that was entered
version_behind : (s : List ℕ) (o : Opened) (e : Entry) (value : List ℕ) (v : Result Cursor Refusal) (d : Cursor) → version_for s o e value v ≡ Ok d
    → (m : Cursor) × (v ≡ Ok m) × (version_for s o e value (Ok m) ≡ Ok d)
unfolding version_for
version_behind s o e value (Ok m) d t = (m, refl, t)
version_behind s o e value (Err n) d t = refused_ok t

advanced_inside : (s : List ℕ) (o : Opened) (end : ℕ) (c : Cursor) (seq : ℕ) → Inside s o end c → 1 ≤ c.remaining → Inside s o end (advanced o c seq)
unfolding advanced
advanced_inside s o end c seq i h =
    let n : suc (c.remaining - 1) ≡ c.remaining = omega arith in
    let m : (c.remaining - 1) * version_len_of o.encoding + version_len_of o.encoding ≡ c.remaining * version_len_of o.encoding =
    sym (suc-mul (c.remaining - 1) (version_len_of o.encoding)) ∙ ap (λ (k : ℕ). k * version_len_of o.encoding) n in
    let v = i.versions in
    let a = i.started in
    record {
      end_inside = i.end_inside;
      started = omega arith;
      versions = omega arith;
      keys = i.keys;
      anchor = i.anchor;
      shared = i.shared;
      suffix = i.suffix;
      prefixes = i.prefixes;
    }

version_inside : (s : List ℕ) (o : Opened) (end : ℕ) (e : Entry) (value : List ℕ) (c d : Cursor) → Inside s o end c → 1 ≤ c.remaining
    → version_for s o e value (Ok c) ≡ Ok d → Inside s o end d
version_inside s o end e value c d i h t =
    subst (Inside s o end) (version_advanced s o e value c d t).2 (advanced_inside s o end c e.seq i h)

-- a visit that goes on stays in the arena
pub visit_inside : (s : List ℕ) (o : Opened) (end : ℕ) (c : Cursor) (previous : List ℕ) (e : Entry) (value : List ℕ) (d : Cursor)
    → Readable s o → Inside s o end c → visit_of s o end c previous e value ≡ Ok d → Inside s o end d
visit_inside s o end c previous e value d r i t = go (eqb c.remaining 0) refl
  where
    go : (b : Bool) → eqb c.remaining 0 ≡ b → Inside s o end d
    go true z =
        let v = version_behind s o e value (key_of s o end c previous e.key) d (sym (visit_first s o end c previous e value (eqb-true _ _ z)) ∙ t) in
        let k = key_inside s o end c previous e.key v.0 i v.1 in
        version_inside s o end e value v.0 d k.0 k.1 v.2
    go false n =
        let m = eqb-false _ _ n in
        version_inside s o end e value c d i (omega arith) (sym (visit_more s o end c previous e value m) ∙ t)
