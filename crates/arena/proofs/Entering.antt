-- What a key record that is entered says, and where it leaves the cursor.
-- Assumes nothing.
use mathlib.Core.Path.{◌≡◌, ap, subst}
use mathlib.Core.List.{List}
use mathlib.Core.Bool.{Bool, true, false}
use Prim.Native.Nat.{ℕ, ◌+◌, ◌<◌, ◌≤◌}
use native.Mathlib.Omega.{arith}
use borrow.Author.Tests.{leb-true, ltb-true}
use Rattle.std.specs.Prelude.{Ok}
use Rattle.refusal.proofs.Asked.{asked}
use Rattle.num.specs.Choice.{when◌then◌else◌}
use Rattle.num.proofs.Choice.{both_true, if_case}
use Rattle.point.specs.Hash.{hash_value}
use Rattle.encoding.specs.Encoding.{key_header_len_of}
use Rattle.header.specs.declared.Opened.{Opened}
use Rattle.arena.specs.declared.Cursor.{Cursor}
use Rattle.arena.specs.declared.KeyHeader.{KeyHeader}
use Rattle.arena.specs.Internal.{Inside}
use Rattle.arena.specs.Key.{key_header_at, at_anchor, suffix_address, anchor_of, anchor_len_of, key_inside_of, key_rises, scan_names, slot_names, prefix_changes, entered, key_for, key_of}
use Rattle.arena.proofs.Questions.{Fitting, fitting}

-- question 16 before the key header is read
pub inside_asked : (o : Opened) (end : ℕ) (c : Cursor) → key_inside_of o end c ≡ true → (c.groups < o.count) × (c.pos + key_header_len_of o.encoding ≤ end)
unfolding key_inside_of
inside_asked o end c t = let b = both_true _ _ t in (ltb-true _ _ b.0, leb-true _ _ b.1)

-- a key record that passes questions 16 to 19, and the cursor behind its suffix
pub record Entered (s : List ℕ) (o : Opened) (end : ℕ) (c : Cursor) (previous key : List ℕ) (d : Cursor) : Type 0 where
  pub fewer : c.groups < o.count
  pub header : c.pos + key_header_len_of o.encoding ≤ end
  pub fits : Fitting o end c (key_header_at s o.encoding c.pos)
  pub rises : key_rises c previous key ≡ true
  pub scan : scan_names s o c ≡ true
  pub slot : slot_names s o c (hash_value key o.seed) ≡ true
  pub cursor : entered o c (key_header_at s o.encoding c.pos) (prefix_changes s o c previous key) ≡ d

pub key_entered : (s : List ℕ) (o : Opened) (end : ℕ) (c : Cursor) (previous key : List ℕ) (d : Cursor)
    → key_of s o end c previous key ≡ Ok d → Entered s o end c previous key d
unfolding key_of key_for
key_entered s o end c previous key d t =
    let p = asked _ _ _ d t in
    let f = asked _ _ _ d p.1 in
    let r = asked _ _ _ d f.1 in
    let n = asked _ _ _ d r.1 in
    let l = asked _ _ _ d n.1 in
    let i = inside_asked o end c p.0 in
    let e : entered o c (key_header_at s o.encoding c.pos) (prefix_changes s o c previous key) ≡ d = let w = l.1 in cc in
    record {
      fewer = i.0;
      header = i.1;
      fits = fitting o end c (key_header_at s o.encoding c.pos) f.0;
      rises = r.0;
      scan = n.0;
      slot = l.0;
      cursor = e;
    }

-- the anchor's part of an entered key lies in the arena
anchor_inside : (s : List ℕ) (o : Opened) (end : ℕ) (c : Cursor) (h : KeyHeader) → Inside s o end c → Fitting o end c h
    → o.arena + anchor_of o c + anchor_len_of c h ≤ end
unfolding anchor_of anchor_len_of suffix_address when◌then◌else◌
anchor_inside s o end c h i f = go (at_anchor c)
  where
    go : (b : Bool) → o.arena + when◌then◌else◌ b (suffix_address o c) c.anchor + when◌then◌else◌ b h.suffix_len c.anchor_len ≤ end
    go true = omega (arith, i.started, f.suffix)
    go false = i.anchor

entered_inside : (s : List ℕ) (o : Opened) (end : ℕ) (c : Cursor) (h : KeyHeader) (changes : Bool) → Inside s o end c → c.groups < o.count → Fitting o end c h
    → Inside s o end (entered o c h changes)
unfolding entered
entered_inside s o end c h changes i l f =
    let a = i.started in
    let p = i.prefixes in
    record {
      end_inside = i.end_inside;
      started = omega arith;
      versions = f.versions;
      keys = omega arith;
      anchor = anchor_inside s o end c h i f;
      shared = f.shared;
      suffix = f.suffix;
      prefixes = if_case (λ n. n ≤ c.groups + 1) changes (c.prefixes + 1) c.prefixes (λ _. omega arith) (λ _. omega arith);
    }

-- a key that is entered has a version to come, and lies in the arena
pub key_inside : (s : List ℕ) (o : Opened) (end : ℕ) (c : Cursor) (previous key : List ℕ) (d : Cursor)
    → Inside s o end c → key_of s o end c previous key ≡ Ok d → (Inside s o end d) × (1 ≤ d.remaining)
unfolding entered
key_inside s o end c previous key d i t =
    let k = key_entered s o end c previous key d t in
    let h = key_header_at s o.encoding c.pos in
    let r : h.versions ≡ d.remaining = ap (λ (x : Cursor). x.remaining) k.cursor in
    let v = k.fits.some_version in
    (subst (Inside s o end) k.cursor (entered_inside s o end c h (prefix_changes s o c previous key) i k.fewer k.fits), omega arith)
