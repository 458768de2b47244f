-- Question 16 in plain terms.
-- Assumes nothing.
use mathlib.Core.Path.{◌≡◌, ap}
use mathlib.Core.Bool.{true, not}
use Prim.Native.Nat.{ℕ, ◌+◌, ◌*◌, ◌%◌, ◌<◌, ◌≤◌}
use borrow.Author.Tests.{leb-true, le-leb, ltb-true, lt-ltb, eqb-true, eq-eqb, not-false}
use Rattle.num.proofs.Choice.{both_true, true_both, either_second, second_either}
use Rattle.sstable.specs.Limits.{max_key_bytes}
use Rattle.encoding.specs.Encoding.{group, key_header_len_of, version_len_of}
use Rattle.header.specs.declared.Opened.{Opened}
use Rattle.arena.specs.declared.Cursor.{Cursor}
use Rattle.arena.specs.declared.KeyHeader.{KeyHeader}
use Rattle.arena.specs.Key.{at_anchor, anchor_of, anchor_len_of, key_fits_of}

-- what question 16 asks of a key header at the cursor
pub record Fitting (o : Opened) (end : ℕ) (c : Cursor) (h : KeyHeader) : Type 0 where
  pub unshared : c.groups % group ≡ 0 → h.shared ≡ 0
  pub anchor : h.anchor ≡ anchor_of o c
  pub shared : h.shared ≤ anchor_len_of c h
  pub suffix : c.pos + key_header_len_of o.encoding + h.suffix_len ≤ end
  pub some_version : 0 < h.versions
  pub versions : c.pos + key_header_len_of o.encoding + h.suffix_len + h.versions * version_len_of o.encoding ≤ end
  pub short : h.shared + h.suffix_len ≤ max_key_bytes

pub fitting : (o : Opened) (end : ℕ) (c : Cursor) (h : KeyHeader) → key_fits_of o end c h ≡ true → Fitting o end c h
unfolding key_fits_of at_anchor
fitting o end c h t =
    let a = both_true _ _ t in
    let b = both_true _ _ a.1 in
    let d = both_true _ _ b.1 in
    let e = both_true _ _ d.1 in
    let f = both_true _ _ e.1 in
    let g = both_true _ _ f.1 in
    record {
      unshared = λ z. eqb-true _ _ (either_second _ _ a.0 (ap not (eq-eqb _ _ z)));
      anchor = eqb-true _ _ b.0;
      shared = leb-true _ _ d.0;
      suffix = leb-true _ _ e.0;
      some_version = ltb-true _ _ f.0;
      versions = leb-true _ _ g.0;
      short = leb-true _ _ g.1;
    }

pub fits : (o : Opened) (end : ℕ) (c : Cursor) (h : KeyHeader) → Fitting o end c h → key_fits_of o end c h ≡ true
unfolding key_fits_of at_anchor
fits o end c h f =
    true_both _ _ (second_either _ _ (λ z. eq-eqb _ _ (f.unshared (eqb-true _ _ (not-false _ z)))))
    (true_both _ _ (eq-eqb _ _ f.anchor)
    (true_both _ _ (le-leb _ _ f.shared)
    (true_both _ _ (le-leb _ _ f.suffix)
    (true_both _ _ (lt-ltb _ _ f.some_version)
    (true_both _ _ (le-leb _ _ f.versions) (le-leb _ _ f.short))))))
