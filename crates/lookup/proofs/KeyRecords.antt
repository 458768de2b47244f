-- The questions that a lookup asks of a key record, in their order.
-- Assumes nothing.
use mathlib.Core.Path.{◌≡◌, sym, ap, ◌∙◌}
use mathlib.Core.Bool.{Bool, true, false}
use mathlib.Core.List.{List}
use Prim.Native.Nat.{ℕ, ◌+◌, ◌-◌, ◌<◌, ◌≤◌}
use native.Mathlib.Omega.{arith}
use lib.Dec.{leb}
use lib.ListN.{length, take, drop, length-drop}
use lib.Seq.{take_all}
use borrow.Author.Tests.{leb-true, le-leb, lt-leb, eq-eqb, ne_eqb}
use Rattle.std.specs.Prelude.{None, Ok, Err}
use Rattle.num.specs.Choice.{when◌then◌else◌}
use Rattle.num.specs.Order.{equal_bytes}
use Rattle.num.proofs.Choice.{if_true, if_false}
use Rattle.encoding.specs.Encoding.{key_header_len_of}
use Rattle.header.specs.declared.Opened.{Opened}
use Rattle.arena.specs.declared.KeyHeader.{KeyHeader}
use Rattle.arena.specs.Key.{key_header_at}
use Rattle.locator.specs.Locator.{Located}
use Rattle.refusal.specs.declared.Refusal.TheVariants as refusal
use Rattle.lookup.specs.Lookup.{key_record_of, key_record_at}
use Rattle.locator.specs.Locator.{readable, versions_from}
use Rattle.lookup.proofs.Tests.{room_from}

module _ (s : List ℕ) (o : Opened) (key : List ℕ) (limit pos : ℕ) (h : KeyHeader) where
  -- where the suffix stands
  abbrev suffix_at_lem : ℕ
  suffix_at_lem = pos + key_header_len_of o.encoding

  abbrev same_suffix_lem : Bool
  same_suffix_lem = equal_bytes (drop h.shared key) (take h.suffix_len (drop suffix_at_lem s))

  abbrev same_anchor : Bool
  same_anchor = equal_bytes (take h.shared key) (take h.shared (drop (o.arena + h.anchor) s))

  -- the answer once the suffix is read
  abbrev from_suffix : Located
  from_suffix = when◌then◌else◌ same_suffix_lem (versions_from h.versions s o (suffix_at_lem + h.suffix_len) limit) (Ok None)

  -- once the anchor's part is read
  abbrev from_anchor : Located
  from_anchor = when◌then◌else◌ same_anchor (when readable s suffix_at_lem h.suffix_len then from_suffix else Err refusal.Read) (Ok None)

  pub other_length : (length key ≡ h.shared + h.suffix_len → ⊥) → Ok None ≡ key_record_of s o key limit pos h
  unfolding key_record_of
  other_length n = sym (if_false _ _ _ (ne_eqb _ _ n))

  module _ (len : length key ≡ h.shared + h.suffix_len) (start : o.arena ≤ length s) where
    pub anchor_outside : leb (h.anchor + h.shared) (length s - o.arena) ≡ false → Err refusal.Read ≡ key_record_of s o key limit pos h
    unfolding key_record_of readable
    anchor_outside f =
        ((sym (if_false _ from_anchor _ (sym (room_from o.arena h.anchor h.shared (length s) start) ∙ f))) ∙ sym (if_true _ _ _ (eq-eqb _ _ len)))

    module _ (inside : leb (h.anchor + h.shared) (length s - o.arena) ≡ true) where
      -- the anchor's part is in the section
      pub anchor_inside : o.arena + h.anchor + h.shared ≤ length s
      anchor_inside = let l = leb-true (h.anchor + h.shared) (length s - o.arena) inside in omega arith

      from-anchor : (r : Located) → r ≡ from_anchor → r ≡ key_record_of s o key limit pos h
      unfolding key_record_of readable
      from-anchor r e =
          ((e ∙ sym (if_true _ from_anchor _ (le-leb (o.arena + h.anchor + h.shared) (length s) anchor_inside))) ∙ sym (if_true _ _ _ (eq-eqb _ _ len)))

      pub other_anchor : same_anchor ≡ false → Ok None ≡ key_record_of s o key limit pos h
      other_anchor f = from-anchor (Ok None) (sym (if_false _ _ _ f))

      module _ (front : same_anchor ≡ true) (size : ℕ) (header : size ≡ key_header_len_of o.encoding) (before : pos + size ≤ length s) where
        from-suffix : (r : Located) → r ≡ (when readable s suffix_at_lem h.suffix_len then from_suffix else Err refusal.Read) → r ≡ key_record_of s o key limit pos h
        from-suffix r e = from-anchor r (e ∙ sym (if_true _ _ _ front))

        pub suffix_outside : length s - (pos + size) < h.suffix_len → Err refusal.Read ≡ key_record_of s o key limit pos h
        unfolding readable
        suffix_outside l = from-suffix (Err refusal.Read) (sym (if_false _ from_suffix _ (lt-leb (suffix_at_lem + h.suffix_len) (length s) (omega arith))))

        module _ (behind : h.suffix_len ≤ length s - (pos + size)) where
          suffix-read : (r : Located) → r ≡ from_suffix → r ≡ key_record_of s o key limit pos h
          unfolding readable
          suffix-read r e = from-suffix r (e ∙ sym (if_true _ _ _ (le-leb (suffix_at_lem + h.suffix_len) (length s) (omega arith))))

          -- the key's rest is as long as the suffix
          rest : take h.suffix_len (drop h.shared key) ≡ drop h.shared key
          rest = take_all h.suffix_len (drop h.shared key) (omega (arith, length-drop h.shared key))

          compared : {b : Bool} → equal_bytes (take h.suffix_len (drop h.shared key)) (take h.suffix_len (drop (pos + size) s)) ≡ b → same_suffix_lem ≡ b
          compared e =
              ap (λ (l : List ℕ). equal_bytes l (take h.suffix_len (drop suffix_at_lem s))) (sym rest)
              ∙ ap (λ (n : ℕ). equal_bytes (take h.suffix_len (drop h.shared key)) (take h.suffix_len (drop (pos + n) s))) (sym header)
              ∙ e

          pub other_suffix : equal_bytes (take h.suffix_len (drop h.shared key)) (take h.suffix_len (drop (pos + size) s)) ≡ false
              → Ok None ≡ key_record_of s o key limit pos h
          other_suffix f = suffix-read (Ok None) (sym (if_false _ _ _ (compared f)))

          pub same_key : equal_bytes (take h.suffix_len (drop h.shared key)) (take h.suffix_len (drop (pos + size) s)) ≡ true
              → versions_from h.versions s o (pos + size + h.suffix_len) limit ≡ key_record_of s o key limit pos h
          same_key t =
              suffix-read _
              ((ap (λ (n : ℕ). versions_from h.versions s o (pos + n + h.suffix_len) limit) header) ∙ sym (if_true _ _ _ (compared t)))

-- ---- the key record at an address

module _ (s : List ℕ) (o : Opened) (key : List ℕ) (limit address : ℕ) (start : o.arena ≤ length s) {size : ℕ} (header : size ≡ key_header_len_of o.encoding) where
  -- its header is not read outside the section
  read : {b : Bool} → leb (address + size) (length s - o.arena) ≡ b → leb (o.arena + address + key_header_len_of o.encoding) (length s) ≡ b
  read e =
      ap (λ (n : ℕ). leb (o.arena + address + n) (length s)) (sym header)
      ∙ sym (room_from o.arena address size (length s) start)
      ∙ e

  pub address_outside : leb (address + size) (length s - o.arena) ≡ false → Err refusal.Read ≡ key_record_at s o key limit (o.arena + address)
  unfolding key_record_at readable
  address_outside f = sym (if_false _ _ _ (read f))

  pub address_inside : leb (address + size) (length s - o.arena) ≡ true → {h : KeyHeader} → h ≡ key_header_at s o.encoding (o.arena + address)
      → key_record_of s o key limit (o.arena + address) h ≡ key_record_at s o key limit (o.arena + address)
  unfolding key_record_at readable
  address_inside t e = (ap (key_record_of s o key limit (o.arena + address)) e) ∙ sym (if_true _ _ _ (read t))
