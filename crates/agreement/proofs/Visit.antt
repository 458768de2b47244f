-- One visit of the arena, both ways: a cursor that stands before a key, or among its versions, goes on exactly if the facts of that
-- key and that version hold.
-- Assumes nothing.
use mathlib.Core.Path.{◌≡◌, refl, sym, ap, ap₂, ◌∙◌, subst, subst⁻¹}
use mathlib.Core.List.{List, ◌++◌}
use mathlib.Core.Bool.{Bool, true, not}
use Prim.Native.Nat.{ℕ, zero, suc, ◌+◌, ◌*◌, ◌-◌, ◌%◌, ◌^◌, ◌<◌, ◌≤◌}
use native.Mathlib.Omega.{arith}
use lib.Dec.{eqb}
use lib.ListN.{take, drop}
use borrow.Author.Tests.{eqb-true, eqb-false, eq-eqb, ne_eqb, leb-true, le-leb, ltb-true, lt-ltb, not-false}
use Rattle.num.specs.Choice.{when◌then◌else◌, both, either}
use Rattle.num.specs.Number.{le_at}
use Rattle.num.specs.Order.{less_than}
use Rattle.num.proofs.Choice.{both_true, true_both, if_case, if_true, if_false, either_second, second_either}
use Rattle.crc32.specs.V42.{crc_of}
use Rattle.sstable.specs.Limits.{max_key_bytes}
use Rattle.block.specs.Walk.{Entry}
use Rattle.point.specs.Hash.{hash_value, fingerprint_of}
use Rattle.encoding.specs.Encoding.{scan_header_len, group, key_header_len_of, version_len_of}
use Rattle.header.specs.declared.Opened.{Opened}
use Rattle.arena.specs.declared.Cursor.{Cursor}
use Rattle.std.specs.Prelude.{Result, Ok, Err}
use Rattle.refusal.specs.declared.Refusal.{Refusal}
use Rattle.refusal.proofs.Asked.{refused_ok, asked}
use Rattle.arena.specs.Key.{key_header_at, at_anchor, suffix_address, anchor_of, anchor_len_of, key_inside_of, key_fits_of, key_rises, scan_names, slot_place, slot_names, prefix_changes, entered, key_for, key_of}
use Rattle.versions.specs.Version.{stored_key, stored_seq, stored_value, kind_in, length_in, stored_offset, stored_checksum, version_agrees, checksum_agrees, advanced, version_for, visit_of}
use Rattle.versions.proofs.Agreeing.{agreeing, agrees}
use Rattle.agreement.specs.Keys.{key_header_size, version_size, key_header_in, address_of, key_header_of, version_count, suffix_place, anchor_index, key_at, version_place, version_seq, version_checksum, prefix_at, prefix_new, prefix_count}
use Rattle.agreement.specs.Agrees.{KeyStands, SameVersion}
use Rattle.agreement.proofs.Indices.{anchor_self, anchor_before, versions_behind}
use Rattle.agreement.proofs.Same.{seq_is, kind_is, length_is, offset_is, checksum_is}

-- the cursor stands before key k
pub record Before (s : List ℕ) (o : Opened) (k : ℕ) (c : Cursor) : Type 0 where
  pub pos : c.pos ≡ o.arena + address_of s o k
  pub groups : c.groups ≡ k
  pub remaining : c.remaining ≡ 0
  pub anchor : (k % 1024 ≡ 0 → ⊥) → c.anchor ≡ address_of s o (anchor_index k) + key_header_size o.encoding
  pub anchor_len : (k % 1024 ≡ 0 → ⊥) → c.anchor_len ≡ (key_header_of s o (anchor_index k)).suffix_len

-- the cursor stands before version j of key k, whose key header it has passed
pub record Within (s : List ℕ) (o : Opened) (k j : ℕ) (c : Cursor) : Type 0 where
  pub pos : c.pos ≡ version_place s o k j
  pub groups : c.groups ≡ suc k
  pub remaining : c.remaining + j ≡ version_count s o k
  pub anchor : c.anchor ≡ address_of s o (anchor_index k) + key_header_size o.encoding
  pub anchor_len : c.anchor_len ≡ (key_header_of s o (anchor_index k)).suffix_len
  pub shared : c.shared ≡ (key_header_of s o k).shared
  pub suffix : c.suffix ≡ suffix_place s o k
  pub suffix_len : c.suffix_len ≡ (key_header_of s o k).suffix_len
  pub last_seq : (i : ℕ) → j ≡ suc i → c.last_seq ≡ version_seq s o k i
  pub first : c.first ≡ eqb j 0

-- k keys were entered: the last of them, and how often the prefix changed
pub record Counted (s : List ℕ) (o : Opened) (k : ℕ) (last : List ℕ) (c : Cursor) : Type 0 where
  pub previous : (i : ℕ) → k ≡ suc i → last ≡ key_at s o i
  pub prefixes : (o.scan ≡ 0 → ⊥) → c.prefixes ≡ prefix_count s o k

-- questions 16 to 19 of key k, for the key of a record
pub record KeyAsked (s : List ℕ) (o : Opened) (end k : ℕ) (key : List ℕ) : Type 0 where
  pub below : k < o.count
  pub stands : KeyStands s o end k
  pub rises : (i : ℕ) → k ≡ suc i → less_than (key_at s o i) key ≡ true
  pub scanned : (o.scan ≡ 0 → ⊥) → le_at s (o.scan + scan_header_len + k * o.encoding.address) o.encoding.address ≡ address_of s o k
  pub slot_address : le_at s (slot_place s o (hash_value key o.seed)) o.encoding.address ≡ address_of s o k
  pub slot_fingerprint : le_at s (slot_place s o (hash_value key o.seed) + o.encoding.address) 2 ≡ fingerprint_of (hash_value key o.seed)

-- ---- the key header

module _ (s : List ℕ) (o : Opened) (k : ℕ) (c : Cursor) (b : Before s o k c) where
  header_is : key_header_at s o.encoding c.pos ≡ key_header_of s o k
  unfolding key_header_of key_header_in key_header_at
  header_is = ap (key_header_at s o.encoding) b.pos

  anchor_is : anchor_of o c ≡ address_of s o (anchor_index k) + key_header_size o.encoding
  unfolding anchor_of at_anchor suffix_address key_header_len_of key_header_size
  anchor_is =
      let p = b.pos in
      let g = b.groups in
      if_case (λ (x : ℕ). x ≡ address_of s o (anchor_index k) + key_header_size o.encoding) (eqb (c.groups % group) 0) (c.pos + key_header_size o.encoding - o.arena) c.anchor
      (λ e. let z = eqb-true (c.groups % group) 0 e in let a = ap (address_of s o) (anchor_self k (omega arith)) in omega arith)
      (λ e. let z = eqb-false (c.groups % group) 0 e in b.anchor (λ y. z (omega arith)))

  anchor_len_is : anchor_len_of c (key_header_of s o k) ≡ (key_header_of s o (anchor_index k)).suffix_len
  unfolding anchor_len_of at_anchor
  anchor_len_is =
      let g = b.groups in
      if_case (λ (x : ℕ). x ≡ (key_header_of s o (anchor_index k)).suffix_len) (eqb (c.groups % group) 0) (key_header_of s o k).suffix_len c.anchor_len
      (λ e. let z = eqb-true (c.groups % group) 0 e in sym (ap (λ (i : ℕ). (key_header_of s o i).suffix_len) (anchor_self k (omega arith))))
      (λ e. let z = eqb-false (c.groups % group) 0 e in b.anchor_len (λ y. z (omega arith)))

  module _ (end : ℕ) where
    stands : key_inside_of o end c ≡ true → key_fits_of o end c (key_header_of s o k) ≡ true → (k < o.count) × KeyStands s o end k
    unfolding key_inside_of key_fits_of suffix_place version_count at_anchor max_key_bytes key_header_len_of key_header_size version_len_of version_size
    stands i f =
        let p = b.pos in
        let g = b.groups in
        let a = anchor_is in
        let l = anchor_len_is in
        let b₀ = both_true _ _ i in
        let b₁ = both_true _ _ f in
        let b₂ = both_true _ _ b₁.1 in
        let b₃ = both_true _ _ b₂.1 in
        let b₄ = both_true _ _ b₃.1 in
        let b₅ = both_true _ _ b₄.1 in
        let b₆ = both_true _ _ b₅.1 in
        let n : c.groups < o.count = ltb-true _ _ b₀.0 in
        let h : c.pos + key_header_size o.encoding ≤ end = leb-true _ _ b₀.1 in
        let r : (key_header_of s o k).shared ≤ anchor_len_of c (key_header_of s o k) = leb-true _ _ b₃.0 in
        let x : c.pos + key_header_size o.encoding + (key_header_of s o k).suffix_len ≤ end = leb-true _ _ b₄.0 in
        let v : c.pos + key_header_size o.encoding + (key_header_of s o k).suffix_len + (key_header_of s o k).versions * version_size o.encoding ≤ end = leb-true _ _ b₆.0 in (
          omega arith,
          record {
            header_inside = omega arith;
            anchor_whole = λ z. eqb-true _ _ (either_second _ _ b₁.0 (ap not (eq-eqb (c.groups % group) 0 (omega arith))));
            anchor = eqb-true _ _ b₂.0 ∙ a;
            shared = omega arith;
            suffix_inside = omega arith;
            some_version = ltb-true _ _ b₅.0;
            versions_inside = omega arith;
            short = leb-true _ _ b₆.1;
          },
        )

    inside : k < o.count → KeyStands s o end k → key_inside_of o end c ≡ true
    unfolding key_inside_of key_header_len_of key_header_size
    inside n f =
        let p = b.pos in
        let g = b.groups in
        let h = f.header_inside in
        let m : c.groups < o.count = omega arith in
        let i : c.pos + key_header_size o.encoding ≤ end = omega arith in
        true_both _ _ (lt-ltb _ _ m) (le-leb _ _ i)

    fits : KeyStands s o end k → key_fits_of o end c (key_header_of s o k) ≡ true
    unfolding key_fits_of suffix_place version_count at_anchor max_key_bytes key_header_len_of key_header_size version_len_of version_size
    fits f =
        let p = b.pos in
        let g = b.groups in
        let l = anchor_len_is in
        let h = f.suffix_inside in
        let w = f.versions_inside in
        let q = f.shared in
        let r : (key_header_of s o k).shared ≤ anchor_len_of c (key_header_of s o k) = omega arith in
        let x : c.pos + key_header_size o.encoding + (key_header_of s o k).suffix_len ≤ end = omega arith in
        let v : c.pos + key_header_size o.encoding + (key_header_of s o k).suffix_len + (key_header_of s o k).versions * version_size o.encoding ≤ end = omega arith in
        true_both _ _ (second_either _ _ (λ e. let z = eqb-true (c.groups % group) 0 (not-false _ e) in eq-eqb _ _ (f.anchor_whole (omega arith))))
        (true_both _ _ (eq-eqb _ _ (f.anchor ∙ sym anchor_is))
        (true_both _ _ (le-leb _ _ r)
        (true_both _ _ (le-leb _ _ x)
        (true_both _ _ (lt-ltb _ _ f.some_version)
        (true_both _ _ (le-leb _ _ v)
        (le-leb _ _ f.short))))))

-- ---- the key's order, scan address and slot

-- an answer that goes on passed its test
module _ (s : List ℕ) (o : Opened) (end k : ℕ) (c : Cursor) (last key : List ℕ) (b : Before s o k c) (m : Counted s o k last c) where
  rises : key_rises c last key ≡ true → (i : ℕ) → k ≡ suc i → less_than (key_at s o i) key ≡ true
  unfolding key_rises
  rises e i q =
      let g = b.groups in
      subst (λ (x : List ℕ). less_than x key ≡ true) (m.previous i q) (either_second _ _ e (ne_eqb c.groups 0 (λ z. omega arith)))

  rising : ((i : ℕ) → k ≡ suc i → less_than (key_at s o i) key ≡ true) → key_rises c last key ≡ true
  unfolding key_rises
  rising h =
      let g = b.groups in
      second_either _ _
      (λ f. let z = eqb-false c.groups 0 f in
      let q : k ≡ suc (k - 1) = omega arith in
      subst (λ (x : List ℕ). less_than x key ≡ true) (sym (m.previous (k - 1) q)) (h (k - 1) q))

  scan_place : le_at s (o.scan + scan_header_len + c.groups * o.encoding.address) o.encoding.address
      ≡ le_at s (o.scan + scan_header_len + k * o.encoding.address) o.encoding.address
  scan_place = ap (λ (g : ℕ). le_at s (o.scan + scan_header_len + g * o.encoding.address) o.encoding.address) b.groups

  address_is : c.pos - o.arena ≡ address_of s o k
  address_is = let p = b.pos in omega arith

  scanned : scan_names s o c ≡ true → (o.scan ≡ 0 → ⊥)
      → le_at s (o.scan + scan_header_len + k * o.encoding.address) o.encoding.address ≡ address_of s o k
  unfolding scan_names
  scanned e n = sym scan_place ∙ eqb-true _ _ (either_second _ _ e (ne_eqb o.scan 0 n)) ∙ address_is

  scanning : ((o.scan ≡ 0 → ⊥) → le_at s (o.scan + scan_header_len + k * o.encoding.address) o.encoding.address ≡ address_of s o k)
      → scan_names s o c ≡ true
  unfolding scan_names
  scanning h = second_either _ _ (λ f. eq-eqb _ _ (scan_place ∙ h (eqb-false o.scan 0 f) ∙ sym address_is))

  key_asked : (d : Cursor) → key_of s o end c last key ≡ Ok d
      → KeyAsked s o end k key × (entered o c (key_header_of s o k) (prefix_changes s o c last key) ≡ d)
  unfolding key_of key_for slot_names
  key_asked d e =
      let w₀ = asked _ _ _ d e in
      let w₁ = asked _ _ _ d (ap (key_for s o end c last key) (sym (header_is s o k c b)) ∙ w₀.1) in
      let w₂ = asked _ _ _ d w₁.1 in
      let w₃ = asked _ _ _ d w₂.1 in
      let w₄ = asked _ _ _ d w₃.1 in
      let f = stands s o k c b end w₀.0 w₁.0 in
      let t = both_true _ _ w₄.0 in (
        record {
          below = f.0;
          stands = f.1;
          rises = rises w₂.0;
          scanned = scanned w₃.0;
          slot_address = eqb-true _ _ t.0 ∙ address_is;
          slot_fingerprint = eqb-true _ _ t.1;
        },
        let q = w₄.1 in cc,
      )

  asked_key : KeyAsked s o end k key → key_of s o end c last key ≡ Ok (entered o c (key_header_of s o k) (prefix_changes s o c last key))
  unfolding key_of key_for slot_names
  asked_key a =
      if_true _ _ _ (inside s o k c b end a.below a.stands)
      ∙ ap (key_for s o end c last key) (header_is s o k c b)
      ∙ if_true _ _ _ (fits s o k c b end a.stands)
      ∙ if_true _ _ _ (rising a.rises)
      ∙ if_true _ _ _ (scanning a.scanned)
      ∙ if_true _ _ _ (true_both _ _ (eq-eqb _ _ (a.slot_address ∙ sym address_is)) (eq-eqb _ _ a.slot_fingerprint))

-- ---- the cursor behind a key header, behind a version, and behind the last one

entered_within : (s : List ℕ) (o : Opened) (k : ℕ) (c : Cursor) → Before s o k c → (changes : Bool) → Within s o k 0 (entered o c (key_header_of s o k) changes)
unfolding entered version_place suffix_place version_count key_header_len_of key_header_size version_len_of version_size
entered_within s o k c b changes =
    let p = b.pos in
    let g = b.groups in
    record {
      pos = omega arith;
      groups = omega arith;
      remaining = omega arith;
      anchor = anchor_is s o k c b;
      anchor_len = anchor_len_is s o k c b;
      shared = refl;
      suffix = omega arith;
      suffix_len = refl;
      last_seq = λ i q. absurd (omega arith);
      first = refl;
    }

changes_is : (s : List ℕ) (o : Opened) (c : Cursor) (last key : List ℕ) (k : ℕ) → c.groups ≡ k → ((i : ℕ) → k ≡ suc i → last ≡ key_at s o i) → key ≡ key_at s o k
    → (o.scan ≡ 0 → ⊥) → prefix_changes s o c last key ≡ prefix_new s o k
unfolding prefix_changes prefix_new prefix_at both either
changes_is s o c last key zero g p e n = rw (ne_eqb o.scan 0 n, eq-eqb c.groups 0 g)
changes_is s o c last key (suc i) g p e n = rw (ne_eqb o.scan 0 n, ne_eqb c.groups 0 (λ z. omega arith), e, p i refl)

entered_counted : (s : List ℕ) (o : Opened) (k : ℕ) (c : Cursor) (last key : List ℕ) → Before s o k c → Counted s o k last c → key ≡ key_at s o k
    → Counted s o (suc k) key (entered o c (key_header_of s o k) (prefix_changes s o c last key))
unfolding entered prefix_count
entered_counted s o k c last key b m e =
    record {
      previous = λ i q. let z : k ≡ i = omega arith in e ∙ ap (key_at s o) z;
      prefixes = λ n.
          ap₂ (λ (t : Bool) (x : ℕ). when t then x + 1 else x) (changes_is s o c last key k b.groups m.previous e n) (m.prefixes n);
    }

advanced_within : (s : List ℕ) (o : Opened) (k j : ℕ) (c : Cursor) (seq : ℕ) → Within s o k j c → j < version_count s o k → seq ≡ version_seq s o k j
    → Within s o k (suc j) (advanced o c seq)
unfolding advanced version_place version_len_of version_size
advanced_within s o k j c seq w h e =
    let p = w.pos in
    let r = w.remaining in
    record {
      pos = omega arith;
      groups = w.groups;
      remaining = omega arith;
      anchor = w.anchor;
      anchor_len = w.anchor_len;
      shared = w.shared;
      suffix = w.suffix;
      suffix_len = w.suffix_len;
      last_seq = λ i q. let z : j ≡ i = omega arith in e ∙ ap (version_seq s o k) z;
      first = sym (ne_eqb (suc j) 0 (λ z. omega arith));
    }

advanced_counted : (s : List ℕ) (o : Opened) (k : ℕ) (last : List ℕ) (c : Cursor) (seq : ℕ) → Counted s o k last c → Counted s o k last (advanced o c seq)
unfolding advanced
advanced_counted s o k last c seq m = record { previous = m.previous; prefixes = m.prefixes }

-- behind the last version of a key the cursor stands before the next key
pub within_last : (s : List ℕ) (o : Opened) (k j : ℕ) (c : Cursor) → Within s o k j c → version_count s o k ≤ j → Before s o (suc k) c
within_last s o k j c w h =
    let r = w.remaining in
    let e : j ≡ version_count s o k = omega arith in
    record {
      pos = w.pos ∙ ap (version_place s o k) e ∙ versions_behind s o k;
      groups = w.groups;
      remaining = omega arith;
      anchor = λ n. w.anchor ∙ ap (λ (i : ℕ). address_of s o i + key_header_size o.encoding) (sym (anchor_before k n));
      anchor_len = λ n. w.anchor_len ∙ ap (λ (i : ℕ). (key_header_of s o i).suffix_len) (sym (anchor_before k n));
    }

-- ---- the version

-- questions 20 and 21 of a record with its value's bytes, beside version j of key k
pub record VersionAsked (s : List ℕ) (o : Opened) (k j : ℕ) (e : Entry) (value : List ℕ) : Type 0 where
  pub same : SameVersion s o k j e
  pub falls : (i : ℕ) → j ≡ suc i → e.seq < version_seq s o k i
  pub checksum : o.encoding.checksum ≡ true → version_checksum s o k j ≡ crc_of value

module _ (s : List ℕ) (o : Opened) (k j : ℕ) (c : Cursor) (w : Within s o k j c) where
  key_is : stored_key s o c ≡ key_at s o k
  unfolding stored_key key_at suffix_place
  key_is =
      let a = w.anchor in
      let x : o.arena + c.anchor ≡ o.arena + address_of s o (anchor_index k) + key_header_size o.encoding = omega arith in
      λ i. take (w.shared i) (drop (x i) s) ++ take (w.suffix_len i) (drop (w.suffix i) s)

  asked_version : (e : Entry) (value : List ℕ) → version_agrees s o c e ≡ true → checksum_agrees s o c value ≡ true → VersionAsked s o k j e value
  unfolding checksum_agrees
  asked_version e value f g =
      let a = agreeing s o c e f in
      let q = ap (stored_seq s o) w.pos ∙ sym (seq_is s o k j) in
      record {
        same =
            record {
              key = a.key ∙ key_is;
              seq = sym a.seq ∙ q;
              sum = subst (λ (n : ℕ). n < 2 ^ 64) q a.sum;
              kind = sym a.kind ∙ ap (λ (p : ℕ). kind_in o (stored_value s o p)) w.pos ∙ sym (kind_is s o k j);
              size = sym a.size ∙ ap (λ (p : ℕ). length_in o (stored_value s o p)) w.pos ∙ sym (length_is s o k j);
              place = sym a.place ∙ ap (stored_offset s o) w.pos ∙ sym (offset_is s o k j);
            };
        falls = λ i q.
            let n = a.falls (w.first ∙ ne_eqb j 0 (λ z. omega arith)) in
            let l = w.last_seq i q in omega arith;
        checksum = λ t.
            checksum_is s o k j ∙ ap (stored_checksum s o) (sym w.pos) ∙ eqb-true _ _ (either_second _ _ g (ap not t));
      }

  version_agrees_lem : (e : Entry) (value : List ℕ) → VersionAsked s o k j e value → version_agrees s o c e ≡ true
  version_agrees_lem e value a =
      let f = a.same in
      let q = ap (stored_seq s o) w.pos ∙ sym (seq_is s o k j) in
      agrees s o c e
      (record {
        key = f.key ∙ sym key_is;
        falls = λ t.
            let z = eqb-false j 0 (sym w.first ∙ t) in
            let i : j ≡ suc (j - 1) = omega arith in
            let n = a.falls (j - 1) i in
            let l = w.last_seq (j - 1) i in omega arith;
        seq = q ∙ sym f.seq;
        sum = subst⁻¹ (λ (n : ℕ). n < 2 ^ 64) q f.sum;
        kind = ap (λ (p : ℕ). kind_in o (stored_value s o p)) w.pos ∙ sym (kind_is s o k j) ∙ sym f.kind;
        size = ap (λ (p : ℕ). length_in o (stored_value s o p)) w.pos ∙ sym (length_is s o k j) ∙ sym f.size;
        place = ap (stored_offset s o) w.pos ∙ sym (offset_is s o k j) ∙ sym f.place;
      })

  checksum_agrees_lem : (e : Entry) (value : List ℕ) → VersionAsked s o k j e value → checksum_agrees s o c value ≡ true
  unfolding checksum_agrees
  checksum_agrees_lem e value a =
      second_either _ _ (λ t. eq-eqb _ _ (ap (stored_checksum s o) w.pos ∙ sym (checksum_is s o k j) ∙ a.checksum (not-false _ t)))

-- ---- one visit

version_went : (s : List ℕ) (o : Opened) (k j : ℕ) (c d : Cursor) (e : Entry) (value : List ℕ) → Within s o k j c → version_for s o e value (Ok c) ≡ Ok d
    → VersionAsked s o k j e value × (advanced o c e.seq ≡ d)
unfolding version_for
version_went s o k j c d e value w t =
    let w₁ = asked _ _ _ d t in
    let w₂ = asked _ _ _ d w₁.1 in
    (asked_version s o k j c w e value w₁.0 w₂.0, let q = w₂.1 in cc)

went_version : (s : List ℕ) (o : Opened) (k j : ℕ) (c : Cursor) (e : Entry) (value : List ℕ) → Within s o k j c → VersionAsked s o k j e value
    → version_for s o e value (Ok c) ≡ Ok (advanced o c e.seq)
unfolding version_for
went_version s o k j c e value w a =
    if_true _ _ _ (version_agrees_lem s o k j c w e value a) ∙ if_true _ _ _ (checksum_agrees_lem s o k j c w e value a)

went_from : (s : List ℕ) (o : Opened) (d : Cursor) (e : Entry) (value : List ℕ) (v : Result Cursor Refusal) → version_for s o e value v ≡ Ok d
    → (c : Cursor) × (v ≡ Ok c) × (version_for s o e value (Ok c) ≡ Ok d)
unfolding version_for
went_from s o d e value (Ok c) t = (c, refl, t)
went_from s o d e value (Err x) t = refused_ok t

-- the cursor behind the first record of a key
unfoldable pub behind_first : List ℕ → Opened → ℕ → Cursor → List ℕ → Entry → Cursor
behind_first s o k c last e = advanced o (entered o c (key_header_of s o k) (prefix_changes s o c last e.key)) e.seq

module _ (s : List ℕ) (o : Opened) (end k : ℕ) (c : Cursor) (last : List ℕ) (e : Entry) (value : List ℕ) (b : Before s o k c) (m : Counted s o k last c) where
  -- a visit of a key's first record that goes on: questions 16 to 21 hold
  pub key_visit : (d : Cursor) → visit_of s o end c last e value ≡ Ok d
      → KeyAsked s o end k e.key × VersionAsked s o k 0 e value × (behind_first s o k c last e ≡ d)
  unfolding visit_of behind_first
  key_visit d t =
      let x = entered o c (key_header_of s o k) (prefix_changes s o c last e.key) in
      let n = if_true (eqb c.remaining 0) (key_of s o end c last e.key) (Ok c) (eq-eqb c.remaining 0 b.remaining) in
      let f = went_from s o d e value (key_of s o end c last e.key) (ap (version_for s o e value) (sym n) ∙ t) in
      let a = key_asked s o end k c last e.key b m f.0 f.1 in
      let v = version_went s o k 0 x d e value (entered_within s o k c b (prefix_changes s o c last e.key))
      (ap (λ (y : Cursor). version_for s o e value (Ok y)) a.1 ∙ f.2) in
      (a.0, v.0, v.1)

  -- and conversely
  pub visit_key : KeyAsked s o end k e.key → VersionAsked s o k 0 e value → visit_of s o end c last e value ≡ Ok (behind_first s o k c last e)
  unfolding visit_of behind_first
  visit_key a v =
      ap (version_for s o e value)
      (if_true (eqb c.remaining 0) (key_of s o end c last e.key) (Ok c) (eq-eqb c.remaining 0 b.remaining) ∙ asked_key s o end k c last e.key b m a)
      ∙ went_version s o k 0 _ e value (entered_within s o k c b (prefix_changes s o c last e.key)) v

  -- then the cursor stands before the key's second version, and one more key is counted
  pub key_behind : 0 < version_count s o k → VersionAsked s o k 0 e value
      → Within s o k 1 (behind_first s o k c last e) × Counted s o (suc k) e.key (behind_first s o k c last e)
  unfolding behind_first
  key_behind h v = (
    advanced_within s o k 0 _ e.seq (entered_within s o k c b (prefix_changes s o c last e.key)) h v.same.seq,
    advanced_counted s o (suc k) e.key _ e.seq (entered_counted s o k c last e.key b m v.same.key),
  )

module _ (s : List ℕ) (o : Opened) (end k j : ℕ) (c : Cursor) (last : List ℕ) (e : Entry) (value : List ℕ) (w : Within s o k j c) (h : j < version_count s o k) where
  stays : (when eqb c.remaining 0 then key_of s o end c last e.key else Ok c) ≡ Ok c
  stays = let r = w.remaining in if_false (eqb c.remaining 0) (key_of s o end c last e.key) (Ok c) (ne_eqb c.remaining 0 (λ z. omega arith))

  -- a visit of a later record of a key that goes on: questions 20 and 21 hold
  pub version_visit : (d : Cursor) → visit_of s o end c last e value ≡ Ok d → VersionAsked s o k j e value × (advanced o c e.seq ≡ d)
  unfolding visit_of
  version_visit d t = version_went s o k j c d e value w (ap (version_for s o e value) (sym stays) ∙ t)

  -- and conversely
  pub visit_version : VersionAsked s o k j e value → visit_of s o end c last e value ≡ Ok (advanced o c e.seq)
  unfolding visit_of
  visit_version v = ap (version_for s o e value) stays ∙ went_version s o k j c e value w v

  -- then the cursor stands before the next version
  pub version_behind : (m : ℕ) → Counted s o m last c → VersionAsked s o k j e value
      → Within s o k (suc j) (advanced o c e.seq) × Counted s o m last (advanced o c e.seq)
  version_behind m n v = (advanced_within s o k j c e.seq w h v.same.seq, advanced_counted s o m last c e.seq n)
