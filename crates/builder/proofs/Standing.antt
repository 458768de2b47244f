-- What question 37 says of a record, in plain terms.
-- Assumes nothing.
use mathlib.Core.Path.{◌≡◌, refl, ap, ◌∙◌}
use mathlib.Core.Bool.{Bool, true, false}
use mathlib.Core.List.{List}
use Prim.Native.Nat.{ℕ, zero, suc, ◌+◌, ◌-◌, ◌%◌, ◌^◌, ◌≤◌, ◌<◌}
use native.Mathlib.Omega.{arith}
use lib.Dec.{leb, ltb}
use lib.ListN.{length, take, drop}
use borrow.Author.Tests.{leb-true, le-leb, lt-leb, ltb-true, ne_eqb}
use Rattle.num.specs.Choice.{when◌then◌else◌, either}
use Rattle.num.proofs.Choice.{if_case, both_true, both_no, both_yes, either_second, same_truth}
use Rattle.num.proofs.Order.{common_prefix_len-right}
use Rattle.encoding.specs.Encoding.{Bounded, group}
use Rattle.builder.specs.declared.Builder.{Builder}
use Rattle.area.specs.Area.{head_len, area_key_len, area_versions, area_key}
use Rattle.builder.specs.Record.{anchor_next, shared_with, totals_small, key_lies, standing, sizeable}
use Rattle.builder.specs.Internal.{Countable}

-- the totals are small
pub record Small (b : Builder) : Type 0 where
  pub keys : b.totals.keys ≤ 2 ^ 30
  pub versions : b.totals.versions ≤ 2 ^ 30
  pub suffix_bytes : b.totals.suffix_bytes ≤ 2 ^ 30
  pub used : b.used ≤ 2 ^ 30
  pub max_key_len : b.totals.max_key_len ≤ 2 ^ 30
  pub max_value_len : b.totals.max_value_len ≤ 2 ^ 30
  pub max_versions : b.totals.max_versions ≤ 2 ^ 30

pub small : (b : Builder) → totals_small b ≡ true → Small b
unfolding totals_small
small b e =
    let e₁ = both_true _ _ e in
    let e₂ = both_true _ _ e₁.1 in
    let e₃ = both_true _ _ e₂.1 in
    let e₄ = both_true _ _ e₃.1 in
    let e₅ = both_true _ _ e₄.1 in
    let e₆ = both_true _ _ e₅.1 in
    record {
      keys = leb-true _ _ e₁.0;
      versions = leb-true _ _ e₂.0;
      suffix_bytes = leb-true _ _ e₃.0;
      used = leb-true _ _ e₄.0;
      max_key_len = leb-true _ _ e₅.0;
      max_value_len = leb-true _ _ e₆.0;
      max_versions = leb-true _ _ e₆.1;
    }

-- size's question bounds what the lengths are made of
pub sizeable_bounded : (b : Builder) → sizeable b ≡ true → Bounded b.totals
unfolding sizeable
sizeable_bounded b e =
    let s = small b (both_true _ _ e).0 in
    record {
      keys = s.keys;
      versions = s.versions;
      suffix_bytes = s.suffix_bytes;
      max_key_len = s.max_key_len;
      max_value_len = s.max_value_len;
      max_versions = s.max_versions;
      seqs = leb-true _ _ (both_true _ _ e).1;
    }

-- the head and the bytes of a key lie in the used area
pub record Lies (area : List ℕ) (b : Builder) (head : ℕ) : Type 0 where
  pub head_inside : head + head_len ≤ b.used
  pub key_inside : head + head_len + area_key_len area head ≤ b.used

pub lies : (area : List ℕ) (b : Builder) (head : ℕ) → key_lies area b head ≡ true → Lies area b head
unfolding key_lies
lies area b head e = let p = both_true _ _ e in record { head_inside = leb-true _ _ p.0; key_inside = leb-true _ _ p.1 }

-- asked by differences
pub lies_not : (area : List ℕ) (b : Builder) (head : ℕ) → b.used < head + head_len → false ≡ key_lies area b head
unfolding key_lies
lies_not area b head h = both_no _ _ (lt-leb (head + head_len) b.used h)

pub lies_if : (area : List ℕ) (b : Builder) (head len : ℕ) → head + head_len ≤ b.used → len ≡ area_key_len area head → leb len (b.used - head_len - head) ≡ key_lies area b head
unfolding key_lies
lies_if area b head len h e =
    both_yes _ _ _ (le-leb (head + head_len) b.used h)
    (same_truth _ _
    (λ t. let l = leb-true len (b.used - head_len - head) t in le-leb (head + head_len + area_key_len area head) b.used (omega arith))
    (λ t. let l = leb-true (head + head_len + area_key_len area head) b.used t in le-leb len (b.used - head_len - head) (omega arith)))

-- with a key, the last key and the anchor lie in the used area, and the last key has few versions
pub record Keyed (area : List ℕ) (b : Builder) : Type 0 where
  pub last : Lies area b b.last_key
  pub anchor : Lies area b b.anchor
  pub few : area_versions area b.last_key ≤ 2 ^ 30

pub record Stands (area : List ℕ) (b : Builder) : Type 0 where
  pub inside : b.used ≤ length area
  pub totals : Small b
  pub keyed : 0 < b.totals.keys → Keyed area b

pub stood : (area : List ℕ) (b : Builder) → standing area b ≡ true → Stands area b
unfolding standing
stood area b e =
    let e₁ = both_true _ _ e in
    let e₂ = both_true _ _ e₁.1 in
    record {
      inside = leb-true _ _ e₁.0;
      totals = small b e₂.0;
      keyed = λ h. let f = both_true _ _ (either_second _ _ e₂.1 (ne_eqb b.totals.keys 0 (λ z. omega arith))) in
          let g = both_true _ _ f.1 in
          record { last = lies area b b.last_key f.0; anchor = lies area b b.anchor g.0; few = leb-true _ _ g.1 };
    }

-- such a record can count one more entry
pub countable : (area : List ℕ) (b : Builder) → standing area b ≡ true → Countable area b
countable area b e =
    let s = stood area b e in
    record {
      inside = s.inside;
      keys = s.totals.keys;
      versions = s.totals.versions;
      suffix_bytes = s.totals.suffix_bytes;
      used = s.totals.used;
      anchor = λ h. (s.keyed h).anchor.key_inside;
    }

-- a key that is no anchor comes after another
pub some_key : (n : ℕ) → (n % group ≡ 0 → ⊥) → 0 < n
some_key zero h = absurd (h refl)
some_key (suc n) h = omega arith

-- an entry that is not new has a key before it
pub follows_key : (new : Bool) (n : ℕ) → either new (ltb 0 n) ≡ true → new ≡ false → 0 < n
follows_key new n e f = ltb-true 0 n (either_second new (ltb 0 n) e f)

-- the key at the anchor, read as a part that ends behind it
pub anchor_part : (area : List ℕ) (head len n : ℕ) → len ≡ area_key_len area head → n ≡ len → take n (drop (head + head_len) area) ≡ area_key area head
unfolding area_key
anchor_part area head len n e f = ap (λ (k : ℕ). take k (drop (head + head_len) area)) (f ∙ e)

pub shared_le : (area : List ℕ) (b : Builder) (key : List ℕ) → shared_with area b key ≤ length key
unfolding shared_with
shared_le area b key = if_case (λ n. n ≤ length key) (anchor_next b) 0 _ (λ _. omega arith) (λ _. common_prefix_len-right (area_key area b.anchor) key)

-- what counts for a new key alone
pub new_le : (new : Bool) (n : ℕ) → (when new then n else 0) ≤ n
new_le new n = if_case (λ k. k ≤ n) new n 0 (λ _. omega arith) (λ _. omega arith)
