-- A key by the numbers that code reads of its record, each at its place.
-- Assumes nothing.
use mathlib.Core.Path.{◌≡◌, refl, sym, ◌∙◌, subst}
use mathlib.Core.List.{List, []}
use Prim.Native.Nat.{ℕ, ◌+◌, ◌^◌, ◌<◌, ◌≤◌}
use native.Mathlib.Omega.{arith}
use lib.ListN.{length}
use Rattle.std.specs.Prelude.{Some, None, Result, Ok, Option}
use Rattle.refusal.specs.declared.Refusal.{Refusal}
use Rattle.num.specs.Number.{Bytes, le_at}
use Rattle.encoding.specs.Encoding.{key_header_len_of}
use Rattle.encoding.proofs.Widths.{widths_le}
use Rattle.header.specs.declared.Opened.{Opened}
use Rattle.spans.specs.Span.{Pair, value_end, value_at, first_within, values_from}
use Rattle.spans.specs.Internal.{Spannable, placed_of, PlaceTells}
use Rattle.spans.proofs.Values.{met_inside, placed_some, placed_none, told_placed}
use Rattle.spans.proofs.Keys.{one_key}
use Rattle.wholekeys.proofs.Records.{record_bounds, found_is}
use Rattle.onekey.specs.Internal.{KeyPut}

module _ (s : List ℕ) (o : Opened) (limit at : ℕ) {header suffix versions : ℕ} (eh : header ≡ key_header_len_of o.encoding)
    (ex : suffix ≡ le_at s (o.arena + at + (o.encoding.address + o.encoding.key)) o.encoding.key)
    (ev : versions ≡ le_at s (o.arena + at + (o.encoding.address + o.encoding.key) + o.encoding.key) o.encoding.count) where
  -- where its first version stands
  abbrev from : ℕ
  from = o.arena + at + (header + suffix)

  -- what is read of that version ends below 2^37
  pub version_small : Bytes s → Spannable o → at < 2 ^ 32 → from + value_end o.encoding + 8 < 2 ^ 37
  unfolding key_header_len_of value_end
  version_small b p l =
      let w = widths_le o.encoding p.widths in
      let a = p.arena in
      let x = (record_bounds s o limit at eh refl ex ev b p.widths).0 in
      omega arith

  -- where its header is inside, the key's answer is that of its versions
  pub versions_answer : o.arena + at + header ≤ length s → values_from 1 s o limit at ≡ first_within versions s o from limit
  versions_answer l = one_key s o limit at ∙ sym (found_is s o limit at eh refl ex ev l)

-- the place of the first version within a limit, where each had a word behind what a span reads of it, tells the answer
module _ {r : Result (Option ℕ) Refusal} (n : ℕ) (s : List ℕ) (o : Opened) (room pos limit : ℕ) (e : r ≡ placed_of n s o room pos limit)
    (m : room ≡ value_end o.encoding + 8) where
  told : PlaceTells r s o room (first_within n s o pos limit)
  unfolding value_end
  told = told_placed n s o room pos limit e (omega arith)

  pub at_told : {at : ℕ} → r ≡ Ok (Some at) → (first_within n s o pos limit ≡ Ok (value_at s o at)) × (at + value_end o.encoding + 8 ≤ length s)
  at_told {at} is =
      let p = placed_some s o room (first_within n s o pos limit) told is in
      (p.0 ∙ met_inside s o at 0 (omega (arith, p.1)), omega (arith, p.1))

  pub absent_told : r ≡ Ok None → first_within n s o pos limit ≡ Ok []
  absent_told is = placed_none s o room (first_within n s o pos limit) told is

-- what was put of one answer was put of the same
pub put_over : {a x : Result (List Pair) Refusal} → a ≡ x → (v : Option ℕ) (before after : List ℕ) → KeyPut v a before after → KeyPut v x before after
put_over e v before after put = subst (λ (y : Result (List Pair) Refusal). KeyPut v y before after) e put
