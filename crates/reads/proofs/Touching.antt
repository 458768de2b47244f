-- What a lookup touches decides what it gives: 25 if a touch is not good, and otherwise what they end with.
-- Assumes nothing.
use mathlib.Core.Path.{◌≡◌, refl, sym, ap, ◌∙◌}
use mathlib.Core.Bool.{Bool, true, false}
use mathlib.Core.List.{List}
use mathlib.Core.Option.{none}
use Prim.Native.Nat.{ℕ, zero, suc, ◌+◌, ◌*◌, ◌%◌, ◌^◌}
use native.Mathlib.Omega.{arith}
use lib.Dec.{leb, ltb, eqb}
use lib.ListN.{length}
use borrow.Author.Tests.{leb-false, le-leb, lt-leb, ltb-true, ltb-false}
use Rattle.std.specs.Prelude.{Some, None, Ok, Err}
use Rattle.num.specs.Choice.{when◌then◌else◌, both, either}
use Rattle.num.specs.Number.{le_at}
use Rattle.num.proofs.Choice.{false_true, if_case, if_true, if_false, second_either}
use Rattle.refusal.specs.declared.Refusal.TheVariants as refusal
use Rattle.point.specs.Hash.{hash_value, bucket_of, position_of, is_direct, direct_slot, slot_of, fingerprint_of}
use Rattle.point.proofs.Slots.{slot_direct, slot_position}
use Rattle.encoding.specs.Encoding.{header_len, key_header_len_of, version_len_of}
use Rattle.header.specs.declared.Opened.{Opened}
use Rattle.opened.specs.Opened.{is_record_of}
use Rattle.arena.specs.Key.{key_header_at}
use Rattle.versions.specs.Version.{stored_seq, version_defs}
use Rattle.locator.specs.Locator.{Located}
use Rattle.locator.specs.Locator.{readable, locator_at, versions_from}
use Rattle.lookup.specs.Lookup.{unpacked, pilot_len, pilot_offset, pilot_of, slot_len, slot_offset, key_record_of, key_record_at, slot_read_of, hash_read, locate_of}
use Rattle.lookup.proofs.Places.{unpacked_low, pilot_packed, pilot_plain, plain_slot}
use Rattle.reads.specs.Reads.{Touched, Good, number_at, bytes_at, sum_of, ◌>>=◌, locator_of, version_touched, versions_touched, key_touched, address_touched, slot_touched, plain_touched, packed_touched, lookup_touched}
use Rattle.reads.proofs.Judged.{located, Judged, judged_same, judged_end, judged_test, first_good, judged_good, judged_asked, judged_read}

-- two tests asked at once
both_asked : (a b : Bool) (r : Located) → elim (both a b) [ false ↦ Err refusal.Read | true ↦ r ] ≡ (when a then (when b then r else Err refusal.Read) else Err refusal.Read)
unfolding both when◌then◌else◌
both_asked true true r = refl
both_asked true false r = refl
both_asked false b r = refl

-- a test with two ways on
judged_either : (s : List ℕ) (b : Bool) (t u : Touched) (r q : Located) → Judged s t r → Judged s u q
    → Judged s (elim b [ true ↦ t | false ↦ u ]) (elim b [ true ↦ r | false ↦ q ])
judged_either s true t u r q j k = j
judged_either s false t u r q j k = k

-- no bytes are the number 0
no_bytes : (s : List ℕ) (at : ℕ) (b : Bool) → (when b then le_at s at 4 else 0) ≡ le_at s at (when b then 4 else 0)
unfolding when◌then◌else◌ le_at
no_bytes s at true = refl
no_bytes s at false = refl

-- a packed pilot names the slot that it named with bit 31
packed_slot : (h p n : ℕ) → slot_of h (unpacked p) n ≡ (when leb (2 ^ 23) p then p % 2 ^ 23 else position_of h p n)
unfolding is_direct direct_slot unpacked
packed_slot h p n = go (leb (2 ^ 23) p) refl
  where
    go : (b : Bool) → leb (2 ^ 23) p ≡ b → slot_of h (unpacked p) n ≡ (when leb (2 ^ 23) p then p % 2 ^ 23 else position_of h p n)
    go true e =
        let u : unpacked p ≡ p % 2 ^ 23 + 2 ^ 31 = ap (λ (k : ℕ). p % 2 ^ 23 + k) (if_true _ _ _ e) in
        slot_direct h (unpacked p) n (le-leb (2 ^ 31) (unpacked p) (omega arith)) ∙ let d : direct_slot (unpacked p) ≡ p % 2 ^ 23 = omega arith in d ∙ sym (if_true _ _ _ e)
    go false e =
        let l = leb-false (2 ^ 23) p e in
        let u = unpacked_low p l in
        slot_position h (unpacked p) n (lt-leb (2 ^ 31) (unpacked p) (omega arith)) ∙ ap (λ (k : ℕ). position_of h k n) (sym u) ∙ sym (if_false _ _ _ e)

module _ (s : List ℕ) (o : Opened) (key : List ℕ) (limit : ℕ) where
  open o use {encoding as e}

  -- the rest of a version
  version_judged : (at : ℕ) → Judged s (version_touched s o key limit at (stored_seq s o at)) (when readable s at (version_len_of e) then Ok (Some (locator_at s o at)) else Err refusal.Read)
  unfolding version_touched number_at readable Good version_len_of locator_at locator_of located version_defs
  version_judged at =
      judged_good s _ _ (λ all. let g = first_good s _ _ all in omega arith)
      (judged_good s _ _ (λ all. let g = first_good s _ _ all in omega arith)
      (judged_read s _ _ (at + version_len_of e) _ _ (omega arith)
      (λ _. judged_end s _ (rw (no_bytes s (at + e.seq + e.value + e.address) e.checksum)))))

  -- the versions
  versions_judged : (count at : ℕ) → Judged s (versions_touched s o key limit count at) (versions_from count s o at limit)
  unfolding versions_touched versions_from number_at sum_of readable stored_seq Good located
  versions_judged zero at = judged_end s none refl
  versions_judged (suc count) at =
      judged_same s (both_asked (leb (at + e.seq) (length s)) (ltb (stored_seq s o at) (2 ^ 64)) _)
      (judged_read s _ _ (at + e.seq) _ _ refl
      (λ _. judged_asked s _ _ (ltb (stored_seq s o at) (2 ^ 64)) _
      (λ p. let l = ltb-true (stored_seq s o at) (2 ^ 64) p in omega arith)
      (λ p g. let l = ltb-false (stored_seq s o at) (2 ^ 64) p in omega arith)
      (λ _. judged_either s (leb (stored_seq s o at) limit) _ _ _ _ (version_judged at) (versions_judged count (at + version_len_of e)))))

  -- the key record
  key_judged : (at : ℕ) → Judged s (key_touched s o key limit at) (key_record_at s o key limit at)
  unfolding key_touched key_record_at key_record_of key_header_at key_header_len_of number_at bytes_at readable Good
  key_judged at =
      judged_good s _ _ (λ all. let g = first_good s _ _ all in omega arith)
      (judged_good s _ _ (λ all. let g = first_good s _ _ all in omega arith)
      (judged_good s _ _ (λ all. let g = first_good s _ _ all in omega arith)
      (judged_read s _ _ (at + key_header_len_of e) _ _ (omega arith)
      (λ _. judged_test s refl
      (judged_read s _ _ _ _ _ refl
      (λ _. judged_test s refl
      (judged_read s _ _ _ _ _ refl
      (λ _. judged_test s refl (versions_judged _ _)))))))))

  module _ (h : ℕ) where
    -- the pilot, in either form, with the slots that follow
    hash-judged : (size slot : ℕ) (index : ℕ → ℕ) (next : ℕ → Touched) → pilot_len o ≡ size → slot_len o ≡ slot
        → slot_of h (pilot_of s o h) o.count ≡ index (le_at s (header_len + size * bucket_of h o.buckets) size)
        → ((at : ℕ) → Judged s (next at) (slot_read_of s o key limit h at))
        → Judged s (◌>>=◌ (number_at s (header_len + size * bucket_of h o.buckets) size) (λ p. next (header_len + size * o.buckets + index p * slot))) (hash_read s o key limit h)
    unfolding hash_read pilot_offset slot_offset readable number_at
    hash-judged size slot index next p q r j =
        let a = le_at s (header_len + size * bucket_of h o.buckets) size in
        let at : slot_offset s o h ≡ header_len + size * o.buckets + index a * slot = cc in
        judged_read s _ _ _ _ _ (cc) (λ _. judged_same s (ap (slot_read_of s o key limit h) at) (j _))

    -- the packed form
    module _ (p : o.packed ≡ true) where
      address-judged : (at : ℕ) → Judged s (address_touched s o key limit at) (slot_read_of s o key limit h at)
      unfolding address_touched slot_read_of readable number_at slot_len
      address-judged at =
          judged_read s _ _ (at + slot_len o) _ _ (ap (λ (n : ℕ). at + n) (sym (if_true _ _ _ p)))
          (λ _. judged_same s (if_true _ (key_record_at s o key limit _) (Ok None) (second_either _ _ (λ f. false_true (sym f ∙ p)))) (key_judged _))

      packed-judged : Judged s (packed_touched s o key limit h) (hash_read s o key limit h)
      unfolding packed_touched pilot_len slot_len
      packed-judged =
          hash-judged 3 e.address (λ n. when leb (2 ^ 23) n then n % 2 ^ 23 else position_of h n o.count) (address_touched s o key limit)
          (if_true _ _ _ p) (if_true _ _ _ p)
          (ap (λ (n : ℕ). slot_of h n o.count) (sym (pilot_packed s o h _ refl p refl)) ∙ packed_slot h _ o.count) address-judged

    -- the plain form
    module _ (p : o.packed ≡ false) where
      slot-judged : (at : ℕ) → Judged s (slot_touched s o key limit h at) (slot_read_of s o key limit h at)
      unfolding slot_touched address_touched slot_read_of readable number_at Good either
      slot-judged at =
          let n = plain_slot o p in
          judged_read s _ _ (at + slot_len o) _ _ (omega arith)
          (λ l. judged_test s (ap (λ (b : Bool). either b (eqb (le_at s (at + e.address) 2) (fingerprint_of h))) p)
          (judged_good s (number_at s at e.address) _ (λ _. omega arith) (key_judged _)))

      plain-judged : Judged s (plain_touched s o key limit h) (hash_read s o key limit h)
      unfolding plain_touched pilot_len
      plain-judged =
          hash-judged 4 (e.address + 2) (λ n. slot_of h n o.count) (slot_touched s o key limit h) (if_false _ _ _ p) (plain_slot o p)
          (ap (λ (n : ℕ). slot_of h n o.count) (sym (pilot_plain s o h _ refl p refl))) slot-judged

  -- the lookup, once 24 is passed
  pub lookup_judged : is_record_of s o ≡ true → Judged s (lookup_touched s o key limit) (locate_of s o key limit)
  unfolding lookup_touched locate_of
  lookup_judged r =
      judged_same s (if_true _ _ _ r)
      (if_case (λ (t : Touched). Judged s t (hash_read s o key limit (hash_value key o.seed))) o.packed _ _ (packed-judged _) (plain-judged _))
