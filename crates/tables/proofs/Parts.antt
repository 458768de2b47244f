-- What is written from lists that are those of key groups is what the section is made of.
-- Assumes nothing.
use mathlib.Core.Path.{◌≡◌, sym, ap, ap₂, ◌∙◌}
use mathlib.Core.Bool.{Bool}
use mathlib.Core.List.{List, [], ◌∷◌, ◌++◌, append_assoc}
use Prim.Native.Nat.{ℕ, zero, suc, ◌+◌, ◌*◌, ◌^◌, ◌<◌, ◌≤◌}
use native.Mathlib.Nat.{not-suc-le-zero, add-zero, mul-le-mul}
use native.Mathlib.Omega.{arith}
use lib.Dec.{ltb}
use lib.ListN.{length, get_or, length-append}
use lib.Seq.{sets}
use borrow.Author.Tests.{lt-ltb}
use Rattle.num.specs.Choice.{when◌then◌else◌}
use Rattle.num.specs.Number.{le_bytes}
use Rattle.num.proofs.Number.{length_le_bytes}
use Rattle.point.specs.Hash.{fingerprint_of}
use Rattle.encoding.specs.declared.Encoding.{Encoding}
use Rattle.encoding.specs.Encoding.{Widths, magic, scan_magic, scan_header_len, stride}
use Rattle.encoding.proofs.Widths.{widths_le}
use Rattle.num.proofs.Stores.{behind, tail_of, tail_put, sets_tail}
use Rattle.written.specs.Joined.{joined, fields_bytes}
use Rattle.written.specs.Joined.Field.{field}
use Rattle.written.specs.Arena.{KeyGroup, group_address}
use Rattle.written.specs.Section.{slot_fields, slots_bytes, group_prefixes, scan_addresses_of, scan_part_bytes, flags_for, prologue_fields, section_defs}
use Rattle.written.proofs.Stands.{joined_same, even_length, fields_length}
use Rattle.tables.specs.Internal.{count_fields, width_fields, numbers_bytes, listed_slot, listed_slots, listed_scan_fields, listed_scan, Addressed, HashedUnder, SlotsFilled, tables_defs}
use Rattle.tables.proofs.Stores.{fields_append}

-- the flags are one for the checksums and one for the scan part
pub flags_sum : (e : Encoding) (prefix : ℕ) → flags_for e prefix ≡ (when e.checksum then 1 else 0) + (when ltb 0 prefix then 2 else 0)
unfolding section_defs when◌then◌else◌
flags_sum e zero = sym (add-zero (when e.checksum then 1 else 0))
flags_sum e (suc p) = ap (λ (b : Bool). (when e.checksum then 1 else 0) + (when b then 2 else 0)) (sym (lt-ltb 0 (suc p) (omega arith)))

-- the slots of few keys are few bytes
pub slots_few : (e : Encoding) (n : ℕ) → Widths e → n ≤ 2 ^ 20 → n * (e.address + 2) ≤ 10485760
slots_few e n w h =
    let a = (widths_le e w).0 in
    let v : e.address + 2 ≤ 10 = omega arith in
    let m : n * (e.address + 2) ≤ 2 ^ 20 * 10 = mul-le-mul h v in
    omega arith

-- the header's halves are the header
pub halves : (x₀ x₁ x₂ : List ℕ) (e : Encoding) (seed least n prefix : ℕ) → x₁ ≡ sets x₀ 0 (magic ++ fields_bytes (count_fields e seed n))
    → x₂ ≡ sets x₁ 32 (fields_bytes (width_fields e least prefix)) → x₂ ≡ sets x₀ 0 (magic ++ fields_bytes (prologue_fields e seed least n prefix))
unfolding magic tables_defs section_defs
halves x₀ x₁ x₂ e seed least n prefix p q =
    let a = magic ++ fields_bytes (count_fields e seed n) in
    let b = fields_bytes (width_fields e least prefix) in
    let k : length a ≡ 32 = omega (arith, length-append magic (fields_bytes (count_fields e seed n)), fields_length (count_fields e seed n)) in
    behind x₀ x₁ x₂ a b 0 32 (omega arith) p q
    ∙ ap (sets x₀ 0) (append_assoc magic (fields_bytes (count_fields e seed n)) b ∙ ap (λ (l : List ℕ). magic ++ l) (sym (fields_append (count_fields e seed n) (width_fields e least prefix))))

numbers_length : (width : ℕ) (numbers : List ℕ) → length (numbers_bytes width numbers) ≡ length numbers * width
unfolding numbers_bytes
numbers_length width numbers = even_length (λ i. le_bytes width (get_or numbers i 0)) width (length numbers) (λ i _. length_le_bytes width (get_or numbers i 0))

-- the parts of the scan part are the scan part; the addresses are stored in the part behind its head
pub scan_written : (x₀ x₁ y x₃ addresses : List ℕ) (address prefix prefixes : ℕ) → 24 + length addresses * address + 8 ≤ length x₁
    → x₁ ≡ sets x₀ 0 (scan_magic ++ fields_bytes (listed_scan_fields prefix prefixes))
    → y ≡ sets (tail_of 24 x₁) 0 (numbers_bytes address addresses) → x₃ ≡ sets (tail_put 24 x₁ y) (24 + length addresses * address) (le_bytes 8 (24 + length addresses * address))
    → x₃ ≡ sets x₀ 0 (listed_scan address addresses prefix prefixes)
unfolding scan_magic tables_defs
scan_written x₀ x₁ y x₃ addresses address prefix prefixes h p f r =
    let fs = fields_bytes (listed_scan_fields prefix prefixes) in
    let b = numbers_bytes address addresses in
    let c = le_bytes 8 (24 + length addresses * address) in
    let k : length (scan_magic ++ fs) ≡ 24 = omega (arith, length-append scan_magic fs, fields_length (listed_scan_fields prefix prefixes)) in
    let n : length b ≡ length addresses * address = numbers_length address addresses in
    let q = sets_tail x₁ y b 24 (omega arith) f in
    behind x₀ x₁ x₃ (scan_magic ++ fs) (b ++ c) 0 24 (omega arith) p (behind x₁ (tail_put 24 x₁ y) x₃ b c 24 (24 + length addresses * address) (omega arith) q r)
    ∙ ap (sets x₀ 0) (append_assoc scan_magic fs (b ++ c))

pub slot_size : (address : ℕ) (addresses hashes : List ℕ) (i : ℕ) → length (fields_bytes (listed_slot address addresses hashes i)) ≡ address + 2
unfolding listed_slot
slot_size address addresses hashes i = fields_length (listed_slot address addresses hashes i)

module _ (e : Encoding) (gs : List KeyGroup) (addresses : List ℕ) (a : Addressed e gs addresses) where
  -- the slots
  pub slots_listed : (seed : ℕ) (slots hashes : List ℕ) → HashedUnder seed gs hashes → SlotsFilled gs slots
      → listed_slots e.address slots addresses hashes ≡ slots_bytes e seed gs (λ m. get_or slots m 0)
  unfolding tables_defs section_defs
  slots_listed seed slots hashes h f =
      joined_same (λ m. fields_bytes (listed_slot e.address addresses hashes (get_or slots m 0))) (λ m. fields_bytes (slot_fields e seed gs (get_or slots m 0))) (length slots)
      (λ m l. let k = f.key m l in ap₂ (λ (x y : ℕ). fields_bytes (field e.address x ∷ field 2 (fingerprint_of y) ∷ [])) (a.address (get_or slots m 0) k) (h.hash (get_or slots m 0) k))
      ∙ ap (joined (λ m. fields_bytes (slot_fields e seed gs (get_or slots m 0)))) f.count

  module _ (n : length addresses ≡ length gs) where
    addresses-listed : numbers_bytes e.address addresses ≡ scan_addresses_of e gs
    unfolding tables_defs section_defs
    addresses-listed =
        joined_same (λ i. le_bytes e.address (get_or addresses i 0)) (λ i. le_bytes e.address (group_address e gs i)) (length addresses)
        (λ i l. ap (le_bytes e.address) (a.address i (omega arith)))
        ∙ ap (joined (λ i. le_bytes e.address (group_address e gs i))) n

    -- the scan part
    pub scan_listed : (prefix prefixes : ℕ) → 0 < prefix → prefixes ≡ group_prefixes prefix gs (length gs)
        → listed_scan e.address addresses prefix prefixes ≡ scan_part_bytes e gs prefix
    unfolding tables_defs section_defs
    scan_listed zero prefixes l p = absurd (not-suc-le-zero l)
    scan_listed (suc k) prefixes l p =
        let g : ℕ → List ℕ → ℕ → List ℕ = λ (c : ℕ) (l : List ℕ) (m : ℕ). scan_magic ++ (fields_bytes (field 4 (suc k) ∷ field 4 stride ∷ field 8 c ∷ []) ++ (l ++ le_bytes 8 (scan_header_len + m * e.address))) in
        ap (λ (c : ℕ). g c (numbers_bytes e.address addresses) (length addresses)) p
        ∙ ap (λ (l : List ℕ). g (group_prefixes (suc k) gs (length gs)) l (length addresses)) addresses-listed
        ∙ ap (g (group_prefixes (suc k) gs (length gs)) (scan_addresses_of e gs)) n
