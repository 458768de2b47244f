-- The tables and the scan part: what is written from the lists in the scratch is what the section is made of.
-- Assumes nothing.
use mathlib.Core.Path.{◌≡◌, refl, sym, ap, ap₂, ◌∙◌, subst⁻¹}
use mathlib.Core.List.{List, ◌++◌, append_assoc}
use Prim.Native.Nat.{ℕ, zero, suc, ◌+◌, ◌*◌, ◌-◌, ◌/◌, ◌<◌, ◌≤◌}
use native.Mathlib.Nat.{not-suc-le-zero, zero-add}
use native.Mathlib.Omega.{arith}
use lib.ListN.{length, get_or, take, drop, length-append, length-drop}
use lib.Seq.{sets, length-sets}
use borrow.Rule.Slice.PartMut.{same_len_mid}
use Rattle.num.proofs.Stores.{behind, tail_of, tail_put, tail_all, sets_tail}
use Rattle.num.specs.Number.{le_bytes}
use Rattle.num.proofs.Number.{length_le_bytes}
use Rattle.num.proofs.Lists.{part_length, part_at, part_part}
use Rattle.encoding.specs.declared.Encoding.{Encoding}
use Rattle.encoding.specs.Encoding.{magic, header_len, buckets_of, arena_start_of}
use Rattle.construction.specs.Scratch.{indices_at, placement_in, scratch_defs}
use Rattle.written.specs.Joined.{fields_bytes}
use Rattle.written.specs.Arena.{KeyGroup}
use Rattle.written.specs.Section.{group_prefixes, pilots_bytes, scan_part_bytes, prologue_fields}
use Rattle.written.proofs.Stands.{even_length, fields_length}
use Rattle.writer.specs.Write.{groups_in}
use Rattle.measuring.proofs.Groups.{count_in}
use Rattle.tables.specs.Internal.{listed_slot, listed_slots, listed_scan, SlotsRoom}
use Rattle.tables.proofs.Parts.{slot_size, scan_listed}
use Rattle.sections.specs.Internal.{Noted, addresses_in, tables_bytes, TablesAsked, ScanAsked}

-- ---- lengths

head_long : (e : Encoding) (seed least n prefix : ℕ) → length (magic ++ fields_bytes (prologue_fields e seed least n prefix)) ≡ header_len
unfolding magic prologue_fields
head_long e seed least n prefix = omega (arith, length-append magic (fields_bytes (prologue_fields e seed least n prefix)), fields_length (prologue_fields e seed least n prefix))

pilots_long : (pilot : ℕ → ℕ) (buckets : ℕ) → length (pilots_bytes pilot buckets) ≡ 4 * buckets
unfolding pilots_bytes
pilots_long pilot buckets = even_length (λ b. le_bytes 4 (pilot b)) 4 buckets (λ b _. length_le_bytes 4 (pilot b)) ∙ omega arith

slots_long : (address : ℕ) (slots addresses hashes : List ℕ) → length (listed_slots address slots addresses hashes) ≡ length slots * (address + 2)
unfolding listed_slots
slots_long address slots addresses hashes =
    even_length (λ m. fields_bytes (listed_slot address addresses hashes (get_or slots m 0))) (address + 2) (length slots) (λ m _. slot_size address addresses hashes (get_or slots m 0))

-- ---- what stands in the scratch

module _ (n : ℕ) (s : List ℕ) (h : 6 * n + 8 ≤ length s) where
  pilots_count : length (placement_in n s).pilots ≡ buckets_of n
  unfolding scratch_defs buckets_of
  pilots_count = part_length s (2 * ((n + 1) / 2) + 5 + 2 * n) ((n + 1) / 2) (omega arith)

  pub slots_count : length (placement_in n s).slots ≡ n
  unfolding scratch_defs buckets_of
  slots_count = part_length s (3 * ((n + 1) / 2) + 5 + 2 * n) n (omega arith)

  pub addresses_count : length (addresses_in n s) ≡ n
  unfolding addresses_in scratch_defs buckets_of
  addresses_count = part_length s (3 * ((n + 1) / 2) + 5 + 3 * n) n (omega arith)

  pub tables_long : (e : Encoding) (seed least prefix : ℕ) (hashes : List ℕ) → length (tables_bytes e seed least n prefix hashes s) ≡ arena_start_of n e.address
  unfolding tables_bytes arena_start_of
  tables_long e seed least prefix hashes =
      let hd = magic ++ fields_bytes (prologue_fields e seed least n prefix) in
      let p = pilots_bytes (λ x. get_or (placement_in n s).pilots x 0) (buckets_of n) in
      let l = listed_slots e.address (placement_in n s).slots (addresses_in n s) hashes in
      omega (
        arith,
        length-append hd (p ++ l),
        length-append p l,
        head_long e seed least n prefix,
        pilots_long (λ x. get_or (placement_in n s).pilots x 0) (buckets_of n),
        slots_long e.address (placement_in n s).slots (addresses_in n s) hashes,
        ap (λ (k : ℕ). k * (e.address + 2)) slots_count,
      )

  -- the parts as they are lent, by the place of the addresses
  module _ (i : ℕ) (p : i ≡ indices_at n) where
    pilots-lent : take (i - n - (i - n - (n + 1) / 2)) (drop (i - n - (n + 1) / 2) s) ≡ (placement_in n s).pilots
    unfolding scratch_defs buckets_of
    pilots-lent =
        let a : i - n - (i - n - (n + 1) / 2) ≡ (n + 1) / 2 = omega arith in
        let b : i - n - (n + 1) / 2 ≡ 2 * ((n + 1) / 2) + 5 + 2 * n = omega arith in
        ap₂ (λ (k m : ℕ). take k (drop m s)) a b

    slots_lent : take (i - (i - n)) (drop (i - n) s) ≡ (placement_in n s).slots
    unfolding scratch_defs buckets_of
    slots_lent =
        let a : i - (i - n) ≡ n = omega arith in
        let b : i - n ≡ 3 * ((n + 1) / 2) + 5 + 2 * n = omega arith in
        ap₂ (λ (k m : ℕ). take k (drop m s)) a b

    pub addresses_lent : take (i + n - i) (drop i s) ≡ addresses_in n s
    unfolding addresses_in
    addresses_lent =
        let a : i + n - i ≡ n = omega arith in
        ap₂ (λ (k m : ℕ). take k (drop m s)) a p

module _ {e : Encoding} {n : ℕ} {hashes s output : List ℕ} (a : TablesAsked e n hashes s output) (i : ℕ) (p : i ≡ indices_at n) where
  -- what the slots' writer is lent
  pub slots_room : (x l₂ : List ℕ) → length x ≡ length output → length l₂ ≡ length (tail_of 64 x)
      → SlotsRoom e.address (take (i - (i - n)) (drop (i - n) s)) (take (i + n - i) (drop i s)) hashes (tail_of (64 + 4 * ((n + 1) / 2)) (tail_put 64 x l₂))
  unfolding arena_start_of buckets_of
  slots_room x l₂ k l =
      let y = tail_put 64 x l₂ in
      let q : length y ≡ length output = same_len_mid 64 (length x - 64) x l₂ l ∙ k in
      subst⁻¹ (λ (slots : List ℕ). SlotsRoom e.address slots (take (i + n - i) (drop i s)) hashes (tail_of (64 + 4 * ((n + 1) / 2)) y)) (slots_lent n s a.places i p)
      (subst⁻¹ (λ (addresses : List ℕ). SlotsRoom e.address (placement_in n s).slots addresses hashes (tail_of (64 + 4 * ((n + 1) / 2)) y)) (addresses_lent n s a.places i p)
      (let c = slots_count n s a.places in
      record {
        addressed = λ m h. let k = a.slots m (omega arith) in omega (arith, addresses_count n s a.places);
        hashed = λ m h. let k = a.slots m (omega arith) in omega (arith, a.hashed);
        room = omega (arith, ap (λ (k : ℕ). k * (e.address + 2)) c, a.room, ap length (tail_all (64 + 4 * ((n + 1) / 2)) y), length-drop (64 + 4 * ((n + 1) / 2)) y);
      }))

  pub tables_kept : (at : ℕ) (x l₂ l₃ : List ℕ) → length x ≡ length output → length l₂ ≡ length (tail_of 64 x) → length l₃ ≡ length (tail_of at (tail_put 64 x l₂))
      → length (tail_put at (tail_put 64 x l₂) l₃) ≡ length output
  tables_kept at x l₂ l₃ k l m = same_len_mid at (length (tail_put 64 x l₂) - at) (tail_put 64 x l₂) l₃ m ∙ same_len_mid 64 (length x - 64) x l₂ l ∙ k

  -- header, pilots and slots, each behind the one before it
  pub tables_put : (seed least prefix : ℕ) (x l₂ l₃ : List ℕ) → x ≡ sets output 0 (magic ++ fields_bytes (prologue_fields e seed least n prefix))
      → l₂
      ≡ sets (tail_of 64 x) 0
      (pilots_bytes (λ b. get_or (take (i - n - (i - n - (n + 1) / 2)) (drop (i - n - (n + 1) / 2) s)) b 0) (length (take (i - n - (i - n - (n + 1) / 2)) (drop (i - n - (n + 1) / 2) s))))
      → l₃
      ≡ sets (tail_of (64 + 4 * ((n + 1) / 2)) (tail_put 64 x l₂)) 0
      (listed_slots e.address (take (i - (i - n)) (drop (i - n) s)) (take (i + n - i) (drop i s)) hashes)
      → tail_put (64 + 4 * ((n + 1) / 2)) (tail_put 64 x l₂) l₃ ≡ sets output 0 (tables_bytes e seed least n prefix hashes s)
  unfolding tables_bytes arena_start_of buckets_of
  tables_put seed least prefix x l₂ l₃ f g h =
      let q = placement_in n s in
      let hd = magic ++ fields_bytes (prologue_fields e seed least n prefix) in
      let ps = pilots_bytes (λ b. get_or q.pilots b 0) ((n + 1) / 2) in
      let ls = listed_slots e.address q.slots (addresses_in n s) hashes in
      let at = 64 + 4 * ((n + 1) / 2) in
      let hl = head_long e seed least n prefix in
      let pl = pilots_long (λ b. get_or q.pilots b 0) ((n + 1) / 2) in
      let ll = slots_long e.address q.slots (addresses_in n s) hashes ∙ ap (λ (k : ℕ). k * (e.address + 2)) (slots_count n s a.places) in
      let m : length x ≡ length output = ap length f ∙ length-sets output 0 hd in
      let g' : l₂ ≡ sets (tail_of 64 x) 0 ps =
      g ∙ ap (λ (l : List ℕ). sets (tail_of 64 x) 0 (pilots_bytes (λ b. get_or l b 0) (length l))) (pilots-lent n s a.places i p)
      ∙ ap (λ (k : ℕ). sets (tail_of 64 x) 0 (pilots_bytes (λ b. get_or q.pilots b 0) k)) (pilots_count n s a.places) in
      let e₂ = behind output x (tail_put 64 x l₂) hd ps 0 64 (omega arith) f (sets_tail x l₂ ps 64 (omega (arith, a.room)) g') in
      let m₂ : length (tail_put 64 x l₂) ≡ length output = ap length e₂ ∙ length-sets output 0 (hd ++ ps) in
      let h' : l₃ ≡ sets (tail_of at (tail_put 64 x l₂)) 0 ls =
      h ∙ ap₂ (λ (u v : List ℕ). sets (tail_of at (tail_put 64 x l₂)) 0 (listed_slots e.address u v hashes)) (slots_lent n s a.places i p) (addresses_lent n s a.places i p) in
      behind output (tail_put 64 x l₂) (tail_put at (tail_put 64 x l₂) l₃) (hd ++ ps) ls 0 at (omega (arith, length-append hd ps)) e₂ (sets_tail (tail_put 64 x l₂) l₃ ls at (omega (arith, a.room)) h')
      ∙ ap (sets output 0) (append_assoc hd ps ls)

-- ---- behind the arena's writer

-- a part before the place is kept
kept_part : (at place m : ℕ) (before after : List ℕ) → take at after ≡ take at before → place + m ≤ at → take m (drop place after) ≡ take m (drop place before)
kept_part at place m before after e h =
    let part : (l : List ℕ) → take m (drop place (take at l)) ≡ take m (drop place l) =
    λ l. part_part l 0 at place m h ∙ ap (λ (k : ℕ). take m (drop k l)) (zero-add place) in
    sym (part after) ∙ ap (λ (l : List ℕ). take m (drop place l)) e ∙ part before

module _ (n : ℕ) (f : ℕ → ℕ) (before after : List ℕ) (w : Noted (indices_at n) n f before after) where
  -- pilots and slots are kept
  pub placement_kept : placement_in n after ≡ placement_in n before
  unfolding scratch_defs buckets_of
  placement_kept =
      ap₂ (λ (p q : List ℕ). record { pilots = p; slots = q })
      (kept_part (3 * ((n + 1) / 2) + 5 + 3 * n) (2 * ((n + 1) / 2) + 5 + 2 * n) ((n + 1) / 2) before after w.kept (omega arith))
      (kept_part (3 * ((n + 1) / 2) + 5 + 3 * n) (3 * ((n + 1) / 2) + 5 + 2 * n) n before after w.kept (omega arith))

  pub address_noted : (i : ℕ) → i < n → get_or (addresses_in n after) i 0 ≡ f i
  unfolding addresses_in
  address_noted i h = part_at after (indices_at n) n i 0 h ∙ w.numbers.value i (omega arith) h

-- ---- the scan part

pub scan_none : (output : List ℕ) (e : Encoding) (gs : List KeyGroup) (prefix : ℕ) → prefix ≤ 0 → output ≡ sets output 0 (scan_part_bytes e gs prefix)
unfolding scan_part_bytes
scan_none output e gs zero h = refl
scan_none output e gs (suc p) h = absurd (not-suc-le-zero h)

pub scan_put : {area : List ℕ} {count : ℕ} {e : Encoding} {prefix : ℕ} {addresses output : List ℕ} → ScanAsked area count e prefix addresses output → (after : List ℕ) (prefixes : ℕ) → 0 < prefix
    → prefixes ≡ group_prefixes prefix (groups_in area count) count → after ≡ sets output 0 (listed_scan e.address addresses prefix prefixes)
    → after ≡ sets output 0 (scan_part_bytes e (groups_in area count) prefix)
scan_put {area = area} {count = count} {e = e} {prefix = prefix} {addresses = addresses} {output = output} a after prefixes l p q =
    let k = count_in area count in
    q ∙ ap (sets output 0) (scan_listed e (groups_in area count) addresses a.addressed (a.each ∙ sym k) prefix prefixes l (p ∙ ap (group_prefixes prefix (groups_in area count)) (sym k)))
