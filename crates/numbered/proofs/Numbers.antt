-- Every refusal of an entry gives one of the entry's own numbers, layer by layer, and no own number is 0.
-- Assumes nothing.
use mathlib.Core.Path.{◌≡◌, refl, sym, ap, ◌∙◌, subst⁻¹}
use mathlib.Core.Logic.{◌↔◌, ◌⊎◌, inl, inr, ⊎_elim}
use mathlib.Core.Bool.{Bool, true, false}
use mathlib.Core.List.{List, [], ◌∷◌, Memᴰ}
use Prim.Native.Nat.{ℕ, zero, suc, ◌+◌, ◌^◌, ◌≤◌}
use native.Mathlib.Omega.{arith}
use lib.Dec.{eqb, leb, ltb}
use lib.ListN.{length}
use borrow.Author.Tests.{eqb-true, leb-true, leb-false}
use Rattle.std.specs.Prelude.{Some, None, Result, Ok, Err}
use Rattle.num.specs.Choice.{ask◌otherwise◌then◌, both, either, one_of}
use Rattle.num.proofs.Choice.{false_true, if_case, one_of-case, second_either}
use Rattle.refusal.specs.Refusal.{refusal_number, answer_number}
use Rattle.refusal.specs.declared.Refusal.{Refusal}
use Rattle.sstable.specs.Trailer.{trailer_of}
use Rattle.block.specs.Verify.{restarts_verified, verify_of}
use Rattle.block.specs.declared.BlockMeta.{BlockMeta}
use Rattle.arena.specs.declared.Cursor.{Cursor}
use Rattle.block.specs.Walk.{Entry, WalkEnd, at_end, stopped}
use Rattle.point.specs.Hash.{hash_value}
use Rattle.encoding.specs.Encoding.{version_len_of}
use Rattle.header.specs.declared.Opened.{Opened}
use Rattle.header.specs.Header.{header_of}
use Rattle.header.proofs.Headers.{refused_number}
use Rattle.arena.specs.Key.{key_for, key_of}
use Rattle.versions.specs.Version.{stored_seq, version_for, visit_of}
use Rattle.validate.specs.Walk.{Inputs, Progress, value_of, progress_for, entry_asked, entries_from, walk_ended, records_asked}
use Rattle.opening.specs.Open.{PairsEnd, block_for, block_asked, pair_fits, pairs_from, end_for, contents_of, contents_for, trailed_header, checked_header_of, open_of}
use Rattle.packing.specs.Packing.{PackedForm, packed_as, packed_for, pack_of, pack_for, open_packed_of, packed_read}
use Rattle.locator.specs.declared.ValueLocator.{ValueLocator}
use Rattle.locator.specs.Locator.{Located, readable, versions_from}
use Rattle.lookup.specs.Lookup.{key_record_of, key_record_at, slot_read_of, hash_read, locate_of}
use Rattle.lookup.specs.Value.{value_inside_of, value_number}
use Rattle.construction.specs.Construct.{Constructed, construct_of}
use Rattle.builder.specs.declared.Builder.{Builder}
use Rattle.builder.specs.Offer.{Offer}
use Rattle.builder.specs.Record.{size_of_section}
use Rattle.builder.specs.Add.{BuilderState, add_of}
use Rattle.construction.specs.Promises.{SeedDecided}
use Rattle.construction.proofs.Promises.{seed_decided}
use Rattle.area.specs.Area.{keys_in_of}
use Rattle.writer.specs.Write.{section_for, write_of}
use Rattle.numbers.specs.Numbers.{opened_of}
use Rattle.numbers.specs.BuilderNumbers.{builder_in}
use Rattle.looks.specs.Looked.{lookup_of}
use Rattle.numbered.specs.Numbers.{OwnNumber, open_numbers, pack_numbers, lookup_numbers, value_numbers, add_numbers, size_numbers, write_numbers}
use Rattle.numbered.specs.Numbers.{OpensNumbered, PacksNumbered, LooksNumbered, ValuesNumbered, AddsNumbered, SizesNumbered, WritesNumbered}

-- the number is one of these, as a test that computes
abbrev Own : List ℕ → ℕ → Type 0
Own own n = one_of own n ≡ true

-- the answer is given, or refused with one of these numbers
abbrev Gives : {A : Type 0} → List ℕ → Result A Refusal → Type 0
Gives own (Ok a) = Unit {0}
Gives own (Err e) = Own own (refusal_number e)

-- what holds of the answer that a question's "no" gives, and of what follows its "yes", holds behind the question
asked : {A : Type 0} (P : A → Type 0) (t : Bool) (a b : A) → P a → P b → P (ask t otherwise a then b)
asked P t a b p q = if_case P t b a (λ _. q) (λ _. p)

-- and of a choice that is written out
chosen : {A : Type 0} (P : A → Type 0) (t : Bool) (a b : A) → P a → P b → P (elim t [ false ↦ a | true ↦ b ])
chosen P false a b p q = p
chosen P true a b p q = q

-- a definition that passes a refusal on and goes on from what is given refuses with one of the numbers if both do
passed_on : {A B : Type 0} (own : List ℕ) (x : Result A Refusal) (f : A → Result B Refusal) → Gives own x → ((a : A) → Gives own (f a))
    → Gives {A = B} own (elim x [ Ok a ↦ f a | Err n ↦ Err n ])
passed_on own (Ok a) f p q = q a
passed_on own (Err n) f p q = p

-- what the test finds is in the list
own_member : (own : List ℕ) (n : ℕ) → Own own n → Memᴰ n own
unfolding one_of either
own_member [] n e = false_true e
own_member (x ∷ xs) n e = go (eqb n x) refl e (own_member xs n)
  where
    go : (b : Bool) → eqb n x ≡ b → either b (one_of xs n) ≡ true → (Own xs n → Memᴰ n xs) → Memᴰ n (x ∷ xs)
    go true p q rest = Memᴰ.head (eqb-true n x p)
    go false p q rest = Memᴰ.tail (rest q)

-- a number is 0 or one of an entry's own, and 0 exactly if the entry did as it was asked
abbrev Numbered : List ℕ → ℕ → Type 0 → Type 0
Numbered own n Done = OwnNumber own n × ((n ≡ 0) ↔ Done)

-- an entry that did as it was asked gives 0
done : {Done : Type 0} (own : List ℕ) → Done → Numbered own 0 Done
unfolding OwnNumber
done own d = (inl refl, (λ _. d, λ _. refl))

-- a refusal gives one of the entry's own numbers, which is not 0
not_done : {Done : Type 0} (own : List ℕ) (n : ℕ) → one_of own 0 ≡ false → Own own n → (Done → n ≡ 0) → Numbered own n Done
unfolding OwnNumber
not_done own n z e f = (inr (own_member own n e), (λ q. false_true (sym z ∙ ap (one_of own) (sym q) ∙ e), f))

-- ---- the plain opening

-- a section is accepted, or refused with one of the numbers
abbrev Reads : Result Opened Refusal → Type 0
Reads (Ok o) = Unit {0}
Reads (Err e) = Own open_numbers (refusal_number e)

module _ (t : Inputs) (p : Progress) (e : Entry) where
  -- behind a visit the walk goes on, or refuses with one of the numbers
  abbrev Visits : Result Cursor Refusal → Type 0
  Visits v = Gives open_numbers (progress_for p e v)

  -- questions 16 to 19
  key_own : Visits (key_of t.section t.opened t.end p.cursor p.previous e.key)
  unfolding key_of key_for progress_for one_of either
  key_own = asked Visits _ _ _ refl (asked Visits _ _ _ refl (asked Visits _ _ _ refl (asked Visits _ _ _ refl (asked Visits _ _ _ refl tt))))

  -- questions 20 and 21
  version_own : (v : Result Cursor Refusal) → Visits v → Visits (version_for t.section t.opened e (value_of t.backing e) v)
  unfolding version_for progress_for one_of either
  version_own (Err n) q = q
  version_own (Ok c) q = asked Visits _ _ _ refl (asked Visits _ _ _ refl tt)

  -- questions 14 to 21
  entry_own : Gives open_numbers (entry_asked t p e)
  unfolding entry_asked visit_of progress_for one_of either
  entry_own =
      asked (Gives open_numbers) _ _ _ refl (asked (Gives open_numbers) _ _ _ refl (version_own _ (asked Visits _ _ _ tt key_own)))

-- of records, one after another
entries_own : (t : Inputs) (p : Progress) (es : List Entry) → Gives open_numbers (entries_from t p es)
unfolding entries_from
entries_own t p [] = tt
entries_own t p (e ∷ es) = passed_on open_numbers (entry_asked t p e) (λ q. entries_from t q es) (entry_own t p e) (λ q. entries_own t q es)

-- question 13
ended_own : (how : WalkEnd) (x : Result Progress Refusal) → Gives open_numbers x → Gives open_numbers (walk_ended how x)
unfolding walk_ended one_of either
ended_own how (Err n) p = p
ended_own at_end (Ok q) p = tt
ended_own stopped (Ok q) p = refl

-- question 12
sound_own : (raw : List ℕ) → Gives open_numbers (verify_of raw)
unfolding verify_of restarts_verified one_of either
sound_own raw =
    let P = Gives {A = BlockMeta} open_numbers in
    asked P _ _ _ refl (asked P _ _ _ refl (asked P _ _ _ refl (asked P _ _ _ refl (asked P _ _ _ refl (asked P _ _ _ refl (asked P _ _ _ refl
    (asked P _ _ _ refl tt)))))))

block_own : (t : Inputs) (offset : ℕ) (p : Progress) (raw : List ℕ) (v : Result BlockMeta Refusal) → Gives open_numbers v
    → Gives open_numbers (block_for t offset p raw v)
unfolding block_for records_asked
block_own t offset p raw (Err n) q = q
block_own t offset p raw (Ok m) q = ended_own _ _ (entries_own t p _)

-- question 11
pairs_own : (t : Inputs) (blocks : List ℕ) (at : ℕ) (p : Progress) → Gives open_numbers (pairs_from t blocks at p)
unfolding pairs_from block_asked one_of either
pairs_own t [] at p = tt
pairs_own t (offset ∷ []) at p = refl
pairs_own t (offset ∷ len ∷ pairs) at p =
    chosen (Gives open_numbers) (pair_fits (length t.backing) at offset len) _ _ refl
    (passed_on open_numbers (block_asked t offset len p) (λ q. pairs_from t pairs (offset + len) q) (block_own t offset p _ _ (sound_own _)) (λ q. pairs_own t pairs (offset + len) q))

-- questions 22 and 23
end_own : (t : Inputs) (x : Result PairsEnd Refusal) → Gives open_numbers x → Reads (end_for t x)
unfolding end_for one_of either
end_own t (Err n) p = p
end_own t (Ok e) p = asked Reads _ _ _ refl (asked Reads _ _ _ refl tt)

-- questions 10 to 23
contents_own : (s «data» blocks : List ℕ) (scratch : ℕ) (o : Opened) → Reads (contents_of s «data» blocks scratch o)
unfolding contents_of one_of either
contents_own s «data» blocks scratch o = asked Reads _ _ _ refl (asked Reads _ _ _ refl (end_own _ _ (pairs_own _ blocks 0 _)))

-- questions 3 to 6
header_own : (s : List ℕ) (h : Result Opened Refusal) → header_of s ≡ h → Reads h
unfolding one_of either
header_own s (Ok o) e = tt
header_own s (Err n) e = one_of-case (Own open_numbers) (3 ∷ 4 ∷ 5 ∷ 6 ∷ []) (refusal_number n) (refused_number s n e) (refl, (refl, (refl, (refl, tt))))

-- questions 1 and 2
trailer_own : (s : List ℕ) → Gives open_numbers (trailer_of s)
unfolding trailer_of one_of either
trailer_own s = let P = Gives {A = Unit {0}} open_numbers in asked P _ _ _ refl (asked P _ _ _ refl tt)

trailed_own : (s : List ℕ) (t : Result (Unit {0}) Refusal) → Gives open_numbers t → Reads (trailed_header s t)
unfolding trailed_header
trailed_own s (Err n) p = p
trailed_own s (Ok u) p = header_own s (header_of s) refl

-- the plain opening
open_own : (s «data» blocks : List ℕ) (scratch : ℕ) (h : Result Opened Refusal) → Reads h → Reads (contents_for s «data» blocks scratch h)
unfolding contents_for
open_own s «data» blocks scratch (Err n) p = p
open_own s «data» blocks scratch (Ok o) p = contents_own s «data» blocks scratch o

read_numbered : (h : Result Opened Refusal) → Reads h → Numbered open_numbers (answer_number h) ((o : Opened) × (h ≡ Ok o))
unfolding answer_number one_of either
read_numbered (Ok o) p = done open_numbers (o, refl)
read_numbered (Err n) p = not_done open_numbers (refusal_number n) refl p (λ q. ap answer_number q.1)

pub opens_numbered : OpensNumbered
unfolding OpensNumbered open_of checked_header_of
opens_numbered s «data» blocks scratch =
    let x = read_numbered _ (open_own s «data» blocks scratch _ (trailed_own s _ (trailer_own s))) in record { number = x.0; zero = x.1 }

-- ---- questions 7 to 9, and the packed opening

-- a number of the plain opening is one of the packed opening
also_packed : (n : ℕ) → Own open_numbers n → Own pack_numbers n
unfolding one_of
also_packed n p = second_either _ _ (λ _. second_either _ _ (λ _. second_either _ _ (λ _. p)))

packed_own : (s : List ℕ) (o : Opened) (h : Result Opened Refusal) → Reads h → Gives pack_numbers (packed_for s o h)
unfolding packed_for
packed_own s o (Err n) p = also_packed (refusal_number n) p
packed_own s o (Ok same) p = tt

pack_own : (s «data» blocks : List ℕ) (scratch room : ℕ) (h : Result Opened Refusal) → Reads h → Gives pack_numbers (pack_for s «data» blocks scratch room h)
unfolding pack_for pack_of one_of either
pack_own s «data» blocks scratch room (Err n) p = also_packed (refusal_number n) p
pack_own s «data» blocks scratch room (Ok o) p =
    asked (Gives pack_numbers) _ _ _ refl (asked (Gives pack_numbers) _ _ _ refl (asked (Gives pack_numbers) _ _ _ refl
    (packed_own s o _ (contents_own s «data» blocks scratch o))))

pack_numbered : (x : Result PackedForm Refusal) → Gives pack_numbers x
    → Numbered pack_numbers (answer_number (packed_read x)) ((p : Opened) × ((bytes : List ℕ) × (x ≡ packed_as p bytes)))
unfolding answer_number packed_read one_of either
pack_numbered (Ok f) p = done pack_numbers (f.opened, (f.bytes, refl))
pack_numbered (Err n) p = not_done pack_numbers (refusal_number n) refl p (λ q. ap (λ (x : Result PackedForm Refusal). answer_number (packed_read x)) q.1.1)

pub packs_numbered : PacksNumbered
unfolding PacksNumbered open_packed_of checked_header_of
packs_numbered s «data» blocks scratch room =
    let x = pack_numbered _ (pack_own s «data» blocks scratch room _ (trailed_own s _ (trailer_own s))) in record { number = x.0; zero = x.1 }

-- ---- the lookup

-- the answer is a version or none, or refused with one of these numbers
abbrev Locates : List ℕ → Located → Type 0
Locates own (Ok (Some l)) = Unit {0}
Locates own (Ok None) = Unit {0}
Locates own (Err e) = Own own (refusal_number e)

-- question 25, of the versions
versions_own : (count : ℕ) (s : List ℕ) (o : Opened) (pos limit : ℕ) → Locates (25 ∷ []) (versions_from count s o pos limit)
unfolding versions_from one_of either
versions_own zero s o pos limit = tt
versions_own (suc count) s o pos limit =
    chosen (Locates (25 ∷ [])) (both (readable s pos o.encoding.seq) (ltb (stored_seq s o pos) (2 ^ 64))) _ _ refl
    (chosen (Locates (25 ∷ [])) (leb (stored_seq s o pos) limit) _ _ (versions_own count s o (pos + version_len_of o.encoding) limit)
    (asked (Locates (25 ∷ [])) _ _ _ refl tt))

-- question 25, of all reads
reads_own : (s : List ℕ) (o : Opened) (key : List ℕ) (limit h : ℕ) → Locates (25 ∷ []) (hash_read s o key limit h)
unfolding hash_read slot_read_of key_record_at key_record_of one_of either
reads_own s o key limit h =
    let P = Locates (25 ∷ []) in
    asked P _ _ _ refl (asked P _ _ _ refl (asked P _ _ _ tt (asked P _ _ _ refl (asked P _ _ _ tt (asked P _ _ _ refl (asked P _ _ _ tt
    (asked P _ _ _ refl (asked P _ _ _ tt (versions_own _ s _ _ limit)))))))))

-- their number is never 24
pub reads_not_24 : (s : List ℕ) (o : Opened) (key : List ℕ) (limit h : ℕ) → answer_number (hash_read s o key limit h) ≡ 24 → ⊥
unfolding answer_number one_of either
reads_not_24 s o key limit h e = go (hash_read s o key limit h) (reads_own s o key limit h) e
  where
    go : (x : Located) → Locates (25 ∷ []) x → answer_number x ≡ 24 → ⊥
    go (Ok (Some l)) p e = absurd (omega arith)
    go (Ok None) p e = absurd (omega arith)
    go (Err n) p e = false_true (ap (one_of (25 ∷ [])) (sym e) ∙ p)

-- 25 is one of the numbers of a lookup
also_asked : (x : Located) → Locates (25 ∷ []) x → Locates lookup_numbers x
unfolding one_of
also_asked (Ok (Some l)) p = tt
also_asked (Ok None) p = tt
also_asked (Err n) p = second_either (eqb (refusal_number n) 24) (one_of (25 ∷ []) (refusal_number n)) (λ _. p)

-- questions 24 and 25
lookup_own : (s numbers key : List ℕ) (limit : ℕ) → Locates lookup_numbers (lookup_of s numbers key limit)
unfolding lookup_of locate_of one_of either
lookup_own s numbers key limit =
    let h = hash_value key (opened_of numbers).seed in
    asked (Locates lookup_numbers) _ _ _ refl (asked (Locates lookup_numbers) _ _ _ refl
    (also_asked (hash_read s (opened_of numbers) key limit h) (reads_own s (opened_of numbers) key limit h)))

located_numbered : (x : Located) → Locates lookup_numbers x → Numbered lookup_numbers (answer_number x) ((x ≡ Ok None) ⊎ ((l : ValueLocator) × (x ≡ Ok (Some l))))
unfolding answer_number one_of either
located_numbered (Ok (Some l)) p = done lookup_numbers (inr (l, refl))
located_numbered (Ok None) p = done lookup_numbers (inl refl)
located_numbered (Err n) p = not_done lookup_numbers (refusal_number n) refl p (⊎_elim (ap answer_number) (λ q. ap answer_number q.1))

pub looks_numbered : LooksNumbered
unfolding LooksNumbered
looks_numbered s numbers key limit =
    let x = located_numbered _ (lookup_own s numbers key limit) in record { number = x.0; zero = x.1 }

-- ---- the value: question 26

value_numbered : («data» : List ℕ) (offset len : ℕ) → Numbered value_numbers (value_number «data» offset len) (offset + len ≤ length «data»)
unfolding value_number value_inside_of one_of either
value_numbered «data» offset len =
    if_case (λ (n : ℕ). Numbered value_numbers n (offset + len ≤ length «data»)) _ _ _ (λ e. done value_numbers (leb-true _ _ e))
    (λ e. not_done value_numbers 26 refl refl (λ q. let f = leb-false (offset + len) (length «data») e in omega arith))

pub values_numbered : ValuesNumbered
unfolding ValuesNumbered
values_numbered «data» offset len = let x = value_numbered «data» offset len in record { number = x.0; zero = x.1 }

-- ---- building

-- the number of an answer that is given, or refused with one of an entry's own numbers
answer_numbered : {A : Type 0} (own : List ℕ) → one_of own 0 ≡ false → (x : Result A Refusal) → Gives own x
    → Numbered own (answer_number x) ((a : A) × (x ≡ Ok a))
unfolding answer_number
answer_numbered own z (Ok a) p = done own (a, refl)
answer_numbered own z (Err e) p = not_done own (refusal_number e) z p (λ q. ap answer_number q.1)

-- questions 30 to 34 and 37
add_own : (area : List ℕ) (b : Builder) (e : Offer) → Gives add_numbers (add_of area b e)
unfolding add_of one_of either
add_own area b e =
    let P = Gives {A = BuilderState} add_numbers in
    asked P _ _ _ refl (asked P _ _ _ refl (asked P _ _ _ refl (asked P _ _ _ refl (asked P _ _ _ refl (asked P _ _ _ refl tt)))))

pub adds_numbered : AddsNumbered
unfolding AddsNumbered one_of either
adds_numbered area numbers e =
    let x = answer_numbered add_numbers refl (add_of area (builder_in numbers) e) (add_own area (builder_in numbers) e) in
    record { number = x.0; zero = x.1 }

-- question 37 of the size
size_own : (b : Builder) (prefix : ℕ) → Gives size_numbers (size_of_section b prefix)
unfolding size_of_section one_of either
size_own b prefix = asked (Gives size_numbers) _ _ _ refl tt

pub sizes_numbered : SizesNumbered
unfolding SizesNumbered one_of either
sizes_numbered numbers prefix =
    let x = answer_numbered size_numbers refl (size_of_section (builder_in numbers) prefix) (size_own (builder_in numbers) prefix) in
    record { number = x.0; zero = x.1 }

-- question 40
section_own : (area : List ℕ) (b : Builder) (prefix : ℕ) (a : Result Constructed Refusal) → construct_of (keys_in_of area b.totals.keys) ≡ a
    → Gives write_numbers (section_for area b prefix a)
unfolding section_for SeedDecided one_of either
section_own area b prefix (Ok c) e = tt
section_own area b prefix (Err n) e = subst⁻¹ (λ (k : Refusal). Own write_numbers (refusal_number k)) ((seed_decided (keys_in_of area b.totals.keys)).never n e) refl

-- questions 35 to 40
write_own : (area : List ℕ) (b : Builder) (prefix room64 room32 room : ℕ) → Gives write_numbers (write_of area b prefix room64 room32 room)
unfolding write_of one_of either
write_own area b prefix room64 room32 room =
    let P = Gives {A = List ℕ} write_numbers in
    asked P _ _ _ refl (asked P _ _ _ refl (asked P _ _ _ refl (asked P _ _ _ refl (asked P _ _ _ refl (section_own area b prefix _ refl)))))

pub writes_numbered : WritesNumbered
unfolding WritesNumbered one_of either
writes_numbered area numbers prefix room64 room32 room =
    let x = answer_numbered write_numbers refl
    (write_of area (builder_in numbers) prefix room64 room32 room) (write_own area (builder_in numbers) prefix room64 room32 room) in
    record { number = x.0; zero = x.1 }
