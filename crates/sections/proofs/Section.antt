-- The parts at their places are the section.
-- Assumes nothing.
use mathlib.Core.Path.{◌≡◌, sym, ap, ◌∙◌, subst⁻¹}
use mathlib.Core.List.{List, [], ◌∷◌, ◌++◌, append_assoc}
use Prim.Native.Nat.{ℕ, ◌+◌, ◌*◌, ◌-◌, ◌/◌, ◌<◌, ◌≤◌}
use native.Mathlib.Omega.{arith}
use lib.Dec.{ltb}
use lib.ListN.{length, get_or, take, drop, length-append, length-drop}
use lib.Seq.{sets}
use borrow.Author.Tests.{lt-ltb}
use borrow.Rule.Slice.PartMut.{same_len_mid}
use Rattle.num.specs.Choice.{when◌then◌else◌}
use Rattle.num.specs.Number.{le_bytes}
use Rattle.num.proofs.Choice.{if_true}
use Rattle.num.proofs.Number.{length_le_bytes}
use Rattle.num.proofs.Stores.{tail_of, tail_put, tail_all}
use Rattle.crc32.specs.V42.{crc_of}
use Rattle.encoding.specs.declared.Totals.{Totals}
use Rattle.encoding.specs.declared.Encoding.{Encoding}
use Rattle.encoding.specs.Encoding.{magic, scan_header_len, buckets_of, arena_start_of, arena_len_of, scan_len_of, section_len_of}
use Rattle.construction.specs.Construct.{Placement}
use Rattle.construction.specs.Scratch.{indices_at, placement_in}
use Rattle.written.specs.Joined.{fields_bytes}
use Rattle.written.specs.Arena.{KeyGroup, group_address, arena_written}
use Rattle.written.specs.Section.{pilots_bytes, slots_bytes, scan_part_bytes, prologue_fields, from_scan_lem, from_arena_lem, from_slots_lem, from_pilots_lem, body_bytes, section_bytes}
use Rattle.written.specs.Internal.{scan_len_for}
use Rattle.written.proofs.Groups.{arena_length}
use Rattle.written.proofs.Section.{section_length}
use Rattle.written.proofs.Totals.{section_size}
use Rattle.writer.specs.Write.{groups_in}
use Rattle.tables.specs.Internal.{Addressed}
use Rattle.tables.proofs.Parts.{slots_listed}
use Rattle.sections.specs.Internal.{ArenaLent, Noted, addresses_in, tables_bytes, TablesAsked, ScanAsked, SectionAsked}
use Rattle.sections.proofs.Tails.{section_sealed}
use Rattle.sections.proofs.Tables.{slots_count, addresses_count, tables_long, addresses_lent, placement_kept, address_noted}

module _ {area : List ℕ} {t : Totals} {e : Encoding} {prefix seed : ℕ} {hashes scratch output : List ℕ} (p : SectionAsked area t e prefix seed hashes scratch output) where
  abbrev gs : List KeyGroup
  gs = groups_in area t.keys

  abbrev arena : List ℕ
  arena = arena_written e t.min_seq gs

  -- where the arena starts, as it is computed
  abbrev start : ℕ
  start = 64 + 4 * ((t.keys + 1) / 2) + t.keys * (e.address + 2)

  arena_long : length arena ≡ arena_len_of e t
  unfolding section_len_of scan_len_for scan_len_of when◌then◌else◌
  arena_long =
      omega (
        arith,
        arena_length e t.min_seq gs,
        section_length e 0 0 gs (λ _. 0) (λ _. 0) 0,
        section_size t gs p.measured e 0 0 (λ _. 0) (λ _. 0) 0,
        ap (λ (n : ℕ). arena_start_of n e.address) p.measured.keys,
      )

  -- all but the scan part fits
  pub arena_inside : start + arena_len_of e t + scan_len_of e t prefix + 5 ≤ length output
  unfolding section_len_of arena_start_of buckets_of
  arena_inside = p.room

  pub size_least : 5 ≤ section_len_of e t prefix
  unfolding section_len_of
  size_least = omega arith

  pub body_inside : (at size : ℕ) → size ≡ section_len_of e t prefix → (x y : List ℕ) → length x ≡ length output → length y ≡ length (tail_of at x) → size - 5 + 5 ≤ length (tail_put at x y)
  body_inside at size f x y g h = omega (arith, size_least, p.room, same_len_mid at (length x - at) x y h)

  scan_room : 0 < prefix → scan_len_of e t prefix ≡ scan_header_len + t.keys * e.address + 8
  unfolding scan_len_of
  scan_room h = if_true (ltb 0 prefix) (scan_header_len + t.keys * e.address + 8) 0 (lt-ltb 0 prefix h)

  module _ (i : ℕ) (at : i ≡ indices_at t.keys) where
    pub arena_asked : ArenaLent area t.keys e t.min_seq i scratch start output
    unfolding indices_at buckets_of
    arena_asked =
        record {
          asked =
              record {
                inside = p.keys_stand.inside;
                fits = p.fits;
                room = omega (arith, arena_long, arena_inside, length-drop start output);
                narrow = omega (arith, arena_long, p.narrow);
                places = omega (arith, p.places, length-drop i scratch);
              };
          indices_inside = omega (arith, p.places);
          arena_inside = omega (arith, arena_inside);
        }

    module _ (s : List ℕ) (w : Noted i t.keys (group_address e gs) scratch s) where
      noted : Noted (indices_at t.keys) t.keys (group_address e gs) scratch s
      noted = subst⁻¹ (λ (k : ℕ). Noted k t.keys (group_address e gs) scratch s) (sym at) w

      long : 6 * t.keys + 8 ≤ length s
      long = omega (arith, w.size, p.places)

      kept : placement_in t.keys s ≡ placement_in t.keys scratch
      kept = placement_kept t.keys (group_address e gs) scratch s noted

      filled : (m : ℕ) → m < t.keys → get_or (placement_in t.keys s).slots m 0 < t.keys
      filled m h = subst⁻¹ (λ (q : Placement). get_or q.slots m 0 < t.keys) kept (p.slots m h)

      addressed : Addressed e gs (addresses_in t.keys s)
      addressed = record { address = λ j h. address_noted t.keys (group_address e gs) scratch s noted j (omega (arith, p.measured.keys)) }

      pub tables_asked : (x : List ℕ) → length x ≡ length output → TablesAsked e t.keys hashes s x
      unfolding arena_start_of buckets_of
      tables_asked x l =
          record {
            few = p.few;
            places = long;
            hashed = p.hashed;
            slots = filled;
            room = omega (arith, arena_inside);
          }

      pub scan_asked : (len : ℕ) (x : List ℕ) → len ≡ arena_len_of e t → length x ≡ length output
          → ScanAsked area t.keys e prefix (take (i + t.keys - i) (drop i s)) (tail_of (start + len) x)
      scan_asked len x f l =
          subst⁻¹ (λ (addresses : List ℕ). ScanAsked area t.keys e prefix addresses (tail_of (start + len) x)) (addresses_lent t.keys s long i at)
          record {
            some = p.some;
            keys_stand = p.keys_stand;
            addressed = addressed;
            each = addresses_count t.keys s long;
            room = λ h. omega (arith, scan_room h, arena_inside, length-drop (start + len) x, ap length (tail_all (start + len) x));
          }

      -- ---- the bytes

      abbrev tables : List ℕ
      tables = tables_bytes e seed t.min_seq t.keys prefix hashes s

      abbrev scan : List ℕ
      scan = scan_part_bytes e gs prefix

      abbrev body : List ℕ
      body = tables ++ (arena ++ (scan ++ (0 ∷ [])))

      abbrev pilot : ℕ → ℕ
      pilot = λ x. get_or (placement_in t.keys scratch).pilots x 0

      abbrev owner : ℕ → ℕ
      owner = λ m. get_or (placement_in t.keys scratch).slots m 0

      tables-same : tables ≡ (magic ++ fields_bytes (prologue_fields e seed t.min_seq (length gs) prefix)) ++ (pilots_bytes pilot (buckets_of (length gs)) ++ slots_bytes e seed gs owner)
      unfolding tables_bytes
      tables-same =
          let q = placement_in t.keys s in
          let hd : ℕ → List ℕ = λ k. magic ++ fields_bytes (prologue_fields e seed t.min_seq k prefix) in
          let c = slots_count t.keys s long in
          ap (λ (l : List ℕ). hd t.keys ++ (pilots_bytes (λ x. get_or q.pilots x 0) (buckets_of t.keys) ++ l))
          (slots_listed e gs (addresses_in t.keys s) addressed seed q.slots hashes p.hash_of
          record { count = c ∙ p.measured.keys; key = λ m h. let k = filled m (omega arith) in omega (arith, p.measured.keys) })
          ∙ ap (λ (r : Placement). hd t.keys ++ (pilots_bytes (λ x. get_or r.pilots x 0) (buckets_of t.keys) ++ slots_bytes e seed gs (λ m. get_or r.slots m 0))) kept
          ∙ ap (λ (k : ℕ). hd k ++ (pilots_bytes pilot (buckets_of k) ++ slots_bytes e seed gs owner)) p.measured.keys

      body_same : body ≡ body_bytes e seed t.min_seq gs pilot owner prefix
      unfolding body_bytes from_pilots_lem from_slots_lem from_arena_lem from_scan_lem
      body_same =
          let hd = magic ++ fields_bytes (prologue_fields e seed t.min_seq (length gs) prefix) in
          let ps = pilots_bytes pilot (buckets_of (length gs)) in
          let ls = slots_bytes e seed gs owner in
          let rest = arena ++ (scan ++ (0 ∷ [])) in
          ap (λ (l : List ℕ). l ++ rest) tables-same ∙ append_assoc hd (ps ++ ls) rest ∙ ap (λ (l : List ℕ). hd ++ l) (append_assoc ps ls rest)

      whole : body ++ le_bytes 4 (crc_of body) ≡ section_bytes e seed t.min_seq gs pilot owner prefix
      unfolding section_bytes
      whole = ap (λ (l : List ℕ). l ++ le_bytes 4 (crc_of l)) body_same

      start-long : length tables ≡ start
      unfolding arena_start_of buckets_of
      start-long = tables_long t.keys s long e seed t.min_seq prefix hashes

      body-long : length tables + length arena + length scan + 5 ≡ section_len_of e t prefix
      body-long =
          omega (
            arith,
            ap length whole,
            length-append body (le_bytes 4 (crc_of body)),
            length-append tables (arena ++ (scan ++ (0 ∷ []))),
            length-append arena (scan ++ (0 ∷ [])),
            length-append scan (0 ∷ []),
            length_le_bytes 4 (crc_of body),
            section_size t gs p.measured e seed t.min_seq pilot owner prefix,
          )

      pub section_put : (len size : ℕ) (x₁ x₂ y x₄ : List ℕ) → len ≡ arena_len_of e t → size ≡ section_len_of e t prefix
          → x₁ ≡ sets output start arena → x₂ ≡ sets x₁ 0 tables → y ≡ sets (tail_of (start + len) x₂) 0 scan
          → x₄ ≡ sets (tail_put (start + len) x₂ y) (size - 5) (0 ∷ le_bytes 4 (crc_of (take (size - 5) (tail_put (start + len) x₂ y) ++ (0 ∷ []))))
          → x₄ ≡ sets output 0 (section_bytes e seed t.min_seq gs pilot owner prefix)
      section_put len size x₁ x₂ y x₄ f g a b c d =
          section_sealed output x₁ x₂ y x₄ tables arena scan start (start + len) (size - 5) start-long (omega (arith, arena_long)) (omega (arith, arena_long, start-long, body-long)) (omega (arith, body-long, p.room)) a b c d
          ∙ ap (sets output 0) whole
