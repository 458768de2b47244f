-- From construction to the section.
-- Assumes nothing.
use mathlib.Core.Path.{◌≡◌, sym, ap, ◌∙◌, subst⁻¹}
use mathlib.Core.List.{List, [], map}
use Prim.Native.Nat.{ℕ, ◌+◌, ◌*◌, ◌<◌, ◌≤◌}
use native.Mathlib.Omega.{arith}
use lib.ListN.{length, get_or, take, length-map}
use lib.Seq.{sets, get_or-take}
use borrow.Author.Tests.{leb-true, ltb-true}
use Rattle.num.specs.Number.{Bytes}
use Rattle.std.specs.Prelude.{Some, None, Result, Ok, Err}
use Rattle.refusal.specs.declared.Refusal.{Refusal}
use Rattle.refusal.specs.declared.Refusal.TheVariants as refusal
use Rattle.num.proofs.Choice.{both_true}
use Rattle.num.proofs.Lists.{map_at}
use Rattle.encoding.specs.declared.Encoding.{Encoding}
use Rattle.encoding.specs.Encoding.{encoding_of, section_len_of}
use Rattle.area.specs.Area.{keys_in_of}
use Rattle.point.specs.Hash.{hash_value}
use Rattle.construction.specs.Construct.{seed_of, hashes_of, construct_of}
use Rattle.construction.specs.Scratch.{placement_in}
use Rattle.construction.specs.Promises.{PlacementSound, SeedDecided}
use Rattle.construction.proofs.Promises.{placement_sound, seed_decided}
use Rattle.construct.specs.Keys.{KeysStand}
use Rattle.construct.specs.Built.{built_as, Hashed}
use Rattle.builder.specs.declared.Builder.{Builder}
use Rattle.written.specs.Arena.{KeyGroup, no_group, group_key}
use Rattle.written.specs.Section.{group_hash, section_bytes}
use Rattle.writer.specs.Write.{groups_in, scratch_enough, section_for, write_of, section_written}
use Rattle.measuring.specs.Measured.{AreaMeasured, ReadBackMeasured}
use Rattle.measuring.proofs.Measured.{read_back_measured}
use Rattle.writing.specs.Wrote.{wrote_read}
use Rattle.sections.specs.Internal.{SectionAsked}
use Rattle.writing.specs.Internal.{Asked}
use Rattle.writing.proofs.Questions.{asked_all}
use Rattle.writing.proofs.Narrow.{arena_narrow}

module _ {area : List ℕ} {b : Builder} {prefix size room64 room32 room : ℕ} (bytes : Bytes area) (a : Asked area b prefix size room64 room32 room) where
  abbrev n : ℕ
  n = b.totals.keys

  measured : AreaMeasured area b.totals
  unfolding ReadBackMeasured
  measured = read_back_measured area b bytes a.sized a.read

  some : 1 ≤ n
  some = ltb-true 0 n a.some

  rooms : (n ≤ room64) × (6 * n + 8 ≤ room32)
  unfolding scratch_enough
  rooms = let p = both_true _ _ a.scratch in (leb-true n room64 p.0, leb-true (6 * n + 8) room32 p.1)

  -- what construction asks
  pub construct_asked : ((1 ≤ n) × (n ≤ 1048576)) × ((n ≤ room64) × (6 * n + 8 ≤ room32))
  construct_asked = ((some, measured.few), rooms)

  pub keys_stand : KeysStand area n
  keys_stand = measured.keys_stand

  keys_count : length (keys_in_of area n) ≡ n
  keys_count = ap length measured.keys ∙ length-map (groups_in area n) (λ (g : KeyGroup). g.key) ∙ measured.count

  module _ (hashes scratch : List ℕ) (seed : ℕ) (h : Hashed (Some seed) (keys_in_of area n) hashes) (c : built_as (Some seed) n scratch ≡ construct_of (keys_in_of area n)) where
    hash_of : (i : ℕ) → i < n → get_or hashes i 0 ≡ group_hash seed (groups_in area n) i
    unfolding Hashed hashes_of group_hash group_key
    hash_of i l =
        let key : KeyGroup → List ℕ = λ g. g.key in
        let gs = groups_in area n in
        let m : i < length (map key gs) = omega (arith, length-map gs key, measured.count) in
        sym (get_or-take n hashes i 0 l)
        ∙ ap (λ (k : ℕ). get_or (take k hashes) i 0) (sym keys_count)
        ∙ ap (λ (hs : List ℕ). get_or hs i 0) h
        ∙ ap (λ (keys : List (List ℕ)). get_or (map (λ k. hash_value k seed) keys) i 0) measured.keys
        ∙ map_at (λ k. hash_value k seed) (map key gs) i [] 0 m
        ∙ ap (λ (k : List ℕ). hash_value k seed) (map_at key gs i no_group [] (omega (arith, measured.count)))

    slot-key : (m : ℕ) → m < n → get_or (placement_in n scratch).slots m 0 < n
    unfolding built_as hashes_of PlacementSound SeedDecided
    slot-key m l =
        let keys = keys_in_of area n in
        let r = (seed_decided keys).answers (record { seed = seed; placement = placement_in n scratch }) (sym c) in
        let hs = hashes_of keys (seed_of r.0) in
        let k : length hs ≡ n = length-map keys (λ key. hash_value key (seed_of r.0)) ∙ keys_count in
        omega (arith, ((placement_sound hs (placement_in n scratch) (omega (arith, measured.few)) r.1.placement).filled.every m (omega arith)).0)

    -- what writing the section asks
    pub section_asked : (e : Encoding) (output : List ℕ) → e ≡ encoding_of b.totals → length hashes ≡ room64 → length scratch ≡ room32 → length output ≡ room
        → SectionAsked area b.totals e prefix seed hashes scratch output
    section_asked e output f p q r =
        subst⁻¹ (λ (d : Encoding). SectionAsked area b.totals d prefix seed hashes scratch output) f
        record {
          some = some;
          few = measured.few;
          keys_stand = measured.keys_stand;
          measured = measured.measured;
          fits = measured.fits;
          narrow = arena_narrow area b a.sized a.read measured;
          places = omega (arith, rooms.1);
          slots = slot-key;
          hashed = omega (arith, rooms.0);
          hash_of = record { hash = λ i l. hash_of i (omega (arith, measured.count)) };
          room = omega (arith, leb-true (section_len_of (encoding_of b.totals) b.totals prefix) room a.output);
        }

    abbrev bytes_of : Encoding → List ℕ
    bytes_of e =
        section_bytes e seed b.totals.min_seq (groups_in area n) (λ x. get_or (placement_in n scratch).pilots x 0) (λ m. get_or (placement_in n scratch).slots m 0) prefix

    given-section : write_of area b prefix room64 room32 room ≡ Ok (bytes_of (encoding_of b.totals))
    unfolding section_for built_as
    given-section = asked_all a ∙ ap (section_for area b prefix) (sym c)

    pub section_given : (e : Encoding) (before after : List ℕ) → e ≡ encoding_of b.totals → after ≡ sets before 0 (bytes_of e)
        → (◌≡◌ {A = Result ℕ Refusal} (Ok size) (wrote_read (write_of area b prefix room64 room32 room))) × (after ≡ section_written (write_of area b prefix room64 room32 room) before)
    unfolding wrote_read section_written
    section_given e before after f g =
        let t = b.totals in
        let s = bytes_of (encoding_of t) in
        let k : size ≡ length s =
        a.length_of ∙ sym (measured.size seed (λ x. get_or (placement_in n scratch).pilots x 0) (λ m. get_or (placement_in n scratch).slots m 0) prefix) in (
          ap Ok k ∙ ap wrote_read (sym given-section),
          g ∙ ap (λ (d : Encoding). sets before 0 (bytes_of d)) f ∙ ap (λ (r : Result (List ℕ) Refusal). section_written r before) (sym given-section),
        )

  -- no seed serves
  pub none_given : (scratch before : List ℕ) → built_as None n scratch ≡ construct_of (keys_in_of area n)
      → (◌≡◌ {A = Result ℕ Refusal} (Err refusal.NoSeed) (wrote_read (write_of area b prefix room64 room32 room))) × (before ≡ section_written (write_of area b prefix room64 room32 room) before)
  unfolding section_for built_as wrote_read section_written
  none_given scratch before c =
      let w : write_of area b prefix room64 room32 room ≡ Err refusal.NoSeed = asked_all a ∙ ap (section_for area b prefix) (sym c) in
      (ap wrote_read (sym w), ap (λ (r : Result (List ℕ) Refusal). section_written r before) (sym w))

-- 35 to 39
pub refused_given : (area : List ℕ) (b : Builder) (prefix room64 room32 room : ℕ) (k : Refusal) (before : List ℕ) → write_of area b prefix room64 room32 room ≡ Err k
    → (◌≡◌ {A = Result ℕ Refusal} (Err k) (wrote_read (write_of area b prefix room64 room32 room))) × (before ≡ section_written (write_of area b prefix room64 room32 room) before)
unfolding wrote_read section_written
refused_given area b prefix room64 room32 room k before w = (ap wrote_read (sym w), ap (λ (r : Result (List ℕ) Refusal). section_written r before) (sym w))
