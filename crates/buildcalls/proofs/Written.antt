-- What the calls of building write: nothing behind what they say.
-- Assumes nothing.
use mathlib.Core.Path.{◌≡◌, sym, ap, ap₂, ◌∙◌, subst⁻¹}
use mathlib.Core.List.{List, ◌++◌}
use Prim.Native.Nat.{ℕ, ◌+◌, ◌≤◌}
use native.Mathlib.Omega.{arith}
use lib.ListN.{length, get_or, drop, length-append}
use lib.Seq.{sets}
use Rattle.std.specs.Prelude.{Ok}
use Rattle.std.specs.Prelude.{Result, Err}
use Rattle.refusal.specs.declared.Refusal.{Refusal}
use Rattle.refusal.proofs.Asked.{refused_ok}
use Rattle.num.specs.Number.{Bytes, le_bytes}
use Rattle.num.proofs.Choice.{if_case, if_true, if_false}
use Rattle.num.proofs.Lists.{drop_sets_behind}
use Rattle.num.proofs.Number.{length_le_bytes}
use Rattle.crc32.specs.V42.{crc_of}
use Rattle.sstable.specs.Kind.{kind_number}
use Rattle.encoding.specs.Encoding.{encoding_of, section_len_of}
use Rattle.area.specs.Area.{head_len, area_version_len, keys_in_of}
use Rattle.construction.specs.Construct.{Constructed, construct_of}
use Rattle.builder.specs.declared.Builder.{Builder}
use Rattle.builder.specs.Offer.{Offer, head_bytes, version_bytes, entry_len}
use Rattle.builder.specs.Record.{builder_after}
use Rattle.builder.specs.Add.{versions_with, area_after_of, counted_of, BuilderState}
use Rattle.builder.specs.Internal.{Passed}
use Rattle.builder.proofs.Asked.{accepted}
use Rattle.adding.proofs.Entry.{length_head, old_keyed}
use Rattle.measuring.specs.Measured.{AreaMeasured, ReadBackMeasured}
use Rattle.measuring.proofs.Measured.{read_back_measured}
use Rattle.writer.specs.Write.{section_for}
use Rattle.numbers.specs.BuilderNumbers.{builder_numbers, builder_in}
use Rattle.calls.specs.Calls.{place}
use Rattle.buildcalls.specs.BuildCalls.{offered, adds, AddCall, writes, WriteCall, BehindKept}
use Rattle.buildcalls.proofs.Answers.{same_given, not_both, same_offer, added, added_left, wrote, wrote_left}
use Rattle.buildcalls.proofs.Writes.{Fits, fits}

-- ---- behind an entry that was taken

length_version : (e : Offer) → length (version_bytes e) ≡ area_version_len
unfolding version_bytes
length_version e =
    let seq = le_bytes 8 e.seq in
    let kind = le_bytes 1 (kind_number e.kind) in
    let size = le_bytes 4 (length e.value) in
    let offset = le_bytes 8 e.offset in
    let checksum = le_bytes 4 (crc_of e.value) in
    omega (
      arith,
      length-append seq (kind ++ (size ++ (offset ++ checksum))),
      length-append kind (size ++ (offset ++ checksum)),
      length-append size (offset ++ checksum),
      length-append offset checksum,
      length_le_bytes 8 e.seq,
      length_le_bytes 1 (kind_number e.kind),
      length_le_bytes 4 (length e.value),
      length_le_bytes 8 e.offset,
      length_le_bytes 4 (crc_of e.value),
    )

module _ (area : List ℕ) (b : Builder) (e : Offer) (p : Passed area b e) where
  abbrev used : ℕ
  used = (builder_after area b (counted_of area b e)).used

  area_inside : used ≤ length area
  unfolding entry_len builder_after counted_of
  area_inside = let r = p.room in omega arith

  area_behind : drop used (area_after_of area b e) ≡ drop used area
  unfolding area_after_of builder_after counted_of
  area_behind =
      let v = length_version e in
      if_case (λ (l : List ℕ). drop used l ≡ drop used area) e.new_key _ _
      (λ t.
      let n = length-append (head_bytes e.key) (version_bytes e) in
      let h = length_head e.key in
      let u = if_true e.new_key (head_len + length e.key) 0 t in
      drop_sets_behind (head_bytes e.key ++ version_bytes e) area b.used used (omega arith))
      (λ f.
      let u = if_false e.new_key (head_len + length e.key) 0 f in
      let l = (old_keyed p f).last.head_inside in
      let count = le_bytes 4 (versions_with area b e) in
      let n = length_le_bytes 4 (versions_with area b e) in
      drop_sets_behind (version_bytes e) (sets area (b.last_key + 4) count) b.used used (omega arith)
      ∙ drop_sets_behind count area (b.last_key + 4) used (omega arith))

add_behind : (c : AddCall) (s : BuilderState) → adds c.lent ≡ Ok s → c.result ≡ 0
    → (place c.numbers_after 3 ≤ length c.lent.area) × (drop (place c.numbers_after 3) c.area_after ≡ drop (place c.numbers_after 3) c.lent.area)
unfolding builder_numbers
add_behind c s q z =
    let l = c.lent in
    let b = builder_in l.numbers in
    let taken = accepted l.area b (offered l) s (sym (same_offer l) ∙ q) in
    let p = taken.0.passed in
    let left = added_left c s q in
    let used : place c.numbers_after 3 ≡ s.builder.used = ap (λ (n : List ℕ). place n 3) left.0 in
    let behind =
    subst⁻¹ (λ (t : BuilderState). (t.builder.used ≤ length l.area) × (drop t.builder.used t.area ≡ drop t.builder.used l.area)) taken.1
    (area_inside l.area b (offered l) p, area_behind l.area b (offered l) p) in
    let inside = behind.0 in
    (omega arith, ap₂ (λ (n : ℕ) (x : List ℕ). drop n x) used left.1 ∙ behind.1 ∙ ap (λ (n : ℕ). drop n l.area) (sym used))

-- ---- behind a section that was written

-- its length is the one that question 39 asks for
section_long : (area : List ℕ) (b : Builder) (prefix : ℕ) (a : Result Constructed Refusal) (s : List ℕ) → AreaMeasured area b.totals
    → section_for area b prefix a ≡ Ok s → length s ≡ section_len_of (encoding_of b.totals) b.totals prefix
unfolding section_for
section_long area b prefix (Ok c) s m e =
    ap length (sym (same_given e)) ∙ m.size c.seed (λ x. get_or c.placement.pilots x 0) (λ k. get_or c.placement.slots k 0) prefix
section_long area b prefix (Err n) s m e = refused_ok e

section_inside : (area : List ℕ) (b : Builder) (prefix room : ℕ) (s : List ℕ) → Bytes area → Fits area b prefix room s → length s ≤ room
unfolding ReadBackMeasured
section_inside area b prefix room s bytes f =
    let n = section_long area b prefix (construct_of (keys_in_of area b.totals.keys)) s (read_back_measured area b bytes f.sized f.read) f.bytes in
    let l = f.inside in
    omega arith

write_behind : (c : WriteCall) (s : List ℕ) → Bytes c.lent.area → writes c.lent ≡ Ok s
    → (c.len_after ≤ length c.lent.output) × (drop c.len_after c.output_after ≡ drop c.len_after c.lent.output)
write_behind c s bytes q =
    let l = c.lent in
    let f = fits l.area (builder_in l.numbers) l.prefix l.room64 l.room32 (length l.output) s q in
    let h = section_inside l.area (builder_in l.numbers) l.prefix (length l.output) s bytes f in
    let w = wrote_left c s q in
    let n = w.1 in
    (omega arith, ap (drop c.len_after) w.0 ∙ drop_sets_behind s l.output 0 c.len_after (omega arith))

pub behind_kept : BehindKept
behind_kept =
    record {
      adding = λ c z. let s = added c z in add_behind c s.0 s.1 z;
      writing = λ c bytes z. let s = wrote c z in write_behind c s.0 bytes s.1;
    }
