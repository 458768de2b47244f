-- A written section is admitted beside blocks that hold just its records, so it opens and packs (promise P4, from the key groups on).
-- Assumes nothing.
use mathlib.Core.Path.{refl, subst, subst⁻¹}
use mathlib.Core.List.{List}
use Prim.Native.Nat.{ℕ, ◌%◌, ◌<◌, ◌≤◌, ◌^◌}
use native.Mathlib.Omega.{arith}
use lib.ListN.{length}
use borrow.Author.Tests.{le-leb}
use Rattle.point.specs.Hash.{is_direct, direct_slot}
use Rattle.encoding.specs.declared.Encoding.{Encoding}
use Rattle.header.specs.declared.Opened.{Opened}
use Rattle.header.specs.Header.{packed_record}
use Rattle.packed.specs.Packed.{packed_bytes}
use Rattle.agreement.specs.Agrees.{Agrees}
use Rattle.admission.specs.Layout.{pilot_number}
use Rattle.admission.specs.Admits.{PilotsInside, Admits, OpensExactly, PacksExactly}
use Rattle.admission.proofs.Opening.{open_exactly}
use Rattle.admission.proofs.PackedOpening.{packed_size_lem, open_packed_exactly}
use Rattle.written.specs.Arena.{KeyGroup}
use Rattle.written.specs.Section.{section_bytes, written_record}
use Rattle.written.specs.Opens.{Writable, Packable, BesideGroups, OpensAs, PacksAs, WrittenOpens}
use Rattle.written.specs.Internal.{PartsStand}
use Rattle.written.proofs.Tables.{pilots_read}
use Rattle.written.proofs.Agreement.{written_agrees}
use Rattle.written.proofs.Section.{trailer_sound, section_parts}
use Rattle.written.proofs.Header.{end_read, header_read}

module _ (e : Encoding) (seed least : ℕ) (gs : List KeyGroup) (pilot owner : ℕ → ℕ) (prefix : ℕ) (w : Writable e seed least gs pilot owner prefix) where
  abbrev s : List ℕ
  s = section_bytes e seed least gs pilot owner prefix

  abbrev o : Opened
  o = written_record e seed least gs pilot owner prefix

  parts : PartsStand s o gs pilot owner prefix
  parts = section_parts e seed least gs pilot owner prefix w.some

  -- question 10
  pilots_inside_lem : PilotsInside s o
  unfolding written_record pilot_number is_direct direct_slot
  pilots_inside_lem =
      record {
        direct = λ k h d.
            let r = pilots_read s o gs pilot owner prefix w.fits parts w.slots k h in
            subst⁻¹ (λ (v : ℕ). v % 2 ^ 31 < length gs) r (w.slots.direct k h (le-leb (2 ^ 31) (pilot k) (subst (λ (v : ℕ). 2 ^ 31 ≤ v) r d)));
      }

  module _ («data» blocks : List ℕ) (scratch : ℕ) (b : BesideGroups «data» blocks scratch gs) where
    -- all questions of a plain opening are answered with yes
    pub admitted : Admits s «data» blocks scratch o
    unfolding written_record
    admitted =
        record {
          trailer = trailer_sound e seed least gs pilot owner prefix;
          header = header_read e seed least gs pilot owner prefix w;
          pilots = pilots_inside_lem;
          covers = b.covers;
          agrees =
              subst⁻¹ (Agrees s «data» scratch o) b.just
              (written_agrees s «data» scratch o gs pilot owner prefix w.fits parts w.slots w.ordered
              (end_read e seed least gs pilot owner prefix) (let h = w.prefix_short in omega arith) w.few b.scratch_half b.checksums);
        }

    opens : OpensAs s «data» blocks scratch o
    unfolding OpensExactly OpensAs
    opens = (open_exactly s «data» blocks scratch o).1 admitted

    packs : Packable e gs pilot → PacksAs s «data» blocks scratch o
    unfolding PacksExactly PacksAs written_record pilot_number direct_slot
    packs p room holds =
        (open_packed_exactly s «data» blocks scratch room (packed_record o) (packed_bytes s o)).1
        (record {
          plain = o;
          admits = record {
            admits = admitted;
            checksums = p.checksums;
            few = p.few;
            pilots = record {
              below = λ k h. subst⁻¹ (λ (v : ℕ). v % 2 ^ 31 < 2 ^ 23) (pilots_read s o gs pilot owner prefix w.fits parts w.slots k h) (p.pilots k h);
            };
            holds = subst (λ (n : ℕ). n ≤ room) (packed_size_lem s o admitted.header) holds;
          };
          same_record = refl;
          same_bytes = refl;
        })

pub written_opens : WrittenOpens
unfolding WrittenOpens
written_opens e seed least gs pilot owner prefix w «data» blocks scratch b =
    (opens e seed least gs pilot owner prefix w «data» blocks scratch b, packs e seed least gs pilot owner prefix w «data» blocks scratch b)
