-- A line of the output, and what is left behind it.
-- Assumes nothing.
use mathlib.Core.Path.{◌≡◌, sym, ap, ◌∙◌}
use mathlib.Core.List.{List, [], ◌++◌, append_assoc, append-nil}
use mathlib.Core.Bool.{Bool, true, false}
use Prim.Native.Nat.{ℕ, ◌+◌, ◌%◌, ◌<◌}
use native.Mathlib.Nat.{add-zero, zero-add}
use native.Mathlib.Omega.{arith}
use lib.Dec.{eqb}
use lib.ListN.{length}
use Rattle.num.specs.Choice.{both, when◌then◌else◌}
use Rattle.block.specs.Walk.{Entry}
use Rattle.header.specs.declared.Opened.{Opened}
use Rattle.std.proofs.Common.{Some, None, Ok, Err}
use Rattle.refusal.specs.declared.Refusal.{Refusal}
use Rattle.refusal.specs.Refusal.{refusal_number}
use Rattle.opening.specs.Open.{open_of}
use Rattle.admission.specs.Admits.{OpensExactly}
use Rattle.admission.specs.Blocks.{store_entries}
use Rattle.admission.proofs.Opening.{open_exactly}
use Rattle.lines.specs.Lines.{names_line, live_of, mean_of, totals_line, refused_line, unreadable_line}
use Rattle.listing.specs.declared.walk.Place.{Place}
use Rattle.listing.specs.declared.text.Left.TheVariants.{Unreadable, Refused, Names, Records}
use Rattle.listing.specs.Listing.{record_lines, listed_of, store_text, numbers_in, key_scratch, output_of}
use Rattle.listing.specs.Internal.{entries_left, text_left, place_steps, steps_left, Stepping, Continues}
use Rattle.listing.proofs.Steps.{entries_start}

module _ (sectionLen : ℕ) («data» blocks keys : List ℕ) (line : List ℕ) where
  pub unreadable_continues : line ≡ unreadable_line → Continues sectionLen «data» blocks Unreadable keys None keys line
  unfolding text_left steps_left
  unreadable_continues e = record { text = sym e ∙ sym (append-nil line); fewer = omega arith; sound = tt }

  pub refusal_continues : (r : Refusal) → line ≡ refused_line (refusal_number r) → Continues sectionLen «data» blocks (Refused r) keys None keys line
  unfolding text_left steps_left
  refusal_continues r e = record { text = sym e ∙ sym (append-nil line); fewer = omega arith; sound = tt }

  -- behind the names, the first place
  abbrev first : Place
  first = record { pair = 0; pos = 0; key_len = 0; live = 0 }

  left_first : entries_left «data» blocks first keys ≡ store_entries «data» blocks
  unfolding entries_left
  left_first = entries_start «data» blocks

  pub names_continue : (n : ℕ) → line ≡ names_line → 0 < n → Continues sectionLen «data» blocks (Names n) keys (Some (Records n first)) keys line
  unfolding text_left steps_left place_steps listed_of
  names_continue n e h =
      let s = ap length left_first in
      record {
        text =
            ap (λ (l : List Entry). names_line ++ (record_lines l ++ totals_line n (live_of l) (mean_of sectionLen n))) (sym left_first)
            ∙ (λ i. sym e i ++ (record_lines (entries_left «data» blocks first keys) ++ totals_line n (sym (zero-add (live_of (entries_left «data» blocks first keys))) i) (mean_of sectionLen n)));
        fewer = omega arith;
        sound = (h, record { pair = omega arith; key = omega arith; pos = omega arith; live = omega arith });
      }

  -- behind the last record, the totals
  pub totals_continue : (n : ℕ) (p : Place) → entries_left «data» blocks p keys ≡ [] → line ≡ totals_line n p.live (mean_of sectionLen n)
      → Continues sectionLen «data» blocks (Records n p) keys None keys line
  unfolding text_left steps_left record_lines live_of
  totals_continue n p e w =
      record {
        text =
            ap (λ (l : List Entry). record_lines l ++ totals_line n (p.live + live_of l) (mean_of sectionLen n)) e
            ∙ ap (λ (k : ℕ). totals_line n k (mean_of sectionLen n)) (add-zero p.live)
            ∙ sym w
            ∙ sym (append-nil line);
        fewer = omega arith;
        sound = tt;
      }

  pub record_continues : (n : ℕ) (p q : Place) (after : List ℕ) → 0 < n → Stepping «data» blocks p keys q after line
      → Continues sectionLen «data» blocks (Records n p) keys (Some (Records n q)) after line
  unfolding text_left steps_left
  record_continues n p q after h s =
      let f = s.fewer in
      record {
        text =
            (λ i. s.lines i ++ totals_line n (s.live i) (mean_of sectionLen n))
            ∙ append_assoc line (record_lines (entries_left «data» blocks q after)) (totals_line n (q.live + live_of (entries_left «data» blocks q after)) (mean_of sectionLen n));
        fewer = omega arith;
        sound = (h, s.reached);
      }

-- ---- what is printed of an opening

module _ (s «data» blocks keys : List ℕ) (scratch : ℕ) (same : scratch ≡ key_scratch) where
  pub accepted_text : (o : Opened) → open_of s «data» blocks scratch ≡ Ok o
      → text_left (length s) «data» blocks (Some (Names o.count)) keys ≡ store_text s «data» blocks (open_of s «data» blocks key_scratch)
  unfolding text_left store_text
  accepted_text o e = ap (store_text s «data» blocks) (sym e ∙ ap (open_of s «data» blocks) same)

  pub refused_text : (r : Refusal) → open_of s «data» blocks scratch ≡ Err r
      → text_left (length s) «data» blocks (Some (Refused r)) keys ≡ store_text s «data» blocks (open_of s «data» blocks key_scratch)
  unfolding text_left store_text
  refused_text r e = ap (store_text s «data» blocks) (sym e ∙ ap (open_of s «data» blocks) same)

-- an accepted section has a key
pub some_key : (s «data» blocks : List ℕ) (scratch : ℕ) (o : Opened) → open_of s «data» blocks scratch ≡ Ok o → 0 < o.count
unfolding OpensExactly
some_key s «data» blocks scratch o e = ((open_exactly s «data» blocks scratch o).0 e).header.dimensions.some

-- ---- what is printed of three files

module _ (whole : Bool) (s «data» file : List ℕ) where
  choose : Bool → List ℕ
  choose b = when◌then◌else◌ b (store_text s «data» (numbers_in file) (open_of s «data» (numbers_in file) key_scratch)) unreadable_line

  pub output_missing : whole ≡ false → unreadable_line ≡ output_of whole s «data» file
  unfolding output_of when◌then◌else◌ both choose
  output_missing w = sym (ap (λ (b : Bool). choose (both b (eqb (length file % 8) 0))) w)

  pub output_odd : whole ≡ true → eqb (length file % 8) 0 ≡ false → unreadable_line ≡ output_of whole s «data» file
  unfolding output_of when◌then◌else◌ both choose
  output_odd w n = sym (λ i. choose (both (w i) (n i)))

  pub output_read : whole ≡ true → eqb (length file % 8) 0 ≡ true
      → store_text s «data» (numbers_in file) (open_of s «data» (numbers_in file) key_scratch) ≡ output_of whole s «data» file
  unfolding output_of when◌then◌else◌ both choose
  output_read w n = sym (λ i. choose (both (w i) (n i)))
