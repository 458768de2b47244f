-- A step of the listing: a record's line, or the end of a block.
-- Assumes nothing.
use mathlib.Core.Path.{◌≡◌, refl, sym, ap, ◌∙◌, subst}
use mathlib.Core.List.{List, [], ◌∷◌, ◌++◌, map}
use mathlib.Core.Bool.{Bool, true, false}
use Prim.Native.Nat.{ℕ, ◌+◌, ◌-◌, ◌<◌, ◌≤◌}
use native.Mathlib.Nat.{add_assoc}
use native.Mathlib.Omega.{arith}
use lib.Dec.{leb}
use lib.ListN.{length, get_or, take, drop, length-drop}
use lib.Seq.{length-take-le}
use borrow.Author.Tests.{leb-true, leb-false}
use Rattle.sstable.specs.declared.Kind.{Kind}
use Rattle.sstable.specs.declared.Kind.TheVariants.{Put, Tombstone}
use Rattle.block.specs.declared.Record.{Record}
use Rattle.std.proofs.Common.{Ok, Err}
use Rattle.refusal.specs.declared.Refusal.{Refusal}
use Rattle.block.specs.Record.{record_at}
use Rattle.block.specs.Verify.{entries_end_in}
use Rattle.block.specs.Walk.{Entry, no_entries, entry_then, walk_at, entry_of, records_of}
use Rattle.block.proofs.Step.{step_met, step_stop}
use Rattle.block.proofs.Walk.{walk_done, walk_stop, walk_more}
use Rattle.opening.specs.Open.{block_bytes}
use Rattle.opening.proofs.Pairs.{drop_pair}
use Rattle.admission.specs.Blocks.{in_data, block_entries, store_entries}
use Rattle.lines.specs.Lines.{record_line, live_one, live_of}
use Rattle.listing.specs.declared.walk.Place.{Place}
use Rattle.listing.specs.Listing.{record_lines}
use Rattle.listing.specs.Internal.{entries_from, entries_left, place_steps, IsSmall, Reached, Stepping}
use Rattle.listing.proofs.Blocks.{block_length, met_inside}

-- ---- the walk of a block

module _ (raw : List ℕ) (end pos : ℕ) (key : List ℕ) where
  walk_ends : (x : Refusal) → record_at raw end pos (length key) ≡ Err x → (walk_at raw end pos key).entries ≡ []
  unfolding no_entries
  walk_ends x e = go (leb end pos) refl
    where
      go : (b : Bool) → leb end pos ≡ b → (walk_at raw end pos key).entries ≡ []
      go true t = ap (λ w. w.entries) (walk_done raw end pos key (leb-true end pos t))
      go false t = ap (λ w. w.entries) (walk_stop raw end pos key (leb-false end pos t) (step_stop raw end pos key x e))

  walk_meets : (r : Record) → record_at raw end pos (length key) ≡ Ok r
      → (walk_at raw end pos key).entries ≡ entry_of raw pos key r ∷ (walk_at raw end r.next (entry_of raw pos key r).key).entries
  unfolding entry_then
  walk_meets r e = ap (λ w. w.entries) (walk_more raw end pos key (entry_of raw pos key r) r.next (step_met raw end pos key r e))

-- ---- the records of the pairs

pub entries_start : («data» blocks : List ℕ) → entries_from «data» 0 [] blocks ≡ store_entries «data» blocks
unfolding entries_from store_entries block_entries records_of
entries_start «data» [] = refl
entries_start «data» (offset ∷ []) = refl
entries_start «data» (offset ∷ len ∷ pairs) = refl

-- behind the last pair nothing is left
pub entries_end : («data» blocks : List ℕ) (p : Place) (keys : List ℕ) → length blocks - p.pair < 2 → entries_left «data» blocks p keys ≡ []
unfolding entries_left entries_from
entries_end «data» blocks p keys h = few (drop p.pair blocks) (omega (arith, length-drop p.pair blocks))
  where
    few : (l : List ℕ) → length l < 2 → entries_from «data» p.pos (take p.key_len keys) l ≡ []
    few [] n = refl
    few (x ∷ []) n = refl
    few (x ∷ y ∷ l) n = absurd (omega arith)

-- ---- from a place to the next

-- the bytes of a place's block
abbrev raw_at : List ℕ → List ℕ → Place → List ℕ
raw_at «data» blocks p = block_bytes «data» (get_or blocks p.pair 0) (get_or blocks (p.pair + 1) 0)

left_here : («data» blocks : List ℕ) (p : Place) (keys : List ℕ) → p.pair + 1 < length blocks
    → entries_left «data» blocks p keys
    ≡ map (in_data (get_or blocks p.pair 0)) (walk_at (raw_at «data» blocks p) (entries_end_in (raw_at «data» blocks p)) p.pos (take p.key_len keys)).entries
    ++ store_entries «data» (drop (p.pair + 2) blocks)
unfolding entries_left entries_from
left_here «data» blocks p keys h = ap (entries_from «data» p.pos (take p.key_len keys)) (drop_pair blocks p.pair h)

live_few : (k : Kind) → live_one k ≤ 1
unfolding live_one
live_few Put = omega arith
live_few Tombstone = omega arith

module _ («data» blocks : List ℕ) (p : Place) (keys : List ℕ) (small : IsSmall «data» blocks) (room : 16384 ≤ length keys) (reached : Reached «data» blocks p)
    (here : p.pair + 1 < length blocks) where
  abbrev raw : List ℕ
  raw = raw_at «data» blocks p

  abbrev key : List ℕ
  key = take p.key_len keys

  abbrev offset : ℕ
  offset = get_or blocks p.pair 0

  key_length : length key ≡ p.key_len
  key_length =
      let h = reached in
      length-take-le p.key_len keys (omega arith)

  -- where a block's records end: on to the next pair
  abbrev next_pair : Place
  next_pair = record { pair = p.pair + 2; pos = 0; key_len = 0; live = p.live }

  module _ (x : Refusal) (e : record_at raw (entries_end_in raw) p.pos p.key_len ≡ Err x) where
    left_behind : entries_left «data» blocks p keys ≡ entries_left «data» blocks next_pair keys
    unfolding entries_left
    left_behind =
        let stops : record_at raw (entries_end_in raw) p.pos (length key) ≡ Err x = subst (λ (n : ℕ). record_at raw (entries_end_in raw) p.pos n ≡ Err x) (sym key_length) e in
        left_here «data» blocks p keys here
        ∙ ap (λ (l : List Entry). map (in_data (get_or blocks p.pair 0)) l ++ store_entries «data» (drop (p.pair + 2) blocks)) (walk_ends raw (entries_end_in raw) p.pos key x stops)
        ∙ sym (entries_start «data» (drop (p.pair + 2) blocks))

    pub pair_steps : Stepping «data» blocks p keys next_pair keys []
    unfolding place_steps
    pair_steps =
        let h = reached in
        let n = ap length left_behind in
        record {
          lines = ap record_lines left_behind;
          live = ap (λ (l : List Entry). p.live + live_of l) left_behind;
          fewer = omega arith;
          reached = record { pair = omega arith; key = omega arith; pos = omega arith; live = omega arith };
        }

  -- a record that is met, with its key in the key buffer
  module _ (r : Record) (e : record_at raw (entries_end_in raw) p.pos p.key_len ≡ Ok r) (after : List ℕ)
      (read : take r.key_len after ≡ (entry_of raw p.pos key r).key) where
    abbrev behind : Place
    behind = record { pair = p.pair; pos = r.next; key_len = r.key_len; live = p.live + live_one r.kind }

    abbrev listed : Entry
    listed = in_data offset (entry_of raw p.pos key r)

    left-met : entries_left «data» blocks p keys ≡ listed ∷ entries_left «data» blocks behind after
    left-met =
        let meets : record_at raw (entries_end_in raw) p.pos (length key) ≡ Ok r = subst (λ (n : ℕ). record_at raw (entries_end_in raw) p.pos n ≡ Ok r) (sym key_length) e in
        let rest = store_entries «data» (drop (p.pair + 2) blocks) in
        left_here «data» blocks p keys here
        ∙ ap (λ (l : List Entry). map (in_data offset) l ++ rest) (walk_meets raw (entries_end_in raw) p.pos key r meets)
        ∙ ap (λ (k : List ℕ). listed ∷ (map (in_data offset) (walk_at raw (entries_end_in raw) r.next k).entries ++ rest)) (sym read)
        ∙ ap (λ (l : List Entry). listed ∷ l) (sym (left_here «data» blocks behind after here))

    pub record_steps : (line : List ℕ) → line ≡ record_line listed → Stepping «data» blocks p keys behind after line
    unfolding place_steps record_lines live_of in_data entry_of
    record_steps line w =
        let h = reached in
        let i = met_inside raw p.pos p.key_len r e in
        let f = live_few r.kind in
        let n = ap length left-met in
        record {
          lines = ap record_lines left-met ∙ ap (λ (l : List ℕ). l ++ record_lines (entries_left «data» blocks behind after)) (sym w);
          live = ap (λ (l : List Entry). p.live + live_of l) left-met ∙ sym (add_assoc p.live (live_one r.kind) (live_of (entries_left «data» blocks behind after)));
          fewer = omega arith;
          reached = record { pair = omega arith; key = omega arith; pos = omega (arith, block-short); live = omega arith };
        }
      where
        block-short : length raw ≤ length «data»
        block-short = block_length «data» offset (get_or blocks (p.pair + 1) 0)

    -- the same of the block's bytes under another name, and of a place that is the one behind
    pub record_stepping : (bytes : List ℕ) → bytes ≡ raw_at «data» blocks p → (q : Place) → q ≡ behind → (line : List ℕ)
        → line ≡ record_line (in_data offset (entry_of bytes p.pos key r)) → Stepping «data» blocks p keys q after line
    record_stepping bytes b q s line w =
        subst (λ (x : Place). Stepping «data» blocks p keys x after line) (sym s)
        (record_steps line (subst (λ (x : List ℕ). line ≡ record_line (in_data offset (entry_of x p.pos key r))) b w))
