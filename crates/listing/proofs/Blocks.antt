-- A block of the data, where its entries end, and the key of a record of it in the key buffer.
-- Assumes nothing.
use mathlib.Core.Path.{◌≡◌, ap, ◌∙◌}
use mathlib.Core.List.{List}
use Prim.Native.Nat.{ℕ, ◌+◌, ◌-◌, ◌<◌, ◌≤◌}
use native.Mathlib.Omega.{arith}
use lib.ListN.{length, take, drop, length-take, length-drop}
use lib.Seq.{sets, length-take-le}
use Rattle.num.proofs.Lists.{part_length}
use Rattle.block.specs.declared.Record.{Record}
use Rattle.std.proofs.Common.{Ok}
use Rattle.block.specs.Record.{record_at}
use Rattle.block.specs.Verify.{entries_end_in}
use Rattle.block.specs.Walk.{entry_of}
use Rattle.block.proofs.Step.{RecordInside, record_inside, key_copied}
use Rattle.opening.specs.Open.{block_bytes}

-- ---- the bytes of a block

module _ («data» : List ℕ) (offset len : ℕ) where
  pub block_length : length (block_bytes «data» offset len) ≤ length «data»
  block_length = omega (arith, length-take len (drop offset «data»), length-drop offset «data»)

  -- a block lies in the data, if it has a byte
  pub block_inside : 0 < length (block_bytes «data» offset len) → offset + length (block_bytes «data» offset len) ≤ length «data»
  block_inside h = omega (arith, length-take len (drop offset «data»), length-drop offset «data»)

-- ---- its entries

end_inside : (raw : List ℕ) → entries_end_in raw ≤ length raw
unfolding entries_end_in
end_inside raw = omega arith

module _ (raw : List ℕ) (pos keyLen : ℕ) (r : Record) (e : record_at raw (entries_end_in raw) pos keyLen ≡ Ok r) where
  -- where a record that was met lies
  pub met_inside : RecordInside (length raw) pos keyLen r
  met_inside =
      let f = record_inside raw (entries_end_in raw) pos keyLen r e in
      let n = f.inside in
      record { shared = f.shared; longer = f.longer; place = f.place; next = f.next; inside = omega (arith, end_inside raw) }

  -- its key, once the bytes that it does not share are copied behind those that it does
  pub key_read_lem : (keys after : List ℕ) → keyLen ≤ length keys → r.key_len ≤ length keys
      → after ≡ sets keys r.shared (take (r.key_len - r.shared) (drop (pos + 21) raw))
      → take r.key_len after ≡ (entry_of raw pos (take keyLen keys) r).key
  unfolding entry_of
  key_read_lem keys after l m a =
      let f = met_inside in
      let own = take (r.key_len - r.shared) (drop (pos + 21) raw) in
      let n : length own ≡ r.key_len - r.shared = part_length raw (pos + 21) (r.key_len - r.shared) (omega arith) in
      let k : length (take keyLen keys) ≡ keyLen = length-take-le keyLen keys l in
      let t : r.key_len ≡ r.shared + length own = omega arith in
      (λ j. take (t j) (a j))
      ∙ key_copied keys (take keyLen keys) own r.shared (ap (λ (i : ℕ). take i keys) k) (omega arith) (omega arith)
