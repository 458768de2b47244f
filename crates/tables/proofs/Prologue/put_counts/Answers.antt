use Rattle.std.proofs.Common.{◌≡◌, ℕ, List, length, refl, ap, ◌∙◌}
use Rattle.std.proofs.lemmas.List.Edits.{sets}
use Rattle.num.proofs.Copy.{copied}
use native.Mathlib.Omega.{arith}
use Rattle.encoding.specs.Encoding.{magic, buckets_of, arena_start_of}
use Rattle.tables.specs.Internal.{count_fields}
use Rattle.tables.proofs.Stores.{field_last, field_more, magic_first}
use Rattle.tables.proofs.Prologue.put_counts.Goals as goal

pub returns : goal.returns
unfolding magic count_fields buckets_of arena_start_of
returns c =
    let part = c.copy_from_slice in
    let n : length part.new.self ≡ 8 = ap (λ (l : List ℕ). length l) part.ensures.after in
    let r = c.requires.room in
    magic_first _ _ _ magic (count_fields c.args.self.layout.encoding c.args.self.seed c.args.self.keys) refl
    (copied c.args.output.now part.new.self 0 8 (omega arith) n ∙ ap (sets c.args.output.now 0) part.ensures.after)
    (field_more _ _ _ _ _ _ _ _ (omega arith) c.write.ensures
    (field_more _ _ _ _ _ _ _ _ (omega arith) c.write-2.ensures
    (field_more _ _ _ _ _ _ _ _ (omega arith) c.write-3.ensures
    (field_last _ _ _ _ _ c.write-4.ensures))))
