use Rattle.std.proofs.Common.{◌≡◌, ℕ, List, length, refl, ap, ◌∙◌, arith}
use Rattle.std.proofs.lemmas.List.Edits.{sets}
use Rattle.num.proofs.Copy.{copied}
use Rattle.encoding.specs.Encoding.{scan_magic}
use Rattle.tables.specs.Internal.{listed_scan_fields}
use Rattle.tables.proofs.Stores.{field_last, field_more, magic_first}
use Rattle.tables.proofs.put_scan_head.Goals as goal

pub returns : goal.returns
unfolding scan_magic listed_scan_fields
returns c =
    let part = c.copy_from_slice in
    let n : length part.new.self ≡ 8 = ap (λ (l : List ℕ). length l) part.ensures.after in
    magic_first _ _ _ scan_magic (listed_scan_fields c.args.prefix c.args.prefixes) refl
    (copied c.args.output.now part.new.self 0 8 (omega arith) n ∙ ap (sets c.args.output.now 0) part.ensures.after)
    (field_more _ _ _ _ _ _ _ _ (omega arith) c.put_uint.ensures
    (field_more _ _ _ _ _ _ _ _ (omega arith) c.write.ensures
    (field_last _ _ _ _ _ c.write-2.ensures)))
