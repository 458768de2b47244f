use Rattle.std.proofs.Common.{ℕ, ◌+◌, ap, ◌∙◌, arith}
use Rattle.std.proofs.lemmas.List.Edits.{sets}
use Rattle.num.specs.Number.{le_bytes}
use Rattle.num.proofs.Stores.{behind_number}
use Rattle.builder.specs.Offer.{version_bytes}
use Rattle.adding.proofs.write_version.Goals as goal

pub returns : goal.returns
unfolding version_bytes
returns c =
    let kind = c.write-2.ensures ∙ ap (λ (n : ℕ). sets c.write.new.out (c.args.at + 8) (le_bytes 1 n)) c.from.ensures in
    let crc = c.write-5.ensures ∙ ap (λ (n : ℕ). sets c.write-4.new.out (c.args.at + 21) (le_bytes 4 n)) c.crc32.ensures in
    behind_number _ _ _ _ _ _ _ _ (omega arith) c.write.ensures
    (behind_number _ _ _ _ _ _ _ _ (omega arith) kind
    (behind_number _ _ _ _ _ _ _ _ (omega arith) c.write-3.ensures
    (behind_number _ _ _ _ _ _ _ _ (omega arith) c.write-4.ensures crc)))
