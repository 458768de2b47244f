use Rattle.std.proofs.Common.{◌≡◌, ℕ, ◌+◌, ◌-◌, ◌≤◌, length, take, drop, refl, ap, ◌∙◌, arith, length-drop}
use Rattle.std.proofs.lemmas.List.Edits.{sets}
use lib.Seq.{take_all}
use Rattle.area.specs.Area.{first_version_at}
use Rattle.keyrecords.specs.Internal.{key_record_size}
use Rattle.keyrecords.proofs.Records.{record_parts}
use Rattle.keyrecords.proofs.put_key.Goals as goal

pub returns-clause-output_after : goal.returns-clause-output_after
unfolding key_record_size
returns-clause-output_after c =
    let area = c.args.source.now.area.now in
    let head = c.args.head in
    let key = c.bytes.result.now in
    let inside : first_version_at area head ≤ length area = omega (arith, c.requires.stand.inside) in
    let place = c.args.at + c.key_header.result in
    let suffix : take (length key - c.args.shared) (drop c.args.shared key) ≡ drop c.args.shared key =
    take_all (length key - c.args.shared) (drop c.args.shared key) (omega (arith, length-drop c.args.shared key)) in
    record_parts _ _ area key _ _ _ _ head _ _ _ _ _ _ _ _ inside (ap (λ (n : ℕ). n - c.args.shared) c.len.ensures) c.versions-versions.ensures
    (ap (λ (n : ℕ). c.args.at + n) c.key_header.ensures) refl c.bytes.ensures c.first.ensures c.put_key_header.ensures
    (c.put_part.ensures ∙ ap (sets c.put_key_header.new.output place) suffix) c.put_versions.ensures.output_after
