use Rattle.std.proofs.Common.{sym, ◌∙◌}
use Rattle.readback.proofs.Steps.{passes_limit}
use Rattle.readback.proofs.Progress.version.Goals as goal

pub invariant_of-builder_after : goal.invariant_of-builder_after
invariant_of-builder_after c = record { limit = passes_limit _ _ _ _ _ _ _ _ c.bytes.ensures c.len.ensures (sym c.version_passes.ensures ∙ c.if-not-version_passes.false) }
