use mathlib.Core.Path.{sym, ap, ◌∙◌, subst⁻¹}
use Prim.Native.Nat.{ℕ, ◌^◌, ◌<◌}
use Rattle.lookup.specs.Lookup.{slot_read_of}
use Rattle.opened.proofs.Records.{record_facts}
use Rattle.lookup.proofs.Places.{slot_at_lt, hash_read_lem}
use Rattle.lookup.proofs.Section.locate.Goals as goal

pub slot_read-requires : goal.slot_read-requires
slot_read-requires c =
    record { at_bound = subst⁻¹ (λ (n : ℕ). n < 2 ^ 36) c.slot_at-at.ensures (slot_at_lt c.args.self.now.bytes.now c.args.self.now.opened (record_facts _ _ c.args.self.now.given) _) }

pub returns : goal.returns
returns c =
    let args = c.args in
    let s = args.self.now.bytes.now in
    c.slot_read.ensures
    ∙ ap (slot_read_of s args.self.now.opened args.key.now args.limit args.h) c.slot_at-at.ensures
    ∙ sym (hash_read_lem s args.self.now.opened (record_facts _ _ c.args.self.now.given) args.h args.key.now args.limit)
