use native.Mathlib.Omega.{arith}
use Rattle.opened.proofs.Records.{record_facts}
use Rattle.lookup.proofs.Places.{some_key, pilots_fit, slots_fit}
use Rattle.lookup.proofs.Section.slot_at.Goals as goal

pub slot-slot-requires : goal.slot-slot-requires
slot-slot-requires c = some_key _ _ (record_facts _ _ c.args.self.now.given)

pub overflow_mul-result : goal.overflow_mul-result
overflow_mul-result c = omega (arith, pilots_fit _ _ (record_facts _ _ c.args.self.now.given) c.pilot_len.result c.pilot_len.ensures)

pub overflow_add-result : goal.overflow_add-result
overflow_add-result c = omega (arith, pilots_fit _ _ (record_facts _ _ c.args.self.now.given) c.pilot_len.result c.pilot_len.ensures)

pub overflow_mul-result-2 : goal.overflow_mul-result-2
overflow_mul-result-2 c = omega (arith, slots_fit _ _ (record_facts _ _ c.args.self.now.given) c.args.h c.pilot_of-pilot.result c.slot-slot.result c.slot_len.result c.slot-slot.ensures c.slot_len.ensures)

pub overflow_add-result-2 : goal.overflow_add-result-2
overflow_add-result-2 c = omega (arith, pilots_fit _ _ (record_facts _ _ c.args.self.now.given) c.pilot_len.result c.pilot_len.ensures, slots_fit _ _ (record_facts _ _ c.args.self.now.given) c.args.h c.pilot_of-pilot.result c.slot-slot.result c.slot_len.result c.slot-slot.ensures c.slot_len.ensures)
