use Rattle.std.proofs.Common.{◌∙◌, arith, length-set}
use Rattle.pilots.proofs.Turn.{at_inside, turn_taken, turn_twice, turn_many, turn_few, turns_serve, turns_chosen}
use Rattle.pilots.proofs.try_pilot.Goals.{then-slots-at-via-then-slots-at, then-slots-at-via-else-slots-at+then-is_candidate, then-members-gt-FEW, else-members-gt-FEW}
use Rattle.pilots.proofs.try_pilot.Goals as goal

pub overflow_cast-at : goal.overflow_cast-at
overflow_cast-at c =
    let l = c.loop-j.invariant in
    omega (arith, at_inside c.args.pilot c.requires l.tried l.candidates_length c.loop-j-test.true c.position-at.ensures, c.requires.few)

pub offset_bounds-slots-at : goal.offset_bounds-slots-at
offset_bounds-slots-at c =
    let l = c.loop-j.invariant in
    omega (arith, at_inside c.args.pilot c.requires l.tried l.candidates_length c.loop-j-test.true c.position-at.ensures, c.requires.few)

pub bounds-slots-at : goal.bounds-slots-at
bounds-slots-at c =
    let l = c.loop-j.invariant in
    omega (arith, at_inside c.args.pilot c.requires l.tried l.candidates_length c.loop-j-test.true c.position-at.ensures, c.requires.slots_length)

pub returns-then-slots-at-clause-answer : goal.returns-then-slots-at-clause-answer
returns-then-slots-at-clause-answer c =
    let l = c.loop-j.invariant in
    elim c.then-slots-at.branch [
      | then-slots-at-via-then-slots-at w ↦ turn_taken c.args.pilot c.requires l.tried l.candidates_length c.loop-j-test.true c.position-at.ensures w.if-slots-at.true
      | then-slots-at-via-else-slots-at+then-is_candidate w ↦
          turn_twice c.args.pilot c.requires l.tried l.candidates_length c.loop-j-test.true c.position-at.ensures w.is_candidate.ensures w.if-is_candidate.true
    ]

pub loop-j-preserved : goal.loop-j-preserved
loop-j-preserved c =
    let l = c.loop-j.invariant in
    elim c.if-members-gt-FEW.branch [
      | then-members-gt-FEW w ↦ rw w.indices-is (record {
        candidates_length = length-set _ _ _ ∙ l.candidates_length;
        indices_length = length-set _ _ _ ∙ l.indices_length;
        tried = turn_many c.args.pilot c.requires l.tried l.candidates_length c.loop-j-test.true c.position-at.ensures c.is_candidate.ensures c.if-slots-at.false c.if-is_candidate.false
            (omega (arith, at_inside c.args.pilot c.requires l.tried l.candidates_length c.loop-j-test.true c.position-at.ensures, c.requires.indices_room));
      })
      | else-members-gt-FEW w ↦ rw w.indices-is (record {
        candidates_length = length-set _ _ _ ∙ l.candidates_length;
        indices_length = l.indices_length;
        tried = turn_few c.args.pilot c.requires l.tried l.candidates_length c.loop-j-test.true c.position-at.ensures c.is_candidate.ensures c.if-slots-at.false c.if-is_candidate.false (omega (arith, w.if-members-gt-FEW.false));
      })
    ]

pub returns-clause-answer : goal.returns-clause-answer
returns-clause-answer c = let l = c.loop-j.invariant in turns_serve c.args.pilot c.requires l.tried l.candidates_length (omega arith)

pub returns-clause-chosen : goal.returns-clause-chosen
returns-clause-chosen c = λ _. let l = c.loop-j.invariant in turns_chosen c.args.pilot c.requires l.tried l.candidates_length (omega arith)
