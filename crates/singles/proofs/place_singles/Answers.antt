use Rattle.std.proofs.Common.{ℕ, ◌<◌, List, length, get_or, sym, ap, ◌∙◌, arith}
use Rattle.construction.specs.Construct.{bucket_count, size_of}
use Rattle.construction.proofs.Order.{order_size, order_read}
use Rattle.singles.proofs.Loop.{running_done, running_passed, running_placed, has_free, passed}
use Rattle.singles.proofs.place_singles.Goals.{then-members-eq1, else-members-eq1}
use Rattle.singles.proofs.place_singles.Goals as goal

pub next_free-free-requires : goal.next_free-free-requires
unfolding size_of
next_free-free-requires c =
    let a = c.args.arranged.now in
    let run = c.loop-x.invariant in
    let known : c.loop-x.x-index < bucket_count a.hashes.now = omega (arith, order_size _ a.ordered) in
    let e = order_read _ a.ordered _ in
    let one = sym (ap length c.members_of-members.ensures) ∙ c.if-members-eq1.true in
    record { has_free = has_free run known _ e one; passed = passed run known _ e one }

pub loop-x-preserved : goal.loop-x-preserved
unfolding size_of
loop-x-preserved c =
    let a = c.args.arranged.now in
    let run = c.loop-x.invariant in
    let e = order_read _ a.ordered c.loop-x.x-index in
    elim c.if-members-eq1.branch [
      | then-members-eq1 w ↦ rw (w.pilots-is, w.slots-is, w.from-is)
          (running_placed run (omega (arith, order_size _ a.ordered)) _ e (sym (ap length c.members_of-members.ensures) ∙ w.if-members-eq1.true) _ w.next_free-free.ensures.0 _ (ap (λ (l : List ℕ). get_or l 0 0) c.members_of-members.ensures))
      | else-members-eq1 w ↦ rw (w.pilots-is, w.slots-is, w.from-is)
          (running_passed run (omega (arith, order_size _ a.ordered)) _ e (λ one. w.if-members-eq1.false (ap length c.members_of-members.ensures ∙ one)))
    ]

pub returns-clause-placed : goal.returns-clause-placed
returns-clause-placed c = running_done c.loop-x.invariant (omega (arith, order_size _ c.args.arranged.now.ordered))
