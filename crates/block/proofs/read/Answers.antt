use mathlib.Core.Path.{sym}
use mathlib.Core.Bool.{true≢false}
use native.Mathlib.Omega.{arith}
use Rattle.rules.proofs.Blocks.Accepted.{head_facts}
use Rattle.state.specs.View.{queue_of}
use Rattle.block.proofs.Reading.{counts, Taken, reads}
use Rattle.block.proofs.read.Goals as goal
use Rattle.block.proofs.read.Goals.{then-taken-eq1, else-taken-eq1}

pub tasks_in-tasks-requires : goal.tasks_in-tasks-requires
tasks_in-tasks-requires c =
    let b = c.args.block.now in
    let e = c.in-Some.ensures.cases.same in
    (counts b (head_facts b c.requires.1) (rw e at c.from-live.ensures) (rw e at c.from-taken.ensures)).2

pub overflow_sub-result : goal.overflow_sub-result
overflow_sub-result c =
    let b = c.args.block.now in
    let e = c.in-Some.ensures.cases.same in
    (counts b (head_facts b c.requires.1) (rw e at c.from-live.ensures) (rw e at c.from-taken.ensures)).1

pub invariant_of-result : goal.invariant_of-result
invariant_of-result c =
    let b = c.args.block.now in
    let e = c.in-Some.ensures.cases.same in
    let h = counts b (head_facts b c.requires.1) (rw e at c.from-live.ensures) (rw e at c.from-taken.ensures) in
    record { front_fits = omega (arith, h.0); few = omega (arith, h.2) }

pub invariant_of-result-2 : goal.invariant_of-result-2
invariant_of-result-2 c =
    let b = c.args.block.now in
    let e = c.in-Some.ensures.cases.same in
    let h = counts b (head_facts b c.requires.1) (rw e at c.from-live.ensures) (rw e at c.from-taken.ensures) in
    record {
      few = elim c.if-taken-eq1.branch [
        | then-taken-eq1 w ↦ λ some. omega (arith, h.1, h.2, w.if-taken-eq1.true)
        | else-taken-eq1 w ↦ rw w.active-is (λ some. absurd (true≢false (sym some)))
      ];
    }

pub returns : goal.returns
unfolding queue_of
returns c =
    let b = c.args.block.now in
    let e = c.in-Some.ensures.cases.same in
    let head = head_facts b c.requires.1 in
    let taken : Taken c.from-taken.result c.if-taken-eq1.active c.tasks_in-tasks.result = elim c.if-taken-eq1.branch [
      | then-taken-eq1 w ↦ record { none = λ z. absurd (omega (arith, w.if-taken-eq1.true)); first = λ o. w.active-is }
      | else-taken-eq1 w ↦ record { none = λ z. w.active-is; first = λ o. absurd (w.if-taken-eq1.false o) }
    ] in
    reads b head _ _ _ _ _ _
    (rw e at c.half_at.ensures) (rw e at c.from-live.ensures) (rw e at c.from-taken.ensures) (rw e at c.variables_in.ensures)
    taken (rw e at c.tasks_in-tasks.ensures)
