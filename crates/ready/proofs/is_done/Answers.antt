use mathlib.Core.Path.{◌≡◌, sym, ap, ◌∙◌}
use mir.Facts.{to_z-of_z}
use borrow.Author.Tests.{eq-eqb, lt-leb}
use Rattle.std.specs.Prelude.{Some}
use Rattle.rules.specs.Scheduler.{is_live}
use Rattle.rules.specs.Steps.{recipes}
use Rattle.state.specs.View.{queue_of}
use Rattle.ready.specs.Ready.{natural}
use Rattle.ready.proofs.Queue.{not-live, negative_done, zero_done, not-issued, issued_done}
use Rattle.ready.proofs.is_done.Goals as goal
use Rattle.ready.proofs.is_done.Goals.{In-Some}

-- the number that the value is
is_number : (c : In-Some) → natural c.args.v ≡ Some c.in-Some.number
is_number c = ap natural (sym (to_z-of_z c.ranges.v)) ∙ sym c.natural.ensures ∙ c.in-Some.is

pub returns-in_default : goal.returns-in_default
returns-in_default c = λ x.
    let s = c.args.s.now in
    let none = ap natural (sym (to_z-of_z c.ranges.v)) ∙ sym c.natural.ensures ∙ c.in_default.is in
    negative_done s.issued (is_live (recipes x) (queue_of s.queue)) c.args.v none

pub returns-then-number-eq0 : goal.returns-then-number-eq0
returns-then-number-eq0 c = λ x.
    let s = c.args.s.now in
    let z = c.if-number-eq0.true in
    eq-eqb _ _ z ∙ zero_done s.issued (is_live (recipes x) (queue_of s.queue)) c.args.v c.in-Some.number (is_number (goal.at.returns-then-number-eq0 c).In-Some) z

pub returns-then-number-from : goal.returns-then-number-from
returns-then-number-from c = λ x.
    let s = c.args.s.now in
    let number = c.in-Some.number in
    sym (not-live x number (queue_of s.queue) _ _ c.position.ensures c.is_none.ensures)
    ∙ issued_done s.issued (is_live (recipes x) (queue_of s.queue)) c.args.v number (is_number (goal.at.returns-then-number-from c).In-Some)
    c.if-number-eq0.false (rw c.from.ensures at c.if-number-from.true)

pub returns-else-number-from : goal.returns-else-number-from
returns-else-number-from c = λ x.
    let s = c.args.s.now in
    let number = c.in-Some.number in
    let l = rw c.from.ensures at c.if-number-from.false in
    lt-leb number _ c.if-number-from.false
    ∙ not-issued s.issued (is_live (recipes x) (queue_of s.queue)) c.args.v number (is_number (goal.at.returns-else-number-from c).In-Some) c.if-number-eq0.false l
