use mathlib.Core.Path.{◌≡◌, sym, ap, ◌∙◌}
use Prim.Native.Nat.{◌-◌}
use native.Mathlib.Omega.{arith}
use borrow.Author.Tests.{eqb-true}
use Rattle.std.proofs.lemmas.Result.{err_from_is_err_and}
use Rattle.rules.specs.Table as T
use Rattle.rules.specs.Table.{span_of, inner, after, fine, check_rows}
use Rattle.rules.proofs.Grammar.Checking.{right-whole, row-empty}
use Rattle.table.specs.Check.{encloses_of, OfRow, enclosing}
use Rattle.table.proofs.Rows.{inside_of, inside_none, inside-statements, inside-test, whole-test, inner-row, test-row, left_end, left-part, left_head, head-here, left-inside, left-next, left_leaf}
use Rattle.table.proofs.check.+check_rows.Goals as goal
use Rattle.table.proofs.check.+check_rows.Goals.{in-Statements+then-not-is_empty+in_ok-check_rows-in-Statements, in-Statements+else-not-is_empty, in-ExpressionStatements+then-not-is_empty-2+in_ok-check_rows-in-ExpressionStatements, in-ExpressionStatements+else-not-is_empty-2, in_default}

pub returns-in_err-check_head : goal.returns-in_err-check_head
returns-in_err-check_head t c =
    let p = err_from_is_err_and c.from_residual.result c.from_residual.ensures.1 in
    rw (p.1, p.2) (left_head c.requires.1 c.loop-off.invariant c.loop-off-test.true c.from-rest.ensures c.in_err-check_head.ensures.verdict)

pub loop-off-preserved-in-Nothing : goal.loop-off-preserved-in-Nothing
loop-off-preserved-in-Nothing t c =
    left_leaf c.requires.1 c.loop-off.invariant c.loop-off-test.true c.from-rest.ensures c.in_ok-check_head.ensures.verdict
    (sym c.in_ok-check_head.ensures.encloses ∙ ap encloses_of c.in-Nothing.is)

pub enclosed-body-requires : goal.enclosed-body-requires
enclosed-body-requires t c = right-whole (head-here c.requires.1 c.loop-off.invariant c.loop-off-test.true c.from-rest.ensures c.in_ok-check_head.ensures.verdict).own

pub overflow_sub-left : goal.overflow_sub-left
overflow_sub-left t c = (head-here c.requires.1 c.loop-off.invariant c.loop-off-test.true c.from-rest.ensures c.in_ok-check_head.ensures.verdict).levels

pub check_rows-requires : goal.check_rows-requires
check_rows-requires t c =
    let a = left-part c.requires.1 c.loop-off.invariant c.loop-off-test.true c.from-rest.ensures in
    let h = head-here c.requires.1 c.loop-off.invariant c.loop-off-test.true c.from-rest.ensures c.in_ok-check_head.ensures.verdict in
    (omega (arith, c.decreases, h.levels), (rw c.enclosed-body.ensures (inner-row a h), OfRow.statements))

pub returns-in_err-check_rows-in-Statements : goal.returns-in_err-check_rows-in-Statements
returns-in_err-check_rows-in-Statements t c =
    let r = c.from_residual-in_err-check_rows-in-Statements in
    let p = err_from_is_err_and r.result r.ensures.1 in
    rw (p.1, p.2)
    (left-inside c.requires.1 c.loop-off.invariant c.loop-off-test.true c.from-rest.ensures c.in_ok-check_head.ensures.verdict
    (c.in_err-check_rows-in-Statements.ensures ∙ ap (check_rows T.statement _ _) c.enclosed-body.ensures
    ∙ inside-statements _ c.loop-off.i c.from-rest.result.now (sym c.in_ok-check_head.ensures.encloses ∙ ap encloses_of c.in-Statements.is)))

pub enclosed-test-requires : goal.enclosed-test-requires
enclosed-test-requires t c = right-whole (head-here c.requires.1 c.loop-off.invariant c.loop-off-test.true c.from-rest.ensures c.in_ok-check_head.ensures.verdict).own

pub beyond-body-requires : goal.beyond-body-requires
beyond-body-requires t c =
    let h = head-here c.requires.1 c.loop-off.invariant c.loop-off-test.true c.from-rest.ensures c.in_ok-check_head.ensures.verdict in
    rw c.enclosed-test.ensures (whole-test h (sym c.in_ok-check_head.ensures.encloses ∙ ap encloses_of c.in-ExpressionStatements.is))

pub span_of-requires : goal.span_of-requires
span_of-requires t c =
    let h = head-here c.requires.1 c.loop-off.invariant c.loop-off-test.true c.from-rest.ensures c.in_ok-check_head.ensures.verdict in
    let w = whole-test h (sym c.in_ok-check_head.ensures.encloses ∙ ap encloses_of c.in-ExpressionStatements.is) in
    rw c.enclosed-test.ensures (omega arith)

pub overflow_sub-left-then-not-is_empty-2 : goal.overflow_sub-left-then-not-is_empty-2
overflow_sub-left-then-not-is_empty-2 t c =
    (head-here c.requires.1 c.loop-off.invariant c.loop-off-test.true c.from-rest.ensures c.in_ok-check_head.ensures.verdict).levels

pub check_rows-requires-then-not-is_empty-2 : goal.check_rows-requires-then-not-is_empty-2
check_rows-requires-then-not-is_empty-2 t c =
    let a = left-part c.requires.1 c.loop-off.invariant c.loop-off-test.true c.from-rest.ensures in
    let h = head-here c.requires.1 c.loop-off.invariant c.loop-off-test.true c.from-rest.ensures c.in_ok-check_head.ensures.verdict in
    let x = sym c.in_ok-check_head.ensures.encloses ∙ ap encloses_of c.in-ExpressionStatements.is in
    (omega (arith, c.decreases, h.levels), (rw (c.beyond-body.ensures, c.span_of.ensures.0, c.enclosed-test.ensures) (test-row a h x), OfRow.statements))

pub returns-in_err-check_rows-in-ExpressionStatements : goal.returns-in_err-check_rows-in-ExpressionStatements
returns-in_err-check_rows-in-ExpressionStatements t c =
    let r = c.from_residual-in_err-check_rows-in-ExpressionStatements in
    let p = err_from_is_err_and r.result r.ensures.1 in
    rw (p.1, p.2)
    (left-inside c.requires.1 c.loop-off.invariant c.loop-off-test.true c.from-rest.ensures c.in_ok-check_head.ensures.verdict
    ((rw (c.beyond-body.ensures, c.span_of.ensures.0, c.enclosed-test.ensures) at c.in_err-check_rows-in-ExpressionStatements.ensures)
    ∙ inside-test _ c.loop-off.i c.from-rest.result.now (sym c.in_ok-check_head.ensures.encloses ∙ ap encloses_of c.in-ExpressionStatements.is)))

pub loop-off-preserved : goal.loop-off-preserved
loop-off-preserved t c =
    let x = c.in_ok-check_head.ensures.encloses in
    let none : fine ≡ inside_of (enclosing c.from-rest.result.now) (c.args.left - 1) c.loop-off.i c.from-rest.result.now =
    elim c.match-branch-2.branch [
      | in-Statements+then-not-is_empty+in_ok-check_rows-in-Statements w ↦
          w.in_ok-check_rows-in-Statements.ensures ∙ ap (check_rows T.statement _ _) w.enclosed-body.ensures
          ∙ inside-statements _ c.loop-off.i c.from-rest.result.now (sym x ∙ ap encloses_of w.in-Statements.is)
      | in-Statements+else-not-is_empty w ↦
          sym (row-empty T.statement _ _ _ (rw w.enclosed-body.ensures at (eqb-true _ 0 (sym w.is_empty.ensures ∙ w.if-not-is_empty.false))))
          ∙ inside-statements _ c.loop-off.i c.from-rest.result.now (sym x ∙ ap encloses_of w.in-Statements.is)
      | in-ExpressionStatements+then-not-is_empty-2+in_ok-check_rows-in-ExpressionStatements w ↦
          (rw (w.beyond-body.ensures, w.span_of.ensures.0, w.enclosed-test.ensures) at w.in_ok-check_rows-in-ExpressionStatements.ensures)
          ∙ inside-test _ c.loop-off.i c.from-rest.result.now (sym x ∙ ap encloses_of w.in-ExpressionStatements.is)
      | in-ExpressionStatements+else-not-is_empty-2 w ↦
          sym (row-empty T.statement _ _ _ (rw (w.beyond-body.ensures, w.enclosed-test.ensures) at (eqb-true _ 0 (sym w.is_empty-in-ExpressionStatements.ensures ∙ w.if-not-is_empty-2.false))))
          ∙ inside-test _ c.loop-off.i c.from-rest.result.now (sym x ∙ ap encloses_of w.in-ExpressionStatements.is)
      | in_default w ↦ inside_none _ c.loop-off.i c.from-rest.result.now c.in_ok-check_head.field-0 x w.in_default.not-Statements w.in_default.not-ExpressionStatements
    ] in
    left-next c.requires.1 c.loop-off.invariant c.loop-off-test.true c.from-rest.ensures c.in_ok-check_head.ensures.verdict c.span_of-span.ensures.0 none

pub returns : goal.returns
returns t c = left_end c.requires.1 c.loop-off.invariant c.loop-off-test.false
