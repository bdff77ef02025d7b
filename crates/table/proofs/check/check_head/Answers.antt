use mathlib.Core.Path.{sym, ap, ◌∙◌}
use Prim.Native.Nat.{ℕ}
use Rattle.std.proofs.lemmas.Result.{err_from_is_err_and}
use Rattle.rules.specs.Table.{kind_row, at_end, within, check_e}
use Rattle.rules.proofs.Grammar.Checking.{right, right-whole}
use Rattle.table.specs.Check.{sort_of}
use Rattle.table.proofs.Expressions.{rule-some, inner-part}
use Rattle.table.proofs.Rows.{head_own, head_none, head_below, expr-sole, expr-test, expr_none, sole-span, test-span}
use Rattle.table.proofs.check.check_head.Goals as goal

pub returns-in_err-kind-clause-verdict : goal.returns-in_err-kind-clause-verdict
returns-in_err-kind-clause-verdict c =
    let p = err_from_is_err_and c.from_residual.result c.from_residual.ensures.1 in
    let e = c.in_err-kind.ensures.fault in
    rw (p.1, p.2, c.in_err-kind.ensures.place, e) (head_own (sort_of c.args.sort) c.args.left c.args.at c.args.part.now (λ z. rule-some c.in_err-kind.field-0.0.rule (e ∙ z)))

pub returns-then-left-eq0-clause-verdict : goal.returns-then-left-eq0-clause-verdict
returns-then-left-eq0-clause-verdict c =
    rw c.at.ensures (head_none (sort_of c.args.sort) c.args.left c.args.at c.args.part.now (sym c.in_ok-kind.ensures.fault) c.if-left-eq0.true)

pub enclosed-requires : goal.enclosed-requires
enclosed-requires c = right-whole (right (sort_of c.args.sort) within c.args.part.now (sym c.in_ok-kind.ensures.fault))

pub check_expr-requires : goal.check_expr-requires
check_expr-requires c =
    let g = right (sort_of c.args.sort) within c.args.part.now (sym c.in_ok-kind.ensures.fault) in
    let x = ap (λ (n : ℕ). (kind_row n).encloses) c.in_ok-kind.ensures.kind ∙ sym c.in-OneExpression.ensures in
    rw c.enclosed.ensures (inner-part c.requires.0 g (sole-span g x))

pub returns-in_err-check_expr-in-OneExpression-clause-verdict : goal.returns-in_err-check_expr-in-OneExpression-clause-verdict
returns-in_err-check_expr-in-OneExpression-clause-verdict c =
    let r = c.from_residual-in_err-check_expr-in-OneExpression in
    let p = err_from_is_err_and r.result r.ensures.1 in
    let x = ap (λ (n : ℕ). (kind_row n).encloses) c.in_ok-kind.ensures.kind ∙ sym c.in-OneExpression.ensures in
    rw (p.1, p.2)
    (c.in_err-check_expr-in-OneExpression.ensures ∙ ap (check_e _ _ at_end) c.enclosed.ensures
    ∙ expr-sole _ c.args.at c.args.part.now x
    ∙ head_below (sort_of c.args.sort) c.args.left c.args.at c.args.part.now (sym c.in_ok-kind.ensures.fault) c.if-left-eq0.false)

pub enclosed-requires-in-ExpressionStatements : goal.enclosed-requires-in-ExpressionStatements
enclosed-requires-in-ExpressionStatements c = right-whole (right (sort_of c.args.sort) within c.args.part.now (sym c.in_ok-kind.ensures.fault))

pub check_expr-requires-in-ExpressionStatements : goal.check_expr-requires-in-ExpressionStatements
check_expr-requires-in-ExpressionStatements c =
    let g = right (sort_of c.args.sort) within c.args.part.now (sym c.in_ok-kind.ensures.fault) in
    let x = ap (λ (n : ℕ). (kind_row n).encloses) c.in_ok-kind.ensures.kind ∙ sym c.in-ExpressionStatements.ensures in
    rw c.enclosed-in-ExpressionStatements.ensures (inner-part c.requires.0 g (test-span g x))

pub returns-in_err-check_expr-in-ExpressionStatements-clause-verdict : goal.returns-in_err-check_expr-in-ExpressionStatements-clause-verdict
returns-in_err-check_expr-in-ExpressionStatements-clause-verdict c =
    let r = c.from_residual-in_err-check_expr-in-ExpressionStatements in
    let p = err_from_is_err_and r.result r.ensures.1 in
    let x = ap (λ (n : ℕ). (kind_row n).encloses) c.in_ok-kind.ensures.kind ∙ sym c.in-ExpressionStatements.ensures in
    rw (p.1, p.2)
    (c.in_err-check_expr-in-ExpressionStatements.ensures ∙ ap (check_e _ _ within) c.enclosed-in-ExpressionStatements.ensures
    ∙ expr-test _ c.args.at c.args.part.now x
    ∙ head_below (sort_of c.args.sort) c.args.left c.args.at c.args.part.now (sym c.in_ok-kind.ensures.fault) c.if-left-eq0.false)

pub returns-in_ok-check_expr-in-OneExpression-clause-verdict : goal.returns-in_ok-check_expr-in-OneExpression-clause-verdict
returns-in_ok-check_expr-in-OneExpression-clause-verdict c =
    let x = ap (λ (n : ℕ). (kind_row n).encloses) c.in_ok-kind.ensures.kind ∙ sym c.in-OneExpression.ensures in
    c.in_ok-check_expr-in-OneExpression.ensures ∙ ap (check_e _ _ at_end) c.enclosed.ensures
    ∙ expr-sole _ c.args.at c.args.part.now x
    ∙ head_below (sort_of c.args.sort) c.args.left c.args.at c.args.part.now (sym c.in_ok-kind.ensures.fault) c.if-left-eq0.false

pub returns-in_ok-check_expr-in-ExpressionStatements-clause-verdict : goal.returns-in_ok-check_expr-in-ExpressionStatements-clause-verdict
returns-in_ok-check_expr-in-ExpressionStatements-clause-verdict c =
    let x = ap (λ (n : ℕ). (kind_row n).encloses) c.in_ok-kind.ensures.kind ∙ sym c.in-ExpressionStatements.ensures in
    c.in_ok-check_expr-in-ExpressionStatements.ensures ∙ ap (check_e _ _ within) c.enclosed-in-ExpressionStatements.ensures
    ∙ expr-test _ c.args.at c.args.part.now x
    ∙ head_below (sort_of c.args.sort) c.args.left c.args.at c.args.part.now (sym c.in_ok-kind.ensures.fault) c.if-left-eq0.false

pub returns-in_default-clause-verdict : goal.returns-in_default-clause-verdict
returns-in_default-clause-verdict c =
    let x = c.encloses-encloses.ensures ∙ ap (λ (n : ℕ). (kind_row n).encloses) (sym c.in_ok-kind.ensures.kind) in
    expr_none _ c.args.at c.args.part.now c.encloses-encloses.result x c.in_default.not-OneExpression c.in_default.not-ExpressionStatements
    ∙ head_below (sort_of c.args.sort) c.args.left c.args.at c.args.part.now (sym c.in_ok-kind.ensures.fault) c.if-left-eq0.false
