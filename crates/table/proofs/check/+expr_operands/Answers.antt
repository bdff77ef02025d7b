use Prim.Native.Nat.{ℕ, ◌+◌, ◌≤◌}
use mathlib.Core.Path.{◌≡◌, sym, ap, ◌∙◌}
use mathlib.Core.List.{List}
use mathlib.Core.Logic.{◌⊎◌, ⊎_elim}
use native.Mathlib.Omega.{arith}
use borrow.Author.Rules.{rules}
use Rattle.std.proofs.lemmas.Result.{err_from_is_err_and}
use Rattle.rules.specs.Table.{kind_of, span_of, inner, expression, before_end, check_e}
use Rattle.rules.proofs.Grammar.Checking.{Right, right, right-whole}
use Rattle.rules.proofs.Grammar.Accepting.{right_of}
use Rattle.table.specs.declared.record.Kind.{Kind}
use Rattle.table.specs.declared.record.Kind.TheVariants.{Unary, Binary}
use Rattle.table.specs.Kinds.{number_of}
use Rattle.table.specs.Check.{ends_of, Part, OfOperator}
use Rattle.table.proofs.Numbered.{one-number}
use Rattle.table.proofs.Expressions.{expr_own, expr_none, expr_below, kind_bounds, leaf, sole, first-fault, second, inner-part, operator-span, after-part}
use Rattle.table.proofs.check.+expr_operands.Goals as goal
use Rattle.table.proofs.check.+expr_operands.Goals.{check_operands-in-Binary+in_ok-check_expr, check_operands-in_default}

-- ---- an expression

pub check_expr-returns-in_err-kind : goal.check_expr-returns-in_err-kind
check_expr-returns-in_err-kind t c =
    let p = err_from_is_err_and c.from_residual.result c.from_residual.ensures.1 in
    rw (p.1, p.2, c.in_err-kind.ensures.place)
    (expr_own c.args.left c.args.at (ends_of c.args.ends) c.args.part.now c.in_err-kind.field-0.0.rule c.in_err-kind.ensures.fault)

pub check_expr-returns-then-left-eq0 : goal.check_expr-returns-then-left-eq0
check_expr-returns-then-left-eq0 t c =
    rw c.at.ensures (expr_none c.args.left c.args.at (ends_of c.args.ends) c.args.part.now c.in_ok-kind.ensures.fault c.if-left-eq0.true)

pub check_expr-check_operands-requires : goal.check_expr-check_operands-requires
check_expr-check_operands-requires t c =
    let k : (c.in_ok-kind.kind ≡ Unary) ⊎ (c.in_ok-kind.kind ≡ Binary) = search rules in
    let operator : 11 ≤ kind_of c.args.part.now =
    rw c.in_ok-kind.ensures.kind (⊎_elim (λ e. let n = ap number_of e in omega arith) (λ e. let n = ap number_of e in omega arith) k) in (
      omega (arith, c.decreases, c.if-left-eq0.false),
      (record { part = c.requires; ends = ends_of c.args.ends; right = sym c.in_ok-kind.ensures.fault; operator = operator }, c.in_ok-kind.ensures.kind),
    )

pub check_expr-returns-in-Unary : goal.check_expr-returns-in-Unary
check_expr-returns-in-Unary t c =
    c.check_operands.ensures ∙ expr_below c.args.left c.args.at (ends_of c.args.ends) c.args.part.now c.in_ok-kind.ensures.fault c.if-left-eq0.false

pub check_expr-returns-in_default : goal.check_expr-returns-in_default
check_expr-returns-in_default t c =
    let b = kind_bounds (right expression (ends_of c.args.ends) c.args.part.now (sym c.in_ok-kind.ensures.fault)) in
    let n : ¬ (kind_of c.args.part.now ≡ 11) = λ e. c.in_default.not-Binary (one-number c.in_ok-kind.kind Binary (sym c.in_ok-kind.ensures.kind ∙ e)) in
    let m : ¬ (kind_of c.args.part.now ≡ 12) = λ e. c.in_default.not-Unary (one-number c.in_ok-kind.kind Unary (sym c.in_ok-kind.ensures.kind ∙ e)) in
    leaf _ c.args.at c.args.part.now b.0 (omega arith)
    ∙ expr_below c.args.left c.args.at (ends_of c.args.ends) c.args.part.now c.in_ok-kind.ensures.fault c.if-left-eq0.false

-- ---- the operands of an operator

module _ {i : ℕ} {p : List ℕ} (o : OfOperator i p) where
  right-here : Right expression o.ends p
  right-here = right expression o.ends p o.right

  first-part : Part (i + 1) (inner p)
  first-part = inner-part o.part right-here (operator-span right-here o.operator)

  -- of one operand, if not of two
  of-one : (k : Kind) → kind_of p ≡ number_of k → ¬ (k ≡ Binary) → kind_of p ≡ 12
  of-one k e n =
      let b = kind_bounds right-here in
      let two : ¬ (kind_of p ≡ 11) = λ h. n (one-number k Binary (sym e ∙ h)) in
      let l = o.operator in
      omega arith

pub check_operands-enclosed-last-requires : goal.check_operands-enclosed-last-requires
check_operands-enclosed-last-requires t c = right-whole (right-here c.requires.0)

pub check_operands-check_expr-requires : goal.check_operands-check_expr-requires
check_operands-check_expr-requires t c = (omega (arith, c.decreases), rw c.enclosed-last.ensures (first-part c.requires.0))

pub check_operands-returns-in_err-check_expr : goal.check_operands-returns-in_err-check_expr
check_operands-returns-in_err-check_expr t c =
    let p = err_from_is_err_and c.from_residual.result c.from_residual.ensures.1 in
    rw (p.1, p.2)
    (first-fault _ c.args.at c.args.part.now (c.requires.1 ∙ ap number_of c.in-Binary.is) (sym (c.in_err-check_expr.ensures ∙ ap (check_e _ _ before_end) c.enclosed-last.ensures)))

pub check_operands-span_of-requires : goal.check_operands-span_of-requires
check_operands-span_of-requires t c = rw c.enclosed-last.ensures (first-part c.requires.0).some

pub check_operands-beyond-last-requires : goal.check_operands-beyond-last-requires
check_operands-beyond-last-requires t c = right-whole (right_of _ _ before_end _ (sym c.in_ok-check_expr.ensures))

pub check_operands-check_expr-requires-2 : goal.check_operands-check_expr-requires-2
check_operands-check_expr-requires-2 t c =
    let first : Part (c.args.at + 1) c.enclosed-last.result.now = rw c.enclosed-last.ensures (first-part c.requires.0) in
    let last : Part c.match-kind.next c.match-kind.last.now =
    elim c.match-kind.branch [
      | check_operands-in-Binary+in_ok-check_expr w ↦
          rw (w.last-is, w.next-is, w.beyond-last.ensures)
          (after-part first (right_of _ _ before_end _ (sym w.in_ok-check_expr.ensures)) (omega (arith, w.span_of.ensures.0)))
      | check_operands-in_default w ↦ rw (w.last-is, w.next-is) first
    ] in
    (omega (arith, c.decreases), last)

pub check_operands-returns : goal.check_operands-returns
check_operands-returns t c =
    let p = c.args.part.now in
    c.check_expr-2.ensures
    ∙ (elim c.match-kind.branch [
      | check_operands-in-Binary+in_ok-check_expr w ↦
          let s = ap span_of c.enclosed-last.ensures in
          let place : c.match-kind.next ≡ c.args.at + 2 + span_of (inner p) = omega (arith, w.next-is, w.span_of.ensures.0, s) in
          rw (place, w.last-is, w.beyond-last.ensures, c.enclosed-last.ensures)
          (second _ c.args.at p (c.requires.1 ∙ ap number_of w.in-Binary.is) (sym (w.in_ok-check_expr.ensures ∙ ap (check_e _ _ before_end) c.enclosed-last.ensures)))
      | check_operands-in_default w ↦
          rw (w.next-is, w.last-is, c.enclosed-last.ensures) (sole _ c.args.at p (of-one c.requires.0 c.args.kind c.requires.1 (search rules)))
    ])
