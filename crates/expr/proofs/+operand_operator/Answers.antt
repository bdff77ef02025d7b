-- The value of an expression, by recursion over its operands: the measure is twice the part's length, and one more for an operand.
-- Assumes nothing.
use mathlib.Core.Path.{◌≡◌, sym, ap, ◌∙◌}
use mathlib.Core.Option.{some}
use native.Mathlib.Omega.{arith}
use lib.ListN.{length}
use mir.Syntax.{w32}
use mir.Val.{to_z, of_z}
use borrow.Author.Tests.{eqb-true, eqb-false}
use Rattle.values.specs.Operators.{option_of}
use Rattle.rules.specs.Table.{kind_of}
use Rattle.values.proofs.Exact.{result32}
use Rattle.expr.proofs.Reading.{whole, inner_shorter, after_shorter, holds, value-constant, value-variable, value-one, value-two, value_none}
use Rattle.expr.proofs.+operand_operator.Goals as goal

pub operand-is-requires : goal.operand-is-requires
operand-is-requires t c = omega (arith, whole c.requires)

pub operand-word_of-requires : goal.operand-word_of-requires
operand-word_of-requires t c = omega (arith, whole c.requires)

pub operand-returns-then-is : goal.operand-returns-then-is
operand-returns-then-is t c =
    let k : kind_of c.args.part.now ≡ 9 = eqb-true _ _ (sym c.is.ensures ∙ c.if-is.true) in
    ap some (result32 c.signed.type_inv ∙ c.signed.ensures) ∙ value-constant _ c.requires k c.word_of.ensures.0

pub operand-is-requires-2 : goal.operand-is-requires-2
operand-is-requires-2 t c = omega (arith, whole c.requires)

pub operand-bounds-part-1 : goal.operand-bounds-part-1
operand-bounds-part-1 t c = omega (arith, whole c.requires)

pub operand-variable-requires : goal.operand-variable-requires
operand-variable-requires t c =
    let k : kind_of c.args.part.now ≡ 10 = eqb-true _ _ (sym c.is-2.ensures ∙ c.if-is-2.true) in
    (holds c.requires).variable-named k

pub operand-returns-then-is-2 : goal.operand-returns-then-is-2
operand-returns-then-is-2 t c =
    let k : kind_of c.args.part.now ≡ 10 = eqb-true _ _ (sym c.is-2.ensures ∙ c.if-is-2.true) in
    ap some (result32 c.variable.type_inv ∙ c.variable.ensures) ∙ value-variable _ c.requires k

pub operand-operator-requires : goal.operand-operator-requires
operand-operator-requires t c =
    let constant : ¬ (kind_of c.args.part.now ≡ 9) = eqb-false _ _ (sym c.is.ensures ∙ c.if-is.false) in
    let variable : ¬ (kind_of c.args.part.now ≡ 10) = eqb-false _ _ (sym c.is-2.ensures ∙ c.if-is-2.false) in
    (omega (arith, c.decreases), (c.requires, (holds c.requires).no_leaf constant variable))

pub operator-enclosed-inner-requires : goal.operator-enclosed-inner-requires
operator-enclosed-inner-requires t c = whole c.requires.0

pub operator-operand-requires : goal.operator-operand-requires
operator-operand-requires t c =
    let h = inner_shorter c.requires.0 in
    let q = ap length c.enclosed-inner.ensures in
    (omega (arith, c.decreases), rw c.enclosed-inner.ensures ((holds c.requires.0).first c.requires.1))

pub operator-returns-in_err-a : goal.operator-returns-in_err-a
operator-returns-in_err-a t c =
    ap option_of c.from_residual.ensures ∙ value_none _ c.requires.0 c.requires.1 c.enclosed-inner.ensures c.in_err-a.ensures

pub operator-is-requires : goal.operator-is-requires
operator-is-requires t c = omega (arith, whole c.requires.0)

pub operator-bounds-part-1 : goal.operator-bounds-part-1
operator-bounds-part-1 t c = omega (arith, whole c.requires.0)

pub operator-returns-then-is : goal.operator-returns-then-is
operator-returns-then-is t c =
    let k : kind_of c.args.part.now ≡ 12 = eqb-true _ _ (sym c.is.ensures ∙ c.if-is.true) in
    let a = c.in_ok-a.a in
    let read : to_z w32 (of_z w32 a) ≡ a = result32 {z = a} (omega arith) in
    ap some (result32 c.apply.type_inv ∙ (rw read at c.apply.ensures) ∙ c.from.ensures a)
    ∙ value-one _ c.requires.0 k c.enclosed-inner.ensures c.in_ok-a.ensures

pub operator-beyond-requires : goal.operator-beyond-requires
operator-beyond-requires t c = rw c.enclosed-inner.ensures (whole ((holds c.requires.0).first c.requires.1))

pub operator-operand-requires-2 : goal.operator-operand-requires-2
operator-operand-requires-2 t c =
    let k : ¬ (kind_of c.args.part.now ≡ 12) = eqb-false _ _ (sym c.is.ensures ∙ c.if-is.false) in
    let e = c.enclosed-inner.ensures in
    let h = inner_shorter c.requires.0 in
    let q = ap length e in
    let g = after_shorter c.enclosed-inner.result.now in
    let b = ap length c.beyond.ensures in
    (omega (arith, c.decreases), rw (c.beyond.ensures, e) ((holds c.requires.0).second c.requires.1 k))

pub operator-returns-in_err-b : goal.operator-returns-in_err-b
operator-returns-in_err-b t c =
    let k : ¬ (kind_of c.args.part.now ≡ 12) = eqb-false _ _ (sym c.is.ensures ∙ c.if-is.false) in
    ap option_of c.from_residual-in_err-b.ensures
    ∙ value-two _ c.requires.0 c.requires.1 k c.enclosed-inner.ensures c.beyond.ensures c.in_ok-a.ensures c.in_err-b.ensures

pub operator-bounds-part-1-2 : goal.operator-bounds-part-1-2
operator-bounds-part-1-2 t c = omega (arith, whole c.requires.0)

pub operator-returns : goal.operator-returns
operator-returns t c =
    let k : ¬ (kind_of c.args.part.now ≡ 12) = eqb-false _ _ (sym c.is.ensures ∙ c.if-is.false) in
    let a = c.in_ok-a.a in
    let b = c.in_ok-b.b in
    let read_a : to_z w32 (of_z w32 a) ≡ a = result32 {z = a} (omega arith) in
    let read_b : to_z w32 (of_z w32 b) ≡ b = result32 {z = b} (omega arith) in
    (rw (read_a, read_b) at c.apply-2.ensures)
    ∙ c.from-2.ensures a b
    ∙ value-two _ c.requires.0 c.requires.1 k c.enclosed-inner.ensures c.beyond.ensures c.in_ok-a.ensures c.in_ok-b.ensures
