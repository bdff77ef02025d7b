-- A body without statements counts as run through.
-- Assumes nothing.
use Prim.Native.Nat.{ℕ, ◌+◌}
use mathlib.Core.Path.{◌≡◌, sym, ap, ◌∙◌}
use native.Mathlib.Omega.{arith}
use lib.ListN.{length}
use borrow.Author.Tests.{eq-eqb, ne_eqb}
use Rattle.rules.specs.Table.{kind_of, span_of, inner}
use Rattle.table.specs.declared.record.Kind.TheVariants.{If}
use Rattle.table.proofs.Numbered.{one-number}
use Rattle.expr.proofs.Reading.{whole}
use Rattle.moves.proofs.Parts.{spelt-inner, body-some, body_none}
use Rattle.moves.proofs.body_of.Goals as goal

pub span_of-span-requires : goal.span_of-span-requires
span_of-span-requires c = let l = whole (spelt-inner c.requires) in omega (arith, ap length c.enclosed.ensures)

pub returns-then-span-span_of : goal.returns-then-span-span_of
returns-then-span-span_of c =
    let a = c.args in
    let e : c.span_of-span.result ≡ span_of (inner a.found.part.now) = c.span_of-span.ensures.0 ∙ ap span_of c.enclosed.ensures in
    ap (λ (n : ℕ). a.found.place + 2 + n) e
    ∙ body-some c.requires a.found.place _ (omega (arith, c.if-span-span_of.true, c.span_of.ensures.0))

pub returns-in-If : goal.returns-in-If
returns-in-If c =
    let a = c.args in
    let e : c.span_of-span.result ≡ span_of (inner a.found.part.now) = c.span_of-span.ensures.0 ∙ ap span_of c.enclosed.ensures in
    let n : kind_of a.found.part.now ≡ 4 = rw c.in-If.is at a.found.named in
    rw (eq-eqb _ _ n)
    (body_none c.requires a.found.place a.follow (omega (arith, c.if-span-span_of.false, c.span_of.ensures.0)))

pub returns-in_default : goal.returns-in_default
returns-in_default c =
    let a = c.args in
    let e : c.span_of-span.result ≡ span_of (inner a.found.part.now) = c.span_of-span.ensures.0 ∙ ap span_of c.enclosed.ensures in
    let n : ¬ (kind_of a.found.part.now ≡ 4) = λ h. c.in_default.not-If (one-number a.found.kind If (sym a.found.named ∙ h)) in
    rw (ne_eqb _ _ n)
    (body_none c.requires a.found.place a.found.place (omega (arith, c.if-span-span_of.false, c.span_of.ensures.0)))
