use Prim.Native.Nat.{◌%◌, ◌/◌}
use mathlib.Core.Path.{◌≡◌, refl, sym, ap, ◌∙◌}
use mathlib.Core.Bool.{true}
use mathlib.Core.Logic.{inl, inr}
use native.Mathlib.Omega.{arith}
use lib.Dec.{eqb, leb}
use lib.ListN.{length}
use borrow.Author.Tests.{eq-eqb, le-leb, eqb-true, eqb-false, leb-true}
use Rattle.rules.specs.Batch.{count, total, is_batch}
use Rattle.rules.proofs.Batch.{no_batch_lem}
use Rattle.batch.proofs.is_batch.Goals as goal
use Rattle.batch.proofs.is_batch.Goals.{then-lengths-eq0, else-lengths-eq0, then-n-le-MOST, else-n-le-MOST}

pub returns-then-total-size : goal.returns-then-total-size
unfolding is_batch
returns-then-total-size c =
    let l = c.args.lengths.now in
    elim c.if-n-le-MOST.branch [
      | then-n-le-MOST w ↦
          let sum : eqb (total (count l) l) c.args.size ≡ true =
          ap (λ s. eqb s c.args.size) (sym w.total.ensures) ∙ sym w.value-is ∙ c.if-total-size.true in
          rw (eq-eqb (length l % 4) 0 w.if-n-le-MOST.true.0, le-leb (count l) 64 w.if-n-le-MOST.true.1, sum) refl
      | else-n-le-MOST w ↦ elim c.if-lengths-eq0.branch [
        | then-lengths-eq0 v ↦
            let few : leb (length l / 4) 64 ≡ true = sym v.t-8-is ∙ sym w.value-is ∙ c.if-total-size.true in
            elim w.if-n-le-MOST.either [ inl p ↦ absurd (omega (arith, leb-true _ _ few, p.1)) | inr q ↦ absurd (q v.if-lengths-eq0.true) ]
        | else-lengths-eq0 v ↦ absurd (v.if-lengths-eq0.false (eqb-true _ _ (sym v.t-8-is ∙ sym w.value-is ∙ c.if-total-size.true)))
      ]
    ]

pub returns-else-total-size : goal.returns-else-total-size
returns-else-total-size c =
    c.if-total-size.false ∙ sym (no_batch_lem _ _ _ (λ h.
    elim c.if-n-le-MOST.branch [
      | then-n-le-MOST w ↦ eqb-false _ _ (sym w.value-is ∙ c.if-total-size.false) (w.total.ensures ∙ h.adds_up)
      | else-n-le-MOST w ↦ elim w.if-n-le-MOST.either [ inl p ↦ omega (arith, h.few, p.1) | inr q ↦ q h.whole ]
    ]))
