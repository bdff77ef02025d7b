use mathlib.Core.Path.{◌≡◌, sym, ap, ◌∙◌, subst⁻¹}
use mathlib.Core.Bool.{true≢false}
use mathlib.Core.List.{List}
use Prim.Native.Nat.{ℕ}
use native.Mathlib.Omega.{arith}
use Rattle.rules.specs.Demand.{Bytes}
use Rattle.rules.specs.Batch.{Checked, checked, check_all_on, BatchSays}
use Rattle.rules.proofs.Batch.{is-batch, batch-is, is_all, is_26, batch-says}
use Rattle.batch.proofs.check_all.Goals as goal

-- what holds of the answer follows from the equation
promised : (b l o : List ℕ) → Bytes l → (x : Checked) → x ≡ check_all_on b l o → BatchSays b l o x
promised b l o bytes x e = subst⁻¹ (BatchSays b l o) e (batch-says b l o bytes)

pub returns-then-not-is_batch : goal.returns-then-not-is_batch
returns-then-not-is_batch c =
    let a = c.args in
    let e : checked 26 a.outcomes.now ≡ check_all_on a.recipes.now a.lengths.now a.outcomes.now =
    sym (is_26 _ _ _ (λ h. true≢false (sym (is-batch _ _ _ h) ∙ sym c.is_batch.ensures ∙ c.if-not-is_batch.true))) in
    record { outcomes_after = e; batch_says = promised a.recipes.now a.lengths.now a.outcomes.now (λ i. omega (arith, c.type_inv.lengths i)) _ e }

pub put_outcomes-requires : goal.put_outcomes-requires
put_outcomes-requires c = batch-is _ _ _ (sym c.is_batch.ensures ∙ c.if-not-is_batch.false)

pub returns : goal.returns
returns c =
    let a = c.args in
    let e : checked 0 c.put_outcomes.new.out ≡ check_all_on a.recipes.now a.lengths.now a.outcomes.now =
    ap (checked 0) c.put_outcomes.ensures ∙ sym (is_all _ _ _ (batch-is _ _ _ (sym c.is_batch.ensures ∙ c.if-not-is_batch.false))) in
    record { outcomes_after = e; batch_says = promised a.recipes.now a.lengths.now a.outcomes.now (λ i. omega (arith, c.type_inv.lengths i)) _ e }
