use Prim.Native.Nat.{ℕ}
use mathlib.Core.Path.{◌≡◌, refl, ap, ◌∙◌}
use mathlib.Core.List.{◌++◌}
use lib.Seq.{sets}
use Rattle.rules.specs.Fields.{bytes4}
use Rattle.rules.specs.Batch.{outcome_bytes}
use Rattle.batch.proofs.Outcomes.{outcome-told, both_words}
use Rattle.batch.proofs.put_outcome.Goals as goal
use Rattle.batch.proofs.put_outcome.Goals.{in-Ok, in-Err}

pub returns : goal.returns
returns c =
    let n = c.match-check_table.number in
    let told : bytes4 n.0 ++ bytes4 n.1 ≡ outcome_bytes c.args.recipe.now =
    elim c.match-check_table.branch [
      | in-Ok w ↦ outcome-told _ _ _ _ w.in-Ok.ensures.verdict (ap (λ (p : ℕ × ℕ). p.0) w.number-is) (ap (λ (p : ℕ × ℕ). p.1) w.number-is)
      | in-Err w ↦ outcome-told _ _ _ _ w.in-Err.ensures.verdict (ap (λ (p : ℕ × ℕ). p.0) w.number-is ∙ w.into.ensures) (ap (λ (p : ℕ × ℕ). p.1) w.number-is)
    ] in
    c.put_word-2.ensures
    ∙ ap (λ b. sets b 4 (bytes4 n.1)) c.put_word.ensures
    ∙ both_words c.args.out.now (bytes4 n.0) (bytes4 n.1) c.requires refl refl
    ∙ told
