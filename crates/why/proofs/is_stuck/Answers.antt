use Rattle.std.proofs.Common.{ℕ, List, ◌≡◌, sym, ap, ◌∙◌, rules, subst}
use mathlib.Core.Logic.{◌↔◌}
use Rattle.rules.specs.Table.{recipe_of}
use Rattle.rules.specs.Steps.{recipes}
use Rattle.rules.specs.Fairness as F
use Rattle.state.specs.View.{view}
use denote.Enum.Bare.{sameb, same_true}
use Rattle.count.specs.contracts.Stop.{the_type}
use Rattle.count.specs.declared.Stop.{Stop}
use Rattle.count.specs.declared.Stop.TheVariants.{Stuck}
use Rattle.why.proofs.Stuck.{stuck_when}
use Rattle.why.proofs.is_stuck.Goals as goal

pub drive-requires : goal.drive-requires
drive-requires c =
    rw c.link.ensures c.requires

pub returns : goal.returns
returns c =
    let so : List ℕ → Type 0 = λ t. (c.drive.result.stop ≡ Stuck) ↔ F.Stuck (recipes (recipe_of t)) (view c.args.s) in
    let when = subst so c.link.ensures (stuck_when c.link.result.table.bytes.now c.args.s 1 c.drive.result.stop c.drive.ensures.ended.ends_so) in (
      λ h. when.0 (same_true the_type (search rules) _ _ (sym c.eq.ensures ∙ h)),
      λ k. c.eq.ensures ∙ ap (λ (x : Stop). sameb the_type x Stuck) (when.1 k),
    )
