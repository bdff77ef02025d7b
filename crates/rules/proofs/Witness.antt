-- The waiting bound is tight: the recipe of `Witness` waits as long as the bound allows.
-- Assumes nothing.
use Prim.Native.Nat.{◌+◌, ◌*◌, ◌≤◌, ◌<◌}
use mathlib.Core.Path.{◌≡◌, refl, sym, subst}
use mathlib.Core.Option.{none}
use mathlib.Core.List.{[], ◌∷◌, ◌++◌}
use native.Mathlib.Omega.{arith}
use lib.Dec.{eqb, lit≤, lit<}
use lib.IntN.{pos}
use lib.ListN.{length, take, drop, get_or}
use lib.Seq.{drop-cons, split_at}
use borrow.Author.Tests.{ne_eqb}
use Rattle.rules.specs.Table.{recipe_of}
use Rattle.rules.specs.State.{fresh}
use Rattle.rules.specs.Scheduler.{finished}
use Rattle.rules.specs.Moments.{budgets, Moment, ends}
use Rattle.rules.specs.Fairness.{steps, until, Valid, Waiting, TakenWithin}
use Rattle.rules.specs.Optional.{AwaitsZero}
use Rattle.rules.specs.Witness.{table, calls, rules, moments, waiting, ahead, main, Tight}
use Rattle.rules.proofs.Steps.{is_le, demand_of_recipes}
use Rattle.rules.proofs.Optional.{waiting_at_zero}
use Rattle.rules.proofs.Computed.{meaning}

always : pos 0 ≡ pos 0
always = refl

at_zero : AwaitsZero (recipe_of table) main 2 waiting
unfolding moments meaning
at_zero = record {
  name = 10;
  next = 6;
  at_await = refl;
  holds_zero = ((λ e. always), ((λ e. always), ((λ e. always), ((λ e. always), ((λ e. always), ((λ e. always), ((λ e. always), ((λ e. always), ((λ e. always), tt)))))))));
  bursts = lit≤ tt;
  free = (tt, (tt, (tt, ((λ e. e), ((λ e. e), (tt, (tt, (tt, (tt, tt)))))))));
}

waits : Waiting rules main 2 waiting
waits = waiting_at_zero (recipe_of table) main 2 waiting at_zero

-- one live task, with the highest number
fresh_valid : Valid rules fresh
unfolding fresh
fresh_valid = record { differ = λ i. omega (arith, is_le (eqb i 1)); below = λ i h. rw (ne_eqb i 1 (omega arith)) refl }

none_there : Moment rules
none_there = record { at = fresh; calls = []; what = ends finished }

-- the moment at which the second call starts
abbrev first : Moment rules
first = get_or moments 4 none_there

long : 4 < length moments
unfolding moments none_there meaning
long = lit< tt

cut : waiting ≡ first ∷ drop 5 moments
cut = drop-cons moments 4 none_there long

idle : first.at.active ≡ none
unfolding moments none_there meaning
idle = refl {a = none}

queued : first.at.queue ≡ ahead ++ (main ∷ [])
unfolding moments none_there meaning
queued = refl {a = ahead ++ (main ∷ [])}

budget : 7 ≤ budgets first.calls
unfolding moments none_there meaning
budget = lit≤ tt

bounded : TakenWithin rules (length ahead * (2 + 1) + 1) main waiting
bounded =
    subst (TakenWithin rules 7 main) (sym cut)
    ((demand_of_recipes (recipe_of table) fresh calls fresh_valid).bound (take 4 moments) (drop 5 moments) first ahead [] main 2
    (unfold moments in split_at moments 4 none_there long) idle queued (subst (Waiting rules main 2) cut waits) budget)

exactly : steps rules (until rules 1 waiting) ≡ 7
unfolding moments meaning
exactly = refl {a = 7}

pub tight : Tight
tight = record { at_zero = at_zero; waits = waits; bounded = bounded; exactly = exactly }
