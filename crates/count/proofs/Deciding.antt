-- The tests before a step of the active task that no limit bars.
-- Assumes nothing.
use Prim.Native.Nat.{ℕ, suc, ◌-◌, ◌/◌, ◌<◌}
use mathlib.Core.Path.{◌≡◌}
use mathlib.Core.Option.{Option}
use mathlib.Core.List.{List, ◌++◌}
use native.Mathlib.Omega.{arith}
use lib.ListN.{length}
use Rattle.std.specs.Prelude.{Result}
use Rattle.rules.specs.Recipe.{Recipe}
use Rattle.rules.specs.State.{State, Store, Task}
use Rattle.rules.specs.Log.{Event}
use Rattle.rules.specs.Scheduler.{Act, halts, does, goes, next_act, stay, test}
use Rattle.rules.specs.Steps.{recipes}
use Rattle.events.specs.Events.{went, facts}
use Rattle.count.specs.declared.Count.{Count}
use Rattle.count.specs.declared.Stop.{Stop}
use Rattle.count.specs.Along.{Decides}

module _ (r : Recipe) (n : Count) (log : List ℕ) (budget : ℕ) (q : List (Task ℕ)) (h : n.steps < budget) where
  abbrev left : ℕ
  left = (length log - n.written) / 8

  pub decide_went : (d : Result Count Stop) (log' : List ℕ) (x : Option Event) (a : Act Store (Task ℕ) Event) → went x ≡ facts a
      → ((b : ℕ) (c : State) → Decides r (test (recipes r) (suc b) left (goes x c)) d n log log')
      → Decides r (test (recipes r) (budget - n.steps) left (next_act (recipes r) q a)) d n log log'
  decide_went d log' x (halts m) e f = absurd (let z : ◌≡◌ {A = ℕ} 0 1 = cc in omega arith)
  decide_went d log' x (does s new y x') e f =
      let more : budget - n.steps ≡ suc (budget - n.steps - 1) = omega arith in
      let z : x ≡ x' = cc in
      rw (more, ← z) (f (budget - n.steps - 1) (stay (recipes r) s (q ++ new) y))
