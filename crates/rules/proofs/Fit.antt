-- What an accepted state has: what 22 asks, and that every number fits its field.
-- Assumes nothing.
use Prim.Native.Nat.{ℕ, ◌≤◌, ◌<◌}
use mathlib.Core.Path.{◌≡◌}
use mathlib.Core.Bool.{true}
use lib.IntN.{pos}
use lib.ListN.{length, get_or}
use Rattle.rules.specs.Values.{in_range}
use Rattle.rules.specs.Recipe.{Recipe}
use Rattle.rules.specs.Places.{is_place}
use Rattle.rules.specs.State.{Task, Store, live, State, spawner_fits}
use Rattle.rules.specs.Steps.{recipes}
use Rattle.rules.specs.Fairness.{Every, Valid}

pub record StoreFit (s : Store) : Type 0 where
  pub some-issued : 1 ≤ s.issued
  pub issued-fits : s.issued < 65536
  pub all_variables : length s.variables ≡ 64
  pub variables_fit : (j : ℕ) → in_range (get_or s.variables j (pos 0)) ≡ true

pub record TaskFit (r : Recipe) (s : Store) (t : Task ℕ) : Type 0 where
  pub from_one : 1 ≤ t.number
  pub was_issued : t.number ≤ s.issued
  pub placed : is_place r t.place ≡ true
  pub place-fits : t.place < 65536
  pub parameter-fits : in_range t.parameter ≡ true
  pub spawner-fits : spawner_fits t.number t.history.spawner ≡ true
  pub times-fit : t.history.taken_up < 4294967296

pub record Fit (r : Recipe) (c : State) : Type 0 where
  pub store-fits : StoreFit c.store
  pub few : length (live c) ≤ 32
  pub tasks_fit : Every (TaskFit r c.store) (live c)
  -- live numbers are all different, and none is above the highest issued
  pub valid : Valid (recipes r) c
