-- Which queued tasks are ready, as the code says it.
-- Assumes nothing.
use Rattle.std.specs.Prelude.{ℕ, ◌≡◌, true, false, Option, None, Some, List, ℤ, pos, negsuc}
use Rattle.std.proofs.Math.Option.{none}
use Rattle.rules.specs.Recipe.{Recipe}
use Rattle.rules.specs.Table.{recipe_of}
use Rattle.rules.specs.Places.{is_place}
use Rattle.rules.specs.State.{Task, State}
use Rattle.rules.specs.Scheduler.{Readiness, ready, waits_for, at_guard, is_live, readiness, can_go}
use Rattle.rules.specs.Steps.{is_done, recipes}
use Rattle.rules.specs.Fairness.{Every}
use Rattle.state.specs.View.{task_of, entry, queue_of, store_of, ahead, first}
use Rattle.state.specs.declared.State as S
use Rattle.state.specs.declared.Queue.{Queue}
use Rattle.ready.specs.declared.Wait.{Wait}
use Rattle.ready.specs.declared.Queued.{Queued}
use Rattle.ready.specs.declared.Wait.TheVariants.{Ready, Waits, AtGuard}

-- "each queued task is ready, or waits with the number it waits for", or for an untrue guard
abbrev pub readiness_of : Wait → Readiness
readiness_of Ready = ready
readiness_of (Waits z) = waits_for z
readiness_of AtGuard = at_guard

-- the state with no task active, as the code has it
abbrev pub idle : S.State → State
idle s = record { store = store_of s; active = none; queue = queue_of s.queue }

-- a task's readiness in such a state, by the table of the recipe
abbrev pub ready_in : (table : List ℕ) → State → Task ℕ → Readiness
ready_in table c t = readiness (recipes (recipe_of table)) c t

-- a value that still holds a waiter
abbrev pub NotDone : (table : List ℕ) → State → ℤ → Type 0
NotDone table c z = is_done c.store.issued (is_live (recipes (recipe_of table)) c.queue) z ≡ false

-- how many tasks stand before the first that can go on: all of them, if none can
abbrev pub ahead_in : (table : List ℕ) → State → ℕ
ahead_in table c = ahead (can_go (recipes (recipe_of table)) c) c.queue

-- the first task that can go on, by how many stand before it; none, if none can
abbrev pub first_in : (table : List ℕ) → State → Option ℕ
first_in table c = first (can_go (recipes (recipe_of table)) c) c.queue

-- the number that a value is, if it is one
abbrev pub natural : ℤ → Option ℕ
natural (pos n) = Some n
natural (negsuc n) = None

-- what is said of the queued task i from the front
pub record Describes (table : List ℕ) (s : S.State) (i : ℕ) (x : Queued) : Type 0 where
  pub task_is : task_of x.task ≡ entry s.queue i
  pub wait_is : readiness_of x.wait ≡ ready_in table (idle s) (entry s.queue i)

-- a task stands at a place of the recipe
abbrev pub Placed : Recipe → Task ℕ → Type 0
Placed r t = is_place r t.place ≡ true

-- every queued task stands at a place of the table's recipe
abbrev pub Waiting : (table : List ℕ) → Queue → Type 0
Waiting table q = Every (Placed (recipe_of table)) (queue_of q)
