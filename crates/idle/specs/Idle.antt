-- The tries with no task active, as the code makes them.
-- Assumes nothing.
use Rattle.std.specs.Prelude.{ℕ, ◌+◌, ◌*◌, ◌≤◌, ◌<◌, Option, None, Some, List, [], ◌∷◌, ℤ, length}
use Rattle.std.proofs.Math.Option.{some}
use Rattle.rules.specs.Recipe.{Recipe}
use Rattle.rules.specs.Table.{recipe_of}
use Rattle.rules.specs.Places.{at}
use Rattle.rules.specs.State as R
use Rattle.rules.specs.Scheduler.{no_number, Run}
use Rattle.rules.specs.Steps.{counting, past_at, counted, recipes}
use Rattle.state.specs.declared.State as S
use Rattle.ready.specs.declared.Wait.{Wait}
use Rattle.ready.specs.declared.Wait.TheVariants.{Ready, Waits, AtGuard}
use Rattle.ready.specs.Ready.{idle, ahead_in, Waiting}
use Rattle.count.specs.declared.Count.{Count}
use Rattle.count.specs.declared.Stop.{Stop}
use Rattle.count.specs.Along.{ending_of, Along, Ended, Reached}

-- what the log record of a task's turn carries
abbrev pub carried_by : Wait → ℤ
carried_by Ready = no_number
carried_by (Waits z) = z
carried_by AtGuard = no_number

-- the first k tasks wait, a later one is ready, and count and log have room for k turns
pub record Turning (table : List ℕ) (s : S.State) (k : ℕ) (log : List ℕ) (n : Count) : Type 0 where
  pub waiting : Waiting table s.queue
  pub some_go : ahead_in table (idle s) < s.queue.len
  pub waits : k ≤ ahead_in table (idle s)
  pub in_count : n.steps + k < 4294967296
  pub in_log : n.written + 8 * k ≤ length log

-- a call has come to a state with no task active
abbrev pub Idling : (table : List ℕ) → S.State → (budget : ℕ) → (log : List ℕ) → Count → Type 0
Idling table s budget log n = Reached (recipe_of table) budget n log (idle s)

-- the front becomes active, past its await or its guard if it stood at one, and is counted
abbrev pub took_up : Recipe → List (R.Task ℕ) → R.State → R.State
took_up r [] c = c
took_up r (t ∷ q) c = record { store = c.store; active = some (counted counting (past_at (at r t.place) t)); queue = q }

-- the call ends at the state c, or its front is taken up
abbrev pub Tries : (r : Recipe) → Run (recipes r) → (budget : ℕ) → (given : List ℕ) → Count → (log : List ℕ) → R.State → Option Stop → Type 0
Tries r u budget given n log c (Some stop) = Ended r u given n log c (ending_of stop)
Tries r u budget given n log c None = Along r u budget given n log (took_up r c.queue c)
