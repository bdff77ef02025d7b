-- All steps of a run call, as the code makes them.
-- Assumes nothing.
use Rattle.std.specs.Prelude.{ℕ, List}
use Rattle.rules.specs.Table.{recipe_of}
use Rattle.rules.specs.Scheduler.{Run, run}
use Rattle.rules.specs.Steps.{recipes}
use Rattle.rules.specs.Run.{room_of}
use Rattle.state.specs.declared.State.{State}
use Rattle.state.specs.View.{view}
use Rattle.runner.specs.declared.drive.Ran.{Ran}
use Rattle.count.specs.Along.{ending_of, Ended}

-- the definition's run of a state
abbrev pub call : (table : List ℕ) → State → (budget : ℕ) → (log : List ℕ) → Run (recipes (recipe_of table))
call table s budget log = run (recipes (recipe_of table)) budget (room_of log) (view s)

-- the code's call ends as the definition's does, with its step count, its log and its last state
pub record Drives (table : List ℕ) (s : State) (budget : ℕ) (log log' : List ℕ) (x : Ran) : Type 0 where
  pub ended : Ended (recipe_of table) (call table s budget log) log x.count log' (view x.state) (ending_of x.stop)
