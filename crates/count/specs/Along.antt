-- A run call on its way: what the code's count and log say of the definition's run.
-- Assumes nothing.
use Rattle.std.specs.Prelude.{ℕ, ◌+◌, ◌-◌, ◌*◌, ◌≤◌, ◌≡◌, List, ◌++◌, length, drop}
use Rattle.std.specs.Prelude as P
use Rattle.std.proofs.Math.Option.{Option, none, some}
use Rattle.std.proofs.lemmas.List.Edits.{sets}
use Rattle.rules.specs.Recipe.{Recipe}
use Rattle.rules.specs.State.{State}
use Rattle.rules.specs.Log.{Event, event_row, log_bytes}
use Rattle.rules.specs.Scheduler.{tasks, spent, novalue, goes, next, Ending, finished, paused, stuck, logfull, halted, What, stops, makes, size, Run, ending, last, steps_of, log}
use Rattle.rules.specs.Steps.{recipes}
use Rattle.rules.specs.Run.{room_of}
use Rattle.rules.proofs.Scheduling.Loop.{At}
use Rattle.rules.proofs.Fit.{Fit}
use Rattle.moves.specs.declared.Move.{Move}
use Rattle.events.specs.declared.Halt as E
use Rattle.events.specs.Events.{halt_of}
use Rattle.count.specs.declared.Count.{Count}
use Rattle.count.specs.declared.Stop.{Stop}
use Rattle.count.specs.declared.Stop.TheVariants.{Finished, Paused, Stuck, Tasks, Spent, Logfull, NoValue}

abbrev pub stop_of : Ending → Stop
stop_of finished = Finished
stop_of paused = Paused
stop_of stuck = Stuck
stop_of (halted tasks) = Tasks
stop_of (halted spent) = Spent
stop_of logfull = Logfull
stop_of (halted novalue) = NoValue

abbrev pub ending_of : Stop → Ending
ending_of Finished = finished
ending_of Paused = paused
ending_of Stuck = stuck
ending_of Tasks = halted tasks
ending_of Spent = halted spent
ending_of Logfull = logfull
ending_of NoValue = halted novalue

-- the ending of a call whose active task is halted
abbrev pub halted_by : E.Halt → Ending
halted_by h = halted (halt_of h)

-- the ending of a call that stops, and none of one that goes on
abbrev pub ending_in : {T : Type 0} → P.Result T Stop → Option Ending
ending_in (P.Ok x) = none
ending_in (P.Err stop) = some (ending_of stop)

-- Of the call u, which was given this log buffer, the steps counted are made, their records stand in the log, and c is the state now.
pub record Along (r : Recipe) (u : Run (recipes r)) (budget : ℕ) (given : List ℕ) (n : Count) (log : List ℕ) (c : State) : Type 0 where
  pub events : List Event
  pub at : At (recipes r) u n.steps events c (budget - n.steps) (room_of given - length events)
  pub in_budget : n.steps ≤ budget
  pub in_room : length events ≤ room_of given
  pub bytes : n.written ≡ 8 * length events
  pub log_is : log ≡ log_bytes events ++ drop n.written given
  pub fits : Fit r c

-- The call u ends so, with this count, this log and this state.
pub record Ended (r : Recipe) (u : Run (recipes r)) (given : List ℕ) (n : Count) (left : List ℕ) (c : State) (e : Ending) : Type 0 where
  pub steps_are : steps_of (recipes r) u ≡ n.steps
  pub ends_so : ending (recipes r) u ≡ e
  pub leaves : last (recipes r) u ≡ c
  pub bytes : n.written ≡ 8 * length (log (recipes r) u)
  pub log_is : left ≡ log_bytes (log (recipes r) u) ++ drop n.written given
  pub fits : Fit r c

-- the log after a step that has this event
abbrev pub noted : List ℕ → ℕ → Option Event → List ℕ
noted log a none = log
noted log a (some x) = sets log a (event_row x)

-- the count, or the stop, without the move that is made
abbrev pub counted : P.Result (Move × Count) Stop → P.Result Count Stop
counted (P.Ok made) = P.Ok made.1
counted (P.Err stop) = P.Err stop

-- what the tests before a step say, as the code has it: the stop, or the new count and the new log
abbrev pub Decides : (r : Recipe) → What (recipes r) → P.Result Count Stop → (n : Count) → (log log' : List ℕ) → Type 0
Decides r (stops e) d n log log' = (d ≡ P.Err (stop_of e)) × (log' ≡ log)
Decides r (makes x c) d n log log' =
    (d ≡ P.Ok (record { steps = n.steps + 1; written = n.written + 8 * size (recipes r) x })) × (log' ≡ noted log n.written x)

-- the call ends at the state c, or a step is made from there
abbrev pub Told : (r : Recipe) → Run (recipes r) → (budget : ℕ) → (given : List ℕ) → Count → (log : List ℕ) → State → Option Ending → Type 0
Told r u budget given n log c (some e) = Ended r u given n log c e
Told r u budget given n log c none =
    (x : Option Event) × (c' : State) × (next (recipes r) c ≡ goes x c') × Along r u budget given n log c'

-- some call is on its way there
pub record Reached (r : Recipe) (budget : ℕ) (n : Count) (log : List ℕ) (c : State) : Type 0 where
  pub call : Run (recipes r)
  pub given : List ℕ
  pub along : Along r call budget given n log c
