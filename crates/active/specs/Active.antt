-- The steps of the active task, as the code makes them.
-- Assumes nothing.
use Rattle.std.specs.Prelude.{ℕ, ◌<◌, ◌≡◌, Bool, true, false, List, ℤ, length}
use Rattle.std.specs.Prelude as P
use Rattle.std.proofs.Math.Option.{Option, some}
use Rattle.rules.specs.Recipe.{Recipe, Env}
use Rattle.rules.specs.Table.{recipe_of}
use Rattle.rules.specs.State as R
use Rattle.rules.specs.Log.{Event}
use Rattle.rules.specs.Scheduler.{goes, next_act, Run}
use Rattle.rules.specs.Steps.{recipes}
use Rattle.state.specs.View.{put_back, spawn, end}
use Rattle.moves.specs.declared.Move.{Move}
use Rattle.moves.specs.declared.Move.TheVariants.{Goes, Sets, Spawns, Gives, Waits, Ends}
use Rattle.moves.specs.Moves.{act_of, store_with}
use Rattle.count.specs.declared.Count.{Count}
use Rattle.count.specs.declared.Bounds.{Bounds}
use Rattle.count.specs.declared.Stop.{Stop}
use Rattle.count.specs.Along.{ending_of, Along, Ended, Reached}

abbrev pub env : List ℤ → R.Task ℕ → Env
env variables t = record { variables = variables; parameter = t.parameter }

-- a move that does more than change variables and the task
abbrev pub leaves : Move → Bool
leaves (Goes k) = false
leaves (Sets n z k) = false
leaves (Spawns n p z k) = true
leaves (Gives k) = true
leaves (Waits z) = true
leaves Ends = true

-- the state with the task t active
abbrev pub busy : (issued : ℕ) → (variables : List ℤ) → R.Task ℕ → List (R.Task ℕ) → R.State
busy issued variables t q = record { store = store_with issued variables; active = some t; queue = q }

-- what a move does to the queue
abbrev pub left_by : Move → R.State → R.State
left_by (Goes k) c = c
left_by (Sets n z k) c = c
left_by (Spawns n p z k) c = spawn p z c
left_by (Gives k) c = put_back c.active c
left_by (Waits z) c = put_back c.active c
left_by Ends c = end c

-- the task t' and the variables v' are what a move makes of t and v: with what it does to the queue, that is the step
abbrev pub Local : Move → (issued : ℕ) → (t t' : R.Task ℕ) → (v v' : List ℤ) → Type 0
Local m issued t t' v v' = (r : Recipe) (q : List (R.Task ℕ)) (x : Option Event) (c : R.State)
    → next_act (recipes r) q (act_of m (store_with issued v) q t) ≡ goes x c
    → left_by m (busy issued v' t' q) ≡ c

-- a call on an accepted table has come to the task t
pub record Active (table : List ℕ) (b : Bounds) (log : List ℕ) (t : R.Task ℕ) (variables : List ℤ) (n : Count) : Type 0 where
  pub queue : List (R.Task ℕ)
  pub many : length queue ≡ b.queued
  pub reached : Reached (recipe_of table) b.budget n log (busy b.issued variables t queue)

-- no limit bars the move
abbrev pub Room : Move → (queued issued : ℕ) → Type 0
Room (Goes k) queued issued = Unit {0}
Room (Sets n z k) queued issued = Unit {0}
Room (Spawns n p z k) queued issued = (queued < 31) × (issued < 65535)
Room (Gives k) queued issued = Unit {0}
Room (Waits z) queued issued = Unit {0}
Room Ends queued issued = Unit {0}

-- the call ends at the state c, or goes on by what the move m of its active task does to the queue
abbrev pub Left : (r : Recipe) → Run (recipes r) → (budget : ℕ) → (given : List ℕ) → Count → (log : List ℕ) → R.State → P.Result Move Stop → Type 0
Left r u budget given n log c (P.Err stop) = Ended r u given n log c (ending_of stop)
Left r u budget given n log c (P.Ok m) = Along r u budget given n log (left_by m c)
