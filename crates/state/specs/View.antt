-- How the code's State stands for a state of the definitions.
-- Assumes nothing.
use Rattle.std.specs.Prelude.{ℕ, zero, suc, ◌+◌, ◌%◌, Bool, eqb, nat_lt, cond, List, [], ◌∷◌, ◌++◌, length, ℤ, pos, get_or}
use Rattle.std.proofs.Math.Option.{Option, none, some}
use Rattle.rules.specs.State as R
use Rattle.rules.specs.State.{Store, spawned_by, tab}
use Rattle.rules.specs.Steps.{counting, go_to, counted}
use Rattle.std.specs.Prelude as P
use Rattle.state.specs.declared.History.{History}
use Rattle.state.specs.declared.Task.{Task}
use Rattle.state.specs.declared.Queue.{Queue}
use Rattle.state.specs.declared.State.{State}

abbrev pub history_of : History → R.History
history_of h = record { spawner = h.spawner; taken_up = h.taken_up }

abbrev pub task_of : Task → R.Task ℕ
task_of t = record { number = t.number; place = t.place; parameter = t.parameter; history = history_of t.history }

-- The queue is a ring: task i from the front stands at this index of the array.
abbrev pub ring : (front i : ℕ) → ℕ
ring front i = (front + i) % 32

-- what stands at an index behind the array: no task
abbrev pub no_task : Task
no_task = record { number = 0; place = 0; parameter = pos 0; history = record { spawner = 0; taken_up = 0 } }

abbrev pub entry : Queue → (i : ℕ) → R.Task ℕ
entry q i = task_of (get_or q.tasks (ring q.front i) no_task)

-- the queued tasks, from the front on
unfoldable pub queue_of : Queue → List (R.Task ℕ)
queue_of q = tab q.len (entry q)

-- how many of a list stand before the first of which this holds: all of them, if it holds of none
abbrev pub ahead : {T : Type 0} → (T → Bool) → List T → ℕ
ahead p [] = 0
ahead p (t ∷ ts) = cond (p t) 0 (suc (ahead p ts))

-- the first of which this holds, by how many stand before it; none, if it holds of none
abbrev pub first : {T : Type 0} → (T → Bool) → List T → P.Option ℕ
first p ts = cond (nat_lt (ahead p ts) (length ts)) (P.Some (ahead p ts)) P.None

-- the task that has this number
abbrev pub position : ℕ → List (R.Task ℕ) → P.Option ℕ
position n q = first (λ t. eqb n t.number) q

abbrev pub store_of : State → Store
store_of s = record { issued = s.issued; variables = s.variables }

abbrev pub active_of : P.Option Task → Option (R.Task ℕ)
active_of P.None = none
active_of (P.Some t) = some (task_of t)

abbrev pub view : State → R.State
view s = record { store = store_of s; active = active_of s.active; queue = queue_of s.queue }

-- ---- what the methods do

-- "joins the back": the active task
abbrev pub put_back : Option (R.Task ℕ) → R.State → R.State
put_back none c = c
put_back (some t) c = record { store = c.store; active = none; queue = c.queue ++ t ∷ [] }

-- the front becomes active, at the place k, and is counted
abbrev pub take_up : List (R.Task ℕ) → ℕ → R.State → R.State
take_up [] k c = c
take_up (t ∷ q) k c = record { store = c.store; active = some (counted counting (go_to t k)); queue = q }

-- the number of the active task: 0 if none is
abbrev pub acting : Option (R.Task ℕ) → ℕ
acting none = 0
acting (some t) = t.number

-- the next number is issued, and its task, spawned by the active one, joins the back
abbrev pub spawn : (place : ℕ) → (argument : ℤ) → R.State → R.State
spawn p z c =
    record {
      store = record { issued = suc c.store.issued; variables = c.store.variables };
      active = c.active;
      queue = c.queue ++ record { number = suc c.store.issued; place = p; parameter = z; history = spawned_by (acting c.active) } ∷ [];
    }

-- the active task is over
abbrev pub end : R.State → R.State
end c = record { store = c.store; active = none; queue = c.queue }

-- n times, the front is turned to the back
abbrev pub turned : {T : Type 0} → ℕ → List T → List T
turned zero q = q
turned (suc n) [] = []
turned (suc n) (t ∷ q) = turned n (q ++ t ∷ [])

abbrev pub turn : ℕ → R.State → R.State
turn n c = record { store = c.store; active = c.active; queue = turned n c.queue }
