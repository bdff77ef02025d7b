-- Document 01, "Steps" and "What the runner says", over any task language: readiness, one step, one run call.
-- Assumes nothing.
use Rattle.std.specs.Prelude.{ℕ, zero, suc, ◌+◌, ◌-◌, Bool, true, false, ◌||◌, List, [], ◌∷◌, ◌++◌, eqb, ltb, ℤ, pos}
use Rattle.std.proofs.Math.Option.{Option, none, some}
use Rattle.rules.specs.State.{Configuration}

-- "each queued task is ready, or waits with the number it waits for"; request 2.1 of document 02: or "for an untrue guard", and then for no number
pub data Readiness : Type 0 where
  ready : Readiness
  waits_for : ℤ → Readiness
  at_guard : Readiness

abbrev pub is_ready : Readiness → Bool
is_ready ready = true
is_ready (waits_for z) = false
is_ready at_guard = false

-- request 2.1: "its log records carry value 0", where no number is awaited
abbrev pub no_number : ℤ
no_number = pos 0

-- what becomes of the task that acted: it goes on, joins the back, or is over
pub data Stay (Task : Type 0) : Type 0 where
  on : Task → Stay Task
  back : Task → Stay Task
  over : Stay Task

-- what halts a run where the active task would step: "3 tasks", "4 spent"; request 2.2 of document 02: "24, a stop like 3", "its word "novalue""
pub data Halt : Type 0 where
  tasks spent novalue : Halt

-- One step of the active task: it is halted, or it has a new store, new tasks for the back of the queue, what becomes of the task itself,
-- and the step's log event, if it writes one.
pub data Act (Store Task Event : Type 0) : Type 0 where
  halts : Halt → Act Store Task Event
  does : Store → List Task → Stay Task → Option Event → Act Store Task Event

-- A task language.
pub record Rules : Type 1 where
  pub Store : Type 0
  pub Task : Type 0
  pub Event : Type 0
  pub num : Task → ℕ
  pub issued : Store → ℕ
  -- a queued task's readiness, from the store and from which numbers are live
  pub wait : Store → (ℕ → Bool) → Task → Readiness
  -- the task as it becomes active ("past its await, if it stood at one", or past its guard), and the two events of a try, of a turn with what its
  -- record carries
  pub up : Task → Task
  pub took : Task → Event
  pub turn : Task → ℤ → Event
  -- one step of the active task, with these tasks queued
  pub act : Store → List Task → Task → Act Store Task Event

abbrev pub is : Bool → ℕ
is true = 1
is false = 0

module _ (R : Rules) where
  open R use {Store, Task, Event, num, wait, up, took, turn, act}

  abbrev pub Config : Type 0
  Config = Configuration Store Task

  -- how many tasks of a list have the number i
  abbrev pub count : ℕ → List Task → ℕ
  count i [] = 0
  count i (t ∷ ts) = is (eqb i (num t)) + count i ts

  abbrev pub is_live : List Task → ℕ → Bool
  is_live q i = ltb 0 (count i q)

  -- "For each moment with no task active, each queued task is ready, or waits": the live tasks are then the queued ones
  abbrev pub readiness : Config → Task → Readiness
  readiness c t = wait c.store (is_live c.queue) t

  abbrev pub can_go : Config → Task → Bool
  can_go c t = is_ready (readiness c t)

  abbrev pub any_go : Config → List Task → Bool
  any_go c [] = false
  any_go c (t ∷ ts) = can_go c t || any_go c ts

  -- What comes next, budget and log apart: nothing is left, none is ready, the step is barred, or the step with its event.
  pub data Next : Type 0 where
    finish : Next
    jam : Next
    bar : Halt → Next
    goes : Option Event → Config → Next

  -- a turn of the task t to the back, with the tasks q queued besides; its record carries z
  abbrev pub turn_of : ℤ → Config → Task → List Task → Next
  turn_of z c t q = goes (some (turn t z)) (record { store = c.store; active = none; queue = q ++ (t ∷ []) })

  -- "With none active, one step is a try of the front: a ready task becomes active .., another is turned to the back." Request 2.1: "When tried it passes
  -- only if the expression is true then, and otherwise it is turned; its log records carry value 0." (The try of a task t with the tasks q queued besides.)
  abbrev pub try_of : Readiness → Config → Task → List Task → Next
  try_of ready c t q = goes (some (took t)) (record { store = c.store; active = some (up t); queue = q })
  try_of (waits_for z) c t q = turn_of z c t q
  try_of at_guard c t q = turn_of no_number c t q

  -- "2 stuck: none active, queue not empty, none ready"; request 2.1: "said when every queued task waits for a number that is not done or for an untrue
  -- guard"
  abbrev pub jam_or : Bool → Next → Next
  jam_or true x = x
  jam_or false x = jam

  abbrev pub next_idle : Config → List Task → Next
  next_idle c [] = finish
  next_idle c (t ∷ q) = jam_or (any_go c (t ∷ q)) (try_of (readiness c t) c t q)

  -- the acting task goes on, joins the back of the queue q, or is over
  abbrev pub stay : Store → List Task → Stay Task → Config
  stay s q (on t) = record { store = s; active = some t; queue = q }
  stay s q (back t) = record { store = s; active = none; queue = q ++ (t ∷ []) }
  stay s q over = record { store = s; active = none; queue = q }

  -- "With a task active, one step is" what the task does; "the new task joins the back"
  abbrev pub next_act : List Task → Act Store Task Event → Next
  next_act q (halts k) = bar k
  next_act q (does s new y x) = goes x (stay s (q ++ new) y)

  abbrev pub next_of : Config → Option Task → Next
  next_of c none = next_idle c c.queue
  next_of c (some t) = next_act c.queue (act c.store c.queue t)

  -- "A step takes the whole state and hands back the whole new state. A step ends in a new state or in a named stop."
  abbrev pub next : Config → Next
  next c = next_of c c.active

-- the records of a step's event, if it writes one
abbrev pub log_of : {Event : Type 0} → Option Event → List Event
log_of none = []
log_of (some x) = x ∷ []

-- How a run call ends, and the number that it returns.
pub data Ending : Type 0 where
  finished paused stuck logfull : Ending
  halted : Halt → Ending

unfoldable pub number_of : Ending → ℕ
number_of finished = 0
number_of paused = 1
number_of stuck = 2
number_of (halted tasks) = 3
number_of (halted spent) = 4
number_of logfull = 5
number_of (halted novalue) = 24

module _ (R : Rules) where
  open R use {Event}

  pub data What : Type 0 where
    stops : Ending → What
    makes : Option Event → Config R → What

  -- "Before each step 0, 2, 1, 3, 4, 5 are tried in this order." Request 2.2: 24 is "tried after 1 and before 3".
  -- (With a budget of so many steps and room for so many records left.)
  abbrev pub test : (budget room : ℕ) → Next R → What
  test b r finish = stops finished
  test b r jam = stops stuck
  test zero r (bar k) = stops paused
  test (suc b) r (bar k) = stops (halted k)
  test zero r (goes x c) = stops paused
  test (suc b) r (goes none c) = makes none c
  test (suc b) zero (goes (some x) c) = stops logfull
  test (suc b) (suc r) (goes (some x) c) = makes (some x) c

  abbrev pub size : Option Event → ℕ
  size none = 0
  size (some x) = 1

  -- One run call: its steps, each with the state before it and its event, then the ending and the last state.
  pub data Run : Type 0 where
    end : Ending → Config R → Run
    step : Config R → Option Event → Run → Run

  abbrev pub carry : What → (Option Event → Config R → Run) → Config R → Run
  carry (stops e) k c = end e c
  carry (makes x c') k c = step c x (k x c')

  -- (With no budget left `test` makes no step.)
  abbrev pub run : (budget room : ℕ) → Config R → Run
  run zero r c = carry (test zero r (next R c)) (λ x c'. end paused c') c
  run (suc b) r c = carry (test (suc b) r (next R c)) (λ x c'. run b (r - size x) c') c

  abbrev pub ending : Run → Ending
  ending (end e c) = e
  ending (step c x u) = ending u

  abbrev pub last : Run → Config R
  last (end e c) = c
  last (step c x u) = last u

  -- "The step count returned is the number of rows of this list that were carried out"
  abbrev pub steps_of : Run → ℕ
  steps_of (end e c) = 0
  steps_of (step c x u) = suc (steps_of u)

  abbrev pub log : Run → List Event
  log (end e c) = []
  log (step c x u) = log_of x ++ log u
