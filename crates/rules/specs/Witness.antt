-- A recipe for which the waiting bound is tight: the main task awaits a variable that holds 0, behind two tasks that take two steps a burst, a test and a
-- suspend; what its moments count to, and what picks make of a queue.
-- Assumes nothing.
use Rattle.std.specs.Prelude.{ℕ, ◌+◌, ◌-◌, ◌*◌, ◌≡◌, cond, List, [], ◌∷◌, ◌++◌, map, eqb, pos, length, take, drop, replicate}
use Rattle.std.proofs.Math.Option.{none, some}
use Rattle.rules.specs.Recipe.{row}
use Rattle.rules.specs.Table.{recipe_of}
use Rattle.rules.specs.State.{Task, State, spawned_by, fresh, write_block}
use Rattle.rules.specs.Scheduler.{Rules, paused}
use Rattle.rules.specs.Steps.{recipes}
use Rattle.rules.specs.Moments.{Call, call, budgets, made, Moment, trace}
use Rattle.rules.specs.Fairness.{steps, records, endings, Linked, tries, Tries, NoTry, aheads, until, longest, Waiting, TakenWithin, pull, try_first, afterwards}
use Rattle.rules.specs.Demand.{given_out, times}
use Rattle.rules.specs.Optional.{AwaitsZero}
use Rattle.rules.specs.Histories.{takes, starters, IsStarter, Histories}
use Rattle.rules.specs.Trial.{own_zero}

abbrev pub table : List ℕ
table =
    row 1 0 5 (pos 0) ++ row 6 8 1 (pos 1) ++ row 9 0 0 (pos 0) ++ row 6 9 1 (pos 1) ++ row 9 0 0 (pos 0) ++ row 8 10 0 (pos 0)
    ++ row 1 0 3 (pos 0) ++ row 5 0 2 (pos 0) ++ row 9 0 0 (pos 1) ++ row 7 0 0 (pos 0)

-- the first call ends where the main task has joined the back; the pause and a call without budget fall into its wait
abbrev pub calls : List Call
calls = call 3 100 ∷ call 3 100 ∷ call 0 100 ∷ call 20 100 ∷ []

abbrev pub rules : Rules
rules = recipes (recipe_of table)

unfoldable pub moments : List (Moment rules)
moments = trace rules fresh calls

-- the moments from the second call on
abbrev pub waiting : List (Moment rules)
waiting = drop 4 moments

-- (task 1 spawned the others)
abbrev pub at : ℕ → ℕ → Task ℕ
at n k = record { number = n; place = k; parameter = pos 0; history = spawned_by (cond (eqb n 1) 0 1) }

abbrev pub ahead : List (Task ℕ)
ahead = at 2 7 ∷ at 3 7 ∷ []

-- where the main task waits: at its await
abbrev pub main : Task ℕ
main = at 1 5

-- at the first of these moments the task n is tried
abbrev pub TriesFirst : (n : ℕ) → List (Moment rules) → Type 0
TriesFirst n [] = ⊥
TriesFirst n (m ∷ ms) = Tries rules n m

-- Three tasks that await their parameter, a number never issued: a stuck state.
abbrev pub waiters : Rules
waiters = recipes (recipe_of own_zero)

abbrev pub waiter : ℕ → Task ℕ
waiter n = record { number = n; place = 1; parameter = pos 4; history = spawned_by (n - 1) }

abbrev pub all_wait : State
all_wait = record {
  store = record { issued = 3; variables = replicate 64 (pos 0) };
  active = none;
  queue = waiter 1 ∷ waiter 2 ∷ waiter 3 ∷ [];
}

abbrev pub numbers : List (Task ℕ) → List ℕ
numbers ts = map (λ t. t.number) ts

-- their queue with the i-th in front, and after the try of it
abbrev pub picked : ℕ → List ℕ
picked i = numbers (pull waiters i all_wait.queue)

abbrev pub after_pick : ℕ → List ℕ
after_pick i = numbers (afterwards waiters all_wait (try_first waiters all_wait (pull waiters i all_wait.queue))).queue

-- What the moments of these calls count to, and what picks make of a queue.
pub record Counts : Type 0 where
  -- "Budgets count from the moment on: what its call then has left and those of later calls": 26 in all, one less with each step, none where a call ends
  pub left : map (λ m. budgets m.calls) (take 12 moments) ≡ 26 ∷ 25 ∷ 24 ∷ 23 ∷ 23 ∷ 22 ∷ 21 ∷ 20 ∷ 20 ∷ 20 ∷ 19 ∷ 18 ∷ []
  -- a burst of the tasks ahead is a test and a suspend
  pub bursts : longest rules 0 (until rules 1 waiting) ≡ 2
  pub given_out_holds : given_out (records rules moments) ≡ 2 ∷ 3 ∷ []
  pub often : times 2 (2 ∷ 3 ∷ 2 ∷ []) ≡ 2
  -- request 2.6: the tasks taken up, and who spawned task 2 and task 1
  pub taken_up : takes (records rules moments) ≡ 2 ∷ 3 ∷ 1 ∷ 2 ∷ 3 ∷ 2 ∷ 3 ∷ 2 ∷ []
  pub spawned_it : starters 2 (records rules moments) ≡ 1 ∷ []
  pub spawned_none : starters 1 (records rules moments) ≡ []
  pub ended : endings rules moments ≡ paused ∷ paused ∷ paused ∷ paused ∷ []
  -- the tasks tried, in their order, and those ahead of task 2 each time that it is put back
  pub in_turn : numbers (tries rules moments) ≡ 2 ∷ 3 ∷ 1 ∷ 2 ∷ 3 ∷ 2 ∷ 3 ∷ 2 ∷ []
  pub put_back : map numbers (aheads rules 2 moments) ≡ (3 ∷ 1 ∷ []) ∷ (3 ∷ []) ∷ (3 ∷ []) ∷ (3 ∷ []) ∷ []
  -- two successive tries of task 2, with a pause and a call without budget between them
  pub try_of_holds : TriesFirst 2 (drop 4 moments)
  pub no_try : NoTry rules 2 (take 9 (drop 5 moments))
  pub next_try : TriesFirst 2 (drop 14 moments)
  -- "let any queued task be picked and tried in place of the front": it stands in front of the others, and is turned behind them
  pub picks : map picked (0 ∷ 1 ∷ 2 ∷ []) ≡ (1 ∷ 2 ∷ 3 ∷ []) ∷ (2 ∷ 1 ∷ 3 ∷ []) ∷ (3 ∷ 1 ∷ 2 ∷ []) ∷ []
  pub turned : map after_pick (0 ∷ 1 ∷ 2 ∷ []) ≡ (2 ∷ 3 ∷ 1 ∷ []) ∷ (1 ∷ 3 ∷ 2 ∷ []) ∷ (1 ∷ 2 ∷ 3 ∷ []) ∷ []

-- What is no chain of steps by the rules: no step at all from one state to another; a step without an event where the next one, a spawn, has one.
pub record NoChain : Type 0 where
  pub elsewhere : ¬ Linked rules [] fresh all_wait
  pub another : (c : State) → ¬ Linked rules (record { at = fresh; calls = []; what = made none } ∷ []) fresh c

-- a state of one task, active or queued, and its block
abbrev pub only_active : Task ℕ → List ℕ
only_active t = write_block (record { store = all_wait.store; active = some t; queue = [] })

abbrev pub only_queued : Task ℕ → List ℕ
only_queued t = write_block (record { store = all_wait.store; active = none; queue = t ∷ [] })

abbrev pub with_history : (spawner taken_up : ℕ) → Task ℕ
with_history s n = record { number = 2; place = 1; parameter = pos 0; history = record { spawner = s; taken_up = n } }

-- What is no history that logs tell: a spawner where no record names the task, another one than it tells, one of two; where there are no logs, a count or a
-- spawner, of the active task and of a queued one.
pub record NoHistory : Type 0 where
  pub unnamed : ¬ IsStarter 1 []
  pub another : ¬ IsStarter 3 (2 ∷ [])
  pub twice : (s : ℕ) → ¬ IsStarter s (2 ∷ 2 ∷ [])
  pub active_counted : ¬ Histories (only_active (with_history 0 1)) []
  pub queued_counted : ¬ Histories (only_queued (with_history 0 1)) []
  pub active_spawned : ¬ Histories (only_active (with_history 1 0)) []
  pub queued_spawned : ¬ Histories (only_queued (with_history 1 0)) []

-- It waits as the bound asks, its variable 0 and bursts of at most 2 steps, and is taken up at step 2 * (2 + 1) + 1 exactly.
pub record Tight : Type 0 where
  pub at_zero : AwaitsZero (recipe_of table) main 2 waiting
  pub waits : Waiting rules main 2 waiting
  pub bounded : TakenWithin rules (length ahead * (2 + 1) + 1) main waiting
  pub exactly : steps rules (until rules 1 waiting) ≡ length ahead * (2 + 1) + 1
