-- Document 01, "Steps": the recipe language as a task language, over any kind of place.
-- Assumes nothing.
use Rattle.std.specs.Prelude.{ℕ, suc, Bool, false, not, ◌||◌, ◌&&◌, cond, List, [], ◌∷◌, eqb, leb, ltb, min, ℤ, pos, negsuc, length}
use Rattle.std.proofs.Math.Option.{Option, none, some}
use Rattle.rules.specs.Values.{truth, is_true}
use Rattle.rules.specs.Recipe.{Recipe, Env, read, write, value}
use Rattle.rules.specs.Places.{Point, nowhere, stop, skips, assigns, tests, spawns, suspends, awaits, guards, at, start}
use Rattle.rules.specs.State.{History, Kept, Store, largest, spawned_by}
use Rattle.rules.specs.Log.{Event, spawned, taken, gave, waits, turned, ended, valve}
use Rattle.rules.specs.Scheduler.{Rules, Readiness, ready, waits_for, at_guard, no_number, on, back, over, Halt, tasks, spent, novalue, Act, halts, does}

-- "A number is done if it has been issued and its task is not live"; request 2.7 of document 02: "0 counts as done, as figure 4 of source document 002
-- has it; other numbers never issued still hold the waiter."
unfoldable pub is_done : (issued : ℕ) → (ℕ → Bool) → ℤ → Bool
is_done issued live (pos n) = eqb n 0 || (leb n issued && not (live n))
is_done issued live (negsuc n) = false

-- "3 tasks: next is a spawn and 32 tasks live; 4 spent: next is a spawn and 65,535 is issued": the limit that stops a spawn, if any, with so
-- many tasks queued beside the active one and this number issued. (Document 002 has no limits.)
abbrev pub Limits : Type 0
Limits = (queued issued : ℕ) → Option Halt

unfoldable pub limits : Limits
limits queued issued = cond (leb 31 queued) (some tasks) (cond (leb 65535 issued) (some spent) none)

-- "7 valve (value set; only for set of names 0–7). Other steps write none."
unfoldable pub valve_of : (task name : ℕ) → ℤ → Option Event
valve_of t n z = cond (ltb n 8) (some (valve t n z)) none

-- What is kept of a task beside what the steps need: as it is spawned by the task with this number, and as it is taken up.
pub record Keeping (H : Type 0) : Type 0 where
  pub born : (spawner : ℕ) → H
  pub raised : H → H

-- request 2.6 of document 02: "the times taken up, unsigned, staying at the largest value"
abbrev pub once_more : History → History
once_more h = record { spawner = h.spawner; taken_up = min (suc h.taken_up) largest }

abbrev pub counting : Keeping History
counting = record { born = spawned_by; raised = once_more }

module _ {A H : Type 0} where
  abbrev pub env_of : Store → Kept A H → Env
  env_of s t = record { variables = s.variables; parameter = t.parameter }

  -- the task at another place; with another parameter too
  abbrev pub go_to : Kept A H → A → Kept A H
  go_to t k = record { number = t.number; place = k; parameter = t.parameter; history = t.history }

  abbrev pub go_with : Kept A H → ℤ → A → Kept A H
  go_with t z k = record { number = t.number; place = k; parameter = z; history = t.history }

  -- "It waits if its next statement is an await and the variable's value now is not a done number." Request 2.1: at a guard "it passes only if the
  -- expression is true then", with the waiting task's own parameter. Request 2.2: "A guard without a value counts as untrue."
  abbrev pub wait_at : Point A → Store → (ℕ → Bool) → Kept A H → Readiness
  wait_at nowhere s live t = ready
  wait_at stop s live t = ready
  wait_at (skips k) s live t = ready
  wait_at (assigns n e k) s live t = ready
  wait_at (tests e k l) s live t = ready
  wait_at (spawns n p e k) s live t = ready
  wait_at (suspends k) s live t = ready
  wait_at (awaits n k) s live t = cond (is_done s.issued live (read (env_of s t) n)) ready (waits_for (read (env_of s t) n))
  wait_at (guards e k) s live t = cond (is_true (value (env_of s t) e)) ready at_guard

  -- "(past its await, if it stood at one)", or past its guard
  abbrev pub past_at : Point A → Kept A H → Kept A H
  past_at nowhere t = t
  past_at stop t = t
  past_at (skips k) t = t
  past_at (assigns n e k) t = t
  past_at (tests e k l) t = t
  past_at (spawns n p e k) t = t
  past_at (suspends k) t = t
  past_at (awaits n k) t = go_to t k
  past_at (guards e k) t = go_to t k

  -- the task t goes on at k with the variables and the parameter v, this number issued, these tasks new
  abbrev pub moves : ℕ → Env → Kept A H → A → List (Kept A H) → Option Event → Act Store (Kept A H) Event
  moves issued v t k new x = does (record { issued = issued; variables = v.variables }) new (on (go_with t v.parameter k)) x

  -- request 2.2: "The step that needed it is not done" where there is no value, else this is done with it
  abbrev pub needing : Option ℤ → (ℤ → Act Store (Kept A H) Event) → Act Store (Kept A H) Event
  needing none f = halts novalue
  needing (some z) f = f z

  -- request 2.6: "how often it was taken up": a try that takes it up counts
  abbrev pub counted : Keeping H → Kept A H → Kept A H
  counted keep t = record { number = t.number; place = t.place; parameter = t.parameter; history = keep.raised t.history }

  -- "spawn: the argument is worked out, the next number goes into the variable, the new task joins the back"; request 2.6: its starter is the task that acts
  abbrev pub spawn_at : Keeping H → Option Halt → Store → Kept A H → ℕ → A → ℤ → A → Act Store (Kept A H) Event
  spawn_at keep (some l) s t n p z k = halts l
  spawn_at keep none s t n p z k =
      moves (suc s.issued) (write (env_of s t) n (pos (suc s.issued))) t k
      (record { number = suc s.issued; place = p; parameter = z; history = keep.born t.number } ∷ [])
      (some (spawned t.number (suc s.issued)))

  -- "With a task active, one step is": row for row. Request 2.1: "A task reaching it joins the back like an await." Request 2.2: 24 "when the expression of the
  -- next set, test or spawn has no value, tried .. before 3". (begin: where each procedure starts. No accepted state has a task at no place.)
  abbrev pub act_at : Keeping H → (ℕ → A) → Limits → Point A → Store → List (Kept A H) → Kept A H → Act Store (Kept A H) Event
  act_at keep begin full nowhere s q t = does s [] over (some (ended t.number))
  act_at keep begin full (skips k) s q t = does s [] (on (go_to t k)) none
  act_at keep begin full (assigns n e k) s q t = needing (value (env_of s t) e) (λ z. moves s.issued (write (env_of s t) n z) t k [] (valve_of t.number n z))
  act_at keep begin full (tests e k l) s q t = needing (value (env_of s t) e) (λ z. does s [] (on (go_to t (cond (truth z) k l))) none)
  act_at keep begin full (spawns n p e k) s q t = needing (value (env_of s t) e) (λ z. spawn_at keep (full (length q) s.issued) s t n (begin p) z k)
  act_at keep begin full (suspends k) s q t = does s [] (back (go_to t k)) (some (gave t.number))
  act_at keep begin full (awaits n k) s q t = does s [] (back t) (some (waits t.number (read (env_of s t) n)))
  act_at keep begin full (guards e k) s q t = does s [] (back t) (some (waits t.number no_number))
  act_at keep begin full stop s q t = does s [] over (some (ended t.number))

  -- by what is kept of a task, what stands at a place, where a procedure starts, and the limits
  abbrev pub machine : Keeping H → (A → Point A) → (ℕ → A) → Limits → Rules
  machine keep see begin full = record {
    Store = Store;
    Task = Kept A H;
    Event = Event;
    num = λ t. t.number;
    issued = λ s. s.issued;
    wait = λ s live t. wait_at (see t.place) s live t;
    up = λ t. counted keep (past_at (see t.place) t);
    took = λ t. taken t.number;
    turn = λ t z. turned t.number z;
    act = λ s q t. act_at keep begin full (see t.place) s q t;
  }

-- document 01: tasks stand at indices of the recipe's table
abbrev pub recipes : Recipe → Rules
recipes r = machine counting (at r) (start r) limits
