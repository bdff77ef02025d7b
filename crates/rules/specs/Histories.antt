-- Request 2.6 of document 02, "Who started this task?": what the logs tell of a task's history.
-- Assumes nothing.
use Rattle.std.specs.Prelude.{ℕ, min, ◌≡◌, List, [], ◌∷◌, ◌++◌, eqb}
use Rattle.rules.specs.State.{Task, live, largest, read_block}
use Rattle.rules.specs.Log.{Event, spawned, taken, gave, waits, turned, ended, valve, log_bytes}
use Rattle.rules.specs.Run.{Outcome, start_on}
use Rattle.rules.specs.Fairness.{Every, only}
use Rattle.rules.specs.Demand.{Given, outcomes, logs_written, times}

-- the tasks of "taken" records, in their order
abbrev pub takes : List Event → List ℕ
takes [] = []
takes (taken t ∷ xs) = t ∷ takes xs
takes (spawned t n ∷ xs) = takes xs
takes (gave t ∷ xs) = takes xs
takes (waits t z ∷ xs) = takes xs
takes (turned t z ∷ xs) = takes xs
takes (ended t ∷ xs) = takes xs
takes (valve t v z ∷ xs) = takes xs

-- the tasks of the "spawned" records that name the number n as new, in their order
abbrev pub starters : ℕ → List Event → List ℕ
starters n [] = []
starters n (spawned t m ∷ xs) = only (eqb n m) (t ∷ []) ++ starters n xs
starters n (taken t ∷ xs) = starters n xs
starters n (gave t ∷ xs) = starters n xs
starters n (waits t z ∷ xs) = starters n xs
starters n (turned t z ∷ xs) = starters n xs
starters n (ended t ∷ xs) = starters n xs
starters n (valve t v z ∷ xs) = starters n xs

-- "its spawner the task of its "spawned" record, if any", else 0; and no two name the task as new
abbrev pub IsStarter : (spawner : ℕ) → (starters : List ℕ) → Type 0
IsStarter s [] = s ≡ 0
IsStarter s (t ∷ []) = s ≡ t
IsStarter s (t ∷ u ∷ ts) = ⊥

-- the history of a task is what these records tell
pub record Recorded (xs : List Event) (t : Task ℕ) : Type 0 where
  -- "a live task's count must equal its "taken" records, up to that largest value"
  pub count : t.history.taken_up ≡ min (times t.number (takes xs)) largest
  pub starter : IsStarter t.history.spawner (starters t.number xs)

-- the block behind a list of calls, the first on the block b
abbrev pub block_behind : List ℕ → List Outcome → List ℕ
block_behind b [] = b
block_behind b (o ∷ os) = block_behind o.block os

-- "Over demand 3's lists from a fresh state": the logs joined are the bytes of records, and whichever records they are the bytes of, the history of each
-- live task of the last block is what these tell
pub record Histories (b : List ℕ) (os : List Outcome) : Type 0 where
  pub events : List Event
  pub logged : logs_written os ≡ log_bytes events
  pub told : (xs : List Event) → logs_written os ≡ log_bytes xs → Every (Recorded xs) (live (read_block (block_behind b os)))

-- of every list of run calls on the block that start leaves, whatever their budgets and logs
abbrev pub HistoriesFromFresh : (table block : List ℕ) → Type 0
HistoriesFromFresh t b = (start_on t b).number ≡ 0 → (gs : List Given) → Histories (start_on t b).block (outcomes t (start_on t b).block gs)
