-- What holds of every answer, whatever comes in: demand 1, and the table of "What the runner says" row by row.
-- Assumes nothing.
use Rattle.std.specs.Prelude.{ℕ, ◌+◌, ◌*◌, ◌≤◌, ◌<◌, ◌≡◌, ◌↔◌, ◌⊎◌, Bool, true, ◌&&◌, ◌||◌, List, [], eqb, leb, length, get_or, drop}
use Rattle.std.proofs.Math.Option.{none, some}
use Rattle.rules.specs.Recipe.{Recipe, value}
use Rattle.rules.specs.Table.{inner, expr_of, fine, fault, check, recipe_of}
use Rattle.rules.specs.Places.{is_place}
use Rattle.rules.specs.State.{Task, State, live, fresh, check_block, read_block}
use Rattle.rules.specs.Log.{Event}
use Rattle.rules.specs.Scheduler.{goes, next}
use Rattle.rules.specs.Steps.{env_of, recipes}
use Rattle.rules.specs.Run.{Started, Outcome}
use Rattle.rules.specs.Fairness.{Stuck}

-- "answers from the published list": 0 to 5 or 24 (request 2.2 of document 02), or a refusal, 11 to 17 for the table and 21 to 23 for the block
abbrev pub of_table : ℕ → Bool
of_table n = leb 11 n && leb n 17

abbrev pub of_block : ℕ → Bool
of_block n = leb 21 n && leb n 23

abbrev pub refuses : ℕ → Bool
refuses n = of_table n || of_block n

abbrev pub published : ℕ → Bool
published n = refuses n || leb n 5 || eqb n 24

-- a run's answer o to a block b and a log buffer l
pub record RunAnswers (b l : List ℕ) (o : Outcome) : Type 0 where
  pub listed : published o.number ≡ true
  -- "A refused call leaves state and log unchanged."
  pub refusal_keeps : refuses o.number ≡ true → (o.block ≡ b) × (o.log ≡ l) × (o.steps ≡ 0) × (o.records ≡ 0)
  -- the records fit the buffer; "Bytes past the last record keep their content."
  pub records_fit : 8 * o.records ≤ length l
  pub rest_kept : drop (8 * o.records) o.log ≡ drop (8 * o.records) l
  -- nothing outside the buffers is touched
  pub block_length : length o.block ≡ length b
  pub log_length : length o.log ≡ length l

-- start's numbers are 0, 11 to 17 and 21
pub record StartAnswers (b : List ℕ) (o : Started) : Type 0 where
  pub listed : (of_table o.number || eqb o.number 21 || eqb o.number 0) ≡ true
  pub refusal_keeps : refuses o.number ≡ true → o.block ≡ b
  pub block_length : length o.block ≡ length b

-- ---- "What the runner says", row by row. The numbers are the document's own, not those of the definitions.

-- "Table first: .. Then 21, 22, 23.": table or block are refused with a number and a place, or both are accepted
abbrev pub Refused : (t b : List ℕ) → (number place : ℕ) → Type 0
Refused t b n i = (check t ≡ fault n i) ⊎ ((check t ≡ fine) × (check_block (is_place (recipe_of t)) b ≡ fault n i))

abbrev pub Accepted : (t b : List ℕ) → Type 0
Accepted t b = (check t ≡ fine) × (check_block (is_place (recipe_of t)) b ≡ fine)

-- "0 finished: none active, queue empty"
abbrev pub Finished : State → Type 0
Finished c = (c.active ≡ none) × (c.queue ≡ [])

-- "next is a spawn": a task is active, and the record at its place has kind 6
pub record NextSpawns (t : List ℕ) (c : State) : Type 0 where
  pub task : Task ℕ
  pub acts : c.active ≡ some task
  pub is_spawn_holds : get_or t (8 * task.place) 0 ≡ 6

-- request 2.2 of document 02: "the expression of the next set, test or spawn has no value": a task is active, the record at its place is of the kinds 3 to 6, and the
-- expression behind that record has no value
pub record NextLacks (t : List ℕ) (c : State) : Type 0 where
  pub task : Task ℕ
  pub acts : c.active ≡ some task
  pub from_set : 3 ≤ get_or t (8 * task.place) 0
  pub to_spawn : get_or t (8 * task.place) 0 ≤ 6
  pub lacks : value (env_of c.store task) (expr_of (inner (drop (8 * task.place) t))) ≡ none

-- "next step writes a record" (so a step is next: neither 0 nor 2, and neither 24 nor a limit)
pub record NextWrites (r : Recipe) (c : State) : Type 0 where
  pub event : Event
  pub after : State
  pub writes : next (recipes r) c ≡ goes (some event) after

-- what the number says of the state c that the call left
pub record Says (t : List ℕ) (budget : ℕ) (l : List ℕ) (o : Outcome) (c : State) : Type 0 where
  pub finished : (o.number ≡ 0) ↔ Finished c
  pub stuck : (o.number ≡ 2) ↔ Stuck (recipes (recipe_of t)) c
  -- "1 paused: steps equal the budget"
  pub paused : (o.number ≡ 1) ↔ ((o.steps ≡ budget) × (¬ Finished c) × (¬ Stuck (recipes (recipe_of t)) c))
  -- request 2.2: "24, a stop like 3 and no refusal, when the expression of the next set, test or spawn has no value, tried after 1 and before 3"
  pub novalue : (o.number ≡ 24) ↔ ((o.steps < budget) × NextLacks t c)
  -- "3 tasks: next is a spawn and 32 tasks live"
  pub tasks : (o.number ≡ 3) ↔ ((o.steps < budget) × NextSpawns t c × (¬ NextLacks t c) × (length (live c) ≡ 32))
  -- "4 spent: next is a spawn and 65,535 is issued"
  pub spent : (o.number ≡ 4) ↔ ((o.steps < budget) × NextSpawns t c × (¬ NextLacks t c) × (length (live c) < 32) × (c.store.issued ≡ 65535))
  -- "5 logfull: next step writes a record and under 8 bytes are free"
  pub logfull : (o.number ≡ 5) ↔ ((o.steps < budget) × NextWrites (recipe_of t) c × (length l < 8 * o.records + 8))
  -- the steps are within the budget
  pub in_budget : o.steps ≤ budget
  -- "place (the faulty record; 0 where none is named)"; request 2.2: "its place the statement's record"
  pub names_record : o.number ≡ 24 → (x : NextLacks t c) → o.place ≡ x.task.place
  pub no_place : ¬ (o.number ≡ 24) → o.place ≡ 0

-- a run's answer o to a table t, a block b, a budget and a log buffer l
pub record RunSays (t b : List ℕ) (budget : ℕ) (l : List ℕ) (o : Outcome) : Type 0 where
  pub refused : (n i : ℕ) → Refused t b n i ↔ ((refuses n ≡ true) × (o.number ≡ n) × (o.place ≡ i))
  pub says : Accepted t b → Says t budget l o (read_block o.block)

-- "Start gives a number and a place by the same rules: 0 and 0 when accepted, else 11–17 or 21 with its place"
pub record StartSays (t b : List ℕ) (o : Started) : Type 0 where
  pub refused : (n i : ℕ) → (check t ≡ fault n i) ↔ ((of_table n ≡ true) × (o.number ≡ n) × (o.place ≡ i))
  pub short : (o.number ≡ 21) ↔ ((check t ≡ fine) × (¬ (length b ≡ 776)))
  pub accepted : (o.number ≡ 0) ↔ ((check t ≡ fine) × (length b ≡ 776))
  pub no_place : check t ≡ fine → o.place ≡ 0
  -- "it ignores the block's old content": the block that it leaves is accepted, and says the fresh state
  pub fresh_left : o.number ≡ 0 → Accepted t o.block × (read_block o.block ≡ fresh)
