-- Document 01, "What the runner says": start and run, for every table, block, budget and log buffer.
-- Assumes nothing.
use Rattle.std.specs.Prelude.{ℕ, ◌*◌, ◌/◌, cond, List, ◌++◌, eqb, length, drop}
use Rattle.std.proofs.Math.Option.{Option, none, some}
use Rattle.rules.specs.Table.{Verdict, fine, fault, ◌else◌, check, recipe_of}
use Rattle.rules.specs.Recipe.{Recipe}
use Rattle.rules.specs.Places.{is_place}
use Rattle.rules.specs.State.{Task, State, fresh, check_block, read_block, write_block}
use Rattle.rules.specs.Log.{log_bytes}
use Rattle.rules.specs.Scheduler.{tasks, spent, novalue, Ending, finished, paused, stuck, logfull, halted, number_of, Run, run, ending, last, steps_of, log}
use Rattle.rules.specs.Steps.{recipes}

-- "Start gives a number and a place by the same rules: 0 and 0 when accepted, else 11–17 or 21 with its place; it ignores the block's old content."
pub record Started : Type 0 where
  pub number : ℕ
  pub place : ℕ
  pub block : List ℕ

abbrev pub start_with : Verdict → List ℕ → Started
start_with fine b = record { number = 0; place = 0; block = write_block fresh }
start_with (fault n i) b = record { number = n; place = i; block = b }

unfoldable pub start_on : (table block : List ℕ) → Started
start_on t b =
    let size = cond (eqb (length b) 776) fine (fault 21 0) in
    start_with (check t else size) b

-- "A run gives number, steps, log records and place (the faulty record; 0 where none is named)"; what it leaves in the block and the log.
pub record Outcome : Type 0 where
  pub number : ℕ
  pub steps : ℕ
  pub records : ℕ
  pub place : ℕ
  pub block : List ℕ
  pub log : List ℕ

-- 11 to 23: "unchanged, 0 steps, 0 records"
abbrev pub refusal : (number place : ℕ) → (block log : List ℕ) → Outcome
refusal n i b l = record { number = n; steps = 0; records = 0; place = i; block = b; log = l }

-- where the active task stands (a call that ends in 24 leaves one: `Answers.Says→novalue`)
abbrev pub stands_at : Option (Task ℕ) → ℕ
stands_at none = 0
stands_at (some t) = t.place

-- "0 where none is named"; request 2.2 of document 02: of 24 "its place the statement's record", at which the active task stands
abbrev pub place_of : Ending → State → ℕ
place_of finished c = 0
place_of paused c = 0
place_of stuck c = 0
place_of logfull c = 0
place_of (halted tasks) c = 0
place_of (halted spent) c = 0
place_of (halted novalue) c = stands_at c.active

-- 0 to 5, and 24, "a stop like 3": "as after the steps counted"; "Each call writes from the log buffer's first byte"; "Bytes past the last record keep their content."
unfoldable pub outcome : (r : Recipe) → Run (recipes r) → List ℕ → Outcome
outcome r u l = record {
  number = number_of (ending (recipes r) u);
  steps = steps_of (recipes r) u;
  records = length (log (recipes r) u);
  place = place_of (ending (recipes r) u) (last (recipes r) u);
  block = write_block (last (recipes r) u);
  log = log_bytes (log (recipes r) u) ++ drop (8 * length (log (recipes r) u)) l;
}

-- the records that fit a log buffer
abbrev pub room_of : List ℕ → ℕ
room_of l = length l / 8

-- What table and block are to run: refused with number and place, or a recipe and its state. "Table first: .. Then 21, 22, 23."
pub data Opened : Type 0 where
  refuses : (number place : ℕ) → Opened
  opens : Recipe → State → Opened

abbrev pub open_with : Verdict → Recipe → List ℕ → Opened
open_with fine r b = opens r (read_block b)
open_with (fault n i) r b = refuses n i

unfoldable pub open_on : (table block : List ℕ) → Opened
open_on t b =
    let blocks = check_block (is_place (recipe_of t)) b in
    open_with (check t else blocks) (recipe_of t) b

abbrev pub run_with : Opened → (block : List ℕ) → (budget : ℕ) → (log : List ℕ) → Outcome
run_with (refuses n i) b budget l = refusal n i b l
run_with (opens r c) b budget l = outcome r (run (recipes r) budget (room_of l) c) l

unfoldable pub run_on : (table block : List ℕ) → (budget : ℕ) → (log : List ℕ) → Outcome
run_on t b budget l = run_with (open_on t b) b budget l
