-- What start and run promise: equations with the definitions, for answer, block and log; and what follows of lists of calls.
-- Assumes nothing.
use Rattle.std.specs.Prelude.{ℕ, ◌+◌, ◌*◌, ◌≤◌, ◌≡◌, ◌⊎◌, List, [], ◌∷◌, map, length}
use Rattle.rules.specs.Table as T
use Rattle.rules.specs.Run as R
use Rattle.rules.specs.Run.{Outcome, run_on}
use Rattle.rules.specs.Demand as D
use Rattle.rules.specs.Demand.{Meets, Continues}
use Rattle.rules.specs.Histories.{Histories}
use Rattle.runner.specs.declared.Started.{Started}
use Rattle.runner.specs.declared.Answer.{Answer}

-- what start answers by the verdict on table and block
abbrev pub started_by : T.Verdict → Started
started_by T.fine = record { number = 0; place = 0 }
started_by (T.fault n i) = record { number = n; place = i }

abbrev pub started_of : Started → (block : List ℕ) → R.Started
started_of r b = record { number = r.number; place = r.place; block = b }

abbrev pub outcome_of : Answer → (block log : List ℕ) → Outcome
outcome_of r b l = record { number = r.number; steps = r.steps; records = r.records; place = r.place; block = b; log = l }

-- a run call as it was made: what it was given besides table and block, what it returned, and what it left
pub record Called : Type 0 where
  pub budget : ℕ
  pub log : List ℕ
  pub answer : Answer
  pub block_left : List ℕ
  pub log_left : List ℕ

abbrev pub called : (budget : ℕ) → (log : List ℕ) → Answer → (block_left log_left : List ℕ) → Called
called n l r b l' = record { budget = n; log = l; answer = r; block_left = b; log_left = l' }

abbrev pub result : Called → Outcome
result c = outcome_of c.answer c.block_left c.log_left

abbrev pub made_of : Called → D.Made
made_of c = record { given = record { budget = c.budget; buffer = c.log }; result = result c }

-- what run promises of it
abbrev pub Contract : (table block : List ℕ) → Called → Type 0
Contract t b c = result c ≡ run_on t b c.budget c.log

-- calls of run one after the other: "each call gets the same table and the block as the last one left it"
abbrev pub Calls : (table block : List ℕ) → List Called → Type 0
Calls t b [] = Unit {0}
Calls t b (c ∷ cs) = Contract t b c × Calls t c.block_left cs

-- "Demand 3 is a single claim about a list of run calls": whatever calls of run follow this one, it holds of them all
abbrev pub MeetsDemand : (table block : List ℕ) → Called → Type 0
MeetsDemand t b c = (cs : List Called) → Calls t c.block_left cs → Meets t b (map made_of (c ∷ cs))

-- "a paused run that is continued equals one run": a second call p on the state that the call o left, and one call q in place of both,
-- whose log is long enough for the records of both
abbrev pub ContinuesAsOne : (table block : List ℕ) → Called → Type 0
ContinuesAsOne t b o = (p q : Called) → Contract t o.block_left p → q.budget ≡ o.answer.steps + p.budget → Contract t b q
    → (o.answer.number ≡ 1) ⊎ (o.answer.number ≡ 5) → ¬ (p.answer.number ≡ 5) → 8 * (o.answer.records + p.answer.records) ≤ length q.log
    → Continues (result o) (result p) (result q)

-- Request 2.6 of document 02, "Over demand 3's lists from a fresh state": whatever calls of run follow this start, their logs tell the history of each live task
abbrev pub KeepsHistories : (table : List ℕ) → R.Started → Type 0
KeepsHistories t s = s.number ≡ 0 → (cs : List Called) → Calls t s.block cs → Histories s.block (map result cs)
