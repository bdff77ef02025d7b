-- Demand 3 and "continued equals one run", of run calls on a table and a state block.
-- Assumes nothing.
use Rattle.std.specs.Prelude.{ℕ, ◌+◌, ◌*◌, ◌≤◌, ◌<◌, ◌≡◌, ◌⊎◌, List, [], ◌∷◌, ◌++◌, map, eqb, length, get_or, take}
use Rattle.rules.specs.Recipe.{Recipe}
use Rattle.rules.specs.State.{State, write_block}
use Rattle.rules.specs.Log.{Event, spawned, taken, gave, waits, turned, ended, valve, log_bytes}
use Rattle.rules.specs.Scheduler.{is, number_of}
use Rattle.rules.specs.Steps.{recipes}
use Rattle.rules.specs.Run.{Outcome, refusal, room_of, Opened, refuses, opens, open_on, run_on}
use Rattle.rules.specs.Moments.{Call, refused, call, trace, finally}
use Rattle.rules.specs.Fairness.{steps, records, endings, Demand3}

-- a buffer: every byte of it is below 256
abbrev pub Bytes : List ℕ → Type 0
Bytes p = (i : ℕ) → get_or p i 0 < 256

-- one run call of a list: its budget and its log buffer
pub record Given : Type 0 where
  pub budget : ℕ
  pub buffer : List ℕ

-- "Each call gets the same table and the block as the last one left it": what the calls return and leave
unfoldable pub outcomes : (table block : List ℕ) → List Given → List Outcome
outcomes t b [] = []
outcomes t b (g ∷ gs) =
    let o = run_on t b g.budget g.buffer in
    o ∷ outcomes t o.block gs

unfoldable pub last_block : (table block : List ℕ) → List Given → List ℕ
last_block t b [] = b
last_block t b (g ∷ gs) = last_block t (run_on t b g.budget g.buffer).block gs

-- "The step counts returned", added up
unfoldable pub steps_said : List Outcome → ℕ
steps_said [] = 0
steps_said (o ∷ os) = o.steps + steps_said os

-- what a call wrote of its log, and "the logs joined in call order"
abbrev pub written : Outcome → List ℕ
written o = take (8 * o.records) o.log

unfoldable pub logs_written : List Outcome → List ℕ
logs_written [] = []
logs_written (o ∷ os) = written o ++ logs_written os

-- the numbers returned
abbrev pub numbers_said : List Outcome → List ℕ
numbers_said os = map (λ o. o.number) os

-- The calls of a list as the scheduling rules see them: each is refused, or has its budget and its room, by the table and the block that it is given.
abbrev pub call_of : Opened → Given → Call
call_of (refuses n i) g = refused
call_of (opens r c) g = call g.budget (room_of g.buffer)

unfoldable pub calls : (table block : List ℕ) → List Given → List Call
calls t b [] = []
calls t b (g ∷ gs) = call_of (open_on t b) g ∷ calls t (run_on t b g.budget g.buffer).block gs

-- "numbers are never issued twice": the numbers that "spawned" records give out, in their order; how often a number is among them
abbrev pub given_out : List Event → List ℕ
given_out [] = []
given_out (spawned t n ∷ xs) = n ∷ given_out xs
given_out (taken t ∷ xs) = given_out xs
given_out (gave t ∷ xs) = given_out xs
given_out (waits t z ∷ xs) = given_out xs
given_out (turned t z ∷ xs) = given_out xs
given_out (ended t ∷ xs) = given_out xs
given_out (valve t v z ∷ xs) = given_out xs

abbrev pub times : ℕ → List ℕ → ℕ
times n [] = 0
times n (m ∷ ms) = is (eqb n m) + times n ms

-- no number is given out twice, and none that the first state has as issued
pub record NeverTwice (issued : ℕ) (xs : List Event) : Type 0 where
  pub once : (n : ℕ) → times n (given_out xs) ≤ 1
  pub new : (n : ℕ) → n ≤ issued → times n (given_out xs) ≡ 0

-- "a refused call has none and leaves the block as it was"; "none where every call is refused": every call returns the same refusal
pub record AllRefused (number place : ℕ) (t b : List ℕ) (gs : List Given) : Type 0 where
  pub each : outcomes t b gs ≡ map (λ g. refusal number place b g.buffer) gs
  pub block_kept : last_block t b gs ≡ b
  pub no_moments : (r : Recipe) (c : State) → trace (recipes r) c (calls t b gs) ≡ []

-- The calls run the recipe r from the state c.
pub record AllRun (r : Recipe) (c : State) (t b : List ℕ) (gs : List Given) : Type 0 where
  -- what demand 3 says of the moments of their steps
  pub demand : Demand3 (recipes r) c (calls t b gs)
  -- "The step counts returned add up to the number of these steps, the logs joined in call order are their records, and the last block is what these
  -- steps make of the first."
  pub counted : steps_said (outcomes t b gs) ≡ steps (recipes r) (trace (recipes r) c (calls t b gs))
  pub logged : logs_written (outcomes t b gs) ≡ log_bytes (records (recipes r) (trace (recipes r) c (calls t b gs)))
  pub block_left : last_block t b gs ≡ write_block (finally (recipes r) c (calls t b gs))
  -- the numbers returned are those of the endings at their moments
  pub numbered : numbers_said (outcomes t b gs) ≡ map number_of (endings (recipes r) (trace (recipes r) c (calls t b gs)))
  pub never_twice : NeverTwice c.store.issued (records (recipes r) (trace (recipes r) c (calls t b gs)))

-- "Demand 3 is a single claim about a list of run calls": on any table and any block, whatever their budgets and logs.
abbrev pub DemandOf : Opened → (table block : List ℕ) → List Given → Type 0
DemandOf (refuses n i) t b gs = AllRefused n i t b gs
DemandOf (opens r c) t b gs = AllRun r c t b gs

abbrev pub Demand : (table block : List ℕ) → List Given → Type 0
Demand t b gs = DemandOf (open_on t b) t b gs

-- The tie to a program: a call as it was made, with what it was given besides table and block and what it returned and left, and what `run` promises
-- of it: an equation for answer, block and log.
pub record Made : Type 0 where
  pub given : Given
  pub result : Outcome

pub record Promised (t b : List ℕ) (m : Made) : Type 0 where
  pub kept : m.result ≡ run_on t b m.given.budget m.given.buffer

-- calls made one after the other, each promised, each on the block that the last one left
abbrev pub Chained : (table block : List ℕ) → List Made → Type 0
Chained t b [] = Unit {0}
Chained t b (m ∷ ms) = Promised t b m × Chained t m.result.block ms

-- what then holds of them: their results are those of which demand 3 speaks
pub record Meets (t b : List ℕ) (ms : List Made) : Type 0 where
  pub demand : Demand t b (map (λ m. m.given) ms)
  pub results : map (λ m. m.result) ms ≡ outcomes t b (map (λ m. m.given) ms)

-- "Where a call ends in 1 or 5 and the next is given its state and the same table, the two together do what one call does whose budget is the steps of
-- the first plus the budget of the second and whose log buffer is long enough not to fill: same last state, same ending, steps added, logs joined.
-- This holds where the second log does not fill ..": the first call o, the second p, the one call q. (Its log is long enough for the records of both.)
pub record Continues (o p q : Outcome) : Type 0 where
  pub same_state : q.block ≡ p.block
  pub same_ending : q.number ≡ p.number
  pub steps_added : q.steps ≡ o.steps + p.steps
  pub logs_joined : written q ≡ written o ++ written p

abbrev pub ContinuedIsOne : (table block : List ℕ) → Type 0
ContinuedIsOne t b = (budget budget' : ℕ) (log log' whole : List ℕ) →
    let o = run_on t b budget log in
    let p = run_on t o.block budget' log' in
    let q = run_on t b (o.steps + budget') whole in
    (o.number ≡ 1) ⊎ (o.number ≡ 5) → ¬ (p.number ≡ 5) → 8 * (o.records + p.records) ≤ length whole → Continues o p q
