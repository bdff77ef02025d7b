-- Request 2.2 of document 02, "A zero divisor has to stop the press", sentence by sentence.
-- Assumes nothing.
use Rattle.std.specs.Prelude.{ℕ, zero, suc, ◌≡◌, ◌↔◌, List, pos}
use Rattle.std.proofs.Math.Option.{Option, none, some}
use Rattle.rules.specs.Recipe.{Expr, two, one, Recipe, Env, value}
use Rattle.rules.specs.Places.{Point, nowhere, stop, skips, assigns, tests, spawns, suspends, awaits, guards, at}
use Rattle.rules.specs.State.{Task, State}
use Rattle.rules.specs.Scheduler.{at_guard, readiness, novalue, bar, next}
use Rattle.rules.specs.Steps.{env_of, recipes}
use Rattle.rules.specs.Run.{Outcome, run_on}

-- "a quotient by 0 has none .., an operand without a value leaves none, and both operands of "and" and "or" are always worked out"
pub data Lacks (v : Env) : Expr → Type 0 where
  by_zero : (a b : Expr) → value v b ≡ some (pos 0) → Lacks v (two 3 a b)
  of_first : (o : ℕ) (a b : Expr) → Lacks v a → Lacks v (two o a b)
  of_second : (o : ℕ) (a b : Expr) → Lacks v b → Lacks v (two o a b)
  of_only : (o : ℕ) (a : Expr) → Lacks v a → Lacks v (one o a)

-- "the expression of the next set, test or spawn"
abbrev pub needs : {A : Type 0} → Point A → Option Expr
needs nowhere = none
needs stop = none
needs (skips k) = none
needs (assigns n e k) = some e
needs (tests e k l) = some e
needs (spawns n p e k) = some e
needs (suspends k) = none
needs (awaits n k) = none
needs (guards e k) = none

-- the active task's next step needs a value that is not there
pub record Lacking (r : Recipe) (c : State) : Type 0 where
  pub task : Task ℕ
  pub expr : Expr
  pub acts : c.active ≡ some task
  pub needed : needs (at r task.place) ≡ some expr
  pub lacks : Lacks (env_of c.store task) expr

-- what holds of every recipe, in every state
pub record NoValue (r : Recipe) (c : State) : Type 0 where
  -- "Working out an expression now gives a value or "no value""
  pub no_value : (v : Env) (e : Expr) → (value v e ≡ none) ↔ Lacks v e
  -- "The step that needed it is not done": 24 bars it, and bars no other
  pub not_done : (next (recipes r) c ≡ bar novalue) ↔ Lacking r c
  -- "A guard without a value counts as untrue."
  pub untrue : (t : Task ℕ) (e : Expr) (k : ℕ) → at r t.place ≡ guards e k → Lacks (env_of c.store t) e → readiness (recipes r) c t ≡ at_guard

-- "24, a stop like 3 and no refusal": the state is kept, so that the next call stops there again, with no step, if it has a budget, and pauses if not. (The call o
-- ended in 24; the next one is given its block, and a log buffer that it leaves as it is.)
abbrev pub again : Outcome → (budget : ℕ) → (log : List ℕ) → Outcome
again o zero l = record { number = 1; steps = 0; records = 0; place = 0; block = o.block; log = l }
again o (suc b) l = record { number = 24; steps = 0; records = 0; place = o.place; block = o.block; log = l }

abbrev pub StopsAgain : (table block : List ℕ) → Type 0
StopsAgain t b = (budget budget' : ℕ) (log log' : List ℕ) →
    let o = run_on t b budget log in
    o.number ≡ 24 → run_on t o.block budget' log' ≡ again o budget' log'
