-- Request 2.1 of document 02, "Wait until the pressure is there", sentence by sentence.
-- Assumes nothing.
use Rattle.std.specs.Prelude.{ℕ, ◌≡◌, ◌↔◌, true, false, List, [], ◌∷◌, ◌++◌, pos}
use Rattle.std.proofs.Math.Option.{none, some}
use Rattle.rules.specs.Values.{is_true}
use Rattle.rules.specs.Recipe.{Expr, Recipe, read, value}
use Rattle.rules.specs.Table.{kind, kind_row}
use Rattle.rules.specs.Places.{awaits, guards, at}
use Rattle.rules.specs.State.{Task, State}
use Rattle.rules.specs.Log.{waits, turned, taken}
use Rattle.rules.specs.Scheduler.{is_live, any_go, goes, next}
use Rattle.rules.specs.Steps.{is_done, counting, env_of, go_to, counted, recipes}
use Rattle.rules.specs.Fairness.{Every, Stuck}

-- a queued task "waits for a number that is not done or for an untrue guard", in the state c of the recipe r
pub data Held (r : Recipe) (c : State) (t : Task ℕ) : Type 0 where
  not_done : (name k : ℕ)
      → at r t.place ≡ awaits name k
      → is_done c.store.issued (is_live (recipes r) c.queue) (read (env_of c.store t) name) ≡ false
      → Held r c t
  untrue : (e : Expr) (k : ℕ)
      → at r t.place ≡ guards e k
      → is_true (value (env_of c.store t) e) ≡ false
      → Held r c t

pub record AllHeld (r : Recipe) (c : State) : Type 0 where
  pub idle : c.active ≡ none
  pub some_queued : ¬ (c.queue ≡ [])
  pub every : Every (Held r c) c.queue

-- what holds of every recipe, in every state
pub record Guards (r : Recipe) (c : State) : Type 0 where
  -- "kind 13, name 0, value 0, enclosing one expression, with the span rules of kind 3"
  pub as_a_set : kind_row 13 ≡ kind 0 0 (kind_row 3).encloses (kind_row 3).field
  -- "A task reaching it joins the back like an await": still at the guard, whatever its value then; "its log records carry value 0"
  pub joins_back : (t : Task ℕ) (e : Expr) (k : ℕ) → c.active ≡ some t → at r t.place ≡ guards e k
      → next (recipes r) c ≡ goes (some (waits t.number (pos 0))) (record { store = c.store; active = none; queue = c.queue ++ (t ∷ []) })
  -- "When tried it passes only if the expression is true then", worked out with the parameter of the task that waits; "and otherwise it is turned", where
  -- some task can go on
  pub passes : (t : Task ℕ) (q : List (Task ℕ)) (e : Expr) (k : ℕ) → c.active ≡ none → c.queue ≡ t ∷ q → at r t.place ≡ guards e k
      → is_true (value (env_of c.store t) e) ≡ true
      → next (recipes r) c ≡ goes (some (taken t.number)) (record { store = c.store; active = some (counted counting (go_to t k)); queue = q })
  pub turns : (t : Task ℕ) (q : List (Task ℕ)) (e : Expr) (k : ℕ) → c.active ≡ none → c.queue ≡ t ∷ q → at r t.place ≡ guards e k
      → is_true (value (env_of c.store t) e) ≡ false → any_go (recipes r) c c.queue ≡ true
      → next (recipes r) c ≡ goes (some (turned t.number (pos 0))) (record { store = c.store; active = none; queue = q ++ (t ∷ []) })
  -- ""Stuck" is then said when every queued task waits for a number that is not done or for an untrue guard"
  pub stuck_when : Stuck (recipes r) c ↔ AllHeld r c
