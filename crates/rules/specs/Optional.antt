-- Request 2.7 of document 02, "Optional tasks", sentence by sentence.
-- Assumes nothing.
use Rattle.std.specs.Prelude.{ℕ, Bool, false, map, eqb, negsuc, ◌+◌, ◌*◌, ◌≤◌, ◌≡◌, true, List, [], ◌∷◌, ◌++◌, ℤ, pos, length}
use Rattle.std.proofs.Math.Option.{none, some}
use Rattle.rules.specs.Recipe.{Recipe, read}
use Rattle.rules.specs.Places.{awaits, at}
use Rattle.rules.specs.State.{Task, State}
use Rattle.rules.specs.Log.{waits, taken}
use Rattle.rules.specs.Scheduler.{waits_for, readiness, can_go, goes, next}
use Rattle.rules.specs.Steps.{is_done, counting, env_of, go_to, counted, recipes}
use Rattle.rules.specs.Moments.{Call, budgets, Moment, trace}
use Rattle.rules.specs.Fairness.{Every, until, longest, Free, TakenWithin}
use Rattle.rules.specs.Why.{NeverIssued}

-- which of −1 and the numbers 0 to 4 are done: where none is issued; where 1 is, and is live; where 1 to 3 are, and 2 is live
abbrev pub done : (issued : ℕ) → (ℕ → Bool) → List Bool
done issued live = map (is_done issued live) (negsuc 0 ∷ pos 0 ∷ pos 1 ∷ pos 2 ∷ pos 3 ∷ pos 4 ∷ [])

pub record Done : Type 0 where
  pub none_issued : done 0 (λ n. false) ≡ false ∷ true ∷ false ∷ false ∷ false ∷ false ∷ []
  pub one_issued : done 1 (λ n. eqb n 1) ≡ false ∷ true ∷ false ∷ false ∷ false ∷ false ∷ []
  pub three_issued : done 3 (λ n. eqb n 2) ≡ false ∷ true ∷ true ∷ false ∷ true ∷ false ∷ []

-- what holds of every recipe, in every state
pub record Optional (r : Recipe) (c : State) : Type 0 where
  -- "0 counts as done": at an await of a variable that holds 0 a queued task can go on, whatever has been issued
  pub zero_done : (t : Task ℕ) (name k : ℕ) → at r t.place ≡ awaits name k → read (env_of c.store t) name ≡ pos 0
      → can_go (recipes r) c t ≡ true
  -- "other numbers never issued still hold the waiter", negative ones among them
  pub others_hold : (t : Task ℕ) (name k : ℕ) (z : ℤ) → at r t.place ≡ awaits name k → read (env_of c.store t) name ≡ z
      → NeverIssued c.store.issued z → ¬ (z ≡ pos 0) → readiness (recipes r) c t ≡ waits_for z
  -- "wait, taken, ended": a task that reaches an await of a 0 joins the back first, still at the await
  pub joins_back : (t : Task ℕ) (name k : ℕ) → c.active ≡ some t → at r t.place ≡ awaits name k → read (env_of c.store t) name ≡ pos 0
      → next (recipes r) c ≡ goes (some (waits t.number (pos 0))) (record { store = c.store; active = none; queue = c.queue ++ (t ∷ []) })
  -- and is taken up past it, if the variable holds 0 when it is tried
  pub passes : (t : Task ℕ) (q : List (Task ℕ)) (name k : ℕ) → c.active ≡ none → c.queue ≡ t ∷ q → at r t.place ≡ awaits name k
      → read (env_of c.store t) name ≡ pos 0
      → next (recipes r) c ≡ goes (some (taken t.number)) (record { store = c.store; active = some (counted counting (go_to t k)); queue = q })

-- What demand 3 asks of a task t that has to wait for its turn alone: it stands at an await, whose variable holds 0 at each moment with none active
-- until its turn, no burst takes more than b steps, and no limit and no zero divisor stops a call.
pub record AwaitsZero (r : Recipe) (t : Task ℕ) (b : ℕ) (ms : List (Moment (recipes r))) : Type 0 where
  pub name : ℕ
  pub next : ℕ
  pub at_await : at r t.place ≡ awaits name next
  pub holds_zero : Every (λ x. x.at.active ≡ none → read (env_of x.at.store t) name ≡ pos 0) (until (recipes r) t.number ms)
  pub bursts : longest (recipes r) 0 (until (recipes r) t.number ms) ≤ b
  pub free : Every (λ x. Free (recipes r) x.what) (until (recipes r) t.number ms)

-- "Every bound on waiting is to be shown with this reading of "can go on"": demand 3's, of the calls cs from the state c, for a task that awaits a 0
abbrev pub OptionalBound : Recipe → State → List Call → Type 0
OptionalBound r c cs = (pre post : List (Moment (recipes r))) (m : Moment (recipes r)) (ahead behind : List (Task ℕ)) (t : Task ℕ) (b : ℕ)
    → trace (recipes r) c cs ≡ pre ++ (m ∷ post) → m.at.active ≡ none → m.at.queue ≡ ahead ++ (t ∷ behind)
    → AwaitsZero r t b (m ∷ post)
    → length ahead * (b + 1) + 1 ≤ budgets m.calls
    → TakenWithin (recipes r) (length ahead * (b + 1) + 1) t (m ∷ post)
