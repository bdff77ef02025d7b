-- A run call as a whole: from one stretch of steps to the next, and its end.
-- Assumes nothing.
use Prim.Native.Nat.{ℕ, zero, suc, ◌≤◌, ◌<◌}
use mathlib.Core.Path.{◌≡◌, refl, sym, ap, ◌∙◌, subst, subst⁻¹}
use mathlib.Core.Bool.{true, false≢true}
use mathlib.Core.Option.{some}
use mathlib.Core.List.{List, [], ◌∷◌, ◌++◌}
use native.Mathlib.Omega.{arith}
use lib.IntN.{ℤ}
use lib.ListN.{length, drop}
use Rattle.std.specs.Prelude.{Option, None, Some, Result, Ok, Err}
use Rattle.rules.specs.Recipe.{Recipe}
use Rattle.rules.specs.Table.{recipe_of}
use Rattle.rules.specs.Places.{is_place, at}
use Rattle.rules.specs.State as R
use Rattle.rules.specs.Scheduler.{Run}
use Rattle.rules.specs.Steps.{counting, go_to, past_at, counted, recipes}
use Rattle.rules.specs.Fairness.{Every}
use Rattle.rules.proofs.Lists.{every_append}
use Rattle.rules.proofs.Fit.{TaskFit, Fit}
use Rattle.state.specs.declared.Task.{Task}
use Rattle.state.specs.declared.State.{State}
use Rattle.state.specs.View.{task_of, entry, queue_of, store_of, view, put_back, take_up, turned, turn}
use Rattle.state.proofs.Ring.{front_rest}
use Rattle.state.proofs.Views.{queue-length}
use Rattle.ready.specs.Ready.{idle}
use Rattle.moves.specs.declared.Move.{Move}
use Rattle.moves.specs.declared.Move.TheVariants.{Goes, Sets, Spawns, Gives, Waits, Ends}
use Rattle.count.specs.declared.Count.{Count}
use Rattle.count.specs.declared.Bounds.{Bounds}
use Rattle.count.specs.declared.Stop.{Stop}
use Rattle.count.specs.Along.{ending_of, Along, Ended}
use Rattle.count.proofs.Along.{along-start}
use Rattle.active.specs.declared.Proceeded.{Proceeded}
use Rattle.active.specs.Active.{leaves, busy, left_by, Active, Left}
use Rattle.idle.specs.declared.Tried as Tries-all
use Rattle.idle.specs.Idle.{took_up, Tries}
use Rattle.idle.proofs.Turning.{turned-length}
use Rattle.runner.specs.Drive.{call}

-- the state as the code holds it, by whether a task is active
abbrev pub busy_of : State → Task → R.State
busy_of s t = busy s.issued s.variables (task_of t) (queue_of s.queue)

busy-view : (s : State) (t : Task) → s.active ≡ Some t → view s ≡ busy_of s t
busy-view s t h = rw h refl

idle-view : (s : State) → s.active ≡ None → view s ≡ idle s
idle-view s h = rw h refl

-- the front becomes active: past its await, if it stood at one
took-up : (r : Recipe) (s : State) (t : Task) → 0 < s.queue.len
    → task_of t ≡ past_at (at r (entry s.queue 0).place) (entry s.queue 0) → task_of t ≡ go_to (entry s.queue 0) t.place
    → take_up (view s).queue t.place (view s) ≡ took_up r (view s).queue (view s)
took-up r s t queued past same =
    let up : R.Task ℕ → R.State = λ u. record { store = store_of s; active = some (counted counting u); queue = drop 1 (queue_of s.queue) } in
    rw (front_rest s.queue queued) (ap up (sym same ∙ past))

-- a move that leaves, but neither spawns nor ends, puts the task back
pub puts_back_else : (m : Move) (c : R.State) → leaves m ≡ true → ((n p : ℕ) (z : ℤ) (k : ℕ) → m ≡ Spawns n p z k → ⊥) → (m ≡ Ends → ⊥) → put_back c.active c ≡ left_by m c
puts_back_else (Goes k) c h s e = absurd (false≢true h)
puts_back_else (Sets n z k) c h s e = absurd (false≢true h)
puts_back_else (Spawns n p z k) c h s e = absurd (s n p z k refl)
puts_back_else (Gives k) c h s e = refl
puts_back_else (Waits z) c h s e = refl
puts_back_else Ends c h s e = absurd (e refl)

-- where none is turned
pub no_turn : (n : ℕ) (s : State) → n ≡ 0 → view s ≡ turn n (view s)
no_turn zero s h = refl
no_turn (suc n) s h = absurd (omega arith)

every-turned : {A : Type 0} (P : A → Type 0) (n : ℕ) (q : List A) → Every P q → Every P (turned n q)
every-turned P zero q h = h
every-turned P (suc n) [] h = h
every-turned P (suc n) (t ∷ q) h = every-turned P n (q ++ t ∷ []) (every_append P q (t ∷ []) h.1 (h.0, tt))

-- the call of the state s₀ with the log buffer log₀ has come to the state s
pub record Driven (table : List ℕ) (s₀ : State) (budget : ℕ) (log₀ : List ℕ) (s : State) (n : Count) (log : List ℕ) : Type 0 where
  pub along : Along (recipe_of table) (call table s₀ budget log₀) budget log₀ n log (view s)

-- it came to the state c and its last move or its stop
pub record Came (table : List ℕ) (s₀ : State) (budget : ℕ) (log₀ : List ℕ) (c : R.State) (n : Count) (log : List ℕ) (d : Result Move Stop) : Type 0 where
  pub left : Left (recipe_of table) (call table s₀ budget log₀) budget log₀ n log c d

-- k turns led from the state s to the state s'
pub record Turned (s : State) (k : ℕ) (s' : State) : Type 0 where
  pub off : s.active ≡ None
  pub view-is : view s' ≡ turn k (view s)

-- after so many turns of the state s a task was taken up, or the call stopped
pub record Tried (table : List ℕ) (s₀ : State) (budget : ℕ) (log₀ : List ℕ) (s : State) (k : ℕ) (n : Count) (log : List ℕ) (o : Option Stop) : Type 0 where
  pub tries : Tries (recipe_of table) (call table s₀ budget log₀) budget log₀ n log (turn k (idle s)) o

-- what the steps up to the next change of the queue go by, in the state s
abbrev pub bounds_in : State → ℕ → Bounds
bounds_in s budget = record { queued = s.queue.len; issued = s.issued; budget = budget }

-- the state after the turns
module _ {s s' : State} {k : ℕ} (g : Turned s k s') where
  after_is : view s' ≡ turn k (idle s)
  after_is = g.view-is ∙ ap (turn k) (idle-view s g.off)

  pub turned-some : k < s.queue.len → 0 < s'.queue.len
  turned-some i =
      let l = sym (queue-length s'.queue) ∙ ap (λ (c : R.State). length c.queue) g.view-is ∙ turned-length k (queue_of s.queue) in
      omega (arith, l, queue-length s.queue)

module _ {table : List ℕ} {s₀ : State} {budget : ℕ} {log₀ : List ℕ} where
  pub driven_start : Fit (recipe_of table) (view s₀) → Driven table s₀ budget log₀ s₀ (record { steps = 0; written = 0 }) log₀
  driven_start fits = record { along = along-start (recipe_of table) budget log₀ (view s₀) _ refl refl fits }

  module _ {s : State} {n : Count} {log : List ℕ} (d : Driven table s₀ budget log₀ s n log) where
    along-busy : (t : Task) → s.active ≡ Some t → Along (recipe_of table) (call table s₀ budget log₀) budget log₀ n log (busy_of s t)
    along-busy t h = subst (Along (recipe_of table) (call table s₀ budget log₀) budget log₀ n log) (busy-view s t h) d.along

    along-idle : s.active ≡ None → Along (recipe_of table) (call table s₀ budget log₀) budget log₀ n log (idle s)
    along-idle h = subst (Along (recipe_of table) (call table s₀ budget log₀) budget log₀ n log) (idle-view s h) d.along

    pub to_proceed : {t : Task} → s.active ≡ Some t → Active table (bounds_in s budget) log (task_of t) s.variables n
    to_proceed {t} h = record {
      queue = queue_of s.queue;
      many = queue-length s.queue;
      reached = record { call = call table s₀ budget log₀; given = log₀; along = along-busy t h };
    }

    -- what `proceed` ensures of every call, of this one
    pub came : (t : Task) (p : Proceeded) (v : List ℤ) (log' : List ℕ) → s.active ≡ Some t
        → ((u : Run (recipes (recipe_of table))) (given : List ℕ) (q : List (R.Task ℕ)) → length q ≡ s.queue.len
        → Along (recipe_of table) u budget given n log (busy s.issued s.variables (task_of t) q)
        → Left (recipe_of table) u budget given p.count log' (busy s.issued v (task_of p.task) q) p.left)
        → Came table s₀ budget log₀ (busy s.issued v (task_of p.task) (queue_of s.queue)) p.count log' p.left
    came t p v log' h left = record { left = left _ _ (queue_of s.queue) (queue-length s.queue) (along-busy t h) }

    -- what `try_all` ensures of every call, of this one
    pub tried : (w : Tries-all.Tried) (log' : List ℕ) → s.active ≡ None
        → ((u : Run (recipes (recipe_of table))) (given : List ℕ) → Along (recipe_of table) u budget given n log (idle s)
        → Tries (recipe_of table) u budget given w.count log' (turn w.turns (idle s)) w.stop)
        → Tried table s₀ budget log₀ s w.turns w.count log' w.stop
    tried w log' h tries = record { tries = tries _ _ (along-idle h) }

    -- the front after the turns stands at a place
    pub front_placed : {k : ℕ} {s' : State} → Turned s k s' → k < s.queue.len → is_place (recipe_of table) (entry s'.queue 0).place ≡ true
    front_placed {k} {s'} g i =
        let P : R.Task ℕ → Type 0 = TaskFit (recipe_of table) (store_of s) in
        let e : entry s'.queue 0 ∷ _ ≡ turned k (queue_of s.queue) = sym (front_rest s'.queue (turned-some g i)) ∙ ap (λ (c : R.State). c.queue) g.view-is in
        (subst⁻¹ (Every P) e (every-turned P k (queue_of s.queue) (along-idle g.off).fits.tasks_fit)).0.placed

  -- the task active came to a state, and the call ends there, or goes on
  module _ {c : R.State} {n : Count} {log : List ℕ} {d : Result Move Stop} (x : Came table s₀ budget log₀ c n log d) where
    pub came_ends : {stop : Stop} → d ≡ Err stop → Ended (recipe_of table) (call table s₀ budget log₀) log₀ n log c (ending_of stop)
    came_ends e = subst (Left (recipe_of table) (call table s₀ budget log₀) budget log₀ n log c) e x.left

    pub came_within : {m : Move} → d ≡ Ok m → n.steps ≤ budget
    came_within e = (subst (Left (recipe_of table) (call table s₀ budget log₀) budget log₀ n log c) e x.left).in_budget

    pub came_on : {m : Move} {s' : State} → d ≡ Ok m → view s' ≡ left_by m c → Driven table s₀ budget log₀ s' n log
    came_on e v = record {
      along = subst⁻¹ (Along (recipe_of table) (call table s₀ budget log₀) budget log₀ n log) v (subst (Left (recipe_of table) (call table s₀ budget log₀) budget log₀ n log c) e x.left);
    }

  pub tried_within : {s : State} {k : ℕ} {n : Count} {log : List ℕ} {o : Option Stop} → Tried table s₀ budget log₀ s k n log o → o ≡ None → n.steps ≤ budget
  tried_within {s} {k} {n} {log} x e = (subst (Tries (recipe_of table) (call table s₀ budget log₀) budget log₀ n log (turn k (idle s))) e x.tries).in_budget

  -- the turns are made, and the call ends, or the front is taken up
  module _ {s s' : State} {k : ℕ} {n : Count} {log : List ℕ} {o : Option Stop} (g : Turned s k s') (x : Tried table s₀ budget log₀ s k n log o) where
    pub tried-ends : {stop : Stop} → o ≡ Some stop → Ended (recipe_of table) (call table s₀ budget log₀) log₀ n log (view s') (ending_of stop)
    tried-ends {stop} e =
        subst⁻¹ (λ (c : R.State). Ended (recipe_of table) (call table s₀ budget log₀) log₀ n log c (ending_of stop)) (after_is g)
        (subst (Tries (recipe_of table) (call table s₀ budget log₀) budget log₀ n log (turn k (idle s))) e x.tries)

    pub tried-on : o ≡ None → k < s.queue.len → (t : Task)
        → task_of t ≡ past_at (at (recipe_of table) (entry s'.queue 0).place) (entry s'.queue 0) → task_of t ≡ go_to (entry s'.queue 0) t.place
        → (s'' : State) → view s'' ≡ take_up (view s').queue t.place (view s') → Driven table s₀ budget log₀ s'' n log
    tried-on e i t past same s'' u = record {
      along = subst⁻¹ (Along (recipe_of table) (call table s₀ budget log₀) budget log₀ n log)
          (u ∙ took-up (recipe_of table) s' t (turned-some g i) past same ∙ ap (λ (c : R.State). took_up (recipe_of table) c.queue c) (after_is g))
          (subst (Tries (recipe_of table) (call table s₀ budget log₀) budget log₀ n log (turn k (idle s))) e x.tries);
    }
