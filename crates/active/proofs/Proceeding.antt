-- The active task on its way: from one of its steps to the next, and where it stops.
-- Assumes nothing.
use Prim.Native.Nat.{ℕ, ◌+◌, ◌-◌, ◌/◌, ◌≤◌, ◌<◌}
use mathlib.Core.Path.{◌≡◌, refl, sym, ap, ◌∙◌, subst, subst⁻¹}
use mathlib.Core.Bool.{false}
use mathlib.Core.Option.{Option, none}
use mathlib.Core.List.{List}
use native.Mathlib.Omega.{arith}
use lib.IntN.{ℤ}
use lib.ListN.{length}
use Rattle.std.specs.Prelude as P
use Rattle.std.specs.Prelude.{Result, Ok, Err}
use Rattle.rules.specs.Recipe.{Recipe, Within}
use Rattle.rules.specs.State.{Task, Store, State}
use Rattle.rules.specs.Log.{Event}
use Rattle.rules.specs.Scheduler.{Act, halts, does, goes, next_act, next, test, Run}
use Rattle.rules.specs.Steps.{recipes}
use Rattle.moves.specs.declared.Move.{Move}
use Rattle.ready.specs.Ready.{Placed}
use Rattle.moves.specs.Moves.{act_of, act_in, store_with, MovesIn}
use Rattle.count.specs.declared.Count.{Count}
use Rattle.count.specs.declared.Stop.{Stop}
use Rattle.count.specs.declared.Stop.TheVariants.{Paused}
use Rattle.count.specs.Along.{ending_of, Along, Ended, Decides, Told, Reached}
use Rattle.active.specs.Active.{leaves, busy, left_by, Local, Room}
use Rattle.active.proofs.Acting.{stays, roomy}
use Rattle.count.proofs.Along.{told, one_more, written-fits}

-- ---- where the task has come to

-- from the first task, the first variables, the first count and the first log, whatever the call and the tasks queued
pub record Running (r : Recipe) (budget queued issued : ℕ) (t₀ : Task ℕ) (v₀ : List ℤ) (n₀ : Count) (log₀ : List ℕ) (t : Task ℕ) (v : List ℤ) (n : Count) (log : List ℕ) : Type 0 where
  pub along : (u : Run (recipes r)) (given : List ℕ) (q : List (Task ℕ)) → length q ≡ queued
      → Along r u budget given n₀ log₀ (busy issued v₀ t₀ q) → Along r u budget given n log (busy issued v t q)
  pub same_length : length log ≡ length log₀
  pub grows : n₀.steps ≤ n.steps

-- what the tests before a step said
pub record DecidesAll (r : Recipe) (budget queued issued : ℕ) (m : P.Option Move) (t : Task ℕ) (v : List ℤ) (d : Result Count Stop) (n : Count) (log log' : List ℕ) : Type 0 where
  pub all : (q : List (Task ℕ)) → length q ≡ queued
      → Decides r (test (recipes r) (budget - n.steps) ((length log - n.written) / 8) (next_act (recipes r) q (act_in m (store_with issued v) q t))) d n log log'

module _ {r : Recipe} {budget queued issued : ℕ} {t₀ t : Task ℕ} {v₀ v : List ℤ} {n₀ n : Count} {log₀ log : List ℕ}
    (i : Running r budget queued issued t₀ v₀ n₀ log₀ t v n log) where
  -- some call came here, so what holds of every such call holds
  module _ (q : List (Task ℕ)) (l : length q ≡ queued) (h : Reached r budget n₀ log₀ (busy issued v₀ t₀ q)) where
    here : Along r h.call budget h.given n log (busy issued v t q)
    here = i.along h.call h.given q l h.along

    pub in_budget : n.steps ≤ budget
    in_budget = here.in_budget

    pub in_log : n.written ≤ length log
    in_log = written-fits here

    pub placed : Placed r t
    placed = here.fits.tasks_fit.0.placed

  -- where the budget is used up, the call pauses, whatever would come next
  pub paused_all : n.steps ≡ budget → Within r
      → (u : Run (recipes r)) (given : List ℕ) (q : List (Task ℕ)) → length q ≡ queued → Along r u budget given n₀ log₀ (busy issued v₀ t₀ q)
      → Ended r u given n log (busy issued v t q) (ending_of Paused)
  paused_all e w u given q l a =
      let none_left : budget - n.steps ≡ 0 = omega arith in
      told w (i.along u given q l a) (Err Paused) log (rw none_left (go _))
    where
      go : (x : Act Store (Task ℕ) Event) → Decides r (test (recipes r) 0 ((length log - n.written) / 8) (next_act (recipes r) q x)) (Err Paused) n log log
      go (halts k) = (refl, refl)
      go (does s new y x) = (refl, refl)

  -- the tests say what comes next
  module _ {next_move : P.Option Move} (moves : MovesIn r v t next_move) where
    acts : (q : List (Task ℕ)) → next (recipes r) (busy issued v t q) ≡ next_act (recipes r) q (act_in next_move (store_with issued v) q t)
    acts q = ap (next_act (recipes r) q) (moves.acts issued q)

    -- where the call stops
    pub ends_all : {stop : Stop} {log' : List ℕ} → DecidesAll r budget queued issued next_move t v (Err stop) n log log' → Within r
        → (u : Run (recipes r)) (given : List ℕ) (q : List (Task ℕ)) → length q ≡ queued → Along r u budget given n₀ log₀ (busy issued v₀ t₀ q)
        → Ended r u given n log' (busy issued v t q) (ending_of stop)
    ends_all {stop} {log'} d w u given q l a = told w (i.along u given q l a) (Err stop) log' (rw (acts q) (d.all q l))

    -- where it goes on
    module _ {n' : Count} {log' : List ℕ} (d : DecidesAll r budget queued issued next_move t v (Ok n') n log log') where
      -- one step is counted
      pub counted : (q : List (Task ℕ)) → length q ≡ queued → n'.steps ≡ n.steps + 1
      counted q l = one_more r (test (recipes r) (budget - n.steps) ((length log - n.written) / 8) (next_act (recipes r) q (act_in next_move (store_with issued v) q t))) n n' log log' (d.all q l)

      pub further : (q : List (Task ℕ)) → length q ≡ queued → n₀.steps < n'.steps
      further q l = let g = i.grows in omega (arith, counted q l)

      module _ (w : Within r) where
        made : (u : Run (recipes r)) (given : List ℕ) (q : List (Task ℕ)) → length q ≡ queued → Along r u budget given n₀ log₀ (busy issued v₀ t₀ q)
            → Told r u budget given n' log' (busy issued v t q) none
        made u given q l a = told w (i.along u given q l a) (Ok n') log' (rw (acts q) (d.all q l))

        -- by this move
        module _ {m : Move} (is : next_move ≡ P.Some m) where
          moved : (q : List (Task ℕ)) (x : Option Event) (c : State) → next (recipes r) (busy issued v t q) ≡ goes x c
              → next_act (recipes r) q (act_of m (store_with issued v) q t) ≡ goes x c
          moved q x c g = rw is at (sym (acts q) ∙ g)

          -- no limit barred the step
          pub has_room : (q : List (Task ℕ)) → length q ≡ queued → Reached r budget n₀ log₀ (busy issued v₀ t₀ q) → Room m queued issued
          has_room q l a =
              let (x, c, g, a') = made a.call a.given q l a.along in
              subst (λ (k : ℕ). Room m k issued) l (roomy r q x c issued v t m (moved q x c g))

          -- with what the move makes of the task and the variables
          module _ (t' : Task ℕ) (v' : List ℤ) (f : Local m issued t t' v v') where
            pub leaves_all : (u : Run (recipes r)) (given : List ℕ) (q : List (Task ℕ)) → length q ≡ queued → Along r u budget given n₀ log₀ (busy issued v₀ t₀ q)
                → Along r u budget given n' log' (left_by m (busy issued v' t' q))
            leaves_all u given q l a =
                let (x, c, g, a') = made u given q l a in
                subst⁻¹ (Along r u budget given n' log') (f r q x c (moved q x c g)) a'

            -- after a step that does not leave
            pub again : (q : List (Task ℕ)) → length q ≡ queued → leaves m ≡ false → length log' ≡ length log
                → Running r budget queued issued t₀ v₀ n₀ log₀ t' v' n' log'
            again q₀ l₀ away e =
                record {
                  along = λ u given q l a. subst (Along r u budget given n' log') (stays m (busy issued v' t' q) away) (leaves_all u given q l a);
                  same_length = e ∙ i.same_length;
                  grows = let g = i.grows in omega (arith, counted q₀ l₀);
                }
