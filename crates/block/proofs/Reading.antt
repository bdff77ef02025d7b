-- The state that an accepted block says.
-- Assumes nothing.
use Prim.Native.Nat.{ℕ, zero, suc, ◌+◌, ◌-◌, ◌*◌, ◌≤◌, ◌<◌}
use mathlib.Core.Path.{◌≡◌, refl, ap, ◌∙◌}
use mathlib.Core.Bool.{cond}
use mathlib.Core.List.{List, ◌∷◌, ◌++◌}
use mathlib.Core.Logic.{⊎_elim}
use native.Mathlib.Nat.{eq-or-lt_of_le}
use native.Mathlib.Omega.{arith}
use lib.Dec.{eqb, eqb-suc-zero}
use lib.IntN.{ℤ}
use lib.ListN.{length, get_or, set, get_or-append}
use lib.Seq.{get_or-set_same, get_or-set_other}
use Rattle.std.specs.Prelude.{Option, None, Some}
use Rattle.rules.specs.State as R
use Rattle.rules.specs.State.{Store, tab, issued_in, live_in, active_in, task_in, variables_in, state_of, read_block}
use Rattle.rules.proofs.Lists.{tab-same, tab-first}
use Rattle.rules.proofs.Blocks.Accepted.{HeadFit}
use Rattle.state.specs.declared.Task.{Task}
use Rattle.state.specs.View.{task_of, no_task, ring, active_of}
use Rattle.state.proofs.Ring.{tasks_from}
use Rattle.block.specs.Block.{task_from}

-- at most one task is active, and none without live tasks
pub active-below : (live active : ℕ) → active ≤ cond (eqb live 0) 0 1 → (active ≤ 1) × (active ≤ live)
active-below zero active h = (omega arith, omega arith)
active-below (suc live) active h = let g : active ≤ 1 = rw (eqb-suc-zero live) at h in (g, omega arith)

-- how many tasks are live, and active
pub counts : {live taken : ℕ} (b : List ℕ) → HeadFit b → live ≡ get_or b 2 0 → taken ≡ get_or b 3 0
    → (taken ≤ 1) × (taken ≤ live) × (live ≤ 32)
counts b head l a =
    let h = active-below (get_or b 2 0) (get_or b 3 0) head.active in
    (omega (arith, h.0), omega (arith, h.1), omega (arith, head.few))

-- the task whose first record is record i
pub from_is : (b : List ℕ) (a i : ℕ) → a ≡ 8 * i → task_from b a ≡ task_in b i
from_is b a i e =
    let spawner : 8 * i + 8 ≡ 8 * (i + 1) = omega arith in
    let taken_up : 8 * i + 12 ≡ 8 * (i + 1) + 4 = omega arith in
    rw (e, spawner, taken_up)

-- tasks that have been read, and one more; with others behind them
module _ (f : ℕ → R.Task ℕ) (ts : List Task) where
  pub one_more : (i : ℕ) (t : Task) → i < length ts → ((k : ℕ) → k < i → task_of (get_or ts k no_task) ≡ f k) → task_of t ≡ f i
      → (k : ℕ) → k < i + 1 → task_of (get_or (set ts i t) k no_task) ≡ f k
  one_more i t l h e k m =
      ⊎_elim
      (λ g. rw g (rw (get_or-set_same ts i t no_task l) e))
      (λ g. rw (get_or-set_other ts i k t no_task (omega arith)) (h k g))
      (eq-or-lt_of_le {n = k} {m = i} (omega arith))

  pub in_front : (us : List Task) (n : ℕ) → n ≤ length ts → ((k : ℕ) → k < n → task_of (get_or ts k no_task) ≡ f k)
      → (k : ℕ) → k < n → task_of (get_or (ts ++ us) k no_task) ≡ f k
  in_front us n l h k m = rw (get_or-append ts us no_task k (omega arith)) (h k m)

-- the active task stands first in the array
pub record Taken (taken : ℕ) (active : Option Task) (ts : List Task) : Type 0 where
  pub none : taken ≡ 0 → active ≡ None
  pub first : taken ≡ 1 → active ≡ Some (get_or ts 0 no_task)

first-rest : {A : Type 0} (f : ℕ → A) (n : ℕ) → 1 ≤ n → tab n f ≡ f 0 ∷ tab (n - 1) (λ i. f (suc i))
first-rest f zero h = absurd (omega arith)
first-rest f (suc n) h = let e : suc n - 1 ≡ n = omega arith in rw e (tab-first f n)

module _ (b : List ℕ) (s : Store) (ts : List Task) (live : ℕ) (l : live ≤ 32)
    (each : (i : ℕ) → i < live → task_of (get_or ts i no_task) ≡ task_in b (2 * i + 1)) where
  -- the tasks from record k + 1 on: the ring does not go round
  queued : (k n : ℕ) (j : ℕ → ℕ) → ((i : ℕ) → 2 * (k + i) + 1 ≡ j i) → k + n ≡ live → tasks_from ts k n ≡ tab n (λ i. task_in b (j i))
  queued k n j m e =
      tab-same _ _ n
      (λ i h. let r : ring k i ≡ k + i = omega arith in rw r (each (k + i) (omega arith) ∙ ap (task_in b) (m i)))

  said : (taken : ℕ) (active : Option Task) → taken ≤ 1 → taken ≤ live → Taken taken active ts
      → record { store = s; active = active_of active; queue = tasks_from ts taken (live - taken) }
      ≡ state_of s taken (tab live (λ i. task_in b (2 * i + 1)))
  said zero active h g t =
      let n : live - 0 ≡ live = omega arith in
      rw (t.none refl, n, queued 0 live (λ i. 2 * i + 1) (λ i. omega arith) (omega arith))
  said (suc zero) active h g t =
      let rest = tab (live - 1) (λ i. task_in b (2 * suc i + 1)) in
      rw (t.first refl, queued 1 (live - 1) (λ i. 2 * suc i + 1) (λ i. omega arith) (omega arith), first-rest (λ i. task_in b (2 * i + 1)) live g)
      (ap (λ (t : R.Task ℕ). state_of s 1 (t ∷ rest)) (each 0 g))
  said (suc (suc taken)) active h g t = absurd (omega arith)

pub reads : (b : List ℕ) → HeadFit b → (issued live taken : ℕ) (vs : List ℤ) (active : Option Task) (ts : List Task)
    → issued ≡ issued_in b → live ≡ live_in b → taken ≡ active_in b → vs ≡ variables_in b → Taken taken active ts
    → ((i : ℕ) → i < live → task_of (get_or ts i no_task) ≡ task_in b (2 * i + 1))
    → record {
      store = record { issued = issued; variables = vs };
      active = active_of active;
      queue = tasks_from ts taken (live - taken);
    }
    ≡ read_block b
unfolding read_block
reads b head issued live taken vs active ts i l a v t each =
    let h = counts b head l a in
    said b (record { issued = issued; variables = vs }) ts live h.2 each taken active h.0 h.1 t
    ∙ rw (i, l, a, v)
