-- A queue in a ring of 32: what is stored at its back, its front and the rest, and one turn.
-- Assumes nothing.
use Prim.Native.Nat.{ℕ, zero, suc, ◌+◌, ◌-◌, ◌%◌, ◌≤◌, ◌<◌}
use mathlib.Core.Path.{◌≡◌, refl, ap, ◌∙◌}
use mathlib.Core.List.{List, [], ◌∷◌, ◌++◌}
use native.Mathlib.Omega.{arith}
use native.Mathlib.Nat.{add-zero}
use native.Mathlib.Numerals.{add-one}
use lib.ListN.{length, get_or, set, drop}
use lib.Seq.{get_or-set_same, get_or-set_other}
use Rattle.rules.specs.State as R
use Rattle.rules.specs.State.{tab}
use Rattle.rules.proofs.Lists.{tab-same, tab-first}
use Rattle.state.specs.declared.Task.{Task}
use Rattle.state.specs.declared.Queue.{Queue}
use Rattle.state.specs.View.{task_of, ring, no_task, entry, queue_of, turned}

-- the n tasks of an array from the front on
abbrev pub tasks_from : List Task → (front n : ℕ) → List (R.Task ℕ)
tasks_from ts front n = tab n (λ i. task_of (get_or ts (ring front i) no_task))

pub queue-is : (q : Queue) → queue_of q ≡ tasks_from q.tasks q.front q.len
unfolding queue_of
queue-is q = refl

same-place : (ts : List Task) (i j : ℕ) → i ≡ j → task_of (get_or ts i no_task) ≡ task_of (get_or ts j no_task)
same-place ts i j e = ap (λ (k : ℕ). task_of (get_or ts k no_task)) e

-- the front may be given by any number: its remainder by 32 counts
pub front-any : (ts : List Task) (f n : ℕ) → tasks_from ts (f % 32) n ≡ tasks_from ts f n
front-any ts f n = tab-same _ _ n (λ i h. same-place ts (ring (f % 32) i) (ring f i) (omega arith))

-- stored at the back
pub joins : (ts : List Task) (f n : ℕ) (t : Task) → length ts ≡ 32 → n < 32
    → tasks_from (set ts (ring f n) t) f (n + 1) ≡ tasks_from ts f n ++ task_of t ∷ []
unfolding tab
joins ts f n t l h =
    rw (
      add-one n,
      tab-same (λ i. task_of (get_or (set ts (ring f n) t) (ring f i) no_task)) (λ i. task_of (get_or ts (ring f i) no_task)) n
          (λ i g. ap task_of (get_or-set_other ts (ring f n) (ring f i) t no_task (omega arith))),
      get_or-set_same ts (ring f n) t no_task (omega arith),
    )

-- the front, and the rest
pub parts : (ts : List Task) (f n : ℕ) → tasks_from ts f (suc n) ≡ task_of (get_or ts (f % 32) no_task) ∷ tasks_from ts (suc f) n
parts ts f n =
    tab-first (λ i. task_of (get_or ts (ring f i) no_task)) n
    ∙ rw (
      add-zero f,
      tab-same (λ i. task_of (get_or ts (ring f (suc i)) no_task)) (λ i. task_of (get_or ts (ring (suc f) i) no_task)) n
          (λ i h. same-place ts (ring f (suc i)) (ring (suc f) i) (omega arith)),
    )

pub rest : (ts : List Task) (f n : ℕ) → 0 < n → tasks_from ts ((f + 1) % 32) (n - 1) ≡ drop 1 (tasks_from ts f n)
rest ts f zero g = absurd (omega arith)
rest ts f (suc n) g =
    let e : suc n - 1 ≡ n = omega arith in
    rw (e, front-any ts (f + 1) n, add-one f, parts ts f n)

first-rest : (ts : List Task) (f n : ℕ) → 0 < n
    → tasks_from ts f n ≡ task_of (get_or ts (ring f 0) no_task) ∷ drop 1 (tasks_from ts f n)
first-rest ts f zero g = absurd (omega arith)
first-rest ts f (suc n) g = rw (parts ts f n, add-zero f)

pub front_rest : (q : Queue) → 0 < q.len → queue_of q ≡ entry q 0 ∷ drop 1 (queue_of q)
unfolding queue_of
front_rest q g = first-rest q.tasks q.front q.len g

-- the front turned to the back
pub one-turn : (ts : List Task) (f n : ℕ) → length ts ≡ 32 → n ≤ 32
    → tasks_from (set ts (ring f n) (get_or ts (f % 32) no_task)) (suc f) n ≡ turned 1 (tasks_from ts f n)
one-turn ts f zero l h = unfold tab in refl
one-turn ts f (suc n) l h =
    let e : ring f (suc n) ≡ ring (suc f) n = omega arith in
    rw (e, parts ts f n, ← add-one n) (joins ts (suc f) n (get_or ts (f % 32) no_task) l (omega arith))

-- one turn more
pub turned_more : {T : Type 0} (n : ℕ) (q : List T) → turned (suc n) q ≡ turned 1 (turned n q)
turned_more zero q = refl
turned_more (suc n) [] = refl
turned_more (suc n) (t ∷ q) = turned_more n (q ++ t ∷ [])
