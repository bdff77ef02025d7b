-- The block that the parts of a state are written to.
-- Assumes nothing.
use Prim.Native.Nat.{ℕ, zero, suc, ◌+◌, ◌*◌, ◌≤◌, ◌<◌}
use mathlib.Core.Path.{◌≡◌, refl, sym, ap, ◌∙◌}
use mathlib.Core.List.{List, [], ◌++◌, append_assoc, append-nil}
use native.Mathlib.Omega.{arith}
use native.Mathlib.Numerals.{one-add}
use native.Mathlib.Nat.{zero-add}
use lib.ListN.{length, get_or, take, get_or-eq_default, replicate-append-replicate}
use lib.Seq.{sets}
use mir.Val.{bool_byte}
use Rattle.std.specs.Prelude.{Option, None, Some, IsSome}
use Rattle.std.specs.Prelude.{is_some}
use Rattle.rules.specs.State as R
use Rattle.rules.specs.State.{live_tasks, joined, is_active, head_row, task_row, no_task, write_block}
use Rattle.rules.proofs.Lists.{get_or-tab, take_sets, joined_same, joined_add}
use Rattle.state.specs.declared.Task.{Task}
use Rattle.state.specs.declared.State.{State}
use Rattle.state.specs.View.{task_of, entry, queue_of, active_of, view}
use Rattle.state.proofs.Views.{queue-length}
use Rattle.block.specs.Block.{head_of, ring_rows, unused_rows, value_rows}

-- ---- the live tasks: the active one if any, then the queue

-- the number of active tasks, and their records
abbrev pub taken_of : Option Task → ℕ
taken_of None = 0
taken_of (Some t) = 1

abbrev pub active_rows : Option Task → List ℕ
active_rows None = []
active_rows (Some t) = task_row (task_of t)

module _ (a : Option Task) (q : List (R.Task ℕ)) where
  abbrev live : List (R.Task ℕ)
  live = live_tasks (active_of a) q

live-length : (a : Option Task) (q : List (R.Task ℕ)) → length (live a q) ≡ taken_of a + length q
live-length None q = sym (zero-add (length q))
live-length (Some t) q = sym (one-add (length q))

live-queued : (a : Option Task) (q : List (R.Task ℕ)) (i : ℕ) → get_or (live a q) (taken_of a + i) no_task ≡ get_or q i no_task
live-queued None q i = rw (zero-add i)
live-queued (Some t) q i = rw (one-add i)

live-active : (a : Option Task) (q : List (R.Task ℕ)) → joined (taken_of a) (λ i. task_row (get_or (live a q) i no_task)) ≡ active_rows a
unfolding joined
live-active None q = refl
live-active (Some t) q = refl

active-count : (a : Option Task) → is_active (active_of a) ≡ taken_of a
active-count None = refl
active-count (Some t) = refl

-- what is written of it
pub taken_is : (a : Option Task) → bool_byte (is_some a) ≡ taken_of a
taken_is None = refl
taken_is (Some t) = refl

pub room : (a : Option Task) (n : ℕ) → n ≤ 32 → (IsSome a → n < 32) → taken_of a + n ≤ 32
room None n l h = omega arith
room (Some t) n l h = let g = h refl in omega arith

-- ---- the block

-- what stands in front of the queue's records, up to `next`
abbrev pub Fronted : (issued n : ℕ) → Option Task → (next : ℕ) → List ℕ → Type 0
Fronted issued n a next l = take next l ≡ head_of issued (taken_of a + n) (taken_of a) ++ active_rows a

-- h has record 0 written, and l the active task too
module _ (issued n live taken next : ℕ) (h l : List ℕ) (a : Option Task) (all : live ≡ taken_of a + n) (some : taken ≡ taken_of a)
    (head : take 8 h ≡ head_of issued live taken) where
  head-is : take 8 h ≡ head_of issued (taken_of a + n) (taken_of a)
  head-is = head ∙ rw (all, some)

  pub with_none : a ≡ None → next ≡ 8 → l ≡ h → Fronted issued n a next l
  with_none e m q =
      let rows : active_rows a ≡ [] = ap active_rows e in
      rw (m, q, rows, append-nil) head-is

  pub with_active : (t : Task) → a ≡ Some t → length h ≡ 776 → next ≡ 24 → l ≡ sets h 8 (task_row (task_of t)) → Fronted issued n a next l
  unfolding task_row
  with_active t e sized m q =
      let rows : active_rows a ≡ task_row (task_of t) = ap active_rows e in
      rw (m, q, rows)
      (take_sets (task_row (task_of t)) h 8 (omega arith)
      ∙ ap (λ (b : List ℕ). b ++ task_row (task_of t)) head-is)

-- records that no task has
zero_rows : (m : ℕ) (f : ℕ → List ℕ) → ((i : ℕ) → i < m → f i ≡ task_row no_task) → joined m f ≡ unused_rows m
unfolding joined task_row
zero_rows zero f h = refl
zero_rows (suc m) f h =
    let e : 16 * suc m ≡ 16 * m + 16 = omega arith in
    rw (zero_rows m f (λ i l. h i (omega arith)), h m (omega arith), e) (replicate-append-replicate (16 * m) 16 0)

module _ (s : State) where
  abbrev k : ℕ
  k = taken_of s.active

  abbrev n : ℕ
  n = s.queue.len

  abbrev tasks : List (R.Task ℕ)
  tasks = live s.active (queue_of s.queue)

  tasks-length : length tasks ≡ k + n
  tasks-length = live-length s.active _ ∙ ap (λ (m : ℕ). k + m) (queue-length s.queue)

  queue-rows : joined n (λ i. task_row (get_or tasks (k + i) no_task)) ≡ ring_rows s.queue n
  unfolding queue_of
  queue-rows =
      joined_same _ _ n
      (λ i h. ap task_row (live-queued s.active _ i ∙ get_or-tab (entry s.queue) n i no_task h))

  rest-rows : (m : ℕ) → joined m (λ i. task_row (get_or tasks (k + n + i) no_task)) ≡ unused_rows m
  rest-rows m =
      zero_rows m (λ i. task_row (get_or tasks (k + n + i) no_task))
      (λ i h. ap task_row (get_or-eq_default tasks no_task {n = k + n + i} (omega (arith, tasks-length))))

  task-rows : (m : ℕ) → k + n + m ≡ 32
      → joined 32 (λ i. task_row (get_or tasks i no_task)) ≡ active_rows s.active ++ (ring_rows s.queue n ++ unused_rows m)
  task-rows m e =
      let f : ℕ → List ℕ = λ i. task_row (get_or tasks i no_task) in
      ap (λ (l : ℕ). joined l f) (sym e)
      ∙ rw (joined_add f (k + n) m, joined_add f k n, live-active s.active (queue_of s.queue), queue-rows, rest-rows m)
      (append_assoc (active_rows s.active) (ring_rows s.queue n) (unused_rows m))

  row-is : head_row (view s) ≡ head_of s.issued (k + n) k
  unfolding head_row head_of
  row-is = rw (tasks-length, active-count s.active)

  -- r has the queue written, p the unused records, b the variables
  pub written : (next end : ℕ) (l r p b : List ℕ) (m : ℕ) → k + n + m ≡ 32
      → Fronted s.issued n s.active next l
      → take end r ≡ take next l ++ ring_rows s.queue n
      → take 520 p ≡ take end r ++ unused_rows m
      → b ≡ take 520 p ++ value_rows s.variables
      → b ≡ write_block (view s)
  unfolding write_block
  written next end l r p b m e el er ep eb =
      rw (eb, ep, er, el, row-is, task-rows m e) (simp append_assoc)
