-- A state that fits: its block is accepted and says that state.
-- Assumes nothing.
use Prim.Native.Nat.{ℕ, ◌+◌, ◌-◌, ◌*◌, ◌/◌, ◌%◌, ◌≤◌, ◌<◌}
use mathlib.Core.Path.{◌≡◌, refl, sym, ap, ◌∙◌}
use mathlib.Core.Bool.{true, cond}
use mathlib.Core.Option.{Option, none, some}
use mathlib.Core.List.{List, ◌++◌}
use mathlib.Core.Logic.{dite}
use native.Mathlib.Decide.{ℕ_discrete}
use native.Mathlib.Omega.{arith}
use lib.Dec.{eqb, eqb-suc-zero}
use lib.IntN.{pos}
use lib.ListN.{length, get_or, take, drop, length-append, length-drop, get_or-eq_default}
use lib.Seq.{take-append-le, drop-append-le, drop-append-add}
use borrow.Author.Tests.{eq-eqb}
use Rattle.rules.specs.Fields.{half, word, signed, bits, bytes4}
use Rattle.rules.specs.Values.{in_range}
use Rattle.rules.specs.Recipe.{Recipe}
use Rattle.rules.specs.Places.{is_place}
use Rattle.rules.specs.State.{Task, Store, live_tasks, live, State, tab, joined, issued_in, live_in, active_in, number_in, place_in, spawner_in, task_in, variables_in, state_of, read_block, is_active, head_row, task_row, no_task, write_block}
use Rattle.rules.proofs.Answers.{block_length}
use Rattle.rules.proofs.Fit.{TaskFit, Fit}
use Rattle.rules.proofs.Lists.{every-get_or, every_map, tab-is, joined_length, joined-part}
use Rattle.rules.proofs.Numbers.{signed-bits, half-bytes2, word-bytes4, half-within, word-within}
use Rattle.rules.proofs.Blocks.Accepted.{HeadFit, UsedFit, HistoryFit, UnusedFit, Accepted}
use Rattle.rules.proofs.Blocks.Counts.{none_before, unlike-many, no_more}

-- ---- the parts of a block

length-row : (t : Task ℕ) → length (task_row t) ≡ 16
unfolding task_row
length-row t = refl

row_zeros : (t : Task ℕ) → half (task_row t) 10 ≡ 0
unfolding task_row
row_zeros t = refl

module _ (c : State) where
  abbrev rows : List ℕ
  rows = joined 32 (λ i. task_row (get_or (live c) i no_task))

  abbrev values : List ℕ
  values = joined 64 (λ j. bytes4 (bits (get_or c.store.variables j (pos 0))))

  length_head : length (head_row c) ≡ 8
  unfolding head_row
  length_head = refl

  length-rows : length rows ≡ 512
  length-rows = joined_length 16 32 _ (λ i. length-row (get_or (live c) i no_task))

  row-part : (k : ℕ) → k < 32 → take 16 (drop (8 * (2 * k + 1)) (write_block c)) ≡ task_row (get_or (live c) k no_task)
  unfolding write_block
  row-part k h =
      let s = length-append (head_row c) rows in
      let p = length_head in
      let q = length-rows in
      let e : 8 * (2 * k + 1) ≡ length (head_row c) + 16 * k = omega arith in
      rw (
        e,
        drop-append-le (length (head_row c) + 16 * k) (head_row c ++ rows) values (omega arith),
        take-append-le 16 (drop (length (head_row c) + 16 * k) (head_row c ++ rows)) values (rw length-drop (omega arith)),
        drop-append-add (head_row c) rows (16 * k),
      )
      (joined-part 16 _ (λ i. length-row (get_or (live c) i no_task)) 32 k (16 * k) h (omega arith))

  value-part : (j : ℕ) → j < 64 → take 4 (drop (520 + 4 * j) (write_block c)) ≡ bytes4 (bits (get_or c.store.variables j (pos 0)))
  unfolding write_block
  value-part j h =
      let s = length-append (head_row c) rows in
      let p = length_head in
      let q = length-rows in
      let e : 520 + 4 * j ≡ length (head_row c ++ rows) + 4 * j = omega arith in
      rw (e, drop-append-add (head_row c ++ rows) values (4 * j))
      (joined-part 4 _ (λ i. refl) 64 j (4 * j) h (omega arith))

  -- ---- what it says

  issued-again : issued_in (write_block c) ≡ c.store.issued
  unfolding write_block head_row
  issued-again = half-bytes2 c.store.issued

  live-again : live_in (write_block c) ≡ length (live c)
  unfolding write_block head_row
  live-again = refl

  active-again : active_in (write_block c) ≡ is_active c.active
  unfolding write_block head_row
  active-again = refl

  zeros_again : word (write_block c) 4 ≡ 0
  unfolding write_block head_row
  zeros_again = refl

  -- a word of the records behind those of the live tasks: at k of the two of the task behind n others
  unused-word : (n k j : ℕ) → length (live c) ≤ n → n < 32 → j ≡ 8 * (2 * n + 1) + k → k + 4 ≤ 16 → word (write_block c) j ≡ word (task_row no_task) k
  unused-word n k j g h e l =
      sym (word-within (write_block c) (8 * (2 * n + 1)) 16 k j e l)
      ∙ ap (λ (b : List ℕ). word b k) (row-part n h ∙ ap task_row (get_or-eq_default (live c) no_task g))

  unused-again : (i : ℕ) → 2 * length (live c) ≤ i → i < 64 → UnusedFit (write_block c) (i + 1)
  unfolding task_row
  unused-again i g h =
      dite (ℕ_discrete (i % 2) 0)
      (λ e. record {
        front = unused-word (i / 2) 0 (8 * (i + 1)) (omega arith) (omega arith) (omega arith) (omega arith);
        back = unused-word (i / 2) 4 (8 * (i + 1) + 4) (omega arith) (omega arith) (omega arith) (omega arith);
      })
      (λ e. record {
        front = unused-word (i / 2) 8 (8 * (i + 1)) (omega arith) (omega arith) (omega arith) (omega arith);
        back = unused-word (i / 2) 12 (8 * (i + 1) + 4) (omega arith) (omega arith) (omega arith) (omega arith);
      })

  value-again : (j : ℕ) → j < 64 → in_range (get_or c.store.variables j (pos 0)) ≡ true → signed (word (write_block c) (520 + 4 * j)) ≡ get_or c.store.variables j (pos 0)
  value-again j h g =
      let z = get_or c.store.variables j (pos 0) in
      let e = word-within (write_block c) (520 + 4 * j) 4 0 (520 + 4 * j) (omega arith) (omega arith) in
      ap signed (sym e ∙ ap (λ (l : List ℕ). word l 0) (value-part j h) ∙ word-bytes4 (bits z)) ∙ signed-bits z g

-- a task is read from its own bytes alone
part-task : (b : List ℕ) (i : ℕ) → task_in (take 16 (drop (8 * i) b)) 0 ≡ task_in b i
part-task b i =
    rw (
      half-within b (8 * i) 16 0 (8 * i) (omega arith) (omega arith),
      half-within b (8 * i) 16 2 (8 * i + 2) refl (omega arith),
      word-within b (8 * i) 16 4 (8 * i + 4) refl (omega arith),
      half-within b (8 * i) 16 8 (8 * (i + 1)) (omega arith) (omega arith),
      word-within b (8 * i) 16 12 (8 * (i + 1) + 4) (omega arith) (omega arith),
    )

row-task : (t : Task ℕ) → in_range t.parameter ≡ true → task_in (task_row t) 0 ≡ t
unfolding task_row
row-task t h =
    rw (
      half-bytes2 t.number,
      half-bytes2 t.place,
      word-bytes4 (bits t.parameter),
      signed-bits t.parameter h,
      half-bytes2 t.history.spawner,
      word-bytes4 t.history.taken_up,
    )

state-again : (s : Store) (a : Option (Task ℕ)) (q : List (Task ℕ)) → state_of s (is_active a) (live_tasks a q) ≡ record { store = s; active = a; queue = q }
state-again s none q = refl
state-again s (some t) q = refl

one-active : (a : Option (Task ℕ)) (q : List (Task ℕ)) → is_active a ≤ cond (eqb (length (live_tasks a q)) 0) 0 1
one-active none q = omega arith
one-active (some t) q = rw (eqb-suc-zero (length q)) (omega arith)

-- what a task's records can hold
pub record Held (t : Task ℕ) : Type 0 where
  pub number_fits : t.number < 65536
  pub place-fits : t.place < 65536
  pub parameter-fits : in_range t.parameter ≡ true

module _ (r : Recipe) (c : State) (f : Fit r c) where
  held : (i : ℕ) → Held (get_or (live c) i no_task)
  held i =
      let issued = f.store-fits.issued-fits in
      every-get_or Held no_task (live c)
      (every_map (TaskFit r c.store) Held (λ t g. record { number_fits = omega arith; place-fits = g.place-fits; parameter-fits = g.parameter-fits }) (live c) f.tasks_fit)
      i (λ l. record { number_fits = omega arith; place-fits = omega arith; parameter-fits = refl })

  task-again : (k : ℕ) → k < 32 → task_in (write_block c) (2 * k + 1) ≡ get_or (live c) k no_task
  task-again k h =
      sym (part-task (write_block c) (2 * k + 1)) ∙ ap (λ (l : List ℕ). task_in l 0) (row-part c k h) ∙ row-task (get_or (live c) k no_task) (held k).parameter-fits

  tasks-again : tab (length (live c)) (λ k. task_in (write_block c) (2 * k + 1)) ≡ live c
  tasks-again = tab-is _ (live c) no_task (length (live c)) refl (λ k h. task-again k (omega (arith, f.few)))

  variables-again : variables_in (write_block c) ≡ c.store.variables
  variables-again =
      tab-is _ c.store.variables (pos 0) 64 f.store-fits.all_variables (λ j h. value-again c j h (f.store-fits.variables_fit j))

  pub read_again : read_block (write_block c) ≡ c
  unfolding read_block
  read_again = rw (issued-again c, active-again c, live-again c, tasks-again, variables-again) (state-again c.store c.active c.queue)

  head_again : HeadFit (write_block c)
  head_again =
      record {
        some-issued = rw (issued-again c) f.store-fits.some-issued;
        few = rw (live-again c) f.few;
        active = rw (active-again c, live-again c) (one-active c.active c.queue);
        zeros = zeros_again c;
      }

  live_fit : (k : ℕ) → k < length (live c) → TaskFit r c.store (get_or (live c) k no_task)
  live_fit k h = every-get_or (TaskFit r c.store) no_task (live c) f.tasks_fit k (λ l. absurd (omega arith))

  used_again : (k : ℕ) → k < length (live c) → UsedFit (is_place r) (write_block c) (2 * k + 1)
  used_again k h =
      let t = get_or (live c) k no_task in
      let e = task-again k (omega (arith, f.few)) in
      let g = live_fit k h in
      let n : number_in (write_block c) (2 * k + 1) ≡ t.number = ap (λ (u : Task ℕ). u.number) e in
      let p : place_in (write_block c) (2 * k + 1) ≡ t.place = ap (λ (u : Task ℕ). u.place) e in
      let i : (2 * k + 1) / 2 ≡ k = omega arith in
      let new = none_before r (λ i. task_in (write_block c) (2 * i + 1)) (length (live c)) (λ m. rw tasks-again (f.valid.differ m)) k h in
      record {
        from_one = rw n g.from_one;
        was_issued = rw (n, issued-again c) g.was_issued;
        new = rw (i, unlike-many r (write_block c) (number_in (write_block c) (2 * k + 1)) k) (eq-eqb _ 0 new);
        placed = rw p g.placed;
      }

  history_again : (k : ℕ) → k < length (live c) → HistoryFit (write_block c) (2 * k + 1 + 1)
  history_again k h =
      let t = get_or (live c) k no_task in
      let few : k < 32 = omega (arith, f.few) in
      let e = task-again k few in
      let n : number_in (write_block c) (2 * k + 1) ≡ t.number = ap (λ (u : Task ℕ). u.number) e in
      let s : spawner_in (write_block c) (2 * k + 1 + 1) ≡ t.history.spawner = ap (λ (u : Task ℕ). u.history.spawner) e in
      let i : 2 * k + 1 + 1 - 1 ≡ 2 * k + 1 = omega arith in
      record {
        spawner-fits = rw (i, n, s) (live_fit k h).spawner-fits;
        zeros =
            sym (half-within (write_block c) (8 * (2 * k + 1)) 16 10 (8 * (2 * k + 1 + 1) + 2) (omega arith) (omega arith))
            ∙ ap (λ (b : List ℕ). half b 10) (row-part c k few) ∙ row_zeros t;
      }

  pub accepted-again : Accepted (is_place r) (write_block c)
  accepted-again =
      record {
        whole = block_length c;
        head = head_again;
        used = λ k h. used_again k (rw (live-again c) at h);
        histories = λ k h. history_again k (rw (live-again c) at h);
        unused = λ i g h. unused-again c i (rw (live-again c) at g) h;
        enough = rw (live-again c, issued-again c)
            (no_more r c.store.issued (live c) f.valid.differ (every_map (TaskFit r c.store) _ (λ t g. (g.from_one, g.was_issued)) (live c) f.tasks_fit));
      }
