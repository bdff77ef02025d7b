-- An accepted block: what it says fits, and is written as the same block.
-- Assumes nothing.
use Prim.Native.Nat.{ℕ, zero, suc, ◌+◌, ◌-◌, ◌*◌, ◌/◌, ◌≤◌, ◌<◌}
use mathlib.Core.Path.{◌≡◌, refl, sym, ap, ap₂, ◌∙◌}
use mathlib.Core.Bool.{Bool, true, cond}
use mathlib.Core.List.{List, [], ◌∷◌, ◌++◌}
use mathlib.Core.Logic.{dite}
use native.Mathlib.Decide.{dec_lt, ℕ_discrete}
use native.Mathlib.Omega.{arith}
use lib.Dec.{eqb, eqb-suc-zero}
use lib.IntN.{pos}
use lib.ListN.{length, get_or, take, drop, get_or-eq_default}
use lib.Seq.{take_all}
use borrow.Author.Tests.{eq-eqb, ne_eqb, eqb-true}
use Rattle.rules.specs.Fields.{half, word, signed, bits, bytes2, bytes4}
use Rattle.rules.specs.Values.{in_range}
use Rattle.rules.specs.Recipe.{Recipe}
use Rattle.rules.specs.Places.{is_place}
use Rattle.rules.specs.State.{Task, Store, tab, joined, issued_in, live_in, active_in, number_in, history_in, task_in, tasks_in, variables_in, state_of, read_block, head_row, first_row, history_row, task_row, no_task, write_block}
use Rattle.rules.specs.Fairness.{Every}
use Rattle.rules.specs.Demand.{Bytes}
use Rattle.rules.proofs.Fit.{StoreFit, TaskFit, Fit}
use Rattle.rules.proofs.Lists.{every-get_or, every-tab, every_map, length-tab, get_or-tab, parts_joined, take_cells, take_parts}
use Rattle.rules.proofs.Numbers.{bits-signed, signed_range, half-below, word_below, bytes2-half, bytes4-word}
use Rattle.rules.proofs.Blocks.Accepted.{UnusedFit, Accepted}
use Rattle.rules.proofs.Blocks.Counts.{many, many_more, unlike-many, none_many}

-- ---- what an accepted block says fits

fit_state : (r : Recipe) (s : Store) (a : ℕ) (ts : List (Task ℕ)) → StoreFit s → length ts ≤ 32 → Every (TaskFit r s) ts → ((n : ℕ) → many r n ts ≤ 1)
    → ((n : ℕ) → s.issued < n → many r n ts ≡ 0) → Fit r (state_of s a ts)
fit_state r s zero ts f l g d b = record { store-fits = f; few = l; tasks_fit = g; valid = record { differ = d; below = b } }
fit_state r s (suc a) [] f l g d b = record { store-fits = f; few = l; tasks_fit = g; valid = record { differ = d; below = b } }
fit_state r s (suc a) (t ∷ ts) f l g d b = record { store-fits = f; few = l; tasks_fit = g; valid = record { differ = d; below = b } }

tasks-length : (b : List ℕ) → length (tasks_in b) ≡ live_in b
tasks-length b = length-tab (λ k. task_in b (2 * k + 1)) (live_in b)

abbrev store_in : List ℕ → Store
store_in b = record { issued = issued_in b; variables = variables_in b }

module _ (r : Recipe) (b : List ℕ) (bytes : Bytes b) (f : Accepted (is_place r) b) where
  -- each task's number is none of those before it
  new-number : (k : ℕ) → k < live_in b → many r (number_in b (2 * k + 1)) (tab k (λ i. task_in b (2 * i + 1))) ≡ 0
  new-number k h =
      let e : (2 * k + 1) / 2 ≡ k = omega arith in
      eqb-true _ 0 (sym (unlike-many r b (number_in b (2 * k + 1)) k) ∙ rw e at (f.used k h).new)

  differing : (n k : ℕ) → k ≤ live_in b → many r n (tab k (λ i. task_in b (2 * i + 1))) ≤ 1
  differing n zero h = unfold tab in omega arith
  differing n (suc k) h =
      rw (many_more r n k (λ i. task_in b (2 * i + 1)))
      (dite (ℕ_discrete n (number_in b (2 * k + 1)))
      (λ e. rw (e, new-number k h, eq-eqb (number_in b (2 * k + 1)) _ refl) (omega arith))
      (λ g. rw (ne_eqb n (number_in b (2 * k + 1)) g) (omega (arith, differing n k (omega arith)))))

  store-read : StoreFit (store_in b)
  store-read = record {
    some-issued = f.head.some-issued;
    issued-fits = half-below b bytes 0;
    all_variables = length-tab _ 64;
    variables_fit = λ j. every-get_or (λ z. in_range z ≡ true) (pos 0) (variables_in b) (every-tab _ 64 _ (λ i l. signed_range _ (word_below b bytes (520 + 4 * i)))) j (λ l. refl);
  }

  tasks-read : Every (TaskFit r (store_in b)) (tasks_in b)
  tasks-read = every-tab _ (live_in b) _ (λ k l.
      let e : 2 * k + 1 + 1 - 1 ≡ 2 * k + 1 = omega arith in
      record {
        from_one = (f.used k l).from_one;
        was_issued = (f.used k l).was_issued;
        placed = (f.used k l).placed;
        place-fits = half-below b bytes (8 * (2 * k + 1) + 2);
        parameter-fits = signed_range _ (word_below b bytes (8 * (2 * k + 1) + 4));
        spawner-fits = rw e at (f.histories k l).spawner-fits;
        times-fit = word_below b bytes (8 * (2 * k + 1 + 1) + 4);
      })

  pub read_fits : Fit r (read_block b)
  unfolding read_block
  read_fits =
      fit_state r (store_in b) (active_in b) (tasks_in b)
      store-read (rw (tasks-length b) f.head.few) tasks-read (λ n. differing n (live_in b) (omega arith))
      (λ n h. none_many r n (tasks_in b) (every_map _ _ (λ t g e. omega arith) (tasks_in b) tasks-read))

-- ---- and is written as the same block

-- a block is written from the store, whether a task is active, and the live tasks
head_of : (issued live active : ℕ) → List ℕ
head_of n l a = bytes2 n ++ l ∷ a ∷ 0 ∷ 0 ∷ 0 ∷ 0 ∷ []

block_of : Store → (active : ℕ) → List (Task ℕ) → List ℕ
block_of s a ts =
    head_of s.issued (length ts) a
    ++ joined 32 (λ i. task_row (get_or ts i no_task))
    ++ joined 64 (λ j. bytes4 (bits (get_or s.variables j (pos 0))))

write-state : (s : Store) (a : ℕ) (ts : List (Task ℕ)) → a ≤ cond (eqb (length ts) 0) 0 1 → write_block (state_of s a ts) ≡ block_of s a ts
unfolding write_block head_row head_of block_of
write-state s zero ts h = refl
write-state s (suc a) [] h = absurd (omega arith)
write-state s (suc a) (t ∷ ts) h =
    let g : suc a ≤ 1 = rw (eqb-suc-zero (length ts)) at h in
    let e : suc a ≡ 1 = omega arith in
    rw e

module _ (b : List ℕ) (bytes : Bytes b) where
  value-part : (a : ℕ) → a + 4 ≤ length b → bytes4 (bits (signed (word b a))) ≡ take 4 (drop a b)
  value-part a h = rw (bits-signed (word b a) (word_below b bytes a)) (bytes4-word b bytes a h)

  zero-part : (a : ℕ) → a + 4 ≤ length b → word b a ≡ 0 → bytes4 0 ≡ take 4 (drop a b)
  zero-part a h e = ap bytes4 (sym e) ∙ bytes4-word b bytes a h

  -- eight bytes by their two halves and their word
  record-part : (i : ℕ) → 8 * i + 8 ≤ length b → bytes2 (half b (8 * i)) ++ bytes2 (half b (8 * i + 2)) ++ bytes4 (word b (8 * i + 4)) ≡ take 8 (drop (8 * i) b)
  record-part i h =
      ap₂ ◌++◌ (ap₂ ◌++◌ (bytes2-half b bytes (8 * i) (omega arith)) (bytes2-half b bytes (8 * i + 2) (omega arith)) ∙ take_parts 2 2 (8 * i) b)
      (bytes4-word b bytes (8 * i + 4) (omega arith))
      ∙ take_parts 4 4 (8 * i) b

  first-part : (i : ℕ) → 8 * i + 8 ≤ length b → first_row (task_in b i) ≡ take 8 (drop (8 * i) b)
  first-part i h = rw (bits-signed (word b (8 * i + 4)) (word_below b bytes (8 * i + 4))) (record-part i h)

  -- (m: the record's offset)
  history-part : (i m : ℕ) → m ≡ 8 * i → m + 8 ≤ length b → half b (8 * i + 2) ≡ 0 → history_row (history_in b i) ≡ take 8 (drop m b)
  history-part i m q h e =
      ap (λ (n : ℕ). bytes2 (half b (8 * i)) ++ bytes2 n ++ bytes4 (word b (8 * i + 4))) (sym e) ∙ record-part i (omega arith) ∙ ap (λ (j : ℕ). take 8 (drop j b)) (sym q)

  unused-part : (i m : ℕ) → m ≡ 8 * i → m + 8 ≤ length b → UnusedFit b i → bytes4 0 ++ bytes4 0 ≡ take 8 (drop m b)
  unused-part i m q h f =
      ap₂ ◌++◌ (zero-part (8 * i) (omega arith) f.front) (zero-part (8 * i + 4) (omega arith) f.back) ∙ take_parts 4 4 (8 * i) b ∙ ap (λ (j : ℕ). take 8 (drop j b)) (sym q)

  head_part : 8 ≤ length b → word b 4 ≡ 0 → head_of (issued_in b) (live_in b) (active_in b) ≡ take 8 b
  unfolding head_of
  head_part h e =
      ap₂ ◌++◌ (ap₂ ◌++◌ (bytes2-half b bytes 0 (omega arith)) (sym (take_cells 2 2 b (omega arith))) ∙ take_parts 2 2 0 b) (zero-part 4 (omega arith) e)
      ∙ take_parts 4 4 0 b

  module _ (place : ℕ → Bool) (f : Accepted place b) where
    -- the two records of a task
    row-part : (k : ℕ) → k < 32 → task_row (get_or (tasks_in b) k no_task) ≡ take 16 (drop (8 + k * 16) b)
    unfolding task_row
    row-part k h =
        let i = 2 * k + 1 in
        let e : 8 + k * 16 ≡ 8 * i = omega arith in
        let whole = f.whole in
        rw e
        (dite (dec_lt k (live_in b))
        (λ l. rw (get_or-tab (λ i. task_in b (2 * i + 1)) (live_in b) k no_task l)
        (ap₂ ◌++◌ (first-part i (omega arith)) (history-part (i + 1) (8 * i + 8) (omega arith) (omega arith) (f.histories k l).zeros) ∙ take_parts 8 8 (8 * i) b))
        (λ g. rw (get_or-eq_default (tasks_in b) no_task {n = k} (omega (arith, tasks-length b)))
        (ap₂ ◌++◌
        (unused-part i (8 * i) refl (omega arith) (f.unused (2 * k) (omega arith) (omega arith)))
        (unused-part (i + 1) (8 * i + 8) (omega arith) (omega arith) (f.unused i (omega arith) (omega arith)))
        ∙ take_parts 8 8 (8 * i) b)))

    variable-part : (j : ℕ) → j < 64 → bytes4 (bits (get_or (variables_in b) j (pos 0))) ≡ take 4 (drop (520 + j * 4) b)
    variable-part j h =
        let e : 520 + j * 4 ≡ 520 + 4 * j = omega arith in
        rw (e, get_or-tab (λ k. signed (word b (520 + 4 * k))) 64 j (pos 0) h) (value-part (520 + 4 * j) (omega (arith, f.whole)))

    pub written-again : write_block (read_block b) ≡ b
    unfolding read_block block_of
    written-again =
        write-state _ (active_in b) (tasks_in b) (rw (tasks-length b) f.head.active)
        ∙ rw (
          tasks-length b,
          head_part (omega (arith, f.whole)) f.head.zeros,
          parts_joined 16 _ 8 b 32 row-part,
          parts_joined 4 _ 520 b 64 variable-part,
        )
        (take_all 776 b (omega (arith, f.whole)))
