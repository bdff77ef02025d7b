-- Task numbers that are all different, counted: as the check of a block compares them, and against the highest issued.
-- Assumes nothing.
use Prim.Native.Nat.{ℕ, zero, suc, ◌+◌, ◌*◌, ◌≤◌, ◌<◌}
use mathlib.Core.Path.{◌≡◌, refl, sym}
use mathlib.Core.Bool.{not, ◌&&◌, and-true, and-false}
use mathlib.Core.List.{List, [], ◌∷◌}
use mathlib.Core.Logic.{⊎_elim, dite}
use native.Mathlib.Decide.{ℕ_discrete}
use native.Mathlib.Omega.{arith}
use native.Mathlib.Nat.{eq-or-lt_of_le, add-zero}
use lib.Dec.{eqb}
use lib.ListN.{length}
use borrow.Author.Tests.{eq-eqb, ne_eqb}
use Rattle.rules.specs.Recipe.{Recipe}
use Rattle.rules.specs.State.{Task, tab, number_in, task_in, unlike}
use Rattle.rules.specs.Scheduler.{is, count}
use Rattle.rules.specs.Steps.{recipes}
use Rattle.rules.specs.Fairness.{Every}
use Rattle.rules.proofs.Scheduling.Bound.{count-append}

none_more : (m a n : ℕ) → (eqb m 0 && not (eqb a n)) ≡ eqb (m + is (eqb n a)) 0
none_more m a n =
    dite (ℕ_discrete a n)
    (λ e. rw (eq-eqb a n e, eq-eqb n a (sym e), ne_eqb (m + 1) 0 (λ z. omega arith)) (and-false (eqb m 0)))
    (λ h. rw (ne_eqb a n h, ne_eqb n a (λ e. h (sym e)), add-zero m) (and-true (eqb m 0)))

module _ (r : Recipe) where
  -- how many of these tasks have the number n
  abbrev pub many : ℕ → List (Task ℕ) → ℕ
  many n ts = count (recipes r) n ts

  pub many_more : (n k : ℕ) (f : ℕ → Task ℕ) → many n (tab (suc k) f) ≡ many n (tab k f) + is (eqb n (f k).number)
  unfolding tab
  many_more n k f = omega (arith, count-append (recipes r) n (tab k f) (f k ∷ []))

  many_grows : (n i k : ℕ) (f : ℕ → Task ℕ) → i ≤ k → many n (tab i f) ≤ many n (tab k f)
  many_grows n i zero f h = let e : i ≡ 0 = omega arith in rw e (omega arith)
  many_grows n i (suc k) f h =
      ⊎_elim
      (λ e. rw e (omega arith))
      (λ l. omega (arith, many_more n k f, many_grows n i k f (omega arith)))
      (eq-or-lt_of_le {n = i} {m = suc k} h)

  -- where no number is that of two tasks, none before task i has its number
  pub none_before : (f : ℕ → Task ℕ) (k : ℕ) → ((n : ℕ) → many n (tab k f) ≤ 1) → (i : ℕ) → i < k → many (f i).number (tab i f) ≡ 0
  none_before f k h i l =
      let n = (f i).number in
      let e : many n (tab (suc i) f) ≡ many n (tab i f) + 1 = rw (many_more n i f, eq-eqb n n refl) in
      omega (arith, e, many_grows n (suc i) k f l, h n)

  -- unlike asks that none of the first k tasks has the number n
  pub unlike-many : (b : List ℕ) (n k : ℕ) → unlike b n k ≡ eqb (many n (tab k (λ i. task_in b (2 * i + 1)))) 0
  unfolding unlike
  unlike-many b n zero = unfold tab in refl
  unlike-many b n (suc k) = rw (unlike-many b n k, many_more n k (λ i. task_in b (2 * i + 1))) (none_more _ (number_in b (2 * k + 1)) n)

  pub none_many : (n : ℕ) (ts : List (Task ℕ)) → Every (λ t. ¬ (n ≡ t.number)) ts → many n ts ≡ 0
  none_many n [] h = refl
  none_many n (t ∷ ts) h = rw (ne_eqb n t.number h.0, none_many n ts h.1)

  -- tasks whose numbers are all different and from 1 to m are no more than m: at most one for each number
  tally : ℕ → List (Task ℕ) → ℕ
  tally zero ts = 0
  tally (suc m) ts = tally m ts + many (suc m) ts

  tally_below : (m : ℕ) (ts : List (Task ℕ)) → ((n : ℕ) → many n ts ≤ 1) → tally m ts ≤ m
  unfolding tally
  tally_below zero ts h = omega arith
  tally_below (suc m) ts h = omega (arith, tally_below m ts h, h (suc m))

  tally_grows : (m : ℕ) (t : Task ℕ) (ts : List (Task ℕ)) → tally m ts ≤ tally m (t ∷ ts)
  unfolding tally
  tally_grows zero t ts = omega arith
  tally_grows (suc m) t ts = omega (arith, tally_grows m t ts)

  tally_more : (m : ℕ) (t : Task ℕ) (ts : List (Task ℕ)) → 1 ≤ t.number → t.number ≤ m → suc (tally m ts) ≤ tally m (t ∷ ts)
  unfolding tally
  tally_more zero t ts h g = absurd (omega arith)
  tally_more (suc m) t ts h g =
      ⊎_elim
      (λ e. rw (eq-eqb (suc m) t.number (sym e)) (omega (arith, tally_grows m t ts)))
      (λ l. omega (arith, tally_more m t ts h (omega arith)))
      (eq-or-lt_of_le {n = t.number} {m = suc m} g)

  length_tally : (m : ℕ) (ts : List (Task ℕ)) → Every (λ t. (1 ≤ t.number) × (t.number ≤ m)) ts → length ts ≤ tally m ts
  length_tally m [] h = omega arith
  length_tally m (t ∷ ts) h = omega (arith, length_tally m ts h.1, tally_more m t ts h.0.0 h.0.1)

  pub no_more : (m : ℕ) (ts : List (Task ℕ)) → ((n : ℕ) → many n ts ≤ 1) → Every (λ t. (1 ≤ t.number) × (t.number ≤ m)) ts → length ts ≤ m
  no_more m ts h g = omega (arith, length_tally m ts g, tally_below m ts h)
