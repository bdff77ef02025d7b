-- How often numbers are in a list, and that numbers which are all in another list, each as often there, are no more.
-- Assumes nothing.
use Prim.Native.Nat.{ℕ, suc, ◌+◌, ◌-◌, ◌≤◌}
use mathlib.Core.Path.{◌≡◌, refl, sym, subst}
use mathlib.Core.Bool.{Bool, true, false, cond}
use mathlib.Core.List.{List, [], ◌∷◌, ◌++◌}
use mathlib.Core.Logic.{dite}
use native.Mathlib.Decide.{ℕ_discrete}
use native.Mathlib.Omega.{arith}
use lib.Dec.{eqb}
use lib.ListN.{length}
use borrow.Author.Tests.{eq-eqb, eqb-true}
use Rattle.rules.specs.Scheduler.{is, Rules, count}
use Rattle.rules.specs.Fairness.{Every}
use Rattle.rules.specs.Demand.{times}
use Rattle.rules.proofs.Steps.{is-other}

pub times-append : (n : ℕ) (xs ys : List ℕ) → times n (xs ++ ys) ≡ times n xs + times n ys
times-append n [] ys = omega arith
times-append n (x ∷ xs) ys = omega (arith, times-append n xs ys)

pub is_self : (n : ℕ) → is (eqb n n) ≡ 1
is_self n = rw (eq-eqb n n refl) refl

-- what holds of every number of a list holds of one that is in it
pub every-named : (P : ℕ → Type 0) (ns : List ℕ) → Every P ns → (n : ℕ) → 1 ≤ times n ns → P n
every-named P [] h n l = absurd (omega arith)
every-named P (m ∷ ms) h n l =
    dite (ℕ_discrete n m)
    (λ e. subst P (sym e) h.0)
    (λ e. every-named P ms h.1 n (omega (arith, is-other n m e)))

-- a list without the first n in it
without : ℕ → List ℕ → List ℕ
without n [] = []
without n (m ∷ ms) = cond (eqb n m) ms (m ∷ without n ms)

times_without : (i n : ℕ) (ms : List ℕ) → times i (without n ms) ≡ times i ms - is (eqb i n)
unfolding without
times_without i n [] = omega arith
times_without i n (m ∷ ms) = go (eqb n m) refl (times_without i n ms)
  where
    go : (b : Bool) → eqb n m ≡ b → times i (without n ms) ≡ times i ms - is (eqb i n)
        → times i (cond b ms (m ∷ without n ms)) ≡ is (eqb i m) + times i ms - is (eqb i n)
    go true e h = let same : n ≡ m = eqb-true n m e in rw same (omega arith)
    go false e h =
        dite (ℕ_discrete i n)
        (λ s. let other : is (eqb i m) ≡ 0 = rw (s, e) refl in omega (arith, h))
        (λ d. omega (arith, is-other i n d, h))

length_without : (n : ℕ) (ms : List ℕ) → length ms ≤ suc (length (without n ms))
unfolding without
length_without n [] = omega arith
length_without n (m ∷ ms) = go (eqb n m) (length_without n ms)
  where
    go : (b : Bool) → length ms ≤ suc (length (without n ms)) → suc (length ms) ≤ suc (length (cond b ms (m ∷ without n ms)))
    go true h = omega arith
    go false h = omega arith

-- numbers that are all the numbers of tasks, none more often than it is, are no more than the tasks
pub no_more_named : (R : Rules) (q : List R.Task) (ns : List ℕ) → ((n : ℕ) → times n ns ≤ count R n q) → length ns ≤ length q
no_more_named R [] [] h = omega arith
no_more_named R [] (n ∷ ns) h = absurd (omega (arith, h n, is_self n))
no_more_named R (t ∷ q) ns h =
    let n = R.num t in
    omega (arith, length_without n ns, no_more_named R q (without n ns) (λ i. omega (arith, h i, times_without i n ns)))
