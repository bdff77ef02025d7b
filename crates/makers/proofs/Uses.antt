-- From tests of every use to what holds at each use.
-- Assumes nothing.
use Prim.Native.Nat.{ℕ, ◌+◌}
use mathlib.Core.Path.{◌≡◌, refl, sym, ap, ◌∙◌, subst}
use mathlib.Core.Bool.{Bool, true, false, ◌&&◌, ◌||◌, true≢false}
use mathlib.Core.List.{List, [], ◌∷◌}
use native.Mathlib.Omega.{arith}
use lib.Dec.{eqb, ltb}
use lib.ListN.{get_or}
use borrow.Author.Tests.{eqb-true, lt-ltb}
use Rattle.rules.specs.Recipe.{Expr, constant, variable, two, one, Stmt, skip, assign, if, while, spawn, suspend, await, guard, Body, fin, ◌▸◌, Recipe}
use Rattle.rules.specs.Rest.{◌then◌}
use Rattle.rules.specs.Scheduler.{is}
use Rattle.rules.specs.Demand.{times}
use Rattle.rules.specs.Why.{among}
use Rattle.rules.proofs.Verdicts.{and_true}
use Rattle.makers.specs.Uses.{Use, reads, sets, spawns_into, awaits_it, every_e, every_s, every_b, every_use}

-- ---- numbers among others

abbrev pub is_in : List ℕ → ℕ → Bool
is_in ps p = among p ps

pub among_more : (p q : ℕ) (ps : List ℕ) → among p (q ∷ ps) ≡ (eqb p q || among p ps)
among_more p q ps = go (eqb p q)
  where
    go : (b : Bool) → ltb 0 (is b + times p ps) ≡ (b || ltb 0 (times p ps))
    go true = lt-ltb 0 (1 + times p ps) (omega arith)
    go false = ap (λ (n : ℕ). ltb 0 n) (omega arith)

-- ---- P holds at each use of an expression, a statement, a body
unfoldable pub AllE : (Use → Type 0) → Expr → Type 0
AllE P (constant z) = Unit {0}
AllE P (variable n) = P (reads n)
AllE P (two o a b) = AllE P a × AllE P b
AllE P (one o a) = AllE P a

unfoldable mutual
  pub AllS : (Use → Type 0) → Stmt → Type 0
  AllS P skip = Unit {0}
  AllS P (assign n e) = P (sets n) × AllE P e
  AllS P (if e b) = AllE P e × AllB P b
  AllS P (while e b) = AllE P e × AllB P b
  AllS P (spawn n p e) = P (spawns_into n p) × AllE P e
  AllS P suspend = Unit {0}
  AllS P (await n) = P (awaits_it n)
  AllS P (guard e) = AllE P e

  pub AllB : (Use → Type 0) → Body → Type 0
  AllB P fin = Unit {0}
  AllB P (s ▸ b) = AllS P s × AllB P b

pub all-then : (P : Use → Type 0) (a b : Body) → AllB P a → AllB P b → AllB P (a then b)
unfolding ◌then◌ AllB
all-then P fin b g h = h
all-then P (s ▸ a) b g h = (g.0, all-then P a b g.1 h)

-- u is among the uses: whatever test all of them pass, u passes.
abbrev pub OccursE : Expr → Use → Type 0
OccursE x u = (f : Use → Bool) → every_e f x ≡ true → f u ≡ true

abbrev pub OccursS : Stmt → Use → Type 0
OccursS x u = (f : Use → Bool) → every_s f x ≡ true → f u ≡ true

abbrev pub OccursB : Body → Use → Type 0
OccursB x u = (f : Use → Bool) → every_b f x ≡ true → f u ≡ true

abbrev pub Occurs : Recipe → List ℕ → Use → Type 0
Occurs r ps u = (f : Use → Bool) → every_use r ps f ≡ true → f u ≡ true

both_true : (a b : Bool) → a ≡ true → b ≡ true → (a && b) ≡ true
both_true true b h g = g
both_true false b h g = h

-- what holds of each use that occurs holds at all
module _ (P : Use → Type 0) where
  all_e : (x : Expr) → ((u : Use) → OccursE x u → P u) → AllE P x
  unfolding AllE every_e
  all_e (constant z) h = tt
  all_e (variable n) h = h (reads n) (λ f e. e)
  all_e (two o a b) h = (all_e a (λ u g. h u (λ f e. g f (and_true (every_e f a) (every_e f b) e).0)), all_e b (λ u g. h u (λ f e. g f (and_true (every_e f a) (every_e f b) e).1)))
  all_e (one o a) h = all_e a h

  mutual
    unfolding AllS AllB every_s every_b

    all_s : (x : Stmt) → ((u : Use) → OccursS x u → P u) → AllS P x
    all_s skip h = tt
    all_s (assign n a) h = (h (sets n) (λ f e. (and_true (f (sets n)) (every_e f a) e).0), all_e a (λ u g. h u (λ f e. g f (and_true (f (sets n)) (every_e f a) e).1)))
    all_s (if a b) h = (all_e a (λ u g. h u (λ f e. g f (and_true (every_e f a) (every_b f b) e).0)), all_b b (λ u g. h u (λ f e. g f (and_true (every_e f a) (every_b f b) e).1)))
    all_s (while a b) h = (all_e a (λ u g. h u (λ f e. g f (and_true (every_e f a) (every_b f b) e).0)), all_b b (λ u g. h u (λ f e. g f (and_true (every_e f a) (every_b f b) e).1)))
    all_s (spawn n p a) h = (h (spawns_into n p) (λ f e. (and_true (f (spawns_into n p)) (every_e f a) e).0), all_e a (λ u g. h u (λ f e. g f (and_true (f (spawns_into n p)) (every_e f a) e).1)))
    all_s suspend h = tt
    all_s (await n) h = h (awaits_it n) (λ f e. e)
    all_s (guard a) h = all_e a h

    all_b : (x : Body) → ((u : Use) → OccursB x u → P u) → AllB P x
    all_b fin h = tt
    all_b (s ▸ b) h = (all_s s (λ u g. h u (λ f e. g f (and_true (every_s f s) (every_b f b) e).0)), all_b b (λ u g. h u (λ f e. g f (and_true (every_s f s) (every_b f b) e).1)))

  pub all_of : (r : Recipe) (ps : List ℕ) → ((u : Use) → Occurs r ps u → P u) → (p : ℕ) → among p ps ≡ true → AllB P (get_or r p fin)
  unfolding every_use
  all_of r [] h p m = absurd (true≢false (sym m))
  all_of r (q ∷ ps) h p m =
      go (eqb p q) refl (sym (among_more p q ps) ∙ m) (λ m. all_of r ps (λ u g. h u (λ f e. g f (and_true (every_b f (get_or r q fin)) (every_use r ps f) e).1)) p m)
    where
      go : (b : Bool) → eqb p q ≡ b → (b || among p ps) ≡ true → (among p ps ≡ true → AllB P (get_or r p fin)) → AllB P (get_or r p fin)
      go true e m k = subst (λ (p : ℕ). AllB P (get_or r p fin)) (sym (eqb-true p q e)) (all_b (get_or r q fin) (λ u g. h u (λ f e. g f (and_true (every_b f (get_or r q fin)) (every_use r ps f) e).0)))
      go false e m k = k m

-- a test that each use passes that occurs
module _ (t : Use → Bool) where
  test_e : (x : Expr) → ((u : Use) → OccursE x u → t u ≡ true) → every_e t x ≡ true
  unfolding every_e
  test_e (constant z) h = refl
  test_e (variable n) h = h (reads n) (λ f e. e)
  test_e (two o a b) h = both_true (every_e t a) (every_e t b) (test_e a (λ u g. h u (λ f e. g f (and_true (every_e f a) (every_e f b) e).0))) (test_e b (λ u g. h u (λ f e. g f (and_true (every_e f a) (every_e f b) e).1)))
  test_e (one o a) h = test_e a h

  mutual
    unfolding every_s every_b

    test_s : (x : Stmt) → ((u : Use) → OccursS x u → t u ≡ true) → every_s t x ≡ true
    test_s skip h = refl
    test_s (assign n a) h = both_true (t (sets n)) (every_e t a) (h (sets n) (λ f e. (and_true (f (sets n)) (every_e f a) e).0)) (test_e a (λ u g. h u (λ f e. g f (and_true (f (sets n)) (every_e f a) e).1)))
    test_s (if a b) h = both_true (every_e t a) (every_b t b) (test_e a (λ u g. h u (λ f e. g f (and_true (every_e f a) (every_b f b) e).0))) (test_b b (λ u g. h u (λ f e. g f (and_true (every_e f a) (every_b f b) e).1)))
    test_s (while a b) h = both_true (every_e t a) (every_b t b) (test_e a (λ u g. h u (λ f e. g f (and_true (every_e f a) (every_b f b) e).0))) (test_b b (λ u g. h u (λ f e. g f (and_true (every_e f a) (every_b f b) e).1)))
    test_s (spawn n p a) h = both_true (t (spawns_into n p)) (every_e t a) (h (spawns_into n p) (λ f e. (and_true (f (spawns_into n p)) (every_e f a) e).0)) (test_e a (λ u g. h u (λ f e. g f (and_true (f (spawns_into n p)) (every_e f a) e).1)))
    test_s suspend h = refl
    test_s (await n) h = h (awaits_it n) (λ f e. e)
    test_s (guard a) h = test_e a h

    test_b : (x : Body) → ((u : Use) → OccursB x u → t u ≡ true) → every_b t x ≡ true
    test_b fin h = refl
    test_b (s ▸ b) h = both_true (every_s t s) (every_b t b) (test_s s (λ u g. h u (λ f e. g f (and_true (every_s f s) (every_b f b) e).0))) (test_b b (λ u g. h u (λ f e. g f (and_true (every_s f s) (every_b f b) e).1)))

  pub test_of : (r : Recipe) (ps : List ℕ) → ((u : Use) → Occurs r ps u → t u ≡ true) → every_use r ps t ≡ true
  unfolding every_use
  test_of r [] h = refl
  test_of r (p ∷ ps) h =
      both_true (every_b t (get_or r p fin)) (every_use r ps t)
      (test_b (get_or r p fin) (λ u g. h u (λ f e. g f (and_true (every_b f (get_or r p fin)) (every_use r ps f) e).0)))
      (test_of r ps (λ u g. h u (λ f e. g f (and_true (every_b f (get_or r p fin)) (every_use r ps f) e).1)))
