-- What stands at an index is what the statements still to do from there begin with; so it leads to places, with names in their rows.
-- Assumes nothing.
use Prim.Native.Nat.{ℕ, zero, suc, ◌+◌, ◌≤◌, ◌<◌}
use mathlib.Core.Path.{◌≡◌, refl, sym, ap, ◌∙◌, subst}
use mathlib.Core.Bool.{true, false≢true}
use mathlib.Core.Option.{Option, none, some}
use mathlib.Core.List.{List, [], ◌∷◌, ◌++◌}
use native.Mathlib.Omega.{arith}
use native.Mathlib.Decide.{dec_le}
use lib.ListN.{length, get_or, replicate, length-append, length-replicate, get_or-eq_default}
use Rattle.rules.specs.Recipe.{Expr, Stmt, skip, assign, if, while, spawn, suspend, await, guard, Body, fin, ◌▸◌, Recipe, size_e, size_s, size_b, size_r, NamedE, NamedS, NamedB, WithinR, Within}
use Rattle.rules.specs.Places.{Point, nowhere, stop, skips, assigns, tests, spawns, suspends, awaits, guards, enter, points_s, points_b, points_r, at, stands, is_place, start_from, start}
use Rattle.rules.specs.Rest.{◌then◌, rests_s, rests_b, rests_r, rest}

-- A point and the statements to do fit, if the first statement is one of a recipe of n procedures and each index that the point names has the
-- statements that go on from there.
pub data Fits (f : ℕ → Option Body) (n : ℕ) : Point ℕ → Option Body → Type 0 where
  none_fits : Fits f n nowhere none
  stop-fits : Fits f n stop (some fin)
  skip-fits : {i : ℕ} {k : Body} → f i ≡ some k → Fits f n (skips i) (some (skip ▸ k))
  assign-fits : {v i : ℕ} {e : Expr} {k : Body} → NamedS n (assign v e) → f i ≡ some k → Fits f n (assigns v e i) (some (assign v e ▸ k))
  if-fits : {e : Expr} {i j : ℕ} {b k : Body} → NamedS n (if e b) → f i ≡ some (b then k) → f j ≡ some k → Fits f n (tests e i j) (some (if e b ▸ k))
  while-fits : {e : Expr} {i j : ℕ} {b k : Body} → NamedS n (while e b) → f i ≡ some (b then (while e b ▸ k)) → f j ≡ some k → Fits f n (tests e i j) (some (while e b ▸ k))
  spawn-fits : {v p i : ℕ} {e : Expr} {k : Body} → NamedS n (spawn v p e) → f i ≡ some k → Fits f n (spawns v p e i) (some (spawn v p e ▸ k))
  suspend-fits : {i : ℕ} {k : Body} → f i ≡ some k → Fits f n (suspends i) (some (suspend ▸ k))
  await-fits : {v i : ℕ} {k : Body} → NamedS n (await v) → f i ≡ some k → Fits f n (awaits v i) (some (await v ▸ k))
  guard-fits : {i : ℕ} {e : Expr} {k : Body} → NamedS n (guard e) → f i ≡ some k → Fits f n (guards e i) (some (guard e ▸ k))

-- the values of f from i on
abbrev Seg : {A : Type 0} → (ℕ → A) → ℕ → List A → Type 0
Seg f i [] = Unit {0}
Seg f i (o ∷ os) = (f i ≡ o) × Seg f (suc i) os

seg_split : {A : Type 0} (f : ℕ → A) (i : ℕ) (xs ys : List A) → Seg f i (xs ++ ys) → Seg f i xs × Seg f (i + length xs) ys
seg_split f i [] ys h = (tt, subst (λ (j : ℕ). Seg f j ys) (omega arith) h)
seg_split f i (x ∷ xs) ys h =
    let r = seg_split f (suc i) xs ys h.1 in
    ((h.0, r.0), subst (λ (j : ℕ). Seg f j ys) (omega arith) r.1)

-- the second part, at its own index
seg_after : {A : Type 0} (f : ℕ → A) (i j : ℕ) (xs ys : List A) → i + length xs ≡ j → Seg f i (xs ++ ys) → Seg f j ys
seg_after f i j xs ys e h = subst (λ (j : ℕ). Seg f j ys) e (seg_split f i xs ys h).1

seg_all : {A : Type 0} (f : ℕ → A) (m : ℕ) (os : List A) (z : A) → ((i : ℕ) → f (m + i) ≡ get_or os i z) → Seg f m os
seg_all f m [] z h = tt
seg_all f m (o ∷ os) z h = (ap f (omega arith) ∙ h 0, seg_all f (suc m) os z (λ i. ap f (omega arith) ∙ h (suc i)))

length-behind : {A : Type 0} (m : ℕ) (z : A) (xs : List A) → length (replicate m z ++ xs) ≡ m + length xs
length-behind m z xs = omega (arith, length-append (replicate m z) xs, length-replicate m z)

mutual
  unfolding rests_s rests_b size_s size_b

  length-rests_s : (s : Stmt) (k : Body) → length (rests_s s k) ≡ size_s s
  length-rests_s skip k = refl
  length-rests_s (assign v e) k = omega (arith, length-replicate {A = Option Body} (size_e e) none)
  length-rests_s (if e b) k = omega (arith, length-behind (size_e e) none (rests_b b k), length-rests_b b k)
  length-rests_s (while e b) k = omega (arith, length-behind (size_e e) none (rests_b b (while e b ▸ k)), length-rests_b b (while e b ▸ k))
  length-rests_s (spawn v p e) k = omega (arith, length-replicate {A = Option Body} (size_e e) none)
  length-rests_s suspend k = refl
  length-rests_s (await v) k = refl
  length-rests_s (guard e) k = omega (arith, length-replicate {A = Option Body} (size_e e) none)

  length-rests_b : (b : Body) (k : Body) → length (rests_b b k) ≡ size_b b
  length-rests_b fin k = refl
  length-rests_b (s ▸ b) k = omega (arith, length-append (rests_s s (b then k)) (rests_b b k), length-rests_s s (b then k), length-rests_b b k)

then-fin : (b : Body) → (b then fin) ≡ b
unfolding ◌then◌
then-fin fin = refl
then-fin (s ▸ b) = ap (λ (x : Body). s ▸ x) (then-fin b)

opens : (b : Body) (i : ℕ) → enter b i (i + size_b b) ≡ i
unfolding enter size_b
opens fin i = omega arith
opens (s ▸ b) i = refl

module _ (f : ℕ → Option Body) (n : ℕ) where
  data AllFit : List (Point ℕ) → List (Option Body) → Type 0 where
    end : AllFit [] []
    ◌&◌ : {p : Point ℕ} {o : Option Body} {ps : List (Point ℕ)} {os : List (Option Body)} → Fits f n p o → AllFit ps os → AllFit (p ∷ ps) (o ∷ os)

  both : {ps ps' : List (Point ℕ)} {os os' : List (Option Body)} → AllFit ps os → AllFit ps' os' → AllFit (ps ++ ps') (os ++ os')
  both end g = g
  both (◌&◌ x h) g = ◌&◌ x (both h g)

  gap : (m : ℕ) → AllFit (replicate m nowhere) (replicate m none)
  gap zero = end
  gap (suc m) = ◌&◌ none_fits (gap m)

  found : {ps : List (Point ℕ)} {os : List (Option Body)} → AllFit ps os → (i : ℕ) → Fits f n (get_or ps i nowhere) (get_or os i none)
  found end i = none_fits
  found (◌&◌ x h) zero = x
  found (◌&◌ x h) (suc i) = found h i

  first : (s : Stmt) (i : ℕ) (k : Body) (os : List (Option Body)) → Seg f i (rests_s s k ++ os) → f i ≡ some (s ▸ k)
  unfolding rests_s
  first skip i k os h = h.0
  first (assign v e) i k os h = h.0
  first (if e b) i k os h = h.0
  first (while e b) i k os h = h.0
  first (spawn v p e) i k os h = h.0
  first suspend i k os h = h.0
  first (await v) i k os h = h.0
  first (guard e) i k os h = h.0

  -- a body is entered where all of it is still to do
  entered : (b : Body) (i j : ℕ) (k : Body) → Seg f i (rests_b b k) → f j ≡ some k → f (enter b i j) ≡ some (b then k)
  unfolding enter rests_b ◌then◌
  entered fin i j k h g = g
  entered (s ▸ b) i j k h g = first s i (b then k) (rests_b b k) h

  -- the body of a statement that has one, behind its test
  inner : (e : Expr) (b : Body) (i : ℕ) (k : Body) → Seg f (suc i) (replicate (size_e e) none ++ rests_b b k) → Seg f (i + 1 + size_e e) (rests_b b k)
  inner e b i k h = seg_after f (suc i) (i + 1 + size_e e) (replicate (size_e e) none) (rests_b b k) (omega (arith, length-replicate {A = Option Body} (size_e e) none)) h

  mutual
    unfolding points_s points_b rests_s rests_b NamedS NamedB

    fit_s : (s : Stmt) (i j : ℕ) (k : Body) → NamedS n s → Seg f i (rests_s s k) → f j ≡ some k → AllFit (points_s s i j) (rests_s s k)
    fit_s skip i j k c h g = ◌&◌ (skip-fits g) end
    fit_s (assign v e) i j k c h g = ◌&◌ (assign-fits c g) (gap (size_e e))
    fit_s (if e b) i j k c h g =
        let h' = inner e b i k h.1 in
        ◌&◌ (if-fits c (entered b (i + 1 + size_e e) j k h' g) g) (both (gap (size_e e)) (fit_b b (i + 1 + size_e e) j k c.1 h' g))
    fit_s (while e b) i j k c h g =
        let h' = inner e b i (while e b ▸ k) h.1 in
        ◌&◌ (while-fits c (entered b (i + 1 + size_e e) i (while e b ▸ k) h' h.0) g) (both (gap (size_e e)) (fit_b b (i + 1 + size_e e) i (while e b ▸ k) c.1 h' h.0))
    fit_s (spawn v p e) i j k c h g = ◌&◌ (spawn-fits c g) (gap (size_e e))
    fit_s suspend i j k c h g = ◌&◌ (suspend-fits g) end
    fit_s (await v) i j k c h g = ◌&◌ (await-fits c g) end
    fit_s (guard e) i j k c h g = ◌&◌ (guard-fits c g) (gap (size_e e))

    fit_b : (b : Body) (i j : ℕ) (k : Body) → NamedB n b → Seg f i (rests_b b k) → f j ≡ some k → AllFit (points_b b i j) (rests_b b k)
    fit_b fin i j k c h g = end
    fit_b (s ▸ b) i j k c h g =
        let h' = seg_after f i (i + size_s s) (rests_s s (b then k)) (rests_b b k) (omega (arith, length-rests_s s (b then k))) h in
        both (fit_s s i (enter b (i + size_s s) j) (b then k) c.0 (seg_split f i (rests_s s (b then k)) (rests_b b k) h).0 (entered b (i + size_s s) j k h' g)) (fit_b b (i + size_s s) j k c.1 h' g)

  here : (r : Recipe) (i : ℕ) (o : Option Body) → Seg f i (rests_r r o) → f i ≡ o
  unfolding rests_r
  here [] i o h = h.0
  here (b ∷ r) i o h = h.0

  -- the statements of a procedure's body, and the procedures behind it
  body : (b : Body) (r : Recipe) (i : ℕ) → Seg f (suc i) (rests_b b fin ++ rests_r r (some fin)) → Seg f (i + 1) (rests_b b fin)
  body b r i h = subst (λ (j : ℕ). Seg f j (rests_b b fin)) (omega arith) (seg_split f (suc i) (rests_b b fin) (rests_r r (some fin)) h).0

  behind : (b : Body) (r : Recipe) (i : ℕ) → Seg f (suc i) (rests_b b fin ++ rests_r r (some fin)) → Seg f (i + 1 + size_b b) (rests_r r (some fin))
  behind b r i h = seg_after f (suc i) (i + 1 + size_b b) (rests_b b fin) (rests_r r (some fin)) (omega (arith, length-rests_b b fin)) h

  fit_r : (r : Recipe) (i : ℕ) (p : Point ℕ) (o : Option Body) → WithinR n r → Fits f n p o → Seg f i (rests_r r o) → AllFit (points_r r i p) (rests_r r o)
  unfolding points_r rests_r
  fit_r [] i p o c x h = ◌&◌ x end
  fit_r (b ∷ r) i p o c x h =
      let t = behind b r i h.1 in
      ◌&◌ x (both (fit_b b (i + 1) (i + 1 + size_b b) fin c.0.named (body b r i h.1) (here r (i + 1 + size_b b) (some fin) t)) (fit_r r (i + 1 + size_b b) stop (some fin) c.1 stop-fits t))

  begins : (r : Recipe) (i p : ℕ) (o : Option Body) → p < length r → Seg f i (rests_r r o) → f (start_from r i p) ≡ some (get_or r p fin)
  unfolding start_from rests_r
  begins [] i p o l h = absurd (omega arith)
  begins (b ∷ r) i zero o l h =
      ap f (sym (opens b (i + 1))) ∙ entered b (i + 1) (i + 1 + size_b b) fin (body b r i h.1) (here r (i + 1 + size_b b) (some fin) (behind b r i h.1)) ∙ ap some (then-fin b)
  begins (b ∷ r) i (suc p) o l h = begins r (i + 1 + size_b b) p (some fin) (omega arith) (behind b r i h.1)

own : (r : Recipe) → Seg (rest r) 0 (rests_r r none)
unfolding rest
own r = seg_all (rest r) 0 (rests_r r none) none (λ i. ap (λ (j : ℕ). get_or (rests_r r none) j none) (omega arith))

-- at each index what stands there fits what is still to do from there
pub fits : (r : Recipe) → Within r → (i : ℕ) → Fits (rest r) (length r) (at r i) (rest r i)
unfolding at rest
fits r w i = found (rest r) (length r) (fit_r (rest r) (length r) r 0 nowhere none w.bodies none_fits (own r)) i

-- a procedure starts where all of it is still to do
pub starts : (r : Recipe) (p : ℕ) → p < length r → rest r (start r p) ≡ some (get_or r p fin)
unfolding start
starts r p l = begins (rest r) (length r) r 0 p none l (own r)

-- names in their rows, each index that it names a place, and a procedure that it spawns one of the recipe's
abbrev pub Leads : Recipe → Point ℕ → Type 0
Leads r nowhere = Unit {0}
Leads r stop = Unit {0}
Leads r (skips k) = is_place r k ≡ true
Leads r (assigns n e k) = (n ≤ 64) × NamedE e × (is_place r k ≡ true)
Leads r (tests e k l) = NamedE e × (is_place r k ≡ true) × (is_place r l ≡ true)
Leads r (spawns n p e k) = (8 ≤ n) × (n ≤ 64) × (p < length r) × NamedE e × (is_place r k ≡ true)
Leads r (suspends k) = is_place r k ≡ true
Leads r (awaits n k) = (n ≤ 64) × (is_place r k ≡ true)
Leads r (guards e k) = NamedE e × (is_place r k ≡ true)

fits-stands : {f : ℕ → Option Body} {n : ℕ} {p : Point ℕ} {k : Body} → Fits f n p (some k) → stands p ≡ true
fits-stands stop-fits = refl
fits-stands (skip-fits h) = refl
fits-stands (assign-fits c h) = refl
fits-stands (if-fits c g h) = refl
fits-stands (while-fits c g h) = refl
fits-stands (spawn-fits c h) = refl
fits-stands (suspend-fits h) = refl
fits-stands (await-fits c h) = refl
fits-stands (guard-fits c h) = refl

-- where statements are still to do is a place
place_at : (r : Recipe) → Within r → (i : ℕ) {k : Body} → rest r i ≡ some k → is_place r i ≡ true
place_at r w i e = fits-stands (subst (λ (o : Option Body). Fits (rest r) (length r) (at r i) o) e (fits r w i))

-- a spawn that is to do next names a procedure
spawns_in : {f : ℕ → Option Body} {n x m : ℕ} {p : Point ℕ} {e : Expr} {k : Body} → Fits f n p (some (spawn x m e ▸ k)) → m < n
unfolding NamedS
spawns_in (spawn-fits c h) = c.3

pub spawn-named : (r : Recipe) → Within r → (i x m : ℕ) (e : Expr) (k : Body) → rest r i ≡ some (spawn x m e ▸ k) → m < length r
spawn-named r w i x m e k h = spawns_in (subst (λ (o : Option Body). Fits (rest r) (length r) (at r i) o) h (fits r w i))

module _ (r : Recipe) (w : Within r) where
  leads_to : {p : Point ℕ} {o : Option Body} → Fits (rest r) (length r) p o → Leads r p
  unfolding NamedS
  leads_to none_fits = tt
  leads_to stop-fits = tt
  leads_to (skip-fits {i = i} h) = place_at r w i h
  leads_to (assign-fits {i = i} c h) = (c.0, c.1, place_at r w i h)
  leads_to (if-fits {i = i} {j = j} c g h) = (c.0, place_at r w i g, place_at r w j h)
  leads_to (while-fits {i = i} {j = j} c g h) = (c.0, place_at r w i g, place_at r w j h)
  leads_to (spawn-fits {i = i} c h) = (c.0, c.1, c.3, c.4, place_at r w i h)
  leads_to (suspend-fits {i = i} h) = place_at r w i h
  leads_to (await-fits {i = i} c h) = (c, place_at r w i h)
  leads_to (guard-fits {i = i} c h) = (c, place_at r w i h)

  -- what stands at a place leads only to places
  pub leads : (i : ℕ) → Leads r (at r i)
  leads i = leads_to (fits r w i)

  -- procedures start at places
  pub start-place : (p : ℕ) → p < length r → is_place r (start r p) ≡ true
  start-place p l = place_at r w (start r p) (starts r p l)

mutual
  unfolding points_s points_b size_s size_b

  pub length-points_s : (s : Stmt) (i k : ℕ) → length (points_s s i k) ≡ size_s s
  length-points_s skip i k = refl
  length-points_s (assign v e) i k = omega (arith, length-replicate {A = Point ℕ} (size_e e) nowhere)
  length-points_s (if e b) i k = omega (arith, length-behind (size_e e) nowhere (points_b b (i + 1 + size_e e) k), length-points_b b (i + 1 + size_e e) k)
  length-points_s (while e b) i k = omega (arith, length-behind (size_e e) nowhere (points_b b (i + 1 + size_e e) i), length-points_b b (i + 1 + size_e e) i)
  length-points_s (spawn v p e) i k = omega (arith, length-replicate {A = Point ℕ} (size_e e) nowhere)
  length-points_s suspend i k = refl
  length-points_s (await v) i k = refl
  length-points_s (guard e) i k = omega (arith, length-replicate {A = Point ℕ} (size_e e) nowhere)

  pub length-points_b : (b : Body) (i k : ℕ) → length (points_b b i k) ≡ size_b b
  length-points_b fin i k = refl
  length-points_b (s ▸ b) i k = rw (length-append, length-points_s s i (enter b (i + size_s s) k), length-points_b b (i + size_s s) k)

pub length-points_r : (r : Recipe) (i : ℕ) (x : Point ℕ) → length (points_r r i x) ≡ suc (size_r r)
unfolding points_r size_r
length-points_r [] i x = refl
length-points_r (b ∷ r) i x = rw (length-append, length-points_b, length-points_r r) (omega arith)

-- an index behind the table is no place
pub place-bound : (r : Recipe) (i : ℕ) → is_place r i ≡ true → i ≤ size_r r
unfolding at
place-bound r i h = go (dec_le i (size_r r))
  where
    go : Dec (i ≤ size_r r) → i ≤ size_r r
    go (yes l) = l
    go (no l) = absurd (false≢true (ap stands (sym (get_or-eq_default (points_r r 0 nowhere) nowhere (omega (arith, length-points_r r 0 nowhere)))) ∙ h))
