-- The value of an expression, if it has one, is in the range of values, and a write keeps what is.
-- Assumes nothing.
use Prim.Native.Nat.{ℕ, zero, suc}
use mathlib.Core.Path.{◌≡◌, refl, ◌∙◌}
use mathlib.Core.Bool.{Bool, true, false, not, ◌&&◌, ◌||◌, cond}
use mathlib.Core.Option.{Option, none, some}
use mathlib.Core.List.{List, [], ◌∷◌}
use lib.Dec.{eqb, ltb}
use lib.IntN.{ℤ, pos, negsuc, neg_ℤ, ◌+ℤ◌, ◌-ℤ◌, ◌*ℤ◌}
use lib.Signed.{lt_z, quot_z}
use lib.ListN.{length, get_or, set, length-set}
use borrow.Author.Tests.{ltb-false}
use Rattle.rules.specs.Values.{lowest, highest, in_range, clamp, is_zero, quotient, truth, flag, equal, apply1, apply2, of_both, of_one}
use Rattle.rules.specs.Recipe.{Expr, constant, variable, two, one, NamedE, Env, read, write, value}
use native.Mathlib.Omega.{arith}
use Rattle.rules.proofs.Numbers.{mag_range}

pub either : {A : Type 0} (P : A → Type 0) (b : Bool) {x y : A} → P x → P y → P (cond b x y)
either P true h g = h
either P false h g = g

abbrev Ranged : ℤ → Type 0
Ranged z = in_range z ≡ true

pub clamp-fits : (z : ℤ) → in_range (clamp z) ≡ true
unfolding clamp
clamp-fits (pos n) = go (ltb 2147483647 n) refl
  where
    go : (t : Bool) → ltb 2147483647 n ≡ t → Ranged (cond t highest (pos n))
    go true e = refl
    go false e = mag_range (pos n) (omega (arith, ltb-false 2147483647 n e))
clamp-fits (negsuc n) = go (ltb 2147483647 n) refl
  where
    go : (t : Bool) → ltb 2147483647 n ≡ t → Ranged (cond t lowest (negsuc n))
    go true e = refl
    go false e = mag_range (negsuc n) (omega (arith, ltb-false 2147483647 n e))

-- a value in the range, or none
abbrev pub Fits : Option ℤ → Type 0
Fits none = Unit {0}
Fits (some z) = in_range z ≡ true

quotient_fits : (a b : ℤ) → Fits (quotient a b)
unfolding quotient
quotient_fits a b = either Fits (is_zero b) {x = none} {y = some (clamp (quot_z a b))} tt (clamp-fits (quot_z a b))

pub flag-fits : (b : Bool) → in_range (flag b) ≡ true
flag-fits true = refl
flag-fits false = refl

apply2-fits : (o : ℕ) (a b : ℤ) → Fits (apply2 o a b)
unfolding apply2
apply2-fits o a b =
    either Fits (eqb o 0) {x = some (clamp (a +ℤ b))} (clamp-fits (a +ℤ b))
    (either Fits (eqb o 1) {x = some (clamp (a -ℤ b))} (clamp-fits (a -ℤ b))
    (either Fits (eqb o 2) {x = some (clamp (a *ℤ b))} (clamp-fits (a *ℤ b))
    (either Fits (eqb o 3) (quotient_fits a b)
    (either Fits (eqb o 4) {x = some (flag (lt_z a b))} (flag-fits (lt_z a b))
    (either Fits (eqb o 5) {x = some (flag (equal a b))} (flag-fits (equal a b))
    (either Fits (eqb o 6) {x = some (flag (truth a && truth b))} {y = some (flag (truth a || truth b))} (flag-fits (truth a && truth b)) (flag-fits (truth a || truth b))))))))

apply1-fits : (o : ℕ) (a : ℤ) → in_range (apply1 o a) ≡ true
unfolding apply1
apply1-fits o a = either Ranged (eqb o 0) (clamp-fits (neg_ℤ a)) (flag-fits (not (truth a)))

pub value-fits : (v : Env) (e : Expr) → NamedE e → ((j : ℕ) → in_range (get_or v.variables j (pos 0)) ≡ true) → in_range v.parameter ≡ true → Fits (value v e)
unfolding value read NamedE
value-fits v (constant z) h g p = h
value-fits v (variable n) h g p = either Ranged (eqb n 64) p (g n)
value-fits v (two o a b) h g p = go (value v a) (value v b)
  where
    go : (x y : Option ℤ) → Fits (of_both (apply2 o) x y)
    go none y = tt
    go (some x) none = tt
    go (some x) (some y) = apply2-fits o x y
value-fits v (one o a) h g p = go (value v a)
  where
    go : (x : Option ℤ) → Fits (of_one (apply1 o) x)
    go none = tt
    go (some x) = apply1-fits o x

set-fits : (l : List ℤ) (i : ℕ) (z : ℤ) → in_range z ≡ true → ((j : ℕ) → in_range (get_or l j (pos 0)) ≡ true) → (j : ℕ) → in_range (get_or (set l i z) j (pos 0)) ≡ true
set-fits [] i z h g j = g j
set-fits (x ∷ l) zero z h g zero = h
set-fits (x ∷ l) zero z h g (suc j) = g (suc j)
set-fits (x ∷ l) (suc i) z h g zero = g 0
set-fits (x ∷ l) (suc i) z h g (suc j) = set-fits l i z h (λ j. g (suc j)) j

-- n variables and the parameter, all in the range
pub record EnvFit (n : ℕ) (v : Env) : Type 0 where
  pub all_variables : length v.variables ≡ n
  pub variables_fit : (j : ℕ) → in_range (get_or v.variables j (pos 0)) ≡ true
  pub parameter-fits : in_range v.parameter ≡ true

pub write-fits : (n : ℕ) (v : Env) (name : ℕ) (z : ℤ) → EnvFit n v → in_range z ≡ true → EnvFit n (write v name z)
unfolding write
write-fits n v name z f h =
    either (EnvFit n) (eqb name 64)
    (record { all_variables = f.all_variables; variables_fit = f.variables_fit; parameter-fits = h })
    (record { all_variables = length-set v.variables name z ∙ f.all_variables; variables_fit = set-fits v.variables name z h f.variables_fit; parameter-fits = f.parameter-fits })
