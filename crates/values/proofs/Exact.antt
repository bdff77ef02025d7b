-- What the code, which keeps each number by its bits, reads of a value of 32 bits, of the result of a call and of a quotient worked out
-- in 64 bits.
-- Assumes nothing.
use Prim.Native.Nat.{ℕ, zero, suc, ◌+◌, ◌/◌, ◌≤◌, ◌<◌}
use mathlib.Core.Path.{◌≡◌, ap, ap₂, ◌∙◌}
use mathlib.Core.Option.{Option, some}
use native.Mathlib.Nat.{div-le_self}
use native.Mathlib.Omega.{arith}
use lib.IntN.{ℤ, pos, negsuc, neg_ℤ}
use lib.Signed.{mag, quot_z}
use mir.Syntax.{w32, w64}
use mir.Val.{SFits, to_z, of_z}
use mir.Facts.{sfits_widen, to_z-of_z}

-- what a call hands back (its place's `ok` is the bound)
pub fits32 : {z : ℤ} → mag z < 2147483648 → SFits w32 z
fits32 h = record { sfits = h }

pub result32 : {z : ℤ} → mag z < 2147483648 → to_z w32 (of_z w32 z) ≡ z
result32 {z} h = to_z-of_z (fits32 {z = z} h)

-- and what it does of its arguments
pub applied1 : (f : ℤ → ℤ) {a r : ℤ} → SFits w32 a → mag r < 2147483648 → r ≡ f (to_z w32 (of_z w32 a)) → to_z w32 (of_z w32 r) ≡ f a
applied1 f fa ok e = result32 ok ∙ e ∙ ap f (to_z-of_z fa)

-- of two arguments, whatever is made of the result
module _ {B : Type 0} (g : ℤ → B) (f : ℤ → ℤ → B) {a b r : ℤ} (fa : SFits w32 a) (fb : SFits w32 b) (ok : mag r < 2147483648) where
  applied : g r ≡ f (to_z w32 (of_z w32 a)) (to_z w32 (of_z w32 b)) → g (to_z w32 (of_z w32 r)) ≡ f a b
  applied e = ap g (result32 ok) ∙ e ∙ ap₂ f (to_z-of_z fa) (to_z-of_z fb)

pub applied2 : (f : ℤ → ℤ → ℤ) {a b r : ℤ} → SFits w32 a → SFits w32 b → mag r < 2147483648
    → r ≡ f (to_z w32 (of_z w32 a)) (to_z w32 (of_z w32 b)) → to_z w32 (of_z w32 r) ≡ f a b
applied2 f = applied (λ z. z) f

-- the same where there may be no value
pub found2 : (f : ℤ → ℤ → Option ℤ) {a b r : ℤ} → SFits w32 a → SFits w32 b → mag r < 2147483648
    → some r ≡ f (to_z w32 (of_z w32 a)) (to_z w32 (of_z w32 b)) → some (to_z w32 (of_z w32 r)) ≡ f a b
found2 f = applied some f

-- ---- a quotient: mag z is n both for n and for -1 - n

mag_neg_pos : (n : ℕ) → mag (neg_ℤ (pos n)) ≤ n
mag_neg_pos zero = omega arith
mag_neg_pos (suc n) = omega arith

mag_quot : (a b : ℤ) → mag (quot_z a b) ≤ mag a + 1
mag_quot (pos a) (pos b) = omega (arith, div-le_self a b)
mag_quot (pos a) (negsuc b) = omega (arith, mag_neg_pos (a / suc b), div-le_self a (suc b))
mag_quot (negsuc a) (pos b) = omega (arith, mag_neg_pos (suc a / b), div-le_self (suc a) b)
mag_quot (negsuc a) (negsuc b) = omega (arith, div-le_self (suc a) (suc b))

module _ {a b : ℤ} (fa : SFits w32 a) (fb : SFits w32 b) where
  -- of two values widened to 64 bits
  pub quotient_read : {x y : ℤ} → x ≡ to_z w32 (of_z w32 a) → y ≡ to_z w32 (of_z w32 b)
      → to_z w64 (of_z w64 (quot_z (to_z w64 (of_z w64 x)) (to_z w64 (of_z w64 y)))) ≡ quot_z a b
  quotient_read e f =
      let fits : SFits w64 (quot_z a b) = record { sfits = omega (arith, mag_quot a b, fa.sfits) } in
      rw (e, f, to_z-of_z fa, to_z-of_z fb, to_z-of_z (sfits_widen tt fa), to_z-of_z (sfits_widen tt fb)) (to_z-of_z fits)
