-- The code tests equality on the bits of two numbers: what that says of a number and 0.
-- Assumes nothing.
use Prim.Native.Nat.{ℕ}
use mathlib.Core.Path.{◌≡◌, refl}
use mathlib.Core.Bool.{true, false}
use native.Mathlib.Omega.{arith}
use lib.IntN.{ℤ, pos, negsuc}
use borrow.Author.Tests.{eq-eqb, ne_eqb}
use mir.Syntax.{w32}
use mir.Val.{SFits, of_z}
use Rattle.rules.specs.Values.{is_zero}

pub is-zero : (z : ℤ) → SFits w32 z → of_z w32 z ≡ 0 → is_zero z ≡ true
is-zero (pos n) f h = eq-eqb n 0 h
is-zero (negsuc n) f h = absurd (omega arith)

pub not-zero : (z : ℤ) → ¬ (of_z w32 z ≡ 0) → is_zero z ≡ false
not-zero (pos n) h = ne_eqb n 0 h
not-zero (negsuc n) h = refl
