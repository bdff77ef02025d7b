-- `clamp` by the library's least and greatest.
-- Assumes nothing.
use mathlib.Core.Path.{◌≡◌, refl}
use mathlib.Core.Bool.{Bool, true, false, cond}
use lib.Dec.{ltb}
use lib.IntN.{ℤ, pos, negsuc}
use Rattle.std.specs.Int.{int_max, int_min}
use Rattle.rules.specs.Values.{clamp, lowest, highest}

pub nearest : (z : ℤ) → int_max lowest (int_min z highest) ≡ clamp z
unfolding clamp
nearest (pos n) = go (ltb 2147483647 n)
  where
    go : (above : Bool) → int_max lowest (cond above highest (pos n)) ≡ cond above highest (pos n)
    go true = refl
    go false = refl
nearest (negsuc n) = refl
