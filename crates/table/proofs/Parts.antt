-- Parts of a table, and those that a record makes, are what slices give.
-- Assumes nothing.
use Prim.Native.Nat.{ℕ, ◌+◌, ◌-◌, ◌*◌}
use mathlib.Core.Path.{◌≡◌, ap, ◌∙◌}
use mathlib.Core.List.{List}
use native.Mathlib.Omega.{arith}
use lib.ListN.{length, take, drop, length-drop}
use lib.Seq.{take_all}
use Rattle.rules.specs.Table.{span_of, inner, after}

-- n elements from a on, up to their end
pub part_slice : (p : List ℕ) (a n end : ℕ) → end ≡ a + n → take (end - a) (drop a p) ≡ take n (drop a p)
part_slice p a n end h = let e : end - a ≡ n = omega arith in rw e

pub rest_slice : (p : List ℕ) (off : ℕ) → take (length p - off) (drop off p) ≡ drop off p
rest_slice p off = take_all (length p - off) (drop off p) (omega (arith, length-drop off p))

module _ (p : List ℕ) (end : ℕ) (h : end ≡ 8 + 8 * span_of p) where
  pub inner_slice : take (end - 8) (drop 8 p) ≡ inner p
  unfolding inner
  inner_slice = part_slice p 8 (8 * span_of p) end h

  pub after_slice : take (length p - end) (drop end p) ≡ after p
  unfolding after
  after_slice = rest_slice p end ∙ ap (λ (n : ℕ). drop n p) h
