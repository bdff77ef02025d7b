-- A walk over a list by chunks of one width.
-- Assumes nothing.
use Prim.Native.Nat.{ℕ, ◌+◌, ◌≤◌, ◌<◌}
use mathlib.Core.Path.{◌≡◌, sym, ap, ◌∙◌}
use mathlib.Core.List.{List, ◌++◌}
use native.Mathlib.Omega.{arith}
use lib.ListN.{length, drop, get_or, length-append, length-drop, get_or-append}
use lib.Seq.{drop-drop, drop_at}
use Rattle.std.proofs.lemmas.List.{get_or-drop}

-- what an iterator over chunks of so many elements has left of the list l behind its first a
pub record Left (width : ℕ) (l : List ℕ) (a : ℕ) (rest : List ℕ) (size : ℕ) : Type 0 where
  pub sized : size ≡ width
  pub within : a ≤ length l
  pub behind : rest ≡ drop a l

pub left_all : (w : ℕ) (l rest : List ℕ) (a size : ℕ) → a ≡ 0 → rest ≡ l → size ≡ w → Left w l a rest size
left_all w l rest a size z e f = rw z record { sized = f; within = omega arith; behind = e }

module _ {w : ℕ} {l : List ℕ} {a : ℕ} {rest : List ℕ} {size : ℕ} (s : Left w l a rest size) where
  -- none is left where the rest is shorter than a chunk
  pub left_none : length rest < size → length l < a + w
  left_none h = omega (arith, s.sized, s.within, ap length s.behind, length-drop a l, h)

  -- the next chunk x, and r behind it
  module _ (x r : List ℕ) (e : rest ≡ x ++ r) (f : length x ≡ size) where
    here : drop a l ≡ x ++ r
    here = sym s.behind ∙ e

    pub left_some : a + w ≤ length l
    left_some = omega (arith, s.sized, s.within, f, ap length here, length-drop a l, simp length-append at (ap length here))

    pub left_byte : (k b : ℕ) → k < w → b ≡ a + k → get_or x k 0 ≡ get_or l b 0
    left_byte k b h g =
        rw g
        (sym (get_or-append x r 0 k (omega (arith, f, s.sized))) ∙ ap (λ (b : List ℕ). get_or b k 0) (sym here) ∙ get_or-drop a l k 0)

    pub left_next : (b : ℕ) {size' : ℕ} → b ≡ a + w → size' ≡ size → Left w l b r size'
    left_next b g h =
        rw g record {
          sized = h ∙ s.sized;
          within = left_some;
          behind = sym (drop_at x r w (f ∙ s.sized)) ∙ ap (drop w) (sym here) ∙ drop-drop w a l;
        }
