-- A walk over a list of lengths, four bytes each.
-- Assumes nothing.
use Prim.Native.Nat.{ℕ, ◌+◌, ◌*◌, ◌<◌}
use mathlib.Core.Path.{◌≡◌, refl}
use mathlib.Core.List.{List, ◌++◌}
use native.Mathlib.Nat.{add-zero}
use native.Mathlib.Omega.{arith}
use lib.ListN.{length}
use Rattle.fields.proofs.Chunks as C
use Rattle.rules.specs.Fields.{word}
use Rattle.rules.specs.Batch.{count, length_at}

-- what is left of the list l behind n lengths
pub record Left (l : List ℕ) (n : ℕ) (rest : List ℕ) (size : ℕ) : Type 0 where
  pub chunks : C.Left 4 l (4 * n) rest size

pub left_all : (l rest : List ℕ) (n size : ℕ) → n ≡ 0 → rest ≡ l → size ≡ 4 → Left l n rest size
left_all l rest n size z e f = record { chunks = C.left_all 4 l rest (4 * n) size (omega arith) e f }

module _ {l : List ℕ} {n : ℕ} {rest : List ℕ} {size : ℕ} (s : Left l n rest size) where
  pub left_none : length rest < size → n ≡ count l
  left_none h = let w = s.chunks.within in omega (arith, C.left_none s.chunks h)

  -- the next length x, and r behind it
  module _ (x r : List ℕ) (e : rest ≡ x ++ r) (f : length x ≡ size) where
    pub left_some : n < count l
    left_some = omega (arith, C.left_some s.chunks x r e f)

    pub left_word : word x 0 ≡ length_at l n
    left_word =
        let b = C.left_byte s.chunks x r e f in
        let a = 4 * n in
        rw (b 0 (a + 0) (omega arith) refl, b 1 (a + 1) (omega arith) refl, b 2 (a + 2) (omega arith) refl, b 3 (a + 3) (omega arith) refl, add-zero) refl

    pub left_next : {size' : ℕ} → size' ≡ size → Left l (n + 1) r size'
    left_next g = record { chunks = C.left_next s.chunks x r e f (4 * (n + 1)) (omega arith) g }
