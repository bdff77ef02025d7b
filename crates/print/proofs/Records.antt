-- A walk over the records of a log, eight bytes each.
-- Assumes nothing.
use Prim.Native.Nat.{ℕ, ◌+◌, ◌*◌, ◌<◌}
use mathlib.Core.Path.{◌≡◌, refl}
use mathlib.Core.List.{List, ◌++◌}
use native.Mathlib.Omega.{arith}
use lib.ListN.{length}
use Rattle.fields.proofs.Chunks as C
use Rattle.rules.specs.Print.{line_at}

-- what is left of the log l behind n records
pub record Left (l : List ℕ) (n : ℕ) (rest : List ℕ) (size : ℕ) : Type 0 where
  pub chunks : C.Left 8 l (8 * n) rest size

pub left_all : (l rest : List ℕ) (size : ℕ) → rest ≡ l → size ≡ 8 → Left l 0 rest size
left_all l rest size e f = record { chunks = C.left_all 8 l rest (8 * 0) size refl e f }

module _ {l : List ℕ} {n : ℕ} {rest : List ℕ} {size : ℕ} (s : Left l n rest size) where
  pub left_none : length rest < size → length l < 8 * n + 8
  left_none h = C.left_none s.chunks h

  -- the next record x, and r behind it
  module _ (x r : List ℕ) (e : rest ≡ x ++ r) (f : length x ≡ size) where
    pub left-line : line_at x 0 ≡ line_at l (8 * n)
    left-line =
        let b = C.left_byte s.chunks x r e f in
        let a = 8 * n in
        rw (
          b 0 a (omega arith) (omega arith),
          b 1 (a + 1) (omega arith) refl,
          b 2 (a + 2) (omega arith) refl,
          b 3 (a + 2 + 1) (omega arith) (omega arith),
          b 4 (a + 4) (omega arith) refl,
          b 5 (a + 4 + 1) (omega arith) (omega arith),
          b 6 (a + 4 + 2) (omega arith) (omega arith),
          b 7 (a + 4 + 3) (omega arith) (omega arith),
        )
        refl

    pub left_next : {size' : ℕ} → size' ≡ size → Left l (n + 1) r size'
    left_next g = record { chunks = C.left_next s.chunks x r e f (8 * (n + 1)) (omega arith) g }
