-- The lines of a text and the text of a run: how they are spelt, and their lengths.
-- Assumes nothing.
use Prim.Native.Nat.{ℕ, ◌+◌, ◌*◌, ◌≤◌, ◌<◌}
use mathlib.Core.Path.{◌≡◌, refl}
use mathlib.Core.Bool.{true, false}
use mathlib.Core.List.{List, [], ◌++◌}
use native.Mathlib.Omega.{arith}
use native.Mathlib.Numerals.{add-one}
use lib.ListN.{length, length-append}
use borrow.Author.Tests.{eq-eqb, ne_eqb}
use Rattle.rules.specs.Fields.{signed}
use Rattle.rules.specs.State.{joined}
use Rattle.rules.specs.Run.{Started, start_on, Outcome, run_on}
use Rattle.rules.specs.Print.{line, line_at, lines, ending_line, refused_line, ends, run_text, start_text, text_on}
use Rattle.text.proofs.Words.{kind-length, ending-length}
use Rattle.text.proofs.Numbers.{decimal-length, value-length}

-- ---- lines

pub line-length : (k t v w : ℕ) → t < 65536 → v < 256 → w < 4294967296 → length (line k t v (signed w)) ≤ 30
unfolding line
line-length k t v w ht hv hw =
    simp length-append (omega (arith, kind-length k, decimal-length 4 t (omega arith), decimal-length 2 v (omega arith), value-length w hw))

pub ending-line-length : (n s : ℕ) → s < 4294967296 → length (ending_line n s) ≤ 30
unfolding ending_line
ending-line-length n s h = simp length-append (omega (arith, ending-length n, decimal-length 9 s (omega arith)))

pub refused-line-length : (n i : ℕ) → n < 4294967296 → i < 4294967296 → length (refused_line n i) ≤ 30
unfolding refused_line
refused-line-length n i h g = simp length-append (omega (arith, decimal-length 9 n (omega arith), decimal-length 9 i (omega arith)))

pub lines_none : (l : List ℕ) → lines l 0 ≡ []
unfolding joined
lines_none l = refl

pub lines_more : (l : List ℕ) (n : ℕ) → lines l (n + 1) ≡ lines l n ++ line_at l (8 * n)
unfolding joined
lines_more l n = rw (add-one n)

-- ---- runs

pub run-refused : (o : Outcome) → ends o.number ≡ false → run_text o ≡ refused_line o.number o.place
unfolding run_text
run-refused o h = rw h refl

pub run-ended : (o : Outcome) → ends o.number ≡ true → run_text o ≡ lines o.log o.records ++ ending_line o.number o.steps
unfolding run_text
run-ended o h = rw h refl

module _ (t b l : List ℕ) (s : Started) (e : s ≡ start_on t b) where
  pub start-refused : (s.number ≡ 0 → ⊥) → text_on t b l ≡ refused_line s.number s.place
  unfolding start_text
  start-refused h = rw (← e, ne_eqb s.number 0 h) refl

  pub start-runs : (o : Outcome) → s.number ≡ 0 → o ≡ run_on t s.block 10000 l → text_on t b l ≡ run_text o
  unfolding start_text
  start-runs o h g = rw (← e, eq-eqb s.number 0 h, ← g) refl
