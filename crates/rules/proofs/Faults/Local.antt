-- Where a record stands and which rules it breaks there is said by the bytes up to its own last and by the table's length.
-- Assumes nothing.
use Prim.Native.Nat.{ℕ, zero, suc, ◌+◌, ◌*◌, ◌≤◌, ◌<◌}
use mathlib.Core.Path.{◌≡◌, refl, sym, ap, ◌∙◌}
use mathlib.Core.Bool.{cond}
use mathlib.Core.List.{List}
use mathlib.Core.Logic.{⊎_elim, dite}
use native.Mathlib.Omega.{arith}
use native.Mathlib.Decide.{dec_lt}
use native.Mathlib.Nat.{eq-or-lt_of_le}
use lib.Dec.{ltb}
use lib.ListN.{length, get_or}
use borrow.Author.Tests.{lt-ltb, le-ltb}
use Rattle.rules.specs.Table.{Encloses, nothing, statements, one_expression, expression_statements, two_expressions, kind_row, records}
use Rattle.rules.specs.Faults.{kind_at, end_at, Due, test, first, last, Stand, under, inside, find, standing, breaks}
use Rattle.rules.proofs.Faults.Rules.{first_broken, rule, broken-same}
use Rattle.rules.proofs.Faults.Telling.{find-here, find-behind, find-inside}

-- two tables with the same records up to m
module _ (t t' : List ℕ) (m : ℕ) (same : (k : ℕ) → k < 8 * (m + 1) → get_or t' k 0 ≡ get_or t k 0) where
  same_end : (i : ℕ) → i ≤ m → end_at t' i ≡ end_at t i
  same_end i h = rw (same (8 * i + 2) (omega arith), same (8 * i + 2 + 1) (omega arith)) refl

  same-under : (i : ℕ) (s : Stand) (x : Due) → i ≤ m → under t' i s x ≡ under t i s x
  same-under i s x h = λ z. record { due = x; end = same_end i h z; depth = s.depth + 1 }

  module _ (n i j : ℕ) (s : Stand) (below : i < j) (most : j ≤ m) (ih : (k : ℕ) (x : Stand) → k ≤ j → find n t' k x j ≡ find n t k x j) where
    under_same : (k : ℕ) (x : Due) → k ≤ j → find n t' k (under t' i s x) j ≡ find n t k (under t i s x) j
    under_same k x h = ap (λ (y : Stand). find n t' k y j) (same-under i s x (omega arith)) ∙ ih k (under t i s x) h

    either_same : (x y : Due)
        → cond (ltb j (end_at t' (i + 1))) (find n t' (i + 1) (under t' i s x) j) (find n t' (end_at t' (i + 1)) (under t' i s y) j)
        ≡ cond (ltb j (end_at t (i + 1))) (find n t (i + 1) (under t i s x) j) (find n t (end_at t (i + 1)) (under t i s y) j)
    either_same x y =
        rw (same_end (i + 1) (omega arith))
        (dite (dec_lt j (end_at t (i + 1)))
        (λ l. rw (lt-ltb j (end_at t (i + 1)) l) (under_same (i + 1) x (omega arith)))
        (λ l. rw (le-ltb j (end_at t (i + 1)) (omega arith)) (under_same (end_at t (i + 1)) y (omega arith))))

    inside-same : (x : Encloses) → inside (λ k y. find n t' k y j) x t' i s j ≡ inside (λ k y. find n t k y j) x t i s j
    unfolding inside
    inside-same nothing = refl
    inside-same statements = under_same (i + 1) Due.statement (omega arith)
    inside-same one_expression = under_same (i + 1) last (omega arith)
    inside-same expression_statements = either_same test Due.statement
    inside-same two_expressions = either_same first last

    behind-same : end_at t i ≤ j → find (suc n) t' i s j ≡ find (suc n) t i s j
    behind-same h =
        let e = same_end i (omega arith) in
        find-behind n t' i s j (omega arith) ∙ ap (λ (k : ℕ). find n t' k s j) e ∙ ih (end_at t i) s h ∙ sym (find-behind n t i s j h)

    within_same : j < end_at t i → find (suc n) t' i s j ≡ find (suc n) t i s j
    within_same h =
        let e = same_end i (omega arith) in
        find-inside n t' i s j below (omega arith) ∙ inside-same (kind_row (kind_at t' i)).encloses
        ∙ ap (λ (k : ℕ). inside (λ k y. find n t k y j) (kind_row k).encloses t i s j) (same (8 * i) (omega arith)) ∙ sym (find-inside n t i s j below h)

  find-same : (n i j : ℕ) (s : Stand) → i ≤ j → j ≤ m → find n t' i s j ≡ find n t i s j
  unfolding find
  find-same zero i j s h l = refl
  find-same (suc n) i j s h l =
      ⊎_elim
      (λ e. ap (find (suc n) t' i s) (sym e) ∙ find-here n t' i s ∙ sym (find-here n t i s) ∙ ap (find (suc n) t i s) e)
      (λ b.
      let ih : (k : ℕ) (x : Stand) → k ≤ j → find n t' k x j ≡ find n t k x j = λ k x g. find-same n k j x g l in
      dite (dec_lt j (end_at t i)) (within_same n i j s b l ih) (λ g. behind-same n i j s b l ih (omega arith)))
      (eq-or-lt_of_le {n = i} {m = j} h)

  module _ (long : length t' ≡ length t) where
    standing-same : (j : ℕ) → j ≤ m → standing t' j ≡ standing t j
    unfolding standing
    standing-same j h = rw long (find-same (records t) 0 j (record { due = Due.procedure; end = records t; depth = 0 }) (omega arith) h)

    breaks-same : (j n : ℕ) (s : Stand) → j ≤ m → breaks t' j s n ≡ breaks t j s n
    unfolding breaks
    breaks-same j n s h =
        rw (same (8 * j) (omega arith), same (8 * j + 1) (omega arith), same (8 * j + 2) (omega arith), same (8 * j + 2 + 1) (omega arith), same (8 * j + 4) (omega arith), same (8 * j + 4 + 1) (omega arith), same (8 * j + 4 + 2) (omega arith), same (8 * j + 4 + 3) (omega arith)) refl

    -- which is the first that a record up to m breaks
    pub rule-same : (j : ℕ) → j ≤ m → rule t' j ≡ rule t j
    rule-same j h = ap (first_broken t' j) (standing-same j h) ∙ broken-same t t' j (standing t j) (λ n. breaks-same j n (standing t j) h)
