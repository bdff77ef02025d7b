-- What the check of a state block finds, test by test and record by record.
-- Assumes nothing.
use Prim.Native.Nat.{ℕ, zero, suc, ◌+◌, ◌-◌, ◌*◌, ◌%◌, ◌≤◌, ◌<◌}
use mathlib.Core.Path.{◌≡◌, refl, sym}
use mathlib.Core.Bool.{Bool, true, false, ◌&&◌, cond, and-false, and-true}
use mathlib.Core.List.{List}
use native.Mathlib.Omega.{arith}
use native.Mathlib.Numerals.{add-one}
use lib.Dec.{eqb, leb}
use lib.ListN.{length}
use borrow.Author.Tests.{eq-eqb, ne_eqb, le-leb, lt-leb}
use Rattle.rules.specs.Fields.{word}
use Rattle.rules.specs.Table.{fine, fault}
use Rattle.rules.specs.State.{issued_in, live_in, head_fits, number_in, unlike, task_fits, history_fits, unused_fits, record_fits, check_records, check_block}

-- ---- a number among those of the first m tasks

module _ (b : List ℕ) (n : ℕ) where
  pub one_there : (k : ℕ) → number_in b (2 * k + 1) ≡ n → false ≡ unlike b n (k + 1)
  unfolding unlike
  one_there k e = rw (add-one k, eq-eqb (number_in b (2 * k + 1)) n e) (sym (and-false (unlike b n k)))

  pub one_other : (k : ℕ) → ¬ (number_in b (2 * k + 1) ≡ n) → unlike b n k ≡ unlike b n (k + 1)
  unfolding unlike
  one_other k g = rw (add-one k, ne_eqb (number_in b (2 * k + 1)) n g) (sym (and-true (unlike b n k)))

-- ---- one record

module _ (place : ℕ → Bool) (b : List ℕ) where
  pub record_zero : (i : ℕ) → i ≡ 0 → head_fits b ≡ record_fits place b i
  unfolding record_fits
  record_zero i h = rw h

  pub record_first : (i : ℕ) → ¬ (i ≡ 0) → i ≤ 2 * live_in b → i % 2 ≡ 1 → task_fits place b i ≡ record_fits place b i
  unfolding record_fits
  record_first zero h l e = absurd (h refl)
  record_first (suc i) h l e = rw (le-leb (suc i) (2 * live_in b) l, eq-eqb (i % 2) 0 (omega arith))

  pub record_second : (i : ℕ) → ¬ (i ≡ 0) → i ≤ 2 * live_in b → ¬ (i % 2 ≡ 1) → history_fits b i ≡ record_fits place b i
  unfolding record_fits
  record_second zero h l e = absurd (h refl)
  record_second (suc i) h l e = rw (le-leb (suc i) (2 * live_in b) l, ne_eqb (i % 2) 0 (λ z. e (omega arith)))

  -- low and high are the two words of a record that no task has
  pub record_unused : (i : ℕ) {at low high : ℕ} → ¬ (i ≡ 0) → 2 * live_in b < i → at ≡ 8 * i → low ≡ word b at → high ≡ word b (at + 4)
      → eqb low 0 && eqb high 0 ≡ record_fits place b i
  unfolding record_fits unused_fits
  record_unused zero h l e f g = absurd (h refl)
  record_unused (suc i) h l e f g = rw (lt-leb (suc i) (2 * live_in b) l, f, g, e)

  -- ---- the records from i on decide

  records-step : (i : ℕ) → i < 65
      → check_records place b (65 - i) i ≡ cond (record_fits place b i) (check_records place b (65 - (i + 1)) (i + 1)) (fault 22 i)
  unfolding check_records
  records-step i h = let e : 65 - i ≡ suc (65 - (i + 1)) = omega arith in rw e

  pub records-stop : (i : ℕ) → i < 65 → record_fits place b i ≡ false → fault 22 i ≡ check_records place b (65 - i) i
  records-stop i h e = rw (records-step i h, e)

  pub records_go : (i : ℕ) → i < 65 → record_fits place b i ≡ true
      → check_records place b (65 - (i + 1)) (i + 1) ≡ check_records place b (65 - i) i
  records_go i h e = rw (records-step i h, e)

  pub records-end : (i : ℕ) → 65 ≤ i → fine ≡ check_records place b (65 - i) i
  unfolding check_records
  records-end i h = let e : 65 - i ≡ 0 = omega arith in rw e

  -- ---- the whole block

  pub wrong_length : ¬ (length b ≡ 776) → fault 21 0 ≡ check_block place b
  unfolding check_block
  wrong_length h = rw (ne_eqb (length b) 776 h)

  module _ (l : length b ≡ 776) where
    pub records-fault : {n i : ℕ} → check_records place b 65 0 ≡ fault n i → fault n i ≡ check_block place b
    unfolding check_block
    records-fault h = rw (eq-eqb (length b) 776 l, h)

    pub numbers_decide : check_records place b 65 0 ≡ fine
        → cond (leb (live_in b) (issued_in b)) fine (fault 23 0) ≡ check_block place b
    unfolding check_block
    numbers_decide h = rw (eq-eqb (length b) 776 l, h)
