-- What the check of a state block asks, as facts: it finds no fault exactly where they hold.
-- Assumes nothing.
use Prim.Native.Nat.{ℕ, zero, suc, ◌+◌, ◌-◌, ◌*◌, ◌/◌, ◌%◌, ◌≤◌, ◌<◌}
use mathlib.Core.Path.{◌≡◌, refl, sym, ◌∙◌}
use mathlib.Core.Bool.{Bool, true, ◌&&◌, cond}
use mathlib.Core.List.{List}
use mathlib.Core.Logic.{⊎_elim, dite}
use native.Mathlib.Omega.{arith}
use native.Mathlib.Decide.{dec_lt, ℕ_discrete}
use native.Mathlib.Nat.{eq-or-lt_of_le}
use native.Mathlib.Numerals.{add-one}
use lib.Dec.{eqb, leb}
use lib.ListN.{length}
use borrow.Author.Tests.{le-leb, lt-leb, leb-true, eq-eqb, eqb-true}
use Rattle.rules.specs.Fields.{half, word}
use Rattle.rules.specs.Table.{fine}
use Rattle.rules.specs.State.{issued_in, live_in, active_in, head_fits, number_in, place_in, unlike, task_fits, spawner_in, spawner_fits, history_fits, unused_fits, record_fits, check_records, check_block}
use Rattle.rules.proofs.Verdicts.{and_true, else_fine, cond-fine}

-- record 0
pub record HeadFit (b : List ℕ) : Type 0 where
  pub some-issued : 1 ≤ issued_in b
  pub few : live_in b ≤ 32
  pub active : active_in b ≤ cond (eqb (live_in b) 0) 0 1
  pub zeros : word b 4 ≡ 0

-- record i, a task's first; a task's second; unused
pub record UsedFit (place : ℕ → Bool) (b : List ℕ) (i : ℕ) : Type 0 where
  pub from_one : 1 ≤ number_in b i
  pub was_issued : number_in b i ≤ issued_in b
  pub new : unlike b (number_in b i) (i / 2) ≡ true
  pub placed : place (place_in b i) ≡ true

pub record HistoryFit (b : List ℕ) (i : ℕ) : Type 0 where
  pub spawner-fits : spawner_fits (number_in b (i - 1)) (spawner_in b i) ≡ true
  pub zeros : half b (8 * i + 2) ≡ 0

pub record UnusedFit (b : List ℕ) (i : ℕ) : Type 0 where
  pub front : word b (8 * i) ≡ 0
  pub back : word b (8 * i + 4) ≡ 0

pub record Accepted (place : ℕ → Bool) (b : List ℕ) : Type 0 where
  pub whole : length b ≡ 776
  pub head : HeadFit b
  pub used : (k : ℕ) → k < live_in b → UsedFit place b (2 * k + 1)
  pub histories : (k : ℕ) → k < live_in b → HistoryFit b (2 * k + 1 + 1)
  pub unused : (i : ℕ) → 2 * live_in b ≤ i → i < 64 → UnusedFit b (i + 1)
  pub enough : live_in b ≤ issued_in b

four : (p q s t : Bool) → (p && q && s && t) ≡ true → (p ≡ true) × (q ≡ true) × (s ≡ true) × (t ≡ true)
four p q s t h =
    let g = and_true (p && q && s) t h in
    let f = and_true (p && q) s g.0 in
    let e = and_true p q f.0 in
    (e.0, e.1, f.1, g.1)

pub head_facts : (b : List ℕ) → head_fits b ≡ true → HeadFit b
unfolding head_fits
head_facts b h =
    let f = four (leb 1 (issued_in b)) (leb (live_in b) 32) (leb (active_in b) (cond (eqb (live_in b) 0) 0 1)) (eqb (word b 4) 0) h in
    record { some-issued = leb-true _ _ f.0; few = leb-true _ _ f.1; active = leb-true _ _ f.2; zeros = eqb-true _ _ f.3 }

module _ (place : ℕ → Bool) (b : List ℕ) where
  -- ---- one record

  facts_head : HeadFit b → head_fits b ≡ true
  unfolding head_fits
  facts_head f = rw (le-leb _ _ f.some-issued, le-leb _ _ f.few, le-leb _ _ f.active, eq-eqb _ _ f.zeros)

  used_facts : (i : ℕ) → task_fits place b i ≡ true → UsedFit place b i
  unfolding task_fits
  used_facts i h =
      let f = four (leb 1 (number_in b i)) (leb (number_in b i) (issued_in b)) (unlike b (number_in b i) (i / 2)) (place (place_in b i)) h in
      record { from_one = leb-true _ _ f.0; was_issued = leb-true _ _ f.1; new = f.2; placed = f.3 }

  facts_used : (i : ℕ) → UsedFit place b i → task_fits place b i ≡ true
  unfolding task_fits
  facts_used i f = rw (le-leb _ _ f.from_one, le-leb _ _ f.was_issued, f.new, f.placed)

  history_facts : (i : ℕ) → history_fits b i ≡ true → HistoryFit b i
  unfolding history_fits
  history_facts i h =
      let f = and_true (spawner_fits (number_in b (i - 1)) (spawner_in b i)) (eqb (half b (8 * i + 2)) 0) h in
      record { spawner-fits = f.0; zeros = eqb-true _ _ f.1 }

  facts_history : (i : ℕ) → HistoryFit b i → history_fits b i ≡ true
  unfolding history_fits
  facts_history i f = rw (f.spawner-fits, eq-eqb _ _ f.zeros)

  unused-facts : (i : ℕ) → unused_fits b i ≡ true → UnusedFit b i
  unfolding unused_fits
  unused-facts i h =
      let f = and_true (eqb (word b (8 * i)) 0) (eqb (word b (8 * i + 4)) 0) h in
      record { front = eqb-true _ _ f.0; back = eqb-true _ _ f.1 }

  facts-unused : (i : ℕ) → UnusedFit b i → unused_fits b i ≡ true
  unfolding unused_fits
  facts-unused i f = rw (eq-eqb _ _ f.front, eq-eqb _ _ f.back)

  -- ---- all of them

  records_fit : (n i : ℕ) → check_records place b n i ≡ fine → (k : ℕ) → i ≤ k → k < i + n → record_fits place b k ≡ true
  unfolding check_records
  records_fit zero i h k g l = absurd (omega arith)
  records_fit (suc n) i h k g l =
      let f = cond-fine (record_fits place b i) _ 22 i h in
      ⊎_elim (λ e. rw (← e) f.0) (λ m. records_fit n (i + 1) f.1 k (omega arith) (omega arith)) (eq-or-lt_of_le {n = i} {m = k} g)

  fit_records : (n i : ℕ) → ((k : ℕ) → i ≤ k → k < i + n → record_fits place b k ≡ true) → check_records place b n i ≡ fine
  unfolding check_records
  fit_records zero i h = refl
  fit_records (suc n) i h = rw (h i (omega arith) (omega arith)) (fit_records n (i + 1) (λ k g l. h k (omega arith) (omega arith)))

  -- what is asked of the record behind i others: of a task's first, its second, an unused one
  first_asked : (i : ℕ) → i < 2 * live_in b → i % 2 ≡ 0 → record_fits place b (suc i) ≡ task_fits place b (suc i)
  unfolding record_fits
  first_asked i l e = rw (le-leb (suc i) (2 * live_in b) l, eq-eqb (i % 2) 0 e) refl

  second_asked : (i : ℕ) → i < 2 * live_in b → i % 2 ≡ 1 → record_fits place b (suc i) ≡ history_fits b (suc i)
  unfolding record_fits
  second_asked i l e = rw (le-leb (suc i) (2 * live_in b) l, e) refl

  unused-asked : (i : ℕ) → 2 * live_in b ≤ i → record_fits place b (suc i) ≡ unused_fits b (suc i)
  unfolding record_fits
  unused-asked i l = rw (lt-leb (suc i) (2 * live_in b) (omega arith)) refl

  pub accepted : check_block place b ≡ fine → Accepted place b
  unfolding check_block record_fits
  accepted h =
      let p = cond-fine (eqb (length b) 776) _ 21 0 h in
      let q = else_fine (check_records place b 65 0) _ p.1 in
      let each = records_fit 65 0 q.0 in
      let head = head_facts b (each 0 (omega arith) (omega arith)) in
      record {
        whole = eqb-true _ _ p.0;
        head = head;
        used = λ k l. rw (add-one (2 * k)) (used_facts (suc (2 * k)) (sym (first_asked (2 * k) (omega arith) (omega arith)) ∙ each (suc (2 * k)) (omega arith) (omega (arith, head.few))));
        histories = λ k l.
            rw (add-one (2 * k + 1)) (history_facts (suc (2 * k + 1)) (sym (second_asked (2 * k + 1) (omega arith) (omega arith)) ∙ each (suc (2 * k + 1)) (omega arith) (omega (arith, head.few))));
        unused = λ i g l. rw add-one (unused-facts (suc i) (sym (unused-asked i g) ∙ each (suc i) (omega arith) (omega arith)));
        enough = leb-true _ _ (cond-fine (leb (live_in b) (issued_in b)) fine 23 0 q.1).0;
      }

  pub checked : Accepted place b → check_block place b ≡ fine
  unfolding check_block record_fits
  checked f = rw (eq-eqb _ _ f.whole, fit_records 65 0 (λ k g l. each k l), le-leb _ _ f.enough)
    where
      -- record i + 1, of the task behind k others
      each-used : (i k : ℕ) → i < 2 * live_in b → k ≡ i / 2 → record_fits place b (suc i) ≡ true
      each-used i k l e =
          dite (ℕ_discrete (i % 2) 0)
          (λ m. let z : 2 * k + 1 ≡ suc i = omega arith in
          first_asked i l m ∙ facts_used (suc i) (rw z at (f.used k (omega arith))))
          (λ m. let z : 2 * k + 1 + 1 ≡ suc i = omega arith in
          second_asked i l (omega arith) ∙ facts_history (suc i) (rw z at (f.histories k (omega arith))))

      each : (i : ℕ) → i < 65 → record_fits place b i ≡ true
      each zero l = facts_head f.head
      each (suc i) l =
          dite (dec_lt i (2 * live_in b))
          (λ m. each-used i (i / 2) m refl)
          (λ m. unused-asked i (omega arith) ∙ facts-unused (suc i) (rw add-one at (f.unused i (omega arith) (omega arith))))
