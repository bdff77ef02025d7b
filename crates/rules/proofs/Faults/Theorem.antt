-- "the earliest faulty record decides, and within it 12 to 16 in order; 17 only when all records pass, at the earliest such spawn. Then 21, 22, 23."
-- Assumes nothing.
use Prim.Native.Nat.{ℕ, zero, suc, ◌+◌, ◌*◌, ◌%◌, ◌≤◌, ◌<◌}
use mathlib.Core.Path.{◌≡◌, refl, sym, ap, ◌∙◌, subst}
use mathlib.Core.Bool.{Bool, true, false, not, ◌&&◌, cond, true≢false}
use mathlib.Core.List.{List}
use mathlib.Core.Logic.{inl, inr, ⊎_elim, dite}
use native.Mathlib.Omega.{arith}
use native.Mathlib.Decide.{dec_le, ℕ_discrete}
use native.Mathlib.Nat.{eq-or-lt_of_le}
use lib.Dec.{eqb, leb}
use lib.IntN.{nat_abs}
use lib.ListN.{length, get_or, take, drop, length-drop}
use lib.Seq.{get_or-take, get_or-drop, drop-drop}
use borrow.Author.Tests.{eqb-true, eqb-false, eq-eqb, le-leb, leb-true, not-true, not-false}
use Rattle.rules.specs.Table.{procedure, Verdict, fine, fault, ◌else◌, check_rows, names_none, check_spawns, procedures, records, length_fits, check}
use Rattle.rules.specs.State.{live_in, issued_in, record_fits, check_records, check_block}
use Rattle.rules.specs.Faults.{kind_at, value_at, standing, broken, Unnamed, Earliest, EarliestSpawn, WrongLength, EarliestDecides, EarliestState}
use Rattle.rules.proofs.Verdicts.{and_true, else_fine, cond-fine}
use Rattle.rules.proofs.Grammar.Theorem.{length-fits}
use Rattle.rules.proofs.Faults.Rules.{First, first_now, first_later, rule, breaks_none, breaks-first, PartOf, kind_of_lem, value_of_lem}
use Rattle.rules.proofs.Faults.Telling.{Told, Tells, tells_all, table-tells}
use Rattle.rules.proofs.Faults.Local.{rule-same}

-- ---- the spawns

-- the records behind record i
rest : (t : List ℕ) (i : ℕ) → drop 8 (drop (8 * i) t) ≡ drop (8 * (i + 1)) t
rest t i = let e : 8 * i + 8 ≡ 8 * (i + 1) = omega arith in rw (drop-drop 8 (8 * i) t, e)

module _ (t : List ℕ) (n : ℕ) where
  spawns-first : (k i m j : ℕ) → check_spawns k n i (drop (8 * i) t) ≡ fault m j → (m ≡ 17) × First k i (λ h. names_none n (drop (8 * h) t)) j
  unfolding check_spawns
  spawns-first zero i m j e = absurd (let z : ◌≡◌ {A = ℕ} 0 1 = cc in omega arith)
  spawns-first (suc k) i m j e =
      go (names_none n (drop (8 * i) t)) refl (rw (rest t i) at e) (spawns-first k (i + 1) m j)
    where
      go : (x : Bool) → names_none n (drop (8 * i) t) ≡ x → cond x (fault 17 i) (check_spawns k n (i + 1) (drop (8 * (i + 1)) t)) ≡ fault m j
          → (check_spawns k n (i + 1) (drop (8 * (i + 1)) t) ≡ fault m j → (m ≡ 17) × First k (i + 1) (λ h. names_none n (drop (8 * h) t)) j)
          → (m ≡ 17) × First (suc k) i (λ h. names_none n (drop (8 * h) t)) j
      go true h e ih = let a : 17 ≡ m = cc in let b : i ≡ j = cc in (sym a, rw (← b) (first_now k i (λ h. names_none n (drop (8 * h) t)) h))
      go false h e ih = let r = ih e in (r.0, first_later k i (λ h. names_none n (drop (8 * h) t)) j h r.1)

  spawns_none : (k i : ℕ) → check_spawns k n i (drop (8 * i) t) ≡ fine → (j : ℕ) → i ≤ j → j < i + k → names_none n (drop (8 * j) t) ≡ false
  unfolding check_spawns
  spawns_none zero i e j a b = absurd (omega arith)
  spawns_none (suc k) i e j a b = go (names_none n (drop (8 * i) t)) refl (rw (rest t i) at e) (spawns_none k (i + 1))
    where
      go : (x : Bool) → names_none n (drop (8 * i) t) ≡ x → cond x (fault 17 i) (check_spawns k n (i + 1) (drop (8 * (i + 1)) t)) ≡ fine
          → (check_spawns k n (i + 1) (drop (8 * (i + 1)) t) ≡ fine → (j : ℕ) → i + 1 ≤ j → j < i + 1 + k → names_none n (drop (8 * j) t) ≡ false)
          → names_none n (drop (8 * j) t) ≡ false
      go true h e ih = absurd (let z : ◌≡◌ {A = ℕ} 0 1 = cc in omega arith)
      go false h e ih = ⊎_elim (λ z. rw (← z) h) (λ l. ih e j (omega arith) (omega arith)) (eq-or-lt_of_le {n = i} {m = j} a)

-- ---- the table

-- which check says it
data Said (t : List ℕ) (n i : ℕ) : Type 0 where
  of_length : length_fits (length t) ≡ false → n ≡ 11 → i ≡ 0 → Said t n i
  of_record : length_fits (length t) ≡ true → check_rows procedure 17 0 t ≡ fault n i → Said t n i
  of_spawn : length_fits (length t) ≡ true → check_rows procedure 17 0 t ≡ fine → check_spawns (records t) (procedures (records t) t) 0 t ≡ fault n i → Said t n i

said : (t : List ℕ) (n i : ℕ) → check t ≡ fault n i → Said t n i
unfolding check
said t n i e = go (length_fits (length t)) refl (check_rows procedure 17 0 t) refl e
  where
    go : (x : Bool) → length_fits (length t) ≡ x → (v : Verdict) → check_rows procedure 17 0 t ≡ v
        → cond x (v else check_spawns (records t) (procedures (records t) t) 0 t) (fault 11 0) ≡ fault n i → Said t n i
    go false h v g e = of_length h (let z : 11 ≡ n = cc in sym z) (let z : 0 ≡ i = cc in sym z)
    go true h fine g e = of_spawn h g e
    go true h (fault m j) g e = of_record h (g ∙ e)

module _ (t : List ℕ) (fits : length_fits (length t) ≡ true) where
  told : (n i : ℕ) → check_rows procedure 17 0 t ≡ fault n i → Told (rule t) 0 (records t) n i
  told n i e = subst (Tells (rule t) 0 (records t) (records t)) e (table-tells t fits)

  all_pass : check_rows procedure 17 0 t ≡ fine → (j : ℕ) → j < records t → rule t j ≡ 0
  all_pass e j h = subst (Tells (rule t) 0 (records t) (records t)) e (table-tells t fits) j (omega arith) h

  -- the records behind i do not count
  nothing_behind : (n i : ℕ) → Told (rule t) 0 (records t) n i → (t' : List ℕ) → length t' ≡ length t → take (8 * (i + 1)) t' ≡ take (8 * (i + 1)) t → check t' ≡ fault n i
  unfolding check
  nothing_behind n i w t' l e = rw (fits', rows) refl
    where
      fits' : length_fits (length t') ≡ true
      fits' = rw l fits

      bytes : (k : ℕ) → k < 8 * (i + 1) → get_or t' k 0 ≡ get_or t k 0
      bytes k h = sym (get_or-take (8 * (i + 1)) t' k 0 h) ∙ ap (λ (x : List ℕ). get_or x k 0) e ∙ get_or-take (8 * (i + 1)) t k 0 h

      same : (j : ℕ) → j ≤ i → rule t' j ≡ rule t j
      same = rule-same t t' i bytes l

      rows : check_rows procedure 17 0 t' ≡ fault n i
      rows =
          let b : i < records t' = rw l w.below in
          tells_all (rule t') (records t') i (check_rows procedure 17 0 t') (table-tells t' fits') b
          (λ z. w.some (sym w.is ∙ sym (same i (omega arith)) ∙ z)) (λ k h. same k (omega arith) ∙ w.before k (omega arith) h)
          ∙ ap (λ (x : ℕ). fault x i) (same i (omega arith) ∙ w.is)

  a_record : (n i : ℕ) → check_rows procedure 17 0 t ≡ fault n i → Earliest t n i
  a_record n i e =
      let w = told n i e in
      let r = breaks-first t i (standing t i) n w.is w.some in
      record {
        there = w.below;
        before = λ j m h. breaks_none t j (standing t j) (w.before j (omega arith) h) m;
        breaks_it = r.1;
        in_order = r.2;
        nothing_behind = nothing_behind n i w;
      }

  -- record j at the start of what is left of the table
  left : (j : ℕ) → PartOf t j (records t) (drop (8 * j) t)
  left j = record { size = omega (arith, length-drop (8 * j) t, (length-fits (length t) fits).aligned); same = λ k h. get_or-drop (8 * j) t k 0 }

  names_none_lem : (j : ℕ) → j < records t → names_none (procedures (records t) t) (drop (8 * j) t) ≡ (eqb (kind_at t j) 6 && leb (procedures (records t) t) (nat_abs (value_at t j)))
  names_none_lem j h = rw (kind_of_lem (left j) h, value_of_lem (left j) h) refl

  a_spawn : (i : ℕ) → check_rows procedure 17 0 t ≡ fine → check_spawns (records t) (procedures (records t) t) 0 t ≡ fault 17 i → EarliestSpawn t i
  a_spawn i e g =
      let n = procedures (records t) t in
      let r = (spawns-first t n (records t) 0 17 i g).1 in
      let there : i < records t = omega (arith, r.below) in
      let a = and_true (eqb (kind_at t i) 6) (leb n (nat_abs (value_at t i))) (sym (names_none_lem i there) ∙ r.holds) in
      record {
        there = there;
        all_pass = λ j m h. breaks_none t j (standing t j) (all_pass e j h) m;
        unnamed = (eqb-true (kind_at t i) 6 a.0, leb-true n (nat_abs (value_at t i)) a.1);
        before = λ j h u.
            true≢false (sym (rw (eq-eqb (kind_at t j) 6 u.0, le-leb n (nat_abs (value_at t j)) u.1) refl) ∙ sym (names_none_lem j (omega arith)) ∙ r.least j (omega arith) h);
      }

wrong_length : (l : ℕ) → length_fits l ≡ false → WrongLength l
wrong_length l h =
    dite (ℕ_discrete l 0) inl
    (λ some.
    dite (ℕ_discrete (l % 8) 0)
    (λ e. dite (dec_le l 32768)
    (λ few. absurd (true≢false (sym (rw (le-leb 1 l (omega arith), eq-eqb (l % 8) 0 e, le-leb l 32768 few) refl) ∙ h)))
    (λ many. inr (inr (omega arith))))
    (λ odd. inr (inl odd)))

-- an accepted table has no fault
passes : (t : List ℕ) → check t ≡ fine → (j : ℕ) → j < records t → ((m : ℕ) → broken t j m ≡ false) × (¬ Unnamed t j)
unfolding check
passes t e j h =
    let a = cond-fine (length_fits (length t)) _ 11 0 e in
    let b = else_fine (check_rows procedure 17 0 t) _ a.1 in
    let n = procedures (records t) t in (
      breaks_none t j (standing t j) (all_pass t a.0 b.0 j h),
      λ u.
          true≢false (sym (rw (eq-eqb (kind_at t j) 6 u.0, le-leb n (nat_abs (value_at t j)) u.1) refl) ∙ sym (names_none_lem t a.0 j h) ∙ spawns_none t n (records t) 0 b.1 j (omega arith) (omega arith)),
    )

pub earliest_decides : (t : List ℕ) → EarliestDecides t
earliest_decides t = record {
  a_length = λ i e. size i (said t 11 i e);
  a_rule = λ n i e l m. rules n i l m (said t n i e);
  a_spawn = λ i e. spawns i (said t 17 i e);
  no_fault = passes t;
}
  where
    size : (i : ℕ) → Said t 11 i → (i ≡ 0) × WrongLength (length t)
    size i (of_length f h g) = (g, wrong_length (length t) f)
    size i (of_record f h) =
        let w = told t f 11 i h in
        absurd (omega (arith, (breaks-first t i (standing t i) 11 w.is w.some).3))
    size i (of_spawn f g h) = absurd (omega (arith, (spawns-first t (procedures (records t) t) (records t) 0 11 i h).0))

    rules : (n i : ℕ) → 12 ≤ n → n ≤ 16 → Said t n i → Earliest t n i
    rules n i l m (of_length f h g) = absurd (omega arith)
    rules n i l m (of_record f h) = a_record t f n i h
    rules n i l m (of_spawn f g h) = absurd (omega (arith, (spawns-first t (procedures (records t) t) (records t) 0 n i h).0))

    spawns : (i : ℕ) → Said t 17 i → EarliestSpawn t i
    spawns i (of_length f h g) = absurd (omega arith)
    spawns i (of_record f h) =
        let w = told t f 17 i h in
        absurd (omega (arith, (breaks-first t i (standing t i) 17 w.is w.some).0))
    spawns i (of_spawn f g h) = a_spawn t f i g h

-- ---- the state block

module _ (place : ℕ → Bool) (b : List ℕ) where
  records-first : (n i m j : ℕ) → check_records place b n i ≡ fault m j → (m ≡ 22) × First n i (λ k. not (record_fits place b k)) j
  unfolding check_records
  records-first zero i m j e = absurd (let z : ◌≡◌ {A = ℕ} 0 1 = cc in omega arith)
  records-first (suc n) i m j e = go (record_fits place b i) refl e (records-first n (i + 1) m j)
    where
      go : (x : Bool) → record_fits place b i ≡ x → cond x (check_records place b n (i + 1)) (fault 22 i) ≡ fault m j
          → (check_records place b n (i + 1) ≡ fault m j → (m ≡ 22) × First n (i + 1) (λ k. not (record_fits place b k)) j)
          → (m ≡ 22) × First (suc n) i (λ k. not (record_fits place b k)) j
      go true h e ih = let r = ih e in (r.0, first_later n i (λ k. not (record_fits place b k)) j (rw h refl) r.1)
      go false h e ih = let x : 22 ≡ m = cc in let y : i ≡ j = cc in (sym x, rw (← y) (first_now n i (λ k. not (record_fits place b k)) (rw h refl)))

  -- which check says it
  data SaidB (n i : ℕ) : Type 0 where
    of_block_lem : n ≡ 21 → i ≡ 0 → ¬ (length b ≡ 776) → SaidB n i
    of_state : check_records place b 65 0 ≡ fault n i → SaidB n i
    of_numbers : n ≡ 23 → SaidB n i

  said_b : (n i : ℕ) → check_block place b ≡ fault n i → SaidB n i
  unfolding check_block
  said_b n i e = go (eqb (length b) 776) refl (check_records place b 65 0) refl (leb (live_in b) (issued_in b)) e
    where
      go : (x : Bool) → eqb (length b) 776 ≡ x → (v : Verdict) → check_records place b 65 0 ≡ v → (y : Bool)
          → cond x (v else cond y fine (fault 23 0)) (fault 21 0) ≡ fault n i → SaidB n i
      go false h v g y e = of_block_lem (let z : 21 ≡ n = cc in sym z) (let z : 0 ≡ i = cc in sym z) (eqb-false (length b) 776 h)
      go true h (fault m j) g y e = of_state (g ∙ e)
      go true h fine g false e = of_numbers (let z : 23 ≡ n = cc in sym z)
      go true h fine g true e = absurd (let z : ◌≡◌ {A = ℕ} 0 1 = cc in omega arith)

  pub earliest_state : EarliestState place b
  earliest_state = record { a_record = λ i e. records i (said_b 22 i e); a_length = λ i e. size i (said_b 21 i e) }
    where
      records : (i : ℕ) → SaidB 22 i → (i < 65) × ((j : ℕ) → j < i → record_fits place b j ≡ true) × (record_fits place b i ≡ false)
      records i (of_block_lem h g f) = absurd (omega arith)
      records i (of_state h) =
          let r = (records-first 65 0 22 i h).1 in
          (omega (arith, r.below), λ j l. not-false (record_fits place b j) (r.least j (omega arith) l), not-true (record_fits place b i) r.holds)
      records i (of_numbers h) = absurd (omega arith)

      size : (i : ℕ) → SaidB 21 i → (i ≡ 0) × (¬ (length b ≡ 776))
      size i (of_block_lem h g f) = (g, f)
      size i (of_state h) = absurd (omega (arith, (records-first 65 0 21 i h).0))
      size i (of_numbers h) = absurd (omega arith)
