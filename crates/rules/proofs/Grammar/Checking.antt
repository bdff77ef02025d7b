-- Laws of checking: a record without a fault of its own, and each answer by the tests that lead to it.
-- Assumes nothing.
use Prim.Native.Nat.{ℕ, zero, suc, ◌+◌, ◌-◌, ◌*◌, ◌≤◌, ◌<◌}
use mathlib.Core.Path.{◌≡◌, refl, sym, ◌∙◌}
use mathlib.Core.Bool.{Bool, true, false, cond}
use mathlib.Core.List.{List, [], ◌∷◌}
use native.Mathlib.Omega.{arith}
use lib.Dec.{eqb}
use lib.ListN.{length, drop, length-take, length-drop}
use borrow.Author.Tests.{eq-eqb, ne_eqb, leb-true, eqb-true, ltb-true}
use Rattle.rules.specs.Table.{kind_of, span_of, inner, after, Encloses, nothing, statements, one_expression, expression_statements, two_expressions, kind_row, Sort, statement, expression, is_of, Ends, at_end, before_end, within, ends_fit, span_fits, span_right, name_right, value_right, record_fault, Verdict, fine, fault, ◌else◌, unless, enclosed, check_e, levels, first_row, rows_of, check_rows}
use Rattle.rules.proofs.Verdicts.{and_true, else_fine, cond-fine}

-- a record with no fault of its own
pub record Right (sort : Sort) (ends : Ends) (p : List ℕ) : Type 0 where
  pub due : is_of sort (kind_of p) ≡ true
  pub spans : span_right ends p ≡ true
  pub named : name_right p ≡ true
  pub valued : value_right p ≡ true

passed : (b : Bool) (x y : ℕ) → 0 < y → cond b x y ≡ 0 → (b ≡ true) × (x ≡ 0)
passed true x y h e = (refl, e)
passed false x y h e = absurd (omega arith)

pub right : (sort : Sort) (ends : Ends) (p : List ℕ) → record_fault sort ends p ≡ 0 → Right sort ends p
unfolding record_fault
right sort ends p e =
    let a = passed (is_of sort (kind_of p)) _ 12 (omega arith) e in
    let b = passed (span_right ends p) _ 13 (omega arith) a.1 in
    let c = passed (name_right p) _ 14 (omega arith) b.1 in
    let d = passed (value_right p) 0 15 (omega arith) c.1 in
    record { due = a.0; spans = b.0; named = c.0; valued = d.0 }

pub no_fault : (sort : Sort) (ends : Ends) (p : List ℕ) → Right sort ends p → record_fault sort ends p ≡ 0
unfolding record_fault
no_fault sort ends p g = rw (g.due, g.spans, g.named, g.valued)

-- what a record encloses lies within its part
pub ends-within : (ends : Ends) (e l : ℕ) → ends_fit ends e l ≡ true → e ≤ l
ends-within at_end e l h = omega (arith, eqb-true e l h)
ends-within before_end e l h = omega (arith, ltb-true e l h)
ends-within within e l h = leb-true e l h

pub right-ends : {sort : Sort} {ends : Ends} {p : List ℕ} → Right sort ends p → ends_fit ends (8 + 8 * span_of p) (length p) ≡ true
right-ends {sort} {ends} {p} g = (and_true (ends_fit ends (8 + 8 * span_of p) (length p)) _ g.spans).0

pub right-span : {sort : Sort} {ends : Ends} {p : List ℕ} → Right sort ends p → span_fits (kind_row (kind_of p)).encloses (span_of p) ≡ true
right-span {sort} {ends} {p} g = (and_true (ends_fit ends (8 + 8 * span_of p) (length p)) _ g.spans).1

pub right-whole : {sort : Sort} {ends : Ends} {p : List ℕ} → Right sort ends p → 8 + 8 * span_of p ≤ length p
right-whole {sort} {ends} {p} g = ends-within ends (8 + 8 * span_of p) (length p) (right-ends g)

pub length-inner : (p : List ℕ) → 8 + 8 * span_of p ≤ length p → length (inner p) ≡ 8 * span_of p
unfolding inner
length-inner p h = omega (arith, length-take (8 * span_of p) (drop 8 p), length-drop 8 p)

pub length-after : (p : List ℕ) → length (after p) ≡ length p - (8 + 8 * span_of p)
unfolding after
length-after p = length-drop (8 + 8 * span_of p) p

pub inner_le : (p : List ℕ) → length (inner p) ≤ length p - 8
unfolding inner
inner_le p = omega (arith, length-take (8 * span_of p) (drop 8 p), length-drop 8 p)

-- ---- the answers for an expression

pub unless_none : (n i : ℕ) (v : Verdict) → n ≡ 0 → unless n i v ≡ v
unless_none n i v h = rw (eq-eqb n 0 h)

pub unless-some : (n i : ℕ) (v : Verdict) → ¬ (n ≡ 0) → unless n i v ≡ fault n i
unless-some n i v h = rw (ne_eqb n 0 h)

-- no fault is said only where there is none
pub unless-fine : (n i : ℕ) (v : Verdict) → unless n i v ≡ fine → (n ≡ 0) × (v ≡ fine)
unless-fine n i v e = let a = cond-fine (eqb n 0) v n i e in (eqb-true n 0 a.0, a.1)

abbrev pub operands : ℕ → ℕ → List ℕ → Verdict
operands d i p = enclosed (check_e d) (λ j q. fine) (kind_row (kind_of p)).encloses i p

pub expression-fine : (d i : ℕ) (ends : Ends) (p : List ℕ) → check_e (suc d) i ends p ≡ fine → Right expression ends p × (operands d i p ≡ fine)
unfolding check_e
expression-fine d i ends p e = let a = unless-fine (record_fault expression ends p) i (operands d i p) e in (right expression ends p a.0, a.1)

pub expression-deep : (i : ℕ) (ends : Ends) (p : List ℕ) → ¬ (check_e 0 i ends p ≡ fine)
unfolding check_e
expression-deep i ends p e = let a = unless-fine (record_fault expression ends p) i (fault 16 i) e in let f = a.1 in let z : ◌≡◌ {A = ℕ} 0 1 = cc in omega arith

pub expression-passes : (d i : ℕ) (ends : Ends) (p : List ℕ) → Right expression ends p → operands d i p ≡ fine → check_e (suc d) i ends p ≡ fine
unfolding check_e
expression-passes d i ends p g e = unless_none (record_fault expression ends p) i (operands d i p) (no_fault expression ends p g) ∙ e

-- ---- rows: the bound on the bytes does not matter

Agree : (Sort → ℕ → ℕ → List ℕ → Verdict) → (Sort → ℕ → ℕ → List ℕ → Verdict) → List ℕ → Type 0
Agree f g p = (s : Sort) (d i : ℕ) (q : List ℕ) → length q < length p → f s d i q ≡ g s d i q

module _ (f g : Sort → ℕ → ℕ → List ℕ → Verdict) (p : List ℕ) (some : 0 < length p) (same : Agree f g p) where
  enclosed-same : (x : Encloses) (d i : ℕ) → enclosed (check_e d) (f statement d) x i p ≡ enclosed (check_e d) (g statement d) x i p
  unfolding Agree enclosed
  enclosed-same nothing d i = refl
  enclosed-same statements d i = same statement d (i + 1) (inner p) (omega (arith, inner_le p))
  enclosed-same one_expression d i = refl
  enclosed-same expression_statements d i = rw (same statement d (i + 2 + span_of (inner p)) (after (inner p)) (omega (arith, length-after (inner p), inner_le p)))
  enclosed-same two_expressions d i = refl

  levels-same : (s : Sort) (d i : ℕ) → levels f s d i p ≡ levels g s d i p
  unfolding Agree levels
  levels-same s zero i = refl
  levels-same s (suc d) i = rw (enclosed-same (kind_row (kind_of p)).encloses d i, same s (suc d) (i + 1 + span_of p) (after p) (omega (arith, length-after p)))

first-same : (f g : Sort → ℕ → ℕ → List ℕ → Verdict) (p : List ℕ) → Agree f g p → (s : Sort) (d i : ℕ) → first_row f s d i p ≡ first_row g s d i p
unfolding first_row
first-same f g [] same s d i = refl
first-same f g (x ∷ p) same s d i = rw (levels-same f g (x ∷ p) (omega arith) same s d i)

pub first-empty : (f : Sort → ℕ → ℕ → List ℕ → Verdict) (s : Sort) (d i : ℕ) (p : List ℕ) → length p ≡ 0 → first_row f s d i p ≡ fine
unfolding first_row
first-empty f s d i p h = rw (eq-eqb (length p) 0 h)

rows_same : (n m : ℕ) (s : Sort) (d i : ℕ) (p : List ℕ) → length p ≤ n → length p ≤ m → rows_of n s d i p ≡ rows_of m s d i p
unfolding rows_of Agree
rows_same zero zero s d i p h k = refl
rows_same zero (suc m) s d i p h k = sym (first-empty (rows_of m) s d i p (omega arith))
rows_same (suc n) zero s d i p h k = first-empty (rows_of n) s d i p (omega arith)
rows_same (suc n) (suc m) s d i p h k =
    first-same (rows_of n) (rows_of m) p (λ s' d' i' q l. rows_same n m s' d' i' q (omega arith) (omega arith)) s d i

-- a row, by its first record and the rows shorter than it
pub unfold_row : (s : Sort) (d i : ℕ) (p : List ℕ) → check_rows s d i p ≡ first_row check_rows s d i p
unfolding check_rows rows_of Agree
unfold_row s d i p =
    rows_same (length p) (suc (length p)) s d i p (omega arith) (omega arith)
    ∙ first-same (rows_of (length p)) check_rows p (λ s' d' i' q l. rows_same (length p) (length q) s' d' i' q (omega arith) (omega arith)) s d i

-- ---- the answers for a row

abbrev pub inside : ℕ → ℕ → List ℕ → Verdict
inside d i p = enclosed (check_e d) (check_rows statement d) (kind_row (kind_of p)).encloses i p

pub row-empty : (s : Sort) (d i : ℕ) (p : List ℕ) → length p ≡ 0 → check_rows s d i p ≡ fine
row-empty s d i p h = unfold_row s d i p ∙ first-empty check_rows s d i p h

module _ (s : Sort) (d i : ℕ) (p : List ℕ) (some : ¬ (length p ≡ 0)) where
  pub row-some : check_rows s d i p ≡ unless (record_fault s within p) i (levels check_rows s d i p)
  unfolding first_row
  row-some = rw (unfold_row s d i p, ne_eqb (length p) 0 some)

  pub row-fault : ¬ (record_fault s within p ≡ 0) → check_rows s d i p ≡ fault (record_fault s within p) i
  row-fault h = row-some ∙ unless-some (record_fault s within p) i _ h

pub row-deep : (s : Sort) (i : ℕ) (p : List ℕ) → ¬ (length p ≡ 0) → record_fault s within p ≡ 0 → check_rows s 0 i p ≡ fault 16 i
unfolding levels
row-deep s i p some h = row-some s 0 i p some ∙ unless_none (record_fault s within p) i (fault 16 i) h

pub row_step : (s : Sort) (d i : ℕ) (p : List ℕ) → ¬ (length p ≡ 0) → record_fault s within p ≡ 0
    → check_rows s (suc d) i p ≡ (inside d i p else check_rows s (suc d) (i + 1 + span_of p) (after p))
unfolding levels
row_step s d i p some h = row-some s (suc d) i p some ∙ unless_none (record_fault s within p) i _ h

-- what a row that passes has
pub record Passed (s : Sort) (d i : ℕ) (p : List ℕ) : Type 0 where
  pub own : Right s within p
  pub first_fine : inside d i p ≡ fine
  pub rest-fine : check_rows s (suc d) (i + 1 + span_of p) (after p) ≡ fine

pub row_fine : (s : Sort) (d i : ℕ) (p : List ℕ) → ¬ (length p ≡ 0) → check_rows s (suc d) i p ≡ fine → Passed s d i p
unfolding levels
row_fine s d i p some e =
    let a = unless-fine (record_fault s within p) i _ (sym (row-some s (suc d) i p some) ∙ e) in
    let b = else_fine (inside d i p) _ a.1 in
    record { own = right s within p a.0; first_fine = b.0; rest-fine = b.1 }

pub row-not-deep : (s : Sort) (i : ℕ) (p : List ℕ) → ¬ (length p ≡ 0) → ¬ (check_rows s 0 i p ≡ fine)
unfolding levels
row-not-deep s i p some e =
    let a = unless-fine (record_fault s within p) i (fault 16 i) (sym (row-some s 0 i p some) ∙ e) in
    let f = a.1 in let z : ◌≡◌ {A = ℕ} 0 1 = cc in omega arith

pub row-passes : (s : Sort) (d i : ℕ) (p : List ℕ) → ¬ (length p ≡ 0) → Right s within p → inside d i p ≡ fine
    → check_rows s (suc d) (i + 1 + span_of p) (after p) ≡ fine → check_rows s (suc d) i p ≡ fine
row-passes s d i p some g f e = row_step s d i p some (no_fault s within p g) ∙ rw (f, e) refl
