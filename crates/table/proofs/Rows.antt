-- The check of a row, record by record: its head, the statements that it encloses, and the rest of the row.
-- Assumes nothing.
use Prim.Native.Nat.{ℕ, zero, suc, ◌+◌, ◌-◌, ◌*◌, ◌≤◌, ◌<◌}
use mathlib.Core.Path.{◌≡◌, refl, sym, ap, ◌∙◌}
use mathlib.Core.List.{List}
use native.Mathlib.Omega.{arith}
use native.Mathlib.Numerals.{sub-one}
use native.Mathlib.Decide.{ℕ_discrete}
use lib.ListN.{length, drop, length-drop}
use lib.Seq.{drop-drop}
use borrow.Author.Tests.{leb-true, eqb-true}
use Rattle.rules.specs.Table as T
use Rattle.rules.specs.Table.{Encloses, nothing, one_expression, expression_statements, two_expressions, kind_of, span_of, inner, after, kind_row, is_of, Sort, Ends, at_end, within, record_fault, Verdict, fine, fault, ◌else◌, enclosed, check_e, check_rows}
use Rattle.rules.proofs.Grammar.Checking.{Right, right, right-whole, right-span, row-empty, row-fault, row-deep, row_step, length-inner, length-after}
use Rattle.rules.proofs.Grammar.Accepting.{right_of}
use Rattle.table.specs.declared.check.Encloses as E
use Rattle.table.specs.declared.check.Encloses.TheVariants.{Nothing, Statements, OneExpression, ExpressionStatements, TwoExpressions}
use Rattle.table.specs.Check.{encloses_of, Row, Part, OfRow, enclosing, expr_inside, head_of}
use Rattle.table.proofs.Numbered.{never_two}
use Rattle.table.proofs.Expressions.{level_own, level_none, level_below}

-- the statements that a record encloses
unfoldable pub inside_of : Encloses → (d i : ℕ) → List ℕ → Verdict
inside_of nothing d i p = fine
inside_of Encloses.statements d i p = check_rows T.statement d (i + 1) (inner p)
inside_of one_expression d i p = fine
inside_of expression_statements d i p = check_rows T.statement d (i + 2 + span_of (inner p)) (after (inner p))
inside_of two_expressions d i p = fine

-- what a record encloses is its expression, then its statements
split : (x : Encloses) (d i : ℕ) (p : List ℕ) → ¬ (x ≡ two_expressions) → enclosed (check_e d) (check_rows T.statement d) x i p ≡ (expr_inside x d i p else inside_of x d i p)
unfolding enclosed expr_inside inside_of
split nothing d i p n = refl
split Encloses.statements d i p n = refl
split one_expression d i p n = go (check_e d (i + 1) at_end (inner p))
  where
    go : (v : Verdict) → v ≡ (v else fine)
    go fine = refl
    go (fault m j) = refl
split expression_statements d i p n = refl
split two_expressions d i p n = absurd (n refl)

else_assoc : (u v w : Verdict) → ((u else v) else w) ≡ (u else (v else w))
else_assoc fine v w = refl
else_assoc (fault n i) v w = refl

-- ---- the head

module _ (s : Sort) (d i : ℕ) (p : List ℕ) where
  pub head_own : ¬ (record_fault s within p ≡ 0) → fault (record_fault s within p) i ≡ head_of s d i p
  unfolding head_of
  head_own h = level_own _ d i _ h

  pub head_none : record_fault s within p ≡ 0 → d ≡ 0 → fault 16 i ≡ head_of s d i p
  unfolding head_of
  head_none h e = level_none _ d i _ h e

  pub head_below : record_fault s within p ≡ 0 → ¬ (d ≡ 0) → expr_inside (enclosing p) (d - 1) i p ≡ head_of s d i p
  unfolding head_of
  head_below h g = level_below _ d i (λ e. expr_inside (enclosing p) e i p) h g

-- ---- what a record encloses

module _ {s : Sort} {ends : Ends} {p : List ℕ} (g : Right s ends p) where
  -- a record that encloses an expression encloses a record
  pub sole-span : enclosing p ≡ one_expression → 1 ≤ span_of p
  sole-span e = leb-true 1 (span_of p) (rw e at (right-span g))

  pub test-span : enclosing p ≡ expression_statements → 1 ≤ span_of p
  test-span e = leb-true 1 (span_of p) (rw e at (right-span g))

  -- one that encloses nothing is alone
  leaf_span : enclosing p ≡ nothing → span_of p ≡ 0
  leaf_span e = eqb-true (span_of p) 0 (rw e at (right-span g))

module _ (d i : ℕ) (p : List ℕ) where
  pub expr-sole : enclosing p ≡ one_expression → check_e d (i + 1) at_end (inner p) ≡ expr_inside (enclosing p) d i p
  unfolding expr_inside
  expr-sole e = rw e refl

  pub expr-test : enclosing p ≡ expression_statements → check_e d (i + 1) within (inner p) ≡ expr_inside (enclosing p) d i p
  unfolding expr_inside
  expr-test e = rw e refl

  -- any other than these two encloses no expression of its own
  pub expr_none : (x : E.Encloses) → encloses_of x ≡ enclosing p → ¬ (x ≡ OneExpression) → ¬ (x ≡ ExpressionStatements) → fine ≡ expr_inside (enclosing p) d i p
  unfolding expr_inside
  expr_none Nothing e a b = rw (← e) refl
  expr_none Statements e a b = rw (← e) refl
  expr_none OneExpression e a b = absurd (a refl)
  expr_none ExpressionStatements e a b = absurd (b refl)
  expr_none TwoExpressions e a b = rw (← e) refl

  pub inside_none : (x : E.Encloses) → encloses_of x ≡ enclosing p → ¬ (x ≡ Statements) → ¬ (x ≡ ExpressionStatements) → fine ≡ inside_of (enclosing p) d i p
  unfolding inside_of
  inside_none Nothing e a b = rw (← e) refl
  inside_none Statements e a b = absurd (a refl)
  inside_none OneExpression e a b = rw (← e) refl
  inside_none ExpressionStatements e a b = absurd (b refl)
  inside_none TwoExpressions e a b = rw (← e) refl

  pub inside-statements : enclosing p ≡ Encloses.statements → check_rows T.statement d (i + 1) (inner p) ≡ inside_of (enclosing p) d i p
  unfolding inside_of
  inside-statements e = rw e refl

  pub inside-test : enclosing p ≡ expression_statements → check_rows T.statement d (i + 2 + span_of (inner p)) (after (inner p)) ≡ inside_of (enclosing p) d i p
  unfolding inside_of
  inside-test e = rw e refl

-- ---- a row, by its first record

pub row_first : (s : Sort) (d i : ℕ) (p : List ℕ) → OfRow s → ¬ (length p ≡ 0)
    → check_rows s d i p ≡ (head_of s d i p else (inside_of (enclosing p) (d - 1) i p else check_rows s d (i + 1 + span_of p) (after p)))
row_first s d i p o n = go d (ℕ_discrete (record_fault s within p) 0)
  where
    rest : ℕ → Verdict
    rest d = inside_of (enclosing p) (d - 1) i p else check_rows s d (i + 1 + span_of p) (after p)

    go : (d : ℕ) → Dec (record_fault s within p ≡ 0) → check_rows s d i p ≡ (head_of s d i p else rest d)
    go d (no f) = row-fault s d i p n f ∙ ap (λ (v : Verdict). v else rest d) (head_own s d i p f)
    go zero (yes z) = row-deep s i p n z ∙ ap (λ (v : Verdict). v else rest zero) (head_none s zero i p z refl)
    go (suc d) (yes z) =
        row_step s d i p n z
        ∙ ap (λ (v : Verdict). v else check_rows s (suc d) (i + 1 + span_of p) (after p)) (split (enclosing p) d i p (never_two o (kind_of p) (right s within p z).due))
        ∙ else_assoc (expr_inside (enclosing p) d i p) (inside_of (enclosing p) d i p) (check_rows s (suc d) (i + 1 + span_of p) (after p))
        ∙ ap (λ (e : ℕ). expr_inside (enclosing p) e i p else (inside_of (enclosing p) e i p else check_rows s (suc d) (i + 1 + span_of p) (after p))) (sym (sub-one (suc d)))
        ∙ ap (λ (v : Verdict). v else rest (suc d)) (head_below s (suc d) i p z (omega arith))

-- a head that passes
pub record HeadFine (s : Sort) (d i : ℕ) (p : List ℕ) : Type 0 where
  pub own : Right s within p
  pub levels : 1 ≤ d
  pub expr : expr_inside (enclosing p) (d - 1) i p ≡ fine

pub head_fine : (s : Sort) (d i : ℕ) (p : List ℕ) → head_of s d i p ≡ fine → HeadFine s d i p
head_fine s d i p e = go d (ℕ_discrete (record_fault s within p) 0) e
  where
    go : (d : ℕ) → Dec (record_fault s within p ≡ 0) → head_of s d i p ≡ fine → HeadFine s d i p
    go d (no f) e = absurd (let h = head_own s d i p f in let z : ◌≡◌ {A = ℕ} 0 1 = cc in omega arith)
    go zero (yes z) e = absurd (let h = head_none s zero i p z refl in let z : ◌≡◌ {A = ℕ} 0 1 = cc in omega arith)
    go (suc d) (yes z) e = record { own = right s within p z; levels = omega arith; expr = head_below s (suc d) i p z (omega arith) ∙ e }

-- then its parts are whole, and rows of their own
pub whole-test : {s : Sort} {d i : ℕ} {p : List ℕ} → HeadFine s d i p → enclosing p ≡ expression_statements → 8 + 8 * span_of (inner p) ≤ length (inner p)
whole-test {d = d} {i = i} {p = p} h e = right-whole (right_of (d - 1) (i + 1) within (inner p) (expr-test (d - 1) i p e ∙ h.expr))

pub inner-row : {s : Sort} {d i : ℕ} {p : List ℕ} → Part i p → HeadFine s d i p → Row (i + 1) (inner p)
inner-row {p = p} a h = let l = length-inner p (right-whole h.own) in let w = right-whole h.own in let r = a.row in record { aligned = omega arith; placed = omega arith }

pub test-row : {s : Sort} {d i : ℕ} {p : List ℕ} → Part i p → HeadFine s d i p → enclosing p ≡ expression_statements → Row (i + 2 + span_of (inner p)) (after (inner p))
test-row {p = p} a h e =
    let w = right-whole h.own in
    let l = length-inner p w in
    let m = length-after (inner p) in
    let v = whole-test h e in
    let r = a.row in
    record { aligned = omega arith; placed = omega arith }

-- what follows the record off bytes on
after-drop : (off : ℕ) (part : List ℕ) → after (drop off part) ≡ drop (off + (8 + 8 * span_of (drop off part))) part
unfolding after
after-drop off part = drop-drop (8 + 8 * span_of (drop off part)) off part

-- ---- the rest of a row, off bytes on, decides

pub record Left (s : Sort) (d at : ℕ) (part : List ℕ) (off i : ℕ) : Type 0 where
  pub inside : off ≤ length part
  pub row : Row i (drop off part)
  pub decides : check_rows s d i (drop off part) ≡ check_rows s d at part

module _ {s : Sort} {d at : ℕ} {part : List ℕ} {off i : ℕ} (o : OfRow s) (l : Left s d at part off i) where
  pub left_end : length part ≤ off → fine ≡ check_rows s d at part
  left_end h = sym (row-empty s d i (drop off part) (omega (arith, length-drop off part))) ∙ l.decides

  -- p is the row from there on
  module _ (m : off < length part) {p : List ℕ} (r : p ≡ drop off part) where
    some : ¬ (length p ≡ 0)
    some = rw r (omega (arith, length-drop off part))

    first : check_rows s d at part ≡ (head_of s d i p else (inside_of (enclosing p) (d - 1) i p else check_rows s d (i + 1 + span_of p) (after p)))
    first = sym (ap (check_rows s d i) r ∙ l.decides) ∙ row_first s d i p o some

    pub left-part : Part i p
    left-part = rw r (let w = l.row in record { row = w; some = omega (arith, length-drop off part) })

    pub left_head : {n j : ℕ} → fault n j ≡ head_of s d i p → fault n j ≡ check_rows s d at part
    left_head e = sym (first ∙ rw (← e) refl)

    module _ (f : fine ≡ head_of s d i p) where
      pub head-here : HeadFine s d i p
      head-here = head_fine s d i p (sym f)

      pub left-inside : {n j : ℕ} → fault n j ≡ inside_of (enclosing p) (d - 1) i p → fault n j ≡ check_rows s d at part
      left-inside e = sym (first ∙ rw (← f, ← e) refl)

      pub left-next : {n : ℕ} → n ≡ span_of p → fine ≡ inside_of (enclosing p) (d - 1) i p → Left s d at part (off + (8 + 8 * n)) (i + (1 + n))
      left-next {n} h e =
          let w = right-whole head-here.own in
          let q = after-drop off part in
          let k = left-part.row in
          let a : after p ≡ drop (off + (8 + 8 * n)) part = rw (h, r) q in
          let z : length p ≡ length part - off = rw r (length-drop off part) in
          let b : i + 1 + span_of p ≡ i + (1 + n) = omega arith in
          record {
            inside = omega arith;
            row = rw (← a) (let v = length-after p in record { aligned = omega arith; placed = omega arith });
            decides = rw (← a, ← b) (sym (first ∙ rw (← f, ← e) refl));
          }

      pub left_leaf : enclosing p ≡ nothing → Left s d at part (off + 8) (i + 1)
      left_leaf z = left-next (sym (leaf_span head-here.own z)) (inside_none (d - 1) i p Nothing (sym z) (λ e. cc) (λ e. cc))
