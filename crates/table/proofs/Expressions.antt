-- The check of an expression, answer by answer, by the tests that lead to it.
-- Assumes nothing.
use Prim.Native.Nat.{ℕ, zero, suc, ◌+◌, ◌-◌, ◌*◌, ◌≤◌, ◌<◌}
use mathlib.Core.Path.{◌≡◌, refl, sym, ap, ◌∙◌, subst}
use mathlib.Core.Bool.{true}
use mathlib.Core.List.{List}
use native.Mathlib.Omega.{arith}
use native.Mathlib.Numerals.{sub-one}
use native.Mathlib.Decide.{ℕ_discrete}
use mathlib.Core.Logic.{dite}
use lib.Dec.{leb}
use lib.ListN.{length}
use borrow.Author.Tests.{leb-true, ltb-true}
use Rattle.rules.specs.Table.{kind_of, span_of, inner, after, kind_row, Sort, expression, Ends, at_end, before_end, span_fits, record_fault, Verdict, fine, fault, enclosed, check_e}
use Rattle.rules.proofs.Verdicts.{and_true}
use Rattle.rules.proofs.Grammar.Checking.{Right, right-ends, right-span, right-whole, unless_none, unless-some, operands, length-inner, length-after}
use Rattle.table.specs.declared.refusal.Rule.{Rule}
use Rattle.table.specs.declared.refusal.Rule.TheVariants.{TableLength, Kind, Span, Name, Value, Depth, Procedure, BlockLength, StateRecord, LiveTasks, NoChain}
use Rattle.table.specs.Refusals.{rule_number}
use Rattle.table.specs.Check.{levelled, Part}

-- ---- a record's own fault, or no level left, or what lies below it

pub level_own : (n d i : ℕ) (f : ℕ → Verdict) → ¬ (n ≡ 0) → fault n i ≡ levelled n d i f
level_own n zero i f h = sym (unless-some n i (fault 16 i) h)
level_own n (suc d) i f h = sym (unless-some n i (f d) h)

pub level_none : (n d i : ℕ) (f : ℕ → Verdict) → n ≡ 0 → d ≡ 0 → fault 16 i ≡ levelled n d i f
level_none n zero i f h e = sym (unless_none n i (fault 16 i) h)
level_none n (suc d) i f h e = absurd (omega arith)

pub level_below : (n d i : ℕ) (f : ℕ → Verdict) → n ≡ 0 → ¬ (d ≡ 0) → f (d - 1) ≡ levelled n d i f
level_below n zero i f h g = absurd (g refl)
level_below n (suc d) i f h g = rw (sub-one (suc d)) (sym (unless_none n i (f d) h))

pub expr-levels : (d i : ℕ) (ends : Ends) (p : List ℕ) → levelled (record_fault expression ends p) d i (λ e. operands e i p) ≡ check_e d i ends p
unfolding check_e
expr-levels zero i ends p = refl
expr-levels (suc d) i ends p = refl

-- a rule's number is no 0, which stands for no fault
pub rule-some : (r : Rule) → ¬ (rule_number r ≡ 0)
rule-some TableLength h = absurd (omega arith)
rule-some Kind h = absurd (omega arith)
rule-some Span h = absurd (omega arith)
rule-some Name h = absurd (omega arith)
rule-some Value h = absurd (omega arith)
rule-some Depth h = absurd (omega arith)
rule-some Procedure h = absurd (omega arith)
rule-some BlockLength h = absurd (omega arith)
rule-some StateRecord h = absurd (omega arith)
rule-some LiveTasks h = absurd (omega arith)
rule-some NoChain h = absurd (omega arith)

module _ (d i : ℕ) (ends : Ends) (p : List ℕ) where
  pub expr_own : (r : Rule) → rule_number r ≡ record_fault expression ends p → fault (rule_number r) i ≡ check_e d i ends p
  expr_own r e = rw e (level_own _ d i _ (λ z. rule-some r (e ∙ z)) ∙ expr-levels d i ends p)

  pub expr_none : 0 ≡ record_fault expression ends p → d ≡ 0 → fault 16 i ≡ check_e d i ends p
  expr_none e z = level_none _ d i _ (sym e) z ∙ expr-levels d i ends p

  pub expr_below : 0 ≡ record_fault expression ends p → ¬ (d ≡ 0) → operands (d - 1) i p ≡ check_e d i ends p
  expr_below e f = level_below _ d i (λ e. operands e i p) (sym e) f ∙ expr-levels d i ends p

-- the bounds of an expression's kind
pub kind_bounds : {ends : Ends} {p : List ℕ} → Right expression ends p → (9 ≤ kind_of p) × (kind_of p ≤ 12)
kind_bounds {p = p} g = let a = and_true (leb 9 (kind_of p)) (leb (kind_of p) 12) g.due in (leb-true 9 _ a.0, leb-true _ 12 a.1)

module _ (d i : ℕ) (p : List ℕ) where
  -- what a record of this kind encloses
  at_kind : {k : ℕ} → kind_of p ≡ k → enclosed (check_e d) (λ j q. fine) (kind_row k).encloses i p ≡ operands d i p
  at_kind h = ap (λ (x : ℕ). enclosed (check_e d) (λ j q. fine) (kind_row x).encloses i p) (sym h)

  pub leaf : 9 ≤ kind_of p → kind_of p < 11 → fine ≡ operands d i p
  unfolding enclosed
  leaf l h = dite (ℕ_discrete (kind_of p) 9) (λ e. at_kind e) (λ n. at_kind {k = 10} (omega arith))

  pub sole : kind_of p ≡ 12 → check_e d (i + 1) at_end (inner p) ≡ operands d i p
  unfolding enclosed
  sole h = at_kind h

  module _ (h : kind_of p ≡ 11) where
    pub first-fault : {n j : ℕ} → check_e d (i + 1) before_end (inner p) ≡ fault n j → fault n j ≡ operands d i p
    unfolding enclosed
    first-fault e = rw (← at_kind h, e) refl

    pub second : check_e d (i + 1) before_end (inner p) ≡ fine → check_e d (i + 2 + span_of (inner p)) at_end (after (inner p)) ≡ operands d i p
    unfolding enclosed
    second e = rw (← at_kind h, e) refl

-- ---- the parts

pub inner-part : {sort : Sort} {ends : Ends} {i : ℕ} {p : List ℕ} → Part i p → Right sort ends p → 1 ≤ span_of p → Part (i + 1) (inner p)
inner-part {i = i} {p = p} a g s =
    let l = length-inner p (right-whole g) in
    let w = right-whole g in
    let r = a.row in
    record { row = record { aligned = omega arith; placed = omega arith }; some = omega arith }

-- an operator encloses a record
pub operator-span : {ends : Ends} {p : List ℕ} → Right expression ends p → 11 ≤ kind_of p → 1 ≤ span_of p
operator-span {p = p} g h =
    dite (ℕ_discrete (kind_of p) 11)
    (λ e. omega (arith, leb-true 2 (span_of p) (subst (λ (k : ℕ). span_fits (kind_row k).encloses (span_of p) ≡ true) e (right-span g))))
    (λ n. let e : kind_of p ≡ 12 = omega (arith, kind_bounds g) in leb-true 1 (span_of p) (subst (λ (k : ℕ). span_fits (kind_row k).encloses (span_of p) ≡ true) e (right-span g)))

-- what follows a record that leaves something
pub after-part : {sort : Sort} {i j : ℕ} {p : List ℕ} → Part i p → Right sort before_end p → j ≡ i + 1 + span_of p → Part j (after p)
after-part {i = i} {p = p} a g e =
    let l = length-after p in
    let w : 8 + 8 * span_of p < length p = ltb-true _ _ (right-ends g) in
    let r = a.row in
    record { row = record { aligned = omega arith; placed = omega arith }; some = omega arith }
