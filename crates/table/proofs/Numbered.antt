-- The kinds of records by their numbers, and what the table of kinds says of each.
-- Assumes nothing.
use Prim.Native.Nat.{ℕ, zero, suc, ◌<◌}
use mathlib.Core.Path.{◌≡◌, refl, sym, ap, ◌∙◌}
use mathlib.Core.Bool.{Bool, true, false, not, ◌&&◌, ◌||◌, true≢false}
use native.Mathlib.Omega.{arith}
use native.Mathlib.Decide.{dec_lt, ℕ_discrete}
use native.Mathlib.Nat.{eq-or-lt_of_le}
use mathlib.Core.Logic.{dite, ⊎_elim}
use Rattle.std.proofs.Common.{rules}
use Rattle.std.specs.Prelude.{Option, None, Some}
use Rattle.std.specs.Option.{option_eq}
use denote.Enum.Bare.{sameb, true_same, false_same}
use lib.Dec.{eqb, leb}
use lib.ListN.{get_or-eq_default}
use borrow.Author.Tests.{eq-eqb, ne_eqb, leb-true, eqb-true}
use Rattle.rules.specs.Table.{Encloses, nothing, statements, one_expression, expression_statements, two_expressions, kind_row, Sort, procedure, statement, expression, is_of}
use Rattle.rules.proofs.Verdicts.{and_true, or_left, not_true}
use Rattle.table.specs.contracts.record.Kind.{the_type}
use Rattle.table.specs.declared.record.Kind.{Kind}
use Rattle.table.specs.declared.record.Kind.TheVariants.{Procedure, Skip, Set, If, While, Spawn, Suspend, Await, Constant, Variable, Binary, Unary, Guard}
use Rattle.table.specs.declared.check.Sort.{Sort as Due}
use Rattle.table.specs.declared.check.Sort.TheVariants as D
use Rattle.table.specs.Kinds.{number_of, kinds_numbered, kind_named}
use Rattle.table.specs.Check.{sort_of, OfRow, procedures}

-- a computed test of each number, and what it says of any of them
abbrev pub every : (ℕ → Bool) → ℕ → Bool
every test zero = true
every test (suc n) = test n && every test n

pub at_each : (test : ℕ → Bool) (n : ℕ) → every test n ≡ true → (k : ℕ) → k < n → test k ≡ true
at_each test zero h k l = absurd (omega arith)
at_each test (suc n) h k l =
    let a = and_true (test n) (every test n) h in
    ⊎_elim (λ e. rw e a.0) (λ g. at_each test n a.1 k g) (eq-or-lt_of_le {n = k} {m = n} (omega arith))

-- ---- numbers and names

pub named : (k : Kind) → kind_named (number_of k) ≡ Some k
named Procedure = refl
named Skip = refl
named Set = refl
named If = refl
named While = refl
named Spawn = refl
named Suspend = refl
named Await = refl
named Constant = refl
named Variable = refl
named Binary = refl
named Unary = refl
named Guard = refl

-- the kind that a number names has that number
numbers : ℕ → Option Kind → Bool
numbers n None = true
numbers n (Some k) = eqb n (number_of k)

names : Option Kind → Bool
names None = false
names (Some k) = true

pub number-named : (n : ℕ) (k : Kind) → kind_named n ≡ Some k → n ≡ number_of k
unfolding numbers
number-named n k e =
    dite (dec_lt n 14)
    (λ l. eqb-true n (number_of k) (rw e at (at_each (λ m. numbers m (kind_named m)) 14 refl n l)))
    (λ l. absurd (let h = get_or-eq_default kinds_numbered None {n = n} (omega arith) in let z : ◌≡◌ {A = Option Kind} None (Some k) = sym h ∙ e in let f : false ≡ true = cc in true≢false (sym f)))

-- the code's test of a byte's kind
pub named_is : (n : ℕ) (k : Kind) → option_eq (sameb the_type) (kind_named n) (Some k) ≡ eqb n (number_of k)
named_is n k = dite (ℕ_discrete n (number_of k)) (λ e. rw (e, named k) (true_same the_type k k refl ∙ sym (eq-eqb (number_of k) (number_of k) refl))) (λ d. go (kind_named n) refl d ∙ sym (ne_eqb n (number_of k) d))
  where
    go : (o : Option Kind) → kind_named n ≡ o → ¬ (n ≡ number_of k) → option_eq (sameb the_type) o (Some k) ≡ false
    go None h d = refl
    go (Some j) h d = false_same the_type (search rules) j k (λ e. d (number-named n j h ∙ ap number_of e))

-- different kinds have different numbers
pub one-number : (j k : Kind) → number_of j ≡ number_of k → j ≡ k
one-number j k e = let h : Some j ≡ Some k = sym (named j) ∙ ap kind_named e ∙ named k in cc

-- ---- what is due

-- a kind that is due is in the table of kinds
pub due-kind : (s : Sort) (k : ℕ) → is_of s k ≡ true → k < 14
due-kind procedure k h = omega (arith, eqb-true k 1 h)
due-kind statement k h =
    dite (ℕ_discrete k 13) (λ e. omega arith) (λ n. let a = and_true (leb 2 k) (leb k 8) (or_left (leb 2 k && leb k 8) (eqb k 13) h (ne_eqb k 13 n)) in omega (arith, leb-true k 8 a.1))
due-kind expression k h = let a = and_true (leb 9 k) (leb k 12) h in omega (arith, leb-true k 12 a.1)

pub named-kind : (s : Sort) (n : ℕ) → kind_named n ≡ None → is_of s n ≡ false
unfolding names
named-kind s n e = not_true (is_of s n) (λ h. true≢false (sym (at_each (λ m. not (is_of s m) || names (kind_named m)) 14 (each s) n (due-kind s n h)) ∙ rw (h, e) refl))
  where
    each : (s : Sort) → every (λ m. not (is_of s m) || names (kind_named m)) 14 ≡ true
    each procedure = refl
    each statement = refl
    each expression = refl

-- no two sorts share a kind
apart : (k : ℕ) → is_of statement k ≡ true → is_of expression k ≡ true → ⊥
apart k h g = true≢false (sym (at_each (λ m. not (is_of statement m && is_of expression m)) 14 refl k (due-kind statement k h)) ∙ rw (h, g) refl)

pub one-sort : (a b : Due) (k : ℕ) → is_of (sort_of a) k ≡ true → is_of (sort_of b) k ≡ true → a ≡ b
one-sort D.Procedure D.Procedure k h g = refl
one-sort D.Statement D.Statement k h g = refl
one-sort D.Expression D.Expression k h g = refl
one-sort D.Procedure D.Statement k h g = absurd (true≢false (sym g ∙ rw (eqb-true k 1 h) refl))
one-sort D.Procedure D.Expression k h g = absurd (true≢false (sym g ∙ rw (eqb-true k 1 h) refl))
one-sort D.Statement D.Procedure k h g = absurd (true≢false (sym h ∙ rw (eqb-true k 1 g) refl))
one-sort D.Expression D.Procedure k h g = absurd (true≢false (sym h ∙ rw (eqb-true k 1 g) refl))
one-sort D.Statement D.Expression k h g = absurd (apart k h g)
one-sort D.Expression D.Statement k h g = absurd (apart k g h)

-- ---- what a record of a row encloses

two : Encloses → Bool
two nothing = false
two statements = false
two one_expression = false
two expression_statements = false
two two_expressions = true

pub never_two : {s : Sort} → OfRow s → (k : ℕ) → is_of s k ≡ true → ¬ ((kind_row k).encloses ≡ two_expressions)
unfolding two
never_two {s} o k h e = true≢false (sym (at_each (λ m. not (is_of s m) || not (two (kind_row m).encloses)) 14 (each o) k (due-kind s k h)) ∙ rw (h, e) refl)
  where
    each : {s : Sort} → OfRow s → every (λ m. not (is_of s m) || not (two (kind_row m).encloses)) 14 ≡ true
    each procedures = refl
    each OfRow.statements = refl
