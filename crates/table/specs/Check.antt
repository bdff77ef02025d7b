-- How the code of the check speaks of the definitions: its enums, and what it asks of a part.
-- Assumes nothing.
use Rattle.std.specs.Prelude.{ℕ, zero, suc, ◌+◌, ◌*◌, ◌%◌, ◌≤◌, ◌≡◌, Result, Ok, Err, List, length}
use Rattle.rules.specs.Fields.{word}
use Rattle.rules.specs.Table as T
use Rattle.rules.specs.Table.{nothing, one_expression, expression_statements, two_expressions, kind_row, kind_of, name_of, span_of, inner, record_fault, unless, check_e}
use Rattle.table.specs.declared.check.Sort.{Sort}
use Rattle.table.specs.declared.check.Sort.TheVariants.{Procedure, Statement, Expression}
use Rattle.table.specs.declared.check.Ends.{Ends}
use Rattle.table.specs.declared.check.Ends.TheVariants.{AtEnd, BeforeEnd, Within}
use Rattle.table.specs.declared.check.Encloses.{Encloses}
use Rattle.table.specs.declared.check.Encloses.TheVariants.{Nothing, Statements, OneExpression, ExpressionStatements, TwoExpressions}
use Rattle.table.specs.declared.refusal.Rule.{Rule}
use Rattle.table.specs.declared.refusal.Refusal.{Refusal}
use Rattle.table.specs.Refusals.{rule_number}

-- the enums
abbrev pub sort_of : Sort → T.Sort
sort_of Procedure = T.procedure
sort_of Statement = T.statement
sort_of Expression = T.expression

abbrev pub ends_of : Ends → T.Ends
ends_of AtEnd = T.at_end
ends_of BeforeEnd = T.before_end
ends_of Within = T.within

abbrev pub encloses_of : Encloses → T.Encloses
encloses_of Nothing = T.nothing
encloses_of Statements = T.statements
encloses_of OneExpression = T.one_expression
encloses_of ExpressionStatements = T.expression_statements
encloses_of TwoExpressions = T.two_expressions

-- the number of the rule that an answer names, or 0
abbrev pub fault_of : {K : Type 0} → Result K Rule → ℕ
fault_of (Ok kind) = 0
fault_of (Err rule) = rule_number rule

-- the same of a refusal
abbrev pub fault_in : {K : Type 0} → Result K Refusal → ℕ
fault_in (Ok kind) = 0
fault_in (Err refusal) = rule_number refusal.rule

-- the fields of the first record of a part, and the part's length
pub record Fields (p : List ℕ) (kind name span value len : ℕ) : Type 0 where
  pub kind_is : kind ≡ kind_of p
  pub name_is : name ≡ name_of p
  pub span_is : span ≡ span_of p
  pub value_is : value ≡ word p 4
  pub length_is : len ≡ length p

-- whole records at index i within the table; at least one of them
pub record Row (i : ℕ) (p : List ℕ) : Type 0 where
  pub aligned : length p % 8 ≡ 0
  pub placed : 8 * i + length p ≤ 32768

pub record Part (i : ℕ) (p : List ℕ) : Type 0 where
  pub row : Row i p
  pub some : 8 ≤ length p

-- a row is of procedures or of statements
pub data OfRow : T.Sort → Type 0 where
  procedures : OfRow T.procedure
  statements : OfRow T.statement

-- a part at index i that starts with an operator, whose record breaks no rule of its own
pub record OfOperator (i : ℕ) (p : List ℕ) : Type 0 where
  pub part : Part i p
  pub ends : T.Ends
  pub right : record_fault T.expression ends p ≡ 0
  pub operator : 11 ≤ kind_of p

-- what the first record of a part encloses
abbrev pub enclosing : List ℕ → T.Encloses
enclosing p = (kind_row (kind_of p)).encloses

-- the expression at the start of what a record encloses, if there is one, with d levels left for it
unfoldable pub expr_inside : T.Encloses → (d i : ℕ) → List ℕ → T.Verdict
expr_inside nothing d i p = T.fine
expr_inside T.statements d i p = T.fine
expr_inside one_expression d i p = check_e d (i + 1) T.at_end (inner p)
expr_inside expression_statements d i p = check_e d (i + 1) T.within (inner p)
expr_inside two_expressions d i p = T.fine

-- the answer for a record at index i: its own fault, 16 where no level is left, else what the levels below it give
abbrev pub levelled : (fault levels i : ℕ) → (ℕ → T.Verdict) → T.Verdict
levelled n zero i f = unless n i (T.fault 16 i)
levelled n (suc d) i f = unless n i (f d)

-- the first record of a row with its expression
unfoldable pub head_of : T.Sort → (d i : ℕ) → List ℕ → T.Verdict
head_of sort d i p = levelled (record_fault sort T.within p) d i (λ e. expr_inside (enclosing p) e i p)
