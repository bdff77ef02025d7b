-- The columns of the table of kinds by computed tests: where a column is 0, and what the kinds enclose as one number, four bits for each.
-- Assumes nothing.
use Prim.Native.Nat.{ℕ, ◌*◌, ◌/◌, ◌%◌, ◌^◌, ◌<◌}
use mathlib.Core.Path.{◌≡◌, refl}
use mathlib.Core.Bool.{Bool, true, false, ◌||◌}
use mathlib.Core.List.{List, [], ◌∷◌, map}
use lib.Dec.{eqb}
use lib.ListN.{get_or}
use borrow.Author.Tests.{eqb-true}
use Rattle.rules.specs.Table.{Encloses, nothing, one_expression, expression_statements, two_expressions, kinds}
use Rattle.table.proofs.Numbered.{every, at_each}

-- what a record encloses, as a number
abbrev pub code_of : Encloses → ℕ
code_of nothing = 0
code_of Encloses.statements = 1
code_of one_expression = 2
code_of expression_statements = 3
code_of two_expressions = 4

abbrev pub codes : List ℕ
codes = map (λ k. code_of k.encloses) kinds

-- a column that is 0 but at some kinds
abbrev pub member : ℕ → List ℕ → Bool
member k [] = false
member k (x ∷ xs) = eqb k x || member k xs

pub elsewhere : (column kinds : List ℕ) (n : ℕ) → every (λ k. member k kinds || eqb (get_or column k 0) 0) n ≡ true → (k : ℕ) → k < n → member k kinds ≡ false → get_or column k 0 ≡ 0
elsewhere column kinds n h k l m = eqb-true _ _ (rw m at (at_each (λ k. member k kinds || eqb (get_or column k 0) 0) n h k l))

-- the codes as one number, four bits for each kind
pub packed : (k : ℕ) → k < 14 → 9640517989244944 / 2 ^ (4 * k) % 16 ≡ get_or codes k 0
packed k l = eqb-true _ _ (at_each (λ k. eqb (9640517989244944 / 2 ^ (4 * k) % 16) (get_or codes k 0)) 14 refl k l)
