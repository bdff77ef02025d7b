-- The operators by their numbers, and a value that may be missing.
-- Assumes nothing.
use Rattle.std.specs.Prelude as P
use Rattle.std.specs.Prelude.{ℕ, ℤ}
use Rattle.std.proofs.Math.Option.{Option, none, some}
use Rattle.values.specs.declared.BinaryOperator.{BinaryOperator}
use Rattle.values.specs.declared.BinaryOperator.TheVariants.{Sum, Difference, Product, Quotient, Less, Equal, Both, Either}
use Rattle.values.specs.declared.UnaryOperator.{UnaryOperator}
use Rattle.values.specs.declared.UnaryOperator.TheVariants.{Negation, Opposite}

-- the definitions' value or none, of the code's
abbrev pub option_of : {T : Type 0} → P.Option T → Option T
option_of P.None = none
option_of (P.Some x) = some x

abbrev pub binary_number : BinaryOperator → ℕ
binary_number Sum = 0
binary_number Difference = 1
binary_number Product = 2
binary_number Quotient = 3
binary_number Less = 4
binary_number Equal = 5
binary_number Both = 6
binary_number Either = 7

abbrev pub unary_number : UnaryOperator → ℕ
unary_number Negation = 0
unary_number Opposite = 1
