use native.Mathlib.Omega.{arith}
use Rattle.std.proofs.lemmas.Bool.Decides.{nat_tests}
use Rattle.rules.specs.Values.{apply2}
use Rattle.values.proofs.BinaryOperatorFromU8.from.Goals as goal

pub returns-in_default : goal.returns-in_default
unfolding apply2
returns-in_default c = λ a b. grind (arith, nat_tests)
