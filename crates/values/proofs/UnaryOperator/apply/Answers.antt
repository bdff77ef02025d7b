use Rattle.rules.specs.Values.{apply1}
use Rattle.values.proofs.Exact.{applied1}
use Rattle.values.proofs.UnaryOperator.apply.Goals as goal

pub returns-in-Negation : goal.returns-in-Negation
unfolding apply1
returns-in-Negation c = rw c.in-Negation.is (applied1 (apply1 0) c.ranges.a c.negation.type_inv c.negation.ensures)

pub returns-in-Opposite : goal.returns-in-Opposite
unfolding apply1
returns-in-Opposite c = rw c.in-Opposite.is (applied1 (apply1 1) c.ranges.a c.opposite.type_inv c.opposite.ensures)
