-- The value of an expression, by recursion over its operands: the measure is twice the part's length, and one more for an operand.
-- Assumes nothing.
use Prim.Native.Nat.{◌+◌, ◌*◌}
use lib.ListN.{length}
use Rattle.expr.proofs.+operand_operator.Given as goal

abbrev pub decreases-operand : goal.decreases-operand
decreases-operand l = 2 * length l.part.now + 1

abbrev pub decreases-operator : goal.decreases-operator
decreases-operator l = 2 * length l.part.now
