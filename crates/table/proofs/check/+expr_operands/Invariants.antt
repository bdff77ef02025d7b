use Prim.Native.Nat.{◌+◌, ◌*◌}
use Rattle.table.proofs.check.+expr_operands.Given as goal

abbrev pub decreases-check_expr : goal.decreases-check_expr
decreases-check_expr l = 2 * l.left

abbrev pub decreases-check_operands : goal.decreases-check_operands
decreases-check_operands l = 2 * l.left + 1
