use lib.ListN.{length}
use Rattle.table.specs.Check.{sort_of}
use Rattle.table.proofs.Rows.{Left}
use Prim.Native.Nat.{◌-◌}
use Rattle.table.proofs.check.+check_rows.Given as goal

abbrev pub decreases-check_rows : goal.decreases-check_rows
decreases-check_rows l = l.left

abbrev pub invariant-loop-off : goal.invariant-loop-off
invariant-loop-off l = Left (sort_of l.sort) l.left l.at l.part l.off l.i

abbrev pub decreases-loop-off : goal.decreases-loop-off
decreases-loop-off l = length l.part - l.off
