use Prim.Native.Nat.{◌-◌}
use Rattle.runner.proofs.Driving.{Driven}
use Rattle.runner.proofs.drive.drive.Given as goal

abbrev pub invariant-loop-s : goal.invariant-loop-s
invariant-loop-s l = Driven l.linked.table.bytes.now l.initial.s l.budget l.initial.log l.s l.n l.log

abbrev pub decreases-loop-s : goal.decreases-loop-s
decreases-loop-s l = l.budget - l.n.steps
