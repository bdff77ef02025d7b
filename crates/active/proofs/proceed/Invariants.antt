use Prim.Native.Nat.{◌-◌}
use Rattle.rules.specs.Table.{recipe_of}
use Rattle.state.specs.View.{task_of}
use Rattle.active.proofs.Proceeding.{Running}
use Rattle.active.proofs.proceed.Given as goal

abbrev pub invariant-loop-n : goal.invariant-loop-n
invariant-loop-n l = Running (recipe_of l.linked.table.bytes.now) l.bounds.budget l.bounds.queued l.bounds.issued (task_of l.initial.t) l.initial.variables l.initial.n l.initial.log (task_of l.t) l.variables l.n l.log

abbrev pub decreases-loop-n : goal.decreases-loop-n
decreases-loop-n l = l.bounds.budget - l.n.steps
