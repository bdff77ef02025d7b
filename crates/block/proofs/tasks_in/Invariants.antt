use mathlib.Core.Path.{◌≡◌}
use Prim.Native.Nat.{ℕ, ◌+◌, ◌*◌, ◌<◌}
use lib.ListN.{get_or}
use Rattle.rules.specs.State.{task_in}
use Rattle.state.specs.View.{task_of, no_task}
use Rattle.block.specs.Block.{OffsetOf}
use Rattle.block.proofs.tasks_in.Given as goal

abbrev pub invariant-loop-task : goal.invariant-loop-task
invariant-loop-task l =
    OffsetOf (2 * l.task-index + 1) l.from
    × ((k : ℕ) → k < l.task-index → task_of (get_or l.task-items k no_task) ≡ task_in l.block (2 * k + 1))
