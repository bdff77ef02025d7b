use Prim.Native.Nat.{◌+◌, ◌*◌}
use native.Mathlib.Omega.{arith}
use Rattle.std.proofs.Common.{rules}
use mathlib.Core.Path.{◌∙◌}
use Rattle.rules.specs.State.{task_in}
use Rattle.block.proofs.Reading.{from_is, one_more, in_front}
use Rattle.block.proofs.tasks_in.Goals as goal

pub loop-task-preserved : goal.loop-task-preserved
loop-task-preserved c =
    let b = c.args.block.now in
    let l = c.loop-task in
    (omega arith, one_more (λ k. task_in b (2 * k + 1)) l.task-items l.task-index c.task_at.result (omega arith) l.invariant.1 (c.task_at.ensures ∙ from_is b l.from (2 * l.task-index + 1) l.invariant.0))

pub returns : goal.returns
returns c =
    let l = c.loop-task in
    in_front (λ k. task_in c.args.block.now (2 * k + 1)) l.task-items _ c.args.n (search (rules, arith)) (λ k h. l.invariant.1 k (search (rules, arith)))
