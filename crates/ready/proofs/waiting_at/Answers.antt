use mathlib.Core.Path.{◌≡◌, ap, ◌∙◌, subst⁻¹}
use mathlib.Core.Bool.{false}
use Prim.Native.Nat.{ℕ}
use Rattle.rules.specs.Table.{recipe_of}
use Rattle.rules.specs.State.{Task}
use Rattle.rules.specs.Scheduler.{is_ready}
use Rattle.state.specs.View.{entry, queue_of}
use Rattle.ready.specs.Ready.{idle, ready_in, Placed}
use Rattle.ready.proofs.Queue.{every_at}
use Rattle.ready.proofs.waiting_at.Goals as goal

pub held_by-requires : goal.held_by-requires
unfolding queue_of
held_by-requires c =
    let a = c.args in
    let q = a.s.now.queue in
    let r = recipe_of a.table.bytes.now in
    let e = c.task-task.ensures in (
      subst⁻¹ (Placed r) e (every_at (Placed r) (entry q) q.len c.requires.0 a.i c.requires.1),
      subst⁻¹ (λ (t : Task ℕ). is_ready (ready_in a.table.bytes.now (idle a.s.now) t) ≡ false) e c.requires.2,
    )

pub returns : goal.returns
returns c =
    let a = c.args in
    let e = c.task-task.ensures in
    record {
      task_is = e;
      wait_is = c.held_by.ensures ∙ ap (ready_in a.table.bytes.now (idle a.s.now)) e;
    }
