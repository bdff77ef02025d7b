use mathlib.Core.Path.{◌≡◌, refl, sym, ap, ◌∙◌}
use mathlib.Core.List.{List, append-nil}
use Prim.Native.Nat.{ℕ}
use native.Mathlib.Omega.{arith}
use lib.ListN.{take}
use lib.Seq.{sets}
use Rattle.rules.specs.State.{joined, task_row}
use Rattle.rules.proofs.Lists.{joined_more}
use Rattle.state.specs.View.{entry}
use Rattle.block.proofs.put_queue.Goals as goal

pub loop-i-init : goal.loop-i-init
unfolding joined
loop-i-init c = (omega arith, omega arith, sym (append-nil _))

pub loop-i-preserved : goal.loop-i-preserved
unfolding task_row
loop-i-preserved c =
    let a = c.args in
    let l = c.loop-i in
    let f : ℕ → List ℕ = λ i. task_row (entry a.queue.now i) in
    let e : c.put_task.new.b ≡ sets l.b l.to (f l.i) = c.put_task.ensures ∙ ap (sets l.b l.to) (ap task_row c.task.ensures) in
    (omega arith, omega arith, rw e (joined_more l.b (take a.start a.b.now) f l.i l.to 16 (f l.i) refl (omega arith) l.invariant.2 refl))
