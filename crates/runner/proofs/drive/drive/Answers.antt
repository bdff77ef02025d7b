use Prim.Native.Nat.{ℕ}
use mathlib.Core.Path.{◌≡◌, ◌∙◌, subst⁻¹}
use native.Mathlib.Omega.{arith}
use lib.IntN.{ℤ}
use mir.Syntax.{w32}
use mir.Val.{to_z, of_z}
use borrow.Author.Rules.{rules}
use Rattle.std.specs.Prelude.{Ok}
use Rattle.moves.specs.declared.Move.TheVariants.{Spawns, Ends}
use Rattle.runner.proofs.Driving.{driven_start, to_proceed, came, tried, came_ends, came_within, came_on, puts_back_else, Turned, no_turn, turned-some, front_placed, tried_within, tried-ends, tried-on}
use Rattle.runner.proofs.drive.drive.Goals as goal
use Rattle.runner.proofs.drive.drive.Goals.{then-w-ne0, else-w-ne0}

pub loop-s-init : goal.loop-s-init
loop-s-init c = driven_start c.requires

pub proceed-p-requires : goal.proceed-p-requires
proceed-p-requires c = to_proceed c.loop-s.invariant c.in-Some.is

pub returns-in-Err : goal.returns-in-Err
returns-in-Err c =
    let x = came c.loop-s.invariant c.in-Some.task c.proceed-p.result c.proceed-p.new.variables c.proceed-p.new.log c.in-Some.is c.proceed-p.ensures.left in
    rw c.stopped.ensures (record { ended = came_ends x c.in-Err.is })

pub loop-s-preserved-in-Ok-Spawns : goal.loop-s-preserved-in-Ok-Spawns
loop-s-preserved-in-Ok-Spawns c =
    let x = came c.loop-s.invariant c.in-Some.task c.proceed-p.result c.proceed-p.new.variables c.proceed-p.new.log c.in-Some.is c.proceed-p.ensures.left in
    let is : c.proceed-p.result.left ≡ Ok (Spawns c.in-Ok-Spawns.field-0-0 c.in-Ok-Spawns.start c.in-Ok-Spawns.v c.in-Ok-Spawns.field-0-3) = search rules in
    let fits : to_z w32 (of_z w32 c.in-Ok-Spawns.v) ≡ c.in-Ok-Spawns.v = search rules in
    came_on x is (rw fits at c.spawn.ensures)

pub loop-s-preserved-in-Ok-Ends : goal.loop-s-preserved-in-Ok-Ends
loop-s-preserved-in-Ok-Ends c =
    let x = came c.loop-s.invariant c.in-Some.task c.proceed-p.result c.proceed-p.new.variables c.proceed-p.new.log c.in-Some.is c.proceed-p.ensures.left in
    let is : c.proceed-p.result.left ≡ Ok Ends = search rules in
    came_on x is c.end-s.ensures

pub loop-s-preserved-in-Ok : goal.loop-s-preserved-in-Ok
loop-s-preserved-in-Ok c =
    let x = came c.loop-s.invariant c.in-Some.task c.proceed-p.result c.proceed-p.new.variables c.proceed-p.new.log c.in-Some.is c.proceed-p.ensures.left in
    let so = rw c.in-Ok.is at c.proceed-p.ensures.leaves_so in
    let spawns : (n p : ℕ) (z : ℤ) (k : ℕ) → ¬ (c.in-Ok.field-0 ≡ Spawns n p z k) = λ n p z k. search rules in
    let ends : ¬ (c.in-Ok.field-0 ≡ Ends) = search rules in
    came_on x c.in-Ok.is (c.put_back.ensures ∙ puts_back_else c.in-Ok.field-0 _ so.0 spawns ends)

pub loop-s-smaller-in-Ok-Spawns : goal.loop-s-smaller-in-Ok-Spawns
loop-s-smaller-in-Ok-Spawns c =
    let x = came c.loop-s.invariant c.in-Some.task c.proceed-p.result c.proceed-p.new.variables c.proceed-p.new.log c.in-Some.is c.proceed-p.ensures.left in
    let so = rw c.in-Ok-Spawns.is at c.proceed-p.ensures.leaves_so in
    let further = so.2 in
    let b = came_within x c.in-Ok-Spawns.is in
    omega arith

pub loop-s-smaller-in-Ok-Ends : goal.loop-s-smaller-in-Ok-Ends
loop-s-smaller-in-Ok-Ends c =
    let x = came c.loop-s.invariant c.in-Some.task c.proceed-p.result c.proceed-p.new.variables c.proceed-p.new.log c.in-Some.is c.proceed-p.ensures.left in
    let so = rw c.in-Ok-Ends.is at c.proceed-p.ensures.leaves_so in
    let further = so.2 in
    let b = came_within x c.in-Ok-Ends.is in
    omega arith

pub loop-s-smaller-in-Ok : goal.loop-s-smaller-in-Ok
loop-s-smaller-in-Ok c =
    let x = came c.loop-s.invariant c.in-Some.task c.proceed-p.result c.proceed-p.new.variables c.proceed-p.new.log c.in-Some.is c.proceed-p.ensures.left in
    let so = rw c.in-Ok.is at c.proceed-p.ensures.leaves_so in
    let further = so.2 in
    let b = came_within x c.in-Ok.is in
    omega arith

pub returns-in-Some-stop : goal.returns-in-Some-stop
returns-in-Some-stop c =
    let s = c.loop-s.s in
    let off = c.in_default.is in
    let n = c.try_all-w.result.turns in
    let t : Turned s n c.if-w-ne0.s =
    elim c.if-w-ne0.branch [
      | then-w-ne0 b ↦ subst⁻¹ (Turned s n) b.s-is (record { off = off; view-is = b.turn-s.ensures })
      | else-w-ne0 b ↦ subst⁻¹ (Turned s n) b.s-is (record { off = off; view-is = no_turn n s b.if-w-ne0.false })
    ] in
    let x = tried c.loop-s.invariant c.try_all-w.result c.try_all-w.new.log off c.try_all-w.ensures.tries in
    rw c.stopped-in-Some-stop.ensures (record { ended = tried-ends t x c.in-Some-stop.is })

pub onward-task-requires : goal.onward-task-requires
onward-task-requires c =
    let s = c.loop-s.s in
    let off = c.in_default.is in
    let n = c.try_all-w.result.turns in
    let t : Turned s n c.if-w-ne0.s =
    elim c.if-w-ne0.branch [
      | then-w-ne0 b ↦ subst⁻¹ (Turned s n) b.s-is (record { off = off; view-is = b.turn-s.ensures })
      | else-w-ne0 b ↦ subst⁻¹ (Turned s n) b.s-is (record { off = off; view-is = no_turn n s b.if-w-ne0.false })
    ] in
    let taken = c.try_all-w.ensures.taken_up c.in_default-stop.is in
    front_placed c.loop-s.invariant t taken.0

pub take_up-s-requires-clause-queued : goal.take_up-s-requires-clause-queued
take_up-s-requires-clause-queued c =
    let s = c.loop-s.s in
    let off = c.in_default.is in
    let n = c.try_all-w.result.turns in
    let t : Turned s n c.if-w-ne0.s =
    elim c.if-w-ne0.branch [
      | then-w-ne0 b ↦ subst⁻¹ (Turned s n) b.s-is (record { off = off; view-is = b.turn-s.ensures })
      | else-w-ne0 b ↦ subst⁻¹ (Turned s n) b.s-is (record { off = off; view-is = no_turn n s b.if-w-ne0.false })
    ] in
    let taken = c.try_all-w.ensures.taken_up c.in_default-stop.is in
    turned-some t taken.0

pub loop-s-preserved : goal.loop-s-preserved
loop-s-preserved c =
    let s = c.loop-s.s in
    let off = c.in_default.is in
    let n = c.try_all-w.result.turns in
    let t : Turned s n c.if-w-ne0.s =
    elim c.if-w-ne0.branch [
      | then-w-ne0 b ↦ subst⁻¹ (Turned s n) b.s-is (record { off = off; view-is = b.turn-s.ensures })
      | else-w-ne0 b ↦ subst⁻¹ (Turned s n) b.s-is (record { off = off; view-is = no_turn n s b.if-w-ne0.false })
    ] in
    let x = tried c.loop-s.invariant c.try_all-w.result c.try_all-w.new.log off c.try_all-w.ensures.tries in
    let taken = c.try_all-w.ensures.taken_up c.in_default-stop.is in
    tried-on t x c.in_default-stop.is taken.0 c.onward-task.result c.onward-task.ensures.past_await c.onward-task.ensures.moved c.take_up-s.result c.take_up-s.ensures

pub loop-s-smaller : goal.loop-s-smaller
loop-s-smaller c =
    let x = tried c.loop-s.invariant c.try_all-w.result c.try_all-w.new.log c.in_default.is c.try_all-w.ensures.tries in
    let taken = c.try_all-w.ensures.taken_up c.in_default-stop.is in
    let further = taken.1 in
    let b = tried_within x c.in_default-stop.is in
    omega arith
