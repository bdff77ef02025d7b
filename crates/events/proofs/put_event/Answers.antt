use Prim.Native.Nat.{◌<◌, ℕ}
use mathlib.Core.Path.{◌≡◌, ap, ◌∙◌}
use mathlib.Core.List.{List}
use native.Mathlib.Omega.{arith}
use lib.IntN.{ℤ}
use lib.Signed.{mag}
use lib.Seq.{sets}
use mir.Syntax.{w32}
use mir.Val.{to_z, of_z}
use Rattle.rules.specs.Fields.{bits}
use Rattle.rules.specs.Log.{event_row}
use Rattle.values.proofs.Exact.{result32}
use Rattle.events.specs.Events.{row_of}
use Rattle.events.proofs.put_event.Goals as goal

-- the bits of a value, as the code works them out
spelt : (log : List ℕ) (at kind valve task : ℕ) (z : ℤ) {w : ℕ} → mag z < 2147483648 → w ≡ bits (to_z w32 (of_z w32 z))
    → sets log at (row_of kind valve task w) ≡ sets log at (row_of kind valve task (bits z))
spelt log at kind valve task z fits e = ap (λ (w : ℕ). sets log at (row_of kind valve task w)) (e ∙ ap bits (result32 {z = z} fits))

pub returns-in-Spawned : goal.returns-in-Spawned
unfolding event_row
returns-in-Spawned c =
    rw c.in-Spawned.is (rw c.from.ensures at c.put_row.ensures)

pub returns-in-Taken : goal.returns-in-Taken
unfolding event_row
returns-in-Taken c =
    rw c.in-Taken.is c.put_row-in-Taken.ensures

pub returns-in-Gave : goal.returns-in-Gave
unfolding event_row
returns-in-Gave c =
    rw c.in-Gave.is c.put_row-in-Gave.ensures

pub returns-in-Ended : goal.returns-in-Ended
unfolding event_row
returns-in-Ended c =
    rw c.in-Ended.is c.put_row-in-Ended.ensures

pub returns-in-Waits : goal.returns-in-Waits
unfolding event_row
returns-in-Waits c =
    rw c.in-Waits.is (c.put_row-in-Waits.ensures ∙ spelt c.args.log.now c.args.at 4 0 c.in-Waits.t c.in-Waits.z (omega arith) c.unsigned.ensures)

pub returns-in-Turned : goal.returns-in-Turned
unfolding event_row
returns-in-Turned c =
    rw c.in-Turned.is (c.put_row-in-Turned.ensures ∙ spelt c.args.log.now c.args.at 5 0 c.in-Turned.t c.in-Turned.z (omega arith) c.unsigned-in-Turned.ensures)

pub returns-in-Valve : goal.returns-in-Valve
unfolding event_row
returns-in-Valve c =
    rw c.in-Valve.is (c.put_row-in-Valve.ensures ∙ spelt c.args.log.now c.args.at 7 c.in-Valve.v c.in-Valve.t c.in-Valve.z (omega arith) c.unsigned-in-Valve.ensures)
