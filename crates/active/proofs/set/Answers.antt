use Prim.Native.Nat.{ℕ}
use mathlib.Core.Path.{refl, ap}
use mir.Facts.{to_z-of_z}
use Rattle.rules.specs.State as R
use Rattle.rules.specs.Steps.{go_with}
use Rattle.state.specs.View.{task_of}
use Rattle.active.specs.Active.{env}
use Rattle.active.proofs.Acting.{write-own, write-other}
use Rattle.active.proofs.set.Goals as goal

pub returns-then-name-eq64 : goal.returns-then-name-eq64
returns-then-name-eq64 c =
    let a = c.args in
    let e = write-own (env a.variables.now (task_of a.t)) a.name a.v c.if-name-eq64.true in
    rw e (refl, rw (to_z-of_z c.ranges.v) (ap (λ (t : R.Task ℕ). go_with t a.v t.place) c.at-task.ensures))

pub returns-else-name-eq64 : goal.returns-else-name-eq64
returns-else-name-eq64 c =
    let a = c.args in
    let e = write-other (env a.variables.now (task_of a.t)) a.name a.v c.if-name-eq64.false in
    rw e (rw (c.from.ensures, to_z-of_z c.ranges.v), c.at-task.ensures)
