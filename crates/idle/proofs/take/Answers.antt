use Prim.Native.Nat.{suc, ◌-◌}
use mathlib.Core.Path.{◌≡◌}
use native.Mathlib.Omega.{arith}
use Rattle.idle.proofs.take.Goals as goal

pub returns : goal.returns
returns c =
    let a = c.args in
    let e = c.if-n-budget.false in
    let b = c.requires.0 in
    let left : a.budget - a.n.steps ≡ suc (a.budget - a.n.steps - 1) = omega arith in
    λ x s. rw left (c.note.ensures x (a.budget - a.n.steps - 1) s)
