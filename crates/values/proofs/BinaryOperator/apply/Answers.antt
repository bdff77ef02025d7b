use mathlib.Core.Path.{ap}
use mathlib.Core.Bool.{◌&&◌, ◌||◌}
use mathlib.Core.Option.{some}
use lib.IntN.{◌+ℤ◌, ◌-ℤ◌, ◌*ℤ◌}
use lib.Signed.{lt_z}
use Rattle.rules.specs.Values.{clamp, quotient, equal, truth, flag, apply2}
use Rattle.values.proofs.Exact.{applied2, found2}
use Rattle.values.proofs.Zero.{is-zero}
use Rattle.values.proofs.BinaryOperator.apply.Goals as goal

pub returns-in-Sum : goal.returns-in-Sum
unfolding apply2
returns-in-Sum c = let s = c.ranges in
    rw c.in-Sum.is (ap some (applied2 (λ x y. clamp (x +ℤ y)) s.a s.b c.sum-value.type_inv c.sum-value.ensures))

pub returns-in-Difference : goal.returns-in-Difference
unfolding apply2
returns-in-Difference c = let s = c.ranges in
    rw c.in-Difference.is (ap some (applied2 (λ x y. clamp (x -ℤ y)) s.a s.b c.difference-value.type_inv c.difference-value.ensures))

pub returns-in-Product : goal.returns-in-Product
unfolding apply2
returns-in-Product c = let s = c.ranges in
    rw c.in-Product.is (ap some (applied2 (λ x y. clamp (x *ℤ y)) s.a s.b c.product-value.type_inv c.product-value.ensures))

pub returns-then-b-eq0 : goal.returns-then-b-eq0
unfolding apply2 quotient
returns-then-b-eq0 c = rw (c.in-Quotient.is, is-zero c.args.b c.ranges.b c.if-b-eq0.true)

pub returns-else-b-eq0 : goal.returns-else-b-eq0
unfolding apply2
returns-else-b-eq0 c = let s = c.ranges in
    rw c.in-Quotient.is (found2 quotient s.a s.b c.quotient-value.type_inv c.quotient-value.ensures)

pub returns-in-Less : goal.returns-in-Less
unfolding apply2
returns-in-Less c = let s = c.ranges in
    rw c.in-Less.is (ap some (applied2 (λ x y. flag (lt_z x y)) s.a s.b c.less-value.type_inv c.less-value.ensures))

pub returns-in-Equal : goal.returns-in-Equal
unfolding apply2
returns-in-Equal c = let s = c.ranges in
    rw c.in-Equal.is (ap some (applied2 (λ x y. flag (equal x y)) s.a s.b c.equal-value.type_inv c.equal-value.ensures))

pub returns-in-Both : goal.returns-in-Both
unfolding apply2
returns-in-Both c = let s = c.ranges in
    rw c.in-Both.is (ap some (applied2 (λ x y. flag (truth x && truth y)) s.a s.b c.both-value.type_inv c.both-value.ensures))

pub returns-in-Either : goal.returns-in-Either
unfolding apply2
returns-in-Either c = let s = c.ranges in
    rw c.in-Either.is (ap some (applied2 (λ x y. flag (truth x || truth y)) s.a s.b c.either-value.type_inv c.either-value.ensures))
