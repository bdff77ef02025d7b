use mathlib.Core.Path.{◌≡◌, ◌∙◌}
use native.Mathlib.Omega.{arith}
use Rattle.std.proofs.lemmas.Int.{ints}
use mir.Syntax.{w32, w64}
use mir.Val.{to_z, of_z}
use mir.Facts.{to_z-of_z}
use Rattle.std.specs.Int.{int_max, int_min}
use Rattle.rules.specs.Values.{lowest, highest}
use Rattle.values.proofs.Range.{nearest}
use Rattle.values.proofs.clamp.Goals as goal

pub returns : goal.returns
returns c =
    let same : c.clamp.result ≡ int_max lowest (int_min c.args.x highest) =
    rw (to_z-of_z c.ranges.x, c.from.ensures, c.from-2.ensures) at c.clamp.ensures.value in
    let read : to_z w32 (of_z w32 (to_z w64 (of_z w64 c.clamp.result))) ≡ c.clamp.result = omega (arith, ints) in
    read ∙ same ∙ nearest c.args.x
