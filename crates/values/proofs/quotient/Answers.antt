use mathlib.Core.Path.{ap, ◌∙◌}
use mathlib.Core.Option.{some}
use Rattle.rules.specs.Values.{clamp, quotient}
use Rattle.values.proofs.Exact.{result32, quotient_read}
use Rattle.values.proofs.quotient.Goals as goal

pub returns : goal.returns
unfolding quotient
returns c =
    let exact = quotient_read c.ranges.a c.ranges.b c.from.ensures c.from-2.ensures in
    rw c.requires (ap some (result32 c.clamp.type_inv ∙ c.clamp.ensures ∙ ap clamp exact))
