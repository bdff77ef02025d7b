use mathlib.Core.Path.{ap, ◌∙◌}
use native.Mathlib.Omega.{arith}
use Rattle.runner.specs.declared.Started.{Started}
use Rattle.runner.specs.Calls.{started_of}
use Rattle.runner.proofs.Calling.{start_promised}
use Rattle.runner.proofs.start.Goals as goal

pub returns : goal.returns
returns c =
    let block = c.set_fresh.new.state in
    let is = ap (λ (r : Started). started_of r block) c.into.ensures ∙ c.set_fresh.ensures in
    let p = start_promised c.args.table.now c.args.state.now (λ i. omega (arith, c.type_inv.table i)) _ block is in
    record { state_after = p.0; start_answers = p.1.0; start_says = p.1.1.0; keeps_histories = p.1.1.1 }
