use Rattle.std.proofs.Common.{arith}
use Rattle.makers.proofs.Theorem.{kept_apart}
use Rattle.makers.proofs.kept_apart.Goals as goal

pub returns : goal.returns
returns c = kept_apart c.args.one.now c.args.other.now (λ i. omega (arith, c.type_inv.one i)) (λ i. omega (arith, c.type_inv.other i))
