use Rattle.std.proofs.Common.{ℕ, ap}
use Rattle.rules.specs.Why.{unexplained}
use Rattle.why.proofs.ExplainedFromRefusal.from.Goals as goal

pub returns : goal.returns
returns c = λ l. ap (λ (n : ℕ). unexplained n c.args.refusal.place l) c.into.ensures
