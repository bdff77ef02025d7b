use borrow.Author.Tests.{ne_eqb}
use Rattle.rules.specs.Values.{apply1}
use Rattle.values.proofs.UnaryOperatorFromU8.from.Goals as goal

pub returns-else-op-eq0 : goal.returns-else-op-eq0
unfolding apply1
returns-else-op-eq0 c = λ a. rw (ne_eqb _ _ c.if-op-eq0.false)
