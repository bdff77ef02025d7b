use Rattle.values.proofs.Zero.{is-zero, not-zero}
use Rattle.moves.proofs.branch.Goals as goal

pub returns-then-v-eq0 : goal.returns-then-v-eq0
returns-then-v-eq0 c = rw (is-zero c.args.v c.ranges.v c.if-v-eq0.true)

pub returns : goal.returns
returns c = rw (not-zero c.args.v c.if-v-eq0.false) c.body_of.ensures
