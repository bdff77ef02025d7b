-- The loop's invariant: what is left of the table makes of the two lists, as they are, what they are to become.
-- Assumes nothing.
use mathlib.Core.Path.{ap}
use native.Mathlib.Omega.{arith}
use lib.ListN.{length}
use Rattle.rules.proofs.Grammar.Checking.{length-after}
use Rattle.links.proofs.Procedures.{left_all, left_none, turn}
use Rattle.links.proofs.Links.set.Goals as goal

pub loop-rest-init : goal.loop-rest-init
loop-rest-init c = let a = c.args in left_all a.table.bytes.now a.self.now.next a.self.now.starts a.table.in_bytes a.table.fine

pub span_of-requires : goal.span_of-requires
span_of-requires c = omega (arith, (turn c.loop-rest.invariant c.loop-rest-test.true).whole)

pub enclosed-requires : goal.enclosed-requires
enclosed-requires c = (turn c.loop-rest.invariant c.loop-rest-test.true).whole

pub place-requires : goal.place-requires
place-requires c = omega (arith, (turn c.loop-rest.invariant c.loop-rest-test.true).few, c.span_of.ensures.0)

pub link_body-requires : goal.link_body-requires
link_body-requires c = rw c.enclosed.ensures (turn c.loop-rest.invariant c.loop-rest-test.true).body

pub place-requires-in-loop-rest : goal.place-requires-in-loop-rest
place-requires-in-loop-rest c = omega (arith, (turn c.loop-rest.invariant c.loop-rest-test.true).few)

pub beyond-more-requires : goal.beyond-more-requires
beyond-more-requires c = (turn c.loop-rest.invariant c.loop-rest-test.true).whole

pub loop-rest-smaller : goal.loop-rest-smaller
loop-rest-smaller c =
    omega (arith, ap length c.beyond-more.ensures, length-after c.loop-rest.rest.now, (turn c.loop-rest.invariant c.loop-rest-test.true).whole)

pub loop-rest-preserved : goal.loop-rest-preserved
loop-rest-preserved c =
    rw (c.put_start.ensures, c.place-in-loop-rest.ensures, c.link_body.ensures, c.enclosed.ensures, c.place.ensures, c.span_of.ensures.0, c.beyond-more.ensures)
    (turn c.loop-rest.invariant c.loop-rest-test.true).behind

pub returns-clause-next_after : goal.returns-clause-next_after
returns-clause-next_after c = (left_none c.loop-rest.invariant (omega (arith, c.loop-rest-test.false))).0

pub returns-clause-starts_after : goal.returns-clause-starts_after
returns-clause-starts_after c = (left_none c.loop-rest.invariant (omega (arith, c.loop-rest-test.false))).1
