-- The measure is twice the levels left, and one more for a row. The loop's invariant: what is left of the row makes of the list, as it is,
-- what it is to become.
-- Assumes nothing.
use Prim.Native.Nat.{◌+◌, ◌*◌}
use mathlib.Core.Path.{◌≡◌}
use lib.ListN.{length}
use Rattle.rules.specs.Table.{body_of}
use Rattle.rules.specs.Places.{points_b}
use Rattle.links.specs.Links.{linked, BodySpelt}
use Rattle.links.proofs.+link_body_link_statement.Given as goal

abbrev pub decreases-link_body : goal.decreases-link_body
decreases-link_body l = 2 * l.left + 1

abbrev pub decreases-link_statement : goal.decreases-link_statement
decreases-link_statement l = 2 * l.left

abbrev pub invariant-link_body-loop-rest : goal.invariant-link_body-loop-rest
invariant-link_body-loop-rest l = BodySpelt l.here l.left l.rest × (linked (points_b (body_of l.part) l.at l.follow) l.at l.initial.next ≡ linked (points_b (body_of l.rest) l.here l.follow) l.here l.next)

abbrev pub decreases-link_body-loop-rest : goal.decreases-link_body-loop-rest
decreases-link_body-loop-rest l = length l.rest
