-- The loop's invariant: what is left of the table makes of the two lists, as they are, what they are to become.
-- Assumes nothing.
use lib.ListN.{length}
use Rattle.rules.specs.Table.{recipe_of}
use Rattle.rules.specs.Places.{nowhere, points_r}
use Rattle.links.specs.Links.{linked, started}
use Rattle.links.proofs.Procedures.{Left}
use Rattle.links.proofs.Links.set.Given as goal

abbrev pub invariant-loop-rest : goal.invariant-loop-rest
invariant-loop-rest l = Left (linked (points_r (recipe_of l.table.bytes.now) 0 nowhere) 0 l.initial.self.next) (started (recipe_of l.table.bytes.now) l.initial.self.starts) l.at l.number l.rest l.self.next l.self.starts

abbrev pub decreases-loop-rest : goal.decreases-loop-rest
decreases-loop-rest l = length l.rest
