use mathlib.Core.Path.{◌≡◌}
use borrow.Author.Rules.{rules}
use lib.ListN.{length}
use Rattle.state.specs.View.{queue_of}
use Rattle.state.proofs.Ring.{joins}
use Rattle.state.proofs.Queue.pushed.Goals as goal

pub returns-clause-tasks : goal.returns-clause-tasks
unfolding queue_of
returns-clause-tasks c =
    let q = c.args.self in
    let sized : length q.tasks ≡ 32 = search rules in
    joins q.tasks q.front q.len c.args.task sized c.requires
