use Rattle.state.specs.View.{queue_of}
use Rattle.state.proofs.Ring.{rest}
use Rattle.state.proofs.Queue.popped.Goals as goal

pub returns-clause-tasks : goal.returns-clause-tasks
unfolding queue_of
returns-clause-tasks c =
    let q = c.args.self in
    rest q.tasks q.front q.len c.requires
