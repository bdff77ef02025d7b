use mathlib.Core.Path.{refl}
use Rattle.rules.specs.State.{fresh, tab}
use Rattle.state.specs.View.{queue_of}
use Rattle.state.proofs.State.fresh.Goals as goal

pub returns : goal.returns
unfolding fresh queue_of tab
returns c = rw c.spawned_by.ensures refl
