use Prim.Native.Nat.{ℕ}
use mathlib.Core.Path.{ap, ◌∙◌}
use Rattle.rules.specs.State as R
use Rattle.rules.specs.Steps.{counting, counted}
use Rattle.state.proofs.Ring.{front_rest}
use Rattle.state.proofs.State.take_up.Goals as goal

pub returns : goal.returns
returns c =
    let s = c.args.self in
    let r = c.requires in
    rw (front_rest s.queue r.queued, c.popped.ensures.tasks, c.counted.ensures ∙ ap (λ (t : R.Task ℕ). counted counting t) r.front)
