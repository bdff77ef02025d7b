use Rattle.std.proofs.Common.{ℤ, ap, ◌∙◌, rules}
use Rattle.state.specs.View.{queue_of}
use Rattle.why.specs.Follow.{index_in}
use Rattle.why.proofs.Holding.{held_by_index}
use Rattle.why.proofs.follow.held_by.Goals as goal

-- a task that waits for a number is held by the queued task of that number, if there is one
pub returns-in-Waits : goal.returns-in-Waits
returns-in-Waits c =
    let q = c.args.s.now.queue in
    let same = c.index_of.ensures ∙ ap (λ (z : ℤ). index_in z (queue_of q)) (search rules) in
    rw (c.in-Waits.is, c.ok_or.ensures.value) (held_by_index q c.in-Waits.v _ same)
