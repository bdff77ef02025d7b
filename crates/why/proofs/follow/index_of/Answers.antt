use Rattle.std.proofs.Common.{◌≡◌, None, Some, sym, ap, ◌∙◌}
use mir.Facts.{to_z-of_z}
use Rattle.state.specs.View.{queue_of}
use Rattle.ready.specs.Ready.{natural}
use Rattle.why.proofs.Holding.{index-number, index_none}
use Rattle.why.proofs.follow.index_of.Goals as goal

pub returns-in_err-natural : goal.returns-in_err-natural
returns-in_err-natural c =
    let a = c.args in
    let none : natural a.v ≡ None = sym (c.natural.ensures ∙ ap natural (to_z-of_z c.ranges.v)) ∙ c.in_err-natural.was in
    c.from_residual.ensures ∙ index_none a.v (queue_of a.s.now.queue) none

pub returns : goal.returns
returns c =
    let a = c.args in
    let some : natural a.v ≡ Some c.in_ok-natural.field-0 = sym (c.natural.ensures ∙ ap natural (to_z-of_z c.ranges.v)) ∙ c.in_ok-natural.was in
    c.position.ensures ∙ index-number a.v _ (queue_of a.s.now.queue) some
