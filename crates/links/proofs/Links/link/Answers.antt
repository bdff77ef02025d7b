use mathlib.Core.Path.{◌≡◌}
use borrow.Author.Rules.{rules}
use lib.ListN.{length}
use Rattle.links.proofs.Leading.{links_set}
use Rattle.links.proofs.Links.link.Goals as goal

pub invariant_of-result : goal.invariant_of-result
invariant_of-result c =
    let table = c.args.table in
    let next : length c.args.self.now.next ≡ 4096 = search rules in
    let starts : length c.args.self.now.starts ≡ 256 = search rules in
    record { linked = links_set _ table.in_bytes table.fine c.args.self.now c.set.new.self next starts c.set.ensures.next_after c.set.ensures.starts_after }
