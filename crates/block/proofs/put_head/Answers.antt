use mathlib.Core.Path.{◌≡◌}
use native.Mathlib.Omega.{arith}
use lib.ListN.{set}
use lib.Seq.{sets}
use Rattle.rules.specs.Fields.{bytes2, bytes4}
use Rattle.rules.proofs.Lists.{take_sets}
use Rattle.block.specs.Block.{head_of}
use Rattle.block.proofs.put_head.Goals as goal

pub returns : goal.returns
unfolding head_of
returns c =
    let a = c.args in
    let p : c.put_half.new.b ≡ sets a.b.now 0 (bytes2 a.issued) = c.put_half.ensures in
    let l = set (set c.put_half.new.b 2 a.live) 3 a.taken in
    let q : c.put_word.new.b ≡ sets l 4 (bytes4 0) = c.put_word.ensures in
    rw (q, p) (take_sets (head_of a.issued a.live a.taken) a.b.now 0 (omega arith))
