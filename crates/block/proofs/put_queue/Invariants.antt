use mathlib.Core.Path.{◌≡◌}
use mathlib.Core.List.{◌++◌}
use Prim.Native.Nat.{◌+◌, ◌*◌}
use lib.ListN.{length, take}
use Rattle.block.specs.Block.{OffsetOf, ring_rows}
use Rattle.block.proofs.put_queue.Given as goal

abbrev pub invariant-loop-i : goal.invariant-loop-i
invariant-loop-i l =
    OffsetOf (l.first + 2 * l.i) l.to × (length l.b ≡ 776) × (take l.to l.b ≡ take l.start l.initial.b ++ ring_rows l.queue l.i)
