use Prim.Native.Nat.{◌+◌}
use mathlib.Core.Path.{◌≡◌}
use lib.ListN.{length}
use Rattle.state.specs.View.{queue_of, turned}
use Rattle.state.proofs.Ring.{tasks_from}
use Rattle.state.proofs.Queue.turned.Given as goal

-- i turns are done, the front not yet moved
abbrev pub invariant-loop-i : goal.invariant-loop-i
invariant-loop-i l =
    (l.self.1 ≡ l.initial.self.1)
    × (length l.self.0 ≡ 32)
    × (tasks_from l.self.0 (l.fn.self.front + l.i) l.fn.self.len ≡ turned l.i (queue_of l.fn.self))
