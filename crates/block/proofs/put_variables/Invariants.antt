use mathlib.Core.Path.{◌≡◌}
use mathlib.Core.List.{◌++◌}
use Prim.Native.Nat.{◌+◌, ◌*◌}
use lib.IntN.{pos}
use lib.ListN.{length, get_or, take}
use Rattle.rules.specs.Fields.{bits, bytes4}
use Rattle.rules.specs.State.{joined}
use Rattle.block.proofs.put_variables.Given as goal

abbrev pub invariant-loop-j : goal.invariant-loop-j
invariant-loop-j l =
    (length l.b ≡ 776) × (take (520 + 4 * l.j) l.b ≡ take 520 l.initial.b ++ joined l.j (λ k. bytes4 (bits (get_or l.variables k (pos 0)))))
