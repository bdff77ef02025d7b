use mathlib.Core.Path.{◌≡◌}
use Prim.Native.Nat.{◌+◌, ◌*◌}
use Rattle.rules.specs.State.{unlike}
use Rattle.block.specs.Block.{OffsetOf}
use Rattle.block.proofs.is_new.Given as goal

abbrev pub invariant-loop : goal.invariant-loop
invariant-loop l = OffsetOf (2 * l.counter + 1) l.earlier × (l.new ≡ unlike l.block l.number l.counter)
