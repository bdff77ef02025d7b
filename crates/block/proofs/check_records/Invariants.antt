use mathlib.Core.Path.{◌≡◌}
use Prim.Native.Nat.{◌-◌}
use Rattle.rules.specs.Table.{recipe_of}
use Rattle.rules.specs.Places.{is_place}
use Rattle.rules.specs.State.{check_records}
use Rattle.block.specs.Block.{OffsetOf}
use Rattle.block.proofs.check_records.Given as goal

abbrev pub invariant-loop-i : goal.invariant-loop-i
invariant-loop-i l =
    OffsetOf l.i l.at
    × (check_records (is_place (recipe_of l.table.bytes.now)) l.block (65 - l.i) l.i ≡ check_records (is_place (recipe_of l.table.bytes.now)) l.block 65 0)
