use mathlib.Core.Path.{◌≡◌}
use Prim.Native.Nat.{◌+◌, ◌*◌, ◌≤◌}
use lib.ListN.{length}
use Rattle.std.specs.Slice.Iter.{chunks_exact_rest, chunks_exact_size}
use Rattle.rules.specs.Table.{procedures, records}
use Rattle.table.proofs.Whole.{Chunks}
use Rattle.table.proofs.check.procedures_in.Given as goal

abbrev pub invariant-loop-record : goal.invariant-loop-record
invariant-loop-record l =
    let rest = chunks_exact_rest l.record-iterator in record {
      chunks : Chunks rest (chunks_exact_size l.record-iterator);
      counted : l.count + procedures (records rest) rest ≡ procedures (records l.table) l.table;
      few : 8 * l.count + length rest ≤ length l.table;
    }
