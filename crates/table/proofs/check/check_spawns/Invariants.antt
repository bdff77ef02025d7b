use mathlib.Core.Path.{◌≡◌}
use Prim.Native.Nat.{◌+◌, ◌*◌, ◌≤◌}
use lib.ListN.{length}
use Rattle.std.specs.Iterator.Adapters.{enumerate_source, enumerate_count}
use Rattle.std.specs.Slice.Iter.{chunks_exact_rest, chunks_exact_size}
use Rattle.rules.specs.Table.{check_spawns, records}
use Rattle.table.proofs.Whole.{Chunks}
use Rattle.table.proofs.check.check_spawns.Given as goal

abbrev pub invariant-loop-i : goal.invariant-loop-i
invariant-loop-i l =
    let rest = chunks_exact_rest (enumerate_source l.i-iterator) in record {
      chunks : Chunks rest (chunks_exact_size (enumerate_source l.i-iterator));
      decides : check_spawns (records rest) l.n (enumerate_count l.i-iterator) rest ≡ check_spawns (records l.table) l.n 0 l.table;
      placed : 8 * enumerate_count l.i-iterator + length rest ≤ length l.table;
    }
