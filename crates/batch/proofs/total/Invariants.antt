use Prim.Native.Nat.{◌*◌, ◌≤◌}
use mathlib.Core.Path.{◌≡◌}
use lib.ListN.{length}
use Rattle.std.specs.Slice.Iter.{chunks_exact_rest, chunks_exact_size}
use Rattle.rules.specs.Batch as B
use Rattle.batch.proofs.Lengths.{Left}
use Rattle.batch.proofs.total.Given as goal

abbrev pub invariant-loop-length : goal.invariant-loop-length
invariant-loop-length l =
    let n = length l.yielded in record {
      left : Left l.lengths n (chunks_exact_rest l.length-iterator) (chunks_exact_size l.length-iterator);
      fits : l.sum ≤ n * 4294967295;
      added : l.sum ≡ B.total n l.lengths;
    }
