use Rattle.std.specs.Iterator.Adapters.{enumerate_source, enumerate_count}
use Rattle.std.specs.Slice.Iter.{chunks_exact_rest, chunks_exact_size}
use Rattle.batch.proofs.Lengths.{Left}
use Rattle.batch.proofs.Outcomes.{Written}
use Rattle.batch.proofs.put_outcomes.Given as goal

abbrev pub invariant-loop-i : goal.invariant-loop-i
invariant-loop-i l =
    let n = enumerate_count l.i-iterator in
    let chunks = enumerate_source l.i-iterator in record {
      left : Left l.lengths n (chunks_exact_rest chunks) (chunks_exact_size chunks);
      written : Written l.recipes l.lengths n l.rest l.out;
    }
