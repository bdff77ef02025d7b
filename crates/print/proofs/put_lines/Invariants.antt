use Prim.Native.Nat.{◌+◌, ◌*◌, ◌≤◌}
use mathlib.Core.Path.{◌≡◌}
use lib.ListN.{length}
use Rattle.std.specs.Iterator.Adapters.{take_source, take_count}
use Rattle.std.specs.Slice.Iter.{chunks_exact_rest, chunks_exact_size}
use Rattle.rules.specs.Print.{lines}
use Rattle.text.specs.Puts.{Puts}
use Rattle.print.proofs.Records.{Left}
use Rattle.print.proofs.put_lines.Given as goal

abbrev pub invariant-loop-record : goal.invariant-loop-record
invariant-loop-record l =
    let n = length l.yielded in
    let chunks = take_source l.record-iterator in record {
      counted : n + take_count l.record-iterator ≡ l.records;
      left : Left l.log n (chunks_exact_rest chunks) (chunks_exact_size chunks);
      short : l.at ≤ 30 * n;
      written : Puts l.initial.b 0 (lines l.log n) l.at l.b;
    }
