use mathlib.Core.Path.{◌≡◌, sym, ap, ◌∙◌}
use mathlib.Core.Logic.{dite}
use native.Mathlib.Decide.{dec_lt}
use native.Mathlib.Omega.{arith}
use lib.ListN.{length}
use Rattle.std.proofs.lemmas.List.{length_push}
use Rattle.std.specs.Iterator.Adapters.{take_source, take_count}
use Rattle.std.specs.Slice.Iter.{chunks_exact_rest, chunks_exact_size}
use Rattle.text.proofs.Buffers as buffers
use Rattle.text.proofs.Buffers.{none, reads_as, then}
use Rattle.print.proofs.Records.{left_all, left_none, left-line, left_next}
use Rattle.print.proofs.Texts.{lines_none, lines_more}
use Rattle.print.proofs.put_lines.Goals as goal

pub loop-record-init : goal.loop-record-init
loop-record-init c =
    let e = c.chunks_exact.ensures in
    let t = c.take-record-items.ensures in
    let i = c.into_iter-record-iterator.ensures.into_iter_gives in
    rw i record {
      counted = omega (arith, t.count);
      left = left_all _ _ _ (ap chunks_exact_rest t.source ∙ e.rest) (ap chunks_exact_size t.source ∙ e.size);
      short = omega arith;
      written = reads_as (sym (lines_none c.args.log.now)) (none c.args.b.now);
    }

pub put_record-at-requires-clause-whole : goal.put_record-at-requires-clause-whole
put_record-at-requires-clause-whole c = c.in-Some.ensures.steps.0.1.1 ∙ c.loop-record.invariant.left.chunks.sized

pub put_record-at-requires-clause-at_in_bounds : goal.put_record-at-requires-clause-at_in_bounds
put_record-at-requires-clause-at_in_bounds c = omega (arith, buffers.same_length c.loop-record.invariant.written, c.in-Some.ensures.steps.1)

pub loop-record-preserved : goal.loop-record-preserved
loop-record-preserved c =
    let i = c.loop-record.invariant in
    let t = c.in-Some.ensures.steps in
    let x = c.in-Some.record.now in
    let r = chunks_exact_rest (take_source c.next.new.self) in
    let p = c.put_record-at.ensures in
    let line = left-line i.left x r t.0.1.0 t.0.1.1 in
    let more = reads_as line p.puts in
    let n = length_push c.loop-record.yielded c.in-Some.record in
    rw n record {
      counted = omega (arith, i.counted, t.1);
      left = left_next i.left x r t.0.1.0 t.0.1.1 t.0.0;
      short = omega (arith, p.upper_bound, i.short);
      written = reads_as (sym (lines_more c.args.log.now (length c.loop-record.yielded))) (then i.written more);
    }

pub shape_of-b : goal.shape_of-b
shape_of-b c = buffers.same_length c.loop-record.invariant.written

pub returns : goal.returns
returns c =
    let i = c.loop-record.invariant in
    let n = length c.loop-record.yielded in
    let all : n ≡ c.args.records = dite (dec_lt 0 (take_count c.loop-record.record-iterator))
    (λ h. omega (arith, i.counted, left_none i.left (c.in-None.ensures.steps h).1.0))
    (λ h. omega (arith, i.counted)) in
    rw (← all) record { puts = i.written; upper_bound = i.short }
