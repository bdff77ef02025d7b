use Prim.Native.Nat.{ℕ, ◌+◌, ◌-◌, ◌*◌}
use mathlib.Core.Path.{◌≡◌, ap, ◌∙◌}
use mathlib.Core.List.{List}
use native.Mathlib.Omega.{arith}
use Rattle.std.specs.Iterator.Adapters.{enumerate_source}
use Rattle.std.specs.Slice.Iter.{chunks_exact_rest, chunks_exact_size}
use Rattle.rules.specs.Batch.{outcome_bytes}
use Rattle.batch.proofs.Lengths.{left_all, left_none, left_some, left_word, left_next}
use Rattle.batch.proofs.Outcomes.{written_none, written_all, written_ends, written_more}
use Rattle.batch.proofs.put_outcomes.Goals as goal

pub loop-i-init : goal.loop-i-init
loop-i-init c =
    let e = c.chunks_exact.ensures in
    let s = c.enumerate-i-items.ensures in
    let i = c.into_iter-i-iterator.ensures.into_iter_gives in
    rw i record {
      left = left_all _ _ _ _ s.count (ap chunks_exact_rest s.source ∙ e.rest) (ap chunks_exact_size s.source ∙ e.size);
      written = written_none _ _ _ _ s.count c.requires.room;
    }

pub split_at-requires : goal.split_at-requires
split_at-requires c =
    let i = c.loop-i.invariant in
    let t = c.in-Some.ensures.steps.0.1 in
    let x = c.in-Some.length.now in
    let r = chunks_exact_rest (enumerate_source c.next.new.self) in
    written_ends _ _ i.written (left_some i.left x r t.0 t.1) (c.word_at.ensures ∙ left_word i.left x r t.0 t.1) c.requires

pub loop-i-preserved : goal.loop-i-preserved
loop-i-preserved c =
    let i = c.loop-i.invariant in
    let t = c.in-Some.ensures.steps in
    let x = c.in-Some.length.now in
    let r = chunks_exact_rest (enumerate_source c.next.new.self) in
    let w = c.word_at.ensures ∙ left_word i.left x r t.0.1.0 t.0.1.1 in
    let p = c.put_outcome.ensures ∙ ap (λ (b : List ℕ). outcome_bytes b) c.split_at.ensures.front in
    let k : 8 * c.in-Some.i + 8 - 8 * c.in-Some.i ≡ 8 = omega arith in
    rw t.2 record {
      left = left_next i.left x r t.0.1.0 t.0.1.1 t.0.0;
      written =
          written_more _ _ i.written (left_some i.left x r t.0.1.0 t.0.1.1) w _ c.put_outcome.new.out _ _ c.split_at.ensures.back p (ap (λ (n : ℕ). 8 * n) t.1) k;
    }

pub returns : goal.returns
returns c =
    let i = c.loop-i.invariant in
    written_all _ _ i.written (left_none i.left c.in-None.ensures.steps.0.1.0)
