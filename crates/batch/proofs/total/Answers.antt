use Prim.Native.Nat.{ℕ, ◌+◌}
use mathlib.Core.Path.{refl, ap, ap₂, ◌∙◌}
use native.Mathlib.Numerals.{add-one}
use native.Mathlib.Omega.{arith}
use Rattle.std.proofs.lemmas.List.{length_push}
use Rattle.std.specs.Slice.Iter.{chunks_exact_rest}
use Rattle.rules.specs.Batch as B
use Rattle.batch.proofs.Lengths.{left_all, left_none, left_word, left_next}
use Rattle.batch.proofs.total.Goals as goal

pub loop-length-init : goal.loop-length-init
unfolding B.total
loop-length-init c =
    let i = c.into_iter-length-iterator.ensures.into_iter_gives in
    let e = c.chunks_exact-length-items.ensures in
    record { left = rw i (left_all _ _ 0 _ refl e.rest e.size); fits = omega arith; added = refl }

pub overflow_add-sum : goal.overflow_add-sum
overflow_add-sum c = omega arith

pub loop-length-preserved : goal.loop-length-preserved
unfolding B.total
loop-length-preserved c =
    let i = c.loop-length.invariant in
    let t = c.in-Some.ensures.steps in
    let x = c.in-Some.length.now in
    let r = chunks_exact_rest c.next.new.self in
    let n = length_push c.loop-length.yielded c.in-Some.length in
    let w = c.word_at.ensures ∙ left_word i.left x r t.1.0 t.1.1 in
    rw n record {
      left = left_next i.left x r t.1.0 t.1.1 t.0;
      fits = omega arith;
      added = rw add-one (ap₂ (λ (n m : ℕ). n + m) i.added w);
    }

pub returns : goal.returns
returns c =
    let i = c.loop-length.invariant in
    let e = left_none i.left c.in-None.ensures.steps.1.0 in
    i.added ∙ ap (λ (k : ℕ). B.total k c.args.lengths.now) e
