use mathlib.Core.Path.{◌≡◌, refl, sym, ap, ◌∙◌}
use Prim.Native.Nat.{◌+◌, ◌/◌}
use native.Mathlib.Omega.{arith}
use Rattle.rules.specs.Fields.{half}
use Rattle.rules.specs.State.{number_in, unlike}
use Rattle.block.proofs.Checking.{one_there, one_other}
use Rattle.block.proofs.is_new.Goals as goal
use Rattle.block.proofs.is_new.Goals.{then-half_at-number, else-half_at-number}

pub loop-init : goal.loop-init
unfolding unlike
loop-init c = (refl, refl)

pub loop-preserved : goal.loop-preserved
loop-preserved c =
    let b = c.args.block.now in
    let n = c.half_at-number.result in
    let k = c.loop.counter in
    let there = c.half_at.ensures ∙ ap (half b) c.loop.invariant.0 in
    let new : c.if-half_at-number.new ≡ unlike b n (k + 1) = elim c.if-half_at-number.branch [
      | then-half_at-number w ↦ w.new-is ∙ one_there b n k (sym there ∙ w.if-half_at-number.true)
      | else-half_at-number w ↦ w.new-is ∙ c.loop.invariant.1 ∙ one_other b n k (λ d. w.if-half_at-number.false (there ∙ d))
    ] in
    (omega arith, new)

pub returns : goal.returns
returns c =
    let b = c.args.block.now in
    let own : c.half_at-number.result ≡ number_in b c.args.i = c.half_at-number.ensures ∙ ap (half b) c.requires.offset in
    let all : c.loop.counter ≡ c.args.i / 2 = omega arith in
    rw (← own, ← all) c.loop.invariant.1
