use Rattle.std.proofs.Common.{◌≡◌, ℕ, ◌*◌, List, ◌++◌, length, take, drop, refl, ap, ◌∙◌, arith}
use Rattle.std.proofs.lemmas.List.{take_all}
use Rattle.rules.specs.Why.{halves}
use Rattle.why.proofs.Naming.{numbers_more}
use Rattle.why.proofs.put_numbers.Goals as goal

pub loop-i-init : goal.loop-i-init
unfolding halves
loop-i-init c = refl

pub loop-i-preserved : goal.loop-i-preserved
loop-i-preserved c = c.put_half.ensures ∙ numbers_more c.args.out.now c.args.numbers.now c.loop-i.out c.loop-i.i (omega arith) (omega arith) c.loop-i.invariant

pub returns : goal.returns
returns c =
    let ns = c.args.numbers.now in
    let e : c.loop-i.i ≡ length ns = omega arith in
    c.loop-i.invariant ∙ ap (λ (k : ℕ). halves (take k ns) ++ drop (2 * k) c.args.out.now) e ∙ ap (λ (l : List ℕ). halves l ++ drop (2 * length ns) c.args.out.now) (take_all (length ns) ns (omega arith))
