use Prim.Native.Nat.{ℕ}
use mathlib.Core.Path.{◌≡◌, sym, ap, ◌∙◌}
use native.Mathlib.Omega.{arith}
use lib.Dec.{eqb}
use borrow.Author.Count.{below_more}
use borrow.Author.Tests.{eq-eqb, ne_eqb}
use Rattle.rules.specs.State.{Task}
use Rattle.state.specs.View.{entry, queue_of}
use Rattle.state.proofs.First.{first_none, first_at}
use Rattle.state.proofs.Queue.position.Goals as goal

pub returns-then-from-number : goal.returns-then-from-number
unfolding queue_of
returns-then-from-number c =
    let q = c.args.self.now in
    let n = c.args.number in
    let here : n ≡ (entry q c.loop-i.i).number = sym c.if-from-number.true ∙ c.from.ensures ∙ ap (λ (t : Task ℕ). t.number) c.task.ensures in
    first_at (λ (t : Task ℕ). eqb n t.number) (entry q) q.len c.loop-i.i c.loop-i-test.true c.loop-i.invariant (eq-eqb _ _ here)

pub loop-i-preserved : goal.loop-i-preserved
loop-i-preserved c =
    let n = c.args.number in
    let is : c.from.result ≡ (entry c.args.self.now c.loop-i.i).number = c.from.ensures ∙ ap (λ (t : Task ℕ). t.number) c.task.ensures in
    below_more _ _ c.loop-i.invariant (ne_eqb _ _ (λ e. c.if-from-number.false (is ∙ sym e)))

pub returns : goal.returns
unfolding queue_of
returns c =
    let q = c.args.self.now in
    first_none (λ (t : Task ℕ). eqb c.args.number t.number) (entry q) q.len (λ k h. c.loop-i.invariant k (omega arith))
