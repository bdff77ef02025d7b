use Prim.Native.Nat.{ℕ, suc, ◌+◌, ◌%◌}
use mathlib.Core.Path.{◌≡◌, refl, sym, ◌∙◌}
use mathlib.Core.List.{List}
use borrow.Author.Rules.{rules}
use native.Mathlib.Omega.{arith}
use native.Mathlib.Nat.{add-zero}
use native.Mathlib.Numerals.{add-one}
use lib.ListN.{length, get_or, set, length-set}
use Rattle.state.specs.declared.Task.{Task}
use Rattle.state.specs.declared.Queue.{Queue}
use Rattle.state.specs.View.{ring, no_task, queue_of, turned}
use Rattle.state.proofs.Ring.{tasks_from, queue-is, front-any, one-turn, turned_more}
use Rattle.state.proofs.Queue.turned.Goals as goal

abbrev Tail : Type 0
Tail = ℕ × (ℕ × Unit {0})

module _ (q : Queue) (ts : List Task) (r : Tail) (i : ℕ) (same : r ≡ (q.front, (q.len, tt))) (sized : length ts ≡ 32)
    (turns : tasks_from ts (q.front + i) q.len ≡ turned i (queue_of q)) where
  abbrev next : List Task
  next = set ts ((ring r.0 i + r.1.0) % 32) (get_or ts (ring r.0 i) no_task)

  more : (r ≡ (q.front, (q.len, tt))) × (length next ≡ 32) × (tasks_from next (q.front + (i + 1)) q.len ≡ turned (i + 1) (queue_of q))
  more =
      let few = q.few in
      let to : (ring q.front i + q.len) % 32 ≡ ring (q.front + i) q.len = omega arith in
      let after : q.front + (i + 1) ≡ suc (q.front + i) = omega arith in
      let turn = one-turn ts (q.front + i) q.len sized few in (
        same,
        length-set ts _ _ ∙ sized,
        rw (same, to, after, turn, turns, add-one) (sym (turned_more i (queue_of q))),
      )

  over : (n : ℕ) → i ≡ n → tasks_from ts ((r.0 + n) % 32) r.1.0 ≡ turned n (queue_of q)
  over n e = rw (same, ← e) (front-any ts (q.front + i) q.len ∙ turns)

pub loop-i-init : goal.loop-i-init
loop-i-init c =
    let q = c.args.self in
    let sized : length q.tasks ≡ 32 = search rules in
    (refl, sized, rw (add-zero q.front) (sym (queue-is q)))

pub loop-i-preserved : goal.loop-i-preserved
loop-i-preserved c =
    let l = c.loop-i in
    let v = l.invariant in
    more c.args.self l.self.0 l.self.1 l.i v.0 v.1 v.2

pub returns-clause-tasks : goal.returns-clause-tasks
unfolding queue_of
returns-clause-tasks c =
    let l = c.loop-i in
    let v = l.invariant in
    over c.args.self l.self.0 l.self.1 l.i v.0 v.1 v.2 c.args.n (omega arith)
