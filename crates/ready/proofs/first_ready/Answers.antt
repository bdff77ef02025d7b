use Prim.Native.Nat.{ℕ}
use mathlib.Core.Path.{◌≡◌, sym, ap, ◌∙◌, subst⁻¹}
use mathlib.Core.Bool.{false, not, ◌&&◌, true≢false}
use native.Mathlib.Omega.{arith}
use lib.IntN.{ℤ}
use borrow.Author.Count.{below_more}
use borrow.Author.Rules.{rules}
use borrow.Author.Tests.{eqb-true, not-false}
use mir.Syntax.{w32}
use mir.Val.{of_z, to_z}
use Rattle.std.specs.Prelude.{Option, None, Some, nat_eq, IfSome}
use Rattle.std.specs.Ordering.{int_eq}
use Rattle.std.specs.Option.{option_eq}
use Rattle.std.proofs.lemmas.Bool.Decides.{Decides-int_eq}
use Rattle.rules.specs.Table.{recipe_of}
use Rattle.rules.specs.Scheduler.{is_ready, can_go}
use Rattle.rules.specs.Steps.{recipes}
use Rattle.rules.proofs.Verdicts.{and_true}
use Rattle.state.specs.View.{task_of, entry, queue_of}
use Rattle.state.proofs.First.{first_none, first_at}
use Rattle.ready.specs.declared.Wait.{Wait}
use Rattle.ready.specs.Ready.{readiness_of, idle, NotDone, Placed}
use Rattle.ready.proofs.There.{same_go, waits_not_done}
use Rattle.ready.proofs.Queue.{every_at}
use Rattle.ready.proofs.first_ready.Invariants.{NoneGoes}
use Rattle.ready.proofs.first_ready.Goals as goal
use Rattle.ready.proofs.first_ready.Goals.{then-ne+in-Waits, then-ne+in-AtGuard, else-ne}

pub wait_of-requires : goal.wait_of-requires
unfolding queue_of
wait_of-requires c =
    let a = c.args in
    let q = a.s.now.queue in
    let r = recipe_of a.table.bytes.now in
    (subst⁻¹ (Placed r) c.task-task.ensures (every_at (Placed r) (entry q) q.len c.requires c.loop-i.i c.loop-i-test.true), c.loop-i.invariant.not_done)

pub returns-in-Ready : goal.returns-in-Ready
unfolding queue_of
returns-in-Ready c =
    let a = c.args in
    let q = a.s.now.queue in
    let go = can_go (recipes (recipe_of a.table.bytes.now)) (idle a.s.now) in
    let found = ap go (sym c.task-task.ensures) ∙ ap is_ready (sym c.wait_of.ensures) ∙ ap (λ (w : Wait). is_ready (readiness_of w)) c.in-Ready.is in
    first_at go (entry q) q.len c.loop-i.i c.loop-i-test.true c.loop-i.invariant.waits found

-- a place and a parameter that were met before
alike : (P : ℕ × ℤ → Type 0) (p : ℕ) (z : ℤ) (last : Option (ℕ × ℤ))
    → not (option_eq (λ (x y : ℕ × ℤ). nat_eq x.0 y.0 && int_eq x.1 y.1) (Some (p, z)) last) ≡ false → IfSome last P
    → (w : ℕ × ℤ) × (p ≡ w.0) × (z ≡ w.1) × P w
alike P p z None e h = absurd (true≢false e)
alike P p z (Some w) e h =
    let a = and_true (nat_eq p w.0) (int_eq z w.1) (not-false (nat_eq p w.0 && int_eq z w.1) e) in
    (w, eqb-true p w.0 a.0, (Decides-int_eq z w.1).0 a.1, h)

pub loop-i-preserved : goal.loop-i-preserved
loop-i-preserved c =
    let a = c.args in
    let state = idle a.s.now in
    let go = can_go (recipes (recipe_of a.table.bytes.now)) state in
    let task = task_of c.task-task.result in
    let old = c.loop-i.invariant in
    let known : Option ℤ → Type 0 = λ o. IfSome o (NotDone a.table.bytes.now state) in
    let last : Option (ℕ × ℤ) → Type 0 = λ o. IfSome o (NoneGoes a.table.bytes.now state) in
    let bits : to_z w32 (of_z w32 task.parameter) ≡ task.parameter = search rules in
    elim c.if-ne.branch [
      | then-ne+in-Waits w ↦
          let waits : go task ≡ false = ap is_ready (sym w.wait_of.ensures) ∙ ap (λ (w : Wait). is_ready (readiness_of w)) w.in-Waits.is in
          let not_done = waits_not_done a.table.bytes.now state task w.in-Waits.v (sym w.wait_of.ensures ∙ ap readiness_of w.in-Waits.is) in
          record {
            waits = below_more _ _ old.waits (ap go (sym c.task-task.ensures) ∙ waits);
            not_done = subst⁻¹ known w.known-is (subst⁻¹ (NotDone a.table.bytes.now state) (search rules) not_done);
            none_goes = subst⁻¹ last w.last-is (λ t e g. same_go _ state t task e (g ∙ bits) ∙ waits);
          }
      | then-ne+in-AtGuard w ↦
          let waits : go task ≡ false = ap is_ready (sym w.wait_of.ensures) ∙ ap (λ (w : Wait). is_ready (readiness_of w)) w.in-AtGuard.is in
          record {
            waits = below_more _ _ old.waits (ap go (sym c.task-task.ensures) ∙ waits);
            not_done = subst⁻¹ known w.known-is old.not_done;
            none_goes = subst⁻¹ last w.last-is (λ t e g. same_go _ state t task e (g ∙ bits) ∙ waits);
          }
      | else-ne w ↦
          let (at, e, g, none) = alike (NoneGoes a.table.bytes.now state) _ _ c.loop-i.last (sym c.ne.ensures ∙ w.if-ne.false) old.none_goes in
          record {
            waits = below_more _ _ old.waits (ap go (sym c.task-task.ensures) ∙ none task e (sym bits ∙ g));
            not_done = subst⁻¹ known w.known-is old.not_done;
            none_goes = subst⁻¹ last w.last-is old.none_goes;
          }
    ]

pub returns : goal.returns
unfolding queue_of
returns c =
    let a = c.args in
    let q = a.s.now.queue in
    let go = can_go (recipes (recipe_of a.table.bytes.now)) (idle a.s.now) in
    first_none go (entry q) q.len (λ k h. c.loop-i.invariant.waits k (omega arith))
