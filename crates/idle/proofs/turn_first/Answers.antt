use Prim.Native.Nat.{ℕ, ◌<◌}
use mathlib.Core.Path.{◌≡◌, refl, ◌∙◌, subst}
use mathlib.Core.Bool.{false}
use mathlib.Core.List.{List}
use native.Mathlib.Omega.{arith}
use Rattle.rules.specs.Table.{recipe_of}
use Rattle.rules.specs.State.{Task}
use Rattle.rules.specs.Scheduler.{can_go}
use Rattle.rules.specs.Steps.{recipes}
use Rattle.rules.proofs.Standing.{spells}
use Rattle.values.proofs.Exact.{result32}
use Rattle.state.specs.declared.State.{State}
use Rattle.state.specs.View.{task_of, entry}
use Rattle.ready.specs.Ready.{idle}
use Rattle.count.specs.declared.Count.{Count}
use Rattle.idle.specs.Idle.{Turning}
use Rattle.idle.proofs.Turning.{ahead-waits}
use Rattle.idle.proofs.Trying.{queue_at, turned-start, turned_more}
use Rattle.idle.proofs.turn_first.Goals as goal

-- each of the first k tasks waits
waits : (table : List ℕ) (s : State) (k : ℕ) (log : List ℕ) (n : Count) → Turning table s k log n → (i : ℕ) → i < k → i < s.queue.len
    → can_go (recipes (recipe_of table)) (idle s) (entry s.queue i) ≡ false
waits table s k log n t i l few =
    let go = can_go (recipes (recipe_of table)) (idle s) in
    let h = t.waits in
    subst (λ (u : Task ℕ). go u ≡ false) (queue_at s.queue i (entry s.queue i) few) (ahead-waits go (idle s).queue i (entry s.queue i) (omega arith))

pub loop-i-init : goal.loop-i-init
loop-i-init c = turned-start _ _ _ _

pub waiting_at-x-requires : goal.waiting_at-x-requires
waiting_at-x-requires c =
    let a = c.args in
    let h = c.requires.waits in
    let g = c.requires.some_go in
    let l = c.loop-i-test.true in
    (c.requires.waiting, omega arith, waits a.table.bytes.now a.s.now a.k a.log.now a.before c.requires c.loop-i.i l (omega arith))

pub loop-i-preserved : goal.loop-i-preserved
loop-i-preserved c =
    let p = c.requires in
    let x = c.waiting_at-x in
    let w = (spells c.args.table.bytes.now c.args.table.in_bytes c.args.table.fine).within in
    let z = result32 {z = c.carried.result} c.carried.type_inv ∙ c.carried.ensures in
    turned_more c.args.table.bytes.now w _ c.args.k _ (task_of x.result.task) x.result.wait
    c.loop-i.invariant c.loop-i-test.true p.waits p.some_go p.in_log c.loop-i.auto.log x.ensures.task_is x.ensures.wait_is
    (rw z at c.put_event.ensures)

pub returns-clause-along : goal.returns-clause-along
returns-clause-along c =
    let i : c.loop-i.i ≡ c.args.k = omega arith in
    λ u budget given b a. rw i at c.loop-i.invariant.along _ refl refl u budget given b a
