use Prim.Native.Nat.{ℕ, ◌-◌, ◌/◌, ◌<◌}
use mathlib.Core.Path.{◌≡◌, sym, ap, ◌∙◌}
use mathlib.Core.List.{List}
use mathlib.Core.Logic.{inl, inr, ⊎_elim}
use native.Mathlib.Omega.{arith}
use lib.ListN.{length}
use Rattle.std.specs.Prelude.{Result, Ok, Err}
use Rattle.rules.specs.Recipe.{Within}
use Rattle.rules.specs.State.{Task}
use Rattle.rules.specs.Table.{recipe_of}
use Rattle.rules.specs.Log.{taken}
use Rattle.rules.specs.Scheduler.{Run}
use Rattle.rules.specs.Steps.{recipes}
use Rattle.rules.proofs.Standing.{spells}
use Rattle.table.specs.declared.check.Accepted.{Accepted}
use Rattle.state.specs.View.{entry, turn}
use Rattle.ready.specs.Ready.{idle, ahead_in}
use Rattle.count.specs.declared.Count.{Count}
use Rattle.count.specs.declared.Stop.{Stop}
use Rattle.count.specs.Along.{Along}
use Rattle.count.proofs.Along.{count_after}
use Rattle.idle.specs.Idle.{Tries}
use Rattle.idle.proofs.Trying.{Chosen, chosen, first_ahead, none_ahead, Takes, takes_one, stop_in, waiting, in_budget, in_log, finishes, jams, tries}
use Rattle.idle.proofs.try_all.Goals as goal
use Rattle.idle.proofs.try_all.Goals.{After-min-k, After-take}

within : (t : Accepted) → Within (recipe_of t.bytes.now)
within t = (spells t.bytes.now t.in_bytes t.fine).within

pub returns-then-s-eq0-clause-tries : goal.returns-then-s-eq0-clause-tries
returns-then-s-eq0-clause-tries c =
    let a = c.args in
    rw c.stopped.ensures (λ u given x. finishes a.table.bytes.now (within a.table) a.s.now u a.budget given a.before a.log.now x c.if-s-eq0.true)

pub first_ready-requires : goal.first_ready-requires
first_ready-requires c = waiting c.args.table.bytes.now c.args.s.now c.requires

pub returns-in_default-clause-tries : goal.returns-in_default-clause-tries
returns-in_default-clause-tries c =
    let a = c.args in
    let some_queued = c.if-s-eq0.false in
    let none = none_ahead a.table.bytes.now a.s.now (sym c.first_ready.ensures ∙ c.in_default.is) in
    rw c.stopped-in_default.ensures
    (λ u given x. jams a.table.bytes.now (within a.table) a.s.now u a.budget given a.before a.log.now x (omega arith) none)

pub overflow_sub-room : goal.overflow_sub-room
overflow_sub-room c = in_log c.args.table.bytes.now c.args.s.now c.requires

some_go : (c : After-min-k) → (c.in-Some.ahead ≡ ahead_in c.args.table.bytes.now (idle c.args.s.now)) × (ahead_in c.args.table.bytes.now (idle c.args.s.now) < c.args.s.now.queue.len)
some_go c = first_ahead c.args.table.bytes.now c.args.s.now c.in-Some.ahead (sym c.first_ready.ensures ∙ c.in-Some.is)

-- how many tasks are turned
turns : (c : After-min-k)
    → Chosen (ahead_in c.args.table.bytes.now (idle c.args.s.now)) (c.args.budget - c.args.before.steps) ((length c.args.log.now - c.args.before.written) / 8) c.min-k.result
turns c = chosen _ _ _ _ _ (rw (some_go c).0 at c.min.ensures) c.min-k.ensures

pub turn_first-n-requires : goal.turn_first-n-requires
turn_first-n-requires c =
    let a = c.args in
    let k = turns (goal.at.turn_first-n-requires c).After-min-k in
    let b = in_budget c.args.table.bytes.now c.args.s.now c.requires in
    let l = in_log c.args.table.bytes.now c.args.s.now c.requires in
    record {
      waiting = waiting c.args.table.bytes.now c.args.s.now c.requires;
      some_go = (some_go (goal.at.turn_first-n-requires c).After-min-k).1;
      waits = k.in_ahead;
      in_count = omega (arith, k.in_left, c.ranges.budget);
      in_log = omega (arith, k.in_room);
    }

pub take-requires : goal.take-requires
take-requires c =
    let k = turns (goal.at.take-requires c).After-min-k in
    let n = c.turn_first-n.ensures.counts in
    let b = in_budget c.args.table.bytes.now c.args.s.now c.requires in
    let l = in_log c.args.table.bytes.now c.args.s.now c.requires in
    (omega (arith, k.in_left, n.0), omega (arith, k.in_room, n.1))

-- what the take-up comes to
takes : (c : After-take) (d : Result Count Stop) → c.take.result ≡ d
    → Takes c.args.budget (taken (entry c.args.s.now.queue c.min-k.result).number) d c.turn_first-n.result c.turn_first-n.new.log c.take.new.log
takes c d e =
    let number = ap (λ (t : Task ℕ). t.number) c.task.ensures in
    record { all = λ x t. rw (number, e) at (c.take.ensures x t) }

tried : (c : After-take) (d : Result Count Stop) → c.take.result ≡ d
    → (u : Run (recipes (recipe_of c.args.table.bytes.now))) (given : List ℕ)
    → Along (recipe_of c.args.table.bytes.now) u c.args.budget given c.args.before c.args.log.now (idle c.args.s.now)
    → Tries (recipe_of c.args.table.bytes.now) u c.args.budget given (count_after c.turn_first-n.result d) c.take.new.log (turn c.min-k.result (idle c.args.s.now)) (stop_in d)
tried c d e u given x =
    let a = c.args in
    let f = c.turn_first-n in
    let m = (goal.at.After-take c).After-min-k in
    let k = turns m in
    let b = in_budget a.table.bytes.now a.s.now c.requires in
    let n = f.ensures.counts in
    tries a.table.bytes.now (within a.table) a.s.now u a.budget given f.result f.new.log c.min-k.result d c.take.new.log
    (f.ensures.along u a.budget given (omega (arith, k.in_left)) x) (some_go m).1 k.in_ahead (takes c d e)
    (⊎_elim inl (λ g. inr (⊎_elim (λ i. inl (omega (arith, n.0))) (λ i. inr (omega (arith, n.1))) g)) k.reason)

pub returns-in-Ok-clause-within : goal.returns-in-Ok-clause-within
returns-in-Ok-clause-within c =
    let m = (goal.at.returns-in-Ok-clause-within c).After-min-k in
    omega (arith, (turns m).in_ahead, (some_go m).1)

pub returns-in-Ok-clause-taken_up : goal.returns-in-Ok-clause-taken_up
returns-in-Ok-clause-taken_up c = λ e.
    let m = (goal.at.returns-in-Ok-clause-taken_up c).After-min-k in
    let one = takes_one (recipe_of c.args.table.bytes.now) (idle c.args.s.now) (takes (goal.at.returns-in-Ok-clause-taken_up c).After-take (Ok c.in-Ok.count) c.in-Ok.is) in
    (omega (arith, (turns m).in_ahead, (some_go m).1), omega (arith, c.turn_first-n.ensures.counts.0))

pub returns-in-Ok-clause-tries : goal.returns-in-Ok-clause-tries
returns-in-Ok-clause-tries c = tried (goal.at.returns-in-Ok-clause-tries c).After-take (Ok c.in-Ok.count) c.in-Ok.is

pub returns-in-Err-clause-within : goal.returns-in-Err-clause-within
returns-in-Err-clause-within c =
    let m = (goal.at.returns-in-Err-clause-within c).After-min-k in
    omega (arith, (turns m).in_ahead, (some_go m).1)

pub returns-in-Err-clause-tries : goal.returns-in-Err-clause-tries
returns-in-Err-clause-tries c = tried (goal.at.returns-in-Err-clause-tries c).After-take (Err c.in-Err.stop) c.in-Err.is
