use Prim.Native.Nat.{ℕ, ◌+◌, ◌*◌, ◌≤◌}
use mathlib.Core.Bool.{true}
use mathlib.Core.Path.{◌≡◌, sym, ap, ◌∙◌, subst⁻¹}
use native.Mathlib.Omega.{arith}
use borrow.Author.Rules.{rules}
use lib.Dec.{eqb}
use lib.IntN.{ℤ}
use lib.ListN.{length, get_or, drop}
use lib.Seq.{get_or-drop}
use Rattle.rules.specs.Recipe.{read}
use Rattle.rules.specs.Table.{kind_of}
use Rattle.rules.specs.Scheduler.{waits_for}
use Rattle.state.specs.View.{task_of}
use Rattle.values.proofs.Exact.{result32}
use Rattle.ready.proofs.There.{AwaitThere, place_of, guard-is, no-guard, guard-read, waitable_inside, waits_there, shape_there, waits-await, waits-value, waits-guard}
use Rattle.ready.proofs.held_by.Goals as goal
use Rattle.ready.proofs.held_by.Goals.{After-from-record, Else-is}

pub from-record-requires : goal.from-record-requires
from-record-requires c =
    let p = place_of c.args.table c.args.t.place c.requires.0 in
    let l = waitable_inside p (waits_there p _ _ (task_of c.args.t) c.requires.1) in
    rw c.from.ensures (omega arith)

whole : (c : After-from-record) → 8 ≤ length c.from-record.result.now
whole c =
    let p = place_of c.args.table c.args.t.place c.requires.0 in
    let s = shape_there p (waitable_inside p (waits_there p _ _ (task_of c.args.t) c.requires.1)) in
    rw (c.from-record.ensures, c.from.ensures) (omega (arith, s.whole))

pub is-requires : goal.is-requires
is-requires c = whole c

pub returns-then-is : goal.returns-then-is
returns-then-is c =
    let a = c.args in
    let p = place_of a.table a.t.place c.requires.0 in
    let first : eqb (kind_of (drop (8 * a.t.place) a.table.bytes.now)) 13 ≡ true = rw (c.from-record.ensures, c.from.ensures) at (sym c.is.ensures) ∙ c.if-is.true in
    sym (waits-guard p _ _ (task_of a.t) c.requires.1 (guard-read p (guard-is p first)))

await_there : (c : Else-is) → AwaitThere (place_of c.args.table c.args.t.place c.requires.0)
await_there c =
    let p = place_of c.args.table c.args.t.place c.requires.0 in
    let first = rw (c.from-record.ensures, c.from.ensures) at (sym c.is.ensures) ∙ c.if-is.false in
    waits-await p _ _ (task_of c.args.t) c.requires.1 (no-guard p first)

name_is : (c : After-from-record) → get_or c.from-record.result.now 1 0 ≡ get_or c.args.table.bytes.now (8 * c.args.t.place + 1) 0
name_is c = rw (c.from-record.ensures, c.from.ensures) (get_or-drop (8 * c.args.t.place) c.args.table.bytes.now 1 0)

pub bounds-record-1 : goal.bounds-record-1
bounds-record-1 c = omega (arith, whole (goal.at.bounds-record-1 c).After-from-record)

pub variable-requires : goal.variable-requires
variable-requires c =
    subst⁻¹ (λ (k : ℕ). k ≤ 64) (name_is (goal.at.variable-requires c).After-from-record) (await_there (goal.at.variable-requires c).Else-is).named

pub returns : goal.returns
returns c =
    let a = c.args in
    let p = place_of a.table a.t.place c.requires.0 in
    ap waits_for
    (result32 c.variable.type_inv ∙ c.variable.ensures
    ∙ ap (λ (p : ℤ). read (record { variables = a.s.now.variables; parameter = p }) (get_or c.from-record.result.now 1 0)) (search rules)
    ∙ ap (λ (k : ℕ). read (record { variables = a.s.now.variables; parameter = a.t.parameter }) k) (name_is (goal.at.returns c).After-from-record))
    ∙ sym (waits-value p _ _ (task_of a.t) c.requires.1 (await_there (goal.at.returns c).Else-is))
