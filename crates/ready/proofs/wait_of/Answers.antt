use Prim.Native.Nat.{◌+◌, ◌*◌}
use mathlib.Core.Bool.{false, not, true≢false}
use mathlib.Core.Path.{◌≡◌, sym, ap, ◌∙◌, subst}
use lib.IntN.{ℤ}
use lib.ListN.{get_or}
use borrow.Author.Rules.{rules}
use borrow.Author.Tests.{not-false}
use Rattle.std.specs.Prelude.{Option, None, Some, IfSome}
use Rattle.std.specs.Ordering.{int_eq}
use Rattle.std.specs.Option.{option_eq}
use Rattle.std.proofs.lemmas.Bool.Decides.{Decides-int_eq}
use Rattle.rules.specs.Recipe.{read}
use Rattle.rules.specs.Table.{recipe_of}
use Rattle.rules.specs.Scheduler.{waits_for, is_live}
use Rattle.rules.specs.Steps.{recipes, is_done}
use Rattle.table.specs.declared.record.Kind.TheVariants.{Await, Guard}
use Rattle.values.proofs.Exact.{result32}
use Rattle.state.specs.View.{task_of, queue_of}
use Rattle.ready.specs.Ready.{idle, NotDone}
use Rattle.ready.proofs.There.{AwaitThere, may_wait, neither, place_of, await-read, free-there, wait_over, wait-on}
use Rattle.ready.proofs.wait_of.Goals as goal
use Rattle.ready.proofs.wait_of.Goals.{In-Some-Await, After-variable-v, else-ne-via-then-ne+else-is_done, else-ne-via-else-ne}

await_there : (c : In-Some-Await) → AwaitThere (place_of c.args.table c.args.t.place c.requires.0)
await_there c =
    let p = place_of c.args.table c.args.t.place c.requires.0 in
    await-read p (rw c.from-off.ensures at (sym c.kind_at.ensures) ∙ c.in-Some-Await.is ∙ ap Some c.in-Some-Await.field-0-is)

pub bounds-table-off : goal.bounds-table-off
bounds-table-off c = rw c.from-off.ensures (await_there (goal.at.bounds-table-off c).In-Some-Await).inside

pub variable-v-requires : goal.variable-v-requires
variable-v-requires c = rw c.from-off.ensures (await_there (goal.at.variable-v-requires c).In-Some-Await).named

-- the number that the task awaits
awaited : (c : After-variable-v) → c.variable-v.result
    ≡ read (record { variables = c.args.s.now.variables; parameter = c.args.t.parameter }) (get_or c.args.table.bytes.now (8 * c.args.t.place + 1) 0)
awaited c =
    let a = c.args in
    let n = get_or a.table.bytes.now (8 * a.t.place + 1) 0 in
    rw c.from-off.ensures at c.variable-v.ensures ∙ ap (λ (p : ℤ). read (record { variables = a.s.now.variables; parameter = p }) n) (search rules)

-- it is the known one, which is not done
known_not_done : (P : ℤ → Type 0) (v : ℤ) (k : Option ℤ) → not (option_eq int_eq (Some v) k) ≡ false → IfSome k P → P v
known_not_done P v None e h = absurd (true≢false e)
known_not_done P v (Some z) e h = subst P (sym ((Decides-int_eq v z).0 (not-false (int_eq v z) e))) h

pub returns-then-is_done : goal.returns-then-is_done
returns-then-is_done c =
    let a = c.args in
    let r = recipe_of a.table.bytes.now in
    let i = await_there (goal.at.returns-then-is_done c).In-Some-Await in
    let value = result32 c.variable-v.type_inv ∙ awaited (goal.at.returns-then-is_done c).After-variable-v in
    let done = c.is_done.ensures r ∙ ap (is_done a.s.now.issued (is_live (recipes r) (queue_of a.s.now.queue))) value in
    sym (wait_over _ _ _ (task_of a.t) _ _ i.is (sym done ∙ c.if-is_done.true))

pub returns-else-ne : goal.returns-else-ne
returns-else-ne c =
    let a = c.args in
    let r = recipe_of a.table.bytes.now in
    let done = is_done a.s.now.issued (is_live (recipes r) (queue_of a.s.now.queue)) in
    let i = await_there (goal.at.returns-else-ne c).In-Some-Await in
    let value = result32 c.variable-v.type_inv ∙ awaited (goal.at.returns-else-ne c).After-variable-v in
    ap waits_for value
    ∙ sym (wait-on _ _ _ (task_of a.t) _ _ i.is
    (elim c.else-ne.branch [
      | else-ne-via-then-ne+else-is_done w ↦ sym (w.is_done.ensures r ∙ ap done value) ∙ w.if-is_done.false
      | else-ne-via-else-ne w ↦
          ap done (sym value) ∙ known_not_done (NotDone a.table.bytes.now (idle a.s.now)) _ a.known (sym c.ne.ensures ∙ w.if-ne.false) c.requires.1
    ]))

pub returns-in-Some-Guard : goal.returns-in-Some-Guard
returns-in-Some-Guard c = c.guarded.ensures

pub returns-in_default : goal.returns-in_default
returns-in_default c =
    let p = place_of c.args.table c.args.t.place c.requires.0 in
    let k = c.in_default.field-0 in
    let no_await : ¬ (k ≡ Await) = search rules in
    let no_guard : ¬ (k ≡ Guard) = search rules in
    let w = ap may_wait (rw c.from-off.ensures at (sym c.kind_at.ensures) ∙ c.in_default.is) ∙ neither (Some k) (λ e. no_await cc) (λ e. no_guard cc) in
    sym ((free-there p w).waits-not _ _ (task_of c.args.t))

pub returns-in_default-2 : goal.returns-in_default-2
returns-in_default-2 c =
    let p = place_of c.args.table c.args.t.place c.requires.0 in
    let w = ap may_wait (rw c.from-off.ensures at (sym c.kind_at.ensures) ∙ c.in_default.is) in
    sym ((free-there p w).waits-not _ _ (task_of c.args.t))
