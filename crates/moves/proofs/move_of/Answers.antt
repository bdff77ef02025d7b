-- What stands at the task's place is the end of a procedure, or a statement that the record there says.
-- Assumes nothing.
use Prim.Native.Nat.{◌*◌}
use mathlib.Core.Path.{◌≡◌, sym, ◌∙◌}
use native.Mathlib.Omega.{arith}
use borrow.Author.Rules.{rules}
use lib.ListN.{drop}
use Rattle.std.specs.Prelude.{Some, None}
use Rattle.rules.specs.Table.{recipe_of}
use Rattle.rules.specs.Places.{start}
use Rattle.values.proofs.Exact.{result32}
use Rattle.state.specs.View.{task_of}
use Rattle.table.specs.declared.record.Kind.TheVariants.{Procedure}
use Rattle.ready.proofs.There.{place_of}
use Rattle.moves.proofs.Standing.{stop-none, stop-procedure, kind-there, part-there, span-there, from-two, some-place, leads-there, begins_there}
use Rattle.moves.proofs.Acting.{end-moves}
use Rattle.moves.proofs.move_of.Goals as goal

pub invariant_of-found : goal.invariant_of-found
invariant_of-found c =
    let p = place_of c.args.linked.table c.args.t.place c.requires in
    let k = c.in-Some.kind in
    let e = rw c.from-place.ensures at (sym c.kind_at.ensures ∙ c.in-Some.is) in
    let h : ¬ (k ≡ Procedure) = search rules in
    record { named = rw (c.from.ensures, c.from-place.ensures) (kind-there p k e h); within = rw (c.from.ensures, c.from-place.ensures) (span-there p k e h) }

pub statement-requires : goal.statement-requires
statement-requires c =
    let p = place_of c.args.linked.table c.args.t.place c.requires in
    let k = c.in-Some.kind in
    let e = rw c.from-place.ensures at (sym c.kind_at.ensures ∙ c.in-Some.is) in
    let h : ¬ (k ≡ Procedure) = search rules in
    rw (c.from.ensures, c.from-place.ensures) (part-there p k e h, from-two p k e h, some-place p k e h)

pub returns-in-Some : goal.returns-in-Some
returns-in-Some c =
    let a = c.args in
    let t = a.linked.table.bytes.now in
    let p = place_of a.linked.table a.t.place c.requires in
    let k = c.in-Some.kind in
    let e = rw c.from-place.ensures at (sym c.kind_at.ensures ∙ c.in-Some.is) in
    let h : ¬ (k ≡ Procedure) = search rules in
    let part : c.from.result.now ≡ drop (8 * a.t.place) t = rw c.from-place.ensures at c.from.ensures in
    let s = c.statement.ensures (task_of a.t) (sym (result32 {z = a.t.parameter} (omega arith))) (start (recipe_of t)) (rw part (begins_there p k e h a.linked.links.now a.linked.linked)) in
    rw (leads-there p k e h a.linked.links.now.next a.linked.linked.next_is) (rw (part, c.from-place.ensures) at s)

pub returns-in-None : goal.returns-in-None
returns-in-None c =
    let none : c.kind_at.result ≡ None = search rules in
    end-moves _ _ (task_of c.args.t) _ (stop-none (place_of c.args.linked.table c.args.t.place c.requires) (rw c.from-place.ensures at (sym c.kind_at.ensures ∙ none)))

pub returns-in-None-2 : goal.returns-in-None-2
returns-in-None-2 c =
    let procedure : c.kind_at.result ≡ Some Procedure = search rules in
    end-moves _ _ (task_of c.args.t) _ (stop-procedure (place_of c.args.linked.table c.args.t.place c.requires) (rw c.from-place.ensures at (sym c.kind_at.ensures ∙ procedure)))
