use Prim.Native.Nat.{ℕ, ◌*◌}
use mathlib.Core.Path.{◌≡◌, sym, ap, ◌∙◌}
use mathlib.Core.Bool.{true}
use mathlib.Core.Logic.{◌⊎◌, ⊎_elim}
use borrow.Author.Rules.{rules}
use lib.ListN.{get_or}
use Rattle.std.specs.Prelude.{Some}
use Rattle.rules.specs.Steps.{go_to}
use Rattle.table.specs.declared.record.Kind.TheVariants.{Await, Guard}
use Rattle.table.specs.Kinds.{kind_there}
use Rattle.ready.proofs.There.{may_wait, neither, place_of, waitable_there, waitable_inside, few-there, free-there}
use Rattle.ready.proofs.past.Goals as goal
use Rattle.ready.proofs.past.Goals.{In-Some-Await}

may_wait_here : (c : In-Some-Await) → may_wait (kind_there c.args.table.bytes.now (8 * c.args.place)) ≡ true
may_wait_here c =
    let k : (c.kind_at.result ≡ Some Await) ⊎ (c.kind_at.result ≡ Some Guard) = search rules in
    ap may_wait (rw c.from-i.ensures at (sym c.kind_at.ensures)) ∙ ⊎_elim (ap may_wait) (ap may_wait) k

pub bounds-links-i : goal.bounds-links-i
bounds-links-i c =
    let p = place_of c.args.table c.args.place c.requires.0 in
    rw c.from-i.ensures (few-there p (waitable_inside p (may_wait_here (goal.at.bounds-links-i c).In-Some-Await)))

pub returns-in-Some-Await : goal.returns-in-Some-Await
returns-in-Some-Await c =
    let p = place_of c.args.table c.args.place c.requires.0 in
    let h = waitable_there p (may_wait_here (goal.at.returns-in-Some-Await c).In-Some-Await) in
    λ t e. h.goes_past t ∙ ap (go_to t) (sym (c.requires.1 c.args.place h.a-statement) ∙ ap (λ (k : ℕ). get_or c.args.links.now.next k 0) (sym c.from-i.ensures))

pub returns-in_default : goal.returns-in_default
returns-in_default c =
    let p = place_of c.args.table c.args.place c.requires.0 in
    let k = c.in_default.field-0 in
    let no_await : ¬ (k ≡ Await) = search rules in
    let no_guard : ¬ (k ≡ Guard) = search rules in
    let w = ap may_wait (rw c.from-i.ensures at (sym c.kind_at.ensures) ∙ c.in_default.is) ∙ neither (Some k) (λ e. no_await cc) (λ e. no_guard cc) in
    let f = free-there p w in
    λ t e. f.stays t ∙ ap (go_to t) e

pub returns-in_default-2 : goal.returns-in_default-2
returns-in_default-2 c =
    let p = place_of c.args.table c.args.place c.requires.0 in
    let f = free-there p (ap may_wait (rw c.from-i.ensures at (sym c.kind_at.ensures) ∙ c.in_default.is)) in
    λ t e. f.stays t ∙ ap (go_to t) e
