use Prim.Native.Nat.{ℕ, ◌*◌}
use mathlib.Core.Bool.{not}
use mathlib.Core.List.{List}
use mathlib.Core.Path.{◌≡◌, refl, sym, ap, ◌∙◌, subst⁻¹}
use lib.IntN.{ℤ}
use lib.ListN.{drop}
use mir.Syntax.{w32}
use mir.Val.{SFits}
use borrow.Author.Rules.{rules}
use Rattle.std.specs.Prelude.{Option}
use Rattle.rules.specs.Values.{is_true}
use Rattle.rules.specs.Recipe.{value}
use Rattle.rules.specs.Table.{inner, after, expr_of}
use Rattle.state.specs.View.{task_of}
use Rattle.values.specs.Operators.{option_of}
use Rattle.values.proofs.Zero.{is-zero, not-zero}
use Rattle.expr.specs.Spelt.{Spelt}
use Rattle.ready.specs.Ready.{idle}
use Rattle.ready.proofs.There.{place_of, guard-read, guard_true, guard-untrue}
use Rattle.ready.proofs.guarded.Goals as goal

-- what the evaluator says, of another spelling of the parameter, the part and the variables
worth : {v w : List ℤ} {p q : ℤ} {x y : List ℕ} (e : Option ℤ) → option_of e ≡ value (record { variables = v; parameter = p }) (expr_of x)
    → p ≡ q → x ≡ y → w ≡ v → option_of e ≡ value (record { variables = w; parameter = q }) (expr_of y)
worth e h p x v = cc

pub enclosed-requires : goal.enclosed-requires
enclosed-requires c =
    let g = guard-read (place_of c.args.table c.args.t.place c.requires.0) c.requires.1 in
    rw (c.from-part.ensures, c.from.ensures) g.whole

pub eval-requires : goal.eval-requires
eval-requires c =
    let a = c.args in
    let g = guard-read (place_of a.table a.t.place c.requires.0) c.requires.1 in
    let (e, is, named) = g.opens in
    subst⁻¹ Spelt (rw c.from.ensures at (c.enclosed.ensures ∙ ap inner c.from-part.ensures))
    (record { expr = e; rest = after (inner (drop (8 * a.t.place) a.table.bytes.now)); spelt = is; named = named })

pub returns-in-Some : goal.returns-in-Some
returns-in-Some c =
    let a = c.args in
    let g = guard-read (place_of a.table a.t.place c.requires.0) c.requires.1 in
    let w = worth _ c.eval.ensures (search rules) (rw c.from.ensures at (c.enclosed.ensures ∙ ap inner c.from-part.ensures)) refl in
    sym (guard_true _ (idle a.s.now).store _ (task_of a.t) _ _ g.is (ap is_true (sym w ∙ ap option_of c.in-Some.is) ∙ ap not (not-zero c.in-Some.v c.if-v-ne0.true)))

pub returns-in_default : goal.returns-in_default
returns-in_default c =
    let a = c.args in
    let f : SFits w32 c.in-Some.v = search rules in
    let g = guard-read (place_of a.table a.t.place c.requires.0) c.requires.1 in
    let w = worth _ c.eval.ensures (search rules) (rw c.from.ensures at (c.enclosed.ensures ∙ ap inner c.from-part.ensures)) refl in
    sym (guard-untrue _ (idle a.s.now).store _ (task_of a.t) _ _ g.is (ap is_true (sym w ∙ ap option_of c.in-Some.is) ∙ ap not (is-zero c.in-Some.v f c.if-v-ne0.false)))

pub returns-in_default-2 : goal.returns-in_default-2
returns-in_default-2 c =
    let a = c.args in
    let g = guard-read (place_of a.table a.t.place c.requires.0) c.requires.1 in
    let w = worth _ c.eval.ensures (search rules) (rw c.from.ensures at (c.enclosed.ensures ∙ ap inner c.from-part.ensures)) refl in
    sym (guard-untrue _ (idle a.s.now).store _ (task_of a.t) _ _ g.is (ap is_true (sym w ∙ ap option_of c.in_default.is)))
