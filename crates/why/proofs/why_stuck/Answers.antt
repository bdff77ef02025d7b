use Rattle.std.proofs.Common.{ℕ, List, ◌≡◌, sym, ap₂, ◌∙◌, arith}
use Rattle.rules.specs.Table.{fine, ◌else◌, check, recipe_of}
use Rattle.rules.specs.Places.{is_place}
use Rattle.rules.specs.State.{State, check_block}
use Rattle.rules.specs.Run.{opens}
use Rattle.rules.specs.Answers.{Accepted}
use Rattle.rules.specs.Why.{why_with}
use Rattle.rules.proofs.Blocks.{fit_read}
use Rattle.rules.proofs.Verdicts.{else_fine}
use Rattle.runner.proofs.Calling.{head_fits_lem}
use Rattle.why.proofs.Explaining.{why-refused, why_opened, promised}
use Rattle.why.proofs.why_stuck.Goals as goal

-- where the verdict is fine, both are accepted
accepted : (t b : List ℕ) → fine ≡ (check t else check_block (is_place (recipe_of t)) b) → Accepted t b
accepted t b e = else_fine (check t) (check_block (is_place (recipe_of t)) b) (sym e)

pub read-requires : goal.read-requires
read-requires c =
    let t = c.args.table.now in
    head_fits_lem (is_place (recipe_of t)) c.args.state.now (accepted t c.args.state.now c.in-Ok.ensures.verdict).1

pub explain-requires : goal.explain-requires
explain-requires c =
    let t = c.args.table.now in
    let b = c.args.state.now in
    rw (c.in-Ok.ensures.accepted, c.read.ensures) (fit_read (recipe_of t) b (λ i. omega (arith, c.type_inv.state i)) (accepted t b c.in-Ok.ensures.verdict).1)

pub returns-in-Ok : goal.returns-in-Ok
returns-in-Ok c =
    let a = c.args in
    let with = ap₂ (λ (t : List ℕ) (s : State). why_with (opens (recipe_of t) s) a.chain.now) c.in-Ok.ensures.accepted c.read.ensures in
    let p = promised a.table.now a.state.now a.chain.now (λ i. omega (arith, c.type_inv.table i)) (λ i. omega (arith, c.type_inv.state i)) _ _
    (c.explain.ensures ∙ with ∙ why_opened a.table.now a.state.now a.chain.now (accepted a.table.now a.state.now c.in-Ok.ensures.verdict)) in
    record { chain_after = p.0; why_says = p.1.0; after_stuck = p.1.1 }

pub returns-in-Err : goal.returns-in-Err
returns-in-Err c =
    let a = c.args in
    let p = promised a.table.now a.state.now a.chain.now (λ i. omega (arith, c.type_inv.table i)) (λ i. omega (arith, c.type_inv.state i)) _ _
    (c.into.ensures _ ∙ why-refused a.table.now a.state.now a.chain.now _ _ (sym c.in-Err.ensures.verdict)) in
    record { chain_after = p.0; why_says = p.1.0; after_stuck = p.1.1 }
