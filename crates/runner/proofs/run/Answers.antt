use mathlib.Core.Path.{sym, ap, ◌∙◌}
use native.Mathlib.Omega.{arith}
use borrow.Author.Rules.{rules}
use Rattle.rules.specs.Table.{check}
use Rattle.rules.proofs.Verdicts.{else_fine}
use Rattle.runner.specs.declared.Answer.{Answer}
use Rattle.runner.specs.Calls.{outcome_of}
use Rattle.runner.proofs.Calling.{run-refused, run_opened, promised}
use Rattle.runner.proofs.run.Goals as goal

pub carry_out-requires : goal.carry_out-requires
carry_out-requires c = rw c.in-Ok.ensures.accepted (else_fine (check c.args.table.now) _ (sym c.in-Ok.ensures.verdict)).1

pub returns-in-Err : goal.returns-in-Err
returns-in-Err c =
    let a = c.args in
    let is = ap (λ (r : Answer). outcome_of r a.state.now a.log.now) c.into.ensures ∙ run-refused a.table.now a.state.now a.budget a.log.now _ _ c.in-Err.ensures.verdict in
    let p = promised a.table.now a.state.now a.budget a.log.now (λ i. omega (arith, c.type_inv.table i)) (λ i. search rules) _ _ _ is in
    record { log_after = p.0; run_answers = p.1.0; run_says = p.1.1.0; meets_demand = p.1.1.1.0; continues_as_one = p.1.1.1.1 }

pub returns-in-Ok : goal.returns-in-Ok
returns-in-Ok c =
    let a = c.args in
    let is = rw c.in-Ok.ensures.accepted at c.carry_out.ensures in
    let p = promised a.table.now a.state.now a.budget a.log.now (λ i. omega (arith, c.type_inv.table i)) (λ i. search rules) _ _ _
    (is ∙ run_opened a.table.now a.state.now a.budget a.log.now c.in-Ok.ensures.verdict) in
    record { log_after = p.0; run_answers = p.1.0; run_says = p.1.1.0; meets_demand = p.1.1.1.0; continues_as_one = p.1.1.1.1 }
