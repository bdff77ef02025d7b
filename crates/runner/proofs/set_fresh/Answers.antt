use mathlib.Core.Path.{sym, ap, ◌∙◌}
use Rattle.std.proofs.lemmas.Result.{err_from_is_err_and}
use Rattle.rules.specs.State.{write_block}
use Rattle.runner.proofs.Calling.{start-refused, start-short, start-fresh}
use Rattle.runner.proofs.set_fresh.Goals as goal

pub returns-in_err-check_table : goal.returns-in_err-check_table
returns-in_err-check_table c =
    let p = err_from_is_err_and c.from_residual.result c.from_residual.ensures.1 in
    rw (p.1, p.2) (start-refused c.args.table.now c.args.state.now _ _ c.in_err-check_table.ensures.verdict)

pub returns-then-state-ne776 : goal.returns-then-state-ne776
returns-then-state-ne776 c =
    rw c.at.ensures (start-short c.args.table.now c.args.state.now (sym c.in_ok-check_table.ensures.verdict) c.if-state-ne776.true)

pub returns : goal.returns
returns c =
    start-fresh c.args.table.now c.args.state.now (sym c.in_ok-check_table.ensures.verdict) _ c.if-state-ne776.false (c.write.ensures ∙ ap write_block c.fresh.ensures)
