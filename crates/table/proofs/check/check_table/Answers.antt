use mathlib.Core.Path.{sym, ◌∙◌}
use native.Mathlib.Omega.{arith}
use Rattle.std.proofs.lemmas.Result.{err_from_is_err_and}
use Rattle.table.specs.Check.{OfRow}
use Rattle.table.proofs.Whole.{fit_row, wrong_length, rows-fault, spawns_decide}
use Rattle.table.proofs.check.check_table.Goals as goal

pub returns-then-not-length_fits-clause-verdict : goal.returns-then-not-length_fits-clause-verdict
returns-then-not-length_fits-clause-verdict c = rw c.at.ensures (wrong_length _ (sym c.length_fits.ensures ∙ c.if-not-length_fits.true))

pub check_rows-rows-requires : goal.check_rows-rows-requires
check_rows-rows-requires c = (fit_row c.args.table.now (sym c.length_fits.ensures ∙ c.if-not-length_fits.false), OfRow.procedures)

pub returns-in_err-rows-clause-verdict : goal.returns-in_err-rows-clause-verdict
returns-in_err-rows-clause-verdict c =
    let p = err_from_is_err_and c.from_residual.result c.from_residual.ensures.1 in
    rw (p.1, p.2) (rows-fault c.args.table.now (sym c.length_fits.ensures ∙ c.if-not-length_fits.false) (sym c.in_err-rows.ensures))

pub returns-in_err-spawns-clause-verdict : goal.returns-in_err-spawns-clause-verdict
returns-in_err-spawns-clause-verdict c =
    let r = c.from_residual-in_err-spawns in
    let p = err_from_is_err_and r.result r.ensures.1 in
    rw (p.1, p.2)
    (c.in_err-spawns.ensures
    ∙ spawns_decide c.args.table.now (sym c.length_fits.ensures ∙ c.if-not-length_fits.false) (sym c.in_ok-rows.ensures) c.procedures_in.ensures)

pub invariant_of-result-clause-fine : goal.invariant_of-result-clause-fine
invariant_of-result-clause-fine c =
    sym (c.in_ok-spawns.ensures ∙ spawns_decide c.args.table.now (sym c.length_fits.ensures ∙ c.if-not-length_fits.false) (sym c.in_ok-rows.ensures) c.procedures_in.ensures)

pub invariant_of-result-clause-in_bytes : goal.invariant_of-result-clause-in_bytes
invariant_of-result-clause-in_bytes c i = omega (arith, c.type_inv.table i)
