use mathlib.Core.Path.{sym, ◌∙◌}
use Rattle.std.proofs.lemmas.Result.{err_from_is_err_and}
use Rattle.block.proofs.Checking.{wrong_length, records-fault, numbers_decide}
use Rattle.block.proofs.check.Goals as goal

pub returns-in_default : goal.returns-in_default
returns-in_default c = rw c.at.ensures (wrong_length _ c.args.block.now c.in_default.ensures.cases)

pub returns-in_err-check_records : goal.returns-in_err-check_records
returns-in_err-check_records c =
    let p = err_from_is_err_and c.from_residual.result c.from_residual.ensures.1 in
    let h = c.in-Some.ensures.cases in
    let e = rw h.same at c.in_err-check_records.ensures in
    rw (p.1, p.2) (records-fault _ c.args.block.now h.long (sym e))

pub returns : goal.returns
returns c =
    let h = c.in-Some.ensures.cases in
    rw h.same at c.check_numbers.ensures
    ∙ numbers_decide _ c.args.block.now h.long (sym (rw h.same at c.in_ok-check_records.ensures))
