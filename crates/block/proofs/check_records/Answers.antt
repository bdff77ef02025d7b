use mathlib.Core.Path.{sym, ◌∙◌}
use native.Mathlib.Omega.{arith}
use Rattle.block.proofs.Checking.{records-stop, records_go, records-end}
use Rattle.block.proofs.check_records.Goals as goal

pub returns-then-not-record_fits : goal.returns-then-not-record_fits
returns-then-not-record_fits c =
    let b = c.args.block.now in
    let bad = sym c.record_fits.ensures ∙ c.if-not-record_fits.true in
    rw c.at.ensures (records-stop _ b c.loop-i.i c.loop-i-test.true bad ∙ c.loop-i.invariant.1)

pub loop-i-preserved : goal.loop-i-preserved
loop-i-preserved c =
    let b = c.args.block.now in
    let good = sym c.record_fits.ensures ∙ c.if-not-record_fits.false in
    (omega arith, records_go _ b c.loop-i.i c.loop-i-test.true good ∙ c.loop-i.invariant.1)

pub returns : goal.returns
returns c = records-end _ c.args.block.now c.loop-i.i c.loop-i-test.false ∙ c.loop-i.invariant.1
