use mathlib.Core.Path.{sym}
use native.Mathlib.Omega.{arith}
use Rattle.rules.specs.Print.{run_text}
use Rattle.text.proofs.Buffers.{reads_as}
use Rattle.print.proofs.Texts.{start-refused, start-runs}
use Rattle.print.proofs.put_text.Goals as goal

pub returns-then-s-ne0 : goal.returns-then-s-ne0
returns-then-s-ne0 c =
    let a = c.args in
    let e = c.start-s.ensures.state_after in
    reads_as (sym (start-refused a.table.now a.state.now a.log.now _ e (λ z. omega arith))) c.put_refused.ensures

pub put_run-requires : goal.put_run-requires
put_run-requires c =
    let r = c.run-a in
    let n = r.ensures.run_answers.records_fit in
    record { in_log = omega (arith, n, r.ensures.run_answers.log_length); in_buffer = omega (arith, n, c.requires) }

pub returns : goal.returns
unfolding run_text
returns c =
    let a = c.args in
    let s = c.start-s.ensures.state_after in
    let e = start-runs a.table.now a.state.now a.log.now _ s _ (omega arith) c.run-a.ensures.log_after in
    reads_as (sym e) c.put_run.ensures
