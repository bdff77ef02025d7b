use mathlib.Core.Path.{sym, ◌∙◌}
use mathlib.Core.List.{[]}
use Rattle.runner.specs.Calls.{outcome_of}
use Rattle.text.proofs.Buffers.{reads_as, then}
use Rattle.print.proofs.Texts.{run-refused, run-ended}
use Rattle.print.proofs.put_run.Goals as goal

pub returns-then-not-is_ending : goal.returns-then-not-is_ending
returns-then-not-is_ending c =
    let a = c.args in
    reads_as (sym (run-refused (outcome_of a.a [] a.log.now) (sym c.is_ending.ensures ∙ c.if-not-is_ending.true))) c.put_refused.ensures

pub returns : goal.returns
returns c =
    let a = c.args in
    reads_as (sym (run-ended (outcome_of a.a [] a.log.now) (sym c.is_ending.ensures ∙ c.if-not-is_ending.false)))
    (then c.put_lines-at.ensures.puts c.put_last.ensures)
