use mathlib.Core.Path.{refl, ◌∙◌}
use native.Mathlib.Omega.{arith}
use borrow.Author.Tests.{ne_eqb}
use Rattle.rules.specs.Table.{recipe_of}
use Rattle.rules.specs.Places.{is_place}
use Rattle.block.proofs.Checking.{record_zero, record_first, record_second, record_unused}
use Rattle.block.proofs.record_fits.Goals as goal

pub returns-then-i-eq0 : goal.returns-then-i-eq0
returns-then-i-eq0 c =
    let a = c.args in
    c.head_fits.ensures ∙ record_zero _ a.block.now a.i c.if-i-eq0.true

pub returns-then-i-eq1 : goal.returns-then-i-eq1
returns-then-i-eq1 c =
    let a = c.args in
    c.task_fits.ensures ∙ record_first _ a.block.now a.i c.if-i-eq0.false (omega arith) (omega arith)

pub returns-then-i-from : goal.returns-then-i-from
returns-then-i-from c =
    let a = c.args in
    c.history_fits.ensures ∙ record_second _ a.block.now a.i c.if-i-eq0.false (omega arith) (λ e. omega arith)

pub returns-then-word_at-eq0 : goal.returns-then-word_at-eq0
returns-then-word_at-eq0 c =
    let a = c.args in
    rw c.if-word_at-eq0.true
    at (record_unused (is_place (recipe_of a.table.bytes.now)) a.block.now a.i c.if-i-eq0.false (omega arith) c.requires.offset c.word_at.ensures c.word_at-then-word_at-eq0.ensures)

pub returns-else-word_at-eq0 : goal.returns-else-word_at-eq0
returns-else-word_at-eq0 c =
    let a = c.args in
    let used = ne_eqb c.word_at.result 0 c.if-word_at-eq0.false in
    used ∙ (rw used at (record_unused (is_place (recipe_of a.table.bytes.now)) a.block.now a.i c.if-i-eq0.false (omega arith) c.requires.offset c.word_at.ensures refl))
