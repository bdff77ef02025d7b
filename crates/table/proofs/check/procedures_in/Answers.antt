use mathlib.Core.Path.{sym, ap, ◌∙◌}
use native.Mathlib.Omega.{arith}
use Rattle.std.specs.Prelude.{Option, Some}
use Rattle.std.specs.Option.{option_eq}
use denote.Enum.Bare.{sameb}
use Rattle.rules.specs.Table.{kind_of}
use Rattle.table.specs.contracts.record.Kind.{the_type}
use Rattle.table.specs.declared.record.Kind.{Kind}
use Rattle.table.specs.declared.record.Kind.TheVariants.{Procedure}
use Rattle.table.proofs.Numbered.{named_is}
use Rattle.table.proofs.Whole.{chunks_none, chunk-next, chunk-length, chunks-next, procedures-next, no-procedures}
use Rattle.table.proofs.check.procedures_in.Goals as goal

pub loop-record-preserved-then-eq : goal.loop-record-preserved-then-eq
loop-record-preserved-then-eq c =
    let i = c.loop-record.invariant in
    let t = c.in-Some.ensures.steps in
    let s = chunk-next _ c.in-Some.record.now _ i.chunks t.1.0 t.1.1 in
    let is = sym (c.eq.ensures ∙ ap (λ (o : Option Kind). option_eq (sameb the_type) o (Some Procedure)) c.kind_at.ensures ∙ named_is (kind_of c.in-Some.record.now) Procedure) ∙ c.if-eq.true in
    let l = chunk-length s in
    let n = rw is at (procedures-next s) in
    record { chunks = chunks-next s i.chunks t.0; counted = omega (arith, i.counted, n); few = omega (arith, i.few) }

pub loop-record-preserved : goal.loop-record-preserved
loop-record-preserved c =
    let i = c.loop-record.invariant in
    let t = c.in-Some.ensures.steps in
    let s = chunk-next _ c.in-Some.record.now _ i.chunks t.1.0 t.1.1 in
    let is = sym (c.eq.ensures ∙ ap (λ (o : Option Kind). option_eq (sameb the_type) o (Some Procedure)) c.kind_at.ensures ∙ named_is (kind_of c.in-Some.record.now) Procedure) ∙ c.if-eq.false in
    let l = chunk-length s in
    let n = rw is at (procedures-next s) in
    record { chunks = chunks-next s i.chunks t.0; counted = omega (arith, i.counted, n); few = omega (arith, i.few) }

pub returns : goal.returns
returns c =
    let i = c.loop-record.invariant in
    let e = chunks_none i.chunks c.in-None.ensures.steps.1.0 in
    let n = rw e at i.counted in
    omega (arith, n, no-procedures)
