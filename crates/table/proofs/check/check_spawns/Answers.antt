use mathlib.Core.Path.{sym, ◌∙◌}
use native.Mathlib.Omega.{arith}
use Rattle.table.proofs.Whole.{chunks_none, chunk-next, chunk-length, chunks-next, spawns-here, spawns-next, no-spawns}
use Rattle.table.proofs.check.check_spawns.Goals as goal

pub returns-then-names_none : goal.returns-then-names_none
returns-then-names_none c =
    let i = c.loop-i.invariant in
    let t = c.in-Some.ensures.steps in
    let s = chunk-next _ c.in-Some.record.now _ i.chunks t.0.1.0 t.0.1.1 in
    rw (c.at.ensures, t.1) (spawns-here s c.args.n _ (sym c.names_none.ensures ∙ c.if-names_none.true) ∙ i.decides)

pub loop-i-preserved : goal.loop-i-preserved
loop-i-preserved c =
    let i = c.loop-i.invariant in
    let t = c.in-Some.ensures.steps in
    let s = chunk-next _ c.in-Some.record.now _ i.chunks t.0.1.0 t.0.1.1 in
    let l = chunk-length s in
    record {
      chunks = chunks-next s i.chunks t.0.0;
      decides = rw t.2 (spawns-next s c.args.n _ (sym c.names_none.ensures ∙ c.if-names_none.false) ∙ i.decides);
      placed = omega (arith, i.placed, t.2);
    }

pub returns : goal.returns
returns c =
    let i = c.loop-i.invariant in
    let e = chunks_none i.chunks c.in-None.ensures.steps.0.1.0 in
    sym (no-spawns c.args.n _) ∙ (rw e at i.decides)
