use mathlib.Core.Path.{sym, ◌∙◌}
use Rattle.table.specs.Kinds.{number_of}
use Rattle.block.proofs.Placing.{by_sort, place_zero, place_there, place_behind}
use Rattle.block.proofs.is_place.Goals as goal

pub returns-then-place-eq0 : goal.returns-then-place-eq0
returns-then-place-eq0 c =
    let t = c.args.table in
    place_zero t.bytes.now t.in_bytes t.fine c.args.place c.if-place-eq0.true

pub returns-in-Some : goal.returns-in-Some
returns-in-Some c =
    let t = c.args.table in
    let there = rw c.from-start.ensures at (sym c.in-Some.ensures) in
    c.ne.ensures ∙ by_sort c.sort.result (number_of c.in-Some.kind) c.sort.ensures
    ∙ place_there t.bytes.now t.in_bytes t.fine c.args.place c.in-Some.kind there c.if-place-eq0.false

pub returns-in-None : goal.returns-in-None
returns-in-None c =
    let t = c.args.table in
    let behind = rw c.from-start.ensures at (sym c.in-None.ensures) in
    rw c.from-start.ensures (place_behind t.bytes.now t.in_bytes t.fine c.args.place behind c.if-place-eq0.false)
