use mathlib.Core.Path.{refl, sym}
use native.Mathlib.Omega.{arith}
use borrow.Author.Rules.{rules}
use Rattle.std.specs.Prelude.{Ok, Err}
use Rattle.rules.specs.Table.{recipe_of}
use Rattle.rules.proofs.Standing.{spells}
use Rattle.state.specs.View.{task_of}
use Rattle.moves.specs.Moves.{store_with}
use Rattle.active.proofs.Proceeding.{DecidesAll, in_budget, in_log, placed, paused_all, counted, further, ends_all, has_room, leaves_all, again}
use Rattle.active.proofs.proceed.Goals as goal

pub move_of-next-requires : goal.move_of-next-requires
move_of-next-requires c =
    let p = c.requires in
    placed c.loop-n.invariant p.queue p.many p.reached

pub decide-requires : goal.decide-requires
decide-requires c =
    let p = c.requires in
    (in_log c.loop-n.invariant p.queue p.many p.reached, in_budget c.loop-n.invariant p.queue p.many p.reached)

pub returns-then-n-bounds-clause-left : goal.returns-then-n-bounds-clause-left
returns-then-n-bounds-clause-left c =
    let table = c.args.linked.table in
    rw c.stopped.ensures (paused_all c.loop-n.invariant c.if-n-bounds.true (spells table.bytes.now table.in_bytes table.fine).within)

pub returns-in-Err-clause-left : goal.returns-in-Err-clause-left
returns-in-Err-clause-left c =
    let a = c.args in
    let l = c.loop-n in
    let w = (spells a.linked.table.bytes.now a.linked.table.in_bytes a.linked.table.fine).within in
    let d : DecidesAll (recipe_of a.linked.table.bytes.now) a.bounds.budget a.bounds.queued a.bounds.issued c.move_of-next.result (task_of l.t) l.variables
    (Err c.in-Err.stop) l.n l.log c.decide.new.log =
    record { all = λ q h. c.in-Err.ensures.decides (recipe_of a.linked.table.bytes.now) (store_with a.bounds.issued l.variables) q (task_of l.t) refl h refl } in
    rw c.stopped-in-Err.ensures (ends_all l.invariant c.move_of-next.ensures d w)

pub returns-then-leaves-clause-leaves_so : goal.returns-then-leaves-clause-leaves_so
returns-then-leaves-clause-leaves_so c =
    let a = c.args in
    let p = c.requires in
    let l = c.loop-n in
    let w = (spells a.linked.table.bytes.now a.linked.table.in_bytes a.linked.table.fine).within in
    let d : DecidesAll (recipe_of a.linked.table.bytes.now) a.bounds.budget a.bounds.queued a.bounds.issued c.move_of-next.result (task_of l.t) l.variables
    (Ok c.in-Ok.made.1) l.n l.log c.decide.new.log =
    record { all = λ q h. c.in-Ok.ensures.decides (recipe_of a.linked.table.bytes.now) (store_with a.bounds.issued l.variables) q (task_of l.t) refl h refl } in
    let moves = c.move_of-next.ensures in
    (sym c.if-leaves.ensures, has_room l.invariant moves d w c.in-Ok.ensures.made p.queue p.many p.reached, further l.invariant moves d p.queue p.many)

pub returns-then-leaves-clause-left : goal.returns-then-leaves-clause-left
returns-then-leaves-clause-left c =
    let a = c.args in
    let l = c.loop-n in
    let w = (spells a.linked.table.bytes.now a.linked.table.in_bytes a.linked.table.fine).within in
    let d : DecidesAll (recipe_of a.linked.table.bytes.now) a.bounds.budget a.bounds.queued a.bounds.issued c.move_of-next.result (task_of l.t) l.variables
    (Ok c.in-Ok.made.1) l.n l.log c.decide.new.log =
    record { all = λ q h. c.in-Ok.ensures.decides (recipe_of a.linked.table.bytes.now) (store_with a.bounds.issued l.variables) q (task_of l.t) refl h refl } in
    leaves_all l.invariant c.move_of-next.ensures d w c.in-Ok.ensures.made _ _ c.local-t.ensures

pub loop-n-smaller : goal.loop-n-smaller
loop-n-smaller c =
    let a = c.args in
    let p = c.requires in
    let l = c.loop-n in
    let w = (spells a.linked.table.bytes.now a.linked.table.in_bytes a.linked.table.fine).within in
    let d : DecidesAll (recipe_of a.linked.table.bytes.now) a.bounds.budget a.bounds.queued a.bounds.issued c.move_of-next.result (task_of l.t) l.variables
    (Ok c.in-Ok.made.1) l.n l.log c.decide.new.log =
    record { all = λ q h. c.in-Ok.ensures.decides (recipe_of a.linked.table.bytes.now) (store_with a.bounds.issued l.variables) q (task_of l.t) refl h refl } in
    let n = counted l.invariant c.move_of-next.ensures d p.queue p.many in
    let next = again l.invariant c.move_of-next.ensures d w c.in-Ok.ensures.made _ _ c.local-t.ensures p.queue p.many (sym c.if-leaves.ensures) (search rules) in
    let b = in_budget next p.queue p.many p.reached in
    omega arith

pub loop-n-preserved : goal.loop-n-preserved
loop-n-preserved c =
    let a = c.args in
    let p = c.requires in
    let l = c.loop-n in
    let w = (spells a.linked.table.bytes.now a.linked.table.in_bytes a.linked.table.fine).within in
    let d : DecidesAll (recipe_of a.linked.table.bytes.now) a.bounds.budget a.bounds.queued a.bounds.issued c.move_of-next.result (task_of l.t) l.variables
    (Ok c.in-Ok.made.1) l.n l.log c.decide.new.log =
    record { all = λ q h. c.in-Ok.ensures.decides (recipe_of a.linked.table.bytes.now) (store_with a.bounds.issued l.variables) q (task_of l.t) refl h refl } in
    again l.invariant c.move_of-next.ensures d w c.in-Ok.ensures.made _ _ c.local-t.ensures p.queue p.many (sym c.if-leaves.ensures) (search rules)
