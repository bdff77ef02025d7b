use mathlib.Core.Path.{◌≡◌, ap, ◌∙◌}
use Prim.Native.Nat.{◌+◌, ◌-◌, ◌*◌}
use native.Mathlib.Omega.{arith}
use mir.Val.{bool_byte}
use Rattle.block.proofs.Writing.{taken_of, taken_is, room, Fronted, with_none, with_active, written}
use Rattle.block.proofs.write.Goals as goal
use Rattle.block.proofs.write.Goals.{in-Some-active, in_default-active}

pub returns : goal.returns
returns c =
    let s = c.args.s.now in
    let k = taken_of s.active in
    let n = s.queue.len in
    let few = room s.active n s.queue.few s.few in
    let taken : c.from-taken.result ≡ k = c.from-taken.ensures ∙ ap bool_byte c.is_some.ensures ∙ taken_is s.active in
    let live : n + c.from.result ≡ k + n = omega arith in
    let front : Fronted s.issued n s.active c.match-s.next c.match-s.block = elim c.match-s.branch [
      | in-Some-active w ↦ with_active _ _ _ _ _ _ _ _ live taken c.put_head.ensures w.in-Some-active.task w.in-Some-active.is (omega arith) w.next-is (w.block-is ∙ w.put_task.ensures)
      | in_default-active w ↦ with_none _ _ _ _ _ _ _ _ live taken c.put_head.ensures w.in_default-active.is w.next-is w.block-is
    ] in
    let m = 32 - (k + n) in
    let end = c.put_queue-end.ensures.offset in
    let rest : 520 - c.put_queue-end.result ≡ 16 * m = omega arith in
    written s c.match-s.next c.put_queue-end.result c.match-s.block c.put_queue-end.new.b c.put_unused.new.b c.put_variables.new.b
    m (omega arith) front c.put_queue-end.ensures.bytes (rw rest at c.put_unused.ensures) c.put_variables.ensures

pub overflow_cast-live : goal.overflow_cast-live
overflow_cast-live c =
    let s = c.args.s.now in
    let few = room s.active s.queue.len s.queue.few s.few in
    omega (arith, c.from-taken.ensures ∙ ap bool_byte c.is_some.ensures ∙ taken_is s.active)

pub put_queue-end-requires-clause-room : goal.put_queue-end-requires-clause-room
put_queue-end-requires-clause-room c =
    let s = c.args.s.now in
    let few = room s.active s.queue.len s.queue.few s.few in
    omega (arith, c.from-taken.ensures ∙ ap bool_byte c.is_some.ensures ∙ taken_is s.active)

pub put_queue-end-requires-clause-offset : goal.put_queue-end-requires-clause-offset
put_queue-end-requires-clause-offset c =
    let taken = c.from-taken.ensures ∙ ap bool_byte c.is_some.ensures ∙ taken_is c.args.s.now.active in
    elim c.match-s.branch [
      | in-Some-active w ↦ omega (arith, ap taken_of w.in-Some-active.is, w.next-is)
      | in_default-active w ↦ omega (arith, ap taken_of w.in_default-active.is, w.next-is)
    ]

pub put_unused-requires : goal.put_unused-requires
put_unused-requires c =
    let s = c.args.s.now in
    let few = room s.active s.queue.len s.queue.few s.few in
    let end = c.put_queue-end.ensures.offset in
    omega (arith, c.from-taken.ensures ∙ ap bool_byte c.is_some.ensures ∙ taken_is s.active)
