use mathlib.Core.Path.{◌≡◌, ◌∙◌}
use Prim.Native.Nat.{suc, ◌+◌, ◌<◌}
use native.Mathlib.Omega.{arith}
use borrow.Author.Rules.{rules}
use lib.Seq.{sets}
use lib.Signed.{mag}
use Rattle.values.proofs.Exact.{result32}
use Rattle.rules.specs.Fields.{bits, bytes2, bytes4}
use Rattle.rules.specs.State.{task_row}
use Rattle.block.proofs.put_task.Goals as goal

pub returns : goal.returns
unfolding task_row
returns c =
    let a = c.args in
    let t = a.task in
    let at2 : a.at + 2 ≡ suc (suc a.at) = omega arith in
    let at4 : a.at + 4 ≡ suc (suc (suc (suc a.at))) = omega arith in
    let at8 : a.at + 8 ≡ suc (suc (suc (suc (suc (suc (suc (suc a.at))))))) = omega arith in
    let at10 : a.at + 10 ≡ suc (suc (suc (suc (suc (suc (suc (suc (suc (suc a.at))))))))) = omega arith in
    let at12 : a.at + 12 ≡ suc (suc (suc (suc (suc (suc (suc (suc (suc (suc (suc (suc a.at))))))))))) = omega arith in
    let p : c.put_half.new.b ≡ sets a.b.now a.at (bytes2 t.number) = c.put_half.ensures in
    let q : c.put_half-2.new.b ≡ sets c.put_half.new.b (a.at + 2) (bytes2 t.place) = c.put_half-2.ensures in
    let m : mag t.parameter < 2147483648 = search rules in
    let z = result32 {z = t.parameter} m in
    let r : c.put_value.new.b ≡ sets c.put_half-2.new.b (a.at + 4) (bytes4 (bits t.parameter)) = c.put_value.ensures ∙ rw z in
    let u : c.put_half-3.new.b ≡ sets c.put_value.new.b (a.at + 8) (bytes2 t.history.spawner) = c.put_half-3.ensures in
    let v : c.put_half-4.new.b ≡ sets c.put_half-3.new.b (a.at + 10) (bytes2 0) = c.put_half-4.ensures in
    let w : c.put_word.new.b ≡ sets c.put_half-4.new.b (a.at + 12) (bytes4 t.history.taken_up) = c.put_word.ensures in
    rw (w, v, u, r, q, p, at2, at4, at8, at10, at12)
