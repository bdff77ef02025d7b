use mathlib.Core.Path.{◌≡◌, ap, ◌∙◌}
use Prim.Native.Nat.{ℕ, ◌-◌}
use native.Mathlib.Omega.{arith}
use borrow.Rule.Slice.PartMut.{mid_of}
use lib.ListN.{length, replicate, length-replicate}
use Rattle.std.proofs.Common.{rules}
use Rattle.std.proofs.lemmas.Slice.{take-put_mid}
use Rattle.block.proofs.put_unused.Goals as goal

pub returns : goal.returns
returns c =
    let a = c.args in
    let n = 520 - a.start in
    let long : length (mid_of a.start n a.b.now) ≡ n = search (rules, arith) in
    let zeros : c.fill.new.self ≡ replicate n 0 = c.fill.ensures.after (λ y h. h) ∙ ap (λ (k : ℕ). replicate k 0) long in
    rw zeros (take-put_mid a.start n a.b.now (replicate n 0) 520 (omega (arith, length-replicate {A = ℕ} n 0)) (omega arith))
