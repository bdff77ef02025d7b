use mathlib.Core.Path.{◌≡◌, refl, sym, ◌∙◌}
use mathlib.Core.List.{List, append-nil}
use Prim.Native.Nat.{ℕ, ◌+◌, ◌*◌, ◌<◌}
use native.Mathlib.Omega.{arith}
use borrow.Author.Rules.{rules}
use lib.IntN.{pos}
use lib.Signed.{mag}
use lib.ListN.{get_or, take}
use lib.Seq.{sets, take_all}
use Rattle.values.proofs.Exact.{result32}
use Rattle.rules.specs.Fields.{bits, bytes4}
use Rattle.rules.specs.State.{joined}
use Rattle.rules.proofs.Lists.{joined_more}
use Rattle.block.proofs.put_variables.Goals as goal

pub loop-j-init : goal.loop-j-init
unfolding joined
loop-j-init c = (omega arith, sym (append-nil _))

pub loop-j-preserved : goal.loop-j-preserved
loop-j-preserved c =
    let a = c.args in
    let l = c.loop-j in
    let f : ℕ → List ℕ = λ k. bytes4 (bits (get_or a.variables.now k (pos 0))) in
    let at = 520 + 4 * l.j in
    let v = get_or a.variables.now l.j (pos 0) in
    let m : mag v < 2147483648 = search rules in
    let z = result32 {z = v} m in
    let e : c.put_value.new.b ≡ sets l.b at (f l.j) = c.put_value.ensures ∙ rw z in
    let n : 520 + 4 * (l.j + 1) ≡ at + 4 = omega arith in
    (omega arith, rw (n, e) (joined_more l.b (take 520 a.b.now) f l.j at 4 (f l.j) refl (omega arith) l.invariant.1 refl))

pub returns : goal.returns
returns c =
    let l = c.loop-j in
    let e : l.j ≡ 64 = omega arith in
    sym (take_all 776 l.b (omega arith)) ∙ (rw e at l.invariant.1)
