use Prim.Native.Nat.{ℕ, ◌≤◌}
use mathlib.Core.Path.{sym}
use mathlib.Core.List.{List}
use native.Mathlib.Omega.{arith}
use lib.ListN.{length}
use lib.Seq.{length-take-le}
use Rattle.rules.specs.Print.{printed}
use Rattle.text.specs.Puts.{Puts}
use Rattle.text.proofs.Buffers as buffers
use Rattle.text.proofs.Buffers.{first}
use Rattle.print.specs.Counts.{Counts}
use Rattle.print.proofs.print_recipe.Goals as goal

counts : {b b' : List ℕ} {r : ℕ} {x : List ℕ} → Puts b 0 x r b' → Counts r b'
counts {b} {b'} {r} p =
    let h : r ≤ length b' = omega (arith, p.inside, buffers.same_length p) in
    (h, sym (length-take-le r b' h))

pub returns : goal.returns
unfolding printed
returns c = let p = c.put_text.ensures in record { text = first p; counts = counts p }
