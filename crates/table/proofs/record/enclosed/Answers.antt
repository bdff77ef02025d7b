use Prim.Native.Nat.{ℕ, ◌+◌, ◌*◌}
use mathlib.Core.Path.{ap}
use Rattle.table.proofs.Parts.{inner_slice}
use Rattle.table.proofs.record.enclosed.Goals as goal

-- src/record.rt:37:1
pub returns : goal.returns
returns c = inner_slice _ _ (ap (λ (n : ℕ). 8 + 8 * n) c.span_of.ensures.0)
