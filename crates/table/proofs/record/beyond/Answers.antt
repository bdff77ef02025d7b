use Prim.Native.Nat.{ℕ, ◌+◌, ◌*◌}
use mathlib.Core.Path.{ap}
use Rattle.table.proofs.Parts.{after_slice}
use Rattle.table.proofs.record.beyond.Goals as goal

-- src/record.rt:46:1
pub returns : goal.returns
returns c = after_slice _ _ (ap (λ (n : ℕ). 8 + 8 * n) c.span_of.ensures.0)
