-- What the view of a state says of it.
-- Assumes nothing.
use Prim.Native.Nat.{ℕ}
use mathlib.Core.Path.{◌≡◌, refl}
use mathlib.Core.Option.{none}
use native.Mathlib.Omega.{arith}
use lib.ListN.{length}
use Rattle.std.specs.Prelude.{Option, None, Some}
use Rattle.rules.proofs.Lists.{length-tab}
use Rattle.state.specs.declared.Task.{Task}
use Rattle.state.specs.declared.Queue.{Queue}
use Rattle.state.specs.View.{active_of, entry, queue_of}

-- the tasks queued
pub queue-length : (q : Queue) → length (queue_of q) ≡ q.len
unfolding queue_of
queue-length q = length-tab (entry q) q.len

-- the active task as the code holds it
pub none_active : (a : Option Task) → active_of a ≡ none → a ≡ None
none_active None h = refl
none_active (Some t) h = absurd (let z : ◌≡◌ {A = ℕ} 0 1 = cc in omega arith)
