use Prim.Native.Nat.{ℕ, ◌<◌}
use mathlib.Core.Path.{◌≡◌}
use mathlib.Core.Bool.{false}
use mathlib.Core.List.{List}
use lib.IntN.{ℤ}
use Rattle.std.specs.Prelude.{IfSome}
use Rattle.rules.specs.Table.{recipe_of}
use Rattle.rules.specs.State.{Task, State}
use Rattle.rules.specs.Scheduler.{can_go}
use Rattle.rules.specs.Steps.{recipes}
use Rattle.state.specs.View.{entry}
use Rattle.ready.specs.Ready.{idle, NotDone}
use Rattle.ready.proofs.first_ready.Given as goal

-- no task that stands there with this parameter can go on
abbrev pub NoneGoes : (table : List ℕ) → State → ℕ × ℤ → Type 0
NoneGoes table c w = (t : Task ℕ) → t.place ≡ w.0 → t.parameter ≡ w.1 → can_go (recipes (recipe_of table)) c t ≡ false

abbrev pub invariant-loop-i : goal.invariant-loop-i
invariant-loop-i l =
    record {
      waits : (k : ℕ) → k < l.i → can_go (recipes (recipe_of l.table.bytes.now)) (idle l.s) (entry l.s.queue k) ≡ false;
      not_done : IfSome l.known (NotDone l.table.bytes.now (idle l.s));
      none_goes : IfSome l.last (NoneGoes l.table.bytes.now (idle l.s));
    }
