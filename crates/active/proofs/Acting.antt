-- What the moves of the active task make of the variables and of the queue, and which of them a limit bars.
-- Assumes nothing.
use Prim.Native.Nat.{ℕ}
use mathlib.Core.Path.{◌≡◌, refl}
use mathlib.Core.Bool.{false, true≢false}
use mathlib.Core.Option.{Option, none, some}
use mathlib.Core.List.{List}
use native.Mathlib.Omega.{arith}
use lib.IntN.{ℤ}
use lib.ListN.{length, set}
use borrow.Author.Tests.{eq-eqb, ne_eqb}
use Rattle.rules.specs.Recipe.{Recipe, Env, write}
use Rattle.rules.specs.State.{Task, State}
use Rattle.rules.specs.Log.{Event}
use Rattle.rules.specs.Scheduler.{Halt, goes, next_act}
use Rattle.rules.specs.Steps.{limits, counting, spawn_at, recipes}
use Rattle.rules.proofs.Steps.{room}
use Rattle.moves.specs.declared.Move.{Move}
use Rattle.moves.specs.declared.Move.TheVariants.{Goes, Sets, Spawns, Gives, Waits, Ends}
use Rattle.moves.specs.Moves.{act_of, store_with}
use Rattle.active.specs.Active.{leaves, left_by, Room}

-- a value written into the parameter, and into a variable
pub write-own : (v : Env) (n : ℕ) (z : ℤ) → n ≡ 64 → write v n z ≡ record { variables = v.variables; parameter = z }
unfolding write
write-own v n z h = rw (eq-eqb n 64 h)

pub write-other : (v : Env) (n : ℕ) (z : ℤ) → ¬ (n ≡ 64) → write v n z ≡ record { variables = set v.variables n z; parameter = v.parameter }
unfolding write
write-other v n z h = rw (ne_eqb n 64 h)

-- a move that does not leave leaves the queue alone
pub stays : (m : Move) (c : State) → leaves m ≡ false → left_by m c ≡ c
stays (Goes k) c h = refl
stays (Sets n z k) c h = refl
stays (Spawns n p z k) c h = absurd (true≢false h)
stays (Gives k) c h = absurd (true≢false h)
stays (Waits z) c h = absurd (true≢false h)
stays Ends c h = absurd (true≢false h)

module _ (r : Recipe) (q : List (Task ℕ)) (x : Option Event) (c : State) (issued : ℕ) (v : List ℤ) (t : Task ℕ) where
  -- a spawn that no limit bars
  free : (n p k : ℕ) (z : ℤ) → next_act (recipes r) q (act_of (Spawns n p z k) (store_with issued v) q t) ≡ goes x c → limits (length q) issued ≡ none
  free n p k z h = go (limits (length q) issued) h
    where
      go : (o : Option Halt) → next_act (recipes r) q (spawn_at counting o (store_with issued v) t n p z k) ≡ goes x c → o ≡ none
      go none h = refl
      go (some l) h = absurd (let z : ◌≡◌ {A = ℕ} 0 1 = cc in omega arith)

  pub roomy : (m : Move) → next_act (recipes r) q (act_of m (store_with issued v) q t) ≡ goes x c → Room m (length q) issued
  roomy (Goes k) h = tt
  roomy (Sets n z k) h = tt
  roomy (Spawns n p z k) h = room (length q) issued (free n p k z h)
  roomy (Gives k) h = tt
  roomy (Waits z) h = tt
  roomy Ends h = tt
