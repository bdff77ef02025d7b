-- The move at each kind of statement, and at the end of a procedure.
-- Assumes nothing.
use Prim.Native.Nat.{ℕ, ◌≤◌}
use mathlib.Core.Path.{◌≡◌, sym}
use mathlib.Core.Bool.{cond}
use mathlib.Core.Option.{none, some}
use mathlib.Core.List.{List}
use mathlib.Core.Logic.{◌⊎◌, ⊎_elim}
use lib.IntN.{ℤ, nat_abs}
use Rattle.std.specs.Prelude.{Some, None}
use Rattle.rules.specs.Values.{truth}
use Rattle.rules.specs.Recipe.{read, value}
use Rattle.rules.specs.Table.{kind_of, name_of, value_of, inner, expr_of}
use Rattle.rules.specs.Places.{Point, stop, tests}
use Rattle.rules.specs.Standing.{point_at}
use Rattle.rules.specs.State.{Task}
use Rattle.rules.specs.Scheduler.{no_number}
use Rattle.rules.specs.Steps.{limits, counting}
use Rattle.rules.proofs.NoValue.{needs-kind, lacking-halts}
use Rattle.moves.specs.declared.Move.TheVariants.{Goes, Sets, Spawns, Gives, Waits, Ends}
use Rattle.moves.specs.Moves.{Moves, store_with, into_body}

test_point : (p : List ℕ) (i k : ℕ) → (kind_of p ≡ 4) ⊎ (kind_of p ≡ 5)
    → point_at p i k ≡ tests (expr_of (inner p)) (into_body p i k) k
unfolding point_at
test_point p i k h = ⊎_elim (λ g. rw g) (λ g. rw g) h

module _ (begin : ℕ → ℕ) (vs : List ℤ) (t : Task ℕ) where
  pub end-moves : (x : Point ℕ) → x ≡ stop → Moves begin x vs t (Some Ends)
  end-moves x h = record { acts = λ issued q. rw h; named = tt }

  module _ (p : List ℕ) (i k : ℕ) where
    abbrev there : Point ℕ
    there = point_at p i k

    pub skip-moves : kind_of p ≡ 2 → Moves begin there vs t (Some (Goes k))
    unfolding point_at
    skip-moves h = record { acts = λ issued q. rw h; named = tt }

    pub give_moves : kind_of p ≡ 7 → Moves begin there vs t (Some (Gives k))
    unfolding point_at
    give_moves h = record { acts = λ issued q. rw h; named = tt }

    pub wait-moves : (z : ℤ) → kind_of p ≡ 8 → z ≡ read (record { variables = vs; parameter = t.parameter }) (name_of p)
        → Moves begin there vs t (Some (Waits z))
    unfolding point_at
    wait-moves z h e = record { acts = λ issued q. rw (h, e); named = tt }

    pub guard-moves : kind_of p ≡ 13 → Moves begin there vs t (Some (Waits no_number))
    unfolding point_at
    guard-moves h = record { acts = λ issued q. rw h; named = tt }

    pub lacks-moves : 3 ≤ kind_of p → kind_of p ≤ 6 → none ≡ value (record { variables = vs; parameter = t.parameter }) (expr_of (inner p)) → Moves begin there vs t None
    lacks-moves low high is =
        record { acts = λ issued q. lacking-halts counting begin limits there (store_with issued vs) q t (expr_of (inner p)) (needs-kind p i k low high) (sym is); named = tt }

    module _ (z : ℤ) (is : some z ≡ value (record { variables = vs; parameter = t.parameter }) (expr_of (inner p))) where
      pub set-moves : kind_of p ≡ 3 → name_of p ≤ 64 → Moves begin there vs t (Some (Sets (name_of p) z k))
      unfolding point_at
      set-moves h w = record { acts = λ issued q. rw (h, ← is); named = w }

      pub spawn-moves : (s : ℕ) → kind_of p ≡ 6 → name_of p ≤ 64 → s ≡ begin (nat_abs (value_of p))
          → Moves begin there vs t (Some (Spawns (name_of p) s z k))
      unfolding point_at
      spawn-moves s h w e = record { acts = λ issued q. rw (h, e, ← is); named = w }

      pub test-moves : (j : ℕ) → (kind_of p ≡ 4) ⊎ (kind_of p ≡ 5) → j ≡ cond (truth z) (into_body p i k) k
          → Moves begin there vs t (Some (Goes j))
      test-moves j h e = record { acts = λ issued q. rw (test_point p i k h, e, ← is); named = tt }
