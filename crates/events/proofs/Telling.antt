-- What a set and a spawn tell, by their tests.
-- Assumes nothing.
use Prim.Native.Nat.{ℕ, ◌+◌, ◌≤◌, ◌<◌}
use native.Mathlib.Numerals.{add-one}
use lib.IntN.{ℤ}
use borrow.Author.Tests.{lt-ltb, le-ltb, le-leb, lt-leb}
use Rattle.std.specs.Prelude as P
use Rattle.rules.specs.Steps.{limits, valve_of}
use Rattle.moves.specs.declared.Move.TheVariants.{Sets, Spawns}
use Rattle.events.specs.declared.Event.TheVariants as E
use Rattle.events.specs.declared.Halt.TheVariants.{Tasks, Spent}
use Rattle.events.specs.Events.{Tells}

module _ (number queued issued n k : ℕ) (z : ℤ) where
  pub valve-tells : n < 8 → Tells number queued issued (P.Some (Sets n z k)) (P.Ok (P.Some (E.Valve number n z)))
  unfolding valve_of
  valve-tells h = record { tells = λ s q t a b d. rw (lt-ltb n 8 h, d) }

  pub set_tells : 8 ≤ n → Tells number queued issued (P.Some (Sets n z k)) (P.Ok P.None)
  unfolding valve_of
  set_tells h = record { tells = λ s q t a b d. rw (le-ltb n 8 h) }

  module _ (p : ℕ) where
    pub tasks-tells : 31 ≤ queued → Tells number queued issued (P.Some (Spawns n p z k)) (P.Err Tasks)
    unfolding limits
    tasks-tells h = record { tells = λ s q t a b d. rw (b, le-leb 31 queued h) }

    module _ (few : queued < 31) where
      pub spent-tells : 65535 ≤ issued → Tells number queued issued (P.Some (Spawns n p z k)) (P.Err Spent)
      unfolding limits
      spent-tells h = record { tells = λ s q t a b d. rw (b, a, lt-leb 31 queued few, le-leb 65535 issued h) }

      pub spawned-tells : issued < 65535
          → Tells number queued issued (P.Some (Spawns n p z k)) (P.Ok (P.Some (E.Spawned number (issued + 1))))
      unfolding limits
      spawned-tells h =
          record { tells = λ s q t a b d. rw (b, a, lt-leb 31 queued few, lt-leb 65535 issued h, d, add-one) }
