-- Request 2.7 of document 02: what holds of awaits of a 0, for every recipe and state, and demand 3's bound for a task at one.
-- Assumes nothing.
use Prim.Native.Nat.{ℕ}
use mathlib.Core.Path.{◌≡◌, refl}
use mathlib.Core.Bool.{Bool, true}
use mathlib.Core.Option.{none}
use mathlib.Core.List.{List, ◌∷◌, append-nil}
use lib.IntN.{pos}
use Rattle.rules.specs.Recipe.{Recipe, read}
use Rattle.rules.specs.Places.{awaits, at}
use Rattle.rules.specs.State.{Task, State}
use Rattle.rules.specs.Scheduler.{is_live, can_go}
use Rattle.rules.specs.Steps.{is_done, env_of, recipes}
use Rattle.rules.specs.Moments.{Call, Moment}
use Rattle.rules.specs.Fairness.{until, Waiting, Demand3}
use Rattle.rules.specs.Optional.{Optional, AwaitsZero, OptionalBound}
use Rattle.rules.proofs.Lists.{every_map}
use Rattle.rules.proofs.Why.Holders.{never_done}

zero_is_done : (issued : ℕ) (live : ℕ → Bool) → is_done issued live (pos 0) ≡ true
unfolding is_done
zero_is_done issued live = refl

module _ (r : Recipe) where
  module _ (c : State) (t : Task ℕ) (name k : ℕ) (p : at r t.place ≡ awaits name k) where
    zero_goes : read (env_of c.store t) name ≡ pos 0 → can_go (recipes r) c t ≡ true
    zero_goes z = rw (p, z, zero_is_done c.store.issued (is_live (recipes r) c.queue)) refl

  pub optional_holds : (c : State) → Optional r c
  optional_holds c = record {
    zero_done = zero_goes c;
    others_hold = λ t name k z p e n g. rw (p, e, never_done c.store.issued (is_live (recipes r) c.queue) z n g) refl;
    joins_back = λ t name k a p z. rw (a, p, z, append-nil c.queue) refl;
    passes = λ t q name k a h p z. rw (a, h, p, z, zero_is_done c.store.issued (is_live (recipes r) (t ∷ q))) (rw p refl);
  }

  -- such a task can go on until its turn, so the bound is demand 3's
  pub waiting_at_zero : (t : Task ℕ) (b : ℕ) (ms : List (Moment (recipes r))) → AwaitsZero r t b ms → Waiting (recipes r) t b ms
  waiting_at_zero t b ms w = record {
    can_go_holds =
        every_map (λ x. x.at.active ≡ none → read (env_of x.at.store t) w.name ≡ pos 0) (λ x. x.at.active ≡ none → can_go (recipes r) x.at t ≡ true)
        (λ x h a. zero_goes x.at t w.name w.next w.at_await (h a)) (until (recipes r) t.number ms) w.holds_zero;
    bursts = w.bursts;
    free = w.free;
  }

  pub optional_bound : (c : State) (cs : List Call) → Demand3 (recipes r) c cs → OptionalBound r c cs
  optional_bound c cs d pre post m ahead behind t b e a q w = d.bound pre post m ahead behind t b e a q (waiting_at_zero t b (m ∷ post) w)
