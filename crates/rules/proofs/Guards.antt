-- Request 2.1 of document 02: what holds of guards, for every recipe and state.
-- Assumes nothing.
use Prim.Native.Nat.{ℕ}
use mathlib.Core.Path.{◌≡◌, refl, ◌∙◌}
use mathlib.Core.Bool.{Bool, true, false, cond, true≢false}
use mathlib.Core.Option.{none}
use mathlib.Core.List.{List, ◌∷◌, append-nil}
use Rattle.rules.specs.Values.{is_true}
use Rattle.rules.specs.Recipe.{Recipe, read, value}
use Rattle.rules.specs.Places.{Point, nowhere, stop, skips, assigns, tests, spawns, suspends, awaits, guards, at}
use Rattle.rules.specs.State.{Task, State}
use Rattle.rules.specs.Scheduler.{Rules, Config, ready, waits_for, at_guard, is_ready, is_live, readiness, can_go, any_go, try_of, next}
use Rattle.rules.specs.Steps.{is_done, env_of, wait_at, recipes}
use Rattle.rules.specs.Guards.{Held, not_done, untrue, Guards}
use Rattle.rules.proofs.Lists.{every_map}

-- the front is tried where some task can go on
tried : (R : Rules) (c : Config R) (t : R.Task) (q : List R.Task) → c.active ≡ none → c.queue ≡ t ∷ q → any_go R c c.queue ≡ true
    → next R c ≡ try_of R (readiness R c t) c t q
tried R c t q a h o = rw (a, h) (rw (rw (a, h) at o) refl)

module _ (r : Recipe) where
  -- a queued task that cannot go on waits for a number or at a guard
  module _ (c : State) (t : Task ℕ) where
    held_waits : Held r c t → can_go (recipes r) c t ≡ false
    held_waits (not_done name k p h) = rw (p, h) refl
    held_waits (untrue e k p h) = rw (p, h) refl

    waits_held : can_go (recipes r) c t ≡ false → Held r c t
    waits_held h = by (at r t.place) refl h
      where
        by : (x : Point ℕ) → at r t.place ≡ x → is_ready (wait_at x c.store (is_live (recipes r) c.queue) t) ≡ false → Held r c t
        by nowhere p g = absurd (true≢false g)
        by stop p g = absurd (true≢false g)
        by (skips k) p g = absurd (true≢false g)
        by (assigns n e k) p g = absurd (true≢false g)
        by (tests e k l) p g = absurd (true≢false g)
        by (spawns n m e k) p g = absurd (true≢false g)
        by (suspends k) p g = absurd (true≢false g)
        by (awaits n k) p g = number (is_done c.store.issued (is_live (recipes r) c.queue) (read (env_of c.store t) n)) refl g
          where
            number : (b : Bool) → is_done c.store.issued (is_live (recipes r) c.queue) (read (env_of c.store t) n) ≡ b
                → is_ready (cond b ready (waits_for (read (env_of c.store t) n))) ≡ false → Held r c t
            number true f g = absurd (true≢false g)
            number false f g = not_done n k p f
        by (guards e k) p g = guarded (is_true (value (env_of c.store t) e)) refl g
          where
            guarded : (b : Bool) → is_true (value (env_of c.store t) e) ≡ b → is_ready (cond b ready at_guard) ≡ false → Held r c t
            guarded true f g = absurd (true≢false g)
            guarded false f g = untrue e k p f

  pub guards_hold : (c : State) → Guards r c
  guards_hold c = record {
    as_a_set = refl;
    joins_back = λ t e k h g. rw (h, g, append-nil c.queue) refl;
    passes = λ t q e k a h g v. rw (a, h, g, v) (rw g refl);
    turns = λ t q e k a h g v o. tried (recipes r) c t q a h o ∙ rw (g, v) refl;
    stuck_when = (
      λ s. record { idle = s.idle; some_queued = s.some_queued; every = every_map (λ t. can_go (recipes r) c t ≡ false) (Held r c) (waits_held c) c.queue s.none_ready },
      λ s. record { idle = s.idle; some_queued = s.some_queued; none_ready = every_map (Held r c) (λ t. can_go (recipes r) c t ≡ false) (held_waits c) c.queue s.every },
    );
  }
