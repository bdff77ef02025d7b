-- The invariant of a loop that makes the steps of one call one by one.
-- Assumes nothing.
use Prim.Native.Nat.{ℕ, suc, ◌+◌, ◌-◌, ◌≤◌}
use mathlib.Core.Path.{◌≡◌, refl, sym, ap, ◌∙◌}
use mathlib.Core.Option.{Option}
use mathlib.Core.List.{List, [], ◌++◌, append_assoc, append-nil}
use native.Mathlib.Omega.{arith}
use Rattle.rules.specs.Scheduler.{Rules, Config, goes, next, Ending, stops, test, size, Run, run, ending, last, steps_of, log, log_of}
use Rattle.rules.proofs.Scheduling.Whole.{run_end, run_step}

module _ (R : Rules) where
  -- Of the call u, n steps are made with the records l; c is the state now, and b and r are the budget and the room left.
  pub record At (u : Run R) (n : ℕ) (l : List R.Event) (c : Config R) (b r : ℕ) : Type 0 where
    pub counted : steps_of R u ≡ n + steps_of R (run R b r c)
    pub logged : log R u ≡ l ++ log R (run R b r c)
    pub ends_as : ending R u ≡ ending R (run R b r c)
    pub leaves : last R u ≡ last R (run R b r c)

  -- before the loop, after a step of it, and at its end
  pub at_start : (b r : ℕ) (c : Config R) → At (run R b r c) 0 [] c b r
  at_start b r c = record { counted = omega arith; logged = refl; ends_as = refl; leaves = refl }

  pub at_step : (u : Run R) (n : ℕ) (l : List R.Event) (c c' : Config R) (x : Option R.Event) (b r : ℕ) → next R c ≡ goes x c' → size R x ≤ r
      → At u n l c (suc b) r → At u (n + 1) (l ++ log_of x) c' b (r - size R x)
  at_step u n l c c' x b r h k a =
      let e = run_step R c b r x c' h k in
      let v = run R b (r - size R x) c' in
      record {
        counted = omega (arith, a.counted, ap (λ w. steps_of R w) e);
        logged = a.logged ∙ (ap (λ w. l ++ log R w) e ∙ sym (append_assoc l (log_of x) (log R v)));
        ends_as = a.ends_as ∙ ap (λ w. ending R w) e;
        leaves = a.leaves ∙ ap (λ w. last R w) e;
      }

  pub at_end : (u : Run R) (n : ℕ) (l : List R.Event) (c : Config R) (b r : ℕ) (e : Ending) → test R b r (next R c) ≡ stops e → At u n l c b r
      → (steps_of R u ≡ n) × (log R u ≡ l) × (ending R u ≡ e) × (last R u ≡ c)
  at_end u n l c b r e h a =
      let g = run_end R c b r e h in
      (omega (arith, a.counted, ap (λ w. steps_of R w) g), a.logged ∙ (ap (λ w. l ++ log R w) g ∙ append-nil l), a.ends_as ∙ ap (λ w. ending R w) g, a.leaves ∙ ap (λ w. last R w) g)
