-- Why a call ends: what the tests say of the state that it leaves, with the budget and the room that are left.
-- Assumes nothing.
use Prim.Native.Nat.{ℕ, zero, suc, ◌-◌, ◌≤◌}
use mathlib.Core.Path.{◌≡◌, refl, sym, ap, ◌∙◌, subst₂}
use mathlib.Core.Logic.{◌↔◌}
use native.Mathlib.Omega.{arith}
use lib.ListN.{length}
use Rattle.rules.specs.Scheduler.{Rules, Config, next, Ending, finished, paused, stuck, logfull, halted, tasks, spent, novalue, number_of, What, stops, test, size, Run, step, run, ending, last, steps_of, log}
use Rattle.rules.proofs.Scheduling.Bound.{Reason, reason, ends_by}
use Rattle.rules.proofs.Scheduling.Whole.{by_test, length-log}

-- the ending that a number names
ending_of : ℕ → Ending
ending_of zero = finished
ending_of (suc zero) = paused
ending_of (suc (suc zero)) = stuck
ending_of (suc (suc (suc zero))) = halted tasks
ending_of (suc (suc (suc (suc zero)))) = halted spent
ending_of (suc (suc (suc (suc (suc zero))))) = logfull
ending_of (suc (suc (suc (suc (suc (suc n)))))) = halted novalue

ending-is : (e : Ending) → ending_of (number_of e) ≡ e
unfolding ending_of number_of
ending-is finished = refl
ending-is paused = refl
ending-is stuck = refl
ending-is logfull = refl
ending-is (halted tasks) = refl
ending-is (halted spent) = refl
ending-is (halted novalue) = refl

-- an ending by its number
pub ending_by : (e e' : Ending) → number_of e ≡ number_of e' → e ≡ e'
ending_by e e' h = sym (ending-is e) ∙ ap ending_of h ∙ ending-is e'

module _ (R : Rules) where
  -- the call u, given a budget and room, keeps within them, and stops where the tests say so
  pub record Stopped (b r : ℕ) (c : Config R) (u : Run R) : Type 0 where
    pub in_budget : steps_of R u ≤ b
    pub in_room : length (log R u) ≤ r
    pub tests : test R (b - steps_of R u) (r - length (log R u)) (next R (last R u)) ≡ stops (ending R u)

  pub stopped : (b r : ℕ) (c : Config R) → Stopped b r c (run R b r c)
  stopped = by_test R Stopped
      (λ b r c e h. let b-is : b - 0 ≡ b = omega arith in let r-is : r - 0 ≡ r = omega arith in
      record { in_budget = omega arith; in_room = omega arith; tests = rw (b-is, r-is) h })
      (λ b r c x c' h k ih.
      let u = run R b (r - size R x) c' in
      let l = length-log R x (log R u) in
      let b-is : b - steps_of R u ≡ suc b - suc (steps_of R u) = omega arith in
      let r-is : r - size R x - length (log R u) ≡ r - length (log R (step c x u)) = omega arith in
      record {
        in_budget = omega (arith, ih.in_budget);
        in_room = omega (arith, ih.in_room);
        tests = subst₂ (λ (i j : ℕ). test R i j (next R (last R u)) ≡ stops (ending R u)) b-is r-is ih.tests;
      })

  -- a call's number is that of an ending exactly by the ending's reason
  pub by_number : (b r : ℕ) (c : Config R) (e : Ending) → let u = run R b r c in
      (number_of (ending R u) ≡ number_of e) ↔ Reason R (b - steps_of R u) (r - length (log R u)) (next R (last R u)) e
  by_number b r c e =
      let u = run R b r c in
      let h = (stopped b r c).tests in (
        λ g. reason R _ _ _ e (h ∙ ap stops (ending_by (ending R u) e g)),
        λ g. same e (ending R u) (sym (ends_by R _ _ _ e g) ∙ h),
      )
    where
      same : (e e' : Ending) → ◌≡◌ {A = What R} (stops e) (stops e') → number_of e' ≡ number_of e
      same e e' z = let i : e ≡ e' = cc in ap number_of (sym i)
