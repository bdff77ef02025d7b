-- Demand 3, for every list of run calls.
-- Assumes nothing.
use Prim.Native.Nat.{ℕ, ◌+◌, ◌*◌, ◌≤◌}
use mathlib.Core.Path.{◌≡◌, refl, sym, subst}
use mathlib.Core.Option.{Option, none}
use mathlib.Core.List.{List, [], ◌∷◌, ◌++◌}
use native.Mathlib.Omega.{arith}
use lib.ListN.{length}
use Rattle.rules.specs.Scheduler.{Rules, Config}
use Rattle.rules.specs.Moments.{Call, refused, call, budgets, Moment, trace}
use Rattle.rules.specs.Fairness.{Valid, Allowed, Waiting, TakenWithin, Demand3}
use Rattle.rules.proofs.Scheduling.Lawful.{Lawful}
use Rattle.rules.proofs.Scheduling.Bound.{not_nil, need, BoundP, bound-from}
use Rattle.rules.proofs.Scheduling.Along.{suffix, valid_at}
use Rattle.rules.proofs.Scheduling.Turns.{turns, order, alone}
use Rattle.rules.proofs.Scheduling.Stuck.{stuck_for_ever, stuck-exactly}
use Rattle.rules.proofs.Scheduling.Whole.{linked, steps_add, logs-join, endings_said}

module _ (R : Rules) where
  module _ (L : Lawful R) where
    need_idle : (a : Option R.Task) (d k b : ℕ) → a ≡ none → need R a d k b ≡ k * (b + 1)
    need_idle a d k b e = rw e refl

    bound_at : (c : Config R) (cs : List Call) → Valid R c → (pre post : List (Moment R)) (m : Moment R) (ahead behind : List R.Task) (t : R.Task) (b : ℕ) → trace R c cs ≡ pre ++ (m ∷ post)
        → m.at.active ≡ none → m.at.queue ≡ ahead ++ (t ∷ behind) → Waiting R t b (m ∷ post)
        → length ahead * (b + 1) + 1 ≤ budgets m.calls
        → TakenWithin R (length ahead * (b + 1) + 1) t (m ∷ post)
    unfolding BoundP
    bound_at c cs v pre post m ahead behind t b e i q w h =
        let g = subst (λ l. BoundP R m.at m.calls l) (sym (suffix R c cs pre post m e)) (bound-from R m.at m.calls) in
        let k = need_idle m.at.active 0 (length ahead) b i in
        subst (λ z. TakenWithin R (z + 1) t (m ∷ post)) k (g 0 b ahead behind t q (alone R m.at ahead behind t (valid_at R L c cs v pre post m e) q).0 w.can_go_holds w.free w.bursts (omega arith))

    pub demand_3 : (c : Config R) (cs : List Call) → Allowed R c cs → Demand3 R c cs
    demand_3 c [] v = record {
      chain = refl;
      counts = refl;
      logs = refl;
      numbers = refl;
      from_then = λ pre post m e. absurd (not_nil R pre m post (sym e));
      round = λ n pre mid post x y e. absurd (not_nil R pre x (mid ++ (y ∷ post)) (sym e));
      order = λ pre rest mid post m y A B t e. absurd (not_nil R pre m rest (sym e));
      bound = λ pre post m A B t b e. absurd (not_nil R pre m post (sym e));
      stops_stuck = λ pre post m e. absurd (not_nil R pre m post (sym e));
      never_freed = λ pre post m e. absurd (not_nil R pre m post (sym e));
    }
    demand_3 c (refused ∷ cs) v = let d = demand_3 c cs v in record { chain = d.chain; counts = d.counts; logs = d.logs; numbers = d.numbers; from_then = d.from_then; round = d.round; order = d.order; bound = d.bound; stops_stuck = d.stops_stuck; never_freed = d.never_freed }
    demand_3 c (call b r ∷ cs) v = record {
      chain = linked R c (call b r ∷ cs);
      counts = steps_add R c (call b r ∷ cs);
      logs = logs-join R c (call b r ∷ cs);
      numbers = endings_said R c (call b r ∷ cs);
      from_then = suffix R c (call b r ∷ cs);
      round = turns R L c (call b r ∷ cs) v;
      order = order R L c (call b r ∷ cs) v;
      bound = bound_at c (call b r ∷ cs) v;
      stops_stuck = stuck-exactly R c (call b r ∷ cs);
      never_freed = λ pre post m e s. stuck_for_ever R m.at ((stuck-exactly R c (call b r ∷ cs) pre post m e).0 s);
    }
