-- Stuck states, and what any list of picks does there.
-- Assumes nothing.
use Prim.Native.Nat.{ℕ, zero, suc}
use mathlib.Core.Path.{◌≡◌, refl, sym, ap, subst, fun_ext}
use mathlib.Core.Logic.{◌↔◌}
use mathlib.Core.Bool.{false}
use mathlib.Core.Option.{Option, none}
use mathlib.Core.List.{List, [], ◌∷◌, ◌++◌}
use native.Mathlib.Omega.{arith}
use lib.Dec.{ltb}
use Rattle.rules.specs.Scheduler.{is_ready, Rules, count, is_live, Config, readiness, can_go, goes, next, Ending, stuck, stops, test}
use Rattle.rules.specs.Moments.{Call, Does, made, ends, Moment, trace}
use Rattle.rules.specs.Fairness.{Every, Stuck, second, pull, afterwards, try_first, Turned, AllTurned}
use Rattle.rules.proofs.Scheduling.Lawful.{turns_when}
use Rattle.rules.proofs.Scheduling.Induction.{idle_c, trace_ind}
use Rattle.rules.proofs.Scheduling.Bound.{not_nil, every-mid, count-append, reason, jam-stuck, stuck-jam}
use Rattle.rules.proofs.Lists.{every_append, every_map}

module _ (R : Rules) where
  count-second : (n : ℕ) (t : R.Task) (q : List R.Task) → count R n (second R t q) ≡ count R n (t ∷ q)
  count-second n t [] = refl
  count-second n t (u ∷ q) = omega arith

  count-pull : (n i : ℕ) (q : List R.Task) → count R n (pull R i q) ≡ count R n q
  count-pull n i [] = refl
  count-pull n zero (t ∷ q) = refl
  count-pull n (suc i) (t ∷ q) = omega (arith, count-second n t (pull R i q), count-pull n i q)

  every-second : (P : R.Task → Type 0) (t : R.Task) (q : List R.Task) → P t → Every P q → Every P (second R t q)
  every-second P t [] h g = (h, g)
  every-second P t (u ∷ q) h g = (g.0, (h, g.1))

  every-pull : (P : R.Task → Type 0) (i : ℕ) (q : List R.Task) → Every P q → Every P (pull R i q)
  every-pull P i [] h = h
  every-pull P zero (t ∷ q) h = h
  every-pull P (suc i) (t ∷ q) h = every-second P t (pull R i q) h.0 (every-pull P i q h.1)

  pull_not_nil : (i : ℕ) (q : List R.Task) → ¬ (q ≡ []) → ¬ (pull R i q ≡ [])
  pull_not_nil i [] h e = h refl
  pull_not_nil zero (t ∷ q) h e = h e
  pull_not_nil (suc i) (t ∷ q) h e = go (pull R i q) e
    where
      go : (l : List R.Task) → ¬ (second R t l ≡ [])
      go [] e = let z : ◌≡◌ {A = ℕ} 0 1 = cc in omega arith
      go (u ∷ l) e = let z : ◌≡◌ {A = ℕ} 0 1 = cc in omega arith

  -- one turn leaves a stuck state stuck
  turn-stuck : (c : Config R) (t : R.Task) (q : List R.Task) → Stuck R c → ((n : ℕ) → count R n (t ∷ q) ≡ count R n c.queue) → Every (λ u. can_go R c u ≡ false) (t ∷ q)
      → Stuck R (record { store = c.store; active = none; queue = q ++ (t ∷ []) })
  turn-stuck c t q s k h = record { idle = refl; some_queued = not_nil R q t []; none_ready = every_map (λ u. can_go R c u ≡ false) (λ u. can_go R (idle_c R c.store (q ++ (t ∷ []))) u ≡ false) (λ u e. subst (λ f. is_ready (R.wait c.store f u) ≡ false) (sym same) e) (q ++ (t ∷ [])) (every_append (λ u. can_go R c u ≡ false) q (t ∷ []) h.1 (h.0, tt)) }
    where
      same : is_live R (q ++ (t ∷ [])) ≡ is_live R c.queue
      same = fun_ext (λ n. let e : count R n (q ++ (t ∷ [])) ≡ count R n c.queue = omega (arith, count-append R n q (t ∷ []), k n) in ap (λ z. ltb 0 z) e)

  pub stuck_for_ever : (c : Config R) → Stuck R c → (picks : List ℕ) → AllTurned R c picks
  stuck_for_ever c s [] = tt
  stuck_for_ever c s (i ∷ picks) = go (pull R i c.queue) (pull_not_nil i c.queue s.some_queued) (λ n. count-pull n i c.queue) (every-pull (λ u. can_go R c u ≡ false) i c.queue s.none_ready) (λ c' s'. stuck_for_ever c' s' picks)
    where
      go : (l : List R.Task) → ¬ (l ≡ []) → ((n : ℕ) → count R n l ≡ count R n c.queue) → Every (λ u. can_go R c u ≡ false) l → ((c' : Config R) → Stuck R c' → AllTurned R c' picks)
          → Turned R c l (try_first R c l) × AllTurned R (afterwards R c (try_first R c l)) picks
      go [] n k h ih = absurd (n refl)
      go (t ∷ q) n k h ih =
          let w = turns_when R (readiness R c t) h.0 c t q in
          (w, subst (λ y. AllTurned R (afterwards R c y) picks) (sym w.1) (ih (idle_c R c.store (q ++ (t ∷ []))) (turn-stuck c t q s k h)))

  -- at every moment of a list of calls: "stuck" is said exactly of a stuck state
  StuckP : Config R → List Call → List (Moment R) → Type 0
  StuckP c cs ms = Every (λ m. (m.what ≡ ends stuck) ↔ Stuck R m.at) ms

  stuck_end : (c : Config R) (b r : ℕ) (e : Ending) → test R b r (next R c) ≡ stops e → (◌≡◌ {A = Does R} (ends e) (ends stuck)) ↔ Stuck R c
  stuck_end c b r e h = (λ p. let q : e ≡ stuck = cc in jam-stuck R c (reason R b r (next R c) stuck (rw q at h)), λ s. let k : test R b r (next R c) ≡ stops stuck = rw (stuck-jam R c s) refl in cc)

  stuck_step : (c : Config R) (x : Option R.Event) (c' : Config R) → next R c ≡ goes x c' → (◌≡◌ {A = Does R} (made x) (ends stuck)) ↔ Stuck R c
  stuck_step c x c' h = (λ p. absurd (let z : ◌≡◌ {A = ℕ} 0 1 = cc in omega arith), λ s. absurd (let k = stuck-jam R c s in let z : ◌≡◌ {A = ℕ} 0 1 = cc in omega arith))

  stuck_all : (c : Config R) (cs : List Call) → StuckP c cs (trace R c cs)
  unfolding StuckP
  stuck_all = trace_ind R StuckP (λ c. tt) (λ c cs ms ih. ih) (λ c b r cs e ms h ih. (stuck_end c b r e h, ih)) (λ c b r cs x c' ms h l ih. (stuck_step c x c' h, ih))

  pub stuck-exactly : (c : Config R) (cs : List Call) (pre post : List (Moment R)) (m : Moment R) → trace R c cs ≡ pre ++ (m ∷ post) → (m.what ≡ ends stuck) ↔ Stuck R m.at
  unfolding StuckP
  stuck-exactly c cs pre post m e = every-mid R (λ m. (m.what ≡ ends stuck) ↔ Stuck R m.at) pre m post (subst (λ l. Every (λ m. (m.what ≡ ends stuck) ↔ Stuck R m.at) l) e (stuck_all c cs))
