-- Induction over the moments of a list of calls.
-- Assumes nothing.
use Prim.Native.Nat.{ℕ, zero, suc, ◌-◌, ◌≤◌}
use mathlib.Core.Path.{◌≡◌, refl, ap}
use mathlib.Core.Bool.{Bool, true, false}
use mathlib.Core.Option.{Option, none, some}
use mathlib.Core.List.{List, [], ◌∷◌, ◌++◌}
use native.Mathlib.Omega.{arith}
use Rattle.rules.specs.Scheduler.{Readiness, ready, waits_for, at_guard, is_ready, Rules, Stay, Act, halts, does, Config, readiness, can_go, any_go, Next, finish, jam, bar, goes, try_of, jam_or, next_act, stay, next, Ending, paused, What, stops, makes, test, size, end, run, carry, last}
use Rattle.rules.specs.Moments.{Call, refused, call, made, ends, Moment, moments, trace}

module _ (R : Rules) where
  abbrev pub end_m : Config R → (b r : ℕ) → List Call → Ending → Moment R
  end_m c b r cs e = record { at = c; calls = call b r ∷ cs; what = ends e }

  abbrev pub step_m : Config R → (b r : ℕ) → List Call → Option R.Event → Moment R
  step_m c b r cs x = record { at = c; calls = call b r ∷ cs; what = made x }

  -- what a test says: the ending, or the step with budget left
  pub test-makes : (b r : ℕ) (y : Next R) (x : Option R.Event) (c : Config R) → test R b r y ≡ makes x c → (y ≡ goes x c) × (size R x ≤ r) × (1 ≤ b)
  test-makes b r finish x c p = absurd (let z : ◌≡◌ {A = ℕ} 0 1 = cc in omega arith)
  test-makes b r jam x c p = absurd (let z : ◌≡◌ {A = ℕ} 0 1 = cc in omega arith)
  test-makes zero r (bar k) x c p = absurd (let z : ◌≡◌ {A = ℕ} 0 1 = cc in omega arith)
  test-makes (suc b) r (bar k) x c p = absurd (let z : ◌≡◌ {A = ℕ} 0 1 = cc in omega arith)
  test-makes zero r (goes x' c') x c p = absurd (let z : ◌≡◌ {A = ℕ} 0 1 = cc in omega arith)
  test-makes (suc b) r (goes none c') x c p = (cc, rw (← q) (omega arith), omega arith)
    where
      q : none ≡ x
      q = cc
  test-makes (suc b) zero (goes (some y) c') x c p = absurd (let z : ◌≡◌ {A = ℕ} 0 1 = cc in omega arith)
  test-makes (suc b) (suc r) (goes (some y) c') x c p = (cc, rw (← q) (omega arith), omega arith)
    where
      q : some y ≡ x
      q = cc

  module _ (P : Config R → List Call → List (Moment R) → Type 0)
      (p_none : (c : Config R) → P c [] [])
      (p-refused : (c : Config R) (cs : List Call) (ms : List (Moment R)) → P c cs ms → P c (refused ∷ cs) ms)
      (p-end : (c : Config R) (b r : ℕ) (cs : List Call) (e : Ending) (ms : List (Moment R)) → test R b r (next R c) ≡ stops e → P c cs ms → P c (call b r ∷ cs) (end_m c b r cs e ∷ ms))
      (p-step : (c : Config R) (b r : ℕ) (cs : List Call) (x : Option R.Event) (c' : Config R) (ms : List (Moment R)) → next R c ≡ goes x c' → size R x ≤ r
      → P c' (call b (r - size R x) ∷ cs) ms → P c (call (suc b) r ∷ cs) (step_m c (suc b) r cs x ∷ ms)) where
    one-call : (cs : List Call) → ((c : Config R) → P c cs (trace R c cs)) → (b r : ℕ) (c : Config R) → P c (call b r ∷ cs) (trace R c (call b r ∷ cs))
    one-call cs k zero r c = go (test R zero r (next R c)) refl
      where
        go : (w : What R) → test R zero r (next R c) ≡ w → P c (call zero r ∷ cs) (moments R zero r cs (carry R w (λ x c'. end paused c') c) ++ trace R (last R (carry R w (λ x c'. end paused c') c)) cs)
        go (stops e) p = p-end c zero r cs e (trace R c cs) p (k c)
        go (makes x c') p = absurd (omega (arith, (test-makes zero r (next R c) x c' p).2))
    one-call cs k (suc b) r c = go (test R (suc b) r (next R c)) refl (λ r' c'. one-call cs k b r' c')
      where
        go : (w : What R) → test R (suc b) r (next R c) ≡ w → ((r' : ℕ) (c' : Config R) → P c' (call b r' ∷ cs) (trace R c' (call b r' ∷ cs)))
            → P c (call (suc b) r ∷ cs) (moments R (suc b) r cs (carry R w (λ x c'. run R b (r - size R x) c') c) ++ trace R (last R (carry R w (λ x c'. run R b (r - size R x) c') c)) cs)
        go (stops e) p ih = p-end c (suc b) r cs e (trace R c cs) p (k c)
        go (makes x c') p ih = let e : suc b - 1 ≡ b = omega arith in let (q, h, _) = test-makes (suc b) r (next R c) x c' p in p-step c b r cs x c' _ q h (rw e (ih (r - size R x) c'))

    pub trace_ind : (c : Config R) (cs : List Call) → P c cs (trace R c cs)
    trace_ind c [] = p_none c
    trace_ind c (refused ∷ cs) = p-refused c cs (trace R c cs) (trace_ind c cs)
    trace_ind c (call b r ∷ cs) = one-call cs (λ c'. trace_ind c' cs) b r c

  abbrev pub idle_c : R.Store → List R.Task → Config R
  idle_c s q = record { store = s; active = none; queue = q }

  abbrev pub busy_c : R.Store → R.Task → List R.Task → Config R
  busy_c s t q = record { store = s; active = some t; queue = q }

  -- The same, a step by its kind: a step of the active task, a front taken up, a front turned.
  module _ (P : Config R → List Call → List (Moment R) → Type 0)
      (p_none : (c : Config R) → P c [] [])
      (p-refused : (c : Config R) (cs : List Call) (ms : List (Moment R)) → P c cs ms → P c (refused ∷ cs) ms)
      (p-end : (c : Config R) (b r : ℕ) (cs : List Call) (e : Ending) (ms : List (Moment R)) → test R b r (next R c) ≡ stops e → P c cs ms → P c (call b r ∷ cs) (end_m c b r cs e ∷ ms))
      (p_work : (s : R.Store) (t : R.Task) (q : List R.Task) (s' : R.Store) (new : List R.Task) (y : Stay R.Task) (x : Option R.Event) (b r r' : ℕ) (cs : List Call) (ms : List (Moment R))
      → R.act s q t ≡ does s' new y x
      → P (stay R s' (q ++ new) y) (call b r' ∷ cs) ms → P (busy_c s t q) (call (suc b) r ∷ cs) (step_m (busy_c s t q) (suc b) r cs x ∷ ms))
      (p-took : (s : R.Store) (t : R.Task) (q : List R.Task) (x : Option R.Event) (b r r' : ℕ) (cs : List Call) (ms : List (Moment R))
      → can_go R (idle_c s (t ∷ q)) t ≡ true
      → P (busy_c s (R.up t) q) (call b r' ∷ cs) ms → P (idle_c s (t ∷ q)) (call (suc b) r ∷ cs) (step_m (idle_c s (t ∷ q)) (suc b) r cs x ∷ ms))
      (p-turned : (s : R.Store) (t : R.Task) (q : List R.Task) (x : Option R.Event) (b r r' : ℕ) (cs : List Call) (ms : List (Moment R))
      → can_go R (idle_c s (t ∷ q)) t ≡ false
      → P (idle_c s (q ++ (t ∷ []))) (call b r' ∷ cs) ms → P (idle_c s (t ∷ q)) (call (suc b) r ∷ cs) (step_m (idle_c s (t ∷ q)) (suc b) r cs x ∷ ms)) where
    by_kind : (s : R.Store) (a : Option R.Task) (q : List R.Task) (b r : ℕ) (cs : List Call) (x : Option R.Event) (c' : Config R) (ms : List (Moment R))
        → next R (record { store = s; active = a; queue = q }) ≡ goes x c'
        → P c' (call b (r - size R x) ∷ cs) ms → P (record { store = s; active = a; queue = q }) (call (suc b) r ∷ cs) (step_m (record { store = s; active = a; queue = q }) (suc b) r cs x ∷ ms)
    by_kind s none [] b r cs x c' ms e h = absurd (let z : ◌≡◌ {A = ℕ} 0 1 = cc in omega arith)
    by_kind s none (t ∷ q) b r cs x c' ms e h = go (any_go R (idle_c s (t ∷ q)) (t ∷ q)) (readiness R (idle_c s (t ∷ q)) t) refl e
      where
        turned : is_ready (readiness R (idle_c s (t ∷ q)) t) ≡ false → idle_c s (q ++ (t ∷ [])) ≡ c' → P (idle_c s (t ∷ q)) (call (suc b) r ∷ cs) (step_m (idle_c s (t ∷ q)) (suc b) r cs x ∷ ms)
        turned p f = p-turned s t q x b r (r - size R x) cs ms p (rw f h)

        go : (u : Bool) (v : Readiness) → readiness R (idle_c s (t ∷ q)) t ≡ v → jam_or R u (try_of R v (idle_c s (t ∷ q)) t q) ≡ goes x c' → P (idle_c s (t ∷ q)) (call (suc b) r ∷ cs) (step_m (idle_c s (t ∷ q)) (suc b) r cs x ∷ ms)
        go false v p e' = absurd (let z : ◌≡◌ {A = ℕ} 0 1 = cc in omega arith)
        go true ready p e' = p-took s t q x b r (r - size R x) cs ms (ap is_ready p) (rw f h)
          where
            f : busy_c s (R.up t) q ≡ c'
            f = cc
        go true (waits_for z) p e' = turned (ap is_ready p) cc
        go true at_guard p e' = turned (ap is_ready p) cc
    by_kind s (some t) q b r cs x c' ms e h = go (R.act s q t) refl e
      where
        go : (u : Act R.Store R.Task R.Event) → R.act s q t ≡ u → next_act R q u ≡ goes x c' → P (busy_c s t q) (call (suc b) r ∷ cs) (step_m (busy_c s t q) (suc b) r cs x ∷ ms)
        go (halts k) p e' = absurd (let z : ◌≡◌ {A = ℕ} 0 1 = cc in omega arith)
        go (does s' new y x') p e' = p_work s t q s' new y x b r (r - size R x) cs ms (rw (← g) p) (rw f h)
          where
            f : stay R s' (q ++ new) y ≡ c'
            f = cc

            g : x' ≡ x
            g = cc

    pub trace_cases : (c : Config R) (cs : List Call) → P c cs (trace R c cs)
    trace_cases = trace_ind P p_none p-refused p-end (λ c b r cs x c' ms e _ h. by_kind c.store c.active c.queue b r cs x c' ms e h)
