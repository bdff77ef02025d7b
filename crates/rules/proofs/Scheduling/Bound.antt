-- The waiting bound.
-- Assumes nothing.
use Prim.Native.Nat.{ℕ, zero, suc, ◌+◌, ◌-◌, ◌*◌, ◌≤◌}
use mathlib.Core.Path.{◌≡◌, refl, sym, ap, ◌∙◌, subst}
use mathlib.Core.Bool.{Bool, true, false, ◌||◌}
use mathlib.Core.Option.{Option, none, some}
use mathlib.Core.List.{List, [], ◌∷◌, ◌++◌, append_assoc, tail-eq_of_cons-eq}
use native.Mathlib.Omega.{arith}
use lib.ListN.{length}
use Rattle.rules.specs.Scheduler.{Readiness, ready, waits_for, at_guard, Rules, Halt, tasks, spent, novalue, Stay, on, back, over, Act, halts, does, count, Config, readiness, can_go, any_go, Next, finish, jam, bar, goes, try_of, jam_or, next_act, stay, next, Ending, finished, paused, stuck, logfull, halted, stops, test}
use Rattle.rules.specs.Moments.{Call, call, budgets, Does, made, ends, Moment, trace}
use Rattle.rules.specs.Fairness.{Every, tried, until, step_by, longest_of, longest, Free, Stuck, TakenWithin}
use Rattle.rules.proofs.Scheduling.Lawful.{ready_when}
use Rattle.rules.proofs.Scheduling.Induction.{end_m, step_m, idle_c, busy_c, trace_cases}

module _ (R : Rules) where
  -- the reason of each ending, with so much budget and room left
  abbrev pub Reason : (b r : ℕ) → Next R → Ending → Type 0
  Reason b r y finished = y ≡ finish
  Reason b r y paused = (b ≡ 0) × (¬ (y ≡ finish)) × (¬ (y ≡ jam))
  Reason b r y stuck = y ≡ jam
  Reason b r y logfull = (1 ≤ b) × (r ≡ 0) × ((x : R.Event) × (c : Config R) × (y ≡ goes (some x) c))
  Reason b r y (halted k) = (1 ≤ b) × (y ≡ bar k)

  -- a call ends so exactly by its reason
  pub reason : (b r : ℕ) (y : Next R) (e : Ending) → test R b r y ≡ stops e → Reason b r y e
  reason b r finish e p = let q : finished ≡ e = cc in rw (← q) refl
  reason b r jam e p = let q : stuck ≡ e = cc in rw (← q) refl
  reason zero r (bar k) e p = let q : paused ≡ e = cc in rw (← q) (refl, (λ z. let w : ◌≡◌ {A = ℕ} 0 1 = cc in omega arith), (λ z. let w : ◌≡◌ {A = ℕ} 0 1 = cc in omega arith))
  reason (suc b) r (bar k) e p = let q : halted k ≡ e = cc in rw (← q) (omega arith, refl)
  reason zero r (goes x c) e p = let q : paused ≡ e = cc in rw (← q) (refl, (λ z. let w : ◌≡◌ {A = ℕ} 0 1 = cc in omega arith), (λ z. let w : ◌≡◌ {A = ℕ} 0 1 = cc in omega arith))
  reason (suc b) r (goes none c) e p = absurd (let z : ◌≡◌ {A = ℕ} 0 1 = cc in omega arith)
  reason (suc b) zero (goes (some x) c) e p = let q : logfull ≡ e = cc in rw (← q) (omega arith, refl, (x, c, refl))
  reason (suc b) (suc r) (goes (some x) c) e p = absurd (let z : ◌≡◌ {A = ℕ} 0 1 = cc in omega arith)

  pub ends_by : (b r : ℕ) (y : Next R) (e : Ending) → Reason b r y e → test R b r y ≡ stops e
  ends_by b r y finished h = rw h refl
  ends_by b r y stuck h = rw h refl
  ends_by (suc b) r y paused h = absurd (omega (arith, h.0))
  ends_by zero r finish paused h = absurd (h.1 refl)
  ends_by zero r jam paused h = absurd (h.2 refl)
  ends_by zero r (bar k) paused h = refl
  ends_by zero r (goes x c) paused h = refl
  ends_by zero r y logfull h = absurd (omega (arith, h.0))
  ends_by (suc b) zero y logfull h = rw h.2.2 refl
  ends_by (suc b) (suc r) y logfull h = absurd (omega (arith, h.1))
  ends_by zero r y (halted k) h = absurd (omega (arith, h.0))
  ends_by (suc b) r y (halted k) h = rw h.1 refl

  pub none_go : (c : Config R) (q : List R.Task) → any_go R c q ≡ false → Every (λ t. can_go R c t ≡ false) q
  none_go c [] h = tt
  none_go c (t ∷ q) h = go (can_go R c t) refl h (λ p. none_go c q p)
    where
      go : (v : Bool) → can_go R c t ≡ v → (v || any_go R c q) ≡ false → (any_go R c q ≡ false → Every (λ t. can_go R c t ≡ false) q) → Every (λ t. can_go R c t ≡ false) (t ∷ q)
      go true e p ih = absurd (let z : ◌≡◌ {A = ℕ} 0 1 = cc in omega arith)
      go false e p ih = (e, ih p)

  pub go_none : (c : Config R) (q : List R.Task) → Every (λ t. can_go R c t ≡ false) q → any_go R c q ≡ false
  go_none c [] h = refl
  go_none c (t ∷ q) h = rw h.0 (go_none c q h.1)

  no_jam : (u : Bool) (y : Next R) → ¬ (y ≡ jam) → jam_or R u y ≡ jam → u ≡ false
  no_jam true y n e = absurd (n e)
  no_jam false y n e = refl

  try_no_jam : (u : Readiness) (c : Config R) (t : R.Task) (q : List R.Task) → ¬ (try_of R u c t q ≡ jam)
  try_no_jam ready c t q e = let z : ◌≡◌ {A = ℕ} 0 1 = cc in omega arith
  try_no_jam (waits_for w) c t q e = let z : ◌≡◌ {A = ℕ} 0 1 = cc in omega arith
  try_no_jam at_guard c t q e = let z : ◌≡◌ {A = ℕ} 0 1 = cc in omega arith

  act_no_jam : (q : List R.Task) (a : Act R.Store R.Task R.Event) → ¬ (next_act R q a ≡ jam)
  act_no_jam q (halts k) e = let z : ◌≡◌ {A = ℕ} 0 1 = cc in omega arith
  act_no_jam q (does s new y x) e = let z : ◌≡◌ {A = ℕ} 0 1 = cc in omega arith

  act_not_done : (q : List R.Task) (a : Act R.Store R.Task R.Event) → ¬ (next_act R q a ≡ finish)
  act_not_done q (halts k) e = let z : ◌≡◌ {A = ℕ} 0 1 = cc in omega arith
  act_not_done q (does s new y x) e = let z : ◌≡◌ {A = ℕ} 0 1 = cc in omega arith

  -- "stuck" is said exactly of a stuck configuration
  pub jam-stuck : (c : Config R) → next R c ≡ jam → Stuck R c
  jam-stuck c = go c.store c.active c.queue
    where
      go : (s : R.Store) (a : Option R.Task) (q : List R.Task) → next R (record { store = s; active = a; queue = q }) ≡ jam → Stuck R (record { store = s; active = a; queue = q })
      go s none [] h = absurd (let z : ◌≡◌ {A = ℕ} 0 1 = cc in omega arith)
      go s none (t ∷ q) h = record {
        idle = refl;
        some_queued = λ e. (let z : ◌≡◌ {A = ℕ} 0 1 = cc in omega arith);
        none_ready = none_go (idle_c R s (t ∷ q)) (t ∷ q) (no_jam (any_go R (idle_c R s (t ∷ q)) (t ∷ q)) (try_of R (readiness R (idle_c R s (t ∷ q)) t) (idle_c R s (t ∷ q)) t q) (try_no_jam (readiness R (idle_c R s (t ∷ q)) t) (idle_c R s (t ∷ q)) t q) h);
      }
      go s (some t) q h = absurd (act_no_jam q (R.act s q t) h)

  pub stuck-jam : (c : Config R) → Stuck R c → next R c ≡ jam
  stuck-jam c = go c.store c.active c.queue
    where
      go : (s : R.Store) (a : Option R.Task) (q : List R.Task) → Stuck R (record { store = s; active = a; queue = q }) → next R (record { store = s; active = a; queue = q }) ≡ jam
      go s none [] h = absurd (h.some_queued refl)
      go s none (t ∷ q) h = rw (go_none (idle_c R s (t ∷ q)) (t ∷ q) h.none_ready) refl
      go s (some t) q h = absurd (let p : some t ≡ none = h.idle in let z : ◌≡◌ {A = ℕ} 0 1 = cc in omega arith)

  pub idle_no_bar : (s : R.Store) (t : R.Task) (q : List R.Task) (k : Halt) → ¬ (next R (idle_c R s (t ∷ q)) ≡ bar k)
  idle_no_bar s t q k = go (any_go R (idle_c R s (t ∷ q)) (t ∷ q)) (readiness R (idle_c R s (t ∷ q)) t)
    where
      go : (u : Bool) (v : Readiness) → ¬ (jam_or R u (try_of R v (idle_c R s (t ∷ q)) t q) ≡ bar k)
      go true ready e = let z : ◌≡◌ {A = ℕ} 0 1 = cc in omega arith
      go true (waits_for w) e = let z : ◌≡◌ {A = ℕ} 0 1 = cc in omega arith
      go true at_guard e = let z : ◌≡◌ {A = ℕ} 0 1 = cc in omega arith
      go false v e = let z : ◌≡◌ {A = ℕ} 0 1 = cc in omega arith

  -- "finished" is said exactly of a configuration without tasks
  pub finish-empty : (c : Config R) → next R c ≡ finish → (c.active ≡ none) × (c.queue ≡ [])
  finish-empty c = go c.store c.active c.queue
    where
      try_not_done : (u : Bool) (v : Readiness) (c : Config R) (t : R.Task) (q : List R.Task) → ¬ (jam_or R u (try_of R v c t q) ≡ finish)
      try_not_done true ready c t q e = let z : ◌≡◌ {A = ℕ} 0 1 = cc in omega arith
      try_not_done true (waits_for w) c t q e = let z : ◌≡◌ {A = ℕ} 0 1 = cc in omega arith
      try_not_done true at_guard c t q e = let z : ◌≡◌ {A = ℕ} 0 1 = cc in omega arith
      try_not_done false v c t q e = let z : ◌≡◌ {A = ℕ} 0 1 = cc in omega arith

      go : (s : R.Store) (a : Option R.Task) (q : List R.Task) → next R (record { store = s; active = a; queue = q }) ≡ finish → (a ≡ none) × (q ≡ [])
      go s none [] h = (refl, refl)
      go s none (t ∷ q) h = absurd (try_not_done (any_go R (idle_c R s (t ∷ q)) (t ∷ q)) (readiness R (idle_c R s (t ∷ q)) t) (idle_c R s (t ∷ q)) t q h)
      go s (some t) q h = absurd (act_not_done q (R.act s q t) h)

  pub empty-finish : (c : Config R) → c.active ≡ none → c.queue ≡ [] → next R c ≡ finish
  empty-finish c a q = rw (a, q) refl

  -- what a member of an appended list has
  pub every-mid : {A : Type 0} (P : A → Type 0) (xs : List A) (y : A) (ys : List A) → Every P (xs ++ (y ∷ ys)) → P y
  every-mid P [] y ys h = h.0
  every-mid P (x ∷ xs) y ys h = every-mid P xs y ys h.1

  pub not_nil : {A : Type 0} (xs : List A) (y : A) (ys : List A) → ¬ (xs ++ (y ∷ ys) ≡ [])
  not_nil [] y ys e = let z : ◌≡◌ {A = ℕ} 0 1 = cc in omega arith
  not_nil (x ∷ xs) y ys e = let z : ◌≡◌ {A = ℕ} 0 1 = cc in omega arith

  pub count-append : (i : ℕ) (xs ys : List R.Task) → count R i (xs ++ ys) ≡ count R i xs + count R i ys
  count-append i [] ys = omega arith
  count-append i (x ∷ xs) ys = omega (arith, count-append i xs ys)

  later : (m : Moment R) (ms : List (Moment R)) (k k' : ℕ) (t : R.Task) → count R (R.num t) (tried R m) ≡ 0 → step_by R m.what + k ≤ k' → TakenWithin R k t ms → TakenWithin R k' t (m ∷ ms)
  later m ms k k' t o h w = record {
    before = m ∷ w.before;
    turn = w.turn;
    after = w.after;
    rest = w.rest;
    splits = ap (λ l. m ∷ l) w.splits;
    not_before = rw count-append (omega (arith, w.not_before));
    tries_it = w.tries_it;
    taken_up = w.taken_up;
    soon = omega (arith, w.soon);
  }

  longest_ge : (d : ℕ) (ms : List (Moment R)) → d ≤ longest R d ms
  longest_ge d [] = omega arith
  longest_ge d (m ∷ ms) = go m.at.active m.what (λ d'. longest_ge d' ms)
    where
      go : (a : Option R.Task) (w : Does R) → ((d' : ℕ) → d' ≤ longest R d' ms) → d ≤ longest_of R d a w (λ d'. longest R d' ms)
      go a (ends e) ih = ih d
      go none (made x) ih = omega arith
      go (some t) (made x) ih = omega (arith, ih (suc d))

  abbrev pub Waits : R.Task → Moment R → Type 0
  Waits t m = m.at.active ≡ none → can_go R m.at t ≡ true

  -- the steps still to be made at most before the try: k bursts with a try each, and what the present burst may still take
  abbrev pub need : Option R.Task → (d k b : ℕ) → ℕ
  need none d k b = k * (b + 1)
  need (some t) d k b = (b - d) + k * (b + 1)

  unfoldable pub BoundP : Config R → List Call → List (Moment R) → Type 0
  BoundP c cs ms = (d b : ℕ) (A B : List R.Task) (t : R.Task) → c.queue ≡ A ++ (t ∷ B) → count R (R.num t) A ≡ 0
      → Every (Waits t) (until R (R.num t) ms) → Every (λ m. Free R m.what) (until R (R.num t) ms) → longest R d (until R (R.num t) ms) ≤ b
      → need c.active d (length A) b + 1 ≤ budgets cs → TakenWithin R (need c.active d (length A) b + 1) t ms

  bound_end : (c : Config R) (b r : ℕ) (cs : List Call) (e : Ending) (ms : List (Moment R)) → test R b r (next R c) ≡ stops e → BoundP c cs ms → BoundP c (call b r ∷ cs) (end_m R c b r cs e ∷ ms)
  unfolding BoundP
  bound_end c b r cs e ms p ih d b' A B t q n w f l h = go e (reason b r (next R c) e p) f.0
    where
      go : (e : Ending) → Reason b r (next R c) e → Free R (ends e) → TakenWithin R (need c.active d (length A) b' + 1) t (end_m R c b r cs e ∷ ms)
      go finished z y = absurd (not_nil A t B (sym q ∙ (finish-empty c z).1))
      go paused z y = later (end_m R c b r cs paused) ms (need c.active d (length A) b' + 1) (need c.active d (length A) b' + 1) t refl (omega arith) (ih d b' A B t q n w.1 f.1 l (omega (arith, z.0)))
      go stuck z y = absurd (let v = jam-stuck c z in let g = w.0 v.idle in let g' = every-mid (λ u. can_go R c u ≡ false) A t B (subst (λ l. Every (λ u. can_go R c u ≡ false) l) q v.none_ready) in (let z : ◌≡◌ {A = ℕ} 0 1 = cc in omega arith))
      go logfull z y = absurd (y tt)
      go (halted tasks) z y = absurd (y tt)
      go (halted spent) z y = absurd (y tt)
      go (halted novalue) z y = absurd (y tt)

  pub grow : {A : Type 0} {q : List A} (xs : List A) (u : A) (ys : List A) (new : List A) → q ≡ xs ++ (u ∷ ys) → q ++ new ≡ xs ++ (u ∷ (ys ++ new))
  grow xs u ys new e = ap (λ l. l ++ new) e ∙ append_assoc xs (u ∷ ys) new

  until-other : (n : ℕ) (m : Moment R) (ms : List (Moment R)) → count R n (tried R m) ≡ 0 → until R n (m ∷ ms) ≡ m ∷ until R n ms
  until-other n m ms h = rw h refl

  bound_work : (s : R.Store) (t : R.Task) (q : List R.Task) (s' : R.Store) (new : List R.Task) (y : Stay R.Task) (x : Option R.Event) (b r r' : ℕ) (cs : List Call) (ms : List (Moment R))
      → R.act s q t ≡ does s' new y x
      → BoundP (stay R s' (q ++ new) y) (call b r' ∷ cs) ms → BoundP (busy_c R s t q) (call (suc b) r ∷ cs) (step_m R (busy_c R s t q) (suc b) r cs x ∷ ms)
  unfolding BoundP
  bound_work s t q s' new (on t') x b r r' cs ms p ih d b' A B u e n w f l h =
      let g = longest_ge (suc d) (until R (R.num u) ms) in
      later _ ms ((b' - suc d) + length A * (b' + 1) + 1) _ u refl (omega arith) (ih (suc d) b' A (B ++ new) u (grow A u B new e) n w.1 f.1 l (omega arith))
  bound_work s t q s' new (back t') x b r r' cs ms p ih d b' A B u e n w f l h =
      let g = longest_ge (suc d) (until R (R.num u) ms) in
      later _ ms (length A * (b' + 1) + 1) _ u refl (omega arith) (ih (suc d) b' A ((B ++ new) ++ (t' ∷ [])) u (grow A u (B ++ new) (t' ∷ []) (grow A u B new e)) n w.1 f.1 l (omega arith))
  bound_work s t q s' new over x b r r' cs ms p ih d b' A B u e n w f l h =
      let g = longest_ge (suc d) (until R (R.num u) ms) in
      later _ ms (length A * (b' + 1) + 1) _ u refl (omega arith) (ih (suc d) b' A (B ++ new) u (grow A u B new e) n w.1 f.1 l (omega arith))

  bound_took : (s : R.Store) (t : R.Task) (q : List R.Task) (x : Option R.Event) (b r r' : ℕ) (cs : List Call) (ms : List (Moment R))
      → can_go R (idle_c R s (t ∷ q)) t ≡ true
      → BoundP (busy_c R s (R.up t) q) (call b r' ∷ cs) ms → BoundP (idle_c R s (t ∷ q)) (call (suc b) r ∷ cs) (step_m R (idle_c R s (t ∷ q)) (suc b) r cs x ∷ ms)
  unfolding BoundP
  bound_took s t q x b r r' cs ms p ih d b' [] B u e n w f l h =
      let g : t ≡ u = cc in record { before = []; turn = step_m R (idle_c R s (t ∷ q)) (suc b) r cs x; after = ms; rest = q; splits = refl; not_before = refl; tries_it = ap (λ z. z ∷ []) g; taken_up = rw (← g) (rw (ready_when (readiness R (idle_c R s (t ∷ q)) t) p) refl); soon = omega arith }
  bound_took s t q x b r r' cs ms p ih d b' (a ∷ A) B u e n w f l h =
      let m = step_m R (idle_c R s (t ∷ q)) (suc b) r cs x in
      let g : t ≡ a = cc in
      let k : count R (R.num u) (t ∷ []) ≡ 0 = rw g (omega arith) in
      let o = until-other (R.num u) m ms k in
      let l' : longest R d (m ∷ until R (R.num u) ms) ≤ b' = subst (λ z. longest R d z ≤ b') o l in
      later _ ms ((b' - 0) + length A * (b' + 1) + 1) _ u k (omega arith) (ih 0 b' A B u (tail-eq_of_cons-eq e) (omega arith) (subst (λ z. Every (Waits u) z) o w).1 (subst (λ z. Every (λ m. Free R m.what) z) o f).1 (omega arith) (omega arith))

  bound_turned : (s : R.Store) (t : R.Task) (q : List R.Task) (x : Option R.Event) (b r r' : ℕ) (cs : List Call) (ms : List (Moment R))
      → can_go R (idle_c R s (t ∷ q)) t ≡ false
      → BoundP (idle_c R s (q ++ (t ∷ []))) (call b r' ∷ cs) ms → BoundP (idle_c R s (t ∷ q)) (call (suc b) r ∷ cs) (step_m R (idle_c R s (t ∷ q)) (suc b) r cs x ∷ ms)
  unfolding BoundP
  bound_turned s t q x b r r' cs ms p ih d b' [] B u e n w f l h = absurd (let g : t ≡ u = cc in let j = w.0 refl in (let z : ◌≡◌ {A = ℕ} 0 1 = cc in omega arith))
  bound_turned s t q x b r r' cs ms p ih d b' (a ∷ A) B u e n w f l h =
      let m = step_m R (idle_c R s (t ∷ q)) (suc b) r cs x in
      let g : t ≡ a = cc in
      let k : count R (R.num u) (t ∷ []) ≡ 0 = rw g (omega arith) in
      let o = until-other (R.num u) m ms k in
      let l' : longest R d (m ∷ until R (R.num u) ms) ≤ b' = subst (λ z. longest R d z ≤ b') o l in
      later _ ms (length A * (b' + 1) + 1) _ u k (omega arith) (ih 0 b' A (B ++ (t ∷ [])) u (grow A u B (t ∷ []) (tail-eq_of_cons-eq e)) (omega arith) (subst (λ z. Every (Waits u) z) o w).1 (subst (λ z. Every (λ m. Free R m.what) z) o f).1 (omega arith) (omega arith))

  pub bound-from : (c : Config R) (cs : List Call) → BoundP c cs (trace R c cs)
  unfolding BoundP
  bound-from = trace_cases R BoundP (λ c d b A B t e n w f l h. absurd (omega arith)) (λ c cs ms ih. ih) bound_end bound_work bound_took bound_turned
