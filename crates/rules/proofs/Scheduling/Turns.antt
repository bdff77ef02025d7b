-- Round robin: between two tries of one task.
-- Assumes nothing.
use Prim.Native.Nat.{ℕ, suc, ◌+◌, ◌≤◌}
use mathlib.Core.Path.{◌≡◌, refl, sym, ap, ◌∙◌, subst}
use mathlib.Core.Bool.{Bool, true, false}
use mathlib.Core.Option.{Option, none, some}
use mathlib.Core.List.{List, [], ◌∷◌, ◌++◌, append-nil, head-eq_of_cons-eq, tail-eq_of_cons-eq}
use native.Mathlib.Omega.{arith}
use native.Mathlib.Decide.{dec_le}
use lib.Dec.{T, eqb, eqb→eq, eqb_refl}
use Rattle.rules.specs.State.{live, live_tasks}
use Rattle.rules.specs.Scheduler.{Rules, Stay, on, back, over, does, is, count, Config, can_go, stay, next, Ending, stops, test}
use Rattle.rules.specs.Moments.{Call, refused, call, Moment, trace}
use Rattle.rules.specs.Fairness.{Valid, tried, tries, if_num, joined_back, aheads}
use Rattle.rules.proofs.Scheduling.Lawful.{Keeps, Lawful}
use Rattle.rules.proofs.Scheduling.Induction.{end_m, step_m, idle_c, busy_c, trace_cases}
use Rattle.rules.proofs.Scheduling.Bound.{not_nil, count-append, grow}
use Rattle.rules.proofs.Scheduling.Along.{suffix, stay-store, sound, valid_work, valid_took, valid_turned, valid_at}

T_true : (b : Bool) → T b → b ≡ true
T_true true h = refl
T_true false h = absurd h

pub true_T : (b : Bool) → b ≡ true → T b
true_T true h = tt
true_T false h = absurd (let z : ◌≡◌ {A = ℕ} 0 1 = cc in omega arith)

is-zero : (b : Bool) → is b ≡ 0 → b ≡ false
is-zero true h = absurd (omega arith)
is-zero false h = refl

pub is_one : (b : Bool) → is b ≡ 1 → b ≡ true
is_one true h = refl
is_one false h = absurd (omega arith)

module _ (R : Rules) where
  self : (t : R.Task) → is (eqb (R.num t) (R.num t)) ≡ 1
  self t = rw (T_true (eqb (R.num t) (R.num t)) (eqb_refl (R.num t))) refl

  same-num : (n : ℕ) (t : R.Task) → is (eqb n (R.num t)) ≡ 1 → n ≡ R.num t
  same-num n t h = eqb→eq n (R.num t) (true_T (eqb n (R.num t)) (is_one (eqb n (R.num t)) h))

  if_num-other : (n : ℕ) (t : R.Task) (q : List R.Task) → is (eqb n (R.num t)) ≡ 0 → if_num R n t q ≡ []
  if_num-other n t q h = rw (is-zero (eqb n (R.num t)) h) refl

  if_num_self : (n : ℕ) (t : R.Task) (q : List R.Task) → n ≡ R.num t → if_num R n t q ≡ q ∷ []
  if_num_self n t q h = rw (h, T_true (eqb (R.num t) (R.num t)) (eqb_refl (R.num t))) refl

  -- a split of a list that has a first element
  at_split : (Q : List (Moment R) → Moment R → Type 0) (m₀ : Moment R) (ms post : List (Moment R)) → Q [] m₀
      → ((mid : List (Moment R)) (y : Moment R) → ms ≡ mid ++ (y ∷ post) → Q (m₀ ∷ mid) y) → (mid : List (Moment R)) (y : Moment R) → m₀ ∷ ms ≡ mid ++ (y ∷ post) → Q mid y
  at_split Q m₀ ms post f g [] y e = subst (λ z. Q [] z) (head-eq_of_cons-eq e) f
  at_split Q m₀ ms post f g (m ∷ mid) y e = subst (λ z. Q (z ∷ mid) y) (head-eq_of_cons-eq e) (g mid y (tail-eq_of_cons-eq e))

  -- in a valid state the number of a queued task stands nowhere else
  pub alone : (c : Config R) (A B : List R.Task) (t : R.Task) → Valid R c → c.queue ≡ A ++ (t ∷ B) → (count R (R.num t) A ≡ 0) × ((i : ℕ) → count R i A ≤ 1)
  alone c A B t v e = (go c.active (v.differ (R.num t)), λ i. go₂ i c.active (v.differ i))
    where
      k : (i : ℕ) → count R i c.queue ≡ count R i A + (is (eqb i (R.num t)) + count R i B)
      k i = ap (λ l. count R i l) e ∙ count-append R i A (t ∷ B)

      go : (a : Option R.Task) → count R (R.num t) (live_tasks a c.queue) ≤ 1 → count R (R.num t) A ≡ 0
      go none h = omega (arith, k (R.num t), self t)
      go (some u) h = omega (arith, k (R.num t), self t)

      go₂ : (i : ℕ) (a : Option R.Task) → count R i (live_tasks a c.queue) ≤ 1 → count R i A ≤ 1
      go₂ i none h = omega (arith, k i)
      go₂ i (some u) h = omega (arith, k i)

  Turn : ℕ → List R.Task → List (Moment R) → Moment R → Type 0
  Turn n A mid y = count R n (tries R mid) ≡ 0 → count R n (tried R y) ≡ 1 → (tries R mid ≡ A) × (aheads R n mid ≡ [])

  FifoP : Config R → List Call → List (Moment R) → Type 0
  FifoP c cs ms = Valid R c → (A B : List R.Task) (t : R.Task) → c.queue ≡ A ++ (t ∷ B)
      → (post mid : List (Moment R)) (y : Moment R) → ms ≡ mid ++ (y ∷ post) → Turn (R.num t) A mid y

  fifo_end : (c : Config R) (b r : ℕ) (cs : List Call) (e : Ending) (ms : List (Moment R)) → test R b r (next R c) ≡ stops e → FifoP c cs ms → FifoP c (call b r ∷ cs) (end_m R c b r cs e ∷ ms)
  unfolding FifoP Turn
  fifo_end c b r cs e ms h ih v A B t q post = at_split (Turn (R.num t) A) (end_m R c b r cs e) ms post (λ a z. absurd (omega arith)) (λ mid y g a z. ih v A B t q post mid y g a z)

  behind : Stay R.Task → List R.Task
  behind (on t) = []
  behind (back t) = t ∷ []
  behind over = []

  stay-queue : (s : R.Store) (q : List R.Task) (y : Stay R.Task) → (stay R s q y).queue ≡ q ++ behind y
  unfolding behind
  stay-queue s q (on t) = sym (append-nil q)
  stay-queue s q (back t) = refl
  stay-queue s q over = sym (append-nil q)

  joined-other : (n : ℕ) (q : List R.Task) (t : R.Task) (s' : R.Store) (new : List R.Task) (y : Stay R.Task) (x : Option R.Event) → Keeps R t y → is (eqb n (R.num t)) ≡ 0 → joined_back R n q (does s' new y x) ≡ []
  joined-other n q t s' new (on t') x k h = refl
  joined-other n q t s' new (back t') x k h = if_num-other n t' (q ++ new) (rw k h)
  joined-other n q t s' new over x k h = refl

  not-active : (s : R.Store) (t u : R.Task) (q A B : List R.Task) → Valid R (busy_c R s t q) → q ≡ A ++ (u ∷ B) → is (eqb (R.num u) (R.num t)) ≡ 0
  not-active s t u q A B v e = omega (arith, v.differ (R.num u), ap (λ l. count R (R.num u) l) e, count-append R (R.num u) A (u ∷ B), self u)

  module _ (L : Lawful R) where
    fifo_work : (s : R.Store) (t : R.Task) (q : List R.Task) (s' : R.Store) (new : List R.Task) (y : Stay R.Task) (x : Option R.Event) (b r r' : ℕ) (cs : List Call) (ms : List (Moment R))
        → R.act s q t ≡ does s' new y x
        → FifoP (stay R s' (q ++ new) y) (call b r' ∷ cs) ms → FifoP (busy_c R s t q) (call (suc b) r ∷ cs) (step_m R (busy_c R s t q) (suc b) r cs x ∷ ms)
    unfolding FifoP Turn
    fifo_work s t q s' new w x b r r' cs ms p ih v A B u e post =
        let k = joined-other (R.num u) q t s' new w x (sound R L s q t s' new w x p).keeps (not-active s t u q A B v e) in
        let f = stay-queue s' (q ++ new) w ∙ grow R A u (B ++ new) (behind w) (grow R A u B new e) in
        at_split (Turn (R.num u) A) (step_m R (busy_c R s t q) (suc b) r cs x) ms post (λ a z. absurd (omega arith))
        (λ mid y g a z. let j = ih (valid_work R L s t q s' new w x p v) A ((B ++ new) ++ behind w) u f post mid y g a z in (j.0, rw (p, k) j.1))

    fifo_took : (s : R.Store) (t : R.Task) (q : List R.Task) (x : Option R.Event) (b r r' : ℕ) (cs : List Call) (ms : List (Moment R))
        → can_go R (idle_c R s (t ∷ q)) t ≡ true
        → FifoP (busy_c R s (R.up t) q) (call b r' ∷ cs) ms → FifoP (idle_c R s (t ∷ q)) (call (suc b) r ∷ cs) (step_m R (idle_c R s (t ∷ q)) (suc b) r cs x ∷ ms)
    unfolding FifoP Turn
    fifo_took s t q x b r r' cs ms p ih v [] B u e post =
        let k : t ≡ u = head-eq_of_cons-eq e in let o : is (eqb (R.num u) (R.num t)) ≡ 1 = rw k (self u) in
        at_split (Turn (R.num u) []) (step_m R (idle_c R s (t ∷ q)) (suc b) r cs x) ms post (λ a z. (refl, refl)) (λ mid y g a z. absurd (omega arith))
    fifo_took s t q x b r r' cs ms p ih v (a₀ ∷ A) B u e post =
        let k : t ≡ a₀ = head-eq_of_cons-eq e in
        let o = (alone (idle_c R s (t ∷ q)) (a₀ ∷ A) B u v e).0 in
        let o' : is (eqb (R.num u) (R.num t)) ≡ 0 = rw k (omega arith) in
        at_split (Turn (R.num u) (a₀ ∷ A)) (step_m R (idle_c R s (t ∷ q)) (suc b) r cs x) ms post (λ a z. absurd (omega arith))
        (λ mid y g a z. let j = ih (valid_took R L s t q v) A B u (tail-eq_of_cons-eq e) post mid y g (omega arith) z in (rw (k, j.0) refl, rw p j.1))

    fifo_turned : (s : R.Store) (t : R.Task) (q : List R.Task) (x : Option R.Event) (b r r' : ℕ) (cs : List Call) (ms : List (Moment R))
        → can_go R (idle_c R s (t ∷ q)) t ≡ false
        → FifoP (idle_c R s (q ++ (t ∷ []))) (call b r' ∷ cs) ms → FifoP (idle_c R s (t ∷ q)) (call (suc b) r ∷ cs) (step_m R (idle_c R s (t ∷ q)) (suc b) r cs x ∷ ms)
    unfolding FifoP Turn
    fifo_turned s t q x b r r' cs ms p ih v [] B u e post =
        let k : t ≡ u = head-eq_of_cons-eq e in let o : is (eqb (R.num u) (R.num t)) ≡ 1 = rw k (self u) in
        at_split (Turn (R.num u) []) (step_m R (idle_c R s (t ∷ q)) (suc b) r cs x) ms post (λ a z. (refl, refl)) (λ mid y g a z. absurd (omega arith))
    fifo_turned s t q x b r r' cs ms p ih v (a₀ ∷ A) B u e post =
        let k : t ≡ a₀ = head-eq_of_cons-eq e in
        let o = (alone (idle_c R s (t ∷ q)) (a₀ ∷ A) B u v e).0 in
        let o' : is (eqb (R.num u) (R.num t)) ≡ 0 = rw k (omega arith) in
        at_split (Turn (R.num u) (a₀ ∷ A)) (step_m R (idle_c R s (t ∷ q)) (suc b) r cs x) ms post (λ a z. absurd (omega arith))
        (λ mid y g a z. let j = ih (valid_turned R L s t q v) A (B ++ (t ∷ [])) u (grow R A u B (t ∷ []) (tail-eq_of_cons-eq e)) post mid y g (omega arith) z in
        (rw (k, j.0) refl, rw (p, if_num-other (R.num u) t q o') j.1))

    -- a number that was issued and is live no more is never tried again
    DeadP : Config R → List Call → List (Moment R) → Type 0
    DeadP c cs ms = Valid R c → (n : ℕ) → n ≤ R.issued c.store → count R n (live c) ≡ 0 → (post mid : List (Moment R)) (y : Moment R) → ms ≡ mid ++ (y ∷ post) → count R n (tried R y) ≡ 0

    dead_cons : (n : ℕ) (m : Moment R) (ms post : List (Moment R)) → count R n (tried R m) ≡ 0
        → ((mid : List (Moment R)) (y : Moment R) → ms ≡ mid ++ (y ∷ post) → count R n (tried R y) ≡ 0) → (mid : List (Moment R)) (y : Moment R) → m ∷ ms ≡ mid ++ (y ∷ post) → count R n (tried R y) ≡ 0
    dead_cons n m ms post h ih = at_split (λ mid y. count R n (tried R y) ≡ 0) m ms post h ih

    dead_work : (s : R.Store) (t : R.Task) (q : List R.Task) (s' : R.Store) (new : List R.Task) (y : Stay R.Task) (x : Option R.Event) (n : ℕ)
        → R.act s q t ≡ does s' new y x → n ≤ R.issued s → count R n (t ∷ q) ≡ 0 → count R n (live (stay R s' (q ++ new) y)) ≡ 0
    dead_work s t q s' new y x n p l h = go y (sound R L s q t s' new y x p).keeps
      where
        f : count R n new ≡ 0
        f = (sound R L s q t s' new y x p).fresh n l

        go : (y : Stay R.Task) → Keeps R t y → count R n (live (stay R s' (q ++ new) y)) ≡ 0
        go (on t') k = rw k (omega (arith, f, count-append R n q new))
        go (back t') k = rw (count-append R, count-append R, k) (omega (arith, f))
        go over k = omega (arith, f, count-append R n q new)

    dead_end : (c : Config R) (b r : ℕ) (cs : List Call) (e : Ending) (ms : List (Moment R)) → DeadP c cs ms → DeadP c (call b r ∷ cs) (end_m R c b r cs e ∷ ms)
    unfolding DeadP
    dead_end c b r cs e ms ih v n l z post = dead_cons n (end_m R c b r cs e) ms post refl (ih v n l z post)

    dead_work_p : (s : R.Store) (t : R.Task) (q : List R.Task) (s' : R.Store) (new : List R.Task) (y : Stay R.Task) (x : Option R.Event) (b r r' : ℕ) (cs : List Call) (ms : List (Moment R))
        → R.act s q t ≡ does s' new y x
        → DeadP (stay R s' (q ++ new) y) (call b r' ∷ cs) ms → DeadP (busy_c R s t q) (call (suc b) r ∷ cs) (step_m R (busy_c R s t q) (suc b) r cs x ∷ ms)
    unfolding DeadP
    dead_work_p s t q s' new y x b r r' cs ms p ih v n l z post = dead_cons n (step_m R (busy_c R s t q) (suc b) r cs x) ms post refl
        (ih (valid_work R L s t q s' new y x p v) n (rw (stay-store R s' (q ++ new) y) (omega (arith, (sound R L s q t s' new y x p).grows))) (dead_work s t q s' new y x n p l z) post)

    dead_took : (s : R.Store) (t : R.Task) (q : List R.Task) (x : Option R.Event) (b r r' : ℕ) (cs : List Call) (ms : List (Moment R))
        → DeadP (busy_c R s (R.up t) q) (call b r' ∷ cs) ms → DeadP (idle_c R s (t ∷ q)) (call (suc b) r ∷ cs) (step_m R (idle_c R s (t ∷ q)) (suc b) r cs x ∷ ms)
    unfolding DeadP
    dead_took s t q x b r r' cs ms ih v n l z post = dead_cons n (step_m R (idle_c R s (t ∷ q)) (suc b) r cs x) ms post (omega arith) (ih (valid_took R L s t q v) n l (rw (L.up-num t) z) post)

    dead_turned : (s : R.Store) (t : R.Task) (q : List R.Task) (x : Option R.Event) (b r r' : ℕ) (cs : List Call) (ms : List (Moment R))
        → DeadP (idle_c R s (q ++ (t ∷ []))) (call b r' ∷ cs) ms → DeadP (idle_c R s (t ∷ q)) (call (suc b) r ∷ cs) (step_m R (idle_c R s (t ∷ q)) (suc b) r cs x ∷ ms)
    unfolding DeadP
    dead_turned s t q x b r r' cs ms ih v n l z post = dead_cons n (step_m R (idle_c R s (t ∷ q)) (suc b) r cs x) ms post (omega arith) (ih (valid_turned R L s t q v) n l (rw (count-append R) (omega arith)) post)

    -- after it was taken up: it is put back once, and then those ahead are tried
    Once : ℕ → List (Moment R) → Moment R → Type 0
    Once n mid y = count R n (tries R mid) ≡ 0 → count R n (tried R y) ≡ 1 → (aheads R n mid ≡ tries R mid ∷ []) × ((i : ℕ) → count R i (tries R mid) ≤ 1)

    ActiveP : Config R → List Call → List (Moment R) → Type 0
    ActiveP c cs ms = Valid R c → (t : R.Task) → c.active ≡ some t → (post mid : List (Moment R)) (y : Moment R) → ms ≡ mid ++ (y ∷ post) → Once (R.num t) mid y

    All3 : Config R → List Call → List (Moment R) → Type 0
    All3 c cs ms = FifoP c cs ms × DeadP c cs ms × ActiveP c cs ms

    le_issued : (s : R.Store) (t : R.Task) (q : List R.Task) → Valid R (busy_c R s t q) → R.num t ≤ R.issued s
    le_issued s t q v = go (dec_le (R.num t) (R.issued s))
      where
        go : Dec (R.num t ≤ R.issued s) → R.num t ≤ R.issued s
        go (yes p) = p
        go (no p) = absurd (omega (arith, v.below (R.num t) (omega arith), self t))

    active_work : (s : R.Store) (t : R.Task) (q : List R.Task) (s' : R.Store) (new : List R.Task) (y : Stay R.Task) (x : Option R.Event) (b r r' : ℕ) (cs : List Call) (ms : List (Moment R))
        → R.act s q t ≡ does s' new y x
        → All3 (stay R s' (q ++ new) y) (call b r' ∷ cs) ms → ActiveP (busy_c R s t q) (call (suc b) r ∷ cs) (step_m R (busy_c R s t q) (suc b) r cs x ∷ ms)
    unfolding All3 FifoP Turn DeadP ActiveP Once
    active_work s t q s' new w x b r r' cs ms p ih v t₁ e post = subst (λ t₁. (mid : List (Moment R)) (y : Moment R) → step_m R (busy_c R s t q) (suc b) r cs x ∷ ms ≡ mid ++ (y ∷ post) → Once (R.num t₁) mid y) k
        (at_split (Once (R.num t)) (step_m R (busy_c R s t q) (suc b) r cs x) ms post (λ a z. absurd (omega arith)) (λ mid y g a z. rw p (go w p ih mid y g a z)))
      where
        k : t ≡ t₁
        k = cc

        go : (w : Stay R.Task) → R.act s q t ≡ does s' new w x → All3 (stay R s' (q ++ new) w) (call b r' ∷ cs) ms → (mid : List (Moment R)) (y : Moment R) → ms ≡ mid ++ (y ∷ post)
            → count R (R.num t) (tries R mid) ≡ 0 → count R (R.num t) (tried R y) ≡ 1
            → (joined_back R (R.num t) q (does s' new w x) ++ aheads R (R.num t) mid ≡ tries R mid ∷ []) × ((i : ℕ) → count R i (tries R mid) ≤ 1)
        go (on t') p ih mid y g a z = (subst (λ n. Once n mid y) (sound R L s q t s' new (on t') x p).keeps (ih.2 (valid_work R L s t q s' new (on t') x p v) t' refl post mid y g)) a z
        go (back t') p ih mid y g a z =
            let k' = (sound R L s q t s' new (back t') x p).keeps in
            let v' = valid_work R L s t q s' new (back t') x p v in
            let j = (subst (λ n. Turn n (q ++ new) mid y) k' (ih.0 v' (q ++ new) [] t' refl post mid y g)) a z in
            (rw (if_num_self (R.num t) t' (q ++ new) (sym k'), j.1, j.0) refl, λ i. rw j.0 ((alone (stay R s' (q ++ new) (back t')) (q ++ new) [] t' v' refl).1 i))
        go over p ih mid y g a z =
            let l = le_issued s t q v in
            absurd (omega (
              arith,
              ih.1 (valid_work R L s t q s' new over x p v) (R.num t) (omega (arith, (sound R L s q t s' new over x p).grows))
                  (omega (arith, count-append R (R.num t) q new, v.differ (R.num t), self t, (sound R L s q t s' new over x p).fresh (R.num t) l)) post mid y g,
            ))

    active_end : (c : Config R) (b r : ℕ) (cs : List Call) (e : Ending) (ms : List (Moment R)) → ActiveP c cs ms → ActiveP c (call b r ∷ cs) (end_m R c b r cs e ∷ ms)
    unfolding ActiveP Once
    active_end c b r cs e ms ih v t k post = at_split (Once (R.num t)) (end_m R c b r cs e) ms post (λ a z. absurd (omega arith)) (λ mid y g a z. ih v t k post mid y g a z)

    idle-not : (s : R.Store) (q : List R.Task) (cs : List Call) (ms : List (Moment R)) → ActiveP (idle_c R s q) cs ms
    unfolding ActiveP
    idle-not s q cs ms v t k = absurd (let z : ◌≡◌ {A = ℕ} 0 1 = cc in omega arith)

    -- a try, then the next try of the same task
    StartP : Config R → List Call → List (Moment R) → Type 0
    StartP c cs ms = Valid R c → (n : ℕ) (x : Moment R) (post mid : List (Moment R)) (y : Moment R) → ms ≡ x ∷ (mid ++ (y ∷ post)) → count R n (tried R x) ≡ 1
        → count R n (tries R mid) ≡ 0 → count R n (tried R y) ≡ 1 → (aheads R n (x ∷ mid) ≡ tries R mid ∷ []) × ((i : ℕ) → count R i (tries R mid) ≤ 1)

    All4 : Config R → List Call → List (Moment R) → Type 0
    All4 c cs ms = FifoP c cs ms × DeadP c cs ms × ActiveP c cs ms × StartP c cs ms

    start_with : (m : Moment R) (ms : List (Moment R)) (c : Config R) (cs : List Call)
        → (Valid R c → (n : ℕ) (post mid : List (Moment R)) (y : Moment R) → ms ≡ mid ++ (y ∷ post) → count R n (tried R m) ≡ 1
        → count R n (tries R mid) ≡ 0 → count R n (tried R y) ≡ 1 → (aheads R n (m ∷ mid) ≡ tries R mid ∷ []) × ((i : ℕ) → count R i (tries R mid) ≤ 1))
        → StartP c cs (m ∷ ms)
    unfolding StartP
    start_with m ms c cs f v n x post mid y e = subst (λ x. count R n (tried R x) ≡ 1
        → count R n (tries R mid) ≡ 0 → count R n (tried R y) ≡ 1 → (aheads R n (x ∷ mid) ≡ tries R mid ∷ []) × ((i : ℕ) → count R i (tries R mid) ≤ 1)) (head-eq_of_cons-eq e) (f v n post mid y (tail-eq_of_cons-eq e))

    start_took : (s : R.Store) (t : R.Task) (q : List R.Task) (x : Option R.Event) (b r r' : ℕ) (cs : List Call) (ms : List (Moment R))
        → can_go R (idle_c R s (t ∷ q)) t ≡ true
        → ActiveP (busy_c R s (R.up t) q) (call b r' ∷ cs) ms → StartP (idle_c R s (t ∷ q)) (call (suc b) r ∷ cs) (step_m R (idle_c R s (t ∷ q)) (suc b) r cs x ∷ ms)
    unfolding ActiveP Once
    start_took s t q x b r r' cs ms p ih = start_with _ ms _ _ (λ v n post mid y e h a z.
        let k : n ≡ R.num t = same-num n t (omega arith) in
        rw p ((subst (λ i. Once i mid y) (L.up-num t ∙ sym k) (ih (valid_took R L s t q v) (R.up t) refl post mid y e)) a z))

    start_turned : (s : R.Store) (t : R.Task) (q : List R.Task) (x : Option R.Event) (b r r' : ℕ) (cs : List Call) (ms : List (Moment R))
        → can_go R (idle_c R s (t ∷ q)) t ≡ false
        → FifoP (idle_c R s (q ++ (t ∷ []))) (call b r' ∷ cs) ms → StartP (idle_c R s (t ∷ q)) (call (suc b) r ∷ cs) (step_m R (idle_c R s (t ∷ q)) (suc b) r cs x ∷ ms)
    unfolding FifoP Turn
    start_turned s t q x b r r' cs ms p ih = start_with _ ms _ _ (λ v n post mid y e h a z.
        let k : n ≡ R.num t = same-num n t (omega arith) in
        let v' = valid_turned R L s t q v in
        let j = (subst (λ i. Turn i q mid y) (sym k) (ih v' q [] t refl post mid y e)) a z in
        (rw (p, if_num_self n t q k, j.1, j.0) refl, λ i. rw j.0 ((alone (idle_c R s (q ++ (t ∷ []))) q [] t v' refl).1 i)))

    start_none : (m : Moment R) (ms : List (Moment R)) (c : Config R) (cs : List Call) → tried R m ≡ [] → StartP c cs (m ∷ ms)
    start_none m ms c cs h = start_with m ms c cs (λ v n post mid y e o a z. absurd (omega (arith, ap (λ l. count R n l) h)))

    all4_none : (c : Config R) → All4 c [] []
    unfolding All4 FifoP DeadP ActiveP StartP
    all4_none c = (λ v A B t q post mid y e. absurd (not_nil R mid y post (sym e)), λ v n l h post mid y e. absurd (not_nil R mid y post (sym e)), λ v t k post mid y e. absurd (not_nil R mid y post (sym e)), λ v n x post mid y e. absurd (not_nil R [] x (mid ++ (y ∷ post)) (sym e)))

    all4_refused : (c : Config R) (cs : List Call) (ms : List (Moment R)) → All4 c cs ms → All4 c (refused ∷ cs) ms
    unfolding All4 FifoP DeadP ActiveP StartP
    all4_refused c cs ms ih = ih

    all4 : (c : Config R) (cs : List Call) → All4 c cs (trace R c cs)
    unfolding All4 All3
    all4 = trace_cases R All4
        all4_none
        all4_refused
        (λ c b r cs e ms h ih. (fifo_end c b r cs e ms h ih.0, dead_end c b r cs e ms ih.1, active_end c b r cs e ms ih.2, start_none (end_m R c b r cs e) ms c (call b r ∷ cs) refl))
        (λ s t q s' new y x b r r' cs ms p ih. (fifo_work s t q s' new y x b r r' cs ms p ih.0, dead_work_p s t q s' new y x b r r' cs ms p ih.1, active_work s t q s' new y x b r r' cs ms p (ih.0, ih.1, ih.2), start_none (step_m R (busy_c R s t q) (suc b) r cs x) ms (busy_c R s t q) (call (suc b) r ∷ cs) refl))
        (λ s t q x b r r' cs ms p ih. (fifo_took s t q x b r r' cs ms p ih.0, dead_took s t q x b r r' cs ms ih.1, idle-not s (t ∷ q) (call (suc b) r ∷ cs) (step_m R (idle_c R s (t ∷ q)) (suc b) r cs x ∷ ms), start_took s t q x b r r' cs ms p ih.2))
        (λ s t q x b r r' cs ms p ih. (fifo_turned s t q x b r r' cs ms p ih.0, dead_turned s t q x b r r' cs ms ih.1, idle-not s (t ∷ q) (call (suc b) r ∷ cs) (step_m R (idle_c R s (t ∷ q)) (suc b) r cs x ∷ ms), start_turned s t q x b r r' cs ms p ih.0))

    -- From any moment on, the tasks ahead of a queued task are tried before it, in that order.
    pub order : (c : Config R) (cs : List Call) → Valid R c → (pre rest mid post : List (Moment R)) (m y : Moment R) (A B : List R.Task) (t : R.Task)
        → trace R c cs ≡ pre ++ (m ∷ rest) → m.at.queue ≡ A ++ (t ∷ B) → m ∷ rest ≡ mid ++ (y ∷ post) → count R (R.num t) (tries R mid) ≡ 0 → count R (R.num t) (tried R y) ≡ 1 → tries R mid ≡ A
    unfolding All4 FifoP Turn
    order c cs v pre rest mid post m y A B t e q g a z =
        ((all4 m.at m.calls).0 (valid_at R L c cs v pre rest m e) A B t q post mid y (sym (suffix R c cs pre rest m e) ∙ g) a z).0

    -- Round robin. Between a try x of the task n and the next try y of it, n is put back once, and the tries are those of the tasks then ahead of it, in that order, each once.
    pub turns : (c : Config R) (cs : List Call) → Valid R c → (n : ℕ) (pre mid post : List (Moment R)) (x y : Moment R)
        → trace R c cs ≡ pre ++ (x ∷ (mid ++ (y ∷ post))) → count R n (tried R x) ≡ 1 → count R n (tries R mid) ≡ 0 → count R n (tried R y) ≡ 1
        → (aheads R n (x ∷ mid) ≡ tries R mid ∷ []) × ((i : ℕ) → count R i (tries R mid) ≤ 1)
    unfolding All4 StartP
    turns c cs v n pre mid post x y e = (all4 x.at x.calls).3 (valid_at R L c cs v pre (mid ++ (y ∷ post)) x e) n x post mid y (sym (suffix R c cs pre (mid ++ (y ∷ post)) x e))
