-- The paper's rules are exactly the steps of the machine over statements.
-- Assumes nothing.
use Prim.Native.Nat.{ℕ, ◌+◌, ◌<◌}
use mathlib.Core.Path.{◌≡◌, refl, sym, ap, ap₂, ◌∙◌, subst}
use mathlib.Core.Bool.{Bool, true, false, not, ◌||◌, ◌&&◌, cond, true≢false, or-true}
use mathlib.Core.Option.{Option, none, some}
use mathlib.Core.List.{[], ◌∷◌, append-nil}
use native.Mathlib.Omega.{arith}
use lib.Dec.{eqb, leb}
use lib.IntN.{ℤ, pos, negsuc}
use lib.ListN.{length, get_or}
use borrow.Author.Tests.{eq-eqb, le-leb, ltb-true, ltb-false, leb-true, eqb-true, eqb-false, ne_eqb}
use Rattle.rules.specs.Values.{truth, is_true}
use Rattle.rules.specs.Recipe.{Expr, Stmt, skip, assign, if, while, spawn, suspend, await, guard, Body, fin, ◌▸◌, Recipe, Env, read, write, value}
use Rattle.rules.specs.Rest.{◌then◌, look}
use Rattle.rules.specs.State.{Store}
use Rattle.rules.specs.Log.{Event, taken, gave, waits, ended}
use Rattle.rules.specs.Scheduler.{Readiness, ready, waits_for, at_guard, is_ready, no_number, Rules, Stay, on, back, over, Halt, novalue, Act, does, is, count, is_live, readiness, can_go, any_go, Next, finish, jam, bar, goes, try_of, jam_or, stay, next_act, next}
use Rattle.rules.specs.Steps.{Limits, is_done, valve_of, wait_at, past_at, needing, spawn_at}
use Rattle.rules.proofs.Verdicts.{not_true}
use Rattle.paper.specs.Paper.{PaperTask, Queue, task, PaperState, running, idle, env, memory, WhileStep, skip_step, assign_step, if_true, if_false, while_true, while_false, Any, here, there, InDom, Done, zero_done, issued_done, NotWaiting, Schedulable, simple, wait_over, guard_true, Rule, local, spawn_start, return, yield_suspend, yield_await, yield_guard, schedule_simple, schedule_await, schedule_guard, rotate_await, rotate_guard, Finished, finished, Stuck, stuck, needs, Lacking, lacking, Barred, limited, no_value}
use Rattle.paper.specs.Follows.{keeping_none, statements}

-- ---- an await in front, a guard, or another statement

pub data Front : Type 0 where
  an_await a-guard another : Front

abbrev front_s : Stmt → Front
front_s skip = another
front_s (assign v e) = another
front_s (if e b) = another
front_s (while e b) = another
front_s (spawn v p e) = another
front_s suspend = another
front_s (await v) = an_await
front_s (guard e) = a-guard

abbrev pub front_b : Body → Front
front_b fin = another
front_b (s ▸ k) = front_s s

abbrev may_wait : Front → Bool
may_wait an_await = true
may_wait a-guard = true
may_wait another = false

not-waiting : {k : Body} → front_b k ≡ another → NotWaiting k
not-waiting h =
    (λ x s' e. true≢false (ap may_wait (sym (ap front_b e) ∙ h)), λ g s' e. true≢false (ap may_wait (sym (ap front_b e) ∙ h)))

pub data Kind : Body → Type 0 where
  awaiting : {x : ℕ} {s : Body} → Kind (await x ▸ s)
  guarded : {g : Expr} {s : Body} → Kind (guard g ▸ s)
  going : {s : Body}
      → front_b s ≡ another
      → ((σ : Store) (l : ℕ → Bool) (t : PaperTask) → wait_at (look s) σ l t ≡ ready)
      → ((t : PaperTask) → past_at (look s) t ≡ t)
      → Kind s

pub kind : (s : Body) → Kind s
unfolding look
kind fin = going refl (λ σ l t. refl) (λ t. refl)
kind (skip ▸ s) = going refl (λ σ l t. refl) (λ t. refl)
kind (assign v e ▸ s) = going refl (λ σ l t. refl) (λ t. refl)
kind (if e b ▸ s) = going refl (λ σ l t. refl) (λ t. refl)
kind (while e b ▸ s) = going refl (λ σ l t. refl) (λ t. refl)
kind (spawn v p e ▸ s) = going refl (λ σ l t. refl) (λ t. refl)
kind (suspend ▸ s) = going refl (λ σ l t. refl) (λ t. refl)
kind (await x ▸ s) = awaiting
kind (guard e ▸ s) = guarded

-- at another statement a task is ready, and is taken up where it stands
simple-ready : {s : Body} → Kind s → NotWaiting s → (σ : Store) (l : ℕ → Bool) (t : PaperTask)
    → wait_at (look s) σ l t ≡ ready
simple-ready (awaiting {x} {s}) h σ l t = absurd (h.0 x s refl)
simple-ready (guarded {g} {s}) h σ l t = absurd (h.1 g s refl)
simple-ready (going h g p) _ σ l t = g σ l t

simple_past : {s : Body} → Kind s → NotWaiting s → (t : PaperTask) → past_at (look s) t ≡ t
simple_past (awaiting {x} {s}) h t = absurd (h.0 x s refl)
simple_past (guarded {g} {s}) h t = absurd (h.1 g s refl)
simple_past (going h g p) _ t = p t

pub simple-front : {s : Body} → Kind s → NotWaiting s → front_b s ≡ another
simple-front (awaiting {x} {s}) h = absurd (h.0 x s refl)
simple-front (guarded {g} {s}) h = absurd (h.1 g s refl)
simple-front (going h g p) _ = h

-- the next statement has no expression to be worked out
no_need : {e : Expr} → ¬ (none ≡ some e)
no_need h = let z : ◌≡◌ {A = ℕ} 0 1 = cc in omega arith

-- a guard that is true has a value
true_value : (o : Option ℤ) → is_true o ≡ true → (v : ℤ) × (o ≡ some v) × (truth v ≡ true)
true_value none h = absurd (true≢false (sym h))
true_value (some v) h = (v, refl, h)

module _ (full : Limits) (r : Recipe) where
  abbrev S : Rules
  S = statements full r

  -- ---- done, by the rules and by the test

  pub dom_counted : {n : ℕ} {q : Queue} → InDom n q → 0 < count S n q
  dom_counted {n} (here {t = t} h) = rw (eq-eqb n t.number (sym h)) (omega arith)
  dom_counted (there h) = omega (arith, dom_counted h)

  counted_dom : (n : ℕ) (q : Queue) → 0 < count S n q → InDom n q
  counted_dom n [] h = absurd (omega arith)
  counted_dom n (t ∷ q) h = go (eqb n t.number) refl h (counted_dom n q)
    where
      go : (b : Bool)
          → eqb n t.number ≡ b
          → 0 < is b + count S n q
          → (0 < count S n q → InDom n q)
          → InDom n (t ∷ q)
      go true e h ih = here (sym (eqb-true n t.number e))
      go false e h ih = there (ih (omega arith))

  done_holds : (σ : Store) (q : Queue) (z : ℤ) → Done q σ z → is_done σ.issued (is_live S q) z ≡ true
  unfolding is_done
  done_holds σ q z zero_done = refl
  done_holds σ q z (issued_done {n} l h g) = rw (ne_eqb n 0 (omega arith), le-leb n σ.issued h) (go (is_live S q n) refl)
    where
      go : (b : Bool) → is_live S q n ≡ b → not b ≡ true
      go true e = absurd (g (counted_dom n q (ltb-true _ _ e)))
      go false e = refl

  done_yes : (σ : Store) (q : Queue) (z : ℤ) → is_done σ.issued (is_live S q) z ≡ true → Done q σ z
  unfolding is_done
  done_yes σ q (negsuc n) h = absurd (true≢false (sym h))
  done_yes σ q (pos n) h = go (eqb n 0) (leb n σ.issued) (is_live S q n) refl refl refl h
    where
      go : (a b c : Bool)
          → eqb n 0 ≡ a
          → leb n σ.issued ≡ b
          → is_live S q n ≡ c
          → (a || (b && not c)) ≡ true
          → Done q σ (pos n)
      go true b c a b' c' h = subst (λ (n : ℕ). Done q σ (pos n)) (sym (eqb-true n 0 a)) zero_done
      go false true false a b c h =
          issued_done (omega (arith, eqb-false n 0 a)) (leb-true _ _ b)
          (λ m. omega (arith, dom_counted m, ltb-false 0 (count S n q) c))
      go false true true a b c h = absurd (true≢false (sym h))
      go false false c a b c' h = absurd (true≢false (sym h))

  -- ---- readiness, by the rules and by the test

  -- what the readiness of a queued task says, w being the whole queue
  data Reads (w : Queue) (σ : Store) : PaperTask → Readiness → Type 0 where
    can_go_at : {t : PaperTask} → Schedulable w σ t → Reads w σ t ready
    has_to_wait : {f x : ℕ} {s : Body} {z : ℤ}
        → ¬ Done w σ (read (env σ z) x)
        → Reads w σ (task f (await x ▸ s) z) (waits_for (read (env σ z) x))
    guard-untrue : {f : ℕ} {g : Expr} {s : Body} {z : ℤ}
        → is_true (value (env σ z) g) ≡ false
        → Reads w σ (task f (guard g ▸ s) z) at_guard

  reads-is : {w : Queue} {σ : Store} {t : PaperTask} {v : Readiness} → Reads w σ t v → readiness S (idle w σ) t ≡ v
  unfolding look
  reads-is {w} {σ} (can_go_at (simple {f} {s} {z} h)) = simple-ready (kind s) h σ (is_live S w) (task f s z)
  reads-is {w} {σ} (can_go_at (wait_over {f} {x} {s} {z} d)) = rw (done_holds σ w (read (env σ z) x) d)
  reads-is (can_go_at (guard_true v h)) = rw (v, h)
  reads-is {w} {σ} (has_to_wait {f} {x} {s} {z} n) =
      rw (not_true (is_done σ.issued (is_live S w) (read (env σ z) x)) (λ h. n (done_yes σ w (read (env σ z) x) h)))
  reads-is (guard-untrue h) = rw h

  reads_at : {s : Body} → Kind s → (w : Queue) (σ : Store) (f : ℕ) (z : ℤ)
      → Reads w σ (task f s z) (readiness S (idle w σ) (task f s z))
  unfolding look
  reads_at {s} (going h g p) w σ f z = rw (g σ (is_live S w) (task f s z)) (can_go_at (simple (not-waiting h)))
  reads_at (awaiting {x} {s}) w σ f z = go (is_done σ.issued (is_live S w) v) refl
    where
      v : ℤ
      v = read (env σ z) x

      go : (b : Bool)
          → is_done σ.issued (is_live S w) v ≡ b
          → Reads w σ (task f (await x ▸ s) z) (cond b ready (waits_for v))
      go true h = can_go_at (wait_over (done_yes σ w v h))
      go false h = has_to_wait (λ d. true≢false (sym (done_holds σ w v d) ∙ h))
  reads_at (guarded {g} {s}) w σ f z = go (is_true (value (env σ z) g)) refl
    where
      go : (b : Bool) → is_true (value (env σ z) g) ≡ b → Reads w σ (task f (guard g ▸ s) z) (cond b ready at_guard)
      go true h = let (v, e, t) = true_value (value (env σ z) g) h in can_go_at (guard_true e t)
      go false h = guard-untrue h

  reads : (w : Queue) (σ : Store) (t : PaperTask) → Reads w σ t (readiness S (idle w σ) t)
  reads w σ t = reads_at (kind t.place) w σ t.number t.parameter

  any-goes : (w : Queue) (σ : Store) {q : Queue} → Any (Schedulable w σ) q → any_go S (idle w σ) q ≡ true
  any-goes w σ (here h) = rw (reads-is (can_go_at h))
  any-goes w σ (there {t = t} h) = rw (any-goes w σ h) (or-true (can_go S (idle w σ) t))

  -- a queued task can go on, or one behind it can
  front_or_behind : {w : Queue} {σ : Store} {t : PaperTask} {v : Readiness} (q : Queue)
      → Reads w σ t v
      → (is_ready v || any_go S (idle w σ) q) ≡ true
      → (any_go S (idle w σ) q ≡ true → Any (Schedulable w σ) q)
      → Any (Schedulable w σ) (t ∷ q)
  front_or_behind q (can_go_at u) h ih = here u
  front_or_behind q (has_to_wait n) h ih = there (ih h)
  front_or_behind q (guard-untrue g) h ih = there (ih h)

  goes-any : (w : Queue) (σ : Store) (q : Queue) → any_go S (idle w σ) q ≡ true → Any (Schedulable w σ) q
  goes-any w σ [] h = absurd (true≢false (sym h))
  goes-any w σ (t ∷ q) h = front_or_behind q (reads w σ t) h (goes-any w σ q)

  -- ---- a rule that applies is what comes next

  -- a step that spawns nothing
  quiet : (σ : Store) (q : Queue) (y : Stay PaperTask) (x : Option Event)
      → next_act S q (does σ [] y x) ≡ goes x (stay S σ q y)
  quiet σ q y x = ap (λ (z : Queue). goes x (stay S σ z y)) (append-nil q)

  -- what is done with a value that is there
  needed : {o : Option ℤ} {v : ℤ} (k : ℤ → Act Store PaperTask Event) → o ≡ some v → needing o k ≡ k v
  needed k h = rw h

  while-next : {f : ℕ} {s s' : Body} {σ σ' : Env} {event : Option Event} (n : ℕ) (q : Queue)
      → WhileStep f s σ event s' σ'
      → S.act (memory n σ) q (task f s σ.parameter) ≡ does (memory n σ') [] (on (task f s' σ'.parameter)) event
  unfolding look
  while-next n q skip_step = refl
  while-next n q (assign_step v) = needed _ v
  while-next n q (if_true v h) = rw (v, h)
  while-next n q (if_false v h) = rw (v, h)
  while-next n q (while_true v h) = rw (v, h)
  while-next n q (while_false v h) = rw (v, h)

  -- the front is tried, if some task can go on
  tries : {t : PaperTask} {q : Queue} {σ : Store} {v : Readiness}
      → Any (Schedulable (t ∷ q) σ) (t ∷ q)
      → Reads (t ∷ q) σ t v
      → next S (idle (t ∷ q) σ) ≡ try_of S v (idle (t ∷ q) σ) t q
  tries {t} {q} {σ} any u =
      ap₂ (λ (b : Bool) (v : Readiness). jam_or S b (try_of S v (idle (t ∷ q) σ) t q)) (any-goes (t ∷ q) σ any) (reads-is u)

  pub rule-next : {c d : PaperState} {event : Option Event} → Rule full r c event d → next S c ≡ goes event d
  unfolding look
  rule-next (local {n = n} {σ' = σ'} {event = event} {q = q} h) =
      ap (next_act S q) (while-next n q h) ∙ quiet (memory n σ') q (on _) event
  rule-next (spawn_start {q = q} d v h) = ap (next_act S q) (needed _ v) ∙ rw h
  rule-next (return {f} {z} {q} {σ}) = quiet σ q over (some (ended f))
  rule-next (yield_suspend {f} {s} {z} {q} {σ}) = quiet σ q (back (task f s z)) (some (gave f))
  rule-next (yield_await {f} {x} {s} {z} {q} {σ}) =
      quiet σ q (back (task f (await x ▸ s) z)) (some (waits f (read (env σ z) x)))
  rule-next (yield_guard {f} {g} {s} {z} {q} {σ}) = quiet σ q (back (task f (guard g ▸ s) z)) (some (waits f no_number))
  rule-next (schedule_simple {f} {s} {z} {q} {σ} h) =
      tries (here (simple h)) (can_go_at (simple h))
      ∙ ap (λ (t : PaperTask). goes (some (taken f)) (running t q σ)) (simple_past (kind s) h (task f s z))
  rule-next (schedule_await d) = tries (here (wait_over d)) (can_go_at (wait_over d))
  rule-next (schedule_guard v h) = tries (here (guard_true v h)) (can_go_at (guard_true v h))
  rule-next (rotate_await n any) = tries any (has_to_wait n)
  rule-next (rotate_guard h any) = tries any (guard-untrue h)

  pub finished-next : {c : PaperState} → Finished c → next S c ≡ finish
  finished-next finished = refl

  pub stuck-next : {c : PaperState} → Stuck c → next S c ≡ jam
  stuck-next (stuck {t} {q} {σ} h) =
      let c = idle (t ∷ q) σ in
      ap (λ (b : Bool). jam_or S b (try_of S (readiness S c t) c t q))
      (not_true (any_go S c (t ∷ q)) (λ e. h (goes-any (t ∷ q) σ (t ∷ q) e)))

  lacking-next : {c : PaperState} → Lacking c → next S c ≡ bar novalue
  unfolding look
  lacking-next (lacking {i = skip} n v) = absurd (no_need n)
  lacking-next (lacking {i = assign x a} {e} n v) = let h : a ≡ e = cc in rw (h, v)
  lacking-next (lacking {i = if a b} {e} n v) = let h : a ≡ e = cc in rw (h, v)
  lacking-next (lacking {i = while a b} {e} n v) = let h : a ≡ e = cc in rw (h, v)
  lacking-next (lacking {i = spawn x m a} {e} n v) = let h : a ≡ e = cc in rw (h, v)
  lacking-next (lacking {i = suspend} n v) = absurd (no_need n)
  lacking-next (lacking {i = await x} n v) = absurd (no_need n)
  lacking-next (lacking {i = guard g} n v) = absurd (no_need n)

  pub barred_next : {c : PaperState} {k : Halt} → Barred full k c → next S c ≡ bar k
  unfolding look
  barred_next (limited {q = q} v h) = ap (next_act S q) (needed _ v) ∙ rw h
  barred_next (no_value l) = lacking-next l

  -- ---- what comes next is a rule that applies, or an end

  abbrev pub Says : PaperState → Next S → Type 0
  Says c finish = Finished c
  Says c jam = Stuck c
  Says c (bar k) = Barred full k c
  Says c (goes x d) = Rule full r c x d

  says_quiet : {c : PaperState} (σ : Store) (q : Queue) (y : Stay PaperTask) (x : Option Event)
      → Rule full r c x (stay S σ q y)
      → Says c (next_act S q (does σ [] y x))
  says_quiet {c} σ q y x h = subst (Says c) (sym (quiet σ q y x)) h

  -- the test of an if or a while
  says-test : {c : PaperState} (σ : Store) (f : ℕ) (s s' : Body) (z : ℤ) (q : Queue) (b : Bool)
      → (b ≡ true → Rule full r c none (running (task f s z) q σ))
      → (b ≡ false → Rule full r c none (running (task f s' z) q σ))
      → Says c (next_act S q (does σ [] (on (task f (cond b s s') z)) none))
  says-test σ f s s' z q true g h = says_quiet σ q (on (task f s z)) none (g refl)
  says-test σ f s s' z q false g h = says_quiet σ q (on (task f s' z)) none (h refl)

  says-spawn : (σ : Store) (f x m : ℕ) (e : Expr) (s : Body) (z : ℤ) (q : Queue) (v : ℤ) (o : Option Halt)
      → m < length r
      → value (env σ z) e ≡ some v
      → full (length q) σ.issued ≡ o
      → Says
      (running (task f (spawn x m e ▸ s) z) q σ)
      (next_act S q (spawn_at keeping_none o σ (task f (spawn x m e ▸ s) z) x (get_or r m fin) v s))
  says-spawn σ f x m e s z q v (some k) d w h = limited w h
  says-spawn σ f x m e s z q v none d w h = spawn_start d w h

  -- what is done with a value that the step needs
  says-needing : (σ : Store) (f : ℕ) (i : Stmt) (e : Expr) (s : Body) (z : ℤ) (q : Queue)
      (k : ℤ → Act Store PaperTask Event)
      → needs i ≡ some e
      → ((v : ℤ) → value (env σ z) e ≡ some v → Says (running (task f (i ▸ s) z) q σ) (next_act S q (k v)))
      → Says (running (task f (i ▸ s) z) q σ) (next_act S q (needing (value (env σ z) e) k))
  says-needing σ f i e s z q k n g = go (value (env σ z) e) refl
    where
      go : (o : Option ℤ) → value (env σ z) e ≡ o → Says (running (task f (i ▸ s) z) q σ) (next_act S q (needing o k))
      go none h = no_value (lacking n h)
      go (some v) h = g v h

  -- a spawn that comes first names a procedure of the recipe
  abbrev pub Declared : Body → Type 0
  Declared s = (x m : ℕ) (e : Expr) (s' : Body) → s ≡ spawn x m e ▸ s' → m < length r

  says-running : (σ : Store) (f : ℕ) (s : Body) (z : ℤ) (q : Queue)
      → Declared s
      → Says (running (task f s z) q σ) (next S (running (task f s z) q σ))
  unfolding look
  says-running σ f fin z q d = says_quiet σ q over (some (ended f)) return
  says-running σ f (skip ▸ s) z q d =
      says_quiet σ q (on (task f s z)) none (local {σ = env σ z} {σ' = env σ z} skip_step)
  says-running σ f (assign x e ▸ s) z q d =
      says-needing σ f (assign x e) e s z q _ refl
      (λ v h. let σ' = write (env σ z) x v in
      says_quiet (memory σ.issued σ') q (on (task f s σ'.parameter)) (valve_of f x v)
      (local {σ = env σ z} {σ' = σ'} (assign_step h)))
  says-running σ f (if e b ▸ s) z q d =
      says-needing σ f (if e b) e s z q _ refl
      (λ v h. says-test σ f (b then s) s z q (truth v)
      (λ t. local {σ = env σ z} {σ' = env σ z} (if_true h t))
      (λ t. local {σ = env σ z} {σ' = env σ z} (if_false h t)))
  says-running σ f (while e b ▸ s) z q d =
      says-needing σ f (while e b) e s z q _ refl
      (λ v h. says-test σ f (b then (while e b ▸ s)) s z q (truth v)
      (λ t. local {σ = env σ z} {σ' = env σ z} (while_true h t))
      (λ t. local {σ = env σ z} {σ' = env σ z} (while_false h t)))
  says-running σ f (spawn x m e ▸ s) z q d =
      says-needing σ f (spawn x m e) e s z q _ refl
      (λ v h. says-spawn σ f x m e s z q v (full (length q) σ.issued) (d x m e s refl) h refl)
  says-running σ f (suspend ▸ s) z q d = says_quiet σ q (back (task f s z)) (some (gave f)) yield_suspend
  says-running σ f (await x ▸ s) z q d =
      says_quiet σ q (back (task f (await x ▸ s) z)) (some (waits f (read (env σ z) x))) yield_await
  says-running σ f (guard g ▸ s) z q d =
      says_quiet σ q (back (task f (guard g ▸ s) z)) (some (waits f no_number)) yield_guard

  -- the front is taken up, or turned if another can go on
  says_try : {t : PaperTask} {σ : Store} {v : Readiness} (q : Queue)
      → Any (Schedulable (t ∷ q) σ) (t ∷ q)
      → Reads (t ∷ q) σ t v
      → Says (idle (t ∷ q) σ) (try_of S v (idle (t ∷ q) σ) t q)
  unfolding look
  says_try q any (can_go_at (simple {f} {s} {z} h)) = rw (simple_past (kind s) h (task f s z)) (schedule_simple h)
  says_try q any (can_go_at (wait_over d)) = schedule_await d
  says_try q any (can_go_at (guard_true v h)) = schedule_guard v h
  says_try q any (has_to_wait n) = rotate_await n any
  says_try q any (guard-untrue h) = rotate_guard h any

  says-idle : (q : Queue) (σ : Store) → Says (idle q σ) (next S (idle q σ))
  says-idle [] σ = finished
  says-idle (t ∷ q) σ = go (any_go S (idle (t ∷ q) σ) (t ∷ q)) refl
    where
      c : PaperState
      c = idle (t ∷ q) σ

      go : (b : Bool) → any_go S c (t ∷ q) ≡ b → Says c (jam_or S b (try_of S (readiness S c t) c t q))
      go true e = says_try q (goes-any (t ∷ q) σ (t ∷ q) e) (reads (t ∷ q) σ t)
      go false e = stuck (λ g. true≢false (sym (any-goes (t ∷ q) σ g) ∙ e))

  abbrev pub DeclaredIn : Option PaperTask → Type 0
  DeclaredIn none = Unit {0}
  DeclaredIn (some t) = Declared t.place

  says_of : (σ : Store) (a : Option PaperTask) (q : Queue)
      → DeclaredIn a
      → Says (record { store = σ; active = a; queue = q }) (next S (record { store = σ; active = a; queue = q }))
  says_of σ none q d = says-idle q σ
  says_of σ (some t) q d = says-running σ t.number t.place t.parameter q d

  pub says : (c : PaperState) → DeclaredIn c.active → Says c (next S c)
  says c d = says_of c.store c.active c.queue d
