-- Queued tasks by their numbers, what a task waits for, and how a chain goes on behind it.
-- Assumes nothing.
use Prim.Native.Nat.{ℕ, suc, ◌+◌, ◌≤◌}
use mathlib.Core.Path.{◌≡◌, refl, sym, ap, ◌∙◌, subst}
use mathlib.Core.Bool.{Bool, true, false, not, ◌||◌, ◌&&◌, cond, true≢false, false≢true}
use mathlib.Core.Option.{Option, none, some}
use mathlib.Core.List.{List, [], ◌∷◌, ◌++◌, head-eq_of_cons-eq, tail-eq_of_cons-eq}
use native.Mathlib.Omega.{arith}
use lib.Dec.{eqb, leb, ltb}
use lib.IntN.{ℤ, pos, negsuc}
use borrow.Author.Tests.{eqb-true, eqb-false, ne_eqb, le-leb, leb-true}
use Rattle.rules.specs.Values.{is_true}
use Rattle.rules.specs.Recipe.{Recipe, read, value}
use Rattle.rules.specs.Places.{awaits, guards, at}
use Rattle.rules.specs.State.{Task, State, live_tasks}
use Rattle.rules.specs.Scheduler.{is, Rules, waits_for, at_guard, is_live, count, readiness}
use Rattle.rules.specs.Steps.{is_done, env_of, recipes}
use Rattle.rules.specs.Fairness.{Every}
use Rattle.rules.specs.Why.{named_earlier, never_issued, untrue_guard, chain, among, is_number, holder, follow, Queued, Awaits, NeverIssued, AtUntrueGuard}
use Rattle.rules.proofs.Fit.{TaskFit, Fit}
use Rattle.rules.proofs.Scheduling.Bound.{count-append, every-mid}
use Rattle.rules.proofs.Why.Named.{is_self}

-- a value that is this number
number_is : (z : ℤ) (n : ℕ) → is_number z n ≡ true → z ≡ pos n
number_is (pos m) n h = ap pos (eqb-true m n h)
number_is (negsuc m) n h = absurd (false≢true h)

module _ (issued : ℕ) (live : ℕ → Bool) where
  -- 0 is done, and no other number never issued
  pub no_zero : (z : ℤ) → is_done issued live z ≡ false → ¬ (z ≡ pos 0)
  unfolding is_done
  no_zero z d e = true≢false (rw e at d)

  pub never_done : (z : ℤ) → NeverIssued issued z → ¬ (z ≡ pos 0) → is_done issued live z ≡ false
  unfolding is_done
  never_done (negsuc n) h g = refl
  never_done (pos m) h g = by (eqb m 0) (leb m issued) refl refl
    where
      by : (a b : Bool) → eqb m 0 ≡ a → leb m issued ≡ b → (a || (b && not (live m))) ≡ false
      by true b e k = absurd (g (ap pos (eqb-true m 0 e)))
      by false true e k = absurd (h m refl (omega (arith, eqb-false m 0 e)) (leb-true m issued k))
      by false false e k = refl

module _ (r : Recipe) where
  abbrev R : Rules
  R = recipes r

  -- ---- a queue and its numbers

  -- a task of a queue is counted
  counted : (a o : List (Task ℕ)) (t : Task ℕ) → 1 ≤ count R t.number (a ++ (t ∷ o))
  counted a o t = omega (arith, count-append R t.number a (t ∷ o), is_self t.number)

  -- where no number is that of two tasks, tasks of one number are one task
  one-task : (a a' o o' : List (Task ℕ)) (t u : Task ℕ) → a ++ (t ∷ o) ≡ a' ++ (u ∷ o') → t.number ≡ u.number
      → count R t.number (a ++ (t ∷ o)) ≤ 1 → t ≡ u
  one-task [] [] o o' t u e n h = head-eq_of_cons-eq e
  one-task [] (x ∷ a') o o' t u e n h =
      let k : count R t.number o ≡ count R u.number (a' ++ (u ∷ o')) = rw (n, tail-eq_of_cons-eq e) refl in
      absurd (omega (arith, counted a' o' u, is_self t.number))
  one-task (x ∷ a) [] o o' t u e n h =
      let same : x.number ≡ t.number = ap (λ (y : Task ℕ). y.number) (head-eq_of_cons-eq e) ∙ sym n in
      let twice : is (eqb t.number x.number) ≡ 1 = rw same (is_self t.number) in
      absurd (omega (arith, counted a o t))
  one-task (x ∷ a) (y ∷ a') o o' t u e n h = one-task a a' o o' t u (tail-eq_of_cons-eq e) n (omega arith)

  module _ (c : State) (f : Fit r c) where
    once : (n : ℕ) → count R n c.queue ≤ 1
    once n = go c.active (f.valid.differ n)
      where
        go : (a : Option (Task ℕ)) → count R n (live_tasks a c.queue) ≤ 1 → count R n c.queue ≤ 1
        go none h = h
        go (some t) h = omega arith

    pub queue-fits : Every (TaskFit r c.store) c.queue
    queue-fits = go c.active f.tasks_fit
      where
        go : (a : Option (Task ℕ)) → Every (TaskFit r c.store) (live_tasks a c.queue) → Every (TaskFit r c.store) c.queue
        go none h = h
        go (some t) h = h.1

    -- the queued task of a number, if there is one
    abbrev pub HasTask : ℕ → Type 0
    HasTask n = (t : Task ℕ) × Queued c n t

    pub queued-once : (n : ℕ) (t u : Task ℕ) → Queued c n t → Queued c n u → t ≡ u
    queued-once n t u p q =
        one-task p.ahead q.ahead p.others q.others t u (sym p.stands ∙ q.stands) (p.numbered ∙ sym q.numbered)
        (subst (λ (l : List (Task ℕ)). count R t.number l ≤ 1) p.stands (once t.number))

    pub queued-fits : (n : ℕ) (t : Task ℕ) → Queued c n t → (1 ≤ n) × (n ≤ c.store.issued)
    queued-fits n t p =
        let g = every-mid R (TaskFit r c.store) p.ahead t p.others (subst (λ (l : List (Task ℕ)). Every (TaskFit r c.store) l) p.stands queue-fits) in
        (rw (← p.numbered) g.from_one, rw (← p.numbered) g.was_issued)

    pub has_count : (n : ℕ) → HasTask n → 1 ≤ count R n c.queue
    has_count n (t, p) = rw (p.stands, ← p.numbered) (counted p.ahead p.others t)

    -- ---- the holder of a value

    holder_in : (z : ℤ) (q : List (Task ℕ)) (u : Task ℕ) → holder R z q ≡ some u → (a : List (Task ℕ)) × (o : List (Task ℕ)) × (q ≡ a ++ (u ∷ o)) × (z ≡ pos u.number)
    holder_in z [] u h = absurd (let w : ◌≡◌ {A = ℕ} 0 1 = cc in omega arith)
    holder_in z (t ∷ q) u h = go (is_number z t.number) refl h (λ g. holder_in z q u g)
      where
        go : (b : Bool) → is_number z t.number ≡ b → cond b (some t) (holder R z q) ≡ some u
            → (holder R z q ≡ some u → (a : List (Task ℕ)) × (o : List (Task ℕ)) × (q ≡ a ++ (u ∷ o)) × (z ≡ pos u.number))
            → (a : List (Task ℕ)) × (o : List (Task ℕ)) × (t ∷ q ≡ a ++ (u ∷ o)) × (z ≡ pos u.number)
        go true e g ih = let s : t ≡ u = cc in ([], q, rw s refl, number_is z u.number (rw s at e))
        go false e g ih = let i = ih g in (t ∷ i.0, i.1, rw i.2 refl, i.3)

    holder_out : (m : ℕ) (q : List (Task ℕ)) → holder R (pos m) q ≡ none → count R m q ≡ 0
    holder_out m [] h = refl
    holder_out m (t ∷ q) h = go (eqb m t.number) refl h (λ g. holder_out m q g)
      where
        go : (b : Bool) → eqb m t.number ≡ b → cond b (some t) (holder R (pos m) q) ≡ none → (holder R (pos m) q ≡ none → count R m q ≡ 0) → is (eqb m t.number) + count R m q ≡ 0
        go true e g ih = absurd (let w : ◌≡◌ {A = ℕ} 0 1 = cc in omega arith)
        go false e g ih = rw e (omega (arith, ih g))

    -- it is the queued task of that number
    pub holder-is : (m : ℕ) (u : Task ℕ) → Queued c m u → holder R (pos m) c.queue ≡ some u
    holder-is m u p = go (holder R (pos m) c.queue) refl
      where
        go : (o : Option (Task ℕ)) → holder R (pos m) c.queue ≡ o → o ≡ some u
        go none h = absurd (omega (arith, holder_out m c.queue h, has_count m (u, p)))
        go (some v) h = let i = holder_in (pos m) c.queue v h in ap some (queued-once m v u (record { ahead = i.0; others = i.1; stands = i.2; numbered = let e = i.3 in cc }) p)

    -- a number that is not done and no queued task's was never issued, and a number never issued is no queued task's
    pub not-issued : (z : ℤ) → is_done c.store.issued (is_live R c.queue) z ≡ false → holder R z c.queue ≡ none → NeverIssued c.store.issued z
    unfolding is_done
    not-issued z d h m e low high =
        let gone : count R m c.queue ≡ 0 = holder_out m c.queue (rw e at h) in
        let k : (eqb m 0 || (leb m c.store.issued && not (ltb 0 (count R m c.queue)))) ≡ false = rw e at d in
        true≢false (rw (ne_eqb m 0 (omega arith), le-leb m c.store.issued high, gone) at k)

    pub never_held : (z : ℤ) → NeverIssued c.store.issued z → holder R z c.queue ≡ none
    never_held z h = go (holder R z c.queue) refl
      where
        go : (o : Option (Task ℕ)) → holder R z c.queue ≡ o → o ≡ none
        go none e = refl
        go (some u) e =
            let i = holder_in z c.queue u e in
            let k = queued-fits u.number u (record { ahead = i.0; others = i.1; stands = i.2; numbered = refl }) in
            absurd (h u.number i.3 k.0 k.1)

    pub held_by : (z : ℤ) (u : Task ℕ) → holder R z c.queue ≡ some u → (z ≡ pos u.number) × Queued c u.number u
    held_by z u e = let i = holder_in z c.queue u e in (i.3, record { ahead = i.0; others = i.1; stands = i.2; numbered = refl })

    -- ---- what a task waits for

    pub waits-is : (t : Task ℕ) (z : ℤ) → Queued c t.number t → Awaits r c t.number z → is_done c.store.issued (is_live R c.queue) z ≡ false
        → readiness R c t ≡ waits_for z
    waits-is t z p w d =
        let e = queued-once t.number w.task t w.queued p in
        let a : at r t.place ≡ awaits w.name w.next = rw e at w.at_await in
        let v : read (env_of c.store t) w.name ≡ z = rw e at w.value_now in
        rw (a, v, d) refl

    pub guard-is : (t : Task ℕ) → Queued c t.number t → AtUntrueGuard r c t.number → readiness R c t ≡ at_guard
    guard-is t p w =
        let e = queued-once t.number w.task t w.queued p in
        let a : at r t.place ≡ guards w.expr w.next = rw e at w.at_guard in
        let v : is_true (value (env_of c.store t) w.expr) ≡ false = rw e at w.untrue in
        rw (a, v) refl

  -- ---- how a chain goes on

  module _ (n : ℕ) (c : State) (ns : List ℕ) (t : Task ℕ) where
    abbrev named : List ℕ
    named = ns ++ t.number ∷ []

    pub follow-named : among t.number ns ≡ true → follow R (suc n) c ns t ≡ chain named named_earlier
    unfolding follow
    follow-named h = rw h refl

    module _ (h : among t.number ns ≡ false) where
      pub follow-on : (z : ℤ) (u : Task ℕ) → readiness R c t ≡ waits_for z → holder R z c.queue ≡ some u → follow R (suc n) c ns t ≡ follow R n c named u
      unfolding follow
      follow-on z u w e = rw (h, w, e) refl

      pub follow-never : (z : ℤ) → readiness R c t ≡ waits_for z → holder R z c.queue ≡ none → follow R (suc n) c ns t ≡ chain named never_issued
      unfolding follow
      follow-never z w e = rw (h, w, e) refl

      pub follow-guard : readiness R c t ≡ at_guard → follow R (suc n) c ns t ≡ chain named untrue_guard
      unfolding follow
      follow-guard w = rw (h, w) refl
