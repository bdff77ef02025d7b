-- Tries of the front: turned while it waits, taken up when it is ready; over any task language.
-- Assumes nothing.
use Prim.Native.Nat.{ℕ, zero, suc, ◌<◌, ◌≤◌}
use mathlib.Core.Path.{◌≡◌, refl, sym, ap, ◌∙◌, fun_ext, subst⁻¹}
use mathlib.Core.Bool.{Bool, true, false, ◌||◌, cond}
use mathlib.Core.Option.{some}
use mathlib.Core.List.{List, [], ◌∷◌, ◌++◌}
use native.Mathlib.Omega.{arith}
use lib.Dec.{ltb}
use lib.IntN.{ℤ}
use lib.ListN.{length, get_or, length-append, get_or-append}
use Rattle.rules.specs.Scheduler.{Readiness, ready, waits_for, at_guard, Rules, count, is_live, Config, readiness, can_go, any_go, finish, jam, goes, try_of, turn_of, next}
use Rattle.rules.proofs.Scheduling.Lawful.{ready_when}
use Rattle.rules.proofs.Scheduling.Bound.{count-append}
use Rattle.rules.proofs.Scheduling.Induction.{idle_c, busy_c}
use Rattle.state.specs.View.{ahead, turned}
use Rattle.state.proofs.Ring.{turned_more}

-- the try of a task that waits so is a turn, whose record carries z
abbrev pub Turns : (R : Rules) → Readiness → ℤ → Type 0
Turns R v z = (c : Config R) (t : R.Task) (q : List R.Task) → try_of R v c t q ≡ turn_of R z c t q

-- the queue after n turns: task n of it comes first
pub record Front {T : Type 0} (n : ℕ) (q : List T) : Type 0 where
  pub first : T
  pub rest : List T
  pub is : turned n q ≡ first ∷ rest
  pub first-is : (d : T) → get_or q n d ≡ first

pub front : {T : Type 0} (n : ℕ) (q : List T) → n < length q → Front n q
front zero [] h = absurd (omega arith)
front zero (t ∷ q) h = record { first = t; rest = q; is = refl; first-is = λ d. refl }
front (suc n) [] h = absurd (omega arith)
front (suc n) (t ∷ q) h =
    let f = front n (q ++ t ∷ []) (omega (arith, length-append q (t ∷ []))) in
    record {
      first = f.first;
      rest = f.rest;
      is = f.is;
      first-is = λ d. sym (get_or-append q (t ∷ []) d n (omega arith)) ∙ f.first-is d;
    }

pub turned-length : {T : Type 0} (n : ℕ) (q : List T) → length (turned n q) ≡ length q
turned-length zero q = refl
turned-length (suc n) [] = refl
turned-length (suc n) (t ∷ q) = turned-length n (q ++ t ∷ []) ∙ omega (arith, length-append q (t ∷ []))

-- ---- the first that can go on

module _ {T : Type 0} (go : T → Bool) where
  pub ahead-waits : (q : List T) (j : ℕ) (d : T) → j < ahead go q → go (get_or q j d) ≡ false
  ahead-waits [] j d h = absurd (omega arith)
  ahead-waits (t ∷ q) j d h = one (go t) refl j h (λ i. ahead-waits q i d)
    where
      one : (b : Bool) → go t ≡ b → (j : ℕ) → j < cond b 0 (suc (ahead go q)) → ((i : ℕ) → i < ahead go q → go (get_or q i d) ≡ false)
          → go (get_or (t ∷ q) j d) ≡ false
      one true e j h ih = absurd (omega arith)
      one false e zero h ih = e
      one false e (suc j) h ih = ih j (omega arith)

  pub ahead-goes : (q : List T) (d : T) → ahead go q < length q → go (get_or q (ahead go q) d) ≡ true
  ahead-goes [] d h = absurd (omega arith)
  ahead-goes (t ∷ q) d h = one (go t) refl h (ahead-goes q d)
    where
      one : (b : Bool) → go t ≡ b → cond b 0 (suc (ahead go q)) < suc (length q) → (ahead go q < length q → go (get_or q (ahead go q) d) ≡ true)
          → go (get_or (t ∷ q) (cond b 0 (suc (ahead go q))) d) ≡ true
      one true e h ih = e
      one false e h ih = ih (omega arith)

  pub ahead-length : (q : List T) → ahead go q ≤ length q
  ahead-length [] = omega arith
  ahead-length (t ∷ q) = one (go t) (ahead-length q)
    where
      one : (b : Bool) → ahead go q ≤ length q → cond b 0 (suc (ahead go q)) ≤ suc (length q)
      one true h = omega arith
      one false h = omega arith

-- ---- tries

or_false : (a : Bool) → (a || false) ≡ a
or_false true = refl
or_false false = refl

or_assoc : (a b c : Bool) → ((a || b) || c) ≡ (a || (b || c))
or_assoc true b c = refl
or_assoc false b c = refl

or_turned : (a b : Bool) → (a || b) ≡ (b || a)
or_turned true true = refl
or_turned true false = refl
or_turned false true = refl
or_turned false false = refl

module _ (R : Rules) where
  any_some : (c : Config R) (q : List R.Task) → ahead (can_go R c) q < length q → any_go R c q ≡ true
  any_some c [] h = absurd (omega arith)
  any_some c (t ∷ q) h = one (can_go R c t) h (any_some c q)
    where
      one : (b : Bool) → cond b 0 (suc (ahead (can_go R c) q)) < suc (length q) → (ahead (can_go R c) q < length q → any_go R c q ≡ true) → (b || any_go R c q) ≡ true
      one true h ih = refl
      one false h ih = ih (omega arith)

  any_none : (c : Config R) (q : List R.Task) → ahead (can_go R c) q ≡ length q → any_go R c q ≡ false
  any_none c [] h = refl
  any_none c (t ∷ q) h = one (can_go R c t) h (any_none c q)
    where
      one : (b : Bool) → cond b 0 (suc (ahead (can_go R c) q)) ≡ suc (length q) → (ahead (can_go R c) q ≡ length q → any_go R c q ≡ false) → (b || any_go R c q) ≡ false
      one true h ih = absurd (omega arith)
      one false h ih = ih (omega arith)

  any_append : (c : Config R) (p q : List R.Task) → any_go R c (p ++ q) ≡ (any_go R c p || any_go R c q)
  any_append c [] q = refl
  any_append c (t ∷ p) q = ap (λ (b : Bool). can_go R c t || b) (any_append c p q) ∙ sym (or_assoc (can_go R c t) (any_go R c p) (any_go R c q))

  any-turned : (c : Config R) (n : ℕ) (q : List R.Task) → any_go R c (turned n q) ≡ any_go R c q
  any-turned c zero q = refl
  any-turned c (suc n) [] = refl
  any-turned c (suc n) (t ∷ q) =
      any-turned c n (q ++ t ∷ []) ∙ any_append c q (t ∷ []) ∙ rw (or_false (can_go R c t)) (or_turned (any_go R c q) (can_go R c t))

  count-turned : (i n : ℕ) (q : List R.Task) → count R i (turned n q) ≡ count R i q
  count-turned i zero q = refl
  count-turned i (suc n) [] = refl
  count-turned i (suc n) (t ∷ q) = count-turned i n (q ++ t ∷ []) ∙ omega (arith, count-append R i q (t ∷ []))

  live-turned : (n : ℕ) (q : List R.Task) → is_live R (turned n q) ≡ is_live R q
  live-turned n q = fun_ext (λ i. ap (λ (k : ℕ). ltb 0 k) (count-turned i n q))

  module _ (s : R.Store) (q : List R.Task) where
    same-readiness : (n : ℕ) (t : R.Task) → readiness R (idle_c R s (turned n q)) t ≡ readiness R (idle_c R s q) t
    same-readiness n t = ap (λ (f : ℕ → Bool). R.wait s f t) (live-turned n q)

    same-any : (n : ℕ) (p : List R.Task) → any_go R (idle_c R s (turned n q)) p ≡ any_go R (idle_c R s q) p
    same-any n [] = refl
    same-any n (t ∷ p) = rw (same-readiness n t, same-any n p) refl

    pub next_none : length q ≡ 0 → next R (idle_c R s q) ≡ finish
    next_none = go q
      where
        go : (q : List R.Task) → length q ≡ 0 → next R (idle_c R s q) ≡ finish
        go [] h = refl
        go (t ∷ q) h = absurd (omega arith)

    abbrev go : R.Task → Bool
    go = can_go R (idle_c R s q)

    pub next-stuck : 0 < length q → ahead go q ≡ length q → next R (idle_c R s q) ≡ jam
    next-stuck h e = by q h (any_none (idle_c R s q) q e)
      where
        by : (q : List R.Task) → 0 < length q → any_go R (idle_c R s q) q ≡ false → next R (idle_c R s q) ≡ jam
        by [] h g = absurd (omega arith)
        by (t ∷ q) h g = rw g refl

    -- with a ready task somewhere, the front after n turns is tried
    module _ (n : ℕ) (f : Front n q) (some_go : ahead go q < length q) where
      tries-front : next R (idle_c R s (turned n q)) ≡ try_of R (readiness R (idle_c R s q) f.first) (idle_c R s (turned n q)) f.first f.rest
      tries-front =
          let any : any_go R (idle_c R s (turned n q)) (turned n q) ≡ true = same-any n (turned n q) ∙ any-turned (idle_c R s q) n q ∙ any_some (idle_c R s q) q some_go in
          by (turned n q) f.is any (same-readiness n f.first)
        where
          by : (p : List R.Task) → p ≡ f.first ∷ f.rest → any_go R (idle_c R s p) p ≡ true → readiness R (idle_c R s p) f.first ≡ readiness R (idle_c R s q) f.first
              → next R (idle_c R s p) ≡ try_of R (readiness R (idle_c R s q) f.first) (idle_c R s p) f.first f.rest
          by p e = subst⁻¹ (λ (p : List R.Task). any_go R (idle_c R s p) p ≡ true → readiness R (idle_c R s p) f.first ≡ readiness R (idle_c R s q) f.first → next R (idle_c R s p) ≡ try_of R (readiness R (idle_c R s q) f.first) (idle_c R s p) f.first f.rest) e (λ any same. rw (any, same) refl)

      pub next-turned : (z : ℤ) → Turns R (readiness R (idle_c R s q) f.first) z
          → next R (idle_c R s (turned n q)) ≡ goes (some (R.turn f.first z)) (idle_c R s (turned (suc n) q))
      next-turned z e = tries-front ∙ e (idle_c R s (turned n q)) f.first f.rest ∙ rw (turned_more n q, f.is) refl

      pub next-taken : n ≡ ahead go q → (d : R.Task)
          → next R (idle_c R s (turned n q)) ≡ goes (some (R.took f.first)) (busy_c R s (R.up f.first) f.rest)
      next-taken e d =
          let g : go f.first ≡ true = ap go (sym (f.first-is d) ∙ ap (λ (i : ℕ). get_or q i d) e) ∙ ahead-goes go q d some_go in
          tries-front ∙ rw (ready_when (readiness R (idle_c R s q) f.first) g) refl

      -- whatever it comes to, it is a step with an event
      pub next-tried : (e : R.Event) × (c : Config R) × (next R (idle_c R s (turned n q)) ≡ goes (some e) c)
      next-tried = by (readiness R (idle_c R s q) f.first) tries-front
        where
          by : (v : Readiness) → next R (idle_c R s (turned n q)) ≡ try_of R v (idle_c R s (turned n q)) f.first f.rest → (e : R.Event) × (c : Config R) × (next R (idle_c R s (turned n q)) ≡ goes (some e) c)
          by ready h = (_, _, h)
          by (waits_for z) h = (_, _, h)
          by at_guard h = (_, _, h)
