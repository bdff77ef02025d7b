-- What holds at every moment of a list of calls.
-- Assumes nothing.
use Prim.Native.Nat.{ℕ, zero, suc, ◌+◌, ◌-◌, ◌≤◌, ◌<◌}
use mathlib.Core.Path.{◌≡◌, refl, sym, ap, ◌∙◌, subst}
use mathlib.Core.Option.{Option, none, some}
use mathlib.Core.List.{List, [], ◌∷◌, ◌++◌, head-eq_of_cons-eq, tail-eq_of_cons-eq}
use native.Mathlib.Omega.{arith}
use native.Mathlib.Decide.{dec_le}
use Rattle.rules.specs.State.{live}
use Rattle.rules.specs.Scheduler.{Rules, Stay, on, back, over, does, count, Config, goes, stay, next, Ending, stops, makes, test, size}
use Rattle.rules.specs.Moments.{Call, call, Moment, trace}
use Rattle.rules.specs.Fairness.{Every, Valid}
use Rattle.rules.proofs.Scheduling.Lawful.{Keeps, Sound, SoundAct, Lawful}
use Rattle.rules.proofs.Scheduling.Induction.{end_m, step_m, idle_c, busy_c, trace_ind, trace_cases}
use Rattle.rules.proofs.Scheduling.Bound.{not_nil, every-mid, count-append}

module _ (R : Rules) where
  -- one call, step by step
  pub trace-end : (c : Config R) (b r : ℕ) (cs : List Call) (e : Ending) → test R b r (next R c) ≡ stops e → trace R c (call b r ∷ cs) ≡ end_m R c b r cs e ∷ trace R c cs
  trace-end c zero r cs e h = rw h refl
  trace-end c (suc b) r cs e h = rw h refl

  pub test-goes : (b r : ℕ) (x : Option R.Event) (c : Config R) → size R x ≤ r → test R (suc b) r (goes x c) ≡ makes x c
  test-goes b r none c h = refl
  test-goes b zero (some x) c h = absurd (omega arith)
  test-goes b (suc r) (some x) c h = refl

  pub trace-step : (c : Config R) (b r : ℕ) (cs : List Call) (x : Option R.Event) (c' : Config R) → next R c ≡ goes x c' → size R x ≤ r
      → trace R c (call (suc b) r ∷ cs) ≡ step_m R c (suc b) r cs x ∷ trace R c' (call b (r - size R x) ∷ cs)
  trace-step c b r cs x c' h l = let k : test R (suc b) r (next R c) ≡ makes x c' = rw h (test-goes b r x c' l) in let e : suc b - 1 ≡ b = omega arith in rw k (rw e refl)

  Suffix : Config R → List Call → List (Moment R) → Type 0
  Suffix c cs ms = (ms ≡ trace R c cs) × ((pre post : List (Moment R)) (m : Moment R) → ms ≡ pre ++ (m ∷ post) → m ∷ post ≡ trace R m.at m.calls)

  suffix_cons : (m₀ : Moment R) (ms : List (Moment R)) → m₀ ∷ ms ≡ trace R m₀.at m₀.calls
      → ((pre post : List (Moment R)) (m : Moment R) → ms ≡ pre ++ (m ∷ post) → m ∷ post ≡ trace R m.at m.calls)
      → (pre post : List (Moment R)) (m : Moment R) → m₀ ∷ ms ≡ pre ++ (m ∷ post) → m ∷ post ≡ trace R m.at m.calls
  suffix_cons m₀ ms h ih [] post m e = subst (λ z. z ∷ post ≡ trace R z.at z.calls) (head-eq_of_cons-eq e) (ap (λ l. m₀ ∷ l) (sym (tail-eq_of_cons-eq e)) ∙ h)
  suffix_cons m₀ ms h ih (p ∷ pre) post m e = ih pre post m (tail-eq_of_cons-eq e)

  suffix_all : (c : Config R) (cs : List Call) → Suffix c cs (trace R c cs)
  unfolding Suffix
  suffix_all = trace_ind R Suffix
      (λ c. (refl, λ pre post m e. absurd (not_nil R pre m post (sym e))))
      (λ c cs ms ih. ih)
      (λ c b r cs e ms h ih. let k : end_m R c b r cs e ∷ ms ≡ trace R c (call b r ∷ cs) = ap (λ l. end_m R c b r cs e ∷ l) ih.0 ∙ sym (trace-end c b r cs e h) in (k, suffix_cons (end_m R c b r cs e) ms k ih.1))
      (λ c b r cs x c' ms h l ih. let k : step_m R c (suc b) r cs x ∷ ms ≡ trace R c (call (suc b) r ∷ cs) = ap (λ z. step_m R c (suc b) r cs x ∷ z) ih.0 ∙ sym (trace-step c b r cs x c' h l) in (k, suffix_cons (step_m R c (suc b) r cs x) ms k ih.1))

  -- the moments from m on are those of the calls that it has before it
  pub suffix : (c : Config R) (cs : List Call) (pre post : List (Moment R)) (m : Moment R) → trace R c cs ≡ pre ++ (m ∷ post) → m ∷ post ≡ trace R m.at m.calls
  unfolding Suffix
  suffix c cs = (suffix_all c cs).1

  pub stay-store : (s : R.Store) (q : List R.Task) (y : Stay R.Task) → (stay R s q y).store ≡ s
  stay-store s q (on t) = refl
  stay-store s q (back t) = refl
  stay-store s q over = refl

  pub sound : Lawful R → (s : R.Store) (q : List R.Task) (t : R.Task) (s' : R.Store) (new : List R.Task) (y : Stay R.Task) (x : Option R.Event) → R.act s q t ≡ does s' new y x → Sound R s t s' new y
  sound L s q t s' new y x e = subst (λ a. SoundAct R s t a) e (L.acts s q t)

  -- the next moment's state is valid too
  module _ (L : Lawful R) where
    pub valid_work : (s : R.Store) (t : R.Task) (q : List R.Task) (s' : R.Store) (new : List R.Task) (y : Stay R.Task) (x : Option R.Event)
        → R.act s q t ≡ does s' new y x → Valid R (busy_c R s t q) → Valid R (stay R s' (q ++ new) y)
    valid_work s t q s' new y x h v = record { differ = λ i. le i (dec_le i (R.issued s)); below = λ i g. zero-there i g }
      where
        -- what the new live tasks count to
        sum : (i : ℕ) → count R i (live (stay R s' (q ++ new) y)) ≤ count R i (t ∷ q) + count R i new
        sum i = go y (sound L s q t s' new y x h).keeps
          where
            go : (y : Stay R.Task) → Keeps R t y → count R i (live (stay R s' (q ++ new) y)) ≤ count R i (t ∷ q) + count R i new
            go (on t') k = rw k (omega (arith, count-append R i q new))
            go (back t') k = rw (count-append R, count-append R, k) (omega arith)
            go over k = omega (arith, count-append R i q new)

        le : (i : ℕ) → Dec (i ≤ R.issued s) → count R i (live (stay R s' (q ++ new) y)) ≤ 1
        le i (yes p) = omega (arith, sum i, v.differ i, (sound L s q t s' new y x h).fresh i p)
        le i (no p) = omega (arith, sum i, v.below i (omega arith), (sound L s q t s' new y x h).once i)

        zero-there : (i : ℕ) → R.issued (stay R s' (q ++ new) y).store < i → count R i (live (stay R s' (q ++ new) y)) ≡ 0
        zero-there i g = let k : R.issued s' < i = rw (stay-store s' (q ++ new) y) at g in
            omega (arith, sum i, v.below i (omega (arith, (sound L s q t s' new y x h).grows)), (sound L s q t s' new y x h).within i k)

    pub valid_took : (s : R.Store) (t : R.Task) (q : List R.Task) → Valid R (idle_c R s (t ∷ q)) → Valid R (busy_c R s (R.up t) q)
    valid_took s t q v = record { differ = λ i. rw (L.up-num t) (v.differ i); below = λ i g. rw (L.up-num t) (v.below i g) }

    pub valid_turned : (s : R.Store) (t : R.Task) (q : List R.Task) → Valid R (idle_c R s (t ∷ q)) → Valid R (idle_c R s (q ++ (t ∷ [])))
    valid_turned s t q v = record { differ = λ i. rw (count-append R) (omega (arith, v.differ i)); below = λ i g. rw (count-append R) (omega (arith, v.below i g)) }

    ValidP : Config R → List Call → List (Moment R) → Type 0
    ValidP c cs ms = Valid R c → Every (λ m. Valid R m.at) ms

    valid_all : (c : Config R) (cs : List Call) → ValidP c cs (trace R c cs)
    unfolding ValidP
    valid_all = trace_cases R ValidP (λ c v. tt) (λ c cs ms ih. ih)
        (λ c b r cs e ms h ih v. (v, ih v))
        (λ s t q s' new y x b r r' cs ms h ih v. (v, ih (valid_work s t q s' new y x h v)))
        (λ s t q x b r r' cs ms h ih v. (v, ih (valid_took s t q v)))
        (λ s t q x b r r' cs ms h ih v. (v, ih (valid_turned s t q v)))

    -- every moment's state is valid
    pub valid_at : (c : Config R) (cs : List Call) → Valid R c → (pre post : List (Moment R)) (m : Moment R) → trace R c cs ≡ pre ++ (m ∷ post) → Valid R m.at
    unfolding ValidP
    valid_at c cs v pre post m e = every-mid R (λ m. Valid R m.at) pre m post (subst (λ l. Every (λ m. Valid R m.at) l) e (valid_all c cs v))
