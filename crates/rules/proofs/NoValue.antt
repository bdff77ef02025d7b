-- Request 2.2 of document 02: when an expression has no value, what then bars the step, and that a call stopped so stops there again.
-- Assumes nothing.
use Prim.Native.Nat.{ℕ, suc, ◌≤◌}
use mathlib.Core.Path.{◌≡◌, refl, sym, ap, ◌∙◌, subst}
use mathlib.Core.Logic.{dite}
use mathlib.Core.Bool.{Bool, true, false, ◌&&◌, ◌||◌, cond, true≢false}
use mathlib.Core.Option.{Option, none, some}
use mathlib.Core.List.{List, [], ◌∷◌}
use native.Mathlib.Omega.{arith}
use native.Mathlib.Decide.{dec_lt, ℕ_discrete}
use lib.Dec.{eqb, leb}
use lib.IntN.{ℤ, pos, negsuc}
use lib.Signed.{lt_z, quot_z}
use lib.ListN.{length}
use borrow.Author.Tests.{ne_eqb, le-leb, lt-leb, eqb-true}
use Rattle.rules.specs.Values.{clamp, is_zero, quotient, truth, flag, equal, apply1, apply2, of_both, of_one}
use Rattle.rules.specs.Recipe.{Expr, constant, variable, two, one, Recipe, Env, write, value}
use Rattle.rules.specs.Table.{kind_of, inner, expr_of}
use Rattle.rules.specs.Places.{Point, nowhere, stop, skips, assigns, tests, spawns, suspends, awaits, guards, at, start}
use Rattle.rules.specs.Standing.{point_at}
use Rattle.rules.specs.State.{Kept, Task, Store, State}
use Rattle.rules.specs.Log.{Event}
use Rattle.rules.specs.Scheduler.{Rules, Config, on, Halt, novalue, Act, halts, does, bar, next_act, next, paused, halted, run, end}
use Rattle.rules.specs.Steps.{Limits, limits, valve_of, Keeping, counting, env_of, go_to, moves, needing, spawn_at, act_at, recipes}
use Rattle.rules.specs.NoValue.{Lacks, by_zero, of_first, of_second, of_only, needs, Lacking, NoValue}
use Rattle.rules.proofs.Standing.{choose}
use Rattle.rules.proofs.Scheduling.Bound.{idle_no_bar}

-- ---- expressions

is-zero : (z : ℤ) → is_zero z ≡ true → z ≡ pos 0
is-zero (pos n) h = ap pos (eqb-true n 0 h)
is-zero (negsuc n) h = absurd (true≢false (sym h))

some-value : {z : ℤ} → ¬ (some z ≡ none)
some-value h = let z : ◌≡◌ {A = ℕ} 0 1 = cc in omega arith

-- an operator with a result is not the one asked for
passed : (b : Bool) (z : ℤ) (o : Option ℤ) → cond b (some z) o ≡ none → o ≡ none
passed true z o h = absurd (some-value h)
passed false z o h = h

-- of the operators only a quotient by 0 has no result
pub no_result : (o : ℕ) (x y : ℤ) → apply2 o x y ≡ none → (o ≡ 3) × (y ≡ pos 0)
unfolding apply2 quotient
no_result o x y h = go (eqb o 3) (is_zero y) refl refl (passed (eqb o 2) _ _ (passed (eqb o 1) _ _ (passed (eqb o 0) _ _ h)))
  where
    others : Option ℤ
    others = cond (eqb o 4) (some (flag (lt_z x y))) (cond (eqb o 5) (some (flag (equal x y))) (cond (eqb o 6) (some (flag (truth x && truth y))) (some (flag (truth x || truth y)))))

    go : (d i : Bool) → eqb o 3 ≡ d → is_zero y ≡ i → cond d (cond i none (some (clamp (quot_z x y)))) others ≡ none → (o ≡ 3) × (y ≡ pos 0)
    go true true p q h = (eqb-true o 3 p, is-zero y q)
    go true false p q h = absurd (some-value h)
    go false i p q h = absurd (some-value (passed (eqb o 6) _ _ (passed (eqb o 5) _ _ (passed (eqb o 4) _ _ h))))

module _ (v : Env) where
  none_second : (o : ℕ) (x : Option ℤ) → of_both (apply2 o) x none ≡ none
  none_second o none = refl
  none_second o (some x) = refl

  quotient_by : (x : Option ℤ) → of_both (apply2 3) x (some (pos 0)) ≡ none
  unfolding apply2 quotient
  quotient_by none = refl
  quotient_by (some x) = refl

  lacks_none : {e : Expr} → Lacks v e → value v e ≡ none
  unfolding value
  lacks_none (by_zero a b h) = rw h (quotient_by (value v a))
  lacks_none (of_first o a b h) = rw (lacks_none h) refl
  lacks_none (of_second o a b h) = rw (lacks_none h) (none_second o (value v a))
  lacks_none (of_only o a h) = rw (lacks_none h) refl

  none_lacks : (e : Expr) → value v e ≡ none → Lacks v e
  unfolding value
  none_lacks (constant z) h = absurd (some-value h)
  none_lacks (variable n) h = absurd (some-value h)
  none_lacks (two o a b) h = go (value v a) (value v b) refl refl (none_lacks a) (none_lacks b) h
    where
      go : (x y : Option ℤ) → value v a ≡ x → value v b ≡ y → (value v a ≡ none → Lacks v a) → (value v b ≡ none → Lacks v b) → of_both (apply2 o) x y ≡ none → Lacks v (two o a b)
      go none y p q f g h = of_first o a b (f p)
      go (some x) none p q f g h = of_second o a b (g q)
      go (some x) (some y) p q f g h = let (three, is-0) = no_result o x y h in subst (λ (k : ℕ). Lacks v (two k a b)) (sym three) (by_zero a b (q ∙ ap some is-0))
  none_lacks (one o a) h = go (value v a) refl (none_lacks a) h
    where
      go : (x : Option ℤ) → value v a ≡ x → (value v a ≡ none → Lacks v a) → of_one (apply1 o) x ≡ none → Lacks v (one o a)
      go none p f h = of_only o a (f p)
      go (some x) p f h = absurd (some-value h)

-- the expression that a record of this kind needs, which the part encloses first
abbrev pub needed_by : (kind : ℕ) → (part : List ℕ) → Option Expr
needed_by k p = cond (leb 3 k && leb k 6) (some (expr_of (inner p))) none

pub needs_point : (p : List ℕ) (i k : ℕ) → needs (point_at p i k) ≡ needed_by (kind_of p) p
unfolding point_at
needs_point p i k =
    dite (ℕ_discrete (kind_of p) 3) (λ e. rw e refl) (λ a.
    dite (ℕ_discrete (kind_of p) 4) (λ e. rw e refl) (λ b.
    dite (ℕ_discrete (kind_of p) 5) (λ e. rw e refl) (λ c.
    dite (ℕ_discrete (kind_of p) 6) (λ e. rw e refl) (λ d.
    rw (ne_eqb (kind_of p) 3 a, ne_eqb (kind_of p) 4 b, ne_eqb (kind_of p) 5 c, ne_eqb (kind_of p) 6 d)
    (choose needs none (kind_of p) 1 _ _ refl (λ _.
    choose needs none (kind_of p) 2 _ _ refl (λ _.
    choose needs none (kind_of p) 7 _ _ refl (λ _.
    choose needs none (kind_of p) 8 _ _ refl (λ _. choose needs none (kind_of p) 13 _ _ refl (λ _. refl)))))
    ∙ sym (rw (outside (kind_of p) a b c d) refl))))))
  where
    outside : (k : ℕ) → ¬ (k ≡ 3) → ¬ (k ≡ 4) → ¬ (k ≡ 5) → ¬ (k ≡ 6) → (leb 3 k && leb k 6) ≡ false
    outside k a b c d = dite (dec_lt k 3) (λ h. rw (lt-leb 3 k h) refl) (λ h. rw (le-leb 3 k (omega arith), lt-leb k 6 (omega arith)) refl)

pub needs-kind : (p : List ℕ) (i k : ℕ) → 3 ≤ kind_of p → kind_of p ≤ 6 → needs (point_at p i k) ≡ some (expr_of (inner p))
needs-kind p i k low high = needs_point p i k ∙ rw (le-leb 3 (kind_of p) low, le-leb (kind_of p) 6 high) refl

-- ---- what bars the active task's step

-- what holds of a step that a missing value halts, and of what is done with any value, holds of a step that needs one
pub needing_all : {A H : Type 0} (P : Act Store (Kept A H) Event → Type 0) (o : Option ℤ) (f : ℤ → Act Store (Kept A H) Event) → P (halts novalue) → ((z : ℤ) → P (f z)) → P (needing o f)
needing_all P none f h g = h
needing_all P (some z) f h g = g z

module _ (r : Recipe) (s : Store) (q : List (Task ℕ)) (u : Task ℕ) where
  -- there is no value; or there is one, and a limit bars a spawn
  pub data Why (p : Point ℕ) : Halt → Type 0 where
    lacks : (e : Expr) → needs p ≡ some e → value (env_of s u) e ≡ none → Why p novalue
    limited : {k : Halt} (n m : ℕ) (e : Expr) (l : ℕ) (z : ℤ) → p ≡ spawns n m e l → value (env_of s u) e ≡ some z → limits (length q) s.issued ≡ some k → Why p k

  needing-why : (p : Point ℕ) (k : Halt) (e : Expr) (f : ℤ → Act Store (Task ℕ) Event) → needs p ≡ some e
      → ((z : ℤ) → value (env_of s u) e ≡ some z → f z ≡ halts k → Why p k) → needing (value (env_of s u) e) f ≡ halts k → Why p k
  needing-why p k e f n g h = go (value (env_of s u) e) refl h
    where
      go : (o : Option ℤ) → value (env_of s u) e ≡ o → needing o f ≡ halts k → Why p k
      go none v h = let z : novalue ≡ k = cc in subst (Why p) z (lacks e n v)
      go (some z) v h = g z v h

  spawn-halts : (o : Option Halt) (n p : ℕ) (z : ℤ) (l : ℕ) (k : Halt) → spawn_at counting o s u n p z l ≡ halts k → o ≡ some k
  spawn-halts (some j) n p z l k e = let y : j ≡ k = cc in ap some y
  spawn-halts none n p z l k e = absurd (let z : ◌≡◌ {A = ℕ} 0 1 = cc in omega arith)

  pub halts-why : (p : Point ℕ) (k : Halt) → act_at counting (start r) limits p s q u ≡ halts k → Why p k
  halts-why nowhere k e = absurd (let z : ◌≡◌ {A = ℕ} 0 1 = cc in omega arith)
  halts-why stop k e = absurd (let z : ◌≡◌ {A = ℕ} 0 1 = cc in omega arith)
  halts-why (skips l) k e = absurd (let z : ◌≡◌ {A = ℕ} 0 1 = cc in omega arith)
  halts-why (assigns n x l) k e =
      needing-why (assigns n x l) k x (λ z. moves s.issued (write (env_of s u) n z) u l [] (valve_of u.number n z)) refl
      (λ z v h. absurd (let z : ◌≡◌ {A = ℕ} 0 1 = cc in omega arith)) e
  halts-why (tests x l m) k e =
      needing-why (tests x l m) k x (λ z. does s [] (on (go_to u (cond (truth z) l m))) none) refl
      (λ z v h. absurd (let z : ◌≡◌ {A = ℕ} 0 1 = cc in omega arith)) e
  halts-why (spawns n p x l) k e =
      needing-why (spawns n p x l) k x (λ z. spawn_at counting (limits (length q) s.issued) s u n (start r p) z l) refl
      (λ z v h. limited n p x l z refl v (spawn-halts (limits (length q) s.issued) n (start r p) z l k h)) e
  halts-why (suspends l) k e = absurd (let z : ◌≡◌ {A = ℕ} 0 1 = cc in omega arith)
  halts-why (awaits n l) k e = absurd (let z : ◌≡◌ {A = ℕ} 0 1 = cc in omega arith)
  halts-why (guards x l) k e = absurd (let z : ◌≡◌ {A = ℕ} 0 1 = cc in omega arith)

-- an expression that is needed and has no value halts the step, whatever the places
pub lacking-halts : {A H : Type 0} (keep : Keeping H) (begin : ℕ → A) (full : Limits) (p : Point A) (s : Store) (q : List (Kept A H)) (u : Kept A H) (e : Expr)
    → needs p ≡ some e → value (env_of s u) e ≡ none → act_at keep begin full p s q u ≡ halts novalue
lacking-halts keep begin full nowhere s q u e h v = absurd (let z : ◌≡◌ {A = ℕ} 0 1 = cc in omega arith)
lacking-halts keep begin full stop s q u e h v = absurd (let z : ◌≡◌ {A = ℕ} 0 1 = cc in omega arith)
lacking-halts keep begin full (skips l) s q u e h v = absurd (let z : ◌≡◌ {A = ℕ} 0 1 = cc in omega arith)
lacking-halts keep begin full (assigns n x l) s q u e h v = let z : x ≡ e = cc in rw (z, v) refl
lacking-halts keep begin full (tests x l m) s q u e h v = let z : x ≡ e = cc in rw (z, v) refl
lacking-halts keep begin full (spawns n p x l) s q u e h v = let z : x ≡ e = cc in rw (z, v) refl
lacking-halts keep begin full (suspends l) s q u e h v = absurd (let z : ◌≡◌ {A = ℕ} 0 1 = cc in omega arith)
lacking-halts keep begin full (awaits n l) s q u e h v = absurd (let z : ◌≡◌ {A = ℕ} 0 1 = cc in omega arith)
lacking-halts keep begin full (guards x l) s q u e h v = absurd (let z : ◌≡◌ {A = ℕ} 0 1 = cc in omega arith)

-- no limit is a missing value
pub no_limit : (queued issued : ℕ) → ¬ (limits queued issued ≡ some novalue)
unfolding limits
no_limit queued issued = go (leb 31 queued) (leb 65535 issued)
  where
    go : (a b : Bool) → ¬ (cond a (some Halt.tasks) (cond b (some Halt.spent) none) ≡ some novalue)
    go true b h = let z : ◌≡◌ {A = ℕ} 0 1 = cc in omega arith
    go false true h = let z : ◌≡◌ {A = ℕ} 0 1 = cc in omega arith
    go false false h = let z : ◌≡◌ {A = ℕ} 0 1 = cc in omega arith

module _ (r : Recipe) where
  act-bars : (q : List (Task ℕ)) (a : Act Store (Task ℕ) Event) (k : Halt) → next_act (recipes r) q a ≡ bar k → a ≡ halts k
  act-bars q (halts j) k e = let z : j ≡ k = cc in ap halts z
  act-bars q (does s new y x) k e = absurd (let z : ◌≡◌ {A = ℕ} 0 1 = cc in omega arith)

  -- the active task, and why its step is barred
  pub record Barred (c : State) (k : Halt) : Type 0 where
    pub task : Task ℕ
    pub acts : c.active ≡ some task
    pub why : Why r c.store c.queue task (at r task.place) k

  pub bars : (s : Store) (a : Option (Task ℕ)) (q : List (Task ℕ)) (k : Halt) → next (recipes r) (record { store = s; active = a; queue = q }) ≡ bar k → Barred (record { store = s; active = a; queue = q }) k
  bars s none [] k e = absurd (let z : ◌≡◌ {A = ℕ} 0 1 = cc in omega arith)
  bars s none (u ∷ q) k e = absurd (idle_no_bar (recipes r) s u q k e)
  bars s (some u) q k e = record { task = u; acts = refl; why = halts-why r s q u (at r u.place) k (act-bars q (act_at counting (start r) limits (at r u.place) s q u) k e) }

  lacking : (c : State) → next (recipes r) c ≡ bar novalue → Lacking r c
  lacking c h = go (bars c.store c.active c.queue novalue h)
    where
      by : (u : Task ℕ) {k : Halt} → c.active ≡ some u → k ≡ novalue → Why r c.store c.queue u (at r u.place) k → Lacking r c
      by u a n (lacks e p v) = record { task = u; expr = e; acts = a; needed = p; lacks = none_lacks (env_of c.store u) e v }
      by u a n (limited m p e l z i v f) = absurd (no_limit (length c.queue) c.store.issued (f ∙ ap some n))

      go : Barred c novalue → Lacking r c
      go x = by x.task x.acts refl x.why

  barred : (c : State) → Lacking r c → next (recipes r) c ≡ bar novalue
  barred c x =
      rw x.acts (ap (next_act (recipes r) c.queue) (lacking-halts counting (start r) limits (at r x.task.place) c.store c.queue x.task x.expr x.needed (lacks_none (env_of c.store x.task) x.lacks)))

  pub no_value_holds : (c : State) → NoValue r c
  no_value_holds c = record {
    no_value = λ v e. (none_lacks v e, lacks_none v);
    not_done = (lacking c, barred c);
    untrue = λ t e k h g. rw (h, lacks_none (env_of c.store t) g) refl;
  }

-- ---- the next call

module _ (R : Rules) (c : Config R) (k : Halt) (h : next R c ≡ bar k) where
  -- a call from a state whose step is barred
  pub no_budget : (room : ℕ) → run R 0 room c ≡ end paused c
  no_budget room = rw h refl

  pub some-budget : (b room : ℕ) → run R (suc b) room c ≡ end (halted k) c
  some-budget b room = rw h refl
