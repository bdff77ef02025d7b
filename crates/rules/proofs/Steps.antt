-- The recipe language keeps the laws of a task language, so demand 3 holds of it; and a step of an accepted state leaves an accepted one.
-- Assumes nothing.
use Prim.Native.Nat.{ℕ, suc, ◌+◌, ◌≤◌, ◌<◌}
use mathlib.Core.Path.{◌≡◌, refl, ap, subst}
use mathlib.Core.Bool.{Bool, true, false, cond}
use mathlib.Core.Option.{Option, none, some}
use mathlib.Core.List.{List, [], ◌∷◌, ◌++◌}
use native.Mathlib.Omega.{arith}
use lib.Dec.{eqb, leb}
use lib.IntN.{ℤ, pos}
use lib.ListN.{length, length-append}
use borrow.Author.Tests.{ne_eqb, le-leb, leb-false, lt-ltb}
use Rattle.rules.specs.Values.{in_range, truth}
use Rattle.rules.specs.Recipe.{Expr, Recipe, NamedE, Within, Env, write, value}
use Rattle.rules.specs.Places.{Point, nowhere, stop, skips, assigns, tests, spawns, suspends, awaits, guards, at, is_place, start}
use Rattle.rules.specs.State.{Kept, Task, Store, State, spawned_by, spawner_fits}
use Rattle.rules.specs.Log.{Event}
use Rattle.rules.specs.Scheduler.{Rules, Readiness, ready, waits_for, at_guard, Stay, on, back, over, Halt, Act, halts, does, is, Next, finish, jam, bar, goes, readiness, any_go, try_of, jam_or, next_act, stay, next, run, last}
use Rattle.rules.specs.Steps.{Limits, limits, valve_of, Keeping, counting, env_of, go_to, go_with, past_at, moves, needing, counted, spawn_at, act_at, machine, recipes}
use Rattle.rules.specs.Moments.{Call}
use Rattle.rules.specs.Fairness.{Every, Valid, Allowed, Demand3}
use Rattle.rules.proofs.Scheduling.Lawful.{Keeps, Sound, SoundAct, Lawful}
use Rattle.rules.proofs.Scheduling.Induction.{idle_c, busy_c}
use Rattle.rules.proofs.Scheduling.Along.{sound, valid_work, valid_took, valid_turned}
use Rattle.rules.proofs.Lists.{every_append, every_map}
use Rattle.rules.proofs.Numbers.{mag_range}
use Rattle.rules.proofs.Scheduling.Whole.{by_test}
use Rattle.rules.proofs.Scheduling.Demand.{demand_3}
use Rattle.rules.proofs.Fit.{StoreFit, TaskFit, Fit}
use Rattle.rules.proofs.NoValue.{needing_all}
use Rattle.rules.proofs.Places.{Leads, leads, start-place, place-bound}
use Rattle.rules.proofs.Ranges.{either, Fits, value-fits, EnvFit, write-fits}

pub is_le : (b : Bool) → is b ≤ 1
is_le true = omega arith
is_le false = omega arith

pub is-other : (a b : ℕ) → ¬ (a ≡ b) → is (eqb a b) ≡ 0
is-other a b n = ap is (ne_eqb a b n)

module _ {A H : Type 0} (keep : Keeping H) (see : A → Point A) (begin : ℕ → A) (full : Limits) where
  abbrev R : Rules
  R = machine keep see begin full

  past_num : (p : Point A) (t : Kept A H) → (past_at p t).number ≡ t.number
  past_num nowhere t = refl
  past_num stop t = refl
  past_num (skips k) t = refl
  past_num (assigns n e k) t = refl
  past_num (tests e k l) t = refl
  past_num (spawns n p e k) t = refl
  past_num (suspends k) t = refl
  past_num (awaits n k) t = refl
  past_num (guards e k) t = refl

  -- a step that spawns nothing
  quiet : (s s' : Store) (t : Kept A H) (y : Stay (Kept A H)) → s.issued ≡ s'.issued → Keeps R t y → Sound R s t s' [] y
  quiet s s' t y e k = record { keeps = k; grows = omega arith; once = λ i. omega arith; fresh = λ i h. refl; within = λ i h. refl }

  sound_spawn : (o : Option Halt) (s : Store) (t : Kept A H) (n : ℕ) (p : A) (z : ℤ) (k : A) → SoundAct R s t (spawn_at keep o s t n p z k)
  sound_spawn (some l) s t n p z k = tt
  sound_spawn none s t n p z k =
      let i' = suc s.issued in
      record { keeps = refl; grows = omega arith; once = λ i. omega (arith, is_le (eqb i i')); fresh = λ i h. omega (arith, is-other i i' (omega arith)); within = λ i h. omega (arith, is-other i i' (omega arith)) }

  sound_at : (p : Point A) (s : Store) (q : List (Kept A H)) (t : Kept A H) → SoundAct R s t (act_at keep begin full p s q t)
  sound_at nowhere s q t = quiet s s t over refl tt
  sound_at stop s q t = quiet s s t over refl tt
  sound_at (skips k) s q t = quiet s s t (on (go_to t k)) refl refl
  sound_at (assigns n e k) s q t =
      needing_all (SoundAct R s t) (value (env_of s t) e) (λ z. moves s.issued (write (env_of s t) n z) t k [] (valve_of t.number n z)) tt
      (λ z. let v = write (env_of s t) n z in quiet s (record { issued = s.issued; variables = v.variables }) t (on (go_with t v.parameter k)) refl refl)
  sound_at (tests e k l) s q t =
      needing_all (SoundAct R s t) (value (env_of s t) e) (λ z. does s [] (on (go_to t (cond (truth z) k l))) none) tt (λ z. quiet s s t (on (go_to t (cond (truth z) k l))) refl refl)
  sound_at (spawns n p e k) s q t =
      needing_all (SoundAct R s t) (value (env_of s t) e) (λ z. spawn_at keep (full (length q) s.issued) s t n (begin p) z k) tt (λ z. sound_spawn (full (length q) s.issued) s t n (begin p) z k)
  sound_at (suspends k) s q t = quiet s s t (back (go_to t k)) refl refl
  sound_at (awaits n k) s q t = quiet s s t (back t) refl refl
  sound_at (guards e k) s q t = quiet s s t (back t) refl refl

  pub lawful : Lawful (machine keep see begin full)
  lawful = record { up-num = λ t. past_num (see t.place) t; acts = λ s q t. sound_at (see t.place) s q t }

-- demand 3, for tasks at the places of a table
pub demand_of_recipes : (r : Recipe) (c : State) (cs : List Call) → Allowed (recipes r) c cs → Demand3 (recipes r) c cs
demand_of_recipes r = demand_3 (recipes r) (lawful counting (at r) (start r) limits)

-- a spawn that no limit stops has room for a task and a number
pub room : (queued issued : ℕ) → limits queued issued ≡ none → (queued < 31) × (issued < 65535)
unfolding limits
room queued issued h = go (leb 31 queued) (leb 65535 issued) refl refl h
  where
    go : (a b : Bool) → leb 31 queued ≡ a → leb 65535 issued ≡ b → cond a (some Halt.tasks) (cond b (some Halt.spent) none) ≡ none → (queued < 31) × (issued < 65535)
    go true b g h e = absurd (let z : ◌≡◌ {A = ℕ} 0 1 = cc in omega arith)
    go false true g h e = absurd (let z : ◌≡◌ {A = ℕ} 0 1 = cc in omega arith)
    go false false g h e = (leb-false 31 queued g, leb-false 65535 issued h)

module _ (r : Recipe) (w : Within r) where
  abbrev rules : Rules
  rules = recipes r

  L : Lawful rules
  L = lawful counting (at r) (start r) limits

  place-small : (k : ℕ) → is_place r k ≡ true → k < 65536
  place-small k h = omega (arith, place-bound r k h, w.few)

  -- a task that goes on
  moved : {s s' : Store} {t : Task ℕ} {z : ℤ} {k : ℕ} → s.issued ≤ s'.issued → TaskFit r s t → in_range z ≡ true → is_place r k ≡ true → TaskFit r s' (go_with t z k)
  moved {k = k} l f h g = record { from_one = f.from_one; was_issued = omega arith; placed = g; place-fits = place-small k g; parameter-fits = h; spawner-fits = f.spawner-fits; times-fit = f.times-fit }

  kept : {s s' : Store} {t : Task ℕ} → s.issued ≤ s'.issued → TaskFit r s t → TaskFit r s' t
  kept l f = moved l f f.parameter-fits f.placed

  past_fits : (p : Point ℕ) {s : Store} {t : Task ℕ} → Leads r p → TaskFit r s t → TaskFit r s (past_at p t)
  past_fits nowhere h f = f
  past_fits stop h f = f
  past_fits (skips k) h f = f
  past_fits (assigns n e k) h f = f
  past_fits (tests e k l) h f = f
  past_fits (spawns n p e k) h f = f
  past_fits (suspends k) h f = f
  past_fits (awaits n k) h f = moved (omega arith) f f.parameter-fits h.1
  past_fits (guards e k) h f = moved (omega arith) f f.parameter-fits h.1

  -- a task that is taken up
  counted_fits : {s : Store} {t : Task ℕ} → TaskFit r s t → TaskFit r s (counted counting t)
  counted_fits f = record {
    from_one = f.from_one;
    was_issued = f.was_issued;
    placed = f.placed;
    place-fits = f.place-fits;
    parameter-fits = f.parameter-fits;
    spawner-fits = f.spawner-fits;
    times-fit = omega arith;
  }

  -- a task's number as that of the spawner of the next one
  spawns-next : {s : Store} {t : Task ℕ} → TaskFit r s t → spawner_fits (suc s.issued) t.number ≡ true
  unfolding spawner_fits
  spawns-next {s} {t} f =
      rw (
        ne_eqb (suc s.issued) 1 (omega (arith, f.from_one, f.was_issued)),
        le-leb 1 t.number f.from_one,
        lt-ltb t.number (suc s.issued) (omega (arith, f.was_issued)),
      )

  -- what the acting task leaves
  abbrev StayFit : Store → Stay (Task ℕ) → Type 0
  StayFit s (on t) = TaskFit r s t
  StayFit s (back t) = TaskFit r s t
  StayFit s over = Unit {0}

  record DoesFit (q : List (Task ℕ)) (s : Store) (new : List (Task ℕ)) (y : Stay (Task ℕ)) : Type 0 where
    store-fits : StoreFit s
    new-few : length q + length new ≤ 31
    new_fit : Every (TaskFit r s) new
    stay-fits : StayFit s y

  abbrev ActFit : List (Task ℕ) → Act Store (Task ℕ) Event → Type 0
  ActFit q (halts l) = Unit {0}
  ActFit q (does s new y x) = DoesFit q s new y

  module _ (s : Store) (q : List (Task ℕ)) (t : Task ℕ) (g : StoreFit s) (f : TaskFit r s t) (few : length q ≤ 31) where
    quiet_fits : (y : Stay (Task ℕ)) → StayFit s y → DoesFit q s [] y
    quiet_fits y h = record { store-fits = g; new-few = omega arith; new_fit = tt; stay-fits = h }

    went : (k : ℕ) → is_place r k ≡ true → TaskFit r s (go_to t k)
    went k h = moved (omega arith) f f.parameter-fits h

    -- what is done with the value of an expression, if it has one
    needing-fits : (e : Expr) → NamedE e → (k : ℤ → Act Store (Task ℕ) Event) → ((z : ℤ) → in_range z ≡ true → ActFit q (k z)) → ActFit q (needing (value (env_of s t) e) k)
    needing-fits e h k fits = go (value (env_of s t) e) (value-fits (env_of s t) e h g.variables_fit f.parameter-fits)
      where
        go : (o : Option ℤ) → Fits o → ActFit q (needing o k)
        go none i = tt
        go (some z) i = fits z i

    written : (n : ℕ) (z : ℤ) → in_range z ≡ true → EnvFit 64 (write (env_of s t) n z)
    written n z h = write-fits 64 (env_of s t) n z (record { all_variables = g.all_variables; variables_fit = g.variables_fit; parameter-fits = f.parameter-fits }) h

    -- (whatever event the step writes)
    moves-fits : (i : ℕ) (v : Env) (k : ℕ) (new : List (Task ℕ)) → s.issued ≤ i → i < 65536 → EnvFit 64 v → is_place r k ≡ true → length q + length new ≤ 31
        → Every (TaskFit r (record { issued = i; variables = v.variables })) new → ActFit q (moves i v t k new none)
    moves-fits i v k new l m h j few' fits = record {
      store-fits = record { some-issued = omega (arith, g.some-issued); issued-fits = m; all_variables = h.all_variables; variables_fit = h.variables_fit };
      new-few = few';
      new_fit = fits;
      stay-fits = moved l f h.parameter-fits j;
    }

    spawn-fits : (o : Option Halt) (n p : ℕ) (z : ℤ) (k : ℕ) → limits (length q) s.issued ≡ o → is_place r p ≡ true → in_range z ≡ true → is_place r k ≡ true → ActFit q (spawn_at counting o s t n p z k)
    spawn-fits (some l) n p z k e h i j = tt
    spawn-fits none n p z k e h i j =
        let (a, b) = room (length q) s.issued e in
        let new : Task ℕ = record { number = suc s.issued; place = p; parameter = z; history = spawned_by t.number } in
        moves-fits (suc s.issued) (write (env_of s t) n (pos (suc s.issued))) k (new ∷ []) (omega arith) (omega arith)
        (written n (pos (suc s.issued)) (mag_range (pos (suc s.issued)) (omega arith))) j (omega arith)
        (record { from_one = omega arith; was_issued = omega arith; placed = h; place-fits = place-small p h; parameter-fits = i; spawner-fits = spawns-next f; times-fit = omega arith }, tt)

    act-fits : (p : Point ℕ) → Leads r p → ActFit q (act_at counting (start r) limits p s q t)
    act-fits nowhere h = quiet_fits over tt
    act-fits stop h = quiet_fits over tt
    act-fits (skips k) h = quiet_fits (on (go_to t k)) (went k h)
    act-fits (assigns n e k) h =
        needing-fits e h.1 (λ z. moves s.issued (write (env_of s t) n z) t k [] (valve_of t.number n z))
        (λ z i. moves-fits s.issued (write (env_of s t) n z) k [] (omega arith) g.issued-fits (written n z i) h.2 (omega arith) tt)
    act-fits (tests e k l) h =
        needing-fits e h.0 (λ z. does s [] (on (go_to t (cond (truth z) k l))) none)
        (λ z i. quiet_fits (on (go_to t (cond (truth z) k l))) (went _ (either (λ (k : ℕ). is_place r k ≡ true) (truth z) h.1 h.2)))
    act-fits (spawns n p e k) h =
        needing-fits e h.3 (λ z. spawn_at counting (limits (length q) s.issued) s t n (start r p) z k)
        (λ z i. spawn-fits (limits (length q) s.issued) n (start r p) z k refl (start-place r w p h.2) i h.4)
    act-fits (suspends k) h = quiet_fits (back (go_to t k)) (went k h)
    act-fits (awaits n k) h = quiet_fits (back t) f
    act-fits (guards e k) h = quiet_fits (back t) f

  abbrev NextFit : Next rules → Type 0
  NextFit finish = Unit {0}
  NextFit jam = Unit {0}
  NextFit (bar l) = Unit {0}
  NextFit (goes x c) = Fit r c

  jam-fits : (b : Bool) (y : Next rules) → NextFit y → NextFit (jam_or rules b y)
  jam-fits true y h = h
  jam-fits false y h = tt

  turn-fits : (s : Store) (t : Task ℕ) (q : List (Task ℕ)) → Fit r (idle_c rules s (t ∷ q)) → Fit r (idle_c rules s (q ++ (t ∷ [])))
  turn-fits s t q f = record {
    store-fits = f.store-fits;
    few = rw length-append (omega (arith, f.few));
    tasks_fit = every_append (TaskFit r s) q (t ∷ []) f.tasks_fit.1 (f.tasks_fit.0, tt);
    valid = valid_turned rules L s t q f.valid;
  }

  try_fits : (v : Readiness) (s : Store) (t : Task ℕ) (q : List (Task ℕ)) → Fit r (idle_c rules s (t ∷ q)) → NextFit (try_of rules v (idle_c rules s (t ∷ q)) t q)
  try_fits ready s t q f = record {
    store-fits = f.store-fits;
    few = f.few;
    tasks_fit = (counted_fits (past_fits (at r t.place) (leads r w t.place) f.tasks_fit.0), f.tasks_fit.1);
    valid = valid_took rules L s t q f.valid;
  }
  try_fits (waits_for z) s t q f = turn-fits s t q f
  try_fits at_guard s t q f = turn-fits s t q f

  -- the new state, its tasks besides the acting one being these
  stay_fit : (s : Store) (q : List (Task ℕ)) (y : Stay (Task ℕ)) → StoreFit s → length q ≤ 31 → Every (TaskFit r s) q → StayFit s y → Valid rules (stay rules s q y) → Fit r (stay rules s q y)
  stay_fit s q (on t) g l e h v = record { store-fits = g; few = omega arith; tasks_fit = (h, e); valid = v }
  stay_fit s q (back t) g l e h v = record { store-fits = g; few = rw length-append (omega arith); tasks_fit = every_append (TaskFit r s) q (t ∷ []) e (h, tt); valid = v }
  stay_fit s q over g l e h v = record { store-fits = g; few = omega arith; tasks_fit = e; valid = v }

  work_fits : (s : Store) (t : Task ℕ) (q : List (Task ℕ)) → Fit r (busy_c rules s t q) → (a : Act Store (Task ℕ) Event) → rules.act s q t ≡ a → ActFit q a → NextFit (next_act rules q a)
  work_fits s t q f (halts l) e h = tt
  work_fits s t q f (does s' new y x) e h =
      let grown : s.issued ≤ s'.issued = (sound rules L s q t s' new y x e).grows in
      stay_fit s' (q ++ new) y h.store-fits (rw length-append h.new-few)
      (every_append (TaskFit r s') q new (every_map (TaskFit r s) (TaskFit r s') (λ u k. kept grown k) q f.tasks_fit.1) h.new_fit)
      h.stay-fits (valid_work rules L s t q s' new y x e f.valid)

  next_fits : (s : Store) (a : Option (Task ℕ)) (q : List (Task ℕ)) → Fit r (record { store = s; active = a; queue = q }) → NextFit (next rules (record { store = s; active = a; queue = q }))
  next_fits s none [] f = tt
  next_fits s none (t ∷ q) f = let c = idle_c rules s (t ∷ q) in jam-fits (any_go rules c (t ∷ q)) (try_of rules (readiness rules c t) c t q) (try_fits (readiness rules c t) s t q f)
  next_fits s (some t) q f = work_fits s t q f (rules.act s q t) refl (act-fits s q t f.store-fits f.tasks_fit.0 (omega (arith, f.few)) (at r t.place) (leads r w t.place))

-- "A step takes the whole state and hands back the whole new state": an accepted one, of an accepted one
pub step_fits : (r : Recipe) → Within r → (c c' : State) (x : Option Event) → Fit r c → next (recipes r) c ≡ goes x c' → Fit r c'
step_fits r w c c' x f e = subst (λ y. NextFit r w y) e (next_fits r w c.store c.active c.queue f)

-- so a run call leaves an accepted state
pub run_fits : (r : Recipe) → Within r → (b k : ℕ) (c : State) → Fit r c → Fit r (last (recipes r) (run (recipes r) b k c))
run_fits r w = by_test (recipes r) (λ b k c u. Fit r c → Fit r (last (recipes r) u))
    (λ b k c e h f. f)
    (λ b k c x c' h l ih f. ih (step_fits r w c c' x f h))
