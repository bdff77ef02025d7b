-- What the logs of a list of run calls tell of each live task is its history.
-- Assumes nothing.
use Prim.Native.Nat.{ℕ, suc, ◌+◌, ◌≤◌, ◌<◌, min}
use mathlib.Core.Path.{◌≡◌, refl, sym, ap, ◌∙◌, subst}
use mathlib.Core.Bool.{Bool, true, false, ◌&&◌, cond}
use mathlib.Core.Option.{Option, none, some}
use mathlib.Core.List.{List, [], ◌∷◌, ◌++◌, map, append_assoc, append-nil}
use native.Mathlib.Omega.{arith}
use lib.Dec.{eqb, ltb}
use lib.IntN.{ℤ, pos}
use lib.ListN.{length, get_or, drop}
use borrow.Author.Tests.{eq-eqb, ne_eqb, ltb-true}
use Rattle.rules.specs.Fields.{half, word, bits}
use Rattle.rules.specs.Recipe.{Recipe, Within, row, write, value}
use Rattle.rules.specs.Table.{fine, check, recipe_of}
use Rattle.rules.specs.Places.{Point, nowhere, stop, skips, assigns, tests, spawns, suspends, awaits, guards, at, start}
use Rattle.rules.specs.State.{Task, Store, live, State, largest, spawned_by, fresh, joined, read_block, head_row, task_row, write_block}
use Rattle.rules.specs.Log.{Event, spawned, taken, gave, waits, turned, ended, valve, event_row, log_bytes}
use Rattle.rules.specs.Scheduler.{Readiness, ready, waits_for, at_guard, no_number, Stay, on, back, over, Halt, Act, halts, does, is, count, Next, finish, jam, bar, goes, readiness, any_go, try_of, jam_or, next_act, stay, next, log_of}
use Rattle.rules.specs.Values.{truth}
use Rattle.rules.specs.Steps.{limits, valve_of, counting, env_of, go_to, go_with, past_at, moves, counted, spawn_at, act_at, recipes}
use Rattle.rules.specs.Run.{Opened, opens, start_on, open_on, run_on}
use Rattle.rules.specs.Moments.{Does, made, ends, Moment, trace, finally}
use Rattle.rules.specs.Fairness.{Every, only, Valid, record_by, records, LinkedBy, Linked}
use Rattle.rules.specs.Demand.{Bytes, Given, outcomes, last_block, calls, times, AllRun, DemandOf, Made, Chained}
use Rattle.rules.specs.Histories.{takes, starters, Recorded, block_behind, Histories, HistoriesFromFresh}
use Rattle.rules.proofs.Answers.{fresh-accepted}
use Rattle.rules.proofs.Blocks.{read-write}
use Rattle.rules.proofs.Demand.{open_fits, demand, chain-results}
use Rattle.rules.proofs.Fit.{TaskFit, Fit}
use Rattle.rules.proofs.Lists.{every_append, every_map}
use Rattle.rules.proofs.NoValue.{needing_all}
use Rattle.rules.proofs.Numbers.{half-bytes2, word-bytes4, Byte, every-bytes}
use Rattle.rules.proofs.Says.{start-says}
use Rattle.rules.proofs.Scheduling.Induction.{idle_c}
use Rattle.rules.proofs.Scheduling.Along.{stay-store}
use Rattle.rules.proofs.Steps.{is-other, step_fits}
use Rattle.rules.proofs.Verdicts.{and_true}

-- ---- records behind one another

takes_more : (xs ys : List Event) → takes (xs ++ ys) ≡ takes xs ++ takes ys
takes_more [] ys = refl
takes_more (taken t ∷ xs) ys = rw (takes_more xs ys) refl
takes_more (spawned t n ∷ xs) ys = rw (takes_more xs ys) refl
takes_more (gave t ∷ xs) ys = rw (takes_more xs ys) refl
takes_more (waits t z ∷ xs) ys = rw (takes_more xs ys) refl
takes_more (turned t z ∷ xs) ys = rw (takes_more xs ys) refl
takes_more (ended t ∷ xs) ys = rw (takes_more xs ys) refl
takes_more (valve t v z ∷ xs) ys = rw (takes_more xs ys) refl

times_more : (n : ℕ) (l k : List ℕ) → times n (l ++ k) ≡ times n l + times n k
times_more n [] k = omega arith
times_more n (m ∷ l) k = omega (arith, times_more n l k)

starters_more : (n : ℕ) (xs ys : List Event) → starters n (xs ++ ys) ≡ starters n xs ++ starters n ys
starters_more n [] ys = refl
starters_more n (spawned t m ∷ xs) ys = rw (starters_more n xs ys) (sym (append_assoc _ (starters n xs) (starters n ys)))
starters_more n (taken t ∷ xs) ys = starters_more n xs ys
starters_more n (gave t ∷ xs) ys = starters_more n xs ys
starters_more n (waits t z ∷ xs) ys = starters_more n xs ys
starters_more n (turned t z ∷ xs) ys = starters_more n xs ys
starters_more n (ended t ∷ xs) ys = starters_more n xs ys
starters_more n (valve t v z ∷ xs) ys = starters_more n xs ys

-- ---- one step

-- how often these records take the task n up
abbrev taken_in : ℕ → List Event → ℕ
taken_in n xs = times n (takes xs)

taken_more : (n : ℕ) (xs ys : List Event) → taken_in n (xs ++ ys) ≡ taken_in n xs + taken_in n ys
taken_more n xs ys = ap (times n) (takes_more xs ys) ∙ times_more n (takes xs) (takes ys)

-- these records tell nothing of the task n
pub record Silent (n : ℕ) (ys : List Event) : Type 0 where
  not_taken : taken_in n ys ≡ 0
  not_spawned : starters n ys ≡ []

-- the same task with the same history
record Same (t u : Task ℕ) : Type 0 where
  number : u.number ≡ t.number
  history : u.history ≡ t.history

itself : {t : Task ℕ} → Same t t
itself = record { number = refl; history = refl }

silent_told : (xs ys : List Event) (t u : Task ℕ) → Same t u → Silent t.number ys → Recorded xs t → Recorded (xs ++ ys) u
silent_told xs ys t u e s h =
    record {
      count = rw (e.history, e.number, taken_more t.number xs ys, s.not_taken, h.count) (ap (λ (n : ℕ). min n largest) (omega arith));
      starter = rw (e.history, e.number, starters_more t.number xs ys, s.not_spawned, append-nil (starters t.number xs)) h.starter;
    }

-- one more of a number that stays at the largest
raised_is : (k m : ℕ) → k ≡ min m largest → min (suc k) largest ≡ min (m + 1) largest
raised_is k m h = omega arith

-- what becomes of the task that acted
abbrev Staying : Task ℕ → Stay (Task ℕ) → Type 0
Staying t (on u) = Same t u
Staying t (back u) = Same t u
Staying t over = Unit {0}

-- a step of the task t behind the records xs, with the number i as the highest: what it writes tells of no task but those that it spawns
record Acts (xs : List Event) (i : ℕ) (t : Task ℕ) (i' : ℕ) (new : List (Task ℕ)) (y : Stay (Task ℕ)) (x : Option Event) : Type 0 where
  stays : Staying t y
  grows : i ≤ i'
  others : (n : ℕ) → n ≤ i → Silent n (log_of x)
  spawns_told : ((n : ℕ) → i < n → Silent n xs) → Every (Recorded (xs ++ log_of x)) new
  later : (n : ℕ) → i' < n → Silent n (log_of x)

abbrev ActTells : List Event → ℕ → Task ℕ → Act Store (Task ℕ) Event → Type 0
ActTells xs i t (halts l) = Unit {0}
ActTells xs i t (does s new y x) = Acts xs i t s.issued new y x

-- a step that spawns nothing and takes nothing up
quiet : (xs : List Event) (i : ℕ) (t : Task ℕ) (y : Stay (Task ℕ)) (x : Option Event) → Staying t y → ((n : ℕ) → Silent n (log_of x)) → Acts xs i t i [] y x
quiet xs i t y x g h = record { stays = g; grows = omega arith; others = λ n l. h n; spawns_told = λ f. tt; later = λ n l. h n }

same : {t : Task ℕ} {z : ℤ} {k : ℕ} → Same t (go_with t z k)
same = record { number = refl; history = refl }

valve_silent : (t v : ℕ) (z : ℤ) (n : ℕ) → Silent n (log_of (valve_of t v z))
unfolding valve_of
valve_silent t v z n = go (ltb v 8)
  where
    go : (b : Bool) → Silent n (log_of (cond b (some (valve t v z)) none))
    go true = record { not_taken = refl; not_spawned = refl }
    go false = record { not_taken = refl; not_spawned = refl }

own : (n : ℕ) → eqb n n ≡ true
own n = eq-eqb n n refl

-- the record of a spawn names its new number alone
only-other : {A : Type 0} (l : List A) (n m : ℕ) → ¬ (n ≡ m) → only (eqb n m) l ≡ []
only-other l n m h = rw (ne_eqb n m h) refl

spawned_silent : (t m n : ℕ) → ¬ (n ≡ m) → Silent n (spawned t m ∷ [])
spawned_silent t m n h = record { not_taken = refl; not_spawned = append-nil (only (eqb n m) (t ∷ [])) ∙ only-other (t ∷ []) n m h }

-- a task as it is spawned
born_told : (xs : List Event) (s m : ℕ) (u : Task ℕ) → u.number ≡ m → u.history ≡ spawned_by s → Silent m xs → Recorded (xs ++ spawned s m ∷ []) u
born_told xs s m u e f h =
    record {
      count = rw (f, e, taken_more m xs (spawned s m ∷ []), h.not_taken) refl;
      starter = rw (f, e, starters_more m xs (spawned s m ∷ []), h.not_spawned, own m) refl;
    }

spawn_tells : (xs : List Event) (o : Option Halt) (s : Store) (t : Task ℕ) (n p : ℕ) (z : ℤ) (k : ℕ) → ActTells xs s.issued t (spawn_at counting o s t n p z k)
spawn_tells xs (some l) s t n p z k = tt
spawn_tells xs none s t n p z k =
    let i = suc s.issued in
    record {
      stays = same;
      grows = omega arith;
      others = λ m l. spawned_silent t.number i m (omega arith);
      spawns_told = λ f. (born_told xs t.number i _ refl refl (f i (omega arith)), tt);
      later = λ m l. spawned_silent t.number i m (omega arith);
    }

module _ (r : Recipe) (xs : List Event) where
  act_tells : (p : Point ℕ) (s : Store) (q : List (Task ℕ)) (t : Task ℕ) → ActTells xs s.issued t (act_at counting (start r) limits p s q t)
  act_tells nowhere s q t = quiet xs s.issued t over _ tt (λ n. record { not_taken = refl; not_spawned = refl })
  act_tells stop s q t = quiet xs s.issued t over _ tt (λ n. record { not_taken = refl; not_spawned = refl })
  act_tells (skips k) s q t = quiet xs s.issued t (on (go_to t k)) _ same (λ n. record { not_taken = refl; not_spawned = refl })
  act_tells (assigns v e k) s q t =
      needing_all (ActTells xs s.issued t) (value (env_of s t) e) (λ z. moves s.issued (write (env_of s t) v z) t k [] (valve_of t.number v z)) tt
      (λ z. quiet xs s.issued t _ _ same (valve_silent t.number v z))
  act_tells (tests e k l) s q t =
      needing_all (ActTells xs s.issued t) (value (env_of s t) e) (λ z. does s [] (on (go_to t (cond (truth z) k l))) none) tt
      (λ z. quiet xs s.issued t _ _ same (λ n. record { not_taken = refl; not_spawned = refl }))
  act_tells (spawns v p e k) s q t =
      needing_all (ActTells xs s.issued t) (value (env_of s t) e) (λ z. spawn_at counting (limits (length q) s.issued) s t v (start r p) z k) tt
      (λ z. spawn_tells xs (limits (length q) s.issued) s t v (start r p) z k)
  act_tells (suspends k) s q t = quiet xs s.issued t (back (go_to t k)) _ same (λ n. record { not_taken = refl; not_spawned = refl })
  act_tells (awaits v k) s q t = quiet xs s.issued t (back t) _ same (λ n. record { not_taken = refl; not_spawned = refl })
  act_tells (guards e k) s q t = quiet xs s.issued t (back t) _ same (λ n. record { not_taken = refl; not_spawned = refl })

-- ---- the state

-- what these records tell of the live tasks is their history, and they tell of no number not issued
pub record Told (xs : List Event) (c : State) : Type 0 where
  each : Every (Recorded xs) (live c)
  later : (n : ℕ) → c.store.issued < n → Silent n xs

silent_more : {n : ℕ} {xs ys : List Event} → Silent n xs → Silent n ys → Silent n (xs ++ ys)
silent_more {n} {xs} {ys} h g =
    record {
      not_taken = omega (arith, taken_more n xs ys, h.not_taken, g.not_taken);
      not_spawned = rw (starters_more n xs ys, h.not_spawned, g.not_spawned) refl;
    }

-- tasks of whose numbers ys tells nothing
others_told : (xs ys : List Event) (q : List (Task ℕ)) → Every (λ u. Silent u.number ys) q → Every (Recorded xs) q → Every (Recorded (xs ++ ys)) q
others_told xs ys [] s h = tt
others_told xs ys (u ∷ q) s h = (silent_told xs ys u u itself s.0 h.0, others_told xs ys q s.1 h.1)

past_same : (p : Point ℕ) (t : Task ℕ) → Same t (past_at p t)
past_same nowhere t = itself
past_same stop t = itself
past_same (skips k) t = itself
past_same (assigns n e k) t = itself
past_same (tests e k l) t = itself
past_same (spawns n p e k) t = itself
past_same (suspends k) t = itself
past_same (awaits n k) t = same {z = t.parameter}
past_same (guards e k) t = same {z = t.parameter}

taken_silent : (n m : ℕ) → ¬ (n ≡ m) → Silent n (taken m ∷ [])
taken_silent n m h = record { not_taken = omega (arith, is-other n m h); not_spawned = refl }

-- a task as it is taken up
up_told : (xs : List Event) (t u : Task ℕ) → Same t u → Recorded xs t → Recorded (xs ++ taken t.number ∷ []) (counted counting u)
up_told xs t u e h =
    let n = taken_more t.number xs (taken t.number ∷ []) ∙ ap (λ (b : Bool). taken_in t.number xs + (is b + 0)) (own t.number) in
    record {
      count = rw (e.history, e.number, n) (raised_is t.history.taken_up (taken_in t.number xs) h.count);
      starter = rw (e.history, e.number, starters_more t.number xs (taken t.number ∷ []), append-nil (starters t.number xs)) h.starter;
    }

module _ (r : Recipe) (xs : List Event) where
  -- the number t is no other task's
  alone : (n : ℕ) (q : List (Task ℕ)) → count (recipes r) n q ≡ 0 → Every (λ u. Silent u.number (taken n ∷ [])) q
  alone n [] h = tt
  alone n (u ∷ q) h =
      let differ : ¬ (u.number ≡ n) = λ e. (let i : is (eqb n u.number) ≡ 1 = rw (e, own n) refl in omega (arith, i, h)) in
      (taken_silent u.number n differ, alone n q (omega (arith, h)))

  -- the numbers of live tasks were issued
  older : (ys : List Event) (q : List (Task ℕ)) (s : Store) → Every (TaskFit r s) q → ((n : ℕ) → n ≤ s.issued → Silent n ys)
      → Every (λ u. Silent u.number ys) q
  older ys q s f h = every_map (TaskFit r s) (λ u. Silent u.number ys) (λ u k. h u.number k.was_issued) q f

  abbrev NextTells : Next (recipes r) → Type 0
  NextTells finish = Unit {0}
  NextTells jam = Unit {0}
  NextTells (bar k) = Unit {0}
  NextTells (goes x c) = Told (xs ++ log_of x) c

  turn_told : (s : Store) (t : Task ℕ) (q : List (Task ℕ)) (z : ℤ) → Told xs (idle_c (recipes r) s (t ∷ q))
      → Told (xs ++ turned t.number z ∷ []) (idle_c (recipes r) s (q ++ t ∷ []))
  turn_told s t q z h =
      let ys = turned t.number z ∷ [] in
      let quiet : (n : ℕ) → Silent n ys = λ n. record { not_taken = refl; not_spawned = refl } in
      let told = λ (u : Task ℕ) (k : Recorded xs u). silent_told xs ys u u itself (quiet u.number) k in
      record {
        each = every_append (Recorded (xs ++ ys)) q (t ∷ []) (every_map (Recorded xs) (Recorded (xs ++ ys)) told q h.each.1) (told t h.each.0, tt);
        later = λ n l. silent_more (h.later n l) (quiet n);
      }

  -- the try of the front: what it writes tells of this task alone
  try_tells : (v : Readiness) (b : Bool) (s : Store) (t : Task ℕ) (q : List (Task ℕ)) → Valid (recipes r) (idle_c (recipes r) s (t ∷ q))
      → Told xs (idle_c (recipes r) s (t ∷ q))
      → NextTells (jam_or (recipes r) b (try_of (recipes r) v (idle_c (recipes r) s (t ∷ q)) t q))
  try_tells v false s t q w h = tt
  try_tells ready true s t q w h =
      let n = t.number in
      let self : is (eqb n n) ≡ 1 = rw (own n) refl in
      let one : is (eqb n n) + count (recipes r) n q ≤ 1 = w.differ n in
      let issued : (m : ℕ) → s.issued < m → ¬ (m ≡ n) = λ m l e. (let none : count (recipes r) n (t ∷ q) ≡ 0 = w.below n (rw (← e) l) in omega (arith, none, self)) in
      record {
        each = (
          up_told xs t (past_at (at r t.place) t) (past_same (at r t.place) t) h.each.0,
          others_told xs (taken n ∷ []) q (alone n q (omega (arith, self, one))) h.each.1,
        );
        later = λ m l. silent_more (h.later m l) (taken_silent m n (issued m l));
      }
  try_tells (waits_for z) true s t q w h = turn_told s t q z h
  try_tells at_guard true s t q w h = turn_told s t q no_number h

  stay_told : (ys : List Event) (s : Store) (l : List (Task ℕ)) (t : Task ℕ) (y : Stay (Task ℕ)) → Staying t y → Recorded xs t → Silent t.number ys
      → Every (Recorded (xs ++ ys)) l
      → Every (Recorded (xs ++ ys)) (live (stay (recipes r) s l y))
  stay_told ys s l t (on u) e h g f = (silent_told xs ys t u e g h, f)
  stay_told ys s l t (back u) e h g f = every_append (Recorded (xs ++ ys)) l (u ∷ []) f (silent_told xs ys t u e g h, tt)
  stay_told ys s l t over e h g f = f

  work_tells : (s : Store) (t : Task ℕ) (q : List (Task ℕ)) → Every (TaskFit r s) (t ∷ q) → Told xs (record { store = s; active = some t; queue = q })
      → (a : Act Store (Task ℕ) Event) → ActTells xs s.issued t a → NextTells (next_act (recipes r) q a)
  work_tells s t q f h (halts k) g = tt
  work_tells s t q f h (does s' new y x) g =
      let ys = log_of x in
      record {
        each =
            stay_told ys s' (q ++ new) t y g.stays h.each.0 (g.others t.number f.0.was_issued)
            (every_append (Recorded (xs ++ ys)) q new (others_told xs ys q (older ys q s f.1 g.others) h.each.1) (g.spawns_told h.later));
        later = rw (stay-store (recipes r) s' (q ++ new) y) (λ n l. silent_more (h.later n (omega (arith, g.grows))) (g.later n l));
      }

  next_tells : (s : Store) (a : Option (Task ℕ)) (q : List (Task ℕ)) → let c : State = record { store = s; active = a; queue = q } in
      Fit r c → Told xs c → NextTells (next (recipes r) c)
  next_tells s none [] f h = tt
  next_tells s none (t ∷ q) f h =
      let c = idle_c (recipes r) s (t ∷ q) in
      try_tells (readiness (recipes r) c t) (any_go (recipes r) c (t ∷ q)) s t q f.valid h
  next_tells s (some t) q f h = work_tells s t q f.tasks_fit h (act_at counting (start r) limits (at r t.place) s q t) (act_tells r xs (at r t.place) s q t)

  step_tells : (c c' : State) (x : Option Event) → Fit r c → Told xs c → next (recipes r) c ≡ goes x c' → Told (xs ++ log_of x) c'
  step_tells c c' x f h e = subst NextTells e (next_tells c.store c.active c.queue f h)

-- ---- the steps of a list of calls

module _ (r : Recipe) (w : Within r) where
  -- an accepted state with its records
  record Reached (xs : List Event) (c : State) : Type 0 where
    fit : Fit r c
    told : Told xs c

  along : (ms : List (Moment (recipes r))) (c c' : State) (xs : List Event) → Linked (recipes r) ms c c' → Reached xs c → Reached (xs ++ records (recipes r) ms) c'
  along [] c c' xs l h = rw append-nil (subst (Reached xs) l h)
  along (m ∷ ms) c c' xs l h = go m.what l.1 (λ d ys k g. along ms d c' ys k g)
    where
      go : (x : Does (recipes r)) → LinkedBy (recipes r) x (λ d. Linked (recipes r) ms d c') c
          → ((d : State) (ys : List Event) → Linked (recipes r) ms d c' → Reached ys d → Reached (ys ++ records (recipes r) ms) c')
          → Reached (xs ++ (record_by (recipes r) x ++ records (recipes r) ms)) c'
      go (ends e) k ih = ih c xs k h
      go (made x) (d, e, k) ih =
          subst (λ (l : List Event). Reached l c') (append_assoc xs (log_of x) (records (recipes r) ms))
          (ih d (xs ++ log_of x) k (record { fit = step_fits r w c d x h.fit e; told = step_tells r xs c d x h.fit h.told e }))

-- ---- the bytes of records

-- the fields of a record
abbrev kind : Event → ℕ
kind (spawned t n) = 1
kind (taken t) = 2
kind (gave t) = 3
kind (waits t z) = 4
kind (turned t z) = 5
kind (ended t) = 6
kind (valve t v z) = 7

abbrev name : Event → ℕ
name (spawned t n) = 0
name (taken t) = 0
name (gave t) = 0
name (waits t z) = 0
name (turned t z) = 0
name (ended t) = 0
name (valve t v z) = v

abbrev acting : Event → ℕ
acting (spawned t n) = t
acting (taken t) = t
acting (gave t) = t
acting (waits t z) = t
acting (turned t z) = t
acting (ended t) = t
acting (valve t v z) = t

abbrev carried : Event → ℤ
carried (spawned t n) = pos n
carried (taken t) = pos 0
carried (gave t) = pos 0
carried (waits t z) = z
carried (turned t z) = z
carried (ended t) = pos 0
carried (valve t v z) = z

row_is : (x : Event) → event_row x ≡ row (kind x) (name x) (acting x) (carried x)
unfolding event_row
row_is (spawned t n) = refl
row_is (taken t) = refl
row_is (gave t) = refl
row_is (waits t z) = refl
row_is (turned t z) = refl
row_is (ended t) = refl
row_is (valve t v z) = refl

in_front : (x : Event) (l : List ℕ) → event_row x ++ l ≡ row (kind x) (name x) (acting x) (carried x) ++ l
in_front x l = ap (λ (k : List ℕ). k ++ l) (row_is x)

-- what is asked of a record is read from its kind, its task and its value
taken_is : (x : Event) (xs : List Event) → takes (x ∷ xs) ≡ only (eqb (kind x) 2) (acting x ∷ []) ++ takes xs
taken_is (spawned t n) xs = refl
taken_is (taken t) xs = refl
taken_is (gave t) xs = refl
taken_is (waits t z) xs = refl
taken_is (turned t z) xs = refl
taken_is (ended t) xs = refl
taken_is (valve t v z) xs = refl

starter_is : (n : ℕ) (x : Event) (xs : List Event) → starters n (x ∷ xs) ≡ only (eqb (kind x) 1) (only (eqb n (bits (carried x))) (acting x ∷ [])) ++ starters n xs
starter_is n (spawned t m) xs = refl
starter_is n (taken t) xs = refl
starter_is n (gave t) xs = refl
starter_is n (waits t z) xs = refl
starter_is n (turned t z) xs = refl
starter_is n (ended t) xs = refl
starter_is n (valve t v z) xs = refl

record SameTold (xs ys : List Event) : Type 0 where
  taken_same : takes xs ≡ takes ys
  starters_same : (n : ℕ) → starters n xs ≡ starters n ys

-- records of the same bytes tell the same
same_told : (xs ys : List Event) → log_bytes xs ≡ log_bytes ys → SameTold xs ys
unfolding log_bytes
same_told [] [] e = record { taken_same = refl; starters_same = λ n. refl }
same_told [] (y ∷ ys) e = absurd (omega (arith, ap length (e ∙ in_front y (log_bytes ys))))
same_told (x ∷ xs) [] e = absurd (omega (arith, ap length (sym (in_front x (log_bytes xs)) ∙ e)))
same_told (x ∷ xs) (y ∷ ys) e =
    let f = sym (in_front x (log_bytes xs)) ∙ e ∙ in_front y (log_bytes ys) in
    let k : kind x ≡ kind y = ap (λ (l : List ℕ). get_or l 0 0) f in
    let a : acting x ≡ acting y = sym (half-bytes2 (acting x)) ∙ ap (λ (l : List ℕ). half l 2) f ∙ half-bytes2 (acting y) in
    let v : bits (carried x) ≡ bits (carried y) = sym (word-bytes4 (bits (carried x))) ∙ ap (λ (l : List ℕ). word l 4) f ∙ word-bytes4 (bits (carried y)) in
    let d = same_told xs ys (ap (drop 8) f) in
    record {
      taken_same = taken_is x xs ∙ rw (k, a, d.taken_same) (sym (taken_is y ys));
      starters_same = λ n. starter_is n x xs ∙ rw (k, a, v, d.starters_same n) (sym (starter_is n y ys));
    }

recorded_same : (xs ys : List Event) → SameTold xs ys → (t : Task ℕ) → Recorded xs t → Recorded ys t
recorded_same xs ys s t h = record { count = rw (← s.taken_same) h.count; starter = rw (← s.starters_same t.number) h.starter }

-- ---- a list of calls on a fresh state

fresh_told : Told [] fresh
unfolding fresh
fresh_told = record { each = (record { count = refl; starter = refl }, tt); later = λ n l. record { not_taken = refl; not_spawned = refl } }

below : List ℕ → Bool
below [] = true
below (x ∷ l) = ltb x 256 && below l

below_bytes : (l : List ℕ) → below l ≡ true → Every Byte l
unfolding below
below_bytes [] h = tt
below_bytes (x ∷ l) h = let p = and_true (ltb x 256) (below l) h in (ltb-true x 256 p.0, below_bytes l p.1)

fresh_bytes : Bytes (write_block fresh)
unfolding fresh write_block head_row task_row joined below
fresh_bytes = every-bytes (write_block fresh) (below_bytes (write_block fresh) refl)

behind_last : (t b : List ℕ) (gs : List Given) → block_behind b (outcomes t b gs) ≡ last_block t b gs
unfolding outcomes last_block
behind_last t b [] = refl
behind_last t b (g ∷ gs) = behind_last t (run_on t b g.budget g.buffer).block gs

-- the block that start leaves
start_left : (t b : List ℕ) → check t ≡ fine → length b ≡ 776 → (start_on t b).block ≡ write_block fresh
unfolding start_on
start_left t b e h = rw (e, h) refl

module _ (t b : List ℕ) (bytes : Bytes t) where
  on_fresh : check t ≡ fine → open_on t b ≡ opens (recipe_of t) fresh → Bytes b → (gs : List Given) → Histories b (outcomes t b gs)
  on_fresh e o bb gs =
      let r = recipe_of t in
      let all : AllRun r fresh t b gs = subst (λ (o : Opened). DemandOf o t b gs) o (demand t b bytes bb gs) in
      let f = open_fits t b r fresh bytes bb o in
      let ms = trace (recipes r) fresh (calls t b gs) in
      let c = finally (recipes r) fresh (calls t b gs) in
      let d = along r f.within ms fresh c [] all.demand.chain (record { fit = f.fit; told = fresh_told }) in
      let left : read_block (block_behind b (outcomes t b gs)) ≡ c = ap read_block (behind_last t b gs ∙ all.block_left) ∙ read-write r c d.fit in
      record {
        events = records (recipes r) ms;
        logged = all.logged;
        told = λ xs h.
            (let same = same_told (records (recipes r) ms) xs (sym all.logged ∙ h) in
            subst (λ (c : State). Every (Recorded xs) (live c)) (sym left)
            (every_map (Recorded (records (recipes r) ms)) (Recorded xs) (recorded_same (records (recipes r) ms) xs same) (live c) d.told.each));
      }

-- Of every list of run calls on a fresh state the logs tell each live task's history.
pub histories : (t b : List ℕ) → Bytes t → HistoriesFromFresh t b
histories t b bt h gs =
    let a = (start-says t b).accepted.0 h in
    on_fresh t (start_on t b).block bt a.0 (fresh-accepted t b a.0 a.1) (rw (start_left t b a.0 a.1) fresh_bytes) gs

-- any chain of calls that are each as promised has them
pub chain_keeps : (t b : List ℕ) → Bytes t → (start_on t b).number ≡ 0 → (ms : List Made) → Chained t (start_on t b).block ms
    → Histories (start_on t b).block (map (λ m. m.result) ms)
chain_keeps t b bt h ms g = rw (chain-results t (start_on t b).block ms g) (histories t b bt h (map (λ m. m.given) ms))
