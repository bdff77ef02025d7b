-- No number is issued twice, whatever calls of run are made.
-- Assumes nothing.
use Prim.Native.Nat.{ℕ, suc, ◌+◌, ◌≤◌, ◌<◌}
use mathlib.Core.Path.{◌≡◌, refl, subst}
use mathlib.Core.Bool.{Bool, true, false, cond}
use mathlib.Core.Option.{Option, none, some}
use mathlib.Core.List.{List, [], ◌∷◌, ◌++◌}
use native.Mathlib.Omega.{arith}
use native.Mathlib.Decide.{dec_le}
use lib.Dec.{eqb, ltb}
use lib.IntN.{ℤ}
use lib.ListN.{length}
use Rattle.rules.specs.Recipe.{Recipe, write, value}
use Rattle.rules.specs.Places.{Point, nowhere, stop, skips, assigns, tests, spawns, suspends, awaits, guards, at, start}
use Rattle.rules.specs.State.{Store, Task, State}
use Rattle.rules.specs.Log.{Event, spawned, taken, gave, waits, turned, ended, valve}
use Rattle.rules.specs.Scheduler.{Readiness, ready, waits_for, at_guard, on, Halt, Act, halts, does, Next, finish, jam, bar, goes, readiness, any_go, try_of, jam_or, next_act, next, log_of}
use Rattle.rules.specs.Values.{truth}
use Rattle.rules.specs.Steps.{limits, valve_of, counting, env_of, go_to, moves, spawn_at, act_at, recipes}
use Rattle.rules.specs.Moments.{Call, Moment, trace}
use Rattle.rules.specs.Fairness.{records}
use Rattle.rules.specs.Demand.{given_out, times, NeverTwice}
use Rattle.rules.proofs.Scheduling.Induction.{idle_c, trace_ind}
use Rattle.rules.proofs.Scheduling.Along.{stay-store}
use Rattle.rules.proofs.NoValue.{needing_all}
use Rattle.rules.proofs.Steps.{is_le, is-other}

module _ (r : Recipe) where
  -- how often a step's record gives the number n out
  abbrev gives : ℕ → Option Event → ℕ
  gives n x = times n (given_out (log_of x))

  -- a step with this event, from one highest number to another
  record Gives (i i' : ℕ) (x : Option Event) : Type 0 where
    grows : i ≤ i'
    once : (n : ℕ) → gives n x ≤ 1
    fresh : (n : ℕ) → n ≤ i → gives n x ≡ 0
    within : (n : ℕ) → i' < n → gives n x ≡ 0

  quiet : (i : ℕ) (x : Option Event) → ((n : ℕ) → gives n x ≡ 0) → Gives i i x
  quiet i x h = record { grows = omega arith; once = λ n. omega (arith, h n); fresh = λ n l. h n; within = λ n l. h n }

  valve_quiet : (t v : ℕ) (z : ℤ) (n : ℕ) → gives n (valve_of t v z) ≡ 0
  unfolding valve_of
  valve_quiet t v z n = go (ltb v 8)
    where
      go : (b : Bool) → gives n (cond b (some (valve t v z)) none) ≡ 0
      go true = refl
      go false = refl

  -- an action of the active task
  abbrev ActGives : ℕ → Act Store (Task ℕ) Event → Type 0
  ActGives i (halts k) = Unit {0}
  ActGives i (does s new y x) = Gives i s.issued x

  spawn_gives : (o : Option Halt) (s : Store) (t : Task ℕ) (n p : ℕ) (z : ℤ) (k : ℕ) → ActGives s.issued (spawn_at counting o s t n p z k)
  spawn_gives (some l) s t n p z k = tt
  spawn_gives none s t n p z k =
      let i = suc s.issued in
      record {
        grows = omega arith;
        once = λ m. omega (arith, is_le (eqb m i));
        fresh = λ m l. omega (arith, is-other m i (omega arith));
        within = λ m l. omega (arith, is-other m i (omega arith));
      }

  act_gives : (p : Point ℕ) (s : Store) (q : List (Task ℕ)) (t : Task ℕ) → ActGives s.issued (act_at counting (start r) limits p s q t)
  act_gives nowhere s q t = quiet s.issued _ (λ n. refl)
  act_gives stop s q t = quiet s.issued _ (λ n. refl)
  act_gives (skips k) s q t = quiet s.issued _ (λ n. refl)
  act_gives (assigns v e k) s q t =
      needing_all (ActGives s.issued) (value (env_of s t) e) (λ z. moves s.issued (write (env_of s t) v z) t k [] (valve_of t.number v z)) tt (λ z. quiet s.issued _ (valve_quiet t.number v z))
  act_gives (tests e k l) s q t =
      needing_all (ActGives s.issued) (value (env_of s t) e) (λ z. does s [] (on (go_to t (cond (truth z) k l))) none) tt (λ z. quiet s.issued _ (λ n. refl))
  act_gives (spawns v p e k) s q t =
      needing_all (ActGives s.issued) (value (env_of s t) e) (λ z. spawn_at counting (limits (length q) s.issued) s t v (start r p) z k) tt (λ z. spawn_gives (limits (length q) s.issued) s t v (start r p) z k)
  act_gives (suspends k) s q t = quiet s.issued _ (λ n. refl)
  act_gives (awaits v k) s q t = quiet s.issued _ (λ n. refl)
  act_gives (guards e k) s q t = quiet s.issued _ (λ n. refl)

  -- a step
  abbrev NextGives : ℕ → Next (recipes r) → Type 0
  NextGives i finish = Unit {0}
  NextGives i jam = Unit {0}
  NextGives i (bar k) = Unit {0}
  NextGives i (goes x c) = Gives i c.store.issued x

  done_gives : (i : ℕ) (q : List (Task ℕ)) (a : Act Store (Task ℕ) Event) → ActGives i a → NextGives i (next_act (recipes r) q a)
  done_gives i q (halts k) h = tt
  done_gives i q (does s new y x) h = rw (stay-store (recipes r) s (q ++ new) y) h

  try_gives : (v : Readiness) (b : Bool) (s : Store) (t : Task ℕ) (q : List (Task ℕ)) → NextGives s.issued (jam_or (recipes r) b (try_of (recipes r) v (idle_c (recipes r) s (t ∷ q)) t q))
  try_gives v false s t q = tt
  try_gives ready true s t q = quiet s.issued _ (λ n. refl)
  try_gives (waits_for z) true s t q = quiet s.issued _ (λ n. refl)
  try_gives at_guard true s t q = quiet s.issued _ (λ n. refl)

  next_gives : (s : Store) (a : Option (Task ℕ)) (q : List (Task ℕ)) → NextGives s.issued (next (recipes r) (record { store = s; active = a; queue = q }))
  next_gives s none [] = tt
  next_gives s none (t ∷ q) = let c = idle_c (recipes r) s (t ∷ q) in try_gives (readiness (recipes r) c t) (any_go (recipes r) c (t ∷ q)) s t q
  next_gives s (some t) q = done_gives s.issued q (act_at counting (start r) limits (at r t.place) s q t) (act_gives (at r t.place) s q t)

  step_gives : (c c' : State) (x : Option Event) → next (recipes r) c ≡ goes x c' → Gives c.store.issued c'.store.issued x
  step_gives c c' x e = subst (NextGives c.store.issued) e (next_gives c.store c.active c.queue)

  gives_more : (n : ℕ) (x : Option Event) (l : List Event) → times n (given_out (log_of x ++ l)) ≡ gives n x + times n (given_out l)
  gives_more n none l = omega arith
  gives_more n (some (spawned t m)) l = omega arith
  gives_more n (some (taken t)) l = omega arith
  gives_more n (some (gave t)) l = omega arith
  gives_more n (some (waits t z)) l = omega arith
  gives_more n (some (turned t z)) l = omega arith
  gives_more n (some (ended t)) l = omega arith
  gives_more n (some (valve t v z)) l = omega arith

  -- a step before records that give out no number twice, and none up to the highest behind the step
  more : (i i' : ℕ) (x : Option Event) (l : List Event) → Gives i i' x → NeverTwice i' l → NeverTwice i (log_of x ++ l)
  more i i' x l g h = record { once = λ n. go n (dec_le n i'); new = λ n k. omega (arith, gives_more n x l, g.fresh n k, h.new n (omega (arith, g.grows))) }
    where
      go : (n : ℕ) → Dec (n ≤ i') → times n (given_out (log_of x ++ l)) ≤ 1
      go n (yes k) = omega (arith, gives_more n x l, g.once n, h.new n k)
      go n (no k) = omega (arith, gives_more n x l, g.within n (omega arith), h.once n)

  TwiceP : State → List Call → List (Moment (recipes r)) → Type 0
  TwiceP c cs ms = NeverTwice c.store.issued (records (recipes r) ms)

  -- the records of a list of calls give out no number twice, and none that was issued before
  pub never_twice : (c : State) (cs : List Call) → NeverTwice c.store.issued (records (recipes r) (trace (recipes r) c cs))
  unfolding TwiceP
  never_twice = trace_ind (recipes r) TwiceP
      (λ c. record { once = λ n. omega arith; new = λ n l. refl })
      (λ c cs ms ih. ih)
      (λ c b k cs e ms h ih. ih)
      (λ c b k cs x c' ms h l ih. more c.store.issued c'.store.issued x (records (recipes r) ms) (step_gives c c' x h) ih)
