-- The machine over statements makes the steps of the machine over places, shown; and a step leaves every task at a place.
-- Assumes nothing.
use Prim.Native.Nat.{ℕ, ◌+◌, ◌<◌}
use mathlib.Core.Path.{◌≡◌, refl, sym, ap, ap₂, ◌∙◌, fun_ext}
use mathlib.Core.Logic.{◌↔◌}
use mathlib.Core.Bool.{Bool, true, false, ◌||◌, cond, false≢true}
use mathlib.Core.Option
use mathlib.Core.Option.{Option, none, some, IsSome}
use mathlib.Core.List.{List, [], ◌∷◌, ◌++◌, map}
use lib.Dec.{eqb, ltb}
use lib.IntN.{ℤ}
use lib.ListN.{length, get_or, length-map}
use Rattle.rules.specs.Values.{truth}
use Rattle.rules.specs.Recipe.{Expr, spawn, Body, fin, ◌▸◌, Recipe, Within, value}
use Rattle.rules.specs.Places.{Point, nowhere, stop, skips, assigns, tests, spawns, suspends, awaits, guards, at, stands, is_place, start}
use Rattle.rules.specs.Rest.{rest, look}
use Rattle.rules.specs.State.{Task, Store, State}
use Rattle.rules.specs.Log.{Event}
use Rattle.rules.specs.Scheduler.{Rules, Readiness, ready, waits_for, at_guard, is_ready, Stay, on, back, over, Halt, Act, halts, does, is, count, is_live, readiness, any_go, Next, finish, jam, bar, goes, try_of, jam_or, next_idle, stay, next_act, next}
use Rattle.rules.specs.Steps.{Limits, counting, env_of, wait_at, past_at, needing, spawn_at, act_at}
use Rattle.rules.specs.Fairness.{Every}
use Rattle.rules.proofs.Lists.{every_append}
use Rattle.rules.proofs.Ranges.{either}
use Rattle.rules.proofs.Places.{Fits, none_fits, stop-fits, skip-fits, assign-fits, if-fits, while-fits, spawn-fits, suspend-fits, await-fits, guard-fits, fits, starts, spawn-named, Leads, leads, start-place}
use Rattle.rules.proofs.NoValue.{needing_all}
use Rattle.paper.specs.Paper.{PaperTask, Queue}
use Rattle.paper.specs.Follows.{keeping_none, places, statements, to_do, shown_task, shown, shown_next, Placed}

-- ---- what stands at a place

-- with the statements still to do put for the places where it leads
abbrev shown_point : (ℕ → Option Body) → Point ℕ → Point Body
shown_point f nowhere = nowhere
shown_point f stop = stop
shown_point f (skips k) = skips (Option.get_or (f k) fin)
shown_point f (assigns v e k) = assigns v e (Option.get_or (f k) fin)
shown_point f (tests e k l) = tests e (Option.get_or (f k) fin) (Option.get_or (f l) fin)
shown_point f (spawns v p e k) = spawns v p e (Option.get_or (f k) fin)
shown_point f (suspends k) = suspends (Option.get_or (f k) fin)
shown_point f (awaits v k) = awaits v (Option.get_or (f k) fin)
shown_point f (guards e k) = guards e (Option.get_or (f k) fin)

-- is what the statements still to do from there begin with
looked : {f : ℕ → Option Body} {n : ℕ} {p : Point ℕ} {o : Option Body}
    → Fits f n p o
    → stands p ≡ true
    → look (Option.get_or o fin) ≡ shown_point f p
unfolding look
looked none_fits g = absurd (false≢true g)
looked stop-fits g = refl
looked (skip-fits h) g = rw h
looked (assign-fits c h) g = rw h
looked (if-fits c h k) g = rw (h, k)
looked (while-fits c h k) g = rw (h, k)
looked (spawn-fits c h) g = rw h
looked (suspend-fits h) g = rw h
looked (await-fits c h) g = rw h
looked (guard-fits c h) g = rw h

stands-some : {f : ℕ → Option Body} {n : ℕ} {p : Point ℕ} {o : Option Body}
    → Fits f n p o
    → (stands p ≡ true) ↔ IsSome o
stands-some none_fits = (λ g. absurd (false≢true g), λ g. absurd g)
stands-some stop-fits = (λ g. tt, λ g. refl)
stands-some (skip-fits h) = (λ g. tt, λ g. refl)
stands-some (assign-fits c h) = (λ g. tt, λ g. refl)
stands-some (if-fits c h k) = (λ g. tt, λ g. refl)
stands-some (while-fits c h k) = (λ g. tt, λ g. refl)
stands-some (spawn-fits c h) = (λ g. tt, λ g. refl)
stands-some (suspend-fits h) = (λ g. tt, λ g. refl)
stands-some (await-fits c h) = (λ g. tt, λ g. refl)
stands-some (guard-fits c h) = (λ g. tt, λ g. refl)

-- an index is a place exactly where the statements still to do are known
pub place_rest : (r : Recipe) → Within r → (i : ℕ) → (is_place r i ≡ true) ↔ IsSome (rest r i)
place_rest r w i = stands-some (fits r w i)

-- a spawn that comes next at a place names a procedure of the recipe
pub spawn_declared : (r : Recipe) → Within r → (i : ℕ) → is_place r i ≡ true → (x m : ℕ) (e : Expr) (s : Body) → to_do r i ≡ spawn x m e ▸ s → m < length r
spawn_declared r w i h x m e s g = go (rest r i) refl ((place_rest r w i).0 h) g
  where
    go : (o : Option Body) → rest r i ≡ o → IsSome o → Option.get_or o fin ≡ spawn x m e ▸ s → m < length r
    go none e' h g = absurd h
    go (some k) e' h g = spawn-named r w i x m e s (e' ∙ ap some g)

module _ (r : Recipe) where
  abbrev At : Task ℕ → Type 0
  At t = is_place r t.place ≡ true

  abbrev shown_queue : List (Task ℕ) → Queue
  shown_queue q = map (shown_task r) q

  shown-append : (p q : List (Task ℕ)) → shown_queue (p ++ q) ≡ shown_queue p ++ shown_queue q
  shown-append [] q = refl
  shown-append (t ∷ p) q = ap (λ (x : Queue). shown_task r t ∷ x) (shown-append p q)

  shown-wait : (p : Point ℕ) (s : Store) (live : ℕ → Bool) (t : Task ℕ)
      → wait_at (shown_point (rest r) p) s live (shown_task r t) ≡ wait_at p s live t
  shown-wait nowhere s live t = refl
  shown-wait stop s live t = refl
  shown-wait (skips k) s live t = refl
  shown-wait (assigns v e k) s live t = refl
  shown-wait (tests e k l) s live t = refl
  shown-wait (spawns v p e k) s live t = refl
  shown-wait (suspends k) s live t = refl
  shown-wait (awaits v k) s live t = refl
  shown-wait (guards e k) s live t = refl

  shown_past : (p : Point ℕ) (t : Task ℕ) → past_at (shown_point (rest r) p) (shown_task r t) ≡ shown_task r (past_at p t)
  shown_past nowhere t = refl
  shown_past stop t = refl
  shown_past (skips k) t = refl
  shown_past (assigns v e k) t = refl
  shown_past (tests e k l) t = refl
  shown_past (spawns v p e k) t = refl
  shown_past (suspends k) t = refl
  shown_past (awaits v k) t = refl
  shown_past (guards e k) t = refl

  past_at_lem : (p : Point ℕ) (t : Task ℕ) → Leads r p → At t → At (past_at p t)
  past_at_lem nowhere t h a = a
  past_at_lem stop t h a = a
  past_at_lem (skips k) t h a = a
  past_at_lem (assigns v e k) t h a = a
  past_at_lem (tests e k l) t h a = a
  past_at_lem (spawns v p e k) t h a = a
  past_at_lem (suspends k) t h a = a
  past_at_lem (awaits v k) t h a = h.1
  past_at_lem (guards e k) t h a = h.1

  shown-cond : (b : Bool) (k l : ℕ) → cond b (to_do r k) (to_do r l) ≡ to_do r (cond b k l)
  shown-cond true k l = refl
  shown-cond false k l = refl

  -- ---- what the active task does

  abbrev shown_stay : Stay (Task ℕ) → Stay PaperTask
  shown_stay (on t) = on (shown_task r t)
  shown_stay (back t) = back (shown_task r t)
  shown_stay over = over

  abbrev shown_act : Act Store (Task ℕ) Event → Act Store PaperTask Event
  shown_act (halts l) = halts l
  shown_act (does s new y x) = does s (shown_queue new) (shown_stay y) x

  abbrev AtStay : Stay (Task ℕ) → Type 0
  AtStay (on t) = At t
  AtStay (back t) = At t
  AtStay over = Unit {0}

  abbrev AtAct : Act Store (Task ℕ) Event → Type 0
  AtAct (halts l) = Unit {0}
  AtAct (does s new y x) = Every At new × AtStay y

  -- what needs a value
  shown-needing : (o : Option ℤ) (g : ℤ → Act Store PaperTask Event) (f : ℤ → Act Store (Task ℕ) Event)
      → ((z : ℤ) → g z ≡ shown_act (f z))
      → needing o g ≡ shown_act (needing o f)
  shown-needing none g f h = refl
  shown-needing (some z) g f h = h z

  shown-spawn : (o : Option Halt) (s : Store) (t : Task ℕ) (v p : ℕ) (z : ℤ) (k : ℕ)
      → spawn_at keeping_none o s (shown_task r t) v (to_do r p) z (to_do r k) ≡ shown_act (spawn_at counting o s t v p z k)
  shown-spawn none s t v p z k = refl
  shown-spawn (some l) s t v p z k = refl

  spawn_at_lem : (o : Option Halt) (s : Store) (t : Task ℕ) (v p : ℕ) (z : ℤ) (k : ℕ)
      → is_place r p ≡ true
      → is_place r k ≡ true
      → AtAct (spawn_at counting o s t v p z k)
  spawn_at_lem none s t v p z k g h = ((g, tt), h)
  spawn_at_lem (some l) s t v p z k g h = tt

module _ (full : Limits) (r : Recipe) (w : Within r) where
  abbrev R : Rules
  R = places full r

  abbrev S : Rules
  S = statements full r

  see : (t : Task ℕ) → At r t → look (to_do r t.place) ≡ shown_point (rest r) (at r t.place)
  see t a = looked (fits r w t.place) a

  -- a procedure starts with its statements
  pub begins : (p : ℕ) → p < length r → get_or r p fin ≡ to_do r (start r p)
  begins p l = ap (λ (o : Option Body). Option.get_or o fin) (sym (starts r p l))

  -- what the same task does over statements
  abbrev act_s : Point Body → Store → List (Task ℕ) → Task ℕ → Act Store PaperTask Event
  act_s p s q t = act_at keeping_none (λ m. get_or r m fin) full p s (shown_queue r q) (shown_task r t)

  shown-act : (p : Point ℕ) (s : Store) (q : List (Task ℕ)) (t : Task ℕ)
      → Leads r p
      → act_s (shown_point (rest r) p) s q t ≡ shown_act r (act_at counting (start r) full p s q t)
  shown-act nowhere s q t h = refl
  shown-act stop s q t h = refl
  shown-act (skips k) s q t h = refl
  shown-act (assigns v e k) s q t h = shown-needing r (value (env_of s t) e) _ _ (λ z. refl)
  shown-act (tests e k l) s q t h =
      shown-needing r (value (env_of s t) e) _ _ (λ z. rw (shown-cond r (truth z) k l))
  shown-act (spawns v p e k) s q t h =
      shown-needing r (value (env_of s t) e) _ _
      (λ z. ap₂ (λ (j : ℕ) (b : Body). spawn_at keeping_none (full j s.issued) s (shown_task r t) v b z (to_do r k))
      (length-map q (shown_task r)) (begins p h.2)
      ∙ shown-spawn r (full (length q) s.issued) s t v (start r p) z k)
  shown-act (suspends k) s q t h = refl
  shown-act (awaits v k) s q t h = refl
  shown-act (guards e k) s q t h = refl

  act_at_lem : (p : Point ℕ) (s : Store) (q : List (Task ℕ)) (t : Task ℕ)
      → Leads r p
      → At r t
      → AtAct r (act_at counting (start r) full p s q t)
  act_at_lem nowhere s q t h a = (tt, tt)
  act_at_lem stop s q t h a = (tt, tt)
  act_at_lem (skips k) s q t h a = (tt, h)
  act_at_lem (assigns v e k) s q t h a = needing_all (AtAct r) (value (env_of s t) e) _ tt (λ z. (tt, h.2))
  act_at_lem (tests e k l) s q t h a =
      needing_all (AtAct r) (value (env_of s t) e) _ tt
      (λ z. (tt, either (λ (k : ℕ). is_place r k ≡ true) (truth z) h.1 h.2))
  act_at_lem (spawns v p e k) s q t h a =
      needing_all (AtAct r) (value (env_of s t) e) _ tt
      (λ z. spawn_at_lem r (full (length q) s.issued) s t v (start r p) z k (start-place r w p h.2) h.4)
  act_at_lem (suspends k) s q t h a = (tt, h)
  act_at_lem (awaits v k) s q t h a = (tt, a)
  act_at_lem (guards e k) s q t h a = (tt, a)

  -- ---- who is ready

  pub shown-count : (i : ℕ) (q : List (Task ℕ)) → count S i (shown_queue r q) ≡ count R i q
  shown-count i [] = refl
  shown-count i (t ∷ q) = ap (λ (j : ℕ). is (eqb i t.number) + j) (shown-count i q)

  shown-readiness : (c : State) (t : Task ℕ) → At r t → readiness S (shown r c) (shown_task r t) ≡ readiness R c t
  shown-readiness c t a =
      ap₂ (λ (p : Point Body) (l : ℕ → Bool). wait_at p c.store l (shown_task r t)) (see t a)
      (fun_ext (λ i. ap (ltb 0) (shown-count i c.queue)))
      ∙ shown-wait r (at r t.place) c.store (is_live R c.queue) t

  shown-any : (c : State) (q : List (Task ℕ)) → Every (At r) q → any_go S (shown r c) (shown_queue r q) ≡ any_go R c q
  shown-any c [] a = refl
  shown-any c (t ∷ q) a =
      ap₂ (λ (v : Readiness) (b : Bool). is_ready v || b) (shown-readiness c t a.0) (shown-any c q a.1)

  -- ---- what comes next

  shown_try : (v : Readiness) (c : State) (t : Task ℕ) (q : List (Task ℕ)) → At r t
      → try_of S v (shown r c) (shown_task r t) (shown_queue r q) ≡ shown_next full r (try_of R v c t q)
  shown_try ready c t q a = rw (see t a, shown_past r (at r t.place) t)
  shown_try (waits_for z) c t q a = rw (shown-append r q (t ∷ []))
  shown_try at_guard c t q a = rw (shown-append r q (t ∷ []))

  shown-jam : (b : Bool) (y : Next S) (x : Next R) → y ≡ shown_next full r x → jam_or S b y ≡ shown_next full r (jam_or R b x)
  shown-jam true y x e = e
  shown-jam false y x e = refl

  shown-idle : (c : State) (q : List (Task ℕ))
      → Every (At r) q
      → next_idle S (shown r c) (shown_queue r q) ≡ shown_next full r (next_idle R c q)
  shown-idle c [] a = refl
  shown-idle c (t ∷ q) a =
      ap₂ (λ (b : Bool) (v : Readiness). jam_or S b (try_of S v (shown r c) (shown_task r t) (shown_queue r q)))
      (shown-any c (t ∷ q) a) (shown-readiness c t a.0)
      ∙ shown-jam (any_go R c (t ∷ q)) _ _ (shown_try (readiness R c t) c t q a.0)

  shown-stay : (s : Store) (q : List (Task ℕ)) (y : Stay (Task ℕ))
      → stay S s (shown_queue r q) (shown_stay r y) ≡ shown r (stay R s q y)
  shown-stay s q (on t) = refl
  shown-stay s q (back t) = rw (shown-append r q (t ∷ []))
  shown-stay s q over = refl

  shown-does : (q : List (Task ℕ)) (a : Act Store (Task ℕ) Event)
      → next_act S (shown_queue r q) (shown_act r a) ≡ shown_next full r (next_act R q a)
  shown-does q (halts l) = refl
  shown-does q (does s new y x) =
      ap (goes x)
      (ap (λ (z : Queue). stay S s z (shown_stay r y)) (sym (shown-append r q new)) ∙ shown-stay s (q ++ new) y)

  shown_of : (s : Store) (a : Option (Task ℕ)) (q : List (Task ℕ))
      → Placed r (record { store = s; active = a; queue = q })
      → next S (shown r (record { store = s; active = a; queue = q }))
      ≡ shown_next full r (next R (record { store = s; active = a; queue = q }))
  shown_of s none q a = shown-idle (record { store = s; active = none; queue = q }) q a
  shown_of s (some t) q a =
      ap (next_act S (shown_queue r q))
      (ap (λ (p : Point Body). act_s p s q t) (see t a.0) ∙ shown-act (at r t.place) s q t (leads r w t.place))
      ∙ shown-does q (R.act s q t)

  pub same_next : (c : State) → Placed r c → next S (shown r c) ≡ shown_next full r (next R c)
  same_next c a = shown_of c.store c.active c.queue a

  -- ---- tasks at places stay at places

  abbrev pub PlacedNext : Next R → Type 0
  PlacedNext finish = Unit {0}
  PlacedNext jam = Unit {0}
  PlacedNext (bar l) = Unit {0}
  PlacedNext (goes x c) = Placed r c

  placed_try : (v : Readiness) (c : State) (t : Task ℕ) (q : List (Task ℕ))
      → At r t
      → Every (At r) q
      → PlacedNext (try_of R v c t q)
  placed_try ready c t q a b = (past_at_lem r (at r t.place) t (leads r w t.place) a, b)
  placed_try (waits_for z) c t q a b = every_append (At r) q (t ∷ []) b (a, tt)
  placed_try at_guard c t q a b = every_append (At r) q (t ∷ []) b (a, tt)

  placed-jam : (b : Bool) (x : Next R) → PlacedNext x → PlacedNext (jam_or R b x)
  placed-jam true x a = a
  placed-jam false x a = tt

  placed-stay : (s : Store) (q : List (Task ℕ)) (y : Stay (Task ℕ))
      → Every (At r) q
      → AtStay r y
      → Placed r (stay R s q y)
  placed-stay s q (on t) b a = (a, b)
  placed-stay s q (back t) b a = every_append (At r) q (t ∷ []) b (a, tt)
  placed-stay s q over b a = b

  placed-does : (q : List (Task ℕ)) (y : Act Store (Task ℕ) Event)
      → Every (At r) q
      → AtAct r y
      → PlacedNext (next_act R q y)
  placed-does q (halts l) b a = tt
  placed-does q (does s new y x) b a = placed-stay s (q ++ new) y (every_append (At r) q new b a.0) a.1

  placed_of : (s : Store) (a : Option (Task ℕ)) (q : List (Task ℕ))
      → Placed r (record { store = s; active = a; queue = q })
      → PlacedNext (next R (record { store = s; active = a; queue = q }))
  placed_of s none [] a = tt
  placed_of s none (t ∷ q) a =
      let c : State = record { store = s; active = none; queue = t ∷ q } in
      placed-jam (any_go R c (t ∷ q)) (try_of R (readiness R c t) c t q) (placed_try (readiness R c t) c t q a.0 a.1)
  placed_of s (some t) q a =
      placed-does q (R.act s q t) a.1 (act_at_lem (at r t.place) s q t (leads r w t.place) a.0)

  pub placed-next : (c : State) → Placed r c → PlacedNext (next R c)
  placed-next c a = placed_of c.store c.active c.queue a
