-- A step of a recipe with two makers, seen by one of them: a step of its tasks alone, with the same valves, or none and none of its valves.
-- Assumes nothing.
use Prim.Native.Nat.{ℕ, suc, ◌+◌}
use mathlib.Core.Path.{◌≡◌, refl, sym, ap, ap₂, ◌∙◌, subst}
use mathlib.Core.Logic.{inl, inr}
use mathlib.Core.Bool.{Bool, true, false, cond}
use mathlib.Core.Option.{Option, none, some}
use mathlib.Core.List.{[], ◌∷◌, ◌++◌, append-nil}
use native.Mathlib.Omega.{arith}
use lib.Dec.{eqb, ltb}
use lib.IntN.{ℤ, pos}
use lib.ListN.{length, get_or}
use borrow.Author.Tests.{eq-eqb, ne_eqb, eqb-true, eqb-false, le-leb, ltb-true}
use Rattle.rules.specs.Values.{truth, is_true}
use Rattle.rules.specs.Recipe.{Expr, skip, assign, if, while, spawn, suspend, await, guard, Body, fin, ◌▸◌, Recipe, Env, read, write, value}
use Rattle.rules.specs.Rest.{◌then◌, look}
use Rattle.rules.specs.State.{Store}
use Rattle.rules.specs.Log.{Event, spawned, taken, gave, waits, ended, valve}
use Rattle.rules.specs.Scheduler.{Readiness, ready, waits_for, at_guard, no_number, Rules, Stay, on, back, over, Halt, Act, does, is, count, is_live, readiness, any_go, Next, finish, jam, bar, goes, try_of, jam_or, stay, next_act, next}
use Rattle.rules.specs.Steps.{Limits, is_done, valve_of, wait_at, past_at, needing, spawn_at}
use Rattle.rules.specs.Fairness.{only}
use Rattle.paper.specs.Paper.{PaperTask, Queue, task, PaperState, running, idle, env, memory}
use Rattle.paper.specs.Follows.{keeping_none, statements}
use Rattle.makers.proofs.Uses.{AllS, AllB, all-then}
use Rattle.makers.proofs.Alone.{settings_by, M, alone}
use Rattle.makers.proofs.Link.{Same, unset, known, Foreign, put_in, Holds, Apart, PumpU, DrumU, Link, read_held, value_same, write_shared, Both, write_plain, write_apart, still_foreign, foreign_up, spawned_both, Sel, nil, ours, theirs, sel_back, sel_more, Side, Shares}

-- how a queued task is, here and alone: the same, but for the number that it waits for
data Alike : Readiness → Readiness → Type 0 where
  both_ready : Alike ready ready
  both_wait : {z z' : ℤ} → Alike (waits_for z) (waits_for z')
  both_guarded : Alike at_guard at_guard

-- a task past its await or its guard
abbrev after : Body → Body
after fin = fin
after (skip ▸ b) = skip ▸ b
after (assign v e ▸ b) = assign v e ▸ b
after (if e c ▸ b) = if e c ▸ b
after (while e c ▸ b) = while e c ▸ b
after (spawn v j e ▸ b) = spawn v j e ▸ b
after (suspend ▸ b) = suspend ▸ b
after (await v ▸ b) = b
after (guard e ▸ b) = b

past-after : (b : Body) (x : ℕ) (a : ℤ) → past_at (look b) (task x b a) ≡ task x (after b) a
unfolding look
past-after fin x a = refl
past-after (skip ▸ b) x a = refl
past-after (assign v e ▸ b) x a = refl
past-after (if e c ▸ b) x a = refl
past-after (while e c ▸ b) x a = refl
past-after (spawn v j e ▸ b) x a = refl
past-after (suspend ▸ b) x a = refl
past-after (await v ▸ b) x a = refl
past-after (guard e ▸ b) x a = refl

all-after : (P : _) (b : Body) → AllB P b → AllB P (after b)
unfolding AllB
all-after P fin g = g
all-after P (skip ▸ b) g = g
all-after P (assign v e ▸ b) g = g
all-after P (if e c ▸ b) g = g
all-after P (while e c ▸ b) g = g
all-after P (spawn v j e ▸ b) g = g
all-after P (suspend ▸ b) g = g
all-after P (await v ▸ b) g = g.1
all-after P (guard e ▸ b) g = g.1

all-cond : (P : _) (t : Bool) (c b : Body) → AllB P c → AllB P b → AllB P (cond t c b)
all-cond P true c b g h = g
all-cond P false c b g h = h

-- (k: the maker; drum: the other's procedures; r: a recipe of both)
module _ (k : Side) (drum : ℕ → Bool) (full : Limits) (r : Recipe) where
  open k use {role, mine, foreign, pump, begin}

  abbrev pub R : Rules
  R = statements full r

  abbrev A : Rules
  A = M begin

  abbrev PumpB : Body → Type 0
  PumpB b = AllB (PumpU role pump) b

  abbrev pub DrumB : Body → Type 0
  DrumB b = AllB (DrumU role drum) b

  -- ---- valves: the same whatever the task's number, and none of the other maker's

  settings_same : (v n n' : ℕ) (z : ℤ) → settings_by mine (valve_of n v z) ≡ settings_by mine (valve_of n' v z)
  unfolding valve_of
  settings_same v n n' z = go (ltb v 8)
    where
      go : (b : Bool) → settings_by mine (cond b (some (valve n v z)) none) ≡ settings_by mine (cond b (some (valve n' v z)) none)
      go true = refl
      go false = refl

  settings_none : (v n : ℕ) (z : ℤ) → Apart role v → settings_by mine (valve_of n v z) ≡ []
  unfolding valve_of
  settings_none v n z h = go (ltb v 8) refl
    where
      go : (b : Bool) → ltb v 8 ≡ b → settings_by mine (cond b (some (valve n v z)) none) ≡ []
      go true e = ap (λ (b : Bool). only b (record { valve = v; value = z } ∷ [])) (foreign v (h (ne_eqb v 64 (λ d. omega (arith, ltb-true v 8 e)))))
      go false e = refl

  -- ---- readiness

  module _ {I : ℕ → ℕ → Type 0} {s s' : Store} (l : Link role I s s') where
    count_same : {n x y : ℕ} {q p : Queue} → I x y → Sel role pump drum I n q p → count R x q ≡ count A y p
    count_same i nil = refl
    count_same {x = x} {y = y} i (ours {x = x'} {y = y'} j b h) = ap₂ (λ (a c : ℕ). a + c) (ap is (go (eqb x x') refl)) (count_same i h)
      where
        go : (b : Bool) → eqb x x' ≡ b → eqb x x' ≡ eqb y y'
        go true e = e ∙ sym (eq-eqb y y' (l.here_one i j (eqb-true x x' e)))
        go false e = e ∙ sym (ne_eqb y y' (λ d. eqb-false x x' e (l.there_one i j d)))
    count_same {x = x} {y = y} {p = p} i (theirs {x = x'} d f h) =
        ap₂ (λ (a c : ℕ). a + c) (ap is (ne_eqb x x' (λ e. f.not_ours y (subst (λ (z : ℕ). I z y) e i)))) (count_same i h) ∙ zero_plus (count A y p)
      where
        zero_plus : (c : ℕ) → 0 + c ≡ c
        zero_plus c = omega arith

    done_same : {n : ℕ} {x y : ℤ} {q p : Queue} → Same I x y → Sel role pump drum I n q p → is_done s.issued (is_live R q) x ≡ is_done s'.issued (is_live A p) y
    unfolding is_done
    done_same (unset e f) h = rw (e, f) refl
    done_same (known {n} {m} e f i) h =
        rw (e, f, ne_eqb n 0 (omega (arith, (l.here_issued i).0)), ne_eqb m 0 (omega (arith, (l.there_issued i).0)), le-leb n s.issued (l.here_issued i).1, le-leb m s'.issued (l.there_issued i).1, count_same i h) refl

    alike : {n : ℕ} {q p : Queue} (x y : ℕ) (a : ℤ) (b : Body) → PumpB b → Sel role pump drum I n q p
        → Alike (wait_at (look b) s (is_live R q) (task x b a)) (wait_at (look b) s' (is_live A p) (task y b a))
    unfolding look AllB AllS
    alike x y a fin g h = both_ready
    alike x y a (skip ▸ b) g h = both_ready
    alike x y a (assign v e ▸ b) g h = both_ready
    alike x y a (if e c ▸ b) g h = both_ready
    alike x y a (while e c ▸ b) g h = both_ready
    alike x y a (spawn v j e ▸ b) g h = both_ready
    alike x y a (suspend ▸ b) g h = both_ready
    alike {q = q} {p = p} x y a (await v ▸ b) g h =
        go (is_done s.issued (is_live R q) (read (env s a) v)) (is_done s'.issued (is_live A p) (read (env s' a) v)) (done_same (read_held role l a v g.0) h)
      where
        go : (c d : Bool) → c ≡ d → Alike (cond c ready (waits_for (read (env s a) v))) (cond d ready (waits_for (read (env s' a) v)))
        go true true e = both_ready
        go true false e = absurd (let z : ◌≡◌ {A = ℕ} 1 0 = ap is e in omega arith)
        go false true e = absurd (let z : ◌≡◌ {A = ℕ} 0 1 = ap is e in omega arith)
        go false false e = both_wait
    alike x y a (guard e ▸ b) g h = rw (value_same role l a pump e g.0) (go (is_true (value (env s' a) e)))
      where
        go : (c : Bool) → Alike (cond c ready at_guard) (cond c ready at_guard)
        go true = both_ready
        go false = both_guarded

  -- ---- a state here, and the one that the maker's tasks alone would be in

  pub data Inv (c p : PaperState) : Type 1 where
    pumping : {I : ℕ → ℕ → Type 0} {s s' : Store} {x y : ℕ} {a : ℤ} {b : Body} {q q' : Queue} → c ≡ running (task x b a) q s → p ≡ running (task y b a) q' s'
        → Link role I s s' → I x y → PumpB b → Sel role pump drum I s.issued q q' → Inv c p
    drumming : {I : ℕ → ℕ → Type 0} {s s' : Store} {x : ℕ} {a : ℤ} {b : Body} {q q' : Queue} → c ≡ running (task x b a) q s → p ≡ idle q' s'
        → Link role I s s' → DrumB b → Foreign I s.issued x → Sel role pump drum I s.issued q q' → Inv c p
    resting : {I : ℕ → ℕ → Type 0} {s s' : Store} {q q' : Queue} → c ≡ idle q s → p ≡ idle q' s' → Link role I s s' → Sel role pump drum I s.issued q q' → Inv c p

  -- a step here is one there, with the same valves of the maker's, or none there and none of those
  pub data Out (z : Option Event) (d p : PaperState) : Type 1 where
    still : settings_by mine z ≡ [] → Inv d p → Out z d p
    moved : {y : Option Event} {p' : PaperState} → alone begin p ≡ goes y p' → settings_by mine z ≡ settings_by mine y → Inv d p' → Out z d p

  abbrev pub OutN : Next R → PaperState → Type 1
  OutN finish p = Unit {1}
  OutN jam p = Unit {1}
  OutN (bar h) p = Unit {1}
  OutN (goes z d) p = Out z d p

  quiet_here : (s : Store) (q : Queue) (y : Stay PaperTask) (x : Option Event) → next_act R q (does s [] y x) ≡ goes x (stay R s q y)
  quiet_here s q y x = ap (λ (z : Queue). goes x (stay R s z y)) (append-nil q)

  quiet_there : (s : Store) (q : Queue) (y : Stay PaperTask) (x : Option Event) → next_act A q (does s [] y x) ≡ goes x (stay A s q y)
  quiet_there s q y x = ap (λ (z : Queue). goes x (stay A s z y)) (append-nil q)

  -- a step that spawns nothing, of the maker's task; of the other's
  both_quiet : (s s' : Store) (q p : Queue) (y y' : Stay PaperTask) (x x' : Option Event) (c : PaperState) → alone begin c ≡ next_act A p (does s' [] y' x')
      → settings_by mine x ≡ settings_by mine x' → Inv (stay R s q y) (stay A s' p y') → OutN (next_act R q (does s [] y x)) c
  both_quiet s s' q p y y' x x' c e m i = subst (λ (z : Next R). OutN z c) (sym (quiet_here s q y x)) (moved (e ∙ quiet_there s' p y' x') m i)

  one_quiet : (s : Store) (q : Queue) (y : Stay PaperTask) (x : Option Event) (c : PaperState) → settings_by mine x ≡ [] → Inv (stay R s q y) c → OutN (next_act R q (does s [] y x)) c
  one_quiet s q y x c m i = subst (λ (z : Next R). OutN z c) (sym (quiet_here s q y x)) (still m i)

  -- what is done with a value that may be missing
  needing_out : (o : Option ℤ) (q : Queue) (f : ℤ → Act Store PaperTask Event) (c : PaperState) → ((z : ℤ) → o ≡ some z → OutN (next_act R q (f z)) c) → OutN (next_act R q (needing o f)) c
  needing_out none q f c h = tt
  needing_out (some z) q f c h = h z refl

  module _ (shares : Shares k drum r) where
    open shares use {pumps, given, drums}

    -- ---- a step of the maker's task

    pump_spawn : {I : ℕ → ℕ → Type 0} {s s' : Store} {q p : Queue} (x y : ℕ) (a : ℤ) (v j : ℕ) (e : Expr) (b : Body) (z : ℤ) (o : Option Halt) → Link role I s s' → I x y → Holds role v → pump j ≡ true → value (env s' a) e ≡ some z
        → PumpB b → Sel role pump drum I s.issued q p
        → OutN (next_act R q (spawn_at keeping_none o s (task x (spawn v j e ▸ b) a) v (get_or r j fin) z b)) (running (task y (spawn v j e ▸ b) a) p s')
    unfolding look
    pump_spawn x y a v j e b z (some h') l i hv hj ez hb h = tt
    pump_spawn {I} {s} {s'} {q} {p} x y a v j e b z none l i hv hj ez hb h =
        let n = suc s.issued in
        let m = suc s'.issued in
        let new = task n (get_or r j fin) z in
        let there = task m (get_or r j fin) z in
        subst (λ (w : Env). Out (some (spawned x n)) (running (task x b w.parameter) (q ++ (new ∷ [])) (memory n w)) (running (task y (spawn v j e ▸ b) a) p s')) (sym (write_shared role n s a v (pos n) hv.0))
        (moved {y = some (spawned y m)} {p' = running (task y b a) (p ++ (there ∷ [])) (put_in m s' v (pos m))}
        (ap (λ (o : Option ℤ). next_act A p (needing o (λ z. spawn_at keeping_none none s' (task y (spawn v j e ▸ b) a) v (begin j) z b))) ez
        ∙ ap (λ (w : Env). goes (some (spawned y m)) (running (task y b w.parameter) (p ++ (task m (begin j) z ∷ [])) (memory m w))) (write_shared role m s' a v (pos m) hv.0)
        ∙ ap (λ (c : Body). goes (some (spawned y m)) (running (task y b a) (p ++ (task m c z ∷ [])) (put_in m s' v (pos m)))) (sym (given j hj)))
        refl
        (pumping refl refl (spawned_both role v hv.1 l) (inl i) hb (sel_back role (sel_more role (λ x y i. inl i) (λ x f. still_foreign role x f) h) (ours (inr (refl, refl)) (pumps j hj) nil))))

    pump_step : {I : ℕ → ℕ → Type 0} {s s' : Store} {q p : Queue} (x y : ℕ) (a : ℤ) (b : Body) → Link role I s s' → I x y → PumpB b → Sel role pump drum I s.issued q p
        → OutN (next R (running (task x b a) q s)) (running (task y b a) p s')
    unfolding look AllB AllS
    pump_step {s = s} {s'} {q} {p} x y a fin l i g h = both_quiet s s' q p over over (some (ended x)) (some (ended y)) _ refl refl (resting refl refl l h)
    pump_step {s = s} {s'} {q} {p} x y a (skip ▸ b) l i g h = both_quiet s s' q p (on (task x b a)) (on (task y b a)) none none _ refl refl (pumping refl refl l i g.1 h)
    pump_step {I} {s} {s'} {q} {p} x y a (assign v e ▸ b) l i g h =
        needing_out (value (env s a) e) q _ _
        (λ z ez.
        (let ez' : value (env s' a) e ≡ some z = sym (value_same role l a pump e g.0.1) ∙ ez in
        let w = write (env s a) v z in
        let w' = write (env s' a) v z in
        let o : Both role I s.issued s'.issued w w' = write_plain role a v z g.0.0 l in
        both_quiet (memory s.issued w) (memory s'.issued w') q p (on (task x b w.parameter)) (on (task y b w'.parameter)) (valve_of x v z) (valve_of y v z) _
        (ap (λ (o : Option ℤ). next_act A p (needing o (λ z. does (memory s'.issued (write (env s' a) v z)) [] (on (task y b (write (env s' a) v z).parameter)) (valve_of y v z)))) ez')
        (settings_same v x y z)
        (pumping {a = w.parameter} refl (ap (λ (c : ℤ). running (task y b c) p (memory s'.issued w')) (sym o.parameter_same)) o.link i g.1 h)))
    pump_step {s = s} {s'} {q} {p} x y a (if e c ▸ b) l i g h =
        needing_out (value (env s a) e) q _ _
        (λ z ez.
        (let ez' : value (env s' a) e ≡ some z = sym (value_same role l a pump e g.0.0) ∙ ez in
        let k = cond (truth z) (c then b) b in
        both_quiet s s' q p (on (task x k a)) (on (task y k a)) none none _
        (ap (λ (o : Option ℤ). next_act A p (needing o (λ z. does s' [] (on (task y (cond (truth z) (c then b) b) a)) none))) ez')
        refl
        (pumping refl refl l i (all-cond (PumpU role pump) (truth z) (c then b) b (all-then (PumpU role pump) c b g.0.1 g.1) g.1) h)))
    pump_step {s = s} {s'} {q} {p} x y a (while e c ▸ b) l i g h =
        needing_out (value (env s a) e) q _ _
        (λ z ez.
        (let ez' : value (env s' a) e ≡ some z = sym (value_same role l a pump e g.0.0) ∙ ez in
        let u = c then (while e c ▸ b) in
        let k = cond (truth z) u b in
        both_quiet s s' q p (on (task x k a)) (on (task y k a)) none none _
        (ap (λ (o : Option ℤ). next_act A p (needing o (λ z. does s' [] (on (task y (cond (truth z) u b) a)) none))) ez')
        refl
        (pumping refl refl l i (all-cond (PumpU role pump) (truth z) u b (all-then (PumpU role pump) c (while e c ▸ b) g.0.1 g) g.1) h)))
    pump_step {s = s} {s'} {q} {p} x y a (spawn v j e ▸ b) l i g h =
        needing_out (value (env s a) e) q _ _
        (λ z ez. pump_spawn x y a v j e b z (full (length q) s.issued) l i g.0.0.0 g.0.0.1 (sym (value_same role l a pump e g.0.1) ∙ ez) g.1 h)
    pump_step {s = s} {s'} {q} {p} x y a (suspend ▸ b) l i g h =
        both_quiet s s' q p (back (task x b a)) (back (task y b a)) (some (gave x)) (some (gave y)) _ refl refl (resting refl refl l (sel_back role h (ours i g.1 nil)))
    pump_step {s = s} {s'} {q} {p} x y a (await v ▸ b) l i g h =
        both_quiet s s' q p (back (task x (await v ▸ b) a)) (back (task y (await v ▸ b) a)) (some (waits x (read (env s a) v))) (some (waits y (read (env s' a) v))) _ refl refl
        (resting refl refl l (sel_back role h (ours i g nil)))
    pump_step {s = s} {s'} {q} {p} x y a (guard e ▸ b) l i g h =
        both_quiet s s' q p (back (task x (guard e ▸ b) a)) (back (task y (guard e ▸ b) a)) (some (waits x no_number)) (some (waits y no_number)) _ refl refl
        (resting refl refl l (sel_back role h (ours i g nil)))

    -- ---- a step of the other maker's task

    drum_spawn : {I : ℕ → ℕ → Type 0} {s s' : Store} {q p : Queue} (x : ℕ) (a : ℤ) (v j : ℕ) (e : Expr) (b : Body) (z : ℤ) (o : Option Halt) → Link role I s s' → Foreign I s.issued x → Apart role v → drum j ≡ true
        → DrumB b → Sel role pump drum I s.issued q p
        → OutN (next_act R q (spawn_at keeping_none o s (task x (spawn v j e ▸ b) a) v (get_or r j fin) z b)) (idle p s')
    drum_spawn x a v j e b z (some h') l f hv hj hb h = tt
    drum_spawn {I} {s} {s'} {q} {p} x a v j e b z none l f hv hj hb h =
        let n = suc s.issued in
        let new = task n (get_or r j fin) z in
        let mine_none : Foreign I n n = record { issued = omega arith; not_ours = λ y i. omega (arith, (l.here_issued i).1) } in
        still refl (drumming refl refl (write_apart role n a v (pos n) (omega arith) hv l) hb (foreign_up role x f)
        (subst (Sel role pump drum I n (q ++ (new ∷ []))) (append-nil p) (sel_back role (sel_more role (λ x y i. i) (λ x f. foreign_up role x f) h) (theirs (drums j hj) mine_none nil))))

    drum_step : {I : ℕ → ℕ → Type 0} {s s' : Store} {q p : Queue} (x : ℕ) (a : ℤ) (b : Body) → Link role I s s' → Foreign I s.issued x → DrumB b → Sel role pump drum I s.issued q p
        → OutN (next R (running (task x b a) q s)) (idle p s')
    unfolding look AllB AllS
    drum_step {s = s} {q = q} x a fin l f g h = one_quiet s q over (some (ended x)) _ refl (resting refl refl l h)
    drum_step {s = s} {q = q} x a (skip ▸ b) l f g h = one_quiet s q (on (task x b a)) none _ refl (drumming refl refl l g.1 f h)
    drum_step {I} {s} {s'} {q} {p} x a (assign v e ▸ b) l f g h =
        needing_out (value (env s a) e) q _ _
        (λ z ez.
        (let w = write (env s a) v z in
        one_quiet (memory s.issued w) q (on (task x b w.parameter)) (valve_of x v z) _ (settings_none v x z g.0.0)
        (drumming refl refl (write_apart role s.issued a v z (omega arith) g.0.0 l) g.1 f h)))
    drum_step {s = s} {q = q} x a (if e c ▸ b) l f g h =
        needing_out (value (env s a) e) q _ _
        (λ z ez.
        (let k = cond (truth z) (c then b) b in
        one_quiet s q (on (task x k a)) none _ refl (drumming refl refl l (all-cond (DrumU role drum) (truth z) (c then b) b (all-then (DrumU role drum) c b g.0.1 g.1) g.1) f h)))
    drum_step {s = s} {q = q} x a (while e c ▸ b) l f g h =
        needing_out (value (env s a) e) q _ _
        (λ z ez.
        (let u = c then (while e c ▸ b) in
        let k = cond (truth z) u b in
        one_quiet s q (on (task x k a)) none _ refl (drumming refl refl l (all-cond (DrumU role drum) (truth z) u b (all-then (DrumU role drum) c (while e c ▸ b) g.0.1 g) g.1) f h)))
    drum_step {s = s} {q = q} x a (spawn v j e ▸ b) l f g h =
        needing_out (value (env s a) e) q _ _ (λ z ez. drum_spawn x a v j e b z (full (length q) s.issued) l f g.0.0.0 g.0.0.1 g.1 h)
    drum_step {I} {s} {s'} {q} {p} x a (suspend ▸ b) l f g h =
        one_quiet s q (back (task x b a)) (some (gave x)) _ refl (resting refl refl l (subst (Sel role pump drum I s.issued (q ++ (task x b a ∷ []))) (append-nil p) (sel_back role h (theirs g.1 f nil))))
    drum_step {I} {s} {s'} {q} {p} x a (await v ▸ b) l f g h =
        one_quiet s q (back (task x (await v ▸ b) a)) (some (waits x (read (env s a) v))) _ refl
        (resting refl refl l (subst (Sel role pump drum I s.issued (q ++ (task x (await v ▸ b) a ∷ []))) (append-nil p) (sel_back role h (theirs g f nil))))
    drum_step {I} {s} {s'} {q} {p} x a (guard e ▸ b) l f g h =
        one_quiet s q (back (task x (guard e ▸ b) a)) (some (waits x no_number)) _ refl
        (resting refl refl l (subst (Sel role pump drum I s.issued (q ++ (task x (guard e ▸ b) a ∷ []))) (append-nil p) (sel_back role h (theirs g f nil))))

    -- ---- a try

    jam_out : (b : Bool) (z : Next R) (c : PaperState) → OutN z c → OutN (jam_or R b z) c
    jam_out true z c o = o
    jam_out false z c o = tt

    try_ours : {I : ℕ → ℕ → Type 0} {s s' : Store} {q p : Queue} (x y : ℕ) (a : ℤ) (b : Body) → Link role I s s' → I x y → PumpB b → Sel role pump drum I s.issued q p
        → {u v : Readiness} → Alike u v → readiness A (idle (task y b a ∷ p) s') (task y b a) ≡ v
        → OutN (try_of R u (idle (task x b a ∷ q) s) (task x b a) q) (idle (task y b a ∷ p) s')
    try_ours {I} {s} {s'} {q} {p} x y a b l i g h both_ready e =
        subst (λ (t : PaperTask). Out (some (taken x)) (running t q s) (idle (task y b a ∷ p) s')) (sym (past-after b x a))
        (moved {y = some (taken y)} {p' = running (task y (after b) a) p s'}
        (ap (λ (v : Readiness). try_of A v (idle (task y b a ∷ p) s') (task y b a) p) e ∙ ap (λ (t : PaperTask). goes (some (taken y)) (running t p s')) (past-after b y a))
        refl (pumping refl refl l i (all-after (PumpU role pump) b g) h))
    try_ours {I} {s} {s'} {q} {p} x y a b l i g h both_wait e =
        moved (ap (λ (v : Readiness). try_of A v (idle (task y b a ∷ p) s') (task y b a) p) e) refl (resting refl refl l (sel_back role h (ours i g nil)))
    try_ours {I} {s} {s'} {q} {p} x y a b l i g h both_guarded e =
        moved (ap (λ (v : Readiness). try_of A v (idle (task y b a ∷ p) s') (task y b a) p) e) refl (resting refl refl l (sel_back role h (ours i g nil)))

    try_theirs : {I : ℕ → ℕ → Type 0} {s s' : Store} {q p : Queue} (x : ℕ) (a : ℤ) (b : Body) → Link role I s s' → Foreign I s.issued x → DrumB b → Sel role pump drum I s.issued q p
        → (u : Readiness) → OutN (try_of R u (idle (task x b a ∷ q) s) (task x b a) q) (idle p s')
    try_theirs {I} {s} {s'} {q} {p} x a b l f d h ready =
        subst (λ (t : PaperTask). Out (some (taken x)) (running t q s) (idle p s')) (sym (past-after b x a)) (still refl (drumming refl refl l (all-after (DrumU role drum) b d) f h))
    try_theirs {I} {s} {s'} {q} {p} x a b l f d h (waits_for z) =
        still refl (resting refl refl l (subst (Sel role pump drum I s.issued (q ++ (task x b a ∷ []))) (append-nil p) (sel_back role h (theirs d f nil))))
    try_theirs {I} {s} {s'} {q} {p} x a b l f d h at_guard =
        still refl (resting refl refl l (subst (Sel role pump drum I s.issued (q ++ (task x b a ∷ []))) (append-nil p) (sel_back role h (theirs d f nil))))

    idle_step : {I : ℕ → ℕ → Type 0} {s s' : Store} {q p : Queue} → Link role I s s' → Sel role pump drum I s.issued q p → OutN (next R (idle q s)) (idle p s')
    idle_step l nil = tt
    idle_step {I} {s} {s'} l (ours {x} {y} {a} {b} {q} {p} i g h) =
        let c = idle (task x b a ∷ q) s in
        let c' = idle (task y b a ∷ p) s' in
        jam_out (any_go R c (task x b a ∷ q)) (try_of R (readiness R c (task x b a)) c (task x b a) q) c'
        (try_ours x y a b l i g h (alike l x y a b g (ours {a = a} i g h)) refl)
    idle_step {I} {s} {s'} l (theirs {x} {a} {b} {q} {p} d f h) =
        let c = idle (task x b a ∷ q) s in
        jam_out (any_go R c (task x b a ∷ q)) (try_of R (readiness R c (task x b a)) c (task x b a) q) (idle p s') (try_theirs x a b l f d h (readiness R c (task x b a)))

    pub step : {c p : PaperState} → Inv c p → OutN (next R c) p
    step (pumping {x = x} {y = y} {a = a} {b = b} e e' l i g h) = rw (e, e') (pump_step x y a b l i g h)
    step (drumming {x = x} {a = a} {b = b} e e' l g f h) = rw (e, e') (drum_step x a b l f g h)
    step (resting e e' l h) = rw (e, e') (idle_step l h)
