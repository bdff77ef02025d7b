-- What the runner says is what the table of the document says of the state that the call left.
-- Assumes nothing.
use Prim.Native.Nat.{ℕ, ◌+◌, ◌*◌, ◌≤◌, ◌<◌}
use mathlib.Core.Path.{◌≡◌, refl, sym, ap, ◌∙◌, subst}
use mathlib.Core.Logic.Iff
use mathlib.Core.Logic.{◌↔◌, ◌⊎◌, inl, inr, ⊎_elim, dite}
use mathlib.Core.Bool.{Bool, true, false, ◌&&◌, cond, true≢false, false≢true}
use mathlib.Core.Option.{Option, none, some}
use mathlib.Core.List.{List}
use native.Mathlib.Omega.{arith}
use native.Mathlib.Decide.{dec_lt, ℕ_discrete}
use lib.Dec.{eqb, leb}
use lib.IntN.{ℤ}
use lib.ListN.{length, get_or, drop, get_or-eq_default}
use borrow.Author.Tests.{eq-eqb, ne_eqb, le-leb, leb-true, leb-false, eqb-true}
use Rattle.rules.specs.Recipe.{Expr, Recipe, Within, value}
use Rattle.rules.specs.Table.{Verdict, fine, fault, ◌else◌, records, kind_of, inner, expr_of, check, recipe_of}
use Rattle.rules.specs.Places.{Point, nowhere, stop, skips, assigns, tests, spawns, suspends, awaits, guards, at, stands, is_place, start}
use Rattle.rules.specs.Standing.{next_of, point_at}
use Rattle.rules.specs.State.{Store, Task, State, live, check_block, read_block}
use Rattle.rules.specs.Scheduler.{Halt, novalue, halts, bar, next_act, next, Ending, finished, paused, stuck, logfull, halted, number_of, run, ending, last}
use Rattle.rules.specs.Steps.{limits, counting, env_of, needing, spawn_at, act_at, recipes}
use Rattle.rules.specs.Run.{start_with, start_on, place_of, outcome, room_of, Opened, opens, open_with, open_on, run_with, run_on}
use Rattle.rules.specs.Run as R
use Rattle.rules.specs.Demand.{Bytes}
use Rattle.rules.specs.Answers.{of_table, refuses, Refused, Accepted, NextSpawns, NextLacks, Says, RunSays, StartSays}
use Rattle.rules.specs.Fairness.{Every}
use Rattle.rules.specs.NoValue.{needs}
use Rattle.rules.proofs.Answers.{Numbers, check-number, ending-published, opened_number, fresh-fits, fresh-read, some_recipe}
use Rattle.rules.proofs.Fit.{TaskFit, Fit}
use Rattle.rules.proofs.Steps.{run_fits}
use Rattle.rules.proofs.Blocks.{fit_read, read-write}
use Rattle.rules.proofs.Grammar.Theorem.{accepted-spells}
use Rattle.rules.proofs.Standing.{choose, at_is, at_start, at_end, at_past, kind_at, size}
use Rattle.rules.proofs.Scheduling.Bound.{jam-stuck, stuck-jam, finish-empty, empty-finish}
use Rattle.rules.proofs.Scheduling.Endings.{stopped, ending_by, by_number}
use Rattle.rules.proofs.NoValue.{needed_by, needs_point, Why, lacks, limited, bars, no_value_holds}

-- ---- a spawn at an index

abbrev is_spawn : {A : Type 0} → Point A → Bool
is_spawn nowhere = false
is_spawn stop = false
is_spawn (skips k) = false
is_spawn (assigns n e k) = false
is_spawn (tests e k l) = false
is_spawn (spawns n p e k) = true
is_spawn (suspends k) = false
is_spawn (awaits n k) = false
is_spawn (guards e k) = false

-- what stands at a part's start is a spawn where its kind is 6
other_point : (p : List ℕ) (i next : ℕ) → ¬ (kind_of p ≡ 6) → is_spawn (point_at p i next) ≡ false
unfolding point_at
other_point p i next h =
    choose is_spawn false (kind_of p) 1 _ _ refl (λ _.
    choose is_spawn false (kind_of p) 2 _ _ refl (λ _.
    choose is_spawn false (kind_of p) 3 _ _ refl (λ _.
    choose is_spawn false (kind_of p) 4 _ _ refl (λ _.
    choose is_spawn false (kind_of p) 5 _ _ refl (λ _.
    rw (ne_eqb (kind_of p) 6 h)
    (choose is_spawn false (kind_of p) 7 _ _ refl (λ _.
    choose is_spawn false (kind_of p) 8 _ _ refl (λ _. choose is_spawn false (kind_of p) 13 _ _ refl (λ _. refl)))))))))

spawn_point : (p : List ℕ) (i next : ℕ) → is_spawn (point_at p i next) ≡ eqb (kind_of p) 6
unfolding point_at
spawn_point p i next = dite (ℕ_discrete (kind_of p) 6) (λ e. rw e refl) (λ h. other_point p i next h ∙ sym (ne_eqb (kind_of p) 6 h))

-- what is needed of a record is of the kinds 3 to 6
needed-kind : (k : ℕ) (p : List ℕ) (e : Expr) → needed_by k p ≡ some e → (3 ≤ k) × (k ≤ 6) × (expr_of (inner p) ≡ e)
needed-kind k p e h = go (leb 3 k) (leb k 6) refl refl h
  where
    go : (a b : Bool) → leb 3 k ≡ a → leb k 6 ≡ b → cond (a && b) (some (expr_of (inner p))) none ≡ some e → (3 ≤ k) × (k ≤ 6) × (expr_of (inner p) ≡ e)
    go true true f g h = (leb-true 3 k f, leb-true k 6 g, cc)
    go true false f g h = absurd (let z : ◌≡◌ {A = ℕ} 0 1 = cc in omega arith)
    go false b f g h = absurd (let z : ◌≡◌ {A = ℕ} 0 1 = cc in omega arith)

-- a limit bars a spawn whose argument has a value
limit_halts : (r : Recipe) (p : Point ℕ) (s : Store) (q : List (Task ℕ)) (u : Task ℕ) (k : Halt) → is_spawn p ≡ true → ((e : Expr) → needs p ≡ some e → ¬ (value (env_of s u) e ≡ none))
    → limits (length q) s.issued ≡ some k → act_at counting (start r) limits p s q u ≡ halts k
limit_halts r nowhere s q u k e n h = absurd (false≢true e)
limit_halts r stop s q u k e n h = absurd (false≢true e)
limit_halts r (skips l) s q u k e n h = absurd (false≢true e)
limit_halts r (assigns v x l) s q u k e n h = absurd (false≢true e)
limit_halts r (tests x l m) s q u k e n h = absurd (false≢true e)
limit_halts r (suspends l) s q u k e n h = absurd (false≢true e)
limit_halts r (awaits v l) s q u k e n h = absurd (false≢true e)
limit_halts r (guards x l) s q u k e n h = absurd (false≢true e)
limit_halts r (spawns v p x l) s q u k e n h = rw h (go (value (env_of s u) x) (n x refl))
  where
    go : (o : Option ℤ) → ¬ (o ≡ none) → needing o (λ z. spawn_at counting (some k) s u v (start r p) z l) ≡ halts k
    go none g = absurd (g refl)
    go (some z) g = refl

-- only 24 names a record
pub no_record : (e : Ending) (c : State) → ¬ (number_of e ≡ 24) → place_of e c ≡ 0
unfolding number_of
no_record finished c h = refl
no_record paused c h = refl
no_record stuck c h = refl
no_record logfull c h = refl
no_record (halted Halt.tasks) c h = refl
no_record (halted Halt.spent) c h = refl
no_record (halted novalue) c h = absurd (h refl)

-- a limit is not 24
other_halt : {k : Halt} → ¬ (number_of (halted k) ≡ 24) → ¬ (k ≡ novalue)
unfolding number_of
other_halt n e = n (ap (λ k. number_of (halted k)) e)

module _ (t : List ℕ) (bytes : Bytes t) (fits : check t ≡ fine) where
  abbrev r : Recipe
  r = recipe_of t

  within : Within r
  within = (accepted-spells t bytes fits).within

  -- what holds of all that its record can say, and of the end behind the last record, holds of what stands at a place
  by_record : (P : Point ℕ → Type 0) (i : ℕ) → is_place r i ≡ true → ((next : ℕ) → P (point_at (drop (8 * i) t) i next)) → (length t ≤ 8 * i → P stop) → P (at r i)
  by_record P i h f g =
      dite (ℕ_discrete i 0)
      (λ e. absurd (false≢true (sym (ap (is_place r) e ∙ ap stands (at_start t bytes fits)) ∙ h)))
      (λ some.
      dite (dec_lt i (records t))
      (λ l. subst P (sym (at_is t bytes fits i (omega arith) l)) (f (next_of (at r i))))
      (λ k.
      dite (dec_lt (records t) i)
      (λ l. absurd (false≢true (sym (ap stands (at_past t bytes fits i l)) ∙ h)))
      (λ m.
      let e : i ≡ records t = omega arith in
      subst P (sym (ap (at r) e ∙ at_end t bytes fits)) (g (omega (arith, size t bytes fits))))))

  -- a spawn exactly where the record has kind 6, an expression that is needed exactly where it has kind 3 to 6
  spawn-kind : (i : ℕ) → is_place r i ≡ true → is_spawn (at r i) ≡ eqb (get_or t (8 * i) 0) 6
  spawn-kind i h =
      by_record (λ x. is_spawn x ≡ eqb (get_or t (8 * i) 0) 6) i h
      (λ next. spawn_point (drop (8 * i) t) i next ∙ ap (λ (k : ℕ). eqb k 6) (kind_at t (8 * i)))
      (λ l. sym (ap (λ (k : ℕ). eqb k 6) (get_or-eq_default t 0 l)))

  needs-there : (i : ℕ) → is_place r i ≡ true → needs (at r i) ≡ needed_by (get_or t (8 * i) 0) (drop (8 * i) t)
  needs-there i h =
      by_record (λ x. needs x ≡ needed_by (get_or t (8 * i) 0) (drop (8 * i) t)) i h
      (λ next. needs_point (drop (8 * i) t) i next ∙ ap (λ (k : ℕ). needed_by k (drop (8 * i) t)) (kind_at t (8 * i)))
      (λ l. sym (ap (λ (k : ℕ). needed_by k (drop (8 * i) t)) (get_or-eq_default t 0 l)))

  -- ---- what bars the active task's step, by the table's bytes

  module _ (c : State) (f : Fit r c) where
    -- the active task stands at a place
    placed : (u : Task ℕ) → c.active ≡ some u → is_place r u.place ≡ true
    placed u a = (subst (λ (o : Option (Task ℕ)). Every (TaskFit r c.store) (live (record { store = c.store; active = o; queue = c.queue }))) a f.tasks_fit).0.placed

    lacks-there : (u : Task ℕ) (e : Expr) → c.active ≡ some u → needs (at r u.place) ≡ some e → value (env_of c.store u) e ≡ none → NextLacks t c
    lacks-there u e a n v =
        let (low, high, is) = needed-kind (get_or t (8 * u.place) 0) (drop (8 * u.place) t) e (sym (needs-there u.place (placed u a)) ∙ n) in
        record { task = u; acts = a; from_set = low; to_spawn = high; lacks = ap (value (env_of c.store u)) is ∙ v }

    needed-there : (x : NextLacks t c) → needs (at r x.task.place) ≡ some (expr_of (inner (drop (8 * x.task.place) t)))
    needed-there x = needs-there x.task.place (placed x.task x.acts) ∙ rw (le-leb 3 _ x.from_set, le-leb _ 6 x.to_spawn) refl

    novalue_when : (next (recipes r) c ≡ bar novalue) ↔ NextLacks t c
    novalue_when =
        let holds = no_value_holds r c in (
          λ h. let x = holds.not_done.0 h in lacks-there x.task x.expr x.acts x.needed ((holds.no_value (env_of c.store x.task) x.expr).1 x.lacks),
          λ x.
              let e = expr_of (inner (drop (8 * x.task.place) t)) in
              holds.not_done.1 (record { task = x.task; expr = e; acts = x.acts; needed = needed-there x; lacks = (holds.no_value (env_of c.store x.task) e).0 x.lacks }),
        )

    limit_when : (k : Halt) → ¬ (k ≡ novalue) → (next (recipes r) c ≡ bar k) ↔ (NextSpawns t c × (¬ NextLacks t c) × (limits (length c.queue) c.store.issued ≡ some k))
    limit_when k other = (λ h. let x = bars r c.store c.active c.queue k h in by x.task h x.acts refl x.why, λ h. spawn-bars h.0 h.1 h.2)
      where
        -- a step is barred in one way
        one_way : {k : Halt} → ¬ (k ≡ novalue) → next (recipes r) c ≡ bar k → ¬ NextLacks t c
        one_way {k} other h x = other (let y = novalue_when.1 x in let z : bar k ≡ bar novalue = sym h ∙ y in cc)

        by : (u : Task ℕ) {j : Halt} → next (recipes r) c ≡ bar k → c.active ≡ some u → k ≡ j → Why r c.store c.queue u (at r u.place) j
            → NextSpawns t c × (¬ NextLacks t c) × (limits (length c.queue) c.store.issued ≡ some k)
        by u h a i (lacks e n v) = absurd (other i)
        by u h a i (limited n m e l z p v f) = (
          record { task = u; acts = a; is_spawn_holds = eqb-true (get_or t (8 * u.place) 0) 6 (sym (spawn-kind u.place (placed u a)) ∙ ap is_spawn p) },
          one_way other h,
          f ∙ ap some (sym i),
        )

        spawn-bars : (n : NextSpawns t c) → ¬ NextLacks t c → limits (length c.queue) c.store.issued ≡ some k → next (recipes r) c ≡ bar k
        spawn-bars n g l =
            let u = n.task in
            let kind = spawn-kind u.place (placed u n.acts) ∙ eq-eqb (get_or t (8 * u.place) 0) 6 n.is_spawn_holds in
            rw n.acts (ap (next_act (recipes r) c.queue) (limit_halts r (at r u.place) c.store c.queue u k kind (λ e m v. g (lacks-there u e n.acts m v)) l))

  -- ---- the state that a call leaves, by the call's number

  tasks_when : (queued issued : ℕ) → (limits queued issued ≡ some Halt.tasks) ↔ (31 ≤ queued)
  unfolding limits
  tasks_when queued issued = go (leb 31 queued) (leb 65535 issued) refl
    where
      go : (a b : Bool) → leb 31 queued ≡ a → (cond a (some Halt.tasks) (cond b (some Halt.spent) none) ≡ some Halt.tasks) ↔ (31 ≤ queued)
      go true b e = (λ h. leb-true 31 queued e, λ h. refl)
      go false true e = (λ h. absurd (let z : ◌≡◌ {A = ℕ} 0 1 = cc in omega arith), λ h. absurd (omega (arith, leb-false 31 queued e)))
      go false false e = (λ h. absurd (let z : ◌≡◌ {A = ℕ} 0 1 = cc in omega arith), λ h. absurd (omega (arith, leb-false 31 queued e)))

  spent_when : (queued issued : ℕ) → (limits queued issued ≡ some Halt.spent) ↔ ((queued < 31) × (65535 ≤ issued))
  unfolding limits
  spent_when queued issued = go (leb 31 queued) (leb 65535 issued) refl refl
    where
      go : (a b : Bool) → leb 31 queued ≡ a → leb 65535 issued ≡ b → (cond a (some Halt.tasks) (cond b (some Halt.spent) none) ≡ some Halt.spent) ↔ ((queued < 31) × (65535 ≤ issued))
      go true b e f = (λ h. absurd (let z : ◌≡◌ {A = ℕ} 0 1 = cc in omega arith), λ h. absurd (omega (arith, h.0, leb-true 31 queued e)))
      go false true e f = (λ h. (leb-false 31 queued e, leb-true 65535 issued f), λ h. refl)
      go false false e f = (λ h. absurd (let z : ◌≡◌ {A = ℕ} 0 1 = cc in omega arith), λ h. absurd (omega (arith, h.1, leb-false 65535 issued f)))

  -- a live task is counted beside the queue
  spawning_live : (c : State) → NextSpawns t c → length (live c) ≡ length c.queue + 1
  spawning_live c n = rw n.acts (omega arith)

  says_of : (b : List ℕ) → Fit r (read_block b) → (budget : ℕ) (l : List ℕ) → let o = outcome r (run (recipes r) budget (room_of l) (read_block b)) l in
      Says t budget l o (last (recipes r) (run (recipes r) budget (room_of l) (read_block b)))
  unfolding outcome number_of
  says_of b f budget l =
      let u = run (recipes r) budget (room_of l) (read_block b) in
      let c = last (recipes r) u in
      let k = stopped (recipes r) budget (room_of l) (read_block b) in
      let by = by_number (recipes r) budget (room_of l) (read_block b) in
      let fit = run_fits r within budget (room_of l) (read_block b) f in
      let in_budget = k.in_budget in
      let in_room = k.in_room in
      record {
        finished = (λ h. finish-empty (recipes r) c ((by finished).0 h), λ h. (by finished).1 (empty-finish (recipes r) c h.0 h.1));
        stuck = (λ h. jam-stuck (recipes r) c ((by stuck).0 h), λ h. (by stuck).1 (stuck-jam (recipes r) c h));
        paused = (
          λ h.
              let z = (by paused).0 h in
              (omega (arith, z.0), (λ g. z.1 (empty-finish (recipes r) c g.0 g.1)), λ g. z.2 (stuck-jam (recipes r) c g)),
          λ h. (by paused).1 (omega (arith, h.0), (λ g. h.1 (finish-empty (recipes r) c g)), λ g. h.2 (jam-stuck (recipes r) c g)),
        );
        novalue = (
          λ h. let z = (by (halted novalue)).0 h in (omega (arith, z.0), (novalue_when c fit).0 z.1),
          λ h. (by (halted novalue)).1 (omega (arith, h.0), (novalue_when c fit).1 h.1),
        );
        tasks = (
          λ h.
              let z = (by (halted Halt.tasks)).0 h in
              let a = (limit_when c fit Halt.tasks (other_halt (λ e. omega arith))).0 z.1 in
              (omega (arith, z.0), a.0, a.1, omega (arith, spawning_live c a.0, (tasks_when (length c.queue) c.store.issued).0 a.2, fit.few)),
          λ h. (by (halted Halt.tasks)).1 (omega (arith, h.0), (limit_when c fit Halt.tasks (other_halt (λ e. omega arith))).1 (h.1, h.2, (tasks_when (length c.queue) c.store.issued).1 (omega (arith, h.3, spawning_live c h.1)))),
        );
        spent = (
          λ h.
              let z = (by (halted Halt.spent)).0 h in
              let a = (limit_when c fit Halt.spent (other_halt (λ e. omega arith))).0 z.1 in
              let (few, many) = (spent_when (length c.queue) c.store.issued).0 a.2 in
              (omega (arith, z.0), a.0, a.1, omega (arith, spawning_live c a.0), omega (arith, fit.store-fits.issued-fits)),
          λ h. (by (halted Halt.spent)).1 (omega (arith, h.0), (limit_when c fit Halt.spent (other_halt (λ e. omega arith))).1 (h.1, h.2, (spent_when (length c.queue) c.store.issued).1 (omega (arith, h.3, spawning_live c h.1), omega (arith, h.4)))),
        );
        logfull = (
          λ h.
              let z = (by logfull).0 h in
              (omega (arith, z.0), record { event = z.2.0; after = z.2.1; writes = z.2.2 }, omega (arith, z.1)),
          λ h. (by logfull).1 (omega (arith, h.0), omega (arith, h.2), (h.1.event, h.1.after, h.1.writes)),
        );
        in_budget = in_budget;
        names_record = λ h x. rw (ending_by (ending (recipes r) u) (halted novalue) h, x.acts) refl;
        no_place = no_record (ending (recipes r) u) c;
      }

-- ---- run

-- what opens, and what refuses
opened : (t b : List ℕ) → Accepted t b → open_on t b ≡ opens (recipe_of t) (read_block b)
unfolding open_on
opened t b a = rw (a.0, a.1) refl

refused_by : (t b : List ℕ) (n i : ℕ) → Refused t b n i ↔ (open_on t b ≡ R.refuses n i)
unfolding open_on
refused_by t b n i = go (check t) (check_block (is_place (recipe_of t)) b)
  where
    go : (v w : Verdict) → ((v ≡ fault n i) ⊎ ((v ≡ fine) × (w ≡ fault n i))) ↔ (open_with (v else w) (recipe_of t) b ≡ R.refuses n i)
    go (fault m j) w = (⊎_elim (λ e. cc) (λ e. absurd (let e' = e.0 in let z : ◌≡◌ {A = ℕ} 0 1 = cc in omega arith)), λ e. inl cc)
    go fine (fault m j) = (⊎_elim (λ e. absurd (let z : ◌≡◌ {A = ℕ} 0 1 = cc in omega arith)) (λ e. let e' = e.1 in cc), λ e. inr (refl, cc))
    go fine fine = (⊎_elim (λ e. absurd (let z : ◌≡◌ {A = ℕ} 0 1 = cc in omega arith)) (λ e. absurd (let e' = e.1 in let z : ◌≡◌ {A = ℕ} 0 1 = cc in omega arith)), λ e. absurd (let z : ◌≡◌ {A = ℕ} 0 1 = cc in omega arith))

-- table and block are accepted or refused, and so they open
pub which_opens : (t b : List ℕ) → ((n : ℕ) × (i : ℕ) × (open_on t b ≡ R.refuses n i) × (¬ Accepted t b)) ⊎ (Accepted t b × (open_on t b ≡ opens (recipe_of t) (read_block b)))
which_opens t b = go (check t) (check_block (is_place (recipe_of t)) b) refl refl
  where
    other : {n i : ℕ} {v : Verdict} → v ≡ fault n i → ¬ (v ≡ fine)
    other h e = let z : ◌≡◌ {A = ℕ} 0 1 = cc in omega arith

    go : (v w : Verdict) → check t ≡ v → check_block (is_place (recipe_of t)) b ≡ w
        → ((n : ℕ) × (i : ℕ) × (open_on t b ≡ R.refuses n i) × (¬ Accepted t b)) ⊎ (Accepted t b × (open_on t b ≡ opens (recipe_of t) (read_block b)))
    go (fault n i) w h g = inl (n, i, (refused_by t b n i).0 (inl h), λ a. other h a.0)
    go fine (fault n i) h g = inl (n, i, (refused_by t b n i).0 (inr (h, g)), λ a. other g a.1)
    go fine fine h g = inr ((h, g), opened t b (h, g))

-- an answer's number and place are those of a refusal exactly where table or block is refused
pub refusal_said : (number place : Opened → ℕ) → ((m j : ℕ) → number (R.refuses m j) ≡ m) → ((m j : ℕ) → place (R.refuses m j) ≡ j) → ((r : Recipe) (c : State) → refuses (number (opens r c)) ≡ false)
    → (t b : List ℕ) (n i : ℕ) → Refused t b n i ↔ ((refuses n ≡ true) × (number (open_on t b) ≡ n) × (place (open_on t b) ≡ i))
refusal_said number place p q g t b n i = Iff.trans (refused_by t b n i) (go (open_on t b) (λ m j e. opened_number t b m j e))
  where
    go : (o : Opened) → ((m j : ℕ) → o ≡ R.refuses m j → refuses m ≡ true) → (o ≡ R.refuses n i) ↔ ((refuses n ≡ true) × (number o ≡ n) × (place o ≡ i))
    go (R.refuses m j) f = (λ e. (f n i e, p m j ∙ cc, q m j ∙ cc), λ h. let a = sym (p m j) ∙ h.1 in let d = sym (q m j) ∙ h.2 in cc)
    go (opens r c) f = (λ e. absurd (let z : ◌≡◌ {A = ℕ} 0 1 = cc in omega arith), λ h. absurd (true≢false (sym h.0 ∙ ap refuses (sym h.1) ∙ g r c)))

pub run-says : (t b : List ℕ) → Bytes t → Bytes b → (budget : ℕ) (l : List ℕ) → RunSays t b budget l (run_on t b budget l)
unfolding run_on outcome
run-says t b bt bb budget l =
    record {
      refused = refusal_said (λ o. (run_with o b budget l).number) (λ o. (run_with o b budget l).place) (λ m j. refl) (λ m j. refl)
          (λ r c. (ending-published (ending (recipes r) (run (recipes r) budget (room_of l) c))).1) t b;
      says = λ a.
          let f = fit_read (recipe_of t) b bb a.1 in
          let w = (accepted-spells t bt a.0).within in
          let left = read-write (recipe_of t) _ (run_fits (recipe_of t) w budget (room_of l) (read_block b) f) in
          rw (opened t b a, left) (says_of t bt a.0 b f budget l);
    }

-- ---- start

pub start-says : (t b : List ℕ) → StartSays t b (start_on t b)
unfolding start_on
start-says t b = go (check t) (eqb (length b) 776) (check-number t) refl refl
  where
    no_number : (n m : ℕ) → of_table n ≡ true → of_table m ≡ false → ¬ (n ≡ m)
    no_number n m h g e = true≢false (sym h ∙ ap of_table e ∙ g)

    go : (v : Verdict) (x : Bool) → Numbers of_table v → check t ≡ v → eqb (length b) 776 ≡ x → StartSays t b (start_with (v else cond x fine (fault 21 0)) b)
    go fine true h p e =
        record {
          refused = λ n i. (λ z. absurd (let y = sym p ∙ z in let o : ◌≡◌ {A = ℕ} 0 1 = cc in omega arith), λ z. absurd (no_number n 0 z.0 refl (sym z.1)));
          short = (λ z. absurd (omega arith), λ z. absurd (z.1 (eqb-true (length b) 776 e)));
          accepted = (λ z. (p, eqb-true (length b) 776 e), λ z. refl);
          no_place = λ z. refl;
          fresh_left = λ z. ((p, fresh-fits (is_place (recipe_of t)) (some_recipe t p)), fresh-read);
        }
    go fine false h p e =
        let other : ¬ (length b ≡ 776) = λ z. false≢true (sym e ∙ eq-eqb (length b) 776 z) in
        record {
          refused = λ n i. (λ z. absurd (let y = sym p ∙ z in let o : ◌≡◌ {A = ℕ} 0 1 = cc in omega arith), λ z. absurd (no_number n 21 z.0 refl (sym z.1)));
          short = (λ z. (p, other), λ z. refl);
          accepted = (λ z. absurd (omega arith), λ z. absurd (other z.1));
          no_place = λ z. refl;
          fresh_left = λ z. absurd (omega arith);
        }
    go (fault m j) x h p e =
        let not-fine : ¬ (check t ≡ fine) = λ z. (let y = sym p ∙ z in let o : ◌≡◌ {A = ℕ} 0 1 = cc in omega arith) in
        record {
          refused = λ n i. (λ z. let y = sym p ∙ z in let a : m ≡ n = cc in let c : j ≡ i = cc in (subst (λ (k : ℕ). of_table k ≡ true) a h, a, c), λ z. let a = z.1 in let c = z.2 in p ∙ cc);
          short = (λ z. absurd (no_number m 21 h refl z), λ z. absurd (not-fine z.0));
          accepted = (λ z. absurd (no_number m 0 h refl z), λ z. absurd (not-fine z.0));
          no_place = λ z. absurd (not-fine z);
          fresh_left = λ z. absurd (no_number m 0 h refl z);
        }
