-- What stands at a place of an accepted table, by the first byte of its record.
-- Assumes nothing.
use Prim.Native.Nat.{ℕ, suc, ◌+◌, ◌*◌, ◌≤◌, ◌<◌}
use mathlib.Core.Path.{◌≡◌, refl, sym, ap, ap₂, ◌∙◌}
use mathlib.Core.Bool.{Bool, true, false, ◌&&◌, ◌||◌, cond, true≢false}
use mathlib.Core.List.{List}
use mathlib.Core.Logic.{dite}
use native.Mathlib.Decide.{dec_lt, ℕ_discrete}
use native.Mathlib.Omega.{arith}
use lib.Dec.{eqb, leb}
use lib.IntN.{ℤ}
use lib.ListN.{length, get_or, drop, length-drop, get_or-eq_default}
use lib.Seq.{get_or-drop}
use borrow.Author.Tests.{eq-eqb, ne_eqb, leb-true, eqb-true}
use Rattle.std.specs.Prelude.{Option, None, Some}
use Rattle.rules.specs.Demand.{Bytes}
use Rattle.rules.specs.Values.{is_true}
use Rattle.rules.specs.Recipe.{Expr, Recipe, read, value}
use Rattle.rules.specs.Table.{kind_of, name_of, span_of, inner, expr_of, records, fine, check, recipe_of}
use Rattle.rules.specs.Places.{Point, nowhere, stop, skips, assigns, tests, spawns, suspends, awaits, guards, at, is_place}
use Rattle.rules.specs.Standing.{next_of, point_at, at_place, Opens, StandsAt}
use Rattle.rules.specs.State.{History, Task, Store, State}
use Rattle.rules.specs.Scheduler.{ready, waits_for, at_guard, is_ready, is_live, can_go}
use Rattle.rules.specs.Steps.{is_done, env_of, go_to, wait_at, past_at, recipes}
use Rattle.rules.proofs.Verdicts.{and_true}
use Rattle.rules.proofs.Standing.{choose, kind_at, spells, size, at_is, stands_at, at_end, is-place}
use Rattle.table.specs.declared.check.Accepted.{Accepted}
use Rattle.table.specs.declared.record.Kind.{Kind}
use Rattle.table.specs.declared.record.Kind.TheVariants.{Procedure, Skip, Set, If, While, Spawn, Suspend, Await, Constant, Variable, Binary, Unary, Guard}
use Rattle.table.specs.Kinds.{kind_named, kind_there}
use Rattle.table.proofs.Numbered.{number-named}
use Rattle.links.specs.Links.{is_statement}
use Rattle.ready.specs.Ready.{ready_in, NotDone}

no_wait : {P : Type 0} → false ≡ true → P
no_wait h = let z : ◌≡◌ {A = ℕ} 0 1 = cc in absurd (omega arith)

-- ---- the kinds at which a task can wait

-- an await and a guard; none stands behind the last record
abbrev pub may_wait : Option Kind → Bool
may_wait (Some Await) = true
may_wait (Some Guard) = true
may_wait _ = false

await_or_guard : (k : Option Kind) → may_wait k ≡ true → ¬ (k ≡ Some Guard) → k ≡ Some Await
await_or_guard (Some Await) h g = refl
await_or_guard (Some Guard) h g = absurd (g refl)
await_or_guard None h g = no_wait h
await_or_guard (Some Procedure) h g = no_wait h
await_or_guard (Some Skip) h g = no_wait h
await_or_guard (Some Set) h g = no_wait h
await_or_guard (Some If) h g = no_wait h
await_or_guard (Some While) h g = no_wait h
await_or_guard (Some Spawn) h g = no_wait h
await_or_guard (Some Suspend) h g = no_wait h
await_or_guard (Some Constant) h g = no_wait h
await_or_guard (Some Variable) h g = no_wait h
await_or_guard (Some Binary) h g = no_wait h
await_or_guard (Some Unary) h g = no_wait h

pub neither : (k : Option Kind) → ¬ (k ≡ Some Await) → ¬ (k ≡ Some Guard) → may_wait k ≡ false
neither k f g = by (may_wait k) refl
  where
    by : (b : Bool) → may_wait k ≡ b → b ≡ false
    by true e = absurd (f (await_or_guard k e g))
    by false e = refl

other_named : (n : ℕ) → ¬ (n ≡ 8) → ¬ (n ≡ 13) → may_wait (kind_named n) ≡ false
other_named n f g = neither (kind_named n) (λ e. f (number-named n Await e)) (λ e. g (number-named n Guard e))

-- ---- awaits and guards among what can stand somewhere

abbrev pub is_wait : Point ℕ → Bool
is_wait nowhere = false
is_wait stop = false
is_wait (skips k) = false
is_wait (assigns n e k) = false
is_wait (tests e k l) = false
is_wait (spawns n p e k) = false
is_wait (suspends k) = false
is_wait (awaits n k) = true
is_wait (guards e k) = true

-- a task taken up there goes on at the next statement
pub record Waitable (x : Point ℕ) : Type 0 where
  pub goes_past : (t : Task ℕ) → past_at x t ≡ go_to t (next_of x)
  pub a-statement : is_statement x ≡ true

-- elsewhere a task is ready, and stays where it is
pub record Free (x : Point ℕ) : Type 0 where
  pub waits-not : (s : Store) (live : ℕ → Bool) (t : Task ℕ) → wait_at x s live t ≡ ready
  pub stays : (t : Task ℕ) → past_at x t ≡ t

waitable : (x : Point ℕ) → is_wait x ≡ true → Waitable x
waitable nowhere h = no_wait h
waitable stop h = no_wait h
waitable (skips k) h = no_wait h
waitable (assigns n e k) h = no_wait h
waitable (tests e k l) h = no_wait h
waitable (spawns n p e k) h = no_wait h
waitable (suspends k) h = no_wait h
waitable (awaits n k) h = record { goes_past = λ t. refl; a-statement = refl }
waitable (guards e k) h = record { goes_past = λ t. refl; a-statement = refl }

free : (x : Point ℕ) → is_wait x ≡ false → Free x
free nowhere h = record { waits-not = λ s live t. refl; stays = λ t. refl }
free stop h = record { waits-not = λ s live t. refl; stays = λ t. refl }
free (skips k) h = record { waits-not = λ s live t. refl; stays = λ t. refl }
free (assigns n e k) h = record { waits-not = λ s live t. refl; stays = λ t. refl }
free (tests e k l) h = record { waits-not = λ s live t. refl; stays = λ t. refl }
free (spawns n p e k) h = record { waits-not = λ s live t. refl; stays = λ t. refl }
free (suspends k) h = record { waits-not = λ s live t. refl; stays = λ t. refl }
free (awaits n k) h = no_wait (sym h)
free (guards e k) h = no_wait (sym h)

module _ (x : Point ℕ) (s : Store) (live : ℕ → Bool) (t : Task ℕ) where
  module _ (n k : ℕ) (e : x ≡ awaits n k) where
    abbrev awaited : ℤ
    awaited = read (env_of s t) n

    pub wait_over : is_done s.issued live awaited ≡ true → wait_at x s live t ≡ ready
    wait_over h = rw (e, h)

    pub wait-on : is_done s.issued live awaited ≡ false → wait_at x s live t ≡ waits_for awaited
    wait-on h = rw (e, h)

  module _ (g : Expr) (k : ℕ) (e : x ≡ guards g k) where
    pub guard_true : is_true (value (env_of s t) g) ≡ true → wait_at x s live t ≡ ready
    guard_true h = rw (e, h)

    pub guard-untrue : is_true (value (env_of s t) g) ≡ false → wait_at x s live t ≡ at_guard
    guard-untrue h = rw (e, h)

never : {P : Type 0} {z : ℤ} → ready ≡ waits_for z → P
never h = let b : ◌≡◌ {A = Bool} true false = ap is_ready h in absurd (true≢false b)

waits_at : (x : Point ℕ) (s : Store) (live : ℕ → Bool) (t : Task ℕ) (z : ℤ) → wait_at x s live t ≡ waits_for z → is_done s.issued live z ≡ false
waits_at nowhere s live t z h = never h
waits_at stop s live t z h = never h
waits_at (skips k) s live t z h = never h
waits_at (assigns n e k) s live t z h = never h
waits_at (tests e k l) s live t z h = never h
waits_at (spawns n p e k) s live t z h = never h
waits_at (suspends k) s live t z h = never h
waits_at (awaits n k) s live t z h = by (is_done s.issued live (read (env_of s t) n)) refl h
  where
    by : (b : Bool) → is_done s.issued live (read (env_of s t) n) ≡ b → cond b ready (waits_for (read (env_of s t) n)) ≡ waits_for z → is_done s.issued live z ≡ false
    by true e g = never g
    by false e g = let same : read (env_of s t) n ≡ z = cc in rw same at e
waits_at (guards e k) s live t z h = by (is_true (value (env_of s t) e)) h
  where
    by : (b : Bool) → cond b ready at_guard ≡ waits_for z → is_done s.issued live z ≡ false
    by true g = never g
    by false g = let z : ◌≡◌ {A = ℕ} 0 1 = cc in absurd (omega arith)

-- of a task only its parameter is read, and where it stands
same-wait : (x : Point ℕ) (s : Store) (live : ℕ → Bool) (n m p q : ℕ) (z : ℤ) (h i : History)
    → wait_at x s live (record { number = n; place = p; parameter = z; history = h }) ≡ wait_at x s live (record { number = m; place = q; parameter = z; history = i })
same-wait nowhere s live n m p q z h i = refl
same-wait stop s live n m p q z h i = refl
same-wait (skips k) s live n m p q z h i = refl
same-wait (assigns v e k) s live n m p q z h i = refl
same-wait (tests e k l) s live n m p q z h i = refl
same-wait (spawns v w e k) s live n m p q z h i = refl
same-wait (suspends k) s live n m p q z h i = refl
same-wait (awaits v k) s live n m p q z h i = refl
same-wait (guards e k) s live n m p q z h i = refl

-- so tasks that stand alike are ready or wait together
pub same_go : (r : Recipe) (c : State) (t u : Task ℕ) → t.place ≡ u.place → t.parameter ≡ u.parameter → can_go (recipes r) c t ≡ can_go (recipes r) c u
same_go r c t u e g =
    let live = is_live (recipes r) c.queue in
    ap is_ready
    (same-wait (at r t.place) c.store live t.number u.number t.place u.place t.parameter t.history u.history
    ∙ ap₂ (λ (p : ℕ) (z : ℤ). wait_at (at r p) c.store live (record { number = u.number; place = u.place; parameter = z; history = u.history })) e g)

-- what a task waits for is not done
pub waits_not_done : (table : List ℕ) (c : State) (t : Task ℕ) (z : ℤ) → ready_in table c t ≡ waits_for z → NotDone table c z
waits_not_done table c t z h = waits_at (at (recipe_of table) t.place) c.store (is_live (recipes (recipe_of table)) c.queue) t z h

other-kind : (p : List ℕ) (i next : ℕ) → ¬ (kind_of p ≡ 8) → ¬ (kind_of p ≡ 13) → is_wait (point_at p i next) ≡ false
unfolding point_at
other-kind p i next h g =
    choose is_wait false (kind_of p) 1 _ _ refl (λ _.
    choose is_wait false (kind_of p) 2 _ _ refl (λ _.
    choose is_wait false (kind_of p) 3 _ _ refl (λ _.
    choose is_wait false (kind_of p) 4 _ _ refl (λ _.
    choose is_wait false (kind_of p) 5 _ _ refl (λ _.
    choose is_wait false (kind_of p) 6 _ _ refl (λ _.
    choose is_wait false (kind_of p) 7 _ _ refl (λ _. rw (ne_eqb (kind_of p) 8 h, ne_eqb (kind_of p) 13 g))))))))

await-kind : (p : List ℕ) (i next : ℕ) → kind_of p ≡ 8 → point_at p i next ≡ awaits (name_of p) next
unfolding point_at
await-kind p i next h = rw h

guard-kind : (p : List ℕ) (i next : ℕ) → kind_of p ≡ 13 → point_at p i next ≡ guards (expr_of (inner p)) next
unfolding point_at
guard-kind p i next h = rw h

-- ---- a place

-- a place of an accepted table
pub record Place (t : List ℕ) (i : ℕ) : Type 0 where
  pub bytes : Bytes t
  pub accepted : check t ≡ fine
  pub placed : is_place (recipe_of t) i ≡ true

pub place_of : (a : Accepted) (i : ℕ) → is_place (recipe_of a.bytes.now) i ≡ true → Place a.bytes.now i
place_of a i p = record { bytes = a.in_bytes; accepted = a.fine; placed = p }

module _ {t : List ℕ} {i : ℕ} (p : Place t i) where
  pub within : (1 ≤ i) × (i ≤ records t) × ((eqb i (records t) || at_place (kind_of (drop (8 * i) t))) ≡ true)
  within =
      let kind = eqb i (records t) || at_place (kind_of (drop (8 * i) t)) in
      let a = and_true (leb 1 i && leb i (records t)) kind (sym (is-place t p.bytes p.accepted i) ∙ p.placed) in
      let b = and_true (leb 1 i) (leb i (records t)) a.0 in
      (leb-true 1 i b.0, leb-true i (records t) b.1, a.1)

  -- behind the last record
  pub end-there : length t ≤ 8 * i → at (recipe_of t) i ≡ stop
  end-there h =
      let w = within in
      let e : i ≡ records t = omega (arith, size t p.bytes p.accepted) in
      ap (at (recipe_of t)) e ∙ at_end t p.bytes p.accepted

  module _ (h : 8 * i < length t) where
    pub room : i < records t
    room = omega (arith, size t p.bytes p.accepted)

    pub point_there : at (recipe_of t) i ≡ point_at (drop (8 * i) t) i (next_of (at (recipe_of t) i))
    point_there = at_is t p.bytes p.accepted i within.0 room

    pub shape_there : StandsAt (length (recipe_of t)) (drop (8 * i) t)
    shape_there = stands_at t p.bytes p.accepted i within.0 room

    pub few-there : i < 4096
    few-there = omega (arith, size t p.bytes p.accepted, (spells t p.bytes p.accepted).within.few)

    await-there : kind_of (drop (8 * i) t) ≡ 8
        → at (recipe_of t) i ≡ awaits (name_of (drop (8 * i) t)) (next_of (at (recipe_of t) i))
    await-there e = point_there ∙ await-kind (drop (8 * i) t) i (next_of (at (recipe_of t) i)) e

    guard-there : kind_of (drop (8 * i) t) ≡ 13
        → at (recipe_of t) i ≡ guards (expr_of (inner (drop (8 * i) t))) (next_of (at (recipe_of t) i))
    guard-there e = point_there ∙ guard-kind (drop (8 * i) t) i (next_of (at (recipe_of t) i)) e

    wait-kind : is_wait (at (recipe_of t) i) ≡ may_wait (kind_named (kind_of (drop (8 * i) t)))
    wait-kind =
        let k = kind_of (drop (8 * i) t) in
        dite (ℕ_discrete k 8)
        (λ e. ap is_wait (await-there e) ∙ sym (ap (λ (n : ℕ). may_wait (kind_named n)) e))
        (λ f.
        dite (ℕ_discrete k 13)
        (λ e. ap is_wait (guard-there e) ∙ sym (ap (λ (n : ℕ). may_wait (kind_named n)) e))
        (λ g. ap is_wait point_there ∙ other-kind _ i _ f g ∙ sym (other_named k f g)))

  -- a task can wait there, by the kind; there is none behind the last record
  wait_is : is_wait (at (recipe_of t) i) ≡ may_wait (kind_there t (8 * i))
  wait_is =
      dite (dec_lt (8 * i) (length t))
      (λ l. wait-kind l ∙ ap (λ (n : ℕ). may_wait (kind_named n)) (kind_at t (8 * i)))
      (λ l. ap is_wait (end-there (omega arith)) ∙ sym (ap (λ (n : ℕ). may_wait (kind_named n)) (get_or-eq_default t 0 (omega arith))))

  pub inside-table : {k : ℕ} → get_or t (8 * i) 0 ≡ suc k → 8 * i < length t
  inside-table e = dite (dec_lt (8 * i) (length t)) (λ l. l) (λ l. absurd (omega (arith, e, get_or-eq_default t 0 {n = 8 * i} (omega arith))))

  -- the record of an await or of a guard, by the byte of its kind
  pub record AwaitThere : Type 0 where
    pub inside : 8 * i + 1 < length t
    pub named : get_or t (8 * i + 1) 0 ≤ 64
    pub is : at (recipe_of t) i ≡ awaits (get_or t (8 * i + 1) 0) (next_of (at (recipe_of t) i))

  pub await-read : kind_there t (8 * i) ≡ Some Await → AwaitThere
  await-read h =
      let e = number-named (get_or t (8 * i) 0) Await h in
      let l = inside-table e in
      let n : name_of (drop (8 * i) t) ≡ get_or t (8 * i + 1) 0 = get_or-drop (8 * i) t 1 0 in
      let s = shape_there l in
      record {
        inside = omega (arith, s.whole, length-drop (8 * i) t);
        named = rw n at s.named;
        is = rw n at (await-there l (kind_at t (8 * i) ∙ e));
      }

  pub record GuardThere : Type 0 where
    pub inside : 8 * i < length t
    pub whole : 8 + 8 * span_of (drop (8 * i) t) ≤ length (drop (8 * i) t)
    pub opens : Opens (drop (8 * i) t)
    pub is : at (recipe_of t) i ≡ guards (expr_of (inner (drop (8 * i) t))) (next_of (at (recipe_of t) i))

  pub guard-read : kind_there t (8 * i) ≡ Some Guard → GuardThere
  guard-read h =
      let e = number-named (get_or t (8 * i) 0) Guard h in
      let l = inside-table e in
      let k = kind_at t (8 * i) ∙ e in
      let s = shape_there l in
      record { inside = l; whole = s.whole; opens = s.guarded k; is = guard-there l k }

  -- the same, by the first byte of the record
  pub guard-is : eqb (kind_of (drop (8 * i) t)) 13 ≡ true → kind_there t (8 * i) ≡ Some Guard
  guard-is h = ap kind_named (sym (kind_at t (8 * i)) ∙ eqb-true (kind_of (drop (8 * i) t)) 13 h)

  pub no-guard : eqb (kind_of (drop (8 * i) t)) 13 ≡ false → ¬ (kind_there t (8 * i) ≡ Some Guard)
  no-guard h g =
      let e = kind_at t (8 * i) ∙ number-named (get_or t (8 * i) 0) Guard g in
      absurd (true≢false (sym (eq-eqb (kind_of (drop (8 * i) t)) 13 e) ∙ h))

  -- either, and elsewhere
  pub waitable_there : may_wait (kind_there t (8 * i)) ≡ true → Waitable (at (recipe_of t) i)
  waitable_there h = waitable (at (recipe_of t) i) (wait_is ∙ h)

  pub free-there : may_wait (kind_there t (8 * i)) ≡ false → Free (at (recipe_of t) i)
  free-there h = free (at (recipe_of t) i) (wait_is ∙ h)

  pub waitable_inside : may_wait (kind_there t (8 * i)) ≡ true → 8 * i < length t
  waitable_inside h = dite (dec_lt (8 * i) (length t)) (λ l. l) (λ l. no_wait (sym (ap (λ (n : ℕ). may_wait (kind_named n)) (get_or-eq_default t 0 {n = 8 * i} (omega arith))) ∙ h))

  -- a task that waits stands at an await, and waits for its value, or at a guard
  module _ (s : Store) (live : ℕ → Bool) (u : Task ℕ) (h : is_ready (wait_at (at (recipe_of t) i) s live u) ≡ false) where
    not-ready : {P : Type 0} → wait_at (at (recipe_of t) i) s live u ≡ ready → P
    not-ready e = absurd (true≢false (sym (ap is_ready e) ∙ h))

    pub waits_there : may_wait (kind_there t (8 * i)) ≡ true
    waits_there = by (may_wait (kind_there t (8 * i))) refl
      where
        by : (b : Bool) → may_wait (kind_there t (8 * i)) ≡ b → b ≡ true
        by true e = refl
        by false e = not-ready ((free-there e).waits-not s live u)

    pub waits-value : (a : AwaitThere) → wait_at (at (recipe_of t) i) s live u ≡ waits_for (read (env_of s u) (get_or t (8 * i + 1) 0))
    waits-value a = by (is_done s.issued live (read (env_of s u) (get_or t (8 * i + 1) 0))) refl
      where
        by : (b : Bool) → is_done s.issued live (read (env_of s u) (get_or t (8 * i + 1) 0)) ≡ b → wait_at (at (recipe_of t) i) s live u ≡ waits_for (read (env_of s u) (get_or t (8 * i + 1) 0))
        by true e = not-ready (wait_over _ s live u _ _ a.is e)
        by false e = wait-on _ s live u _ _ a.is e

    pub waits-guard : (a : GuardThere) → wait_at (at (recipe_of t) i) s live u ≡ at_guard
    waits-guard a = by (is_true (value (env_of s u) (expr_of (inner (drop (8 * i) t))))) refl
      where
        by : (b : Bool) → is_true (value (env_of s u) (expr_of (inner (drop (8 * i) t)))) ≡ b → wait_at (at (recipe_of t) i) s live u ≡ at_guard
        by true e = not-ready (guard_true _ s live u _ _ a.is e)
        by false e = guard-untrue _ s live u _ _ a.is e

    -- where it is no guard, it is an await
    pub waits-await : ¬ (kind_there t (8 * i) ≡ Some Guard) → AwaitThere
    waits-await n = await-read (await_or_guard (kind_there t (8 * i)) waits_there n)
