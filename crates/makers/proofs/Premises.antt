-- What the tests on a recipe give at each use of a name, and at the main block.
-- Assumes nothing.
use Prim.Native.Nat.{ℕ}
use mathlib.Core.Path.{◌≡◌, refl, sym, ap, ap₂, ◌∙◌, subst}
use mathlib.Core.Logic.{◌⊎◌, inl, inr}
use mathlib.Core.Bool.{Bool, true, false, ◌&&◌, ◌||◌, not, cond, true≢false, false≢true}
use mathlib.Core.Option.{Option, none, some}
use mathlib.Core.List.{List, [], ◌∷◌}
use native.Mathlib.Omega.{arith}
use lib.Dec.{eqb, leb}
use lib.ListN.{get_or}
use borrow.Author.Tests.{eqb-true, eq-eqb, ne_eqb, leb-true}
use Rattle.rules.specs.Recipe.{constant, variable, two, one, Stmt, skip, assign, if, while, spawn, suspend, await, guard, Body, fin, ◌▸◌, Recipe}
use Rattle.rules.specs.Fairness.{Every}
use Rattle.rules.specs.Why.{among}
use Rattle.rules.proofs.Verdicts.{and_true, not_true}
use Rattle.makers.specs.Uses.{Use, reads, sets, spawns_into, awaits_it, named, own, every_use, names}
use Rattle.makers.specs.Makers.{apart, Starts, starts_s, then_starts, starts_of, unnamed, one_of_each, opens_both, main_spawns_both, disjoint, among_own, spawns_own, is_set, by_spawn_alone, holds_spawned, is_held, holds, unread_use, OneMaker, TwoMakers}
use Rattle.makers.proofs.Uses.{is_in, among_more, Occurs, test_of}
use Rattle.makers.proofs.Link.{Role, plain, held, others, PumpU, DrumU}

not_not : (b : Bool) → not b ≡ false → b ≡ true
not_not true h = refl
not_not false h = absurd (true≢false h)

pub not_yes : (b : Bool) → not b ≡ true → b ≡ false
not_yes true h = absurd (false≢true h)
not_yes false h = refl

or_right : (a b : Bool) → (a || b) ≡ true → a ≡ false → b ≡ true
or_right true b h e = absurd (true≢false e)
or_right false b h e = h

-- ---- numbers among these

pub among_every : (P : ℕ → Type 0) (ps : List ℕ) → Every P ps → (p : ℕ) → among p ps ≡ true → P p
among_every P [] h p m = absurd (false≢true m)
among_every P (q ∷ ps) h p m = go (eqb p q) refl (sym (among_more p q ps) ∙ m) (among_every P ps h.1 p)
  where
    go : (b : Bool) → eqb p q ≡ b → (b || among p ps) ≡ true → (among p ps ≡ true → P p) → P p
    go true e m k = subst P (sym (eqb-true p q e)) h.0
    go false e m k = k m

-- no procedure is both makers'
pub not_both : (ps qs : List ℕ) → apart ps qs ≡ true → (p : ℕ) → among p ps ≡ true → among p qs ≡ true → ⊥
unfolding apart
not_both [] qs h p m g = false≢true m
not_both (q ∷ ps) qs h p m g =
    go (eqb p q) refl (sym (among_more p q ps) ∙ m) (not_both ps qs (and_true (not (eqb q 0) && not (among q qs)) (apart ps qs) h).1 p)
  where
    go : (b : Bool) → eqb p q ≡ b → (b || among p ps) ≡ true → (among p ps ≡ true → among p qs ≡ true → ⊥) → ⊥
    go true e m k =
        let f : among q qs ≡ false = not_yes (among q qs) (and_true (not (eqb q 0)) (not (among q qs)) (and_true (not (eqb q 0) && not (among q qs)) (apart ps qs) h).0).1 in
        true≢false (sym g ∙ ap (is_in qs) (eqb-true p q e) ∙ f)
    go false e m k = k m g

module _ (r : Recipe) (ps : List ℕ) where
  -- ---- names

  names_it : (u : Use) → Occurs r ps u → names r ps (named u) ≡ true
  names_it u o = go (every_use r ps (λ w. not (eqb (named w) (named u)))) refl
    where
      go : (b : Bool) → every_use r ps (λ w. not (eqb (named w) (named u))) ≡ b → not b ≡ true
      go true e = absurd (true≢false (sym (o (λ w. not (eqb (named w) (named u))) e) ∙ ap not (eq-eqb (named u) (named u) refl)))
      go false e = refl

  holds_it : (u : Use) (n : ℕ) → is_held n u ≡ true → Occurs r ps u → holds r ps n ≡ true
  holds_it u n h o = go (every_use r ps (λ w. not (is_held n w))) refl
    where
      go : (b : Bool) → every_use r ps (λ w. not (is_held n w)) ≡ b → not b ≡ true
      go true e = absurd (true≢false (sym (o (λ w. not (is_held n w)) e) ∙ ap not h))
      go false e = refl

  -- none holds that is not named
  unnamed_unheld : (n : ℕ) → names r ps n ≡ false → holds r ps n ≡ false
  unnamed_unheld n h = ap not (test_of (λ w. not (is_held n w)) r ps (λ u o. go u (o (λ w. not (eqb (named w) n)) (not_not (every_use r ps (λ w. not (eqb (named w) n))) h))))
    where
      go : (u : Use) → not (eqb (named u) n) ≡ true → not (is_held n u) ≡ true
      go (reads m) g = refl
      go (sets m) g = refl
      go (spawns_into m p) g = g
      go (awaits_it m) g = g

  -- what a name is to this maker
  abbrev pub role : ℕ → Role
  role n = cond (holds r ps n) held (cond (names r ps n) plain others)

  plain_role : (n : ℕ) → holds r ps n ≡ false → names r ps n ≡ true → role n ≡ plain
  plain_role n h g = rw (h, g) refl

  held_role : (n : ℕ) → holds r ps n ≡ true → role n ≡ held
  held_role n h = rw h refl

  pub other_role : (n : ℕ) → names r ps n ≡ false → role n ≡ others
  other_role n h = rw (unnamed_unheld n h, h) refl

  module _ (k : OneMaker r ps) where
    held_alone : (n : ℕ) → holds r ps n ≡ true → by_spawn_alone r ps n ≡ true
    held_alone n h = go (by_spawn_alone r ps n) refl
      where
        differ : (m : ℕ) → by_spawn_alone r ps n ≡ false → by_spawn_alone r ps m ≡ true → not (eqb m n) ≡ true
        differ m e g = ap not (ne_eqb m n (λ d. true≢false (sym g ∙ ap (by_spawn_alone r ps) d ∙ e)))

        each : by_spawn_alone r ps n ≡ false → (u : Use) → holds_spawned r ps u ≡ true → not (is_held n u) ≡ true
        each e (reads m) g = refl
        each e (sets m) g = refl
        each e (spawns_into m p) g = differ m e g
        each e (awaits_it m) g = differ m e g

        go : (b : Bool) → by_spawn_alone r ps n ≡ b → b ≡ true
        go true e = refl
        go false e = absurd (false≢true (sym (ap not (test_of (λ w. not (is_held n w)) r ps (λ u o. each e u (o (holds_spawned r ps) k.awaits)))) ∙ h))

    record Alone (n : ℕ) : Type 0 where
      small : eqb n 64 ≡ false
      unset : every_use r ps (λ u. not (is_set n u)) ≡ true

    spawned_alone : (n : ℕ) → by_spawn_alone r ps n ≡ true → Alone n
    spawned_alone n h =
        let a = and_true (leb 8 n && leb n 63) (every_use r ps (λ u. not (is_set n u))) h in
        let b = and_true (leb 8 n) (leb n 63) a.0 in
        record { small = ne_eqb n 64 (λ e. omega (arith, e, leb-true n 63 b.1)); unset = a.1 }

    -- at each use in the maker's procedures
    pub pump_use : (u : Use) → Occurs r ps u → PumpU role (is_in ps) u
    pump_use (reads n) o = λ e. plain_role n (not_yes (holds r ps n) (o (unread_use r ps) k.numbers_unread)) (names_it (reads n) o)
    pump_use (sets n) o = λ e. plain_role n (go (holds r ps n) refl) (names_it (sets n) o)
      where
        go : (b : Bool) → holds r ps n ≡ b → b ≡ false
        go true e = absurd (true≢false (sym (o (λ u. not (is_set n u)) (spawned_alone n (held_alone n e)).unset) ∙ ap not (eq-eqb n n refl)))
        go false e = refl
    pump_use (spawns_into n p) o =
        ((((spawned_alone n (o (holds_spawned r ps) k.awaits)).small, held_role n (holds_it (spawns_into n p) n (eq-eqb n n refl) o))), o (among_own ps) k.spawns)
    pump_use (awaits_it n) o = ((spawned_alone n (o (holds_spawned r ps) k.awaits)).small, held_role n (holds_it (awaits_it n) n (eq-eqb n n refl) o))

    -- at each use in the other maker's
    module _ (qs : List ℕ) (d : disjoint r qs ps ≡ true) (s : spawns_own r qs ≡ true) where
      apart_name : (u : Use) → Occurs r qs u → eqb (named u) 64 ≡ false → role (named u) ≡ others
      apart_name u o e =
          other_role (named u) (not_yes (names r ps (named u)) (or_right (own (named u)) (not (names r ps (named u))) (o (λ u. own (named u) || not (names r ps (named u))) d) e))

      pub drum_use : (u : Use) → Occurs r qs u → DrumU role (is_in qs) u
      drum_use (reads n) o = tt
      drum_use (sets n) o = apart_name (sets n) o
      drum_use (spawns_into n p) o = (apart_name (spawns_into n p) o, o (among_own qs) s)
      drum_use (awaits_it n) o = tt

-- names that are disjoint are so with the makers in each other's places
pub disjoint_sym : (r : Recipe) (ps qs : List ℕ) → disjoint r ps qs ≡ true → disjoint r qs ps ≡ true
disjoint_sym r ps qs h = test_of (λ u. own (named u) || not (names r ps (named u))) r qs (λ u o. go u o (own (named u)) refl)
  where
    none_names : (u : Use) → Occurs r qs u → own (named u) ≡ false → (w : Use) → Occurs r ps w → (b : Bool) → eqb (named w) (named u) ≡ b → not b ≡ true
    none_names u o e w v false g = refl
    none_names u o e w v true g =
        let i : named w ≡ named u = eqb-true (named w) (named u) g in
        absurd (true≢false (sym (or_right (own (named w)) (not (names r qs (named w))) (v (λ u. own (named u) || not (names r qs (named u))) h) (ap own i ∙ e)) ∙ ap (λ (n : ℕ). not (names r qs n)) i ∙ ap not (names_it r qs u o)))

    go : (u : Use) → Occurs r qs u → (b : Bool) → own (named u) ≡ b → (b || not (names r ps (named u))) ≡ true
    go u o true e = refl
    go u o false e = ap (λ (b : Bool). not (not b)) (test_of (λ w. not (eqb (named w) (named u))) r ps (λ w v. none_names u o e w v (eqb (named w) (named u)) refl))

-- ---- the same of two recipes that have the maker's procedures in common

every_same : (r r' : Recipe) (ps : List ℕ) → Every (λ p. get_or r p fin ≡ get_or r' p fin) ps → (f : Use → Bool) → every_use r ps f ≡ every_use r' ps f
unfolding every_use
every_same r r' [] h f = refl
every_same r r' (p ∷ ps) h f = rw (h.0, every_same r r' ps h.1 f) refl

pub names_same : (r r' : Recipe) (ps : List ℕ) → Every (λ p. get_or r p fin ≡ get_or r' p fin) ps → (n : ℕ) → names r ps n ≡ names r' ps n
names_same r r' ps h n = ap not (every_same r r' ps h (λ u. not (eqb (named u) n)))

-- ---- the main block

unfoldable body_of : List Starts → Body
body_of [] = fin
body_of (s ∷ ss) = spawn s.name s.procedure (constant s.argument) ▸ body_of ss

is_starts : (s : Stmt) (t : Starts) → starts_s s ≡ some t → s ≡ spawn t.name t.procedure (constant t.argument)
is_starts skip t h = absurd (let z : ◌≡◌ {A = ℕ} 0 1 = cc in omega arith)
is_starts (assign n e) t h = absurd (let z : ◌≡◌ {A = ℕ} 0 1 = cc in omega arith)
is_starts (if e b) t h = absurd (let z : ◌≡◌ {A = ℕ} 0 1 = cc in omega arith)
is_starts (while e b) t h = absurd (let z : ◌≡◌ {A = ℕ} 0 1 = cc in omega arith)
is_starts (spawn n p (constant z)) t h =
    let e : record { name = n; procedure = p; argument = z } ≡ t = cc in
    ap (λ (t : Starts). spawn t.name t.procedure (constant t.argument)) e
is_starts (spawn n p (variable m)) t h = absurd (let z : ◌≡◌ {A = ℕ} 0 1 = cc in omega arith)
is_starts (spawn n p (two o a b)) t h = absurd (let z : ◌≡◌ {A = ℕ} 0 1 = cc in omega arith)
is_starts (spawn n p (one o a)) t h = absurd (let z : ◌≡◌ {A = ℕ} 0 1 = cc in omega arith)
is_starts suspend t h = absurd (let z : ◌≡◌ {A = ℕ} 0 1 = cc in omega arith)
is_starts (await n) t h = absurd (let z : ◌≡◌ {A = ℕ} 0 1 = cc in omega arith)
is_starts (guard e) t h = absurd (let z : ◌≡◌ {A = ℕ} 0 1 = cc in omega arith)

opens_as : (b : Body) (ss : List Starts) → starts_of b ≡ some ss → b ≡ body_of ss
unfolding starts_of body_of
opens_as fin ss h = let e : [] ≡ ss = cc in ap body_of e
opens_as (s ▸ b) ss h = go (starts_s s) (starts_of b) refl refl h (opens_as b)
  where
    go : (o : Option Starts) (p : Option (List Starts)) → starts_s s ≡ o → starts_of b ≡ p → then_starts o p ≡ some ss → ((ts : List Starts) → starts_of b ≡ some ts → b ≡ body_of ts) → (s ▸ b) ≡ body_of ss
    go none p e f h k = absurd (let z : ◌≡◌ {A = ℕ} 0 1 = cc in omega arith)
    go (some t) none e f h k = absurd (let z : ◌≡◌ {A = ℕ} 0 1 = cc in omega arith)
    go (some t) (some ts) e f h k =
        let i : t ∷ ts ≡ ss = cc in
        ap₂ (λ (s : Stmt) (b : Body). s ▸ b) (is_starts s t e) (k ts f) ∙ ap body_of i

-- one procedure of either maker's, in either order
abbrev pub Each : (pump drum : List ℕ) → (p q : ℕ) → Type 0
Each pump drum p q = ((among p pump ≡ true) × (among q drum ≡ true)) ⊎ ((among p drum ≡ true) × (among q pump ≡ true))

-- "one procedure of each .. into variables that nobody else names", the first and the second
pub record Main (r : Recipe) (pump drum : List ℕ) (s t : Starts) : Type 0 where
  pub block : get_or r 0 fin ≡ spawn s.name s.procedure (constant s.argument) ▸ (spawn t.name t.procedure (constant t.argument) ▸ fin)
  pub each : Each pump drum s.procedure t.procedure
  pub first_unnamed : unnamed r pump drum s.name ≡ true
  pub second_unnamed : unnamed r pump drum t.name ≡ true

either_true : (a b c d : Bool) → ((a && b) || (c && d)) ≡ true → ((a ≡ true) × (b ≡ true)) ⊎ ((c ≡ true) × (d ≡ true))
either_true true true c d h = inl (refl, refl)
either_true true false c d h = inr (and_true c d h)
either_true false b c d h = inr (and_true c d h)

pub main_is : (r : Recipe) (pump drum : List ℕ) → main_spawns_both r pump drum ≡ true → (s : Starts) × (t : Starts) × Main r pump drum s t
unfolding body_of
main_is r pump drum h = go (starts_of (get_or r 0 fin)) refl h
  where
    go : (o : Option (List Starts)) → starts_of (get_or r 0 fin) ≡ o → opens_both r pump drum o ≡ true → (s : Starts) × (t : Starts) × Main r pump drum s t
    go none e h = absurd (false≢true h)
    go (some []) e h = absurd (false≢true h)
    go (some (s ∷ [])) e h = absurd (false≢true h)
    go (some (s ∷ (t ∷ []))) e h = (s, t, pair s t e h)
      where
        pair : (s t : Starts) → starts_of (get_or r 0 fin) ≡ some (s ∷ (t ∷ [])) → (one_of_each r pump drum s.procedure t.procedure && unnamed r pump drum s.name && unnamed r pump drum t.name) ≡ true → Main r pump drum s t
        pair s t e h =
            let a = and_true (one_of_each r pump drum s.procedure t.procedure && unnamed r pump drum s.name) (unnamed r pump drum t.name) h in
            let b = and_true (one_of_each r pump drum s.procedure t.procedure) (unnamed r pump drum s.name) a.0 in
            record {
              block = opens_as (get_or r 0 fin) (s ∷ (t ∷ [])) e;
              each = either_true (among s.procedure pump) (among t.procedure drum) (among s.procedure drum) (among t.procedure pump) b.0;
              first_unnamed = b.1;
              second_unnamed = a.1;
            }
    go (some (s ∷ (t ∷ (u ∷ ss)))) e h = absurd (false≢true h)

-- ---- the makers change places

or_none : (a b : Bool) → (a || b) ≡ false → (a ≡ false) × (b ≡ false)
or_none true b h = absurd (true≢false h)
or_none false b h = (refl, h)

apart_zero : (ps qs : List ℕ) → apart ps qs ≡ true → among 0 qs ≡ false
unfolding apart
apart_zero [] qs h = not_yes (among 0 qs) h
apart_zero (p ∷ ps) qs h = apart_zero ps qs (and_true (not (eqb p 0) && not (among p qs)) (apart ps qs) h).1

zero_apart : (ps qs : List ℕ) → apart ps qs ≡ true → among 0 ps ≡ false
unfolding apart
zero_apart [] qs h = refl
zero_apart (p ∷ ps) qs h =
    let a = and_true (not (eqb p 0) && not (among p qs)) (apart ps qs) h in
    let e : eqb p 0 ≡ false = not_yes (eqb p 0) (and_true (not (eqb p 0)) (not (among p qs)) a.0).0 in
    among_more 0 p ps ∙ ap₂ (λ (b c : Bool). b || c) (ne_eqb 0 p (λ g. true≢false (sym (eq-eqb p 0 (sym g)) ∙ e))) (zero_apart ps qs a.1)

none_apart : (ps qs : List ℕ) → among 0 ps ≡ false → among 0 qs ≡ false → ((p : ℕ) → among p qs ≡ true → among p ps ≡ false) → apart qs ps ≡ true
unfolding apart
none_apart ps [] z y h = ap not z
none_apart ps (q ∷ qs) z y h =
    let a = or_none (eqb 0 q) (among 0 qs) (sym (among_more 0 q qs) ∙ y) in
    let n : eqb q 0 ≡ false = ne_eqb q 0 (λ g. true≢false (sym (eq-eqb 0 q (sym g)) ∙ a.0)) in
    ap₂ (λ (b c : Bool). b && c)
    (ap₂ (λ (b c : Bool). not b && not c) n (h q (among_more q q qs ∙ ap (λ (b : Bool). b || among q qs) (eq-eqb q q refl))))
    (none_apart ps qs z a.1 (λ p g. h p (among_more p q qs ∙ go (eqb p q) (among p qs) g)))
  where
    go : (b c : Bool) → c ≡ true → (b || c) ≡ true
    go true c g = refl
    go false c g = g

apart_sym : (ps qs : List ℕ) → apart ps qs ≡ true → apart qs ps ≡ true
apart_sym ps qs h = none_apart ps qs (zero_apart ps qs h) (apart_zero ps qs h) (λ p g. not_true (among p ps) (λ m. not_both ps qs h p m g))

module _ (r : Recipe) (ps qs : List ℕ) where
  unnamed_sym : (n : ℕ) → unnamed r ps qs n ≡ unnamed r qs ps n
  unnamed_sym n = go (leb n 63) (names r ps n) (names r qs n)
    where
      go : (a b c : Bool) → (a && not b && not c) ≡ (a && not c && not b)
      go false b c = refl
      go true false false = refl
      go true false true = refl
      go true true false = refl
      go true true true = refl

  each_sym : (p q : ℕ) → one_of_each r ps qs p q ≡ one_of_each r qs ps p q
  each_sym p q = go (among p ps && among q qs) (among p qs && among q ps)
    where
      go : (a b : Bool) → (a || b) ≡ (b || a)
      go true true = refl
      go true false = refl
      go false true = refl
      go false false = refl

  opens_sym : (o : Option (List Starts)) → opens_both r ps qs o ≡ opens_both r qs ps o
  opens_sym none = refl
  opens_sym (some []) = refl
  opens_sym (some (s ∷ [])) = refl
  opens_sym (some (s ∷ (t ∷ []))) = rw (each_sym s.procedure t.procedure, unnamed_sym s.name, unnamed_sym t.name) refl
  opens_sym (some (s ∷ (t ∷ (u ∷ ss)))) = refl

  pub swapped : TwoMakers r ps qs → TwoMakers r qs ps
  swapped m = record {
    procedures = apart_sym ps qs m.procedures;
    main = sym (opens_sym (starts_of (get_or r 0 fin))) ∙ m.main;
    names_differ = disjoint_sym r ps qs m.names_differ;
    pump_alone = m.drum_alone;
    drum_alone = m.pump_alone;
  }
