-- The main block: two spawns, behind which the maker's tasks are those that it would have alone.
-- Assumes nothing.
use Prim.Native.Nat.{ℕ, zero, suc, ◌≤◌}
use mathlib.Core.Path.{◌≡◌, refl, sym, ap, ◌∙◌, subst}
use mathlib.Core.Logic.{◌⊎◌, inl, inr}
use mathlib.Core.Bool.{Bool, true, false}
use mathlib.Core.Option.{Option, none, some}
use mathlib.Core.List.{[], ◌∷◌, ◌++◌}
use native.Mathlib.Omega.{arith}
use lib.Dec.{eqb}
use lib.IntN.{ℤ, pos}
use lib.ListN.{get_or, set, replicate, length-set}
use lib.Seq.{get_or-set_other}
use Rattle.rules.specs.Recipe.{constant, spawn, Body, fin, ◌▸◌, Recipe, Env, value}
use Rattle.rules.specs.Rest.{look}
use Rattle.rules.specs.State.{Store}
use Rattle.rules.specs.Log.{Event, spawned}
use Rattle.rules.specs.Scheduler.{Halt, Next, finish, jam, bar, goes, next_act, next}
use Rattle.rules.specs.Steps.{Limits, spawn_at}
use Rattle.paper.specs.Paper.{Queue, task, PaperState, running, idle, memory}
use Rattle.paper.specs.Follows.{keeping_none}
use Rattle.makers.specs.Makers.{Starts}
use Rattle.makers.proofs.Uses.{AllB}
use Rattle.makers.proofs.Alone.{settings_by, alone}
use Rattle.makers.proofs.Link.{others, plain-others, held-others, unset, Foreign, put_in, Link, write_shared, nil, ours, theirs, Side, Shares}
use Rattle.makers.proofs.Steps.{R, DrumB, Inv, drumming, still, moved, OutN, step}

all_zero : (n u : ℕ) → get_or (replicate n (pos 0)) u (pos 0) ≡ pos 0
all_zero zero u = refl
all_zero (suc n) zero = refl
all_zero (suc n) (suc u) = all_zero n u

abbrev pub zeros : Store
zeros = record { issued = 1; variables = replicate 64 (pos 0) }

-- the maker's first task, alone
abbrev pub first_alone : (ℕ → Body) → ℕ → ℤ → PaperState
first_alone begin p z = idle (task 1 (begin p) z ∷ []) zeros

-- the procedure p of the maker's is spawned first or second, with the argument z, and one of the other maker's beside it
abbrev pub Firsts : (pump drum : ℕ → Bool) → Starts → Starts → ℕ → ℤ → Type 0
Firsts pump drum s t p z =
    ((pump s.procedure ≡ true) × (drum t.procedure ≡ true) × (s.procedure ≡ p) × (s.argument ≡ z))
    ⊎ ((drum s.procedure ≡ true) × (pump t.procedure ≡ true) × (t.procedure ≡ p) × (t.argument ≡ z))

module _ (k : Side) (drum : ℕ → Bool) (full : Limits) (r : Recipe) where
  open k use {role, mine, pump, begin}

  -- behind the two spawns, both in variables that are not the maker's
  abbrev stored : Starts → Starts → Store
  stored s t = put_in 3 (put_in 2 zeros s.name (pos 2)) t.name (pos 3)

  abbrev pub opened : Starts → Starts → PaperState
  opened s t = running (task 1 fin (pos 0)) (task 2 (get_or r s.procedure fin) s.argument ∷ (task 3 (get_or r t.procedure fin) t.argument ∷ [])) (stored s t)

  abbrev InvR : PaperState → PaperState → Type 1
  InvR c p = Inv k drum full r c p

  -- a state on the way: before the first spawn, before the second, or behind both
  pub data Stage (c p : PaperState) : Type 1 where
    two_left : (s t : Starts) → c ≡ running (task 1 (spawn s.name s.procedure (constant s.argument) ▸ (spawn t.name t.procedure (constant t.argument) ▸ fin)) (pos 0)) [] zeros
        → eqb s.name 64 ≡ false → eqb t.name 64 ≡ false → InvR (opened s t) p → Stage c p
    one_left : (s t : Starts) → c ≡ running (task 1 (spawn t.name t.procedure (constant t.argument) ▸ fin) (pos 0)) (task 2 (get_or r s.procedure fin) s.argument ∷ []) (put_in 2 zeros s.name (pos 2))
        → eqb t.name 64 ≡ false → InvR (opened s t) p → Stage c p
    begun : InvR c p → Stage c p

  pub data OutS (z : Option Event) (d p : PaperState) : Type 1 where
    rests : settings_by mine z ≡ [] → Stage d p → OutS z d p
    steps : {y : Option Event} {p' : PaperState} → alone begin p ≡ goes y p' → settings_by mine z ≡ settings_by mine y → Stage d p' → OutS z d p

  abbrev pub OutSN : Next (R k drum full r) → PaperState → Type 1
  OutSN finish p = Unit {1}
  OutSN jam p = Unit {1}
  OutSN (bar h) p = Unit {1}
  OutSN (goes z d) p = OutS z d p

  staged : (y : Next (R k drum full r)) (p : PaperState) → OutN k drum full r y p → OutSN y p
  staged finish p o = tt
  staged jam p o = tt
  staged (bar h) p o = tt
  staged (goes z d) p (still e i) = rests e (begun i)
  staged (goes z d) p (moved e m i) = steps e m (begun i)

  main_out : (s : Store) (q : Queue) (v j : ℕ) (x : ℤ) (b : Body) (o : Option Halt) (p : PaperState) → eqb v 64 ≡ false
      → Stage (running (task 1 b (pos 0)) (q ++ (task (suc s.issued) (get_or r j fin) x ∷ [])) (put_in (suc s.issued) s v (pos (suc s.issued)))) p
      → OutSN (next_act (R k drum full r) q (spawn_at keeping_none o s (task 1 (spawn v j (constant x) ▸ b) (pos 0)) v (get_or r j fin) x b)) p
  main_out s q v j x b (some h) p e g = tt
  main_out s q v j x b none p e g =
      let n = suc s.issued in
      subst (λ (w : Env). OutS (some (spawned 1 n)) (running (task 1 b w.parameter) (q ++ (task n (get_or r j fin) x ∷ [])) (memory n w)) p) (sym (write_shared role n s (pos 0) v (pos n) e)) (rests refl g)

  module _ (shares : Shares k drum r) where
    open shares use {pumps, given, drums}

    pub stage_step : {c p : PaperState} → Stage c p → OutSN (next (R k drum full r) c) p
    unfolding look value
    stage_step {c} {p} (two_left s t e hs ht i) =
        rw e (main_out zeros [] s.name s.procedure s.argument (spawn t.name t.procedure (constant t.argument) ▸ fin) (full 0 1) p hs (one_left s t refl ht i))
    stage_step {c} {p} (one_left s t e ht i) =
        rw e (main_out (put_in 2 zeros s.name (pos 2)) (task 2 (get_or r s.procedure fin) s.argument ∷ []) t.name t.procedure t.argument fin (full 1 2) p ht (begun i))
    stage_step {c} {p} (begun i) = staged (next (R k drum full r) c) p (step k drum full r shares i)

    -- the maker's first task has the number n here, and 1 alone
    abbrev First : ℕ → ℕ → ℕ → Type 0
    First n x y = (x ≡ n) × (y ≡ 1)

    first_link : (n v w : ℕ) → 2 ≤ n → n ≤ 3 → role v ≡ others → role w ≡ others → Link role (First n) (put_in 3 (put_in 2 zeros v (pos 2)) w (pos 3)) zeros
    first_link n v w a b hv hw = record {
      here_one = λ i j e. i.1 ∙ sym j.1;
      there_one = λ i j e. i.0 ∙ sym j.0;
      here_issued = λ i. (omega (arith, i.0), omega (arith, i.0));
      there_issued = λ i. (omega (arith, i.1), omega (arith, i.1));
      as_long = length-set (set zeros.variables v (pos 2)) w (pos 3) ∙ length-set zeros.variables v (pos 2);
      plain_same = λ u g. kept u (λ h. plain-others g h);
      held_same = λ u g. unset (kept u (λ h. held-others g h) ∙ all_zero 64 u) (all_zero 64 u);
    }
      where
        kept : (u : ℕ) → ¬ (role u ≡ others) → get_or (set (set zeros.variables v (pos 2)) w (pos 3)) u (pos 0) ≡ get_or zeros.variables u (pos 0)
        kept u h =
            get_or-set_other (set zeros.variables v (pos 2)) w u (pos 3) (pos 0) (λ e. h (ap role e ∙ hw))
            ∙ get_or-set_other zeros.variables v u (pos 2) (pos 0) (λ e. h (ap role e ∙ hv))

    no_task : (n x : ℕ) → ¬ (x ≡ n) → x ≤ 3 → Foreign (First n) 3 x
    no_task n x h l = record { issued = l; not_ours = λ y i. h i.0 }

    main_ends : DrumB k drum full r fin
    unfolding AllB
    main_ends = tt

    inv_opened : (s t : Starts) (p : ℕ) (z : ℤ) → role s.name ≡ others → role t.name ≡ others → Firsts pump drum s t p z → InvR (opened s t) (first_alone begin p z)
    inv_opened s t p z hs ht (inl f) =
        drumming refl (ap (λ (p : ℕ). first_alone begin p z) (sym f.2) ∙ ap (λ (z : ℤ). first_alone begin s.procedure z) (sym f.3) ∙ ap (λ (b : Body). idle (task 1 b s.argument ∷ []) zeros) (sym (given s.procedure f.0)))
        (first_link 2 s.name t.name (omega arith) (omega arith) hs ht) main_ends (no_task 2 1 (λ e. omega arith) (omega arith))
        (ours (refl, refl) (pumps s.procedure f.0) (theirs (drums t.procedure f.1) (no_task 2 3 (λ e. omega arith) (omega arith)) nil))
    inv_opened s t p z hs ht (inr f) =
        drumming refl (ap (λ (p : ℕ). first_alone begin p z) (sym f.2) ∙ ap (λ (z : ℤ). first_alone begin t.procedure z) (sym f.3) ∙ ap (λ (b : Body). idle (task 1 b t.argument ∷ []) zeros) (sym (given t.procedure f.1)))
        (first_link 3 s.name t.name (omega arith) (omega arith) hs ht) main_ends (no_task 3 1 (λ e. omega arith) (omega arith))
        (theirs (drums s.procedure f.0) (no_task 3 2 (λ e. omega arith) (omega arith)) (ours (refl, refl) (pumps t.procedure f.1) nil))

    -- from the initial configuration on
    pub at_first : (s t : Starts) (p : ℕ) (z : ℤ) (c : PaperState)
        → c ≡ running (task 1 (spawn s.name s.procedure (constant s.argument) ▸ (spawn t.name t.procedure (constant t.argument) ▸ fin)) (pos 0)) [] zeros
        → eqb s.name 64 ≡ false → eqb t.name 64 ≡ false → role s.name ≡ others → role t.name ≡ others → Firsts pump drum s t p z → Stage c (first_alone begin p z)
    at_first s t p z c e hs ht os ot f = two_left s t e hs ht (inv_opened s t p z os ot f)
