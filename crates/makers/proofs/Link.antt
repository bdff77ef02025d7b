-- What one maker sees of a state, beside a state of its tasks alone: the same values, and task numbers that stand for one another.
-- Assumes nothing.
use Prim.Native.Nat.{ℕ, zero, suc, ◌≤◌}
use mathlib.Core.Path.{◌≡◌, refl, sym, ap, ap₂, ◌∙◌}
use mathlib.Core.Logic.{◌⊎◌, inl, inr}
use mathlib.Core.Bool.{Bool, true, false}
use mathlib.Core.Option.{Option, some}
use mathlib.Core.List.{List, [], ◌∷◌, ◌++◌}
use native.Mathlib.Omega.{arith}
use lib.Dec.{eqb}
use lib.IntN.{ℤ, pos}
use lib.ListN.{length, get_or, set, length-set}
use lib.Seq.{get_or-set_other}
use Rattle.rules.specs.Values.{apply1, apply2, of_both, of_one}
use Rattle.rules.specs.Recipe.{Expr, constant, variable, two, one, Body, fin, Recipe, Env, read, write, value}
use Rattle.rules.specs.State.{Store}
use Rattle.paper.specs.Paper.{Queue, task, env, memory}
use Rattle.makers.specs.Uses.{Use, reads, sets, spawns_into, awaits_it}
use Rattle.makers.proofs.Uses.{AllE, AllB}

-- what a name is to one maker: a variable that it sets and reads, one that holds task numbers, or none of its own
pub data Role : Type 0 where
  plain held others : Role

-- which of these, as a number
abbrev role_number : Role → ℕ
role_number plain = 0
role_number held = 1
role_number others = 2

pub plain-others : {x : Role} → x ≡ plain → x ≡ others → ⊥
plain-others p q = let z : ◌≡◌ {A = ℕ} 0 2 = ap role_number (sym p ∙ q) in omega arith

pub held-others : {x : Role} → x ≡ held → x ≡ others → ⊥
held-others p q = let z : ◌≡◌ {A = ℕ} 1 2 = ap role_number (sym p ∙ q) in omega arith

plain-held : {x : Role} → x ≡ plain → x ≡ held → ⊥
plain-held p q = let z : ◌≡◌ {A = ℕ} 0 1 = ap role_number (sym p ∙ q) in omega arith

-- a value held by a spawn, here and there: unset, or the numbers of one task
pub data Same (I : ℕ → ℕ → Type 0) (x y : ℤ) : Type 0 where
  unset : x ≡ pos 0 → y ≡ pos 0 → Same I x y
  known : {n m : ℕ} → x ≡ pos n → y ≡ pos m → I n m → Same I x y

-- a number here that is none of this maker's tasks'
pub record Foreign (I : ℕ → ℕ → Type 0) (n x : ℕ) : Type 0 where
  pub issued : x ≤ n
  pub not_ours : (y : ℕ) → ¬ I x y

-- a list with one element set, here and there
set-both : (Q : ℤ → ℤ → Type 0) (l l' : List ℤ) (v u : ℕ) (z z' : ℤ) → length l ≡ length l' → Q z z'
    → Q (get_or l u (pos 0)) (get_or l' u (pos 0))
    → Q (get_or (set l v z) u (pos 0)) (get_or (set l' v z') u (pos 0))
set-both Q [] [] v u z z' e g h = h
set-both Q [] (y ∷ l') v u z z' e g h = absurd (omega arith)
set-both Q (x ∷ l) [] v u z z' e g h = absurd (omega arith)
set-both Q (x ∷ l) (y ∷ l') zero zero z z' e g h = g
set-both Q (x ∷ l) (y ∷ l') zero (suc u) z z' e g h = h
set-both Q (x ∷ l) (y ∷ l') (suc v) zero z z' e g h = h
set-both Q (x ∷ l) (y ∷ l') (suc v) (suc u) z z' e g h = set-both Q l l' v u z z' (omega arith) g h

abbrev at_name : Store → ℕ → ℤ
at_name s u = get_or s.variables u (pos 0)

-- with one variable set, and so many numbers issued
abbrev pub put_in : ℕ → Store → ℕ → ℤ → Store
put_in n s v z = record { issued = n; variables = set s.variables v z }

module _ (role : ℕ → Role) where
  -- a name that the maker reads or sets: its own parameter, or one of its plain variables
  abbrev pub Plain : ℕ → Type 0
  Plain v = eqb v 64 ≡ false → role v ≡ plain

  abbrev pub Holds : ℕ → Type 0
  Holds v = (eqb v 64 ≡ false) × (role v ≡ held)

  -- a name that is another's
  abbrev pub Apart : ℕ → Type 0
  Apart v = eqb v 64 ≡ false → role v ≡ others

  abbrev pub PumpU : (ℕ → Bool) → Use → Type 0
  PumpU pump (reads n) = Plain n
  PumpU pump (sets n) = Plain n
  PumpU pump (spawns_into n p) = Holds n × (pump p ≡ true)
  PumpU pump (awaits_it n) = Holds n

  abbrev pub DrumU : (ℕ → Bool) → Use → Type 0
  DrumU drum (reads n) = Unit {0}
  DrumU drum (sets n) = Apart n
  DrumU drum (spawns_into n p) = Apart n × (drum p ≡ true)
  DrumU drum (awaits_it n) = Unit {0}

  -- The numbers of the maker's tasks here and alone, and what it sees of the store.
  pub record Link (I : ℕ → ℕ → Type 0) (s s' : Store) : Type 0 where
    pub here_one : {x y x' y' : ℕ} → I x y → I x' y' → x ≡ x' → y ≡ y'
    pub there_one : {x y x' y' : ℕ} → I x y → I x' y' → y ≡ y' → x ≡ x'
    pub here_issued : {x y : ℕ} → I x y → (1 ≤ x) × (x ≤ s.issued)
    pub there_issued : {x y : ℕ} → I x y → (1 ≤ y) × (y ≤ s'.issued)
    pub as_long : length s.variables ≡ length s'.variables
    pub plain_same : (v : ℕ) → role v ≡ plain → at_name s v ≡ at_name s' v
    pub held_same : (v : ℕ) → role v ≡ held → Same I (at_name s v) (at_name s' v)

  -- ---- reading

  read_own : (w : Env) (v : ℕ) → eqb v 64 ≡ true → read w v ≡ w.parameter
  unfolding read
  read_own w v e = rw e refl

  read_shared : (w : Env) (v : ℕ) → eqb v 64 ≡ false → read w v ≡ get_or w.variables v (pos 0)
  unfolding read
  read_shared w v e = rw e refl

  module _ {I : ℕ → ℕ → Type 0} {s s' : Store} (l : Link I s s') (a : ℤ) where
    read_plain : (v : ℕ) → Plain v → read (env s a) v ≡ read (env s' a) v
    read_plain v h = go (eqb v 64) refl
      where
        go : (b : Bool) → eqb v 64 ≡ b → read (env s a) v ≡ read (env s' a) v
        go true e = read_own (env s a) v e ∙ sym (read_own (env s' a) v e)
        go false e = read_shared (env s a) v e ∙ l.plain_same v (h e) ∙ sym (read_shared (env s' a) v e)

    pub read_held : (v : ℕ) → Holds v → Same I (read (env s a) v) (read (env s' a) v)
    read_held v h = rw (read_shared (env s a) v h.0, read_shared (env s' a) v h.0) (l.held_same v h.1)

    pub value_same : (pump : ℕ → Bool) (e : Expr) → AllE (PumpU pump) e → value (env s a) e ≡ value (env s' a) e
    unfolding value AllE
    value_same pump (constant z) h = refl
    value_same pump (variable n) h = ap (λ (z : ℤ). some z) (read_plain n h)
    value_same pump (two o x y) h = ap₂ (λ (p q : Option ℤ). of_both (apply2 o) p q) (value_same pump x h.0) (value_same pump y h.1)
    value_same pump (one o x) h = ap (λ (p : Option ℤ). of_one (apply1 o) p) (value_same pump x h)

  -- ---- writing

  write_own : (s : Store) (a : ℤ) (v : ℕ) (z : ℤ) → eqb v 64 ≡ true → write (env s a) v z ≡ env s z
  unfolding write
  write_own s a v z e = rw e refl

  pub write_shared : (n : ℕ) (s : Store) (a : ℤ) (v : ℕ) (z : ℤ) → eqb v 64 ≡ false → write (env s a) v z ≡ env (put_in n s v z) a
  unfolding write
  write_shared n s a v z e = rw e refl

  -- what the maker sets, it sets here and there
  pub record Both (I : ℕ → ℕ → Type 0) (n n' : ℕ) (w w' : Env) : Type 0 where
    pub link : Link I (memory n w) (memory n' w')
    pub parameter_same : w.parameter ≡ w'.parameter

  set_plain : {I : ℕ → ℕ → Type 0} {s s' : Store} (v : ℕ) (z : ℤ) → role v ≡ plain → Link I s s' → Link I (put_in s.issued s v z) (put_in s'.issued s' v z)
  set_plain {I} {s} {s'} v z h l = record {
    here_one = l.here_one;
    there_one = l.there_one;
    here_issued = l.here_issued;
    there_issued = l.there_issued;
    as_long = length-set s.variables v z ∙ l.as_long ∙ sym (length-set s'.variables v z);
    plain_same = λ u g. set-both (λ (x y : ℤ). x ≡ y) s.variables s'.variables v u z z l.as_long refl (l.plain_same u g);
    held_same = λ u g. rw (get_or-set_other s.variables v u z (pos 0) (apart u g), get_or-set_other s'.variables v u z (pos 0) (apart u g)) (l.held_same u g);
  }
    where
      apart : (u : ℕ) → role u ≡ held → ¬ (u ≡ v)
      apart u g e = plain-held h (ap role (sym e) ∙ g)

  pub write_plain : {I : ℕ → ℕ → Type 0} {s s' : Store} (a : ℤ) (v : ℕ) (z : ℤ) → Plain v → Link I s s' → Both I s.issued s'.issued (write (env s a) v z) (write (env s' a) v z)
  write_plain {I} {s} {s'} a v z h l = go (eqb v 64) refl
    where
      go : (b : Bool) → eqb v 64 ≡ b → Both I s.issued s'.issued (write (env s a) v z) (write (env s' a) v z)
      go true e = rw (write_own s a v z e, write_own s' a v z e) (record { link = l; parameter_same = refl })
      go false e = rw (write_shared s.issued s a v z e, write_shared s'.issued s' a v z e) (record { link = set_plain v z (h e) l; parameter_same = refl })

  -- what another sets, the maker does not see
  set_apart : {I : ℕ → ℕ → Type 0} {s s' : Store} (n v : ℕ) (z : ℤ) → s.issued ≤ n → role v ≡ others → Link I s s' → Link I (put_in n s v z) s'
  set_apart {I} {s} {s'} n v z m h l = record {
    here_one = l.here_one;
    there_one = l.there_one;
    here_issued = λ i. ((l.here_issued i).0, omega (arith, (l.here_issued i).1));
    there_issued = l.there_issued;
    as_long = length-set s.variables v z ∙ l.as_long;
    plain_same = λ u g. get_or-set_other s.variables v u z (pos 0) (λ e. plain-others g (ap role e ∙ h)) ∙ l.plain_same u g;
    held_same = λ u g. rw (get_or-set_other s.variables v u z (pos 0) (λ e. held-others g (ap role e ∙ h))) (l.held_same u g);
  }

  more_issued : {I : ℕ → ℕ → Type 0} {s s' : Store} (n : ℕ) → s.issued ≤ n → Link I s s' → Link I (record { issued = n; variables = s.variables }) s'
  more_issued {I} {s} {s'} n m l = record {
    here_one = l.here_one;
    there_one = l.there_one;
    here_issued = λ i. ((l.here_issued i).0, omega (arith, (l.here_issued i).1));
    there_issued = l.there_issued;
    as_long = l.as_long;
    plain_same = l.plain_same;
    held_same = l.held_same;
  }

  pub write_apart : {I : ℕ → ℕ → Type 0} {s s' : Store} (n : ℕ) (a : ℤ) (v : ℕ) (z : ℤ) → s.issued ≤ n → Apart v → Link I s s' → Link I (memory n (write (env s a) v z)) s'
  write_apart {I} {s} {s'} n a v z m h l = go (eqb v 64) refl
    where
      go : (b : Bool) → eqb v 64 ≡ b → Link I (memory n (write (env s a) v z)) s'
      go true e = rw (write_own s a v z e) (more_issued n m l)
      go false e = rw (write_shared n s a v z e) (set_apart n v z m (h e) l)

  -- ---- one task more, here and there

  abbrev pub More : (ℕ → ℕ → Type 0) → ℕ → ℕ → ℕ → ℕ → Type 0
  More I n m x y = I x y ⊎ ((x ≡ n) × (y ≡ m))

  more_same : {I : ℕ → ℕ → Type 0} {n m : ℕ} {x y : ℤ} → Same I x y → Same (More I n m) x y
  more_same (unset e f) = unset e f
  more_same (known e f i) = known e f (inl i)

  pub still_foreign : {I : ℕ → ℕ → Type 0} {n m : ℕ} (x : ℕ) → Foreign I n x → Foreign (More I (suc n) m) (suc n) x
  still_foreign {I} {n} {m} x f = record { issued = omega (arith, f.issued); not_ours = go }
    where
      go : (y : ℕ) → ¬ More I (suc n) m x y
      go y (inl i) = f.not_ours y i
      go y (inr e) = omega (arith, f.issued, e.0)

  pub foreign_up : {I : ℕ → ℕ → Type 0} {n : ℕ} (x : ℕ) → Foreign I n x → Foreign I (suc n) x
  foreign_up x f = record { issued = omega (arith, f.issued); not_ours = f.not_ours }

  pub spawned_both : {I : ℕ → ℕ → Type 0} {s s' : Store} (v : ℕ) → role v ≡ held → Link I s s'
      → Link (More I (suc s.issued) (suc s'.issued)) (put_in (suc s.issued) s v (pos (suc s.issued))) (put_in (suc s'.issued) s' v (pos (suc s'.issued)))
  spawned_both {I} {s} {s'} v h l = record {
    here_one = one_here;
    there_one = one_there;
    here_issued = low_here;
    there_issued = low_there;
    as_long = length-set s.variables v (pos n) ∙ l.as_long ∙ sym (length-set s'.variables v (pos m));
    plain_same = λ u g. get_or-set_other s.variables v u (pos n) (pos 0) (apart u g) ∙ l.plain_same u g ∙ sym (get_or-set_other s'.variables v u (pos m) (pos 0) (apart u g));
    held_same = λ u g. set-both (Same (More I n m)) s.variables s'.variables v u (pos n) (pos m) l.as_long (known refl refl (inr (refl, refl))) (more_same (l.held_same u g));
  }
    where
      n : ℕ
      n = suc s.issued

      m : ℕ
      m = suc s'.issued

      apart : (u : ℕ) → role u ≡ plain → ¬ (u ≡ v)
      apart u g e = plain-held g (ap role e ∙ h)

      one_here : {x y x' y' : ℕ} → More I n m x y → More I n m x' y' → x ≡ x' → y ≡ y'
      one_here (inl i) (inl j) e = l.here_one i j e
      one_here (inl i) (inr j) e = absurd (omega (arith, (l.here_issued i).1, j.0))
      one_here (inr i) (inl j) e = absurd (omega (arith, (l.here_issued j).1, i.0))
      one_here (inr i) (inr j) e = i.1 ∙ sym j.1

      one_there : {x y x' y' : ℕ} → More I n m x y → More I n m x' y' → y ≡ y' → x ≡ x'
      one_there (inl i) (inl j) e = l.there_one i j e
      one_there (inl i) (inr j) e = absurd (omega (arith, (l.there_issued i).1, j.1))
      one_there (inr i) (inl j) e = absurd (omega (arith, (l.there_issued j).1, i.1))
      one_there (inr i) (inr j) e = i.0 ∙ sym j.0

      low_here : {x y : ℕ} → More I n m x y → (1 ≤ x) × (x ≤ n)
      low_here (inl i) = ((l.here_issued i).0, omega (arith, (l.here_issued i).1))
      low_here (inr i) = (omega (arith, i.0), omega (arith, i.0))

      low_there : {x y : ℕ} → More I n m x y → (1 ≤ y) × (y ≤ m)
      low_there (inl i) = ((l.there_issued i).0, omega (arith, (l.there_issued i).1))
      low_there (inr i) = (omega (arith, i.1), omega (arith, i.1))

  -- ---- the queue

  -- the tasks queued here, and this maker's of them
  -- (n: the highest number issued here)
  pub data Sel (pump drum : ℕ → Bool) (I : ℕ → ℕ → Type 0) (n : ℕ) : Queue → Queue → Type 0 where
    nil : Sel pump drum I n [] []
    ours : {x y : ℕ} {a : ℤ} {b : Body} {q p : Queue} → I x y → AllB (PumpU pump) b → Sel pump drum I n q p → Sel pump drum I n (task x b a ∷ q) (task y b a ∷ p)
    theirs : {x : ℕ} {a : ℤ} {b : Body} {q p : Queue} → AllB (DrumU drum) b → Foreign I n x → Sel pump drum I n q p → Sel pump drum I n (task x b a ∷ q) p

  module _ {pump drum : ℕ → Bool} where
    pub sel_back : {I : ℕ → ℕ → Type 0} {n : ℕ} {q p q' p' : Queue} → Sel pump drum I n q p → Sel pump drum I n q' p' → Sel pump drum I n (q ++ q') (p ++ p')
    sel_back nil h = h
    sel_back (ours i b g) h = ours i b (sel_back g h)
    sel_back (theirs d f g) h = theirs d f (sel_back g h)

    pub sel_more : {I J : ℕ → ℕ → Type 0} {n m : ℕ} {q p : Queue} → ((x y : ℕ) → I x y → J x y) → ((x : ℕ) → Foreign I n x → Foreign J m x) → Sel pump drum I n q p → Sel pump drum J m q p
    sel_more f g nil = nil
    sel_more f g (ours {x} {y} i b h) = ours (f x y i) b (sel_more f g h)
    sel_more f g (theirs {x} d e h) = theirs d (g x e) (sel_more f g h)

-- ---- one maker of a recipe

-- what each name is to the maker, which valves are its own, and its procedures
pub record Side : Type 0 where
  pub role : ℕ → Role
  pub mine : ℕ → Bool
  pub foreign : (v : ℕ) → role v ≡ others → mine v ≡ false
  pub pump : ℕ → Bool
  pub begin : ℕ → Body

-- a recipe that has these procedures, and beside them another maker's
pub record Shares (k : Side) (drum : ℕ → Bool) (r : Recipe) : Type 0 where
  pub pumps : (p : ℕ) → k.pump p ≡ true → AllB (PumpU k.role k.pump) (get_or r p fin)
  pub given : (p : ℕ) → k.pump p ≡ true → get_or r p fin ≡ k.begin p
  pub drums : (p : ℕ) → drum p ≡ true → AllB (DrumU k.role drum) (get_or r p fin)
