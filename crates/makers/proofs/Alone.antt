-- One maker's tasks alone: a machine of its own, and what its first steps set the maker's valves to.
-- Assumes nothing.
use Prim.Native.Nat.{ℕ, zero, suc, ◌+◌, ◌-◌, ◌≤◌}
use mathlib.Core.Path.{◌≡◌, refl, sym, ap, ◌∙◌, subst}
use mathlib.Core.Logic.{inl, inr}
use mathlib.Core.Bool.{Bool}
use mathlib.Core.Option.{Option, none, some}
use mathlib.Core.List.{List, [], ◌∷◌, ◌++◌, append_assoc}
use native.Mathlib.Omega.{arith}
use native.Mathlib.Decide.{dec_le}
use Rattle.rules.specs.Recipe.{Body}
use Rattle.rules.specs.Rest.{look}
use Rattle.rules.specs.Log.{Event, spawned, taken, gave, waits, turned, ended, valve}
use Rattle.rules.specs.Scheduler.{Rules, readiness, Next, finish, jam, bar, goes, try_of, next_act}
use Rattle.rules.specs.Steps.{machine}
use Rattle.rules.specs.Fairness.{only}
use Rattle.paper.specs.Paper.{PaperTask, Queue, PaperState, unlimited}
use Rattle.paper.specs.Follows.{keeping_none}
use Rattle.makers.specs.Claim.{Setting, Begins, OneBegins}

-- what a step sets these valves to
abbrev pub settings_by : (ℕ → Bool) → Option Event → List Setting
settings_by mine none = []
settings_by mine (some (spawned t n)) = []
settings_by mine (some (taken t)) = []
settings_by mine (some (gave t)) = []
settings_by mine (some (waits t z)) = []
settings_by mine (some (turned t z)) = []
settings_by mine (some (ended t)) = []
settings_by mine (some (valve t v z)) = only (mine v) (record { valve = v; value = z } ∷ [])

-- The machine over statements, with these procedures and no limits; a queue none of whose tasks can go on is turned for ever, as by the scheduling paper's rules.
module _ (begin : ℕ → Body) where
  abbrev pub M : Rules
  M = machine keeping_none look begin unlimited

  abbrev pub turn_front : PaperState → Queue → Next M
  turn_front c [] = finish
  turn_front c (t ∷ q) = try_of M (readiness M c t) c t q

  abbrev pub alone_of : PaperState → Option PaperTask → Next M
  alone_of c none = turn_front c c.queue
  alone_of c (some t) = next_act M c.queue (M.act c.store c.queue t)

  abbrev pub alone : PaperState → Next M
  alone c = alone_of c c.active

  -- what its first n steps set them to, if it makes so many
  module _ (mine : ℕ → Bool) where
    abbrev pub from_next : Next M → (PaperState → List Setting) → List Setting
    from_next finish k = []
    from_next jam k = []
    from_next (bar h) k = []
    from_next (goes x d) k = settings_by mine x ++ k d

    unfoldable pub first_settings : ℕ → PaperState → List Setting
    first_settings zero c = []
    first_settings (suc n) c = from_next (alone c) (λ d. first_settings n d)

    pub one_more : (n : ℕ) (c d : PaperState) (x : Option Event) → alone c ≡ goes x d → first_settings (suc n) c ≡ settings_by mine x ++ first_settings n d
    unfolding first_settings
    one_more n c d x e = ap (λ (y : Next M). from_next y (λ d. first_settings n d)) e

    -- fewer steps set a beginning
    begins_more : (n m : ℕ) (c : PaperState) → Begins (first_settings n c) (first_settings (n + m) c)
    unfolding first_settings
    begins_more n m c = go n c
      where
        grow : (y : Next M) (j k : PaperState → List Setting) → ((d : PaperState) → Begins (j d) (k d)) → Begins (from_next y j) (from_next y k)
        grow finish j k h = ([], refl)
        grow jam j k h = ([], refl)
        grow (bar e) j k h = ([], refl)
        grow (goes x d) j k h = let (zs, e) = h d in (zs, ap (λ (l : List Setting). settings_by mine x ++ l) e ∙ sym (append_assoc (settings_by mine x) (j d) zs))

        go : (n : ℕ) (c : PaperState) → Begins (first_settings n c) (first_settings (n + m) c)
        go zero c = (first_settings (zero + m) c, refl)
        go (suc n) c =
            let e : suc n + m ≡ suc (n + m) = omega arith in
            rw e (grow (alone c) (λ d. first_settings n d) (λ d. first_settings (n + m) d) (λ d. go n d))

    pub either_begins : (n m : ℕ) (c : PaperState) → OneBegins (first_settings n c) (first_settings m c)
    either_begins n m c = go (dec_le n m)
      where
        go : Dec (n ≤ m) → OneBegins (first_settings n c) (first_settings m c)
        go (yes h) = inl (let e : n + (m - n) ≡ m = omega arith in subst (λ (k : ℕ). Begins (first_settings n c) (first_settings k c)) e (begins_more n (m - n) c))
        go (no h) = inr (let e : m + (n - m) ≡ n = omega arith in subst (λ (k : ℕ). Begins (first_settings m c) (first_settings k c)) e (begins_more m (n - m) c))
