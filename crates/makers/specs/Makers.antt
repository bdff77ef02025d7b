-- Two makers in one recipe: which recipes are meant, sentence by sentence. Each test works on a
-- recipe and on the numbers of the procedures of either maker.
-- Assumes nothing.
use Rattle.std.specs.Prelude.{ℕ, ◌≡◌, Bool, true, false, not, ◌&&◌, ◌||◌, List, [], ◌∷◌, eqb, leb, ℤ, get_or}
use Rattle.std.proofs.Math.Option.{Option, none, some}
use Rattle.rules.specs.Recipe.{Expr, constant, variable, two, one, Stmt, skip, assign, if, while, spawn, suspend, await, guard, Body, fin, ◌▸◌, Recipe}
use Rattle.rules.specs.Fairness.{Every}
use Rattle.rules.specs.Why.{among}
use Rattle.makers.specs.Uses.{Use, reads, sets, spawns_into, awaits_it, named, own, every_use, names}

-- "A pump maker and a drum maker share one controller": no procedure is both makers', and the main
-- one is neither's. (One that is nobody's is never spawned.)
unfoldable pub apart : (pump drum : List ℕ) → Bool
apart [] qs = not (among 0 qs)
apart (p ∷ ps) qs = not (eqb p 0) && not (among p qs) && apart ps qs

-- ---- the main block

-- what a spawn with a constant argument starts
pub record Starts : Type 0 where
  pub name : ℕ
  pub procedure : ℕ
  pub argument : ℤ

abbrev pub starts_e : (name procedure : ℕ) → Expr → Option Starts
starts_e n p (constant z) = some (record { name = n; procedure = p; argument = z })
starts_e n p (variable m) = none
starts_e n p (two o a b) = none
starts_e n p (one o a) = none

abbrev pub starts_s : Stmt → Option Starts
starts_s skip = none
starts_s (assign n e) = none
starts_s (if e b) = none
starts_s (while e b) = none
starts_s (spawn n p e) = starts_e n p e
starts_s suspend = none
starts_s (await n) = none
starts_s (guard e) = none

abbrev pub then_starts : Option Starts → Option (List Starts) → Option (List Starts)
then_starts none o = none
then_starts (some s) none = none
then_starts (some s) (some ss) = some (s ∷ ss)

-- what a body starts, if it does nothing else
unfoldable pub starts_of : Body → Option (List Starts)
starts_of fin = some []
starts_of (s ▸ b) = then_starts (starts_s s) (starts_of b)

module _ (r : Recipe) (pump drum : List ℕ) where
  -- "one procedure of each", in either order
  abbrev pub one_of_each : (first second : ℕ) → Bool
  one_of_each p q = among p pump && among q drum || among p drum && among q pump

  -- a variable "that nobody else names": neither maker does
  abbrev pub unnamed : ℕ → Bool
  unnamed n = leb n 63 && not (names r pump n) && not (names r drum n)

  abbrev pub opens_both : Option (List Starts) → Bool
  opens_both none = false
  opens_both (some []) = false
  opens_both (some (s ∷ [])) = false
  opens_both (some (s ∷ (t ∷ []))) = one_of_each s.procedure t.procedure && unnamed s.name && unnamed t.name
  opens_both (some (s ∷ (t ∷ (u ∷ ss)))) = false

  -- "main blocks that only spawn one procedure of each with constant arguments, into variables that
  -- nobody else names"
  abbrev pub main_spawns_both : Bool
  main_spawns_both = opens_both (starts_of (get_or r 0 fin))

-- ---- the makers' procedures (ps: the maker's, qs: the other's)

-- "makers who name disjoint variables and valves .." (A valve is one of the variables 0 to 7.)
abbrev pub disjoint : Recipe → (ps qs : List ℕ) → Bool
disjoint r ps qs = every_use r ps (λ u. own (named u) || not (names r qs (named u)))

abbrev pub among_own : List ℕ → Use → Bool
among_own ps (reads n) = true
among_own ps (sets n) = true
among_own ps (spawns_into n p) = among p ps
among_own ps (awaits_it n) = true

-- ".. and spawn only their own procedures"
abbrev pub spawns_own : Recipe → List ℕ → Bool
spawns_own r ps = every_use r ps (among_own ps)

abbrev pub is_set : ℕ → Use → Bool
is_set n (reads m) = false
is_set n (sets m) = eqb m n
is_set n (spawns_into m p) = false
is_set n (awaits_it m) = false

-- "variables 8 to 63 that are set by spawn alone". (Neither the other maker nor the main block sets
-- a variable of this maker's.)
abbrev pub by_spawn_alone : Recipe → List ℕ → ℕ → Bool
by_spawn_alone r ps n = leb 8 n && leb n 63 && every_use r ps (λ u. not (is_set n u))

-- what is awaited or spawned into is such a variable
abbrev pub holds_spawned : Recipe → List ℕ → Use → Bool
holds_spawned r ps (reads n) = true
holds_spawned r ps (sets n) = true
holds_spawned r ps (spawns_into n p) = by_spawn_alone r ps n
holds_spawned r ps (awaits_it n) = by_spawn_alone r ps n

-- "A maker awaits only variables 8 to 63 that are set by spawn alone, and spawns only into such
-- variables."
abbrev pub awaits_spawned : Recipe → List ℕ → Bool
awaits_spawned r ps = every_use r ps (holds_spawned r ps)

abbrev pub is_held : ℕ → Use → Bool
is_held n (reads m) = false
is_held n (sets m) = false
is_held n (spawns_into m p) = eqb m n
is_held n (awaits_it m) = eqb m n

-- a variable that holds task numbers: the maker awaits it, or spawns into it
abbrev pub holds : Recipe → List ℕ → ℕ → Bool
holds r ps n = not (every_use r ps (λ u. not (is_held n u)))

abbrev pub unread_use : Recipe → List ℕ → Use → Bool
unread_use r ps (reads n) = not (holds r ps n)
unread_use r ps (sets n) = true
unread_use r ps (spawns_into n p) = true
unread_use r ps (awaits_it n) = true

-- "No expression reads them." (A guard's expression neither.)
abbrev pub unread : Recipe → List ℕ → Bool
unread r ps = every_use r ps (unread_use r ps)

-- ---- what the claim asks of a recipe, and of two

-- of one maker's procedures alone
pub record OneMaker (r : Recipe) (ps : List ℕ) : Type 0 where
  pub spawns : spawns_own r ps ≡ true
  pub awaits : awaits_spawned r ps ≡ true
  pub numbers_unread : unread r ps ≡ true

-- of a recipe with the procedures of the one and of the other
pub record TwoMakers (r : Recipe) (pump drum : List ℕ) : Type 0 where
  pub procedures : apart pump drum ≡ true
  pub main : main_spawns_both r pump drum ≡ true
  pub names_differ : disjoint r pump drum ≡ true
  pub pump_alone : OneMaker r pump
  pub drum_alone : OneMaker r drum

-- "two recipes that differ only in the drum maker's procedures, the pump maker's keeping their
-- numbers" (ps), and likewise of the drum maker's
pub record OnlyOtherDiffers (r r' : Recipe) (ps : List ℕ) : Type 0 where
  pub main : get_or r 0 fin ≡ get_or r' 0 fin
  pub procedures : Every (λ p. get_or r p fin ≡ get_or r' p fin) ps
