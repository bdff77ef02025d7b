-- Two makers in one recipe: what either maker may rely on.
-- Assumes nothing.
use Rattle.std.specs.Prelude.{ℕ, zero, suc, ◌/◌, ◌≡◌, ◌⊎◌, Bool, ◌&&◌, List, [], ◌∷◌, ◌++◌, map, eqb, ℤ, length, get_or, drop}
use Rattle.rules.specs.Fields.{word, signed}
use Rattle.rules.specs.Table.{recipe_of}
use Rattle.rules.specs.Run.{start_on}
use Rattle.rules.specs.Fairness.{only}
use Rattle.rules.specs.Demand.{logs_written}
use Rattle.runner.specs.declared.Started.{Started}
use Rattle.runner.specs.Calls.{started_of, Called, result, Calls}
use Rattle.makers.specs.Uses.{names}
use Rattle.makers.specs.Makers.{TwoMakers, OnlyOtherDiffers}

-- a valve record "without task numbers": a valve and the value that it was set to
pub record Setting : Type 0 where
  pub valve : ℕ
  pub value : ℤ

-- of the first records of a log, those of kind 7 whose valve is one of these
unfoldable pub settings_of : (mine : ℕ → Bool) → (records : ℕ) → List ℕ → List Setting
settings_of mine zero b = []
settings_of mine (suc n) b =
    only (eqb (get_or b 0 0) 7 && mine (get_or b 1 0)) (record { valve = get_or b 1 0; value = signed (word b 4) } ∷ []) ++ settings_of mine n (drop 8 b)

abbrev pub settings_in : (mine : ℕ → Bool) → List ℕ → List Setting
settings_in mine b = settings_of mine (length b / 8) b

-- ".. in one run are the beginning of those in the other"
abbrev pub Begins : List Setting → List Setting → Type 0
Begins xs ys = (zs : List Setting) × (ys ≡ xs ++ zs)

abbrev pub OneBegins : List Setting → List Setting → Type 0
OneBegins xs ys = Begins xs ys ⊎ Begins ys xs

-- "any two states reached from fresh .. and full logs continued", one of them: a call of start, as
-- it promises, which accepts the table, and calls of run behind it, as run promises them, whatever
-- their budgets and logs
pub record FromFresh (t : List ℕ) (cs : List Called) : Type 0 where
  pub block : List ℕ
  pub left : List ℕ
  pub answer : Started
  pub started : started_of answer left ≡ start_on t block
  pub accepted : answer.number ≡ 0
  pub ran : Calls t left cs

-- the valve records of these valves in the joined logs of a list of calls
abbrev pub valve_records : (mine : ℕ → Bool) → List Called → List Setting
valve_records mine cs = settings_in mine (logs_written (map result cs))

-- "The pump maker's valve records, without task numbers, in one run are the beginning of those in
-- the other." A record is the maker's if its procedures (ps) name the valve. ("neither run stopped
-- by 3, 4 or 24" is not needed: what a run that is stopped has written is a beginning too.)
abbrev pub Undisturbed : (t t' : List ℕ) → (ps : List ℕ) → Type 0
Undisturbed t t' ps = (cs cs' : List Called) → FromFresh t cs → FromFresh t' cs'
    → OneBegins (valve_records (names (recipe_of t) ps) cs) (valve_records (names (recipe_of t) ps) cs')

-- "each wants to know that the other's code cannot change its own valve work", for every choice of
-- either maker's procedures. (The other maker's may have other numbers in the other recipe, but for
-- the one that the main block spawns.)
pub record KeptApart (t t' : List ℕ) : Type 0 where
  pub pump_kept : (pump drum drum' : List ℕ) → TwoMakers (recipe_of t) pump drum → TwoMakers (recipe_of t') pump drum'
      → OnlyOtherDiffers (recipe_of t) (recipe_of t') pump → Undisturbed t t' pump
  pub drum_kept : (pump pump' drum : List ℕ) → TwoMakers (recipe_of t) pump drum → TwoMakers (recipe_of t') pump' drum
      → OnlyOtherDiffers (recipe_of t) (recipe_of t') drum → Undisturbed t t' drum
