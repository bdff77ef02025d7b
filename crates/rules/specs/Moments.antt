-- Document 01, "Steps", on lists of run calls: the calls of a list, the steps that they make and the moments of these.
-- Assumes nothing.
use Rattle.std.specs.Prelude.{ℕ, ◌+◌, ◌-◌, List, [], ◌∷◌, ◌++◌}
use Rattle.std.proofs.Math.Option.{Option}
use Rattle.rules.specs.Scheduler.{Rules, Config, Ending, Run, end, step, run, last, size}

-- A run call: refused, or with a budget of steps and room for so many log records.
pub data Call : Type 0 where
  refused : Call
  call : (budget room : ℕ) → Call

-- "Budgets count from the moment on: what its call then has left and those of later calls, refused ones apart"
abbrev pub budgets : List Call → ℕ
budgets [] = 0
budgets (refused ∷ cs) = budgets cs
budgets (call b r ∷ cs) = b + budgets cs

module _ (R : Rules) where
  -- what happens at a moment: its call makes a step, or ends
  pub data Does : Type 0 where
    made : Option R.Event → Does
    ends : Ending → Does

  -- "The moments are the states before, between and after the steps": the state, the calls from then on, of which the first is the moment's own
  -- with what budget and room it has left, and what happens there. (So the budgets from the moment on are those of its calls.)
  pub record Moment : Type 0 where
    pub at : Config R
    pub calls : List Call
    pub what : Does

  abbrev pub moments : (budget room : ℕ) → List Call → Run R → List Moment
  moments b r cs (end e c) = record { at = c; calls = call b r ∷ cs; what = ends e } ∷ []
  moments b r cs (step c x u) = record { at = c; calls = call b r ∷ cs; what = made x } ∷ moments (b - 1) (r - size R x) cs u

  -- The moments of a list of calls, "call after call": each call is given the state that the last one left; "a refused call has none".
  -- The state between two calls is a moment of the earlier one, at which that ends, and then of the later one.
  abbrev pub trace : Config R → List Call → List Moment
  trace c [] = []
  trace c (refused ∷ cs) = trace c cs
  trace c (call b r ∷ cs) = moments b r cs (run R b r c) ++ trace (last R (run R b r c)) cs

  -- what the calls of a list answer, and the state that they leave
  abbrev pub answers : Config R → List Call → List (Run R)
  answers c [] = []
  answers c (refused ∷ cs) = answers c cs
  answers c (call b r ∷ cs) = run R b r c ∷ answers (last R (run R b r c)) cs

  abbrev pub finally : Config R → List Call → Config R
  finally c [] = c
  finally c (refused ∷ cs) = finally c cs
  finally c (call b r ∷ cs) = finally (last R (run R b r c)) cs
