-- What the active task does next, as the code says it.
-- Assumes nothing.
use Rattle.std.specs.Prelude as P
use Rattle.std.specs.Prelude.{ℕ, ◌≤◌, ◌≡◌, cond, List, [], eqb, ℤ, nat_abs, length, get_or, IfSome}
use Rattle.std.proofs.Math.Option.{none, some}
use Rattle.rules.specs.Recipe.{Recipe, write}
use Rattle.rules.specs.Table.{kind_of, value_of}
use Rattle.rules.specs.Places.{Point, at, start}
use Rattle.rules.specs.Standing.{body_place, point_at, StandsAt}
use Rattle.rules.specs.State.{Task, Store}
use Rattle.rules.specs.Log.{Event, gave, waits, ended}
use Rattle.rules.specs.Scheduler.{on, back, over, novalue, Act, halts, does}
use Rattle.rules.specs.Steps.{limits, valve_of, counting, env_of, go_to, moves, spawn_at, act_at}
use Rattle.moves.specs.declared.Move.{Move}
use Rattle.moves.specs.declared.Move.TheVariants.{Goes, Sets, Spawns, Gives, Waits, Ends}

-- what each move does
abbrev pub act_of : Move → Store → List (Task ℕ) → Task ℕ → Act Store (Task ℕ) Event
act_of (Goes k) s q t = does s [] (on (go_to t k)) none
act_of (Sets n z k) s q t = moves s.issued (write (env_of s t) n z) t k [] (valve_of t.number n z)
act_of (Spawns n p z k) s q t = spawn_at counting (limits (length q) s.issued) s t n p z k
act_of (Gives k) s q t = does s [] (back (go_to t k)) (some (gave t.number))
act_of (Waits z) s q t = does s [] (back t) (some (waits t.number z))
act_of Ends s q t = does s [] over (some (ended t.number))

-- of the move, if there is one: without one a value is missing
abbrev pub act_in : P.Option Move → Store → List (Task ℕ) → Task ℕ → Act Store (Task ℕ) Event
act_in P.None s q t = halts novalue
act_in (P.Some m) s q t = act_of m s q t

-- a move's name is that of a variable or of the parameter
abbrev pub Named : Move → Type 0
Named (Goes k) = Unit {0}
Named (Sets n z k) = n ≤ 64
Named (Spawns n p z k) = n ≤ 64
Named (Gives k) = Unit {0}
Named (Waits z) = Unit {0}
Named Ends = Unit {0}

abbrev pub store_with : (issued : ℕ) → (variables : List ℤ) → Store
store_with issued variables = record { issued = issued; variables = variables }

-- the move, if there is one, that the task t makes at the point x, with these variables, whatever number is issued and whoever is queued
pub record Moves (begin : ℕ → ℕ) (x : Point ℕ) (variables : List ℤ) (t : Task ℕ) (m : P.Option Move) : Type 0 where
  pub acts : (issued : ℕ) (q : List (Task ℕ))
      → act_at counting begin limits x (store_with issued variables) q t ≡ act_in m (store_with issued variables) q t
  pub named : IfSome m Named

-- in a recipe, where t stands
abbrev pub MovesIn : Recipe → (variables : List ℤ) → Task ℕ → P.Option Move → Type 0
MovesIn r variables t m = Moves (start r) (at r t.place) variables t m

-- a part that starts with a record of an accepted table
pub record Part (p : List ℕ) : Type 0 where
  pub procedures : ℕ
  pub stands : StandsAt procedures p

-- one whose record encloses an expression first
pub record Enclosing (p : List ℕ) : Type 0 where
  pub part : Part p
  pub from_set : 3 ≤ kind_of p
  pub to_spawn : kind_of p ≤ 6

-- what a spawn finds in the list of starts is where its procedure begins
abbrev pub Begins : (begin : ℕ → ℕ) → (starts part : List ℕ) → Type 0
Begins begin starts p = kind_of p ≡ 6 → get_or starts (nat_abs (value_of p)) 0 ≡ begin (nat_abs (value_of p))

-- the move at the statement at index i that a part starts with
abbrev pub MovesAt : (starts part : List ℕ) → (i follow : ℕ) → (variables : List ℤ) → Task ℕ → P.Option Move → Type 0
MovesAt starts p i follow variables t m =
    (begin : ℕ → ℕ) → Begins begin starts p → Moves begin (point_at p i follow) variables t m

-- where the body of an if or a while leads: a body without statements counts as run through
abbrev pub into_body : (part : List ℕ) → (i follow : ℕ) → ℕ
into_body p i follow = body_place p i (cond (eqb (kind_of p) 4) follow i)
