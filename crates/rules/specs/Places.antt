-- Document 01, "The state": the places of a recipe's table, what stands at each, and where it leads.
-- Assumes nothing.
use Rattle.std.specs.Prelude.{ℕ, zero, suc, ◌+◌, Bool, true, false, List, [], ◌∷◌, ◌++◌, get_or, replicate}
use Rattle.rules.specs.Recipe.{Expr, Stmt, skip, assign, if, while, spawn, suspend, await, guard, Body, fin, ◌▸◌, Recipe, size_e, size_s, size_b}

-- What a task stands at, and the places where that leads: no place, the end of its procedure, or a statement. (A is what a place is:
-- for a table its index, for document 002 the statements still to do.)
-- A test leads to one place where it is true and to one where it is not: an if and a while differ in nothing else.
pub data Point (A : Type 0) : Type 0 where
  nowhere : Point A
  stop : Point A
  skips : A → Point A
  assigns : (name : ℕ) → Expr → A → Point A
  tests : Expr → A → A → Point A
  spawns : (name procedure : ℕ) → Expr → A → Point A
  suspends : A → Point A
  awaits : (name : ℕ) → A → Point A
  guards : Expr → A → Point A

-- where a body at index i is entered, if k follows it: "A body without statements counts as run through."
unfoldable pub enter : Body → (i k : ℕ) → ℕ
enter fin i k = k
enter (s ▸ b) i k = i

-- What stands at the records of a statement at index i that k follows, and of a body.
-- "After the last statement of a while body the place is the while again; after that of an if body, whatever follows the if."
unfoldable mutual
  pub points_s : Stmt → (i k : ℕ) → List (Point ℕ)
  points_s skip i k = skips k ∷ []
  points_s (assign n e) i k = assigns n e k ∷ replicate (size_e e) nowhere
  points_s (if e b) i k = tests e (enter b (i + 1 + size_e e) k) k ∷ (replicate (size_e e) nowhere ++ points_b b (i + 1 + size_e e) k)
  points_s (while e b) i k = tests e (enter b (i + 1 + size_e e) i) k ∷ (replicate (size_e e) nowhere ++ points_b b (i + 1 + size_e e) i)
  points_s (spawn n p e) i k = spawns n p e k ∷ replicate (size_e e) nowhere
  points_s suspend i k = suspends k ∷ []
  points_s (await n) i k = awaits n k ∷ []
  points_s (guard e) i k = guards e k ∷ replicate (size_e e) nowhere

  pub points_b : Body → (i k : ℕ) → List (Point ℕ)
  points_b fin i k = []
  points_b (s ▸ b) i k = points_s s i (enter b (i + size_s s) k) ++ points_b b (i + size_s s) k

-- "A place is the index of a task's next statement, or of the record after its procedure's last for "at the end"."
-- Of the procedures from index i on, where x stands: the end of the procedure before, if there is one.
unfoldable pub points_r : Recipe → ℕ → Point ℕ → List (Point ℕ)
points_r [] i x = x ∷ []
points_r (b ∷ r) i x = x ∷ (points_b b (i + 1) (i + 1 + size_b b) ++ points_r r (i + 1 + size_b b) stop)

unfoldable pub at : Recipe → ℕ → Point ℕ
at r i = get_or (points_r r 0 nowhere) i nowhere

abbrev pub stands : {A : Type 0} → Point A → Bool
stands nowhere = false
stands stop = true
stands (skips k) = true
stands (assigns n e k) = true
stands (tests e k l) = true
stands (spawns n p e k) = true
stands (suspends k) = true
stands (awaits n k) = true
stands (guards e k) = true

abbrev pub is_place : Recipe → ℕ → Bool
is_place r i = stands (at r i)

-- the place at which a task of procedure p starts: the record behind the procedure's own (0, no place, if there is none)
unfoldable pub start_from : Recipe → ℕ → ℕ → ℕ
start_from [] i p = 0
start_from (b ∷ r) i zero = i + 1
start_from (b ∷ r) i (suc p) = start_from r (i + 1 + size_b b) p

unfoldable pub start : Recipe → ℕ → ℕ
start r p = start_from r 0 p
