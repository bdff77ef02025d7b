-- Document 002's places: the statements still to do from a place of the table, and what a task with these to do stands at.
-- Assumes nothing.
use Rattle.std.specs.Prelude.{ℕ, List, [], ◌∷◌, ◌++◌, get_or, replicate}
use Rattle.std.proofs.Math.Option.{Option, none, some}
use Rattle.rules.specs.Recipe.{Stmt, skip, assign, if, while, spawn, suspend, await, guard, Body, fin, ◌▸◌, Recipe, size_e}
use Rattle.rules.specs.Places.{Point, stop, skips, assigns, tests, spawns, suspends, awaits, guards}

infixr 40 ◌then◌
-- one body, then another
unfoldable pub ◌then◌ : Body → Body → Body
fin then k = k
(s ▸ b) then k = s ▸ (b then k)

-- for each record of a statement that k follows, the statements still to do from there, if it is a place
unfoldable mutual
  pub rests_s : Stmt → Body → List (Option Body)
  rests_s skip k = some (skip ▸ k) ∷ []
  rests_s (assign n e) k = some (assign n e ▸ k) ∷ replicate (size_e e) none
  rests_s (if e b) k = some (if e b ▸ k) ∷ (replicate (size_e e) none ++ rests_b b k)
  rests_s (while e b) k = some (while e b ▸ k) ∷ (replicate (size_e e) none ++ rests_b b (while e b ▸ k))
  rests_s (spawn n p e) k = some (spawn n p e ▸ k) ∷ replicate (size_e e) none
  rests_s suspend k = some (suspend ▸ k) ∷ []
  rests_s (await n) k = some (await n ▸ k) ∷ []
  rests_s (guard e) k = some (guard e ▸ k) ∷ replicate (size_e e) none

  -- the same of a body that k follows
  pub rests_b : Body → Body → List (Option Body)
  rests_b fin k = []
  rests_b (s ▸ b) k = rests_s s (b then k) ++ rests_b b k

-- the same of the procedures from a record on, where x is still to do: no statement, if that is the end of the procedure before
unfoldable pub rests_r : Recipe → Option Body → List (Option Body)
rests_r [] x = x ∷ []
rests_r (b ∷ r) x = x ∷ (rests_b b fin ++ rests_r r (some fin))

-- the statements still to do from an index of the table, if it is a place
unfoldable pub rest : Recipe → ℕ → Option Body
rest r i = get_or (rests_r r none) i none

-- what a task with these statements to do stands at, and what it has to do then
unfoldable pub look : Body → Point Body
look fin = stop
look (skip ▸ k) = skips k
look (assign n e ▸ k) = assigns n e k
look (if e b ▸ k) = tests e (b then k) k
look (while e b ▸ k) = tests e (b then (while e b ▸ k)) k
look (spawn n p e ▸ k) = spawns n p e k
look (suspend ▸ k) = suspends k
look (await n ▸ k) = awaits n k
look (guard e ▸ k) = guards e k
