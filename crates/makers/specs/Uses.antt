-- What the procedures of a recipe do with names.
-- Assumes nothing.
use Rattle.std.specs.Prelude.{ℕ, Bool, true, not, ◌&&◌, List, [], ◌∷◌, eqb, get_or}
use Rattle.rules.specs.Recipe.{Expr, constant, variable, two, one, Stmt, skip, assign, if, while, spawn, suspend, await, guard, Body, fin, ◌▸◌, Recipe}

-- what a record of a table does with its name (a spawn also names a procedure)
pub data Use : Type 0 where
  reads : (name : ℕ) → Use
  sets : (name : ℕ) → Use
  spawns_into : (name procedure : ℕ) → Use
  awaits_it : (name : ℕ) → Use

abbrev pub named : Use → ℕ
named (reads n) = n
named (sets n) = n
named (spawns_into n p) = n
named (awaits_it n) = n

-- "Name 64 is the task's own parameter": it is no variable, and each task has its own.
abbrev pub own : ℕ → Bool
own n = eqb n 64

-- Does every use in an expression, a statement, a body pass the test f?
unfoldable pub every_e : (Use → Bool) → Expr → Bool
every_e f (constant z) = true
every_e f (variable n) = f (reads n)
every_e f (two o a b) = every_e f a && every_e f b
every_e f (one o a) = every_e f a

unfoldable mutual
  pub every_s : (Use → Bool) → Stmt → Bool
  every_s f skip = true
  every_s f (assign n e) = f (sets n) && every_e f e
  every_s f (if e b) = every_e f e && every_b f b
  every_s f (while e b) = every_e f e && every_b f b
  every_s f (spawn n p e) = f (spawns_into n p) && every_e f e
  every_s f suspend = true
  every_s f (await n) = f (awaits_it n)
  every_s f (guard e) = every_e f e

  pub every_b : (Use → Bool) → Body → Bool
  every_b f fin = true
  every_b f (s ▸ b) = every_s f s && every_b f b

-- the same of the procedures with these numbers
unfoldable pub every_use : Recipe → List ℕ → (Use → Bool) → Bool
every_use r [] f = true
every_use r (p ∷ ps) f = every_b f (get_or r p fin) && every_use r ps f

-- these procedures name n: not every name of theirs is another one
abbrev pub names : Recipe → List ℕ → ℕ → Bool
names r ps n = not (every_use r ps (λ u. not (eqb (named u) n)))
