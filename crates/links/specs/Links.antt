-- Where the statements of a table lead, and where its procedures start, as lists by index.
-- Assumes nothing.
use Rattle.std.specs.Prelude.{ℕ, ◌+◌, ◌*◌, ◌≤◌, ◌≡◌, Bool, true, false, cond, List, [], ◌∷◌, eqb, length, set}
use Rattle.rules.specs.Recipe.{Stmt, skip, Body, fin, ◌▸◌, Recipe, size_b, encode_b, levels_b, NamedB}
use Rattle.rules.specs.Table.{span_of}
use Rattle.rules.specs.Standing.{next_of}
use Rattle.rules.specs.Places.{Point, nowhere, stop, skips, assigns, tests, spawns, suspends, awaits, guards}

-- whether a statement stands there
abbrev pub is_statement : Point ℕ → Bool
is_statement nowhere = false
is_statement stop = false
is_statement (skips k) = true
is_statement (assigns n e k) = true
is_statement (tests e k l) = true
is_statement (spawns n p e k) = true
is_statement (suspends k) = true
is_statement (awaits n k) = true
is_statement (guards e k) = true

-- the list with where each statement leads written at the statement's index, the points standing at i, i + 1, ..
unfoldable pub linked : List (Point ℕ) → ℕ → List ℕ → List ℕ
linked [] i xs = xs
linked (p ∷ ps) i xs = linked ps (i + 1) (cond (is_statement p) (set xs i (next_of p)) xs)

-- the list with the first place of each procedure written at the procedure's number, the procedures standing from index i on and numbered
-- from p on
unfoldable pub started_from : Recipe → (i p : ℕ) → List ℕ → List ℕ
started_from [] i p xs = xs
started_from (b ∷ r) i p xs = started_from r (i + 1 + size_b b) (p + 1) (set xs p (i + 1))

-- the same of a whole table
unfoldable pub started : Recipe → List ℕ → List ℕ
started r xs = started_from r 0 0 xs

-- ---- what the code of one row keeps to

-- a part at index at that is the bytes of a body, with so many levels left for it
pub record BodySpelt (at left : ℕ) (p : List ℕ) : Type 0 where
  pub body : Body
  pub spelt : p ≡ encode_b body
  pub procedures : ℕ
  pub named : NamedB procedures body
  pub shallow : levels_b body ≤ left
  pub few : at + size_b body ≤ 4096

-- the first statement of a body that has one
abbrev pub first_of : Body → Stmt
first_of fin = skip
first_of (s ▸ b) = s

-- the place after the first statement of a row at index at: the next statement, or follow, if there is none
abbrev pub place_after : List ℕ → (at follow : ℕ) → ℕ
place_after p at follow = cond (eqb (length p) (8 + 8 * span_of p)) follow (at + 1 + span_of p)
