-- What stands at an index of an accepted table, read off the table's bytes from that record on.
-- Assumes nothing.
use Rattle.std.specs.Prelude.{ℕ, ◌+◌, ◌*◌, ◌≤◌, ◌<◌, ◌≡◌, Bool, ◌||◌, cond, List, ◌++◌, eqb, leb, pos, nat_abs, length}
use Rattle.rules.specs.Recipe.{Expr, encode_e, NamedE}
use Rattle.rules.specs.Table.{kind_of, name_of, span_of, value_of, inner, after, expr_of}
use Rattle.rules.specs.Places.{Point, nowhere, stop, skips, assigns, tests, spawns, suspends, awaits, guards}

-- where a statement leads once it is done (for a test: where it is not true; 0 where no statement stands)
abbrev pub next_of : Point ℕ → ℕ
next_of nowhere = 0
next_of stop = 0
next_of (skips k) = k
next_of (assigns n e k) = k
next_of (tests e k l) = l
next_of (spawns n p e k) = k
next_of (suspends k) = k
next_of (awaits n k) = k
next_of (guards e k) = k

-- where the body of the if or while at index i, whose record starts the part, is entered: k if it has no statements
unfoldable pub body_place : (part : List ℕ) → (i k : ℕ) → ℕ
body_place part i k = cond (eqb (length (after (inner part))) 0) k (i + 2 + span_of (inner part))

-- what stands at index i, where the part starts, if `next` follows it (a `let` is worked out when it is read, an argument at once)
unfoldable pub point_at : (part : List ℕ) → (i next : ℕ) → Point ℕ
point_at part i next =
    let e = expr_of (inner part) in
    let set = assigns (name_of part) e next in
    let once = tests e (body_place part i next) next in
    let again = tests e (body_place part i i) next in
    let spawn = spawns (name_of part) (nat_abs (value_of part)) e next in
    let guard = guards e next in
    cond (eqb (kind_of part) 1) stop
    (cond (eqb (kind_of part) 2) (skips next)
    (cond (eqb (kind_of part) 3) set
    (cond (eqb (kind_of part) 4) once
    (cond (eqb (kind_of part) 5) again
    (cond (eqb (kind_of part) 6) spawn
    (cond (eqb (kind_of part) 7) (suspends next)
    (cond (eqb (kind_of part) 8) (awaits (name_of part) next)
    (cond (eqb (kind_of part) 13) guard
    nowhere))))))))

-- the kinds whose records stand at places: statements, and a procedure, where the one before ends
abbrev pub at_place : (kind : ℕ) → Bool
at_place k = leb k 8 || eqb k 13

-- what a part encloses starts with an expression
abbrev pub Opens : (part : List ℕ) → Type 0
Opens p = (e : Expr) × (inner p ≡ encode_e e ++ after (inner p)) × NamedE e

-- the record of a spawn in a table of n procedures: a name from 8 on, and the number of one of the procedures
pub record SpawnsAt (n : ℕ) (p : List ℕ) : Type 0 where
  pub low : 8 ≤ name_of p
  pub natural : value_of p ≡ pos (nat_abs (value_of p))
  pub small : nat_abs (value_of p) ≤ 255
  pub there : nat_abs (value_of p) < n

-- the record that a part of such a table starts with
pub record StandsAt (n : ℕ) (p : List ℕ) : Type 0 where
  pub whole : 8 + 8 * span_of p ≤ length p
  pub some_kind : 1 ≤ kind_of p
  pub a_kind : kind_of p ≤ 13
  pub named : name_of p ≤ 64
  pub starts : 3 ≤ kind_of p → kind_of p ≤ 6 → Opens p
  pub guarded : kind_of p ≡ 13 → Opens p
  pub spawned : kind_of p ≡ 6 → SpawnsAt n p
