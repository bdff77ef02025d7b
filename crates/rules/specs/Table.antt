-- Document 01, "The recipe table" and the numbers 11 to 17: which tables are accepted, and what an accepted one spells.
-- Assumes nothing.
use Rattle.std.specs.Prelude.{ℕ, zero, suc, ◌+◌, ◌*◌, ◌/◌, ◌%◌, Bool, true, ◌&&◌, ◌||◌, cond, List, [], ◌∷◌, eqb, leb, ltb, ℤ, pos, nat_abs, length, get_or, take, drop}
use Rattle.std.specs.Int.Signed.{le_z}
use Rattle.rules.specs.Fields.{half, word, signed}
use Rattle.rules.specs.Values.{is_zero}
use Rattle.rules.specs.Recipe.{Expr, constant, variable, two, one, Stmt, skip, assign, if, while, spawn, suspend, await, guard, Body, fin, ◌▸◌, Recipe}

infixr 20 ◌else◌
-- The fields of the record at the start of a part.
abbrev pub kind_of : List ℕ → ℕ
kind_of p = get_or p 0 0

abbrev pub name_of : List ℕ → ℕ
name_of p = get_or p 1 0

abbrev pub span_of : List ℕ → ℕ
span_of p = half p 2

abbrev pub value_of : List ℕ → ℤ
value_of p = signed (word p 4)

-- "What a record encloses is read as a table part of its own": the bytes that the first record encloses, and those behind it.
unfoldable pub inner : List ℕ → List ℕ
inner p = take (8 * span_of p) (drop 8 p)

unfoldable pub after : List ℕ → List ℕ
after p = drop (8 + 8 * span_of p) p

-- The table of kinds. What a record encloses:
pub data Encloses : Type 0 where
  nothing statements one_expression expression_statements two_expressions : Encloses

-- "The value field is 0 except in kinds 6 and 9.": unused, a procedure's number, any value.
pub data Field : Type 0 where
  unused procedure_number any : Field

-- the least and the greatest name, what it encloses, its value field
pub record Kind : Type 0 where
  pub least : ℕ
  pub most : ℕ
  pub encloses : Encloses
  pub field : Field

abbrev pub kind : ℕ → ℕ → Encloses → Field → Kind
kind l m e f = record { least = l; most = m; encloses = e; field = f }

-- a row for each kind, from 0 on, which is none
abbrev pub kinds : List Kind
kinds =
    kind 0 0 nothing unused  -- 0
    ∷ kind 0 0 statements unused  -- 1 procedure
    ∷ kind 0 0 nothing unused  -- 2 skip
    ∷ kind 0 64 one_expression unused  -- 3 set a variable
    ∷ kind 0 0 expression_statements unused  -- 4 if
    ∷ kind 0 0 expression_statements unused  -- 5 while
    ∷ kind 8 64 one_expression procedure_number  -- 6 spawn; value is the procedure's number
    ∷ kind 0 0 nothing unused  -- 7 suspend
    ∷ kind 0 64 nothing unused  -- 8 await a variable
    ∷ kind 0 0 nothing any  -- 9 constant, the value
    ∷ kind 0 64 nothing unused  -- 10 variable read
    ∷ kind 0 7 two_expressions unused  -- 11 two operands
    ∷ kind 0 1 one_expression unused  -- 12 one operand
    ∷ kind 0 0 one_expression unused  -- 13 guard; request 2.1: "kind 13, name 0, value 0, enclosing one expression"
    ∷ []

abbrev pub kind_row : ℕ → Kind
kind_row k = get_or kinds k (kind 0 0 nothing unused)

-- What can be due where a record stands. Request 2.1 of document 02: a guard is a statement.
pub data Sort : Type 0 where
  procedure statement expression : Sort

abbrev pub is_of : Sort → ℕ → Bool
is_of procedure k = eqb k 1
is_of statement k = leb 2 k && leb k 8 || eqb k 13
is_of expression k = leb 9 k && leb k 12

-- Where what a record encloses must end, the record's part being what its own encloser leaves: at the end ("as sole or last operand"),
-- before it ("leaving none for a second operand" is a fault), or not "over the enclosing end".
pub data Ends : Type 0 where
  at_end before_end within : Ends

abbrev pub ends_fit : Ends → (end length : ℕ) → Bool
ends_fit at_end e l = eqb e l
ends_fit before_end e l = ltb e l
ends_fit within e l = leb e l

-- "not 0 where nothing is enclosed; under 1 (kinds 3–6, 12) or 2 (kind 11)" are faults; request 2.1: a guard has "the span rules of kind 3"
abbrev pub span_fits : Encloses → ℕ → Bool
span_fits nothing s = eqb s 0
span_fits statements s = true
span_fits one_expression s = leb 1 s
span_fits expression_statements s = leb 1 s
span_fits two_expressions s = leb 2 s

-- "value not 0 where unused, or a spawn's outside 0–255" are faults
abbrev pub value_fits : Field → ℤ → Bool
value_fits unused z = is_zero z
value_fits procedure_number z = le_z (pos 0) z && le_z z (pos 255)
value_fits any z = true

-- The rules 13, 14 and 15 of the first record of a part.
abbrev pub span_right : Ends → List ℕ → Bool
span_right ends p = ends_fit ends (8 + 8 * span_of p) (length p) && span_fits (kind_row (kind_of p)).encloses (span_of p)

abbrev pub name_right : List ℕ → Bool
name_right p = leb (kind_row (kind_of p)).least (name_of p) && leb (name_of p) (kind_row (kind_of p)).most

abbrev pub value_right : List ℕ → Bool
value_right p = value_fits (kind_row (kind_of p)).field (value_of p)

-- The number of the first rule that the first record breaks where such a record is due, "12 to 16 in order" without 16; 0 if none.
unfoldable pub record_fault : Sort → Ends → List ℕ → ℕ
record_fault sort ends p =
    cond (is_of sort (kind_of p))
    (cond (span_right ends p)
    (cond (name_right p)
    (cond (value_right p) 0
    15) 14) 13) 12

-- What checking finds: no fault, or the number and the place (the record's index) of the earliest.
pub data Verdict : Type 0 where
  fine : Verdict
  fault : (number place : ℕ) → Verdict

-- the fault of one part, else that of the next
abbrev pub ◌else◌ : Verdict → Verdict → Verdict
fine else v = v
fault n i else v = fault n i

-- the answer for a record at index i: its own fault, else what the rest gives
abbrev pub unless : ℕ → ℕ → Verdict → Verdict
unless number i v = cond (eqb number 0) v (fault number i)

-- What the record of a part at index i encloses, by the checks of an expression and of a row of statements.
-- (A `let` is worked out when it is read, an argument at once.)
unfoldable pub enclosed : (ℕ → Ends → List ℕ → Verdict) → (ℕ → List ℕ → Verdict) → Encloses → ℕ → List ℕ → Verdict
enclosed expr stmts nothing i p = fine
enclosed expr stmts statements i p = stmts (i + 1) (inner p)
enclosed expr stmts one_expression i p = expr (i + 1) at_end (inner p)
enclosed expr stmts expression_statements i p =
    let body = stmts (i + 2 + span_of (inner p)) (after (inner p)) in
    expr (i + 1) within (inner p) else body
enclosed expr stmts two_expressions i p =
    let second = expr (i + 2 + span_of (inner p)) at_end (after (inner p)) in
    expr (i + 1) before_end (inner p) else second

-- The expression that a part at index i starts with, with so many levels left for it: "depth over 16" is 16.
unfoldable pub check_e : (levels i : ℕ) → Ends → List ℕ → Verdict
check_e zero i ends p = unless (record_fault expression ends p) i (fault 16 i)
check_e (suc d) i ends p =
    let operands = enclosed (check_e d) (λ j q. fine) (kind_row (kind_of p)).encloses i p in
    unless (record_fault expression ends p) i operands

-- A row of records of one sort, procedures or statements, by the check of shorter rows.
unfoldable pub levels : (Sort → ℕ → ℕ → List ℕ → Verdict) → Sort → ℕ → ℕ → List ℕ → Verdict
levels rows sort zero i p = fault 16 i
levels rows sort (suc d) i p =
    let rest = rows sort (suc d) (i + 1 + span_of p) (after p) in
    enclosed (check_e d) (rows statement d) (kind_row (kind_of p)).encloses i p else rest

unfoldable pub first_row : (Sort → ℕ → ℕ → List ℕ → Verdict) → Sort → ℕ → ℕ → List ℕ → Verdict
first_row rows sort d i p =
    let deeper = levels rows sort d i p in
    let some = unless (record_fault sort within p) i deeper in
    cond (eqb (length p) 0) fine some

-- rows of at most n bytes
unfoldable pub rows_of : ℕ → Sort → (levels i : ℕ) → List ℕ → Verdict
rows_of zero sort d i p = fine
rows_of (suc n) sort d i p = first_row (rows_of n) sort d i p

unfoldable pub check_rows : Sort → (levels i : ℕ) → List ℕ → Verdict
check_rows sort d i p = rows_of (length p) sort d i p

-- "17 only when all records pass, at the earliest such spawn": of the records from index i on, in a table of n procedures
abbrev pub names_none : ℕ → List ℕ → Bool
names_none n p = eqb (kind_of p) 6 && leb n (nat_abs (value_of p))

unfoldable pub check_spawns : (records : ℕ) → (n i : ℕ) → List ℕ → Verdict
check_spawns zero n i p = fine
check_spawns (suc k) n i p =
    let rest = check_spawns k n (i + 1) (drop 8 p) in
    cond (names_none n p) (fault 17 i) rest

-- how many of the records are procedures
unfoldable pub procedures : (records : ℕ) → List ℕ → ℕ
procedures zero p = 0
procedures (suc k) p = cond (eqb (kind_of p) 1) 1 0 + procedures k (drop 8 p)

abbrev pub records : List ℕ → ℕ
records t = length t / 8

-- "table length 0, not a multiple of 8, or over 32,768"
abbrev pub length_fits : ℕ → Bool
length_fits l = leb 1 l && eqb (l % 8) 0 && leb l 32768

-- The check of a table.
unfoldable pub check : List ℕ → Verdict
check t =
    let spawns = check_spawns (records t) (procedures (records t) t) 0 t in
    let all = check_rows procedure 17 0 t else spawns in
    cond (length_fits (length t)) all (fault 11 0)

-- What an accepted table spells. (Any reading, where a part spells none; n bounds its bytes.)
unfoldable pub read_e : ℕ → List ℕ → Expr
read_e zero p = constant (pos 0)
read_e (suc n) p =
    let both = two (name_of p) (read_e n (inner p)) (read_e n (after (inner p))) in
    let single = one (name_of p) (read_e n (inner p)) in
    let operator = cond (eqb (kind_of p) 11) both single in
    cond (eqb (kind_of p) 9) (constant (value_of p)) (cond (eqb (kind_of p) 10) (variable (name_of p)) operator)

unfoldable pub expr_of : List ℕ → Expr
expr_of p = read_e (length p) p

-- the statement at the start of a part, by the reading of bodies
unfoldable pub stmt_of : (List ℕ → Body) → List ℕ → Stmt
stmt_of body p =
    let e = expr_of (inner p) in
    let b = body (after (inner p)) in
    let tests = cond (eqb (kind_of p) 4) (if e b) (while e b) in
    let waits = cond (eqb (kind_of p) 8) (await (name_of p)) (guard e) in
    let others = cond (eqb (kind_of p) 6) (spawn (name_of p) (nat_abs (value_of p)) e) (cond (eqb (kind_of p) 7) suspend waits) in
    let more = cond (leb (kind_of p) 5) tests others in
    cond (eqb (kind_of p) 2) skip (cond (eqb (kind_of p) 3) (assign (name_of p) e) more)

unfoldable pub read_b : ℕ → List ℕ → Body
read_b zero p = fin
read_b (suc n) p =
    let some = stmt_of (read_b n) p ▸ read_b n (after p) in
    cond (eqb (length p) 0) fin some

unfoldable pub body_of : List ℕ → Body
body_of p = read_b (length p) p

unfoldable pub read_r : ℕ → List ℕ → Recipe
read_r zero p = []
read_r (suc n) p =
    let some = body_of (inner p) ∷ read_r n (after p) in
    cond (eqb (length p) 0) [] some

unfoldable pub recipe_of : List ℕ → Recipe
recipe_of t = read_r (length t) t
