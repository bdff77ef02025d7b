-- Document 01, "The recipe table": what a table spells. Expressions, statements, procedures and recipes, their records, the limits,
-- and the value of an expression.
-- Assumes nothing.
use Rattle.std.specs.Prelude.{ℕ, ◌+◌, ◌≤◌, ◌<◌, max, ◌≡◌, true, cond, List, [], ◌∷◌, ◌++◌, eqb, ℤ, pos, length, get_or, set}
use Rattle.std.proofs.Math.Option.{Option, some}
use Rattle.rules.specs.Fields.{bits, bytes2, bytes4}
use Rattle.rules.specs.Values.{in_range, apply1, apply2, of_both, of_one}

infixr 50 ◌▸◌
-- kinds 9 to 12
pub data Expr : Type 0 where
  constant : ℤ → Expr
  variable : (name : ℕ) → Expr
  two : (operator : ℕ) → Expr → Expr → Expr
  one : (operator : ℕ) → Expr → Expr

-- kinds 2 to 8 and 13; a body is a row of statements
mutual
  pub data Stmt : Type 0 where
    skip : Stmt
    assign : (name : ℕ) → Expr → Stmt
    if : Expr → Body → Stmt
    while : Expr → Body → Stmt
    spawn : (name procedure : ℕ) → Expr → Stmt
    suspend : Stmt
    await : (name : ℕ) → Stmt
    -- request 2.1 of document 02: "the guard of source document 002's Guard language"
    guard : Expr → Stmt

  pub data Body : Type 0 where
    fin : Body
    ◌▸◌ : Stmt → Body → Body

-- "The table is a row of procedures, numbered from 0; number 0 is the main one."
abbrev pub Recipe : Type 0
Recipe = List Body

-- how many records each takes
unfoldable pub size_e : Expr → ℕ
size_e (constant z) = 1
size_e (variable n) = 1
size_e (two o a b) = 1 + (size_e a + size_e b)
size_e (one o a) = 1 + size_e a

unfoldable mutual
  pub size_s : Stmt → ℕ
  size_s skip = 1
  size_s (assign n e) = 1 + size_e e
  size_s (if e b) = 1 + (size_e e + size_b b)
  size_s (while e b) = 1 + (size_e e + size_b b)
  size_s (spawn n p e) = 1 + size_e e
  size_s suspend = 1
  size_s (await n) = 1
  size_s (guard e) = 1 + size_e e

  pub size_b : Body → ℕ
  size_b fin = 0
  size_b (s ▸ b) = size_s s + size_b b

unfoldable pub size_r : Recipe → ℕ
size_r [] = 0
size_r (b ∷ r) = 1 + (size_b b + size_r r)

-- "Records of 8 bytes": "Byte 0 is the kind, byte 1 the name, bytes 2–3 the span (unsigned: how many following records it encloses),
-- bytes 4–7 the value (signed, two's complement)." Written kind(name, span, value).
abbrev pub row : (kind name span : ℕ) → (value : ℤ) → List ℕ
row kind name span value = kind ∷ name ∷ (bytes2 span ++ bytes4 (bits value))

-- the table of a recipe
unfoldable pub encode_e : Expr → List ℕ
encode_e (constant z) = row 9 0 0 z
encode_e (variable n) = row 10 n 0 (pos 0)
encode_e (two o a b) = row 11 o (size_e a + size_e b) (pos 0) ++ (encode_e a ++ encode_e b)
encode_e (one o a) = row 12 o (size_e a) (pos 0) ++ encode_e a

unfoldable mutual
  pub encode_s : Stmt → List ℕ
  encode_s skip = row 2 0 0 (pos 0)
  encode_s (assign n e) = row 3 n (size_e e) (pos 0) ++ encode_e e
  encode_s (if e b) = row 4 0 (size_e e + size_b b) (pos 0) ++ (encode_e e ++ encode_b b)
  encode_s (while e b) = row 5 0 (size_e e + size_b b) (pos 0) ++ (encode_e e ++ encode_b b)
  encode_s (spawn n p e) = row 6 n (size_e e) (pos p) ++ encode_e e
  encode_s suspend = row 7 0 0 (pos 0)
  encode_s (await n) = row 8 n 0 (pos 0)
  encode_s (guard e) = row 13 0 (size_e e) (pos 0) ++ encode_e e

  pub encode_b : Body → List ℕ
  encode_b fin = []
  encode_b (s ▸ b) = encode_s s ++ encode_b b

unfoldable pub encode : Recipe → List ℕ
encode [] = []
encode (b ∷ r) = row 1 0 (size_b b) (pos 0) ++ (encode_b b ++ encode r)

-- "A procedure has depth 0 and each record is one deeper than the record that encloses it": the levels of records that each makes
unfoldable pub levels_e : Expr → ℕ
levels_e (constant z) = 1
levels_e (variable n) = 1
levels_e (two o a b) = 1 + max (levels_e a) (levels_e b)
levels_e (one o a) = 1 + levels_e a

unfoldable mutual
  pub levels_s : Stmt → ℕ
  levels_s skip = 1
  levels_s (assign n e) = 1 + levels_e e
  levels_s (if e b) = 1 + max (levels_e e) (levels_b b)
  levels_s (while e b) = 1 + max (levels_e e) (levels_b b)
  levels_s (spawn n p e) = 1 + levels_e e
  levels_s suspend = 1
  levels_s (await n) = 1
  levels_s (guard e) = 1 + levels_e e

  pub levels_b : Body → ℕ
  levels_b fin = 0
  levels_b (s ▸ b) = max (levels_s s) (levels_b b)

-- names in their rows, values in their fields; a recipe of n procedures spawns only these, of which 0–255 have a number
unfoldable pub NamedE : Expr → Type 0
NamedE (constant z) = in_range z ≡ true
NamedE (variable n) = n ≤ 64
NamedE (two o a b) = (o ≤ 7) × NamedE a × NamedE b
NamedE (one o a) = (o ≤ 1) × NamedE a

unfoldable mutual
  pub NamedS : ℕ → Stmt → Type 0
  NamedS n skip = Unit {0}
  NamedS n (assign v e) = (v ≤ 64) × NamedE e
  NamedS n (if e b) = NamedE e × NamedB n b
  NamedS n (while e b) = NamedE e × NamedB n b
  NamedS n (spawn v p e) = (8 ≤ v) × (v ≤ 64) × (p ≤ 255) × (p < n) × NamedE e
  NamedS n suspend = Unit {0}
  NamedS n (await v) = v ≤ 64
  NamedS n (guard e) = NamedE e

  pub NamedB : ℕ → Body → Type 0
  NamedB n fin = Unit {0}
  NamedB n (s ▸ b) = NamedS n s × NamedB n b

-- a procedure within the limits; "depth over 16" is none
pub record WithinB (n : ℕ) (b : Body) : Type 0 where
  pub named : NamedB n b
  pub shallow : levels_b b ≤ 16

abbrev pub WithinR : ℕ → Recipe → Type 0
WithinR n [] = Unit {0}
WithinR n (b ∷ r) = WithinB n b × WithinR n r

-- "no header, 1 to 4,096" records
pub record Within (r : Recipe) : Type 0 where
  pub some : 1 ≤ size_r r
  pub few : size_r r ≤ 4096
  pub bodies : WithinR (length r) r

-- "Names 0–63 are shared variables .. Name 64 is the task's own parameter": what an expression reads and a set writes
pub record Env : Type 0 where
  pub variables : List ℤ
  pub parameter : ℤ

unfoldable pub read : Env → ℕ → ℤ
read v name = cond (eqb name 64) v.parameter (get_or v.variables name (pos 0))

unfoldable pub write : Env → ℕ → ℤ → Env
write v name z =
    cond (eqb name 64)
    (record { variables = v.variables; parameter = z })
    (record { variables = set v.variables name z; parameter = v.parameter })

-- request 2.2 of document 02: "Working out an expression now gives a value or "no value""
unfoldable pub value : Env → Expr → Option ℤ
value v (constant z) = some z
value v (variable n) = some (read v n)
value v (two o a b) = of_both (apply2 o) (value v a) (value v b)
value v (one o a) = of_one (apply1 o) (value v a)
