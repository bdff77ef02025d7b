-- What stands in the bytes of a recipe: the fields of a record, the parts that it makes, and how long each is.
-- Assumes nothing.
use Prim.Native.Nat.{ℕ, ◌+◌, ◌*◌, ◌≤◌}
use mathlib.Core.Path.{◌≡◌, refl, ap, ◌∙◌}
use mathlib.Core.Bool.{true}
use mathlib.Core.List.{List, [], ◌∷◌, ◌++◌}
use native.Mathlib.Omega.{arith}
use lib.IntN.{ℤ, pos}
use lib.ListN.{length, length-append}
use lib.Seq.{take_at, drop_at}
use Rattle.rules.specs.Fields.{word, signed, bits}
use Rattle.rules.specs.Values.{in_range}
use Rattle.rules.specs.Recipe.{Expr, constant, variable, two, one, Stmt, skip, assign, if, while, spawn, suspend, await, guard, Body, fin, ◌▸◌, Recipe, size_e, size_s, size_b, size_r, row, encode_e, encode_s, encode_b, encode}
use Rattle.rules.specs.Table.{span_of, value_of, inner, after}
use Rattle.rules.proofs.Numbers.{signed-bits}

module _ (k n s : ℕ) (z : ℤ) (q : List ℕ) where
  pub span-row : span_of (row k n s z ++ q) ≡ s
  span-row = omega arith

  word_row : word (row k n s z ++ q) 4 ≡ bits z
  word_row = omega arith

  pub value_row : in_range z ≡ true → value_of (row k n s z ++ q) ≡ z
  value_row h = ap signed word_row ∙ signed-bits z h

  pub inner-row : (x r : List ℕ) → length x ≡ 8 * s → q ≡ x ++ r → inner (row k n s z ++ q) ≡ x
  unfolding inner
  inner-row x r h e = rw e (take_at x r (8 * span_of (row k n s z ++ q)) (omega (arith, span-row)))

  pub after-row : (x r : List ℕ) → length x ≡ 8 * s → q ≡ x ++ r → after (row k n s z ++ q) ≡ r
  unfolding after
  after-row x r h e = rw e (drop_at (row k n s z ++ x) r (8 + 8 * span_of (row k n s z ++ q)) (omega (arith, span-row)))

pub size_pos : (e : Expr) → 1 ≤ size_e e
unfolding size_e
size_pos (constant z) = omega arith
size_pos (variable n) = omega arith
size_pos (two o a b) = omega arith
size_pos (one o a) = omega arith

-- how far the first record reaches
pub span-encode_e : (e : Expr) (q : List ℕ) → 1 + span_of (encode_e e ++ q) ≡ size_e e
unfolding encode_e size_e
span-encode_e (constant z) q = ap (λ (s : ℕ). 1 + s) (span-row 9 0 0 z q)
span-encode_e (variable n) q = ap (λ (s : ℕ). 1 + s) (span-row 10 n 0 (pos 0) q)
span-encode_e (two o a b) q = ap (λ (s : ℕ). 1 + s) (span-row 11 o (size_e a + size_e b) (pos 0) ((encode_e a ++ encode_e b) ++ q))
span-encode_e (one o a) q = ap (λ (s : ℕ). 1 + s) (span-row 12 o (size_e a) (pos 0) (encode_e a ++ q))

pub span-encode_s : (s : Stmt) (r : List ℕ) → 1 + span_of (encode_s s ++ r) ≡ size_s s
unfolding encode_s size_s
span-encode_s skip r = refl
span-encode_s (assign v e) r = omega (arith, span-row 3 v (size_e e) (pos 0) (encode_e e ++ r))
span-encode_s (if e b) r = omega (arith, span-row 4 0 (size_e e + size_b b) (pos 0) (encode_e e ++ encode_b b ++ r))
span-encode_s (while e b) r = omega (arith, span-row 5 0 (size_e e + size_b b) (pos 0) (encode_e e ++ encode_b b ++ r))
span-encode_s (spawn v p e) r = omega (arith, span-row 6 v (size_e e) (pos p) (encode_e e ++ r))
span-encode_s suspend r = refl
span-encode_s (await v) r = refl
span-encode_s (guard e) r = omega (arith, span-row 13 0 (size_e e) (pos 0) (encode_e e ++ r))

pub stmt_pos : (s : Stmt) → 1 ≤ size_s s
unfolding size_s
stmt_pos skip = omega arith
stmt_pos (assign n e) = omega arith
stmt_pos (if e b) = omega arith
stmt_pos (while e b) = omega arith
stmt_pos (spawn n p e) = omega arith
stmt_pos suspend = omega arith
stmt_pos (await n) = omega arith
stmt_pos (guard e) = omega arith

pub length-encode_e : (e : Expr) → length (encode_e e) ≡ 8 * size_e e
unfolding size_e encode_e
length-encode_e (constant z) = refl
length-encode_e (variable n) = refl
length-encode_e (two o a b) = omega (arith, length-append (encode_e a) (encode_e b), length-encode_e a, length-encode_e b)
length-encode_e (one o a) = omega (arith, length-encode_e a)

mutual
  unfolding size_s encode_s size_b encode_b

  pub length-encode_s : (s : Stmt) → length (encode_s s) ≡ 8 * size_s s
  length-encode_s skip = refl
  length-encode_s (assign n e) = omega (arith, length-encode_e e)
  length-encode_s (if e b) = omega (arith, length-append (encode_e e) (encode_b b), length-encode_e e, length-encode_b b)
  length-encode_s (while e b) = omega (arith, length-append (encode_e e) (encode_b b), length-encode_e e, length-encode_b b)
  length-encode_s (spawn n p e) = omega (arith, length-encode_e e)
  length-encode_s suspend = refl
  length-encode_s (await n) = refl
  length-encode_s (guard e) = omega (arith, length-encode_e e)

  pub length-encode_b : (b : Body) → length (encode_b b) ≡ 8 * size_b b
  length-encode_b fin = refl
  length-encode_b (s ▸ b) = omega (arith, length-append (encode_s s) (encode_b b), length-encode_s s, length-encode_b b)

pub length-encode : (r : Recipe) → length (encode r) ≡ 8 * size_r r
unfolding size_r encode
length-encode [] = refl
length-encode (b ∷ r) = omega (arith, length-append (encode_b b) (encode r), length-encode_b b, length-encode r)

-- what a statement encloses
unfoldable pub inner_s : Stmt → List ℕ
inner_s skip = []
inner_s (assign n e) = encode_e e
inner_s (if e b) = encode_e e ++ encode_b b
inner_s (while e b) = encode_e e ++ encode_b b
inner_s (spawn n p e) = encode_e e
inner_s suspend = []
inner_s (await n) = []
inner_s (guard e) = encode_e e

-- the parts that a record of the recipe makes, whatever follows
pub record Parts (p x r : List ℕ) : Type 0 where
  pub inner-is : inner p ≡ x
  pub after_is : after p ≡ r

module _ (k n s : ℕ) (z : ℤ) (x r : List ℕ) (h : length x ≡ 8 * s) where
  pub parts_row : Parts (row k n s z ++ (x ++ r)) x r
  parts_row = record { inner-is = inner-row k n s z (x ++ r) x r h refl; after_is = after-row k n s z (x ++ r) x r h refl }

two-length : (e : Expr) (b : List ℕ) (m : ℕ) → length b ≡ 8 * m → length (encode_e e ++ b) ≡ 8 * (size_e e + m)
two-length e b m h = omega (arith, length-append (encode_e e) b, length-encode_e e)

pub parts_constant : (z : ℤ) (r : List ℕ) → Parts (encode_e (constant z) ++ r) [] r
unfolding encode_e
parts_constant z r = parts_row 9 0 0 z [] r refl

pub parts_variable : (n : ℕ) (r : List ℕ) → Parts (encode_e (variable n) ++ r) [] r
unfolding encode_e
parts_variable n r = parts_row 10 n 0 (pos 0) [] r refl

pub parts_two : (o : ℕ) (a b : Expr) (r : List ℕ) → Parts (encode_e (two o a b) ++ r) (encode_e a ++ encode_e b) r
unfolding encode_e
parts_two o a b r = parts_row 11 o (size_e a + size_e b) (pos 0) (encode_e a ++ encode_e b) r (two-length a (encode_e b) (size_e b) (length-encode_e b))

pub parts_one : (o : ℕ) (a : Expr) (r : List ℕ) → Parts (encode_e (one o a) ++ r) (encode_e a) r
unfolding encode_e
parts_one o a r = parts_row 12 o (size_e a) (pos 0) (encode_e a) r (length-encode_e a)

-- past an expression's bytes
pub after-encode_e : (e : Expr) (r : List ℕ) → after (encode_e e ++ r) ≡ r
after-encode_e (constant z) r = (parts_constant z r).after_is
after-encode_e (variable n) r = (parts_variable n r).after_is
after-encode_e (two o a b) r = (parts_two o a b r).after_is
after-encode_e (one o a) r = (parts_one o a r).after_is

pub parts_stmt : (s : Stmt) (r : List ℕ) → Parts (encode_s s ++ r) (inner_s s) r
unfolding encode_s inner_s
parts_stmt skip r = parts_row 2 0 0 (pos 0) [] r refl
parts_stmt (assign n e) r = parts_row 3 n (size_e e) (pos 0) (encode_e e) r (length-encode_e e)
parts_stmt (if e b) r = parts_row 4 0 (size_e e + size_b b) (pos 0) (encode_e e ++ encode_b b) r (two-length e (encode_b b) (size_b b) (length-encode_b b))
parts_stmt (while e b) r = parts_row 5 0 (size_e e + size_b b) (pos 0) (encode_e e ++ encode_b b) r (two-length e (encode_b b) (size_b b) (length-encode_b b))
parts_stmt (spawn n p e) r = parts_row 6 n (size_e e) (pos p) (encode_e e) r (length-encode_e e)
parts_stmt suspend r = parts_row 7 0 0 (pos 0) [] r refl
parts_stmt (await n) r = parts_row 8 n 0 (pos 0) [] r refl
parts_stmt (guard e) r = parts_row 13 0 (size_e e) (pos 0) (encode_e e) r (length-encode_e e)

pub parts_procedure : (b : Body) (r : Recipe) → Parts (encode (b ∷ r)) (encode_b b) (encode r)
unfolding encode
parts_procedure b r = parts_row 1 0 (size_b b) (pos 0) (encode_b b) (encode r) (length-encode_b b)
