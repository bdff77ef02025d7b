-- The bytes of a recipe are read back as it.
-- Assumes nothing.
use Prim.Native.Nat.{ℕ, zero, suc, ◌≤◌}
use mathlib.Core.Path.{◌≡◌, refl, sym, ap, ap₂, ◌∙◌}
use mathlib.Core.Bool.{true}
use mathlib.Core.List.{List, [], ◌∷◌, ◌++◌, append-nil}
use native.Mathlib.Omega.{arith}
use lib.IntN.{pos, nat_abs}
use lib.ListN.{length, length-append}
use borrow.Author.Tests.{ne_eqb, le-leb}
use Rattle.rules.specs.Values.{in_range}
use Rattle.rules.specs.Recipe.{Expr, constant, variable, two, one, Stmt, skip, assign, if, while, spawn, suspend, await, guard, Body, fin, ◌▸◌, Recipe, size_e, size_s, size_b, size_r, encode_e, encode_s, encode_b, encode, NamedE, NamedS, NamedB, WithinR, Within}
use Rattle.rules.specs.Table.{inner, after, read_e, expr_of, stmt_of, read_b, body_of, read_r, recipe_of}
use Rattle.rules.proofs.Grammar.Rows.{value_row, length-encode_e, length-encode_s, length-encode_b, length-encode, stmt_pos, inner_s, parts_two, parts_one, after-encode_e, parts_stmt, parts_procedure}

pub read-encode_e : (e : Expr) (n : ℕ) (r : List ℕ) → size_e e ≤ n → NamedE e → read_e n (encode_e e ++ r) ≡ e
unfolding size_e encode_e read_e NamedE
read-encode_e (constant z) zero r h w = absurd (omega arith)
read-encode_e (constant z) (suc n) r h w = ap constant (value_row 9 0 0 z r w)
read-encode_e (variable v) zero r h w = absurd (omega arith)
read-encode_e (variable v) (suc n) r h w = refl
read-encode_e (two o a b) zero r h w = absurd (omega arith)
read-encode_e (two o a b) (suc n) r h w =
    let i = (parts_two o a b r).inner-is in
    rw (i, after-encode_e a (encode_e b), read-encode_e a n (encode_e b) (omega arith) w.1, ← append-nil (encode_e b), read-encode_e b n [] (omega arith) w.2) refl
read-encode_e (one o a) zero r h w = absurd (omega arith)
read-encode_e (one o a) (suc n) r h w =
    rw ((parts_one o a r).inner-is, ← append-nil (encode_e a), read-encode_e a n [] (omega arith) w.1) refl

pub expr_of_lem : (e : Expr) (r : List ℕ) → NamedE e → expr_of (encode_e e ++ r) ≡ e
unfolding expr_of
expr_of_lem e r w = read-encode_e e (length (encode_e e ++ r)) r (omega (arith, length-append (encode_e e) r, length-encode_e e)) w

expr-only : (e : Expr) → NamedE e → expr_of (encode_e e) ≡ e
expr-only e w = ap expr_of (sym (append-nil (encode_e e))) ∙ expr_of_lem e [] w

-- a procedure's number is a value
pub number-value : (p : ℕ) → p ≤ 255 → in_range (pos p) ≡ true
number-value p h = le-leb p 2147483647 (omega arith)

-- a test and its body
read-test : (body : List ℕ → Body) (e : Expr) (b : Body) (q : List ℕ) → NamedE e → body (encode_b b) ≡ b → q ≡ encode_e e ++ encode_b b
    → (expr_of q ≡ e) × (body (after q) ≡ b)
read-test body e b q w h i = (ap expr_of i ∙ expr_of_lem e (encode_b b) w, ap body (ap after i ∙ after-encode_e e (encode_b b)) ∙ h)

mutual
  unfolding encode_s encode_b NamedS NamedB size_s size_b stmt_of read_b inner_s

  read-encode_s : (s : Stmt) (m n : ℕ) (r : List ℕ) → NamedS m s → size_s s ≤ suc n → stmt_of (read_b n) (encode_s s ++ r) ≡ s
  read-encode_s skip m n r w h = refl
  read-encode_s (assign v e) m n r w h = ap (assign v) (ap expr_of (parts_stmt (assign v e) r).inner-is ∙ expr-only e w.1)
  read-encode_s (if e b) m n r w h =
      let t = read-test (read_b n) e b (inner (encode_s (if e b) ++ r)) w.0 (read-encode_b b m n w.1 (omega arith)) (parts_stmt (if e b) r).inner-is in
      ap₂ if t.0 t.1
  read-encode_s (while e b) m n r w h =
      let t = read-test (read_b n) e b (inner (encode_s (while e b) ++ r)) w.0 (read-encode_b b m n w.1 (omega arith)) (parts_stmt (while e b) r).inner-is in
      ap₂ while t.0 t.1
  read-encode_s (spawn v p e) m n r w h =
      ap₂ (spawn v) (ap nat_abs (value_row 6 v (size_e e) (pos p) (encode_e e ++ r) (number-value p w.2))) (ap expr_of (parts_stmt (spawn v p e) r).inner-is ∙ expr-only e w.4)
  read-encode_s suspend m n r w h = refl
  read-encode_s (await v) m n r w h = refl
  read-encode_s (guard e) m n r w h = ap guard (ap expr_of (parts_stmt (guard e) r).inner-is ∙ expr-only e w)

  read-encode_b : (b : Body) (m n : ℕ) → NamedB m b → size_b b ≤ n → read_b n (encode_b b) ≡ b
  read-encode_b fin m zero w h = refl
  read-encode_b fin m (suc n) w h = refl
  read-encode_b (s ▸ b) m zero w h = absurd (omega (arith, stmt_pos s))
  read-encode_b (s ▸ b) m (suc n) w h =
      let p = encode_s s ++ encode_b b in
      let l : ¬ (length p ≡ 0) = omega (arith, length-append (encode_s s) (encode_b b), length-encode_s s, stmt_pos s) in
      rw (ne_eqb (length p) 0 l)
      (ap₂ ◌▸◌ (read-encode_s s m n (encode_b b) w.0 (omega arith)) (ap (read_b n) (parts_stmt s (encode_b b)).after_is ∙ read-encode_b b m n w.1 (omega (arith, stmt_pos s))))

pub body_of_lem : (b : Body) (m : ℕ) → NamedB m b → body_of (encode_b b) ≡ b
unfolding body_of
body_of_lem b m w = read-encode_b b m (length (encode_b b)) w (omega (arith, length-encode_b b))

read-encode : (r : Recipe) (m n : ℕ) → WithinR m r → size_r r ≤ n → read_r n (encode r) ≡ r
unfolding encode read_r size_r
read-encode [] m zero w h = refl
read-encode [] m (suc n) w h = refl
read-encode (b ∷ r) m zero w h = absurd (omega arith)
read-encode (b ∷ r) m (suc n) w h =
    let p = parts_procedure b r in
    let l : ¬ (length (encode (b ∷ r)) ≡ 0) = omega (arith, length-encode (b ∷ r)) in
    rw (ne_eqb (length (encode (b ∷ r))) 0 l)
    (ap₂ (λ (x : Body) (y : Recipe). x ∷ y) (ap body_of p.inner-is ∙ body_of_lem b m w.0.named) (ap (read_r n) p.after_is ∙ read-encode r m n w.1 (omega arith)))

-- a recipe's bytes are read as it
pub recipe_of_lem : (r : Recipe) → Within r → recipe_of (encode r) ≡ r
unfolding recipe_of
recipe_of_lem r w = read-encode r (length r) (length (encode r)) w.bodies (omega (arith, length-encode r))
