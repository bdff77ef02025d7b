-- What spells a recipe within the limits passes the check.
-- Assumes nothing.
use Prim.Native.Nat.{ℕ, zero, suc, ◌+◌, ◌*◌, ◌≤◌}
use mathlib.Core.Path.{◌≡◌, refl, sym, ap, ◌∙◌, subst}
use mathlib.Core.Bool.{true}
use mathlib.Core.List.{List, [], ◌∷◌, ◌++◌, append-nil}
use native.Mathlib.Omega.{arith}
use lib.IntN.{ℤ, pos}
use lib.ListN.{length, length-append}
use borrow.Author.Tests.{eq-eqb, lt-ltb, le-leb}
use Rattle.rules.specs.Values.{in_range}
use Rattle.rules.specs.Recipe.{Expr, constant, variable, two, one, Stmt, skip, assign, if, while, spawn, suspend, await, guard, Body, fin, ◌▸◌, Recipe, size_e, size_b, row, encode_e, encode_s, encode_b, encode, levels_e, levels_s, levels_b, NamedE, NamedS, NamedB, WithinR}
use Rattle.rules.specs.Table.{span_of, inner, after, kind_row, Sort, procedure, statement, expression, is_of, Ends, at_end, before_end, within, ends_fit, span_fits, value_fits, fine, ◌else◌, enclosed, check_e, check_rows}
use Rattle.rules.proofs.Grammar.Rows.{span-row, value_row, size_pos, stmt_pos, length-encode_e, length-encode_s, length-encode_b, length-encode, inner_s, parts_two, parts_one, after-encode_e, parts_stmt, parts_procedure}
use Rattle.rules.proofs.Grammar.Reading.{number-value}
use Rattle.rules.proofs.Grammar.Checking.{Right, expression-passes, inside, row-empty, row-passes}

-- a record that is right, by its fields
right-row : (sort : Sort) (ends : Ends) (k n s : ℕ) (z : ℤ) (q : List ℕ) → is_of sort k ≡ true
    → ends_fit ends (8 + 8 * s) (length (row k n s z ++ q)) ≡ true → span_fits (kind_row k).encloses s ≡ true
    → (kind_row k).least ≤ n → n ≤ (kind_row k).most → in_range z ≡ true → value_fits (kind_row k).field z ≡ true → Right sort ends (row k n s z ++ q)
right-row sort ends k n s z q d e f l m i v =
    record {
      due = d;
      spans = rw (span-row k n s z q, e, f) refl;
      named = rw (le-leb (kind_row k).least n l, le-leb n (kind_row k).most m) refl;
      valued = rw (value_row k n s z q i) v;
    }

-- the same of a record of a row
right-within : (sort : Sort) (k n s : ℕ) (z : ℤ) (q : List ℕ) → is_of sort k ≡ true → 8 * s ≤ length q → span_fits (kind_row k).encloses s ≡ true
    → (kind_row k).least ≤ n → n ≤ (kind_row k).most → in_range z ≡ true → value_fits (kind_row k).field z ≡ true → Right sort within (row k n s z ++ q)
right-within sort k n s z q d e = right-row sort within k n s z q d (le-leb (8 + 8 * s) (length (row k n s z ++ q)) (omega arith))

-- where an expression of a recipe ends
ends_eq : (ends : Ends) (l : ℕ) {e f : ℕ} → e ≡ f → ends_fit ends e l ≡ true → ends_fit ends f l ≡ true
ends_eq ends l h g = subst (λ (x : ℕ). ends_fit ends x l ≡ true) h g

before-second : (a b : Expr) → ends_fit before_end (8 * size_e a) (length (encode_e a ++ encode_e b)) ≡ true
before-second a b = lt-ltb (8 * size_e a) (length (encode_e a ++ encode_e b)) (omega (arith, length-append (encode_e a) (encode_e b), length-encode_e a, length-encode_e b, size_pos b))

at_its_end : (a : Expr) → ends_fit at_end (8 * size_e a) (length (encode_e a ++ [])) ≡ true
at_its_end a = eq-eqb (8 * size_e a) (length (encode_e a ++ [])) (omega (arith, length-append (encode_e a) [], length-encode_e a))

before-body : (e : Expr) (b : Body) → ends_fit within (8 * size_e e) (length (encode_e e ++ encode_b b)) ≡ true
before-body e b = le-leb (8 * size_e e) (length (encode_e e ++ encode_b b)) (omega (arith, length-append (encode_e e) (encode_b b), length-encode_e e))

pub passes_e : (e : Expr) (d i : ℕ) (ends : Ends) (r : List ℕ) → NamedE e → levels_e e ≤ d
    → ends_fit ends (8 * size_e e) (length (encode_e e ++ r)) ≡ true → check_e d i ends (encode_e e ++ r) ≡ fine
unfolding levels_e size_e encode_e NamedE enclosed
passes_e (constant z) zero i ends r w h f = absurd (omega arith)
passes_e (constant z) (suc d) i ends r w h f =
    expression-passes d i ends (encode_e (constant z) ++ r) (right-row expression ends 9 0 0 z r refl f refl (omega arith) (omega arith) w refl) refl
passes_e (variable n) zero i ends r w h f = absurd (omega arith)
passes_e (variable n) (suc d) i ends r w h f =
    expression-passes d i ends (encode_e (variable n) ++ r) (right-row expression ends 10 n 0 (pos 0) r refl f refl (omega arith) w refl refl) refl
passes_e (two o a b) zero i ends r w h f = absurd (omega arith)
passes_e (two o a b) (suc d) i ends r w h f =
    let p = encode_e (two o a b) ++ r in
    let x = (parts_two o a b r).inner-is in
    let first : check_e d (i + 1) before_end (inner p) ≡ fine =
    ap (check_e d (i + 1) before_end) x ∙ passes_e a d (i + 1) before_end (encode_e b) w.1 (omega arith) (before-second a b) in
    let j = i + 2 + span_of (inner p) in
    let second : check_e d j at_end (after (inner p)) ≡ fine =
    ap (check_e d j at_end) (ap after x ∙ after-encode_e a (encode_e b) ∙ sym (append-nil (encode_e b))) ∙ passes_e b d j at_end [] w.2 (omega arith) (at_its_end b) in
    expression-passes d i ends p
    (right-row expression ends 11 o (size_e a + size_e b) (pos 0) ((encode_e a ++ encode_e b) ++ r) refl (ends_eq ends _ (omega arith) f)
    (le-leb 2 (size_e a + size_e b) (omega (arith, size_pos a, size_pos b))) (omega arith) w.0 refl refl)
    (rw (first, second) refl)
passes_e (one o a) zero i ends r w h f = absurd (omega arith)
passes_e (one o a) (suc d) i ends r w h f =
    let p = encode_e (one o a) ++ r in
    expression-passes d i ends p
    (right-row expression ends 12 o (size_e a) (pos 0) (encode_e a ++ r) refl (ends_eq ends _ (omega arith) f) (le-leb 1 (size_e a) (size_pos a)) (omega arith) w.0 refl refl)
    (ap (check_e d (i + 1) at_end) ((parts_one o a r).inner-is ∙ sym (append-nil (encode_e a))) ∙ passes_e a d (i + 1) at_end [] w.1 (omega arith) (at_its_end a))

-- a statement's own record
right_stmt : (s : Stmt) (m : ℕ) (r : List ℕ) → NamedS m s → Right statement within (encode_s s ++ r)
unfolding encode_s NamedS
right_stmt skip m r w = right-within statement 2 0 0 (pos 0) r refl (omega arith) refl (omega arith) (omega arith) refl refl
right_stmt (assign n e) m r w =
    right-within statement 3 n (size_e e) (pos 0) (encode_e e ++ r) refl (omega (arith, length-append (encode_e e) r, length-encode_e e)) (le-leb 1 (size_e e) (size_pos e)) (omega arith) w.0 refl refl
right_stmt (if e b) m r w =
    right-within statement 4 0 (size_e e + size_b b) (pos 0) ((encode_e e ++ encode_b b) ++ r) refl
    (omega (arith, length-append (encode_e e ++ encode_b b) r, length-append (encode_e e) (encode_b b), length-encode_e e, length-encode_b b))
    (le-leb 1 (size_e e + size_b b) (omega (arith, size_pos e))) (omega arith) (omega arith) refl refl
right_stmt (while e b) m r w =
    right-within statement 5 0 (size_e e + size_b b) (pos 0) ((encode_e e ++ encode_b b) ++ r) refl
    (omega (arith, length-append (encode_e e ++ encode_b b) r, length-append (encode_e e) (encode_b b), length-encode_e e, length-encode_b b))
    (le-leb 1 (size_e e + size_b b) (omega (arith, size_pos e))) (omega arith) (omega arith) refl refl
right_stmt (spawn n p e) m r w =
    right-within statement 6 n (size_e e) (pos p) (encode_e e ++ r) refl (omega (arith, length-append (encode_e e) r, length-encode_e e)) (le-leb 1 (size_e e) (size_pos e))
    w.0 w.1 (number-value p w.2) (rw (le-leb 0 p (omega arith), le-leb p 255 w.2) refl)
right_stmt suspend m r w = right-within statement 7 0 0 (pos 0) r refl (omega arith) refl (omega arith) (omega arith) refl refl
right_stmt (await n) m r w = right-within statement 8 n 0 (pos 0) r refl (omega arith) refl (omega arith) w refl refl
right_stmt (guard e) m r w =
    right-within statement 13 0 (size_e e) (pos 0) (encode_e e ++ r) refl (omega (arith, length-append (encode_e e) r, length-encode_e e)) (le-leb 1 (size_e e) (size_pos e)) (omega arith) (omega arith) refl refl

levels_pos : (s : Stmt) → 1 ≤ levels_s s
unfolding levels_s
levels_pos skip = omega arith
levels_pos (assign n e) = omega arith
levels_pos (if e b) = omega arith
levels_pos (while e b) = omega arith
levels_pos (spawn n p e) = omega arith
levels_pos suspend = omega arith
levels_pos (await n) = omega arith
levels_pos (guard e) = omega arith

-- an expression alone, and a test with its body
alone-passes : (e : Expr) (d i : ℕ) (q : List ℕ) → NamedE e → levels_e e ≤ d → q ≡ encode_e e → check_e d i at_end q ≡ fine
alone-passes e d i q w h x = ap (check_e d i at_end) (x ∙ sym (append-nil (encode_e e))) ∙ passes_e e d i at_end [] w h (at_its_end e)

test-passes : (e : Expr) (b : Body) (d i j : ℕ) (q : List ℕ) → NamedE e → levels_e e ≤ d → check_rows statement d j (encode_b b) ≡ fine → q ≡ encode_e e ++ encode_b b
    → (check_e d i within q else check_rows statement d j (after q)) ≡ fine
test-passes e b d i j q w h f x =
    let first : check_e d i within q ≡ fine = ap (check_e d i within) x ∙ passes_e e d i within (encode_b b) w h (before-body e b) in
    let rest : check_rows statement d j (after q) ≡ fine = ap (check_rows statement d j) (ap after x ∙ after-encode_e e (encode_b b)) ∙ f in
    rw (first, rest) refl

mutual
  unfolding encode_s encode_b NamedS NamedB levels_s levels_b enclosed inner_s

  inside-passes : (s : Stmt) (m d i : ℕ) (r : List ℕ) → NamedS m s → levels_s s ≤ suc d → inside d i (encode_s s ++ r) ≡ fine
  inside-passes skip m d i r w h = refl
  inside-passes (assign n e) m d i r w h = alone-passes e d (i + 1) _ w.1 (omega arith) (parts_stmt (assign n e) r).inner-is
  inside-passes (if e b) m d i r w h =
      let q = inner (encode_s (if e b) ++ r) in
      test-passes e b d (i + 1) (i + 2 + span_of q) q w.0 (omega arith) (rows_pass b m d (i + 2 + span_of q) w.1 (omega arith)) (parts_stmt (if e b) r).inner-is
  inside-passes (while e b) m d i r w h =
      let q = inner (encode_s (while e b) ++ r) in
      test-passes e b d (i + 1) (i + 2 + span_of q) q w.0 (omega arith) (rows_pass b m d (i + 2 + span_of q) w.1 (omega arith)) (parts_stmt (while e b) r).inner-is
  inside-passes (spawn n p e) m d i r w h = alone-passes e d (i + 1) _ w.4 (omega arith) (parts_stmt (spawn n p e) r).inner-is
  inside-passes suspend m d i r w h = refl
  inside-passes (await n) m d i r w h = refl
  inside-passes (guard e) m d i r w h = alone-passes e d (i + 1) _ w (omega arith) (parts_stmt (guard e) r).inner-is

  rows_pass : (b : Body) (m d i : ℕ) → NamedB m b → levels_b b ≤ d → check_rows statement d i (encode_b b) ≡ fine
  rows_pass fin m d i w h = row-empty statement d i [] refl
  rows_pass (s ▸ b) m zero i w h = absurd (omega (arith, levels_pos s))
  rows_pass (s ▸ b) m (suc d) i w h =
      let p = encode_s s ++ encode_b b in
      let l : ¬ (length p ≡ 0) = omega (arith, length-append (encode_s s) (encode_b b), length-encode_s s, stmt_pos s) in
      let j = i + 1 + span_of p in
      row-passes statement d i p l (right_stmt s m (encode_b b) w.0) (inside-passes s m d i (encode_b b) w.0 (omega arith))
      (ap (check_rows statement (suc d) j) (parts_stmt s (encode_b b)).after_is ∙ rows_pass b m (suc d) j w.1 (omega arith))

pub procedures_pass : (r : Recipe) (m i : ℕ) → WithinR m r → check_rows procedure 17 i (encode r) ≡ fine
unfolding encode enclosed
procedures_pass [] m i w = row-empty procedure 17 i [] refl
procedures_pass (b ∷ r) m i w =
    let p = encode (b ∷ r) in
    let l : ¬ (length p ≡ 0) = omega (arith, length-encode (b ∷ r), length-append (encode_b b) (encode r)) in
    let x = parts_procedure b r in
    let j = i + 1 + span_of p in
    row-passes procedure 16 i p l
    (right-within procedure 1 0 (size_b b) (pos 0) (encode_b b ++ encode r) refl (omega (arith, length-append (encode_b b) (encode r), length-encode_b b)) refl (omega arith) (omega arith) refl refl)
    (ap (check_rows statement 16 (i + 1)) x.inner-is ∙ rows_pass b m 16 (i + 1) w.0.named w.0.shallow)
    (ap (check_rows procedure 17 j) x.after_is ∙ procedures_pass r m j w.1)
