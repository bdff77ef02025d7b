-- What stands at an index of an accepted table can be read off the table's bytes from that record on.
-- Assumes nothing.
use Prim.Native.Nat.{ℕ, zero, suc, ◌+◌, ◌*◌, ◌≤◌, ◌<◌}
use mathlib.Core.Path.{◌≡◌, refl, sym, ap, ap₂, ◌∙◌, subst}
use mathlib.Core.Bool.{true, false, ◌&&◌, ◌||◌, cond}
use mathlib.Core.List.{List, [], ◌∷◌, ◌++◌, append_assoc, append-nil}
use native.Mathlib.Omega.{arith}
use mathlib.Core.Logic.{dite}
use native.Mathlib.Decide.{dec_lt, ℕ_discrete}
use native.Mathlib.Nat.{add-zero}
use lib.Dec.{eqb, leb}
use lib.IntN.{ℤ, pos, nat_abs}
use lib.ListN.{length, get_or, drop, replicate, length-append, length-drop, replicate-append-replicate, get_or-eq_default}
use lib.Seq.{drop-drop, get_or-drop}
use borrow.Author.Tests.{eq-eqb, ne_eqb, le-leb, lt-leb}
use Rattle.rules.specs.Demand.{Bytes}
use Rattle.rules.specs.Recipe.{Expr, constant, variable, two, one, Stmt, skip, assign, if, while, spawn, suspend, await, guard, Body, fin, ◌▸◌, Recipe, size_e, size_s, size_b, size_r, row, encode_e, encode_s, encode_b, encode, NamedE, NamedS, NamedB, WithinR}
use Rattle.rules.specs.Table.{kind_of, inner, after, records, expr_of, fine, check, recipe_of}
use Rattle.rules.specs.Places.{Point, nowhere, stop, skips, assigns, tests, spawns, suspends, awaits, guards, enter, points_s, points_b, points_r, at, stands, is_place}
use Rattle.rules.specs.Standing.{next_of, body_place, point_at, at_place, Opens, SpawnsAt, StandsAt}
use Rattle.rules.specs.Grammar.{Spells}
use Rattle.rules.proofs.Grammar.Rows.{inner-row, span-row, span-encode_e, value_row, length-encode_e, length-encode_s, length-encode_b, length-encode, stmt_pos, after-encode_e}
use Rattle.rules.proofs.Grammar.Reading.{expr_of_lem, number-value}
use Rattle.rules.proofs.Grammar.Theorem.{accepted-spells}
use Rattle.rules.proofs.Places.{length-points_r}

-- ---- what a record encloses

-- a part whose first record encloses an expression and y
module _ (e : Expr) (y p : List ℕ) (w : NamedE e) (i : inner p ≡ encode_e e ++ y) where
  expr-is : expr_of (inner p) ≡ e
  expr-is = ap expr_of i ∙ expr_of_lem e y w

  behind-is : after (inner p) ≡ y
  behind-is = ap after i ∙ after-encode_e e y

  spelt-there : Opens p
  spelt-there = (e, i ∙ ap (λ (l : List ℕ). encode_e e ++ l) (sym behind-is), w)

-- where a body is entered
body-place : (e : Expr) (b : Body) (p : List ℕ) (i k : ℕ) → NamedE e → inner p ≡ encode_e e ++ encode_b b → body_place p i k ≡ enter b (i + 1 + size_e e) k
unfolding body_place enter encode_b
body-place e fin p i k w h = rw (behind-is e [] p w h) refl
body-place e (s ▸ b) p i k w h =
    let l : ¬ (length (encode_s s ++ encode_b b) ≡ 0) = omega (arith, length-append (encode_s s) (encode_b b), length-encode_s s, stmt_pos s) in
    rw (behind-is e (encode_s s ++ encode_b b) p w h, ne_eqb (length (encode_s s ++ encode_b b)) 0 l, h)
    (omega (arith, span-encode_e e (encode_s s ++ encode_b b)))

-- ---- one record

low-place : (k : ℕ) → k ≤ 8 → at_place k ≡ true
low-place k h = rw (le-leb k 8 h) refl

no_place : (k : ℕ) → 9 ≤ k → k ≤ 12 → at_place k ≡ false
no_place k h l = rw (lt-leb k 8 (omega arith), ne_eqb k 13 (omega arith)) refl

-- the bytes from an if or a while on
abbrev testing : ℕ → Expr → Body → List ℕ → List ℕ
testing k e b q = row k 0 (size_e e + size_b b) (pos 0) ++ ((encode_e e ++ encode_b b) ++ q)

module _ (n : ℕ) where
  -- the record that p starts with, at index i, and what stands there
  record Reads (i : ℕ) (x : Point ℕ) (p : List ℕ) : Type 0 where
    is : x ≡ point_at p i (next_of x)
    place : stands x ≡ at_place (kind_of p)
    shape : StandsAt n p

  by_fields : (k v s i : ℕ) (z : ℤ) (q : List ℕ) (x : Point ℕ) → 1 ≤ k → k ≤ 13 → v ≤ 64 → 8 * s ≤ length q
      → (3 ≤ k → k ≤ 6 → Opens (row k v s z ++ q)) → (k ≡ 13 → Opens (row k v s z ++ q))
      → (k ≡ 6 → SpawnsAt n (row k v s z ++ q)) → stands x ≡ at_place k → x ≡ point_at (row k v s z ++ q) i (next_of x) → Reads i x (row k v s z ++ q)
  by_fields k v s i z q x some most name room starts guarded spawned place is =
      record {
        is = is;
        place = place;
        shape = record { whole = omega (arith, span-row k v s z q); some_kind = some; a_kind = most; named = name; starts = starts; guarded = guarded; spawned = spawned };
      }

  -- the record of a statement that encloses an expression and y
  enclosing : (k v s i : ℕ) (z : ℤ) (q : List ℕ) (x : Point ℕ) (e : Expr) (y : List ℕ) → NamedE e → inner (row k v s z ++ q) ≡ encode_e e ++ y
      → 3 ≤ k → k ≤ 13 → at_place k ≡ true → v ≤ 64 → 8 * s ≤ length q → (k ≡ 6 → SpawnsAt n (row k v s z ++ q)) → stands x ≡ true
      → x ≡ point_at (row k v s z ++ q) i (next_of x) → Reads i x (row k v s z ++ q)
  enclosing k v s i z q x e y w t a b o c l f g =
      let there = spelt-there e y (row k v s z ++ q) w t in
      by_fields k v s i z q x (omega arith) b c l (λ a b. there) (λ e. there) f (g ∙ sym o)

  -- the record of a procedure, of an expression, or of a statement that encloses nothing
  plain : (k v s i : ℕ) (z : ℤ) (q : List ℕ) (x : Point ℕ) → 1 ≤ k → k ≤ 12 → (3 ≤ k → k ≤ 6 → ⊥) → v ≤ 64 → 8 * s ≤ length q
      → stands x ≡ at_place k → x ≡ point_at (row k v s z ++ q) i (next_of x) → Reads i x (row k v s z ++ q)
  plain k v s i z q x a b other c l =
      by_fields k v s i z q x a (omega arith) c l (λ a b. absurd (other a b)) (λ e. absurd (omega arith)) (λ e. absurd (other (omega arith) (omega arith)))

-- ---- all records

module _ (n : ℕ) where
  -- p holds the records from index i on, to the last: what stands at each, and the end of the last procedure behind them
  data All : ℕ → List (Point ℕ) → List ℕ → Type 0 where
    end : {i : ℕ} → All i (stop ∷ []) []
    ◌&◌ : {i : ℕ} {x : Point ℕ} {xs : List (Point ℕ)} {p : List ℕ} → Reads n i x p → All (i + 1) xs (drop 8 p) → All i (x ∷ xs) p

  move : (i j : ℕ) (xs : List (Point ℕ)) (p : List ℕ) → i ≡ j → All i xs p → All j xs p
  move i j xs p e h = subst (λ (m : ℕ). All m xs p) e h

  -- what stands at the record m further on, and behind the last
  found : {i : ℕ} {xs : List (Point ℕ)} {p : List ℕ} → All i xs p → (m : ℕ) → 8 * m < length p → Reads n (i + m) (get_or xs m nowhere) (drop (8 * m) p)
  found end m h = absurd (omega arith)
  found (◌&◌ {i = i} {x = x} {p = p} r a) zero h = subst (λ (j : ℕ). Reads n j x p) (omega arith) r
  found (◌&◌ {i = i} {xs = xs} {p = p} r a) (suc m) h =
      let f = found a m (omega (arith, length-drop 8 p)) in
      let next : 8 * suc m ≡ 8 + 8 * m = omega arith in
      let index : i + suc m ≡ i + 1 + m = omega arith in
      rw (index, next, ← drop-drop (8 * m) 8 p) f

  last : {i : ℕ} {xs : List (Point ℕ)} {p : List ℕ} → All i xs p → (m : ℕ) → 8 * m ≡ length p → get_or xs m nowhere ≡ stop
  last end zero h = refl
  last end (suc m) h = absurd (omega arith)
  last (◌&◌ r a) zero h = absurd (omega (arith, r.shape.whole))
  last (◌&◌ {p = p} r a) (suc m) h = last a m (omega (arith, length-drop 8 p))

  -- the records of an expression are no places: one of them, with m more behind it
  gap : (i m k v s : ℕ) (z : ℤ) (xs : List (Point ℕ)) (q : List ℕ) → 9 ≤ k → k ≤ 12 → v ≤ 64 → 8 * s ≤ length q
      → nowhere ≡ point_at (row k v s z ++ q) i 0 → All (i + 1) (replicate m nowhere ++ xs) q → All i (replicate (1 + m) nowhere ++ xs) (row k v s z ++ q)
  gap i m k v s z xs q a b c l e h =
      let one_more : suc m ≡ 1 + m = omega arith in
      subst (λ (m : ℕ). All i (replicate m nowhere ++ xs) (row k v s z ++ q)) one_more
      (◌&◌ (plain n k v s i z q nowhere (omega arith) b (omega arith) c l (sym (no_place k (omega arith) (omega arith))) e) h)

  -- of a piece of a recipe at index i, if all that follows it from index j on is so
  all_e : (e : Expr) (i j : ℕ) (xs : List (Point ℕ)) (q : List ℕ) → j ≡ i + size_e e → NamedE e → All j xs q → All i (replicate (size_e e) nowhere ++ xs) (encode_e e ++ q)
  unfolding size_e encode_e NamedE point_at
  all_e (constant z) i j xs q e w h = gap i 0 9 0 0 z xs q (omega arith) (omega arith) (omega arith) (omega arith) refl (move j (i + 1) xs q e h)
  all_e (variable v) i j xs q e w h = gap i 0 10 v 0 (pos 0) xs q (omega arith) (omega arith) w (omega arith) refl (move j (i + 1) xs q e h)
  all_e (two o a b) i j xs q e w h =
      gap i (size_e a + size_e b) 11 o (size_e a + size_e b) (pos 0) xs ((encode_e a ++ encode_e b) ++ q) (omega arith) (omega arith) (omega arith)
      (omega (arith, length-append (encode_e a ++ encode_e b) q, length-append (encode_e a) (encode_e b), length-encode_e a, length-encode_e b)) refl
      (simp (← replicate-append-replicate {A = Point ℕ} (size_e a) (size_e b) nowhere, append_assoc)
      (all_e a (i + 1) (i + 1 + size_e a) (replicate (size_e b) nowhere ++ xs) (encode_e b ++ q) refl w.1 (all_e b (i + 1 + size_e a) j xs q (omega arith) w.2 h)))
  all_e (one o a) i j xs q e w h =
      gap i (size_e a) 12 o (size_e a) (pos 0) xs (encode_e a ++ q) (omega arith) (omega arith) (omega arith) (omega (arith, length-append (encode_e a) q, length-encode_e a)) refl
      (all_e a (i + 1) j xs q (omega arith) w.1 h)

  -- a statement that encloses nothing
  bare : (k v i j : ℕ) (x : Point ℕ) (xs : List (Point ℕ)) (q : List ℕ) → 1 ≤ k → k ≤ 8 → (3 ≤ k → k ≤ 6 → ⊥) → v ≤ 64 → stands x ≡ true
      → x ≡ point_at (row k v 0 (pos 0) ++ q) i (next_of x) → j ≡ i + 1 → All j xs q → All i (x ∷ xs) (row k v 0 (pos 0) ++ q)
  bare k v i j x xs q a b c d s f e h =
      ◌&◌ (plain n k v 0 i (pos 0) q x a (omega arith) c d (omega arith) (s ∙ sym (low-place k b)) f) (move j (i + 1) xs q e h)

  -- a statement that encloses an expression alone
  single : (k v i j : ℕ) (z : ℤ) (x : Point ℕ) (e : Expr) (xs : List (Point ℕ)) (q : List ℕ) → NamedE e → 3 ≤ k → k ≤ 13 → at_place k ≡ true → v ≤ 64
      → (k ≡ 6 → SpawnsAt n (row k v (size_e e) z ++ (encode_e e ++ q))) → stands x ≡ true
      → (expr_of (inner (row k v (size_e e) z ++ (encode_e e ++ q))) ≡ e → x ≡ point_at (row k v (size_e e) z ++ (encode_e e ++ q)) i (next_of x))
      → j ≡ i + (1 + size_e e) → All j xs q → All i (x ∷ (replicate (size_e e) nowhere ++ xs)) (row k v (size_e e) z ++ (encode_e e ++ q))
  single k v i j z x e xs q w a b o d g s f l h =
      let p = row k v (size_e e) z ++ (encode_e e ++ q) in
      let t = inner-row k v (size_e e) z (encode_e e ++ q) (encode_e e) q (length-encode_e e) refl ∙ sym (append-nil (encode_e e)) in
      ◌&◌ (enclosing n k v (size_e e) i z (encode_e e ++ q) x e [] w t a b o d (omega (arith, length-append (encode_e e) q, length-encode_e e)) g s (f (expr-is e [] p w t)))
      (all_e e (i + 1) j xs q (omega arith) w h)

  -- a statement that encloses a test and a body, which m follows
  test : (k i m next : ℕ) (e : Expr) (b : Body) (xs : List (Point ℕ)) (q : List ℕ) → NamedE e → 3 ≤ k → k ≤ 5
      → point_at (testing k e b q) i next ≡ tests (expr_of (inner (testing k e b q))) (body_place (testing k e b q) i m) next
      → All (i + 1 + size_e e) (points_b b (i + 1 + size_e e) m ++ xs) (encode_b b ++ q)
      → All i (tests e (enter b (i + 1 + size_e e) m) next ∷ ((replicate (size_e e) nowhere ++ points_b b (i + 1 + size_e e) m) ++ xs)) (testing k e b q)
  test k i m next e b xs q w a c f h =
      let p = testing k e b q in
      let s = size_e e + size_b b in
      let x = encode_e e ++ encode_b b in
      let l : length x ≡ 8 * s = omega (arith, length-append (encode_e e) (encode_b b), length-encode_e e, length-encode_b b) in
      let t = inner-row k 0 s (pos 0) (x ++ q) x q l refl in
      let rest : All (i + 1) ((replicate (size_e e) nowhere ++ points_b b (i + 1 + size_e e) m) ++ xs) (x ++ q) =
      simp append_assoc (all_e e (i + 1) (i + 1 + size_e e) (points_b b (i + 1 + size_e e) m ++ xs) (encode_b b ++ q) refl w h) in
      ◌&◌
      (enclosing n k 0 s i (pos 0) (x ++ q) (tests e (enter b (i + 1 + size_e e) m) next) e (encode_b b) w t a (omega arith) (low-place k (omega arith)) (omega arith) (omega (arith, length-append x q)) (λ g. absurd (omega arith)) refl
      (sym (f ∙ ap₂ (λ (y : Expr) (j : ℕ). tests y j next) (expr-is e (encode_b b) p w t) (body-place e b p i m w t))))
      rest

  mutual
    unfolding points_s points_b size_s size_b encode_s encode_b NamedS NamedB point_at

    all_s : (s : Stmt) (i j k : ℕ) (xs : List (Point ℕ)) (q : List ℕ) → j ≡ i + size_s s → NamedS n s → All j xs q → All i (points_s s i k ++ xs) (encode_s s ++ q)
    all_s skip i j k xs q e w h = bare 2 0 i j (skips k) xs q (omega arith) (omega arith) (omega arith) (omega arith) refl refl e h
    all_s (assign v x) i j k xs q e w h =
        single 3 v i j (pos 0) (assigns v x k) x xs q w.1 (omega arith) (omega arith) refl w.0 (λ a. absurd (omega arith)) refl
        (λ g. ap (λ (y : Expr). assigns v y k) (sym g)) e h
    all_s (if x b) i j k xs q e w h = test 4 i k k x b xs q w.0 (omega arith) (omega arith) refl (all_b b (i + 1 + size_e x) j k xs q (omega arith) w.1 h)
    all_s (while x b) i j k xs q e w h = test 5 i i k x b xs q w.0 (omega arith) (omega arith) refl (all_b b (i + 1 + size_e x) j i xs q (omega arith) w.1 h)
    all_s (spawn v p x) i j k xs q e w h =
        let g = value_row 6 v (size_e x) (pos p) (encode_e x ++ q) (number-value p w.2) in
        let m = ap nat_abs g in
        single 6 v i j (pos p) (spawns v p x k) x xs q w.4 (omega arith) (omega arith) refl w.1
        (λ a. record { low = w.0; natural = g ∙ ap pos (sym m); small = rw m w.2; there = rw m w.3 }) refl
        (λ y. ap₂ (λ (a : ℕ) (y : Expr). spawns v a y k) (sym m) (sym y)) e h
    all_s suspend i j k xs q e w h = bare 7 0 i j (suspends k) xs q (omega arith) (omega arith) (omega arith) (omega arith) refl refl e h
    all_s (await v) i j k xs q e w h = bare 8 v i j (awaits v k) xs q (omega arith) (omega arith) (omega arith) w refl refl e h
    all_s (guard x) i j k xs q e w h =
        single 13 0 i j (pos 0) (guards x k) x xs q w (omega arith) (omega arith) refl (omega arith) (λ a. absurd (omega arith)) refl
        (λ g. ap (λ (y : Expr). guards y k) (sym g)) e h

    all_b : (b : Body) (i j k : ℕ) (xs : List (Point ℕ)) (q : List ℕ) → j ≡ i + size_b b → NamedB n b → All j xs q → All i (points_b b i k ++ xs) (encode_b b ++ q)
    all_b fin i j k xs q e w h = move j i xs q (omega arith) h
    all_b (s ▸ b) i j k xs q e w h =
        simp append_assoc
        (all_s s i (i + size_s s) (enter b (i + size_s s) k) (points_b b (i + size_s s) k ++ xs) (encode_b b ++ q) refl w.0 (all_b b (i + size_s s) j k xs q (omega arith) w.1 h))

  all_r : (r : Recipe) (i : ℕ) → WithinR n r → All i (points_r r i stop) (encode r)
  unfolding points_r encode point_at
  all_r [] i w = end
  all_r (b ∷ r) i w =
      ◌&◌
      (plain n 1 0 (size_b b) i (pos 0) (encode_b b ++ encode r) stop (omega arith) (omega arith) (omega arith) (omega arith) (omega (arith, length-append (encode_b b) (encode r), length-encode_b b)) refl refl)
      (all_b b (i + 1) (i + 1 + size_b b) (i + 1 + size_b b) (points_r r (i + 1 + size_b b) stop) (encode r) refl w.0.named (all_r r (i + 1 + size_b b) w.1))

-- ---- a recipe's bytes, and a table's

-- what holds of each point that a chain of tests leads to
pub choose : {B : Type 0} (f : Point ℕ → B) (v : B) (n m : ℕ) (x y : Point ℕ) → f x ≡ v → (¬ (n ≡ m) → f y ≡ v)
    → f (cond (eqb n m) x y) ≡ v
choose f v n m x y h g = dite (ℕ_discrete n m) (λ e. rw (eq-eqb n m e) h) (λ e. rw (ne_eqb n m e) (g e))

-- the kind of the record at a byte
pub kind_at : (t : List ℕ) (off : ℕ) → kind_of (drop off t) ≡ get_or t off 0
kind_at t off = get_or-drop off t 0 0 ∙ ap (λ (j : ℕ). get_or t j 0) (add-zero off)

-- behind index 0 it does not matter what stands there
later : (r : Recipe) (i : ℕ) → 1 ≤ i → at r i ≡ get_or (points_r r 0 stop) i nowhere
unfolding at points_r
later r zero h = absurd (omega arith)
later [] (suc i) h = refl
later (b ∷ r) (suc i) h = refl

first : (r : Recipe) → at r 0 ≡ nowhere
unfolding at points_r
first [] = refl
first (b ∷ r) = refl

module _ (t : List ℕ) (bytes : Bytes t) (fits : check t ≡ fine) where
  pub spells : Spells t (recipe_of t)
  spells = accepted-spells t bytes fits

  pub size : length t ≡ 8 * size_r (recipe_of t)
  size = ap length spells.spelt ∙ length-encode (recipe_of t)

  all : All (length (recipe_of t)) 0 (points_r (recipe_of t) 0 stop) t
  all = subst (λ (p : List ℕ). All (length (recipe_of t)) 0 (points_r (recipe_of t) 0 stop) p) (sym spells.spelt) (all_r (length (recipe_of t)) (recipe_of t) 0 spells.within.bodies)

  reads : (i : ℕ) → 1 ≤ i → i < records t → Reads (length (recipe_of t)) i (at (recipe_of t) i) (drop (8 * i) t)
  reads i h l =
      let index : 0 + i ≡ i = omega arith in
      rw later (rw index at (found (length (recipe_of t)) all i (omega arith)))

  -- what stands at a record's index is what the bytes from it on say
  pub at_is : (i : ℕ) → 1 ≤ i → i < records t → at (recipe_of t) i ≡ point_at (drop (8 * i) t) i (next_of (at (recipe_of t) i))
  at_is i h l = (reads i h l).is

  -- and the record is one that can be read
  pub stands_at : (i : ℕ) → 1 ≤ i → i < records t → StandsAt (length (recipe_of t)) (drop (8 * i) t)
  stands_at i h l = (reads i h l).shape

  pub at_end : at (recipe_of t) (records t) ≡ stop
  at_end = later (recipe_of t) (records t) (omega (arith, size, spells.within.some)) ∙ last (length (recipe_of t)) all (records t) (omega (arith, size))

  pub at_start : at (recipe_of t) 0 ≡ nowhere
  at_start = first (recipe_of t)

  pub at_past : (i : ℕ) → records t < i → at (recipe_of t) i ≡ nowhere
  unfolding at
  at_past i h = get_or-eq_default (points_r (recipe_of t) 0 nowhere) nowhere (omega (arith, size, length-points_r (recipe_of t) 0 nowhere))

  -- the places are the indices of statements, of procedures but the first, and the one behind the last record
  pub is-place : (i : ℕ) → is_place (recipe_of t) i ≡ (leb 1 i && leb i (records t) && (eqb i (records t) || at_place (kind_of (drop (8 * i) t))))
  is-place zero = ap stands at_start
  is-place (suc i) =
      let n = records t in
      let some = le-leb 1 (suc i) (omega arith) in
      dite (dec_lt (suc i) n)
      (λ l. rw (some, le-leb (suc i) n (omega arith), ne_eqb (suc i) n (omega arith)) (reads (suc i) (omega arith) l).place)
      (λ g.
      dite (dec_lt n (suc i))
      (λ l. rw (some, lt-leb (suc i) n l) (ap stands (at_past (suc i) l)))
      (λ h. let e : suc i ≡ n = omega arith in rw (some, le-leb (suc i) n (omega arith), eq-eqb (suc i) n e) (ap (λ (j : ℕ). is_place (recipe_of t) j) e ∙ ap stands at_end)))
