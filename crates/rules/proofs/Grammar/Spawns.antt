-- The spawns of a recipe, in its bytes: 17 is said exactly where one names no procedure.
-- Assumes nothing.
use Prim.Native.Nat.{ℕ, zero, suc, ◌+◌, ◌≤◌}
use mathlib.Core.Path.{◌≡◌, refl, sym, ap, ◌∙◌}
use mathlib.Core.Bool.{Bool, true, false, not, ◌&&◌, cond, true≢false}
use mathlib.Core.List.{List, [], ◌∷◌, ◌++◌, append_assoc}
use mathlib.Core.Logic.{◌↔◌}
use native.Mathlib.Omega.{arith}
use lib.Dec.{leb}
use lib.IntN.{ℤ, pos}
use lib.ListN.{length, drop}
use borrow.Author.Tests.{lt-leb, leb-false, ne_eqb, not-true}
use Rattle.rules.specs.Recipe.{Expr, constant, variable, two, one, Stmt, skip, assign, if, while, spawn, suspend, await, guard, Body, fin, ◌▸◌, Recipe, size_e, size_s, size_b, size_r, row, encode_e, encode_s, encode_b, encode, NamedS, NamedB, WithinR}
use Rattle.rules.specs.Table.{fine, fault, check_spawns, names_none, procedures}
use Rattle.rules.proofs.Grammar.Rows.{value_row}
use Rattle.rules.proofs.Grammar.Reading.{number-value}
use Rattle.rules.proofs.Verdicts.{and_true}

and_assoc : (a b c : Bool) → (a && b && c) ≡ (a && (b && c))
and_assoc true b c = refl
and_assoc false b c = refl

-- whether each of the records names a procedure if it is a spawn: what `check_spawns` says, without the place
unfoldable spawns_ok : (records : ℕ) → ℕ → List ℕ → Bool
spawns_ok zero m p = true
spawns_ok (suc k) m p = not (names_none m p) && spawns_ok k m (drop 8 p)

check-spawns : (k m i : ℕ) (p : List ℕ) → (check_spawns k m i p ≡ fine) ↔ (spawns_ok k m p ≡ true)
unfolding check_spawns spawns_ok
check-spawns zero m i p = (λ h. refl, λ h. refl)
check-spawns (suc k) m i p = go (names_none m p) (check-spawns k m (i + 1) (drop 8 p))
  where
    go : (b : Bool) → (check_spawns k m (i + 1) (drop 8 p) ≡ fine) ↔ (spawns_ok k m (drop 8 p) ≡ true)
        → (cond b (fault 17 i) (check_spawns k m (i + 1) (drop 8 p)) ≡ fine) ↔ ((not b && spawns_ok k m (drop 8 p)) ≡ true)
    go true ih = ((λ h. absurd (let z : ◌≡◌ {A = ℕ} 0 1 = cc in omega arith)), (λ h. absurd (true≢false (sym h))))
    go false ih = ih

-- ---- walks over records that pass over those of some kinds

module _ {A : Type 0} (F : ℕ → List ℕ → A) (least : ℕ) (over : (k n s : ℕ) (z : ℤ) (q : List ℕ) (j : ℕ) → least ≤ k → F (suc j) (row k n s z ++ q) ≡ F j q) where
  over-one : (k n s : ℕ) (z : ℤ) (q : List ℕ) (i j : ℕ) → least ≤ k → i ≡ suc j → F i (row k n s z ++ q) ≡ F j q
  over-one k n s z q i j h e = rw e (over k n s z q j h)

  pub over-expr : least ≤ 9 → (e : Expr) (j : ℕ) (q : List ℕ) → F (size_e e + j) (encode_e e ++ q) ≡ F j q
  unfolding size_e encode_e
  over-expr l (constant z) j q = over-one 9 0 0 z q (1 + j) j l (omega arith)
  over-expr l (variable n) j q = over-one 10 n 0 (pos 0) q (1 + j) j (omega arith) (omega arith)
  over-expr l (two o a b) j q =
      over-one 11 o (size_e a + size_e b) (pos 0) ((encode_e a ++ encode_e b) ++ q) (1 + (size_e a + size_e b) + j) (size_e a + (size_e b + j)) (omega arith) (omega arith)
      ∙ ap (F (size_e a + (size_e b + j))) (append_assoc (encode_e a) (encode_e b) q)
      ∙ over-expr l a (size_e b + j) (encode_e b ++ q) ∙ over-expr l b j q
  over-expr l (one o a) j q =
      over-one 12 o (size_e a) (pos 0) (encode_e a ++ q) (1 + size_e a + j) (size_e a + j) (omega arith) (omega arith) ∙ over-expr l a j q

  -- a record and the expression that it encloses
  over_with : least ≤ 9 → (k n : ℕ) (z : ℤ) (e : Expr) (j : ℕ) (q : List ℕ) → least ≤ k → F (1 + size_e e + j) ((row k n (size_e e) z ++ encode_e e) ++ q) ≡ F j q
  over_with l k n z e j q h = over-one k n (size_e e) z (encode_e e ++ q) (1 + size_e e + j) (size_e e + j) h (omega arith) ∙ over-expr l e j q

  mutual
    unfolding size_s encode_s size_b encode_b

    over_stmt : (s : Stmt) (l : least ≤ 2) (j : ℕ) (q : List ℕ) → F (size_s s + j) (encode_s s ++ q) ≡ F j q
    over_stmt skip l j q = over-one 2 0 0 (pos 0) q (1 + j) j (omega arith) (omega arith)
    over_stmt (assign n e) l j q = over_with (omega arith) 3 n (pos 0) e j q (omega arith)
    over_stmt (if e b) l j q =
        over-one 4 0 (size_e e + size_b b) (pos 0) ((encode_e e ++ encode_b b) ++ q) (1 + (size_e e + size_b b) + j) (size_e e + (size_b b + j)) (omega arith) (omega arith)
        ∙ ap (F (size_e e + (size_b b + j))) (append_assoc (encode_e e) (encode_b b) q)
        ∙ over-expr (omega arith) e (size_b b + j) (encode_b b ++ q) ∙ over-body b l j q
    over_stmt (while e b) l j q =
        over-one 5 0 (size_e e + size_b b) (pos 0) ((encode_e e ++ encode_b b) ++ q) (1 + (size_e e + size_b b) + j) (size_e e + (size_b b + j)) (omega arith) (omega arith)
        ∙ ap (F (size_e e + (size_b b + j))) (append_assoc (encode_e e) (encode_b b) q)
        ∙ over-expr (omega arith) e (size_b b + j) (encode_b b ++ q) ∙ over-body b l j q
    over_stmt (spawn n p e) l j q = over_with (omega arith) 6 n (pos p) e j q (omega arith)
    over_stmt suspend l j q = over-one 7 0 0 (pos 0) q (1 + j) j (omega arith) (omega arith)
    over_stmt (await n) l j q = over-one 8 n 0 (pos 0) q (1 + j) j (omega arith) (omega arith)
    over_stmt (guard e) l j q = over_with (omega arith) 13 0 (pos 0) e j q (omega arith)

    pub over-body : (b : Body) (l : least ≤ 2) (j : ℕ) (q : List ℕ) → F (size_b b + j) (encode_b b ++ q) ≡ F j q
    over-body fin l j q = ap (λ (i : ℕ). F i q) (omega arith)
    over-body (s ▸ b) l j q =
        ap (λ (i : ℕ). F i ((encode_s s ++ encode_b b) ++ q)) (omega arith) ∙ ap (F (size_s s + (size_b b + j))) (append_assoc (encode_s s) (encode_b b) q)
        ∙ over_stmt s l (size_b b + j) (encode_b b ++ q) ∙ over-body b l j q

-- ---- procedures

no_procedure : (k n s : ℕ) (z : ℤ) (q : List ℕ) (j : ℕ) → 2 ≤ k → procedures (suc j) (row k n s z ++ q) ≡ procedures j q
unfolding procedures
no_procedure k n s z q j h = rw (ne_eqb k 1 (omega arith)) (omega arith)

-- the procedures of a recipe's bytes are its procedures
pub count-procedures : (r : Recipe) → procedures (size_r r) (encode r) ≡ length r
unfolding size_r encode procedures
count-procedures [] = refl
count-procedures (b ∷ r) =
    let e : 1 + (size_b b + size_r r) ≡ suc (size_b b + size_r r) = omega arith in
    rw (e, over-body procedures 2 no_procedure b (omega arith) (size_r r) (encode r), count-procedures r) (omega arith)

-- ---- spawns

module _ (m : ℕ) where
  no_spawn : (k n s : ℕ) (z : ℤ) (q : List ℕ) (j : ℕ) → ¬ (k ≡ 6) → spawns_ok (suc j) m (row k n s z ++ q) ≡ spawns_ok j m q
  unfolding spawns_ok
  no_spawn k n s z q j h = rw (ne_eqb k 6 h) refl

  spawns_e : (e : Expr) (j : ℕ) (q : List ℕ) → spawns_ok (size_e e + j) m (encode_e e ++ q) ≡ spawns_ok j m q
  spawns_e = over-expr (λ j q. spawns_ok j m q) 9 (λ k n s z q j h. no_spawn k n s z q j (omega arith)) (omega arith)

  -- each spawn of a statement names one of m procedures
  mutual
    spawns_named_s : Stmt → Bool
    spawns_named_s skip = true
    spawns_named_s (assign n e) = true
    spawns_named_s (if e b) = spawns_named_b b
    spawns_named_s (while e b) = spawns_named_b b
    spawns_named_s (spawn n p e) = not (leb m p)
    spawns_named_s suspend = true
    spawns_named_s (await n) = true
    spawns_named_s (guard e) = true

    spawns_named_b : Body → Bool
    spawns_named_b fin = true
    spawns_named_b (s ▸ b) = spawns_named_s s && spawns_named_b b

  one-over : (k n s : ℕ) (z : ℤ) (q : List ℕ) (i j : ℕ) → ¬ (k ≡ 6) → i ≡ suc j → spawns_ok i m (row k n s z ++ q) ≡ spawns_ok j m q
  one-over k n s z q i j h e = rw e (no_spawn k n s z q j h)

  -- a test with its body
  test-spawns : (k : ℕ) (e : Expr) (b : Body) (j : ℕ) (q : List ℕ) → ¬ (k ≡ 6)
      → spawns_ok (1 + (size_e e + size_b b) + j) m (row k 0 (size_e e + size_b b) (pos 0) ++ ((encode_e e ++ encode_b b) ++ q)) ≡ spawns_ok (size_b b + j) m (encode_b b ++ q)
  test-spawns k e b j q h =
      one-over k 0 (size_e e + size_b b) (pos 0) ((encode_e e ++ encode_b b) ++ q) (1 + (size_e e + size_b b) + j) (size_e e + (size_b b + j)) h (omega arith)
      ∙ ap (spawns_ok (size_e e + (size_b b + j)) m) (append_assoc (encode_e e) (encode_b b) q) ∙ spawns_e e (size_b b + j) (encode_b b ++ q)

  spawn-named : (n p : ℕ) (e : Expr) (j : ℕ) (q : List ℕ) → p ≤ 255
      → spawns_ok (1 + size_e e + j) m (row 6 n (size_e e) (pos p) ++ (encode_e e ++ q)) ≡ (not (leb m p) && spawns_ok j m q)
  unfolding spawns_ok
  spawn-named n p e j q h =
      let c : 1 + size_e e + j ≡ suc (size_e e + j) = omega arith in
      rw (c, value_row 6 n (size_e e) (pos p) (encode_e e ++ q) (number-value p h), spawns_e e j q) refl

  mutual
    unfolding size_s encode_s size_b encode_b NamedS NamedB spawns_named_s spawns_named_b

    spawns_s : (s : Stmt) (n : ℕ) (w : NamedS n s) (j : ℕ) (q : List ℕ) → spawns_ok (size_s s + j) m (encode_s s ++ q) ≡ (spawns_named_s s && spawns_ok j m q)
    spawns_s skip n w j q = one-over 2 0 0 (pos 0) q (1 + j) j (omega arith) (omega arith)
    spawns_s (assign v e) n w j q = one-over 3 v (size_e e) (pos 0) (encode_e e ++ q) (1 + size_e e + j) (size_e e + j) (omega arith) (omega arith) ∙ spawns_e e j q
    spawns_s (if e b) n w j q = test-spawns 4 e b j q (omega arith) ∙ spawns_b b n w.1 j q
    spawns_s (while e b) n w j q = test-spawns 5 e b j q (omega arith) ∙ spawns_b b n w.1 j q
    spawns_s (spawn v p e) n w j q = spawn-named v p e j q w.2
    spawns_s suspend n w j q = one-over 7 0 0 (pos 0) q (1 + j) j (omega arith) (omega arith)
    spawns_s (await v) n w j q = one-over 8 v 0 (pos 0) q (1 + j) j (omega arith) (omega arith)
    spawns_s (guard e) n w j q = one-over 13 0 (size_e e) (pos 0) (encode_e e ++ q) (1 + size_e e + j) (size_e e + j) (omega arith) (omega arith) ∙ spawns_e e j q

    spawns_b : (b : Body) (n : ℕ) (w : NamedB n b) (j : ℕ) (q : List ℕ) → spawns_ok (size_b b + j) m (encode_b b ++ q) ≡ (spawns_named_b b && spawns_ok j m q)
    spawns_b fin n w j q = ap (λ (i : ℕ). spawns_ok i m q) (omega arith)
    spawns_b (s ▸ b) n w j q =
        ap (λ (i : ℕ). spawns_ok i m ((encode_s s ++ encode_b b) ++ q)) (omega arith) ∙ ap (spawns_ok (size_s s + (size_b b + j)) m) (append_assoc (encode_s s) (encode_b b) q)
        ∙ spawns_s s n w.0 (size_b b + j) (encode_b b ++ q) ∙ ap (λ (x : Bool). spawns_named_s s && x) (spawns_b b n w.1 j q) ∙ sym (and_assoc (spawns_named_s s) (spawns_named_b b) (spawns_ok j m q))

  -- the names hold for m procedures exactly where each spawn names one of them
  mutual
    unfolding NamedS NamedB spawns_named_s spawns_named_b

    named_spawns_s : (s : Stmt) (w : NamedS m s) → spawns_named_s s ≡ true
    named_spawns_s skip w = refl
    named_spawns_s (assign v e) w = refl
    named_spawns_s (if e b) w = named_spawns_b b w.1
    named_spawns_s (while e b) w = named_spawns_b b w.1
    named_spawns_s (spawn v p e) w = rw (lt-leb m p w.3) refl
    named_spawns_s suspend w = refl
    named_spawns_s (await v) w = refl
    named_spawns_s (guard e) w = refl

    named_spawns_b : (b : Body) (w : NamedB m b) → spawns_named_b b ≡ true
    named_spawns_b fin w = refl
    named_spawns_b (s ▸ b) w = rw (named_spawns_s s w.0, named_spawns_b b w.1) refl

  mutual
    unfolding NamedS NamedB spawns_named_s spawns_named_b

    spawns_named_s_lem : (s : Stmt) (n : ℕ) (w : NamedS n s) → spawns_named_s s ≡ true → NamedS m s
    spawns_named_s_lem skip n w h = tt
    spawns_named_s_lem (assign v e) n w h = w
    spawns_named_s_lem (if e b) n w h = (w.0, spawns_named_b_lem b n w.1 h)
    spawns_named_s_lem (while e b) n w h = (w.0, spawns_named_b_lem b n w.1 h)
    spawns_named_s_lem (spawn v p e) n w h = (w.0, w.1, w.2, leb-false m p (not-true (leb m p) h), w.4)
    spawns_named_s_lem suspend n w h = tt
    spawns_named_s_lem (await v) n w h = w
    spawns_named_s_lem (guard e) n w h = w

    spawns_named_b_lem : (b : Body) (n : ℕ) (w : NamedB n b) → spawns_named_b b ≡ true → NamedB m b
    spawns_named_b_lem fin n w h = tt
    spawns_named_b_lem (s ▸ b) n w h = let a = and_true (spawns_named_s s) (spawns_named_b b) h in (spawns_named_s_lem s n w.0 a.0, spawns_named_b_lem b n w.1 a.1)

  spawns_named_r : Recipe → Bool
  spawns_named_r [] = true
  spawns_named_r (b ∷ r) = spawns_named_b b && spawns_named_r r

  spawns_r : (r : Recipe) (n : ℕ) → WithinR n r → spawns_ok (size_r r) m (encode r) ≡ spawns_named_r r
  unfolding size_r encode spawns_named_r spawns_ok
  spawns_r [] n w = refl
  spawns_r (b ∷ r) n w =
      one-over 1 0 (size_b b) (pos 0) (encode_b b ++ encode r) (1 + (size_b b + size_r r)) (size_b b + size_r r) (omega arith) (omega arith)
      ∙ spawns_b b n w.0.named (size_r r) (encode r) ∙ ap (λ (x : Bool). spawns_named_b b && x) (spawns_r r n w.1)

  within-spawns : (r : Recipe) → WithinR m r → spawns_named_r r ≡ true
  unfolding spawns_named_r
  within-spawns [] w = refl
  within-spawns (b ∷ r) w = rw (named_spawns_b b w.0.named, within-spawns r w.1) refl

  spawns-within : (r : Recipe) (n : ℕ) → WithinR n r → spawns_named_r r ≡ true → WithinR m r
  unfolding spawns_named_r
  spawns-within [] n w h = tt
  spawns-within (b ∷ r) n w h =
      let a = and_true (spawns_named_b b) (spawns_named_r r) h in
      (record { named = spawns_named_b_lem b n w.0.named a.0; shallow = w.0.shallow }, spawns-within r n w.1 a.1)

-- 17 is not said of a recipe's bytes exactly where its spawns name procedures that it has
pub spawns_pass : (r : Recipe) (m i : ℕ) → WithinR m r → check_spawns (size_r r) m i (encode r) ≡ fine
spawns_pass r m i w = (check-spawns (size_r r) m i (encode r)).1 (spawns_r m r m w ∙ within-spawns m r w)

pub passed_spawns : (r : Recipe) (n m i : ℕ) → WithinR n r → check_spawns (size_r r) m i (encode r) ≡ fine → WithinR m r
passed_spawns r n m i w h = spawns-within m r n w (sym (spawns_r m r n w) ∙ (check-spawns (size_r r) m i (encode r)).0 h)
