-- The points of a row are written statement by statement, those of a test from its record on and then from its body's.
-- Assumes nothing.
use Prim.Native.Nat.{ℕ, zero, suc, ◌+◌, ◌-◌, ◌*◌, ◌≤◌, ◌<◌}
use mathlib.Core.Path.{◌≡◌, refl, sym, ap, ◌∙◌, subst}
use mathlib.Core.List.{List, [], ◌∷◌, ◌++◌}
use native.Mathlib.Omega.{arith}
use lib.ListN.{length, set, replicate, length-append, length-replicate}
use borrow.Author.Tests.{eq-eqb, ne_eqb}
use Rattle.rules.specs.Recipe.{Expr, Stmt, skip, assign, if, while, spawn, suspend, await, guard, Body, fin, ◌▸◌, size_e, size_s, size_b, encode_e, encode_s, encode_b, levels_s, levels_b, NamedS, NamedB}
use Rattle.rules.specs.Table.{kind_of, span_of, inner, after, read_b, body_of}
use Rattle.rules.specs.Places.{Point, nowhere, enter, points_s, points_b}
use Rattle.rules.proofs.Grammar.Rows.{span-encode_e, span-encode_s, stmt_pos, length-encode_e, length-encode_b, inner_s, parts_stmt, after-encode_e}
use Rattle.rules.proofs.Grammar.Reading.{body_of_lem}
use Rattle.rules.proofs.Places.{length-points_s}
use Rattle.links.specs.Links.{linked, BodySpelt, first_of, place_after}

pub linked-append : (ps qs : List (Point ℕ)) (i j : ℕ) (xs : List ℕ) → i + length ps ≡ j → linked (ps ++ qs) i xs ≡ linked qs j (linked ps i xs)
unfolding linked
linked-append [] qs i j xs e = ap (λ (n : ℕ). linked qs n xs) (omega arith)
linked-append (p ∷ ps) qs i j xs e = linked-append ps qs (i + 1) j _ (omega arith)

-- the records of an expression are no statements
linked_none : (n i : ℕ) (xs : List ℕ) → linked (replicate n nowhere) i xs ≡ xs
unfolding linked
linked_none zero i xs = refl
linked_none (suc n) i xs = linked_none n (i + 1) xs

linked_past : (n : ℕ) (ps : List (Point ℕ)) (i : ℕ) (xs : List ℕ) → linked (replicate n nowhere ++ ps) i xs ≡ linked ps (i + n) xs
linked_past n ps i xs = linked-append (replicate n nowhere) ps i (i + n) xs (omega (arith, length-replicate {A = Point ℕ} n nowhere)) ∙ ap (linked ps (i + n)) (linked_none n i xs)

linked-row : (s : Stmt) (b : Body) (i k : ℕ) (xs : List ℕ)
    → linked (points_b (s ▸ b) i k) i xs ≡ linked (points_b b (i + size_s s) k) (i + size_s s) (linked (points_s s i (enter b (i + size_s s) k)) i xs)
unfolding points_b
linked-row s b i k xs =
    let j = i + size_s s in
    linked-append (points_s s i (enter b j k)) (points_b b j k) i j xs (omega (arith, length-points_s s i (enter b j k)))

pub linked-empty : (p : List ℕ) (at follow : ℕ) (xs : List ℕ) → length p ≡ 0 → linked (points_b (body_of p) at follow) at xs ≡ xs
unfolding body_of read_b points_b linked
linked-empty [] at follow xs e = refl
linked-empty (x ∷ p) at follow xs e = absurd (omega arith)

-- ---- a row that is not empty

-- what holds of the bytes of each body with a first statement holds of such a row
by_first : {at left : ℕ} {p : List ℕ} (P : List ℕ → Type 0)
    → ((s : Stmt) (b : Body) (n : ℕ) → NamedB n (s ▸ b) → levels_b (s ▸ b) ≤ left → at + size_b (s ▸ b) ≤ 4096 → P (encode_b (s ▸ b)))
    → BodySpelt at left p → 0 < length p → P p
unfolding encode_b
by_first {at} {left} {p} P f r h = subst P (sym r.spelt) (go r.body r.spelt r.named r.shallow r.few)
  where
    go : (b : Body) → p ≡ encode_b b → NamedB r.procedures b → levels_b b ≤ left → at + size_b b ≤ 4096 → P (encode_b b)
    go fin e w l c = absurd (omega (arith, ap length e))
    go (s ▸ b) e w l c = f s b r.procedures w l c

-- one turn of the loop over a row: the first statement, then the row behind it
pub record Turn (at left : ℕ) (p : List ℕ) : Type 0 where
  pub whole : 8 + 8 * span_of p ≤ length p
  pub few : at + 1 + span_of p ≤ 4096
  pub behind : BodySpelt (at + 1 + span_of p) left (after p)
  pub links : (follow : ℕ) (xs : List ℕ) → linked (points_b (body_of p) at follow) at xs
      ≡ linked (points_b (body_of (after p)) (at + 1 + span_of p) follow) (at + 1 + span_of p) (linked (points_s (first_of (body_of p)) at (place_after p at follow)) at xs)

-- the place after a statement is where the statements behind it are entered
place_enters : (s : Stmt) (b : Body) (at follow : ℕ) → place_after (encode_s s ++ encode_b b) at follow ≡ enter b (at + 1 + span_of (encode_s s ++ encode_b b)) follow
unfolding encode_b size_b enter
place_enters s fin at follow =
    let q = encode_s s ++ [] in
    rw (eq-eqb (length q) (8 + 8 * span_of q) (omega (arith, length-encode_b (s ▸ fin), span-encode_s s [])))
place_enters s (t ▸ b) at follow =
    let q = encode_s s ++ encode_b (t ▸ b) in
    rw (ne_eqb (length q) (8 + 8 * span_of q) (λ e. omega (arith, length-encode_b (s ▸ t ▸ b), span-encode_s s (encode_b (t ▸ b)), stmt_pos t)))

turn_of_lem : (at left : ℕ) (s : Stmt) (b : Body) (n : ℕ) → NamedB n (s ▸ b) → levels_b (s ▸ b) ≤ left → at + size_b (s ▸ b) ≤ 4096 → Turn at left (encode_b (s ▸ b))
unfolding encode_b size_b levels_b NamedB
turn_of_lem at left s b n w l c =
    let p = encode_s s ++ encode_b b in
    let o : at + 1 + span_of p ≡ at + size_s s = omega (arith, span-encode_s s (encode_b b)) in
    let a = (parts_stmt s (encode_b b)).after_is in
    let f : body_of p ≡ s ▸ b = body_of_lem (s ▸ b) n w in
    let g : body_of (after p) ≡ b = ap body_of a ∙ body_of_lem b n w.1 in
    record {
      whole = omega (arith, length-encode_b (s ▸ b), span-encode_s s (encode_b b));
      few = omega arith;
      behind = record { body = b; spelt = a; procedures = n; named = w.1; shallow = omega arith; few = omega arith };
      links = λ follow xs. rw (f, g, place_enters s b at follow, o) (linked-row s b at follow xs);
    }

pub turn : {at left : ℕ} {p : List ℕ} → BodySpelt at left p → 0 < length p → Turn at left p
turn {at} {left} r h = by_first (Turn at left) (turn_of_lem at left) r h

-- ---- a first statement that is no test

linked_plain : (s : Stmt) (r : List ℕ) (i k : ℕ) (xs : List ℕ) → ¬ (kind_of (encode_s s ++ r) ≡ 4) → ¬ (kind_of (encode_s s ++ r) ≡ 5)
    → linked (points_s s i k) i xs ≡ set xs i k
unfolding encode_s points_s linked
linked_plain skip r i k xs f g = refl
linked_plain (assign v e) r i k xs f g = linked_none (size_e e) (i + 1) (set xs i k)
linked_plain (if e b) r i k xs f g = absurd (f refl)
linked_plain (while e b) r i k xs f g = absurd (g refl)
linked_plain (spawn v p e) r i k xs f g = linked_none (size_e e) (i + 1) (set xs i k)
linked_plain suspend r i k xs f g = refl
linked_plain (await v) r i k xs f g = refl
linked_plain (guard e) r i k xs f g = linked_none (size_e e) (i + 1) (set xs i k)

abbrev Plain : ℕ → List ℕ → Type 0
Plain at p = ¬ (kind_of p ≡ 4) → ¬ (kind_of p ≡ 5) → (k : ℕ) (xs : List ℕ) → set xs at k ≡ linked (points_s (first_of (body_of p)) at k) at xs

pub plain : {at left : ℕ} {p : List ℕ} → BodySpelt at left p → 0 < length p → Plain at p
unfolding encode_b
plain {at} r h = by_first (Plain at) (λ s b n w l c f g k xs. rw (body_of_lem (s ▸ b) n w) (sym (linked_plain s (encode_b b) at k xs f g))) r h

-- ---- a first statement that is a test

-- its record, then the body behind its expression; k follows the test, and f the body
pub record Test (at left : ℕ) (p : List ℕ) (k f : ℕ) : Type 0 where
  pub deep : 1 ≤ left
  pub whole : 8 + 8 * span_of (inner p) ≤ length (inner p)
  pub body : BodySpelt (at + 2 + span_of (inner p)) (left - 1) (after (inner p))
  pub links : (xs : List ℕ) → linked (points_s (first_of (body_of p)) at k) at xs
      ≡ linked (points_b (body_of (after (inner p))) (at + 2 + span_of (inner p)) f) (at + 2 + span_of (inner p)) (set xs at k)

-- of a statement s that encloses the expression e and the body d
module _ (at left k f : ℕ) (s : Stmt) (b : Body) (n : ℕ) (e : Expr) (d : Body) (i : inner_s s ≡ encode_e e ++ encode_b d) where
  test_with : NamedB n (s ▸ b) → NamedB n d → 1 + levels_b d ≤ left → at + 1 + size_e e + size_b d ≤ 4096
      → ((xs : List ℕ) → linked (points_s s at k) at xs ≡ linked (replicate (size_e e) nowhere ++ points_b d (at + 1 + size_e e) f) (at + 1) (set xs at k))
      → Test at left (encode_b (s ▸ b)) k f
  unfolding encode_b
  test_with w v l c h =
      let p = encode_s s ++ encode_b b in
      let j : inner p ≡ encode_e e ++ encode_b d = (parts_stmt s (encode_b b)).inner-is ∙ i in
      let a : after (inner p) ≡ encode_b d = ap after j ∙ after-encode_e e (encode_b d) in
      let o : 1 + span_of (inner p) ≡ size_e e = ap (λ (q : List ℕ). 1 + span_of q) j ∙ span-encode_e e (encode_b d) in
      let m : at + 2 + span_of (inner p) ≡ at + 1 + size_e e = omega arith in
      let g : body_of p ≡ s ▸ b = body_of_lem (s ▸ b) n w in
      let h' : body_of (after (inner p)) ≡ d = ap body_of a ∙ body_of_lem d n v in
      record {
        deep = omega arith;
        whole = omega (arith, ap length j, length-append (encode_e e) (encode_b d), length-encode_e e);
        body = record { body = d; spelt = a; procedures = n; named = v; shallow = omega arith; few = omega arith };
        links = λ xs. rw (g, h', m) (h xs ∙ linked_past (size_e e) (points_b d (at + 1 + size_e e) f) (at + 1) (set xs at k));
      }

-- where the body of an if leads is where the if does, and that of a while leads to the while
abbrev Once : (at left k : ℕ) → List ℕ → Type 0
Once at left k p = kind_of p ≡ 4 → Test at left p k k

abbrev Again : (at left k : ℕ) → List ℕ → Type 0
Again at left k p = kind_of p ≡ 5 → Test at left p k at

once_of : (at left k : ℕ) (s : Stmt) (b : Body) (n : ℕ) → NamedB n (s ▸ b) → levels_b (s ▸ b) ≤ left → at + size_b (s ▸ b) ≤ 4096 → Once at left k (encode_b (s ▸ b))
unfolding encode_s encode_b size_s size_b levels_s levels_b NamedS NamedB points_s linked inner_s
once_of at left k skip b n w l c h = absurd (omega (arith, h))
once_of at left k (assign v e) b n w l c h = absurd (omega (arith, h))
once_of at left k (if e d) b n w l c h = test_with at left k k (if e d) b n e d refl w w.0.1 (omega arith) (omega arith) (λ xs. refl)
once_of at left k (while e d) b n w l c h = absurd (omega (arith, h))
once_of at left k (spawn v p e) b n w l c h = absurd (omega (arith, h))
once_of at left k suspend b n w l c h = absurd (omega (arith, h))
once_of at left k (await v) b n w l c h = absurd (omega (arith, h))
once_of at left k (guard e) b n w l c h = absurd (omega (arith, h))

again_of : (at left k : ℕ) (s : Stmt) (b : Body) (n : ℕ) → NamedB n (s ▸ b) → levels_b (s ▸ b) ≤ left → at + size_b (s ▸ b) ≤ 4096 → Again at left k (encode_b (s ▸ b))
unfolding encode_s encode_b size_s size_b levels_s levels_b NamedS NamedB points_s linked inner_s
again_of at left k skip b n w l c h = absurd (omega (arith, h))
again_of at left k (assign v e) b n w l c h = absurd (omega (arith, h))
again_of at left k (if e d) b n w l c h = absurd (omega (arith, h))
again_of at left k (while e d) b n w l c h = test_with at left k at (while e d) b n e d refl w w.0.1 (omega arith) (omega arith) (λ xs. refl)
again_of at left k (spawn v p e) b n w l c h = absurd (omega (arith, h))
again_of at left k suspend b n w l c h = absurd (omega (arith, h))
again_of at left k (await v) b n w l c h = absurd (omega (arith, h))
again_of at left k (guard e) b n w l c h = absurd (omega (arith, h))

pub once : {at left : ℕ} {p : List ℕ} → BodySpelt at left p → 0 < length p → (k : ℕ) → Once at left k p
once {at} {left} r h k = by_first (Once at left k) (once_of at left k) r h

pub again : {at left : ℕ} {p : List ℕ} → BodySpelt at left p → 0 < length p → (k : ℕ) → Again at left k p
again {at} {left} r h k = by_first (Again at left k) (again_of at left k) r h
