-- The procedures of a table are linked and numbered one by one.
-- Assumes nothing.
use Prim.Native.Nat.{ℕ, ◌+◌, ◌*◌, ◌≤◌, ◌<◌}
use mathlib.Core.Path.{◌≡◌, refl, sym, ap, ◌∙◌, subst}
use mathlib.Core.List.{List, [], ◌∷◌, ◌++◌}
use native.Mathlib.Omega.{arith}
use lib.IntN.{pos}
use lib.ListN.{length, set}
use Rattle.rules.specs.Demand.{Bytes}
use Rattle.rules.specs.Recipe.{Body, Recipe, size_b, size_r, encode_b, encode, WithinR}
use Rattle.rules.specs.Table.{span_of, inner, after, fine, check, body_of, recipe_of}
use Rattle.rules.specs.Places.{nowhere, stop, points_b, points_r}
use Rattle.rules.proofs.Grammar.Rows.{span-row, length-encode, parts_procedure}
use Rattle.rules.proofs.Grammar.Reading.{body_of_lem}
use Rattle.rules.proofs.Grammar.Theorem.{accepted-spells}
use Rattle.rules.proofs.Places.{length-points_b}
use Rattle.links.specs.Links.{linked, started_from, started, BodySpelt}
use Rattle.links.proofs.Linking.{linked-append}

-- what is left of a table: the procedures from index at on, numbered from number on, by which next and starts become what they are to be
pub record Left (nexts firsts : List ℕ) (at number : ℕ) (p next starts : List ℕ) : Type 0 where
  pub recipe : Recipe
  pub spelt : p ≡ encode recipe
  pub procedures : ℕ
  pub bodies : WithinR procedures recipe
  pub few : at + size_r recipe ≤ 4096
  pub numbered : number ≤ at
  pub links : nexts ≡ linked (points_r recipe at stop) at next
  pub begins : firsts ≡ started_from recipe at number starts

-- the record of the first procedure is no statement
first_record : (r : Recipe) (i : ℕ) (xs : List ℕ) → linked (points_r r i nowhere) i xs ≡ linked (points_r r i stop) i xs
unfolding points_r linked
first_record [] i xs = refl
first_record (b ∷ r) i xs = refl

pub left_all : (t next starts : List ℕ) → Bytes t → check t ≡ fine → Left (linked (points_r (recipe_of t) 0 nowhere) 0 next) (started (recipe_of t) starts) 0 0 t next starts
unfolding started
left_all t next starts b e =
    let s = accepted-spells t b e in
    let r = recipe_of t in
    record { recipe = r; spelt = s.spelt; procedures = length r; bodies = s.within.bodies; few = omega (arith, s.within.few); numbered = omega arith; links = first_record r 0 next; begins = refl }

pub left_none : {nexts firsts : List ℕ} {at number : ℕ} {p next starts : List ℕ} → Left nexts firsts at number p next starts → length p ≡ 0 → (next ≡ nexts) × (starts ≡ firsts)
unfolding size_r points_r linked started_from
left_none {nexts} {firsts} {at} {number} {p} {next} {starts} l h = go l.recipe l.spelt l.links l.begins
  where
    go : (r : Recipe) → p ≡ encode r → nexts ≡ linked (points_r r at stop) at next → firsts ≡ started_from r at number starts → (next ≡ nexts) × (starts ≡ firsts)
    go [] e f g = (sym f, sym g)
    go (b ∷ r) e f g = absurd (omega (arith, ap length e, length-encode (b ∷ r)))

linked-procedure : (b : Body) (r : Recipe) (i : ℕ) (xs : List ℕ)
    → linked (points_r (b ∷ r) i stop) i xs ≡ linked (points_r r (i + 1 + size_b b) stop) (i + 1 + size_b b) (linked (points_b b (i + 1) (i + 1 + size_b b)) (i + 1) xs)
unfolding points_r linked
linked-procedure b r i xs =
    let j = i + 1 + size_b b in
    linked-append (points_b b (i + 1) j) (points_r r j stop) (i + 1) j xs (omega (arith, length-points_b b (i + 1) j))

-- one turn of the loop over the procedures: the body of the first, then what is left
pub record Turn (nexts firsts : List ℕ) (at number : ℕ) (p next starts : List ℕ) : Type 0 where
  pub whole : 8 + 8 * span_of p ≤ length p
  pub few : at + 1 + span_of p ≤ 4096
  pub body : BodySpelt (at + 1) 16 (inner p)
  pub behind : Left nexts firsts (at + 1 + span_of p) (number + 1) (after p) (linked (points_b (body_of (inner p)) (at + 1) (at + 1 + span_of p)) (at + 1) next) (set starts number (at + 1))

span-procedure : (b : Body) (r : Recipe) → span_of (encode (b ∷ r)) ≡ size_b b
unfolding encode
span-procedure b r = span-row 1 0 (size_b b) (pos 0) (encode_b b ++ encode r)

module _ (nexts firsts : List ℕ) (at number n : ℕ) (next starts : List ℕ) where
  turn_of_lem : (b : Body) (r : Recipe) → WithinR n (b ∷ r) → at + size_r (b ∷ r) ≤ 4096 → number ≤ at
      → nexts ≡ linked (points_r (b ∷ r) at stop) at next → firsts ≡ started_from (b ∷ r) at number starts → Turn nexts firsts at number (encode (b ∷ r)) next starts
  unfolding size_r started_from
  turn_of_lem b r w c m f g =
      let o = span-procedure b r in
      let q = parts_procedure b r in
      record {
        whole = omega (arith, o, length-encode (b ∷ r));
        few = omega (arith, o);
        body = record { body = b; spelt = q.inner-is; procedures = n; named = w.0.named; shallow = w.0.shallow; few = omega arith };
        behind =
            record {
              recipe = r;
              spelt = q.after_is;
              procedures = n;
              bodies = w.1;
              few = omega (arith, o);
              numbered = omega arith;
              links = rw (q.inner-is, body_of_lem b n w.0.named, o) (f ∙ linked-procedure b r at next);
              begins = rw o g;
            };
      }

pub turn : {nexts firsts : List ℕ} {at number : ℕ} {p next starts : List ℕ} → Left nexts firsts at number p next starts → 0 < length p → Turn nexts firsts at number p next starts
unfolding encode
turn {nexts} {firsts} {at} {number} {p} {next} {starts} l h =
    subst (λ (q : List ℕ). Turn nexts firsts at number q next starts) (sym l.spelt) (go l.recipe l.spelt l.bodies l.few l.links l.begins)
  where
    go : (r : Recipe) → p ≡ encode r → WithinR l.procedures r → at + size_r r ≤ 4096 → nexts ≡ linked (points_r r at stop) at next → firsts ≡ started_from r at number starts
        → Turn nexts firsts at number (encode r) next starts
    go [] e w c f g = absurd (omega (arith, ap length e))
    go (b ∷ r) e w c f g = turn_of_lem nexts firsts at number l.procedures next starts b r w c l.numbered f g
