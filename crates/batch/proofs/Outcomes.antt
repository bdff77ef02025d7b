-- The recipes of a batch, and the outcome of one by the verdict on its table.
-- Assumes nothing.
use Prim.Native.Nat.{ℕ, ◌+◌, ◌*◌, ◌≤◌, ◌<◌}
use mathlib.Core.Path.{◌≡◌, refl, sym, ap, ap₂, ◌∙◌}
use mathlib.Core.List.{List, [], ◌++◌, append-nil}
use native.Mathlib.Nat.{zero-add}
use native.Mathlib.Numerals.{add-one}
use native.Mathlib.Omega.{arith}
use lib.ListN.{length, take, drop, length-drop}
use lib.Seq.{sets, sets-eq, length-sets, take_at, take_all, drop-drop}
use borrow.Rule.Slice.PartMut.{put_mid}
use Rattle.fields.proofs.Parts.{part_put}
use Rattle.std.proofs.lemmas.List.{drop_all}
use Rattle.rules.specs.Fields.{bytes4}
use Rattle.rules.specs.Table.{Verdict, check}
use Rattle.rules.specs.State.{joined}
use Rattle.rules.specs.Batch.{count, length_at, total, recipe_at, outcome_bytes, outcomes_of, IsBatch}
use Rattle.rules.proofs.Batch.{number_in, place_in, outcome-is, outcome-length, ends-within}
use Rattle.rules.proofs.Lists.{joined_more}

-- ---- the outcomes of the first n recipes of b, by the lengths l, stand in the space out, and the recipes left are rest

pub record Written (b l : List ℕ) (n : ℕ) (rest out : List ℕ) : Type 0 where
  pub behind : rest ≡ drop (total n l) b
  pub room : length out ≡ 8 * count l
  pub told : take (8 * n) out ≡ joined n (λ k. outcome_bytes (recipe_at b l k))

module _ (b l : List ℕ) where
  pub written_none : (n : ℕ) (out : List ℕ) → n ≡ 0 → length out ≡ 8 * count l → Written b l n b out
  unfolding total joined
  written_none n out z h = rw z record { behind = refl; room = h; told = refl }

  pub written_all : {n : ℕ} {rest out : List ℕ} → Written b l n rest out → n ≡ count l → out ≡ outcomes_of b l
  unfolding outcomes_of
  written_all {out = out} s e = sym (take_all (8 * count l) out (omega (arith, s.room))) ∙ (rw e at s.told)

  module _ {n : ℕ} {rest out : List ℕ} (s : Written b l n rest out) (h : n < count l) {len : ℕ} (e : len ≡ length_at l n) where
    -- a recipe that the list has ends within the buffer
    pub written_ends : {space : ℕ} → IsBatch (length b) l space → len ≤ length rest
    written_ends f = omega (arith, ends-within (length b) l _ f n h, ap length s.behind, length-drop (total n l) b, e)

    recipe_is : take len rest ≡ recipe_at b l n
    unfolding recipe_at
    recipe_is = rw (e, s.behind)

    -- one outcome x more, stored in the eight bytes behind those written
    module _ (rest' x : List ℕ) (at k : ℕ) (r : rest' ≡ drop len rest) (f : x ≡ outcome_bytes (take len rest)) (a : at ≡ 8 * n) (g : k ≡ 8) where
      abbrev one : List ℕ
      one = outcome_bytes (recipe_at b l n)

      stored : put_mid at k out x ≡ sets out (8 * n) one
      stored =
          let long = outcome-length (recipe_at b l n) in
          part_put one out x at k (f ∙ ap outcome_bytes recipe_is) (g ∙ sym long) (omega (arith, long, h, s.room, a))
          ∙ ap (λ (i : ℕ). sets out i one) a

      pub written_more : Written b l (n + 1) rest' (put_mid at k out x)
      unfolding total
      written_more =
          let each : ℕ → List ℕ = λ i. outcome_bytes (recipe_at b l i) in
          let next : 8 * (n + 1) ≡ 8 * n + 8 = omega arith in
          record {
            behind = r ∙ ap (drop len) s.behind ∙ drop-drop len (total n l) b ∙ rw (add-one, e) refl;
            room = ap length stored ∙ length-sets out (8 * n) one ∙ s.room;
            told = rw (next, stored) (joined_more out [] each n (8 * n) 8 one (outcome-length (recipe_at b l n)) (omega (arith, h, s.room)) s.told refl);
          }

-- a number and a place over the eight bytes of an outcome
pub both_words : (o w v : List ℕ) → length o ≡ 8 → length w ≡ 4 → length v ≡ 4 → sets (sets o 0 w) 4 v ≡ w ++ v
both_words o w v h f g =
    let p = sets o 0 w in
    let n : length p ≡ 8 = length-sets o 0 w ∙ h in
    let first : p ≡ w ++ drop (length w) o =
    sets-eq w o 0 (omega arith) ∙ ap (λ (k : ℕ). w ++ drop k o) (zero-add (length w)) in
    let front : take 4 p ≡ w = ap (take 4) first ∙ take_at w (drop (length w) o) 4 f in
    let rest : drop (4 + length v) p ≡ [] = drop_all (4 + length v) p (omega arith) in
    sets-eq v p 4 (omega arith) ∙ rw (front, rest) (append-nil (w ++ v))

-- the outcome of a table by its verdict
pub outcome-told : (t : List ℕ) (v : Verdict) (n i : ℕ) → v ≡ check t → n ≡ number_in v → i ≡ place_in v → bytes4 n ++ bytes4 i ≡ outcome_bytes t
outcome-told t v n i e f g =
    ap₂ (λ (n i : ℕ). bytes4 n ++ bytes4 i) (f ∙ ap number_in e) (g ∙ ap place_in e) ∙ sym (outcome-is t)
