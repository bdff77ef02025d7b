-- Request 2.5 of document 02: what the call says, for every buffer, list of lengths and space; and that recipes one after another are cut apart again.
-- Assumes nothing.
use Prim.Native.Nat.{ℕ, zero, suc, ◌+◌, ◌*◌, ◌%◌, ◌≤◌, ◌<◌}
use mathlib.Core.Path.{◌≡◌, refl, sym, ap, ap₂, ◌∙◌, subst, subst⁻¹}
use mathlib.Core.Logic.{⊎_elim}
use mathlib.Core.Bool.{Bool, true, false, ◌&&◌, ◌||◌, false≢true}
use mathlib.Core.List.{List, [], ◌∷◌, ◌++◌, map, append_assoc, append-nil}
use native.Mathlib.Omega.{arith}
use native.Mathlib.Nat.{eq-or-lt_of_le}
use lib.Dec.{eqb, leb}
use lib.ListN.{length, take, drop, replicate, length-append, length-drop}
use lib.Seq.{length-take-le, take_all, take-add, take_at, drop-append-add}
use borrow.Author.Tests.{eq-eqb, eqb-true, le-leb, leb-true}
use Rattle.rules.specs.Fields.{word, bytes4}
use Rattle.rules.specs.Table.{Verdict, fine, fault, ◌else◌, check}
use Rattle.rules.specs.State.{tab, joined}
use Rattle.rules.specs.Run.{start_with, start_on}
use Rattle.rules.specs.Answers.{of_table}
use Rattle.rules.specs.Demand.{Bytes}
use Rattle.rules.specs.Batch.{count, length_at, total, recipe_at, outcome_bytes, outcomes_of, is_batch, checked, check_all_on, IsBatch, Tells, concat, length_bytes, Delivered, BatchSays}
use Rattle.rules.proofs.Verdicts.{and_true, not_true}
use Rattle.rules.proofs.Answers.{Numbers, check-number}
use Rattle.rules.proofs.Lists.{length-tab, joined_length, joined_same, joined_add, joined-part, parts_joined}
use Rattle.rules.proofs.Numbers.{word-within, word-bytes4, bytes4-word}

-- ---- the outcome of one recipe

-- number and place of a verdict: 0 and 0 where there is no fault
abbrev pub number_in : Verdict → ℕ
number_in fine = 0
number_in (fault n i) = n

abbrev pub place_in : Verdict → ℕ
place_in fine = 0
place_in (fault n i) = i

-- start with a block of the right size tells the table's verdict
start-told : (t b : List ℕ) → length b ≡ 776 → ((start_on t b).number ≡ number_in (check t)) × ((start_on t b).place ≡ place_in (check t))
unfolding start_on
start-told t b h = rw (eq-eqb (length b) 776 h) (go (check t))
  where
    go : (v : Verdict) → ((start_with (v else fine) b).number ≡ number_in v) × ((start_with (v else fine) b).place ≡ place_in v)
    go fine = (refl, refl)
    go (fault n i) = (refl, refl)

pub outcome-is : (t : List ℕ) → outcome_bytes t ≡ bytes4 (number_in (check t)) ++ bytes4 (place_in (check t))
unfolding outcome_bytes
outcome-is t = let h = start-told t (replicate 776 0) refl in ap₂ (λ (n i : ℕ). bytes4 n ++ bytes4 i) h.0 h.1

pub outcome-length : (t : List ℕ) → length (outcome_bytes t) ≡ 8
outcome-length t = ap length (outcome-is t)

number-listed : (t : List ℕ) → (of_table (number_in (check t)) || eqb (number_in (check t)) 0) ≡ true
number-listed t = go (check t) (check-number t)
  where
    go : (v : Verdict) → Numbers of_table v → (of_table (number_in v) || eqb (number_in v) 0) ≡ true
    go fine h = refl
    go (fault n i) h = rw h refl

-- an outcome that stands in the bytes of recipe i
tells : (o : List ℕ) (i : ℕ) (t : List ℕ) → take 8 (drop (8 * i) o) ≡ outcome_bytes t → Tells o i t
tells o i t e =
    let part = e ∙ outcome-is t in
    let n : word o (8 * i) ≡ number_in (check t) =
    sym (word-within o (8 * i) 8 0 (8 * i) (omega arith) (omega arith)) ∙ ap (λ (l : List ℕ). word l 0) part ∙ word-bytes4 (number_in (check t)) in
    let p : word o (8 * i + 4) ≡ place_in (check t) =
    sym (word-within o (8 * i) 8 4 (8 * i + 4) refl (omega arith)) ∙ ap (λ (l : List ℕ). word l 4) part ∙ word-bytes4 (place_in (check t)) in
    record {
      number = λ block h. n ∙ sym (start-told t block h).0;
      place = λ block h. p ∙ sym (start-told t block h).1;
      listed = rw n (number-listed t);
    }

-- ---- the recipes of a buffer

total-below : (l : List ℕ) (n i : ℕ) → i ≤ n → total i l ≤ total n l
unfolding total
total-below l zero i h = let e : i ≡ 0 = omega arith in rw e (omega arith)
total-below l (suc n) i h = ⊎_elim (λ e. rw e (omega arith)) (λ g. omega (arith, total-below l n i (omega arith))) (eq-or-lt_of_le {n = i} {m = suc n} h)

module _ (b l : List ℕ) where
  -- the first n recipes are the first bytes of the buffer
  recipes-joined : (n : ℕ) → joined n (recipe_at b l) ≡ take (total n l) b
  unfolding joined total recipe_at
  recipes-joined zero = refl
  recipes-joined (suc n) = rw (recipes-joined n) (sym (take-add (total n l) (length_at l n) b))

  recipe_length : (i : ℕ) → total i l + length_at l i ≤ length b → length (recipe_at b l i) ≡ length_at l i
  unfolding recipe_at
  recipe_length i h = length-take-le (length_at l i) (drop (total i l) b) (omega (arith, length-drop (total i l) b))

-- ---- which are batches

module _ (n : ℕ) (l : List ℕ) (m : ℕ) where
  pub is-batch : IsBatch n l m → is_batch n l m ≡ true
  unfolding is_batch
  is-batch h = rw (eq-eqb (length l % 4) 0 h.whole, le-leb (count l) 64 h.few, eq-eqb (total (count l) l) n h.adds_up, eq-eqb m (8 * count l) h.room) refl

  pub batch-is : is_batch n l m ≡ true → IsBatch n l m
  unfolding is_batch
  batch-is h =
      let whole = eqb (length l % 4) 0 in
      let few = leb (count l) 64 in
      let adds_up = eqb (total (count l) l) n in
      let a = and_true (whole && few && adds_up) (eqb m (8 * count l)) h in
      let b = and_true (whole && few) adds_up a.0 in
      let c = and_true whole few b.0 in
      record { whole = eqb-true (length l % 4) 0 c.0; few = leb-true (count l) 64 c.1; adds_up = eqb-true (total (count l) l) n b.1; room = eqb-true m (8 * count l) a.1 }

  pub no_batch_lem : ¬ IsBatch n l m → is_batch n l m ≡ false
  no_batch_lem h = not_true (is_batch n l m) (λ e. h (batch-is e))

  -- each recipe ends within the buffer
  pub ends-within : IsBatch n l m → (i : ℕ) → i < count l → total i l + length_at l i ≤ n
  unfolding total
  ends-within h i g = subst (λ (k : ℕ). total i l + length_at l i ≤ k) h.adds_up (total-below l (count l) (suc i) g)

-- ---- recipes one after another

module _ (k : ℕ) (l : List ℕ) where
  -- the list with a length before the others
  length-first : length_at (bytes4 k ++ l) 0 ≡ k
  length-first = omega arith

  length_later : (i : ℕ) → length_at (bytes4 k ++ l) (suc i) ≡ length_at l i
  length_later i =
      let four : ℕ → ℕ = λ n. suc (suc (suc (suc n))) in
      let e : 4 * suc i ≡ four (4 * i) = omega arith in
      let at : (r : ℕ) → four (4 * i) + r ≡ four (4 * i + r) = λ r. omega arith in
      rw (e, at 1, at 2, at 3) refl

  total_later : (n : ℕ) → total (suc n) (bytes4 k ++ l) ≡ k + total n l
  unfolding total
  total_later zero = omega (arith, length-first)
  total_later (suc n) = omega (arith, total_later n, length_later n)

module _ (t b l : List ℕ) where
  recipe_first : recipe_at (t ++ b) (length_bytes t ++ l) 0 ≡ t
  unfolding recipe_at total
  recipe_first = rw (length-first (length t) l) (take_at t b (length t) refl)

  recipe_later : (i : ℕ) → recipe_at (t ++ b) (length_bytes t ++ l) (suc i) ≡ recipe_at b l i
  unfolding recipe_at
  recipe_later i = rw (length_later (length t) l i, total_later (length t) l i, drop-append-add t b (total i l)) refl

abbrev lengths_of : List (List ℕ) → List ℕ
lengths_of ts = concat (map length_bytes ts)

lengths-length : (ts : List (List ℕ)) → length (lengths_of ts) ≡ 4 * length ts
unfolding concat
lengths-length [] = refl
lengths-length (t ∷ ts) = omega (arith, length-append (length_bytes t) (lengths_of ts), lengths-length ts)

lengths-total : (ts : List (List ℕ)) → total (length ts) (lengths_of ts) ≡ length (concat ts)
unfolding concat total
lengths-total [] = refl
lengths-total (t ∷ ts) = total_later (length t) (lengths_of ts) (length ts) ∙ omega (arith, lengths-total ts, length-append t (concat ts))

-- each part that is made of one recipe, joined
parts_of : (f : List ℕ → List ℕ) (ts : List (List ℕ)) → joined (length ts) (λ i. f (recipe_at (concat ts) (lengths_of ts) i)) ≡ concat (map f ts)
unfolding concat joined
parts_of f [] = refl
parts_of f (t ∷ ts) =
    let b = concat ts in
    let l = lengths_of ts in
    let g : ℕ → List ℕ = λ i. f (recipe_at (t ++ b) (length_bytes t ++ l) i) in
    let n : suc (length ts) ≡ 1 + length ts = omega arith in
    let later : joined (length ts) (λ i. g (1 + i)) ≡ joined (length ts) (λ i. f (recipe_at b l i)) =
    joined_same (λ i. g (1 + i)) (λ i. f (recipe_at b l i)) (length ts) (λ i h. let e : 1 + i ≡ suc i = omega arith in ap g e ∙ ap f (recipe_later t b l i)) in
    ap (λ (k : ℕ). joined k g) n ∙ joined_add g 1 (length ts) ∙ ap₂ (λ (x y : List ℕ). x ++ y) (ap f (recipe_first t b l)) (later ∙ parts_of f ts)

-- parts given by index, one after another
concat-one : (xs : List (List ℕ)) (x : List ℕ) → concat (xs ++ x ∷ []) ≡ concat xs ++ x
unfolding concat
concat-one [] x = append-nil x
concat-one (y ∷ xs) x = ap (λ (l : List ℕ). y ++ l) (concat-one xs x) ∙ sym (append_assoc y (concat xs) x)

concat-tab : (f : ℕ → List ℕ) (n : ℕ) → concat (tab n f) ≡ joined n f
unfolding tab joined concat
concat-tab f zero = refl
concat-tab f (suc n) = concat-one (tab n f) (f n) ∙ ap (λ (l : List ℕ). l ++ f n) (concat-tab f n)

map-tab : (g : List ℕ → List ℕ) (f : ℕ → List ℕ) (n : ℕ) → map g (tab n f) ≡ tab n (λ i. g (f i))
unfolding tab
map-tab g f zero = refl
map-tab g f (suc n) = one_more (tab n f) ∙ ap (λ (l : List (List ℕ)). l ++ g (f n) ∷ []) (map-tab g f n)
  where
    one_more : (xs : List (List ℕ)) → map g (xs ++ f n ∷ []) ≡ map g xs ++ g (f n) ∷ []
    one_more [] = refl
    one_more (y ∷ xs) = ap (λ (l : List (List ℕ)). g y ∷ l) (one_more xs)

-- ---- what the call says

module _ (b l : List ℕ) where
  outcomes-length : length (outcomes_of b l) ≡ 8 * count l
  unfolding outcomes_of
  outcomes-length = omega (arith, joined_length 8 (count l) (λ i. outcome_bytes (recipe_at b l i)) (λ i. outcome-length (recipe_at b l i)))

  outcomes_tell : (i : ℕ) → i < count l → Tells (outcomes_of b l) i (recipe_at b l i)
  unfolding outcomes_of
  outcomes_tell i h =
      let f : ℕ → List ℕ = λ i. outcome_bytes (recipe_at b l i) in
      tells (joined (count l) f) i (recipe_at b l i) (joined-part 8 f (λ i. outcome-length (recipe_at b l i)) (count l) i (8 * i) h (omega arith))

module _ (ts : List (List ℕ)) (b l o : List ℕ) (d : Delivered ts b l o) where
  delivered-count : count l ≡ length ts
  delivered-count = let n = ap length d.lengths ∙ lengths-length ts in omega arith

  delivered-batch : IsBatch (length b) l (length o)
  delivered-batch =
      record {
        whole = let n = ap length d.lengths ∙ lengths-length ts in omega arith;
        few = omega (arith, delivered-count, d.few);
        adds_up = rw (delivered-count, d.lengths, d.buffer) (lengths-total ts);
        room = d.room ∙ ap (λ (n : ℕ). 8 * n) (sym delivered-count);
      }

  delivered-outcomes : outcomes_of b l ≡ concat (map outcome_bytes ts)
  unfolding outcomes_of
  delivered-outcomes = rw (delivered-count, d.lengths, d.buffer) (parts_of outcome_bytes ts)

module _ (b l o : List ℕ) (bytes : Bytes l) (h : IsBatch (length b) l (length o)) where
  whole-buffer : joined (count l) (recipe_at b l) ≡ b
  whole-buffer = recipes-joined b l (count l) ∙ ap (λ (n : ℕ). take n b) h.adds_up ∙ take_all (length b) b (omega arith)

  sized : (i : ℕ) → i < count l → length (recipe_at b l i) ≡ length_at l i
  sized i g = recipe_length b l i (ends-within (length b) l (length o) h i g)

  -- the list is what these recipes' lengths spell
  whole_list : joined (count l) (λ i. length_bytes (recipe_at b l i)) ≡ l
  whole_list =
      let f : ℕ → List ℕ = λ i. length_bytes (recipe_at b l i) in
      let n : 0 + count l * 4 ≡ length l = omega (arith, h.whole) in
      parts_joined 4 f 0 l (count l) (λ i g. let e : 4 * i ≡ 0 + i * 4 = omega arith in ap bytes4 (sized i g) ∙ bytes4-word l bytes (4 * i) (omega arith) ∙ ap (λ (k : ℕ). take 4 (drop k l)) e)
      ∙ ap (λ (k : ℕ). take k l) n
      ∙ take_all (length l) l (omega arith)

  spelt : Delivered (tab (count l) (recipe_at b l)) b l o
  spelt =
      record {
        buffer = sym (concat-tab (recipe_at b l) (count l) ∙ whole-buffer);
        lengths = sym (ap concat (map-tab length_bytes (recipe_at b l) (count l)) ∙ concat-tab (λ i. length_bytes (recipe_at b l i)) (count l) ∙ whole_list);
        few = omega (arith, length-tab (recipe_at b l) (count l), h.few);
        room = h.room ∙ ap (λ (n : ℕ). 8 * n) (sym (length-tab (recipe_at b l) (count l)));
      }

module _ (b l o : List ℕ) where
  pub is_all : IsBatch (length b) l (length o) → check_all_on b l o ≡ checked 0 (outcomes_of b l)
  unfolding check_all_on
  is_all h = rw (is-batch (length b) l (length o) h) refl

  pub is_26 : ¬ IsBatch (length b) l (length o) → check_all_on b l o ≡ checked 26 o
  unfolding check_all_on
  is_26 h = rw (no_batch_lem (length b) l (length o) h) refl

module _ (b l o : List ℕ) where
  says_26 : ¬ IsBatch (length b) l (length o) → BatchSays b l o (checked 26 o)
  says_26 h =
      record {
        listed = refl;
        accepted = (λ e. absurd (omega arith), λ x. absurd (h x));
        refused = (λ e. h, λ x. refl);
        refusal_keeps = λ e. refl;
        not_looked_at = λ e other n. is_26 other l o (λ x. h (subst (λ (k : ℕ). IsBatch k l (length o)) n x));
        same_length = refl;
        each = λ e. absurd (omega arith);
        sized = λ e. absurd (omega arith);
        in_turn = λ e. absurd (omega arith);
        spelt = λ e. absurd (omega arith);
        delivered = λ ts d. absurd (h (delivered-batch ts b l o d));
      }

  says_all : Bytes l → IsBatch (length b) l (length o) → BatchSays b l o (checked 0 (outcomes_of b l))
  says_all bytes h =
      record {
        listed = refl;
        accepted = (λ e. h, λ x. refl);
        refused = (λ e. absurd (omega arith), λ x. absurd (x h));
        refusal_keeps = λ e. absurd (omega arith);
        not_looked_at = λ e. absurd (omega arith);
        same_length = outcomes-length b l ∙ sym h.room;
        each = λ e i g. outcomes_tell b l i g;
        sized = λ e. sized b l o bytes h;
        in_turn = λ e. whole-buffer b l o bytes h;
        spelt = λ e. (tab (count l) (recipe_at b l), spelt b l o bytes h);
        delivered = λ ts d. ap (checked 0) (delivered-outcomes ts b l o d);
      }

pub batch-says : (b l o : List ℕ) → Bytes l → BatchSays b l o (check_all_on b l o)
batch-says b l o bytes = go (is_batch (length b) l (length o)) refl
  where
    go : (x : Bool) → is_batch (length b) l (length o) ≡ x → BatchSays b l o (check_all_on b l o)
    go true e = let h = batch-is (length b) l (length o) e in subst⁻¹ (BatchSays b l o) (is_all b l o h) (says_all b l o bytes h)
    go false e = let h : ¬ IsBatch (length b) l (length o) = λ x. false≢true (sym e ∙ is-batch (length b) l (length o) x) in subst⁻¹ (BatchSays b l o) (is_26 b l o h) (says_26 b l o h)
