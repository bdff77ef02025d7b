-- Request 2.5 of document 02, "A season's shelf in one call": many recipes checked together, and what holds of the answer. (Document 02's shelf is a batch.)
-- Assumes nothing.
use Rattle.std.specs.Prelude.{ℕ, zero, suc, ◌+◌, ◌*◌, ◌/◌, ◌%◌, ◌≤◌, ◌<◌, ◌≡◌, ◌↔◌, Bool, true, ◌&&◌, ◌||◌, cond, List, [], ◌∷◌, ◌++◌, map, eqb, leb, length, take, drop, replicate}
use Rattle.rules.specs.Fields.{word, bytes4}
use Rattle.rules.specs.State.{joined}
use Rattle.rules.specs.Run.{Started, start_on}
use Rattle.rules.specs.Answers.{of_table}

-- "a list of their lengths in bytes, four bytes each"
abbrev pub count : (lengths : List ℕ) → ℕ
count l = length l / 4

abbrev pub length_at : (lengths : List ℕ) → ℕ → ℕ
length_at l i = word l (4 * i)

-- the first n lengths added up; reading 22: "their sum is exact and does not wrap"
unfoldable pub total : ℕ → (lengths : List ℕ) → ℕ
total zero l = 0
total (suc n) l = total n l + length_at l n

-- "recipes in one buffer": recipe i stands behind those before it
unfoldable pub recipe_at : (buffer lengths : List ℕ) → ℕ → List ℕ
recipe_at b l i = take (length_at l i) (drop (total i l) b)

-- "what start gives for that recipe alone with a block of the right size" (whatever the block holds: `BatchSays→each`)
abbrev pub alone : (table : List ℕ) → Started
alone t = start_on t (replicate 776 0)

-- "for each in turn one number, then its place, four bytes each"
unfoldable pub outcome_bytes : (table : List ℕ) → List ℕ
outcome_bytes t = bytes4 (alone t).number ++ bytes4 (alone t).place

unfoldable pub outcomes_of : (buffer lengths : List ℕ) → List ℕ
outcomes_of b l = joined (count l) (λ i. outcome_bytes (recipe_at b l i))

-- 26 "when the list's bytes are not a multiple of four, there are more than 64, the lengths don't add up to the buffer, or the space for outcomes is not eight
-- bytes a recipe"; "before any recipe is looked at": buffer and space are known by their lengths alone
unfoldable pub is_batch : (size : ℕ) → (lengths : List ℕ) → (space : ℕ) → Bool
is_batch n l m = eqb (length l % 4) 0 && leb (count l) 64 && eqb (total (count l) l) n && eqb m (8 * count l)

-- "One call checks them all, .. and gives 0 or 26"; what it leaves in the space
pub record Checked : Type 0 where
  pub number : ℕ
  pub outcomes : List ℕ

abbrev pub checked : ℕ → List ℕ → Checked
checked n o = record { number = n; outcomes = o }

unfoldable pub check_all_on : (buffer lengths space : List ℕ) → Checked
check_all_on b l o =
    let all = checked 0 (outcomes_of b l) in
    cond (is_batch (length b) l (length o)) all (checked 26 o)

-- ---- what holds of every answer

abbrev pub published : ℕ → Bool
published n = eqb n 26 || eqb n 0

-- none of the four holds for which 26 is given
pub record IsBatch (size : ℕ) (l : List ℕ) (space : ℕ) : Type 0 where
  pub whole : length l % 4 ≡ 0
  pub few : count l ≤ 64
  pub adds_up : total (count l) l ≡ size
  pub room : space ≡ 8 * count l

-- the outcome in the eight bytes of recipe i: the number and the place that start gives for the table t, whatever the block of 776 bytes holds
pub record Tells (o : List ℕ) (i : ℕ) (t : List ℕ) : Type 0 where
  pub number : (block : List ℕ) → length block ≡ 776 → word o (8 * i) ≡ (start_on t block).number
  pub place : (block : List ℕ) → length block ≡ 776 → word o (8 * i + 4) ≡ (start_on t block).place
  pub listed : (of_table (word o (8 * i)) || eqb (word o (8 * i)) 0) ≡ true

-- parts one after another
unfoldable pub concat : List (List ℕ) → List ℕ
concat [] = []
concat (t ∷ ts) = t ++ concat ts

-- the bytes that say a recipe's length
abbrev pub length_bytes : (table : List ℕ) → List ℕ
length_bytes t = bytes4 (length t)

-- "Makers deliver up to 64 recipes in one buffer with a list of their lengths": these recipes
pub record Delivered (ts : List (List ℕ)) (b l o : List ℕ) : Type 0 where
  pub buffer : b ≡ concat ts
  pub lengths : l ≡ concat (map length_bytes ts)
  pub few : length ts ≤ 64
  pub room : length o ≡ 8 * length ts

-- an answer x to a buffer b, a list l of lengths and a space o
pub record BatchSays (b l o : List ℕ) (x : Checked) : Type 0 where
  pub listed : published x.number ≡ true
  pub accepted : (x.number ≡ 0) ↔ IsBatch (length b) l (length o)
  pub refused : (x.number ≡ 26) ↔ (¬ IsBatch (length b) l (length o))
  -- "26, before any recipe is looked at": the space is as it was, and a buffer of other recipes, as long, is refused alike
  pub refusal_keeps : x.number ≡ 26 → x.outcomes ≡ o
  pub not_looked_at : x.number ≡ 26 → (other : List ℕ) → length other ≡ length b → check_all_on other l o ≡ x
  -- nothing outside the space is touched
  pub same_length : length x.outcomes ≡ length o
  -- "Each outcome equals what start gives for that recipe alone with a block of the right size."
  pub each : x.number ≡ 0 → (i : ℕ) → i < count l → Tells x.outcomes i (recipe_at b l i)
  -- the recipes have the lengths of the list, and one after another they are the buffer
  pub sized : x.number ≡ 0 → (i : ℕ) → i < count l → length (recipe_at b l i) ≡ length_at l i
  pub in_turn : x.number ≡ 0 → joined (count l) (recipe_at b l) ≡ b
  -- it is accepted where some recipes were delivered so; and whatever recipes were, these are checked
  pub spelt : x.number ≡ 0 → (ts : List (List ℕ)) × Delivered ts b l o
  pub delivered : (ts : List (List ℕ)) → Delivered ts b l o → x ≡ checked 0 (concat (map outcome_bytes ts))
