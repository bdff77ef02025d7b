-- What stands at each index of the lists: where the statement there leads, or the first place of the procedure, or what stood there before.
-- Assumes nothing.
use Prim.Native.Nat.compare
use Prim.Native.Nat.{ℕ, zero, suc, ◌+◌, ◌<◌}
use mathlib.Core.Path.{◌≡◌, refl, ap, ◌∙◌}
use mathlib.Core.Bool.{Bool, true, false, cond}
use mathlib.Core.List.{List, [], ◌∷◌}
use native.Mathlib.Omega.{arith}
use lib.Dec.{ltb}
use lib.ListN.{length, get_or, set, length-set}
use lib.Seq.{get_or-set_same, get_or-set_other}
use borrow.Author.Tests.{lt-ltb, le-ltb}
use Rattle.rules.specs.Recipe.{Recipe, size_b}
use Rattle.rules.specs.Places.{Point, nowhere, points_r, at, start_from, start}
use Rattle.rules.specs.Standing.{next_of}
use Rattle.links.specs.Links.{is_statement, linked, started_from, started}

abbrev written : Bool → ℕ → ℕ → List ℕ → List ℕ
written b i v xs = cond b (set xs i v) xs

length-written : (b : Bool) (i v : ℕ) (xs : List ℕ) → length (written b i v xs) ≡ length xs
length-written true i v xs = length-set xs i v
length-written false i v xs = refl

written_same : (b : Bool) (i v : ℕ) (xs : List ℕ) (d : ℕ) → i < length xs → get_or (written b i v xs) i d ≡ cond b v (get_or xs i d)
written_same true i v xs d h = get_or-set_same xs i v d h
written_same false i v xs d h = refl

written-other : (b : Bool) (i j v : ℕ) (xs : List ℕ) (d : ℕ) → ¬ (j ≡ i) → get_or (written b i v xs) j d ≡ get_or xs j d
written-other true i j v xs d h = get_or-set_other xs i j v d h
written-other false i j v xs d h = refl

linked-below : (ps : List (Point ℕ)) (i j : ℕ) (xs : List ℕ) (d : ℕ) → j < i → get_or (linked ps i xs) j d ≡ get_or xs j d
unfolding linked
linked-below [] i j xs d h = refl
linked-below (p ∷ ps) i j xs d h = linked-below ps (i + 1) j _ d (omega arith) ∙ written-other (is_statement p) i j (next_of p) xs d (omega arith)

linked-found : (ps : List (Point ℕ)) (i n j : ℕ) (xs : List ℕ) (d : ℕ) → i + n ≡ j → j < length xs
    → get_or (linked ps i xs) j d ≡ cond (is_statement (get_or ps n nowhere)) (next_of (get_or ps n nowhere)) (get_or xs j d)
unfolding linked
linked-found [] i n j xs d e h = refl
linked-found (p ∷ ps) i zero j xs d e h =
    let z : j ≡ i = omega arith in
    linked-below ps (i + 1) j _ d (omega arith) ∙ rw z (written_same (is_statement p) i (next_of p) xs d (omega arith))
linked-found (p ∷ ps) i (suc n) j xs d e h =
    linked-found ps (i + 1) n j _ d (omega arith) (omega (arith, length-written (is_statement p) i (next_of p) xs))
    ∙ ap (cond (is_statement (get_or ps n nowhere)) (next_of (get_or ps n nowhere))) (written-other (is_statement p) i j (next_of p) xs d (omega arith))

-- at an index within the list
pub linked_at : (r : Recipe) (i : ℕ) (xs : List ℕ) (d : ℕ) → i < length xs
    → get_or (linked (points_r r 0 nowhere) 0 xs) i d ≡ cond (is_statement (at r i)) (next_of (at r i)) (get_or xs i d)
unfolding at
linked_at r i xs d h = linked-found (points_r r 0 nowhere) 0 i i xs d (omega arith) h

started_below : (r : Recipe) (i p q : ℕ) (xs : List ℕ) (d : ℕ) → q < p → get_or (started_from r i p xs) q d ≡ get_or xs q d
unfolding started_from
started_below [] i p q xs d h = refl
started_below (b ∷ r) i p q xs d h = started_below r (i + 1 + size_b b) (p + 1) q _ d (omega arith) ∙ get_or-set_other xs p q (i + 1) d (omega arith)

started-found : (r : Recipe) (i p n q : ℕ) (xs : List ℕ) (d : ℕ) → p + n ≡ q → q < length xs
    → get_or (started_from r i p xs) q d ≡ cond (ltb n (length r)) (start_from r i n) (get_or xs q d)
unfolding started_from start_from
started-found [] i p n q xs d e h = rw (le-ltb n 0 (omega arith)) refl
started-found (b ∷ r) i p zero q xs d e h =
    let z : q ≡ p = omega arith in
    started_below r (i + 1 + size_b b) (p + 1) q _ d (omega arith) ∙ rw (lt-ltb 0 (suc (length r)) (omega arith), z) (get_or-set_same xs p (i + 1) d (omega arith))
started-found (b ∷ r) i p (suc n) q xs d e h =
    rw compare.suc-suc
    (started-found r (i + 1 + size_b b) (p + 1) n q _ d (omega arith) (omega (arith, length-set xs p (i + 1)))
    ∙ ap (cond (ltb n (length r)) (start_from r (i + 1 + size_b b) n)) (get_or-set_other xs p q (i + 1) d (omega arith)))

pub started_at : (r : Recipe) (p : ℕ) (xs : List ℕ) (d : ℕ) → p < length xs → get_or (started r xs) p d ≡ cond (ltb p (length r)) (start r p) (get_or xs p d)
unfolding started start
started_at r p xs d h = started-found r 0 0 p p xs d (omega arith) h
