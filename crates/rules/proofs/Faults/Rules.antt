-- The first rule that a record breaks where it stands is the number that the check finds at the start of its part.
-- Assumes nothing.
use Prim.Native.Nat.{ℕ, zero, suc, ◌+◌, ◌-◌, ◌*◌, ◌≤◌, ◌<◌}
use mathlib.Core.Path.{◌≡◌, refl, sym, ap, ◌∙◌, fun_ext}
use mathlib.Core.Bool.{Bool, true, false, not, ◌&&◌, ◌||◌, cond, or-false, or-true, or_comm}
use mathlib.Core.List.{List}
use mathlib.Core.Logic.{⊎_elim, dite}
use native.Mathlib.Omega.{arith}
use native.Mathlib.Decide.{dec_le, dec_lt, ℕ_discrete}
use native.Mathlib.Nat.{eq-or-lt_of_le}
use lib.Dec.{eqb, leb, ltb}
use lib.IntN.{ℤ, pos, negsuc}
use lib.ListN.{length, get_or}
use lib.Signed.{lt_z, le_z}
use borrow.Author.Tests.{lt-ltb, le-ltb, le-leb, lt-leb, eq-eqb, ne_eqb}
use Rattle.rules.specs.Values.{is_zero, equal}
use Rattle.rules.specs.Table.{kind_of, name_of, span_of, value_of, Encloses, nothing, statements, one_expression, expression_statements, two_expressions, unused, kind_row, Sort, procedure, statement, expression, is_of, Ends, at_end, before_end, within, ends_fit, span_fits, value_fits, span_right, name_right, value_right, record_fault}
use Rattle.rules.specs.Faults.{kind_at, name_at, span_at, value_at, end_at, Due, test, first, last, Stand, is_due, is_over, isWrong, is_short, is_misnamed, is_misvalued, breaks, standing}

-- ---- the first of some numbers

-- n is the first of the k numbers from m on with f
pub record First (k m : ℕ) (f : ℕ → Bool) (n : ℕ) : Type 0 where
  pub from : m ≤ n
  pub below : n < m + k
  pub holds : f n ≡ true
  pub least : (j : ℕ) → m ≤ j → j < n → f j ≡ false

-- what holds of m and from m + 1 on
and_then : (P : ℕ → Type 0) (m : ℕ) → P m → (j : ℕ) → (m + 1 ≤ j → P j) → m ≤ j → P j
and_then P m h j g a = ⊎_elim (λ e. rw (← e) h) (λ l. g (omega arith)) (eq-or-lt_of_le {n = m} {m = j} a)

pub first_now : (k m : ℕ) (f : ℕ → Bool) → f m ≡ true → First (suc k) m f m
first_now k m f h = record { from = omega arith; below = omega arith; holds = h; least = λ j a b. absurd (omega arith) }

pub first_later : (k m : ℕ) (f : ℕ → Bool) (n : ℕ) → f m ≡ false → First k (m + 1) f n → First (suc k) m f n
first_later k m f n h r =
    record {
      from = omega (arith, r.from);
      below = omega (arith, r.below);
      holds = r.holds;
      least = λ j a b. and_then (λ x. f x ≡ false) m h j (λ l. r.least j l b) a;
    }

-- that number; 0 if there is none
first_from : (k m : ℕ) → (ℕ → Bool) → ℕ
first_from zero m f = 0
first_from (suc k) m f = cond (f m) m (first_from k (m + 1) f)

first_none : (k m : ℕ) (f : ℕ → Bool) → 0 < m → first_from k m f ≡ 0 → (j : ℕ) → m ≤ j → j < m + k → f j ≡ false
unfolding first_from
first_none zero m f h e j a b = absurd (omega arith)
first_none (suc k) m f h e j a b = go (f m) refl e (λ e' l. first_none k (m + 1) f (omega arith) e' j l (omega arith))
  where
    go : (x : Bool) → f m ≡ x → cond x m (first_from k (m + 1) f) ≡ 0 → (first_from k (m + 1) f ≡ 0 → m + 1 ≤ j → f j ≡ false) → f j ≡ false
    go true g e ih = absurd (omega arith)
    go false g e ih = and_then (λ x. f x ≡ false) m g j (ih e) a

first_some : (k m : ℕ) (f : ℕ → Bool) (n : ℕ) → first_from k m f ≡ n → ¬ (n ≡ 0) → First k m f n
unfolding first_from
first_some zero m f n e h = absurd (h (sym e))
first_some (suc k) m f n e h = go (f m) refl e (λ e'. first_some k (m + 1) f n e' h)
  where
    go : (x : Bool) → f m ≡ x → cond x m (first_from k (m + 1) f) ≡ n → (first_from k (m + 1) f ≡ n → First k (m + 1) f n) → First (suc k) m f n
    go true g e ih = rw (← e) (first_now k m f g)
    go false g e ih = first_later k m f n g (ih e)

-- ---- the rules of a record

-- the first rule that record i, standing at s, breaks; 0 if none
pub first_broken : List ℕ → ℕ → Stand → ℕ
first_broken t i s = first_from 5 12 (breaks t i s)

-- the same where it stands in the table
abbrev pub rule : List ℕ → ℕ → ℕ
rule t i = first_broken t i (standing t i)

-- no rule has a number but 12 to 16
no_other : (t : List ℕ) (i : ℕ) (s : Stand) (m : ℕ) → (12 ≤ m → m < 17 → breaks t i s m ≡ false) → breaks t i s m ≡ false
unfolding breaks
no_other t i s m h =
    dite (dec_lt m 12)
    (λ l. other (omega arith) (omega arith) (omega arith) (omega arith) (omega arith))
    (λ l. dite (dec_lt m 17) (h (omega arith)) (λ g. other (omega arith) (omega arith) (omega arith) (omega arith) (omega arith)))
  where
    other : ¬ (m ≡ 12) → ¬ (m ≡ 13) → ¬ (m ≡ 14) → ¬ (m ≡ 15) → ¬ (m ≡ 16) → breaks t i s m ≡ false
    other a b c d e = rw (ne_eqb m 12 a, ne_eqb m 13 b, ne_eqb m 14 c, ne_eqb m 15 d, ne_eqb m 16 e)

module _ (t : List ℕ) (i : ℕ) (s : Stand) where
  pub breaks_none : first_broken t i s ≡ 0 → (m : ℕ) → breaks t i s m ≡ false
  unfolding first_broken
  breaks_none e m = no_other t i s m (λ a b. first_none 5 12 (breaks t i s) (omega arith) e m a b)

  pub breaks-first : (n : ℕ) → first_broken t i s ≡ n → ¬ (n ≡ 0) → (n ≤ 16) × (breaks t i s n ≡ true) × ((m : ℕ) → m < n → breaks t i s m ≡ false) × (12 ≤ n)
  unfolding first_broken
  breaks-first n e h =
      let r = first_some 5 12 (breaks t i s) n e h in
      (omega (arith, r.below), r.holds, (λ m l. no_other t i s m (λ a b. r.least m a l)), r.from)

pub broken-same : (t t' : List ℕ) (i : ℕ) (s : Stand) → ((n : ℕ) → breaks t' i s n ≡ breaks t i s n) → first_broken t' i s ≡ first_broken t i s
unfolding first_broken
broken-same t t' i s h = ap (first_from 5 12) (fun_ext h)

-- ---- the check of a part

-- what the check is told of where a record stands
abbrev pub sort_of : Due → Sort
sort_of Due.procedure = procedure
sort_of Due.statement = statement
sort_of test = expression
sort_of first = expression
sort_of last = expression

abbrev pub ends_of : Due → Ends
ends_of Due.procedure = within
ends_of Due.statement = within
ends_of test = within
ends_of first = before_end
ends_of last = at_end

-- what the check finds in the record of a part that stands at s
abbrev pub number_of : Stand → List ℕ → ℕ
number_of s p = record_fault (sort_of s.due) (ends_of s.due) p

-- ---- each rule against its test

ltb_not : (a b : ℕ) → ltb a b ≡ not (leb b a)
ltb_not a b = dite (dec_lt a b) (λ h. rw (lt-ltb a b h, lt-leb b a h)) (λ h. rw (le-ltb a b (omega arith), le-leb b a (omega arith)))

not_and : (a b : Bool) → (not a || not b) ≡ not (a && b)
not_and true b = refl
not_and false b = refl

due-rule : (x : Due) (k : ℕ) → is_due x k ≡ is_of (sort_of x) k
due-rule Due.procedure k = refl
due-rule Due.statement k = refl
due-rule test k = refl
due-rule first k = refl
due-rule last k = refl

wrong_rule : (x : Encloses) (s : ℕ) → isWrong x s ≡ not (span_fits x s)
wrong_rule nothing s = refl
wrong_rule statements s = refl
wrong_rule one_expression s = ltb_not s 1
wrong_rule expression_statements s = ltb_not s 1
wrong_rule two_expressions s = ltb_not s 2

-- the value field of every other kind is unused
field-unused : (k : ℕ) → ¬ (k ≡ 6) → ¬ (k ≡ 9) → (kind_row k).field ≡ unused
field-unused zero f g = refl
field-unused (suc zero) f g = refl
field-unused (suc (suc zero)) f g = refl
field-unused (suc (suc (suc zero))) f g = refl
field-unused (suc (suc (suc (suc zero)))) f g = refl
field-unused (suc (suc (suc (suc (suc zero))))) f g = refl
field-unused (suc (suc (suc (suc (suc (suc zero)))))) f g = absurd (f refl)
field-unused (suc (suc (suc (suc (suc (suc (suc zero))))))) f g = refl
field-unused (suc (suc (suc (suc (suc (suc (suc (suc zero)))))))) f g = refl
field-unused (suc (suc (suc (suc (suc (suc (suc (suc (suc zero))))))))) f g = absurd (g refl)
field-unused (suc (suc (suc (suc (suc (suc (suc (suc (suc (suc zero)))))))))) f g = refl
field-unused (suc (suc (suc (suc (suc (suc (suc (suc (suc (suc (suc zero))))))))))) f g = refl
field-unused (suc (suc (suc (suc (suc (suc (suc (suc (suc (suc (suc (suc zero)))))))))))) f g = refl
field-unused (suc (suc (suc (suc (suc (suc (suc (suc (suc (suc (suc (suc (suc zero))))))))))))) f g = refl
field-unused (suc (suc (suc (suc (suc (suc (suc (suc (suc (suc (suc (suc (suc (suc k)))))))))))))) f g = refl

zero-rule : (z : ℤ) → not (equal z (pos 0)) ≡ not (is_zero z)
zero-rule (pos n) = refl
zero-rule (negsuc n) = refl

number-rule : (z : ℤ) → (lt_z z (pos 0) || lt_z (pos 255) z) ≡ not (le_z (pos 0) z && le_z z (pos 255))
number-rule (pos n) = rw (le-ltb n 0 (omega arith), le-leb 0 n (omega arith)) (ltb_not 255 n)
number-rule (negsuc n) = refl

value-rule : (k : ℕ) (z : ℤ) → is_misvalued k z ≡ not (value_fits (kind_row k).field z)
value-rule k z = dite (ℕ_discrete k 6) (λ h. rw h (number-rule z)) (λ f. dite (ℕ_discrete k 9) (λ h. rw h refl) (λ g. rw (ne_eqb k 6 f, ne_eqb k 9 g, field-unused k f g) (zero-rule z)))

-- the part of a record at i, of length l, has the bytes from there to the enclosing end e
module _ (e i s l : ℕ) (some : i < e) (long : l ≡ 8 * (e - i)) where
  over-rule : ltb e (i + 1 + s) ≡ not (leb (8 + 8 * s) l)
  over-rule = ltb_not e (i + 1 + s) ∙ ap not same
    where
      same : leb (i + 1 + s) e ≡ leb (8 + 8 * s) l
      same =
          dite (dec_le (i + 1 + s) e)
          (λ h. rw (le-leb (i + 1 + s) e h, le-leb (8 + 8 * s) l (omega arith)))
          (λ h. rw (lt-leb (i + 1 + s) e (omega arith), lt-leb (8 + 8 * s) l (omega arith)))

  reach_rule : eqb (i + 1 + s) e ≡ eqb (8 + 8 * s) l
  reach_rule =
      dite (ℕ_discrete (i + 1 + s) e)
      (λ h. rw (eq-eqb (i + 1 + s) e h, eq-eqb (8 + 8 * s) l (omega arith)))
      (λ h. rw (ne_eqb (i + 1 + s) e h, ne_eqb (8 + 8 * s) l (omega arith)))

  ends-rule : (x : Due) → (ltb e (i + 1 + s) || is_short x (i + 1 + s) e) ≡ not (ends_fit (ends_of x) (8 + 8 * s) l)
  ends-rule Due.procedure = or-false (ltb e (i + 1 + s)) ∙ over-rule
  ends-rule Due.statement = or-false (ltb e (i + 1 + s)) ∙ over-rule
  ends-rule test = or-false (ltb e (i + 1 + s)) ∙ over-rule
  ends-rule first = rw (over-rule, reach_rule) (le_or_eq (8 + 8 * s))
    where
      le_or_eq : (c : ℕ) → (not (leb c l) || eqb c l) ≡ not (ltb c l)
      le_or_eq c =
          dite (dec_lt c l)
          (λ h. rw (le-leb c l (omega arith), ne_eqb c l (omega arith), lt-ltb c l h))
          (λ h. rw (le-ltb c l (omega arith)) (dite (ℕ_discrete c l) (λ z. rw (eq-eqb c l z) (or-true (not (leb c l)))) (λ z. rw (lt-leb c l (omega arith)))))
  ends-rule last = rw (over-rule, reach_rule) (le_and_eq (8 + 8 * s))
    where
      le_and_eq : (c : ℕ) → (not (leb c l) || not (eqb c l)) ≡ not (eqb c l)
      le_and_eq c = dite (dec_le c l) (λ h. rw (le-leb c l h)) (λ h. rw (ne_eqb c l (omega arith)) (or-true (not (leb c l))))

swap : (a b c : Bool) → (a || b || c) ≡ (a || c || b)
swap true b c = refl
swap false b c = or_comm b c

-- "12 to 16 in order", by the tests that the record breaks; by those of the check
abbrev ordered : (a b c d deep : Bool) → ℕ
ordered a b c d deep = cond a 12 (cond b 13 (cond c 14 (cond d 15 (cond deep 16 0))))

abbrev fault_of : (a b c d : Bool) → ℕ
fault_of a b c d = cond a (cond b (cond c (cond d 0 15) 14) 13) 12

in_order : (a b c d deep : Bool) → ordered (not a) (not b) (not c) (not d) deep ≡ cond (eqb (fault_of a b c d) 0) (cond deep 16 0) (fault_of a b c d)
in_order false b c d deep = refl
in_order true false c d deep = refl
in_order true true false d deep = refl
in_order true true true false deep = refl
in_order true true true true deep = refl

-- ---- the record of a part

-- p is the part of the table t at record i up to the record e
pub record PartOf (t : List ℕ) (i e : ℕ) (p : List ℕ) : Type 0 where
  pub size : length p ≡ 8 * (e - i)
  pub same : (k : ℕ) → k < length p → get_or p k 0 ≡ get_or t (8 * i + k) 0

module _ {t : List ℕ} {i e : ℕ} {p : List ℕ} (part : PartOf t i e p) (some : i < e) where
  byte : (k j : ℕ) → k < 8 → 8 * i + k ≡ j → get_or p k 0 ≡ get_or t j 0
  byte k j h g = part.same k (omega (arith, part.size)) ∙ ap (λ (x : ℕ). get_or t x 0) g

  pub kind_of_lem : kind_of p ≡ kind_at t i
  kind_of_lem = byte 0 (8 * i) (omega arith) (omega arith)

  name_of_lem : name_of p ≡ name_at t i
  name_of_lem = byte 1 (8 * i + 1) (omega arith) refl

  pub span_of_lem : span_of p ≡ span_at t i
  span_of_lem = rw (byte 2 (8 * i + 2) (omega arith) refl, byte 3 (8 * i + 2 + 1) (omega arith) (omega arith)) refl

  pub value_of_lem : value_of p ≡ value_at t i
  value_of_lem = rw (byte 4 (8 * i + 4) (omega arith) refl, byte 5 (8 * i + 4 + 1) (omega arith) (omega arith), byte 6 (8 * i + 4 + 2) (omega arith) (omega arith), byte 7 (8 * i + 4 + 3) (omega arith) (omega arith)) refl

-- the first rule that the record of a part breaks, standing at s
module _ {t : List ℕ} {i : ℕ} {p : List ℕ} (s : Stand) (part : PartOf t i s.end p) (some : i < s.end) where
  spans_rule : (is_over t i s || isWrong (kind_row (kind_at t i)).encloses (span_at t i) || is_short s.due (end_at t i) s.end) ≡ not (span_right (ends_of s.due) p)
  spans_rule =
      swap (is_over t i s) (isWrong (kind_row (kind_at t i)).encloses (span_at t i)) (is_short s.due (end_at t i) s.end)
      ∙ rw (ends-rule s.end i (span_at t i) (length p) some part.size s.due, wrong_rule (kind_row (kind_at t i)).encloses (span_at t i), span_of_lem part some, kind_of_lem part some)
      (not_and (ends_fit (ends_of s.due) (8 + 8 * span_at t i) (length p)) (span_fits (kind_row (kind_at t i)).encloses (span_at t i)))

  names-rule : is_misnamed t i ≡ not (name_right p)
  names-rule =
      rw (name_of_lem part some, kind_of_lem part some, ltb_not (name_at t i) (kind_row (kind_at t i)).least, ltb_not (kind_row (kind_at t i)).most (name_at t i))
      (not_and (leb (kind_row (kind_at t i)).least (name_at t i)) (leb (name_at t i) (kind_row (kind_at t i)).most))

  pub own-rule : first_broken t i s ≡ cond (eqb (number_of s p) 0) (cond (ltb 16 s.depth) 16 0) (number_of s p)
  unfolding first_broken first_from breaks record_fault
  own-rule =
      let due : is_due s.due (kind_at t i) ≡ is_of (sort_of s.due) (kind_of p) = rw (kind_of_lem part some) (due-rule s.due (kind_at t i)) in
      let values : is_misvalued (kind_at t i) (value_at t i) ≡ not (value_right p) = rw (kind_of_lem part some, value_of_lem part some) (value-rule (kind_at t i) (value_at t i)) in
      (λ x. ordered (not (due x)) (spans_rule x) (names-rule x) (values x) (ltb 16 s.depth))
      ∙ in_order (is_of (sort_of s.due) (kind_of p)) (span_right (ends_of s.due) p) (name_right p) (value_right p) (ltb 16 s.depth)
