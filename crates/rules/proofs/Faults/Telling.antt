-- What the check says of a part of a table: the first rule broken by the earliest record there that breaks one, each record where it stands in the table.
-- Assumes nothing.
use Prim.Native.Nat.{ℕ, zero, suc, ◌+◌, ◌*◌, ◌≤◌, ◌<◌}
use mathlib.Core.Path.{◌≡◌, refl, sym, ap, ◌∙◌}
use mathlib.Core.Bool.{true, cond}
use mathlib.Core.List.{List}
use mathlib.Core.Logic.{⊎_elim, dite}
use native.Mathlib.Omega.{arith}
use native.Mathlib.Decide.{dec_lt, ℕ_discrete}
use native.Mathlib.Nat.{eq-or-lt_of_le}
use lib.Dec.{eqb, ltb}
use lib.ListN.{length, get_or}
use lib.Seq.{get_or-drop}
use borrow.Author.Tests.{lt-ltb, le-ltb, eq-eqb, ne_eqb, eqb-true, leb-true, ltb-true}
use Rattle.rules.specs.Table.{kind_of, span_of, inner, after, Encloses, nothing, statements, one_expression, expression_statements, two_expressions, kind_row, Sort, procedure, statement, expression, is_of, Ends, at_end, before_end, within, span_fits, record_fault, length_fits, records, Verdict, fine, fault, ◌else◌, unless, enclosed, check_e, levels, check_rows}
use Rattle.rules.specs.Faults.{kind_at, span_at, end_at, Due, test, first, last, Stand, under, find, standing}
use Rattle.rules.specs.Faults as F
use Rattle.rules.proofs.Grammar.Checking.{right, right-ends, right-span, right-whole, length-inner, length-after, unless_none, unless-some, operands, inside, row-empty, row-some}
use Rattle.rules.proofs.Grammar.Accepting.{Four, is9, is10, is11, is12, four, right_of}
use Rattle.rules.proofs.Grammar.Theorem.{length-fits}
use Rattle.rules.proofs.Lists.{get_or-part}
use Rattle.rules.proofs.Faults.Rules.{first_broken, rule, sort_of, ends_of, number_of, PartOf, kind_of_lem, span_of_lem, own-rule}

-- ---- what a verdict tells of the records from i on, r being the first rule that each breaks

-- a fault, n at j before e: record j breaks n first, and no record before it breaks a rule
pub record Told (r : ℕ → ℕ) (i e n j : ℕ) : Type 0 where
  pub from : i ≤ j
  pub below : j < e
  pub is : r j ≡ n
  pub some : ¬ (n ≡ 0)
  pub before : (k : ℕ) → i ≤ k → k < j → r k ≡ 0

-- no fault: no record before m breaks a rule (m is where an expression ends, e where its encloser does)
abbrev pub Tells : (ℕ → ℕ) → (i m e : ℕ) → Verdict → Type 0
Tells r i m e fine = (k : ℕ) → i ≤ k → k < m → r k ≡ 0
Tells r i m e (fault n j) = Told r i e n j

module _ (r : ℕ → ℕ) where
  tells-own : (i m e n : ℕ) → r i ≡ n → ¬ (n ≡ 0) → i < e → Tells r i m e (fault n i)
  tells-own i m e n h s l = record { from = omega arith; below = l; is = h; some = s; before = λ k a b. absurd (omega arith) }

  -- the records of two parts, the second from m on
  joins : (i m e : ℕ) → ((k : ℕ) → i ≤ k → k < m → r k ≡ 0) → ((k : ℕ) → m ≤ k → k < e → r k ≡ 0) → (k : ℕ) → i ≤ k → k < e → r k ≡ 0
  joins i m e f g k a b = dite (dec_lt k m) (λ l. f k a l) (λ l. g k (omega arith) b)

  tells-then : (i m m' e : ℕ) (v : Verdict) → i ≤ m → ((k : ℕ) → i ≤ k → k < m → r k ≡ 0) → Tells r m m' e v → Tells r i m' e v
  tells-then i m m' e fine h f g = joins i m m' f g
  tells-then i m m' e (fault n j) h f g =
      record { from = omega (arith, g.from); below = g.below; is = g.is; some = g.some; before = joins i m j f g.before }

  tells_else : (i m m' e : ℕ) (v w : Verdict) → i ≤ m → Tells r i m e v → (v ≡ fine → Tells r m m' e w) → Tells r i m' e (v else w)
  tells_else i m m' e fine w h f g = tells-then i m m' e w h f (g refl)
  tells_else i m m' e (fault n j) w h f g = f

  tells-step : (i m e : ℕ) (v : Verdict) → r i ≡ 0 → Tells r (i + 1) m e v → Tells r i m e v
  tells-step i m e v h g = tells-then i (i + 1) m e v (omega arith) (λ k a b. let z : i ≡ k = omega arith in rw (← z) h) g

  tells-until : (i m m' e : ℕ) (v : Verdict) → (v ≡ fine → m' ≤ m) → Tells r i m e v → Tells r i m' e v
  tells-until i m m' e fine h f = λ k a b. f k a (omega (arith, h refl))
  tells-until i m m' e (fault n j) h f = f

  tells_wider : (i m e e' : ℕ) (v : Verdict) → e ≤ e' → Tells r i m e v → Tells r i m e' v
  tells_wider i m e e' fine h f = f
  tells_wider i m e e' (fault n j) h f = record { from = f.from; below = omega (arith, f.below); is = f.is; some = f.some; before = f.before }

  -- a verdict that tells of all is the earliest record's
  pub tells_all : (e i : ℕ) (v : Verdict) → Tells r 0 e e v → i < e → ¬ (r i ≡ 0) → ((k : ℕ) → k < i → r k ≡ 0) → v ≡ fault (r i) i
  tells_all e i fine f h s g = absurd (s (f i (omega arith) h))
  tells_all e i (fault n j) f h s g =
      dite (dec_lt i j)
      (λ l. absurd (s (f.before i (omega arith) l)))
      (λ l. ⊎_elim (λ z. rw (← z, f.is)) (λ l'. absurd (f.some (sym f.is ∙ g j l'))) (eq-or-lt_of_le {n = j} {m = i} (omega arith)))

-- ---- the parts of a part

module _ {t : List ℕ} {i e : ℕ} {p : List ℕ} (part : PartOf t i e p) (some : i < e) where
  inner-part : end_at t i ≤ e → PartOf t (i + 1) (end_at t i) (inner p)
  unfolding inner
  inner-part h =
      let z = span_of_lem part some in
      let l : length (inner p) ≡ 8 * span_of p = length-inner p (omega (arith, part.size)) in
      record {
        size = omega arith;
        same = λ k a.
            get_or-part p 8 (8 * span_of p) k (8 + k) 0 (omega arith) refl ∙ part.same (8 + k) (omega (arith, part.size))
            ∙ ap (λ (x : ℕ). get_or t x 0) (omega arith);
      }

  after-part : PartOf t (end_at t i) e (after p)
  unfolding after
  after-part =
      let z = span_of_lem part some in
      record {
        size = omega (arith, length-after p, part.size);
        same = λ k a. get_or-drop (8 + 8 * span_of p) p k 0 ∙ part.same (8 + 8 * span_of p + k) (omega (arith, length-after p)) ∙ ap (λ (x : ℕ). get_or t x 0) (omega arith);
      }

-- where an expression ends that passes
module _ {t : List ℕ} {i e : ℕ} {p : List ℕ} (part : PartOf t i e p) (some : i < e) (d : ℕ) where
  passes_at_end : check_e d i at_end p ≡ fine → end_at t i ≡ e
  passes_at_end h = omega (arith, span_of_lem part some, part.size, eqb-true (8 + 8 * span_of p) (length p) (right-ends (right_of d i at_end p h)))

  passes-before-end : check_e d i before_end p ≡ fine → end_at t i < e
  passes-before-end h = omega (arith, span_of_lem part some, part.size, ltb-true (8 + 8 * span_of p) (length p) (right-ends (right_of d i before_end p h)))

-- ---- finding where a record stands

module _ (n : ℕ) (t : List ℕ) (i : ℕ) (s : Stand) where
  pub find-here : find (suc n) t i s i ≡ s
  unfolding find
  find-here = rw (eq-eqb i i refl)

  pub find-behind : (j : ℕ) → end_at t i ≤ j → find (suc n) t i s j ≡ find n t (end_at t i) s j
  unfolding find
  find-behind j h = rw (ne_eqb j i (omega arith), le-ltb j (end_at t i) h)

  pub find-inside : (j : ℕ) → i < j → j < end_at t i → find (suc n) t i s j ≡ F.inside (λ k x. find n t k x j) (kind_row (kind_at t i)).encloses t i s j
  unfolding find
  find-inside j h l = rw (ne_eqb j i (omega arith), lt-ltb j (end_at t i) l)

-- ---- the check of a part

-- an expression encloses no statements
operands_inside : (d i : ℕ) (p : List ℕ) → Four (kind_of p) → operands d i p ≡ inside d i p
unfolding enclosed
operands_inside d i p (is9 h) = rw h refl
operands_inside d i p (is10 h) = rw h refl
operands_inside d i p (is11 h) = rw h refl
operands_inside d i p (is12 h) = rw h refl

module _ (t : List ℕ) where
  -- The part p at record i, whose records before stop are found from i, with so many levels left. (n bounds the records of the part.)
  record Here (n i stop : ℕ) (s : Stand) (d : ℕ) (p : List ℕ) : Type 0 where
    part : PartOf t i s.end p
    deep : s.depth + d ≡ 17
    few : s.end ≤ n + i
    found : (j : ℕ) → i ≤ j → j < s.end → j < stop → standing t j ≡ find n t i s j

  -- the check of an expression, which may end before what encloses it; of a row
  abbrev TellsE : ℕ → Type 0
  TellsE n = (d i : ℕ) (s : Stand) (p : List ℕ) → sort_of s.due ≡ expression → i < s.end → Here n i (end_at t i) s d p
      → Tells (rule t) i (end_at t i) s.end (check_e d i (ends_of s.due) p)

  abbrev TellsR : ℕ → Type 0
  TellsR n = (d i : ℕ) (s : Stand) (p : List ℕ) → ends_of s.due ≡ within → Here n i s.end s d p
      → Tells (rule t) i s.end s.end (check_rows (sort_of s.due) d i p)

  module _ {n i stop d : ℕ} {s : Stand} {p : List ℕ} (here : Here (suc n) i stop s d p) (some : i < s.end) (reach : i < stop) where
    -- the record at the start of the part, by the check of it
    here-rule : rule t i ≡ cond (eqb (number_of s p) 0) (cond (ltb 16 s.depth) 16 0) (number_of s p)
    here-rule = ap (first_broken t i) (here.found i (omega arith) some reach ∙ find-here n t i s) ∙ own-rule s here.part some

    faulty : ¬ (number_of s p ≡ 0) → rule t i ≡ number_of s p
    faulty h = here-rule ∙ rw (ne_eqb (number_of s p) 0 h)

    too_deep : number_of s p ≡ 0 → d ≡ 0 → rule t i ≡ 16
    too_deep h e = here-rule ∙ rw (eq-eqb (number_of s p) 0 h, lt-ltb 16 s.depth (omega (arith, here.deep)))

    not-deep : number_of s p ≡ 0 → 0 < d → rule t i ≡ 0
    not-deep h e = here-rule ∙ rw (eq-eqb (number_of s p) 0 h, le-ltb 16 s.depth (omega (arith, here.deep)))

    -- its own fault, else what the rest tells
    own_first : (f : ℕ) → number_of s p ≡ f → (m : ℕ) (v : Verdict) → (number_of s p ≡ 0 → Tells (rule t) i m s.end v) → Tells (rule t) i m s.end (unless f i v)
    own_first f e m v g =
        dite (ℕ_discrete f 0)
        (λ z. rw (unless_none f i v z) (g (e ∙ z)))
        (λ z. rw (unless-some f i v z) (tells-own (rule t) i m s.end f (faulty (λ y. z (sym e ∙ y)) ∙ e) z some))

  -- what a record encloses, by the checks of parts of fewer records
  module _ {n i stop d : ℕ} {s : Stand} {p : List ℕ} (ih_e : TellsE n) (ih_r : TellsR n)
      (here : Here (suc n) i stop s (suc d) p) (some : i < s.end) (whole : end_at t i ≤ s.end) (reach : end_at t i ≤ stop) where
    own-part : PartOf t (i + 1) (end_at t i) (inner p)
    own-part = inner-part here.part some whole

    -- where the records stand that it encloses
    abbrev Found : (k stop : ℕ) → Due → Type 0
    Found k stop x = (j : ℕ) → k ≤ j → j < end_at t i → j < stop → standing t j ≡ find n t k (under t i s x) j

    here-inner : (k : ℕ) (x : Due) → Found (i + 1) k x → Here n (i + 1) k (under t i s x) d (inner p)
    here-inner k x f = record { part = own-part; deep = omega (arith, here.deep); few = omega (arith, here.few); found = f }

    here-second : (k : ℕ) (x : Due) → i + 1 < end_at t i → Found (end_at t (i + 1)) k x → Here n (end_at t (i + 1)) k (under t i s x) d (after (inner p))
    here-second k x l f = record { part = after-part own-part l; deep = omega (arith, here.deep); few = omega (arith, here.few); found = f }

    found_in : (x : Encloses) → (kind_row (kind_at t i)).encloses ≡ x → (j : ℕ) → i + 1 ≤ j → j < end_at t i
        → standing t j ≡ F.inside (λ k x. find n t k x j) x t i s j
    found_in x e j a b =
        here.found j (omega arith) (omega arith) (omega arith) ∙ find-inside n t i s j (omega arith) b
        ∙ ap (λ (y : Encloses). F.inside (λ k x. find n t k x j) y t i s j) e

    second_index : i + 1 < end_at t i → i + 2 + span_of (inner p) ≡ end_at t (i + 1)
    second_index l = omega (arith, span_of_lem own-part l)

    -- a sole or last operand
    to_the_end : (k : ℕ) (q : List ℕ) → k < end_at t i → Here n k (end_at t k) (under t i s last) d q
        → Tells (rule t) k (end_at t i) (end_at t i) (check_e d k at_end q)
    to_the_end k q l w =
        tells-until (rule t) k (end_at t k) (end_at t i) (end_at t i) (check_e d k at_end q) (λ f. omega (arith, passes_at_end w.part l d f))
        (ih_e d k (under t i s last) q refl l w)

    tells-inside : (x : Encloses) → (kind_row (kind_at t i)).encloses ≡ x → span_fits x (span_at t i) ≡ true
        → Tells (rule t) (i + 1) (end_at t i) (end_at t i) (enclosed (check_e d) (check_rows statement d) x i p)
    unfolding enclosed F.inside
    tells-inside nothing e h = λ k a b. absurd (omega (arith, eqb-true (span_at t i) 0 h))
    tells-inside statements e h = ih_r d (i + 1) (under t i s Due.statement) (inner p) refl (here-inner (end_at t i) Due.statement (λ j a b c. found_in statements e j a b))
    tells-inside one_expression e h =
        let l : i + 1 < end_at t i = omega (arith, leb-true 1 (span_at t i) h) in
        to_the_end (i + 1) (inner p) l (here-inner (end_at t (i + 1)) last (λ j a b c. found_in one_expression e j a b))
    tells-inside expression_statements e h =
        let l : i + 1 < end_at t i = omega (arith, leb-true 1 (span_at t i) h) in
        rw (second_index l)
        (tells_else (rule t) (i + 1) (end_at t (i + 1)) (end_at t i) (end_at t i) (check_e d (i + 1) within (inner p)) _ (omega arith)
        (ih_e d (i + 1) (under t i s test) (inner p) refl l
        (here-inner (end_at t (i + 1)) test (λ j a b c. found_in expression_statements e j a b ∙ rw (lt-ltb j (end_at t (i + 1)) c))))
        (λ f. ih_r d (end_at t (i + 1)) (under t i s Due.statement) (after (inner p)) refl
        (here-second (end_at t i) Due.statement l (λ j a b c. found_in expression_statements e j (omega arith) b ∙ rw (le-ltb j (end_at t (i + 1)) a)))))
    tells-inside two_expressions e h =
        let l : i + 1 < end_at t i = omega (arith, leb-true 2 (span_at t i) h) in
        rw (second_index l)
        (tells_else (rule t) (i + 1) (end_at t (i + 1)) (end_at t i) (end_at t i) (check_e d (i + 1) before_end (inner p)) _ (omega arith)
        (ih_e d (i + 1) (under t i s first) (inner p) refl l
        (here-inner (end_at t (i + 1)) first (λ j a b c. found_in two_expressions e j a b ∙ rw (lt-ltb j (end_at t (i + 1)) c))))
        (λ f. to_the_end (end_at t (i + 1)) (after (inner p)) (passes-before-end own-part l d f)
        (here-second (end_at t (end_at t (i + 1))) last l (λ j a b c. found_in two_expressions e j (omega arith) b ∙ rw (le-ltb j (end_at t (i + 1)) a)))))

  -- nothing is left of a row
  row_done : (d i : ℕ) (s : Stand) (p : List ℕ) → PartOf t i s.end p → s.end ≤ i → Tells (rule t) i s.end s.end (check_rows (sort_of s.due) d i p)
  row_done d i s p part h = rw (row-empty (sort_of s.due) d i p (omega (arith, part.size))) (λ k a b. absurd (omega arith))

  -- one record more
  module _ (n : ℕ) (ih_e : TellsE n) (ih_r : TellsR n) where
    -- a record without a fault of its own, and what it encloses
    module _ {i stop d : ℕ} {s : Stand} {p : List ℕ} (here : Here (suc n) i stop s (suc d) p) (some : i < s.end) (h : number_of s p ≡ 0) where
      is_whole : end_at t i ≤ s.end
      is_whole = omega (arith, span_of_lem here.part some, here.part.size, right-whole (right (sort_of s.due) (ends_of s.due) p h))

      tells-enclosed : end_at t i ≤ stop → Tells (rule t) i (end_at t i) s.end (inside d i p)
      tells-enclosed reach =
          let x = (kind_row (kind_of p)).encloses in
          let spans : span_fits x (span_at t i) ≡ true = rw (← span_of_lem here.part some) (right-span (right (sort_of s.due) (ends_of s.due) p h)) in
          tells-step (rule t) i (end_at t i) s.end (inside d i p) (not-deep here some (omega arith) h (omega arith))
          (tells_wider (rule t) (i + 1) (end_at t i) (end_at t i) s.end (inside d i p) is_whole
          (tells-inside ih_e ih_r here some is_whole reach x (ap (λ (k : ℕ). (kind_row k).encloses) (sym (kind_of_lem here.part some))) spans))

    tells-expression : TellsE (suc n)
    unfolding check_e
    tells-expression zero i s p e some here =
        own_first here some (omega arith) (record_fault expression (ends_of s.due) p) (ap (λ (x : Sort). record_fault x (ends_of s.due) p) e) (end_at t i) (fault 16 i)
        (λ h. tells-own (rule t) i (end_at t i) s.end 16 (too_deep here some (omega arith) h refl) (omega arith) some)
    tells-expression (suc d) i s p e some here =
        own_first here some (omega arith) (record_fault expression (ends_of s.due) p) (ap (λ (x : Sort). record_fault x (ends_of s.due) p) e) (end_at t i) (operands d i p)
        (λ h.
        let due : is_of expression (kind_of p) ≡ true = ap (λ (x : Sort). is_of x (kind_of p)) (sym e) ∙ (right (sort_of s.due) (ends_of s.due) p h).due in
        rw (operands_inside d i p (four (kind_of p) due)) (tells-enclosed here some h (omega arith)))

    tells_row : TellsR (suc n)
    unfolding levels
    tells_row d i s p e here = dite (dec_lt i s.end) (more d here) (λ h. row_done d i s p here.part (omega arith))
      where
        more : (d : ℕ) → Here (suc n) i s.end s d p → i < s.end → Tells (rule t) i s.end s.end (check_rows (sort_of s.due) d i p)
        more zero here l =
            rw (row-some (sort_of s.due) 0 i p (omega (arith, here.part.size)))
            (own_first here l l (record_fault (sort_of s.due) within p) (ap (λ (x : Ends). record_fault (sort_of s.due) x p) e) s.end (fault 16 i)
            (λ h. tells-own (rule t) i s.end s.end 16 (too_deep here l l h refl) (omega arith) l))
        more (suc d) here l =
            rw (row-some (sort_of s.due) (suc d) i p (omega (arith, here.part.size)))
            (own_first here l l (record_fault (sort_of s.due) within p) (ap (λ (x : Ends). record_fault (sort_of s.due) x p) e) s.end _
            (λ h.
            rw (span_of_lem here.part l)
            (tells_else (rule t) i (end_at t i) s.end s.end (inside d i p) _ (omega arith) (tells-enclosed here l h (is_whole here l h))
            (λ f. ih_r (suc d) (end_at t i) s (after p) e
            (record {
              part = after-part here.part l;
              deep = here.deep;
              few = omega (arith, here.few);
              found = λ j a b c. here.found j (omega arith) b c ∙ find-behind n t i s j a;
            })))))

  tells_both : (n : ℕ) → TellsE n × TellsR n
  tells_both zero = (λ d i s p e some here. absurd (omega (arith, here.few)), λ d i s p e here. row_done d i s p here.part (omega (arith, here.few)))
  tells_both (suc n) = let ih = tells_both n in (tells-expression n ih.0 ih.1, tells_row n ih.0 ih.1)

  -- the table's whole check but for the spawns
  pub table-tells : length_fits (length t) ≡ true → Tells (rule t) 0 (records t) (records t) (check_rows procedure 17 0 t)
  unfolding standing
  table-tells h =
      let top : Stand = record { due = Due.procedure; end = records t; depth = 0 } in
      (tells_both (records t)).1 17 0 top t refl
      (record {
        part = record { size = omega (arith, (length-fits (length t) h).aligned); same = λ k a. ap (λ (x : ℕ). get_or t x 0) (omega arith) };
        deep = refl;
        few = omega arith;
        found = λ j a b c. refl;
      })
