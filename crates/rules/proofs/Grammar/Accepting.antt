-- What passes the check spells a recipe within the limits.
-- Assumes nothing.
use Prim.Native.Nat.{ℕ, zero, suc, ◌+◌, ◌*◌, ◌/◌, ◌%◌, ◌≤◌, ◌<◌}
use mathlib.Core.Path.{◌≡◌, refl, sym, ap, ◌∙◌, subst}
use mathlib.Core.Bool.{true, ◌&&◌, false≢true}
use mathlib.Core.Logic.{dite}
use mathlib.Core.List.{List, [], ◌∷◌, ◌++◌, append-nil}
use native.Mathlib.Omega.{arith}
use native.Mathlib.Decide.{dec_lt, ℕ_discrete}
use lib.Dec.{eqb, leb}
use lib.IntN.{ℤ, pos, negsuc, nat_abs}
use lib.Signed.{le_z}
use lib.ListN.{length, get_or, take, drop, length-append, length-take, take-append-drop, get_or-eq_default}
use lib.Seq.{drop-cons, get_or-take, get_or-drop, drop-drop}
use borrow.Author.Tests.{ne_eqb, leb-true, eqb-true}
use Rattle.rules.specs.Fields.{word, bits}
use Rattle.rules.specs.Values.{is_zero}
use Rattle.rules.specs.Demand.{Bytes}
use Rattle.rules.specs.Recipe.{Expr, constant, variable, two, one, Stmt, skip, assign, if, while, spawn, suspend, await, guard, Body, fin, ◌▸◌, Recipe, size_e, size_b, row, encode_e, encode_s, encode_b, encode, levels_e, levels_s, levels_b, NamedE, NamedS, NamedB, WithinR}
use Rattle.rules.specs.Table.{kind_of, name_of, span_of, value_of, inner, after, Encloses, nothing, one_expression, expression_statements, kind_row, Sort, procedure, statement, expression, is_of, Ends, at_end, before_end, within, span_fits, value_fits, fine, enclosed, check_e, check_rows}
use Rattle.rules.proofs.Grammar.Rows.{length-encode_e, length-encode_b}
use Rattle.rules.proofs.Grammar.Checking.{Right, right-ends, right-span, right-whole, length-inner, length-after, inner_le, operands, expression-fine, expression-deep, inside, row_fine, row-not-deep}
use Rattle.rules.proofs.Verdicts.{and_true, or_left, else_fine}
use Rattle.rules.proofs.Numbers.{bits-signed, signed_range, word_below}

-- ---- parts of a buffer

pub bytes_drop : (n : ℕ) (p : List ℕ) → Bytes p → Bytes (drop n p)
bytes_drop n p h i = rw get_or-drop (h (n + i))

pub bytes_take : (n : ℕ) (p : List ℕ) → Bytes p → Bytes (take n p)
bytes_take n p h i = go (dec_lt i n)
  where
    go : Dec (i < n) → get_or (take n p) i 0 < 256
    go (yes l) = rw (get_or-take n p i 0 l) (h i)
    go (no f) = rw (get_or-eq_default (take n p) 0 {n = i} (omega (arith, length-take n p))) (omega arith)

pub bytes-inner : (p : List ℕ) → Bytes p → Bytes (inner p)
unfolding inner
bytes-inner p h = bytes_take (8 * span_of p) (drop 8 p) (bytes_drop 8 p h)

pub bytes_after : (p : List ℕ) → Bytes p → Bytes (after p)
unfolding after
bytes_after p h = bytes_drop (8 + 8 * span_of p) p h

-- ---- a part is its first record and what follows

split : (p : List ℕ) → 8 ≤ length p
    → p ≡ get_or p 0 0 ∷ get_or p 1 0 ∷ get_or p 2 0 ∷ get_or p 3 0 ∷ get_or p 4 0 ∷ get_or p 5 0 ∷ get_or p 6 0 ∷ get_or p 7 0 ∷ drop 8 p
split p h =
    drop-cons p 0 0 (omega arith)
    ∙ ap (λ (l : List ℕ). get_or p 0 0 ∷ l) (drop-cons p 1 0 (omega arith)
    ∙ ap (λ (l : List ℕ). get_or p 1 0 ∷ l) (drop-cons p 2 0 (omega arith)
    ∙ ap (λ (l : List ℕ). get_or p 2 0 ∷ l) (drop-cons p 3 0 (omega arith)
    ∙ ap (λ (l : List ℕ). get_or p 3 0 ∷ l) (drop-cons p 4 0 (omega arith)
    ∙ ap (λ (l : List ℕ). get_or p 4 0 ∷ l) (drop-cons p 5 0 (omega arith)
    ∙ ap (λ (l : List ℕ). get_or p 5 0 ∷ l) (drop-cons p 6 0 (omega arith)
    ∙ ap (λ (l : List ℕ). get_or p 6 0 ∷ l) (drop-cons p 7 0 (omega arith))))))))

low_byte : (x a y : ℕ) → x ≡ a + 256 * y → a < 256 → a ≡ x % 256
low_byte x a y h l = omega arith

row_of : (p : List ℕ) → 8 ≤ length p → Bytes p → p ≡ row (kind_of p) (name_of p) (span_of p) (value_of p) ++ drop 8 p
row_of p h b =
    let w = word p 4 in
    let e : w ≡ bits (value_of p) = sym (bits-signed w (word_below p b 4)) in
    let s2 : get_or p 2 0 ≡ span_of p % 256 = omega (arith, b 2) in
    let s3 : get_or p 3 0 ≡ span_of p / 256 = omega (arith, b 2) in
    let w4 : get_or p 4 0 ≡ w % 256 = omega (arith, b 4) in
    let w5 : get_or p 5 0 ≡ w / 256 % 256 = low_byte (w / 256) (get_or p 5 0) (get_or p 6 0 + 256 * get_or p 7 0) (omega (arith, b 4)) (b 5) in
    let w6 : get_or p 6 0 ≡ w / 65536 % 256 = low_byte (w / 65536) (get_or p 6 0) (get_or p 7 0) (omega (arith, b 4, b 5)) (b 6) in
    let w7 : get_or p 7 0 ≡ w / 16777216 = omega (arith, b 4, b 5, b 6) in
    split p h ∙ (λ i. kind_of p ∷ name_of p ∷ s2 i ∷ s3 i ∷ w4 i ∷ w5 i ∷ w6 i ∷ w7 i ∷ drop 8 p)
    ∙ ap (λ (x : ℕ). kind_of p ∷ name_of p ∷ span_of p % 256 ∷ span_of p / 256 ∷ x % 256 ∷ x / 256 % 256 ∷ x / 65536 % 256 ∷ x / 16777216 ∷ drop 8 p) e

behind : (p : List ℕ) → drop 8 p ≡ inner p ++ after p
unfolding inner after
behind p = sym (take-append-drop (8 * span_of p) (drop 8 p)) ∙ ap (λ (l : List ℕ). take (8 * span_of p) (drop 8 p) ++ l) (drop-drop (8 * span_of p) 8 p)

-- the record of a part with its fields, what it encloses and what follows
as_row : (p : List ℕ) → 8 ≤ length p → Bytes p → {k n s : ℕ} {z : ℤ} {x : List ℕ} → kind_of p ≡ k → name_of p ≡ n → span_of p ≡ s → value_of p ≡ z → inner p ≡ x
    → p ≡ (row k n s z ++ x) ++ after p
as_row p h b {k} {n} {s} {z} hk hn hs hz hx = row_of p h b ∙ (λ i. row (hk i) (hn i) (hs i) (hz i) ++ drop 8 p) ∙ ap (λ (l : List ℕ). row k n s z ++ l) (behind p ∙ ap (λ (l : List ℕ). l ++ after p) hx)

nil_of_length : (l : List ℕ) → length l ≡ 0 → l ≡ []
nil_of_length [] h = refl
nil_of_length (a ∷ l) h = absurd (omega arith)

-- ---- the fields of a right record, by its kind

zero-value : (z : ℤ) → is_zero z ≡ true → z ≡ pos 0
zero-value (pos n) h = ap pos (eqb-true n 0 h)
zero-value (negsuc n) h = absurd (false≢true h)

number-value : (z : ℤ) → (le_z (pos 0) z && le_z z (pos 255)) ≡ true → (z ≡ pos (nat_abs z)) × (nat_abs z ≤ 255)
number-value (pos n) h = (refl, leb-true n 255 (and_true (leb 0 n) (leb n 255) h).1)
number-value (negsuc n) h = absurd (false≢true h)

module _ {sort : Sort} {ends : Ends} {p : List ℕ} (g : Right sort ends p) {k : ℕ} (hk : kind_of p ≡ k) where
  name-least : (kind_row k).least ≤ name_of p
  name-least = leb-true _ _ (subst (λ (x : ℕ). leb (kind_row x).least (name_of p) ≡ true) hk (and_true (leb (kind_row (kind_of p)).least (name_of p)) _ g.named).0)

  name-most : name_of p ≤ (kind_row k).most
  name-most = leb-true _ _ (subst (λ (x : ℕ). leb (name_of p) (kind_row x).most ≡ true) hk (and_true (leb (kind_row (kind_of p)).least (name_of p)) _ g.named).1)

  value-fits : value_fits (kind_row k).field (value_of p) ≡ true
  value-fits = subst (λ (x : ℕ). value_fits (kind_row x).field (value_of p) ≡ true) hk g.valued

  span_fits_lem : span_fits (kind_row k).encloses (span_of p) ≡ true
  span_fits_lem = subst (λ (x : ℕ). span_fits (kind_row x).encloses (span_of p) ≡ true) hk (right-span g)

some_record : {sort : Sort} {ends : Ends} {p : List ℕ} → Right sort ends p → 8 ≤ length p
some_record g = omega (arith, right-whole g)

inner-length : {sort : Sort} {ends : Ends} {p : List ℕ} → Right sort ends p → length (inner p) ≡ 8 * span_of p
inner-length {p = p} g = length-inner p (right-whole g)

-- a record that encloses nothing
inner_none : {sort : Sort} {ends : Ends} {p : List ℕ} → Right sort ends p → span_of p ≡ 0 → inner p ≡ []
inner_none {p = p} g h = nil_of_length (inner p) (omega (arith, inner-length g))

-- ---- expressions

-- a part starts with the bytes of an expression within its levels, which is its first record with all that this encloses
pub record ReadsE (d : ℕ) (p : List ℕ) : Type 0 where
  pub expr : Expr
  pub spelt : p ≡ encode_e expr ++ after p
  pub named : NamedE expr
  pub shallow : levels_e expr ≤ d

-- an operand that reaches the end is the whole of its part
whole_of : {d : ℕ} {sort : Sort} {p : List ℕ} (g : Right sort at_end p) (r : ReadsE d p) → p ≡ encode_e r.expr
whole_of {p = p} g r =
    let e : 8 + 8 * span_of p ≡ length p = eqb-true _ _ (right-ends g) in
    r.spelt ∙ ap (λ (x : List ℕ). encode_e r.expr ++ x) (nil_of_length (after p) (omega (arith, length-after p))) ∙ append-nil (encode_e r.expr)

pub data Four (k : ℕ) : Type 0 where
  is9 : k ≡ 9 → Four k
  is10 : k ≡ 10 → Four k
  is11 : k ≡ 11 → Four k
  is12 : k ≡ 12 → Four k

pub four : (k : ℕ) → is_of expression k ≡ true → Four k
four k h = go (ℕ_discrete k 9) (ℕ_discrete k 10) (ℕ_discrete k 11)
  where
    bounds : (9 ≤ k) × (k ≤ 12)
    bounds = let a = and_true (leb 9 k) (leb k 12) h in (leb-true 9 k a.0, leb-true k 12 a.1)

    go : Dec (k ≡ 9) → Dec (k ≡ 10) → Dec (k ≡ 11) → Four k
    go (yes e) b c = is9 e
    go (no a) (yes e) c = is10 e
    go (no a) (no b) (yes e) = is11 e
    go (no a) (no b) (no c) = is12 (omega (arith, bounds.0, bounds.1))

module _ {ends : Ends} {p : List ℕ} (b : Bytes p) (g : Right expression ends p) where
  reads-constant : (d : ℕ) → kind_of p ≡ 9 → ReadsE (suc d) p
  unfolding encode_e levels_e NamedE
  reads-constant d h =
      let s : span_of p ≡ 0 = eqb-true _ _ (span_fits_lem g h) in
      record { expr = constant (value_of p); spelt = as_row p (some_record g) b h (omega (arith, name-most g h)) s refl (inner_none g s); named = signed_range (word p 4) (word_below p b 4); shallow = omega arith }

  reads-variable : (d : ℕ) → kind_of p ≡ 10 → ReadsE (suc d) p
  unfolding encode_e levels_e NamedE
  reads-variable d h =
      let s : span_of p ≡ 0 = eqb-true _ _ (span_fits_lem g h) in
      record { expr = variable (name_of p); spelt = as_row p (some_record g) b h refl s (zero-value (value_of p) (value-fits g h)) (inner_none g s); named = name-most g h; shallow = omega arith }

  reads-one : (d : ℕ) → kind_of p ≡ 12 → Right expression at_end (inner p) → ReadsE d (inner p) → ReadsE (suc d) p
  unfolding encode_e levels_e NamedE
  reads-one d h f r =
      let q = whole_of f r in
      let s : span_of p ≡ size_e r.expr = omega (arith, inner-length g, ap length q, length-encode_e r.expr) in
      record { expr = one (name_of p) r.expr; spelt = as_row p (some_record g) b h refl s (zero-value (value_of p) (value-fits g h)) q; named = (name-most g h, r.named); shallow = omega (arith, r.shallow) }

  reads_two : (d : ℕ) → kind_of p ≡ 11 → ReadsE d (inner p) → Right expression at_end (after (inner p)) → ReadsE d (after (inner p)) → ReadsE (suc d) p
  unfolding encode_e levels_e NamedE
  reads_two d h r f t =
      let q : inner p ≡ encode_e r.expr ++ encode_e t.expr = r.spelt ∙ ap (λ (x : List ℕ). encode_e r.expr ++ x) (whole_of f t) in
      let s : span_of p ≡ size_e r.expr + size_e t.expr =
      omega (arith, inner-length g, ap length q, length-append (encode_e r.expr) (encode_e t.expr), length-encode_e r.expr, length-encode_e t.expr) in
      record { expr = two (name_of p) r.expr t.expr; spelt = as_row p (some_record g) b h refl s (zero-value (value_of p) (value-fits g h)) q; named = (name-most g h, r.named, t.named); shallow = omega (arith, r.shallow, t.shallow) }

-- what an operator of this kind encloses
enclosed_at : (d i : ℕ) (p : List ℕ) {k : ℕ} → kind_of p ≡ k → operands d i p ≡ enclosed (check_e d) (λ j q. fine) (kind_row k).encloses i p
enclosed_at d i p h = ap (λ (x : ℕ). enclosed (check_e d) (λ j q. fine) (kind_row x).encloses i p) h

-- what passes at so many levels has a right first record
pub right_of : (d i : ℕ) (ends : Ends) (p : List ℕ) → check_e d i ends p ≡ fine → Right expression ends p
right_of zero i ends p e = absurd (expression-deep i ends p e)
right_of (suc d) i ends p e = (expression-fine d i ends p e).0

by_kind : (d i : ℕ) (ends : Ends) (p : List ℕ) → ((i' : ℕ) (ends' : Ends) (q : List ℕ) → Bytes q → check_e d i' ends' q ≡ fine → ReadsE d q)
    → Bytes p → Right expression ends p → operands d i p ≡ fine → Four (kind_of p) → ReadsE (suc d) p
unfolding enclosed
by_kind d i ends p ih b g e (is9 h) = reads-constant b g d h
by_kind d i ends p ih b g e (is10 h) = reads-variable b g d h
by_kind d i ends p ih b g e (is11 h) =
    let j = i + 2 + span_of (inner p) in
    let f = else_fine (check_e d (i + 1) before_end (inner p)) (check_e d j at_end (after (inner p))) (sym (enclosed_at d i p h) ∙ e) in
    reads_two b g d h (ih (i + 1) before_end (inner p) (bytes-inner p b) f.0) (right_of d j at_end (after (inner p)) f.1) (ih j at_end (after (inner p)) (bytes_after (inner p) (bytes-inner p b)) f.1)
by_kind d i ends p ih b g e (is12 h) =
    let f = sym (enclosed_at d i p h) ∙ e in
    reads-one b g d h (right_of d (i + 1) at_end (inner p) f) (ih (i + 1) at_end (inner p) (bytes-inner p b) f)

pub reads_e : (d i : ℕ) (ends : Ends) (p : List ℕ) → Bytes p → check_e d i ends p ≡ fine → ReadsE d p
reads_e zero i ends p b e = absurd (expression-deep i ends p e)
reads_e (suc d) i ends p b e =
    let f = expression-fine d i ends p e in
    by_kind d i ends p (λ i' ends' q. reads_e d i' ends' q) b f.0 f.1 (four (kind_of p) f.0.due)

-- ---- statements

-- a part starts with the bytes of a statement; a part is the bytes of a body. (Names are checked but for 17: any of 256 procedures.)
record ReadsS (d : ℕ) (p : List ℕ) : Type 0 where
  stmt : Stmt
  spelt : p ≡ encode_s stmt ++ after p
  named : NamedS 256 stmt
  shallow : levels_s stmt ≤ d

pub record ReadsB (d : ℕ) (p : List ℕ) : Type 0 where
  pub body : Body
  pub spelt : p ≡ encode_b body
  pub named : NamedB 256 body
  pub shallow : levels_b body ≤ d

data Eight (k : ℕ) : Type 0 where
  is2 : k ≡ 2 → Eight k
  is3 : k ≡ 3 → Eight k
  is4 : k ≡ 4 → Eight k
  is5 : k ≡ 5 → Eight k
  is6 : k ≡ 6 → Eight k
  is7 : k ≡ 7 → Eight k
  is8 : k ≡ 8 → Eight k
  is13 : k ≡ 13 → Eight k

eight : (k : ℕ) → is_of statement k ≡ true → Eight k
eight k h = dite (ℕ_discrete k 13) is13 (λ n. go (ℕ_discrete k 2) (ℕ_discrete k 3) (ℕ_discrete k 4) (ℕ_discrete k 5) (ℕ_discrete k 6) (ℕ_discrete k 7) (bounds n))
  where
    bounds : ¬ (k ≡ 13) → (2 ≤ k) × (k ≤ 8)
    bounds n =
        let a = and_true (leb 2 k) (leb k 8) (or_left (leb 2 k && leb k 8) (eqb k 13) h (ne_eqb k 13 n)) in (leb-true 2 k a.0, leb-true k 8 a.1)

    go : Dec (k ≡ 2) → Dec (k ≡ 3) → Dec (k ≡ 4) → Dec (k ≡ 5) → Dec (k ≡ 6) → Dec (k ≡ 7) → (2 ≤ k) × (k ≤ 8) → Eight k
    go (yes e) b c d f g l = is2 e
    go (no a) (yes e) c d f g l = is3 e
    go (no a) (no b) (yes e) d f g l = is4 e
    go (no a) (no b) (no c) (yes e) f g l = is5 e
    go (no a) (no b) (no c) (no d) (yes e) g l = is6 e
    go (no a) (no b) (no c) (no d) (no f) (yes e) l = is7 e
    go (no a) (no b) (no c) (no d) (no f) (no g) l = is8 (omega (arith, l.0, l.1))

module _ {p : List ℕ} (b : Bytes p) (g : Right statement within p) (d : ℕ) where
  -- kinds 2, 7 and 8: nothing is enclosed
  module _ (k : ℕ) (h : kind_of p ≡ k) (n : span_fits nothing (span_of p) ≡ true) where
    plain : (n : ℕ) → name_of p ≡ n → value_of p ≡ pos 0 → p ≡ (row k n 0 (pos 0) ++ []) ++ after p
    plain m e z = let s : span_of p ≡ 0 = eqb-true _ _ n in as_row p (some_record g) b h e s z (inner_none g s)

  reads-skip : kind_of p ≡ 2 → ReadsS (suc d) p
  unfolding encode_s levels_s NamedS
  reads-skip h = record { stmt = skip; spelt = plain 2 h (span_fits_lem g h) 0 (omega (arith, name-most g h)) (zero-value (value_of p) (value-fits g h)); named = tt; shallow = omega arith }

  reads-suspend : kind_of p ≡ 7 → ReadsS (suc d) p
  unfolding encode_s levels_s NamedS
  reads-suspend h = record { stmt = suspend; spelt = plain 7 h (span_fits_lem g h) 0 (omega (arith, name-most g h)) (zero-value (value_of p) (value-fits g h)); named = tt; shallow = omega arith }

  reads-await : kind_of p ≡ 8 → ReadsS (suc d) p
  unfolding encode_s levels_s NamedS
  reads-await h = record { stmt = await (name_of p); spelt = plain 8 h (span_fits_lem g h) (name_of p) refl (zero-value (value_of p) (value-fits g h)); named = name-most g h; shallow = omega arith }

  -- kinds 3, 6 and 13: an expression alone
  module _ (f : Right expression at_end (inner p)) (r : ReadsE d (inner p)) where
    span-one : span_of p ≡ size_e r.expr
    span-one = omega (arith, inner-length g, ap length (whole_of f r), length-encode_e r.expr)

    reads-assign : kind_of p ≡ 3 → ReadsS (suc d) p
    unfolding encode_s levels_s NamedS
    reads-assign h =
        record { stmt = assign (name_of p) r.expr; spelt = as_row p (some_record g) b h refl span-one (zero-value (value_of p) (value-fits g h)) (whole_of f r); named = (name-most g h, r.named); shallow = omega (arith, r.shallow) }

    reads-guard : kind_of p ≡ 13 → ReadsS (suc d) p
    unfolding encode_s levels_s NamedS
    reads-guard h =
        record {
          stmt = guard r.expr;
          spelt = as_row p (some_record g) b h (omega (arith, name-most g h)) span-one (zero-value (value_of p) (value-fits g h)) (whole_of f r);
          named = r.named;
          shallow = omega (arith, r.shallow);
        }

    reads-spawn : kind_of p ≡ 6 → ReadsS (suc d) p
    unfolding encode_s levels_s NamedS
    reads-spawn h =
        let v = number-value (value_of p) (value-fits g h) in
        record {
          stmt = spawn (name_of p) (nat_abs (value_of p)) r.expr;
          spelt = as_row p (some_record g) b h refl span-one v.0 (whole_of f r);
          named = (name-least g h, name-most g h, v.1, omega (arith, v.1), r.named);
          shallow = omega (arith, r.shallow);
        }

  -- kinds 4 and 5: an expression, then statements
  module _ (r : ReadsE d (inner p)) (t : ReadsB d (after (inner p))) where
    inner-test : inner p ≡ encode_e r.expr ++ encode_b t.body
    inner-test = r.spelt ∙ ap (λ (x : List ℕ). encode_e r.expr ++ x) t.spelt

    span-test : span_of p ≡ size_e r.expr + size_b t.body
    span-test = omega (arith, inner-length g, ap length inner-test, length-append (encode_e r.expr) (encode_b t.body), length-encode_e r.expr, length-encode_b t.body)

    reads-if : kind_of p ≡ 4 → ReadsS (suc d) p
    unfolding encode_s levels_s NamedS
    reads-if h =
        record {
          stmt = if r.expr t.body;
          spelt = as_row p (some_record g) b h (omega (arith, name-most g h)) span-test (zero-value (value_of p) (value-fits g h)) inner-test;
          named = (r.named, t.named);
          shallow = omega (arith, r.shallow, t.shallow);
        }

    reads-while : kind_of p ≡ 5 → ReadsS (suc d) p
    unfolding encode_s levels_s NamedS
    reads-while h =
        record {
          stmt = while r.expr t.body;
          spelt = as_row p (some_record g) b h (omega (arith, name-most g h)) span-test (zero-value (value_of p) (value-fits g h)) inner-test;
          named = (r.named, t.named);
          shallow = omega (arith, r.shallow, t.shallow);
        }

inside_at : (d i : ℕ) (p : List ℕ) {k : ℕ} → kind_of p ≡ k → inside d i p ≡ enclosed (check_e d) (check_rows statement d) (kind_row k).encloses i p
inside_at d i p h = ap (λ (x : ℕ). enclosed (check_e d) (check_rows statement d) (kind_row x).encloses i p) h

-- the first statement of a row that passes, by the reading of bodies shorter than the row
module _ (d i : ℕ) (p : List ℕ) (ih : (j : ℕ) (q : List ℕ) → length q < length p → Bytes q → check_rows statement d j q ≡ fine → ReadsB d q)
    (b : Bytes p) (g : Right statement within p) (e : inside d i p ≡ fine) where
  alone : {k : ℕ} → kind_of p ≡ k → (kind_row k).encloses ≡ one_expression → Right expression at_end (inner p) × ReadsE d (inner p)
  unfolding enclosed
  alone h o =
      let f : check_e d (i + 1) at_end (inner p) ≡ fine = sym (ap (λ (x : Encloses). enclosed (check_e d) (check_rows statement d) x i p) o) ∙ sym (inside_at d i p h) ∙ e in
      (right_of d (i + 1) at_end (inner p) f, reads_e d (i + 1) at_end (inner p) (bytes-inner p b) f)

  tested : {k : ℕ} → kind_of p ≡ k → (kind_row k).encloses ≡ expression_statements → ReadsE d (inner p) × ReadsB d (after (inner p))
  unfolding enclosed
  tested h o =
      let j = i + 2 + span_of (inner p) in
      let f = else_fine (check_e d (i + 1) within (inner p)) (check_rows statement d j (after (inner p))) (sym (ap (λ (x : Encloses). enclosed (check_e d) (check_rows statement d) x i p) o) ∙ sym (inside_at d i p h) ∙ e) in (
        reads_e d (i + 1) within (inner p) (bytes-inner p b) f.0,
        ih j (after (inner p)) (omega (arith, length-after (inner p), inner_le p, some_record g)) (bytes_after (inner p) (bytes-inner p b)) f.1,
      )

  reads_s : Eight (kind_of p) → ReadsS (suc d) p
  reads_s (is2 h) = reads-skip b g d h
  reads_s (is3 h) = let r = alone h refl in reads-assign b g d r.0 r.1 h
  reads_s (is4 h) = let r = tested h refl in reads-if b g d r.0 r.1 h
  reads_s (is5 h) = let r = tested h refl in reads-while b g d r.0 r.1 h
  reads_s (is6 h) = let r = alone h refl in reads-spawn b g d r.0 r.1 h
  reads_s (is7 h) = reads-suspend b g d h
  reads_s (is8 h) = reads-await b g d h
  reads_s (is13 h) = let r = alone h refl in reads-guard b g d r.0 r.1 h

-- a row that passes, by the reading of shorter ones
module _ (i : ℕ) (p : List ℕ) (ih : (d j : ℕ) (q : List ℕ) → length q < length p → Bytes q → check_rows statement d j q ≡ fine → ReadsB d q) (b : Bytes p) where
  row_reads : (d : ℕ) → Dec (length p ≡ 0) → check_rows statement d i p ≡ fine → ReadsB d p
  unfolding encode_b NamedB levels_b
  row_reads d (yes z) e = record { body = fin; spelt = nil_of_length p z; named = tt; shallow = omega arith }
  row_reads zero (no s) e = absurd (row-not-deep statement i p s e)
  row_reads (suc d) (no s) e =
      let c = row_fine statement d i p s e in
      let r = reads_s d i p (ih d) b c.own c.first_fine (eight (kind_of p) c.own.due) in
      let t = ih (suc d) (i + 1 + span_of p) (after p) (omega (arith, length-after p, some_record c.own)) (bytes_after p b) c.rest-fine in
      record { body = r.stmt ▸ t.body; spelt = r.spelt ∙ ap (λ (x : List ℕ). encode_s r.stmt ++ x) t.spelt; named = (r.named, t.named); shallow = omega (arith, r.shallow, t.shallow) }

-- n bounds the bytes of the row
reads_b : (n d i : ℕ) (p : List ℕ) → length p ≤ n → Bytes p → check_rows statement d i p ≡ fine → ReadsB d p
reads_b zero d i p l b e = row_reads i p (λ d' j q h. absurd (omega arith)) b d (ℕ_discrete (length p) 0) e
reads_b (suc n) d i p l b e = row_reads i p (λ d' j q h. reads_b n d' j q (omega arith)) b d (ℕ_discrete (length p) 0) e

-- ---- procedures

pub record ReadsR (p : List ℕ) : Type 0 where
  pub recipe : Recipe
  pub spelt : p ≡ encode recipe
  pub bodies : WithinR 256 recipe

reads-procedure : (i : ℕ) (p : List ℕ) → Bytes p → Right procedure within p → inside 16 i p ≡ fine → ReadsR (after p) → ReadsR p
unfolding encode enclosed
reads-procedure i p b g e t =
    let h : kind_of p ≡ 1 = eqb-true (kind_of p) 1 g.due in
    let r = reads_b (length (inner p)) 16 (i + 1) (inner p) (omega arith) (bytes-inner p b) (sym (inside_at 16 i p h) ∙ e) in
    let s : span_of p ≡ size_b r.body = omega (arith, inner-length g, ap length r.spelt, length-encode_b r.body) in
    record {
      recipe = r.body ∷ t.recipe;
      spelt = as_row p (some_record g) b h (omega (arith, name-most g h)) s (zero-value (value_of p) (value-fits g h)) r.spelt ∙ ap (λ (x : List ℕ). (row 1 0 (size_b r.body) (pos 0) ++ encode_b r.body) ++ x) t.spelt;
      bodies = (record { named = r.named; shallow = r.shallow }, t.bodies);
    }

-- a row of procedures that passes, by the reading of the shorter row behind the first
row_of_procedures : (i : ℕ) (p : List ℕ) → ((j : ℕ) (q : List ℕ) → length q < length p → Bytes q → check_rows procedure 17 j q ≡ fine → ReadsR q)
    → Bytes p → Dec (length p ≡ 0) → check_rows procedure 17 i p ≡ fine → ReadsR p
unfolding encode
row_of_procedures i p ih b (yes z) e = record { recipe = []; spelt = nil_of_length p z; bodies = tt }
row_of_procedures i p ih b (no s) e =
    let c = row_fine procedure 16 i p s e in
    reads-procedure i p b c.own c.first_fine (ih (i + 1 + span_of p) (after p) (omega (arith, length-after p, some_record c.own)) (bytes_after p b) c.rest-fine)

-- the procedures of a table, n bounding its bytes
pub reads_r : (n i : ℕ) (p : List ℕ) → length p ≤ n → Bytes p → check_rows procedure 17 i p ≡ fine → ReadsR p
reads_r zero i p l b e = row_of_procedures i p (λ j q h. absurd (omega arith)) b (ℕ_discrete (length p) 0) e
reads_r (suc n) i p l b e = row_of_procedures i p (λ j q h. reads_r n j q (omega arith)) b (ℕ_discrete (length p) 0) e
