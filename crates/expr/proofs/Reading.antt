-- What a part that starts with an expression holds, by its first record's kind: the laws that a reader of it goes by.
-- Assumes nothing.
use Prim.Native.Nat.{ℕ, ◌+◌, ◌*◌, ◌≤◌, ◌<◌}
use mathlib.Core.Path.{◌≡◌, refl, sym, ap, ap₂, ◌∙◌, subst⁻¹}
use mathlib.Core.Logic.{dite}
use mathlib.Core.Option.{Option, none, some}
use mathlib.Core.List.{List, [], ◌++◌, append-nil}
use native.Mathlib.Decide.{ℕ_discrete}
use native.Mathlib.Omega.{arith}
use lib.IntN.{ℤ}
use lib.ListN.{length, length-append}
use Rattle.rules.specs.Fields.{word, signed}
use Rattle.rules.specs.Values.{apply1, apply2, of_both, of_one}
use Rattle.rules.specs.Recipe.{Expr, constant, variable, two, one, encode_e, NamedE, Env, read, value}
use Rattle.rules.specs.Table.{kind_of, name_of, span_of, value_of, inner, after, expr_of}
use Rattle.rules.proofs.Grammar.Rows.{span-encode_e, value_row, length-encode_e, parts_two, parts_one, after-encode_e}
use Rattle.rules.proofs.Grammar.Reading.{expr_of_lem}
use Rattle.rules.proofs.Grammar.Checking.{length-after, inner_le}
use Rattle.expr.specs.Spelt.{Spelt}

-- what holds of every expression's bytes, whatever follows them, holds of a part that starts with one
by_spelling : (P : List ℕ → Type 0) → ((e : Expr) (r : List ℕ) → NamedE e → P (encode_e e ++ r)) → {p : List ℕ} → Spelt p → P p
by_spelling P f s = subst⁻¹ P s.spelt (f s.expr s.rest s.named)

-- ---- lengths

module _ {p : List ℕ} (s : Spelt p) where
  pub whole : 8 + 8 * span_of p ≤ length p
  whole = by_spelling (λ q. 8 + 8 * span_of q ≤ length q) (λ e r w. omega (arith, span-encode_e e r, length-append (encode_e e) r, length-encode_e e)) s

  pub inner_shorter : length (inner p) < length p
  inner_shorter = omega (arith, inner_le p, whole)

pub after_shorter : (p : List ℕ) → length (after p) ≤ length p
after_shorter p = omega (arith, length-after p)

-- ---- the expression

-- neither a constant nor a variable
abbrev pub Operator : List ℕ → Type 0
Operator p = 11 ≤ kind_of p

pub record Holds (p : List ℕ) : Type 0 where
  pub no_leaf : ¬ (kind_of p ≡ 9) → ¬ (kind_of p ≡ 10) → Operator p
  pub constant-is : kind_of p ≡ 9 → expr_of p ≡ constant (value_of p)
  pub variable-named : kind_of p ≡ 10 → name_of p ≤ 64
  pub variable-is : kind_of p ≡ 10 → expr_of p ≡ variable (name_of p)
  pub first : Operator p → Spelt (inner p)
  pub one-is : kind_of p ≡ 12 → expr_of p ≡ one (name_of p) (expr_of (inner p))
  pub second : Operator p → ¬ (kind_of p ≡ 12) → Spelt (after (inner p))
  pub two_is : Operator p → ¬ (kind_of p ≡ 12) → expr_of p ≡ two (name_of p) (expr_of (inner p)) (expr_of (after (inner p)))

holds-encode : (e : Expr) (r : List ℕ) → NamedE e → Holds (encode_e e ++ r)
unfolding encode_e NamedE
holds-encode (constant z) r w =
    record {
      no_leaf = λ h g. absurd (h refl);
      constant-is = λ h. expr_of_lem (constant z) r w ∙ ap constant (sym (value_row 9 0 0 z r w));
      variable-named = λ h. absurd (omega arith);
      variable-is = λ h. absurd (omega arith);
      first = λ h. absurd (omega arith);
      one-is = λ h. absurd (omega arith);
      second = λ h g. absurd (omega arith);
      two_is = λ h g. absurd (omega arith);
    }
holds-encode (variable n) r w =
    record {
      no_leaf = λ h g. absurd (g refl);
      constant-is = λ h. absurd (omega arith);
      variable-named = λ h. w;
      variable-is = λ h. expr_of_lem (variable n) r w;
      first = λ h. absurd (omega arith);
      one-is = λ h. absurd (omega arith);
      second = λ h g. absurd (omega arith);
      two_is = λ h g. absurd (omega arith);
    }
holds-encode (two o a b) r w =
    let x = (parts_two o a b r).inner-is in
    let y = ap after x ∙ after-encode_e a (encode_e b) ∙ sym (append-nil (encode_e b)) in
    record {
      no_leaf = λ h g. omega arith;
      constant-is = λ h. absurd (omega arith);
      variable-named = λ h. absurd (omega arith);
      variable-is = λ h. absurd (omega arith);
      first = λ h. record { expr = a; rest = encode_e b; spelt = x; named = w.1 };
      one-is = λ h. absurd (omega arith);
      second = λ h g. record { expr = b; rest = []; spelt = y; named = w.2 };
      two_is = λ h g. expr_of_lem (two o a b) r w ∙ sym (ap₂ (two o) (ap expr_of x ∙ expr_of_lem a (encode_e b) w.1) (ap expr_of y ∙ expr_of_lem b [] w.2));
    }
holds-encode (one o a) r w =
    let x = (parts_one o a r).inner-is ∙ sym (append-nil (encode_e a)) in
    record {
      no_leaf = λ h g. omega arith;
      constant-is = λ h. absurd (omega arith);
      variable-named = λ h. absurd (omega arith);
      variable-is = λ h. absurd (omega arith);
      first = λ h. record { expr = a; rest = []; spelt = x; named = w.1 };
      one-is = λ h. expr_of_lem (one o a) r w ∙ sym (ap (one o) (ap expr_of x ∙ expr_of_lem a [] w.1));
      second = λ h g. absurd (g refl);
      two_is = λ h g. absurd (g refl);
    }

pub holds : {p : List ℕ} → Spelt p → Holds p
holds = by_spelling Holds holds-encode

-- ---- the value by the kind, from what a reader has worked out: x of the part q of the first operand, y of the second's

module _ (v : Env) {p : List ℕ} (s : Spelt p) where
  pub value-constant : {w : ℕ} → kind_of p ≡ 9 → w ≡ word p 4 → some (signed w) ≡ value v (expr_of p)
  unfolding value
  value-constant h e = rw (e, (holds s).constant-is h)

  pub value-variable : kind_of p ≡ 10 → some (read v (name_of p)) ≡ value v (expr_of p)
  unfolding value
  value-variable h = rw ((holds s).variable-is h)

  pub value-one : {q : List ℕ} {x : Option ℤ} → kind_of p ≡ 12 → q ≡ inner p → x ≡ value v (expr_of q) → of_one (apply1 (name_of p)) x ≡ value v (expr_of p)
  unfolding value
  value-one h e f = rw (f, e, (holds s).one-is h)

  pub value-two : {q r : List ℕ} {x y : Option ℤ} → Operator p → ¬ (kind_of p ≡ 12) → q ≡ inner p → r ≡ after q
      → x ≡ value v (expr_of q) → y ≡ value v (expr_of r) → of_both (apply2 (name_of p)) x y ≡ value v (expr_of p)
  unfolding value
  value-two h g e e' f f' = rw (f, f', e', e, (holds s).two_is h g)

  -- without the first operand's value there is none
  pub value_none : {q : List ℕ} → Operator p → q ≡ inner p → none ≡ value v (expr_of q) → none ≡ value v (expr_of p)
  value_none h e f = dite (ℕ_discrete (kind_of p) 12) (λ k. value-one k e f) (λ k. value-two h k e refl f refl)
