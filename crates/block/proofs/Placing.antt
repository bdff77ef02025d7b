-- Whether an index of an accepted table is a place, by the kind of the record that starts there.
-- Assumes nothing.
use Prim.Native.Nat.{ℕ, zero, suc, ◌*◌, ◌≤◌, ◌<◌}
use mathlib.Core.Path.{◌≡◌, refl, sym, ap, ◌∙◌}
use mathlib.Core.Bool.{Bool, true, false, not, ◌||◌, true≢false}
use mathlib.Core.List.{List}
use mathlib.Core.Logic.{dite}
use native.Mathlib.Decide.{dec_lt}
use native.Mathlib.Omega.{arith}
use lib.Dec.{eqb}
use lib.ListN.{length, get_or, get_or-eq_default}
use borrow.Author.Tests.{eq-eqb, ne_eqb, le-leb}
use Rattle.std.specs.Prelude.{Option, None, Some}
use Rattle.rules.specs.Table.{records, is_of, fine, check, recipe_of}
use Rattle.rules.specs.Places.{is_place, stands}
use Rattle.rules.specs.Demand.{Bytes}
use Rattle.rules.specs.Standing.{at_place}
use Rattle.rules.proofs.Standing.{kind_at, size, at_start, at_past, stands_at, is-place}
use Rattle.table.specs.declared.record.Kind.{Kind}
use Rattle.table.specs.declared.check.Sort.{Sort}
use Rattle.table.specs.declared.check.Sort.TheVariants as S
use Rattle.table.specs.Kinds.{number_of, kind_named, kind_there}
use Rattle.table.specs.Check.{sort_of}
use Rattle.table.specs.contracts.check.Sort.{the_type}
use Rattle.table.proofs.Numbered.{every, at_each, number-named, due-kind}
use denote.Enum.Bare.{sameb}

-- a kind is that of a place where its sort is not that of expressions
abbrev same : Bool → Bool → Bool
same true b = b
same false b = not b

same_is : (a b : Bool) → same a b ≡ true → a ≡ b
same_is true true h = refl
same_is true false h = absurd (true≢false (sym h))
same_is false true h = absurd (true≢false (sym h))
same_is false false h = refl

abbrev agrees : Sort → ℕ → Bool
agrees s k = not (is_of (sort_of s) k) || same (not (sameb the_type s S.Expression)) (at_place k)

each : (s : Sort) → every (agrees s) 14 ≡ true
each S.Procedure = refl
each S.Statement = refl
each S.Expression = refl

pub by_sort : (s : Sort) (k : ℕ) → is_of (sort_of s) k ≡ true → not (sameb the_type s S.Expression) ≡ at_place k
by_sort s k h =
    same_is (not (sameb the_type s S.Expression)) (at_place k)
    (sym (rw h at (sym (at_each (agrees s) 14 (each s) k (due-kind (sort_of s) k h)))))

-- every number of the table of kinds names one
abbrev is_some : Option Kind → Bool
is_some None = false
is_some (Some k) = true

named-kind : (n : ℕ) → 1 ≤ n → n ≤ 13 → kind_named n ≡ None → ⊥
named-kind zero h l e = omega arith
named-kind (suc n) h l e = true≢false (sym (at_each (λ m. is_some (kind_named (suc m))) 13 refl n (omega arith)) ∙ ap is_some e)

module _ (t : List ℕ) (bytes : Bytes t) (fits : check t ≡ fine) (i : ℕ) where
  pub place_zero : i ≡ 0 → false ≡ is_place (recipe_of t) i
  place_zero e = rw e (sym (ap stands (at_start t bytes fits)))

  -- a record starts there
  within : (k : Kind) → kind_there t (8 * i) ≡ Some k → 8 * i < length t
  within k e =
      dite (dec_lt (8 * i) (length t))
      (λ l. l)
      (λ g. absurd (let z : ◌≡◌ {A = Option Kind} None (Some k) = sym (ap kind_named (get_or-eq_default t 0 {n = 8 * i} (omega arith))) ∙ e in let f : false ≡ true = ap is_some z in true≢false (sym f)))

  pub place_there : (k : Kind) → kind_there t (8 * i) ≡ Some k → ¬ (i ≡ 0) → at_place (number_of k) ≡ is_place (recipe_of t) i
  place_there k e h =
      let l = within k e in
      let s = size t bytes fits in
      let n : get_or t (8 * i) 0 ≡ number_of k = number-named (get_or t (8 * i) 0) k e in
      rw (
        is-place t bytes fits i,
        le-leb 1 i (omega arith),
        le-leb i (records t) (omega arith),
        ne_eqb i (records t) (omega arith),
        kind_at t (8 * i),
        n,
      )

  pub place_behind : kind_there t (8 * i) ≡ None → ¬ (i ≡ 0) → eqb (8 * i) (length t) ≡ is_place (recipe_of t) i
  place_behind e h =
      let s = size t bytes fits in
      dite (dec_lt i (records t))
      (λ l. absurd (let w = stands_at t bytes fits i (omega arith) l in let k = kind_at t (8 * i) in named-kind (get_or t (8 * i) 0) (rw k at w.some_kind) (rw k at w.a_kind) e))
      (λ g.
      dite (dec_lt (records t) i)
      (λ l. rw (ne_eqb (8 * i) (length t) (omega arith), at_past t bytes fits i l))
      (λ m.
      rw (is-place t bytes fits i, le-leb 1 i (omega arith), le-leb i (records t) (omega arith), eq-eqb i (records t) (omega arith), eq-eqb (8 * i) (length t) (omega arith))))
