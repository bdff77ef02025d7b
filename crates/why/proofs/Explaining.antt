-- What the tool answers, by what is found.
-- Assumes nothing.
use Prim.Native.Nat.{ℕ, ◌*◌}
use mathlib.Core.Path.{◌≡◌, refl, ap, ◌∙◌, subst, subst⁻¹}
use mathlib.Core.Option.{Option, none, some}
use mathlib.Core.List.{List, ◌++◌}
use lib.ListN.{length, take, drop}
use borrow.Author.Tests.{eq-eqb, ne_eqb}
use Rattle.rules.specs.Recipe.{Recipe}
use Rattle.rules.specs.Table.{fault, ◌else◌, check, recipe_of}
use Rattle.rules.specs.Places.{is_place}
use Rattle.rules.specs.State.{State, check_block, read_block}
use Rattle.rules.specs.Steps.{recipes}
use Rattle.rules.specs.Run.{opens, open_on}
use Rattle.rules.specs.Answers.{Accepted}
use Rattle.rules.specs.Fairness.{Stuck}
use Rattle.rules.specs.Demand.{Bytes}
use Rattle.rules.specs.Why as W
use Rattle.rules.specs.Why.{end_number, chain_of, unexplained, halves, explained, why_with, why_on, WhySays}
use Rattle.rules.proofs.Fit.{Fit}
use Rattle.rules.proofs.Why.{why-says, left-stuck}
use Rattle.rules.proofs.Why.Chains.{chain-stuck}
use Rattle.why.specs.declared.Explained.{Explained}
use Rattle.why.specs.declared.follow.Chain.{Chain}
use Rattle.why.specs.Follow.{end_of, chain_in}
use Rattle.why.specs.Explained.{explained_of, AfterStuck}

-- ---- a table and a block that are accepted

module _ (r : Recipe) (c : State) (l : List ℕ) where
  pub wrong_length : ¬ (length l ≡ 66) → unexplained 25 0 l ≡ why_with (opens r c) l
  wrong_length h = rw (ne_eqb (length l) 66 h) refl

  pub not_stuck : Fit r c → length l ≡ 66 → ¬ Stuck (recipes r) c → unexplained 25 0 l ≡ why_with (opens r c) l
  not_stuck f h g = rw (eq-eqb (length l) 66 h) (go (chain_of (recipes r) c) refl)
    where
      go : (o : Option W.Chain) → chain_of (recipes r) c ≡ o → unexplained 25 0 l ≡ explained o l
      go none e = refl
      go (some x) e = absurd (g (chain-stuck r c f x e))

  pub chain-told : (x : Chain) → length l ≡ 66 → chain_of (recipes r) c ≡ some (chain_in x)
      → (k : ℕ) → k ≡ length (take x.count x.numbers) → (n : ℕ) → n ≡ end_number (end_of x.end)
      → (o : List ℕ) → o ≡ halves (take x.count x.numbers) ++ drop (2 * length (take x.count x.numbers)) l
      → record { number = 0; count = k; end = n; place = 0; output = o } ≡ why_with (opens r c) l
  chain-told x h e k counted n is o written = rw (eq-eqb (length l) 66 h, e, counted, is, written) refl

-- ---- any table and any block

module _ (t b l : List ℕ) where
  pub why-refused : (k i : ℕ) → (check t else check_block (is_place (recipe_of t)) b) ≡ fault k i → unexplained k i l ≡ why_on t b l
  unfolding why_on open_on
  why-refused k i e = rw e refl

  pub why_opened : Accepted t b → why_with (opens (recipe_of t) (read_block b)) l ≡ why_on t b l
  unfolding why_on open_on
  why_opened a = rw (a.0, a.1) refl

  -- all that the tool promises follows from the equation
  pub promised : Bytes t → Bytes b → (r : Explained) (o : List ℕ) → explained_of r o ≡ why_on t b l
      → (explained_of r o ≡ why_on t b l) × (WhySays t b l (explained_of r o) × AfterStuck t b l r)
  promised bt bb r o is = (
    is,
    (
      subst⁻¹ (WhySays t b l) is (why-says t b l bb),
      λ before bytes budget log e left h.
          ap (λ (x : W.Explained). x.number) is ∙ subst (λ (y : List ℕ). (why_on t y l).number ≡ 0) left (left-stuck t before bt bytes budget log l e h),
    ),
  )
