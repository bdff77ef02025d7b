-- Request 2.4 of document 02: what the tool says, for every table, block and output; and a state that a call left with "stuck" has a chain.
-- Assumes nothing.
use Prim.Native.Nat.{ℕ, zero, suc, ◌+◌, ◌*◌, ◌≤◌, ◌<◌}
use mathlib.Core.Path.{◌≡◌, refl, sym, ap, ◌∙◌, subst, subst⁻¹}
use mathlib.Core.Logic.{⊎_elim, ◌↔◌}
use mathlib.Core.Bool.{Bool, true, false, cond, true≢false, false≢true}
use mathlib.Core.Option.{Option, none, some, some-injective}
use mathlib.Core.List.{List, [], ◌∷◌, ◌++◌}
use native.Mathlib.Omega.{arith}
use native.Mathlib.Numerals.{add-one}
use lib.Dec.{eqb}
use lib.ListN.{length, get_or, drop, length-append, length-drop}
use lib.Seq.{drop_at}
use borrow.Author.Tests.{eq-eqb, eqb-true}
use Rattle.rules.specs.Fields.{half, bytes2}
use Rattle.rules.specs.Recipe.{Recipe}
use Rattle.rules.specs.Table.{fine, check, recipe_of}
use Rattle.rules.specs.State.{State, tab, read_block, write_block}
use Rattle.rules.specs.Scheduler.{stuck, number_of, run, last}
use Rattle.rules.specs.Steps.{recipes}
use Rattle.rules.specs.Run.{Opened, refuses, opens, open_on, outcome, room_of, run_with, run_on}
use Rattle.rules.specs.Answers as A
use Rattle.rules.specs.Answers.{Refused, Accepted}
use Rattle.rules.specs.Fairness.{Stuck}
use Rattle.rules.specs.Demand.{Bytes}
use Rattle.rules.specs.Why.{end_number, Chain, chain_of, Explained, unexplained, halves, explained, why_with, why_on, IsChain, numbers_in, Tells, Explainable, WhySays, LeftStuck}
use Rattle.rules.proofs.Answers.{opened_number}
use Rattle.rules.proofs.Lists.{tab-is}
use Rattle.rules.proofs.Fit.{Fit}
use Rattle.rules.proofs.Blocks.{fit_read}
use Rattle.rules.proofs.Says.{which_opens, refusal_said}
use Rattle.rules.proofs.Demand.{open_fits, opens-again}
use Rattle.rules.proofs.Steps.{run_fits}
use Rattle.rules.proofs.Scheduling.Bound.{jam-stuck}
use Rattle.rules.proofs.Scheduling.Endings.{by_number}
use Chains.{stuck-chain, chain-stuck, only-chain, chain_fits}
pub mod Named
pub mod Holders
pub mod Chains

-- ---- the bytes of a chain

pub halves-length : (ns : List ℕ) → length (halves ns) ≡ 2 * length ns
unfolding halves
halves-length [] = refl
halves-length (n ∷ ns) = omega (arith, halves-length ns)

-- number i of those written
half_of : (ns l : List ℕ) (i : ℕ) → i < length ns → half (halves ns ++ l) (2 * i) ≡ get_or ns i 0
unfolding halves
half_of [] l i h = absurd (omega arith)
half_of (n ∷ ns) l zero h = omega arith
half_of (n ∷ ns) l (suc i) h = let e : 2 * suc i ≡ suc (suc (2 * i)) = omega arith in rw (e, add-one) (rw add-one at (half_of ns l i (omega arith)))

-- they are read as they were written
read_again : (ns l : List ℕ) → numbers_in (length ns) (halves ns ++ l) ≡ ns
read_again ns l = tab-is (λ i. half (halves ns ++ l) (2 * i)) ns 0 (length ns) refl (λ i h. half_of ns l i h)

-- ---- what the tool says

-- number and place of a refusal are told alike by every tool that opens table and block
refused_so : (t b l : List ℕ) (n i : ℕ) → Refused t b n i ↔ ((A.refuses n ≡ true) × ((why_on t b l).number ≡ n) × ((why_on t b l).place ≡ i))
unfolding why_on
refused_so t b l = refusal_said (λ o. (why_with o l).number) (λ o. (why_with o l).place) (λ m j. refl) (λ m j. refl) (λ r c. by (eqb (length l) 66) (chain_of (recipes r) c)) t b
  where
    by : (x : Bool) (o : Option Chain) → A.refuses (cond x (explained o l) (unexplained 25 0 l)).number ≡ false
    by true none = refl
    by true (some y) = refl
    by false o = refl

-- what holds of an answer by which of the three it is
module _ (t b l : List ℕ) where
  abbrev Told : Explained → Type 0
  Told o = (n i : ℕ) → Refused t b n i ↔ ((A.refuses n ≡ true) × (o.number ≡ n) × (o.place ≡ i))

  -- a number that is none of the refusals
  other-number : (n m : ℕ) → A.refuses n ≡ true → A.refuses m ≡ false → ¬ (n ≡ m)
  other-number n m h g e = true≢false (sym h ∙ ap A.refuses e ∙ g)

  says-refused : (n i : ℕ) → A.refuses n ≡ true → ¬ Accepted t b → Told (unexplained n i l) → WhySays t b l (unexplained n i l)
  says-refused n i h g told = record {
    listed = rw h refl;
    refused = told;
    not_stuck = (λ e. absurd (other-number n 25 h refl e), λ x. absurd (g x.0));
    accepted = (λ e. absurd (other-number n 0 h refl e), λ x. absurd (g x.0));
    no_place = λ x. absurd (g x);
    refusal_keeps = λ e. (refl, refl, refl);
    fits = omega arith;
    rest_kept = refl;
    same_length = refl;
    is_chain = λ e. absurd (other-number n 0 h refl e);
    no_other = λ e. absurd (other-number n 0 h refl e);
  }

  module _ (a : Accepted t b) where
    says_25 : ¬ Explainable t b l → Told (unexplained 25 0 l) → WhySays t b l (unexplained 25 0 l)
    says_25 h told = record {
      listed = refl;
      refused = told;
      not_stuck = (λ e. (a, h), λ x. refl);
      accepted = (λ e. absurd (omega arith), λ x. absurd (h x.1));
      no_place = λ x. refl;
      refusal_keeps = λ e. (refl, refl, refl);
      fits = omega arith;
      rest_kept = refl;
      same_length = refl;
      is_chain = λ e. absurd (omega arith);
      no_other = λ e. absurd (omega arith);
    }

    says-chain : (x : Chain) → IsChain (recipe_of t) (read_block b) x → ((y : Chain) → IsChain (recipe_of t) (read_block b) y → x ≡ y) → length x.numbers ≤ 33 → Explainable t b l
        → Told (explained (some x) l) → WhySays t b l (explained (some x) l)
    says-chain x i only few h told =
        let n = length x.numbers in
        let tells : Tells (explained (some x) l) x = (read_again x.numbers (drop (2 * n) l), refl) in
        record {
          listed = refl;
          refused = told;
          not_stuck = (λ e. absurd (omega arith), λ y. absurd (y.1 h));
          accepted = (λ e. (a, h), λ y. refl);
          no_place = λ y. refl;
          refusal_keeps = λ e. absurd (e refl);
          fits = omega (arith, h.1);
          rest_kept = drop_at (halves x.numbers) (drop (2 * n) l) (2 * n) (halves-length x.numbers);
          same_length = omega (arith, length-append (halves x.numbers) (drop (2 * n) l), halves-length x.numbers, length-drop (2 * n) l, h.1);
          is_chain = λ e. (x, i, tells);
          no_other = λ e y j. subst (Tells (explained (some x) l)) (only y j) tells;
        }

    -- by the output's length and the state
    says_open : Fit (recipe_of t) (read_block b) → (x : Bool) (o : Option Chain) → eqb (length l) 66 ≡ x → chain_of (recipes (recipe_of t)) (read_block b) ≡ o
        → Told (cond x (explained o l) (unexplained 25 0 l)) → WhySays t b l (cond x (explained o l) (unexplained 25 0 l))
    says_open f false o e h told = says_25 (λ z. false≢true (sym e ∙ eq-eqb (length l) 66 z.1)) told
    says_open f true none e h told =
        says_25 (λ z. let y = stuck-chain (recipe_of t) (read_block b) f z.0 in let k = sym h ∙ y.1 in let w : ◌≡◌ {A = ℕ} 0 1 = cc in omega arith) told
    says_open f true (some x) e h told =
        let r = recipe_of t in
        let c = read_block b in
        let s = chain-stuck r c f x h in
        let y = stuck-chain r c f s in
        let same : y.0 ≡ x = some-injective _ _ (sym y.1 ∙ h) in
        let i = subst (IsChain r c) same y.2 in
        says-chain x i (λ z j. some-injective _ _ (sym h ∙ only-chain r c f s z j)) (chain_fits r c f s.idle x i) (s, eqb-true (length l) 66 e) told

pub why-says : (t b l : List ℕ) → Bytes b → WhySays t b l (why_on t b l)
why-says t b l bb = ⊎_elim (λ x. not_open x.0 x.1 x.2 x.3) (λ x. is_open x.0 x.1) (which_opens t b)
  where
    is : (o : Opened) → open_on t b ≡ o → why_on t b l ≡ why_with o l
    is o e = unfold why_on in ap (λ (o : Opened). why_with o l) e

    not_open : (n i : ℕ) → open_on t b ≡ refuses n i → ¬ Accepted t b → WhySays t b l (why_on t b l)
    not_open n i e g = subst⁻¹ (WhySays t b l) (is (refuses n i) e) (says-refused t b l n i (opened_number t b n i e) g (subst (Told t b l) (is (refuses n i) e) (refused_so t b l)))

    is_open : (a : Accepted t b) → open_on t b ≡ opens (recipe_of t) (read_block b) → WhySays t b l (why_on t b l)
    is_open a e =
        let q = is (opens (recipe_of t) (read_block b)) e in
        subst⁻¹ (WhySays t b l) q (says_open t b l a (fit_read (recipe_of t) b bb a.1) (eqb (length l) 66) (chain_of (recipes (recipe_of t)) (read_block b)) refl refl (subst (Told t b l) q (refused_so t b l)))

-- ---- a state that a call left with "stuck"

pub left-stuck : (t b : List ℕ) → Bytes t → Bytes b → LeftStuck t b
unfolding run_on outcome number_of why_on
left-stuck t b bt bb n l output h k = go (open_on t b) refl h
  where
    go : (o : Opened) → open_on t b ≡ o → (run_with o b n l).number ≡ 2 → (why_with (open_on t (run_with o b n l).block) output).number ≡ 0
    go (refuses m i) e h = absurd (false≢true (ap A.refuses (sym h) ∙ opened_number t b m i e))
    go (opens r c) e h =
        let o = open_fits t b r c bt bb e in
        let d = last (recipes r) (run (recipes r) n (room_of l) c) in
        let fit = run_fits r o.within n (room_of l) c o.fit in
        let x = stuck-chain r d fit (jam-stuck (recipes r) d ((by_number (recipes r) n (room_of l) c stuck).0 h)) in
        rw (opens-again t r d o.passes o.recipe fit, k, x.1) refl
