-- Of a queue that is given by index: what each task has, and which numbers are live and done.
-- Assumes nothing.
use Prim.Native.Nat.{ℕ, suc, ◌+◌, ◌≤◌, ◌<◌}
use mathlib.Core.Path.{◌≡◌, refl, sym, ap, ◌∙◌, subst}
use mathlib.Core.Bool.{Bool, true, false, not, ◌||◌, ◌&&◌, cond}
use mathlib.Core.List.{List, [], ◌∷◌}
use native.Mathlib.Omega.{arith}
use native.Mathlib.Nat.{zero-add}
use lib.Dec.{eqb, ltb, leb, leb-suc-suc}
use lib.IntN.{ℤ, pos, negsuc}
use lib.ListN.{length}
use borrow.Author.Tests.{ne_eqb, le-leb, lt-leb, lt-ltb}
use Rattle.std.specs.Prelude.{Option, None, Some, is_some}
use Rattle.rules.specs.Recipe.{Recipe}
use Rattle.rules.specs.State.{Task, tab}
use Rattle.rules.specs.Scheduler.{is, count, is_live}
use Rattle.rules.specs.Steps.{is_done, recipes}
use Rattle.rules.specs.Fairness.{Every}
use Rattle.rules.proofs.Lists.{every-get_or, length-tab, get_or-tab}
use Rattle.state.specs.View.{ahead, position}
use Rattle.ready.specs.Ready.{natural}

pub every_at : {A : Type 0} (P : A → Type 0) (f : ℕ → A) (n : ℕ) → Every P (tab n f) → (i : ℕ) → i < n → P (f i)
every_at P f n h i l =
    subst P (get_or-tab f n i (f i) l)
    (every-get_or P (f i) (tab n f) h i (λ g. absurd (omega (arith, length-tab f n))))

-- ---- numbers

module _ (x : Recipe) (n : ℕ) where
  live-position : (q : List (Task ℕ)) → is_live (recipes x) q n ≡ is_some (position n q)
  live-position q = count-ahead q ∙ some-first _ _
    where
      some-first : (b : Bool) (k : ℕ) → b ≡ is_some (cond b (Some k) None)
      some-first true k = refl
      some-first false k = refl

      count-ahead : (q : List (Task ℕ)) → is_live (recipes x) q n ≡ ltb (ahead (λ t. eqb n t.number) q) (length q)
      count-ahead [] = refl
      count-ahead (t ∷ q) = one (eqb n t.number) (count (recipes x) n q) (ahead (λ t. eqb n t.number) q) (length q) (count-ahead q)
        where
          one : (b : Bool) (c a l : ℕ) → ltb 0 c ≡ ltb a l → ltb 0 (is b + c) ≡ ltb (cond b 0 (suc a)) (suc l)
          one true c a l e = lt-ltb 0 (1 + c) (omega arith) ∙ sym (lt-ltb 0 (suc l) (omega arith))
          one false c a l e = rw zero-add (e ∙ sym (leb-suc-suc (suc a) l))

  -- where the number is found, and where it is not
  pub not-live : (q : List (Task ℕ)) (o : Option ℕ) (r : Bool) → o ≡ position n q → is_some o ≡ not r → not (is_live (recipes x) q n) ≡ r
  not-live q o r e h = ap not (live-position q ∙ ap is_some (sym e) ∙ h) ∙ twice r
    where
      twice : (b : Bool) → not (not b) ≡ b
      twice true = refl
      twice false = refl

pub negative_done : (issued : ℕ) (live : ℕ → Bool) (z : ℤ) → natural z ≡ None → false ≡ is_done issued live z
unfolding is_done
negative_done issued live (pos n) h = let z : ◌≡◌ {A = ℕ} 0 1 = cc in absurd (omega arith)
negative_done issued live (negsuc n) h = refl

-- whether a value is done, by the number n that it is: 0, or one that has been issued and is not live
module _ (issued : ℕ) (live : ℕ → Bool) (z : ℤ) (n : ℕ) (is-n : natural z ≡ Some n) where
  done_is : is_done issued live z ≡ (eqb n 0 || (leb n issued && not (live n)))
  unfolding is_done
  done_is = by z is-n
    where
      by : (z : ℤ) → natural z ≡ Some n → is_done issued live z ≡ (eqb n 0 || (leb n issued && not (live n)))
      by (pos m) h = let e : m ≡ n = cc in rw e refl
      by (negsuc m) h = let z : ◌≡◌ {A = ℕ} 0 1 = cc in absurd (omega arith)

  pub zero_done : n ≡ 0 → true ≡ is_done issued live z
  zero_done h = sym (done_is ∙ rw h refl)

  module _ (h : ¬ (n ≡ 0)) where
    done_issued : is_done issued live z ≡ (leb n issued && not (live n))
    done_issued = done_is ∙ rw (ne_eqb n 0 h) refl

    pub not-issued : issued < n → false ≡ is_done issued live z
    not-issued l = sym (done_issued ∙ rw (lt-leb n issued l) refl)

    pub issued_done : n ≤ issued → not (live n) ≡ is_done issued live z
    issued_done l = sym (done_issued ∙ rw (le-leb n issued l) refl)
