-- What holds a task that waits for a number: the queued task of that number, by its index.
-- Assumes nothing.
use Prim.Native.Nat.{ℕ, suc, ◌≤◌, ◌<◌}
use mathlib.Core.Path.{◌≡◌, refl, sym, ap, ◌∙◌, fun_ext, subst⁻¹}
use mathlib.Core.Bool.{Bool, true, false, cond}
use mathlib.Core.Option.{none, some}
use mathlib.Core.List.{List, [], ◌∷◌}
use native.Mathlib.Omega.{arith}
use lib.Dec.{ltb}
use lib.IntN.{ℤ}
use lib.ListN.{length, get_or}
use borrow.Author.Tests.{ltb-true, ltb-false, le-ltb}
use Rattle.std.specs.Prelude.{Option, None, Some, Ok, Err}
use Rattle.std.specs.Option.{ok_or}
use Rattle.rules.specs.Recipe.{Recipe}
use Rattle.rules.specs.State.{Task}
use Rattle.rules.specs.Scheduler.{waits_for}
use Rattle.rules.specs.Steps.{recipes}
use Rattle.rules.specs.Why.{is_number, holder, go_on}
use Rattle.rules.proofs.Lists.{length-tab, get_or-tab}
use Rattle.state.specs.declared.Queue.{Queue}
use Rattle.state.specs.View.{entry, queue_of, ahead, first, position}
use Rattle.ready.specs.Ready.{natural}
use Rattle.why.specs.declared.follow.End.TheVariants as E
use Rattle.why.specs.Follow.{of_number, index_in, Holds}
use Rattle.why.proofs.Naming.{no_number, number_is}

module _ (r : Recipe) (z : ℤ) where
  abbrev before : List (Task ℕ) → ℕ
  before q = ahead (of_number z) q

  holder_at : (q : List (Task ℕ)) (d : Task ℕ) → before q < length q → holder (recipes r) z q ≡ some (get_or q (before q) d)
  holder_at [] d h = absurd (omega arith)
  holder_at (t ∷ q) d h = go (is_number z t.number) h (λ g. holder_at q d g)
    where
      go : (b : Bool) → cond b 0 (suc (before q)) < suc (length q) → (before q < length q → holder (recipes r) z q ≡ some (get_or q (before q) d))
          → cond b (some t) (holder (recipes r) z q) ≡ some (get_or (t ∷ q) (cond b 0 (suc (before q))) d)
      go true h ih = refl
      go false h ih = ih (omega arith)

  holder_none : (q : List (Task ℕ)) → length q ≤ before q → holder (recipes r) z q ≡ none
  holder_none [] h = refl
  holder_none (t ∷ q) h = go (is_number z t.number) h (λ g. holder_none q g)
    where
      go : (b : Bool) → suc (length q) ≤ cond b 0 (suc (before q)) → (length q ≤ before q → holder (recipes r) z q ≡ none) → cond b (some t) (holder (recipes r) z q) ≡ none
      go true h ih = absurd (omega arith)
      go false h ih = ih (omega arith)

-- the number that a value is, is looked for; a value that is none is no task's number
first_same : {T : Type 0} (p p' : T → Bool) → ((t : T) → p t ≡ p' t) → (q : List T) → first p q ≡ first p' q
first_same p p' e q = ap (λ f. first f q) (fun_ext e)

pub index-number : (z : ℤ) (n : ℕ) (q : List (Task ℕ)) → natural z ≡ Some n → position n q ≡ index_in z q
index-number z n q h = first_same _ _ (λ t. sym (number_is z n t.number h)) q

pub index_none : (z : ℤ) (q : List (Task ℕ)) → natural z ≡ None → None ≡ index_in z q
index_none z q h = none_first q ∙ first_same _ _ (λ t. sym (no_number z t.number h)) q
  where
    none_first : (q : List (Task ℕ)) → None ≡ first (λ t. false) q
    none_first q = rw (all q, le-ltb (length q) (length q) (omega arith)) refl
      where
        all : (q : List (Task ℕ)) → ahead (λ t. false) q ≡ length q
        all [] = refl
        all (t ∷ q) = ap suc (all q)

module _ (q : Queue) (z : ℤ) where
  -- where the index is known, what holds a task
  held_at : (i : ℕ) → ahead (of_number z) (queue_of q) ≡ i → i < q.len → Holds q (waits_for z) (Ok i)
  unfolding queue_of
  held_at i e h =
      record {
        within = h;
        goes_on_holds = λ r further c ns s.
            let f = entry q in
            let at = holder_at r z (queue_of q) (f i) (omega (arith, length-tab f q.len)) in
            let is = ap (λ (k : ℕ). get_or (queue_of q) k (f i)) e ∙ get_or-tab f q.len i (f i) h in
            ap (λ (q : List (Task ℕ)). go_on (recipes r) further ns (holder (recipes r) z q)) s ∙ ap (go_on (recipes r) further ns) (at ∙ ap some is);
      }

  held_never : q.len ≤ ahead (of_number z) (queue_of q) → Holds q (waits_for z) (Err E.NeverIssued)
  unfolding queue_of
  held_never h =
      record {
        within = tt;
        goes_on_holds = λ r further c ns s.
            ap (λ (q : List (Task ℕ)). go_on (recipes r) further ns (holder (recipes r) z q)) s
            ∙ ap (go_on (recipes r) further ns) (holder_none r z (queue_of q) (omega (arith, length-tab (entry q) q.len)));
      }

  -- and where it is, if it is anywhere
  pub held_by_index : (o : Option ℕ) → o ≡ index_in z (queue_of q) → Holds q (waits_for z) (ok_or o E.NeverIssued)
  unfolding queue_of
  held_by_index o e = go (ltb (ahead (of_number z) (queue_of q)) (length (queue_of q))) refl e
    where
      go : (b : Bool) → ltb (ahead (of_number z) (queue_of q)) (length (queue_of q)) ≡ b → o ≡ cond b (Some (ahead (of_number z) (queue_of q))) None
          → Holds q (waits_for z) (ok_or o E.NeverIssued)
      go true l f =
          let h = ltb-true _ _ l in
          subst⁻¹ (λ (o : Option ℕ). Holds q (waits_for z) (ok_or o E.NeverIssued)) f (held_at _ refl (omega (arith, length-tab (entry q) q.len)))
      go false l f =
          let h = ltb-false _ _ l in
          subst⁻¹ (λ (o : Option ℕ). Holds q (waits_for z) (ok_or o E.NeverIssued)) f (held_never (omega (arith, length-tab (entry q) q.len)))
