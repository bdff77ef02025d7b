-- The first of a list of which something holds, where the list is given by index.
-- Assumes nothing.
use Prim.Native.Nat.{ℕ, zero, suc, ◌+◌, ◌<◌}
use mathlib.Core.Path.{◌≡◌, refl, sym, ap, ◌∙◌}
use mathlib.Core.Bool.{Bool, true, false, cond}
use mathlib.Core.List.{List, [], ◌∷◌, ◌++◌}
use mathlib.Core.Logic.{⊎_elim}
use native.Mathlib.Nat.{eq-or-lt_of_le}
use native.Mathlib.Omega.{arith}
use lib.ListN.{length}
use borrow.Author.Tests.{lt-ltb, le-ltb}
use Rattle.std.specs.Prelude.{None, Some}
use Rattle.rules.specs.State.{tab}
use Rattle.rules.proofs.Lists.{length-tab}
use Rattle.state.specs.View.{ahead, first}

past_one : (b : Bool) (x y n u : ℕ) → (x ≡ n → y ≡ n + u) → cond b 0 (suc x) ≡ suc n → cond b 0 (suc y) ≡ suc n + u
past_one true x y n u f h = absurd (omega arith)
past_one false x y n u f h = omega (arith, f (omega arith))

in_one : (b : Bool) (x y n : ℕ) → (x < n → y ≡ x) → cond b 0 (suc x) < suc n → cond b 0 (suc y) ≡ cond b 0 (suc x)
in_one true x y n f h = refl
in_one false x y n f h = ap suc (f (omega arith))

module _ {T : Type 0} (go : T → Bool) where
  ahead_past : (ts us : List T) → ahead go ts ≡ length ts → ahead go (ts ++ us) ≡ length ts + ahead go us
  ahead_past [] us h = omega arith
  ahead_past (t ∷ ts) us h =
      past_one (go t) (ahead go ts) (ahead go (ts ++ us)) (length ts) (ahead go us) (ahead_past ts us) h

  ahead_in : (ts us : List T) → ahead go ts < length ts → ahead go (ts ++ us) ≡ ahead go ts
  ahead_in [] us h = absurd (omega arith)
  ahead_in (t ∷ ts) us h = in_one (go t) (ahead go ts) (ahead go (ts ++ us)) (length ts) (ahead_in ts us) h

  module _ (f : ℕ → T) where
    ahead_all : (n : ℕ) → ((j : ℕ) → j < n → go (f j) ≡ false) → ahead go (tab n f) ≡ n
    unfolding tab
    ahead_all zero h = refl
    ahead_all (suc n) h =
        let e = ahead_all n (λ j l. h j (omega arith)) in
        ahead_past (tab n f) (f n ∷ []) (e ∙ sym (length-tab f n)) ∙ rw (h n (omega arith)) (omega (arith, length-tab f n))

    ahead_at : (n i : ℕ) → i < n → ((j : ℕ) → j < i → go (f j) ≡ false) → go (f i) ≡ true → ahead go (tab n f) ≡ i
    unfolding tab
    ahead_at zero i l h g = absurd (omega arith)
    ahead_at (suc n) i l h g =
        ⊎_elim
        (λ e.
        let here : go (f n) ≡ true = ap (λ (j : ℕ). go (f j)) (sym e) ∙ g in
        ahead_past (tab n f) (f n ∷ []) (ahead_all n (λ j m. h j (omega arith)) ∙ sym (length-tab f n)) ∙ rw here (omega (arith, length-tab f n)))
        (λ m. let e = ahead_at n i m h g in ahead_in (tab n f) (f n ∷ []) (omega (arith, length-tab f n)) ∙ e)
        (eq-or-lt_of_le {n = i} {m = n} (omega arith))

    pub first_none : (n : ℕ) → ((j : ℕ) → j < n → go (f j) ≡ false) → None ≡ first go (tab n f)
    first_none n h = rw (ahead_all n h, length-tab f n, le-ltb n n (omega arith)) refl

    pub first_at : (n i : ℕ) → i < n → ((j : ℕ) → j < i → go (f j) ≡ false) → go (f i) ≡ true → Some i ≡ first go (tab n f)
    first_at n i l h g = rw (ahead_at n i l h g, length-tab f n, lt-ltb i n l) refl
