-- One turn of the loop that follows a chain.
-- Assumes nothing.
use Prim.Native.Nat.{ℕ, zero, suc, ◌-◌, ◌≤◌}
use mathlib.Core.Path.{◌≡◌, refl, sym, ap, ◌∙◌}
use mathlib.Core.Bool.{true, false}
use mathlib.Core.Option.{Option, some}
use mathlib.Core.List.{List, [], ◌∷◌, ◌++◌}
use native.Mathlib.Omega.{arith}
use Rattle.std.specs.Prelude.{Result}
use Rattle.rules.specs.Recipe.{Recipe}
use Rattle.rules.specs.State.{Task, State}
use Rattle.rules.specs.Scheduler.{readiness}
use Rattle.rules.specs.Steps.{recipes}
use Rattle.rules.specs.Why.{named_earlier, Chain, chain, among, behind, follow}
use Rattle.rules.proofs.Why.Holders.{follow-named}
use Rattle.state.specs.declared.Queue.{Queue}
use Rattle.state.specs.View.{queue_of}
use Rattle.why.specs.declared.follow.End.{End}
use Rattle.why.specs.Follow.{goes_on, Holds}

module _ (r : Recipe) (c : State) (n queued : ℕ) (ns : List ℕ) (t : Task ℕ) (few : n ≤ queued) (y : Option Chain) (at : follow (recipes r) (suc queued - n) c ns t ≡ y) where
  abbrev named : List ℕ
  named = ns ++ t.number ∷ []

  one_more : follow (recipes r) (suc (queued - n)) c ns t ≡ y
  one_more = let e : suc (queued - n) ≡ suc queued - n = omega arith in ap (λ (k : ℕ). follow (recipes r) k c ns t) e ∙ at

  -- the task was named before
  pub closes : among t.number ns ≡ true → y ≡ chain named named_earlier
  closes h = sym one_more ∙ follow-named r (queued - n) c ns t h

  turn : among t.number ns ≡ false
      → follow (recipes r) (suc (queued - n)) c ns t ≡ behind (recipes r) (λ u. follow (recipes r) (queued - n) c named u) c named (readiness (recipes r) c t)
  unfolding follow
  turn new = rw new refl

  -- it was not: what holds it
  pub leads : (q : Queue) (h : Result ℕ End) → among t.number ns ≡ false → c.queue ≡ queue_of q → Holds q (readiness (recipes r) c t) h
      → y ≡ goes_on q (λ u. follow (recipes r) (queued - n) c named u) named h
  leads q h new is held = sym one_more ∙ turn new ∙ held.goes_on_holds r (λ u. follow (recipes r) (queued - n) c named u) c named is

-- where the chain is not at its end, there is more to come
pub more_left : (r : Recipe) (c : State) (n queued : ℕ) (ns : List ℕ) (t : Task ℕ) (x : Chain) → n ≤ queued → follow (recipes r) (queued - n) c ns t ≡ some x → suc n ≤ queued
unfolding follow
more_left r c n queued ns t x h e = go (queued - n) refl e
  where
    go : (k : ℕ) → queued - n ≡ k → follow (recipes r) k c ns t ≡ some x → suc n ≤ queued
    go zero g f = absurd (let z : ◌≡◌ {A = ℕ} 0 1 = cc in omega arith)
    go (suc k) g f = omega arith
