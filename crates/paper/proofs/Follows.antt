-- A step over places is exactly the one rule of the paper that applies to the statements still to do.
-- Assumes nothing.
use Prim.Native.Nat.{ℕ}
use mathlib.Core.Path.{◌≡◌, refl, sym, ap, ◌∙◌, subst}
use mathlib.Core.Logic.{◌↔◌, ◌⊎◌, inl, inr}
use mathlib.Core.Bool.{true}
use mathlib.Core.Option.{Option, none, some, map}
use native.Mathlib.Omega.{arith}
use lib.ListN.{length}
use Rattle.rules.specs.Recipe.{Recipe, Within}
use Rattle.rules.specs.Places.{is_place}
use Rattle.rules.specs.State.{Task, State, live_tasks}
use Rattle.rules.specs.Fairness.{Every}
use Rattle.rules.specs.Log.{Event}
use Rattle.rules.specs.Scheduler.{Halt, novalue, Rules, Next, finish, jam, bar, goes, next}
use Rattle.rules.specs.Steps.{Limits, limits}
use Rattle.rules.proofs.NoValue.{no_limit}
use Rattle.paper.specs.Paper.{PaperState, unlimited, Rule, Applies, Finished, Stuck, Lacking, Barred, limited, no_value}
use Rattle.paper.specs.Follows.{places, statements, shown_task, shown, shown_next, Placed, Ends, by_finish, by_jam, by_halt, Follows}
use Rattle.paper.proofs.Shown.{spawn_declared, same_next, PlacedNext, placed-next}
use Rattle.paper.proofs.Exact.{DeclaredIn, Says, says, rule-next, finished-next, stuck-next, barred_next}
use Rattle.paper.proofs.Derivations.{one_rule}

module _ (full : Limits) (r : Recipe) (w : Within r) (c : State) (p : Placed r c) where
  abbrev R : Rules
  R = places full r

  abbrev S : Rules
  S = statements full r

  same : next S (shown r c) ≡ shown_next full r (next R c)
  same = same_next full r w c p

  -- the active task stands at a place, and a spawn there names a procedure
  declared : (a : Option (Task ℕ)) → Every (λ t. is_place r t.place ≡ true) (live_tasks a c.queue) → DeclaredIn full r (map (shown_task r) a)
  declared none h = tt
  declared (some t) h = λ x m e s g. spawn_declared r w t.place h.0 x m e s g

  -- what comes next over places, said by the rules
  said : (y : Next R) → next R c ≡ y → Says full r (shown r c) (shown_next full r y)
  said y h = subst (Says full r (shown r c)) (same ∙ ap (shown_next full r) h) (says full r (shown r c) (declared c.active p))

  -- and back: what comes next over statements is shown by what comes next over places
  abbrev Back : Next R → Next S → Type 0
  Back y finish = y ≡ finish
  Back y jam = y ≡ jam
  Back y (bar k) = y ≡ bar k
  Back y (goes x d) = (e : State) × (y ≡ goes x e) × (shown r e ≡ d)

  shown-back : (y : Next R) → Back y (shown_next full r y)
  shown-back finish = refl
  shown-back jam = refl
  shown-back (bar k) = refl
  shown-back (goes x e) = (e, refl, refl)

  back : (z : Next S) → next S (shown r c) ≡ z → Back (next R c) z
  back z h = subst (Back (next R c)) (sym same ∙ h) (shown-back (next R c))

  finishes : (next R c ≡ finish) ↔ Finished (shown r c)
  finishes = (λ h. said finish h, λ u. back finish (finished-next full r u))

  jams : (next R c ≡ jam) ↔ Stuck (shown r c)
  jams = (λ h. said jam h, λ u. back jam (stuck-next full r u))

  bars : (k : Halt) → (next R c ≡ bar k) ↔ Barred full k (shown r c)
  bars k = (λ h. said (bar k) h, λ u. back (bar k) (barred_next full r u))

  only : (x : Option Event) (d : PaperState)
      → Rule full r (shown r c) x d
      → (e : State) × (next R c ≡ goes x e) × (shown r e ≡ d)
  only x d u = back (goes x d) (rule-next full r u)

  -- a rule applies where what comes next is a step
  abbrev Steps : Next R → Type 0
  Steps finish = ⊥
  Steps jam = ⊥
  Steps (bar k) = ⊥
  Steps (goes x e) = Unit {0}

  steps : Applies full r (shown r c) → Steps (next R c)
  steps (x, d, u) = subst Steps (sym (only x d u).1) tt

  no_rule : (¬ Applies full r (shown r c)) ↔ Ends full r c
  no_rule = (there (next R c) refl, back-again)
    where
      there : (y : Next R) → next R c ≡ y → ¬ Applies full r (shown r c) → Ends full r c
      there finish h n = by_finish h
      there jam h n = by_jam h
      there (bar k) h n = by_halt k h
      there (goes x d) h n = absurd (n (x, shown r d, said (goes x d) h))

      back-again : Ends full r c → ¬ Applies full r (shown r c)
      back-again (by_finish h) u = subst Steps h (steps u)
      back-again (by_jam h) u = subst Steps h (steps u)
      back-again (by_halt k h) u = subst Steps h (steps u)

-- without limits only a missing value bars a step
barred_unlimited : {k : Halt} {c : PaperState} → Barred unlimited k c → Lacking c
barred_unlimited (limited v h) = absurd (let z : ◌≡◌ {A = ℕ} 0 1 = cc in omega arith)
barred_unlimited (no_value l) = l

barred_novalue : {c : PaperState} → Barred limits novalue c → Lacking c
barred_novalue (limited {q = q} {σ = σ} v h) = absurd (no_limit (length q) σ.issued h)
barred_novalue (no_value l) = l

-- with these limits 24 comes next exactly where a value is missing
pub lacks : (r : Recipe) (w : Within r) (c : State) → Placed r c
    → (next (places limits r) c ≡ bar novalue) ↔ Lacking (shown r c)
lacks r w c p =
    let b = bars limits r w c p novalue in
    (λ h. barred_novalue (b.0 h), λ l. b.1 (no_value l))

module _ (full : Limits) (r : Recipe) (w : Within r) (c : State) (p : Placed r c) where
  abbrev End : Type 0
  End = (next (places full r) c ≡ finish) ⊎ (next (places full r) c ≡ jam) ⊎ Lacking (shown r c)

  no_rule_unlimited : (¬ Applies unlimited r (shown r c)) ↔ End
  no_rule_unlimited = (λ n. there ((no_rule unlimited r w c p).0 n), λ h. (no_rule unlimited r w c p).1 (back-again h))
    where
      there : Ends unlimited r c → End
      there (by_finish h) = inl ((finishes full r w c p).1 ((finishes unlimited r w c p).0 h))
      there (by_jam h) = inr (inl ((jams full r w c p).1 ((jams unlimited r w c p).0 h)))
      there (by_halt k h) = inr (inr (barred_unlimited ((bars unlimited r w c p k).0 h)))

      back-again : End → Ends unlimited r c
      back-again (inl h) = by_finish ((finishes unlimited r w c p).1 ((finishes full r w c p).0 h))
      back-again (inr (inl h)) = by_jam ((jams unlimited r w c p).1 ((jams full r w c p).0 h))
      back-again (inr (inr l)) = by_halt novalue ((bars unlimited r w c p novalue).1 (no_value l))

  -- the theorem of a step
  pub follows : Follows full r c
  follows = record {
    same = same full r w c p;
    rule = λ x d h. said full r w c p (goes x d) h;
    placed = λ x d h. subst (PlacedNext full r w) h (placed-next full r w c p);
    only = only full r w c p;
    one_rule = λ x x' d d' u v. one_rule u v;
    ends = finishes full r w c p;
    jams = jams full r w c p;
    bars = bars full r w c p;
    no_rule = no_rule full r w c p;
    no_rule_unlimited = no_rule_unlimited;
  }
