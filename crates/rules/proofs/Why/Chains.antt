-- Every stuck state has a chain, and no other.
-- Assumes nothing.
use Prim.Native.Nat.{ℕ, zero, suc, ◌+◌, ◌≤◌, ◌<◌}
use mathlib.Core.Path.{◌≡◌, refl, sym, ap, ◌∙◌, subst, subst⁻¹}
use mathlib.Core.Bool.{Bool, true, false}
use mathlib.Core.Option.{Option, none, some}
use mathlib.Core.List.{List, [], ◌∷◌, ◌++◌, append_assoc, head-eq_of_cons-eq}
use mathlib.Core.Logic.{dite}
use native.Mathlib.Decide.{ℕ_discrete}
use native.Mathlib.Omega.{arith}
use lib.Dec.{ltb}
use lib.IntN.{pos}
use lib.ListN.{length, length-append}
use borrow.Author.Tests.{lt-ltb, ltb-true, ltb-false}
use Rattle.rules.specs.Recipe.{Recipe, read}
use Rattle.rules.specs.State.{Task, State}
use Rattle.rules.specs.Scheduler.{is_live, is, Rules, count, can_go, any_go}
use Rattle.rules.specs.Steps.{env_of, recipes}
use Rattle.rules.specs.Fairness.{Every, Stuck}
use Rattle.rules.specs.Demand.{times}
use Rattle.rules.specs.Guards.{Held, not_done, untrue}
use Rattle.rules.specs.Why.{End, named_earlier, never_issued, untrue_guard, Chain, chain, among, holder, follow, from_front, chain_with, chain_of, Queued, Awaits, Link, Links, AtUntrueGuard, EndsSo, IsChain}
use Rattle.rules.proofs.Fit.{Fit}
use Rattle.rules.proofs.Guards.{guards_hold}
use Rattle.rules.proofs.Steps.{is-other}
use Rattle.rules.proofs.Scheduling.Bound.{none_go, go_none, every-mid}
use Rattle.rules.proofs.Why.Named.{times-append, is_self, every-named, no_more_named}
use Rattle.rules.proofs.Why.Holders.{no_zero, HasTask, has_count, holder-is, held_by, not-issued, never_done, never_held, waits-is, guard-is, follow-named, follow-on, follow-never, follow-guard}

module _ (r : Recipe) (c : State) (f : Fit r c) where
  abbrev R : Rules
  R = recipes r

  -- ---- links

  links_more : (ns : List ℕ) (n m : ℕ) → Links r c (ns ++ n ∷ []) → Link r c n m → Links r c ((ns ++ n ∷ []) ++ m ∷ [])
  links_more [] n m h l = (l, tt)
  links_more (x ∷ []) n m h l = (h.0, (l, tt))
  links_more (x ∷ (y ∷ ys)) n m h l = (h.0, links_more (y ∷ ys) n m h.1 l)

  -- the task of each number but the last is queued
  links-queued : (ns : List ℕ) (n : ℕ) → Links r c (ns ++ n ∷ []) → Every (HasTask r c f) ns
  links-queued [] n h = tt
  links-queued (x ∷ []) n h = ((h.0.awaits_it.task, h.0.awaits_it.queued), tt)
  links-queued (x ∷ (y ∷ ys)) n h = ((h.0.awaits_it.task, h.0.awaits_it.queued), links-queued (y ∷ ys) n h.1)

  -- numbers of queued tasks, each once, are no more than these
  abbrev Once : List ℕ → Type 0
  Once ns = (n : ℕ) → times n ns ≤ 1

  few-named : (ns : List ℕ) → Once ns → Every (HasTask r c f) ns → length ns ≤ length c.queue
  few-named ns h g = no_more_named R c.queue ns (λ n. by n (ltb 0 (times n ns)) refl)
    where
      by : (n : ℕ) (b : Bool) → ltb 0 (times n ns) ≡ b → times n ns ≤ count R n c.queue
      by n true e = omega (arith, h n, has_count r c f n (every-named (HasTask r c f) ns g n (ltb-true 0 (times n ns) e)))
      by n false e = omega (arith, ltb-false 0 (times n ns) e)

  -- ---- every stuck state has one

  -- a chain that goes on with t behind these numbers
  record Found (ns : List ℕ) (t : Task ℕ) (o : Option Chain) : Type 0 where
    found : Chain
    is_it : o ≡ some found
    rest : List ℕ
    goes_on : found.numbers ≡ ns ++ (t.number ∷ rest)
    links : Links r c found.numbers
    before : List ℕ
    last : ℕ
    splits : found.numbers ≡ before ++ (last ∷ [])
    once : Once before
    ends : EndsSo r c found.end before last

  -- it ends in t
  ends_in : (ns : List ℕ) (t : Task ℕ) (e : End) (o : Option Chain) → o ≡ chain (ns ++ t.number ∷ []) e → Links r c (ns ++ t.number ∷ []) → Once ns → EndsSo r c e ns t.number → Found ns t o
  ends_in ns t e o h l g x =
      record { found = record { numbers = ns ++ t.number ∷ []; end = e }; is_it = h; rest = []; goes_on = refl; links = l; before = ns; last = t.number; splits = refl; once = g; ends = x }

  module _ (s : Stuck R c) where
    held : (t : Task ℕ) → Queued c t.number t → Held r c t
    held t p = every-mid R (Held r c) p.ahead t p.others (subst (λ (l : List (Task ℕ)). Every (Held r c) l) p.stands ((guards_hold r c).stuck_when.0 s).every)

    once_more : (ns : List ℕ) (m : ℕ) → Once ns → times m ns ≡ 0 → Once (ns ++ m ∷ [])
    once_more ns m h g n =
        dite (ℕ_discrete n m)
        (λ e. rw e (omega (arith, times-append m ns (m ∷ []), is_self m)))
        (λ d. omega (arith, times-append n ns (m ∷ []), is-other n m d, h n))

    -- a chain that goes on with t, where it goes on with u behind that
    from-there : (ns : List ℕ) (t u : Task ℕ) (o o' : Option Chain) → o ≡ o' → Found (ns ++ t.number ∷ []) u o' → Found ns t o
    from-there ns t u o o' e x =
        record {
          found = x.found;
          is_it = e ∙ x.is_it;
          rest = u.number ∷ x.rest;
          goes_on = x.goes_on ∙ append_assoc ns (t.number ∷ []) (u.number ∷ x.rest);
          links = x.links;
          before = x.before;
          last = x.last;
          splits = x.splits;
          once = x.once;
          ends = x.ends;
        }

    -- behind a task that is named for the first time
    module _ (n : ℕ) (ns : List ℕ) (t : Task ℕ) (p : Queued c t.number t) (l : Links r c (ns ++ t.number ∷ [])) (g : Once ns) (new : among t.number ns ≡ false) where
      unnamed : times t.number ns ≡ 0
      unnamed = omega (arith, ltb-false 0 (times t.number ns) new)

      behind_it : ((u : Task ℕ) → Queued c u.number u → Links r c ((ns ++ t.number ∷ []) ++ u.number ∷ []) → Found (ns ++ t.number ∷ []) u (follow R n c (ns ++ t.number ∷ []) u))
          → Held r c t → Found ns t (follow R (suc n) c ns t)
      behind_it ih (untrue e k a h) =
          let w : AtUntrueGuard r c t.number = record { task = t; queued = p; expr = e; next = k; at_guard = a; untrue = h } in
          ends_in ns t untrue_guard _ (follow-guard r n c ns t new (guard-is r c f t p w)) l g (w, unnamed)
      behind_it ih (not_done name k a h) = by (holder R (read (env_of c.store t) name) c.queue) refl
        where
          w : Awaits r c t.number (read (env_of c.store t) name)
          w = record { task = t; queued = p; name = name; next = k; at_await = a; value_now = refl }

          by : (o : Option (Task ℕ)) → holder R (read (env_of c.store t) name) c.queue ≡ o → Found ns t (follow R (suc n) c ns t)
          by none e =
              ends_in ns t never_issued _ (follow-never r n c ns t new _ (waits-is r c f t _ p w h) e) l g
              (record { value = _; awaits_it = w; never = not-issued r c f _ h e; no_zero = no_zero c.store.issued (is_live R c.queue) _ h }, unnamed)
          by (some u) e =
              let (is, q) = held_by r c f _ u e in
              let link : Link r c t.number u.number = record { awaits_it = subst (Awaits r c t.number) is w; not_done = rw is at h } in
              from-there ns t u _ _ (follow-on r n c ns t new _ u (waits-is r c f t _ p w h) e) (ih u q (links_more ns t.number u.number l link))

    search_for : (n : ℕ) (ns : List ℕ) (t : Task ℕ) → Queued c t.number t → Links r c (ns ++ t.number ∷ []) → Once ns → length c.queue < n + length ns
        → Found ns t (follow R n c ns t)
    search_for zero ns t p l g k = absurd (omega (arith, few-named ns g (links-queued ns t.number l)))
    search_for (suc n) ns t p l g k =
        by (among t.number ns) refl
        (λ new u q h. search_for n (ns ++ t.number ∷ []) u q h (once_more ns t.number g (unnamed n ns t p l g new)) (omega (arith, length-append ns (t.number ∷ []))))
      where
        by : (b : Bool) → among t.number ns ≡ b
            → (among t.number ns ≡ false → (u : Task ℕ) → Queued c u.number u → Links r c ((ns ++ t.number ∷ []) ++ u.number ∷ []) → Found (ns ++ t.number ∷ []) u (follow R n c (ns ++ t.number ∷ []) u))
            → Found ns t (follow R (suc n) c ns t)
        by true e ih = ends_in ns t named_earlier _ (follow-named r n c ns t e) l g (omega (arith, g t.number, ltb-true 0 (times t.number ns) e))
        by false e ih = behind_it n ns t p l g e (ih e) (held t p)

  -- ---- the chain of a state

  -- in a stuck state it is followed from the front
  pub chain-is : Stuck R c → (t : Task ℕ) (q : List (Task ℕ)) → c.queue ≡ t ∷ q → chain_of R c ≡ follow R (suc (length (t ∷ q))) c [] t
  chain-is s t q h =
      let none_ready = go_none R c (t ∷ q) (subst (λ (l : List (Task ℕ)). Every (λ u. can_go R c u ≡ false) l) h s.none_ready) in
      ap (chain_with R c) s.idle ∙ ap (from_front R c) h ∙ rw none_ready refl

  front-queued : (t : Task ℕ) (q : List (Task ℕ)) → c.queue ≡ t ∷ q → Queued c t.number t
  front-queued t q h = record { ahead = []; others = q; stands = h; numbered = refl }

  pub stuck-chain : Stuck R c → (x : Chain) × (chain_of R c ≡ some x) × IsChain r c x
  stuck-chain s = go c.queue refl
    where
      go : (q : List (Task ℕ)) → c.queue ≡ q → (x : Chain) × (chain_of R c ≡ some x) × IsChain r c x
      go [] h = absurd (s.some_queued h)
      go (t ∷ q) h =
          let x = search_for s (suc (length (t ∷ q))) [] t (front-queued t q h) tt (λ n. omega arith) (rw h (omega arith)) in (
            x.found,
            chain-is s t q h ∙ x.is_it,
            record {
              front = t;
              others = q;
              at_front = h;
              rest = x.rest;
              first = x.goes_on;
              links = x.links;
              before = x.before;
              last = x.last;
              splits = x.splits;
              once = x.once;
              ends = x.ends;
            },
          )

  -- only a stuck state has one
  pub chain-stuck : (x : Chain) → chain_of R c ≡ some x → Stuck R c
  chain-stuck x e = active c.active refl e
    where
      idle : (q : List (Task ℕ)) (b : Bool) → c.active ≡ none → c.queue ≡ q → any_go R c q ≡ b → from_front R c q ≡ some x → Stuck R c
      idle [] b a h g e = absurd (let z : ◌≡◌ {A = ℕ} 0 1 = cc in omega arith)
      idle (t ∷ q) true a h g e = absurd (let k : none ≡ some x = rw g at e in let z : ◌≡◌ {A = ℕ} 0 1 = cc in omega arith)
      idle (t ∷ q) false a h g e =
          record {
            idle = a;
            some_queued = λ n. let m : t ∷ q ≡ [] = sym h ∙ n in let z : ◌≡◌ {A = ℕ} 0 1 = cc in omega arith;
            none_ready = subst (λ (l : List (Task ℕ)). Every (λ u. can_go R c u ≡ false) l) (sym h) (none_go R c (t ∷ q) g);
          }

      active : (a : Option (Task ℕ)) → c.active ≡ a → chain_with R c a ≡ some x → Stuck R c
      active none a e = idle c.queue (any_go R c c.queue) a refl refl e
      active (some t) a e = absurd (let z : ◌≡◌ {A = ℕ} 0 1 = cc in omega arith)

  -- ---- there is no other

  as_its_own : {n : ℕ} (t : Task ℕ) → Queued c n t → Queued c t.number t
  as_its_own t p = record { ahead = p.ahead; others = p.others; stands = p.stands; numbered = refl }

  -- the last number, with these before it
  at_last : (n : ℕ) (ns : List ℕ) (t : Task ℕ) (e : End) → Queued c t.number t → EndsSo r c e ns t.number → follow R (suc n) c ns t ≡ chain (ns ++ t.number ∷ []) e
  at_last n ns t named_earlier p x = follow-named r n c ns t (lt-ltb 0 (times t.number ns) (omega (arith, x)))
  at_last n ns t never_issued p (x, new) =
      follow-never r n c ns t (rw new refl) x.value (waits-is r c f t x.value p x.awaits_it (never_done c.store.issued (is_live R c.queue) x.value x.never x.no_zero)) (never_held r c f x.value x.never)
  at_last n ns t untrue_guard p (x, new) = follow-guard r n c ns t (rw new refl) (guard-is r c f t p x)

  -- a number before the last: the chain goes on with the next
  to_next : (n : ℕ) (ns mid : List ℕ) (t u : Task ℕ) → Queued c t.number t → Queued c u.number u → Link r c t.number u.number → Once (ns ++ (t.number ∷ mid))
      → follow R (suc n) c ns t ≡ follow R n c (ns ++ t.number ∷ []) u
  to_next n ns mid t u p q l g =
      let new : times t.number ns ≡ 0 = omega (arith, g t.number, times-append t.number ns (t.number ∷ mid), is_self t.number) in
      follow-on r n c ns t (rw new refl) (pos u.number) u (waits-is r c f t (pos u.number) p l.awaits_it l.not_done) (holder-is r c f u.number u q)

  -- from t on, with the numbers `mid` and the last one behind it
  along : (n : ℕ) (ns mid : List ℕ) (t : Task ℕ) (last : ℕ) (e : End) → Queued c t.number t → Links r c (t.number ∷ (mid ++ last ∷ [])) → HasTask r c f last
      → Once (ns ++ (t.number ∷ mid)) → EndsSo r c e (ns ++ (t.number ∷ mid)) last → suc (length mid) < n
      → follow R n c ns t ≡ chain ((ns ++ (t.number ∷ mid)) ++ last ∷ []) e
  along zero ns mid t last e p l k g x h = absurd (omega arith)
  along (suc zero) ns mid t last e p l k g x h = absurd (omega arith)
  along (suc (suc n)) ns [] t last e p l (u, q) g x h =
      let named = ns ++ t.number ∷ [] in
      let is = q.numbered in
      subst (λ (m : ℕ). follow R (suc (suc n)) c ns t ≡ chain (named ++ m ∷ []) e) is
      (to_next (suc n) ns [] t u p (as_its_own u q) (subst⁻¹ (Link r c t.number) is l.0) g
      ∙ at_last n named u e (as_its_own u q) (subst⁻¹ (EndsSo r c e named) is x))
  along (suc (suc n)) ns (m ∷ mid) t last e p l k g x h =
      let named = ns ++ t.number ∷ [] in
      let (u, q) = (links-queued (m ∷ mid) last l.1).0 in
      let is = q.numbered in
      let same : ns ++ (t.number ∷ (m ∷ mid)) ≡ named ++ (u.number ∷ mid) =
      ap (λ (j : ℕ). ns ++ (t.number ∷ (j ∷ mid))) (sym is) ∙ sym (append_assoc ns (t.number ∷ []) (u.number ∷ mid)) in
      subst⁻¹ (λ (b : List ℕ). follow R (suc (suc n)) c ns t ≡ chain (b ++ last ∷ []) e) same
      (to_next (suc n) ns (m ∷ mid) t u p (as_its_own u q) (subst⁻¹ (Link r c t.number) is l.0) g
      ∙ along (suc n) named mid u last e (as_its_own u q) (subst⁻¹ (λ (j : ℕ). Links r c (j ∷ (mid ++ last ∷ []))) is l.1) k (subst Once same g) (subst (λ (b : List ℕ). EndsSo r c e b last) same x) (omega arith))

  -- the last task is queued
  last-queued : (e : End) (ns : List ℕ) (n : ℕ) → Every (HasTask r c f) ns → EndsSo r c e ns n → HasTask r c f n
  last-queued named_earlier ns n h x = every-named (HasTask r c f) ns h n (omega (arith, x))
  last-queued never_issued ns n h x = (x.0.awaits_it.task, x.0.awaits_it.queued)
  last-queued untrue_guard ns n h x = (x.0.task, x.0.queued)

  pub only-chain : Stuck R c → (x : Chain) → IsChain r c x → chain_of R c ≡ some x
  only-chain s x i =
      let t = i.front in
      let q = i.others in
      let links = subst (Links r c) i.splits i.links in
      let queued = links-queued i.before i.last links in
      let few = few-named i.before i.once queued in
      chain-is s t q i.at_front
      ∙ by i.before (sym i.first ∙ i.splits) links i.once i.ends (last-queued x.end i.before i.last queued i.ends) (rw i.at_front at few)
      ∙ ap (λ (l : List ℕ). chain l x.end) (sym i.splits)
    where
      by : (b : List ℕ) → i.front.number ∷ i.rest ≡ b ++ (i.last ∷ []) → Links r c (b ++ (i.last ∷ [])) → Once b → EndsSo r c x.end b i.last → HasTask r c f i.last
          → length b ≤ suc (length i.others)
          → follow R (suc (suc (length i.others))) c [] i.front ≡ chain (b ++ (i.last ∷ [])) x.end
      by [] e l g y k h =
          let same = head-eq_of_cons-eq e in
          subst (λ (m : ℕ). follow R (suc (suc (length i.others))) c [] i.front ≡ chain (m ∷ []) x.end) same
          (at_last (suc (length i.others)) [] i.front x.end (front-queued i.front i.others i.at_front) (subst⁻¹ (EndsSo r c x.end []) same y))
      by (a ∷ mid) e l g y k h =
          let same = head-eq_of_cons-eq e in
          subst (λ (m : ℕ). follow R (suc (suc (length i.others))) c [] i.front ≡ chain ((m ∷ mid) ++ (i.last ∷ [])) x.end) same
          (along (suc (suc (length i.others))) [] mid i.front i.last x.end (front-queued i.front i.others i.at_front)
          (subst⁻¹ (λ (m : ℕ). Links r c (m ∷ (mid ++ (i.last ∷ [])))) same l) k
          (subst⁻¹ (λ (m : ℕ). Once (m ∷ mid)) same g) (subst⁻¹ (λ (m : ℕ). EndsSo r c x.end (m ∷ mid) i.last) same y) (omega arith))

  -- the output has room for it
  pub chain_fits : c.active ≡ none → (x : Chain) → IsChain r c x → length x.numbers ≤ 33
  chain_fits a x i =
      let queued = links-queued i.before i.last (subst (Links r c) i.splits i.links) in
      let few : length c.queue ≤ 32 = rw a at f.few in
      rw i.splits (omega (arith, length-append i.before (i.last ∷ []), few-named i.before i.once queued))
