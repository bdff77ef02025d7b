-- Whether the state that the code has is stuck, and its chain then.
-- Assumes nothing.
use Prim.Native.Nat.{ℕ, zero, suc, ◌<◌}
use mathlib.Core.Path.{◌≡◌, refl, sym, ap, ◌∙◌, subst}
use mathlib.Core.Logic.{◌↔◌}
use mathlib.Core.Option.{Option, some}
use mathlib.Core.List.{List, []}
use native.Mathlib.Omega.{arith}
use Rattle.rules.specs.Table.{recipe_of}
use Rattle.rules.specs.State as R
use Rattle.rules.specs.State.{tab}
use Rattle.rules.specs.Scheduler.{Rules, Next, finish, jam, bar, goes, next, paused, stuck, number_of, test, end, carry, run, ending, last}
use Rattle.rules.specs.Steps.{recipes}
use Rattle.rules.specs.Fairness.{Stuck}
use Rattle.rules.specs.Why.{Chain, follow, chain_of}
use Rattle.rules.proofs.Fit.{TaskFit, Fit}
use Rattle.rules.proofs.Lists.{every_map, tab-first, length-tab}
use Rattle.rules.proofs.Scheduling.Bound.{jam-stuck, stuck-jam}
use Rattle.rules.proofs.Scheduling.Endings.{by_number}
use Rattle.rules.proofs.Why.Holders.{queue-fits}
use Rattle.rules.proofs.Why.Chains.{chain-is, stuck-chain}
use Rattle.state.specs.declared.State.{State}
use Rattle.state.specs.View.{entry, queue_of, store_of, view}
use Rattle.ready.specs.Ready.{idle, Placed, Waiting}
use Rattle.count.specs.declared.Stop.{Stop}
use Rattle.count.specs.declared.Stop.TheVariants as S
use Rattle.count.specs.Along.{ending_of}
use Rattle.why.specs.Follow.{Following}

-- the stop of that number
stop_is : (x : Stop) → number_of (ending_of x) ≡ 2 → x ≡ S.Stuck
unfolding number_of
stop_is S.Finished h = absurd (omega arith)
stop_is S.Paused h = absurd (omega arith)
stop_is S.Stuck h = refl
stop_is S.Tasks h = absurd (omega arith)
stop_is S.Spent h = absurd (omega arith)
stop_is S.Logfull h = absurd (omega arith)
stop_is S.NoValue h = absurd (omega arith)

-- a table that is accepted, and a state that fits it
module _ (table : List ℕ) (s : State) where
  abbrev rules : Rules
  rules = recipes (recipe_of table)

  -- with no task active
  abbrev idling : R.State
  idling = idle s

  empty : s.queue.len ≡ 0 → ¬ Stuck rules (view s)
  unfolding queue_of tab
  empty h k = k.some_queued (ap (λ (n : ℕ). tab n (entry s.queue)) h)

  waiting : Fit (recipe_of table) (view s) → Waiting table s.queue
  waiting g = every_map (TaskFit (recipe_of table) (store_of s)) (Placed (recipe_of table)) (λ t k. k.placed) (queue_of s.queue) (queue-fits (recipe_of table) (view s) g)

  -- ---- what a call without a budget says

  -- it makes no step
  no_steps : (room : ℕ) (c : R.State) → last rules (run rules 0 room c) ≡ c
  no_steps room c = go (next rules c)
    where
      go : (y : Next rules) → last rules (carry rules (test rules 0 room y) (λ x d. end paused d) c) ≡ c
      go finish = refl
      go jam = refl
      go (bar k) = refl
      go (goes x d) = refl

  -- it stops so exactly where the state is stuck
  pub stuck_when : (room : ℕ) (x : Stop) → ending rules (run rules 0 room (view s)) ≡ ending_of x → (x ≡ S.Stuck) ↔ Stuck rules (view s)
  unfolding number_of
  stuck_when room x e =
      let by = by_number rules 0 room (view s) stuck in
      let same = ap (next rules) (no_steps room (view s)) in (
        λ h. jam-stuck rules (view s) (sym same ∙ by.0 (ap number_of (e ∙ ap ending_of h))),
        λ k. stop_is x (ap number_of (sym e) ∙ by.1 (same ∙ stuck-jam rules (view s) k)),
      )

  -- ---- a stuck state

  idle-is : Stuck rules (view s) → view s ≡ idling
  idle-is k =
      let with : Option (R.Task ℕ) → R.State = λ a. record { store = store_of s; active = a; queue = queue_of s.queue } in
      ap with k.idle

  -- its chain is followed from the task at the front
  from_front : (n : ℕ) → Fit (recipe_of table) idling → Stuck rules idling → 0 < n → idling.queue ≡ tab n (entry s.queue)
      → chain_of rules idling ≡ follow rules (suc n) idling [] (entry s.queue 0)
  from_front zero f k l e = absurd (omega arith)
  from_front (suc m) f k l e =
      let t = entry s.queue in
      let many = length-tab (λ i. t (suc i)) m in
      chain-is (recipe_of table) idling f k (t 0) (tab m (λ i. t (suc i))) (e ∙ tab-first t m)
      ∙ ap (λ (j : ℕ). follow rules (suc (suc j)) idling [] (t 0)) many

  module _ (g : Fit (recipe_of table) (view s)) (k : Stuck rules (view s)) where
    fit : Fit (recipe_of table) idling
    fit = subst (Fit (recipe_of table)) (idle-is k) g

    still : Stuck rules idling
    still = subst (Stuck rules) (idle-is k) k

    some_queued : 0 < s.queue.len
    some_queued = go s.queue.len refl
      where
        go : (n : ℕ) → s.queue.len ≡ n → 0 < n
        go zero e = absurd (empty e k)
        go (suc n) e = omega arith

    chain-there : chain_of rules (view s) ≡ follow rules (suc s.queue.len) idling [] (entry s.queue 0)
    unfolding queue_of
    chain-there = ap (chain_of rules) (idle-is k) ∙ from_front s.queue.len fit still some_queued refl

    pub following : Following table s
    following =
        let x = stuck-chain (recipe_of table) (view s) g k in
        record {
          waiting = waiting g;
          some_queued = some_queued;
          none_ready = still.none_ready;
          found = x.0;
          is_found = sym chain-there ∙ x.1;
        }

    -- what is followed from there is the state's chain
    pub followed : (x : Chain) → follow rules (suc s.queue.len) idling [] (entry s.queue 0) ≡ some x → chain_of rules (view s) ≡ some x
    followed x e = chain-there ∙ e
