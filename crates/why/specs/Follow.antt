-- The chain of a stuck state, as the code has it.
-- Assumes nothing.
use Rattle.std.specs.Prelude.{ℕ, suc, ◌<◌, ◌≡◌, Bool, false, List, [], ℤ, Result, Ok, Err, IfOk, take}
use Rattle.std.specs.Prelude as P
use Rattle.std.proofs.Math.Option.{Option, some}
use Rattle.rules.specs.Recipe.{Recipe}
use Rattle.rules.specs.Table.{recipe_of}
use Rattle.rules.specs.State as R
use Rattle.rules.specs.State.{Task}
use Rattle.rules.specs.Scheduler.{Readiness, can_go}
use Rattle.rules.specs.Steps.{recipes}
use Rattle.rules.specs.Fairness.{Every}
use Rattle.rules.specs.Why as W
use Rattle.rules.specs.Why.{chain, is_number, behind, follow}
use Rattle.state.specs.declared.Queue.{Queue}
use Rattle.state.specs.declared.State.{State}
use Rattle.state.specs.View.{entry, queue_of, first}
use Rattle.ready.specs.Ready.{idle, Waiting}
use Rattle.why.specs.declared.follow.End.{End}
use Rattle.why.specs.declared.follow.Chain.{Chain}
use Rattle.why.specs.declared.follow.End.TheVariants as E

-- how a chain ends; the chain that the code's stands for
abbrev pub end_of : End → W.End
end_of E.NamedEarlier = W.named_earlier
end_of E.NeverIssued = W.never_issued
end_of E.UntrueGuard = W.untrue_guard

abbrev pub chain_in : Chain → W.Chain
chain_in x = record { numbers = take x.count x.numbers; end = end_of x.end }

-- the queued task whose number a value is, by its index; none, if there is none
abbrev pub of_number : ℤ → Task ℕ → Bool
of_number z t = is_number z t.number

abbrev pub index_in : ℤ → List (Task ℕ) → P.Option ℕ
index_in z q = first (of_number z) q

-- how a chain goes on behind these numbers, by what holds the last task
abbrev pub goes_on : Queue → (Task ℕ → Option W.Chain) → List ℕ → Result ℕ End → Option W.Chain
goes_on q further ns (Ok i) = further (entry q i)
goes_on q further ns (Err e) = chain ns (end_of e)

-- a task that waits so is held by this
pub record Holds (q : Queue) (w : Readiness) (h : Result ℕ End) : Type 0 where
  pub within : IfOk h (λ i. i < q.len)
  pub goes_on_holds : (r : Recipe) (further : Task ℕ → Option W.Chain) (c : R.State) (ns : List ℕ) → c.queue ≡ queue_of q
      → behind (recipes r) further c ns w ≡ goes_on q further ns h

-- the state, with no task active, is stuck, and has a chain
pub record Following (table : List ℕ) (s : State) : Type 0 where
  pub waiting : Waiting table s.queue
  pub some_queued : 0 < s.queue.len
  pub none_ready : Every (λ t. can_go (recipes (recipe_of table)) (idle s) t ≡ false) (queue_of s.queue)
  pub found : W.Chain
  pub is_found : follow (recipes (recipe_of table)) (suc s.queue.len) (idle s) [] (entry s.queue 0) ≡ some found
