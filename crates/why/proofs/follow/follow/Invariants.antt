use Rattle.std.proofs.Common.{ℕ, suc, ◌-◌, ◌≤◌, ◌<◌, ◌≡◌, List, [], length}
use Rattle.std.proofs.Math.Option.{Option}
use Rattle.rules.specs.Table.{recipe_of}
use Rattle.rules.specs.Steps.{recipes}
use Rattle.rules.specs.Why.{Chain, follow}
use Rattle.state.specs.declared.State.{State}
use Rattle.state.specs.View.{entry}
use Rattle.ready.specs.Ready.{idle}
use Rattle.why.proofs.follow.follow.Given as goal

-- the chain from the front on
abbrev pub start : (table : List ℕ) → State → Option Chain
start table s = follow (recipes (recipe_of table)) (suc s.queue.len) (idle s) [] (entry s.queue 0)

-- the loop has come to the task `at`, with these numbers written
pub record Come (table : List ℕ) (s : State) (at : ℕ) (ns : List ℕ) : Type 0 where
  pub queued : at < s.queue.len
  pub few : length ns ≤ s.queue.len
  pub left : follow (recipes (recipe_of table)) (suc s.queue.len - length ns) (idle s) ns (entry s.queue at) ≡ start table s

abbrev pub invariant-loop-x : goal.invariant-loop-x
invariant-loop-x l = Come l.table.bytes.now l.s l.at l.numbers.items

abbrev pub decreases-loop-x : goal.decreases-loop-x
decreases-loop-x l = suc l.s.queue.len - length l.numbers.items
