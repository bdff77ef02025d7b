use Rattle.std.proofs.Common.{◌*◌, ◌≤◌}
use Rattle.trials.proofs.try_on.Given as goal

-- each call takes up to 4,294,967,295 steps
abbrev pub invariant-loop : goal.invariant-loop
invariant-loop g l = l.steps ≤ 4294967295 * l.counter
