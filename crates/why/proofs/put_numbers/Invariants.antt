use Rattle.std.proofs.Common.{◌≡◌, ◌*◌, ◌++◌, take, drop}
use Rattle.rules.specs.Why.{halves}
use Rattle.why.proofs.put_numbers.Given as goal

abbrev pub invariant-loop-i : goal.invariant-loop-i
invariant-loop-i l = l.out ≡ halves (take l.i l.numbers) ++ drop (2 * l.i) l.initial.out
