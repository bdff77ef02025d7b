use Rattle.idle.proofs.Trying.{Turned}
use Rattle.idle.proofs.turn_first.Given as goal

abbrev pub invariant-loop-i : goal.invariant-loop-i
invariant-loop-i l = Turned l.table.bytes.now l.s l.before l.initial.log l.log l.i
