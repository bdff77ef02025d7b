-- What a set of a valve and a spawn tell, by their tests.
-- Assumes nothing.
use native.Mathlib.Omega.{arith}
use Rattle.values.proofs.Exact.{result32}
use Rattle.events.proofs.Telling.{valve-tells, set_tells, tasks-tells, spent-tells, spawned-tells}
use Rattle.events.proofs.outcome_of.Goals as goal

pub returns-then-issued-eq65535 : goal.returns-then-issued-eq65535
returns-then-issued-eq65535 c =
    rw (c.in-Some.is, c.in-Spawns.is) (spent-tells _ _ _ _ _ _ _ c.if-queued-ge31.false (omega arith))

pub returns-then-name-ge8 : goal.returns-then-name-ge8
returns-then-name-ge8 c = rw (c.in-Some.is, c.in-Sets.is) (set_tells _ _ _ _ _ _ c.if-name-ge8.true)

pub returns-else-issued-eq65535 : goal.returns-else-issued-eq65535
returns-else-issued-eq65535 c =
    rw (c.in-Some.is, c.in-Spawns.is)
    (spawned-tells _ _ _ _ _ _ _ c.if-queued-ge31.false (omega (arith, c.ranges.issued)))

pub returns-else-name-ge8 : goal.returns-else-name-ge8
returns-else-name-ge8 c = rw (c.in-Some.is, c.in-Sets.is, result32 {z = c.in-Sets.v} (omega arith)) (valve-tells _ _ _ _ _ _ c.if-name-ge8.false)

pub returns-then-queued-ge31 : goal.returns-then-queued-ge31
returns-then-queued-ge31 c = rw (c.in-Some.is, c.in-Spawns.is) (tasks-tells _ _ _ _ _ _ _ c.if-queued-ge31.true)
