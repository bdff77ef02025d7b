-- Stops and endings: the stop of an ending has that ending.
-- Assumes nothing.
use mathlib.Core.Path.{◌≡◌, refl}
use Rattle.rules.specs.Scheduler.{Ending, finished, paused, stuck, logfull, halted, tasks, spent, novalue}
use Rattle.count.specs.Along.{stop_of, ending_of}

pub stop-ends : (e : Ending) → ending_of (stop_of e) ≡ e
stop-ends finished = refl
stop-ends paused = refl
stop-ends stuck = refl
stop-ends logfull = refl
stop-ends (halted tasks) = refl
stop-ends (halted spent) = refl
stop-ends (halted novalue) = refl
