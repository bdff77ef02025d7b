use mathlib.Core.Path.{refl}
use Rattle.rules.specs.Scheduler.{number_of}
use Rattle.count.proofs.U32FromStop.from.Goals as goal

pub returns-in-Finished : goal.returns-in-Finished
unfolding number_of
returns-in-Finished c = rw c.in-Finished.is refl

pub returns-in-Paused : goal.returns-in-Paused
unfolding number_of
returns-in-Paused c = rw c.in-Paused.is refl

pub returns-in-Stuck : goal.returns-in-Stuck
unfolding number_of
returns-in-Stuck c = rw c.in-Stuck.is refl

pub returns-in-Tasks : goal.returns-in-Tasks
unfolding number_of
returns-in-Tasks c = rw c.in-Tasks.is refl

pub returns-in-Spent : goal.returns-in-Spent
unfolding number_of
returns-in-Spent c = rw c.in-Spent.is refl

pub returns-in-Logfull : goal.returns-in-Logfull
unfolding number_of
returns-in-Logfull c = rw c.in-Logfull.is refl

pub returns-in-NoValue : goal.returns-in-NoValue
unfolding number_of
returns-in-NoValue c = rw c.in-NoValue.is refl
