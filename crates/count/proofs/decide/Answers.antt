-- A step with an event is noted, or the log is full.
-- Assumes nothing.
use mathlib.Core.Path.{◌≡◌}
use mathlib.Core.Option.{some}
use native.Mathlib.Omega.{arith}
use borrow.Author.Rules.{rules}
use Rattle.std.specs.Prelude.{Some}
use Rattle.std.proofs.lemmas.Result.{err_from_is_err_and}
use Rattle.events.specs.Events.{event_of}
use Rattle.moves.specs.Moves.{act_of}
use Rattle.count.proofs.Deciding.{decide_went}
use Rattle.count.proofs.decide.Goals as goal

pub returns-in_err-after-in-Some-clause-decides : goal.returns-in_err-after-in-Some-clause-decides
returns-in_err-after-in-Some-clause-decides c =
    let a = c.args in
    let m = c.in_ok-m.m in
    let there : a.m ≡ Some m = search rules in
    let tells = rw c.in-Some.is at c.in_ok-e.ensures.tells in
    let r = c.from_residual-in_err-after-in-Some in
    let p = err_from_is_err_and r.result r.ensures.1 in
    rw (there, p.1, p.2) (λ x s q t h g e.
    decide_went x a.n a.log.now a.bounds.budget q (omega arith) _ _ (some (event_of c.in-Some.e)) (act_of m s q t) (tells s q t h g e) (λ b d. c.in_err-after-in-Some.ensures x b d))

pub returns-in_ok-after-in-Some-clause-decides : goal.returns-in_ok-after-in-Some-clause-decides
returns-in_ok-after-in-Some-clause-decides c =
    let a = c.args in
    let m = c.in_ok-m.m in
    let there : a.m ≡ Some m = search rules in
    let tells = rw c.in-Some.is at c.in_ok-e.ensures.tells in
    rw there (λ x s q t h g e.
    decide_went x a.n a.log.now a.bounds.budget q (omega arith) _ _ (some (event_of c.in-Some.e)) (act_of m s q t) (tells s q t h g e) (λ b d. c.in_ok-after-in-Some.ensures x b d))
