use Prim.Native.Nat.{ℕ}
use mathlib.Core.Path.{◌≡◌, ap₂, ◌∙◌}
use mathlib.Core.List.{List}
use native.Mathlib.Omega.{arith}
use borrow.Author.Rules.{rules}
use Rattle.rules.specs.Table.{recipe_of}
use Rattle.rules.specs.Places.{is_place}
use Rattle.rules.specs.State as R
use Rattle.rules.specs.Scheduler.{run}
use Rattle.rules.specs.Steps.{recipes}
use Rattle.rules.specs.Run.{place_of, room_of, outcome}
use Rattle.rules.proofs.Blocks.{fit_read}
use Rattle.state.specs.View.{view}
use Rattle.count.specs.Along.{ending_of}
use Rattle.runner.proofs.Calling.{head_fits_lem, records_fit, answers, place-named, no_place}
use Rattle.runner.proofs.call.carry_out.Goals as goal
use Rattle.runner.proofs.call.carry_out.Goals.{in-NoValue-Some, in_default, in_default-2}

pub read-requires : goal.read-requires
read-requires c = head_fits_lem (is_place (recipe_of c.args.table.bytes.now)) c.args.state.now c.requires

pub drive-ran-requires : goal.drive-ran-requires
drive-ran-requires c =
    let a = c.args in
    rw (c.link.ensures, c.read.ensures) (fit_read (recipe_of a.table.bytes.now) a.state.now (λ i. search rules) c.requires)

pub write-requires : goal.write-requires
write-requires c = (head_fits_lem (is_place (recipe_of c.args.table.bytes.now)) c.args.state.now c.requires).0

pub overflow_cast-result : goal.overflow_cast-result
overflow_cast-result c = let f = records_fit c.drive-ran.ensures in omega arith

pub returns : goal.returns
returns c =
    let a = c.args in
    let ran = c.drive-ran.result in
    let place : c.match-ran.place ≡ place_of (ending_of ran.stop) (view ran.state) =
    elim c.match-ran.branch [
      | in-NoValue-Some w ↦ w.place-is ∙ w.from-place.ensures ∙ place-named ran.stop ran.state w.in-NoValue-Some.task w.in-NoValue-Some.is-0 w.in-NoValue-Some.is-1
      | in_default w ↦ w.place-is ∙ no_place ran.stop ran.state (λ t e h. absurd (let g = w.in_default.is-1 in cc))
      | in_default-2 w ↦ w.place-is ∙ no_place ran.stop ran.state (λ t e h. w.in_default.not-NoValue-0 e)
    ] in
    answers c.drive-ran.ensures _ _ _ c.from.ensures place c.write.ensures
    ∙ ap₂ (λ (t : List ℕ) (s : R.State). outcome (recipe_of t) (run (recipes (recipe_of t)) a.budget (room_of a.log.now) s) a.log.now) c.link.ensures c.read.ensures
