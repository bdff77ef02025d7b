use Rattle.std.proofs.Common.{rules}
use borrow.Author.Tests.{eq-eqb, ne_eqb}
use mir.Syntax.{w32}
use mir.Val.{SFits}
use mir.Facts.{to_z-of_z}
use lib.ListN.{get_or}
use lib.IntN.{pos}
use Rattle.rules.specs.Recipe.{read}
use Rattle.expr.proofs.Env.variable.Goals as goal

pub returns-then-name-eq64 : goal.returns-then-name-eq64
unfolding read
returns-then-name-eq64 c =
    let fits : SFits w32 c.args.self.parameter = search rules in
    rw (eq-eqb _ _ c.if-name-eq64.true) (to_z-of_z fits)

pub returns : goal.returns
unfolding read
returns c =
    let fits : SFits w32 (get_or c.args.self.variables.now c.args.name (pos 0)) = search rules in
    rw (ne_eqb _ _ c.if-name-eq64.false, c.from.ensures) (to_z-of_z fits)
