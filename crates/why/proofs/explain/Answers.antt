use native.Mathlib.Omega.{arith}
use lib.ListN.{length, take}
use lib.Seq.{length-take-le}
use Rattle.std.proofs.Common.{◌≡◌, sym, ap, ◌∙◌}
use mathlib.Core.Bool.{true≢false}
use Rattle.rules.specs.Table.{recipe_of}
use Rattle.rules.specs.Why.{unexplained}
use Rattle.table.specs.declared.refusal.Refusal.{Refusal}
use Rattle.table.specs.Refusals.{rule_number}
use Rattle.state.specs.View.{view}
use Rattle.why.specs.Follow.{chain_in}
use Rattle.why.proofs.Stuck.{following, followed}
use Rattle.why.proofs.Explaining.{wrong_length, not_stuck, chain-told}
use Rattle.why.proofs.explain.Goals as goal
use Rattle.why.proofs.explain.Goals.{then-chain-ne66-via-then-chain-ne66, then-chain-ne66-via-else-chain-ne66+then-not-is_stuck}

pub returns-then-chain-ne66 : goal.returns-then-chain-ne66
returns-then-chain-ne66 c =
    let r = recipe_of c.args.table.bytes.now in
    let s = view c.args.s in
    let l = c.args.chain.now in
    c.into.ensures l
    ∙ ap (λ (f : Refusal). unexplained (rule_number f.rule) f.place l) c.at.ensures
    ∙ (elim c.then-chain-ne66.branch [
      | then-chain-ne66-via-then-chain-ne66 w ↦ wrong_length r s l w.if-chain-ne66.true
      | then-chain-ne66-via-else-chain-ne66+then-not-is_stuck w ↦ not_stuck r s l c.requires w.if-chain-ne66.false (λ z. true≢false (sym (w.is_stuck.ensures.1 z) ∙ w.if-not-is_stuck.true))
    ])

pub follow-x-requires : goal.follow-x-requires
follow-x-requires c = following c.args.table.bytes.now c.args.s c.requires (c.is_stuck.ensures.0 c.if-not-is_stuck.false)

pub returns : goal.returns
returns c =
    let t = c.args.table.bytes.now in
    let s = c.args.s in
    let l = c.args.chain.now in
    let x = c.follow-x.result in
    let is = followed t s c.requires (c.is_stuck.ensures.0 c.if-not-is_stuck.false) (chain_in x) c.follow-x.ensures.follows in
    let counted : length (take x.count x.numbers) ≡ x.count = length-take-le x.count x.numbers (omega (arith, c.follow-x.ensures.fits.0, c.follow-x.ensures.fits.1)) in
    chain-told (recipe_of t) (view s) l x c.if-chain-ne66.false is x.count (sym counted) c.from.result c.from.ensures _ c.put_numbers.ensures
