-- The measure is twice the levels left, and one more for a row. The loop's invariant: what is left of the row makes of the list, as it is,
-- what it is to become.
-- Assumes nothing.
use Prim.Native.Nat.{ℕ}
use mathlib.Core.Path.{◌≡◌, sym, ap, ◌∙◌}
use native.Mathlib.Omega.{arith}
use lib.ListN.{length}
use Rattle.std.specs.Prelude.{Some, None}
use Rattle.rules.specs.Table.{kind_of}
use Rattle.rules.proofs.Grammar.Checking.{length-after}
use Rattle.links.proofs.Linking.{linked-empty, turn, plain, Test, once, again}
use Rattle.table.specs.declared.record.Kind.{Kind}
use Rattle.table.specs.declared.record.Kind.TheVariants.{If, While}
use Rattle.table.specs.Kinds.{number_of, kind_named}
use Rattle.table.proofs.Numbered.{number-named, one-number}
use borrow.Author.Rules.{rules}
use Rattle.links.proofs.+link_body_link_statement.Goals as goal
use Rattle.links.proofs.+link_body_link_statement.Goals.{link_statement-Joined-kind_at-2, link_statement-in-Some-If, link_statement-in-Some-While}

unnamed : (k : Kind) → Some k ≡ None → ⊥
unnamed k e = cc

pub link_body-place_after-requires : goal.link_body-place_after-requires
link_body-place_after-requires t c = let r = turn c.loop-rest.invariant.0 c.loop-rest-test.true in (omega (arith, r.whole), r.few)

pub link_body-span_of-requires : goal.link_body-span_of-requires
link_body-span_of-requires t c = omega (arith, (turn c.loop-rest.invariant.0 c.loop-rest-test.true).whole)

pub link_body-beyond-more-requires : goal.link_body-beyond-more-requires
link_body-beyond-more-requires t c = (turn c.loop-rest.invariant.0 c.loop-rest-test.true).whole

pub link_body-loop-rest-smaller : goal.link_body-loop-rest-smaller
link_body-loop-rest-smaller t c = omega (arith, ap length c.beyond-more.ensures, length-after c.loop-rest.rest.now, (turn c.loop-rest.invariant.0 c.loop-rest-test.true).whole)

pub link_body-loop-rest-preserved : goal.link_body-loop-rest-preserved
link_body-loop-rest-preserved t c =
    let l = c.loop-rest in
    let r = turn l.invariant.0 c.loop-rest-test.true in
    let o = c.span_of.ensures.0 in (
      rw (o, c.beyond-more.ensures) r.behind,
      rw (o, c.beyond-more.ensures, c.link_statement.ensures, c.place_after.ensures) (l.invariant.1 ∙ r.links c.args.follow l.next),
    )

pub link_body-returns : goal.link_body-returns
link_body-returns t c =
    let l = c.loop-rest in
    sym (l.invariant.1 ∙ linked-empty l.rest.now l.here c.args.follow l.next (omega (arith, c.loop-rest-test.false)))

pub link_statement-bounds-next-at : goal.link_statement-bounds-next-at
link_statement-bounds-next-at t c = omega (arith, (turn c.requires.0 c.requires.1).few)

pub link_statement-returns-in_default : goal.link_statement-returns-in_default
link_statement-returns-in_default t c =
    let k = c.in_default.field-0 in
    let n : kind_of c.args.part.now ≡ number_of k = number-named _ k (sym c.kind_at.ensures ∙ c.in_default.is) in
    let other_if : ¬ (k ≡ If) = search rules in
    let other_while : ¬ (k ≡ While) = search rules in
    plain c.requires.0 c.requires.1 (λ h. other_if (one-number k If (sym n ∙ h))) (λ h. other_while (one-number k While (sym n ∙ h))) c.args.then c.args.next.now

pub link_statement-returns-in_default-2 : goal.link_statement-returns-in_default-2
link_statement-returns-in_default-2 t c =
    let e : kind_named (kind_of c.args.part.now) ≡ None = sym c.kind_at.ensures ∙ c.in_default.is in
    plain c.requires.0 c.requires.1 (λ h. unnamed If (rw h at e)) (λ h. unnamed While (rw h at e)) c.args.then c.args.next.now

pub link_statement-enclosed-test-requires : goal.link_statement-enclosed-test-requires
link_statement-enclosed-test-requires t c = (turn c.requires.0 c.requires.1).whole

-- past the match the statement is a test, and what follows its body is known
test_there : (t : ℕ) (c : link_statement-Joined-kind_at-2 t) → Test c.args.at c.args.left c.args.part.now c.args.then c.match-kind_at-2.follow
test_there t c =
    let a = c.args in
    let f = c.match-kind_at-2.follow in
    elim c.match-kind_at-2.branch [
      | link_statement-in-Some-If w ↦
          let e : kind_of a.part.now ≡ 4 = search rules in
          let g : f ≡ a.then = search rules in
          rw g (once c.requires.0 c.requires.1 a.then e)
      | link_statement-in-Some-While w ↦
          let e : kind_of a.part.now ≡ 5 = search rules in
          let g : f ≡ a.at = search rules in
          rw g (again c.requires.0 c.requires.1 a.then e)
    ]

pub link_statement-span_of-requires : goal.link_statement-span_of-requires
link_statement-span_of-requires t c =
    let e = test_there t (goal.at.link_statement-span_of-requires t c).Joined-kind_at-2 in
    omega (arith, e.whole, ap length c.enclosed-test.ensures)

pub link_statement-beyond-requires : goal.link_statement-beyond-requires
link_statement-beyond-requires t c =
    let e = test_there t (goal.at.link_statement-beyond-requires t c).Joined-kind_at-2 in
    rw c.enclosed-test.ensures e.whole

pub link_statement-overflow_sub-left : goal.link_statement-overflow_sub-left
link_statement-overflow_sub-left t c = (test_there t (goal.at.link_statement-overflow_sub-left t c).Joined-kind_at-2).deep

pub link_statement-link_body-requires : goal.link_statement-link_body-requires
link_statement-link_body-requires t c =
    let e = test_there t (goal.at.link_statement-link_body-requires t c).Joined-kind_at-2 in
    (omega (arith, c.decreases, e.deep), rw (c.beyond.ensures, c.span_of.ensures.0, c.enclosed-test.ensures) e.body)

pub link_statement-returns : goal.link_statement-returns
link_statement-returns t c =
    let e = test_there t (goal.at.link_statement-returns t c).Joined-kind_at-2 in
    rw (c.link_body.ensures, c.beyond.ensures, c.span_of.ensures.0, c.enclosed-test.ensures) (sym (e.links c.args.next.now))
