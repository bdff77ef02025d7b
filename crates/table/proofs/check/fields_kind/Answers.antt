use Rattle.std.proofs.Common.{refl, sym, ap, ◌∙◌, rules}
use Rattle.std.proofs.lemmas.Result.{err_from_is_err_and}
use denote.Enum.Bare.{differs_true, differs_false}
use Rattle.rules.specs.Table.{is_of}
use Rattle.rules.proofs.Verdicts.{not_true}
use Rattle.table.specs.contracts.check.Sort.{the_type}
use Rattle.table.specs.Check.{sort_of}
use Rattle.table.proofs.Numbered.{number-named, named-kind, one-sort}
use Rattle.table.proofs.Records.{due-field, span-fields, name-field, value-field, fault-kind, fault-span, fault-name, fault-value, fault_none}
use Rattle.table.proofs.check.fields_kind.Goals as goal
use Rattle.table.proofs.check.fields_kind.Goals.{then-not-fit-via-then-not-fit, then-not-fit-via-else-not-fit+then-not-span_fits}

pub returns-in_err-kind-clause-fault : goal.returns-in_err-kind-clause-fault
returns-in_err-kind-clause-fault c p f =
    let r = err_from_is_err_and c.from_residual.result c.from_residual.ensures.1 in
    rw (r.1, r.2) (fault-kind _ _ p (ap (is_of (sort_of c.args.sort)) (sym f.kind_is) ∙ named-kind (sort_of c.args.sort) c.args.number (sym c.in_err-kind.ensures)))

pub returns-then-ne-clause-fault : goal.returns-then-ne-clause-fault
returns-then-ne-clause-fault c p f =
    let k = number-named c.args.number c.in_ok-kind.kind (sym c.in_ok-kind.ensures) in
    let other = differs_true the_type _ _ (sym c.ne.ensures ∙ c.if-ne.true) in
    fault-kind _ _ p (due-field f c.in_ok-kind.kind k (sort_of c.args.sort) (not_true _ (λ h. other (one-sort _ _ _ c.sort.ensures h))))

pub returns-then-not-fit-clause-fault : goal.returns-then-not-fit-clause-fault
returns-then-not-fit-clause-fault c p f =
    let k = number-named c.args.number c.in_ok-kind.kind (sym c.in_ok-kind.ensures) in
    let same = differs_false the_type (search rules) _ _ (sym c.ne.ensures ∙ c.if-ne.false) in
    fault-span _ _ p (due-field f c.in_ok-kind.kind k (sort_of c.args.sort) (rw (← same) c.sort.ensures))
    (sym (span-fields f c.in_ok-kind.kind k _) ∙ elim c.then-not-fit.branch [
      | then-not-fit-via-then-not-fit w ↦ rw (sym c.fit.ensures ∙ w.if-not-fit.true) refl
      | then-not-fit-via-else-not-fit+then-not-span_fits w ↦ rw (sym c.fit.ensures ∙ w.if-not-fit.false, ← w.encloses.ensures) (sym w.span_fits.ensures ∙ w.if-not-span_fits.true)
    ])

pub returns-then-not-name_fits-clause-fault : goal.returns-then-not-name_fits-clause-fault
returns-then-not-name_fits-clause-fault c p f =
    let k = number-named c.args.number c.in_ok-kind.kind (sym c.in_ok-kind.ensures) in
    let same = differs_false the_type (search rules) _ _ (sym c.ne.ensures ∙ c.if-ne.false) in
    fault-name _ _ p (due-field f c.in_ok-kind.kind k (sort_of c.args.sort) (rw (← same) c.sort.ensures))
    (sym (span-fields f c.in_ok-kind.kind k _) ∙ rw (sym c.fit.ensures ∙ c.if-not-fit.false, ← c.encloses.ensures) (sym c.span_fits.ensures ∙ c.if-not-span_fits.false))
    (sym (name-field f c.in_ok-kind.kind k) ∙ sym c.name_fits.ensures ∙ c.if-not-name_fits.true)

pub returns-then-not-value_fits-clause-fault : goal.returns-then-not-value_fits-clause-fault
returns-then-not-value_fits-clause-fault c p f =
    let k = number-named c.args.number c.in_ok-kind.kind (sym c.in_ok-kind.ensures) in
    let same = differs_false the_type (search rules) _ _ (sym c.ne.ensures ∙ c.if-ne.false) in
    fault-value _ _ p (due-field f c.in_ok-kind.kind k (sort_of c.args.sort) (rw (← same) c.sort.ensures))
    (sym (span-fields f c.in_ok-kind.kind k _) ∙ rw (sym c.fit.ensures ∙ c.if-not-fit.false, ← c.encloses.ensures) (sym c.span_fits.ensures ∙ c.if-not-span_fits.false))
    (sym (name-field f c.in_ok-kind.kind k) ∙ sym c.name_fits.ensures ∙ c.if-not-name_fits.false)
    (sym (value-field f c.in_ok-kind.kind k) ∙ sym c.value_fits.ensures ∙ c.if-not-value_fits.true)

pub returns-clause-fault : goal.returns-clause-fault
returns-clause-fault c p f =
    let k = number-named c.args.number c.in_ok-kind.kind (sym c.in_ok-kind.ensures) in
    let same = differs_false the_type (search rules) _ _ (sym c.ne.ensures ∙ c.if-ne.false) in
    fault_none _ _ p (due-field f c.in_ok-kind.kind k (sort_of c.args.sort) (rw (← same) c.sort.ensures))
    (sym (span-fields f c.in_ok-kind.kind k _) ∙ rw (sym c.fit.ensures ∙ c.if-not-fit.false, ← c.encloses.ensures) (sym c.span_fits.ensures ∙ c.if-not-span_fits.false))
    (sym (name-field f c.in_ok-kind.kind k) ∙ sym c.name_fits.ensures ∙ c.if-not-name_fits.false)
    (sym (value-field f c.in_ok-kind.kind k) ∙ sym c.value_fits.ensures ∙ c.if-not-value_fits.false)

pub returns-clause-kind : goal.returns-clause-kind
returns-clause-kind c = number-named c.args.number c.in_ok-kind.kind (sym c.in_ok-kind.ensures)
