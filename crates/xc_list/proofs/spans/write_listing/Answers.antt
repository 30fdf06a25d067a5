use Rattle.xc_text.proofs.SinkLemmas.{broke_before, if_failed}
use Rattle.xc_list.proofs.SpanLemmas.{then_result, then_noted}
use Rattle.xc_list.proofs.spans.write_listing.Goals as goal

pub returns-in_err-write_heading-clause-wrote : goal.returns-in_err-write_heading-clause-wrote
returns-in_err-write_heading-clause-wrote g c =
    let named = c.args.texts.now.same in
    if_failed _ _ c.from_residual.ensures.0 (broke_before _ (rw named at c.in_err-write_heading.ensures))

pub returns-clause-wrote : goal.returns-clause-wrote
returns-clause-wrote g c =
    let named = c.args.texts.now.same in
    then_result _ _ _ c.write_each.result _ (rw named at c.in_ok-write_heading.ensures) c.write_each.ensures.wrote

pub returns-clause-noted : goal.returns-clause-noted
returns-clause-noted g c =
    let named = c.args.texts.now.same in
    then_noted _ c.write_each.result _ (rw named at c.note_heading.ensures) c.write_each.ensures.noted
