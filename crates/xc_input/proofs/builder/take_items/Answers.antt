use Rattle.std.proofs.Common.{◌∙◌, ap, unwrap_or}
use Rattle.xc_input.proofs.FaultLemmas.{items-length}
use Rattle.xc_input.proofs.OptionLemmas.{begun}
use Rattle.xc_input.proofs.builder.take_items.Goals as goal

pub returns-clause-taken : goal.returns-clause-taken
returns-clause-taken c =
    let row = c.in_ok-row.ensures.row in
    let tables = c.in_ok-builder.ensures in
    let primary =
    tables.primary ∙ c.unwrap_or-primary.ensures
    ∙ ap (unwrap_or c.in_ok-row.row.bar) (c.len.ensures ∙ items-length c.in_ok-row.row.items) in
    rw (← row.1) (begun c.requires.sound c.requires.unstarted c.in_ok-row.row row.0 tables.sound tables.names primary
    tables.colours tables.uses c.in_ok-starts.ensures.items)
