use Rattle.std.proofs.lemmas.List.{length-map}
use Rattle.std.proofs.Common.{arith, is_some, sym, refl, ◌∙◌, map}
use Rattle.xc_input.specs.inner.Builders.{entry_of, AreNames}
use Rattle.std.proofs.lemmas.Result.{on_ok_weaker}
use Rattle.xc_input.specs.Faults.{bound_checks, name_of}
use Rattle.xc_input.specs.inner.Stages.{names_of}
use Rattle.xc_input.specs.declared.line_error.LineError.TheVariants.{Fault}
use Rattle.xc_input.proofs.FaultLemmas.{alone, stopped, bad-name, too-many, no-fault, judged-on, grown, none-is}
use Rattle.xc_input.proofs.FaultLemmas.{items-length}
use Rattle.xc_input.proofs.TokenLemmas.{names-more, name-solid}
use Rattle.xc_input.proofs.item_line.add_item.Goals as goal

pub returns-in_err-token-clause-judged : goal.returns-in_err-token-clause-judged
returns-in_err-token-clause-judged c =
    stopped (bound_checks c.args.kind (is_some c.args.line.now.bar) c.args.token.now)
    (alone (names_of (map entry_of c.args.line.now.items.items)) (name_of c.args.kind c.args.token.now))
    c.from_residual.result (Fault c.in_err-token.field-0.0) c.from_residual.ensures.1 refl
    (rw c.is_some.ensures at c.in_err-token.ensures)

pub returns-in-Some-clause-judged : goal.returns-in-Some-clause-judged
returns-in-Some-clause-judged c =
    bad-name c.args.kind (map entry_of c.args.line.now.items.items) _ c.args.token.now c.is_some.ensures
    c.in_ok-token.ensures c.name_fault.ensures c.in-Some.is

pub returns-then-len-ge-MOST_ITEMS-clause-judged : goal.returns-then-len-ge-MOST_ITEMS-clause-judged
returns-then-len-ge-MOST_ITEMS-clause-judged c =
    too-many c.args.kind (map entry_of c.args.line.now.items.items) _ c.args.token.now c.is_some.ensures
    c.in_ok-token.ensures c.name_fault.ensures c.in_default.is c.requires.table.0 c.place_of.ensures
    c.is_some-2.ensures c.if-is_some.false (c.len.ensures ∙ items-length c.args.line.now.items
    ∙ sym (length-map c.args.line.now.items.items entry_of)) c.if-len-ge-MOST_ITEMS.true

pub returns-clause-judged : goal.returns-clause-judged
returns-clause-judged c =
    judged-on _ _ c.push_item.result (no-fault c.args.kind (map entry_of c.args.line.now.items.items) _
    c.args.token.now c.is_some.ensures c.in_ok-token.ensures c.name_fault.ensures c.in_default.is c.requires.table.0
    c.place_of.ensures c.is_some-2.ensures c.if-is_some.false (c.len.ensures ∙ items-length c.args.line.now.items
    ∙ sym (length-map c.args.line.now.items.items entry_of)) c.if-len-ge-MOST_ITEMS.false) c.push_item.ensures.judged

pub returns-clause-added : goal.returns-clause-added
returns-clause-added c =
    on_ok_weaker c.push_item.result (λ h.
    let named = names-more c.in_ok-token.token.name.now c.requires.table.2 c.in_ok-add_name.ensures.added
    c.name_fault.ensures c.in_default.is (sym c.place_of.ensures ∙ none-is c.place_of.result
    (sym c.is_some-2.ensures ∙ c.if-is_some.false)) (name-solid c.args.kind _ c.args.token.now c.in_ok-token.ensures.1
    c.requires.solid) in
    let g = grown c.args.kind c.args.line.now.bar c.args.token.now c.is_some.ensures AreNames
    c.args.line.now.items.items c.push_item.new.items.items c.in_ok-token.ensures.1 c.requires.table named
    c.in_ok-add_name.ensures.added
    (omega (arith, c.len.ensures, items-length c.args.line.now.items, c.if-len-ge-MOST_ITEMS.false)) h in
    (g.0, g.1, refl)) c.push_item.ensures.added
