use Rattle.std.proofs.Common.{arith}
use Rattle.xc_input.specs.declared.at_fault.FaultyToken.{FaultyToken}
use Rattle.std.proofs.lemmas.List.{length-map}
use Rattle.std.proofs.Common.{unwrap_or, sym, ap, ◌∙◌, subst}
use Rattle.xc_input.specs.Tokens.{tokens, parts}
use Rattle.xc_input.specs.Faults.{first, token_checks, Context}
use Rattle.xc_input.specs.FaultyTokens.{IsAtFault}
use Rattle.xc_input.specs.inner.Stages.{names_of, Row, context}
use Rattle.xc_input.specs.inner.Builders.{entry_of}
use Rattle.xc_input.proofs.FaultLemmas.{items-length, keys-length, tells-same}
use Rattle.xc_input.proofs.GrammarLemmas.{parts-clear, parts-checked, context-is, no-row, P}
use Rattle.xc_input.proofs.faulty.faulty_use.Goals as goal

pub returns-in-Err-Fault : goal.returns-in-Err-Fault
returns-in-Err-Fault c = grind (arith, first, parts-checked, parts, no-row)

pub faulty_among-requires-clause-marks : goal.faulty_among-requires-clause-marks
faulty_among-requires-clause-marks c = grind (arith, items-length, keys-length)

pub returns : goal.returns
returns c =
    let row = c.in-Ok.row in
    let ps = parts c.args.items.now in
    let IsAt : FaultyToken → Context → Type 0 = λ t k. IsAtFault tokens (token_checks k) c.args.line.now t in
    let faultless = ap first (sym (parts-checked ps (no-row c.args.kind))) ∙ c.in-Ok.ensures.judged in
    let are = ap (λ (r : Row). names_of r.entries) (sym c.in-Ok.ensures.row.1) ∙ sym c.in-Ok.ensures.row.0.0 in
    let many = ap P (sym c.in-Ok.ensures.row.1) ∙ ap (λ n. unwrap_or row.bar n)
    (length-map row.items.items entry_of ∙ sym (items-length row.items) ∙ sym c.len.ensures)
    ∙ sym c.unwrap_or-primary.ensures in
    let said = context-is c.args.kind ps ((parts-clear c.args.kind ps).1 faultless).0.1
    ∙ (λ i. context c.args.kind (are i) (many i)) in
    tells-same c.faulty_among.result (λ t p. (faultless, subst (IsAt t) (sym said) p)) (λ t q. subst (IsAt t) said q.1)
    c.faulty_among.ensures
