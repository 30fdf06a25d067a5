use Rattle.std.proofs.Common.{◌≢◌, ◌∙◌, subst, append_assoc, arith}
use Rattle.std.proofs.lemmas.Result.{err_from_is_err_and}
use Rattle.xc_input.specs.declared.kind.Kind.{Kind}
use Rattle.xc_text.specs.Lines.{lines_of}
use Rattle.xc_input.specs.FirstFault.{first_fault}
use Rattle.xc_input.specs.Readings.{IsErrorFor}
use Rattle.xc_c.proofs.TextLemmas.{error-of-text, has-content}
use Rattle.xc_c.proofs.texts.take_lines.Goals as goal

pub returns-in_err-line-clause-error : goal.returns-in_err-line-clause-error
returns-in_err-line-clause-error c =
    let error = err_from_is_err_and c.from_residual.result c.from_residual.ensures.1 in
    let so_far = c.loop-rest.invariant in
    let more = lines_of c.cut_line.result.1.now in
    let text = lines_of c.args.text.now in
    rw (error.1, error.2) (subst (λ (kind : Kind). IsErrorFor (first_fault kind text) c.in_err-line.field-0.0)
    (c.in_err-line.ensures.kind ∙ so_far.0) (error-of-text _ c.line.new.self.lines more text c.in_err-line.field-0.0
    (grind (arith, append_assoc, so_far.2, c.cut_line.ensures.lines, c.in_err-line.ensures.given))
    c.in_err-line.ensures.state))

pub returns-in_err-line-clause-memory : goal.returns-in_err-line-clause-memory
returns-in_err-line-clause-memory c = grind (arith, err_from_is_err_and, has-content)
