use Rattle.std.proofs.Common.{arith}
use Rattle.xc_text.proofs.ByteLemmas.{has-all}
use Rattle.std.proofs.lemmas.Bool.{false_from_ne_true as not_false}
use Rattle.xc_text.proofs.LineLemmas.{found-line}
use Rattle.xc_text.proofs.line_reader.line_len.Goals as goal

pub returns-in_err-find_byte : goal.returns-in_err-find_byte
returns-in_err-find_byte c = grind (arith, has-all)

pub returns : goal.returns
returns c =
    let h = c.in_ok-find_byte.ensures in
    found-line c.args.bytes.now c.in_ok-find_byte.field-0 h.0.high
    (λ k p. not_false _ (h.0.before k (omega arith) p)) h.1
