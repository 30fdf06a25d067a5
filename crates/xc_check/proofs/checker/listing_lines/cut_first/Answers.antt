use Rattle.std.proofs.Common.{arith, refl}
use Rattle.xc_text.proofs.ByteLemmas.{has-all, first_cut}
use Rattle.xc_check.proofs.checker.listing_lines.cut_first.Goals as goal

pub returns-in_err-k : goal.returns-in_err-k
returns-in_err-k c = grind (arith, has-all)

pub returns : goal.returns
returns c =
    let h = c.in_ok-k.ensures in
    first_cut c.args.byte c.args.text.now _ c.in_ok-k.k refl h.0.high (λ k p.
    (grind (arith, h.0.before k (omega arith) p))) h.1
