use Rattle.std.proofs.lemmas.Grind.{common_steps}
use Rattle.std.proofs.lemmas.List.{take_rest}
use Rattle.std.proofs.Common.{◌+◌, drop, arith, sym, ap, ◌∙◌, add-one}
use Rattle.xc_text.proofs.ByteLemmas.{has-all, has-at}
use Rattle.std.proofs.lemmas.Bool.{false_from_ne_true as not_false}
use Rattle.xc_text.proofs.bytes.cut_at.Goals as goal

pub returns-in-None-clause-front : goal.returns-in-None-clause-front
returns-in-None-clause-front c =
    sym (has-all c.args.byte c.args.bytes.now (λ k p. not_false _ (c.in-None.ensures k (omega arith) p))).1

pub returns-in-None-clause-back : goal.returns-in-None-clause-back
returns-in-None-clause-back c = grind (arith, has-all)

pub returns-in-Some-clause-front : goal.returns-in-Some-clause-front
returns-in-Some-clause-front c = grind (arith, common_steps, has-at)

pub returns-in-Some-clause-back : goal.returns-in-Some-clause-back
returns-in-Some-clause-back c =
    let h = c.in-Some.ensures in
    let f = has-at c.args.byte c.args.bytes.now c.in-Some.i h.0.high (λ k p. not_false _ (h.0.before k (omega arith) p))
    h.1 in (
      f.0,
      take_rest c.args.bytes.now (c.in-Some.i + 1) ∙ ap (λ n. drop n c.args.bytes.now) (add-one c.in-Some.i) ∙ f.2,
    )
