use Rattle.std.proofs.Common.{◌∙◌, ap, length}
use Rattle.xc_text.specs.Hashing.{taken}
use Rattle.xc_list.specs.Digests.{digest_after}
use Rattle.xc_list.specs.inner.Writing.{uses_numbers, digest_multiplier}
use Rattle.xc_list.proofs.ProblemTexts.{after_next}
use Rattle.xc_list.proofs.digest.after_options.Goals as goal

pub loop-o-preserved : goal.loop-o-preserved
loop-o-preserved c =
    c.after_uses-reached.ensures ∙ ap (λ s. digest_after s (uses_numbers c.option.result.now)) c.loop-o.invariant
    ∙ after_next uses_numbers (taken digest_multiplier c.args.state (length c.args.problem.now.puzzle.options))
    c.args.problem.now.puzzle.options c.loop-o.o _ c.option.ensures.value
