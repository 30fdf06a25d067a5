use Rattle.std.proofs.Common.{◌∙◌, ap, length}
use Rattle.xc_text.specs.Hashing.{taken}
use Rattle.xc_list.specs.Digests.{digest_after}
use Rattle.xc_list.specs.inner.Writing.{bytes_numbers, digest_multiplier}
use Rattle.xc_list.proofs.ProblemTexts.{after_next}
use Rattle.xc_list.proofs.digest.after_colours.Goals as goal

pub loop-c-preserved : goal.loop-c-preserved
loop-c-preserved c =
    c.after_bytes-reached.ensures ∙ ap (λ s. digest_after s (bytes_numbers c.colour.result.now)) c.loop-c.invariant
    ∙ after_next bytes_numbers (taken digest_multiplier c.args.state (length c.args.problem.now.colours))
    c.args.problem.now.colours c.loop-c.c _ c.colour.ensures
