use Rattle.std.proofs.Common.{◌∙◌, ap}
use Rattle.std.specs.Int.{w64, to_be_bytes}
use Rattle.hex.specs.Hex.{encode_lower}
use Rattle.xc_list.specs.Digests.{digest_of}
use Rattle.xc_list.proofs.digest.problem_digest.Goals as goal

pub returns-clause-value : goal.returns-clause-value
unfolding digest_of
returns-clause-value c =
    c.hexadecimal.ensures ∙ ap (λ n. encode_lower (to_be_bytes w64 n)) c.after_problem.ensures.state
