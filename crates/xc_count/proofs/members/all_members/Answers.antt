use Rattle.std.proofs.Common.{ap}
use Rattle.xc_search.specs.InSpan.{InSpan}
use Rattle.xc_count.proofs.Turns.{all_left}
use Rattle.xc_count.proofs.members.all_members.Goals as goal

pub returns-in-Ok-clause-left : goal.returns-in-Ok-clause-left
returns-in-Ok-clause-left c =
    all_left c.args.problem.now.puzzle c.in-Ok.span c.in-Ok.ensures.left
    (ap (λ (t : InSpan). t.until) c.in-Ok.ensures.begun)
