use Rattle.refutation.proofs.TrailLemmas.{among_none}
use Rattle.refutation.proofs.trail.Trail.new.Goals as goal

pub invariant_of-result : goal.invariant_of-result
invariant_of-result c =
    among_none c.args.literals c.in_ok-marks.marks.items c.new.result.items c.in_ok-marks.ensures
