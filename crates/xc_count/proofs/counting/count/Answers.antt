use Rattle.std.proofs.Common.{sym, subst}
use Rattle.xc_count.specs.Number.{HasCovers}
use Rattle.xc_count.proofs.Number.{listed}
use Rattle.xc_count.proofs.counting.count.Goals as goal

pub returns-clause-covers : goal.returns-clause-covers
returns-clause-covers c =
    let p = c.args.problem.now.puzzle in
    subst (HasCovers p) (sym c.in_ok-covers.ensures.members) (listed p c.in_ok-covers.ensures.valid)
