use Rattle.std.proofs.Common.{refl}
use Rattle.xc_search.proofs.FewBoundedLemmas.{dead_bounded}
use Rattle.xc_search.proofs.few.Few.count_within.Goals as goal

pub returns-in-Dead-clause-counted : goal.returns-in-Dead-clause-counted
returns-in-Dead-clause-counted g c =
    let dead = c.in-Dead.ensures.dead refl in
    dead_bounded c.args.problem.now.puzzle (g.D.Dance.state c.args.dance.now).trail c.requires.searchable dead.0 dead.1
    dead.2
