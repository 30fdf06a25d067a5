use Rattle.std.proofs.Common.{refl}
use Rattle.xc_search.proofs.FewLemmas.{dead_counted}
use Rattle.xc_search.proofs.few.Few.count.Goals as goal

pub returns-in-Dead-clause-counted : goal.returns-in-Dead-clause-counted
returns-in-Dead-clause-counted g c =
    let dead = rw c.requires.same at (c.in-Dead.ensures.dead refl) in
    dead_counted c.args.problem.now.puzzle (g.D.Dance.state c.args.dance.now).trail c.requires.searchable
    c.requires.once dead.0 dead.1 dead.2

pub count_items-requires-clause-few : goal.count_items-requires-clause-few
count_items-requires-clause-few g c = (c.in-All.ensures.all c.in-All.items refl).0

pub count_items-requires-clause-opened : goal.count_items-requires-clause-opened
count_items-requires-clause-opened g c = rw c.requires.same at (c.in-All.ensures.all c.in-All.items refl).1
