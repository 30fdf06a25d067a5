use Rattle.std.proofs.Common.{arith}
use Rattle.xc_search.proofs.Completeness.{each_member_covers, each_cover_is_listed_once}
use Rattle.xc_search.proofs.search.Search.new.Goals as goal

pub returns-in_default-clause-right : goal.returns-in_default-clause-right
returns-in_default-clause-right g c = each_member_covers c.args.problem.now.puzzle c.most_levels.ensures.valid

pub returns-in_default-clause-complete : goal.returns-in_default-clause-complete
returns-in_default-clause-complete g c = each_cover_is_listed_once c.args.problem.now.puzzle c.most_levels.ensures.valid

pub returns-in-Ok-new-clause-begun : goal.returns-in-Ok-new-clause-begun
returns-in-Ok-new-clause-begun g c = grind (arith)
