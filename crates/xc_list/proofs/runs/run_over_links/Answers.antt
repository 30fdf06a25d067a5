use Rattle.std.proofs.Common.{arith}
use Rattle.std.proofs.Common.{rules}
use Rattle.xc_search.proofs.Completeness.{each_member_covers, each_cover_is_listed_once}
use Rattle.xc_list.proofs.runs.run_over_links.Goals as goal

pub returns-in_err-links-clause-right : goal.returns-in_err-links-clause-right
returns-in_err-links-clause-right g c = each_member_covers c.args.problem.now.puzzle c.most_moves.ensures.valid

pub returns-in_err-links-clause-complete : goal.returns-in_err-links-clause-complete
returns-in_err-links-clause-complete g c = grind (arith, each_cover_is_listed_once)

pub returns-clause-built : goal.returns-clause-built
returns-clause-built g c = search rules
