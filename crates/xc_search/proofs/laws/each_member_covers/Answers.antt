use Rattle.xc_search.proofs.Completeness.{each_member_covers}
use Rattle.xc_search.proofs.laws.each_member_covers.Goals as goal

pub returns : goal.returns
returns c = each_member_covers
