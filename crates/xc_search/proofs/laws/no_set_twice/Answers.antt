use Rattle.xc_search.proofs.Completeness.{no_set_twice}
use Rattle.xc_search.proofs.laws.no_set_twice.Goals as goal

pub returns : goal.returns
returns c p j k s v = no_set_twice p v j k s
