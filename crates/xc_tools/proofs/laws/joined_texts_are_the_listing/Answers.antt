use Rattle.xc_tools.proofs.Written.{joined-written}
use Rattle.xc_tools.proofs.laws.joined_texts_are_the_listing.Goals as goal

pub returns : goal.returns
returns c a listed written texts sound w are = joined-written a listed written texts sound w are
