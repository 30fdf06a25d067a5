use Rattle.std.specs.Fmt.{digits}
use Rattle.xc_search.specs.Listing.{listing, listing_to}
use Rattle.xc_list.proofs.laws.worked_texts.Goals as goal

pub returns : goal.returns
unfolding listing listing_to digits
returns c = search
