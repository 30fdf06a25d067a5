use Rattle.std.proofs.Common.{arith}
use Rattle.xc_search.specs.Listing.{listing, listing_to}
use Rattle.xc_search.proofs.laws.worked_listings.Goals as goal

pub returns : goal.returns
unfolding listing listing_to
returns c = grind arith
