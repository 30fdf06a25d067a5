use Rattle.std.proofs.Common.{refl}
use Rattle.xc_search.specs.Listing.{listing, listing_to}
use Rattle.xc_search.specs.Nodes.{row_count, rows_to}
use Rattle.xc_search.proofs.laws.worked_spans.Goals as goal

pub returns : goal.returns
unfolding listing listing_to row_count rows_to
returns c = record {
  beginning = refl;
  number = refl;
  itself = refl;
  rows = refl;
  from = refl;
  until = refl;
  nothing = refl;
  all_rows = refl;
}
