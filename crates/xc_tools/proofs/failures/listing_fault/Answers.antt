use Rattle.xc_tools.proofs.failures.listing_fault.Goals as goal

pub returns-in-BadLine : goal.returns-in-BadLine
returns-in-BadLine g c = rw c.in-BadLine.is c.write_listing_fault.ensures
