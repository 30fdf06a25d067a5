use Rattle.xc_count.proofs.Number.{listed, one_number}
use Rattle.xc_count.proofs.counting.one_number_of_covers.Goals as goal

pub returns-clause-listed : goal.returns-clause-listed
returns-clause-listed c p v = listed p v

pub returns-clause-once : goal.returns-clause-once
returns-clause-once c p m n v a b = one_number p v m n a b
