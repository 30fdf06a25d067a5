use Rattle.xc_list.proofs.messages.summary.Goals as goal

pub returns-in-Limit : goal.returns-in-Limit
returns-in-Limit g c = rw c.in-Limit.is c.write_total-in-Limit.ensures
