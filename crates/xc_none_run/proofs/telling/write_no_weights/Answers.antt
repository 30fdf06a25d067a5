use Rattle.xc_none_run.proofs.telling.write_no_weights.Goals as goal

pub returns-in-Fault : goal.returns-in-Fault
returns-in-Fault g c = rw c.in-Fault.is c.write_faulty_line.ensures
