use Rattle.xc_none_run.proofs.proving.write_no_judgement.Goals as goal

pub returns-in-TooManyVariables : goal.returns-in-TooManyVariables
returns-in-TooManyVariables g c = rw c.in-TooManyVariables.is c.write_all-in-TooManyVariables.ensures
