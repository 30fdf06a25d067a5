use Rattle.xc_none_run.proofs.proving.tell_answer.Goals as goal

pub tell_none-requires : goal.tell_none-requires
tell_none-requires g c = c.requires c.in-Refuted.is

pub returns-in-Unfinished : goal.returns-in-Unfinished
returns-in-Unfinished g c = rw c.in-Unfinished.is (c.refuse.ensures.status, c.refuse.ensures.told)
