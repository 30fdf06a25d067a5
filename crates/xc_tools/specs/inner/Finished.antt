-- What was reported of a run that came to its end.
-- No public contract rests on this file.
use Rattle.std.specs.Prelude.{◌≡◌, ◌⊎◌, ℕ, IsTrue, codes}
use Rattle.xc_text.specs.Calls.{Rose}
use Rattle.xc_text.specs.Texts.{SinkState, Took, BrokeOff, WasTold}
use Rattle.xc_list.specs.Messages.{summary_text}
use Rattle.xc_list.specs.declared.ends.End.{End}

-- By its status: the output was flushed and the end reported; the flush failed, which was reported; or the report of
-- the end broke off.
abbrev pub DidFinish : ℕ → End → SinkState → SinkState → SinkState → SinkState → Type 0
DidFinish status end out_old out_new old new =
    ((status ≡ 0) × (out_new.failures ≡ out_old.failures) × IsTrue out_new.settled × Took old new (summary_text end))
    ⊎ ((status ≡ 3) × Rose out_old.failures out_new.failures × IsTrue out_new.failed
    × WasTold old new (codes "Write failed.\n"))
    ⊎ ((status ≡ 3) × (out_new.failures ≡ out_old.failures) × IsTrue out_new.settled
    × BrokeOff old new (summary_text end))
