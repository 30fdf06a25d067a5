-- What a flush behind all that was written does.
-- Public contracts rest on this file: readers must believe it.
use Rattle.std.specs.Prelude.{◌≡◌, ◌+◌, IsTrue}
use Rattle.std.specs.Io.KnownBytes.{Keeps}
use Rattle.xc_text.specs.Calls.{Rose}
use Rattle.xc_text.specs.Texts.{SinkState}

-- A sink was flushed once more, met no failure, and holds nothing back.
pub record WasFlushed (old new : SinkState) : Type 0 where
  pub no_failure : new.failures ≡ old.failures
  pub kept : Keeps old.taken new.taken
  pub settled : IsTrue new.settled
  pub flushed_once : new.flushes ≡ old.flushes + 1

-- Its flush failed, its last call.
pub record FlushFailed (old new : SinkState) : Type 0 where
  pub failure : Rose old.failures new.failures
  pub kept : Keeps old.taken new.taken
  pub last : IsTrue new.failed
  pub flushed_once : new.flushes ≡ old.flushes + 1
