-- What is known of a sink after a text was written to it.
-- Public contracts rest on this file: readers must believe it.
use Rattle.std.specs.Prelude.{◌≡◌, ◌⊎◌, ℕ, ◌<◌, Bool, IsTrue, length, take, List, Result, MatchResult, Option}
use Rattle.std.specs.Io.KnownBytes.{Appends}
use Rattle.xc_text.specs.Calls.{Rose}

-- A source or a sink, and what is known of it.
pub record Seen (T Known : Type 0) : Type 0 where
  pub value : T
  pub state : Known

-- a value, and what is known of it
abbrev pub seen : {T Known : Type 0} → (T → Known) → T → Seen T Known
seen state x = record { value = x; state = state x }

-- A sink: how many of its writes and flushes failed, up to the counter's last value; whether its last call did; the
-- bytes that it took, if they are known; whether it holds none of them back; and how often it was flushed.
pub record SinkState : Type 0 where
  pub failures : ℕ
  pub failed : Bool
  pub taken : Option (List ℕ)
  pub settled : Bool
  pub flushes : ℕ

-- It took the whole text, met no failure, and wasn't flushed.
pub record Took (old new : SinkState) (text : List ℕ) : Type 0 where
  pub no_failure : new.failures ≡ old.failures
  pub whole : Appends old.taken new.taken text
  pub unflushed : new.flushes ≡ old.flushes

-- It took a beginning of the text, not all of it, failed at the next call, its last, and wasn't flushed.
pub record BrokeOff (old new : SinkState) (text : List ℕ) : Type 0 where
  pub failure : Rose old.failures new.failures
  pub last : IsTrue new.failed
  pub many : ℕ
  pub part : many < length text
  pub begun : Appends old.taken new.taken (take many text)
  pub unflushed : new.flushes ≡ old.flushes

-- It took the text, or failed after a beginning.
abbrev pub WasTold : SinkState → SinkState → List ℕ → Type 0
WasTold old new text = Took old new text ⊎ BrokeOff old new text

-- The result says which of the two.
abbrev pub Writes : {E : Type 0} → SinkState → SinkState → Result (Unit {0}) E → List ℕ → Type 0
Writes old new r text = MatchResult r (λ _. Took old new text) (λ _. BrokeOff old new text)

-- It took the one text, and then this is so of it and the other.
abbrev pub Behind : List ℕ → (SinkState → SinkState → List ℕ → Type 0) → SinkState → SinkState → List ℕ → Type 0
Behind first says old new text = (between : SinkState) × Took old between first × says between new text

-- It took a beginning of the text, or all of it.
abbrev pub Begins : SinkState → SinkState → List ℕ → Type 0
Begins old new text = (n : ℕ) × Appends old.taken new.taken (take n text)
