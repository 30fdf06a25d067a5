-- How far a run that joins spans came.
-- No public contract rests on this file.
use Rattle.std.specs.Prelude.{ℕ, ◌≡◌, ◌⊎◌, Bool, true, false, List, [], ◌++◌, None, Result, Ok, Err}
use Rattle.xc_text.specs.Calls.{Rose}
use Rattle.xc_text.specs.Words.{has}
use Rattle.xc_text.specs.inner.LineFeeds.{ended, AreWhole}
use Rattle.xc_text.specs.Sources.{SourceState, Gave, GaveAll}
use Rattle.xc_text.specs.declared.line_reader.Unread.{Unread}
use Rattle.xc_text.specs.declared.line_reader.Unread.TheVariants as unread
use Rattle.xc_text.specs.Texts.{SinkState, Took, BrokeOff, WasTold}
use Rattle.xc_tools.specs.Joins.{ToldGap, ToldOther, no_text, unread_text}
use Rattle.xc_streams.specs.ShownNames.{OfSource}
use Rattle.std.specs.Prelude.{codes}
use Rattle.xc_tools.specs.declared.joint.Lines.{Lines}
use Rattle.xc_tools.specs.declared.outcomes.Stop.{Stop}
use Rattle.xc_tools.specs.declared.outcomes.Stop.TheVariants.{NotText, Other, Gap, Device, Memory, WriteFailed}
use Rattle.xc_tools.specs.declared.joint.Joint.{Joint}
use Rattle.xc_tools.specs.declared.outcomes.Refusal.{Refusal}
use Rattle.xc_tools.specs.declared.outcomes.Refusal.TheVariants as refusals
use Rattle.xc_streams.specs.Flushes.{FlushFailed, WasFlushed}
use Rattle.xc_tools.specs.inner.SpanLines.{Stand, goes, faulty, mixed, apart, stand_after, join_of, start, wrote}

-- the state after lines from the beginning on
abbrev pub stand_reached : Bool → List (List ℕ) → Stand
stand_reached listed lines = stand_after (goes (start listed)) lines

-- what is written for them
abbrev pub joined_text : Bool → List (List ℕ) → List ℕ
joined_text listed lines = wrote (goes (start listed)) lines

-- what was taken and what is carried on
abbrev pub fed_lines : Lines → List ℕ → List ℕ
fed_lines l carry = ended l.given.lines ++ carry

-- The lines that were taken led here, and none of them has a line feed in it.
pub record IsAfter (l : Lines) : Type 0 where
  pub stands : stand_reached l.joint.listed l.given.lines ≡ goes (join_of l.joint)
  pub whole : AreWhole l.given.lines

-- This is so of a sink and what is written for the second lines after the first.
pub record Adds (listed : Bool) (before lines : List (List ℕ)) (says : SinkState → SinkState → List ℕ → Type 0)
    (old new : SinkState) : Type 0 where
  pub text : List ℕ
  pub more : joined_text listed lines ≡ joined_text listed before ++ text
  pub said : says old new text

-- why lines were the last ones
abbrev pub IsLast : Bool → List (List ℕ) → Joint → Stop → Type 0
IsLast listed lines new NotText = stand_reached listed lines ≡ faulty
IsLast listed lines new Other = stand_reached listed lines ≡ mixed
IsLast listed lines new Gap = stand_reached listed lines ≡ apart new.met.items new.next.items
IsLast listed lines new Device = ⊥
IsLast listed lines new Memory = Unit {0}
IsLast listed lines new WriteFailed = Unit {0}

-- what is so of the sink then
abbrev pub says_of : Stop → SinkState → SinkState → List ℕ → Type 0
says_of WriteFailed old new text = BrokeOff old new text
says_of _ old new text = Took old new text

-- Bytes began with lines; the last one stopped a run, which had taken the others.
pub record StopsIn (listed : Bool) (before : List (List ℕ)) (bytes : List ℕ) (new : Joint) (out_old out_new : SinkState)
    (e : Stop) : Type 0 where
  pub lines : List (List ℕ)
  pub rest : List ℕ
  pub front : bytes ≡ ended lines ++ rest
  pub whole : AreWhole lines
  pub last : IsLast listed lines new e
  pub adds : Adds listed before lines (says_of e) out_old out_new

-- why a line that was refused stops a run
abbrev pub stop_of : Refusal → Stop
stop_of refusals.NotText = NotText
stop_of refusals.Other = Other
stop_of refusals.Gap = Gap
stop_of refusals.Memory = Memory

-- why a reader of lines stops a run that asks it for one more
abbrev pub unread_stop : Unread → Stop
unread_stop unread.Device = Device
unread_stop unread.Memory = Memory

-- Why reading stopped: a read failed after what the source gave; or in lines that it gave.
abbrev pub StopsReading : Bool → Joint → SourceState → SourceState → SinkState → SinkState → Stop → Type 0
StopsReading listed new old_in new_in out_old out_new Device = (lines : List (List ℕ)) × (rest : List ℕ)
    × Gave old_in new_in (ended lines ++ rest) × AreWhole lines × Took out_old out_new (joined_text listed lines)
    × Rose old_in.failures new_in.failures
StopsReading listed new old_in new_in out_old out_new e =
    (bytes : List ℕ) × Gave old_in new_in bytes × StopsIn listed [] bytes new out_old out_new e
    × (new_in.failures ≡ old_in.failures)

-- what is said where the input ended, after what is carried on
abbrev pub EndsAt : List ℕ → Joint → Joint → Result (Unit {0}) Stop → Type 0
EndsAt carry old new (Ok u) = (carry ≡ []) × (old.finished ≡ true) × (old.found ≡ None) × (new ≡ old)
EndsAt carry old new (Err NotText) = (carry ≡ [] → old.found ≡ None → ⊥)
EndsAt carry old new (Err Gap) = (carry ≡ []) × (old.finished ≡ false) × (old.found ≡ None)
    × (new.met ≡ old.met) × (new.next.items ≡ codes "-")
EndsAt carry old new (Err Memory) = Unit {0}
EndsAt carry old new (Err e) = ⊥

-- What joining all that a source gives came to: it stopped in reading; or the source gave its end after lines and a
-- part of one, and the run ended so.
abbrev pub JoinsAll : Bool → Joint → SourceState → SourceState → SinkState → SinkState → Result (Unit {0}) Stop → Type 0
JoinsAll listed new old_in new_in out_old out_new r =
    ((e : Stop) × (r ≡ Err e) × StopsReading listed new old_in new_in out_old out_new e)
    ⊎ ((lines : List (List ℕ)) × (rest : List ℕ) × (old : Joint) × GaveAll old_in new_in (ended lines ++ rest)
    × AreWhole lines × (has 10 rest ≡ false) × (stand_reached listed lines ≡ goes (join_of old)) × EndsAt rest old new r
    × Took out_old out_new (joined_text listed lines))

-- no write failed before the stop
abbrev pub NoWriteFailed : Stop → Type 0
NoWriteFailed WriteFailed = ⊥
NoWriteFailed _ = Unit {0}

-- nor a read
abbrev pub NothingFailed : Stop → Type 0
NothingFailed WriteFailed = ⊥
NothingFailed Device = ⊥
NothingFailed _ = Unit {0}

-- the message of a run that stopped, by its status
abbrev pub ToldStop : List (List ℕ) → Joint → Stop → ℕ → SinkState → SinkState → SinkState → SinkState → Type 0
ToldStop files joint stop status out_old out_new old new =
    let told = WasTold old new in
    let flushed = WasFlushed out_old out_new in
    ((status ≡ 2) × (stop ≡ NotText) × flushed × OfSource files (λ file. (line : ℕ) × told (no_text file line)))
    ⊎ ((status ≡ 5) × (stop ≡ Gap) × flushed × ToldGap files told joint.met.items joint.next.items)
    ⊎ ((status ≡ 5) × (stop ≡ Other) × flushed × OfSource files (λ first. OfSource files (ToldOther told first)))
    ⊎ ((status ≡ 4) × NothingFailed stop × flushed × told (codes "Out of memory.\n"))
    ⊎ ((status ≡ 3) × (stop ≡ Device) × flushed
    × (OfSource files (λ file. told (unread_text file)) ⊎ told (codes "Read failed.\n")))
    ⊎ ((status ≡ 3) × NoWriteFailed stop × FlushFailed out_old out_new × told (codes "Write failed.\n"))
    ⊎ ((status ≡ 3) × (stop ≡ WriteFailed) × (out_new ≡ out_old) × told (codes "Write failed.\n"))
