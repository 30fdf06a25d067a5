-- The calls of the system and what they return, what is known of the adapters of its streams, and when lines are passed
-- on.
-- Public contracts rest on this file: readers must believe it.
use Rattle.std.specs.Prelude.{ℕ, ◌+◌, ◌-◌, ◌/◌, ◌^◌, ◌<◌, ◌≤◌, ◌≡◌, ◌⊎◌, nat_eq, min, Bool, true, false, List, codes}
use Rattle.std.specs.Prelude.{length, Result, Ok, Err, if◌then◌else◌}
use Rattle.std.specs.List.{ends_with}
use Rattle.xc_text.specs.Calls.{one_more, counted, Rose}
use Rattle.xc_streams.specs.declared.system.Answer.{Answer}
use Rattle.xc_streams.specs.declared.system.System.{System}
use Rattle.xc_streams.specs.declared.system.Answer.TheVariants.{Whole, Part, Flushed, Failed}

-- Calls of the system: how many were made, how many of them failed and how many were flushes, up to the counters' last
-- value; how many were answered by `Whole`; and the last one's answer.
pub record Asked : Type 0 where
  pub calls : ℕ
  pub failures : ℕ
  pub flushes : ℕ
  pub wholes : ℕ
  pub last : Answer

-- the calls of a stream of std
abbrev pub calls_of : {T : Type 0} → System T → Asked
calls_of s =
    record { calls = s.calls; failures = s.failures; flushes = s.flushes; wholes = s.wholes.count; last = s.last }

-- whether a call failed
abbrev pub is_failure : Answer → Bool
is_failure Failed = true
is_failure _ = false

-- whether a call was a flush that succeeded
abbrev pub is_flushed : Answer → Bool
is_flushed Flushed = true
is_flushed _ = false

-- whether a write took all bytes, or a read came back
abbrev pub is_whole : Answer → Bool
is_whole Whole = true
is_whole _ = false

-- after a read or a write more, with this answer
abbrev pub answered : Answer → Asked → Asked
answered a old = record old {
  calls = one_more old.calls;
  failures = counted (is_failure a) old.failures;
  wholes = (if is_whole a then old.wholes + 1 else old.wholes);
  last = a;
}

-- after a flush more, with this answer
abbrev pub flushed : Answer → Asked → Asked
flushed a old = record (answered a old) { flushes = one_more old.flushes }

-- what a write came to: to take none of at least one byte is a failure
abbrev pub write_answer : {E : Type 0} → Result ℕ E → List ℕ → Answer
write_answer (Ok n) bytes = if nat_eq n (length bytes) then Whole else if nat_eq n 0 then Failed else Part
write_answer (Err e) bytes = Failed

-- what a call came to whose success is this answer
abbrev pub answer_of : {T E : Type 0} → Answer → Result T E → Answer
answer_of success (Ok x) = success
answer_of success (Err e) = Failed

-- Calls were made; the last one was a flush, the only one, and none failed. At most one write took all that it was
-- given, so each was given all that was left.
abbrev pub FlushedLast : Asked → Asked → Type 0
FlushedLast old new = (new.failures ≡ old.failures) × (new.last ≡ Flushed) × (new.flushes ≡ one_more old.flushes)
    × (new.wholes ≤ old.wholes + 1)

-- Calls were made; the last one failed, and no other; at most one was a flush, and at most one write took all.
abbrev pub BrokeLast : Asked → Asked → Type 0
BrokeLast old new = Rose old.failures new.failures × (new.last ≡ Failed) × (new.wholes ≤ old.wholes + 1)
    × ((new.flushes ≡ old.flushes) ⊎ (new.flushes ≡ one_more old.flushes))

-- whether a text ends after a line feed
abbrev pub ends_line : List ℕ → Bool
ends_line text = ends_with nat_eq text (codes "\n")

-- how many bytes have to be held back for a line's end to pass them on, where so many were passed on before: by lines
-- none, else an eighth of these, to at most 65,536
abbrev pub early : Bool → ℕ → ℕ
early by_line passed = if by_line then 0 else min 65536 (passed / 8)

-- nothing is held back, or less than that
abbrev pub IsLittle : Bool → ℕ → ℕ → Type 0
IsLittle by_line passed held = (held ≡ 0) ⊎ (held < early by_line passed)

-- how many bytes were passed on, up to the last value of the counter, by what was held back before and was taken, and
-- what is held back now
abbrev pub passed_of : ℕ → ℕ → ℕ → ℕ
passed_of passed before now = min (2 ^ 64 - 1) (passed + (before - now))
