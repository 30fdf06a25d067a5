-- What is said of a source once a proof was read from it.
-- Public contracts rest on this file: readers must believe it.
use Rattle.std.specs.Prelude.{◌≡◌, ℕ, Result, Ok, Err}
use Rattle.xc_text.specs.Calls.{Rose}
use Rattle.xc_text.specs.declared.line_reader.Unread.{Unread}
use Rattle.xc_text.specs.declared.line_reader.Unread.TheVariants.{Device as UnreadDevice, Memory as UnreadMemory}
use Rattle.xc_none.specs.declared.errors.ClausesError.{ClausesError}
use Rattle.xc_none.specs.declared.errors.ClausesError.TheVariants.{Memory as NoRoom, TooManyVariables as TooMany}
use Rattle.xc_none.specs.declared.errors.ClausesError.TheVariants.{Lost as LostOne}
use Rattle.xc_none.specs.declared.errors.NoneError.{NoneError}
use Rattle.xc_none.specs.declared.errors.NoneError.TheVariants.{Device, Memory, TooManyVariables, Lost}

-- why there is no judgement where there are no clauses
abbrev pub error_of_clauses : ClausesError → NoneError
error_of_clauses NoRoom = Memory
error_of_clauses TooMany = TooManyVariables
error_of_clauses LostOne = Lost

-- why there is no judgement where the proof was not read
abbrev pub error_of_unread : Unread → NoneError
error_of_unread UnreadDevice = Device
error_of_unread UnreadMemory = Memory

-- a failed read is returned exactly if a read failed
abbrev pub IsReported : {T : Type 0} → ℕ → ℕ → Result T NoneError → Type 0
IsReported old new (Ok x) = new ≡ old
IsReported old new (Err Device) = Rose old new
IsReported old new (Err Memory) = new ≡ old
IsReported old new (Err TooManyVariables) = new ≡ old
IsReported old new (Err Lost) = new ≡ old
