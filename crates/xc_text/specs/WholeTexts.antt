-- What is said of a source once its text was read.
-- Public contracts rest on this file: readers must believe it.
use Rattle.std.specs.Prelude.{◌≡◌, ℕ, Result, Ok, Err}
use Rattle.xc_text.specs.Calls.{Rose}
use Rattle.xc_text.specs.declared.line_reader.Unread.{Unread}
use Rattle.xc_text.specs.declared.line_reader.Unread.TheVariants.{Device, Memory}

-- a failed read is returned exactly if a read failed
abbrev pub IsCounted : {T : Type 0} → ℕ → ℕ → Result T Unread → Type 0
IsCounted old new (Ok x) = new ≡ old
IsCounted old new (Err Device) = Rose old new
IsCounted old new (Err Memory) = new ≡ old
