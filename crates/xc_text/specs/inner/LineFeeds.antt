-- Lines that line feeds end, and how a reader of lines comes to the next one.
-- No public contract rests on this file.
use Prim.Native.Char.{code}
use Rattle.std.specs.Prelude.{◌≡◌, ℕ, List, [], ◌∷◌, ◌++◌, false, length, Result, ◌+◌, ◌<◌, Bool, true, Ok, Err}
use Rattle.std.specs.Io.KnownBytes.{Consumes, IsAtEnd, Keeps}
use Rattle.xc_text.specs.Words.{has}
use Rattle.xc_text.specs.Sources.{SourceState}
use Rattle.xc_text.specs.Calls.{Rose}
use Rattle.xc_text.specs.LinesRead.{IsLine, LinesRead}
use Rattle.xc_text.specs.declared.source.ReadFailed.{ReadFailed}

-- lines, each with a line feed after it
abbrev pub ended : List (List ℕ) → List ℕ
ended [] = []
ended (line ∷ lines) = line ++ code "\n" ∷ ended lines

-- lines without a line feed in them
abbrev pub AreWhole : List (List ℕ) → Type 0
AreWhole [] = Unit {0}
AreWhole (line ∷ lines) = (has (code "\n") line ≡ false) × AreWhole lines

-- how many bytes a source is asked for at once
abbrev pub read_size : ℕ
read_size = 16384

-- whether a line ended in what was read; what was read is carried on where none did
abbrev pub Cut : LinesRead → LinesRead → Bool → Type 0
Cut old new true = (old.rest ++ old.unread ≡ new.line ++ new.unread) × IsLine new.line
Cut old new false = (has (code "\n") old.unread ≡ false) × (new.rest ≡ old.rest ++ old.unread) × (new.unread ≡ [])

-- what is carried on, and the end of its line behind it: nothing where nothing was
abbrev pub ended_carry : List ℕ → List ℕ → List ℕ
ended_carry [] end = []
ended_carry (b ∷ carry) end = (b ∷ carry) ++ end

-- whether a read gave something
abbrev pub IsMore : List ℕ → SourceState → Bool → Type 0
IsMore piece new true = 0 < length piece
IsMore piece new false = (piece ≡ []) × IsAtEnd new.rest

-- one read, and what it gave
abbrev pub ReadOnce : List ℕ → SourceState → SourceState → Result Bool ReadFailed → Type 0
ReadOnce piece old new (Ok more) = (new.failures ≡ old.failures) × (new.limit + length piece ≡ old.limit)
    × Consumes old.rest new.rest piece × (new.given ≡ old.given ++ piece ∷ []) × IsMore piece new more
ReadOnce piece old new (Err e) = Rose old.failures new.failures × (new.given ≡ old.given) × Keeps old.rest new.rest
    × (new.limit ≡ old.limit) × (piece ≡ [])

-- one read, by a relation that its source says of each read, into a buffer of this size
abbrev pub AskedFor : {T : Type 0} → ℕ → (T → List ℕ → T → List ℕ → Result ℕ ReadFailed → Type 0) → T → T → Type 0
AskedFor size reads old new = (before after : List ℕ) × (r : Result ℕ ReadFailed) × reads old before new after r
    × (length before ≡ size)
