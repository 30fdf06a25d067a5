-- What is added to numbers that were read, and what a text says.
-- No public contract rests on this file.
use Rattle.std.specs.Prelude.{ℕ, ◌≡◌, List, ◌++◌, None, Some, Result, Ok, Err, ℤ, Vec}
use Rattle.std.specs.declared.alloc.Global.{Global}
use Rattle.xc_text.specs.Lines.{lines_of}
use Rattle.xc_numbers.specs.SignedNumbers.{line_numbers, numbers_of_lines}
use Rattle.xc_numbers.specs.declared.fault.NumbersError.{NumbersError}
use Rattle.xc_numbers.specs.declared.fault.NumbersError.TheVariants as errors
use Rattle.xc_numbers.specs.declared.fault.LineFault.{LineFault}
use Rattle.xc_numbers.specs.declared.fault.LineFault.TheVariants.{NoNumber, Memory}

-- the numbers of a line were put behind those before; or one of its tokens is no number; or there was no memory
abbrev pub Added : List ℤ → List ℤ → List ℕ → Result (Unit {0}) LineFault → Type 0
Added old new line (Ok done) = (front : List ℤ) × (line_numbers line ≡ Some front) × (new ≡ old ++ front)
Added old new line (Err NoNumber) = line_numbers line ≡ None
Added old new line (Err Memory) = Unit {0}

-- these are the numbers of a text, or its first faulty line; or there was no memory
abbrev pub IsReadingOf : List ℕ → Result (Vec ℤ Global) NumbersError → Type 0
IsReadingOf text (Ok numbers) = numbers_of_lines 1 (lines_of text) ≡ Ok numbers.items
IsReadingOf text (Err (errors.Fault line)) = numbers_of_lines 1 (lines_of text) ≡ Err line
IsReadingOf text (Err errors.Device) = ⊥
IsReadingOf text (Err errors.Memory) = Unit {0}
