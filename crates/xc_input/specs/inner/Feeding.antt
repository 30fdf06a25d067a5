-- Lines that line feeds end, and a reader that is fed a text in pieces.
-- No public contract rests on this file.
use Rattle.std.specs.Prelude.{◌≡◌, ℕ, List, [], ◌++◌, false, ◌≢◌, ◌≤◌, length, None, Result, OnOk, IfOk, IfErr}
use Rattle.xc_text.specs.Words.{has}
use Rattle.xc_input.specs.declared.kind.Kind.{Kind}
use Rattle.xc_input.specs.declared.fault.InputError.{InputError}
use Rattle.xc_input.specs.declared.fault.InputError.TheVariants.{Memory}
use Rattle.xc_input.specs.declared.outcome.Read.{Read}
use Rattle.xc_input.specs.Named.{Named}
use Rattle.xc_input.specs.Text.{StandsFor}
use Rattle.xc_input.specs.FirstFault.{line_fault, first_fault}
use Rattle.xc_input.specs.Readings.{Reading, IsErrorFor}
use Rattle.xc_text.specs.Lines.{lines_of}
use Rattle.xc_text.specs.Sources.{SourceState}
use Rattle.xc_input.specs.Pieces.{GaveFaultless}
use Rattle.xc_text.specs.inner.LineFeeds.{ended, AreWhole}

-- ======== A reader that is fed a text in pieces.

-- an error of the lines so far
abbrev pub IsErrorOf : Kind → List (List ℕ) → InputError → Type 0
IsErrorOf kind lines e = IsErrorFor (line_fault kind lines) e

-- an error of the whole text
abbrev pub IsEndOf : Kind → List (List ℕ) → InputError → Type 0
IsEndOf kind lines e = IsErrorFor (first_fault kind lines) e

-- the bytes of a reader's lines and of what is carried on
abbrev pub fed : Reading → List ℕ → List ℕ
fed reading carry = ended reading.lines ++ carry

-- no error is known, and what is carried on is no whole line
pub record IsBetween (reading : Reading) (carry : List ℕ) : Type 0 where
  pub no_error : reading.error ≡ None
  pub no_fault : line_fault reading.kind reading.lines ≡ None
  pub whole : AreWhole reading.lines
  pub partial : has 10 carry ≡ false

-- however the text goes on, this is its error
abbrev pub Spoils : Kind → List ℕ → InputError → Type 0
Spoils kind bytes e = (more : List ℕ) → IsErrorOf kind (lines_of (bytes ++ more)) e

-- what an answer to a line says, which came with its line feed
pub record Ended (old new : Reading) (line : List ℕ) (r : Result (Unit {0}) InputError) : Type 0 where
  pub bytes : OnOk r (fed new [] ≡ fed old [] ++ line)
  pub state : OnOk r (IsBetween new [])
  pub err : IfErr r (Spoils old.kind (fed old [] ++ line))

-- Until a state, at most one read before this one, what a source gave had no fault.
pub record Recent (kind : Kind) (old new : SourceState) : Type 0 where
  pub before : SourceState
  pub last : List (List ℕ)
  pub faultless : GaveFaultless kind old before
  pub added : new.given ≡ before.given ++ last
  pub short : length last ≤ 1

-- What an answer says of the lines of a text: the problem that they stand for, and no other but for its seed, or their
-- first fault.
pub record EndsAs (kind : Kind) (lines : List (List ℕ)) (r : Result Read InputError) : Type 0 where
  pub accepted : IfOk r (λ x. StandsFor kind lines x.problem x.ignored.items)
  pub only : IfOk r (λ x. (p : Named) (ignored : List ℕ) → StandsFor kind lines p ignored
      → (p ≡ record x.problem { seed = p.seed }) × (ignored ≡ x.ignored.items))
  pub first : IfErr r (λ e. IsEndOf kind lines e)
  pub refused : IfErr r (λ e. e ≢ Memory → (p : Named) (ignored : List ℕ) → StandsFor kind lines p ignored → ⊥)
