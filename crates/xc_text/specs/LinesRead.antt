-- What contracts see of a reader of lines, and what asking it for one more line comes to.
-- Public contracts rest on this file: readers must believe it.
use Rattle.std.specs.Prelude.{◌≡◌, ◌⊎◌, ℕ, ◌+◌, length, List, [], ◌∷◌, ◌++◌, Bool, true, false, Result, Ok, Err}
use Prim.Native.Char.{code}
use Rattle.xc_text.specs.Calls.{Rose}
use Rattle.xc_text.specs.Sources.{SourceState, Gave, GaveAll}
use Rattle.xc_text.specs.Words.{has}
use Rattle.xc_text.specs.declared.line_reader.Unread.{Unread}
use Rattle.xc_text.specs.declared.line_reader.Unread.TheVariants.{Device, Memory}

-- the line that came last, with its line feed; what was read behind it; and what is behind the last line feed of all
pub record LinesRead : Type 0 where
  pub line : List ℕ
  pub unread : List ℕ
  pub rest : List ℕ

-- one line and its line feed
pub record IsLine (bytes : List ℕ) : Type 0 where
  pub front : List ℕ
  pub is : bytes ≡ front ++ code "\n" ∷ []
  pub free : has (code "\n") front ≡ false

-- Reads gave these bytes, behind some that were left, and no line feed came before the last one.
pub record LastOf (left : List ℕ) (old new : SourceState) (bytes : List ℕ) : Type 0 where
  pub before : SourceState
  pub front : List ℕ
  pub piece : List ℕ
  pub gave : Gave old before front
  pub partial : has (code "\n") (left ++ front) ≡ false
  pub added : new.given ≡ before.given ++ piece ∷ []
  pub all : bytes ≡ front ++ piece
  pub gave_all : Gave old new bytes

-- no read, or such reads
abbrev pub Came : List ℕ → SourceState → SourceState → List ℕ → Type 0
Came left old new bytes = ((new ≡ old) × (bytes ≡ [])) ⊎ LastOf left old new bytes

-- One line more came; or the source ended; or a read failed; or memory was out, before the next read. Where no line
-- came, nothing is left unread.
abbrev pub Advanced : LinesRead → LinesRead → SourceState → SourceState → Result Bool Unread → Type 0
Advanced old new from to (Ok true) = (bytes : List ℕ) × Came old.unread from to bytes
    × (to.failures ≡ from.failures) × (to.limit + length bytes ≡ from.limit)
    × (old.unread ++ bytes ≡ new.line ++ new.unread) × IsLine new.line
Advanced old new from to (Ok false) = (bytes : List ℕ) × GaveAll from to bytes
    × (new.rest ≡ old.unread ++ bytes) × (has (code "\n") new.rest ≡ false) × (new.unread ≡ [])
Advanced old new from to (Err Device) = (bytes : List ℕ) × Gave from to bytes
    × (has (code "\n") (old.unread ++ bytes) ≡ false) × Rose from.failures to.failures × (new.unread ≡ [])
Advanced old new from to (Err Memory) = (bytes : List ℕ) × Came old.unread from to bytes
    × (to.failures ≡ from.failures) × (new.unread ≡ [])
