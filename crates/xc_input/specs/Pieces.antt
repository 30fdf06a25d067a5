-- What a source gave, in the pieces that its reads gave it in, and what reading a problem from it promises.
-- Public contracts rest on this file: readers must believe it.
use Rattle.std.specs.Prelude.{◌≡◌, ◌≢◌, ◌⊎◌, ℕ, ◌≤◌, List, [], ◌∷◌, ◌++◌, false, None, length}
use Prim.Native.Char.{code}
use Rattle.xc_text.specs.Calls.{Rose}
use Rattle.xc_input.specs.declared.kind.Kind.{Kind}
use Rattle.xc_input.specs.declared.fault.InputError.{InputError}
use Rattle.xc_input.specs.declared.fault.InputError.TheVariants.{Fault, Device, Memory}
use Rattle.xc_input.specs.Named.{Named}
use Rattle.xc_text.specs.Lines.{lines_of}
use Rattle.xc_input.specs.FirstFault.{IsFirstFault, line_fault}
use Rattle.xc_input.specs.Text.{StandsFor}
use Rattle.xc_text.specs.Words.{has}
use Rattle.xc_text.specs.Sources.{SourceState, Gave, GaveAll}

-- A source gave a text that stands for this problem, with these ignored lines, and its end.
pub record IsWhole (kind : Kind) (old new : SourceState) (named : Named) (ignored : List ℕ) : Type 0 where
  pub bytes : List ℕ
  pub gave : GaveAll old new bytes
  pub text : StandsFor kind (lines_of bytes) named ignored

-- the last byte is no line feed
abbrev pub IsOpen : List ℕ → Type 0
IsOpen bytes = (front : List ℕ) × (last : ℕ) × (bytes ≡ front ++ last ∷ []) × (last ≢ code "\n")

-- What reads gave was whole lines without a fault, and a part of one more.
pub record GaveFaultless (kind : Kind) (old new : SourceState) : Type 0 where
  pub front : List ℕ
  pub part : List ℕ
  pub gave : Gave old new (front ++ part)
  pub no_fault : line_fault kind (lines_of front) ≡ None
  pub partial : has (code "\n") part ≡ false

-- Why a source gave no problem: a text with this first fault, and its end, or a part after which each text has it; a
-- read that failed; or lack of memory, before the end or after a last line that no line feed ends, and at most one
-- read after lines without a fault.
abbrev pub IsPart : Kind → SourceState → SourceState → InputError → Type 0
IsPart kind old new (Fault line fault) = (bytes : List ℕ) × ((GaveAll old new bytes
    × IsFirstFault kind bytes line fault) ⊎ (Gave old new bytes × (new.failures ≡ old.failures)
    × ((more : List ℕ) → IsFirstFault kind (bytes ++ more) line fault)))
IsPart kind old new Device = GaveFaultless kind old new × Rose old.failures new.failures
IsPart kind old new Memory = (bytes : List ℕ) × (before : SourceState) × (last : List (List ℕ))
    × (Gave old new bytes ⊎ (GaveAll old new bytes × IsOpen bytes)) × (new.failures ≡ old.failures)
    × GaveFaultless kind old before × (new.given ≡ before.given ++ last) × (length last ≤ 1)
