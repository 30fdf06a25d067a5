-- What a line of a listing says, what lines list, and what is known of lines that were met before.
-- No public contract rests on this file.
use Rattle.std.specs.Prelude.{ℕ, List, Some, None, [], ◌∷◌, ◌≡◌, ◌⊎◌, Contains, IfSome, slice_set}
use Rattle.xc_check.specs.ListingLines.{header_number, body_of}
use Rattle.xc_check.specs.Listed.{Solution}
use Rattle.xc_check.specs.declared.judged_line.SeenLine.{SeenLine}
use Rattle.xc_check.specs.inner.Classes.{Classes, IsClassOfBody}

-- ======== What a line of a listing says.

-- what a line is: a header with its number, a choice line with its body, or neither
pub data ReadLine : Type 0 where
  Header : ℕ → ReadLine
  Body : List (List ℕ) → ReadLine
  Other : ReadLine

-- (no line is both: a header begins with a digit, a choice line with a space)
abbrev pub read : List ℕ → ReadLine
read line = elim (header_number line) [
  | Some n ↦ Header n
  | None ↦ elim (body_of line) [ Some words ↦ Body words | None ↦ Other ]
]

-- ======== What lines list, from the last one on.

-- bodies that are before the first header, and the solutions after them
pub record Listing : Type 0 where
  pub loose : List (List (List ℕ))
  pub solutions : List Solution

-- a line in front of what later lines list
abbrev pub before_listing : ReadLine → Listing → Listing
before_listing (Header n) later =
    record { loose = []; solutions = record { number = n; bodies = later.loose } ∷ later.solutions }
before_listing (Body words) later = record { loose = words ∷ later.loose; solutions = later.solutions }
before_listing Other later = later

-- what lines list
abbrev pub listing_of : List (List ℕ) → Listing
listing_of [] = record { loose = []; solutions = [] }
listing_of (l ∷ lines) = before_listing (read l) (listing_of lines)

-- ======== What is known of lines that were met before.

-- this line is among those that were met, with this class
abbrev pub IsFoundIn : List SeenLine → List ℕ → ℕ → Type 0
IsFoundIn lines line class = (l : SeenLine) × Contains lines l × (l.line.items ≡ line) × (l.class ≡ Some class)

-- no line or this one, with this class
abbrev pub IsBlankOr : List ℕ → ℕ → SeenLine → Type 0
IsBlankOr line class l = IfSome l.class (λ k. (k ≡ class) × (l.line.items ≡ line))

-- At most one place changed, and holds no line or this one now.
abbrev pub IsNotedIn : List SeenLine → List ℕ → ℕ → List SeenLine → Type 0
IsNotedIn old line class new =
    (new ≡ old) ⊎ ((place : ℕ) × (l : SeenLine) × IsBlankOr line class l × (new ≡ slice_set old place l))

-- the line is a choice line, and its body stands for the class
abbrev pub IsClassOfLine : Classes → List ℕ → ℕ → Type 0
IsClassOfLine b line class = (words : List (List ℕ)) × (read line ≡ Body words) × IsClassOfBody b words (Some class)

-- the class that is noted with a line is its body's
abbrev pub IsRightly : Classes → SeenLine → Type 0
IsRightly b l = IfSome l.class (IsClassOfLine b l.line.items)
