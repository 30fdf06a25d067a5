-- What the calls answer.
-- Public contracts rest on this file: readers must believe it.
use Rattle.std.specs.Prelude.{◌≡◌, ◌≢◌, ◌⊎◌, ℕ, List, [], ◌++◌, length, take, drop, min, nat_lt, Option, None, Some}
use Rattle.std.specs.Prelude.{MatchOption, if◌then◌else◌}
use Rattle.natural.specs.Numerals.{numeral}
use Rattle.xc_input.specs.declared.kind.Kind.{Kind}
use Rattle.xc_input.specs.declared.fault.FaultKind.{FaultKind}
use Rattle.xc_input.specs.Problem.{numbered_get}
use Rattle.xc_text.specs.Lines.{lines_of}
use Rattle.xc_input.specs.FirstFault.{content, first_fault}
use Rattle.xc_input.specs.Named.{Named}
use Rattle.xc_input.specs.Text.{StandsFor}
use Rattle.xc_search.specs.Cover.{members, EachMemberCovers, EachCoverIsListedOnce}
use Rattle.xc_list.specs.Output.{output}
use Rattle.xc_c.specs.Numbers.{kind_by_number, faults}

-- a fault is reported with status 2, its line and its number; no fault with zeros
abbrev pub IsTold : Option (ℕ × FaultKind) → ℕ → ℕ → ℕ → Type 0
IsTold None status line fault = (status ≡ 0) × (line ≡ 0) × (fault ≡ 0)
IsTold (Some found) status line fault = (status ≡ 2) × (line ≡ found.0) × (numbered_get faults fault ≡ Some found.1)

-- nothing is reported, at this status
abbrev pub IsUntold : ℕ → ℕ → ℕ → ℕ → Type 0
IsUntold why status line fault = (status ≡ why) × (line ≡ 0) × (fault ≡ 0)

-- The first fault of a text is reported, or that it has none; at 1 the number is of no kind, and at 4 memory ran out,
-- which it never does where each line is blank or a comment.
abbrev pub TellsFault : ℕ → List ℕ → ℕ → ℕ → ℕ → Type 0
TellsFault number text status line fault = MatchOption (kind_by_number number) (IsUntold 1 status line fault) (λ kind.
    ((content (lines_of text) ≢ []) × IsUntold 4 status line fault)
    ⊎ IsTold (first_fault kind (lines_of text)) status line fault)

-- A text of this kind stands for a problem, each of whose solutions is a cover, and each of whose covers is one
-- solution; and this is so of it.
pub record IsSearched (kind : Kind) (text : List ℕ) (says : Named → Type 0) : Type 0 where
  pub named : Named
  pub ignored : List ℕ
  pub stands : StandsFor kind (lines_of text) named ignored
  pub right : EachMemberCovers named.puzzle
  pub complete : EachCoverIsListedOnce named.puzzle
  pub said : says named

-- What a search of a text answers: this is so of its problem; or nothing came of it, at status 1 since the number is of
-- no kind, at 2 since the text has a fault, at 4 for lack of memory, where a line is neither blank nor a comment.
abbrev pub Searches : ℕ → List ℕ → ℕ → Type 0 → (Named → Type 0) → Type 0
Searches number text status nothing says = MatchOption (kind_by_number number) ((status ≡ 1) × nothing) (λ kind.
    ((status ≡ 2) × (first_fault kind (lines_of text) ≢ None) × nothing)
    ⊎ ((status ≡ 4) × (content (lines_of text) ≢ []) × nothing) ⊎ IsSearched kind text says)

-- the status of a search that came to its end: 5 where it met the limit, else 0
abbrev pub end_status : Named → ℕ → ℕ
end_status a limit = if nat_lt (length (members a.puzzle)) limit then 0 else 5

-- the solutions were counted up to the limit
abbrev pub Counts : ℕ → ℕ → ℕ → Named → Type 0
Counts limit status count a = (count ≡ min limit (length (members a.puzzle))) × (status ≡ end_status a limit)

-- a buffer took a text from its start, as far as it has room, which is so many bytes; what is left of it is as it was
abbrev pub IsFilled : List ℕ → List ℕ → List ℕ → ℕ → Type 0
IsFilled text old new used =
    (new ≡ take (length old) text ++ drop (length text) old) × (used ≡ min (length text) (length old))

-- the solutions up to the limit were listed into a buffer; at status 3 their text is longer than the buffer
abbrev pub Lists : ℕ → ℕ → List ℕ → List ℕ → ℕ → ℕ → Named → Type 0
Lists spacing limit old new status used a =
    let text = output a spacing limit in
    IsFilled text old new used × (status ≡ (if nat_lt (length old) (length text) then 3 else end_status a limit))

-- the digits of how many solutions there are were put into a buffer; at status 3 they are more than it has room for
abbrev pub Totals : List ℕ → List ℕ → ℕ → ℕ → Named → Type 0
Totals old new status used a =
    let digits = numeral (length (members a.puzzle)) in
    IsFilled digits old new used × (status ≡ (if nat_lt (length old) (length digits) then 3 else 0))
