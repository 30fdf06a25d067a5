-- What the checker makes of the lines of a listing, one by one.
-- No public contract rests on this file.
use Rattle.std.specs.Prelude.{ℕ, ◌+◌, ◌-◌, ◌^◌, ◌≡◌, ◌==◌, not, min, List, [], ◌∷◌, ◌++◌, filter, Option, Some, None}
use Rattle.std.specs.Prelude.{is_some}
use Rattle.xc_check.specs.inner.Listings.{Listing, listing_of, ReadLine, read}
use Rattle.std.specs.List.{AllZip}
use Rattle.xc_check.specs.ListingLines.{words_in}
use Rattle.xc_check.specs.inner.Listings as lines
use Rattle.xc_check.specs.Listed.{Solution, is_known, fault_in_lines, IsVerdictOn, AreVerdicts}
use Rattle.xc_check.specs.Listed.{IsListingFault}
use Rattle.xc_check.specs.inner.Classes.{Classes, IsClassOfBody}
use Rattle.xc_check.specs.declared.verdict.Verdict.{Verdict}
use Rattle.xc_check.specs.declared.verdict.ListingFault.{ListingFault}
use Rattle.xc_check.specs.declared.judged_line.ListingLine.{ListingLine}
use Rattle.xc_check.specs.declared.judged_line.ListingLine.TheVariants.{Header, Body, Other}

-- what a line that was read says
abbrev pub line_said : ListingLine → ReadLine
line_said (Header n) = lines.Header n
line_said (Body text) = lines.Body (words_in text.now)
line_said Other = lines.Other

-- A listing judged up to some line: the number of the solution that is open, the classes of its choice lines, and the
-- verdicts on those before it.
pub record Progress : Type 0 where
  pub options : Classes
  pub open_number : Option ℕ
  pub chosen : List ℕ
  pub verdicts : List Verdict

-- the classes of bodies, where they stand for an option
abbrev pub AreChosen : Classes → List (List (List ℕ)) → List ℕ → Type 0
AreChosen b bodies chosen =
    AllZip (λ words k. IsClassOfBody b words (Some k)) (filter (is_known b.problem) bodies) chosen

-- an open solution with these bodies, in front of what later lines list
abbrev pub with_later : Option ℕ → List (List (List ℕ)) → Listing → List Solution
with_later None bodies later = later.solutions
with_later (Some n) bodies later = record { number = n; bodies = bodies ++ later.loose } ∷ later.solutions

-- So many of these lines are judged, and the rest is left.
pub record IsProgress (all : List (List ℕ)) (done : ℕ) (rest : List (List ℕ)) (s : Progress) : Type 0 where
  pub begun : is_some s.open_number ≡ not (done == 0)
  pub bodies : List (List (List ℕ))
  pub are_chosen : AreChosen s.options bodies s.chosen
  pub verdicts : (vs : List Verdict)
      → AllZip (IsVerdictOn s.options.problem) (with_later s.open_number bodies (listing_of rest)) vs
      → AreVerdicts s.options.problem all (s.verdicts ++ vs)
  pub no_fault : fault_in_lines s.options.problem 0 all ≡ fault_in_lines s.options.problem done rest

-- All of these lines are judged.
pub record AreAllTaken (all : List (List ℕ)) (s : Progress) : Type 0 where
  pub done : ℕ
  pub progress : IsProgress all done [] s

-- the verdict on the open solution, if there is one, is after the others
abbrev pub Closes : Progress → Progress → Type 0
Closes old new = (vs : List Verdict) × (new.verdicts ≡ old.verdicts ++ vs)
    × ((bodies : List (List (List ℕ))) → AreChosen old.options bodies old.chosen
    → AllZip (IsVerdictOn old.options.problem)
    (with_later old.open_number bodies (record { loose = []; solutions = [] })) vs)

-- a line that says this was taken
abbrev pub Takes : ReadLine → Progress → Progress → Type 0
Takes said old new = (all : List (List ℕ)) (done : ℕ) (line : List ℕ) (rest : List (List ℕ)) → read line ≡ said
    → IsProgress all done (line ∷ rest) old → IsProgress all (done + 1) rest new

-- the line with this number, which says this, has this fault
abbrev pub Refuses : ℕ → ReadLine → Progress → ListingFault → Type 0
Refuses number said s e = (all : List (List ℕ)) (done : ℕ) (line : List ℕ) (rest : List (List ℕ)) → read line ≡ said
    → number ≡ min (done + 1) (2 ^ 64 - 1) → IsProgress all done (line ∷ rest) s
    → IsListingFault s.options.problem all e
