-- What the lines of a listing stand for, its first fault, and when a listed solution is a cover.
-- Public contracts rest on this file: readers must believe it.
use Rattle.std.specs.Prelude.{ℕ, is_some, filter_map, ◌+◌, ◌-◌, ◌^◌, ◌≡◌, ◌↔◌, Bool, false, not, ◌&&◌, ◌||◌, ◌==◌, min}
use Rattle.std.specs.Prelude.{List, [], ◌∷◌, codes, length, map, filter, take, Option, Some, None, IsTrue}
use Rattle.std.specs.Prelude.{if◌then◌else◌}
use Rattle.std.specs.Option.{option_or}
use Rattle.std.specs.Cmp.Lexicographic.{pointwise}
use Rattle.std.specs.List.{list_any, range_with_len, AllZip, before_first}
use Rattle.std.specs.Str.{bytes_eq}
use Rattle.xc_input.specs.declared.problem.Use.{Use}
use Rattle.xc_input.specs.Problem.{primary_count, uses_of}
use Rattle.xc_input.specs.Named.{Named}
use Rattle.xc_input.specs.Cover.{IsCover}
use Rattle.xc_check.specs.UseTexts.{rotated_at, use_word}
use Rattle.xc_check.specs.ListingLines.{header_number, body_of}
use Rattle.xc_check.specs.declared.verdict.Verdict.{Verdict}
use Rattle.xc_check.specs.declared.verdict.ListingFault.{ListingFault}
use Rattle.xc_check.specs.declared.verdict.ListingFault.TheVariants.{BadLine, UnknownOption, Memory}

-- whether the words of uses are, in some rotation, those of a body in this order
abbrev pub is_body : Named → List (List ℕ) → List Use → Bool
is_body p words us =
    list_any (λ k. pointwise bytes_eq (map (use_word p) (rotated_at k us)) words) (range_with_len 0 (length us))

-- a body stands for option o
abbrev pub stands_for : Named → List (List ℕ) → ℕ → Bool
stands_for p words o = is_body p words (uses_of p.puzzle o)

-- a body stands for some option
abbrev pub is_known : Named → List (List ℕ) → Bool
is_known p words = list_any (is_body p words) p.puzzle.options

-- the word `null` and the name of a primary item
abbrev pub is_none : Named → List (List ℕ) → Bool
is_none p (a ∷ b ∷ []) = bytes_eq a (codes "null") && list_any (bytes_eq b) (take (primary_count p.puzzle) p.names)
is_none p _ = false

-- the fault of line n, where a header is before it or not: it has to be a header or, after one, a choice line, whose
-- body is known or of none
abbrev pub fault_in_line : Named → Bool → ℕ → List ℕ → Option ListingFault
fault_in_line p begun n line =
    if is_some (header_number line) then None
    else elim (if begun then body_of line else None) [
      | None ↦ Some (BadLine n)
      | Some words ↦ if is_known p words || is_none p words then None else Some (UnknownOption n)
    ]

-- The first fault of lines that are after n others. Only a first line has no header before it, for it has to be one.
abbrev pub fault_in_lines : Named → ℕ → List (List ℕ) → Option ListingFault
fault_in_lines p n [] = None
fault_in_lines p n (l ∷ lines) =
    option_or (fault_in_line p (not (n == 0)) (min (n + 1) (2 ^ 64 - 1)) l) (fault_in_lines p (n + 1) lines)

-- a listed solution: its header's number and the bodies of its choice lines
pub record Solution : Type 0 where
  pub number : ℕ
  pub bodies : List (List (List ℕ))

-- the solutions that lines list: one for each header, with the bodies of the choice lines before the next header
abbrev pub solutions_of : List (List ℕ) → List Solution
solutions_of [] = []
solutions_of (l ∷ lines) =
    let bodies = filter_map body_of (before_first (λ l. is_some (header_number l)) lines) in
    let later = solutions_of lines in
    elim (header_number l) [ None ↦ later | Some n ↦ record { number = n; bodies = bodies } ∷ later ]

-- A listed solution is a cover: its choice lines, lines of none aside, can have different options, each one
-- that its body stands for, so that their set is a cover.
abbrev pub IsListedCover : Named → List (List (List ℕ)) → Type 0
IsListedCover p bodies =
    (s : List ℕ) × AllZip (λ words o. IsTrue (stands_for p words o)) (filter (is_known p) bodies) s × IsCover p.puzzle s

-- the verdict on a listed solution
abbrev pub IsVerdictOn : Named → Solution → Verdict → Type 0
IsVerdictOn p s v = (v.number ≡ s.number) × (IsTrue v.cover ↔ IsListedCover p s.bodies)

-- one verdict for each header, in order
abbrev pub AreVerdicts : Named → List (List ℕ) → List Verdict → Type 0
AreVerdicts p lines vs = AllZip (IsVerdictOn p) (solutions_of lines) vs

-- an answer in place of verdicts: lack of memory, or the first fault of all lines
abbrev pub IsListingFault : Named → List (List ℕ) → ListingFault → Type 0
IsListingFault p lines Memory = Unit {0}
IsListingFault p lines fault = fault_in_lines p 0 lines ≡ Some fault
