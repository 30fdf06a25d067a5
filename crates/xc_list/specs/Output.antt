-- The listing as text.
-- Public contracts rest on this file: readers must believe it.
use Rattle.std.specs.Prelude.{ℕ, ◌%◌, Bool, not, ◌&&◌, ◌==◌, List, ◌++◌, filter, take, flat_map, decimal}
use Rattle.std.specs.Prelude.{codes, Option, Some, None}
use Rattle.std.specs.List.{enumerate_from}
use Rattle.xc_search.specs.declared.choice.Choice.{Choice}
use Rattle.xc_input.specs.Problem.{uses_of}
use Rattle.xc_input.specs.Named.{Named}
use Rattle.xc_check.specs.UseTexts.{bytes_at, from_item, use_word}
use Rattle.xc_search.specs.Cover.{members}

-- the body of a choice line: the words of its option's uses from the item's on, or that no option is taken
abbrev pub body_text : Named → ℕ → Option ℕ → List ℕ
body_text a i (Some o) = flat_map (λ u. codes " " ++ use_word a u) (from_item i (uses_of a.puzzle o))
body_text a i None = codes " null " ++ bytes_at a.names i

-- the line of a choice: its body, its branch and the number of branches
abbrev pub choice_text : Named → Choice → List ℕ
choice_text a c =
    body_text a c.item c.option ++ (codes " (" ++ decimal c.k ++ codes " of " ++ decimal c.n ++ codes ")\n")

-- the text of the member with this number
abbrev pub member_text : Named → ℕ × List Choice → List ℕ
member_text a nm = decimal nm.0 ++ codes ":\n" ++ flat_map (choice_text a) nm.1

-- whether the member with this number is printed: its number is a multiple of the spacing; none is where that is 0
abbrev pub is_printed : ℕ → ℕ → Bool
is_printed spacing n = not (spacing == 0) && n % spacing == 0

-- the text of the first members up to the limit, numbered from 1, that are printed
abbrev pub output : Named → ℕ → ℕ → List ℕ
output a spacing limit = let numbered = enumerate_from 1 (take limit (members a.puzzle)) in
    flat_map (member_text a) (filter (λ nm. is_printed spacing nm.0) numbered)
