-- Choices whose names are known.
-- Public contracts rest on this file: readers must believe it.
use Rattle.std.specs.Prelude.{◌≡◌, true, IfSome, is_some}
use Rattle.xc_search.specs.declared.choice.Choice.{Choice}
use Rattle.xc_input.specs.Problem.{Puzzle, IsPrimary, IsOption, uses_of, colour_in}

-- the choice's item is primary, and its option, if any, is one of the problem and holds the item
abbrev pub IsKnownChoice : Puzzle → Choice → Type 0
IsKnownChoice p c = IsPrimary p c.item
    × IfSome c.option (λ o. IsOption p o × (is_some (colour_in (uses_of p o) c.item) ≡ true))
