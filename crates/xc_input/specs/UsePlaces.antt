-- Where an item is among the uses of an option.
-- Public contracts rest on this file: readers must believe it.
use Rattle.std.specs.Prelude.{ℕ, ◌==◌, List}
use Rattle.std.specs.List.{position_or_len}
use Rattle.xc_input.specs.declared.problem.Use.{Use}

-- the place of item i's use, counted from 0; the number of uses where none is of it
abbrev pub place_in : ℕ → List Use → ℕ
place_in i us = position_or_len (λ u. u.item == i) us
