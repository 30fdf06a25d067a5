-- The words of uses, and uses from one on.
-- Public contracts rest on this file: readers must believe it.
use Rattle.std.specs.Prelude.{ℕ, ◌==◌, List, [], ◌++◌, take, drop, codes, unwrap_or, if◌then◌else◌}
use Rattle.xc_input.specs.declared.problem.Use.{Use}
use Rattle.xc_input.specs.UsePlaces.{place_in}
use Rattle.xc_input.specs.Problem.{numbered_get}
use Rattle.xc_input.specs.Named.{Named}

-- the bytes numbered i, counted from 1; none where there are none
abbrev pub bytes_at : List (List ℕ) → ℕ → List ℕ
bytes_at texts i = unwrap_or (numbered_get texts i) []

-- a list cyclically from place k on
abbrev pub rotated_at : {X : Type 0} → ℕ → List X → List X
rotated_at k xs = drop k xs ++ take k xs

-- uses cyclically from item i's on
abbrev pub from_item : ℕ → List Use → List Use
from_item i us = rotated_at (place_in i us) us

-- the word of a use: its item's name, and its colour after a colon
abbrev pub use_word : Named → Use → List ℕ
use_word a u = bytes_at a.names u.item ++ (if u.colour == 0 then [] else codes ":" ++ bytes_at a.colours u.colour)
