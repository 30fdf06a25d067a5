-- The lines of a byte text.
-- Public contracts rest on this file: readers must believe it.
use Rattle.std.specs.Prelude.{ℕ, List, [], ◌∷◌, nat_eq, if◌then◌else◌}
use Rattle.std.specs.List.{onto_first}
use Prim.Native.Char.{code}

-- the lines of a text, cut at line feeds, the last one with or without it
abbrev pub lines_of : List ℕ → List (List ℕ)
lines_of [] = []
lines_of (b ∷ bs) = (if nat_eq b (code "\n") then [] ∷ lines_of bs else onto_first b (lines_of bs))
