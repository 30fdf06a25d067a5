-- Two columns of links are equal where all their links are, both ways.
use Rattle.std.proofs.Common.{◌≡◌, ◌&&◌, List, [], ◌∷◌, refl, arith}
use Rattle.std.specs.Str.{bytes_eq}
use Rattle.std.specs.Cmp.Lexicographic.{pointwise}
use Rattle.std.proofs.lemmas.Slice.Eq.{bytes_eq-Decides}
use Rattle.xc_dance.specs.declared.links.cells.Link.{Link}
use Rattle.xc_dance.specs.contracts.links.cells.LinkPartialEq.TheImpl.{ghosts}
use Rattle.xc_dance.specs.inner.Tables.{ups, downs}
use Rattle.xc_dance.proofs.links.cells.link_column.LinkColumn.same.Goals as goal

by_columns : (xs ys : List Link)
    → pointwise ghosts.eq xs ys ≡ (bytes_eq (ups xs) (ups ys) && bytes_eq (downs xs) (downs ys))
by_columns [] [] = refl
by_columns [] (y ∷ ys) = refl
by_columns (x ∷ xs) [] = refl
by_columns (x ∷ xs) (y ∷ ys) = grind (arith, by_columns xs ys)

pub returns : goal.returns
returns c = grind (arith, bytes_eq-Decides, by_columns)
