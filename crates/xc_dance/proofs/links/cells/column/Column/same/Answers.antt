-- Two columns are equal where all their cells are.
use Rattle.std.proofs.Common.{◌≡◌, ◌&&◌, eqb, List, [], ◌∷◌, refl, ap, arith}
use Rattle.std.specs.Str.{bytes_eq}
use Rattle.std.specs.Cmp.Lexicographic.{pointwise}
use Rattle.std.proofs.lemmas.Slice.Eq.{bytes_eq-Decides}
use Rattle.xc_dance.specs.declared.links.cells.cell.Cell.{Cell}
use Rattle.xc_dance.specs.contracts.links.cells.cell.CellPartialEq.TheImpl.{ghosts}
use Rattle.xc_dance.specs.inner.Tables.{values}
use Rattle.xc_dance.proofs.links.cells.column.Column.same.Goals as goal

by_values : (xs ys : List Cell) → pointwise ghosts.eq xs ys ≡ bytes_eq (values xs) (values ys)
by_values [] [] = refl
by_values [] (y ∷ ys) = refl
by_values (x ∷ xs) [] = refl
by_values (x ∷ xs) (y ∷ ys) = ap (λ b. eqb x.value y.value && b) (by_values xs ys)

pub returns : goal.returns
returns c = grind (arith, bytes_eq-Decides, by_values)
