use Rattle.std.proofs.Common.{arith, ℕ, zero, suc, ◌<◌, List, [], ◌∷◌, get_or}
use Rattle.std.proofs.lemmas.Nat.{le_bytes_8}
use Rattle.std.specs.List.{AllByRecursion}
use Rattle.std.proofs.lemmas.Fmt.{decimal_digit}
use Rattle.xc_list.proofs.print.digit_of_digit.Goals as goal

small : (bs : List ℕ) → AllByRecursion (λ b. b < 256) bs → (i : ℕ) → get_or bs i 0 < 256
small [] all i = omega arith
small (b ∷ bs) all zero = all.0
small (b ∷ bs) all (suc i) = small bs all.1 i

pub returns : goal.returns
returns c = grind (arith, le_bytes_8, small, decimal_digit)
