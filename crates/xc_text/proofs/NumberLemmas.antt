-- Numbers in decimal, digit by digit.
use Rattle.std.proofs.Common.{ℕ, ◌≡◌, ◌+◌, ◌-◌, ◌*◌, ◌^◌, ◌<◌, ◌≤◌, ◌&&◌, List, [], ◌∷◌, Option, Some, None, length}
use Rattle.std.proofs.Common.{drop, get_or, cond, nat_lt, refl, arith, le_trans, le-ltb}
use Rattle.std.proofs.lemmas.List.{drop_more}
use Rattle.std.specs.Char.{is_ascii_digit}
use Rattle.std.specs.List.{list_all}
use Rattle.xc_text.specs.LongNumbers.{long_number}
use Prim.Native.Char.{code}
use Rattle.std.specs.Prelude.{fold}

-- the number that digits stand for, behind digits that stand for n
abbrev pub value_from : ℕ → List ℕ → ℕ
value_from n digits = fold (λ v b. v * 10 + (b - code "0")) n digits

-- the number of digits behind those of a value, where it fits
abbrev pub digits_in : ℕ → List ℕ → Option ℕ
digits_in v bs = cond (list_all is_ascii_digit bs && nat_lt (value_from v bs) (2 ^ 64)) (Some (value_from v bs)) None

value_from-le : (v : ℕ) (bs : List ℕ) → v ≤ value_from v bs
value_from-le v [] = omega arith
value_from-le v (b ∷ bs) = omega (arith, value_from-le (v * 10 + (b - 48)) bs)

pub too_large : (bs : List ℕ) (i v : ℕ) → digits_in 0 bs ≡ digits_in v (drop i bs) → i < length bs
    → 2 ^ 64 ≤ v * 10 + (get_or bs i 0 - 48) → long_number bs ≡ None
too_large [] i v e l h = refl
too_large (b ∷ bs) i v e l h = grind (arith, value_from-le, drop_more, le_trans, le-ltb)

pub some_digits : (bs : List ℕ) → 0 < length bs → long_number bs ≡ digits_in 0 bs
some_digits [] h = absurd (omega (arith, h))
some_digits (b ∷ bs) h = refl
