-- What literals are to say, before their variables are looked up.
-- No public contract rests on this file.
use Rattle.std.specs.Prelude.{ℕ, ◌≡◌, Bool, true, not, List, if◌then◌else◌}
use Rattle.std.specs.List.{list_any}
use Rattle.xc_input.specs.Problem.{Puzzle}
use Rattle.xc_input.specs.Cover.{IsCover}
use Rattle.xc_none.specs.declared.meaning.Meaning.{Meaning}
use Rattle.xc_none.specs.declared.claim.Claim.{Claim}
use Rattle.xc_none.specs.Meanings.{is_so, value}

-- whether what a claim says is true of a set
abbrev pub is_claimed : Puzzle → List ℕ → Claim → Bool
is_claimed p s c = (if c.so then is_so p s c.meaning else not (is_so p s c.meaning))

-- a literal says what a claim says
abbrev pub Says : List Meaning → ℕ → Claim → Type 0
Says meanings l c = (p : Puzzle) (s : List ℕ) → value p meanings s l ≡ is_claimed p s c

-- of each cover one of these claims is true
pub record OneHolds (p : Puzzle) (claims : List Claim) : Type 0 where
  pub of_covers : (s : List ℕ) → IsCover p s → list_any (is_claimed p s) claims ≡ true
