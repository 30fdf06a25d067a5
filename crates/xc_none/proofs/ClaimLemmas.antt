-- Clauses that say what claims say.
use Rattle.std.proofs.Common.{ℕ, ◌≡◌, Bool, true, List, [], ◌∷◌}
use Rattle.std.proofs.Common.{take}
use Rattle.std.specs.Prelude.{◌||◌}
use Rattle.std.specs.List.{list_any}
use Rattle.xc_input.specs.Problem.{Puzzle}
use Rattle.xc_input.specs.Cover.{IsCover}
use Rattle.xc_none.specs.declared.meaning.Meaning.{Meaning}
use Rattle.xc_none.specs.declared.claim.Claim.{Claim}
use Rattle.xc_none.specs.Meanings.{is_chosen, value}
use Rattle.xc_none.specs.inner.Claims.{is_claimed, OneHolds}
use Rattle.xc_none.proofs.Tests.{or_one, or_two, or_three}

-- a clause says what the first k claims say
pub record SaysFirst (ms : List Meaning) (claims : List Claim) (k : ℕ) (clause : List ℕ) : Type 0 where
  pub each : (p : Puzzle) (s : List ℕ) → list_any (value p ms s) clause ≡ list_any (is_claimed p s) (take k claims)

-- of one, two or three claims one holds
pub one_holds : (p : Puzzle) (a : Claim) (x : List ℕ → Bool) → ((s : List ℕ) → is_claimed p s a ≡ x s)
    → ((s : List ℕ) → IsCover p s → x s ≡ true) → OneHolds p (a ∷ [])
one_holds p a x e h = record { of_covers = λ s cover. or_one (is_claimed p s a) (x s) (e s) (h s cover) }

pub two_hold : (p : Puzzle) (a b : Claim) (x y : List ℕ → Bool) → ((s : List ℕ) → is_claimed p s a ≡ x s)
    → ((s : List ℕ) → is_claimed p s b ≡ y s) → ((s : List ℕ) → IsCover p s → (x s || y s) ≡ true)
    → OneHolds p (a ∷ b ∷ [])
two_hold p a b x y e f h = record {
  of_covers = λ s cover.
      or_two (is_claimed p s a) (is_claimed p s b) (x s) (y s) (e s) (f s) (h s cover);
}

pub three_hold : (p : Puzzle) (a b c : Claim) (x y z : List ℕ → Bool) → ((s : List ℕ) → is_claimed p s a ≡ x s)
    → ((s : List ℕ) → is_claimed p s b ≡ y s) → ((s : List ℕ) → is_claimed p s c ≡ z s)
    → ((s : List ℕ) → IsCover p s → (x s || (y s || z s)) ≡ true) → OneHolds p (a ∷ b ∷ c ∷ [])
three_hold p a b c x y z e f g h = record {
  of_covers = λ s cover.
      or_three (is_claimed p s a) (is_claimed p s b) (is_claimed p s c) (x s) (y s) (z s) (e s) (f s) (g s)
      (h s cover);
}

-- claims say that one of the first k options is chosen
pub record SaysChosen (os : List ℕ) (k : ℕ) (claims : List Claim) : Type 0 where
  pub each : (p : Puzzle) (s : List ℕ) → list_any (is_claimed p s) claims ≡ list_any (λ o. is_chosen s o) (take k os)
