-- Which token of a line is at fault.
-- Public contracts rest on this file: readers must believe it.
use Rattle.std.specs.Prelude.{◌≡◌, ℕ, List, [], ◌∷◌, ◌++◌, Bool, false, Option, None, Some}
use Rattle.xc_input.specs.declared.kind.Kind.{Kind}
use Rattle.xc_input.specs.declared.fault.FaultKind.{FaultKind}
use Rattle.xc_input.specs.declared.at_fault.FaultyToken.{FaultyToken}
use Rattle.xc_text.specs.Words.{has}
use Rattle.xc_input.specs.Tokens.{tokens, parts, is_skipped}
use Rattle.xc_input.specs.Faults.{first, checks_of_each, part_checks, context_of, token_checks}

-- A token of a line is at fault, by how the line is cut and by the checks of a token after others: it is between
-- what is before and after it, the tokens before it have no fault, and it has this one.
pub record IsAtFault (cut : List ℕ → List (List ℕ)) (checks : List (List ℕ) → List ℕ → List (FaultKind × Bool))
    (line : List ℕ) (t : FaultyToken) : Type 0 where
  pub others : List (List ℕ)
  pub place : line ≡ t.before.now ++ t.token.now ++ t.behind.now
  pub order : cut line ≡ others ++ t.token.now ∷ cut t.behind.now
  pub faultless : first (checks_of_each checks [] others) ≡ None
  pub fault : first (checks others t.token.now) ≡ Some t.kind

-- a token of an option line is at fault, after an item line without a fault; or one of the item line, which has none
-- before it
abbrev pub IsFaulty : Kind → Option (List ℕ) → List ℕ → FaultyToken → Type 0
IsFaulty kind None line t = IsAtFault parts (part_checks kind) line t
IsFaulty kind (Some items) line t = (first (checks_of_each (part_checks kind) [] (parts items)) ≡ None)
    × IsAtFault tokens (token_checks (context_of kind (parts items))) line t

-- the same of a line that has no NUL byte and isn't skipped
abbrev pub IsFaultyToken : Kind → Option (List ℕ) → List ℕ → FaultyToken → Type 0
IsFaultyToken kind items line t = (has 0 line ≡ false) × (is_skipped line ≡ false) × IsFaulty kind items line t

-- something is returned that is so, or that nothing is
abbrev pub Tells : {A : Type 0} → (A → Type 0) → Option A → Type 0
Tells {A} is None = (x : A) → is x → ⊥
Tells is (Some x) = is x
