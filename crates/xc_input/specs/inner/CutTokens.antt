-- What is at the front of a line, and how tokens are cut.
-- No public contract rests on this file.
use Prim.Native.Char.{code}
use Rattle.std.specs.Prelude.{◌≡◌, ℕ, List, [], ◌∷◌, ◌++◌, true, if◌then◌else◌, ◌<◌, false, length, drop, MatchOption}
use Rattle.xc_text.specs.Words.{is_space, has, before, after, place}
use Rattle.xc_input.specs.Tokens.{tokens}
use Rattle.xc_input.specs.declared.written.Token.{Token}
use Rattle.xc_input.specs.Faults.{bound_texts}

-- ======== What is at the front of a line.

-- what is after leading white space
abbrev pub drop_white : List ℕ → List ℕ
drop_white [] = []
drop_white (b ∷ bs) = (if is_space b then drop_white bs else b ∷ bs)

-- the bytes before the first white space
abbrev pub word : List ℕ → List ℕ
word [] = []
word (b ∷ bs) = (if is_space b then [] else b ∷ word bs)

-- bytes that are none or begin with white space
abbrev pub AtWhite : List ℕ → Type 0
AtWhite [] = Unit {0}
AtWhite (b ∷ bs) = is_space b ≡ true

-- a piece is in a line directly before what is left of it
abbrev pub StandsBefore : List ℕ → List ℕ → List ℕ → Type 0
StandsBefore line piece rest = (front : List ℕ) × (line ≡ front ++ piece ++ rest)

-- ======== How a token of an option line is cut at its colon.

-- a token's text is cut at its first colon, and the name in front of it has this place among the names
pub record IsCutToken (names : List (List ℕ)) (text : List ℕ) (t : Token) : Type 0 where
  pub name : t.name.now ≡ before (code ":") text
  pub place : t.place ≡ place names (before (code ":") text)
  pub colour : MatchOption t.colour (has (code ":") text ≡ false)
      (λ c. (has (code ":") text ≡ true) × (c.now ≡ after (code ":") text))

-- what is after a token's name is white space or nothing, or a colon and then the colour; and what is left
abbrev pub IsCutBehind : List ℕ → Token → List ℕ → Type 0
IsCutBehind behind t rest = MatchOption t.colour (AtWhite behind × (rest ≡ behind))
    (λ c. (more : List ℕ) × (behind ≡ code ":" ∷ more) × (c.now ≡ word more) × (rest ≡ drop (length (word more)) more))

-- the first token of a line is cut so among these names, and what is left after it
abbrev pub StandsFirst : List (List ℕ) → List ℕ → Token → List ℕ → Type 0
StandsFirst names line t rest =
    (text : List ℕ) × (tokens line ≡ text ∷ tokens rest) × (length rest < length line) × IsCutToken names text t

-- ======== The two bounds of a prefix, each by itself.

-- the first bound of a prefix, `v` or `u:v`
abbrev pub low_text : List ℕ → List ℕ
low_text prefix = (bound_texts prefix).0

-- the second one, which is the first where there is but one
abbrev pub high_text : List ℕ → List ℕ
high_text prefix = (bound_texts prefix).1
