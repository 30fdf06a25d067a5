-- THE GRAMMAR: which problem and which ignored lines a list of lines stands for.
-- Public contracts rest on this file: readers must believe it.
use Rattle.std.specs.Prelude.{◌≡◌, ◌≢◌, ℕ, ◌+◌, ◌<◌, ◌≤◌, length, List, [], ◌∷◌, ◌++◌, Bool, true, false, not, Some}
use Rattle.std.specs.Prelude.{◌⊎◌, if◌then◌else◌, AllPairs, filter, map, flat_map}
use Prim.Native.Char.{code}
use Rattle.std.specs.List.{AllZip, before_first, after_first, list_any, enumerate_from}
use Rattle.xc_input.specs.declared.kind.Kind.{Kind}
use Rattle.xc_input.specs.Limits.{most_items, most_uses}
use Rattle.xc_text.specs.Words.{has, place, are_digits, number}
use Rattle.xc_input.specs.Tokens.{tokens, parts, is_bar, is_skipped}
use Rattle.xc_input.specs.Sheets.{Entry, Written, colours_of, number_uses}
use Rattle.xc_input.specs.Named.{Named, IsName, IsColour}
use Rattle.xc_input.specs.Faults.{is_plain, is_bounds, Context, has_primary}
use Rattle.xc_input.specs.FirstFault.{line_number}

-- `v`, or `u:v`, each of one to nine digits
abbrev pub AreBounds : List ℕ → ℕ → ℕ → Type 0
AreBounds prefix low high =
    ((are_digits 9 prefix ≡ true) × (number prefix ≡ low) × (number prefix ≡ high))
    ⊎ ((u : List ℕ) × (v : List ℕ) × (prefix ≡ u ++ code ":" ∷ v) × (are_digits 9 u ≡ true) × (are_digits 9 v ≡ true)
    × (number u ≡ low) × (number v ≡ high))

-- a name alone
abbrev pub IsBare : Bool → List ℕ → Entry → Type 0
IsBare secondary token e = (token ≡ e.name) × (e.low ≡ (if secondary then 0 else 1)) × (e.high ≡ 1)

-- a prefix, a bar and a name
abbrev pub IsBounded : Kind → Bool → List ℕ → Entry → Type 0
IsBounded kind secondary token e =
    (prefix : List ℕ) × (is_bounds kind ≡ true) × (secondary ≡ false) × (has (code "|") prefix ≡ false)
    × (token ≡ prefix ++ code "|" ∷ e.name) × AreBounds prefix e.low e.high × (1 ≤ e.high) × (e.low ≤ e.high)

-- a token of the item line stands for an item
abbrev pub IsEntry : Kind → Bool → List ℕ → Entry → Type 0
IsEntry kind secondary token e = IsName e.name × (IsBare secondary token e ⊎ IsBounded kind secondary token e)

-- Parts of the item line stand for the items of this problem: those before the first bar for primary ones, those after
-- it for secondary ones. (Another bar stands for none: no name has one.)
pub record AreItems (kind : Kind) (parts : List (List ℕ)) (named : Named) : Type 0 where
  pub primary : List Entry
  pub secondary : List Entry
  pub before_bar : AllZip (IsEntry kind false) (before_first is_bar parts) primary
  pub behind_bar : AllZip (IsEntry kind true) (after_first is_bar parts) secondary
  pub names : named.names ≡ map (λ e. e.name) (primary ++ secondary)
  pub bounds : named.puzzle.bounds ≡ map (λ e. record { low = e.low; high = e.high }) primary
  pub count : named.puzzle.secondary ≡ length secondary
  pub distinct : AllPairs (λ x y. x ≢ y) named.names
  pub few : length named.names ≤ most_items

-- a token of an option line stands for a use: it is a name, or a name and a colour
abbrev pub IsUse : Context → List ℕ → Written → Type 0
IsUse c token u =
    (name : List ℕ) × (i : ℕ) × IsName name × (place c.names name ≡ Some i) × (u.item ≡ i + 1)
    × (((token ≡ name) × (u.colour ≡ []))
    ⊎ ((token ≡ name ++ code ":" ∷ u.colour) × (is_plain c.kind ≡ false) × (c.primaries < u.item) × IsColour u.colour))

-- an option line stands for uses, each of an item of its own; both with the line's number
abbrev pub IsOptionLine : Context → ℕ × List ℕ → ℕ × List Written → Type 0
IsOptionLine c line option = (option.0 ≡ line_number line.0) × AllZip (IsUse c) (tokens line.1) option.1
    × AllPairs (λ u v. u.item ≢ v.item) option.1

-- Option lines stand for the options and colours of this problem, and for these ignored lines: an option is kept where
-- it has a use of a primary item, else its line is ignored.
pub record AreOptions (c : Context) (lines : List (ℕ × List ℕ)) (named : Named) (ignored : List ℕ) : Type 0 where
  pub options : List (ℕ × List Written)
  pub stand : AllZip (IsOptionLine c) lines options
  pub others : ignored ≡ map (λ o. o.0) (filter (λ o. not (has_primary c.primaries o.1)) options)
  pub kept : List (List Written)
  pub are_kept : kept ≡ map (λ o. o.1) (filter (λ o. has_primary c.primaries o.1) options)
  pub few : length (flat_map (λ us. us) kept) ≤ most_uses
  pub colours : named.colours ≡ colours_of (flat_map (λ us. us) kept)
  pub numbered : named.puzzle.options ≡ map (number_uses named.colours) kept

-- the lines that are neither blank nor comments, with their numbers
abbrev pub numbered_content : List (List ℕ) → List (ℕ × List ℕ)
numbered_content lines = filter (λ line. not (is_skipped line.1)) (enumerate_from 1 lines)

-- A list of lines stands for a problem and ignored lines: the first one with content for the items, the others for the
-- options.
pub record StandsFor (kind : Kind) (lines : List (List ℕ)) (named : Named) (ignored : List ℕ) : Type 0 where
  pub no_nul : list_any (has 0) lines ≡ false
  pub item_line : ℕ × List ℕ
  pub option_lines : List (ℕ × List ℕ)
  pub content : numbered_content lines ≡ item_line ∷ option_lines
  pub items : AreItems kind (parts item_line.1) named
  pub options : AreOptions (record { kind = kind; names = named.names; primaries = length named.puzzle.bounds })
      option_lines named ignored
