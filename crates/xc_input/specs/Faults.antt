-- The faults of the parts of a line, as checks in their order.
-- Public contracts rest on this file: readers must believe it.
use Rattle.std.specs.Prelude.{ℕ, ◌+◌, length, List, [], ◌∷◌, ◌++◌, Bool, true, false, ◌||◌, ◌&&◌, Option, None, Some}
use Rattle.std.specs.Prelude.{nat_le, nat_lt, not, filter, is_none, map, unwrap_or, if◌then◌else◌}
use Prim.Native.Char.{code}
use Rattle.std.specs.List.{list_any, before_first}
use Rattle.xc_input.specs.declared.kind.Kind.{Kind}
use Rattle.xc_input.specs.declared.kind.Kind.TheVariants.{Plain, Bounds}
use Rattle.xc_input.specs.declared.fault.FaultKind.{FaultKind}
use Rattle.xc_input.specs.declared.fault.FaultKind.TheVariants.{EmptyName, NameTooLong, BadByteInName, RepeatedName}
use Rattle.xc_input.specs.declared.fault.FaultKind.TheVariants.{TwoBars, BadBound, BoundOrder, BoundOnSecondary}
use Rattle.xc_input.specs.declared.fault.FaultKind.TheVariants.{UnknownItem, RepeatedInOption, ColourOnPrimary}
use Rattle.xc_input.specs.declared.fault.FaultKind.TheVariants.{BadColour, ColourNotHere, TooManyItems}
use Rattle.xc_input.specs.Limits.{most_items, longest_name, longest_colour}
use Rattle.xc_text.specs.Words.{has, before, after, place, are_digits, number}
use Rattle.xc_input.specs.Tokens.{is_bar}
use Rattle.xc_input.specs.Sheets.{Written}

-- of checks in their order, the first that holds
abbrev pub first : {A : Type 0} → List (A × Bool) → Option A
first [] = None
first (c ∷ cs) = (if c.1 then Some c.0 else first cs)

-- the checks of each in turn, by those before it, after some
abbrev pub checks_of_each : {A B : Type 0} → (List A → A → List B) → List A → List A → List B
checks_of_each checks before [] = []
checks_of_each checks before (x ∷ xs) = checks before x ++ checks_of_each checks (before ++ x ∷ []) xs

-- whether uses of this kind have no colours
abbrev pub is_plain : Kind → Bool
is_plain Plain = true
is_plain _ = false

-- whether items of this kind may have bounds
abbrev pub is_bounds : Kind → Bool
is_bounds Bounds = true
is_bounds _ = false

-- a name has bytes, not too many, and neither a colon nor a bar
abbrev pub name_checks : List ℕ → List (FaultKind × Bool)
name_checks name =
    (EmptyName, nat_lt (length name) 1) ∷ (NameTooLong, nat_lt longest_name (length name)) ∷
    (BadByteInName, has (code ":") name || has (code "|") name) ∷ []

-- THE ITEM LINE

-- whether a token has a prefix
abbrev pub has_prefix : Kind → List ℕ → Bool
has_prefix kind token = is_bounds kind && has (code "|") token

-- the name of a token, after its prefix
abbrev pub name_of : Kind → List ℕ → List ℕ
name_of kind token = (if has_prefix kind token then after (code "|") token else token)

-- the texts of the two bounds of a prefix: of `u:v` the halves, of `v` twice the same
abbrev pub bound_texts : List ℕ → List ℕ × List ℕ
bound_texts prefix = (before (code ":") prefix, if has (code ":") prefix then after (code ":") prefix else prefix)

-- a prefix has one or two numbers that are sound bounds, and its item is primary
abbrev pub prefix_checks : List ℕ → Bool → List (FaultKind × Bool)
prefix_checks prefix secondary =
    let low = (bound_texts prefix).0 in
    let high = (bound_texts prefix).1 in
    (BadBound, not (are_digits 9 low && are_digits 9 high)) ∷
    (BoundOrder, nat_lt (number high) 1 || nat_lt (number high) (number low)) ∷ (BoundOnSecondary, secondary) ∷ []

-- the checks of a part's prefix, where it has one
abbrev pub bound_checks : Kind → Bool → List ℕ → List (FaultKind × Bool)
bound_checks kind secondary part = if has_prefix kind part then prefix_checks (before (code "|") part) secondary else []

-- the checks of a token that is no bar, after items with these names
abbrev pub item_checks : Kind → List (List ℕ) → Bool → List ℕ → List (FaultKind × Bool)
item_checks kind names secondary token =
    bound_checks kind secondary token ++ (name_checks (name_of kind token) ++
    (RepeatedName, not (is_none (place names (name_of kind token)))) ∷
    (TooManyItems, not (nat_lt (length names) most_items)) ∷ [])

-- the names of the items of these parts
abbrev pub item_names : Kind → List (List ℕ) → List (List ℕ)
item_names kind parts = map (name_of kind) (filter (λ part. not (is_bar part)) parts)

-- the checks of a bar or another part, after these parts
abbrev pub part_checks : Kind → List (List ℕ) → List ℕ → List (FaultKind × Bool)
part_checks kind before part =
    let barred = list_any is_bar before in
    (if is_bar part then (TwoBars, barred) ∷ [] else item_checks kind (item_names kind before) barred part)

-- AN OPTION LINE

-- what the item line said of an option line: the kind, the names of the items, and how many of them are primary
pub record Context : Type 0 where
  pub kind : Kind
  pub names : List (List ℕ)
  pub primaries : ℕ

-- what an item line of these parts says
abbrev pub context_of : Kind → List (List ℕ) → Context
context_of kind parts =
    record { kind = kind; names = item_names kind parts; primaries = length (before_first is_bar parts) }

-- the number of the item that a token names
abbrev pub item_of : Context → List ℕ → ℕ
item_of c token = unwrap_or (place c.names (before (code ":") token)) 0 + 1

-- whether a colour has no byte, or too many
abbrev pub is_bad_colour : List ℕ → Bool
is_bad_colour colour = nat_lt (length colour) 1 || nat_lt longest_colour (length colour)

-- the checks of a token, after these tokens
abbrev pub token_checks : Context → List (List ℕ) → List ℕ → List (FaultKind × Bool)
token_checks c others token =
    let name = before (code ":") token in
    let coloured = has (code ":") token in
    (ColourNotHere, is_plain c.kind && coloured) ∷ (name_checks name ++
    (UnknownItem, is_none (place c.names name)) ∷ (RepeatedInOption, has (item_of c token) (map (item_of c) others)) ∷
    (ColourOnPrimary, coloured && not (nat_lt c.primaries (item_of c token))) ∷
    (BadColour, coloured && is_bad_colour (after (code ":") token)) ∷ [])

-- whether one of these uses is of a primary item
abbrev pub has_primary : ℕ → List Written → Bool
has_primary primaries us = list_any (λ u. nat_le u.item primaries) us
