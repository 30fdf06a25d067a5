-- The first fault of a text.
-- Public contracts rest on this file: readers must believe it.
use Rattle.std.specs.Prelude.{ℕ, ◌+◌, ◌-◌, ◌^◌, min, length, List, [], ◌∷◌, ◌++◌, Bool, ◌&&◌, Option, None, Some, ◌≡◌}
use Rattle.std.specs.Prelude.{nat_le, nat_lt, not, filter, map, sum_by, if◌then◌else◌}
use Rattle.std.specs.List.{list_any, list_all}
use Rattle.std.specs.Option.{option_or}
use Rattle.xc_input.specs.declared.kind.Kind.{Kind}
use Rattle.xc_input.specs.declared.fault.FaultKind.{FaultKind}
use Rattle.xc_input.specs.declared.fault.FaultKind.TheVariants.{NoItems, NulByte, TooManyUses}
use Rattle.xc_input.specs.Limits.{most_uses}
use Rattle.xc_text.specs.Words.{has}
use Rattle.xc_input.specs.Tokens.{tokens, parts, is_skipped}
use Rattle.xc_input.specs.Faults.{first, checks_of_each, part_checks, Context, context_of, item_of, token_checks}
use Rattle.xc_text.specs.Lines.{lines_of}

-- the number of a line, which stays at its last value
abbrev pub line_number : ℕ → ℕ
line_number n = min n (2 ^ 64 - 1)

-- of these lines those that are neither blank nor comments: first the item line, then option lines
abbrev pub content : List (List ℕ) → List (List ℕ)
content lines = filter (λ line. not (is_skipped line)) lines

-- whether an option line has a primary item; else it is ignored
abbrev pub is_kept : Context → List ℕ → Bool
is_kept c line = list_any (λ token. nat_le (item_of c token) c.primaries) (tokens line)

-- how many uses those of these option lines have that are kept
abbrev pub kept_uses : Context → List (List ℕ) → ℕ
kept_uses c lines = sum_by (λ line. length (tokens line)) (filter (is_kept c) lines)

-- the checks of an option line, after these
abbrev pub option_checks : Context → List (List ℕ) → List ℕ → List (FaultKind × Bool)
option_checks c options line =
    checks_of_each (token_checks c) [] (tokens line)
    ++ (TooManyUses, is_kept c line && nat_lt most_uses (kept_uses c options + length (tokens line))) ∷ []

-- the checks of a line with content, after these
abbrev pub content_checks : Kind → List (List ℕ) → List ℕ → List (FaultKind × Bool)
content_checks kind [] line = checks_of_each (part_checks kind) [] (parts line)
content_checks kind (items ∷ options) line = option_checks (context_of kind (parts items)) options line

-- the checks of a line, after these, with its number
abbrev pub line_checks : Kind → List (List ℕ) → List ℕ → List ((ℕ × FaultKind) × Bool)
line_checks kind lines line =
    let checks = (NulByte, has 0 line) ∷ (if is_skipped line then [] else content_checks kind (content lines) line) in
    map (λ check. ((line_number (length lines + 1), check.0), check.1)) checks

-- the first fault of the lines so far
abbrev pub line_fault : Kind → List (List ℕ) → Option (ℕ × FaultKind)
line_fault kind lines = first (checks_of_each (line_checks kind) [] lines)

-- THE FIRST FAULT of a whole text: that of a line, or else that it has no item line
abbrev pub first_fault : Kind → List (List ℕ) → Option (ℕ × FaultKind)
first_fault kind lines = option_or (line_fault kind lines)
    (if list_all is_skipped lines then Some (line_number (length lines + 1), NoItems) else None)

-- the first fault of a text, in this line
abbrev pub IsFirstFault : Kind → List ℕ → ℕ → FaultKind → Type 0
IsFirstFault kind bytes line fault = first_fault kind (lines_of bytes) ≡ Some (line, fault)
