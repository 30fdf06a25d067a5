-- The lines of a text, one after another: what they wrote down so far, what the reader knows after each, and the checks
-- of the next one by it.
-- No public contract rests on this file.
use Prim.Native.Char.{code}
use Rattle.std.specs.Prelude.{ℕ, List, map, fold, ◌+◌, length, [], ◌∷◌, ◌++◌, Bool, true, false, ◌&&◌, Option, None}
use Rattle.std.specs.Prelude.{Some, not, nat_eq, nat_lt, is_none, is_some, unwrap_or, if◌then◌else◌}
use Rattle.std.specs.List.{list_any}
use Rattle.xc_input.specs.declared.problem.Use.{Use}
use Rattle.xc_input.specs.Sheets.{Entry, Written, with_colour, number_uses, colour_number}
use Rattle.xc_input.specs.Problem.{use_count}
use Rattle.xc_input.specs.declared.kind.Kind.{Kind}
use Rattle.xc_input.specs.declared.fault.FaultKind.{FaultKind}
use Rattle.xc_input.specs.declared.fault.FaultKind.TheVariants.{TwoBars, UnknownItem, RepeatedInOption, ColourOnPrimary}
use Rattle.xc_input.specs.declared.fault.FaultKind.TheVariants.{BadColour, ColourNotHere, NulByte, TooManyUses}
use Rattle.xc_input.specs.Limits.{most_uses}
use Rattle.xc_text.specs.Words.{has, before, after, place, number}
use Rattle.xc_input.specs.Tokens.{tokens, parts, is_bar, is_skipped}
use Rattle.xc_input.specs.Faults.{Context, is_plain, name_checks, has_prefix, name_of, bound_texts, item_checks}
use Rattle.xc_input.specs.Faults.{is_bad_colour, has_primary}
use Rattle.xc_input.specs.FirstFault.{line_number}

-- ======== What the lines so far wrote down.

-- the items in order, how many of them are primary, the options in file order, and the colours by their numbers, from 1
pub record Sheet : Type 0 where
  pub entries : List Entry
  pub primaries : ℕ
  pub options : List (List Use)
  pub colours : List (List ℕ)

-- the names of items
abbrev pub names_of : List Entry → List (List ℕ)
names_of entries = map (λ e. e.name) entries

-- the colours so far and those of the option
abbrev pub with_uses : List (List ℕ) → List Written → List (List ℕ)
with_uses colours us = fold (λ cs u. with_colour cs u.colour) colours us

-- ======== The uses of an option that is kept, with the numbers of their colours.

-- the uses of an option that is kept, after options that used these colours
abbrev pub numbered : List (List ℕ) → List Written → List Use
numbered colours us = number_uses (with_uses colours us) us

-- a use with the number of its colour, after uses that had these colours
abbrev pub use_behind : List (List ℕ) → Written → Use
use_behind colours u = record { item = u.item; colour = colour_number (with_colour colours u.colour) u.colour }

-- ======== The lines of a text, one after another: what the reader knows after each, and the checks of the next one
-- by it.

-- AN ITEM LINE

-- the item of a token
abbrev pub entry : Kind → Bool → List ℕ → Entry
entry kind secondary token = record {
  name = name_of kind token;
  low = (if has_prefix kind token then number (bound_texts (before (code "|") token)).0
      else (if secondary then 0 else 1));
  high = (if has_prefix kind token then number (bound_texts (before (code "|") token)).1 else 1);
}

-- the items so far, and how many were before the bar, if one was met
pub record Row : Type 0 where
  pub entries : List Entry
  pub bar : Option ℕ

-- the checks of a bar or another part, after such items
abbrev pub staged_part_checks : Kind → Row → List ℕ → List (FaultKind × Bool)
staged_part_checks kind row part =
    (if is_bar part then (TwoBars, is_some row.bar) ∷ []
    else item_checks kind (names_of row.entries) (is_some row.bar) part)

-- the items so far with a part
abbrev pub with_part : Kind → Row → List ℕ → Row
with_part kind row part =
    (if is_bar part then record row { bar = Some (length row.entries) }
    else record row { entries = row.entries ++ entry kind (is_some row.bar) part ∷ [] })

-- the checks of parts, after such items
abbrev pub row_checks : Kind → Row → List (List ℕ) → List (FaultKind × Bool)
row_checks kind row [] = []
row_checks kind row (part ∷ parts) = staged_part_checks kind row part ++ row_checks kind (with_part kind row part) parts

-- the items so far with those of parts
abbrev pub row_with_parts : Kind → Row → List (List ℕ) → Row
row_with_parts kind row parts = fold (with_part kind) row parts

-- no items so far, and no bar
abbrev pub no_row : Row
no_row = record { entries = []; bar = None }

-- AN OPTION LINE

-- the context of these
abbrev pub context : Kind → List (List ℕ) → ℕ → Context
context kind names primaries = record { kind = kind; names = names; primaries = primaries }

-- the number of the item with this name
abbrev pub item_number : List (List ℕ) → List ℕ → ℕ
item_number names name = unwrap_or (place names name) 0 + 1

-- the use of a token
abbrev pub written : List (List ℕ) → List ℕ → Written
written names token = record { item = item_number names (before (code ":") token); colour = after (code ":") token }

-- the checks of a token, after tokens with these items
abbrev pub staged_token_checks : Context → List ℕ → List ℕ → List (FaultKind × Bool)
staged_token_checks c seen token =
    let name = before (code ":") token in
    let item = item_number c.names name in
    let coloured = has (code ":") token in
    (ColourNotHere, is_plain c.kind && coloured) ∷ (name_checks name ++
    (UnknownItem, is_none (place c.names name)) ∷ (RepeatedInOption, list_any (λ i. nat_eq i item) seen) ∷
    (ColourOnPrimary, coloured && not (nat_lt c.primaries item)) ∷
    (BadColour, coloured && is_bad_colour (after (code ":") token)) ∷ [])

-- the checks of tokens, after tokens with these items
abbrev pub staged_option_checks : Context → List ℕ → List (List ℕ) → List (FaultKind × Bool)
staged_option_checks c seen [] = []
staged_option_checks c seen (token ∷ tokens) =
    staged_token_checks c seen token ++ staged_option_checks c (seen
    ++ item_number c.names (before (code ":") token) ∷ []) tokens

-- THE LINES

-- the state after the lines so far; before the item line the sheet is empty
pub record Stage : Type 0 where
  pub started : Bool
  pub sheet : Sheet
  pub ignored : List ℕ

-- before the first line
abbrev pub no_stage : Stage
no_stage =
    record { started = false; sheet = record { entries = []; primaries = 0; options = []; colours = [] }; ignored = [] }

-- the items of the row, and the options and colours of the sheet
abbrev pub with_row : Sheet → Row → Sheet
with_row sheet row = record sheet { entries = row.entries; primaries = unwrap_or row.bar (length row.entries) }

-- the uses of an option line
abbrev pub written_by : Sheet → List ℕ → List Written
written_by sheet line = map (written (names_of sheet.entries)) (tokens line)

-- the check of an option line as a whole, after those of its tokens
abbrev pub whole_checks : Sheet → List ℕ → List (FaultKind × Bool)
whole_checks sheet line =
    let kept = has_primary sheet.primaries (written_by sheet line) in
    (TooManyUses, kept && nat_lt most_uses (use_count sheet.options + length (tokens line))) ∷ []

-- a line that is neither blank nor a comment
abbrev pub staged_content_checks : Kind → Stage → List ℕ → List (FaultKind × Bool)
staged_content_checks kind stage line =
    let known = context kind (names_of stage.sheet.entries) stage.sheet.primaries in
    (if stage.started then staged_option_checks known [] (tokens line) ++ whole_checks stage.sheet line
    else row_checks kind no_row (parts line))

-- the checks of a line
abbrev pub staged_line_checks : Kind → Stage → List ℕ → List (FaultKind × Bool)
staged_line_checks kind stage line = (NulByte, has 0 line) ∷ (if is_skipped line then []
    else staged_content_checks kind stage line)

-- the lines with an option of the line of this number
abbrev pub with_option : ℕ → Stage → List Written → Stage
with_option n stage us =
    let sheet = stage.sheet in
    let colours = with_uses sheet.colours us in
    let more = record sheet { options = sheet.options ++ number_uses colours us ∷ []; colours = colours } in
    (if has_primary sheet.primaries us then record stage { started = true; sheet = more }
    else record stage { started = true; ignored = stage.ignored ++ n ∷ [] })

-- the state after one more line, of this number
abbrev pub with_line : Kind → ℕ → Stage → List ℕ → Stage
with_line kind n stage line =
    (if is_skipped line then stage else
    (if stage.started then with_option n stage (written_by stage.sheet line)
    else record stage { started = true; sheet = with_row stage.sheet (row_with_parts kind no_row (parts line)) }))

-- the state after lines that come after n lines and this state
abbrev pub stage_from : Kind → ℕ → Stage → List (List ℕ) → Stage
stage_from kind n stage [] = stage
stage_from kind n stage (line ∷ lines) = stage_from kind (n + 1) (with_line kind (line_number (n + 1)) stage line) lines

-- the state after the lines
abbrev pub stage_of : Kind → List (List ℕ) → Stage
stage_of kind lines = stage_from kind 0 no_stage lines
