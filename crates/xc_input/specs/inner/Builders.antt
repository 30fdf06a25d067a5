-- What the parts of the reader hold, in the words of the grammar.
-- No public contract rests on this file.
use Rattle.std.specs.Prelude.{◌≡◌, ◌≢◌, ℕ, ◌+◌, ◌<◌, ◌≤◌, Bool, true, false, nat_eq, List, [], Option, None, Some}
use Rattle.std.specs.Prelude.{Result, Ok, Err, All, AllPairs, map, drop, length, get_or}
use Rattle.std.specs.List.{list_any}
use Rattle.xc_input.specs.declared.problem.Item.{Item}
use Rattle.xc_input.specs.declared.fault.FaultKind.{FaultKind}
use Rattle.xc_input.specs.declared.fault.InputError.{InputError}
use Rattle.xc_input.specs.declared.fault.InputError.TheVariants.{Fault as BadLine, Memory as NoMemory}
use Rattle.xc_input.specs.declared.written.ItemLine.{ItemLine}
use Rattle.xc_input.specs.declared.line_error.LineError.{LineError}
use Rattle.xc_input.specs.declared.line_error.LineError.TheVariants.{Fault, Memory}
use Rattle.xc_input.specs.declared.written.WrittenUse.{WrittenUse}
use Rattle.xc_input.specs.declared.stage.ProblemBuilder.{ProblemBuilder}
use Rattle.xc_input.specs.declared.stage.Tables.{Tables}
use Rattle.xc_input.specs.Named.{Named, IsName, IsSound}
use Rattle.xc_text.specs.Words.{is_space}
use Rattle.xc_input.specs.inner.Stored.{pieces, AreWords, named_from, IsOptional, AreOptionStarts, key_names}
use Rattle.xc_input.specs.inner.Stages.{Stage, Row, Sheet, names_of}
use Rattle.xc_input.specs.Sheets.{Entry, Written}
use Rattle.xc_input.specs.Limits.{most_items, most_uses}
use Rattle.indexmap.specs.IndexSet.{hasher_of}

-- the answer to what has this first fault
abbrev pub Judged : {T : Type 0} → Option FaultKind → Result T LineError → Type 0
Judged fault (Ok x) = fault ≡ None
Judged fault (Err (Fault kind)) = fault ≡ Some kind
Judged fault (Err Memory) = Unit {0}

-- an item as the grammar has it
abbrev pub entry_of : Item → Entry
entry_of item = record { name = item.name.items; low = item.low; high = item.high }

-- the items of the item line, as the grammar has them
abbrev pub row_of_line : ItemLine → Row
row_of_line i = record { entries = map entry_of i.items.items; bar = i.bar }

-- no two of them are the same
abbrev pub AreDistinct : List (List ℕ) → Type 0
AreDistinct names = AllPairs (λ x y. x ≢ y) names

-- different names without white space
pub record AreNames (names : List (List ℕ)) : Type 0 where
  pub named : All IsName names
  pub solid : All (λ name. list_any is_space name ≡ false) names
  pub distinct : AllPairs (λ x y. x ≢ y) names

-- the table of names has the names of the items
abbrev pub IsItemTable : ItemLine → Type 0
IsItemTable i =
    (key_names i.names.keys ≡ names_of (map entry_of i.items.items))
    × (length i.items.items ≤ most_items) × AreNames (key_names i.names.keys)

-- a use as the grammar has it
abbrev pub written_of : WrittenUse → Written
written_of p = record { item = p.item; colour = p.colour.now }

-- the items of uses
abbrev pub items_of : List Written → List ℕ
items_of us = map (λ u. u.item) us

-- of the items 1 to the length, these are marked
abbrev pub AreMarks : List Bool → List ℕ → Type 0
AreMarks marks seen = (k : ℕ) → k < length marks → get_or marks k false ≡ list_any (λ i. nat_eq i (k + 1)) seen

-- one of so many items
abbrev pub IsMarkable : ℕ → ℕ → Type 0
IsMarkable n i = (1 ≤ i) × (i ≤ n)

-- the tables of an option line's items and colours, when none is marked
pub record AreTables (t : Tables) : Type 0 where
  pub named : AreNames (key_names t.names.keys)
  pub few_items : length t.names.keys ≤ most_items
  pub words : AreWords (key_names t.names.keys) t.guesses.words.items
  pub marks : length t.marks.items ≡ length t.names.keys
  pub unmarked : AreMarks t.marks.items []
  pub few_colours : length (key_names t.colours.keys) ≤ length t.uses.items
  pub distinct_colours : AreDistinct (key_names t.colours.keys)
  pub seed : hasher_of t.colours ≡ hasher_of t.names

-- the tables are of the same items
pub record AreSameItems (t u : Tables) : Type 0 where
  pub names : u.names ≡ t.names
  pub guesses : u.guesses ≡ t.guesses
  pub primary : u.primary ≡ t.primary

-- what the lines so far wrote down
abbrev pub sheet_of_builder : ProblemBuilder → Sheet
sheet_of_builder d = record {
  entries = map entry_of d.items.items;
  primaries = d.tables.primary;
  options = pieces d.starts.items d.tables.uses.items;
  colours = key_names d.tables.colours.keys;
}

-- what the lines so far stand for
abbrev pub stage_of_builder : ProblemBuilder → Stage
stage_of_builder d = record { started = d.started; sheet = sheet_of_builder d; ignored = d.ignored.items }

-- the parts of a draft agree
pub record IsBuilder (d : ProblemBuilder) : Type 0 where
  pub names : key_names d.tables.names.keys ≡ names_of (map entry_of d.items.items)
  pub tables : AreTables d.tables
  pub few_uses : length d.tables.uses.items ≤ most_uses
  pub starts : d.started ≡ true → AreOptionStarts d.starts.items d.tables.uses.items
  pub unstarted : d.started ≡ false → (d.starts.items ≡ []) × (d.tables.uses.items ≡ [])

-- the problem that it holds
abbrev pub named_by : ProblemBuilder → Named
named_by d =
    named_from d.items.items d.tables.primary d.tables.uses.items d.starts.items d.tables.colours.keys
    (hasher_of d.tables.names)

-- its parts make up a sound problem
pub record IsReadable (d : ProblemBuilder) : Type 0 where
  pub names : key_names d.tables.names.keys ≡ map (λ x. x.name.items) d.items.items
  pub primary : d.tables.primary ≤ length d.items.items
  pub secondary : All IsOptional (drop d.tables.primary d.items.items)
  pub starts : AreOptionStarts d.starts.items d.tables.uses.items
  pub sound : IsSound (named_by d)
  pub seed : hasher_of d.tables.colours ≡ hasher_of d.tables.names

-- the error of the line of this number
abbrev pub error_at : ℕ → LineError → InputError
error_at line (Fault fault) = BadLine line fault
error_at line Memory = NoMemory
