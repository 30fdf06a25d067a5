-- Each list of lines has a first fault or, by each seed, stands for one problem, and a token at fault has the fault of
-- its line. What stands for one stands for it as each kind that allows more.
-- Public contracts rest on this file: readers must believe it.
use Rattle.std.specs.Prelude.{◌≡◌, ◌↔◌, ◌+◌, ℕ, List, [], ◌∷◌, ◌++◌, None, Some, length, slice_get, flat_map}
use Rattle.xc_input.specs.declared.kind.Kind.{Kind}
use Rattle.xc_input.specs.declared.kind.Kind.TheVariants.{Bounds}
use Rattle.xc_input.specs.Sheets.{Written, colours_of, number_uses}
use Rattle.xc_input.specs.declared.problem.Item.{Item}
use Rattle.xc_input.specs.ItemBounds.{bounds_of}
use Rattle.xc_text.specs.Lines.{lines_of}
use Rattle.xc_input.specs.Named.{Named, IsSound}
use Rattle.xc_input.specs.declared.at_fault.FaultyToken.{FaultyToken}
use Rattle.xc_input.specs.FaultyTokens.{IsFaultyToken}
use Rattle.xc_input.specs.FirstFault.{line_number, content, line_fault, first_fault}
use Rattle.xc_input.specs.Text.{StandsFor}

-- lines have no fault exactly if they stand for a problem
abbrev pub FaultlessStand : Type 0
FaultlessStand = (kind : Kind) (lines : List (List ℕ)) → (first_fault kind lines ≡ None)
    ↔ ((named : Named) × (ignored : List ℕ) × StandsFor kind lines named ignored)

-- and they stand for no other: they say all of it but its seed
abbrev pub StandForOne : Type 0
StandForOne = (kind : Kind) (lines : List (List ℕ)) (a b : Named) (is js : List ℕ)
    → StandsFor kind lines a is → StandsFor kind lines b js → (a ≡ record b { seed = a.seed }) × (is ≡ js)

-- lines that stand for a problem as one kind stand for the same problem as another
abbrev pub StandAlso : Kind → Kind → Type 0
StandAlso kind other = (lines : List (List ℕ)) (named : Named) (ignored : List ℕ)
    → StandsFor kind lines named ignored → StandsFor other lines named ignored

-- where lines have no fault, and a token of the next one is at fault, that is this line's fault
abbrev pub TokensAgree : Type 0
TokensAgree = (kind : Kind) (lines : List (List ℕ)) (line : List ℕ) (t : FaultyToken) → line_fault kind lines ≡ None
    → IsFaultyToken kind (slice_get (content lines) 0) line t
    → line_fault kind (lines ++ line ∷ []) ≡ Some (line_number (length lines + 1), t.kind)

-- the colours of a problem are those of uses that stand for its own, each where it is met first
abbrev pub AreMetInOrder : Named → Type 0
AreMetInOrder a = (us : List Written) × (a.colours ≡ colours_of us)
    × (number_uses a.colours us ≡ flat_map (λ us. us) a.puzzle.options)

-- A problem is sound, and its colours are numbered so, exactly if some text stands for it.
abbrev pub HaveTexts : Type 0
HaveTexts = (a : Named) → (IsSound a × AreMetInOrder a)
    ↔ ((text : List ℕ) × (ignored : List ℕ) × StandsFor Bounds (lines_of text) a ignored)

-- two items are the same: the room that their names have beyond their bytes doesn't matter
abbrev pub IsSameItem : Item → Item → Type 0
IsSameItem a b = (a.name.items ≡ b.name.items) × (bounds_of a ≡ bounds_of b)

-- two tokens at fault are the same: where their bytes are doesn't matter
abbrev pub IsSameToken : FaultyToken → FaultyToken → Type 0
IsSameToken a b = (a.before.now ≡ b.before.now) × (a.token.now ≡ b.token.now) × (a.behind.now ≡ b.behind.now)
    × (a.kind ≡ b.kind)
