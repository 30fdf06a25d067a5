-- Worked texts, and what the definitions say of them.
-- Public contracts rest on this file: readers must believe it.
use Rattle.std.specs.Prelude.{◌≡◌, ℕ, List, [], ◌∷◌, ◌++◌, Some, codes}
use Rattle.xc_text.specs.declared.seed.Seed.{Seed}
use Rattle.xc_input.specs.declared.kind.Kind.{Kind}
use Rattle.xc_input.specs.declared.kind.Kind.TheVariants.{Plain, Colours, Bounds}
use Rattle.xc_input.specs.declared.fault.FaultKind.{FaultKind}
use Rattle.xc_input.specs.declared.fault.FaultKind.TheVariants.{NoItems, NulByte, EmptyName, NameTooLong, BadByteInName}
use Rattle.xc_input.specs.declared.fault.FaultKind.TheVariants.{RepeatedName, TwoBars, BadBound, BoundOrder}
use Rattle.xc_input.specs.declared.fault.FaultKind.TheVariants.{BoundOnSecondary, UnknownItem, RepeatedInOption}
use Rattle.xc_input.specs.declared.fault.FaultKind.TheVariants.{ColourOnPrimary, BadColour, ColourNotHere}
use Rattle.xc_input.specs.declared.problem.Use.{Use}
use Rattle.xc_input.specs.declared.problem.Bounds.{Bounds as ItemBounds}
use Rattle.xc_input.specs.FirstFault.{first_fault}
use Rattle.xc_input.specs.Text.{StandsFor}
use Rattle.xc_text.specs.Lines.{lines_of}

-- a use of item i, with colour c
abbrev pub use_of : ℕ → ℕ → Use
use_of i c = record { item = i; colour = c }

-- a final line feed begins no further line
abbrev pub Cuts : Type 0
Cuts =
    (lines_of [] ≡ []) × (lines_of (10 ∷ []) ≡ [] ∷ []) × (lines_of (codes "A") ≡ codes "A" ∷ [])
    × (lines_of (codes "A" ++ 10 ∷ []) ≡ codes "A" ∷ [])
    × (lines_of (codes "A" ++ 10 ∷ 10 ∷ codes "B") ≡ codes "A" ∷ [] ∷ codes "B" ∷ [])

-- one line has this first fault
abbrev pub Faulty : Kind → List ℕ → FaultKind → Type 0
Faulty kind line k = first_fault kind (line ∷ []) ≡ Some (1, k)

-- an item line and an option line have this first fault, in the second
abbrev pub Faulty2 : Kind → List ℕ → List ℕ → FaultKind → Type 0
Faulty2 kind a b k = first_fault kind (a ∷ b ∷ []) ≡ Some (2, k)

-- faults of item lines, and of texts without one
abbrev pub ItemLines : Type 0
ItemLines =
    (first_fault Plain [] ≡ Some (1, NoItems)) × (first_fault Plain (codes "| hi" ∷ []) ≡ Some (2, NoItems))
    × Faulty Bounds (codes "B|x A") BadBound × Faulty Plain (codes "B|x A") BadByteInName
    × Faulty Bounds (codes "9999999999|a") BadBound × Faulty Bounds (codes "2:1|A") BoundOrder
    × Faulty Bounds (codes "0|A") BoundOrder
    × Faulty Bounds (codes "A |1|x") BoundOnSecondary × Faulty Bounds (codes "A |0|x") BoundOrder
    × Faulty Bounds (codes "2|") EmptyName
    × Faulty Bounds (codes "1|2|A") BadByteInName × Faulty Bounds (codes "A:b") BadByteInName
    × Faulty Bounds (codes "A||x") BadBound
    × Faulty Plain (codes "A A") RepeatedName × Faulty Plain (codes "A | | x") TwoBars
    × Faulty Plain (codes "123456789012345678901234567890123") NameTooLong

-- faults of option lines
abbrev pub OptionLines : Type 0
OptionLines =
    Faulty2 Plain (codes "A B") (codes "A B A") RepeatedInOption × Faulty2 Plain (codes "A") (codes "B") UnknownItem
    × Faulty2 Plain (codes "A | x") (codes "A x:1") ColourNotHere
    × Faulty2 Plain (codes "A | x") (codes "x x") RepeatedInOption
    × Faulty2 Colours (codes "A | x") (codes "A:1") ColourOnPrimary
    × Faulty2 Colours (codes "A | x") (codes "A x:") BadColour
    × Faulty2 Colours (codes "A | x") (codes "A x:123456789") BadColour
    × Faulty2 Colours (codes "A | x") (codes "A A:1") RepeatedInOption
    × Faulty2 Colours (codes "A") (codes ":") EmptyName
    × Faulty2 Plain (codes "A B") (codes "A ABCDEFGHIJ Q A") UnknownItem
    × Faulty2 Plain (codes "A B") (codes "A A " ++ 0 ∷ []) NulByte

-- comments, blank lines and carriage returns, and an option that is ignored
abbrev pub commented : List (List ℕ)
commented =
    (codes "| test" ++ 13 ∷ []) ∷ (13 ∷ []) ∷ (codes "A | x" ++ 13 ∷ []) ∷ (codes "x" ++ 13 ∷ []) ∷ codes "A x" ∷ []

-- two options have the same colour for x, and one between them another
abbrev pub coloured : List (List ℕ)
coloured = codes "A B | x" ∷ codes "A x:red" ∷ codes "B x:green" ∷ codes "B x:red" ∷ []

-- a bound on each primary item
abbrev pub bounded : List (List ℕ)
bounded = codes "2|A 0:1|B |x" ∷ []

-- held at least l and at most h times
abbrev pub bounds : ℕ → ℕ → ItemBounds
bounds l h = record { low = l; high = h }

-- the problems and the ignored lines that texts stand for, by each seed
abbrev pub Problems : Type 0
Problems = (seed : Seed) →
    StandsFor Plain commented (record {
      names = codes "A" ∷ codes "x" ∷ [];
      colours = [];
      puzzle = record { bounds = bounds 1 1 ∷ []; secondary = 1; options = (use_of 1 0 ∷ use_of 2 0 ∷ []) ∷ [] };
      seed = seed;
    }) (4 ∷ [])
    × StandsFor Colours coloured (record {
      names = codes "A" ∷ codes "B" ∷ codes "x" ∷ [];
      colours = codes "red" ∷ codes "green" ∷ [];
      puzzle = record {
        bounds = bounds 1 1 ∷ bounds 1 1 ∷ [];
        secondary = 1;
        options = (use_of 1 0 ∷ use_of 3 1 ∷ []) ∷ (use_of 2 0 ∷ use_of 3 2 ∷ []) ∷ (use_of 2 0 ∷ use_of 3 1 ∷ []) ∷ [];
      };
      seed = seed;
    }) []
    × StandsFor Bounds bounded (record {
      names = codes "A" ∷ codes "B" ∷ codes "x" ∷ [];
      colours = [];
      puzzle = record { bounds = bounds 2 2 ∷ bounds 0 1 ∷ []; secondary = 1; options = [] };
      seed = seed;
    }) []
