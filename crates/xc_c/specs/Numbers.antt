-- The numbers of kinds, faults and versions.
-- Public contracts rest on this file: readers must believe it.
use Rattle.std.specs.Prelude.{ℕ, ◌+◌, ◌*◌, ◌==◌, List, [], ◌∷◌, Option, None, Some, if◌then◌else◌}
use Rattle.xc_input.specs.declared.kind.Kind.{Kind}
use Rattle.xc_input.specs.declared.kind.Kind.TheVariants.{Plain, Colours, Bounds}
use Rattle.xc_input.specs.declared.fault.FaultKind.{FaultKind}
use Rattle.xc_input.specs.declared.fault.FaultKind.TheVariants.{NoItems, NulByte, EmptyName, NameTooLong, BadByteInName}
use Rattle.xc_input.specs.declared.fault.FaultKind.TheVariants.{RepeatedName, TwoBars, BadBound, BoundOrder}
use Rattle.xc_input.specs.declared.fault.FaultKind.TheVariants.{BoundOnSecondary, UnknownItem, RepeatedInOption}
use Rattle.xc_input.specs.declared.fault.FaultKind.TheVariants.{ColourOnPrimary, BadColour, ColourNotHere, TooManyItems}
use Rattle.xc_input.specs.declared.fault.FaultKind.TheVariants.{TooManyUses}

-- the kind of a number: as `dlx1` reads a text, as `dlx2`, as `dlx3`
abbrev pub kind_by_number : ℕ → Option Kind
kind_by_number n =
    if n == 1 then Some Plain else if n == 2 then Some Colours else if n == 3 then Some Bounds else None

-- the faults in the order of their numbers, from 1, as in the table of faults
abbrev pub faults : List FaultKind
faults = NoItems ∷ NulByte ∷ EmptyName ∷ NameTooLong ∷ BadByteInName ∷ RepeatedName ∷ TwoBars ∷ BadBound ∷ BoundOrder
    ∷ BoundOnSecondary ∷ UnknownItem ∷ RepeatedInOption ∷ ColourOnPrimary ∷ BadColour ∷ ColourNotHere ∷ TooManyItems
    ∷ TooManyUses ∷ []

-- the number of a version
abbrev pub version_number : ℕ → ℕ → ℕ → ℕ
version_number major minor patch = 10000 * major + 100 * minor + patch
