-- The faults in words, and why no problem was read.
-- Public contracts rest on this file: readers must believe it.
use Rattle.std.specs.Prelude.{ℕ, List, [], ◌∷◌, ◌++◌, codes, flat_map, if◌then◌else◌}
use Rattle.std.specs.Fmt.{decimal}
use Rattle.xc_input.specs.declared.fault.InputError.{InputError}
use Rattle.xc_input.specs.declared.fault.InputError.TheVariants.{Fault, Device, Memory}
use denote.Enum.Bare.{sameb}
use Rattle.xc_input.specs.contracts.fault.FaultKind.{the_type}
use Rattle.xc_input.specs.declared.fault.FaultKind.{FaultKind}
use Rattle.xc_input.specs.declared.fault.FaultKind.TheVariants.{NoItems, NulByte, EmptyName, NameTooLong, BadByteInName}
use Rattle.xc_input.specs.declared.fault.FaultKind.TheVariants.{RepeatedName, TwoBars, BadBound, BoundOrder}
use Rattle.xc_input.specs.declared.fault.FaultKind.TheVariants.{BoundOnSecondary, UnknownItem, RepeatedInOption}
use Rattle.xc_input.specs.declared.fault.FaultKind.TheVariants.{ColourOnPrimary, BadColour, ColourNotHere, TooManyItems}
use Rattle.xc_input.specs.declared.fault.FaultKind.TheVariants.{TooManyUses}

-- the words of each fault
abbrev pub fault_words : List (FaultKind × List ℕ)
fault_words =
    (NoItems, codes "no items") ∷ (NulByte, codes "NUL byte") ∷ (EmptyName, codes "empty name") ∷
    (NameTooLong, codes "name too long") ∷ (BadByteInName, codes "bad byte in name") ∷
    (RepeatedName, codes "name repeated") ∷ (TwoBars, codes "second bar") ∷ (BadBound, codes "bad bound") ∷
    (BoundOrder, codes "bound order") ∷ (BoundOnSecondary, codes "bound on a secondary item") ∷
    (UnknownItem, codes "unknown item") ∷ (RepeatedInOption, codes "item repeated in option") ∷
    (ColourOnPrimary, codes "colour on a primary item") ∷ (BadColour, codes "bad colour") ∷
    (ColourNotHere, codes "colour not allowed here") ∷ (TooManyItems, codes "too many items") ∷
    (TooManyUses, codes "too many uses") ∷ []

-- a fault in words: those of its row (`sameb` says whether two faults are the same)
abbrev pub fault_text : FaultKind → List ℕ
fault_text fault = flat_map (λ row. if sameb the_type fault row.0 then row.1 else []) fault_words

-- why no problem was read, in words
abbrev pub error_text : InputError → List ℕ
error_text (Fault line fault) = codes "line " ++ decimal line ++ codes ": " ++ fault_text fault
error_text Device = codes "a read failed"
error_text Memory = codes "out of memory"
