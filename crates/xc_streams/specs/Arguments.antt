-- What a command line answers.
-- Public contracts rest on this file: readers must believe it.
use Rattle.std.specs.Prelude.{◌≡◌, ◌<◌, ℕ, List, None, Some, Result, Ok, Err, IsSomeAnd, length, take, slice_get}
use Rattle.std.specs.declared.env.FillError.{FillError}
use Rattle.std.specs.declared.env.FillError.TheVariants.{NotPresent, TooLong}

-- what is answered for the word at a place: it, at the front of a buffer; that there is none; or that it has no room
abbrev pub IsWordAt : List (List ℕ) → ℕ → List ℕ → Result ℕ FillError → Type 0
IsWordAt words place buf (Ok n) = slice_get words place ≡ Some (take n buf)
IsWordAt words place buf (Err NotPresent) = slice_get words place ≡ None
IsWordAt words place buf (Err TooLong) = IsSomeAnd (slice_get words place) (λ w. length buf < length w)
