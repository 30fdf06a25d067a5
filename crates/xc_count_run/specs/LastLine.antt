-- The last line of a count.
-- Public contracts rest on this file: readers must believe it.
use Rattle.std.specs.Prelude.{◌≡◌, ◌⊎◌, ℕ, List, codes}
use Rattle.natural.specs.Numerals.{numeral}
use Rattle.xc_list.specs.Messages.{total_text}
use Rattle.xc_text.specs.Texts.{SinkState, Took, BrokeOff}

-- how many solutions there are
abbrev pub count_text : ℕ → List ℕ
count_text n = total_text n (numeral n) (codes ".\n")

-- What printing the last line did, by the status. 0: it was printed; 3: or it couldn't be.
abbrev pub Concludes : List ℕ → ℕ → SinkState → SinkState → Type 0
Concludes line status old new = ((status ≡ 0) × Took old new line) ⊎ ((status ≡ 3) × BrokeOff old new line)
