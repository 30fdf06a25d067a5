-- The messages beside a listing.
-- Public contracts rest on this file: readers must believe it.
use Rattle.std.specs.Prelude.{ℕ, List, ◌++◌, decimal, codes, ◌==◌, if◌then◌else◌}
use Rattle.xc_list.specs.declared.ends.End.{End}
use Rattle.xc_list.specs.declared.words.WordFault.{WordFault}
use Rattle.xc_list.specs.declared.words.WordFault.TheVariants.{Unknown, BadNumber, ZeroLimit}
use Rattle.xc_list.specs.declared.ends.End.TheVariants.{Done, Limit, WriteFailed}

-- how many solutions there are, by the digits of their number, and a tail
abbrev pub total_text : ℕ → List ℕ → List ℕ → List ℕ
total_text n ds t = codes "Altogether " ++ ds ++ (if n == 1 then codes " solution" else codes " solutions") ++ t

-- the last line of a run: how many solutions there are, or the one whose write failed
abbrev pub summary_text : End → List ℕ
summary_text (Done n) = total_text n (decimal n) (codes ".\n")
summary_text (Limit n) = total_text n (decimal n) (codes " (limit).\n")
summary_text (WriteFailed n) = codes "Write failed at solution " ++ decimal n ++ codes ".\n"

-- the line for an ignored option, which was on line n
abbrev pub warning_text : ℕ → List ℕ
warning_text n = codes "Option ignored (no primary items): line " ++ decimal n ++ codes "\n"

-- what is wrong with a word, at its place from 1
abbrev pub word_fault_text : WordFault → List ℕ
word_fault_text (Unknown n) = codes "Word " ++ decimal n ++ codes ": unknown.\n"
word_fault_text (BadNumber n) = codes "Word " ++ decimal n ++ codes ": bad number.\n"
word_fault_text (ZeroLimit n) = codes "Word " ++ decimal n ++ codes ": limit must be at least 1.\n"
