-- What a whole run that counts covers does.
-- Public contracts rest on this file: readers must believe it.
use Rattle.std.specs.Prelude.{◌≡◌, ◌⊎◌, ℕ, List, MatchOption, codes, length, flat_map}
use Rattle.std.specs.Str.Parse.{digits_value}
use Rattle.xc_input.specs.Named.{Named}
use Rattle.xc_text.specs.Sources.{SourceState}
use Rattle.xc_search.specs.Cover.{members}
use Rattle.xc_list.specs.Messages.{warning_text}
use Rattle.xc_text.specs.Texts.{Seen}
use Rattle.xc_tools.specs.WholeRuns.{Sinks, IsRefused, ReadsProblem}
use Rattle.xc_count_run.specs.Alone.{DidBehind, DidPerhapsAlone}
use Rattle.xc_count_run.specs.Each.{DidTellEach}
use Rattle.xc_count_run.specs.LastLine.{Concludes, count_text}
use Rattle.xc_count_run.specs.Solutions.{DidFind}
use Rattle.xc_tools.specs.CountArguments.{Wish, how_many, solution, of_each_option, asked_count}

-- What counting the covers of a problem did, by the status: the number was printed, as far as that went; or, with 4,
-- there was no memory. The output wasn't touched.
abbrev pub DidCount : {O E : Type 0} → Named → ℕ → Sinks O E → Sinks O E → Type 0
DidCount a status old new =
    (Concludes (count_text (length (members a.puzzle))) status old.err.state new.err.state × (new.out ≡ old.out))
    ⊎ IsRefused status old new (4, codes "Out of memory.\n")

-- What a run did with a problem: its covers were counted and the output wasn't touched; the solution of a number was
-- printed; or of each option in how many solutions it is.
abbrev pub DidAnswer : {O E : Type 0} → Wish → ℕ → Sinks O E → Sinks O E → Named → Type 0
DidAnswer how_many status old new a = DidCount a status old new
DidAnswer (solution digits) status old new a = DidFind a (digits_value 10 digits) status old new
DidAnswer of_each_option status old new a = DidTellEach a status old new

-- What was asked of a problem was answered behind the warnings: at once, or behind the line that the search goes on
-- alone.
abbrev pub DidWarnAndAnswer : {O E : Type 0} → Wish → ℕ → Sinks O E → Sinks O E → Named → List ℕ → Type 0
DidWarnAndAnswer wish status old new a ignored = DidBehind (flat_map warning_text ignored)
    (λ warned. DidPerhapsAlone (λ from. DidAnswer wish status from new a) status warned new) status old new

-- What a run did, by its words and its status, which is 1 exactly if the words are wrong.
abbrev pub DidCountWords : {S O E : Type 0} → List (List ℕ) → ℕ → Seen S SourceState → Seen S SourceState
    → Sinks O E → Sinks O E → Type 0
DidCountWords words status from to old new = MatchOption (asked_count words)
    ((to ≡ from) × IsRefused status old new (1, codes "Usage: dlx-count 1|2|3 [bMEGABYTES] [nNUMBER|o]\n"))
    (λ asked. ReadsProblem asked.0 from.state to.state (DidWarnAndAnswer asked.1 status old new)
    (IsRefused status old new))
