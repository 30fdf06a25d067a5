use Rattle.std.proofs.Common.{◌≡◌, drop}
use Rattle.std.specs.List.{list_all}
use Rattle.xc_check.specs.ListingLines.{is_word, words_in}
use Rattle.xc_check.proofs.CheckLemmas.{words_from}
use Rattle.xc_check.proofs.checker.listing_lines.are_words.Given as goal

abbrev pub invariant-loop-b : goal.invariant-loop-b
invariant-loop-b l = words_from l.fresh (drop l.b-index l.text) ≡ list_all is_word (words_in l.text)
