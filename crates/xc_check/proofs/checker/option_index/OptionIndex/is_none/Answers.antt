use Rattle.std.proofs.Common.{arith}
use Rattle.std.proofs.Common.{◌≡◌, ◌<◌, List, ℕ, ◌∷◌, [], length, Option, Some, MatchOption, Bor}
use Rattle.xc_check.specs.ListingLines.{words_in}
use Rattle.xc_check.proofs.CheckLemmas.{none-of-three, some_words}
use Rattle.xc_check.proofs.checker.option_index.OptionIndex.is_none.Goals as goal

-- what a cut says where something is left
cut-some : {text : Bor (List ℕ)} (same word : Bor (List ℕ)) (rest : Option (Bor (List ℕ))) (left : Bor (List ℕ))
    → text ≡ same → rest ≡ Some left → MatchOption rest (words_in text.now ≡ word.now ∷ [])
    (λ r. (words_in text.now ≡ word.now ∷ words_in r.now) × (length r.now < length text.now))
    → words_in same.now ≡ word.now ∷ words_in left.now
cut-some {text} same word rest left q e h = grind arith

pub returns-in_default-Some-cut_word : goal.returns-in_default-Some-cut_word
returns-in_default-Some-cut_word c = grind (arith, cut-some, none-of-three, some_words)
