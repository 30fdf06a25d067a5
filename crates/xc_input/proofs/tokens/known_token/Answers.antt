use Rattle.std.proofs.Common.{◌-◌, length, drop, arith, rules, refl}
use Rattle.std.proofs.lemmas.List.{length-drop, take_all}
use Rattle.xc_input.proofs.TokenLemmas.{known-first}
use Rattle.xc_input.proofs.tokens.known_token.Goals as goal

pub returns : goal.returns
returns c = λ names all words.
    let text = c.args.text.now in
    let n = c.in_ok-word.n in
    let known = (c.in_ok-at.ensures c.in_ok-at.at).0 refl in
    known-first names c.args.guesses.now.words.items text _ n c.in_ok-at.at c.in_ok-word.word all words (search rules)
    (take_all (length text - n) (drop n text) (omega (arith, length-drop n text))) c.in_ok-word.ensures.0
    c.in_ok-word.ensures.1 known.1 c.cut_behind.result c.cut_behind.ensures.name c.cut_behind.ensures.cut
