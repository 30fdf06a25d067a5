use Rattle.std.proofs.Common.{◌≡◌, ◌∙◌, [], length, arith, sym}
use Rattle.std.proofs.lemmas.List.{nil_from_length}
use Rattle.xc_input.proofs.FaultLemmas.{skipped-front, skipped-first}
use Rattle.xc_numbers.proofs.words.is_skipped.Goals as goal

pub returns-in-empty : goal.returns-in-empty
returns-in-empty c =
    let none : length c.skip_white.result.now ≡ 0 = omega (arith, c.in-empty.len_below) in
    skipped-front c.args.line.now [] (sym (nil_from_length c.skip_white.result.now none) ∙ c.skip_white.ensures)

pub returns-in-len1-up : goal.returns-in-len1-up
returns-in-len1-up c = grind (arith, skipped-first)
