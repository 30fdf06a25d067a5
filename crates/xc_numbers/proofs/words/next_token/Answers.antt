use Rattle.std.proofs.Common.{arith}
use Rattle.std.proofs.lemmas.Bool.Decides.{nat_tests}
use Rattle.xc_input.proofs.FaultLemmas.{cuts_first, no-token}
use Rattle.xc_numbers.proofs.words.next_token.Goals as goal

pub returns-then-is_empty : goal.returns-then-is_empty
returns-then-is_empty c = no-token c.args.line.now _ c.skip_white-rest.ensures (grind (arith, nat_tests))

pub returns : goal.returns
returns c =
    let cut = cuts_first _ _ _ _ _ c.skip_white-rest.ensures (grind (arith, nat_tests)) c.word_len.ensures.value
    c.split_at.ensures.front c.split_at.ensures.back in
    (cut.0, cut.1)
