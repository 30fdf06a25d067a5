use Rattle.xc_input.proofs.FaultLemmas.{cuts_part, cuts_bar, no-token}
use Rattle.std.proofs.lemmas.Bool.{ne_eqb}
use Rattle.std.proofs.Common.{arith}
use Rattle.std.proofs.lemmas.Bool.Decides.{nat_tests}
use Rattle.xc_input.proofs.tokens.next_part.Goals as goal

pub returns-then-is_empty : goal.returns-then-is_empty
returns-then-is_empty c = grind (arith, no-token, nat_tests)

pub returns : goal.returns
returns c =
    cuts_part _ _ _ _ _ c.skip_white-rest.ensures (grind (arith, nat_tests)) (ne_eqb _ _ c.if-rest-eq124.false)
    c.word_len.ensures.value c.split_at-2.ensures.front c.split_at-2.ensures.back

pub returns-then-rest-eq124 : goal.returns-then-rest-eq124
returns-then-rest-eq124 c =
    cuts_bar _ _ _ _ c.skip_white-rest.ensures (grind (arith, nat_tests)) c.if-rest-eq124.true c.split_at.ensures.front
    c.split_at.ensures.back
