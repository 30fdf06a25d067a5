use Rattle.xc_none.proofs.ClaimLemmas.{SaysChosen}
use Rattle.xc_none.proofs.chain.some.Given as goal

abbrev pub invariant-loop-option : goal.invariant-loop-option
invariant-loop-option l = SaysChosen l.options l.option-index l.claims.items
