use Rattle.std.proofs.Common.{◌≡◌, length}
use Rattle.xc_input.specs.inner.CutTokens.{drop_white}
use Rattle.xc_numbers.proofs.words.skip_white.Given as goal

abbrev pub invariant-loop-rest : goal.invariant-loop-rest
invariant-loop-rest l = drop_white l.rest ≡ drop_white l.fn.line

abbrev pub decreases-loop-rest : goal.decreases-loop-rest
decreases-loop-rest l = length l.rest
