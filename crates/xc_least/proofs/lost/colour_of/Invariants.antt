use Rattle.std.proofs.Common.{◌≡◌, drop}
use Rattle.xc_input.specs.Problem.{colour_in}
use Rattle.xc_least.proofs.lost.colour_of.Given as goal

-- no use so far is of the item
abbrev pub invariant-loop-u : goal.invariant-loop-u
invariant-loop-u l = colour_in (drop l.u-index l.uses) l.item ≡ colour_in l.uses l.item
