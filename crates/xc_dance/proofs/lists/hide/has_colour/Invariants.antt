use Rattle.std.proofs.Common.{◌≡◌, drop}
use Rattle.xc_input.specs.Problem.{colour_in}
use Rattle.xc_dance.proofs.lists.hide.has_colour.Given as goal

abbrev pub invariant-loop-u : goal.invariant-loop-u
invariant-loop-u l = colour_in (drop l.u-index l.uses) l.item ≡ colour_in l.uses l.item
