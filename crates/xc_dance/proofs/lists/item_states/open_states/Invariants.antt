use Rattle.std.proofs.Common.{◌≡◌, replicate}
use Rattle.xc_dance.specs.declared.lists.state.ItemState.TheVariants.{Open}
use Rattle.xc_dance.proofs.lists.item_states.open_states.Given as goal

abbrev pub invariant-loop : goal.invariant-loop
invariant-loop l = l.states.items ≡ replicate l.counter Open
