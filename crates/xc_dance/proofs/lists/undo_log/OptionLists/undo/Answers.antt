use Rattle.std.proofs.Common.{arith}
use Rattle.std.proofs.lemmas.Grind.{common_steps}
use Rattle.xc_dance.proofs.LosingLists.{length-still_taken}
use Rattle.xc_dance.proofs.lists.undo_log.OptionLists.undo.Goals as goal

pub invariant_of-self : goal.invariant_of-self
invariant_of-self c = grind (arith, common_steps, length-still_taken)
