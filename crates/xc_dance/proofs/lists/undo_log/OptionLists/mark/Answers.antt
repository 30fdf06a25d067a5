use Rattle.std.proofs.Common.{arith}
use Rattle.std.proofs.lemmas.Grind.{common_steps}
use Rattle.xc_dance.proofs.LosingLists.{length-lists_at_marks, marks_weaker, restored_at}
use Rattle.xc_dance.proofs.lists.undo_log.OptionLists.mark.Goals as goal

pub push_reserved-requires : goal.push_reserved-requires
push_reserved-requires c = grind (arith, common_steps, length-lists_at_marks)

pub invariant_of-self : goal.invariant_of-self
invariant_of-self c = grind (arith, common_steps, length-lists_at_marks, marks_weaker)

pub returns : goal.returns
returns c = grind (arith, common_steps, restored_at)
