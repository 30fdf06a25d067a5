use Rattle.std.proofs.lemmas.List.Edits.{length-insert}
use Rattle.std.proofs.Common.{arith, reverse, length}
use Rattle.std.proofs.lemmas.Grind.{common_steps}
use Rattle.xc_dance.specs.inner.Lists.{rooms_of}
use Rattle.xc_dance.proofs.LosingLists.{marks_more, marks_weaker}
use Rattle.xc_dance.proofs.lists.undo_log.OptionLists.take_out.Goals as goal

pub invariant_of-self : goal.invariant_of-self
invariant_of-self c =
    let a = c.self.inside in
    let more = marks_weaker (reverse a.starts.items) (length a.taken.items) (length c.push_reserved.new.self.items) in
    grind (arith, common_steps, length-insert)

pub returns-in-Some : goal.returns-in-Some
returns-in-Some c =
    grind (arith, common_steps, marks_more (rooms_of c.remove.new.lists.items) (reverse c.self.inside.starts.items))
