use Rattle.std.proofs.Common.{append_assoc, append-nil}
use Rattle.xc_list.proofs.messages.write_total.Goals as goal

pub returns : goal.returns
returns g c = rw append_assoc (rw (c.solutions_word.ensures, append-nil c.args.tail.now) at c.write_line.ensures)
