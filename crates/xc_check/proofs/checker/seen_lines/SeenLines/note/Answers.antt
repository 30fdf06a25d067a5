use Rattle.std.proofs.Common.{refl, inr}
use Rattle.xc_check.proofs.checker.seen_lines.SeenLines.note.Goals as goal

pub returns-in-Some : goal.returns-in-Some
returns-in-Some c = inr (c.slot_of-place.result, c.put.new.self, c.put.ensures, refl)
