use Rattle.std.proofs.Common.{◌≡◌, ◌≤◌, length}
use Rattle.std.specs.Prelude.{All, map}
use Rattle.xc_search.specs.Marks.{marked, IsMark}
use Rattle.xc_list.specs.Known.{IsKnownChoice}
use Rattle.xc_list.specs.Output.{choice_text}
use Rattle.xc_list.specs.inner.Writing.{held_text}
use Rattle.xc_list.specs.declared.places.TheConstants.{ROOM}
use Rattle.xc_list.proofs.Writing.{PutsFront}
use Rattle.xc_list.proofs.print.put_lines.Given as goal

-- the lines of the marks before those that are left were put
abbrev pub invariant-loop-mark : goal.invariant-loop-mark
invariant-loop-mark g l = record {
  put : PutsFront (g.S.Sink.state l.fn.sink) (g.S.Sink.state l.sink) (held_text l.fn.page l.fn.start.from l.fn.start.to)
      (held_text l.page l.held.from l.held.to) (choice_text l.bodies)
      (map (marked l.bodies.puzzle) l.marks) (g.W.AtMember.shown l.at);
  right : All (IsMark l.bodies.puzzle) l.marks;
  known : All (IsKnownChoice l.bodies.puzzle) (map (marked l.bodies.puzzle) l.marks);
  within : (l.held.from ≤ l.held.to) × (l.held.to ≤ ROOM);
  size : length l.page ≡ ROOM;
}

abbrev pub decreases-loop-mark : goal.decreases-loop-mark
decreases-loop-mark g l = length l.marks
