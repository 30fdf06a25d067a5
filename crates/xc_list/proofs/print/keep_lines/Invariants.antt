use Rattle.std.proofs.Common.{◌≡◌, ◌≤◌, ◌++◌, length, take}
use Rattle.std.specs.Prelude.{All, map}
use Rattle.xc_search.specs.Marks.{marked, IsMark}
use Rattle.xc_list.specs.Known.{IsKnownChoice}
use Rattle.xc_list.specs.inner.Writing.{AreKept, lines_end}
use Rattle.xc_list.specs.declared.places.TheConstants.{LINES, ROOM}
use Rattle.xc_list.proofs.print.keep_lines.Given as goal

-- the lines of the marks before those that are left stand
abbrev pub invariant-loop-mark : goal.invariant-loop-mark
invariant-loop-mark g l = record {
  kept : AreKept l.laid l.text l.kept;
  done : l.done ≤ length l.kept;
  end : l.end ≡ lines_end l.laid (take l.done l.kept);
  whole : map (λ k. marked l.laid.puzzle k.mark) (take l.done l.kept) ++ map (marked l.laid.puzzle) l.marks
      ≡ g.W.AtMember.shown l.fn.at;
  right : All (IsMark l.laid.puzzle) l.marks;
  known : All (IsKnownChoice l.laid.puzzle) (map (marked l.laid.puzzle) l.marks);
  header : take LINES l.text ≡ take LINES l.fn.text;
  size : length l.text ≡ ROOM;
}

abbrev pub decreases-loop-mark : goal.decreases-loop-mark
decreases-loop-mark g l = length l.marks
