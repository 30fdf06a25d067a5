use Rattle.std.proofs.Common.{◌≡◌, ◌<◌, ◌≤◌, ◌+◌, ◌-◌, ◌*◌, Some, drop, length}
use Rattle.xc_input.specs.Problem.{numbered_get}
use Rattle.xc_search.specs.Cover.{members}
use Rattle.xc_search.specs.Ends.{ends, ends_after}
use Rattle.xc_search.specs.Listing.{whole}
use Rattle.xc_search.specs.Room.{room_for}
use Rattle.xc_list.specs.Output.{output}
use Rattle.xc_text.specs.Texts.{Took}
use Rattle.xc_list.specs.inner.Writing.{AreKept}
use Rattle.xc_list.proofs.runs.write_members.Given as goal

-- the members so far are written as far as they are printed, and the others are to come
abbrev pub invariant-loop-found : goal.invariant-loop-found
invariant-loop-found g l = record {
  still : l.walk ≡ record l.fn.walk {
    to_come = l.walk.to_come;
    shown = l.walk.shown;
    ahead = l.walk.ahead;
    made = l.walk.made;
  };
  ahead : l.walk.ahead ≡ ends_after l.found (ends (whole l.bodies.puzzle));
  moves : l.walk.made + room_for l.bodies.puzzle * length l.walk.ahead
      ≤ l.fn.walk.made + room_for l.bodies.puzzle * length (ends (whole l.bodies.puzzle));
  moved : 0 < l.found → 0 < l.walk.made;
  shown : 1 ≤ l.found → numbered_get (members l.bodies.puzzle) l.found ≡ Some l.walk.shown;
  come : l.walk.to_come ≡ drop l.found (members l.bodies.puzzle);
  within : l.found ≤ length (members l.bodies.puzzle);
  below : l.found ≤ l.words.limit;
  kept : AreKept l.bodies l.page.text l.page.kept;
  taken : Took (g.S.Sink.state l.fn.sink) (g.S.Sink.state l.sink) (output l.bodies l.words.spacing l.found);
}

abbrev pub decreases-loop-found : goal.decreases-loop-found
decreases-loop-found g l = l.words.limit - l.found
