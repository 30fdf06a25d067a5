-- The invariant: `found` members are written as far as they are printed, the others are to come, the walk stands at the
-- last, and it made few moves. `at` says where a pass to the next printed member comes to (`Reaches`), and with it a
-- step keeps the invariant (`stands`, `takes`, `ends_on`). The ways out: a write that fails (`stops`), the end of the
-- members (`ends`, `none_left`), and the limit, of which `returns-clause-run` tells.
use Rattle.std.proofs.lemmas.Bool.{le-ltb}
use Rattle.std.proofs.Math.Nat.{le_antisymm}
use Rattle.xc_list.specs.Known.{IsKnownChoice}
use Rattle.std.specs.Prelude.{All}
use Rattle.xc_list.proofs.Writing.{holds_next, Reaches, reaches, ends, takes, stops, stands, within, none_left}
use Rattle.xc_list.proofs.OutputLemmas.{members_known}
use Rattle.std.proofs.Common.{arith, ◌+◌, ◌≤◌, ◌∙◌, length, ap}
use Rattle.xc_list.proofs.SpanLemmas.{few_on}
use Rattle.xc_search.proofs.EndLemmas.{ends_on}
use Rattle.xc_search.specs.Outlook.{Outlook}
use Rattle.xc_list.proofs.runs.write_members.Goals as goal
use Rattle.xc_list.proofs.runs.write_members.Goals.{After-pass-passed}

at : (g : _) (c : After-pass-passed g) → c.steps_to_printed-steps.result ≤ c.pass-passed.result →
    Reaches c.args.bodies.now c.args.words.now.spacing c.loop-found.found
    (c.loop-found.found + c.steps_to_printed-steps.result) c.pass-passed.new.self
at g c enough = grind (arith, reaches)

pub write_printed-requires-clause-known : goal.write_printed-requires-clause-known
write_printed-requires-clause-known g c =
    let to = at g (goal.at.write_printed-requires-clause-known g c).After-pass-passed c.if-passed-steps.false in
    holds_next _ _ to.next (All (IsKnownChoice c.args.bodies.now.puzzle)) (members_known c.args.bodies.now.puzzle)

pub returns-in-Err-clause-run : goal.returns-in-Err-clause-run
returns-in-Err-clause-run g c =
    let to = at g (goal.at.returns-in-Err-clause-run g c).After-pass-passed c.if-passed-steps.false in
    stops to c.args.words.now.limit c.steps_to_printed-steps.ensures.within c.loop-found.invariant.taken
    c.in-Err.ensures.written

pub returns-in-Err-clause-moves : goal.returns-in-Err-clause-moves
returns-in-Err-clause-moves g c =
    few_on c.args.bodies.now.puzzle c.loop-found.walk c.pass-passed.new.self c.args.walk.now.made c.loop-found.found
    c.steps_to_printed-steps.result
    (ap (λ (o : Outlook). o.puzzle) c.loop-found.invariant.still ∙ c.requires.puzzle) c.loop-found.invariant.ahead
    c.loop-found.invariant.moves c.pass-passed.ensures.moves
    (ap (λ (o : Outlook). o.ahead) c.pass-passed.ensures.went)

pub returns-in-Err-clause-went : goal.returns-in-Err-clause-went
returns-in-Err-clause-went g c =
    stands (at g (goal.at.returns-in-Err-clause-went g c).After-pass-passed c.if-passed-steps.false)

pub returns-then-passed-steps-clause-went : goal.returns-then-passed-steps-clause-went
returns-then-passed-steps-clause-went g c =
    none_left c.steps_to_printed-steps.result c.loop-found.walk c.pass-passed.new.self c.pass-passed.ensures.went (omega
    (arith, c.pass-passed.ensures.count, c.if-passed-steps.true))

pub returns-then-passed-steps-clause-run : goal.returns-then-passed-steps-clause-run
returns-then-passed-steps-clause-run g c =
    let all = ap length c.loop-found.invariant.come in
    ends c.args.bodies.now c.args.words.now.spacing c.args.words.now.limit c.loop-found.found
    c.steps_to_printed-steps.result c.pass-passed.result c.loop-found.invariant.within
    (omega (arith, c.pass-passed.ensures.count, c.if-passed-steps.true, all)) c.if-passed-steps.true
    c.steps_to_printed-steps.ensures.within c.steps_to_printed-steps.ensures.silent c.loop-found.invariant.taken

pub loop-found-preserved : goal.loop-found-preserved
loop-found-preserved g c =
    let to = at g (goal.at.loop-found-preserved g c).After-pass-passed c.if-passed-steps.false in
    record {
      still = rw (c.pass-passed.ensures.went, c.loop-found.invariant.still);
      ahead = grind (arith, ends_on);
      moved = λ _. c.pass-passed.ensures.moved c.steps_to_printed-steps.ensures.some;
      moves = grind (arith, c.pass-passed.ensures.moves, c.loop-found.invariant.moves, c.loop-found.invariant.still);
      shown = (stands to).0;
      come = (stands to).1;
      within = within to;
      below = c.steps_to_printed-steps.ensures.within;
      kept = c.write_printed.ensures.kept;
      taken = takes to c.loop-found.invariant.taken c.in-Ok.ensures.written;
    }

pub returns-clause-run : goal.returns-clause-run
returns-clause-run g c = grind (arith, le_antisymm, le-ltb, at)
