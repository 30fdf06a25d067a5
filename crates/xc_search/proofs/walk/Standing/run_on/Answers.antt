-- `has` says how many members the run is to pass, `ran` what `run` did. By its two outcomes: it stands at a member
-- (`member_behind`, then `went_over` and `pays_stands`), or all levels have ended (`comes_to_end`, then `went_past` and
-- `pays_ends`). `moved` is that a solution takes a move at least (`solved_moved`).
use Rattle.std.proofs.Common.{arith, true, false, None, subst, refl, ap, inl}
use Rattle.xc_moves.specs.Dancing.{Dancing}
use Rattle.xc_search.specs.inner.Ahead.{Pays}
use Rattle.xc_search.specs.inner.Spanning.{RunsTo}
use Rattle.xc_search.proofs.BranchLemmas.{solved_moved}
use Rattle.xc_search.proofs.EndLemmas.{pays_stands, pays_ends}
use Rattle.xc_search.proofs.SpanSteps.{ends_over}
use Rattle.xc_search.proofs.SpanRuns.{member_behind, comes_to_end}
use Rattle.xc_search.proofs.LoopSteps.{HasToPass, went_over, went_past}
use Rattle.xc_search.proofs.walk.Standing.run_on.Goals as goal
use Rattle.xc_search.proofs.walk.Standing.run_on.Goals.{in-Member, in-Steps, Joined-unsearched, After-run-ran}

has : (g : _) (c : Joined-unsearched g) → HasToPass c.args.self.position.puzzle c.args.self.position.trail
    c.args.self.stack.levels c.args.self.unsearched c.args.many c.if-unsearched.more
has g c = grind arith

ran : (g : _) (c : After-run-ran g) → RunsTo false 1 None None c.args.self.position c.args.self.stack
    c.if-unsearched.more 0 c.run-ran.result.stop c.run-ran.new.position c.run-ran.new.stack c.run-ran.result.more
    c.run-ran.result.steps
ran g c = c.run-ran.ensures.ran None (inl refl)

pub fewer-passed-requires : goal.fewer-passed-requires
fewer-passed-requires g c =
    let ran = ran g (goal.at.fewer-passed-requires g c).After-run-ran in
    let end = ran.ended (comes_to_end ran c.in-Steps.is) in
    (went_past {d = c.args.self.position} {e = c.run-ran.new.position} {ls = c.args.self.stack}
    {ks = c.run-ran.new.stack} c.args.self.unsearched 0 (has g (goal.at.fewer-passed-requires g c).Joined-unsearched)
    end.still end.ended (ends_over end.over)).0

pub returns-clause-went : goal.returns-clause-went
returns-clause-went g c =
    let has = has g (goal.at.returns-clause-went g c).Joined-unsearched in
    let ran = ran g (goal.at.returns-clause-went g c).After-run-ran in
    elim c.match-ran.branch [
      | in-Member w ↦
          let at = member_behind ran w.in-Member.is in
          let over = went_over {d = c.args.self.position} {e = c.run-ran.new.position} {ls = c.args.self.stack}
          {ks = c.run-ran.new.stack} c.args.self.unsearched c.requires.some has at.0 at.1 at.2 in
          grind (arith, over, w.passed-is)
      | in-Steps w ↦
          let end = ran.ended (comes_to_end ran w.in-Steps.is) in
          let past = went_past {d = c.args.self.position} {e = c.run-ran.new.position} {ls = c.args.self.stack}
          {ks = c.run-ran.new.stack} c.args.self.unsearched c.match-ran.passed has end.still end.ended
          (ends_over end.over) in
          grind (arith, past, w.passed-is, w.fewer-passed.ensures)
    ]

pub returns-clause-pays : goal.returns-clause-pays
returns-clause-pays g c =
    let has = has g (goal.at.returns-clause-pays g c).Joined-unsearched in
    let here = c.requires.standing.searchable refl in
    let ran = ran g (goal.at.returns-clause-pays g c).After-run-ran in
    elim c.match-ran.branch [
      | in-Member w ↦
          let at = member_behind ran w.in-Member.is in
          pays_stands c.args.self.unsearched here has (ap (λ (d : Dancing). d.puzzle) at.0.0) at.1
          (subst (λ n. Pays c.args.self.position c.args.self.stack true c.if-unsearched.more c.run-ran.new.position
          c.run-ran.new.stack true n) (ran.solved w.in-Member.is).0
          (c.run-ran.ensures.stands_pays w.in-Member.is refl))
      | in-Steps w ↦
          let is = comes_to_end ran w.in-Steps.is in
          let end = ran.ended is in
          pays_ends c.args.self.unsearched here has (ap (λ (d : Dancing). d.puzzle) end.still.0) end.ended
          (c.run-ran.ensures.ended_pays is refl)
    ]

pub returns-clause-moved : goal.returns-clause-moved
returns-clause-moved g c =
    let ran = ran g (goal.at.returns-clause-moved g c).After-run-ran in
    elim c.match-ran.branch [
      | in-Member w ↦ omega (arith, solved_moved _ _ _ (ran.solved w.in-Member.is).1)
      | in-Steps w ↦ c.run-ran.ensures.moved (comes_to_end ran w.in-Steps.is)
    ]
