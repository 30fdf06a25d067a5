use Rattle.std.proofs.Common.{◌≡◌, ◌+◌, ◌-◌, ℕ, List, subst, drop, take, length}
use Rattle.xc_input.specs.declared.problem.Use.{Use}
use Rattle.xc_input.specs.Problem.{uses_of}
use Rattle.xc_moves.specs.Dancing.{Dancing}
use Rattle.xc_moves.specs.Commits.{CanStand, IsUseAt, others}
use Rattle.xc_moves.proofs.LeftLemmas.{committed, stood_before, after_uses-append}
use Rattle.xc_moves.proofs.dance.Dance.commit.Goals.{After-place_in-at}
use Rattle.xc_moves.proofs.dance.Dance.commit.Goals as goal
use Rattle.std.proofs.Common.{arith}
use Rattle.std.proofs.Common.{length-drop}
use Rattle.std.proofs.Math.Seq.{take-length}
use Rattle.std.proofs.lemmas.Grind.{common_steps}

-- the state after the uses behind place k
abbrev behind : ℕ → List Use → Dancing → Dancing
behind k us s = committed (take (length us - (k + 1)) (drop (k + 1) us)) s

-- the state in the end is that after the uses behind, and then those before
whole : (g : _) (c : After-place_in-at g) (x : ℕ)
    → IsUseAt (g.Self.Dance.state c.args.self.now).puzzle c.args.i x c.args.place
    → (let s = g.Self.Dance.state c.args.self.now in let us = c.option-uses.result.now in let k = c.place_in-at.result
    in committed (others c.args.i (uses_of s.puzzle x)) s ≡ committed (take k us) (behind k us s))
whole g c x u = grind (arith, common_steps, after_uses-append, length-drop, take-length)

-- it may stand
abbrev Stands : Dancing → Type 0
Stands s = CanStand s.puzzle s.room s.trail

can : (g : _) (c : After-place_in-at g)
    → (let us = c.option-uses.result.now in let k = c.place_in-at.result in Stands (committed (take k us) (behind k us
    (g.Self.Dance.state c.args.self.now))))
can g c = let u = c.requires.can in subst Stands (whole g c u.0 u.1) u.2

pub commit_uses-requires-clause-stands : goal.commit_uses-requires-clause-stands
commit_uses-requires-clause-stands g c =
    let can = can g (goal.at.commit_uses-requires-clause-stands g c).After-place_in-at in
    stood_before _ _ (take c.place_in-at.result c.option-uses.result.now) _ can

-- once the uses behind were committed, those before it lead to the end
pub commit_uses-requires-2-clause-stands : goal.commit_uses-requires-2-clause-stands
commit_uses-requires-2-clause-stands g c = grind (arith, can)

pub returns : goal.returns
returns g c = λ x u. grind (arith, whole)
