use Rattle.std.proofs.Common.{arith, ap, ◌∙◌}
use Rattle.xc_moves.specs.Dancing.{Dancing, moves_made}
use Rattle.xc_search.specs.inner.Levels.{Levels}
use Rattle.xc_search.proofs.LoopSteps.{starts_standing, starts_coming, starts_ends}
use Rattle.xc_search.proofs.Completeness.{each_member_covers, each_cover_is_listed_once}
use Rattle.xc_search.proofs.walk.Walk.new.Goals as goal

pub invariant_of-result : goal.invariant_of-result
invariant_of-result g c =
    let standing = starts_standing _ c.most_levels.ensures.valid _ _ _
    (ap (λ (s : Dancing). s.puzzle) c.new-2.ensures ∙ c.requires.same)
    (ap (λ (s : Dancing). s.trail) c.new-2.ensures ∙ c.requires.none)
    (ap (λ (s : Levels). s.levels) c.in-Ok.ensures) in
    grind (arith, standing)

pub returns-clause-begun : goal.returns-clause-begun
returns-clause-begun g c =
    let none = ap (λ (s : Dancing). s.trail) c.new-2.ensures ∙ c.requires.none in
    let levels = ap (λ (s : Levels). s.levels) c.in-Ok.ensures in
    let same = ap (λ (s : Dancing). s.puzzle) c.new-2.ensures ∙ c.requires.same in
    let come = starts_coming c.new-2.result.puzzle c.new-2.result.trail c.in-Ok.stack.levels none levels in
    let ahead = starts_ends c.new-2.result.puzzle c.new-2.result.trail c.in-Ok.stack.levels none levels in
    let made = ap moves_made c.new-2.ensures in
    grind (arith, come, ahead, made, same, none, levels)

pub returns-clause-right : goal.returns-clause-right
returns-clause-right g c = each_member_covers c.args.problem.now.puzzle c.most_levels.ensures.valid

pub returns-clause-complete : goal.returns-clause-complete
returns-clause-complete g c = each_cover_is_listed_once c.args.problem.now.puzzle c.most_levels.ensures.valid

pub returns-in_default-clause-right : goal.returns-in_default-clause-right
returns-in_default-clause-right g c = each_member_covers c.args.problem.now.puzzle c.most_levels.ensures.valid

pub returns-in_default-clause-complete : goal.returns-in_default-clause-complete
returns-in_default-clause-complete g c = each_cover_is_listed_once c.args.problem.now.puzzle c.most_levels.ensures.valid

pub returns-in_default-place_for_few-clause-right : goal.returns-in_default-place_for_few-clause-right
returns-in_default-place_for_few-clause-right g c =
    each_member_covers c.args.problem.now.puzzle c.most_levels.ensures.valid

pub returns-in_default-place_for_few-clause-complete : goal.returns-in_default-place_for_few-clause-complete
returns-in_default-place_for_few-clause-complete g c =
    each_cover_is_listed_once c.args.problem.now.puzzle c.most_levels.ensures.valid
