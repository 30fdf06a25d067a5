use Rattle.std.proofs.Common.{◌≡◌, [], length, subst}
use Rattle.std.specs.Prelude.{IfOk}
use Rattle.xc_search.specs.Cover.{members}
use Rattle.xc_count.specs.inner.Worth.{key_below, says}
use Rattle.xc_count.proofs.Below.{whole_left}
use Rattle.xc_count.proofs.KeyLemmas.{nothing_held}
use Rattle.xc_count.proofs.left.sweep.Goals as goal

pub returns-clause-count : goal.returns-clause-count
returns-clause-count c =
    let p = c.args.problem.now.puzzle in
    let plan = c.args.plan.now in
    let all : key_below p plan 0 [] ≡ length (members p) =
    whole_left p (says plan 0 []) (nothing_held plan.ranking.ranks.items) in
    subst (λ m. IfOk c.count_from.result (λ n. n ≡ m)) all c.count_from.ensures.count
