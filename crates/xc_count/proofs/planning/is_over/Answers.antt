use Rattle.std.proofs.Common.{arith, take, sym, subst}
use Rattle.std.specs.Prelude.{All}
use Rattle.xc_input.specs.Problem.{IsOption}
use Rattle.xc_count.specs.inner.Plans.{HoldsPast}
use Rattle.xc_count.proofs.HolderLemmas.{options_known}
use Rattle.xc_count.proofs.planning.is_over.Goals as goal

pub are_past-requires : goal.are_past-requires
are_past-requires c =
    subst (λ os. All (IsOption c.args.problem.now.puzzle) os)
    (sym (c.options_of.ensures c.args.problem.now.puzzle c.requires.plan c.requires.item))
    (options_known c.args.problem.now.puzzle c.args.item)

pub returns : goal.returns
returns c = λ e. record {
  held = c.is_settled.ensures.held (grind arith);
  options = subst (λ os. All (HoldsPast c.args.problem.now.puzzle (take c.args.past c.args.plan.now.order.items)) os)
      (c.options_of.ensures c.args.problem.now.puzzle c.requires.plan c.requires.item) (c.are_past.ensures e);
}
