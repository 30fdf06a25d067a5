use Rattle.std.proofs.Common.{arith, subst, sym}
use Rattle.xc_input.proofs.LineLemmas.{stands-only}
use Rattle.xc_input.specs.Problem.{IsValid}
use Rattle.xc_search.proofs.Completeness.{each_member_covers, each_cover_is_listed_once}
use Rattle.xc_c.proofs.TextLemmas.{faultless-content}
use Rattle.xc_c.proofs.texts.put_total.Goals as goal

pub returns-clause-memory : goal.returns-clause-memory
returns-clause-memory c = grind (arith, faultless-content, stands-only)

pub returns-in-Ok-clause-total : goal.returns-in-Ok-clause-total
returns-in-Ok-clause-total c =
    let valid : IsValid c.in_ok-problem.field-0.problem.puzzle =
    subst (λ a. IsValid a.puzzle) c.problem.view_is c.problem.invariant.sound.valid in
    record {
      named = c.in_ok-problem.field-0.problem;
      ignored = c.in_ok-problem.field-0.ignored.items;
      stands = c.in_ok-problem.ensures.problem;
      right = each_member_covers _ valid;
      complete = each_cover_is_listed_once _ valid;
      said = c.in-Ok.ensures.total;
    }
