use Rattle.std.proofs.Common.{List, subst, sym, ◌∙◌, ap}
use Rattle.std.specs.Prelude.{Contains}
use Rattle.xc_least.specs.declared.steps.Step.{Step}
use Rattle.xc_least.specs.inner.Regions.{newest, taken_of}
use Rattle.xc_input.specs.Problem.{colour_in}
use Rattle.xc_text.proofs.ListLemmas.{in-contains}
use Rattle.xc_least.proofs.RegionLemmas.{barred_met}
use Rattle.xc_least.proofs.lost.is_met_otherwise.Goals as goal

pub returns-then-stands : goal.returns-then-stands
returns-then-stands c = λ e o uses secondary.
    let p = c.args.problem.now.puzzle in
    let ds = newest c.args.decided.now.steps.items in
    let t = c.index-mark.result.now.option in
    let two = c.do_differ.ensures e in
    let there = subst (λ (ss : List Step). Contains (taken_of (newest ss)) t) c.as_slice.ensures.value
    (c.stands.ensures c.if-stands.true) in
    barred_met p ds o c.args.item t two.0 two.1 (in-contains (taken_of ds) t there) secondary
    (ap (λ us. colour_in us c.args.item) (sym c.uses_at.ensures.value) ∙ two.2)
    (ap (λ us. colour_in us c.args.item) (sym uses) ∙ two.3) two.4
