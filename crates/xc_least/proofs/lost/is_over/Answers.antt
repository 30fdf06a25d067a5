use Rattle.std.proofs.Common.{inl}
use Rattle.xc_least.specs.inner.Regions.{newest}
use Rattle.xc_least.proofs.RegionLemmas.{seen_taken}
use Rattle.xc_least.proofs.lost.is_over.Goals as goal

pub returns : goal.returns
returns c = λ e.
    inl (seen_taken (newest c.args.decided.now.steps.items) c.args.option c.in-Some.step c.in-Some.ensures.some
    c.if-step.true)
