use Rattle.std.proofs.lemmas.Grind.{common_steps}
use Rattle.xc_list.proofs.SpanLemmas.{numbers_next, branches_at, no_branches, broke_next, took_all}
use Rattle.xc_text.proofs.SinkLemmas.{then_took, failed}
use Rattle.std.proofs.Common.{◌≡◌, Some, arith}
use Rattle.std.specs.Prelude.{slice_get}
use Rattle.std.proofs.lemmas.Option.{slice_get_within}
use Rattle.xc_list.specs.inner.Writing.{branches_in}
use Rattle.xc_list.proofs.spans.write_branches.Goals as goal
use Rattle.xc_list.proofs.spans.write_branches.Goals.{In-Some}

at : (g : _) (c : In-Some g) → slice_get (branches_in c.args.span.now) c.loop-number.place ≡ Some c.in-Some.number.n
at g c = branches_at c.args.span.now _ _ c.in-Some.ensures.branches

pub returns-in_err-write_at : goal.returns-in_err-write_at
returns-in_err-write_at g c = grind (arith, failed, broke_next, at)

pub loop-number-smaller : goal.loop-number-smaller
loop-number-smaller g c = grind (arith, slice_get_within, at)

pub loop-number-preserved : goal.loop-number-preserved
loop-number-preserved g c = grind (arith, common_steps, at, slice_get_within, numbers_next, then_took)

pub returns : goal.returns
returns g c = grind (arith, no_branches, at, took_all)
