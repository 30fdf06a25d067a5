use Rattle.std.proofs.Common.{arith, ◌≡◌, ◌+◌, ap, subst}
use Rattle.std.specs.Prelude.{All, sum_by}
use Rattle.std.proofs.lemmas.List.Elements.{recursion_from_All}
use Rattle.std.proofs.lemmas.List.Sums.{sum_by_push}
use Rattle.xc_count.specs.Occurrences.{occurrences_of}
use Rattle.xc_count.specs.inner.Passed.{IsKept, taken_by}
use Rattle.xc_count.proofs.Passed.{all_before, all_last, numbers_by_place, zeros_at}
use Rattle.xc_count.proofs.by_states.occurrences_by_states.Goals as goal

pub loop-before-init : goal.loop-before-init
loop-before-init c = record {
  kept = c.in_ok-sweep.ensures.kept;
  below = c.in_ok-ahead.ensures c.args.problem.now.puzzle c.args.plan.now c.requires.once c.requires.plan
      c.requires.valid c.in_ok-sweep.ensures.held;
  len = omega (arith, c.in_ok-counts.ensures.len);
  counts = λ j.
      let none = zeros_at c.in_ok-counts.counts.items (recursion_from_All _ _ c.in_ok-counts.ensures.each) j in
      omega (arith, none, c.in_ok-sweep.ensures.taken (j + 1));
}

pub back-requires-clause-kept : goal.back-requires-clause-kept
back-requires-clause-kept c =
    let test = IsKept c.args.problem.now.puzzle c.args.plan.now in
    all_last test c.pop_kept.new.kept.items c.in-Some.before
    (subst (All test) c.in-Some.ensures.some c.loop-before.invariant.kept)

pub loop-before-preserved : goal.loop-before-preserved
loop-before-preserved c =
    let p = c.args.problem.now.puzzle in
    let plan = c.args.plan.now in
    let rest = c.pop_kept.new.kept.items in
    let popped = c.in-Some.ensures.some in
    let test = IsKept p plan in
    record {
      kept = all_before test rest c.in-Some.before (subst (All test) popped c.loop-before.invariant.kept);
      below = c.in_ok-ahead-2.ensures.below;
      len = omega (arith, c.in_ok-ahead-2.ensures.counts.len);
      counts = λ j.
          let push : sum_by (taken_by p plan (j + 1)) c.loop-before.kept.items
          ≡ sum_by (taken_by p plan (j + 1)) rest + taken_by p plan (j + 1) c.in-Some.before =
          rw popped (sum_by_push (taken_by p plan (j + 1)) rest c.in-Some.before) in
          omega (arith, push, c.in_ok-ahead-2.ensures.counts.each j, c.loop-before.invariant.counts j);
    }

pub returns : goal.returns
returns c =
    let p = c.args.problem.now.puzzle in
    let plan = c.args.plan.now in
    numbers_by_place (occurrences_of p) 1 c.loop-before.counts.items p.options (omega arith) (λ j.
    let none : sum_by (taken_by p plan (j + 1)) c.loop-before.kept.items ≡ 0 =
    ap (sum_by (taken_by p plan (j + 1))) (rw c.in_default.is at c.pop_kept.ensures.none) in
    omega (arith, none, c.loop-before.invariant.counts j))
