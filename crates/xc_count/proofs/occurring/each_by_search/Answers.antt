-- The invariant: the solutions counted and those left in the span are all, and of each option likewise. `arrived` says
-- that a pass by one takes the first of those left, which is a cover (`all_head`), so its options are known and differ,
-- as `add_solution` requires. It is counted (`counted_more`), and fewer are left. At the end none is (`ended`).
use Rattle.std.proofs.Common.{◌≡◌, ◌≢◌, ◌+◌, ◌-◌, ◌∙◌, arith, ap, sym, subst, get_or, length}
use Rattle.std.specs.Prelude.{All, IfSome, count_by, min}
use Rattle.xc_input.specs.Problem.{Puzzle}
use Rattle.xc_input.specs.Cover.{IsCover}
use Rattle.xc_search.specs.Cover.{options_of}
use Rattle.xc_search.specs.InSpan.{left_of}
use Rattle.xc_search.specs.Listing.{whole}
use Rattle.xc_search.specs.Nodes.{IsRowOf}
use Rattle.xc_search.proofs.Completeness.{each_member_covers}
use Rattle.xc_count.specs.Occurrences.{occurrences_of, takes}
use Rattle.xc_count.proofs.OptionCounts.{all_counted, all_head, all_tail, arrived, counted_more, ended, fewer, hit}
use Rattle.xc_count.proofs.OptionCounts.{none_yet, options_within, refilled}
use Rattle.xc_count.proofs.occurring.each_by_search.Goals as goal

pub loop-covers-init : goal.loop-covers-init
loop-covers-init c =
    let p = c.args.problem.now.puzzle in
    let begun = c.in_ok-span.ensures in
    let s = c.in_ok-span.span in
    record {
      number = omega (arith, c.zero-covers.ensures, ap length begun.left);
      same = begun.puzzle;
      node = subst (λ (q : Puzzle). IfSome s.row (λ row. IsRowOf (whole q) row)) (sym begun.puzzle) begun.node;
      counted = λ o h. none_yet p c.in_ok-times.times.items (left_of s) o c.in_ok-times.ensures.zero begun.left;
      covers = subst (All (λ m. IsCover p (options_of m))) (sym begun.left)
          (each_member_covers p c.options.ensures.whole.valid);
      len = c.in_ok-times.ensures.len ∙ c.options.ensures.value;
    }

pub add_solution-requires-clause-known : goal.add_solution-requires-clause-known
add_solution-requires-clause-known c =
    let p = c.args.problem.now.puzzle in
    let old = c.loop-covers.span in
    let new = c.pass.new.span in
    let came = arrived c.pass.result (left_of old) (left_of new) old.shown new.shown c.pass.ensures.count
    (omega (arith, c.loop-covers-test.true)) c.pass.ensures.left c.pass.ensures.shown in
    let cover = all_head (λ m. IsCover p (options_of m)) new.shown (left_of new)
    (subst (All (λ m. IsCover p (options_of m))) came c.loop-covers.invariant.covers) in
    let many = ap length c.as_mut_slice.ensures.value ∙ c.loop-covers.invariant.len in
    rw c.choices.ensures (options_within p (length c.as_mut_slice.result.now) (options_of new.shown) many cover)

pub add_solution-requires-clause-distinct : goal.add_solution-requires-clause-distinct
add_solution-requires-clause-distinct c =
    let p = c.args.problem.now.puzzle in
    let old = c.loop-covers.span in
    let new = c.pass.new.span in
    let came = arrived c.pass.result (left_of old) (left_of new) old.shown new.shown c.pass.ensures.count
    (omega (arith, c.loop-covers-test.true)) c.pass.ensures.left c.pass.ensures.shown in
    let cover = all_head (λ m. IsCover p (options_of m)) new.shown (left_of new)
    (subst (All (λ m. IsCover p (options_of m))) came c.loop-covers.invariant.covers) in
    rw c.choices.ensures cover.distinct

pub loop-covers-smaller : goal.loop-covers-smaller
loop-covers-smaller c =
    let old = c.loop-covers.span in
    let new = c.pass.new.span in
    fewer new.shown (left_of old) (left_of new)
    (arrived c.pass.result (left_of old) (left_of new) old.shown new.shown c.pass.ensures.count
    (omega (arith, c.loop-covers-test.true)) c.pass.ensures.left c.pass.ensures.shown)

pub loop-covers-preserved : goal.loop-covers-preserved
loop-covers-preserved c =
    let p = c.args.problem.now.puzzle in
    let old = c.loop-covers.span in
    let new = c.pass.new.span in
    let ts = c.loop-covers.times.items in
    let came = arrived c.pass.result (left_of old) (left_of new) old.shown new.shown c.pass.ensures.count
    (omega (arith, c.loop-covers-test.true)) c.pass.ensures.left c.pass.ensures.shown in
    let done = rw c.choices.ensures at c.in_ok-add_solution.ensures in
    let many : length c.add_solution.new.times ≡ length ts = done.len ∙ ap length c.as_mut_slice.ensures.value in
    let written = refilled c.loop-covers.times.len c.add_solution.new.times ts many c.loop-covers.times.ok.0 in
    record {
      number = omega (arith, c.loop-covers.invariant.number, c.in_ok-count_one.ensures, ap length came);
      same = c.pass.ensures.puzzle ∙ c.loop-covers.invariant.same;
      node = c.pass.ensures.node;
      counted = λ o h. counted_more p o (get_or ts (o - 1) 0) _ new.shown (left_of new)
          (subst (λ ms. get_or ts (o - 1) 0 + count_by (takes o) ms ≡ occurrences_of p o) came
          (c.loop-covers.invariant.counted o h))
          (ap (λ l. get_or l (o - 1) 0) written ∙ done.times o h
          ∙ ap (λ l. get_or l (o - 1) 0 + hit o (options_of new.shown)) c.as_mut_slice.ensures.value);
      covers = all_tail (λ m. IsCover p (options_of m)) new.shown (left_of new)
          (subst (All (λ m. IsCover p (options_of m))) came c.loop-covers.invariant.covers);
      len = ap length written ∙ many ∙ c.loop-covers.invariant.len;
    }

pub returns-clause-covers : goal.returns-clause-covers
returns-clause-covers c =
    let ms = left_of c.loop-covers.span in
    let none : min 1 (length ms) ≢ 1 = λ q. omega (arith, q, c.pass.ensures.count, c.loop-covers-test.false) in
    omega (arith, c.in_ok-number.ensures, c.loop-covers.invariant.number, ap length (ended ms none))

pub returns-clause-each : goal.returns-clause-each
returns-clause-each c =
    let p = c.args.problem.now.puzzle in
    let ms = left_of c.loop-covers.span in
    let none : min 1 (length ms) ≢ 1 = λ q. omega (arith, q, c.pass.ensures.count, c.loop-covers-test.false) in
    c.in_ok-numbers.ensures ∙ c.as_slice.ensures.value
    ∙ all_counted p c.loop-covers.times.items ms (ended ms none) c.loop-covers.invariant.len
    c.loop-covers.invariant.counted
