-- The invariant: the sum so far and the covers below the options from k on are all covers below the state, and of each
-- option x the count has become more by the state's ways times its covers below the options before k (`AreMore`). At
-- first the covers below the state are split by its options (`split_once`). An option that doesn't fit adds nothing
-- (`same_passed`), another its covers (`sum_less`, `same_added`).
use Rattle.std.proofs.Common.{arith, ◌≡◌, ◌*◌, ap, ◌∙◌, sym, get_or, subst, refl, drop, take}
use Rattle.std.specs.Prelude.{sum_by, Contains}
use Rattle.std.proofs.lemmas.Option.{slice_get-get_or}
use Rattle.xc_text.proofs.ListLemmas.{contains-in, in-slice_get}
use Rattle.xc_count.specs.inner.Passed.{with_same}
use Rattle.xc_count.specs.inner.Worth.{key_below, says, with_number}
use Rattle.xc_count.proofs.Below.{split_once}
use Rattle.xc_count.proofs.HolderLemmas.{option_known}
use Rattle.xc_count.proofs.Passed.{more_none, same_added, same_passed, sum_less, times_none}
use Rattle.xc_count.proofs.PlanLemmas.{order_at}
use Rattle.xc_count.proofs.backward.below_free.Goals as goal

pub loop-k-init : goal.loop-k-init
loop-k-init c =
    let p = c.args.problem.now.puzzle in
    let plan = c.args.plan.now in
    let step = c.args.step in
    let s = says plan step.from c.args.state.now.key.items in
    let item = get_or plan.order.items step.place 0 in
    let whole : sum_by (with_number p s) (drop 0 c.args.options.now)
    ≡ key_below p plan step.from c.args.state.now.key.items =
    ap (sum_by (with_number p s)) c.requires.options
    ∙ sym (split_once p c.requires.once c.requires.valid s item
    (order_at p plan c.requires.plan step.place c.requires.step.within) c.requires.free) in
    record {
      sum = omega (arith, whole);
      counts = more_none (λ x. c.args.state.now.worth * sum_by (with_same p s x) (take 0 c.args.options.now))
          c.args.counts.now.items c.args.counts.now.items refl (λ x. times_none c.args.state.now.worth);
    }

pub below_option-requires-clause-known : goal.below_option-requires-clause-known
below_option-requires-clause-known c =
    let os = c.args.options.now in
    let o = get_or os c.loop-k.k 0 in
    let there = contains-in os o (in-slice_get os c.loop-k.k o (slice_get-get_or os c.loop-k.k 0 (omega arith))) in
    (option_known c.args.problem.now.puzzle (get_or c.args.plan.now.order.items c.args.step.place 0) o
    (subst (λ xs. Contains xs o) c.requires.options there)).0

pub add_covers-requires : goal.add_covers-requires
add_covers-requires c =
    let os = c.args.options.now in
    let o = get_or os c.loop-k.k 0 in
    let there = contains-in os o (in-slice_get os c.loop-k.k o (slice_get-get_or os c.loop-k.k 0 (omega arith))) in
    let known = (option_known c.args.problem.now.puzzle (get_or c.args.plan.now.order.items c.args.step.place 0) o
    (subst (λ xs. Contains xs o) c.requires.options there)).0 in
    (known.0, omega (arith, known.1, c.loop-k.invariant.counts.len, c.requires.len))

pub loop-k-preserved-in_default : goal.loop-k-preserved-in_default
loop-k-preserved-in_default c =
    let p = c.args.problem.now.puzzle in
    let s = says c.args.plan.now c.args.step.from c.args.state.now.key.items in
    let os = c.args.options.now in
    let k = c.loop-k.k in
    let o = get_or os k 0 in
    let none : with_number p s o ≡ 0 =
    ap (λ key. with_number p (says c.args.plan.now c.args.step.from key) o) (sym c.as_slice.ensures.value)
    ∙ (rw c.in_default.is at c.in_ok-below.ensures) in
    record {
      sum = sum_less (with_number p s) k c.loop-k.sum 0 c.loop-k.sum _ os (omega arith) c.loop-k.invariant.sum
          (omega arith) (sym none);
      counts = same_passed p s c.args.state.now.worth os k (omega arith) c.args.counts.now.items c.loop-k.counts.items
          c.loop-k.invariant.counts none;
    }

pub loop-k-preserved : goal.loop-k-preserved
loop-k-preserved c =
    let p = c.args.problem.now.puzzle in
    let s = says c.args.plan.now c.args.step.from c.args.state.now.key.items in
    let os = c.args.options.now in
    let k = c.loop-k.k in
    let n = c.in-Some.below.now in
    let o = get_or os k 0 in
    let agreed : n ≡ with_number p s o = (rw c.in-Some.is at c.in_ok-below.ensures)
    ∙ ap (λ key. with_number p (says c.args.plan.now c.args.step.from key) o) c.as_slice.ensures.value in
    record {
      sum = sum_less (with_number p s) k c.loop-k.sum n c.add_assign.new.self _ os (omega arith)
          c.loop-k.invariant.sum c.in_ok-add_assign.ensures.sum agreed;
      counts = same_added p s c.args.state.now.worth os k (omega arith) c.args.counts.now.items c.loop-k.counts.items
          c.loop-k.invariant.counts n c.add_covers.new.counts.items agreed c.in_ok-add_covers.ensures;
    }
