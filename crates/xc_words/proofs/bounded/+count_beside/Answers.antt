-- Induction on the budget, as each call takes one of it. Both loops keep that the sum so far and the fair sets that are
-- left make up those that there were at first, for all items for which the set, what is left and what is unmet are
-- right (`IsRight`). The inner loop takes away an option of the branch with the sets that have it (`one_on`, with
-- `right_next` for the call). Behind it one set is left where no item needs an option (`all_met`), none where too few
-- options are left for the need (`lacking`), and else each option of the branch that is left has to be taken
-- (`last_on`). `first_of` says that the first bit is one of a set and below 64.
use Rattle.std.proofs.Common.{◌<◌, ◌+◌, ◌^◌}
use Rattle.std.proofs.Common.{arith, ap, ◌∙◌}
use Rattle.xc_words.proofs.TakingLemmas.{first_of, right_closed, all_met, lacking, branch_closed, right_next, one_on}
use Rattle.xc_words.proofs.TakingLemmas.{last_on, no_more, fewer_left}
use Rattle.xc_words.proofs.bounded.+count_beside.Goals as goal

pub loop-budget-init : goal.loop-budget-init
loop-budget-init t c = (
  omega arith,
  omega arith,
  omega (arith, c.ranges.set.fits),
  λ items right. (right, omega arith),
)

pub loop-left-init : goal.loop-left-init
loop-left-init t c =
    let inv = c.loop-budget.invariant in (
      inv.0,
      omega (arith, inv.1, c.if-budget-eq0.false),
      inv.2,
      omega arith,
      λ items right.
          let at = inv.3 items right in (
            right_closed _ items c.loop-budget.left c.loop-budget.set c.loop-budget.unmet at.0
                (omega (arith, c.loop-budget.auto.left-fits)) inv.2 c.fewest_of-branch.new.unmet
                c.fewest_of-branch.ensures.less c.fewest_of-branch.ensures.closed,
            at.1,
          ),
    )

pub without-left-requires : goal.without-left-requires
without-left-requires t c =
    (first_of c.fewest_of-branch.result.options c.loop-left.left
    (omega (arith, c.loop-left.auto.left-fits)) (omega (arith, c.loop-left-test.true))).0

pub with-taken-requires : goal.with-taken-requires
with-taken-requires t c =
    (first_of c.fewest_of-branch.result.options c.loop-left.left
    (omega (arith, c.loop-left.auto.left-fits)) (omega (arith, c.loop-left-test.true))).0

pub beside-stay-requires : goal.beside-stay-requires
beside-stay-requires t c =
    (first_of c.fewest_of-branch.result.options c.loop-left.left
    (omega (arith, c.loop-left.auto.left-fits)) (omega (arith, c.loop-left-test.true))).0

pub count_beside-requires : goal.count_beside-requires
count_beside-requires t c = (omega (arith, c.loop-left.invariant.1, c.decreases), tt)

pub returns-in_err-found-clause-spent : goal.returns-in_err-found-clause-spent
returns-in_err-found-clause-spent t c = omega (arith, c.count_beside.ensures.spent, c.loop-left.invariant.1)

pub overflow_sub-most : goal.overflow_sub-most
overflow_sub-most t c = c.loop-left.invariant.0

pub returns-then-found-most-clause-spent : goal.returns-then-found-most-clause-spent
returns-then-found-most-clause-spent t c = omega (arith, c.count_beside.ensures.spent, c.loop-left.invariant.1)

pub loop-left-smaller : goal.loop-left-smaller
loop-left-smaller t c = c.without-left.ensures.less
    (first_of c.fewest_of-branch.result.options c.loop-left.left
    (omega (arith, c.loop-left.auto.left-fits)) (omega (arith, c.loop-left-test.true))).2

pub loop-left-preserved : goal.loop-left-preserved
loop-left-preserved t c =
    let inv = c.loop-left.invariant in
    let fits : c.loop-left.left < 2 ^ 64 = omega (arith, c.loop-left.auto.left-fits) in
    let first = first_of c.fewest_of-branch.result.options c.loop-left.left fits
    (omega (arith, c.loop-left-test.true)) in (
      omega (arith, c.if-found-most.false, inv.0),
      omega (arith, inv.1, c.count_beside.ensures.spent),
      inv.2,
      omega (arith, inv.3, c.count_beside.ensures.spent),
      λ items right.
          let at = inv.4 items right in
          one_on c.args.words.now items c.loop-left.left c.loop-budget.set c.fewest_of-branch.new.unmet
          c.loop-left.sum _
          fits inv.2 at.0 at.1 _ first.0 first.2 c.without-left.result c.without-left.ensures.without
          c.with-taken.result c.with-taken.ensures c.beside-stay.result c.beside-stay.ensures c.in_ok-found.found
          (c.in_ok-found.ensures.counted items (right_next c.args.words.now items c.loop-left.left c.loop-budget.set
          c.fewest_of-branch.new.unmet c.loop-left.sum _ fits inv.2 at.0 at.1 _ first.0 first.2 c.without-left.result
          c.without-left.ensures.without c.with-taken.result c.with-taken.ensures c.beside-stay.result
          c.beside-stay.ensures)),
    )

pub returns-then-sum-most-clause-counted : goal.returns-then-sum-most-clause-counted
returns-then-sum-most-clause-counted t c = λ items right.
    let inv = c.loop-left.invariant in
    let at = inv.4 items right in
    let one = all_met c.args.words.now items c.loop-left.left c.loop-budget.set c.fewest_of-branch.new.unmet at.0
    (omega (arith, c.loop-left.auto.left-fits)) inv.2 c.fewest_of-branch.result
    (branch_closed c.args.words.now c.loop-budget.unmet c.loop-budget.set
    c.fewest_of-branch.new.unmet c.fewest_of-branch.result c.fewest_of-branch.ensures.less
    c.fewest_of-branch.ensures.closed c.fewest_of-branch.ensures.branch)
    (omega (arith, c.if-branch-eq0.true)) (omega (arith, c.loop-left-test.false)) in
    ap (λ n. c.loop-left.sum + n) one ∙ at.1

pub returns-then-sum-most-clause-spent : goal.returns-then-sum-most-clause-spent
returns-then-sum-most-clause-spent t c = omega (arith, c.loop-left.invariant.1)

pub returns-else-sum-most-clause-spent : goal.returns-else-sum-most-clause-spent
returns-else-sum-most-clause-spent t c = omega (arith, c.loop-left.invariant.1)

pub returns-then-branch-left-clause-counted : goal.returns-then-branch-left-clause-counted
returns-then-branch-left-clause-counted t c = λ items right.
    let inv = c.loop-left.invariant in
    let at = inv.4 items right in
    let none = lacking c.args.words.now items c.loop-left.left c.loop-budget.set c.fewest_of-branch.new.unmet at.0
    (omega (arith, c.loop-left.auto.left-fits)) inv.2 c.fewest_of-branch.result
    (branch_closed c.args.words.now c.loop-budget.unmet c.loop-budget.set
    c.fewest_of-branch.new.unmet c.fewest_of-branch.result c.fewest_of-branch.ensures.less
    c.fewest_of-branch.ensures.closed c.fewest_of-branch.ensures.branch)
    c.loop-left.left (omega (arith, c.loop-left.auto.left-fits)) (omega (arith, c.if-branch-left.true)) in
    no_more c.loop-left.sum _ _ none at.1

pub returns-then-branch-left-clause-within : goal.returns-then-branch-left-clause-within
returns-then-branch-left-clause-within t c = c.loop-left.invariant.0

pub returns-then-branch-left-clause-spent : goal.returns-then-branch-left-clause-spent
returns-then-branch-left-clause-spent t c = omega (arith, c.loop-left.invariant.1)

pub with-set-requires : goal.with-set-requires
with-set-requires t c =
    (first_of c.fewest_of-branch.result.options c.loop-left.left
    (omega (arith, c.loop-left.auto.left-fits)) (omega (arith, c.if-branch-eq0.false, c.if-branch-left.false))).0

pub without-requires : goal.without-requires
without-requires t c =
    (first_of c.fewest_of-branch.result.options c.loop-left.left
    (omega (arith, c.loop-left.auto.left-fits)) (omega (arith, c.if-branch-eq0.false, c.if-branch-left.false))).0

pub beside-left-requires : goal.beside-left-requires
beside-left-requires t c =
    (first_of c.fewest_of-branch.result.options c.loop-left.left
    (omega (arith, c.loop-left.auto.left-fits)) (omega (arith, c.if-branch-eq0.false, c.if-branch-left.false))).0

pub loop-budget-smaller : goal.loop-budget-smaller
loop-budget-smaller t c = omega (arith, c.loop-left.invariant.3, c.if-budget-eq0.false)

pub loop-budget-preserved : goal.loop-budget-preserved
loop-budget-preserved t c =
    let inv = c.loop-left.invariant in
    let fits : c.loop-left.left < 2 ^ 64 = omega (arith, c.loop-left.auto.left-fits) in
    let rest_fits : c.without.result < 2 ^ 64 = omega (arith, c.without.type_inv) in
    let first = first_of c.fewest_of-branch.result.options c.loop-left.left fits
    (omega (arith, c.if-branch-eq0.false, c.if-branch-left.false)) in (
      inv.0,
      omega (arith, inv.1),
      omega (arith, c.with-set.type_inv),
      λ items right.
          let at = inv.4 items right in
          let fewer = fewer_left c.fewest_of-branch.result.options c.loop-left.left _ c.without.result fits rest_fits
          first.0 first.1 first.2 c.without.ensures.without in
          let none = lacking c.args.words.now items c.loop-left.left c.loop-budget.set c.fewest_of-branch.new.unmet at.0
          fits inv.2 c.fewest_of-branch.result
          (branch_closed c.args.words.now c.loop-budget.unmet c.loop-budget.set
          c.fewest_of-branch.new.unmet c.fewest_of-branch.result c.fewest_of-branch.ensures.less
          c.fewest_of-branch.ensures.closed c.fewest_of-branch.ensures.branch)
          c.without.result rest_fits (omega (arith, c.loop-left-test.false, fewer)) in
          last_on c.args.words.now items c.loop-left.left c.loop-budget.set c.fewest_of-branch.new.unmet
          c.loop-left.sum _
          fits inv.2 at.0 at.1 _ first.0 first.2 c.without.result c.without.ensures.without
          c.with-set.result c.with-set.ensures c.beside-left.result c.beside-left.ensures none,
    )
