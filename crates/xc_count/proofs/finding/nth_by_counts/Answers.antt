-- The invariant: the solution of the number is the choices so far and then, of what the key leaves, the solution of the
-- number `rest`. At first the key leaves all (`all_left`). A branch more keeps it (`after_more`), and less is left,
-- which is why the loop ends. Without a branch what the key leaves has one solution, the empty one: with 1 it is found
-- (`at_leaf`), with another number there is none (`past_leaf`).
use Rattle.std.proofs.Common.{◌≡◌, ◌≢◌, [], ◌∙◌, Some, None, ap, ap₂, refl, sym, subst, eqb-true, eq-eqb}
use Rattle.xc_input.specs.Problem.{numbered_get}
use Rattle.xc_search.specs.Listing.{listing, whole}
use Rattle.xc_count.specs.inner.Numbered.{IsLess, behind_taken, branch_at, left_by_key, solution_at}
use Rattle.xc_count.specs.inner.Worth.{says}
use Rattle.xc_count.proofs.Below.{all_left}
use Rattle.xc_count.proofs.KeyLemmas.{nothing_held}
use Rattle.xc_count.proofs.ByNumber.{after, after_none, after_more, no_fork, at_leaf, past_leaf}
use Rattle.xc_count.proofs.finding.nth_by_counts.Goals as goal

pub loop-fork-init : goal.loop-fork-init
loop-fork-init c =
    let p = c.args.problem.now.puzzle in
    let plan = c.args.plan.now in
    let all : left_by_key p plan [] ≡ whole p = all_left p (says plan 0 []) (nothing_held plan.ranking.ranks.items) in
    record {
      found = ap₂ (λ r n. numbered_get (listing r) n) (sym all) (sym c.in_ok-rest.ensures.cases)
          ∙ ap (λ k. solution_at p plan k c.in_ok-rest.rest) (sym c.new-key.ensures.items)
          ∙ sym (after_none (solution_at p plan c.new-key.result.items c.in_ok-rest.rest))
          ∙ ap (λ cs. after cs (solution_at p plan c.new-key.result.items c.in_ok-rest.rest))
          (sym c.new-choices.ensures.items);
      same = refl;
    }

pub loop-fork-smaller : goal.loop-fork-smaller
loop-fork-smaller c =
    let less = rw c.in-Some-2.is at c.in_ok-branch.ensures.less in
    subst (λ k. IsLess c.args.problem.now.puzzle c.args.plan.now c.in-Some-2.branch.key.items k)
    c.as_slice-in-Some.ensures.value less

pub loop-fork-preserved : goal.loop-fork-preserved
loop-fork-preserved c =
    let p = c.args.problem.now.puzzle in
    let plan = c.args.plan.now in
    let rest = c.branch_with.new.number in
    let b = c.in-Some-2.branch in
    let one : solution_at p plan c.as_slice-in-Some.result.now c.loop-fork.rest ≡ behind_taken p plan (Some b) rest =
    rw c.in-Some-2.is at c.in_ok-branch.ensures.solution in
    let step = ap (λ k. solution_at p plan k c.loop-fork.rest) (sym c.as_slice-in-Some.ensures.value) ∙ one in
    record {
      found = c.loop-fork.invariant.found ∙ ap (after c.loop-fork.choices.items) step
          ∙ after_more c.loop-fork.choices.items b.choice (solution_at p plan b.key.items rest)
          ∙ ap (λ cs. after cs (solution_at p plan b.key.items rest)) (sym c.in_ok-push-in-Some-2.ensures.items);
      same = c.branch_with.ensures.same ∙ c.loop-fork.invariant.same;
    }

pub returns-in-None-clause-found : goal.returns-in-None-clause-found
returns-in-None-clause-found c =
    let p = c.args.problem.now.puzzle in
    let plan = c.args.plan.now in
    let one = rw c.in-None.is at c.in_ok-branch.ensures.solution in
    let step = ap (λ k. solution_at p plan k c.loop-fork.rest) (sym c.as_slice-in-Some.ensures.value) ∙ one in
    sym (c.loop-fork.invariant.found ∙ ap (after c.loop-fork.choices.items) step)

pub returns-then-eq-clause-found : goal.returns-then-eq-clause-found
returns-then-eq-clause-found c =
    let p = c.args.problem.now.puzzle in
    let plan = c.args.plan.now in
    let none : branch_at p plan c.loop-fork.key.items ≡ None =
    ap (branch_at p plan) (sym c.as_slice.ensures.value) ∙ sym c.branch_item.ensures ∙ c.in_default.is in
    let one = eqb-true c.loop-fork.rest c.from_u64.result (sym c.eq-2.ensures ∙ c.if-eq.true) ∙ c.from_u64.ensures in
    sym (c.loop-fork.invariant.found
    ∙ at_leaf c.loop-fork.choices.items (listing (left_by_key p plan c.loop-fork.key.items)) c.loop-fork.rest
    (no_fork (left_by_key p plan c.loop-fork.key.items) none) one)

pub returns-clause-found : goal.returns-clause-found
returns-clause-found c =
    let p = c.args.problem.now.puzzle in
    let plan = c.args.plan.now in
    let none : branch_at p plan c.loop-fork.key.items ≡ None =
    ap (branch_at p plan) (sym c.as_slice.ensures.value) ∙ sym c.branch_item.ensures ∙ c.in_default.is in
    let other : c.loop-fork.rest ≢ 1 = λ q.
    let same = eq-eqb c.loop-fork.rest c.from_u64.result (q ∙ sym c.from_u64.ensures) in
    let told = c.eq-2.ensures in
    let false_is = c.if-eq.false in
    cc (same, told, false_is) in
    sym (c.loop-fork.invariant.found
    ∙ past_leaf c.loop-fork.choices.items (listing (left_by_key p plan c.loop-fork.key.items)) c.loop-fork.rest
    (no_fork (left_by_key p plan c.loop-fork.key.items) none) other)
