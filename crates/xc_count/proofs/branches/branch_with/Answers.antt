-- The invariant: the number of the solution that is looked for, less the covers of the branches before `place`, is its
-- number among the members of the branches from `place` on (`solution`), and k is the number of these branches. At
-- first they are all members (`fork_listing`). An option that doesn't agree has no branch (`at_none`). Of the others,
-- the number is either within the branch (`at_taken`; `at_last` for the last one, which isn't counted) or behind it
-- (`at_passed`). In the first case `solution_with` and `less_with` say what is taken and that less is left.
use Rattle.std.proofs.Common.{◌≡◌, ◌≤◌, ◌+◌, Some, arith, ap, ◌∙◌, drop, length, refl, subst, sym, get_or}
use Rattle.std.proofs.lemmas.List.{drop_all}
use Rattle.std.proofs.lemmas.Map.Keys.{le_from_is_le}
use Rattle.xc_input.specs.Problem.{numbered_get, option_count}
use Rattle.xc_search.specs.Listing.{listing}
use Rattle.xc_count.specs.inner.Numbered.{IsLess, behind_taken, left_by_key}
use Rattle.xc_count.specs.inner.Plans.{options_with}
use Rattle.xc_count.specs.inner.Worth.{says}
use Rattle.xc_count.proofs.ByNumber.{fork_primary, fork_listing, fork_many, members_with, few_options}
use Rattle.xc_count.proofs.ByNumber.{more_than, number_empty, at_none, at_last, at_taken, at_passed, choice_of}
use Rattle.xc_count.proofs.ByNumber.{agree_step, that_agree}
use Rattle.xc_count.proofs.HolderLemmas.{item_of, option_known}
use Rattle.xc_count.proofs.TakenKeys.{is_listed, left_with, less_with, solution_with}
use Rattle.xc_count.proofs.branches.branch_with.Goals as goal

pub loop-place-init : goal.loop-place-init
loop-place-init c =
    let p = c.args.problem.now.puzzle in
    let s = says c.args.plan.now 0 c.args.key.now in
    let fork = c.args.fork in
    record {
      solution = ap (λ ms. numbered_get ms c.args.number.now)
          (fork_listing p c.requires.valid c.requires.once s fork c.requires.fork
          ∙ ap (members_with p s fork.0 fork.1 1) (sym (c.options_of-options.ensures
          c.args.problem.now.puzzle c.requires.plan (item_of c.args.problem.now.puzzle c.args.fork.0
          (fork_primary c.args.problem.now.puzzle c.requires.valid c.requires.once
          (says c.args.plan.now 0 c.args.key.now) c.args.fork c.requires.fork)))));
      few = omega arith;
      ahead = let many = ap (λ os. length (that_agree p s os)) (c.options_of-options.ensures
          c.args.problem.now.puzzle c.requires.plan (item_of c.args.problem.now.puzzle c.args.fork.0
          (fork_primary c.args.problem.now.puzzle c.requires.valid c.requires.once
          (says c.args.plan.now 0 c.args.key.now) c.args.fork c.requires.fork)))
          ∙ fork_many p c.requires.valid c.requires.once s fork c.requires.fork in omega (arith, many);
      same = refl;
    }

pub key_with-requires-clause-known : goal.key_with-requires-clause-known
key_with-requires-clause-known c =
    let os = c.options_of-options.result.now in
    (option_known c.args.problem.now.puzzle c.args.fork.0 (get_or os c.loop-place.place 0)
    (is_listed os (options_with c.args.problem.now.puzzle c.args.fork.0) c.loop-place.place (omega arith)
    (c.options_of-options.ensures
    c.args.problem.now.puzzle c.requires.plan (item_of c.args.problem.now.puzzle c.args.fork.0
    (fork_primary c.args.problem.now.puzzle c.requires.valid c.requires.once
    (says c.args.plan.now 0 c.args.key.now) c.args.fork c.requires.fork))))).0

pub loop-place-preserved-in_default : goal.loop-place-preserved-in_default
loop-place-preserved-in_default c =
    let p = c.args.problem.now.puzzle in
    let s = says c.args.plan.now 0 c.args.key.now in
    let os = c.options_of-options.result.now in
    let agreed = rw c.in_default.is at c.in_ok-next.ensures.key in
    record {
      solution = c.loop-place.invariant.solution
          ∙ at_none p s c.args.fork.0 c.args.fork.1 (c.loop-place.k + 1) os c.loop-place.place c.loop-place.number
          (omega arith) agreed;
      few = omega (arith, c.loop-place.invariant.few);
      ahead = let step = agree_step p s os c.loop-place.place (omega arith) in
          omega (arith, rw agreed at step, c.loop-place.invariant.ahead);
      same = c.loop-place.invariant.same;
    }

pub overflow_add-k : goal.overflow_add-k
overflow_add-k c =
    let few : length c.options_of-options.result.now ≤ option_count c.args.problem.now.puzzle =
    subst (λ xs. length xs ≤ option_count c.args.problem.now.puzzle) (sym (c.options_of-options.ensures
    c.args.problem.now.puzzle c.requires.plan (item_of c.args.problem.now.puzzle c.args.fork.0
    (fork_primary c.args.problem.now.puzzle c.requires.valid c.requires.once
    (says c.args.plan.now 0 c.args.key.now) c.args.fork c.requires.fork))))
    (few_options c.args.problem.now.puzzle c.args.fork.0) in
    omega (arith, few, c.loop-place.invariant.few, c.loop-place-test.true, c.key_with.ensures.limits.options)

pub returns-then-k-fork-clause-solution : goal.returns-then-k-fork-clause-solution
returns-then-k-fork-clause-solution c =
    let p = c.args.problem.now.puzzle in
    let s = says c.args.plan.now 0 c.args.key.now in
    let os = c.options_of-options.result.now in
    let o = get_or os c.loop-place.place 0 in
    let agreed = rw c.in-Some.is at c.in_ok-next.ensures.key in
    let step = agree_step p s os c.loop-place.place (omega arith) in
    let none : length (that_agree p s (drop (c.loop-place.place + 1) os)) ≡ 0 =
    omega (arith, rw agreed.0 at step, c.loop-place.invariant.ahead, c.if-k-fork.true) in
    c.loop-place.invariant.solution
    ∙ at_last p s c.args.fork.0 c.args.fork.1 (c.loop-place.k + 1) os c.loop-place.place c.loop-place.number
    (omega arith) agreed.0 none
    ∙ solution_with p c.requires.valid c.args.plan.now c.args.key.now c.in-Some.next.items o agreed.1
    (choice_of c.args.fork.0 c.args.fork.1 (c.loop-place.k + 1) o) c.loop-place.number
    ∙ ap (λ t. behind_taken p c.args.plan.now (Some t) c.loop-place.number) (sym c.taking.ensures)

pub returns-then-k-fork-clause-less : goal.returns-then-k-fork-clause-less
returns-then-k-fork-clause-less c =
    let p = c.args.problem.now.puzzle in
    let os = c.options_of-options.result.now in
    let listed = is_listed os (options_with p c.args.fork.0) c.loop-place.place (omega arith)
    (c.options_of-options.ensures
    c.args.problem.now.puzzle c.requires.plan (item_of c.args.problem.now.puzzle c.args.fork.0
    (fork_primary c.args.problem.now.puzzle c.requires.valid c.requires.once
    (says c.args.plan.now 0 c.args.key.now) c.args.fork c.requires.fork))) in
    let agreed = rw c.in-Some.is at c.in_ok-next.ensures.key in
    subst (λ t. IsLess p c.args.plan.now t.key.items c.args.key.now) (sym c.taking.ensures)
    (less_with p c.requires.valid c.args.plan.now c.args.key.now c.in-Some.next.items (get_or os c.loop-place.place 0)
    agreed.1 c.requires.once c.args.fork c.requires.fork listed agreed.0)

pub returns-then-le-clause-solution : goal.returns-then-le-clause-solution
returns-then-le-clause-solution c =
    let p = c.args.problem.now.puzzle in
    let plan = c.args.plan.now in
    let os = c.options_of-options.result.now in
    let o = get_or os c.loop-place.place 0 in
    let next = c.in-Some.next.items in
    let agreed = rw c.in-Some.is at c.in_ok-next.ensures.key in
    let left = left_with p c.requires.valid plan c.args.key.now next o agreed.1 in
    let many = c.in_ok-covers.ensures.count
    ∙ ap (λ k. length (listing (left_by_key p plan k))) c.as_slice.ensures.value
    ∙ ap (λ r. length (listing r)) left in
    let few = le_from_is_le c.loop-place.number c.in_ok-covers.covers (sym c.le.ensures ∙ c.if-le.true) in
    c.loop-place.invariant.solution
    ∙ at_taken p (says plan 0 c.args.key.now) c.args.fork.0 c.args.fork.1 (c.loop-place.k + 1) os c.loop-place.place
    c.loop-place.number (omega arith) agreed.0 (omega (arith, few, many))
    ∙ solution_with p c.requires.valid plan c.args.key.now next o agreed.1
    (choice_of c.args.fork.0 c.args.fork.1 (c.loop-place.k + 1) o) c.loop-place.number
    ∙ ap (λ t. behind_taken p plan (Some t) c.loop-place.number) (sym c.taking-then-le.ensures)

pub returns-then-le-clause-less : goal.returns-then-le-clause-less
returns-then-le-clause-less c =
    let p = c.args.problem.now.puzzle in
    let os = c.options_of-options.result.now in
    let listed = is_listed os (options_with p c.args.fork.0) c.loop-place.place (omega arith)
    (c.options_of-options.ensures
    c.args.problem.now.puzzle c.requires.plan (item_of c.args.problem.now.puzzle c.args.fork.0
    (fork_primary c.args.problem.now.puzzle c.requires.valid c.requires.once
    (says c.args.plan.now 0 c.args.key.now) c.args.fork c.requires.fork))) in
    let agreed = rw c.in-Some.is at c.in_ok-next.ensures.key in
    subst (λ t. IsLess p c.args.plan.now t.key.items c.args.key.now) (sym c.taking-then-le.ensures)
    (less_with p c.requires.valid c.args.plan.now c.args.key.now c.in-Some.next.items (get_or os c.loop-place.place 0)
    agreed.1 c.requires.once c.args.fork c.requires.fork listed agreed.0)

pub loop-place-preserved : goal.loop-place-preserved
loop-place-preserved c =
    let p = c.args.problem.now.puzzle in
    let plan = c.args.plan.now in
    let s = says plan 0 c.args.key.now in
    let os = c.options_of-options.result.now in
    let o = get_or os c.loop-place.place 0 in
    let agreed = rw c.in-Some.is at c.in_ok-next.ensures.key in
    let left = left_with p c.requires.valid plan c.args.key.now c.in-Some.next.items o agreed.1 in
    let many = c.in_ok-covers.ensures.count
    ∙ ap (λ k. length (listing (left_by_key p plan k))) c.as_slice.ensures.value
    ∙ ap (λ r. length (listing r)) left in
    let more = more_than c.loop-place.number c.in_ok-covers.covers (sym c.le.ensures ∙ c.if-le.false) in
    record {
      solution = c.loop-place.invariant.solution
          ∙ at_passed p s c.args.fork.0 c.args.fork.1 (c.loop-place.k + 1) os c.loop-place.place c.loop-place.number
          (omega arith) c.sub_assign.new.self agreed.0 (omega (arith, more, many))
          (omega (arith, many, c.sub_assign.ensures));
      few = omega (arith, c.loop-place.invariant.few);
      ahead = let step = agree_step p s os c.loop-place.place (omega arith) in
          omega (arith, rw agreed.0 at step, c.loop-place.invariant.ahead);
      same = c.count_left.ensures.same ∙ c.loop-place.invariant.same;
    }

pub returns-clause-solution : goal.returns-clause-solution
returns-clause-solution c =
    let p = c.args.problem.now.puzzle in
    let s = says c.args.plan.now 0 c.args.key.now in
    let over = drop_all c.loop-place.place c.options_of-options.result.now (omega arith) in
    c.loop-place.invariant.solution
    ∙ ap (λ os. numbered_get (members_with p s c.args.fork.0 c.args.fork.1 (c.loop-place.k + 1) os) c.loop-place.number)
    over ∙ number_empty c.loop-place.number
