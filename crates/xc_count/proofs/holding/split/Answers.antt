use Rattle.std.proofs.Common.{arith, ◌≡◌, ◌*◌, ap, ◌∙◌, get_or, subst, drop}
use Rattle.std.proofs.lemmas.List.{drop_all}
use Rattle.std.specs.Prelude.{sum_by, Contains}
use Rattle.std.proofs.lemmas.Option.{slice_get-get_or}
use Rattle.xc_text.proofs.ListLemmas.{contains-in, in-slice_get}
use Rattle.xc_count.specs.inner.Passed.{worth_taken}
use Rattle.xc_count.specs.inner.Worth.{says}
use Rattle.xc_count.proofs.HolderLemmas.{option_known}
use Rattle.xc_count.proofs.WorthLemmas.{sum_more}
use Rattle.xc_count.proofs.holding.split.Goals as goal

pub take-requires-clause-known : goal.take-requires-clause-known
take-requires-clause-known g c =
    let o = get_or c.args.options.now c.loop-k.k 0 in
    let there = contains-in c.args.options.now o
    (in-slice_get c.args.options.now c.loop-k.k o (slice_get-get_or c.args.options.now c.loop-k.k 0 (omega arith))) in
    (option_known c.args.problem.now.puzzle (get_or c.args.plan.now.order.items c.args.step.place 0) o
    (subst (λ os. Contains os o) c.requires.options there)).0

pub loop-k-preserved : goal.loop-k-preserved
loop-k-preserved g c =
    let s = says c.args.plan.now c.args.step.from c.args.state.now.key.items in
    record {
      left = λ h. sum_more (worth_taken h c.args.problem.now.puzzle s) c.loop-k.k c.args.state.now.worth _ _ _
          c.args.options.now (omega arith) (c.loop-k.invariant.left h) (c.in_ok-take.ensures.left h);
      others = c.in_ok-take.ensures.held c.loop-k.invariant.others;
      bound = c.take.ensures.bound ∙ c.loop-k.invariant.bound;
      same = c.ends_first.ensures ∙ c.loop-k.invariant.same;
    }

pub returns-clause-left : goal.returns-clause-left
returns-clause-left g c = λ h.
    let s = says c.args.plan.now c.args.step.from c.args.state.now.key.items in
    let f = worth_taken h c.args.problem.now.puzzle s in
    let end : sum_by f (drop c.loop-k.k c.args.options.now) ≡ 0 =
    ap (sum_by f) (drop_all c.loop-k.k c.args.options.now (omega arith)) in
    let none : c.args.state.now.worth * sum_by f (drop c.loop-k.k c.args.options.now) ≡ 0 = rw end (omega arith) in
    omega (arith, none, c.loop-k.invariant.left h)
