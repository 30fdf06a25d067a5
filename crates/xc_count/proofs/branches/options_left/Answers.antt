-- The invariant: `many`, and how many of the options from k on agree with the key, are together all that agree. A step
-- takes one option more by the test (`agree_step`), and no more than k were counted, so the sum doesn't wrap. At the
-- end none is left, and those that agree are those that hold the item (`options_that_fit`).
use Rattle.std.proofs.Common.{◌≡◌, ◌≤◌, true, false, [], arith, ap, ap₂, ◌∙◌, length, subst, sym, drop, get_or}
use Rattle.std.specs.Prelude.{Contains, unwrap_or}
use Rattle.std.proofs.lemmas.List.{drop_all}
use Rattle.std.proofs.lemmas.Option.{slice_get-get_or}
use Rattle.xc_input.specs.Problem.{option_count, uses_of}
use Rattle.xc_text.proofs.ListLemmas.{contains-in, in-slice_get}
use Rattle.xc_count.specs.inner.Held.{agree}
use Rattle.xc_count.specs.inner.Keys.{held_in}
use Rattle.xc_count.specs.inner.Worth.{says}
use Rattle.xc_count.proofs.ByNumber.{agree_step, few_options, options_that_fit, that_agree}
use Rattle.xc_count.proofs.HolderLemmas.{option_known}
use Rattle.xc_count.proofs.branches.options_left.Goals as goal
use Rattle.xc_count.proofs.branches.options_left.Goals.{then-do_agree, else-do_agree}

pub option-requires : goal.option-requires
option-requires c =
    let os = c.options_of-options.result.now in
    let o = get_or os c.loop-k.k 0 in
    let there = contains-in os o (in-slice_get os c.loop-k.k o (slice_get-get_or os c.loop-k.k 0 (omega arith))) in
    record {
      known = (option_known c.args.problem.now.puzzle c.args.item o
          (subst (λ xs. Contains xs o) (c.options_of-options.ensures
          c.args.problem.now.puzzle c.requires.plan c.requires.item) there)).0;
    }

pub overflow_add-many : goal.overflow_add-many
overflow_add-many c =
    let few : length c.options_of-options.result.now ≤ option_count c.args.problem.now.puzzle =
    subst (λ xs. length xs ≤ option_count c.args.problem.now.puzzle) (sym (c.options_of-options.ensures
    c.args.problem.now.puzzle c.requires.plan c.requires.item))
    (few_options c.args.problem.now.puzzle c.args.item) in
    omega (arith, few, c.loop-k.invariant.few, c.option.ensures.whole.limits.options)

pub loop-k-init : goal.loop-k-init
loop-k-init c = record { many = omega arith; few = omega arith }

pub loop-k-preserved : goal.loop-k-preserved
loop-k-preserved c =
    let p = c.args.problem.now.puzzle in
    let s = says c.args.plan.now 0 c.args.key.now in
    let os = c.options_of-options.result.now in
    let o = get_or os c.loop-k.k 0 in
    let uses : uses_of p o ≡ c.option.result.now = ap (λ z. unwrap_or z []) c.option.ensures.value in
    let test : c.do_agree.result ≡ agree s (uses_of p o) = c.do_agree.ensures
    ∙ ap₂ (λ r us. agree (held_in r 0 c.args.key.now) us) c.as_slice-ranks.ensures.value (sym uses) in
    let step = agree_step p s os c.loop-k.k (omega arith) in
    elim c.if-do_agree.branch [
      | then-do_agree w ↦
          let one : agree s (uses_of p o) ≡ true = sym test ∙ w.if-do_agree.true in
          record {
            many = omega (arith, w.many-is, rw one at step, c.loop-k.invariant.many);
            few = omega (arith, w.many-is, c.loop-k.invariant.few);
          }
      | else-do_agree w ↦
          let none : agree s (uses_of p o) ≡ false = sym test ∙ w.if-do_agree.false in
          record {
            many = omega (arith, w.many-is, rw none at step, c.loop-k.invariant.many);
            few = omega (arith, w.many-is, c.loop-k.invariant.few);
          }
    ]

pub returns : goal.returns
returns c =
    let p = c.args.problem.now.puzzle in
    let s = says c.args.plan.now 0 c.args.key.now in
    let os = c.options_of-options.result.now in
    let none : length (that_agree p s (drop c.loop-k.k os)) ≡ 0 =
    ap (λ xs. length (that_agree p s xs)) (drop_all c.loop-k.k os (omega arith)) in
    let all = ap (λ xs. length (that_agree p s xs)) (c.options_of-options.ensures
    c.args.problem.now.puzzle c.requires.plan c.requires.item) in
    omega (arith, none, all, c.loop-k.invariant.many, options_that_fit p s c.args.item)
