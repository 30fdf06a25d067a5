use Rattle.std.proofs.Common.{◌≡◌, arith}
use Rattle.xc_input.specs.Problem.{option_count}
use Rattle.xc_check.proofs.CheckLemmas.{classes-whole}
use Rattle.xc_check.proofs.checker.option_index.OptionIndex.new.Goals as goal

pub invariant_of-result : goal.invariant_of-result
invariant_of-result c =
    let p = c.args.problem.now in
    let all : c.loop-o.o ≡ option_count p.puzzle =
    omega (arith, c.loop-o-test.false, c.loop-o.auto.o-end, c.options-o-end.ensures.value) in
    grind arith

pub returns-clause-indexed : goal.returns-clause-indexed
returns-clause-indexed c =
    let i = invariant_of-result c in
    record {
      sound = i.index.sound;
      classes = classes-whole _ _ _ i.index.complete;
    }
