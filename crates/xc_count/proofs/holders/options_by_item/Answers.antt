use Rattle.std.proofs.Common.{arith, ◌+◌, ◌∙◌}
use Rattle.std.proofs.lemmas.List.Elements.{recursion_from_All}
use Rattle.xc_input.specs.Problem.{IsSoundOption}
use Rattle.xc_input.proofs.LineLemmas.{at_number}
use Rattle.xc_count.proofs.HolderLemmas.{lists_begin, lists_step, lists_end}
use Rattle.xc_count.proofs.holders.options_by_item.Goals as goal

pub loop-o-init : goal.loop-o-init
loop-o-init c = record {
  lists = λ i item. lists_begin (λ z. z.items) c.args.problem.now.puzzle _ i (recursion_from_All _ _
      c.in_ok-lists.ensures.empty)
      item.0 (omega (arith, item.1, c.in_ok-lists.ensures.len, c.items.ensures.value));
  len = c.in_ok-lists.ensures.len ∙ c.items.ensures.value;
}

pub list_option-requires-clause-distinct : goal.list_option-requires-clause-distinct
list_option-requires-clause-distinct c =
    (at_number (IsSoundOption c.args.problem.now.puzzle) c.args.problem.now.puzzle.options (c.loop-o.o + 1)
    c.option.result.now c.option.ensures.whole.valid.options c.option.ensures.value).distinct

pub loop-o-preserved : goal.loop-o-preserved
loop-o-preserved c = record {
  lists = λ i item. lists_step c.args.problem.now.puzzle c.loop-o.o i c.option.result.now _ _ c.option.ensures.value
      (c.in_ok-list_option.ensures.lists i) (c.loop-o.invariant.lists i item);
  len = c.in_ok-list_option.ensures.len ∙ c.loop-o.invariant.len;
}

pub returns : goal.returns
returns c i item = lists_end c.args.problem.now.puzzle c.loop-o.o i _
    (let many = c.options-o-end.ensures.value in omega arith) (c.loop-o.invariant.lists i item)
