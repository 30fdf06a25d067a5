use Rattle.std.proofs.Common.{ℕ, ◌≡◌, ◌++◌, length, map, Some}
use Rattle.std.specs.Prelude.{option_map}
use Rattle.xc_input.specs.Problem.{numbered_get, item_count, IsItem}
use Rattle.xc_count.specs.inner.Plans.{options_with}
use Rattle.xc_count.proofs.HolderLemmas.{options_from}
use Rattle.xc_count.proofs.holders.options_by_item.Given as goal

abbrev pub invariant-loop-o : goal.invariant-loop-o
invariant-loop-o l = record {
  lists : (i : ℕ) → IsItem l.problem.puzzle i
      → option_map (λ z. z ++ options_from l.problem.puzzle l.o i) (numbered_get (map (λ z. z.items) l.lists.items) i)
      ≡ Some (options_with l.problem.puzzle i);
  len : length l.lists.items ≡ item_count l.problem.puzzle;
}
