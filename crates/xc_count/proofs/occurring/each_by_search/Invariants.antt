use Rattle.std.proofs.Common.{ℕ, ◌≡◌, ◌≤◌, ◌+◌, ◌-◌, length, get_or}
use Rattle.std.specs.Prelude.{All, IfSome, count_by}
use Rattle.xc_input.specs.Problem.{option_count}
use Rattle.xc_input.specs.Cover.{IsCover}
use Rattle.xc_search.specs.Cover.{members, options_of}
use Rattle.xc_search.specs.InSpan.{left_of}
use Rattle.xc_search.specs.Listing.{whole}
use Rattle.xc_search.specs.Nodes.{IsRowOf}
use Rattle.xc_count.specs.Occurrences.{occurrences_of, takes}
use Rattle.xc_count.proofs.occurring.each_by_search.Given as goal

abbrev pub invariant-loop-covers : goal.invariant-loop-covers
invariant-loop-covers l = record {
  number : l.covers + length (left_of l.span) ≡ length (members l.fn.problem.puzzle);
  same : l.span.puzzle ≡ l.fn.problem.puzzle;
  node : IfSome l.span.row (λ row. IsRowOf (whole l.span.puzzle) row);
  counted : (o : ℕ) → 1 ≤ o → get_or l.times.items (o - 1) 0 + count_by (takes o) (left_of l.span)
      ≡ occurrences_of l.fn.problem.puzzle o;
  covers : All (λ m. IsCover l.fn.problem.puzzle (options_of m)) (left_of l.span);
  len : length l.times.items ≡ option_count l.fn.problem.puzzle;
}

abbrev pub decreases-loop-covers : goal.decreases-loop-covers
decreases-loop-covers l = length (left_of l.span)
