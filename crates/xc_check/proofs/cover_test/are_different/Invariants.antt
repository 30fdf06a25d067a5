use Rattle.std.proofs.Common.{◌≢◌, length}
use Rattle.xc_text.proofs.ListLemmas.{EachTwo}
use Rattle.xc_check.proofs.cover_test.are_different.Given as goal

-- those that are left are different exactly where all are
abbrev pub invariant-loop-first : goal.invariant-loop-first
invariant-loop-first l = record {
  all : EachTwo (λ a b. a ≢ b) l.rest → EachTwo (λ a b. a ≢ b) l.options;
  left : EachTwo (λ a b. a ≢ b) l.options → EachTwo (λ a b. a ≢ b) l.rest;
}

abbrev pub decreases-loop-first : goal.decreases-loop-first
decreases-loop-first l = length l.rest
