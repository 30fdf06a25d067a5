use Rattle.std.proofs.Common.{ℕ, ◌≡◌, ◌-◌, ◌^◌, min, length}
use Rattle.xc_text.specs.Lines.{lines_of}
use Rattle.xc_check.specs.inner.Checking.{IsProgress}
use Rattle.xc_check.proofs.checker.Checker.take_lines.Given as goal

abbrev pub invariant-loop-rest : goal.invariant-loop-rest
invariant-loop-rest l = record {
  options : l.self.options ≡ l.fn.self.options;
  done : ℕ;
  count : l.lines ≡ min done (2 ^ 64 - 1);
  progress : IsProgress (lines_of l.listing) done (lines_of l.rest) l.self;
}

abbrev pub decreases-loop-rest : goal.decreases-loop-rest
decreases-loop-rest l = length l.rest
