use Rattle.std.proofs.Common.{◌≡◌, None, All}
use Rattle.xc_check.proofs.checker.seen_lines.SeenLines.new.Given as goal

abbrev pub invariant-loop : goal.invariant-loop
invariant-loop l = All (λ x. x.class ≡ None) l.lines.items
