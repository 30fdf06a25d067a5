use Rattle.std.proofs.Common.{◌≡◌, drop}
use Rattle.std.specs.List.{list_all}
use Rattle.xc_tools.proofs.judging.judged_status.Given as goal

-- those so far say nothing
abbrev pub invariant-loop-verdict : goal.invariant-loop-verdict
invariant-loop-verdict l =
    list_all (λ v. v.cover) (drop l.verdict-index l.verdicts) ≡ list_all (λ v. v.cover) l.verdicts
