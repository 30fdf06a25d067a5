use Rattle.std.proofs.Common.{ℕ, ◌≡◌, ◌≤◌, ◌-◌, true, Some}
use Rattle.xc_search.specs.inner.Levels.{IsEarlyChoice}
use Rattle.xc_search.specs.inner.Ahead.{branched, Pays}
use Rattle.xc_search.proofs.LoopSteps.{with_begun}
use Rattle.xc_search.proofs.SpanHalts.{Stepped}
use Rattle.xc_search.proofs.levels.deepen.Given as goal

abbrev pub invariant-loop-level : goal.invariant-loop-level
invariant-loop-level g l = record {
  step : Stepped l.fn.position l.fn.stack l.item l.count l.position l.level;
  some : 1 ≤ l.level.begun;
  within : l.level.begun ≤ l.first;
  pays : l.level.begun ≡ 1 → IsEarlyChoice l.fn.position.puzzle l.fn.position.trail (Some (l.item, l.count)) →
      (m : ℕ) → Pays l.fn.position l.fn.stack true m (branched l.position l.item l.level.place)
      (with_begun l.level l.fn.stack) true m;
}

abbrev pub decreases-loop-level : goal.decreases-loop-level
decreases-loop-level g l = l.first - l.level.begun
