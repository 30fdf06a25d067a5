use Rattle.std.proofs.Common.{◌≡◌, length}
use Rattle.xc_count.specs.inner.ByOption.{AreOnce}
use Rattle.xc_count.proofs.options.push_each.Given as goal

abbrev pub invariant-loop-o : goal.invariant-loop-o
invariant-loop-o l = record {
  once : AreOnce l.order.items l.seen.items;
  len : length l.seen.items ≡ length l.initial.seen.items;
}
