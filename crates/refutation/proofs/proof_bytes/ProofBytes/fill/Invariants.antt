use Rattle.std.proofs.Common.{◌≡◌, ◌<◌, ◌≤◌, length}
use Rattle.refutation.proofs.proof_bytes.ProofBytes.fill.Given as goal

abbrev pub invariant-loop : goal.invariant-loop
invariant-loop g l = record {
  no_failure : (g.S.Source.state l.source).failures ≡ (g.S.Source.state l.fn.source).failures;
  some : 0 < length l.self-inside.store.items;
  ordered : l.self-inside.at ≤ l.self-inside.to;
  within : l.self-inside.to ≤ length l.self-inside.store.items;
}
