use Rattle.std.specs.Prelude.{All}
use Rattle.xc_none.specs.Meanings.{IsLiteralOf}
use Rattle.xc_none.proofs.ClaimLemmas.{SaysFirst}
use Rattle.xc_none.proofs.claim.add_clause.Given as goal

abbrev pub invariant-loop-claim : goal.invariant-loop-claim
invariant-loop-claim l = record {
  says : SaysFirst l.meanings l.claims l.claim-index l.clause.items;
  known : All (IsLiteralOf l.meanings) l.clause.items;
}
