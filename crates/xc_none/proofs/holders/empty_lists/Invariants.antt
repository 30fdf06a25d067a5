use Rattle.std.proofs.Common.{◌≡◌, []}
use Rattle.std.specs.Prelude.{All}
use Rattle.xc_none.proofs.holders.empty_lists.Given as goal

abbrev pub invariant-loop : goal.invariant-loop
invariant-loop l = All (λ z. z.items ≡ []) l.lists.items
