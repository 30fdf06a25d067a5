use Rattle.std.proofs.Common.{◌<◌, ◌≤◌, ◌^◌, length, All}
use Rattle.xc_input.proofs.guess.places_of.Given as goal

abbrev pub invariant-loop-i : goal.invariant-loop-i
invariant-loop-i l = record {
  within : All (λ at. at < length l.names.keys) l.places.items;
  few : length l.places.items ≤ 2 ^ 18;
}
