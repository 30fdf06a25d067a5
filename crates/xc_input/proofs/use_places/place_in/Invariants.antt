use Rattle.std.proofs.Common.{◌≡◌, ◌+◌, ◌≤◌, drop, length}
use Rattle.xc_input.specs.UsePlaces.{place_in}
use Rattle.xc_input.proofs.use_places.place_in.Given as goal

abbrev pub invariant-loop-place : goal.invariant-loop-place
invariant-loop-place l = record {
  found : place_in l.item l.uses ≡ l.place + place_in l.item (drop l.place l.uses);
  within : l.place ≤ length l.uses;
}
