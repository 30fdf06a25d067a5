use Rattle.std.proofs.Common.{◌≡◌, ◌<◌, ◌^◌, drop}
use Rattle.xc_text.proofs.NumberLemmas.{digits_in}
use Rattle.xc_text.proofs.digits.long_number.Given as goal

-- the digits so far have this value
abbrev pub invariant-loop-b : goal.invariant-loop-b
invariant-loop-b l = record {
  same : digits_in 0 l.bytes ≡ digits_in l.value (drop l.b-index l.bytes);
  fits : l.value < 2 ^ 64;
}
