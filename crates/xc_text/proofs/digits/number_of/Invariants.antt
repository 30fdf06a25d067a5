use Rattle.std.proofs.Common.{◌≡◌, ◌<◌, ◌^◌, drop}
use Rattle.std.specs.Char.{is_ascii_digit}
use Rattle.xc_text.proofs.NumberLemmas.{value_from}
use Rattle.std.specs.List.{list_all}
use Rattle.xc_text.proofs.digits.number_of.Given as goal

abbrev pub invariant-loop-b : goal.invariant-loop-b
invariant-loop-b l = (value_from 0 l.text ≡ value_from l.n (drop l.b-index l.text))
    × (list_all is_ascii_digit l.text ≡ list_all is_ascii_digit (drop l.b-index l.text)) × (l.n < 10 ^ l.b-index)
