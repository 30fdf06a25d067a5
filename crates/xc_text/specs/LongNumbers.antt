-- Numbers below 2^64 by their digits.
-- Public contracts rest on this file: readers must believe it.
use Rattle.std.specs.Prelude.{ℕ, ◌^◌, ◌&&◌, nat_lt, List, [], Option, Some, None, if◌then◌else◌}
use Rattle.std.specs.Char.{is_ascii_digit}
use Rattle.std.specs.List.{list_all}
use Rattle.xc_text.specs.Words.{number}

-- the number that one or more digits stand for, where it fits
abbrev pub long_number : List ℕ → Option ℕ
long_number [] = None
long_number bs = if list_all is_ascii_digit bs && nat_lt (number bs) (2 ^ 64) then Some (number bs) else None
