use Rattle.std.proofs.Common.{◌≡◌, IfSome, drop, take, map}
use Rattle.std.specs.Prelude.{All}
use Rattle.std.specs.Str.{IsUtf8}
use Rattle.xc_streams.proofs.arguments.read_words.Given as goal

-- the words before the place, but for the program's name
abbrev pub invariant-loop-place : goal.invariant-loop-place
invariant-loop-place g l = record {
  all : IfSome (g.A.Arguments.told l.arguments) (λ ws. map (λ w. w.items) l.words.items ≡ drop 1 (take l.place ws));
  utf8 : All (λ w. IsUtf8 w.items) l.words.items;
}
