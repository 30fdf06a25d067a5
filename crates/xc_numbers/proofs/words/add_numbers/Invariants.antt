use Rattle.std.proofs.Common.{◌≡◌, ◌++◌, List, length}
use Rattle.std.specs.Prelude.{ℤ, All, option_map}
use Rattle.xc_input.specs.Tokens.{tokens}
use Rattle.xc_numbers.specs.SignedNumbers.{IsShort, all_signed}
use Rattle.xc_numbers.proofs.words.add_numbers.Given as goal

-- the numbers so far are those of the tokens before what is left
abbrev pub invariant-loop-token : goal.invariant-loop-token
invariant-loop-token l = record {
  read : (front : List ℤ) × (l.numbers.items ≡ l.fn.numbers.items ++ front)
      × (all_signed (tokens l.line) ≡ option_map (λ more. front ++ more) (all_signed (tokens l.rest)));
  short : All IsShort l.fn.numbers.items → All IsShort l.numbers.items;
}

abbrev pub decreases-loop-token : goal.decreases-loop-token
decreases-loop-token l = length l.rest
