use Rattle.std.proofs.Common.{w64, ap, ◌∙◌, min}
use Rattle.std.specs.Int.{bit_at, bit_not}
use Rattle.std.proofs.lemmas.Nat.Bits.{bit_at_and, bit_at_not}
use Rattle.xc_words.proofs.bounded.minus.Goals as goal

pub returns : goal.returns
returns c = λ y l.
    bit_at_and c.args.a (bit_not w64 c.args.b) y
    ∙ ap (min (bit_at c.args.a y)) (bit_at_not w64 c.args.b y c.ranges.b.fits l)
