use Rattle.std.proofs.Common.{w64}
use Rattle.std.proofs.lemmas.Nat.{and_le_l}
use Rattle.std.proofs.lemmas.Nat.Bits.{bit_at_clear_same, bit_at_clear_other}
use Rattle.xc_words.proofs.FewestLemmas.{less_of}
use Rattle.xc_words.proofs.bounded.without.Goals as goal

pub returns-clause-without : goal.returns-clause-without
returns-clause-without c = (
  bit_at_clear_same w64 c.args.set c.args.x c.requires,
  λ y l d. bit_at_clear_other w64 c.args.set c.args.x c.requires y l d,
)

pub returns-clause-less : goal.returns-clause-less
returns-clause-less c = λ b.
    less_of _ c.args.set c.args.x (and_le_l _ _) (bit_at_clear_same w64 c.args.set c.args.x c.requires) b
