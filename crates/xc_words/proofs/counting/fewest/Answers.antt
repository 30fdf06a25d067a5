use Rattle.std.proofs.Common.{arith, w64, refl}
use Rattle.std.proofs.lemmas.Nat.Bits.{bit_at-trailing_zeros}
use Rattle.xc_words.proofs.BitLemmas.{from_without}
use Rattle.xc_words.proofs.counting.fewest.Goals as goal

pub loop-rest-init : goal.loop-rest-init
loop-rest-init c =
    let t = bit_at-trailing_zeros w64 c.args.items c.requires.some c.ranges.items.fits in
    ((_, t.0, t.1, refl), λ i h. from_without _ _ i h)

pub loop-rest-preserved-then-n-least : goal.loop-rest-preserved-then-n-least
loop-rest-preserved-then-n-least c =
    let t = bit_at-trailing_zeros w64 c.loop-rest.rest (omega (arith, c.loop-rest-test.true))
    (omega (arith, c.loop-rest.auto.rest-fits)) in
    ((_, t.0, c.loop-rest.invariant.1 _ t.1, refl), λ i h. c.loop-rest.invariant.1 i (from_without _ _ i h))

pub loop-rest-preserved : goal.loop-rest-preserved
loop-rest-preserved c =
    (c.loop-rest.invariant.0, λ i h. c.loop-rest.invariant.1 i (from_without _ _ i h))
