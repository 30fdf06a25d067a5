use Rattle.std.proofs.Common.{arith}
use Rattle.xc_list.proofs.TextDigests.{byte_held, byte_filled}
use Rattle.xc_list.proofs.text_digest.TextDigest.after_byte.Goals as goal

pub returns-then-self-lt7 : goal.returns-then-self-lt7
returns-then-self-lt7 c = byte_held c.args.self c.args.byte _ c.from.ensures c.if-self-lt7.true c.ranges.byte.fits

pub returns : goal.returns
returns c = byte_filled c.args.self c.args.byte _ _ c.from.ensures (omega (arith, c.if-self-lt7.false))
    c.ranges.byte.fits c.taken.ensures
