use Rattle.xc_none.proofs.HolderLemmas.{rising_more}
use Rattle.std.proofs.Common.{arith}
use Rattle.xc_none.proofs.holders.are_rising.Goals as goal

pub loop-k-preserved : goal.loop-k-preserved
loop-k-preserved c =
    rising_more c.args.options.now c.loop-k.k (omega arith) c.loop-k.invariant (omega arith)

pub returns : goal.returns
returns c = λ yes i j l m. c.loop-k.invariant i j l (omega arith)
