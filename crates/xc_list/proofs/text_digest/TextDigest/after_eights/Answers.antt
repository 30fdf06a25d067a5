use Rattle.std.proofs.Common.{◌∙◌}
use Rattle.xc_list.proofs.TextDigests.{eights_on}
use Rattle.xc_list.proofs.text_digest.TextDigest.after_eights.Goals as goal

pub loop-left-preserved : goal.loop-left-preserved
loop-left-preserved c =
    eights_on _ _ _ c.loop-left.left.now c.in-len8-up.len_at_least c.from_le_bytes.ensures c.taken-state.ensures
    ∙ c.loop-left.invariant
