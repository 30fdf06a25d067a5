use Rattle.std.proofs.Common.{◌≡◌, length}
use Rattle.xc_list.specs.Digests.{after_text}
use Rattle.xc_list.proofs.TextDigests.{whole}
use Rattle.xc_list.proofs.text_digest.TextDigest.after_eights.Given as goal

-- what is left makes the same of the digest so far
abbrev pub invariant-loop-left : goal.invariant-loop-left
invariant-loop-left l = after_text (whole l.state) l.left ≡ after_text l.fn.self l.bytes

abbrev pub decreases-loop-left : goal.decreases-loop-left
decreases-loop-left l = length l.left
