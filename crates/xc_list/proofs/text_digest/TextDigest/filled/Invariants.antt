use Rattle.std.proofs.Common.{◌≡◌, length}
use Rattle.xc_list.specs.Digests.{after_text}
use Rattle.xc_list.proofs.text_digest.TextDigest.filled.Given as goal

-- what is left makes the same of the digest so far
abbrev pub invariant-loop-digest : goal.invariant-loop-digest
invariant-loop-digest l = after_text l.digest l.left ≡ after_text l.fn.self l.bytes

abbrev pub decreases-loop-digest : goal.decreases-loop-digest
decreases-loop-digest l = length l.left
