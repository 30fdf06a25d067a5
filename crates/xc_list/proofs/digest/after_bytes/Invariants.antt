use Rattle.std.proofs.Common.{◌≡◌, [], ◌∷◌, length, take}
use Rattle.std.specs.Prelude.{flat_map}
use Rattle.xc_text.specs.Hashing.{taken}
use Rattle.xc_list.specs.Digests.{digest_after}
use Rattle.xc_list.specs.inner.Writing.{digest_multiplier}
use Rattle.xc_list.proofs.digest.after_bytes.Given as goal

-- the state after those so far
abbrev pub invariant-loop-byte : goal.invariant-loop-byte
invariant-loop-byte l = l.reached ≡ digest_after (taken digest_multiplier l.state (length l.bytes))
    (flat_map (λ byte. byte ∷ []) (take l.byte-index l.bytes))
