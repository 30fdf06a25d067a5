use Rattle.std.proofs.Common.{◌≡◌, [], ◌∷◌, length, take}
use Rattle.std.specs.Prelude.{flat_map}
use Rattle.xc_text.specs.Hashing.{taken}
use Rattle.xc_list.specs.Digests.{digest_after}
use Rattle.xc_list.specs.inner.Writing.{use_number, digest_multiplier}
use Rattle.xc_list.proofs.digest.after_uses.Given as goal

-- the state after those so far
abbrev pub invariant-loop-u : goal.invariant-loop-u
invariant-loop-u l = l.reached ≡ digest_after (taken digest_multiplier l.state (length l.uses))
    (flat_map (λ u. use_number u ∷ []) (take l.u-index l.uses))
