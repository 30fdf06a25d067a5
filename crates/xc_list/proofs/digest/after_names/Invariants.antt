use Rattle.std.proofs.Common.{◌≡◌, length, take}
use Rattle.std.specs.Prelude.{flat_map}
use Rattle.xc_text.specs.Hashing.{taken}
use Rattle.xc_list.specs.Digests.{digest_after}
use Rattle.xc_list.specs.inner.Writing.{bytes_numbers, digest_multiplier}
use Rattle.xc_list.proofs.digest.after_names.Given as goal

-- the state after those so far
abbrev pub invariant-loop-item : goal.invariant-loop-item
invariant-loop-item l = l.reached ≡ digest_after (taken digest_multiplier l.state (length l.items))
    (flat_map (λ x. bytes_numbers x.name.items) (take l.item-index l.items))
