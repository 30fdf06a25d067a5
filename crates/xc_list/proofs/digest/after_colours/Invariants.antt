use Rattle.std.proofs.Common.{◌≡◌, length, take}
use Rattle.std.specs.Prelude.{flat_map}
use Rattle.xc_text.specs.Hashing.{taken}
use Rattle.xc_list.specs.Digests.{digest_after}
use Rattle.xc_list.specs.inner.Writing.{bytes_numbers, digest_multiplier}
use Rattle.xc_list.proofs.digest.after_colours.Given as goal

-- the state after those so far
abbrev pub invariant-loop-c : goal.invariant-loop-c
invariant-loop-c l = l.reached ≡ digest_after (taken digest_multiplier l.state (length l.problem.colours))
    (flat_map bytes_numbers (take l.c l.problem.colours))
