use Rattle.std.proofs.Common.{◌≡◌, length, take}
use Rattle.std.specs.Prelude.{flat_map}
use Rattle.xc_text.specs.Hashing.{taken}
use Rattle.xc_list.specs.Digests.{digest_after}
use Rattle.xc_list.specs.inner.Writing.{uses_numbers, digest_multiplier}
use Rattle.xc_list.proofs.digest.after_options.Given as goal

-- the state after those so far
abbrev pub invariant-loop-o : goal.invariant-loop-o
invariant-loop-o l = l.reached ≡ digest_after (taken digest_multiplier l.state (length l.problem.puzzle.options))
    (flat_map uses_numbers (take l.o l.problem.puzzle.options))
