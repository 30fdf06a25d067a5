use Rattle.std.proofs.Common.{◌≡◌, ◌≤◌, ◌-◌, drop, length}
use Rattle.std.specs.Prelude.{fold}
use Rattle.xc_text.specs.Hashing.{hashed}
use Rattle.xc_count.specs.inner.Layers.{key_words}
use Rattle.xc_count.proofs.layer.hash_of.Given as goal

abbrev pub invariant-loop-place : goal.invariant-loop-place
invariant-loop-place l = record {
  within : l.place ≤ length l.key;
  multiplier : l.hasher.multiplier ≡ l.fn.seed.multiplier;
  state : fold (hashed l.fn.seed.multiplier) l.hasher.state (key_words (drop l.place l.key))
      ≡ fold (hashed l.fn.seed.multiplier) l.fn.seed.state (key_words l.key);
}

abbrev pub decreases-loop-place : goal.decreases-loop-place
decreases-loop-place l = length l.key - l.place
