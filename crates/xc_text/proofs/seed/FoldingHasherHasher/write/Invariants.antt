use Rattle.std.specs.Prelude.{◌≡◌, take, fold}
use Rattle.xc_text.specs.Hashing.{taken}
use Rattle.xc_text.proofs.seed.FoldingHasherHasher.write.Given as goal

abbrev pub invariant-loop-byte : goal.invariant-loop-byte
invariant-loop-byte l = (l.self.multiplier ≡ l.initial.self.multiplier)
    × (l.self.state ≡ fold (taken l.initial.self.multiplier) l.initial.self.state (take l.byte-index l.bytes))
