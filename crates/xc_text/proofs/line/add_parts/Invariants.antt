use Rattle.std.proofs.Common.{◌≡◌, ◌++◌, take}
use Rattle.std.specs.Prelude.{flat_map}
use Rattle.xc_text.proofs.line.add_parts.Given as goal

-- the parts so far stand behind what the line had
abbrev pub invariant-loop-part : goal.invariant-loop-part
invariant-loop-part l = l.line.items ≡ l.fn.line.items ++ flat_map (λ part. part.now) (take l.part-index l.parts)
