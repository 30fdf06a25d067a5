use Rattle.std.proofs.Common.{◌≡◌}
use Rattle.xc_text.specs.Sources.{Gave}
use Rattle.xc_text.proofs.whole_text.read_text.Given as goal

-- what was read so far is kept, and no read failed
abbrev pub invariant-reading : goal.invariant-reading
invariant-reading g l =
    ((g.S.Source.state l.source).failures ≡ (g.S.Source.state l.fn.source).failures)
    × Gave (g.S.Source.state l.fn.source) (g.S.Source.state l.source) l.text.items

abbrev pub decreases-reading : goal.decreases-reading
decreases-reading g l = (g.S.Source.state l.source).limit
