use Rattle.std.proofs.Common.{[], ◌∷◌, ◌++◌}
use Rattle.xc_text.proofs.given.Given.after.Given as goal

abbrev pub ghost-of : goal.ghost-of
ghost-of a = a._from.now.0.now.lines ++ a._from.now.1.now ∷ []
