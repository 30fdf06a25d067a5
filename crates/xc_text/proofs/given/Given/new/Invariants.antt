use Rattle.std.proofs.Common.{[]}
use Rattle.xc_text.proofs.given.Given.new.Given as goal

abbrev pub ghost-of : goal.ghost-of
ghost-of a = []
