use Rattle.std.proofs.lemmas.Bool.Decides.{nat_tests}
use Rattle.std.proofs.Common.{arith}
use Rattle.xc_check.proofs.CheckLemmas.{found-at}
use Rattle.xc_check.proofs.checker.seen_lines.SeenLines.class_of.Goals as goal

pub returns-then-eq : goal.returns-then-eq
returns-then-eq c =
    let found = found-at c.deref.result.now _ _ c.args.line.now _ c.in_ok-seen.ensures.lookup.3.0
    (c.in_ok-seen.ensures.lookup.3.1 c.in_ok-seen.seen.now) (grind arith) c.as_slice.ensures.value in
    grind (arith, nat_tests, c.deref.ensures.value)
