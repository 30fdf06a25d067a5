use Rattle.std.proofs.Common.{arith}
use Rattle.std.proofs.Common.{sym}
use Rattle.std.proofs.lemmas.Bool.{not-true, not-false}
use Rattle.xc_input.proofs.LineLemmas.{refuses, no-items, unstarted, accepts, alone, is-sound, readable}
use Rattle.xc_input.proofs.reader.Reader.finish.Goals as goal

pub returns-in-Some-clause-refused : goal.returns-in-Some-clause-refused
returns-in-Some-clause-refused c = refuses (sym c.self.view_is) c.self.invariant.1 c.in-Some.e c.in-Some.is

pub returns-then-not-builder-clause-refused : goal.returns-then-not-builder-clause-refused
returns-then-not-builder-clause-refused c =
    λ u. unstarted (sym c.self.view_is) c.self.invariant.1 c.in_default.is _ c.self.invariant.2
    (not-true _ c.if-not-builder.true)

pub returns-then-not-builder-clause-first : goal.returns-then-not-builder-clause-first
returns-then-not-builder-clause-first c =
    no-items (sym c.self.view_is) c.self.invariant.1 c.in_default.is _ c.self.invariant.2
    (not-true _ c.if-not-builder.true) _ _ c.self.invariant.0 c.saturating_add.ensures

pub finish-requires : goal.finish-requires
finish-requires c =
    readable (sym c.self.view_is) c.self.invariant.1 c.in_default.is _ c.self.invariant.2
    (not-false _ c.if-not-builder.false) c.self.invariant.3

pub returns-clause-accepted : goal.returns-clause-accepted
returns-clause-accepted c =
    rw (c.finish.ensures.problem, c.finish.ensures.ignored) (accepts (sym c.self.view_is) c.self.invariant.1
    c.in_default.is _ c.self.invariant.2 (not-false _ c.if-not-builder.false))

pub returns-clause-only : goal.returns-clause-only
returns-clause-only c =
    rw (c.finish.ensures.problem, c.finish.ensures.ignored) (alone (sym c.self.view_is) c.self.invariant.1
    c.in_default.is _ c.self.invariant.2)

pub returns-clause-valid : goal.returns-clause-valid
returns-clause-valid c = grind (arith, is-sound, not-false)
