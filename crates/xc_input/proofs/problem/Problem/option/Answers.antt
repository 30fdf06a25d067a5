use Rattle.std.proofs.Common.{arith, ◌≡◌, ◌≤◌, Some, ap, length, subst}
use Rattle.std.specs.Prelude.{All, slice_range}
use Rattle.xc_input.specs.Problem.{option_count, numbered_get}
use Rattle.xc_input.specs.inner.Stored.{pieces, key_names}
use Rattle.xc_input.specs.Named.{Named, IsKnownUse}
use Rattle.xc_input.proofs.TokenLemmas.{length-pieces, option_part}
use Rattle.xc_input.proofs.LineLemmas.{known_option}
use Rattle.xc_input.proofs.problem.Problem.option.Goals.{After-deref}
use Rattle.xc_input.proofs.problem.Problem.option.Goals as goal

pub index-requires : goal.index-requires
index-requires c = grind (arith, length-pieces)

pub index-requires-2 : goal.index-requires-2
index-requires-2 c = grind (arith, length-pieces)

-- the option's uses, between its start and the next
part : (c : After-deref) → (let us = c.deref.result.now in let a = c.index.result.now in let b = c.index-2.result.now in
    (a ≤ b) × (b ≤ length us)
    × (numbered_get (pieces c.self.inside.starts.items c.self.inside.uses.items) c.args.o ≡ Some
    (slice_range us a b)))
part c =
    let starts = c.self.inside.starts.items in
    let count = ap (λ (v : Named). option_count v.puzzle) c.self.view_is in
    let r =
    option_part starts c.self.inside.uses.items c.args.o _ _ c.self.invariant.starts.1 c.requires.known.0
    (omega (arith, length-pieces starts c.self.inside.uses.items c.self.invariant.starts.1, count, c.requires.known.1))
    c.index.ensures c.index-2.ensures in
    grind arith

pub slice_bounds-result-count : goal.slice_bounds-result-count
slice_bounds-result-count c = (part (goal.at.slice_bounds-result-count c).After-deref).0

pub slice_bounds-result-start : goal.slice_bounds-result-start
slice_bounds-result-start c = (part (goal.at.slice_bounds-result-start c).After-deref).0

pub slice_bounds-result-end : goal.slice_bounds-result-end
slice_bounds-result-end c = grind (arith, part)

pub returns-clause-value : goal.returns-clause-value
returns-clause-value c = grind (arith, part)

pub returns-clause-known : goal.returns-clause-known
returns-clause-known c =
    subst (λ (v : Named). All (IsKnownUse v) (slice_range c.deref.result.now c.index.result.now c.index-2.result.now))
    c.self.view_is (known_option _ (key_names c.self.inside.colours.keys) c.args.o _ c.self.invariant.sound.valid
    c.self.invariant.sound.coloured (part (goal.at.returns-clause-known c).After-deref).2)
