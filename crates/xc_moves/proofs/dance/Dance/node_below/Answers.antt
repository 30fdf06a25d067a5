-- By cases of the place: at the item's own node the first option of its list is next (`next_of_own`), at an option's
-- node the one above its number (`next_of_option`). `next_is` puts both in one sentence, the list's first number above
-- x; the answers below it turn that number into a place (`node_place`), or into the item's own node where there is
-- none.
use Rattle.std.proofs.Common.{arith, ◌≡◌, ℕ, ◌∙◌}
use Rattle.std.specs.Prelude.{Contains}
use Rattle.xc_moves.specs.Moves.{next_above}
use Rattle.xc_moves.specs.Commits.{IsListedAt, IsUseAt}
use Rattle.xc_moves.proofs.PlaceAnswers.{list_of, next_of_own, option_use, next_of_option, next_use, place_tells}
use Rattle.xc_moves.proofs.dance.Dance.node_below.Goals.{Else-place-items, Joined-place-items}
use Rattle.xc_moves.proofs.dance.Dance.node_below.Goals.{then-place-items, else-place-items}
use Rattle.xc_moves.proofs.dance.Dance.node_below.Goals as goal

-- ---- at an option's place

use_there : (g : _) (c : Else-place-items g) →
    Contains (list_of (g.Self.Dance.state c.args.self.now) c.args.i) c.requires.place.0
    × IsUseAt c.args.problem.now.puzzle c.args.i c.requires.place.0 c.args.place
use_there g c =
    option_use (g.Self.Dance.state c.args.self.now) c.args.problem.now c.args.i _ c.args.place c.items.result
    c.requires.same c.items.ensures.whole c.items.ensures.value c.requires.item c.requires.place.1
    c.if-place-items.false

pub number_at-requires : goal.number_at-requires
number_at-requires g c = (c.args.i, c.requires.place.0, (use_there g c).1)

pub below-next-requires-clause-listed : goal.below-next-requires-clause-listed
below-next-requires-clause-listed g c =
    grind (arith, use_there g (goal.at.below-next-requires-clause-listed g c).Else-place-items)

-- ---- what is next

next_is : (g : _) (c : Joined-place-items g) (x : ℕ) →
    (let s = g.Self.Dance.state c.args.self.now in IsListedAt s.puzzle s.trail c.args.i x c.args.place) →
    next_above x (list_of (g.Self.Dance.state c.args.self.now) c.args.i) ≡ c.if-place-items.next
next_is g c x at =
    let s = g.Self.Dance.state c.args.self.now in
    let items = c.items.ensures in
    elim c.if-place-items.branch [
      | then-place-items w ↦ next_of_own s c.args.problem.now _ _ _ _ _ c.requires.same items.value at
          w.if-place-items.true (w.next-is ∙ w.first-next.ensures)
      | else-place-items w ↦ next_of_option s _ _ _ _ _ _ _ c.requires.same items.whole items.value
          c.requires.item at w.if-place-items.false w.number_at.ensures (w.next-is ∙ w.below-next.ensures)
    ]

pub node_place-requires : goal.node_place-requires
node_place-requires g c =
    let l = c.requires.place in
    let u = next_use (g.Self.Dance.state c.args.self.now) c.args.problem.now c.args.i l.0 c.in-Some.o c.requires.same
    c.items.ensures.whole (next_is g (goal.at.node_place-requires g c).Joined-place-items l.0 l.1 ∙ c.in-Some.is) in
    grind arith

pub returns-in-Some-clause-place : goal.returns-in-Some-clause-place
returns-in-Some-clause-place g c = λ x at.
    rw (next_is g (goal.at.returns-in-Some-clause-place g c).Joined-place-items x at ∙ c.in-Some.is, c.requires.same)
    c.node_place.ensures

pub returns-in-Some-clause-option : goal.returns-in-Some-clause-option
returns-in-Some-clause-option g c = λ x at.
    place_tells (g.Self.Dance.state c.args.self.now) _ x _ c.requires.item (returns-in-Some-clause-place g c x at)

pub returns-in-None-clause-place : goal.returns-in-None-clause-place
returns-in-None-clause-place g c = λ x at.
    rw (next_is g (goal.at.returns-in-None-clause-place g c).Joined-place-items x at ∙ c.in-None.is)

pub returns-in-None-clause-option : goal.returns-in-None-clause-option
returns-in-None-clause-option g c = λ x at.
    place_tells (g.Self.Dance.state c.args.self.now) _ x _ c.requires.item (returns-in-None-clause-place g c x at)
