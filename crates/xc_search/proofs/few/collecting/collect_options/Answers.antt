-- Two walks, one in the other. The outer invariant is `AreTakenUpTo`: the options of the open items up to `at` were
-- taken, each at its first primary item. The inner one is `AreTakenWithin`: of item i too, those up to `place`. `here`
-- says which option is at the place (`there`); a step takes it (`more_on`) or passes on (`passed_on`), and comes nearer
-- to the list's end (`option_nearer`). At the end of a list the outer invariant holds for i (`options_on`), and behind
-- the last open item all were taken (`options_end`).
use Rattle.std.proofs.Common.{◌≢◌, arith, sym, subst, ◌∙◌, refl, inl}
use Rattle.xc_input.specs.Problem.{IsValid, IsItem}
use Rattle.xc_moves.specs.Moves.{IsOpenPrimary}
use Rattle.xc_moves.proofs.MoveLemmas.{next_above-open}
use Rattle.xc_search.proofs.ResidualLemmas.{nearer}
use Rattle.xc_search.proofs.CollectLemmas.{OptionThere, is_item, there, passed_on, more_on, option_nearer}
use Rattle.xc_search.proofs.CollectLemmas.{options_first, options_within, options_on, options_end}
use Rattle.xc_search.proofs.few.collecting.collect_options.Goals.{At-loop-place, else-is_first_at}
use Rattle.xc_search.proofs.few.collecting.collect_options.Goals as goal

pub loop-i-init : goal.loop-i-init
loop-i-init g c = options_first _ _ _ c.told-into

pub node_below-place-requires-clause-item : goal.node_below-place-requires-clause-item
node_below-place-requires-clause-item g c =
    let s = g.D.Dance.state c.args.dance.now in
    is_item s.puzzle s.trail _ (next_above-open s.puzzle s.trail c.loop-i.at c.in-Some.i (sym c.in-Some.ensures))

pub loop-place-init : goal.loop-place-init
loop-place-init g c =
    let s = g.D.Dance.state c.args.dance.now in
    options_within s.puzzle s.trail c.loop-i.at c.in-Some.i c.loop-i.options c.loop-i.into _ c.loop-i.invariant
    (sym c.in-Some.ensures) (c.node_below-place.ensures.place 0 (record { listed = inl refl; at = refl }))
    (c.node_below-place.ensures.option 0 (record { listed = inl refl; at = refl }))

-- the item is open
opened : (g : _) (c : At-loop-place g) → IsOpenPrimary (g.D.Dance.state c.args.dance.now).puzzle
    (g.D.Dance.state c.args.dance.now).trail c.in-Some.i
opened g c = next_above-open (g.D.Dance.state c.args.dance.now).puzzle (g.D.Dance.state c.args.dance.now).trail
    c.loop-i.at c.in-Some.i (sym c.in-Some.ensures)

item : (g : _) (c : At-loop-place g) → IsItem (g.D.Dance.state c.args.dance.now).puzzle c.in-Some.i
item g c =
    let s = g.D.Dance.state c.args.dance.now in is_item s.puzzle s.trail c.in-Some.i (opened g c)

valid : (g : _) (c : At-loop-place g) → IsValid (g.D.Dance.state c.args.dance.now).puzzle
valid g c = subst IsValid (sym c.requires.same) c.requires.valid

-- the option at the place
here : (g : _) (c : At-loop-place g) → c.loop-place.place ≢ c.in-Some.i
    → OptionThere (g.D.Dance.state c.args.dance.now).puzzle (g.D.Dance.state c.args.dance.now).trail c.in-Some.i
    c.loop-place.invariant.to.last c.loop-place.place
here g c other = there (g.D.Dance.state c.args.dance.now).puzzle (g.D.Dance.state c.args.dance.now).trail _
    (valid g c) c.loop-place.invariant.to other

pub is_first_at-requires-clause-item : goal.is_first_at-requires-clause-item
is_first_at-requires-clause-item g c = (opened g (goal.at.is_first_at-requires-clause-item g c).At-loop-place).0

pub is_first_at-requires-clause-place : goal.is_first_at-requires-clause-place
is_first_at-requires-clause-place g c =
    let o = here g (goal.at.is_first_at-requires-clause-place g c).At-loop-place c.loop-place-test.true in
    (o.x, o.use_at)

pub option_of-x-requires-clause-item : goal.option_of-x-requires-clause-item
option_of-x-requires-clause-item g c =
    item g (goal.at.option_of-x-requires-clause-item g c).At-loop-place

pub option_of-x-requires-clause-place : goal.option_of-x-requires-clause-place
option_of-x-requires-clause-place g c =
    let o = here g (goal.at.option_of-x-requires-clause-place g c).At-loop-place c.loop-place-test.true in
    (o.x, o.use_at)

pub node_below-place-requires-in-loop-place-clause-item : goal.node_below-place-requires-in-loop-place-clause-item
node_below-place-requires-in-loop-place-clause-item g c =
    item g (goal.at.node_below-place-requires-in-loop-place-clause-item g c).At-loop-place

pub node_below-place-requires-in-loop-place-clause-place : goal.node_below-place-requires-in-loop-place-clause-place
node_below-place-requires-in-loop-place-clause-place g c =
    let at = (goal.at.node_below-place-requires-in-loop-place-clause-place g c).At-loop-place in
    let o = here g at c.loop-place-test.true in (o.x, o.listed_at)

pub loop-place-smaller : goal.loop-place-smaller
loop-place-smaller g c =
    let s = g.D.Dance.state c.args.dance.now in
    let o = here g (goal.at.loop-place-smaller g c).At-loop-place c.loop-place-test.true in
    option_nearer s.puzzle s.trail _ c.node_below-place-in-loop-place.result c.loop-place.invariant.to o
    (c.node_below-place-in-loop-place.ensures.option o.x o.listed_at)

pub loop-place-preserved : goal.loop-place-preserved
loop-place-preserved g c =
    let s = g.D.Dance.state c.args.dance.now in
    let o = here g (goal.at.loop-place-preserved g c).At-loop-place c.loop-place-test.true in
    let place = c.node_below-place-in-loop-place.ensures.place o.x o.listed_at in
    let option = c.node_below-place-in-loop-place.ensures.option o.x o.listed_at in
    let first = c.is_first_at.ensures o.x o.use_at in
    record {
      done = c.loop-place.invariant.done;
      items = c.loop-place.invariant.items;
      to = elim c.if-is_first_at.branch [
        | goal.then-is_first_at+else-options-eq-MOST w ↦ more_on s.puzzle s.trail _
            c.node_below-place-in-loop-place.result c.loop-place.invariant.to o w.options-is w.into-is
            (w.option_of-x.ensures o.x o.use_at) (sym first ∙ w.if-is_first_at.true)
            (omega (arith, c.loop-place.invariant.to.few, w.if-options-eq-MOST.false)) place option
        | else-is_first_at w ↦ passed_on s.puzzle s.trail _ c.node_below-place-in-loop-place.result
            c.loop-place.invariant.to o w.options-is w.into-is (sym first ∙ w.if-is_first_at.false) place option
      ];
    }

pub loop-i-smaller : goal.loop-i-smaller
loop-i-smaller g c =
    let s = g.D.Dance.state c.args.dance.now in
    nearer s.puzzle s.trail c.loop-i.at c.in-Some.i (sym c.in-Some.ensures)

pub loop-i-preserved : goal.loop-i-preserved
loop-i-preserved g c =
    let s = g.D.Dance.state c.args.dance.now in
    options_on s.puzzle s.trail c.in-Some.i _ _ _ (opened g (goal.at.loop-i-preserved g c).At-loop-place)
    c.loop-place.invariant c.loop-place-test.false

pub returns-clause-collected : goal.returns-clause-collected
returns-clause-collected g c =
    let s = g.D.Dance.state c.args.dance.now in
    rw c.requires.same at (options_end s.puzzle s.trail c.loop-i.at c.loop-i.options c.loop-i.into c.loop-i.invariant
    (sym c.in_default.ensures))

pub returns-clause-within : goal.returns-clause-within
returns-clause-within g c =
    let up = c.loop-i.invariant.taken in omega (arith, up.few, up.full)
