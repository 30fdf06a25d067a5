-- The walk goes up from p to the spacer, and then on from the option's first node to p. The invariant is `Underway`:
-- the steps at the places between p and q were made, and those from q up to the spacer are to come. `told` says what
-- TOP at q means: a place to hide, where a step can be made (`step_on`), or the spacer. There `rest` says that the
-- places before p are what is left of the walk (`met`), and its field `round` puts both halves together.
use Rattle.std.proofs.Common.{◌≡◌, ℕ, ◌+◌, ◌<◌, ◌≤◌, List, fold, get_or, ap, refl, arith}
use Rattle.xc_dance.specs.inner.Tables.{Nodes, lent, Span}
use Rattle.xc_dance.specs.inner.Walks.{hidden, CanHide, CanHideAll, CanHideNode, places, span_at, others_of}
use Rattle.xc_dance.proofs.WalkLemmas.{places_none, places_more, CanAll-append, underway, step_can, step_on, Tells}
use Rattle.xc_dance.proofs.WalkLemmas.{tells, hide_walk, Met, met}
use Rattle.xc_dance.proofs.links.steps.hide.Goals as goal
use Rattle.xc_dance.proofs.links.steps.hide.Goals.{After-get_at}
use Rattle.xc_dance.specs.declared.links.cells.marks.TheConstants.{SPACER}

-- the walk up to the spacer
up : {spans : List Span} {t : Nodes} {p : ℕ} → CanHideNode spans t p
    → CanHideAll t (places (p + 1) (span_at spans p).end)
up can = (CanAll-append hidden CanHide _ _ _ can.steps).0

-- the tables where the walk is
abbrev now : After-get_at → Nodes
now c = lent c.loop-top.top c.loop-top.links c.args.color.now

-- what TOP tells
told : (c : After-get_at) → (let end = (span_at c.args.spans.now c.args.p).end in
    Tells (now c) (fold hidden (lent c.args.top.now c.args.links.now c.args.color.now) (places (c.args.p + 1) end))
    c.loop-top.q end (places c.loop-top.q end))
told c = grind (arith, places_more, places_none, tells)

-- there is a step to make
goes : (c : After-get_at) → c.get_at.result < SPACER → c.loop-top.q < (span_at c.args.spans.now c.args.p).end
goes c low = grind (arith, told c)

pub loop-top-init : goal.loop-top-init
loop-top-init c = grind (arith, underway, up)

pub get_at-requires : goal.get_at-requires
get_at-requires c = grind (arith, places_more, places_none, tells)

pub hide_one-above-requires-clause-can : goal.hide_one-above-requires-clause-can
hide_one-above-requires-clause-can c = grind (arith, places_more, step_can, goes)

pub hide_one-above-requires-clause-unmarked : goal.hide_one-above-requires-clause-unmarked
hide_one-above-requires-clause-unmarked c =
    let below = goes (goal.at.hide_one-above-requires-clause-unmarked c).After-get_at c.loop-top-test.true in
    λ m. ((c.requires.unmarked m).others c.args.p c.requires.span).0 c.loop-top.q (omega arith) below

pub loop-top-preserved : goal.loop-top-preserved
loop-top-preserved c =
    let low = goes (goal.at.loop-top-preserved c).After-get_at c.loop-top-test.true in
    let done = c.hide_one-above.ensures in
    let on = step_on _ _ _ _ (places_more _ _ low) done.done done.cost c.loop-top.invariant.walk in
    grind (arith, low)

pub up_at-first-requires : goal.up_at-first-requires
up_at-first-requires c = grind (arith, told (goal.at.up_at-first-requires c).After-get_at)

-- the spacer leads to the first node
leads : (c : After-get_at) → SPACER ≤ c.get_at.result → (first : ℕ) → first ≡ get_or (now c).ulink c.loop-top.q 0
    → first ≡ (span_at c.args.spans.now c.args.p).first
leads c met first is = grind (arith, told c)

-- and there the rest of the walk begins
rest : (c : After-get_at) → SPACER ≤ c.get_at.result → (first : ℕ) → first ≡ get_or (now c).ulink c.loop-top.q 0
    → Met hide_walk (lent c.args.top.now c.args.links.now c.args.color.now)
    (others_of c.args.spans.now c.args.p) (now c) c.loop-top.above (places first c.args.p)
rest c spacer first is =
    let e = c.get_at.ensures in
    met _ _ _ _ _ refl c.requires.can.steps c.loop-top.invariant.walk (told c) (omega (arith, e, spacer))
    (ap (λ a. places a c.args.p) (leads c spacer first is))

pub hide_range-below-requires-clause-can : goal.hide_range-below-requires-clause-can
hide_range-below-requires-clause-can c = grind (arith, rest)

pub hide_range-below-requires-clause-unmarked : goal.hide_range-below-requires-clause-unmarked
hide_range-below-requires-clause-unmarked c =
    let first = leads (goal.at.hide_range-below-requires-clause-unmarked c).After-get_at c.loop-top-test.false
    c.up_at-first.result c.up_at-first.ensures in
    λ m q from below. ((c.requires.unmarked m).others c.args.p c.requires.span).1 q (omega (arith, first, from)) below

pub returns : goal.returns
returns c =
    let rest = rest (goal.at.returns c).After-get_at c.loop-top-test.false _ c.up_at-first.ensures in
    let all = rest.round _ _ c.hide_range-below.ensures.done c.hide_range-below.ensures.cost in
    grind arith
