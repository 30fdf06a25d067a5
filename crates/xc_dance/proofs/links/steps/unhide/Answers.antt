-- As the proof of `hide`, from the last step back: down from p to the spacer, and then from the option's last node down
-- to p. The invariant is `Underway` over the places in reverse. `told` says what TOP at q means: a place where a step
-- can be made (`step_on`), or the spacer. There `rest` says that the places behind p are what is left of the walk
-- (`met`), and its field `round` puts both halves together.
use Rattle.std.proofs.Common.{◌≡◌, ℕ, ◌+◌, ◌-◌, ◌<◌, ◌≤◌, ◌++◌, List, ◌∷◌, fold, reverse, ap, arith}
use Rattle.std.proofs.lemmas.List.{reverse-append}
use Rattle.xc_dance.specs.inner.Tables.{Nodes, lent, Span}
use Rattle.xc_dance.specs.inner.Walks.{unhidden, CanUnhideAll, CanUnhideNode, places, other_nodes, others_of, span_at}
use Rattle.xc_dance.proofs.WalkLemmas.{places_none, reverse-places, CanAll-append, underway, step_can, step_on, Tells}
use Rattle.xc_dance.proofs.WalkLemmas.{tells, unhide_walk, Met, met}
use Rattle.xc_dance.proofs.links.steps.unhide.Goals as goal
use Rattle.xc_dance.proofs.links.steps.unhide.Goals.{After-get_at, After-down_at}
use Rattle.xc_dance.specs.declared.links.cells.marks.TheConstants.{SPACER}

both : (p first end : ℕ) → reverse (other_nodes p first end) ≡ reverse (places first p) ++ reverse (places (p + 1) end)
both p first end = reverse-append (places (p + 1) end) (places first p)

-- the walk down to the spacer
down : {spans : List Span} {t : Nodes} {p : ℕ} → CanUnhideNode spans t p
    → CanUnhideAll t (reverse (places (span_at spans p).first p))
down {spans} {t} {p} can = search (arith, span_at, CanAll-append, unhidden, both)

-- the next place down
next : (first q : ℕ) → 0 < first → first ≤ q → reverse (places first (q + 1)) ≡ q ∷ reverse (places first (q - 1 + 1))
next first q pos le = let same : q - 1 + 1 ≡ q = omega (arith, pos, le) in grind (arith, reverse-places)

-- the tables where the walk is
abbrev now : After-get_at → Nodes
now c = lent c.loop-top.top c.loop-top.links c.args.color.now

-- what TOP tells
told : (c : After-get_at) → (let s = span_at c.args.spans.now c.args.p in Tells (now c)
    (fold unhidden (lent c.args.top.now c.args.links.now c.args.color.now) (reverse (places s.first c.args.p)))
    c.loop-top.q (s.first - 1) (reverse (places s.first (c.loop-top.q + 1))))
told c = grind (arith, places_none, tells, next)

-- there is a step to make
goes : (c : After-get_at) → c.get_at.result < SPACER → (span_at c.args.spans.now c.args.p).first ≤ c.loop-top.q
goes c low = grind (arith, told c)

pub loop-top-init : goal.loop-top-init
loop-top-init c = grind (arith, underway, down)

pub get_at-requires : goal.get_at-requires
get_at-requires c = grind (arith, places_none, tells, next)

pub unhide_one-below-requires-clause-can : goal.unhide_one-below-requires-clause-can
unhide_one-below-requires-clause-can c = grind (arith, step_can, next, goes)

pub unhide_one-below-requires-clause-unmarked : goal.unhide_one-below-requires-clause-unmarked
unhide_one-below-requires-clause-unmarked c =
    let low = goes (goal.at.unhide_one-below-requires-clause-unmarked c).After-get_at c.loop-top-test.true in
    λ m. ((c.requires.unmarked m).others c.args.p c.requires.span).1 c.loop-top.q low c.loop-top.invariant.before

pub loop-top-preserved : goal.loop-top-preserved
loop-top-preserved c =
    let low = goes (goal.at.loop-top-preserved c).After-get_at c.loop-top-test.true in
    let done = c.unhide_one-below.ensures in
    let on = step_on _ _ _ _ (next _ _ c.requires.can.from low) done.done done.cost c.loop-top.invariant.walk in
    grind (arith, low)

pub down_at-requires : goal.down_at-requires
down_at-requires c = grind (arith, told (goal.at.down_at-requires c).After-get_at)

-- the spacer leads to the last node
leads : (c : After-down_at) → c.down_at.result + 1 ≡ (span_at c.args.spans.now c.args.p).end
leads c = grind (arith, told (goal.at.overflow_add-end c).After-get_at)

pub overflow_add-end : goal.overflow_add-end
overflow_add-end c = grind (arith, leads)

-- and there the rest of the walk begins
rest : (c : After-down_at) → Met unhide_walk (lent c.args.top.now c.args.links.now c.args.color.now)
    (reverse (others_of c.args.spans.now c.args.p)) (lent c.loop-top.top c.loop-top.links c.args.color.now)
    c.loop-top.below (reverse (places (c.args.p + 1) (c.down_at.result + 1)))
rest c =
    let s = span_at c.args.spans.now c.args.p in
    let at = (goal.at.overflow_add-end c).After-get_at in
    met _ _ _ _ _ (both c.args.p s.first s.end) c.requires.can.steps c.loop-top.invariant.walk (told at)
    (omega (arith, c.get_at.ensures, c.loop-top-test.false)) (ap (λ b. reverse (places (c.args.p + 1) b)) (leads c))

pub unhide_range-above-requires-clause-can : goal.unhide_range-above-requires-clause-can
unhide_range-above-requires-clause-can c = grind (arith, rest)

pub unhide_range-above-requires-clause-unmarked : goal.unhide_range-above-requires-clause-unmarked
unhide_range-above-requires-clause-unmarked c = λ m q from below.
    let end = leads (goal.at.unhide_range-above-requires-clause-unmarked c).After-down_at in
    ((c.requires.unmarked m).others c.args.p c.requires.span).0 q from (omega (arith, end, below))

pub returns : goal.returns
returns c =
    let all = (rest (goal.at.returns c).After-down_at).round _ _ c.unhide_range-above.ensures.done
    c.unhide_range-above.ensures.cost in
    grind arith
