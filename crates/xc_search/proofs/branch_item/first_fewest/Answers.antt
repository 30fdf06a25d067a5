-- The invariant is `WalksTo`: of the open items up to `at`, `item` is the first with the fewest branches. It begins at
-- the first open item (`walk_first`), and an item more keeps it, whether that has fewer branches or not (`walk_on`). Of
-- the answers, those of clause `choice` are about a walk to its end (`walk_ends`) or to an item without branches
-- (`walk_none`), those of `early` about one that stops at few branches (`walk_enough`), and those of `open` are fields
-- of the invariant.
use Rattle.std.proofs.Common.{arith, sym, inl}
use Rattle.xc_search.proofs.ResidualLemmas.{WalksTo, once_more, choice_none, nearer, walk_first, walk_on, walk_none}
use Rattle.xc_search.proofs.ResidualLemmas.{walk_enough, walk_ends}
use Rattle.xc_moves.proofs.MoveLemmas.{next_above-open}
use Rattle.xc_search.proofs.branch_item.first_fewest.Goals as goal
use Rattle.xc_search.proofs.branch_item.first_fewest.Goals.{After-branches_of-branches, Then-n-branches}

pub returns-in_err-item-clause-none : goal.returns-in_err-item-clause-none
returns-in_err-item-clause-none g c _ = grind (arith, choice_none)

pub branches_of-branches-requires-clause-open : goal.branches_of-branches-requires-clause-open
branches_of-branches-requires-clause-open g c =
    next_above-open c.args.problem.now.puzzle (g.D.Dance.state c.args.dance.now).trail 0 c.in_ok-item.item
    (sym (rw c.requires.same at c.in_ok-item.ensures))

pub branches_of-branches-requires-clause-once : goal.branches_of-branches-requires-clause-once
branches_of-branches-requires-clause-once g c h = grind (arith, once_more, next_above-open)

first : (g : _) (c : After-branches_of-branches g) → WalksTo c.args.problem.now.puzzle
    (g.D.Dance.state c.args.dance.now).trail c.in_ok-item.item c.branches_of-branches.result c.in_ok-item.item
first g c = walk_first _ _ _ _ (sym (rw c.requires.same at c.in_ok-item.ensures)) c.branches_of-branches.ensures

pub returns-then-branches-enough-clause-choice : goal.returns-then-branches-enough-clause-choice
returns-then-branches-enough-clause-choice g c none =
    let at = first g (goal.at.returns-then-branches-enough-clause-choice g c).After-branches_of-branches in
    sym (walk_none _ _ _ _ _ at (omega (arith, none, c.if-branches-enough.true)))

pub returns-then-branches-enough-clause-early : goal.returns-then-branches-enough-clause-early
returns-then-branches-enough-clause-early g c =
    let at = first g (goal.at.returns-then-branches-enough-clause-early g c).After-branches_of-branches in
    walk_enough _ _ _ _ _ at (omega (arith, c.requires.enough, c.if-branches-enough.true))

pub returns-then-branches-enough-clause-open : goal.returns-then-branches-enough-clause-open
returns-then-branches-enough-clause-open g c =
    let at = first g (goal.at.returns-then-branches-enough-clause-open g c).After-branches_of-branches in
    (at.best_open, at.at_open)

pub loop-next-init : goal.loop-next-init
loop-next-init g c = first g (goal.at.loop-next-init g c).After-branches_of-branches

pub branches_of-n-requires-clause-open : goal.branches_of-n-requires-clause-open
branches_of-n-requires-clause-open g c =
    next_above-open c.args.problem.now.puzzle (g.D.Dance.state c.args.dance.now).trail c.loop-next.at c.in-Some.next
    (sym (rw c.requires.same at c.in-Some.ensures))

pub branches_of-n-requires-clause-once : goal.branches_of-n-requires-clause-once
branches_of-n-requires-clause-once g c h = grind (arith, once_more, next_above-open)

nearer_to : (g : _) (c : Then-n-branches g) → WalksTo c.args.problem.now.puzzle
    (g.D.Dance.state c.args.dance.now).trail c.in-Some.next c.branches_of-n.result c.in-Some.next
nearer_to g c =
    (walk_on _ _ _ _ _ _ _ c.loop-next.invariant (sym (rw c.requires.same at c.in-Some.ensures))
    c.branches_of-n.ensures).0 c.if-n-branches.true

pub returns-then-branches-enough-2-clause-choice : goal.returns-then-branches-enough-2-clause-choice
returns-then-branches-enough-2-clause-choice g c none =
    let at = nearer_to g (goal.at.returns-then-branches-enough-2-clause-choice g c).Then-n-branches in
    sym (walk_none _ _ _ _ _ at (omega (arith, none, c.if-branches-enough-2.true)))

pub returns-then-branches-enough-2-clause-early : goal.returns-then-branches-enough-2-clause-early
returns-then-branches-enough-2-clause-early g c =
    let at = nearer_to g (goal.at.returns-then-branches-enough-2-clause-early g c).Then-n-branches in
    walk_enough _ _ _ _ _ at (omega (arith, c.requires.enough, c.if-branches-enough-2.true))

pub returns-then-branches-enough-2-clause-open : goal.returns-then-branches-enough-2-clause-open
returns-then-branches-enough-2-clause-open g c =
    let at = nearer_to g (goal.at.returns-then-branches-enough-2-clause-open g c).Then-n-branches in
    (at.best_open, at.at_open)

pub loop-next-smaller-else-branches-enough-2 : goal.loop-next-smaller-else-branches-enough-2
loop-next-smaller-else-branches-enough-2 g c = grind (arith, nearer)

pub loop-next-preserved-else-branches-enough-2 : goal.loop-next-preserved-else-branches-enough-2
loop-next-preserved-else-branches-enough-2 g c =
    nearer_to g (goal.at.loop-next-preserved-else-branches-enough-2 g c).Then-n-branches

pub loop-next-smaller : goal.loop-next-smaller
loop-next-smaller g c = grind (arith, nearer)

pub loop-next-preserved : goal.loop-next-preserved
loop-next-preserved g c =
    (walk_on _ _ _ _ _ _ _ c.loop-next.invariant (sym (rw c.requires.same at c.in-Some.ensures))
    c.branches_of-n.ensures).1 c.if-n-branches.false

pub returns-clause-choice : goal.returns-clause-choice
returns-clause-choice g c _ =
    sym (walk_ends _ _ _ _ _ c.loop-next.invariant (sym (rw c.requires.same at c.in_default.ensures)))

pub returns-clause-early : goal.returns-clause-early
returns-clause-early g c =
    inl (walk_ends _ _ _ _ _ c.loop-next.invariant (sym (rw c.requires.same at c.in_default.ensures)))

pub returns-clause-open : goal.returns-clause-open
returns-clause-open g c = (c.loop-next.invariant.best_open, c.loop-next.invariant.at_open)
