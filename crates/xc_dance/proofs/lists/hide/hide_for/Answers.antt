use Rattle.std.proofs.Common.{◌≡◌, arith, sym, subst, not, filter, List, ℕ, Some, ◌∷◌, ◌-◌}
use Rattle.xc_moves.specs.declared.dance.Move.{Move}
use Rattle.std.specs.Prelude.{Option}
use Rattle.xc_input.specs.Problem.{Puzzle}
use Rattle.xc_dance.specs.inner.Lists.{Versions, list_at, lose, keeps_colour, AreLists, lists_after}
use Rattle.xc_dance.proofs.LosingLists.{lists_hold, list_after, length_numbers, lists_covered, lists_purified}
use Rattle.xc_dance.proofs.lists.hide.hide_for.Goals as goal

-- what is left of the lists without the options of item i that don't keep its colour
abbrev taken : Puzzle → List Move → ℕ → Option ℕ → List (List ℕ) → List (List ℕ)
taken p t i kept l = lose t i (filter (λ o. not (keeps_colour p i kept o)) (list_at l (i - 1))) l

held : (p : Puzzle) (t : List Move) (l : List (List ℕ)) → l ≡ lists_after p t → AreLists p l
held p t l is = subst (λ (k : List (List ℕ)). AreLists p k) (sym is) (lists_hold p t)

pub hide_options-requires-clause-lists : goal.hide_options-requires-clause-lists
hide_options-requires-clause-lists c = held c.args.standing.now.puzzle c.args.standing.now.trail _ c.requires.lists

pub hide_options-requires-in-Purify-clause-lists : goal.hide_options-requires-in-Purify-clause-lists
hide_options-requires-in-Purify-clause-lists c =
    held c.args.standing.now.puzzle c.args.standing.now.trail _ c.requires.lists

pub tweak-requires-clause-option : goal.tweak-requires-clause-option
tweak-requires-clause-option c = grind (arith, length_numbers, list_after)

-- the lists after the move are those that lost its options
lost : (p : Puzzle) (t : List Move) (i : ℕ) (kept : Option ℕ) {m n : Move} {old new : Versions} → m ≡ n
    → new ≡ record old { lists = taken p t i kept old.lists } → old.lists ≡ lists_after p t
    → taken p t i kept (lists_after p t) ≡ lists_after p (n ∷ t) → new ≡ record old { lists = lists_after p (m ∷ t) }
lost p t i kept {m} {n} {old} is made lists e = grind (arith, taken)

pub returns-in-Cover : goal.returns-in-Cover
returns-in-Cover c =
    let legal = rw c.in-Cover.is at c.requires.legal in
    let e = lists_covered c.args.standing.now.puzzle c.args.standing.now.trail _ legal.0.0 legal.0.1 in
    grind (arith, lost)

pub returns-in-Purify : goal.returns-in-Purify
returns-in-Purify c =
    let s = c.args.standing.now in
    let legal = rw c.in-Purify.is at c.requires.legal in
    lost s.puzzle s.trail _ (Some _) c.in-Purify.is c.hide_options-in-Purify.ensures c.requires.lists
    (lists_purified s.puzzle s.trail _ _ (omega (arith, legal.0.0)) legal.0.1)
