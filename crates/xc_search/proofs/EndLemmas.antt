-- The ends of a search's tree, and what its steps pay for.
use Rattle.std.proofs.Common.{ℕ, zero, suc, ◌≡◌, ◌+◌, ◌<◌, ◌≤◌, Bool, true, false, List, [], ◌∷◌, ◌++◌, length, Option}
use Rattle.std.proofs.Common.{Some, None, refl, ap, ◌∙◌, arith, length-append, ◌≢◌, cond, ◌-◌, ◌*◌, drop, sym, subst}
use Rattle.std.proofs.Common.{append_assoc, inl, inr, length-drop}
use Rattle.std.specs.Prelude.{flat_map, map, count_by}
use Rattle.std.proofs.lemmas.List.Sums.{sum_by-cons}
use Rattle.std.specs.List.{AllByRecursion}
use Rattle.std.proofs.lemmas.List.{length-map}
use Rattle.std.proofs.lemmas.Option.{slice_get_within}
use Rattle.std.proofs.Math.Nat.{mul-add, le-mul_of_pos_right}
use Rattle.xc_input.specs.Problem.{holds, Puzzle}
use Rattle.xc_text.proofs.ListLemmas.{each_weaker, flat_map-same, IsIn, each_from, filter-in, each_in, drop_at}
use Rattle.xc_text.proofs.ListLemmas.{mapped_none}
use Rattle.xc_moves.specs.declared.dance.Move.{Move}
use Rattle.xc_moves.specs.Dancing.{Dancing, moves_made}
use Rattle.xc_moves.specs.Commits.{option_at, after_spend}
use Rattle.xc_moves.proofs.PlaceLemmas.{low_most}
use Rattle.xc_search.specs.Listing.{Wanted, Residual, Branch, branch_count, branch_item, branches_of, level, listing_to}
use Rattle.xc_search.specs.Listing.{listing, pick, none, spend_one}
use Rattle.xc_search.specs.Ends.{or_dead_end, level_ends, ends_to, ends, ends_after}
use Rattle.xc_search.specs.inner.Ahead.{ends_of, branched, ends_behind, ends_ahead, here, Pays, IsSolved, due, PaysFor}
use Rattle.xc_search.specs.declared.level.Level.{Level}
use Rattle.xc_search.specs.declared.level.Begun.{Begun}
use Rattle.xc_search.specs.Room.{room_for}
use Rattle.xc_search.specs.Residuals.{wanted_at, choice_after}
use Rattle.xc_search.specs.inner.Levels.{oldest, residual_of, Levels, IsSearchable, IsNode, AreStacked, IsBegun}
use Rattle.xc_search.specs.inner.Levels.{IsEntered, IsEarlyChoice, branches_at, after_branch, begun_level, newest_begun}
use Rattle.xc_search.proofs.ListingLemmas.{by_depth, best_least, no_branches, still_short, still_without, IsBranchOf}
use Rattle.xc_search.proofs.ListingLemmas.{takes_one, takes_none, in-branches, branches_end, no_items_left, listing_at}
use Rattle.xc_search.proofs.MoveLemmas.{legal_branch, has_room, sparing_after_spend}
use Rattle.xc_search.proofs.ResidualLemmas.{counts_same, choice_is_branch_item}
use Rattle.xc_search.proofs.LoopSteps.{Opens, deepens, with_begun, open_in, chosen_item, oldest-oldest, length-oldest}
use Rattle.xc_search.proofs.LoopSteps.{HasToPass}

-- ======== The ends of a search's tree.

pub ends_unrolled : (r : Residual) → ends r ≡ level_ends ends (branch_item r) r
unfolding ends ends_to
ends_unrolled r = by_depth {level = level_ends} {to = ends_to} (grind (arith, flat_map-same, each_weaker)) r

pub ends_at : (r : Residual) (o : Option Wanted) → branch_item r ≡ o → ends r ≡ level_ends ends o r
ends_at r o e = ends_unrolled r ∙ ap (λ o. level_ends ends o r) e

-- a dead end, at least
some_or_dead : (es : List Bool) → 0 < length (or_dead_end es)
some_or_dead [] = omega arith
some_or_dead (e ∷ es) = omega arith

some_level : (o : Option Wanted) (r : Residual) → 0 < length (level_ends ends o r)
some_level None r = omega arith
some_level (Some w) r = some_or_dead (flat_map (λ b. ends b.next) (branches_of r w))

pub some_end : (r : Residual) → 0 < length (ends r)
some_end r = rw (ends_unrolled r) (some_level (branch_item r) r)

-- ---- an item without branches

pub ends_dead : (r : Residual) (v : Wanted) → IsIn r.items v → branch_count r v ≡ 0 → ends r ≡ false ∷ []
ends_dead r v h e = ends_unrolled r ∙ by_items r.items refl h
  where
    by_items : (ws : List Wanted) → r.items ≡ ws → IsIn ws v → level_ends ends (branch_item r) r ≡ false ∷ []
    by_items [] q k = absurd k
    by_items (w ∷ ws) q k = grind (arith, best_least, no_branches)

-- it stays without, whatever branch of another item is begun
pub dead_behind : (r : Residual) (w v : Wanted) (b : Branch) → IsIn r.items v → v.low ≤ v.high → branch_count r v ≡ 0
    → (v.item ≡ w.item → v ≡ w) → IsIn (branches_of r w) b → ends b.next ≡ false ∷ []
dead_behind r w v b k sound e same h = of (in-branches r w b h)
  where
    of : {b : Branch} → IsBranchOf r w b → ends b.next ≡ false ∷ []
    of (takes_one i n x known at) =
        let short = still_short r w.item x v (filter-in (λ o. holds o w.item) r.options x known at) k sound e in
        ends_dead (pick r w.item x) (spend_one x v) short.0 short.1
    of (takes_none n free) =
        let other : v.item ≢ w.item = λ q. absurd (omega (arith, e, free, ap (λ (z : Wanted). z.low) (same q))) in
        let short = still_without r w.item v k other e in ends_dead (none r w.item) v short.0 short.1

-- ---- the ends of branches are those of what is left

or_dead_some : (es : List Bool) → 0 < length es → or_dead_end es ≡ es
or_dead_some [] h = absurd (omega (arith, h))
or_dead_some (e ∷ es) h = refl

pub ends_branches : (r : Residual) (w : Wanted) → branch_item r ≡ Some w → 0 < length (branches_of r w)
    → ends r ≡ ends_of (branches_of r w)
ends_branches r w e some = ends_at r (Some w) e ∙ or_dead_some _ (has (branches_of r w) some)
  where
    has : (bs : List Branch) → 0 < length bs → 0 < length (flat_map (λ b. ends b.next) bs)
    has [] h = absurd (omega (arith, h))
    has (b ∷ bs) h = omega (arith, some_end b.next, length-append (ends b.next) (flat_map (λ b. ends b.next) bs))

one_dead : (bs : List Branch) → length bs ≡ 1 → AllByRecursion (λ b. ends b.next ≡ false ∷ []) bs
    → ends_of bs ≡ false ∷ []
one_dead [] h a = absurd (omega (arith, h))
one_dead (b ∷ []) h a = rw a.0 refl
one_dead (b ∷ c ∷ bs) h a = absurd (omega (arith, h))

-- and so they are where another item is taken that has one branch, in a dead end
pub ends_early : (r : Residual) (w v : Wanted) → IsIn r.items v → v.low ≤ v.high → branch_count r v ≡ 0
    → (v.item ≡ w.item → v ≡ w) → length (branches_of r w) ≡ 1 → ends r ≡ ends_of (branches_of r w)
ends_early r w v k sound e same one = grind (arith, ends_dead, one_dead, each_from, dead_behind)

-- ---- solutions

-- how many of these ends are solutions
abbrev pub solutions : List Bool → ℕ
solutions [] = 0
solutions (true ∷ es) = suc (solutions es)
solutions (false ∷ es) = solutions es

solutions-append : (xs ys : List Bool) → solutions (xs ++ ys) ≡ solutions xs + solutions ys
solutions-append [] ys = omega arith
solutions-append (true ∷ xs) ys = omega (arith, solutions-append xs ys)
solutions-append (false ∷ xs) ys = solutions-append xs ys

solutions-or : (es : List Bool) → solutions (or_dead_end es) ≡ solutions es
solutions-or [] = refl
solutions-or (e ∷ es) = refl

solutions_of : (d : ℕ) (bs : List Branch) → ((r : Residual) → solutions (ends_to d r) ≡ length (listing_to d r))
    → solutions (flat_map (λ b. ends_to d b.next) bs)
    ≡ length (flat_map (λ b. map (λ m. b.choice ∷ m) (listing_to d b.next)) bs)
solutions_of d [] h = refl
solutions_of d (b ∷ bs) h = grind (arith, solutions-append, length-append, length-map, solutions_of d bs h)

solutions_level : (d : ℕ) (o : Option Wanted) (r : Residual)
    → ((r : Residual) → solutions (ends_to d r) ≡ length (listing_to d r))
    → solutions (level_ends (ends_to d) o r) ≡ length (level (listing_to d) o r)
solutions_level d None r h = refl
solutions_level d (Some w) r h = grind (arith, solutions-or, solutions_of d (branches_of r w) h)

solutions_to : (d : ℕ) (r : Residual) → solutions (ends_to d r) ≡ length (listing_to d r)
unfolding ends_to listing_to
solutions_to zero r = refl
solutions_to (suc d) r = solutions_level d (branch_item r) r (solutions_to d)

-- each solution is a member
pub as_many_solutions : (r : Residual) → solutions (ends r) ≡ length (listing r)
unfolding ends listing
as_many_solutions r = solutions_to (length r.items + length r.options) r

pub solutions_counted : (es : List Bool) → count_by (λ e. e) es ≡ solutions es
solutions_counted [] = refl
solutions_counted (true ∷ es) = omega (arith, sum_by-cons (λ e. cond e 1 0) true es, solutions_counted es)
solutions_counted (false ∷ es) = omega (arith, sum_by-cons (λ e. cond e 1 0) false es, solutions_counted es)

-- ---- ends behind solutions

pub after_all : (n : ℕ) (xs ys : List Bool) → ends_after (suc n + solutions xs) (xs ++ ys) ≡ ends_after (suc n) ys
after_all n [] ys = let same : suc n + 0 ≡ suc n = omega arith in rw same refl
after_all n (true ∷ xs) ys =
    let next : suc n + suc (solutions xs) ≡ suc (suc n + solutions xs) = omega arith in rw next (after_all n xs ys)
after_all n (false ∷ xs) ys =
    let next : suc n + solutions xs ≡ suc (n + solutions xs) = omega arith in
    rw next (rw next at (after_all n xs ys))

-- ======== What the steps of a search pay for.

-- ---- room

times_append : (c : ℕ) (xs ys : List Bool) → c * length (xs ++ ys) ≡ c * length xs + c * length ys
times_append c xs ys = ap (λ n. c * n) (length-append xs ys) ∙ mul-add c (length xs) (length ys)

-- as many moves as may stand, for each end
abbrev pub may : Puzzle → List Bool → ℕ
may p es = room_for p * length es

pub room_in : (p : Puzzle) (t : List Move) → IsSearchable p t → length t ≤ room_for p
room_in p t s = has_room p t s.legal (omega (arith, s.sparing))

-- what an item's own moves come to
pub room_spent : (p : Puzzle) (t : List Move) (i : ℕ) → IsNode p t i → length (after_spend p i t) ≤ room_for p
room_spent p t i n =
    let known = open_in p t i n.item n.is_open in
    has_room p (after_spend p i t) (legal_branch p 0 i t n (omega arith))
    (sparing_after_spend p t i n.searchable.sparing known)

-- what is left may take
abbrev pub here_at : Puzzle → List Move → ℕ
here_at p t = here (branch_item (residual_of p t)) (length t) (may p (ends (residual_of p t)))

enough_for : (p : Puzzle) (t : List Move) → length t ≤ room_for p → length t ≤ may p (ends (residual_of p t))
enough_for p t h = grind (arith, le-mul_of_pos_right, ends, some_end)

pub leaf_pays : (p : Puzzle) (t : List Move) → length t ≤ room_for p → length t ≤ here_at p t
leaf_pays p t h = by_item (branch_item (residual_of p t))
  where
    by_item : (o : Option Wanted) → length t ≤ here o (length t) (may p (ends (residual_of p t)))
    by_item None = omega arith
    by_item (Some w) = enough_for p t h

pub leaf_within : (p : Puzzle) (t : List Move) → length t ≤ room_for p → here_at p t ≤ may p (ends (residual_of p t))
leaf_within p t h = by_item (branch_item (residual_of p t))
  where
    by_item : (o : Option Wanted) → here o (length t) (may p (ends (residual_of p t))) ≤ may p (ends (residual_of p t))
    by_item None = enough_for p t h
    by_item (Some w) = omega arith

pub due_within : (p : Puzzle) (t : List Move) (ls : List Level) → length t ≤ room_for p
    → here_at p t + may p (ends_behind p t ls) ≤ may p (ends_ahead p t ls true)
due_within p t ls h = grind (arith, leaf_within, times_append, ends)

-- an open item is left: it is no solution
here_open : (p : Puzzle) (t : List Move) (i : ℕ) → IsNode p t i → here_at p t ≡ may p (ends (residual_of p t))
here_open p t i n =
    by_item (branch_item (residual_of p t)) (λ e. subst (λ ws. IsIn ws (wanted_at p t i)) (no_items_left _ _ e)
    (open_in p t i n.item n.is_open))
  where
    by_item : (o : Option Wanted) → (o ≡ None → IsIn [] (wanted_at p t i))
        → here o (length t) (may p (ends (residual_of p t))) ≡ may p (ends (residual_of p t))
    by_item None h = absurd (h refl)
    by_item (Some w) h = refl

-- ---- one step behind another

pub Pays-trans : {d e f : Dancing} {ls ks js : Levels} {x y z : Bool} {m n q : ℕ} → Pays d ls x m e ks y n
    → Pays e ks y n f js z q → Pays d ls x m f js z q
Pays-trans a b = record { ends = a.ends ∙ b.ends; due = omega (arith, a.due, b.due) }

-- ---- a branch is begun

begun_ends : (p : Puzzle) (t s : List Move) (l k : Level) (ls : List Level) → IsBegun p t l s k
    → ends_ahead p s (k ∷ ls) true ≡ ends_behind p t (l ∷ ls)
begun_ends p t s l k ls b = grind (arith, oldest, drop_at, branches_at, append_assoc)

returned_ends : (p : Puzzle) (t : List Move) (l : Level) (ls : List Level) → AreStacked p t (l ∷ ls)
    → ends_behind p (oldest l.base t) (l ∷ ls) ≡ ends_behind p t (l ∷ ls)
returned_ends p t l ls stacked = grind (arith, oldest-oldest, branches_at)

-- the next one of the newest level
pub pays_next : (d f : Dancing) (l : Level) (b : Begun) (vs ks : Levels) → AreStacked d.puzzle d.trail vs.levels
    → vs.levels ≡ l ∷ drop 1 vs.levels → f ≡ record d { trail = f.trail; undone = f.undone }
    → f.undone ≡ d.undone + (length d.trail - l.base)
    → IsEntered d.puzzle (oldest l.base d.trail) l f.trail (begun_level b l)
    → ks ≡ record vs { levels = newest_begun b vs.levels; begun = vs.begun + 1 } → (m : ℕ)
    → Pays d vs false m (branched f l.item b.place) ks true m
pays_next d f l b vs ks stacked top ef undone entered ek m =
    let p = d.puzzle in
    let k = begun_level b l in
    let js = drop 1 vs.levels in
    let s = oldest l.base d.trail in
    let v = after_branch p l.item (option_at p l.item b.place) f.trail in
    let all : ends_ahead p v (k ∷ js) true ≡ ends_behind p d.trail (l ∷ js) =
    begun_ends p s v l k js entered.begun ∙ returned_ends p d.trail l js (rw top at stacked) in
    grind (arith, due_within, room_in, may)

-- ---- a level is begun

-- the branches of an item that is taken early end as what is left does
early_ends : (p : Puzzle) (t : List Move) (i n : ℕ) → IsSearchable p t → IsEarlyChoice p t (Some (i, n))
    → 0 < length (branches_at p t i) → ends (residual_of p t) ≡ ends_of (branches_at p t i)
unfolding branches_at
early_ends p t i n here (inl e) some =
    ends_branches (residual_of p t) (wanted_at p t i) (chosen_item p t i n here.legal (sym e)).branch some
early_ends p t i n here (inr d) some =
    let is : Some (i, n) ≡ Some (d.item, d.count) = d.is in
    let r = residual_of p t in
    let same = counts_same p t here.legal in
    let both : (i, n) ≡ (d.item, d.count) = cc in
    let item : d.item ≡ i = sym (ap (λ (c : ℕ × ℕ). c.0) both) in
    let known = open_in p t d.item d.is_open.0 d.is_open.1 in
    let short = open_in p t d.short d.short_open.0 d.short_open.1 in
    let few : branch_count r (wanted_at p t d.item) ≤ 1 = omega (arith, d.few, d.counted, each_in _ _ _ same known) in
    let all : length (branches_of r (wanted_at p t d.item)) ≤ 1 = omega (
      arith,
      few,
      length-drop (branch_count r (wanted_at p t d.item)) (branches_of r (wanted_at p t d.item)),
      ap length (branches_end r (wanted_at p t d.item)),
    ) in
    let there : 0 < length (branches_of r (wanted_at p t d.item)) =
    subst (λ i. 0 < length (branches_of r (wanted_at p t i))) (sym item) some in
    subst (λ i. ends r ≡ ends_of (branches_of r (wanted_at p t i))) item
    (ends_early r (wanted_at p t d.item) (wanted_at p t d.short) short (omega (arith, low_most d.short here.valid))
    (sym (each_in _ _ _ same short) ∙ d.without) (ap (wanted_at p t)) (omega (arith, all, there)))

-- and its first branch
pub pays_first : {d e : Dancing} {ls : Levels} {i n : ℕ} {l : Level} → Opens d e ls i n l
    → IsEarlyChoice d.puzzle d.trail (Some (i, n)) → (f : Dancing) (ks : Levels) (b : Begun)
    → f ≡ record e { trail = f.trail } → IsEntered e.puzzle e.trail l f.trail (begun_level b l)
    → ks ≡ with_begun (begun_level b l) ls → (m : ℕ) → Pays d ls true m (branched f i b.place) ks true m
pays_first {d} {e} {ls} {i} {n} {l} o early f ks b ef entered ek m =
    let p = d.puzzle in
    let t = d.trail in
    let r = residual_of p t in
    let k = begun_level b l in
    let item : l.item ≡ i = ap (λ (l : Level). l.item) o.level in
    let none : l.begun ≡ 0 = ap (λ (l : Level). l.begun) o.level in
    let same : e.puzzle ≡ p = ap (λ (e : Dancing). e.puzzle) o.spent in
    let under : oldest l.mark e.trail ≡ t = (deepens o).2 in
    let here : IsSearchable p t = o.standing.searchable refl in
    let node : IsNode p t i = record { searchable = here; item = o.next.item; is_open = o.next.is_open } in
    let start : IsEntered p e.trail l f.trail k = rw same at entered in
    let v = after_branch p l.item (option_at p l.item b.place) f.trail in
    let at = rw (under, item, none) at start.begun.at in
    let some = slice_get_within (branches_at p t i) 0 start.begun.branch at in
    let first = early_ends p t i n here early some in
    let opened : ends_behind p e.trail (l ∷ ls.levels) ≡ ends_ahead p t ls.levels true =
    rw (under, item, none, first) refl in
    let all : ends_ahead p v (k ∷ ls.levels) true ≡ ends_ahead p t ls.levels true =
    begun_ends p e.trail v l k ls.levels start.begun ∙ opened in
    grind (arith, due_within, room_in, here_open, times_append, ends, may)

-- a level without branches ends at once
pub pays_nothing : {d e : Dancing} {ls : Levels} {i n : ℕ} {l : Level} → Opens d e ls i n l → n ≡ 0 → (f : Dancing)
    → f ≡ record e { trail = oldest l.mark e.trail; undone = e.undone + (length e.trail - l.mark) } → (m : ℕ)
    → Pays d ls true m f ls false m
pays_nothing {d} {e} {ls} {i} {n} {l} o no_branch f ef m =
    let p = d.puzzle in
    let t = d.trail in
    let r = residual_of p t in
    let here : IsSearchable p t = o.standing.searchable refl in
    let node : IsNode p t i = record { searchable = here; item = o.next.item; is_open = o.next.is_open } in
    let dead = ends_dead r (wanted_at p t i) (open_in p t i node.item node.is_open) (sym o.next.count ∙ no_branch) in
    let spent : e ≡ record d { trail = after_spend p i t } = o.spent in
    let mark : l.mark ≡ length t = ap (λ (l : Level). l.mark) o.level in
    let took : e.undone + (length e.trail - l.mark) ≡ d.undone + (length (after_spend p i t) - length t) =
    rw (spent, mark) refl in
    let back : record e { trail = oldest l.mark e.trail; undone = e.undone + (length e.trail - l.mark) }
    ≡ record d { trail = t; undone = d.undone + (length (after_spend p i t) - length t) } =
    rw ((deepens o).2, took, spent) refl in
    grind (arith, here_open, enough_for, room_in, here, room_spent, le-mul_of_pos_right, ends, some_end)

-- ---- what is left is passed over

pub pays_over : (d : Dancing) (ls : Levels) (m n : ℕ) → IsSearchable d.puzzle d.trail
    → m ≡ n + length (listing (residual_of d.puzzle d.trail)) → Pays d ls true m d ls false n
pays_over d ls m n here passed =
    let p = d.puzzle in
    let r = residual_of p d.trail in
    let many : suc m ≡ suc n + solutions (ends r) = omega (arith, passed, as_many_solutions r) in
    record {
      ends = rw many (after_all n (ends r) (ends_behind p d.trail ls.levels));
      due = omega (arith, leaf_pays p d.trail (room_in p d.trail here));
    }

-- a solution is one end
pub pays_one : (d : Dancing) (ls : Levels) (m n : ℕ) → IsSearchable d.puzzle d.trail
    → choice_after d.puzzle d.trail ≡ None → m ≡ suc n → Pays d ls true m d ls false n
pays_one d ls m n here none is =
    let r = residual_of d.puzzle d.trail in
    let last : branch_item r ≡ None =
    mapped_none _ _ (sym (choice_is_branch_item d.puzzle d.trail here.legal) ∙ none) in
    pays_over d ls m n here (omega (arith, is, ap length (listing_at r None last)))

-- ---- a level ends

finished_ends : (p : Puzzle) (t : List Move) (l : Level) (ls : List Level) → AreStacked p t (l ∷ ls)
    → l.count ≤ l.begun → ends_behind p t (l ∷ ls) ≡ ends_behind p (oldest l.mark t) ls
unfolding branches_at
finished_ends p t l ls stacked h =
    let u = oldest l.mark t in
    let w = wanted_at p u l.item in
    grind (arith, branches_end (residual_of p u) w)

pub pays_back : (d e : Dancing) (l : Level) (vs ks : Levels) → AreStacked d.puzzle d.trail vs.levels
    → vs.levels ≡ l ∷ drop 1 vs.levels → l.count ≤ l.begun
    → e ≡ record d { trail = oldest l.mark d.trail; undone = d.undone + (length d.trail - l.mark) }
    → ks ≡ record vs { levels = drop 1 vs.levels } → (m : ℕ) → Pays d vs false m e ks false m
pays_back d e l vs ks stacked top done ed ek m = grind (arith, oldest, finished_ends, length-oldest, may)

-- ======== What a search pays for, from one member to another.

no_item : (p : Puzzle) (t : List Move) (ls : List Level) → IsSolved p t ls → branch_item (residual_of p t) ≡ None
no_item p t ls s = grind (arith, mapped_none, choice_is_branch_item)

-- a solution is one end, and stands
solved_ends : (p : Puzzle) (t : List Move) (ls : List Level) → IsSolved p t ls
    → ends_ahead p t ls true ≡ true ∷ ends_behind p t ls
solved_ends p t ls s = rw (ends_at (residual_of p t) None (no_item p t ls s)) refl

-- what is due where it begins
pub due_first : (d : Dancing) (ls : Levels) (down : Bool) {many more : ℕ}
    → IsSearchable d.puzzle d.trail → HasToPass d.puzzle d.trail ls.levels down many more →
    (due d ls true ≤ moves_made d + may d.puzzle (ends_ahead d.puzzle d.trail ls.levels down))
    × (ends_after (suc more) (ends_ahead d.puzzle d.trail ls.levels true)
    ≡ ends_after many (ends_ahead d.puzzle d.trail ls.levels down))
due_first d ls true {many} {more} search has =
    let all : many ≡ suc more = omega (arith, has.first refl) in (
      omega (arith, due_within d.puzzle d.trail ls.levels (room_in d.puzzle d.trail search)),
      rw all refl,
    )
due_first d ls false {many} {more} search has = grind (arith, solved_ends, no_item)

-- it stands at another member
pub pays_stands : {d e : Dancing} {ls ks : Levels} (down : Bool) {many more : ℕ} → IsSearchable d.puzzle d.trail
    → HasToPass d.puzzle d.trail ls.levels down many more → e.puzzle ≡ d.puzzle → IsSolved e.puzzle e.trail ks.levels
    → Pays d ls true more e ks true 0 → PaysFor d ls down many e ks
pays_stands {d} {e} {ls} {ks} down search has same at pays =
    grind (arith, due_first, solved_ends, may, no_item)

-- there were no more
pub pays_ends : {d e : Dancing} {ls ks : Levels} (down : Bool) {many more lacks : ℕ} → IsSearchable d.puzzle d.trail
    → HasToPass d.puzzle d.trail ls.levels down many more → e.puzzle ≡ d.puzzle → ks.levels ≡ []
    → Pays d ls true more e ks false lacks → PaysFor d ls down many e ks
pays_ends {d} {e} {ls} {ks} down {lacks = lacks} search has same none pays = grind (arith, due_first, may)

nothing_behind : (n : ℕ) → ends_after n [] ≡ []
nothing_behind zero = refl
nothing_behind (suc n) = refl

-- behind some solutions, and then behind more
pub ends_on : (k n : ℕ) (es : List Bool) → ends_after n (ends_after k es) ≡ ends_after (k + n) es
ends_on zero n es = let same : 0 + n ≡ n = omega arith in rw same refl
ends_on (suc k) n [] = let next : suc k + n ≡ suc (k + n) = omega arith in rw next (nothing_behind n)
ends_on (suc k) n (true ∷ es) = let next : suc k + n ≡ suc (k + n) = omega arith in rw next (ends_on k n es)
ends_on (suc k) n (false ∷ es) =
    let next : suc k + n ≡ suc (k + n) = omega arith in rw next (rw next at (ends_on (suc k) n es))
