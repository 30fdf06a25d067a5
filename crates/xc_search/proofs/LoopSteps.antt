-- The steps of the search's loop, by the levels on its stack.
use Rattle.std.proofs.Common.{ℕ, zero, suc, ◌≡◌, ◌+◌, ◌-◌, ◌≤◌, List, [], ◌∷◌, length, refl, arith, ◌<◌, true, ◌++◌}
use Rattle.std.proofs.Common.{map, drop, Some, None, sym, ap, ◌∙◌, eq-eqb, length-drop, inl, inr, Option, subst}
use Rattle.std.proofs.Common.{length-append, reverse, append_assoc, take, false, min, ltb-true, ltb-false, ◌≢◌, ap₂}
use Rattle.std.proofs.Common.{lt-ltb}
use Rattle.std.specs.List.{AllByRecursion, range_with_len}
use Rattle.std.proofs.lemmas.Grind.{common_steps}
use Rattle.std.specs.Prelude.{Bool, find, flat_map, unwrap_or, nat_lt}
use Rattle.std.proofs.lemmas.List.{length-replicate, reverse-append, map-append, take-append-drop, drop-drop, drop_all}
use Rattle.std.proofs.lemmas.List.{map-id}
use Rattle.std.proofs.lemmas.List.FromFn.{length-range_with_len}
use Rattle.std.proofs.lemmas.List.Elements.{recursion_from_All}
use Rattle.xc_input.specs.declared.problem.Use.{Use}
use Rattle.xc_input.specs.Problem.{Puzzle, primary_count, IsPrimary, uses_of, AreSoundBounds, IsValid}
use Rattle.xc_input.specs.declared.problem.Bounds.{Bounds}
use Rattle.xc_text.proofs.ListLemmas.{each_weaker, IsIn, by_number, by_bool, by_option, in-map, in-filter, each_in}
use Rattle.xc_text.proofs.ListLemmas.{map-map, mapped_none, mapped_some, map-same, drop_at, each_at, length-filter-le}
use Rattle.xc_moves.specs.declared.dance.Move.{Move}
use Rattle.xc_moves.specs.Moves.{is_open, open_items, AreLegal, AreTweaks}
use Rattle.xc_moves.specs.Places.{link_place}
use Rattle.xc_moves.specs.Commits.{option_at, after_spend, after_use, after_uses, others}
use Rattle.xc_moves.specs.Dancing.{Dancing, moves_made}
use Rattle.xc_moves.proofs.MoveLemmas.{length-numbered_from}
use Rattle.xc_search.specs.Listing.{Wanted, Residual, Branch, branches_of, branch_count, branch_item, listing}
use Rattle.xc_search.specs.Listing.{wanted_from, whole}
use Rattle.xc_search.specs.inner.Levels.{size_of, residual_of, branches_at, branch_members, IsSearchable, IsNode}
use Rattle.xc_search.specs.inner.Levels.{IsLevelAt, IsShallow, MayBranch, IsNext, AreStacked, IsPlace, choices_of}
use Rattle.xc_search.specs.inner.Levels.{to_give, coming, first_level, oldest, tweaked, IsLevel, after_branch}
use Rattle.xc_search.specs.inner.Levels.{NoTweakAbove, chosen, IsBegun, most_levels, spendings, Levels, IsStanding}
use Rattle.xc_search.specs.inner.Levels.{IsEntered, begun_level, newest_begun, AreAllWanted}
use Rattle.xc_search.specs.inner.Ahead.{cost, times, work_of, work, visits, ahead, AreLedBy, MayLead, ends_ahead}
use Rattle.xc_search.specs.inner.Ahead.{PaysFor, IsSolved, WentOver, WentPast, WentBy, GoesOn, EntersBranch, branched}
use Rattle.xc_search.specs.inner.Ahead.{work_left}
use Rattle.xc_search.specs.declared.choice.Choice.{Choice}
use Rattle.xc_search.specs.declared.level.Level.{Level}
use Rattle.xc_search.specs.Residuals.{wanted_at, wanted_after, choice_after}
use Rattle.xc_search.specs.Outlook.{Outlook, shown_after, MakesFew}
use Rattle.xc_search.specs.Ends.{ends_after, ends}
use Rattle.xc_search.specs.declared.level.Begun.{Begun}
use Rattle.xc_search.specs.Cover.{members}
use Rattle.xc_search.proofs.ListingLemmas.{each_less, less_items, few_branches, listing_unrolled, listing_at}
use Rattle.xc_search.proofs.ListingLemmas.{least_is_one, branches_end}
use Rattle.xc_search.proofs.ResidualLemmas.{found_wanted, in_range, choice_is_branch_item, no_moves_leave_all}
use Rattle.xc_search.proofs.MoveLemmas.{oldest_all, oldest-drop, none_above, plain_above, plain_after_spend, next_above}
use Rattle.xc_search.proofs.MoveLemmas.{spend_longer, drop_tweaks, above_both, spent_after_spend, spent_tweaked}
use Rattle.xc_search.proofs.MoveLemmas.{few_spendings, legal_node, sparing_first}

-- ======== How much work is left behind branches.

more_times : (n k m : ℕ) → n ≤ k → times n m ≤ times k m
more_times zero k m h = omega arith
more_times (suc n) zero m h = absurd (omega (arith, h))
more_times (suc n) (suc k) m h = omega (arith, more_times n k m (omega (arith, h)))

cost_times : (f : Residual → ℕ) (m : ℕ) (bs : List Branch) → AllByRecursion (λ b. f b.next ≤ m) bs
    → cost f bs ≤ times (length bs) (suc m)
cost_times f m [] a = omega arith
cost_times f m (b ∷ bs) a = omega (arith, a.0, cost_times f m bs a.1)

next_work : (d : ℕ) → work_of d ≤ work_of (suc d)
unfolding work_of
next_work d = omega arith

more_work : (d k : ℕ) → work_of d ≤ work_of (k + d)
more_work d zero = let same : 0 + d ≡ d = omega arith in rw same (omega arith)
more_work d (suc k) =
    let same : suc k + d ≡ suc (k + d) = omega arith in rw same (omega (arith, more_work d k, next_work (k + d)))

pub some_work : (r : Residual) → 2 ≤ work r
unfolding work work_of
some_work r = by_number (size_of r) (λ e. rw e (omega arith)) (λ d e. rw e (omega arith))

within : (s : Residual) (d : ℕ) → size_of s ≤ d → work s ≤ work_of d
unfolding work
within s d l =
    let all : (d - size_of s) + size_of s ≡ d = omega (arith, l) in rw all at (more_work (size_of s) (d - size_of s))

work_next : (d : ℕ) → work_of (suc d) ≡ times (suc d) (suc (work_of d)) + 2
unfolding work_of
work_next d = refl

-- whichever item is branched on
pub less_work : (r : Residual) (w : Wanted) → IsIn r.items w → cost work (branches_of r w) + 2 ≤ work r
unfolding work
less_work r w h = by_number (size_of r) (λ e. absurd (omega (arith, e, less_items w r.items h))) (λ d e.
    let less = each_weaker _ (λ (b : Branch). work b.next ≤ work_of d) _
    (λ b l. within b.next d (omega (arith, l, e))) (each_less r w h) in
    let few = more_times (length (branches_of r w)) (suc d) (suc (work_of d))
    (omega (arith, few_branches r w, e, less_items w r.items h)) in
    rw e (omega (arith, cost_times work (work_of d) (branches_of r w) less, few, work_next d)))

-- ======== What one step of the search does to the levels.

-- ---- the oldest moves

pub length-oldest : (n : ℕ) (t : List Move) → n ≤ length t → length (oldest n t) ≡ n
length-oldest n t h = omega (arith, length-drop (length t - n) t, h)

-- ---- moves on top

pub data Extends : List Move → List Move → Type 0 where
  ext_none : {t : List Move} → Extends t t
  ext_more : {m : Move} {s t : List Move} → Extends s t → Extends (m ∷ s) t

pub ext_trans : {r s t : List Move} → Extends r s → Extends s t → Extends r t
ext_trans ext_none b = b
ext_trans (ext_more a) b = ext_more (ext_trans a b)

pub ext_after_spend : (p : Puzzle) (i : ℕ) (t : List Move) → Extends (after_spend p i t) t
ext_after_spend p i t = grind (arith, ext_none, ext_more)

pub ext_uses : (p : Puzzle) (us : List Use) (t : List Move) → Extends (after_uses p us t) t
ext_uses p [] t = ext_none
ext_uses p (u ∷ us) t = grind (arith, ext_trans, ext_none, ext_more, ext_after_spend, ext_uses p us (after_use p u t))

pub ext_after_branch : (p : Puzzle) (i : ℕ) (o : Option ℕ) (t : List Move) → Extends (after_branch p i o t) t
ext_after_branch p i None t = grind (arith, ext_none, ext_more)
ext_after_branch p i (Some o) t = ext_uses p (others i (uses_of p o)) t

pub ext_longer : {s t : List Move} → Extends s t → length t ≤ length s
ext_longer ext_none = omega arith
ext_longer (ext_more e) = omega (arith, ext_longer e)

pub ext_oldest : (n : ℕ) {s t : List Move} → Extends s t → n ≤ length t → oldest n s ≡ oldest n t
ext_oldest n ext_none h = refl
ext_oldest n (ext_more {m} {s} e) h = cc (oldest-drop n (m ∷ s) (omega (arith, h, ext_longer e)), ext_oldest n e h)

pub ext_whole : {s t : List Move} → Extends s t → oldest (length t) s ≡ t
ext_whole {t = t} e = ext_oldest (length t) e (omega arith) ∙ oldest_all t

ext_drop : (n : ℕ) (t : List Move) → Extends t (drop n t)
ext_drop zero t = ext_none
ext_drop (suc n) [] = ext_none
ext_drop (suc n) (m ∷ t) = ext_more (ext_drop n t)

pub oldest-oldest : (m n : ℕ) (t : List Move) → m ≤ n → n ≤ length t → oldest m (oldest n t) ≡ oldest m t
oldest-oldest m n t h k = grind (arith, ext_oldest, ext_drop, length-oldest)

-- m tweaks of the level's item, on the moves on which it was begun
abbrev pub tweaked_at : Puzzle → List Move → Level → ℕ → List Move
tweaked_at p t l m = tweaked m l.item (after_spend p l.item (oldest l.mark t))

-- a level's own moves
pub ground_is : {p : Puzzle} {t : List Move} {l : Level} → IsLevel p t l → l.base ≡ length t
    → t ≡ tweaked_at p t l l.tweaks
ground_is {t = t} is_level whole = sym (ap (λ n. oldest n t) whole ∙ oldest_all t) ∙ is_level.base

-- ---- the item of a level

found_in : (q : Wanted → Bool) (ws : List Wanted) (w : Wanted) → find q ws ≡ Some w → IsIn ws w
found_in q [] w e = absurd (cc e)
found_in q (v ∷ vs) w e = by_bool (q v) (λ h. inl (cc (rw (find, h) at e))) (λ h. inr (found_in q vs w (rw
    (find, h) at e)))

-- an open primary item is left
pub open_in : (p : Puzzle) (t : List Move) (i : ℕ) → IsPrimary p i → is_open i t ≡ true
    → IsIn (wanted_after p t) (wanted_at p t i)
open_in p t i h o = found_in _ _ _ (found_wanted p t i h o)

pub record Chosen (p : Puzzle) (t : List Move) (i n : ℕ) : Type 0 where
  pub branch : branch_item (residual_of p t) ≡ Some (wanted_at p t i)
  pub count : n ≡ branch_count (residual_of p t) (wanted_at p t i)
  pub item : IsPrimary p i
  pub is_open : is_open i t ≡ true

pub chosen_item : (p : Puzzle) (t : List Move) (i n : ℕ) → AreLegal p t → choice_after p t ≡ Some (i, n)
    → Chosen p t i n
chosen_item p t i n l e =
    let r = residual_of p t in
    let found = mapped_some (λ w. (w.item, branch_count r w)) (branch_item r) (i, n)
    (sym (choice_is_branch_item p t l) ∙ e) in
    let at = in-map (wanted_at p t) (open_items p t) found.0 (least_is_one _ _ _ found.1) in
    let one = in-filter (λ i. is_open i t) (range_with_len 1 (primary_count p)) at.0 at.1 in
    let within = each_in _ _ at.0 (in_range 1 (primary_count p)) one.0 in grind arith

-- ---- what is left is searched

-- the branch item may be branched on
pub may_choose : (p : Puzzle) (t : List Move) (i n : ℕ) → AreLegal p t → choice_after p t ≡ Some (i, n) →
    MayBranch p t i n
may_choose p t i n l e =
    let c = chosen_item p t i n l e in
    record {
      item = c.item;
      is_open = c.is_open;
      count = c.count;
      lists = listing_at (residual_of p t) (Some (wanted_at p t i)) c.branch;
    }

pub choice_next : (p : Puzzle) (t : List Move) (o : Option (ℕ × ℕ)) → AreLegal p t → o ≡ choice_after p t → IsNext p t o
choice_next p t o l e = record {
  some = by_option o (λ n. rw n tt) (λ c n. rw n (may_choose p t c.0 c.1 l (sym e ∙ n)));
  none = λ n. sym e ∙ n;
}

-- no primary item is left: one member, with no more choices
pub solution : (p : Puzzle) (t : List Move) (ls : List Level) → AreLegal p t → choice_after p t ≡ None
    → coming p t ls true ≡ choices_of p ls ∷ to_give p t ls
solution p t ls l e = grind (arith, common_steps, listing_unrolled, mapped_none, choice_is_branch_item)

pub members_all : (before : List Choice) (bs : List Branch)
    → map (λ m. before ++ m) (flat_map (λ b. map (λ m. b.choice ∷ m) (listing b.next)) bs) ≡ branch_members before bs
members_all before [] = refl
members_all before (b ∷ bs) = grind (arith, common_steps, members_all before bs, map-map)

-- at an item's own node stands no option
pub at_own : (p : Puzzle) (i : ℕ) → option_at p i i ≡ None
at_own p i = rw (eq-eqb i i refl) refl

pub own_place : (p : Puzzle) (i : ℕ) → IsPlace p i i
own_place p i = ap (λ o. link_place p i (unwrap_or o 0)) (sym (at_own p i))

-- a level's own moves stand before its first branch
pub first_stands : (p : Puzzle) (t : List Move) (i n : ℕ) → IsNode p t i
    → n ≡ branch_count (residual_of p t) (wanted_at p t i) → IsLevelAt p t (after_spend p i t) (first_level p t i n)
first_stands p t i n node count =
    let above = none_above (after_spend p i t) in
    grind (arith, ext_longer, ext_after_spend, at_own, own_place, oldest_all, above)

-- a level is begun
pub descended : (p : Puzzle) (t : List Move) (ls : List Level) (i n : ℕ) → IsSearchable p t → IsShallow p t ls
    → MayBranch p t i n → AreStacked p t ls → AreStacked p (after_spend p i t) (first_level p t i n ∷ ls)
    × (coming p t ls true ≡ to_give p (after_spend p i t) (first_level p t i n ∷ ls))
    × (visits p (after_spend p i t) (first_level p t i n ∷ ls) < ahead p t ls true)
unfolding branches_at
descended p t ls i n here sh c stacked =
    let r = residual_of p t in
    let s = after_spend p i t in
    let under : oldest (length t) s ≡ t = ext_whole (ext_after_spend p i t) in
    let node : IsNode p t i = record { searchable = here; item = c.item; is_open = c.is_open } in
    let less = less_work r (wanted_at p t i) (open_in p t i c.item c.is_open) in
    let all = ap (map (λ m. choices_of p ls ++ m)) c.lists ∙ members_all (choices_of p ls) (branches_at p t i) in
    grind (arith, less, cost, first_stands p t i n node c.count, all)

-- ======== Back at a level, and its end.

above_oldest : (n : ℕ) (t : List Move) → n ≤ length t → NoTweakAbove n (oldest n t)
above_oldest n t h = subst (λ k. NoTweakAbove k (oldest n t)) (length-oldest n t h) (none_above (oldest n t))

pub returned : (p : Puzzle) (t : List Move) (l : Level) (ls : List Level) → AreStacked p t (l ∷ ls) →
    AreStacked p (oldest l.base t) (l ∷ ls) × (to_give p (oldest l.base t) (l ∷ ls) ≡ to_give p t (l ∷ ls))
    × (visits p (oldest l.base t) (l ∷ ls) ≡ visits p t (l ∷ ls)) × (l.base ≡ length (oldest l.base t))
returned p t l ls stacked =
    let above = above_oldest l.base t stacked.0.within.1 in grind (arith, oldest-oldest, length-oldest, above)

-- below a level's tweaks stands no other, down to its mark
pub record EndsTweaks (t : List Move) (l : Level) : Type 0 where
  pub all : NoTweakAbove (length (oldest l.base t) - l.tweaks - 1) (drop l.tweaks (oldest l.base t))
  pub other : NoTweakAbove l.mark (drop l.tweaks (oldest l.base t))
  pub without : l.tweaks ≡ 0 → NoTweakAbove l.mark t

pub ends_tweaks : (p : Puzzle) (t : List Move) (l : Level) → IsLevel p t l → EndsTweaks t l
ends_tweaks p t l level =
    let u = oldest l.mark t in
    let s = after_spend p l.item u in
    let below : drop l.tweaks (oldest l.base t) ≡ s = ap (drop l.tweaks) level.base ∙ drop_tweaks l.tweaks l.item s in
    let mark_is : length u ≡ l.mark = length-oldest l.mark t (omega (arith, level.within)) in
    let plain : NoTweakAbove l.mark s =
    subst (λ k. NoTweakAbove k s) mark_is (plain_above (plain_after_spend p l.item u)) in
    let newest = next_above l.mark s (omega (arith, mark_is, spend_longer p l.item u)) plain in
    let height : length s - 1 ≡ length (oldest l.base t) - l.tweaks - 1 =
    omega (arith, ap length below, length-drop l.tweaks (oldest l.base t)) in
    let other : NoTweakAbove l.mark (drop l.tweaks (oldest l.base t)) = subst (NoTweakAbove l.mark) (sym below) plain in
    record {
      all = subst (λ k. NoTweakAbove k (drop l.tweaks (oldest l.base t))) height
          (subst (NoTweakAbove (length s - 1)) (sym below) newest.0);
      other = other;
      without = λ none. above_both l.mark l.base t level.above
          (subst (λ k. NoTweakAbove l.mark (drop k (oldest l.base t))) none other);
    }

-- a level whose branches were all begun gives nothing more
pub finished : (p : Puzzle) (t : List Move) (l : Level) (ls : List Level) → AreStacked p t (l ∷ ls) → l.count ≤ l.begun
    → (to_give p t (l ∷ ls) ≡ to_give p (oldest l.mark t) ls) × (visits p (oldest l.mark t) ls < visits p t (l ∷ ls))
unfolding branches_at
finished p t l ls stacked h =
    let u = oldest l.mark t in
    let w = wanted_at p u l.item in
    grind (arith, branches_end (residual_of p u) w)

-- its tweaks are the newest moves
pub closing : (p : Puzzle) (t : List Move) (l : Level) → IsLevel p t l → l.base ≡ length t
    → (0 < l.tweaks → AreTweaks l.tweaks t) × (l.mark + l.tweaks ≤ length t)
closing p t l is_level whole =
    let t_is = ground_is is_level whole in
    let mark_is = length-oldest l.mark t (omega (arith, is_level.within)) in
    let longer = ext_longer (ext_after_spend p l.item (oldest l.mark t)) in
    grind (arith, common_steps, length-append, length-replicate)

-- ======== Once a branch was begun, what it leaves comes first.

pub choices_more : (p : Puzzle) (k : Level) (ls : List Level)
    → choices_of p (k ∷ ls) ≡ choices_of p ls ++ chosen p k ∷ []
choices_more p k ls = ap (map (chosen p)) (reverse-append (k ∷ []) ls) ∙ map-append (chosen p) (reverse ls) (k ∷ [])

pub begun_coming : (p : Puzzle) (t s : List Move) (l k : Level) (ls : List Level) → AreStacked p t (l ∷ ls)
    → IsBegun p t l s k → (coming p s (k ∷ ls) true ≡ to_give p t (l ∷ ls)) × AreStacked p s (k ∷ ls)
    × (ahead p s (k ∷ ls) true < visits p t (l ∷ ls))
begun_coming p t s l k ls stacked b =
    let u = oldest l.mark t in
    grind (
      arith,
      common_steps,
      drop_at (branches_at p u l.item) l.begun b.branch b.at,
      map-same,
      choices_more,
      append_assoc,
    )

-- ======== Each level has its own Spend, and takes an option or a primary item away.

spent_above : (ms t : List Move) → spendings t ≤ spendings (ms ++ t)
spent_above [] t = omega arith
spent_above (m ∷ ms) t = grind (arith, spent_above ms t)

spent_oldest : (n : ℕ) (t : List Move) → spendings (oldest n t) ≤ spendings t
spent_oldest n t =
    omega (arith, spent_above (take (length t - n) t) (oldest n t), ap spendings (take-append-drop (length t - n) t))

pub depth : (p : Puzzle) (t : List Move) (ls : List Level) → AreStacked p t ls → length ls ≤ spendings t
depth p t [] s = omega arith
depth p t (l ∷ ls) s =
    let u = oldest l.mark t in
    omega (arith, depth p u ls s.2, spent_oldest l.base t, ap spendings s.0.base, spent_tweaked, spent_after_spend)

pub shallow_first : (p : Puzzle) → IsShallow p [] []
shallow_first p = grind (arith, common_steps, length-filter-le, length-range_with_len, length-numbered_from)

-- a branch leaves less than there was at its level
pub shallower : (p : Puzzle) (t s : List Move) (l k : Level) (ls : List Level) → AreStacked p t (l ∷ ls)
    → IsBegun p t l s k → IsShallow p s (k ∷ ls)
unfolding branches_at
shallower p t s l k ls stacked b =
    let u = oldest l.mark t in
    let r = residual_of p u in
    let w = wanted_at p u l.item in
    grind (arith, each_at, each_less r w (open_in p u l.item stacked.0.node.item stacked.0.node.is_open))

-- where an item is open something is left
some_left : (p : Puzzle) (t : List Move) (i : ℕ) → IsNode p t i → 0 < size_of (residual_of p t)
some_left p t i n = omega (arith, less_items (wanted_at p t i) (wanted_after p t) (open_in p t i n.item n.is_open))

-- before another level is begun there is room for it
pub depth_at : (p : Puzzle) (t : List Move) (ls : List Level) (i : ℕ) → AreStacked p t ls → IsShallow p t ls
    → IsNode p t i → length ls < most_levels p
depth_at p t ls i s h n =
    let few = few_spendings p (after_spend p i t) (legal_node p i t n) in
    omega (arith, h, some_left p t i n, depth p t ls s, spent_after_spend p i t, few)

-- ======== The levels of a search lead to where it stands.

-- a branch was begun
pub led_begun : (x : Bool) (p : Puzzle) (u t s : List Move) (l k : Level) (ls : List Level) → IsBegun p t l s k
    → MayLead x p (oldest l.mark t) l.item → AreLedBy x p u (oldest l.mark t) ls → AreLedBy x p u s (k ∷ ls)
led_begun x p u t s l k ls b first a = grind (arith)

-- ======== A search that goes on over many members.

rest_behind : {X : Type 0} (n : ℕ) (ms : List X) (m : X) (rest : List X) → drop n ms ≡ m ∷ rest → rest ≡ drop (n + 1) ms
rest_behind n ms m rest e = sym (ap (drop 1) e) ∙ drop-drop 1 n ms

pub drop_past : {X : Type 0} (n : ℕ) (ms : List X) → length ms ≤ n → drop n ms ≡ []
drop_past n ms h = drop_all n ms h

-- the member behind the first n is shown after one more
pub shown_next : (n : ℕ) (ms : List (List Choice)) (s m : List Choice) (rest : List (List Choice))
    → drop n ms ≡ m ∷ rest → m ≡ shown_after (n + 1) ms s
shown_next zero [] s m rest e = absurd (cc e)
shown_next (suc n) [] s m rest e = absurd (cc e)
shown_next zero (x ∷ ms) s m rest e = cc e
shown_next (suc n) (x ∷ ms) s m rest e = grind (arith, shown_next n ms x m rest e)

-- none is shown where there are fewer
pub shown_past : (n : ℕ) (ms : List (List Choice)) (s : List Choice) → length ms < n → [] ≡ shown_after n ms s
shown_past zero [] s h = absurd (omega (arith, h))
shown_past (suc n) [] s h = refl
shown_past zero (x ∷ ms) s h = absurd (omega (arith, h))
shown_past (suc n) (x ∷ ms) s h = shown_past n ms x (omega (arith, h))

-- the search stands behind what was looked at
pub stands_behind : (p : Puzzle) (t : List Move) (ls : List Level) → AreStacked p t ls → IsStanding p t ls false
stands_behind p t ls a = record { stacked = a; searchable = λ e. cc; shallow = λ e. cc }

-- it stands at the member behind the first n
pub went_to : (d e : Dancing) (ls ks : Levels) (down : Bool) (n : ℕ)
    → (e ≡ record d { trail = e.trail; undone = e.undone })
    × (ks ≡ record ls { levels = ks.levels; begun = ks.begun }) → IsSolved e.puzzle e.trail ks.levels →
    drop n (coming d.puzzle d.trail ls.levels down) ≡ coming e.puzzle e.trail ks.levels true
    → WentOver d ls down (n + 1) e ks
went_to d e ls ks down n still at come = grind (arith, common_steps, solution, rest_behind, shown_next)

-- The search stands at a solution where what is left was searched: it finds that one again, and passes over one more.
pub record HasToPass (p : Puzzle) (t : List Move) (ls : List Level) (down : Bool) (many more : ℕ) : Type 0 where
  pub first : down ≡ true → many ≡ more + 1
  pub again : down ≡ false → (many ≡ more) × IsSolved p t ls

-- and does so
pub went_over : {d e : Dancing} {ls ks : Levels} (down : Bool) {many more : ℕ} → 0 < many
    → HasToPass d.puzzle d.trail ls.levels down many more
    → (e ≡ record d { trail = e.trail; undone = e.undone }) × (ks ≡ record ls { levels = ks.levels; begun = ks.begun })
    → IsSolved e.puzzle e.trail ks.levels
    → drop more (coming d.puzzle d.trail ls.levels true) ≡ coming e.puzzle e.trail ks.levels true
    → WentOver d ls down many e ks
went_over {d} {e} {ls} {ks} true {more = more} some has still solved members =
    grind (arith, went_to d e ls ks true more still solved members)
went_over {d} {e} {ls} {ks} false {many} some has still solved members =
    by_number many (λ h. absurd (omega (arith, some, h))) (λ n h.
    let was = (has.again refl).1 in
    let found = solution d.puzzle d.trail ls.levels (was.standing.searchable refl).legal was.none in
    let ms = coming d.puzzle d.trail ls.levels true in
    let over = ap (drop (suc n)) (sym found) ∙ ap (λ n. drop n ms) (sym h ∙ (has.again refl).0) in
    let all : n + 1 ≡ many = omega (arith, h) in
    subst (λ n. WentOver d ls false n e ks) all (went_to d e ls ks false n still solved (over ∙ members)))

-- there were no more
pub went_past : {d e : Dancing} {ls ks : Levels} (down : Bool) {many more : ℕ} (n : ℕ) {lacks : ℕ}
    → HasToPass d.puzzle d.trail ls.levels down many more
    → (e ≡ record d { trail = e.trail; undone = e.undone }) × (ks ≡ record ls { levels = ks.levels; begun = ks.begun })
    → ks.levels ≡ [] → more ≡ lacks + length (coming d.puzzle d.trail ls.levels true) →
    (lacks < many) × (n + 1 + lacks ≡ many → WentPast d ls down n e ks)
went_past true n has still ended count = grind arith
went_past false n has still ended count = grind (arith, solution)

-- a member is shown whatever was shown before
shown_anyway : (n : ℕ) (ms : List (List Choice)) (s t : List Choice) → 0 < n → n ≤ length ms →
    shown_after n ms s ≡ shown_after n ms t
shown_anyway zero ms s t h k = absurd (omega (arith, h))
shown_anyway (suc n) [] s t h k = absurd (omega (arith, k))
shown_anyway (suc n) (m ∷ ms) s t h k = refl

abbrev outlook : Dancing → Levels → Bool → Outlook
outlook d ls down = record {
  puzzle = d.puzzle;
  to_come = coming d.puzzle d.trail ls.levels down;
  shown = choices_of d.puzzle ls.levels;
  ahead = ends_ahead d.puzzle d.trail ls.levels down;
  room = d.room;
  made = moves_made d;
}

-- what this stands for after many more of its members
abbrev past : ℕ → ℕ → Outlook → Outlook
past many made o = record o {
  to_come = drop many o.to_come;
  shown = shown_after many o.to_come o.shown;
  ahead = ends_after many o.ahead;
  made = made;
}

module _ {d e : Dancing} {ls ks : Levels} {down below : Bool} {many n : ℕ} (p : WentBy d ls down many n e ks below)
    (q : PaysFor d ls down many e ks)
  where
    pub outlook_passed : (o : Outlook) → outlook d ls down ≡ o
        → (outlook e ks below ≡ past many (moves_made e) o) × (n ≡ min many (length o.to_come))
    outlook_passed o is = grind (arith, drop_past, shown_past, p.past, p.over, p.within, p.searched, q.ends)

    pub few_made : (o : Outlook) → outlook d ls down ≡ o → MakesFew o (outlook e ks below)
    few_made o is = rw (← is, p.searched) q.made

    -- and where it stands
    pub stands_there : IsStanding e.puzzle e.trail ks.levels below
        × (ks.levels ≢ [] → IsSolved e.puzzle e.trail ks.levels) × (e.puzzle ≡ d.puzzle) × (ks.room ≡ ls.room)
    stands_there = by_bool (nat_lt n many)
        (λ h. let w = p.past (ltb-true n many h) in grind (arith, stands_behind, p.searched))
        (λ h. let w = p.over (omega (arith, p.within, ltb-false n many h)) in
        grind (arith, stands_behind, p.searched))

-- what a search stands for after many more members, all of which were there
pub search_over : (w v o : Outlook) (shown : List Choice) (many : ℕ) → 0 < many → many ≤ length w.to_come
    → v ≡ past many v.made w → record w { shown = shown } ≡ o → record v { shown = v.shown } ≡ past many v.made o
search_over w v o shown many some there was is = grind (arith, shown_anyway)

-- ======== The steps of the search's loop.

pub GoesOn-trans : (d e f : Dancing) (ls ks js : Levels) (x y z : Bool) → GoesOn d ls x e ks y → GoesOn e ks y f js z
    → GoesOn d ls x f js z
GoesOn-trans d e f ls ks js x y z a b = grind (arith)

pub node_at : (p : Puzzle) (t : List Move) (ls : List Level) (i n : ℕ) → IsStanding p t ls true → MayBranch p t i n
    → IsNode p t i
node_at p t ls i n s may = record { searchable = s.searchable refl; item = may.item; is_open = may.is_open }

-- the levels with one more
abbrev pub with_level : Level → Levels → Levels
with_level l ls = record ls { levels = l ∷ ls.levels }

-- and that one began a branch
abbrev pub with_begun : Level → Levels → Levels
with_begun l ls = record ls { levels = l ∷ ls.levels; begun = ls.begun + 1 }

-- State e has the own moves of level l, which begins on levels ls in state d at item i with n branches.
pub record Opens (d e : Dancing) (ls : Levels) (i n : ℕ) (l : Level) : Type 0 where
  pub spent : e ≡ record d { trail = after_spend d.puzzle i d.trail }
  pub level : l ≡ first_level d.puzzle d.trail i n
  pub standing : IsStanding d.puzzle d.trail ls.levels true
  pub next : MayBranch d.puzzle d.trail i n

-- it stands with its own moves, nothing is lost, and less is ahead
pub deepens : {d e : Dancing} {ls : Levels} {i n : ℕ} {l : Level} → Opens d e ls i n l →
    GoesOn d ls true e (with_level l ls) false × (visits d.puzzle e.trail (l ∷ ls.levels) < work_left d ls true)
    × (oldest l.mark e.trail ≡ d.trail) × (l.base ≡ length e.trail)
deepens {d} {e} {ls} {i} {n} {l} o = grind (arith, descended, stands_behind, ext_whole, ext_after_spend)

-- what goes on and then enters a branch enters it
pub goes_on_to : (d e f : Dancing) (ls ks js : Levels) (x y : Bool) (i q : ℕ) → GoesOn d ls x e ks y →
    ahead e.puzzle e.trail ks.levels y ≤ ahead d.puzzle d.trail ls.levels x → ks.begun ≡ ls.begun
    → moves_made e ≤ moves_made d → EntersBranch e ks y f js i q
    → EntersBranch d ls x f js i q
goes_on_to d e f ls ks js x y i q on less begun made enters = grind (arith)

-- Branch b, the next one of level l, was entered: the search came from d to f, the levels from vs to ks. A path that
-- led to the level goes on with the branch.
abbrev pub EntersNext : Dancing → Dancing → Level → Begun → Levels → Levels → Type 0
EntersNext d f l b vs ks = EntersBranch d vs false f ks l.item b.place
    × ((x : Bool) (u : List Move) → MayLead x d.puzzle (oldest l.mark d.trail) l.item
    → AreLedBy x d.puzzle u (oldest l.mark d.trail) (drop 1 vs.levels)
    → AreLedBy x f.puzzle u (branched f l.item b.place).trail ks.levels)

-- the next branch of the newest level is entered, and goes on with the path below the level
pub enters_next : (d f : Dancing) (l : Level) (b : Begun) (vs ks : Levels) → AreStacked d.puzzle d.trail vs.levels
    → vs.levels ≡ l ∷ drop 1 vs.levels → f ≡ record d { trail = f.trail; undone = f.undone }
    → f.undone ≤ moves_made d → IsEntered d.puzzle (oldest l.base d.trail) l f.trail (begun_level b l)
    → ks ≡ record vs { levels = newest_begun b vs.levels; begun = vs.begun + 1 }
    → EntersNext d f l b vs ks
enters_next d f l b vs ks stacked top ef undid entered ek =
    let p = d.puzzle in
    let k = begun_level b l in
    let js = drop 1 vs.levels in
    let here = rw top at stacked in
    let s = oldest l.base d.trail in
    let v = after_branch p l.item (option_at p l.item b.place) f.trail in
    let back = returned p d.trail l js here in
    let all = begun_coming p s v l k js back.0 entered.begun in
    let under = oldest-oldest l.mark l.base d.trail here.0.within.0 here.0.within.1 in
    let levels : ks ≡ record vs { levels = k ∷ js; begun = vs.begun + 1 } =
    ek ∙ ap (λ ls. record vs { levels = newest_begun b ls; begun = vs.begun + 1 }) top in
    rw levels (subst (λ (f : Dancing). EntersNext d f l b vs (record vs { levels = k ∷ js; begun = vs.begun + 1 }))
    (sym ef) (
      grind (arith, entered, all, back, shallower p s v l k js back.0 entered.begun, top),
      λ x u first a. led_begun x p u s v l k js entered.begun (rw under first) (rw under a),
    ))

-- the state before a level that ends with no branch begun
pub back_before : {d e : Dancing} {ls : Levels} {i n : ℕ} {l : Level} → Opens d e ls i n l → (f : Dancing)
    → f ≡ record e { trail = oldest l.mark e.trail; undone = e.undone + (length e.trail - l.mark) }
    → f ≡ record d { undone = f.undone }
back_before {d} {e} {ls} {i} {n} {l} o f ef =
    let took : ℕ = e.undone + (length e.trail - l.mark) in
    ef ∙ ap₂ (λ (e : Dancing) t. record e { trail = t; undone = took }) o.spent (deepens o).2
    ∙ ap (λ n. record d { undone = n }) (sym (ap (λ (f : Dancing). f.undone) ef))

-- what is asked back at a level
pub back_at : (p : Puzzle) (t r : List Move) (l : Level) (ls : List Level) → AreStacked p t (l ∷ ls)
    → r ≡ oldest l.base t →
    IsLevel p r l × (l.base ≡ length r) × (0 < l.tweaks → AreTweaks l.tweaks r) × (l.mark + l.tweaks ≤ length r)
back_at p t r l ls stacked er = grind (arith, returned p t l ls stacked, closing)

-- below a level's tweaks stand the moves below the level
pub under_tweaks : (p : Puzzle) (t : List Move) (l : Level) (ls : List Level) → AreStacked p t (l ∷ ls)
    → oldest l.mark (drop l.tweaks (oldest l.base t)) ≡ oldest l.mark t
under_tweaks p t l ls stacked =
    let u = oldest l.base t in
    let back = back_at p t u l ls stacked refl in
    grind (arith, common_steps)

-- and in all, the moves above it were undone
undone_all : (p : Puzzle) (t : List Move) (l : Level) (ls : List Level) → AreStacked p t (l ∷ ls) → (u : ℕ)
    → u + (length t - l.base) + l.tweaks + (length (drop l.tweaks (oldest l.base t)) - l.mark)
    ≡ u + (length t - l.mark)
undone_all p t l ls stacked u = grind (arith, oldest, back_at, length-drop)

pub ended_level : (p : Puzzle) (d : Dancing) (l : Level) (ls : List Level) → AreStacked p d.trail (l ∷ ls) → record d {
  trail = oldest l.mark (drop l.tweaks (oldest l.base d.trail));
  undone = d.undone + (length d.trail - l.base) + l.tweaks
      + (length (drop l.tweaks (oldest l.base d.trail)) - l.mark);
} ≡ record d { trail = oldest l.mark d.trail; undone = d.undone + (length d.trail - l.mark) }
ended_level p d l ls stacked =
    rw (under_tweaks p d.trail l ls stacked, undone_all p d.trail l ls stacked d.undone) refl

-- one level after another ends, and no move is made
pub unwound : (d e n : Dancing) (l : Level) (vs ks : Levels) → e ≡ record d { trail = e.trail; undone = e.undone }
    → moves_made e ≡ moves_made d → AreStacked e.puzzle e.trail vs.levels → vs.levels ≡ l ∷ drop 1 vs.levels
    → n ≡ record e { trail = oldest l.mark e.trail; undone = e.undone + (length e.trail - l.mark) }
    → ks ≡ record vs { levels = drop 1 vs.levels } → (n ≡ record d { trail = n.trail; undone = n.undone })
    × (moves_made n ≡ moves_made d) × AreStacked n.puzzle n.trail ks.levels
unwound d e n l vs ks still made stacked top en ek = grind (arith, oldest, length-oldest)

-- ======== A search begins with all members to come.

wanted_at_first : (i : ℕ) (bs : List Bounds) → AllByRecursion AreSoundBounds bs → AreAllWanted (wanted_from i bs)
wanted_at_first i [] a = tt
wanted_at_first i (b ∷ bs) a = (lt-ltb 0 b.high (omega (arith, a.0)), wanted_at_first (i + 1) bs a.1)

pub starts_standing : (p : Puzzle) → IsValid p → (q : Puzzle) (t : List Move) (ls : List Level) → q ≡ p → t ≡ []
    → ls ≡ [] → IsStanding q t ls true
starts_standing p v q t ls e et el =
    grind (arith, no_moves_leave_all, wanted_at_first, recursion_from_All, sparing_first, shallow_first)

-- where no level stands, what comes is what is left
pub comes_alone : (p : Puzzle) (t : List Move) (ls : List Level) → ls ≡ []
    → coming p t ls true ≡ listing (residual_of p t)
comes_alone p t ls e = grind (arith, common_steps, map-id (listing (residual_of p t)))

pub starts_coming : (p : Puzzle) (t : List Move) (ls : List Level) → t ≡ [] → ls ≡ [] → coming p t ls true ≡ members p
starts_coming p t ls et el = grind (arith, comes_alone, no_moves_leave_all p)

pub starts_ends : (p : Puzzle) (t : List Move) (ls : List Level) → t ≡ [] → ls ≡ []
    → ends_ahead p t ls true ≡ ends (whole p)
starts_ends p t ls et el = grind (arith, common_steps, no_moves_leave_all p)
