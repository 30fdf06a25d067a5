-- The moves of levels and branches, and that the room for them is enough.
use Rattle.std.proofs.lemmas.Grind.{common_steps}
use Rattle.std.proofs.Common.{ℕ, zero, suc, ◌≡◌, ◌≢◌, ◌-◌, ◌≤◌, Bool, true, false, not, ◌&&◌, eqb, List, [], ◌∷◌}
use Rattle.std.proofs.Common.{length, filter, take, drop, Some, None, refl, sym, ap, ◌∙◌, arith, eqb-true, eq-eqb}
use Rattle.std.proofs.Common.{le-leb, lt-ltb, le-ltb, ne_eqb, cond, ◌+◌, ◌<◌, ◌++◌, map, subst, leb, leb-true}
use Rattle.std.proofs.Common.{leb-false, Option, length-drop, ◌*◌}
use Rattle.std.proofs.lemmas.Bool.{lt-leb, eqb-false}
use Rattle.std.proofs.lemmas.List.Elements.{filter_agree, recursion_from_All}
use Rattle.std.specs.Prelude.{nat_le, slice_get, is_some, sum_by, unwrap_or}
use Rattle.std.proofs.lemmas.Option.{slice_get_within}
use Rattle.std.proofs.lemmas.List.Sums.{sum_by-cons}
use Rattle.std.specs.List.{range_with_len, AllByRecursion}
use Rattle.std.proofs.lemmas.List.{length-map}
use Rattle.std.proofs.lemmas.List.FromFn.{length-range_with_len}
use Rattle.xc_input.specs.declared.problem.Use.{Use}
use Rattle.xc_input.specs.Problem.{Puzzle, Numbered, holds, high_at, IsItem, holding, primary_count, uses_of}
use Rattle.xc_input.specs.Problem.{numbered_options, colour_in, item_count, use_count}
use Rattle.xc_input.specs.UsePlaces.{place_in}
use Rattle.xc_input.specs.declared.problem.Bounds.{Bounds}
use Rattle.xc_text.proofs.ListLemmas.{each_of_all, filter_both, keep_all, only_rest, drop_one, in-filter, in-slice_get}
use Rattle.xc_text.proofs.ListLemmas.{each_from, by_bool, by_number, each_weaker, each_passes, each_at, each_turned}
use Rattle.xc_text.proofs.ListLemmas.{each_both, length-filter-le, total, total_zero, total_le, total_less, one_if}
use Rattle.xc_text.proofs.ListLemmas.{total_same, total_two, total_once, IsIn, total_shifted}
use Rattle.xc_input.proofs.OptionLemmas.{numbered_from}
use Rattle.xc_moves.specs.declared.dance.Move.{Move}
use Rattle.xc_moves.specs.declared.dance.Move.TheVariants.{Cover, Tweak, Spend, Purify}
use Rattle.xc_moves.specs.Moves.{listed, is_open, purified, spends, without, is_among, AreLegal, open_items}
use Rattle.xc_moves.specs.inner.Left.{left}
use Rattle.xc_moves.specs.Commits.{after_spend, after_use, after_uses, others}
use Rattle.xc_moves.proofs.LeftLemmas.{listed_open, left_rises, without_first}
use Rattle.xc_moves.proofs.MoveLemmas.{rises_filter, Rises, numbers, primary_pure}
use Rattle.xc_search.specs.Listing.{Residual, may_stay, Wanted, pick, none, stays}
use Rattle.xc_search.specs.Residuals.{wanted_after, wanted_at}
use Rattle.xc_search.specs.inner.Levels.{residual_of, item_left, tweaked, IsNode, after_none, IsOptionAt, oldest}
use Rattle.xc_search.specs.inner.Levels.{NoTweakAbove, is_tweak, after_branch, spendings, count_of_uses, IsSparing}
use Rattle.xc_search.specs.inner.Levels.{high_total}
use Rattle.xc_search.specs.Room.{room_for}
use Rattle.xc_search.proofs.ResidualLemmas.{commit_use, as_residual, found_wanted, opening_commits, spent_self}
use Rattle.xc_search.proofs.ResidualLemmas.{has_left, cut, dec, uses_committed, still_wanted, residual_spend}
use Rattle.xc_search.proofs.ResidualLemmas.{residual_cover, Ready, AreReady, ready_after, ready_later, Leaves}
use Rattle.xc_search.proofs.ResidualLemmas.{commit_all, left_options, of_left, ready_left, placed, apart_turned}
use Rattle.xc_search.proofs.ResidualLemmas.{committed_picks}
use Rattle.xc_search.proofs.ListingLemmas.{above_in, Apart, AreApart, apart_sym, apart_from_pairs, IsOption, less_items}

-- ======== Opening a level, and tweaks of its item.

-- ---- what tweaks leave as it was

pub kept_tweaked : {A : Type 0} (f : List Move → A) (m i : ℕ) (s : List Move)
    → ((t : List Move) → f (Tweak i ∷ t) ≡ f t) → f (tweaked m i s) ≡ f s
kept_tweaked f zero i s h = refl
kept_tweaked f (suc m) i s h = h (tweaked m i s) ∙ kept_tweaked f m i s h

pub listed_tweaked : (p : Puzzle) (m i : ℕ) (s : List Move) → listed p (tweaked m i s) i ≡ drop m (listed p s i)
listed_tweaked p zero i s = refl
listed_tweaked p (suc m) i s = grind (arith, listed_tweaked p m i s, eq-eqb, drop_one)

pub legal_tweaked : (p : Puzzle) (m i : ℕ) (s : List Move) → AreLegal p s → IsItem p i → purified i s ≡ None
    → m ≤ length (listed p s i) → AreLegal p (tweaked m i s)
legal_tweaked p zero i s l h q k = l
legal_tweaked p (suc m) i s l h q k =
    let pure = kept_tweaked (purified i) m i s (λ _. refl) in
    grind (arith, common_steps, legal_tweaked p m i s l h q, listed_tweaked)

pub left_closed : (p : Puzzle) (m i : ℕ) (s : List Move) → is_open i s ≡ false → left p (tweaked m i s) ≡ left p s
left_closed p zero i s e = refl
left_closed p (suc m) i s e = rw (kept_tweaked (is_open i) m i s (λ _. refl) ∙ e) (left_closed p m i s e)

-- ---- the first options that hold an item

-- these options without the first m that hold item i
abbrev pub off : ℕ → ℕ → List Numbered → List Numbered
off i zero os = os
off i (suc m) [] = []
off i (suc m) (o ∷ os) = cond (holds o i) (off i m os) (o ∷ off i (suc m) os)

not_first : (o : Numbered) (os : List Numbered) → Rises o.number (numbers os) → is_among (take 1 os) o ≡ false
not_first o [] r = refl
not_first o (x ∷ os) r = grind (arith, ne_eqb)

off_one : (i n : ℕ) (os : List Numbered) → Rises n (numbers os) → without (take 1 (holding i os)) os ≡ off i 1 os
off_one i n [] r = refl
off_one i n (o ∷ os) r =
    let stays = not_first o (holding i os) (rises_filter (λ o. holds o i) o.number os r.1) in
    by_bool (holds o i) (λ h. grind (arith, h, without_first n (o ∷ os) r))
    (λ h. grind (arith, h, stays, off_one i o.number os r.1))

off_more : (i m : ℕ) (os : List Numbered) → off i 1 (off i m os) ≡ off i (suc m) os
off_more i zero os = refl
off_more i (suc m) [] = refl
off_more i (suc m) (o ∷ os) = grind (arith, off_more i m os, off_more i (suc m) os)

-- the first m + 1 that hold the item are those up to the option at place m
off_up_to : (i m n : ℕ) (os : List Numbered) (x : Numbered) → Rises n (numbers os) → slice_get (holding i os) m ≡ Some x
    → off i (suc m) os ≡ filter (λ o. not (holds o i && nat_le o.number x.number)) os
off_up_to i m n [] x r e = cc
off_up_to i m n (o ∷ os) x r e = by_bool (holds o i) (λ h. by_number m
    (λ z. let same : o ≡ x = grind (arith, h, e, z) in
    let later = keep_all (λ y. not (holds y i && nat_le y.number x.number)) os (each_from _ os (λ y k.
    grind (arith, above_in o.number os y r.1 k, lt-leb))) in
    grind (arith, later, le-leb))
    (λ k z. let found : slice_get (holding i os) k ≡ Some x = grind (arith, h, e, z) in
    let above = above_in o.number os x r.1 (in-filter _ _ _ (in-slice_get _ _ _ found)).0 in
    grind (arith, off_up_to i k o.number os x r.1 found, le-leb)))
    (λ h. grind (arith, off_up_to i m o.number os x r.1))

-- the others stay
pub off_others : (i m : ℕ) (os : List Numbered)
    → filter (λ o. not (holds o i)) (off i m os) ≡ filter (λ o. not (holds o i)) os
off_others i zero os = refl
off_others i (suc m) [] = refl
off_others i (suc m) (o ∷ os) = grind (arith, off_others i m os, off_others i (suc m) os)

pub left_off : (p : Puzzle) (m i : ℕ) (s : List Move) → is_open i s ≡ true
    → left p (tweaked m i s) ≡ off i m (left p s)
left_off p zero i s o = refl
left_off p (suc m) i s o = rw (kept_tweaked (is_open i) m i s (λ _. refl) ∙ o)
    (off_one i 0 (left p (tweaked m i s)) (left_rises p (tweaked m i s)) ∙ ap (off i 1) (left_off p m i s o)
    ∙ off_more i m (left p s))

-- ---- a level is begun at an open primary item

pub legal_node : (p : Puzzle) (i : ℕ) (t : List Move) → IsNode p t i → AreLegal p (after_spend p i t)
legal_node p i t n = grind (arith, has_left)

pub legal_branch : (p : Puzzle) (m i : ℕ) (t : List Move) → IsNode p t i → m ≤ length (holding i (left p t))
    → AreLegal p (tweaked m i (after_spend p i t))
legal_branch p m i t n h = grind (arith, legal_tweaked, legal_node, primary_pure, listed_open)

pub listed_branch : (p : Puzzle) (m i : ℕ) (t : List Move) → IsNode p t i
    → listed p (tweaked m i (after_spend p i t)) i ≡ drop m (holding i (left p t))
listed_branch p m i t n = grind (arith, listed_tweaked, listed_open)

-- before option x at place k of the item's list is committed for the other items
pub branch_cut : (p : Puzzle) (u : Use) (t : List Move) (k m : ℕ) (x : Numbered) → IsNode p t u.item
    → slice_get (holding u.item (left p t)) k ≡ Some x →
    (high_at p u.item - spends u.item (Spend u.item ∷ t) ≢ 0 → m ≡ suc k) →
    residual_of p (tweaked m u.item (after_spend p u.item t)) ≡ commit_use u (cut (residual_of p t) u.item x.number)
branch_cut p u t k m x n e h =
    let i = u.item in
    let above : Numbered → Bool = λ o. not (holds o i && nat_le o.number x.number) in
    let stay = may_stay (item_left (residual_of p t) i) u in
    let left_over = high_at p i - spends i t in
    let found = found_wanted p t i n.item n.is_open in
    let commits =
    opening_commits p u t n.searchable.wanted n.item n.is_open (has_left p t i n.searchable.wanted n.item n.is_open) in
    by_bool (eqb (high_at p i - spends i (Spend i ∷ t)) 0) (λ c.
    let not_more = le-ltb 1 left_over (omega (arith, eqb-true _ _ c, spent_self i t)) in
    let s : List Move = Cover i ∷ Spend i ∷ t in
    rw c (as_residual _ _ _ _ (kept_tweaked (wanted_after p) m i s (λ _. refl))
    (left_closed p m i s (rw (eq-eqb i i refl) refl)) ∙ (rw c at commits) ∙ as_residual _ _ _ _ refl
    (filter_agree stay (λ o. above o && stay o) (λ o. rw (found, not_more)
    (sym (only_rest (holds o i) (nat_le o.number x.number)))) (left p t) ∙ sym (filter_both stay above (left p t)))))
    (λ c.
    let is_more = lt-ltb 1 left_over (omega (arith, eqb-false _ _ c, spent_self i t)) in
    let s : List Move = Spend i ∷ t in rw (c, h (eqb-false _ _ c)) (as_residual _ _ _ _
    (kept_tweaked (wanted_after p) (suc k) i s (λ _. refl) ∙ ap (λ (r : Residual). r.items) (rw c at commits))
    (left_off p (suc k) i s n.is_open ∙ off_up_to i k 0 (left p s) x (left_rises p s) e
    ∙ sym (keep_all stay (filter above (left p t))
    (each_of_all _ (filter above (left p t)) (λ o. rw (found, is_more) refl))))))

-- ======== A branch of a level, by its moves and by what is left.

-- ---- an option is taken

ready_behind : (p : Puzzle) (u v : Use) (t : List Move) (m : ℕ) → u.item ≤ primary_count p → eqb u.item v.item ≡ false
    → Ready p t v → Ready p (tweaked m u.item (after_spend p u.item t)) v
ready_behind p u v t m h e r =
    let it_is : after_use p u t ≡ after_spend p u.item t = rw (le-leb u.item (primary_count p) h) refl in
    let s = after_spend p u.item t in
    ready_later p s (tweaked m u.item s) v (kept_tweaked (is_open v.item) m u.item s (λ _. refl))
    (kept_tweaked (purified v.item) m u.item s (λ _. refl)) (kept_tweaked (spends v.item) m u.item s (λ _. refl))
    (subst (λ s. Ready p s v) it_is (ready_after p u t v (apart_sym u v e) r))

-- the moves of a branch of item i, with these other uses of option x
abbrev pub IsPicked : Puzzle → List Move → ℕ → ℕ → Numbered → List Use → Type 0
IsPicked p t m i x us = Leaves p (after_uses p us (tweaked m i (after_spend p i t))) (pick (residual_of p t) i x)

pub record Taken (p : Puzzle) (t : List Move) (m i : ℕ) (x : Numbered) : Type 0 where
  pub picked : IsPicked p t m i x (others i (uses_of p x.number))
  pub at : IsOptionAt p i x.number
  pub held : holds x i ≡ true
  pub uses : uses_of p x.number ≡ x.uses

taken_at : (p : Puzzle) (t : List Move) (k m : ℕ) (x : Numbered) (u : Use) (us vs : List Use) → IsOption p x
    → IsNode p t u.item → slice_get (holding u.item (left p t)) k ≡ Some x
    → (high_at p u.item - spends u.item (Spend u.item ∷ t) ≢ 0 → m ≡ suc k) → m ≤ suc k → x.uses ≡ us ++ u ∷ vs
    → IsPicked p t m u.item x (vs ++ us)
taken_at p t k m x u us vs option n e h le w =
    let s = tweaked m u.item (after_spend p u.item t) in
    let within = slice_get_within (holding u.item (left p t)) k x e in
    let apart = apart_turned us (u ∷ vs) (subst AreApart w (apart_from_pairs x.uses option.sound.distinct)) in
    let ready = each_turned (λ u. Ready p t u) us (u ∷ vs)
    (subst (AreReady p t) w (ready_left p t u.item k x n.searchable.legal n.searchable.wanted option e)) in
    let before = branch_cut p u t k m x n e h in
    let ready_then = each_both (Apart u) (Ready p t) (Ready p s) (vs ++ us)
    (λ v a r. ready_behind p u v t m n.item.1 a r) apart.0 ready.1 in
    subst (Leaves p (after_uses p (vs ++ us) s))
    (uses_committed (u ∷ vs ++ us) (cut (residual_of p t) u.item x.number) apart n.searchable.wanted
    ∙ committed_picks (residual_of p t) u.item x us (u ∷ vs) w)
    (commit_all p (vs ++ us) s (commit_use u (cut (residual_of p t) u.item x.number)) apart.1 ready_then
    (grind (arith, before, legal_branch, within, le, still_wanted u.item (wanted_after p t))))

option_at_item : (p : Puzzle) (i : ℕ) (x : Numbered) → IsOption p x → place_in i x.uses < length x.uses
    → IsOptionAt p i x.number
option_at_item p i x option within = grind (arith, each_weaker, recursion_from_All)

pub taken : (p : Puzzle) (t : List Move) (i k m : ℕ) (x : Numbered) → IsNode p t i
    → slice_get (holding i (left p t)) k ≡ Some x → (high_at p i - spends i (Spend i ∷ t) ≢ 0 → m ≡ suc k) → m ≤ suc k
    → Taken p t m i x
taken p t i k m x n e h le =
    let option = of_left (IsOption p) i k (left p t) x (left_options p n.searchable.valid t) e in
    let held : holds x i ≡ true = each_at _ _ _ _ (each_passes (λ o. holds o i) (left p t)) e in
    let pl = placed i x.uses held in
    let us = take (place_in i x.uses) x.uses in
    let vs = drop (place_in i x.uses + 1) x.uses in
    record {
      picked = subst (λ ws. IsPicked p t m i x (others i ws)) (sym option.uses)
          (taken_at p t k m x (record { item = i; colour = pl.colour }) us vs option n e h le pl.whole);
      at = option_at_item p i x option pl.within;
      held = held;
      uses = option.uses;
    }

-- ---- no option is taken

none_dec : (i : ℕ) (ws : List Wanted)
    → filter (λ w. not (eqb w.item i)) (map (dec i) ws) ≡ filter (λ w. not (eqb w.item i)) ws
none_dec i [] = refl
none_dec i (w ∷ ws) = grind (arith, by_bool, none_dec i ws)

spent_none : (p : Puzzle) (t : List Move) (i : ℕ) → none (residual_of p (Spend i ∷ t)) i ≡ none (residual_of p t) i
spent_none p t i = ap (λ r. none r i) (residual_spend p t i) ∙ as_residual _ _ _ _ (none_dec i (wanted_after p t)) refl

pub none_taken : (p : Puzzle) (t : List Move) (i m : ℕ) → IsNode p t i →
    residual_of p (after_none i (tweaked m i (after_spend p i t))) ≡ none (residual_of p t) i
none_taken p t i m n = by_bool (eqb (high_at p i - spends i (Spend i ∷ t)) 0) (λ c.
    let s : List Move = Cover i ∷ Spend i ∷ t in
    let shut : is_open i s ≡ false = rw (eq-eqb i i refl) refl in
    rw (c, kept_tweaked (is_open i) m i s (λ _. refl) ∙ shut)
    (as_residual _ _ _ _ (kept_tweaked (wanted_after p) m i s (λ _. refl)) (left_closed p m i s shut)
    ∙ residual_cover p (Spend i ∷ t) i ∙ spent_none p t i)) (λ c.
    let s : List Move = Spend i ∷ t in rw (c, kept_tweaked (is_open i) m i s (λ _. refl) ∙ n.is_open)
    (residual_cover p (tweaked m i s) i
    ∙ as_residual _ _ _ _ (ap (filter (λ w. not (eqb w.item i))) (kept_tweaked (wanted_after p) m i s (λ _. refl)))
    (ap (filter (λ o. not (holds o i))) (left_off p m i s n.is_open) ∙ off_others i m (left p s)) ∙ spent_none p t i))

pub legal_after_none : (p : Puzzle) (i : ℕ) (t : List Move) → IsItem p i → AreLegal p t → AreLegal p (after_none i t)
legal_after_none p i t h l = grind arith

-- ======== The oldest moves of a trail.

pub oldest-drop : (n : ℕ) (t : List Move) → n < length t → oldest n (drop 1 t) ≡ oldest n t
oldest-drop n [] h = absurd (omega (arith, h))
oldest-drop n (m ∷ t) h =
    let one_more : suc (length t) - n ≡ suc (length t - n) = omega (arith, h) in
    sym (ap (λ k. drop k (m ∷ t)) one_more)

pub oldest_all : (t : List Move) → oldest (length t) t ≡ t
oldest_all t = let none : length t - length t ≡ 0 = omega arith in ap (λ k. drop k t) none

-- ======== Moves among which no tweak stands.

-- moves on top, none of which is a tweak
pub data Plain : List Move → List Move → Type 0 where
  plain_none : {t : List Move} → Plain t t
  plain_more : {m : Move} {s t : List Move} → is_tweak m ≡ false → Plain s t → Plain (m ∷ s) t

pub plain_trans : {r s t : List Move} → Plain r s → Plain s t → Plain r t
plain_trans plain_none b = b
plain_trans (plain_more e a) b = plain_more e (plain_trans a b)

pub plain_after_spend : (p : Puzzle) (i : ℕ) (t : List Move) → Plain (after_spend p i t) t
plain_after_spend p i t = grind (arith, plain_none, plain_more)

pub plain_use : (p : Puzzle) (u : Use) (t : List Move) → Plain (after_use p u t) t
plain_use p u t = grind (arith, plain_none, plain_more, plain_after_spend)

pub plain_uses : (p : Puzzle) (us : List Use) (t : List Move) → Plain (after_uses p us t) t
plain_uses p [] t = plain_none
plain_uses p (u ∷ us) t = plain_trans (plain_uses p us (after_use p u t)) (plain_use p u t)

pub plain_branch : (p : Puzzle) (i : ℕ) (o : Option ℕ) (t : List Move) → Plain (after_branch p i o t) t
plain_branch p i None t = grind (arith, plain_none, plain_more)
plain_branch p i (Some o) t = plain_uses p (others i (uses_of p o)) t

pub none_above : (t : List Move) → NoTweakAbove (length t) t
unfolding NoTweakAbove
none_above [] = tt
none_above (m ∷ t) = λ h. absurd (omega (arith, h))

pub plain_above : {s t : List Move} → Plain s t → NoTweakAbove (length t) s
unfolding NoTweakAbove
plain_above {t = t} plain_none = none_above t
plain_above (plain_more e a) = λ h. (e, plain_above a)

-- no tweak is above the oldest n, and none among those down to the oldest k
pub above_both : (k n : ℕ) (t : List Move) → NoTweakAbove n t → NoTweakAbove k (oldest n t) → NoTweakAbove k t
unfolding NoTweakAbove
above_both k n [] a b = tt
above_both k n (m ∷ t) a b = by_bool (leb n (length t))
    (λ e. λ low.
    let h = leb-true n (length t) e in
    ((a h).0, above_both k n t (a h).1 (subst (NoTweakAbove k) (sym (oldest-drop n (m ∷ t) (omega (arith, h)))) b)))
    (λ e. grind (arith, leb-false))

-- the newest move, and those below it
pub next_above : (n : ℕ) (t : List Move) → n < length t → NoTweakAbove n t
    → NoTweakAbove (length t - 1) t × NoTweakAbove n (drop 1 t)
unfolding NoTweakAbove
next_above n [] h a = absurd (omega (arith, h))
next_above n (m ∷ t) h a = grind (arith, none_above t)

pub spend_longer : (p : Puzzle) (i : ℕ) (t : List Move) → length t < length (after_spend p i t)
spend_longer p i t = grind (arith)

pub drop_tweaks : (k i : ℕ) (t : List Move) → drop k (tweaked k i t) ≡ t
drop_tweaks zero i t = refl
drop_tweaks (suc k) i t = drop_tweaks k i t

-- ======== How many moves of a search stand: an item is closed once, and each of its tweaks takes an option off its
-- list.

-- how many moves of item i there can still be, without Spends
abbrev still : Puzzle → List Move → ℕ → ℕ
still p t i = one_if (is_open i t) + length (listed p t i)

abbrev still_all : Puzzle → List Move → ℕ
still_all p t = total (still p t) (range_with_len 1 (item_count p))

no_more : (p : Puzzle) (t : List Move) (m : Move) (i : ℕ) → still p (m ∷ t) i ≤ still p t i
no_more p t (Cover j) i = grind (arith, length-filter-le)
no_more p t (Purify j c) i = grind (arith, length-filter-le)
no_more p t (Tweak j) i = grind (arith, eqb-true, length-filter-le)
no_more p t (Spend j) i = omega arith

one_less : (p : Puzzle) (t : List Move) (m : Move) (j : ℕ) → IsItem p j → still p (m ∷ t) j < still p t j
    → still_all p (m ∷ t) < still_all p t
one_less p t m j at less =
    total_less (still p (m ∷ t)) (still p t) j 1 (item_count p) at.0 (omega (arith, at)) (no_more p t m) less

moves_counted : (p : Puzzle) (t : List Move) → AreLegal p t → length t + still_all p t ≤ spendings t + still_all p []
moves_counted p [] l = omega arith
moves_counted p (Cover j ∷ t) l = grind (arith, one_less p t (Cover j) j, moves_counted p t l.1)
moves_counted p (Purify j c ∷ t) l = grind (arith, one_less p t (Purify j c) j, moves_counted p t l.1)
moves_counted p (Tweak j ∷ t) l =
    grind (arith, moves_counted p t l.1, one_less p t (Tweak j) j, eq-eqb j j refl, length-drop)
moves_counted p (Spend j ∷ t) l = omega (arith, moves_counted p t l.1)

held_le : (u : Use) (us : List Use) (i : ℕ)
    → one_if (is_some (colour_in (u ∷ us) i)) ≤ one_if (eqb u.item i) + one_if (is_some (colour_in us i))
held_le u us i = grind arith

held_few : (us : List Use) (a n : ℕ) → total (λ i. one_if (is_some (colour_in us i))) (range_with_len a n) ≤ length us
held_few [] a n = omega (arith, total_zero (range_with_len a n))
held_few (u ∷ us) a n =
    let is = range_with_len a n in
    let more = total_le _ _ is (held_le u us) in
    let two = total_two (λ i. one_if (eqb u.item i)) (λ i. one_if (is_some (colour_in us i))) is in
    omega (arith, more, two, total_once u.item a n, held_few us a n)

total_ones : (a n : ℕ) → total (λ i. 1) (range_with_len a n) ≡ n
total_ones a zero = refl
total_ones a (suc n) = omega (arith, total_ones (a + 1) n)

holding_more : (o : Numbered) (os : List Numbered) (i : ℕ)
    → 1 + length (holding i (o ∷ os)) ≡ one_if (is_some (colour_in o.uses i)) + (1 + length (holding i os))
holding_more o os i = grind arith

held_all : (os : List Numbered) (a n : ℕ) → total (λ i. 1 + length (holding i os)) (range_with_len a n)
    ≤ n + count_of_uses os
held_all [] a n = omega (arith, total_ones a n)
held_all (o ∷ os) a n =
    let is = range_with_len a n in
    let more = total_same _ _ is (holding_more o os) in
    let two = total_two (λ i. one_if (is_some (colour_in o.uses i))) (λ i. 1 + length (holding i os)) is in
    omega (arith, more, two, held_few o.uses a n, held_all os a n)

pub uses_whole : (k : ℕ) (os : List (List Use)) → count_of_uses (numbered_from k os) ≡ sum_by (λ us. length us) os
uses_whole k [] = refl
uses_whole k (us ∷ os) = omega (arith, uses_whole (k + 1) os, sum_by-cons (λ (us : List Use). length us) us os)

-- a trail of a search has room
pub has_room : (p : Puzzle) (t : List Move) → AreLegal p t → spendings t ≤ use_count p.options + primary_count p
    → length t ≤ room_for p
has_room p t l s =
    omega (arith, moves_counted p t l, held_all (numbered_options p) 1 (item_count p), uses_whole 1 p.options)

-- ======== The Spends of a search are no more than the uses of the options that were taken and the items that were
-- left out.

-- ---- Spends of the moves

pub spent_tweaked : (m i : ℕ) (s : List Move) → spendings (tweaked m i s) ≡ spendings s
spent_tweaked m i s = kept_tweaked spendings m i s (λ _. refl)

pub spent_after_spend : (p : Puzzle) (i : ℕ) (t : List Move) → spendings (after_spend p i t) ≡ suc (spendings t)
spent_after_spend p i t = grind arith

spent_after_none : (i : ℕ) (t : List Move) → spendings (after_none i t) ≡ spendings t
spent_after_none i t = grind arith

spent_uses : (p : Puzzle) (us : List Use) (t : List Move) → spendings (after_uses p us t) ≤ length us + spendings t
spent_uses p [] t = omega arith
spent_uses p (u ∷ us) t = grind (arith, spent_after_spend, spent_uses p us (after_use p u t))

-- ---- uses of the options left

fewer_uses : (q : Numbered → Bool) (os : List Numbered) → count_of_uses (filter q os) ≤ count_of_uses os
fewer_uses q [] = omega arith
fewer_uses q (o ∷ os) = grind (arith, fewer_uses q os)

without_uses : (q : Numbered → Bool) (i k : ℕ) (x : Numbered) (os : List Numbered) → slice_get (holding i os) k ≡ Some x
    → q x ≡ false → count_of_uses (filter q os) + length x.uses ≤ count_of_uses os
without_uses q i k x [] e f = cc
without_uses q i k x (o ∷ os) e f = by_bool (holds o i)
    (λ h. by_number k (λ z. grind (arith, fewer_uses))
    (λ j z. grind (arith, without_uses q i j x os)))
    (λ h. grind (arith, without_uses q i k x os))

open_is : (p : Puzzle) (t : List Move) → length (open_items p t) ≡ length (residual_of p t).items
open_is p t = sym (length-map (open_items p t) (wanted_at p t))

-- ---- nodes

pub sparing_first : (p : Puzzle) → IsSparing p []
sparing_first p = grind (arith, uses_whole, length-filter-le, length-range_with_len)

-- the Spends of the moves that take an option, and the uses that they leave
ruleset spends_made = (tweaked, others, spent_uses, spent_tweaked, spent_after_spend)

ruleset uses_kept = (stays, left, without_uses, length-filter-le, length-map, open_is)

pub sparing_taken : (p : Puzzle) (t : List Move) (i k m : ℕ) (x : Numbered) → IsSparing p t
    → slice_get (holding i (left p t)) k ≡ Some x → Taken p t m i x
    → IsSparing p (after_uses p (others i (uses_of p x.number)) (tweaked m i (after_spend p i t)))
sparing_taken p t i k m x s e took = grind (arith, common_steps, spends_made, uses_kept, le-leb)

pub sparing_none : (p : Puzzle) (t : List Move) (i m : ℕ) → IsSparing p t → IsIn (wanted_after p t) (wanted_at p t i) →
    residual_of p (after_none i (tweaked m i (after_spend p i t))) ≡ none (residual_of p t) i
    → IsSparing p (after_none i (tweaked m i (after_spend p i t)))
sparing_none p t i m s known r =
    let less = less_items (wanted_at p t i) (wanted_after p t) known in
    let fewer = fewer_uses (λ o. not (holds o i)) (left p t) in
    grind (arith, spent_after_none, spent_tweaked, spent_after_spend, open_is, less, fewer, r)

-- also while a level is open and no branch was begun
pub sparing_after_spend : (p : Puzzle) (t : List Move) (i : ℕ) → IsSparing p t
    → IsIn (wanted_after p t) (wanted_at p t i)
    → spendings (after_spend p i t) ≤ use_count p.options + primary_count p
sparing_after_spend p t i s known = grind (arith, spent_after_spend, open_is, less_items)

-- ======== No more Spends than the bounds allow.

abbrev high_in : List Bounds → ℕ → ℕ
high_in bs k = (unwrap_or (slice_get bs k) (record { low = 0; high = 0 })).high

total_highs : (bs : List Bounds)
    → total (high_in bs) (range_with_len 0 (length bs)) ≡ sum_by (λ (b : Bounds). b.high) bs
total_highs [] = refl
total_highs (b ∷ bs) =
    grind (arith, common_steps, total_highs bs, total_shifted (high_in (b ∷ bs)) 0 (length bs), total_same, sum_by-cons)

total_high_at : (p : Puzzle) → total (high_at p) (range_with_len 1 (primary_count p)) ≡ high_total p
total_high_at p = grind (arith, total_shifted (high_at p) 0 (primary_count p), total_same, total_highs p.bounds)

-- with what they leave of the bounds the Spends that stand are no more
pub few_spendings : (p : Puzzle) (t : List Move) → AreLegal p t
    → spendings t + total (λ i. high_at p i - spends i t) (range_with_len 1 (primary_count p)) ≤ high_total p
few_spendings p [] l = grind (arith, total_le, total_high_at p)
few_spendings p (Cover j ∷ t) l = few_spendings p t l.1
few_spendings p (Purify j c ∷ t) l = few_spendings p t l.1
few_spendings p (Tweak j ∷ t) l = few_spendings p t l.1
few_spendings p (Spend j ∷ t) l =
    let less = total_less (λ i. high_at p i - spends i (Spend j ∷ t)) (λ i. high_at p i - spends i t) j 1
    (primary_count p) l.0.0.0 (omega (arith, l.0.0.1)) (λ i. omega arith) (omega (arith, spent_self j t, l.0.1)) in
    omega (arith, few_spendings p t l.1, less)

-- ======== Sums over the options and the bounds, as far as they were counted.

-- the sum so far with one more term
pub counted_more : {X : Type 0} (f : X → ℕ) (xs : List X) (k : ℕ) (x : X) → slice_get xs k ≡ Some x
    → sum_by f (take (suc k) xs) ≡ sum_by f (take k xs) + f x
counted_more f [] k x e = cc
counted_more f (y ∷ xs) zero x e = let same : y ≡ x = cc in omega (arith, sum_by-cons f y [], ap f same)
counted_more f (y ∷ xs) (suc k) x e = grind (arith, counted_more f xs k x e, sum_by-cons)

pub few_spends : (bs : List Bounds) (k : ℕ) → AllByRecursion (λ b. b.high ≤ 999999999) bs
    → sum_by (λ (b : Bounds). b.high) (take k bs) ≤ k * 999999999
few_spends bs zero h = omega arith
few_spends [] (suc k) h = omega arith
few_spends (b ∷ bs) (suc k) h = grind (arith, common_steps, few_spends bs k h.1, sum_by-cons)
