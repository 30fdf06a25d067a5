-- What moves leave of a problem, as the listing sees it.
use Rattle.std.specs.Prelude.{◌-◌, nat_lt, is_some, nat_le, slice_get, option_map}
use Rattle.std.proofs.Common.{arith, ℕ, ◌≡◌, Bool, true, false, cond, eqb, List, [], ◌∷◌, map, filter, find, refl, sym}
use Rattle.std.proofs.Common.{ap, ap₂, ◌∙◌, eqb-true, eq-eqb, ne_eqb, suc, ◌+◌, ◌<◌, not, ◌&&◌, ◌||◌, ◌++◌, length}
use Rattle.std.proofs.Common.{take, drop, zero, ◌≤◌, Some, None, le-leb, lt-ltb, le-ltb, leb, subst, ltb-true, leb-true}
use Rattle.std.proofs.Common.{Option, ltb, inl, inr}
use Rattle.std.specs.List.{AllByRecursion, list_all, range_with_len, best_of}
use Rattle.std.proofs.lemmas.List.{map-id, take-append-drop}
use Rattle.std.proofs.lemmas.List.Elements.{filter_agree, recursion_from_All, filter_passes}
use Rattle.std.proofs.lemmas.Option.{slice_get_within}
use Rattle.std.proofs.Math.Bool.{and_comm, or_comm}
use Rattle.std.proofs.lemmas.List.Folds.{list_all-append}
use Rattle.std.proofs.lemmas.Grind.{common_steps}
use Rattle.std.proofs.lemmas.Bool.{lt-leb, eqb-false, leb-false}
use Rattle.xc_input.specs.declared.problem.Use.{Use}
use Rattle.xc_input.specs.Problem.{Numbered, colour_in, holds, Puzzle, primary_count, colour_at, high_at, IsPrimary}
use Rattle.xc_input.specs.Problem.{IsSecondary, IsSoundUse, IsValid, bounds_at, low_at}
use Rattle.xc_input.specs.UsePlaces.{place_in}
use Rattle.xc_input.specs.declared.problem.Bounds.{Bounds}
use Rattle.xc_text.proofs.ListLemmas.{filter_both, keep_all, each_of_all, by_bool, drop_at, map-same, EachTwo-swapped}
use Rattle.xc_text.proofs.ListLemmas.{each_weaker, filter_same, filter-map, map-map, each-map, each_both, each-filter}
use Rattle.xc_text.proofs.ListLemmas.{by_option, each_at, each_from, in-map, in-filter, each_in}
use Rattle.xc_input.proofs.TokenLemmas.{numbered_get-at}
use Rattle.xc_moves.specs.declared.dance.Move.{Move}
use Rattle.xc_moves.specs.declared.dance.Move.TheVariants.{Cover, Purify, Spend}
use Rattle.xc_moves.specs.inner.Left.{left}
use Rattle.xc_moves.specs.Moves.{is_open, open_items, agrees, purified, spends, AreLegal, is_covered, next_above}
use Rattle.xc_moves.specs.Moves.{IsOpenPrimary}
use Rattle.xc_moves.specs.Commits.{after_spend, after_use, after_uses}
use Rattle.xc_moves.specs.inner.Rising.{Rises}
use Rattle.xc_moves.proofs.PlaceLemmas.{held_use}
use Rattle.xc_moves.proofs.LeftLemmas.{left_agrees, left_free, kept, listed_open}
use Rattle.xc_moves.proofs.MoveLemmas.{primary_pure, Rises-range, Rises-filter, above_all, next_above-split}
use Rattle.xc_moves.proofs.MoveLemmas.{next_above-none, next_above-gt, next_above-open}
use Rattle.xc_search.specs.Listing.{Wanted, Residual, may_stay, pick, spend_one, none, first_least, branch_count}
use Rattle.xc_search.specs.Listing.{wanted_from, whole, branch_item}
use Rattle.xc_search.specs.Once.{IsOnce}
use Rattle.xc_search.specs.inner.Levels.{AreAllWanted, item_left, residual_of, IsDeadEnd, IsEarlyChoice}
use Rattle.xc_search.specs.Residuals.{wanted_at, wanted_after, branches_after, choice_after}
use Rattle.xc_search.proofs.ListingLemmas.{AreApart, Apart, apart_sym, apart_from_pairs, own_colours, IsOption}
use Rattle.xc_search.proofs.ListingLemmas.{is_option, least_is_one, best, best_first}

-- ======== What an item that was held once more still needs.

-- held once more
abbrev pub less_one : Wanted → Wanted
less_one w = record { item = w.item; low = w.low - 1; high = w.high - 1 }

-- ======== Taking an option use by use comes to `pick`.

-- one use of a taken option
abbrev pub dec : ℕ → Wanted → Wanted
dec j w = cond (eqb w.item j) (less_one w) w

abbrev pub is_wanted : Wanted → Bool
is_wanted w = nat_lt 0 w.high

abbrev pub commit_use : Use → Residual → Residual
commit_use u r = record {
  items = filter is_wanted (map (dec u.item) r.items);
  options = filter (may_stay (item_left r u.item) u) r.options;
}

abbrev pub commit_uses : List Use → Residual → Residual
commit_uses [] r = r
commit_uses (u ∷ us) r = commit_uses us (commit_use u r)

-- all uses at once
abbrev pub spend_uses : List Use → Wanted → Wanted
spend_uses us w = cond (is_some (colour_in us w.item)) (less_one w) w

abbrev pub all_stay : Residual → List Use → Numbered → Bool
all_stay r us o = list_all (λ u. may_stay (item_left r u.item) u o) us

abbrev pub committed : List Use → Residual → Residual
committed us r = record {
  items = filter is_wanted (map (spend_uses us) r.items);
  options = filter (all_stay r us) r.options;
}

-- items apart from j aren't in uses apart from it
not_held : (j : ℕ) (us : List Use) → AllByRecursion (λ v. eqb j v.item ≡ false) us → is_some (colour_in us j) ≡ false
not_held j [] a = refl
not_held j (u ∷ us) a = grind (arith, not_held j us a.1, ne_eqb u.item j, eq-eqb j u.item)

pub still_wanted : (j : ℕ) (ws : List Wanted) → AreAllWanted (filter is_wanted (map (dec j) ws))
still_wanted j [] = tt
still_wanted j (w ∷ ws) = grind (arith, still_wanted j ws)

spends_more : (u : Use) (us : List Use) (w : Wanted)
    → spend_uses (u ∷ us) w ≡ cond (eqb w.item u.item) (less_one w) (spend_uses us w)
spends_more u us w = grind (arith, eq-eqb, eqb-true, ne_eqb)

-- the items
items_more : (u : Use) (us : List Use) (ws : List Wanted) → AllByRecursion (λ v. eqb u.item v.item ≡ false) us
    → AreAllWanted ws →
    filter is_wanted (map (spend_uses us) (filter is_wanted (map (dec u.item) ws))) ≡ filter is_wanted
    (map (spend_uses (u ∷ us)) ws)
items_more u us [] a h = refl
items_more u us (w ∷ ws) a h =
    let more = items_more u us ws a h.1 in
    by_bool (eqb w.item u.item)
    (λ e. rw (spends_more u us w, e) (grind (arith, more, eqb-true _ _ e, not_held u.item us a)))
    (λ e. rw (spends_more u us w, e, h.0, more) refl)

-- what is left of other items
left_same : (j k : ℕ) (ws : List Wanted) → eqb j k ≡ false → AreAllWanted ws →
    find (λ w. eqb w.item k) (filter is_wanted (map (dec j) ws)) ≡ find (λ w. eqb w.item k) ws
left_same j k [] e h = refl
left_same j k (w ∷ ws) e h = grind (arith, left_same j k ws e h.1, eqb-true w.item j, find)

stay_same : (u : Use) (us : List Use) (r : Residual) (o : Numbered) → AllByRecursion (λ v. eqb u.item v.item ≡ false) us
    → AreAllWanted r.items → all_stay (commit_use u r) us o ≡ all_stay r us o
stay_same u [] r o a h = refl
stay_same u (v ∷ us) r o a h = rw (left_same u.item v.item r.items a.0 h, stay_same u us r o a.1 h) refl

pub as_residual : (a b : List Wanted) (c d : List Numbered) → a ≡ b → c ≡ d
    → ◌≡◌ {A = Residual} (record { items = a; options = c }) (record { items = b; options = d })
as_residual a b c d e f = ap₂ (λ x y. let r : Residual = record { items = x; options = y } in r) e f

pub uses_committed : (us : List Use) (r : Residual) → AreApart us → AreAllWanted r.items
    → commit_uses us r ≡ committed us r
uses_committed [] r a h =
    as_residual r.items _ r.options _ (sym (ap (filter is_wanted) (map-id r.items) ∙ keep_all is_wanted r.items h))
    (sym (keep_all (λ x. true) r.options (each_of_all (λ x. true ≡ true) r.options (λ x. refl))))
uses_committed (u ∷ us) r a h =
    uses_committed us (commit_use u r) a.1 (still_wanted u.item r.items)
    ∙ as_residual _ _ _ _ (items_more u us r.items a.0 h)
    (filter_agree _ _ (λ o. stay_same u us r o a.0 h) _
    ∙ filter_both _ (may_stay (item_left r u.item) u) r.options)

-- ======== Taking an option: its branch item's use first, the others cyclically after it.

-- ---- where the item stands

pub record Placed (i : ℕ) (us : List Use) : Type 0 where
  pub colour : ℕ
  pub whole : us ≡ take (place_in i us) us ++ record { item = i; colour = colour } ∷ drop (place_in i us + 1) us
  pub within : place_in i us < length us

pub placed : (i : ℕ) (us : List Use) → is_some (colour_in us i) ≡ true → Placed i us
placed i us h =
    let w = held_use us i h in
    let n = place_in i us in
    let s : suc n ≡ n + 1 = omega arith in
    let whole : us ≡ take n us ++ w.use_of ∷ drop (n + 1) us =
    cc (take-append-drop n us, drop_at us n w.use_of w.at, s) in
    record {
      colour = w.use_of.colour;
      whole = whole ∙ ap (λ j. take n us ++ (let u : Use = record { item = j; colour = w.use_of.colour } in u)
          ∷ drop (n + 1) us) w.item;
      within = slice_get_within us n w.use_of w.at;
    }

-- ---- the order of the uses doesn't matter

held_append : (us vs : List Use) (j : ℕ)
    → is_some (colour_in (us ++ vs) j) ≡ (is_some (colour_in us j) || is_some (colour_in vs j))
held_append [] vs j = refl
held_append (u ∷ us) vs j = grind (arith, held_append us vs j)

pub apart_turned : (us vs : List Use) → AreApart (us ++ vs) → AreApart (vs ++ us)
apart_turned us vs a = EachTwo-swapped Apart apart_sym us vs a

-- ---- picking

-- the options that go before option x is committed
abbrev pub cut : Residual → ℕ → ℕ → Residual
cut r i n = record { items = r.items; options = filter (λ o. not (holds o i && nat_le o.number n)) r.options }

pub committed_picks : (r : Residual) (i : ℕ) (x : Numbered) (us vs : List Use) → x.uses ≡ us ++ vs
    → committed (vs ++ us) (cut r i x.number) ≡ pick r i x
committed_picks r i x us vs e =
    as_residual _ _ _ _ (ap (filter is_wanted) (map-same (spend_uses (vs ++ us)) (spend_one x) r.items
    (λ w. grind (arith, held_append, or_comm))))
    (filter_both (all_stay (cut r i x.number) (vs ++ us)) (λ o. not (holds o i && nat_le o.number x.number)) r.options
    ∙ filter_agree _ _ (λ o. grind (arith, list_all-append, and_comm)) r.options)

-- ======== What each move does to what is left.

spent_once : (p : Puzzle) (t : List Move) (j i : ℕ) → wanted_at p (Spend j ∷ t) i ≡ dec j (wanted_at p t i)
spent_once p t j i = grind arith

-- one Spend lowers the bounds of its item
pub residual_spend : (p : Puzzle) (t : List Move) (j : ℕ) → residual_of p (Spend j ∷ t) ≡
    (let r : Residual = record { items = map (dec j) (wanted_after p t); options = left p t } in r)
residual_spend p t j =
    let each = map-same _ _ _ (spent_once p t j) in
    as_residual _ _ _ _ (each ∙ sym (map-map (wanted_at p t) (dec j) (open_items p t))) refl

covered_items : (p : Puzzle) (t : List Move) (j : ℕ)
    → open_items p (Cover j ∷ t) ≡ filter (λ i. not (eqb i j)) (open_items p t)
covered_items p t j = filter_agree _ _ (λ i. and_comm _ (is_open i t)) _ ∙ sym (filter_both _ (λ i. is_open i t) _)

-- a Cover takes its item and the options that hold it
pub residual_cover : (p : Puzzle) (t : List Move) (j : ℕ) → residual_of p (Cover j ∷ t) ≡ none (residual_of p t) j
residual_cover p t j = grind (arith, as_residual, covered_items, filter-map)

pub in_range : (a n : ℕ) → AllByRecursion (λ i. (a ≤ i) × (i < a + n)) (range_with_len a n)
in_range a zero = tt
in_range a (suc n) = grind (arith, in_range (a + 1) n, each_weaker)

secondary_items : (p : Puzzle) (t : List Move) (j : ℕ) → primary_count p < j
    → filter (λ i. not (eqb i j) && is_open i t) (range_with_len 1 (primary_count p)) ≡ open_items p t
secondary_items p t j h = grind (arith, filter_same, each_weaker, ne_eqb, in_range)

-- a Purify takes the options that give its item another colour or none
pub residual_purify : (p : Puzzle) (t : List Move) (j c : ℕ) → primary_count p < j → residual_of p (Purify j c ∷ t) ≡
    (let r : Residual =
    record { items = wanted_after p t; options = filter (λ o. agrees c (colour_at o j)) (left p t) } in r)
residual_purify p t j c h = as_residual _ _ _ _ (ap (map (wanted_at p t)) (secondary_items p t j h)) refl

-- a Cover of a secondary item takes the options that hold it
pub residual_cover_secondary : (p : Puzzle) (t : List Move) (j : ℕ) → primary_count p < j →
    residual_of p (Cover j ∷ t) ≡ (let r : Residual =
    record { items = wanted_after p t; options = filter (λ o. not (holds o j)) (left p t) } in r)
residual_cover_secondary p t j h = as_residual _ _ _ _ (ap (map (wanted_at p t)) (secondary_items p t j h)) refl

-- ======== The uses of an option left can be committed, and committing one is what `commit_use` says.

pub data Ready (p : Puzzle) (t : List Move) (u : Use) : Type 0 where
  primary : IsPrimary p u.item → is_open u.item t ≡ true → spends u.item t < high_at p u.item → Ready p t u
  secondary : IsSecondary p u.item → is_open u.item t ≡ true → Ready p t u
  same_colour : IsSecondary p u.item → 0 < u.colour → is_open u.item t ≡ false → purified u.item t ≡ Some u.colour
      → Ready p t u

-- ---- other items keep what they have

pub ready_later : (p : Puzzle) (t s : List Move) (v : Use) → is_open v.item s ≡ is_open v.item t
    → purified v.item s ≡ purified v.item t → spends v.item s ≡ spends v.item t → Ready p t v → Ready p s v
ready_later p t s v a b c (primary h i k) = primary h (a ∙ i) (omega (arith, c, k))
ready_later p t s v a b c (secondary h k) = secondary h (a ∙ k)
ready_later p t s v a b c (same_colour h i k l) = same_colour h i (a ∙ k) (b ∙ l)

pub ready_after : (p : Puzzle) (u : Use) (t : List Move) (v : Use) → eqb v.item u.item ≡ false → Ready p t v
    → Ready p (after_use p u t) v
ready_after p u t v e r = grind (arith, ready_later)

-- ---- the moves are legal

pub spent_self : (i : ℕ) (t : List Move) → spends i (Spend i ∷ t) ≡ suc (spends i t)
spent_self i t = let same : eqb i i ≡ true = eq-eqb i i refl in rw same (omega arith)

pub legal_commit : (p : Puzzle) (u : Use) (t : List Move) → AreLegal p t → Ready p t u → AreLegal p (after_use p u t)
legal_commit p u t l (primary h o k) = grind (arith, le-leb)
legal_commit p u t l (secondary h o) = grind (arith, lt-leb, eqb-false)
legal_commit p u t l (same_colour h c o q) = grind (arith, lt-leb, ne_eqb)

-- ---- one use

found_from : (p : Puzzle) (t : List Move) (j a n : ℕ) → a ≤ j → j < a + n → is_open j t ≡ true →
    find (λ w. eqb w.item j) (map (wanted_at p t) (filter (λ i. is_open i t) (range_with_len a n))) ≡ Some
    (wanted_at p t j)
found_from p t j a zero h k o = absurd (omega (arith, h, k))
found_from p t j a (suc n) h k o = grind (arith, found_from p t j (a + 1) n, eqb-true, eqb-false, find)

pub found_wanted : (p : Puzzle) (t : List Move) (j : ℕ) → IsPrimary p j → is_open j t ≡ true
    → item_left (residual_of p t) j ≡ Some (wanted_at p t j)
found_wanted p t j h o = found_from p t j 1 (primary_count p) h.0 (omega (arith, h.1)) o

pub not_found : (p : Puzzle) (t : List Move) (j : ℕ) → primary_count p < j
    → AllByRecursion (λ w. eqb w.item j ≡ false) (wanted_after p t)
not_found p t j h = grind (arith, each-map, each-filter, each_weaker, ne_eqb, in_range)

-- an item that isn't left has nothing to spend
pub untouched : (j : ℕ) (ws : List Wanted) → AllByRecursion (λ w. eqb w.item j ≡ false) ws
    → (find (λ w. eqb w.item j) ws ≡ None) × (map (dec j) ws ≡ ws)
untouched j [] a = (refl, refl)
untouched j (w ∷ ws) a = grind (arith, untouched j ws a.1)

-- every item that is left is as the Spends leave it
pub as_spent : (p : Puzzle) (t : List Move) → AllByRecursion (λ w. w ≡ wanted_at p t w.item) (wanted_after p t)
as_spent p t = grind (arith, each-map, each_of_all)

-- an item that was held once more for the last time goes, and another stays
covered_item : (p : Puzzle) (t : List Move) (j : ℕ) (w : Wanted) → w ≡ wanted_at p t w.item → is_wanted w ≡ true
    → high_at p j - spends j t ≡ 1 → not (eqb (dec j w).item j) ≡ is_wanted (dec j w)
covered_item p t j w e a h = grind (arith, le-ltb, eqb-true, ap (λ (w : Wanted). w.high) e)

kept_item : (p : Puzzle) (t : List Move) (j : ℕ) (w : Wanted) → w ≡ wanted_at p t w.item → is_wanted w ≡ true
    → 1 < high_at p j - spends j t → is_wanted (dec j w) ≡ true
kept_item p t j w e a h = grind (arith, lt-ltb, eqb-true, ap (λ (w : Wanted). w.high) e)

pub opening_commits : (p : Puzzle) (u : Use) (t : List Move) → AreAllWanted (wanted_after p t) → IsPrimary p u.item
    → is_open u.item t ≡ true → spends u.item t < high_at p u.item →
    residual_of p (after_spend p u.item t) ≡ commit_use u (residual_of p t)
opening_commits p u t a h o k =
    let found = found_wanted p t u.item h o in
    let stay = may_stay (item_left (residual_of p t) u.item) u in
    let left_over = high_at p u.item - spends u.item t in
    by_bool (eqb (high_at p u.item - spends u.item (Spend u.item ∷ t)) 0) (λ e.
    let last : left_over ≡ 1 = omega (arith, eqb-true _ _ e, spent_self u.item t, k) in
    let not_more : nat_lt 1 left_over ≡ false = le-ltb 1 left_over (omega (arith, last)) in rw e
    (residual_cover p (Spend u.item ∷ t) u.item ∙ ap (λ r. none r u.item) (residual_spend p t u.item)
    ∙ as_residual _ _ _ _
    (filter_same _ _ _ (each-map _ (dec u.item) (wanted_after p t) (each_both _ _ _ (wanted_after p t)
    (λ w z i. covered_item p t u.item w z i last) (as_spent p t) a)))
    (filter_agree _ stay (λ x. rw (found, not_more) refl) (left p t)))) (λ e.
    let more : 1 < left_over = omega (arith, eqb-false _ _ e, spent_self u.item t, k) in
    let is_more : nat_lt 1 left_over ≡ true = lt-ltb 1 left_over more in rw e (residual_spend p t u.item
    ∙ as_residual _ _ _ _
    (sym (keep_all is_wanted _ (each-map _ _ _ (each_both _ _ _ _ (λ w z i. kept_item p t u.item w z i more)
    (as_spent p t) a))))
    (sym (keep_all stay (left p t) (each_of_all _ (left p t) (λ x. rw (found, is_more) refl))))))

-- a use of a secondary item keeps the options that agree
secondary_commits : (p : Puzzle) (u : Use) (t : List Move) → AreAllWanted (wanted_after p t)
    → primary_count p < u.item → (let r : Residual = record {
      items = wanted_after p t;
      options = filter (λ o. agrees u.colour (colour_at o u.item)) (left p t);
    } in r) ≡ commit_use u (residual_of p t)
secondary_commits p u t a h =
    let out = untouched u.item (wanted_after p t) (not_found p t u.item h) in
    grind (arith, common_steps, as_residual, out, keep_all, filter_agree)

pub commit_one : (p : Puzzle) (u : Use) (t : List Move) → AreAllWanted (wanted_after p t) → Ready p t u
    → residual_of p (after_use p u t) ≡ commit_use u (residual_of p t)
commit_one p u t a (primary h o k) = rw (le-leb u.item (primary_count p) h.1) (opening_commits p u t a h o k)
commit_one p u t a (secondary h o) = rw (lt-leb u.item (primary_count p) h.0) (by_bool (eqb u.colour 0)
    (λ c. rw c (residual_cover_secondary p t u.item h.0
    ∙ as_residual _ _ _ _ refl (grind (arith, filter_agree, by_option, eqb-true, left))))
    (λ c. rw (c, o) (residual_purify p t u.item u.colour h.0)) ∙ secondary_commits p u t a h.0)
commit_one p u t a (same_colour h c o q) =
    let colour : eqb u.colour 0 ≡ false = ne_eqb u.colour 0 (λ e. omega (arith, c, e)) in
    rw (lt-leb u.item (primary_count p) h.0, colour, o)
    (as_residual _ _ _ _ refl (sym (keep_all _ (left p t) (left_agrees p t u.item u.colour q)))
    ∙ secondary_commits p u t a h.0)

-- ---- all uses

abbrev pub AreReady : Puzzle → List Move → List Use → Type 0
AreReady p t us = AllByRecursion (λ u. Ready p t u) us

-- legal moves leave this, and something of each bound
pub record Leaves (p : Puzzle) (t : List Move) (r : Residual) : Type 0 where
  pub residual : residual_of p t ≡ r
  pub legal : AreLegal p t
  pub wanted : AreAllWanted (wanted_after p t)

pub commit_all : (p : Puzzle) (us : List Use) (t : List Move) (r : Residual) → AreApart us → AreReady p t us
    → Leaves p t r → Leaves p (after_uses p us t) (commit_uses us r)
commit_all p [] t r d ready l = l
commit_all p (u ∷ us) t r d ready l =
    let one = commit_one p u t l.wanted ready.0 in
    commit_all p us (after_use p u t) (commit_use u r) d.1
    (each_both _ _ _ us (λ v e. ready_after p u t v (apart_sym u v e)) d.0 ready.1)
    (grind (arith, one, legal_commit p u t l.legal ready.0, still_wanted u.item (wanted_after p t)))

-- ======== The uses of an option that is left are ready to be committed.

pub left_options : (p : Puzzle) → IsValid p → (t : List Move) → AllByRecursion (IsOption p) (left p t)
left_options p v [] = each_from _ _ (is_option p v)
left_options p v (m ∷ t) = kept (IsOption p) p t m (left_options p v t)

-- ---- open or not

pub open_if : (j : ℕ) (t : List Move) → is_covered j t ≡ false → purified j t ≡ None → is_open j t ≡ true
open_if j [] c q = refl
open_if j (m ∷ t) c q = grind (arith, open_if j t)

closed_if : (j d : ℕ) (t : List Move) → purified j t ≡ Some d → is_open j t ≡ false
closed_if j d [] q = cc
closed_if j d (m ∷ t) q = grind (arith, closed_if j d t)

found_holds : (P : Wanted → Type 0) (q : Wanted → Bool) (ws : List Wanted) (w : Wanted) → AllByRecursion P ws
    → find q ws ≡ Some w → P w
found_holds P q [] w a e = cc
found_holds P q (v ∷ vs) w a e = grind (arith, found_holds P q vs w a.1, find)

-- an open primary item has something left to spend
pub has_left : (p : Puzzle) (t : List Move) (j : ℕ) → AreAllWanted (wanted_after p t) → IsPrimary p j
    → is_open j t ≡ true → spends j t < high_at p j
has_left p t j a h o =
    let some_left : is_wanted (wanted_at p t j) ≡ true = found_holds _ _ _ _ a (found_wanted p t j h o) in
    omega (arith, ltb-true _ _ some_left)

-- ---- ready

record IsFree (t : List Move) (x : Numbered) : Type 0 where
  uncovered : (j : ℕ) → is_covered j t ≡ true → holds x j ≡ false
  agreeing : (j d : ℕ) → purified j t ≡ Some d → agrees d (colour_at x j) ≡ true

agree_colour : (d c : ℕ) → agrees d (Some c) ≡ true → (d ≡ c) × (0 < c)
agree_colour d c e = grind (arith, eqb-true, ltb-true)

not_covered : (t : List Move) (x : Numbered) (u : Use) → IsFree t x → colour_at x u.item ≡ Some u.colour
    → is_covered u.item t ≡ false
not_covered t x u f e = grind (arith, f.uncovered u.item)

ready_use : (p : Puzzle) (t : List Move) (x : Numbered) (u : Use) → AreLegal p t → AreAllWanted (wanted_after p t)
    → IsFree t x → IsSoundUse p u → colour_at x u.item ≡ Some u.colour → Ready p t u
ready_use p t x u l a f s e = by_bool (leb u.item (primary_count p))
    (λ h. grind (arith, leb-true, open_if, not_covered, primary_pure, has_left))
    (λ h. let second : IsSecondary p u.item = (leb-false _ _ h, s.0.1) in
    by_option (purified u.item t) (λ i. secondary second (open_if u.item t (not_covered t x u f e) i))
    (λ d i. let same = agree_colour d u.colour (subst (λ o. agrees d o ≡ true) e (f.agreeing u.item d i)) in
    same_colour second same.1 (closed_if u.item d t i) (i ∙ ap Some same.0)))

pub of_left : (P : Numbered → Type 0) (i k : ℕ) (os : List Numbered) (x : Numbered) → AllByRecursion P os
    → slice_get (filter (λ o. holds o i) os) k ≡ Some x → P x
of_left P i k os x a e = each_at P _ k x (each-filter P _ os a) e

pub ready_left : (p : Puzzle) (t : List Move) (i k : ℕ) (x : Numbered) → AreLegal p t
    → AreAllWanted (wanted_after p t) → IsOption p x
    → slice_get (filter (λ o. holds o i) (left p t)) k ≡ Some x → AreReady p t x.uses
ready_left p t i k x l a option e =
    let free : IsFree t x = record {
      uncovered = λ j c. of_left _ i k _ x (left_free p t j c) e;
      agreeing = λ j d c. of_left _ i k _ x (left_agrees p t j d c) e;
    } in
    each_both (IsSoundUse p) (λ u. colour_in x.uses u.item ≡ Some u.colour) (λ u. Ready p t u) x.uses
    (λ u s c. ready_use p t x u l a free s c) (recursion_from_All _ _ option.sound.sound)
    (own_colours x.uses (apart_from_pairs x.uses option.sound.distinct))

-- ======== The branch item by the lists is that of what is left.

each_open : (p : Puzzle) (t : List Move) → AllByRecursion (λ i. is_open i t ≡ true) (open_items p t)
each_open p t = grind (arith, recursion_from_All, filter_passes)

pub counts_same : (p : Puzzle) (t : List Move) → AreLegal p t
    → AllByRecursion (λ w. branches_after p t w ≡ branch_count (residual_of p t) w) (wanted_after p t)
counts_same p t legal = grind (arith, each-map, each_weaker, listed_open, each_open)

-- two counts that are one find one item, with one count
best_alike : (f g : Wanted → ℕ) (w : Wanted) (ws : List Wanted) → f w ≡ g w → AllByRecursion (λ v. f v ≡ g v) ws →
    (best_of (λ x b. nat_lt (f x) (f b)) w ws ≡ best_of (λ x b. nat_lt (g x) (g b)) w ws)
    × (f (best_of (λ x b. nat_lt (f x) (f b)) w ws) ≡ g (best_of (λ x b. nat_lt (f x) (f b)) w ws))
best_alike f g w [] e a = (refl, e)
best_alike f g w (v ∷ vs) e a = grind (arith, best_alike f g v vs a.0 a.1, best_alike f g w vs e a.1)

abbrev with_count : (Wanted → ℕ) → Wanted → ℕ × ℕ
with_count f w = (w.item, f w)

least_with_count : (f g : Wanted → ℕ) (ws : List Wanted) → AllByRecursion (λ v. f v ≡ g v) ws →
    option_map (with_count f) (first_least f ws) ≡ option_map (with_count g) (first_least g ws)
least_with_count f g [] a = refl
least_with_count f g (w ∷ ws) a = grind (arith, best_alike f g w ws a.0 a.1)

-- the branch item of what is left, and its number of branches
abbrev pub choice_of : Residual → Option (ℕ × ℕ)
choice_of r = option_map (λ w. (w.item, branch_count r w)) (branch_item r)

-- the same choice has the same count
pub same_count : {a b : ℕ × ℕ} → Some a ≡ Some b → a.1 ≡ b.1
same_count e = cc e

pub choice_is_branch_item : (p : Puzzle) (t : List Move) → AreLegal p t → choice_after p t ≡ choice_of (residual_of p t)
choice_is_branch_item p t legal =
    least_with_count (branches_after p t) (branch_count (residual_of p t)) (wanted_after p t) (counts_same p t legal)

-- ---- no moves leave all

wanted_shift : (p : Puzzle) (bs : List Bounds) (k : ℕ) → ((j : ℕ) → slice_get p.bounds (k + j) ≡ slice_get bs j)
    → map (wanted_at p []) (range_with_len (k + 1) (length bs)) ≡ wanted_from (k + 1) bs
wanted_shift p [] k h = refl
wanted_shift p (b ∷ bs) k h =
    let same : k + 0 ≡ k = omega arith in
    let here : bounds_at p (k + 1) ≡ Some b = numbered_get-at p.bounds (k + 1) k refl ∙ rw same at (h 0) in
    let later = wanted_shift p bs (k + 1)
    (λ j. let next : k + suc j ≡ (k + 1) + j = omega arith in rw next at (h (suc j))) in
    grind (arith, here, later)

pub no_moves_leave_all : (p : Puzzle) → residual_of p [] ≡ whole p
no_moves_leave_all p =
    let all = keep_all (λ i. is_open i []) (range_with_len 1 (primary_count p)) (each_of_all _ _ (λ i. refl)) in
    as_residual _ _ _ _ (ap (map (wanted_at p [])) all
    ∙ wanted_shift p p.bounds 0 (λ j. let same : 0 + j ≡ j = omega arith in ap (slice_get p.bounds) same)) refl

-- ======== The branch item by a walk over the open items.

-- of these items and w the first with the fewest branches
abbrev best_from : Puzzle → List Move → Wanted → List ℕ → Wanted
best_from p t w is =
    best_of (λ x best. nat_lt (branches_after p t x) (branches_after p t best)) w (map (wanted_at p t) is)

pub open_rises : (p : Puzzle) (t : List Move) → Rises 0 (open_items p t)
open_rises p t = grind (arith, Rises-filter, is_open, Rises-range)

-- w is the best up to item n: with it and the open items behind n the branch item is found
abbrev IsBest : Puzzle → List Move → Wanted → ℕ → Type 0
IsBest p t w n = first_least (branches_after p t) (wanted_after p t) ≡ Some
    (best_from p t w (filter (λ j. ltb n j) (open_items p t)))

-- the walk stands at open item n: item i is the best so far, with so many branches
pub record WalksTo (p : Puzzle) (t : List Move) (i count n : ℕ) : Type 0 where
  pub at_open : IsOpenPrimary p t n
  pub best_open : IsOpenPrimary p t i
  pub counted : count ≡ branches_after p t (wanted_at p t i)
  pub best : IsBest p t (wanted_at p t i) n

pub walk_first : (p : Puzzle) (t : List Move) (k count : ℕ) → next_above 0 (open_items p t) ≡ Some k
    → count ≡ branches_after p t (wanted_at p t k) → WalksTo p t k count k
walk_first p t k count e counted =
    let all = sym (above_all 0 (open_items p t) (open_rises p t)) ∙ next_above-split 0 0 k _ (open_rises p t) e in
    let best = ap (λ is. first_least (branches_after p t) (map (wanted_at p t) is)) all in
    grind (arith, next_above-open p t 0 k e, best)

-- one item more
pub walk_on : (p : Puzzle) (t : List Move) (i best n k count : ℕ) → WalksTo p t i best n
    → next_above n (open_items p t) ≡ Some k → count ≡ branches_after p t (wanted_at p t k) →
    (count < best → WalksTo p t k count k) × (best ≤ count → WalksTo p t i best k)
walk_on p t i best n k count at e counted =
    let rest = next_above-split 0 n k (open_items p t) (open_rises p t) e in
    grind (arith, rest, next_above-open p t n k e, lt-ltb, le-ltb)

pub choice_none : (p : Puzzle) (t : List Move) → next_above 0 (open_items p t) ≡ None → choice_after p t ≡ None
choice_none p t e = grind (arith, above_all 0 (open_items p t) (open_rises p t), next_above-none 0 (open_items p t) e)

-- an item without branches stays the best
stays_best : (p : Puzzle) (t : List Move) (i : ℕ) (is : List ℕ) → branches_after p t (wanted_at p t i) ≡ 0
    → best_from p t (wanted_at p t i) is ≡ wanted_at p t i
stays_best p t i [] e = refl
stays_best p t i (k ∷ is) e = grind (arith, stays_best p t i is e, le-ltb)

-- no later item is better
pub walk_none : (p : Puzzle) (t : List Move) (i count n : ℕ) → WalksTo p t i count n → count ≡ 0
    → Some (i, count) ≡ choice_after p t
walk_none p t i count n at none = grind (arith, stays_best)

-- no item is left
pub walk_ends : (p : Puzzle) (t : List Move) (i count n : ℕ) → WalksTo p t i count n
    → next_above n (open_items p t) ≡ None → Some (i, count) ≡ choice_after p t
walk_ends p t i count n at end = grind (arith, next_above-none)

-- Where the best has one branch at most, it is the branch item, or some item has none.
dead_end_there : (p : Puzzle) (t : List Move) (i count n : ℕ) → WalksTo p t i count n → count ≤ 1 → (z : Wanted)
    → first_least (branches_after p t) (wanted_after p t) ≡ Some z
    → branches_after p t z < branches_after p t (wanted_at p t i) → IsDeadEnd p t (Some (i, count))
dead_end_there p t i count n at few z least less =
    let found = in-map (wanted_at p t) (open_items p t) z (least_is_one (branches_after p t)
    (wanted_after p t) z least) in
    let one = in-filter (λ i. is_open i t) (range_with_len 1 (primary_count p)) found.0 found.1 in
    let within = each_in _ _ found.0 (in_range 1 (primary_count p)) one.0 in
    record {
      item = i;
      count = count;
      is = refl;
      is_open = at.best_open;
      counted = at.counted;
      few = few;
      short = found.0;
      short_open = (omega (arith, within), one.1);
      without = ap (branches_after p t) found.2 ∙ (omega (arith, less, few, at.counted));
    }

pub walk_enough : (p : Puzzle) (t : List Move) (i count n : ℕ) → WalksTo p t i count n → count ≤ 1
    → IsEarlyChoice p t (Some (i, count))
walk_enough p t i count n at few =
    elim (best_first (branches_after p t) (wanted_at p t i)
    (map (wanted_at p t) (filter (λ j. ltb n j) (open_items p t)))) [
      | inl q ↦ inl (rw (at.best, q, at.counted) refl)
      | inr less ↦ inr (dead_end_there p t i count n at few _ at.best less)
    ]

-- the next open item stands further on
pub nearer : (p : Puzzle) (t : List Move) (n k : ℕ) → next_above n (open_items p t) ≡ Some k
    → primary_count p - k < primary_count p - n
nearer p t n k e = omega (arith, next_above-gt n k (open_items p t) e, next_above-open p t n k e)

-- where each is to be held once, an open item is to be held once more
pub once_more : (p : Puzzle) (t : List Move) (i : ℕ) → IsOnce p × AreAllWanted (wanted_after p t) → IsOpenPrimary p t i
    → low_at p i - spends i t ≡ 1
once_more p t i h o = grind (arith, has_left)

-- ---- how many items are open

-- a walk over the open items stands at item n, and saw so many
pub record CountsTo (p : Puzzle) (t : List Move) (n seen : ℕ) : Type 0 where
  pub at_open : IsOpenPrimary p t n
  pub counted : seen + length (filter (λ j. ltb n j) (open_items p t)) ≡ length (open_items p t)

pub count_first : (p : Puzzle) (t : List Move) (k : ℕ) → next_above 0 (open_items p t) ≡ Some k → CountsTo p t k 1
count_first p t k e =
    let all = sym (above_all 0 (open_items p t) (open_rises p t)) ∙ next_above-split 0 0 k _ (open_rises p t) e in
    record { at_open = next_above-open p t 0 k e; counted = omega (arith, ap length all) }

pub count_on : (p : Puzzle) (t : List Move) (n k seen : ℕ) → CountsTo p t n seen
    → next_above n (open_items p t) ≡ Some k
    → CountsTo p t k (seen + 1)
count_on p t n k seen at e = record {
  at_open = next_above-open p t n k e;
  counted = omega (arith, at.counted, ap length (next_above-split 0 n k (open_items p t) (open_rises p t) e));
}

pub count_ends : (p : Puzzle) (t : List Move) (n seen : ℕ) → CountsTo p t n seen
    → next_above n (open_items p t) ≡ None → length (open_items p t) ≡ seen
count_ends p t n seen at e = omega (arith, at.counted, ap length (next_above-none n (open_items p t) e))
