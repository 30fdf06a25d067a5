-- The number of solutions of what is left, by its words: it follows the branches of each item.
use Rattle.std.proofs.Common.{ℕ, ◌≡◌, ◌≢◌, ◌<◌, ◌^◌, ◌+◌, ◌-◌, List, [], ◌∷◌, Bool, true}
use Rattle.std.proofs.Common.{◌&&◌, refl, arith, map, filter, inl, inr, eqb, eqb-true, length, sym, ap, ap₂, ◌∙◌, Some}
use Rattle.std.proofs.Common.{None, subst, find, take, ltb-true, lt-ltb, ltb-false}
use Rattle.std.specs.Prelude.{slice_get, slice_index, nat_lt, is_some, sum_by, ◌||◌}
use Rattle.std.specs.Int.{bit_at, bit_not, w64}
use Rattle.std.specs.Int.Bits.{bit_and}
use Rattle.std.specs.List.{enumerate_from, list_all, range_with_len}
use Rattle.std.proofs.lemmas.Option.{slice_get_within}
use Rattle.std.proofs.lemmas.List.{take_all}
use Rattle.std.proofs.lemmas.List.Sums.{sum_by-cons, sum_by-append}
use Rattle.std.proofs.lemmas.Nat.{and_le_l, pow_pos}
use Rattle.std.proofs.lemmas.Nat.Bits.{bit_at_and, bit_at_above, bit_at-lt, bit_at_ones}
use Rattle.xc_input.specs.Problem.{Numbered, holds, holding, colour_in}
use Rattle.xc_input.specs.declared.problem.Use.{Use}
use Rattle.xc_text.proofs.ListLemmas.{IsIn, by_bool, by_option, EachTwo, EachTwo-weaker, each_from, and_left}
use Rattle.xc_text.proofs.ListLemmas.{not_some, list_all-each, in-filter, filter-in, filter_both, filter_same}
use Rattle.xc_text.proofs.ListLemmas.{each_two_from_AllPairs, in-slice_get, and_right, keep_all}
use Rattle.xc_moves.proofs.MoveLemmas.{rises_filter}
use Rattle.xc_words.specs.declared.words.Words.{Words}
use Rattle.xc_words.specs.Words.{and_not, bits_of, CountsBranches}
use Rattle.xc_search.specs.Listing.{Wanted, Residual, Branch, pick, branches_of, branch_count, branch_item, listing}
use Rattle.xc_search.specs.Listing.{first_least}
use Rattle.xc_search.specs.inner.Levels.{take_branch}
use Rattle.xc_search.specs.inner.Few.{AreWordsOf}
use Rattle.xc_search.proofs.ListingLemmas.{IsProper, find-in, in-find, use_passes, holds_use, listing_at, proper_behind}
use Rattle.xc_search.proofs.ListingLemmas.{takes, nones, takes_one, IsBranchOf, two_rise}
use Rattle.xc_search.proofs.Matched.{EachTwo-filter}
use Rattle.xc_search.proofs.AnyItem.{count, count_by_item}
use Rattle.xc_search.proofs.Picked.{has, at_place, picked-in, in-picked, two_picked, none_picked, all_picked}
use Rattle.xc_search.proofs.Numbering.{bit_of, bit_at_place, range-in, range_distinct, sum_renumbered}
use Rattle.xc_search.proofs.Shown.{shown, residual, placed, bit_below, holders_at, pick_shown}

-- ======== The branches of an item that is to be held once: one for each option that holds it.

sum-enumerated : (f : Residual → ℕ) (g : ℕ × Numbered → Branch) (h : Numbered → Residual) (k : ℕ) (xs : List Numbered)
    → ((j : ℕ) (x : Numbered) → (g (j, x)).next ≡ h x)
    → sum_by (λ (b : Branch). f b.next) (map g (enumerate_from k xs)) ≡ sum_by (λ x. f (h x)) xs
sum-enumerated f g h k [] same = refl
sum-enumerated f g h k (x ∷ xs) same =
    omega (
      arith,
      sum_by-cons (λ (b : Branch). f b.next) (g (k, x)) (map g (enumerate_from (k + 1) xs)),
      sum_by-cons (λ x. f (h x)) x xs,
      ap f (same k x),
      sum-enumerated f g h (k + 1) xs same,
    )

branch_sum : (r : Residual) (v : Wanted) → v.low ≡ 1
    → sum_by (λ (b : Branch). count b.next) (branches_of r v)
    ≡ sum_by (λ o. count (pick r v.item o)) (holding v.item r.options)
branch_sum r v e =
    let n = branch_count r v in
    let hs = holding v.item r.options in
    let all : take n hs ≡ hs = take_all n hs (omega (arith, e)) in
    let nothing : nones r v ≡ [] = grind (arith, e) in
    sum_by-append (λ (b : Branch). count b.next) (takes r v) (nones r v)
    ∙ ap (λ bs. sum_by (λ (b : Branch). count b.next) (takes r v) + sum_by (λ (b : Branch). count b.next) bs) nothing
    ∙ nought (sum_by (λ (b : Branch). count b.next) (takes r v))
    ∙ sum-enumerated count (take_branch r v.item n) (λ o. pick r v.item o) 1 (take n hs) (λ j x. refl)
    ∙ ap (sum_by (λ o. count (pick r v.item o))) all
  where
    nought : (k : ℕ) → k + 0 ≡ k
    nought k = omega arith

-- ======== What may be shown.

-- n is the number of primary items: those of the options that are shown are shown, and no bit is of nothing
abbrev closed : ℕ → Residual → List ℕ → ℕ → ℕ → Bool
closed n r os left items =
    nat_lt left (2 ^ length os) && (nat_lt items (2 ^ length r.items)
    && list_all (λ o. list_all (λ u. nat_lt n u.item
    || is_some (find (λ v. eqb v.item u.item) (shown r os left items).items)) o.uses) (shown r os left items).options)

passes : {X : Type 0} (f : X → Bool) (xs : List X) (x : X) → list_all f xs ≡ true → IsIn xs x → f x ≡ true
passes f [] x e h = absurd h
passes f (y ∷ ys) x e (inl q) = subst (λ z. f z ≡ true) q (and_left _ _ e)
passes f (y ∷ ys) x e (inr q) = passes f ys x (and_right _ _ e) q

both : (a b : Bool) → a ≡ true → b ≡ true → (a && b) ≡ true
both a b e f = cc

-- a bit that is set is of something
pub some_at : {X : Type 0} (m i : ℕ) (xs : List X) → m < 2 ^ length xs → bit_at m i ≡ 1 → (x : X)
    × (slice_get xs i ≡ Some x)
some_at m i xs l e = by_option (slice_get xs i)
    (λ z. absurd (omega (arith, e, bit_at_above m (length xs) i l (not_some xs i z))))
    (λ x z. (x, z))

in_both : (a b i : ℕ) → has (bit_and a b) i ≡ (has a i && has b i)
in_both a b i =
    let e = bit_at_and a b i in
    let one = bit_at-lt a i in
    let two = bit_at-lt b i in
    grind (arith, e, one, two)

bounds_of : (n : ℕ) (r : Residual) (os : List ℕ) (left items : ℕ) → closed n r os left items ≡ true
    → (left < 2 ^ length os) × (items < 2 ^ length r.items)
bounds_of n r os left items c =
    (ltb-true _ _ (and_left _ _ c), ltb-true _ _ (and_left _ _ (and_right _ _ c)))

proper_shown : (n : ℕ) (r : Residual) (os : List ℕ) → IsProper n r → (left items : ℕ) → closed n r os left items ≡ true
    → IsProper n (shown r os left items)
proper_shown n r os p left items c = record {
  options_rise = rises_filter (λ o. has left (bit_of os o.number)) 0 r.options p.options_rise;
  items_apart = two_picked _ 0 items r.items p.items_apart;
  sound = λ v h. p.sound v (in-picked 0 items r.items v h);
  items_left = λ o j h l e.
      let f : Use → Bool =
      λ u. nat_lt n u.item || is_some (find (λ v. eqb v.item u.item) (shown r os left items).items) in
      let g : Numbered → Bool = λ o. list_all f o.uses in
      let all : list_all g (shown r os left items).options ≡ true = and_right _ _ (and_right _ _ c) in
      let us : list_all f o.uses ≡ true = passes g (shown r os left items).options o all h in
      by_option (colour_in o.uses j) (λ d. cc) (λ k d.
      let t = use_passes f o.uses j k us d in
      by_option (find (λ v. eqb v.item j) (shown r os left items).items)
      (λ z. grind (arith, t, z, ltb-true))
      (λ v z. let at = in-find (shown r os left items).items j v z in (v, at.0, at.1)));
  one_primary = λ o h. p.one_primary o (in-filter _ r.options o h).0;
  own = λ o h. p.own o (in-filter _ r.options o h).0;
}

closed_back : (n : ℕ) (r : Residual) (os : List ℕ) (left items : ℕ) → IsProper n (shown r os left items)
    → left < 2 ^ length os → items < 2 ^ length r.items → closed n r os left items ≡ true
closed_back n r os left items q l k = both _ _ (lt-ltb _ _ l) (both _ _ (lt-ltb _ _ k)
    (list_all-each _ (shown r os left items).options (λ o h. list_all-each _ o.uses (λ u j.
    by_bool (nat_lt n u.item) (λ e. rw e refl) (λ e.
    let to = q.items_left o u.item h (ltb-false _ _ e) (holds_use o.uses u j) in
    let f = find-in (shown r os left items).items to.0 q.items_apart to.1 in
    let g = subst (λ j. find (λ v. eqb v.item j) (shown r os left items).items ≡ Some to.0) to.2 f in
    rw e (ap is_some g))))))

-- ======== The count.

module _ (n : ℕ) (r : Residual) (os : List ℕ) (w : Words) (p : IsProper n r) (ws : AreWordsOf r os w) where
  distinct : EachTwo (λ (x y : ℕ). x ≢ y) os
  distinct = each_two_from_AllPairs (λ x y. x ≢ y) os ws.distinct

  -- the option of a bit
  at_bit : (x k : ℕ) → slice_get os x ≡ Some k → (o : Numbered) × IsIn r.options o × (bit_of os o.number ≡ x)
  at_bit x k e =
      let at = ws.known x k e in
      let o = at.1 in
      (o, in-slice_get r.options at.0 o at.2, ap (bit_of os) at.3 ∙ bit_at_place os x k distinct e)

  differ : (o q : Numbered) → IsIn r.options o → IsIn r.options q → o.number < q.number
      → bit_of os o.number ≢ bit_of os q.number
  differ o q h k l e =
      let one = placed ws o h in
      let two = subst (λ x. slice_get os x ≡ Some q.number) (sym e) (placed ws q k) in
      absurd (no_less (sym one ∙ two) l)
    where
      no_less : {a b : ℕ} → Some a ≡ Some b → a < b → ⊥
      no_less {a} {b} d l = let s : a ≡ b = cc in omega (arith, s, l)

  -- the options that are shown and hold an item are the bits of one word
  sum_shown : (f : Numbered → ℕ) (g : ℕ → ℕ) (left i : ℕ) (v : Wanted) → slice_get r.items i ≡ Some v
      → left < 2 ^ length os → ((o : Numbered) → IsIn r.options o → has left (bit_of os o.number) ≡ true
      → holds o v.item ≡ true → f o ≡ g (bit_of os o.number))
      → sum_by f (holding v.item (filter (λ o. has left (bit_of os o.number)) r.options))
      ≡ sum_by g (bits_of (bit_and (slice_index w.holders i) left))
  sum_shown f g left i v e l same =
      let m = bit_and (slice_index w.holders i) left in
      let of : Numbered → Bool = λ o. has m (bit_of os o.number) in
      let agree : (o : Numbered) → IsIn r.options o → (has left (bit_of os o.number) && holds o v.item) ≡ of o =
      λ o h.
      let word = holders_at ws i v o e h in
      let two = in_both (slice_index w.holders i) left (bit_of os o.number) in
      by_bool (has left (bit_of os o.number)) (λ d. grind (arith, word, two, d)) (λ d. grind (arith, word, two, d)) in
      ap (sum_by f) (filter_both (λ o. holds o v.item) (λ o. has left (bit_of os o.number)) r.options
      ∙ filter_same _ of r.options (each_from _ r.options agree))
      ∙ sum_renumbered f g (λ o. bit_of os o.number) (filter of r.options) (bits_of m)
      (EachTwo-filter _ of r.options (EachTwo-weaker _ _ r.options differ (two_rise 0 r.options p.options_rise)))
      (EachTwo-filter _ (has m) (range_with_len 0 64) (range_distinct 0 64))
      (λ o h.
      let at = in-filter of r.options o h in
      let two : (has left (bit_of os o.number) && holds o v.item) ≡ true = agree o at.0 ∙ at.1 in (
        filter-in (has m) (range_with_len 0 64) (bit_of os o.number)
            (range-in 0 64 _ (omega arith) (omega (arith, bit_below ws o at.0))) at.1,
        same o at.0 (and_left _ _ two) (and_right _ _ two),
      ))
      (λ x h.
      let at = in-filter (has m) (range_with_len 0 64) x h in
      let two : (has (slice_index w.holders i) x && has left x) ≡ true =
      sym (in_both (slice_index w.holders i) left x) ∙ at.1 in
      let k = some_at left x os l (eqb-true _ _ (and_right _ _ two)) in
      let o = at_bit x k.0 k.1 in
      (o.0, filter-in of r.options o.0 o.1 (subst (λ y. has m y ≡ true) (sym o.2) at.1), o.2))

  follows : (left items i : ℕ) → left < 2 ^ 64 → items < 2 ^ 64 → closed n r os left items ≡ true → i < 64
      → bit_at items i ≡ 1 → count (shown r os left items)
      ≡ sum_by (λ x. count (shown r os (and_not left (slice_index w.apart x)) (and_not items (slice_index w.alone x))))
      (bits_of (bit_and (slice_index w.holders i) left))
  follows left items i lf itf c l bit =
      let q = proper_shown n r os p left items c in
      let b = bounds_of n r os left items c in
      let at = some_at items i r.items b.1 bit in
      let v = at.0 in
      let vi = at_place r.items i v at.1 in
      let bi : has items i ≡ true = grind (arith, bit) in
      count_by_item n (shown r os left items) v q (picked-in 0 items r.items i v vi bi)
      ∙ branch_sum (shown r os left items) v (ws.once v i at.1).0
      ∙ sum_shown (λ o. count (pick (shown r os left items) v.item o))
      (λ x. count (shown r os (and_not left (slice_index w.apart x)) (and_not items (slice_index w.alone x))))
      left i v at.1 b.0
      (λ o h s k. ap count (pick_shown ws n left items p q i v o vi bi (filter-in _ r.options o h s) k))

  stays_closed : (left items i x : ℕ) → left < 2 ^ 64 → items < 2 ^ 64 → closed n r os left items ≡ true → i < 64
      → bit_at items i ≡ 1 → x < 64 → bit_at (bit_and (slice_index w.holders i) left) x ≡ 1
      → closed n r os (and_not left (slice_index w.apart x)) (and_not items (slice_index w.alone x)) ≡ true
  stays_closed left items i x lf itf c l bit lx bitx =
      let q = proper_shown n r os p left items c in
      let b = bounds_of n r os left items c in
      let at = some_at items i r.items b.1 bit in
      let v = at.0 in
      let vi = at_place r.items i v at.1 in
      let bi : has items i ≡ true = grind (arith, bit) in
      let e : has (bit_and (slice_index w.holders i) left) x ≡ true = grind (arith, bitx) in
      let two : (has (slice_index w.holders i) x && has left x) ≡ true =
      sym (in_both (slice_index w.holders i) left x) ∙ e in
      let k = some_at left x os b.0 (eqb-true _ _ (and_right _ _ two)) in
      let to = at_bit x k.0 k.1 in
      let o = to.0 in
      let known : IsIn (shown r os left items).options o =
      filter-in _ r.options o to.1 (subst (λ y. has left y ≡ true) (sym to.2) (and_right _ _ two)) in
      let here : holds o v.item ≡ true =
      sym (holders_at ws i v o at.1 to.1)
      ∙ subst (λ y. has (slice_index w.holders i) y ≡ true) (sym to.2) (and_left _ _ two) in
      let of : IsBranchOf (shown r os left items) v (take_branch (shown r os left items) v.item 1 (1, o)) =
      takes_one 1 1 o known here in
      let below : IsProper n (pick (shown r os left items) v.item o) = proper_behind q of in
      let same = pick_shown ws n left items p q i v o vi bi known here in
      let left_below : IsProper n
      (shown r os (and_not left (slice_index w.apart x)) (and_not items (slice_index w.alone x))) =
      subst (λ y. IsProper n
      (shown r os (and_not left (slice_index w.apart y)) (and_not items (slice_index w.alone y)))) to.2
      (subst (IsProper n) same below) in
      closed_back n r os _ _ left_below
      (omega (arith, b.0, and_le_l left (bit_not w64 (slice_index w.apart x))))
      (omega (arith, b.1, and_le_l items (bit_not w64 (slice_index w.alone x))))

  counts : CountsBranches w.holders w.alone w.apart (closed n r os) (λ left items. count (shown r os left items))
  counts = record {
    none_open = λ left c.
        let e : branch_item (shown r os left 0) ≡ None =
        ap (first_least (branch_count (shown r os left 0))) (none_picked 0 r.items) in
        ap length (listing_at (shown r os left 0) None e);
    by_item = follows;
    kept = stays_closed;
  }

  -- all is shown
  whole_shown : shown r os (2 ^ length os - 1) (2 ^ length r.items - 1) ≡ r
  whole_shown =
      ap₂ residual (all_picked 0 (length r.items) r.items (omega arith))
      (keep_all _ r.options (each_from _ r.options (λ o h.
      let bit = bit_at_ones (length os) (bit_of os o.number) (slice_get_within os _ o.number (placed ws o h)) in
      grind (arith, bit))))

less : (k : ℕ) → 2 ^ k - 1 < 2 ^ k
less k = omega (arith, pow_pos k)

-- THE COUNT BY WORDS: a count that follows the branches of these words is at the full words the number of solutions
pub words_count : (n : ℕ) (r : Residual) (os : List ℕ) (w : Words) → IsProper n r → AreWordsOf r os w → (m : ℕ)
    → ((good : ℕ → ℕ → Bool) → (f : ℕ → ℕ → ℕ) → CountsBranches w.holders w.alone w.apart good f
    → good (2 ^ length os - 1) (2 ^ length r.items - 1) ≡ true
    → m ≡ f (2 ^ length os - 1) (2 ^ length r.items - 1))
    → m ≡ length (listing r)
words_count n r os w p ws m given =
    given (closed n r os) (λ left items. count (shown r os left items)) (counts n r os w p ws)
    (closed_back n r os _ _ (subst (IsProper n) (sym (whole_shown n r os w p ws)) p) (less (length os))
    (less (length r.items)))
    ∙ ap count (whole_shown n r os w p ws)
