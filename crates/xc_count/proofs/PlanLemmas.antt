-- What a sweep goes by.
use Rattle.std.proofs.Common.{ℕ, zero, suc, ◌≡◌, ◌≢◌, ◌<◌, ◌≤◌, ◌+◌, ◌-◌, Bool, true, false, not, ◌&&◌, cond, List, []}
use Rattle.std.proofs.Common.{◌∷◌, ◌++◌, length}
use Rattle.std.proofs.Common.{Option, Some, None, refl, sym, ap, ap₂, ◌∙◌, arith, subst, eqb, eq-eqb, drop, take}
use Rattle.std.proofs.Common.{ltb-true, ltb-false, lt-ltb, inl, inr, ◌⊎◌}
use Rattle.std.proofs.Math.ListN.{get_or, get_or-append}
use Rattle.std.proofs.Math.Seq.{get_or-append_seam}
use Rattle.std.specs.Prelude.{is_some, nat_lt, Contains}
use Rattle.std.specs.List.{list_all}
use Rattle.std.specs.Option.{option_or}
use Rattle.std.proofs.lemmas.List.{get_or-take, length-append, take_all}
use Rattle.std.proofs.lemmas.List.Elements.{recursion_from_All}
use Rattle.xc_input.specs.declared.problem.Use.{Use}
use Rattle.xc_input.specs.Problem.{Puzzle, IsPrimary, IsItem, IsValid, colour_in, uses_of}
use Rattle.xc_text.proofs.ListLemmas.{and_left, and_right, by_bool, IsIn, in-contains, contains-in, in-take, each_in}
use Rattle.xc_text.proofs.ListLemmas.{list_all-each}
use Rattle.xc_count.specs.declared.plan.Plan.{Plan}
use Rattle.xc_count.specs.declared.plan.Step.{Step}
use Rattle.xc_search.specs.Listing.{Residual, listing}
use Rattle.xc_count.specs.inner.Held.{Held, agree, holding_uses, left_by}
use Rattle.xc_count.specs.inner.Keys.{held_in, rank_of}
use Rattle.xc_count.specs.inner.Passed.{worth_taken}
use Rattle.xc_count.specs.inner.Plans.{AreWindows, IsPlan, IsStep, IsOver, options_with}
use Rattle.xc_count.specs.inner.Worth.{holds_first, key_below, says, with_number}
use Rattle.xc_count.proofs.Below.{left_over, left_same}
use Rattle.xc_count.proofs.HolderLemmas.{option_known}
use Rattle.xc_count.proofs.KeyLemmas.{held_dropped}

-- an item at a place of the order
pub past_at : (order : List ℕ) (past place x item : ℕ) → place < past → place < length order → x ≡ get_or order place x
    → x ≡ item → Contains (take past order) item
past_at order past place x item h l at e =
    let here : get_or order place item ≡ item = subst (λ z. get_or order place z ≡ z) e (sym at) in
    (place, within order past place h l, get_or-take past order place item h ∙ here)
  where
    within : (xs : List ℕ) (n k : ℕ) → k < n → k < length xs → k < length (take n xs)
    within xs zero k h l = absurd (omega (arith, h))
    within [] (suc n) k h l = l
    within (x ∷ xs) (suc n) zero h l = omega arith
    within (x ∷ xs) (suc n) (suc k) h l = let i =
        within xs n k (omega (arith, h)) (omega (arith, l)) in omega (arith, i)

-- uses hold the item of one of them
pub use_there : (us : List Use) (k : ℕ) (d : Use) → k < length us → is_some (colour_in us (get_or us k d).item) ≡ true
use_there [] k d h = absurd (omega (arith, h))
use_there (u ∷ us) zero d h = let e = eq-eqb u.item u.item refl in rw e refl
use_there (u ∷ us) (suc k) d h =
    let rest = use_there us k d (omega (arith, h)) in
    by_bool (eqb u.item (get_or us k d).item) (λ e. rw e refl) (λ e. rw e rest)

-- the items up to a place and the one there
pub take_next : (xs : List ℕ) (k i : ℕ) → k < length xs → IsIn (take (k + 1) xs) i
    → IsIn (take k xs) i ⊎ (get_or xs k 0 ≡ i)
take_next xs k i h in_it = next xs k i h (subst (λ n. IsIn (take n xs) i) (let e : k + 1 ≡ suc k =
    omega arith in e) in_it)
  where
    next : (xs : List ℕ) (k i : ℕ) → k < length xs → IsIn (take (suc k) xs) i → IsIn (take k xs) i ⊎ (get_or xs k 0 ≡ i)
    next [] k i h m = absurd (omega (arith, h))
    next (x ∷ xs) zero i h (inl e) = inr e
    next (x ∷ xs) zero i h (inr m) = absurd m
    next (x ∷ xs) (suc k) i h (inl e) = inl (inl e)
    next (x ∷ xs) (suc k) i h (inr m) = elim (next xs k i (omega (arith, h)) m) [ inl a ↦ inl (inr a) | inr b ↦ inr b ]

take_more : (xs : List ℕ) (k i : ℕ) → IsIn (take k xs) i → IsIn (take (k + 1) xs) i
take_more xs k i m = subst (λ n. IsIn (take n xs) i) (let e : suc k ≡ k + 1 = omega arith in e) (more xs k i m)
  where
    more : (xs : List ℕ) (k i : ℕ) → IsIn (take k xs) i → IsIn (take (suc k) xs) i
    more xs zero i m = absurd m
    more [] (suc k) i m = m
    more (x ∷ xs) (suc k) i (inl e) = inl e
    more (x ∷ xs) (suc k) i (inr m) = inr (more xs k i m)

-- ---- windows

-- what is over stays over
over_more : (p : Puzzle) (order : List ℕ) (k i : ℕ) → IsOver p (take k order) i → IsOver p (take (k + 1) order) i
over_more p order k i h = record {
  held = λ primary. more i (h.held primary);
  options = λ j d l. let one = h.options j d l in (one.0, more one.0 one.1, one.2);
}
  where
    more : (j : ℕ) → Contains (take k order) j → Contains (take (k + 1) order) j
    more j c = contains-in _ _ (take_more order k j (in-contains _ _ c))

-- the items of lower ranks, once one more is held
pub over_below : (p : Puzzle) (order ranks : List ℕ) (place from next : ℕ)
    → ((i : ℕ) → IsItem p i → rank_of ranks i < from → IsOver p (take place order) i)
    → ((i : ℕ) → IsItem p i → from ≤ rank_of ranks i → rank_of ranks i < next → IsOver p (take (place + 1) order) i)
    → (i : ℕ) → IsItem p i → rank_of ranks i < next → IsOver p (take (place + 1) order) i
over_below p order ranks place from next before here i item low = by_bool (nat_lt (rank_of ranks i) from)
    (λ e. over_more p order place i (before i item (ltb-true _ _ e)))
    (λ e. here i item (ltb-false _ _ e) low)

-- one window more
pub window_pushed : (p : Puzzle) (order ranks old new : List ℕ) (w : ℕ) → new ≡ old ++ w ∷ []
    → AreWindows p order ranks old
    → ((i : ℕ) → IsItem p i → rank_of ranks i < w → IsOver p (take (length old + 1) order) i)
    → AreWindows p order ranks new
window_pushed p order ranks old new w is olds over = subst (AreWindows p order ranks) (sym is) (λ k i h item low.
    by_bool (nat_lt k (length old))
    (λ e.
    let before = ltb-true _ _ e in
    olds k i before item (subst (λ x. rank_of ranks i < x) (get_or-append old (w ∷ []) 0 k before) low))
    (λ e.
    let after = ltb-false _ _ e in
    let many = length-append old (w ∷ []) in
    let here : k ≡ length old = omega (arith, after, h, many) in
    let at : get_or (old ++ w ∷ []) k 0 ≡ w =
    ap (λ j. get_or (old ++ w ∷ []) j 0) here ∙ get_or-append_seam old w [] 0 in
    subst (λ j. IsOver p (take (j + 1) order) i) (sym here) (over i item (subst (λ x. rank_of ranks i < x) at low))))

some_not_none : (o : Option ℕ) → is_some o ≡ true → o ≢ None
some_not_none o s e = cc

module _ (p : Puzzle) (plan : Plan) (is : IsPlan p plan) where
  pub past_primary : (k j : ℕ) → Contains (take k plan.order.items) j → IsPrimary p j
  past_primary k j c = each_in (IsPrimary p) plan.order.items j (recursion_from_All _ _ is.order.primary)
      (in-take k plan.order.items j (in-contains _ _ c))

  pub order_at : (k : ℕ) → k < length plan.order.items → IsPrimary p (get_or plan.order.items k 0)
  order_at k h = is.order.primary k 0 h

  -- the items that a key says are held
  pub first_held : (k from : ℕ) (key : List ℕ) → holds_first plan k from key ≡ true → (j : ℕ)
      → Contains (take k plan.order.items) j → is_some (says plan from key j) ≡ true
  first_held k from key h j c =
      passes (λ i. is_some (says plan from key i)) (take k plan.order.items) j h (in-contains _ _ c)
    where
      passes : (f : ℕ → Bool) (xs : List ℕ) (x : ℕ) → list_all f xs ≡ true → IsIn xs x → f x ≡ true
      passes f [] x a m = absurd m
      passes f (y ∷ ys) x a (inl e) = subst (λ z. f z ≡ true) e (and_left _ _ a)
      passes f (y ∷ ys) x a (inr m) = passes f ys x (and_right (f y) _ a) m

  -- where the whole order is held, each primary item is
  pub all_held : (from : ℕ) (key : List ℕ) → holds_first plan (length plan.order.items) from key ≡ true → (i : ℕ)
      → IsPrimary p i → says plan from key i ≢ None
  all_held from key h i primary =
      let whole : take (length plan.order.items) plan.order.items ≡ plan.order.items =
      take_all _ plan.order.items (omega arith) in
      some_not_none _ (first_held (length plan.order.items) from key h i
      (subst (λ xs. Contains xs i) (sym whole) (is.order.each i primary)))

  module _ (step : Step) (at : IsStep p plan step) (key : List ℕ) where
    abbrev ranks : List ℕ
    ranks = plan.ranking.ranks.items

    abbrev past : List ℕ
    past = take (step.place + 1) plan.order.items

    abbrev gone : ℕ → Bool
    gone i = not (nat_lt (rank_of ranks i) step.from) && nat_lt (rank_of ranks i) step.next

    moved_says : (i : ℕ) → says plan step.next (drop (step.next - step.from) key) i
        ≡ cond (gone i) (Some 0) (says plan step.from key i)
    moved_says i = held_dropped ranks step.from step.next key i at.rises ∙ by_bool (nat_lt (rank_of ranks i) step.from)
        (λ e.
        let before = ltb-true _ _ e in
        let soon : nat_lt (rank_of ranks i) step.next ≡ true = lt-ltb _ _ (omega (arith, before, at.rises)) in
        rw (e, soon) refl)
        (λ e. by_bool (nat_lt (rank_of ranks i) step.next) (λ f. rw (e, f) refl) (λ f. rw (e, f) refl))

    over : (i : ℕ) → IsItem p i → gone i ≡ true → IsOver p past i
    over i item e =
        let after : nat_lt (rank_of ranks i) step.from ≡ false = not_false _ (and_left _ _ e) in
        at.over i item (ltb-false _ _ after) (ltb-true _ _ (and_right (not (nat_lt (rank_of ranks i) step.from)) _ e))
      where
        not_false : (b : Bool) → not b ≡ true → b ≡ false
        not_false true e = cc
        not_false false e = refl

    -- what is left is the same once the marks are left out that are needed no more
    pub left_moved : IsValid p → holds_first plan (step.place + 1) step.from key ≡ true
        → left_by p (says plan step.next (drop (step.next - step.from) key)) ≡ left_by p (says plan step.from key)
    left_moved v held = left_over p v (says plan step.from key)
        (says plan step.next (drop (step.next - step.from) key)) past
        gone (past_primary (step.place + 1))
        (λ j c. some_not_none _ (first_held (step.place + 1) step.from key held j c)) over (λ i item. moved_says i)

    -- the step's item is held as well as those before
    pub holds_next : holds_first plan step.place step.from key ≡ true
        → is_some (says plan step.from key (get_or plan.order.items step.place 0)) ≡ true
        → holds_first plan (step.place + 1) step.from key ≡ true
    holds_next held here = list_all-each _ past (λ j m. elim (take_next plan.order.items step.place j at.within m) [
      | inl a ↦ first_held step.place step.from key held j (contains-in _ _ a)
      | inr b ↦ subst (λ i. is_some (says plan step.from key i) ≡ true) b here
    ])

    pub key_moved : IsValid p → holds_first plan (step.place + 1) step.from key ≡ true
        → key_below p plan step.next (drop (step.next - step.from) key) ≡ key_below p plan step.from key
    key_moved v held = ap (λ r. length (listing r)) (left_moved v held)

    pub held_moved : holds_first plan (step.place + 1) step.from key ≡ true
        → holds_first plan (step.place + 1) step.next (drop (step.next - step.from) key) ≡ true
    held_moved held = list_all-each _ past (λ j m. subst (λ o. is_some o ≡ true) (sym (moved_says j))
        (by_bool (gone j) (λ e. rw e refl)
        (λ e. rw e (first_held (step.place + 1) step.from key held j (contains-in _ _ m)))))

    -- an option is taken
    pub held_taken : (new : List ℕ) (o : ℕ) (us : List Use) → uses_of p o ≡ us
        → holds_first plan step.place step.from key ≡ true
        → Contains (options_with p (get_or plan.order.items step.place 0)) o
        → ((i : ℕ) → IsItem p i → says plan step.from new i ≡ holding_uses us (says plan step.from key) i)
        → holds_first plan (step.place + 1) step.from new ≡ true
    held_taken new o us uses held listed is_new = list_all-each _ past (λ j m.
        let primary = past_primary (step.place + 1) j (contains-in _ _ m) in
        subst (λ z. is_some z ≡ true) (sym (is_new j (item_of j primary)))
        (elim (take_next plan.order.items step.place j at.within m) [
          | inl a ↦ kept (colour_in us j) _ (first_held step.place step.from key held j (contains-in _ _ a))
          | inr b ↦ taken (colour_in us j) _ (subst (λ i. is_some (colour_in us i) ≡ true) b
              (subst (λ vs. is_some (colour_in vs (get_or plan.order.items step.place 0)) ≡ true) uses
              (option_known p _ o listed).1))
        ]))
      where
        item_of : (j : ℕ) → IsPrimary p j → IsItem p j
        item_of j h = (h.0, omega (arith, h.1))

        kept : (a b : Option ℕ) → is_some b ≡ true → is_some (option_or a b) ≡ true
        kept None b h = h
        kept (Some c) b h = refl

        taken : (a b : Option ℕ) → is_some a ≡ true → is_some (option_or a b) ≡ true
        taken None b h = cc
        taken (Some c) b h = refl

    pub left_taken : (h : Residual → ℕ) → IsValid p → (new : List ℕ) (o : ℕ) (us : List Use) (b : Bool)
        → uses_of p o ≡ us → b ≡ agree (says plan step.from key) us → b ≡ true
        → ((i : ℕ) → IsItem p i → says plan step.from new i ≡ holding_uses us (says plan step.from key) i)
        → h (left_by p (says plan step.from new)) ≡ worth_taken h p (says plan step.from key) o
    left_taken h v new o us b uses test agreed is_new =
        let s : Held = says plan step.from key in
        ap h (left_same p v (holding_uses us s) (says plan step.from new) is_new)
        ∙ sym (ap (λ vs. cond (agree s vs) (h (left_by p (holding_uses vs s))) 0) uses
        ∙ ap (λ t. cond t (h (left_by p (holding_uses us s))) 0) (sym test ∙ agreed))

    pub below_taken : IsValid p → (new : List ℕ) (o : ℕ) (us : List Use) (b : Bool) → uses_of p o ≡ us
        → b ≡ agree (says plan step.from key) us → b ≡ true
        → ((i : ℕ) → IsItem p i → says plan step.from new i ≡ holding_uses us (says plan step.from key) i)
        → key_below p plan step.from new ≡ with_number p (says plan step.from key) o
    below_taken = left_taken (λ r. length (listing r))

    -- what a key says in which the uses of an option were marked
    pub taken_says : (rs old new out : List ℕ) (us : List Use) → rs ≡ ranks → old ≡ key → out ≡ new
        → ((i : ℕ) → 1 ≤ i → i ≤ length rs
        → held_in rs step.from new i ≡ holding_uses us (held_in rs step.from old) i)
        → (i : ℕ) → IsItem p i → says plan step.from out i ≡ holding_uses us (says plan step.from key) i
    taken_says rs old new out us same before after marked i item =
        let one : held_in rs step.from new i ≡ holding_uses us (held_in rs step.from old) i =
        marked i item.0 (omega (arith, item.1, is.ranks.0, ap length same)) in
        ap (λ k. held_in ranks step.from k i) after
        ∙ ap (λ r. held_in r step.from new i) (sym same) ∙ one
        ∙ ap₂ (λ r k. holding_uses us (held_in r step.from k) i) same before
