-- The covers of what is left: where nothing is held, where an item is free, where all are held, and where items are
-- given up that no option can hold any more.
use Rattle.std.proofs.Common.{ℕ, zero, suc, ◌≡◌, ◌≢◌, Bool, true, false, List, [], ◌∷◌, length, cond}
use Rattle.std.proofs.Common.{Option, Some, None, refl, sym, ap, ap₂, ◌∙◌, arith, subst, filter, inl, inr}
use Rattle.std.proofs.Math.Path.{fun_ext}
use Rattle.std.specs.Prelude.{is_none, is_some, sum_by, unwrap_or, Contains}
use Rattle.std.specs.List.{list_all}
use Rattle.std.proofs.lemmas.List.Elements.{recursion_from_All}
use Rattle.xc_moves.specs.Moves.{agrees}
use Rattle.xc_input.specs.declared.problem.Bounds.{Bounds}
use Rattle.xc_input.specs.declared.problem.Use.{Use}
use Rattle.xc_input.specs.Problem.{Puzzle, Numbered, numbered_options, holds, holding, IsPrimary, IsItem, IsValid}
use Rattle.xc_input.specs.Problem.{IsSoundUse}
use Rattle.xc_input.specs.Problem.{bounds_at, low_at, high_at, colour_in}
use Rattle.xc_search.specs.Listing.{Wanted, whole, listing}
use Rattle.xc_search.specs.Cover.{members}
use Rattle.xc_text.proofs.ListLemmas.{by_bool, by_option, keep_all, filter_same, IsIn, each_from, each_in, filter-in}
use Rattle.xc_text.proofs.ListLemmas.{map-in, list_all-each, not_some}
use Rattle.xc_search.proofs.Completeness.{bounded}
use Rattle.xc_search.proofs.ListingLemmas.{proper_whole, use_passes, with_bounds, uses_known, listing_at, holds_use}
use Rattle.xc_count.proofs.LeftBy.{AreOnce, agree_both, free_of, plain_at, same_test, sound_uses}
use Rattle.xc_count.proofs.Split.{below_split, with_none, with_this, sum-map, sum-filter, sum-same}
use Rattle.xc_search.specs.Once.{IsOnce}
use Rattle.xc_count.specs.inner.Held.{Held, agree, fits, left_by, holding_uses, below}
use Rattle.xc_count.specs.inner.Plans.{IsOver, HoldsPast, options_with}
use Rattle.xc_count.specs.inner.Worth.{with_number}

-- nothing is held: all is left
pub all_left : (p : Puzzle) (s : Held) → ((i : ℕ) → s i ≡ None) → left_by p s ≡ whole p
all_left p s free =
    let none : s ≡ (λ i. None) = fun_ext free in
    ap (left_by p) none ∙ ap₂ (λ a b. record { items = a; options = b })
    (keep_all (λ w. true) (whole p).items (each_from _ _ (λ w h. refl)))
    (keep_all (fits (λ i. None)) (numbered_options p) (each_from _ _ (λ o h. all_agree o.uses)))
  where
    all_agree : (us : List Use) → list_all (λ u. agrees u.colour None) us ≡ true
    all_agree [] = refl
    all_agree (u ∷ us) = all_agree us

pub whole_left : (p : Puzzle) (s : Held) → ((i : ℕ) → s i ≡ None) → below p s ≡ length (members p)
whole_left p s free = ap (λ r. length (listing r)) (all_left p s free)

-- ---- an item that is free

module _ (p : Puzzle) (once : IsOnce p) where
  pub known : (w : Wanted) → IsIn (whole p).items w → IsPrimary p w.item × (w.low ≡ 1) × (w.high ≡ 1)
  known w h =
      let at = with_bounds 0 p.bounds w h in
      let item : w.item ≡ suc at.0 = omega (arith, at.2) in
      let one = once (suc at.0) (omega arith, omega (arith, at.3)) in
      let none : Bounds = record { low = 0; high = 0 } in
      let low : low_at p (suc at.0) ≡ at.1.low = ap (λ (o : Option Bounds). (unwrap_or o none).low) at.4 in
      let high : high_at p (suc at.0) ≡ at.1.high = ap (λ (o : Option Bounds). (unwrap_or o none).high) at.4 in (
        (omega (arith, item), omega (arith, item, at.3)),
        omega (arith, low, at.5, one.0),
        omega (
          arith,
          high,
          at.6,
          one.1,
        ),
      )

  pub are_once : AreOnce p
  are_once = each_from _ _ (λ w h. (known w h).2)

  pub item_at : (i : ℕ) → IsPrimary p i → (w : Wanted) × IsIn (whole p).items w × (w.item ≡ i)
  item_at i primary = by_option (bounds_at p i)
      (λ e. absurd (none_at i primary e))
      (λ b e. let at = bounded p i b e in (at.0, at.1, at.2))
    where
      none_at : (i : ℕ) → IsPrimary p i → bounds_at p i ≡ None → ⊥
      none_at zero h e = absurd (omega (arith, h.0))
      none_at (suc k) h e = absurd (omega (arith, h.1, not_some p.bounds k e))

  -- the options by number
  by_number : (s : Held) (i : ℕ) → sum_by (with_number p s) (options_with p i) ≡ sum_by (with_this p s i)
      (numbered_options p)
  by_number s i =
      sum-map (with_number p s) (λ (x : Numbered). x.number) (holding i (numbered_options p))
      ∙ sum-filter (λ x. with_number p s x.number) (λ x. holds x i) (numbered_options p)
      ∙ sum-same (λ x. cond (holds x i) (with_number p s x.number) 0) (with_this p s i) (numbered_options p)
      (each_from _ _ (λ x h.
      let uses = uses_known p x h in
      ap (λ us. cond (holds x i) (cond (agree s us) (below p (holding_uses us s)) 0) 0) uses
      ∙ by_bool (holds x i) (λ e. by_bool (fits s x) (λ f. rw (e, f) refl) (λ f. rw (e, f) refl))
      (λ e. by_bool (fits s x) (λ f. rw (e, f) refl) (λ f. rw (e, f) refl))))

  module _ (v : IsValid p) (s : Held) where
    -- the covers with each option of an item that is free
    pub split_once : (i : ℕ) → IsPrimary p i → s i ≡ None → below p s ≡ sum_by (with_number p s) (options_with p i)
    split_once i primary free =
        let w = item_at i primary in
        let left = filter-in (λ z. is_none (s z.item)) (whole p).items w.0 w.1 (rw (w.2, free) refl) in
        let low = (known w.0 w.1).1 in
        let split = below_split p v are_once s w.0 left in
        let no_none : with_none p s w.0 ≡ 0 = rw low refl in
        let sum : below p s ≡ sum_by (with_this p s w.0.item) (numbered_options p) = omega (arith, split, no_none) in
        subst (λ j. below p s ≡ sum_by (with_this p s j) (numbered_options p)) w.2 sum ∙ sym (by_number s i)

    -- no choice where no item is free
    pub end_left : ((i : ℕ) → IsPrimary p i → s i ≢ None) → listing (left_by p s) ≡ [] ∷ []
    end_left held =
        let none : (left_by p s).items ≡ [] = all_held (whole p).items (λ w h. held w.item (known w h).0) in
        listing_at (left_by p s) None (rw none refl)
      where
        all_held : (ws : List Wanted) → ((w : Wanted) → IsIn ws w → s w.item ≢ None)
            → filter (λ w. is_none (s w.item)) ws ≡ []
        all_held [] h = refl
        all_held (w ∷ ws) h = by_option (s w.item) (λ e. absurd (h w (inl refl) e))
            (λ c e. rw e (all_held ws (λ z k. h z (inr k))))

    -- one cover, then
    pub one_left : ((i : ℕ) → IsPrimary p i → s i ≢ None) → below p s ≡ 1
    one_left held = ap length (end_left held)

-- ---- items that no option can hold any more

module _ (p : Puzzle) (v : IsValid p) (s t : Held) (past : List ℕ) (g : ℕ → Bool)
    (primary : (j : ℕ) → Contains past j → IsPrimary p j) (held : (j : ℕ) → Contains past j → s j ≢ None)
    (over : (i : ℕ) → IsItem p i → g i ≡ true → IsOver p past i)
    (same : (i : ℕ) → IsItem p i → t i ≡ cond (g i) (Some 0) (s i))
  where
    item_of : (o : Numbered) → IsIn (numbered_options p) o → (u : Use) → IsIn o.uses u → IsItem p u.item
    item_of o h u k = (each_in (IsSoundUse p) o.uses u (sound_uses p v o h) k).0

    one_item : (w : Wanted) → IsIn (whole p).items w → is_none (t w.item) ≡ is_none (s w.item)
    one_item w h =
        let at = with_bounds 0 p.bounds w h in
        let item : IsPrimary p w.item = (omega (arith, at.2), omega (arith, at.2, at.3)) in
        let is = same w.item (item.0, omega (arith, item.1)) in
        by_bool (g w.item)
        (λ e. by_option (s w.item)
        (λ q. absurd (held w.item ((over w.item (item.0, omega (arith, item.1)) e).held item) q))
        (λ c q. rw (is, e, q) refl))
        (λ e. rw (is, e) refl)

    -- an option that fits holds none of those items
    none_over : (o : Numbered) → IsIn (numbered_options p) o → fits s o ≡ true → (u : Use) → IsIn o.uses u
        → g u.item ≡ true → ⊥
    none_over o h f u k e =
        let all = (over u.item (item_of o h u k) e).options in
        let listed : IsIn (options_with p u.item) o.number =
        map-in (λ (x : Numbered). x.number) (holding u.item (numbered_options p)) o
        (filter-in (λ x. holds x u.item) (numbered_options p) o h (holds_use o.uses u k)) in
        let one = each_in (HoldsPast p past) (options_with p u.item) o.number (recursion_from_All _ _ all) listed in
        let j = one.0 in
        let holds_it : holds o j ≡ true = subst (λ us. is_some (colour_in us j) ≡ true) (uses_known p o h) one.2 in
        held j one.1 (free_of s o j f (plain_at p v o j h (primary j one.1).1 holds_it))

    one_option : (o : Numbered) → IsIn (numbered_options p) o → fits t o ≡ fits s o
    one_option o h = same_test (fits t o) (fits s o)
        (λ f. list_all-each (λ u. agrees u.colour (s u.item)) o.uses (λ u k.
        let a = use_passes (λ u. agrees u.colour (t u.item)) o.uses u.item u.colour f
        (each_in _ _ _ ((proper_whole p v).own o h) k) in
        let is = same u.item (item_of o h u k) in
        by_bool (g u.item)
        (λ e. let both = agree_both u.colour 0 (subst (λ z. agrees u.colour z ≡ true) (is
        ∙ ap (λ b. cond b (Some 0) (s u.item)) e) a) in
        absurd (omega (arith, both.0, both.1)))
        (λ e. subst (λ z. agrees u.colour z ≡ true) (is ∙ ap (λ b. cond b (Some 0) (s u.item)) e) a)))
        (λ f. list_all-each (λ u. agrees u.colour (t u.item)) o.uses (λ u k.
        let a = use_passes (λ u. agrees u.colour (s u.item)) o.uses u.item u.colour f
        (each_in _ _ _ ((proper_whole p v).own o h) k) in
        let is = same u.item (item_of o h u k) in
        by_bool (g u.item)
        (λ e. absurd (none_over o h f u k e))
        (λ e. subst (λ z. agrees u.colour z ≡ true) (sym (is ∙ ap (λ b. cond b (Some 0) (s u.item)) e)) a)))

    -- it is as well to give them up
    pub left_over : left_by p t ≡ left_by p s
    left_over = ap₂ (λ a b. record { items = a; options = b })
        (filter_same (λ w. is_none (t w.item)) (λ w. is_none (s w.item)) (whole p).items (each_from _ _ one_item))
        (filter_same (fits t) (fits s) (numbered_options p) (each_from _ _ one_option))

    pub below_over : below p t ≡ below p s
    below_over = ap (λ r. length (listing r)) left_over

-- states that say the same of each item
pub left_same : (p : Puzzle) → IsValid p → (s t : Held) → ((i : ℕ) → IsItem p i → t i ≡ s i)
    → left_by p t ≡ left_by p s
left_same p v s t same = left_over p v s t [] (λ i. false) (λ j c. absurd (omega (arith, c.1)))
    (λ j c e. omega (arith, c.1)) (λ i h e. absurd (no e)) same
  where
    no : false ≡ true → ⊥
    no e = cc
