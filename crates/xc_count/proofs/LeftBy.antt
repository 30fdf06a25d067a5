-- What is left is a function of the items that are held.
use Rattle.std.proofs.Common.{ℕ, ◌≡◌, ◌≤◌, ◌<◌, Bool, true, false, not, ◌&&◌, eqb, List, [], ◌∷◌}
use Rattle.std.proofs.Common.{map, filter, Some, None, refl, sym, ap, ◌∙◌, arith, subst}
use Rattle.std.proofs.Common.{eqb-true, eq-eqb, ltb-true, lt-ltb, ap₂}
use Rattle.xc_text.proofs.ListLemmas.{and_left, and_right, by_bool, by_option, filter_same, filter_both, IsIn}
use Rattle.xc_text.proofs.ListLemmas.{in-filter, filter-in, each_in, each_from, list_all-each}
use Rattle.xc_search.specs.inner.Levels.{item_left}
use Rattle.std.specs.Prelude.{is_none, nat_lt}
use Rattle.std.specs.List.{AllByRecursion}
use Rattle.xc_input.specs.declared.problem.Use.{Use}
use Rattle.xc_input.specs.Problem.{Puzzle, Numbered, numbered_options, primary_count, colour_at, colour_in, holds}
use Rattle.xc_input.specs.Problem.{IsValid, IsSoundUse}
use Rattle.xc_moves.specs.Moves.{agrees}
use Rattle.xc_search.specs.Listing.{Wanted, whole, spend_one, may_stay, stays, pick, none}
use Rattle.std.proofs.lemmas.List.Elements.{recursion_from_All}
use Rattle.xc_moves.proofs.MoveLemmas.{rises_filter}
use Rattle.xc_search.proofs.ListingLemmas.{IsProper, proper_whole, goes_on, use_passes, in-find, is_option, holds_use}
use Rattle.xc_search.proofs.Matched.{EachTwo-filter}
use Rattle.xc_count.specs.inner.Held.{Held, fits, left_by, holding_option, without_item}

-- ---- the uses of an option

-- a use of a primary item has no colour
plain_use : (p : Puzzle) (us : List Use) → AllByRecursion (IsSoundUse p) us → (j c : ℕ) → j ≤ primary_count p
    → colour_in us j ≡ Some c → c ≡ 0
plain_use p [] a j c l e = cc
plain_use p (u ∷ us) a j c l e = grind (arith, plain_use p us a.1 j c l, eqb-true)

-- an option that fits has none of the items that are held without colour
pub free_of : (s : Held) (o : Numbered) (j : ℕ) → fits s o ≡ true → colour_at o j ≡ Some 0 → s j ≡ None
free_of s o j f e =
    let a = use_passes (λ u. agrees u.colour (s u.item)) o.uses j 0 f e in
    by_option (s j) (λ q. q) (λ d q. absurd (not_so d (subst (λ z. agrees 0 z ≡ true) q a)))
  where
    not_so : (d : ℕ) → agrees 0 (Some d) ≡ true → ⊥
    not_so d e = cc

-- ---- what is left is proper

module _ (p : Puzzle) (v : IsValid p) where
  pub sound_uses : (o : Numbered) → IsIn (numbered_options p) o → AllByRecursion (IsSoundUse p) o.uses
  sound_uses o h = recursion_from_All _ _ (is_option p v o h).sound.sound

  -- a primary item of an option is held without colour
  pub plain_at : (o : Numbered) (j : ℕ) → IsIn (numbered_options p) o → j ≤ primary_count p → holds o j ≡ true
      → colour_at o j ≡ Some 0
  plain_at o j h l e = by_option (colour_at o j) (λ q. grind (arith, q))
      (λ c q. q ∙ ap Some (plain_use p o.uses (sound_uses o h) j c l q))

  pub proper_left : (s : Held) → IsProper (primary_count p) (left_by p s)
  proper_left s =
      let w = proper_whole p v in
      let back = λ (o : Numbered) (h : IsIn (left_by p s).options o). in-filter (fits s) (numbered_options p) o h in
      record {
        options_rise = rises_filter (fits s) 0 (numbered_options p) w.options_rise;
        items_apart = EachTwo-filter _ _ (whole p).items w.items_apart;
        sound = λ x h. w.sound x (in-filter _ _ _ h).0;
        items_left = λ o j h l e.
            let at = w.items_left o j (back o h).0 l e in
            let free = free_of s o j (back o h).1 (plain_at o j (back o h).0 l e) in
            (at.0, filter-in (λ x. is_none (s x.item)) (whole p).items at.0 at.1 (rw (at.2, free) refl), at.2);
        one_primary = λ o h. w.one_primary o (back o h).0;
        own = λ o h. w.own o (back o h).0;
      }

-- ---- one option more

pub agree_both : (c d : ℕ) → agrees c (Some d) ≡ true → (0 < c) × (c ≡ d)
agree_both c d e = grind (arith, ltb-true, eqb-true)

pub agree_back : (c d : ℕ) → 0 < c → c ≡ d → agrees d (Some c) ≡ true
agree_back c d l e = grind (arith, lt-ltb, eq-eqb)

pub same_test : (a b : Bool) → (a ≡ true → b ≡ true) → (b ≡ true → a ≡ true) → a ≡ b
same_test true b f g = sym (f refl)
same_test false true f g = g refl
same_test false false f g = refl

-- each bound is one
abbrev pub AreOnce : Puzzle → Type 0
AreOnce p = AllByRecursion (λ w. w.high ≡ 1) (whole p).items

items_taken : (x : Numbered) (s : Held) (ws : List Wanted) → AllByRecursion (λ w. w.high ≡ 1) ws
    → filter (λ w. nat_lt 0 w.high) (map (spend_one x) (filter (λ w. is_none (s w.item)) ws))
    ≡ filter (λ w. is_none (holding_option x s w.item)) ws
items_taken x s [] a = refl
items_taken x s (w ∷ ws) a = by_option (colour_at x w.item)
    (λ e. by_option (s w.item) (λ q. grind (arith, items_taken x s ws a.1))
    (λ d q. grind (arith, items_taken x s ws a.1)))
    (λ c e. by_option (s w.item) (λ q. grind (arith, items_taken x s ws a.1))
    (λ d q. grind (arith, items_taken x s ws a.1)))

module _ (p : Puzzle) (v : IsValid p) (once : AreOnce p) (s : Held) (i : ℕ) (x : Numbered)
    (known : IsIn (left_by p s).options x) (primary : i ≤ primary_count p) (at : holds x i ≡ true)
  where
    there : IsIn (numbered_options p) x × (fits s x ≡ true)
    there = in-filter (fits s) (numbered_options p) x known

    -- no option that fits holds a primary item of x
    pub not_both : (o : Numbered) (j : ℕ) → IsIn (numbered_options p) o → fits (holding_option x s) o ≡ true
        → j ≤ primary_count p → holds o j ≡ true → holds x j ≡ true → ⊥
    not_both o j h f l e q =
        let free = free_of (holding_option x s) o j f (plain_at p v o j h l e) in
        let held = plain_at p v x j there.0 l q in
        cc (held, free)

    own : (o : Numbered) → IsIn (numbered_options p) o → AllByRecursion (λ u. colour_at o u.item ≡ Some u.colour) o.uses
    own o h = (proper_whole p v).own o h

    left_once : (w : Wanted) (j : ℕ) → item_left (left_by p s) j ≡ Some w → (w.high ≡ 1) × (j ≤ primary_count p)
    left_once w j e =
        let from = in-find (left_by p s).items j w e in
        let back = (in-filter (λ z. is_none (s z.item)) (whole p).items w from.0).0 in (
          each_in (λ z. z.high ≡ 1) (whole p).items w once back,
          subst (λ z. z ≤ primary_count p) from.1 ((proper_whole p v).sound w back).0,
        )

    pub fits_before : (o : Numbered) → IsIn (numbered_options p) o → fits (holding_option x s) o ≡ true
        → fits s o ≡ true
    fits_before o h f = list_all-each (λ u. agrees u.colour (s u.item)) o.uses (λ u k.
        let a = use_passes (λ u. agrees u.colour (holding_option x s u.item)) o.uses u.item u.colour f
        (each_in _ _ _ (own o h) k) in
        by_option (colour_at x u.item) (λ q. rw q at a)
        (λ c q.
        let both = agree_both u.colour c (rw q at a) in
        let b = use_passes (λ u. agrees u.colour (s u.item)) x.uses u.item c there.1 q in
        subst (λ z. agrees z (s u.item) ≡ true) (sym both.1) b))

    stays_then : (o : Numbered) → IsIn (numbered_options p) o → fits (holding_option x s) o ≡ true
        → stays (left_by p s) x o ≡ true
    stays_then o h f = list_all-each _ x.uses (λ u k.
        let mine = each_in _ _ _ (own x there.0) k in
        by_option (item_left (left_by p s) u.item)
        (λ q. rw q (by_option (colour_at o u.item) (λ e. rw e refl) (λ d e.
        let a = use_passes (λ u. agrees u.colour (holding_option x s u.item)) o.uses u.item d f e in
        let both = agree_both d u.colour (rw mine at a) in
        rw e (agree_back d u.colour both.0 both.1))))
        (λ w q.
        let is = left_once w u.item q in
        rw (q, is.0) (by_bool (holds o u.item)
        (λ e. absurd (not_both o u.item h f is.1 e (holds_use x.uses u k)))
        (λ e. rw e refl))))

    fits_then : (o : Numbered) → IsIn (numbered_options p) o → fits s o ≡ true → stays (left_by p s) x o ≡ true
        → fits (holding_option x s) o ≡ true
    fits_then o h f stay = list_all-each (λ u. agrees u.colour (holding_option x s u.item)) o.uses (λ u k.
        let mine = each_in _ _ _ (own o h) k in
        by_option (colour_at x u.item)
        (λ q. rw q (use_passes (λ u. agrees u.colour (s u.item)) o.uses u.item u.colour f mine))
        (λ c q.
        let may = use_passes (λ z. may_stay (item_left (left_by p s) z.item) z o) x.uses u.item c stay q in
        rw q (by_option (item_left (left_by p s) u.item)
        (λ e.
        let both = agree_both c u.colour (rw (e, mine) at may) in
        agree_back c u.colour both.0 both.1)
        (λ w e.
        let is = left_once w u.item e in
        let held = holds_use o.uses u k in
        cc (may, e, is.0, held)))))

    one_test : (o : Numbered) → IsIn (numbered_options p) o
        → (fits s o && goes_on (left_by p s) i x o) ≡ fits (holding_option x s) o
    one_test o h = same_test (fits s o && goes_on (left_by p s) i x o) (fits (holding_option x s) o)
        (λ e. fits_then o h (and_left _ _ e) (and_right _ _ (and_right (fits s o) _ e)))
        (λ f. by_bool (holds o i) (λ e. absurd (not_both o i h f primary e at))
        (λ e. rw (fits_before o h f, e, stays_then o h f) refl))

    -- what taking x leaves is what is left by one option more
    pub picked : pick (left_by p s) i x ≡ left_by p (holding_option x s)
    picked = ap₂ (λ a b. record { items = a; options = b }) (items_taken x s (whole p).items once)
        (filter_both (goes_on (left_by p s) i x) (fits s) (numbered_options p)
        ∙ filter_same _ _ (numbered_options p) (each_from _ _ one_test))

-- ---- an item is given up

module _ (p : Puzzle) (v : IsValid p) (s : Held) (i : ℕ) (primary : i ≤ primary_count p) where
  up_test : (o : Numbered) → IsIn (numbered_options p) o
      → (fits s o && not (holds o i)) ≡ fits (without_item i s) o
  up_test o h = same_test (fits s o && not (holds o i)) (fits (without_item i s) o)
      (λ e. list_all-each (λ u. agrees u.colour (without_item i s u.item)) o.uses (λ u k.
      let mine = each_in _ _ _ ((proper_whole p v).own o h) k in
      let a = use_passes (λ u. agrees u.colour (s u.item)) o.uses u.item u.colour (and_left _ _ e) mine in
      by_bool (eqb u.item i)
      (λ q. absurd (no_use u (eqb-true _ _ q) k (and_right (fits s o) _ e)))
      (λ q. rw q a)))
      (λ f. by_bool (holds o i)
      (λ e. let free = free_of (without_item i s) o i f (plain_at p v o i h primary e) in
      absurd (held_now free))
      (λ e. rw (
        e,
        list_all-each (λ u. agrees u.colour (s u.item)) o.uses (λ u k.
            let mine = each_in _ _ _ ((proper_whole p v).own o h) k in
            let a = use_passes (λ u. agrees u.colour (without_item i s u.item)) o.uses u.item u.colour f mine in
            by_bool (eqb u.item i)
            (λ q. absurd (no_use u (eqb-true _ _ q) k (rw e refl)))
            (λ q. rw q at a)),
      ) refl))
    where
      no_use : (u : Use) → u.item ≡ i → IsIn o.uses u → not (holds o i) ≡ true → ⊥
      no_use u q k n = let held = subst (λ j. holds o j ≡ true) q (holds_use o.uses u k) in cc (held, n)

      held_now : without_item i s i ≡ None → ⊥
      held_now e = let same = eq-eqb i i refl in cc (e, same)

  -- what giving up the item leaves is what is left without it
  pub given_up : none (left_by p s) i ≡ left_by p (without_item i s)
  given_up = ap₂ (λ a b. record { items = a; options = b })
      (filter_both (λ w. not (eqb w.item i)) (λ w. is_none (s w.item)) (whole p).items
      ∙ filter_same _ _ (whole p).items (each_from _ _ (λ w k. grind (arith, by_bool))))
      (filter_both (λ o. not (holds o i)) (fits s) (numbered_options p)
      ∙ filter_same _ _ (numbered_options p) (each_from _ _ up_test))
