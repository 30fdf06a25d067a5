-- The members of a valid problem are its covers, each once.
use Rattle.std.proofs.Common.{ℕ, zero, suc, ◌≡◌, ◌≢◌, ◌+◌, ◌≤◌, Bool, true, false, cond, List, [], ◌∷◌, length, filter}
use Rattle.std.proofs.Common.{take, refl, ap, ◌∙◌, arith, inl, inr, not, ◌&&◌, eqb, ◌<◌, Option, Some, None, sym, subst}
use Rattle.std.proofs.Common.{ap₂, ◌⊎◌, eqb-true, ltb-true, ltb-false, lt-ltb, le-ltb, le-leb, leb-true, leb-false}
use Rattle.std.proofs.Common.{eq-eqb, ◌-◌, ne_eqb}
use Rattle.std.proofs.lemmas.Bool.Decides.{nat_tests}
use Rattle.std.proofs.lemmas.Bool.{eqb-false, lt-leb, not-true}
use Rattle.std.proofs.Math.Bool.{and-false, or-true}
use Rattle.std.specs.Prelude.{nat_lt, nat_le, ◌↔◌, slice_get}
use Rattle.std.specs.List.{cons_option, AllByRecursion, list_any, enumerate_from}
use Rattle.std.proofs.lemmas.Grind.{common_steps}
use Rattle.std.proofs.lemmas.List.Elements.{All-from_recursion, recursion_from_All}
use Rattle.std.proofs.lemmas.List.Sums.{sum_by-cons}
use Rattle.xc_input.specs.Problem.{Numbered, colour_at, holds, holding, Puzzle, numbered_options, primary_count}
use Rattle.xc_input.specs.Problem.{IsOption, bounds_at, uses_of, IsValid}
use Rattle.xc_input.specs.declared.problem.Use.{Use}
use Rattle.xc_input.specs.declared.problem.Bounds.{Bounds}
use Rattle.xc_text.proofs.ListLemmas.{IsIn, each_from, length-filter-le, filter_same, by_bool, and_left, and_right}
use Rattle.xc_text.proofs.ListLemmas.{filter_both, in-filter, filter-in, in-map, map-in, in-take, each_in, by_number}
use Rattle.xc_text.proofs.ListLemmas.{by_option, list_all-each, EachTwo, AllPairs-from_each_two}
use Rattle.xc_text.proofs.ListLemmas.{each_two_from_AllPairs, in-contains, contains-in, slice_get-in, EachTwo-append}
use Rattle.xc_text.proofs.ListLemmas.{EachTwo-map, EachTwo-flat_map, EachTwo-at, EachTwo-weaker, EachTwo-take}
use Rattle.xc_text.proofs.ListLemmas.{EachTwo-enumerated, in-enumerated}
use Rattle.xc_moves.proofs.MoveLemmas.{Rises, numbers, rises_filter, options_rise}
use Rattle.xc_search.specs.declared.choice.Choice.{Choice}
use Rattle.xc_search.specs.Listing.{Wanted, Residual, Branch, spend_one, may_stay, stays, pick, none, branch_count}
use Rattle.xc_search.specs.Listing.{branches_of, listing, whole}
use Rattle.xc_search.specs.Cover.{options_of, SameSet, HasSetAt, members, EachMemberCovers}
use Rattle.xc_input.specs.Cover.{IsCover, times_held}
use Rattle.xc_search.specs.Cover.{EachCoverIsListedOnce}
use Rattle.xc_search.specs.inner.Levels.{item_left, take_branch, none_branch}
use Rattle.xc_search.proofs.ListingLemmas.{above_in, IsProper, find-in, in-find, goes_on, same_wanted, use_passes}
use Rattle.xc_search.proofs.ListingLemmas.{used_up, IsBranchOf, takes_one, takes_none, left_before, takes-in, nones-in}
use Rattle.xc_search.proofs.ListingLemmas.{same_number, holds_use, proper_behind, none_left, by_branches, in-branches}
use Rattle.xc_search.proofs.ListingLemmas.{level-in, branch_item-in, no_items_left, rise_behind, listing_at, by_members}
use Rattle.xc_search.proofs.ListingLemmas.{proper_whole, sound_item, numbered_at, at_number, uses_known, with_bounds}
use Rattle.xc_search.proofs.ListingLemmas.{at_item, takes, nones, behind, in-nones, two_rise}

-- ======== How many of the options that are left pass a test, and the first that does.

abbrev pub passing : (Numbered → Bool) → List Numbered → ℕ
passing t os = length (filter t os)

-- no one passes
pub none_pass : (t : Numbered → Bool) (os : List Numbered) → ((y : Numbered) → IsIn os y → t y ≡ false)
    → passing t os ≡ 0
none_pass t [] h = refl
none_pass t (o ∷ os) h = rw (h o (inl refl)) (none_pass t os (λ y k. h y (inr k)))

-- one passes
pub one_passes : (t : Numbered → Bool) (os : List Numbered) (x : Numbered) → IsIn os x → t x ≡ true → 1 ≤ passing t os
one_passes t [] x h e = absurd h
one_passes t (o ∷ os) x (inl q) e = let here : t o ≡ true = ap t q ∙ e in rw here (omega arith)
one_passes t (o ∷ os) x (inr q) e = grind (arith, one_passes t os x q e)

-- those who pass the one test pass the other too, but for x
pub one_less : (t u : Numbered → Bool) (n : ℕ) (os : List Numbered) (x : Numbered) → Rises n (numbers os) → IsIn os x
    → u x ≡ false → ((y : Numbered) → IsIn os y → x.number ≢ y.number → t y ≡ u y)
    → passing t os ≡ cond (t x) 1 0 + passing u os
one_less t u n [] x r k e h = absurd k
one_less t u n (o ∷ os) x r (inl k) e h = grind (arith, each_from, above_in, filter_same, by_bool)
one_less t u n (o ∷ os) x r (inr k) e h = grind (arith, above_in, one_less t u o.number os x r.1 k e)

-- two pass
pub two_pass : (t : Numbered → Bool) (n : ℕ) (os : List Numbered) (x y : Numbered) → Rises n (numbers os) → IsIn os x
    → IsIn os y → t x ≡ true → t y ≡ true → x.number ≢ y.number → 2 ≤ passing t os
two_pass t n os x y r h k e f apart =
    let u : Numbered → Bool = λ z. t z && not (eqb x.number z.number) in
    let less : passing t os ≡ 1 + passing u os =
    rw e at (one_less t u n os x r h (grind (arith, nat_tests)) (λ z j q. grind (arith, nat_tests, q))) in
    let kept : u y ≡ true = grind (arith, nat_tests, apart) in omega (arith, less, one_passes u os y k kept)

-- The first that passes stands among the first n, where no more than n pass or come after it.
pub first_passing : (t : Numbered → Bool) (a : ℕ) (os : List Numbered) (n : ℕ) → Rises a (numbers os) → 1 ≤ passing t os
    → length os + 1 ≤ n + passing t os →
    (x : Numbered) × IsIn (take n os) x × (t x ≡ true) × ((y : Numbered) → IsIn os y → t y ≡ true → x.number ≤ y.number)
first_passing t a [] n r h l = absurd (omega (arith, h))
first_passing t a (o ∷ os) zero r h l = absurd (omega (arith, l, length-filter-le t (o ∷ os)))
first_passing t a (o ∷ os) (suc n) r h l = grind (arith, first_passing t o.number os n r.1, above_in)

-- ======== A choice of option numbers that covers what is left, one branch on and back.

-- the option holds item j and is chosen
abbrev pub is_held : (ℕ → Bool) → ℕ → Numbered → Bool
is_held chosen j o = holds o j && chosen o.number

-- the chosen ones meet an item's bounds
abbrev pub IsMet : (ℕ → Bool) → List Numbered → Wanted → Type 0
IsMet chosen os w = (w.low ≤ passing (is_held chosen w.item) os) × (passing (is_held chosen w.item) os ≤ w.high)

-- two options agree on the items above n
abbrev pub Agree : ℕ → Numbered → Numbered → Type 0
Agree n x y = (j c d : ℕ) → n < j → colour_at x j ≡ Some c → colour_at y j ≡ Some d → (c ≡ d) × (0 < c)

-- the chosen ones meet each item's bounds and agree
pub record Covers (n : ℕ) (r : Residual) (chosen : ℕ → Bool) : Type 0 where
  pub met : (w : Wanted) → IsIn r.items w → IsMet chosen r.options w
  pub agreed : (x y : Numbered) → IsIn r.options x → IsIn r.options y → chosen x.number ≡ true → chosen y.number ≡ true
      → x.number ≢ y.number → Agree n x y

-- a branch takes what is chosen: its option is, and all others are left behind it
pub record Fits (r : Residual) (chosen : ℕ → Bool) (b : Branch) : Type 0 where
  pub option : (k : ℕ) → b.choice.option ≡ Some k → chosen k ≡ true
  pub others : (y : Numbered) → IsIn r.options y → chosen y.number ≡ true
      → (b.choice.option ≡ Some y.number) ⊎ IsIn b.next.options y

-- the options of a member are those chosen
pub record IsMemberOf (r : Residual) (chosen : ℕ → Bool) (m : List Choice) : Type 0 where
  pub taken : (k : ℕ) → IsIn (options_of m) k → chosen k ≡ true
  pub all : (o : Numbered) → IsIn r.options o → chosen o.number ≡ true → IsIn (options_of m) o.number

-- ---- a member behind a branch

-- an option of this number is left
abbrev pub HasNumber : Residual → ℕ → Type 0
HasNumber r k = (o : Numbered) × IsIn r.options o × (o.number ≡ k)

pub in-cons_option : (o : Option ℕ) (ks : List ℕ) (k : ℕ) → IsIn (cons_option o ks) k ↔ (o ≡ Some k) ⊎ IsIn ks k
in-cons_option None ks k = (λ h. inr h, λ h. grind arith)
in-cons_option (Some x) ks k = grind arith

-- an option that is taken goes
pub gone : {r : Residual} {w : Wanted} {b : Branch} → Rises 0 (numbers r.options) → IsBranchOf r w b → (k : ℕ)
    → b.choice.option ≡ Some k → HasNumber b.next k → ⊥
gone rise (takes_one j n x known at) k e h = grind (arith, in-filter, same_number, le-leb, and_left)
gone rise (takes_none n free) k e h = cc

pub member_back : (r : Residual) (chosen : ℕ → Bool) (b : Branch) (l : List Choice) → Fits r chosen b
    → IsMemberOf b.next chosen l → IsMemberOf r chosen (b.choice ∷ l)
member_back r chosen b l f m = grind (arith, in-cons_option)

pub member_on : {r : Residual} {w : Wanted} {b : Branch} {chosen : ℕ → Bool} {l : List Choice}
    → Rises 0 (numbers r.options) → IsBranchOf r w b → ((k : ℕ) → IsIn (options_of l) k → HasNumber b.next k)
    → IsMemberOf r chosen (b.choice ∷ l) → Fits r chosen b × IsMemberOf b.next chosen l
member_on {r} {w} {b} {chosen} {l} rise of left m =
    grind (arith, in-cons_option, options_of, left_before, same_number, gone)

-- ---- what covers, one branch on and back

-- the option that is taken agrees with all that stay
stays_agree : {n : ℕ} {r : Residual} → IsProper n r → (x y : Numbered) → stays r x y ≡ true → Agree n x y
stays_agree {r = r} p x y stay j c d l e f =
    let may = use_passes (λ u. may_stay (item_left r u.item) u y) x.uses j c stay e in
    by_option (item_left r j) (λ q. grind (arith, eqb-true, ltb-true))
    (λ w q. grind (arith, in-find r.items j w q, p.sound w))

module _ (n : ℕ) (r : Residual) (p : IsProper n r) (chosen : ℕ → Bool) where
  -- whoever is chosen stays
  held_too : (q : Numbered → Bool) (j : ℕ) (y : Numbered) → (chosen y.number ≡ true → q y ≡ true)
      → is_held chosen j y ≡ (q y && is_held chosen j y)
  held_too q j y stay = grind (arith, by_bool, chosen, and-false)

  module _ (i k m : ℕ) (x : Numbered) (known : IsIn r.options x) (at : holds x i ≡ true)
      (f : Fits r chosen (take_branch r i m (k, x)))
    where
      others_stay : (y : Numbered) → IsIn r.options y → chosen y.number ≡ true → x.number ≢ y.number
          → goes_on r i x y ≡ true
      others_stay y h e apart = grind (arith, f.others y h e, in-filter)

      -- the option that is taken is one of those that were counted
      one_more_held : (j : ℕ) → passing (is_held chosen j) r.options
          ≡ cond (holds x j) 1 0 + passing (is_held chosen j) (pick r i x).options
      one_more_held j =
          let is : is_held chosen j x ≡ holds x j = grind (arith, f.option x.number refl) in
          let q = goes_on r i x in
          let out : q x ≡ false = grind (arith, le-leb) in
          one_less (is_held chosen j) (λ y. q y && is_held chosen j y) 0 r.options x p.options_rise known
          (rw out refl) (λ y h apart. held_too q j y (λ e. others_stay y h e apart))
          ∙ ap₂ (λ b n. cond b 1 0 + n) is (ap length (sym (filter_both _ _ r.options)))

      -- an item is held once more where the option holds it
      same_met : (w : Wanted) → 0 < w.high
          → IsMet chosen r.options w ↔ IsMet chosen (pick r i x).options (spend_one x w)
      same_met w some = grind (arith, one_more_held w.item)

      -- an item that is used up is held by no other
      met_next : ((v : Wanted) → IsIn (pick r i x).items v → IsMet chosen (pick r i x).options v) → (w : Wanted)
          → IsIn r.items w → IsMet chosen (pick r i x).options (spend_one x w)
      met_next met w h = by_bool (nat_lt 0 (spend_one x w).high)
          (λ e. met (spend_one x w) (filter-in _ _ _ (map-in _ _ _ h) e))
          (λ e. let left = find-in r.items w p.items_apart h in
          grind (arith, ltb-false, le-ltb, p.sound w h, none_pass, in-filter, used_up, left))

  module _ (w : Wanted) (known : IsIn r.items w) (free : w.low ≡ 0) (m : ℕ) (f : Fits r chosen (none_branch r w.item m))
    where
      one_same : (j : ℕ) → passing (is_held chosen j) r.options ≡ passing (is_held chosen j) (none r w.item).options
      one_same j =
          let q : Numbered → Bool = λ o. not (holds o w.item) in
          ap length (filter_same _ _ r.options (each_from _ r.options (λ y h. held_too q j y (λ e.
          elim (f.others y h e) [ inl s ↦ cc | inr k ↦ (in-filter q r.options y k).1 ])))
          ∙ sym (filter_both (is_held chosen j) q r.options))

      met_before : ((v : Wanted) → IsIn (none r w.item).items v → IsMet chosen (none r w.item).options v) → (v : Wanted)
          → IsIn r.items v → IsMet chosen r.options v
      met_before met v h = by_bool (eqb v.item w.item)
          (λ e.
          let low = ap (λ (v : Wanted). v.low) (same_wanted n r v w p h known e) in
          let none : passing (is_held chosen v.item) (none r w.item).options ≡ 0 = none_pass _ _ (λ y j.
          let free = (in-filter (λ o. not (holds o w.item)) r.options y j).1 in
          rw (eqb-true _ _ e, not-true _ free) refl) in
          (omega (arith, low, free), omega (arith, one_same v.item, none)))
          (λ e. rw (one_same v.item) (met v (filter-in _ _ _ h (rw e refl))))

module _ {n : ℕ} {r : Residual} {w : Wanted} (p : IsProper n r) (known : IsIn r.items w) where
  met_on : {b : Branch} {chosen : ℕ → Bool} → IsBranchOf r w b → Fits r chosen b → Covers n r chosen → (v : Wanted)
      → IsIn b.next.items v → IsMet chosen b.next.options v
  met_on {chosen = chosen} (takes_one k m x h at) f c v j =
      let from = in-map _ _ _ (in-filter _ _ _ j).0 in
      subst (IsMet chosen (pick r w.item x).options) from.2
      ((same_met n r p chosen w.item k m x h at f from.0 (p.sound from.0 from.1).2).0 (c.met from.0 from.1))
  met_on {chosen = chosen} (takes_none m free) f c v j =
      rw (← one_same n r p chosen w known free m f v.item) (c.met v (in-filter _ _ _ j).0)

  met_back : {b : Branch} {chosen : ℕ → Bool} → IsBranchOf r w b → Fits r chosen b → Covers n b.next chosen
      → (v : Wanted) → IsIn r.items v → IsMet chosen r.options v
  met_back {chosen = chosen} (takes_one k m x h at) f c v j =
      (same_met n r p chosen w.item k m x h at f v (p.sound v j).2).1
      (met_next n r p chosen w.item k m x h at f c.met v j)
  met_back {chosen = chosen} (takes_none m free) f c v j = met_before n r p chosen w known free m f c.met v j

  -- the option that is taken agrees with those left
  option_agrees : {b : Branch} → IsBranchOf r w b → (x y : Numbered) → b.choice.option ≡ Some x.number
      → IsIn r.options x → IsIn b.next.options y → Agree n x y
  option_agrees (takes_one k m z h at) x y e j l =
      let is = same_number 0 r.options z x p.options_rise h j (cc) in
      subst (λ x. Agree n x y) is (stays_agree p z y (and_right _ _ (in-filter (goes_on r w.item z) r.options y l).1))
  option_agrees (takes_none m free) x y e j l = cc

  pub covers_on : {b : Branch} {chosen : ℕ → Bool} → IsBranchOf r w b → Fits r chosen b → Covers n r chosen
      → Covers n b.next chosen
  covers_on of f c = grind (arith, met_on, left_before)

  pub covers_back : {b : Branch} {chosen : ℕ → Bool} → IsBranchOf r w b → Fits r chosen b → Covers n b.next chosen
      → Covers n r chosen
  covers_back of f c = grind (arith, met_back, option_agrees)

-- ---- the branch of what covers

module _ (n : ℕ) (r : Residual) (p : IsProper n r) (chosen : ℕ → Bool) (c : Covers n r chosen) where
  -- another that is chosen may stay
  may_stay_beside : (x y : Numbered) (u : Use) (o : Option Wanted) → IsIn r.options x → IsIn r.options y
      → chosen x.number ≡ true → chosen y.number ≡ true → x.number ≢ y.number → IsIn x.uses u → item_left r u.item ≡ o
      → may_stay o u y ≡ true
  may_stay_beside x y u (Some w) h k e f apart i left =
      let twice = two_pass (is_held chosen w.item) 0 r.options x y p.options_rise h k in
      grind (arith, in-find r.items u.item w, c.met w, twice, ltb-false, holds_use x.uses u i)
  may_stay_beside x y u None h k e f apart i left = by_bool (nat_le u.item n) (λ q.
      let w = p.items_left x u.item h (leb-true u.item n q) (holds_use x.uses u i) in
      let found = rw w.2 at (find-in r.items w.0 p.items_apart w.1) in cc)
      (λ q. by_option (colour_at y u.item) (λ s. rw s refl)
      (λ d s. grind (arith, each_in, leb-false _ _ q, lt-ltb, eq-eqb, s)))

  -- a branch that takes the first of its item that is chosen
  pub fits_first : (i k m : ℕ) (x : Numbered) → IsIn r.options x → chosen x.number ≡ true
      → ((y : Numbered) → IsIn r.options y → holds y i ≡ true → chosen y.number ≡ true → x.number ≤ y.number)
      → Fits r chosen (take_branch r i m (k, x))
  fits_first i k m x known taken first =
      record {
        option = λ k e. grind (arith, e);
        others = λ y h e. by_bool (eqb x.number y.number) (λ s. inl (ap Some (eqb-true _ _ s))) (λ a.
            let apart = eqb-false _ _ a in
            let stay : stays r x y ≡ true = list_all-each _ x.uses (λ u j.
            may_stay_beside x y u _ known h taken e apart j refl) in
            inr (filter-in (goes_on r i x) r.options y h (grind (arith, first y h, stay, lt-leb))));
      }

  pub branch_for : (w : Wanted) → IsIn r.items w → (b : Branch) × IsIn (branches_of r w) b × Fits r chosen b
  branch_for w h = by_number (passing (is_held chosen w.item) r.options) (λ e.
      let fits : Fits r chosen (none_branch r w.item (branch_count r w)) =
      grind (arith, filter-in, one_passes (is_held chosen w.item) r.options) in
      (none_branch r w.item (branch_count r w), nones-in r w (omega (arith, c.met w h, e)), fits)) (λ k e.
      let hs = holding w.item r.options in
      let taken : Numbered → Bool = λ o. chosen o.number in
      let same : passing taken hs ≡ passing (is_held chosen w.item) r.options = ap length (filter_both _ _ r.options) in
      let x = first_passing taken 0 hs (branch_count r w) (rises_filter (λ o. holds o w.item) 0 r.options
      p.options_rise) (omega (arith, same, e)) (omega (arith, same, (c.met w h).0)) in
      let at = takes-in r w x.0 x.1 in
      let fits = fits_first w.item at.0 (branch_count r w) x.0 (in-filter _ _ _ (in-take _ _ _ x.1)).0 x.2
      (λ y j a q. x.3 y (filter-in _ _ _ j a) q) in
      (take_branch r w.item (branch_count r w) (at.0, x.0), at.1, fits))

-- ======== The members of what is left are those of the choices that cover it.

-- ---- a member's options are left, each once, and cover what is left

-- what is so of a member, whichever choice of numbers it is of
pub record Solves (r : Residual) (m : List Choice) : Type 0 where
  pub left : (k : ℕ) → IsIn (options_of m) k → HasNumber r k
  pub distinct : Rises 0 (numbers r.options) → EachTwo (λ a b. a ≢ b) (options_of m)
  pub covers : (n : ℕ) (chosen : ℕ → Bool) → IsProper n r → IsMemberOf r chosen m → Covers n r chosen

option_left : {r : Residual} {w : Wanted} {b : Branch} → IsBranchOf r w b → (k : ℕ) → b.choice.option ≡ Some k
    → HasNumber r k
option_left (takes_one j n x known at) k e = (x, known, cc)
option_left (takes_none n free) k e = cc

distinct_cons : (o : Option ℕ) (ks : List ℕ) → ((k : ℕ) → o ≡ Some k → IsIn ks k → ⊥) → EachTwo (λ a b. a ≢ b) ks
    → EachTwo (λ a b. a ≢ b) (cons_option o ks)
distinct_cons None ks out a = a
distinct_cons (Some x) ks out a = (each_from _ ks (λ k h e. out x refl (subst (IsIn ks) (sym e) h)), a)

pub solves_back : {r : Residual} {w : Wanted} {b : Branch} (l : List Choice) → IsIn r.items w → IsBranchOf r w b
    → Solves b.next l → Solves r (b.choice ∷ l)
solves_back {b = b} l h of s = record {
  left = λ k j. grind (arith, in-cons_option, option_left of k, s.left k, left_before of);
  distinct = λ rise. grind (arith, distinct_cons, options_of, gone, rise_behind);
  covers = λ n chosen p m.
      let on = member_on p.options_rise of s.left m in
      covers_back p h of on.0 (s.covers n chosen (proper_behind p of) on.1);
}

pub members_solve : (r : Residual) (m : List Choice) → IsIn (listing r) m → Solves r m
members_solve = by_members Solves (λ r e. grind (arith, no_items_left, none_left))
    (λ r w b l e of h s. solves_back l (branch_item-in r w e) of s)

-- ---- what covers is taken by a member

pub listed_for : (n : ℕ) (chosen : ℕ → Bool) (r : Residual) → IsProper n r → Covers n r chosen
    → (m : List Choice) × IsIn (listing r) m × IsMemberOf r chosen m
listed_for n chosen = by_branches
    (λ r. IsProper n r → Covers n r chosen → (m : List Choice) × IsIn (listing r) m × IsMemberOf r chosen m)
    (λ r e p c. ([], subst (λ ms. IsIn ms []) (sym (listing_at r None e)) (inl refl), grind (arith, none_left p e)))
    (λ r w e later p c.
    let known = branch_item-in r w e in
    let b = branch_for n r p chosen c w known in
    let of = in-branches r w b.0 b.1 in
    let m = later b.0 b.1 (proper_behind p of) (covers_on p known of b.2 c) in
    let listed = subst (λ ms. IsIn ms (b.0.choice ∷ m.0)) (sym (listing_at r (Some w) e))
    (level-in listing w r b.0 m.0 b.1 m.1) in
    (b.0.choice ∷ m.0, listed, member_back r chosen b.0 m.0 b.2 m.2))

-- ======== The members of a valid problem are its covers.

-- the numbers of a list
abbrev pub is_listed : List ℕ → ℕ → Bool
is_listed s k = list_any (λ a. eqb a k) s

pub listed_in : (s : List ℕ) (k : ℕ) → is_listed s k ≡ true → IsIn s k
listed_in [] k e = cc
listed_in (a ∷ s) k e = grind (arith, listed_in s k, eqb-true)

pub in_listed : (s : List ℕ) (k : ℕ) → IsIn s k → is_listed s k ≡ true
in_listed [] k h = absurd h
in_listed (a ∷ s) k (inl q) = let same : eqb a k ≡ true = eq-eqb a k q in rw same refl
in_listed (a ∷ s) k (inr q) = rw (in_listed s k q) (or-true (eqb a k))

-- a member has the options of a set
pub member_of_set : (r : Residual) (s : List ℕ) (m : List Choice) → SameSet s (options_of m)
    → IsMemberOf r (is_listed s) m
member_of_set r s m same = record {
  taken = λ k h. in_listed s k (in-contains _ _ ((same k).1 (contains-in _ _ h)));
  all = λ o h e. in-contains _ _ ((same o.number).0 (contains-in _ _ (listed_in s o.number e)));
}

-- ---- how often an item is held

-- the option of a number
pub option_of : (p : Puzzle) (a : ℕ) → IsOption p a → (x : Numbered) × IsIn (numbered_options p) x
    × (x.number ≡ a) × (uses_of p a ≡ x.uses)
option_of p a h = grind (arith, at_number 0 p.options (a - 1) (omega (arith, h)), uses_known)

-- the option of one number more
one_more : (p : Puzzle) (i a : ℕ) (s : List ℕ) (x : Numbered) → IsIn (numbered_options p) x → x.number ≡ a
    → is_listed s a ≡ false → passing (is_held (is_listed (a ∷ s)) i) (numbered_options p)
    ≡ cond (holds x i) 1 0 + passing (is_held (is_listed s) i) (numbered_options p)
one_more p i a s x h e out =
    let is : is_held (is_listed (a ∷ s)) i x ≡ holds x i = grind (arith, eq-eqb) in
    one_less _ (is_held (is_listed s) i) 0 (numbered_options p) x (options_rise p) h
    (rw (e, out) (and-false (holds x i))) (λ y j apart. rw (ne_eqb a y.number (λ q. apart (e ∙ q))) refl)
    ∙ ap (λ b. cond b 1 0 + passing (is_held (is_listed s) i) (numbered_options p)) is

held_times : (p : Puzzle) (i : ℕ) (s : List ℕ) → EachTwo (λ a b. a ≢ b) s → AllByRecursion (IsOption p) s
    → passing (is_held (is_listed s) i) (numbered_options p) ≡ times_held p i s
held_times p i [] two known = none_pass (is_held (is_listed []) i) (numbered_options p) (λ y k. and-false (holds y i))
held_times p i (a ∷ s) two known =
    let x = option_of p a known.0 in
    let out = by_bool (is_listed s a) (λ e. absurd (each_in _ s a two.0 (listed_in s a e) refl)) (λ e. e) in
    let more = one_more p i a s x.0 x.1 x.2 out in
    grind (arith, common_steps, held_times p i s two.1 known.1, more, sum_by-cons, x.3)

pub bounded : (p : Puzzle) (i : ℕ) (b : Bounds) → bounds_at p i ≡ Some b → (w : Wanted) × IsIn (whole p).items w
    × (w.item ≡ i) × (w.low ≡ b.low) × (w.high ≡ b.high)
bounded p zero b e = cc
bounded p (suc j) b e = let at = at_item 0 p.bounds j b e in (at.0, at.1, omega (arith, at.2), at.3, at.4)

-- ---- a cover covers the whole

module _ (p : Puzzle) (v : IsValid p) where
  pub covers_whole : (s : List ℕ) → IsCover p s → Covers (primary_count p) (whole p) (is_listed s)
  covers_whole s c = record {
    met = λ w k.
        let at = with_bounds 0 p.bounds w k in
        let same = held_times p w.item s (each_two_from_AllPairs _ _ c.distinct) (recursion_from_All _ _ c.known) in
        grind (arith, at, same, c.within w.item at.1);
    agreed = λ x y h k e f apart j b d l g i.
        grind (arith, c.agree x.number y.number j b d, contains-in, listed_in, sound_item p v x j h, uses_known);
  }

  pub solution_covers : (m : List Choice) → Solves (whole p) m → IsCover p (options_of m)
  solution_covers m t =
      let s = options_of m in
      let known : AllByRecursion (IsOption p) s = each_from _ s (λ k h.
      let o = t.left k h in
      let at = numbered_at 0 p.options o.0 o.1 in (omega (arith, o.2, at.1), omega (arith, o.2, at.1, at.2))) in
      let two = t.distinct (options_rise p) in
      let c = t.covers (primary_count p) (is_listed s) (proper_whole p v)
      (member_of_set (whole p) s m (λ o. (λ k. k, λ k. k))) in
      record {
        known = All-from_recursion _ _ known;
        distinct = AllPairs-from_each_two _ _ two;
        within = λ i b e. grind (arith, bounded, held_times);
        agree = λ a b i d e h k apart secondary f g.
            let x = t.left a (in-contains s a h) in
            let y = t.left b (in-contains s b k) in
            grind (arith, c.agreed x.0 y.0 x.1 y.1, x.2, y.2, in_listed, in-contains, uses_known);
      }

  pub each_member_covers : EachMemberCovers p
  each_member_covers = All-from_recursion _ _ (each_from (λ m. IsCover p (options_of m)) (members p)
      (λ m h. solution_covers m (members_solve (whole p) m h)))

  pub same_set : (s : List ℕ) (m : List Choice) → IsCover p s → IsMemberOf (whole p) (is_listed s) m
      → SameSet s (options_of m)
  same_set s m c t o = (
    λ k.
        let h = in-contains s o k in
        let x = option_of p o (each_in (IsOption p) s o (recursion_from_All _ _ c.known) h) in
        contains-in (options_of m) o (rw x.2 at (t.all x.0 x.1 (rw x.2 (in_listed s o h)))),
    λ k. contains-in s o (listed_in s o (t.taken o (in-contains (options_of m) o k))),
  )

  pub each_cover_is_listed : (s : List ℕ) → IsCover p s → (k : ℕ) × HasSetAt p k s
  each_cover_is_listed s c =
      let m = listed_for (primary_count p) (is_listed s) (whole p) (proper_whole p v) (covers_whole s c) in
      grind (arith, slice_get-in (members p) m.0 m.1, same_set s m.0 c m.2)

-- ======== Members at two places have different sets of options.

-- no choice fits two branches
abbrev pub AreApart : Residual → Branch → Branch → Type 0
AreApart r a b = (chosen : ℕ → Bool) → Fits r chosen a → Fits r chosen b → ⊥

-- an option that the one takes isn't left behind the other
takes_apart : (r : Residual) (w : Wanted) (n : ℕ) (a b : ℕ × Numbered) → IsIn (holding w.item r.options) a.1
    → a.1.number < b.1.number → AreApart r (take_branch r w.item n a) (take_branch r w.item n b)
takes_apart r w n a b h less chosen f g = grind (arith, in-filter, le-leb, and_left)

none_apart : (r : Residual) (w : Wanted) (a b : Branch) → IsIn (takes r w) a → IsIn (nones r w) b → AreApart r a b
none_apart r w a b h k chosen f g = grind (arith, in-map, in-enumerated, in-take, in-filter, in-nones)

pub branches_apart : (r : Residual) (w : Wanted) → Rises 0 (numbers r.options) → EachTwo (AreApart r) (branches_of r w)
branches_apart r w rise =
    let n = branch_count r w in
    let hs = holding w.item r.options in
    let numbered = enumerate_from 1 (take n hs) in
    EachTwo-append (AreApart r) (takes r w) (nones r w) (EachTwo-map (AreApart r) (take_branch r w.item n) numbered
    (EachTwo-weaker (λ (a b : ℕ × Numbered). a.1.number < b.1.number)
    (λ a b. AreApart r (take_branch r w.item n a) (take_branch r w.item n b)) numbered
    (λ a b h k less. takes_apart r w n a b (in-take n hs a.1 (in-enumerated _ _ _ h)) less)
    (EachTwo-enumerated (λ (x y : Numbered). x.number < y.number) 1 (take n hs)
    (EachTwo-take (λ (x y : Numbered). x.number < y.number) n hs
    (two_rise 0 hs (rises_filter (λ o. holds o w.item) 0 r.options rise))))))
    (grind arith) (none_apart r w)

-- two members are of no one choice
abbrev pub Differ : Residual → List Choice → List Choice → Type 0
Differ r l m = (chosen : ℕ → Bool) → IsMemberOf r chosen l → IsMemberOf r chosen m → ⊥

pub all_differ : (r : Residual) → Rises 0 (numbers r.options) → EachTwo (Differ r) (listing r)
all_differ = by_branches (λ r. Rises 0 (numbers r.options) → EachTwo (Differ r) (listing r))
    (λ r e rise. subst (EachTwo (Differ r)) (sym (listing_at r None e)) (tt, tt))
    (λ r w e later rise. subst (EachTwo (Differ r)) (sym (listing_at r (Some w) e))
    (EachTwo-flat_map (Differ r) (behind listing) (branches_of r w)
    (λ b h. let of = in-branches r w b h in
    EachTwo-map (Differ r) (λ m. b.choice ∷ m) (listing b.next)
    (EachTwo-weaker (Differ b.next) (λ l m. Differ r (b.choice ∷ l) (b.choice ∷ m)) (listing b.next)
    (λ l m j k differ chosen s t. differ chosen (member_on rise of (members_solve b.next l j).left s).1
    (member_on rise of (members_solve b.next m k).left t).1)
    (later b h (rise_behind of rise))))
    (EachTwo-weaker (AreApart r)
    (λ a b. (l m : List Choice) → IsIn (behind listing a) l → IsIn (behind listing b) m → Differ r l m)
    (branches_of r w)
    (λ a b h k apart l m i j chosen s t. apart chosen (fits r w a l rise h i chosen s) (fits r w b m rise k j chosen t))
    (branches_apart r w rise))))
  where
    fits : (r : Residual) (w : Wanted) (b : Branch) (m : List Choice) → Rises 0 (numbers r.options)
        → IsIn (branches_of r w) b → IsIn (behind listing b) m → (chosen : ℕ → Bool) → IsMemberOf r chosen m
        → Fits r chosen b
    fits r w b m rise h k chosen s =
        let from = in-map _ _ _ k in
        (member_on rise (in-branches r w b h) (members_solve b.next from.0 from.1).left
        (subst (IsMemberOf r chosen) (sym from.2) s)).0

-- members of one choice stand at one place
pub one_place : (r : Residual) (chosen : ℕ → Bool) → Rises 0 (numbers r.options) → (j k : ℕ) (l m : List Choice)
    → slice_get (listing r) j ≡ Some l → slice_get (listing r) k ≡ Some m → IsMemberOf r chosen l
    → IsMemberOf r chosen m → j ≡ k
one_place r chosen rise j k l m e f s t = grind (arith, EachTwo-at, all_differ)

pub no_set_twice : (p : Puzzle) → IsValid p → (j k : ℕ) (s : List ℕ) → HasSetAt p j s → HasSetAt p k s → j ≡ k
no_set_twice p v j k s a b =
    one_place (whole p) (is_listed s) (options_rise p) j k a.0 b.0 a.1 b.1 (member_of_set (whole p) s a.0 a.2)
    (member_of_set (whole p) s b.0 b.2)

-- ======== Each cover is the set of exactly one member.

pub each_cover_is_listed_once : (p : Puzzle) → IsValid p → EachCoverIsListedOnce p
each_cover_is_listed_once p v s c =
    let there = each_cover_is_listed p v s c in
    (there.0, there.1, λ j other. no_set_twice p v j there.0 s other there.1)
