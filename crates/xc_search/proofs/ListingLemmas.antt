-- The listing of what is left, branch by branch.
use Rattle.std.proofs.Common.{ℕ, ◌≡◌, ◌<◌, List, [], ◌∷◌, arith, subst, inl, inr, true, false, eqb, Some, eqb-true}
use Rattle.std.proofs.Common.{eq-eqb, ne_eqb, ◌≢◌, suc, ◌+◌, ◌≤◌, length, map, length-append, take, drop, None, ap, ◌∙◌}
use Rattle.std.proofs.Common.{length-drop, Bool, not, ◌&&◌, filter, zero, refl, le-leb, cond, Option, sym, find, lt-ltb}
use Rattle.std.proofs.Common.{ltb-true, ◌-◌, ◌⊎◌, ltb-false}
use Rattle.std.specs.Prelude.{is_some, AllPairs, slice_get, nat_le, nat_lt, flat_map}
use Rattle.std.specs.List.{AllByRecursion, enumerate_from, best_of, list_all}
use Rattle.std.proofs.lemmas.Option.{slice_get-map, slice_get_within}
use Rattle.std.proofs.lemmas.List.{length-map, length-take, drop_all}
use Rattle.std.proofs.lemmas.List.FromFn.{length-enumerate_from}
use Rattle.std.proofs.lemmas.List.Elements.{recursion_from_All}
use Rattle.xc_input.specs.Problem.{Numbered, colour_in, holds, holding, Puzzle, numbered_options, option_count, uses_of}
use Rattle.xc_input.specs.Problem.{IsSoundOption, IsValid, primary_count, colour_at, IsItem, AreSoundBounds, IsSoundUse}
use Rattle.xc_input.specs.declared.problem.Use.{Use}
use Rattle.xc_input.specs.declared.problem.Bounds.{Bounds}
use Rattle.xc_text.proofs.ListLemmas.{IsIn, EachTwo, EachTwo-of, each_from, each_both, EachTwo-weaker}
use Rattle.xc_text.proofs.ListLemmas.{each_two_from_AllPairs, length-filter-le, by_bool, by_option, get_left, get_seam}
use Rattle.xc_text.proofs.ListLemmas.{get_numbered, get_take, not_some, length-filter-cons, each_in, each_weaker}
use Rattle.xc_text.proofs.ListLemmas.{each-append, each-map, each-numbered, in-filter, in-append, append-in_left}
use Rattle.xc_text.proofs.ListLemmas.{append-in_right, in-map, map-in, in-flat_map, flat_map-in, in-take}
use Rattle.xc_text.proofs.ListLemmas.{in-enumerated, enumerated-in, flat_map-same, each_at, filter-in, in-contains}
use Rattle.xc_text.proofs.ListLemmas.{and_right, each-filter, EachTwo-map, and_left, filter_swap, keep_all}
use Rattle.xc_input.proofs.OptionLemmas.{numbered_from}
use Rattle.xc_moves.proofs.MoveLemmas.{Rises, numbers, rises_filter, options_rise}
use Rattle.xc_search.specs.Listing.{Wanted, Residual, Branch, branches_of, branch_count, branch_item, first_least}
use Rattle.xc_search.specs.Listing.{stays, pick, level, listing_to, listing, wanted_from, whole, spend_one, none}
use Rattle.xc_search.specs.inner.Levels.{take_branch, none_branch, size_of, item_left}
use Rattle.xc_search.specs.declared.choice.Choice.{Choice}

-- ======== Of options whose numbers rise each number stands once.

pub above_in : (n : ℕ) (os : List Numbered) (o : Numbered) → Rises n (numbers os) → IsIn os o → n < o.number
above_in n [] o r h = absurd h
above_in n (y ∷ ys) o r (inl e) = subst (λ (z : Numbered). n < z.number) e r.0
above_in n (y ∷ ys) o r (inr h) = let later = above_in y.number ys o r.1 h in omega (arith, later, r.0)

-- numbers that rise, two by two
pub two_rise : (n : ℕ) (os : List Numbered) → Rises n (numbers os) → EachTwo (λ x y. x.number < y.number) os
two_rise n [] r = tt
two_rise n (o ∷ os) r = grind (arith, two_rise o.number os r.1, each_from, above_in)

pub same_number : (n : ℕ) (os : List Numbered) (x y : Numbered) → Rises n (numbers os) → IsIn os x → IsIn os y
    → x.number ≡ y.number → x ≡ y
same_number n os x y r h k e =
    grind (arith, EachTwo-of (λ (a b : Numbered). a.number < b.number) os x y (two_rise n os r) h k)

-- ======== The uses of an option.

abbrev pub Apart : Use → Use → Type 0
Apart u v = eqb u.item v.item ≡ false

abbrev pub AreApart : List Use → Type 0
AreApart us = EachTwo Apart us

pub apart_sym : (u v : Use) → Apart u v → Apart v u
apart_sym u v e = grind (arith, ne_eqb v.item u.item, eq-eqb u.item v.item)

pub apart_from_pairs : (us : List Use) → AllPairs (λ (u : Use) (v : Use). u.item ≢ v.item) us → AreApart us
apart_from_pairs us h = grind (arith, EachTwo-weaker, ne_eqb, each_two_from_AllPairs)

pub own_colours : (us : List Use) → AreApart us → AllByRecursion (λ u. colour_in us u.item ≡ Some u.colour) us
own_colours [] a = tt
own_colours (u ∷ us) a = grind (arith, own_colours us a.1, eq-eqb, each_both)

-- an item that is held is held by a use
pub held_by : (us : List Use) (j : ℕ) → is_some (colour_in us j) ≡ true → (u : Use) × IsIn us u × (u.item ≡ j)
held_by [] j h = cc
held_by (u ∷ us) j h = grind (arith, held_by us j, eqb-true)

pub holds_use : (us : List Use) (u : Use) → IsIn us u → is_some (colour_in us u.item) ≡ true
holds_use [] u h = absurd h
holds_use (v ∷ us) u (inl q) = grind (arith, eq-eqb)
holds_use (v ∷ us) u (inr q) = grind (arith, holds_use us u q)

-- ======== The branches of an item in their order.

-- the branches that take an option
abbrev pub takes : Residual → Wanted → List Branch
takes r w =
    map (take_branch r w.item (branch_count r w))
    (enumerate_from 1 (take (branch_count r w) (holding w.item r.options)))

pub length-takes : (r : Residual) (w : Wanted)
    → length (takes r w) ≡ length (take (branch_count r w) (holding w.item r.options))
length-takes r w = length-map _ (take_branch r w.item (branch_count r w)) ∙ length-enumerate_from 1 _

pub branch_takes : (r : Residual) (w : Wanted) (k : ℕ) (x : Numbered) → k < branch_count r w
    → slice_get (holding w.item r.options) k ≡ Some x →
    slice_get (branches_of r w) k ≡ Some (take_branch r w.item (branch_count r w) (1 + k, x))
branch_takes r w k x h e =
    let at = get_numbered 1 _ k x (get_take (branch_count r w) (holding w.item r.options) k h ∙ e) in
    get_left (takes r w) _ k _ (rw (slice_get-map, at))

-- an item has at most a branch for each option, and the branch of none
pub few_branches : (r : Residual) (w : Wanted) → length (branches_of r w) ≤ length r.options + 1
few_branches r w =
    let few = length-filter-le (λ o. holds o w.item) r.options in
    by_bool (eqb w.low 0)
    (λ e. rw e (omega (
      arith,
      length-append (takes r w) (none_branch r w.item (branch_count r w) ∷ []),
      length-takes r w,
      length-take (branch_count r w) (holding w.item r.options),
      few,
    )))
    (λ e. rw e (omega (
      arith,
      length-append (takes r w) [],
      length-takes r w,
      length-take (branch_count r w) (holding w.item r.options),
      few,
    )))

-- a branch behind the last option takes none
pub branch_none : (r : Residual) (w : Wanted) (k : ℕ) → k < branch_count r w
    → slice_get (holding w.item r.options) k ≡ None →
    (slice_get (branches_of r w) k ≡ Some (none_branch r w.item (branch_count r w)))
    × (k ≡ length (holding w.item r.options)) × (branch_count r w ≡ suc k)
branch_none r w k h e =
    let past = not_some (holding w.item r.options) k e in
    let not_wanted : w.low ≡ 0 = omega (arith, past, h) in
    let test : eqb w.low 0 ≡ true = eq-eqb w.low 0 not_wanted in
    let last : k ≡ length (takes r w) =
    omega (arith, length-takes r w, length-take (branch_count r w) (holding w.item r.options), past, h) in
    let seam = get_seam (takes r w) (none_branch r w.item (branch_count r w)) in
    (rw (test, last) seam, omega (arith, past, h), omega (arith, past, h))

-- an item has no more branches than are counted
no_more : (r : Residual) (w : Wanted) → length (branches_of r w) ≤ branch_count r w
no_more r w =
    by_bool (eqb w.low 0)
    (λ e. rw e (omega (
      arith,
      length-append (takes r w) (none_branch r w.item (branch_count r w) ∷ []),
      length-takes r w,
      length-take (branch_count r w) (holding w.item r.options),
      eqb-true _ _ e,
    )))
    (λ e. rw e (omega (
      arith,
      length-append (takes r w) [],
      length-takes r w,
      length-take (branch_count r w) (holding w.item r.options),
    )))

pub branches_end : (r : Residual) (w : Wanted) → drop (branch_count r w) (branches_of r w) ≡ []
branches_end r w = drop_all (branch_count r w) (branches_of r w) (no_more r w)

-- the number of a branch is its place
pub number_at : (r : Residual) (w : Wanted) (j : ℕ) (b : Branch) → slice_get (branches_of r w) j ≡ Some b
    → (j < branch_count r w) × (b.choice.k ≡ suc j)
number_at r w j b e =
    let n = branch_count r w in
    let bs = branches_of r w in
    let h : j < n = omega (arith, slice_get_within bs j b e, ap length (branches_end r w), length-drop n bs) in
    let told : b.choice.k ≡ suc j = by_option (slice_get (holding w.item r.options) j)
    (λ f. grind (arith, branch_none r w j h f))
    (λ x f. grind (arith, branch_takes r w j x h f)) in
    (h, told)

-- ======== Each branch leaves less: what holds of what is left, where it holds of what its branches leave, holds of
-- all.

-- a test that each option of item i fails for itself leaves one out
pub less_options : (i : ℕ) (q : Numbered → Numbered → Bool) → ((x : Numbered) → holds x i ≡ true → q x x ≡ false)
    → (os : List Numbered) → AllByRecursion (λ x. length (filter (q x) os) < length os) (holding i os)
less_options i q fails [] = tt
less_options i q fails (o ∷ os) =
    grind (arith, less_options i q fails os, each_weaker, length-filter-cons, length-filter-le)

picks_less : (r : Residual) (i : ℕ) → AllByRecursion (λ x. size_of (pick r i x) < size_of r) (holding i r.options)
picks_less r i =
    each_weaker (λ x. length (pick r i x).options < length r.options) _ (holding i r.options)
    (λ x h. grind (arith, length-filter-le, length-map))
    (less_options i (λ x o. not (holds o i && nat_le o.number x.number) && stays r x o)
    (λ x e. rw (e, le-leb x.number x.number (omega arith))) r.options)

pub less_items : (w : Wanted) (ws : List Wanted) → IsIn ws w
    → length (filter (λ v. not (eqb v.item w.item)) ws) < length ws
less_items w [] h = absurd h
less_items w (v ∷ vs) (inl e) = grind (arith, eq-eqb, length-filter-le)
less_items w (v ∷ vs) (inr h) = grind (arith, less_items w vs h, length-filter-cons)

best_is_one : (beats : Wanted → Wanted → Bool) (w : Wanted) (ws : List Wanted) → IsIn (w ∷ ws) (best_of beats w ws)
best_is_one beats w [] = inl refl
best_is_one beats w (v ∷ vs) = grind (arith, best_is_one beats v vs, best_is_one beats w vs)

pub least_is_one : (count : Wanted → ℕ) (ws : List Wanted) (w : Wanted) → first_least count ws ≡ Some w → IsIn ws w
least_is_one count [] w e = cc
least_is_one count (v ∷ vs) w e = grind (arith, best_is_one)

pub each_less : (r : Residual) (w : Wanted) → IsIn r.items w
    → AllByRecursion (λ b. size_of b.next < size_of r) (branches_of r w)
each_less r w known =
    let n = branch_count r w in
    let fewer = less_items w r.items known in
    let none_less = length-filter-le (λ o. not (holds o w.item)) r.options in
    each-append _ _ _ (each-map _ (take_branch r w.item n) _
    (each-numbered (λ x. size_of (pick r w.item x) < size_of r) n 1 (holding w.item r.options) (picks_less r w.item)))
    (by_bool (eqb w.low 0) (λ h. rw h (omega (arith, fewer, none_less), tt)) (λ h. rw h tt))

pub branches_less : (r : Residual) (w : Wanted) → branch_item r ≡ Some w
    → AllByRecursion (λ b. size_of b.next < size_of r) (branches_of r w)
branches_less r w e = each_less r w (least_is_one _ _ _ e)

-- what holds where no item is left, and where it holds of what the branches leave
pub by_branches : (P : Residual → Type 0) → ((r : Residual) → branch_item r ≡ None → P r)
    → ((r : Residual) (w : Wanted) → branch_item r ≡ Some w
    → ((b : Branch) → IsIn (branches_of r w) b → P b.next) → P r) → (r : Residual) → P r
by_branches P last next r = within (suc (size_of r)) r (omega arith)
  where
    within : (d : ℕ) (r : Residual) → size_of r < d → P r
    within zero r l = absurd (omega (arith, l))
    within (suc d) r l = by_option (branch_item r) (last r) (λ w e. next r w e (λ b h.
        let less = each_in _ _ _ (branches_less r w e) h in within d b.next (omega (arith, less, l))))

-- ======== The branches of an item, one by one.

-- a branch takes an option of the item, or none where it need not be held
pub data IsBranchOf (r : Residual) (w : Wanted) : Branch → Type 0 where
  takes_one : (k n : ℕ) (x : Numbered) → IsIn r.options x → holds x w.item ≡ true
      → IsBranchOf r w (take_branch r w.item n (k, x))
  takes_none : (n : ℕ) → w.low ≡ 0 → IsBranchOf r w (none_branch r w.item n)

abbrev pub nones : Residual → Wanted → List Branch
nones r w = cond (eqb w.low 0) (none_branch r w.item (branch_count r w) ∷ []) []

pub in-nones : (r : Residual) (w : Wanted) (b : Branch) → IsIn (nones r w) b
    → (w.low ≡ 0) × (none_branch r w.item (branch_count r w) ≡ b)
in-nones r w b h = grind (arith, eqb-true)

pub in-branches : (r : Residual) (w : Wanted) (b : Branch) → IsIn (branches_of r w) b → IsBranchOf r w b
in-branches r w b h =
    grind (arith, in-append, takes, in-map, in-filter, in-take, in-enumerated, takes_one, in-nones, takes_none)

-- what a branch leaves was left
pub left_before : {r : Residual} {w : Wanted} {b : Branch} → IsBranchOf r w b → (o : Numbered)
    → IsIn b.next.options o → IsIn r.options o
left_before (takes_one k n x known at) o h = (in-filter _ _ _ h).0
left_before (takes_none n free) o h = (in-filter _ _ _ h).0

pub rise_behind : {r : Residual} {w : Wanted} {b : Branch} → IsBranchOf r w b → Rises 0 (numbers r.options)
    → Rises 0 (numbers b.next.options)
rise_behind (takes_one k n x known at) rise = rises_filter _ 0 _ rise
rise_behind (takes_none n free) rise = rises_filter _ 0 _ rise

pub takes-in : (r : Residual) (w : Wanted) (x : Numbered) → IsIn (take (branch_count r w) (holding w.item r.options)) x
    → (k : ℕ) × IsIn (branches_of r w) (take_branch r w.item (branch_count r w) (k, x))
takes-in r w x h =
    let n = branch_count r w in
    let at = enumerated-in 1 (take n (holding w.item r.options)) x h in
    (at.0, append-in_left (takes r w) (nones r w) _ (map-in _ _ _ at.1))

pub nones-in : (r : Residual) (w : Wanted) → w.low ≡ 0
    → IsIn (branches_of r w) (none_branch r w.item (branch_count r w))
nones-in r w e = grind (arith, eq-eqb, append-in_right)

-- ---- one level

-- the members behind a branch
abbrev pub behind : (Residual → List (List Choice)) → Branch → List (List Choice)
behind rest b = map (λ m. b.choice ∷ m) (rest b.next)

-- a member of a level is a branch's choice and a member behind it
pub in-level : (rest : Residual → List (List Choice)) (w : Wanted) (r : Residual) (m : List Choice)
    → IsIn (level rest (Some w) r) m →
    (b : Branch) × (l : List Choice) × IsIn (branches_of r w) b × IsIn (rest b.next) l × (b.choice ∷ l ≡ m)
in-level rest w r m h = grind (arith, in-flat_map, in-map)

pub level-in : (rest : Residual → List (List Choice)) (w : Wanted) (r : Residual) (b : Branch) (l : List Choice)
    → IsIn (branches_of r w) b → IsIn (rest b.next) l → IsIn (level rest (Some w) r) (b.choice ∷ l)
level-in rest w r b l h k = flat_map-in (behind rest) (branches_of r w) b (b.choice ∷ l) h (map-in _ _ _ k)

-- with no branch item no item is left
pub no_items_left : (count : Wanted → ℕ) (ws : List Wanted) → first_least count ws ≡ None → ws ≡ []
no_items_left count [] e = refl
no_items_left count (w ∷ ws) e = cc

pub branch_item-in : (r : Residual) (w : Wanted) → branch_item r ≡ Some w → IsIn r.items w
branch_item-in r w e = least_is_one _ _ _ e

-- ======== What is computed level by level, to a depth of the size, is one level over itself.

-- A level looks at what its item's branches leave alone, and where no item is left at nothing.
pub record IsByDepth {X : Type 0} (level : (Residual → X) → Option Wanted → Residual → X) (to : ℕ → Residual → X) : Type
    0 where
  pub local : (f g : Residual → X) (w : Wanted) (r : Residual)
      → AllByRecursion (λ b. f b.next ≡ g b.next) (branches_of r w) → level f (Some w) r ≡ level g (Some w) r
  pub last : (f : Residual → X) (r : Residual) → level f None r ≡ to 0 r
  pub next : (depth : ℕ) (r : Residual) → to (suc depth) r ≡ level (to depth) (branch_item r) r

module _ {X : Type 0} {level : (Residual → X) → Option Wanted → Residual → X} {to : ℕ → Residual → X}
    (by : IsByDepth level to)
  where
    abbrev IsDeep : Residual → Type 0
    IsDeep r = (d : ℕ) → size_of r ≤ d → to d r ≡ level (λ s. to (size_of s) s) (branch_item r) r

    last_deep : (r : Residual) → branch_item r ≡ None → IsDeep r
    last_deep r e zero l = rw e (sym (by.last (λ s. to (size_of s) s) r))
    last_deep r e (suc d) l = by.next d r ∙ rw e (by.last (to d) r ∙ sym (by.last (λ s. to (size_of s) s) r))

    next_deep : (r : Residual) (w : Wanted) → branch_item r ≡ Some w
        → ((b : Branch) → IsIn (branches_of r w) b → IsDeep b.next) → IsDeep r
    next_deep r w e deep zero l = absurd (omega (arith, l, less_items w r.items (least_is_one _ _ _ e)))
    next_deep r w e deep (suc d) l = by.next d r ∙ rw e
        (by.local (to d) (λ s. to (size_of s) s) w r (each_from _ _ (λ b h.
        let less = each_in _ _ _ (branches_less r w e) h in
        deep b h d (omega (arith, less, l)) ∙ sym (deep b h (size_of b.next) (omega arith)))))

    pub by_depth : (r : Residual) → to (size_of r) r ≡ level (λ s. to (size_of s) s) (branch_item r) r
    by_depth r = by_branches IsDeep last_deep next_deep r (size_of r) (omega arith)

-- ======== The listing is one level over itself, and what holds of members by their branches.

pub listing_unrolled : (r : Residual) → listing r ≡ level listing (branch_item r) r
unfolding listing listing_to
listing_unrolled r = by_depth {level = level} {to = listing_to} (grind (arith, flat_map-same, each_weaker)) r

pub listing_at : (r : Residual) (o : Option Wanted) → branch_item r ≡ o → listing r ≡ level listing o r
listing_at r o e = listing_unrolled r ∙ ap (λ o. level listing o r) e

-- a member has no choice where no item is left, or a branch's choice and those of a member behind it
pub by_members : (P : Residual → List Choice → Type 0) → ((r : Residual) → branch_item r ≡ None → P r [])
    → ((r : Residual) (w : Wanted) (b : Branch) (l : List Choice) → branch_item r ≡ Some w → IsBranchOf r w b
    → IsIn (listing b.next) l → P b.next l → P r (b.choice ∷ l)) →
    (r : Residual) (m : List Choice) → IsIn (listing r) m → P r m
by_members P last next = by_branches (λ r. (m : List Choice) → IsIn (listing r) m → P r m)
    (λ r e m h. elim (subst (λ ms. IsIn ms m) (listing_at r None e) h) [
      | inl q ↦ subst (P r) q (last r e)
      | inr q ↦ absurd q
    ]) (λ r w e later m h.
    let at = in-level listing w r m (subst (λ ms. IsIn ms m) (listing_at r (Some w) e) h) in
    subst (P r) at.4 (next r w at.0 at.1 e (in-branches r w at.0 at.2) at.3 (later at.0 at.2 at.1 at.3)))

-- ======== Options with their numbers, and items with their bounds.

-- an option with its number
pub numbered_at : (k : ℕ) (os : List (List Use)) (o : Numbered) → IsIn (numbered_from (k + 1) os) o → (j : ℕ)
    × (o.number ≡ k + suc j) × (j < length os) × (slice_get os j ≡ Some o.uses)
numbered_at k [] o h = absurd h
numbered_at k (us ∷ os) o (inl q) = grind arith
numbered_at k (us ∷ os) o (inr q) =
    let later = numbered_at (k + 1) os o q in
    (suc later.0, omega (arith, later.1), omega (arith, later.2), later.3)

pub at_number : (k : ℕ) (os : List (List Use)) (j : ℕ) → j < length os → (o : Numbered)
    × IsIn (numbered_from (k + 1) os) o × (o.number ≡ k + suc j)
at_number k [] j h = absurd (omega (arith, h))
at_number k (us ∷ os) zero h = (record { number = k + 1; uses = us }, inl refl, omega arith)
at_number k (us ∷ os) (suc j) h = grind (arith, at_number (k + 1) os j)

pub uses_known : (p : Puzzle) (o : Numbered) → IsIn (numbered_options p) o → uses_of p o.number ≡ o.uses
uses_known p o h = grind (arith, numbered_at 0 p.options o h)

pub record IsOption (p : Puzzle) (o : Numbered) : Type 0 where
  pub known : (1 ≤ o.number) × (o.number ≤ option_count p)
  pub uses : uses_of p o.number ≡ o.uses
  pub sound : IsSoundOption p o.uses

pub is_option : (p : Puzzle) → IsValid p → (o : Numbered) → IsIn (numbered_options p) o → IsOption p o
is_option p v o h =
    let at = numbered_at 0 p.options o h in
    let sound = each_at (IsSoundOption p) p.options at.0 o.uses (recursion_from_All _ _ v.options) at.3 in
    grind (arith, at, uses_known p o h, sound)

-- an item with its bounds
pub with_bounds : (k : ℕ) (bs : List Bounds) (w : Wanted) → IsIn (wanted_from (k + 1) bs) w → (j : ℕ) × (b : Bounds)
    × (w.item ≡ k + suc j) × (j < length bs) × (slice_get bs j ≡ Some b) × (w.low ≡ b.low) × (w.high ≡ b.high)
with_bounds k [] w h = absurd h
with_bounds k (b ∷ bs) w (inl q) =
    let low = ap (λ (z : Wanted). z.low) q in
    let high = ap (λ (z : Wanted). z.high) q in
    (zero, b, omega (arith, ap (λ (z : Wanted). z.item) q), omega arith, refl, sym low, sym high)
with_bounds k (b ∷ bs) w (inr q) =
    let later = with_bounds (k + 1) bs w q in
    (suc later.0, later.1, omega (arith, later.2), omega (arith, later.3), later.4, later.5, later.6)

pub at_item : (k : ℕ) (bs : List Bounds) (j : ℕ) (b : Bounds) → slice_get bs j ≡ Some b → (w : Wanted)
    × IsIn (wanted_from (k + 1) bs) w × (w.item ≡ k + suc j) × (w.low ≡ b.low) × (w.high ≡ b.high)
at_item k [] j b e = cc
at_item k (c ∷ bs) zero b e =
    let same : c ≡ b = cc in
    let w : Wanted = record { item = k + 1; low = c.low; high = c.high } in (w, inl refl, omega arith, cc, cc)
at_item k (c ∷ bs) (suc j) b e = grind (arith, at_item (k + 1) bs j b e)

-- ======== What holds of the whole problem, and of all that its branches leave.

-- each two are of different items
abbrev pub AreItemsApart : List Wanted → Type 0
AreItemsApart ws = EachTwo (λ (v w : Wanted). v.item ≢ w.item) ws

-- n is the number of primary items
pub record IsProper (n : ℕ) (r : Residual) : Type 0 where
  pub options_rise : Rises 0 (numbers r.options)
  pub items_apart : AreItemsApart r.items
  -- an item that is left is primary and can be met
  pub sound : (w : Wanted) → IsIn r.items w → (w.item ≤ n) × (w.low ≤ w.high) × (0 < w.high)
  -- a primary item of an option that is left is left
  pub items_left : (o : Numbered) (j : ℕ) → IsIn r.options o → j ≤ n → holds o j ≡ true → (w : Wanted) × IsIn r.items w
      × (w.item ≡ j)
  -- an option that is left has a primary item
  pub one_primary : (o : Numbered) → IsIn r.options o → (j : ℕ) × (j ≤ n) × (holds o j ≡ true)
  -- and gives each item one colour
  pub own : (o : Numbered) → IsIn r.options o → AllByRecursion (λ u. colour_at o u.item ≡ Some u.colour) o.uses

-- ---- items that are apart

apart-filter : (q : Wanted → Bool) (ws : List Wanted) → AreItemsApart ws → AreItemsApart (filter q ws)
apart-filter q [] a = tt
apart-filter q (w ∷ ws) a = grind (arith, apart-filter q ws a.1, each-filter)

pub item-spend_one : (x : Numbered) (w : Wanted) → (spend_one x w).item ≡ w.item
item-spend_one x w = grind arith

apart-spend : (x : Numbered) (ws : List Wanted) → AreItemsApart ws → AreItemsApart (map (spend_one x) ws)
apart-spend x ws a = grind (arith, EachTwo-map, EachTwo-weaker, item-spend_one)

-- `item_left` finds the items that are left, and no others
pub find-in : (ws : List Wanted) (w : Wanted) → AreItemsApart ws → IsIn ws w → find (λ v. eqb v.item w.item) ws ≡ Some w
find-in [] w a h = absurd h
find-in (v ∷ ws) w a (inl q) = grind (arith, eq-eqb)
find-in (v ∷ ws) w a (inr q) = grind (arith, find-in ws w a.1 q, each_in _ ws w a.0 q, ne_eqb)

pub in-find : (ws : List Wanted) (j : ℕ) (w : Wanted) → find (λ v. eqb v.item j) ws ≡ Some w → IsIn ws w × (w.item ≡ j)
in-find [] j w e = cc
in-find (v ∷ ws) j w e = grind (arith, in-find ws j w, find, eqb-true)

-- two that are left are one where their items are
pub same_wanted : (n : ℕ) (r : Residual) (v w : Wanted) → IsProper n r → IsIn r.items v → IsIn r.items w
    → eqb v.item w.item ≡ true → v ≡ w
same_wanted n r v w p h k e =
    let one = find-in r.items v p.items_apart h in
    let two = find-in r.items w p.items_apart k in
    let found = ap (item_left r) (eqb-true _ _ e) in cc

-- ---- the use of an item

pub use_passes : (f : Use → Bool) (us : List Use) (j c : ℕ) → list_all f us ≡ true → colour_in us j ≡ Some c
    → f (record { item = j; colour = c }) ≡ true
use_passes f [] j c all held = cc
use_passes f (u ∷ us) j c all held = by_bool (eqb u.item j) (λ e. grind (arith, eqb-true, and_left))
    (λ e. use_passes f us j c (and_right _ _ all) (rw e at held))

-- an item that x uses up is held by no option that stays
pub used_up : (r : Residual) (x y : Numbered) (w : Wanted) → stays r x y ≡ true → holds x w.item ≡ true
    → item_left r w.item ≡ Some w → nat_lt 1 w.high ≡ false → holds y w.item ≡ false
used_up r x y w stay held left full = grind (arith, by_option, use_passes)

-- ---- one branch on

-- the option is left where x of item i is taken
abbrev pub goes_on : Residual → ℕ → Numbered → Numbered → Bool
goes_on r i x o = not (holds o i && nat_le o.number x.number) && stays r x o

module _ {n : ℕ} {r : Residual} {w : Wanted} (p : IsProper n r) where
  apart_behind : {b : Branch} → IsBranchOf r w b → AreItemsApart b.next.items
  apart_behind (takes_one k m x known at) = apart-filter _ _ (apart-spend x r.items p.items_apart)
  apart_behind (takes_none m free) = apart-filter _ _ p.items_apart

  sound_behind : {b : Branch} → IsBranchOf r w b → (v : Wanted) → IsIn b.next.items v
      → (v.item ≤ n) × (v.low ≤ v.high) × (0 < v.high)
  sound_behind (takes_one k m x known at) v h = grind (arith, in-filter, in-map, n, ltb-true)
  sound_behind (takes_none m free) v h = p.sound v (in-filter _ _ _ h).0

  left_behind : {b : Branch} → IsBranchOf r w b → (o : Numbered) → IsIn b.next.options o → (v : Wanted) → IsIn r.items v
      → holds o v.item ≡ true → (z : Wanted) × IsIn b.next.items z × (z.item ≡ v.item)
  left_behind (takes_one k m x known at) o h v j here =
      let stay : stays r x o ≡ true = and_right _ _ (in-filter (goes_on r w.item x) _ _ h).1 in
      let some : nat_lt 0 (spend_one x v).high ≡ true =
      grind (arith, p.sound v j, ltb-true, lt-ltb, used_up, find-in r.items v p.items_apart j) in
      (spend_one x v, filter-in _ _ _ (map-in _ _ _ j) some, item-spend_one x v)
  left_behind (takes_none m free) o h v j here = grind (arith, in-filter, eqb-true, filter-in)

  pub proper_behind : {b : Branch} → IsBranchOf r w b → IsProper n b.next
  proper_behind of = grind (arith, rise_behind, apart_behind, sound_behind, left_before, left_behind)

-- with no item left no option is
pub none_left : {n : ℕ} {r : Residual} → IsProper n r → branch_item r ≡ None → (o : Numbered) → IsIn r.options o → ⊥
none_left {n} {r} p e o h = grind (arith, no_items_left)

-- ---- the whole problem

has_item : (p : Puzzle) (j : ℕ) → 0 < j → j ≤ primary_count p → (w : Wanted) × IsIn (whole p).items w × (w.item ≡ j)
has_item p j h l = by_option (slice_get p.bounds (j - 1))
    (λ e. absurd (omega (arith, h, l, not_some p.bounds (j - 1) e)))
    (λ b e. let at = at_item 0 p.bounds (j - 1) b e in (at.0, at.1, omega (arith, at.2, h)))

apart_from : (k : ℕ) (bs : List Bounds) → AreItemsApart (wanted_from (k + 1) bs)
apart_from k [] = tt
apart_from k (b ∷ bs) = grind (arith, apart_from (k + 1) bs, each_from, with_bounds)

pub sound_item : (p : Puzzle) → IsValid p → (o : Numbered) (j : ℕ) → IsIn (numbered_options p) o → holds o j ≡ true
    → IsItem p j
sound_item p v o j k h =
    let by = held_by o.uses j h in
    subst (IsItem p) by.2 (each_in (IsSoundUse p) _ _ (recursion_from_All _ _ (is_option p v o k).sound.sound) by.1).0

pub proper_whole : (p : Puzzle) → IsValid p → IsProper (primary_count p) (whole p)
proper_whole p v = record {
  options_rise = options_rise p;
  items_apart = apart_from 0 p.bounds;
  sound = λ w k.
      let at = with_bounds 0 p.bounds w k in
      let s = each_at AreSoundBounds p.bounds at.0 at.1 (recursion_from_All _ _ v.bounds) at.4 in
      (omega (arith, at.2, at.3), omega (arith, at.5, at.6, s), omega (arith, at.6, s));
  items_left = λ o j k l h. has_item p j (sound_item p v o j k h).0 l;
  one_primary = λ o k.
      let one = (is_option p v o k).sound.one_primary in
      (one.1.item, one.4, holds_use o.uses one.1 (in-contains o.uses one.1 (one.0, one.2, one.3)));
  own = λ o k. own_colours o.uses (apart_from_pairs o.uses (is_option p v o k).sound.distinct);
}

-- ======== The listing of what is left where an item has no branches.

-- ---- the item with the fewest branches

abbrev pub best : (Wanted → ℕ) → Wanted → List Wanted → Wanted
best count w ws = best_of (λ x b. nat_lt (count x) (count b)) w ws

-- no other has fewer
pub best_least : (count : Wanted → ℕ) (w : Wanted) (ws : List Wanted) (v : Wanted) → IsIn (w ∷ ws) v
    → count (best count w ws) ≤ count v
best_least count w [] v (inl q) = omega (arith, ap count q)
best_least count w [] v (inr q) = absurd q
best_least count w (u ∷ us) v h = grind (arith, ltb-true, ltb-false, best_least count u us, best_least count w us)

-- it is the first, or has fewer than the first
pub best_first : (count : Wanted → ℕ) (w : Wanted) (ws : List Wanted) → (best count w ws ≡ w)
    ⊎ (count (best count w ws) < count w)
best_first count w [] = inl refl
best_first count w (u ∷ us) = grind (arith, best_least count u us u, best_first count w us)

-- ---- an item without branches

flat_map_none : {X Y : Type 0} (f : X → List Y) (xs : List X) → AllByRecursion (λ x. f x ≡ []) xs → flat_map f xs ≡ []
flat_map_none f [] a = refl
flat_map_none f (x ∷ xs) a = rw (a.0, flat_map_none f xs a.1) refl

pub no_branches : (r : Residual) (v : Wanted) → branch_count r v ≡ 0 → branches_of r v ≡ []
no_branches r v e = grind (arith, ne_eqb)

-- ends the listing
pub none_listed : (r : Residual) (v : Wanted) → IsIn r.items v → branch_count r v ≡ 0 → listing r ≡ []
none_listed r v h e = listing_unrolled r ∙ by_items r.items refl h
  where
    by_items : (ws : List Wanted) → r.items ≡ ws → IsIn ws v → level listing (branch_item r) r ≡ []
    by_items [] q k = absurd k
    by_items (w ∷ ws) q k = grind (arith, best_least, no_branches)

-- It stays without where an option is taken.
pub still_short : (r : Residual) (i : ℕ) (x : Numbered) (v : Wanted) → IsIn (holding i r.options) x → IsIn r.items v
    → v.low ≤ v.high → branch_count r v ≡ 0 →
    IsIn (pick r i x).items (spend_one x v) × (branch_count (pick r i x) (spend_one x v) ≡ 0)
still_short r i x v h k sound e =
    let few = length-filter-le (goes_on r i x) (holding v.item r.options) in
    let swap = ap length (filter_swap (λ o. holds o v.item) (goes_on r i x) r.options) in
    let kept : (nat_lt 0 (spend_one x v).high ≡ true) × (branch_count (pick r i x) (spend_one x v) ≡ 0) =
    grind (arith, lt-ltb, few, fewer, swap) in
    (filter-in (λ w. nat_lt 0 w.high) (map (spend_one x) r.items) _ (map-in (spend_one x) r.items v k) kept.0, kept.1)
  where
    fewer : holds x v.item ≡ true
        → length (filter (goes_on r i x) (holding v.item r.options)) < length (holding v.item r.options)
    fewer at =
        let found = in-filter (λ o. holds o i) r.options x h in
        let hs = holding v.item r.options in
        each_in (λ (y : Numbered). length (filter (goes_on r i y) hs) < length hs) (holding i hs) x
        (less_options i (goes_on r i) (λ y q. rw (q, le-leb y.number y.number (omega arith))) hs)
        (filter-in (λ o. holds o i) hs x (filter-in (λ o. holds o v.item) r.options x found.0 at) found.1)

-- and where none is, of another item
pub still_without : (r : Residual) (i : ℕ) (v : Wanted) → IsIn r.items v → v.item ≢ i → branch_count r v ≡ 0 →
    IsIn (none r i).items v × (branch_count (none r i) v ≡ 0)
still_without r i v k other e =
    let few = length-filter-le (λ o. not (holds o i)) (holding v.item r.options) in
    let swap = ap length (filter_swap (λ o. holds o v.item) (λ o. not (holds o i)) r.options) in
    (filter-in (λ w. not (eqb w.item i)) r.items v k (rw (ne_eqb v.item i other) refl), omega (arith, few, swap, e))

-- So its listing is that by another item: both are empty.
pub dead_end : (r : Residual) (w v : Wanted) → IsIn r.items v → v.low ≤ v.high → branch_count r v ≡ 0
    → (v.item ≡ w.item → v ≡ w) → listing r ≡ level listing (Some w) r
dead_end r w v k sound e same =
    none_listed r v k e ∙ sym (flat_map_none (behind listing) (branches_of r w)
    (each_from _ _ (λ b h. ap (map (λ m. b.choice ∷ m)) (lists_none (in-branches r w b h)))))
  where
    lists_none : {b : Branch} → IsBranchOf r w b → listing b.next ≡ []
    lists_none (takes_one i n x known at) =
        let short = still_short r w.item x v (filter-in (λ o. holds o w.item) r.options x known at) k sound e in
        none_listed (pick r w.item x) (spend_one x v) short.0 short.1
    lists_none (takes_none n free) =
        let other : v.item ≢ w.item = λ q. absurd (omega (arith, e, free, ap (λ (z : Wanted). z.low) (same q))) in
        let short = still_without r w.item v k other e in none_listed (none r w.item) v short.0 short.1

-- ======== The listing where each option that is left holds all items that are left, each to be held once: a member
-- for each.

pub record IsLast (r : Residual) : Type 0 where
  pub once : (w : Wanted) → IsIn r.items w → (w.low ≡ 1) × (w.high ≡ 1)
  pub held : (x : Numbered) (w : Wanted) → IsIn r.options x → IsIn r.items w → holds x w.item ≡ true
  pub item : Wanted
  pub known : IsIn r.items item

length_ones : {X Y : Type 0} (f : X → List Y) (xs : List X) → AllByRecursion (λ x. length (f x) ≡ 1) xs
    → length (flat_map f xs) ≡ length xs
length_ones f [] a = refl
length_ones f (x ∷ xs) a = omega (arith, length-append (f x) (flat_map f xs), a.0, length_ones f xs a.1)

empty_listing : (r : Residual) → r.items ≡ [] → listing r ≡ [] ∷ []
empty_listing r e = listing_at r None (rw e refl)

all_spent : (x : Numbered) (ws : List Wanted) → AllByRecursion (λ w. (holds x w.item ≡ true) × (w.high ≡ 1)) ws
    → filter (λ w. nat_lt 0 w.high) (map (spend_one x) ws) ≡ []
all_spent x [] a = refl
all_spent x (w ∷ ws) a = grind (arith, all_spent x ws a.1)

module _ {r : Residual} (last : IsLast r) where
  one_member : (w : Wanted) → IsIn r.items w → (b : Branch) → IsBranchOf r w b → length (behind listing b) ≡ 1
  one_member w h _ (takes_one k n x known at) =
      let none = all_spent x r.items (each_from _ _ (λ v q. (last.held x v known q, (last.once v q).1))) in
      ap (λ ms. length (map (λ m. (take_branch r w.item n (k, x)).choice ∷ m) ms))
      (empty_listing (pick r w.item x) none)
  one_member w h _ (takes_none n free) = absurd (omega (arith, free, (last.once w h).0))

  as_many : (w : Wanted) → IsIn r.items w → length (branches_of r w) ≡ length r.options
  as_many w h =
      let all = keep_all (λ o. holds o w.item) r.options (each_from _ _ (λ x q. last.held x w q h)) in
      let low = (last.once w h).0 in
      let test : eqb w.low 0 ≡ false = ne_eqb w.low 0 (λ e. absurd (omega (arith, e, low))) in
      let few = length-take (branch_count r w) (holding w.item r.options) in
      rw test (omega (arith, length-append (takes r w) [], length-takes r w, few, ap length all, low))

  pub last_members : length (listing r) ≡ length r.options
  last_members = by_option (branch_item r)
      (λ e. absurd (subst (λ ws. IsIn ws last.item) (no_items_left _ _ e) last.known))
      (λ w e. let h = branch_item-in r w e in
      ap length (listing_at r (Some w) e)
      ∙ length_ones (behind listing) (branches_of r w) (each_from _ _ (λ b q. one_member w h b (in-branches r w b q)))
      ∙ as_many w h)
