-- The solution of a number: by the branches of the branch item, and past solutions that are left out.
use Rattle.std.proofs.Common.{ℕ, zero, suc, ◌≡◌, ◌≢◌, ◌<◌, ◌≤◌, ◌+◌, ◌-◌, Bool, true, false, cond, List, [], ◌∷◌, ◌++◌}
use Rattle.std.proofs.Common.{length, map, filter, take, drop, Option, Some, None, refl, sym, ap, ap₂, ◌∙◌, arith}
use Rattle.std.proofs.Common.{subst, inl, inr, append-nil, append_assoc, drop-cons, eqb, eq-eqb, is_le, is_gt, nat_cmp}
use Rattle.std.proofs.Common.{ltb-false}
use Rattle.std.proofs.Math.ListN.{get_or}
use Rattle.std.specs.Prelude.{is_none, nat_lt, option_map, slice_get, flat_map, Contains}
use Rattle.std.specs.List.{AllByRecursion, best_of, enumerate_from}
use Rattle.std.proofs.lemmas.List.{length-map, take_all}
use Rattle.std.proofs.lemmas.List.FromFn.{length-enumerate_from}
use Rattle.std.proofs.lemmas.Option.{slice_get-map}
use Rattle.xc_input.specs.declared.problem.Bounds.{Bounds}
use Rattle.xc_input.specs.Problem.{Puzzle, Numbered, numbered_get, numbered_options, holding, holds, option_count}
use Rattle.xc_input.specs.Problem.{primary_count, uses_of, IsPrimary, IsValid}
use Rattle.xc_text.proofs.ListLemmas.{by_bool, by_option, length-filter-le, IsIn, each_from, each_in, filter-in}
use Rattle.xc_text.proofs.ListLemmas.{in-contains, in-filter, in-map}
use Rattle.xc_moves.proofs.PlaceLemmas.{get_dropped}
use Rattle.xc_search.specs.declared.choice.Choice.{Choice}
use Rattle.xc_search.specs.Listing.{Residual, Wanted, branch_count, branch_item, branches_of, first_least}
use Rattle.xc_search.specs.Listing.{listing, pick, whole, wanted_from}
use Rattle.xc_search.specs.inner.Levels.{take_branch}
use Rattle.xc_search.proofs.ListingLemmas.{behind, uses_known, branches_less, branch_item-in, nones, takes-in}
use Rattle.xc_search.proofs.ListingLemmas.{listing_at, takes}
use Rattle.xc_search.specs.Once.{IsOnce}
use Rattle.xc_count.specs.inner.Held.{Held, agree, fits, holding_uses, left_by}
use Rattle.xc_count.specs.inner.Keys.{mark_says}
use Rattle.xc_count.specs.inner.Numbered.{fewer, size_left}
use Rattle.xc_count.specs.inner.Plans.{options_with}
use Rattle.xc_count.proofs.Below.{are_once, known}
use Rattle.xc_count.proofs.LeftBy.{AreOnce, picked}

-- ---- numbers in lists

get_within : {X Y : Type 0} (f : X → Y) (xs : List X) (ys : List Y) (k : ℕ) → k < length xs
    → slice_get (map f xs ++ ys) k ≡ option_map f (slice_get xs k)
get_within f [] ys k h = absurd (omega (arith, h))
get_within f (x ∷ xs) ys zero h = refl
get_within f (x ∷ xs) ys (suc k) h = get_within f xs ys k (omega (arith, h))

get_past : {X Y : Type 0} (f : X → Y) (xs : List X) (ys : List Y) (k : ℕ) → length xs ≤ k
    → slice_get (map f xs ++ ys) k ≡ slice_get ys (k - length xs)
get_past f [] ys k h = let same : k ≡ k - 0 = omega arith in ap (slice_get ys) same
get_past f (x ∷ xs) ys zero h = absurd (omega (arith, h))
get_past f (x ∷ xs) ys (suc k) h =
    let same : k - length xs ≡ suc k - length (x ∷ xs) = omega arith in
    get_past f xs ys k (omega (arith, h)) ∙ ap (slice_get ys) same

-- the number is one of the first list
pub number_within : {X Y : Type 0} (f : X → Y) (xs : List X) (ys : List Y) (n : ℕ) → n ≤ length xs
    → numbered_get (map f xs ++ ys) n ≡ option_map f (numbered_get xs n)
number_within f xs ys zero h = refl
number_within f xs ys (suc k) h = get_within f xs ys k (omega (arith, h))

-- it is behind the first list
pub number_past : {X Y : Type 0} (f : X → Y) (xs : List X) (ys : List Y) (n : ℕ) → length xs < n
    → numbered_get (map f xs ++ ys) n ≡ numbered_get ys (n - length xs)
number_past f xs ys zero h = absurd (omega (arith, h))
number_past f xs ys (suc k) h =
    let same : suc (k - length xs) ≡ suc k - length xs = omega (arith, h) in
    get_past f xs ys k (omega (arith, h)) ∙ ap (numbered_get ys) same

number_map : {X Y : Type 0} (f : X → Y) (xs : List X) (n : ℕ)
    → numbered_get (map f xs) n ≡ option_map f (numbered_get xs n)
number_map f xs zero = refl
number_map f xs (suc k) = slice_get-map f xs k

get_none : {X : Type 0} (xs : List X) (k : ℕ) → length xs ≤ k → slice_get xs k ≡ None
get_none [] k h = refl
get_none (x ∷ xs) zero h = absurd (omega (arith, h))
get_none (x ∷ xs) (suc k) h = get_none xs k (omega (arith, h))

-- there are fewer
pub number_none : {X : Type 0} (xs : List X) (n : ℕ) → length xs < n → numbered_get xs n ≡ None
number_none xs zero h = refl
number_none xs (suc k) h = get_none xs k (omega (arith, h))

pub number_empty : {X : Type 0} (n : ℕ) → numbered_get {X = X} [] n ≡ None
number_empty zero = refl
number_empty (suc k) = refl

-- the first are left out
pub number_dropped : {X : Type 0} (xs : List X) (m n : ℕ) → m < n
    → numbered_get xs n ≡ numbered_get (drop m xs) (n - m)
number_dropped xs m zero h = absurd (omega (arith, h))
number_dropped xs m (suc k) h =
    let same : suc (k - m) ≡ suc k - m = omega (arith, h) in
    let place : m + (k - m) ≡ k = omega (arith, h) in
    sym (get_dropped m (k - m) xs ∙ ap (slice_get xs) place) ∙ ap (numbered_get (drop m xs)) same

-- the only one
pub number_one : {X : Type 0} (x : X) (n : ℕ) → n ≢ 1 → numbered_get (x ∷ []) n ≡ None
number_one x zero h = refl
number_one x (suc zero) h = absurd (h refl)
number_one x (suc (suc k)) h = refl

-- ---- the branch item

-- an item with a count
abbrev pub counted : (Wanted → ℕ) → Wanted → ℕ × ℕ
counted c w = (w.item, c w)

best_more : (c : Wanted → ℕ) (v : Wanted) (ws : List Wanted) (w : Wanted)
    → Some (counted c (best_of (λ x best. nat_lt (c x) (c best)) v (ws ++ w ∷ [])))
    ≡ fewer (Some (counted c (best_of (λ x best. nat_lt (c x) (c best)) v ws))) (counted c w)
best_more c v [] w = by_bool (nat_lt (c w) (c v)) (λ e. rw e refl) (λ e. rw e refl)
best_more c v (x ∷ ws) w = best_more c (cond (nat_lt (c x) (c v)) x v) ws w

-- one item more
pub fewer_more : (c : Wanted → ℕ) (ws : List Wanted) (w : Wanted)
    → option_map (counted c) (first_least c (ws ++ w ∷ []))
    ≡ fewer (option_map (counted c) (first_least c ws)) (counted c w)
fewer_more c [] w = refl
fewer_more c (v ∷ ws) w = best_more c v ws w

wanted_next : (k : ℕ) (bs : List Bounds) (i : ℕ) → i < length bs → (w : Wanted) × (w.item ≡ k + i)
    × IsIn (wanted_from k bs) w × (take (suc i) (wanted_from k bs) ≡ take i (wanted_from k bs) ++ w ∷ [])
wanted_next k [] i h = absurd (omega (arith, h))
wanted_next k (b ∷ bs) zero h =
    (record { item = k; low = b.low; high = b.high }, omega arith, inl refl, refl)
wanted_next k (b ∷ bs) (suc i) h =
    let rest = wanted_next (k + 1) bs i (omega (arith, h)) in
    let w : Wanted = record { item = k; low = b.low; high = b.high } in
    (rest.0, omega (arith, rest.1), inr rest.2, ap (λ ws. w ∷ ws) rest.3)

-- the items up to a place, and the one there
pub item_next : (p : Puzzle) (i : ℕ) → i < primary_count p → (w : Wanted) × (w.item ≡ i + 1)
    × IsIn (whole p).items w × (take (i + 1) (whole p).items ≡ take i (whole p).items ++ w ∷ [])
item_next p i h =
    let at = wanted_next 1 p.bounds i h in
    let more : i + 1 ≡ suc i = omega arith in
    (at.0, omega (arith, at.1), at.2, ap (λ n. take n (whole p).items) more ∙ at.3)

pub all_items : (p : Puzzle) (i : ℕ) → primary_count p ≤ i → take i (whole p).items ≡ (whole p).items
all_items p i h =
    let many : length (whole p).items ≡ primary_count p =
    length-map _ _ ∙ length-enumerate_from 1 p.bounds in
    take_all i (whole p).items (omega (arith, h, many))

-- the items of the first places that are free
abbrev pub free_of_first : Puzzle → Held → ℕ → List Wanted
free_of_first p s i = filter (λ w. is_none (s w.item)) (take i (whole p).items)

filter_append : {X : Type 0} (q : X → Bool) (xs ys : List X) → filter q (xs ++ ys) ≡ filter q xs ++ filter q ys
filter_append q [] ys = refl
filter_append q (x ∷ xs) ys = by_bool (q x)
    (λ e. rw e (ap (λ zs. x ∷ zs) (filter_append q xs ys))) (λ e. rw e (filter_append q xs ys))

-- the item at a place is held
pub free_held : (p : Puzzle) (s : Held) (i : ℕ) → i < primary_count p → s (i + 1) ≢ None
    → free_of_first p s (i + 1) ≡ free_of_first p s i
free_held p s i h held =
    let at = item_next p i h in
    let not_free : is_none (s at.0.item) ≡ false =
    subst (λ j. is_none (s j) ≡ false) (sym at.1) (some_held (s (i + 1)) held) in
    ap (filter (λ w. is_none (s w.item))) at.3
    ∙ filter_append (λ (w : Wanted). is_none (s w.item)) (take i (whole p).items) (at.0 ∷ [])
    ∙ ap (λ b. free_of_first p s i ++ cond b (at.0 ∷ []) []) not_free ∙ append-nil (free_of_first p s i)
  where
    some_held : (o : Option ℕ) → o ≢ None → is_none o ≡ false
    some_held None h = absurd (h refl)
    some_held (Some c) h = refl

-- it is free
pub free_more : (p : Puzzle) (s : Held) (i : ℕ) → i < primary_count p → s (i + 1) ≡ None
    → (w : Wanted) × (w.item ≡ i + 1) × IsIn (whole p).items w
    × (free_of_first p s (i + 1) ≡ free_of_first p s i ++ w ∷ [])
free_more p s i h free =
    let at = item_next p i h in
    let is_free : is_none (s at.0.item) ≡ true =
    subst (λ j. is_none (s j) ≡ true) (sym at.1) (ap is_none free) in (
      at.0,
      at.1,
      at.2,
      ap (filter (λ w. is_none (s w.item))) at.3
          ∙ filter_append (λ (w : Wanted). is_none (s w.item)) (take i (whole p).items) (at.0 ∷ [])
          ∙ ap (λ b. free_of_first p s i ++ cond b (at.0 ∷ []) []) is_free,
    )

-- ---- the options of an item that fit

-- of these options those that agree
abbrev pub that_agree : Puzzle → Held → List ℕ → List ℕ
that_agree p s os = filter (λ o. agree s (uses_of p o)) os

agree_many : (p : Puzzle) (s : Held) (i : ℕ) (xs : List Numbered) → AllByRecursion (IsIn (numbered_options p)) xs
    → length (that_agree p s (map (λ x. x.number) (holding i xs))) ≡ length (holding i (filter (fits s) xs))
agree_many p s i [] a = refl
agree_many p s i (x ∷ xs) a =
    let rest = agree_many p s i xs a.1 in
    let same : agree s (uses_of p x.number) ≡ fits s x = ap (agree s) (uses_known p x a.0) in
    by_bool (holds x i)
    (λ h. by_bool (fits s x)
    (λ f. rw (h, same, f, h) (ap suc rest))
    (λ f. rw (h, same, f) rest))
    (λ h. by_bool (fits s x) (λ f. rw (h, f, h) rest) (λ f. rw (h, f) rest))

pub options_that_fit : (p : Puzzle) (s : Held) (i : ℕ)
    → length (that_agree p s (options_with p i)) ≡ length (holding i (left_by p s).options)
options_that_fit p s i = agree_many p s i (numbered_options p) (each_from _ _ (λ x h. h))

pub few_options : (p : Puzzle) (i : ℕ) → length (options_with p i) ≤ option_count p
few_options p i =
    let many : length (numbered_options p) ≡ option_count p =
    length-map _ _ ∙ length-enumerate_from 1 p.options in
    let few = length-filter-le (λ o. holds o i) (numbered_options p) in
    omega (arith, many, few, length-map (holding i (numbered_options p)) (λ (x : Numbered). x.number))

-- ---- the members behind the branches

-- the choice of an option
abbrev pub choice_of : ℕ → ℕ → ℕ → ℕ → Choice
choice_of i n k o = record { item = i; option = Some o; k = k; n = n }

-- the members behind the branches of item i that take these options, those from number k on of n
abbrev pub members_with : Puzzle → Held → ℕ → ℕ → ℕ → List ℕ → List (List Choice)
members_with p s i n k [] = []
members_with p s i n k (o ∷ os) = cond (agree s (uses_of p o))
    (map (λ m. choice_of i n k o ∷ m) (listing (left_by p (holding_uses (uses_of p o) s)))
    ++ members_with p s i n (k + 1) os)
    (members_with p s i n k os)

module _ (p : Puzzle) (v : IsValid p) (once : AreOnce p) (s : Held) (i n : ℕ) (primary : i ≤ primary_count p) where
  taken_in : (k : ℕ) (xs : List Numbered) → AllByRecursion (IsIn (numbered_options p)) xs
      → flat_map (behind listing) (map (take_branch (left_by p s) i n) (enumerate_from k (holding i (filter (fits s)
      xs)))) ≡ members_with p s i n k (map (λ x. x.number) (holding i xs))
  taken_in k [] a = refl
  taken_in k (x ∷ xs) a =
      let uses = uses_known p x a.0 in
      let same : agree s (uses_of p x.number) ≡ fits s x = ap (agree s) uses in
      by_bool (holds x i)
      (λ h. by_bool (fits s x)
      (λ f.
      let left : pick (left_by p s) i x ≡ left_by p (holding_uses (uses_of p x.number) s) =
      picked p v once s i x (fit_in x a.0 f) primary h ∙ ap (λ us. left_by p (holding_uses us s)) (sym uses) in
      rw (h, same, f, h) (ap₂ (λ a b. a ++ b) (ap (λ r. map (λ m. choice_of i n k x.number ∷ m) (listing r)) left)
      (taken_in (k + 1) xs a.1)))
      (λ f. rw (h, same, f) (taken_in k xs a.1)))
      (λ h. by_bool (fits s x) (λ f. rw (h, f, h) (taken_in k xs a.1)) (λ f. rw (h, f) (taken_in k xs a.1)))
    where
      fit_in : (x : Numbered) → IsIn (numbered_options p) x → fits s x ≡ true → IsIn (left_by p s).options x
      fit_in x h f = filter-in (fits s) (numbered_options p) x h f

module _ (p : Puzzle) (v : IsValid p) (once : IsOnce p) (s : Held) where
  abbrev r : Residual
  r = left_by p s

  -- the listing of what is left, by the options of its branch item
  pub listing_with : (w : Wanted) → branch_item r ≡ Some w
      → listing r ≡ members_with p s w.item (branch_count r w) 1 (options_with p w.item)
  listing_with w e =
      let there = in-filter (λ z. is_none (s z.item)) (whole p).items w (branch_item-in r w e) in
      let is = known p once w there.0 in
      let n = branch_count r w in
      let hs = holding w.item r.options in
      let all : take n hs ≡ hs = take_all n hs (omega (arith, is.1)) in
      let no_none : nones r w ≡ [] = rw is.1 refl in
      let branches : branches_of r w ≡ map (take_branch r w.item n) (enumerate_from 1 hs) =
      ap (λ bs. takes r w ++ bs) no_none ∙ append-nil (takes r w)
      ∙ ap (λ xs. map (take_branch r w.item n) (enumerate_from 1 xs)) all in
      let fitting : hs ≡ holding w.item (filter (fits s) (numbered_options p)) = refl in
      listing_at r (Some w) e ∙ ap (flat_map (behind listing)) branches
      ∙ taken_in p v (are_once p once) s w.item n is.0.1 1 (numbered_options p) (each_from _ _ (λ x h. h))

  -- once an option that agrees is taken, less is left
  pub taken_less : (w : Wanted) (o : ℕ) → branch_item r ≡ Some w → Contains (options_with p w.item) o
      → agree s (uses_of p o) ≡ true → size_left (left_by p (holding_uses (uses_of p o) s)) < size_left r
  taken_less w o e listed agreed =
      let there = in-filter (λ z. is_none (s z.item)) (whole p).items w (branch_item-in r w e) in
      let is = known p once w there.0 in
      let from = in-map (λ (x : Numbered). x.number) (holding w.item (numbered_options p)) o (in-contains _ _ listed) in
      let x = from.0 in
      let at = in-filter (λ x. holds x w.item) (numbered_options p) x from.1 in
      let uses : uses_of p o ≡ x.uses = ap (uses_of p) (sym from.2) ∙ uses_known p x at.0 in
      let fitting : fits s x ≡ true = ap (agree s) (sym uses) ∙ agreed in
      let left_in = filter-in (fits s) (numbered_options p) x at.0 fitting in
      let n = branch_count r w in
      let hs = holding w.item r.options in
      let all : take n hs ≡ hs = take_all n hs (omega (arith, is.1)) in
      let held : IsIn hs x = filter-in (λ o. holds o w.item) r.options x left_in at.1 in
      let branch = takes-in r w x (subst (λ xs. IsIn xs x) (sym all) held) in
      let less = each_in _ (branches_of r w) _ (branches_less r w e) branch.1 in
      let same : pick r w.item x ≡ left_by p (holding_uses (uses_of p o) s) =
      picked p v (are_once p once) s w.item x left_in is.0.1 at.1
      ∙ ap (λ us. left_by p (holding_uses us s)) (sym uses) in
      subst (λ z. size_left z < size_left r) same less

  abbrev forked : Option Wanted → Option (ℕ × ℕ)
  forked o = option_map (counted (branch_count r)) o

  -- the branch item by its number
  pub fork_item : (fork : ℕ × ℕ) → forked (branch_item r) ≡ Some fork
      → (w : Wanted) × (branch_item r ≡ Some w) × (counted (branch_count r) w ≡ fork) × IsPrimary p w.item
  fork_item fork e = by_option (branch_item r) (λ q. absurd (nothing (rw q at e)))
      (λ w q.
      let there = in-filter (λ z. is_none (s z.item)) (whole p).items w (branch_item-in r w q) in
      (w, q, some (counted (branch_count r) w) fork (rw q at e), (known p once w there.0).0))
    where
      nothing : None ≡ Some fork → ⊥
      nothing q = cc

      some : (a b : ℕ × ℕ) → Some a ≡ Some b → a ≡ b
      some a b q = cc

  module _ (fork : ℕ × ℕ) (e : forked (branch_item r) ≡ Some fork) where
    same_item : (fork_item fork e).0.item ≡ fork.0
    same_item = ap (λ (x : ℕ × ℕ). x.0) (fork_item fork e).2

    pub fork_primary : IsPrimary p fork.0
    fork_primary = subst (IsPrimary p) same_item (fork_item fork e).3

    -- there are as many branches as options that agree
    pub fork_many : length (that_agree p s (options_with p fork.0)) ≡ fork.1
    fork_many =
        let at = fork_item fork e in
        let there = in-filter (λ z. is_none (s z.item)) (whole p).items at.0 (branch_item-in r at.0 at.1) in
        let low = (known p once at.0 there.0).1 in
        let agreeing = options_that_fit p s at.0.item in
        let many : length (that_agree p s (options_with p at.0.item)) ≡ branch_count r at.0 =
        omega (arith, agreeing, low) in
        subst (λ (x : ℕ × ℕ). length (that_agree p s (options_with p x.0)) ≡ x.1) at.2 many

    pub fork_listing : listing r ≡ members_with p s fork.0 fork.1 1 (options_with p fork.0)
    fork_listing = let at = fork_item fork e in
        listing_with at.0 at.1 ∙ ap (λ (x : ℕ × ℕ). members_with p s x.0 x.1 1 (options_with p x.0)) at.2

    pub fork_less : (o : ℕ) → Contains (options_with p fork.0) o → agree s (uses_of p o) ≡ true
        → size_left (left_by p (holding_uses (uses_of p o) s)) < size_left r
    fork_less o listed agreed = let at = fork_item fork e in
        taken_less at.0 o at.1 (subst (λ i. Contains (options_with p i) o) (sym same_item) listed) agreed

-- one option more
pub agree_step : (p : Puzzle) (s : Held) (os : List ℕ) (k : ℕ) → k < length os
    → length (that_agree p s (drop k os))
    ≡ cond (agree s (uses_of p (get_or os k 0))) 1 0 + length (that_agree p s (drop (k + 1) os))
agree_step p s os k h =
    let more : k + 1 ≡ suc k = omega arith in
    let here : drop k os ≡ get_or os k 0 ∷ drop (k + 1) os =
    drop-cons os k 0 h ∙ ap (λ j. get_or os k 0 ∷ drop j os) (sym more) in
    ap (λ xs. length (that_agree p s xs)) here
    ∙ by_bool (agree s (uses_of p (get_or os k 0))) (λ e. rw e (omega arith)) (λ e. rw e (omega arith))

-- the members behind the branches, from an option on
pub with_next : (p : Puzzle) (s : Held) (i n j : ℕ) (os : List ℕ) (k : ℕ) → k < length os
    → members_with p s i n j (drop k os) ≡ cond (agree s (uses_of p (get_or os k 0)))
    (map (λ m. choice_of i n j (get_or os k 0) ∷ m) (listing (left_by p (holding_uses (uses_of p (get_or os k 0)) s)))
    ++ members_with p s i n (j + 1) (drop (k + 1) os))
    (members_with p s i n j (drop (k + 1) os))
with_next p s i n j os k h =
    let more : k + 1 ≡ suc k = omega arith in
    ap (members_with p s i n j) (drop-cons os k 0 h ∙ ap (λ m. get_or os k 0 ∷ drop m os) (sym more))

-- no option of these agrees
none_with : (p : Puzzle) (s : Held) (i n k : ℕ) (os : List ℕ) → length (that_agree p s os) ≡ 0
    → members_with p s i n k os ≡ []
none_with p s i n k [] h = refl
none_with p s i n k (o ∷ os) h = by_bool (agree s (uses_of p o))
    (λ e. let more = rw e at h in absurd (omega (arith, more)))
    (λ e. rw e (none_with p s i n k os (rw e at h)))

-- ---- a pass over the items

mark_free : (m : ℕ) → m ≡ 0 → mark_says (Some m) ≡ None
mark_free zero e = refl
mark_free (suc m) e = absurd (omega (arith, e))

mark_held : (m : ℕ) → m ≢ 0 → mark_says (Some m) ≢ None
mark_held zero h e = h refl
mark_held (suc m) h e = cc

module _ (p : Puzzle) (s : Held) (i m : ℕ) (best new : Option (ℕ × ℕ)) (within : i < primary_count p)
    (mark : mark_says (Some m) ≡ s (i + 1))
  where
    abbrev count : Wanted → ℕ
    count = branch_count (left_by p s)

    abbrev least : ℕ → Option (ℕ × ℕ)
    least j = option_map (counted count) (first_least count (free_of_first p s j))

    pub past_free : IsOnce p → (n : ℕ) → m ≡ 0 → n ≡ length (holding (i + 1) (left_by p s).options)
        → best ≡ least i → new ≡ fewer best (i + 1, n) → new ≡ least (i + 1)
    past_free once n none many before is =
        let at = free_more p s i within (sym mark ∙ mark_free m none) in
        let w = at.0 in
        let low = (known p once w at.2).1 in
        let len : length (holding w.item (left_by p s).options) ≡ n =
        ap (λ j. length (holding j (left_by p s).options)) at.1 ∙ sym many in
        let here : counted count w ≡ (i + 1, n) = ap₂ (λ a b. (a, b)) at.1 (omega (arith, len, low)) in
        is ∙ ap₂ fewer before (sym here) ∙ sym (fewer_more count (free_of_first p s i) w)
        ∙ ap (λ ws. option_map (counted count) (first_least count ws)) (sym at.3)

    pub past_held : m ≢ 0 → best ≡ least i → new ≡ best → new ≡ least (i + 1)
    past_held held before is =
        let not_free : s (i + 1) ≢ None = λ e. mark_held m held (mark ∙ e) in
        is ∙ before
        ∙ ap (λ ws. option_map (counted count) (first_least count ws)) (sym (free_held p s i within not_free))

-- ---- a pass over the options of the branch item

pub more_than : (a b : ℕ) → is_le (nat_cmp a b) ≡ false → b < a
more_than a b h = by_bool (nat_lt a b) (λ e. absurd (no (rw e at h)))
    (λ e. by_bool (eqb a b) (λ f. absurd (no (rw (e, f) at h)))
    (λ f.
    let before = ltb-false a b e in
    let differ : a ≢ b = λ q. let t = eq-eqb a b q in cc (t, f) in
    omega (arith, before, differ)))
  where
    no : true ≡ false → ⊥
    no e = cc

module _ (p : Puzzle) (s : Held) (i n j : ℕ) (os : List ℕ) (k number : ℕ) (within : k < length os) where
  abbrev o : ℕ
  o = get_or os k 0

  abbrev behind_it : List (List Choice)
  behind_it = listing (left_by p (holding_uses (uses_of p o) s))

  abbrev from : ℕ → ℕ → ℕ → Option (List Choice)
  from j k number = numbered_get (members_with p s i n j (drop k os)) number

  -- the option does not agree
  pub at_none : agree s (uses_of p o) ≡ false → from j k number ≡ from j (k + 1) number
  at_none e = ap (λ ms. numbered_get ms number) (with_next p s i n j os k within ∙ rw e refl)

  at_one : agree s (uses_of p o) ≡ true
      → from j k number ≡ numbered_get (map (λ m. choice_of i n j o ∷ m) behind_it
      ++ members_with p s i n (j + 1) (drop (k + 1) os)) number
  at_one e = ap (λ ms. numbered_get ms number) (with_next p s i n j os k within ∙ rw e refl)

  -- the number is behind it
  pub at_taken : agree s (uses_of p o) ≡ true → number ≤ length behind_it
      → from j k number ≡ option_map (λ m. choice_of i n j o ∷ m) (numbered_get behind_it number)
  at_taken e h = at_one e ∙ number_within (λ m. choice_of i n j o ∷ m) behind_it
      (members_with p s i n (j + 1) (drop (k + 1) os)) number h

  -- it is behind it, or none, where no later option agrees
  pub at_last : agree s (uses_of p o) ≡ true → length (that_agree p s (drop (k + 1) os)) ≡ 0
      → from j k number ≡ option_map (λ m. choice_of i n j o ∷ m) (numbered_get behind_it number)
  at_last e h = at_one e
      ∙ ap (λ ms. numbered_get (map (λ m. choice_of i n j o ∷ m) behind_it ++ ms) number)
      (none_with p s i n (j + 1) (drop (k + 1) os) h)
      ∙ ap (λ ms. numbered_get ms number) (append-nil (map (λ m. choice_of i n j o ∷ m) behind_it))
      ∙ number_map (λ m. choice_of i n j o ∷ m) behind_it number

  -- it is past them
  pub at_passed : (left : ℕ) → agree s (uses_of p o) ≡ true → length behind_it < number
      → left + length behind_it ≡ number → from j k number ≡ from (j + 1) (k + 1) left
  at_passed left e h rest =
      let same : number - length behind_it ≡ left = omega (arith, rest) in
      at_one e ∙ number_past (λ m. choice_of i n j o ∷ m) behind_it
      (members_with p s i n (j + 1) (drop (k + 1) os)) number h ∙ ap (from (j + 1) (k + 1)) same

-- ---- down the branches

-- where no item is free there is one solution, with no choice
pub no_fork : (r : Residual) → option_map (counted (branch_count r)) (branch_item r) ≡ None → listing r ≡ [] ∷ []
no_fork r e = by_option (branch_item r) (λ q. listing_at r None q) (λ w q. absurd (no (rw q at e)))
  where
    no : {A : Type 0} {x : A} → Some x ≡ None → ⊥
    no q = cc

-- these choices before each solution
abbrev pub after : List Choice → Option (List Choice) → Option (List Choice)
after cs o = option_map (λ m. cs ++ m) o

pub after_none : (o : Option (List Choice)) → after [] o ≡ o
after_none None = refl
after_none (Some m) = refl

-- one choice more
pub after_more : (cs : List Choice) (c : Choice) (o : Option (List Choice))
    → after cs (option_map (λ m. c ∷ m) o) ≡ after (cs ++ c ∷ []) o
after_more cs c None = refl
after_more cs c (Some m) = ap Some (sym (append_assoc cs (c ∷ []) m))

pub greater_than : (a b : ℕ) → is_gt (nat_cmp a b) ≡ true → b < a
greater_than a b h = by_bool (nat_lt a b) (λ e. absurd (no (rw e at h)))
    (λ e. by_bool (eqb a b) (λ f. absurd (no (rw (e, f) at h)))
    (λ f.
    let before = ltb-false a b e in
    let differ : a ≢ b = λ q. let t = eq-eqb a b q in cc (t, f) in
    omega (arith, before, differ)))
  where
    no : false ≡ true → ⊥
    no e = cc

pub at_leaf : (cs : List Choice) (ms : List (List Choice)) (n : ℕ) → ms ≡ [] ∷ [] → n ≡ 1
    → after cs (numbered_get ms n) ≡ Some cs
at_leaf cs ms n e one = ap₂ (λ ms n. after cs (numbered_get ms n)) e one ∙ ap Some (append-nil cs)

pub past_leaf : (cs : List Choice) (ms : List (List Choice)) (n : ℕ) → ms ≡ [] ∷ [] → n ≢ 1
    → after cs (numbered_get ms n) ≡ None
past_leaf cs ms n e other = ap (λ ms. after cs (numbered_get ms n)) e ∙ ap (after cs) (number_one [] n other)
