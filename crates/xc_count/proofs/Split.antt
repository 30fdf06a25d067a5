-- The covers of what is left, by the option that a free item takes.
use Rattle.std.proofs.Common.{ℕ, ◌≡◌, ◌≤◌, ◌+◌, Bool, true, ◌&&◌, eqb, cond, List, [], ◌∷◌}
use Rattle.std.proofs.Common.{map, filter, take, refl, ap, ap₂, ◌∙◌, arith}
use Rattle.std.specs.Prelude.{is_none, sum_by}
use Rattle.std.specs.List.{AllByRecursion, enumerate_from}
use Rattle.std.proofs.lemmas.List.{take_all}
use Rattle.std.proofs.lemmas.List.Sums.{sum_by-append, sum_by-cons}
use Rattle.xc_input.specs.Problem.{Puzzle, Numbered, numbered_options, primary_count, holds, holding, IsValid}
use Rattle.xc_search.specs.Listing.{Wanted, Branch, whole, branch_count, pick}
use Rattle.xc_text.proofs.ListLemmas.{by_bool, filter_both, IsIn, in-filter, each_in, each_from}
use Rattle.xc_search.proofs.ListingLemmas.{proper_whole, takes, nones}
use Rattle.xc_search.specs.inner.Levels.{take_branch}
use Rattle.xc_search.proofs.AnyItem.{count, count_by_item}
use Rattle.xc_count.proofs.LeftBy.{AreOnce, proper_left, picked, given_up}
use Rattle.xc_count.specs.inner.Held.{Held, fits, left_by, holding_option, without_item, below}

-- ---- sums

pub sum-same : {X : Type 0} (f g : X → ℕ) (xs : List X) → AllByRecursion (λ x. f x ≡ g x) xs → sum_by f xs ≡ sum_by g xs
sum-same f g [] a = refl
sum-same f g (x ∷ xs) a = omega (arith, sum_by-cons f x xs, sum_by-cons g x xs, a.0, sum-same f g xs a.1)

pub sum-map : {X Y : Type 0} (f : Y → ℕ) (g : X → Y) (xs : List X) → sum_by f (map g xs) ≡ sum_by (λ x. f (g x)) xs
sum-map f g [] = refl
sum-map f g (x ∷ xs) =
    omega (arith, sum_by-cons f (g x) (map g xs), sum_by-cons (λ x. f (g x)) x xs, sum-map f g xs)

pub sum-enumerated : {X : Type 0} (f : X → ℕ) (k : ℕ) (xs : List X)
    → sum_by (λ (kx : ℕ × X). f kx.1) (enumerate_from k xs) ≡ sum_by f xs
sum-enumerated f k [] = refl
sum-enumerated {X = X} f k (x ∷ xs) =
    omega (
      arith,
      sum_by-cons (λ (kx : ℕ × X). f kx.1) (k, x) (enumerate_from (k + 1) xs),
      sum_by-cons f x xs,
      sum-enumerated f (k + 1) xs,
    )

pub sum-filter : {X : Type 0} (f : X → ℕ) (q : X → Bool) (xs : List X)
    → sum_by f (filter q xs) ≡ sum_by (λ x. cond (q x) (f x) 0) xs
sum-filter f q [] = refl
sum-filter f q (x ∷ xs) =
    let there = sum_by-cons (λ x. cond (q x) (f x) 0) x xs in
    by_bool (q x) (λ e. rw e (omega (arith, sum_by-cons f x (filter q xs), rw e at there, sum-filter f q xs)))
    (λ e. rw e (omega (arith, rw e at there, sum-filter f q xs)))

-- ---- an item that is free

-- how many covers there are with option x, if it fits and holds item i
abbrev pub with_this : Puzzle → Held → ℕ → Numbered → ℕ
with_this p s i x = cond (fits s x && holds x i) (below p (holding_option x s)) 0

-- those without the item, if it need not be held
abbrev pub with_none : Puzzle → Held → Wanted → ℕ
with_none p s w = cond (eqb w.low 0) (below p (without_item w.item s)) 0

module _ (p : Puzzle) (v : IsValid p) (once : AreOnce p) (s : Held) (w : Wanted)
    (known : IsIn (left_by p s).items w)
  where
    back : IsIn (whole p).items w × (is_none (s w.item) ≡ true)
    back = in-filter (λ z. is_none (s z.item)) (whole p).items w known

    sound : (w.item ≤ primary_count p) × (w.low ≤ 1)
    sound =
        let a = (proper_whole p v).sound w back.0 in
        let b = each_in (λ (z : Wanted). z.high ≡ 1) (whole p).items w once back.0 in
        (a.0, omega (arith, a.1, b))

    hs : List Numbered
    hs = holding w.item (left_by p s).options

    taken : sum_by (λ (b : Branch). count b.next) (takes (left_by p s) w)
        ≡ sum_by (with_this p s w.item) (numbered_options p)
    taken =
        let r = left_by p s in
        let n = branch_count r w in
        let all : take n (holding w.item r.options) ≡ holding w.item r.options =
        take_all n (holding w.item r.options) (omega (arith, sound.1)) in
        sum-map (λ (b : Branch). count b.next) (take_branch r w.item n)
        (enumerate_from 1 (take n (holding w.item r.options)))
        ∙ sum-enumerated (λ x. count (pick r w.item x)) 1 (take n (holding w.item r.options))
        ∙ ap (sum_by (λ x. count (pick r w.item x))) all
        ∙ sum-same (λ x. count (pick r w.item x)) (λ x. below p (holding_option x s)) (holding w.item r.options)
        (each_from _ _ (λ x h.
        let at = in-filter (λ o. holds o w.item) r.options x h in
        ap count (picked p v once s w.item x at.0 sound.0 at.1)))
        ∙ ap (sum_by (λ x. below p (holding_option x s))) (filter_both (λ o. holds o w.item) (fits s)
        (numbered_options p))
        ∙ sum-filter (λ x. below p (holding_option x s)) (λ x. fits s x && holds x w.item) (numbered_options p)

    left_out : sum_by (λ (b : Branch). count b.next) (nones (left_by p s) w) ≡ with_none p s w
    left_out = by_bool (eqb w.low 0)
        (λ e. rw e (omega (arith, ap count (given_up p v s w.item sound.0))))
        (λ e. rw e refl)

    -- THE SPLIT
    pub below_split : below p s ≡ sum_by (with_this p s w.item) (numbered_options p) + with_none p s w
    below_split =
        count_by_item (primary_count p) (left_by p s) w (proper_left p v s) known
        ∙ sum_by-append (λ (b : Branch). count b.next) (takes (left_by p s) w) (nones (left_by p s) w)
        ∙ ap₂ (λ a b. a + b) taken left_out
