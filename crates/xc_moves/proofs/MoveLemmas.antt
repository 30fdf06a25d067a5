-- The options of a problem, the lists after moves, numbers that rise, and items purified.
use Rattle.std.proofs.Common.{◌≡◌, ℕ, ◌<◌, true, List, [], ◌∷◌, arith, eqb-true, zero, suc, ◌+◌, ◌≤◌, Bool, false, cond}
use Rattle.std.proofs.Common.{ltb, length, map, Some, None, filter, refl, ap, ltb-true, ltb-false, lt-ltb, le-ltb, drop}
use Rattle.std.proofs.Common.{length-drop, get_or}
use Rattle.std.specs.Prelude.{is_some, slice_get}
use Rattle.std.specs.List.{AllByRecursion, range_with_len}
use Rattle.std.proofs.lemmas.Bool.{false≢true, cond_both}
use Rattle.xc_input.specs.Problem.{Puzzle, uses_of, colour_in, Numbered, numbered_options, option_count, primary_count}
use Rattle.xc_input.specs.Problem.{holds, holding}
use Rattle.xc_text.proofs.ListLemmas.{each-map, each_weaker, length-filter-le, by_option, slice_get-drop, drop_one}
use Rattle.xc_text.proofs.ListLemmas.{each-filter, each_both, each_passes}
use Rattle.xc_moves.specs.Places.{is_in}
use Rattle.xc_moves.specs.declared.dance.Move.{Move}
use Rattle.xc_moves.specs.Moves.{listed_numbers, AreLegal, IsOpenPrimary, listed, next_above, is_open, open_items}
use Rattle.xc_moves.specs.Moves.{purified}
use Rattle.std.proofs.lemmas.Option.{slice_get_within}
use Rattle.xc_input.specs.declared.problem.Use.{Use}
use Rattle.xc_input.proofs.OptionLemmas.{numbered_from}
use Rattle.xc_moves.specs.declared.dance.Move.TheVariants.{Cover, Purify, Tweak, Spend}
use Rattle.xc_moves.specs.inner.Uses.{has_use}
pub use Rattle.xc_moves.specs.inner.Rising.{Rises}

-- ======== Lists after moves, numbers that rise, and items purified.

pub length-numbered_from : (n : ℕ) (os : List (List Use)) → length (numbered_from n os) ≡ length os
length-numbered_from n [] = refl
length-numbered_from n (us ∷ os) = ap suc (length-numbered_from (n + 1) os)

abbrev pub numbers : List Numbered → List ℕ
numbers os = map (λ o. o.number) os

-- what holds of both branches
pub by_test : {X : Type 0} (P : X → Type 0) (b : Bool) {x y : X} → P x → P y → P (cond b x y)
by_test P true h k = h
by_test P false h k = k

-- what holds of all options that hold an item, and then of what a filter or a drop of the first leaves, holds of the
-- item's list after any moves
module _ (P : List Numbered → Type 0) (p : Puzzle) (i : ℕ) (first : P (holding i (numbered_options p)))
    (filtered : (q : Numbered → Bool) (xs : List Numbered) → P xs → P (filter q xs))
    (dropped : (xs : List Numbered) → P xs → P (drop 1 xs)) where
  pub each_listed : (t : List Move) → P (listed p t i)
  each_listed [] = first
  each_listed (Cover j ∷ t) = grind (arith, by_test, is_open, listed, each_listed t)
  each_listed (Purify j c ∷ t) = grind (arith, by_test, is_open, listed, each_listed t)
  each_listed (Tweak j ∷ t) = grind (arith, cond_both, listed, eqb-true, dropped, by_test, is_open, each_listed t)
  each_listed (Spend j ∷ t) = each_listed t

-- no list is longer than all options
pub length-listed : (p : Puzzle) (t : List Move) (i : ℕ) → length (listed p t i) ≤ option_count p
length-listed p t i = each_listed (λ xs. length xs ≤ option_count p) p i
    (omega (arith, length-filter-le (λ o. holds o i) (numbered_options p), length-numbered_from 1 p.options))
    (λ q xs h. omega (arith, h, length-filter-le q xs)) (λ xs h. omega (arith, h, length-drop 1 xs)) t

-- ---- numbers that rise

pub Rises-weaker : (m n : ℕ) (xs : List ℕ) → m ≤ n → Rises n xs → Rises m xs
Rises-weaker m n [] h r = tt
Rises-weaker m n (x ∷ xs) h r = (omega (arith, r.0), r.1)

pub Rises-filter : (p : ℕ → Bool) (n : ℕ) (xs : List ℕ) → Rises n xs → Rises n (filter p xs)
Rises-filter p n [] r = tt
Rises-filter p n (x ∷ xs) r = grind (arith, Rises-filter p x xs r.1, Rises-weaker)

pub Rises-range : (a n : ℕ) → Rises a (range_with_len (a + 1) n)
Rises-range a zero = tt
Rises-range a (suc n) = (omega arith, Rises-range (a + 1) n)

-- a number among them is higher than the start
pub in_above : (n x : ℕ) (xs : List ℕ) → Rises n xs → is_in x xs ≡ true → n < x
in_above n x [] r e = absurd (false≢true e)
in_above n x (y ∷ ys) r e = grind (arith, eqb-true, in_above y x ys r.1)

pub above : (n : ℕ) (xs : List ℕ) (k : ℕ) → Rises n xs → k < length xs → n < get_or xs k 0
above n [] k r lt = absurd (omega (arith, lt))
above n (y ∷ ys) zero r lt = r.0
above n (y ∷ ys) (suc k) r lt = let later = above y ys k r.1 (omega (arith, lt)) in omega (arith, r.0, later)

-- numbers that rise from n are all above n
pub above_all : (n : ℕ) (xs : List ℕ) → Rises n xs → filter (λ k. ltb n k) xs ≡ xs
above_all n [] r = refl
above_all n (x ∷ xs) r = grind (arith, Rises-weaker, above_all n xs, lt-ltb)

pub next_above-gt : (n k : ℕ) (xs : List ℕ) → next_above n xs ≡ Some k → n < k
next_above-gt n k [] e = cc
next_above-gt n k (x ∷ xs) e = grind (arith, ltb-true, next_above-gt n k xs)

-- the numbers above n begin with the next one
pub next_above-split : (m n k : ℕ) (xs : List ℕ) → Rises m xs → next_above n xs ≡ Some k
    → filter (λ j. ltb n j) xs ≡ k ∷ filter (λ j. ltb k j) xs
next_above-split m n k [] r e = cc
next_above-split m n k (x ∷ xs) r e =
    let rest = next_above-split x n k xs r.1 in
    grind (arith, Rises-weaker, above_all, le-ltb, ltb-false, ltb-true, next_above-gt, above_all x xs r.1)

pub next_above-none : (n : ℕ) (xs : List ℕ) → next_above n xs ≡ None → filter (λ j. ltb n j) xs ≡ []
next_above-none n [] e = refl
next_above-none n (x ∷ xs) e = let rest = next_above-none n xs in grind arith

-- a number that is found among the open items from a on
pub found_open : (t : List Move) (n k a len : ℕ)
    → next_above n (filter (λ i. is_open i t) (range_with_len a len)) ≡ Some k → (a ≤ k) × (k < a + len)
    × (is_open k t ≡ true)
found_open t n k a zero e = cc
found_open t n k a (suc len) e = let rest = found_open t n k (a + 1) len in grind arith

-- the next open item is an open primary item
pub next_above-open : (p : Puzzle) (t : List Move) (n k : ℕ) → next_above n (open_items p t) ≡ Some k
    → IsOpenPrimary p t k
next_above-open p t n k e = grind (arith, found_open t n k 1 (primary_count p) e)

-- ---- items purified

-- only a secondary item is purified
pub purified_second : (p : Puzzle) (j d : ℕ) (t : List Move) → AreLegal p t → purified j t ≡ Some d
    → primary_count p < j
purified_second p j d [] l q = cc
purified_second p j d (m ∷ t) l q = grind (arith, purified_second p j d t, eqb-true)

pub primary_pure : (p : Puzzle) (j : ℕ) (t : List Move) → AreLegal p t → j ≤ primary_count p → purified j t ≡ None
primary_pure p j t l h = grind (arith, by_option, purified_second)

-- ======== The options of a problem with their numbers, which rise from 1.

pub rises_filter : (p : Numbered → Bool) (n : ℕ) (os : List Numbered) → Rises n (numbers os)
    → Rises n (numbers (filter p os))
rises_filter p n [] r = grind (arith, Rises-weaker)
rises_filter p n (o ∷ os) r = grind (arith, Rises-weaker, rises_filter p o.number os r.1)

pub rises_from : (n : ℕ) (os : List (List Use)) → Rises n (numbers (numbered_from (n + 1) os))
rises_from n [] = tt
rises_from n (us ∷ os) = (omega arith, rises_from (n + 1) os)

pub options_rise : (p : Puzzle) → Rises 0 (numbers (numbered_options p))
options_rise p = rises_from 0 p.options

-- an option that has a use is one of the problem
pub known_option : (p : Puzzle) (o i : ℕ) → has_use (uses_of p o) i ≡ true → (1 ≤ o) × (o ≤ option_count p)
known_option p o i used = grind (arith, slice_get_within)

-- the option of this number has these uses
abbrev pub IsOption : Puzzle → Numbered → Type 0
IsOption p o = (0 < o.number) × (uses_of p o.number ≡ o.uses)

uses_from : (p : Puzzle) (n : ℕ) (os : List (List Use)) → drop n p.options ≡ os
    → AllByRecursion (IsOption p) (numbered_from (n + 1) os)
uses_from p n [] at = tt
uses_from p n (us ∷ os) at = grind (arith, slice_get-drop, drop_one, uses_from p (n + 1) os)

pub options_numbered : (p : Puzzle) → AllByRecursion (IsOption p) (numbered_options p)
options_numbered p = uses_from p 0 p.options refl

-- ======== The lists after moves: what holds of each option of a list.

-- it is an option of the problem that holds item i
abbrev pub IsHolder : Puzzle → ℕ → Numbered → Type 0
IsHolder p i x = (uses_of p x.number ≡ x.uses) × (has_use x.uses i ≡ true)

pub holds_use : (us : List Use) (i : ℕ) → is_some (colour_in us i) ≡ has_use us i
holds_use [] i = grind arith
holds_use (u ∷ us) i = grind (arith, holds_use us i)

pub holders : (p : Puzzle) (t : List Move) (i : ℕ) → AllByRecursion (IsHolder p i) (listed p t i)
holders p t i = each_listed (AllByRecursion (IsHolder p i)) p i
    (grind (arith, each_both, holds_use, each_passes, each-filter, options_numbered))
    (λ q xs h. each-filter (IsHolder p i) q xs h) (λ xs h. grind arith) t

-- ---- the lists rise

pub rises_listed : (p : Puzzle) (t : List Move) (i : ℕ) → Rises 0 (listed_numbers p t i)
rises_listed p t i = each_listed (λ os. Rises 0 (numbers os)) p i (rises_filter _ 0 _ (options_rise p))
    (λ q xs r. rises_filter q 0 xs r) (λ xs r. grind (arith, Rises-weaker)) t

-- ---- the numbers of a list are of options that hold the item

abbrev pub Named : Puzzle → ℕ → ℕ → Type 0
Named p j x = is_some (colour_in (uses_of p x) j) ≡ true

pub element_of : (P : ℕ → Type 0) (x : ℕ) (xs : List ℕ) → AllByRecursion P xs → is_in x xs ≡ true → P x
element_of P x [] a e = absurd (false≢true e)
element_of P x (y ∷ ys) a e = grind (arith, eqb-true, element_of P x ys a.1)

pub numbers_named : (p : Puzzle) (t : List Move) (j : ℕ) → AllByRecursion (Named p j) (listed_numbers p t j)
numbers_named p t j = grind (arith, each-map, each_weaker, holders, holds_use)

-- ======== The next number in a list that rises, by its place.

pub next_first : (n : ℕ) (xs : List ℕ) → Rises n xs → next_above n xs ≡ slice_get xs 0
next_first n [] r = refl
next_first n (x ∷ xs) r = rw (lt-ltb n x r.0) refl

-- behind a number that was found
pub next_found : (n : ℕ) (xs : List ℕ) (k : ℕ) → Rises n xs → k < length xs
    → next_above (get_or xs k 0) xs ≡ slice_get xs (suc k)
next_found n [] k r lt = refl
next_found n (x ∷ xs) zero r lt = grind (arith, le-ltb, next_first x xs r.1)
next_found n (x ∷ xs) (suc k) r lt = grind (arith, above x xs k r.1, le-ltb, next_found x xs k r.1)

-- at the place where a number would stand
pub next_at : (o : ℕ) (xs : List ℕ) (k : ℕ) → ((m : ℕ) → m < k → get_or xs m 0 < o)
    → ((m : ℕ) → k ≤ m → m < length xs → o < get_or xs m 0) → k ≤ length xs → next_above o xs ≡ slice_get xs k
next_at o [] k below above le = refl
next_at o (x ∷ xs) zero below above le = rw (lt-ltb o x (above 0 (omega arith) (omega arith))) refl
next_at o (x ∷ xs) (suc k) below above le =
    rw (le-ltb o x (omega (arith, below 0 (omega arith)))) (next_at o xs k (λ m lt. below (suc m) (omega (arith, lt)))
    (λ m ge lt. above (suc m) (omega (arith, ge)) (omega (arith, lt))) (omega (arith, le)))
