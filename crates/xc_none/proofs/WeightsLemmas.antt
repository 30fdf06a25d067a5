-- Weights that show that a problem has no cover: each option taken has no more than what it is beyond 0, and a cover
-- has of each item what its bounds say.
use Rattle.std.proofs.Common.{ℕ, zero, suc, ◌≡◌, ◌≢◌, ◌≤◌, ◌<◌, ◌+◌, ◌*◌, Bool, true, false, cond, List, [], ◌∷◌}
use Rattle.std.proofs.Common.{refl, sym, ap, arith, subst, inl, inr, eqb, eqb-true, Some, None, Option}
use Rattle.std.proofs.Common.{length}
use Rattle.std.proofs.lemmas.Bool.Decides.{nat_tests}
use Rattle.std.specs.Prelude.{sum_by, count_by, is_some, slice_get, ◌==◌, ℤ}
use Rattle.std.specs.List.{AllByRecursion}
use Rattle.std.proofs.lemmas.List.Sums.{sum_by-cons}
use Rattle.std.proofs.lemmas.List.Elements.{All-contains, recursion_from_All}
use Rattle.xc_input.specs.declared.problem.Use.{Use}
use Rattle.xc_input.specs.Problem.{Puzzle, uses_of, colour_in, bounds_at, item_count, option_count}
use Rattle.xc_input.specs.Problem.{numbered_get, IsOption, IsSoundOption, IsSoundUse, IsValid}
use Rattle.xc_input.specs.Cover.{IsCover}
use Rattle.xc_none.specs.inner.Weights.{upto, gain_of, loss_of, limits_of, is_uncoloured, gains, losses, excess}
use Rattle.xc_none.specs.inner.Weights.{asks, allows}
use Rattle.xc_none.proofs.WeightsSets.{IsIn, by_bool, by_option, EachTwo, each_in, each_two_from_AllPairs, contains-in}
use Rattle.xc_none.proofs.WeightsSets.{sum_within, sum_le, sum_plus, sum_none, swap, times_more, part}

-- ======== Numbers from n down to 1.

pub upto_in : (n i : ℕ) → IsIn (upto n) i → (1 ≤ i) × (i ≤ n)
upto_in zero i h = absurd h
upto_in (suc n) i (inl e) = (omega (arith, e), omega (arith, e))
upto_in (suc n) i (inr k) = let before = upto_in n i k in (before.0, omega (arith, before.1))

pub in_upto : (n i : ℕ) → 1 ≤ i → i ≤ n → IsIn (upto n) i
in_upto zero i h k = absurd (omega (arith, h, k))
in_upto (suc n) i h k = by_bool (eqb (suc n) i)
    (λ e. inl (eqb-true (suc n) i e))
    (λ e. inr (in_upto n i h (less n i k e)))
  where
    less : (n i : ℕ) → i ≤ suc n → eqb (suc n) i ≡ false → i ≤ n
    less n i k e = grind (arith, nat_tests, k, e)

-- one number more
pub next : (f : ℕ → ℕ) (k : ℕ) → sum_by f (upto (k + 1)) ≡ f (k + 1) + sum_by f (upto k)
next f k =
    let e : k + 1 ≡ suc k = omega arith in
    subst (λ n. sum_by f (upto n) ≡ f n + sum_by f (upto k)) (sym e) (sum_by-cons f (suc k) (upto k))

-- ======== Sums over the uses of an option, and over the items.

-- a sum of one item's share
abbrev only : ℕ → (ℕ → ℕ) → ℕ → ℕ
only j f i = cond (j == i) (f i) 0

only_one : (j n : ℕ) (f : ℕ → ℕ) → sum_by (only j f) (upto n) ≤ f j
only_one j zero f = omega arith
only_one j (suc n) f = by_bool (eqb j (suc n))
    (λ e.
    let here : only j f (suc n) ≡ f (suc n) = rw e refl in
    let same : f j ≡ f (suc n) = ap f (eqb-true j (suc n) e) in
    let rest = none_left j n f (omega (arith, eqb-true j (suc n) e)) in
    omega (arith, here, same, rest, sum_by-cons (only j f) (suc n) (upto n)))
    (λ e.
    let here : only j f (suc n) ≡ 0 = rw e refl in
    omega (arith, here, only_one j n f, sum_by-cons (only j f) (suc n) (upto n)))
  where
    none_left : (j n : ℕ) (f : ℕ → ℕ) → n < j → sum_by (only j f) (upto n) ≡ 0
    none_left j zero f h = refl
    none_left j (suc n) f h =
        let not_here : eqb j (suc n) ≡ false = grind (arith, nat_tests) in
        let here : only j f (suc n) ≡ 0 = rw not_here refl in
        omega (arith, here, none_left j n f (omega (arith, h)), sum_by-cons (only j f) (suc n) (upto n))

only_there : (j n : ℕ) (f : ℕ → ℕ) → 1 ≤ j → j ≤ n → f j ≤ sum_by (only j f) (upto n)
only_there j zero f h k = absurd (omega (arith, h, k))
only_there j (suc n) f h k = by_bool (eqb j (suc n))
    (λ e.
    let here : only j f (suc n) ≡ f (suc n) = rw e refl in
    let same : f j ≡ f (suc n) = ap f (eqb-true j (suc n) e) in
    omega (arith, here, same, sum_by-cons (only j f) (suc n) (upto n)))
    (λ e.
    let less : j ≤ n = grind (arith, nat_tests, k, e) in
    omega (arith, only_there j n f h less, sum_by-cons (only j f) (suc n) (upto n)))

-- what items that an option holds give is no more than what it gains by its uses
abbrev share : (ℕ → ℕ) → List Use → ℕ → ℕ
share f us i = cond (is_some (colour_in us i)) (f i) 0

pub given_most : (ws : List ℤ) (n : ℕ) (us : List Use) → sum_by (share (gain_of ws) us) (upto n) ≤ gains ws us
given_most ws n [] =
    let none = sum_none (share (gain_of ws) []) (upto n) (λ i. refl) in
    omega (arith, none)
given_most ws n (u ∷ us) =
    let f : ℕ → ℕ = gain_of ws in
    let parts = sum_plus (only u.item f) (share f us) (λ i. only u.item f i + share f us i) (upto n) (λ i. refl) in
    let least = sum_le (share f (u ∷ us)) (λ i. only u.item f i + share f us i) (upto n)
    (λ i h. by_bool (u.item == i) (λ e. rw e (omega arith)) (λ e. rw e (omega arith))) in
    omega (arith, parts, least, only_one u.item n f, given_most ws n us, sum_by-cons (λ u. gain_of ws u.item) u us)

-- what an option loses by uses of distinct items is no more than what the items take
abbrev plain_share : (ℕ → ℕ) → List Use → ℕ → ℕ
plain_share f us i = cond (is_uncoloured (colour_in us i)) (f i) 0

absent : (us : List Use) (i : ℕ) → AllByRecursion (λ v. i ≢ v.item) us → colour_in us i ≡ None
absent [] i h = refl
absent (u ∷ us) i h = by_bool (u.item == i)
    (λ e. absurd (h.0 (sym (eqb-true u.item i e))))
    (λ e. rw e (absent us i h.1))

pub taken_most : (ws : List ℤ) (n : ℕ) (us : List Use)
    → AllByRecursion (λ u. (1 ≤ u.item) × (u.item ≤ n)) us → EachTwo (λ u v. u.item ≢ v.item) us
    → losses ws us ≤ sum_by (plain_share (loss_of ws) us) (upto n)
taken_most ws n [] a d = omega arith
taken_most ws n (u ∷ us) a d =
    let f : ℕ → ℕ = loss_of ws in
    let g : ℕ → ℕ = λ i. cond (u.colour == 0) (f i) 0 in
    let parts = sum_plus (only u.item g) (plain_share f us) (λ i. only u.item g i + plain_share f us i) (upto n)
    (λ i. refl) in
    let gone : colour_in us u.item ≡ None = absent us u.item d.0 in
    let most = sum_le (λ i. only u.item g i + plain_share f us i) (plain_share f (u ∷ us)) (upto n)
    (λ i h. by_bool (u.item == i)
    (λ e.
    let there : colour_in us i ≡ None = subst (λ j. colour_in us j ≡ None) (eqb-true u.item i e) gone in
    rw (e, there) (omega arith))
    (λ e. rw e (omega arith))) in
    omega (
      arith,
      parts,
      most,
      only_there u.item n g a.0.0 a.0.1,
      taken_most ws n us a.1 d.1,
      sum_by-cons (λ u. cond (u.colour == 0) (loss_of ws u.item) 0) u us,
    )

-- ======== Bounds.

not_got : {X : Type 0} (xs : List X) (k : ℕ) → slice_get xs k ≡ None → length xs ≤ k
not_got [] k e = omega arith
not_got (y ∷ ys) zero e = cc
not_got (y ∷ ys) (suc k) e = omega (arith, not_got ys k e)

beyond_all : {X : Type 0} (xs : List X) (i : ℕ) → 1 ≤ i → numbered_get xs i ≡ None → length xs < i
beyond_all xs zero h e = absurd (omega (arith, h))
beyond_all xs (suc k) h e = omega (arith, not_got xs k e)

-- ======== How many pass a test.

count_less : (q r : ℕ → Bool) (s : List ℕ) → ((o : ℕ) → q o ≡ true → r o ≡ true) → count_by q s ≤ count_by r s
count_less q r s h = sum_le (λ o. cond (q o) 1 0) (λ o. cond (r o) 1 0) s (λ o k. by_bool (q o)
    (λ e. rw (e, h o e) (omega arith))
    (λ e. rw e (omega arith)))

abbrev once : (ℕ → Bool) → ℕ → ℕ
once q x = cond (q x) 1 0

none_pass : (q : ℕ → Bool) (s : List ℕ) → ((o : ℕ) → IsIn s o → q o ≡ false) → count_by q s ≡ 0
none_pass q [] h = refl
none_pass q (a ∷ s) h =
    let none : once q a ≡ 0 = rw (h a (inl refl)) refl in
    omega (arith, none, none_pass q s (λ o k. h o (inr k)), sum_by-cons (λ o. cond (q o) 1 0) a s)

at_most_one : (q : ℕ → Bool) (s : List ℕ) → EachTwo (λ a b. a ≢ b) s
    → ((a b : ℕ) → IsIn s a → IsIn s b → a ≢ b → q a ≡ true → q b ≡ true → ⊥) → count_by q s ≤ 1
at_most_one q [] d h = omega arith
at_most_one q (a ∷ s) d h = by_bool (q a)
    (λ e.
    let one : once q a ≡ 1 = rw e refl in
    let rest = none_pass q s (λ o k. by_bool (q o)
    (λ g. absurd (h a o (inl refl) (inr k) (each_in (λ b. a ≢ b) s o d.0 k) e g)) (λ g. g)) in
    omega (arith, one, rest, sum_by-cons (λ o. cond (q o) 1 0) a s))
    (λ e.
    let none : once q a ≡ 0 = rw e refl in
    let rest = at_most_one q s d.1 (λ x y j k. h x y (inr j) (inr k)) in
    omega (arith, none, rest, sum_by-cons (λ o. cond (q o) 1 0) a s))

plain_is : (c : Option ℕ) → is_uncoloured c ≡ true → c ≡ Some 0
plain_is None e = cc
plain_is (Some c) e = ap (λ c. Some c) (eqb-true c 0 e)

-- ======== A cover.

abbrev does_hold : Puzzle → ℕ → ℕ → Bool
does_hold p o i = is_some (colour_in (uses_of p o) i)

abbrev does_plainly : Puzzle → ℕ → ℕ → Bool
does_plainly p o i = is_uncoloured (colour_in (uses_of p o) i)

plain_held : (p : Puzzle) (i o : ℕ) → does_plainly p o i ≡ true → does_hold p o i ≡ true
plain_held p i o e = rw (plain_is (colour_in (uses_of p o) i) e) refl

-- the uses of an option are sound
sound_at : (p : Puzzle) → IsValid p → (o : ℕ) → IsOption p o → IsSoundOption p (uses_of p o)
sound_at p v zero k = absurd (omega (arith, k.0))
sound_at p v (suc k) at = by_option (slice_get p.options k)
    (λ e. absurd (omega (arith, not_got p.options k e, at.1)))
    (λ us e. rw e
    (each_got (IsSoundOption p) p.options k us (recursion_from_All (IsSoundOption p) p.options v.options) e))
  where
    each_got : {X : Type 0} (P : X → Type 0) (xs : List X) (k : ℕ) (x : X) → AllByRecursion P xs
        → slice_get xs k ≡ Some x → P x
    each_got P [] k x a e = cc
    each_got P (y ∷ ys) zero x a e = let same : y ≡ x = cc in subst P same a.0
    each_got P (y ∷ ys) (suc k) x a e = each_got P ys k x a.1 e

items_of : (p : Puzzle) (us : List Use) → AllByRecursion (IsSoundUse p) us
    → AllByRecursion (λ u. (1 ≤ u.item) × (u.item ≤ item_count p)) us
items_of p [] a = tt
items_of p (u ∷ us) a = (a.0.0, items_of p us a.1)

module _ (p : Puzzle) (v : IsValid p) (s : List ℕ) (c : IsCover p s) where
  has_least : (i : ℕ) → (limits_of p i).low ≤ count_by (λ o. does_hold p o i) s
  has_least i = by_option (bounds_at p i) (λ e. rw e (omega arith)) (λ b e. rw e (c.within i b e).0)

  has_most : (i : ℕ) → 1 ≤ i → i ≤ item_count p → count_by (λ o. does_plainly p o i) s ≤ (limits_of p i).high
  has_most i h k = by_option (bounds_at p i)
      (λ e.
      let free = beyond_all p.bounds i h e in
      rw e (at_most_one (λ o. does_plainly p o i) s (each_two_from_AllPairs (λ a b. a ≢ b) s c.distinct)
      (λ a b j m ne x y.
      let so = c.agree a b i 0 0 (contains-in s a j) (contains-in s b m) ne (free, k)
      (plain_is (colour_in (uses_of p a) i) x) (plain_is (colour_in (uses_of p b) i) y) in
      absurd (omega (arith, so.1)))))
      (λ b e.
      let most = (c.within i b e).1 in
      rw e (omega (arith, most, count_less (λ o. does_plainly p o i) (λ o. does_hold p o i) s (plain_held p i))))

  -- THE WEIGHTS: a cover has what its items have at least, and no more than is lost, or beyond 0 in its options.
  pub weighed : (ws : List ℤ)
      → sum_by (asks ws p) (upto (item_count p))
      ≤ sum_by (allows ws p) (upto (item_count p)) + sum_by (excess ws p) (upto (option_count p))
  weighed ws =
      let n : ℕ = item_count p in
      let give : ℕ → ℕ = gain_of ws in
      let take : ℕ → ℕ = loss_of ws in
      let g : ℕ → ℕ = part (does_hold p) give (upto n) in
      let t : ℕ → ℕ = part (does_plainly p) take (upto n) in
      let f : ℕ → ℕ = excess ws p in
      let each = no_more g t f s (λ o h.
      let at : IsOption p o = All-contains (IsOption p) s o c.known (contains-in s o h) in
      let sound = sound_at p v o at in
      let us : List Use = uses_of p o in
      let items = items_of p us (recursion_from_All (IsSoundUse p) us sound.sound) in
      let distinct = each_two_from_AllPairs (λ (u v : Use). u.item ≢ v.item) us sound.distinct in
      omega (arith, given_most ws n us, taken_most ws n us items distinct)) in
      let all = sum_within f (upto (option_count p)) s (each_two_from_AllPairs (λ a b. a ≢ b) s c.distinct)
      (λ o h.
      let at : IsOption p o = All-contains (IsOption p) s o c.known (contains-in s o h) in
      in_upto (option_count p) o at.0 at.1) in
      let least = sum_le (asks ws p) (λ i. give i * count_by (λ o. does_hold p o i) s) (upto n)
      (λ i h. times_more (give i) (limits_of p i).low (count_by (λ o. does_hold p o i) s) (has_least i)) in
      let most = sum_le (λ i. take i * count_by (λ o. does_plainly p o i) s) (allows ws p) (upto n)
      (λ i h. times_more (take i) (count_by (λ o. does_plainly p o i) s) (limits_of p i).high
      (has_most i (upto_in n i h).0 (upto_in n i h).1)) in
      omega (arith, each, all, least, most, swap (does_hold p) give (upto n) s, swap (does_plainly p) take (upto n) s)
    where
      no_more : (g t f : ℕ → ℕ) (s : List ℕ) → ((o : ℕ) → IsIn s o → g o ≤ t o + f o)
          → sum_by g s ≤ sum_by t s + sum_by f s
      no_more g t f [] h = omega arith
      no_more g t f (o ∷ s) h =
          omega (
            arith,
            h o (inl refl),
            no_more g t f s (λ x k. h x (inr k)),
            sum_by-cons g o s,
            sum_by-cons t o s,
            sum_by-cons f o s,
          )
