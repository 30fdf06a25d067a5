-- What each cover costs at least, by prices of items.
use Rattle.std.proofs.Common.{ℕ, zero, suc, ◌≡◌, ◌≢◌, ◌≤◌, ◌<◌, ◌+◌, ◌-◌, ◌*◌, Bool, true, false, cond, List, [], ◌∷◌}
use Rattle.std.proofs.Common.{refl, sym, ap, ◌∙◌, arith, subst, inl, inr, eqb, eqb-true, Some, None, Option, length}
use Rattle.std.proofs.Common.{get_or}
use Rattle.std.specs.Prelude.{sum_by, count_by, is_some, slice_get, ℤ, pos, negsuc, ◌+ℤ◌, ◌≤ℤ◌}
use Rattle.std.proofs.lemmas.Int.{ints}
use Rattle.std.proofs.lemmas.Bool.Decides.{nat_tests}
use Rattle.std.proofs.lemmas.List.Sums.{sum_by-cons}
use Rattle.std.proofs.lemmas.List.Elements.{All-contains}
use Rattle.xc_input.specs.declared.problem.Bounds.{Bounds}
use Rattle.xc_input.specs.declared.problem.Use.{Use}
use Rattle.xc_input.specs.Problem.{Puzzle, uses_of, colour_in, bounds_at, item_count, option_count, numbered_get}
use Rattle.xc_input.specs.Problem.{IsOption}
use Rattle.xc_input.specs.Cover.{IsCover}
use Rattle.xc_text.proofs.ListLemmas.{IsIn, by_bool, by_option, EachTwo, each_in, each_two_from_AllPairs, contains-in}
use Rattle.xc_least.specs.Least.{cost_at, total_cost}
use Rattle.xc_least.specs.declared.priced.Price.{Price}
use Rattle.xc_least.specs.inner.Prices.{up_to, price_of, bounds_or_once, has_no_colour}
use Rattle.xc_least.specs.inner.Prices.{part_above, part_below, over_at, under_at}
use Rattle.xc_least.specs.inner.Prices.{given_at_least, taken_at_most, over_of, under_of}
use Rattle.xc_least.specs.inner.Regions.{surplus_at}
use Rattle.std.proofs.Common.{◌++◌, length-append}
use Rattle.std.proofs.Math.ListN.{get_or-append}
use Rattle.std.proofs.Math.Seq.{get_or-append_seam}
use Rattle.xc_least.proofs.SetLemmas.{in_up_to, sum_within}

-- ======== Sums.

pub sum_plus : (a b g : ℕ → ℕ) (is : List ℕ) → ((i : ℕ) → g i ≡ a i + b i) → sum_by g is ≡ sum_by a is + sum_by b is
sum_plus a b g [] h = refl
sum_plus a b g (i ∷ is) h =
    omega (arith, h i, sum_plus a b g is h, sum_by-cons g i is, sum_by-cons a i is, sum_by-cons b i is)

pub sum_le : (a b : ℕ → ℕ) (is : List ℕ) → ((i : ℕ) → IsIn is i → a i ≤ b i) → sum_by a is ≤ sum_by b is
sum_le a b [] h = omega arith
sum_le a b (i ∷ is) h =
    omega (arith, h i (inl refl), sum_le a b is (λ j k. h j (inr k)), sum_by-cons a i is, sum_by-cons b i is)

pub sum_none : (g : ℕ → ℕ) (is : List ℕ) → ((i : ℕ) → g i ≡ 0) → sum_by g is ≡ 0
sum_none g [] h = refl
sum_none g (i ∷ is) h = omega (arith, h i, sum_none g is h, sum_by-cons g i is)

-- the weights of the items that an option holds, of these items
abbrev pub part : (ℕ → ℕ → Bool) → (ℕ → ℕ) → List ℕ → ℕ → ℕ
part h w is o = sum_by (λ i. cond (h o i) (w i) 0) is

once_more : (w n : ℕ) (b : Bool) → w * (cond b 1 0 + n) ≡ cond b w 0 + w * n
once_more w n true = omega arith
once_more w n false = omega arith

-- by options, or by items
pub swap : (h : ℕ → ℕ → Bool) (w : ℕ → ℕ) (is s : List ℕ)
    → sum_by (part h w is) s ≡ sum_by (λ i. w i * count_by (λ o. h o i) s) is
swap h w is [] = sym (sum_none (λ i. w i * count_by (λ o. h o i) []) is (λ i. omega arith))
swap h w is (o ∷ s) =
    let more = sum_plus (λ i. cond (h o i) (w i) 0) (λ i. w i * count_by (λ o. h o i) s)
    (λ i. w i * count_by (λ o. h o i) (o ∷ s)) is
    (λ i. ap (λ n. w i * n) (sum_by-cons (λ x. cond (h x i) 1 0) o s)
    ∙ once_more (w i) (count_by (λ o. h o i) s) (h o i)) in
    omega (arith, more, swap h w is s, sum_by-cons (part h w is) o s)

pub times_more : (w a b : ℕ) → a ≤ b → w * a ≤ w * b
times_more zero a b h = omega arith
times_more (suc w) a b h = omega (arith, h, times_more w a b h)

-- ======== Numbers from n down to 1.

pub up_to_in : (n i : ℕ) → IsIn (up_to n) i → (1 ≤ i) × (i ≤ n)
up_to_in zero i h = absurd h
up_to_in (suc n) i (inl e) = (omega (arith, e), omega (arith, e))
up_to_in (suc n) i (inr k) = let before = up_to_in n i k in (before.0, omega (arith, before.1))

-- one number more
pub next : (f : ℕ → ℕ) (k : ℕ) → sum_by f (up_to (k + 1)) ≡ f (k + 1) + sum_by f (up_to k)
next f k =
    let e : k + 1 ≡ suc k = omega arith in
    subst (λ n. sum_by f (up_to n) ≡ f n + sum_by f (up_to k)) (sym e) (sum_by-cons f (suc k) (up_to k))

-- ======== Bounds.

got : {X : Type 0} (xs : List X) (k : ℕ) (x d : X) → slice_get xs k ≡ Some x → get_or xs k d ≡ x
got [] k x d e = cc
got (y ∷ ys) zero x d e = cc
got (y ∷ ys) (suc k) x d e = got ys k x d e

not_got : {X : Type 0} (xs : List X) (k : ℕ) (d : X) → slice_get xs k ≡ None → (get_or xs k d ≡ d) × (length xs ≤ k)
not_got [] k d e = (refl, omega arith)
not_got (y ∷ ys) zero d e = cc
not_got (y ∷ ys) (suc k) d e = let later = not_got ys k d e in (later.0, omega (arith, later.1))

less_suc : (k : ℕ) → suc k - 1 ≡ k
less_suc k = omega arith

limits_known : (bs : List Bounds) (i : ℕ) (b : Bounds) → numbered_get bs i ≡ Some b → bounds_or_once bs i ≡ b
limits_known bs zero b e = cc
limits_known bs (suc k) b e =
    subst (λ j. get_or bs j (record { low = 0; high = 1 }) ≡ b) (sym (less_suc k))
    (got bs k b (record { low = 0; high = 1 }) e)

limits_free : (bs : List Bounds) (i : ℕ) → 1 ≤ i → numbered_get bs i ≡ None
    → (bounds_or_once bs i ≡ record { low = 0; high = 1 }) × (length bs < i)
limits_free bs zero h e = absurd (omega (arith, h))
limits_free bs (suc k) h e =
    let d : Bounds = record { low = 0; high = 1 } in
    let n = not_got bs k d e in
    (subst (λ j. get_or bs j d ≡ d) (sym (less_suc k)) n.0, omega (arith, n.1))

-- ======== How many pass a test.

count_less : (q r : ℕ → Bool) (s : List ℕ) → ((o : ℕ) → q o ≡ true → r o ≡ true) → count_by q s ≤ count_by r s
count_less q r s h = sum_le (λ o. cond (q o) 1 0) (λ o. cond (r o) 1 0) s (λ o k. by_bool (q o)
    (λ e. rw (e, h o e) (omega arith))
    (λ e. rw e (omega arith)))

abbrev once : (ℕ → Bool) → ℕ → ℕ
once q x = cond (q x) 1 0

none_pass : (q : ℕ → Bool) (s : List ℕ) → ((o : ℕ) → IsIn s o → q o ≡ false) → count_by q s ≡ 0
none_pass q [] h = refl
none_pass q (a ∷ s) h =
    let none : once q a ≡ 0 = rw (h a (inl refl)) refl in
    omega (arith, none, none_pass q s (λ o k. h o (inr k)), sum_by-cons (λ o. cond (q o) 1 0) a s)

at_most_one : (q : ℕ → Bool) (s : List ℕ) → EachTwo (λ a b. a ≢ b) s
    → ((a b : ℕ) → IsIn s a → IsIn s b → a ≢ b → q a ≡ true → q b ≡ true → ⊥) → count_by q s ≤ 1
at_most_one q [] d h = omega arith
at_most_one q (a ∷ s) d h = by_bool (q a)
    (λ e.
    let one : once q a ≡ 1 = rw e refl in
    let rest = none_pass q s (λ o k. by_bool (q o)
    (λ g. absurd (h a o (inl refl) (inr k) (each_in (λ b. a ≢ b) s o d.0 k) e g)) (λ g. g)) in
    omega (arith, one, rest, sum_by-cons (λ o. cond (q o) 1 0) a s))
    (λ e.
    let none : once q a ≡ 0 = rw e refl in
    let rest = at_most_one q s d.1 (λ x y j k. h x y (inr j) (inr k)) in
    omega (arith, none, rest, sum_by-cons (λ o. cond (q o) 1 0) a s))

plain_is : (c : Option ℕ) → has_no_colour c ≡ true → c ≡ Some 0
plain_is None e = cc
plain_is (Some c) e = ap (λ c. Some c) (eqb-true c 0 e)

-- ======== A cover.

abbrev does_hold : Puzzle → ℕ → ℕ → Bool
does_hold p o i = is_some (colour_in (uses_of p o) i)

abbrev does_plainly : Puzzle → ℕ → ℕ → Bool
does_plainly p o i = has_no_colour (colour_in (uses_of p o) i)

plain_held : (p : Puzzle) (i o : ℕ) → does_plainly p o i ≡ true → does_hold p o i ≡ true
plain_held p i o e = rw (plain_is (colour_in (uses_of p o) i) e) refl

module _ (p : Puzzle) (s : List ℕ) (c : IsCover p s) where
  pub has_least : (i : ℕ) → 1 ≤ i → (bounds_or_once p.bounds i).low ≤ count_by (λ o. does_hold p o i) s
  has_least i h = by_option (bounds_at p i)
      (λ e. rw (limits_free p.bounds i h e).0 (omega arith))
      (λ b e. rw (limits_known p.bounds i b e) (c.within i b e).0)

  pub has_most : (i : ℕ) → 1 ≤ i → i ≤ item_count p
      → count_by (λ o. does_plainly p o i) s ≤ (bounds_or_once p.bounds i).high
  has_most i h k = by_option (bounds_at p i)
      (λ e.
      let free = limits_free p.bounds i h e in
      rw free.0 (at_most_one (λ o. does_plainly p o i) s (each_two_from_AllPairs (λ a b. a ≢ b) s c.distinct)
      (λ a b j m ne x y.
      let so = c.agree a b i 0 0 (contains-in s a j) (contains-in s b m) ne (free.1, k)
      (plain_is (colour_in (uses_of p a) i) x) (plain_is (colour_in (uses_of p b) i) y) in
      absurd (omega (arith, so.1)))))
      (λ b e.
      let most = (c.within i b e).1 in
      rw (limits_known p.bounds i b e)
      (omega (arith, most, count_less (λ o. does_plainly p o i) (λ o. does_hold p o i) s (plain_held p i))))

-- ---- signed costs

in_parts : (z : ℤ) → (z +ℤ pos (part_below z)) ≡ pos (part_above z)
in_parts (pos n) = omega (arith, ints)
in_parts (negsuc n) = omega (arith, ints)

-- what options cost, in two parts
pub cost_in_parts : (costs : List ℤ) (s : List ℕ)
    → (total_cost costs s +ℤ pos (sum_by (λ o. part_below (cost_at costs o)) s))
    ≡ pos (sum_by (λ o. part_above (cost_at costs o)) s)
cost_in_parts costs [] = refl
cost_in_parts costs (o ∷ s) =
    omega (
      arith,
      ints,
      in_parts (cost_at costs o),
      cost_in_parts costs s,
      sum_by-cons (λ o. part_below (cost_at costs o)) o s,
      sum_by-cons (λ o. part_above (cost_at costs o)) o s,
    )

six : (a b c d e g : ℕ → ℕ) (s : List ℕ) → ((o : ℕ) → a o + b o + c o ≡ d o + e o + g o)
    → sum_by a s + sum_by b s + sum_by c s ≡ sum_by d s + sum_by e s + sum_by g s
six a b c d e g [] h = refl
six a b c d e g (o ∷ s) h =
    omega (
      arith,
      h o,
      six a b c d e g s h,
      sum_by-cons a o s,
      sum_by-cons b o s,
      sum_by-cons c o s,
      sum_by-cons d o s,
      sum_by-cons e o s,
      sum_by-cons g o s,
    )

module _ (p : Puzzle) (s : List ℕ) (c : IsCover p s) (costs : List ℤ) (ws : List Price) where
  -- A cover costs at least its surplus and what its items are given, less what they take at most, and less what all
  -- options cost less than the prices of their items.
  pub priced : (n m : ℕ) → n ≡ item_count p → m ≡ option_count p
      → (pos (sum_by (given_at_least ws p.bounds) (up_to n)) +ℤ pos (sum_by (over_at p costs ws) s))
      ≤ℤ (total_cost costs s +ℤ pos (sum_by (taken_at_most ws p.bounds) (up_to n))
      +ℤ pos (sum_by (under_at p costs ws) (up_to m)))
  priced n m e g =
      let give : ℕ → ℕ = λ i. (price_of ws i).give in
      let take : ℕ → ℕ = λ i. (price_of ws i).take in
      let is : List ℕ = up_to (item_count p) in
      let f : ℕ → ℕ = over_at p costs ws in
      let u : ℕ → ℕ = under_at p costs ws in
      let up : ℕ → ℕ = λ o. part_above (cost_at costs o) in
      let dn : ℕ → ℕ = λ o. part_below (cost_at costs o) in
      let gp : ℕ → ℕ = part (does_hold p) give is in
      let tp : ℕ → ℕ = part (does_plainly p) take is in
      let sums = six f dn gp u up tp s (λ o. balance (up o) (tp o) (dn o) (gp o)) in
      let all = sum_within u (up_to (option_count p)) s (each_two_from_AllPairs (λ a b. a ≢ b) s c.distinct)
      (λ o h.
      let at : IsOption p o = All-contains (IsOption p) s o c.known (contains-in s o h) in
      in_up_to (option_count p) o at.0 at.1) in
      let least = sum_le (given_at_least ws p.bounds) (λ i. give i * count_by (λ o. does_hold p o i) s) is
      (λ i h. times_more (give i) (bounds_or_once p.bounds i).low (count_by (λ o. does_hold p o i) s)
      (has_least p s c i (up_to_in (item_count p) i h).0)) in
      let most = sum_le (λ i. take i * count_by (λ o. does_plainly p o i) s) (taken_at_most ws p.bounds) is
      (λ i h. times_more (take i) (count_by (λ o. does_plainly p o i) s) (bounds_or_once p.bounds i).high
      (has_most p s c i (up_to_in (item_count p) i h).0 (up_to_in (item_count p) i h).1)) in
      let nat : sum_by (given_at_least ws p.bounds) is + sum_by f s + sum_by dn s
      ≤ sum_by up s + sum_by (taken_at_most ws p.bounds) is + sum_by u (up_to (option_count p)) =
      omega (arith, sums, all, least, most, swap (does_hold p) give is s, swap (does_plainly p) take is s) in
      rw (e, g) (signed (total_cost costs s) (sum_by dn s) (sum_by up s) (sum_by (given_at_least ws p.bounds) is)
      (sum_by f s)
      (sum_by (taken_at_most ws p.bounds) is) (sum_by u (up_to (option_count p))) (cost_in_parts costs s) nat)
    where
      balance : (a t b g : ℕ) → ((a + t) - (b + g)) + b + g ≡ ((b + g) - (a + t)) + a + t
      balance a t b g = omega arith

      signed : (z : ℤ) (d a k f t u : ℕ) → (z +ℤ pos d) ≡ pos a → k + f + d ≤ a + t + u
          → (pos k +ℤ pos f) ≤ℤ (z +ℤ pos t +ℤ pos u)
      signed z d a k f t u e h = omega (arith, ints, e, h)

-- ======== Surpluses of one option more.

pub over_known : (p : Puzzle) (costs : List ℤ) (ws : List Price) (x n : ℕ) (z : ℤ) (us : List Use) (o : ℕ)
    → x ≡ over_of ws n z us → n ≡ item_count p → z ≡ cost_at costs o → us ≡ uses_of p o → x ≡ over_at p costs ws o
over_known p costs ws x n z us o e a b d =
    e ∙ ap (λ n. over_of ws n z us) a ∙ ap (λ z. over_of ws (item_count p) z us) b
    ∙ ap (λ us. over_of ws (item_count p) (cost_at costs o) us) d

pub under_known : (p : Puzzle) (costs : List ℤ) (ws : List Price) (x n : ℕ) (z : ℤ) (us : List Use) (o : ℕ)
    → x ≡ under_of ws n z us → n ≡ item_count p → z ≡ cost_at costs o → us ≡ uses_of p o → x ≡ under_at p costs ws o
under_known p costs ws x n z us o e a b d =
    e ∙ ap (λ n. under_of ws n z us) a ∙ ap (λ z. under_of ws (item_count p) z us) b
    ∙ ap (λ us. under_of ws (item_count p) (cost_at costs o) us) d

pub pushed : (f : ℕ → ℕ) (xs ys : List ℕ) (x k : ℕ) → ys ≡ xs ++ x ∷ [] → length xs ≡ k
    → ((o : ℕ) → 1 ≤ o → o ≤ k → surplus_at xs o ≡ f o) → x ≡ f (k + 1)
    → (length ys ≡ k + 1) × ((o : ℕ) → 1 ≤ o → o ≤ k + 1 → surplus_at ys o ≡ f o)
pushed f xs ys x k e many all one = (
  omega (arith, ap length e, length-append xs (x ∷ []), many),
  λ o low high. by_bool (eqb (k + 1) o)
      (λ q.
      let is : k + 1 ≡ o = eqb-true (k + 1) o q in
      let seam : get_or (xs ++ x ∷ []) k 0 ≡ x =
      subst (λ n. get_or (xs ++ x ∷ []) n 0 ≡ x) many (get_or-append_seam xs x [] 0) in
      let back : o - 1 ≡ k = omega (arith, is) in
      ap (λ zs. get_or zs (o - 1) 0) e ∙ ap (λ n. get_or (xs ++ x ∷ []) n 0) back ∙ seam ∙ one ∙ ap f is)
      (λ q.
      let less : o ≤ k = grind (arith, nat_tests, q, high) in
      ap (λ zs. get_or zs (o - 1) 0) e
      ∙ get_or-append xs (x ∷ []) 0 (o - 1) (omega (arith, many, low, less)) ∙ all o low less),
)
