-- The solutions of what is left, whose items have bounds, are the fair sets of its words.
use Rattle.std.proofs.Common.{ℕ, zero, suc, ◌≡◌, ◌≢◌, ◌<◌, ◌≤◌, ◌^◌, ◌-◌, min, List, [], ◌∷◌, Bool, true, false}
use Rattle.std.proofs.Common.{◌&&◌, ◌⊎◌, refl, arith, filter, inl, inr, eqb-true, eq-eqb, length, sym, ap, ap₂, ◌∙◌}
use Rattle.std.proofs.Common.{Option, Some, None, subst, bit_and, slice_index, filter}
use Rattle.std.specs.Prelude.{slice_get, sum_by, AllPairs}
use Rattle.std.specs.Int.{bit_at}
use Rattle.std.specs.List.{range_with_len}
use Rattle.std.proofs.lemmas.Bool.{and_parts, cases_lt}
use Rattle.std.proofs.lemmas.Bool.Decides.{nat_tests}
use Rattle.std.proofs.lemmas.Option.{slice_get_within}
use Rattle.std.proofs.lemmas.List.Sums.{sum_by-cons}
use Rattle.std.proofs.lemmas.Nat.{and_le_r}
use Rattle.std.proofs.lemmas.Nat.Bits.{bit_at_and, bit_at_ones, bit_at-zero}
use Rattle.std.proofs.lemmas.Nat.Bits.{same_from_bits_below, bit_at_ones_above}
use Rattle.xc_input.specs.Problem.{Numbered, holds, holding}
use Rattle.xc_text.proofs.ListLemmas.{IsIn, by_bool, EachTwo, EachTwo-weaker, in-filter, filter-in}
use Rattle.xc_text.proofs.ListLemmas.{each_two_from_AllPairs, length-filter-le, filter_both}
use Rattle.xc_words.specs.declared.bounded.BoundedWords.{BoundedWords}
use Rattle.xc_words.specs.Words.{bits_of}
use Rattle.xc_words.specs.Bounded.{fair_sets, times_in}
use Rattle.xc_words.proofs.SetLemmas.{ones_few}
use Rattle.xc_words.proofs.FairLemmas.{ones_bits, by_bit, IsFair, fair_parts, fair_back}
use Rattle.xc_search.specs.declared.choice.Choice.{Choice}
use Rattle.xc_search.specs.Listing.{Wanted, Residual, listing}
use Rattle.xc_search.specs.Cover.{options_of}
use Rattle.xc_search.proofs.ListingLemmas.{IsProper, two_rise}
use Rattle.xc_search.proofs.Completeness.{Covers, Agree, IsMet, IsMemberOf, Differ, is_held, passing, two_pass}
use Rattle.xc_search.proofs.Completeness.{members_solve, listed_for, all_differ, is_listed, listed_in, in_listed}
use Rattle.xc_search.proofs.Matched.{no_more, EachTwo-filter}
use Rattle.xc_search.proofs.Picked.{has}
use Rattle.xc_search.proofs.Numbering.{bit_of, bit_at_place, stands_at, range-in, range_distinct, sum_renumbered}
use Rattle.xc_search.proofs.FairSets.{fair_list, fair_many, in_fair, fair_in, fair_differ, set_of, set_fits}
use Rattle.xc_search.proofs.FairSets.{set_on, on_set}

-- the item has a place in is
abbrev pub HasBit : List ℕ → Wanted → Type 0
HasBit is v = (i : ℕ) × (slice_get is i ≡ Some v.item)

-- no more than n options may be taken: all hold an item with a bit that may be held n times at most
abbrev pub IsCapped : Residual → List ℕ → ℕ → Type 0
IsCapped r is n = (u : Wanted) × IsIn r.items u × HasBit is u
    × (length (holding u.item r.options) ≡ length r.options) × (u.high ≤ n)

-- The words are those of what is left: bit i of an item is its place in is, that of an option its place in os. An item
-- without a bit keeps its bounds whatever is taken. Two options are apart if they don't agree on an item above n, or
-- hold an item that may be held only once more.
pub record AreBoundedWordsOf (n : ℕ) (r : Residual) (is os : List ℕ) (w : BoundedWords) : Type 0 where
  pub few_items : length is ≤ 64
  pub few_options : length os ≤ 64
  pub distinct : AllPairs (λ x y. x ≢ y) os
  pub numbered : (o : Numbered) → IsIn r.options o → (x : ℕ) × (slice_get os x ≡ Some o.number)
  pub known : (x k : ℕ) → slice_get os x ≡ Some k → (o : Numbered) × IsIn r.options o × (o.number ≡ k)
  pub wanted : (i j : ℕ) → slice_get is i ≡ Some j → (v : Wanted) × IsIn r.items v × (v.item ≡ j)
  pub bounds : (i : ℕ) (v : Wanted) → IsIn r.items v → slice_get is i ≡ Some v.item
      → (slice_index w.low i ≡ v.low) × (slice_index w.high i ≡ min v.high 64)
  pub bound : (v : Wanted) → IsIn r.items v → HasBit is v
      ⊎ ((v.low ≡ 0) × ((length (holding v.item r.options) ≤ v.high) ⊎ IsCapped r is v.high))
  pub holders : (i j x : ℕ) (o : Numbered) → slice_get is i ≡ Some j → IsIn r.options o
      → slice_get os x ≡ Some o.number → has (slice_index w.holders i) x ≡ holds o j
  pub beside : (x y : ℕ) (o q : Numbered) → IsIn r.options o → IsIn r.options q → slice_get os x ≡ Some o.number
      → slice_get os y ≡ Some q.number → has (slice_index w.apart x) y ≡ false → Agree n o q
  pub apart : (x y : ℕ) (o q : Numbered) → IsIn r.options o → IsIn r.options q → slice_get os x ≡ Some o.number
      → slice_get os y ≡ Some q.number → has (slice_index w.apart x) y ≡ true
      → (Agree n o q → ⊥) ⊎ ((v : Wanted) × IsIn r.items v × (v.high ≡ 1) × (holds o v.item ≡ true)
      × (holds q v.item ≡ true))

pub has_on : (m i : ℕ) → bit_at m i ≡ 1 → has m i ≡ true
has_on m i b = eq-eqb (bit_at m i) 1 b

pub on_has : (m i : ℕ) → has m i ≡ true → bit_at m i ≡ 1
on_has m i e = eqb-true (bit_at m i) 1 e

has_off : (m i : ℕ) → bit_at m i ≡ 0 → has m i ≡ false
has_off m i b = rw b refl

off_has : (m i : ℕ) → has m i ≡ false → bit_at m i ≡ 0
off_has m i e = by_bit m i (λ b. absurd (bad (has m i) e (has_on m i b))) (λ b. b)
  where
    bad : (b : Bool) → b ≡ false → b ≡ true → ⊥
    bad b e f = cc

in_two : (a b i : ℕ) → has (bit_and a b) i ≡ (has a i && has b i)
in_two a b i =
    let both = bit_at_and a b i in
    by_bit a i
    (λ e. by_bit b i
    (λ f. has_on (bit_and a b) i (omega (arith, both, e, f)) ∙ sym (ap₂ (λ x y. x && y) (has_on a i e) (has_on b i f)))
    (λ f. has_off (bit_and a b) i (omega (arith, both, e, f))
    ∙ sym (ap₂ (λ x y. x && y) (has_on a i e) (has_off b i f))))
    (λ e. has_off (bit_and a b) i (omega (arith, both, e)) ∙ sym (ap (λ x. x && has b i) (has_off a i e)))

-- the element at a place below the length
pub place : {X : Type 0} (xs : List X) (i : ℕ) → i < length xs → (x : X) × (slice_get xs i ≡ Some x)
place [] i l = absurd (omega (arith, l))
place (x ∷ xs) zero l = (x, refl)
place (x ∷ xs) (suc i) l = place xs i (omega (arith, l))

length_sum : {X : Type 0} (xs : List X) → length xs ≡ sum_by (λ x. 1) xs
length_sum [] = refl
length_sum (x ∷ xs) = omega (arith, length_sum xs, sum_by-cons (λ x. 1) x xs)

-- where each option holds item j, no item is held by more of those chosen
no_more_held : (chosen : ℕ → Bool) (i j : ℕ) (os : List Numbered) → length (holding j os) ≡ length os
    → passing (is_held chosen i) os ≤ passing (is_held chosen j) os
no_more_held chosen i j [] e = omega arith
no_more_held chosen i j (o ∷ os) e = by_bool (holds o j)
    (λ h.
    let whole = rw h at e in
    let rest = no_more_held chosen i j os (omega (arith, whole)) in grind (arith, nat_tests))
    (λ h. let short = rw h at e in absurd (omega (arith, short, length-filter-le (λ (x : Numbered). holds x j) os)))

-- the bits of a full word
pub full_bit : (k i : ℕ) → bit_at (2 ^ k - 1) i ≡ 1 → i < k
full_bit k i b = elim (cases_lt i k) [
  | inl l ↦ l
  | inr l ↦ absurd (omega (arith, b, bit_at_ones_above k i l))
]

module _ (n : ℕ) (r : Residual) (is os : List ℕ) (w : BoundedWords) (p : IsProper n r)
    (ws : AreBoundedWordsOf n r is os w) where
  distinct : EachTwo (λ (x y : ℕ). x ≢ y) os
  distinct = each_two_from_AllPairs (λ x y. x ≢ y) os ws.distinct

  placed : (o : Numbered) → IsIn r.options o → slice_get os (bit_of os o.number) ≡ Some o.number
  placed o h = let at = ws.numbered o h in stands_at os at.0 o.number at.1

  -- the option of a bit
  at_bit : (x : ℕ) → x < length os → (o : Numbered) × IsIn r.options o × (slice_get os x ≡ Some o.number)
      × (bit_of os o.number ≡ x)
  at_bit x l =
      let k = place os x l in
      let o = ws.known x k.0 k.1 in
      let at : slice_get os x ≡ Some o.0.number = k.1 ∙ ap (λ z. Some z) (sym o.2) in
      (o.0, o.1, at, bit_at_place os x o.0.number distinct at)

  differ : (o q : Numbered) → IsIn r.options o → IsIn r.options q → o.number < q.number
      → bit_of os o.number ≢ bit_of os q.number
  differ o q h k l e =
      let one = placed o h in
      let two = subst (λ x. slice_get os x ≡ Some q.number) (sym e) (placed q k) in
      absurd (no_less (sym one ∙ two) l)
    where
      no_less : {a b : ℕ} → Some a ≡ Some b → a < b → ⊥
      no_less {a} {b} d l = let s : a ≡ b = cc in omega (arith, s, l)

  -- the options that a set takes
  abbrev pub chosen : ℕ → ℕ → Bool
  chosen t k = has t (bit_of os k)

  abbrev AreInside : ℕ → Type 0
  AreInside t = (y : ℕ) → bit_at t y ≡ 1 → y < length os

  -- how often a set holds an item
  times : (t i j : ℕ) → t < 2 ^ 64 → AreInside t → slice_get is i ≡ Some j
      → times_in w t i ≡ passing (is_held (chosen t) j) r.options
  times t i j f inside at =
      let m = bit_and (slice_index w.holders i) t in
      let held : Numbered → Bool = is_held (chosen t) j in
      let same : (o : Numbered) → IsIn r.options o → has m (bit_of os o.number) ≡ held o =
      λ o h. in_two (slice_index w.holders i) t (bit_of os o.number)
      ∙ ap (λ b. b && has t (bit_of os o.number)) (ws.holders i j (bit_of os o.number) o at h (placed o h)) in
      ones_bits m (omega (arith, f, and_le_r (slice_index w.holders i) t))
      ∙ sym (sum_renumbered (λ (o : Numbered). 1) (λ (x : ℕ). 1) (λ o. bit_of os o.number) (filter held r.options)
      (bits_of m)
      (EachTwo-filter _ held r.options (EachTwo-weaker _ _ r.options differ (two_rise 0 r.options p.options_rise)))
      (EachTwo-filter _ (has m) (range_with_len 0 64) (range_distinct 0 64))
      (λ o h.
      let to = in-filter held r.options o h in
      let few = ws.few_options in
      let below = slice_get_within os _ o.number (placed o to.0) in (
        filter-in (has m) (range_with_len 0 64) (bit_of os o.number)
            (range-in 0 64 _ (omega arith) (omega (arith, below, few))) (same o to.0 ∙ to.1),
        refl,
      ))
      (λ x h.
      let to = in-filter (has m) (range_with_len 0 64) x h in
      let in_t : has t x ≡ true =
      (and_parts (has (slice_index w.holders i) x) (has t x) (sym (in_two (slice_index w.holders i) t x) ∙ to.1)).1 in
      let o = at_bit x (inside x (on_has t x in_t)) in (
        o.0,
        filter-in held r.options o.0 o.1
            (sym (same o.0 o.1) ∙ subst (λ y. has m y ≡ true) (sym o.3) to.1),
        o.3,
      )))
      ∙ sym (length_sum (filter held r.options))

  item_on : (i j : ℕ) → slice_get is i ≡ Some j → bit_at (2 ^ length is - 1) i ≡ 1
  item_on i j at = bit_at_ones (length is) i (slice_get_within is i j at)

  -- a fair set holds an item with a bit within its bounds
  bit_met : (t : ℕ) → t < 2 ^ 64 → AreInside t → IsFair w (2 ^ length is - 1) t → (v : Wanted) → IsIn r.items v
      → HasBit is v → IsMet (chosen t) r.options v
  bit_met t f inside fair v h i =
      let low = ws.bounds i.0 v h i.1 in
      let few = ws.few_items in
      let below = slice_get_within is i.0 v.item i.1 in
      let within = fair.within i.0 (omega (arith, below, few)) (item_on i.0 v.item i.1) in
      let same = times t i.0 v.item f inside i.1 in
      (omega (arith, within.0, same, low.0), omega (arith, within.1, same, low.1))

  -- and so covers
  covers_of : (t : ℕ) → t < 2 ^ 64 → AreInside t → IsFair w (2 ^ length is - 1) t → Covers n r (chosen t)
  covers_of t f inside fair = record {
    met = λ v h. elim (ws.bound v h) [
      | inl i ↦ bit_met t f inside fair v h i
      | inr free ↦ (
        omega (arith, free.0),
        elim free.1 [
          | inl most ↦
              let least = length-filter-le (λ (o : Numbered). chosen t o.number) (holding v.item r.options) in
              let held : Numbered → Bool = λ o. holds o v.item in
              let same = ap length (filter_both (λ (o : Numbered). chosen t o.number) held r.options) in
              omega (arith, least, same, most)
          | inr u ↦
              let met = bit_met t f inside fair u.0 u.1 u.2 in
              omega (arith, no_more_held (chosen t) v.item u.0.item r.options u.3, met.1, u.4)
        ],
      )
    ];
    agreed = λ o q h k a b d.
        let x = bit_of os o.number in
        let y = bit_of os q.number in
        let few = ws.few_options in
        let lx = slice_get_within os x o.number (placed o h) in
        let ly = slice_get_within os y q.number (placed q k) in
        ws.beside x y o q h k (placed o h) (placed q k) (has_off (slice_index w.apart x) y
        (fair.beside x y (omega (arith, lx, few)) (omega (arith, ly, few)) (on_has t x a) (on_has t y b)
        (λ e. d (same_option o q h k e))));
  }
    where
      same_option : (o q : Numbered) → IsIn r.options o → IsIn r.options q → bit_of os o.number ≡ bit_of os q.number
          → o.number ≡ q.number
      same_option o q h k e = one (sym (placed o h) ∙ subst (λ x. slice_get os x ≡ Some q.number) (sym e) (placed q k))
        where
          one : {a b : ℕ} → Some a ≡ Some b → a ≡ b
          one d = cc

  -- and what covers is fair
  fair_of : (t : ℕ) → t < 2 ^ 64 → AreInside t → Covers n r (chosen t) → IsFair w (2 ^ length is - 1) t
  fair_of t f inside c = record {
    beside = λ x y l k a b d.
        let o = at_bit x (inside x a) in
        let q = at_bit y (inside y b) in
        let chosen_o : chosen t o.0.number ≡ true = subst (λ z. has t z ≡ true) (sym o.3) (has_on t x a) in
        let chosen_q : chosen t q.0.number ≡ true = subst (λ z. has t z ≡ true) (sym q.3) (has_on t y b) in
        let other : o.0.number ≢ q.0.number = λ e. d (sym o.3 ∙ ap (bit_of os) e ∙ q.3) in
        by_bool (has (slice_index w.apart x) y)
        (λ e. elim (ws.apart x y o.0 q.0 o.1 q.1 o.2 q.2 e) [
          | inl never ↦ absurd (never (c.agreed o.0 q.0 o.1 q.1 chosen_o chosen_q other))
          | inr v ↦
              let two = two_pass (is_held (chosen t) v.0.item) 0 r.options o.0 q.0 p.options_rise o.1 q.1
              (ap₂ (λ a b. a && b) v.3 chosen_o) (ap₂ (λ a b. a && b) v.4 chosen_q) other in
              absurd (omega (arith, two, (c.met v.0 v.1).1, v.2))
        ])
        (λ e. off_has (slice_index w.apart x) y e);
    within = λ i l h.
        let j = place is i (full_bit (length is) i h) in
        let v = ws.wanted i j.0 j.1 in
        let at : slice_get is i ≡ Some v.0.item = j.1 ∙ ap (λ z. Some z) (sym v.2) in
        let low = ws.bounds i v.0 v.1 at in
        let met = c.met v.0 v.1 in
        let same = times t i v.0.item f inside at in
        let few = ones_few (bit_and (slice_index w.holders i) t)
        (omega (arith, f, and_le_r (slice_index w.holders i) t)) in
        (omega (arith, met.0, same, low.0), omega (arith, met.1, same, low.1, few));
  }

  -- ---- one for each

  abbrev words : List ℕ
  words = fair_list w (2 ^ length is - 1) (bits_of (2 ^ length os - 1)) 0

  one_of : (t : ℕ) → IsIn words t → (t < 2 ^ 64) × AreInside t × IsFair w (2 ^ length is - 1) t
  one_of t h =
      let o = in_fair w (2 ^ length is - 1) 0 64 (2 ^ length os - 1) 0 t (omega arith) (omega arith) h in (
        o.fits,
        λ y b. elim (o.most y b) [
          | inl z ↦ absurd (omega (arith, z, bit_at-zero y))
          | inr z ↦ full_bit (length os) y z.1
        ],
        fair_parts w (2 ^ length is - 1) t o.fair,
      )

  -- two sets of one member are the same
  goes : (t u : ℕ) → AreInside t → (m : List Choice) → IsMemberOf r (chosen t) m → IsMemberOf r (chosen u) m → (i : ℕ)
      → bit_at t i ≡ 1 → bit_at u i ≡ 1
  goes t u inside m a b i bit =
      let o = at_bit i (inside i bit) in
      let here : chosen t o.0.number ≡ true = subst (λ z. has t z ≡ true) (sym o.3) (has_on t i bit) in
      on_has u i (subst (λ z. has u z ≡ true) o.3 (b.taken o.0.number (a.all o.0 o.1 here)))

  same_set : (t u : ℕ) → IsIn words t → IsIn words u → (m : List Choice) → IsMemberOf r (chosen t) m
      → IsMemberOf r (chosen u) m → t ≡ u
  same_set t u h k m a b =
      let one = one_of t h in
      let two = one_of u k in
      same_from_bits_below 64 t u one.0 two.0 (λ i l. by_bit t i
      (λ e. e ∙ sym (goes t u one.1 m a b i e))
      (λ e. by_bit u i (λ f. absurd (omega (arith, e, goes u t two.1 m b a i f))) (λ f. e ∙ sym f)))

  no_more_sets : length words ≤ length (listing r)
  no_more_sets = no_more (λ t m. IsMemberOf r (chosen t) m) words (listing r)
      (λ t h. let o = one_of t h in listed_for n (chosen t) r p (covers_of t o.0 o.1 o.2))
      (EachTwo-weaker (λ (t u : ℕ). t ≢ u)
      (λ t u. (m : List Choice) → IsMemberOf r (chosen t) m → IsMemberOf r (chosen u) m → ⊥) words
      (λ t u h k d m a b. d (same_set t u h k m a b))
      (fair_differ w (2 ^ length is - 1) 0 64 (2 ^ length os - 1) 0 (omega arith) (omega arith)
      (λ y l. bit_at-zero y)))

  -- the set of a member
  abbrev is_taken : List ℕ → Option ℕ → Bool
  is_taken s None = false
  is_taken s (Some k) = is_listed s k

  taken_known : (s : List ℕ) (o : Option ℕ) (k : ℕ) → o ≡ Some k → is_taken s o ≡ is_listed s k
  taken_known s None k e = cc
  taken_known s (Some j) k e = ap (is_taken s) e

  set_for : List Choice → ℕ
  set_for m = set_of (λ x. is_taken (options_of m) (slice_get os x)) (length os)

  set_inside : (m : List Choice) → AreInside (set_for m)
  unfolding set_for
  set_inside m y b = (on_set (λ x. is_taken (options_of m) (slice_get os x)) (length os) y b).0

  set_below : (m : List Choice) → set_for m < 2 ^ 64
  unfolding set_for
  set_below m = set_fits (λ x. is_taken (options_of m) (slice_get os x)) (length os) ws.few_options

  member : (m : List Choice) → IsIn (listing r) m → IsMemberOf r (chosen (set_for m)) m
  unfolding set_for
  member m h = record {
    taken = λ k j.
        let o = (members_solve r m h).left k j in
        let at = placed o.0 o.1 in
        let in_m = subst (IsIn (options_of m)) (sym o.2) j in
        let here = set_on (λ x. is_taken (options_of m) (slice_get os x)) (length os) (bit_of os o.0.number)
        (slice_get_within os _ o.0.number at)
        (taken_known (options_of m) _ o.0.number at ∙ in_listed (options_of m) o.0.number in_m) in
        subst (λ z. chosen (set_of (λ x. is_taken (options_of m) (slice_get os x)) (length os)) z ≡ true) o.2
        (has_on _ (bit_of os o.0.number) here);
    all = λ o j e.
        let on = on_set (λ x. is_taken (options_of m) (slice_get os x)) (length os) (bit_of os o.number)
        (on_has _ (bit_of os o.number) e) in
        listed_in (options_of m) o.number (sym (taken_known (options_of m) _ o.number (placed o j)) ∙ on.1);
  }

  no_more_members : length (listing r) ≤ length words
  no_more_members = no_more (λ m t. IsMemberOf r (chosen t) m) (listing r) words
      (λ m h.
      let t = set_for m in
      let to = member m h in
      let fits = set_below m in
      let inside = set_inside m in
      let fair = fair_of t fits inside ((members_solve r m h).covers n (chosen t) p to) in (
        t,
        fair_in w (2 ^ length is - 1) 0 64 (2 ^ length os - 1) 0 t (omega arith) (omega arith) fits
            (fair_back w (2 ^ length is - 1) t fair) (λ y l. absurd (omega (arith, l))) (λ y l. bit_at-zero y)
            (λ y l b. bit_at_ones (length os) y (inside y b)),
        to,
      ))
      (EachTwo-weaker (Differ r) (λ l m. (t : ℕ) → IsMemberOf r (chosen t) l → IsMemberOf r (chosen t) m → ⊥)
      (listing r) (λ l m h k d t a b. d (chosen t) a b) (all_differ r p.options_rise))

  -- THE COUNT: at the full words there are as many fair sets as solutions
  pub bounded_count : fair_sets w (2 ^ length is - 1) (bits_of (2 ^ length os - 1)) 0 ≡ length (listing r)
  bounded_count =
      sym (fair_many w (2 ^ length is - 1) (bits_of (2 ^ length os - 1)) 0) ∙ both no_more_sets no_more_members
    where
      both : {a b : ℕ} → a ≤ b → b ≤ a → a ≡ b
      both l k = omega (arith, l, k)
