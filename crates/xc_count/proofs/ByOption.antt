-- The ways to take options one after the other are the covers.
use Rattle.std.proofs.Common.{ℕ, zero, suc, ◌≡◌, ◌≢◌, ◌≤◌, ◌<◌, ◌+◌, Bool, true, false, ◌&&◌, ◌||◌, eqb, cond}
use Rattle.std.proofs.Common.{List, [], ◌∷◌}
use Rattle.std.proofs.Common.{map, filter, length, Option, Some, None, refl, sym, ap, ap₂, ◌∙◌, arith, subst, inl}
use Rattle.std.proofs.Common.{inr, ◌⊎◌}
use Rattle.std.proofs.Common.{eqb-true, eq-eqb, ne_eqb, ltb-true, lt-ltb, le-leb, append-nil, leb-true}
use Rattle.std.proofs.Common.{leb-false}
use Rattle.std.proofs.Common.{length-append}
use Rattle.std.specs.Prelude.{is_some, nat_lt, nat_le, count_by, slice_get, unwrap_or, Contains}
use Rattle.std.specs.List.{AllByRecursion, list_all, enumerate_from}
use Rattle.std.proofs.lemmas.List.{length-map}
use Rattle.std.proofs.lemmas.List.Sums.{sum_by-cons}
use Rattle.std.proofs.lemmas.Option.{slice_get_within}
use Rattle.xc_input.specs.declared.problem.Use.{Use}
use Rattle.xc_input.specs.declared.problem.Bounds.{Bounds}
use Rattle.xc_input.specs.Problem.{Puzzle, IsOption, IsSecondary, primary_count, high_at, bounds_at}
use Rattle.xc_input.specs.Problem.{uses_of}
use Rattle.xc_input.specs.Problem.{colour_in}
use Rattle.xc_text.proofs.ListLemmas.{by_bool, by_option, and_left, and_right, not_some, EachTwo, EachTwo-append}
use Rattle.xc_text.proofs.ListLemmas.{EachTwo-map, EachTwo-weaker, IsIn, append-in_left, append-in_right, in-contains}
use Rattle.xc_text.proofs.ListLemmas.{contains-in, in-append, list_all-each, in-map, map-in, each_in, each_from}
use Rattle.xc_text.proofs.ListLemmas.{AllPairs-from_each_two, each_two_from_AllPairs, in-filter, filter-in}
use Rattle.std.proofs.Math.Bool.{or-true}
use Rattle.xc_input.specs.Cover.{times_held}
use Rattle.xc_search.specs.Cover.{SameSet}
use Rattle.xc_search.proofs.Completeness.{is_listed, listed_in, in_listed, option_of}
use Rattle.xc_count.specs.inner.ByOption.{Marks, may_hold, may_take, taking, all_met, ways, sets}
use Rattle.std.proofs.lemmas.List.Elements.{All-from_recursion, recursion_from_All}
use Rattle.xc_input.specs.Problem.{IsValid, IsSoundUse}
use Rattle.xc_input.specs.Cover.{IsCover}
use Rattle.xc_search.specs.Cover.{members}
use Rattle.xc_search.proofs.ListingLemmas.{proper_whole, sound_item}
use Rattle.xc_count.specs.inner.ByOption.{IsEachOnce}
use Rattle.xc_count.proofs.LeftBy.{sound_uses}
use Rattle.xc_count.proofs.Number.{listed, one_number}

-- there are as many sets as ways
pub sets_many : (p : Puzzle) (os : List ℕ) (s : Marks) → length (sets p os s) ≡ ways p os s
sets_many p [] s = by_bool (all_met p s) (λ e. rw e refl) (λ e. rw e refl)
sets_many p (o ∷ os) s =
    let t : Marks = taking p (uses_of p o) s in
    by_bool (may_take p s (uses_of p o))
    (λ e. rw e (length-append (sets p os s) (map (λ z. o ∷ z) (sets p os t))
    ∙ ap₂ (λ a b. a + b) (sets_many p os s) (length-map _ _ ∙ sets_many p os t)))
    (λ e. rw e (length-append (sets p os s) [] ∙ ap (λ a. a + 0) (sets_many p os s)))

-- a set is among those without its first option, or it is that option and one of those once it is taken
in_sets : (p : Puzzle) (o : ℕ) (os : List ℕ) (s : Marks) (t : List ℕ) → IsIn (sets p (o ∷ os) s) t
    → IsIn (sets p os s) t
    ⊎ ((r : List ℕ) × (may_take p s (uses_of p o) ≡ true) × IsIn (sets p os (taking p (uses_of p o) s)) r × (t ≡ o ∷ r))
in_sets p o os s t h = by_bool (may_take p s (uses_of p o))
    (λ e. elim (in-append (sets p os s) _ t (rw e at h)) [
      | inl a ↦ inl a
      | inr b ↦ let from = in-map (λ z. o ∷ z) _ t b in inr (from.0, e, from.1, sym from.2)
    ])
    (λ e. elim (in-append (sets p os s) [] t (rw e at h)) [ inl a ↦ inl a | inr b ↦ absurd b ])

-- the options of a set are among these
pub among : (p : Puzzle) (os : List ℕ) (s : Marks) (t : List ℕ) → IsIn (sets p os s) t → (o : ℕ) → IsIn t o → IsIn os o
among p [] s t h o k = by_bool (all_met p s)
    (λ e. elim (rw e at h) [ inl a ↦ subst (λ z. IsIn z o) (sym a) k | inr b ↦ absurd b ])
    (λ e. absurd (rw e at h))
among p (a ∷ os) s t h o k = elim (in_sets p a os s t h) [
  | inl l ↦ inr (among p os s t l o k)
  | inr r ↦ elim (subst (λ z. IsIn z o) r.3 k) [
    | inl e ↦ inl e
    | inr m ↦ inr (among p os (taking p (uses_of p a) s) r.0
        r.2 o m)
  ]
]

-- ---- marks

abbrev holding : Puzzle → ℕ → ℕ → Bool
holding p i o = is_some (colour_in (uses_of p o) i)

met_from : (k i : ℕ) (bs : List Bounds) (b : Bounds) (s : Marks)
    → list_all (λ (ib : ℕ × Bounds). nat_le ib.1.low (s ib.0)) (enumerate_from k bs) ≡ true → slice_get bs i ≡ Some b
    → b.low ≤ s (k + i)
met_from k i [] b s a e = cc
met_from k zero (c ∷ bs) b s a e =
    let same : c ≡ b = cc in
    let here : c.low ≤ s k = leb-true _ _ (and_left _ _ a) in
    subst (λ (z : Bounds). z.low ≤ s (k + 0)) same (subst (λ n. c.low ≤ s n) (let z : k ≡ k + 0 =
    omega arith in z) here)
met_from k (suc i) (c ∷ bs) b s a e =
    subst (λ n. b.low ≤ s n) (let z : k + 1 + i ≡ k + suc i = omega arith in z)
    (met_from (k + 1) i bs b s (and_right (nat_le c.low (s k)) _ a) e)

from_met : (k : ℕ) (bs : List Bounds) (s : Marks) → ((i : ℕ) (b : Bounds) → slice_get bs i ≡ Some b → b.low ≤ s (k + i))
    → list_all (λ (ib : ℕ × Bounds). nat_le ib.1.low (s ib.0)) (enumerate_from k bs) ≡ true
from_met k [] s each = refl
from_met k (c ∷ bs) s each =
    let here : nat_le c.low (s k) ≡ true =
    le-leb _ _ (subst (λ n. c.low ≤ s n) (let z : k + 0 ≡ k = omega arith in z) (each 0 c refl)) in
    rw here (from_met (k + 1) bs s (λ i b e. subst (λ n. b.low ≤ s n) (let z : k + suc i ≡ k + 1 + i = omega arith in z)
    (each (suc i) b e)))

pub met_at : (p : Puzzle) (s : Marks) (i : ℕ) (b : Bounds) → all_met p s ≡ true → bounds_at p i ≡ Some b → b.low ≤ s i
met_at p s zero b a e = cc
met_at p s (suc i) b a e =
    subst (λ n. b.low ≤ s n) (let z : 1 + i ≡ suc i = omega arith in z) (met_from 1 i p.bounds b s a e)

pub at_met : (p : Puzzle) (s : Marks) → ((i : ℕ) (b : Bounds) → bounds_at p i ≡ Some b → b.low ≤ s i)
    → all_met p s ≡ true
at_met p s each = from_met 1 p.bounds s (λ i b e. subst (λ n. b.low ≤ s n) (let z : suc i ≡ 1 + i = omega arith in z)
    (each (suc i) b e))

pub bound_primary : (p : Puzzle) (i : ℕ) (b : Bounds) → bounds_at p i ≡ Some b → i ≤ primary_count p
bound_primary p zero b e = cc
bound_primary p (suc i) b e = let l = slice_get_within p.bounds i b e in omega (arith, l)

pub high_of : (p : Puzzle) (i : ℕ) (b : Bounds) → bounds_at p i ≡ Some b → high_at p i ≡ b.high
high_of p i b e = ap (λ (o : Option Bounds). (unwrap_or {T = Bounds} o (record { low = 0; high = 0 })).high) e

-- a primary item once uses are taken
pub taking_primary : (p : Puzzle) (us : List Use) (s : Marks) (i : ℕ) → i ≤ primary_count p
    → taking p us s i ≡ cond (is_some (colour_in us i)) (s i + 1) (s i)
taking_primary p [] s i l = refl
taking_primary p (u ∷ us) s i l = by_bool (eqb u.item i)
    (λ e. let prime : nat_le u.item (primary_count p) ≡ true = le-leb _ _ (rw (eqb-true _ _ e) l) in rw (e, prime) refl)
    (λ e. rw e (taking_primary p us s i l))

-- and a secondary one
pub taking_secondary : (p : Puzzle) (us : List Use) (s : Marks) (i : ℕ) → primary_count p < i
    → (colour_in us i ≡ None → taking p us s i ≡ s i) × ((c : ℕ) → colour_in us i ≡ Some c → taking p us s i ≡ c + 1)
taking_secondary p [] s i l = (λ e. refl, λ c e. cc)
taking_secondary p (u ∷ us) s i l = by_bool (eqb u.item i)
    (λ e.
    let past : nat_le u.item (primary_count p) ≡ false = leb_not _ _ (rw (eqb-true _ _ e) l) in
    (λ q. absurd (none (rw e at q)), λ c q. rw (e, past) (ap (λ z. z + 1) (some (rw e at q)))))
    (λ e. let rest = taking_secondary p us s i l in
    (λ q. rw e (rest.0 (rw e at q)), λ c q. rw e (rest.1 c (rw e at q))))
  where
    leb_not : (a b : ℕ) → b < a → nat_le a b ≡ false
    leb_not a b h = by_bool (nat_le a b) (λ e. absurd (omega (arith, h, leb-true a b e))) (λ e. e)

    none : {c : ℕ} → Some c ≡ None → ⊥
    none e = cc

    some : {c d : ℕ} → Some c ≡ Some d → c ≡ d
    some e = cc

-- what may be taken
may_primary : (p : Puzzle) (us : List Use) (s : Marks) (i : ℕ) → may_take p s us ≡ true
    → is_some (colour_in us i) ≡ true
    → i ≤ primary_count p → s i < high_at p i
may_primary p [] s i a e l = cc
may_primary p (u ∷ us) s i a e l = by_bool (eqb u.item i)
    (λ q.
    let is = eqb-true _ _ q in
    let prime : nat_le u.item (primary_count p) ≡ true = le-leb _ _ (rw is l) in
    let may : may_hold p s u ≡ true = and_left _ _ a in
    subst (λ j. s j < high_at p j) is (ltb-true _ _ (rw prime at may)))
    (λ q. may_primary p us s i (and_right (may_hold p s u) _ a) (rw q at e) l)

-- a secondary item is free, or it is held for this colour
abbrev pub Allows : Marks → ℕ → ℕ → Type 0
Allows s i c = (s i ≡ 0) ⊎ ((0 < c) × (s i ≡ c + 1))

may_secondary : (p : Puzzle) (us : List Use) (s : Marks) (i c : ℕ) → may_take p s us ≡ true → colour_in us i ≡ Some c
    → primary_count p < i → Allows s i c
may_secondary p [] s i c a e l = cc
may_secondary p (u ∷ us) s i c a e l = by_bool (eqb u.item i)
    (λ q.
    let is = eqb-true _ _ q in
    let past : nat_le u.item (primary_count p) ≡ false = leb_not _ _ (rw is l) in
    let may : may_hold p s u ≡ true = and_left _ _ a in
    let colour : u.colour ≡ c = some (rw q at e) in
    subst (λ j. Allows s j c) is (subst (λ d. Allows s u.item d) colour (allowed (s u.item) u.colour (rw past at may))))
    (λ q. may_secondary p us s i c (and_right (may_hold p s u) _ a) (rw q at e) l)
  where
    leb_not : (a b : ℕ) → b < a → nat_le a b ≡ false
    leb_not a b h = by_bool (nat_le a b) (λ e. absurd (omega (arith, h, leb-true a b e))) (λ e. e)

    some : {c d : ℕ} → Some c ≡ Some d → c ≡ d
    some e = cc

    allowed : (m d : ℕ) → (eqb m 0 || (nat_lt 0 d && eqb m (d + 1))) ≡ true → (m ≡ 0) ⊎ ((0 < d) × (m ≡ d + 1))
    allowed m d a = by_bool (eqb m 0) (λ e. inl (eqb-true _ _ e))
        (λ e. let rest : (nat_lt 0 d && eqb m (d + 1)) ≡ true = rw e at a in
        inr (ltb-true _ _ (and_left _ _ rest), eqb-true _ _ (and_right (nat_lt 0 d) _ rest)))

pub count_by-cons : (f : ℕ → Bool) (x : ℕ) (xs : List ℕ) → count_by f (x ∷ xs) ≡ cond (f x) 1 0 + count_by f xs
count_by-cons f x xs = sum_by-cons (λ y. cond (f y) 1 0) x xs

-- ---- each set is a cover

-- how often it holds a primary item
within : (p : Puzzle) (os : List ℕ) (s : Marks) (t : List ℕ) → IsIn (sets p os s) t → (i : ℕ) (b : Bounds)
    → bounds_at p i ≡ Some b → s i ≤ b.high → (b.low ≤ s i + times_held p i t) × (s i + times_held p i t ≤ b.high)
within p [] s t h i b e l = by_bool (all_met p s)
    (λ m. elim (rw m at h) [
      | inl a ↦ let low = met_at p s i b m e in subst (λ z. (b.low ≤ s i + times_held p i z) × (s i + times_held p i z
          ≤ b.high)) a
          (omega (arith, low), omega (arith, l))
      | inr a ↦ absurd a
    ])
    (λ m. absurd (rw m at h))
within p (o ∷ os) s t h i b e l = elim (in_sets p o os s t h) [
  | inl a ↦ within p os s t a i b e l
  | inr r ↦
      let us = uses_of p o in
      let prime = bound_primary p i b e in
      let now = taking_primary p us s i prime in
      let cons : times_held p i (o ∷ r.0) ≡ cond (is_some (colour_in us i)) 1 0 + times_held p i r.0 =
      count_by-cons (holding p i) o r.0 in
      subst (λ z. (b.low ≤ s i + times_held p i z) × (s i + times_held p i z ≤ b.high)) (sym r.3)
      (by_bool (is_some (colour_in us i))
      (λ q.
      let less = may_primary p us s i r.1 q prime in
      let here : taking p us s i ≡ s i + 1 = now ∙ ap (λ z. cond z (s i + 1) (s i)) q in
      let more : times_held p i (o ∷ r.0) ≡ 1 + times_held p i r.0 =
      cons ∙ ap (λ z. cond z 1 0 + times_held p i r.0) q in
      let rest = within p os (taking p us s) r.0 r.2 i b e (omega (arith, here, less, high_of p i b e)) in
      (omega (arith, rest.0, here, more), omega (arith, rest.1, here, more)))
      (λ q.
      let here : taking p us s i ≡ s i = now ∙ ap (λ z. cond z (s i + 1) (s i)) q in
      let more : times_held p i (o ∷ r.0) ≡ 0 + times_held p i r.0 =
      cons ∙ ap (λ z. cond z 1 0 + times_held p i r.0) q in
      let rest = within p os (taking p us s) r.0 r.2 i b e (omega (arith, here, l)) in
      (omega (arith, rest.0, here, more), omega (arith, rest.1, here, more))))
]

-- for which colour an option of it holds a secondary item
allows : (p : Puzzle) (os : List ℕ) (s : Marks) (t : List ℕ) → IsIn (sets p os s) t → (o i c : ℕ) → IsIn t o
    → primary_count p < i → colour_in (uses_of p o) i ≡ Some c → Allows s i c
allows p [] s t h o i c k l e = absurd (nothing (sets p [] s) t o h k)
  where
    nothing : (ts : List (List ℕ)) (t : List ℕ) (o : ℕ) → IsIn (sets p [] s) t → IsIn t o → ⊥
    nothing ts t o h k = by_bool (all_met p s)
        (λ m. elim (rw m at h) [ inl a ↦ subst (λ z. IsIn z o) (sym a) k | inr a ↦ absurd a ])
        (λ m. absurd (rw m at h))
allows p (a ∷ os) s t h o i c k l e = elim (in_sets p a os s t h) [
  | inl b ↦ allows p os s t b o i c k l e
  | inr r ↦
      let us = uses_of p a in
      elim (subst (λ z. IsIn z o) r.3 k) [
        | inl q ↦ may_secondary p us s i c r.1 (subst (λ z. colour_in (uses_of p z) i ≡ Some c) (sym q) e) l
        | inr m ↦
            let rest = allows p os (taking p us s) r.0 r.2 o i c m l e in
            let now = taking_secondary p us s i l in
            by_option (colour_in us i)
            (λ q. before (taking p us s i) (s i) c (now.0 q) rest)
            (λ d q. same_colour (taking p us s i) (s i) c d (now.1 d q) rest (may_secondary p us s i d r.1 q l))
      ]
]
  where
    before : (m n c : ℕ) → m ≡ n → (m ≡ 0) ⊎ ((0 < c) × (m ≡ c + 1)) → (n ≡ 0) ⊎ ((0 < c) × (n ≡ c + 1))
    before m n c e a = subst (λ z. (z ≡ 0) ⊎ ((0 < c) × (z ≡ c + 1))) e a

    same_colour : (m n c d : ℕ) → m ≡ d + 1 → (m ≡ 0) ⊎ ((0 < c) × (m ≡ c + 1)) → (n ≡ 0) ⊎ ((0 < d) × (n ≡ d + 1))
        → (n ≡ 0) ⊎ ((0 < c) × (n ≡ c + 1))
    same_colour m n c d e (inl a) b = absurd (omega (arith, e, a))
    same_colour m n c d e (inr a) (inl b) = inl b
    same_colour m n c d e (inr a) (inr b) = inr (a.0, omega (arith, e, a.1, b.1))

-- two options of it agree
agree : (p : Puzzle) (os : List ℕ) (s : Marks) (t : List ℕ) → IsIn (sets p os s) t → (a b i c d : ℕ) → IsIn t a
    → IsIn t b
    → a ≢ b → primary_count p < i → colour_in (uses_of p a) i ≡ Some c → colour_in (uses_of p b) i ≡ Some d
    → (c ≡ d) × (0 < c)
agree p [] s t h a b i c d k m n l e f = by_bool (all_met p s)
    (λ z. elim (rw z at h) [ inl q ↦ absurd (subst (λ y. IsIn y a) (sym q) k) | inr q ↦ absurd q ])
    (λ z. absurd (rw z at h))
agree p (o ∷ os) s t h a b i c d k m n l e f = elim (in_sets p o os s t h) [
  | inl z ↦ agree p os s t z a b i c d k m n l e f
  | inr r ↦
      elim (subst (λ z. IsIn z a) r.3 k) [
        | inl q ↦ elim (subst (λ z. IsIn z b) r.3 m) [
          | inl q' ↦ absurd (n (sym q ∙ q'))
          | inr m' ↦ one r.0 r.2 r.1 b c d m' (subst (λ z. colour_in (uses_of p z) i ≡ Some c) (sym q) e) f
        ]
        | inr k' ↦ elim (subst (λ z. IsIn z b) r.3 m) [
          | inl q' ↦
              let other = one r.0 r.2 r.1 a d c k' (subst (λ z. colour_in (uses_of p z) i ≡ Some d) (sym q') f) e in
              (sym other.0, omega (arith, other.0, other.1))
          | inr m' ↦ agree p os (taking p (uses_of p o) s) r.0 r.2 a b i c d k' m' n l e f
        ]
      ]
]
  where
    one : (r : List ℕ) → IsIn (sets p os (taking p (uses_of p o) s)) r → may_take p s (uses_of p o) ≡ true → (b c d : ℕ)
        → IsIn r b → colour_in (uses_of p o) i ≡ Some c → colour_in (uses_of p b) i ≡ Some d → (c ≡ d) × (0 < c)
    one r in_it may b c d m e f =
        let rest = allows p os (taking p (uses_of p o) s) r in_it b i d m l f in
        let now = (taking_secondary p (uses_of p o) s i l).1 c e in
        elim rest [
          | inl z ↦ absurd (omega (arith, now, z))
          | inr z ↦ let same : c ≡ d = omega (arith, now, z.1) in (same, omega (arith, same, z.0))
        ]

-- no option twice
distinct : (p : Puzzle) (os : List ℕ) (s : Marks) (t : List ℕ) → EachTwo (λ a b. a ≢ b) os → IsIn (sets p os s) t
    → EachTwo (λ a b. a ≢ b) t
distinct p [] s t two h = by_bool (all_met p s)
    (λ m. elim (rw m at h) [ inl a ↦ subst (EachTwo (λ a b. a ≢ b)) a tt | inr a ↦ absurd a ])
    (λ m. absurd (rw m at h))
distinct p (o ∷ os) s t two h = elim (in_sets p o os s t h) [
  | inl a ↦ distinct p os s t two.1 a
  | inr r ↦ subst (EachTwo (λ a b. a ≢ b)) (sym r.3) (
    each_from (λ b. o ≢ b) r.0 (λ b k. each_in (λ b. o ≢ b) os b two.0 (among p os (taking p (uses_of p o) s) r.0
        r.2 b k)),
    distinct p os (taking p (uses_of p o) s) r.0 two.1 r.2,
  )
]

-- ---- no two sets are the same
differ : (p : Puzzle) (os : List ℕ) (s : Marks) → EachTwo (λ a b. a ≢ b) os
    → EachTwo (λ x y. SameSet x y → ⊥) (sets p os s)
differ p [] s two = by_bool (all_met p s) (λ e. rw e (tt, tt)) (λ e. rw e tt)
differ p (o ∷ os) s two =
    let t : Marks = taking p (uses_of p o) s in
    by_bool (may_take p s (uses_of p o))
    (λ e. rw e (EachTwo-append (λ x y. SameSet x y
    → ⊥) (sets p os s) (map (λ z. o ∷ z) (sets p os t)) (differ p os s two.1)
    (EachTwo-map (λ x y. SameSet x y → ⊥) (λ z. o ∷ z) (sets p os t)
    (EachTwo-weaker (λ x y. SameSet x y → ⊥) (λ x y. SameSet (o ∷ x) (o ∷ y) → ⊥) (sets p os t)
    (λ x y h k other same. other (λ a. (
      drop_first x y (without t x h) same a,
      drop_first y x (without t y k) (λ b. ((same b).1, (same b).0)) a,
    ))) (differ p os t two.1)))
    (λ x y h k same. without s x h (in-contains _ _ ((same o).1 (contains-in _ _
    (let from = in-map (λ z. o ∷ z) (sets p os t) y k in subst (λ z. IsIn z o) from.2 (inl refl))))))))
    (λ e. rw e (subst (EachTwo (λ x y. SameSet x y → ⊥)) (sym (append-nil (sets p os s))) (differ p os s two.1)))
  where
    without : (t : Marks) (x : List ℕ) → IsIn (sets p os t) x → IsIn x o → ⊥
    without t x h k = each_in (λ b. o ≢ b) os o two.0 (among p os t x h o k) refl

    drop_first : (x y : List ℕ) → (IsIn x o → ⊥) → SameSet (o ∷ x) (o ∷ y) → (a : ℕ) → Contains x a → Contains y a
    drop_first x y none same a c =
        let m = in-contains x a c in
        elim (in-contains (o ∷ y) a ((same a).0 (contains-in (o ∷ x) a (inr m)))) [
          | inl e ↦ absurd (none (subst (IsIn x) (sym e) m))
          | inr k ↦ contains-in y a k
        ]

-- ---- each cover is a set

-- what a choice of options has of what is left: the bounds of each primary item are met, and each secondary item that
-- it holds allows it
record Suits (p : Puzzle) (os : List ℕ) (s : Marks) (f : ℕ → Bool) : Type 0 where
  met : (i : ℕ) (b : Bounds) → bounds_at p i ≡ Some b → (b.low ≤ s i + count_by (λ o. f o && holding p i o) os)
      × (s i + count_by (λ o. f o && holding p i o) os ≤ b.high)
  allow : (o i c : ℕ) → IsIn os o → f o ≡ true → primary_count p < i → colour_in (uses_of p o) i ≡ Some c → Allows s i c
  agreed : (a b i c d : ℕ) → IsIn os a → IsIn os b → a ≢ b → f a ≡ true → f b ≡ true → primary_count p < i
      → colour_in (uses_of p a) i ≡ Some c → colour_in (uses_of p b) i ≡ Some d → (c ≡ d) × (0 < c)

-- each use gives its item its own colour, and is of an item
abbrev OwnUses : Puzzle → ℕ → Type 0
OwnUses p o = AllByRecursion (λ u. (colour_in (uses_of p o) u.item ≡ Some u.colour) × (1 ≤ u.item)) (uses_of p o)

pub bounds_there : (p : Puzzle) (i : ℕ) → 1 ≤ i → i ≤ primary_count p → (b : Bounds) × (bounds_at p i ≡ Some b)
bounds_there p zero h l = absurd (omega (arith, h))
bounds_there p (suc k) h l = by_option (slice_get p.bounds k) (λ e. absurd (omega (arith, l, not_some p.bounds k e)))
    (λ b e. (b, e))

module _ (p : Puzzle) (o : ℕ) (os : List ℕ) (s : Marks) (f : ℕ → Bool) (own : OwnUses p o)
    (two : EachTwo (λ a b. a ≢ b) (o ∷ os)) (suits : Suits p (o ∷ os) s f)
  where
    now : (i : ℕ) → count_by (λ a. f a && holding p i a) (o ∷ os)
        ≡ cond (f o && holding p i o) 1 0 + count_by (λ a. f a && holding p i a) os
    now i = count_by-cons (λ a. f a && holding p i a) o os

    abbrev many : ℕ → List ℕ → ℕ
    many i xs = count_by (λ a. f a && holding p i a) xs

    one : (i : ℕ) → f o ≡ true → holding p i o ≡ true → many i (o ∷ os) ≡ 1 + many i os
    one i e q = now i ∙ ap₂ (λ a b. cond (a && b) 1 0 + many i os) e q

    none : (i : ℕ) → f o ≡ true → holding p i o ≡ false → many i (o ∷ os) ≡ 0 + many i os
    none i e q = now i ∙ ap₂ (λ a b. cond (a && b) 1 0 + many i os) e q

    left_out : (i : ℕ) → f o ≡ false → many i (o ∷ os) ≡ 0 + many i os
    left_out i e = now i ∙ ap (λ a. cond (a && holding p i o) 1 0 + many i os) e

    without_it : f o ≡ false → Suits p os s f
    without_it e = record {
      met = λ i b h.
          let m = suits.met i b h in
          let n : many i (o ∷ os) ≡ 0 + many i os = left_out i e in
          (omega (arith, m.0, n), omega (arith, m.1, n));
      allow = λ a i c k. suits.allow a i c (inr k);
      agreed = λ a b i c d k m. suits.agreed a b i c d (inr k) (inr m);
    }

    may : f o ≡ true → may_take p s (uses_of p o) ≡ true
    may e = list_all-each (λ u. may_hold p s u) (uses_of p o) (λ u k.
        let at = each_in (λ u. (colour_in (uses_of p o) u.item ≡ Some u.colour) × (1 ≤ u.item)) (uses_of p o) u own k in
        by_bool (nat_le u.item (primary_count p))
        (λ q.
        let b = bounds_there p u.item at.1 (leb-true _ _ q) in
        let held : holding p u.item o ≡ true = rw at.0 refl in
        let m = (suits.met u.item b.0 b.1).1 in
        let n = one u.item e held in
        rw q (lt-ltb _ _ (omega (arith, m, n, high_of p u.item b.0 b.1))))
        (λ q.
        let past = leb-false _ _ q in
        rw q (elim (suits.allow o u.item u.colour (inl refl) e past at.0) [
          | inl z ↦ let y : eqb (s u.item) 0 ≡ true = eq-eqb _ _ z in rw y refl
          | inr z ↦
              let y : eqb (s u.item) (u.colour + 1) ≡ true = eq-eqb _ _ z.1 in
              let x : nat_lt 0 u.colour ≡ true = lt-ltb _ _ z.0 in
              rw (x, y) (or-true (eqb (s u.item) 0))
        ])))

    with_it : f o ≡ true → Suits p os (taking p (uses_of p o) s) f
    with_it e = record {
      met = λ i b h.
          let m = suits.met i b h in
          let t = taking_primary p (uses_of p o) s i (bound_primary p i b h) in
          by_bool (holding p i o)
          (λ q.
          let n : many i (o ∷ os) ≡ 1 + many i os = one i e q in
          let r : taking p (uses_of p o) s i ≡ s i + 1 = t ∙ ap (λ z. cond z (s i + 1) (s i)) q in
          (omega (arith, m.0, n, r), omega (arith, m.1, n, r)))
          (λ q.
          let n : many i (o ∷ os) ≡ 0 + many i os = none i e q in
          let r : taking p (uses_of p o) s i ≡ s i = t ∙ ap (λ z. cond z (s i + 1) (s i)) q in
          (omega (arith, m.0, n, r), omega (arith, m.1, n, r)));
      allow = λ a i c k g l h.
          let t = taking_secondary p (uses_of p o) s i l in
          by_option (colour_in (uses_of p o) i)
          (λ q. subst (λ m. (m ≡ 0) ⊎ ((0 < c) × (m ≡ c + 1))) (sym (t.0 q)) (suits.allow a i c (inr k) g l h))
          (λ d q.
          let both = suits.agreed o a i d c (inl refl) (inr k) (each_in (λ b. o ≢ b) os a two.0 k) e g l q h in
          inr (omega (arith, both.0, both.1), omega (arith, t.1 d q, both.0)));
      agreed = λ a b i c d k m. suits.agreed a b i c d (inr k) (inr m);
    }

complete : (p : Puzzle) (os : List ℕ) (s : Marks) (f : ℕ → Bool) → AllByRecursion (OwnUses p) os
    → EachTwo (λ a b. a ≢ b) os → Suits p os s f → IsIn (sets p os s) (filter f os)
complete p [] s f own two suits =
    let met : all_met p s ≡ true = at_met p s (λ i b h. let m = (suits.met i b h).0 in omega (arith, m)) in
    rw met (inl refl)
complete p (o ∷ os) s f own two suits = by_bool (f o)
    (λ e.
    let rest = complete p os (taking p (uses_of p o) s) f own.1 two.1 (with_it p o os s f own.0 two suits e) in
    rw (e, may p o os s f own.0 two suits e)
    (append-in_right (sets p os s) _ (o ∷ filter f os) (map-in (λ t. o ∷ t) _ (filter f os) rest)))
    (λ e.
    let rest = complete p os s f own.1 two.1 (without_it p o os s f own.0 two suits e) in
    rw e (append-in_left (sets p os s) _ (filter f os) rest))

abbrev one_if : Bool → ℕ
one_if b = cond b 1 0

-- as many options of a set hold an item as of all options those that are in it
counted : (h : ℕ → Bool) (os t : List ℕ) → EachTwo (λ a b. a ≢ b) os → EachTwo (λ a b. a ≢ b) t
    → ((o : ℕ) → IsIn t o → IsIn os o) → count_by (λ o. is_listed t o && h o) os ≡ count_by h t
counted h os [] two apart all = nothing os
  where
    nothing : (os : List ℕ) → count_by (λ o. is_listed [] o && h o) os ≡ count_by h []
    nothing [] = refl
    nothing (o ∷ os) =
        let first : count_by (λ o. is_listed [] o && h o) (o ∷ os) ≡ 0 + count_by (λ o. is_listed [] o && h o) os =
        count_by-cons (λ o. is_listed [] o && h o) o os in
        omega (arith, first, nothing os)
counted h os (a ∷ t) two apart all =
    let rest = counted h os t two apart.1 (λ o k. all o (inr k)) in
    let more = one_more os two (all a (inl refl)) in
    let whole : count_by h (a ∷ t) ≡ cond (h a) 1 0 + count_by h t = count_by-cons h a t in
    omega (arith, rest, more, whole)
  where
    out : is_listed t a ≡ false
    out = by_bool (is_listed t a) (λ e. absurd (each_in (λ b. a ≢ b) t a apart.0 (listed_in t a e) refl)) (λ e. e)

    -- those after which a isn't
    unchanged : (os : List ℕ) → AllByRecursion (λ b. a ≢ b) os
        → count_by (λ o. is_listed (a ∷ t) o && h o) os ≡ count_by (λ o. is_listed t o && h o) os
    unchanged [] n = refl
    unchanged (b ∷ os) n =
        let other : eqb a b ≡ false = ne_eqb a b n.0 in
        let same : (is_listed (a ∷ t) b && h b) ≡ (is_listed t b && h b) = rw other refl in
        count_by-cons (λ o. is_listed (a ∷ t) o && h o) b os
        ∙ ap₂ (λ x y. cond x 1 0 + y) same (unchanged os n.1) ∙ sym (count_by-cons (λ o. is_listed t o && h o) b os)

    one_more : (os : List ℕ) → EachTwo (λ a b. a ≢ b) os → IsIn os a
        → count_by (λ o. is_listed (a ∷ t) o && h o) os ≡ cond (h a) 1 0 + count_by (λ o. is_listed t o && h o) os
    one_more [] two k = absurd k
    one_more (b ∷ os) two (inl e) =
        let first : count_by (λ o. is_listed (a ∷ t) o && h o) (a ∷ os)
        ≡ cond (is_listed (a ∷ t) a && h a) 1 0 + count_by (λ o. is_listed (a ∷ t) o && h o) os =
        count_by-cons (λ o. is_listed (a ∷ t) o && h o) a os in
        let second : count_by (λ o. is_listed t o && h o) (a ∷ os)
        ≡ cond (is_listed t a && h a) 1 0 + count_by (λ o. is_listed t o && h o) os =
        count_by-cons (λ o. is_listed t o && h o) a os in
        let here : (is_listed (a ∷ t) a && h a) ≡ h a = let y = eq-eqb a a refl in rw y refl in
        let gone : (is_listed t a && h a) ≡ false = rw out refl in
        let others = unchanged os (subst (λ z. AllByRecursion (λ b. z ≢ b) os) e two.0) in
        let left : one_if (is_listed (a ∷ t) a && h a) ≡ one_if (h a) = ap one_if here in
        let zero_left : one_if (is_listed t a && h a) ≡ 0 = ap one_if gone in
        subst (λ z. count_by (λ o. is_listed (a ∷ t) o && h o) (z ∷ os)
        ≡ cond (h a) 1 0 + count_by (λ o. is_listed t o && h o) (z ∷ os)) (sym e)
        (omega (arith, first, second, others, left, zero_left))
    one_more (b ∷ os) two (inr k) =
        let other : eqb a b ≡ false = ne_eqb a b (λ q. each_in (λ c. b ≢ c) os a two.0 k (sym q)) in
        let same : (is_listed (a ∷ t) b && h b) ≡ (is_listed t b && h b) = rw other refl in
        let first : count_by (λ o. is_listed (a ∷ t) o && h o) (b ∷ os)
        ≡ cond (is_listed (a ∷ t) b && h b) 1 0 + count_by (λ o. is_listed (a ∷ t) o && h o) os =
        count_by-cons (λ o. is_listed (a ∷ t) o && h o) b os in
        let second : count_by (λ o. is_listed t o && h o) (b ∷ os)
        ≡ cond (is_listed t b && h b) 1 0 + count_by (λ o. is_listed t o && h o) os =
        count_by-cons (λ o. is_listed t o && h o) b os in
        let left : one_if (is_listed (a ∷ t) b && h b) ≡ one_if (is_listed t b && h b) = ap one_if same in
        omega (arith, first, second, left, one_more os two.1 k)

-- ---- the number of covers

module _ (p : Puzzle) (v : IsValid p) (os : List ℕ) (once : IsEachOnce p os) where
  two : EachTwo (λ a b. a ≢ b) os
  two = each_two_from_AllPairs _ _ once.distinct

  known_in : (o : ℕ) → IsIn os o → IsOption p o
  known_in o k = each_in (IsOption p) os o (recursion_from_All _ _ once.known) k

  abbrev pub zeros : Marks
  zeros i = 0

  -- the sets are covers
  covers : (t : List ℕ) → IsIn (sets p os zeros) t → IsCover p t
  covers t h = record {
    known = All-from_recursion (IsOption p) t (each_from (IsOption p) t (λ o k. known_in o (among p os zeros t h o k)));
    distinct = AllPairs-from_each_two _ _ (distinct p os zeros t two h);
    within = λ i b e. let m = within p os zeros t h i b e (omega arith) in (omega (arith, m.0), omega (arith, m.1));
    agree = λ a b i c d k m n l e f. agree p os zeros t h a b i c d (in-contains t a k) (in-contains t b m) n l.0 e f;
  }

  own_uses : (o : ℕ) → IsIn os o → OwnUses p o
  own_uses o k =
      let x = option_of p o (known_in o k) in
      let own = (proper_whole p v).own x.0 x.1 in
      let sound = sound_uses p v x.0 x.1 in
      subst (λ us. AllByRecursion (λ u. (colour_in us u.item ≡ Some u.colour) × (1 ≤ u.item)) us) (sym x.3)
      (each_from _ x.0.uses (λ u m. (each_in _ x.0.uses u own m, (each_in (IsSoundUse p) x.0.uses u sound m).0.0)))

  -- and each cover is one of them
  every : (t : List ℕ) → IsCover p t → (u : List ℕ) × Contains (sets p os zeros) u × SameSet t u
  every t c =
      let f : ℕ → Bool = is_listed t in
      let apart = each_two_from_AllPairs _ _ c.distinct in
      let all : (o : ℕ) → IsIn t o → IsIn os o =
      λ o k. in-contains os o (once.each o (each_in (IsOption p) t o (recursion_from_All _ _ c.known) k)) in
      let there = complete p os zeros f (each_from (OwnUses p) os own_uses) two (record {
        met = λ i b e.
            let m = c.within i b e in
            let n = counted (holding p i) os t two apart all in
            (omega (arith, m.0, n), omega (arith, m.1, n));
        allow = λ o i d k g l e. inl refl;
        agreed = λ a b i d e k m n g h l q r. c.agree a b i d e (contains-in t a (listed_in t a g))
            (contains-in t b (listed_in t b h)) n (secondary a i d k l q) q r;
      }) in (
        filter f os,
        contains-in _ _ there,
        λ o. (
          λ k. let m = in-contains t o k in contains-in _ _ (filter-in f os o (all o m) (in_listed t o m)),
          λ k. let m = in-filter f os o (in-contains _ _ k) in contains-in t o (listed_in t o m.1),
        ),
      )
    where
      secondary : (a i d : ℕ) → IsIn os a → primary_count p < i → colour_in (uses_of p a) i ≡ Some d → IsSecondary p i
      secondary a i d k l e =
          let x = option_of p a (known_in a k) in
          let item = sound_item p v x.0 i x.1 (subst (λ us. is_some (colour_in us i) ≡ true) x.3 (rw e refl)) in
          (l, item.1)

  -- THE WAYS to take options are as many as there are covers
  pub ways_many : ways p os zeros ≡ length (members p)
  ways_many = one_number p v (ways p os zeros) (length (members p)) (
    sets p os zeros,
    record {
      covers = All-from_recursion (IsCover p) (sets p os zeros) (each_from (IsCover p) (sets p os zeros) covers);
      different = AllPairs-from_each_two _ _ (differ p os zeros two);
      every = every;
    },
    sets_many p os zeros,
  )
      (listed p v)
