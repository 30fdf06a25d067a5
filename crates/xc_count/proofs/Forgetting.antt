-- Which marks make no difference.
use Rattle.std.proofs.Common.{ℕ, zero, suc, ◌≡◌, ◌≢◌, ◌≤◌, ◌<◌, ◌+◌, Bool, true, false, ◌&&◌, eqb, cond, List, [], ◌∷◌}
use Rattle.std.proofs.Common.{Some}
use Rattle.std.proofs.Common.{refl, sym, ap, ap₂, ◌∙◌, arith, subst, inl, inr, eqb-true, eq-eqb, leb-true}
use Rattle.std.proofs.Common.{leb-false, lt-ltb, le-leb}
use Rattle.std.specs.Prelude.{is_some, nat_lt, nat_le, unwrap_or, Option}
use Rattle.std.specs.List.{list_all}
use Rattle.xc_input.specs.declared.problem.Use.{Use}
use Rattle.xc_input.specs.declared.problem.Bounds.{Bounds}
use Rattle.xc_input.specs.Problem.{Puzzle, primary_count, low_at, high_at, bounds_at, uses_of, colour_in}
use Rattle.xc_text.proofs.ListLemmas.{by_bool, by_option, IsIn}
use Rattle.xc_count.specs.inner.ByOption.{Marks, may_hold, may_take, taking, all_met, ways, holders_among, ComeToSame}
use Rattle.xc_count.specs.inner.ByOption.{IsLost}
use Rattle.xc_count.proofs.ByOption.{met_at, at_met, bound_primary, bounds_there, count_by-cons}
use Rattle.xc_count.proofs.ByOption.{taking_primary, taking_secondary}

abbrev one_if : Bool → ℕ
one_if b = cond b 1 0

-- of one option more at most one more
pub holders_cons : (p : Puzzle) (o : ℕ) (os : List ℕ) (i : ℕ) → holders_among p (o ∷ os) i
    ≡ one_if (is_some (colour_in (uses_of p o) i)) + holders_among p os i
holders_cons p o os i = count_by-cons (λ a. is_some (colour_in (uses_of p a) i)) o os

pub low_of : (p : Puzzle) (i : ℕ) (b : Bounds) → bounds_at p i ≡ Some b → low_at p i ≡ b.low
low_of p i b e = ap (λ (o : Option Bounds). (unwrap_or {T = Bounds} o (record { low = 0; high = 0 })).low) e

-- the marks of each item come to the same
abbrev Alike : Puzzle → List ℕ → Marks → Marks → Type 0
Alike p os s t = (i : ℕ) → ComeToSame p i (holders_among p os i) (s i) (t i)

-- fewer options may hold it
fewer : (p : Puzzle) (i left less m n : ℕ) → less ≤ left → ComeToSame p i left m n → ComeToSame p i less m n
fewer p i left less m n h (inl e) = inl e
fewer p i left less m n h (inr (inl b)) =
    inr (inl (b.0, b.1, omega (arith, h, b.2), b.3, omega (arith, h, b.4)))
fewer p i left less m n h (inr (inr b)) = inr (inr (b.0, omega (arith, h, b.1)))

turned : (p : Puzzle) (i left m n : ℕ) → ComeToSame p i left m n → ComeToSame p i left n m
turned p i left m n (inl e) = inl (sym e)
turned p i left m n (inr (inl b)) = inr (inl (b.0, b.3, b.4, b.1, b.2))
turned p i left m n (inr (inr b)) = inr (inr b)

-- lower bounds are met by both or by none
met_too : (p : Puzzle) (s t : Marks) → Alike p [] s t → all_met p s ≡ true → all_met p t ≡ true
met_too p s t a m = at_met p t (λ i b e.
    let low = met_at p s i b m e in
    let prime = bound_primary p i b e in
    elim (a i) [
      | inl q ↦ omega (arith, low, q)
      | inr (inl q) ↦ omega (arith, q.3, low_of p i b e)
      | inr (inr q) ↦ absurd (omega (arith, q.0, prime))
    ])

met_same : (p : Puzzle) (s t : Marks) → Alike p [] s t → all_met p s ≡ all_met p t
met_same p s t a = by_bool (all_met p s)
    (λ e. e ∙ sym (met_too p s t a e))
    (λ e. by_bool (all_met p t)
    (λ f. absurd (let z = met_too p t s (λ i. turned p i (holders_among p [] i) (s i) (t i) (a i)) f in cc (z, e)))
    (λ f. e ∙ sym f))

held_here : (us : List Use) (u : Use) → IsIn us u → is_some (colour_in us u.item) ≡ true
held_here [] u h = absurd h
held_here (v ∷ us) u (inl q) =
    let z : eqb v.item u.item ≡ true = eq-eqb _ _ (ap (λ (w : Use). w.item) q) in rw z refl
held_here (v ∷ us) u (inr q) = by_bool (eqb v.item u.item) (λ e. rw e refl) (λ e. rw e (held_here us u q))

all_same : {X : Type 0} (f g : X → Bool) (xs : List X) → ((x : X) → IsIn xs x → f x ≡ g x)
    → list_all f xs ≡ list_all g xs
all_same f g [] h = refl
all_same f g (x ∷ xs) h = ap₂ (λ (a b : Bool). a && b) (h x (inl refl)) (all_same f g xs (λ y k. h y (inr k)))

-- a use may hold an item of the one mark if it may of the other
may_same : (p : Puzzle) (s t : Marks) (u : Use) (left : ℕ) → 1 ≤ left → ComeToSame p u.item left (s u.item) (t u.item)
    → may_hold p s u ≡ may_hold p t u
may_same p s t u left h (inl e) = rw e refl
may_same p s t u left h (inr (inl b)) =
    let prime : nat_le u.item (primary_count p) ≡ true = le-leb _ _ b.0 in
    let one : nat_lt (s u.item) (high_at p u.item) ≡ true = lt-ltb _ _ (omega (arith, h, b.2)) in
    let two : nat_lt (t u.item) (high_at p u.item) ≡ true = lt-ltb _ _ (omega (arith, h, b.4)) in
    rw prime (one ∙ sym two)
may_same p s t u left h (inr (inr b)) = absurd (omega (arith, h, b.1))

module _ (p : Puzzle) (o : ℕ) (os : List ℕ) (s t : Marks) (a : Alike p (o ∷ os) s t) where
  passed : Alike p os s t
  passed i = fewer p i (holders_among p (o ∷ os) i) (holders_among p os i) (s i) (t i)
      (omega (arith, holders_cons p o os i)) (a i)

  take_same : may_take p s (uses_of p o) ≡ may_take p t (uses_of p o)
  take_same = all_same (λ u. may_hold p s u) (λ u. may_hold p t u) (uses_of p o) (λ u k.
      let held = held_here (uses_of p o) u k in
      let many : holders_among p (o ∷ os) u.item ≡ 1 + holders_among p os u.item =
      holders_cons p o os u.item ∙ ap (λ z. one_if z + holders_among p os u.item) held in
      may_same p s t u (holders_among p (o ∷ os) u.item) (omega (arith, many)) (a u.item))

  taken : Alike p os (taking p (uses_of p o) s) (taking p (uses_of p o) t)
  taken i = by_bool (nat_le i (primary_count p))
      (λ e.
      let prime = leb-true _ _ e in
      let new_s = taking_primary p (uses_of p o) s i prime in
      let new_t = taking_primary p (uses_of p o) t i prime in
      by_bool (is_some (colour_in (uses_of p o) i))
      (λ q.
      let many : holders_among p (o ∷ os) i ≡ 1 + holders_among p os i =
      holders_cons p o os i ∙ ap (λ z. one_if z + holders_among p os i) q in
      let one : taking p (uses_of p o) s i ≡ s i + 1 = new_s ∙ ap (λ z. cond z (s i + 1) (s i)) q in
      let two : taking p (uses_of p o) t i ≡ t i + 1 = new_t ∙ ap (λ z. cond z (t i + 1) (t i)) q in
      elim (a i) [
        | inl z ↦ inl (omega (arith, one, two, z))
        | inr (inl b) ↦ inr (inl (
          b.0,
          omega (arith, one, b.1),
          omega (arith, one, many, b.2),
          omega (arith, two, b.3),
          omega (arith, two, many, b.4),
        ))
        | inr (inr b) ↦ absurd (omega (arith, b.0, prime))
      ])
      (λ q.
      let one : taking p (uses_of p o) s i ≡ s i = new_s ∙ ap (λ z. cond z (s i + 1) (s i)) q in
      let two : taking p (uses_of p o) t i ≡ t i = new_t ∙ ap (λ z. cond z (t i + 1) (t i)) q in
      unchanged i one two))
      (λ e.
      let past = leb-false _ _ e in
      let new_s = taking_secondary p (uses_of p o) s i past in
      let new_t = taking_secondary p (uses_of p o) t i past in
      by_option (colour_in (uses_of p o) i)
      (λ q. unchanged i (new_s.0 q) (new_t.0 q))
      (λ c q. inl (new_s.1 c q ∙ sym (new_t.1 c q))))
    where
      unchanged : (i : ℕ) → taking p (uses_of p o) s i ≡ s i → taking p (uses_of p o) t i ≡ t i
          → ComeToSame p i (holders_among p os i) (taking p (uses_of p o) s i) (taking p (uses_of p o) t i)
      unchanged i one two = subst (λ n. ComeToSame p i (holders_among p os i) (taking p (uses_of p o) s i) n) (sym two)
          (subst (λ m. ComeToSame p i (holders_among p os i) m (t i)) (sym one) (passed i))

-- MARKS THAT COME TO THE SAME leave the same ways
pub ways_alike : (p : Puzzle) (os : List ℕ) (s t : Marks) → Alike p os s t → ways p os s ≡ ways p os t
ways_alike p [] s t a = ap one_if (met_same p s t a)
ways_alike p (o ∷ os) s t a =
    ap₂ (λ x y. x + y) (ways_alike p os s t (passed p o os s t a))
    (ap₂ (λ c n. cond c n 0) (take_same p o os s t a)
    (ways_alike p os (taking p (uses_of p o) s) (taking p (uses_of p o) t) (taken p o os s t a)))

-- one mark is another
pub one_forgotten : (p : Puzzle) (os : List ℕ) (s t : Marks) (item left : ℕ) → holders_among p os item ≤ left
    → ComeToSame p item left (t item) (s item) → ((i : ℕ) → i ≢ item → t i ≡ s i) → ways p os t ≡ ways p os s
one_forgotten p os s t item left h same others = ways_alike p os t s (λ i. by_bool (eqb i item)
    (λ e. subst (λ j. ComeToSame p j (holders_among p os j) (t j) (s j)) (sym (eqb-true _ _ e))
    (fewer p item left (holders_among p os item) (t item) (s item) h same))
    (λ e. inl (others i (λ q. let z = eq-eqb _ _ q in cc (z, e)))))

-- equal marks
pub ways_same : (p : Puzzle) (os : List ℕ) (s t : Marks) → ((i : ℕ) → s i ≡ t i) → ways p os s ≡ ways p os t
ways_same p os s t h = ways_alike p os s t (λ i. inl (h i))

-- ITEMS THAT CAN'T BE HELD OFTEN ENOUGH leave none
pub none_left : (p : Puzzle) (os : List ℕ) (s : Marks) (i left : ℕ) → holders_among p os i ≤ left
    → IsLost p i left (s i) → ways p os s ≡ 0
none_left p [] s i left h lost = by_bool (all_met p s)
    (λ e.
    let b = bounds_there p i lost.0.0 lost.0.1 in
    let low = met_at p s i b.0 e b.1 in
    absurd (omega (arith, low, low_of p i b.0 b.1, lost.1)))
    (λ e. rw e refl)
none_left p (o ∷ os) s i left h lost =
    let us = uses_of p o in
    let cons = holders_cons p o os i in
    let pass : ways p os s ≡ 0 = none_left p os s i left (omega (arith, cons, h)) lost in
    let now = taking_primary p us s i lost.0.1 in
    let take : ways p os (taking p us s) ≡ 0 = by_bool (is_some (colour_in us i))
    (λ q.
    let many : holders_among p (o ∷ os) i ≡ 1 + holders_among p os i =
    cons ∙ ap (λ z. one_if z + holders_among p os i) q in
    let here : taking p us s i ≡ s i + 1 = now ∙ ap (λ z. cond z (s i + 1) (s i)) q in
    none_left p os (taking p us s) i (holders_among p os i) (omega arith)
    (lost.0, omega (arith, lost.1, h, many, here)))
    (λ q.
    let here : taking p us s i ≡ s i = now ∙ ap (λ z. cond z (s i + 1) (s i)) q in
    none_left p os (taking p us s) i left (omega (arith, cons, h)) (lost.0, omega (arith, lost.1, here))) in
    by_bool (may_take p s us) (λ e. rw (e, pass, take) refl) (λ e. rw (e, pass) refl)

-- as they are told by what was read of keys
pub kept_by : (p : Puzzle) (os : List ℕ) (s t : Marks) (item left m n : ℕ) → holders_among p os item ≤ left
    → ComeToSame p item left m n → t item ≡ m → n ≡ s item → ((i : ℕ) → i ≢ item → t i ≡ s i)
    → ways p os t ≡ ways p os s
kept_by p os s t item left m n h same new old others = one_forgotten p os s t item left h
    (subst (λ a. ComeToSame p item left a (s item)) (sym new) (subst (λ b. ComeToSame p item left m b) old same)) others

pub lost_by : (p : Puzzle) (os : List ℕ) (s : Marks) (item left m : ℕ) → holders_among p os item ≤ left
    → IsLost p item left m → m ≡ s item → ways p os s ≡ 0
lost_by p os s item left m h lost here =
    none_left p os s item left h (subst (λ a. IsLost p item left a) here lost)

-- all lower bounds are met, or not
pub is_met : (p : Puzzle) (s : Marks) → ((j : ℕ) → 1 ≤ j → j ≤ primary_count p → low_at p j ≤ s j)
    → true ≡ all_met p s
is_met p s each = sym (at_met p s (λ i b e.
    let low = each i (some_number p i b e) (bound_primary p i b e) in omega (arith, low, low_of p i b e)))
  where
    some_number : (p : Puzzle) (i : ℕ) (b : Bounds) → bounds_at p i ≡ Some b → 1 ≤ i
    some_number p zero b e = cc
    some_number p (suc i) b e = omega arith

pub not_met : (p : Puzzle) (s : Marks) (j : ℕ) → 1 ≤ j → j ≤ primary_count p → s j < low_at p j → false ≡ all_met p s
not_met p s j h l less = by_bool (all_met p s)
    (λ e.
    let b = bounds_there p j h l in
    let low = met_at p s j b.0 e b.1 in
    absurd (omega (arith, low, low_of p j b.0 b.1, less)))
    (λ e. sym e)
