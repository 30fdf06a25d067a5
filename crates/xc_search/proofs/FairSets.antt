-- The fair sets of some options in a list, each once, and sets by their members.
use Rattle.std.proofs.Common.{ℕ, zero, suc, ◌≡◌, ◌≢◌, ◌<◌, ◌≤◌, ◌^◌, ◌+◌, Bool, true, false, refl, arith, sym, ◌∙◌}
use Rattle.std.proofs.Common.{ap, ap₂, inl, inr, ◌⊎◌, List, [], ◌∷◌, ◌++◌, length, cond, subst, eqb, eqb-true, bit_or}
use Rattle.std.proofs.Common.{length-append}
use Rattle.std.specs.Int.{bit_at}
use Rattle.std.specs.Prelude.{if◌then◌else◌}
use Rattle.std.proofs.lemmas.Nat.Bits.{same_from_bits_below, bit_at-zero}
use Rattle.xc_text.proofs.ListLemmas.{IsIn, EachTwo, EachTwo-append, by_bool, in-append, append-in_left}
use Rattle.xc_text.proofs.ListLemmas.{append-in_right}
use Rattle.xc_words.specs.declared.bounded.BoundedWords.{BoundedWords}
use Rattle.xc_words.specs.Words.{bits_from}
use Rattle.xc_words.specs.Bounded.{is_fair, fair_sets}
use Rattle.xc_words.proofs.SetLemmas.{joined, joined_same, joined_old, joined_new, joined_other, joined_fits}
use Rattle.xc_words.proofs.FairLemmas.{by_bit, not_same, bits_on, bits_off}

-- the fair sets that have the options of one set, and of some others each or not
abbrev pub fair_list : BoundedWords → ℕ → List ℕ → ℕ → List ℕ
fair_list w items [] s = if is_fair w items s then s ∷ [] else []
fair_list w items (x ∷ xs) s = fair_list w items xs s ++ fair_list w items xs (bit_or s (2 ^ x))

pub fair_many : (w : BoundedWords) (items : ℕ) (xs : List ℕ) (s : ℕ)
    → length (fair_list w items xs s) ≡ fair_sets w items xs s
fair_many w items [] s = one (is_fair w items s)
  where
    one : (b : Bool) → length (if b then s ∷ [] else []) ≡ (if b then 1 else 0)
    one true = refl
    one false = refl
fair_many w items (x ∷ xs) s =
    length-append (fair_list w items xs s) (fair_list w items xs (bit_or s (2 ^ x)))
    ∙ ap₂ (λ a b. a + b) (fair_many w items xs s) (fair_many w items xs (bit_or s (2 ^ x)))

-- a set is one of those that have this one, and beside it some of these options
pub record IsOneOf (w : BoundedWords) (items a m s t : ℕ) : Type 0 where
  pub fair : is_fair w items t ≡ true
  pub fits : t < 2 ^ 64
  pub some : (y : ℕ) → bit_at s y ≡ 1 → bit_at t y ≡ 1
  pub most : (y : ℕ) → bit_at t y ≡ 1 → (bit_at s y ≡ 1) ⊎ ((a ≤ y) × (bit_at m y ≡ 1))

module _ (w : BoundedWords) (items : ℕ) where
  on : (a n m s : ℕ) → bit_at m a ≡ 1
      → fair_list w items (bits_from a (suc n) m) s
      ≡ fair_list w items (bits_from (suc a) n m) s ++ fair_list w items (bits_from (suc a) n m) (joined s a)
  on a n m s e = ap (λ xs. fair_list w items xs s) (bits_on a n m e)

  off : (a n m s : ℕ) → bit_at m a ≡ 0
      → fair_list w items (bits_from a (suc n) m) s ≡ fair_list w items (bits_from (suc a) n m) s
  off a n m s e = ap (λ xs. fair_list w items xs s) (bits_off a n m e)

  only : (b : Bool) (s t : ℕ) → IsIn (if b then s ∷ [] else []) t → (b ≡ true) × (s ≡ t)
  only true s t (inl e) = (refl, e)
  only true s t (inr h) = absurd h
  only false s t h = absurd h

  later : (a m s t : ℕ) → IsOneOf w items (suc a) m s t → IsOneOf w items a m s t
  later a m s t o = record {
    fair = o.fair;
    fits = o.fits;
    some = o.some;
    most = λ y b. elim (o.most y b) [ inl c ↦ inl c | inr c ↦ inr (omega (arith, c.0), c.1) ];
  }

  pub in_fair : (a n m s t : ℕ) → a + n ≤ 64 → s < 2 ^ 64 → IsIn (fair_list w items (bits_from a n m) s) t
      → IsOneOf w items a m s t
  in_fair a zero m s t l f h =
      let at = only (is_fair w items s) s t h in
      subst (IsOneOf w items a m s) at.1
      (record { fair = at.0; fits = f; some = λ y b. b; most = λ y b. inl b })
  in_fair a (suc n) m s t l f h = by_bit m a
      (λ e. elim (in-append _ _ t (subst (λ ts. IsIn ts t) (on a n m s e) h)) [
        | inl c ↦ later a m s t (in_fair (suc a) n m s t (omega (arith, l)) f c)
        | inr c ↦
            let o = in_fair (suc a) n m (joined s a) t (omega (arith, l)) (joined_fits s a f (omega (arith, l))) c in
            record {
              fair = o.fair;
              fits = o.fits;
              some = λ y b. o.some y (joined_old s a y b);
              most = λ y b. elim (o.most y b) [
                | inl d ↦ by_bool (eqb y a)
                    (λ q. let is = eqb-true y a q in inr (omega (arith, is), ap (bit_at m) is ∙ e))
                    (λ q. inl (joined_new s a y d (not_same y a q)))
                | inr d ↦ inr (omega (arith, d.0), d.1)
              ];
            }
      ])
      (λ e. later a m s t (in_fair (suc a) n m s t (omega (arith, l)) f (subst (λ ts. IsIn ts t) (off a n m s e) h)))

  pub fair_in : (a n m s t : ℕ) → a + n ≡ 64 → s < 2 ^ 64 → t < 2 ^ 64 → is_fair w items t ≡ true
      → ((y : ℕ) → y < a → bit_at t y ≡ bit_at s y) → ((y : ℕ) → a ≤ y → bit_at s y ≡ 0)
      → ((y : ℕ) → a ≤ y → bit_at t y ≡ 1 → bit_at m y ≡ 1) → IsIn (fair_list w items (bits_from a n m) s) t
  fair_in a zero m s t e f g fair same none most =
      let is : s ≡ t = same_from_bits_below 64 s t f g (λ y l. sym (same y (omega (arith, l, e)))) in
      last (is_fair w items s) (ap (is_fair w items) is ∙ fair) is
    where
      last : (b : Bool) → b ≡ true → s ≡ t → IsIn (if b then s ∷ [] else []) t
      last true q is = inl is
      last false q is = cc
  fair_in a (suc n) m s t e f g fair same none most = by_bit t a
      (λ b.
      let there = most a (omega arith) b in
      let in_m = fair_in (suc a) n m (joined s a) t (omega (arith, e)) (joined_fits s a f (omega (arith, e))) g fair
      (λ y l. by_bool (eqb y a)
      (λ q. let is = eqb-true y a q in
      ap (bit_at t) is ∙ b ∙ sym (joined_same s a) ∙ sym (ap (bit_at (joined s a)) is))
      (λ q. let d = not_same y a q in same y (omega (arith, l, d)) ∙ sym (joined_other s a y d)))
      (λ y l. joined_other s a y (λ q. omega (arith, q, l)) ∙ none y (omega (arith, l)))
      (λ y l c. most y (omega (arith, l)) c) in
      subst (λ ts. IsIn ts t) (sym (on a n m s there)) (append-in_right _ _ t in_m))
      (λ b.
      let in_m = fair_in (suc a) n m s t (omega (arith, e)) f g fair
      (λ y l. by_bool (eqb y a)
      (λ q. let is = eqb-true y a q in
      ap (bit_at t) is ∙ b ∙ sym (none a (omega arith)) ∙ sym (ap (bit_at s) is))
      (λ q. let d = not_same y a q in same y (omega (arith, l, d))))
      (λ y l. none y (omega (arith, l)))
      (λ y l c. most y (omega (arith, l)) c) in
      by_bit m a
      (λ c. subst (λ ts. IsIn ts t) (sym (on a n m s c)) (append-in_left _ _ t in_m))
      (λ c. subst (λ ts. IsIn ts t) (sym (off a n m s c)) in_m))

  pub fair_differ : (a n m s : ℕ) → a + n ≤ 64 → s < 2 ^ 64 → ((y : ℕ) → a ≤ y → bit_at s y ≡ 0)
      → EachTwo (λ (t u : ℕ). t ≢ u) (fair_list w items (bits_from a n m) s)
  fair_differ a zero m s l f none = last (is_fair w items s)
    where
      last : (b : Bool) → EachTwo (λ (t u : ℕ). t ≢ u) (if b then s ∷ [] else [])
      last true = (tt, tt)
      last false = tt
  fair_differ a (suc n) m s l f none =
      let without = fair_differ (suc a) n m s (omega (arith, l)) f (λ y k. none y (omega (arith, k))) in
      by_bit m a
      (λ e.
      let fits = joined_fits s a f (omega (arith, l)) in
      let with = fair_differ (suc a) n m (joined s a) (omega (arith, l)) fits
      (λ y k. joined_other s a y (λ q. omega (arith, q, k)) ∙ none y (omega (arith, k))) in
      subst (EachTwo (λ (t u : ℕ). t ≢ u)) (sym (on a n m s e))
      (EachTwo-append (λ (t u : ℕ). t ≢ u) (fair_list w items (bits_from (suc a) n m) s)
      (fair_list w items (bits_from (suc a) n m) (joined s a)) without with
      (λ t u h k q.
      let one = in_fair (suc a) n m s t (omega (arith, l)) f h in
      let two = in_fair (suc a) n m (joined s a) u (omega (arith, l)) fits k in
      let has_a : bit_at t a ≡ 1 = ap (λ z. bit_at z a) q ∙ two.some a (joined_same s a) in
      elim (one.most a has_a) [
        | inl c ↦ omega (arith, c, none a (omega arith))
        | inr c ↦ omega (arith, c.0)
      ])))
      (λ e. subst (EachTwo (λ (t u : ℕ). t ≢ u)) (sym (off a n m s e)) without)

-- ======== A set by its members.

-- of the first n places those that pass
abbrev pub set_of : (ℕ → Bool) → ℕ → ℕ
set_of f zero = 0
set_of f (suc n) = cond (f n) (joined (set_of f n) n) (set_of f n)

pub set_fits : (f : ℕ → Bool) (n : ℕ) → n ≤ 64 → set_of f n < 2 ^ 64
set_fits f zero l = omega arith
set_fits f (suc n) l =
    let rest = set_fits f n (omega (arith, l)) in
    by_bool (f n)
    (λ e. subst (λ b. cond b (joined (set_of f n) n) (set_of f n) < 2 ^ 64) (sym e)
    (joined_fits (set_of f n) n rest (omega (arith, l))))
    (λ e. subst (λ b. cond b (joined (set_of f n) n) (set_of f n) < 2 ^ 64) (sym e) rest)

-- a member is one that passes
pub set_on : (f : ℕ → Bool) (n y : ℕ) → y < n → f y ≡ true → bit_at (set_of f n) y ≡ 1
set_on f zero y l e = absurd (omega (arith, l))
set_on f (suc n) y l e = by_bool (eqb y n)
    (λ q.
    let is = eqb-true y n q in
    let here : f n ≡ true = sym (ap f is) ∙ e in
    subst (λ b. bit_at (cond b (joined (set_of f n) n) (set_of f n)) y ≡ 1) (sym here)
    (ap (bit_at (joined (set_of f n) n)) is ∙ joined_same (set_of f n) n))
    (λ q.
    let rest = set_on f n y (let d = not_same y n q in omega (arith, l, d)) e in
    by_bool (f n)
    (λ h. subst (λ b. bit_at (cond b (joined (set_of f n) n) (set_of f n)) y ≡ 1) (sym h)
    (joined_old (set_of f n) n y rest))
    (λ h. subst (λ b. bit_at (cond b (joined (set_of f n) n) (set_of f n)) y ≡ 1) (sym h) rest))

pub on_set : (f : ℕ → Bool) (n y : ℕ) → bit_at (set_of f n) y ≡ 1 → (y < n) × (f y ≡ true)
on_set f zero y b = absurd (omega (arith, b, bit_at-zero y))
on_set f (suc n) y b = by_bool (f n)
    (λ h.
    let c : bit_at (joined (set_of f n) n) y ≡ 1 =
    subst (λ b. bit_at (cond b (joined (set_of f n) n) (set_of f n)) y ≡ 1) h b in
    by_bool (eqb y n)
    (λ q. let is = eqb-true y n q in (omega (arith, is), ap f is ∙ h))
    (λ q. let rest = on_set f n y (joined_new (set_of f n) n y c (not_same y n q)) in (omega (arith, rest.0), rest.1)))
    (λ h.
    let rest = on_set f n y (subst (λ b. bit_at (cond b (joined (set_of f n) n) (set_of f n)) y ≡ 1) h b) in
    (omega (arith, rest.0), rest.1))
