-- What a search for fair sets may do: take an option or leave it, and drop those that no fair set can have.
use Rattle.std.proofs.Common.{ℕ, zero, suc, ◌≡◌, ◌≢◌, ◌<◌, ◌≤◌, ◌^◌, ◌+◌, Bool, true, false, not, ◌&&◌, ◌||◌, ◌==◌}
use Rattle.std.proofs.Common.{refl, arith, sym, ◌∙◌, ap, ap₂, inl, inr, ◌⊎◌, [], ◌∷◌, bit_and, count_ones}
use Rattle.std.proofs.Common.{subst, slice_index, cond, eqb, eqb-true, eq-eqb, leb-true, le-leb}
use Rattle.std.specs.Int.{bit_at, trailing_zeros, w64}
use Rattle.std.specs.List.{list_all}
use Rattle.std.specs.Prelude.{sum_by}
use Rattle.std.proofs.lemmas.List.Sums.{sum_by-cons}
use Rattle.std.proofs.lemmas.Bool.{and_parts}
use Rattle.std.proofs.lemmas.Nat.{and_le_r}
use Rattle.std.proofs.lemmas.Nat.Bits.{bit_at_and, bit_at_or, bit_at-lt, bit_at-zero, bit_at-pow_same, bit_at-pow_other}
use Rattle.xc_words.specs.declared.bounded.BoundedWords.{BoundedWords}
use Rattle.xc_words.specs.Words.{bits_from, bits_of}
use Rattle.xc_words.specs.Bounded.{is_fair, none_apart, holds_within, fair_sets, times_in}
use Rattle.xc_words.proofs.BitLemmas.{cleared, bits_cleared}
use Rattle.xc_words.proofs.SetLemmas.{tally, ones_tally}
use Rattle.xc_words.proofs.SetLemmas.{joined, joined_same, joined_old, joined_new, joined_fits, joined_twice, ones_sub}
use Rattle.xc_words.proofs.SetLemmas.{ones_super, ones_least, ones_pow, pow_fits}

pub by_bool : {P : Type 0} (b : Bool) → (b ≡ true → P) → (b ≡ false → P) → P
by_bool true f g = f refl
by_bool false f g = g refl

pub by_bit : {P : Type 0} (m i : ℕ) → (bit_at m i ≡ 1 → P) → (bit_at m i ≡ 0 → P) → P
by_bit m i f g = by_number (bit_at m i) (bit_at-lt m i) f g
  where
    by_number : {P : Type 0} (b : ℕ) → b < 2 → (b ≡ 1 → P) → (b ≡ 0 → P) → P
    by_number zero l f g = g refl
    by_number (suc zero) l f g = f refl
    by_number (suc (suc b)) l f g = absurd (omega (arith, l))

pub not_same : (x y : ℕ) → eqb x y ≡ false → x ≢ y
not_same x y q s = grind (arith, q, s, eq-eqb)

differs : (x y : ℕ) → x ≢ y → eqb x y ≡ false
differs x y d = by_bool (eqb x y) (λ q. absurd (d (eqb-true x y q))) (λ q. q)

-- ======== The members of a word one by one.

pub bits_on : (a n m : ℕ) → bit_at m a ≡ 1 → bits_from a (suc n) m ≡ a ∷ bits_from (suc a) n m
bits_on a n m e =
    let z : a + 1 ≡ suc a = omega arith in rw e (ap (λ b. a ∷ bits_from b n m) z)

pub bits_off : (a n m : ℕ) → bit_at m a ≡ 0 → bits_from a (suc n) m ≡ bits_from (suc a) n m
bits_off a n m e = let z : a + 1 ≡ suc a = omega arith in rw e (ap (λ b. bits_from b n m) z)

bits_none : (a n : ℕ) → bits_from a n 0 ≡ []
bits_none a zero = refl
bits_none a (suc n) = bits_off a n 0 (bit_at-zero a) ∙ bits_none (suc a) n

-- how many members
tally_sum : (a n m : ℕ) → tally a n m ≡ sum_by (λ x. 1) (bits_from a n m)
tally_sum a zero m = refl
tally_sum a (suc n) m =
    let rest = tally_sum (suc a) n m in
    by_bit m a
    (λ e.
    let on = ap (sum_by (λ (x : ℕ). 1)) (bits_on a n m e) in
    omega (arith, rest, e, on, sum_by-cons (λ (x : ℕ). 1) a (bits_from (suc a) n m)))
    (λ e. let off = ap (sum_by (λ (x : ℕ). 1)) (bits_off a n m e) in omega (arith, rest, e, off))

ones_bits_by : (n m : ℕ) → m < 2 ^ n → count_ones m ≡ sum_by (λ x. 1) (bits_from 0 n m)
ones_bits_by n m f = ones_tally n m f ∙ tally_sum 0 n m

pub ones_bits : (m : ℕ) → m < 2 ^ 64 → count_ones m ≡ sum_by (λ x. 1) (bits_of m)
ones_bits = ones_bits_by 64

-- a test of all members
all_on : (f : ℕ → Bool) (a n m : ℕ) → list_all f (bits_from a n m) ≡ true → (i : ℕ) → a ≤ i → i < a + n
    → bit_at m i ≡ 1 → f i ≡ true
all_on f a zero m e i l h b = absurd (omega (arith, l, h))
all_on f a (suc n) m e i l h b = by_bool (eqb a i)
    (λ q.
    let same = eqb-true a i q in
    let here : list_all f (a ∷ bits_from (suc a) n m) ≡ true =
    ap (list_all f) (sym (bits_on a n m (subst (λ j. bit_at m j ≡ 1) (sym same) b))) ∙ e in
    subst (λ j. f j ≡ true) same (and_parts _ _ here).0)
    (λ q.
    let more : suc a ≤ i = omega (arith, l, not_same a i q) in
    all_on f (suc a) n m (rest (bit_at m a) (bit_at-lt m a) refl) i more (omega (arith, h)) b)
  where
    rest : (b : ℕ) → b < 2 → bit_at m a ≡ b → list_all f (bits_from (suc a) n m) ≡ true
    rest zero l z = ap (list_all f) (sym (bits_off a n m z)) ∙ e
    rest (suc zero) l z =
        (and_parts (f a) (list_all f (bits_from (suc a) n m)) (ap (list_all f) (sym (bits_on a n m z)) ∙ e)).1
    rest (suc (suc b)) l z = absurd (omega (arith, l))

all_back : (f : ℕ → Bool) (a n m : ℕ) → ((i : ℕ) → a ≤ i → i < a + n → bit_at m i ≡ 1 → f i ≡ true)
    → list_all f (bits_from a n m) ≡ true
all_back f a zero m h = refl
all_back f a (suc n) m h =
    let rest = all_back f (suc a) n m (λ i l k. h i (omega (arith, l)) (omega (arith, k))) in
    by_bit m a
    (λ e. ap (list_all f) (bits_on a n m e) ∙ ap₂ (λ x y. x && y) (h a (omega arith) (omega arith) e) rest)
    (λ e. ap (list_all f) (bits_off a n m e) ∙ rest)

-- what is a member, and none once the lowest is gone, is the lowest
pub only_lowest : (m i : ℕ) → 0 < m → m < 2 ^ 64 → i < 64 → bit_at m i ≡ 1 → bit_at (cleared m) i ≡ 0
    → i ≡ trailing_zeros w64 m
only_lowest m i some fits l b gone = by_bool (eqb i (trailing_zeros w64 m)) (λ q. eqb-true _ _ q)
    (λ q.
    let f : ℕ → Bool = λ j. not (eqb i j) in
    let rest = all_back f 0 64 (cleared m) (λ j k h c. by_bool (eqb i j)
    (λ r. absurd (omega (arith, c, gone, ap (bit_at (cleared m)) (eqb-true i j r))))
    (λ r. ap not r)) in
    let all : list_all f (bits_of m) ≡ true =
    ap (list_all f) (bits_cleared m some fits) ∙ ap₂ (λ x y. x && y) (ap not q) rest in
    let here = all_on f 0 64 m all i (omega arith) l b in
    absurd (bad (eqb i i) (eq-eqb i i refl) here))
  where
    bad : (b : Bool) → b ≡ true → not b ≡ true → ⊥
    bad b e f = cc

-- ======== Fair sets.

-- a set is fair
pub record IsFair (w : BoundedWords) (items t : ℕ) : Type 0 where
  pub beside : (x y : ℕ) → x < 64 → y < 64 → bit_at t x ≡ 1 → bit_at t y ≡ 1 → x ≢ y
      → bit_at (slice_index w.apart x) y ≡ 0
  pub within : (i : ℕ) → i < 64 → bit_at items i ≡ 1
      → (slice_index w.low i ≤ times_in w t i) × (times_in w t i ≤ slice_index w.high i)

pub fair_parts : (w : BoundedWords) (items t : ℕ) → is_fair w items t ≡ true → IsFair w items t
fair_parts w items t e =
    let parts = and_parts (none_apart w t) (list_all (holds_within w t) (bits_of items)) e in
    record {
      beside = λ x y l k a b d.
          let one = all_on _ 0 64 t parts.0 x (omega arith) l a in
          let two = all_on _ 0 64 t one y (omega arith) k b in
          pair x y (bit_at (slice_index w.apart x) y) (bit_at-lt (slice_index w.apart x) y) d two;
      within = λ i l h.
          let one = all_on (holds_within w t) 0 64 items parts.1 i (omega arith) l h in
          let two = and_parts _ _ one in
          (leb-true _ _ two.0, leb-true _ _ two.1);
    }
  where
    pair : (x y b : ℕ) → b < 2 → x ≢ y → (x == y || not (b == 1)) ≡ true → b ≡ 0
    pair x y zero l d e = refl
    pair x y (suc zero) l d e =
        let no : (x == y) ≡ false = differs x y d in
        absurd (bad (x == y) no e)
      where
        bad : (b : Bool) → b ≡ false → (b || false) ≡ true → ⊥
        bad b f t = cc
    pair x y (suc (suc b)) l d e = absurd (omega (arith, l))

pub fair_back : (w : BoundedWords) (items t : ℕ) → IsFair w items t → is_fair w items t ≡ true
fair_back w items t f = ap₂ (λ a b. a && b)
    (all_back _ 0 64 t (λ x l k a. all_back _ 0 64 t (λ y m n b.
    by_bool (x == y) (λ q. rw q refl)
    (λ q. let no = f.beside x y k n a b (not_same x y q) in rw (q, no) refl))))
    (all_back (holds_within w t) 0 64 items (λ i l k h.
    let in_bounds = f.within i k h in
    ap₂ (λ a b. a && b) (le-leb _ _ in_bounds.0) (le-leb _ _ in_bounds.1)))

-- no set that has all of this one is fair
abbrev pub IsNever : BoundedWords → ℕ → ℕ → Type 0
IsNever w items s = (t : ℕ) → t < 2 ^ 64 → ((y : ℕ) → bit_at s y ≡ 1 → bit_at t y ≡ 1) → IsFair w items t → ⊥

not_fair : (w : BoundedWords) (items t : ℕ) → (IsFair w items t → ⊥) → is_fair w items t ≡ false
not_fair w items t f = by_bool (is_fair w items t) (λ e. absurd (f (fair_parts w items t e))) (λ e. e)

module _ (w : BoundedWords) (items : ℕ) where
  abbrev pub sets : ℕ → ℕ → ℕ → ℕ → ℕ
  sets a n m s = fair_sets w items (bits_from a n m) s

  on : (a n m s : ℕ) → bit_at m a ≡ 1 → sets a (suc n) m s ≡ sets (suc a) n m s + sets (suc a) n m (joined s a)
  on a n m s e = ap (λ xs. fair_sets w items xs s) (bits_on a n m e)

  off : (a n m s : ℕ) → bit_at m a ≡ 0 → sets a (suc n) m s ≡ sets (suc a) n m s
  off a n m s e = ap (λ xs. fair_sets w items xs s) (bits_off a n m e)

  -- no set is fair that has this one, and beside it only some of these
  pub none_fair : (a n m s : ℕ) → a + n ≤ 64 → s < 2 ^ 64
      → ((t : ℕ) → t < 2 ^ 64 → ((y : ℕ) → bit_at s y ≡ 1 → bit_at t y ≡ 1)
      → ((y : ℕ) → bit_at t y ≡ 1 → (bit_at s y ≡ 1) ⊎ (bit_at m y ≡ 1)) → IsFair w items t → ⊥)
      → sets a n m s ≡ 0
  none_fair a zero m s l f h =
      ap (λ b. cond b 1 0) (not_fair w items s (h s f (λ y e. e) (λ y e. inl e)))
  none_fair a (suc n) m s l f h =
      let without = none_fair (suc a) n m s (omega (arith, l)) f h in
      by_bit m a
      (λ e.
      let with = none_fair (suc a) n m (joined s a) (omega (arith, l)) (joined_fits s a f (omega (arith, l)))
      (λ t k some most. h t k (λ y b. some y (joined_old s a y b))
      (λ y b. elim (most y b) [
        | inl c ↦ by_bool (eqb y a)
            (λ q. inr (subst (λ j. bit_at m j ≡ 1) (sym (eqb-true y a q)) e))
            (λ q. inl (joined_new s a y c (not_same y a q)))
        | inr c ↦ inr c
      ])) in
      omega (arith, on a n m s e, without, with))
      (λ e. off a n m s e ∙ without)

  -- options that no fair set can have are dropped
  pub dropped : (a n m k s : ℕ) → a + n ≤ 64 → s < 2 ^ 64
      → ((y : ℕ) → a ≤ y → y < a + n → (bit_at k y ≡ bit_at m y) ⊎ ((bit_at m y ≡ 1) × (bit_at k y ≡ 0)
      × IsNever w items (joined s y)))
      → sets a n m s ≡ sets a n k s
  dropped a zero m k s l f h = refl
  dropped a (suc n) m k s l f h =
      let without = dropped (suc a) n m k s (omega (arith, l)) f
      (λ y i j. h y (omega (arith, i)) (omega (arith, j))) in
      elim (h a (omega arith) (omega arith)) [
        | inl same ↦
            by_bit m a
            (λ e.
            let with = dropped (suc a) n m k (joined s a) (omega (arith, l)) (joined_fits s a f (omega (arith, l)))
            (λ y i j. elim (h y (omega (arith, i)) (omega (arith, j))) [
              | inl c ↦ inl c
              | inr c ↦ inr (c.0, c.1, λ t g some. c.2 t g (λ z b. wider s a y t z some b))
            ]) in
            omega (arith, on a n m s e, on a n k s (same ∙ e), without, with))
            (λ e. off a n m s e ∙ without ∙ sym (off a n k s (same ∙ e)))
        | inr c ↦
            let with = none_fair (suc a) n m (joined s a) (omega (arith, l)) (joined_fits s a f (omega (arith, l)))
            (λ t g some most. c.2 t g some) in
            omega (arith, on a n m s c.0, off a n k s c.1, without, with)
      ]
    where
      wider : (s a y t z : ℕ) → ((v : ℕ) → bit_at (joined (joined s a) y) v ≡ 1 → bit_at t v ≡ 1)
          → bit_at (joined s y) z ≡ 1 → bit_at t z ≡ 1
      wider s a y t z some b = by_bool (eqb z y)
          (λ q. some z (subst (λ v. bit_at (joined (joined s a) y) v ≡ 1) (sym (eqb-true z y q))
          (joined_same (joined s a) y)))
          (λ q. some z (joined_old (joined s a) y z (joined_old s a z (joined_new s y z b (not_same z y q)))))

  -- the sets without an option, and those with it
  pub parted : (a n m k x s : ℕ) → a + n ≤ 64 → s < 2 ^ 64 → a ≤ x → x < a + n → bit_at m x ≡ 1 → bit_at k x ≡ 0
      → ((y : ℕ) → y < 64 → y ≢ x → bit_at k y ≡ bit_at m y)
      → sets a n m s ≡ sets a n k s + sets a n k (joined s x)
  parted a zero m k x s l f i j e z same = absurd (omega (arith, i, j))
  parted a (suc n) m k x s l f i j e z same = by_bool (eqb a x)
      (λ q.
      let is = eqb-true a x q in
      let here : bit_at m a ≡ 1 = subst (λ y. bit_at m y ≡ 1) (sym is) e in
      let gone : bit_at k a ≡ 0 = subst (λ y. bit_at k y ≡ 0) (sym is) z in
      let rest : (t : ℕ) → t < 2 ^ 64 → sets (suc a) n m t ≡ sets (suc a) n k t =
      λ t g. dropped (suc a) n m k t (omega (arith, l)) g
      (λ y c d. inl (same y (omega (arith, l, d)) (λ v. omega (arith, v, is, c)))) in
      let one = rest s f in
      let two = rest (joined s a) (joined_fits s a f (omega (arith, l))) in
      let to = ap (λ y. sets a (suc n) k (joined s y)) is in
      omega (arith, on a n m s here, off a n k s gone, off a n k (joined s a) gone, one, two, to))
      (λ q.
      let more : suc a ≤ x = omega (arith, i, not_same a x q) in
      let without = parted (suc a) n m k x s (omega (arith, l)) f more (omega (arith, j)) e z same in
      let stays = same a (omega (arith, l)) (not_same a x q) in
      by_bit m a
      (λ b.
      let with = parted (suc a) n m k x (joined s a) (omega (arith, l)) (joined_fits s a f (omega (arith, l))) more
      (omega (arith, j)) e z same in
      let turned = ap (sets (suc a) n k) (joined_twice s a x f (omega (arith, l)) (omega (arith, j, l))) in
      omega (arith, on a n m s b, on a n k s (stays ∙ b), on a n k (joined s x) (stays ∙ b), without, with, turned))
      (λ b. omega (arith, off a n m s b, off a n k s (stays ∙ b), off a n k (joined s x) (stays ∙ b), without)))

  -- no option is left
  pub none_left : (m s : ℕ) → m ≡ 0 → IsFair w items s → 1 ≡ fair_sets w items (bits_of m) s
  none_left m s e f = sym (ap (λ m. fair_sets w items (bits_of m) s) e
      ∙ ap (λ xs. fair_sets w items xs s) (bits_none 0 64) ∙ ap (λ b. cond b 1 0) (fair_back w items s f))

-- ======== How often a set holds an item.

-- a set that has one member more of another's
pub more_of : (m s t y : ℕ) → s < 2 ^ 64 → t < 2 ^ 64 → y < 64
    → ((z : ℕ) → z < 64 → bit_at s z ≡ 1 → bit_at t z ≡ 1)
    → bit_at m y ≡ 1 → bit_at s y ≡ 0 → bit_at t y ≡ 1 → count_ones (bit_and m s) + 1 ≤ count_ones (bit_and m t)
more_of m s t y f g l some h a b =
    let both = ones_super (bit_and m t) (bit_and m s) (2 ^ y) (omega (arith, g, and_le_r m t))
    (omega (arith, f, and_le_r m s)) (pow_fits y l)
    (λ z k. by_bool (eqb z y)
    (λ q.
    let is = eqb-true z y q in
    let one : bit_at (2 ^ y) z ≡ 1 = ap (bit_at (2 ^ y)) is ∙ bit_at-pow_same y in
    let out : bit_at s z ≡ 0 = ap (bit_at s) is ∙ a in
    let in_t : bit_at t z ≡ 1 = ap (bit_at t) is ∙ b in
    let in_m : bit_at m z ≡ 1 = ap (bit_at m) is ∙ h in
    omega (arith, bit_at_and m t z, bit_at_and m s z, one, out, in_t, in_m))
    (λ q.
    let none = bit_at-pow_other y z (not_same z y q) in
    by_bit s z
    (λ e. let in_t = some z k e in
    omega (arith, bit_at_and m t z, bit_at_and m s z, none, e, in_t))
    (λ e. omega (arith, bit_at_and m s z, none, e)))) in
    omega (arith, both, ones_pow y)

module _ (w : BoundedWords) (i : ℕ) where
  both_fit : (t : ℕ) → t < 2 ^ 64 → bit_and (slice_index w.holders i) t < 2 ^ 64
  both_fit t f = omega (arith, f, and_le_r (slice_index w.holders i) t)

  pub times_least : (s t : ℕ) → s < 2 ^ 64 → t < 2 ^ 64
      → ((y : ℕ) → y < 64 → bit_at (slice_index w.holders i) y ≡ 1 → bit_at s y ≡ 1 → bit_at t y ≡ 1)
      → times_in w s i ≤ times_in w t i
  times_least s t f g h = ones_least _ _ (both_fit s f) (both_fit t g)
      (λ y l b. let two = both_bits s y b in both_back t y two.0 (h y l two.0 two.1))
    where
      both_bits : (s y : ℕ) → bit_at (bit_and (slice_index w.holders i) s) y ≡ 1
          → (bit_at (slice_index w.holders i) y ≡ 1) × (bit_at s y ≡ 1)
      both_bits s y b =
          let e = bit_at_and (slice_index w.holders i) s y in
          let l = bit_at-lt (slice_index w.holders i) y in
          let k = bit_at-lt s y in
          (omega (arith, e, b, l, k), omega (arith, e, b, l, k))

      both_back : (t y : ℕ) → bit_at (slice_index w.holders i) y ≡ 1 → bit_at t y ≡ 1
          → bit_at (bit_and (slice_index w.holders i) t) y ≡ 1
      both_back t y a b = omega (arith, bit_at_and (slice_index w.holders i) t y, a, b)

  -- a set that has one option more of the item
  pub times_more : (s t y : ℕ) → s < 2 ^ 64 → t < 2 ^ 64 → y < 64
      → ((z : ℕ) → z < 64 → bit_at s z ≡ 1 → bit_at t z ≡ 1)
      → bit_at (slice_index w.holders i) y ≡ 1 → bit_at s y ≡ 0 → bit_at t y ≡ 1
      → times_in w s i + 1 ≤ times_in w t i
  times_more = more_of (slice_index w.holders i)

  -- and one that has at most one option more
  pub times_one : (s y : ℕ) → s < 2 ^ 64 → y < 64 → times_in w (joined s y) i ≤ times_in w s i + 1
  times_one s y f l =
      let m = slice_index w.holders i in
      let both = ones_sub (bit_and m (joined s y)) (bit_and m s) (2 ^ y) (both_fit _ (joined_fits s y f l))
      (both_fit s f) (pow_fits y l)
      (λ z k. omega (arith, bit_at_and m (joined s y) z, bit_at_and m s z, bit_at_or s (2 ^ y) z)) in
      omega (arith, both, ones_pow y)

  -- one that has only some of these options beside
  pub times_most : (s t left : ℕ) → s < 2 ^ 64 → t < 2 ^ 64 → left < 2 ^ 64
      → ((z : ℕ) → bit_at t z ≡ 1 → (bit_at s z ≡ 1) ⊎ (bit_at left z ≡ 1))
      → times_in w t i ≤ times_in w s i + count_ones (bit_and (slice_index w.holders i) left)
  times_most s t left f g k h =
      let m = slice_index w.holders i in
      ones_sub (bit_and m t) (bit_and m s) (bit_and m left) (both_fit t g) (both_fit s f) (both_fit left k)
      (λ z l. by_bit t z
      (λ e. elim (h z e) [
        | inl c ↦ omega (arith, bit_at_and m t z, bit_at_and m s z, c, e)
        | inr c ↦ omega (arith, bit_at_and m t z, bit_at_and m left z, c, e)
      ])
      (λ e. omega (arith, bit_at_and m t z, e)))
