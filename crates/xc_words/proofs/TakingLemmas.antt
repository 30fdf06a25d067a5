-- What becomes of the fair sets where an option is taken or left.
use Rattle.std.proofs.Common.{ℕ, ◌≡◌, ◌≢◌, ◌<◌, ◌≤◌, ◌^◌, ◌+◌, ◌-◌, arith, sym, ◌∙◌, ap, inl, inr, ◌⊎◌}
use Rattle.std.proofs.Common.{bit_and, bit_or, count_ones, subst, slice_index, eqb, eqb-true}
use Rattle.std.specs.Int.{bit_at, trailing_zeros, w64}
use Rattle.std.proofs.lemmas.Nat.Bits.{bit_at_and, bit_at-lt, bit_at_ones, bit_at-trailing_zeros, same_from_bits_below}
use Rattle.std.proofs.lemmas.Nat.Bits.{bit_at-zero}
use Rattle.std.proofs.lemmas.Nat.{and_le_r, zero_from_ones}
use Rattle.std.proofs.lemmas.Bool.{cases_lt}
use Rattle.xc_words.specs.declared.bounded.BoundedWords.{BoundedWords}
use Rattle.xc_words.specs.declared.bounded.Branch.{Branch}
use Rattle.xc_words.specs.Words.{bits_of}
use Rattle.xc_words.specs.Bounded.{fair_sets, times_in, AreOfOptions}
use Rattle.xc_words.specs.inner.Fair.{IsBranchOf, IsBeside, IsRight, IsWithout}
use Rattle.xc_words.proofs.SetLemmas.{ones_none}
use Rattle.xc_words.proofs.SetLemmas.{joined, joined_same, joined_old, joined_new, joined_other, joined_fits}
use Rattle.xc_words.proofs.SetLemmas.{some_member}
use Rattle.xc_words.proofs.FairLemmas.{by_bool, by_bit, not_same, IsNever, none_fair, dropped, parted, none_left}
use Rattle.xc_words.proofs.FairLemmas.{times_least, times_more, times_one, times_most, more_of}

-- the first member of some of a set is one of both
pub first_of : (m left : ℕ) → left < 2 ^ 64 → 0 < count_ones (bit_and m left)
    → (trailing_zeros w64 (bit_and m left) < 64) × (bit_at m (trailing_zeros w64 (bit_and m left)) ≡ 1)
    × (bit_at left (trailing_zeros w64 (bit_and m left)) ≡ 1)
first_of m left f some =
    let t = bit_at-trailing_zeros w64 (bit_and m left) (some_member _ some) (omega (arith, f, and_le_r m left)) in
    let x = trailing_zeros w64 (bit_and m left) in
    let e = bit_at_and m left x in
    let l = bit_at-lt m x in
    let k = bit_at-lt left x in
    (t.0, omega (arith, e, t.1, l, k), omega (arith, e, t.1, l, k))

-- the words are those of fewer options too
of_less : (w : BoundedWords) (items left rest : ℕ) → ((y : ℕ) → y < 64 → bit_at rest y ≡ 1 → bit_at left y ≡ 1)
    → AreOfOptions w items left → AreOfOptions w items rest
of_less w items left rest less of = record {
  both = λ x y l k a b c. of.both x y l k (less x l a) (less y k b) c;
  some = of.some;
  known = λ x i l k a b. of.known x i l k (less x l a) b;
  held = λ x i l k a b c. elim (of.held x i l k (less x l a) b c) [
    | inl many ↦ inl many
    | inr all ↦ inr (λ y m d e h. all y m (less y m d) e h)
  ];
}

module _ (w : BoundedWords) (items left set unmet : ℕ) (right : IsRight w items left set unmet)
    (fits : left < 2 ^ 64) (set_fits : set < 2 ^ 64) where
  -- with fewer items that are unmet
  pub right_closed : (new : ℕ) → ((i : ℕ) → i < 64 → bit_at new i ≡ 1 → bit_at unmet i ≡ 1)
      → ((i : ℕ) → i < 64 → bit_at unmet i ≡ 1
      → (bit_at new i ≡ 1) ⊎ (slice_index w.low i ≤ times_in w set i)) → IsRight w items left set new
  right_closed new less closed = record {
    words = right.words;
    sound = right.sound;
    next = right.next;
    unmet_known = λ i l b. right.unmet_known i l (less i l b);
    met = λ i l b. elim (right.met i l b) [ inl c ↦ closed i l c | inr c ↦ inr c ];
  }

  -- no item needs an option, and none is left
  pub all_met : (b : Branch) → IsBranchOf w unmet set b → b.need ≡ 0 → count_ones (bit_and b.options left) ≤ b.need
      → 1 ≡ fair_sets w items (bits_of left) set
  all_met b of e few = elim of [
    | inl a ↦ none_left w items left set (none left fits b.options a.1
        (omega (arith, few, e))) (record {
          beside = right.sound.beside;
          within = λ i l h.
              let low : slice_index w.low i ≤ times_in w set i =
              elim (right.met i l h) [ inl c ↦ a.2 i l c | inr c ↦ c ] in
              (low, right.sound.within i l h);
        })
    | inr a ↦ absurd (omega (arith, e, a.5))
  ]
    where
      none : (left : ℕ) → left < 2 ^ 64 → (m : ℕ) → m ≡ 2 ^ 64 - 1 → count_ones (bit_and m left) ≤ 0 → left ≡ 0
      none left f m e few =
          let no = zero_from_ones (bit_and m left) (omega (arith, few)) in
          same_from_bits_below 64 left 0 f (omega arith) (λ i l.
          let one : bit_at m i ≡ 1 = ap (λ n. bit_at n i) e ∙ bit_at_ones 64 i l in
          let zero : bit_at (bit_and m left) i ≡ 0 = ap (λ n. bit_at n i) no ∙ bit_at-zero i in
          omega (arith, bit_at_and m left i, one, zero, bit_at-lt left i, bit_at-zero i))

  -- an item needs more options than are left of it
  pub lacking : (b : Branch) → IsBranchOf w unmet set b → (rest : ℕ) → rest < 2 ^ 64
      → count_ones (bit_and b.options rest) < b.need → fair_sets w items (bits_of rest) set ≡ 0
  lacking b of rest f few = elim of [
    | inl a ↦ absurd (omega (arith, a.0, few))
    | inr a ↦ none_fair w items 0 64 rest set (omega arith) set_fits (λ t g some most fair.
        let i = a.0 in
        let bound = (fair.within i a.1 (right.unmet_known i a.1 a.2)).0 in
        let many = times_most w i set t rest set_fits g f most in
        let few_here = subst (λ m. count_ones (bit_and m rest) < b.need) a.3 few in
        absurd (omega (arith, bound, many, few_here, a.4)))
  ]

  module _ (x : ℕ) (within : x < 64) (known : bit_at left x ≡ 1) (rest : ℕ) (out : IsWithout left x rest) where
    kept : (y : ℕ) → y < 64 → bit_at rest y ≡ 1 → (bit_at left y ≡ 1) × (y ≢ x)
    kept y l b = by_bool (eqb y x)
        (λ q. absurd (omega (arith, b, ap (bit_at rest) (eqb-true y x q), out.0)))
        (λ q. let d = not_same y x q in (sym (out.1 y l d) ∙ b, d))

    -- without the option
    pub right_without : IsRight w items rest set unmet
    right_without = record {
      words = of_less w items left rest (λ y l b. (kept y l b).0) right.words;
      sound = right.sound;
      next = λ y l b. right.next y l (kept y l b).0;
      unmet_known = right.unmet_known;
      met = right.met;
    }

    module _ (stay : ℕ) (beside : IsBeside w rest (joined set x) x stay) where
      abbrev pub taken : ℕ
      taken = joined set x

      taken_fits : taken < 2 ^ 64
      taken_fits = joined_fits set x set_fits within

      -- an option that stays isn't held yet
      fresh : (y : ℕ) → y < 64 → bit_at rest y ≡ 1 → bit_at taken y ≡ 0
      fresh y l b = let k = kept y l b in joined_other set x y k.1 ∙ (right.next y l k.0).0

      goes_never : (y : ℕ) → y < 64 → bit_at rest y ≡ 1 → bit_at stay y ≡ 0 → IsNever w items (joined taken y)
      goes_never y l b gone t f some fair =
          let in_x : bit_at t x ≡ 1 = some x (joined_old taken y x (joined_same set x)) in
          let in_y : bit_at t y ≡ 1 = some y (joined_same taken y) in
          elim (beside.goes y l b gone) [
            | inl a ↦ omega (arith, a, fair.beside x y within l in_x in_y (λ e. (kept y l b).1 (sym e)))
            | inr a ↦
                let i = a.0 in
                let more = times_more w i taken t y taken_fits f l (λ z k c. some z (joined_old taken y z c)) a.3
                (fresh y l b) in_y in
                let high = (fair.within i a.1 (right.words.known x i within a.1 known a.2)).1 in
                omega (arith, more, high, a.4)
          ]

      -- the sets without the option, and those with it
      pub taken_sets : fair_sets w items (bits_of left) set
          ≡ fair_sets w items (bits_of rest) set + fair_sets w items (bits_of stay) taken
      taken_sets =
          let two = parted w items 0 64 left rest x set (omega arith) set_fits (omega arith) within known out.0 out.1 in
          let less = dropped w items 0 64 rest stay taken (omega arith) taken_fits
          (λ y i l. by_bit rest y
          (λ b. by_bit stay y (λ c. inl (c ∙ sym b)) (λ c. inr (b, c, goes_never y l b c)))
          (λ b. by_bit stay y (λ c. absurd (omega (arith, b, (beside.stays y l c).0))) (λ c. inl (c ∙ sym b)))) in
          two ∙ ap (λ n. fair_sets w items (bits_of rest) set + n) less

      -- how often an item is held once an option that stays is taken too
      not_too_often : (y i : ℕ) → y < 64 → bit_at stay y ≡ 1 → i < 64 → bit_at items i ≡ 1
          → times_in w (joined taken y) i ≤ slice_index w.high i
      not_too_often y i l b k h =
          let at = beside.stays y l b in
          let here = kept y l at.0 in
          let fits_both = joined_fits taken y taken_fits l in
          let with_y = right.next y l here.0 in
          let with_x = right.next x within known in
          let no_y : bit_at (slice_index w.holders i) y ≡ 0 → times_in w (joined taken y) i ≤ slice_index w.high i =
          λ none.
          let same = times_least w i (joined taken y) taken fits_both taken_fits
          (λ z m c d. joined_new taken y z d (λ e. omega (arith, c, ap (bit_at (slice_index w.holders i)) e, none))) in
          omega (arith, same, with_x.1.within i k h) in
          by_bit (slice_index w.holders i) y
          (λ one. by_bit (slice_index w.holders i) x
          (λ held. elim (right.words.held x i within k known h held) [
            | inl many ↦ elim (cases_lt (times_in w taken i) (slice_index w.high i)) [
              | inl less ↦ let more = times_one w i taken y taken_fits l in omega (arith, more, less)
              | inr full ↦ absurd (at.2 (i, k, many, one, full))
            ]
            | inr all ↦ absurd (omega (arith, all y l here.0 here.1 one, at.1))
          ])
          (λ none.
          let fits_y = joined_fits set y set_fits l in
          let same = times_least w i (joined taken y) (joined set y) fits_both fits_y
          (λ z m c d. by_bool (eqb z y)
          (λ q. subst (λ v. bit_at (joined set y) v ≡ 1) (sym (eqb-true z y q)) (joined_same set y))
          (λ q. joined_old set y z (joined_new set x z (joined_new taken y z d (not_same z y q))
          (λ e. omega (arith, c, ap (bit_at (slice_index w.holders i)) e, none))))) in
          omega (arith, same, with_y.1.within i k h)))
          no_y

      apart_none : (y p q : ℕ) → y < 64 → bit_at stay y ≡ 1 → p < 64 → q < 64 → bit_at (joined taken y) p ≡ 1
          → bit_at (joined taken y) q ≡ 1 → p ≢ q → bit_at (slice_index w.apart p) q ≡ 0
      apart_none y p q l b lp lq in_p in_q d =
          let at = beside.stays y l b in
          let here = kept y l at.0 in
          let with_y = (right.next y l here.0).1 in
          let with_x = (right.next x within known).1 in
          let old : (z : ℕ) → bit_at (joined taken y) z ≡ 1 → z ≢ x → bit_at (joined set y) z ≡ 1 =
          λ z c e. by_bool (eqb z y)
          (λ s. subst (λ v. bit_at (joined set y) v ≡ 1) (sym (eqb-true z y s)) (joined_same set y))
          (λ s. joined_old set y z (joined_new set x z (joined_new taken y z c (not_same z y s)) e)) in
          by_bool (eqb p y)
          (λ s.
          let py = eqb-true p y s in
          by_bool (eqb q x)
          (λ r.
          let qx = eqb-true q x r in
          by_bit (slice_index w.apart p) q
          (λ one.
          let moved : bit_at (slice_index w.apart y) x ≡ 1 =
          subst (λ v. bit_at (slice_index w.apart y) v ≡ 1) qx
          (subst (λ v. bit_at (slice_index w.apart v) q ≡ 1) py one) in
          absurd (omega (arith, right.words.both y x l within here.0 known moved, at.1)))
          (λ none. none))
          (λ r. with_y.beside p q lp lq (old p in_p (λ e. here.1 (sym py ∙ e))) (old q in_q (not_same q x r)) d))
          (λ s. by_bool (eqb q y)
          (λ r.
          let qy = eqb-true q y r in
          by_bool (eqb p x)
          (λ v.
          let px = eqb-true p x v in
          subst (λ z. bit_at (slice_index w.apart z) q ≡ 0) (sym px)
          (subst (λ z. bit_at (slice_index w.apart x) z ≡ 0) (sym qy) at.1))
          (λ v. with_y.beside p q lp lq (old p in_p (not_same p x v)) (old q in_q (λ e. here.1 (sym qy ∙ e))) d))
          (λ r. with_x.beside p q lp lq (joined_new taken y p in_p (not_same p y s))
          (joined_new taken y q in_q (not_same q y r)) d))

      -- with the option
      pub right_taken : IsRight w items stay taken unmet
      right_taken = record {
        words = of_less w items left stay (λ y l b. (kept y l (beside.stays y l b).0).0) right.words;
        sound = (right.next x within known).1;
        next = λ y l b. (
          fresh y l (beside.stays y l b).0,
          record {
            beside = λ p q lp lq in_p in_q d. apart_none y p q l b lp lq in_p in_q d;
            within = λ i k h. not_too_often y i l b k h;
          },
        );
        unmet_known = right.unmet_known;
        met = λ i l b. elim (right.met i l b) [
          | inl c ↦ inl c
          | inr c ↦ inr (let more = times_least w i set taken set_fits taken_fits (λ z m d e. joined_old set x z e) in
              omega (arith, c, more))
        ];
      }

-- the branch is one of the items that are still unmet
pub branch_closed : (w : BoundedWords) (unmet set new : ℕ) (b : Branch)
    → ((i : ℕ) → i < 64 → bit_at new i ≡ 1 → bit_at unmet i ≡ 1)
    → ((i : ℕ) → i < 64 → bit_at unmet i ≡ 1
    → (bit_at new i ≡ 1) ⊎ (slice_index w.low i ≤ times_in w set i))
    → IsBranchOf w unmet set b → IsBranchOf w new set b
branch_closed w unmet set new b less closed (inl a) = inl (a.0, a.1, λ i l h. a.2 i l (less i l h))
branch_closed w unmet set new b less closed (inr a) = elim (closed a.0 a.1 a.2) [
  | inl c ↦ inr (a.0, a.1, c, a.3, a.4, a.5)
  | inr c ↦ absurd (omega (arith, c, a.4, a.5))
]

-- at first
pub right_first : (w : BoundedWords) (items left : ℕ) → AreOfOptions w items left → IsRight w items left 0 items
right_first w items left of = record {
  words = of;
  sound = record {
    beside = λ x y l k a b d. absurd (omega (arith, a, bit_at-zero x));
    within = λ i l h. omega (arith, none i);
  };
  next = λ y l b. (
    bit_at-zero y,
    record {
      beside = λ p q l k a c d. by_bool (eqb p y)
          (λ s. by_bool (eqb q y)
          (λ r. absurd (d (eqb-true p y s ∙ sym (eqb-true q y r))))
          (λ r. absurd (omega (arith, joined_new 0 y q c (not_same q y r), bit_at-zero q))))
          (λ s. absurd (omega (arith, joined_new 0 y p a (not_same p y s), bit_at-zero p)));
      within = λ i k h.
          let one = times_one w i 0 y (omega arith) l in
          let some = of.some i k h in
          omega (arith, one, some, none i);
    },
  );
  unmet_known = λ i l b. b;
  met = λ i l b. inl b;
}
  where
    none : (i : ℕ) → times_in w 0 i ≡ 0
    none i =
        let no : bit_and (slice_index w.holders i) 0 ≡ 0 = omega (arith, and_le_r (slice_index w.holders i) 0) in
        ap count_ones no ∙ ones_none

-- ======== What a search has counted, and what is left to be counted, make up the whole.

module _ (w : BoundedWords) (items left set unmet sum whole : ℕ) (fits : left < 2 ^ 64) (set_fits : set < 2 ^ 64)
    (right : IsRight w items left set unmet) (e : sum + fair_sets w items (bits_of left) set ≡ whole)
    (x : ℕ) (within : x < 64) (known : bit_at left x ≡ 1) (rest : ℕ) (out : IsWithout left x rest)
    (taken : ℕ) (is : taken ≡ bit_or set (2 ^ x)) (stay : ℕ) (beside : IsBeside w rest taken x stay) where
  next : IsBeside w rest (joined set x) x stay
  next = subst (λ t. IsBeside w rest t x stay) is beside

  pub right_next : IsRight w items stay taken unmet
  right_next = subst (λ t. IsRight w items stay t unmet) (sym is)
      (right_taken w items left set unmet right fits set_fits x within known rest out stay next)

  sums : fair_sets w items (bits_of left) set
      ≡ fair_sets w items (bits_of rest) set + fair_sets w items (bits_of stay) taken
  sums = taken_sets w items left set unmet right fits set_fits x within known rest out stay next
      ∙ ap (λ t. fair_sets w items (bits_of rest) set + fair_sets w items (bits_of stay) t) (sym is)

  -- the sets with x were counted
  pub one_on : (found : ℕ) → found ≡ fair_sets w items (bits_of stay) taken
      → IsRight w items rest set unmet × (sum + found + fair_sets w items (bits_of rest) set ≡ whole)
  one_on found f =
      (right_without w items left set unmet right fits set_fits x within known rest out, omega (arith, e, f, sums))

  -- there is none without x
  pub last_on : fair_sets w items (bits_of rest) set ≡ 0
      → IsRight w items stay taken unmet × (sum + fair_sets w items (bits_of stay) taken ≡ whole)
  last_on none = (right_next, omega (arith, e, none, sums))

-- nothing is left to be counted
pub no_more : (sum n whole : ℕ) → n ≡ 0 → sum + n ≡ whole → sum ≡ whole
no_more sum n whole none e = omega (arith, none, e)

-- without one of them fewer are left
pub fewer_left : (m left x rest : ℕ) → left < 2 ^ 64 → rest < 2 ^ 64 → x < 64 → bit_at m x ≡ 1 → bit_at left x ≡ 1
    → IsWithout left x rest → count_ones (bit_and m rest) + 1 ≤ count_ones (bit_and m left)
fewer_left m left x rest f g l a b out = more_of m rest left x g f l (λ z k c. by_bool (eqb z x)
    (λ q. absurd (omega (arith, c, ap (bit_at rest) (eqb-true z x q), out.0)))
    (λ q. sym (out.1 z k (not_same z x q)) ∙ c)) a out.0 b
