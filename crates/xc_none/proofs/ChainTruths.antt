-- Each kind of clause of a chain is true of each cover.
use Rattle.std.proofs.Common.{ℕ, ◌≡◌, ◌≢◌, ◌<◌, ◌≤◌, ◌+◌, Bool, true, false, List, refl, sym, ◌∙◌, arith, subst}
use Rattle.std.proofs.Common.{Some}
use Rattle.std.proofs.Common.{eqb, eqb-true, eq-eqb, inl, inr, ◌⊎◌, ⊎_elim}
use Rattle.std.specs.Prelude.{not, ◌||◌, ◌&&◌, nat_le}
use Rattle.std.specs.List.{list_any, AllByRecursion}
use Rattle.std.proofs.lemmas.Bool.{and_parts, and_from, and_left, leb-true, le-leb, lt-leb, leb-false, false≢true}
use Rattle.std.proofs.lemmas.Bool.{cases_lt}
use Rattle.std.proofs.lemmas.List.Elements.{recursion_from_All}
use Rattle.xc_input.specs.declared.problem.Bounds.{Bounds}
use Rattle.xc_input.specs.Problem.{Puzzle, IsOption, bounds_at}
use Rattle.xc_input.specs.Cover.{IsCover, times_held}
use Rattle.xc_text.proofs.ListLemmas.{by_bool, IsIn, in-contains, each_two_from_AllPairs, each_from, each_in}
use Rattle.xc_none.specs.Meanings.{is_chosen, is_holder, held_up_to}
use Rattle.xc_none.specs.inner.Holders.{IsHolder, AreOptionsOf, IsNextHolder}
use Rattle.xc_none.proofs.Tests.{implied, implied_by_two, one_of_two, not_both, not_so}
use Rattle.xc_none.proofs.Counts.{count-le, count-lt, count-le_one_more, count-none, some-passes}
use Rattle.xc_none.proofs.Counts.{in-passes, passes-in}

-- an option of a set is in its list, and an option of its list is in the set
pub in-set : (s : List ℕ) (o : ℕ) → is_chosen s o ≡ true → IsIn s o
in-set s o e =
    let found = passes-in (λ x. eqb x o) s e in
    subst (λ (x : ℕ). IsIn s x) (eqb-true found.0 o found.2) found.1

pub set-in : (s : List ℕ) (o : ℕ) → IsIn s o → is_chosen s o ≡ true
set-in s o i = in-passes (λ x. eqb x o) s o i (eq-eqb o o refl)

-- whether an option up to number t holds an item
abbrev pub up_to : Puzzle → ℕ → ℕ → ℕ → Bool
up_to p i t o = nat_le o t && is_holder p i o

further : (p : Puzzle) (i t u x : ℕ) → t ≤ u → up_to p i t x ≡ true → up_to p i u x ≡ true
further p i t u x h e =
    let both = and_parts (nat_le x t) (is_holder p i x) e in
    let le : x ≤ t = leb-true x t both.0 in
    and_from (nat_le x u) (is_holder p i x) (le-leb x u (omega (arith, le, h))) both.1

behind : (p : Puzzle) (i t o : ℕ) → t < o → up_to p i t o ≡ false
behind p i t o h = and_left (nat_le o t) (is_holder p i o) (lt-leb o t h)

here : (p : Puzzle) (i o : ℕ) → IsHolder p i o → up_to p i o o ≡ true
here p i o h = and_from (nat_le o o) (is_holder p i o) (le-leb o o (omega arith)) h.1

-- a chosen option is one more than those before it
one_more : (p : Puzzle) (s : List ℕ) (i t o : ℕ) → IsHolder p i o → t < o → is_chosen s o ≡ true
    → held_up_to p s i t + 1 ≤ held_up_to p s i o
one_more p s i t o h l e = count-lt (up_to p i t) (up_to p i o) s o
    (λ x. further p i t o x (omega (arith, l))) (in-set s o e) (behind p i t o l) (here p i o h)

-- not more hold an item up to an option than in all
all_held : (p : Puzzle) (s : List ℕ) (i t : ℕ) → IsCover p s → held_up_to p s i t ≤ times_held p i s
all_held p s i t cover = count-le (IsOption p) (up_to p i t) (is_holder p i) s
    (λ x k e. (and_parts (nat_le x t) (is_holder p i x) e).1) (recursion_from_All (IsOption p) s cover.known)

pub first_true : (p : Puzzle) (s : List ℕ) (i o : ℕ) → IsHolder p i o
    → (not (is_chosen s o) || nat_le 1 (held_up_to p s i o)) ≡ true
first_true p s i o h = implied (is_chosen s o) (nat_le 1 (held_up_to p s i o)) (λ e.
    let more : held_up_to p s i 0 + 1 ≤ held_up_to p s i o = one_more p s i 0 o h (omega (arith, h.0.0)) e in
    le-leb 1 (held_up_to p s i o) (omega (arith, more)))

pub stay_true : (p : Puzzle) (s : List ℕ) (i t o j : ℕ) → t ≤ o → IsCover p s
    → (not (nat_le j (held_up_to p s i t)) || nat_le j (held_up_to p s i o)) ≡ true
stay_true p s i t o j h cover = implied (nat_le j (held_up_to p s i t)) (nat_le j (held_up_to p s i o)) (λ e.
    let more : held_up_to p s i t ≤ held_up_to p s i o = count-le (IsOption p) (up_to p i t) (up_to p i o) s
    (λ x k. further p i t o x h) (recursion_from_All (IsOption p) s cover.known) in
    le-leb j (held_up_to p s i o) (omega (arith, more, leb-true j (held_up_to p s i t) e)))

pub up_true : (p : Puzzle) (s : List ℕ) (i t o j : ℕ) → IsHolder p i o → t < o
    → (not (is_chosen s o) || (not (nat_le j (held_up_to p s i t)) || nat_le (j + 1) (held_up_to p s i o))) ≡ true
up_true p s i t o j h l =
    implied_by_two (is_chosen s o) (nat_le j (held_up_to p s i t)) (nat_le (j + 1) (held_up_to p s i o)) (λ e f.
    le-leb (j + 1) (held_up_to p s i o)
    (omega (arith, one_more p s i t o h l e, leb-true j (held_up_to p s i t) f)))

pub most_true : (p : Puzzle) (s : List ℕ) (i t o : ℕ) (b : Bounds) → IsHolder p i o → t < o → IsCover p s
    → bounds_at p i ≡ Some b → (not (is_chosen s o) || not (nat_le b.high (held_up_to p s i t))) ≡ true
most_true p s i t o b h l cover at =
    not_both (is_chosen s o) (nat_le b.high (held_up_to p s i t)) (λ e f.
    let within = cover.within i b at in
    absurd (omega (
      arith,
      one_more p s i t o h l e,
      leb-true b.high (held_up_to p s i t) f,
      all_held p s i o cover,
      within.1,
    )))

-- a holder up to an option is one up to number t, or that option
next_or_before : (p : Puzzle) (i t o x : ℕ) → IsNextHolder p i t o → IsOption p x → up_to p i o x ≡ true
    → (x ≡ o) ⊎ (up_to p i t x ≡ true)
next_or_before p i t o x next known e =
    let both = and_parts (nat_le x o) (is_holder p i x) e in
    ⊎_elim
    (λ (l : t < x). inl (next x (known, both.1) l (leb-true x o both.0)))
    (λ (l : x ≤ t). inr (and_from (nat_le x t) (is_holder p i x) (le-leb x t l) both.1))
    (cases_lt t x)

down : (p : Puzzle) (s : List ℕ) (i t o j : ℕ) → IsNextHolder p i t o → IsCover p s → j ≤ held_up_to p s i o
    → held_up_to p s i t < j → is_chosen s o ≡ true
down p s i t o j next cover e f = by_bool (is_chosen s o) (λ yes. yes) (λ no.
    let apart : AllByRecursion (λ x. IsOption p x × (x ≢ o)) s = each_from (λ x. IsOption p x × (x ≢ o)) s (λ x k. (
      each_in (IsOption p) s x (recursion_from_All (IsOption p) s cover.known) k,
      λ q. false≢true (sym no ∙ subst (λ (y : ℕ). is_chosen s y ≡ true) q (set-in s x k)),
    )) in
    let same : held_up_to p s i o ≤ held_up_to p s i t =
    count-le (λ x. IsOption p x × (x ≢ o)) (up_to p i o) (up_to p i t) s
    (λ x w u. ⊎_elim (λ (q : x ≡ o). absurd (w.1 q)) (λ (v : up_to p i t x ≡ true). v)
    (next_or_before p i t o x next w.0 u)) apart in
    absurd (omega (arith, same, e, f)))

pub down_true : (p : Puzzle) (s : List ℕ) (i t o j : ℕ) → IsNextHolder p i t o → IsCover p s
    → (not (nat_le j (held_up_to p s i o)) || (nat_le j (held_up_to p s i t) || is_chosen s o)) ≡ true
down_true p s i t o j next cover =
    one_of_two (nat_le j (held_up_to p s i o)) (nat_le j (held_up_to p s i t)) (is_chosen s o) (λ e f.
    down p s i t o j next cover (leb-true j (held_up_to p s i o) e) (leb-false j (held_up_to p s i t) f))

fewer : (p : Puzzle) (s : List ℕ) (i t o : ℕ) → IsNextHolder p i t o → IsCover p s
    → held_up_to p s i o ≤ held_up_to p s i t + 1
fewer p s i t o next cover = count-le_one_more (IsOption p) (up_to p i o) (up_to p i t) s o
    (λ x k u. next_or_before p i t o x next k u) (each_two_from_AllPairs (λ a b. a ≢ b) s cover.distinct)
    (recursion_from_All (IsOption p) s cover.known)

pub fewer_true : (p : Puzzle) (s : List ℕ) (i t o j : ℕ) → IsNextHolder p i t o → IsCover p s
    → (not (nat_le (j + 1) (held_up_to p s i o)) || nat_le j (held_up_to p s i t)) ≡ true
fewer_true p s i t o j next cover =
    implied (nat_le (j + 1) (held_up_to p s i o)) (nat_le j (held_up_to p s i t)) (λ e.
    le-leb j (held_up_to p s i t)
    (omega (arith, fewer p s i t o next cover, leb-true (j + 1) (held_up_to p s i o) e)))

-- none is held up to number 0
none_held : (p : Puzzle) (s : List ℕ) (i : ℕ) → IsCover p s → held_up_to p s i 0 ≡ 0
none_held p s i cover = count-none (IsOption p) (up_to p i 0) s
    (λ x k e. let l : x ≤ 0 = leb-true x 0 (and_parts (nat_le x 0) (is_holder p i x) e).0 in absurd (omega
    (arith, l, k.0)))
    (recursion_from_All (IsOption p) s cover.known)

pub first_down_true : (p : Puzzle) (s : List ℕ) (i o : ℕ) → IsNextHolder p i 0 o → IsCover p s
    → (not (nat_le 1 (held_up_to p s i o)) || is_chosen s o) ≡ true
first_down_true p s i o next cover = implied (nat_le 1 (held_up_to p s i o)) (is_chosen s o) (λ e.
    down p s i 0 o 1 next cover (leb-true 1 (held_up_to p s i o) e) (omega (arith, none_held p s i cover)))

pub first_fewer_true : (p : Puzzle) (s : List ℕ) (i o j : ℕ) → IsNextHolder p i 0 o → 1 ≤ j → IsCover p s
    → not (nat_le (j + 1) (held_up_to p s i o)) ≡ true
first_fewer_true p s i o j next h cover = not_so (nat_le (j + 1) (held_up_to p s i o)) (λ e.
    absurd (omega (
      arith,
      h,
      fewer p s i 0 o next cover,
      none_held p s i cover,
      leb-true (j + 1) (held_up_to p s i o) e,
    )))

pub least_true : (p : Puzzle) (s : List ℕ) (i t j : ℕ) (b : Bounds) → ((x : ℕ) → IsHolder p i x → x ≤ t)
    → bounds_at p i ≡ Some b → j ≤ b.low → IsCover p s → nat_le j (held_up_to p s i t) ≡ true
least_true p s i t j b last at h cover =
    let within = cover.within i b at in
    let all : times_held p i s ≤ held_up_to p s i t = count-le (IsOption p) (is_holder p i) (up_to p i t) s
    (λ x k e. and_from (nat_le x t) (is_holder p i x) (le-leb x t (last x (k, e))) e)
    (recursion_from_All (IsOption p) s cover.known) in
    le-leb j (held_up_to p s i t) (omega (arith, all, h, within.0))

pub some_true : (p : Puzzle) (s : List ℕ) (i : ℕ) (b : Bounds) (os : List ℕ) → AreOptionsOf p i os
    → bounds_at p i ≡ Some b → 1 ≤ b.low → IsCover p s → list_any (λ o. is_chosen s o) os ≡ true
some_true p s i b os holders at h cover =
    let within = cover.within i b at in
    let found = some-passes (is_holder p i) s (omega (arith, h, within.0)) in
    let known : IsOption p found.0 =
    each_in (IsOption p) s found.0 (recursion_from_All (IsOption p) s cover.known) found.1 in
    in-passes (λ o. is_chosen s o) os found.0 (in-contains os found.0 (holders.whole found.0
    (known, found.2) known.1))
    (set-in s found.0 found.1)
