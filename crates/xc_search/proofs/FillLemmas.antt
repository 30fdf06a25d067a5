-- Words whose bits are set and cleared one by one.
use Rattle.std.proofs.Common.{ℕ, ◌≡◌, ◌≢◌, ◌<◌, ◌≤◌, ◌+◌, ◌*◌, ◌^◌, ◌%◌, ◌==◌, ◌&&◌, ◌||◌, ◌⊎◌, inl, inr, ◌∙◌, Bool}
use Rattle.std.proofs.Common.{true, false, not, max, List, [], ◌∷◌, length, get_or, set, take, is_some, refl, sym, ap}
use Rattle.std.proofs.Common.{subst, arith, w64, nat_lt, bit_or, Option, Some, if◌then◌else◌, unwrap_or}
use Rattle.std.proofs.Common.{take_all, get_or-set_same, get_or-set_other, ◌-◌}
use Rattle.std.specs.Int.{bit_at, trailing_zeros}
use Rattle.std.specs.List.{list_any}
use Rattle.std.proofs.lemmas.Bool.{cases_eq, cases_lt, cases_order, eq-eqb, ne_eqb, eqb-true, lt-ltb, le-ltb}
use Rattle.std.proofs.lemmas.Bool.{or_left, or_cases}
use Rattle.std.proofs.Math.Bool.{or-false, and-true}
use Rattle.std.proofs.lemmas.Nat.{one_shl}
use Rattle.std.proofs.lemmas.Nat.Bits.{bit_at-lt, bit_at_or, bit_at-pow_same}
use Rattle.std.proofs.lemmas.Nat.Bits.{bit_at-pow_other, bit_at-trailing_zeros, bit_at-zero}
use Rattle.std.proofs.lemmas.Grind.{common_steps}
use Rattle.std.proofs.lemmas.List.{get_or_past}
use Rattle.std.proofs.lemmas.List.Folds.{list_any_more}
use Rattle.xc_input.specs.Problem.{Puzzle, uses_of, colour_in, numbered_get}
use Rattle.xc_input.specs.declared.problem.Use.{Use}
use Rattle.xc_words.proofs.BitLemmas.{cleared, lowest_gone as bit_gone, others_stay, from_without}
use Rattle.xc_search.specs.inner.Filled.{held_at}

-- a word's bits are set where f holds
abbrev pub Tells : ℕ → (ℕ → Bool) → Type 0
Tells w f = (y : ℕ) → (bit_at w y == 1) ≡ f y

-- j is of these items, or held by one of these options
abbrev pub IsMet : Puzzle → List ℕ → List ℕ → ℕ → Type 0
IsMet p is os j = ((k : ℕ) × (k < length is) × (get_or is k 0 ≡ j)) ⊎ ((z : ℕ) × (held_at p os j z ≡ true))

-- the word with a bit set
abbrev pub with_bit : ℕ → ℕ → ℕ
with_bit w k = bit_or w (1 * 2 ^ k % 2 ^ 64)

-- ---- one bit

one_bit : (k y : ℕ) → k < 64 → (bit_at (1 * 2 ^ k % 2 ^ 64) y == 1) ≡ (y == k)
one_bit k y within = elim (cases_eq y k) [
  | inl e ↦ ap (λ m. bit_at m y == 1) (one_shl k 64 within) ∙ ap (λ z. bit_at (2 ^ k) z == 1) e
      ∙ ap (λ b. b == 1) (bit_at-pow_same k) ∙ sym (eq-eqb y k e)
  | inr ne ↦ ap (λ m. bit_at m y == 1) (one_shl k 64 within) ∙ ap (λ b. b == 1) (bit_at-pow_other k y ne)
      ∙ sym (ne_eqb y k ne)
]

one_of : (a b c : ℕ) → a < 2 → b < 2 → c ≡ max a b → (c == 1) ≡ ((a == 1) || (b == 1))
one_of a b c la lb e = elim (cases_eq a 1) [
  | inl p ↦ let q : c ≡ 1 = omega (arith, p, e, lb) in
      ap (λ m. m == 1) q ∙ sym (or_left (a == 1) (b == 1) (eq-eqb a 1 p))
  | inr np ↦ let q : c ≡ b = omega (arith, np, la, e) in
      ap (λ m. m == 1) q ∙ sym (ap (λ t. t || (b == 1)) (ne_eqb a 1 np))
]

pub or_bit : (a b y : ℕ) → (bit_at (bit_or a b) y == 1) ≡ ((bit_at a y == 1) || (bit_at b y == 1))
or_bit a b y = one_of (bit_at a y) (bit_at b y) _ (bit_at-lt a y) (bit_at-lt b y) (bit_at_or a b y)

pub set_bit : (a k y : ℕ) → k < 64 → (bit_at (with_bit a k) y == 1) ≡ ((bit_at a y == 1) || (y == k))
set_bit a k y within = or_bit a (1 * 2 ^ k % 2 ^ 64) y ∙ ap (λ t. (bit_at a y == 1) || t) (one_bit k y within)

-- ---- a word without its lowest bit

pub lowest_gone : (n : ℕ) → 0 < n → n < 2 ^ 64 → (bit_at (cleared n) (trailing_zeros w64 n) == 1) ≡ false
lowest_gone n some fits =
    let t = bit_at-trailing_zeros w64 n some fits in
    ap (λ b. b == 1) (bit_gone n (trailing_zeros w64 n) t.1 t.2)

pub others_kept : (n y : ℕ) → 0 < n → n < 2 ^ 64 → y ≢ trailing_zeros w64 n
    → (bit_at (cleared n) y == 1) ≡ (bit_at n y == 1)
others_kept n y some fits ne =
    let t = bit_at-trailing_zeros w64 n some fits in
    ap (λ b. b == 1) (others_stay n (trailing_zeros w64 n) t.1 t.2 y ne)

pub from_rest : (n y : ℕ) → (bit_at (cleared n) y == 1) ≡ true → (bit_at n y == 1) ≡ true
from_rest n y e = eq-eqb (bit_at n y) 1 (from_without n (n - 1) y (eqb-true (bit_at (cleared n) y) 1 e))

-- ---- uses

pub some_by : (b : Bool) (c : ℕ) (o : Option ℕ) (r : Bool) → is_some o ≡ r
    → is_some (if b then Some c else o) ≡ (b || r)
some_by true c o r e = refl
some_by false c o r e = e

held_any : (us : List Use) (j : ℕ) → is_some (colour_in us j) ≡ list_any (λ u. u.item == j) us
held_any [] j = refl
held_any (u ∷ us) j = some_by (u.item == j) u.colour (colour_in us j) _ (held_any us j)

held_more : (us : List Use) (k j : ℕ) (d : Use) → k < length us
    → is_some (colour_in (take (k + 1) us) j) ≡ (is_some (colour_in (take k us) j) || ((get_or us k d).item == j))
held_more us k j d within = held_any (take (k + 1) us) j ∙ list_any_more (λ u. u.item == j) us k d within
    ∙ ap (λ t. t || ((get_or us k d).item == j)) (sym (held_any (take k us) j))

-- ---- words of no options

pub zero_kept : (hs : List ℕ) (k j : ℕ) → k < length hs → get_or hs j 0 ≡ 0 → get_or (set hs k 0) j 0 ≡ 0
zero_kept hs k j within e = grind (arith, common_steps)

pub zero_here : (hs : List ℕ) (us : List Use) (k j : ℕ) (d : Use) → k < length us → (get_or us k d).item < length hs
    → (is_some (colour_in (take k us) j) ≡ true → get_or hs j 0 ≡ 0)
    → is_some (colour_in (take (k + 1) us) j) ≡ true → get_or (set hs (get_or us k d).item 0) j 0 ≡ 0
zero_here hs us k j d within room before e = elim (or_cases _ _ (sym (held_more us k j d within) ∙ e)) [
  | inl h ↦ zero_kept hs (get_or us k d).item j room (before h)
  | inr h ↦ ap (λ z. get_or (set hs (get_or us k d).item 0) z 0) (sym (eqb-true _ _ h))
      ∙ get_or-set_same hs (get_or us k d).item 0 0 room
]

-- what is known of the words before a place, and of the one that is written there
pub written : (ws : List ℕ) (x w : ℕ) (P : ℕ → ℕ → Type 0) → x < length ws → P x w
    → ((k : ℕ) → k < x → P k (get_or ws k 0)) → (k : ℕ) → k < x + 1 → P k (get_or (set ws x w) k 0)
written ws x w P room here before k h = elim (cases_lt k x) [
  | inl less ↦ let ne : k ≢ x = λ e. omega (arith, e, less) in
      subst (λ v. P k v) (sym (get_or-set_other ws x k w 0 ne)) (before k less)
  | inr more ↦ let e : x ≡ k = omega (arith, more, h) in
      subst (λ z. P z (get_or (set ws x w) z 0)) e (subst (λ v. P x v) (sym (get_or-set_same ws x w 0 room)) here)
]

-- ---- words of the first options

pub set_here : (s q h : Bool) → ((s || (q && h)) || q) ≡ (s || (q && (h || true)))
set_here true q h = refl
set_here false true true = refl
set_here false true false = refl
set_here false false h = refl

pub told_on : (hs : List ℕ) (us : List Use) (x k j y : ℕ) (d : Use) (s : Bool) → x < 64 → k < length us
    → (get_or us k d).item < length hs
    → (bit_at (get_or hs j 0) y == 1) ≡ (s || ((y == x) && is_some (colour_in (take k us) j)))
    → (bit_at (get_or (set hs (get_or us k d).item (with_bit (get_or hs (get_or us k d).item 0) x)) j 0) y == 1)
    ≡ (s || ((y == x) && is_some (colour_in (take (k + 1) us) j)))
told_on hs us x k j y d s low within room before =
    let i = (get_or us k d).item in
    let w = with_bit (get_or hs i 0) x in
    let h = is_some (colour_in (take k us) j) in
    let more = ap (λ t. s || ((y == x) && t)) (held_more us k j d within) in
    elim (cases_eq i j) [
      | inl e ↦
          ap (λ z. bit_at (get_or (set hs i w) z 0) y == 1) (sym e)
          ∙ ap (λ z. bit_at z y == 1) (get_or-set_same hs i w 0 room) ∙ set_bit (get_or hs i 0) x y low
          ∙ ap (λ z. (bit_at (get_or hs z 0) y == 1) || (y == x)) e ∙ ap (λ t. t || (y == x)) before
          ∙ set_here s (y == x) h ∙ ap (λ t. s || ((y == x) && (h || t))) (sym (eq-eqb i j e)) ∙ sym more
      | inr ne ↦
          ap (λ z. bit_at z y == 1) (get_or-set_other hs i j w 0 (λ e. ne (sym e))) ∙ before
          ∙ ap (λ t. s || ((y == x) && t)) (sym (or-false h))
          ∙ ap (λ t. s || ((y == x) && (h || t))) (sym (ne_eqb i j ne)) ∙ sym more
    ]

pub uses_are : (p : Puzzle) (o : ℕ) (us : List Use) → numbered_get p.options o ≡ Some us → uses_of p o ≡ us
uses_are p o us e = ap (λ v. unwrap_or v []) e

pub told_all : (p : Puzzle) (os : List ℕ) (us : List Use) (x n j y : ℕ)
    → numbered_get p.options (get_or os x 0) ≡ Some us → length us ≤ n
    → ((nat_lt y x && held_at p os j y) || ((y == x) && is_some (colour_in (take n us) j)))
    ≡ (nat_lt y (x + 1) && held_at p os j y)
told_all p os us x n j y is all =
    let h = held_at p os j y in
    let g = is_some (colour_in (take n us) j) in
    elim (cases_order y x) [
      | inl e ↦
          let whole = take_all n us all ∙ sym (uses_are p (get_or os x 0) us is) in
          let same : g ≡ h = ap (λ v. is_some (colour_in v j)) whole ∙ ap (held_at p os j) (sym e) in
          ap (λ t. (t && h) || ((y == x) && g)) (le-ltb y x (omega (arith, e))) ∙ ap (λ t. t && g) (eq-eqb y x e) ∙ same
          ∙ sym (ap (λ t. t && h) (lt-ltb y (x + 1) (omega (arith, e))))
      | inr (inl less) ↦
          ap (λ t. (t && h) || ((y == x) && g)) (lt-ltb y x less)
          ∙ ap (λ t. h || (t && g)) (ne_eqb y x (λ e. omega (arith, e, less))) ∙ or-false h
          ∙ sym (ap (λ t. t && h) (lt-ltb y (x + 1) (omega (arith, less))))
      | inr (inr more) ↦
          ap (λ t. (t && h) || ((y == x) && g)) (le-ltb y x (omega (arith, more)))
          ∙ ap (λ t. t && g) (ne_eqb y x (λ e. omega (arith, e, more)))
          ∙ sym (ap (λ t. t && h) (le-ltb y (x + 1) (omega (arith, more))))
    ]

pub told_whole : (p : Puzzle) (os : List ℕ) (n j y : ℕ) → length os ≤ n
    → (nat_lt y n && held_at p os j y) ≡ held_at p os j y
told_whole p os n j y all = elim (cases_lt y n) [
  | inl less ↦ ap (λ t. t && held_at p os j y) (lt-ltb y n less)
  | inr past ↦ ap (λ t. t && held_at p os j y) (le-ltb y n past)
      ∙ sym (ap (λ o. is_some (colour_in (uses_of p o) j)) (get_or_past os y 0 (omega (arith, past, all))))
]

-- ---- the items of options

set_taken : (s q h : Bool) → (q ≡ true → h ≡ true) → ((s || (q && (h && false))) || q) ≡ (s || (q && (h && true)))
set_taken true q h known = refl
set_taken false true true known = refl
set_taken false true false known = sym (known refl)
set_taken false false h known = refl

pub turned_on : (alone : List ℕ) (rest left t i k y : ℕ) (s h : Bool) → i < 64 → t < length alone
    → (bit_at rest t == 1) ≡ true → (bit_at left t == 1) ≡ false
    → (y ≢ t → (bit_at left y == 1) ≡ (bit_at rest y == 1)) → (y ≡ t → (k == i) ≡ true → h ≡ true)
    → (bit_at (get_or alone y 0) k == 1) ≡ (s || ((k == i) && (h && not (bit_at rest y == 1))))
    → (bit_at (get_or (set alone t (with_bit (get_or alone t 0) i)) y 0) k == 1)
    ≡ (s || ((k == i) && (h && not (bit_at left y == 1))))
turned_on alone rest left t i k y s h small room one gone kept known before =
    let w = with_bit (get_or alone t 0) i in
    elim (cases_eq y t) [
      | inl e ↦
          ap (λ z. bit_at (get_or (set alone t w) z 0) k == 1) e
          ∙ ap (λ z. bit_at z k == 1) (get_or-set_same alone t w 0 room) ∙ set_bit (get_or alone t 0) i k small
          ∙ ap (λ z. (bit_at (get_or alone z 0) k == 1) || (k == i)) (sym e)
          ∙ ap (λ t. t || (k == i)) before
          ∙ ap (λ b. (s || ((k == i) && (h && not b))) || (k == i)) (ap (λ z. bit_at rest z == 1) e ∙ one)
          ∙ set_taken s (k == i) h (known e)
          ∙ ap (λ b. s || ((k == i) && (h && not b))) (sym (ap (λ z. bit_at left z == 1) e ∙ gone))
      | inr ne ↦
          ap (λ z. bit_at z k == 1) (get_or-set_other alone t y w 0 ne) ∙ before
          ∙ ap (λ b. s || ((k == i) && (h && not b))) (sym (kept ne))
    ]

pub up_to : (k i : ℕ) (h : Bool) → ((nat_lt k i && h) || ((k == i) && h)) ≡ (nat_lt k (i + 1) && h)
up_to k i h = elim (cases_order k i) [
  | inl e ↦
      ap (λ t. (t && h) || ((k == i) && h)) (le-ltb k i (omega (arith, e))) ∙ ap (λ t. t && h) (eq-eqb k i e)
      ∙ sym (ap (λ t. t && h) (lt-ltb k (i + 1) (omega (arith, e))))
  | inr (inl less) ↦
      ap (λ t. (t && h) || ((k == i) && h)) (lt-ltb k i less)
      ∙ ap (λ t. h || (t && h)) (ne_eqb k i (λ e. omega (arith, e, less))) ∙ or-false h
      ∙ sym (ap (λ t. t && h) (lt-ltb k (i + 1) (omega (arith, less))))
  | inr (inr more) ↦
      ap (λ t. (t && h) || ((k == i) && h)) (le-ltb k i (omega (arith, more)))
      ∙ ap (λ t. t && h) (ne_eqb k i (λ e. omega (arith, e, more)))
      ∙ sym (ap (λ t. t && h) (le-ltb k (i + 1) (omega (arith, more))))
]

-- an item more, that the options hold which b tells of
pub noted_more : (k i : ℕ) (b : Bool) (f : ℕ → Bool) → b ≡ f i
    → ((nat_lt k i && f k) || ((k == i) && b)) ≡ (nat_lt k (i + 1) && f k)
noted_more k i b f is =
    let same : ((k == i) && b) ≡ ((k == i) && f k) = elim (cases_eq k i) [
      | inl e ↦ ap (λ t. (k == i) && t) (is ∙ ap f (sym e))
      | inr ne ↦ ap (λ t. t && b) (ne_eqb k i ne) ∙ sym (ap (λ t. t && f k) (ne_eqb k i ne))
    ] in
    ap (λ t. (nat_lt k i && f k) || t) same ∙ up_to k i (f k)

-- before the first of a word's options, and after the last

pub none_turned : (s q h : Bool) → s ≡ (s || (q && (h && not h)))
none_turned true q h = refl
none_turned false true true = refl
none_turned false true false = refl
none_turned false false h = refl

pub turned_all : (rest y : ℕ) (s q h : Bool) → rest ≡ 0
    → (s || (q && (h && not (bit_at rest y == 1)))) ≡ (s || (q && h))
turned_all rest y s q h none =
    let gone = ap (λ r. bit_at r y == 1) none ∙ ap (λ b. b == 1) (bit_at-zero y) in
    ap (λ b. s || (q && (h && not b))) gone ∙ ap (λ b. s || (q && b)) (and-true h)
