-- Words by items and colours, whose bits are set one by one.
use Rattle.std.proofs.Common.{ℕ, ◌≡◌, ◌≢◌, ◌<◌, ◌≤◌, ◌+◌, ◌*◌, ◌^◌, ◌==◌, ◌&&◌, ◌||◌, ◌⊎◌, inl, inr, ◌∙◌, Bool, true}
use Rattle.std.proofs.Common.{not, List, [], ◌∷◌, length, get_or, set, take, is_some, refl, sym, ap, subst, arith}
use Rattle.std.proofs.Common.{false}
use Rattle.std.proofs.Common.{bit_and, w64, Option, Some, None, get_or-set_same, get_or-set_other, zero, suc}
use Rattle.std.proofs.Common.{eqb, if◌then◌else◌}
use Rattle.std.specs.Int.{bit_at, bit_not}
use Rattle.std.specs.List.{AllByRecursion, list_any}
use Rattle.std.proofs.lemmas.Bool.{cases_eq, cases_lt, cases_order, eq-eqb, ne_eqb, eqb-true}
use Rattle.std.proofs.lemmas.Bool.{or_left, or_right, or_cases, eqb-false}
use Rattle.std.proofs.Math.Bool.{or-false, and-true}
use Rattle.std.proofs.lemmas.Nat.Bits.{bit_at_and, bit_at-lt, bit_at_not, bit_at_above}
use Rattle.std.proofs.lemmas.List.Elements.{recursion_from_All}
use Rattle.std.specs.Prelude.{All}
use Rattle.std.proofs.lemmas.List.Folds.{list_any_more}
use Rattle.xc_input.specs.Problem.{Puzzle, IsValid, IsSoundOption, uses_of, colour_in, numbered_get}
use Rattle.xc_input.specs.Problem.{item_count}
use Rattle.xc_input.specs.Named.{Named, IsKnownUse}
use Rattle.xc_input.specs.declared.problem.Use.{Use}
use Rattle.xc_text.proofs.ListLemmas.{by_bool}
use Rattle.xc_moves.specs.Moves.{agrees, is_other_colour}
use Rattle.xc_moves.specs.declared.dance.Move.{Move}
use Rattle.xc_moves.proofs.PlaceLemmas.{at_option}
use Rattle.xc_search.specs.inner.Few.{share}
use Rattle.xc_search.specs.inner.FewBounded.{binds, clash, clashes_at}
use Rattle.xc_search.specs.inner.Filled.{held_at, gives, TellsHolders, TellsColour, colour_place, HasColourRoom}
use Rattle.xc_search.specs.inner.Filled.{differs_at, shares_at}
use Rattle.xc_search.proofs.ListingLemmas.{AreApart, apart_from_pairs}
use Rattle.xc_search.proofs.FillLemmas.{with_bit, set_bit, set_here, uses_are, some_by}

-- ---- places

-- a row of n more is behind
row_on : (n i j : ℕ) → i < j → i * (n + 1) + (n + 1) ≤ j * (n + 1)
row_on n i zero l = absurd (omega (arith, l))
row_on n i (suc j) l = elim (cases_lt i j) [
  | inl less ↦ omega (arith, row_on n i j less)
  | inr same ↦ let e : i ≡ j = omega (arith, l, same) in rw e (omega arith)
]

pub place_within : (n m i c : ℕ) → i ≤ m → c ≤ n → colour_place n i c < (m + 1) * (n + 1)
place_within n m i c within low = omega (arith, row_on n i (m + 1) (omega (arith, within)), low)

place_apart : (n i j c d : ℕ) → c ≤ n → d ≤ n → colour_place n i c ≡ colour_place n j d → (i ≡ j) × (c ≡ d)
place_apart n i j c d low small e = elim (cases_order i j) [
  | inl same ↦ (same, let f = ap (λ k. k * (n + 1)) same in omega (arith, e, f))
  | inr (inl less) ↦ absurd (omega (arith, row_on n i j less, e, low))
  | inr (inr more) ↦ absurd (omega (arith, row_on n j i more, e, small))
]

-- a use gives item j colour c
abbrev pub is_given : Use → ℕ → ℕ → Bool
is_given u j c = (u.item == j) && (u.colour == c)

given_item : (u : Use) (j c : ℕ) → is_given u j c ≡ true → (u.item ≡ j) × (u.colour ≡ c)
given_item u j c e = grind (arith, eqb-true)

same_place : (n : ℕ) (u : Use) (j c : ℕ) → u.colour ≤ n → c ≤ n
    → is_given u j c ≡ (colour_place n u.item u.colour == colour_place n j c)
same_place n u j c low small = elim (cases_eq (colour_place n u.item u.colour) (colour_place n j c)) [
  | inl e ↦
      let same = place_apart n u.item j u.colour c low small e in
      ap (λ b. b && (u.colour == c)) (eq-eqb u.item j same.0) ∙ eq-eqb u.colour c same.1 ∙ sym (eq-eqb _ _ e)
  | inr ne ↦ by_bool (is_given u j c)
      (λ e. let g = given_item u j c e in
      absurd (ne (ap (λ i. colour_place n i u.colour) g.0 ∙ ap (colour_place n j) g.1)))
      (λ e. e ∙ sym (ne_eqb _ _ ne))
]

-- ---- uses

pub gives_more : (us : List Use) (k j c : ℕ) (d : Use) → k < length us
    → gives (take (k + 1) us) j c ≡ (gives (take k us) j c || is_given (get_or us k d) j c)
gives_more us k j c d within = list_any_more (λ u. is_given u j c) us k d within

-- a use without a colour gives none
pub gives_none : (us : List Use) (k j c : ℕ) (d : Use) → k < length us → (get_or us k d).colour ≡ 0 → 0 < c
    → gives (take (k + 1) us) j c ≡ gives (take k us) j c
gives_none us k j c d within none some =
    let u = get_or us k d in
    let other : is_given u j c ≡ false = by_bool (is_given u j c)
    (λ e. absurd (omega (arith, (given_item u j c e).1, none, some))) (λ e. e) in
    gives_more us k j c d within ∙ ap (λ b. gives (take k us) j c || b) other ∙ or-false _

-- ---- words of no options

-- ---- words of the first options

bit_on : (hs : List ℕ) (x i j y : ℕ) (s h m : Bool) → x < 64 → i < length hs → m ≡ (i == j)
    → (bit_at (get_or hs j 0) y == 1) ≡ (s || ((y == x) && h))
    → (bit_at (get_or (set hs i (with_bit (get_or hs i 0) x)) j 0) y == 1) ≡ (s || ((y == x) && (h || m)))
bit_on hs x i j y s h m low room is before =
    let w = with_bit (get_or hs i 0) x in
    elim (cases_eq i j) [
      | inl e ↦
          ap (λ z. bit_at (get_or (set hs i w) z 0) y == 1) (sym e)
          ∙ ap (λ z. bit_at z y == 1) (get_or-set_same hs i w 0 room) ∙ set_bit (get_or hs i 0) x y low
          ∙ ap (λ z. (bit_at (get_or hs z 0) y == 1) || (y == x)) e ∙ ap (λ t. t || (y == x)) before
          ∙ set_here s (y == x) h ∙ ap (λ t. s || ((y == x) && (h || t))) (sym (is ∙ eq-eqb i j e))
      | inr ne ↦
          ap (λ z. bit_at z y == 1) (get_or-set_other hs i j w 0 (λ e. ne (sym e))) ∙ before
          ∙ ap (λ t. s || ((y == x) && t)) (sym (or-false h))
          ∙ ap (λ t. s || ((y == x) && (h || t))) (sym (is ∙ ne_eqb i j ne))
    ]

pub given_on : (n : ℕ) (hs : List ℕ) (us : List Use) (x k j c y : ℕ) (d : Use) (s : Bool) → x < 64 → k < length us
    → colour_place n (get_or us k d).item (get_or us k d).colour < length hs → (get_or us k d).colour ≤ n → c ≤ n
    → (bit_at (get_or hs (colour_place n j c) 0) y == 1) ≡ (s || ((y == x) && gives (take k us) j c))
    → (bit_at (get_or (set hs (colour_place n (get_or us k d).item (get_or us k d).colour)
    (with_bit (get_or hs (colour_place n (get_or us k d).item (get_or us k d).colour) 0) x)) (colour_place n j c) 0) y
    == 1) ≡ (s || ((y == x) && gives (take (k + 1) us) j c))
given_on n hs us x k j c y d s low within room most small before =
    bit_on hs x _ _ y s (gives (take k us) j c) (is_given (get_or us k d) j c) low room
    (same_place n (get_or us k d) j c most small) before
    ∙ ap (λ t. s || ((y == x) && t)) (sym (gives_more us k j c d within))

-- ---- room

pub room_kept : (a : Named) (m k : ℕ) → k ≡ m → HasColourRoom a m → HasColourRoom a k
room_kept a m k e room = subst (HasColourRoom a) (sym e) room

room_there : (a : Named) (m : ℕ) (u : Use) → HasColourRoom a m → IsKnownUse a u
    → (u.colour ≡ 0) ⊎ (colour_place (length a.colours) u.item u.colour < m)
room_there a m u (inl none) known = inl (omega (arith, none, known.1))
room_there a m u (inr room) known =
    inr (omega (arith, place_within (length a.colours) (item_count a.puzzle) u.item u.colour known.0.1 known.1, room))

-- their colours are among so many
pub uses_known : (a : Named) (n : ℕ) (us : List Use) → All (IsKnownUse a) us → n ≡ length a.colours
    → All (λ u. u.colour ≤ n) us
uses_known a n us known is = λ i d l. subst (λ n. (get_or us i d).colour ≤ n) (sym is) (known i d l).1

-- and the words of each are there
pub uses_room : (a : Named) (m n : ℕ) (us : List Use) → HasColourRoom a m → All (IsKnownUse a) us → n ≡ length a.colours
    → All (λ u. (u.colour ≡ 0) ⊎ (colour_place n u.item u.colour < m)) us
uses_room a m n us room known is = λ i d l.
    subst (λ n. ((get_or us i d).colour ≡ 0) ⊎ (colour_place n (get_or us i d).item (get_or us i d).colour < m))
    (sym is)
    (room_there a m (get_or us i d) room (known i d l))

pub room_for_use : (a : Named) (m n : ℕ) (us : List Use) (k : ℕ) (d : Use) → HasColourRoom a m
    → All (IsKnownUse a) us → n ≡ length a.colours → k < length us → (get_or us k d).colour ≢ 0
    → colour_place n (get_or us k d).item (get_or us k d).colour < m
room_for_use a m n us k d room known is within some = elim (uses_room a m n us room known is k d within) [
  | inl none ↦ absurd (some none)
  | inr low ↦ low
]

-- known uses give known colours
pub known_colours : (a : Named) (us : List Use) → All (IsKnownUse a) us → (j c : ℕ) → gives us j c ≡ true
    → c ≤ length a.colours
known_colours a us known j c e = given_known us (recursion_from_All (IsKnownUse a) us known) e
  where
    given_known : (us : List Use) → AllByRecursion (IsKnownUse a) us → gives us j c ≡ true → c ≤ length a.colours
    given_known [] k e = cc
    given_known (u ∷ us) k e = elim (or_cases (is_given u j c) _ e) [
      | inl h ↦ omega (arith, (given_item u j c h).1, k.0.1)
      | inr h ↦ given_known us k.1 h
    ]

-- ---- what two options share

pub and_not : (a b y : ℕ) → a < 2 ^ 64 → b < 2 ^ 64
    → (bit_at (bit_and a (bit_not w64 b)) y == 1) ≡ ((bit_at a y == 1) && not (bit_at b y == 1))
and_not a b y fits small =
    let both = bit_at_and a (bit_not w64 b) y in
    elim (cases_eq (bit_at a y) 1) [
      | inl one ↦ elim (cases_lt y 64) [
        | inl low ↦
            let other = bit_at_not w64 b y small low in
            elim (cases_eq (bit_at b y) 1) [
              | inl set ↦ ne_eqb _ 1 (λ e. omega (arith, e, both, other, set))
                  ∙ sym (ap (λ t. (bit_at a y == 1) && not t) (eq-eqb _ 1 set)
                  ∙ ap (λ t. t && false) (eq-eqb _ 1 one))
              | inr clear ↦ eq-eqb _ 1 (omega (arith, one, both, other, clear, bit_at-lt b y))
                  ∙ sym (ap (λ t. (bit_at a y == 1) && not t) (ne_eqb _ 1 clear)
                  ∙ ap (λ t. t && true) (eq-eqb _ 1 one))
            ]
        | inr high ↦ absurd (omega (arith, one, bit_at_above a 64 y fits high))
      ]
      | inr none ↦ ne_eqb _ 1 (λ e. none (omega (arith, e, both, bit_at-lt a y)))
          ∙ sym (ap (λ t. t && not (bit_at b y == 1)) (ne_eqb _ 1 none))
    ]

pub shares_more : (n : ℕ) (hs cs : List ℕ) (us : List Use) (k y : ℕ) (d : Use) → k < length us
    → shares_at n hs cs (take (k + 1) us) y ≡ (shares_at n hs cs (take k us) y || differs_at n hs cs (get_or us k d) y)
shares_more n hs cs us k y d within = list_any_more (λ u. differs_at n hs cs u y) us k d within

-- no use of another item gives it a colour
none_given : (us : List Use) (j c : ℕ) → AllByRecursion (λ v. eqb j v.item ≡ false) us → gives us j c ≡ false
none_given [] j c a = refl
none_given (v ∷ us) j c a =
    let other : (v.item == j) ≡ false = ne_eqb v.item j (λ e. eqb-false j v.item a.0 (sym e)) in
    ap (λ b. (b && (v.colour == c)) || gives us j c) other ∙ none_given us j c a.1

same_turned : (c d : ℕ) → (d == c) ≡ not (not (c == d))
same_turned c d = elim (cases_eq c d) [
  | inl e ↦ eq-eqb d c (sym e) ∙ sym (ap (λ b. not (not b)) (eq-eqb c d e))
  | inr ne ↦ ne_eqb d c (λ e. ne (sym e)) ∙ sym (ap (λ b. not (not b)) (ne_eqb c d ne))
]

-- a use without a colour differs from all that hold its item
pub plain_more : (n : ℕ) (hs cs : List ℕ) (us : List Use) (k y : ℕ) (d : Use) → k < length us
    → (get_or us k d).colour ≡ 0 → shares_at n hs cs (take (k + 1) us) y
    ≡ (shares_at n hs cs (take k us) y || (bit_at (get_or hs (get_or us k d).item 0) y == 1))
plain_more n hs cs us k y d within none =
    let h = bit_at (get_or hs (get_or us k d).item 0) y == 1 in
    let at = colour_place n (get_or us k d).item (get_or us k d).colour in
    shares_more n hs cs us k y d within
    ∙ ap (λ t. shares_at n hs cs (take k us) y || (h && (t || not (bit_at (get_or cs at 0) y == 1))))
    (eq-eqb (get_or us k d).colour 0 none) ∙ ap (λ t. shares_at n hs cs (take k us) y || t) (and-true h)

-- which colour an option of distinct items gives
gives_own : (us : List Use) → AreApart us → (j c : ℕ) → gives us j c ≡ not (is_other_colour c (colour_in us j))
gives_own [] a j c = refl
gives_own (u ∷ us) a j c = by_bool (u.item == j)
    (λ e.
    let none = none_given us j c (subst (λ i. AllByRecursion (λ v. eqb i v.item ≡ false) us) (eqb-true _ _ e) a.0) in
    ap (λ b. (b && (u.colour == c)) || gives us j c) e ∙ ap (λ b. (u.colour == c) || b) none ∙ or-false (u.colour == c)
    ∙ same_turned c u.colour
    ∙ ap (λ b. not (is_other_colour c (if b then Some u.colour else colour_in us j))) (sym e))
    (λ e. ap (λ b. (b && (u.colour == c)) || gives us j c) e ∙ gives_own us a.1 j c
    ∙ ap (λ b. not (is_other_colour c (if b then Some u.colour else colour_in us j))) (sym e))

-- an item on which a use of colour c doesn't agree
differs_by : (c : ℕ) (o : Option ℕ) (g : Bool) → (0 < c → g ≡ not (is_other_colour c o))
    → (is_some o && ((c == 0) || not g)) ≡ not (agrees c o)
differs_by c None g tells = refl
differs_by zero (Some d) g tells = refl
differs_by (suc c) (Some d) g tells =
    rw (tells (omega arith)) (by_bool (suc c == d) (λ e. grind arith) (λ e. grind arith))

-- of those uses that f picks
shares_same : (f : Use → Bool) (n : ℕ) (hs cs : List ℕ) (us vs : List Use) (y : ℕ) → AreApart vs
    → ((j : ℕ) → is_some (colour_in us j) ≡ true → (bit_at (get_or hs j 0) y == 1) ≡ is_some (colour_in vs j))
    → ((j c : ℕ) → 0 < c → gives us j c ≡ true → (bit_at (get_or cs (colour_place n j c) 0) y == 1) ≡ gives vs j c)
    → list_any (λ u. f u && differs_at n hs cs u y) us
    ≡ list_any (λ u. f u && not (agrees u.colour (colour_in vs u.item))) us
shares_same f n hs cs [] vs y apart tells given = refl
shares_same f n hs cs (u ∷ us) vs y apart tells given =
    let here = eq-eqb u.item u.item refl in
    let held = tells u.item (some_by (u.item == u.item) u.colour (colour_in us u.item) _ refl
    ∙ or_left (u.item == u.item) (is_some (colour_in us u.item)) here) in
    let own = ap (λ b. b && (u.colour == u.colour)) here ∙ eq-eqb u.colour u.colour refl in
    let head = ap (λ t. t && ((u.colour == 0)
    || not (bit_at (get_or cs (colour_place n u.item u.colour) 0) y == 1))) held
    ∙ differs_by u.colour (colour_in vs u.item) _ (λ some. given u.item u.colour some (or_left _ _ own)
    ∙ gives_own vs apart u.item u.colour) in
    let tail = shares_same f n hs cs us vs y apart
    (λ j h. tells j (some_by (u.item == j) u.colour (colour_in us j) _ refl
    ∙ or_right (u.item == j) (is_some (colour_in us j)) h))
    (λ j c some h. given j c some (or_right (is_given u j c) _ h)) in
    ap (λ t. (f u && t) || list_any (λ v. f v && differs_at n hs cs v y) us) head
    ∙ ap (λ t. (f u && not (agrees u.colour (colour_in vs u.item))) || t) tail

told_of : (f : Use → Bool) (p : Puzzle) (n : ℕ) (os hs cs : List ℕ) (us : List Use) (x y : ℕ) → IsValid p
    → numbered_get p.options (get_or os x 0) ≡ Some us → ((j c : ℕ) → gives us j c ≡ true → c ≤ n)
    → ((z j : ℕ) → held_at p os j z ≡ true → TellsHolders p os j (get_or hs j 0))
    → ((z j c : ℕ) → 0 < c → c ≤ n → gives (uses_of p (get_or os z 0)) j c ≡ true
    → TellsColour p os j c (get_or cs (colour_place n j c) 0))
    → list_any (λ u. f u && differs_at n hs cs u y) us ≡ list_any (λ u. f u
    && not (agrees u.colour (colour_in (uses_of p (get_or os y 0)) u.item))) (uses_of p (get_or os x 0))
told_of f p n os hs cs us x y valid is most tells given =
    let uses = uses_are p (get_or os x 0) us is in
    let vs = uses_of p (get_or os y 0) in
    let apart = at_option (IsSoundOption p) AreApart p tt (λ vs s. apart_from_pairs vs s.distinct) valid.options
    (get_or os y 0) in
    shares_same f n hs cs us vs y apart
    (λ j h. tells x j (ap (λ v. is_some (colour_in v j)) uses ∙ h) y)
    (λ j c some h. given x j c some (most j c h) (ap (λ v. gives v j c) uses ∙ h) y)
    ∙ ap (λ v. list_any (λ u. f u && not (agrees u.colour (colour_in vs u.item))) v) (sym uses)

pub share_told : (p : Puzzle) (n : ℕ) (os hs cs : List ℕ) (us : List Use) (x y : ℕ) → IsValid p
    → numbered_get p.options (get_or os x 0) ≡ Some us → ((j c : ℕ) → gives us j c ≡ true → c ≤ n)
    → ((z j : ℕ) → held_at p os j z ≡ true → TellsHolders p os j (get_or hs j 0))
    → ((z j c : ℕ) → 0 < c → c ≤ n → gives (uses_of p (get_or os z 0)) j c ≡ true
    → TellsColour p os j c (get_or cs (colour_place n j c) 0))
    → shares_at n hs cs us y ≡ share (uses_of p (get_or os x 0)) (uses_of p (get_or os y 0))
share_told p n os hs cs us x y valid is most tells given =
    told_of (λ u. true) p n os hs cs us x y valid is most tells given

-- ---- which of two options clash

pub clashes_more : (p : Puzzle) (t : List Move) (n : ℕ) (hs cs : List ℕ) (us : List Use) (k y : ℕ) (d : Use)
    → k < length us → clashes_at p t n hs cs (take (k + 1) us) y ≡ (clashes_at p t n hs cs (take k us) y
    || (binds p t (get_or us k d) && differs_at n hs cs (get_or us k d) y))
clashes_more p t n hs cs us k y d within = list_any_more (λ u. binds p t u && differs_at n hs cs u y) us k d within

pub clash_told : (p : Puzzle) (t : List Move) (n : ℕ) (os hs cs : List ℕ) (us : List Use) (x y : ℕ) → IsValid p
    → numbered_get p.options (get_or os x 0) ≡ Some us → ((j c : ℕ) → gives us j c ≡ true → c ≤ n)
    → ((z j : ℕ) → held_at p os j z ≡ true → TellsHolders p os j (get_or hs j 0))
    → ((z j c : ℕ) → 0 < c → c ≤ n → gives (uses_of p (get_or os z 0)) j c ≡ true
    → TellsColour p os j c (get_or cs (colour_place n j c) 0))
    → clashes_at p t n hs cs us y ≡ clash p t (uses_of p (get_or os x 0)) (uses_of p (get_or os y 0))
clash_told p t n os hs cs us x y valid is most tells given =
    told_of (binds p t) p n os hs cs us x y valid is most tells given
