-- The classes of options, and listed solutions decided by them.
use Rattle.std.proofs.Common.{[], arith, ◌≡◌, Bool, true, List, ◌∷◌, ◌++◌, ℕ, zero, suc, ◌≢◌, ◌+◌, ◌<◌, ◌≤◌, ◌||◌}
use Rattle.std.proofs.Common.{length, Some, sym, ap, ◌∙◌, inl, inr, ◌==◌, min, drop, take, is_some, get_or, refl}
use Rattle.std.proofs.Common.{append_assoc, subst, eq-eqb, ne_eqb, false, map, Option, MatchOption, Bor, None, ◌&&◌}
use Rattle.std.proofs.Common.{cond, not, filter, eqb-true, ap₂}
use Rattle.std.specs.List.{AllZip, list_all, list_any, range_with_len, AllByRecursion, fold, filter_map, cons_option}
use Rattle.std.proofs.lemmas.List.Sums.{AllPass-from_list_all, fold-append}
use Rattle.std.proofs.lemmas.List.Elements.{All-contains, All-head, All-tail, All-append, All-drop, All-take}
use Rattle.std.proofs.lemmas.List.Elements.{recursion_from_All, All-from_recursion}
use Rattle.std.proofs.lemmas.Bool.Decides.{nat_tests}
use Rattle.std.specs.Prelude.{slice_get, unwrap_or, All, AllPairs, ◌↔◌, count_by, IsTrue, codes}
use Rattle.std.proofs.lemmas.Bool.{cases_lt, cases_eq, cases_Bool}
use Rattle.std.proofs.lemmas.Option.{unwrap_or-slice_get, slice_get_within, slice_get-get_or, get_or_from_slice_get}
use Rattle.std.proofs.lemmas.Option.{same_Some}
use Rattle.std.proofs.Math.Seq.{drop-append_seam, take-append_seam, drop-cons}
use Rattle.std.proofs.lemmas.List.{append-nil, drop-append-le, take-append-le, take-append-drop, map-append}
use Rattle.std.specs.Bool.{Decides}
use Rattle.std.specs.Str.{bytes_eq}
use Rattle.std.specs.Cmp.Lexicographic.{pointwise}
use Rattle.std.proofs.lemmas.Slice.Eq.{bytes_eq-Decides, slice_eq-Decides}
use Rattle.std.proofs.lemmas.List.Recursion.{is_count_by}
use Rattle.xc_input.specs.Problem.{numbered_get, colour_in, Puzzle, uses_of, IsSoundOption, IsValid, IsSecondary}
use Rattle.xc_input.specs.Problem.{option_count, IsOption}
use Rattle.xc_input.specs.declared.problem.Use.{Use}
use Rattle.xc_input.specs.UsePlaces.{place_in}
use Rattle.xc_input.specs.Named.{Named, IsName, IsKnownUse, IsSound}
use Rattle.xc_text.specs.Words.{has, before, after}
use Rattle.xc_text.proofs.ListLemmas.{IsIn, contains-in, each_from, EachTwo, EachTwo-swapped, in-map, append-in_right}
use Rattle.xc_text.proofs.ListLemmas.{each_in, filter-in, each_weaker, each_of_all, EachTwo-at, each_two_from_AllPairs}
use Rattle.xc_text.proofs.ListLemmas.{in-slice_get, in-contains, AllPairs-from_each_two, EachTwo-of, EachTwo-weaker}
use Rattle.xc_input.proofs.LineLemmas.{at_number, known_option}
use Rattle.xc_text.proofs.ByteLemmas.{cut-at, no-cut}
use Rattle.xc_input.proofs.FaultLemmas.{COLON}
use Rattle.xc_input.specs.Cover.{times_held, IsCover}
use Rattle.xc_check.specs.UseTexts.{bytes_at, rotated_at, from_item, use_word}
use Rattle.xc_check.specs.inner.Classes.{class_of, least_of, IsUseOfWord, HaveWords, same_uses, class_at, alike}
use Rattle.xc_check.specs.inner.Classes.{option_numbers, IsCoverOfClasses, colour_text}
use Rattle.xc_check.specs.ListingLines.{words_in}
use Rattle.xc_check.specs.Listed.{is_body, is_known, IsListedCover, stands_for}

-- ======== Two lists place by place, and tests of each element: for options that stand beside classes and bodies.

-- ---- place by place

-- what holds of no elements, and of one pair more, holds of all
pub by_pairs : {A B : Type 0} (R : A → B → Type 0) (P : List A → List B → Type 0) → P [] []
    → ((x : A) (y : B) (xs : List A) (ys : List B) → R x y → P xs ys → P (x ∷ xs) (y ∷ ys)) → (xs : List A)
    (ys : List B) → AllZip R xs ys → P xs ys
by_pairs R P none more [] [] z = none
by_pairs R P none more (x ∷ xs) (y ∷ ys) z = more x y xs ys z.0 (by_pairs R P none more xs ys z.1)
by_pairs R P none more _ _ z = absurd z

-- an element stands beside one of the other list
pub beside : {A B : Type 0} (R : A → B → Type 0) (xs : List A) (ys : List B) (y : B) → AllZip R xs ys → IsIn ys y
    → (x : A) × IsIn xs x × R x y
beside {A = A} R xs ys y =
    by_pairs R (λ vs ws. IsIn ws y → (x : A) × IsIn vs x × R x y) (λ h. absurd h)
    (λ v w vs ws r later h. grind arith) xs ys

pub AllZip-append : {A B : Type 0} (R : A → B → Type 0) (xs xs' : List A) (ys ys' : List B) → AllZip R xs ys
    → AllZip R xs' ys' → AllZip R (xs ++ xs') (ys ++ ys')
AllZip-append R xs xs' ys ys' z later =
    by_pairs R (λ vs ws. AllZip R (vs ++ xs') (ws ++ ys')) later (λ v w vs ws h rest. (h, rest)) xs ys z

-- ---- tests of each element

pub passes-at : {X : Type 0} (f : X → Bool) (xs : List X) (x : X) → list_all f xs ≡ true → IsIn xs x → f x ≡ true
passes-at f xs x h k = All-contains (λ x. f x ≡ true) xs x (AllPass-from_list_all f xs h) (contains-in xs x k)

-- ======== Numbers in a row, and what stands at a number.

-- ---- numbers in a row

pub in-range : (a n k : ℕ) → IsIn (range_with_len a n) k → (a ≤ k) × (k < a + n)
in-range a zero k h = absurd h
in-range a (suc n) k (inl e) = (omega (arith, e), omega (arith, e))
in-range a (suc n) k (inr h) = let later = in-range (a + 1) n k h in (omega (arith, later.0), omega (arith, later.1))

pub range-in : (a n k : ℕ) → a ≤ k → k < a + n → IsIn (range_with_len a n) k
range-in a zero k l m = absurd (omega (arith, l, m))
range-in a (suc n) k l m = grind (arith, nat_tests, range-in (a + 1) n k, cases_eq a k)

pub range-apart : (a n : ℕ) → EachTwo (λ j k. j ≢ k) (range_with_len a n)
range-apart a zero = tt
range-apart a (suc n) = grind (arith, nat_tests, range-apart (a + 1) n, each_from, in-range (a + 1) n)

-- the last number
abbrev pub last_or : ℕ → List ℕ → ℕ
last_or d [] = d
last_or d (n ∷ ns) = last_or n ns

-- ---- tests

pub any-in : {X : Type 0} (p : X → Bool) (xs : List X) (x : X) → IsIn xs x → p x ≡ true → list_any p xs ≡ true
any-in p [] x h e = absurd h
any-in p (y ∷ ys) x (inl q) e = let f : p y ≡ true = ap p q ∙ e in ap (λ t. t || list_any p ys) f
any-in p (y ∷ ys) x (inr h) e = grind (arith, any-in p ys x h e)

pub in-any : {X : Type 0} (p : X → Bool) (xs : List X) → list_any p xs ≡ true → (x : X) × IsIn xs x × (p x ≡ true)
in-any p [] h = cc
in-any {X} p (x ∷ xs) h = grind (arith, nat_tests, in-any p xs)

-- ---- what stands at a number

pub numbered_some : {X : Type 0} (xs : List X) (i : ℕ) (d : X) → 1 ≤ i → i ≤ length xs
    → numbered_get xs i ≡ Some (unwrap_or (numbered_get xs i) d)
numbered_some xs zero d h l = absurd (omega (arith, h))
numbered_some xs (suc k) d h l = grind (arith, slice_get-get_or, unwrap_or-slice_get)

-- what holds of all texts holds of the one at a number
pub at_bytes : (P : List ℕ → Type 0) (texts : List (List ℕ)) (i : ℕ) → 1 ≤ i → i ≤ length texts → All P texts
    → P (bytes_at texts i)
at_bytes P texts i h l all = at_number P texts i (bytes_at texts i) all (numbered_some texts i [] h l)

-- an element stands at one place where none stands twice
pub one_place : {X : Type 0} (xs : List X) (j k : ℕ) (x : X) → AllPairs (λ a b. a ≢ b) xs → slice_get xs j ≡ Some x
    → slice_get xs k ≡ Some x → j ≡ k
one_place xs j k x apart e f =
    let same = get_or_from_slice_get xs j x x e ∙ sym (get_or_from_slice_get xs k x x f) in
    let before = apart j k x in
    let behind = apart k j x in grind (arith, cases_lt j k, cases_lt k j, slice_get_within)

pub one_number : {X : Type 0} (xs : List X) (i j : ℕ) (x : X) → AllPairs (λ a b. a ≢ b) xs → numbered_get xs i ≡ Some x
    → numbered_get xs j ≡ Some x → i ≡ j
one_number xs zero j x apart e f = cc
one_number xs (suc i) zero x apart e f = cc
one_number xs (suc i) (suc j) x apart e f = ap suc (one_place xs i j x apart e f)

-- ======== Rotations of uses, and that those of one list have one class: for the classes of the checker.

-- ---- rotations step by step: the first element goes behind the others

-- what each step keeps, lists have where the order of two pieces changes
swapped : {X : Type 0} (P : List X → Type 0) → ((x : X) (xs : List X) → P (x ∷ xs) → P (xs ++ x ∷ [])) → (a b : List X)
    → P (a ++ b) → P (b ++ a)
swapped P step [] b h = rw append-nil h
swapped P step (x ∷ a) b h =
    rw (← append_assoc b (x ∷ []) a) (swapped P step a (b ++ x ∷ []) (rw append_assoc at (step x (a ++ b) h)))

-- and rotations have it exactly where the list has it
rotated : {X : Type 0} (P : List X → Type 0) → ((x : X) (xs : List X) → P (x ∷ xs) → P (xs ++ x ∷ []))
    → (k : ℕ) (xs : List X) → P xs ↔ P (rotated_at k xs)
rotated P step k xs = (
  λ h. swapped P step (take k xs) (drop k xs) (rw take-append-drop h),
  λ h. rw take-append-drop at (swapped P step (drop k xs) (take k xs) h),
)

-- ---- one step

abbrev pub DifferInItems : List Use → Type 0
DifferInItems us = EachTwo (λ u v. u.item ≢ v.item) us

-- a use of item i is among these
abbrev pub Holds : ℕ → List Use → Type 0
Holds i us = is_some (colour_in us i) ≡ true

pub place_held : (i : ℕ) (us : List Use) → Holds i us → place_in i us < length us
place_held i [] h = cc
place_held i (u ∷ us) h = grind (arith, nat_tests, place_held i us)

module _ (i : ℕ) (u : Use) where
  place_same : (us : List Use) → Holds i us → place_in i (us ++ u ∷ []) ≡ place_in i us
  place_same [] h = cc
  place_same (v ∷ us) h = grind (arith, nat_tests, place_same us)

  place_last : (us : List Use) → u.item ≡ i → AllByRecursion (λ v. u.item ≢ v.item) us
      → place_in i (us ++ u ∷ []) ≡ length us
  place_last [] e a = grind (arith, nat_tests)
  place_last (v ∷ us) e a = grind (arith, nat_tests, place_last us e a.1)

  colour_same : (us : List Use) → AllByRecursion (λ v. u.item ≢ v.item) us
      → colour_in (us ++ u ∷ []) i ≡ colour_in (u ∷ us) i
  colour_same [] a = refl
  colour_same (v ∷ us) a = grind (arith, nat_tests, colour_same us a.1)

  from_same : (us : List Use) → AllByRecursion (λ v. u.item ≢ v.item) us → Holds i (u ∷ us)
      → from_item i (us ++ u ∷ []) ≡ from_item i (u ∷ us)
  from_same us a h = elim (cases_eq u.item i) [
    | inl e ↦ rw (place_last us e a, drop-append_seam, take-append_seam, eq-eqb u.item i e) (sym (append-nil (u ∷ us)))
    | inr ne ↦
        let held : Holds i us = rw (ne_eqb u.item i ne) at h in
        let next : 1 + place_in i us ≡ suc (place_in i us) = omega arith in
        let within : place_in i us ≤ length us = omega (arith, place_held i us held) in
        rw (place_same us held, drop-append-le, take-append-le, ne_eqb u.item i ne, next) (append_assoc _ (u ∷ []) _)
  ]

fold-min : (a b : ℕ) (xs : List ℕ) → fold min (min a b) xs ≡ min a (fold min b xs)
fold-min a b [] = refl
fold-min a b (x ∷ xs) = grind (arith, fold-min a (min b x) xs)

least_same : (u : Use) (us : List Use) → least_of (us ++ u ∷ []) ≡ least_of (u ∷ us)
least_same u [] = refl
least_same u (v ∷ us) = grind (arith, map-append, fold-append, fold-min)

least_held : (u : Use) (us : List Use) → Holds (least_of (u ∷ us)) (u ∷ us)
least_held u [] = grind (arith, nat_tests, eq-eqb)
least_held u (v ∷ us) = grind (arith, cases_eq, eq-eqb, fold-min, least_held v us)

-- ---- classes

-- what the rotations of uses of different items have in common
record AreTurned (us vs : List Use) : Type 0 where
  differ : DifferInItems vs
  least : least_of vs ≡ least_of us
  colour : (i : ℕ) → colour_in vs i ≡ colour_in us i
  from : (i : ℕ) → Holds i us → from_item i vs ≡ from_item i us

turned : (us vs : List Use) (k : ℕ) → AreTurned us vs ↔ AreTurned us (rotated_at k vs)
turned us vs k = rotated (AreTurned us) (λ u ws t. record {
  differ = EachTwo-swapped _ (λ v w n e. n (sym e)) (u ∷ []) ws t.differ;
  least = least_same u ws ∙ t.least;
  colour = λ i. colour_same i u ws t.differ.0 ∙ t.colour i;
  from = λ i h. from_same i u ws t.differ.0 (ap is_some (t.colour i) ∙ h) ∙ t.from i h;
}) k vs

at_turns : (us : List Use) (k : ℕ) → DifferInItems us → AreTurned us (rotated_at k us)
at_turns us k d = (turned us us k).0 (record { differ = d; least = refl; colour = λ i. refl; from = λ i h. refl })

pub differ-turned : (k : ℕ) (us : List Use) → DifferInItems us → DifferInItems (rotated_at k us)
differ-turned k us d = (at_turns us k d).differ

-- where the least item stands: a class is the rotation from there
abbrev pub class_start : List Use → ℕ
class_start us = place_in (least_of us) us

pub class-turned : (k : ℕ) (us : List Use) → DifferInItems us → class_of (rotated_at k us) ≡ class_of us
class-turned zero [] d = refl
class-turned (suc k) [] d = refl
class-turned k (u ∷ us) d = grind (arith, at_turns, least_held)

-- uses of one class are rotations of each other
turned_alike : (us vs : List Use) → DifferInItems vs → class_of us ≡ class_of vs → AreTurned vs us
turned_alike us vs d q =
    (turned vs us (class_start us)).1 (subst (AreTurned vs) (sym q) (at_turns vs (class_start vs) d))

-- A rotation of uses is a rotation of the others of their class.
pub turned-alike : (us vs : List Use) (k : ℕ) → DifferInItems vs → class_of us ≡ class_of vs → k < length us
    → (j : ℕ) × (j < length vs) × (rotated_at k us ≡ rotated_at j vs)
turned-alike us vs k d q l =
    let u = get_or us k (record { item = 0; colour = 0 }) in
    let i : ℕ = u.item in
    let rest = drop (suc k) us ++ take k us in
    let first : rotated_at k us ≡ u ∷ rest = ap (λ ws. ws ++ take k us) (drop-cons us k _ l) in
    let own : (i == i) ≡ true = eq-eqb i i refl in
    let t = subst (AreTurned vs) first ((turned vs us k).0 (turned_alike us vs d q)) in
    let held : Holds i vs = rw (← t.colour i, own) refl in
    let whole : from_item i (u ∷ rest) ≡ u ∷ rest = rw own (append-nil _) in
    (place_in i vs, place_held i vs held, first ∙ sym whole ∙ t.from i held)

-- Uses of one class give each item the same colour.
pub colour-alike : (us vs : List Use) (i : ℕ) → DifferInItems vs → class_of us ≡ class_of vs
    → colour_in us i ≡ colour_in vs i
colour-alike us vs i d q = (turned_alike us vs d q).colour i

pub colour-class : (i : ℕ) (us : List Use) → DifferInItems us → colour_in (class_of us) i ≡ colour_in us i
colour-class i us d = (at_turns us (class_start us) d).colour i

-- ======== The uses that have a body's words.

-- ---- the word of one use

pub colour_text-some : (cs : List (List ℕ)) (c : ℕ) → 0 < c → colour_text cs c ≡ codes ":" ++ bytes_at cs c
colour_text-some cs zero h = absurd (omega (arith, h))
colour_text-some cs (suc c) h = grind (arith, nat_tests)

-- a name, and a colour's text behind it
name_and_colour : (colours : List (List ℕ)) (name : List ℕ) (c : ℕ) → has COLON name ≡ false → c ≤ length colours
    → (w : List ℕ) → name ++ colour_text colours c ≡ w → (before COLON w ≡ name) × (has COLON w ≡ false → c ≡ 0)
    × (has COLON w ≡ true → numbered_get colours c ≡ Some (after COLON w))
name_and_colour colours name zero h l w e = grind (arith, append-nil, no-cut)
name_and_colour colours name (suc c) h l w e =
    let cut = cut-at COLON name (bytes_at colours (suc c)) h in
    grind (arith, nat_tests, numbered_some colours (suc c), colour_text-some colours (suc c))

module _ (p : Named) (s : IsSound p) (u : Use) (known : IsKnownUse p u) where
  -- a word's part before the first colon is its item's name, and its part behind that is its colour
  parts : (w : List ℕ) → use_word p u ≡ w → (numbered_get p.names u.item ≡ Some (before COLON w))
      × (has COLON w ≡ false → u.colour ≡ 0)
      × (has COLON w ≡ true → numbered_get p.colours u.colour ≡ Some (after COLON w))
  parts w e =
      let within : u.item ≤ length p.names = omega (arith, known.0.1, s.named.count) in
      let name = at_bytes IsName p.names u.item known.0.0 within s.named.names in
      let cut = name_and_colour p.colours _ u.colour name.no_colon known.1 w e in
      (numbered_some p.names u.item [] known.0.0 within ∙ ap (λ t. Some t) (sym cut.0), cut.1, cut.2)

  -- a word without a colon is its item's name
  pub plain-word : has COLON (use_word p u) ≡ false
      → (numbered_get p.names u.item ≡ Some (use_word p u)) × (u.colour ≡ 0)
  plain-word h =
      let cut = parts (use_word p u) refl in (cut.0 ∙ ap (λ t. Some t) (no-cut COLON (use_word p u) h), cut.1 h)

  -- what stands before and behind the first colon of a word
  pub cut-word : (front back : List ℕ) → has COLON front ≡ false → use_word p u ≡ front ++ COLON ∷ back
      → (numbered_get p.names u.item ≡ Some front) × (numbered_get p.colours u.colour ≡ Some back)
  cut-word front back h e =
      let own = parts (front ++ COLON ∷ back) e in
      let cut = cut-at COLON front back h in
      (own.0 ∙ ap (λ t. Some t) cut.0, own.2 cut.2 ∙ ap (λ t. Some t) cut.1)

-- uses with one word are one
pub one_word : (p : Named) → IsSound p → (u v : Use) → IsKnownUse p u → IsKnownUse p v → use_word p u ≡ use_word p v
    → u ≡ v
one_word p s u v a b e = grind (arith, parts, one_number, cases_Bool, has)

-- ---- the words of a body

-- uses for the words of a body before those of a text
abbrev pub AreRead : Named → List ℕ → List ℕ → List Use → Type 0
AreRead p body text us = All (IsKnownUse p) us × (map (use_word p) us ++ words_in text ≡ words_in body)

-- no uses have the words of the body where none has a word of it
pub read-none : (p : Named) (body text word : List ℕ) (words : List (List ℕ)) (us : List Use) → AreRead p body text us
    → words_in text ≡ word ∷ words → IsUseOfWord p word None → (vs : List Use) → HaveWords p (words_in body) vs → ⊥
read-none p body text word words us r e h vs have =
    let here : IsIn (map (use_word p) us ++ word ∷ words) word =
    append-in_right (map (use_word p) us) (word ∷ words) word (inl refl) in
    let at = in-map (use_word p) vs word (rw (have.words_so, ← r.1, e) here) in
    h at.0 (All-contains (IsKnownUse p) vs at.0 have.known (contains-in vs at.0 at.1)) at.2

-- a cut gives a first word
pub first_word : (text word : List ℕ) (rest : Option (Bor (List ℕ))) → MatchOption rest (words_in text ≡ word ∷ [])
    (λ r. (words_in text ≡ word ∷ words_in r.now) × (length r.now < length text)) → (words : List (List ℕ))
    × (words_in text ≡ word ∷ words)
first_word text word None h = ([], h)
first_word text word (Some r) h = (words_in r.now, h.0)

-- ======== Which bodies stand for which uses, by classes.

-- ---- bodies

texts-same : (vs ws : List (List ℕ)) → Decides (pointwise bytes_eq vs ws) (vs ≡ ws)
texts-same vs ws = slice_eq-Decides bytes_eq-Decides vs ws (pointwise bytes_eq vs ws) refl

-- what `is_body` says
pub body-is : (p : Named) (words : List (List ℕ)) (us : List Use) → is_body p words us ≡ true → (k : ℕ)
    × (k < length us) × (map (use_word p) (rotated_at k us) ≡ words)
body-is p words us h =
    let k = in-any _ _ h in
    let l = in-range 0 (length us) k.0 k.1 in
    (k.0, omega (arith, l.1), (texts-same _ _).0 k.2)

pub is-body : (p : Named) (words : List (List ℕ)) (us : List Use) (k : ℕ) → k < length us
    → map (use_word p) (rotated_at k us) ≡ words → is_body p words us ≡ true
is-body p words us k l e =
    grind (arith, nat_tests, any-in, range-in 0 (length us) k, texts-same (map (use_word p) (rotated_at k us)) words)

-- A body that stands for uses stands for all of their class.
pub body-alike : (p : Named) (words : List (List ℕ)) (us vs : List Use) → DifferInItems vs → class_of us ≡ class_of vs
    → is_body p words us ≡ true → is_body p words vs ≡ true
body-alike p words us vs d q h =
    let k = body-is p words us h in
    let j = turned-alike us vs k.0 d q k.1 in
    is-body p words vs j.0 j.1 (ap (map (use_word p)) (sym j.2) ∙ k.2)

pub same_uses_by_words : (p : Named) → IsSound p → (us vs : List Use) → All (IsKnownUse p) us → All (IsKnownUse p) vs
    → map (use_word p) us ≡ map (use_word p) vs → us ≡ vs
same_uses_by_words p s [] [] a b e = refl
same_uses_by_words p s (u ∷ us) (v ∷ vs) a b e =
    let later = same_uses_by_words p s us vs (All-tail (IsKnownUse p) u us a) (All-tail (IsKnownUse p) v vs b) cc in
    cc (one_word p s u v (All-head (IsKnownUse p) u us a) (All-head (IsKnownUse p) v vs b) cc)
same_uses_by_words p s _ _ a b e = cc

pub All-turned : {X : Type 0} (P : X → Type 0) (k : ℕ) (xs : List X) → All P xs → All P (rotated_at k xs)
All-turned P k xs all = All-append P (drop k xs) (take k xs) (All-drop P k xs all) (All-take P k xs all)

-- What one body stands for is of one class.
pub body-class : (p : Named) (words : List (List ℕ)) → IsSound p → (us vs : List Use) → All (IsKnownUse p) us
    → All (IsKnownUse p) vs → DifferInItems us → DifferInItems vs →
    is_body p words us ≡ true → is_body p words vs ≡ true → class_of us ≡ class_of vs
body-class p words s us vs a b d e h k =
    let j = body-is p words us h in
    let l = body-is p words vs k in
    let same = same_uses_by_words p s (rotated_at j.0 us) (rotated_at l.0 vs) (All-turned (IsKnownUse p) j.0 us a)
    (All-turned (IsKnownUse p) l.0 vs b) (j.2 ∙ sym l.2) in
    sym (class-turned j.0 us d) ∙ ap class_of same ∙ class-turned l.0 vs e

-- ---- equal uses

-- `==` on uses
pub use-decides : (a b : Use) → Decides (a.item == b.item && a.colour == b.colour) (a ≡ b)
use-decides a b = grind (arith, nat_tests)

pub uses-same : (us vs : List Use) → Decides (same_uses us vs) (us ≡ vs)
uses-same us vs = slice_eq-Decides use-decides us vs (same_uses us vs) refl

pub same_uses-are : (us vs : List Use) → same_uses us vs ≡ true → us ≡ vs
same_uses-are us vs h = (uses-same us vs).0 h

pub same_uses-itself : (us : List Use) → same_uses us us ≡ true
same_uses-itself us = (uses-same us us).1 refl

-- ======== Different options in place of options that are alike: there are such exactly where no class is asked more
-- often than it has members.

-- `count_by` by recursion from the front
abbrev pub counted : {X : Type 0} → (X → Bool) → List X → ℕ
counted p [] = 0
counted p (x ∷ xs) = cond (p x) 1 0 + counted p xs

pub is_counted : {X : Type 0} (p : X → Bool) (xs : List X) → count_by p xs ≡ counted p xs
is_counted p xs = sym (is_count_by (counted p) p refl (λ x xs. grind (arith, nat_tests)) xs)

pub counted_some : {X : Type 0} (p : X → Bool) (xs : List X) → 0 < counted p xs → (x : X) × IsIn xs x × (p x ≡ true)
counted_some p [] l = absurd (omega (arith, l))
counted_some p (x ∷ xs) l = grind (arith, nat_tests, counted_some p xs)

pub count_filter_le : (q t : ℕ → Bool) (xs : List ℕ) → counted q (filter t xs) ≤ counted q xs
count_filter_le q t [] = omega arith
count_filter_le q t (x ∷ xs) = grind (arith, nat_tests, count_filter_le q t xs)

abbrev isnt : ℕ → ℕ → Bool
isnt o x = not (x == o)

count_without : (q : ℕ → Bool) (xs : List ℕ) (o : ℕ) → IsIn xs o
    → counted q (filter (isnt o) xs) + cond (q o) 1 0 ≤ counted q xs
count_without q [] o h = absurd h
count_without q (x ∷ xs) o (inl e) = grind (arith, nat_tests, eq-eqb x o e, count_filter_le q (isnt o) xs)
count_without q (x ∷ xs) o (inr h) = grind (arith, nat_tests, count_without q xs o h)

-- Different numbers of one sort, which are all in a list, are no more than the list has.
pub count_within : (q : ℕ → Bool) (s all : List ℕ) → EachTwo (λ a b. a ≢ b) s
    → ((x : ℕ) → IsIn s x → q x ≡ true → IsIn all x) → counted q s ≤ counted q all
count_within q [] all d h = omega arith
count_within q (o ∷ s) all d h = elim (cases_Bool (q o)) [
  | inl e ↦ grind (arith, nat_tests, count_within q s (filter (isnt o) all) d.1, each_in, filter-in, count_without)
  | inr e ↦ rw e (omega (arith, count_within q s all d.1 (λ x k. h x (inr k))))
]

-- numbers are told apart by sorts alone
pub record IsLikeness (same : ℕ → ℕ → Bool) : Type 0 where
  pub itself : (a : ℕ) → same a a ≡ true
  pub left : (a b x : ℕ) → same a b ≡ true → same a x ≡ same b x
  pub right : (a b x : ℕ) → same a b ≡ true → same x a ≡ same x b

abbrev pub AreApart : List ℕ → Type 0
AreApart s = EachTwo (λ a b. a ≢ b) s

abbrev pub AreAlike : (ℕ → ℕ → Bool) → List ℕ → List ℕ → Type 0
AreAlike same reps s = AllZip (λ r o. same r o ≡ true) reps s

-- how often a class is asked for in lists that are alike
pub count_alike : (same : ℕ → ℕ → Bool) → IsLikeness same → (r : ℕ) (reps s : List ℕ) → AreAlike same reps s
    → counted (same r) reps ≡ counted (same r) s
count_alike same classes r =
    by_pairs (λ q o. same q o ≡ true) (λ qs os. counted (same r) qs ≡ counted (same r) os) refl
    (λ q o qs os alike later. grind (arith, nat_tests, classes.right q o r alike))

-- one of a sort of which a list has more than another, that isn't in the other
spare : (q : ℕ → Bool) (all s : List ℕ) → AreApart all → counted q s < counted q all → (o : ℕ) × IsIn all o
    × (q o ≡ true) × (IsIn s o → ⊥)
spare q all s d l =
    let free : ℕ → Bool = λ x. q x && not (list_any (λ y. y == x) s) in
    elim (cases_Bool (list_any free all)) [
      | inl e ↦
          let o = in-any free all e in
          (o.0, o.1, grind (arith, nat_tests, o.2), grind (arith, nat_tests, o.2, any-in))
      | inr e ↦
          let within = count_within q all s d (λ x k h. grind (arith, any-in, in-any, eqb-true)) in
          absurd (omega (arith, l, within))
    ]

pub record IsGiving (same : ℕ → ℕ → Bool) (all reps s : List ℕ) : Type 0 where
  pub alike : AreAlike same reps s
  pub known : AllByRecursion (IsIn all) s
  pub apart : AreApart s

pub give : (same : ℕ → ℕ → Bool) → IsLikeness same → (all : List ℕ) → AreApart all → (reps : List ℕ) →
    ((r : ℕ) → IsIn reps r → counted (same r) reps ≤ counted (same r) all) → (s : List ℕ) × IsGiving same all reps s
give same classes all d [] h = ([], record { alike = tt; known = tt; apart = tt })
give same classes all d (r ∷ reps) h =
    let later = give same classes all d reps (λ q k. omega (arith, h q (inr k))) in
    let asked : cond true 1 0 + counted (same r) reps ≤ counted (same r) all = grind arith in
    let like = count_alike same classes r reps later.0 later.1.alike in
    let o = spare (same r) all later.0 d (omega (arith, asked, like)) in (
      o.0 ∷ later.0,
      record {
        alike = (o.2, later.1.alike);
        known = (o.1, later.1.known);
        apart = (each_from _ later.0 (λ x k q. o.3 (subst (λ v. IsIn later.0 v) (sym q) k)), later.1.apart);
      },
    )

-- ======== The colours that options give an item, in turn: they agree where those of each two options do.

-- the colours that these options give item i
abbrev pub gathered : Puzzle → ℕ → List ℕ → List ℕ
gathered p i reps = filter_map (λ o. colour_in (uses_of p o) i) reps

pub length-gathered : (p : Puzzle) (i : ℕ) (reps : List ℕ) → length (gathered p i reps) ≡ times_held p i reps
length-gathered p i reps =
    is_count_by (λ os. length (gathered p i os)) (λ o. is_some (colour_in (uses_of p o) i)) refl
    (λ o os. grind (arith, nat_tests)) reps

-- what holds of each value, and of each two
each-kept : {X Y : Type 0} (P : Y → Type 0) (f : X → Option Y) (xs : List X)
    → AllByRecursion (λ x. (y : Y) → f x ≡ Some y → P y) xs ↔ AllByRecursion P (filter_map f xs)
each-kept P f [] = (λ a. a, λ a. a)
each-kept P f (x ∷ xs) = grind (arith, nat_tests, each-kept P f xs)

pub EachTwo-kept : {X Y : Type 0} (R : Y → Y → Type 0) (f : X → Option Y) (xs : List X)
    → EachTwo (λ a b. (c d : Y) → f a ≡ Some c → f b ≡ Some d → R c d) xs ↔ EachTwo R (filter_map f xs)
EachTwo-kept R f [] = (λ a. a, λ a. a)
EachTwo-kept {X} {Y} R f (x ∷ xs) = at (f x) (EachTwo-kept R f xs)
  where
    at : {A : Type 0} (o : Option Y) → (A ↔ EachTwo R (filter_map f xs))
        → (AllByRecursion (λ b. (c d : Y) → o ≡ Some c → f b ≡ Some d → R c d) xs × A)
        ↔ EachTwo R (cons_option o (filter_map f xs))
    at None later = (λ a. later.0 a.1, λ a. (each_of_all _ xs (λ b c d q. cc), later.1 a))
    at (Some y) later = (
      λ a. ((each-kept (R y) f xs).0 (each_weaker _ _ xs (λ b h d. h y d refl) a.0), later.0 a.1),
      λ a. (
        each_weaker _ _ xs (λ b h c d q. subst (λ z. f b ≡ Some d → R z d) (same_Some y c q) (h d))
            ((each-kept (R y) f xs).1 a.0),
        later.1 a.1,
      ),
    )

-- ---- colours that agree

abbrev pub Agree : ℕ → ℕ → Type 0
Agree c d = (c ≡ d) × (0 < c)

-- at each two places the colours of item i agree
abbrev pub AgreeAt : Puzzle → ℕ → List ℕ → Type 0
AgreeAt p i reps = (j k a b c d : ℕ) → j < k → slice_get reps j ≡ Some a → slice_get reps k ≡ Some b
    → colour_in (uses_of p a) i ≡ Some c → colour_in (uses_of p b) i ≡ Some d → Agree c d

pub gathered-agree : (p : Puzzle) (i : ℕ) (reps : List ℕ) → AgreeAt p i reps → EachTwo Agree (gathered p i reps)
gathered-agree p i reps h =
    (EachTwo-kept Agree _ reps).0 (each_two_from_AllPairs _ reps (λ j k d l m c e. h j k _ _ c e l
    (slice_get-get_or reps j d (omega (arith, l, m))) (slice_get-get_or reps k d m)))

pub agree-gathered : (p : Puzzle) (i : ℕ) (reps : List ℕ) → EachTwo Agree (gathered p i reps) → AgreeAt p i reps
agree-gathered p i reps h j k a b c d l e f =
    EachTwo-at _ reps j k a b ((EachTwo-kept Agree (λ o. colour_in (uses_of p o) i) reps).1 h) l e f c d

-- ======== A listed solution is a cover exactly where its classes are, by counting.

numbered : (p : Puzzle) (o : ℕ) → IsIn (option_numbers p) o → IsOption p o
numbered p o h = grind (arith, in-range 1 (option_count p) o h)

pub numbers-in : (p : Puzzle) (o : ℕ) → IsOption p o → IsIn (option_numbers p) o
numbers-in p o h = range-in 1 (option_count p) o h.0 (omega (arith, h.1))

-- the uses of an option are among those of the problem
pub uses-in : (p : Puzzle) (o : ℕ) → IsOption p o → IsIn p.options (uses_of p o)
uses-in p zero h = absurd (omega (arith, h.0))
uses-in p (suc k) h = in-slice_get p.options k (uses_of p (suc k)) (numbered_some p.options (suc k) [] h.0 h.1)

pub option-sound : (p : Puzzle) → IsValid p → (o : ℕ) → IsOption p o → IsSoundOption p (uses_of p o)
option-sound p v o h = each_in _ _ _ (recursion_from_All (λ us. IsSoundOption p us) p.options v.options) (uses-in p o h)

pub option-differs : (p : Puzzle) → IsValid p → (o : ℕ) → IsOption p o → DifferInItems (uses_of p o)
option-differs p v o h =
    let s = option-sound p v o h in each_two_from_AllPairs (λ (u v : Use). u.item ≢ v.item) (uses_of p o) s.distinct

-- the uses of an option can be told
pub option-known : (p : Named) → IsSound p → (o : ℕ) → IsOption p.puzzle o → All (IsKnownUse p) (uses_of p.puzzle o)
option-known p r o h = grind (arith, known_option, numbered_some)

pub alike-classes : (p : Puzzle) → IsLikeness (alike p)
alike-classes p = record {
  itself = λ a. same_uses-itself (class_at p a);
  left = λ a b x h. ap (λ us. same_uses us (class_at p x)) (same_uses-are (class_at p a) (class_at p b) h);
  right = λ a b x h. ap (λ us. same_uses (class_at p x) us) (same_uses-are (class_at p a) (class_at p b) h);
}

abbrev AreKnown : Puzzle → List ℕ → Type 0
AreKnown p s = AllByRecursion (IsOption p) s

-- options of the problem for bodies, for each one that it stands for
abbrev pub StandFor : Named → List (List (List ℕ)) → List ℕ → Type 0
StandFor p bodies s = AllZip (λ words o. IsTrue (stands_for p words o)) bodies s

-- bodies that stand for options stand for those that are alike, and for no others
stand-alike : (p : Named) → IsSound p → (bodies : List (List (List ℕ))) (reps s : List ℕ) → AreKnown p.puzzle reps
    → AreKnown p.puzzle s → StandFor p bodies reps → StandFor p bodies s ↔ AreAlike (alike p.puzzle) reps s
stand-alike p r (words ∷ bodies) (q ∷ reps) (o ∷ s) a b h =
    let later = stand-alike p r bodies reps s a.1 b.1 h.1 in
    grind (arith, option-differs, body-class, option-known, same_uses-itself, body-alike, same_uses-are)
stand-alike p r [] (q ∷ reps) _ a b h = absurd h
stand-alike p r (words ∷ bodies) [] _ a b h = absurd h
stand-alike p r _ _ _ a b h = (λ k. k, λ k. k)

-- options that are alike, each beside the other
module _ (p : Puzzle) (v : IsValid p) (reps s : List ℕ) (known : AreKnown p s) (z : AreAlike (alike p) reps s) where
  -- they give each item the same colours
  gathered-alike : (i : ℕ) → gathered p i reps ≡ gathered p i s
  gathered-alike i =
      by_pairs (λ q o. alike p q o ≡ true) (λ qs os. AreKnown p os → gathered p i qs ≡ gathered p i os) (λ k. refl)
      (λ q o qs os h later k.
      let same = colour-alike (uses_of p q) (uses_of p o) i (option-differs p v o k.0) (same_uses-are _ _ h) in
      ap₂ cons_option same (later k.1)) reps s z known

  held-alike : (i : ℕ) → times_held p i reps ≡ times_held p i s
  held-alike i = sym (length-gathered p i reps) ∙ ap length (gathered-alike i) ∙ length-gathered p i s

  pub classes_of_cover : IsCover p s → IsCoverOfClasses p reps
  classes_of_cover c = record {
    asked =
        λ r.
        let within = count_within (alike p r) s (option_numbers p) apart
        (λ o k e. numbers-in p o (each_in _ _ _ known k)) in
        omega (arith, within, count_alike (alike p) (alike-classes p) r reps s z, is_counted {X = ℕ});
    within = λ i b e. rw (held-alike i) (c.within i b e);
    agree = λ j k q r i x y l e f second.
        agree-gathered p i reps (rw (gathered-alike i) (agree i second)) j k q r x y l e f;
  }
    where
      apart : AreApart s
      apart = each_two_from_AllPairs (λ (a b : ℕ). a ≢ b) s c.distinct

      agree : (i : ℕ) → IsSecondary p i → EachTwo Agree (gathered p i s)
      agree i second = (EachTwo-kept Agree (λ o. colour_in (uses_of p o) i) s).0 (EachTwo-weaker _ _ s
          (λ a b in_a in_b ne x y e f.
          c.agree a b i x y (contains-in s a in_a) (contains-in s b in_b) ne second e f) apart)

  pub cover_of_classes : AreApart s → IsCoverOfClasses p reps → IsCover p s
  cover_of_classes apart c = record {
    known = All-from_recursion (IsOption p) s known;
    distinct = AllPairs-from_each_two (λ (a b : ℕ). a ≢ b) s apart;
    within = λ i b e. rw (held-alike i) at (c.within i b e);
    agree = λ o u i x y in_o in_u ne second e f.
        let both = gathered-agree p i reps (λ j k a b g h l m n q w. c.agree j k a b i g h l m n second q w) in
        elim (EachTwo-of _ s o u ((EachTwo-kept Agree _ s).1 (rw (gathered-alike i) at both)) (in-contains s o in_o)
        (in-contains s u in_u)) [
          | inl same ↦ absurd (ne same)
          | inr (inl before) ↦ before x y e f
          | inr (inr behind) ↦ let agreed = behind y x f e in (sym agreed.0, omega (arith, agreed))
        ];
  }

-- Whatever options are taken for the bodies, different ones can be given to them so that their set is a cover exactly
-- where those taken are a cover of their classes.
pub classes_decide : (p : Named) (bodies : List (List (List ℕ))) (reps : List ℕ) → IsSound p
    → AllByRecursion (IsOption p.puzzle) reps → StandFor p (filter (is_known p) bodies) reps →
    IsListedCover p bodies ↔ IsCoverOfClasses p.puzzle reps
classes_decide p bodies reps r all h = (
  λ (g : IsListedCover p bodies).
      let s = recursion_from_All (IsOption p.puzzle) g.0 g.2.known in
      classes_of_cover p.puzzle r.valid reps g.0 s ((stand-alike p r _ reps g.0 all s h).0 g.1) g.2,
  λ c.
      let g = give (alike p.puzzle) (alike-classes p.puzzle) (option_numbers p.puzzle)
      (range-apart 1 (option_count p.puzzle))
      reps (λ q k. omega (arith, c.asked q, is_counted {X = ℕ})) in
      let s = each_weaker (IsIn (option_numbers p.puzzle)) (IsOption p.puzzle) g.0 (numbered p.puzzle) g.1.known in (
        g.0,
        (stand-alike p r _ reps g.0 all s h).1 g.1.alike,
        cover_of_classes p.puzzle r.valid reps g.0 s g.1.alike g.1.apart c,
      ),
)
