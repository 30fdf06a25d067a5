-- What the counts of a listed solution say.
use Rattle.std.proofs.Common.{[], ℕ, suc, ◌≡◌, ◌+◌, ◌-◌, ◌<◌, ◌≤◌, ◌==◌, List, ◌∷◌, ◌++◌, length, get_or, set, refl}
use Rattle.std.proofs.Common.{◌∙◌, arith, ◌≢◌, inl, inr, Bool, true, cond, replicate, Some, sym, ap, ap₂, subst, map}
use Rattle.std.proofs.Common.{filter, None, take, zero, le-ltb, eq-eqb}
use Rattle.std.specs.List.{AllByRecursion, AllZip, list_all, cons_option, flat_map}
use Rattle.std.proofs.lemmas.List.{get_or-set_same, get_or-set_other, length-set, get_or_past, length-replicate}
use Rattle.std.proofs.lemmas.List.{get_or-replicate, length-map, map-append, set_comm, set-set, set-get_or, append-nil}
use Rattle.std.proofs.lemmas.List.{take_more}
use Rattle.std.proofs.lemmas.Bool.{cases_lt, leb-true, le-leb, cases_eq}
use Rattle.std.proofs.lemmas.Bool.Decides.{nat_tests}
use Rattle.std.specs.Prelude.{AllPairs, slice_get, nat_le, count_by, ◌↔◌, Option, All, nat_lt, ◌&&◌}
use Rattle.std.proofs.lemmas.Option.{slice_get_within, get_or_from_slice_get, slice_get_past}
use Rattle.std.proofs.lemmas.Grind.{common_steps, flat_map-append}
use Rattle.std.proofs.lemmas.List.Sums.{length-filter}
use Rattle.std.proofs.lemmas.List.Elements.{filter-append, recursion_from_All}
use Rattle.std.proofs.lemmas.List.Recursion.{is_sum_by}
use Rattle.std.proofs.lemmas.List.Folds.{list_all-append}
use Rattle.xc_input.specs.declared.problem.Use.{Use}
use Rattle.xc_input.specs.Problem.{Puzzle, colour_in, uses_of, item_count, IsSoundUse, IsSecondary, bounds_at}
use Rattle.xc_input.specs.Named.{IsSound, Named, IsKnownUse}
use Rattle.xc_input.specs.declared.problem.Bounds.{Bounds}
use Rattle.xc_text.proofs.ListLemmas.{EachTwo, each_weaker, by_option, each_of_all, list_all-each, map-in, filter-in}
use Rattle.xc_text.proofs.ListLemmas.{each-append, not_some, each_in, each_from}
use Rattle.xc_input.specs.Cover.{times_held}
use Rattle.xc_check.specs.inner.Classes.{raised, lowered, item_places, added, colours_after, Classes, AreClasses}
use Rattle.xc_check.specs.inner.Classes.{IsOfClass, class_at, same_uses, alike, option_numbers, class_size, uses_at}
use Rattle.xc_check.specs.inner.Classes.{uses_in, allows_use, class_of, short_of, IsCoverOfClasses, is_met}
use Rattle.xc_check.specs.inner.Classes.{is_class_met}
use Rattle.xc_check.proofs.ClassLemmas.{counted, one_place, is_counted, same_uses-are, same_uses-itself, alike-classes}
use Rattle.xc_check.proofs.ClassLemmas.{by_pairs, beside, passes-at, counted_some, DifferInItems, differ-turned}
use Rattle.xc_check.proofs.ClassLemmas.{colour-class, option-differs, last_or, gathered, Agree, class_start, All-turned}
use Rattle.xc_check.proofs.ClassLemmas.{option-sound, length-gathered, AgreeAt, gathered-agree, agree-gathered}

-- ======== What uses add to the counts of their items.

-- how many of these uses are of item i
abbrev pub held : ℕ → List Use → ℕ
held i us = counted (λ u. u.item == i) us

abbrev pub AreItems : ℕ → List Use → Type 0
AreItems n us = AllByRecursion (λ u. (1 ≤ u.item) × (u.item ≤ n)) us

-- ---- places

pub raised-append : (js ks ns : List ℕ) → raised (js ++ ks) ns ≡ raised ks (raised js ns)
raised-append [] ks ns = refl
raised-append (j ∷ js) ks ns = raised-append js ks (set ns j (get_or ns j 0 + 1))

pub lowered-append : (js ks ns : List ℕ) → lowered (js ++ ks) ns ≡ lowered ks (lowered js ns)
lowered-append [] ks ns = refl
lowered-append (j ∷ js) ks ns = lowered-append js ks (set ns j 0)

pub length-raised : (ks ns : List ℕ) → length (raised ks ns) ≡ length ns
length-raised [] ns = refl
length-raised (k ∷ ks) ns = length-raised ks (set ns k (get_or ns k 0 + 1)) ∙ length-set ns k (get_or ns k 0 + 1)

pub length-lowered : (ks ns : List ℕ) → length (lowered ks ns) ≡ length ns
length-lowered [] ns = refl
length-lowered (k ∷ ks) ns = length-lowered ks (set ns k 0) ∙ length-set ns k 0

pub raised-at : (ks ns : List ℕ) (k : ℕ) → k < length ns
    → get_or (raised ks ns) k 0 ≡ get_or ns k 0 + counted (λ j. j == k) ks
raised-at [] ns k l = omega arith
raised-at (j ∷ ks) ns k l =
    let n = get_or ns j 0 + 1 in
    let later = raised-at ks (set ns j n) k (omega (arith, l, length-set ns j n)) in
    grind (arith, nat_tests, get_or-set_same, get_or-set_other)

-- at a place behind all of them too
pub raised-most : (ks ns : List ℕ) (k : ℕ) → get_or (raised ks ns) k 0 ≤ get_or ns k 0 + counted (λ j. j == k) ks
raised-most ks ns k = grind (arith, cases_lt, raised-at, get_or_past, length-raised)

-- ---- uses

pub coloured-append : (us vs : List Use) (cs : List ℕ) → colours_after (us ++ vs) cs
    ≡ colours_after vs (colours_after us cs)
coloured-append [] vs cs = refl
coloured-append (u ∷ us) vs cs = coloured-append us vs (set cs (u.item - 1) u.colour)

pub length-coloured : (us : List Use) (cs : List ℕ) → length (colours_after us cs) ≡ length cs
length-coloured [] cs = refl
length-coloured (u ∷ us) cs = length-coloured us (set cs (u.item - 1) u.colour) ∙ length-set cs (u.item - 1) u.colour

pub held-places : (n : ℕ) (us : List Use) (k : ℕ) → AreItems n us
    → counted (λ j. j == k) (item_places us) ≡ held (suc k) us
held-places n [] k a = refl
held-places n (u ∷ us) k a = grind (arith, nat_tests, held-places n us k a.1)

-- at the place of each item
pub added-at : (n : ℕ) (us : List Use) (ts : List ℕ) (k : ℕ) → AreItems n us → n ≡ length ts → k < n
    → get_or (added us ts) k 0 ≡ get_or ts k 0 + held (suc k) us
added-at n us ts k a e l = grind (arith, raised-at, held-places)

-- ======== How often classes are asked, by numbers of classes and by options.

same_test : (classes : List (List Use)) (j k : ℕ) (us vs : List Use) → AllPairs (λ a b. a ≢ b) classes
    → slice_get classes j ≡ Some us → slice_get classes k ≡ Some vs → (j == k) ≡ same_uses vs us
same_test classes j k us vs apart e f =
    let place : us ≡ vs → j ≡ k = λ q. one_place classes j k us apart e (f ∙ ap (λ ws. Some ws) (sym q)) in
    grind (arith, nat_tests, same_uses-are vs us, same_uses-itself us, place)

abbrev pub asked_after : Classes → List ℕ → List ℕ
asked_after b ks = raised ks (replicate (length b.classes) 0)

-- whether a class is asked no more often than it has options
abbrev pub has_room : Classes → List ℕ → ℕ → Bool
has_room b ks k = nat_le (get_or (asked_after b ks) k 0) (class_size b.problem.puzzle (uses_at b.classes k))

-- whether options like this one are taken no more often than there are
abbrev pub IsAsked : Puzzle → List ℕ → ℕ → Type 0
IsAsked p reps r = count_by (alike p r) reps ≤ count_by (alike p r) (option_numbers p)

module _ (b : Classes) (are : AreClasses b.problem.puzzle b.classes) (ks reps : List ℕ)
    (z : AllZip (IsOfClass b) ks reps) where
  -- a class is asked as often as its options stand among those taken
  asked-at : (k o : ℕ) → IsOfClass b k o → get_or (asked_after b ks) k 0 ≡ counted (alike b.problem.puzzle o) reps
  asked-at k o g =
      let zeros : List ℕ = replicate (length b.classes) 0 in
      let l : k < length b.classes = slice_get_within b.classes k (class_at b.problem.puzzle o) g.1 in
      let same : counted (λ j. j == k) ks ≡ counted (alike b.problem.puzzle o) reps =
      by_pairs (IsOfClass b) (λ js qs. counted (λ j. j == k) js ≡ counted (alike b.problem.puzzle o) qs) refl
      (λ j q js qs h e. ap₂ (λ t n. cond t 1 0 + n) (same_test b.classes j k _ _ are.distinct h.1 g.1) e) ks reps z in
      let raises = raised-at ks zeros k (omega (arith, l, length-replicate {A = ℕ} (length b.classes) 0)) in
      omega (arith, raises, same, get_or-replicate {A = ℕ} (length b.classes) k 0 0 l)

  room_asked : (k o : ℕ) → IsOfClass b k o → has_room b ks k ≡ true ↔ IsAsked b.problem.puzzle reps o
  room_asked k o g =
      let at = asked-at k o g in
      let class = get_or_from_slice_get b.classes k (class_at b.problem.puzzle o) [] g.1 in
      grind (arith, nat_tests, is_counted)

  pub asked_by_rooms : list_all (has_room b ks) ks ≡ true → (r : ℕ) → IsAsked b.problem.puzzle reps r
  asked_by_rooms rooms r =
      let p = b.problem.puzzle in
      elim (cases_lt 0 (counted (alike p r) reps)) [
        | inl l ↦
            let o = counted_some (alike p r) reps l in
            let k = beside (IsOfClass b) ks reps o.0 z o.1 in
            subst (λ f. count_by f reps ≤ count_by f (option_numbers p))
            (λ i x. sym ((alike-classes p).left r o.0 x o.2) i)
            ((room_asked k.0 o.0 k.2).0 (passes-at (has_room b ks) ks k.0 rooms k.1))
        | inr l ↦ omega (arith, l, is_counted (alike p r) reps)
      ]

  pub rooms_by_asked : ((r : ℕ) → IsAsked b.problem.puzzle reps r) → list_all (has_room b ks) ks ≡ true
  rooms_by_asked asked =
      by_pairs (IsOfClass b) (λ js qs. list_all (has_room b ks) js ≡ true) refl
      (λ k o js qs h later. rw ((room_asked k o h).1 (asked o)) later) ks reps z

-- ======== The colours that options give an item, in turn.

-- the colours of these uses of item i
abbrev pub given : ℕ → List Use → List ℕ
given i us = map (λ u. u.colour) (filter (λ u. u.item == i) us)

pub length-given : (i : ℕ) (us : List Use) → length (given i us) ≡ held i us
length-given i us =
    length-map _ (λ u. u.colour) ∙ length-filter (λ u. u.item == i) us ∙ is_counted (λ u. u.item == i) us

given-append : (i : ℕ) (us vs : List Use) → given i (us ++ vs) ≡ given i us ++ given i vs
given-append i us vs = simp (filter-append, map-append)

-- the colour that was given last
pub coloured-at : (n : ℕ) (us : List Use) (cs : List ℕ) (k : ℕ) → AreItems n us → n ≡ length cs → k < n
    → get_or (colours_after us cs) k 0 ≡ last_or (get_or cs k 0) (given (suc k) us)
coloured-at n [] cs k a e l = refl
coloured-at n (u ∷ us) cs k a e l =
    let size = e ∙ sym (length-set cs (u.item - 1) u.colour) in
    let later = coloured-at n us (set cs (u.item - 1) u.colour) k a.1 size l in
    grind (arith, common_steps, get_or-set_same)

-- ---- uses and options

given_none : (i : ℕ) (us : List Use) → AllByRecursion (λ u. i ≢ u.item) us → given i us ≡ []
given_none i [] a = refl
given_none i (u ∷ us) a = grind (arith, nat_tests, given_none i us a.1)

-- uses of different items
given_once : (i : ℕ) (us : List Use) (cs : List ℕ) → DifferInItems us
    → given i us ++ cs ≡ cons_option (colour_in us i) cs
given_once i [] cs d = refl
given_once i (u ∷ us) cs d = grind (arith, nat_tests, given_once i us cs d.1, given_none u.item us d.0)

pub held_once : (i : ℕ) (us : List Use) → DifferInItems us → held i us ≤ 1
held_once i us d = let once = given_once i us [] d in grind (arith, common_steps, length-given, by_option)

pub given-gathered : (i : ℕ) (b : Classes) (ks reps : List ℕ) → IsSound b.problem → AllZip (IsOfClass b) ks reps
    → given i (uses_in b.classes ks) ≡ gathered b.problem.puzzle i reps
given-gathered i b ks reps s =
    let p = b.problem.puzzle in
    by_pairs (IsOfClass b) (λ js os. given i (uses_in b.classes js) ≡ gathered p i os) refl (λ j o js os h later.
    let differ = option-differs p s.valid o h.0 in
    let own = given_once i (class_at p o) (gathered p i os) (differ-turned _ _ differ) in
    let same = colour-class i (uses_of p o) differ in
    let at = get_or_from_slice_get b.classes j (class_at p o) [] h.1 in
    cc (given-append i (uses_at b.classes j) (uses_in b.classes js))) ks reps

-- ---- each colour

-- what holds of the colour of each use of item i
pub given-each : (P : ℕ → Type 0) (i : ℕ) (us : List Use) → AllByRecursion (λ u. u.item ≡ i → P u.colour) us
    → AllByRecursion P (given i us)
given-each P i [] a = tt
given-each P i (u ∷ us) a = grind (arith, nat_tests, given-each P i us a.1)

-- ---- colours that agree

last_same : (c : ℕ) (cs : List ℕ) → AllByRecursion (λ d. c ≡ d) cs → last_or c cs ≡ c
last_same c [] a = refl
last_same c (d ∷ cs) a = last_same d cs (subst (λ e. AllByRecursion (λ f. e ≡ f) cs) a.0 a.1) ∙ sym a.0

-- whether the counts of an item that was given colours in turn agree with a colour
abbrev pub agrees_with : Option Bounds → ℕ → List ℕ → ℕ → Type 0
agrees_with v d cs c = allows_use v (length cs) (last_or d cs) c ≡ true

agree-last : (d : ℕ) (cs : List ℕ) → EachTwo Agree cs → AllByRecursion (agrees_with None d cs) cs
agree-last d [] h = tt
agree-last d (x ∷ []) h = (refl, tt)
agree-last d (x ∷ y ∷ cs) h = grind (arith, last_same, each_weaker, nat_tests)

all_agree : (l : ℕ) (cs : List ℕ) → AllByRecursion (Agree l) cs → EachTwo Agree cs
all_agree l [] a = tt
all_agree l (c ∷ cs) a = grind (arith, each_weaker, nat_tests, all_agree l cs a.1)

last-agree : (d : ℕ) (cs : List ℕ) → AllByRecursion (agrees_with None d cs) cs → EachTwo Agree cs
last-agree d [] h = tt
last-agree d (x ∷ []) h = (tt, tt)
last-agree d (x ∷ y ∷ cs) h = all_agree (last_or d (x ∷ y ∷ cs)) (x ∷ y ∷ cs) (grind (arith, common_steps, each_weaker))

-- an item with these bounds, or none where it is secondary, may be given these colours
abbrev pub Fits : Option Bounds → List ℕ → Type 0
Fits (Some x) cs = length cs ≤ x.high
Fits None cs = EachTwo Agree cs

pub agrees-fits : (v : Option Bounds) (d : ℕ) (cs : List ℕ) → AllByRecursion (agrees_with v d cs) cs ↔ Fits v cs
agrees-fits (Some x) d [] = (λ a. omega arith, λ h. tt)
agrees-fits (Some x) d (c ∷ cs) = (λ a. leb-true _ _ a.0, λ h. each_of_all _ (c ∷ cs) (λ e. le-leb _ _ h))
agrees-fits None d cs = (last-agree d cs, agree-last d cs)

-- ======== What classes add to the counts, and that the counts are 0 again once they were cleared.

-- ---- the uses of a class

-- known uses are of the items that there are
pub known_items : (p : Named) (us : List Use) (n : ℕ) → n ≡ item_count p.puzzle → All (IsKnownUse p) us
    → All (λ u. (1 ≤ u.item) × (u.item ≤ n)) us
known_items p us n e = grind arith

-- the uses of each class are of different items
pub classes_usable : (b : Classes) → IsSound b.problem → AreClasses b.problem.puzzle b.classes
    → (k : ℕ) (us : List Use) → slice_get b.classes k ≡ Some us
    → AreItems (item_count b.problem.puzzle) us × DifferInItems us
classes_usable b s are k us e =
    let p = b.problem.puzzle in
    let one = are.used k us e in
    let own = uses_of p one.0 in
    let sound = All-turned (IsSoundUse p) (class_start own) own (option-sound p s.valid one.0 one.1).sound in
    let items : AreItems (item_count p) (class_of own) =
    each_weaker _ _ _ (λ u h. h.0) (recursion_from_All (IsSoundUse p) (class_of own) sound) in
    let differ = differ-turned _ _ (option-differs p s.valid one.0 one.1) in
    subst (λ vs. AreItems (item_count p) vs × DifferInItems vs) one.2 (items, differ)

-- where the class at place i has the uses us
pub uses_in-take : (classes : List (List Use)) (ks : List ℕ) (i : ℕ) (us : List Use) → i < length ks
    → slice_get classes (get_or ks i 0) ≡ Some us
    → uses_in classes (take (i + 1) ks) ≡ uses_in classes (take i ks) ++ us
uses_in-take classes ks i us l e =
    rw (take_more ks i 0 l, flat_map-append, get_or_from_slice_get classes _ us [] e, append-nil) refl

pub zeros-at : (n k : ℕ) → get_or {A = ℕ} (replicate n 0) k 0 ≡ 0
zeros-at n k = grind (arith, cases_lt, get_or-replicate, get_or_past, length-replicate)

-- uses of different items raise no count by more than 1
pub added_once : (n : ℕ) (us : List Use) (ts : List ℕ) (k : ℕ) → AreItems n us → DifferInItems us
    → get_or (added us ts) k 0 ≤ get_or ts k 0 + 1
added_once n us ts k a d =
    omega (arith, raised-most (item_places us) ts k, held-places n us k a, held_once (suc k) us d)

-- ---- all 0 again

lowered_last : (ks ns : List ℕ) (k : ℕ) → lowered ks (set ns k 0) ≡ set (lowered ks ns) k 0
lowered_last [] ns k = refl
lowered_last (j ∷ ks) ns k = grind (arith, cases_eq, set_comm, set-set, lowered_last ks (set ns j 0) k)

lowered_raised : (ks ns : List ℕ) → lowered ks (raised ks ns) ≡ lowered ks ns
lowered_raised [] ns = refl
lowered_raised (k ∷ ks) ns = grind (arith, set-set, lowered_last, lowered_raised ks (set ns k (get_or ns k 0 + 1)))

lowered_zeros : (ks ns : List ℕ) → ((k : ℕ) → get_or ns k 0 ≡ 0) → lowered ks ns ≡ ns
lowered_zeros [] ns zeros = refl
lowered_zeros (k ∷ ks) ns zeros = grind (arith, set-get_or, zeros k, lowered_zeros ks ns zeros)

pub lowered_back : (ks ns : List ℕ) → ns ≡ replicate (length ns) 0 → lowered ks (raised ks ns) ≡ ns
lowered_back ks ns zeros =
    lowered_raised ks ns ∙ lowered_zeros ks ns (λ k. ap (λ ms. get_or ms k 0) zeros ∙ zeros-at (length ns) k)

-- ======== How many items are held too seldom.

-- an item is held once more: it may reach its lower bound
pub held_once_more : (bs : List Bounds) (ts : List ℕ) (k t : ℕ) (d : Bounds) → k < length ts → t ≡ get_or ts k t
    → short_of bs (set ts k (t + 1)) + cond (nat_lt k (length bs) && (t + 1) == (get_or bs k d).low) 1 0
    ≡ short_of bs ts
held_once_more [] ts k t d l e = grind (arith, nat_tests)
held_once_more (b ∷ bs) [] k t d l e = absurd (omega (arith, l))
held_once_more (b ∷ bs) (x ∷ ts) zero t d l e = grind (arith, nat_tests)
held_once_more (b ∷ bs) (x ∷ ts) (suc k) t d l e = grind (arith, held_once_more bs ts k t d (omega (arith, l)) e)

short_here : (t n : ℕ) (x b : Bounds) → x ≡ b → cond (nat_lt t x.low) 1 0 + n ≡ 0 → b.low ≤ t
short_here t n x b e h = grind (arith, nat_tests)

-- no item is held too seldom
pub short_none : (bs : List Bounds) (ts : List ℕ) → short_of bs ts ≡ 0 → (k : ℕ) (b : Bounds) → slice_get bs k ≡ Some b
    → b.low ≤ get_or ts k 0
short_none [] ts h k b e = cc
short_none (x ∷ bs) [] h zero b e = short_here 0 (short_of bs []) x b (cc e) h
short_none (x ∷ bs) [] h (suc k) b e = omega (arith, short_none bs [] (omega (arith, h)) k b e)
short_none (x ∷ bs) (t ∷ ts) h zero b e = short_here t (short_of bs ts) x b (cc e) h
short_none (x ∷ bs) (t ∷ ts) h (suc k) b e = short_none bs ts (omega (arith, h)) k b e

pub none_short : (bs : List Bounds) (ts : List ℕ)
    → ((k : ℕ) (b : Bounds) → slice_get bs k ≡ Some b → b.low ≤ get_or ts k 0) → short_of bs ts ≡ 0
none_short [] ts h = refl
none_short (x ∷ bs) [] h =
    rw (le-ltb 0 x.low (h 0 x refl)) (omega (arith, none_short bs [] (λ k b e. omega (arith, h (suc k) b e))))
none_short (x ∷ bs) (t ∷ ts) h =
    rw (le-ltb t x.low (h 0 x refl)) (omega (arith, none_short bs ts (λ k b e. h (suc k) b e)))

pub short_zeros : (bs : List Bounds) (n : ℕ) → short_of bs (replicate n 0) ≡ short_of bs []
short_zeros [] n = refl
short_zeros (b ∷ bs) zero = refl
short_zeros (b ∷ bs) (suc n) = omega (arith, short_zeros bs n)

-- what is needed where nothing is held
pub short_begun : (bs : List Bounds) → count_by (λ b. nat_lt 0 b.low) bs ≡ short_of bs []
short_begun bs = sym (is_sum_by (λ bs. short_of bs []) (λ b. cond (nat_lt 0 b.low) 1 0) refl (λ b bs. refl) bs)

-- ======== What the counts of a solution say: they agree exactly where options of its classes are a cover of their
-- classes.

-- ---- tests

-- what is asked of each element and of each of its parts, is asked of all elements and of all parts
list_all-parts : {X Y : Type 0} (f : X → Bool) (g : Y → Bool) (parts : X → List Y) (xs : List X)
    → list_all (λ x. f x && list_all g (parts x)) xs ≡ (list_all f xs && list_all g (flat_map parts xs))
list_all-parts f g parts [] = refl
list_all-parts f g parts (x ∷ xs) = grind (arith, list_all-append, list_all-parts f g parts xs)

-- ---- the counts of a solution

abbrev pub times_after : Classes → List ℕ → List ℕ
times_after b ks = added (uses_in b.classes ks) (replicate (item_count b.problem.puzzle) 0)

-- whether the counts agree
abbrev pub is_counted_cover : Classes → List ℕ → List ℕ → Bool
is_counted_cover b cs ks =
    short_of b.problem.puzzle.bounds (times_after b ks) == 0 && list_all
    (is_class_met b b.problem.puzzle.bounds (times_after b ks) (colours_after (uses_in b.classes ks) cs)
    (asked_after b ks)) ks

-- options of these classes, with the tables that count them
pub record IsSolution (b : Classes) (cs ks reps : List ℕ) : Type 0 where
  pub sound : IsSound b.problem
  pub classes : AreClasses b.problem.puzzle b.classes
  pub size : length cs ≡ item_count b.problem.puzzle
  pub taken : AllZip (IsOfClass b) ks reps

module _ (b : Classes) (cs ks reps : List ℕ) (s : IsSolution b cs ks reps) where
  abbrev p : Puzzle
  p = b.problem.puzzle

  abbrev us : List Use
  us = uses_in b.classes ks

  -- the colours that item k + 1 is given
  abbrev colours_of : ℕ → List ℕ
  colours_of k = gathered p (suc k) reps

  abbrev meets : Use → Bool
  meets u = is_met p.bounds (times_after b ks) (colours_after us cs) u

  items : AreItems (item_count p) us
  items =
      by_pairs (IsOfClass b) (λ js os. AreItems (item_count p) (uses_in b.classes js)) tt (λ k o js os h later.
      let own = classes_usable b s.sound s.classes k _ h.1 in
      let is = get_or_from_slice_get b.classes k _ [] h.1 in
      each-append _ (uses_at b.classes k) _ (rw is own.0) later) ks reps s.taken

  gives : (k : ℕ) → given (suc k) us ≡ colours_of k
  gives k = given-gathered (suc k) b ks reps s.sound s.taken

  time : (k : ℕ) → k < item_count p → get_or (times_after b ks) k 0 ≡ length (colours_of k)
  time k l =
      let zeros : List ℕ = replicate (item_count p) 0 in
      let adds = added-at _ us zeros k items (sym (length-replicate {A = ℕ} (item_count p) 0)) l in
      let none = get_or-replicate {A = ℕ} (item_count p) k 0 0 l in
      omega (arith, adds, none, length-given (suc k) us, ap length (gives k))

  met_one : (k : ℕ) (u : Use) → k < item_count p → u.item ≡ suc k
      → meets u ≡ allows_use (slice_get p.bounds k) (length (colours_of k)) (last_or (get_or cs k 0) (colours_of k))
      u.colour
  met_one k u l e = grind (arith, coloured-at, us, items, gives, time)

  fits_from_met : list_all meets us ≡ true → (k : ℕ) → k < item_count p → Fits (slice_get p.bounds k) (colours_of k)
  fits_from_met met k l =
      (agrees-fits _ (get_or cs k 0) (colours_of k)).0 (rw (gives k) at (given-each
      (agrees_with (slice_get p.bounds k) (get_or cs k 0) (colours_of k)) (suc k) us
      (each_from _ us (λ u m e. sym (met_one k u l e) ∙ passes-at meets us u met m))))

  met_from_fits : ((k : ℕ) → k < item_count p → Fits (slice_get p.bounds k) (colours_of k)) → list_all meets us ≡ true
  met_from_fits fits = list_all-each meets us (λ u m.
      let known = each_in _ _ _ items m in
      let k = u.item - 1 in
      let l : k < item_count p = omega (arith, known) in
      let e : u.item ≡ suc k = omega (arith, known) in
      let agree = (agrees-fits _ (get_or cs k 0) (colours_of k)).1 (fits k l) in
      let is = filter-in (λ (v : Use). v.item == suc k) us u m (eq-eqb u.item (suc k) e) in
      let stands = map-in (λ (v : Use). v.colour) _ _ is in
      met_one k u l e ∙ each_in _ _ _ agree (rw (gives k) at stands))

  -- what is asked of an item's bounds
  bounded : (k : ℕ) (d : Bounds) → bounds_at p (suc k) ≡ Some d
      → (k < item_count p) × (get_or (times_after b ks) k 0 ≡ times_held p (suc k) reps)
  bounded k d e = grind (arith, slice_get_within, time, length-gathered)

  parts : is_counted_cover b cs ks ≡ true
      ↔ ((short_of p.bounds (times_after b ks) ≡ 0) × (list_all (has_room b ks) ks ≡ true) × (list_all meets us ≡ true))
  parts =
      let both = list_all-parts (has_room b ks) meets (uses_at b.classes) ks in
      (λ h. grind (arith, nat_tests), λ h. grind (arith, nat_tests))

  pub counted-cover : is_counted_cover b cs ks ≡ true → IsCoverOfClasses p reps
  counted-cover h = record {
    asked = asked_by_rooms b s.classes ks reps s.taken (parts.0 h).1;
    within = within;
    agree = λ j k a q i c d l e f second. agree i second j k a q c d l e f;
  }
    where
      within : (i : ℕ) (d : Bounds) → bounds_at p i ≡ Some d → (d.low ≤ times_held p i reps)
          × (times_held p i reps ≤ d.high)
      within zero d e = cc
      within (suc k) d e =
          let at = bounded k d e in
          let low = short_none p.bounds (times_after b ks) (parts.0 h).0 k d e in
          let high : length (colours_of k) ≤ d.high = rw e at (fits_from_met (parts.0 h).2 k at.0) in
          (omega (arith, at.1, low), omega (arith, length-gathered p (suc k) reps, high))

      agree : (i : ℕ) → IsSecondary p i → AgreeAt p i reps
      agree zero second = absurd (omega (arith, second))
      agree (suc k) second =
          let none = slice_get_past p.bounds k (omega (arith, second)) in
          agree-gathered p (suc k) reps (rw none at (fits_from_met (parts.0 h).2 k (omega (arith, second))))

  pub cover-counted : IsCoverOfClasses p reps → is_counted_cover b cs ks ≡ true
  cover-counted c = parts.1 (
    none_short p.bounds (times_after b ks) low,
    rooms_by_asked b s.classes ks reps s.taken c.asked,
    met_from_fits (λ k l. fits k l (slice_get p.bounds k) refl),
  )
    where
      low : (k : ℕ) (d : Bounds) → slice_get p.bounds k ≡ Some d → d.low ≤ get_or (times_after b ks) k 0
      low k d e = omega (arith, (bounded k d e).1, (c.within (suc k) d e).0)

      fits : (k : ℕ) → k < item_count p → (v : Option Bounds) → slice_get p.bounds k ≡ v → Fits v (colours_of k)
      fits k l (Some d) e = omega (arith, length-gathered p (suc k) reps, (c.within (suc k) d e).1)
      fits k l None e =
          let second : IsSecondary p (suc k) = (omega (arith, not_some p.bounds k e), omega (arith, l)) in
          gathered-agree p (suc k) reps (λ j m a q x y o f g. c.agree j m a q (suc k) x y o f g second)
