-- Lists that lose numbers and get them back, and the lists after moves.
use Rattle.std.proofs.Common.{ℕ, zero, suc, ◌≡◌, ◌+◌, ◌<◌, ◌≤◌, Bool, true, false, cond, List, [], ◌∷◌, length, map}
use Rattle.std.proofs.Common.{Some, None, filter, refl, ap, arith, eqb-true, ◌≢◌, get_or, set, eq-eqb, vec_capacity}
use Rattle.std.proofs.Common.{◌-◌, not, eqb, ◌&&◌, ◌||◌, ◌++◌, take, ap₂, ◌∙◌, replicate, le-leb}
use Rattle.std.proofs.lemmas.Bool.{ne_eqb, lt-leb, leb-true, leb-false}
use Rattle.std.specs.List.{range_with_len, insert, remove, AllByRecursion, list_any}
use Rattle.std.proofs.lemmas.Grind.{common_steps}
use Rattle.std.specs.Global.{Vec}
use Rattle.std.proofs.lemmas.List.{map-set, get_or-map, get_or-set_same, set-set, same_lists, length-map, length-set}
use Rattle.std.proofs.lemmas.List.{get_or-set_other, length-take-le, get_or-take, get_or_default, append-nil}
use Rattle.std.proofs.lemmas.List.Edits.{length-remove}
use Rattle.std.specs.Prelude.{IsTrue, AllPairs}
use Rattle.std.proofs.lemmas.List.Folds.{list_any-append, list_any_none}
use Rattle.std.proofs.lemmas.List.Elements.{All-filter, filter_agree, All-from_recursion}
use Rattle.std.proofs.Math.Bool.{and-false, or-false, or-true, and_self, not-not}
use Rattle.std.proofs.lemmas.List.FromFn.{length-map-range_with_len, get_or-map-range_with_len}
use Rattle.xc_input.specs.declared.problem.Use.{Use}
use Rattle.xc_input.specs.Problem.{Puzzle, Numbered, option_count, holding, uses_of, item_count}
use Rattle.xc_input.proofs.OptionLemmas.{numbered_from}
use Rattle.xc_text.proofs.ListLemmas.{filter_both, each-map, each_weaker, each_of_all, keep_all}
use Rattle.xc_moves.specs.declared.dance.Move.{Move}
use Rattle.xc_moves.specs.declared.dance.Move.TheVariants.{Cover, Purify, Tweak}
use Rattle.xc_moves.specs.Moves.{listed, is_open, is_among, without, other_colours, listed_numbers}
use Rattle.xc_dance.specs.inner.Lists.{numbers_of, rooms_of, list_at, less, IsPutBack, lose_from, IsListOf}
use Rattle.xc_dance.specs.inner.Lists.{AreListsFrom, lose, keeps_colour, AreLists, lists_after, enlisted_from, enlisted}
use Rattle.xc_dance.specs.inner.Lists.{lists_before, restored, still_taken, lists_at_marks, AreFalling}
use Rattle.xc_moves.specs.inner.Uses.{has_use}
use Rattle.xc_dance.specs.declared.lists.removed.Removed.{Removed}
use Rattle.xc_moves.specs.inner.Rising.{Rises}
use Rattle.xc_moves.proofs.MoveLemmas.{numbers, by_test, Rises-filter, above, known_option, IsHolder, holds_use}
use Rattle.xc_moves.proofs.MoveLemmas.{holders, rises_listed}

-- ======== A number that is taken out of a list that rises, and put back.

-- ---- one list

pub less-absent : (x : ℕ) (xs : List ℕ) → ((k : ℕ) → k < length xs → get_or xs k 0 ≢ x) → less (x ∷ []) xs ≡ xs
less-absent x [] h = refl
less-absent x (y ∷ ys) h = let rest = less-absent x ys (λ k lt. h (suc k) (omega (arith, lt))) in grind (arith, h 0)

-- the number goes from its place
pub less-remove : (n : ℕ) (xs : List ℕ) (k : ℕ) → Rises n xs → k < length xs
    → less (get_or xs k 0 ∷ []) xs ≡ remove xs k
less-remove n [] k r lt = absurd (omega (arith, lt))
less-remove n (y ∷ ys) zero r lt = grind (arith, common_steps, eq-eqb, less-absent, above)
less-remove n (y ∷ ys) (suc k) r lt = grind (arith, common_steps, less-remove y ys k r.1 (omega (arith, lt)), above)

pub insert-remove : {X : Type 0} (xs : List X) (k : ℕ) (d : X) → k < length xs
    → insert (remove xs k) k (get_or xs k d) ≡ xs
insert-remove [] k d lt = absurd (omega (arith, lt))
insert-remove (y ∷ ys) zero d lt = refl
insert-remove (y ∷ ys) (suc k) d lt = ap (λ l. y ∷ l) (insert-remove ys k d (omega (arith, lt)))

pub rises_weakly : (n : ℕ) (xs : List ℕ) → Rises n xs → (i j : ℕ) → i ≤ j → j < length xs
    → get_or xs i 0 ≤ get_or xs j 0
rises_weakly n [] r i j le lt = absurd (omega (arith, lt))
rises_weakly n (y ∷ ys) r zero j le lt = grind (arith, above y ys)
rises_weakly n (y ∷ ys) r (suc i) zero le lt = absurd (omega (arith, le))
rises_weakly n (y ∷ ys) r (suc i) (suc j) le lt = rises_weakly y ys r.1 i j (omega (arith, le)) (omega (arith, lt))

-- a search that found another place says that the number is absent
pub less-not_found : (x i : ℕ) (xs : List ℕ) → ((k : ℕ) → k < i → get_or xs k 0 < x)
    → ((k : ℕ) → i ≤ k → k < length xs → x < get_or xs k 0) → less (x ∷ []) xs ≡ xs
less-not_found x i xs below above = less-absent x xs (λ k lt e. grind (arith, below k, above k))

-- ---- a list among lists

pub list_at-numbers_of : (ls : List (Vec ℕ)) (k : ℕ) (d : Vec ℕ) → k < length ls
    → list_at (numbers_of ls) k ≡ (get_or ls k d).items
list_at-numbers_of ls k d lt = get_or-map (λ (l : Vec ℕ). l.items) ls k d [] lt

ruleset rows = (get_or-map, get_or-set_same, insert-remove, length-remove, list_at-numbers_of, map-set, set-set)

-- a number that was removed from a vector's row can be put back
pub row_removed : (ls : List (Vec ℕ)) (new : Vec ℕ) (list place number : ℕ) (row : Vec ℕ) → list < length ls
    → row ≡ get_or ls list row → place < length row.items → get_or row.items place 0 ≡ number
    → new.items ≡ remove row.items place → length row.items ≤ vec_capacity row
    → IsPutBack (rooms_of ls) (record { place = place; list = list; number = number }) (numbers_of (set ls list new))
    (numbers_of ls)
row_removed ls new list place number row lt is_row within is gone fits = grind (arith, common_steps, rows)

-- ======== Lists that lose an option use by use, and options one by one.

-- ---- one list

not_or : (a b : Bool) → not (a || b) ≡ (not a && not b)
not_or true b = refl
not_or false b = refl

pub less_none : (l : List ℕ) → less [] l ≡ l
less_none [] = refl
less_none (x ∷ l) = ap (λ k. x ∷ k) (less_none l)

pub is_list_of-less : (p : Puzzle) (i : ℕ) (gone l : List ℕ) → IsListOf p i l → IsListOf p i (less gone l)
is_list_of-less p i gone l h = (Rises-filter _ 0 l h.0, All-filter _ (λ o. IsTrue (has_use (uses_of p o) i)) l h.1)

-- ---- all lists

-- from item i on, every open item but j that has a use here loses option o
abbrev pub hidden_from : List Move → ℕ → List Use → ℕ → ℕ → List (List ℕ) → List (List ℕ)
hidden_from t j us o i [] = []
hidden_from t j us o i (l ∷ ls) =
    cond ((not (eqb i j) && is_open i t) && has_use us i) (less (o ∷ []) l) l ∷ hidden_from t j us o (i + 1) ls

pub length-lose_from : (t : List Move) (j : ℕ) (gone : List ℕ) (n : ℕ) (ls : List (List ℕ))
    → length (lose_from t j gone n ls) ≡ length ls
length-lose_from t j gone n [] = refl
length-lose_from t j gone n (l ∷ ls) = ap suc (length-lose_from t j gone (n + 1) ls)

pub length-hidden_from : (t : List Move) (j : ℕ) (us : List Use) (o n : ℕ) (ls : List (List ℕ))
    → length (hidden_from t j us o n ls) ≡ length ls
length-hidden_from t j us o n [] = refl
length-hidden_from t j us o n (l ∷ ls) = ap suc (length-hidden_from t j us o (n + 1) ls)

pub lists-lose_from : (p : Puzzle) (t : List Move) (j : ℕ) (gone : List ℕ) (n : ℕ) (ls : List (List ℕ))
    → AreListsFrom p n ls → AreListsFrom p n (lose_from t j gone n ls)
lists-lose_from p t j gone n [] h = tt
lists-lose_from p t j gone n (l ∷ ls) h =
    (by_test (IsListOf p n) _ (is_list_of-less p n gone l h.0) h.0, lists-lose_from p t j gone (n + 1) ls h.1)

pub lists-hidden_from : (p : Puzzle) (t : List Move) (j : ℕ) (us : List Use) (o n : ℕ) (ls : List (List ℕ))
    → AreListsFrom p n ls → AreListsFrom p n (hidden_from t j us o n ls)
lists-hidden_from p t j us o n [] h = tt
lists-hidden_from p t j us o n (l ∷ ls) h =
    (by_test (IsListOf p n) _ (is_list_of-less p n (o ∷ []) l h.0) h.0, lists-hidden_from p t j us o (n + 1) ls h.1)

pub list_of : (p : Puzzle) (n k : ℕ) (ls : List (List ℕ)) → AreListsFrom p n ls → k < length ls
    → IsListOf p (n + k) (list_at ls k)
list_of p n k [] h lt = absurd (omega (arith, lt))
list_of p n zero (l ∷ ls) h lt = let same : n + 0 ≡ n = omega arith in rw same h.0
list_of p n (suc k) (l ∷ ls) h lt =
    let same : n + suc k ≡ n + 1 + k = omega arith in rw same (list_of p (n + 1) k ls h.1 (omega (arith, lt)))

pub lose_none : (t : List Move) (j n : ℕ) (ls : List (List ℕ)) → lose_from t j [] n ls ≡ ls
lose_none t j n [] = grind (arith, less_none)
lose_none t j n (l ∷ ls) = grind (arith, less_none, lose_none t j (n + 1) ls)

less_more : (gone : List ℕ) (o : ℕ) (l : List ℕ) → less (o ∷ []) (less gone l) ≡ less (gone ++ o ∷ []) l
less_more gone o [] = refl
less_more gone o (x ∷ l) = grind (arith, not_or, list_any-append (λ g. eqb g x) gone (o ∷ []), less_more gone o l)

pub lose_more : (t : List Move) (j : ℕ) (gone : List ℕ) (o n : ℕ) (ls : List (List ℕ))
    → lose_from t j (o ∷ []) n (lose_from t j gone n ls) ≡ lose_from t j (gone ++ o ∷ []) n ls
lose_more t j gone o n [] = refl
lose_more t j gone o n (l ∷ ls) = grind (arith, less_more gone o l, lose_more t j gone o (n + 1) ls)

-- the list of j itself stays
pub lose_other : (t : List Move) (j : ℕ) (gone : List ℕ) (n k : ℕ) (ls : List (List ℕ)) → n + k ≡ j
    → list_at (lose_from t j gone n ls) k ≡ list_at ls k
lose_other t j gone n k [] e = grind (arith, eq-eqb)
lose_other t j gone n zero (l ∷ ls) e = grind (arith, eq-eqb)
lose_other t j gone n (suc k) (l ∷ ls) e = grind (arith, lose_other t j gone (n + 1) k ls (omega (arith, e)))

-- an option of j's list, read while other lists lose options
pub read_option : (p : Puzzle) (t : List Move) (j : ℕ) (gone : List ℕ) (at : ℕ) (row : List ℕ) (now ls : List (List ℕ))
    → 1 ≤ j → j ≤ length ls → AreListsFrom p 1 ls →
    now ≡ lose_from t j gone 1 ls → row ≡ list_at now (j - 1) → at < length (list_at ls (j - 1)) →
    (row ≡ list_at ls (j - 1)) × ((1 ≤ get_or row at 0) × (get_or row at 0 ≤ option_count p))
read_option p t j gone at row now ls low high are is read lt =
    let list = list_of p 1 (j - 1) ls are in grind (arith, lose_other, known_option)

-- ---- use by use

pub hidden_none : (t : List Move) (j o n : ℕ) (ls : List (List ℕ)) → hidden_from t j [] o n ls ≡ ls
hidden_none t j o n [] = grind (arith, and-false)
hidden_none t j o n (l ∷ ls) = grind (arith, and-false, hidden_none t j o (n + 1) ls)

pub has_use_other : (us : List Use) (u : Use) (i : ℕ) → u.item ≢ i → has_use (us ++ u ∷ []) i ≡ has_use us i
has_use_other us u i other = grind (arith, ne_eqb, or-false, list_any-append)

hidden_above : (t : List Move) (j : ℕ) (us : List Use) (u : Use) (o n : ℕ) (ls : List (List ℕ)) → u.item < n
    → hidden_from t j us o n ls ≡ hidden_from t j (us ++ u ∷ []) o n ls
hidden_above t j us u o n [] lt = grind (arith, has_use_other)
hidden_above t j us u o n (l ∷ ls) lt =
    grind (arith, has_use_other, hidden_above t j us u o (n + 1) ls (omega (arith, lt)))

-- the item of one more use loses the option
pub hidden_more : (t : List Move) (j : ℕ) (us : List Use) (u : Use) (o n k : ℕ) (ls : List (List ℕ)) → n + k ≡ u.item
    → (not (eqb u.item j) && is_open u.item t) ≡ true →
    set (hidden_from t j us o n ls) k (less (o ∷ []) (list_at (hidden_from t j us o n ls) k)) ≡ hidden_from t j
    (us ++ u ∷ []) o n ls
hidden_more t j us u o n k [] e c = refl
hidden_more t j us u o n zero (l ∷ ls) e c =
    grind (arith, or-true, hidden_above, filter_both, filter_agree, and_self, list_any-append, or-false)
hidden_more t j us u o n (suc k) (l ∷ ls) e c =
    grind (arith, has_use_other, hidden_more t j us u o (n + 1) k ls (omega (arith, e)) c)

-- a use of an item that stays as it is
pub hidden_same : (t : List Move) (j : ℕ) (us : List Use) (u : Use) (o n : ℕ) (ls : List (List ℕ))
    → (not (eqb u.item j) && is_open u.item t) ≡ false →
    hidden_from t j us o n ls ≡ hidden_from t j (us ++ u ∷ []) o n ls
hidden_same t j us u o n [] c = grind (arith, eq-eqb, eqb-true, has_use_other)
hidden_same t j us u o n (l ∷ ls) c = grind (arith, eqb-true, has_use_other, hidden_same t j us u o (n + 1) ls c)

-- once all uses are gone through
pub hidden_all : (p : Puzzle) (t : List Move) (j o n : ℕ) (ls : List (List ℕ)) → AreListsFrom p n ls
    → hidden_from t j (uses_of p o) o n ls ≡ lose_from t j (o ∷ []) n ls
hidden_all p t j o n [] h = refl
hidden_all p t j o n (l ∷ ls) h = grind (arith, less-absent o l, hidden_all p t j o (n + 1) ls h.1)

-- ======== The lists after moves, as filters of the lists before.

-- ---- the lists of all items

lists_from : (p : Puzzle) (t : List Move) (a n : ℕ) → AreListsFrom p a (map (listed_numbers p t) (range_with_len a n))
lists_from p t a zero = tt
lists_from p t a (suc n) =
    let used = each_weaker (IsHolder p a) (λ o. has_use (uses_of p o.number) a ≡ true) (listed p t a)
    (λ o h. ap (λ us. has_use us a) h.0 ∙ h.1) (holders p t a) in
    ((rises_listed p t a, All-from_recursion _ _ (each-map _ (λ o. o.number) _ used)), lists_from p t (a + 1) n)

pub lists_hold : (p : Puzzle) (t : List Move) → AreLists p (lists_after p t)
lists_hold p t = (length-map-range_with_len (listed_numbers p t) 1 (item_count p), lists_from p t 1 (item_count p))

pub list_after : (p : Puzzle) (t : List Move) (i : ℕ) → 1 ≤ i → i ≤ item_count p
    → list_at (lists_after p t) (i - 1) ≡ listed_numbers p t i
list_after p t i low high = grind (arith, get_or-map-range_with_len)

-- ---- what goes, by its numbers

among_numbers : (gone : List Numbered) (o : Numbered) → is_among gone o ≡ list_any (λ g. eqb g o.number) (numbers gone)
among_numbers [] o = refl
among_numbers (x ∷ gone) o = ap (λ b. eqb x.number o.number || b) (among_numbers gone o)

pub less_without : (gone xs : List Numbered) → numbers (without gone xs) ≡ less (numbers gone) (numbers xs)
less_without gone [] = grind (arith, among_numbers)
less_without gone (x ∷ xs) = grind (arith, among_numbers, less_without gone xs)

lose_range : (t : List Move) (j : ℕ) (gone : List ℕ) (f g : ℕ → List ℕ)
    → ((i : ℕ) → cond (not (eqb i j) && is_open i t) (less gone (f i)) (f i) ≡ g i) → (a n : ℕ) →
    lose_from t j gone a (map f (range_with_len a n)) ≡ map g (range_with_len a n)
lose_range t j gone f g h a zero = refl
lose_range t j gone f g h a (suc n) = ap₂ (λ l ls. l ∷ ls) (h a) (lose_range t j gone f g h (a + 1) n)

-- ---- Cover and Purify

-- what is left in item i's list where these options go from that of every open item but j
abbrev spared : Puzzle → List Move → ℕ → List Numbered → ℕ → List ℕ
spared p t j gone i = numbers (cond (not (eqb i j) && is_open i t) (without gone (listed p t i)) (listed p t i))

lost : (p : Puzzle) (t : List Move) (j : ℕ) (gone : List Numbered) {ns : List ℕ} → ns ≡ numbers gone
    → lose t j ns (lists_after p t) ≡ map (spared p t j gone) (range_with_len 1 (item_count p))
lost p t j gone e = grind (arith, lose_range, less_without)

pub lists_covered : (p : Puzzle) (t : List Move) (j : ℕ) → 1 ≤ j → j ≤ item_count p →
    lose t j (filter (λ o. not (keeps_colour p j None o)) (list_at (lists_after p t) (j - 1))) (lists_after p t) ≡
    lists_after p (Cover j ∷ t)
lists_covered p t j low high = grind (arith, lost p t j (listed p t j), list_after, keep_all, each_of_all)

pub other_numbers : (p : Puzzle) (j c : ℕ) (xs : List Numbered) → AllByRecursion (IsHolder p j) xs
    → filter (λ o. not (keeps_colour p j (Some c) o)) (numbers xs) ≡ numbers (other_colours j c xs)
other_numbers p j c [] h = grind (arith, not-not)
other_numbers p j c (x ∷ xs) h = grind (arith, not-not, other_numbers p j c xs h.1)

pub lists_purified : (p : Puzzle) (t : List Move) (j c : ℕ) → 1 ≤ j → j ≤ item_count p →
    lose t j (filter (λ o. not (keeps_colour p j (Some c) o)) (list_at (lists_after p t) (j - 1))) (lists_after p t) ≡
    lists_after p (Purify j c ∷ t)
lists_purified p t j c low high = lost p t j (other_colours j c (listed p t j))
    (ap (filter _) (list_after p t j low high) ∙ other_numbers p j c (listed p t j) (holders p t j))

-- ---- Tweak

ruleset cells = (get_or-set_same, get_or-set_other, get_or-map-range_with_len, length-map-range_with_len, length-set)

set_range : (f g : ℕ → List ℕ) (a n k : ℕ) (v : List ℕ) → ((i : ℕ) → i ≢ a + k → f i ≡ g i) → v ≡ g (a + k)
    → set (map f (range_with_len a n)) k v ≡ map g (range_with_len a n)
set_range f g a n k v h e = grind (arith, same_lists, cells)

pub length_numbers : (xs : List Numbered) → length (numbers xs) ≡ length xs
length_numbers xs = length-map xs (λ o. o.number)

-- the lists where the first option of an item is hidden
abbrev pub first_hidden : List Move → ℕ → ℕ → List (List ℕ) → List (List ℕ)
first_hidden t j x ls = cond (is_open j t) (lose t j (x ∷ []) ls) ls

pub first_hidden_lists : (p : Puzzle) (t : List Move) (j x : ℕ) (ls : List (List ℕ)) → AreLists p ls
    → AreLists p (first_hidden t j x ls)
first_hidden_lists p t j x ls h = grind (arith, length-lose_from, lists-lose_from)

pub lists_tweaked : (p : Puzzle) (t : List Move) (j x : ℕ) → 1 ≤ j → j ≤ item_count p → 0 < length (listed p t j)
    → x ≡ get_or (listed_numbers p t j) 0 0 →
    set (first_hidden t j x (lists_after p t)) (j - 1)
    (less (x ∷ []) (list_at (first_hidden t j x (lists_after p t)) (j - 1))) ≡ lists_after p (Tweak j ∷ t)
lists_tweaked p t j x low high some is =
    ap₂ (λ ls l. set ls (j - 1) (less (x ∷ []) l)) hidden
    ((grind (arith, lose_other)) ∙ list_after p t j low high)
    ∙ set_range unhidden (listed_numbers p (Tweak j ∷ t)) 1 (item_count p) (j - 1) _ others here
  where
    gone : List Numbered
    gone = take 1 (listed p t j)

    unhidden : ℕ → List ℕ
    unhidden i = cond (is_open j t) (spared p t j gone i) (listed_numbers p t i)

    hidden : first_hidden t j x (lists_after p t) ≡ map unhidden (range_with_len 1 (item_count p))
    hidden = elim (is_open j t) as (λ b. cond b (lose t j (x ∷ []) (lists_after p t)) (lists_after p t)
        ≡ map (λ i. cond b (spared p t j gone i) (listed_numbers p t i)) (range_with_len 1 (item_count p)))
        [ true ↦ lost p t j gone {ns = x ∷ []} (grind arith) | false ↦ refl ]

    others : (i : ℕ) → i ≢ 1 + (j - 1) → unhidden i ≡ listed_numbers p (Tweak j ∷ t) i
    others i ne = grind (arith, ne_eqb i j (omega (arith, ne, low)))

    here : less (x ∷ []) (listed_numbers p t j) ≡ listed_numbers p (Tweak j ∷ t) (1 + (j - 1))
    here =
        let self : eqb j j ≡ true = eq-eqb j j refl in
        let row = listed_numbers p t j in
        let whole : 0 < length row = omega (arith, some, length_numbers (listed p t j)) in
        grind (arith, ap (λ n. less (n ∷ []) row) is ∙ less-remove 0 row 0 (rises_listed p t j) whole)

-- ======== The lists before any move, filled option by option.

pub length-enlisted_from : (us : List Use) (o n : ℕ) (ls : List (List ℕ)) → length (enlisted_from us o n ls) ≡ length ls
length-enlisted_from us o n [] = refl
length-enlisted_from us o n (l ∷ ls) = ap suc (length-enlisted_from us o (n + 1) ls)

pub enlisted_none : (o n : ℕ) (ls : List (List ℕ)) → enlisted_from [] o n ls ≡ ls
enlisted_none o n [] = refl
enlisted_none o n (l ∷ ls) = ap (λ ks. l ∷ ks) (enlisted_none o (n + 1) ls)

enlisted_above : (us : List Use) (u : Use) (o n : ℕ) (ls : List (List ℕ)) → u.item < n
    → enlisted_from us o n ls ≡ enlisted_from (us ++ u ∷ []) o n ls
enlisted_above us u o n [] lt = grind (arith, has_use_other)
enlisted_above us u o n (l ∷ ls) lt = grind (arith, has_use_other, enlisted_above us u o (n + 1) ls (omega (arith, lt)))

-- the item of one more use has the option
pub enlisted_more : (us : List Use) (u : Use) (o n k : ℕ) (ls : List (List ℕ)) → n + k ≡ u.item
    → has_use us u.item ≡ false → k < length ls →
    set (enlisted_from us o n ls) k (list_at (enlisted_from us o n ls) k ++ o ∷ []) ≡ enlisted_from
    (us ++ u ∷ []) o n ls
enlisted_more us u o n k [] e new lt = refl
enlisted_more us u o n zero (l ∷ ls) e new lt = grind (arith, enlisted_above, or-true, list_any-append, or-false)
enlisted_more us u o n (suc k) (l ∷ ls) e new lt =
    grind (arith, has_use_other, enlisted_more us u o (n + 1) k ls (omega (arith, e)) new)

-- the uses before one are of other items
pub new_use : (us : List Use) (k : ℕ) (u0 : Use) → AllPairs (λ u v. u.item ≢ v.item) us → k < length us
    → has_use (take k us) (get_or us k u0).item ≡ false
new_use us k u0 distinct lt =
    list_any_none (λ v. eqb v.item (get_or us k u0).item) (take k us) (λ m d within. let other = distinct m k d in
    grind (arith, length-take-le, get_or-take, get_or_default, ne_eqb))

-- ---- all options

-- the lists of these options
abbrev pub lists_of : Puzzle → List (List Use) → List (List ℕ)
lists_of p os = map (λ i. numbers (holding i (numbered_from 1 os))) (range_with_len 1 (item_count p))

enlisted_range : (us : List Use) (o : ℕ) (f g : ℕ → List ℕ)
    → ((i : ℕ) → cond (has_use us i) (f i ++ o ∷ []) (f i) ≡ g i) → (a n : ℕ) →
    enlisted_from us o a (map f (range_with_len a n)) ≡ map g (range_with_len a n)
enlisted_range us o f g h a zero = refl
enlisted_range us o f g h a (suc n) = ap₂ (λ l ls. l ∷ ls) (h a) (enlisted_range us o f g h (a + 1) n)

numbered_more : (os : List (List Use)) (us : List Use) (n : ℕ)
    → numbered_from n (os ++ us ∷ []) ≡ numbered_from n os ++ (record { number = n + length os; uses = us }) ∷ []
numbered_more [] us n = grind arith
numbered_more (vs ∷ os) us n = grind (arith, numbered_more os us (n + 1))

filled_more : (os : List (List Use)) (us : List Use) (i : ℕ)
    → (let old = numbers (holding i (numbered_from 1 os)) in cond (has_use us i) (old ++ (length os + 1) ∷ []) old)
    ≡ numbers (holding i (numbered_from 1 (os ++ us ∷ [])))
filled_more os us i = grind (arith, common_steps, holds_use, numbered_more, append-nil)

pub lists_more : (p : Puzzle) (os : List (List Use)) (us : List Use) (o : ℕ) → o ≡ length os + 1
    → enlisted us o (lists_of p os) ≡ lists_of p (os ++ us ∷ [])
lists_more p os us o e = grind (arith, enlisted_range, filled_more)

pub lists_none : (p : Puzzle) → replicate (item_count p) [] ≡ lists_of p []
lists_none p = empty 1 (item_count p)
  where
    empty : (a n : ℕ) → replicate n [] ≡ map (λ i. numbers (holding i (numbered_from 1 []))) (range_with_len a n)
    empty a zero = refl
    empty a (suc n) = ap (λ ls. [] ∷ ls) (empty (a + 1) n)

pub length-lists_before : (p : Puzzle) (t : List Move) → length (lists_before p t) ≡ length t
length-lists_before p [] = refl
length-lists_before p (m ∷ t) = ap suc (length-lists_before p t)

pub ruleset lists_before_counts = (length-lists_before)

-- ======== Going back to a mark.

-- nothing above the mark
pub restored_at : (k : ℕ) (es : List Removed) (ls : List (List ℕ)) → length es ≤ k → (restored k es ls ≡ ls)
    × (still_taken k es ≡ es)
restored_at k [] ls le = grind (arith, lt-leb)
restored_at k (e ∷ es) ls le = grind (arith, lt-leb)

-- how much is still taken
pub length-still_taken : (k : ℕ) (es : List Removed) → k ≤ length es → length (still_taken k es) ≡ k
length-still_taken k [] le = omega (arith, le)
length-still_taken k (e ∷ es) le = grind (arith, leb-true, leb-false, length-still_taken k es)

-- the lists at the marks stay where a number is taken
pub marks_more : (rooms : List ℕ) (ks : List ℕ) (e : Removed) (es : List Removed) (new old : List (List ℕ))
    → AreFalling ks (length es) → IsPutBack rooms e new old → lists_at_marks ks (e ∷ es) new ≡ lists_at_marks ks es old
marks_more rooms [] e es new old marks back = grind (arith, le-leb)
marks_more rooms (k ∷ ks) e es new old marks back = grind (arith, le-leb)

pub marks_weaker : (ks : List ℕ) (m n : ℕ) → m ≤ n → AreFalling ks m → AreFalling ks n
marks_weaker [] m n le marks = tt
marks_weaker (k ∷ ks) m n le marks = (omega (arith, le, marks.0), marks.1)

pub length-lists_at_marks : (ks : List ℕ) (es : List Removed) (ls : List (List ℕ))
    → length (lists_at_marks ks es ls) ≡ length ks
length-lists_at_marks [] es ls = refl
length-lists_at_marks (k ∷ ks) es ls = ap suc (length-lists_at_marks ks (still_taken k es) (restored k es ls))
