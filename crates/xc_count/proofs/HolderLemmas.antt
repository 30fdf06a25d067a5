-- The lists of the options that hold each item.
use Rattle.std.proofs.Common.{ℕ, zero, suc, ◌≡◌, ◌≢◌, ◌≤◌, ◌<◌, ◌+◌, true, false, eqb, List, [], ◌∷◌, ◌++◌, length}
use Rattle.std.proofs.Common.{cond, map}
use Rattle.std.proofs.Common.{Option, Some, None, refl, sym, ap, ◌∙◌, arith, subst, eqb-true, eq-eqb, drop, drop-cons}
use Rattle.std.proofs.Common.{◌-◌, append-nil, append_assoc}
use Rattle.std.proofs.Math.ListN.{set, get_or}
use Rattle.std.specs.Prelude.{slice_get, is_some, option_map, unwrap_or, All, Contains}
use Rattle.std.specs.List.{AllByRecursion}
use Rattle.std.proofs.lemmas.List.{drop_all, length-map}
use Rattle.std.proofs.lemmas.List.FromFn.{length-enumerate_from}
use Rattle.xc_input.specs.declared.problem.Use.{Use}
use Rattle.xc_input.specs.Problem.{Puzzle, Numbered, numbered_get, numbered_options, holding, holds, option_count}
use Rattle.xc_input.specs.Problem.{colour_in, IsItem, IsOption, IsPrimary, uses_of}
use Rattle.xc_text.proofs.ListLemmas.{by_bool, by_option, EachTwo, in-map, in-filter, in-contains, contains-in}
use Rattle.xc_text.proofs.ListLemmas.{each_from}
use Rattle.xc_input.proofs.OptionLemmas.{numbered_from}
use Rattle.xc_input.proofs.TokenLemmas.{numbered_get-at}
use Rattle.xc_search.proofs.ListingLemmas.{numbered_at, uses_known}
use Rattle.std.proofs.lemmas.List.Elements.{All-from_recursion}
use Rattle.std.proofs.lemmas.Option.{slice_get-get_or, slice_get_within}
use Rattle.xc_count.specs.inner.Plans.{if_held, options_with}

-- ---- one option

get_map : {X : Type 0} (f : X → List ℕ) (xs : List X) (i : ℕ) → slice_get (map f xs) i ≡ option_map f (slice_get xs i)
get_map f [] i = refl
get_map f (x ∷ xs) zero = refl
get_map f (x ∷ xs) (suc i) = get_map f xs i

get_here : {X : Type 0} (xs : List X) (k : ℕ) (v w : X) → slice_get xs k ≡ Some w → slice_get (set xs k v) k ≡ Some v
get_here [] k v w e = cc
get_here (x ∷ xs) zero v w e = refl
get_here (x ∷ xs) (suc k) v w e = get_here xs k v w e

get_there : {X : Type 0} (xs : List X) (k i : ℕ) (v : X) → k ≢ i → slice_get (set xs k v) i ≡ slice_get xs i
get_there [] k i v h = refl
get_there (x ∷ xs) zero zero v h = absurd (h refl)
get_there (x ∷ xs) zero (suc i) v h = refl
get_there (x ∷ xs) (suc k) zero v h = refl
get_there (x ∷ xs) (suc k) (suc i) v h = get_there xs k i v (λ e. h (ap suc e))

-- an element of a list of lists that has one number more
list_more : {X : Type 0} (f : X → List ℕ) (ls : List X) (k o i : ℕ) (v w : X) → slice_get ls k ≡ Some w
    → f v ≡ f w ++ o ∷ [] → numbered_get (map f (set ls k v)) i
    ≡ option_map (λ l. cond (eqb (suc k) i) (l ++ o ∷ []) l) (numbered_get (map f ls) i)
list_more f ls k o zero v w e h = refl
list_more f ls k o (suc i) v w e h = by_bool (eqb (suc k) (suc i))
    (λ q.
    let same : k ≡ i = let t = eqb-true _ _ q in omega (arith, t) in
    let new : slice_get (map f (set ls k v)) i ≡ Some (f v) =
    get_map f (set ls k v) i ∙ ap (option_map f)
    (subst (λ j. slice_get (set ls k v) j ≡ Some v) same (get_here ls k v w e)) in
    let old : slice_get (map f ls) i ≡ Some (f w) =
    get_map f ls i ∙ ap (option_map f) (subst (λ j. slice_get ls j ≡ Some w) same e) in
    rw (q, new, old) (ap Some h))
    (λ q.
    let other : k ≢ i = λ s. let t = eq-eqb (suc k) (suc i) (ap suc s) in cc (t, q) in
    let new : slice_get (map f (set ls k v)) i ≡ slice_get (map f ls) i =
    get_map f (set ls k v) i ∙ ap (option_map f) (get_there ls k i v other) ∙ sym (get_map f ls i) in
    rw (q, new) (by_option (slice_get (map f ls) i) (λ z. rw z refl) (λ l z. rw z refl)))

no_use : (us : List Use) (i : ℕ) → AllByRecursion (λ v. i ≢ v.item) us → colour_in us i ≡ None
no_use [] i a = refl
no_use (v ∷ us) i a = by_bool (eqb v.item i) (λ e. absurd (a.0 (sym (eqb-true _ _ e)))) (λ e. rw e (no_use us i a.1))

-- no use after a use is of its item
pub none_again : (us : List Use) → EachTwo (λ u v. u.item ≢ v.item) us → (n : ℕ) (d : Use) → n < length us
    → colour_in (drop (suc n) us) (get_or us n d).item ≡ None
none_again [] t n d h = absurd (omega (arith, h))
none_again (u ∷ us) t zero d h = no_use us u.item t.0
none_again (u ∷ us) t (suc n) d h = none_again us t.1 n d (omega (arith, h))

-- one use more
noted_more : (us : List Use) (u : Use) (i o : ℕ) (l : Option (List ℕ)) → colour_in us u.item ≡ None
    → option_map (λ l. cond (eqb u.item i) (l ++ o ∷ []) l) (option_map (λ l. l ++ if_held us i o) l)
    ≡ option_map (λ l. l ++ if_held (u ∷ us) i o) l
noted_more us u i o None none = refl
noted_more us u i o (Some l) none = by_bool (eqb u.item i)
    (λ e.
    let here : colour_in us i ≡ None = subst (λ j. colour_in us j ≡ None) (eqb-true _ _ e) none in
    rw (e, here) (ap (λ z. Some (z ++ o ∷ [])) (append-nil l)))
    (λ e. rw e refl)

-- a step over the uses of an option, from the last on
pub list_step : {X : Type 0} (f : X → List ℕ) (old ls : List X) (us : List Use) (place n o : ℕ) (d : Use) (v w : X)
    → EachTwo (λ u v. u.item ≢ v.item) us → place ≡ suc n → n < length us → 1 ≤ (get_or us n d).item
    → slice_get ls ((get_or us n d).item - 1) ≡ Some w → f v ≡ f w ++ o ∷ []
    → ((i : ℕ) → numbered_get (map f ls) i ≡ option_map (λ l. l ++ if_held (drop place us) i o)
    (numbered_get (map f old) i))
    → (i : ℕ) → numbered_get (map f (set ls ((get_or us n d).item - 1) v)) i
    ≡ option_map (λ l. l ++ if_held (drop n us) i o) (numbered_get (map f old) i)
list_step f old ls us place n o d v w two e h one at more so i =
    let u = get_or us n d in
    let number : suc (u.item - 1) ≡ u.item = omega (arith, one) in
    let here : drop n us ≡ u ∷ drop place us = drop-cons us n d h ∙ ap (λ k. u ∷ drop k us) (sym e) in
    let none : colour_in (drop place us) u.item ≡ None =
    subst (λ k. colour_in (drop k us) u.item ≡ None) (sym e) (none_again us two n d h) in
    list_more f ls (u.item - 1) o i v w at more
    ∙ ap (λ j. option_map (λ l. cond (eqb j i) (l ++ o ∷ []) l) (numbered_get (map f ls) i)) number
    ∙ ap (option_map (λ l. cond (eqb u.item i) (l ++ o ∷ []) l)) (so i)
    ∙ noted_more (drop place us) u i o (numbered_get (map f old) i) none
    ∙ ap (λ vs. option_map (λ l. l ++ if_held vs i o) (numbered_get (map f old) i)) (sym here)

-- ---- all options

-- the options from a place on that hold item i
abbrev pub options_from : Puzzle → ℕ → ℕ → List ℕ
options_from p o i = map (λ x. x.number) (holding i (drop o (numbered_options p)))

numbered_drop : (k : ℕ) (os : List (List Use)) (o : ℕ) (us : List Use) → slice_get os o ≡ Some us → (x : Numbered)
    × (x.uses ≡ us) × (x.number ≡ k + o) × (drop o (numbered_from k os) ≡ x ∷ drop (suc o) (numbered_from k os))
numbered_drop k [] o us e = cc
numbered_drop k (vs ∷ os) zero us e = (record { number = k; uses = vs }, cc, omega arith, refl)
numbered_drop k (vs ∷ os) (suc o) us e =
    let rest = numbered_drop (k + 1) os o us e in (rest.0, rest.1, omega (arith, rest.2), rest.3)

pub options_next : (p : Puzzle) (o i : ℕ) (us : List Use) → numbered_get p.options (o + 1) ≡ Some us
    → if_held us i (o + 1) ++ options_from p (o + 1) i ≡ options_from p o i
options_next p o i us e =
    let at : slice_get p.options o ≡ Some us = sym (numbered_get-at p.options (o + 1) o refl) ∙ e in
    let one = numbered_drop 1 p.options o us at in
    let x = one.0 in
    let more : o + 1 ≡ suc o = omega arith in
    let number : x.number ≡ o + 1 = omega (arith, one.2) in
    let rest : options_from p (o + 1) i ≡ options_from p (suc o) i = ap (λ k. options_from p k i) more in
    let whole : options_from p o i ≡ map (λ x. x.number) (holding i (x ∷ drop (suc o) (numbered_options p)))
    = ap (λ xs. map (λ x. x.number) (holding i xs)) one.3 in
    by_bool (is_some (colour_in us i))
    (λ h. let holds_it : holds x i ≡ true = ap (λ vs. is_some (colour_in vs i)) one.1 ∙ h in
    rw (h, rest, whole, holds_it) (ap (λ n. n ∷ options_from p (suc o) i) (sym number)))
    (λ h. let holds_it : holds x i ≡ false = ap (λ vs. is_some (colour_in vs i)) one.1 ∙ h in
    rw (h, rest, whole, holds_it) refl)

pub options_none : (p : Puzzle) (o i : ℕ) → option_count p ≤ o → options_from p o i ≡ []
options_none p o i h =
    let many : length (numbered_options p) ≡ option_count p =
    length-map _ _ ∙ length-enumerate_from 1 p.options in
    ap (λ xs. map (λ (x : Numbered). x.number) (holding i xs)) (drop_all o (numbered_options p)
    (omega (arith, h, many)))

-- a list with one option more, before those that follow
pub lists_step : (p : Puzzle) (o i : ℕ) (us : List Use) (old new : Option (List ℕ))
    → numbered_get p.options (o + 1) ≡ Some us → new ≡ option_map (λ l. l ++ if_held us i (o + 1)) old
    → option_map (λ l. l ++ options_from p o i) old ≡ Some (options_with p i)
    → option_map (λ l. l ++ options_from p (o + 1) i) new ≡ Some (options_with p i)
lists_step p o i us None new e is so = rw is so
lists_step p o i us (Some l) new e is so =
    rw is (ap Some (append_assoc l (if_held us i (o + 1)) (options_from p (o + 1) i)
    ∙ ap (λ z. l ++ z) (options_next p o i us e)) ∙ so)

pub lists_end : (p : Puzzle) (o i : ℕ) (l : Option (List ℕ)) → option_count p ≤ o
    → option_map (λ l. l ++ options_from p o i) l ≡ Some (options_with p i) → l ≡ Some (options_with p i)
lists_end p o i None h so = so
lists_end p o i (Some l) h so = ap Some (sym (append-nil l) ∙ ap (λ z. l ++ z) (sym (options_none p o i h))) ∙ so

-- lists of nothing
empty_at : {X : Type 0} (f : X → List ℕ) (ls : List X) (k : ℕ) → AllByRecursion (λ l. f l ≡ []) ls → k < length ls
    → slice_get (map f ls) k ≡ Some []
empty_at f [] k a h = absurd (omega (arith, h))
empty_at f (l ∷ ls) zero a h = ap Some a.0
empty_at f (l ∷ ls) (suc k) a h = empty_at f ls k a.1 (omega (arith, h))

pub lists_begin : {X : Type 0} (f : X → List ℕ) (p : Puzzle) (ls : List X) (i : ℕ) → AllByRecursion (λ l. f l ≡ []) ls
    → 1 ≤ i → i ≤ length ls
    → option_map (λ l. l ++ options_from p 0 i) (numbered_get (map f ls) i) ≡ Some (options_with p i)
lists_begin f p ls zero a h k = absurd (omega (arith, h))
lists_begin f p ls (suc i) a h k = rw (empty_at f ls i a (omega (arith, k))) refl

-- an option of the list of an item is one of the problem, and holds it
pub option_known : (p : Puzzle) (i o : ℕ) → Contains (options_with p i) o
    → IsOption p o × (is_some (colour_in (uses_of p o) i) ≡ true)
option_known p i o c =
    let from = in-map (λ (x : Numbered). x.number) (holding i (numbered_options p)) o (in-contains _ _ c) in
    let x = from.0 in
    let at = in-filter (λ x. holds x i) (numbered_options p) x from.1 in
    let place = numbered_at 0 p.options x at.0 in
    let number : x.number ≡ o = from.2 in (
      (omega (arith, number, place.1), omega (arith, number, place.1, place.2)),
      subst (λ n. is_some (colour_in (uses_of p n) i) ≡ true) number
          (subst (λ us. is_some (colour_in us i) ≡ true) (sym (uses_known p x at.0)) at.1),
    )

pub options_known : (p : Puzzle) (i : ℕ) → All (IsOption p) (options_with p i)
options_known p i = All-from_recursion (IsOption p) (options_with p i)
    (each_from _ _ (λ o h. (option_known p i o (contains-in _ _ h)).0))

-- ---- lists by their numbers

-- a primary item is an item
pub item_of : (p : Puzzle) (i : ℕ) → IsPrimary p i → IsItem p i
item_of p i h = (h.0, omega (arith, h.1))

-- the list of a number
pub at_number : {X : Type 0} (f : X → List ℕ) (ls : List X) (i k : ℕ) (x : X) → k < length ls → x ≡ get_or ls k x
    → i ≡ suc k → f x ≡ unwrap_or (numbered_get (map f ls) i) []
at_number f ls i k x h e place =
    let read : slice_get ls k ≡ Some x = slice_get-get_or ls k x h ∙ ap Some (sym e) in
    let there : slice_get (map f ls) k ≡ Some (f x) = get_map f ls k ∙ ap (option_map f) read in
    sym (ap (λ j. unwrap_or (numbered_get (map f ls) j) []) place ∙ ap (λ o. unwrap_or o []) there)

-- a number that no list has
pub no_number : {X : Type 0} (f : X → List ℕ) (ls : List X) (i : ℕ) → ((k : ℕ) → i ≡ suc k → length ls ≤ k)
    → [] ≡ unwrap_or (numbered_get (map f ls) i) []
no_number f ls zero past = refl
no_number f ls (suc k) past = by_option (slice_get ls k)
    (λ none. sym (ap (λ o. unwrap_or o []) (get_map f ls k ∙ ap (option_map f) none)))
    (λ x e. let within = slice_get_within ls k x e in absurd (omega (arith, within, past k refl)))
