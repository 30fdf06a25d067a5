-- The open items, and the options that are left, as they are collected.
use Rattle.std.proofs.Common.{ℕ, ◌≡◌, ◌<◌, ◌≤◌, ◌+◌, ◌*◌, ◌-◌, ◌≢◌, ◌⊎◌, inl, inr, Bool, true, false, List, [], ◌∷◌}
use Rattle.std.proofs.Common.{length, take, filter, map, Some, None, refl, sym, ap, ◌∙◌, subst, arith, ltb}
use Rattle.std.proofs.Common.{◌++◌, set}
use Rattle.std.specs.Prelude.{unwrap_or, ◌==◌}
use Rattle.std.specs.List.{AllByRecursion}
use Rattle.std.proofs.lemmas.List.{take_more_set, append-nil, append_assoc, length-set}
use Rattle.std.proofs.lemmas.Grind.{flat_map-append}
use Rattle.xc_input.specs.Problem.{Puzzle, Numbered, IsValid, IsItem, uses_of, option_count}
use Rattle.xc_text.proofs.ListLemmas.{by_option, each_weaker}
use Rattle.xc_moves.specs.declared.dance.Move.{Move}
use Rattle.xc_moves.specs.Commits.{IsListedAt, IsUseAt, first_primary, option_at}
use Rattle.xc_moves.specs.Places.{link_place, first_above}
use Rattle.xc_moves.specs.Moves.{open_items, next_above, IsOpenPrimary, listed, listed_numbers}
use Rattle.xc_moves.proofs.PlaceLemmas.{behind_items}
use Rattle.xc_moves.proofs.PlaceAnswers.{listed_use, next_contained}
use Rattle.xc_moves.proofs.MoveLemmas.{next_above-split, next_above-none, next_above-open, next_above-gt, above_all}
use Rattle.xc_moves.proofs.MoveLemmas.{rises_listed, holders, IsHolder}
use Rattle.xc_search.specs.inner.Few.{owned, collected}
use Rattle.xc_search.proofs.ResidualLemmas.{open_rises}

-- ======== Open items.

-- the first n of these are the open items up to item at, whose lists have so many options
pub record AreUpTo (p : Puzzle) (t : List Move) (at n total : ℕ) (into : List ℕ) : Type 0 where
  pub at_open : (at ≡ 0) ⊎ IsOpenPrimary p t at
  pub items : take n into ++ filter (λ j. ltb at j) (open_items p t) ≡ open_items p t
  pub few : n ≤ 64
  pub short : total ≤ 64 * n
  pub full : length into ≡ 64

pub items_first : (p : Puzzle) (t : List Move) (into : List ℕ) → length into ≡ 64 → AreUpTo p t 0 0 0 into
items_first p t into full = record {
  at_open = inl refl;
  items = above_all 0 (open_items p t) (open_rises p t);
  few = omega arith;
  short = omega arith;
  full = full;
}

-- one item more
pub items_on : (p : Puzzle) (t : List Move) (at n total k len : ℕ) (into : List ℕ) → AreUpTo p t at n total into
    → next_above at (open_items p t) ≡ Some k → n < 64 → len ≤ 64
    → AreUpTo p t k (n + 1) (total + len) (set into n k)
items_on p t at n total k len into up e lt short =
    let more = take_more_set into n k (omega (arith, lt, up.full)) in
    let split = next_above-split 0 at k (open_items p t) (open_rises p t) e in
    record {
      at_open = inr (next_above-open p t at k e);
      items = ap (λ l. l ++ filter (λ j. ltb k j) (open_items p t)) more
          ∙ append_assoc (take n into) (k ∷ []) (filter (λ j. ltb k j) (open_items p t))
          ∙ ap (λ l. take n into ++ l) (sym split) ∙ up.items;
      few = omega (arith, lt);
      short = omega (arith, up.short, short);
      full = length-set into n k ∙ up.full;
    }

pub items_end : (p : Puzzle) (t : List Move) (at n total : ℕ) (into : List ℕ) → AreUpTo p t at n total into
    → next_above at (open_items p t) ≡ None → take n into ≡ open_items p t
items_end p t at n total into up e =
    let none = next_above-none at (open_items p t) e in
    sym (append-nil (take n into)) ∙ ap (λ l. take n into ++ l) (sym none) ∙ up.items

pub is_item : (p : Puzzle) (t : List Move) (i : ℕ) → IsOpenPrimary p t i → IsItem p i
is_item p t i h = (h.0.0, omega (arith, h.0.1))

-- ======== Options that are left.

-- an option's first primary item is this one
abbrev pub is_own : Puzzle → ℕ → ℕ → Bool
is_own p i x = first_primary p (uses_of p x) == i

owned_numbers : (p : Puzzle) (i : ℕ) (os : List Numbered) → AllByRecursion (λ o. uses_of p o.number ≡ o.uses) os
    → map (λ o. o.number) (owned p i os) ≡ filter (is_own p i) (map (λ o. o.number) os)
owned_numbers p i [] each = refl
owned_numbers p i (o ∷ os) each =
    let rest = owned_numbers p i os each.1 in
    let same = each.0 in grind arith

-- the numbers of one item
own_numbers : (p : Puzzle) (t : List Move) (i : ℕ) → map (λ o. o.number) (owned p i (listed p t i))
    ≡ filter (is_own p i) (listed_numbers p t i)
own_numbers p t i = owned_numbers p i (listed p t i) (each_weaker (IsHolder p i) (λ o. uses_of p o.number ≡ o.uses) _
    (λ o h. h.0) (holders p t i))

-- The first n of these are the options of the items so far.
pub record AreTaken (p : Puzzle) (t : List Move) (gone : List ℕ) (n : ℕ) (into : List ℕ) : Type 0 where
  pub few : n ≤ 64
  pub full : length into ≡ 64
  pub taken : take n into ≡ gone

-- They are those, and the options of item i up to the one before the place in its list.
pub record AreTakenTo (p : Puzzle) (t : List Move) (i : ℕ) (gone : List ℕ) (n : ℕ) (into : List ℕ) (place : ℕ)
    : Type 0 where
  pub few : n ≤ 64
  pub full : length into ≡ 64
  pub last : ℕ
  pub taken : take n into ++ filter (is_own p i) (filter (λ x. ltb last x) (listed_numbers p t i))
      ≡ gone ++ filter (is_own p i) (listed_numbers p t i)
  pub place_is : place ≡ link_place p i (first_above 0 last (listed_numbers p t i))
  pub option_is : option_at p i place ≡ next_above last (listed_numbers p t i)

pub taken_none : (p : Puzzle) (t : List Move) (into : List ℕ) → length into ≡ 64 → AreTaken p t [] 0 into
taken_none p t into full = record { few = omega arith; full = full; taken = refl }

-- at the first option of item i
pub taken_first : (p : Puzzle) (t : List Move) (i : ℕ) (gone : List ℕ) (n : ℕ) (into : List ℕ) (place : ℕ)
    → AreTaken p t gone n into → place ≡ link_place p i (first_above 0 0 (listed_numbers p t i))
    → option_at p i place ≡ next_above 0 (listed_numbers p t i) → AreTakenTo p t i gone n into place
taken_first p t i gone n into place a is option = record {
  few = a.few;
  full = a.full;
  last = 0;
  taken = ap (λ l. take n into ++ filter (is_own p i) l)
      (above_all 0 (listed_numbers p t i) (rises_listed p t i))
      ∙ ap (λ l. l ++ filter (is_own p i) (listed_numbers p t i)) a.taken;
  place_is = is;
  option_is = option;
}

-- the option at the place
pub record OptionThere (p : Puzzle) (t : List Move) (i last place : ℕ) : Type 0 where
  pub x : ℕ
  pub next : next_above last (listed_numbers p t i) ≡ Some x
  pub use_at : IsUseAt p i x place
  pub listed_at : IsListedAt p t i x place

pub there : (p : Puzzle) (t : List Move) (i : ℕ) {gone : List ℕ} {n : ℕ} {into : List ℕ} {place : ℕ} → IsValid p
    → (a : AreTakenTo p t i gone n into place) → place ≢ i → OptionThere p t i a.last place
there p t i {place = place} valid a other = by_option (next_above a.last (listed_numbers p t i))
    (λ none. absurd (other (a.place_is ∙ ap (λ o. link_place p i (unwrap_or o 0)) none)))
    (λ x e.
    let at : place ≡ link_place p i x = a.place_is ∙ ap (λ o. link_place p i (unwrap_or o 0)) e in
    let is = next_contained a.last x (listed_numbers p t i) e in record {
      x = x;
      next = e;
      use_at = subst (IsUseAt p i x) (sym at) (listed_use t i x valid is);
      listed_at = record { listed = inr is; at = at };
    })

-- it is not item i's own
pub taken_passed : (p : Puzzle) (t : List Move) (i : ℕ) {gone : List ℕ} {n : ℕ} {into : List ℕ} {place : ℕ} (next : ℕ)
    → (a : AreTakenTo p t i gone n into place) → (o : OptionThere p t i a.last place) → is_own p i o.x ≡ false
    → next ≡ link_place p i (first_above 0 o.x (listed_numbers p t i))
    → option_at p i next ≡ next_above o.x (listed_numbers p t i) → AreTakenTo p t i gone n into next
taken_passed p t i {gone} {n} {into} next a o other is option =
    let rest = next_above-split 0 a.last o.x (listed_numbers p t i) (rises_listed p t i) o.next in
    let skip : filter (is_own p i) (o.x ∷ filter (λ y. ltb o.x y) (listed_numbers p t i))
    ≡ filter (is_own p i) (filter (λ y. ltb o.x y) (listed_numbers p t i)) = rw other refl in
    record {
      few = a.few;
      full = a.full;
      last = o.x;
      taken = ap (λ l. take n into ++ l) (sym skip) ∙ ap (λ l. take n into ++ filter (is_own p i) l) (sym rest)
          ∙ a.taken;
      place_is = is;
      option_is = option;
    }

-- it is
pub taken_more : (p : Puzzle) (t : List Move) (i : ℕ) {gone : List ℕ} {n : ℕ} {into : List ℕ} {place : ℕ} (next : ℕ)
    → (a : AreTakenTo p t i gone n into place) → (o : OptionThere p t i a.last place) → is_own p i o.x ≡ true → n < 64
    → next ≡ link_place p i (first_above 0 o.x (listed_numbers p t i))
    → option_at p i next ≡ next_above o.x (listed_numbers p t i)
    → AreTakenTo p t i gone (n + 1) (set into n o.x) next
taken_more p t i {gone} {n} {into} next a o own lt is option =
    let rest = next_above-split 0 a.last o.x (listed_numbers p t i) (rises_listed p t i) o.next in
    let later = filter (is_own p i) (filter (λ y. ltb o.x y) (listed_numbers p t i)) in
    let first : filter (is_own p i) (o.x ∷ filter (λ y. ltb o.x y) (listed_numbers p t i)) ≡ o.x ∷ later =
    rw own refl in
    let more = take_more_set into n o.x (omega (arith, lt, a.full)) in
    record {
      few = omega (arith, lt);
      full = length-set into n o.x ∙ a.full;
      last = o.x;
      taken = ap (λ l. l ++ later) more ∙ append_assoc (take n into) (o.x ∷ []) later
          ∙ ap (λ l. take n into ++ l) (sym first) ∙ ap (λ l. take n into ++ filter (is_own p i) l) (sym rest)
          ∙ a.taken;
      place_is = is;
      option_is = option;
    }

-- so far as variables hold them
pub passed_on : (p : Puzzle) (t : List Move) (i : ℕ) {gone : List ℕ} {n m : ℕ} {into out : List ℕ} {place : ℕ}
    (next : ℕ) → (a : AreTakenTo p t i gone n into place) → (o : OptionThere p t i a.last place) → m ≡ n → out ≡ into
    → is_own p i o.x ≡ false → next ≡ link_place p i (first_above 0 o.x (listed_numbers p t i))
    → option_at p i next ≡ next_above o.x (listed_numbers p t i) → AreTakenTo p t i gone m out next
passed_on p t i {gone} {n} {m} {into} {out} next a o count list other is option =
    subst (λ k. AreTakenTo p t i gone k out next) (sym count)
    (subst (λ l. AreTakenTo p t i gone n l next) (sym list) (taken_passed p t i next a o other is option))

pub more_on : (p : Puzzle) (t : List Move) (i : ℕ) {gone : List ℕ} {n m y : ℕ} {into out : List ℕ} {place : ℕ}
    (next : ℕ) → (a : AreTakenTo p t i gone n into place) → (o : OptionThere p t i a.last place) → m ≡ n + 1
    → out ≡ set into n y → y ≡ o.x → is_own p i o.x ≡ true → n < 64
    → next ≡ link_place p i (first_above 0 o.x (listed_numbers p t i))
    → option_at p i next ≡ next_above o.x (listed_numbers p t i) → AreTakenTo p t i gone m out next
more_on p t i {gone} {n} {m} {y} {into} {out} next a o count list same own lt is option =
    subst (λ k. AreTakenTo p t i gone k out next) (sym count)
    (subst (λ l. AreTakenTo p t i gone (n + 1) l next) (ap (set into n) (sym same) ∙ sym list)
    (taken_more p t i next a o own lt is option))

-- at the item's own node all were met
pub taken_all : (p : Puzzle) (t : List Move) (done : List ℕ) (i : ℕ) {n : ℕ} {into : List ℕ} {place : ℕ} → IsItem p i
    → AreTakenTo p t i (collected p t done) n into place → place ≡ i
    → AreTaken p t (collected p t (done ++ i ∷ [])) n into
taken_all p t done i {n} {into} {place} item a own =
    let none : next_above a.last (listed_numbers p t i) ≡ None = by_option (next_above a.last (listed_numbers p t i))
    (λ none. none)
    (λ x f.
    let at : place ≡ link_place p i x = a.place_is ∙ ap (λ o. link_place p i (unwrap_or o 0)) f in
    absurd (omega (
      arith,
      behind_items p i x (omega (arith, next_above-gt a.last x (listed_numbers p t i) f)),
      at,
      own,
      item.1,
    ))) in
    let rest = next_above-none a.last (listed_numbers p t i) none in
    record {
      few = a.few;
      full = a.full;
      taken = sym (append-nil (take n into)) ∙ ap (λ l. take n into ++ filter (is_own p i) l) (sym rest) ∙ a.taken
          ∙ ap (λ l. collected p t done ++ l) (sym (own_numbers p t i) ∙ sym (append-nil _))
          ∙ sym (flat_map-append _ done (i ∷ []));
    }

-- what is at the next place is further on
pub option_nearer : (p : Puzzle) (t : List Move) (i : ℕ) {gone : List ℕ} {n : ℕ} {into : List ℕ} {place : ℕ} (next : ℕ)
    → (a : AreTakenTo p t i gone n into place) → (o : OptionThere p t i a.last place)
    → option_at p i next ≡ next_above o.x (listed_numbers p t i)
    → option_count p + 1 - unwrap_or (option_at p i next) (option_count p + 1)
    < option_count p + 1 - unwrap_or (option_at p i place) (option_count p + 1)
option_nearer p t i {place = place} next a o is =
    let most = o.use_at.known.1 in
    let here : unwrap_or (option_at p i place) (option_count p + 1) ≡ o.x =
    ap (λ n. unwrap_or n (option_count p + 1)) (a.option_is ∙ o.next) in
    by_option (next_above o.x (listed_numbers p t i))
    (λ none.
    let end : unwrap_or (option_at p i next) (option_count p + 1) ≡ option_count p + 1 =
    ap (λ n. unwrap_or n (option_count p + 1)) (is ∙ none) in omega (arith, most, here, end))
    (λ y e.
    let then : unwrap_or (option_at p i next) (option_count p + 1) ≡ y =
    ap (λ n. unwrap_or n (option_count p + 1)) (is ∙ e) in
    omega (arith, most, here, then, next_above-gt o.x y (listed_numbers p t i) e))

-- ======== The options of one open item after the other.

-- the first n of these are the options of the open items up to item at
pub record AreTakenUpTo (p : Puzzle) (t : List Move) (at n : ℕ) (into : List ℕ) : Type 0 where
  pub at_open : (at ≡ 0) ⊎ IsOpenPrimary p t at
  pub done : List ℕ
  pub items : done ++ filter (λ j. ltb at j) (open_items p t) ≡ open_items p t
  pub taken : AreTaken p t (collected p t done) n into

-- and those of the open item i up to the one before the place in its list
pub record AreTakenWithin (p : Puzzle) (t : List Move) (i n : ℕ) (into : List ℕ) (place : ℕ) : Type 0 where
  pub done : List ℕ
  pub items : done ++ i ∷ filter (λ j. ltb i j) (open_items p t) ≡ open_items p t
  pub to : AreTakenTo p t i (collected p t done) n into place

pub options_first : (p : Puzzle) (t : List Move) (into : List ℕ) → length into ≡ 64 → AreTakenUpTo p t 0 0 into
options_first p t into full = record {
  at_open = inl refl;
  done = [];
  items = above_all 0 (open_items p t) (open_rises p t);
  taken = taken_none p t into full;
}

-- at the first option of the next open item
pub options_within : (p : Puzzle) (t : List Move) (at i n : ℕ) (into : List ℕ) (place : ℕ)
    → AreTakenUpTo p t at n into → next_above at (open_items p t) ≡ Some i
    → place ≡ link_place p i (first_above 0 0 (listed_numbers p t i))
    → option_at p i place ≡ next_above 0 (listed_numbers p t i) → AreTakenWithin p t i n into place
options_within p t at i n into place up e is option = record {
  done = up.done;
  items = ap (λ l. up.done ++ l) (sym (next_above-split 0 at i (open_items p t) (open_rises p t) e)) ∙ up.items;
  to = taken_first p t i (collected p t up.done) n into place up.taken is option;
}

-- at the end of its list
pub options_on : (p : Puzzle) (t : List Move) (i n : ℕ) (into : List ℕ) (place : ℕ) → IsOpenPrimary p t i
    → AreTakenWithin p t i n into place → place ≡ i → AreTakenUpTo p t i n into
options_on p t i n into place opened a own = record {
  at_open = inr opened;
  done = a.done ++ i ∷ [];
  items = append_assoc a.done (i ∷ []) (filter (λ j. ltb i j) (open_items p t)) ∙ a.items;
  taken = taken_all p t a.done i (is_item p t i opened) a.to own;
}

-- no item is left
pub options_end : (p : Puzzle) (t : List Move) (at n : ℕ) (into : List ℕ) → AreTakenUpTo p t at n into
    → next_above at (open_items p t) ≡ None → take n into ≡ collected p t (open_items p t)
options_end p t at n into up e =
    up.taken.taken ∙ ap (collected p t) (sym (append-nil up.done)
    ∙ ap (λ l. up.done ++ l) (sym (next_above-none at (open_items p t) e)) ∙ up.items)
