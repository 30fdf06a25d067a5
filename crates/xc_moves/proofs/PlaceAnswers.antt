-- What a dance finds next in an item's list, by places. First the list alone: the number behind n is one of the list's
-- (`next_contained`). Then places: the items' own nodes are below those of options (`own_place`, `option_place`), so a
-- place tells which option stands there. `next_of_own` and `next_of_option` put both together.
use Rattle.std.proofs.Common.{ℕ, ◌≡◌, ◌<◌, ◌≤◌, List, Some, refl, sym, arith, subst, zero, suc, true, false, cond, []}
use Rattle.std.proofs.Common.{◌∷◌, None, ne_eqb, inl, inr, ltb, eq-eqb}
use Rattle.std.specs.Prelude.{is_some, unwrap_or, Contains, Option}
use Rattle.std.proofs.lemmas.Option.{slice_get_within}
use Rattle.std.proofs.lemmas.Grind.{common_steps}
use Rattle.std.proofs.lemmas.List.Elements.{All-from_recursion}
use Rattle.xc_input.specs.Problem.{Puzzle, item_count, IsItem, IsValid, uses_of, colour_in}
use Rattle.xc_input.specs.Named.{Named, IsSound}
use Rattle.xc_input.specs.UsePlaces.{place_in}
use Rattle.xc_moves.specs.declared.dance.Move.{Move}
use Rattle.xc_moves.specs.inner.Uses.{HoldsItem, named}
use Rattle.xc_moves.specs.Places.{first_above, is_in, link_place}
use Rattle.xc_moves.specs.Commits.{IsUseAt, IsListedAt, option_at}
use Rattle.xc_moves.specs.Moves.{next_above, listed_numbers}
use Rattle.xc_moves.specs.Dancing.{Dancing}
use Rattle.xc_moves.proofs.PlaceLemmas.{held_node, option_there, items_within}
use Rattle.xc_moves.proofs.MoveLemmas.{next_above-gt, rises_listed, Named as IsNamed, numbers_named, element_of}
use Rattle.xc_moves.proofs.MoveLemmas.{in_above}

-- ======== The next number of a list, with 0 for none.

pub above_named : (n : ℕ) (xs : List ℕ) → named (first_above 0 n xs) ≡ next_above n xs
above_named n xs = grind (arith, ne_eqb, next_above-gt)

-- ---- the numbers of a list

pub contained : (xs : List ℕ) (x : ℕ) → Contains xs x → is_in x xs ≡ true
contained xs x h = grind (arith, common_steps, eq-eqb)

-- the next number is one of them
pub next_contained : (n k : ℕ) (xs : List ℕ) → next_above n xs ≡ Some k → Contains xs k
next_contained n k [] e = cc
next_contained n k (x ∷ xs) e =
    elim (ltb n x) as (λ b. cond b (Some x) (next_above n xs) ≡ Some k → Contains (x ∷ xs) k) [
      | true ↦ λ f. (let same : x ≡ k = cc in (0, omega arith, same))
      | false ↦ λ f. (let rest = next_contained n k xs f in (suc rest.0, omega (arith, rest.1), rest.2))
    ] e

pub above_name : (p : Puzzle) (t : List Move) (i n : ℕ) → HoldsItem p i (first_above 0 n (listed_numbers p t i))
above_name p t i n =
    let ns = listed_numbers p t i in
    elim (next_above n ns) as (λ o. next_above n ns ≡ o → HoldsItem p i (unwrap_or o 0)) [
      | None ↦ λ e. inl refl
      | Some k ↦ λ e. inr (
        omega (arith, next_above-gt n k ns e),
        element_of (IsNamed p i) k ns (numbers_named p t i) (contained ns k (next_contained n k ns e)),
      )
    ] refl

pub in_list_name : (p : Puzzle) (t : List Move) (i x : ℕ) → is_in x (listed_numbers p t i) ≡ true → (0 < x)
    × (is_some (colour_in (uses_of p x) i) ≡ true)
in_list_name p t i x e = (in_above _ _ _ (rises_listed p t i) e, element_of (IsNamed p i) _ _ (numbers_named p t i) e)

-- ======== Places in an item's list by the problem alone: the item's own node, or that of an option in the list.

-- an option in an item's list uses the item
pub listed_use : {p : Puzzle} (t : List Move) (i x : ℕ) → IsValid p → Contains (listed_numbers p t i) x →
    IsUseAt p i x (link_place p i x)
listed_use {p} t i x valid h =
    let is = in_list_name p t i x (contained _ _ h) in
    let w = held_node p i x is.0 is.1 in
    let items = All-from_recursion (λ u. IsItem p u.item) (uses_of p x) (items_within p valid x) in
    grind (arith, slice_get_within (uses_of p x) (place_in i (uses_of p x)) w.held.use_of w.held.at)

-- the place of an item's own node is below those of options
pub own_place : {p : Puzzle} {t : List Move} {i : ℕ} (x : ℕ) {q : ℕ} → IsListedAt p t i x q → q ≤ item_count p → x ≡ 0
own_place zero at le = refl
own_place (suc m) at le = absurd (omega (arith, at.at, le))

-- and an option's is behind them
pub option_place : {p : Puzzle} {t : List Move} {i x q : ℕ} → IsItem p i → IsListedAt p t i x q → item_count p < q →
    Contains (listed_numbers p t i) x
option_place {p} {i = i} item at gt = grind arith

-- ---- what a dance finds next, by a problem that was read: at an item's own node, or at an option's

pub valid_state : (s : Dancing) {a : Named} → s.puzzle ≡ a.puzzle → IsSound a → IsValid s.puzzle
valid_state s same sound = subst IsValid (sym same) sound.valid

abbrev pub list_of : Dancing → ℕ → List ℕ
list_of s i = listed_numbers s.puzzle s.trail i

-- the first of the list
pub next_of_own : (s : Dancing) (a : Named) (i x q items : ℕ) (n : Option ℕ) → s.puzzle ≡ a.puzzle →
    items ≡ item_count a.puzzle → IsListedAt s.puzzle s.trail i x q → q ≤ items → n ≡ next_above 0 (list_of s i) →
    next_above x (list_of s i) ≡ n
next_of_own s a i x q items n same count at le is = grind (arith, list_of, own_place)

-- an option's use stands there
pub option_use : (s : Dancing) (a : Named) (i x q items : ℕ) → s.puzzle ≡ a.puzzle → IsSound a →
    items ≡ item_count a.puzzle → IsItem s.puzzle i → IsListedAt s.puzzle s.trail i x q → items < q →
    Contains (list_of s i) x × IsUseAt a.puzzle i x q
option_use s a i x q items same sound count item at gt =
    grind (arith, option_place item at, listed_use s.trail i x (valid_state s same sound))

-- the one below it
pub next_of_option : (s : Dancing) (a : Named) (i x q items o : ℕ) (n : Option ℕ) → s.puzzle ≡ a.puzzle → IsSound a →
    items ≡ item_count a.puzzle → IsItem s.puzzle i → IsListedAt s.puzzle s.trail i x q → items < q →
    ((j y : ℕ) → IsUseAt a.puzzle j y q → o ≡ y) → n ≡ next_above o (list_of s i) → next_above x (list_of s i) ≡ n
next_of_option s a i x q items o n same sound count item at gt number is = grind (arith, option_use, list_of)

-- the option that is next uses the item
pub next_use : (s : Dancing) (a : Named) (i x o : ℕ) → s.puzzle ≡ a.puzzle → IsSound a →
    next_above x (list_of s i) ≡ Some o → IsUseAt a.puzzle i o (link_place a.puzzle i o)
next_use s a i x o same sound is = subst (λ (p : Puzzle). IsUseAt p i o (link_place p i o)) same
    (listed_use s.trail _ _ (valid_state s same sound) (next_contained x _ (list_of s i) is))

-- its place, or the item's own node, tells what is next
pub place_tells : (s : Dancing) (i x r : ℕ) → IsItem s.puzzle i →
    r ≡ link_place s.puzzle i (first_above 0 x (list_of s i)) → option_at s.puzzle i r ≡ next_above x (list_of s i)
place_tells s i x r item is = grind (arith, option_there, above_name, above_named, list_of)
