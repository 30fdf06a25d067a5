-- Where the nodes of options are, and which options they are of, by the problem alone.
use Rattle.std.proofs.Common.{ℕ, ◌≡◌, ◌+◌, List, [], ◌∷◌, ◌++◌, length, take, Some, arith, zero, suc, ◌-◌, ◌<◌, ◌≤◌}
use Rattle.std.proofs.Common.{inl, inr, true, false, cond, eqb, get_or, map, drop, refl, ap, sym, ◌∙◌, eqb-true, eq-eqb}
use Rattle.std.proofs.Common.{sum_by, ◌^◌}
use Rattle.std.specs.Prelude.{slice_get, flat_map, option_map, unwrap_or, is_some, All}
use Rattle.std.proofs.lemmas.Option.{slice_get_within, slice_get-map, slice_get-get_or}
use Rattle.std.proofs.lemmas.List.{length-map, length-drop, append_assoc, take-take, drop-drop}
use Rattle.std.specs.List.{AllByRecursion}
use Rattle.std.proofs.lemmas.Grind.{common_steps}
use Rattle.std.proofs.lemmas.Bool.{false≢true}
use Rattle.std.proofs.Math.Seq.{take-length, drop-append_seam, drop-length}
use Rattle.std.proofs.lemmas.List.Sums.{sum_by-cons, sum_by_push, sum_by-take-le}
use Rattle.std.proofs.lemmas.List.FromFn.{length-map-range_with_len}
use Rattle.std.proofs.lemmas.List.Elements.{recursion_from_All}
use Rattle.xc_input.specs.declared.problem.Use.{Use}
use Rattle.xc_input.specs.Problem.{Puzzle, numbered_get, uses_of, item_count, option_count, use_count, colour_in}
use Rattle.xc_input.specs.Problem.{IsOption, IsWithinLimits, IsValid, IsSoundOption, high_at, low_at, AreSoundBounds}
use Rattle.xc_input.specs.UsePlaces.{place_in}
use Rattle.xc_input.specs.Named.{Named, IsSound}
use Rattle.xc_input.proofs.OptionLemmas.{numbered_from}
use Rattle.xc_text.proofs.ListLemmas.{get_left, drop_at, slice_get-drop, each_weaker, take_more-get}
use Rattle.xc_moves.specs.Places.{Node, own, spacer, used, nodes_of, layout, spacer_place, link_place}
use Rattle.xc_moves.specs.inner.Uses.{start_at, HoldsItem, named, before_use, behind_use}
use Rattle.xc_moves.specs.Commits.{IsUseAt, option_at}
use Rattle.xc_moves.proofs.MoveLemmas.{holds_use, known_option}
use Rattle.xc_input.specs.declared.problem.Bounds.{Bounds}

pub get_dropped : {X : Type 0} (n k : ℕ) (xs : List X) → slice_get (drop n xs) k ≡ slice_get xs (n + k)
get_dropped n k xs = cc (slice_get-drop (drop n xs) k, drop-drop k n xs, slice_get-drop xs (n + k))

-- ---- the uses of an option

-- the uses of an option that there is
pub uses_here : (p : Puzzle) (o : ℕ) (us : List Use) → numbered_get p.options o ≡ Some us → us ≡ uses_of p o
uses_here p o us e = ap (λ found. unwrap_or found []) (sym e)

pub option_get : (p : Puzzle) (o : ℕ) (us : List Use) → o < option_count p → us ≡ uses_of p (o + 1)
    → slice_get p.options o ≡ Some us
option_get p o us lt is = grind (arith, slice_get-get_or p.options o [] lt)

-- by which use an item is held, and the items of the others
pub record Held (us : List Use) (i : ℕ) : Type 0 where
  pub use_of : Use
  pub at : slice_get us (place_in i us) ≡ Some use_of
  pub item : use_of.item ≡ i
  pub colour : colour_in us i ≡ Some use_of.colour
  pub before : before_use i us ≡ map (λ v. v.item) (take (place_in i us) us)
  pub behind : behind_use i us ≡ map (λ v. v.item) (drop (place_in i us + 1) us)

pub held_use : (us : List Use) (i : ℕ) → is_some (colour_in us i) ≡ true → Held us i
held_use [] i e = absurd (false≢true e)
held_use (u ∷ us) i e =
    elim (eqb u.item i) as (λ b. eqb u.item i ≡ b → is_some (cond b (Some u.colour) (colour_in us i)) ≡ true
    → Held (u ∷ us) i) [
      | true ↦ grind (arith, eqb-true)
      | false ↦ λ other f.
          let r = held_use us i f in
          let n : place_in i (u ∷ us) ≡ suc (place_in i us) = rw other (omega arith) in
          let next : suc (place_in i us + 1) ≡ place_in i (u ∷ us) + 1 = omega (arith, n) in record {
            use_of = r.use_of;
            at = ap (slice_get (u ∷ us)) n ∙ r.at;
            item = r.item;
            colour = rw other r.colour;
            before = grind arith;
            behind = (rw other refl) ∙ r.behind ∙ ap (λ k. map (λ v. v.item) (drop k (u ∷ us))) next;
          }
    ] refl e

-- ---- the places of spacers

abbrev size : List Use → ℕ
size us = length us + 1

pub place_first : (p : Puzzle) → spacer_place p 0 ≡ item_count p + 1
place_first p = omega arith

pub place_next : (p : Puzzle) (o : ℕ) (us : List Use) → slice_get p.options o ≡ Some us
    → spacer_place p (o + 1) ≡ spacer_place p o + 1 + length us
place_next p o us e = grind (arith, take_more-get p.options o us e, sum_by_push size (take o p.options) us)

-- they rise
pub place_grows : (p : Puzzle) (m n : ℕ) → m ≤ n → spacer_place p m ≤ spacer_place p n
place_grows p m n le =
    omega (arith, sum_by-take-le size (take n p.options) m, ap (sum_by size) (take-take m n p.options le))

-- ---- the table from a spacer on

abbrev pub tail_from : ℕ → List (List Use) → List Node
tail_from n os = spacer n ∷ flat_map nodes_of (numbered_from (n + 1) os)

-- behind the spacer before an option its nodes stand, and then the same begins anew
uses_from : (p : Puzzle) (o : ℕ) (us : List Use) → slice_get p.options o ≡ Some us
    → drop (spacer_place p o) (layout p) ≡ tail_from o (drop o p.options)
    → drop (start_at p o) (layout p) ≡ map (used (o + 1)) us ++ tail_from (o + 1) (drop (suc o) p.options)
uses_from p o us e from =
    grind (arith, drop-drop 1 (spacer_place p o) (layout p), drop_at p.options o us e, append_assoc)

-- the table from the spacer behind option o on
dropped : (p : Puzzle) (o : ℕ) → o ≤ option_count p
    → drop (spacer_place p o) (layout p) ≡ tail_from o (drop o p.options)
dropped p zero le = grind (arith, common_steps, place_first, drop-append_seam, length-map-range_with_len, own)
dropped p (suc o) le =
    let us = get_or p.options o [] in
    let e = slice_get-get_or p.options o [] (omega (arith, le)) in
    let s : o + 1 ≡ suc o = omega arith in
    let nodes = map (used (o + 1)) us in
    let at : spacer_place p (suc o) ≡ start_at p o + length nodes =
    omega (arith, ap (spacer_place p) s, place_next p o us e, length-map us (used (o + 1))) in
    ap (λ n. drop n (layout p)) at ∙ sym (drop-drop (length nodes) (start_at p o) (layout p))
    ∙ ap (drop (length nodes)) (uses_from p o us e (dropped p o (omega (arith, le))))
    ∙ drop-append_seam nodes _ ∙ ap (λ n. tail_from n (drop (suc o) p.options)) s

pub spacer_here : (p : Puzzle) (o : ℕ) → o ≤ option_count p → slice_get (layout p) (spacer_place p o) ≡ Some (spacer o)
spacer_here p o le = sym (slice_get-drop (layout p) (spacer_place p o)) ∙ ap (λ l. slice_get l 0) (dropped p o le)

pub use_here : (p : Puzzle) (o k n : ℕ) (us : List Use) (u : Use) → slice_get p.options o ≡ Some us
    → slice_get us k ≡ Some u → n ≡ spacer_place p o + 1 + k → slice_get (layout p) n ≡ Some (used (o + 1) u)
use_here p o k n us u e f at = ap (slice_get (layout p)) at ∙ sym (get_dropped (start_at p o) k (layout p))
    ∙ ap (λ l. slice_get l k) (uses_from p o us e (dropped p o (omega (arith, slice_get_within p.options o us e))))
    ∙ get_left (map (used (o + 1)) us) _ k (used (o + 1) u)
    (slice_get-map (used (o + 1)) us k ∙ ap (option_map (used (o + 1))) f)

-- ---- the length of the table

pub sizes : (os : List (List Use)) → sum_by size os ≡ use_count os + length os
sizes [] = refl
sizes (us ∷ os) = omega (arith, sizes os, sum_by-cons size us os, sum_by-cons (λ (vs : List Use). length vs) us os)

pub layout_len : (p : Puzzle) → length (layout p) ≡ spacer_place p (option_count p) + 1
layout_len p =
    let last = dropped p (option_count p) (omega arith) in
    grind (arith, drop-length, length-drop (spacer_place p (option_count p)) (layout p))

pub layout_small : (p : Puzzle) → IsWithinLimits p → length (layout p) ≤ 20100002
layout_small p limits = grind (arith, take-length, layout_len, sizes)

-- a spacer's place is among them
pub place_within : (p : Puzzle) (o : ℕ) → o ≤ option_count p → spacer_place p o < length (layout p)
place_within p o le = omega (arith, layout_len p, place_grows p o (option_count p) le)

-- where the nodes of an option end
pub record OptionFits (p : Puzzle) (o : ℕ) (us : List Use) : Type 0 where
  pub at : slice_get p.options o ≡ Some us
  pub next : spacer_place p (o + 1) ≡ spacer_place p o + 1 + length us
  pub within : spacer_place p (o + 1) < length (layout p)
  pub small : length (layout p) ≤ 20100002

pub option_fits : (p : Puzzle) (o : ℕ) (us : List Use) → IsWithinLimits p → o < option_count p → us ≡ uses_of p (o + 1)
    → OptionFits p o us
option_fits p o us limits lt is = grind (arith, layout_small, option_get, place_next, place_within)

-- ---- the nodes of one option

-- an option that holds an item is there
option_of : (p : Puzzle) (x i : ℕ) → is_some (colour_in (uses_of p x) i) ≡ true → IsOption p x
option_of p x i e = known_option p x i (sym (holds_use (uses_of p x) i) ∙ e)

-- the place of an item's use in option x, which is behind option m
pub place_is : (p : Puzzle) (i x m : ℕ) → x ≡ m + 1 → link_place p i x ≡ start_at p m + place_in i (uses_of p x)
place_is p i x m s = grind arith

-- it is behind the items' own nodes
pub behind_items : (p : Puzzle) (i x : ℕ) → 0 < x → item_count p < link_place p i x
behind_items p i x pos = omega (arith, place_is p i x (x - 1) (omega (arith, pos)))

pub record OptionNodes (p : Puzzle) (x m : ℕ) : Type 0 where
  pub node : (k : ℕ) (u : Use) → slice_get (uses_of p x) k ≡ Some u
      → slice_get (layout p) (start_at p m + k) ≡ Some (used x u)
  pub place : (i : ℕ) → link_place p i x ≡ start_at p m + place_in i (uses_of p x)
  pub behind : slice_get (layout p) (spacer_place p x) ≡ Some (spacer x)
  pub end : spacer_place p x ≡ start_at p m + length (uses_of p x)

pub option_nodes : (p : Puzzle) (x : ℕ) → IsOption p x → OptionNodes p x (x - 1)
option_nodes p x known = grind (arith, option_get, use_here, place_is, spacer_here, place_next)

-- by which use an option holds an item, and where its node stands
pub record HeldNode (p : Puzzle) (i x : ℕ) : Type 0 where
  pub known : IsOption p x
  pub held : Held (uses_of p x) i
  pub node : slice_get (layout p) (link_place p i x) ≡ Some (used x held.use_of)
  pub from : start_at p (x - 1) ≤ link_place p i x
  pub below : link_place p i x < spacer_place p x

pub held_node : (p : Puzzle) (i x : ℕ) → 0 < x → is_some (colour_in (uses_of p x) i) ≡ true → HeldNode p i x
held_node p i x pos e =
    let known = option_of p x i e in
    let nodes = option_nodes p x known in
    let h = held_use (uses_of p x) i e in
    record {
      known = known;
      held = h;
      node = ap (slice_get (layout p)) (nodes.place i) ∙ nodes.node _ h.use_of h.at;
      from = omega (arith, nodes.place i);
      below = omega (arith, nodes.place i, slice_get_within (uses_of p x) _ h.use_of h.at, nodes.end);
    }

-- where an option's nodes stand, and how many there are
pub ruleset option_place = (option_fits, uses_here, layout_len, layout_small, place_within)

-- ======== What holds of a valid problem: its options use its items, and its bounds.

-- what holds of all elements and of the default holds of the one at a place
pub at_place : {X : Type 0} (P : X → Type 0) (d : X) (xs : List X) (k : ℕ) → P d → AllByRecursion P xs
    → P (unwrap_or (slice_get xs k) d)
at_place P d [] k nil a = nil
at_place P d (x ∷ xs) zero nil a = a.0
at_place P d (x ∷ xs) (suc k) nil a = at_place P d xs k nil a.1

pub at_option : (Q P : List Use → Type 0) (p : Puzzle) → P [] → ((us : List Use) → Q us → P us) → All Q p.options
    → (o : ℕ) → P (uses_of p o)
at_option Q P p nil f a zero = nil
at_option Q P p nil f a (suc k) =
    at_place P [] p.options k nil (each_weaker Q P p.options f (recursion_from_All Q p.options a))

abbrev InRange : Puzzle → Use → Type 0
InRange p u = (0 < u.item) × (u.item ≤ item_count p)

sound_items : (p : Puzzle) (us : List Use) → IsSoundOption p us → AllByRecursion (InRange p) us
sound_items p us s = grind (arith, each_weaker, recursion_from_All)

-- each option of a valid problem uses its items
pub items_within : (p : Puzzle) → IsValid p → (o : ℕ) → AllByRecursion (InRange p) (uses_of p o)
items_within p valid = at_option (IsSoundOption p) (AllByRecursion (InRange p)) p tt (sound_items p) valid.options

pub low_most : {p : Puzzle} (i : ℕ) → IsValid p → low_at p i ≤ high_at p i
low_most zero valid = omega arith
low_most {p} (suc k) valid = at_place (λ (b : Bounds). b.low ≤ b.high) (record { low = 0; high = 0 }) _ k (omega arith)
    (each_weaker AreSoundBounds _ _ (λ b a. a.0) (recursion_from_All AreSoundBounds p.bounds valid.bounds))

-- ======== Which option's node stands at a place.

-- the option at the place where one uses an item, and none at the item's own node
pub option_there : (p : Puzzle) (i y : ℕ) → i ≤ item_count p → HoldsItem p i y → option_at p i (link_place p i y)
    ≡ named y
option_there p i y le (inl z) = grind (arith, named, eq-eqb)
option_there p i y le (inr h) = grind (arith, behind_items p i y h.0, held_node p i y h.0 h.1)

-- where an option's use of item i stands
pub place_at_use : {p : Puzzle} {i x q : ℕ} → IsUseAt p i x q → q ≡ start_at p (x - 1) + place_in i (uses_of p x)
place_at_use {p} {i} {x} u = u.at ∙ (option_nodes p x u.known).place i

-- ======== Which option's node stands at a place, by the spacers that a walk over the options passes.

-- an option's node stands between the spacers round it
pub use_between : (p : Puzzle) (i x q : ℕ) → IsUseAt p i x q → (spacer_place p (x - 1) < q) × (q < spacer_place p x)
use_between p i x q u = grind (arith, place_at_use u, option_nodes p x u.known)

-- the option between two spacers: one before it would stand ahead of the first, and one behind it past the second
pub option_between : (p : Puzzle) (i x q n : ℕ) → IsUseAt p i x q → spacer_place p n ≤ q → q < spacer_place p (n + 1)
    → n + 1 ≡ x
option_between p i x q n u from below =
    grind (arith, use_between p i x q u, place_grows p (n + 1) (x - 1), place_grows p x n)

-- ---- the place of a use, behind its option's first node

pub record UseStands (p : Puzzle) (i o first k : ℕ) : Type 0 where
  pub is : first + k ≡ link_place p i o
  pub small : first + k < 2 ^ 31

pub use_stands : (a : Named) (i o first k : ℕ) (us : List Use) → IsSound a → IsOption a.puzzle o
    → place_in i (uses_of a.puzzle o) < length (uses_of a.puzzle o) → numbered_get a.puzzle.options o ≡ Some us
    → first ≡ start_at a.puzzle (o - 1) → k ≡ place_in i us → UseStands a.puzzle i o first k
use_stands a i o first k us sound known holds found start index =
    let p = a.puzzle in
    let nodes = option_nodes p o known in
    grind (arith, uses_here p o us found, place_within p o known.1, layout_small p sound.limits)
