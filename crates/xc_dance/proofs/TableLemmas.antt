-- The tables of a problem: what is copied, the spans of options, what fits, what cells tell, and the rows of items.
use Rattle.std.proofs.Common.{ℕ, ◌≡◌, ◌+◌, List, [], ◌∷◌, ◌++◌, length, take, Some, arith, zero, suc, ◌-◌, ◌<◌, ◌≤◌}
use Rattle.std.proofs.Common.{inl, inr, true, false, cond, eqb, get_or, map, drop, refl, ap, ap₂, sym, ◌∙◌, subst}
use Rattle.std.proofs.Common.{eq-eqb, ne_eqb, lt-ltb, ◌≢◌, ◌^◌, set}
use Rattle.std.specs.Prelude.{slice_get, option_map, is_some, All, AllPairs}
use Rattle.std.proofs.lemmas.Option.{slice_get_within, get_or_from_slice_get, slice_get-map, same_Some}
use Rattle.std.proofs.lemmas.Option.{slice_get-get_or}
use Rattle.std.proofs.lemmas.List.{length-map, length-take, length-drop, take-append-drop}
use Rattle.std.specs.List.{range_with_len, AllByRecursion}
use Rattle.std.proofs.lemmas.Bool.{false≢true, cases_lt}
use Rattle.std.proofs.Math.Seq.{take-length}
use Rattle.std.proofs.lemmas.List.FromFn.{length-range_with_len, get_or-range_with_len, get_or-map-range_with_len}
use Rattle.std.proofs.lemmas.List.Elements.{recursion_from_All, filter_agree}
use Rattle.std.proofs.lemmas.List.Folds.{list_any_none}
use Rattle.xc_input.specs.declared.problem.Bounds.{Bounds}
use Rattle.xc_input.specs.declared.problem.Use.{Use}
use Rattle.xc_input.specs.Problem.{Puzzle, uses_of, item_count, option_count, use_count, colour_in, IsOption}
use Rattle.xc_input.specs.Problem.{IsWithinLimits, IsValid, IsSoundOption, high_at}
use Rattle.xc_input.specs.inner.Stored.{pieces, AreStarts}
use Rattle.xc_input.specs.UsePlaces.{place_in}
use Rattle.xc_input.proofs.TokenLemmas.{pieces-snoc}
use Rattle.xc_text.proofs.ListLemmas.{get_left, each_at}
use Rattle.xc_moves.specs.Places.{Node, unused, own, spacer, used, layout, spacer_place, link_place, first_above}
use Rattle.xc_dance.specs.Fields.{ring_of, ring_head, left_neighbour, right_of, last_below}
use Rattle.xc_moves.specs.inner.Uses.{start_at, HoldsItem}
use Rattle.xc_dance.specs.inner.Tables.{IsFit, DifferByItem, span_of, spans_of, slot_of, Placed, IsLaid, Span, ulink_in}
use Rattle.xc_dance.specs.inner.Tables.{line_of, nodes_after, uses_behind, uses_before, Items, llink_at, rlink_at}
use Rattle.xc_dance.specs.inner.Tables.{bound_at}
use Rattle.xc_dance.specs.inner.Walks.{span_at, IsSpanOf, HasSpans, IsFitted}
use Rattle.xc_dance.specs.declared.links.cells.marks.TheConstants.{MARK, SPACER}
use Rattle.xc_moves.specs.declared.dance.Move.{Move}
use Rattle.xc_moves.specs.Commits.{IsUseAt}
use Rattle.xc_moves.specs.declared.dance.Move.TheVariants.{Spend}
use Rattle.xc_moves.specs.Moves.{spends, is_covered}
use Rattle.xc_moves.proofs.MoveLemmas.{holds_use}
use Rattle.xc_dance.proofs.StateLemmas.{high_within}
use Rattle.xc_dance.proofs.LineLemmas.{get_map, map_put, map_same}
use Rattle.xc_moves.proofs.PlaceLemmas.{get_dropped, place_first, tail_from, spacer_here, sizes}
use Rattle.xc_moves.proofs.PlaceLemmas.{layout_len, layout_small, place_is, option_nodes, held_node, at_option}
use Rattle.xc_moves.proofs.PlaceLemmas.{items_within, place_at_use}

-- ======== A problem that is copied part by part.

pub part_more : {X : Type 0} (starts : List ℕ) (us vs : List X) (n : ℕ) → AreStarts starts (length us)
    → n ≡ length us + length vs → AreStarts (starts ++ n ∷ []) (length (us ++ vs))
    × (pieces (starts ++ n ∷ []) (us ++ vs) ≡ pieces starts us ++ vs ∷ [])
part_more [] us vs n h e = absurd h
part_more (a ∷ starts) us vs n h e = pieces-snoc a starts us vs n h e

pub same_puzzle : (bounds : List Bounds) (secondary : ℕ) (options : List (List Use)) (p : Puzzle) → bounds ≡ p.bounds
    → secondary ≡ p.secondary → options ≡ p.options →
    let copy : Puzzle = record { bounds = bounds; secondary = secondary; options = options } in copy ≡ p
same_puzzle bounds secondary options p e f g = grind (arith, e, f, g)

-- ======== Where nodes stand in the node table, what each tells of its place, and the spans of options: for all
-- functions that lay nodes or walk over them.

-- ---- lists in two parts

pub get_taken : {X : Type 0} (n k : ℕ) (xs : List X) (x : X) → slice_get (take n xs) k ≡ Some x
    → slice_get xs k ≡ Some x
get_taken n k xs x e = ap (λ l. slice_get l k) (sym (take-append-drop n xs)) ∙ get_left (take n xs) (drop n xs) k x e

-- ---- the uses of an option

-- a use among distinct ones is the one by which its item is held
pub found_use : (us : List Use) (k : ℕ) (u : Use) → DifferByItem us → slice_get us k ≡ Some u
    → (place_in u.item us ≡ k) × (colour_in us u.item ≡ Some u.colour)
found_use [] k u d e = cc
found_use (v ∷ us) zero u d e = grind (arith, same_Some, eq-eqb v.item v.item refl)
found_use (v ∷ us) (suc k) u d e = grind (arith, found_use us k u d.1 e, ne_eqb, false≢true)

-- ---- the items' own nodes

pub range_get : (a n k : ℕ) → k < n → slice_get (range_with_len a n) k ≡ Some (a + k)
range_get a n k lt =
    slice_get-get_or (range_with_len a n) k 0 (omega (arith, lt, length-range_with_len a n))
    ∙ ap Some (get_or-range_with_len a n k 0 lt)

pub head_is : (p : Puzzle) (j : ℕ) → 0 < j → j ≤ item_count p → slice_get (layout p) j ≡ Some (own j)
head_is p zero pos le = absurd (omega arith)
head_is p (suc k) pos le =
    let items = range_with_len 1 (item_count p) in
    get_left (map own items) (tail_from 0 p.options) k (own (suc k))
    (slice_get-map own items k ∙ ap (option_map own) (range_get 1 (item_count p) k le ∙ ap Some (omega arith)))

-- ---- the length of the table

-- by the counts of items, options and uses
pub counted_nodes : (p : Puzzle) → IsWithinLimits p → (length (layout p) ≤ 20100002)
    × (length (layout p) ≡ item_count p + 2 + option_count p + use_count p.options)
counted_nodes p limits = grind (arith, take-length, layout_len, layout_small, sizes)

-- where the nodes of the first k options start
abbrev pub starts_to : Puzzle → ℕ → List ℕ
starts_to p k = map (start_at p) (range_with_len 0 k)

-- ---- the nodes of one option

-- where a use's node stands is its place
pub use_at : (p : Puzzle) (x m k : ℕ) (u : Use) → IsFit p → x ≡ m + 1 → slice_get (uses_of p x) k ≡ Some u
    → link_place p u.item x ≡ start_at p m + k
use_at p x m k u fit s e = omega (arith, place_is p u.item x m s, (found_use (uses_of p x) k u (fit.distinct x) e).0)

-- the use whose node stands at a place between the spacers round the option
pub node_between : (p : Puzzle) (x q : ℕ) → IsOption p x → start_at p (x - 1) ≤ q → q < spacer_place p x
    → (u : Use) × (slice_get (uses_of p x) (q - start_at p (x - 1)) ≡ Some u)
    × (slice_get (layout p) q ≡ Some (used x u))
node_between p x q known from below =
    let nodes = option_nodes p x known in
    let k = q - start_at p (x - 1) in
    grind (arith, slice_get-get_or (uses_of p x) k (record { item = 0; colour = 0 }), nodes.node k)

-- ---- what a node tells of its place

-- a spacer stands at its place, and a use's node behind the spacer before its option
abbrev pub IsAt : Puzzle → ℕ → Node → Type 0
IsAt p q unused = q ≡ 0
IsAt p q (own i) = (0 < i) × (i ≤ item_count p) × (i ≡ q)
IsAt p q (spacer n) = spacer_place p n ≡ q
IsAt p q (used o u) = (m : ℕ) × (k : ℕ) × (o ≡ m + 1) × (slice_get (uses_of p o) k ≡ Some u) × (start_at p m + k ≡ q)

spacer_at : (p : Puzzle) (n q : ℕ) (m : Node) → n ≤ option_count p → spacer_place p n ≡ q
    → slice_get (layout p) q ≡ Some m → IsAt p q m
spacer_at p n q m le at e = grind (arith, same_Some, spacer_here)

-- of a node up to the spacer behind option n
up_to : (p : Puzzle) (n q : ℕ) (m : Node) → n ≤ option_count p → item_count p < q → q ≤ spacer_place p n
    → slice_get (layout p) q ≡ Some m → IsAt p q m
up_to p zero q m le gt to e = spacer_at p 0 q m le (omega (arith, gt, to, place_first p)) e
up_to p (suc n) q m le gt to e = elim (cases_lt (spacer_place p n) q) [
  | inl low ↦ elim (cases_lt q (spacer_place p (suc n))) [
    | inl lt ↦
        let same : suc n - 1 ≡ n = omega arith in
        let b = node_between p (suc n) q (omega arith, le) (omega (arith, low, ap (spacer_place p) same)) lt in
        grind (arith, same_Some)
    | inr high ↦ spacer_at p (suc n) q m le (omega (arith, high, to)) e
  ]
  | inr low ↦ up_to p n q m (omega (arith, le)) gt low e
]

pub is_at : (p : Puzzle) (q : ℕ) (n : Node) → slice_get (layout p) q ≡ Some n → IsAt p q n
is_at p zero n e = subst (IsAt p 0) (same_Some unused n e) refl
is_at p (suc q) n e = grind (arith, up_to, layout_len, slice_get_within, head_is p (suc q), same_Some)

-- ---- its span

-- the nodes of these uses stand one behind another from place a on
row : (p : Puzzle) (o a n : ℕ) (us : List Use) → n ≡ length us → ((k : ℕ) (u : Use) → slice_get us k ≡ Some u
    → link_place p u.item o ≡ a + k) → range_with_len a n ≡ map (λ j. link_place p j o) (map (λ v. v.item) us)
row p o a n [] e at = let z : n ≡ 0 = omega (arith, e) in ap (range_with_len a) z
row p o a zero (u ∷ us) e at = absurd (omega (arith, e))
row p o a (suc n) (u ∷ us) e at =
    ap₂ (λ x xs. x ∷ xs) (sym (at 0 u refl ∙ (omega arith))) (row p o (a + 1) n us (omega (arith, e))
    (λ k v f. (let s : a + suc k ≡ a + 1 + k = omega arith in at (suc k) v f ∙ s)))

span_is : (p : Puzzle) (x i : ℕ) → IsFit p → 0 < x → is_some (colour_in (uses_of p x) i) ≡ true
    → IsSpanOf p x i (span_at (spans_of p) (link_place p i x))
span_is p x i fit pos e =
    let m = x - 1 in
    let us = uses_of p x in
    let n = place_in i us in
    let q = link_place p i x in
    let w = held_node p i x pos e in
    let h = w.held in
    let nodes = option_nodes p x w.known in
    let place = nodes.place i in
    let next : x ≡ m + 1 = omega (arith, pos) in
    let up : x ≡ suc m = omega (arith, pos) in
    let s = span_of p (used x h.use_of) in
    let is : span_at (spans_of p) q ≡ s =
    get_or_from_slice_get (spans_of p) q s _
    (slice_get-map (span_of p) (layout p) q ∙ ap (option_map (span_of p)) w.node) in
    let start : start_at p m - 1 ≡ spacer_place p m = omega arith in
    let before = row p x (start_at p m) (q - start_at p m) (take n us)
    (omega (arith, place, w.below, nodes.end, length-take n us))
    (λ k u f. use_at p x m k u fit next (get_taken n k us u f)) in
    let behind = row p x (q + 1) (spacer_place p x - (q + 1)) (drop (n + 1) us) in
    subst (IsSpanOf p x i) (sym is)
    (grind (arith, length-drop, use_at, get_dropped, spacer_here, lt-ltb))

pub has_spans : (p : Puzzle) → IsFit p → HasSpans p (spans_of p)
has_spans p fit = grind (arith, span_is, held_node, slice_get_within, length-map)

-- ======== The options with their numbers, and the places of the node table: what the walks need of them.

-- ---- the places of the node table

-- a member of an item's list has its node there
pub placed : (p : Puzzle) (j x : ℕ) → 0 < j → j ≤ item_count p → HoldsItem p j x → Placed p j x
placed p j zero pos le name = record { node = own j; at = head_is _ _ pos le; slot = refl }
placed p j (suc m) pos le name = grind (arith, held_node p j (suc m))

-- and stands at no other place
slot_at : {p : Puzzle} (q : ℕ) (n : Node) {j : ℕ} (x : ℕ) → IsFit p → IsAt p q n → slot_of n ≡ Some (j, x)
    → (link_place p j x ≡ q) × (0 < j) × (j ≤ item_count p)
slot_at q (own i) x fit s f = grind arith
slot_at {p} q (used o u) x fit s f = grind (arith, each_at, use_at)
slot_at q _ x fit s f = cc

-- the places of a fit problem
pub is_laid : (p : Puzzle) → IsFit p → IsLaid p
is_laid p fit = record {
  unique = λ q n j x e f. (slot_at _ _ _ fit (is_at _ _ _ e) f).0;
  there = placed p;
  head = head_is p;
  nodes = record {
    ranged = λ q n j x e f. (let r = slot_at _ _ _ fit (is_at _ _ _ e) f in (r.1, r.2));
    numbered = λ q o u e. let s = is_at p q (used o u) e in omega (arith, s.2);
    coloured = λ q o u e. let s = is_at p q _ e in (found_use _ _ _ (fit.distinct o) s.3).1;
  };
  small = fit.small;
}

-- ======== A problem that was read is fit for the walks and fits into the tables.

-- ---- a valid problem is fit for the walks

pub distinct_from : (us : List Use) → AllPairs (λ u v. u.item ≢ v.item) us → DifferByItem us
distinct_from [] h = tt
distinct_from (u ∷ us) h = (
  holds_use us u.item ∙ list_any_none (λ v. eqb v.item u.item) us
      (λ j d lt. ne_eqb _ _ (λ e. h 0 (suc j) d (omega arith) (omega (arith, lt)) (sym e))),
  distinct_from us (λ i j d a b. h (suc i) (suc j) d (omega (arith, a)) (omega (arith, b))),
)

abbrev IsBelow : Use → Type 0
IsBelow u = u.colour < MARK

-- the rules of a problem say nothing of the colours: they are to be below the mark
pub is_fit : (p : Puzzle) → IsValid p → All (λ us. All (λ u. u.colour < MARK) us) p.options → length p.options < 2 ^ 30
    → item_count p < 2 ^ 31 → length (layout p) < 2 ^ 31 → IsFit p
is_fit p valid colours few small near =
    let distinct = at_option (IsSoundOption p) DifferByItem p tt (λ us s. distinct_from us s.distinct) valid.options in
    let items = items_within p valid in
    let below = at_option (All IsBelow) (AllByRecursion IsBelow) p tt (recursion_from_All IsBelow) colours in
    assumption

-- ---- a problem that was read fits into the tables

pub known_fit : (colours : List (List ℕ)) (p : Puzzle) → IsValid p → IsWithinLimits p
    → All (λ us. All (λ u. u.colour ≤ length colours) us) p.options → length colours ≤ 10000000 → IsFit p
known_fit colours p valid limits known few = grind (arith, is_fit, layout_small)

pub fitted : {p : Puzzle} {spans : List Span} → IsWithinLimits p → IsFit p → spans ≡ spans_of p → IsFitted p spans
fitted {p} limits fit is = grind (arith, high_within, is_laid p fit, has_spans p fit)

-- ======== The nodes of an option's uses, and what the tables tell there: for calls that go over an option by its
-- nodes.

-- an item that stands among uses is held
pub held_of : (i : ℕ) (us : List Use) → place_in i us < length us → is_some (colour_in us i) ≡ true
held_of i [] h = absurd (omega (arith, h))
held_of i (u ∷ us) h = grind (arith, held_of i us)

-- ---- what the tables tell of it

-- what the tables tell at the node of use u of option o
pub record UseCells (p : Puzzle) (t : List Move) (u : Use) (q : ℕ) : Type 0 where
  pub within : q < length (layout p)
  pub top : get_or (nodes_after p t).top q 0 ≡ u.item

pub use_cells : (p : Puzzle) (t : List Move) (o : ℕ) (u : Use) (q : ℕ) → slice_get (layout p) q ≡ Some (used o u)
    → UseCells p t u q
use_cells p t o u q node = grind (arith, get_map, slice_get_within)

-- what they tell at the spacer behind option x
pub record SpacerCells (p : Puzzle) (t : List Move) (x q : ℕ) : Type 0 where
  pub within : q < length (layout p)
  pub top : get_or (nodes_after p t).top q 0 ≡ SPACER + x
  pub ulink : get_or (nodes_after p t).ulink q 0 ≡ start_at p (x - 1)

pub spacer_cells : (p : Puzzle) (t : List Move) (x q : ℕ) → IsOption p x → q ≡ spacer_place p x → SpacerCells p t x q
spacer_cells p t x q known at =
    let node = ap (slice_get (layout p)) at ∙ (option_nodes p x known).behind in
    let up = get_map (ulink_in p (line_of p t)) (layout p) q (spacer x) node in
    let s : x ≡ suc (x - 1) = omega (arith, known.0) in
    grind (arith, get_map, slice_get_within, rw s at up)

-- ---- uses that stand side by side

-- the uses vs of option x stand from place off on
abbrev pub Segment : Puzzle → ℕ → ℕ → List Use → Type 0
Segment p x off vs = (k : ℕ) (u : Use) → slice_get vs k ≡ Some u → slice_get (layout p) (off + k) ≡ Some (used x u)

pub behind_segment : {p : Puzzle} {i x q : ℕ} → IsUseAt p i x q → Segment p x (q + 1) (uses_behind p i x)
behind_segment {p} {i} {x} {q} held k u e =
    let n = place_in i (uses_of p x) + 1 in
    grind (arith, place_at_use held, option_nodes p x held.known, get_dropped n k (uses_of p x))

pub before_segment : {p : Puzzle} {i x q : ℕ} → IsUseAt p i x q → Segment p x (start_at p (x - 1)) (uses_before p i x)
before_segment {p} {i} {x} held k u e =
    (option_nodes p x held.known).node k u (get_taken (place_in i (uses_of p x)) k (uses_of p x) u e)

-- the uses behind it end at the spacer
pub behind_all : {p : Puzzle} {i x q : ℕ} → IsUseAt p i x q → q + 1 + length (uses_behind p i x) ≡ spacer_place p x
behind_all {p} {i} {x} held = grind (arith, length-drop, place_at_use held, option_nodes p x held.known)

-- and those before at it
pub before_all : {p : Puzzle} {i x q : ℕ} → IsUseAt p i x q → start_at p (x - 1) + length (uses_before p i x) ≡ q
before_all {p} {i} {x} held = grind (arith, length-take, place_at_use)

-- ======== Cover and Spend on the item table.

-- ---- columns over places in a row

pub row_len : (f : ℕ → ℕ) (n : ℕ) → length (map f (range_with_len 0 n)) ≡ n
row_len f n = length-map (range_with_len 0 n) f ∙ length-range_with_len 0 n

pub row_get : (f : ℕ → ℕ) (n q : ℕ) → q < n → get_or (map f (range_with_len 0 n)) q 0 ≡ f q
row_get f n q h = get_or-map-range_with_len f 0 n q q 0 h (omega arith)

row_at : (n q m : ℕ) → slice_get (range_with_len 0 n) q ≡ Some m → m ≡ q
row_at n q m e = grind (arith, length-range_with_len, range_get, same_Some, slice_get_within)

pub row_put : (f g : ℕ → ℕ) (n k v : ℕ) → ((q : ℕ) → q < n → q ≢ k → g q ≡ f q) → g k ≡ v
    → map g (range_with_len 0 n) ≡ set (map f (range_with_len 0 n)) k v
row_put f g n k v rest here = grind (arith, length-range_with_len, map_put, row_at, slice_get_within)

pub row_same : (f g : ℕ → ℕ) (n : ℕ) → ((q : ℕ) → q < n → g q ≡ f q)
    → map g (range_with_len 0 n) ≡ map f (range_with_len 0 n)
row_same f g n h = grind (arith, length-range_with_len, map_same, row_at, slice_get_within)

-- ---- rings

pub left_now : (p : Puzzle) (t : List Move) (q : ℕ) → is_covered q t ≡ false
    → left_neighbour p t q ≡ last_below (ring_head p q) q (ring_of p t q)
left_now p [] q e = refl
left_now p (m ∷ t) q e = ap (λ b. cond b (left_neighbour p t q) (last_below (ring_head p q) q (ring_of p (m ∷ t) q))) e

pub right_now : (p : Puzzle) (t : List Move) (q : ℕ) → is_covered q t ≡ false
    → right_of p t q ≡ first_above (ring_head p q) q (ring_of p t q)
right_now p [] q e = refl
right_now p (m ∷ t) q e = ap (λ b. cond b (right_of p t q) (first_above (ring_head p q) q (ring_of p (m ∷ t) q))) e

pub still_llink : (p : Puzzle) (t : List Move) (m : Move) (q : ℕ) → ((q : ℕ) → is_covered q (m ∷ t) ≡ is_covered q t)
    → llink_at p (m ∷ t) q ≡ llink_at p t q
still_llink p t m q s = grind (arith, left_now, filter_agree)

pub still_rlink : (p : Puzzle) (t : List Move) (m : Move) (q : ℕ) → ((q : ℕ) → is_covered q (m ∷ t) ≡ is_covered q t)
    → rlink_at p (m ∷ t) q ≡ rlink_at p t q
still_rlink p t m q s = grind (arith, right_now, filter_agree)

pub same_items : (s t : Items) → s.llink ≡ t.llink → s.rlink ≡ t.rlink → s.bound ≡ t.bound → s.slack ≡ t.slack → s ≡ t
same_items s t a b c d = grind arith

-- ---- Spend

pub bound_own : (p : Puzzle) (t : List Move) (i : ℕ) → 0 < i → bound_at p t i ≡ high_at p i - spends i t
bound_own p t i pos = rw (ne_eqb i 0 (λ e. omega (arith, e, pos))) refl

pub spends_own : (t : List Move) (i : ℕ) → spends i (Spend i ∷ t) ≡ 1 + spends i t
spends_own t i = rw (eq-eqb i i refl) refl

pub bound_other : (p : Puzzle) (t : List Move) (i q : ℕ) → q ≢ i → bound_at p (Spend i ∷ t) q ≡ bound_at p t q
bound_other p t i q ne = grind (arith, ne_eqb)
