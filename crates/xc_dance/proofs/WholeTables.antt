-- What whole tables hold: how the first ones come to be, and when two are the same.
use Rattle.std.proofs.Common.{◌≡◌, ℕ, zero, suc, ◌+◌, ◌<◌, ◌≤◌, List, [], ◌∷◌, ◌++◌, length, map, set, replicate, Some}
use Rattle.std.proofs.Common.{refl, ap, sym, ◌∙◌, arith, ◌-◌, lt-ltb, ne_eqb, ltb, le-ltb, ltb-true, ltb-false}
use Rattle.std.proofs.Common.{leb-true, cond, eqb, leb, fold, true, false, take, eqb-true, eq-eqb, inl, ◌⊎◌, Option}
use Rattle.std.proofs.Common.{None, le-leb, ◌^◌, ◌≢◌, ap₂, subst, Bool, reverse, IsTrue}
use Rattle.std.specs.Prelude.{slice_get, is_some, flat_map, slice_index, ℤ, pos, option_map, neg_ℤ}
use Rattle.std.specs.List.{range_with_len, AllByRecursion}
use Rattle.std.proofs.lemmas.Grind.{common_steps}
use Rattle.std.proofs.lemmas.Option.{same_Some, slice_get_within, slice_get-map}
use Rattle.std.proofs.lemmas.List.FromFn.{length-range_with_len, length-map-range_with_len}
use Rattle.std.proofs.lemmas.Bool.{leb-false, false≢true, eqb-false, lt-leb}
use Rattle.std.proofs.lemmas.List.{length-map, length-take-le, map-append, append-nil, append_assoc, take_all}
use Rattle.std.proofs.lemmas.List.{reverse-reverse}
use Rattle.std.proofs.lemmas.List.Sums.{fold-append}
use Rattle.std.proofs.Math.Bool.{or-true}
use Rattle.std.proofs.Math.Path.{fun_ext}
use Rattle.xc_input.specs.declared.problem.Use.{Use}
use Rattle.xc_input.specs.Problem.{Puzzle, item_count, option_count, primary_count, Numbered, holding, colour_in}
use Rattle.xc_input.specs.Problem.{IsWithinLimits, uses_of}
use Rattle.xc_text.proofs.ListLemmas.{each_weaker, take_more-get}
use Rattle.xc_dance.specs.inner.Tables.{filled, blanks, rows_of, laid_to, with_node, Laying, top_in, ulink_in, dlink_in}
use Rattle.xc_dance.specs.inner.Tables.{color_in, fixed_up, fixed_down, llink_at, rlink_at, linked_to, bound_to, Line}
use Rattle.xc_dance.specs.inner.Tables.{blank, entered, IsFit, DifferByItem, Placed, IsLaid, Nodes, nodes_from, line_of}
use Rattle.xc_dance.specs.inner.Tables.{up_of, down_of, nodes_after, slot_of, color_read, top_read, items_after, Items}
use Rattle.xc_dance.specs.inner.Tables.{Span, taken_nodes}
use Rattle.xc_moves.specs.inner.Uses.{HoldsItem}
use Rattle.xc_dance.specs.declared.links.row.Row.{Row}
use Rattle.xc_moves.specs.Places.{Node, unused, own, spacer, layout, spacer_place, first_above, used, nodes_of, is_in}
use Rattle.xc_moves.specs.Places.{link_place}
use Rattle.xc_dance.specs.Fields.{last_below, first_of, last_of, ring_of, field_of, top_of, color_of}
use Rattle.xc_dance.specs.declared.links.cells.marks.TheConstants.{SPACER}
use Rattle.xc_moves.specs.inner.Rising.{Rises}
use Rattle.xc_moves.specs.Moves.{listed_numbers, listed}
use Rattle.xc_moves.specs.declared.dance.Move.{Move}
use Rattle.xc_dance.specs.declared.links.field.Field.TheVariants.{Llink, Rlink, Bound, Slack, Top, Ulink, Dlink, Color}
use Rattle.xc_dance.specs.declared.links.field.Field.{Field}
use Rattle.xc_dance.specs.inner.Walks.{IsFitted}
use Rattle.xc_dance.specs.Same.{IsSame}
use Rattle.xc_moves.proofs.PlaceLemmas.{option_place, place_next, layout_small, spacer_here, place_first}
use Rattle.xc_dance.proofs.TableLemmas.{head_is, range_get, same_items, is_laid, get_taken, is_at}
use Rattle.xc_dance.proofs.LineLemmas.{last_below-more, last_of-more, stay_all, put_at-same, put_at-other, put_at}
use Rattle.xc_dance.proofs.LineLemmas.{IsLinkedFrom, with_line, stands, get_map, same_nodes, put_link, column_same}
use Rattle.xc_dance.proofs.LineLemmas.{get_link, set_link, set_top, get_len, map_same, link_same, numbers_few, by_first}
use Rattle.xc_moves.proofs.MoveLemmas.{options_numbered, rises_listed, length-listed}
use Rattle.xc_dance.proofs.OneList.{colour_small}

-- ======== The tables as they are laid: columns that are filled, the nodes, the items and their rings.

-- ---- columns that are filled from the first cell on; what isn't filled yet is 0

pub filled_none : {X : Type 0} (f : X → ℕ) (ns : List X) → replicate (length ns) 0 ≡ filled f ns 0
filled_none f [] = refl
filled_none f (n ∷ ns) = ap (λ l. 0 ∷ l) (filled_none f ns)

pub filled_all : {X : Type 0} (f : X → ℕ) (ns : List X) (k : ℕ) → length ns ≤ k → filled f ns k ≡ map f ns
filled_all f [] k le = refl
filled_all f (n ∷ ns) k le = grind (arith, filled_all f ns (k - 1))

pub length-filled : {X : Type 0} (f : X → ℕ) (ns : List X) (k : ℕ) → length (filled f ns k) ≡ length ns
length-filled f [] k = refl
length-filled f (n ∷ ns) k = grind (arith, length-filled f ns)

set_suc : {X : Type 0} (f : X → ℕ) (ns : List X) (k : ℕ) (n : X) → slice_get ns k ≡ Some n
    → set (filled f ns k) k (f n) ≡ filled f ns (suc k)
set_suc f [] k n e = cc
set_suc f (m ∷ ns) k n e = grind (arith, same_Some, set_suc f ns (k - 1) n)

-- one cell more
pub filled_more : {X : Type 0} (f : X → ℕ) (ns : List X) (k : ℕ) {n : X} {v : ℕ} → slice_get ns k ≡ Some n → v ≡ f n
    → set (filled f ns k) k v ≡ filled f ns (k + 1)
filled_more f ns k e is = grind (arith, set_suc)

-- ---- the node table as it is laid node by node

-- what stands in a node's cells where all lists are empty
abbrev pub row_of : Puzzle → Node → Row
row_of p n =
    record { top = top_in blanks n; ulink = ulink_in p blanks n; dlink = dlink_in p blanks n; color = color_in p [] n }

rows_more : (p : Puzzle) (ns : List Node) (n : Node)
    → (with_node (record { count = 0; nodes = rows_of p ns }) (row_of p n)).nodes ≡ rows_of p (ns ++ n ∷ [])
rows_more p ns n = grind (arith, map-append)

-- one node more
pub laid_more : (p : Puzzle) (k : ℕ) {n : Node} {r : Row} {old new : Laying} → new ≡ with_node old r → old ≡ laid_to p k
    → slice_get (layout p) k ≡ Some n → r ≡ row_of p n → new ≡ laid_to p (k + 1)
laid_more p k laid before e is = grind (arith, rows_more, take_more-get)

-- there is room for the next one
pub laid_room : (p : Puzzle) (k : ℕ) {n : Node} → slice_get (layout p) k ≡ Some n
    → length (laid_to p k).nodes.top < (laid_to p k).count
laid_room p k {n} e = grind (arith, length-map, length-take-le, slice_get_within)

-- ---- what a spacer leads to

pub up_next : (p : Puzzle) (o : ℕ) → spacer_place p o + 1 ≡ fixed_up p (spacer (o + 1))
up_next p o = let s : suc o ≡ o + 1 = omega arith in ap (λ n. fixed_up p (spacer n)) s

pub down_next : (p : Puzzle) (o : ℕ) (us : List Use) → o < option_count p → slice_get p.options o ≡ Some us
    → spacer_place p o + length us ≡ fixed_down p (spacer o)
down_next p o us lt e = grind (arith, lt-ltb, place_next)

-- of an option's nodes and the spacers round them
pub ruleset spacer_above = (option_place, up_next)

pub ruleset spacer_below = (option_place, down_next)

-- ---- the rows

-- the unused node and an item's own node
pub own_row : (p : Puzzle) (i : ℕ) → i ≤ item_count p → (n : Node) × (slice_get (layout p) i ≡ Some n)
    × (let r : Row = record { top = 0; ulink = i; dlink = i; color = 0 } in r ≡ row_of p n)
own_row p zero le = (unused, refl, refl)
own_row p (suc i) le = (own (suc i), head_is _ (suc i) (omega arith) le, refl)

pub spacer_row : (p : Puzzle) (o : ℕ) {above below : ℕ} → above ≡ fixed_up p (spacer o)
    → below ≡ fixed_down p (spacer o)
    → (let r : Row = record { top = SPACER + o; ulink = above; dlink = below; color = 0 } in r ≡ row_of p (spacer o))
spacer_row p o e f = grind arith

-- ---- the item table as it is filled place by place

abbrev zeros : ℕ → List ℕ
zeros n = replicate n 0

pub column_none : (f : ℕ → ℕ) (n : ℕ) → replicate n 0 ≡ filled f (range_with_len 0 n) 0
column_none f n = ap zeros (sym (length-range_with_len 0 n)) ∙ filled_none f (range_with_len 0 n)

pub column_len : (f : ℕ → ℕ) (n k : ℕ) → length (filled f (range_with_len 0 n) k) ≡ n
column_len f n k = length-filled f _ _ ∙ length-range_with_len 0 n

pub column_more : (f : ℕ → ℕ) (n k v : ℕ) → k < n → v ≡ f k
    → set (filled f (range_with_len 0 n) k) k v ≡ filled f (range_with_len 0 n) (k + 1)
column_more f n k v lt is = let z : 0 + k ≡ k = omega arith in filled_more f _ _ (range_get 0 _ _ lt ∙ ap Some z) is

pub rings_linked : (p : Puzzle) (k : ℕ) → item_count p + 2 ≤ k → linked_to p k ≡ bound_to p 1
rings_linked p k le = grind (arith, same_items, filled_all, length-range_with_len)

-- ---- the rings of items before any move: who stands beside whom

-- ---- neighbours in a row of numbers

below_range : (other i a n : ℕ) → i ≤ a + n → last_below other i (range_with_len a n) ≡ cond (ltb a i) (i - 1) other
below_range other i a zero le = grind (arith, le-ltb)
below_range other i a (suc n) le =
    let inner = below_range a i (a + 1) n in
    grind (arith, last_below-more, ltb-true, ltb-false, below_range other i (a + 1) n)

above_range : (other i a n : ℕ) → a ≤ i + 1
    → first_above other i (range_with_len a n) ≡ cond (ltb (i + 1) (a + n)) (i + 1) other
above_range other i a zero le = rw (le-ltb (i + 1) (a + 0) (omega (arith, le))) refl
above_range other i a (suc n) le = grind (arith, ltb-true, ltb-false, above_range other i (a + 1) n)

last_range : (other a n : ℕ) → last_of other (range_with_len a n) ≡ cond (eqb n 0) other (a + n - 1)
last_range other a zero = refl
last_range other a (suc n) = grind (arith, last_of-more, ne_eqb, last_range a (a + 1) n)

first_range : (other a n : ℕ) → first_of other (range_with_len a n) ≡ cond (eqb n 0) other a
first_range other a zero = refl
first_range other a (suc n) = rw (ne_eqb (suc n) 0 (λ z. omega (arith, z))) refl

-- ---- the rings

first_ring : (p : Puzzle) (i : ℕ) → ring_of p [] i ≡
    cond (leb i (primary_count p)) (range_with_len 1 (primary_count p))
    (range_with_len (primary_count p + 1) p.secondary)
first_ring p i = stay_all _

ruleset neighbours =
    (above_range, below_range, first_range, first_ring, last_range, leb-false, leb-true, ltb-false, ltb-true)

-- where the links of a place lead before any move
pub left_is : (p : Puzzle) (i : ℕ) → i ≤ item_count p + 1
    → llink_at p [] i ≡ cond (eqb i 0) (primary_count p) (cond (eqb i (primary_count p + 1)) (item_count p + 1) (i - 1))
left_is p i le = grind (arith, common_steps, neighbours)

pub right_is : (p : Puzzle) (i : ℕ) → i ≤ item_count p + 1 → rlink_at p [] i ≡
    cond (eqb i (primary_count p)) 0 (cond (eqb i (item_count p + 1)) (primary_count p + 1) (i + 1))
right_is p i le = grind (arith, common_steps, neighbours)

-- the columns of the item table, as they are filled
pub ruleset item_columns = (column_none, column_len, column_more, rings_linked, same_items)

-- ======== The nodes of uses enter the lists of their items one by one, until the table is that of no moves.

-- ---- a line to which members come one by one, each as the last

-- member o comes last
abbrev pub grown : Line → ℕ → Line
grown l o = record { len = l.len + 1; up = put_at (put_at l.up o (l.up 0)) 0 o; down = put_at l.down (l.up 0) o }

abbrev pub grown_all : List ℕ → Line
grown_all xs = fold grown blank xs

pub grown_more : (xs : List ℕ) (o : ℕ) → grown_all (xs ++ o ∷ []) ≡ grown (grown_all xs) o
grown_more xs o = fold-append grown blank xs (o ∷ [])

pub len_from : (l : Line) (xs : List ℕ) → (fold grown l xs).len ≡ l.len + length xs
len_from l [] = omega arith
len_from l (x ∷ xs) = let rest = len_from (grown l x) xs in omega (arith, rest)

pub grown_len : (xs : List ℕ) → (grown_all xs).len ≡ length xs
grown_len xs = let h = len_from blank xs in omega (arith, h)

pub last_from : (P : ℕ → Type 0) (l : Line) (xs : List ℕ) → P (l.up 0) → AllByRecursion P xs
    → P ((fold grown l xs).up 0)
last_from P l [] h a = h
last_from P l (x ∷ xs) h a = grind (arith, put_at-same, last_from P (grown l x) xs)

-- a list that rises to its last
pub last_high : (l : Line) (a : ℕ) (xs : List ℕ) → IsLinkedFrom l a xs → a ≤ l.up 0
last_high l a [] h = let e = h.1 in omega (arith, e)
last_high l a (x ∷ xs) h = let lt = h.0 in let rest = last_high l x xs h.3 in omega (arith, lt, rest)

pub last_low : (l : Line) (a o : ℕ) (xs ys : List ℕ) → IsLinkedFrom l a xs → Rises a (xs ++ o ∷ ys) → l.up 0 < o
last_low l a o [] ys h r = let e = h.1 in let lt = r.0 in omega (arith, e, lt)
last_low l a o (x ∷ xs) ys h r = last_low l x o xs ys h.3 r.1

pub linked_more : (l : Line) (a o : ℕ) (xs : List ℕ) → IsLinkedFrom l a xs → l.up 0 < o → l.down o ≡ 0
    → IsLinkedFrom (grown l o) a (xs ++ o ∷ [])
linked_more l a o [] h lt none = grind (arith, last_high, put_at-other, put_at-same)
linked_more l a o (x ∷ xs) h lt none =
    grind (arith, last_high, put_at-other, put_at-same, linked_more l x o xs h.3 lt none)

pub linked_from : (l : Line) (xs ys : List ℕ) → IsLinkedFrom l 0 xs → Rises 0 (xs ++ ys)
    → ((x : ℕ) → l.up 0 < x → l.down x ≡ 0) → IsLinkedFrom (fold grown l ys) 0 (xs ++ ys)
linked_from l xs [] h r none = rw append-nil h
linked_from l xs (y ∷ ys) h r none =
    let step = linked_more l 0 y xs h in
    let rest = linked_from (grown l y) (xs ++ y ∷ []) ys in
    grind (arith, append_assoc, last_low l 0 y xs ys h r, put_at-same, put_at-other)

-- ---- the options whose nodes of an item are among the first nodes

-- ---- the lists of all items

-- the options whose nodes of item j are among these
abbrev pub held : ℕ → List Node → List ℕ
held j [] = []
held j (used o u ∷ ns) = cond (eqb u.item j) (o ∷ held j ns) (held j ns)
held j (_ ∷ ns) = held j ns

abbrev pub lines_of : List Node → ℕ → Line
lines_of ns j = grown_all (held j ns)

pub length-held : (j : ℕ) (ns : List Node) → length (held j ns) ≤ length ns
length-held j [] = omega arith
length-held j (n ∷ ns) = grind (arith, length-held j ns)

pub lines_few : (j : ℕ) (ns : List Node) → (lines_of ns j).len ≤ length ns
lines_few j ns = let a = grown_len (held j ns) in let b = length-held j ns in omega (arith, a, b)

pub held-append : (j : ℕ) (ms ns : List Node) → held j (ms ++ ns) ≡ held j ms ++ held j ns
held-append j [] ns = grind arith
held-append j (m ∷ ms) ns = grind (arith, held-append j ms ns)

-- what one node more adds
pub held_more : (j k : ℕ) (ns : List Node) {n : Node} → slice_get ns k ≡ Some n
    → held j (take (k + 1) ns) ≡ held j (take k ns) ++ held j (n ∷ [])
held_more j k ns {n} e = ap (held j) (take_more-get ns k _ e) ∙ held-append j (take k ns) (n ∷ [])

-- a fact of each option by its node
pub held_each : (P : ℕ → Type 0) (j : ℕ) (ns : List Node)
    → ((k o : ℕ) (u : Use) → slice_get ns k ≡ Some (used o u) → u.item ≡ j → P o) → AllByRecursion P (held j ns)
held_each P j [] h = tt
held_each P j (used o u ∷ ns) h =
    let rest = held_each P j ns (λ k o u e f. h (suc k) o u e f) in grind (arith, eqb-true, h 0 o u refl)
held_each P j (_ ∷ ns) h = held_each P j ns (λ k o u e f. h (suc k) o u e f)

-- each use's option is in its item's list
pub held_in : (ns : List Node) (k o : ℕ) (u : Use) → slice_get ns k ≡ Some (used o u) → is_in o (held u.item ns) ≡ true
held_in [] k o u e = grind (arith, eq-eqb, or-true, same_Some)
held_in (n ∷ ns) zero o u e = grind (arith, eq-eqb, or-true, same_Some)
held_in (n ∷ ns) (suc k) o u e = grind (arith, eq-eqb, or-true, same_Some, held_in ns k o u e)

-- ---- before the first option, and behind the last

pub owns_hold_none : (j n : ℕ) (js : List ℕ) (ns : List Node) → n ≤ length js → held j (take n (map own js ++ ns)) ≡ []
owns_hold_none j zero js ns le = refl
owns_hold_none j (suc n) [] ns le = absurd (omega (arith, le))
owns_hold_none j (suc n) (i ∷ js) ns le = owns_hold_none j n js ns (omega (arith, le))

pub held_none : (p : Puzzle) (j : ℕ) → held j (take (item_count p + 1) (layout p)) ≡ []
held_none p j = grind (arith, common_steps, owns_hold_none, length-map-range_with_len, own)

pub absent_none : (j o : ℕ) (us : List Use) → is_some (colour_in us j) ≡ false → held j (map (used o) us) ≡ []
absent_none j o [] e = refl
absent_none j o (u ∷ us) e = grind (arith, false≢true, absent_none j o us)

-- an option that holds an item has one node of it
pub one_use : (j o : ℕ) (us : List Use) → DifferByItem us
    → held j (map (used o) us) ≡ cond (is_some (colour_in us j)) (o ∷ []) []
one_use j o [] d = grind (arith, absent_none, eqb-true)
one_use j o (u ∷ us) d = grind (arith, absent_none, eqb-true, one_use j o us d.1)

pub options_hold : (j : ℕ) (os : List Numbered) → AllByRecursion (λ (x : Numbered). DifferByItem x.uses) os
    → held j (flat_map nodes_of os) ≡ map (λ (o : Numbered). o.number) (holding j os)
options_hold j [] d = refl
options_hold j (x ∷ os) d = grind (arith, held-append, append-nil, one_use j x.number x.uses d.0, options_hold j os d.1)

pub owns_none : (j : ℕ) (js : List ℕ) (ns : List Node) → held j (map own js ++ ns) ≡ held j ns
owns_none j [] ns = refl
owns_none j (i ∷ js) ns = owns_none j js ns

-- in the end each item's list is that of all options
pub held_all : {p : Puzzle} (j : ℕ) → IsFit p → held j (layout p) ≡ listed_numbers p [] j
held_all {p} j fit = grind (arith, owns_none, options_hold, each_weaker, options_numbered)

-- ---- a use's node enters its item's list: so does its option the item's line

-- ---- tables of lines that are the same

pub nodes_same : (p : Puzzle) (ln lm : ℕ → Line) (col : Node → ℕ) → ((j : ℕ) → ln j ≡ lm j)
    → nodes_from p ln col ≡ nodes_from p lm col
nodes_same p ln lm col h = ap (λ (lines : ℕ → Line). nodes_from p lines col) (fun_ext h)

-- ---- one node enters

-- two writes to the links of one item
written_twice : (f : ℕ → ℕ → ℕ) (j : ℕ) (g : ℕ → ℕ) (o : ℕ) (k x : ℕ) →
    put_link (put_link f j g) j (put_at (put_link f j g j) 0 o) k x ≡ put_link f j (put_at g 0 o) k x
written_twice f j g o k x = grind (arith, eq-eqb)

entered-is : (p : Puzzle) (ln : ℕ → Line) (col : Node → ℕ) (q o : ℕ) (u : Use) → IsLaid p
    → slice_get (layout p) q ≡ Some (used o u) → Placed p u.item o → Placed p u.item 0
    → Placed p u.item ((ln u.item).up 0) → (0 < u.item) × (u.item ≤ item_count p) →
    entered (nodes_from p ln col) q ≡ nodes_from p (with_line ln u.item (grown (ln u.item) o)) col
entered-is p ln col q o u laid e here head last item =
    let j = u.item in
    let up : ℕ → ℕ → ℕ = λ k x. (ln k).up x in
    let v = up j 0 in
    let is_i = get_map (top_in ln) (layout p) q _ e in
    let first = get_link _ up (fixed_up p) _ _ head in
    let once = put_link up j (put_at (up j) o v) in
    let top = set_top _ ln _ (grown (ln j) o) laid item.0 item.1 in
    let up1 = set_link _ up (fixed_up p) _ _ v laid here in
    let up2 = set_link _ once (fixed_up p) _ _ o laid head in
    let up3 = column_same p (put_link up j (put_at (put_at (up j) o v) 0 o)) (put_link once j (put_at (once j) 0 o))
    (fixed_up p) (written_twice up j (put_at (up j) o v) o) in
    let down = set_link _ (λ k x. (ln k).down x) (fixed_down p) _ _ o laid last in
    grind (arith, same_nodes, laid.unique q (used o u) j o e refl, get_len _ ln _ laid item.0 item.1)

-- ---- the nodes so far

use_name : (p : Puzzle) (k o j : ℕ) (u : Use) → IsFit p → slice_get (layout p) k ≡ Some (used o u) → u.item ≡ j
    → HoldsItem p j o
use_name p k o j u fit e same = grind (arith, (is_laid _ fit).nodes)

-- an item's line once one node more is entered
line_then : (p : Puzzle) (q : ℕ) {o : ℕ} {u : Use} → slice_get (layout p) q ≡ Some (used o u) → (k : ℕ) →
    with_line (lines_of (take q (layout p))) u.item (grown (lines_of (take q (layout p)) u.item) o) k ≡ lines_of
    (take (q + 1) (layout p)) k
line_then p q {o} {u} e k =
    grind (arith, append-nil, eq-eqb, eqb-false, eqb-true, grown_more, ne_eqb, held_more k q (layout p) e)

-- what entering the node at q asks, and what it gives
pub record UseStep (p : Puzzle) (t : Nodes) (q o : ℕ) (u : Use) : Type 0 where
  pub is_item : slice_index t.top q ≡ u.item
  pub item_small : u.item ≤ 100000
  pub item : slice_index t.top q < length t.top
  pub last : slice_index t.ulink (slice_index t.top q) < length t.top
  pub few : slice_index t.top (slice_index t.top q) < SPACER
  pub done : entered t q ≡ nodes_from p (lines_of (take (q + 1) (layout p))) (color_in p [])

pub use_step : (p : Puzzle) (q o : ℕ) (u : Use) → IsFit p → IsWithinLimits p
    → slice_get (layout p) q ≡ Some (used o u) →
    UseStep p (nodes_from p (lines_of (take q (layout p))) (color_in p [])) q o u
use_step p q o u fit limits e =
    let j = u.item in
    let ns = take q (layout p) in
    let ln = lines_of ns in
    let laid = is_laid p fit in
    let range = laid.nodes.ranged q (used o u) j o e refl in
    let here = laid.there j o range.0 range.1 (use_name p q o j u fit e refl) in
    let head = laid.there j 0 range.0 range.1 (inl refl) in
    let name : HoldsItem p j ((ln j).up 0) =
    last_from (HoldsItem p j) blank _ (inl refl) (held_each (HoldsItem p j) j ns
    (λ k x v f same. use_name p k x j v fit (get_taken q k (layout p) (used x v) f) same)) in
    let last = laid.there j ((ln j).up 0) range.0 range.1 name in
    let is_i = get_map (top_in ln) (layout p) q (used o u) e in
    let first = get_link p (λ k x. (ln k).up x) (fixed_up p) j 0 head in
    let count = get_len p ln j laid range.0 range.1 in
    let within = slice_get_within (layout p) q (used o u) e in
    let long = length-map (layout p) (top_in ln) in
    let size = length-take-le q (layout p) (omega (arith, within)) in
    let own_in = slice_get_within (layout p) j (own j) (laid.head j range.0 range.1) in
    let last_in = slice_get_within (layout p) (link_place p j ((ln j).up 0)) last.node last.at in
    let done = entered-is p ln (color_in p []) q o u laid e here head last range ∙ nodes_same p
    (with_line ln j (grown (ln j) o)) (lines_of (take (q + 1) (layout p))) (color_in p []) (line_then p q e) in
    grind (arith, lines_few j ns, layout_small p limits, limits.items)

-- a spacer enters no list
pub spacer_step : (p : Puzzle) (q n : ℕ) → slice_get (layout p) q ≡ Some (spacer n) →
    nodes_from p (lines_of (take q (layout p))) (color_in p []) ≡ nodes_from p (lines_of (take (q + 1) (layout p)))
    (color_in p [])
spacer_step p q n e = nodes_same _ (lines_of (take q (layout p))) (lines_of (take (q + 1) (layout p))) (color_in p [])
    (λ k. ap grown_all (sym (held_more k q (layout p) e ∙ append-nil (held k (take q (layout p))))))

pub spacer_top : (p : Puzzle) (ln : ℕ → Line) (col : Node → ℕ) (q n : ℕ) → slice_get (layout p) q ≡ Some (spacer n)
    → slice_index (nodes_from p ln col).top q ≡ SPACER + n
spacer_top p ln col q n e = get_map (top_in ln) (layout p) q _ e

-- ---- once every node is entered, the table is that of no moves

-- lines along the same list lead the same way
alike : (l m : Line) (a : ℕ) (xs : List ℕ) → IsLinkedFrom l a xs → IsLinkedFrom m a xs → (x : ℕ)
    → ((x ≡ 0) ⊎ (is_in x xs ≡ true) → m.up x ≡ l.up x) × ((x ≡ a) ⊎ (is_in x xs ≡ true) → m.down x ≡ l.down x)
alike l m a [] h k x = grind (arith, false≢true)
alike l m a (y ∷ ys) h k x = grind (arith, eqb-true, alike l m y ys h.3 k.3 x)

-- before the first use's node, all lists are empty
abbrev whole : Puzzle → ℕ → Line
whole p j = grown_all (listed_numbers p [] j)

-- members stand in their lists
slot_in : {p : Puzzle} (q : ℕ) (n : Node) {j x : ℕ} → IsFit p → slice_get (layout p) q ≡ Some n
    → slot_of n ≡ Some (j, x) → (x ≡ 0) ⊎ (is_in x (listed_numbers p [] j) ≡ true)
slot_in q (own i) fit e s = grind arith
slot_in {p} q (used o u) fit e s = grind (arith, held_in (layout p) q o u e, held_all u.item fit)
slot_in q _ fit e s = cc

whole_is : (p : Puzzle) (j x : ℕ) → (x ≡ 0) ⊎ (is_in x (listed_numbers p [] j) ≡ true)
    → ((whole p j).up x ≡ up_of p [] j x) × ((whole p j).down x ≡ down_of p [] j x)
whole_is p j x h =
    let linked = linked_from blank [] (listed_numbers p [] j) (refl, refl) (rises_listed p [] j) (λ x h. refl) in
    grind (arith, alike (line_of p [] j) (whole p j) 0 (listed_numbers p [] j) (stands p [] j) linked x)

top_is : (p : Puzzle) (n : Node) → top_in (whole p) n ≡ top_in (line_of p []) n
top_is p n = grind (arith, grown_len, length-map)

pub all_entered : (p : Puzzle) (n : ℕ) → IsFit p → length (layout p) ≤ n
    → nodes_from p (lines_of (take n (layout p))) (color_in p []) ≡ nodes_after p []
all_entered p n fit le = nodes_same _ (lines_of (take n (layout p))) (whole p) (color_in p [])
    (λ j. ap (λ ns. lines_of ns j) (take_all n (layout p) le) ∙ ap grown_all (held_all j fit))
    ∙ same_nodes _ _ (map_same (top_in (line_of p [])) (top_in (whole p)) (layout p) (λ q m e. top_is p m))
    (map_same (ulink_in p (line_of p [])) (ulink_in p (whole p)) (layout p)
    (λ q m e. link_same _ _ _ _ _ (λ j x s. (whole_is p j x (slot_in q m fit e s)).0)))
    (map_same (dlink_in p (line_of p [])) (dlink_in p (whole p)) (layout p)
    (λ q m e. link_same _ _ _ _ _ (λ j x s. (whole_is p j x (slot_in q m fit e s)).1))) refl

-- ======== What a cell that is read is, and that different cells read differently.

-- ---- numbers that are read

abbrev pub natural : ℕ → ℤ
natural v = pos v

-- a row of numbers as it is read
abbrev pub read : List ℕ → ℕ → Option ℤ
read xs q = option_map natural (slice_get xs q)

read_small : (v : ℕ) → v < SPACER → top_read v ≡ pos v
read_small v h = rw (lt-leb SPACER v h) refl

pub read_same : (g : ℕ → ℤ) (x y : Option ℕ) → ((v w : ℕ) → x ≡ Some v → y ≡ Some w → g v ≡ g w → v ≡ w)
    → option_map g x ≡ option_map g y → x ≡ y
read_same g None None h e = refl
read_same g None (Some w) h e = cc
read_same g (Some v) None h e = cc
read_same g (Some v) (Some w) h e = ap Some (h v w refl refl (same_Some (g v) (g w) e))

-- ---- TOP, where 0 can be a length or the number of the first spacer, reads differently for different cells

-- other numbers than the first spacer's are read differently
top_same : (v w : ℕ) → v ≢ SPACER → w ≢ SPACER → top_read v ≡ top_read w → v ≡ w
top_same v w other_v other_w e = grind (arith, ltb-false, ltb-true, le-leb, read_small)

-- what the lemmas ask of each table
pub record IsSound (p : Puzzle) : Type 0 where
  pub laid : IsLaid p
  pub fit : IsFit p

-- the first spacer alone has that number
first_spacer : (p : Puzzle) (t : List Move) (q : ℕ) (n : Node) → IsSound p → slice_get (layout p) q ≡ Some n
    → top_in (line_of p t) n ≡ SPACER → q ≡ item_count p + 1
first_spacer p t q unused s e f = absurd (omega (arith, f))
first_spacer p t q (own i) s e f = grind (arith, length-listed)
first_spacer p t q (spacer n) s e f = grind (arith, is_at p q (spacer n) e, place_first p)
first_spacer p t q (used o u) s e f =
    absurd (omega (arith, f, (s.laid.nodes.ranged q (used o u) u.item o e refl).1, s.laid.small))

top_at_first : (p : Puzzle) (t : List Move) (k : ℕ) → k ≡ item_count p + 1
    → slice_get (nodes_after p t).top k ≡ Some SPACER
top_at_first p t k e = slice_get-map (top_in (line_of p t)) (layout p) k ∙ ap (option_map (top_in (line_of p t)))
    (ap (slice_get (layout p)) (e ∙ sym (place_first p)) ∙ spacer_here p 0 (omega arith))

node_at : (p : Puzzle) (f : Node → ℕ) (q v : ℕ) → slice_get (map f (layout p)) q ≡ Some v → (n : Node)
    × (slice_get (layout p) q ≡ Some n) × (f n ≡ v)
node_at p f q v e = grind (arith, same_Some, slice_get-map)

pub top_cells : (p q : Puzzle) (t s : List Move) (k : ℕ) → IsSound p → IsSound q → item_count p ≡ item_count q →
    option_map top_read (slice_get (nodes_after p t).top k) ≡ option_map top_read (slice_get (nodes_after q s).top k)
    → slice_get (nodes_after p t).top k ≡ slice_get (nodes_after q s).top k
top_cells p q t s k a b items e = by_first _ k (item_count p + 1)
    (λ is. top_at_first p t k is ∙ sym (top_at_first q s k (is ∙ ap (λ n. n + 1) items)))
    (λ other. read_same top_read _ _ (λ v w f g h. top_same v w (grind (arith, node_at, first_spacer))
    (grind (arith, node_at, first_spacer)) h) e)

-- ---- a cell that is read is the field

row_read : (f : ℕ → ℕ) (a n q : ℕ) → slice_get (map f (range_with_len a n)) q ≡ cond (ltb q n) (Some (f (a + q))) None
row_read f a zero q = grind (arith, le-ltb)
row_read f a (suc n) zero = grind (arith, lt-ltb)
row_read f a (suc n) (suc q) = grind (arith, le-ltb, lt-ltb, ltb-false, ltb-true, row_read f (a + 1) n q)

-- a column of the layout, by its nodes
column_read : {X : Type 0} (f : X → ℕ) (g : ℕ → ℤ) (h : X → ℤ) (xs : List X) (q : ℕ)
    → ((n : X) → slice_get xs q ≡ Some n → g (f n) ≡ h n)
    → option_map g (slice_get (map f xs) q) ≡ option_map h (slice_get xs q)
column_read f g h xs q same = grind (arith, slice_get-map)

spacer_read : (n : ℕ) → top_read (SPACER + n) ≡ neg_ℤ (pos n)
spacer_read n = let rest : SPACER + n - SPACER ≡ n = omega arith in grind (arith, le-leb)

module _ (p : Puzzle) (t : List Move) (q : ℕ) where
  pub llink_read : read (items_after p t).llink q ≡ field_of p t Llink q
  llink_read = grind (arith, eqb-false, eqb-true, le-ltb, leb-false, leb-true, lt-ltb, row_read)

  pub rlink_read : read (items_after p t).rlink q ≡ field_of p t Rlink q
  rlink_read = grind (arith, eqb-false, eqb-true, le-ltb, leb-false, leb-true, lt-ltb, row_read)

  pub bound_read : q ≢ 0 → read (items_after p t).bound q ≡ field_of p t Bound q
  bound_read ne = grind (arith, le-ltb, leb-false, leb-true, lt-ltb, ne_eqb, row_read)

  pub slack_read : q ≢ 0 → read (items_after p t).slack q ≡ field_of p t Slack q
  slack_read ne = grind (arith, le-ltb, leb-false, leb-true, lt-ltb, ne_eqb, row_read)

  pub top_cell : IsLaid p → IsFit p → item_count p < 2 ^ 31
      → option_map top_read (slice_get (nodes_after p t).top q) ≡ field_of p t Top q
  top_cell laid fit few = column_read (top_in (line_of p t)) top_read (top_of p t) (layout p) q by_node
    where
      by_node : (n : Node) → slice_get (layout p) q ≡ Some n → top_read (top_in (line_of p t) n) ≡ top_of p t n
      by_node unused e = refl
      by_node (own i) e = grind (arith, read_small, numbers_few, length-map (listed p t i) (λ o. o.number))
      by_node (spacer n) e = spacer_read n
      by_node (used o u) e = read_small u.item (omega (arith, (laid.nodes.ranged q (used o u) u.item o e refl).1, few))

  pub ulink_cell : IsLaid p → read (nodes_after p t).ulink q ≡ field_of p t Ulink q
  ulink_cell laid = column_read (ulink_in p (line_of p t)) _ _ (layout p) q (λ n e. grind arith)

  pub dlink_cell : IsLaid p → read (nodes_after p t).dlink q ≡ field_of p t Dlink q
  dlink_cell laid = column_read (dlink_in p (line_of p t)) _ _ (layout p) q (λ n e. grind arith)

  -- the items' own nodes are never read as marked
  pub color_own : IsLaid p → q ≤ item_count p → read (nodes_after p t).color q ≡ field_of p t Color q
  color_own laid le = grind (arith, eqb-false, eqb-true, column_read)

  pub color_use : IsLaid p → IsFit p → item_count p < q
      → option_map color_read (slice_get (nodes_after p t).color q) ≡ field_of p t Color q
  color_use laid fit gt = column_read (color_in p t) color_read (color_of p t) (layout p) q by_node
    where
      by_node : (n : Node) → slice_get (layout p) q ≡ Some n → color_read (color_in p t n) ≡ color_of p t n
      by_node (own i) e = let s = is_at p q (own i) e in absurd (omega (arith, s.1, s.2, gt))
      by_node (used o u) e =
          let small = colour_small (uses_of p o) u.item u.colour (fit.colours o) (laid.nodes.coloured q o u e) in
          grind (arith, ne_eqb)
      by_node _ e = refl

-- ======== Tables have the same columns exactly where they have the same fields; when two keepers are the same.

-- ---- tables have the same columns exactly where they have the same fields

-- a cell of the tables as it is read, with so many items
abbrev reading : ℕ → Items → Nodes → Field → ℕ → Option ℤ
reading many i n Llink k = read i.llink k
reading many i n Rlink k = read i.rlink k
reading many i n Bound k = cond (eqb k 0) None (read i.bound k)
reading many i n Slack k = cond (eqb k 0) None (read i.slack k)
reading many i n Top k = option_map top_read (slice_get n.top k)
reading many i n Ulink k = read n.ulink k
reading many i n Dlink k = read n.dlink k
reading many i n Color k = cond (leb k many) (read n.color k) (option_map color_read (slice_get n.color k))

reading_is : (p : Puzzle) (t : List Move) (f : Field) (k : ℕ) → IsSound p
    → reading (item_count p) (items_after p t) (nodes_after p t) f k ≡ field_of p t f k
reading_is p t Llink k s = llink_read p t k
reading_is p t Rlink k s = rlink_read p t k
reading_is p t Bound k s = by_first _ k 0 (λ e. rw e refl) (λ ne. rw (ne_eqb k 0 ne) (bound_read p t k ne))
reading_is p t Slack k s = by_first _ k 0 (λ e. rw e refl) (λ ne. rw (ne_eqb k 0 ne) (slack_read p t k ne))
reading_is p t Top k s = top_cell p t k s.laid s.fit s.laid.small
reading_is p t Ulink k s = ulink_cell p t k s.laid
reading_is p t Dlink k s = dlink_cell p t k s.laid
reading_is p t Color k s = grind (arith, color_use p t k s.laid s.fit, color_own p t k s.laid, lt-leb, le-leb)

-- lists with the same elements at the same places
same_list : (xs ys : List ℕ) → ((k : ℕ) → slice_get xs k ≡ slice_get ys k) → xs ≡ ys
same_list [] [] h = refl
same_list [] (y ∷ ys) h = let e : None ≡ Some y = h 0 in cc
same_list (x ∷ xs) [] h = let e : Some x ≡ None = h 0 in cc
same_list (x ∷ xs) (y ∷ ys) h = ap₂ (λ z zs. z ∷ zs) (same_Some x y (h 0)) (same_list xs ys (λ k. h (suc k)))

natural_same : (x y : Option ℕ) → option_map natural x ≡ option_map natural y → x ≡ y
natural_same x y e = read_same natural x y (λ v w f g h. cc) e

color_same : (x y : Option ℕ) → option_map color_read x ≡ option_map color_read y → x ≡ y
color_same x y e = read_same color_read x y (λ v w f g h. grind (arith, eqb-true)) e

row_first : (f : ℕ → ℕ) (n : ℕ) → slice_get (map f (range_with_len 0 (n + 1))) 0 ≡ Some (f 0)
row_first f n = let s : n + 1 ≡ suc n = omega arith in ap (λ m. slice_get (map f (range_with_len 0 m)) 0) s

-- tables with equal rows of links have as many items
items_many : (p q : Puzzle) (t s : List Move) → (items_after p t).llink ≡ (items_after q s).llink
    → item_count p ≡ item_count q
items_many p q t s e = grind (arith, length-map-range_with_len, ap length e)

pub tables_from : (p q : Puzzle) (t s : List Move) → IsSound p → IsSound q
    → ((f : Field) (k : ℕ) → field_of p t f k ≡ field_of q s f k)
    → (items_after p t ≡ items_after q s) × (nodes_after p t ≡ nodes_after q s)
tables_from p q t s a b h = (
  same_items _ _ llinks (row (alike Rlink)) (same_list _ _ bounds) (same_list _ _ slacks),
  same_nodes _ _ (same_list _ _ (λ k. top_cells p q t s k a b items (alike Top k))) (row (alike Ulink))
      (row (alike Dlink)) (same_list _ _ colors),
)
  where
    alike : (f : Field) (k : ℕ) → reading (item_count p) (items_after p t) (nodes_after p t) f k
        ≡ reading (item_count q) (items_after q s) (nodes_after q s) f k
    alike f k = reading_is p t f k a ∙ h f k ∙ sym (reading_is q s f k b)

    row : {xs ys : List ℕ} → ((k : ℕ) → read xs k ≡ read ys k) → xs ≡ ys
    row e = same_list _ _ (λ k. natural_same _ _ (e k))

    llinks : (items_after p t).llink ≡ (items_after q s).llink
    llinks = row (alike Llink)

    items : item_count p ≡ item_count q
    items = items_many p q t s llinks

    bounds : (k : ℕ) → slice_get (items_after p t).bound k ≡ slice_get (items_after q s).bound k
    bounds k = let e = alike Bound k in grind (arith, natural_same, row_first, eqb-true)

    slacks : (k : ℕ) → slice_get (items_after p t).slack k ≡ slice_get (items_after q s).slack k
    slacks k = let e = alike Slack k in grind (arith, natural_same, row_first, eqb-true)

    colors : (k : ℕ) → slice_get (nodes_after p t).color k ≡ slice_get (nodes_after q s).color k
    colors k = let e = alike Color k in grind (arith, natural_same, color_same, items)

-- ---- two keepers of tables

abbrev pub AreEqual : Items → Items → Nodes → Nodes → List Move → List Move → List ℕ → List ℕ → Type 0
AreEqual i j n m xs ys ms ns = (((i ≡ j) × (n ≡ m)) × (xs ≡ ys)) × (ms ≡ ns)

pub sound : (p : Puzzle) (spans : List Span) → IsFitted p spans → IsSound p
sound p spans f = record { laid = f.laid; fit = f.fit }

pub forwards : {X : Type 0} (xs ys : List X) → reverse xs ≡ reverse ys → xs ≡ ys
forwards xs ys e = sym (reverse-reverse xs) ∙ ap reverse e ∙ reverse-reverse ys

-- the tables and the trails of both are equal exactly where the fields are, the moves and the nodes taken off
pub is_same : (p q : Puzzle) (sp sq : List Span) (i j : Items) (n m : Nodes) (xs ys : List Move) (ms ns : List ℕ)
    → IsFitted p sp → IsFitted q sq → i ≡ items_after p (reverse xs) → j ≡ items_after q (reverse ys)
    → n ≡ nodes_after p (reverse xs) → m ≡ nodes_after q (reverse ys) → reverse ms ≡ taken_nodes p (reverse xs)
    → reverse ns ≡ taken_nodes q (reverse ys)
    → (AreEqual i j n m xs ys ms ns → IsSame p (reverse xs) q (reverse ys)) × (IsSame p (reverse xs) q (reverse ys) →
    AreEqual i j n m xs ys ms ns)
is_same p q sp sq i j n m xs ys ms ns a b is_i is_j is_n is_m is_ms is_ns =
    grind (arith, forwards, sound, tables_from, items_many, reading_is)

-- ---- tests in a row

abbrev pub Tells : Bool → Type 0 → Type 0
Tells b P = (IsTrue b → P) × (P → IsTrue b)

pub tells_none : (v a : Bool) (P Q : Type 0) → (IsTrue a → ⊥) → Tells a P → v ≡ a → Tells v (P × Q)
tells_none v a P Q fails x is = ((λ e. absurd (fails (subst IsTrue is e))), (λ h. absurd (fails (x.1 h.0))))

pub tells_other : (v : Bool) (P Q : Type 0) → Tells v P → (P → Q) × (Q → P) → Tells v Q
tells_other v P Q x y = ((λ e. y.0 (x.0 e)), (λ h. x.1 (y.1 h)))
