-- What the tables return to a search, by the moves on the trail alone. First a walk over an option's nodes: `IsAlong`
-- says which of its uses were committed, `Behind` and `Before` what stands at the next place, and `IsCommitting` keeps
-- this over the walk's steps (`one_more`, `whole`). Then one lemma or record for each answer: bounds, states, the ring
-- of open items, the option of a node (`Seeks`), and the links downwards by option numbers (`OwnNode`, `use_down`).
use Rattle.std.proofs.Common.{drop-cons, ℕ, ◌≡◌, ◌+◌, ◌-◌, ◌<◌, ◌≤◌, List, length, drop, get_or, Some, refl, sym, arith}
use Rattle.std.proofs.Common.{subst, length-drop, ◌∙◌, zero, suc, Bool, true, not, cond, eqb, [], ◌∷◌, filter, ap₂}
use Rattle.std.proofs.Common.{eqb-true, ne_eqb, le-leb, ◌≢◌, ◌⊎◌, inl, inr, ap}
use Rattle.std.specs.Prelude.{slice_get, is_some, unwrap_or, Contains}
use Rattle.std.proofs.lemmas.Option.{slice_get-get_or, slice_get_within}
use Rattle.std.proofs.lemmas.List.{nil_from_length, length-map}
use Rattle.std.proofs.lemmas.Grind.{common_steps}
use Rattle.std.specs.List.{range_with_len}
use Rattle.std.proofs.lemmas.Bool.{cases_lt}
use Rattle.xc_input.specs.declared.problem.Use.{Use}
use Rattle.xc_input.specs.Problem.{Puzzle, primary_count, item_count, high_at, IsItem, uses_of, colour_in}
use Rattle.xc_moves.specs.declared.dance.Move.{Move}
use Rattle.xc_dance.specs.inner.Tables.{Nodes, nodes_after, IsLaid, uses_behind, uses_before, top_in, color_in, line_of}
use Rattle.xc_dance.specs.inner.Tables.{items_after, rlink_at, IsNodeOf}
use Rattle.xc_moves.specs.inner.Uses.{start_at, HoldsItem, named}
use Rattle.xc_dance.specs.Linked.{Linked, dancing_of}
use Rattle.xc_moves.specs.Places.{used, layout, spacer_place, own, first_above, is_in, link_place}
use Rattle.xc_dance.specs.Fields.{ring_of, below_of}
use Rattle.xc_moves.specs.Commits.{CanStand, IsUseAt, after_use, after_uses, IsListedAt}
use Rattle.xc_dance.specs.declared.links.cells.marks.TheConstants.{SPACER}
use Rattle.xc_dance.specs.Cost.{HasWritten}
use Rattle.xc_moves.specs.declared.dance.Move.TheVariants.{Purify, Spend, Cover}
use Rattle.xc_moves.specs.Moves.{purified, spends, AreLegal, listed, open_items, listed_numbers, IsOpenPrimary, is_open}
use Rattle.xc_moves.proofs.LeftLemmas.{stood_before, open_or_covered, open_uncovered}
use Rattle.xc_dance.proofs.TableLemmas.{Segment, use_cells, spacer_cells, behind_all, before_all, behind_segment}
use Rattle.xc_dance.proofs.TableLemmas.{before_segment, row_get, row_len, right_now, node_between, held_of}
use Rattle.xc_moves.proofs.PlaceLemmas.{held_node}
use Rattle.xc_moves.proofs.MoveLemmas.{primary_pure, Rises-filter, Rises-range, rises_listed}
use Rattle.xc_dance.proofs.LineLemmas.{get_map, get_down, first_above-first}
use Rattle.xc_dance.proofs.OneList.{open_unmarked}
use Rattle.xc_moves.proofs.PlaceAnswers.{contained, in_list_name}

-- ======== Along an option's nodes: which uses were committed where a walk over them stands, and what it finds
-- there.

abbrev no_use : Use
no_use = record { item = 0; colour = 0 }

-- the use whose node stands at place q, of those that stand from off on
abbrev pub use_at_place : ℕ → List Use → ℕ → Use
use_at_place off vs q = get_or vs (q - off) no_use

abbrev pub top_at : Puzzle → List Move → ℕ → ℕ
top_at p t q = get_or (nodes_after p t).top q 0

-- Of the uses vs, which stand from place off on, those before place q were committed: from the moves s to the moves t.
pub record IsAlong (p : Puzzle) (off : ℕ) (vs : List Use) (s t : List Move) (q : ℕ) : Type 0 where
  pub from : off ≤ q
  pub to : q ≤ off + length vs
  pub trail : after_uses p (drop (q - off) vs) t ≡ after_uses p vs s

pub along_first : (p : Puzzle) (off q : ℕ) (vs : List Use) (t : List Move) → q ≡ off → IsAlong p off vs t t q
along_first p off q vs t e = grind arith

along_next : {p : Puzzle} {off q : ℕ} {vs : List Use} {s t : List Move} → IsAlong p off vs s t q → q < off + length vs →
    IsAlong p off vs s (after_use p (use_at_place off vs q) t) (q + 1)
along_next {p} {off} {q} {vs} {t} a h = grind (arith, common_steps, drop-cons)

-- behind the last one all were
along_end : {p : Puzzle} {off q : ℕ} {vs : List Use} {s t : List Move} → IsAlong p off vs s t q →
    q ≡ off + length vs → t ≡ after_uses p vs s
along_end {off} {q} {vs} a e = grind (arith, length-drop, nil_from_length (drop (q - off) vs))

-- the node at place q is of the next use, u
pub record IsNext (p : Puzzle) (x off : ℕ) (vs : List Use) (s t : List Move) (q : ℕ) : Type 0 where
  pub u : Use
  pub node : slice_get (layout p) q ≡ Some (used x u)
  pub within : q < length (layout p)
  pub item : u.item ≡ top_at p t q
  pub on : IsAlong p off vs s (after_use p u t) (q + 1)
  pub stands : (room : ℕ) → CanStand p room (after_uses p vs s) → CanStand p room (after_use p u t)

next_at : {p : Puzzle} {x off q : ℕ} {vs : List Use} {s t : List Move} → Segment p x off vs →
    IsAlong p off vs s t q → q < off + length vs → IsNext p x off vs s t q
next_at {p} {x} {off} {q} {vs} {s} {t} seg a h =
    let v = use_at_place off vs q in
    let node : slice_get (layout p) q ≡ Some (used x v) =
    grind (arith, seg (q - off) v, slice_get-get_or vs (q - off) no_use) in
    let on = along_next a h in
    let can = λ (room : ℕ) (c : CanStand p room (after_uses p vs s)). stood_before _ _ (drop (q + 1 - off) vs) _
    (subst (CanStand p room) (sym on.trail) c) in
    grind (arith, use_cells p t x v q node)

-- ---- Behind the node by which option x uses item i, from the place behind it up to the spacer

-- what a walk over the uses behind finds at place q, t being the moves there
pub record Behind (p : Puzzle) (i x place : ℕ) (s t : List Move) (q : ℕ) : Type 0 where
  pub within : q < length (layout p)
  -- a node: of the next use
  pub node : top_at p t q < SPACER → IsNext p x (place + 1) (uses_behind p i x) s t q
  -- the spacer: all were committed
  pub end : SPACER ≤ top_at p t q → (t ≡ after_uses p (uses_behind p i x) s) × (q ≡ spacer_place p x)

pub behind_at : {p : Puzzle} {i x place q : ℕ} {s t : List Move} → IsLaid p → IsUseAt p i x place →
    IsAlong p (place + 1) (uses_behind p i x) s t q → Behind p i x place s t q
behind_at {p} {i} {x} {place} {q} {s} {t} laid held a =
    let next = next_at (behind_segment held) a in
    let ranged = λ (u : Use) (e : slice_get (layout p) q ≡ Some (used x u)).
    laid.nodes.ranged q (used x u) u.item x e refl in
    let small = laid.small in
    grind (arith, along_end a, behind_all held, spacer_cells p t x q held.known)

-- ---- Before it, from the option's first node up

-- what a walk over the uses before finds at place q
pub record Before (p : Puzzle) (i x place : ℕ) (s t : List Move) (q : ℕ) : Type 0 where
  pub node : q < place → IsNext p x (start_at p (x - 1)) (uses_before p i x) s t q
  pub end : place ≤ q → t ≡ after_uses p (uses_before p i x) s

pub before_at : {p : Puzzle} {i x place q : ℕ} {s t : List Move} → IsUseAt p i x place →
    IsAlong p (start_at p (x - 1)) (uses_before p i x) s t q → Before p i x place s t q
before_at held a = grind (arith, next_at (before_segment held) a, along_end a, before_all held)

-- ULINK of the spacer leads to where that walk begins
pub record Leads (p : Puzzle) (x place end : ℕ) (t : List Move) : Type 0 where
  pub within : end < length (layout p)
  pub behind : place < end
  pub first : get_or (nodes_after p t).ulink end 0 ≡ start_at p (x - 1)

pub leads : {p : Puzzle} {i x place end : ℕ} (t : List Move) → IsUseAt p i x place →
    end ≡ spacer_place p x → Leads p x place end t
leads {p} {x} {end} t held e = grind (arith, spacer_cells p t x end held.known e, behind_all held)

-- ---- A step of the walk: the next use is committed

-- the tables of linked tables in state s, of problem p
pub nodes_told : {n : Nodes} {a s : Linked} {p : Puzzle} → n ≡ nodes_after a.puzzle a.trail → a ≡ s → s.puzzle ≡ p →
    n ≡ nodes_after p s.trail
nodes_told {s} e is same = grind arith

-- what is asked for a commit of the use of item j at place q
abbrev pub MayCommit : Puzzle → ℕ → List Move → ℕ → ℕ → Type 0
MayCommit p room t q j = (o : ℕ) × ((u : Use) × (slice_get (layout p) q ≡ Some (used o u)) × (u.item ≡ j)
    × CanStand p room (after_use p u t))

-- what a commit there is to make of it
abbrev pub Commits : Linked → ℕ → ℕ → Linked → Type 0
Commits now q j new =
    (o : ℕ) (u : Use) → slice_get (layout now.puzzle) q ≡ Some (used o u) → u.item ≡ j →
    dancing_of new ≡ record (dancing_of now) { trail = after_use now.puzzle u now.trail }

-- at the end
pub whole : (p : Puzzle) (room undone : ℕ) (now : Linked) {t : List Move} → now.puzzle ≡ p → now.room ≡ room →
    now.undone ≡ undone → now.trail ≡ t →
    dancing_of now ≡ record { puzzle = p; trail = t; room = room; undone = undone }
whole p room undone now e r u h = grind arith

-- ======== Commits of the uses on one side of an option's node: where a walk over their nodes stands, and its next
-- step.

-- Of an option x that Held tells of, the uses vs x stand from place off x on: those before place q were committed, so
-- state s became now.
pub record IsCommitting (Held : ℕ → Type 0) (off : ℕ → ℕ) (vs : ℕ → List Use) (s now : Linked) (q : ℕ) : Type 0 where
  pub puzzle : now.puzzle ≡ s.puzzle
  pub room : now.room ≡ s.room
  pub undone : now.undone ≡ s.undone
  pub capacity : now.capacity ≡ s.capacity
  pub written : HasWritten s now
  pub along : (x : ℕ) → Held x → IsAlong s.puzzle (off x) (vs x) s.trail now.trail q

-- the node at place q is of the next use, of item j
module _ {Held : ℕ → Type 0} {off : ℕ → ℕ} {vs : ℕ → List Use} {s now : Linked} {q j : ℕ} where
  pub may : IsCommitting Held off vs s now q → {x : ℕ} → IsNext s.puzzle x (off x) (vs x) s.trail now.trail q
      → j ≡ top_at s.puzzle now.trail q → CanStand s.puzzle s.room (after_uses s.puzzle (vs x) s.trail)
      → MayCommit now.puzzle now.room now.trail q j
  may a {x} next is can = subst (λ p. MayCommit p now.room now.trail q j) (sym a.puzzle)
      (subst (λ r. MayCommit s.puzzle r now.trail q j) (sym a.room)
      (x, (next.u, next.node, next.item ∙ sym is, next.stands _ can)))

  pub one_more : (new : Linked) → IsCommitting Held off vs s now q → {x : ℕ} → Held x
      → ((y : ℕ) → Held y → IsNext s.puzzle y (off y) (vs y) s.trail now.trail q) → j ≡ top_at s.puzzle now.trail q
      → Commits now q j new → HasWritten now new → new.capacity ≡ now.capacity → IsCommitting Held off vs s new (q + 1)
  one_more new a {x} held next is made written kept = grind (arith, off, slice_get)

-- ======== What the tables answer: the node by which an option uses an item, the option of a node, and the links
-- downwards.

-- ---- bounds

pub spent_within : (p : Puzzle) (t : List Move) (i : ℕ) → AreLegal p t → spends i t ≤ high_at p i
spent_within p [] i legal = grind (arith, eqb-true)
spent_within p (Spend j ∷ t) i legal = grind (arith, eqb-true, spent_within p t i legal.1)
spent_within p (_ ∷ t) i legal = grind (arith, eqb-true, spent_within p t i legal.1)

-- ---- states

purified_above : (p : Puzzle) (t : List Move) (i c : ℕ) → AreLegal p t → purified i t ≡ Some c → 0 < c
purified_above p [] i c legal e = cc
purified_above p (Purify j d ∷ t) i c legal e = grind (arith, purified_above p t i c legal.1)
purified_above p (_ ∷ t) i c legal e = purified_above p t i c legal.1 e

pub purified_read : (p : Puzzle) (t : List Move) (i : ℕ) → AreLegal p t
    → not (eqb (unwrap_or (purified i t) 0) 0) ≡ is_some (purified i t)
purified_read p t i legal = grind (arith, ne_eqb, purified_above)

-- ---- open primary items

same_filter : (f g : ℕ → Bool) (a n : ℕ) → ((k : ℕ) → k < a + n → f k ≡ g k)
    → filter f (range_with_len a n) ≡ filter g (range_with_len a n)
same_filter f g a zero h = refl
same_filter f g a (suc n) h =
    ap₂ (λ b l. cond b (a ∷ l) l) (h a (omega arith)) (same_filter f g (a + 1) n (λ k lt. h k (omega (arith, lt))))

-- the first ring's items are the open primary ones
pub ring_open : (p : Puzzle) (t : List Move) (i : ℕ) → AreLegal p t → i ≤ primary_count p
    → ring_of p t i ≡ open_items p t
ring_open p t i legal le = grind (arith, le-leb, open_or_covered, primary_pure, same_filter)

-- ---- the node of an option

-- one of an option's nodes, on the way from the first one to that of item i
pub record OnTheWay (p : Puzzle) (t : List Move) (i o q : ℕ) : Type 0 where
  pub within : q < length (layout p)
  pub found : get_or (nodes_after p t).top q 0 ≡ i → q ≡ link_place p i o
  pub next : get_or (nodes_after p t).top q 0 ≢ i → q + 1 ≤ link_place p i o

pub on_the_way : (p : Puzzle) (t : List Move) (i o q : ℕ) → IsLaid p → 0 < o
    → is_some (colour_in (uses_of p o) i) ≡ true → start_at p (o - 1) ≤ q → q ≤ link_place p i o → OnTheWay p t i o q
on_the_way p t i o q laid pos held from to =
    let w = held_node p i o pos held in
    let b = node_between p o q w.known from (omega (arith, to, w.below)) in
    let cells = use_cells p t o b.0 q b.2 in
    record {
      within = cells.within;
      found = λ e. sym (grind arith);
      next = grind (arith, cells.top);
    }

-- ---- which option a node is of

-- a place from a node of option o on is a node's before the spacer behind the option, or that spacer's
abbrev ToSpacer : Puzzle → List Move → ℕ → ℕ → Type 0
ToSpacer p t o q = (q < length (layout p)) × (((get_or (nodes_after p t).top q 0 < SPACER) × (q < spacer_place p o))
    ⊎ (get_or (nodes_after p t).top q 0 ≡ SPACER + o))

to_spacer : (p : Puzzle) (t : List Move) (i o q : ℕ) → IsLaid p → 0 < o
    → is_some (colour_in (uses_of p o) i) ≡ true → link_place p i o ≤ q → q ≤ spacer_place p o → ToSpacer p t o q
to_spacer p t i o q laid pos held from to =
    let w = held_node p i o pos held in
    elim (cases_lt q (spacer_place p o)) [
      | inl lt ↦
          let b = node_between p o q w.known (omega (arith, from, w.from)) lt in
          let cells = use_cells p t o b.0 q b.2 in
          let most = (laid.nodes.ranged q (used o b.0) b.0.item o b.2 refl).1 in
          (cells.within, inl (omega (arith, cells.top, most, laid.small), lt))
      | inr ge ↦
          let at : q ≡ spacer_place p o = omega (arith, ge, to) in
          let cells = spacer_cells p t o q w.known at in (cells.within, inr cells.top)
    ]

-- a node that isn't the item's own is of an option
name_used : (p : Puzzle) (i place x : ℕ) → HoldsItem p i x → place ≡ link_place p i x → place ≢ i → (0 < x)
    × (is_some (colour_in (uses_of p x) i) ≡ true)
name_used p i place x (inl z) at other = absurd (other (at ∙ ap (link_place p i) z))
name_used p i place x (inr h) at other = h

-- what TOP tells at q, which is not past the spacer behind the node at the place
pub record Seeks (p : Puzzle) (i place : ℕ) (top : List ℕ) (q : ℕ) : Type 0 where
  pub within : q < length (layout p)
  pub low : get_or top q 0 < SPACER → (x : ℕ) → HoldsItem p i x → place ≡ link_place p i x → q + 1 ≤ spacer_place p x
  pub high : SPACER ≤ get_or top q 0 → (x : ℕ) → HoldsItem p i x → place ≡ link_place p i x
      → Some (get_or top q 0 - SPACER) ≡ named x

pub seeks : (p : Puzzle) (t : List Move) (i place q : ℕ) → IsLaid p → IsNodeOf p i place → place ≢ i
    → place ≤ q → ((x : ℕ) → HoldsItem p i x → place ≡ link_place p i x → q ≤ spacer_place p x) →
    Seeks p i place (nodes_after p t).top q
seeks p t i place q laid node other from to =
    let tells : (x : ℕ) → HoldsItem p i x → place ≡ link_place p i x → ToSpacer p t x q = λ x name at.
    let is = name_used p i place x name at other in
    to_spacer p t i x q laid is.0 is.1 (omega (arith, from, at)) (to x name at) in
    grind (arith, name_used, ne_eqb)

-- ---- links downwards, by option numbers

pub own_down : (p : Puzzle) (t : List Move) (i : ℕ) → IsLaid p → 0 < i → i ≤ item_count p
    → get_or (nodes_after p t).dlink i 0 ≡ link_place p i (first_above 0 0 (listed_numbers p t i))
own_down p t i laid pos le = get_down p (line_of p t) i 0 (laid.there i 0 pos le (inl refl))
    ∙ ap (link_place p i) (sym (first_above-first 0 0 0 (listed_numbers p t i) (omega arith) (rises_listed p t i)))

-- what the tables say at item i's own node
pub record OwnNode (p : Puzzle) (t : List Move) (i : ℕ) (n : Nodes) : Type 0 where
  pub top_within : i < length n.top
  pub color_within : i < length n.color
  pub dlink_within : i < length n.dlink
  pub top : get_or n.top i 0 ≡ length (listed p t i)
  pub color : get_or n.color i 0 ≡ unwrap_or (purified i t) 0
  pub down : get_or n.dlink i 0 ≡ link_place p i (first_above 0 0 (listed_numbers p t i))

pub own_node : {p : Puzzle} {t : List Move} {i : ℕ} {n : Nodes} {v : Linked} {m u k l : ℕ} → n ≡ nodes_after p t
    → IsLaid p → record { puzzle = p; trail = t; room = m; undone = u; written = k; capacity = l } ≡ v
    → IsItem v.puzzle i → OwnNode p t i n
own_node {p} {t} {i} is laid seen item =
    let here : IsItem p i = subst (λ (w : Linked). IsItem w.puzzle i) (sym seen) item in
    let at = laid.head i here.0 here.1 in
    let within = slice_get_within (layout p) i (own i) at in
    let top = get_map (top_in (line_of p t)) (layout p) i (own i) at in
    let color = get_map (color_in p t) (layout p) i (own i) at in grind (arith, length-map, own_down)

below_now : (p : Puzzle) (t : List Move) (i o : ℕ) → is_in o (listed_numbers p t i) ≡ true
    → below_of p t i o ≡ first_above 0 o (listed_numbers p t i)
below_now p [] i o e = refl
below_now p (m ∷ t) i o e = ap (λ b. cond b (first_above 0 o (listed_numbers p (m ∷ t) i)) (below_of p t i o)) e

pub use_down : (p : Puzzle) (t : List Move) (i o : ℕ) → IsLaid p → 0 < i → i ≤ item_count p → 0 < o
    → is_some (colour_in (uses_of p o) i) ≡ true → is_in o (listed_numbers p t i) ≡ true →
    get_or (nodes_after p t).dlink (link_place p i o) 0 ≡ link_place p i (first_above 0 o (listed_numbers p t i))
use_down p t i zero laid pos le some held e = absurd (omega (arith, some))
use_down p t i (suc m) laid pos le some held e =
    get_down p (line_of p t) i (suc m) (laid.there i (suc m) pos le (inr (some, held)))
    ∙ ap (link_place p i) (below_now p t i (suc m) e)

pub node_within : (p : Puzzle) (i o : ℕ) → IsLaid p → 0 < i → i ≤ item_count p → HoldsItem p i o
    → link_place p i o < length (layout p)
node_within p i o laid pos le name = grind (arith, slice_get_within)

-- ---- the ring of primary items

pub open_right : (p : Puzzle) (t : List Move) (i : ℕ) → AreLegal p t → (i ≡ 0) ⊎ IsOpenPrimary p t i
    → get_or (items_after p t).rlink i 0 ≡ first_above 0 i (open_items p t)
open_right p t i legal (inl z) =
    grind (arith, common_steps, Rises-filter, Rises-range, first_above-first, le-leb, ring_open, row_get)
open_right p t i legal (inr h) = grind (arith, common_steps, ne_eqb, open_uncovered, right_now, ring_open, row_get)

pub open_place : (p : Puzzle) (t : List Move) (i : ℕ) → (i ≡ 0) ⊎ IsOpenPrimary p t i
    → i < length (items_after p t).rlink
open_place p t i (inl z) = let long = row_len (rlink_at p t) (item_count p + 2) in omega (arith, long, z)
open_place p t i (inr h) = grind (arith, row_len)

-- ======== Which node is which use, and what stands below a node.

listed_name : (p : Puzzle) (t : List Move) (i : ℕ) {x : ℕ} → (x ≡ 0) ⊎ Contains (listed_numbers p t i) x
    → HoldsItem p i x
listed_name p t i (inl z) = inl z
listed_name p t i (inr h) = inr (in_list_name p t _ _ (contained _ _ h))

pub listed_within : {p : Puzzle} {t : List Move} {i x q : ℕ} → IsLaid p → IsItem p i → IsListedAt p t i x q →
    q < length (nodes_after p t).dlink
listed_within {p} {t} {i} {x} laid item at =
    grind (arith, length-map, node_within p i x laid item.0 item.1 (listed_name p t i at.listed))

down_at : {p : Puzzle} (t : List Move) (i : ℕ) {x : ℕ} → IsLaid p → IsItem p i
    → (x ≡ 0) ⊎ Contains (listed_numbers p t i) x
    → get_or (nodes_after p t).dlink (link_place p i x) 0 ≡ link_place p i (first_above 0 x (listed_numbers p t i))
down_at {p} t i laid item h = grind (arith, own_down, first_above, contained, in_list_name, use_down)

-- DLINK of a node in an item's list leads to the next one there
pub listed_down : {p : Puzzle} {t : List Move} {i x q : ℕ} → IsLaid p → IsItem p i → IsListedAt p t i x q →
    get_or (nodes_after p t).dlink q 0 ≡ link_place p i (first_above 0 x (listed_numbers p t i))
listed_down {p} {t} laid item at = ap (λ k. get_or (nodes_after p t).dlink k 0) at.at ∙ down_at t _ laid item at.listed

pub use_name : {p : Puzzle} {i x q : ℕ} → IsUseAt p i x q → HoldsItem p i x
use_name u = inr (u.known.0, held_of _ _ u.holds)

-- ---- the use of a secondary item

-- COLOR of a node of an open item, which isn't marked, is its use's colour
pub open_colour : (p : Puzzle) (t : List Move) (q : ℕ) {o : ℕ} {u : Use} → slice_get (layout p) q ≡ Some (used o u) →
    is_open u.item t ≡ true → get_or (nodes_after p t).color q 0 ≡ u.colour
open_colour p t q {o} {u} at e = grind (arith, get_map, open_unmarked)

pub use_item : {p : Puzzle} (q : ℕ) {o j : ℕ} {u : Use} → IsLaid p → slice_get (layout p) q ≡ Some (used o u) →
    u.item ≡ j → IsItem p j
use_item {p} q {o} {u} laid at item = subst (λ i. IsItem p i) item (laid.nodes.ranged q (used o u) u.item o at refl)

pub colour_within : (p : Puzzle) (t : List Move) (q : ℕ) {o : ℕ} {u : Use} → slice_get (layout p) q ≡ Some (used o u) →
    q < length (nodes_after p t).color
colour_within p t q at = grind (arith, length-map, slice_get_within)

pub committed_open : (p : Puzzle) (t : List Move) (q : ℕ) {o j k : ℕ} {u : Use} →
    slice_get (layout p) q ≡ Some (used o u) → u.item ≡ j → primary_count p < j → is_open j t ≡ true →
    k ≡ get_or (nodes_after p t).color q 0 → cond (eqb k 0) (Cover j) (Purify j k) ∷ t ≡ after_use p u t
committed_open p t q {u} at item high still read = grind (arith, open_colour, le-leb)

-- the moves of such a use, of which a Cover may be still to be made
pub still_covers : (j k : ℕ) (t : List Move) {new : List Move} {r : Bool} → r ≡ eqb k 0
    → new ≡ cond (eqb k 0) t (Purify j k ∷ t) → cond (eqb k 0) (Cover j) (Purify j k) ∷ t ≡ cond r (Cover j ∷ new) new
still_covers j k t {new} {r} e f = grind arith
