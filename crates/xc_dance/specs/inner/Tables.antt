-- What helps to prove `Links`: the two tables column by column, as they are first and after moves, and where nodes are.
-- No public contract rests on this file.
use Rattle.std.specs.Prelude.{ℕ, ◌+◌, List, map, sum_by, zero, suc, ◌-◌, nat_lt, length, Option, Some, None, unwrap_or}
use Rattle.std.specs.Prelude.{if◌then◌else◌, ◌==◌, nat_le, ◌<◌, ◌≤◌, ◌^◌, ◌≡◌, false, [], ◌∷◌, is_some, slice_get, ◌++◌}
use Rattle.std.specs.Prelude.{take, slice_index, slice_set, Bool, not, ⊤, drop, ℤ, pos, negsuc}
use Rattle.std.specs.List.{range_with_len, AllByRecursion}
use Rattle.xc_input.specs.Problem.{Puzzle, option_count, primary_count, item_count, low_at, high_at, colour_in, uses_of}
use Rattle.xc_input.specs.declared.problem.Use.{Use}
use Rattle.xc_input.specs.UsePlaces.{place_in}
use Rattle.xc_dance.specs.declared.links.cells.cell.Cell.{Cell}
use Rattle.xc_dance.specs.declared.links.cells.Link.{Link}
use Rattle.xc_moves.specs.declared.dance.Move.{Move}
use Rattle.xc_moves.specs.Moves.{listed, purified, listed_numbers, spends}
use Rattle.xc_moves.specs.Places.{Node, unused, own, spacer, used, layout, spacer_place, link_place}
use Rattle.xc_dance.specs.Fields.{above, below_of, is_marked, first_of, last_of, ring_of, left_neighbour, right_of}
use Rattle.xc_dance.specs.declared.links.cells.marks.TheConstants.{MARK, SPACER}
use Rattle.xc_dance.specs.declared.links.row.Row.{Row}
use Rattle.xc_moves.specs.declared.dance.Move.TheVariants.{Cover, Purify, Tweak, Spend}
use Rattle.xc_dance.specs.declared.links.cells.borrows.Cells.{Cells}
use Rattle.xc_dance.specs.declared.links.cells.borrows.CellsMut.{CellsMut}
use Rattle.xc_dance.specs.declared.links.cells.borrows.LinksMut.{LinksMut}
use Rattle.xc_moves.specs.inner.Uses.{HoldsItem, start_at}
pub use Rattle.xc_dance.specs.Fields.{taken_nodes}

-- ======== Where the nodes of an option are.

-- from first to below end
pub record Span : Type 0 where
  pub first : ℕ
  pub end : ℕ

-- ======== The two tables as contracts see them: column by column, however their cells lie in memory, and how often
-- these were written.

-- the four columns of the node table, a number for each place
pub record Nodes : Type 0 where
  -- TOP of a use's node and of a spacer, LEN of an item's own
  pub top : List ℕ
  pub ulink : List ℕ
  pub dlink : List ℕ
  pub color : List ℕ

-- the four columns of the item table
pub record Items : Type 0 where
  pub llink : List ℕ
  pub rlink : List ℕ
  pub bound : List ℕ
  pub slack : List ℕ

-- what the cells hold
abbrev pub values : List Cell → List ℕ
values cells = map (λ c. c.value) cells

-- where the links lead upwards
abbrev pub ups : List Link → List ℕ
ups links = map (λ l. l.up.value) links

-- where they lead downwards
abbrev pub downs : List Link → List ℕ
downs links = map (λ l. l.down.value) links

-- how often the cells were written
abbrev pub writes : List Cell → ℕ
writes cells = sum_by (λ c. c.written.count) cells

-- how often the links were written
abbrev pub link_writes : List Link → ℕ
link_writes links = sum_by (λ l. l.up.written.count + l.down.written.count) links

-- the columns that lie in these cells
abbrev pub columns : List Cell → List Link → List Cell → Nodes
columns top links color = record { top = values top; ulink = ups links; dlink = downs links; color = values color }

-- how often these cells were written
abbrev pub column_writes : List Cell → List Link → List Cell → ℕ
column_writes top links color = writes top + link_writes links + writes color

-- the node table: its columns, and how often its cells were written
pub record NodeTable : Type 0 where
  pub cells : Nodes
  pub written : ℕ

-- the item table: its columns, and how often its cells were written
pub record ItemTable : Type 0 where
  pub cells : Items
  pub written : ℕ

-- the columns of nodes that are laid one after another, and how many there are to be
pub record Laying : Type 0 where
  pub count : ℕ
  pub nodes : Nodes

-- ======== One item's list: how many are in it, and what each member has above and below it, 0 being the item's own
-- node.

-- an item's list by its links
pub record Line : Type 0 where
  pub len : ℕ
  pub up : ℕ → ℕ
  pub down : ℕ → ℕ

-- ======== The node table by the lines of all items.

-- the item and the member that a node stands for, 0 being the item's own node
abbrev pub slot_of : Node → Option (ℕ × ℕ)
slot_of unused = None
slot_of (own i) = Some (i, 0)
slot_of (spacer n) = None
slot_of (used o u) = Some (u.item, o)

-- where a link of this slot leads; a fixed number where there is none
abbrev pub link_at : Puzzle → (ℕ → ℕ → ℕ) → ℕ → Option (ℕ × ℕ) → ℕ
link_at p f fixed None = fixed
link_at p f fixed (Some s) = link_place p s.0 (f s.0 s.1)

-- where ULINK of a spacer leads, always
abbrev pub fixed_up : Puzzle → Node → ℕ
fixed_up p (spacer (suc n)) = spacer_place p n + 1
fixed_up p (spacer zero) = 0
fixed_up p unused = 0
fixed_up p (own i) = 0
fixed_up p (used o u) = 0

-- where DLINK of a spacer leads, always
abbrev pub fixed_down : Puzzle → Node → ℕ
fixed_down p (spacer n) = if nat_lt n (option_count p) then spacer_place p (n + 1) - 1 else 0
fixed_down p unused = 0
fixed_down p (own i) = 0
fixed_down p (used o u) = 0

-- the number in the TOP cell of a node, a spacer's lying after all others
abbrev pub top_in : (ℕ → Line) → Node → ℕ
top_in ln unused = 0
top_in ln (own i) = (ln i).len
top_in ln (spacer n) = SPACER + n
top_in ln (used o u) = u.item

-- the number in the COLOR cell of a node, a mark being the greatest
abbrev pub color_in : Puzzle → List Move → Node → ℕ
color_in p t unused = 0
color_in p t (own i) = unwrap_or (purified i t) 0
color_in p t (spacer n) = 0
color_in p t (used o u) = if is_marked p t u.item o u.colour then MARK else u.colour

-- the number in the ULINK cell of a node, by the lines
abbrev pub ulink_in : Puzzle → (ℕ → Line) → Node → ℕ
ulink_in p ln n = link_at p (λ j x. (ln j).up x) (fixed_up p n) (slot_of n)

-- the number in the DLINK cell of a node, by the lines
abbrev pub dlink_in : Puzzle → (ℕ → Line) → Node → ℕ
dlink_in p ln n = link_at p (λ j x. (ln j).down x) (fixed_down p n) (slot_of n)

-- the node table with these lines and colours
abbrev pub nodes_from : Puzzle → (ℕ → Line) → (Node → ℕ) → Nodes
nodes_from p ln col = record {
  top = map (top_in ln) (layout p);
  ulink = map (ulink_in p ln) (layout p);
  dlink = map (dlink_in p ln) (layout p);
  color = map col (layout p);
}

-- what is above member o of item j's list, and last of it for 0
abbrev pub up_of : Puzzle → List Move → ℕ → ℕ → ℕ
up_of p t j zero = last_of 0 (listed_numbers p t j)
up_of p t j (suc o) = above p t j (suc o)

-- what is below member o of item j's list, and first of it for 0
abbrev pub down_of : Puzzle → List Move → ℕ → ℕ → ℕ
down_of p t j zero = first_of 0 (listed_numbers p t j)
down_of p t j (suc o) = below_of p t j (suc o)

-- item j's line after moves
abbrev pub line_of : Puzzle → List Move → ℕ → Line
line_of p t j = record { len = length (listed p t j); up = up_of p t j; down = down_of p t j }

-- the node table after moves
abbrev pub nodes_after : Puzzle → List Move → Nodes
nodes_after p t = nodes_from p (line_of p t) (color_in p t)

-- ======== The item table after moves.

-- the number in the LLINK cell at a place, heads included
abbrev pub llink_at : Puzzle → List Move → ℕ → ℕ
llink_at p t q =
    if q == 0 then last_of 0 (ring_of p t 0)
    else (if nat_le q (item_count p) then left_neighbour p t q else last_of (item_count p + 1)
    (ring_of p t (primary_count p + 1)))

-- the number in the RLINK cell at a place, heads included
abbrev pub rlink_at : Puzzle → List Move → ℕ → ℕ
rlink_at p t q =
    if q == 0 then first_of 0 (ring_of p t 0)
    else (if nat_le q (item_count p) then right_of p t q else first_of (item_count p + 1)
    (ring_of p t (primary_count p + 1)))

-- the number in the BOUND cell at a place
abbrev pub bound_at : Puzzle → List Move → ℕ → ℕ
bound_at p t q = if q == 0 then 0 else high_at p q - spends q t

-- the number in the SLACK cell at a place
abbrev pub slack_at : Puzzle → ℕ → ℕ
slack_at p q = if q == 0 then 0 else high_at p q - low_at p q

-- the item table after moves
abbrev pub items_after : Puzzle → List Move → Items
items_after p t = record {
  llink = map (llink_at p t) (range_with_len 0 (item_count p + 2));
  rlink = map (rlink_at p t) (range_with_len 0 (item_count p + 2));
  bound = map (bound_at p t) (range_with_len 0 (primary_count p + 1));
  slack = map (slack_at p) (range_with_len 0 (primary_count p + 1));
}

-- ======== What the walks need of the places of the node table.

-- member x of item j's list has a node in the table
pub record Placed (p : Puzzle) (j x : ℕ) : Type 0 where
  pub node : Node
  pub at : slice_get (layout p) (link_place p j x) ≡ Some node
  pub slot : slot_of node ≡ Some (j, x)

-- the nodes of the table are of items and of options
pub record HasSoundNodes (p : Puzzle) : Type 0 where
  -- a slot is of an item
  pub ranged : (k : ℕ) (n : Node) (j x : ℕ) → slice_get (layout p) k ≡ Some n → slot_of n ≡ Some (j, x) → (0 < j)
      × (j ≤ item_count p)
  -- options are numbered from 1
  pub numbered : (k o : ℕ) (u : Use) → slice_get (layout p) k ≡ Some (used o u) → 0 < o
  -- a node has its use's colour
  pub coloured : (k o : ℕ) (u : Use) → slice_get (layout p) k ≡ Some (used o u)
      → colour_in (uses_of p o) u.item ≡ Some u.colour

-- each slot is where its links say, and nothing else is there
pub record IsLaid (p : Puzzle) : Type 0 where
  -- a slot is at one place
  pub unique : (k : ℕ) (n : Node) (j x : ℕ) → slice_get (layout p) k ≡ Some n → slot_of n ≡ Some (j, x)
      → link_place p j x ≡ k
  -- and each that there is is there
  pub there : (j x : ℕ) → 0 < j → j ≤ item_count p → HoldsItem p j x → Placed p j x
  pub head : (j : ℕ) → 0 < j → j ≤ item_count p → slice_get (layout p) j ≡ Some (own j)
  pub nodes : HasSoundNodes p
  -- items' numbers are below those of spacers
  pub small : item_count p < 2 ^ 31

-- no two of the uses are of one item
abbrev pub DifferByItem : List Use → Type 0
DifferByItem [] = Unit {0}
DifferByItem (u ∷ us) = (is_some (colour_in us u.item) ≡ false) × DifferByItem us

-- what the walks need of the options
pub record IsFit (p : Puzzle) : Type 0 where
  pub distinct : (o : ℕ) → DifferByItem (uses_of p o)
  pub items : (o : ℕ) → AllByRecursion (λ u. (0 < u.item) × (u.item ≤ item_count p)) (uses_of p o)
  pub colours : (o : ℕ) → AllByRecursion (λ u. u.colour < MARK) (uses_of p o)
  pub few : length p.options < 2 ^ 30
  pub small : item_count p < 2 ^ 31
  pub near : length (layout p) < 2 ^ 31

-- ======== The node table before any move, filled in two turns: first every node by itself, with empty lists, and
-- then node by node into the lists.

-- the first k cells hold what their nodes have there, the others 0
abbrev pub filled : {X : Type 0} → (X → ℕ) → List X → ℕ → List ℕ
filled f [] k = []
filled f (n ∷ ns) zero = 0 ∷ filled f ns zero
filled f (n ∷ ns) (suc k) = f n ∷ filled f ns k

-- an empty list, to whose item's own node every link leads
abbrev pub blank : Line
blank = record { len = 0; up = λ x. 0; down = λ x. 0 }

-- every line is blank
abbrev pub blanks : ℕ → Line
blanks j = blank

-- the table of nodes that are laid, by these
abbrev pub rows_of : Puzzle → List Node → Nodes
rows_of p ns = record {
  top = map (top_in blanks) ns;
  ulink = map (ulink_in p blanks) ns;
  dlink = map (dlink_in p blanks) ns;
  color = map (color_in p []) ns;
}

-- none of so many nodes
abbrev pub no_rows : ℕ → Laying
no_rows n = record { count = n; nodes = record { top = []; ulink = []; dlink = []; color = [] } }

-- the first k nodes
abbrev pub laid_to : Puzzle → ℕ → Laying
laid_to p k = record { count = length (layout p); nodes = rows_of p (take k (layout p)) }

-- one node more, with these cells
abbrev pub with_node : Laying → Row → Laying
with_node t r = record t {
  nodes = record {
    top = t.nodes.top ++ r.top ∷ [];
    ulink = t.nodes.ulink ++ r.ulink ∷ [];
    dlink = t.nodes.dlink ++ r.dlink ∷ [];
    color = t.nodes.color ++ r.color ∷ [];
  };
}

-- node q, which leads to its item's own node downwards, is the last of its item's list
abbrev pub entered : Nodes → ℕ → Nodes
entered t q =
    let i = slice_index t.top q in let u = slice_index t.ulink i in
    record {
      top = slice_set t.top i (slice_index t.top i + 1);
      ulink = slice_set (slice_set t.ulink q u) i q;
      dlink = slice_set t.dlink u q;
      color = t.color;
    }

-- ======== The item table before any move, as it is filled.

-- the first k places have their links, and no place its bounds
abbrev pub linked_to : Puzzle → ℕ → Items
linked_to p k = record {
  llink = filled (llink_at p []) (range_with_len 0 (item_count p + 2)) k;
  rlink = filled (rlink_at p []) (range_with_len 0 (item_count p + 2)) k;
  bound = filled (bound_at p []) (range_with_len 0 (primary_count p + 1)) 0;
  slack = filled (slack_at p) (range_with_len 0 (primary_count p + 1)) 0;
}

-- all places have their links, and the first k their bounds
abbrev pub bound_to : Puzzle → ℕ → Items
bound_to p k = record {
  llink = map (llink_at p []) (range_with_len 0 (item_count p + 2));
  rlink = map (rlink_at p []) (range_with_len 0 (item_count p + 2));
  bound = filled (bound_at p []) (range_with_len 0 (primary_count p + 1)) k;
  slack = filled (slack_at p) (range_with_len 0 (primary_count p + 1)) k;
}

-- ======== One step on the rings of items.

-- item i leaves its ring
abbrev pub left_ring : Items → ℕ → Items
left_ring t i =
    let l = slice_index t.llink i in let r = slice_index t.rlink i in
    record { llink = slice_set t.llink r l; rlink = slice_set t.rlink l r; bound = t.bound; slack = t.slack }

-- item i goes back into its ring
abbrev pub back_in_ring : Items → ℕ → Items
back_in_ring t i =
    let l = slice_index t.llink i in let r = slice_index t.rlink i in
    record { llink = slice_set t.llink r i; rlink = slice_set t.rlink l i; bound = t.bound; slack = t.slack }

-- item i has this bound
abbrev pub with_bound : Items → ℕ → ℕ → Items
with_bound t i b = record { llink = t.llink; rlink = t.rlink; bound = slice_set t.bound i b; slack = t.slack }

-- item i isn't in its ring: its left neighbour leads past it
abbrev pub is_off : Items → ℕ → Bool
is_off t i = not (slice_index t.rlink (slice_index t.llink i) == i)

-- ======== The nodes that Tweaks took off, as their list is kept.

-- ---- the list in which they are kept, the newest last

-- the node that the move takes off can be read before it
abbrev pub CanNote : Nodes → Move → Type 0
CanNote t (Tweak i) = i < length t.dlink
CanNote t (Cover i) = ⊤
CanNote t (Purify i c) = ⊤
CanNote t (Spend i) = ⊤

-- before the move
abbrev pub noted : List ℕ → Nodes → Move → List ℕ
noted xs t (Tweak i) = xs ++ slice_index t.dlink i ∷ []
noted xs t (Cover i) = xs
noted xs t (Purify i c) = xs
noted xs t (Spend i) = xs

-- the list has the node that the move took off
abbrev pub CanRecall : List ℕ → Move → Type 0
CanRecall xs (Tweak i) = 0 < length xs
CanRecall xs (Cover i) = ⊤
CanRecall xs (Purify i c) = ⊤
CanRecall xs (Spend i) = ⊤

-- before its undoing
abbrev pub IsRecalled : List ℕ → List ℕ → Move → ℕ → Type 0
IsRecalled old new (Tweak i) x = old ≡ new ++ x ∷ []
IsRecalled old new (Cover i) x = new ≡ old
IsRecalled old new (Purify i c) x = new ≡ old
IsRecalled old new (Spend i) x = new ≡ old

-- ======== Cells that a walk borrows.

-- what is borrowed is borrowed still, cell for cell
abbrev pub IsRow : CellsMut → CellsMut → Type 0
IsRow s n = (n.cells.ghost_name ≡ s.cells.ghost_name) × (length n.cells.now ≡ length s.cells.now)

-- and so the links
abbrev pub IsLinkRow : LinksMut → LinksMut → Type 0
IsLinkRow s n = (n.links.ghost_name ≡ s.links.ghost_name) × (length n.links.now ≡ length s.links.now)

-- the borrowed columns, COLOR to be read alone
abbrev pub lent : CellsMut → LinksMut → Cells → Nodes
lent top links color = columns top.cells.now links.links.now color.cells.now

-- how often their cells were written
abbrev pub lent_writes : CellsMut → LinksMut → Cells → ℕ
lent_writes top links color = column_writes top.cells.now links.links.now color.cells.now

-- the borrowed columns, all of them to be written
abbrev pub lent_all : CellsMut → LinksMut → CellsMut → Nodes
lent_all top links color = columns top.cells.now links.links.now color.cells.now

-- how often their cells were written
abbrev pub all_writes : CellsMut → LinksMut → CellsMut → ℕ
all_writes top links color = column_writes top.cells.now links.links.now color.cells.now

-- ======== Where the options start in the node table.

-- where the nodes of the options start
abbrev pub starts_of : Puzzle → List ℕ
starts_of p = map (start_at p) (range_with_len 0 (option_count p))

-- ======== Where the option of each node is in the node table.

-- an empty one, which starts after every place
abbrev pub no_span : Span
no_span = record { first = 2147483647; end = 0 }

-- from after one spacer to the next, for a use
abbrev pub span_of : Puzzle → Node → Span
span_of p unused = no_span
span_of p (own i) = no_span
span_of p (spacer n) = no_span
span_of p (used o u) = record { first = spacer_place p (o - 1) + 1; end = spacer_place p o }

-- for each place the span of its node's option
abbrev pub spans_of : Puzzle → List Span
spans_of p = map (span_of p) (layout p)

-- ======== The uses of an option round one of them.

-- the uses of option x after that of item i
abbrev pub uses_behind : Puzzle → ℕ → ℕ → List Use
uses_behind p i x = drop (place_in i (uses_of p x) + 1) (uses_of p x)

-- and those before it
abbrev pub uses_before : Puzzle → ℕ → ℕ → List Use
uses_before p i x = take (place_in i (uses_of p x)) (uses_of p x)

-- ======== Where the nodes of an item are.

-- a node of item i is there
pub record IsNodeOf (p : Puzzle) (i place : ℕ) : Type 0 where
  pub number : ℕ
  pub name : HoldsItem p i number
  pub at : place ≡ link_place p i number

-- ======== How cells are read as signed numbers.

-- 0 less a number
abbrev pub minus : ℕ → ℤ
minus zero = pos 0
minus (suc n) = negsuc n

-- a colour cell as a number
abbrev pub color_read : ℕ → ℤ
color_read v = if v == MARK then negsuc 0 else pos v

-- a TOP cell as a number
abbrev pub top_read : ℕ → ℤ
top_read v = if nat_le SPACER v then minus (v - SPACER) else pos v
