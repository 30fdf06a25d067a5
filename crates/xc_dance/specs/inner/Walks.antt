-- What helps to prove `Links`: walks over nodes, and each move on the tables.
-- No public contract rests on this file.
use Rattle.std.specs.Prelude.{ℕ, ◌+◌, ◌<◌, ◌≡◌, List, [], ◌∷◌, length, slice_index, ◌-◌, ◌≤◌, ◌≢◌, ◌==◌, ◌++◌}
use Rattle.std.specs.Prelude.{slice_set, if◌then◌else◌, fold, ◌^◌, reverse, Bool, false, Option, Some, None, true, map}
use Rattle.std.specs.Prelude.{is_some, slice_get}
use Rattle.std.proofs.Common.{zero, suc, get_or}
use Rattle.std.specs.List.{range_with_len, AllByRecursion}
use Rattle.xc_input.specs.Problem.{Puzzle, colour_in, uses_of, high_at}
use Rattle.xc_dance.specs.inner.Tables.{Nodes, Span, fixed_up, fixed_down, Items, left_ring, back_in_ring, with_bound}
use Rattle.xc_dance.specs.inner.Tables.{is_off, IsLaid, IsFit}
use Rattle.xc_dance.specs.declared.links.cells.marks.TheConstants.{MARK, SPACER}
use Rattle.xc_moves.specs.Places.{spacer, layout, link_place}
use Rattle.xc_moves.specs.declared.dance.Move.{Move}
use Rattle.xc_moves.specs.declared.dance.Move.TheVariants.{Cover, Purify, Tweak, Spend}
use Rattle.xc_moves.specs.inner.Uses.{before_use, behind_use}

-- ======== Walks over nodes, whatever a step does and writes.

-- what steps at these nodes write, one after another
abbrev pub costs : (Nodes → ℕ → Nodes) → (Nodes → ℕ → ℕ) → Nodes → List ℕ → ℕ
costs step writes t [] = 0
costs step writes t (q ∷ qs) = writes t q + costs step writes (step t q) qs

-- the steps may be made, each at what the one before left
abbrev pub CanAll : (Nodes → ℕ → Nodes) → (Nodes → ℕ → Type 0) → Nodes → List ℕ → Type 0
CanAll step Can t [] = Unit {0}
CanAll step Can t (q ∷ qs) = Can t q × CanAll step Can (step t q) qs

-- they may be made from node p on, and each node is where the link of the one before then leads
abbrev pub CanFollow : (Nodes → ℕ → Nodes) → (Nodes → ℕ → Type 0) → (Nodes → List ℕ) → Nodes → ℕ → List ℕ → Type 0
CanFollow step Can links t p [] = Unit {0}
CanFollow step Can links t p (x ∷ xs) =
    (p ≡ x) × Can t x × (x < length (links (step t x)))
    × CanFollow step Can links (step t x) (slice_index (links (step t x)) x) xs

-- ======== One step of a walk over the node table, and the walk round one option.

-- all columns have n cells
pub record HasSize (t : Nodes) (n : ℕ) : Type 0 where
  pub top : length t.top ≡ n
  pub ulink : length t.ulink ≡ n
  pub dlink : length t.dlink ≡ n
  pub color : length t.color ≡ n

-- the places that q names are in the table
pub record NamesPlaces (t : Nodes) (q : ℕ) : Type 0 where
  pub place : q < length t.top
  pub top : slice_index t.top q < length t.top
  pub above : slice_index t.ulink q < length t.top
  pub below : slice_index t.dlink q < length t.top

-- node q leaves its list
abbrev pub unlinked : Nodes → ℕ → Nodes
unlinked t q =
    let u = slice_index t.ulink q in let d = slice_index t.dlink q in let i = slice_index t.top q in
    record {
      top = slice_set t.top i (slice_index t.top i - 1);
      ulink = slice_set t.ulink d u;
      dlink = slice_set t.dlink u d;
      color = t.color;
    }

-- node q goes back into its list
abbrev pub relinked : Nodes → ℕ → Nodes
relinked t q =
    let u = slice_index t.ulink q in let d = slice_index t.dlink q in let i = slice_index t.top q in
    record {
      top = slice_set t.top i (slice_index t.top i + 1);
      ulink = slice_set t.ulink d q;
      dlink = slice_set t.dlink u q;
      color = t.color;
    }

-- a step of hide at node q, which passes over a marked node
abbrev pub hidden : Nodes → ℕ → Nodes
hidden t q = if slice_index t.color q == MARK then t else unlinked t q

-- what a step of hide writes
abbrev pub hide_cost : Nodes → ℕ → ℕ
hide_cost t q = if slice_index t.color q == MARK then 0 else 3

-- what a walk of hide writes
abbrev pub hide_costs : Nodes → List ℕ → ℕ
hide_costs = costs hidden hide_cost

-- a step of hide may be made at q, which is no spacer
pub record CanHide (t : Nodes) (q : ℕ) : Type 0 where
  pub size : HasSize t (length t.top)
  pub place : q < length t.top
  pub use_of : slice_index t.top q < SPACER
  pub places : slice_index t.color q ≢ MARK → NamesPlaces t q
  pub some : slice_index t.color q ≢ MARK → 0 < slice_index t.top (slice_index t.top q)

-- a walk of hide may be made, each step at what the one before left
abbrev pub CanHideAll : Nodes → List ℕ → Type 0
CanHideAll = CanAll hidden CanHide

-- the places from a to below b
abbrev pub places : ℕ → ℕ → List ℕ
places a b = range_with_len a (b - a)

-- the other nodes of the option from first to below end, cyclically from after p
abbrev pub other_nodes : ℕ → ℕ → ℕ → List ℕ
other_nodes p first end = places (p + 1) end ++ places first p

-- a step of unhide at node q, which passes over a marked node
abbrev pub unhidden : Nodes → ℕ → Nodes
unhidden t q = if slice_index t.color q == MARK then t else relinked t q

-- a step of unhide may be made at q, which is no spacer
pub record CanUnhide (t : Nodes) (q : ℕ) : Type 0 where
  pub size : HasSize t (length t.top)
  pub place : q < length t.top
  pub use_of : slice_index t.top q < SPACER
  pub places : slice_index t.color q ≢ MARK → NamesPlaces t q
  pub few : slice_index t.color q ≢ MARK → slice_index t.top (slice_index t.top q) < 2 ^ 31

-- a walk of unhide may be made, each step at what the one before left
abbrev pub CanUnhideAll : Nodes → List ℕ → Type 0
CanUnhideAll = CanAll unhidden CanUnhide

-- what a walk of unhide writes
abbrev pub unhide_costs : Nodes → List ℕ → ℕ
unhide_costs = costs unhidden hide_cost

-- where the option of node p is
abbrev pub span_at : List Span → ℕ → Span
span_at spans p = get_or spans p (record { first = 0; end = 0 })

-- the other nodes of p's option
abbrev pub others_of : List Span → ℕ → List ℕ
others_of spans p = other_nodes p (span_at spans p).first (span_at spans p).end

-- hide(p)
abbrev pub hidden_node : List Span → Nodes → ℕ → Nodes
hidden_node spans t p = fold hidden t (others_of spans p)

-- a spacer is at z
pub record IsSpacer (t : Nodes) (z : ℕ) : Type 0 where
  pub size : HasSize t (length t.top)
  pub place : z < length t.top
  pub top : SPACER ≤ slice_index t.top z

-- hide(p) may be made: once the nodes after p are hidden, the spacer after them leads to the option's first node
pub record CanHideNode (spans : List Span) (t : Nodes) (p : ℕ) : Type 0 where
  pub steps : CanHideAll t (others_of spans p)
  pub within : p < (span_at spans p).end
  pub near : (span_at spans p).end < 2 ^ 31
  pub spacer : IsSpacer (fold hidden t (places (p + 1) (span_at spans p).end)) (span_at spans p).end
  pub first : slice_index (fold hidden t (places (p + 1) (span_at spans p).end)).ulink (span_at spans p).end ≡
      (span_at spans p).first

-- n nodes from p downwards
abbrev pub followed : List ℕ → ℕ → ℕ → List ℕ
followed dlink zero p = []
followed dlink (suc n) p = p ∷ followed dlink n (slice_index dlink p)

-- the nodes of i's list, by its links and its length
abbrev pub list_of : Nodes → ℕ → List ℕ
list_of t i = followed t.dlink (slice_index t.top i) (slice_index t.dlink i)

-- unhide(p)
abbrev pub unhidden_node : List Span → Nodes → ℕ → Nodes
unhidden_node spans t p = fold unhidden t (reverse (others_of spans p))

-- unhide(p) may be made: once the nodes before p are back, the spacer before them leads to the option's last node
pub record CanUnhideNode (spans : List Span) (t : Nodes) (p : ℕ) : Type 0 where
  pub steps : CanUnhideAll t (reverse (others_of spans p))
  pub from : 0 < (span_at spans p).first
  pub within : (span_at spans p).first ≤ p
  pub near : (span_at spans p).end < 2 ^ 31
  pub spacer : IsSpacer (fold unhidden t (reverse (places (span_at spans p).first p))) ((span_at spans p).first - 1)
  pub last : slice_index (fold unhidden t (reverse (places (span_at spans p).first p))).dlink
      ((span_at spans p).first - 1) + 1 ≡ (span_at spans p).end

-- the nodes of i's list from bottom to top, by its links and its length
abbrev pub list_back : Nodes → ℕ → List ℕ
list_back t i = followed t.ulink (slice_index t.top i) (slice_index t.ulink i)

-- ======== A walk over a list, which may keep the nodes of one colour.

-- node q has this colour now
abbrev pub recoloured : Nodes → ℕ → ℕ → Nodes
recoloured t q v = record { top = t.top; ulink = t.ulink; dlink = t.dlink; color = slice_set t.color q v }

-- the colour is the one that is kept
abbrev pub is_kept_colour : Option ℕ → ℕ → Bool
is_kept_colour None v = false
is_kept_colour (Some c) v = v == c

-- the node was marked in place of being hidden
abbrev pub is_kept_mark : Option ℕ → ℕ → Bool
is_kept_mark None v = false
is_kept_mark (Some c) v = v == MARK

-- the colour that a marked node gets back
abbrev pub kept_colour : Option ℕ → ℕ
kept_colour None = 0
kept_colour (Some c) = c

-- one step down: a node of the colour kept is marked, any other one hidden
abbrev pub left_node : List Span → Option ℕ → Nodes → ℕ → Nodes
left_node spans keep t p =
    if is_kept_colour keep (slice_index t.color p) then recoloured t p MARK else hidden_node spans t p

-- what one step down writes
abbrev pub leave_cost : List Span → Option ℕ → Nodes → ℕ → ℕ
leave_cost spans keep t p = if is_kept_colour keep (slice_index t.color p) then 1 else hide_costs t (others_of spans p)

-- one step up: a marked node gets its colour back, any other one is unhidden
abbrev pub back_node : List Span → Option ℕ → Nodes → ℕ → Nodes
back_node spans keep t p =
    if is_kept_mark keep (slice_index t.color p) then recoloured t p (kept_colour keep) else unhidden_node spans t p

-- what one step up writes
abbrev pub back_cost : List Span → Option ℕ → Nodes → ℕ → ℕ
back_cost spans keep t p =
    if is_kept_mark keep (slice_index t.color p) then 1 else unhide_costs t (reverse (others_of spans p))

-- a step down may be made at p
pub record CanLeave (spans : List Span) (keep : Option ℕ) (t : Nodes) (p : ℕ) : Type 0 where
  pub span : p < length spans
  pub place : p < length t.color
  pub hide : is_kept_colour keep (slice_index t.color p) ≡ false → CanHideNode spans t p

-- a step up may be made at p
pub record CanReturn (spans : List Span) (keep : Option ℕ) (t : Nodes) (p : ℕ) : Type 0 where
  pub span : p < length spans
  pub place : p < length t.color
  pub unhide : is_kept_mark keep (slice_index t.color p) ≡ false → CanUnhideNode spans t p

-- steps down can be made at the nodes ps one after another, and each is where the one before leads to
abbrev pub IsWalk : List Span → Option ℕ → Nodes → ℕ → List ℕ → Type 0
IsWalk spans keep = CanFollow (left_node spans keep) (CanLeave spans keep) (λ (t : Nodes). t.dlink)

-- what that writes
abbrev pub walk_costs : List Span → Option ℕ → Nodes → List ℕ → ℕ
walk_costs spans keep = costs (left_node spans keep) (leave_cost spans keep)

-- steps up can be made at the nodes ps one after another, and each is where the one before leads to
abbrev pub IsWalkBack : List Span → Option ℕ → Nodes → ℕ → List ℕ → Type 0
IsWalkBack spans keep = CanFollow (back_node spans keep) (CanReturn spans keep) (λ (t : Nodes). t.ulink)

-- what that writes
abbrev pub back_costs : List Span → Option ℕ → Nodes → List ℕ → ℕ
back_costs spans keep = costs (back_node spans keep) (back_cost spans keep)

-- a walk down item i's list may be made
pub record CanHideList (spans : List Span) (keep : Option ℕ) (t : Nodes) (i : ℕ) : Type 0 where
  pub place : i < length t.top
  pub size : HasSize t (length t.top)
  pub few : slice_index t.top i < 2 ^ 30
  pub walk : IsWalk spans keep t (slice_index t.dlink i) (list_of t i)

-- a walk up item i's list may be made
pub record CanUnhideList (spans : List Span) (keep : Option ℕ) (t : Nodes) (i : ℕ) : Type 0 where
  pub place : i < length t.top
  pub size : HasSize t (length t.top)
  pub few : slice_index t.top i < 2 ^ 30
  pub walk : IsWalkBack spans keep t (slice_index t.ulink i) (list_back t i)

-- ======== The other items of an option, cyclically from after one of them, and the spans in which their nodes are.

-- option o is in this span, between two spacers that lead to its ends, with the nodes of its other items round that
-- of item i
pub record IsSpanOf (p : Puzzle) (o i : ℕ) (s : Span) : Type 0 where
  pub from : s.first ≤ link_place p i o
  pub below : link_place p i o < s.end
  pub before : places s.first (link_place p i o) ≡ map (λ j. link_place p j o) (before_use i (uses_of p o))
  pub behind : places (link_place p i o + 1) s.end ≡ map (λ j. link_place p j o) (behind_use i (uses_of p o))
  pub some : 0 < s.first
  pub first : slice_get (layout p) (s.first - 1) ≡ Some (spacer (o - 1))
  pub down : fixed_down p (spacer (o - 1)) + 1 ≡ s.end
  pub last : slice_get (layout p) s.end ≡ Some (spacer o)
  pub up : fixed_up p (spacer o) ≡ s.first

-- each node of an option has the option's span, and every place is below 2 ^ 31
pub record HasSpans (p : Puzzle) (spans : List Span) : Type 0 where
  pub span : (o i : ℕ) → 0 < o → is_some (colour_in (uses_of p o) i) ≡ true
      → IsSpanOf p o i (span_at spans (link_place p i o))
  pub near : length (layout p) < 2 ^ 31
  pub within : (o i : ℕ) → 0 < o → is_some (colour_in (uses_of p o) i) ≡ true → link_place p i o < length spans

-- ======== Where no node of an option is marked.

-- no use has a colour
abbrev pub IsPlain : Puzzle → Type 0
IsPlain p = (o : ℕ) → AllByRecursion (λ u. u.colour ≡ 0) (uses_of p o)

-- no node from a to below b is marked
abbrev pub AreUnmarked : List ℕ → ℕ → ℕ → Type 0
AreUnmarked color a b = (q : ℕ) → a ≤ q → q < b → slice_index color q ≢ MARK

-- no other node of node x's option is marked
abbrev pub HasUnmarked : List ℕ → Span → ℕ → Type 0
HasUnmarked color s x = AreUnmarked color (x + 1) s.end × AreUnmarked color s.first x

-- whichever node x is
pub record IsUnmarked (spans : List Span) (color : List ℕ) : Type 0 where
  pub others : (x : ℕ) → x < length spans → HasUnmarked color (span_at spans x) x

-- ======== Purify on the node table.

-- item i is purified with colour c
abbrev pub purified_list : List Span → ℕ → Nodes → ℕ → Nodes
purified_list spans c t i = fold (left_node spans (Some c)) (recoloured t i c) (list_of t i)

-- item i is purified no more
abbrev pub unpurified_list : List Span → ℕ → Nodes → ℕ → Nodes
unpurified_list spans c t i = recoloured (fold (back_node spans (Some c)) t (list_back t i)) i 0

-- item i may be purified with colour c
pub record CanPurify (spans : List Span) (c : ℕ) (t : Nodes) (i : ℕ) : Type 0 where
  pub place : i < length t.color
  pub walk : CanHideList spans (Some c) (recoloured t i c) i

-- that may be undone
pub record CanUnpurify (spans : List Span) (c : ℕ) (t : Nodes) (i : ℕ) : Type 0 where
  pub walk : CanUnhideList spans (Some c) t i
  pub place : i < length (fold (back_node spans (Some c)) t (list_back t i)).color

-- ======== Tweak on the node table.

-- where item i isn't covered, the option of node x is hidden first
abbrev pub hidden_unless : List Span → Bool → Nodes → ℕ → Nodes
hidden_unless spans covered t x = if covered then t else hidden_node spans t x

-- where item i isn't covered, the option of node x is unhidden
abbrev pub unhidden_unless : List Span → Bool → Nodes → ℕ → Nodes
unhidden_unless spans covered t x = if covered then t else unhidden_node spans t x

-- the first node of item i's list leaves it
abbrev pub tweaked_nodes : List Span → Bool → Nodes → ℕ → Nodes
tweaked_nodes spans covered t i =
    unlinked (hidden_unless spans covered t (slice_index t.dlink i)) (slice_index t.dlink i)

-- node x comes back
abbrev pub untweaked : List Span → Bool → Nodes → ℕ → Nodes
untweaked spans covered t x = unhidden_unless spans covered (relinked t x) x

-- what that writes
abbrev pub tweak_cost : List Span → Bool → Nodes → ℕ → ℕ
tweak_cost spans covered t i = 3 + (if covered then 0 else hide_costs t (others_of spans (slice_index t.dlink i)))

-- what its coming back writes
abbrev pub untweak_cost : List Span → Bool → Nodes → ℕ → ℕ
untweak_cost spans covered t x = 3 + (if covered then 0 else unhide_costs (relinked t x) (reverse (others_of spans x)))

-- it may, node x being the first
pub record CanTweakAt (spans : List Span) (covered : Bool) (t : Nodes) (i x : ℕ) : Type 0 where
  pub place : i < length t.dlink
  pub hide : covered ≡ false → (x < length spans) × CanHideNode spans t x
  pub size : HasSize (hidden_unless spans covered t x) (length (hidden_unless spans covered t x).top)
  pub names : NamesPlaces (hidden_unless spans covered t x) x
  pub some : 0 < slice_index (hidden_unless spans covered t x).top (slice_index (hidden_unless spans covered t x).top x)

-- the first node of item i's list may leave it
abbrev pub CanTweak : List Span → Bool → Nodes → ℕ → Type 0
CanTweak spans covered t i = CanTweakAt spans covered t i (slice_index t.dlink i)

-- node x may come back
pub record CanUntweak (spans : List Span) (covered : Bool) (t : Nodes) (x : ℕ) : Type 0 where
  pub size : HasSize t (length t.top)
  pub names : NamesPlaces t x
  pub few : slice_index t.top (slice_index t.top x) < 2 ^ 31
  pub unhide : covered ≡ false → (x < length spans) × CanUnhideNode spans (relinked t x) x

-- ======== Many Tweaks undone at once, downwards.

-- node q has this ULINK now
abbrev pub with_ulink : Nodes → ℕ → ℕ → Nodes
with_ulink t q v = record { top = t.top; ulink = slice_set t.ulink q v; dlink = t.dlink; color = t.color }

-- node q has this DLINK now
abbrev pub with_dlink : Nodes → ℕ → ℕ → Nodes
with_dlink t q v = record { top = t.top; ulink = t.ulink; dlink = slice_set t.dlink q v; color = t.color }

-- node q has this TOP now
abbrev pub with_top : Nodes → ℕ → ℕ → Nodes
with_top t q v = record { top = slice_set t.top q v; ulink = t.ulink; dlink = t.dlink; color = t.color }

-- one step: node p's option is unhidden, unless its item is covered, and what is below p has p above it
abbrev pub brought_back : List Span → Bool → Nodes → ℕ → Nodes
brought_back spans covered t p =
    with_ulink (unhidden_unless spans covered t p) (slice_index (unhidden_unless spans covered t p).dlink p) p

-- what that writes
abbrev pub bring_back_cost : List Span → Bool → Nodes → ℕ → ℕ
bring_back_cost spans covered t p = 1 + (if covered then 0 else unhide_costs t (reverse (others_of spans p)))

-- this step may be made at p
pub record CanBringBack (spans : List Span) (covered : Bool) (t : Nodes) (p : ℕ) : Type 0 where
  pub unhide : covered ≡ false → (p < length spans) × CanUnhideNode spans t p
  pub place : p < length (unhidden_unless spans covered t p).dlink
  pub below : slice_index (unhidden_unless spans covered t p).dlink p < length (unhidden_unless spans covered t p).ulink

-- steps can be made at the nodes ps one after another, and each is where the one before leads to
abbrev pub CanBringBackAll : List Span → Bool → Nodes → ℕ → List ℕ → Type 0
CanBringBackAll spans covered =
    CanFollow (brought_back spans covered) (CanBringBack spans covered) (λ (t : Nodes). t.dlink)

-- what that writes
abbrev pub bring_back_costs : List Span → Bool → Nodes → List ℕ → ℕ
bring_back_costs spans covered = costs (brought_back spans covered) (bring_back_cost spans covered)

-- the k nodes from x downwards are the first of item i's list again
abbrev pub untweaked_all : List Span → Bool → Nodes → ℕ → ℕ → ℕ → Nodes
untweaked_all spans covered t i x k =
    let u = fold (brought_back spans covered) (with_dlink t i x) (followed (with_dlink t i x).dlink k x) in
    with_top u i (slice_index u.top i + k)

-- what that writes
abbrev pub untweak_all_cost : List Span → Bool → Nodes → ℕ → ℕ → ℕ → ℕ
untweak_all_cost spans covered t i x k =
    bring_back_costs spans covered (with_dlink t i x) (followed (with_dlink t i x).dlink k x) + 2

-- that may be done
pub record CanUntweakAll (spans : List Span) (covered : Bool) (t : Nodes) (i x k : ℕ) : Type 0 where
  pub place : i < length t.dlink
  pub bring_back : CanBringBackAll spans covered (with_dlink t i x) x (followed (with_dlink t i x).dlink k x)
  pub many : k < 2 ^ 30
  pub top : i < length (fold (brought_back spans covered) (with_dlink t i x)
      (followed (with_dlink t i x).dlink k x)).top
  pub few : slice_index (fold (brought_back spans covered) (with_dlink t i x)
      (followed (with_dlink t i x).dlink k x)).top i < 2 ^ 31

-- ======== What one move does to the tables, when it can be made, and what it writes.

-- what a move makes of the node table
abbrev pub nodes_made : List Span → Nodes → Items → Move → Nodes
nodes_made spans t s (Cover i) = fold (left_node spans None) t (list_of t i)
nodes_made spans t s (Purify i c) = purified_list spans c t i
nodes_made spans t s (Tweak i) = tweaked_nodes spans (is_off s i) t i
nodes_made spans t s (Spend i) = t

-- and of the item table
abbrev pub items_made : Items → Move → Items
items_made t (Cover i) = left_ring t i
items_made t (Purify i c) = t
items_made t (Tweak i) = t
items_made t (Spend i) = with_bound t i (slice_index t.bound i - 1)

-- what its undoing makes of the node table, x being the node that it took off
abbrev pub nodes_unmade : List Span → Nodes → Items → Move → ℕ → Nodes
nodes_unmade spans t s (Cover i) x = fold (back_node spans None) t (list_back t i)
nodes_unmade spans t s (Purify i c) x = unpurified_list spans c t i
nodes_unmade spans t s (Tweak i) x = untweaked spans (is_off s i) t x
nodes_unmade spans t s (Spend i) x = t

-- and of the item table
abbrev pub items_unmade : Items → Move → Items
items_unmade t (Cover i) = back_in_ring t i
items_unmade t (Purify i c) = t
items_unmade t (Tweak i) = t
items_unmade t (Spend i) = with_bound t i (slice_index t.bound i + 1)

-- item i can leave its ring or come back
pub record CanTurn (t : Items) (i : ℕ) : Type 0 where
  pub place : (i < length t.llink) × (i < length t.rlink)
  pub left : slice_index t.llink i < length t.rlink
  pub right : slice_index t.rlink i < length t.llink

-- it can be read whether item i is in its ring
abbrev pub CanTell : Items → ℕ → Type 0
CanTell s i = (i < length s.llink) × (slice_index s.llink i < length s.rlink)

-- the move may be made on these tables
abbrev pub CanMake : List Span → Nodes → Items → Move → Type 0
CanMake spans t s (Cover i) = CanHideList spans None t i × CanTurn s i
CanMake spans t s (Purify i c) = CanPurify spans c t i
CanMake spans t s (Tweak i) = CanTell s i × CanTweak spans (is_off s i) t i
CanMake spans t s (Spend i) = (i < length s.bound) × (0 < slice_index s.bound i)

-- it may be undone on these tables, x being the node that it took off
abbrev pub CanUnmake : List Span → Nodes → Items → Move → ℕ → Type 0
CanUnmake spans t s (Cover i) x = CanUnhideList spans None t i × CanTurn s i
CanUnmake spans t s (Purify i c) x = CanUnpurify spans c t i
CanUnmake spans t s (Tweak i) x = CanTell s i × CanUntweak spans (is_off s i) t x
CanUnmake spans t s (Spend i) x = (i < length s.bound) × (slice_index s.bound i < 2 ^ 31)

-- how many cells a move writes
abbrev pub made_cost : List Span → Nodes → Items → Move → ℕ
made_cost spans t s (Cover i) = walk_costs spans None t (list_of t i) + 2
made_cost spans t s (Purify i c) = walk_costs spans (Some c) (recoloured t i c) (list_of t i) + 1
made_cost spans t s (Tweak i) = tweak_cost spans (is_off s i) t i
made_cost spans t s (Spend i) = 1

-- and its undoing
abbrev pub unmade_cost : List Span → Nodes → Items → Move → ℕ → ℕ
unmade_cost spans t s (Cover i) x = back_costs spans None t (list_back t i) + 2
unmade_cost spans t s (Purify i c) x = back_costs spans (Some c) t (list_back t i) + 1
unmade_cost spans t s (Tweak i) x = untweak_cost spans (is_off s i) t x
unmade_cost spans t s (Spend i) x = 1

-- a problem fits into the tables, with spans that lead to its options
pub record IsFitted (p : Puzzle) (spans : List Span) : Type 0 where
  pub laid : IsLaid p
  pub spanned : HasSpans p spans
  pub fit : IsFit p
  pub bounds : (i : ℕ) → high_at p i < 2 ^ 31
