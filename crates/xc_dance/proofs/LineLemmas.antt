-- One item's list as a line: its members leave and come back, and what that writes to the columns.
use Rattle.std.proofs.Common.{◌≡◌, ◌≢◌, ℕ, ◌+◌, ◌<◌, ◌≤◌, Bool, true, false, not, ◌||◌, eqb, ltb, nat_lt, List, [], ◌∷◌}
use Rattle.std.proofs.Common.{length, filter, fold, Some, None, refl, ap, sym, ◌∙◌, arith, eqb-true, eq-eqb, ne_eqb}
use Rattle.std.proofs.Common.{lt-ltb, le-ltb, zero, suc, drop, ap₂, subst, map, get_or, set, cond, ◌^◌, inr}
use Rattle.std.specs.Prelude.{if◌then◌else◌, ◌-◌, ◌==◌, ◌&&◌, ◌++◌, Option, unwrap_or, slice_get}
use Rattle.std.specs.List.{last_or, AllByRecursion}
use Rattle.std.proofs.lemmas.Bool.{eqb-false, false≢true}
use Rattle.std.proofs.lemmas.Option.{same_Some, slice_get_within}
use Rattle.std.proofs.lemmas.Grind.{common_steps}
use Rattle.std.proofs.lemmas.List.{get_or-set_same, get_or-set_other, set-set, length-map, map-set}
use Rattle.std.proofs.Math.Path.{fun_ext}
use Rattle.std.proofs.Math.Seq.{map-set_same}
use Rattle.xc_input.specs.Problem.{Puzzle, uses_of, Numbered, item_count}
use Rattle.xc_text.proofs.ListLemmas.{each-filter}
use Rattle.xc_moves.specs.Places.{Node, first_above, is_in, own, layout, link_place}
use Rattle.xc_dance.specs.Fields.{last_below, first_of, last_of}
use Rattle.xc_dance.specs.inner.Tables.{slot_of, line_of, up_of, down_of, Line, Nodes, link_at, fixed_up, fixed_down}
use Rattle.xc_dance.specs.inner.Tables.{top_in, ulink_in, dlink_in, nodes_from, Placed, IsLaid, IsFit}
use Rattle.xc_moves.specs.inner.Uses.{HoldsItem, before_use, behind_use}
use Rattle.xc_dance.specs.inner.Walks.{unlinked, relinked, HasSize, NamesPlaces, CanUnhide, CanHide, hidden, unhidden}
use Rattle.xc_moves.specs.declared.dance.Move.{Move}
use Rattle.xc_moves.specs.declared.dance.Move.TheVariants.{Cover}
use Rattle.xc_moves.specs.Moves.{listed_numbers, listed}
use Rattle.xc_dance.specs.declared.links.cells.marks.TheConstants.{SPACER, MARK}
use Rattle.xc_moves.proofs.MoveLemmas.{rises_listed, numbers, length-listed, in_above, Named, numbers_named}
pub use Rattle.xc_moves.specs.inner.Rising.{Rises}
pub use Rattle.xc_moves.proofs.MoveLemmas.{Rises-weaker, Rises-filter}

-- ======== Lines: one member leaves or comes back, many leave from top to bottom, and what a move makes of the line
-- of a list.

-- ---- how lines and colours change: a member leaves its item's list or comes back, one line or one colour is another

-- f with the value v at k
abbrev pub put_at : (ℕ → ℕ) → ℕ → ℕ → ℕ → ℕ
put_at f k v x = if x == k then v else f x

-- member o leaves
abbrev pub cut : Line → ℕ → Line
cut l o = record { len = l.len - 1; up = put_at l.up (l.down o) (l.up o); down = put_at l.down (l.up o) (l.down o) }

-- member o comes back
abbrev pub mended : Line → ℕ → Line
mended l o = record { len = l.len + 1; up = put_at l.up (l.down o) o; down = put_at l.down (l.up o) o }

-- from a through the members xs, which rise, to the item's own node, linked both ways
abbrev pub IsLinkedFrom : Line → ℕ → List ℕ → Type 0
IsLinkedFrom l a [] = (l.down a ≡ 0) × (l.up 0 ≡ a)
IsLinkedFrom l a (x ∷ xs) = (a < x) × (l.down a ≡ x) × (l.up x ≡ a) × IsLinkedFrom l x xs

-- item j's line is l now
abbrev pub with_line : (ℕ → Line) → ℕ → Line → ℕ → Line
with_line ln j l k = record {
  len = if k == j then l.len else (ln k).len;
  up = λ x. if k == j then l.up x else (ln k).up x;
  down = λ x. if k == j then l.down x else (ln k).down x;
}

-- the slot is that of member x of item j
abbrev pub is_slot : ℕ → ℕ → Option (ℕ × ℕ) → Bool
is_slot j x None = false
is_slot j x (Some s) = s.0 == j && s.1 == x

-- the node of member x of item j has the colour v now
abbrev pub with_color : (Node → ℕ) → ℕ → ℕ → ℕ → Node → ℕ
with_color col j x v n = if is_slot j x (slot_of n) then v else col n

-- the other items of option o, cyclically from behind item i
abbrev pub other_items : Puzzle → ℕ → ℕ → List ℕ
other_items p o i = behind_use i (uses_of p o) ++ before_use i (uses_of p o)

-- ---- members leave one list from top to bottom: where every link then leads

pub put_at-same : (f : ℕ → ℕ) (k v x : ℕ) → x ≡ k → put_at f k v x ≡ v
put_at-same f k v x e = rw (eq-eqb x k e) refl

pub put_at-other : (f : ℕ → ℕ) (k v x : ℕ) → x ≢ k → put_at f k v x ≡ f x
put_at-other f k v x ne = rw (ne_eqb x k ne) refl

pub rises : (l : Line) (a : ℕ) (xs : List ℕ) → IsLinkedFrom l a xs → Rises a xs
rises l a [] h = tt
rises l a (x ∷ xs) h = (h.0, rises l x xs h.3)

-- one that is no higher than the start isn't in
pub not_in : (n x : ℕ) (xs : List ℕ) → x ≤ n → Rises n xs → is_in x xs ≡ false
not_in n x [] h r = refl
not_in n x (y ∷ ys) h r = grind (arith, ne_eqb, not_in y x ys (omega (arith, r.0)) r.1)

pub is_in-other : (y x : ℕ) (ys : List ℕ) → y ≢ x → is_in x (y ∷ ys) ≡ is_in x ys
is_in-other y x ys ne = rw (ne_eqb y x ne) refl

pub is_in-first : (y : ℕ) (ys : List ℕ) → is_in y (y ∷ ys) ≡ true
is_in-first y ys = rw (eq-eqb y y refl) refl

pub in_more : (y x : ℕ) (ys : List ℕ) → is_in x ys ≡ true → is_in x (y ∷ ys) ≡ true
in_more y x ys e = elim (eqb y x) as (λ b. (b || is_in x ys) ≡ true) [ true ↦ refl | false ↦ e ]

-- ---- neighbours

last_or_some : (y a : ℕ) (zs : List ℕ) → unwrap_or (last_or (Some y) zs) a ≡ unwrap_or (last_or None zs) y
last_or_some y a [] = refl
last_or_some y a (z ∷ zs) = last_or_some z a zs ∙ sym (last_or_some z y zs)

pub last_of-more : (a y : ℕ) (zs : List ℕ) → last_of a (y ∷ zs) ≡ last_of y zs
last_of-more a y zs = last_or_some y a zs

none_below : (x n : ℕ) (xs : List ℕ) → x ≤ n → Rises n xs → filter (λ k. nat_lt k x) xs ≡ []
none_below x n [] h r = refl
none_below x n (y ∷ ys) h r = rw (le-ltb y x (omega (arith, r.0))) (none_below x y ys (omega (arith, r.0)) r.1)

pub last_below-none : (a x n : ℕ) (xs : List ℕ) → x ≤ n → Rises n xs → last_below a x xs ≡ a
last_below-none a x n xs h r = ap (λ ks. unwrap_or (last_or None ks) a) (none_below x n xs h r)

pub last_below-more : (a x y : ℕ) (ys : List ℕ) → y < x → last_below a x (y ∷ ys) ≡ last_below y x ys
last_below-more a x y ys h = rw (lt-ltb y x h) (last_or_some y a (filter (λ k. nat_lt k x) ys))

pub first_above-first : (o x n : ℕ) (xs : List ℕ) → x ≤ n → Rises n xs → first_above o x xs ≡ first_of o xs
first_above-first o x n [] h r = refl
first_above-first o x n (y ∷ ys) h r = let yes : ltb x y ≡ true = lt-ltb x y (omega (arith, r.0)) in rw yes refl

-- what stands beside a number in a list that rises
pub ruleset below = (last_below-none, le-ltb, last_below-more, last_of-more)

pub ruleset above = (first_above-first, le-ltb)

-- ---- one leaves from the top

-- what stands further down sees the links further down alone
IsLinkedFrom-same : (l m : Line) (a : ℕ) (xs : List ℕ) → ((k : ℕ) → a ≤ k → m.down k ≡ l.down k)
    → ((k : ℕ) → a < k → m.up k ≡ l.up k) → m.up 0 ≡ l.up 0 → IsLinkedFrom l a xs → IsLinkedFrom m a xs
IsLinkedFrom-same l m a [] down up last h = (down a (omega arith) ∙ h.0, last ∙ h.1)
IsLinkedFrom-same l m a (x ∷ xs) down up last h =
    let rest = IsLinkedFrom-same l m x xs (λ k le. down k (omega arith)) (λ k le. up k (omega arith)) last h.3 in
    grind arith

pub cut-linked : (l : Line) (a y : ℕ) (ys : List ℕ) → IsLinkedFrom l a (y ∷ ys) → IsLinkedFrom (cut l y) a ys
cut-linked l a y [] h = grind (arith, put_at-same)
cut-linked l a y (z ∷ zs) h =
    let rest = IsLinkedFrom-same l (cut l y) z zs (λ k le. put_at-other l.down (l.up y) (l.down y) k (λ e. omega arith))
    (λ k gt. put_at-other l.up (l.down y) (l.up y) k (λ e. omega arith))
    (put_at-other l.up (l.down y) (l.up y) 0 (λ e. omega arith)) h.3.3 in
    grind (arith, put_at-same)

-- what stands below a member is the item's own node or a later member
below_first : (l : Line) (y : ℕ) (ys : List ℕ) (x : ℕ) → IsLinkedFrom l y ys → x ≢ 0 → is_in x ys ≡ false → x ≢ l.down y
below_first l y [] x h nz out e = grind (arith, false≢true, is_in-first)
below_first l y (z ∷ zs) x h nz out e = grind (arith, false≢true, is_in-first)

-- ---- all that pass the test leave

abbrev pub cuts : Line → List ℕ → Line
cuts l ks = fold cut l ks

abbrev pub stay : (ℕ → Bool) → List ℕ → List ℕ
stay g xs = filter (λ x. not (g x)) xs

pub record Swept (l m : Line) (a : ℕ) (xs ks : List ℕ) : Type 0 where
  pub linked : IsLinkedFrom m a ks
  pub up_in : (x : ℕ) → is_in x xs ≡ true → m.up x ≡ last_below a x ks
  pub up_out : (x : ℕ) → x ≢ 0 → is_in x xs ≡ false → m.up x ≡ l.up x
  pub down_in : (x : ℕ) → x ≢ a → is_in x ks ≡ true → m.down x ≡ first_above 0 x ks
  pub down_out : (x : ℕ) → x ≢ a → is_in x ks ≡ false → m.down x ≡ l.down x
  pub first : m.down a ≡ first_of 0 ks
  pub last : m.up 0 ≡ last_of a ks

-- a fact by whether a number is the first of a list
pub by_first : (P : Type 0) (y x : ℕ) → (y ≡ x → P) → (y ≢ x → P) → P
by_first P y x same other = grind (arith, eqb-true, eqb-false)

pub in_rest : (y x : ℕ) (ys : List ℕ) → y ≢ x → is_in x (y ∷ ys) ≡ true → is_in x ys ≡ true
in_rest y x ys ne e = sym (is_in-other y x ys ne) ∙ e

pub out_rest : (y x : ℕ) (ys : List ℕ) → is_in x (y ∷ ys) ≡ false → y ≢ x
out_rest y x ys e same = false≢true (sym e ∙ ap (λ k. is_in x (k ∷ ys)) same ∙ is_in-first x ys)

-- members of lists
pub ruleset members = (by_first, in_above, in_more, in_rest, is_in-first, is_in-other, not_in, out_rest)

first_leaves : (l m : Line) (a y : ℕ) (ys ks : List ℕ) → IsLinkedFrom l a (y ∷ ys) → Rises a ks → Rises y ks
    → Swept (cut l y) m a ys ks → Swept l m a (y ∷ ys) ks
first_leaves l m a y ys ks h ra ry s = grind (arith, above, below, members, below_first, put_at-other, rises)

first_stays : (l m : Line) (a y : ℕ) (ys ks : List ℕ) → IsLinkedFrom l a (y ∷ ys) → Rises y ks → Swept l m y ys ks
    → Swept l m a (y ∷ ys) (y ∷ ks)
first_stays l m a y ys ks h ry s = grind (arith, above, below, members, rises l y ys h.3)

pub swept : (l : Line) (a : ℕ) (xs : List ℕ) (g : ℕ → Bool) → IsLinkedFrom l a xs
    → Swept l (cuts l (filter g xs)) a xs (stay g xs)
swept l a [] g h = grind (arith, false≢true)
swept l a (y ∷ ys) g h =
    let gone = swept (cut l y) a ys g (cut-linked l a y ys h) in
    let staying = swept l y ys g h.3 in
    let ra = rises (cuts (cut l y) (filter g ys)) a (stay g ys) gone.linked in
    let ry = rises (cuts l (filter g ys)) y (stay g ys) staying.linked in
    elim (g y) as (λ b. Swept l (cuts l (if b then y ∷ filter g ys else filter g ys)) a (y ∷ ys)
    (if not b then y ∷ stay g ys else stay g ys)) [
      | true ↦ first_leaves l _ a y ys _ h ra ry gone
      | false ↦ first_stays l _ a y ys _ h ry staying
    ]

-- how many are left
pub swept_len : (l : Line) (xs : List ℕ) (g : ℕ → Bool) (n : ℕ) → l.len ≡ n + length xs
    → (cuts l (filter g xs)).len ≡ n + length (stay g xs)
swept_len l [] g n e = grind arith
swept_len l (y ∷ ys) g n e =
    grind (arith, cut, swept_len (cut l y) ys g n (omega (arith, e)), swept_len l ys g (n + 1) (omega (arith, e)))

-- a number that isn't in is not taken out
pub stay_same : (i : ℕ) (xs : List ℕ) → (is_in i xs ≡ true → ⊥) → stay (λ x. eqb x i) xs ≡ xs
stay_same i [] out = refl
stay_same i (y ∷ ys) out = grind (arith, is_in-first, is_in-other, stay_same i ys)

-- ---- the line that stands for an item's list, move by move

-- ---- a line that is given by its list

pub linked_by : (l : Line) (a : ℕ) (xs : List ℕ) → Rises a xs
    → ((x : ℕ) → is_in x xs ≡ true → l.up x ≡ last_below a x xs)
    → ((x : ℕ) → is_in x xs ≡ true → l.down x ≡ first_above 0 x xs)
    → l.down a ≡ first_of 0 xs → l.up 0 ≡ last_of a xs → IsLinkedFrom l a xs
linked_by l a [] r up down first last = (first, last)
linked_by l a (y ∷ ys) r up down first last = grind (arith, above, below, members, linked_by l y ys r.1)

-- ---- lists shrink

pub stay_all : (xs : List ℕ) → stay (λ x. false) xs ≡ xs
stay_all [] = refl
stay_all (x ∷ xs) = ap (λ ys. x ∷ ys) (stay_all xs)

pub leave_none : (xs : List ℕ) → filter (λ (x : ℕ). false) xs ≡ []
leave_none [] = refl
leave_none (x ∷ xs) = leave_none xs

in_filtered : (q : Numbered → Bool) (x : ℕ) (os : List Numbered) → is_in x (numbers (filter q os)) ≡ true
    → is_in x (numbers os) ≡ true
in_filtered q x [] e = e
in_filtered q x (o ∷ os) e = grind (arith, in_filtered q x os)

in_dropped : (x : ℕ) (os : List Numbered) → is_in x (numbers (drop 1 os)) ≡ true → is_in x (numbers os) ≡ true
in_dropped x [] e = e
in_dropped x (o ∷ os) e = in_more o.number x (numbers os) e

-- an option of a list was in it before the move
was_in : (p : Puzzle) (t : List Move) (m : Move) (i x : ℕ) → is_in x (listed_numbers p (m ∷ t) i) ≡ true
    → is_in x (listed_numbers p t i) ≡ true
was_in p t (Cover j) i x e = grind (arith, in_filtered)
was_in p t _ i x e = grind (arith, in_filtered, in_dropped, eqb-true)

-- ---- the line after a move

pub up_after : (p : Puzzle) (t : List Move) (m : Move) (j : ℕ) (l : Line)
    → Swept (line_of p t j) l 0 (listed_numbers p t j) (listed_numbers p (m ∷ t) j) → (x : ℕ)
    → up_of p (m ∷ t) j x ≡ l.up x
up_after p t m j l s zero = grind arith
up_after p t m j l s (suc x) = grind arith

pub down_after : (p : Puzzle) (t : List Move) (m : Move) (j : ℕ) (l : Line)
    → Swept (line_of p t j) l 0 (listed_numbers p t j) (listed_numbers p (m ∷ t) j) → (x : ℕ)
    → down_of p (m ∷ t) j x ≡ l.down x
down_after p t m j l s zero = grind arith
down_after p t m j l s (suc x) = grind arith

-- each item's line stands for its list
pub stands : (p : Puzzle) (t : List Move) (j : ℕ) → IsLinkedFrom (line_of p t j) 0 (listed_numbers p t j)
stands p [] j = grind (arith, in_above, linked_by, rises_listed p [] j, listed_numbers p [] j)
stands p (m ∷ t) j = grind (arith, in_above, was_in, linked_by, rises_listed p (m ∷ t) j)

-- ======== Members of lists of numbers: lists that rise and have the same members are the same.

-- a filter's members
pub in_filter : (f : ℕ → Bool) (x : ℕ) (xs : List ℕ) → is_in x (filter f xs) ≡ (f x && is_in x xs)
in_filter f x [] = grind (arith, eqb-true)
in_filter f x (y ∷ ys) = grind (arith, eqb-true, in_filter f x ys)

pub same_members : (n : ℕ) (xs ys : List ℕ) → Rises n xs → Rises n ys → ((x : ℕ) → is_in x xs ≡ is_in x ys) → xs ≡ ys
same_members n [] [] r s h = refl
same_members n [] (y ∷ ys) r s h = absurd (false≢true (h y ∙ is_in-first y ys))
same_members n (x ∷ xs) [] r s h = absurd (false≢true (sym (h x) ∙ is_in-first x xs))
same_members n (x ∷ xs) (y ∷ ys) r s h =
    let y_in : is_in y (x ∷ xs) ≡ true = h y ∙ is_in-first y ys in
    let x_in : is_in x (y ∷ ys) ≡ true = sym (h x) ∙ is_in-first x xs in
    let le : x ≤ y = grind (arith, eqb-true, in_above) in
    let ge : y ≤ x = grind (arith, eqb-true, in_above) in
    let same : x ≡ y = omega (arith, le, ge) in
    ap₂ (λ k ks. k ∷ ks) same (same_members x xs ys r.1 (subst (λ k. Rises k ys) (sym same) s.1) (λ z.
    let same = h z in grind (arith, eqb-false, eqb-true, is_in-other, not_in)))

-- ======== The columns of the node table, one write to them, and steps of hide that undo one another.

-- ---- columns that are maps of a layout, and one write to them

-- a write to one cell is one to the list of the cells' values, and none to other values beside them
pub ruleset one_written = (map-set, map-set_same)

module _ {X : Type 0} (f : X → ℕ) where
  pub get_map : (ns : List X) (k : ℕ) (n : X) → slice_get ns k ≡ Some n → get_or (map f ns) k 0 ≡ f n
  get_map [] k n e = cc
  get_map (m ∷ ns) zero n e = ap f (same_Some m n e)
  get_map (m ∷ ns) (suc k) n e = get_map ns k n e

  pub map_same : (g : X → ℕ) (ns : List X)
      → ((q : ℕ) (n : X) → slice_get ns q ≡ Some n → g n ≡ f n) → map g ns ≡ map f ns
  map_same g [] h = refl
  map_same g (m ∷ ns) h = ap₂ (λ x xs. x ∷ xs) (h 0 m refl) (map_same g ns (λ q n e. h (suc q) n e))

  pub map_put : (g : X → ℕ) (ns : List X) (k v : ℕ) → ((q : ℕ) (n : X) → slice_get ns q ≡ Some n → q ≢ k → g n ≡ f n)
      → ((n : X) → slice_get ns k ≡ Some n → g n ≡ v) → map g ns ≡ set (map f ns) k v
  map_put g [] k v rest here = refl
  map_put g (m ∷ ns) zero v rest here =
      ap₂ (λ x xs. x ∷ xs) (here m refl) (map_same g ns (λ q n e. rest (suc q) n e (λ z. omega (arith, z))))
  map_put g (m ∷ ns) (suc k) v rest here = ap₂ (λ x xs. x ∷ xs) (rest 0 m refl (λ z. omega (arith, z)))
      (map_put g ns k v (λ q n e ne. rest (suc q) n e (λ z. ne (omega (arith, z)))) (λ n e. here n e))

-- ---- hide and unhide undo one another

-- a cell that is written and then written back is as it was
pub written_back : (xs : List ℕ) (i j v w : ℕ) → j ≡ i → get_or xs i 0 ≡ w → set (set xs i v) j w ≡ xs
written_back xs i j v w e h = grind (arith, common_steps, set-set)

-- tables with the same columns are the same
pub same_nodes : (s t : Nodes) → s.top ≡ t.top → s.ulink ≡ t.ulink → s.dlink ≡ t.dlink → s.color ≡ t.color → s ≡ t
same_nodes s t a b c d = grind arith

-- node q stands in its list: its neighbours name it, and its list counts it
pub record IsLinked (t : Nodes) (q : ℕ) : Type 0 where
  pub above : get_or t.dlink (get_or t.ulink q 0) 0 ≡ q
  pub below : get_or t.ulink (get_or t.dlink q 0) 0 ≡ q
  pub top : get_or t.top q 0 < length t.top
  pub other : get_or t.top q 0 ≢ q
  pub some : 0 < get_or t.top (get_or t.top q 0) 0

-- a node that left its list goes back to where it was
pub relinked-unlinked : (t : Nodes) (q : ℕ) → IsLinked t q → relinked (unlinked t q) q ≡ t
relinked-unlinked t q h = grind (arith, common_steps, get_or-set_same, same_nodes, written_back, get_or-set_other)

-- ---- the columns of links and counts of a table of lines, and one write to them

pub same_at : {X : Type 0} (ns : List X) (k : ℕ) (m n : X) → slice_get ns k ≡ Some m → slice_get ns k ≡ Some n → m ≡ n
same_at ns k m n a b = let e : Some m ≡ Some n = sym a ∙ b in cc

-- a column of links
abbrev pub column : Puzzle → (ℕ → ℕ → ℕ) → (Node → ℕ) → List ℕ
column p f fixed = map (λ n. link_at p f (fixed n) (slot_of n)) (layout p)

-- f with the value v at x of item j
abbrev pub put_link : (ℕ → ℕ → ℕ) → ℕ → (ℕ → ℕ) → ℕ → ℕ → ℕ
put_link f j g k x = cond (eqb k j) (g x) (f k x)

at_slot : (p : Puzzle) (f : ℕ → ℕ → ℕ) (fixed : ℕ) {s : Option (ℕ × ℕ)} {j : ℕ} (x : ℕ) → s ≡ Some (j, x)
    → link_at p f fixed s ≡ link_place p j (f j x)
at_slot p f fixed x e = ap (link_at p f fixed) e

pub get_link : (p : Puzzle) (f : ℕ → ℕ → ℕ) (fixed : Node → ℕ) (j x : ℕ) → Placed p j x
    → get_or (column p f fixed) (link_place p j x) 0 ≡ link_place p j (f j x)
get_link p f fixed j x h = grind (arith, get_map, at_slot)

pub get_up : (p : Puzzle) (ln : ℕ → Line) (j x : ℕ) → Placed p j x
    → get_or (map (ulink_in p ln) (layout p)) (link_place p j x) 0 ≡ link_place p j ((ln j).up x)
get_up p ln j x h = get_link _ (λ k y. (ln k).up y) (fixed_up p) _ _ h

pub get_down : (p : Puzzle) (ln : ℕ → Line) (j x : ℕ) → Placed p j x
    → get_or (map (dlink_in p ln) (layout p)) (link_place p j x) 0 ≡ link_place p j ((ln j).down x)
get_down p ln j x h = get_link _ (λ k y. (ln k).down y) (fixed_down p) _ _ h

other_slot : (p : Puzzle) (f : ℕ → ℕ → ℕ) (j x v : ℕ) (fixed : ℕ) (s : Option (ℕ × ℕ)) → (s ≡ Some (j, x) → ⊥) →
    link_at p (put_link f j (put_at (f j) x v)) fixed s ≡ link_at p f fixed s
other_slot p f j x v fixed s ne = grind (arith, eqb-true, put_at-other)

pub set_link : (p : Puzzle) (f : ℕ → ℕ → ℕ) (fixed : Node → ℕ) (j x v : ℕ) → IsLaid p → Placed p j x →
    column p (put_link f j (put_at (f j) x v)) fixed ≡ set (column p f fixed) (link_place p j x) (link_place p j v)
set_link p f fixed j x v laid h = map_put _ _ (layout p) _ _
    (λ q n at ne. other_slot p f j x v (fixed n) (slot_of n) (λ e. ne (sym (laid.unique q n j x at e))))
    (λ n at. grind (arith, at_slot, eq-eqb, eqb-true, ne_eqb, put_at-same, same_at))

-- ---- counts

top_other : (ln : ℕ → Line) (j : ℕ) (l : Line) (n : Node) → (n ≡ own j → ⊥) → top_in (with_line ln j l) n ≡ top_in ln n
top_other ln j l n ne = grind (arith, eqb-true)

pub set_top : (p : Puzzle) (ln : ℕ → Line) (j : ℕ) (l : Line) → IsLaid p → 0 < j → j ≤ item_count p
    → map (top_in (with_line ln j l)) (layout p) ≡ set (map (top_in ln) (layout p)) j l.len
set_top p ln j l laid pos le = map_put _ _ (layout p) j l.len
    (λ q n at ne. top_other ln j l n (λ e. ne (sym (laid.unique q n j 0 at (ap slot_of e)))))
    (λ n at. grind (arith, eq-eqb, eqb-true, ne_eqb, same_at))

pub get_len : (p : Puzzle) (ln : ℕ → Line) (j : ℕ) → IsLaid p → 0 < j → j ≤ item_count p
    → get_or (map (top_in ln) (layout p)) j 0 ≡ (ln j).len
get_len p ln j laid pos le = get_map (top_in ln) (layout p) j _ (laid.head j pos le)

-- the item of a node
item_at : (ln : ℕ → Line) (n : Node) {j o : ℕ} → slot_of n ≡ Some (j, o) → 0 < o → top_in ln n ≡ j
item_at ln n e pos = grind arith

pub get_item : (p : Puzzle) (ln : ℕ → Line) (j o : ℕ) → Placed p j o → 0 < o
    → get_or (map (top_in ln) (layout p)) (link_place p j o) 0 ≡ j
get_item p ln j o h pos = get_map (top_in ln) (layout p) (link_place p j o) _ h.at ∙ item_at ln _ h.slot pos

pub size_from : (p : Puzzle) (ln : ℕ → Line) (col : Node → ℕ)
    → HasSize (nodes_from p ln col) (length (nodes_from p ln col).top)
size_from p ln col = grind (arith, common_steps)

-- what stands in the cells of member o's node in item j's list, where the members beside it have nodes too
pub record NodeCells (p : Puzzle) (ln : ℕ → Line) (col : Node → ℕ) (j o : ℕ) : Type 0 where
  pub above : Placed p j ((ln j).up o)
  pub below : Placed p j ((ln j).down o)
  pub up : get_or (nodes_from p ln col).ulink (link_place p j o) 0 ≡ link_place p j ((ln j).up o)
  pub down : get_or (nodes_from p ln col).dlink (link_place p j o) 0 ≡ link_place p j ((ln j).down o)
  pub item : get_or (nodes_from p ln col).top (link_place p j o) 0 ≡ j
  pub len : get_or (nodes_from p ln col).top j 0 ≡ (ln j).len
  pub names : NamesPlaces (nodes_from p ln col) (link_place p j o)

pub node_cells : (p : Puzzle) (ln : ℕ → Line) (col : Node → ℕ) (j o : ℕ) → IsLaid p → 0 < j → j ≤ item_count p → 0 < o
    → HoldsItem p j o → HoldsItem p j ((ln j).up o) → HoldsItem p j ((ln j).down o) → NodeCells p ln col j o
node_cells p ln col j o laid pos le o_pos name name_up name_down =
    let here = laid.there j o pos le name in
    let above = laid.there j ((ln j).up o) pos le name_up in
    let below = laid.there j ((ln j).down o) pos le name_down in
    let up = get_up _ ln _ _ here in
    let down = get_down _ ln _ _ here in
    let item = get_item _ ln _ _ here o_pos in
    let within = λ (k : ℕ) (n : Node). slice_get_within (layout p) k n in
    let head = laid.head j pos le in grind (arith, length-map, get_len p ln j laid pos le)

-- columns of links that lead the same way
pub column_same : (p : Puzzle) (f g : ℕ → ℕ → ℕ) (fixed : Node → ℕ) → ((j x : ℕ) → g j x ≡ f j x)
    → column p g fixed ≡ column p f fixed
column_same p f g fixed h = ap (λ k. column p k fixed) (fun_ext (λ j. fun_ext (h j)))

-- ---- a step of hide that can be undone

-- a node that has just left can be put back
pub record CanRelink (t : Nodes) (q : ℕ) : Type 0 where
  pub size : HasSize t (length t.top)
  pub names : NamesPlaces t q
  pub few : get_or t.top (get_or t.top q 0) 0 < 2 ^ 31

pub CanRelink-unlinked : (t : Nodes) (q : ℕ) → HasSize t (length t.top) → NamesPlaces t q → IsLinked t q
    → get_or t.top (get_or t.top q 0) 0 < 2 ^ 31 → CanRelink (unlinked t q) q
CanRelink-unlinked t q size names linked few = grind (arith, common_steps, get_or-set_same, get_or-set_other)

-- so a step of unhide may be made there
pub CanUnhide-unlinked : (t : Nodes) (q : ℕ) → HasSize t (length t.top) → NamesPlaces t q → IsLinked t q
    → get_or t.top q 0 < SPACER → get_or t.top (get_or t.top q 0) 0 < 2 ^ 31 → CanUnhide (unlinked t q) q
CanUnhide-unlinked t q size names linked use_of few = grind (arith, common_steps, CanRelink-unlinked)

-- ======== Lines that stand for lists: a member leaves, a node leaves with it, and the lines after moves are such
-- lines.

-- ---- one node of the table leaves its list or comes back: so does one member of its item's line

abbrev pub InRange : Puzzle → ℕ → Type 0
InRange p j = (0 < j) × (j ≤ item_count p)

-- what a step needs of member o of item j
pub record IsMember (p : Puzzle) (j : ℕ) (l : Line) (o : ℕ) : Type 0 where
  pub item : InRange p j
  pub pos : 0 < o
  pub name : HoldsItem p j o
  pub above : HoldsItem p j (l.up o)
  pub below : HoldsItem p j (l.down o)
  pub up_back : l.down (l.up o) ≡ o
  pub down_back : l.up (l.down o) ≡ o
  pub some : 0 < l.len
  pub few : l.len < 2 ^ 31

pub member_cells : (p : Puzzle) (col : Node → ℕ) (ln : ℕ → Line) (j o : ℕ) → IsLaid p → IsMember p j (ln j) o
    → NodeCells p ln col j o
member_cells p col ln j o laid m = node_cells _ ln _ _ _ laid m.item.0 m.item.1 m.pos m.name m.above m.below

pub unlinked-is : (p : Puzzle) (col : Node → ℕ) (ln : ℕ → Line) (j o : ℕ) → IsLaid p → IsMember p j (ln j) o →
    unlinked (nodes_from p ln col) (link_place p j o) ≡ nodes_from p (with_line ln j (cut (ln j) o)) col
unlinked-is p col ln j o laid m =
    let c = member_cells _ col ln _ _ laid m in
    let up = set_link _ (λ k x. (ln k).up x) (fixed_up p) _ _ ((ln j).up o) laid c.below in
    let down = set_link _ (λ k x. (ln k).down x) (fixed_down p) _ _ ((ln j).down o) laid c.above in
    grind (arith, same_nodes, set_top _ ln _ (cut (ln j) o) laid m.item.0 m.item.1)

pub linked-is : (p : Puzzle) (col : Node → ℕ) (ln : ℕ → Line) (j o : ℕ) → IsLaid p → IsMember p j (ln j) o
    → IsLinked (nodes_from p ln col) (link_place p j o)
linked-is p col ln j o laid m = grind (arith, get_down, get_up, member_cells p col ln j o laid m)

-- ---- a step of hide

-- a step of hide at q leads from t to u, and that of unhide back
pub record Step (t u : Nodes) (q : ℕ) : Type 0 where
  pub can : CanHide t q
  pub done : hidden t q ≡ u
  pub back : CanUnhide u q
  pub undone : unhidden u q ≡ t

pub step_open : (p : Puzzle) (col : Node → ℕ) (ln : ℕ → Line) (j o : ℕ) → IsLaid p → IsMember p j (ln j) o
    → eqb (get_or (map (col) (layout p)) (link_place p j o) 0) MARK ≡ false →
    Step (nodes_from p ln col) (nodes_from p (with_line ln j (cut (ln j) o)) col) (link_place p j o)
step_open p col ln j o laid m color =
    let q = link_place p j o in
    let t : Nodes = nodes_from p ln col in
    let c = member_cells p col ln j o laid m in
    let back = relinked-unlinked t q (linked-is p col ln j o laid m) in
    let small = laid.small in
    subst (λ (u : Nodes). Step t u q) (unlinked-is p col ln j o laid m)
    (grind (arith, m.few, m.item, CanUnhide-unlinked t q, size_from, linked-is p col ln j o laid m))

pub step_marked : (p : Puzzle) (col : Node → ℕ) (ln : ℕ → Line) (q : ℕ) → q < length (layout p)
    → get_or (map (top_in ln) (layout p)) q 0 < SPACER → eqb (get_or (map (col) (layout p)) q 0) MARK ≡ true
    → Step (nodes_from p ln col) (nodes_from p ln col) q
step_marked p col ln q within use_of color = grind (arith, eqb-true, length-map, size_from)

-- ---- lines that stand for lists, and one member leaving

-- a member of a list that is linked from a on: the first, or any
at_first : (p : Puzzle) (j : ℕ) (l : Line) (a y : ℕ) (ys : List ℕ) → InRange p j → 0 < l.len → l.len < 2 ^ 31 → 0 < y
    → HoldsItem p j a → IsLinkedFrom l a (y ∷ ys) → AllByRecursion (Named p j) (y ∷ ys) → IsMember p j l y
at_first p j l a y [] r some few pos n h named = grind arith
at_first p j l a y (z ∷ zs) r some few pos n h named = grind arith

at_member : (p : Puzzle) (j : ℕ) (l : Line) (a : ℕ) (xs : List ℕ) (o : ℕ) → InRange p j → 0 < l.len → l.len < 2 ^ 31
    → HoldsItem p j a → IsLinkedFrom l a xs → AllByRecursion (Named p j) xs → is_in o xs ≡ true → IsMember p j l o
at_member p j l a [] o r some few n h named e = absurd (false≢true e)
at_member p j l a (y ∷ ys) o r some few n h named e =
    let pos : 0 < y = omega (arith, h.0) in
    by_first (IsMember p j l o) y o
    (λ s. subst (IsMember p j l) s (at_first p j l a y ys r some few pos n h named))
    (λ ne. at_member p j l y ys o r some few (inr (pos, named.0)) h.3 named.1 (in_rest y o ys ne e))

member : (p : Puzzle) (j : ℕ) (l : Line) (xs : List ℕ) (o : ℕ) → InRange p j → l.len ≡ length xs → length xs < 2 ^ 31
    → IsLinkedFrom l 0 xs → AllByRecursion (Named p j) xs → is_in o xs ≡ true → IsMember p j l o
member p j l xs o r len few linked named e = grind (arith, common_steps, false≢true, at_member p j l 0 xs o)

-- it is one still when another one has left
pub cut_member : (p : Puzzle) (j : ℕ) (l : Line) (o x : ℕ) → IsMember p j l o → IsMember p j l x → x ≢ o
    → 0 < (cut l o).len → IsMember p j (cut l o) x
cut_member p j l o x m n ne some = grind (arith, by_first, put_at-same, put_at-other)

-- ---- the lines after moves: each stands for its list, of options that hold the item

pub numbers_few : (p : Puzzle) (t : List Move) (j : ℕ) → length (listed_numbers p t j) ≤ length p.options
numbers_few p t j = grind (arith, length-listed, length-map)

-- each option of a list is a member of the line
pub listed_member : {p : Puzzle} (t : List Move) (j x : ℕ) → IsFit p → InRange p j
    → is_in x (listed_numbers p t j) ≡ true → IsMember p j (line_of p t j) x
listed_member {p} t j x fit r e =
    member p j _ (listed_numbers p t j) x r (sym (length-map (listed p t j) (λ o. o.number)))
    (omega (arith, numbers_few p t j, fit.few)) (stands p t j) (numbers_named p t j) e

-- ---- a line that loses what a move takes is that after the move; tables of the same lines and colours are the same

-- the members that leave one line: those that pass a test
pub record SameCut (p : Puzzle) (t : List Move) (m : Move) (j : ℕ) (ks : List ℕ) : Type 0 where
  pub test : ℕ → Bool
  pub cut_is : ks ≡ filter test (listed_numbers p t j)
  pub stay_is : listed_numbers p (m ∷ t) j ≡ stay test (listed_numbers p t j)

-- lines with the same length and links are the same
pub line_is : (l m : Line) → m.len ≡ l.len → ((x : ℕ) → m.up x ≡ l.up x) → ((x : ℕ) → m.down x ≡ l.down x) → m ≡ l
line_is l m len up down = grind (arith, fun_ext)

-- the line that loses what a move takes is that after the move
pub line_after : (p : Puzzle) (t : List Move) (m : Move) (j : ℕ) (ks : List ℕ) → SameCut p t m j ks
    → line_of p (m ∷ t) j ≡ cuts (line_of p t j) ks
line_after p t m j ks c =
    let xs = listed_numbers p t j in
    let s = subst (Swept (line_of p t j) (cuts (line_of p t j) (filter c.test xs)) 0 xs) (sym c.stay_is)
    (swept _ _ _ c.test (stands p t j)) in
    grind (arith, down_after, line_is, up_after, length-map, swept_len (line_of p t j) xs c.test 0)

-- ---- tables of the same lines

pub link_same : (p : Puzzle) (f g : ℕ → ℕ → ℕ) (fixed : ℕ) (s : Option (ℕ × ℕ))
    → ((j x : ℕ) → s ≡ Some (j, x) → g j x ≡ f j x) → link_at p g fixed s ≡ link_at p f fixed s
link_same p f g fixed s h = grind arith

top_same : (p : Puzzle) (ln rn : ℕ → Line) (k : ℕ) (n : Node) → ((j x : ℕ) → slot_of n ≡ Some (j, x) → rn j ≡ ln j)
    → top_in rn n ≡ top_in ln n
top_same p ln rn k (own i) h = ap (λ (l : Line). l.len) (h i 0 refl)
top_same p ln rn k _ h = refl

pub tables_same : (p : Puzzle) (ln rn : ℕ → Line) (col now : Node → ℕ) → IsLaid p
    → ((j : ℕ) → (0 < j) × (j ≤ item_count p) → rn j ≡ ln j)
    → ((k : ℕ) (n : Node) → slice_get (layout p) k ≡ Some n → now n ≡ col n) → nodes_from p rn now ≡ nodes_from p ln col
tables_same p ln rn col now laid h colours =
    let at : (k : ℕ) (n : Node) → slice_get (layout p) k ≡ Some n → (j x : ℕ) → slot_of n ≡ Some (j, x) → rn j ≡ ln j =
    λ k n e j x f. h j (laid.nodes.ranged k n j x e f) in
    same_nodes _ _ (map_same (top_in ln) (top_in rn) (layout p) (λ k n e. top_same p ln rn k _ (at k n e)))
    (map_same (ulink_in p ln) (ulink_in p rn) (layout p)
    (λ k n e. link_same p _ _ _ (slot_of n) (λ j x f. ap (λ (l : Line). l.up x) (at k n e j x f))))
    (map_same (dlink_in p ln) (dlink_in p rn) (layout p)
    (λ k n e. link_same p _ _ _ (slot_of n) (λ j x f. ap (λ (l : Line). l.down x) (at k n e j x f))))
    (map_same col now (layout p) colours)

-- ======== Members that left one line from top to bottom come back in the same order: each finds its neighbours of
-- before, and at the end the line is as it was. For the undoing of many Tweaks at once.

-- these members come back to the line m one after another, each between its neighbours in l, and make it l
abbrev pub Regaining : Line → Line → List ℕ → Type 0
Regaining l m [] = m ≡ l
Regaining l m (k ∷ ks) = (m.up k ≡ l.up k) × (m.down k ≡ l.down k) × Regaining l (mended m k) ks

pub regaining_len : (l m : Line) (ks : List ℕ) → Regaining l m ks → m.len + length ks ≡ l.len
regaining_len l m [] h = let e = ap (λ (k : Line). k.len) h in omega (arith, e)
regaining_len l m (k ∷ ks) h = let r = regaining_len l (mended m k) ks h.2 in omega (arith, r)

-- a member below a, to which those beside it lead
record IsBelow (l : Line) (a x : ℕ) : Type 0 where
  over : a < x
  up_back : l.down (l.up x) ≡ x
  down_back : l.up (l.down x) ≡ x

below_more : (l : Line) (a b : ℕ) (xs : List ℕ) → a ≤ b → AllByRecursion (IsBelow l b) xs
    → AllByRecursion (IsBelow l a) xs
below_more l a b [] le h = tt
below_more l a b (x ∷ xs) le h = grind (arith, below_more l a b xs le h.1)

linked_below : (l : Line) (a : ℕ) (xs : List ℕ) → IsLinkedFrom l a xs → AllByRecursion (IsBelow l a) xs
linked_below l a [] h = tt
linked_below l a (x ∷ []) h = (grind arith, tt)
linked_below l a (x ∷ y ∷ xs) h = grind (arith, below_more, linked_below l x (y ∷ xs) h.3)

-- the first member that leaves comes back to its line
-- two members come back in either order
swapped : (l m : Line) (a y k : ℕ) → l.up y ≡ a → IsBelow l a y → IsBelow l y k → m.up y ≡ l.up y → m.down y ≡ l.down y
    → m.up k ≡ (cut l y).up k → m.down k ≡ (cut l y).down k → mended (mended m k) y ≡ mended (mended m y) k
swapped l m a y k up b h my_up my_down mk_up mk_down = grind (arith, put_at-same, put_at-other)

-- what comes back to the line without its member y does so once y is back
behind_first : (l m : Line) (a y : ℕ) (ks : List ℕ) → 0 < l.len → l.down a ≡ y → l.up y ≡ a → IsBelow l a y
    → AllByRecursion (IsBelow l y) ks → m.up y ≡ l.up y → m.down y ≡ l.down y → Regaining (cut l y) m ks
    → Regaining l (mended m y) ks
behind_first l m a y [] some down up b below mu md h = grind (arith, line_is, cut, put_at-same, put_at-other)
behind_first l m a y (k ∷ ks) some down up b below mu md h = (
  grind (arith, put_at-same, put_at-other),
  grind (arith, put_at-same, put_at-other),
  subst (λ (n : Line). Regaining l n ks) (swapped l m a y k up b below.0 mu md h.0 h.1)
      (behind_first l (mended m k) a y ks some down up b below.1
      (grind (arith, put_at-same, put_at-other))
      (grind (arith, put_at-same, put_at-other)) h.2),
)

-- before the first comes back
pub regaining : (l : Line) (a : ℕ) (xs : List ℕ) (g : ℕ → Bool) → IsLinkedFrom l a xs → length xs ≤ l.len
    → Regaining l (cuts l (filter g xs)) (filter g xs)
regaining l a [] g linked long = refl
regaining l a (y ∷ ys) g linked long =
    let below = linked_below l a (y ∷ ys) linked in
    let rise = rises l a (y ∷ ys) linked in
    let after = cut-linked l a y ys linked in
    let s = swept (cut l y) a ys g after in
    let m : Line = cuts (cut l y) (filter g ys) in
    let up_kept : m.up y ≡ l.up y = grind (arith, not_in, put_at-other) in
    let down_kept : m.down y ≡ l.down y = grind (arith, not_in, put_at-other, Rises-filter) in
    let back = behind_first l m a y (filter g ys) (omega (arith, long)) linked.1 linked.2 below.0
    (each-filter (IsBelow l y) g ys (linked_below l y ys linked.3)) up_kept down_kept
    (regaining (cut l y) a ys g after (omega (arith, long))) in
    let stays = regaining l y ys g linked.3 (omega (arith, long)) in grind arith
