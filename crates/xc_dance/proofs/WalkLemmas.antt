-- Walks over nodes, and what one option's leaving writes.
use Rattle.std.proofs.Common.{◌++◌, ◌≡◌, ◌≢◌, ℕ, zero, suc, ◌+◌, ◌<◌, ◌≤◌, List, [], ◌∷◌, length, get_or, drop, fold}
use Rattle.std.proofs.Common.{refl, ap, sym, subst, arith, eqb-true, ◌-◌, reverse, map, inr, Bool, true, false, cond}
use Rattle.std.proofs.Common.{eqb, ◌∙◌, not, ◌&&◌, filter, append-nil, ◌||◌, eq-eqb, ne_eqb, Option, ◌*◌, ltb, Some}
use Rattle.std.proofs.Common.{None, ltb-true, ltb-false, option_map}
use Rattle.std.specs.List.{range_with_len, sum_by, AllByRecursion}
use Rattle.std.proofs.lemmas.List.Sums.{sum_by-cons}
use Rattle.std.proofs.lemmas.Grind.{common_steps}
use Rattle.std.proofs.lemmas.Bool.{eqb-false, false≢true, and_parts}
use Rattle.std.proofs.lemmas.List.{drop_more, reverse-append, length-map, get_or_past}
use Rattle.std.proofs.lemmas.Option.{slice_get_within, slice_get-get_or, same_Some, slice_get-map}
use Rattle.std.proofs.lemmas.Option.{get_or_from_slice_get}
use Rattle.std.specs.Prelude.{is_some, slice_get}
use Rattle.std.proofs.lemmas.List.Folds.{list_any-append}
use Rattle.std.proofs.lemmas.List.Sorted.{list_any-IsPermutation, IsPermutation-reverse}
use Rattle.xc_input.specs.Problem.{Puzzle, colour_in, uses_of, item_count}
use Rattle.xc_input.specs.declared.problem.Use.{Use}
use Rattle.xc_dance.specs.inner.Tables.{Nodes, Line, nodes_from, IsLaid, DifferByItem, IsFit, Span, color_in}
use Rattle.xc_dance.specs.inner.Tables.{nodes_after, span_of, spans_of}
use Rattle.xc_dance.specs.inner.Walks.{followed, IsSpacer, places, hidden, unhidden, CanHide, CanUnhide, hide_cost}
use Rattle.xc_dance.specs.inner.Walks.{costs, CanAll, CanFollow, IsFitted, left_node, back_node, IsPlain, HasUnmarked}
use Rattle.xc_dance.specs.inner.Walks.{IsUnmarked}
use Rattle.xc_moves.specs.inner.Uses.{before_use, behind_use}
use Rattle.xc_dance.specs.declared.links.cells.marks.TheConstants.{SPACER, MARK}
use Rattle.xc_moves.specs.Places.{Node, layout, link_place, is_in, unused, own, used}
use Rattle.xc_dance.specs.Fields.{is_marked}
use Rattle.xc_dance.specs.inner.Lists.{keeps_colour}
use Rattle.xc_moves.specs.declared.dance.Move.{Move}
use Rattle.xc_moves.specs.declared.dance.Move.TheVariants.{Purify}
use Rattle.xc_moves.specs.Moves.{AreLegal}
use Rattle.xc_dance.proofs.LineLemmas.{out_rest, is_in-other, get_item, Step, step_open, step_marked, other_items, cut}
use Rattle.xc_dance.proofs.LineLemmas.{with_line, in_more, is_in-first, InRange, IsMember, cuts, get_map}
use Rattle.xc_moves.proofs.MoveLemmas.{Named}
use Rattle.xc_dance.proofs.TableLemmas.{is_at}

-- ======== Walks over nodes, under way and at their end, along links and over places in a row.

-- ---- walks over nodes, under way and at their end: for hide and unhide, down a list and up, and down nodes that come
-- back

-- ---- steps at the places of a list

-- a walk in two parts
pub CanAll-append : (step : Nodes → ℕ → Nodes) (Can : Nodes → ℕ → Type 0) (t : Nodes) (ps qs : List ℕ)
    → CanAll step Can t (ps ++ qs) → CanAll step Can t ps × CanAll step Can (fold step t ps) qs
CanAll-append step Can t [] qs h = (tt, h)
CanAll-append step Can t (p ∷ ps) qs h = let r = CanAll-append step Can (step t p) ps qs h.1 in ((h.0, r.0), r.1)

pub costs-append : (step : Nodes → ℕ → Nodes) (writes : Nodes → ℕ → ℕ) (t : Nodes) (ps qs : List ℕ)
    → costs step writes t (ps ++ qs) ≡ costs step writes t ps + costs step writes (fold step t ps) qs
costs-append step writes t [] qs = omega arith
costs-append step writes t (p ∷ ps) qs = let e = costs-append step writes (step t p) ps qs in omega (arith, e)

-- a kind of walk: its step, when that may be made, what it writes, and by which links it goes on
pub record Kind : Type 1 where
  pub step : Nodes → ℕ → Nodes
  pub Can : Nodes → ℕ → Type 0
  pub writes : Nodes → ℕ → ℕ
  pub links : Nodes → List ℕ

-- hide goes up to a spacer, and unhide down to one
abbrev pub hide_walk : Kind
hide_walk = record { step = hidden; Can = CanHide; writes = hide_cost; links = λ t. t.ulink }

abbrev pub unhide_walk : Kind
unhide_walk = record { step = unhidden; Can = CanUnhide; writes = hide_cost; links = λ t. t.dlink }

-- n cells were written on the way from table t0 to t, and the steps that are left lead to the end of all
pub record Underway (k : Kind) (t0 : Nodes) (all : List ℕ) (t : Nodes) (left : List ℕ) (n : ℕ) : Type 0 where
  pub can : CanAll k.step k.Can t left
  pub done : fold k.step t left ≡ fold k.step t0 all
  pub cost : n + costs k.step k.writes t left ≡ costs k.step k.writes t0 all

-- the table that was reached, and what was written
pub record Reached (k : Kind) (t0 : Nodes) (all : List ℕ) (t : Nodes) (n : ℕ) : Type 0 where
  pub done : t ≡ fold k.step t0 all
  pub cost : n ≡ costs k.step k.writes t0 all

pub underway : {k : Kind} (t0 : Nodes) (all left : List ℕ) → left ≡ all → CanAll k.step k.Can t0 all
    → Underway k t0 all t0 left 0
underway {k} t0 all left e can = grind arith

-- ---- ways there and back

pub map_reverse : (f : ℕ → ℕ) (xs : List ℕ) → reverse (map f xs) ≡ map f (reverse xs)
map_reverse f [] = grind (arith, common_steps)
map_reverse f (x ∷ xs) = grind (arith, common_steps, map_reverse f xs)

-- R leads from s to v, a step for each of xs
abbrev pub Way : {S : Type 0} → (S → S → ℕ → Type 0) → S → List ℕ → S → Type 0
Way R s [] v = s ≡ v
Way {S} R s (x ∷ xs) v = (u : S) × (R s u x × Way R u xs v)

way_push : {S : Type 0} (R : S → S → ℕ → Type 0) (s : S) (xs : List ℕ) (u v : S) (x : ℕ) → Way R s xs u → R u v x
    → Way R s (xs ++ x ∷ []) v
way_push R s [] u v x w r = (v, (subst (λ a. R a v x) (sym w) r, refl))
way_push R s (y ∷ xs) u v x w r = (w.0, (w.1.0, way_push R w.0 xs u v x w.1.1 r))

pub way_back : {S : Type 0} (R : S → S → ℕ → Type 0) (s : S) (xs : List ℕ) (v : S) → Way R s xs v
    → Way (λ a b. R b a) v (reverse xs) s
way_back R s [] v w = sym w
way_back R s (x ∷ xs) v w = grind (arith, common_steps, reverse-append, way_push, way_back R w.0 xs v w.1.1)

pub way_split : {S : Type 0} (R : S → S → ℕ → Type 0) (s : S) (xs ys : List ℕ) (v : S) → Way R s (xs ++ ys) v
    → (u : S) × (Way R s xs u × Way R u ys v)
way_split R s [] ys v w = (s, (refl, w))
way_split R s (x ∷ xs) ys v w = let r = way_split R w.0 xs ys v w.1.1 in (r.0, ((w.0, (w.1.0, r.1.0)), r.1.1))

-- what a way of steps makes of tables
pub way_made : {S : Type 0} (R : S → S → ℕ → Type 0) (table : S → Nodes) (place : ℕ → ℕ) (step : Nodes → ℕ → Nodes)
    (Can : Nodes → ℕ → Type 0)
    → ((s u : S) (x : ℕ) → R s u x → Can (table s) (place x) × (step (table s) (place x) ≡ table u)) → (s : S)
    (xs : List ℕ) (v : S) → Way R s xs v
    → CanAll step Can (table s) (map place xs) × (fold step (table s) (map place xs) ≡ table v)
way_made R table place step Can each s [] v w = (tt, ap table w)
way_made R table place step Can each s (x ∷ xs) v w = grind (arith, way_made R table place step Can each w.0 xs v w.1.1)

-- a step at node x leads from t to u, and writes n cells
pub record Leads (k : Kind) (t u : Nodes) (x n : ℕ) : Type 0 where
  pub can : k.Can t x
  pub done : k.step t x ≡ u
  pub cost : k.writes t x ≡ n

-- the walk is at q before it, and at q' then
pub record Led (k : Kind) (t u : Nodes) (q q' x n : ℕ) : Type 0 where
  pub leads : Leads k t u x n
  pub here : q ≡ x
  pub within : x < length (k.links u)
  pub next : get_or (k.links u) x 0 ≡ q'

-- a walk of such steps
pub record AllLed (k : Kind) (t u : Nodes) (q : ℕ) (qs : List ℕ) (n : ℕ) : Type 0 where
  pub walk : CanFollow k.step k.Can k.links t q qs
  pub done : fold k.step t qs ≡ u
  pub costs : costs k.step k.writes t qs ≡ n

pub way_led : {S : Type 0} (R : S → S → ℕ → Type 0) (k : Kind) (table : S → Nodes) (at : S → ℕ) (place w : ℕ → ℕ)
    → ((s u : S) (x : ℕ) → R s u x → Led k (table s) (table u) (at s) (at u) (place x) (w x)) → (s : S) (xs : List ℕ)
    (v : S) → Way R s xs v → AllLed k (table s) (table v) (at s) (map place xs) (sum_by w xs)
way_led R k table at place w each s [] v way = record { walk = tt; done = ap table way; costs = refl }
way_led R k table at place w each s (x ∷ xs) v way =
    grind (arith, sum_by-cons, way_led R k table at place w each way.0 xs v way.1.1)

-- ---- up to a spacer

-- what TOP tells at q: the spacer z, where nothing is left, or the next place before it
pub record Tells (t u : Nodes) (q z : ℕ) (left : List ℕ) : Type 0 where
  pub within : q < length t.top
  pub low : get_or t.top q 0 < SPACER → q ≢ z
  pub at : SPACER ≤ get_or t.top q 0 → q ≡ z
  pub none : SPACER ≤ get_or t.top q 0 → left ≡ []
  pub is : SPACER ≤ get_or t.top q 0 → t ≡ u

module _ {k : Kind} {t0 : Nodes} {all : List ℕ} {t : Nodes} {left : List ℕ} {n : ℕ} where
  -- the first step of those that are left
  pub step_can : (q : ℕ) (more : List ℕ) → left ≡ q ∷ more → Underway k t0 all t left n → k.Can t q
  step_can q more e h = (subst (CanAll k.step k.Can t) e h.can).0

  pub step_on : (q : ℕ) (more : List ℕ) (u : Nodes) (m : ℕ) → left ≡ q ∷ more → u ≡ k.step t q → m ≡ k.writes t q
      → Underway k t0 all t left n → Underway k t0 all u more (n + m)
  step_on q more u m e is paid h = grind arith

  pub steps_end : left ≡ [] → Underway k t0 all t left n → Reached k t0 all t n
  steps_end e h = grind arith

  pub tells : (q z : ℕ) → ((v : Nodes) (x : ℕ) → k.Can v x → (x < length v.top) × (get_or v.top x 0 < SPACER))
      → (q ≡ z → left ≡ []) → (q ≢ z → (more : List ℕ) × (left ≡ q ∷ more)) → IsSpacer (fold k.step t0 all) z
      → Underway k t0 all t left n → Tells t (fold k.step t0 all) q z left
  tells q z knows met on spacer h = grind (arith, all, left, eqb-true, steps_end, eqb-false, step_can)

-- ---- along links

pub length-followed : (links : List ℕ) (n p : ℕ) → length (followed links n p) ≡ n
length-followed links zero p = refl
length-followed links (suc n) p = ap suc (length-followed links n (get_or links p 0))

-- the same of a walk along m links from node x, which is at node p, k nodes on
pub record Following (w : Kind) (t0 : Nodes) (m x : ℕ) (t : Nodes) (p k n : ℕ) : Type 0 where
  pub walk : CanFollow w.step w.Can w.links t p (drop k (followed (w.links t0) m x))
  pub done : fold w.step t (drop k (followed (w.links t0) m x)) ≡ fold w.step t0 (followed (w.links t0) m x)
  pub cost : n + costs w.step w.writes t (drop k (followed (w.links t0) m x))
      ≡ costs w.step w.writes t0 (followed (w.links t0) m x)

-- the node that it is at comes first of those that are left
pub record Here (w : Kind) (all : List ℕ) (t : Nodes) (p k : ℕ) : Type 0 where
  pub first : drop k all ≡ p ∷ drop (k + 1) all
  pub can : w.Can t p
  pub within : (u : Nodes) → u ≡ w.step t p → p < length (w.links u)
  pub next : CanFollow w.step w.Can w.links (w.step t p) (get_or (w.links (w.step t p)) p 0) (drop (k + 1) all)

module _ {w : Kind} {t0 : Nodes} {m x : ℕ} {t : Nodes} {p k n : ℕ} where
  pub follow_here : k < m → Following w t0 m x t p k n → Here w (followed (w.links t0) m x) t p k
  follow_here lt h =
      let all : List ℕ = followed (w.links t0) m x in
      let at : drop k all ≡ get_or all k 0 ∷ drop (k + 1) all = grind (arith, drop_more, length-followed) in
      let first : drop k all ≡ p ∷ drop (k + 1) all = grind arith in
      grind (arith, subst (CanFollow w.step w.Can w.links t p) first h.walk)

  pub follow_on : (u : Nodes) (q c : ℕ) → k < m → u ≡ w.step t p → q ≡ get_or (w.links u) p 0 → c ≡ w.writes t p
      → Following w t0 m x t p k n → Following w t0 m x u q (k + 1) (n + c)
  follow_on u q c lt is to paid h = grind (arith, follow_here lt h)

  pub follow_end : m ≤ k → Following w t0 m x t p k n → Reached w t0 (followed (w.links t0) m x) t n
  follow_end le h = grind (arith, common_steps, length-followed)

-- ---- places in a row, one by one

pub places_none : (a b : ℕ) → b ≤ a → places a b ≡ []
places_none a b le = let z : b - a ≡ 0 = omega (arith, le) in ap (range_with_len a) z

-- the first of the places comes before the others
pub places_more : (a b : ℕ) → a < b → places a b ≡ a ∷ places (a + 1) b
places_more a b h = let e : b - a ≡ suc (b - (a + 1)) = omega arith in ap (range_with_len a) e

range_with_len_push : (a n : ℕ) → range_with_len a (suc n) ≡ range_with_len a n ++ (a + n) ∷ []
range_with_len_push a zero = grind arith
range_with_len_push a (suc n) = grind (arith, range_with_len_push (a + 1) n)

-- the last of the places comes behind the others
-- from the last back
pub reverse-places : (a b : ℕ) → a ≤ b → reverse (places a (b + 1)) ≡ b ∷ reverse (places a b)
reverse-places a b h = grind (arith, reverse-append, range_with_len_push)

-- the places up to q, from the last back
pub last_first : (a q : ℕ) → a < q → reverse (places a q) ≡ (q - 1) ∷ reverse (places a (q - 1))
last_first a q h = grind (arith, reverse-places)

-- ======== A walk round an option, for hide and unhide: to its spacer, and from where that leads on to the node of
-- the start.

-- the spacer was met: the steps that are left may be made, and lead to the end of all
pub record Met (k : Kind) (t0 : Nodes) (all : List ℕ) (t : Nodes) (n : ℕ) (left : List ℕ) : Type 0 where
  pub can : CanAll k.step k.Can t left
  pub round : (u : Nodes) (m : ℕ) → u ≡ fold k.step t left → m ≡ costs k.step k.writes t left
      → Reached k t0 all u (n + m)

pub met : {k : Kind} {t0 t : Nodes} {all here : List ℕ} {n : ℕ} (ps qs left : List ℕ) (q z : ℕ) → all ≡ ps ++ qs
    → CanAll k.step k.Can t0 all → Underway k t0 ps t here n → Tells t (fold k.step t0 ps) q z here
    → SPACER ≤ get_or t.top q 0 → left ≡ qs → Met k t0 all t n left
met {k} {t0} {t} {n = n} ps qs left q z parts can h tells high is =
    grind (arith, common_steps, CanAll-append, steps_end, costs-append)

-- ======== An option leaves the lists of some of its items, one after another.

-- the node of option o in item j's list is marked
abbrev pub is_mark : Puzzle → (Node → ℕ) → ℕ → ℕ → Bool
is_mark p col o j = eqb (get_or (map (col) (layout p)) (link_place p j o) 0) MARK

pub line_here : (ln : ℕ → Line) (i : ℕ) (l : Line) → with_line ln i l i ≡ l
line_here ln i l = grind arith

pub line_there : (ln : ℕ → Line) (i j : ℕ) (l : Line) → j ≢ i → with_line ln i l j ≡ ln j
line_there ln i j l ne = grind arith

-- option o leaves item j's list or comes back, by what this makes of its line, unless it is marked there
abbrev pub changed_one : (Line → ℕ → Line) → Puzzle → (Node → ℕ) → ℕ → (ℕ → Line) → ℕ → ℕ → Line
changed_one change p col o ln j = cond (is_mark p col o j) ln (with_line ln j (change (ln j) o))

-- the same for some items in turn
abbrev pub changed_all : (Line → ℕ → Line) → Puzzle → (Node → ℕ) → ℕ → (ℕ → Line) → List ℕ → ℕ → Line
changed_all change p col o ln js = fold (changed_one change p col o) ln js

abbrev pub left_one : Puzzle → (Node → ℕ) → ℕ → (ℕ → Line) → ℕ → ℕ → Line
left_one = changed_one cut

abbrev pub left_all : Puzzle → (Node → ℕ) → ℕ → (ℕ → Line) → List ℕ → ℕ → Line
left_all = changed_all cut

-- how many of option o's other nodes leave their lists
abbrev pub gone_count : Puzzle → (Node → ℕ) → ℕ → ℕ → ℕ
gone_count p col i o = length (filter (λ j. not (is_mark p col o j)) (other_items p o i))

-- no two of them are the same
abbrev pub AllApart : List ℕ → Type 0
AllApart [] = Unit {0}
AllApart (j ∷ js) = (is_in j js ≡ false) × AllApart js

module _ (change : Line → ℕ → Line) (p : Puzzle) (col : Node → ℕ) (o : ℕ) where
  pub one_other : (ln : ℕ → Line) (j k : ℕ) → j ≢ k → changed_one change p col o ln j k ≡ ln k
  one_other ln j k ne = grind (arith, line_there)

  pub all_other : (ln : ℕ → Line) (js : List ℕ) (k : ℕ) → is_in k js ≡ false → changed_all change p col o ln js k ≡ ln k
  all_other ln [] k out = refl
  all_other ln (j ∷ js) k out =
      let ne = out_rest j k js out in
      all_other (changed_one change p col o ln j) js k (sym (is_in-other j k js ne) ∙ out) ∙ one_other ln j k ne

  -- the line of item k after all of them
  pub all_at : (ln : ℕ → Line) (js : List ℕ) (k : ℕ) → AllApart js
      → changed_all change p col o ln js k ≡ cond (is_in k js && not (is_mark p col o k)) (change (ln k) o) (ln k)
  all_at ln [] k apart = grind (arith, all_other, eqb-false, eqb-true, line_here, one_other)
  all_at ln (j ∷ js) k apart =
      let rest = all_at (changed_one change p col o ln j) js k apart.1 in
      grind (arith, all_other, eqb-false, eqb-true, line_here, one_other)

-- ---- what its leaving asks of one item and of all

-- item j, whose line is l: where the option's node there isn't marked it is a member
pub record Ready (p : Puzzle) (col : Node → ℕ) (o j : ℕ) (l : Line) : Type 0 where
  pub item : InRange p j
  pub named : Named p j o
  pub member : is_mark p col o j ≡ false → IsMember p j l o

abbrev pub AreReady : Puzzle → (Node → ℕ) → (ℕ → Line) → ℕ → List ℕ → Type 0
AreReady p col ln o js = (j : ℕ) → is_in j js ≡ true → Ready p col o j (ln j)

-- a step of hide at its node in item j's list, which leads from the lines ln to ln'
abbrev pub Hides : Puzzle → (Node → ℕ) → ℕ → (ℕ → Line) → (ℕ → Line) → ℕ → Type 0
Hides p col o ln ln' j = Step (nodes_from p ln col) (nodes_from p ln' col) (link_place p j o)

hides_one : (p : Puzzle) (col : Node → ℕ) (ln : ℕ → Line) (o j : ℕ) → IsLaid p → 0 < o → Ready p col o j (ln j)
    → Hides p col o ln (left_one p col o ln j) j
hides_one p col ln o j laid pos r =
    elim (is_mark p col o j) as (λ b. is_mark p col o j ≡ b
    → Hides p col o ln (cond b ln (with_line ln j (cut (ln j) o))) j) [
      | true ↦ λ e.
          let here = laid.there j o r.item.0 r.item.1 (inr (pos, r.named)) in
          step_marked p col ln (link_place p j o) (slice_get_within (layout p) (link_place p j o) here.node here.at)
          (omega (arith, get_item p ln j o here pos, r.item.1, laid.small)) e
      | false ↦ λ e. step_open p col ln j o laid (r.member e) e
    ] refl

pub apart_in : (j k : ℕ) (js : List ℕ) → is_in j js ≡ false → is_in k js ≡ true → j ≢ k
apart_in j k js out e s = false≢true (sym out ∙ ap (λ m. is_in m js) s ∙ e)

-- the walk over its nodes in the lists of the items js
pub walked : (p : Puzzle) (col : Node → ℕ) (ln : ℕ → Line) (o : ℕ) (js : List ℕ) → IsLaid p → 0 < o → AllApart js
    → AreReady p col ln o js → Way (Hides p col o) ln js (left_all p col o ln js)
walked p col ln o [] laid pos apart ready = refl
walked p col ln o (j ∷ js) laid pos apart ready = (
  left_one p col o ln j,
  (
    hides_one p col ln o j laid pos (ready j (is_in-first j js)),
    walked p col (left_one p col o ln j) o js laid pos apart.1 (λ k e.
        subst (Ready p col o k) (sym (one_other cut p col o ln j k (apart_in j k js apart.0 e)))
        (ready k (in_more j k js e))),
  ),
)

-- ======== The other items of an option: what its leaving does to the line of each, and that they are apart.

-- ---- the other items of an option, and what its leaving does to the line of one item

pub items_of : (us : List Use) (k : ℕ) → is_in k (map (λ u. u.item) us) ≡ is_some (colour_in us k)
items_of [] k = grind arith
items_of (u ∷ us) k = grind (arith, items_of us k)

-- the other items are those that the option holds, but i
pub others_by : (us : List Use) (i k : ℕ) → DifferByItem us
    → (is_in k (behind_use i us) || is_in k (before_use i us)) ≡ (not (eqb k i) && is_some (colour_in us k))
others_by [] i k d = elim (eqb k i) as (λ b. false ≡ (not b && false)) [ true ↦ refl | false ↦ refl ]
others_by (u ∷ us) i k d = grind (arith, eq-eqb, eqb-false, eqb-true, items_of, ne_eqb, others_by us i k d.1)

-- whether option o leaves item k's list by a walk down i's
abbrev pub leaves : Puzzle → (Node → ℕ) → ℕ → ℕ → ℕ → Bool
leaves p col i k o = is_in k (other_items p o i) && not (is_mark p col o k)

-- ---- the other items of an option are apart from each other and from its own

in_insert : (x k : ℕ) (xs ys : List ℕ) → is_in x (xs ++ k ∷ ys) ≡ (eqb k x || is_in x (xs ++ ys))
in_insert x k [] ys = refl
in_insert x k (y ∷ xs) ys = grind (arith, in_insert x k xs ys)

all_insert : (k : ℕ) (xs ys : List ℕ) → (is_in k xs || is_in k ys) ≡ false → AllApart (xs ++ ys)
    → AllApart (xs ++ k ∷ ys)
all_insert k [] ys e h = (e, h)
all_insert k (x ∷ xs) ys e h = grind (arith, eqb-false, eqb-true, eq-eqb, ne_eqb, in_insert, all_insert k xs ys)

items_apart : (us : List Use) → DifferByItem us → AllApart (map (λ u. u.item) us)
items_apart [] d = tt
items_apart (u ∷ us) d = (items_of us u.item ∙ d.0, items_apart us d.1)

others_apart_of : (us : List Use) (i : ℕ) → DifferByItem us → AllApart (behind_use i us ++ before_use i us)
others_apart_of [] i d = grind (arith, all_insert, append-nil, items_apart, others_by)
others_apart_of (u ∷ us) i d = grind (arith, all_insert, append-nil, items_apart, others_by, others_apart_of us i d.1)

pub in_reverse : (k : ℕ) (xs : List ℕ) → is_in k (reverse xs) ≡ is_in k xs
in_reverse k xs = sym (list_any-IsPermutation (λ j. eqb j k) xs (reverse xs) (IsPermutation-reverse xs))

pub apart_reverse : (xs : List ℕ) → AllApart xs → AllApart (reverse xs)
apart_reverse [] h = tt
apart_reverse (x ∷ xs) h =
    grind (arith, common_steps, reverse-append, all_insert, in_reverse, append-nil, apart_reverse xs h.1)

pub others_apart : (p : Puzzle) (o i : ℕ) → IsFit p → AllApart (other_items p o i)
others_apart p o i fit = others_apart_of (uses_of p o) i (fit.distinct o)

pub item_range : (p : Puzzle) (us : List Use) (j : ℕ) → AllByRecursion (λ u. (0 < u.item) × (u.item ≤ item_count p)) us
    → is_some (colour_in us j) ≡ true → (0 < j) × (j ≤ item_count p)
item_range p [] j a e = absurd (false≢true e)
item_range p (u ∷ us) j a e = grind (arith, eqb-true, item_range p us j a.1)

-- the item itself isn't among them
pub own_apart : (p : Puzzle) (i o : ℕ) → IsFit p → is_in i (other_items p o i) ≡ false
own_apart p i o fit = grind (arith, list_any-append, others_by)

-- one of them
pub record OtherItem (p : Puzzle) (o i j : ℕ) : Type 0 where
  pub ne : j ≢ i
  pub named : Named p j o
  pub item : InRange p j

pub other_item : {p : Puzzle} (o i j : ℕ) → IsFit p → is_in j (other_items p o i) ≡ true → OtherItem p o i j
other_item {p} o i j fit e = grind (arith, and_parts, false≢true, item_range, list_any-append, others_by)

-- ---- a walk down item i's list, which keeps the options of a colour: what it does to the lines

-- those of the options that leave
abbrev pub leavers : Puzzle → ℕ → Option ℕ → List ℕ → List ℕ
leavers p i keep xs = filter (λ o. not (keeps_colour p i keep o)) xs

-- option o is met
abbrev pub left_by : Puzzle → (Node → ℕ) → ℕ → Option ℕ → (ℕ → Line) → ℕ → ℕ → Line
left_by p col i keep ln o = cond (keeps_colour p i keep o) ln (left_all p col o ln (other_items p o i))

-- the options xs are met, one after another
abbrev pub left_list : Puzzle → (Node → ℕ) → ℕ → Option ℕ → (ℕ → Line) → List ℕ → ℕ → Line
left_list p col i keep ln xs = fold (left_by p col i keep) ln xs

pub list_at : (p : Puzzle) (col : Node → ℕ) (i : ℕ) (keep : Option ℕ) (ln : ℕ → Line) (xs : List ℕ) (k : ℕ) → IsFit p
    → left_list p col i keep ln xs k ≡ cuts (ln k) (filter (leaves p col i k) (leavers p i keep xs))
list_at p col i keep ln [] k fit = refl
list_at p col i keep ln (o ∷ xs) k fit =
    let here = all_at cut p col o ln (other_items p o i) k (others_apart p o i fit) in
    list_at p col i keep (left_by p col i keep ln o) xs k fit ∙ grind arith

-- ======== What steps write at nodes that aren't marked, and where no node of an option is.

-- ---- what steps of hide and unhide write: 3 at each node that isn't marked

abbrev pub unmarked_costs : List ℕ → List ℕ → ℕ
unmarked_costs color [] = 0
unmarked_costs color (q ∷ qs) = cond (eqb (get_or color q 0) MARK) 0 3 + unmarked_costs color qs

pub hidden_color : (t : Nodes) (q : ℕ) → (hidden t q).color ≡ t.color
hidden_color t q = grind arith

pub unhidden_color : (t : Nodes) (q : ℕ) → (unhidden t q).color ≡ t.color
unhidden_color t q = grind arith

-- steps that leave the colours as they are
pub costs-are : (step : Nodes → ℕ → Nodes) → ((t : Nodes) (q : ℕ) → (step t q).color ≡ t.color)
    → (t : Nodes) (qs : List ℕ) → costs step hide_cost t qs ≡ unmarked_costs t.color qs
costs-are step same t [] = refl
costs-are step same t (q ∷ qs) = grind (arith, costs-are step same (step t q) qs)

pub colors-are : (step : Nodes → ℕ → Nodes) → ((t : Nodes) (q : ℕ) → (step t q).color ≡ t.color)
    → (t : Nodes) (qs : List ℕ) → (fold step t qs).color ≡ t.color
colors-are step same t [] = refl
colors-are step same t (q ∷ qs) = colors-are step same (step t q) qs ∙ same t q

unmarked-append : (color ps qs : List ℕ)
    → unmarked_costs color (ps ++ qs) ≡ unmarked_costs color ps + unmarked_costs color qs
unmarked-append color [] qs = omega arith
unmarked-append color (p ∷ ps) qs = let r = unmarked-append color ps qs in omega (arith, r)

-- back it is the same
pub unmarked-reverse : (color qs : List ℕ) → unmarked_costs color (reverse qs) ≡ unmarked_costs color qs
unmarked-reverse color [] = grind (arith, common_steps, unmarked-append)
unmarked-reverse color (q ∷ qs) = grind (arith, common_steps, unmarked-append, unmarked-reverse color qs)

-- for option o's nodes in the lists of the items js
pub unmarked_items : (p : Puzzle) (col : Node → ℕ) (o : ℕ) (js : List ℕ) → unmarked_costs (map col (layout p))
    (map (λ j. link_place p j o) js) ≡ 3 * length (filter (λ j. not (is_mark p col o j)) js)
unmarked_items p col o [] = grind arith
unmarked_items p col o (j ∷ js) = grind (arith, unmarked_items p col o js)

-- ---- where no use has a colour no node of an option is marked, and no walk marks one

no_colour : (us : List Use) (j c : ℕ) → AllByRecursion (λ u. u.colour ≡ 0) us → colour_in us j ≡ Some c → c ≡ 0
no_colour [] j c a e = cc
no_colour (u ∷ us) j c a e = grind (arith, same_Some, no_colour us j c a.1)

-- ---- the colours of its nodes

-- a Purify marks with a colour
never_marked : (p : Puzzle) (t : List Move) (i o : ℕ) → AreLegal p t → is_marked p t i o 0 ≡ false
never_marked p [] i o legal = grind (arith, ne_eqb)
never_marked p (Purify j d ∷ t) i o legal = grind (arith, ne_eqb, never_marked p t i o legal.1)
never_marked p (_ ∷ t) i o legal = grind (arith, ne_eqb, never_marked p t i o legal.1)

no_color : (p : Puzzle) (t : List Move) (q : ℕ) (n : Node) → IsLaid p → AreLegal p t → IsPlain p → item_count p < q
    → slice_get (layout p) q ≡ Some n → color_in p t n ≡ 0
no_color p t q (own i) laid legal plain gt e = grind (arith, is_at p q (own i) e)
no_color p t q (used o u) laid legal plain gt e =
    let none : u.colour ≡ 0 = no_colour (uses_of p o) u.item u.colour (plain o) (laid.nodes.coloured q o u e) in
    grind (arith, never_marked)
no_color p t q _ laid legal plain gt e = refl

-- behind the items none is marked
unmarked_behind : (p : Puzzle) (t : List Move) (q : ℕ) → IsLaid p → AreLegal p t → IsPlain p → item_count p < q
    → get_or (nodes_after p t).color q 0 ≢ MARK
unmarked_behind p t q laid legal plain gt =
    let zeroed : get_or (nodes_after p t).color q 0 ≡ 0 =
    elim (ltb q (length (layout p))) as (λ b. ltb q (length (layout p)) ≡ b → get_or (nodes_after p t).color q 0 ≡ 0) [
      | true ↦ λ e.
          let here = slice_get-get_or (layout p) q unused (ltb-true q (length (layout p)) e) in
          grind (arith, get_map, no_color, get_or (layout p) q unused)
      | false ↦ λ e. grind (arith, get_or_past, length-map, ltb-false)
    ] refl in
    grind arith

-- ---- the spans

pub used_behind : (p : Puzzle) (x o : ℕ) (u : Use) → slice_get (layout p) x ≡ Some (used o u) → item_count p < x
used_behind p x o u e = omega (arith, (is_at p x (used o u) e).4)

by_node : (p : Puzzle) (t : List Move) (x : ℕ) (n : Node) → IsLaid p → AreLegal p t → IsPlain p → x < SPACER
    → slice_get (layout p) x ≡ Some n → HasUnmarked (nodes_after p t).color (span_of p n) x
by_node p t x (used o u) laid legal plain small e = (
  λ q from below. unmarked_behind p t q laid legal plain (omega (arith, used_behind p x o u e, from)),
  λ q from below. unmarked_behind p t q laid legal plain (omega (arith, from)),
)
by_node p t x _ laid legal plain small e = grind arith

-- no node of an option is marked
pub plain_unmarked : (p : Puzzle) (t : List Move) → AreLegal p t → IsFitted p (spans_of p) → IsPlain p
    → IsUnmarked (spans_of p) (nodes_after p t).color
plain_unmarked p t legal fitted plain = record {
  others = λ x lt.
      let here = slice_get-get_or (layout p) x unused (omega (arith, lt, length-map (layout p) (span_of p))) in
      let d : Span = record { first = 0; end = 0 } in
      let is = get_or_from_slice_get (spans_of p) x (span_of p (get_or (layout p) x unused)) d
      (slice_get-map (span_of p) (layout p) x ∙ ap (option_map (span_of p)) here) in
      subst (λ (s : Span). HasUnmarked (nodes_after p t).color s x) (sym is)
      (grind (arith, by_node, length-map));
}

-- ---- the walks

-- a step down that keeps no colour marks none
pub left_unmarked : (spans : List Span) (marks : Bool) (keep : Option ℕ) (t u : Nodes) (x : ℕ)
    → u ≡ left_node spans keep t x → (marks ≡ false → keep ≡ None) → (marks ≡ false → IsUnmarked spans t.color) →
    marks ≡ false → IsUnmarked spans u.color
left_unmarked spans marks keep t u x done none h m = grind (arith, colors-are, hidden, hidden_color)

-- nor does a step up
pub back_unmarked : (spans : List Span) (marks : Bool) (keep : Option ℕ) (t u : Nodes) (x : ℕ)
    → u ≡ back_node spans keep t x → (marks ≡ false → keep ≡ None) → (marks ≡ false → IsUnmarked spans t.color) →
    marks ≡ false → IsUnmarked spans u.color
back_unmarked spans marks keep t u x done none h m = grind (arith, colors-are, unhidden, unhidden_color)
