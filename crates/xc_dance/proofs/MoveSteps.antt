-- From one move to the next, and back.
use Rattle.std.proofs.Common.{◌≡◌, ◌≢◌, ℕ, ◌+◌, ◌*◌, ◌<◌, ◌≤◌, Bool, true, false, not, cond, eqb, List, [], ◌∷◌, length}
use Rattle.std.proofs.Common.{filter, get_or, refl, ap, sym, subst, ◌∙◌, arith, eqb-true, eq-eqb, ne_eqb, ◌&&◌, ◌||◌}
use Rattle.std.proofs.Common.{None, ◌++◌, reverse, Some, ◌-◌, set}
use Rattle.std.proofs.lemmas.Bool.{false≢true}
use Rattle.std.proofs.lemmas.List.{length-map, reverse-append}
use Rattle.std.proofs.lemmas.Option.{slice_get_within}
use Rattle.std.proofs.Math.Bool.{and-false}
use Rattle.std.proofs.lemmas.Grind.{common_steps}
use Rattle.std.specs.Prelude.{unwrap_or}
use Rattle.xc_input.specs.Problem.{Puzzle, item_count, high_at}
use Rattle.xc_moves.specs.declared.dance.Move.{Move}
use Rattle.xc_moves.specs.declared.dance.Move.TheVariants.{Tweak, Cover, Purify, Spend}
use Rattle.xc_dance.specs.inner.Tables.{Nodes, Span, Line, color_in, dlink_in, nodes_from, nodes_after, line_of, IsFit}
use Rattle.xc_dance.specs.inner.Tables.{items_after, llink_at, rlink_at, is_off, IsLaid, CanNote, taken_nodes, noted}
use Rattle.xc_dance.specs.inner.Tables.{IsRecalled, Items}
use Rattle.xc_moves.specs.Moves.{listed, is_open, AreLegal, listed_numbers, spends, is_covered, IsLegal}
use Rattle.xc_moves.specs.Places.{Node, unused, own, layout, link_place, is_in}
use Rattle.xc_dance.specs.Fields.{first_of}
use Rattle.xc_dance.specs.inner.Walks.{HasSize, NamesPlaces, unlinked, relinked, tweaked_nodes, untweaked, CanTweak}
use Rattle.xc_dance.specs.inner.Walks.{CanUntweak, tweak_cost, untweak_cost, IsFitted, nodes_made, items_made}
use Rattle.xc_dance.specs.inner.Walks.{nodes_unmade, items_unmade, CanMake, CanUnmake, made_cost, unmade_cost}
use Rattle.xc_dance.specs.Cost.{cost_of, cost_of_newest}
use Rattle.xc_dance.proofs.LineLemmas.{relinked-unlinked, CanRelink, CanRelink-unlinked, get_down, size_from, IsMember}
use Rattle.xc_dance.proofs.LineLemmas.{unlinked-is, linked-is, member_cells, InRange, SameCut, line_after, tables_same}
use Rattle.xc_dance.proofs.LineLemmas.{Rises-filter, cuts, is_in-first, leave_none, cut, with_line, other_items}
use Rattle.xc_dance.proofs.LineLemmas.{by_first, in_filter, same_members, listed_member, stay_all, same_nodes}
use Rattle.xc_dance.proofs.LineLemmas.{written_back, get_map}
use Rattle.xc_moves.proofs.MoveLemmas.{Named, numbers_named, rises_listed}
use Rattle.xc_dance.proofs.WalkLemmas.{left_all, gone_count, leaves, list_at, own_apart}
use Rattle.xc_dance.proofs.HideMoves.{ready_at, leaves_at, items, items_apart, in_range, gone_is, leaving_is, AreOf}
use Rattle.xc_dance.proofs.HideMoves.{tweak_stay, stay_if, one_more, passes_one, sum_none, eqb_turn, own_placed}
use Rattle.xc_dance.proofs.HideMoves.{cover_writes, Stays, link_gone, link_beside, link_other, link_back, link_next}
use Rattle.xc_dance.proofs.HideMoves.{ring_step, cover_hides, walk_made, purify_hides, kept_marked}
use Rattle.xc_dance.proofs.OneList.{turns_ready, Turns, purify_start, coloured_is}
use Rattle.xc_dance.proofs.TableLemmas.{same_items, row_same, still_llink, still_rlink, row_get, row_len, bound_own}
use Rattle.xc_dance.proofs.TableLemmas.{spends_own, bound_other, row_put}
use Rattle.xc_moves.proofs.LeftLemmas.{open_uncovered, open_or_covered, open_unpurified}

-- ======== Tweak: from the node table after moves to that after one move more, and back.

-- the first of item i's list
pub record HasFirst (p : Puzzle) (t : List Move) (i : ℕ) : Type 0 where
  pub o : ℕ
  pub os : List ℕ
  pub is : listed_numbers p t i ≡ o ∷ os
  pub pos : 0 < o
  pub named : Named p i o
  pub within : is_in o (listed_numbers p t i) ≡ true

first_there : (xs : List ℕ) → 0 < length xs → (o : ℕ) × ((os : List ℕ) × (xs ≡ o ∷ os))
first_there [] h = absurd (omega (arith, h))
first_there (x ∷ xs) h = (x, (xs, refl))

pub has_first : (p : Puzzle) (t : List Move) (i : ℕ) → 0 < length (listed p t i) → HasFirst p t i
has_first p t i h =
    let f = first_there (listed_numbers p t i) (omega (arith, h, length-map (listed p t i) (λ o. o.number))) in
    grind (arith, rises_listed p t i, numbers_named p t i, is_in-first f.0 f.1.0)

-- ---- what leaves each line

pub tweak_colours : (p : Puzzle) (t : List Move) (i : ℕ) (n : Node) → color_in p (Tweak i ∷ t) n ≡ color_in p t n
tweak_colours p t i unused = refl
tweak_colours p t i _ = refl

-- the options of item i's list that leave item j's by Tweaks of i
abbrev pub to_come : Puzzle → List Move → Bool → ℕ → ℕ → List ℕ → List ℕ
to_come p t covered i j os = filter (λ o. not covered && leaves p (color_in p t) i j o) os

-- the same, where all leave item i's own
abbrev pub off : Puzzle → (Node → ℕ) → Bool → ℕ → ℕ → List ℕ → List ℕ
off p col covered i j os = filter (λ o. eqb j i || (not covered && leaves p col i j o)) os

-- what the step at option o writes for its other items
abbrev pub back_writes : Puzzle → (Node → ℕ) → Bool → ℕ → ℕ → ℕ
back_writes p col covered i o = cond covered 0 (3 * gone_count p col i o)

gone_unless : (p : Puzzle) (col : Node → ℕ) (covered : Bool) (i o : ℕ) → IsFit p
    → 3 * length (filter (λ j. not covered && leaves p col i j o) (items p)) ≡ back_writes p col covered i o
gone_unless p col true i o fit = ap (λ (js : List ℕ). 3 * length js) (leave_none (items p))
gone_unless p col false i o fit = ap (λ n. 3 * n) (gone_is p col i o fit)

-- ---- the option is hidden, if the item is open

-- the lines when the first node is about to leave
abbrev mid_lines : Puzzle → List Move → Bool → ℕ → ℕ → ℕ → Line
mid_lines p t covered i o = cond covered (line_of p t) (left_all p (color_in p t) o (line_of p t) (other_items p o i))

-- the table then
abbrev mid : Puzzle → List Move → Bool → ℕ → ℕ → Nodes
mid p t covered i o = nodes_from p (mid_lines p t covered i o) (color_in p t)

mid_line : (p : Puzzle) (t : List Move) (covered : Bool) (i o j : ℕ) → IsFit p
    → mid_lines p t covered i o j ≡ cuts (line_of p t j) (to_come p t covered i j (o ∷ []))
mid_line p t true i o j fit = refl
mid_line p t false i o j fit = list_at p (color_in p t) i None (line_of p t) (o ∷ []) j fit

-- its own line is as before
mid_own : (p : Puzzle) (t : List Move) (covered : Bool) (i o : ℕ) → IsFit p
    → mid_lines p t covered i o i ≡ line_of p t i
mid_own p t covered i o fit = mid_line p t covered i o i fit ∙ grind (arith, own_apart)

-- where it isn't covered, the option of node x is hidden from the table t on, which leads to u, and comes back
abbrev Hiding : List Span → Bool → ℕ → ℕ → Nodes → Nodes → Type 0
Hiding spans true x n t u = (n ≡ 0) × (t ≡ u)
Hiding spans false x n t u = (x < length spans) × Turns spans t u x n

hiding : (p : Puzzle) (t : List Move) (spans : List Span) (covered : Bool) (i : ℕ) → AreLegal p t → IsFitted p spans
    → is_open i t ≡ not covered → (f : HasFirst p t i) → Hiding spans covered (link_place p i f.o)
    (back_writes p (color_in p t) covered i f.o) (nodes_after p t) (mid p t covered i f.o)
hiding p t spans true i legal fit shut f = (refl, refl)
hiding p t spans false i legal fit opened f = (
  fit.spanned.within f.o i f.pos f.named,
  turns_ready p (line_of p t) (color_in p t) spans f.o i fit f.pos f.named
      (ready_at p t i legal fit.laid fit.fit opened f.o f.within),
)

-- ---- the whole move

-- a Tweak of item i leads from table t to u, its undoing at node x back, and each writes n cells
pub record TweakMade (spans : List Span) (covered : Bool) (i x n : ℕ) (t u : Nodes) : Type 0 where
  pub can : CanTweak spans covered t i
  pub done : tweaked_nodes spans covered t i ≡ u
  pub can_back : CanUntweak spans covered u x
  pub undone : untweaked spans covered u x ≡ t
  pub cost : tweak_cost spans covered t i ≡ n
  pub cost_back : untweak_cost spans covered u x ≡ n

-- the option is hidden, and then its node leaves the list
both : {spans : List Span} {covered : Bool} {i x : ℕ} (n : ℕ) {t m u : Nodes} → get_or t.dlink i 0 ≡ x
    → i < length t.dlink → Hiding spans covered x n t m → HasSize m (length m.top) → NamesPlaces m x
    → 0 < get_or m.top (get_or m.top x 0) 0 → unlinked m x ≡ u → CanRelink u x → relinked u x ≡ m
    → TweakMade spans covered i x (3 + n) t u
both {covered = true} n first within h size names some done back undone = grind (arith, false≢true)
both {covered = false} n first within h size names some done back undone = grind arith

module _ (p : Puzzle) (t : List Move) (spans : List Span) (covered : Bool) (i : ℕ) (legal : AreLegal p t)
    (fit : IsFitted p spans) (opened : is_open i t ≡ not covered) where
  off_at : (j x : ℕ) (gs : List ℕ) → InRange p j → AreOf p t i gs → j ≢ i → is_in x gs ≡ true
      → (not covered && leaves p (color_in p t) i j x) ≡
      ((not covered && is_open j t) && is_in x (listed_numbers p t j))
  off_at j x gs r of ne within = grind (arith, is_open, leaves_at, legal, fit, opened)

  -- they are members of item j's list that pass a test
  pub off_are : (j : ℕ) (gs : List ℕ) → InRange p j → AreOf p t i gs → off p (color_in p t) covered i j gs ≡
      filter (λ x. (eqb j i || (not covered && is_open j t)) && is_in x gs) (listed_numbers p t j)
  off_are j gs r of =
      let gone : ℕ → Bool = λ o. eqb j i || (not covered && leaves p (color_in p t) i j o) in
      let test : ℕ → Bool = λ x. (eqb j i || (not covered && is_open j t)) && is_in x gs in
      let at : (x : ℕ) → (gone x && is_in x gs) ≡ (test x && is_in x (listed_numbers p t j)) =
      grind (arith, by_first, eq-eqb, ne_eqb, and-false, off_at) in
      let rise = rises_listed p t j in
      same_members 0 _ _ (Rises-filter gone 0 gs of.rise) (Rises-filter test 0 (listed_numbers p t j) rise)
      (λ x. in_filter gone x gs ∙ at x ∙ sym (in_filter test x (listed_numbers p t j)))

  -- each line loses them by a Tweak, which takes off the first
  pub tweak_cuts : (f : HasFirst p t i) (j : ℕ) → InRange p j
      → SameCut p t (Tweak i) j (off p (color_in p t) covered i j (f.o ∷ []))
  tweak_cuts f j r = record {
    test = λ x. (eqb j i || (not covered && is_open j t)) && is_in x (f.o ∷ []);
    cut_is = off_are j (f.o ∷ []) r
        (record { rise = (f.pos, tt); among = λ x e. grind (arith, eqb-true, f.within) });
    stay_is = tweak_stay p t i j f.o f.os (not covered) opened f.is
        ∙ stay_if (eqb j i || (not covered && is_open j t)) (f.o ∷ []) (listed_numbers p t j);
  }

  -- ---- what it writes, and the whole move

  -- one node leaves i's list, and those of the other lines
  pub tweak_cost_is : 0 < i → i ≤ item_count p → (f : HasFirst p t i)
      → cost_of p t (Tweak i) ≡ 3 + back_writes p (color_in p t) covered i f.o
  tweak_cost_is pos le f =
      let o = f.o in
      let col = color_in p t in
      let g : ℕ → Bool = λ j. not covered && leaves p col i j o in
      let all = leaving_is p t (Tweak i) (λ j. off p col covered i j (o ∷ [])) (tweak_cuts f) in
      let own : g i ≡ false = grind (arith, own_apart) in
      let gone = rw (in_range i 0 (item_count p) pos (omega (arith, le))) at (passes_one true (λ j. eqb j i || g j) g i
      (items p) (items_apart p) own (λ j. ap (λ b. b || g j) (eqb_turn j i))) in
      let more = one_more (λ j. []) (λ j. eqb j i || g j) o (items p) in
      omega (arith, all, more, sum_none (items p), gone, gone_unless p col covered i o fit.fit)

  pub tweak_made : 0 < i → i ≤ item_count p → 0 < length (listed p t i)
      → TweakMade spans covered i (link_place p i (first_of 0 (listed_numbers p t i))) (cost_of p t (Tweak i))
      (nodes_after p t) (nodes_after p (Tweak i ∷ t))
  tweak_made pos le some =
      let f = has_first p t i some in
      let o = f.o in
      let laid = fit.laid in
      let col = color_in p t in
      let ln = mid_lines p t covered i o in
      let x = link_place p i o in
      let m : Nodes = mid p t covered i o in
      let next : Nodes = nodes_after p (Tweak i ∷ t) in
      let l : Line = cut (ln i) o in
      let s : IsMember p i (ln i) o = subst (λ (l : Line). IsMember p i l o) (sym (mid_own p t covered i o fit.fit))
      (listed_member t i o fit.fit (pos, le) f.within) in
      let linked = linked-is p col ln i o laid s in
      let cells = member_cells p col ln i o laid s in
      let size = size_from p ln col in
      let count : get_or m.top (get_or m.top x 0) 0 ≡ (ln i).len = ap (λ k. get_or m.top k 0) cells.item ∙ cells.len in
      let same : unlinked m x ≡ next = unlinked-is p col ln i o laid s
      ∙ sym (tables_same p (with_line ln i l) (line_of p (Tweak i ∷ t)) col (color_in p (Tweak i ∷ t)) laid
      (λ j r. line_after p t (Tweak i) j _ (tweak_cuts f j r)
      ∙ by_first _ j i (λ e. rw (e, eq-eqb i i refl) (ap (λ (k : Line). cut k o)
      (sym (mid_own p t covered i o fit.fit)))) (λ ne. rw (ne_eqb j i ne) (sym (mid_line p t covered i o j fit.fit))))
      (λ k n at. tweak_colours p t i n)) in
      let first = ap (λ ks. link_place p i (first_of 0 ks)) f.is in
      let within = slice_get_within (layout p) i (own i) (laid.head i pos le) in
      let long = length-map (layout p) (dlink_in p (line_of p t)) in
      let made = both _ (get_down p (line_of p t) i 0 (own_placed p i laid pos le) ∙ first)
      (omega (arith, within, long)) (hiding p t spans covered i legal fit opened f) size cells.names linked.some same
      (subst (λ (v : Nodes). CanRelink v x) same
      (CanRelink-unlinked m x size cells.names linked (omega (arith, count, s.few))))
      (ap (λ (v : Nodes). relinked v x) (sym same) ∙ relinked-unlinked m x linked) in
      rw (first, tweak_cost_is pos le f) made

-- ======== From one move to the next: the tables after moves let the next legal move be made, and are then those
-- after it; and back.

-- ---- a move that neither covers nor spends leaves the item table as it is

pub still_items : (p : Puzzle) (t : List Move) (m : Move) → ((q : ℕ) → is_covered q (m ∷ t) ≡ is_covered q t)
    → ((q : ℕ) → spends q (m ∷ t) ≡ spends q t) → items_after p (m ∷ t) ≡ items_after p t
still_items p t m covered spent = same_items _ _
    (row_same (llink_at p t) (llink_at p (m ∷ t)) (item_count p + 2) (λ q h. still_llink p t m q covered))
    (row_same (rlink_at p t) (rlink_at p (m ∷ t)) (item_count p + 2) (λ q h. still_rlink p t m q covered))
    (grind (arith, row_same)) refl

-- ---- whether an item is covered, read from its ring

-- what leads past a covered item
pub record IsPast (p : Puzzle) (t : List Move) (i : ℕ) : Type 0 where
  pub place : llink_at p t i < item_count p + 2
  pub past : rlink_at p t (llink_at p t i) ≢ i

still_past : (p : Puzzle) (t : List Move) (m : Move) (i : ℕ) → ((q : ℕ) → is_covered q (m ∷ t) ≡ is_covered q t)
    → IsPast p t i → IsPast p (m ∷ t) i
still_past p t m i still h = grind (arith, still_llink, still_rlink)

pub past_covered : (p : Puzzle) (t : List Move) (i : ℕ) → AreLegal p t → 0 < i → i ≤ item_count p
    → is_covered i t ≡ true → IsPast p t i
past_covered p [] i legal pos le e = absurd (false≢true e)
past_covered p (Cover k ∷ t) i legal pos le e =
    let k_pos : 0 < k = omega (arith, legal.0.0.0) in
    let k_le : k ≤ item_count p = legal.0.0.1 in
    let un : is_covered k t ≡ false = open_uncovered k t legal.0.1 in
    let l = llink_at p t i in
    let gone : llink_at p (Cover k ∷ t) i ≡ l = link_gone p false t (Cover k) i pos le e in
    let next : ℕ = cond (eqb l (llink_at p t k)) (rlink_at p t k) (rlink_at p t l) in
    let beyond : (l < item_count p + 2) × (next ≢ i) =
    elim (eqb i k) as (λ b. eqb i k ≡ b → (b || is_covered i t) ≡ true → (l < item_count p + 2) × (next ≢ i)) [
      | true ↦ λ f g.
          let same : i ≡ k = eqb-true i k f in
          let side = link_beside p false t i legal.1 (omega (arith, le)) (λ _ _. ap (λ j. is_covered j t) same ∙ un) in
          let ne = link_other p true t k k_pos k_le un in grind (arith, eq-eqb)
      | false ↦ λ f g.
          let r = link_beside p true t k legal.1 (omega (arith, k_le)) (λ _ _. un) in
          let r_ne : rlink_at p t k ≢ i = λ s. false≢true (sym (subst (Stays p t) s r.stays pos le) ∙ g) in
          grind (arith, past_covered p t i legal.1 pos le g)
    ] refl e in
    let leads = ap (rlink_at p (Cover k ∷ t)) gone ∙ link_next p true t k legal.1 k_pos k_le un l beyond.0 in
    record { place = omega (arith, gone, beyond.0); past = λ h. beyond.1 (sym leads ∙ h) }
past_covered p (m ∷ t) i legal pos le e = still_past p t m i (λ q. refl) (past_covered p t i legal.1 pos le e)

-- the ring tells whether an item is covered
pub record OffStep (p : Puzzle) (t : List Move) (i : ℕ) : Type 0 where
  pub place : i < length (items_after p t).llink
  pub left : get_or (items_after p t).llink i 0 < length (items_after p t).rlink
  pub is : is_off (items_after p t) i ≡ is_covered i t

pub off_is : (p : Puzzle) (t : List Move) (i : ℕ) → AreLegal p t → 0 < i → i ≤ item_count p → OffStep p t i
off_is p t i legal pos le =
    let n = item_count p + 2 in
    let l = llink_at p t i in
    let within : i < n = omega (arith, le) in
    let get_l : get_or (items_after p t).llink i 0 ≡ l = row_get (llink_at p t) _ _ within in
    let both : (l < n) × (eqb (rlink_at p t l) i ≡ not (is_covered i t)) =
    elim (is_covered i t) as (λ b. is_covered i t ≡ b → (l < n) × (eqb (rlink_at p t l) i ≡ not b)) [
      | true ↦ λ e. let h = past_covered p _ _ legal pos le e in (h.place, ne_eqb (rlink_at p t l) i h.past)
      | false ↦ λ e.
          let side = link_beside p false t _ legal within (λ _ _. e) in
          (side.place, eq-eqb (rlink_at p t l) i (link_back p false t _ legal within (λ _ _. e)))
    ] refl in
    let get_r = ap (λ k. get_or (items_after p t).rlink k 0) get_l ∙ row_get (rlink_at p t) _ _ both.0 in
    grind (arith, row_len)

-- ---- the tables after moves let the next legal move be made, and are then those after it; and back

-- node x is the one that the move takes off, if it takes one
abbrev pub IsTakenOff : Puzzle → List Move → Move → ℕ → Type 0
IsTakenOff p t (Tweak i) x = x ≡ link_place p i (first_of 0 (listed_numbers p t i))
IsTakenOff p t _ x = Unit {0}

-- what a move makes of tables that are those after the moves t
pub record Makes (p : Puzzle) (t : List Move) (m : Move) (spans : List Span) (old : Nodes) (ring : Items) : Type 0 where
  pub can : CanMake spans old ring m
  pub nodes : nodes_made spans old ring m ≡ nodes_after p (m ∷ t)
  pub items : items_made ring m ≡ items_after p (m ∷ t)
  pub cost : made_cost spans old ring m ≡ cost_of p t m

-- what its undoing makes of them, k being the node that it took off
pub record Unmakes (p : Puzzle) (t : List Move) (m : Move) (k : ℕ) (spans : List Span) (old : Nodes) (ring : Items) :
    Type 0 where
  pub can : CanUnmake spans old ring m k
  pub nodes : nodes_unmade spans old ring m k ≡ nodes_after p t
  pub items : items_unmade ring m ≡ items_after p t
  pub cost : unmade_cost spans old ring m k ≡ cost_of p t m

pub record MoveStep (p : Puzzle) (t : List Move) (spans : List Span) (m : Move) : Type 0 where
  pub there : Makes p t m spans (nodes_after p t) (items_after p t)
  pub back : (k : ℕ) → IsTakenOff p t m k → Unmakes p t m k spans (nodes_after p (m ∷ t)) (items_after p (m ∷ t))
  pub can_note : CanNote (nodes_after p t) m

-- a Spend changes no list
spent_colours : (p : Puzzle) (t : List Move) (i : ℕ) (n : Node) → color_in p (Spend i ∷ t) n ≡ color_in p t n
spent_colours p t i unused = refl
spent_colours p t i _ = refl

spent_cut : (p : Puzzle) (t : List Move) (i j : ℕ) → SameCut p t (Spend i) j []
spent_cut p t i j =
    let xs = listed_numbers p t j in
    record { test = λ x. false; cut_is = sym (leave_none xs); stay_is = sym (stay_all xs) }

spent_nodes : (p : Puzzle) (t : List Move) (i : ℕ) → IsLaid p → nodes_after p (Spend i ∷ t) ≡ nodes_after p t
spent_nodes p t i laid = tables_same _ (line_of p t) (line_of p (Spend i ∷ t)) (color_in p t)
    (color_in p (Spend i ∷ t)) laid (λ j r. line_after _ _ _ _ _ (spent_cut p t i j)) (λ k n at. spent_colours p t i n)

purify_step : {p : Puzzle} (t : List Move) {spans : List Span} (i c : ℕ) → AreLegal p t → IsLegal p t (Purify i c)
    → IsFitted p spans → MoveStep p t spans (Purify i c)
purify_step {p} t {spans} i c legal may f =
    let pos : 0 < i = omega (arith, may.0.0) in
    let laid = f.laid in
    let head = laid.head i pos may.0.1 in
    let w = walk_made p t spans (Purify i c) i (Some c) (purify_start p t i c) legal f pos may.0.1 may.1
    (purify_hides p t i c legal laid pos may.0.1 may.1) in
    let start = coloured_is p (color_in p t) (line_of p t) i 0 c laid (own_placed p i laid pos may.0.1) in
    let none : get_or (nodes_after p t).color i 0 ≡ 0 = get_map (color_in p t) (layout p) i (own i) head
    ∙ ap (λ o. unwrap_or o 0) (open_unpurified i t may.1) in
    let still = still_items p t (Purify i c) (λ q. refl) (λ q. refl) in
    grind (arith, common_steps, same_nodes, written_back, w.undone, kept_marked p t i c)

pub move_step : {p : Puzzle} (t : List Move) {spans : List Span} (m : Move) → AreLegal p t → IsLegal p t m
    → IsFitted p spans → MoveStep p t spans m
move_step {p} t {spans} (Cover i) legal may f =
    let pos : 0 < i = omega (arith, may.0.0) in
    let w = walk_made p t spans (Cover i) i None (color_in p t) legal f pos may.0.1 may.1 (cover_hides p t i) in
    grind (arith, cover_writes, ring_step p t i legal may)
move_step t (Purify i c) legal may f = purify_step t i c legal may f
move_step {p} t {spans} (Tweak i) legal may f =
    let pos : 0 < i = omega (arith, may.0.0) in
    let w = tweak_made p t spans (is_covered i t) i legal f (open_or_covered i t may.1) pos may.0.1 may.2 in
    let still = still_items p t (Tweak i) (λ q. refl) (λ q. refl) in
    grind (arith, off_is p (Tweak i ∷ t) i (may, legal) pos may.0.1, off_is p t i legal pos may.0.1)
move_step {p} t {spans} (Spend i) legal may f =
    let next = Spend i ∷ t in
    let nodes = spent_nodes p t i f.laid in
    let before : get_or (items_after p t).bound i 0 ≡ high_at p i - spends i t = grind (arith, row_get, bound_own) in
    let after : get_or (items_after p next).bound i 0 ≡ high_at p i - (1 + spends i t) =
    grind (arith, row_get, bound_own, spends_own) in
    let llinks : (items_after p next).llink ≡ (items_after p t).llink =
    row_same (llink_at p t) (llink_at p next) (item_count p + 2) (λ q h. still_llink p t (Spend i) q (λ k. refl)) in
    let rlinks : (items_after p next).rlink ≡ (items_after p t).rlink =
    row_same (rlink_at p t) (rlink_at p next) (item_count p + 2) (λ q h. still_rlink p t (Spend i) q (λ k. refl)) in
    let bounds : (items_after p next).bound ≡ set (items_after p t).bound i (get_or (items_after p t).bound i 0 - 1) =
    grind (arith, row_put, bound_other) in
    let back : (items_after p t).bound ≡ set (items_after p next).bound i (get_or (items_after p next).bound i 0 + 1) =
    grind (arith, row_put, bound_other) in
    grind (arith, row_len, same_items, may.1)

-- ---- the tables of a keeper from one move to the next

pub makes : {p : Puzzle} {t : List Move} {spans spans' : List Span} {nodes : Nodes} {items : Items} {m : Move}
    → spans' ≡ spans → nodes ≡ nodes_after p t → items ≡ items_after p t → MoveStep p t spans m
    → Makes p t m spans' nodes items
makes a b c s = rw (a, b, c) s.there

pub unmakes : {p : Puzzle} {t : List Move} {spans spans' : List Span} {nodes : Nodes} {items : Items} {m : Move} (k : ℕ)
    → spans' ≡ spans → nodes ≡ nodes_after p (m ∷ t) → items ≡ items_after p (m ∷ t) → IsTakenOff p t m k
    → MoveStep p t spans m → Unmakes p t m k spans' nodes items
unmakes k a b c off s = rw (a, b, c) (s.back k off)

pub none_newest : (p : Puzzle) (t : List Move) → cost_of_newest 0 p t ≡ 0
none_newest p [] = refl
none_newest p (m ∷ t) = refl

pub newest_one : (p : Puzzle) (t : List Move) (m : Move) → cost_of_newest 1 p (m ∷ t) ≡ cost_of p t m
newest_one p t m = let z = none_newest p t in omega (arith, z)

-- a move more on the trail
pub one_more_move : (old : List Move) {new : List Move} (m : Move) → new ≡ old ++ m ∷ [] → reverse new ≡ m ∷ reverse old
one_more_move old m e = ap reverse e ∙ reverse-append old (m ∷ [])

-- ---- the nodes taken off

-- where the first node's link leads, before a Tweak
abbrev pub FirstLed : Puzzle → List Move → Move → Type 0
FirstLed p t (Tweak i) = get_or (nodes_after p t).dlink i 0 ≡ link_place p i (first_of 0 (listed_numbers p t i))
FirstLed p t _ = Unit {0}

pub first_led : {p : Puzzle} (t : List Move) {spans : List Span} (m : Move) → IsLegal p t m → IsFitted p spans
    → FirstLed p t m
first_led {p} t (Tweak i) may f = let pos : 0 < i = let h = may.0.0 in omega (arith, h) in
    get_down _ (line_of p t) _ _ (own_placed _ _ f.laid pos may.0.1)
first_led t _ may f = tt

pub taken_few : (p : Puzzle) (t : List Move) → length (taken_nodes p t) ≤ length t
taken_few p [] = omega arith
taken_few p (Tweak i ∷ t) = omega (arith, taken_few p t)
taken_few p (_ ∷ t) = omega (arith, taken_few p t)

pub taken_short : (p : Puzzle) (xs : List ℕ) (moves : List Move) → reverse xs ≡ taken_nodes p (reverse moves)
    → length xs ≤ length moves
taken_short p xs moves e = grind (arith, common_steps, taken_few)

-- the node is the first that item i's own node leads to
pub taken_then : (p : Puzzle) (t : List Move) {nodes : Nodes} (old : List ℕ) {new : List ℕ} (m : Move) → FirstLed p t m
    → nodes ≡ nodes_after p t → reverse old ≡ taken_nodes p t → new ≡ noted old nodes m
    → reverse new ≡ taken_nodes p (m ∷ t)
taken_then p t old (Tweak i) led a b e = grind (arith, common_steps)
taken_then p t old _ led a b e = grind (arith, common_steps)

pub record Recalled (p : Puzzle) (t : List Move) (m : Move) (new : List ℕ) (x : ℕ) : Type 0 where
  pub off : IsTakenOff p t m x
  pub taken : reverse new ≡ taken_nodes p t

pub recalled : (p : Puzzle) (t : List Move) (m : Move) (old new : List ℕ) (x : ℕ) → reverse old ≡ taken_nodes p (m ∷ t)
    → IsRecalled old new m x → Recalled p t m new x
recalled p t (Tweak i) old new x a e = grind (arith, common_steps)
recalled p t _ old new x a e = grind (arith, common_steps)
