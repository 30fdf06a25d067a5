-- What a walk back over an option's nodes tells of its first primary item.
use Rattle.std.proofs.Common.{ℕ, ◌≡◌, ◌<◌, ◌≤◌, ◌+◌, ◌-◌, List, [], ◌∷◌, length, drop, Some, arith, zero, suc}
use Rattle.std.proofs.Common.{false, true, get_or, le-leb, eq-eqb, ap, sym, ◌∙◌, refl, inl, inr}
use Rattle.std.specs.Prelude.{slice_get, ◌==◌}
use Rattle.std.proofs.lemmas.Grind.{common_steps}
use Rattle.std.proofs.lemmas.Bool.{cases_lt}
use Rattle.std.proofs.lemmas.Option.{slice_get_within}
use Rattle.xc_input.specs.declared.problem.Use.{Use}
use Rattle.xc_input.specs.UsePlaces.{place_in}
use Rattle.xc_input.specs.Problem.{Puzzle, primary_count, IsPrimary, uses_of}
use Rattle.xc_moves.specs.declared.dance.Move.{Move}
use Rattle.xc_moves.specs.Commits.{first_primary, IsUseAt}
use Rattle.xc_moves.specs.Places.{layout, spacer_place, used, spacer}
use Rattle.xc_moves.specs.inner.Uses.{start_at}
use Rattle.xc_dance.specs.inner.Tables.{nodes_after, IsLaid, top_in, line_of}
use Rattle.xc_dance.specs.declared.links.cells.marks.TheConstants.{SPACER}
use Rattle.xc_moves.proofs.PlaceLemmas.{place_at_use, held_node, spacer_here}
use Rattle.xc_dance.proofs.TableLemmas.{node_between, use_cells, held_of}
use Rattle.xc_dance.proofs.LineLemmas.{get_map}

-- ---- over the uses

-- from a use of a primary item on that item is the first one
first_here : (p : Puzzle) (us : List Use) (k : ℕ) (u : Use) → slice_get us k ≡ Some u → u.item ≤ primary_count p
    → first_primary p (drop k us) ≡ u.item
first_here p [] k u e le = cc
first_here p (v ∷ us) zero u e le = grind (arith, common_steps, le-leb)
first_here p (v ∷ us) (suc k) u e le = first_here p us k u e le

-- and from a use of another item on it is that from the next use on
first_behind : (p : Puzzle) (us : List Use) (k : ℕ) (u : Use) → slice_get us k ≡ Some u → primary_count p < u.item
    → first_primary p (drop k us) ≡ first_primary p (drop (suc k) us)
first_behind p [] k u e gt = cc
first_behind p (v ∷ us) zero u e gt = grind (arith, common_steps, le-leb)
first_behind p (v ∷ us) (suc k) u e gt = first_behind p us k u e gt

-- a primary item before that of item i is another one
not_first : (p : Puzzle) (i k : ℕ) (us : List Use) (u : Use) → slice_get us k ≡ Some u → u.item ≤ primary_count p
    → k < place_in i us → (first_primary p us == i) ≡ false
not_first p i k [] u e le lt = cc
not_first p i zero (v ∷ us) u e le lt = grind (arith, common_steps, le-leb)
not_first p i (suc k) (v ∷ us) u e le lt = grind (arith, common_steps, le-leb, not_first p i k us u)

-- ---- back over the nodes

-- From the node behind place b up to that of item i no use is of another primary item than i, where the node of its use
-- by option x is at the place.
pub record IsBack (p : Puzzle) (i x place b : ℕ) : Type 0 where
  pub from : start_at p (x - 1) ≤ b + 1
  pub to : b < place
  pub first : first_primary p (drop (b + 1 - start_at p (x - 1)) (uses_of p x)) ≡ i

-- before the place itself
pub back_first : {p : Puzzle} {i x place : ℕ} (b : ℕ) → IsUseAt p i x place → IsPrimary p i → b ≡ place - 1
    → IsBack p i x place b
back_first {p} {i} {x} {place} b u primary e =
    let w = held_node p i x u.known.0 (held_of _ _ u.holds) in
    let at = place_at_use u in
    let k : b + 1 - start_at p (x - 1) ≡ place_in i (uses_of p x) = omega (arith, at, e) in
    record {
      from = omega (arith, at, e);
      to = omega (arith, at, e);
      first = ap (λ n. first_primary p (drop n (uses_of p x))) k
          ∙ first_here p (uses_of p x) _ w.held.use_of w.held.at (omega (arith, w.held.item, primary.1)) ∙ w.held.item;
    }

-- what TOP tells at b
pub record Back (p : Puzzle) (i x place : ℕ) (top : List ℕ) (b : ℕ) : Type 0 where
  pub within : b < length (layout p)
  pub some : 0 < b
  -- the spacer: there is none before that of item i
  pub spacer : SPACER ≤ get_or top b 0 → true ≡ (first_primary p (uses_of p x) == i)
  -- a primary item's node: that is before it
  pub found : get_or top b 0 < SPACER → get_or top b 0 ≤ primary_count p → false ≡ (first_primary p (uses_of p x) == i)
  -- a secondary item's
  pub next : get_or top b 0 < SPACER → primary_count p < get_or top b 0 → IsBack p i x place (b - 1)

back_use : {p : Puzzle} {i x place b : ℕ} (t : List Move) → IsLaid p → IsUseAt p i x place → IsBack p i x place b
    → start_at p (x - 1) ≤ b → Back p i x place (nodes_after p t).top b
back_use {p} {i} {x} {place} {b} t laid u back from =
    let w = held_node p i x u.known.0 (held_of _ _ u.holds) in
    let at = place_at_use u in
    let n = node_between p x b u.known from (omega (arith, back.to, u.at, w.below)) in
    let cells = use_cells p t x n.0 b n.2 in
    let most = (laid.nodes.ranged b (used x n.0) n.0.item x n.2 refl).1 in
    let small = laid.small in
    record {
      within = cells.within;
      some = omega (arith, from);
      spacer = λ high. absurd (omega (arith, high, cells.top, most, small));
      found = λ low le. sym (not_first p i _ (uses_of p x) n.0 n.1 (omega (arith, le, cells.top))
          (omega (arith, at, back.to, from)));
      next = λ low gt.
          let k : b + 1 - start_at p (x - 1) ≡ suc (b - start_at p (x - 1)) = omega (arith, from) in
          let same : b - 1 + 1 - start_at p (x - 1) ≡ b - start_at p (x - 1) = omega (arith, from) in
          record {
            from = omega (arith, from);
            to = omega (arith, back.to);
            first = ap (λ n. first_primary p (drop n (uses_of p x))) same
                ∙ first_behind p (uses_of p x) _ n.0 n.1 (omega (arith, gt, cells.top))
                ∙ ap (λ n. first_primary p (drop n (uses_of p x))) (sym k) ∙ back.first;
          };
    }

back_spacer : {p : Puzzle} {i x place b : ℕ} (t : List Move) → IsLaid p → IsUseAt p i x place → IsBack p i x place b
    → b + 1 ≡ start_at p (x - 1) → Back p i x place (nodes_after p t).top b
back_spacer {p} {i} {x} {place} {b} t laid u back from =
    let at : b ≡ spacer_place p (x - 1) = omega (arith, from) in
    let node : slice_get (layout p) b ≡ Some (spacer (x - 1)) =
    ap (slice_get (layout p)) at ∙ spacer_here p (x - 1) (omega (arith, u.known.1)) in
    let top : get_or (nodes_after p t).top b 0 ≡ SPACER + (x - 1) =
    get_map (top_in (line_of p t)) (layout p) b _ node in
    let none : b + 1 - start_at p (x - 1) ≡ 0 = omega (arith, from) in
    let first : first_primary p (uses_of p x) ≡ i =
    ap (λ n. first_primary p (drop n (uses_of p x))) (sym none) ∙ back.first in
    record {
      within = slice_get_within (layout p) b _ node;
      some = omega (arith, at);
      spacer = λ high. sym (eq-eqb _ _ first);
      found = λ low. absurd (omega (arith, low, top));
      next = λ low. absurd (omega (arith, low, top));
    }

pub back_at : {p : Puzzle} {i x place b : ℕ} (t : List Move) → IsLaid p → IsUseAt p i x place → IsBack p i x place b
    → Back p i x place (nodes_after p t).top b
back_at {p} {i} {x} {place} {b} t laid u back =
    elim (cases_lt b (start_at p (x - 1))) [
      | inl lt ↦ back_spacer t laid u back (omega (arith, lt, back.from))
      | inr ge ↦ back_use t laid u back (omega (arith, ge))
    ]
