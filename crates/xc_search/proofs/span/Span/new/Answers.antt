-- The search goes from no level to the first row (`reach`), so all that the clauses say is of where it stands then,
-- `at`. `ended` and `within` give the two tests in words of the definitions, `all` says that at first all members were
-- to come. With these `invariant_of-result` is `reach`'s contract field by field, and the clauses `left`, `row` and
-- `node` are `first_left`, `first_row` and `first_node`.
use Rattle.std.proofs.Common.{ℕ, List, Option, ◌≡◌, true, false, not, sym, ap, ◌∙◌, arith}
use Rattle.std.specs.Prelude.{option_map, ◌||◌}
use Rattle.std.proofs.lemmas.Bool.Decides.{nat_tests}
use Rattle.xc_moves.specs.Dancing.{Dancing}
use Rattle.xc_search.specs.Spans.{is_before}
use Rattle.xc_search.specs.Cover.{members}
use Rattle.xc_search.specs.inner.Levels.{Levels, coming, most_levels}
use Rattle.xc_search.specs.inner.Spanning.{row_at}
use Rattle.xc_search.proofs.LoopSteps.{starts_standing, starts_coming}
use Rattle.xc_search.proofs.SpanSteps.{row_levels}
use Rattle.xc_search.proofs.SpanRuns.{first_left, first_row}
use Rattle.xc_search.proofs.RowLemmas.{first_node}
use Rattle.xc_search.proofs.span.Span.new.Goals as goal
use Rattle.xc_search.proofs.span.Span.new.Goals.{Joined-not-reached, then-not-reached, else-not-reached}

pub reach-reached-requires : goal.reach-reached-requires
reach-reached-requires g c =
    let puzzle = ap (λ (s : Dancing). s.puzzle) c.new-position.ensures ∙ c.requires.same in
    let trail = ap (λ (s : Dancing). s.trail) c.new-position.ensures ∙ c.requires.none in
    let levels = ap (λ (s : Levels). s.levels) c.in-Ok.ensures in
    record {
      start = record {
        standing = starts_standing _ c.most_levels.ensures.valid _ _ _ puzzle trail levels;
        levels_fit = omega (
          arith,
          c.most_levels.ensures.value,
          ap most_levels puzzle,
          ap (λ (s : Levels). s.room) c.in-Ok.ensures,
        );
        none = levels;
        unmoved = trail;
      };
    }

module _ (g : _) (c : Joined-not-reached g) where
  abbrev at : Dancing
  at = c.reach-reached.new.state.position

  abbrev until : Option (List ℕ)
  until = option_map (λ u. u.now) c.args.until

  moved : at.puzzle ≡ c.new-position.result.puzzle
  moved = ap (λ (s : Dancing). s.puzzle) c.reach-reached.ensures.still.0

  puzzle : at.puzzle ≡ c.args.problem.now.puzzle
  puzzle = moved ∙ ap (λ (s : Dancing). s.puzzle) c.new-position.ensures ∙ c.requires.same

  ended : c.if-not-reached.result ≡ not c.reach-reached.result || not c.is_before-within.result
  ended = elim c.if-not-reached.branch [
    | then-not-reached w ↦ grind (arith, nat_tests, w.if-not-reached, w.result-is)
    | else-not-reached w ↦ grind (arith, nat_tests, w.if-not-reached, w.result-is)
  ]

  within : c.is_before-within.result ≡ is_before until (row_at at.puzzle c.reach-reached.new.state.stack.levels)
  within =
      c.is_before-within.ensures
      ∙ ap (is_before until)
      (row_levels at.puzzle c.levels.result.now c.reach-reached.new.state.stack.levels c.levels.ensures.levels)

  all : coming c.new-position.result.puzzle c.new-position.result.trail c.in-Ok.stack.levels true
      ≡ members at.puzzle
  all =
      starts_coming _ _ _ (ap (λ (s : Dancing). s.trail) c.new-position.ensures ∙ c.requires.none)
      (ap (λ (s : Levels). s.levels) c.in-Ok.ensures)
      ∙ ap members (sym moved)

pub invariant_of-result : goal.invariant_of-result
invariant_of-result g c =
    let reach = c.reach-reached.ensures in
    let open_at : c.if-not-reached.result ≡ false
    → (c.reach-reached.result ≡ true) × (c.is_before-within.result ≡ true) =
    λ h. grind (arith, nat_tests, ended g c, h) in
    let room = ap (λ (s : Levels). s.room) reach.still.1 ∙ ap (λ (s : Levels). s.room) c.in-Ok.ensures in
    let most = ap most_levels (puzzle g c) in
    record {
      stacked = reach.stacked;
      led = λ h. reach.led (open_at h).0;
      standing = λ h. reach.standing (open_at h).0;
      solved = λ h i. absurd (cc i);
      before = λ h. sym (within g c) ∙ (open_at h).1;
      levels_fit = omega (arith, c.most_levels.ensures.value, room, most);
    }

pub returns-clause-left : goal.returns-clause-left
returns-clause-left g c =
    let reach = c.reach-reached.ensures in
    rw (← puzzle g c) (first_left (at g c).puzzle (at g c).trail c.reach-reached.new.state.stack.levels c.args.from.now
    (until g c) _ c.reach-reached.result c.is_before-within.result reach.led (all g c) reach.reached reach.kept
    reach.none (within g c) c.if-not-reached.result (ended g c))

pub returns-clause-row : goal.returns-clause-row
returns-clause-row g c =
    let reach = c.reach-reached.ensures in
    rw (← puzzle g c) (first_row (at g c).puzzle (at g c).trail c.reach-reached.new.state.stack.levels c.args.from.now
    (until g c) _ c.reach-reached.result c.is_before-within.result reach.led (all g c) reach.reached reach.kept
    reach.none (within g c) c.if-not-reached.result (ended g c))

pub returns-clause-node : goal.returns-clause-node
returns-clause-node g c =
    let reach = c.reach-reached.ensures in
    rw (← puzzle g c) (first_node (at g c).puzzle (at g c).trail c.reach-reached.new.state.stack.levels
    c.reach-reached.result c.is_before-within.result reach.led c.if-not-reached.result (ended g c))
