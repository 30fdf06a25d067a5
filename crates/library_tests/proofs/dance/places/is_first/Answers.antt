use Rattle.std.proofs.Common.{ℕ, ◌≡◌, ◌≢◌, ◌∙◌, ap, sym, subst, refl, inl}
use Rattle.std.specs.Prelude.{unwrap_or}
use Rattle.xc_input.specs.Problem.{IsValid}
use Rattle.xc_text.proofs.ListLemmas.{by_option}
use Rattle.xc_moves.specs.Commits.{IsUseAt}
use Rattle.xc_moves.specs.Dancing.{Dancing}
use Rattle.xc_moves.specs.Moves.{next_above, listed_numbers}
use Rattle.xc_moves.specs.Places.{link_place, first_above}
use Rattle.xc_moves.proofs.PlaceAnswers.{listed_use, next_contained, valid_state}
use Rattle.library_tests.proofs.dance.places.is_first.Goals as goal

-- the first option of the list uses the item
first_use : (s : Dancing) (i place : ℕ) → IsValid s.puzzle
    → place ≡ link_place s.puzzle i (first_above 0 0 (listed_numbers s.puzzle s.trail i)) → place ≢ i
    → (x : ℕ) × IsUseAt s.puzzle i x place
first_use s i place valid at other = by_option (next_above 0 (listed_numbers s.puzzle s.trail i))
    (λ none. absurd (other (at ∙ ap (λ o. link_place s.puzzle i (unwrap_or o 0)) none)))
    (λ x e. (
      x,
      subst (IsUseAt s.puzzle i x) (sym (at ∙ ap (λ o. link_place s.puzzle i (unwrap_or o 0)) e))
          (listed_use s.trail i x valid (next_contained 0 x (listed_numbers s.puzzle s.trail i) e)),
    ))

pub is_first_at-requires-clause-place : goal.is_first_at-requires-clause-place
is_first_at-requires-clause-place g c =
    let s = g.D.Dance.state c.args.dance.now in
    first_use s c.args.i c.node_below-place.result (valid_state s c.requires c.primary.ensures.whole)
    (c.node_below-place.ensures.place 0 (record { listed = inl refl; at = refl })) c.if-place-i.false
