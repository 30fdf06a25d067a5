use Rattle.std.proofs.Common.{◌≡◌, ◌∙◌, true, [], sym, ap, append-nil, inl, inr}
use Rattle.xc_search.specs.Spans.{precedes}
use Rattle.xc_search.proofs.rows.is_before.Goals as goal

pub returns-in-Before : goal.returns-in-Before
returns-in-Before c =
    let here : precedes _ c.in-Some.until.now ≡ true = elim c.in-Before.is [
      | inl h ↦ ap (λ a. precedes a c.in-Some.until.now) (sym (append-nil _)) ∙ c.place_of.ensures.before h []
      | inr h ↦ c.place_of.ensures.begins h
    ] in
    rw c.in-Some.is (sym here)
