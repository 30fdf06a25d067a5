use Rattle.std.proofs.Common.{ℕ, ◌≡◌, ◌∙◌, List, [], ◌++◌, append_assoc, append-nil, ap, codes, decimal, subst, sym}
use Rattle.xc_text.specs.Texts.{Writes}
use Rattle.xc_none_run.proofs.telling.write_wrong_count.Goals as goal

joined : (a w b x c : List ℕ) → (a ++ w) ++ (b ++ (x ++ (c ++ []))) ≡ (((a ++ w) ++ b) ++ x) ++ c
joined a w b x c =
    ap (λ d. (a ++ w) ++ (b ++ (x ++ d))) (append-nil c)
    ∙ sym (append_assoc (a ++ w) b (x ++ c)) ∙ sym (append_assoc ((a ++ w) ++ b) x c)

pub returns : goal.returns
returns g c =
    let items : c.as_bytes-items.result.now ≡ decimal c.args.items =
    c.as_bytes-items.ensures.value ∙ c.format.ensures.text in
    let front : List ℕ = codes "Weights: " ++ decimal c.args.weights ++ codes " numbers, and " in
    let whole = joined (codes "Weights: ") (decimal c.args.weights) (codes " numbers, and ")
    c.as_bytes-items.result.now (codes " items.\n") ∙ ap (λ x. front ++ x ++ codes " items.\n") items in
    subst
    (λ text. Writes (g.S.Sink.state c.args.sink.now) (g.S.Sink.state c.write_line.new.sink) c.write_line.result text)
    whole c.write_line.ensures
