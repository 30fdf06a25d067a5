use Rattle.std.proofs.Common.{ℕ, ◌≡◌, ◌∙◌, List, ap, length, get_or, ltb-true, ltb-false}
use Rattle.std.specs.Prelude.{nat_lt}
use Rattle.std.proofs.lemmas.List.{get_or_past}
use Rattle.std.proofs.lemmas.Result.{IfOk-weaker}
use Rattle.xc_text.proofs.ListLemmas.{by_bool}
use Rattle.xc_count.specs.inner.ByOption.{marks_in, ways, ways_from}
use Rattle.xc_count.specs.inner.Worth.{worth_by}
use Rattle.xc_count.proofs.Forgetting.{ways_same}
use Rattle.xc_count.proofs.by_option.first_layer.Goals as goal

pub returns : goal.returns
returns c = λ os.
    let p = c.args.problem.now.puzzle in
    let key = c.in_ok-key.key.items in
    let read = c.as_slice.result.now in
    let f = ways_from p os in
    let zero : (i : ℕ) → get_or key i 0 ≡ 0 = λ i. by_bool (nat_lt i (length key))
    (λ e. c.in_ok-key.ensures.each i 0 (ltb-true _ _ e)) (λ e. get_or_past key i 0 (ltb-false _ _ e)) in
    let same : f key ≡ ways p os (λ i. 0) = ways_same p os (marks_in key) (λ i. 0) zero in
    let here : f read ≡ f key = ap f c.as_slice.ensures.value in
    IfOk-weaker c.layer_of.result
    (λ l. (f : List ℕ → ℕ) → worth_by f l.states.items ≡ f read)
    (λ l. worth_by f l.states.items ≡ ways p os (λ i. 0)) (λ l e. e f ∙ here ∙ same) c.layer_of.ensures.worth
