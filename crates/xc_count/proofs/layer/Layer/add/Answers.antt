use Rattle.std.proofs.Common.{◌≡◌, ◌∷◌, ◌++◌, [], ◌∙◌, ap, subst₂}
use Rattle.std.proofs.lemmas.Result.{on_ok_weaker}
use Rattle.xc_count.specs.inner.Added.{keyed, with_added}
use Rattle.xc_count.proofs.AddedLemmas.{added_last}
use Rattle.xc_count.proofs.SlotLemmas.{no_state}
use Rattle.xc_count.proofs.layer.Layer.add.Goals as goal

pub push-requires-clause-fresh : goal.push-requires-clause-fresh
push-requires-clause-fresh g c k s e q =
    let self = c.args.self.now in
    no_state self.seed self.states.items c.as_slice.result.now c.args.key.now c.hash_of-hash.result c.find-found.result
    self.hashed c.as_slice.ensures.value c.hash_of-hash.ensures c.in_default.is c.find-found.ensures.none k s e
    (q ∙ c.in_ok-state.ensures.key)

pub returns-clause-added : goal.returns-clause-added
returns-clause-added g c =
    let self = c.args.self.now in
    let state = c.in_ok-state.state in
    let join = g.W.Worth.joined in
    let ss = self.states.items in
    let last : keyed (ss ++ state ∷ []) ≡ with_added join state.key.items state.worth (keyed ss) =
    added_last join ss state (λ k s e q.
    no_state self.seed ss c.as_slice.result.now c.args.key.now c.hash_of-hash.result c.find-found.result
    self.hashed c.as_slice.ensures.value c.hash_of-hash.ensures c.in_default.is c.find-found.ensures.none k s e
    (q ∙ c.in_ok-state.ensures.key)) in
    on_ok_weaker c.push.result (λ pushed. ap keyed pushed
    ∙ subst₂ (λ key worth. keyed (ss ++ state ∷ []) ≡ with_added join key worth (keyed ss))
    c.in_ok-state.ensures.key c.in_ok-state.ensures.worth last) c.push.ensures.states
