use Rattle.std.proofs.Common.{arith, refl, ◌≡◌, ◌-◌, ◌∙◌, sym, ap, length, Some, ltb-false}
use Rattle.std.specs.Prelude.{slice_get}
use Rattle.std.proofs.lemmas.Option.{slice_get_read, slice_get_within}
use Rattle.xc_count.proofs.layer.is_at.Goals as goal

pub returns-then-k-states-clause-some : goal.returns-then-k-states-clause-some
returns-then-k-states-clause-some g c = λ e. (
  c.index-states-k.result,
  slice_get_read c.args.states.now (length c.args.states.now) (c.args.place - 1) c.index-states-k.result refl
      (omega arith) cc,
  c.is_state.ensures.same e,
)

pub returns-then-k-states-clause-none : goal.returns-then-k-states-clause-none
returns-then-k-states-clause-none g c = λ e s at q.
    let there : slice_get c.args.states.now (c.args.place - 1) ≡ Some c.index-states-k.result =
    slice_get_read c.args.states.now (length c.args.states.now) (c.args.place - 1) c.index-states-k.result refl
    (omega arith) cc in
    let both : Some c.index-states-k.result ≡ Some s = sym there ∙ at in
    let same : c.index-states-k.result ≡ s = cc in
    c.is_state.ensures.other e (ap (λ t. t.key.items) same ∙ q)

pub returns-else-k-states-clause-none : goal.returns-else-k-states-clause-none
returns-else-k-states-clause-none g c = λ e s at q.
    let within = slice_get_within c.args.states.now (c.args.place - 1) s at in
    let past = ltb-false _ _ e in
    omega (arith, within, past)
