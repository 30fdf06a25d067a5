use Rattle.std.proofs.Common.{[], refl, arith}
use Rattle.xc_search.specs.declared.went.Halt.TheVariants.{Member, Steps}
use Rattle.xc_search.proofs.SpanHalts.{at_its_end, stayed}
use Rattle.xc_search.proofs.span.Span.go_on.Goals as goal

pub returns-then-self : goal.returns-then-self
returns-then-self g c =
    rw (c.stay.ensures.went, c.stay.ensures.other (λ i. cc i)) (at_its_end c.args.many c.args.steps c.args.self.now
    (grind (arith, c.self.view_is, c.if-self.true)))

pub returns-then-many-eq0 : goal.returns-then-many-eq0
returns-then-many-eq0 g c =
    let s = c.self.inside in
    let goes = c.if-self.false in
    let none = c.if-many-eq0.true in
    rw (c.stay-then-many-eq0.ensures.went, c.stay-then-many-eq0.ensures.member refl, ← c.self.view_is, goes) (stayed
    s.state.position s.state.stack (record { led = c.self.invariant.led goes; solved = c.self.invariant.solved goes })
    (c.self.invariant.before goes) _ c.args.many c.args.steps Member _
    (omega (arith, none), rw none refl, refl) (λ h _. omega (arith, h, none)))

pub returns-then-steps-eq0 : goal.returns-then-steps-eq0
returns-then-steps-eq0 g c =
    let s = c.self.inside in
    let goes = c.if-self.false in
    let none = c.if-steps-eq0.true in
    rw (c.stay-then-steps-eq0.ensures.went, c.stay-then-steps-eq0.ensures.other (λ i. cc i), ← c.self.view_is, goes)
    (stayed
    s.state.position s.state.stack (record { led = c.self.invariant.led goes; solved = c.self.invariant.solved goes })
    (c.self.invariant.before goes) _ c.args.many c.args.steps Steps []
    (omega (arith, c.if-many-eq0.false), refl, refl, omega (arith, none), λ h. absurd (omega (arith, h, none)))
    (λ _ h. omega (arith, h, none)))
