use Rattle.std.proofs.Common.{◌≡◌, ◌-◌, ◌∙◌, arith, ap, sym, drop}
use Rattle.xc_input.specs.Problem.{numbered_get}
use Rattle.xc_search.specs.Cover.{members}
use Rattle.xc_count.specs.inner.Searching.{Searching}
use Rattle.xc_count.proofs.ByNumber.{greater_than, number_dropped}
use Rattle.xc_count.proofs.rival.Rival.find.Goals as goal

pub returns-then-gt : goal.returns-then-gt
returns-then-gt c =
    let p = c.args.self.puzzle in
    let passed = c.self.inside.passed in
    let number = c.args.number.now in
    let above = greater_than number c.from_u64-before.result (sym c.gt.ensures ∙ c.if-gt.true) in
    let rest : c.sub_assign.new.self ≡ number - passed =
    omega (arith, c.sub_assign.ensures, c.in_ok-rest.ensures.cases, c.from_u64-before.ensures) in
    let same = ap (λ (t : Searching). t.puzzle) c.self.view_is in
    c.in_ok-nth_left.ensures
    ∙ ap (λ ms. numbered_get ms c.sub_assign.new.self)
    (c.self.invariant.left ∙ ap (λ q. drop passed (members q)) same)
    ∙ ap (numbered_get (drop passed (members p))) rest
    ∙ sym (number_dropped (members p) passed number (omega (arith, above, c.from_u64-before.ensures)))
