use Rattle.std.proofs.Common.{◌≡◌, ◌-◌, ◌∙◌, arith, ap₂, sym}
use Rattle.xc_input.specs.Problem.{numbered_get}
use Rattle.xc_search.specs.InSpan.{left_of}
use Rattle.xc_count.proofs.ByNumber.{greater_than, number_dropped, number_none}
use Rattle.xc_count.proofs.passing.pass_many.Goals as goal

pub returns-then-pass-lt-MANY-clause-none : goal.returns-then-pass-lt-MANY-clause-none
returns-then-pass-lt-MANY-clause-none c e =
    let above = greater_than c.loop-span.number c.from_u64-many.result (sym c.gt.ensures ∙ c.loop-span-test.true) in
    c.loop-span.invariant.same ∙ number_none (left_of c.loop-span.span) c.loop-span.number
    (omega (arith, above, c.from_u64-many.ensures, c.pass.ensures.count, c.if-pass-lt-MANY.true))

pub loop-span-preserved : goal.loop-span-preserved
loop-span-preserved c =
    let above = greater_than c.loop-span.number c.from_u64-many.result (sym c.gt.ensures ∙ c.loop-span-test.true) in
    let rest : c.loop-span.number - 1000000 ≡ c.sub_assign.new.self =
    omega (arith, c.sub_assign.ensures, c.from_u64-many.ensures, above) in
    record {
      node = c.pass.ensures.node;
      same = c.loop-span.invariant.same
          ∙ number_dropped (left_of c.loop-span.span) 1000000 c.loop-span.number
          (omega (arith, above, c.from_u64-many.ensures))
          ∙ ap₂ numbered_get (sym c.pass.ensures.left) rest;
      above = λ h. omega (arith, c.sub_assign.ensures, above);
    }
