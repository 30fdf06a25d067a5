use Rattle.std.proofs.Common.{arith}
use Rattle.std.proofs.Common.{◌++◌, ◌∷◌, [], sym, ap, ◌∙◌}
use Rattle.xc_input.specs.Faults.{first}
use Rattle.xc_input.proofs.FaultLemmas.{read-stands, read-on, read-stop, read-end}
use Rattle.xc_input.proofs.GrammarLemmas.{row-checks, no-row, row-more}
use Rattle.xc_input.proofs.TokenLemmas.{part-solid}
use Rattle.xc_input.proofs.faulty.faulty_behind.Goals as goal

pub loop-part-init : goal.loop-part-init
loop-part-init c = grind (arith, no-row)

pub add-requires-clause-solid : goal.add-requires-clause-solid
add-requires-clause-solid c = part-solid c.loop-part.rest.now c.in-Some.ensures.0

pub cut_out-requires : goal.cut_out-requires
cut_out-requires c = read-stands c.loop-part.invariant.3 _ _ c.in-Some.ensures.2

pub returns-in-Err-Fault : goal.returns-in-Err-Fault
returns-in-Err-Fault c =
    read-stop c.loop-part.invariant.3 _ c.cut_out.result c.in-Some.ensures.0
    (ap first (sym (row-checks c.in-Some.part.now c.loop-part.invariant.2))
    ∙ (rw c.in-Err-Fault.field-0-is at c.in-Err-Fault.ensures.judged))
    c.cut_out.ensures.place c.cut_out.ensures.token c.cut_out.ensures.behind
    (cc (c.cut_out.ensures.kind, c.in-Err-Fault.fault-is))

pub loop-part-preserved : goal.loop-part-preserved
loop-part-preserved c =
    let others = c.loop-part.invariant.1 ++ c.in-Some.part.now ∷ [] in (
      c.in-Ok.ensures.added.0,
      others,
      rw c.in-Ok.ensures.added.1 (row-more c.in-Some.part.now c.loop-part.invariant.2),
      read-on c.loop-part.invariant.3 _ c.in-Some.ensures.0 c.in-Some.ensures.2
          (ap first (sym (row-checks c.in-Some.part.now c.loop-part.invariant.2)) ∙ c.in-Ok.ensures.judged),
    )

pub returns : goal.returns
returns c = read-end c.loop-part.invariant.3 c.in_default.ensures
