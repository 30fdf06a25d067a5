use Rattle.xc_text.proofs.SinkLemmas.{took_nothing, if_failed}
use Rattle.xc_list.proofs.Writing.{puts_out, held_more}
use Rattle.std.proofs.Common.{◌≡◌, ◌∙◌, arith, refl, take, ap}
use Rattle.std.proofs.lemmas.Slice.{between_is}
use Rattle.xc_list.proofs.print.put_line.Goals as goal
use Rattle.xc_list.proofs.print.put_line.Goals.{in-Some+in_default-put_choice, in_default, Joined-laid}

-- what the page held is there where the line wasn't put
same : (g : _) (c : Joined-laid g) → take c.args.held.to c.match-laid.page ≡ take c.args.held.to c.args.page.now
same g c = elim c.match-laid.branch [
  | in-Some+in_default-put_choice w ↦
      ap (take c.args.held.to) w.page-is ∙ w.in_default-put_choice.ensures.none refl
  | in_default w ↦ ap (take c.args.held.to) w.page-is
]

pub returns-in-Some-put_choice-clause-put : goal.returns-in-Some-put_choice-clause-put
returns-in-Some-put_choice-clause-put g c = grind (arith, took_nothing, held_more)

pub returns-in_err-write_past-clause-put : goal.returns-in_err-write_past-clause-put
returns-in_err-write_past-clause-put g c =
    let joined = (goal.at.returns-in_err-write_past-clause-put g c).Joined-laid in
    if_failed _ _ c.from_residual.ensures.0 (rw (between_is, same g joined) at c.in_err-write_past.ensures)

pub returns-clause-put : goal.returns-clause-put
returns-clause-put g c =
    let joined = (goal.at.returns-clause-put g c).Joined-laid in
    puts_out (rw (between_is, same g joined) at c.in_ok-write_past.ensures)
