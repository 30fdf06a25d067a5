use Rattle.std.proofs.Common.{arith}
use Rattle.xc_text.proofs.SinkLemmas.{broke_before, then_writes, failed}
use Rattle.xc_list.proofs.Writing.{option_texts}
use Rattle.xc_list.specs.inner.Writing.{use_text}
use Rattle.xc_list.proofs.uses.write_option.Goals as goal

pub returns-in_err-write_uses : goal.returns-in_err-write_uses
returns-in_err-write_uses g c = search (arith, option_texts, failed, broke_before)

pub returns : goal.returns
returns g c =
    rw (option_texts (use_text c.args.problem.now) c.args.item _ _ _ _ c.place_in.result c.uses_at-uses.ensures.value
    c.place_in.ensures.value c.split_at.ensures.front c.split_at.ensures.back) (then_writes _ _ c.write_uses-2.result
    c.in_ok-write_uses.ensures c.write_uses-2.ensures)
