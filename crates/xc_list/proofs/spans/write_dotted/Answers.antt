use Rattle.xc_text.proofs.SinkLemmas.{then_writes}
use Rattle.xc_list.proofs.spans.write_dotted.Goals as goal

pub returns : goal.returns
returns g c = then_writes _ _ c.write_number.result c.in_ok-write_all.ensures c.write_number.ensures
