use Rattle.xc_tools.proofs.Written.{written-texts}
use Rattle.xc_tools.proofs.laws.written_texts_meet.Goals as goal

pub returns : goal.returns
returns c a listed texts w = written-texts a listed texts w
