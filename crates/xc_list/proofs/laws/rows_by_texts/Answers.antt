use Rattle.xc_list.proofs.Writing.{row_word-row_text}
use Rattle.xc_list.proofs.laws.rows_by_texts.Goals as goal

pub returns : goal.returns
returns c row all = row_word-row_text row all
