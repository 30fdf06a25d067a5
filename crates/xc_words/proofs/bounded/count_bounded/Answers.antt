use Rattle.std.proofs.lemmas.Option.{IfSome_then}
use Rattle.xc_words.proofs.TakingLemmas.{right_first}
use Rattle.xc_words.proofs.bounded.count_bounded.Goals as goal

pub returns-clause-counted : goal.returns-clause-counted
returns-clause-counted c = IfSome_then c.count_beside.result c.count_beside.ensures.counted
    (λ n h of. h c.args.items (right_first c.args.words.now c.args.items c.args.left of))
