use Rattle.std.proofs.Common.{arith, length, ◌≡◌, ◌+◌, ◌-◌}
use Rattle.xc_none.proofs.HolderLemmas.{row_next, last_row}
use Rattle.xc_none.proofs.item_clauses.add_lower.Goals as goal

pub add_lower_row-requires-clause-next : goal.add_lower_row-requires-clause-next
add_lower_row-requires-clause-next c =
    row_next c.args.problem.now.puzzle c.args.chain.item c.args.options.now c.loop-k.k c.requires.holders
    c.requires.rising (omega arith) (omega arith)

pub add_clause-requires-clause-holds : goal.add_clause-requires-clause-holds
add_clause-requires-clause-holds c =
    let end : length c.args.options.now ≡ length c.args.options.now - 1 + 1 = grind arith in
    c.least-clause.ensures c.args.problem.now.puzzle c.args.bounds
    (last_row c.args.problem.now.puzzle c.args.chain.item c.args.options.now (length c.args.options.now - 1)
    c.requires.holders c.requires.rising end)
    c.requires.bounds c.least_count-count.ensures
