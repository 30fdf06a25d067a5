use Rattle.std.specs.Prelude.{codes, decimal, flat_map, ◌++◌, Vec, ℕ}
use Rattle.std.specs.declared.alloc.Global.{Global}
use Rattle.xc_text.proofs.SinkLemmas.{then_took, then_broke, broke_before, then_writes, failed}
use Rattle.xc_none.specs.Cnf.{clause_text}
use Rattle.xc_none.proofs.cnf.write_parts.Goals as goal

pub returns-in_err-write_comments : goal.returns-in_err-write_comments
returns-in_err-write_comments g c = failed _ c.from_residual.ensures.0 (broke_before (flat_map (λ
    (x : Vec ℕ Global). clause_text x.items) c.args.clauses.now) (broke_before
    (codes "p cnf " ++ decimal c.args.variables ++ codes " " ++ decimal c.args.many ++ codes "\n")
    c.in_err-write_comments.ensures))

pub returns-in_err-write_two_numbers : goal.returns-in_err-write_two_numbers
returns-in_err-write_two_numbers g c = failed _ c.from_residual-in_err-write_two_numbers.ensures.0 (broke_before
    (flat_map (λ (x : Vec ℕ Global). clause_text x.items) c.args.clauses.now)
    (then_broke c.in_ok-write_comments.ensures c.in_err-write_two_numbers.ensures))

pub returns : goal.returns
returns g c = then_writes _ _ c.write_clauses.result
    (then_took c.in_ok-write_comments.ensures c.in_ok-write_two_numbers.ensures) c.write_clauses.ensures
