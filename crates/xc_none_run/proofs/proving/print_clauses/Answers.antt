use Rattle.std.proofs.Common.{inl}
use Rattle.xc_none_run.proofs.proving.print_clauses.Goals as goal

pub returns-in-Ok : goal.returns-in-Ok
returns-in-Ok g c = record {
  did = inl (c.in-Ok.formula.meanings.items, c.in-Ok.formula.clauses.items, c.in-Ok.ensures, c.print_formula.ensures);
}
