-- What a task is called in public clauses.
-- No public contract rests on this file.
use Rattle.xc_none_run.specs.declared.asked.Task.{Task}
use Rattle.xc_none_run.specs.declared.asked.Task.TheVariants.{Clauses, Proof, Weights}
use Rattle.xc_none_run.specs.Words.{Sought, its_clauses, by_proof, by_weights}

-- what is sought by a task
abbrev pub sought : Task → Sought
sought Clauses = its_clauses
sought Proof = by_proof
sought Weights = by_weights
