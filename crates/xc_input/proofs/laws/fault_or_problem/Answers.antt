use Rattle.std.proofs.Common.{arith}
use Rattle.xc_input.proofs.GrammarLemmas.{named_of}
use Rattle.xc_text.specs.declared.seed.Seed.{Seed}
use Rattle.xc_input.specs.inner.Stages.{stage_of}
use Rattle.xc_input.proofs.LineLemmas.{faultless-stands, stands-only}
use Rattle.xc_input.proofs.laws.fault_or_problem.Goals as goal

-- a text stands by each seed, so by this one
some_seed : Seed
some_seed = record { state = 0; multiplier = 1 }

pub returns-clause-stands : goal.returns-clause-stands
returns-clause-stands c = λ kind lines. (
  λ none. (
    named_of some_seed (stage_of kind lines).sheet,
    (stage_of kind lines).ignored,
    faultless-stands some_seed kind lines none,
  ),
  λ s. (stands-only kind lines s.0 s.1 s.2).0,
)

pub returns-clause-one : goal.returns-clause-one
returns-clause-one c = λ kind lines a b is js s t.
    let p = stands-only kind lines a is s in grind (arith, stands-only kind lines b js t)
