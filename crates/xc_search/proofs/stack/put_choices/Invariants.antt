use Rattle.std.proofs.Common.{◌≡◌, ◌++◌, map, length}
use Rattle.std.specs.Prelude.{All, vec_capacity}
use Rattle.xc_search.specs.inner.Levels.{chosen, IsShown}
use Rattle.xc_search.proofs.stack.put_choices.Given as goal

-- with the choices of the levels that are left they are all
abbrev pub invariant-loop-rest : goal.invariant-loop-rest
invariant-loop-rest g l = record {
  items : l.choices.items ++ map (chosen l.position.puzzle) l.rest
      ≡ map (chosen l.position.puzzle) l.fn.shown.0.now;
  capacity : vec_capacity l.choices ≡ vec_capacity l.fn.choices;
  shown : All (IsShown l.position.puzzle) l.rest;
}

abbrev pub decreases-loop-rest : goal.decreases-loop-rest
decreases-loop-rest g l = length l.rest
