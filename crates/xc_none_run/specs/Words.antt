-- What the words of a run ask for.
-- Public contracts rest on this file: readers must believe it.
use Rattle.std.specs.Prelude.{ℕ, List, [], ◌∷◌, Option, None, Some, codes, option_map, option_and_then, if◌then◌else◌}
use Rattle.std.specs.Str.{bytes_eq}
use Rattle.xc_input.specs.declared.kind.Kind.{Kind}
use Rattle.xc_tools.specs.Arguments.{numbered_kind}

-- what is asked of a problem: its clauses, or whether a proof or weights show that it has no cover
pub data Sought : Type 0 where
  its_clauses : Sought
  by_proof : Sought
  by_weights : Sought

-- what words after the kind ask: the problem's file alone, a further file, or that and the letter w
abbrev pub sought_of : List (List ℕ) → Option Sought
sought_of (problem ∷ []) = Some its_clauses
sought_of (problem ∷ file ∷ []) = Some by_proof
sought_of (problem ∷ file ∷ word ∷ []) = if bytes_eq word (codes "w") then Some by_weights else None
sought_of _ = None

-- the kind of problem, and what is asked of it
abbrev pub asked_none : List (List ℕ) → Option (Kind × Sought)
asked_none [] = None
asked_none (kind ∷ words) =
    option_and_then (λ k. option_map (λ sought. (k, sought)) (sought_of words)) (numbered_kind kind)
