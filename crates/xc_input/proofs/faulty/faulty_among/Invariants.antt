use Rattle.std.proofs.Common.{◌≡◌, ℕ, List, length, map}
use Rattle.xc_input.specs.Tokens.{tokens}
use Rattle.xc_input.specs.Faults.{token_checks, item_of}
use Rattle.xc_input.specs.inner.Stages.{context}
use Rattle.xc_input.specs.inner.Stored.{key_names}
use Rattle.xc_input.specs.inner.Builders.{AreMarks}
use Rattle.xc_input.proofs.FaultLemmas.{IsReadTo}
use Rattle.xc_input.proofs.faulty.faulty_among.Given as goal

-- the tokens so far have no fault, and their items are marked
abbrev pub invariant-loop-token : goal.invariant-loop-token
invariant-loop-token l =
    (length l.marks ≡ length l.names.keys) × (others : List (List ℕ))
    × AreMarks l.marks (map (item_of (context l.kind (key_names l.names.keys) l.primary)) others)
    × IsReadTo tokens (token_checks (context l.kind (key_names l.names.keys) l.primary)) l.line l.rest others

abbrev pub decreases-loop-token : goal.decreases-loop-token
decreases-loop-token l = length l.rest
