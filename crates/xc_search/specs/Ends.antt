-- The ends of a search's tree, each a solution or a dead end.
-- Public contracts rest on this file: readers must believe it.
use Rattle.std.specs.Prelude.{ℕ, zero, suc, ◌+◌, Bool, true, false, List, [], ◌∷◌, length, flat_map, Option, Some, None}
use Rattle.xc_search.specs.Listing.{Wanted, Residual, branch_item, branches_of}

-- the ends after branches, one dead end where there is no branch
abbrev pub or_dead_end : List Bool → List Bool
or_dead_end [] = false ∷ []
or_dead_end (e ∷ es) = e ∷ es

-- One level of the tree, over the ends of what is left: with no primary item left a solution, which is true; else the
-- ends after the branches of the branch item, in turn, or a dead end, which is false, where it has none
abbrev pub level_ends : (Residual → List Bool) → Option Wanted → Residual → List Bool
level_ends rest None r = true ∷ []
level_ends rest (Some w) r = or_dead_end (flat_map (λ b. rest b.next) (branches_of r w))

-- the ends, by levels to a depth
unfoldable pub ends_to : ℕ → Residual → List Bool
ends_to zero r = true ∷ []
ends_to (suc depth) r = level_ends (ends_to depth) (branch_item r) r

-- The ends of the tree of what is left, in order, to the depth of its listing. Each solution among them is a member.
unfoldable pub ends : Residual → List Bool
ends r = ends_to (length r.items + length r.options) r

-- what is left of these ends after the n-th solution; none where there are fewer
abbrev pub ends_after : ℕ → List Bool → List Bool
ends_after zero es = es
ends_after (suc n) [] = []
ends_after (suc n) (true ∷ es) = ends_after n es
ends_after (suc n) (false ∷ es) = ends_after (suc n) es
