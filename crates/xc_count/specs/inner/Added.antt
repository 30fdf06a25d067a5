-- What the keys of a layer are worth once a worth is added to one of them.
-- No public contract rests on this file.
use Rattle.std.specs.Prelude.{ℕ, List, [], ◌∷◌, map, nat_eq, if◌then◌else◌}
use Rattle.std.specs.Cmp.Lexicographic.{pointwise}
use Rattle.xc_count.specs.declared.layer.State.{State}

-- the key of each state, and what it is worth
abbrev pub keyed : {W : Type 0} → List (State W) → List (List ℕ × W)
keyed ss = map (λ s. (s.key.items, s.worth)) ss

-- a worth is added to a key: it is joined to what that was worth, and comes last where the key is new
abbrev pub with_added : {W : Type 0} → (W → W → W) → List ℕ → W → List (List ℕ × W) → List (List ℕ × W)
with_added join key w [] = (key, w) ∷ []
with_added join key w (t ∷ ts) =
    if pointwise nat_eq t.0 key then (t.0, join t.1 w) ∷ ts else t ∷ with_added join key w ts
