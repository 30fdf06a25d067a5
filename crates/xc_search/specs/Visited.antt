-- What is known of calls with one solution after another.
-- Public contracts rest on this file: readers must believe it.
use Rattle.std.specs.Prelude.{Bool, true, false, ◌≡◌, List, [], ◌∷◌, MatchBool}
use Rattle.xc_search.specs.declared.choice.Choice.{Choice}

-- f was called with each of these members in turn, until it answered false, and no more: whether none did, what is left
-- after the last one, what is shown then, that one or nothing, and what the calls left of f
abbrev pub Visits : {F : Type 0} → (F → List Choice → Bool → F → Type 0) → F → List (List Choice) →
    Bool → List (List Choice) → List Choice → F → Type 0
Visits called f [] all left shown g = (all ≡ true) × (left ≡ []) × (shown ≡ []) × (g ≡ f)
Visits {F} called f (m ∷ ms) all left shown g = (more : Bool) × (f' : F) × called f m more f'
    × MatchBool more (Visits called f' ms all left shown g) ((all ≡ false) × (left ≡ ms) × (shown ≡ m) × (g ≡ f'))
