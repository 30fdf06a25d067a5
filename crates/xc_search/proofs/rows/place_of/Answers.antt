use Rattle.std.proofs.Common.{ℕ, ◌≡◌, ◌<◌, ◌≤◌, ◌∙◌, true, List, [], ◌∷◌, map, length, refl, arith}
use Rattle.xc_search.specs.declared.level.Level.{Level}
use Rattle.xc_search.specs.Spans.{precedes}
use Rattle.xc_search.proofs.rows.place_of.Goals as goal

begins : (ls : List Level) (row : List ℕ) → length ls < 1 → 1 ≤ length row
    → precedes (map (λ (l : Level). l.begun) ls) row ≡ true
begins [] [] h k = absurd (omega (arith, k))
begins [] (x ∷ row) h k = refl
begins (l ∷ ls) row h k = absurd (omega (arith, h))

pub returns-in-len1-up-behind-2-clause-begins : goal.returns-in-len1-up-behind-2-clause-begins
returns-in-len1-up-behind-2-clause-begins c _ =
    c.loop-below.invariant.here ∙ begins _ _ c.in_default.len_below c.in-len1-up-behind-2.len_at_least
