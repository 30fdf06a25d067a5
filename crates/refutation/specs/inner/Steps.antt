-- What clauses and literals that were found lead to.
-- No public contract rests on this file.
use Rattle.std.specs.Prelude.{ℕ, ◌≡◌, ◌⊎◌, Bool, true, false, List, Vec, All, Contains, length, take, slice_index_or}
use Rattle.std.specs.List.{list_any}
use Rattle.std.specs.declared.alloc.Global.{Global}
use Rattle.refutation.specs.Refutation.{negated, IsValuation}
use Rattle.refutation.specs.declared.clause.Status.{Status}
use Rattle.refutation.specs.declared.clause.Status.TheVariants.{Open, Settled, False}
use Rattle.refutation.specs.declared.propagation.Watched.{Watched}
use Rattle.refutation.specs.declared.propagation.Watched.TheVariants.{Stays, Moved, Conflict}

-- each literal of a clause is this one, or its opposite is on the trail
pub record AreFalseBeside (trail : List ℕ) (other : ℕ) (clause : List ℕ) : Type 0 where
  pub all : All (λ l. (l ≡ other) ⊎ Contains trail (negated l)) clause

-- a clause is true; one without literals is one that was deleted
abbrev pub IsTrueOrDropped : (ℕ → Bool) → List ℕ → Type 0
IsTrueOrDropped v clause = (length clause ≡ 0) ⊎ (list_any v clause ≡ true)

-- each clause is true or deleted
abbrev pub AreTrueOrDropped : (ℕ → Bool) → List (Vec ℕ Global) → Type 0
AreTrueOrDropped v clauses = All (λ c. IsTrueOrDropped v c.items) clauses

-- each literal that is marked is on the trail
pub record AreAmong (marks : List Bool) (trail : List ℕ) : Type 0 where
  pub among : (l : ℕ) → slice_index_or marks l false ≡ true → Contains trail l

-- each literal is true
abbrev pub AreTrue : (ℕ → Bool) → List ℕ → Type 0
AreTrue v trail = All (λ l. v l ≡ true) trail

-- Where a clause and the literals of the old trail are true, there is no conflict, and those of the new one are. The
-- new one begins as the old one.
pub record Leads (clause : List ℕ) (old : List ℕ) (conflict : Bool) (new : List ℕ) : Type 0 where
  pub begins : take (length old) new ≡ old
  pub leads : (v : ℕ → Bool) → IsValuation v → IsTrueOrDropped v clause → AreTrue v old
      → (conflict ≡ false) × AreTrue v new

-- the same of many clauses
pub record LeadTo (clauses : List (Vec ℕ Global)) (old : List ℕ) (conflict : Bool) (new : List ℕ) : Type 0 where
  pub begins : take (length old) new ≡ old
  pub leads : (v : ℕ → Bool) → IsValuation v → AreTrueOrDropped v clauses → AreTrue v old
      → (conflict ≡ false) × AreTrue v new

-- where a clause is false and the literals of the old trail are true, none of it was found, and those of the new one
-- are
pub record Assumes (clause : List ℕ) (old : List ℕ) (found : Bool) (new : List ℕ) : Type 0 where
  pub begins : take (length old) new ≡ old
  pub assumes : (v : ℕ → Bool) → IsValuation v → AreTrue v old → list_any v clause ≡ false
      → (found ≡ false) × AreTrue v new

-- where clauses and the literals of the old trail are true, and this clause is false, it was not shown
pub record Shown (clauses : List (Vec ℕ Global)) (clause : List ℕ) (old : List ℕ) (shown : Bool) (new : List ℕ) : Type 0
  where
    pub begins : take (length old) new ≡ old
    pub refutes : (v : ℕ → Bool) → IsValuation v → AreTrueOrDropped v clauses → AreTrue v old
        → list_any v clause ≡ false
        → shown ≡ false

-- a clause was put among others, which are all there unless they were dropped
pub record PutsAmong (old : List (Vec ℕ Global)) (clause : List ℕ) (new : List (Vec ℕ Global)) : Type 0 where
  pub puts : (v : ℕ → Bool) → AreTrueOrDropped v old → list_any v clause ≡ true → AreTrueOrDropped v new

-- whether the literals of a clause were all false
abbrev pub is_false : Status → Bool
is_false (Open literal) = false
is_false Settled = false
is_false False = true

-- the same of a clause that is watched
abbrev pub is_conflict : Watched → Bool
is_conflict Stays = false
is_conflict Moved = false
is_conflict Conflict = true
