-- What is known of the clauses of a derivation.
-- No public contract rests on this file.
use Rattle.std.specs.Prelude.{ℕ, ◌≡◌, Bool, true, false, List, Vec, Option, Some, None}
use Rattle.std.specs.declared.alloc.Global.{Global}
use Rattle.std.specs.List.{list_any}
use Rattle.refutation.specs.declared.derivation.Derivation.{Derivation}
use Rattle.refutation.specs.declared.answer.Answer.{Answer}
use Rattle.refutation.specs.declared.answer.Answer.TheVariants.{Refuted, Unfinished, DoesNotFollow, NoStep}
use Rattle.refutation.specs.Refutation.{IsValuation, Satisfies}
use Rattle.refutation.specs.inner.Steps.{AreTrueOrDropped, AreTrue}

-- the clauses and the literals on the trail are true, which can't be so if they were refuted
pub record Holds (v : ℕ → Bool) (d : Derivation) : Type 0 where
  pub clauses : AreTrueOrDropped v d.clauses.items
  pub trail : AreTrue v d.trail
  pub open_end : d.refuted ≡ false

-- what is true stays so
pub record Keeps (old new : Derivation) : Type 0 where
  pub keeps : (v : ℕ → Bool) → IsValuation v → Holds v old → Holds v new

-- what is true stays so, if the clause is true
pub record TakesClause (old : Derivation) (clause : List ℕ) (new : Derivation) : Type 0 where
  pub takes : (v : ℕ → Bool) → IsValuation v → Holds v old → list_any v clause ≡ true → Holds v new

-- where all that is known is true, the clause is
pub record Shows (d : Derivation) (clause : List ℕ) : Type 0 where
  pub shows : (v : ℕ → Bool) → IsValuation v → Holds v d → list_any v clause ≡ true

-- where a formula is true, so is all that is known
pub record Entails (formula : List (Vec ℕ Global)) (d : Derivation) : Type 0 where
  pub entails : (v : ℕ → Bool) → IsValuation v → Satisfies v formula → Holds v d

-- an answer that there is, if any, is true of what is known
abbrev pub AnswersRightly : Derivation → Option Answer → Type 0
AnswersRightly d None = Unit {0}
AnswersRightly d (Some Refuted) = d.refuted ≡ true
AnswersRightly d (Some Unfinished) = Unit {0}
AnswersRightly d (Some (DoesNotFollow step)) = Unit {0}
AnswersRightly d (Some (NoStep step)) = Unit {0}
