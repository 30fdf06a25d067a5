-- What an answer says of clauses.
-- Public contracts rest on this file: readers must believe it.
use Rattle.std.specs.Prelude.{ℕ, List, Vec}
use Rattle.std.specs.declared.alloc.Global.{Global}
use Rattle.refutation.specs.Refutation.{IsUnsatisfiable}
use Rattle.refutation.specs.declared.answer.Answer.{Answer}
use Rattle.refutation.specs.declared.answer.Answer.TheVariants.{Refuted, Unfinished, DoesNotFollow, NoStep}

-- where clauses were refuted, they can't all be true
abbrev pub IsTrueOf : List (Vec ℕ Global) → Answer → Type 0
IsTrueOf formula Refuted = IsUnsatisfiable formula
IsTrueOf formula Unfinished = Unit {0}
IsTrueOf formula (DoesNotFollow step) = Unit {0}
IsTrueOf formula (NoStep step) = Unit {0}
