-- What counting reports, with an output that isn't touched, at once or behind the line that a search goes on alone.
use Rattle.std.proofs.Common.{ℕ, ◌≡◌, ◌⊎◌, inl, inr, subst, sym}
use Rattle.xc_input.specs.Named.{Named}
use Rattle.xc_tools.specs.WholeRuns.{Sinks}
use Rattle.xc_count_run.specs.Alone.{DidPerhapsAlone}
use Rattle.xc_count_run.specs.Counts.{DidAnswer, DidCount}
use Rattle.xc_tools.specs.CountArguments.{Wish}
use Rattle.xc_count_run.specs.inner.{ReportsAlone, ReportsCount}

-- the number
pub counted : {O E : Type 0} (a : Named) (status : ℕ) (old new : Sinks O E) → new.out ≡ old.out
    → ReportsCount a status old.err.state new.err.state → DidCount a status old new
counted a status old new same (inl c) = inl (c, same)
counted a status old new same (inr r) = inr (record { is_status = r.0; told = r.1; unwritten = same })

-- and perhaps the line before it
pub counted_alone : {O E : Type 0} (a : Named) (status : ℕ) (old new : Sinks O E) → new.out ≡ old.out
    → ReportsCount a status old.err.state new.err.state ⊎ ReportsAlone a status old.err.state new.err.state
    → DidPerhapsAlone (λ from. DidCount a status from new) status old new
counted_alone a status old new same (inl r) = inl (counted a status old new same r)
counted_alone a status old new same (inr (inl b)) = inr (inl (b.0, b.1, same))
counted_alone a status old new same (inr (inr m)) =
    let behind = record old.err { state = m.0 } in
    inr (inr (behind, m.1, counted a status (record old { err = behind }) new same m.2))

-- the wish that a question means was answered
pub answered : {O E : Type 0} (a : Named) (asked wish : Wish) (status : ℕ) (old new : Sinks O E) → asked ≡ wish
    → DidPerhapsAlone (λ from. DidAnswer wish status from new a) status old new
    → DidPerhapsAlone (λ from. DidAnswer asked status from new a) status old new
answered a asked wish status old new same =
    subst (λ w. DidPerhapsAlone (λ from. DidAnswer w status from new a) status old new) (sym same)
