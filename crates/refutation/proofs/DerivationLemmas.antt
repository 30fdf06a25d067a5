-- What a derivation's clauses are after it took or showed one.
use Rattle.std.proofs.Common.{ℕ, ◌≡◌, Bool, true, false, List, [], ◌∷◌, ◌++◌, length, sym, ap}
use Rattle.std.proofs.Common.{◌∙◌, inr, set, subst, take}
use Rattle.std.specs.Prelude.{Contains, Vec, Some, if◌then◌else◌}
use Rattle.std.specs.List.{list_any}
use Rattle.std.specs.declared.alloc.Global.{Global}
use Rattle.std.proofs.lemmas.List.Elements.{All-push, All-set, All-contains}
use Rattle.refutation.specs.declared.derivation.Derivation.{Derivation}
use Rattle.refutation.specs.declared.answer.Answer.{Answer}
use Rattle.refutation.specs.declared.answer.Answer.TheVariants.{Refuted, Unfinished, DoesNotFollow, NoStep}
use Rattle.refutation.specs.Answers.{IsTrueOf}
use Rattle.refutation.specs.Refutation.{IsUnsatisfiable}
use Rattle.refutation.specs.inner.Steps.{AreTrue, AreTrueOrDropped, IsTrueOrDropped, Leads, LeadTo, PutsAmong, Shown}
use Rattle.refutation.specs.inner.Derivations.{Keeps, TakesClause, Shows, Entails, AnswersRightly}
use Rattle.refutation.proofs.ClauseLemmas.{not_false, true_false}

pub puts_behind : (old : List (Vec ℕ Global)) (clause : Vec ℕ Global) → PutsAmong old clause.items (old ++ clause ∷ [])
puts_behind old clause = record {
  puts = λ v kept some. All-push (λ (c : Vec ℕ Global). IsTrueOrDropped v c.items) old clause kept (inr some);
}

pub puts_at : (old : List (Vec ℕ Global)) (clause : Vec ℕ Global) (i : ℕ)
    → PutsAmong old clause.items (set old i clause)
puts_at old clause i = record {
  puts = λ v kept some. All-set (λ (c : Vec ℕ Global). IsTrueOrDropped v c.items) old i clause (inr some) kept;
}

-- a clause was put among the others, and all that it leads to was taken
pub taken : (old new : Derivation) (clause mid : List ℕ) (fails b : Bool) → Leads clause old.trail fails mid
    → PutsAmong old.clauses.items clause new.clauses.items → LeadTo new.clauses.items mid b new.trail
    → new.refuted ≡ (if fails then true else (if b then true else old.refuted)) → TakesClause old clause new
taken old new clause mid fails b f p g r = record {
  takes = λ v is h some.
      let kept : AreTrueOrDropped v new.clauses.items = p.puts v h.clauses some in
      let first : (fails ≡ false) × AreTrue v mid = f.leads v is (inr some) h.trail in
      let both : (b ≡ false) × AreTrue v new.trail = g.leads v is kept first.1 in
      record {
        clauses = kept;
        trail = both.1;
        open_end = r ∙ (ap (λ (x : Bool). if x then true else (if b then true else old.refuted)) first.0
            ∙ (ap (λ (x : Bool). if x then true else old.refuted) both.0 ∙ h.open_end));
      };
}

-- the clauses and whether they are refuted are as they were, and the trail is cut back
pub kept_by : (old new : Derivation) (trail : List ℕ) → new.clauses ≡ old.clauses → new.refuted ≡ old.refuted
    → take (length old.trail) trail ≡ old.trail → new.trail ≡ take (length old.trail) trail → Keeps old new
kept_by old new trail e r b t = record {
  keeps = λ v is h. record {
    clauses = subst (λ (cs : Vec (Vec ℕ Global) Global). AreTrueOrDropped v cs.items) (sym e) h.clauses;
    trail = subst (λ (xs : List ℕ). AreTrue v xs) (sym (t ∙ b)) h.trail;
    open_end = r ∙ h.open_end;
  };
}

pub shows_by : (d : Derivation) (clause : List ℕ) (shown : Bool) (trail : List ℕ)
    → Shown d.clauses.items clause d.trail shown trail → shown ≡ true → Shows d clause
shows_by d clause shown trail s e = record {
  shows = λ v is h. not_false (list_any v clause) (λ none.
      true_false shown e (s.refutes v is h.clauses h.trail none));
}

pub keeps_taken : (a b d : Derivation) (clause : List ℕ) → Keeps a b → Shows a clause → TakesClause b clause d
    → Keeps a d
keeps_taken a b d clause k s t = record {
  keeps = λ v is h. t.takes v is (k.keeps v is h) (s.shows v is h);
}

pub entails_axiom : (formula : List (Vec ℕ Global)) (old new : Derivation) (c : Vec ℕ Global) → Contains formula c
    → TakesClause old c.items new → Entails formula old → Entails formula new
entails_axiom formula old new c among t e = record {
  entails = λ v is all. t.takes v is (e.entails v is all)
      (All-contains (λ (c : Vec ℕ Global). list_any v c.items ≡ true) formula c all among);
}

pub entails_kept : (formula : List (Vec ℕ Global)) (old new : Derivation) → Entails formula old → Keeps old new
    → Entails formula new
entails_kept formula old new e k = record {
  entails = λ v is all. k.keeps v is (e.entails v is all);
}

pub refuted_by : (formula : List (Vec ℕ Global)) (d : Derivation) → Entails formula d → d.refuted ≡ true
    → IsUnsatisfiable formula
refuted_by formula d e r = λ v is all. true_false d.refuted r ((e.entails v is all).open_end)

-- an answer that was had is true of the formula
pub justified : (formula : List (Vec ℕ Global)) (d : Derivation) (a : Answer) → Entails formula d
    → AnswersRightly d (Some a) → IsTrueOf formula a
justified formula d Refuted e r = refuted_by formula d e r
justified formula d Unfinished e r = tt
justified formula d (DoesNotFollow step) e r = tt
justified formula d (NoStep step) e r = tt
