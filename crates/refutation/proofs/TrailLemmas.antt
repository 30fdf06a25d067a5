-- Marks of the literals on a trail.
use Rattle.std.proofs.Common.{ℕ, ◌≡◌, Bool, true, false, List, [], ◌∷◌, ◌++◌, get_or, set}
use Rattle.std.proofs.Common.{length, sym, ap, arith, ◌∙◌, inl, inr, subst, replicate}
use Rattle.std.specs.Prelude.{Contains}
use Rattle.std.proofs.lemmas.Bool.{cases_eq, cases_lt, false≢true}
use Rattle.std.proofs.lemmas.List.{get_or-set_other, get_or-set_same, get_or_past, set_past}
use Rattle.std.proofs.lemmas.List.{get_or-replicate, length-replicate}
use Rattle.std.proofs.lemmas.List.Elements.{Contains-append_left, Contains-push, Contains-push_cases}
use Rattle.refutation.specs.inner.Steps.{AreAmong}

-- whatever the length of the marks, a mark that was taken away isn't there
unmarked : (marks : List Bool) (l : ℕ) → get_or (set marks l false) l false ≡ false
unmarked marks l = elim (cases_lt l (length marks)) [
  | inl h ↦ get_or-set_same marks l false false h
  | inr h ↦ ap (λ (xs : List Bool). get_or xs l false) (set_past marks l false h) ∙ get_or_past marks l false h
]

none_marked : (n l : ℕ) → get_or (replicate n false) l false ≡ false
none_marked n l = elim (cases_lt l n) [
  | inl h ↦ get_or-replicate n l false false h
  | inr h ↦ get_or_past (replicate n false) l false (omega (arith, length-replicate n false))
]

pub among_none : (n : ℕ) (marks : List Bool) (trail : List ℕ) → marks ≡ replicate n false → AreAmong marks trail
among_none n marks trail is = record {
  among = λ l e. absurd (false≢true (sym (none_marked n l)
      ∙ subst (λ (ms : List Bool). get_or ms l false ≡ true) is e));
}

pub among_push : (old new : List Bool) (trail longer : List ℕ) (m : ℕ) → AreAmong old trail → new ≡ set old m true
    → longer ≡ trail ++ m ∷ [] → AreAmong new longer
among_push old new trail longer m a is more = record {
  among = λ l e.
      let there : get_or (set old m true) l false ≡ true = subst (λ (ms : List Bool). get_or ms l false ≡ true) is e in
      subst (λ (xs : List ℕ). Contains xs l) (sym more) (elim (cases_eq l m) [
        | inl same ↦ subst (λ (x : ℕ). Contains (trail ++ m ∷ []) x) (sym same) (Contains-push trail m)
        | inr not ↦ Contains-append_left trail (m ∷ []) l
            (a.among l (sym (get_or-set_other old m l true false not) ∙ there))
      ]);
}

pub among_pop : (old new : List Bool) (trail front : List ℕ) (m : ℕ) → AreAmong old trail → new ≡ set old m false
    → trail ≡ front ++ m ∷ [] → AreAmong new front
among_pop old new trail front m a is less = record {
  among = λ l e.
      let there : get_or (set old m false) l false ≡ true = subst (λ (ms : List Bool). get_or ms l false ≡ true) is e in
      elim (cases_eq l m) [
        | inl same ↦ absurd (false≢true (sym (unmarked old l)
            ∙ subst (λ (x : ℕ). get_or (set old x false) l false ≡ true) (sym same) there))
        | inr not ↦
            (let found : Contains (front ++ m ∷ []) l = subst (λ (xs : List ℕ). Contains xs l) less
            (a.among l (sym (get_or-set_other old m l false false not) ∙ there)) in
            elim (Contains-push_cases front m l found) [ inl here ↦ here | inr e2 ↦ absurd (not (sym e2)) ])
      ];
}
