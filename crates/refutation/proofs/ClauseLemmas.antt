-- What a clause comes to, and what clauses lead to.
use Rattle.std.proofs.Common.{ℕ, ◌≡◌, ◌⊎◌, ◌<◌, ◌≤◌, ◌+◌, Bool, true, false, List, [], ◌∷◌, ◌++◌, length, refl}
use Rattle.std.proofs.Common.{sym, ap, ◌∙◌, inl, inr, subst, take, get_or, arith, min}
use Rattle.std.specs.Prelude.{All, Contains, Vec, not}
use Rattle.std.proofs.lemmas.List.{take_all, take_at, take-take, length-take}
use Rattle.std.specs.List.{list_any}
use Rattle.std.specs.declared.alloc.Global.{Global}
use Rattle.std.proofs.lemmas.List.Elements.{All-contains, All-nil, All-weaker, All-push, All-more}
use Rattle.std.proofs.lemmas.List.Folds.{list_any_none, list_any_at}
use Rattle.refutation.specs.Refutation.{negated, IsValuation}
use Rattle.refutation.specs.inner.Steps.{AreFalseBeside, AreTrue, IsTrueOrDropped, Leads, LeadTo, Assumes, Shown}

pub not_true : (b : Bool) → not b ≡ true → b ≡ false
not_true true e = cc
not_true false e = refl

pub not_false : (b : Bool) → (b ≡ false → ⊥) → b ≡ true
not_false true h = refl
not_false false h = absurd (h refl)

pub not_true_false : (b : Bool) → (b ≡ true → ⊥) → b ≡ false
not_true_false true h = absurd (h refl)
not_true_false false h = refl

pub true_false : (b : Bool) → b ≡ true → b ≡ false → ⊥
true_false b e f = cc

-- a literal is false where its opposite is on a trail that is true
pub false_by : (v : ℕ → Bool) (trail : List ℕ) (l : ℕ) → IsValuation v → AreTrue v trail → Contains trail (negated l)
    → v l ≡ false
false_by v trail l is t found =
    let m : v (negated l) ≡ true = All-contains (λ m. v m ≡ true) trail (negated l) t found in
    not_true (v l) (sym (is l) ∙ m)

false_or : (v : ℕ → Bool) (trail : List ℕ) (l u : ℕ) → IsValuation v → AreTrue v trail → v u ≡ false
    → (l ≡ u) ⊎ Contains trail (negated l) → v l ≡ false
false_or v trail l u is t f (inl e) = ap v e ∙ f
false_or v trail l u is t f (inr found) = false_by v trail l is t found

-- a clause whose literals are all false is false
pub none_true : (v : ℕ → Bool) (trail clause : List ℕ) → IsValuation v → AreTrue v trail
    → All (λ l. Contains trail (negated l)) clause → list_any v clause ≡ true → ⊥
none_true v trail clause is t all some =
    let none : list_any v clause ≡ false = list_any_none v clause
    (All-weaker (λ l. Contains trail (negated l)) (λ l. v l ≡ false) (λ l found. false_by v trail l is t found)
    clause all) in
    cc

-- where all literals of a true clause but one are false, that one is true
pub one_true : (v : ℕ → Bool) (trail clause : List ℕ) (u : ℕ) → IsValuation v → AreTrue v trail
    → All (λ l. (l ≡ u) ⊎ Contains trail (negated l)) clause → list_any v clause ≡ true → v u ≡ true
one_true v trail clause u is t all some = not_false (v u) (λ f.
    let none : list_any v clause ≡ false = list_any_none v clause
    (All-weaker (λ l. (l ≡ u) ⊎ Contains trail (negated l)) (λ l. v l ≡ false)
    (λ l w. false_or v trail l u is t f w) clause all) in
    cc)

false_too : (trail : List ℕ) (other l : ℕ) → Contains trail (negated other) → (l ≡ other) ⊎ Contains trail (negated l)
    → Contains trail (negated l)
false_too trail other l found (inl e) = subst (λ (m : ℕ). Contains trail (negated m)) (sym e) found
false_too trail other l found (inr is) = is

pub beside_none : (trail clause : List ℕ) (other : ℕ) → AreFalseBeside trail other (take 0 clause)
beside_none trail clause other = record { all = All-nil (λ m. (m ≡ other) ⊎ Contains trail (negated m)) }

-- one more literal is false or the other one
pub beside_more : (trail clause : List ℕ) (i other : ℕ) → i < length clause
    → (get_or clause i 0 ≡ other) ⊎ Contains trail (negated (get_or clause i 0))
    → AreFalseBeside trail other (take i clause) → AreFalseBeside trail other (take (i + 1) clause)
beside_more trail clause i other h is a = record {
  all = All-more (λ m. (m ≡ other) ⊎ Contains trail (negated m)) clause i 0 h a.all is;
}

pub beside_all : (trail clause : List ℕ) (i other : ℕ) → length clause ≤ i
    → AreFalseBeside trail other (take i clause) → AreFalseBeside trail other clause
beside_all trail clause i other h all =
    subst (λ (xs : List ℕ). AreFalseBeside trail other xs) (take_all i clause h) all

-- a walk over the literals of a clause
pub ruleset besides = (beside_none, beside_more, beside_all)

-- where the other one is false too, all are
pub all_false : (trail clause : List ℕ) (other : ℕ) → Contains trail (negated other) → AreFalseBeside trail other clause
    → All (λ l. Contains trail (negated l)) clause
all_false trail clause other found a = All-weaker (λ l. (l ≡ other) ⊎ Contains trail (negated l))
    (λ l. Contains trail (negated l)) (λ l is. false_too trail other l found is) clause a.all

kept_some : (v : ℕ → Bool) (clause : List ℕ) → (length clause ≡ 0 → ⊥) → IsTrueOrDropped v clause
    → list_any v clause ≡ true
kept_some v clause some (inl e) = absurd (some e)
kept_some v clause some (inr h) = h

pub leads_same : (clause old : List ℕ) → Leads clause old false old
leads_same clause old = record { begins = take_all (length old) old (omega arith); leads = λ v is k t. (refl, t) }

pub leads_false : (trail clause : List ℕ) → (length clause ≡ 0 → ⊥) → All (λ l. Contains trail (negated l)) clause
    → Leads clause trail true trail
leads_false trail clause some all = record {
  begins = take_all (length trail) trail (omega arith);
  leads = λ v is k t. absurd (none_true v trail clause is t all (kept_some v clause some k));
}

pub leads_unit : (trail clause : List ℕ) (u : ℕ) → (length clause ≡ 0 → ⊥)
    → All (λ l. (l ≡ u) ⊎ Contains trail (negated l)) clause → Leads clause trail false (trail ++ u ∷ [])
leads_unit trail clause u some all = record {
  begins = take_at trail (u ∷ []) (length trail) refl;
  leads = λ v is k t. (
    refl,
    All-push (λ l. v l ≡ true) trail u t
        (one_true v trail clause u is t all (kept_some v clause some k)),
  );
}

-- where the other literal is false too, the clause is
pub leads_conflict : (trail clause : List ℕ) (other : ℕ) → 0 < length clause → Contains trail (negated other)
    → AreFalseBeside trail other clause → Leads clause trail true trail
leads_conflict trail clause other some found all =
    leads_false trail clause (λ e. omega arith) (all_false trail clause other found all)

pub leads_last : (trail clause : List ℕ) (u : ℕ) → 0 < length clause → AreFalseBeside trail u clause
    → Leads clause trail false (trail ++ u ∷ [])
leads_last trail clause u some a = leads_unit trail clause u (λ e. omega arith) a.all

pub lead_to_same : (clauses : List (Vec ℕ Global)) (old : List ℕ) → LeadTo clauses old false old
lead_to_same clauses old = record { begins = take_all (length old) old (omega arith); leads = λ v is k t. (refl, t) }

-- what one of the clauses leads to
pub lead_to_by : (clauses : List (Vec ℕ Global)) (c : Vec ℕ Global) (old : List ℕ) (b : Bool) (new : List ℕ)
    → Contains clauses c → Leads c.items old b new → LeadTo clauses old b new
lead_to_by clauses c old b new among h = record {
  begins = h.begins;
  leads = λ v is k t. h.leads v is (All-contains (λ c. IsTrueOrDropped v c.items) clauses c k among) t;
}

-- a beginning of a beginning
pub begins_on : (a b c : List ℕ) → take (length a) b ≡ a → take (length b) c ≡ b → take (length a) c ≡ a
begins_on a b c f g =
    let n : length (take (length a) b) ≡ min (length a) (length b) = length-take (length a) b in
    let m : length (take (length a) b) ≡ length a = ap length f in
    let h : length a ≤ length b = omega arith in
    let t : take (length a) (take (length b) c) ≡ take (length a) c = take-take (length a) (length b) c h in
    sym t ∙ (ap (λ (x : List ℕ). take (length a) x) g ∙ f)

-- one after the other
pub lead_on : (clauses : List (Vec ℕ Global)) (old mid : List ℕ) (b : Bool) (new : List ℕ)
    → LeadTo clauses old false mid → LeadTo clauses mid b new → LeadTo clauses old b new
lead_on clauses old mid b new f g = record {
  begins = begins_on old mid new f.begins g.begins;
  leads = λ v is k t. g.leads v is k (f.leads v is k t).1;
}

pub assumes_none : (clause old : List ℕ) → Assumes clause old false old
assumes_none clause old = record {
  begins = take_all (length old) old (omega arith);
  assumes = λ v is t none. (refl, t);
}

-- a literal of a false clause is false
false_at : (v : ℕ → Bool) (clause : List ℕ) (i : ℕ) → i < length clause → list_any v clause ≡ false
    → v (get_or clause i 0) ≡ false
false_at v clause i h none = not_true_false (v (get_or clause i 0)) (λ e.
    let some : list_any v clause ≡ true = list_any_at v clause i 0 h e in cc)

pub assumes_found : (clause old new : List ℕ) (i : ℕ) → i < length clause → Contains new (get_or clause i 0)
    → Assumes clause old false new → Assumes clause old true new
assumes_found clause old new i h among a = record {
  begins = a.begins;
  assumes = λ v is t none.
      let all : AreTrue v new = (a.assumes v is t none).1 in
      let e : v (get_or clause i 0) ≡ true = All-contains (λ m. v m ≡ true) new (get_or clause i 0) all among in
      let f : v (get_or clause i 0) ≡ false = false_at v clause i h none in
      absurd (true_false (v (get_or clause i 0)) e f);
}

pub assumes_more : (clause old new : List ℕ) (i : ℕ) → i < length clause → Assumes clause old false new
    → Assumes clause old false (new ++ negated (get_or clause i 0) ∷ [])
assumes_more clause old new i h a = record {
  begins = begins_on old new (new ++ negated (get_or clause i 0) ∷ []) a.begins
      (take_at new (negated (get_or clause i 0) ∷ []) (length new) refl);
  assumes = λ v is t none. (
    refl,
    All-push (λ m. v m ≡ true) new (negated (get_or clause i 0)) ((a.assumes v is t none).1)
        (is (get_or clause i 0) ∙ ap not (false_at v clause i h none)),
  );
}

pub shown_found : (clauses : List (Vec ℕ Global)) (clause old new : List ℕ) → Assumes clause old true new
    → Shown clauses clause old true new
shown_found clauses clause old new a = record {
  begins = a.begins;
  refutes = λ v is k t none. (a.assumes v is t none).0;
}

pub shown_by : (clauses : List (Vec ℕ Global)) (clause old mid : List ℕ) (b : Bool) (new : List ℕ)
    → Assumes clause old false mid → LeadTo clauses mid b new → Shown clauses clause old b new
shown_by clauses clause old mid b new a l = record {
  begins = begins_on old mid new a.begins l.begins;
  refutes = λ v is k t none. (l.leads v is k ((a.assumes v is t none).1)).0;
}
