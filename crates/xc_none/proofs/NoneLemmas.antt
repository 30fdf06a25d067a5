-- Where the clauses of a problem can't all be true, it has no cover.
use Rattle.std.proofs.Common.{ℕ, zero, suc, ◌≡◌, ◌<◌, ◌+◌, ◌-◌, ◌/◌, ◌%◌, List, Bool, true, false, refl, sym, ap, ◌∙◌}
use Rattle.std.proofs.Common.{arith}
use Rattle.std.specs.Prelude.{Vec, not, ◌==◌, if◌then◌else◌, slice_index_or}
use Rattle.std.specs.declared.alloc.Global.{Global}
use Rattle.xc_input.specs.Problem.{Puzzle}
use Rattle.xc_input.specs.Cover.{IsCover}
use Rattle.refutation.specs.Refutation.{negated, IsValuation, IsUnsatisfiable}
use Rattle.xc_none.specs.declared.meaning.Meaning.{Meaning}
use Rattle.xc_none.specs.declared.meaning.Meaning.TheVariants.{Chosen}
use Rattle.xc_none.specs.Meanings.{is_so, meaning_of, value, AreTrueOfCovers}

not_not : (b : Bool) → b ≡ not (not b)
not_not true = refl
not_not false = refl

flipped : (p : Puzzle) (ms : List Meaning) (s : List ℕ) (l r : ℕ) → l % 2 ≡ r → r < 2
    → value p ms s (negated l) ≡ not (value p ms s l)
flipped p ms s l zero e h =
    let x : ℕ → Bool = λ l. is_so p s (meaning_of ms l) in
    let g : ℕ → ℕ → Bool = λ r l. if r == 0 then x l else not (x l) in
    let n : negated l ≡ l + 1 = ap (λ (r : ℕ). if r == 0 then l + 1 else l - 1) e in
    let r1 : (l + 1) % 2 ≡ 1 = omega (arith, e) in
    let q1 : (l + 1) / 2 ≡ l / 2 = omega (arith, e) in
    let y : ℕ → Bool = λ q. not (is_so p s (slice_index_or ms (q - 1) (Chosen 0))) in
    ap (value p ms s) n ∙ (ap (λ (r : ℕ). g r (l + 1)) r1 ∙ (ap y q1 ∙ sym (ap (λ (r : ℕ). not (g r l)) e)))
flipped p ms s l (suc zero) e h =
    let x : ℕ → Bool = λ l. is_so p s (meaning_of ms l) in
    let g : ℕ → ℕ → Bool = λ r l. if r == 0 then x l else not (x l) in
    let n : negated l ≡ l - 1 = ap (λ (r : ℕ). if r == 0 then l + 1 else l - 1) e in
    let r1 : (l - 1) % 2 ≡ 0 = omega (arith, e) in
    let q1 : (l - 1) / 2 ≡ l / 2 = omega (arith, e) in
    let y : ℕ → Bool = λ q. is_so p s (slice_index_or ms (q - 1) (Chosen 0)) in
    ap (value p ms s) n
    ∙ (ap (λ (r : ℕ). g r (l - 1)) r1 ∙ (ap y q1 ∙ (not_not (x l) ∙ sym (ap (λ (r : ℕ). not (g r l)) e))))
flipped p ms s l (suc (suc r)) e h = absurd (omega (arith, h))

-- the values of literals by a set are a valuation
pub value_is : (p : Puzzle) (ms : List Meaning) (s : List ℕ) → IsValuation (value p ms s)
value_is p ms s = λ l. flipped p ms s l (l % 2) refl (omega arith)

pub no_cover : (p : Puzzle) (ms : List Meaning) (clauses : List (Vec ℕ Global)) → AreTrueOfCovers p ms clauses
    → IsUnsatisfiable clauses → (s : List ℕ) → IsCover p s → ⊥
no_cover p ms clauses all none s cover = none (value p ms s) (value_is p ms s) (all.of_covers s cover)
