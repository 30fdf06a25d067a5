use Rattle.std.proofs.Common.{ℕ, ◌≡◌, ◌+◌, ◌≤◌, [], ◌∙◌, refl, ap, subst, arith}
use Rattle.std.proofs.lemmas.Option.{slice_get_within}
use Rattle.std.specs.Prelude.{unwrap_or}
use Rattle.std.specs.List.{AllByRecursion}
use Rattle.xc_input.specs.Problem.{Puzzle, option_count, uses_of}
use Rattle.xc_text.proofs.ListLemmas.{each_from, slice_get-in}
use Rattle.xc_input.proofs.TokenLemmas.{numbered_get-at}
use Rattle.xc_search.specs.inner.Levels.{primary_uses}
use Rattle.xc_search.proofs.counts.even_size.Goals as goal

all_even : (p : Puzzle) (n : ℕ)
    → ((k : ℕ) → (1 ≤ k) × (k ≤ option_count p) → primary_uses p (uses_of p k) ≡ n)
    → AllByRecursion (λ us. primary_uses p us ≡ n) p.options
all_even p n each = each_from _ _ (λ us h.
    let at = slice_get-in p.options us h in
    let within = slice_get_within p.options at.0 us at.1 in
    let is = ap (λ o. unwrap_or o []) (numbered_get-at p.options (at.0 + 1) at.0 refl ∙ at.1) in
    subst (λ us. primary_uses p us ≡ n) is (each (at.0 + 1) (omega arith, omega (arith, within))))

pub returns : goal.returns
returns c _ = record {
  once = c.requires;
  each = all_even c.args.problem.now.puzzle c.count_primary-size.result (λ k within.
      c.loop-o.invariant k (within.0, omega (arith, within.1, c.loop-o-test.false, c.options-options.ensures.value)));
}
