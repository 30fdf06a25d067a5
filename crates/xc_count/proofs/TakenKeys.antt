-- A key with one option more: what it leaves, and the solutions behind it.
use Rattle.std.proofs.Common.{ℕ, ◌≡◌, ◌<◌, ◌∷◌, true, List, length, Some, ap, sym, subst}
use Rattle.std.proofs.Math.ListN.{get_or}
use Rattle.std.specs.Prelude.{Contains, option_map}
use Rattle.std.proofs.lemmas.Option.{slice_get-get_or}
use Rattle.xc_input.specs.Problem.{Puzzle, IsItem, IsValid, numbered_get, uses_of}
use Rattle.xc_text.proofs.ListLemmas.{contains-in, in-slice_get}
use Rattle.xc_search.specs.declared.choice.Choice.{Choice}
use Rattle.xc_search.specs.Listing.{listing}
use Rattle.xc_count.specs.declared.plan.Plan.{Plan}
use Rattle.xc_search.specs.Once.{IsOnce}
use Rattle.xc_count.specs.inner.Held.{agree, holding_uses, left_by}
use Rattle.xc_count.specs.inner.Numbered.{IsLess, branch_at, left_by_key, size_left, solution_at}
use Rattle.xc_count.specs.inner.Plans.{options_with}
use Rattle.xc_count.specs.inner.Worth.{says}
use Rattle.xc_count.proofs.Below.{left_same}
use Rattle.xc_count.proofs.ByNumber.{fork_less}

-- an option at a place of a list is in the list
pub is_listed : (os xs : List ℕ) (k : ℕ) → k < length os → os ≡ xs → Contains xs (get_or os k 0)
is_listed os xs k h e = subst (λ ys. Contains ys (get_or os k 0)) e
    (contains-in os (get_or os k 0) (in-slice_get os k (get_or os k 0) (slice_get-get_or os k 0 h)))

module _ (p : Puzzle) (v : IsValid p) (plan : Plan) (key next : List ℕ) (o : ℕ) (same : (i : ℕ) → IsItem p i
    → says plan 0 next i ≡ holding_uses (uses_of p o) (says plan 0 key) i) where
  -- it leaves what the option leaves
  pub left_with : left_by_key p plan next ≡ left_by p (holding_uses (uses_of p o) (says plan 0 key))
  left_with = left_same p v (holding_uses (uses_of p o) (says plan 0 key)) (says plan 0 next) same

  -- the solution of a number behind the option is the key's
  pub solution_with : (c : Choice) (n : ℕ)
      → option_map (λ m. c ∷ m) (numbered_get (listing (left_by p (holding_uses (uses_of p o) (says plan 0 key)))) n)
      ≡ option_map (λ m. c ∷ m) (solution_at p plan next n)
  solution_with c n = ap (λ r. option_map (λ m. c ∷ m) (numbered_get (listing r) n)) (sym left_with)

  -- it leaves less, if the option is a branch
  pub less_with : IsOnce p → (fork : ℕ × ℕ) → branch_at p plan key ≡ Some fork → Contains (options_with p fork.0) o
      → agree (says plan 0 key) (uses_of p o) ≡ true → IsLess p plan next key
  less_with once fork e listed agreed = subst (λ r. size_left r < size_left (left_by_key p plan key)) (sym left_with)
      (fork_less p v once (says plan 0 key) fork e o listed agreed)
