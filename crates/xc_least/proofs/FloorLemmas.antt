-- The search as a whole: it has been at each cover that costs less than the limit, or is still to come there.
use Rattle.std.proofs.Common.{ℕ, ◌≡◌, ◌≢◌, ◌≤◌, ◌<◌, false, List, [], ◌∷◌, arith, subst, sym, inl}
use Rattle.std.proofs.Common.{inr, ◌⊎◌}
use Rattle.std.specs.Prelude.{sum_by, nat_lt, Contains, ℤ, pos, ◌+ℤ◌, ◌≤ℤ◌}
use Rattle.std.proofs.lemmas.Int.{ints}
use Rattle.std.proofs.lemmas.Bool.Decides.{nat_tests}
use Rattle.std.proofs.lemmas.List.Elements.{All-contains}
use Rattle.xc_input.specs.Problem.{Puzzle, IsOption}
use Rattle.xc_input.specs.Cover.{IsCover}
use Rattle.xc_text.proofs.ListLemmas.{IsIn, by_bool, in-contains, contains-in, each_two_from_AllPairs}
use Rattle.xc_least.specs.Least.{cost_at, total_cost}
use Rattle.xc_least.specs.declared.steps.Step.{Step}
use Rattle.xc_least.specs.inner.Regions.{includes, IsTurned, Remains, newest, surplus_at, taken_of}
use Rattle.xc_least.specs.inner.Regions.{IsExcluded}
use Rattle.xc_least.specs.inner.Held.{ArePlaced}
use Rattle.xc_input.specs.declared.problem.Bounds.{Bounds}
use Rattle.xc_input.specs.Problem.{item_count, option_count}
use Rattle.std.proofs.Common.{refl}
use Rattle.std.proofs.lemmas.List.Sums.{sum_by-cons}
use Rattle.xc_least.specs.declared.priced.Price.{Price}
use Rattle.xc_least.specs.inner.Prices.{part_above, taken_at_most, given_at_least, part_below, over_at, under_at, up_to}
use Rattle.xc_least.proofs.SetLemmas.{Differ, sum_within, in_has}
use Rattle.xc_least.proofs.PriceLemmas.{cost_in_parts, priced}
use Rattle.xc_least.proofs.RegionLemmas.{decided_in, taken_differ}

-- two lists of the same options, each once, cost the same
pub same_cost : (costs : List ℤ) (s t : List ℕ) → Differ s → Differ t → ((o : ℕ) → IsIn s o → IsIn t o)
    → ((o : ℕ) → IsIn t o → IsIn s o) → total_cost costs s ≡ total_cost costs t
same_cost costs s t d e h k =
    let up : ℕ → ℕ = λ o. part_above (cost_at costs o) in
    let dn : ℕ → ℕ = λ o. part_below (cost_at costs o) in
    omega (
      arith,
      ints,
      cost_in_parts costs s,
      cost_in_parts costs t,
      sum_within up t s d h,
      sum_within up s t e k,
      sum_within dn t s d h,
      sum_within dn s t e k,
    )

module _ (p : Puzzle) (f : ℕ → ℕ) (gap : ℕ) (costs : List ℤ) (limit : ℤ) where
  -- each cover with a surplus below the gap costs enough, or is still to be looked at
  abbrev pub AreOut : List Step → Type 0
  AreOut ds = (s : List ℕ) → IsCover p s → sum_by f s < gap → (limit ≤ℤ total_cost costs s) ⊎ Remains ds s

  -- or is behind
  abbrev pub AreBehind : List Step → Type 0
  AreBehind ds = (s : List ℕ) → IsCover p s → sum_by f s < gap → (limit ≤ℤ total_cost costs s) ⊎ IsTurned ds s

  -- at first each is
  pub begun : (ss : List Step) → ss ≡ [] → AreOut (newest ss)
  begun ss none s c less = inr (subst (λ (ss : List Step). Remains (newest ss) s) (sym none) (inl tt))

  pub leaf_behind : (ds : List Step) (place : List ℕ) → ArePlaced place ds
      → ((o : ℕ) → IsOption p o → Contains (taken_of ds) o ⊎ IsExcluded p f gap ds o)
      → limit ≤ℤ total_cost costs (taken_of ds) → AreOut ds → AreBehind ds
  leaf_behind ds place placed over dear out s c less = elim (out s c less) [
    | inl enough ↦ inl enough
    | inr (inr later) ↦ inr later
    | inr (inl is) ↦
        let same = same_cost costs s (taken_of ds) (each_two_from_AllPairs (λ a b. a ≢ b) s c.distinct)
        (taken_differ place ds placed)
        (λ o h. elim (over o (All-contains (IsOption p) s o c.known (contains-in s o h))) [
          | inl there ↦ in-contains (taken_of ds) o there
          | inr lost ↦
              let yes = in_has s o h in
              let none : includes s o ≡ false = lost s c is less in
              cc
        ])
        (decided_in ds s is) in
        inl (subst (λ z. limit ≤ℤ z) (sym same) dear)
  ]

  pub turned_out : (old new : List Step) → AreBehind old → ((s : List ℕ) → IsTurned old s → Remains new s) → AreOut new
  turned_out old new behind turn s c less = elim (behind s c less) [
    | inl dear ↦ inl dear
    | inr later ↦ inr (turn s later)
  ]

  pub all_behind : (ds : List Step) → AreBehind ds → ((s : List ℕ) → IsTurned ds s → ⊥) → (s : List ℕ) → IsCover p s
      → (gap ≤ sum_by f s) ⊎ (limit ≤ℤ total_cost costs s)
  all_behind ds behind ended s c = by_bool (nat_lt (sum_by f s) gap)
      (λ e.
      let less : sum_by f s < gap = grind (arith, nat_tests, e) in
      elim (behind s c less) [ inl dear ↦ inr dear | inr later ↦ absurd (ended s later) ])
      (λ e. inl (grind (arith, nat_tests, e)))

sum_same : (f g : ℕ → ℕ) (s : List ℕ) → ((o : ℕ) → IsIn s o → f o ≡ g o) → sum_by f s ≡ sum_by g s
sum_same f g [] h = refl
sum_same f g (o ∷ s) h =
    omega (arith, h o (inl refl), sum_same f g s (λ x k. h x (inr k)), sum_by-cons f o s, sum_by-cons g o s)

-- Each cover costs enough, if its surplus is enough for what the prices ask and allow, or it costs enough.
pub all_cost : (p : Puzzle) (costs : List ℤ) (ws : List Price) (bs : List Bounds) (n : ℕ) (fs : List ℕ)
    (asked allowed under gap : ℕ) (limit : ℤ) → bs ≡ p.bounds → n ≡ item_count p
    → asked ≡ sum_by (given_at_least ws bs) (up_to n) → allowed ≡ sum_by (taken_at_most ws bs) (up_to n)
    → under ≡ sum_by (under_at p costs ws) (up_to (option_count p))
    → ((o : ℕ) → 1 ≤ o → o ≤ option_count p → surplus_at fs o ≡ over_at p costs ws o)
    → (limit +ℤ pos allowed +ℤ pos under) ≤ℤ (pos asked +ℤ pos gap)
    → (s : List ℕ) → IsCover p s → (gap ≤ sum_by (surplus_at fs) s) ⊎ (limit ≤ℤ total_cost costs s)
    → limit ≤ℤ total_cost costs s
all_cost p costs ws bs n fs asked allowed under gap limit same_bounds many is_asked is_allowed is_under over room s c
    (inr dear) = dear
all_cost p costs ws bs n fs asked allowed under gap limit same_bounds many is_asked is_allowed is_under over room s c
    (inl h) =
    let sums = sum_same (surplus_at fs) (over_at p costs ws) s (λ o k.
    let known : IsOption p o = All-contains (IsOption p) s o c.known (contains-in s o k) in
    over o known.0 known.1) in
    let a : asked ≡ sum_by (given_at_least ws p.bounds) (up_to n) =
    subst (λ bs. asked ≡ sum_by (given_at_least ws bs) (up_to n)) same_bounds is_asked in
    let b : allowed ≡ sum_by (taken_at_most ws p.bounds) (up_to n) =
    subst (λ bs. allowed ≡ sum_by (taken_at_most ws bs) (up_to n)) same_bounds is_allowed in
    enough (total_cost costs s) (sum_by (given_at_least ws p.bounds) (up_to n))
    (sum_by (taken_at_most ws p.bounds) (up_to n))
    (sum_by (under_at p costs ws) (up_to (option_count p))) (sum_by (over_at p costs ws) s)
    asked allowed under gap limit a b is_under (priced p s c costs ws n (option_count p) many refl) room
    (omega (arith, h, sums))
  where
    enough : (cost : ℤ) (k t u over asked allowed under gap : ℕ) (limit : ℤ) → asked ≡ k → allowed ≡ t → under ≡ u
        → (pos k +ℤ pos over) ≤ℤ (cost +ℤ pos t +ℤ pos u)
        → (limit +ℤ pos allowed +ℤ pos under) ≤ℤ (pos asked +ℤ pos gap) → gap ≤ over → limit ≤ℤ cost
    enough cost k t u over asked allowed under gap limit a b e priced room h =
        omega (arith, ints, a, b, e, priced, room, h)
