-- In how many solutions each option is.
use Rattle.std.proofs.Common.{ℕ, zero, suc, ◌≡◌, ◌≢◌, ◌≤◌, ◌<◌, ◌+◌, ◌-◌, true, eqb, cond}
use Rattle.std.proofs.Common.{List, [], ◌∷◌, ◌++◌, Some}
use Rattle.std.proofs.Common.{length, get_or, set, map, take, drop, refl, sym, ap, ap₂, ◌∙◌, arith, subst}
use Rattle.std.proofs.Common.{eqb-true, eq-eqb, length-set}
use Rattle.std.proofs.Math.ListN.{drop_of_length-le}
use Rattle.std.specs.Prelude.{All, AllPairs, count_by, min}
use Rattle.std.specs.List.{list_any}
use Rattle.std.proofs.lemmas.List.{append-nil, get_or_default, take_all}
use Rattle.std.proofs.lemmas.List.Sums.{sum_by-cons}
use Rattle.xc_input.specs.declared.problem.Use.{Use}
use Rattle.xc_input.specs.Problem.{Puzzle, Numbered, option_count}
use Rattle.xc_text.proofs.ListLemmas.{by_bool, EachTwo, AllPairs-from_each_two, each_two_from_AllPairs, IsIn, each_in}
use Rattle.xc_input.proofs.OptionLemmas.{numbered_from}
use Rattle.xc_search.specs.declared.choice.Choice.{Choice}
use Rattle.xc_input.specs.Cover.{IsCover}
use Rattle.xc_search.specs.Cover.{members, options_of}
use Rattle.xc_search.specs.Outlook.{shown_after}
use Rattle.xc_count.specs.Occurrences.{occurrences, occurrences_of, takes}

-- 1 if option o is one of these
abbrev pub hit : ℕ → List ℕ → ℕ
hit o os = cond (list_any (λ a. eqb a o) os) 1 0

set_here : (xs : List ℕ) (k v : ℕ) → k < length xs → get_or (set xs k v) k 0 ≡ v
set_here [] k v h = absurd (omega (arith, h))
set_here (x ∷ xs) zero v h = refl
set_here (x ∷ xs) (suc k) v h = set_here xs k v (omega (arith, h))

set_there : (xs : List ℕ) (k i v : ℕ) → k ≢ i → get_or (set xs k v) i 0 ≡ get_or xs i 0
set_there [] k i v h = refl
set_there (x ∷ xs) zero zero v h = absurd (h refl)
set_there (x ∷ xs) zero (suc i) v h = refl
set_there (x ∷ xs) (suc k) zero v h = refl
set_there (x ∷ xs) (suc k) (suc i) v h = set_there xs k i v (λ e. h (ap suc e))

listed_in : (s : List ℕ) (k : ℕ) → list_any (λ a. eqb a k) s ≡ true → IsIn s k
listed_in [] k e = cc
listed_in (a ∷ s) k e = grind (arith, listed_in s k, eqb-true)

-- once one more option of a solution is counted
pub one_more : (q v : ℕ) (os ts : List ℕ) (total : ℕ → ℕ) → 1 ≤ q → q ≤ length ts → EachTwo (λ a b. a ≢ b) (q ∷ os)
    → v ≡ get_or ts (q - 1) 0 + 1
    → ((o : ℕ) → 1 ≤ o → get_or ts (o - 1) 0 + hit o (q ∷ os) ≡ total o)
    → (o : ℕ) → 1 ≤ o → get_or (set ts (q - 1) v) (o - 1) 0 + hit o os ≡ total o
one_more q v os ts total low within two more so o some = by_bool (eqb q o)
    (λ e.
    let is : q ≡ o = eqb-true q o e in
    let was = so o some in
    let one : hit o (q ∷ os) ≡ 1 = rw e refl in
    let gone : hit o os ≡ 0 = by_bool (list_any (λ a. eqb a o) os)
    (λ f. absurd (each_in (λ b. q ≢ b) os o two.0 (listed_in os o f) is))
    (λ f. rw f refl) in
    let new : get_or (set ts (q - 1) v) (o - 1) 0 ≡ v =
    subst (λ j. get_or (set ts (q - 1) v) (j - 1) 0 ≡ v) is (set_here ts (q - 1) v (omega (arith, low, within))) in
    let old : v ≡ get_or ts (o - 1) 0 + 1 = subst (λ j. v ≡ get_or ts (j - 1) 0 + 1) is more in
    omega (arith, was, one, gone, new, old))
    (λ e.
    let other : q - 1 ≢ o - 1 = λ f. let s : q ≡ o = omega (arith, f, low, some) in let t = eq-eqb _ _ s in cc (t, e) in
    let same : hit o (q ∷ os) ≡ hit o os = rw e refl in
    omega (arith, so o some, set_there ts (q - 1) (o - 1) v other, same))

option_first : (c : Choice) (q : ℕ) (cs : List Choice) → c.option ≡ Some q → options_of (c ∷ cs) ≡ q ∷ options_of cs
option_first c q cs e = rw e refl

pub all_head : {X : Type 0} (P : X → Type 0) (x : X) (xs : List X) → All P (x ∷ xs) → P x
all_head P x xs a = a 0 x (omega arith)

pub all_tail : {X : Type 0} (P : X → Type 0) (x : X) (xs : List X) → All P (x ∷ xs) → All P xs
all_tail P x xs a k d h = a (suc k) d (omega (arith, h))

-- a choice of a solution is counted
module _ (c : Choice) (q v d : ℕ) (s cs : List Choice) (ts : List ℕ) (first : s ≡ c ∷ cs) (some : c.option ≡ Some q)
    (known : All (λ o. (1 ≤ o) × (o ≤ length ts)) (options_of s)) where
  options : options_of s ≡ q ∷ options_of cs
  options = ap options_of first ∙ option_first c q cs some

  all_known : All (λ o. (1 ≤ o) × (o ≤ length ts)) (q ∷ options_of cs)
  all_known = subst (λ os. All (λ o. (1 ≤ o) × (o ≤ length ts)) os) options known

  pub within : (1 ≤ q) × (q ≤ length ts)
  within = all_head (λ o. (1 ≤ o) × (o ≤ length ts)) q (options_of cs) all_known

  two : AllPairs (λ a b. a ≢ b) (options_of s) → EachTwo (λ a b. a ≢ b) (q ∷ options_of cs)
  two distinct = subst (λ os. EachTwo (λ a b. a ≢ b) os) options (each_two_from_AllPairs _ _ distinct)

  pub then_counted : (total : ℕ → ℕ) → AllPairs (λ a b. a ≢ b) (options_of s) → v ≡ get_or ts (q - 1) d + 1
      → ((o : ℕ) → 1 ≤ o → get_or ts (o - 1) 0 + hit o (options_of s) ≡ total o)
      → (o : ℕ) → 1 ≤ o → get_or (set ts (q - 1) v) (o - 1) 0 + hit o (options_of cs) ≡ total o
  then_counted total distinct more so =
      let value : get_or ts (q - 1) d ≡ get_or ts (q - 1) 0 =
      get_or_default ts (q - 1) d 0 (omega (arith, within.0, within.1)) in
      one_more q v (options_of cs) ts total within.0 within.1 (two distinct) (omega (arith, more, value))
      (λ o h. subst (λ os. get_or ts (o - 1) 0 + hit o os ≡ total o) options (so o h))

  pub then_known : All (λ o. (1 ≤ o) × (o ≤ length (set ts (q - 1) v))) (options_of cs)
  then_known k e h =
      let x = all_tail (λ o. (1 ≤ o) × (o ≤ length ts)) q (options_of cs) all_known k e h in
      (x.0, omega (arith, x.1, length-set ts (q - 1) v))

  pub then_distinct : AllPairs (λ a b. a ≢ b) (options_of s) → AllPairs (λ a b. a ≢ b) (options_of cs)
  then_distinct distinct = AllPairs-from_each_two _ _ (two distinct).1

-- numbers that are, for each option, what f makes of its number
pub of_each : (f : ℕ → ℕ) (k : ℕ) (us : List (List Use)) (ts : List ℕ) → length ts ≡ length us
    → ((i : ℕ) → i < length us → get_or ts i 0 ≡ f (k + i))
    → ts ≡ map (λ (x : Numbered). f x.number) (numbered_from k us)
of_each f k [] [] e h = refl
of_each f k [] (t ∷ ts) e h = absurd (omega (arith, e))
of_each f k (u ∷ us) [] e h = absurd (omega (arith, e))
of_each f k (u ∷ us) (t ∷ ts) e h =
    let first : t ≡ f k = h 0 (omega arith) ∙ ap f (let z : k + 0 ≡ k = omega arith in z) in
    ap₂ (λ a b. a ∷ b) first (of_each f (k + 1) us ts (omega (arith, e))
    (λ i l. h (suc i) (omega (arith, l)) ∙ ap f (let z : k + suc i ≡ k + 1 + i = omega arith in z)))

-- ---- a search

-- a solution was reached
pub reached : (ms : List (List Choice)) (was : List Choice) → min 1 (length ms) ≡ 1
    → ms ≡ shown_after 1 ms was ∷ drop 1 ms
reached [] was e = absurd (omega (arith, e))
reached (m ∷ ms) was e = refl

-- none was left
pub ended : (ms : List (List Choice)) → min 1 (length ms) ≢ 1 → ms ≡ []
ended [] h = refl
ended (m ∷ ms) h = absurd (h (omega arith))

pub fewer : (m : List Choice) (ms rest : List (List Choice)) → ms ≡ m ∷ rest → length rest < length ms
fewer m ms rest e = omega (arith, ap length e)

pub arrived : (n : ℕ) (ms rest : List (List Choice)) (was shown : List Choice) → n ≡ min 1 (length ms) → n ≡ 1
    → rest ≡ drop 1 ms → (n ≡ 1 → shown ≡ shown_after 1 ms was) → ms ≡ shown ∷ rest
arrived n ms rest was shown count one left is =
    reached ms was (sym count ∙ one) ∙ ap₂ (λ a b. a ∷ b) (sym (is one)) (sym left)

-- a vector whose elements were written anew
pub refilled : (n : ℕ) (ws xs : List ℕ) → length ws ≡ length xs → n ≡ length xs
    → take n (ws ++ drop (length ws) xs) ≡ ws
refilled n ws xs e f =
    let gone : drop (length ws) xs ≡ [] = drop_of_length-le xs (omega (arith, e)) in
    ap (λ ys. take n (ws ++ ys)) gone ∙ ap (λ ys. take n ys) (append-nil ws) ∙ take_all n ws (omega (arith, e, f))

-- no option was counted yet
pub none_yet : (p : Puzzle) (ts : List ℕ) (ms : List (List Choice)) (o : ℕ) → All (λ t. t ≡ 0) ts → ms ≡ members p
    → get_or ts (o - 1) 0 + count_by (takes o) ms ≡ occurrences_of p o
none_yet p ts ms o zeros e =
    let here : get_or ts (o - 1) 0 ≡ 0 = zero_at ts (o - 1) zeros in
    let same : count_by (takes o) ms ≡ occurrences_of p o = ap (count_by (takes o)) e in
    omega (arith, here, same)
  where
    zero_at : (xs : List ℕ) (k : ℕ) → All (λ t. t ≡ 0) xs → get_or xs k 0 ≡ 0
    zero_at [] k a = refl
    zero_at (x ∷ xs) zero a = all_head (λ t. t ≡ 0) x xs a
    zero_at (x ∷ xs) (suc k) a = zero_at xs k (all_tail (λ t. t ≡ 0) x xs a)

-- the members to come, once the options of the first are counted
pub counted_more : (p : Puzzle) (o old new : ℕ) (m : List Choice) (ms : List (List Choice))
    → old + count_by (takes o) (m ∷ ms) ≡ occurrences_of p o → new ≡ old + hit o (options_of m)
    → new + count_by (takes o) ms ≡ occurrences_of p o
counted_more p o old new m ms was more =
    let step : count_by (takes o) (m ∷ ms) ≡ hit o (options_of m) + count_by (takes o) ms =
    sum_by-cons (λ l. cond (takes o l) 1 0) m ms in
    omega (arith, was, more, step)

-- the options of a member are of the problem
pub options_within : (p : Puzzle) (n : ℕ) (os : List ℕ) → n ≡ option_count p → IsCover p os
    → All (λ o. (1 ≤ o) × (o ≤ n)) os
options_within p n os e c k d h = let known = c.known k d h in (known.0, omega (arith, known.1, e))

-- all members are counted
pub all_counted : (p : Puzzle) (ts : List ℕ) (ms : List (List Choice)) → ms ≡ [] → length ts ≡ option_count p
    → ((o : ℕ) → 1 ≤ o → get_or ts (o - 1) 0 + count_by (takes o) ms ≡ occurrences_of p o) → ts ≡ occurrences p
all_counted p ts ms empty len h = of_each (occurrences_of p) 1 p.options ts len
    (λ i l.
    let none : count_by (takes (1 + i)) ms ≡ 0 = ap (count_by (takes (1 + i))) empty in
    let same : 1 + i - 1 ≡ i = omega arith in
    let at = subst (λ j. get_or ts j 0 + count_by (takes (1 + i)) ms ≡ occurrences_of p (1 + i)) same
    (h (1 + i) (omega arith)) in
    omega (arith, at, none))
