-- Lines that are put one behind another, and solutions by their numbers.
use Rattle.std.proofs.Common.{ℕ, suc, ◌≡◌, ◌<◌, ◌+◌, List, [], ◌∷◌, ◌++◌, length, drop, get_or, sym, ap, ap₂, ◌∙◌}
use Rattle.std.proofs.Common.{arith, subst, drop-cons, drop_of_length-le, zero, Some}
use Rattle.std.specs.Prelude.{flat_map, All}
use Rattle.std.specs.List.{enumerate_from}
use Rattle.std.proofs.lemmas.List.{append-nil, append_assoc}
use Rattle.std.proofs.lemmas.List.Elements.{recursion_from_All}
use Rattle.xc_input.specs.Problem.{Puzzle, numbered_get}
use Rattle.xc_text.proofs.ListLemmas.{each_in, in-slice_get}
use Rattle.xc_search.specs.declared.choice.Choice.{Choice}
use Rattle.xc_search.specs.Cover.{members}
use Rattle.xc_list.specs.Known.{IsKnownChoice}
use Rattle.xc_list.proofs.OutputLemmas.{members_known}

-- ======== Lines that are put one behind another.

-- the line of an element
pub line_added : (f : ℕ × ℕ → List ℕ) (k n x : ℕ) (xs text new all : List ℕ) → k < length xs → n ≡ k + 1
    → x ≡ get_or xs k x → new ≡ text ++ f (n, x)
    → text ++ flat_map f (enumerate_from (k + 1) (drop k xs)) ≡ all
    → new ++ flat_map f (enumerate_from (k + 1 + 1) (drop (k + 1) xs)) ≡ all
line_added f k n x xs text new all h number value more so =
    let next : suc k ≡ k + 1 = omega arith in
    let first : drop k xs ≡ x ∷ drop (k + 1) xs =
    drop-cons xs k x h ∙ ap₂ (λ y j. y ∷ drop j xs) (sym value) next in
    let whole : text ++ (f (k + 1, x) ++ flat_map f (enumerate_from (k + 1 + 1) (drop (k + 1) xs))) ≡ all =
    subst (λ ys. text ++ flat_map f (enumerate_from (k + 1) ys) ≡ all) first so in
    let here : new ≡ text ++ f (k + 1, x) = more ∙ ap (λ j. text ++ f (j, x)) number in
    ap (λ t. t ++ flat_map f (enumerate_from (k + 1 + 1) (drop (k + 1) xs))) here
    ∙ append_assoc text (f (k + 1, x)) (flat_map f (enumerate_from (k + 1 + 1) (drop (k + 1) xs))) ∙ whole

-- and of no more elements
pub lines_done : (f : ℕ × ℕ → List ℕ) (k : ℕ) (xs text all : List ℕ) → k ≡ length xs
    → text ++ flat_map f (enumerate_from (k + 1) (drop k xs)) ≡ all → text ≡ all
lines_done f k xs text all e so =
    let gone : drop k xs ≡ [] = drop_of_length-le xs (omega (arith, e)) in
    let last : text ++ [] ≡ all = subst (λ ys. text ++ flat_map f (enumerate_from (k + 1) ys) ≡ all) gone so in
    sym (append-nil text) ∙ last

-- ======== Solutions by their numbers.

-- the choices of a solution are known
pub known_at : (p : Puzzle) (n : ℕ) (m : List Choice) → Some m ≡ numbered_get (members p) n → All (IsKnownChoice p) m
known_at p zero m e = cc
known_at p (suc k) m e = each_in (All (IsKnownChoice p)) (members p) m (recursion_from_All _ _ (members_known p))
    (in-slice_get (members p) k m (sym e))
