-- The covers of what is left that have an option: those behind each option of a free item.
use Rattle.std.proofs.Common.{ℕ, ◌≡◌, ◌≤◌, ◌+◌, Bool, true, false, ◌&&◌, ◌||◌, eqb, cond, List, [], ◌∷◌}
use Rattle.std.proofs.Common.{filter, take, length, None, refl, sym, ap, ap₂, ◌∙◌, arith, subst, inl, inr}
use Rattle.std.proofs.Common.{eqb-true, length-append}
use Rattle.std.proofs.Math.Path.{fun_ext}
use Rattle.std.specs.Prelude.{is_none, sum_by, count_by, flat_map}
use Rattle.std.specs.List.{enumerate_from}
use Rattle.std.proofs.lemmas.List.{take_all, length-map}
use Rattle.std.proofs.lemmas.List.Elements.{filter-append}
use Rattle.std.proofs.lemmas.List.Sums.{sum_by-append, sum_by-cons, length-filter}
use Rattle.xc_search.specs.declared.choice.Choice.{Choice}
use Rattle.xc_input.specs.Problem.{Puzzle, Numbered, numbered_options, primary_count, holds, holding, IsValid}
use Rattle.xc_input.specs.Problem.{IsPrimary}
use Rattle.xc_search.specs.Listing.{Wanted, Residual, Branch, whole, branch_count, branches_of, pick, listing}
use Rattle.xc_search.specs.Cover.{options_of}
use Rattle.xc_text.proofs.ListLemmas.{by_bool, filter-map, filter_both, IsIn, in-filter, filter-in, each_from}
use Rattle.xc_moves.proofs.MoveLemmas.{options_rise}
use Rattle.xc_search.proofs.Completeness.{Solves, members_solve, is_listed, listed_in, in_listed}
use Rattle.xc_search.proofs.ListingLemmas.{takes, nones, behind, uses_known, same_number}
use Rattle.xc_search.specs.inner.Levels.{take_branch}
use Rattle.xc_search.proofs.AnyItem.{Match, any_level_by}
use Rattle.xc_count.proofs.Below.{are_once, end_left, item_at, known}
use Rattle.xc_count.proofs.LeftBy.{proper_left, picked, not_both}
use Rattle.xc_count.proofs.Split.{sum-map, sum-enumerated, sum-filter, sum-same}
use Rattle.xc_search.specs.Once.{IsOnce}
use Rattle.xc_count.specs.inner.Held.{Held, agree, fits, left_by, holding_option, holding_uses, below}
use Rattle.xc_count.specs.inner.Passed.{with_same, worth_taken}
use Rattle.xc_count.specs.inner.Plans.{options_with}

-- in how many members of what is left option x is
abbrev pub having : ℕ → Residual → ℕ
having x r = count_by (λ m. is_listed (options_of m) x) (listing r)

-- the members of a level that pass a test
passing_sum : (t : List Choice → Bool) (bs : List Branch)
    → length (filter t (flat_map (behind listing) bs)) ≡ sum_by (λ b. length (filter t (behind listing b))) bs
passing_sum t [] = refl
passing_sum t (b ∷ bs) =
    ap length (filter-append t (behind listing b) (flat_map (behind listing) bs))
    ∙ length-append (filter t (behind listing b)) (filter t (flat_map (behind listing) bs))
    ∙ ap (λ n. length (filter t (behind listing b)) + n) (passing_sum t bs)
    ∙ sym (sum_by-cons (λ b. length (filter t (behind listing b))) b bs)

all_pass : {X : Type 0} (xs : List X) → count_by (λ x. true) xs ≡ length xs
all_pass [] = refl
all_pass (x ∷ xs) = omega (arith, sum_by-cons (λ y. 1) x xs, all_pass xs)

abbrev one_if : Bool → ℕ
one_if b = cond b 1 0

none_pass : {X : Type 0} (t : X → Bool) (xs : List X) → ((x : X) → IsIn xs x → t x ≡ false) → count_by t xs ≡ 0
none_pass t [] h = refl
none_pass t (x ∷ xs) h =
    let here : one_if (t x) ≡ 0 = ap one_if (h x (inl refl)) in
    omega (arith, sum_by-cons (λ y. one_if (t y)) x xs, here, none_pass t xs (λ y k. h y (inr k)))

no_more : (m : ℕ) → m + 0 ≡ m
no_more m = omega arith

none_more : (m : ℕ) → m ≡ 0 + m
none_more m = omega arith

module _ (p : Puzzle) (v : IsValid p) (once : IsOnce p) (s : Held) (x : ℕ) where
  -- where no item is free
  pub having_none : ((i : ℕ) → IsPrimary p i → s i ≡ None → ⊥) → having x (left_by p s) ≡ 0
  having_none held = ap (count_by (λ m. is_listed (options_of m) x)) (end_left p once v s held)

  abbrev r : Residual
  r = left_by p s

  abbrev has : List Choice → Bool
  has m = is_listed (options_of m) x

  respects : (l m : List Choice) → Solves r l → Match r l m → has l ≡ true → has m ≡ true
  respects l m solves match e =
      let o = solves.left x (listed_in (options_of l) x e) in
      let listed = subst (λ z. is_listed (options_of l) z ≡ true) (sym o.2) e in
      in_listed (options_of m) x (subst (IsIn (options_of m)) o.2 (match.all o.0 o.1 listed))

  -- behind option y
  abbrev with_option : Numbered → ℕ
  with_option y = cond (eqb y.number x) (below p (holding_option y s)) 0 + having x (left_by p (holding_option y s))

  abbrev either : Numbered → List Choice → Bool
  either y l = eqb y.number x || is_listed (options_of l) x

  module _ (i : ℕ) (primary : i ≤ primary_count p) where
    abbrev picks : Numbered → ℕ
    picks y = count_by (either y) (listing (pick r i y))

    -- an option is in no member behind itself
    gone : (y : Numbered) → IsIn r.options y → holds y i ≡ true → y.number ≡ x → (l : List Choice)
        → IsIn (listing (left_by p (holding_option y s))) l → has l ≡ false
    gone y k at same l j = by_bool (has l) (λ e. absurd (
        let z = (members_solve (left_by p (holding_option y s)) l j).left x (listed_in (options_of l) x e) in
        let fits_it = in-filter (fits (holding_option y s)) (numbered_options p) z.0 z.1 in
        let mine = in-filter (fits s) (numbered_options p) y k in
        let is_y = same_number 0 (numbered_options p) z.0 y (options_rise p) fits_it.0 mine.0 (z.2 ∙ sym same) in
        let fits_y : fits (holding_option y s) y ≡ true =
        subst (λ o. fits (holding_option y s) o ≡ true) is_y fits_it.1 in
        not_both p v (are_once p once) s i y k primary at y i mine.0 fits_y primary at at)) (λ e. e)

    one_option : (y : Numbered) → IsIn (holding i r.options) y → picks y ≡ with_option y
    one_option y k =
        let from = in-filter (λ o. holds o i) r.options y k in
        let left : Residual = left_by p (holding_option y s) in
        let is = picked p v (are_once p once) s i y from.0 primary from.1 in
        ap (λ q. count_by (either y) (listing q)) is
        ∙ by_bool (eqb y.number x)
        (λ e.
        let none : having x left ≡ 0 = none_pass has (listing left) (gone y from.0 from.1 (eqb-true _ _ e)) in
        ap (λ b. count_by (λ l. b || is_listed (options_of l) x) (listing left)) e
        ∙ all_pass (listing left)
        ∙ sym (no_more (length (listing left)))
        ∙ sym (ap₂ (λ b n. cond b (length (listing left)) 0 + n) e none))
        (λ e.
        ap (λ b. count_by (λ l. b || is_listed (options_of l) x) (listing left)) e
        ∙ none_more (having x left)
        ∙ sym (ap (λ b. cond b (length (listing left)) 0 + having x left) e))

    abbrev by_number : ℕ → ℕ
    by_number o = with_same p s x o + worth_taken (having x) p s o

    -- the options by number
    numbered : sum_by by_number (options_with p i)
        ≡ sum_by (λ y. cond (fits s y && holds y i) (with_option y) 0) (numbered_options p)
    numbered =
        sum-map by_number (λ (y : Numbered). y.number) (holding i (numbered_options p))
        ∙ sum-filter (λ y. by_number y.number) (λ y. holds y i) (numbered_options p)
        ∙ sum-same (λ y. cond (holds y i) (by_number y.number) 0)
        (λ y. cond (fits s y && holds y i) (with_option y) 0) (numbered_options p)
        (each_from _ _ (λ y h.
        ap (λ us. cond (holds y i) (cond (eqb y.number x) (cond (agree s us) (below p (holding_uses us s)) 0) 0
        + cond (agree s us) (having x (left_by p (holding_uses us s))) 0) 0) (uses_known p y h)
        ∙ by_bool (holds y i)
        (λ e. by_bool (fits s y)
        (λ f. rw (e, f) refl)
        (λ f. rw (e, f) (by_bool (eqb y.number x) (λ q. rw q refl) (λ q. rw q refl))))
        (λ e. by_bool (fits s y) (λ f. rw (e, f) refl) (λ f. rw (e, f) refl))))

  module _ (w : Wanted) (in_whole : IsIn (whole p).items w) (free : s w.item ≡ None) where
    abbrev counts : Branch → ℕ
    counts b = length (filter has (behind listing b))

    one_branch : (n : ℕ) (kx : ℕ × Numbered) → counts (take_branch r w.item n kx)
        ≡ picks w.item (known p once w in_whole).0.1 kx.1
    one_branch n kx =
        ap length (filter-map has (λ m. (take_branch r w.item n kx).choice ∷ m) (listing (pick r w.item kx.1)))
        ∙ length-map _ _
        ∙ length-filter (either kx.1) (listing (pick r w.item kx.1))

    split_wanted : having x r ≡ sum_by (by_number w.item (known p once w in_whole).0.1) (options_with p w.item)
    split_wanted =
        let primary = (known p once w in_whole).0.1 in
        let left : IsIn r.items w = filter-in (λ y. is_none (s y.item)) (whole p).items w in_whole (rw free refl) in
        let low = (known p once w in_whole).1 in
        let n = branch_count r w in
        let hs = holding w.item r.options in
        let all : take n hs ≡ hs = take_all n hs (omega (arith, low)) in
        let no_nones : nones r w ≡ [] = rw low refl in
        sym (length-filter has (listing r))
        ∙ any_level_by (primary_count p) r w has (proper_left p v s) left respects
        ∙ passing_sum has (branches_of r w)
        ∙ sum_by-append counts (takes r w) (nones r w)
        ∙ ap (λ bs. sum_by counts (takes r w) + sum_by counts bs) no_nones
        ∙ no_more (sum_by counts (takes r w))
        ∙ sum-map counts (take_branch r w.item n) (enumerate_from 1 (take n hs))
        ∙ ap (λ c. sum_by c (enumerate_from 1 (take n hs))) (fun_ext (λ kx. one_branch n kx))
        ∙ sum-enumerated (picks w.item primary) 1 (take n hs)
        ∙ ap (sum_by (picks w.item primary)) all
        ∙ sum-same (picks w.item primary) with_option hs (each_from _ _ (one_option w.item primary))
        ∙ ap (sum_by with_option) (filter_both (λ o. holds o w.item) (fits s) (numbered_options p))
        ∙ sum-filter with_option (λ y. fits s y && holds y w.item) (numbered_options p)
        ∙ sym (numbered w.item primary)

  -- THE SPLIT: behind each option of a free item, all covers if it is x, and else those that have x
  pub having_split : (i : ℕ) → IsPrimary p i → s i ≡ None
      → having x (left_by p s) ≡ sum_by (λ o. with_same p s x o + worth_taken (having x) p s o) (options_with p i)
  having_split i primary free =
      let w = item_at p once i primary in
      subst (λ j. having x (left_by p s)
      ≡ sum_by (λ o. with_same p s x o + worth_taken (having x) p s o) (options_with p j)) w.2
      (split_wanted w.0 w.1 (ap s w.2 ∙ free))
