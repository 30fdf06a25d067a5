-- What the states of a layer pass on.
use Rattle.std.proofs.Common.{ℕ, zero, suc, ◌≡◌, ◌<◌, ◌+◌, ◌*◌, Bool, true, cond, eqb, List, [], ◌∷◌, ◌++◌}
use Rattle.std.proofs.Common.{length, map, take, drop, Option, Some, None, refl, sym, ap, ap₂, ◌∙◌, arith, subst}
use Rattle.std.proofs.Common.{length-append}
use Rattle.std.proofs.Math.ListN.{get_or}
use Rattle.std.specs.Prelude.{is_some, slice_get, sum_by, All}
use Rattle.std.specs.List.{AllByRecursion}
use Rattle.std.proofs.lemmas.List.{get_or_append_left, map-append, take_more}
use Rattle.std.proofs.Math.Seq.{get_or-append_seam}
use Rattle.std.proofs.lemmas.List.Elements.{recursion_from_All}
use Rattle.std.proofs.lemmas.List.Sums.{sum_by-cons, sum_by_more, sum_by-drop_more}
use Rattle.xc_input.specs.declared.problem.Use.{Use}
use Rattle.xc_input.specs.Problem.{Puzzle, IsValid}
use Rattle.xc_text.proofs.ListLemmas.{by_bool, by_option}
use Rattle.xc_input.proofs.OptionLemmas.{numbered_from}
use Rattle.xc_search.specs.Listing.{Residual, listing}
use Rattle.xc_count.specs.inner.Worth.{CountState}
use Rattle.xc_count.specs.declared.plan.Plan.{Plan}
use Rattle.xc_count.specs.declared.plan.Step.{Step}
use Rattle.xc_search.specs.Once.{IsOnce}
use Rattle.xc_count.specs.inner.Held.{Held, below, left_by}
use Rattle.xc_count.specs.inner.Keys.{mark_says}
use Rattle.xc_count.specs.inner.Passed.{AreMore, step_item, taken_here, with_same, worth_left, worth_passed}
use Rattle.xc_count.specs.inner.Passed.{worth_taken}
use Rattle.xc_count.specs.inner.Plans.{IsPlan, options_with}
use Rattle.xc_count.specs.inner.Worth.{EachKey, holds_first, key_below, says, with_number, worth, worth_by}
use Rattle.xc_count.proofs.Below.{one_left, split_once}
use Rattle.xc_count.proofs.Having.{having, having_none, having_split}
use Rattle.xc_count.proofs.PlanLemmas.{all_held, order_at}

-- ---- sums

sum_both : {X : Type 0} (f g : X → ℕ) (xs : List X) → sum_by (λ x. f x + g x) xs ≡ sum_by f xs + sum_by g xs
sum_both f g [] = refl
sum_both f g (x ∷ xs) =
    let both = sum_by-cons (λ y. f y + g y) x xs in
    let one = sum_by-cons f x xs in
    let two = sum_by-cons g x xs in
    let rest = sum_both f g xs in
    omega (arith, both, one, two, rest)

-- each key has two parts
worth_parts : (f g h : List ℕ → ℕ) → ((key : List ℕ) → f key ≡ g key + h key) → (ss : List CountState)
    → worth_by f ss ≡ worth_by g ss + worth_by h ss
worth_parts f g h e [] = refl
worth_parts f g h e (s ∷ ss) =
    let all = sum_by-cons (λ (t : CountState). t.worth * f t.key.items) s ss in
    let one = sum_by-cons (λ (t : CountState). t.worth * g t.key.items) s ss in
    let two = sum_by-cons (λ (t : CountState). t.worth * h t.key.items) s ss in
    let rest = worth_parts f g h e ss in
    let here : s.worth * f s.key.items ≡ s.worth * g s.key.items + s.worth * h s.key.items =
    rw (e s.key.items) (omega arith) in
    omega (arith, all, one, two, rest, here)

-- each key that passes a test is worth as much by another
worth_same : (f g : List ℕ → ℕ) (q : List ℕ → Bool) → ((key : List ℕ) → q key ≡ true → f key ≡ g key)
    → (ss : List CountState) → AllByRecursion (λ s. q s.key.items ≡ true) ss → worth_by f ss ≡ worth_by g ss
worth_same f g q same [] a = refl
worth_same f g q same (s ∷ ss) a =
    let one = sum_by-cons (λ (t : CountState). t.worth * f t.key.items) s ss in
    let two = sum_by-cons (λ (t : CountState). t.worth * g t.key.items) s ss in
    let rest = worth_same f g q same ss a.1 in
    let here : s.worth * f s.key.items ≡ s.worth * g s.key.items = ap (λ n. s.worth * n) (same s.key.items a.0) in
    omega (arith, one, two, rest, here)

-- no key is worth anything
worth_none : (f : List ℕ → ℕ) (q : List ℕ → Bool) → ((key : List ℕ) → q key ≡ true → f key ≡ 0) → (ss : List CountState)
    → AllByRecursion (λ s. q s.key.items ≡ true) ss → worth_by f ss ≡ 0
worth_none f q none [] a = refl
worth_none f q none (s ∷ ss) a =
    let all = sum_by-cons (λ (t : CountState). t.worth * f t.key.items) s ss in
    let rest = worth_none f q none ss a.1 in
    let here : s.worth * f s.key.items ≡ 0 = rw (none s.key.items a.0) (omega arith) in
    omega (arith, all, rest, here)

-- numbers that are each one
pub ones_map : {X : Type 0} (f : X → ℕ) (ns : List ℕ) (xs : List X) → length ns ≡ length xs
    → AllByRecursion (λ n. n ≡ 1) ns → AllByRecursion (λ x. f x ≡ 1) xs → ns ≡ map f xs
ones_map f [] [] e a b = refl
ones_map f [] (x ∷ xs) e a b = absurd (omega (arith, e))
ones_map f (n ∷ ns) [] e a b = absurd (omega (arith, e))
ones_map f (n ∷ ns) (x ∷ xs) e a b =
    ap₂ (λ m ms. m ∷ ms) (a.0 ∙ sym b.0) (ones_map f ns xs (omega (arith, e)) a.1 b.1)

-- ---- a layer

module _ (p : Puzzle) (plan : Plan) (is : IsPlan p plan) (once : IsOnce p) (v : IsValid p) (x : ℕ) where
  -- the covers that have option x: it is taken for the step's item, or below
  key_parts : (step : Step) → step.place < length plan.order.items → (key : List ℕ)
      → having x (left_by p (says plan step.from key))
      ≡ worth_passed (having x) p plan step key + taken_here p plan step x key
  key_parts step within key =
      let s : Held = says plan step.from key in
      let i : ℕ = step_item plan step in
      let all : ℕ = having x (left_by p s) in
      let later : ℕ = sum_by (worth_taken (having x) p s) (options_with p i) in
      let now : ℕ = sum_by (with_same p s x) (options_with p i) in
      by_option (s i)
      (λ e.
      let split : all ≡ now + later = having_split p v once s x i (order_at p plan is step.place within) e
      ∙ sum_both (with_same p s x) (worth_taken (having x) p s) (options_with p i) in
      let parts : all ≡ later + now = omega (arith, split) in
      parts ∙ sym (ap (λ b. cond b all later + cond b 0 now) (ap is_some e)))
      (λ c e.
      let parts : all ≡ all + 0 = omega arith in
      parts ∙ sym (ap (λ b. cond b all later + cond b 0 now) (ap is_some e)))

  pub layer_parts : (step : Step) → step.place < length plan.order.items → (ss : List CountState)
      → worth_left (having x) p plan step.from ss
      ≡ worth_by (worth_passed (having x) p plan step) ss
      + worth_by (taken_here p plan step x) ss
  layer_parts step within = worth_parts (λ key. having x (left_by p (says plan step.from key)))
      (worth_passed (having x) p plan step) (taken_here p plan step x) (key_parts step within)

  -- nothing is left to take at the end
  pub layer_end : (from : ℕ) (ss : List CountState) → EachKey (holds_first plan (length plan.order.items) from) ss
      → worth_left (having x) p plan from ss ≡ 0
  layer_end from ss held = worth_none (λ key. having x (left_by p (says plan from key)))
      (holds_first plan (length plan.order.items) from)
      (λ key h. having_none p v once (says plan from key) x
      (λ i primary e. all_held p plan is from key h i primary e)) ss (recursion_from_All _ _ held)

-- how many covers there are of what is left
abbrev pub covers_left : Residual → ℕ
covers_left r = length (listing r)

module _ (p : Puzzle) (plan : Plan) (is : IsPlan p plan) (once : IsOnce p) (v : IsValid p) where
  -- the covers below a key are those below what it becomes
  key_passed : (step : Step) → step.place < length plan.order.items → (key : List ℕ)
      → worth_passed covers_left p plan step key ≡ key_below p plan step.from key
  key_passed step within key =
      let s : Held = says plan step.from key in
      let i : ℕ = step_item plan step in
      let later : ℕ = sum_by (worth_taken covers_left p s) (options_with p i) in
      by_option (s i)
      (λ e. ap (λ b. cond b (below p s) later) (ap is_some e)
      ∙ sym (split_once p once v s i (order_at p plan is step.place within) e))
      (λ c e. ap (λ b. cond b (below p s) later) (ap is_some e))

  pub layer_below : (step : Step) → step.place < length plan.order.items → (ss : List CountState)
      → EachKey (holds_first plan step.place step.from) ss
      → worth_by (worth_passed covers_left p plan step) ss ≡ worth p plan step.from ss
  layer_below step within ss held = worth_same (worth_passed covers_left p plan step) (key_below p plan step.from)
      (holds_first plan step.place step.from) (λ key h. key_passed step within key) ss (recursion_from_All _ _ held)

  -- at the end there is one below each state
  pub ends_worth : (from : ℕ) (ss : List CountState) → EachKey (holds_first plan (length plan.order.items) from) ss
      → worth p plan from ss ≡ worth_by (λ key. 1) ss
  ends_worth from ss held = worth_same (key_below p plan from) (λ key. 1)
      (holds_first plan (length plan.order.items) from)
      (λ key h. one_left p once v (says plan from key) (all_held p plan is from key h)) ss
      (recursion_from_All _ _ held)

  -- one cover is below each state there
  pub ends_below : (from : ℕ) (ns : List ℕ) (ss : List CountState) → length ns ≡ length ss → All (λ n. n ≡ 1) ns
      → EachKey (holds_first plan (length plan.order.items) from) ss
      → ns ≡ map (λ s. key_below p plan from s.key.items) ss
  ends_below from ns ss e one held = ones_map (λ s. key_below p plan from s.key.items) ns ss e
      (recursion_from_All _ _ one) (ones ss (recursion_from_All _ _ held))
    where
      ones : (ss : List CountState)
          → AllByRecursion (λ s. holds_first plan (length plan.order.items) from s.key.items ≡ true) ss
          → AllByRecursion (λ s. key_below p plan from s.key.items ≡ 1) ss
      ones [] a = tt
      ones (s ∷ ss) a = (
        one_left p once v (says plan from s.key.items) (all_held p plan is from s.key.items a.0),
        ones ss a.1,
      )

-- ---- the numbers of the options

pub more_none : (f : ℕ → ℕ) (a b : List ℕ) → b ≡ a → ((x : ℕ) → f x ≡ 0) → AreMore f a b
more_none f a b same none = record {
  len = ap length same;
  each = λ j. let e : get_or b j 0 ≡ get_or a j 0 = ap (λ l. get_or l j 0) same in omega (arith, e, none (j + 1));
}

pub more_then : (f g h : ℕ → ℕ) (a b c : List ℕ) → AreMore f a b → AreMore g b c → ((x : ℕ) → f x + g x ≡ h x)
    → AreMore h a c
more_then f g h a b c m n e = record {
  len = n.len ∙ m.len;
  each = λ j. omega (arith, m.each j, n.each j, e (j + 1));
}

pub more_same : (f g : ℕ → ℕ) (a b : List ℕ) → AreMore f a b → ((x : ℕ) → f x ≡ g x) → AreMore g a b
more_same f g a b m e = record { len = m.len; each = λ j. omega (arith, m.each j, e (j + 1)) }

-- one number more
pub map_pushed : {X : Type 0} (f : X → ℕ) (xs : List X) (ns ms : List ℕ) (k n : ℕ) (d : X) → k < length xs
    → ns ≡ map f (take k xs) → n ≡ f (get_or xs k d) → ms ≡ ns ++ n ∷ [] → ms ≡ map f (take (k + 1) xs)
map_pushed f xs ns ms k n d h so is pushed =
    let next : take (k + 1) xs ≡ take k xs ++ get_or xs k d ∷ [] = take_more xs k d h in
    pushed
    ∙ ap₂ (λ a b. a ++ b ∷ []) so is
    ∙ sym (map-append f (take k xs) (get_or xs k d ∷ []))
    ∙ sym (ap (map f) next)

-- numbers of options, by their places
pub numbers_by_place : (f : ℕ → ℕ) (k : ℕ) (ns : List ℕ) (os : List (List Use)) → length ns ≡ length os
    → ((j : ℕ) → get_or ns j 0 ≡ f (j + k)) → ns ≡ map (λ x. f x.number) (numbered_from k os)
numbers_by_place f k [] [] e h = refl
numbers_by_place f k [] (o ∷ os) e h = absurd (omega (arith, e))
numbers_by_place f k (n ∷ ns) [] e h = absurd (omega (arith, e))
numbers_by_place f k (n ∷ ns) (o ∷ os) e h =
    let zero_more : 0 + k ≡ k = omega arith in
    ap₂ (λ m ms. m ∷ ms) (h 0 ∙ ap f zero_more)
    (numbers_by_place f (k + 1) ns os (omega (arith, e)) (λ j.
    let more : suc j + k ≡ j + (k + 1) = omega arith in h (suc j) ∙ ap f more))

-- a number of a list's numbers
pub at_map : {X : Type 0} (f : X → ℕ) (xs : List X) (k : ℕ) (x : X) → slice_get xs k ≡ Some x
    → (k < length (map f xs)) × ((d : ℕ) → get_or (map f xs) k d ≡ f x)
at_map f [] k x e = cc
at_map f (y ∷ ys) zero x e = (omega arith, λ d. let same : y ≡ x = cc in ap f same)
at_map f (y ∷ ys) (suc k) x e = let rest = at_map f ys k x e in (omega (arith, rest.0), rest.1)

pub zeros_at : (ns : List ℕ) → AllByRecursion (λ n. n ≡ 0) ns → (j : ℕ) → get_or ns j 0 ≡ 0
zeros_at [] a j = refl
zeros_at (n ∷ ns) a zero = a.0
zeros_at (n ∷ ns) a (suc j) = zeros_at ns a.1 j

-- the last of a list, and those before
pub all_before : {X : Type 0} (P : X → Type 0) (xs : List X) (x : X) → All P (xs ++ x ∷ []) → All P xs
all_before P xs x a k d h =
    let more : k < length (xs ++ x ∷ []) = omega (arith, h, length-append xs (x ∷ [])) in
    subst P (get_or_append_left xs (x ∷ []) d k h) (a k d more)

pub all_last : {X : Type 0} (P : X → Type 0) (xs : List X) (x : X) → All P (xs ++ x ∷ []) → P x
all_last P xs x a =
    let more : length xs < length (xs ++ x ∷ []) = omega (arith, length-append xs (x ∷ [])) in
    subst P (get_or-append_seam xs x [] x) (a (length xs) x more)

-- ---- the options of a state

pub times_none : (n : ℕ) → n * 0 ≡ 0
times_none n = omega arith

-- one option less to try: its covers are added to the sum, and to its own number
pub sum_less : (f : ℕ → ℕ) (k sum more b t : ℕ) (os : List ℕ) → k < length os → sum + sum_by f (drop k os) ≡ t
    → b ≡ sum + more → more ≡ f (get_or os k 0) → b + sum_by f (drop (k + 1) os) ≡ t
sum_less f k sum more b t os h so is same =
    let next = sum_by-drop_more f os k 0 h in
    omega (arith, next, so, is, same)

module _ (p : Puzzle) (s : Held) (ways : ℕ) (os : List ℕ) (k : ℕ) (h : k < length os) (a b : List ℕ)
    (so : AreMore (λ x. ways * sum_by (with_same p s x) (take k os)) a b)
  where
    abbrev o : ℕ
    o = get_or os k 0

    step : (x : ℕ) → ways * sum_by (with_same p s x) (take (k + 1) os)
        ≡ ways * sum_by (with_same p s x) (take k os) + ways * with_same p s x o
    step x = let one = sum_by_more (with_same p s x) os k 0 h in rw one (omega arith)

    -- it doesn't fit
    pub same_passed : with_number p s o ≡ 0 → AreMore (λ x. ways * sum_by (with_same p s x) (take (k + 1) os)) a b
    same_passed none = more_same (λ x. ways * sum_by (with_same p s x) (take k os))
        (λ x. ways * sum_by (with_same p s x) (take (k + 1) os)) a b so
        (λ x.
        let zero_here : with_same p s x o ≡ 0 =
        by_bool (eqb o x) (λ e. rw (e, none) refl) (λ e. rw e refl) in
        let nothing : ways * with_same p s x o ≡ 0 = rw zero_here (omega arith) in
        omega (arith, step x, nothing))

    pub same_added : (n : ℕ) (c : List ℕ) → n ≡ with_number p s o → AreMore (λ x. cond (eqb o x) (ways * n) 0) b c
        → AreMore (λ x. ways * sum_by (with_same p s x) (take (k + 1) os)) a c
    same_added n c is more = more_then (λ x. ways * sum_by (with_same p s x) (take k os))
        (λ x. cond (eqb o x) (ways * n) 0)
        (λ x. ways * sum_by (with_same p s x) (take (k + 1) os)) a b c so more
        (λ x.
        let here : cond (eqb o x) (ways * n) 0 ≡ ways * with_same p s x o =
        by_bool (eqb o x) (λ e. rw (e, is) refl) (λ e. rw e (omega arith)) in
        omega (arith, step x, here))

-- a mark of an item that is free
pub unmarked : (m : ℕ) (o : Option ℕ) → mark_says (Some m) ≡ o → m ≡ 0 → o ≡ None
unmarked zero o e h = sym e
unmarked (suc m) o e h = absurd (omega (arith, h))

-- and one of an item that is held
pub marked : (m : ℕ) (o : Option ℕ) → mark_says (Some m) ≡ o → 0 < m → is_some o ≡ true
marked zero o e h = absurd (omega (arith, h))
marked (suc m) o e h = sym (ap is_some e)
