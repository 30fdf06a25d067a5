-- Rows of numbers, and where they lie in the listing.
use Rattle.std.proofs.lemmas.Bool.Decides.{nat_tests}
use Rattle.std.proofs.Common.{ℕ, ◌≡◌, ◌<◌, true, false, List, [], ◌∷◌, ◌++◌, refl, arith, ◌⊎◌, inl, inr, suc, ◌+◌, Bool}
use Rattle.std.proofs.Common.{not, ◌&&◌, map, filter, Option, Some, None, sym, ap, ◌∙◌, ◌-◌, ◌≤◌, length, cond, drop}
use Rattle.std.proofs.Common.{reverse, ap₂, length-drop, zero, subst, append-nil, take, append_assoc}
use Rattle.std.specs.Prelude.{slice_get, IfSome, AllPairs, ◌||◌, sum_by, flat_map}
use Rattle.std.specs.List.{AllByRecursion}
use Rattle.std.proofs.lemmas.List.{map-append, reverse-append, map-id, take-append-drop}
use Rattle.std.proofs.lemmas.Option.{slice_get_within}
use Rattle.std.proofs.lemmas.List.Sums.{sum_by-cons}
use Rattle.std.proofs.lemmas.Grind.{common_steps, flat_map-append}
use Rattle.std.proofs.lemmas.List.Elements.{filter-append}
use Rattle.xc_input.specs.Problem.{Puzzle, holding}
use Rattle.xc_text.proofs.ListLemmas.{by_bool, EachTwo, EachTwo-map, EachTwo-flat_map, AllPairs-from_each_two, IsIn}
use Rattle.xc_text.proofs.ListLemmas.{each_from, in-map, slice_get-in, each_weaker, filter_same, keep_all, by_option}
use Rattle.xc_text.proofs.ListLemmas.{by_number, mapped_none, each-append, each-map, each_of_all, map-same, drop_at}
use Rattle.xc_moves.specs.declared.dance.Move.{Move}
use Rattle.xc_search.specs.Spans.{precedes, row_of, is_before, between, spans_from, RowsRise}
use Rattle.xc_search.specs.declared.choice.Choice.{Choice}
use Rattle.xc_search.specs.Listing.{Wanted, Residual, Branch, whole, branches_of, listing, branch_item, branch_count}
use Rattle.xc_search.specs.Listing.{level}
use Rattle.xc_search.specs.Cover.{members}
use Rattle.xc_search.specs.declared.level.Level.{Level}
use Rattle.xc_search.specs.inner.Levels.{oldest, residual_of, branches_at, chosen, choices_of, AreStacked}
use Rattle.xc_search.specs.inner.Levels.{branch_members, to_give}
use Rattle.xc_search.specs.Residuals.{wanted_at}
use Rattle.xc_search.specs.inner.Ahead.{AreLed, IsSolved, AreLedBy, MayLead}
use Rattle.xc_search.specs.InSpan.{branches_left, left_by_number, branches_along}
use Rattle.xc_search.specs.inner.Spanning.{row_at, row_from}
use Rattle.xc_search.specs.Nodes.{IsRowOf, RowsGoOn, level_rows, rows_to, row_count}
use Rattle.xc_search.proofs.ListingLemmas.{number_at, by_branches, listing_at, branch_takes, branch_none, branches_end}
use Rattle.xc_search.proofs.ListingLemmas.{by_depth}
use Rattle.xc_search.proofs.ResidualLemmas.{no_moves_leave_all, choice_is_branch_item}
use Rattle.xc_search.proofs.LoopSteps.{choices_more, members_all}

-- ======== Rows of numbers, one before another.

-- the first numbers decide, or the rest where they are the same
pub before_first : (x y : ℕ) (a b : List ℕ) → precedes (x ∷ a) (y ∷ b) ≡ true →
    (x < y) ⊎ ((x ≡ y) × (precedes a b ≡ true))
before_first x y a b e = grind (arith, nat_tests)

pub behind_first : (x y : ℕ) (a b : List ℕ) → precedes (x ∷ a) (y ∷ b) ≡ false →
    (y < x) ⊎ ((x ≡ y) × (precedes a b ≡ false))
behind_first x y a b e = grind (arith, nat_tests)

pub less_before : (x y : ℕ) (a b : List ℕ) → x < y → precedes (x ∷ a) (y ∷ b) ≡ true
less_before x y a b h = grind (arith, nat_tests)

pub less_behind : (x y : ℕ) (a b : List ℕ) → y < x → precedes (x ∷ a) (y ∷ b) ≡ false
less_behind x y a b h = grind (arith, nat_tests)

pub same_before : (x y : ℕ) (a b : List ℕ) → x ≡ y → precedes a b ≡ true → precedes (x ∷ a) (y ∷ b) ≡ true
same_before x y a b h e = grind (arith, nat_tests)

pub not_itself : (a : List ℕ) → precedes a a ≡ false
not_itself [] = refl
not_itself (x ∷ a) = grind (arith, nat_tests, not_itself a)

-- behind the same beginning the rest decides
pub same_beginning : (r a b : List ℕ) → precedes (r ++ a) (r ++ b) ≡ precedes a b
same_beginning [] a b = refl
same_beginning (x ∷ r) a b = grind (arith, nat_tests, same_beginning r a b)

-- a before b, and c not before b
pub before_not_before : (a b c : List ℕ) → precedes a b ≡ true → precedes c b ≡ false → precedes a c ≡ true
before_not_before a [] c e f = absurd (cc e)
before_not_before [] (y ∷ b) [] e f = absurd (cc f)
before_not_before [] (y ∷ b) (z ∷ c) e f = refl
before_not_before (x ∷ a) (y ∷ b) [] e f = absurd (cc f)
before_not_before (x ∷ a) (y ∷ b) (z ∷ c) e f = elim (before_first x y a b e) [
  | inl h ↦ elim (behind_first z y c b f) [
    | inl k ↦ less_before x z a c (omega (arith, h, k))
    | inr k ↦ less_before x z a c (omega (arith, h, k.0))
  ]
  | inr h ↦ elim (behind_first z y c b f) [
    | inl k ↦ less_before x z a c (omega (arith, h.0, k))
    | inr k ↦ same_before x z a c (omega (arith, h.0, k.0)) (before_not_before a b c h.1 k.1)
  ]
]

-- neither b before a, nor c before b
pub not_before : (a b c : List ℕ) → precedes b a ≡ false → precedes c b ≡ false → precedes c a ≡ false
not_before a b c e f = by_bool (precedes c a)
    (λ h. absurd (cc (before_not_before c a b h e))) (λ h. h)

-- b not before a, and b before c
pub not_before_before : (a b c : List ℕ) → precedes b a ≡ false → precedes b c ≡ true → precedes a c ≡ true
not_before_before a b c e f = by_bool (precedes a c) (λ h. h) (λ h. absurd (cc (not_before c a b h e, f)))

pub before_either_way : (a b : List ℕ) → precedes a b ≡ true → precedes b a ≡ false
before_either_way a [] e = absurd (cc e)
before_either_way [] (y ∷ b) e = refl
before_either_way (x ∷ a) (y ∷ b) e = elim (before_first x y a b e) [
  | inl h ↦ less_behind y x b a h
  | inr h ↦ grind (arith, nat_tests, h, before_either_way a b h.1)
]

-- ======== The members' rows rise, and spans whose ends meet are one span.

-- ---- members' rows rise

abbrev pub RiseRows : List (List Choice) → Type 0
RiseRows ms = EachTwo (λ a b. precedes (row_of a) (row_of b) ≡ true) ms

-- what is numbered by its place rises
numbered_rise : {X : Type 0} (f : X → ℕ) (n : ℕ) (xs : List X)
    → ((j : ℕ) (x : X) → slice_get xs j ≡ Some x → f x ≡ n + suc j) → EachTwo (λ a b. f a < f b) xs
numbered_rise f n [] h = tt
numbered_rise f n (x ∷ xs) h = (
  each_from _ xs (λ y i. let at = slice_get-in xs y i in omega (arith, h 0 x refl, h (suc at.0) y at.1)),
  numbered_rise f (suc n) xs (λ j y e. omega (arith, h (suc j) y e)),
)

branches_rise : (r : Residual) (w : Wanted) → EachTwo (λ (a b : Branch). a.choice.k < b.choice.k) (branches_of r w)
branches_rise r w = numbered_rise (λ (b : Branch). b.choice.k) 0 (branches_of r w) (λ j b e.
    omega (arith, (number_at r w j b e).1))

EachTwo-weaker : {X : Type 0} (P Q : X → X → Type 0) (xs : List X) → ((x y : X) → P x y → Q x y) → EachTwo P xs
    → EachTwo Q xs
EachTwo-weaker P Q [] h a = tt
EachTwo-weaker P Q (x ∷ xs) h a = (each_weaker (P x) (Q x) xs (h x) a.0, EachTwo-weaker P Q xs h a.1)

-- the members of a branch
abbrev of_branch : Branch → List (List Choice)
of_branch b = map (λ m. b.choice ∷ m) (listing b.next)

in_turn : (a b : Branch) → a.choice.k < b.choice.k → (y z : List Choice) → IsIn (of_branch a) y → IsIn (of_branch b) z
    → precedes (row_of y) (row_of z) ≡ true
in_turn a b h y z i j =
    let m = in-map (λ m. a.choice ∷ m) (listing a.next) y i in
    let n = in-map (λ m. b.choice ∷ m) (listing b.next) z j in
    rw (← m.2, ← n.2) (less_before a.choice.k b.choice.k (row_of m.0) (row_of n.0) h)

pub listing_rises : (r : Residual) → RiseRows (listing r)
listing_rises = by_branches (λ r. RiseRows (listing r)) (λ r e. rw (listing_at r None e) (tt, tt)) (λ r w e deep.
    rw (listing_at r (Some w) e) (EachTwo-flat_map _ of_branch (branches_of r w)
    (λ b i. EachTwo-map _ (λ m. b.choice ∷ m) (listing b.next) (EachTwo-weaker _ _ (listing b.next)
    (λ m n h. same_beginning (b.choice.k ∷ []) (row_of m) (row_of n) ∙ h) (deep b i)))
    (EachTwo-weaker _ _ (branches_of r w) in_turn (branches_rise r w))))

pub members_rise : (p : Puzzle) → AllPairs (λ a b. precedes (row_of a) (row_of b) ≡ true) (members p)
members_rise p = AllPairs-from_each_two _ _ (listing_rises (whole p))

-- ---- spans whose ends meet

abbrev pub is_within : List ℕ → Option (List ℕ) → List Choice → Bool
is_within from until m = not (precedes (row_of m) from) && is_before until (row_of m)

pub keep_none : {X : Type 0} (p : X → Bool) (xs : List X) → AllByRecursion (λ x. p x ≡ false) xs → filter p xs ≡ []
keep_none p [] a = refl
keep_none p (x ∷ xs) a = rw a.0 (keep_none p xs a.1)

-- what is before a row is before each end that isn't
before_end : (a b : List ℕ) (until : Option (List ℕ)) → precedes a b ≡ true → IfSome until (λ u. precedes u b ≡ false)
    → is_before until a ≡ true
before_end a b None e h = refl
before_end a b (Some u) e h = before_not_before a b u e h

-- rows from a on, and from row b on, which isn't before a
module _ (a b : List ℕ) (until : Option (List ℕ)) (ab : precedes b a ≡ false)
    (bu : IfSome until (λ u. precedes u b ≡ false))
  where
    meets_behind : (ms : List (List Choice)) → AllByRecursion (λ m. precedes (row_of m) b ≡ false) ms →
        filter (is_within a (Some b)) ms ++ filter (is_within b until) ms ≡ filter (is_within a until) ms
    meets_behind ms h =
        ap (λ xs. xs ++ filter (is_within b until) ms)
        (keep_none (is_within a (Some b)) ms (each_weaker _ _ ms (λ m e. grind (arith, nat_tests)) h))
        ∙ filter_same (is_within b until) (is_within a until) ms (each_weaker _ _ ms (λ m e.
        ap (λ x. not x && is_before until (row_of m)) (e ∙ sym (not_before a b (row_of m) ab e))) h)

    pub meets : (ms : List (List Choice)) → RiseRows ms →
        filter (is_within a (Some b)) ms ++ filter (is_within b until) ms ≡ filter (is_within a until) ms
    meets [] r = refl
    meets (m ∷ ms) r = by_bool (precedes (row_of m) b)
        (λ e. let before = before_end (row_of m) b until e bu in
        let later = meets ms r.1 in
        by_bool (precedes (row_of m) a)
        (λ f. rw (f, e) later)
        (λ f. rw (f, e, before) (ap (λ xs. m ∷ xs) later)))
        (λ e. meets_behind (m ∷ ms) (
          e,
          each_weaker _ _ ms (λ x h.
              not_before b (row_of m) (row_of x) e (before_either_way (row_of m) (row_of x) h)) r.0,
        ))

pub spans_meet : (p : Puzzle) (a b : List ℕ) (until : Option (List ℕ)) → precedes b a ≡ false
    → IfSome until (λ u. precedes u b ≡ false) → between p a (Some b) ++ between p b until ≡ between p a until
spans_meet p a b until ab bu = meets a b until ab bu (members p) (listing_rises (whole p))

-- from the empty row to the end
pub all_between : (p : Puzzle) → between p [] None ≡ members p
all_between p = keep_all (is_within [] None) (members p) (each_from _ _ (λ m i. refl))

spans_to_end : (p : Puzzle) (from : List ℕ) (rows : List (List ℕ)) → RowsRise from rows
    → spans_from p from rows ≡ between p from None
spans_to_end p from [] r = refl
spans_to_end p from (next ∷ rows) r =
    ap (λ ms. between p from (Some next) ++ ms) (spans_to_end p next rows r.1) ∙ spans_meet p from next None r.0 tt

pub spans_join : (p : Puzzle) (rows : List (List ℕ)) → RowsRise [] rows → spans_from p [] rows ≡ members p
spans_join p rows r = spans_to_end p [] rows r ∙ all_between p

-- ======== The branches that a row leads by, and the row right behind another.

-- By the branches of these numbers what leaves r leads to what leaves s.
abbrev pub Leads : Residual → List ℕ → Residual → Type 0
Leads r [] s = s ≡ r
Leads r (k ∷ x) s =
    (w : Wanted) × (b : Branch) × (branch_item r ≡ Some w) × (slice_get (branches_of r w) (k - 1) ≡ Some b)
    × (0 < k) × Leads b.next x s

-- one branch more
leads_more : (r : Residual) (x : List ℕ) (s : Residual) → Leads r x s → (w : Wanted) → branch_item s ≡ Some w
    → (k : ℕ) (b : Branch) → slice_get (branches_of s w) (k - 1) ≡ Some b → 0 < k → Leads r (x ++ k ∷ []) b.next
leads_more r [] s l w e k b at some =
    let item : branch_item r ≡ Some w = ap branch_item (sym l) ∙ e in
    let here : slice_get (branches_of r w) (k - 1) ≡ Some b =
    ap (λ r. slice_get (branches_of r w) (k - 1)) (sym l) ∙ at in
    (w, b, item, here, some, refl)
leads_more r (j ∷ x) s l w e k b at some =
    (l.0, l.1, l.2, l.3, l.4, leads_more l.1.next x s l.5 w e k b at some)

pub led_leads : (p : Puzzle) (t : List Move) (ls : List Level) → AreLed p [] t ls
    → Leads (whole p) (row_of (choices_of p ls)) (residual_of p t)
unfolding branches_at
led_leads p t [] a = rw a (no_moves_leave_all p)
led_leads p t (l ∷ ls) a =
    let u = oldest l.mark t in
    let w = wanted_at p u l.item in
    let number : a.0.branch.choice.k ≡ l.begun = sym (ap (λ (c : Choice). c.k) a.0.choice) in
    let some : 0 < l.begun =
    omega (arith, number, (number_at (residual_of p u) w (l.begun - 1) a.0.branch a.0.at).1) in
    let next = leads_more _ _ _ (led_leads p u ls a.1) w a.0.leads l.begun a.0.branch a.0.at some in
    let row : row_of (choices_of p (l ∷ ls)) ≡ row_of (choices_of p ls) ++ l.begun ∷ [] =
    ap row_of (choices_more p l ls) ∙ map-append (λ c. c.k) (choices_of p ls) (chosen p l ∷ []) in
    rw (row, a.0.next) next

-- the row right behind a row is no later than a row of branches that comes after it
after_row : (r : Residual) (x : List ℕ) (s : Residual) (a : List ℕ) → Leads r x s → precedes a x ≡ true
    → precedes (a ++ 0 ∷ []) x ≡ true
after_row r [] s a l e = absurd (cc e)
after_row r (k ∷ x) s [] l e = less_before 0 k [] x l.4
after_row r (k ∷ x) s (j ∷ a) l e = elim (before_first j k a x e) [
  | inl h ↦ less_before j k (a ++ 0 ∷ []) x h
  | inr h ↦ same_before j k (a ++ 0 ∷ []) x h.0 (after_row l.1.next x s a l.5 h.1)
]

pub led_after : (p : Puzzle) (t : List Move) (ls : List Level) (a : List ℕ) → AreLed p [] t ls
    → precedes a (row_of (choices_of p ls)) ≡ true → precedes (a ++ 0 ∷ []) (row_of (choices_of p ls)) ≡ true
led_after p t ls a b e = after_row (whole p) _ _ a (led_leads p t ls b) e

-- ======== How many branches each level of a row has.

length-branches : (r : Residual) (w : Wanted) → length (branches_of r w) ≡ branch_count r w
length-branches r w =
    let bs = branches_of r w in
    let most = omega_le bs (branch_count r w) (branches_end r w) in
    by_number (branch_count r w)
    (λ e. omega (arith, most, e))
    (λ j e.
    let h : j < branch_count r w = omega (arith, e) in
    let within : j < length bs = by_option (slice_get (holding w.item r.options) j)
    (λ f. slice_get_within bs j _ (branch_none r w j h f).0)
    (λ x f. slice_get_within bs j _ (branch_takes r w j x h f)) in
    omega (arith, most, within, e))
  where
    omega_le : (bs : List Branch) (n : ℕ) → drop n bs ≡ [] → length bs ≤ n
    omega_le bs n e = omega (arith, ap length e, length-drop n bs)

pub left_here : (r : Residual) (w : Wanted) → branch_item r ≡ Some w → branches_left r ≡ branches_of r w
left_here r w e = rw e refl

along_more : (r : Residual) (x : List ℕ) (s : Residual) (k : ℕ) → Leads r x s
    → branches_along r (x ++ k ∷ []) ≡ branches_along r x ++ length (branches_left s) ∷ []
along_more r [] s k l = ap (λ r. length (branches_left r) ∷ []) (sym l)
along_more r (j ∷ x) s k l =
    let next : left_by_number j r ≡ l.1.next = rw (left_here r l.0 l.2, l.3) refl in
    ap (λ xs. length (branches_left r) ∷ xs)
    (ap (λ r. branches_along r (x ++ k ∷ [])) next ∙ along_more l.1.next x s k l.5
    ∙ ap (λ r. branches_along r x ++ length (branches_left s) ∷ []) (sym next))

led_along : (p : Puzzle) (t : List Move) (ls : List Level) → AreStacked p t ls → AreLed p [] t ls
    → branches_along (whole p) (row_at p ls) ≡ map (λ (l : Level). l.count) (reverse ls)
led_along p t [] s a = refl
led_along p t (l ∷ ls) s a =
    let u = oldest l.mark t in
    let row : row_at p (l ∷ ls) ≡ row_at p ls ++ l.begun ∷ [] =
    ap (map (λ c. c.k)) (choices_more p l ls) ∙ map-append (λ c. c.k) (choices_of p ls) (chosen p l ∷ []) in
    let count : length (branches_left (residual_of p u)) ≡ l.count =
    ap length (left_here (residual_of p u) (wanted_at p u l.item) a.0.leads)
    ∙ length-branches (residual_of p u) (wanted_at p u l.item) ∙ sym s.0.count in
    ap (branches_along (whole p)) row ∙ along_more (whole p) (row_at p ls) _ l.begun (led_leads p u ls a.1)
    ∙ ap₂ (λ xs n. xs ++ n ∷ []) (led_along p u ls s.2 a.1) count
    ∙ sym (ap (map (λ (l : Level). l.count)) (reverse-append (l ∷ []) ls)
    ∙ map-append (λ (l : Level). l.count) (reverse ls) (l ∷ []))

-- a solution has no branches
solved_along : (p : Puzzle) (t : List Move) (ls : List Level) → AreStacked p t ls → AreLed p [] t ls
    → IsSolved p t ls →
    branches_along (whole p) (row_from p ls false) ≡ map (λ (l : Level). l.count) (reverse ls) ++ 0 ∷ []
solved_along p t ls s a solved =
    let legal = (solved.standing.searchable refl).legal in
    let none : branch_item (residual_of p t) ≡ None =
    grind (arith, mapped_none, choice_is_branch_item p t legal, solved.none) in
    let count : length (branches_left (residual_of p t)) ≡ 0 = rw none refl in
    along_more (whole p) (row_at p ls) _ 0 (led_leads p t ls a)
    ∙ ap₂ (λ xs n. xs ++ n ∷ []) (led_along p t ls s a) count

-- with a last number where it stands at a solution
pub numbers_told : (p : Puzzle) (ls : List Level) (down : Bool) (xs : List ℕ) → xs ≡ row_at p ls
    → cond down xs (xs ++ 0 ∷ []) ≡ row_from p ls down
numbers_told p ls true xs e = e
numbers_told p ls false xs e = ap (λ xs. xs ++ 0 ∷ []) e

pub branches_told : (p : Puzzle) (t : List Move) (ls : List Level) (down : Bool) (xs : List ℕ) → AreStacked p t ls
    → AreLed p [] t ls → (down ≡ false → IsSolved p t ls) → xs ≡ map (λ (l : Level). l.count) (reverse ls)
    → cond down xs (xs ++ 0 ∷ []) ≡ branches_along (whole p) (row_from p ls down)
branches_told p t ls true xs s a solved e = e ∙ sym (led_along p t ls s a)
branches_told p t ls false xs s a solved e =
    ap (λ xs. xs ++ 0 ∷ []) e ∙ sym (solved_along p t ls s a (solved refl))

-- ======== The rows that a search of a span stands at are rows of its tree.

-- what follows a row that leads to s is a row there
leads_row : (r : Residual) (x : List ℕ) (s : Residual) (y : List ℕ) → Leads r x s → IsRowOf s y → IsRowOf r (x ++ y)
leads_row r [] s y l h = rw l at h
leads_row r (zero ∷ x) s y l h = absurd (omega (arith, l.4))
leads_row r (suc k ∷ x) s y l h =
    let here = left_here r l.0 l.2 in
    let next : left_by_number (suc k) r ≡ l.1.next = rw (here, l.3) refl in
    let within = slice_get_within (branches_of r l.0) (suc k - 1) l.1 l.3 in
    (rw here (omega (arith, within)), rw next (leads_row l.1.next x s y l.5 h))

pub is_row : (p : Puzzle) (t : List Move) (ls : List Level) (down : Bool) → AreLed p [] t ls
    → (down ≡ false → IsSolved p t ls) → IsRowOf (whole p) (row_from p ls down)
is_row p t ls true a solved =
    let row = row_at p ls in
    subst (IsRowOf (whole p)) (append-nil row) (leads_row (whole p) row (residual_of p t) [] (led_leads p t ls a) tt)
is_row p t ls false a solved =
    let at = solved refl in
    let none : branch_item (residual_of p t) ≡ None =
    grind (arith, mapped_none, choice_is_branch_item p t (at.standing.searchable refl).legal, at.none) in
    leads_row (whole p) (row_at p ls) (residual_of p t) (0 ∷ []) (led_leads p t ls a) (none, refl)

-- and so is that where a search begins
pub first_node : (p : Puzzle) (t : List Move) (ls : List Level) (reaches within : Bool)
    → (reaches ≡ true → AreLed p [] t ls) → (ended : Bool) → ended ≡ not reaches || not within
    → IfSome (cond ended None (Some (row_at p ls))) (λ row. IsRowOf (whole p) row)
first_node p t ls true within led ended e = by_bool ended (λ h. rw h tt) (λ h.
    rw h (is_row p t ls true (led refl) (λ i. absurd (cc i))))
first_node p t ls false within led ended e = rw e tt

-- ======== The rows of a tree are ranked from the first on, and so no more than it has can rise.

-- ---- sums over the first branches

sum_within : {X : Type 0} (f : X → ℕ) (xs : List X) (j : ℕ) (x : X) → slice_get xs j ≡ Some x
    → sum_by f (take j xs) + f x ≤ sum_by f xs
sum_within f [] j x at = absurd (cc at)
sum_within f (y ∷ xs) zero x at = let same : y ≡ x = cc at in omega (arith, ap f same, sum_by-cons f y xs)
sum_within f (y ∷ xs) (suc j) x at =
    omega (arith, sum_within f xs j x at, sum_by-cons f y xs, sum_by-cons f y (take j xs))

sum_before : {X : Type 0} (f : X → ℕ) (xs : List X) (j k : ℕ) (x : X) → slice_get xs j ≡ Some x → j < k
    → sum_by f (take j xs) + f x ≤ sum_by f (take k xs)
sum_before f [] j k x at less = absurd (cc at)
sum_before f (y ∷ xs) j zero x at less = absurd (omega (arith, less))
sum_before f (y ∷ xs) zero (suc k) x at less =
    let same : y ≡ x = cc at in omega (arith, ap f same, sum_by-cons f y (take k xs))
sum_before f (y ∷ xs) (suc j) (suc k) x at less = omega (
  arith,
  sum_before f xs j k x at (omega (arith, less)),
  sum_by-cons f y (take k xs),
  sum_by-cons f y (take j xs),
)

there : {X : Type 0} (xs : List X) (k : ℕ) → suc k ≤ length xs → (x : X) × (slice_get xs k ≡ Some x)
there [] k h = absurd (omega (arith, h))
there (x ∷ xs) zero h = (x, refl)
there (x ∷ xs) (suc k) h = there xs k (omega (arith, h))

-- ---- how many rows there are

sum-same : (f g : Residual → ℕ) (bs : List Branch) → AllByRecursion (λ b. f b.next ≡ g b.next) bs
    → sum_by (λ b. f b.next) bs ≡ sum_by (λ b. g b.next) bs
sum-same f g [] h = refl
sum-same f g (b ∷ bs) h = omega (
  arith,
  h.0,
  sum-same f g bs h.1,
  sum_by-cons (λ (b : Branch). f b.next) b bs,
  sum_by-cons (λ (b : Branch). g b.next) b bs,
)

rows_unrolled : (r : Residual) → row_count r ≡ level_rows row_count (branch_item r) r
unfolding row_count rows_to
rows_unrolled r = by_depth {level = level_rows} {to = rows_to} (record {
  local = λ f g w r h. ap (λ n. 1 + n) (sum-same f g (branches_of r w) h);
  last = λ f r. refl;
  next = λ depth r. refl;
}) r

rows_at : (r : Residual) (o : Option Wanted) → branch_item r ≡ o → row_count r ≡ level_rows row_count o r
rows_at r o e = rows_unrolled r ∙ ap (λ o. level_rows row_count o r) e

some_level : (o : Option Wanted) (r : Residual) → 0 < level_rows row_count o r
some_level None r = omega arith
some_level (Some w) r = omega arith

some_rows : (r : Residual) → 0 < row_count r
some_rows r = rw (rows_unrolled r) (some_level (branch_item r) r)

-- the rows of each branch, and its own
rows_below : (r : Residual) (k : ℕ) → suc k ≤ length (branches_left r)
    → row_count r ≡ 1 + sum_by (λ b. row_count b.next) (branches_left r)
rows_below r k h = by_option (branch_item r)
    (λ e. let none : length (branches_left r) ≡ 0 = rw e refl in absurd (omega (arith, h, none)))
    (λ w e. rows_at r (Some w) e ∙ ap (λ bs. 1 + sum_by (λ (b : Branch). row_count b.next) bs) (sym (left_here r w e)))

-- ---- the rank of a row

abbrev rows_before : Residual → ℕ → ℕ
rows_before r k = sum_by (λ b. row_count b.next) (take k (branches_left r))

abbrev pub rank : Residual → List ℕ → ℕ
rank r [] = 0
rank r (zero ∷ row) = 1
rank r (suc k ∷ row) = 1 + (rows_before r k + rank (left_by_number (suc k) r) row)

-- the branch of a number
record At (r : Residual) (k : ℕ) : Type 0 where
  branch : Branch
  at : slice_get (branches_left r) k ≡ Some branch
  next : left_by_number (suc k) r ≡ branch.next

branch_at : (r : Residual) (k : ℕ) → suc k ≤ length (branches_left r) → At r k
branch_at r k h =
    let x = there (branches_left r) k h in
    let number : suc k - 1 ≡ k = omega arith in
    record { branch = x.0; at = x.1; next = rw (number, x.1) refl }

-- it is below the number of rows
pub rank_within : (r : Residual) (row : List ℕ) → IsRowOf r row → rank r row < row_count r
rank_within r [] h = some_rows r
rank_within r (zero ∷ row) h = omega (arith, rows_at r None h.0)
rank_within r (suc k ∷ row) h =
    let b = branch_at r k h.0 in
    omega (
      arith,
      rank_within (left_by_number (suc k) r) row h.1,
      ap row_count b.next,
      rows_below r k h.0,
      sum_within (λ (b : Branch). row_count b.next) (branches_left r) k b.branch b.at,
    )

-- and rises with the row
pub rank_rises : (r : Residual) (a b : List ℕ) → IsRowOf r a → IsRowOf r b → precedes a b ≡ true → rank r a < rank r b
rank_rises r a [] h i e = absurd (cc e)
rank_rises r [] (zero ∷ b) h i e = omega arith
rank_rises r [] (suc k ∷ b) h i e = omega arith
rank_rises r (zero ∷ a) (zero ∷ b) h i e = elim (before_first zero zero a b e) [
  | inl less ↦ absurd (omega (arith, less))
  | inr rest ↦ let last : precedes a [] ≡ true = rw i.1 at rest.1 in absurd (cc last)
]
rank_rises r (zero ∷ a) (suc k ∷ b) h i e =
    let none : length (branches_left r) ≡ 0 = rw h.0 refl in absurd (omega (arith, i.0, none))
rank_rises r (suc j ∷ a) (zero ∷ b) h i e = elim (before_first (suc j) zero a b e) [
  | inl less ↦ absurd (omega (arith, less))
  | inr rest ↦ absurd (omega (arith, rest.0))
]
rank_rises r (suc j ∷ a) (suc k ∷ b) h i e = elim (before_first (suc j) (suc k) a b e) [
  | inl less ↦
      let x = branch_at r j h.0 in
      omega (
        arith,
        rank_within (left_by_number (suc j) r) a h.1,
        ap row_count x.next,
        sum_before (λ (b : Branch). row_count b.next) (branches_left r) j k x.branch x.at (omega (arith, less)),
      )
  | inr rest ↦
      let same : suc j ≡ suc k = rest.0 in
      let number : j ≡ k = omega (arith, same) in
      let there : IsRowOf (left_by_number (suc j) r) b = rw number i.1 in
      omega (
        arith,
        rank_rises (left_by_number (suc j) r) a b h.1 there rest.1,
        ap (rows_before r) number,
        ap (λ k. rank (left_by_number (suc k) r) b) number,
      )
]

-- ---- rows that rise are no more

pub rows_end : (p : Puzzle) (from : List ℕ) (rows : List (List ℕ)) → IsRowOf (whole p) from → RowsGoOn p from rows
    → length rows < row_count (whole p)
rows_end p from rows h on = omega (arith, ranked from rows h on)
  where
    ranked : (from : List ℕ) (rows : List (List ℕ)) → IsRowOf (whole p) from → RowsGoOn p from rows
        → rank (whole p) from + length rows < row_count (whole p)
    ranked from [] h on = omega (arith, rank_within (whole p) from h)
    ranked from (next ∷ rows) h on =
        omega (arith, ranked next rows on.0 on.2, rank_rises (whole p) from next h on.0 on.1)

-- ======== What a node of the search's tree has in the listing before it, below it and behind it.

-- a member comes before each row that begins with r, or before none
abbrev pub IsBefore : List ℕ → List Choice → Type 0
IsBefore r m = (x : List ℕ) → precedes (row_of m) (r ++ x) ≡ true

abbrev pub IsBehind : List ℕ → List Choice → Type 0
IsBehind r m = (x : List ℕ) → precedes (row_of m) (r ++ x) ≡ false

-- A node of the search's tree is reached by a path and leaves r. Behind the members below it stand these.
pub record LiesAt (p : Puzzle) (path : List Choice) (r : Residual) (after : List (List Choice)) : Type 0 where
  pub front : List (List Choice)
  pub all : members p ≡ front ++ (map (λ m. path ++ m) (listing r) ++ after)
  pub before : AllByRecursion (IsBefore (row_of path)) front
  pub behind : AllByRecursion (IsBehind (row_of path)) after

lies_first : (p : Puzzle) → LiesAt p [] (whole p) []
lies_first p = record {
  front = [];
  all = sym (append-nil (map (λ m. m) (members p)) ∙ map-id (members p));
  before = tt;
  behind = tt;
}

pub each-flat_map : {X Y : Type 0} (P : Y → Type 0) (f : X → List Y) (xs : List X)
    → AllByRecursion (λ x. AllByRecursion P (f x)) xs → AllByRecursion P (flat_map f xs)
each-flat_map P f [] a = tt
each-flat_map P f (x ∷ xs) a = each-append P (f x) (flat_map f xs) a.0 (each-flat_map P f xs a.1)

-- of what is numbered by its place the first k, and the rest
pub numbered_before : {X : Type 0} (f : X → ℕ) (n k : ℕ) (xs : List X)
    → ((j : ℕ) (x : X) → slice_get xs j ≡ Some x → f x ≡ n + suc j)
    → AllByRecursion (λ x. (n < f x) × (f x ≤ n + k)) (take k xs)
numbered_before f n zero xs h = tt
numbered_before f n (suc k) [] h = tt
numbered_before f n (suc k) (x ∷ xs) h = (
  (omega (arith, h 0 x refl), omega (arith, h 0 x refl)),
  each_weaker _ _ (take k xs) (λ y l. (omega (arith, l.0), omega (arith, l.1)))
      (numbered_before f (suc n) k xs (λ j y e. omega (arith, h (suc j) y e))),
)

numbered_behind : {X : Type 0} (f : X → ℕ) (n k : ℕ) (xs : List X)
    → ((j : ℕ) (x : X) → slice_get xs j ≡ Some x → f x ≡ n + suc j) → AllByRecursion (λ x. n + k < f x) (drop k xs)
numbered_behind f n k [] h = nothing k
  where
    nothing : (k : ℕ) → AllByRecursion (λ x. n + k < f x) (drop k [])
    nothing zero = tt
    nothing (suc k) = tt
numbered_behind f n zero (x ∷ xs) h = (
  omega (arith, h 0 x refl),
  each_weaker _ _ xs (λ y l. omega (arith, l))
      (numbered_behind f (suc n) zero xs (λ j y e. omega (arith, h (suc j) y e))),
)
numbered_behind f n (suc k) (x ∷ xs) h =
    each_weaker _ _ (drop k xs) (λ y l. omega (arith, l))
    (numbered_behind f (suc n) k xs (λ j y e. omega (arith, h (suc j) y e)))

-- the row of a member below a branch
pub branch_row : (path m : List Choice) (c : Choice) → row_of (path ++ c ∷ m) ≡ row_of path ++ c.k ∷ row_of m
branch_row path m c = map-append (λ c. c.k) path (c ∷ m)

branch_before : (path : List Choice) (k : ℕ) (b : Branch) → b.choice.k < k
    → AllByRecursion (IsBefore (row_of path ++ k ∷ [])) (map (λ m. path ++ b.choice ∷ m) (listing b.next))
branch_before path k b h =
    each-map (IsBefore (row_of path ++ k ∷ [])) (λ m. path ++ b.choice ∷ m) (listing b.next)
    (each_of_all _ (listing b.next) (λ m x.
    rw (branch_row path m b.choice, append_assoc (row_of path) (k ∷ []) x)
    (same_beginning (row_of path) (b.choice.k ∷ row_of m) (k ∷ x) ∙ less_before b.choice.k k (row_of m) x h)))

branch_behind : (path : List Choice) (k : ℕ) (b : Branch) → k < b.choice.k
    → AllByRecursion (IsBehind (row_of path ++ k ∷ [])) (map (λ m. path ++ b.choice ∷ m) (listing b.next))
branch_behind path k b h =
    each-map (IsBehind (row_of path ++ k ∷ [])) (λ m. path ++ b.choice ∷ m) (listing b.next)
    (each_of_all _ (listing b.next) (λ m x.
    rw (branch_row path m b.choice, append_assoc (row_of path) (k ∷ []) x)
    (same_beginning (row_of path) (b.choice.k ∷ row_of m) (k ∷ x) ∙ less_behind b.choice.k k (row_of m) x h)))

-- the members of these branches, about the one at a place
members_at : (path : List Choice) (bs : List Branch) (j : ℕ) (b : Branch) → slice_get bs j ≡ Some b →
    branch_members path bs ≡ branch_members path (take j bs)
    ++ (map (λ m. (path ++ b.choice ∷ []) ++ m) (listing b.next) ++ branch_members path (drop (suc j) bs))
members_at path bs j b e =
    ap (branch_members path) (sym (take-append-drop j bs) ∙ ap (λ x. take j bs ++ x) (drop_at bs j b e))
    ∙ flat_map-append _ (take j bs) (b ∷ drop (suc j) bs)
    ∙ ap (λ x. branch_members path (take j bs) ++ (x ++ branch_members path (drop (suc j) bs)))
    (map-same _ _ (listing b.next) (λ m. sym (append_assoc path (b.choice ∷ []) m)))

-- a node one branch further down
lies_next : (p : Puzzle) (path : List Choice) (r : Residual) (after : List (List Choice)) → LiesAt p path r after
    → (w : Wanted) → listing r ≡ level listing (Some w) r → (k : ℕ) (b : Branch)
    → slice_get (branches_of r w) (k - 1) ≡ Some b → b.choice.k ≡ k →
    LiesAt p (path ++ b.choice ∷ []) b.next (branch_members path (drop k (branches_of r w)) ++ after)
lies_next p path r after l w e k b at number =
    let bs = branches_of r w in
    let some : suc (k - 1) ≡ k = omega (arith, number, (number_at r w (k - 1) b at).1) in
    let numbers : (j : ℕ) (x : Branch) → slice_get bs j ≡ Some x → x.choice.k ≡ 0 + suc j =
    λ j x q. omega (arith, (number_at r w j x q).1) in
    let row : row_of (path ++ b.choice ∷ []) ≡ row_of path ++ k ∷ [] =
    branch_row path [] b.choice ∙ ap (λ k. row_of path ++ k ∷ []) number in
    let here : map (λ m. path ++ m) (listing r) ≡ branch_members path bs =
    ap (map (λ m. path ++ m)) e ∙ members_all path bs in
    let mid = map (λ m. (path ++ b.choice ∷ []) ++ m) (listing b.next) in
    let split : branch_members path bs ≡ branch_members path (take (k - 1) bs) ++ (mid
    ++ branch_members path (drop k bs)) =
    members_at path bs (k - 1) b at
    ∙ ap (λ n. branch_members path (take (k - 1) bs) ++ (mid ++ branch_members path (drop n bs))) some in
    record {
      front = l.front ++ branch_members path (take (k - 1) bs);
      all = l.all ∙ ap (λ x. l.front ++ (x ++ after)) (here ∙ split) ∙ grind (arith, common_steps);
      before = rw row (each-append _ l.front _
          (each_weaker (IsBefore (row_of path)) (IsBefore (row_of path ++ k ∷ [])) l.front
          (λ m h x. rw (append_assoc (row_of path) (k ∷ []) x) (h (k ∷ x))) l.before)
          (each-flat_map _ _ (take (k - 1) bs) (each_weaker _ _ (take (k - 1) bs)
          (λ x h. branch_before path k x (omega (arith, h.1, some)))
          (numbered_before (λ (b : Branch). b.choice.k) 0 (k - 1) bs numbers))));
      behind = rw row (each-append _ (branch_members path (drop k bs)) after
          (each-flat_map _ _ (drop k bs) (each_weaker _ _ (drop k bs)
          (λ x h. branch_behind path k x (omega (arith, h)))
          (numbered_behind (λ (b : Branch). b.choice.k) 0 k bs numbers)))
          (each_weaker (IsBehind (row_of path)) (IsBehind (row_of path ++ k ∷ [])) after
          (λ m h x. rw (append_assoc (row_of path) (k ∷ []) x) (h (k ∷ x))) l.behind));
    }

-- an item that may lead lists what is left
pub lists_by : (x : Bool) (p : Puzzle) (t : List Move) (i : ℕ) → MayLead x p t i
    → listing (residual_of p t) ≡ level listing (Some (wanted_at p t i)) (residual_of p t)
lists_by true p t i leads = listing_at (residual_of p t) (Some (wanted_at p t i)) leads
lists_by false p t i leads = leads.0

pub led_lies : (x : Bool) (p : Puzzle) (t : List Move) (ls : List Level) → AreLedBy x p [] t ls
    → LiesAt p (choices_of p ls) (residual_of p t) (to_give p t ls)
unfolding branches_at
led_lies x p t [] a = rw a (rw (no_moves_leave_all p) (lies_first p))
led_lies x p t (l ∷ ls) a =
    let u = oldest l.mark t in
    let number : a.0.branch.choice.k ≡ l.begun = sym (ap (λ (c : Choice). c.k) a.0.choice) in
    let next = lies_next p (choices_of p ls) (residual_of p u) (to_give p u ls) (led_lies x p u ls a.1)
    (wanted_at p u l.item)
    (lists_by x p u l.item a.0.leads) l.begun a.0.branch a.0.at number in
    rw (choices_more p l ls, a.0.choice, a.0.next) next

-- ---- spans that begin there

-- of the members below a node none comes before it
below_from : (path : List Choice) (ms : List (List Choice))
    → AllByRecursion (λ m. is_within (row_of path) None m ≡ true) (map (λ m. path ++ m) ms)
below_from path ms = each-map _ (λ m. path ++ m) ms (each_of_all _ ms (λ m.
    let here : precedes (row_of (path ++ m)) (row_of path) ≡ false =
    ap₂ precedes (map-append (λ c. c.k) path m) (sym (append-nil (row_of path)))
    ∙ same_beginning (row_of path) (row_of m) [] in
    rw here refl))

-- from the node on
pub lies_from : {p : Puzzle} {path : List Choice} {r : Residual} {after : List (List Choice)} → LiesAt p path r after
    → between p (row_of path) None ≡ map (λ m. path ++ m) (listing r) ++ after
lies_from {p} {path} {r} {after} l =
    let t = is_within (row_of path) None in
    let mid = map (λ m. path ++ m) (listing r) in
    let none : filter t l.front ≡ [] = keep_none t l.front (each_weaker _ _ l.front (λ m h.
    let e : precedes (row_of m) (row_of path) ≡ true =
    ap (precedes (row_of m)) (sym (append-nil (row_of path))) ∙ h [] in rw e refl) l.before) in
    let behind : filter t after ≡ after = keep_all t after (each_weaker _ _ after (λ m h.
    let e : precedes (row_of m) (row_of path) ≡ false =
    ap (precedes (row_of m)) (sym (append-nil (row_of path))) ∙ h [] in rw e refl) l.behind) in
    ap (filter t) l.all ∙ filter-append t l.front (mid ++ after)
    ∙ ap₂ (λ x y. x ++ y) none
    (filter-append t mid after ∙ ap₂ (λ x y. x ++ y) (keep_all t mid (below_from path (listing r))) behind)

-- behind a node that is a solution
pub lies_behind : {p : Puzzle} {path : List Choice} {r : Residual} {after : List (List Choice)} → LiesAt p path r after
    → listing r ≡ [] ∷ [] → between p (row_of path ++ 0 ∷ []) None ≡ after
lies_behind {p} {path} {r} {after} l one =
    let t = is_within (row_of path ++ 0 ∷ []) None in
    let mid = map (λ m. path ++ m) (listing r) in
    let none : filter t l.front ≡ [] = keep_none t l.front (each_weaker _ _ l.front (λ m h. rw (h (0 ∷ [])) refl)
    l.before) in
    let behind : filter t after ≡ after = keep_all t after (each_weaker _ _ after (λ m h. rw (h (0 ∷ [])) refl)
    l.behind) in
    let itself : precedes (row_of (path ++ [])) (row_of path ++ 0 ∷ []) ≡ true =
    ap (λ x. precedes x (row_of path ++ 0 ∷ [])) (map-append (λ c. c.k) path [])
    ∙ same_beginning (row_of path) [] (0 ∷ []) in
    let gone : filter t mid ≡ [] = rw one (rw itself refl) in
    ap (filter t) l.all ∙ filter-append t l.front (mid ++ after)
    ∙ ap₂ (λ x y. x ++ y) none (filter-append t mid after ∙ ap₂ (λ x y. x ++ y) gone behind)
