-- How a level begins, goes on and is shown.
use Rattle.std.proofs.Common.{ℕ, suc, ◌≡◌, ◌+◌, ◌-◌, ◌<◌, ◌≤◌, true, false, cond, List, ◌∷◌, length, min, Some, None}
use Rattle.std.proofs.Common.{refl, sym, ap, ◌∙◌, arith, eqb-true, zero, Option, inl, inr, [], map, drop, lt-ltb}
use Rattle.std.proofs.Common.{le-ltb, ◌⊎◌, reverse, subst, Bool, eqb, filter, ne_eqb, leb-true, ◌++◌, take, get_or}
use Rattle.std.proofs.Common.{length-append, length-drop}
use Rattle.std.proofs.lemmas.Option.{slice_get_within}
use Rattle.std.specs.Prelude.{slice_get, IfSome, is_some, unwrap_or, option_map, Contains, All, nat_le, replicate}
use Rattle.std.specs.List.{AllByRecursion, range_with_len}
use Rattle.std.proofs.lemmas.List.Elements.{All-from_recursion, recursion_from_All, All-take, All-drop}
use Rattle.std.proofs.lemmas.List.{reverse-append}
use Rattle.std.proofs.lemmas.Bool.{leb-false, eqb-false}
use Rattle.std.proofs.lemmas.List.Sums.{length-filter}
use Rattle.std.proofs.lemmas.Grind.{common_steps}
use Rattle.xc_input.specs.Problem.{Puzzle, Numbered, high_at, numbered_get, holds, IsValid, primary_count, colour_in}
use Rattle.xc_input.specs.Problem.{IsPrimary, IsSoundUse}
use Rattle.xc_input.specs.declared.problem.Use.{Use}
use Rattle.xc_input.specs.declared.problem.Bounds.{Bounds}
use Rattle.xc_input.proofs.TokenLemmas.{numbered_get-at}
use Rattle.xc_text.proofs.ListLemmas.{each-filter, and_left, mapped_some, not_some, by_option, contains-in, map-in}
use Rattle.xc_text.proofs.ListLemmas.{in-slice_get, by_bool, each_front, each_in, each_weaker, each_at, keep_all}
use Rattle.xc_text.proofs.ListLemmas.{length-filter-le, IsIn, in-map, each_from, in-filter, by_number, mapped_none}
use Rattle.xc_moves.specs.declared.dance.Move.{Move}
use Rattle.xc_moves.specs.declared.dance.Move.TheVariants.{Spend, Tweak}
use Rattle.xc_moves.specs.Moves.{spends, IsLegal, listed, listed_numbers, next_above, AreLegal, is_open, is_covered}
use Rattle.xc_moves.specs.Moves.{open_items, IsOpenPrimary}
use Rattle.xc_moves.specs.Commits.{option_at, after_spend, IsListedAt}
use Rattle.xc_moves.specs.inner.Left.{left}
use Rattle.xc_moves.specs.Dancing.{Dancing, moves_made}
use Rattle.xc_moves.proofs.LeftLemmas.{left_rises, left_free, kept, listed_open}
use Rattle.xc_moves.proofs.MoveLemmas.{rises_filter, Rises, Rises-weaker, numbers, primary_pure}
use Rattle.xc_moves.proofs.PlaceLemmas.{low_most}
use Rattle.xc_search.specs.declared.level.Level.{Level}
use Rattle.xc_search.specs.Listing.{branch_count, Branch, Wanted, listing, Residual, wanted_from, branches_of}
use Rattle.xc_search.specs.Residuals.{wanted_at, choice_after}
use Rattle.xc_search.specs.inner.Levels.{residual_of, take_branch, none_branch, options_at, IsBegun, IsPlace}
use Rattle.xc_search.specs.inner.Levels.{NoTweakAbove, oldest, tweaked, walks, MayBegin, IsEntered, begun_level}
use Rattle.xc_search.specs.inner.Levels.{after_branch, next_number, IsSearchable, IsOptionAt, branches_at, option_taken}
use Rattle.xc_search.specs.inner.Levels.{IsLevelAt, AreStacked, IsShown, chosen, mark_of, IsNext, MayBranch, IsDeadEnd}
use Rattle.xc_search.specs.inner.Levels.{IsEarlyChoice, primary_uses, IsEven, Levels, IsLevel}
use Rattle.xc_search.specs.Room.{room_for}
use Rattle.xc_search.specs.declared.level.Begun.{Begun}
use Rattle.xc_search.specs.Marks.{marked, IsMark}
use Rattle.xc_search.specs.inner.Ahead.{IsStuck, MayLead, IsSolved}
use Rattle.xc_search.specs.inner.Spanning.{Stands}
use Rattle.xc_search.proofs.MoveLemmas.{plain_above, plain_branch, sparing_taken, sparing_none, sparing_after_spend}
use Rattle.xc_search.proofs.MoveLemmas.{spent_tweaked, taken, none_taken, legal_after_none, legal_branch, has_room}
use Rattle.xc_search.proofs.MoveLemmas.{oldest_all, listed_branch}
use Rattle.xc_search.proofs.ListingLemmas.{branch_takes, branch_none, dead_end, IsLast, last_members, numbered_at}
use Rattle.xc_search.proofs.ListingLemmas.{AreApart, apart_from_pairs, no_items_left, branches_end}
use Rattle.xc_search.proofs.LoopSteps.{Extends, ext_none, ext_more, ext_trans, ext_after_spend, ext_whole, ext_longer}
use Rattle.xc_search.proofs.LoopSteps.{length-oldest, open_in, ext_after_branch, tweaked_at, ground_is, choice_next}
use Rattle.xc_search.proofs.LoopSteps.{chosen_item, may_choose, Opens}
use Rattle.xc_search.proofs.ResidualLemmas.{counts_same, in_range, once_more, left_options, open_if}
use Rattle.xc_search.proofs.ResidualLemmas.{choice_is_branch_item, no_moves_leave_all, same_count}
use Rattle.xc_search.proofs.MoveLemmas as branch_moves

-- ======== The next branch of a level.

ext_tweaked : (m i : ℕ) (s : List Move) → Extends (tweaked m i s) s
ext_tweaked zero i s = ext_none
ext_tweaked (suc m) i s = ext_more (ext_tweaked m i s)

pub covered_walks : (p : Puzzle) (u : List Move) (i : ℕ) → walks p u i ≡ true → high_at p i - spends i (Spend i ∷ u) ≡ 0
covered_walks p u i e = eqb-true _ _ (and_left _ _ e)

-- The next branch of level l takes option o, if one, behind m tweaks: what is known of its moves.
record Makes (p : Puzzle) (t : List Move) (l : Level) (m : ℕ) (o : Option ℕ) : Type 0 where
  pub branch : Branch
  pub at : slice_get (branches_at p (oldest l.mark t) l.item) l.begun ≡ Some branch
  pub choice : branch.choice ≡ record { item = l.item; option = o; k = l.begun + 1; n = l.count }
  pub tweaks : m ≡ cond l.walks 0 (min (l.begun + 1) (length (options_at p (oldest l.mark t) l.item)))
  pub next : residual_of p (after_branch p l.item o (tweaked_at p t l m)) ≡ branch.next
  pub searchable : IsSearchable p (after_branch p l.item o (tweaked_at p t l m))
  pub option : IfSome o (IsOptionAt p l.item)

-- Of level l the moves stand, and a branch wasn't begun.
module _ {p : Puzzle} {t : List Move} {l : Level} (may : MayBegin p t l) where
  makes_option : (m : ℕ) (x : Numbered) → slice_get (options_at p (oldest l.mark t) l.item) l.begun ≡ Some x
      → m ≡ cond l.walks l.tweaks (l.tweaks + 1) → Makes p t l m (Some x.number)
  unfolding branches_at
  makes_option m x e more =
      let u = oldest l.mark t in
      let r = residual_of p u in
      let level = may.level in
      let within = slice_get_within (options_at p u l.item) l.begun x e in
      let took = taken p u l.item l.begun m x level.node e
      (λ h. let used_up = covered_walks p u l.item in grind (arith, level.walking))
      (grind (arith)) in
      record {
        branch = take_branch r l.item (branch_count r (wanted_at p u l.item)) (1 + l.begun, x);
        at = branch_takes r (wanted_at p u l.item) l.begun x (omega (arith, may.more, level.count)) e;
        choice = grind (arith, level.count);
        tweaks = grind (arith, level.tweaks);
        next = took.picked.residual;
        searchable = grind (arith, sparing_taken);
        option = took.at;
      }

  makes_none : slice_get (options_at p (oldest l.mark t) l.item) l.begun ≡ None → Makes p t l l.tweaks None
  unfolding branches_at
  makes_none e =
      let u = oldest l.mark t in
      let r = residual_of p u in
      let level = may.level in
      let last = branch_none r (wanted_at p u l.item) l.begun (omega (arith, may.more, level.count)) e in
      let few : l.tweaks ≤ length (options_at p u l.item) = grind (arith, level.tweaks) in
      let gone = none_taken p u l.item l.tweaks level.node in
      let known = open_in p u l.item level.node.item level.node.is_open in
      let sparing = sparing_none p u l.item l.tweaks level.node.searchable.sparing known gone in
      record {
        branch = none_branch r l.item (branch_count r (wanted_at p u l.item));
        at = last.0;
        choice = grind (arith, last.2, level.count);
        tweaks = grind (arith, level.tweaks, not_some (options_at p u l.item) l.begun e);
        next = gone;
        searchable = grind (arith, legal_after_none, legal_branch, u, few, each-filter, gone, sparing);
        option = tt;
      }

  -- it is entered, and then stands on the moves s
  pub entered : (s : List Move) (b : Begun) → option_at p l.item b.place ≡ next_number p t l → IsPlace p l.item b.place
      → b.tweaks ≡ cond (is_some (next_number p t l)) (cond l.walks l.tweaks (l.tweaks + 1)) l.tweaks
      → b.begun ≡ l.begun + 1 → b.base ≡ length s → s ≡ tweaked_at p t l b.tweaks → IsEntered p t l s (begun_level b l)
  entered s b at place more begun base stands =
      let u = oldest l.mark t in
      let o = next_number p t l in
      let made : Makes p t l b.tweaks o = by_option (slice_get (options_at p u l.item) l.begun)
      (λ e. rw (e, rw e at more) (makes_none e)) (λ x e. rw e (makes_option b.tweaks x e (rw e at more))) in
      let ground = tweaked_at p t l b.tweaks in
      let own : b.base ≡ length ground = base ∙ ap length stands in
      let ext_ground = ext_trans (ext_tweaked b.tweaks l.item (after_spend p l.item u)) (ext_after_spend p l.item u) in
      let ext_v = ext_after_branch p l.item o ground in
      let v = after_branch p l.item o ground in
      let mark_is : length u ≡ l.mark = length-oldest l.mark t (omega (arith, may.level.within)) in
      let above : NoTweakAbove b.base v = rw own (plain_above (plain_branch p l.item o ground)) in
      let under : oldest l.mark v ≡ u = ap (λ n. oldest n v) (sym mark_is) ∙ ext_whole (ext_trans ext_v ext_ground) in
      let all : IsBegun p t l v (begun_level b l) = record {
        branch = made.branch;
        at = made.at;
        next = made.next;
        choice = cc (at, begun, made.choice);
        begun = omega (arith, begun);
        mark = refl;
        item = refl;
        below = under;
        level = rw under
            (grind (arith, may.level, ext_longer, ext_ground, ext_v, ext_whole, numbered_get-at, above));
        searchable = made.searchable;
      } in
      grind (arith, has_room)

  -- another tweak may be made where an option is left
  pub may_tweak : (o : ℕ) → l.walks ≡ false → next_number p t l ≡ Some o
      → IsLegal p t (Tweak l.item) × (length t < room_for p)
  may_tweak o c e =
      let u = oldest l.mark t in
      let node = may.level.node in
      let found = mapped_some (λ (x : Numbered). x.number) _ o e in
      let within = slice_get_within (options_at p u l.item) l.begun found.0 found.1 in
      let stood : l.tweaks ≡ min l.begun (length (options_at p u l.item)) = may.level.tweaks ∙ rw c refl in
      let legal = legal_branch p (suc l.tweaks) l.item u node (omega (arith, stood, within)) in
      let few = sparing_after_spend p u l.item node.searchable.sparing (open_in p u l.item node.item node.is_open) in
      let room = has_room p (tweaked_at p t l (suc l.tweaks)) legal (omega (arith, spent_tweaked, few)) in
      rw (ground_is may.level may.whole) (legal.0, omega (arith, room))

-- ======== The option that a level's next branch takes.

abbrev number_of : Numbered → ℕ
number_of o = o.number

-- behind the first k options, which rise from n, the first above n is at place k
first_behind : (n : ℕ) (os : List Numbered) (k : ℕ) → Rises n (numbers os)
    → next_above n (map number_of (drop k os)) ≡ option_map number_of (slice_get os k)
first_behind n [] zero r = refl
first_behind n [] (suc k) r = refl
first_behind n (o ∷ os) zero r = rw (lt-ltb n o.number r.0) refl
first_behind n (o ∷ os) (suc k) r = first_behind n os k (Rises-weaker n o.number (numbers os) (omega (arith, r.0)) r.1)

-- the number of the last of the first k options, n where there is none
abbrev last_number : ℕ → List Numbered → ℕ → ℕ
last_number n os k = unwrap_or (option_map number_of (numbered_get os k)) n

above_last : (n : ℕ) (os : List Numbered) (k : ℕ) → Rises n (numbers os) → k ≤ length os → (n ≤ last_number n os k)
    × (next_above (last_number n os k) (map number_of os) ≡ option_map number_of (slice_get os k))
above_last n [] zero r h = (omega arith, refl)
above_last n [] (suc k) r h = absurd (omega (arith, h))
above_last n (o ∷ os) zero r h = grind (arith, lt-ltb)
above_last n (o ∷ os) (suc zero) r h = grind (arith, above_last o.number os 0 r.1, le-ltb)
above_last n (o ∷ os) (suc (suc k)) r h = grind (arith, le-ltb, not_some, above_last o.number os (suc k) r.1)

last_in : (os : List Numbered) (k : ℕ) → (last_number 0 os k ≡ 0) ⊎ Contains (map number_of os) (last_number 0 os k)
last_in os zero = inl refl
last_in os (suc k) = by_option (slice_get os k) (λ e. rw e (inl refl))
    (λ x e. rw e (inr (contains-in _ _ (map-in number_of os x (in-slice_get os k x e)))))

-- the option of number n, counted from 1, stands at the place before
pub last_taken : (os : List Numbered) (n o : ℕ) → option_map (λ (x : Numbered). x.number) (numbered_get os n) ≡ Some o
    → (k : ℕ) × (x : Numbered) × (n ≡ suc k) × (slice_get os k ≡ Some x) × (x.number ≡ o)
last_taken os zero o e = cc
last_taken os (suc k) o e = let x = mapped_some number_of (slice_get os k) o e in (k, x.0, refl, x.1, x.2)

-- what stands where the code looks below for the next branch's option, and what stands below it
pub record Seeking (p : Puzzle) (t : List Move) (l : Level) (q : ℕ) : Type 0 where
  pub x : ℕ
  pub listed : IsListedAt p t l.item x q
  pub next : next_above x (listed_numbers p t l.item) ≡ next_number p t l

-- the list is walked from the option that was taken last, and else the options that were taken are no more in it
pub seeking : {p : Puzzle} {t : List Move} {l : Level} → MayBegin p t l → (q : ℕ) → q ≡ cond l.walks l.place l.item
    → Seeking p t l q
seeking {p} {t} {l} may q is =
    let level = may.level in
    let u = oldest l.mark t in
    let os = options_at p u l.item in
    let rises = rises_filter (λ o. holds o l.item) 0 (left p u) (left_rises p u) in
    let few : l.begun ≤ length os = omega (arith, level.count, may.more) in
    let list : listed p t l.item ≡ drop l.tweaks os = grind (arith, oldest_all, listed_branch) in
    by_bool l.walks (λ c. let all : listed p t l.item ≡ os = grind (arith, list, level.tweaks) in
    record {
      x = last_number 0 os l.begun;
      listed = grind (arith, last_in os l.begun);
      next = rw all (above_last 0 os l.begun rises few).1;
    }) (λ c. let rest : listed p t l.item ≡ drop l.begun os = grind (arith, list, level.tweaks) in
    record {
      x = 0;
      listed = record { listed = inl refl; at = is ∙ ap (λ b. cond b l.place l.item) c };
      next = rw rest (first_behind 0 os l.begun rises);
    })

-- ======== The levels of a search show their options.

level_shown : (p : Puzzle) (u t : List Move) (l : Level) → IsLevelAt p u t l → IsShown p l
level_shown p u t l is_level = record {
  item = omega (arith, is_level.node.item);
  option = by_option (option_taken p l) (λ e. rw e tt) (λ o e.
      let last = last_taken (options_at p u l.item) l.begun o (sym is_level.option ∙ e) in
      let x = last.1 in
      let at = (branch_moves.taken p u l.item last.0 (suc last.0) x is_level.node last.3
      (λ _. refl) (omega arith)).at in
      rw e (grind (arith, last, at)));
}

each_shown : (p : Puzzle) (t : List Move) (ls : List Level) → AreStacked p t ls → AllByRecursion (IsShown p) ls
each_shown p t [] s = tt
each_shown p t (l ∷ ls) s = (level_shown p (oldest l.mark t) t l s.0, each_shown p (oldest l.mark t) ls s.2)

pub all_shown : (p : Puzzle) (t : List Move) (ls : List Level) → AreStacked p t ls → All (IsShown p) ls
all_shown p t ls s = All-from_recursion _ _ (each_shown p t ls s)

each_back : {X : Type 0} (P : X → Type 0) (xs : List X) → AllByRecursion P (reverse xs) → AllByRecursion P xs
each_back P [] a = tt
each_back P (x ∷ xs) a =
    let parts = each_front P (reverse xs) (x ∷ []) (subst (AllByRecursion P) (reverse-append (x ∷ []) xs) a) in
    (parts.1.0, each_back P xs parts.0)

-- from the oldest on too
pub shown_back : (p : Puzzle) (ls : List Level) → All (IsShown p) (reverse ls) → All (IsShown p) ls
shown_back p ls a = All-from_recursion _ _ (each_back (IsShown p) ls (recursion_from_All _ _ a))

-- the choices of the levels' marks are theirs
pub marks_chosen : (p : Puzzle) (ls : List Level) → map (marked p) (map mark_of ls) ≡ map (chosen p) ls
marks_chosen p [] = refl
marks_chosen p (l ∷ ls) = cc (marks_chosen p ls)

each_mark : (p : Puzzle) (ls : List Level) → AllByRecursion (IsShown p) ls → AllByRecursion (IsMark p) (map mark_of ls)
each_mark p [] a = tt
each_mark p (l ∷ ls) a = (record { item = a.0.item; option = a.0.option }, each_mark p ls a.1)

-- the marks of levels that are shown are right
pub marks_right : (p : Puzzle) (ls : List Level) → All (IsShown p) ls → All (IsMark p) (map mark_of ls)
marks_right p ls a = All-from_recursion _ _ (each_mark p ls (recursion_from_All _ _ a))

-- ======== A choice that is made early: where some item has no branches, any open item lists the same, nothing.

dead_next : (p : Puzzle) (t : List Move) (o : Option (ℕ × ℕ)) → IsValid p → AreLegal p t → IsDeadEnd p t o
    → IsNext p t o
dead_next p t o valid legal d =
    let r = residual_of p t in
    let same = counts_same p t legal in
    let known = open_in p t d.item d.is_open.0 d.is_open.1 in
    let short = open_in p t d.short d.short_open.0 d.short_open.1 in
    let may : MayBranch p t d.item d.count = record {
      item = d.is_open.0;
      is_open = d.is_open.1;
      count = d.counted ∙ each_in _ _ _ same known;
      lists = dead_end r (wanted_at p t d.item) (wanted_at p t d.short) short
          (omega (arith, low_most d.short valid)) (sym (each_in _ _ _ same short) ∙ d.without) (ap (wanted_at p t));
    } in
    record { some = rw d.is may; none = λ n. absurd (cc (n, d.is)) }

pub early_next : (p : Puzzle) (t : List Move) (o : Option (ℕ × ℕ)) → IsValid p → AreLegal p t → IsEarlyChoice p t o
    → IsNext p t o
early_next p t o valid legal (inl e) = choice_next p t o legal e
early_next p t o valid legal (inr d) = dead_next p t o valid legal d

-- an item that is chosen early may lead
pub early_leads : (p : Puzzle) (t : List Move) (i n : ℕ) → IsValid p → AreLegal p t → IsEarlyChoice p t (Some (i, n))
    → MayLead false p t i
early_leads p t i n valid legal (inl e) =
    ((may_choose p t i n legal (sym e)).lists, inl (chosen_item p t i n legal (sym e)).branch)
early_leads p t i n valid legal (inr d) =
    let next : MayBranch p t i n = (dead_next p t (Some (i, n)) valid legal d).some in
    let short = open_in p t d.short d.short_open.0 d.short_open.1 in
    let stuck : IsStuck (residual_of p t) = record {
      item = wanted_at p t d.short;
      known = contains-in _ _ short;
      sound = omega (arith, low_most d.short valid);
      without = sym (each_in _ _ _ (counts_same p t legal) short) ∙ d.without;
    } in
    (next.lists, inr (stuck, omega (arith, next.count, same_count d.is, d.few)))

-- where the branch item has no branches, what is left has no members
pub none_at_item : (p : Puzzle) (t : List Move) (i : ℕ) → AreLegal p t → choice_after p t ≡ Some (i, 0)
    → listing (residual_of p t) ≡ []
none_at_item p t i legal e =
    let may = may_choose p t i 0 legal e in
    let r = residual_of p t in
    let w = wanted_at p t i in
    let none : branches_of r w ≡ [] = ap (λ n. drop n (branches_of r w)) may.count ∙ branches_end r w in
    may.lists ∙ rw none refl

-- ======== Where each option holds as many primary items as are open, each option that is left holds all of them.

-- ---- how many numbers are held

-- of so many numbers from k on, how many are those of items that these uses hold
abbrev held : List Use → ℕ → ℕ → ℕ
held us k len = length (filter (λ i. is_some (colour_in us i)) (range_with_len k len))

held_none : (k len : ℕ) → held [] k len ≡ 0
held_none k zero = refl
held_none k (suc len) = held_none (k + 1) len

same_held : (u : Use) (us : List Use) (k len : ℕ) → (k ≤ u.item → k + len ≤ u.item)
    → held (u ∷ us) k len ≡ held us k len
same_held u us k zero h = refl
same_held u us k (suc len) h =
    let other : eqb u.item k ≡ false = ne_eqb u.item k (λ e. absurd (omega (arith, e, h))) in
    let rest = same_held u us (k + 1) len (λ q. omega (arith, h (omega (arith, q)))) in
    by_bool (is_some (colour_in us k)) (λ q. rw (other, q) (ap suc rest)) (λ q. rw (other, q) rest)

more_held : (u : Use) (us : List Use) (k len : ℕ) → colour_in us u.item ≡ None → k ≤ u.item → u.item < k + len
    → held (u ∷ us) k len ≡ suc (held us k len)
more_held u us k zero none low high = absurd (omega (arith, low, high))
more_held u us k (suc len) none low high = by_bool (eqb u.item k)
    (λ e. let same = eqb-true u.item k e in
    let not_held : is_some (colour_in us k) ≡ false = rw (← same, none) refl in
    rw (e, not_held) (ap suc (same_held u us (k + 1) len (λ q. absurd (omega (arith, q, same))))))
    (λ e. let rest = more_held u us (k + 1) len none (omega (arith, low, eqb-false u.item k e)) (omega (arith, high)) in
    by_bool (is_some (colour_in us k)) (λ q. rw (e, q) (ap suc rest)) (λ q. rw (e, q) rest))

not_held : (us : List Use) (i : ℕ) → AllByRecursion (λ (v : Use). eqb i v.item ≡ false) us → colour_in us i ≡ None
not_held [] i a = refl
not_held (v ∷ us) i a = grind (arith, not_held us i a.1, ne_eqb v.item i, eqb-false)

-- as many as the uses of such items
uses_held : (n : ℕ) (us : List Use) → AreApart us → AllByRecursion (λ (u : Use). 1 ≤ u.item) us
    → held us 1 n ≡ length (filter (λ (u : Use). nat_le u.item n) us)
uses_held n [] a b = held_none 1 n
uses_held n (u ∷ us) a b =
    let rest = uses_held n us a.1 b.1 in
    by_bool (nat_le u.item n)
    (λ e. rw e (more_held u us 1 n (not_held us u.item a.0) b.0 (omega (arith, leb-true u.item n e)) ∙ ap suc rest))
    (λ e. rw e (same_held u us 1 n (λ _. omega (arith, leb-false u.item n e)) ∙ rest))

-- ---- of some numbers

kept_by : (q o : ℕ → Bool) (is : List ℕ) → AllByRecursion (λ i. q i ≡ true → o i ≡ true) is
    → length (filter q (filter o is)) ≡ length (filter q is)
kept_by q o [] a = refl
kept_by q o (i ∷ is) a = grind (arith, kept_by q o is a.1)

all_pass : (q : ℕ → Bool) (is : List ℕ) → length (filter q is) ≡ length is → AllByRecursion (λ i. q i ≡ true) is
all_pass q [] e = tt
all_pass q (i ∷ is) e = by_bool (q i)
    (λ h. (h, all_pass q is (omega (arith, rw h at e))))
    (λ h. absurd (omega (arith, rw h at e, length-filter-le q is)))

-- ---- an option that is left

holds_open : (p : Puzzle) (t : List Move) (x : Numbered) → AreLegal p t → IsIn (left p t) x
    → AllByRecursion (λ i. holds x i ≡ true → is_open i t ≡ true) (range_with_len 1 (primary_count p))
holds_open p t x legal h = each_weaker _ _ _ (λ i within at. by_bool (is_covered i t)
    (λ c. absurd (cc (each_in _ _ _ (left_free p t i c) h, at)))
    (λ c. open_if i t c (primary_pure p i t legal (omega (arith, within))))) (in_range 1 (primary_count p))

left_even : (p : Puzzle) (n : ℕ) → IsEven p n → (t : List Move)
    → AllByRecursion (λ (x : Numbered). primary_uses p x.uses ≡ n) (left p t)
left_even p n even [] = each_from _ _ (λ x h.
    let at = numbered_at 0 p.options x h in each_at _ p.options at.0 x.uses even.each at.3)
left_even p n even (m ∷ t) = kept (λ (x : Numbered). primary_uses p x.uses ≡ n) p t m (left_even p n even t)

holds_all : (p : Puzzle) (t : List Move) (n : ℕ) → IsEven p n → IsSearchable p t → length (open_items p t) ≡ n
    → (x : Numbered) → IsIn (left p t) x → AllByRecursion (λ i. holds x i ≡ true) (open_items p t)
holds_all p t n even s few x h =
    let option = each_in _ _ _ (left_options p s.valid t) h in
    let uses = recursion_from_All _ _ option.sound.sound in
    let apart = apart_from_pairs x.uses option.sound.distinct in
    let counted = uses_held (primary_count p) x.uses apart (each_weaker (IsSoundUse p) (λ
    (u : Use). 1 ≤ u.item) x.uses (λ u a. a.0.0) uses) in
    let size = length-filter (λ (u : Use). nat_le u.item (primary_count p)) x.uses
    ∙ each_in _ _ _ (left_even p n even t) h in
    all_pass (λ i. holds x i) (open_items p t)
    (kept_by (λ i. holds x i) (λ i. is_open i t) _ (holds_open p t x s.legal h) ∙ counted ∙ size ∙ sym few)

is_last : (p : Puzzle) (t : List Move) (n i : ℕ) → IsEven p n → IsSearchable p t → length (open_items p t) ≡ n
    → IsOpenPrimary p t i → IsLast (residual_of p t)
is_last p t n i even s few at = record {
  once = λ w h. let found = in-map (wanted_at p t) (open_items p t) w h in
      subst (λ (w : Wanted). (w.low ≡ 1) × (w.high ≡ 1)) found.2 (once_each found.0 found.1);
  held = λ x w k h. let found = in-map (wanted_at p t) (open_items p t) w h in
      subst (λ (w : Wanted). holds x w.item ≡ true) found.2
      (each_in _ _ _ (holds_all p t n even s few x k) found.1);
  item = wanted_at p t i;
  known = open_in p t i at.0 at.1;
}
  where
    once_each : (j : ℕ) → IsIn (open_items p t) j → ((wanted_at p t j).low ≡ 1) × ((wanted_at p t j).high ≡ 1)
    once_each j k =
        let one = in-filter (λ i. is_open i t) (range_with_len 1 (primary_count p)) j k in
        let within = each_in _ _ j (in_range 1 (primary_count p)) one.0 in
        let primary : IsPrimary p j = (omega (arith, within), omega (arith, within)) in
        let low = once_more p t j (even.once, s.wanted) (primary, one.1) in
        (low, omega (arith, low, even.once j primary))

-- each option of an open item is a member
pub last_counted : (p : Puzzle) (t : List Move) (n i : ℕ) → IsEven p n → IsSearchable p t
    → length (open_items p t) ≡ n → IsOpenPrimary p t i → length (listed p t i) ≡ length (listing (residual_of p t))
last_counted p t n i even s few at =
    let last = is_last p t n i even s few at in
    let all = keep_all (λ o. holds o i) (left p t) (each_from _ _ (λ x h. last.held x (wanted_at p t i) h
    (open_in p t i at.0 at.1))) in
    ap length (listed_open p t s.legal i at.1 ∙ all) ∙ sym (last_members last)

-- ======== What is left of a list whose first value is taken off, as a slice's pattern cuts it: for `put_choices`,
-- and where lines are put on a page.

-- a list behind its first value
abbrev pub behind_first : {X : Type 0} → List X → List X
behind_first xs = take (length xs - 1) (drop 1 xs)

pub cut_first : {X : Type 0} (xs : List X) (d : X) → 1 ≤ length xs → xs ≡ get_or xs 0 d ∷ behind_first xs
cut_first [] d some = absurd (omega (arith, some))
cut_first (x ∷ xs) d some = grind (arith, common_steps)

pub all_behind : {X : Type 0} (P : X → Type 0) (xs : List X) → All P xs → All P (behind_first xs)
all_behind P xs all = All-take P (length xs - 1) (drop 1 xs) (All-drop P 1 xs all)

-- values behind those of the list's front
module _ {X A : Type 0} (f : X → A) (done : List A) (rest : List X) (some : 1 ≤ length rest) where
  pub one_put : (new all : List A) (r : A) (d : X) → new ≡ done ++ r ∷ [] → r ≡ f (get_or rest 0 d)
      → done ++ map f rest ≡ all → new ++ map f (behind_first rest) ≡ all
  one_put new all r d is one whole = grind (arith, common_steps, cut_first, rest, some)

  pub room_left : (levels : List X) (cap : ℕ) → done ++ map f rest ≡ map f levels → length levels ≤ cap
      → length done < cap
  room_left levels cap is room =
      let all : length done + length rest ≡ length levels = grind (arith, common_steps, ap length is) in
      omega (arith, all, some, room)

-- ======== A search that began, and came to a solution or to its end, has made a move.

-- an item's own moves are some
spend_moves : (p : Puzzle) (i : ℕ) (t : List Move) → length t < length (after_spend p i t)
spend_moves p i t = grind arith

-- a level stands on those of its item
level_moved : (p : Puzzle) (t : List Move) (l : Level) → IsLevel p t l → 0 < length t
level_moved p t l at =
    let u = oldest l.mark t in
    omega (
      arith,
      ap length at.base,
      length-append (replicate l.tweaks (Tweak l.item)) (after_spend p l.item u),
      spend_moves p l.item u,
      length-drop (length t - l.base) t,
    )

-- as many levels as some near number are some
pub levels_moved : (p : Puzzle) (t : List Move) (ls : List Level) (n : ℕ) → AreStacked p t ls
    → (ls ≡ [] → 0 < n) → length ls ≡ n → 0 < length t
levels_moved p t [] n stacked far many = absurd (omega (arith, far refl, many))
levels_moved p t (l ∷ ls) n stacked far many = level_moved p t l stacked.0

none_wanted : (bs : List Bounds) → wanted_from 1 bs ≡ [] → length bs ≡ 0
none_wanted [] e = refl
none_wanted (b ∷ bs) e = absurd (cc e)

-- a problem has an item to branch on, so no solution stands on no moves
pub solved_moved : (p : Puzzle) (t : List Move) (ls : List Level) → IsSolved p t ls → 0 < length t
solved_moved p (m ∷ t) ls s = omega arith
solved_moved p [] ls s =
    let here = s.standing.searchable refl in
    let last = mapped_none _ _ (sym (choice_is_branch_item p [] here.legal) ∙ s.none) in
    let none = no_items_left _ _ last in
    let all = ap (λ (r : Residual). r.items) (no_moves_leave_all p) in
    absurd (omega (arith, here.valid.one_primary, none_wanted p.bounds (sym all ∙ none)))

-- a level that ended with no branch begun moved
pub opens_moved : {d e : Dancing} {ls : Levels} {i n : ℕ} {l : Level} → Opens d e ls i n l → (f : Dancing)
    → f ≡ record e { trail = oldest l.mark e.trail; undone = e.undone + (length e.trail - l.mark) }
    → 0 < moves_made f
opens_moved {d} {i = i} o f ef = omega (
  arith,
  ap (λ (l : Level). l.mark) o.level,
  ap (λ (f : Dancing). f.undone) ef,
  ap (λ (e : Dancing). length e.trail) o.spent,
  spend_moves d.puzzle i d.trail,
)

-- where no level stands none was begun
pub none_begun : {first : ℕ} {u : Option (List ℕ)} {d e : Dancing} {ls ks : Levels} {m n begun : ℕ}
    → Stands first u d ls m e ks n begun → ks.levels ≡ [] → begun ≡ 0
none_begun {begun = begun} s none = by_number begun (λ e. e)
    (λ k e. absurd (cc (rw none at (s.later (omega (arith, e))))))
