-- A search of a span runs on, step by step.
use Rattle.std.proofs.Common.{ℕ, ◌≡◌, ◌+◌, ◌*◌, ◌≤◌, arith, suc, true, false, List, [], ◌∷◌, ◌++◌, map, filter, length}
use Rattle.std.proofs.Common.{Option, Some, None, refl, sym, ap, ◌∙◌, append_assoc, append-nil, length-append, drop}
use Rattle.std.proofs.Common.{Bool, reverse, ap₂, ◌≢◌, inl, inr, zero, ◌&&◌}
use Rattle.std.proofs.Math.Nat.{mul-add}
use Rattle.std.specs.Prelude.{not, ◌^◌, ◌-◌, ◌<◌, option_map, slice_get, flat_map}
use Rattle.std.proofs.lemmas.List.{map-append, length-map, reverse-reverse, reverse-append, length-reverse}
use Rattle.std.proofs.lemmas.List.Elements.{filter-append, filter_agree}
use Rattle.std.proofs.Math.Seq.{drop-append-add}
use Rattle.std.proofs.lemmas.Grind.{common_steps}
use Rattle.std.proofs.lemmas.Bool.Decides.{nat_tests}
use Rattle.xc_input.specs.Problem.{Puzzle, holds}
use Rattle.xc_text.proofs.ListLemmas.{each-append, each-map, each_weaker, each_of_all, keep_all, map-map, IsIn}
use Rattle.xc_text.proofs.ListLemmas.{in-contains, contains-in, filter-in, in-map, in-slice_get, filter_both, by_bool}
use Rattle.xc_text.proofs.ListLemmas.{by_number}
use Rattle.xc_moves.specs.declared.dance.Move.{Move}
use Rattle.xc_moves.specs.Dancing.{Dancing, moves_made}
use Rattle.xc_moves.specs.Moves.{AreLegal, open_items}
use Rattle.xc_search.specs.Room.{room_for}
use Rattle.xc_search.specs.declared.choice.Choice.{Choice}
use Rattle.xc_search.specs.declared.level.Level.{Level}
use Rattle.xc_search.specs.Listing.{listing, Wanted, Residual, Branch, branch_count, first_least, branches_of}
use Rattle.xc_search.specs.Listing.{spend_one, level}
use Rattle.xc_search.specs.Spans.{row_of, precedes, is_before, between}
use Rattle.xc_search.specs.inner.Levels.{residual_of, choices_of, coming, to_give, Levels, IsStanding, chosen}
use Rattle.xc_search.specs.inner.Levels.{newest_begun, oldest, branches_at, AreStacked, IsLevel}
use Rattle.xc_search.specs.inner.Spanning.{IsRest, LeavesOut, PassesOver, row_at, from_on, Reaches, RunsTo}
use Rattle.xc_search.specs.inner.Spanning.{Stands, BeginsBranch, Ends, EndsSpan, Settles}
use Rattle.xc_search.specs.inner.Ahead.{AreLed, AreLedBy, AreLater, numbers, IsStuck, IsBranchItem, KeepsToItems}
use Rattle.xc_search.specs.inner.Ahead.{EntersBranch, IsDone, branched}
use Rattle.xc_search.specs.declared.ran.Stop.{Stop}
use Rattle.xc_search.specs.declared.ran.Stop.TheVariants.{Nothing}
use Rattle.xc_search.specs.Cover.{members}
use Rattle.xc_search.specs.declared.level.Begun.{Begun}
use Rattle.xc_search.specs.Residuals.{wanted_at, choice_after}
use Rattle.xc_search.proofs.RowLemmas.{keep_none, less_before, same_beginning, not_before_before, before_either_way}
use Rattle.xc_search.proofs.RowLemmas.{lists_by, not_before, is_within, lies_from, led_lies, not_itself}
use Rattle.xc_search.proofs.EndLemmas.{room_in}
use Rattle.xc_search.proofs.ListingLemmas.{best, best_least, none_listed, still_short, still_without, IsBranchOf}
use Rattle.xc_search.proofs.ListingLemmas.{takes_one, takes_none, in-branches}
use Rattle.xc_search.proofs.ResidualLemmas.{choice_is_branch_item, same_count}

-- ======== Moves for so many branches, and for more.

pub more_moves : (p q : Puzzle) (a b x y z : ℕ) → q ≡ p → x ≤ z + room_for p * a → y ≤ x + room_for q * b
    → y ≤ z + room_for p * (a + b)
more_moves p q a b x y z same h k =
    let l : y ≤ x + room_for p * b = rw same at k in omega (arith, mul-add (room_for p) a b, h, l)

-- and from so many branches on
pub few_moves : (p : Puzzle) (x b c m n : ℕ) → n ≤ m + room_for p * (x + 2) → c ≡ b + x
    → n + room_for p * b ≤ m + room_for p * (c + 2)
few_moves p x b c m n h is =
    let all : b + (x + 2) ≡ c + 2 = omega (arith, is) in
    rw (← all) (omega (arith, mul-add (room_for p) b (x + 2), h))

-- ======== Members that a search of a span passes over.

-- none
pub over_none : (c : ℕ) (until : Option (List ℕ)) (m : ℕ) (ms ns : List (List Choice)) → ms ≡ ns
    → PassesOver c until m m ms ns
over_none c until m ms ns e = record { passed = []; members = e; before = tt; count = λ _. omega arith }

pub over_more : {c : ℕ} {until : Option (List ℕ)} {m n o : ℕ} {ms ns os : List (List Choice)}
    → PassesOver c until m n ms ns → PassesOver c until n o ns os → PassesOver c until m o ms os
over_more {os = os} a b = record {
  passed = a.passed ++ b.passed;
  members = a.members ∙ ap (λ x. a.passed ++ x) b.members ∙ sym (append_assoc a.passed b.passed os);
  before = each-append _ a.passed b.passed a.before b.before;
  count = λ h. omega (arith, a.count h, b.count h, length-append a.passed b.passed);
}

-- all that is left below the levels
pub over_below : (until : Option (List ℕ)) (p : Puzzle) (t : List Move) (ls : List Level) (last c m n : ℕ)
    → IsRest until p ls last c → last < 2 ^ 64 - 1 → m ≡ n + length (listing (residual_of p t))
    → PassesOver c until m n (coming p t ls true) (coming p t ls false)
over_below until p t ls last c m n is near count = record {
  passed = map (λ x. choices_of p ls ++ x) (listing (residual_of p t));
  members = refl;
  before = each-map _ (λ x. choices_of p ls ++ x) (listing (residual_of p t))
      (each_of_all _ (listing (residual_of p t)) (λ x.
      ap (is_before until) (map-append (λ c. c.k) (choices_of p ls) x) ∙ is.all near (row_of x)));
  count = λ _. omega (
    arith,
    count,
    length-map (listing (residual_of p t)) (λ x. choices_of p ls ++ x),
  );
}

-- the solution where they stand
pub over_one : (c : ℕ) (until : Option (List ℕ)) (p : Puzzle) (t : List Move) (ls : List Level) (last : ℕ)
    (m n : ℕ) → IsRest until p ls last c → coming p t ls true ≡ choices_of p ls ∷ to_give p t ls → m ≡ suc n
    → PassesOver c until m n (coming p t ls true) (coming p t ls false)
over_one c until p t ls last m n is one count = record {
  passed = choices_of p ls ∷ [];
  members = one;
  before = (is.before, tt);
  count = λ _. omega (arith, count);
}

-- of what is left before the end of the span it passed over so many
pub over_within : {until : Option (List ℕ)} {m n : ℕ} {ms ns : List (List Choice)} → PassesOver 1 until m n ms ns
    → filter (λ x. is_before until (row_of x)) ns ≡ []
    → m ≡ n + length (filter (λ x. is_before until (row_of x)) ms)
over_within {until} {ms = ms} {ns = ns} a none =
    let f = λ (x : List Choice). is_before until (row_of x) in
    let all : filter f ms ≡ a.passed = ap (filter f) a.members ∙ filter-append f a.passed ns
    ∙ ap (λ x. filter f a.passed ++ x) none ∙ append-nil (filter f a.passed) ∙ keep_all f a.passed a.before in
    omega (arith, a.count refl, ap length all)

-- what doesn't come before the end is kept
pub over_keeps : {c : ℕ} {u : List ℕ} {m n : ℕ} {ms ns : List (List Choice)} → PassesOver c (Some u) m n ms ns
    → filter (λ x. not (precedes (row_of x) u)) ms ≡ filter (λ x. not (precedes (row_of x) u)) ns
over_keeps {u = u} {ns = ns} a =
    let q = λ (x : List Choice). not (precedes (row_of x) u) in
    ap (filter q) a.members ∙ filter-append q a.passed ns
    ∙ ap (λ x. x ++ filter q ns)
    (keep_none q a.passed (each_weaker _ _ a.passed (λ x e. ap not e) a.before))

-- what is known where there is no end
pub rest_of_all : (p : Puzzle) (ls : List Level) (last first : ℕ) → IsRest None p ls last first
rest_of_all p ls last first = record { before = refl; all = λ _ _. refl; leaves = λ _ _ _ _. refl }

-- nothing is left out where the first branch comes first
pub none_left_out : (until : Option (List ℕ)) (p : Puzzle) (ls : List Level) (first : ℕ) → first ≡ 1
    → LeavesOut until p ls first
none_left_out until p ls first one k some less x = absurd (omega (arith, one, some, less))

-- where what is left below isn't counted at once
pub first_rest : (until : Option (List ℕ)) (p : Puzzle) (ls : List Level) (last first : ℕ)
    → is_before until (row_at p ls) ≡ true → 2 ^ 64 - 1 ≤ last → first ≡ 1 → IsRest until p ls last first
first_rest until p ls last first before far one = record {
  before = before;
  all = λ near. absurd (omega (arith, near, far));
  leaves = none_left_out until p ls first one;
}

-- it passed over so many
pub drop_over : {u : Option (List ℕ)} {m n : ℕ} {ms ns : List (List Choice)} → PassesOver 1 u m n ms ns
    → drop m ms ≡ drop n ns
drop_over {n = n} {ns = ns} a = rw (a.members, a.count refl) (drop-append-add a.passed ns n)

pub ends_over : {u : Option (List ℕ)} {m n : ℕ} {ms : List (List Choice)} → PassesOver 1 u m n ms []
    → m ≡ n + length ms
ends_over a = omega (arith, a.count refl, ap length a.members, length-append a.passed [])

-- ======== On the way to a row.

-- the row of the levels, by their numbers from the oldest on
pub row_levels : (p : Puzzle) (vs ls : List Level) → reverse vs ≡ ls → map (λ (l : Level). l.begun) vs ≡ row_at p ls
row_levels p vs ls e =
    sym (ap (λ ls. row_of (map (chosen p) (reverse ls))) (sym e)
    ∙ ap (λ vs. row_of (map (chosen p) vs)) (reverse-reverse vs) ∙ map-map (chosen p) (λ c. c.k) vs)

-- what a row tells of the levels'
pub rest_before : (p : Puzzle) (vs ls : List Level) (u : List ℕ) (until : Option (List ℕ)) (last first : ℕ)
    → reverse vs ≡ ls → until ≡ Some u → ((x : List ℕ) → precedes (map (λ (l : Level). l.begun) vs ++ x) u ≡ true)
    → IsRest until p ls last first
rest_before p vs ls u until last first e some before =
    let row : row_at p ls ≡ map (λ (l : Level). l.begun) vs = sym (row_levels p vs ls e) in
    record {
      before = ap₂ is_before some (row ∙ sym (append-nil (map (λ (l : Level). l.begun) vs))) ∙ before [];
      all = λ _ x. ap₂ is_before some (ap (λ r. r ++ x) row) ∙ before x;
      leaves = λ k _ _ x. ap₂ is_before some (ap (λ r. r ++ k ∷ x) row) ∙ before (k ∷ x);
    }

pub rest_about : (p : Puzzle) (vs ls : List Level) (u : List ℕ) (until : Option (List ℕ)) (last first : ℕ)
    → reverse vs ≡ ls → until ≡ Some u → precedes (map (λ (l : Level). l.begun) vs) u ≡ true → 2 ^ 64 - 1 ≤ last
    → LeavesOut until p ls first → IsRest until p ls last first
rest_about p vs ls u until last first e some begins far leaves = record {
  before = ap₂ is_before some (sym (row_levels p vs ls e)) ∙ begins;
  all = λ h. absurd (omega (arith, h, far));
  leaves = leaves;
}

-- On the way to a row it began so many branches, and passed over no member from that row on.
pub record Reaching (d : Dancing) (ls : Levels) (e : Dancing) (ks : Levels) (from : List ℕ)
    (begun : ℕ) : Type 0 where
  pub still : e ≡ record d { trail = e.trail; undone = e.undone }
  pub levels : ks ≡ record ls { levels = ks.levels; begun = ks.begun }
  pub standing : IsStanding e.puzzle e.trail ks.levels true
  pub led : AreLedBy false e.puzzle [] e.trail ks.levels
  pub kept : from_on from (coming d.puzzle d.trail ls.levels true)
      ≡ from_on from (coming e.puzzle e.trail ks.levels true)
  pub counted : ks.begun ≡ ls.begun + begun
  pub undone : e.undone ≤ d.undone + room_for d.puzzle * begun

-- it began no branch there
pub starts_reaching : (d : Dancing) (ls : Levels) (from : List ℕ)
    → IsStanding d.puzzle d.trail ls.levels true
    → AreLedBy false d.puzzle [] d.trail ls.levels → Reaching d ls d ls from 0
starts_reaching d ls from s a = record {
  still = refl;
  levels = refl;
  standing = s;
  led = a;
  kept = refl;
  counted = omega arith;
  undone = omega arith;
}

module _ {d e : Dancing} {ls ks : Levels} {from : List ℕ} {before : ℕ} (r : Reaching d ls e ks from before)
  where
    pub reaches_on : {c : ℕ} {f : Dancing} {js : Levels} {m n begun : ℕ}
        → Stands c (Some from) e ks m f js n begun → Reaching d ls f js from (before + begun)
    reaches_on {f = f} {begun = begun} s = record {
      still = grind (arith, r.still, s.still);
      levels = grind (arith, r.levels, s.still);
      standing = s.standing;
      led = s.path [] r.led;
      kept = r.kept ∙ over_keeps s.over;
      counted = omega (arith, r.counted, s.counted);
      undone = more_moves d.puzzle e.puzzle before begun e.undone f.undone d.undone
          (ap (λ (e : Dancing). e.puzzle) r.still) r.undone s.undone;
    }

    -- it stands at the row, or behind it
    pub reaches_there : before ≤ length from → precedes (row_at e.puzzle ks.levels) from ≡ false
        → Reaches false 0 from d ls e ks true
    reaches_there few past = record {
      still = (r.still, r.levels);
      stacked = r.standing.stacked;
      standing = λ _. r.standing;
      led = λ _. r.led;
      reached = λ _. past;
      kept = λ _. r.kept;
      none = λ h. absurd (cc h);
      way = record {
        begun = before;
        counted = r.counted;
        few = omega (arith, few);
        made = omega (
          arith,
          more_moves d.puzzle e.puzzle before 1 e.undone (moves_made e) d.undone
              (ap (λ (e : Dancing). e.puzzle) r.still) r.undone
              (omega (arith, room_in e.puzzle e.trail (r.standing.searchable refl))),
        );
      };
    }

    -- or all levels ended, by one branch at most
    pub reaches_none : {c : ℕ} {until : Option (List ℕ)} {f : Dancing} {js : Levels} {m n many steps : ℕ} {stop : Stop}
        (run : RunsTo true c (Some from) until e ks m many stop f js n steps) → stop ≡ Nothing
        → before + run.begun ≤ length from → Reaches false 0 from d ls f js false
    reaches_none {f = f} run is few =
        let s = run.ended is in
        let all : before + (run.begun + 1) ≡ (before + run.begun) + 1 = omega arith in
        record {
          still = (grind (arith, r.still, s.still), grind (arith, r.levels, s.still));
          stacked = rw s.ended tt;
          standing = λ h. absurd (cc h);
          led = λ h. absurd (cc h);
          reached = λ h. absurd (cc h);
          kept = λ h. absurd (cc h);
          none = λ _. r.kept ∙ over_keeps s.over;
          way = record {
            begun = before + run.begun;
            counted = omega (arith, r.counted, run.counted);
            few = omega (arith, few);
            made = rw (← all) (omega (
              arith,
              more_moves d.puzzle e.puzzle before (run.begun + 1) e.undone (moves_made f)
                  d.undone (ap (λ (e : Dancing). e.puzzle) r.still) r.undone run.made,
            ));
          };
        }

-- where there are no levels, they lead to no moves
pub led_nowhere : (p : Puzzle) {t : List Move} {ls : List Level} → ls ≡ [] → t ≡ []
    → AreLedBy false p [] t ls
led_nowhere p levels moves = rw (levels, moves) refl

-- ======== The numbers of levels rise from branch to branch.

-- they are the levels' row
pub numbers_row : (p : Puzzle) (ls : List Level) → numbers ls ≡ row_at p ls
numbers_row p ls = row_levels p (reverse ls) ls (reverse-reverse ls)

pub numbers_more : (l : Level) (ls : List Level) → numbers (l ∷ ls) ≡ numbers ls ++ l.begun ∷ []
numbers_more l ls = grind (arith, common_steps, reverse-append, map-append)

-- a level more
pub rises_below : (l : Level) (ls ks : Levels) → ks.levels ≡ l ∷ ls.levels → AreLater ls ks
rises_below l ls ks e =
    let row = numbers ls.levels in
    ap (precedes row) (ap numbers e ∙ numbers_more l ls.levels)
    ∙ ap (λ r. precedes r (row ++ l.begun ∷ [])) (sym (append-nil row)) ∙ same_beginning row [] (l.begun ∷ [])

-- these levels are the oldest of the others
pub record IsOldest (ls ks : Levels) : Type 0 where
  pub behind : List ℕ
  pub numbers : numbers ls.levels ≡ numbers ks.levels ++ behind

pub oldest_all : (ls ks : Levels) → ks ≡ ls → IsOldest ls ks
oldest_all ls ks e = grind (arith, append-nil, numbers)

pub oldest_fewer : (l : Level) (ls ks js : Levels) → ks.levels ≡ l ∷ drop 1 ks.levels → js.levels ≡ drop 1 ks.levels
    → IsOldest ls ks → IsOldest ls js
oldest_fewer l ls ks js top e o = grind (arith, numbers, numbers_more, append_assoc)

-- the next branch of the newest of these
pub rises_next : (l : Level) (b : Begun) (ls ks js : Levels) → ks.levels ≡ l ∷ drop 1 ks.levels
    → js.levels ≡ newest_begun b ks.levels → l.begun < b.begun → IsOldest ls ks → AreLater ls js
rises_next l b ls ks js top e more o = grind (arith, numbers, numbers_more, append_assoc, same_beginning, less_before)

-- and they are no more than before
pub length-numbers : (ls : List Level) → length (numbers ls) ≡ length ls
length-numbers ls = length-map (reverse ls) (λ (l : Level). l.begun) ∙ length-reverse ls

begun_length : (b : Begun) (ls : List Level) → length (newest_begun b ls) ≡ length ls
begun_length b [] = refl
begun_length b (l ∷ ls) = refl

pub no_more_levels : (b : Begun) (ls ks js : Levels) → js.levels ≡ newest_begun b ks.levels → IsOldest ls ks
    → length js.levels ≤ length ls.levels
no_more_levels b ls ks js e o = omega (
  arith,
  ap length e,
  begun_length b ks.levels,
  ap length o.numbers,
  length-append (numbers ks.levels) o.behind,
  length-numbers ks.levels,
  length-numbers ls.levels,
)

-- one behind another
pub rises_on : (ls ks js : Levels) → AreLater ls ks → AreLater ks js → AreLater ls js
rises_on ls ks js a b = grind (arith, not_before_before, numbers, before_either_way)

-- ======== Where each item that is left has branches, early choices were the branch items.

pub stuck_lists : (r : Residual) → IsStuck r → listing r ≡ []
stuck_lists r s = none_listed r s.item (in-contains _ _ s.known) s.without

-- An item without branches stays so, whichever other item is branched on.
stuck_next : {r : Residual} {w : Wanted} {b : Branch} (s : IsStuck r) → (s.item.item ≡ w.item → s.item ≡ w)
    → IsBranchOf r w b → IsStuck b.next
stuck_next {r} {w} s same (takes_one k n x known at) =
    let one = filter-in (λ o. holds o w.item) r.options x known at in
    let short = still_short r w.item x s.item one (in-contains _ _ s.known) s.sound s.without in
    record {
      item = spend_one x s.item;
      known = contains-in _ _ short.0;
      sound = grind (arith, s.sound);
      without = short.1;
    }
stuck_next {r} {w} s same (takes_none n free) =
    let other : s.item.item ≢ w.item = λ q.
    absurd (omega (arith, s.without, free, ap (λ (z : Wanted). z.low) (same q))) in
    let short = still_without r w.item s.item (in-contains _ _ s.known) other s.without in
    record { item = s.item; known = contains-in _ _ short.0; sound = s.sound; without = short.1 }

least_none : (count : Wanted → ℕ) (ws : List Wanted) (v : Wanted) → IsIn ws v → count v ≡ 0
    → (w : Wanted) × (first_least count ws ≡ Some w) × (count w ≡ 0)
least_none count [] v h e = absurd h
least_none count (w ∷ ws) v h e = (best count w ws, refl, omega (arith, best_least count w ws v h, e))

-- the branch item has none then
pub stuck_choice : (p : Puzzle) (t : List Move) → AreLegal p t → IsStuck (residual_of p t)
    → (i : ℕ) × (choice_after p t ≡ Some (i, 0))
stuck_choice p t legal s =
    let r = residual_of p t in
    let least = least_none (branch_count r) r.items s.item (in-contains _ _ s.known) s.without in (
      least.0.item,
      choice_is_branch_item p t legal ∙ ap (option_map (λ (w : Wanted). (w.item, branch_count r w))) least.1
          ∙ ap (λ n. Some (least.0.item, n)) least.2,
    )

-- where nothing is stuck at the end, nothing was on the way
pub led_free : (p : Puzzle) (u t : List Move) (ls : List Level) → AreLedBy false p u t ls
    → (IsStuck (residual_of p t) → ⊥) → AreLed p u t ls
unfolding branches_at
led_free p u t [] a free = a
led_free p u t (l ∷ ls) a free =
    let s = oldest l.mark t in
    let r = residual_of p s in
    let w = wanted_at p s l.item in
    let same : (v : Wanted) → IsIn r.items v → v.item ≡ w.item → v ≡ w = λ v h q.
    let at = in-map (wanted_at p s) (open_items p s) v h in
    sym at.2 ∙ ap (wanted_at p s) (ap (λ (z : Wanted). z.item) at.2 ∙ q) in
    let here : IsStuck r → ⊥ = λ stuck. free (rw a.0.next (stuck_next stuck
    (same stuck.item (in-contains _ _ stuck.known))
    (in-branches r w a.0.branch (in-slice_get (branches_of r w) (l.begun - 1) a.0.branch a.0.at)))) in (
      record {
        leads = elim a.0.leads.1 [ inl is ↦ is | inr dead ↦ absurd (here dead.0) ];
        some = a.0.some;
        branch = a.0.branch;
        at = a.0.at;
        choice = a.0.choice;
        next = a.0.next;
      },
      led_free p u s ls a.1 here,
    )

-- a choice of an item with a branch shows that nothing is stuck
pub never_stuck : (p : Puzzle) (t : List Move) → AreLegal p t → ((i : ℕ) → choice_after p t ≡ Some (i, 0) → ⊥)
    → IsStuck (residual_of p t) → ⊥
never_stuck p t legal free s = let choice = stuck_choice p t legal s in free choice.0 choice.1

-- A level that has another branch is of the branch item, and what it was begun on isn't stuck.
pub led_again : (p : Puzzle) (u t : List Move) (l : Level) (ls : List Level) → IsLevel p t l → l.begun < l.count
    → AreLedBy false p u t (l ∷ ls) → IsBranchItem p (oldest l.mark t) l.item × AreLed p u (oldest l.mark t) ls
led_again p u t l ls is_level more a =
    let s = oldest l.mark t in
    let r = residual_of p s in
    let w = wanted_at p s l.item in
    let legal = is_level.node.searchable.legal in
    let two : 2 ≤ branch_count r w = omega (arith, is_level.count, more, a.0.some) in
    let is : IsBranchItem p s l.item = elim a.0.leads.1 [
      | inl is ↦ is
      | inr dead ↦ absurd (omega (arith, two, dead.1))
    ] in
    let free : IsStuck r → ⊥ = λ stuck.
    let none = (stuck_choice p s legal stuck).1 in
    let some = choice_is_branch_item p s legal ∙ ap (option_map (λ (w : Wanted). (w.item, branch_count r w))) is in
    let zero : branch_count r w ≡ 0 = same_count (sym some ∙ none) in
    absurd (omega (arith, two, zero)) in
    (is, led_free p u s ls a.1 free)

-- ======== Where what is left has members, each level is of the branch item.

first_nothing : {X : Type 0} (xs ys : List X) → xs ++ ys ≡ [] → (xs ≡ []) × (ys ≡ [])
first_nothing [] ys e = (refl, e)
first_nothing (x ∷ xs) ys e = absurd (cc e)

nothing_at : {X Y : Type 0} (f : X → List Y) (xs : List X) (j : ℕ) (x : X) → slice_get xs j ≡ Some x
    → flat_map f xs ≡ [] → f x ≡ []
nothing_at f [] j x at none = absurd (cc at)
nothing_at f (y ∷ xs) zero x at none =
    let same : y ≡ x = cc at in ap f (sym same) ∙ (first_nothing (f y) (flat_map f xs) none).0
nothing_at f (y ∷ xs) (suc j) x at none = nothing_at f xs j x at (first_nothing (f y) (flat_map f xs) none).1

unmapped : {X Y : Type 0} (f : X → Y) (xs : List X) → map f xs ≡ [] → xs ≡ []
unmapped f [] e = refl
unmapped f (x ∷ xs) e = absurd (cc e)

-- what has no members has none by any branch
nothing_below : (r : Residual) (w : Wanted) (j : ℕ) (b : Branch) → listing r ≡ level listing (Some w) r
    → slice_get (branches_of r w) j ≡ Some b → listing r ≡ [] → listing b.next ≡ []
nothing_below r w j b lists at none =
    unmapped (λ m. b.choice ∷ m) (listing b.next)
    (nothing_at (λ (b : Branch). map (λ m. b.choice ∷ m) (listing b.next)) (branches_of r w) j b at
    (sym lists ∙ none))

pub led_exact : (p : Puzzle) (u t : List Move) (ls : List Level) → AreLedBy false p u t ls
    → listing (residual_of p t) ≢ [] → AreLed p u t ls
unfolding branches_at
led_exact p u t [] a some = a
led_exact p u t (l ∷ ls) a some =
    let s = oldest l.mark t in
    let here : listing (residual_of p s) ≢ [] = λ none.
    some (ap listing a.0.next
    ∙ nothing_below (residual_of p s) (wanted_at p s l.item) (l.begun - 1) a.0.branch a.0.leads.0 a.0.at none) in (
      record {
        leads = elim a.0.leads.1 [
          | inl is ↦ is
          | inr dead ↦ absurd (here (stuck_lists (residual_of p s) dead.0))
        ];
        some = a.0.some;
        branch = a.0.branch;
        at = a.0.at;
        choice = a.0.choice;
        next = a.0.next;
      },
      led_exact p u s ls a.1 here,
    )

-- the branch item lists what is left
pub led_by : (p : Puzzle) (u t : List Move) (ls : List Level) → AreLed p u t ls → AreLedBy false p u t ls
led_by p u t [] a = a
led_by p u t (l ∷ ls) a = (
  record {
    leads = (lists_by true p (oldest l.mark t) l.item a.0.leads, inl a.0.leads);
    some = a.0.some;
    branch = a.0.branch;
    at = a.0.at;
    choice = a.0.choice;
    next = a.0.next;
  },
  led_by p u (oldest l.mark t) ls a.1,
)

-- ======== A search of a span runs on.

-- from the row of levels on stands what comes there
pub led_from_by : (x : Bool) (p : Puzzle) (t : List Move) (ls : List Level) → AreLedBy x p [] t ls
    → between p (row_at p ls) None ≡ coming p t ls true
led_from_by x p t ls a = lies_from (led_lies x p t ls a)

pub led_from : (p : Puzzle) (t : List Move) (ls : List Level) → AreLed p [] t ls
    → between p (row_at p ls) None ≡ coming p t ls true
led_from p t ls a = led_from_by true p t ls a

pub stands_first : (c : ℕ) (u : Option (List ℕ)) (d : Dancing) (ls : Levels) (m : ℕ)
    → IsStanding d.puzzle d.trail ls.levels true → Stands c u d ls m d ls m 0
stands_first c u d ls m s = record {
  still = (refl, refl);
  standing = s;
  path = λ u a. a;
  over = over_none c u m _ _ refl;
  same = λ _. (refl, refl, refl);
  later = λ h. absurd (omega (arith, h));
  down = λ h. absurd (omega (arith, h));
  counted = omega arith;
  undone = omega arith;
}

module _ {c : ℕ} {u : Option (List ℕ)} {d e : Dancing} {ls ks : Levels} {m n begun : ℕ}
    (s : Stands c u d ls m e ks n begun)
  where
    -- where it goes on to a later row, that is later than where it began
    later_than : (js : Levels) → AreLater ks js → AreLater ls js
    later_than js b = by_number begun
        (λ h. rw (← (s.same h).1) b)
        (λ k h. rises_on ls ks js (s.later (omega (arith, h))) b)

    pub stands_more : {f : Dancing} {js : Levels} {o : ℕ} → BeginsBranch c u e ks n f js o
        → Stands c u d ls m f js o (begun + 1)
    stands_more {f} {js} {o} b = record {
      still = grind (arith, s.still, b.still);
      standing = b.standing;
      path = λ v a. b.path v (s.path v a);
      over = over_more s.over b.over;
      same = λ h. absurd (omega (arith, h));
      later = λ _. later_than js b.rises;
      down = λ h. let same = s.same (omega (arith, h)) in rw (← same.1) b.down;
      counted = omega (arith, s.counted, b.counted);
      undone = more_moves d.puzzle e.puzzle begun 1 e.undone f.undone d.undone
          (ap (λ (e : Dancing). e.puzzle) s.still.0) s.undone (omega (arith, b.undone));
    }

    -- and as many moves may stand once more
    pub ends_made : (made : ℕ) → made ≤ e.undone + room_for e.puzzle
        → made ≤ d.undone + room_for d.puzzle * (begun + 1)
    ends_made made h = more_moves d.puzzle e.puzzle begun 1 e.undone made d.undone
        (ap (λ (e : Dancing). e.puzzle) s.still.0) s.undone (omega (arith, h))

    pub stands_made : moves_made e ≤ d.undone + room_for d.puzzle * (begun + 1)
    stands_made = ends_made (moves_made e) (omega (arith, room_in e.puzzle e.trail (s.standing.searchable refl)))

    pub ends_on : {f : Dancing} {js : Levels} {o : ℕ} → Ends c u e ks n f js o → Ends c u d ls m f js o
    ends_on r = record {
      still = grind (arith, s.still, r.still);
      ended = r.ended;
      over = over_more s.over r.over;
    }

-- from a later row on all that stands from a row on and isn't before it
pub between_kept : (p : Puzzle) (r u : List ℕ) → precedes r u ≡ false
    → filter (λ m. not (precedes (row_of m) u)) (between p r None) ≡ between p r None
between_kept p r u h =
    filter_both (λ m. not (precedes (row_of m) u)) (is_within r None) (members p)
    ∙ filter_agree _ _ (λ m. by_bool (precedes (row_of m) r)
    (λ e. grind (arith, nat_tests, e))
    (λ e. grind (arith, nat_tests, e, not_before u r (row_of m) h e))) (members p)

-- a span is what its end leaves of all behind its beginning
pub within_span : (p : Puzzle) (from : List ℕ) (until : Option (List ℕ))
    → between p from until ≡ filter (λ m. is_before until (row_of m)) (between p from None)
within_span p from until =
    sym (filter_both (λ m. is_before until (row_of m)) (is_within from None) (members p)
    ∙ filter_agree _ _ (λ m. ap (λ b. b && is_before until (row_of m)) (and_true (not (precedes (row_of m) from))))
    (members p))
  where
    and_true : (b : Bool) → b && true ≡ b
    and_true true = refl
    and_true false = refl

-- a span that ends before it begins
pub none_within : (p : Puzzle) (row : List ℕ) (until : Option (List ℕ)) → is_before until row ≡ false
    → between p row until ≡ []
none_within p row None past = absurd (cc past)
none_within p row (Some u) past =
    keep_none (is_within row (Some u)) (members p) (each_of_all _ (members p) (λ m.
    by_bool (precedes (row_of m) row)
    (λ e. grind (arith, nat_tests, e))
    (λ e. grind (arith, nat_tests, e, not_before u row (row_of m) past e))))

-- a span of a search
span_here : (p : Puzzle) (t : List Move) (ls : List Level) (until : Option (List ℕ)) → AreLed p [] t ls
    → between p (row_at p ls) until ≡ filter (λ m. is_before until (row_of m)) (coming p t ls true)
span_here p t ls until led =
    within_span p (row_at p ls) until ∙ ap (filter (λ m. is_before until (row_of m))) (led_from p t ls led)

-- no member is left before the end of a span that doesn't come behind the row of the levels
pub none_before : (x : Bool) (p : Puzzle) (t : List Move) (ls : List Level) (until : Option (List ℕ))
    → AreLedBy x p [] t ls → is_before until (row_at p ls) ≡ false
    → filter (λ m. is_before until (row_of m)) (coming p t ls true) ≡ []
none_before x p t ls until led past =
    ap (filter (λ m. is_before until (row_of m))) (sym (led_from_by x p t ls led))
    ∙ sym (within_span p (row_at p ls) until) ∙ none_within p (row_at p ls) until past

module _ {d e : Dancing} {ls ks : Levels} {m n : ℕ} {until : Option (List ℕ)}
    (led : AreLed d.puzzle [] d.trail ls.levels)
  where
    -- it passed over all members of its span
    pub ends_span : {ns : List (List Choice)} → (e ≡ record d { trail = e.trail; undone = e.undone })
        × (ks ≡ record ls { levels = ks.levels; begun = ks.begun }) → AreStacked e.puzzle e.trail ks.levels
        → PassesOver 1 until m n (coming d.puzzle d.trail ls.levels true) ns
        → filter (λ m. is_before until (row_of m)) ns ≡ [] → EndsSpan d ls m until e ks n
    ends_span still stacked over none = record {
      still = still;
      stacked = stacked;
      count = over_within over none ∙ ap (λ ms. n + length ms) (sym (span_here d.puzzle d.trail ls.levels until led));
    }

    -- it ends at a row that doesn't come before its end
    pub ends_at_row : {begun : ℕ} → Stands 1 until d ls m e ks n begun
        → is_before until (row_at e.puzzle ks.levels) ≡ false → EndsSpan d ls m until e ks n
    ends_at_row s past =
        ends_span s.still s.standing.stacked s.over
        (none_before false e.puzzle e.trail ks.levels until (s.path [] (led_by _ _ _ _ led)) past)

    -- or where all levels ended
    pub ends_all : Ends 1 until d ls m e ks n → EndsSpan d ls m until e ks n
    ends_all s = ends_span s.still (rw s.ended tt) s.over refl

-- ======== A search goes on to a row of its tree.

-- where what is left has no members
none_here : (d : Dancing) (ls : Levels) → listing (residual_of d.puzzle d.trail) ≡ []
    → coming d.puzzle d.trail ls.levels true ≡ coming d.puzzle d.trail ls.levels false
none_here d ls none = rw none refl

-- it stays where it is
pub settles_here : {d : Dancing} {ls : Levels} → IsStanding d.puzzle d.trail ls.levels true
    → AreLed d.puzzle [] d.trail ls.levels → Settles d ls d ls true
settles_here {ls = ls} s led = record {
  still = (refl, refl);
  stacked = s.stacked;
  standing = λ _. s;
  led = λ _. led;
  row = λ _. not_itself (numbers ls.levels);
  members = λ _. refl;
  none = λ h. absurd (cc h);
  way = record { begun = 0; counted = omega arith; few = omega arith; made = omega arith };
}

-- or enters the next branch of a level
pub settles_next : {d e : Dancing} {ls ks : Levels} {i q : ℕ} → EntersBranch d ls false e ks i q
    → KeepsToItems d ls (branched e i q) ks → AreLater ls ks → AreLedBy false d.puzzle [] d.trail ls.levels
    → listing (residual_of d.puzzle d.trail) ≡ [] → Settles d ls (branched e i q) ks true
settles_next {d} {e} {ls} {ks} {i} {q} b items later led none =
    let on = b.goes_on in
    let f = branched e i q in
    let puzzle : room_for f.puzzle ≡ room_for d.puzzle = ap (λ (f : Dancing). room_for f.puzzle) on.still.0 in
    record {
      still = on.still;
      stacked = on.standing.stacked;
      standing = λ _. on.standing;
      led = λ _. items [] led;
      row = λ _. before_either_way (numbers ls.levels) (numbers ks.levels) later;
      members = λ _. none_here d ls none ∙ on.members;
      none = λ h. absurd (cc h);
      way = record {
        begun = 1;
        counted = b.counted;
        few = omega arith;
        made = omega (arith, b.undone, puzzle, room_in f.puzzle f.trail (on.standing.searchable refl));
      };
    }

-- or comes to its end
pub settles_nowhere : {d e : Dancing} {ls ks : Levels} → IsDone d ls false e ks
    → listing (residual_of d.puzzle d.trail) ≡ [] → Settles d ls e ks false
settles_nowhere {d} {e} {ls} {ks} s none = record {
  still = s.still;
  stacked = rw s.ended tt;
  standing = λ h. absurd (cc h);
  led = λ h. absurd (cc h);
  row = λ h. absurd (cc h);
  members = λ h. absurd (cc h);
  none = λ _. none_here d ls none ∙ s.members;
  way = record {
    begun = 0;
    counted = omega (arith, s.counted);
    few = omega arith;
    made = omega (arith, s.made);
  };
}

-- and so it comes to a row from another
module _ {d e : Dancing} {ls ks : Levels} {from : List ℕ} where
  pub reaches_settled : {f : Dancing} {js : Levels} {found : Bool} → Reaches false 0 from d ls e ks true
      → Settles e ks f js found → Reaches true 1 from d ls f js found
  reaches_settled {f} {js} r s =
      let all : (r.way.begun + 1) + (s.way.begun + 1) ≡ (r.way.begun + s.way.begun) + 2 = omega arith in
      record {
        still = (grind (arith, r.still, s.still), grind (arith, r.still, s.still));
        stacked = s.stacked;
        standing = s.standing;
        led = s.led;
        reached = λ h.
            let past = not_before from (numbers ks.levels) (numbers js.levels)
            (ap (λ a. precedes a from) (numbers_row e.puzzle ks.levels) ∙ r.reached refl) (s.row h) in
            ap (λ a. precedes a from) (sym (numbers_row f.puzzle js.levels)) ∙ past;
        kept = λ h. r.kept refl ∙ ap (from_on from) (s.members h);
        none = λ h. r.kept refl ∙ ap (from_on from) (s.none h);
        way = record {
          begun = r.way.begun + s.way.begun;
          counted = omega (arith, r.way.counted, s.way.counted);
          few = omega (arith, r.way.few, s.way.few);
          made = rw (← all) (more_moves d.puzzle e.puzzle (r.way.begun + 1) (s.way.begun + 1) (moves_made e)
              (moves_made f) (moves_made d) (ap (λ (e : Dancing). e.puzzle) r.still.0) r.way.made s.way.made);
        };
      }
