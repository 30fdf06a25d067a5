-- How far a search of a span went, and where it goes on.
use Rattle.std.proofs.Common.{ℕ, ◌≡◌, ◌+◌, ◌-◌, ◌<◌, ◌≤◌, ◌⊎◌, Bool, true, false, List, [], ◌++◌, length, Option, Some}
use Rattle.std.proofs.Common.{None, refl, sym, ap, ap₂, ◌∙◌, arith, subst, inl, inr, append-nil, ◌∷◌, map, take, drop}
use Rattle.std.proofs.Common.{append_assoc, length-drop, zero, suc, get_or, cond}
use Rattle.std.specs.Prelude.{IfSome, IsSome, IsSomeAnd, unwrap_or, option_map}
use Rattle.std.specs.List.{AllByRecursion}
use Rattle.std.proofs.lemmas.Grind.{flat_map-append}
use Rattle.std.proofs.lemmas.List.{take-append-drop}
use Rattle.xc_input.specs.Problem.{Puzzle}
use Rattle.xc_text.proofs.ListLemmas.{each-map, each_weaker, each_of_all}
use Rattle.xc_moves.specs.Dancing.{Dancing, moves_made}
use Rattle.xc_moves.specs.declared.dance.Move.{Move}
use Rattle.xc_search.specs.declared.choice.Choice.{Choice}
use Rattle.xc_search.specs.declared.level.Level.{Level}
use Rattle.xc_search.specs.declared.ran.Stop.{Stop}
use Rattle.xc_search.specs.declared.went.Halt.{Halt}
use Rattle.xc_search.specs.declared.went.Halt.TheVariants.{Member, End, Steps}
use Rattle.xc_search.specs.declared.went.Went.{Went}
use Rattle.xc_search.specs.Outlook.{shown_after}
use Rattle.xc_search.specs.Listing.{whole, Branch, branches_of, listing}
use Rattle.xc_search.specs.Spans.{precedes, is_before, between, row_of}
use Rattle.xc_search.specs.InSpan.{InSpan, left_of, row_or_end, MovesFew}
use Rattle.xc_search.specs.Nodes.{IsRowOf}
use Rattle.xc_search.specs.Going.{WentOnBy}
use Rattle.xc_search.specs.inner.Levels.{Levels, choices_of, oldest, residual_of, AreStacked, MayBegin, MayBranch}
use Rattle.xc_search.specs.inner.Levels.{IsEntered, begun_level, branches_at, branch_members, to_give, coming}
use Rattle.xc_search.specs.inner.Levels.{after_branch, option_taken, IsStanding}
use Rattle.xc_search.specs.inner.Spanning.{row_at, row_from, Halts, RanTo, Enters, Falls, LeavesOut, PassesOver, Ends}
use Rattle.xc_search.specs.inner.Spanning.{GoesDown, IsSeenBy}
use Rattle.xc_search.specs.declared.level.Begun.{Begun}
use Rattle.xc_search.specs.Residuals.{wanted_at}
use Rattle.xc_search.specs.inner.Ahead.{visits, work_left, MayLead, EntersBranch, IsDone, branched, KeepsPath, AreLater}
use Rattle.xc_search.specs.inner.Ahead.{numbers}
use Rattle.xc_search.proofs.SpanRuns.{Advances, IsAt, over_first, ran_out, still_more, at_member, shown_there, at_end}
use Rattle.xc_search.proofs.SpanRuns.{end_not_before, end_not_right_behind, lengths_meet, none_long}
use Rattle.xc_search.proofs.SpanSteps.{few_moves, numbers_more, rises_below, over_none, over_more, numbers_row}
use Rattle.xc_search.proofs.SpanSteps.{length-numbers}
use Rattle.xc_search.proofs.RowLemmas.{is_row, not_itself, each-flat_map, branch_row, numbered_before, same_beginning}
use Rattle.xc_search.proofs.RowLemmas.{less_before, less_behind, before_first, same_before, before_either_way}
use Rattle.xc_search.proofs.ListingLemmas.{branches_end, number_at}
use Rattle.xc_search.proofs.EndLemmas.{room_spent, room_in}
use Rattle.xc_search.proofs.MoveLemmas.{oldest_all}
use Rattle.xc_search.proofs.LoopSteps.{returned, begun_coming, Opens, deepens, enters_next, with_level, with_begun}
use Rattle.xc_search.proofs.LoopSteps.{back_before, members_all, ext_whole, ext_after_branch, oldest-oldest}
use Rattle.xc_search.proofs.LoopSteps.{stands_behind, some_work}
use Rattle.xc_search.specs.declared.ran.Stop.TheVariants as stops

-- ======== How far a search of a span went on, by where it halted.

-- From one row of its span it came, by so many members, to another, which is one of the tree, or to the span's end.
pub record Comes (p : Puzzle) (from : List ℕ) (until to : Option (List ℕ)) (n : ℕ) : Type 0 where
  pub all : between p from until ≡ between p from (row_or_end to until)
      ++ unwrap_or (option_map (λ row. between p row until) to) []
  pub count : length (between p from (row_or_end to until)) ≡ n
  pub node : IfSome to (λ row. IsRowOf (whole p) row)
  pub within : IfSome to (λ row. IfSome until (λ u. precedes u row ≡ false))

-- What is so where it halts there.
abbrev pub HaltsThere : Halt → ℕ → ℕ → Went → InSpan → InSpan → Type 0
HaltsThere Member many most w s n =
    (w.members ≡ many) × (n.shown ≡ shown_after many (left_of s) s.shown) × IsSome n.row
HaltsThere End many most w s n = (0 < many → w.members < many) × (n.shown ≡ []) × (n.row ≡ None)
HaltsThere Steps many most w s n =
    (w.members < many) × (n.shown ≡ []) × IsSome n.row × (w.steps ≡ most)
    × (0 < most → IfSome n.row (λ row. is_before n.until row ≡ true))

some_and : (P : List ℕ → Type 0) (o : Option (List ℕ)) → IsSome o → IfSome o P → IsSomeAnd o P
some_and P None some h = absurd (cc some)
some_and P (Some x) some h = h

-- What a call came to from row `from` on: another row, by so many members, in so many steps, with so many branches and
-- moves; and what is so where it halted.
record CameTo (many most : ℕ) (w : Went) (s n : InSpan) (from : List ℕ) : Type 0 where
  pub row : s.row ≡ Some from
  pub still : n ≡ record s { row = n.row; shown = n.shown; made = n.made; begun = n.begun }
  pub came : Comes s.puzzle from s.until n.row w.members
  pub within : (w.steps ≤ most) × (w.members ≤ many)
  pub more : ℕ
  pub begun : n.begun ≡ s.begun + w.steps + more
  pub one_more : more ≤ 1
  pub no_more : w.steps < most → more ≡ 0
  pub moves : MovesFew s n
  pub halts : HaltsThere w.halt many most w s n
  pub later : 0 < many → 0 < most → IfSome n.row (λ row. precedes from row ≡ true)
  pub stays : most ≡ 0 → n.row ≡ s.row

-- each part of what is said of a call, by where it halted
went_on : (many most : ℕ) (w : Went) (s n : InSpan) (from : List ℕ) → CameTo many most w s n from
    → WentOnBy many most w s n
went_on many most w s n from to =
    let there : (h : Halt) → w.halt ≡ h → HaltsThere h many most w s n =
    λ h e. subst (λ v. HaltsThere v many most w s n) e to.halts in
    let told : WentOnBy many most w s (record s { row = n.row; shown = n.shown; made = n.made; begun = n.begun }) =
    record {
      still = refl;
      passes = record {
        passed = rw to.row to.came.all;
        count = rw to.row to.came.count;
        within = to.within;
        begun = (to.more, to.begun, to.one_more, to.no_more);
        moves = to.moves;
      };
      halts = record {
        member = λ h. let t = there Member h in (t.0, t.1);
        end = λ h. let t = there End h in (t.2, t.1);
        fewer = λ some h. (there End h).0 some;
        ran_out = λ h. let t = there Steps h in (t.2, t.1, t.3, t.0);
        ended = λ h. absurd (cc (h, to.row));
      };
      comes = record {
        node = to.came.node;
        later = λ a b. rw to.row (to.later a b);
        stays = to.stays;
        stands = λ h. elim h [
          | inl i ↦ some_and _ n.row (there Member i).2 to.came.within
          | inr i ↦ some_and _ n.row (there Steps i).2 to.came.within
        ];
        before = λ some h. rw to.still at (there Steps h).4 some;
      };
    } in
    subst (WentOnBy many most w s) (sym to.still) told

-- a search that came to its end stays there
pub at_its_end : (many most : ℕ) (s : InSpan) → s.row ≡ None
    → WentOnBy many most (record { halt = End; members = 0; steps = 0 }) s (record s { shown = [] })
at_its_end many most s at = record {
  still = refl;
  passes = record {
    passed = rw at tt;
    count = rw at tt;
    within = (omega arith, omega arith);
    begun = (0, omega arith, omega arith, λ _. refl);
    moves = few_moves s.puzzle 0 s.begun s.begun s.made s.made (omega arith) (omega arith);
  };
  halts = record {
    member = λ h. absurd (cc h);
    end = λ _. (at, refl);
    fewer = λ some _. some;
    ran_out = λ h. absurd (cc h);
    ended = λ _. (refl, refl, at);
  };
  comes = record {
    node = rw at tt;
    later = λ _ _. rw at tt;
    stays = λ _. refl;
    stands = λ h. elim h [
      | inl i ↦ absurd (cc i)
      | inr i ↦ absurd (cc i)
    ];
    before = λ _ h. absurd (cc h);
  };
}

nothing_between : (p : Puzzle) (row : List ℕ) → between p row (Some row) ≡ []
nothing_between p row = none_long _ (omega (arith, lengths_meet p row row None (not_itself row) tt))

-- the end isn't before the row from which on a search goes on
end_not_from : (until : Option (List ℕ)) (p : Puzzle) (ls : List Level) (down : Bool)
    → is_before until (row_at p ls) ≡ true → IfSome until (λ u. precedes u (row_from p ls down) ≡ false)
end_not_from until p ls true h = end_not_before until (row_at p ls) h
end_not_from until p ls false h = end_not_right_behind until (row_at p ls) h

-- a search of a span, by its state
abbrev pub in_state : Dancing → Levels → Bool → Option (List ℕ) → List Choice → InSpan
in_state d ls down until shown = record {
  puzzle = d.puzzle;
  row = Some (row_from d.puzzle ls.levels down);
  until = until;
  shown = shown;
  room = d.room;
  made = moves_made d;
  begun = ls.begun;
}

-- It hadn't come to its end.
module _ (d : Dancing) (ls : Levels) {down : Bool} {until : Option (List ℕ)}
    (a : IsAt d.puzzle d.trail ls.levels down) (before : is_before until (row_at d.puzzle ls.levels) ≡ true)
    (shown : List Choice)
  where
    -- it stayed there
    pub stayed : (many most : ℕ) (halt : Halt) (now : List Choice)
        → HaltsThere halt many most (record { halt = halt; members = 0; steps = 0 }) (in_state d ls down until shown)
        (in_state d ls down until now)
        → (0 < many → 0 < most → ⊥)
        → WentOnBy many most (record { halt = halt; members = 0; steps = 0 }) (in_state d ls down until shown)
        (in_state d ls down until now)
    stayed many most halt now halts idle =
        went_on many most (record { halt = halt; members = 0; steps = 0 }) (in_state d ls down until shown)
        (in_state d ls down until now) (row_from d.puzzle ls.levels down) (record {
          row = refl;
          still = refl;
          came = record {
            all = rw (nothing_between d.puzzle (row_from d.puzzle ls.levels down)) refl;
            count = ap length (nothing_between d.puzzle (row_from d.puzzle ls.levels down));
            node = is_row d.puzzle d.trail ls.levels down a.led a.solved;
            within = end_not_from until d.puzzle ls.levels down before;
          };
          within = (omega arith, omega arith);
          more = 0;
          begun = omega arith;
          one_more = omega arith;
          no_more = λ _. refl;
          moves = few_moves d.puzzle 0 ls.begun ls.begun (moves_made d) (moves_made d) (omega arith) (omega arith);
          halts = halts;
          later = λ x y. absurd (idle x y);
          stays = λ _. refl;
        })

    -- or ran
    module _ {e : Dancing} {ks : Levels} {many most n left : ℕ} {stop : Stop}
        (ran : RanTo d ls (over_first many down) most until stop e ks n left) (members : 0 < many) (steps : 0 < most)
      where
        went : e ≡ record d { trail = e.trail; undone = e.undone } → (halt : Halt) (row : Option (List ℕ))
            (now : List Choice) (by : ℕ) → by ≤ many
            → Comes d.puzzle (row_from d.puzzle ls.levels down) until row by
            → HaltsThere halt many most (record { halt = halt; members = by; steps = most - left })
            (in_state d ls down until shown) (record (in_state e ks true until now) { row = row })
            → IfSome row (λ row. precedes (row_from d.puzzle ls.levels down) row ≡ true)
            → WentOnBy many most (record { halt = halt; members = by; steps = most - left })
            (in_state d ls down until shown) (record (in_state e ks true until now) { row = row })
        went still halt row now by few came halts later =
            let moved : record (in_state e ks true until now) { row = row }
            ≡ record (in_state d ls true until now) { row = row; made = moves_made e; begun = ks.begun } =
            ap₂ (λ p r. record (in_state e ks true until now) { puzzle = p; room = r; row = row })
            (ap (λ (d : Dancing). d.puzzle) still) (ap (λ (d : Dancing). d.room) still) in
            went_on many most (record { halt = halt; members = by; steps = most - left })
            (in_state d ls down until shown) (record (in_state e ks true until now) { row = row })
            (row_from d.puzzle ls.levels down) (record {
              row = refl;
              still = moved;
              came = came;
              within = (omega (arith, ran.bounded), few);
              more = ran.more;
              begun = omega (arith, ran.bounded, ran.counted);
              one_more = ran.few;
              no_more = λ h. ran.none (omega (arith, ran.bounded, h));
              moves = few_moves d.puzzle (ran.begun + ran.more) ls.begun ks.begun (moves_made d) (moves_made e)
                  (omega (arith, ran.made)) (omega (arith, ran.counted));
              halts = halts;
              later = λ _ _. later;
              stays = λ h. absurd (omega (arith, h, steps));
            })

        module _ (i : (stop ≡ stops.Member) ⊎ (stop ≡ stops.Steps)) where
          stands : Halts until d ls (over_first many down) e ks n ran.begun
          stands = ran.halts i

          puzzle : e.puzzle ≡ d.puzzle
          puzzle = ap (λ (d : Dancing). d.puzzle) stands.still.0

          within : is_before until (row_at d.puzzle ks.levels) ≡ true
          within = rw puzzle at (ran.before i)

          -- to a row of the tree
          came_to : (to : Bool) (by : ℕ) → (to ≡ false → stop ≡ stops.Member)
              → Advances d.puzzle (row_from d.puzzle ls.levels down) until (row_from d.puzzle ks.levels to) by
              → Comes d.puzzle (row_from d.puzzle ls.levels down) until (Some (row_from e.puzzle ks.levels to)) by
          came_to to by solved on = rw puzzle (record {
            all = on.all;
            count = on.count;
            node = is_row d.puzzle e.trail ks.levels to (rw puzzle at stands.led)
                (λ h. rw puzzle at (ran.solved (solved h)).1);
            within = end_not_from until d.puzzle ks.levels to within;
          })

        -- to a member
        pub went_to_member : stop ≡ stops.Member → (now : List Choice) → now ≡ choices_of e.puzzle ks.levels
            → WentOnBy many most (record { halt = Member; members = many; steps = most - left })
            (in_state d ls down until shown) (in_state e ks false until now)
        went_to_member h now is =
            let i = inl h in
            let solved = rw (puzzle i) at (ran.solved h).1 in
            let on = at_member a (stands i) members until (within i) solved (ran.solved h).0 in
            let there = shown_there a (stands i) members until (within i) solved (ran.solved h).0 shown in
            went (stands i).still.0 Member (Some (row_from e.puzzle ks.levels false)) now many (omega arith)
            (came_to i false many (λ _. h) on)
            (refl, is ∙ ap (λ p. choices_of p ks.levels) (puzzle i) ∙ sym there, refl) (rw (puzzle i) on.later)

        -- until it ran out of steps
        module _ (h : stop ≡ stops.Steps) where
          begun : 0 < ran.begun
          begun = omega (arith, steps, ran.ran_out h, ran.bounded)

          pub fewer_passed : n < many
          fewer_passed = still_more a (stands (inr h)) members begun

          pub went_to_row : (now : List Choice) → now ≡ []
              → WentOnBy many most (record { halt = Steps; members = many - 1 - n; steps = most - left })
              (in_state d ls down until shown) (in_state e ks true until now)
          went_to_row now none =
              let i = inr h in
              let on = ran_out a (stands i) members until (within i) begun in
              went (stands i).still.0 Steps (Some (row_from e.puzzle ks.levels true)) now (many - 1 - n) (omega arith)
              (came_to i true (many - 1 - n) (λ x. absurd (cc x)) on)
              (omega (arith, members), none, refl, omega (arith, ran.ran_out h), λ _. ran.before i)
              (rw (puzzle i) on.later)

        -- to the end
        module _ (h : (stop ≡ stops.Row) ⊎ (stop ≡ stops.Nothing)) where
          pub all_passed : (n < many) × (length (between d.puzzle (row_from d.puzzle ls.levels down) until)
              ≡ many - 1 - n)
          all_passed = at_end a (ran.ended h) members before

          pub went_to_end : (now : List Choice) → now ≡ []
              → WentOnBy many most (record { halt = End; members = many - 1 - n; steps = most - left })
              (in_state d ls down until shown) (record (in_state e ks true until now) { row = None })
          went_to_end now none =
              went (ran.ended h).still.0 End None now (many - 1 - n) (omega arith) (record {
                all = sym (append-nil _);
                count = all_passed.1;
                node = tt;
                within = tt;
              }) (λ _. omega (arith, members), none, refl) tt

-- ======== A level that begins with a branch further on.

-- ---- the branches before it

module _ (first : ℕ) (u : Option (List ℕ)) (p : Puzzle) (t : List Move) (ls : List Level) (i n : ℕ)
    (may : MayBranch p t i n) (leaves : LeavesOut u p ls first)
  where
    left_out : (b : Branch) → (0 < b.choice.k) × (b.choice.k < first) → AllByRecursion
        (λ x. is_before u (row_of x) ≡ true) (map (λ m. choices_of p ls ++ b.choice ∷ m) (listing b.next))
    left_out b h =
        each-map (λ x. is_before u (row_of x) ≡ true) (λ m. choices_of p ls ++ b.choice ∷ m) (listing b.next)
        (each_of_all _ (listing b.next) (λ m.
        ap (is_before u) (branch_row (choices_of p ls) m b.choice) ∙ leaves b.choice.k h.0 h.1 (row_of m)))

    -- their members are passed over
    over_branches : (j : ℕ) → j < first → (m : ℕ) → PassesOver first u m m (coming p t ls true)
        (branch_members (choices_of p ls) (drop j (branches_at p t i)) ++ to_give p t ls)
    unfolding branches_at
    over_branches j less m =
        let path = choices_of p ls in
        let w = wanted_at p t i in
        let bs = branches_of (residual_of p t) w in
        let all : map (λ m. path ++ m) (listing (residual_of p t)) ≡ branch_members path bs =
        ap (map (λ m. path ++ m)) may.lists ∙ members_all path bs in
        let split : branch_members path bs ≡ branch_members path (take j bs) ++ branch_members path (drop j bs) =
        ap (branch_members path) (sym (take-append-drop j bs)) ∙ flat_map-append _ (take j bs) (drop j bs) in
        record {
          passed = branch_members path (take j bs);
          members = ap (λ x. x ++ to_give p t ls) (all ∙ split)
              ∙ append_assoc (branch_members path (take j bs)) (branch_members path (drop j bs)) (to_give p t ls);
          before = each-flat_map _ _ (take j bs) (each_weaker _ _ (take j bs)
              (λ b h. left_out b (h.0, omega (arith, h.1, less)))
              (numbered_before (λ (b : Branch). b.choice.k) 0 j bs
              (λ j b q. omega (arith, (number_at (residual_of p t) w j b q).1))));
          count = λ h. let none : j ≡ 0 = omega (arith, h, less) in rw none (omega arith);
        }

-- ---- some branches of a level were entered, with no move

-- Level k stands on levels ls in state d at item i with n branches. State f has its own moves.
pub record Stays (d : Dancing) (ls : Levels) (i n : ℕ) (f : Dancing) (k : Level) : Type 0 where
  pub still : f ≡ record d { trail = f.trail }
  pub stacked : AreStacked f.puzzle f.trail (k ∷ ls.levels)
  pub under : oldest k.mark f.trail ≡ d.trail
  pub whole : k.base ≡ length f.trail
  pub item : k.item ≡ i
  pub count : k.count ≡ n
  pub less : visits f.puzzle f.trail (k ∷ ls.levels) < work_left d ls true

-- The newest of them was entered from level at in state from.
pub record Stepped (d : Dancing) (ls : Levels) (i n : ℕ) (g : Dancing) (k : Level) : Type 0 where
  pub from : Dancing
  pub at : Level
  pub stays : Stays d ls i n from at
  pub branch : Begun
  pub is : k ≡ begun_level branch at
  pub still : g ≡ record from { trail = g.trail }
  pub base : k.base ≡ length g.trail
  pub entered : IsEntered from.puzzle from.trail at g.trail k

pub opens_stays : {d e : Dancing} {ls : Levels} {i n : ℕ} {l : Level} → Opens d e ls i n l → Stays d ls i n e l
opens_stays {d} {e} {ls} {i} {n} {l} o =
    let down = deepens o in
    let same : e.puzzle ≡ d.puzzle = ap (λ (e : Dancing). e.puzzle) o.spent in
    record {
      still = grind (arith, o.spent);
      stacked = down.0.standing.stacked;
      under = down.2;
      whole = down.3;
      item = ap (λ (l : Level). l.item) o.level;
      count = ap (λ (l : Level). l.count) o.level;
      less = subst (λ p. visits p e.trail (l ∷ ls.levels) < work_left d ls true) (sym same) down.1;
    }

module _ {d : Dancing} {ls : Levels} {i n : ℕ} {f : Dancing} {k : Level} (s : Stays d ls i n f k) where
  pub may_go_on : k.begun < n → MayBegin f.puzzle f.trail k
  may_go_on h = record { level = s.stacked.0; whole = s.whole; more = omega (arith, s.count, h) }

  pub step_on : {g : Dancing} (b : Begun) → g ≡ record f { trail = g.trail } → b.base ≡ length g.trail
      → IsEntered f.puzzle f.trail k g.trail (begun_level b k) → Stepped d ls i n g (begun_level b k)
  step_on b still base entered = record {
    from = f;
    at = k;
    stays = s;
    branch = b;
    is = refl;
    still = still;
    base = base;
    entered = entered;
  }

-- it stands as before the next branch
stays_next : {d : Dancing} {ls : Levels} {i n : ℕ} {f : Dancing} {l : Level} (s : Stays d ls i n f l) (g : Dancing)
    (b : Begun) → g ≡ record f { trail = g.trail } → b.base ≡ length g.trail
    → IsEntered f.puzzle f.trail l g.trail (begun_level b l) → Stays d ls i n g (begun_level b l)
stays_next {d} {ls} {i} {n} {f} {l} s g b still base entered =
    let p = f.puzzle in
    let k = begun_level b l in
    let v = after_branch p k.item (option_taken p k) g.trail in
    let all = begun_coming p f.trail v l k ls.levels s.stacked entered.begun in
    let back = returned p v k ls.levels all.1 in
    let same : g.puzzle ≡ p = ap (λ (g : Dancing). g.puzzle) still in
    let ground : oldest k.base v ≡ g.trail =
    ap (λ n. oldest n v) base ∙ ext_whole (ext_after_branch p k.item (option_taken p k) g.trail) in
    let under : oldest k.mark g.trail ≡ d.trail =
    ap (oldest k.mark) (sym ground) ∙ oldest-oldest k.mark k.base v all.1.0.within.0 all.1.0.within.1
    ∙ entered.begun.below ∙ s.under in
    let stacked : AreStacked p g.trail (k ∷ ls.levels) = rw ground at back.0 in
    let visited : visits p g.trail (k ∷ ls.levels) ≡ visits p v (k ∷ ls.levels) = rw ground at back.2 in
    let fewer : visits p g.trail (k ∷ ls.levels) < work_left d ls true = omega (arith, visited, all.2, s.less) in
    record {
      still = grind (arith, still, s.still);
      stacked = subst (λ p. AreStacked p g.trail (k ∷ ls.levels)) (sym same) stacked;
      under = under;
      whole = base;
      item = s.item;
      count = s.count;
      less = subst (λ p. visits p g.trail (k ∷ ls.levels) < work_left d ls true) (sym same) fewer;
    }

module _ {d : Dancing} {ls : Levels} {i n : ℕ} {g : Dancing} {k : Level} (s : Stepped d ls i n g k) where
  pub stays_on : Stays d ls i n g k
  stays_on = rw s.is (stays_next s.stays g s.branch s.still (rw s.is at s.base) (rw s.is at s.entered))

  module _ (ks : Levels) (levels : ks ≡ with_begun k ls) where
    pub enters_at : (first : ℕ) (u : Option (List ℕ)) (m : ℕ) → MayBranch d.puzzle d.trail i n
        → MayLead false d.puzzle d.trail i → k.begun ≡ first → LeavesOut u d.puzzle ls.levels first
        → Enters first u d ls m g ks m i k.place
    enters_at first u m may leads number leaves =
        let f = s.from in
        let l = s.at in
        let same : f.puzzle ≡ d.puzzle = ap (λ (f : Dancing). f.puzzle) s.stays.still in
        let base : oldest l.base f.trail ≡ f.trail = rw (s.stays.whole, oldest_all f.trail) refl in
        let entered : IsEntered f.puzzle f.trail l g.trail (begun_level s.branch l) = rw s.is at s.entered in
        let kept : g.undone ≡ f.undone = ap (λ (g : Dancing). g.undone) s.still in
        let still : g ≡ record f { trail = g.trail; undone = g.undone } =
        s.still ∙ ap (λ n. record f { trail = g.trail; undone = n }) (sym kept) in
        let next = enters_next f g l s.branch (with_level l ls) ks s.stays.stacked refl still (omega (arith, kept))
        (rw base entered) (levels ∙ ap (λ k. with_begun k ls) s.is) in
        let begun : l.begun + 1 ≡ first =
        omega (arith, number, s.entered.begun.begun) in
        let over = over_branches first u d.puzzle d.trail ls.levels i n may leaves l.begun
        (omega (arith, begun)) m in
        let gives = λ (p : Puzzle) (t : List Move) (i : ℕ).
        branch_members (choices_of p ls.levels) (drop l.begun (branches_at p t i)) ++ to_give p t ls.levels in
        let give : gives d.puzzle d.trail i ≡ to_give f.puzzle f.trail (l ∷ ls.levels) =
        ap (λ p. gives p d.trail i) (sym same) ∙ ap (λ t. gives f.puzzle t i) (sym s.stays.under)
        ∙ ap (gives f.puzzle (oldest l.mark f.trail)) (sym s.stays.item) in
        let place : k.place ≡ s.branch.place = ap (λ (k : Level). k.place) s.is in
        rw (← s.stays.item, place) (record {
          can = next.0.can;
          place = next.0.place;
          begins = record {
            still = grind (arith, levels, s.stays.still, next.0.goes_on.still);
            standing = next.0.goes_on.standing;
            path = λ v a. next.1 false v (rw (s.stays.under, same, s.stays.item) leads) (rw (s.stays.under, same) a);
            rises = rises_below k ls ks (ap (λ (ks : Levels). ks.levels) levels);
            down = inr (rw (levels, ← number) (numbers_more k ls.levels));
            less = omega (arith, next.0.less, s.stays.less);
            over = subst (PassesOver first u m m (coming d.puzzle d.trail ls.levels true))
                (give ∙ next.0.goes_on.members) over;
            counted = ap (λ (ks : Levels). ks.begun) levels;
            undone = omega (arith, kept, ap (λ (f : Dancing). f.undone) s.stays.still);
          };
        })

-- ---- a level with no branch that isn't left out ends at once

pub ends_at_once : {d e : Dancing} {ls : Levels} {i n : ℕ} {l : Level} → Opens d e ls i n l → (f : Dancing)
    → f ≡ record e { trail = oldest l.mark e.trail; undone = e.undone + (length e.trail - l.mark) }
    → (first : ℕ) (u : Option (List ℕ)) (m : ℕ) → n < first → LeavesOut u d.puzzle ls.levels first
    → Falls first u d ls m f ls m
unfolding branches_at
ends_at_once {d} {e} {ls} {i} {n} {l} o f ef first u m less leaves =
    let same = back_before o f ef in
    let fp : f.puzzle ≡ d.puzzle = ap (λ (f : Dancing). f.puzzle) same in
    let ft : f.trail ≡ d.trail = ap (λ (f : Dancing). f.trail) same in
    let none : drop n (branches_at d.puzzle d.trail i) ≡ [] =
    ap (λ n. drop n (branches_at d.puzzle d.trail i)) o.next.count
    ∙ branches_end (residual_of d.puzzle d.trail) (wanted_at d.puzzle d.trail i) in
    let over = over_branches first u d.puzzle d.trail ls.levels i n o.next leaves n less m in
    record {
      still = (grind (arith, same), refl);
      standing = rw (fp, ft) (stands_behind d.puzzle d.trail ls.levels o.standing.stacked);
      path = λ v a. rw (fp, ft) a;
      less = rw (fp, ft) (omega arith);
      over = rw (fp, ft) (rw none at over);
      made = omega (
        arith,
        ap (λ (f : Dancing). f.undone) ef,
        ap (λ (e : Dancing). e.undone) o.spent,
        ap length ft,
        ap length (deepens o).2,
        length-drop (length e.trail - l.mark) e.trail,
        ap (λ (e : Dancing). length e.trail) o.spent,
        room_spent d.puzzle d.trail i (record
            { searchable = o.standing.searchable refl; item = o.next.item; is_open = o.next.is_open }),
      );
    }

-- ======== The steps of a search of a span.

-- what is left below is passed over with no move
pub falls_over : (c : ℕ) (until : Option (List ℕ)) (d : Dancing) (ls : Levels) (m n : ℕ)
    → IsStanding d.puzzle d.trail ls.levels true
    → PassesOver c until m n (coming d.puzzle d.trail ls.levels true) (coming d.puzzle d.trail ls.levels false)
    → Falls c until d ls m d ls n
falls_over c until d ls m n s over = record {
  still = (refl, refl);
  standing = stands_behind d.puzzle d.trail ls.levels s.stacked;
  path = λ u a. a;
  less = omega (arith, some_work (residual_of d.puzzle d.trail));
  over = over;
  made = omega (arith, room_in d.puzzle d.trail (s.searchable refl));
}

-- a branch of a level is entered
pub enters_back : {c : ℕ} {until : Option (List ℕ)} {d e f : Dancing} {ls ks js : Levels} {m n i q : ℕ}
    → Falls c until d ls m e ks n → EntersBranch e ks false f js i q → KeepsPath e ks (branched f i q) js
    → AreLater ks js → length js.levels ≤ length ks.levels
    → Enters c until d ls m f js n i q
enters_back {c} {until} {n = n} back b path rises few = record {
  can = b.can;
  place = b.place;
  begins = record {
    still = grind (arith, back.still, b.goes_on.still);
    standing = b.goes_on.standing;
    path = λ u a. path u (back.path u a);
    rises = rw (← back.still.1) rises;
    down = inl (rw (← back.still.1) few);
    less = omega (arith, back.less, b.less);
    over = over_more back.over (over_none c until n _ _ b.goes_on.members);
    counted = omega (arith, b.counted, ap (λ (ls : Levels). ls.begun) back.still.1);
    undone = omega (arith, b.undone, back.made);
  };
}

-- all levels end
pub ends_back : {c : ℕ} {until : Option (List ℕ)} {d e f : Dancing} {ls ks js : Levels} {m n : ℕ}
    → Falls c until d ls m e ks n → IsDone e ks false f js → Ends c until d ls m f js n
ends_back {c} {until} {n = n} back done = record {
  still = grind (arith, back.still, done.still);
  ended = done.ended;
  over = over_more back.over (over_none c until n _ _ done.members);
}

-- ======== One number more of a row.

-- a list about a place
at_place : (xs : List ℕ) (i : ℕ) → i < length xs → (xs ≡ take i xs ++ get_or xs i 0 ∷ drop (suc i) xs)
    × (take (i + 1) xs ≡ take i xs ++ get_or xs i 0 ∷ [])
at_place [] i h = absurd (omega (arith, h))
at_place (x ∷ xs) zero h = (refl, refl)
at_place (x ∷ xs) (suc i) h =
    let next = at_place xs i (omega (arith, h)) in
    let more : suc i + 1 ≡ suc (i + 1) = omega arith in
    (ap (λ ys. x ∷ ys) next.0, rw more (ap (λ ys. x ∷ ys) next.1))

-- what comes after a row and is no longer comes after all that begins with the row
no_longer : (a b x : List ℕ) → precedes a b ≡ true → length b ≤ length a → precedes (a ++ x) b ≡ true
no_longer a [] x e h = absurd (cc e)
no_longer [] (z ∷ b) x e h = absurd (omega (arith, h))
no_longer (y ∷ a) (z ∷ b) x e h = elim (before_first y z a b e) [
  | inl less ↦ less_before y z (a ++ x) b less
  | inr same ↦ same_before y z (a ++ x) b same.0 (no_longer a b x same.1 (omega (arith, h)))
]

-- The row of the levels ls begins the row from, with k as the number behind it, and no branch before this one is
-- entered.
pub record IsNextNumber (from : List ℕ) (ls : Levels) (k first : ℕ) : Type 0 where
  pub behind : List ℕ
  pub is : from ≡ numbers ls.levels ++ k ∷ behind
  pub none : k ≡ 0 → first ≡ 1
  pub some : 0 < k → first ≡ k

pub next_number : (from : List ℕ) (ls : Levels) (i k first : ℕ) → numbers ls.levels ≡ take i from → i < length from
    → k ≡ get_or from i 0 → (k ≡ 0 → first ≡ 1) → (0 < k → first ≡ k) → IsNextNumber from ls k first
next_number from ls i k first row within is none some = record {
  behind = drop (suc i) from;
  is = (at_place from i within).0 ∙ ap₂ (λ a k. a ++ k ∷ drop (suc i) from) (sym row) (sym is);
  none = none;
  some = some;
}

module _ {from : List ℕ} {ls : Levels} {k first : ℕ} (n : IsNextNumber from ls k first) where
  -- what a step from there leaves out comes before the row
  pub seen_before : (p : Puzzle) → IsSeenBy true (Some from) None first 1 p ls.levels
  seen_before p =
      let a = numbers ls.levels in
      let row : row_at p ls.levels ≡ a = sym (numbers_row p ls.levels) in
      inr (
        refl,
        refl,
        ap₂ precedes (row ∙ sym (append-nil a)) n.is ∙ same_beginning a [] (k ∷ n.behind),
        λ j some less x. ap₂ precedes (ap (λ a. a ++ j ∷ x) row) n.is
            ∙ same_beginning a (j ∷ x) (k ∷ n.behind)
            ∙ less_before j k x n.behind (grind (arith, n.none, n.some, some, less)),
      )

  module _ (ks : Levels) (p : Puzzle) (later : AreLater ls ks) where
    -- a later row with no more levels comes after it
    pub row_past : length ks.levels ≤ length ls.levels → precedes (row_at p ks.levels) from ≡ false
    row_past few =
        let a = numbers ls.levels in
        let b = numbers ks.levels in
        let past = no_longer a b (k ∷ n.behind) later
        (omega (arith, few, length-numbers ls.levels, length-numbers ks.levels)) in
        ap₂ precedes (sym (numbers_row p ks.levels)) n.is ∙ before_either_way (a ++ k ∷ n.behind) b past

    -- so does that of any branch where the number is 0
    pub row_past_zero : GoesDown first ls ks → k ≡ 0 → precedes (row_at p ks.levels) from ≡ false
    row_past_zero (inl few) none = row_past few
    row_past_zero (inr down) none =
        let a = numbers ls.levels in
        ap₂ precedes (sym (numbers_row p ks.levels) ∙ down) n.is
        ∙ same_beginning a (first ∷ []) (k ∷ n.behind)
        ∙ less_behind first k [] n.behind (omega (arith, none, n.none none))

  -- else the row goes on with the number
  pub row_more : (ks : Levels) → GoesDown first ls ks → length ls.levels < length ks.levels → 0 < k
      → numbers ks.levels ≡ numbers ls.levels ++ k ∷ []
  row_more ks (inl few) more some = absurd (omega (arith, few, more))
  row_more ks (inr down) more some = down ∙ ap (λ k. numbers ls.levels ++ k ∷ []) (n.some some)

-- and so the first numbers of the row are one more
pub row_grows : (from : List ℕ) (ls ks : Levels) (i k : ℕ) → numbers ls.levels ≡ take i from → i < length from
    → k ≡ get_or from i 0 → numbers ks.levels ≡ numbers ls.levels ++ k ∷ [] → numbers ks.levels ≡ take (i + 1) from
row_grows from ls ks i k row within is more =
    more ∙ ap₂ (λ a k. a ++ k ∷ []) row is ∙ sym (at_place from i within).1

-- ======== What is true of a search's row, by its fields.

-- a search's fields
abbrev pub in_span : Puzzle → Bool → List ℕ → Option (List ℕ) → List Choice → ℕ → ℕ → ℕ → InSpan
in_span p ended row until shown room made begun = record {
  puzzle = p;
  row = cond ended None (Some row);
  until = until;
  shown = shown;
  room = room;
  made = made;
  begun = begun;
}

module _ (o : InSpan) (p : Puzzle) (ended : Bool) (row : List ℕ) (until : Option (List ℕ)) (shown : List Choice)
    (room made begun : ℕ) (is : in_span p ended row until shown room made begun ≡ o) (goes : ended ≡ false)
  where
    stood : o ≡ in_span p false row until shown room made begun
    stood = sym is ∙ ap (λ e. in_span p e row until shown room made begun) goes

    pub told_row : (P : List ℕ → Type 0) → P row → IfSome o.row P
    told_row P h = rw stood h
