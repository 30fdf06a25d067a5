-- How a run of a search of a span goes, from one row to another.
use Rattle.std.proofs.lemmas.Bool.Decides.{nat_tests}
use Rattle.std.proofs.Common.{ℕ, suc, ◌≡◌, ◌+◌, ◌-◌, ◌<◌, Bool, true, false, not, List, [], ◌∷◌, ◌++◌, filter, length}
use Rattle.std.proofs.Common.{cond, Option, Some, None, refl, sym, ap, ap₂, ◌∙◌, arith, subst, length-append, inl, inr}
use Rattle.std.proofs.Common.{◌⊎◌, ◌≢◌, ◌≤◌, ◌*◌}
use Rattle.std.proofs.lemmas.List.Elements.{filter_agree}
use Rattle.std.specs.Prelude.{IfSome, unwrap_or, option_map, ◌||◌, ◌^◌, drop}
use Rattle.std.proofs.Math.Nat.{mul-add}
use Rattle.xc_input.specs.Problem.{Puzzle}
use Rattle.xc_text.proofs.ListLemmas.{by_bool, by_number, mapped_none}
use Rattle.xc_moves.specs.declared.dance.Move.{Move}
use Rattle.xc_moves.specs.Dancing.{Dancing, moves_made}
use Rattle.xc_search.specs.declared.choice.Choice.{Choice}
use Rattle.xc_search.specs.declared.level.Level.{Level}
use Rattle.xc_search.specs.Cover.{members}
use Rattle.xc_search.specs.Listing.{listing}
use Rattle.xc_search.specs.Outlook.{shown_after}
use Rattle.xc_search.specs.Spans.{row_of, precedes, is_before, between}
use Rattle.xc_search.specs.inner.Levels.{residual_of, Levels, choices_of, coming, to_give}
use Rattle.xc_search.specs.inner.Ahead.{IsSolved, AreLed, numbers}
use Rattle.xc_search.specs.inner.Spanning.{row_at, row_from, Halts, EndsSpan, BeginsBranch, Ends, PassesOver, Stands}
use Rattle.xc_search.specs.inner.Spanning.{RunsTo, RanTo, IsSeenBy, IsRest, Settles}
use Rattle.xc_search.specs.Room.{room_for}
use Rattle.xc_search.specs.declared.ran.Stop.{Stop}
use Rattle.xc_search.specs.declared.ran.Stop.TheVariants.{Member, Steps, Row, Nothing}
use Rattle.xc_search.proofs.ResidualLemmas.{choice_is_branch_item}
use Rattle.xc_search.proofs.ListingLemmas.{listing_at}
use Rattle.xc_search.proofs.LoopSteps.{solution}
use Rattle.xc_search.proofs.RowLemmas.{before_not_before, before_either_way, not_itself, spans_meet, lies_behind}
use Rattle.xc_search.proofs.RowLemmas.{led_lies, led_after}
use Rattle.xc_search.proofs.SpanSteps.{led_from, between_kept, within_span, none_within, numbers_row, drop_over}
use Rattle.xc_search.proofs.SpanSteps.{stands_more, ends_on, ends_span, ends_at_row, ends_all, none_before, stands_made}
use Rattle.xc_search.proofs.SpanSteps.{ends_made, led_exact, led_by}

-- ======== A search of a span went on from one row to another.

-- ---- rows

-- right behind a row
pub right_behind : (a : List ℕ) → precedes a (a ++ 0 ∷ []) ≡ true
right_behind [] = refl
right_behind (x ∷ a) = grind (arith, nat_tests, right_behind a)

-- and no row is between them
pub none_between : (a u : List ℕ) → precedes a u ≡ true → precedes u (a ++ 0 ∷ []) ≡ false
none_between a [] e = absurd (cc e)
none_between [] (y ∷ u) e = grind (arith, nat_tests)
none_between (x ∷ a) (y ∷ u) e = grind (arith, nat_tests, none_between a u)

-- the end of a span isn't before a row of the span, nor before the one right behind it
pub end_not_before : (until : Option (List ℕ)) (a : List ℕ) → is_before until a ≡ true
    → IfSome until (λ u. precedes u a ≡ false)
end_not_before None a e = tt
end_not_before (Some u) a e = before_either_way a u e

pub end_not_right_behind : (until : Option (List ℕ)) (a : List ℕ) → is_before until a ≡ true
    → IfSome until (λ u. precedes u (a ++ 0 ∷ []) ≡ false)
end_not_right_behind None a e = tt
end_not_right_behind (Some u) a e = none_between a u e

-- ---- where a search stands

pub record IsAt (p : Puzzle) (t : List Move) (ls : List Level) (down : Bool) : Type 0 where
  pub led : AreLed p [] t ls
  pub solved : down ≡ false → IsSolved p t ls

pub solved_alone : (p : Puzzle) (t : List Move) (ls : List Level) → IsSolved p t ls → listing (residual_of p t)
    ≡ [] ∷ []
solved_alone p t ls s =
    let legal = (s.standing.searchable refl).legal in
    listing_at (residual_of p t) None (grind (arith, mapped_none, choice_is_branch_item p t legal, s.none))

pub at_from : (p : Puzzle) (t : List Move) (ls : List Level) (down : Bool) → IsAt p t ls down
    → between p (row_from p ls down) None ≡ coming p t ls down
at_from p t ls true a = led_from p t ls a.led
at_from p t ls false a = lies_behind (led_lies true p t ls a.led) (solved_alone p t ls (a.solved refl))

-- the member at which it stands isn't to come
one_less : (p : Puzzle) (t : List Move) (ls : List Level) → IsSolved p t ls
    → length (coming p t ls true) ≡ suc (length (coming p t ls false))
one_less p t ls s = ap length (solution p t ls (s.standing.searchable refl).legal s.none)

-- ---- spans between rows

pub lengths_meet : (p : Puzzle) (a b : List ℕ) (until : Option (List ℕ)) → precedes b a ≡ false
    → IfSome until (λ u. precedes u b ≡ false) →
    length (between p a (Some b)) + length (between p b until) ≡ length (between p a until)
lengths_meet p a b until ab bu =
    cc (length-append (between p a (Some b)) (between p b until), spans_meet p a b until ab bu)

shown_last : (front : List (List Choice)) (m : List Choice) (back : List (List Choice)) (was : List Choice)
    → shown_after (suc (length front)) (front ++ m ∷ back) was ≡ m
shown_last [] m back was = refl
shown_last (x ∷ front) m back was = shown_last front m back x

-- It went on by n members.
pub record Advances (p : Puzzle) (from : List ℕ) (until : Option (List ℕ)) (to : List ℕ) (n : ℕ) : Type 0 where
  pub later : precedes from to ≡ true
  pub count : length (between p from (Some to)) ≡ n
  pub all : between p from until ≡ between p from (Some to) ++ between p to until

advances : (p : Puzzle) (from : List ℕ) (until : Option (List ℕ)) (to : List ℕ) (n : ℕ) → precedes from to ≡ true
    → IfSome until (λ u. precedes u to ≡ false)
    → n + length (between p to None) ≡ length (between p from None) → Advances p from until to n
advances p from until to n later within count = grind (arith, before_either_way, lengths_meet, spans_meet)

-- the row at which it began comes before that of a state with less ahead
from_before : (p : Puzzle) (t s : List Move) (ls ks : List Level) (down : Bool) → AreLed p [] t ls → AreLed p [] s ks
    → precedes (row_at p ls) (row_at p ks) ≡ true → precedes (row_from p ls down) (row_at p ks) ≡ true
from_before p t s ls ks true a b h = h
from_before p t s ls ks false a b h = led_after p s ks (row_at p ls) b h

-- how many members it has to pass over, to stand at the last of so many
abbrev pub over_first : ℕ → Bool → ℕ
over_first many true = many - 1
over_first many false = many

-- it ran out of steps
module _ {d e : Dancing} {ls ks : Levels} {down : Bool} {many n begun : ℕ} {end : Option (List ℕ)}
    (a : IsAt d.puzzle d.trail ls.levels down) (s : Halts end d ls (over_first many down) e ks n begun)
    (some : 0 < many)
  where
    -- the row from which it went on, and the one at which it stands
    abbrev began : List ℕ
    began = row_from d.puzzle ls.levels down

    abbrev now : List ℕ
    now = row_at d.puzzle ks.levels

    same_puzzle : e.puzzle ≡ d.puzzle
    same_puzzle = ap (λ (d : Dancing). d.puzzle) s.still.0

    rows_from : 0 < begun → precedes (row_from d.puzzle ls.levels down) (row_at d.puzzle ks.levels) ≡ true
    rows_from h =
        let led : AreLed d.puzzle [] e.trail ks.levels = rw same_puzzle at s.led in
        let later : precedes (row_at d.puzzle ls.levels) (row_at d.puzzle ks.levels) ≡ true =
        ap₂ precedes (sym (numbers_row d.puzzle ls.levels)) (sym (numbers_row d.puzzle ks.levels)) ∙ s.later h in
        from_before d.puzzle d.trail e.trail ls.levels ks.levels down a.led led later

    led_here : AreLed d.puzzle [] e.trail ks.levels
    led_here = rw same_puzzle at s.led

    counted_over : over_first many down + length (coming d.puzzle e.trail ks.levels true)
        ≡ n + length (coming d.puzzle d.trail ls.levels true)
    counted_over =
        let all : over_first many down + length (coming e.puzzle e.trail ks.levels true)
        ≡ n + length (coming d.puzzle d.trail ls.levels true) =
        omega (
          arith,
          s.over.count refl,
          ap length s.over.members,
          length-append s.over.passed (coming e.puzzle e.trail ks.levels true),
        ) in
        rw same_puzzle at all

    -- fewer than it was to go on by
    pub still_more : 0 < begun → n < many
    still_more h = elim down as (λ v. IsAt d.puzzle d.trail ls.levels v → over_first many v
        + length (coming d.puzzle e.trail ks.levels true) ≡ n + length (coming d.puzzle d.trail ls.levels true)
        → precedes (row_from d.puzzle ls.levels v) (row_at d.puzzle ks.levels) ≡ true → n < many) [
          | true ↦ λ at count later.
              let rest = lengths_meet d.puzzle (row_at d.puzzle ls.levels) now None
              (before_either_way (row_at d.puzzle ls.levels) now later) tt in
              let from = ap length (led_from d.puzzle d.trail ls.levels at.led) in
              let to = ap length (led_from d.puzzle e.trail ks.levels led_here) in
              omega (arith, count, rest, from, to, some)
          | false ↦ λ at count later.
              let rest = lengths_meet d.puzzle (row_from d.puzzle ls.levels false) now None
              (before_either_way (row_from d.puzzle ls.levels false) now later) tt in
              let from = ap length (at_from d.puzzle d.trail ls.levels false at) in
              let to = ap length (led_from d.puzzle e.trail ks.levels led_here) in
              let one = one_less d.puzzle d.trail ls.levels (at.solved refl) in
              omega (arith, count, rest, from, to, one)
        ] a counted_over (rows_from h)

    -- how many members it went on by
    gone : n < many → (many - 1 - n) + length (coming d.puzzle e.trail ks.levels true)
        ≡ length (coming d.puzzle d.trail ls.levels down)
    gone less = elim down as (λ v. IsAt d.puzzle d.trail ls.levels v → over_first many v
        + length (coming d.puzzle e.trail ks.levels true) ≡ n + length (coming d.puzzle d.trail ls.levels true)
        → (many - 1 - n) + length (coming d.puzzle e.trail ks.levels true)
        ≡ length (coming d.puzzle d.trail ls.levels v)) [
          | true ↦ λ at count. omega (arith, count, less)
          | false ↦ λ at count. omega (arith, count, less, one_less d.puzzle d.trail ls.levels (at.solved refl))
        ] a counted_over

    module _ (until : Option (List ℕ)) (before : is_before until (row_at d.puzzle ks.levels) ≡ true) where
      pub ran_out : 0 < begun → Advances d.puzzle (row_from d.puzzle ls.levels down) until (row_at d.puzzle ks.levels)
          (many - 1 - n)
      ran_out h = advances d.puzzle _ until (row_at d.puzzle ks.levels) (many - 1 - n) (rows_from h)
          (end_not_before until _ before)
          (omega (
            arith,
            gone (still_more h),
            ap length (at_from d.puzzle d.trail ls.levels down a),
            ap length (led_from d.puzzle e.trail ks.levels led_here),
          ))

      -- it stands at a member
      module _ (solved : IsSolved d.puzzle e.trail ks.levels) (last : n ≡ 0) where
        -- where no branch was begun it stands where it stood
        no_earlier : (precedes (row_from d.puzzle ls.levels down) (row_at d.puzzle ks.levels) ≡ true)
            ⊎ (row_from d.puzzle ls.levels down ≡ row_at d.puzzle ks.levels)
        no_earlier = by_number begun
            (λ h. let same = s.same h in
            let all : over_first many down ≡ 0 = omega (arith, same.2, last) in
            let levels = ap (λ (l : Levels). row_at d.puzzle l.levels) (sym same.1) in
            inr (first down all ∙ levels))
            (λ k h. inl (rows_from (omega (arith, h))))
          where
            first : (down : Bool) → over_first many down ≡ 0
                → row_from d.puzzle ls.levels down ≡ row_at d.puzzle ls.levels
            first true h = refl
            first false h = absurd (omega (arith, h, some))

        not_later : precedes (row_at d.puzzle ks.levels) (row_from d.puzzle ls.levels down) ≡ false
        not_later = elim no_earlier [
          | inl h ↦ before_either_way began now h
          | inr h ↦ rw h (not_itself now)
        ]

        later : precedes (row_from d.puzzle ls.levels down) (row_from d.puzzle ks.levels false) ≡ true
        later = elim no_earlier [
          | inl h ↦ before_not_before began now (now ++ 0 ∷ []) h
              (before_either_way now (now ++ 0 ∷ []) (right_behind now))
          | inr h ↦ rw h (right_behind now)
        ]

        here : IsAt d.puzzle e.trail ks.levels false
        here = record { led = led_here; solved = λ _. solved }

        pub at_member : Advances d.puzzle (row_from d.puzzle ls.levels down) until
            (row_from d.puzzle ks.levels false) many
        at_member = advances d.puzzle _ until (row_from d.puzzle ks.levels false) many later
            (end_not_right_behind until _ before)
            (omega (
              arith,
              gone (omega (arith, last, some)),
              last,
              some,
              one_less d.puzzle e.trail ks.levels solved,
              ap length (at_from d.puzzle d.trail ls.levels down a),
              ap length (at_from d.puzzle e.trail ks.levels false here),
            ))

        -- and that is the last of them
        pub shown_there : (was : List Choice) → shown_after many (between d.puzzle began until) was
            ≡ choices_of d.puzzle ks.levels
        shown_there was =
            let front = between d.puzzle began (Some now) in
            let own = choices_of d.puzzle ks.levels in
            let found : coming d.puzzle e.trail ks.levels true ≡ own ∷ to_give d.puzzle e.trail ks.levels =
            solution d.puzzle e.trail ks.levels (solved.standing.searchable refl).legal solved.none in
            let rest = within_span d.puzzle now until
            ∙ ap (filter (λ m. is_before until (row_of m))) (led_from d.puzzle e.trail ks.levels led_here ∙ found) in
            let here : filter (λ m. is_before until (row_of m)) (own ∷ to_give d.puzzle e.trail ks.levels)
            ≡ own ∷ filter (λ m. is_before until (row_of m)) (to_give d.puzzle e.trail ks.levels) =
            rw before refl in
            let all = sym (spans_meet d.puzzle began now until not_later (end_not_before until now before))
            ∙ ap (λ ms. front ++ ms) (rest ∙ here) in
            let count : suc (length front) ≡ many =
            omega (
              arith,
              some,
              last,
              gone (omega (arith, last, some)),
              lengths_meet d.puzzle began now None not_later tt,
              ap length (at_from d.puzzle d.trail ls.levels down a),
              ap length (led_from d.puzzle e.trail ks.levels led_here),
            ) in
            rw all (subst (λ n. shown_after n (front ++ own
            ∷ filter (λ m. is_before until (row_of m)) (to_give d.puzzle e.trail ks.levels)) was ≡ own) count
            (shown_last front own _ was))

-- it came to its end
module _ {d e : Dancing} {ls ks : Levels} {down : Bool} {many n : ℕ} {until : Option (List ℕ)}
    (a : IsAt d.puzzle d.trail ls.levels down) (s : EndsSpan d ls (over_first many down) until e ks n) (some : 0 < many)
    (before : is_before until (row_at d.puzzle ls.levels) ≡ true)
  where
    pub at_end : (n < many) × (length (between d.puzzle (row_from d.puzzle ls.levels down) until) ≡ many - 1 - n)
    at_end = elim down as (λ v. IsAt d.puzzle d.trail ls.levels v → over_first many v
        ≡ n + length (between d.puzzle (row_at d.puzzle ls.levels) until) →
        (n < many) × (length (between d.puzzle (row_from d.puzzle ls.levels v) until) ≡ many - 1 - n)) [
          | true ↦ λ at count. (omega (arith, count, some), omega (arith, count, some))
          | false ↦ λ at count.
              let row = row_at d.puzzle ls.levels in
              let back = before_either_way row (row ++ 0 ∷ []) (right_behind row) in
              let within = lengths_meet d.puzzle row (row ++ 0 ∷ []) until back
              (end_not_right_behind until row before) in
              let all = lengths_meet d.puzzle row (row ++ 0 ∷ []) None back tt in
              let from = ap length (led_from d.puzzle d.trail ls.levels at.led) in
              let to = ap length (at_from d.puzzle d.trail ls.levels false at) in
              let one = one_less d.puzzle d.trail ls.levels (at.solved refl) in
              (omega (arith, count, within, all, from, to, one), omega (arith, count, within, all, from, to, one))
        ] a s.count

-- ---- where a search begins

pub none_long : {X : Type 0} (xs : List X) → length xs ≡ 0 → xs ≡ []
none_long [] h = refl
none_long (x ∷ xs) h = absurd (omega (arith, h))

from_row : (p : Puzzle) (from : List ℕ) → filter (λ m. not (precedes (row_of m) from)) (members p) ≡ between p from None
from_row p from = filter_agree _ _ (λ m. grind (arith, nat_tests)) (members p)

-- it reached a row, and no member stands between
module _ (p : Puzzle) (from row : List ℕ) (reached : precedes row from ≡ false)
    (same : between p from None ≡ between p row None)
  where
    pub begins_within : (until : Option (List ℕ)) → between p row until ≡ between p from until
    begins_within until =
        within_span p row until ∙ ap (filter (λ m. is_before until (row_of m))) (sym same)
        ∙ sym (within_span p from until)

    pub none_passed : between p from (Some row) ≡ []
    none_passed =
        none_long _ (omega (arith, lengths_meet p from row None reached tt, ap length same))

pub begins_from : (p : Puzzle) (t : List Move) (ls : List Level) (from : List ℕ) (all : List (List Choice))
    → AreLed p [] t ls → precedes (row_at p ls) from ≡ false → all ≡ members p →
    filter (λ m. not (precedes (row_of m) from)) all ≡ filter (λ m. not (precedes (row_of m) from)) (coming p t ls true)
    → between p from None ≡ between p (row_at p ls) None
begins_from p t ls from all led reached is kept = grind (arith, from_row, led_from, between_kept, row_at)

-- none is left
pub none_from : (p : Puzzle) (from : List ℕ) (all : List (List Choice)) (until : Option (List ℕ)) → all ≡ members p
    → filter (λ m. not (precedes (row_of m) from)) all ≡ [] → between p from until ≡ []
none_from p from all until is none = grind (arith, within_span, from_row)

-- What a search that begins at a row stands for: whether it reached one, and that before its span's end.
module _ (p : Puzzle) (t : List Move) (ls : List Level) (from : List ℕ) (until : Option (List ℕ))
    (all : List (List Choice)) (reaches within : Bool) (led : reaches ≡ true → AreLed p [] t ls) (start : all ≡
    members p)
    (at : reaches ≡ true → precedes (row_at p ls) from ≡ false)
    (kept : reaches ≡ true → filter (λ m. not (precedes (row_of m) from)) all
    ≡ filter (λ m. not (precedes (row_of m) from)) (coming p t ls true))
    (none : reaches ≡ false → filter (λ m. not (precedes (row_of m) from)) all ≡ [])
    (is : within ≡ is_before until (row_at p ls))
  where
    same : reaches ≡ true → between p from None ≡ between p (row_at p ls) None
    same h = begins_from p t ls from all (led h) (at h) start (kept h)

    pub first_left : (ended : Bool) → ended ≡ not reaches || not within
        → unwrap_or (option_map (λ row. between p row until) (cond ended None (Some (row_at p ls)))) []
        ≡ between p from until
    first_left ended e = by_bool reaches
        (λ r. by_bool within
        (λ w. let more : ended ≡ false = rw (r, w) at e in
        rw more (begins_within p from (row_at p ls) (at r) (same r) until))
        (λ w. let shut : ended ≡ true = rw (r, w) at e in
        rw shut (sym (none_within p (row_at p ls) until (sym is ∙ w))
        ∙ begins_within p from (row_at p ls) (at r) (same r) until)))
        (λ r. let shut : ended ≡ true = rw r at e in
        rw shut (sym (none_from p from all until start (none r))))

    pub first_row : (ended : Bool) → ended ≡ not reaches || not within
        → IfSome (cond ended None (Some (row_at p ls))) (λ row.
        (precedes row from ≡ false) × (between p from (Some row) ≡ []))
    first_row ended e = by_bool ended (λ h. rw h tt) (λ h.
        let r : reaches ≡ true = by_bool reaches (λ r. r) (λ r.
        let shut : ended ≡ true = rw r at e in absurd (cc (shut, h))) in
        rw h (at r, none_passed p from (row_at p ls) (at r) (same r)))

-- ======== How a run of a search of a span goes.

module _ {bound : Bool} {c : ℕ} {u until : Option (List ℕ)} {d e : Dancing} {ls ks : Levels}
    {m most n begun steps : ℕ} (s : Stands c u d ls m e ks n begun) (count : bound ≡ true → begun + steps ≡ most)
  where
    pub runs_to_steps : bound ≡ true → steps ≡ 0 → is_before until (row_at e.puzzle ks.levels) ≡ true
        → RunsTo bound c u until d ls m most Steps e ks n steps
    runs_to_steps is zero before = record {
      begun = begun;
      bounded = count;
      stands = λ _. s;
      before = λ _. before;
      solved = λ h. absurd (cc h);
      ran_out = λ _. (is, zero);
      past = λ h. absurd (cc h);
      ended = λ h. absurd (cc h);
      counted = s.counted;
      made = stands_made s;
    }

    pub runs_to_member : {f : Dancing} {js : Levels} {o : ℕ} → f ≡ e → js ≡ ks → n ≡ 0 → o ≡ 0
        → IsSolved e.puzzle e.trail ks.levels → is_before until (row_at e.puzzle ks.levels) ≡ true
        → RunsTo bound c u until d ls m most Member f js o steps
    runs_to_member {f} {js} {o} ef ej zero none solved before =
        let same : o ≡ n = none ∙ sym zero in
        rw (ef, ej) (record {
          begun = begun;
          bounded = count;
          stands = λ _. rw same s;
          before = λ _. before;
          solved = λ _. (none, solved);
          ran_out = λ h. absurd (cc h);
          past = λ h. absurd (cc h);
          ended = λ h. absurd (cc h);
          counted = s.counted;
          made = stands_made s;
        })

    pub runs_to_end : {f : Dancing} {js : Levels} {o : ℕ} → Ends c u e ks n f js o
        → (js.begun ≡ ks.begun) × (moves_made f ≤ e.undone + room_for e.puzzle)
        → RunsTo bound c u until d ls m most Nothing f js o steps
    runs_to_end {f} b made = record {
      begun = begun;
      bounded = count;
      stands = λ h. absurd (h refl);
      before = λ h. elim h [
        | inl i ↦ absurd (cc i)
        | inr i ↦ absurd (cc i)
      ];
      solved = λ h. absurd (cc h);
      ran_out = λ h. absurd (cc h);
      past = λ h. absurd (cc h);
      ended = λ _. ends_on s b;
      counted = omega (arith, made.0, s.counted);
      made = ends_made s (moves_made f) made.1;
    }

    pub runs_to_row : {f : Dancing} {js : Levels} {o : ℕ} → bound ≡ true → 0 < steps → BeginsBranch c u e ks n f js o
        → is_before until (row_at f.puzzle js.levels) ≡ false
        → RunsTo bound c u until d ls m most Row f js o (steps - 1)
    runs_to_row is some b past = record {
      begun = begun + 1;
      bounded = λ h. omega (arith, count h, some);
      stands = λ _. stands_more s b;
      before = λ h. elim h [
        | inl i ↦ absurd (cc i)
        | inr i ↦ absurd (cc i)
      ];
      solved = λ h. absurd (cc h);
      ran_out = λ h. absurd (cc h);
      past = λ _. (is, past);
      ended = λ h. absurd (cc h);
      counted = (stands_more s b).counted;
      made = stands_made (stands_more s b);
    }

-- what is known of an end of its own is known of another on the way to a row, where no branch was begun
pub seen_rest : {way : Bool} {first : ℕ} {u until : Option (List ℕ)} {d e : Dancing} {ls ks : Levels}
    {m most n begun steps last : ℕ} → IsSeenBy way u until first most d.puzzle ls.levels
    → Stands first u d ls m e ks n begun → (way ≡ true → begun + steps ≡ most) → (way ≡ true → 0 < steps)
    → (way ≡ true → begun ≡ 0 → 2 ^ 64 - 1 ≤ last) → IsRest until e.puzzle ks.levels last first
    → IsRest u e.puzzle ks.levels last first
seen_rest (inl same) s count going far rest = rw same rest
seen_rest {begun = begun} (inr (is, one, before, leaves)) s count going far rest =
    let none : begun ≡ 0 = omega (arith, count is, going is, one) in
    let here = s.same none in
    rw (here.0, here.1) (record {
      before = before;
      all = λ near. absurd (omega (arith, near, far is none));
      leaves = leaves;
    })

-- a search halts there by branch items alone
halts_by : {until : Option (List ℕ)} {d e : Dancing} {ls ks : Levels} {m n begun : ℕ}
    → Stands 1 until d ls m e ks n begun → AreLed e.puzzle [] e.trail ks.levels
    → Halts until d ls m e ks n begun
halts_by s led = record {
  still = s.still;
  standing = s.standing;
  led = led;
  over = s.over;
  same = s.same;
  later = s.later;
}

module _ {until : Option (List ℕ)} {d b : Dancing} {ls js : Levels} {m n most steps : ℕ} {stop : Stop}
    (led : AreLed d.puzzle [] d.trail ls.levels)
    (r : RunsTo true 1 until until d ls m most stop b js n steps)
  where
    -- so many moves were made
    all_made : (more made : ℕ)
        → made ≤ (d.undone + room_for d.puzzle * (r.begun + 1)) + room_for d.puzzle * (more + 1)
        → made ≤ moves_made d + room_for d.puzzle * (r.begun + more + 2)
    all_made more made h =
        let all : (r.begun + 1) + (more + 1) ≡ r.begun + more + 2 = omega arith in
        let both = mul-add (room_for d.puzzle) (r.begun + 1) (more + 1) in
        rw (← all) (omega (arith, both, h))

    -- a run halts at a member, or comes to the end
    pub ran_to : stop ≢ Steps → RanTo d ls m most until stop b js n steps
    ran_to aside = record {
      begun = r.begun;
      bounded = r.bounded refl;
      halts = λ h. elim h [
        | inl i ↦
            let at = (r.solved i).1 in
            let some : listing (residual_of b.puzzle b.trail) ≢ [] = λ none.
            cc (solved_alone b.puzzle b.trail js.levels at, none) in
            let stands = r.stands (λ e. absurd (cc (i, e))) in
            halts_by stands (led_exact b.puzzle [] b.trail js.levels
            (stands.path [] (led_by _ _ _ _ led)) some)
        | inr i ↦ absurd (aside i)
      ];
      before = r.before;
      solved = r.solved;
      ran_out = λ h. (r.ran_out h).1;
      ended = λ h. elim h [
        | inl i ↦ ends_at_row led (r.stands (λ e. absurd (cc (i, e)))) (r.past i).1
        | inr i ↦ ends_all led (r.ended i)
      ];
      more = 0;
      counted = omega (arith, r.counted);
      few = omega arith;
      none = λ _. refl;
      made = all_made 0 (moves_made b) (omega (arith, r.made));
    }

    -- or it has no more steps, and goes on to a row of the search's tree
    module _ {e : Dancing} {ks : Levels} {found : Bool} (is : stop ≡ Steps) (some : 0 < most)
        (s : Settles b js e ks found)
      where
        stands : Stands 1 until d ls m b js n r.begun
        stands = r.stands (λ e. absurd (cc (is, e)))

        begun : 0 < r.begun
        begun = omega (arith, some, r.bounded refl, (r.ran_out is).1)

        still : (e ≡ record d { trail = e.trail; undone = e.undone })
            × (ks ≡ record ls { levels = ks.levels; begun = ks.begun })
        still = grind (arith, stands.still, s.still)

        halts : found ≡ true → Halts until d ls m e ks n r.begun
        halts h = record {
          still = still;
          standing = s.standing h;
          led = s.led h;
          over = subst (PassesOver 1 until m n (coming d.puzzle d.trail ls.levels true)) (s.members h) stands.over;
          same = λ z. absurd (omega (arith, z, begun));
          later = λ _. before_not_before (numbers ls.levels) (numbers js.levels) (numbers ks.levels)
              (stands.later begun) (s.row h);
        }

        -- and began one more
        counted : ks.begun ≡ ls.begun + r.begun + s.way.begun
        counted = omega (arith, stands.counted, s.way.counted)

        made : moves_made e ≤ moves_made d + room_for d.puzzle * (r.begun + s.way.begun + 2)
        made =
            let puzzle = ap (λ (b : Dancing). b.puzzle) stands.still.0 in
            let way : moves_made e ≤ moves_made b + room_for d.puzzle * (s.way.begun + 1) = rw puzzle at s.way.made in
            all_made s.way.begun (moves_made e) (omega (arith, r.made, way))

        pub settled : found ≡ true → is_before until (row_at e.puzzle ks.levels) ≡ true
            → RanTo d ls m most until Steps e ks n steps
        settled h before = record {
          begun = r.begun;
          bounded = r.bounded refl;
          halts = λ _. halts h;
          before = λ _. before;
          solved = λ i. absurd (cc i);
          ran_out = λ _. (r.ran_out is).1;
          ended = λ i. elim i [
            | inl j ↦ absurd (cc j)
            | inr j ↦ absurd (cc j)
          ];
          more = s.way.begun;
          counted = counted;
          few = s.way.few;
          none = λ i. absurd (omega (arith, i, (r.ran_out is).1));
          made = made;
        }

        -- which may be none of its span
        ended : EndsSpan d ls m until e ks n → (end : Stop) → end ≢ Member → end ≢ Steps
            → RanTo d ls m most until end e ks n steps
        ended ends end a c = record {
          begun = r.begun;
          bounded = r.bounded refl;
          halts = λ i. elim i [
            | inl j ↦ absurd (a j)
            | inr j ↦ absurd (c j)
          ];
          before = λ i. elim i [
            | inl j ↦ absurd (a j)
            | inr j ↦ absurd (c j)
          ];
          solved = λ i. absurd (a i);
          ran_out = λ i. absurd (c i);
          ended = λ _. ends;
          more = s.way.begun;
          counted = counted;
          few = s.way.few;
          none = λ i. absurd (omega (arith, i, (r.ran_out is).1));
          made = made;
        }

        pub settled_behind : found ≡ true → is_before until (row_at e.puzzle ks.levels) ≡ false
            → RanTo d ls m most until Row e ks n steps
        settled_behind h past =
            ended (ends_span led still s.stacked stands.over
            (ap (filter (λ m. is_before until (row_of m))) (s.members h)
            ∙ none_before true e.puzzle e.trail ks.levels until (s.led h) past)) Row (λ i. cc i) (λ i. cc i)

        pub settled_nowhere : found ≡ false → RanTo d ls m most until Nothing e ks n steps
        settled_nowhere h =
            ended (ends_span led still s.stacked stands.over
            (ap (filter (λ m. is_before until (row_of m))) (s.none h))) Nothing (λ i. cc i) (λ i. cc i)

-- one step of a search that passes over one member at most, with no end
module _ {c : ℕ} {u : Option (List ℕ)} {d e : Dancing} {ls ks : Levels} {n steps : ℕ} {stop : Stop}
    (r : RunsTo true c u None d ls 1 1 stop e ks n steps)
    (goes_on : (stop ≡ Member) ⊎ ((stop ≡ Steps) ⊎ (stop ≡ Row)))
  where
    stood : Stands c u d ls 1 e ks n r.begun
    stood = r.stands (λ e. elim goes_on [
      | inl i ↦ absurd (cc (i, e))
      | inr j ↦ elim j [
        | inl i ↦ absurd (cc (i, e))
        | inr i ↦ absurd (cc (i, e))
      ]
    ])

    -- a branch was begun
    one : r.begun ≡ 1
    one = elim goes_on [
      | inl i ↦ by_number r.begun
          (λ h. absurd (omega (arith, (stood.same h).2, (r.solved i).0)))
          (λ k h. omega (arith, h, r.bounded refl))
      | inr j ↦ elim j [
        | inl i ↦ omega (arith, r.bounded refl, (r.ran_out i).1)
        | inr i ↦ absurd (cc ((r.past i).1))
      ]
    ]

    pub step_stands : Stands c u d ls 1 e ks n 1
    step_stands = subst (Stands c u d ls 1 e ks n) one stood

-- a run without bounds
module _ {d e : Dancing} {ls ks : Levels} {m most n steps : ℕ} {stop : Stop}
    (r : RunsTo false 1 None None d ls m most stop e ks n steps)
  where
    -- is at the member behind those that it was to pass over
    pub member_behind : stop ≡ Member
        → ((e ≡ record d { trail = e.trail; undone = e.undone })
        × (ks ≡ record ls { levels = ks.levels; begun = ks.begun }))
        × IsSolved e.puzzle e.trail ks.levels
        × (drop m (coming d.puzzle d.trail ls.levels true) ≡ coming e.puzzle e.trail ks.levels true)
    member_behind is =
        let s = r.stands (λ h. absurd (cc (is, h))) in (
          s.still,
          (r.solved is).1,
          subst (λ n. drop m (coming d.puzzle d.trail ls.levels true)
              ≡ drop n (coming e.puzzle e.trail ks.levels true)) (r.solved is).0 (drop_over s.over),
        )

    -- or came to the end
    pub comes_to_end : (stop ≡ Steps) ⊎ ((stop ≡ Row) ⊎ (stop ≡ Nothing)) → stop ≡ Nothing
    comes_to_end (inl is) = absurd (cc ((r.ran_out is).0))
    comes_to_end (inr (inl is)) = absurd (cc ((r.past is).0))
    comes_to_end (inr (inr is)) = is
