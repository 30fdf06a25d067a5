-- The text of a span, and the search that it is written from.
use Rattle.std.proofs.Common.{ℕ, zero, suc, ◌≡◌, ◌+◌, ◌-◌, ◌<◌, ◌≤◌, List, [], ◌∷◌, ◌++◌, Option, Some, None, length}
use Rattle.std.proofs.Common.{take, drop, get_or, refl, sym, ap, ◌∙◌, arith, append_assoc, append-nil, take_all, subst}
use Rattle.std.proofs.Common.{◌^◌, ◌⊎◌, true, false, ap₂, inl, inr, length-append, ◌*◌}
use Rattle.std.specs.Prelude.{slice_get, option_and_then, decimal, flat_map, unwrap_or, Result, Ok, Err, MatchResult}
use Rattle.std.specs.Prelude.{IfSome, IsSome, IsSomeAnd, All, codes, map, IfOk}
use Rattle.std.proofs.lemmas.Bool.Decides.{nat_tests}
use Rattle.std.proofs.lemmas.Grind.{common_steps}
use Rattle.std.proofs.lemmas.Option.{slice_get_within, slice_get_past, slice_get_cases}
use Rattle.std.proofs.lemmas.List.Concat.{flat_map-append}
use Rattle.std.proofs.lemmas.List.{take-append-drop, length-take, length-map}
use Rattle.std.specs.List.{enumerate_from}
use Rattle.std.proofs.Math.Seq.{take-append_seam}
use Rattle.std.proofs.Math.Nat.{mul-add, mul-le-mul_left}
use Rattle.std.proofs.lemmas.List.Elements.{All-from_recursion, recursion_from_All}
use Rattle.xc_input.specs.Problem.{Puzzle}
use Rattle.xc_input.specs.Named.{Named, IsSound}
use Rattle.xc_text.proofs.ListLemmas.{in-filter, each_in, each_from, take_more-get}
use Rattle.xc_search.specs.Listing.{whole}
use Rattle.xc_search.specs.InSpan.{InSpan, branches_along, left_of, reached, row_or_end}
use Rattle.xc_search.specs.declared.choice.Choice.{Choice}
use Rattle.xc_search.specs.declared.went.Halt.{Halt}
use Rattle.xc_search.specs.declared.went.Went.{Went}
use Rattle.xc_search.specs.declared.went.Halt.TheVariants.{Member, End, Steps}
use Rattle.xc_search.specs.Outlook.{shown_after, Outlook, MakesFew}
use Rattle.xc_search.specs.Spans.{precedes, between}
use Rattle.xc_search.specs.Going.{WentOnBy}
use Rattle.xc_search.specs.Ends.{ends, ends_after}
use Rattle.xc_search.specs.Room.{room_for}
use Rattle.xc_search.specs.Nodes.{IsRowOf, RowsGoOn, row_count}
use Rattle.xc_search.proofs.RowLemmas.{not_itself, not_before_before, before_either_way, spans_meet, rows_end}
use Rattle.xc_search.proofs.SpanRuns.{none_long}
use Rattle.xc_search.proofs.EndLemmas.{ends_on}
use Rattle.xc_text.specs.Texts.{SinkState, Took, BrokeOff}
use Rattle.xc_list.specs.SpanTexts.{row_text, end_at, branches_text, record_front, span_text, problem_part}
use Rattle.xc_list.specs.SpanTexts.{closed_text}
use Rattle.xc_list.specs.inner.Writing.{dotted, numbers_text, text_at, row_in, branches_in, left_at, WentOn, GoesFew}
use Rattle.xc_list.specs.inner.Writing.{until_text, counts_text, told_text, written_text, BeginsAt, closing}
use Rattle.xc_list.specs.SpanRuns.{SpanMakesFew, most_steps, StopsAt, OfSpan, searched, StopInTurn}
use Rattle.xc_list.specs.SpanWords.{AskedSpan, is_span}
use Rattle.xc_list.specs.Known.{IsKnownChoice}
use Rattle.xc_list.specs.Digests.{digest_of, text_digest}
use Rattle.xc_list.specs.SearchedSpans.{AreSmall, IsSpan}
use Rattle.xc_text.proofs.SinkLemmas.{then_took, then_broke, broke_before}
use Rattle.xc_list.proofs.Writing.{first_texts, texts_broke, within_next}
use Rattle.xc_list.proofs.Writing.{take_next, rest_next, all_done, branches_small, numbers_small}
use Rattle.xc_list.proofs.OutputLemmas.{members_known}

-- ======== The text of a span, piece by piece.

-- ---- rows

pub row_parts : (row : List ℕ) → 1 ≤ length row
    → row_text row ≡ decimal (get_or row 0 0) ++ flat_map dotted (take (length row - 1) (drop 1 row))
row_parts [] h = absurd (omega (arith, h))
row_parts (n ∷ row) h =
    ap (λ ns. decimal n ++ flat_map dotted ns) (sym (take_all (length (n ∷ row) - 1) row (omega arith)))

dotted_next : (row : List ℕ) (i n : ℕ) → slice_get row i ≡ Some n
    → flat_map dotted (take (i + 1) row) ≡ flat_map dotted (take i row) ++ dotted n
dotted_next row i n e =
    ap (flat_map dotted) (take_more-get row i n e)
    ∙ flat_map-append dotted (take i row) (n ∷ [])
    ∙ ap (λ t. flat_map dotted (take i row) ++ t) (append-nil (dotted n))

pub numbers_next : (row : List ℕ) (i n : ℕ) → slice_get row i ≡ Some n
    → numbers_text (take (i + 1) row) ≡ numbers_text (take i row) ++ text_at i n
numbers_next [] i n e = absurd (omega (arith, slice_get_within [] i n e))
numbers_next (k ∷ row) zero n e = grind (arith, nat_tests, append-nil)
numbers_next (k ∷ row) (suc i) n e = grind (arith, nat_tests, append_assoc, dotted_next row i n e)

pub numbers_all : (row : List ℕ) (i : ℕ) → slice_get row i ≡ None → i ≤ length row → take i row ≡ row
numbers_all row i e h = grind (arith, common_steps, slice_get_cases row i)

-- ---- where a search stands

in_row : (row : Option (List ℕ)) (i : ℕ) → option_and_then (λ row. slice_get row i) row ≡ slice_get (unwrap_or row []) i
in_row None i = sym (slice_get_past [] i (omega arith))
in_row (Some row) i = refl

along_row : (p : Puzzle) (row : Option (List ℕ)) (i : ℕ)
    → option_and_then (λ row. slice_get (branches_along (whole p) row) i) row
    ≡ slice_get (branches_along (whole p) (unwrap_or row [])) i
along_row p None i = sym (slice_get_past [] i (omega arith))
along_row p (Some row) i = refl

-- the number at a place of a row, and the branches of its level
pub number_in : (s : InSpan) (i n : ℕ) → Some n ≡ option_and_then (λ row. slice_get row i) s.row
    → slice_get (row_in s) i ≡ Some n
number_in s i n e = sym (e ∙ in_row s.row i)

pub branches_at : (s : InSpan) (i n : ℕ)
    → Some n ≡ option_and_then (λ row. slice_get (branches_along (whole s.puzzle) row) i) s.row
    → slice_get (branches_in s) i ≡ Some n
branches_at s i n e = sym (e ∙ along_row s.puzzle s.row i)

pub no_branches : (s : InSpan) (i : ℕ)
    → None ≡ option_and_then (λ row. slice_get (branches_along (whole s.puzzle) row) i) s.row
    → slice_get (branches_in s) i ≡ None
no_branches s i e = sym (e ∙ along_row s.puzzle s.row i)

-- the text of numbers goes on by the next one
dotted_behind : (row : List ℕ) (i : ℕ) → i ≤ length row
    → flat_map dotted row ≡ flat_map dotted (take i row) ++ flat_map dotted (drop i row)
dotted_behind row i h =
    ap (flat_map dotted) (sym (take-append-drop i row)) ∙ flat_map-append dotted (take i row) (drop i row)

numbers_behind : (row : List ℕ) (i : ℕ) → i < length row
    → numbers_text row ≡ numbers_text (take (i + 1) row) ++ flat_map dotted (drop (i + 1) row)
numbers_behind [] i h = absurd (omega (arith, h))
numbers_behind (k ∷ row) i h = grind (arith, common_steps, append_assoc, dotted_behind row i)

module _ (row : List ℕ) (i n : ℕ) (e : slice_get row i ≡ Some n) {x y z : SinkState}
    (so_far : Took x y (numbers_text (take i row))) where
  pub broke_next : BrokeOff y z (text_at i n) → BrokeOff x z (numbers_text row)
  broke_next b =
      subst (BrokeOff x z) (sym (numbers_behind row i (slice_get_within row i n e) ∙ ap
      (λ t. t ++ flat_map dotted (drop (i + 1) row)) (numbers_next row i n e))) (broke_before _ (then_broke so_far b))

pub took_all : (row : List ℕ) (i : ℕ) → slice_get row i ≡ None → i ≤ length row → {x y : SinkState}
    → Took x y (numbers_text (take i row)) → Took x y (numbers_text row)
took_all row i e h {x = x} {y = y} t = subst (λ ns. Took x y (numbers_text ns)) (numbers_all row i e h) t

-- a sink that broke off in the next of some texts broke off in all of them
pub texts_broke_all : {X : Type 0} (f : ℕ × X → List ℕ) (ms : List X) (k : ℕ) {m : X} {rest : List X}
    {x y z : SinkState} → drop k ms ≡ m ∷ rest → Took x y (first_texts f ms k) → BrokeOff y z (f (k + 1, m))
    → BrokeOff x z (flat_map f (enumerate_from 1 ms))
texts_broke_all f ms k {x = x} {z = z} e so_far broke =
    subst (λ ms. BrokeOff x z (flat_map f (enumerate_from 1 ms))) (take_all (length ms) ms (omega arith))
    (texts_broke f ms k (length ms) e (within_next ms k e) so_far broke)

-- a text, and then what a call answers with
pub then_result : {X E : Type 0} (P : X → Type 0) (t : X → List ℕ) (u : List ℕ) (r : Result X E)
    (z : SinkState) {x y : SinkState} {s : List ℕ} → Took x y s
    → MatchResult r (λ w. P w × Took y z (t w)) (λ _. BrokeOff y z u)
    → MatchResult r (λ w. P w × Took x z (s ++ t w)) (λ _. BrokeOff x z (s ++ u))
then_result P t u (Ok w) z took more = (more.0, then_took took more.1)
then_result P t u (Err e) z took more = then_broke took more

-- the same of a text that is noted
pub then_noted : {X E : Type 0} (t : X → List ℕ) (r : Result X E) (z : SinkState) {x y : SinkState} {s : List ℕ}
    → Took x y s → IfOk r (λ w. Took y z (t w)) → IfOk r (λ w. Took x z (s ++ t w))
then_noted t (Ok w) z took more = then_took took more
then_noted t (Err e) z took more = tt

-- ======== How a search of a span goes on, member by member.

-- A call went on from one row to another.
pub record Called (p : Puzzle) (until r q : Option (List ℕ)) (was shown : List Choice) (many steps : ℕ) (w : Went) :
    Type 0 where
  pub passed : IfSome r (λ a. left_at p until r ≡ between p a (row_or_end q until) ++ left_at p until q)
  pub count : IfSome r (λ a. length (between p a (row_or_end q until)) ≡ w.members)
  pub later : 0 < many → 0 < steps → IfSome r (λ a. IfSome q (λ b. precedes a b ≡ true))
  pub member : w.halt ≡ Member → (w.members ≡ many) × (shown ≡ shown_after many (left_at p until r) was)
  pub end : w.halt ≡ End → q ≡ None
  pub ran_out : w.halt ≡ Steps → (w.steps ≡ steps) × (w.members < many)
  pub within : w.steps ≤ steps
  pub ended : r ≡ None → (w.halt ≡ End) × (w.members ≡ 0)
  pub fewer : 0 < many → w.halt ≡ End → w.members < many
  pub stays : steps ≡ 0 → q ≡ r
  pub stands : (w.halt ≡ Member) ⊎ (w.halt ≡ Steps)
      → IsSomeAnd q (λ b. IfSome until (λ u. precedes u b ≡ false))

-- what a call of a search promises
pub called : (o n : InSpan) (many steps : ℕ) (w : Went) → WentOnBy many steps w o n
    → Called o.puzzle o.until o.row n.row o.shown n.shown many steps w
called o n many steps w h = record {
  passed = subst (λ (s : InSpan). IfSome o.row (λ a. left_of o ≡ between o.puzzle a (reached s) ++ left_of s)) h.still
      h.passes.passed;
  count = subst (λ (s : InSpan). IfSome o.row (λ a. length (between o.puzzle a (reached s)) ≡ w.members)) h.still
      h.passes.count;
  later = h.comes.later;
  member = h.halts.member;
  end = λ is. (h.halts.end is).0;
  ran_out = λ is. ((h.halts.ran_out is).2, (h.halts.ran_out is).3);
  within = h.passes.within.0;
  ended = λ is. ((h.halts.ended is).0, (h.halts.ended is).1);
  fewer = h.halts.fewer;
  stays = h.comes.stays;
  stands = λ is. subst (λ (s : InSpan). IsSomeAnd n.row (λ b. IfSome s.until (λ u. precedes u b ≡ false))) h.still
      (h.comes.stands is);
}

-- what it passed is the front of what was left
front_passed : (p : Puzzle) (until r q : Option (List ℕ)) (n : ℕ)
    → IfSome r (λ a. left_at p until r ≡ between p a (row_or_end q until) ++ left_at p until q)
    → IfSome r (λ a. length (between p a (row_or_end q until)) ≡ n)
    → IfSome r (λ a. (between p a (row_or_end q until) ≡ take n (left_at p until r)) × (n ≤ length (left_at p until r)))
front_passed p until None q n h c = tt
front_passed p until (Some r) q n h c = rw h (
  rw (← c) (sym (take-append_seam (between p r (row_or_end q until)) _)),
  omega (arith, c, length-append (between p r (row_or_end q until)) (left_at p until q)),
)

pub other_end : (w : Went) → w.halt ≡ End → (w.halt ≡ Member) ⊎ (w.halt ≡ Steps) → ⊥
other_end w e (inl h) = absurd (cc (e, h))
other_end w e (inr h) = absurd (cc (e, h))

-- at the end it passed all
all_at_end : (p : Puzzle) (until : Option (List ℕ)) (r : List ℕ) (q : Option (List ℕ)) (n : ℕ) → q ≡ None
    → length (between p r (row_or_end q until)) ≡ n → n ≡ length (between p r until)
all_at_end p until r None n e c = sym c
all_at_end p until r (Some q) n e c = absurd (cc e)

-- one call, which counts
pub counted : (p : Puzzle) (until r q : Option (List ℕ)) (was shown : List Choice) (most : ℕ) (w : Went) → 0 < most
    → Called p until r q was shown (2 ^ 64 - 1) most w → WentOn p until r q most w
counted p until None q was shown most w some h =
    let e = h.ended refl in
    record {
      passed = tt;
      count = omega (arith, e.1);
      few = h.within;
      ended = λ is. (h.end is, e.1);
      later = tt;
      stands = λ is. absurd (other_end w e.0 is);
      steps = λ is. absurd (other_end w e.0 (inr is));
      most_members = λ is. absurd (other_end w e.0 (inl is));
    }
counted p until (Some r) q was shown most w some h =
    let front = front_passed p until (Some r) q w.members h.passed h.count in
    record {
      passed = front.0;
      count = front.1;
      few = h.within;
      ended = λ is. (h.end is, all_at_end p until r q w.members (h.end is) h.count);
      later = h.later (omega arith) some;
      stands = λ is. (refl, h.stands is);
      steps = λ is. (h.ran_out is).0;
      most_members = λ is. (h.member is).0;
    }

-- ---- member by member

-- So many members were passed on the way from the first row to this one, in so many steps.
pub record IsAhead (p : Puzzle) (until first r : Option (List ℕ)) (most k steps : ℕ) : Type 0 where
  pub left : left_at p until r ≡ drop k (left_at p until first)
  pub within : k ≤ length (left_at p until first)
  pub passed : IfSome first (λ a. IfSome r (λ b. between p a (Some b) ≡ take k (left_at p until first)))
  pub behind : IfSome first (λ a. IfSome r (λ b. precedes b a ≡ false))
  pub later : 0 < k → IfSome first (λ a. IfSome r (λ b. precedes a b ≡ true))
  pub stands : 0 < k → IsSome first × IsSomeAnd r (λ b. IfSome until (λ u. precedes u b ≡ false))
  pub none : first ≡ None → r ≡ None
  pub few : steps ≤ most
  pub start : k ≡ 0 → steps ≡ 0

none_there : (p : Puzzle) (b : List ℕ) → length (between p b (Some b)) ≡ 0
none_there p b =
    let whole = spans_meet p b b None (not_itself b) tt in
    omega (arith, ap length whole, length-append (between p b (Some b)) (between p b None))

some_or_none : (n : ℕ) → (n ≡ 0) ⊎ (0 < n)
some_or_none zero = inl refl
some_or_none (suc n) = inr (omega arith)

first_of : (xs ys zs : List (List Choice)) (was : List Choice) → zs ≡ xs ++ ys → length xs ≡ 1
    → (zs ≡ shown_after 1 zs was ∷ ys) × (xs ≡ shown_after 1 zs was ∷ [])
first_of [] ys zs was e h = absurd (omega (arith, h))
first_of (x ∷ []) ys zs was e h = rw e (refl, refl)
first_of (x ∷ y ∷ xs) ys zs was e h = absurd (omega (arith, h))

-- a call that is to come to the next member
module _ (p : Puzzle) (until : Option (List ℕ)) (most k steps : ℕ) (was shown : List Choice) (w : Went) where
  -- it came there
  abbrev Next : Option (List ℕ) → Option (List ℕ) → Type 0
  Next first q = (drop k (left_at p until first) ≡ shown ∷ left_at p until q)
      × IsAhead p until first q most (k + 1) (steps + w.steps)

  -- to a later row
  was_later : (b c : List ℕ) → Called p until (Some b) (Some c) was shown 1 (most - steps) w
      → 0 < length (between p b (Some c)) → precedes b c ≡ true
  was_later b c h some = elim (some_or_none (most - steps)) [
    | inl z ↦
        let same = ap (λ (r : Option (List ℕ)). length (between p b r)) (h.stays z) in
        absurd (omega (arith, some, none_there p b, same))
    | inr z ↦ h.later (omega arith) z
  ]

  -- the row where it stands isn't before the one where it stood
  not_earlier : (b c : List ℕ) → Called p until (Some b) (Some c) was shown 1 (most - steps) w
      → precedes c b ≡ false
  not_earlier b c h = elim (some_or_none (most - steps)) [
    | inl z ↦ subst (λ r. IfSome r (λ c. precedes c b ≡ false)) (sym (h.stays z)) (not_itself b)
    | inr z ↦ before_either_way b c (h.later (omega arith) z)
  ]

  -- and it is behind the first one
  behind_first : (f b c : List ℕ) → 0 < most → IsAhead p until (Some f) (Some b) most k steps
      → Called p until (Some b) (Some c) was shown 1 (most - steps) w → precedes f c ≡ true
  behind_first f b c some a h = elim (some_or_none (most - steps)) [
    | inl z ↦ elim (some_or_none k) [
      | inl e ↦ absurd (omega (arith, z, some, a.start e))
      | inr e ↦ subst (λ r. IfSome r (λ c. precedes f c ≡ true)) (sym (h.stays z)) (a.later e)
    ]
    | inr z ↦ not_before_before f b c a.behind (h.later (omega arith) z)
  ]

  -- how far the search went with it
  abbrev Halted : Option (List ℕ) → Option (List ℕ) → Type 0
  Halted first q = WentOn p until first q most (record { halt = w.halt; members = k; steps = steps + w.steps })

  -- it came to the end
  all_passed : (first r q : Option (List ℕ)) → IsAhead p until first r most k steps
      → Called p until r q was shown 1 (most - steps) w → w.halt ≡ End → k ≡ length (left_at p until first)
  all_passed first None q a h is = all_done (left_at p until first) k (sym a.left) a.within
  all_passed first (Some b) q a h is =
      let none : length (between p b until) ≡ 0 =
      omega (arith, all_at_end p until b q w.members (h.end is) h.count, h.fewer (omega arith) is) in
      all_done (left_at p until first) k (sym a.left ∙ none_long (between p b until) none) a.within

  whole_passed : (first : Option (List ℕ)) → k ≡ length (left_at p until first)
      → IfSome first (λ a. between p a until ≡ take k (left_at p until first))
  whole_passed None e = tt
  whole_passed (Some f) e = sym (take_all k (between p f until) (omega (arith, e)))

  no_row : (first : Option (List ℕ)) → IfSome first (λ a. IfSome None (λ b. precedes a b ≡ true))
  no_row None = tt
  no_row (Some f) = tt

-- how far the search came with the call, by where it halted
module _ {p : Puzzle} {until : Option (List ℕ)} {most k steps : ℕ} {was shown : List Choice} {w : Went} where
  -- at the next member
  pub to_member : {first r q : Option (List ℕ)} → IsAhead p until first r most k steps
      → Called p until r q was shown 1 (most - steps) w → w.halt ≡ Member
      → Next p until most k steps was shown w first q
  to_member {r = None} a h is = absurd (other_end w (h.ended refl).0 (inl is))
  to_member {r = Some b} {q = None} a h is = absurd (h.stands (inl is))
  to_member {first = None} {r = Some b} {q = Some c} a h is = absurd (cc (a.none refl))
  to_member {first = Some f} {r = Some b} {q = Some c} a h is =
      let one : length (between p b (Some c)) ≡ 1 = h.count ∙ (h.member is).0 in
      let at = first_of (between p b (Some c)) (left_at p until (Some c)) (left_at p until (Some b)) was h.passed one in
      let later = was_later p until most k steps was shown w b c h (omega (arith, one)) in
      let next : drop k (left_at p until (Some f)) ≡ shown ∷ left_at p until (Some c) =
      sym a.left ∙ at.0 ∙ ap (λ m. m ∷ left_at p until (Some c)) (sym (h.member is).1) in
      let ms = left_at p until (Some f) in (
        next,
        record {
          left = rest_next ms k next;
          within = omega (arith, within_next ms k next);
          passed = sym (spans_meet p f b (Some c) a.behind (before_either_way b c later))
              ∙ ap₂ (λ xs ys. xs ++ ys) a.passed (at.1 ∙ ap (λ m. m ∷ []) (sym (h.member is).1))
              ∙ sym (take_next ms k next);
          behind = before_either_way f c (not_before_before f b c a.behind later);
          later = λ _. not_before_before f b c a.behind later;
          stands = λ _. (refl, h.stands (inl is));
          none = λ e. absurd (cc e);
          few = omega (arith, a.few, h.within);
          start = λ e. absurd (omega (arith, e));
        },
      )

  -- at the end
  pub to_end : {first r q : Option (List ℕ)} → IsAhead p until first r most k steps
      → Called p until r q was shown 1 (most - steps) w → w.halt ≡ End → Halted p until most k steps was shown w first q
  to_end {first = first} {r = r} {q = q} a h is =
      let all = all_passed p until most k steps was shown w first r q a h is in
      rw (h.end is) (record {
        passed = whole_passed p until most k steps was shown w first all;
        count = a.within;
        few = omega (arith, a.few, h.within);
        ended = λ _. (refl, all);
        later = no_row p until most k steps was shown w first;
        stands = λ e. absurd (other_end w is e);
        steps = λ e. absurd (other_end w is (inr e));
        most_members = λ e. absurd (other_end w is (inl e));
      })

  -- where all steps were used
  pub to_steps : {first r q : Option (List ℕ)} → 0 < most → IsAhead p until first r most k steps
      → Called p until r q was shown 1 (most - steps) w → w.halt ≡ Steps
      → Halted p until most k steps was shown w first q
  to_steps {r = None} some a h is = absurd (other_end w (h.ended refl).0 (inr is))
  to_steps {r = Some b} {q = None} some a h is = absurd (h.stands (inr is))
  to_steps {first = None} {r = Some b} {q = Some c} some a h is = absurd (cc (a.none refl))
  to_steps {first = Some f} {r = Some b} {q = Some c} some a h is =
      let none : length (between p b (Some c)) ≡ 0 = omega (arith, h.count, (h.ran_out is).1) in
      let spent = h.ran_out is in
      record {
        passed = sym (spans_meet p f b (Some c) a.behind (not_earlier p until most k steps was shown w b c h))
            ∙ ap₂ (λ xs ys. xs ++ ys) a.passed (none_long (between p b (Some c)) none)
            ∙ append-nil (take k (left_at p until (Some f)));
        count = a.within;
        few = omega (arith, a.few, h.within);
        ended = λ e. absurd (other_end w e (inr is));
        later = behind_first p until most k steps was shown w f b c some a h;
        stands = λ _. (refl, h.stands (inr is));
        steps = λ _. omega (arith, spent.0, a.few);
        most_members = λ e. absurd (cc (e, is));
      }

-- at the most members
pub at_most_members : {p : Puzzle} {until first r : Option (List ℕ)} {most k steps : ℕ}
    → IsAhead p until first r most k steps → k ≡ 2 ^ 64 - 1
    → WentOn p until first r most (record { halt = Member; members = k; steps = steps })
at_most_members {r = None} a e = absurd (a.stands (omega (arith, e))).1
at_most_members {first = None} {r = Some b} a e = absurd (cc (a.none refl))
at_most_members {first = Some f} {r = Some b} a e = record {
  passed = a.passed;
  count = a.within;
  few = a.few;
  ended = λ h. absurd (cc h);
  later = a.later (omega (arith, e));
  stands = λ _. a.stands (omega (arith, e));
  steps = λ h. absurd (cc h);
  most_members = λ _. e;
}

-- none were passed
pub none_passed : {p : Puzzle} {until first : Option (List ℕ)} {most : ℕ} → IsAhead p until first first most 0 0
none_passed {p = p} {first = first} = record {
  left = refl;
  within = omega arith;
  passed = none_before first first refl;
  behind = itself first;
  later = λ h. absurd (omega (arith, h));
  stands = λ h. absurd (omega (arith, h));
  none = λ e. e;
  few = omega arith;
  start = λ _. refl;
} where
  itself : (r : Option (List ℕ)) → IfSome r (λ a. IfSome r (λ b. precedes b a ≡ false))
  itself None = tt
  itself (Some r) = not_itself r

  none_before : (f r : Option (List ℕ)) → f ≡ r → IfSome r (λ a. IfSome r (λ b. between p a (Some b) ≡ []))
  none_before f None e = tt
  none_before f (Some r) e = none_long (between p r (Some r)) (none_there p r)

-- it halted at a member, at the end, or for want of steps
pub halts : (h : Halt) → (h ≡ Member → ⊥) → (h ≡ End) ⊎ (h ≡ Steps)
halts Member e = absurd (e refl)
halts End e = inl refl
halts Steps e = inr refl

-- ======== How many moves a search has made once it went on.

-- from where it stood a search made few moves, and from the start with them
pub few_on : (p : Puzzle) (o w : Outlook) (start k n : ℕ) → o.puzzle ≡ p → o.ahead ≡ ends_after k (ends (whole p))
    → o.made + room_for p * length o.ahead ≤ start + room_for p * length (ends (whole p)) → MakesFew o w
    → w.ahead ≡ ends_after n o.ahead → w.made + room_for p * length (ends_after (k + n) (ends (whole p)))
    ≤ start + room_for p * length (ends (whole p))
few_on p o w start k n same at before few to = grind (arith, ends, whole, ends_on)

-- ======== How many moves a run over a span makes.

-- none were made where none was asked
pub few_none : (s : InSpan) → GoesFew 0 0 s s
few_none s = record {
  taken = omega (arith, refl {a = s.begun});
  moves = omega (arith, refl {a = s.begun});
  begun = omega (arith, refl {a = s.begun});
}

moves_on : (r m n o b c d k : ℕ) → n + r * b ≤ m + r * (c + 2 * k) → o + r * c ≤ n + r * (d + 2)
    → o + r * b ≤ m + r * (d + 2 * (k + 1))
moves_on r m n o b c d k h i =
    omega (arith, h, i, mul-add r c (2 * k), mul-add r d 2, mul-add r d (2 * (k + 1)), mul-add r (2 * k) 2)

-- one call more
pub few_next : {s t n : InSpan} {calls a many most : ℕ} {w : Went} → t.puzzle ≡ s.puzzle → GoesFew calls a s t
    → WentOnBy many most w t n → GoesFew (calls + 1) (a + w.steps) s n
few_next {s = s} {t = t} {n = n} {calls = calls} same few went =
    let by = went.passes.begun in
    record {
      taken = omega (arith, few.taken, by.1);
      moves = moves_on (room_for s.puzzle) s.made t.made n.made s.begun t.begun n.begun calls few.moves
          (rw (sym same) went.passes.moves);
      begun = omega (arith, few.begun, by.1, by.2);
    }

moves_more : (r m n b c j k : ℕ) → n + r * b ≤ m + r * (c + 2 * j) → j ≤ k → n + r * b ≤ m + r * (c + 2 * k)
moves_more r m n b c j k h i =
    let more : c + 2 * j ≤ c + 2 * k = omega (arith, i) in omega (arith, h, mul-le-mul_left r more)

-- more calls allow more
pub few_more : {s n : InSpan} {j k a : ℕ} → j ≤ k → GoesFew j a s n → GoesFew k a s n
few_more {s = s} {n = n} {j = j} {k = k} h few = record {
  taken = few.taken;
  moves = moves_more (room_for s.puzzle) s.made n.made s.begun n.begun j k few.moves h;
  begun = omega (arith, few.begun, h);
}

all_few : (r m n o b c k f : ℕ) → n ≤ m + r * (b + 2) → o + r * b ≤ n + r * (c + 2 * k) → c + 2 * k + 2 ≤ f
    → o ≤ m + r * f
all_few r m n o b c k f h i j =
    omega (arith, h, i, mul-add r b 2, mul-add r (c + 2 * k) 2, mul-le-mul_left r j)

-- from the beginning on, with the way to the first row, till it was closed, with no move on the trail
pub span_few : (p : Puzzle) (asked : AskedSpan) (m : ℕ) (s n : InSpan) (w : Went) → s.puzzle ≡ p
    → s.begun ≤ length asked.from + 1 → s.made ≤ m + room_for p * (s.begun + 2)
    → GoesFew (w.members + 1) w.steps s n → SpanMakesFew p asked m (n.made + 0) w
span_few p asked m s n w same way moves few =
    let k = w.members + 1 in
    let none : n.made + 0 ≡ n.made = grind arith in
    rw none (all_few (room_for p) m s.made n.made s.begun n.begun k _ moves (rw same at few.moves)
    (omega (arith, few.begun, way)))

-- ======== The text of a span as a whole.

-- ---- records

row_numbered : (row : List ℕ) → 0 < length row → numbers_text row ≡ row_text row
row_numbered [] h = absurd (omega (arith, h))
row_numbered (n ∷ row) h = refl

branches_many : (r : _) (row : List ℕ) → 0 < length row → 0 < length (branches_along r row)
branches_many r [] h = absurd (omega (arith, h))
branches_many r (k ∷ row) h = omega arith

joined : (a b c d m e f g h i : List ℕ)
    → a ++ b ++ c ++ (d ++ m) ++ (e ++ f ++ g ++ h) ++ i ≡ a ++ b ++ c ++ d ++ m ++ e ++ f ++ g ++ h ++ i
joined a b c d m e f g h i = simp append_assoc

told_as : (n : InSpan) (from until row : List ℕ) (branches : Option (List ℕ)) (w : Went) (digest : List ℕ)
    → until_text n until w.halt ≡ row_text row ++ branches_text branches
    → told_text n from until w digest ≡ record_front from row branches w.members w.steps digest
told_as n from until row branches w digest e =
    ap (λ t. codes "from " ++ row_text from ++ codes " until " ++ t ++ counts_text w ++ problem_part digest) e
    ∙ joined (codes "from ") (row_text from) (codes " until ") (row_text row) (branches_text branches)
    (codes " solutions ") (decimal w.members) (codes " steps ") (decimal w.steps) (problem_part digest)

until_end : (n : InSpan) (until : List ℕ) (h : Halt) → h ≡ End → until_text n until h ≡ row_text until
until_end n until End is = refl
until_end n until Member is = absurd (cc is)
until_end n until Steps is = absurd (cc is)

-- where it came to the end
told_end : (n : InSpan) (from until : List ℕ) (w : Went) (digest : List ℕ) → w.halt ≡ End
    → told_text n from until w digest ≡ record_front from until None w.members w.steps digest
told_end n from until w digest is =
    told_as n from until until None w digest (until_end n until w.halt is ∙ sym (append-nil (row_text until)))

until_halt : (n : InSpan) (until : List ℕ) (h : Halt) → (h ≡ Member) ⊎ (h ≡ Steps)
    → until_text n until h ≡ numbers_text (row_in n) ++ codes " of " ++ numbers_text (branches_in n)
until_halt n until Member is = refl
until_halt n until Steps is = refl
until_halt n until End (inl is) = absurd (cc is)
until_halt n until End (inr is) = absurd (cc is)

-- where it stopped
told_stop : (p : Puzzle) (n : InSpan) (from until row : List ℕ) (w : Went) (digest : List ℕ) → n.puzzle ≡ p
    → (w.halt ≡ Member) ⊎ (w.halt ≡ Steps) → n.row ≡ Some row → 0 < length row
    → told_text n from until w digest
    ≡ record_front from row (Some (branches_along (whole p) row)) w.members w.steps digest
told_stop p n from until row w digest e is at some =
    let branches = branches_along (whole p) row in
    let stop : until_text n until w.halt ≡ row_text row ++ branches_text (Some branches) =
    until_halt n until w.halt is
    ∙ rw (at, e) (rw (row_numbered row some, row_numbered branches (branches_many (whole p) row some)) (append_assoc
    (row_text row) (codes " of ") (row_text branches))) in
    told_as n from until row (Some branches) w digest stop

-- ---- members

known_between : (p : Puzzle) (from : List ℕ) (until : Option (List ℕ))
    → All (All (IsKnownChoice p)) (between p from until)
known_between p from until =
    let known = All (IsKnownChoice p) in
    All-from_recursion known (between p from until) (each_from _ _ (λ m h.
    each_in _ _ _ (recursion_from_All known _ (members_known p)) (in-filter _ _ _ h).0))

pub known_left : (p : Puzzle) (from : List ℕ) (until : Option (List ℕ)) (s : InSpan) → BeginsAt p from until s
    → All (All (IsKnownChoice p)) (left_of s)
known_left p from until s b = subst (All (All (IsKnownChoice p))) (sym b.left) (known_between p from until)

-- ---- the whole

closed_parts : (l t m d n : List ℕ) → l ++ (t ++ (m ++ d ++ n)) ≡ l ++ t ++ m ++ d ++ n
closed_parts l t m d n = simp append_assoc

broke_closed : (l t : List ℕ) {x z : SinkState} → BrokeOff x z l → BrokeOff x z (closed_text (l ++ t))
broke_closed l t broke = broke_before _ (broke_before _ (broke_before _ (broke_before _ broke)))

row_end : (row : List ℕ) → 0 < length row → end_at row ≡ Some row
row_end [] h = absurd (omega (arith, h))
row_end (n ∷ row) h = refl

later_some : (a b : List ℕ) → precedes a b ≡ true → 0 < length b
later_some a [] e = absurd (cc e)
later_some a (n ∷ b) e = omega arith

halt_cases : (h : Halt) → (h ≡ End) ⊎ ((h ≡ Member) ⊎ (h ≡ Steps))
halt_cases Member = inr (inl refl)
halt_cases End = inl refl
halt_cases Steps = inr (inr refl)

forward : (from until : List ℕ) → is_span from until ≡ true → IfSome (end_at until) (λ u. precedes u from ≡ false)
forward from [] e = tt
forward from (n ∷ until) e = grind (arith, nat_tests)

-- the rows and the steps that words ask for are small numbers
pub record AreSmallWords (asked : AskedSpan) : Type 0 where
  pub from : AreSmall asked.from
  pub until : AreSmall asked.until
  pub steps : asked.steps < 2 ^ 64

most_small : (n : ℕ) → n < 2 ^ 64 → most_steps n < 2 ^ 64
most_small n h = grind (arith, nat_tests)

module _ (a : Named) (asked : AskedSpan) (words : AreSmallWords asked) (w : Went) where
  abbrev p : Puzzle
  p = a.puzzle

  steps_small : w.steps ≤ most_steps asked.steps → w.steps < 2 ^ 64
  steps_small few = omega (arith, few, most_small asked.steps words.steps)

  one_to_end : w.steps ≤ most_steps asked.steps
      → length (between p asked.from (end_at asked.until)) ≡ w.members
      → is_span asked.from asked.until ≡ true → w.members < 2 ^ 64 → IsSpan a (searched asked asked.until None w)
  one_to_end few many is counted = record {
    forward = forward asked.from asked.until is;
    from = words.from;
    until = words.until;
    branches = tt;
    steps = steps_small few;
    few = omega (arith, many, counted);
  }

  -- it ended, or stopped at a row
  stopped : (r q : Option (List ℕ)) → IfSome r (λ row. (precedes row asked.from ≡ false)
      × (between p asked.from (Some row) ≡ [])) → WentOn p (end_at asked.until) r q (most_steps asked.steps) w
      → (w.halt ≡ Member) ⊎ (w.halt ≡ Steps) → IfSome q (λ row. IsRowOf (whole p) row)
      → (row : List ℕ) × (q ≡ Some row) × StopsAt p asked row w × (0 < length row)
      × (between p asked.from (end_at row) ≡ take w.members (left_at p (end_at asked.until) r))
  stopped None q begun o is node = absurd (cc (o.stands is).0)
  stopped (Some f) None begun o is node = absurd (o.stands is).1
  stopped (Some f) (Some row) begun o is node =
      let later = not_before_before asked.from f row begun.0 o.later in
      let some = later_some asked.from row later in (
        row,
        refl,
        record {
          node = node;
          later = later;
          within = (o.stands is).1;
          spent = elim is [ inl m ↦ inr (m, o.most_members m) | inr s ↦ inl (s, o.steps s) ];
        },
        some,
        ap (between p asked.from) (row_end row some)
            ∙ sym (spans_meet p asked.from f (Some row) begun.0 (before_either_way f row o.later))
            ∙ ap (λ xs. xs ++ between p f (Some row)) begun.1
            ∙ o.passed,
      )

  module _ (sound : IsSound a) (R : SinkState → SinkState → List ℕ → Type 0) {x y z : SinkState}
      (join : (s t : List ℕ) → Took x y s → R y z t → R x z (s ++ t)) (s n : InSpan)
      (begun : BeginsAt p asked.from (end_at asked.until) s)
      (still : n ≡ record s { row = n.row; shown = n.shown; made = n.made; begun = n.begun })
      (node : IfSome n.row (λ row. IsRowOf (whole n.puzzle) row))
      (o : WentOn s.puzzle s.until s.row n.row (most_steps asked.steps) w)
      (listing : Took x y (written_text a asked.listed asked.from (take w.members (left_of s))))
      (told : R y z (told_text n asked.from asked.until w (digest_of a) ++ closing (text_digest (written_text a
      asked.listed asked.from (take w.members (left_of s)) ++ told_text n asked.from asked.until w (digest_of a)))))
    where
      went : WentOn p (end_at asked.until) s.row n.row (most_steps asked.steps) w
      went = rw (begun.puzzle, begun.until) at o

      left : left_of s ≡ left_at p (end_at asked.until) s.row
      left = rw (begun.puzzle, begun.until) refl

      puzzle : n.puzzle ≡ p
      puzzle = ap (λ (s : InSpan). s.puzzle) still ∙ begun.puzzle

      -- the text, where these are the members up to a row
      text : (row : List ℕ) (branches : Option (List ℕ))
          → between p asked.from (end_at row) ≡ take w.members (left_of s)
          → told_text n asked.from asked.until w (digest_of a)
          ≡ record_front asked.from row branches w.members w.steps (digest_of a)
          → w.members ≤ length (left_of s)
          → (length (between p asked.from (end_at row)) ≡ w.members)
          × R x z (span_text a asked.listed asked.from row branches w.steps)
      text row branches found line fits =
          let many : length (between p asked.from (end_at row)) ≡ w.members =
          omega (arith, ap length found, length-take w.members (left_of s), fits) in
          let front = written_text a asked.listed asked.from (take w.members (left_of s)) in
          let line_told = told_text n asked.from asked.until w (digest_of a) in
          let closed : R x z (closed_text (front ++ line_told)) =
          subst (R x z) (closed_parts front line_told (codes " text ") (text_digest (front ++ line_told)) (codes "\n"))
          (join _ _ listing told) in
          (many, rw (many, found) (subst (λ t. R x z (closed_text (front ++ t))) line closed))

      fits : w.members ≤ length (left_of s)
      fits = o.count

      one_to_stop : (row : List ℕ) → n.row ≡ Some row → precedes asked.from row ≡ true → 0 < length row
          → length (between p asked.from (end_at row)) ≡ w.members → w.members < 2 ^ 64
          → IsSpan a (searched asked row (Some (branches_along (whole p) row)) w)
      one_to_stop row at later some many counted =
          let is : IsRowOf (whole p) row = rw (at, puzzle) at node in
          record {
            forward = rw (row_end row some) (before_either_way asked.from row later);
            from = words.from;
            until = numbers_small a sound row is;
            branches = branches_small a sound row;
            steps = steps_small o.few;
            few = omega (arith, many, counted);
          }

      pub of_span : OfSpan a asked w R x z
      of_span = elim (halt_cases w.halt) [
        | inl is ↦
            let whole = take_all w.members (left_of s) (omega (arith, o.ended is)) in
            let all = text asked.until None (sym begun.left ∙ sym whole
            ) (told_end n asked.from asked.until w (digest_of a) is) fits in
            record {
              row = asked.until;
              branches = None;
              goes = (is, refl);
              few = o.few;
              members = all.0;
              is_one = one_to_end o.few all.0;
              said = all.1;
            }
        | inr is ↦
            let at = stopped s.row n.row begun.row went is (rw puzzle at node) in
            let branches = branches_along (whole p) at.0 in
            let all = text at.0 (Some branches) (at.4 ∙ ap (take w.members) (sym left)) (told_stop p n
            asked.from asked.until at.0 w (digest_of a) puzzle is at.1 at.3) fits in
            record {
              row = at.0;
              branches = Some branches;
              goes = (at.2, refl);
              few = o.few;
              members = all.0;
              is_one = λ _. one_to_stop at.0 at.1 at.2.later at.3 all.0;
              said = all.1;
            }
      ]

-- a sink that broke off in the listing broke off in the text of the whole span
pub of_broken : (a : Named) (asked : AskedSpan) → AreSmallWords asked
    → (s : InSpan) → BeginsAt a.puzzle asked.from (end_at asked.until) s
    → {x z : SinkState} → BrokeOff x z (written_text a asked.listed asked.from (left_of s))
    → (w : Went) × OfSpan a asked w BrokeOff x z
of_broken a asked words s begun {x = x} {z = z} broke =
    let w : Went = record { halt = End; members = length (left_of s); steps = 0 } in (
      w,
      record {
        row = asked.until;
        branches = None;
        goes = (refl, refl);
        few = omega arith;
        members = ap length (sym begun.left);
        is_one = one_to_end a asked words w (omega arith) (ap length (sym begun.left));
        said = broke_closed _ _
            (subst (λ ms. BrokeOff x z (written_text a asked.listed asked.from ms)) begun.left broke);
      },
    )

-- ======== Spans that each begin where the one in front stopped.

stops_go_on : (p : Puzzle) (from : List ℕ) (runs : List (AskedSpan × List ℕ × Went)) → StopInTurn p from runs
    → RowsGoOn p from (map (λ r. r.1) runs)
stops_go_on puzzle from [] h = tt
stops_go_on puzzle from (s ∷ runs) h = (h.1.node, rw h.0 at h.1.later, stops_go_on puzzle s.1 runs h.2)

pub stops_end : (p : Puzzle) (from : List ℕ) (runs : List (AskedSpan × List ℕ × Went)) → IsRowOf (whole p) from
    → StopInTurn p from runs → length runs < row_count (whole p)
stops_end puzzle from runs is h =
    let rows = map (λ (r : AskedSpan × List ℕ × Went). r.1) runs in
    omega (
      arith,
      rows_end puzzle from rows is (stops_go_on puzzle from runs h),
      length-map runs
          (λ (r : AskedSpan × List ℕ × Went). r.1),
    )
