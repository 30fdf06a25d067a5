-- What is known of texts that runs over spans of one problem wrote, one after another.
use Rattle.std.proofs.Common.{◌≡◌, ℕ, Bool, true, false, List, [], ◌∷◌, ◌++◌, refl, sym, ap, ◌∙◌, arith, append_assoc}
use Rattle.std.proofs.Common.{append-nil, subst, ◌+◌, flat_map, map, length, length-append, ◌≤◌, suc, zero}
use Rattle.std.proofs.Common.{filter, take, Some, None}
use Rattle.std.specs.Prelude.{if◌then◌else◌, sum_by}
use Rattle.std.specs.List.{AllByRecursion, enumerate_from}
use Rattle.std.proofs.lemmas.Bool.Decides.{nat_tests}
use Rattle.std.proofs.lemmas.List.{map-append}
use Rattle.std.proofs.lemmas.List.Elements.{All-from_recursion, recursion_from_All}
use Rattle.std.proofs.lemmas.List.Sums.{sum_by-cons}
use Rattle.xc_input.specs.Named.{Named, IsSound}
use Rattle.xc_input.specs.Problem.{Puzzle}
use Rattle.xc_text.proofs.ListLemmas.{each_of_all}
use Rattle.xc_search.specs.declared.choice.Choice.{Choice}
use Rattle.xc_search.specs.Cover.{members}
use Rattle.xc_search.specs.Spans.{between}
use Rattle.xc_search.proofs.RowLemmas.{all_between, keep_none, spans_meet}
use Rattle.xc_list.specs.Digests.{digest_of}
use Rattle.xc_list.specs.Output.{member_text, is_printed, output}
use Rattle.xc_list.specs.Runs.{end_of}
use Rattle.xc_list.specs.SpanTexts.{end_at, most_counted}
use Rattle.xc_list.specs.SearchedSpans.{SearchedSpan, IsSpan, members_of, text_of}
use Rattle.xc_list.specs.SpanRuns.{searched}
use Rattle.xc_list.specs.SpanWords.{is_span}
use Rattle.xc_tools.specs.Joins.{AreOfOneProblem, DoMeet, end_of_texts, joined, spans_in}
use Rattle.xc_tools.specs.SpanRuns.{AreTexts, AreWritten, IsWritten}
use Rattle.xc_tools.specs.SpanShapes.{AreShapes, SpanText, HasShape, bytes_of}
use Rattle.xc_tools.proofs.SpanLines.{member-solution, shape-short, shape_of, shown, solution_of, span-short}
use Rattle.xc_tools.proofs.SpanLines.{text-shape, told_from}
use Rattle.xc_tools.proofs.Chains.{from-listed, read-once}

-- ======== Texts that runs over spans of one problem wrote, one after another.

-- the span of a text that was written
span-written : (a : Named) (listed : Bool) (from until text : List ℕ) → IsWritten a listed from until text
    → (s : SearchedSpan) × IsSpan a s × (text_of a listed s ≡ text) × (s.from ≡ from) × (s.until ≡ until)
span-written a listed from until text w =
    let of = w.of in
    let s = searched w.asked of.row of.branches w.went in
    let one : is_span w.asked.from w.asked.until ≡ true = grind (arith, nat_tests, w.is_asked.2) in
    (s, of.is_one one w.counted, ap (λ l. text_of a l s) (sym w.is_asked.0) ∙ of.said, w.is_asked.1, w.up_to)

pub written-meet : (a : Named) (listed : Bool) (row : List ℕ) (texts : List (List ℕ)) → AreWritten a listed row texts
    → (spans : List SearchedSpan) × AllByRecursion (IsSpan a) spans
    × (flat_map (text_of a listed) spans ≡ flat_map (λ t. t) texts) × DoMeet row spans
written-meet a listed row [] w = absurd w
written-meet a listed row (text ∷ texts) w = by-until w.0 w.1 w.2 (λ n u. written-meet a listed (n ∷ u) texts)
  where
    by-until : (until : List ℕ) → IsWritten a listed row until text
        → elim until as (λ u. Type 0) [ [] ↦ texts ≡ [] | n ∷ u ↦ AreWritten a listed (n ∷ u) texts ]
        → ((n : ℕ) (u : List ℕ) → AreWritten a listed (n ∷ u) texts → (spans : List SearchedSpan)
        × AllByRecursion (IsSpan a) spans × (flat_map (text_of a listed) spans ≡ flat_map (λ t. t) texts)
        × DoMeet (n ∷ u) spans)
        → (spans : List SearchedSpan) × AllByRecursion (IsSpan a) spans
        × (flat_map (text_of a listed) spans ≡ flat_map (λ t. t) (text ∷ texts)) × DoMeet row spans
    by-until [] w last more =
        let one = span-written a listed row [] text w in
        let none : List SearchedSpan = [] in (
          one.0 ∷ [],
          (one.1, tt),
          cc (one.2, last),
          (
            one.3,
            subst (λ until. elim until as (λ u. Type 0) [ [] ↦ none ≡ [] | n ∷ u ↦ DoMeet (n ∷ u) none ])
                (sym one.4) refl,
          ),
        )
    by-until (n ∷ u) w next more =
        let one = span-written a listed row (n ∷ u) text w in
        let rest = more n u next in (
          one.0 ∷ rest.0,
          (one.1, rest.1),
          cc (one.2, rest.2),
          (
            one.3,
            subst (λ until. elim until as (λ u. Type 0) [ [] ↦ rest.0 ≡ [] | n ∷ u ↦ DoMeet (n ∷ u) rest.0 ])
                (sym one.4) rest.3,
          ),
        )

pub written-texts : (a : Named) (listed : Bool) (texts : List (List ℕ)) → AreWritten a listed [] texts
    → (spans : List SearchedSpan) × AreTexts a listed spans (flat_map (λ t. t) texts) × DoMeet [] spans
written-texts a listed texts w =
    let so = written-meet a listed [] texts w in
    (so.0, record { each = All-from_recursion (IsSpan a) so.0 so.1; whole = so.2 }, so.3)

-- ---- shapes

shapes-are : (a : Named) (listed : Bool) (spans : List SearchedSpan) → IsSound a → AllByRecursion (IsSpan a) spans
    → AllByRecursion (HasShape listed) (map (shape_of a listed) spans)
    × (flat_map (bytes_of listed) (map (shape_of a listed) spans) ≡ flat_map (text_of a listed) spans)
    × (spans_in (map (shape_of a listed) spans) ≡ spans)
shapes-are a listed [] sound each = (tt, refl, refl)
shapes-are a listed (s ∷ spans) sound each =
    let rest = shapes-are a listed spans sound each.1 in
    let text = text-shape a listed s in (
      (shape-short listed (shape_of a listed s) (span-short a listed s sound each.0), rest.0),
      cc (sym text, rest.1),
      ap (λ ss. s ∷ ss) rest.2,
    )

pub texts-shapes : (a : Named) (listed : Bool) (spans : List SearchedSpan) (bytes : List ℕ) → IsSound a
    → AreTexts a listed spans bytes
    → (texts : List SpanText) × AreShapes listed texts bytes × (spans_in texts ≡ spans)
texts-shapes a listed spans bytes sound are =
    let so = shapes-are a listed spans sound (recursion_from_All (IsSpan a) spans are.each) in (
      map (shape_of a listed) spans,
      record { each = All-from_recursion (HasShape listed) _ so.0; whole = so.1 ∙ are.whole },
      so.2,
    )

-- ---- a join of them

-- the listing of members behind so many others
abbrev listed_from : Named → ℕ → List (List Choice) → List ℕ
listed_from a n [] = []
listed_from a n (m ∷ ms) = shown (n + 1) (member_text a (n + 1, m)) ++ listed_from a (n + 1) ms

told-listed : (a : Named) (n : ℕ) (ms : List (List Choice)) → told_from n (map (solution_of a) ms) ≡ listed_from a n ms
told-listed a n [] = refl
told-listed a n (m ∷ ms) =
    ap (λ t. shown (n + 1) t ++ told_from (n + 1) (map (solution_of a) ms)) (member-solution a (n + 1) m)
    ∙ ap (λ t. shown (n + 1) (member_text a (n + 1, m)) ++ t) (told-listed a (n + 1) ms)

past_most : (n : ℕ) (a : Named) (ms : List (List Choice)) → most_counted ≤ n → listed_from a n ms ≡ []
past_most n a [] h = refl
past_most n a (m ∷ ms) h = grind (arith, past_most (n + 1) a ms (omega (arith, h)))

abbrev printed_from : Named → ℕ → ℕ → List (List Choice) → List ℕ
printed_from a n most ms =
    flat_map (member_text a) (filter (λ nm. is_printed 1 nm.0) (enumerate_from n (take most ms)))

from-printed : (a : Named) (ms : List (List Choice)) (n most : ℕ) → n + most ≡ most_counted
    → listed_from a n ms ≡ printed_from a (n + 1) most ms
from-printed a [] n zero e = refl
from-printed a [] n (suc most) e = refl
from-printed a (m ∷ ms) n zero e = past_most n a (m ∷ ms) (omega (arith, e))
from-printed a (m ∷ ms) n (suc most) e =
    grind (arith, from-printed a ms (n + 1) most (omega (arith, e)))

-- ---- the members of spans that meet

abbrev so_far : Puzzle → List ℕ → List (List Choice)
so_far p row = between p [] (Some row)

so_far-none : (p : Puzzle) → so_far p [] ≡ []
so_far-none p = keep_none _ (members p) (each_of_all _ (members p) (λ m. refl))

module _ (a : Named) where
  so_far-span : (s : SearchedSpan) → IsSpan a s
      → so_far a.puzzle s.from ++ members_of a s ≡ between a.puzzle [] (end_at s.until)
  so_far-span s h = spans_meet a.puzzle [] s.from (end_at s.until) refl h.forward

  members-meet : (spans : List SearchedSpan) (row : List ℕ) → AllByRecursion (IsSpan a) spans → DoMeet row spans
      → so_far a.puzzle row ++ flat_map (members_of a) spans ≡ members a.puzzle
  members-meet [] row each meet = absurd meet
  members-meet (s ∷ spans) row each meet =
      subst (λ r. so_far a.puzzle r ++ (members_of a s ++ flat_map (members_of a) spans) ≡ members a.puzzle) meet.0
      (sym (append_assoc (so_far a.puzzle s.from) (members_of a s) (flat_map (members_of a) spans))
      ∙ ap (λ ms. ms ++ flat_map (members_of a) spans) (so_far-span s each.0)
      ∙ by-until s.until meet.1 (λ row. members-meet spans row each.1))
    where
      by-until : (until : List ℕ) → elim until as (λ u. Type 0) [ [] ↦ spans ≡ [] | n ∷ u ↦ DoMeet (n ∷ u) spans ]
          → ((row : List ℕ) → DoMeet row spans
          → so_far a.puzzle row ++ flat_map (members_of a) spans ≡ members a.puzzle)
          → between a.puzzle [] (end_at until) ++ flat_map (members_of a) spans ≡ members a.puzzle
      by-until [] none others =
          ap (λ ss. between a.puzzle [] None ++ flat_map (members_of a) ss) none
          ∙ append-nil (between a.puzzle [] None) ∙ all_between a.puzzle
      by-until (n ∷ u) meet others = others (n ∷ u) meet

  all-found : (spans : List SearchedSpan)
      → flat_map (λ t. t.found) (map (shape_of a true) spans) ≡ map (solution_of a) (flat_map (members_of a) spans)
  all-found [] = refl
  all-found (s ∷ spans) =
      ap (λ ss. map (solution_of a) (members_of a s) ++ ss) (all-found spans)
      ∙ sym (map-append (solution_of a) (members_of a s) (flat_map (members_of a) spans))

  none-found : (spans : List SearchedSpan) → flat_map (λ t. t.found) (map (shape_of a false) spans) ≡ []
  none-found [] = refl
  none-found (s ∷ spans) = none-found spans

  counts : (listed : Bool) (spans : List SearchedSpan)
      → sum_by (λ t. t.count) (map (shape_of a listed) spans) ≡ length (flat_map (members_of a) spans)
  counts listed [] = refl
  counts listed (s ∷ spans) = omega (
    arith,
    counts listed spans,
    sum_by-cons (λ (t : SpanText). t.count) (shape_of a listed s) (map (shape_of a listed) spans),
    length-append (members_of a s) (flat_map (members_of a) spans),
  )

  same-problem : (listed : Bool) (spans : List SearchedSpan)
      → AllByRecursion (λ t. t.digest ≡ digest_of a) (map (shape_of a listed) spans)
  same-problem listed [] = tt
  same-problem listed (s ∷ spans) = (refl, same-problem listed spans)

  joined-spans : (listed : Bool) (spans : List SearchedSpan) → flat_map (members_of a) spans ≡ members a.puzzle
      → joined (map (shape_of a listed) spans) ≡ (if listed then output a 1 most_counted else [])
  joined-spans true spans e =
      sym (from-listed (flat_map (λ t. t.found) (map (shape_of a true) spans)) 0 most_counted refl)
      ∙ ap (told_from 0) (all-found spans ∙ ap (map (solution_of a)) e) ∙ told-listed a 0 (members a.puzzle)
      ∙ from-printed a (members a.puzzle) 0 most_counted refl
  joined-spans false spans e =
      sym (from-listed (flat_map (λ t. t.found) (map (shape_of a false) spans)) 0 most_counted refl)
      ∙ ap (told_from 0) (none-found spans)

pub joined-written : (a : Named) (listed : Bool) (written : List (List ℕ)) (texts : List SpanText) → IsSound a
    → AreWritten a listed [] written → AreShapes listed texts (flat_map (λ t. t) written)
    → (joined texts ≡ (if listed then output a 1 most_counted else []))
    × (end_of_texts texts ≡ end_of a most_counted)
joined-written a listed written texts sound w are =
    let so = written-texts a listed written w in
    let spans = so.0 in
    let shape = shapes-are a listed spans sound (recursion_from_All (IsSpan a) spans so.1.each) in
    let us = map (shape_of a listed) spans in
    let same : AreShapes listed us (flat_map (λ t. t) written) = record {
      each = All-from_recursion (HasShape listed) us shape.0;
      whole = shape.1 ∙ so.1.whole;
    } in
    let meet = subst (DoMeet []) (sym shape.2) so.2 in
    let one : AreOfOneProblem us =
    (digest_of a, All-from_recursion (λ t. t.digest ≡ digest_of a) us (same-problem a listed spans)) in
    let once = read-once listed texts us (flat_map (λ t. t) written) are same meet one in
    let all = ap (λ ms. ms ++ flat_map (members_of a) spans) (sym (so_far-none a.puzzle))
    ∙ members-meet a spans [] (recursion_from_All (IsSpan a) spans so.1.each) so.2 in
    let count : sum_by (λ t. t.count) us ≡ length (members a.puzzle) = counts a listed spans ∙ ap length all in
    (once.0 ∙ joined-spans a listed spans all, once.1 ∙ grind (arith, count))
