-- What the lines of the text of a span come to.
use Rattle.std.proofs.Common.{◌≡◌, ℕ, ◌+◌, ◌^◌, ◌<◌, ◌≤◌, ◌⊎◌, inl, inr, Bool, true, false, List, [], ◌∷◌, ◌++◌, Option}
use Rattle.std.proofs.Common.{None, Some, length, flat_map, refl, sym, ap, ◌∙◌, arith, append_assoc, append-nil, map}
use Rattle.std.proofs.Common.{min, nat_lt, subst, zero, suc, filter}
use Rattle.std.specs.Prelude.{◌==◌, ◌&&◌, ◌||◌, not, codes, decimal, if◌then◌else◌, IfSome, MatchOption, is_some}
use Rattle.std.specs.Char.{is_ascii_digit}
use Rattle.std.specs.List.{AllByRecursion, enumerate_from, list_all}
use Rattle.std.specs.Str.{bytes_eq}
use Rattle.std.proofs.lemmas.Bool.Decides.{nat_tests}
use Rattle.std.proofs.lemmas.Fmt.{decimal_nonempty}
use Rattle.std.proofs.lemmas.Grind.{common_steps}
use Rattle.std.proofs.lemmas.List.{length-map}
use Rattle.std.proofs.lemmas.List.Sums.{fold-append}
use Rattle.std.proofs.lemmas.List.Elements.{recursion_from_All, All-from_recursion}
use Rattle.xc_input.specs.Named.{Named, IsKnownUse, IsSound}
use Rattle.xc_input.specs.Problem.{IsOption, IsPrimary, Puzzle, colour_in, uses_of}
use Rattle.xc_input.specs.UsePlaces.{place_in}
use Rattle.xc_text.specs.Words.{has}
use Rattle.xc_text.specs.inner.LineFeeds.{ended, AreWhole}
use Rattle.xc_text.proofs.ListLemmas.{by_bool, each-map, each_weaker, EachTwo, IsIn, each_from, each_in, in-filter}
use Rattle.xc_input.proofs.TokenLemmas.{digits}
use Rattle.xc_text.proofs.LineLemmas.{ended-append}
use Rattle.xc_input.proofs.LineLemmas.{known_option}
use Rattle.xc_search.specs.Spans.{precedes, between, is_before, row_of}
use Rattle.xc_search.specs.declared.choice.Choice.{Choice}
use Rattle.xc_search.specs.Listing.{whole}
use Rattle.xc_search.specs.Cover.{members}
use Rattle.xc_search.proofs.RowLemmas.{is_within, listing_rises}
use Rattle.xc_check.specs.ListingLines.{branch_number, words_in}
use Rattle.xc_list.specs.SpanTexts.{closed_text, most_counted, row_text, branches_text, end_at, heading_text}
use Rattle.xc_list.specs.SpanTexts.{record_front}
use Rattle.xc_list.specs.Output.{choice_text, member_text}
use Rattle.xc_list.specs.Digests.{after_byte, after_text, begun_digest, digest_of, digits_of}
use Rattle.xc_list.specs.declared.text_digest.TextDigest.{TextDigest}
use Rattle.xc_list.specs.SearchedSpans.{AreSmall, IsSpan, SearchedSpan, members_of, text_of}
use Rattle.xc_list.proofs.OutputLemmas.{header_line, before_last-last, body_words, plain-name, plain-use, AreCounted}
use Rattle.xc_list.proofs.OutputLemmas.{member_counted, choice-ended, choice_line, IsPlain, no_feed-header}
use Rattle.xc_list.proofs.OutputLemmas.{number-choice, read-choice}
use Rattle.xc_check.proofs.ClassLemmas.{All-turned, numbered_some, place_held}
use Rattle.xc_list.proofs.Writing.{digest-digits, digest-length}
use Rattle.xc_tools.specs.SpanShapes.{IsSolution, LieIn, Rise, ListedSolution, SpanText, TellsCount, solution_text}
use Rattle.xc_tools.specs.SpanShapes.{is_digest, HasShape, bytes_of}
use Rattle.xc_tools.specs.inner.SpanLines.{Risen, risen_after, ends_before, has_risen, Join, Stand, goes, faulty}
use Rattle.xc_tools.specs.inner.SpanLines.{by_choice, stand_after, begins_with, by_header, begins_at, by_heading}
use Rattle.xc_tools.specs.inner.SpanLines.{by_last, by_line, by_record, closed, is_header, is_last_record, is_same}
use Rattle.xc_tools.specs.inner.SpanLines.{meets, opened, recorded, step, wrote, Headed, Told, heading_of, numbers_in}
use Rattle.xc_tools.specs.inner.SpanLines.{by_digest, line_noted, record_of}
use Rattle.xc_tools.proofs.SpanWords.{IsAfter, pushed, pushed-first, rises, AreShort, AreShortIf, heading_line}
use Rattle.xc_tools.proofs.SpanWords.{heading-read, numbers-row, record_line, record-read, same, feed-heading}
use Rattle.xc_tools.proofs.SpanWords.{closing-read, closing_line, feed-closing, feed-record}

-- ======== What the lines of a span's text come to.

-- ---- runs over lines

-- these lines lead from one stand to another, and this is written for them
pub record Runs (old : Stand) (lines : List (List ℕ)) (new : Stand) (text : List ℕ) : Type 0 where
  pub stands : stand_after old lines ≡ new
  pub says : wrote old lines ≡ text

pub after-append : (s : Stand) (xs ys : List (List ℕ)) → stand_after s (xs ++ ys) ≡ stand_after (stand_after s xs) ys
after-append s [] ys = refl
after-append s (x ∷ xs) ys = after-append (step s x).0 xs ys

pub wrote-append : (s : Stand) (xs ys : List (List ℕ)) → wrote s (xs ++ ys) ≡ wrote s xs ++ wrote (stand_after s xs) ys
wrote-append s [] ys = refl
wrote-append s (x ∷ xs) ys = grind (arith, step, append_assoc, wrote-append (step s x).0 xs ys)

pub runs-append : {a b c : Stand} {xs ys : List (List ℕ)} {s t : List ℕ} → Runs a xs b s → Runs b ys c t
    → Runs a (xs ++ ys) c (s ++ t)
runs-append {a = a} {b = b} {c = c} {xs = xs} {ys = ys} {s = s} {t = t} p q =
    grind (arith, after-append, wrote-append)

-- the same where the state is told in another way
runs-to : {a b c : Stand} {ls : List (List ℕ)} {s : List ℕ} → Runs a ls b s → b ≡ c → Runs a ls c s
runs-to p e = record { stands = p.stands ∙ e; says = p.says }

pub runs-line : (s : Join) (line : List ℕ) (new : Stand) (text : List ℕ) → by_line s line ≡ (new, text)
    → Runs (goes s) (line ∷ []) new text
runs-line s line new text e = grind (arith, append-nil, by_line)

-- ---- lines of solutions

-- the digest of a text with these lines
abbrev pub text_after : TextDigest → List (List ℕ) → TextDigest
text_after text lines = after_text text (ended lines)

pub text-append : (text : TextDigest) (xs ys : List (List ℕ))
    → text_after (text_after text xs) ys ≡ text_after text (xs ++ ys)
text-append text xs ys =
    sym (ap (after_text text) (ended-append xs ys) ∙ fold-append after_byte text (ended xs) (ended ys))

-- inside a listing of a problem that begins at this row, of which so many solutions were read, behind so many in all
abbrev pub mid : List ℕ → List ℕ → ℕ → ℕ → Risen → TextDigest → Join
mid digest row k n r text = record {
  listed = true;
  digest = digest;
  text = text;
  met = row_text row;
  finished = false;
  found = Some k;
  rising = r;
  total = min most_counted n;
  full = nat_lt most_counted n;
}

-- what is listed as the solution of this number
abbrev pub shown : ℕ → List ℕ → List ℕ
shown n text = if nat_lt most_counted n then [] else text

pub shown-append : (n : ℕ) (s t : List ℕ) → shown n s ++ shown n t ≡ shown n (s ++ t)
shown-append n s t = grind (arith, nat_tests)

-- a text told in another way
pub runs-is : {a b : Stand} {ls : List (List ℕ)} {s t : List ℕ} → Runs a ls b s → s ≡ t → Runs a ls b t
runs-is p e = record { stands = p.stands; says = p.says ∙ e }

choice-none : (b : ℕ) (line : List ℕ) → (b == 32) ≡ false → branch_number (b ∷ line) ≡ None
choice-none b line other = rw other refl

pub choice-spaced : (line : List ℕ) (k : ℕ) → branch_number line ≡ Some k → begins_with 32 line ≡ true
choice-spaced [] k e = absurd (cc e)
choice-spaced (b ∷ line) k e =
    by_bool (b == 32) (λ h. h) (λ other. absurd (cc (sym (choice-none b line other) ∙ e)))

-- what a choice line does that was read
pub choice-read-so : (s : Join) (line : List ℕ) (c : ℕ) (q : Risen) → branch_number line ≡ Some c
    → risen_after s.rising c ≡ Some q
    → by_choice s line ≡ (goes (record s { rising = q }), if s.full then [] else line ++ 10 ∷ [])
choice-read-so s line c q e f =
    ap (λ (o : Option Risen). elim o [
      | None ↦ (faulty, [])
      | Some r ↦ (goes (record s { rising = r }), if s.full then [] else line ++ 10 ∷ [])
    ]) (ap (λ (o : Option ℕ). elim o [ None ↦ None | Some k ↦ risen_after s.rising k ]) e ∙ f)

-- the whole lines of choices
abbrev pub lines_text : List (List ℕ) → List ℕ
lines_text lines = flat_map (λ line. line ++ codes "\n") lines

module _ (digest row : List ℕ) (k n : ℕ) (some : 0 < k) where
  choice-step : (line : List ℕ) (c : ℕ) (r q : Risen) (text : TextDigest) → branch_number line ≡ Some c
      → risen_after r c ≡ Some q
      → by_line (mid digest row k n r text) line
      ≡ (goes (mid digest row k n q (text_after text (line ∷ []))), shown n (line ++ codes "\n"))
  choice-step line c r q text e f =
      let begins = choice-spaced line c e in
      let more : nat_lt 0 k ≡ true = grind (arith, nat_tests) in
      rw (begins, more) (choice-read-so (mid digest row k n r (text_after text (line ∷ []))) line c q e f)

  pub run-choices : (lines : List (List ℕ)) (ks : List ℕ) (r q : Risen) (text : TextDigest)
      → map branch_number lines ≡ map Some ks → pushed r ks ≡ Some q
      → Runs (goes (mid digest row k n r text)) lines (goes (mid digest row k n q (text_after text lines)))
      (shown n (lines_text lines))
  run-choices [] [] r q text e f =
      let is : r ≡ q = cc f in record { stands = ap (λ r. goes (mid digest row k n r text)) is; says = none n }
    where
      none : (n : ℕ) → [] ≡ shown n []
      none n = grind (arith, nat_tests)
  run-choices [] (c ∷ ks) r q text e f = absurd (cc e)
  run-choices (line ∷ lines) [] r q text e f = absurd (cc e)
  run-choices (line ∷ lines) (c ∷ ks) r q text e f =
      let first : branch_number line ≡ Some c = cc e in
      let others : map branch_number lines ≡ map Some ks = cc e in
      let taken = pushed-first r q c ks f in
      runs-to (runs-is (runs-append (runs-line (mid digest row k n r text) line _ _
      (choice-step line c r taken.0 text first taken.1))
      (run-choices lines ks taken.0 q (text_after text (line ∷ [])) others taken.2))
      (shown-append n (line ++ codes "\n") (lines_text lines)))
      (ap (λ t. goes (mid digest row k n q t)) (text-append text (line ∷ []) lines))

not_spaced : (ds rest : List ℕ) → list_all is_ascii_digit ds ≡ true → 0 < length ds
    → (begins_with 32 (ds ++ rest) ≡ false) × (begins_with 102 (ds ++ rest) ≡ false)
not_spaced [] rest h l = absurd (omega (arith, l))
not_spaced (d ∷ ds) rest h l = grind (arith, nat_tests)

header-yes : (k : ℕ) → k < 2 ^ 64 → is_header k (header_line k) ≡ true
header-yes k h = grind (arith, before_last-last, same)

-- the last one of so many solutions is whole, and its row rises
abbrev pub well_at : Risen → ℕ → Bool
well_at r k = k == 0 || has_risen r (k == 1)

least : (n : ℕ) → (n < most_counted) ⊎ (most_counted ≤ n)
least n = grind (arith, nat_tests)

module _ (digest row : List ℕ) where
  by_header-mid : (k n : ℕ) (r : Risen) (text : TextDigest) → by_header (mid digest row k n r text) (k + 1)
      ≡ (
        goes (mid digest row (k + 1) (n + 1) (record r { tied = Some 0 }) text),
        shown (n + 1)
            (decimal (n + 1) ++ codes ":\n"),
      )
  by_header-mid k n r text = elim (least n) [
    | inl h ↦
        let total : min most_counted n ≡ n = omega (arith, h) in
        let next : min most_counted (n + 1) ≡ n + 1 = omega (arith, h) in
        let other : (n == most_counted) ≡ false = grind (arith, nat_tests) in
        let low : nat_lt most_counted n ≡ false = grind (arith, nat_tests) in
        let still : nat_lt most_counted (n + 1) ≡ false = grind (arith, nat_tests) in
        rw (total, next, other, low, still) refl
    | inr h ↦
        let total : min most_counted n ≡ most_counted = omega (arith, h) in
        let next : min most_counted (n + 1) ≡ most_counted = omega (arith, h) in
        let high : nat_lt most_counted (n + 1) ≡ true = grind (arith, nat_tests) in
        rw (total, next, high) refl
  ]

  header-step : (k n : ℕ) (r : Risen) (text : TextDigest) → k < most_counted → well_at r k ≡ true
      → by_line (mid digest row k n r text) (header_line (k + 1))
      ≡ by_header (mid digest row k n r (text_after text (header_line (k + 1) ∷ []))) (k + 1)
  header-step k n r text h well =
      let apart = not_spaced (decimal (k + 1)) (codes ":") (digits (k + 1) (omega (arith, h)))
      (grind (arith, decimal_nonempty)) in
      let few : nat_lt k most_counted ≡ true = grind (arith, nat_tests) in
      rw (apart.0, apart.1, few, header-yes (k + 1) (omega (arith, h)), well) refl

  run-header : (k n : ℕ) (r : Risen) (text : TextDigest) → k < most_counted → well_at r k ≡ true
      → Runs (goes (mid digest row k n r text)) (header_line (k + 1) ∷ [])
      (goes (mid digest row (k + 1) (n + 1) (record r { tied = Some 0 })
      (text_after text (header_line (k + 1) ∷ []))))
      (shown (n + 1) (decimal (n + 1) ++ codes ":\n"))
  run-header k n r text h well =
      runs-line (mid digest row k n r text) (header_line (k + 1)) _ _ (header-step k n r text h well
      ∙ by_header-mid k n r (text_after text (header_line (k + 1) ∷ [])))

-- the lines of a numbered solution
abbrev pub solution_lines : ℕ × ListedSolution → List (List ℕ)
solution_lines ns = header_line ns.0 ∷ ns.1.lines

-- these rows may follow a row, which is that of a solution or the one at which a span begins
abbrev pub Follow : Bool → List ℕ → List (List ℕ) → List ℕ → Type 0
Follow true = LieIn
Follow false = Rise

follow-first : (first : Bool) (last row until : List ℕ) (rows : List (List ℕ))
    → Follow first last (row ∷ rows) until → IsAfter first last row × Rise row rows until
follow-first true last row until rows h = h
follow-first false last row until rows h = h

pub follow-none : (k : ℕ) (last until : List ℕ) → Follow (k == 0) last [] until → ends_before last k until ≡ true
follow-none k last [] h = refl
follow-none k last (n ∷ until) h =
    let some : (length (n ∷ until) == 0) ≡ false = grind (arith, nat_tests) in rw some (by-first (k == 0) h)
  where
    by-first : (first : Bool) → Follow first last [] (n ∷ until)
        → (if first then not (precedes (n ∷ until) last) else precedes last (n ∷ until)) ≡ true
    by-first true h = ap not h
    by-first false h = h

-- the listing of solutions behind so many others
abbrev pub told_from : ℕ → List ListedSolution → List ℕ
told_from n [] = []
told_from n (s ∷ ss) = shown (n + 1) (solution_text (n + 1, s)) ++ told_from (n + 1) ss

module _ (digest row : List ℕ) where
  -- lines lead to so many solutions, the last of which ends well
  pub record Lists (k n : ℕ) (r : Risen) (d : TextDigest) (lines : List (List ℕ)) (i j : ℕ) (text : List ℕ) : Type 0
    where
      pub rising : Risen
      pub run : Runs (goes (mid digest row k n r d)) lines (goes (mid digest row i j rising (text_after d lines))) text
      pub well : well_at rising i ≡ true

  run-solution : (k n : ℕ) (r : Risen) (d : TextDigest) (s : ListedSolution) → k < most_counted → well_at r k ≡ true
      → IsSolution s → IsAfter (k == 0) r.row s.row
      → (l : Lists k n r d (solution_lines (k + 1, s)) (k + 1) (n + 1) (shown (n + 1) (solution_text (n + 1, s))))
      × (l.rising.row ≡ s.row)
  run-solution k n r d s h well is behind =
      let up = rises (k == 0) r.row s.row behind in
      let none : (k + 1 == 0) ≡ false = grind (arith, nat_tests) in
      let one : (k + 1 == 1) ≡ (k == 0) = grind (arith, nat_tests) in
      let ends : well_at up.0 (k + 1) ≡ true = rw (none, one) up.3 in
      let header = header_line (k + 1) ∷ [] in
      let run = runs-to (runs-is (runs-append (run-header digest row k n r d h well)
      (run-choices digest row (k + 1) (n + 1) (omega arith) s.lines s.row _ up.0 (text_after d header) is.choices up.1))
      (shown-append (n + 1) (decimal (n + 1) ++ codes ":\n") (lines_text s.lines)))
      (ap (λ t. goes (mid digest row (k + 1) (n + 1) up.0 t)) (text-append d header s.lines)) in
      (record { rising = up.0; run = run; well = ends }, up.2)

  pub run-solutions : (k n i j : ℕ) (r : Risen) (d : TextDigest) (ss : List ListedSolution) (until : List ℕ)
      → k + length ss ≤ most_counted
      → i ≡ k + length ss → j ≡ n + length ss → well_at r k ≡ true → AllByRecursion IsSolution ss
      → Follow (k == 0) r.row (map (λ s. s.row) ss) until
      → (l : Lists k n r d (flat_map solution_lines (enumerate_from (k + 1) ss)) i j (told_from n ss))
      × (ends_before l.rising.row i until ≡ true)
  run-solutions k n i j r d [] until h e f well all follow =
      let i_is : k ≡ i = omega (arith, e) in
      let j_is : n ≡ j = omega (arith, f) in
      let same : goes (mid digest row k n r d) ≡ goes (mid digest row i j r d) = cc (i_is, j_is) in (
        record {
          rising = r;
          run = record { stands = same; says = refl };
          well = rw (← i_is) well;
        },
        rw (← i_is) (follow-none k r.row until follow),
      )
  run-solutions k n i j r d (s ∷ ss) until h e f well all follow =
      let parts = follow-first (k == 0) r.row s.row until (map (λ s. s.row) ss) follow in
      let one = run-solution k n r d s (omega (arith, h)) well all.0 parts.0 in
      let none : (k + 1 == 0) ≡ false = grind (arith, nat_tests) in
      let next : Follow (k + 1 == 0) one.0.rising.row (map (λ s. s.row) ss) until =
      rw (none, one.1) parts.1 in
      let first = solution_lines (k + 1, s) in
      let more = run-solutions (k + 1) (n + 1) i j one.0.rising (text_after d first) ss until (omega (arith, h))
      (omega (arith, e)) (omega (arith, f)) one.0.well all.1 next in (
        record {
          rising = more.0.rising;
          run = runs-to (runs-append one.0.run more.0.run) (ap (λ t. goes (mid digest row i j more.0.rising t))
              (text-append d first (flat_map solution_lines (enumerate_from (k + 1 + 1) ss))));
          well = more.0.well;
        },
        more.1,
      )

-- ---- spans

-- between texts: the last one ended at this row, perhaps the end of the listing, behind so many solutions
abbrev pub rest_at : Bool → List ℕ → Bool → List ℕ → ℕ → Risen → Join
rest_at listed digest finished row n r = record {
  listed = listed;
  digest = digest;
  text = begun_digest;
  met = row_text row;
  finished = finished;
  found = None;
  rising = r;
  total = min most_counted n;
  full = listed && nat_lt most_counted n;
}

abbrev pub is_last : List ℕ → Bool
is_last until = bytes_eq (row_text until) (codes "-")

-- what a heading or a record does that was read
pub heading-read-so : (s : Join) (words : List (List ℕ)) (h : Headed) → heading_of words ≡ Some h
    → by_heading s words ≡ begins_at s h.digest h.row (goes (opened s h))
heading-read-so s words h e =
    ap (λ (o : Option Headed). elim o [
      | None ↦ (faulty, [])
      | Some h ↦ begins_at s h.digest h.row (goes (opened s h))
    ]) e

pub closing-read-so : (s : Join) (front : List ℕ) (next : List (List ℕ) → Stand × List ℕ)
    → by_digest s (closing_line s.text front) next ≡ next (words_in front)
closing-read-so s front next =
    ap (λ (o : Option (List ℕ)). elim o [ None ↦ (faulty, []) | Some front ↦ next (words_in front) ])
    (closing-read s.text front)

pub last-read-so : (s : Join) (k : ℕ) (words : List (List ℕ)) (t : Told) → record_of words ≡ Some t
    → by_last s k words ≡ (if is_last_record s k t then (goes (closed s t.until), []) else (faulty, []))
last-read-so s k words t e =
    ap (λ (o : Option Told). elim o [
      | None ↦ (faulty, [])
      | Some t ↦ if is_last_record s k t then (goes (closed s t.until), []) else (faulty, [])
    ]) e

pub record-read-so : (s : Join) (words : List (List ℕ)) (t : Told) → record_of words ≡ Some t
    → by_record s words ≡ (if ends_before (numbers_in t.from) 0 (numbers_in t.until)
    then begins_at s t.counts.digest t.from (goes (recorded s t)) else (faulty, []))
record-read-so s words t e =
    ap (λ (o : Option Told). elim o [
      | None ↦ (faulty, [])
      | Some t ↦
          if ends_before (numbers_in t.from) 0 (numbers_in t.until)
          then begins_at s t.counts.digest t.from (goes (recorded s t))
          else (faulty, [])
    ]) e

-- a text of this problem may come after ones of that, or come first
abbrev pub fits : List ℕ → List ℕ → Bool
fits old digest = length old == 0 || bytes_eq digest old

begins-well : (s : Join) (digest row : List ℕ) (next : Stand) → is_same s digest ≡ true → meets s row ≡ true
    → begins_at s digest row next ≡ (next, [])
begins-well s digest row next same meet = rw (same, meet) refl

meets-rest : (listed : Bool) (digest row : List ℕ) (n : ℕ) (r : Risen)
    → meets (rest_at listed digest false row n r) (row_text row) ≡ true
meets-rest listed digest row n r = same (row_text row)

-- the row that a text begins at, of which nothing was read yet
abbrev pub begun_at : List ℕ → Risen → Risen
begun_at row r = record r { row = row }

module _ (old digest row : List ℕ) (n : ℕ) (r : Risen) (short : AreShort row) (d : is_digest digest ≡ true)
    (fit : fits old digest ≡ true) where
  pub run-heading : Runs (goes (rest_at true old false row n r)) (heading_line row digest ∷ [])
      (goes (mid digest row 0 n (begun_at row r) (text_after begun_digest (heading_line row digest ∷ [])))) []
  run-heading =
      let line = heading_line row digest in
      let text = text_after begun_digest (line ∷ []) in
      let s = line_noted (rest_at true old false row n r) line in
      let h : Headed = record { row = row_text row; digest = digest } in
      runs-line (rest_at true old false row n r) line (goes (mid digest row 0 n (begun_at row r) text)) []
      (heading-read-so s (words_in line) h (heading-read row digest short d)
      ∙ begins-well s digest (row_text row) (goes (opened s h)) fit (meets-rest true old row n r)
      ∙ ap (λ row'. (goes (mid digest row 0 n (begun_at row' r) text), [])) (numbers-row row short))

module _ (digest row until : List ℕ) (branches : Option (List ℕ)) (k steps : ℕ) (f : AreShort row) (u : AreShort until)
    (b : AreShortIf branches) (h : k < 2 ^ 64) (l : steps < 2 ^ 64) (d : is_digest digest ≡ true) where
  told : Told
  told = record { from = row_text row; until = row_text until; counts = record { solutions = k; digest = digest } }

  run-last : (n : ℕ) (r : Risen) (text : TextDigest) → well_at r k ≡ true → ends_before r.row k until ≡ true
      → Runs (goes (mid digest row k n r text))
      (closing_line text (record_line row until branches k steps digest) ∷ [])
      (goes (rest_at true digest (is_last until) until n r)) []
  unfolding told
  run-last n r text well ends =
      let s = mid digest row k n r text in
      let line = record_line row until branches k steps digest in
      let number : (k == k) ≡ true = grind (arith, nat_tests) in
      let right : is_last_record s k told ≡ true =
      rw (same (row_text row), same digest, number, well, numbers-row until u) ends in
      runs-line s (closing_line text line) (goes (rest_at true digest (is_last until) until n r)) []
      (closing-read-so s line (by_last s k) ∙ last-read-so s k (words_in line) told
      (record-read row until branches k steps digest f u b h l d)
      ∙ ap (λ (x : Bool). if x then (goes (closed s (row_text until)), []) else (faulty, [])) right)

  run-record : (old : List ℕ) (n j : ℕ) (r : Risen) → fits old digest ≡ true → ends_before row 0 until ≡ true
      → j ≡ n + k
      → Runs (goes (rest_at false old false row n r))
      (closing_line begun_digest (record_line row until branches k steps digest) ∷ [])
      (goes (rest_at false digest (is_last until) until j (begun_at row r))) []
  unfolding told
  run-record old n j r fit ends e =
      let s = rest_at false old false row n r in
      let line = record_line row until branches k steps digest in
      let total : min most_counted (min most_counted n + k) ≡ min most_counted j = omega (arith, e) in
      let right : ends_before (numbers_in (row_text row)) 0 (numbers_in (row_text until)) ≡ true =
      rw (numbers-row row f, numbers-row until u) ends in
      runs-line s (closing_line begun_digest line)
      (goes (rest_at false digest (is_last until) until j (begun_at row r))) []
      (closing-read-so s line (by_record s) ∙ record-read-so s (words_in line) told
      (record-read row until branches k steps digest f u b h l d)
      ∙ ap (λ (x : Bool). if x then begins_at s digest (row_text row) (goes (recorded s told)) else (faulty, [])) right
      ∙ begins-well s digest (row_text row) (goes (recorded s told)) fit (meets-rest false old row n r)
      ∙ ap (λ row'. (
        goes (record (rest_at false digest (is_last until) until j (begun_at row' r))
            { total = min most_counted (min most_counted n + k) }),
        [],
      )) (numbers-row row f)
      ∙ ap (λ t. (
        goes (record (rest_at false digest (is_last until) until j
            (begun_at row r)) { total = t }),
        [],
      )) total)

-- the lines of a span's text
abbrev pub listing_lines : Bool → SpanText → List (List ℕ)
listing_lines true t = heading_line t.span.from t.digest ∷ flat_map solution_lines (enumerate_from 1 t.found)
listing_lines false t = []

-- its record, up to the digest of the text
abbrev pub front_line : SpanText → List ℕ
front_line t = record_line t.span.from t.span.until t.span.branches t.count t.span.steps t.digest

-- the digest of what is before that
abbrev pub listing_digest : Bool → SpanText → TextDigest
listing_digest listed t = text_after begun_digest (listing_lines listed t)

abbrev pub last_line : Bool → SpanText → List ℕ
last_line listed t = closing_line (listing_digest listed t) (front_line t)

abbrev pub shape_lines : Bool → SpanText → List (List ℕ)
shape_lines listed t = listing_lines listed t ++ last_line listed t ∷ []

-- what is listed of solutions behind so many others
abbrev pub told_part : Bool → ℕ → List ListedSolution → List ℕ
told_part true n ss = told_from n ss
told_part false n ss = []

-- a text's shape, told by recursion
pub record IsShort (listed : Bool) (t : SpanText) : Type 0 where
  pub each : AllByRecursion IsSolution t.found
  pub rows : LieIn t.span.from (map (λ s. s.row) t.found) t.span.until
  pub counted : TellsCount listed t
  pub from : AreShort t.span.from
  pub until : AreShort t.span.until
  pub branches : AreShortIf t.span.branches
  pub steps : t.span.steps < 2 ^ 64
  pub few : t.count < 2 ^ 64
  pub digest : is_digest t.digest ≡ true

-- these lines lead from between texts to between texts
pub record RunsOn (listed : Bool) (old : Join) (lines : List (List ℕ)) (digest until : List ℕ) (j : ℕ) (text : List ℕ)
    : Type 0 where
  pub rising : Risen
  pub run : Runs (goes old) lines (goes (rest_at listed digest (is_last until) until j rising)) text

pub run-shape : (listed : Bool) (t : SpanText) (old : List ℕ) (n j : ℕ) (r : Risen) → IsShort listed t
    → fits old t.digest ≡ true → j ≡ n + t.count
    → RunsOn listed (rest_at listed old false t.span.from n r) (shape_lines listed t) t.digest t.span.until j
    (told_part listed n t.found)
run-shape true t old n j r is fit e =
    let count : t.count ≡ length t.found = sym is.counted in
    let heading = heading_line t.span.from t.digest ∷ [] in
    let all = run-solutions t.digest t.span.from 0 n t.count j (begun_at t.span.from r)
    (text_after begun_digest heading) t.found t.span.until
    (omega (arith, is.few, count)) (omega (arith, count)) (omega (arith, e, count)) refl is.each is.rows in
    let last = run-last t.digest t.span.from t.span.until t.span.branches t.count t.span.steps is.from is.until
    is.branches is.few is.steps is.digest j all.0.rising (listing_digest true t) all.0.well all.1 in
    record {
      rising = all.0.rising;
      run = runs-is (runs-append (runs-to (runs-append (run-heading old t.digest t.span.from n r is.from is.digest fit)
          all.0.run) (ap (λ d. goes (mid t.digest t.span.from t.count j all.0.rising d))
          (text-append begun_digest heading (flat_map solution_lines (enumerate_from 1 t.found))))) last)
          (append-nil (told_from n t.found));
    }
run-shape false t old n j r is fit e =
    let none : LieIn t.span.from [] t.span.until =
    subst (λ ss. LieIn t.span.from (map (λ s. s.row) ss) t.span.until) is.counted is.rows in
    record {
      rising = begun_at t.span.from r;
      run = run-record t.digest t.span.from t.span.until t.span.branches t.count t.span.steps is.from is.until
          is.branches is.few is.steps is.digest old n j r fit (follow-none 0 t.span.from t.span.until none) e;
    }

-- ======== A text of a shape is made of its lines, and a span's text has a shape.

-- ---- the text

lines-ended : (lines : List (List ℕ)) → lines_text lines ≡ ended lines
lines-ended [] = refl
lines-ended (line ∷ lines) = grind (arith, common_steps, append_assoc, lines-ended lines)

solution-ended : (ns : ℕ × ListedSolution) → solution_text ns ≡ ended (solution_lines ns)
solution-ended ns = grind (arith, common_steps, append_assoc, lines-ended ns.1.lines)

solutions-ended : (nss : List (ℕ × ListedSolution)) → flat_map solution_text nss ≡ ended (flat_map solution_lines nss)
solutions-ended [] = refl
solutions-ended (ns ∷ nss) = grind (arith, common_steps, solution-ended, ended-append, solutions-ended nss)

heading-ended : (from digest : List ℕ) → heading_text from digest ≡ heading_line from digest ++ 10 ∷ []
heading-ended from digest = simp append_assoc

-- a text whose last line has the digest of what is before that
closed-ended : (front last : List ℕ)
    → closed_text (front ++ last) ≡ front ++ (closing_line (after_text begun_digest front) last ++ 10 ∷ [])
closed-ended front last =
    ap (λ d. front ++ last ++ codes " text " ++ digits_of d ++ codes "\n")
    (fold-append after_byte begun_digest front last)
    ∙ parted front last (codes " text ") (digits_of (after_text (after_text begun_digest front) last)) (codes "\n")
  where
    parted : (a b c d e : List ℕ) → a ++ b ++ c ++ d ++ e ≡ a ++ ((b ++ (c ++ d)) ++ e)
    parted a b c d e = simp append_assoc

listing-ended : (t : SpanText)
    → heading_text t.span.from t.digest ++ flat_map solution_text (enumerate_from 1 t.found)
    ≡ ended (listing_lines true t)
listing-ended t = grind (arith, heading-ended, ended-append, solutions-ended (enumerate_from 1 t.found), append_assoc)

shape-ended : (listed : Bool) (t : SpanText)
    → closed_text (ended (listing_lines listed t) ++ front_line t) ≡ ended (shape_lines listed t)
shape-ended listed t =
    closed-ended (ended (listing_lines listed t)) (front_line t)
    ∙ sym (ended-append (listing_lines listed t) (last_line listed t ∷ []))

front-parts : (a f b u c d n e s p : List ℕ) → a ++ f ++ b ++ u ++ c ++ d ++ n ++ e ++ s ++ p
    ≡ a ++ (f ++ (b ++ (u ++ (c ++ (d ++ (n ++ (e ++ (s ++ p))))))))
front-parts a f b u c d n e s p = simp append_assoc

front-is : (t : SpanText)
    → record_front t.span.from t.span.until t.span.branches t.count t.span.steps t.digest ≡ front_line t
front-is t =
    front-parts (codes "from ") (row_text t.span.from) (codes " until ") (row_text t.span.until)
    (branches_text t.span.branches) (codes " solutions ") (decimal t.count) (codes " steps ") (decimal t.span.steps)
    (codes " problem " ++ t.digest)

pub text-ended : (listed : Bool) (t : SpanText) → bytes_of listed t ≡ ended (shape_lines listed t)
text-ended true t =
    ap (λ f. closed_text ((heading_text t.span.from t.digest ++ flat_map solution_text (enumerate_from 1 t.found))
    ++ f)) (front-is t) ∙ ap (λ l. closed_text (l ++ front_line t)) (listing-ended t) ∙ shape-ended true t
text-ended false t = ap closed_text (front-is t) ∙ shape-ended false t

pub texts-ended : (listed : Bool) (ts : List SpanText)
    → flat_map (bytes_of listed) ts ≡ ended (flat_map (shape_lines listed) ts)
texts-ended listed [] = refl
texts-ended listed (t ∷ ts) = grind (arith, text-ended, ended-append, texts-ended listed ts)

-- ---- no line feeds inside

pub whole-append : (ls ms : List (List ℕ)) → AreWhole ls → AreWhole ms → AreWhole (ls ++ ms)
whole-append [] ms p q = q
whole-append (l ∷ ls) ms p q = (p.0, whole-append ls ms p.1 q)

whole-lines : (ls : List (List ℕ)) → AllByRecursion (λ line. has 10 line ≡ false) ls → AreWhole ls
whole-lines [] all = tt
whole-lines (l ∷ ls) all = (all.0, whole-lines ls all.1)

whole-solutions : (k : ℕ) (ss : List ListedSolution) → k + length ss ≤ 2 ^ 64 → AllByRecursion IsSolution ss
    → AreWhole (flat_map solution_lines (enumerate_from k ss))
whole-solutions k [] h all = tt
whole-solutions k (s ∷ ss) h all =
    whole-append (solution_lines (k, s)) (flat_map solution_lines (enumerate_from (k + 1) ss))
    (no_feed-header k (omega (arith, h)), whole-lines s.lines (recursion_from_All _ s.lines all.0.no_feeds))
    (whole-solutions (k + 1) ss (omega (arith, h)) all.1)

pub whole-shape : (listed : Bool) (t : SpanText) → IsShort listed t → AreWhole (shape_lines listed t)
whole-shape true t is =
    whole-append (listing_lines true t) (last_line true t ∷ []) (
      feed-heading t.span.from t.digest is.from is.digest,
      whole-solutions 1 t.found (omega (arith, is.few, is.counted)) is.each,
    ) (
      feed-closing (listing_digest true t) (front_line t) (feed-record t.span.from t.span.until t.span.branches t.count
          t.span.steps t.digest is.from is.until is.branches is.few is.steps is.digest),
      tt,
    )
whole-shape false t is = (
  feed-closing begun_digest (front_line t) (feed-record t.span.from t.span.until t.span.branches t.count
      t.span.steps t.digest is.from is.until is.branches is.few is.steps is.digest),
  tt,
)

-- ---- shapes by recursion

pub short-if : (branches : Option (List ℕ)) → IfSome branches AreSmall → AreShortIf branches
short-if None h = tt
short-if (Some row) h = recursion_from_All (λ n. n < 2 ^ 64) row h

small-if : (branches : Option (List ℕ)) → AreShortIf branches → IfSome branches AreSmall
small-if None h = tt
small-if (Some row) h = All-from_recursion (λ n. n < 2 ^ 64) row h

pub short-shape : (listed : Bool) (t : SpanText) → HasShape listed t → IsShort listed t
short-shape listed t h = record {
  each = recursion_from_All IsSolution t.found h.each;
  rows = h.rows;
  counted = h.counted;
  from = recursion_from_All (λ n. n < 2 ^ 64) t.span.from h.from;
  until = recursion_from_All (λ n. n < 2 ^ 64) t.span.until h.until;
  branches = short-if t.span.branches h.branches;
  steps = h.steps;
  few = h.few;
  digest = grind (arith, nat_tests, h.digest);
}

pub shape-short : (listed : Bool) (t : SpanText) → IsShort listed t → HasShape listed t
shape-short listed t h = record {
  each = All-from_recursion IsSolution t.found h.each;
  rows = h.rows;
  counted = h.counted;
  from = All-from_recursion (λ n. n < 2 ^ 64) t.span.from h.from;
  until = All-from_recursion (λ n. n < 2 ^ 64) t.span.until h.until;
  branches = small-if t.span.branches h.branches;
  steps = h.steps;
  few = h.few;
  digest = grind (arith, nat_tests, h.digest);
}

-- ---- spans of a problem

-- a member as a listed solution
abbrev pub solution_of : Named → List Choice → ListedSolution
solution_of a m = record { row = row_of m; lines = map (choice_line a) m }

-- the solutions of a span's text
abbrev pub found_in : Bool → Named → List (List Choice) → List ListedSolution
found_in true a ms = map (solution_of a) ms
found_in false a ms = []

-- the shape of a span's text
abbrev pub shape_of : Named → Bool → SearchedSpan → SpanText
shape_of a listed s = record {
  span = s;
  count = length (members_of a s);
  found = found_in listed a (members_of a s);
  digest = digest_of a;
}

lines-choices : (a : Named) (m : List Choice) → flat_map (choice_text a) m ≡ lines_text (map (choice_line a) m)
lines-choices a [] = refl
lines-choices a (c ∷ m) = grind (arith, common_steps, choice-ended, lines-choices a m)

pub member-solution : (a : Named) (n : ℕ) (m : List Choice) → solution_text (n, solution_of a m) ≡ member_text a (n, m)
member-solution a n m = ap (λ t. decimal n ++ codes ":\n" ++ t) (sym (lines-choices a m))

members-solutions : (a : Named) (k : ℕ) (ms : List (List Choice))
    → flat_map (member_text a) (enumerate_from k ms)
    ≡ flat_map solution_text (enumerate_from k (map (solution_of a) ms))
members-solutions a k [] = refl
members-solutions a k (m ∷ ms) =
    ap (λ t. t ++ flat_map (member_text a) (enumerate_from (k + 1) ms)) (sym (member-solution a k m))
    ∙ ap (λ t. solution_text (k, solution_of a m) ++ t) (members-solutions a (k + 1) ms)

pub text-shape : (a : Named) (listed : Bool) (s : SearchedSpan) → text_of a listed s
    ≡ bytes_of listed (shape_of a listed s)
text-shape a true s = ap (λ t. closed_text ((heading_text s.from (digest_of a) ++ t)
    ++ record_front s.from s.until s.branches (length (members_of a s)) s.steps (digest_of a)))
    (members-solutions a 1 (members_of a s))
text-shape a false s = refl

digest-is : (a : Named) → is_digest (digest_of a) ≡ true
digest-is a = grind (arith, nat_tests, digest-length a, digest-digits a)

-- ---- their choice lines

module _ (a : Named) (sound : IsSound a) where
  plain-body : (i : ℕ) (o : Option ℕ) → IsPrimary a.puzzle i → MatchOption o (Unit {0}) (λ o. IsOption a.puzzle o
      × (is_some (colour_in (uses_of a.puzzle o) i) ≡ true)) → AllByRecursion IsPlain (body_words a i o)
  plain-body i (Some o) primary h =
      let us = uses_of a.puzzle o in
      let known = known_option a.puzzle a.colours o us sound.valid sound.coloured (numbered_some _ _ _ h.0.0 h.0.1) in
      let all = recursion_from_All _ _ (All-turned (IsKnownUse a) (place_in i us) us known) in
      each-map _ _ _ (each_weaker _ _ _ (λ u known. plain-use a sound u known) all)
  plain-body zero None primary h = absurd (omega (arith, primary.0))
  plain-body (suc j) None primary h = (
    record { some = omega arith; no_space = refl; no_feed = refl },
    (plain-name a sound (suc j) (primary.0, omega (arith, primary.1)), tt),
  )

  some-body : (i : ℕ) (o : Option ℕ) → MatchOption o (Unit {0}) (λ o. IsOption a.puzzle o
      × (is_some (colour_in (uses_of a.puzzle o) i) ≡ true)) → 1 ≤ length (body_words a i o)
  some-body i (Some o) h =
      let us = uses_of a.puzzle o in
      let within = place_held i us h.1 in
      grind (arith, common_steps)
  some-body i None h = omega arith

  choices-read : (m : List Choice) → AreCounted a.puzzle m
      → (map branch_number (map (choice_line a) m) ≡ map Some (row_of m))
      × AllByRecursion (λ line. has 10 line ≡ false) (map (choice_line a) m)
  choices-read [] all = (refl, tt)
  choices-read (c ∷ m) all =
      let known = all.0.known in
      let words = body_words a c.item c.option in
      let some = some-body c.item c.option known.1 in
      let plain = plain-body c.item c.option known.0 known.1 in
      let k : c.k < 10 ^ 10 = omega (arith, all.0.k, sound.limits.options) in
      let n : c.n < 10 ^ 10 = omega (arith, all.0.n, sound.limits.options) in
      let first = number-choice words c.k c.n some plain k n in
      let rest = choices-read m all.1 in
      (cc (first, rest.0), ((read-choice words c.k c.n some plain k n).1, rest.1))

  members-read : (ms : List (List Choice)) → AllByRecursion (IsIn (members a.puzzle)) ms
      → AllByRecursion IsSolution (map (solution_of a) ms)
  members-read [] all = tt
  members-read (m ∷ ms) all =
      let read = choices-read m (member_counted a.puzzle m all.0) in (
        record { choices = read.0; no_feeds = All-from_recursion (λ line. has 10 line ≡ false) _ read.1 },
        members-read ms all.1,
      )

-- ---- their rows

rows-map : (a : Named) (ms : List (List Choice)) → map (λ s. s.row) (map (solution_of a) ms) ≡ map row_of ms
rows-map a [] = refl
rows-map a (m ∷ ms) = ap (λ rows. row_of m ∷ rows) (rows-map a ms)

EachTwo-filter : {X : Type 0} (R : X → X → Type 0) (p : X → Bool) (xs : List X) → EachTwo R xs → EachTwo R (filter p xs)
EachTwo-filter R p [] h = tt
EachTwo-filter R p (x ∷ xs) h = by_bool (p x)
    (λ yes. rw yes (
      each_from (R x) (filter p xs) (λ y i. each_in (R x) xs y h.0 (in-filter p xs y i).0),
      EachTwo-filter R p xs h.1,
    ))
    (λ other. rw other (EachTwo-filter R p xs h.1))

rise-on : (last : List Choice) (ms : List (List Choice)) (until : List ℕ)
    → EachTwo (λ a b. precedes (row_of a) (row_of b) ≡ true) (last ∷ ms)
    → AllByRecursion (λ m. is_before (end_at until) (row_of m) ≡ true) (last ∷ ms)
    → Rise (row_of last) (map row_of ms) until
rise-on last [] until two all = all.0
rise-on last (m ∷ ms) until two all = (two.0.0, rise-on m ms until two.1 all.1)

lie-on : (from until : List ℕ) (ms : List (List Choice)) → IfSome (end_at until) (λ u. precedes u from ≡ false)
    → EachTwo (λ a b. precedes (row_of a) (row_of b) ≡ true) ms
    → AllByRecursion (λ m. (precedes (row_of m) from ≡ false) × (is_before (end_at until) (row_of m) ≡ true)) ms
    → LieIn from (map row_of ms) until
lie-on from until [] forward two all = forward
lie-on from until (m ∷ ms) forward two all =
    (all.0.0, rise-on m ms until two (each_weaker _ _ (m ∷ ms) (λ m h. h.1) all))

rows-lie : (p : Puzzle) (from until : List ℕ) → IfSome (end_at until) (λ u. precedes u from ≡ false)
    → LieIn from (map row_of (between p from (end_at until))) until
rows-lie p from until forward =
    let test = is_within from (end_at until) in
    lie-on from until (between p from (end_at until)) forward
    (EachTwo-filter (λ a b. precedes (row_of a) (row_of b) ≡ true) test (members p) (listing_rises (whole p)))
    (each_from _ (between p from (end_at until)) (λ m i.
    let yes = (in-filter test (members p) m i).1 in grind (arith, nat_tests)))

pub span-short : (a : Named) (listed : Bool) (s : SearchedSpan) → IsSound a → IsSpan a s
    → IsShort listed (shape_of a listed s)
span-short a true s sound is = record {
  each = members-read a sound (members_of a s) (each_from _ (members_of a s) (λ m i. (in-filter _
      (members a.puzzle) m i).0));
  rows = rw (rows-map a (members_of a s)) (rows-lie a.puzzle s.from s.until is.forward);
  counted = length-map (members_of a s) (solution_of a);
  from = recursion_from_All (λ n. n < 2 ^ 64) s.from is.from;
  until = recursion_from_All (λ n. n < 2 ^ 64) s.until is.until;
  branches = short-if s.branches is.branches;
  steps = is.steps;
  few = is.few;
  digest = digest-is a;
}
span-short a false s sound is = record {
  each = tt;
  rows = is.forward;
  counted = refl;
  from = recursion_from_All (λ n. n < 2 ^ 64) s.from is.from;
  until = recursion_from_All (λ n. n < 2 ^ 64) s.until is.until;
  branches = short-if s.branches is.branches;
  steps = is.steps;
  few = is.few;
  digest = digest-is a;
}
