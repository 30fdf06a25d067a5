-- The texts that lines were read as.
use Rattle.std.proofs.Common.{◌≡◌, ℕ, ◌+◌, ◌<◌, Bool, true, false, List, [], ◌∷◌, ◌++◌, Option, None, Some, length}
use Rattle.std.proofs.Common.{flat_map, refl, sym, ap, ◌∙◌, arith, append_assoc, append-nil, map, nat_lt, subst, ◌-◌}
use Rattle.std.proofs.Common.{get_or, take}
use Rattle.std.specs.Prelude.{◌==◌, ◌&&◌, not, All, codes, decimal, if◌then◌else◌}
use Rattle.std.specs.List.{AllByRecursion, enumerate_from}
use Rattle.std.specs.Str.{bytes_eq}
use Rattle.std.proofs.lemmas.Bool.Decides.{nat_tests}
use Rattle.std.proofs.lemmas.List.Elements.{recursion_from_All, All-from_recursion}
use Rattle.std.specs.Io.BufRead.{ends_with_byte}
use Rattle.std.proofs.lemmas.List.{take_more}
use Rattle.std.proofs.Math.Seq.{take-length}
use Rattle.xc_text.specs.Words.{has, before_last}
use Rattle.xc_text.specs.inner.LineFeeds.{ended, AreWhole}
use Rattle.xc_text.proofs.ListLemmas.{each-append}
use Rattle.xc_search.specs.Spans.{precedes}
use Rattle.xc_check.specs.ListingLines.{branch_number, words_in}
use Rattle.xc_list.specs.Digests.{begun_digest}
use Rattle.xc_list.specs.SpanTexts.{row_text}
use Rattle.xc_list.specs.SearchedSpans.{SearchedSpan}
use Rattle.xc_list.proofs.OutputLemmas.{header_line}
use Rattle.xc_tools.specs.SpanShapes.{AreShapes, HasShape, IsSolution, LieIn, Rise, ListedSolution, SpanText}
use Rattle.xc_tools.specs.SpanShapes.{TellsCount, is_digest}
use Rattle.xc_tools.specs.inner.SpanLines.{Risen, risen_after, ends_before, has_risen, Join, Stand, goes, faulty, mixed}
use Rattle.xc_tools.specs.inner.SpanLines.{apart, by_heading, by_line, by_record, closed, ends_well, inside, is_header}
use Rattle.xc_tools.specs.inner.SpanLines.{is_last_record, is_same, meets, opened, recorded, stand_after, start, Headed}
use Rattle.xc_tools.specs.inner.SpanLines.{Told, by_digest, by_last, line_noted, numbers_in}
use Rattle.xc_tools.specs.Joins.{AreOfOneProblem, DoMeet, spans_in}
use Rattle.xc_tools.proofs.Chains.{after-apart, after-faulty, after-mixed, meets-so}
use Rattle.xc_tools.proofs.SpanLines.{shape-short, texts-ended, IsShort, fits, front_line, is_last, last_line}
use Rattle.xc_tools.proofs.SpanLines.{listing_digest, listing_lines, shape_lines, solution_lines, text-append}
use Rattle.xc_tools.proofs.SpanLines.{text_after, well_at}
use Rattle.xc_tools.proofs.SpanWords.{IsAfter, ends-after, pushed, pushed-more, AreShort, heading_line, not-dash}
use Rattle.xc_tools.proofs.SpanWords.{both, closing-is, closing_line, is-word, numbers-row, record_line, some-if}
use Rattle.xc_tools.proofs.TakenLines.{HeadingIs, RecordIs, heading-so, record-so, Gives, Went, digest-went}
use Rattle.xc_tools.proofs.TakenLines.{a_choice, a_header, a_last, choice-went, header-went, heading-went, inside-went}
use Rattle.xc_tools.proofs.TakenLines.{last-went, record-went}

-- a list turned round, before another
abbrev pub turn : {X : Type 0} → List X → List X → List X
turn [] tail = tail
turn (x ∷ xs) tail = turn xs (x ∷ tail)

-- ---- the solutions of an open text, the newest first

abbrev none_in : List ListedSolution → Bool
none_in [] = true
none_in (s ∷ ss) = false

-- whole ones from a row on, the last of which has this row
abbrev Whole : List ℕ → List ListedSolution → List ℕ → Type 0
Whole from [] last = last ≡ from
Whole from (s ∷ older) last = (last ≡ s.row) × IsSolution s
    × ((before : List ℕ) × IsAfter (none_in older) before s.row × Whole from older before)

-- the newest one may be a part
abbrev Opened : List ℕ → List ListedSolution → Risen → Type 0
Opened from [] r = r.row ≡ from
Opened from (s ∷ older) r = IsSolution s
    × ((before : List ℕ) × Whole from older before
    × (pushed (record { row = before; tied = Some 0 }) s.row ≡ Some r))

one-in : (ss : List ListedSolution) → (length ss + 1 == 1) ≡ none_in ss
one-in [] = refl
one-in (s ∷ ss) = grind (arith, nat_tests)

well-first : (r : Risen) (ss : List ListedSolution) (k : ℕ) → k ≡ length ss + 1 → well_at r k ≡ true
    → has_risen r (none_in ss) ≡ true
well-first r ss k e h =
    let none : (k == 0) ≡ false = grind (arith, nat_tests) in
    let one : (k == 1) ≡ none_in ss = ap (λ n. n == 1) e ∙ one-in ss in
    ap (has_risen r) (sym one) ∙ rw none at h

whole-opened : (from : List ℕ) (ss : List ListedSolution) (r : Risen) (k : ℕ) → length ss ≡ k → well_at r k ≡ true
    → Opened from ss r → Whole from ss r.row
whole-opened from [] r k e h o = o
whole-opened from (s ∷ older) r k e h o =
    let ends = ends-after [] o.1.0 s.row (none_in older) r o.1.2 (well-first r older k (omega (arith, e)) h) in
    (ends.0, o.0, (o.1.0, ends.1, o.1.1))

-- the lines of these solutions
abbrev lines_turned : List ListedSolution → List (List ℕ)
lines_turned [] = []
lines_turned (s ∷ older) = lines_turned older ++ solution_lines (length older + 1, s)

each-line : {X : Type 0} (P : X → Type 0) (xs : List X) (x : X) → All P xs → P x → All P (xs ++ x ∷ [])
each-line P xs x h p =
    All-from_recursion P (xs ++ x ∷ []) (each-append P xs (x ∷ []) (recursion_from_All P xs h) (p, tt))

map-snoc : {X Y : Type 0} (f : X → Y) (xs : List X) (x : X) → map f (xs ++ x ∷ []) ≡ map f xs ++ f x ∷ []
map-snoc f [] x = refl
map-snoc f (y ∷ xs) x = ap (λ ys. f y ∷ ys) (map-snoc f xs x)

-- a line more
abbrev longer : ListedSolution → ℕ → List ℕ → ListedSolution
longer s k line = record { row = s.row ++ k ∷ []; lines = s.lines ++ line ∷ [] }

longer-is : (s : ListedSolution) (k : ℕ) (line : List ℕ) → IsSolution s → branch_number line ≡ Some k
    → has 10 line ≡ false
    → IsSolution (longer s k line)
longer-is s k line h e free = record {
  choices = map-snoc branch_number s.lines line ∙ cc-both (map branch_number s.lines) (map Some s.row)
      (branch_number line)
      (Some k) h.choices e ∙ sym (map-snoc Some s.row k);
  no_feeds = each-line (λ line. has 10 line ≡ false) s.lines line h.no_feeds free;
}
  where
    cc-both : (xs ys : List (Option ℕ)) (x y : Option ℕ) → xs ≡ ys → x ≡ y → xs ++ x ∷ [] ≡ ys ++ y ∷ []
    cc-both xs ys x y e f = cc (e, f)

-- ---- whole texts, the newest first

abbrev Reached : List SpanText → List ℕ → Bool → Type 0
Reached [] row finished = (row ≡ []) × (finished ≡ false)
Reached (t ∷ older) row finished = (row ≡ t.span.until) × (finished ≡ is_last t.span.until)
    × Reached older t.span.from false

abbrev texts_turned : Bool → List SpanText → List (List ℕ)
texts_turned listed [] = []
texts_turned listed (t ∷ older) = texts_turned listed older ++ shape_lines listed t

-- the lines of an open text
abbrev OpenWith : Option ℕ → Bool → Join → List ℕ → List (List ℕ) → Type 0
OpenWith None listed s row rest = rest ≡ []
OpenWith (Some k) listed s row rest = (listed ≡ true) × (s.finished ≡ false) × (is_digest s.digest ≡ true)
    × ((ss : List ListedSolution) × (length ss ≡ k) × Opened row ss s.rising
    × (rest ≡ heading_line row s.digest ∷ lines_turned ss))

-- what lines were read as
pub record ReadAs (listed : Bool) (lines : List (List ℕ)) (s : Join) : Type 0 where
  pub listed_so : s.listed ≡ listed
  pub texts : List SpanText
  pub each : AllByRecursion (IsShort listed) texts
  pub same_problem : AllByRecursion (λ t. t.digest ≡ s.digest) texts
  pub row : List ℕ
  pub short : AreShort row
  pub met : s.met ≡ row_text row
  pub reached : Reached texts row s.finished
  pub rest : List (List ℕ)
  pub part : OpenWith s.found listed s row rest
  pub noted : s.text ≡ text_after begun_digest rest
  pub is : lines ≡ texts_turned listed texts ++ rest

-- ---- one line more

last-before : (b : ℕ) (line front : List ℕ) → before_last b line ≡ Some front → line ≡ front ++ b ∷ []
last-before b line front e =
    let so = some-if (ends_with_byte b line) (take (length line - 1) line) front e in
    let tests = both (nat_lt 0 (length line)) (get_or line (length line - 1) 0 == b) so.0 in
    let some : 0 < length line = grind (arith, nat_tests) in
    let last : get_or line (length line - 1) 0 ≡ b = grind (arith, nat_tests) in
    let more = take_more line (length line - 1) 0 (omega arith) in
    let all : length line - 1 + 1 ≡ length line = omega arith in
    sym (take-length line) ∙ ap (λ n. take n line) (sym all) ∙ more ∙ cc-front (take
    (length line - 1) line) front _ b so.1
    last
  where
    cc-front : (xs ys : List ℕ) (x y : ℕ) → xs ≡ ys → x ≡ y → xs ++ x ∷ [] ≡ ys ++ y ∷ []
    cc-front xs ys x y e f = cc (e, f)

digest-long : (d : List ℕ) → is_digest d ≡ true → length d ≡ 16
digest-long d h = grind (arith, nat_tests)

not-so : (b : Bool) → not b ≡ true → b ≡ false
not-so true h = absurd (cc h)
not-so false h = refl

-- a header of this number is this line
header-is : (n : ℕ) (line : List ℕ) → is_header n line ≡ true → line ≡ header_line n
header-is n line h = read (before_last 58 line) refl h
  where
    read : (o : Option (List ℕ)) → before_last 58 line ≡ o
        → elim o [ None ↦ false | Some front ↦ bytes_eq front (decimal n) ] ≡ true → line ≡ header_line n
    read None is h = absurd (cc h)
    read (Some front) is h =
        let front_is : front ≡ decimal n = is-word front (decimal n) h in
        last-before 58 line front is ∙ ap (λ t. t ++ codes ":") front_is

-- texts of the same problem as one more
re-digest : (listed : Bool) (ts : List SpanText) (old digest : List ℕ) → AllByRecursion (IsShort listed) ts
    → AllByRecursion (λ t. t.digest ≡ old) ts → fits old digest ≡ true → AllByRecursion (λ t. t.digest ≡ digest) ts
re-digest listed [] old digest each same fit = tt
re-digest listed (t ∷ ts) old digest each same fit =
    let long : length t.digest ≡ 16 = digest-long t.digest each.0.digest in
    let some : (length old == 0) ≡ false = grind (arith, nat_tests, ap length same.0) in
    let is : digest ≡ old = is-word digest old (rw some at fit) in
    (same.0 ∙ sym is, re-digest listed ts old digest each.1 same.1 fit)

numbers-met : (word met row : List ℕ) → AreShort row → word ≡ met → met ≡ row_text row → numbers_in word ≡ row
numbers-met word met row short e f = ap numbers_in (e ∙ f) ∙ numbers-row row short

-- a line more of the newest solution
longer-opened : (from : List ℕ) (ss : List ListedSolution) (r q : Risen) (c : ℕ) (line : List ℕ) → 0 < length ss
    → branch_number line ≡ Some c → has 10 line ≡ false → risen_after r c ≡ Some q → Opened from ss r
    → (ts : List ListedSolution) × (length ts ≡ length ss) × Opened from ts q
    × (lines_turned ts ≡ lines_turned ss ++ line ∷ [])
longer-opened from [] r q c line some e free f o = absurd (omega (arith, some))
longer-opened from (s ∷ older) r q c line some e free f o = (
  longer s c line ∷ older,
  refl,
  (
    longer-is s c line o.0 e free,
    (o.1.0, o.1.1, pushed-more (record { row = o.1.0; tied = Some 0 }) s.row c r o.1.2 ∙ f),
  ),
  sym (append_assoc (lines_turned older) (solution_lines (length older + 1, s)) (line ∷ [])),
)

none-at : All (λ line. has 10 line ≡ false) []
none-at = All-from_recursion (λ line. has 10 line ≡ false) [] tt

-- what the record of a listing tells
last-parts : (s : Join) (k : ℕ) (t : Told) → is_last_record s k t ≡ true
    → (t.from ≡ s.met) × (t.counts.digest ≡ s.digest) × (t.counts.solutions ≡ k) × (well_at s.rising k ≡ true)
    × (ends_before s.rising.row k (numbers_in t.until) ≡ true)
last-parts s k t h =
    let e = both (bytes_eq t.from s.met && bytes_eq t.counts.digest s.digest && t.counts.solutions == k && ends_well
    s k)
    (ends_before s.rising.row k (numbers_in t.until)) h in
    let d = both (bytes_eq t.from s.met && bytes_eq t.counts.digest s.digest && t.counts.solutions == k) (ends_well s k)
    e.0 in
    let c = both (bytes_eq t.from s.met && bytes_eq t.counts.digest s.digest) (t.counts.solutions == k) d.0 in
    let b = both (bytes_eq t.from s.met) (bytes_eq t.counts.digest s.digest) c.0 in
    let number : t.counts.solutions ≡ k = grind (arith, nat_tests) in
    (is-word t.from s.met b.0, is-word t.counts.digest s.digest b.1, number, d.1, e.1)

-- a span without a listed solution doesn't end before it begins
ends-none : (row until : List ℕ) → ends_before row 0 until ≡ true → LieIn row [] until
ends-none row [] h = tt
ends-none row (n ∷ until) h =
    let some : (length (n ∷ until) == 0) ≡ false = grind (arith, nat_tests) in not-so _ (rw some at h)

-- ---- a whole text

length-turn : (ss tail : List ListedSolution) → length (turn ss tail) ≡ length ss + length tail
length-turn [] tail = omega arith
length-turn (s ∷ ss) tail = omega (arith, length-turn ss (s ∷ tail))

-- rows that follow those of these solutions, or the one at which the text begins
abbrev Next : List ℕ → List ListedSolution → List ℕ → List (List ℕ) → List ℕ → Type 0
Next from [] last rows until = LieIn from rows until
Next from (s ∷ ss) last rows until = Rise last rows until

next-before : (from before row : List ℕ) (ss : List ListedSolution) (rows : List (List ℕ)) (until : List ℕ)
    → IsAfter (none_in ss) before row → Whole from ss before → Rise row rows until
    → Next from ss before (row ∷ rows) until
next-before from before row [] rows until behind whole rise = (ap (precedes row) (sym whole) ∙ behind, rise)
next-before from before row (s ∷ ss) rows until behind whole rise = (behind, rise)

whole-turned : (from last : List ℕ) (ss tail : List ListedSolution) (until : List ℕ) → Whole from ss last
    → AllByRecursion IsSolution tail → Next from ss last (map (λ s. s.row) tail) until
    → AllByRecursion IsSolution (turn ss tail) × LieIn from (map (λ s. s.row) (turn ss tail)) until
whole-turned from last [] tail until whole all next = (all, next)
whole-turned from last (s ∷ ss) tail until whole all next =
    whole-turned from whole.2.0 ss (s ∷ tail) until whole.2.2 (whole.1, all)
    (next-before from whole.2.0 s.row ss (map (λ s. s.row) tail) until whole.2.1 whole.2.2
    (subst (λ r. Rise r (map (λ s. s.row) tail) until) whole.0 next))

ends-rise : (row : List ℕ) (k : ℕ) (ss : List ListedSolution) (until : List ℕ) → length ss ≡ k
    → ends_before row k until ≡ true → (from : List ℕ) → Whole from ss row → Next from ss row [] until
ends-rise row k [] until e h from whole =
    let none : 0 ≡ k = omega (arith, e) in
    ends-none from until (ap (λ r. ends_before r 0 until) (sym whole) ∙ rw (← none) at h)
ends-rise row k (s ∷ ss) [] e h from whole = refl
ends-rise row k (s ∷ ss) (n ∷ until) e h from whole =
    let some : (length (n ∷ until) == 0) ≡ false = grind (arith, nat_tests) in
    let more : (k == 0) ≡ false = grind (arith, nat_tests) in
    rw (some, more) at h

lines-turn-on : (ss tail : List ListedSolution) → lines_turned ss
    ++ flat_map solution_lines (enumerate_from (length ss + 1) tail)
    ≡ flat_map solution_lines (enumerate_from 1 (turn ss tail))
lines-turn-on [] tail = refl
lines-turn-on (s ∷ ss) tail =
    let next : length (s ∷ ss) + 1 ≡ length ss + 1 + 1 = omega arith in
    append_assoc (lines_turned ss) (solution_lines (length ss + 1, s)) _
    ∙ ap (λ k. lines_turned ss ++ (solution_lines (length ss + 1, s) ++ flat_map solution_lines
    (enumerate_from k tail)))
    next ∙ lines-turn-on ss (s ∷ tail)

lines-turn : (ss : List ListedSolution) → lines_turned ss ≡ flat_map solution_lines (enumerate_from 1 (turn ss []))
lines-turn ss = sym (append-nil (lines_turned ss)) ∙ lines-turn-on ss []

alone : (listed : Bool) (t : SpanText) → listed ≡ false → last_line false t ∷ [] ≡ shape_lines listed t
alone listed t e = ap (λ l. shape_lines l t) (sym e)

module _ (listed : Bool) (lines : List (List ℕ)) (s : Join) (line : List ℕ) (read : ReadAs listed lines s)
    (free : has 10 line ≡ false) where
  lines-rest : (rest : List (List ℕ)) → read.rest ++ line ∷ [] ≡ rest
      → lines ++ line ∷ [] ≡ texts_turned listed read.texts ++ rest
  lines-rest rest e =
      ap (λ ls. ls ++ line ∷ []) read.is ∙ append_assoc (texts_turned listed read.texts) read.rest (line ∷ [])
      ∙ ap (λ ls. texts_turned listed read.texts ++ ls) e

  -- the digest with one more line of an open text
  noted-rest : (rest : List (List ℕ)) → read.rest ++ line ∷ [] ≡ rest
      → text_after s.text (line ∷ []) ≡ text_after begun_digest rest
  noted-rest rest e =
      ap (λ d. text_after d (line ∷ [])) read.noted ∙ text-append begun_digest read.rest (line ∷ [])
      ∙ ap (text_after begun_digest) e

  -- a heading
  read-heading : s.found ≡ None → listed ≡ true → (h : Headed) → HeadingIs line h → is_same s h.digest ≡ true
      → meets s h.row ≡ true → ReadAs listed (lines ++ line ∷ []) (opened (line_noted s line) h)
  read-heading none list h is same meet =
      let at = meets-so s h.row meet in
      let row : numbers_in h.row ≡ read.row = numbers-met h.row s.met read.row read.short at.1 read.met in
      let empty : read.rest ≡ [] = subst (λ f. OpenWith f listed s read.row read.rest) none read.part in
      let first : read.rest ++ line ∷ [] ≡ heading_line read.row h.digest ∷ [] =
      ap (λ ls. ls ++ line ∷ []) empty ∙ ap (λ l. l ∷ []) (is.is ∙ ap (λ r. heading_line r h.digest) row) in
      record {
        listed_so = read.listed_so;
        texts = read.texts;
        each = read.each;
        same_problem = re-digest listed read.texts s.digest h.digest read.each read.same_problem same;
        row = read.row;
        short = read.short;
        met = read.met;
        reached = read.reached;
        rest = heading_line read.row h.digest ∷ [];
        part = (list, at.0, is.digest, ([], refl, row, refl));
        noted = noted-rest (heading_line read.row h.digest ∷ []) first;
        is = lines-rest (heading_line read.row h.digest ∷ []) first;
      }

  -- a record alone
  read-record : s.found ≡ None → listed ≡ false → (front : List ℕ) (t : Told)
      → line ≡ closing_line s.text front → RecordIs front t
      → ends_before (numbers_in t.from) 0 (numbers_in t.until) ≡ true → is_same s t.counts.digest ≡ true
      → meets s t.from ≡ true → ReadAs listed (lines ++ line ∷ []) (recorded s t)
  read-record none list front t closing is ends same meet =
      let at = meets-so s t.from meet in
      let row : numbers_in t.from ≡ read.row = numbers-met t.from s.met read.row read.short at.1 read.met in
      let empty : read.rest ≡ [] = subst (λ f. OpenWith f listed s read.row read.rest) none read.part in
      let until = numbers_in t.until in
      let text : SpanText = record {
        span = record { from = read.row; until = until; branches = is.branches; steps = is.steps };
        count = t.counts.solutions;
        found = [];
        digest = t.counts.digest;
      } in
      let short : IsShort listed text = record {
        each = tt;
        rows = ends-none read.row until (ap (λ r. ends_before r 0 until) (sym row) ∙ ends);
        counted = subst (λ l. TellsCount l text) (sym list) refl;
        from = read.short;
        until = is.short_until;
        branches = is.short;
        steps = is.few_steps;
        few = is.few;
        digest = is.digest;
      } in
      record {
        listed_so = read.listed_so;
        texts = text ∷ read.texts;
        each = (short, read.each);
        same_problem = (refl, re-digest listed read.texts s.digest t.counts.digest read.each read.same_problem same);
        row = until;
        short = is.short_until;
        met = is.until;
        reached = (
          refl,
          ap (λ w. bytes_eq w (codes "-")) is.until,
          subst
              (Reached read.texts read.row) at.0 read.reached,
        );
        rest = [];
        part = refl;
        noted = refl;
        is = lines-rest (last_line false text ∷ []) (ap (λ ls. ls ++ line ∷ []) empty
            ∙ ap (λ l. l ∷ []) (closing
            ∙ ap (λ d. closing_line d front) (read.noted ∙ ap (text_after begun_digest) empty)
            ∙ ap (closing_line begun_digest) (is.is ∙ ap (λ r. record_line r until is.branches t.counts.solutions
            is.steps t.counts.digest) row)))
            ∙ ap (λ ls. texts_turned listed read.texts ++ ls) (alone listed text list)
            ∙ sym (append-nil (texts_turned listed read.texts ++ shape_lines listed text));
      }

  module _ (k : ℕ) (some : s.found ≡ Some k) where
    open_so : OpenWith (Some k) listed s read.row read.rest
    open_so = subst (λ f. OpenWith f listed s read.row read.rest) some read.part

    -- a choice line
    read-choice : 0 < k → (c : ℕ) (r : Risen) → branch_number line ≡ Some c → risen_after s.rising c ≡ Some r
        → ReadAs listed (lines ++ line ∷ []) (record (line_noted s line) { rising = r })
    read-choice more c r e f =
        let o = open_so in
        let longer_so = longer-opened read.row o.3.0 s.rising r c line (omega (arith, more, o.3.1)) e free f o.3.2 in
        let rest = heading_line read.row s.digest ∷ lines_turned longer_so.0 in
        let next : read.rest ++ line ∷ [] ≡ rest =
        ap (λ ls. ls ++ line ∷ []) o.3.3 ∙ ap (λ ls. heading_line read.row s.digest ∷ ls) (sym longer_so.3) in
        record {
          listed_so = read.listed_so;
          texts = read.texts;
          each = read.each;
          same_problem = read.same_problem;
          row = read.row;
          short = read.short;
          met = read.met;
          reached = read.reached;
          rest = rest;
          part = subst (λ f. OpenWith f listed (record (line_noted s line) { rising = r }) read.row rest) (sym some)
              (o.0, o.1, o.2, (longer_so.0, longer_so.1 ∙ o.3.1, longer_so.2, refl));
          noted = noted-rest rest next;
          is = lines-rest rest next;
        }

    -- the header of a solution
    read-header : is_header (k + 1) line ≡ true → well_at s.rising k ≡ true → (full : Bool) (total : ℕ)
        → ReadAs listed (lines ++ line ∷ []) (record (line_noted s line) {
          found = Some (k + 1);
          rising = record s.rising { tied = Some 0 };
          full = full;
          total = total;
        })
    read-header h well full total =
        let o = open_so in
        let ss = o.3.0 in
        let begun : List ListedSolution = record { row = []; lines = [] } ∷ ss in
        let whole = whole-opened read.row ss s.rising k o.3.1 well o.3.2 in
        let count : k + 1 ≡ length ss + 1 = omega (arith, o.3.1) in
        let rest = heading_line read.row s.digest ∷ lines_turned begun in
        let next : read.rest ++ line ∷ [] ≡ rest =
        ap (λ ls. ls ++ line ∷ []) o.3.3 ∙ ap (λ l. heading_line read.row s.digest ∷ lines_turned ss ++ l ∷ [])
        (header-is (k + 1) line h ∙ ap header_line count) in
        record {
          listed_so = read.listed_so;
          texts = read.texts;
          each = read.each;
          same_problem = read.same_problem;
          row = read.row;
          short = read.short;
          met = read.met;
          reached = read.reached;
          rest = rest;
          part = (
            o.0,
            o.1,
            o.2,
            (
              begun,
              omega (arith, o.3.1),
              (
                record { choices = refl; no_feeds = none-at },
                (s.rising.row, whole, refl),
              ),
              refl,
            ),
          );
          noted = noted-rest rest next;
          is = lines-rest rest next;
        }

    -- the record of a listing
    read-last : (front : List ℕ) (t : Told) → line ≡ closing_line s.text front → RecordIs front t
        → is_last_record s k t ≡ true → ReadAs listed (lines ++ line ∷ []) (closed s t.until)
    read-last front t closing is right =
        let o = open_so in
        let ss = o.3.0 in
        let so = last-parts s k t right in
        let row : numbers_in t.from ≡ read.row = numbers-met t.from s.met read.row read.short so.0 read.met in
        let until = numbers_in t.until in
        let whole = whole-opened read.row ss s.rising k o.3.1 so.3 o.3.2 in
        let text : SpanText = record {
          span = record { from = read.row; until = until; branches = is.branches; steps = is.steps };
          count = t.counts.solutions;
          found = turn ss [];
          digest = s.digest;
        } in
        let listing : read.rest ≡ listing_lines true text =
        o.3.3 ∙ ap (λ ls. heading_line read.row s.digest ∷ ls) (lines-turn ss) in
        let front_so : front ≡ front_line text =
        is.is ∙ ap (λ r. record_line r until is.branches t.counts.solutions is.steps t.counts.digest) row
        ∙ ap (record_line read.row until is.branches t.counts.solutions is.steps) so.1 in
        let all = whole-turned read.row s.rising.row ss [] until whole tt
        (ends-rise s.rising.row k ss until o.3.1 so.4 read.row whole) in
        let short : IsShort listed text = record {
          each = all.0;
          rows = all.1;
          counted = subst (λ l. TellsCount l text) (sym o.0) (length-turn ss [] ∙ omega (arith, o.3.1, so.2));
          from = read.short;
          until = is.short_until;
          branches = is.short;
          steps = is.few_steps;
          few = is.few;
          digest = o.2;
        } in
        record {
          listed_so = read.listed_so;
          texts = text ∷ read.texts;
          each = (short, read.each);
          same_problem = (refl, read.same_problem);
          row = until;
          short = is.short_until;
          met = is.until;
          reached = (
            refl,
            ap (λ w. bytes_eq w (codes "-")) is.until,
            subst
                (Reached read.texts read.row) o.1 read.reached,
          );
          rest = [];
          part = refl;
          noted = refl;
          is = lines-rest (shape_lines listed text)
              (ap (λ ls. ls ++ line ∷ []) listing ∙ ap (λ l. listing_lines true text ++ l ∷ [])
              (closing ∙ ap (λ d. closing_line d front) (read.noted ∙ ap (text_after begun_digest) listing)
              ∙ ap (closing_line (listing_digest true text)) front_so)
              ∙ ap (λ l. shape_lines l text) (sym o.0))
              ∙ sym (append-nil (texts_turned listed read.texts ++ shape_lines listed text));
        }

  -- any line that went on
  read-line : (q : Join) (text : List ℕ) → by_line s line ≡ (goes q, text) → ReadAs listed (lines ++ line ∷ []) q
  read-line q text e = by-found s.found refl e
    where
      by-went : (k : ℕ) → s.found ≡ Some k → Went q text s k line → ReadAs listed (lines ++ line ∷ []) q
      by-went k some (a_choice more e) =
          let so = choice-went q text (line_noted s line) line e in
          subst (ReadAs listed (lines ++ line ∷ [])) so.4 (read-choice k some (grind
          (arith, nat_tests)) so.0 so.1 so.2 so.3)
      by-went k some (a_last e) =
          let at = digest-went q text s line (by_last s k) e in
          let so = last-went q text s k (words_in at.0) at.2 in
          subst (ReadAs listed (lines ++ line ∷ [])) so.3
          (read-last k some at.0 so.0 (closing-is s.text line at.0 at.1) (record-so at.0 so.0 so.1) so.2)
      by-went k some (a_header is well few e) =
          let so = header-went q text (line_noted s line) (k + 1) e in
          subst (ReadAs listed (lines ++ line ∷ [])) so.2 (read-header k some is well so.0 so.1)

      by-listed : (b : Bool) → s.found ≡ None → listed ≡ b
          → Gives (if b then by_heading (line_noted s line) (words_in line) else by_digest s line (by_record s))
          (goes q) text
          → ReadAs listed (lines ++ line ∷ []) q
      by-listed true none list e =
          let so = heading-went q text (line_noted s line) (words_in line) e in
          subst (ReadAs listed (lines ++ line ∷ [])) so.4
          (read-heading none list so.0 (heading-so line so.0 so.1) so.2 so.3)
      by-listed false none list e =
          let at = digest-went q text s line (by_record s) e in
          let so = record-went q text s (words_in at.0) at.2 in
          subst (ReadAs listed (lines ++ line ∷ [])) so.5
          (read-record none list at.0 so.0 (closing-is s.text line at.0 at.1) (record-so at.0 so.0 so.1) so.2 so.3 so.4)

      by-found : (f : Option ℕ) → s.found ≡ f
          → Gives (elim f [
            | Some found ↦ inside s found line
            | None ↦ if s.listed then by_heading (line_noted s line) (words_in line) else by_digest s line (by_record s)
          ]) (goes q) text
          → ReadAs listed (lines ++ line ∷ []) q
      by-found None none e =
          by-listed listed none refl (subst (λ b. Gives (if b then by_heading (line_noted s line) (words_in line)
          else by_digest s line (by_record s)) (goes q) text) read.listed_so e)
      by-found (Some k) some e = by-went k some (inside-went q text s k line e)

-- ---- lines from the beginning on

-- what leads on went on
went-on : (st : Stand) (lines : List (List ℕ)) (q : Join) → stand_after st lines ≡ goes q → (s : Join) × (st ≡ goes s)
went-on (goes s) lines q e = (s, refl)
went-on faulty lines q e = absurd (cc (sym (after-faulty lines) ∙ e))
went-on mixed lines q e = absurd (cc (sym (after-mixed lines) ∙ e))
went-on (apart m n) lines q e = absurd (cc (sym (after-apart m n lines) ∙ e))

pub read-lines : (listed : Bool) (before lines : List (List ℕ)) (s q : Join) → ReadAs listed before s → AreWhole lines
    → stand_after (goes s) lines ≡ goes q → ReadAs listed (before ++ lines) q
read-lines listed before [] s q read whole e =
    let is : s ≡ q = cc e in
    subst (λ ls. ReadAs listed ls q) (sym (append-nil before)) (subst (ReadAs listed before) is read)
read-lines listed before (line ∷ lines) s q read whole e =
    let at = went-on (by_line s line).0 lines q e in
    let next = read-line listed before s line read whole.0 at.0 (by_line s line).1
    (ap (λ st. (st, (by_line s line).1)) at.1) in
    subst (λ ls. ReadAs listed ls q) (append_assoc before (line ∷ []) lines)
    (read-lines listed (before ++ line ∷ []) lines at.0 q next whole.1 (ap (λ z. stand_after z lines) (sym at.1) ∙ e))

pub start-read : (listed : Bool) → ReadAs listed [] (start listed)
start-read listed = record {
  listed_so = refl;
  texts = [];
  each = tt;
  same_problem = tt;
  row = [];
  short = tt;
  met = refl;
  reached = (refl, refl);
  rest = [];
  part = refl;
  noted = refl;
  is = refl;
}

-- ---- the whole input

texts-turn : (listed : Bool) (ts tail : List SpanText) → texts_turned listed ts ++ flat_map (shape_lines listed) tail
    ≡ flat_map (shape_lines listed) (turn ts tail)
texts-turn listed [] tail = refl
texts-turn listed (t ∷ ts) tail =
    append_assoc (texts_turned listed ts) (shape_lines listed t) _ ∙ texts-turn listed ts (t ∷ tail)

each-turn : (P Q : SpanText → Type 0) (ts tail : List SpanText) → ((t : SpanText) → P t → Q t) → AllByRecursion P ts
    → AllByRecursion Q tail → AllByRecursion Q (turn ts tail)
each-turn P Q [] tail f all rest = rest
each-turn P Q (t ∷ ts) tail f all rest = each-turn P Q ts (t ∷ tail) f all.1 (f t all.0, rest)

-- a span that ends before the listing's end, and then others
meet-on : (until row : List ℕ) (spans : List SearchedSpan) → row ≡ until → false ≡ is_last until → DoMeet row spans
    → elim until as (λ u. Type 0) [ [] ↦ spans ≡ [] | n ∷ u ↦ DoMeet (n ∷ u) spans ]
meet-on [] row spans e f meet = absurd (cc f)
meet-on (n ∷ u) row spans e f meet = subst (λ r. DoMeet r spans) e meet

meets-turn : (ts tail : List SpanText) (row : List ℕ) → Reached ts row false → DoMeet row (map (λ t. t.span) tail)
    → DoMeet [] (map (λ t. t.span) (turn ts tail))
meets-turn [] tail row reached meet = subst (λ r. DoMeet r (map (λ t. t.span) tail)) reached.0 meet
meets-turn (t ∷ ts) tail row reached meet =
    meets-turn ts (t ∷ tail) t.span.from reached.2
    (refl, meet-on t.span.until row (map (λ t. t.span) tail) reached.0 reached.1 meet)

meet-end : (until : List ℕ) (none : List SearchedSpan) → AreShort until → true ≡ is_last until → none ≡ []
    → elim until as (λ u. Type 0) [ [] ↦ none ≡ [] | n ∷ u ↦ DoMeet (n ∷ u) none ]
meet-end [] none short e f = f
meet-end (n ∷ u) none short e f = absurd (cc (e ∙ not-dash n u short))

meets-all : (listed : Bool) (ts : List SpanText) (row : List ℕ) → AllByRecursion (IsShort listed) ts
    → Reached ts row true → DoMeet [] (map (λ t. t.span) (turn ts []))
meets-all listed [] row each reached = absurd (cc reached.1)
meets-all listed (t ∷ ts) row each reached =
    meets-turn ts (t ∷ []) t.span.from reached.2 (refl, meet-end t.span.until [] each.0.until reached.1 refl)

module _ (listed : Bool) (lines : List (List ℕ)) (s : Join) (read : ReadAs listed lines s) (none : s.found ≡ None)
    (ended_so : s.finished ≡ true) where
  pub texts_read : List SpanText
  texts_read = turn read.texts []

  pub shapes-read : AreShapes listed texts_read (ended lines)
  unfolding texts_read
  shapes-read =
      let empty : read.rest ≡ [] = subst (λ f. OpenWith f listed s read.row read.rest) none read.part in
      record {
        each = All-from_recursion (HasShape listed) _ (each-turn (IsShort listed) (HasShape listed) read.texts []
            (shape-short listed) read.each tt);
        whole = texts-ended listed (turn read.texts []) ∙ ap ended (sym (texts-turn listed read.texts [])
            ∙ ap (λ ls. texts_turned listed read.texts ++ ls) (sym empty) ∙ sym read.is);
      }

  pub meet-read : DoMeet [] (spans_in texts_read)
  unfolding texts_read
  meet-read = meets-all listed read.texts read.row read.each (subst (Reached read.texts read.row) ended_so read.reached)

  pub one-read : AreOfOneProblem texts_read
  unfolding texts_read
  one-read = (
    s.digest,
    All-from_recursion (λ t. t.digest ≡ s.digest) _ (each-turn _ (λ t. t.digest ≡ s.digest)
        read.texts [] (λ t e. e) read.same_problem tt),
  )
