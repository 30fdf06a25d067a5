-- What the lines of the texts of spans come to, one text after another, and how they end.
use Rattle.std.proofs.Common.{◌≡◌, ℕ, ◌+◌, inl, inr, Bool, true, false, List, [], ◌∷◌, ◌++◌, None}
use Rattle.std.proofs.Common.{length, flat_map, refl, sym, ap, ◌∙◌, arith, append_assoc, append-nil, subst, nat_lt}
use Rattle.std.proofs.Common.{length-append, map, suc, ◌≤◌, min, take, zero}
use Rattle.std.specs.List.{AllByRecursion, enumerate_from}
use Rattle.std.specs.Str.{bytes_eq}
use Rattle.std.proofs.lemmas.Bool.Decides.{nat_tests}
use Rattle.std.proofs.lemmas.List.Elements.{recursion_from_All}
use Rattle.std.proofs.lemmas.Slice.Eq.{bytes_eq-Decides}
use Rattle.std.proofs.lemmas.List.Sums.{sum_by-cons}
use Rattle.std.specs.Prelude.{if◌then◌else◌, ◌==◌, not, codes, sum_by}
use Rattle.xc_text.specs.Words.{has}
use Rattle.xc_text.specs.Lines.{lines_of}
use Rattle.xc_text.specs.inner.LineFeeds.{ended, AreWhole}
use Rattle.xc_text.proofs.ListLemmas.{by_bool}
use Rattle.xc_text.proofs.LineLemmas.{lines_of-all, lines_of-ended, lines_of-part, ended-append}
use Rattle.xc_check.specs.ListingLines.{words_in}
use Rattle.xc_list.specs.SpanTexts.{row_text, most_counted}
use Rattle.xc_list.specs.SearchedSpans.{SearchedSpan}
use Rattle.xc_list.specs.declared.ends.End.TheVariants.{Done, Limit}
use Rattle.xc_tools.specs.Joins.{DoMeet, IsBeginning, joined, AreOfOneProblem, IsFirstGap, end_of_texts, spans_in}
use Rattle.xc_tools.specs.SpanShapes.{LieIn, ListedSolution, SpanText, AreShapes, HasShape, solution_text}
use Rattle.xc_tools.specs.inner.SpanLines.{Risen, ends_before, Headed, Told, numbers_in, Join, Stand, goes, faulty}
use Rattle.xc_tools.specs.inner.SpanLines.{mixed, apart, stand_after, begins_at, by_line, is_same, meets, opened}
use Rattle.xc_tools.specs.inner.SpanLines.{by_record, line_noted, recorded, wrote, start}
use Rattle.xc_tools.proofs.SpanWords.{AreShort, heading_line, heading-read, not-dash, numbers-row, record-read}
use Rattle.xc_tools.proofs.SpanWords.{both, is-word, rows-same, same}
use Rattle.xc_tools.proofs.SpanLines.{IsShort, after-append, fits, follow-none, heading-read-so, is_last, last_line}
use Rattle.xc_tools.proofs.SpanLines.{record-read-so, rest_at, run-shape, shape_lines, shown, told_from, told_part}
use Rattle.xc_tools.proofs.SpanLines.{wrote-append, whole-append, whole-shape, solution_lines, short-shape}
use Rattle.xc_tools.proofs.SpanLines.{closing-read-so, front_line, texts-ended}

-- ======== What the lines of the texts of spans come to, one text after another.

-- ---- a gap

pub after-apart : (m n : List ℕ) (ls : List (List ℕ)) → stand_after (apart m n) ls ≡ apart m n
after-apart m n [] = refl
after-apart m n (l ∷ ls) = after-apart m n ls

pub wrote-apart : (m n : List ℕ) (ls : List (List ℕ)) → wrote (apart m n) ls ≡ []
wrote-apart m n [] = refl
wrote-apart m n (l ∷ ls) = wrote-apart m n ls

begins-apart : (s : Join) (digest row : List ℕ) (next : Stand) → is_same s digest ≡ true → meets s row ≡ false
    → begins_at s digest row next ≡ (apart s.met row, [])
begins-apart s digest row next same other = rw (same, other) refl

-- these lines lead to a gap at these rows, and nothing is written for them
abbrev pub IsGapAt : Stand → List (List ℕ) → List ℕ → List ℕ → Type 0
IsGapAt s ls m n = (stand_after s ls ≡ apart m n) × (wrote s ls ≡ [])

gap-first : (s : Join) (line : List ℕ) (ls : List (List ℕ)) (m n : List ℕ) → by_line s line ≡ (apart m n, [])
    → IsGapAt (goes s) (line ∷ ls) m n
gap-first s line ls m n e = (
  ap (λ r. stand_after r.0 ls) e ∙ after-apart m n ls,
  ap (λ r. r.1 ++ wrote r.0 ls) e ∙ wrote-apart m n ls,
)

pub gap-at : (listed finished : Bool) (old row : List ℕ) (n : ℕ) (r : Risen) (t : SpanText) (ls : List (List ℕ))
    → IsShort listed t → fits old t.digest ≡ true
    → meets (rest_at listed old finished row n r) (row_text t.span.from) ≡ false
    → IsGapAt (goes (rest_at listed old finished row n r)) (shape_lines listed t ++ ls) (row_text row)
    (row_text t.span.from)
gap-at true finished old row n r t ls h fit e =
    let line = heading_line t.span.from t.digest in
    let s = line_noted (rest_at true old finished row n r) line in
    let told : Headed = record { row = row_text t.span.from; digest = t.digest } in
    gap-first (rest_at true old finished row n r) line _ (row_text row) (row_text t.span.from)
    (heading-read-so s (words_in line) told (heading-read t.span.from t.digest h.from h.digest)
    ∙ begins-apart s t.digest (row_text t.span.from) (goes (opened s told)) fit e)
gap-at false finished old row n r t ls h fit e =
    let s = rest_at false old finished row n r in
    let line = front_line t in
    let told : Told = record {
      from = row_text t.span.from;
      until = row_text t.span.until;
      counts = record { solutions = t.count; digest = t.digest };
    } in
    let ends : ends_before (numbers_in (row_text t.span.from)) 0 (numbers_in (row_text t.span.until)) ≡ true =
    rw (numbers-row t.span.from h.from, numbers-row t.span.until h.until) (follow-none 0 t.span.from t.span.until
    (subst (λ ss. LieIn t.span.from (map (λ s. s.row) ss) t.span.until) h.counted h.rows)) in
    gap-first s (last_line false t) ls (row_text row) (row_text t.span.from)
    (closing-read-so s line (by_record s) ∙ record-read-so s (words_in line) told
    (record-read t.span.from t.span.until t.span.branches t.count t.span.steps t.digest h.from h.until h.branches h.few
    h.steps h.digest)
    ∙ ap (λ (x : Bool). if x then begins_at s t.digest (row_text t.span.from) (goes (recorded s told))
    else (faulty, [])) ends
    ∙ begins-apart s t.digest (row_text t.span.from) (goes (recorded s told)) fit e)

pub fits-same : (digest : List ℕ) → fits digest digest ≡ true
fits-same digest = grind (arith, nat_tests, same digest)

pub start-is : (listed : Bool) → start listed ≡ rest_at listed [] false [] 0 (record { row = []; tied = None })
start-is true = refl
start-is false = refl

-- no row was read yet
abbrev pub none-yet : Risen
none-yet = record { row = []; tied = None }

pub after-faulty : (ls : List (List ℕ)) → stand_after faulty ls ≡ faulty
after-faulty [] = refl
after-faulty (l ∷ ls) = after-faulty ls

pub after-mixed : (ls : List (List ℕ)) → stand_after mixed ls ≡ mixed
after-mixed [] = refl
after-mixed (l ∷ ls) = after-mixed ls

pub wrote-mixed : (ls : List (List ℕ)) → wrote mixed ls ≡ []
wrote-mixed [] = refl
wrote-mixed (l ∷ ls) = wrote-mixed ls

-- ---- lines of a text

module _ (all : List (List ℕ)) (whole_all : AreWhole all) (text : List ℕ) (is : text ≡ ended all) where
  -- the lines that begin a text are its first lines
  pub lines-first : (ls : List (List ℕ)) (rest : List ℕ) → AreWhole ls → text ≡ ended ls ++ rest
      → all ≡ ls ++ lines_of rest
  lines-first ls rest whole e =
      sym (lines_of-all all whole_all) ∙ ap lines_of (sym is ∙ e) ∙ lines_of-ended ls rest whole

  -- a text ends behind a line feed
  pub none-cut : (ls : List (List ℕ)) (rest : List ℕ) → AreWhole ls → has 10 rest ≡ false → text ≡ ended ls ++ rest
      → rest ≡ []
  none-cut ls [] whole free e = refl
  none-cut ls (b ∷ rest) whole free e =
      let lines = lines-first ls (b ∷ rest) whole e in
      let last = lines_of-part (b ∷ rest) free (omega arith) in
      let two : ended ls ++ (b ∷ rest) ≡ ended ls ++ ended ((b ∷ rest) ∷ []) =
      sym e ∙ is ∙ ap ended (lines ∙ ap (λ l. ls ++ l) last) ∙ ended-append ls ((b ∷ rest) ∷ []) in
      absurd (omega (
        arith,
        ap length two,
        length-append (ended ls) (b ∷ rest),
        length-append (ended ls) (ended ((b ∷ rest) ∷ [])),
        length-append (b ∷ rest) (10 ∷ []),
      ))

-- ======== What the lines of texts come to, of whatever problems they are.

-- ---- a text of another problem

begins-mixed : (s : Join) (digest row : List ℕ) (next : Stand) → is_same s digest ≡ false
    → begins_at s digest row next ≡ (mixed, [])
begins-mixed s digest row next other = rw other refl

-- these lines lead to such a text, and nothing is written for them
abbrev IsMixed : Stand → List (List ℕ) → Type 0
IsMixed s ls = (stand_after s ls ≡ mixed) × (wrote s ls ≡ [])

mixed-first : (s : Join) (line : List ℕ) (ls : List (List ℕ)) → by_line s line ≡ (mixed, [])
    → IsMixed (goes s) (line ∷ ls)
mixed-first s line ls e = (
  ap (λ r. stand_after r.0 ls) e ∙ after-mixed ls,
  ap (λ r. r.1 ++ wrote r.0 ls) e ∙ wrote-mixed ls,
)

mixed-shape : (listed finished : Bool) (old row : List ℕ) (n : ℕ) (r : Risen) (t : SpanText) (ls : List (List ℕ))
    → IsShort listed t → fits old t.digest ≡ false
    → IsMixed (goes (rest_at listed old finished row n r)) (shape_lines listed t ++ ls)
mixed-shape true finished old row n r t ls h other =
    let line = heading_line t.span.from t.digest in
    let s = line_noted (rest_at true old finished row n r) line in
    let told : Headed = record { row = row_text t.span.from; digest = t.digest } in
    mixed-first (rest_at true old finished row n r) line
    (flat_map solution_lines (enumerate_from 1 t.found) ++ last_line true t ∷ [] ++ ls)
    (heading-read-so s (words_in line) told (heading-read t.span.from t.digest h.from h.digest)
    ∙ begins-mixed s t.digest (row_text t.span.from) (goes (opened s told)) other)
mixed-shape false finished old row n r t ls h other =
    let s = rest_at false old finished row n r in
    let line = front_line t in
    let told : Told = record {
      from = row_text t.span.from;
      until = row_text t.span.until;
      counts = record { solutions = t.count; digest = t.digest };
    } in
    let ends : ends_before (numbers_in (row_text t.span.from)) 0 (numbers_in (row_text t.span.until)) ≡ true =
    rw (numbers-row t.span.from h.from, numbers-row t.span.until h.until) (follow-none 0 t.span.from t.span.until
    (subst (λ ss. LieIn t.span.from (map (λ s. s.row) ss) t.span.until) h.counted h.rows)) in
    mixed-first s (last_line false t) ls
    (closing-read-so s line (by_record s) ∙ record-read-so s (words_in line) told
    (record-read t.span.from t.span.until t.span.branches t.count t.span.steps t.digest h.from h.until h.branches h.few
    h.steps h.digest)
    ∙ ap (λ (x : Bool). if x then begins_at s t.digest (row_text t.span.from) (goes (recorded s told))
    else (faulty, [])) ends
    ∙ begins-mixed s t.digest (row_text t.span.from) (goes (recorded s told)) other)

-- ---- what is written

-- what is listed of texts behind so many solutions
abbrev pub told_all : Bool → ℕ → List SpanText → List ℕ
told_all listed n [] = []
told_all listed n (t ∷ ts) = told_part listed n t.found ++ told_all listed (n + t.count) ts

-- how many solutions there are with those of these texts
abbrev pub count_all : ℕ → List SpanText → ℕ
count_all n [] = n
count_all n (t ∷ ts) = count_all (n + t.count) ts

past_most : (n : ℕ) (ss : List ListedSolution) → most_counted ≤ n → told_from n ss ≡ []
past_most n [] h = refl
past_most n (s ∷ ss) h = grind (arith, past_most (n + 1) ss (omega (arith, h)))

from-append : (n : ℕ) (xs ys : List ListedSolution)
    → told_from n (xs ++ ys) ≡ told_from n xs ++ told_from (n + length xs) ys
from-append n [] ys = let e : n ≡ n + 0 = omega arith in ap (λ k. told_from k ys) e
from-append n (x ∷ xs) ys = grind (arith, shown, append_assoc, from-append (n + 1) xs ys)

pub from-listed : (ss : List ListedSolution) (n most : ℕ) → n + most ≡ most_counted
    → told_from n ss ≡ flat_map solution_text (enumerate_from (n + 1) (take most ss))
from-listed [] n zero e = refl
from-listed [] n (suc most) e = refl
from-listed (s ∷ ss) n zero e = past_most n (s ∷ ss) (omega (arith, e))
from-listed (s ∷ ss) n (suc most) e =
    let low : nat_lt most_counted (n + 1) ≡ false = grind (arith, nat_tests) in
    rw low (ap (λ t. solution_text (n + 1, s) ++ t) (from-listed ss (n + 1) most (omega (arith, e))))

told-found : (ts : List SpanText) (n : ℕ) → AllByRecursion (IsShort true) ts
    → told_all true n ts ≡ told_from n (flat_map (λ t. t.found) ts)
told-found [] n each = refl
told-found (t ∷ ts) n each =
    let rest = flat_map (λ (t : SpanText). t.found) ts in
    ap (λ x. told_from n t.found ++ x) (told-found ts (n + t.count) each.1
    ∙ ap (λ k. told_from (n + k) rest) (sym each.0.counted)) ∙ sym (from-append n t.found rest)

none-told : (ts : List SpanText) (n : ℕ) → told_all false n ts ≡ []
none-told [] n = refl
none-told (t ∷ ts) n = none-told ts (n + t.count)

none-found : (ts : List SpanText) → AllByRecursion (IsShort false) ts → flat_map (λ t. t.found) ts ≡ []
none-found [] each = refl
none-found (t ∷ ts) each = cc (each.0.counted, none-found ts each.1)

-- what is listed of all texts is what joining them writes
pub joined-is : (listed : Bool) (ts : List SpanText) → AllByRecursion (IsShort listed) ts
    → told_all listed 0 ts ≡ joined ts
joined-is true ts each = told-found ts 0 each ∙ from-listed (flat_map (λ t. t.found) ts) 0 most_counted refl
joined-is false ts each =
    none-told ts 0 ∙ ap (λ ss. told_from 0 ss) (sym (none-found ts each))
    ∙ from-listed (flat_map (λ t. t.found) ts) 0 most_counted refl

count-is : (ts : List SpanText) (n : ℕ) → count_all n ts ≡ n + sum_by (λ t. t.count) ts
count-is [] n = omega arith
count-is (t ∷ ts) n = omega (arith, count-is ts (n + t.count), sum_by-cons (λ (t : SpanText). t.count) t ts)

count-all : (ts : List SpanText) → count_all 0 ts ≡ sum_by (λ t. t.count) ts
count-all ts = omega (arith, count-is ts 0)

-- how a run ends over so many
pub end-is : (n total : ℕ) → total ≡ min most_counted n
    → (if total == most_counted then Limit total else Done total)
    ≡ (if nat_lt n most_counted then Done n else Limit most_counted)
end-is n total e = grind (arith, nat_tests)

abbrev total_in : Stand → ℕ
total_in (goes s) = s.total
total_in faulty = 0
total_in mixed = 0
total_in (apart m n) = 0

-- What was written for the lines of texts is a beginning of what is listed of them; where they led to the end of the
-- listing it is the whole, and their number is known.
pub record Writes (listed : Bool) (n : ℕ) (ts : List SpanText) (st : Stand) (text : List ℕ) : Type 0 where
  pub begun : IsBeginning text (told_all listed n ts)
  pub whole : (s : Join) → st ≡ goes s → s.finished ≡ true
      → (text ≡ told_all listed n ts) × (s.total ≡ min most_counted (count_all n ts))

-- a text may begin where the last one ended
pub meets-so : (s : Join) (row : List ℕ) → meets s row ≡ true → (s.finished ≡ false) × (row ≡ s.met)
meets-so s row h =
    let parts = both (not s.finished) (bytes_eq row s.met) h in
    (not-so s.finished parts.0, is-word row s.met parts.1)
  where
    not-so : (b : Bool) → not b ≡ true → b ≡ false
    not-so true h = absurd (cc h)
    not-so false h = refl

module _ (listed : Bool) where
  writes-none : (n : ℕ) (ts : List SpanText) (st : Stand) (text : List ℕ) → text ≡ []
      → ((s : Join) → st ≡ goes s → ⊥) → Writes listed n ts st text
  writes-none n ts st text e none = record {
    begun = (told_all listed n ts, ap (λ t. t ++ told_all listed n ts) e);
    whole = λ s is f. absurd (none s is);
  }

  writes-on : (n : ℕ) (t : SpanText) (ts : List SpanText) (st : Stand) (text : List ℕ)
      → Writes listed (n + t.count) ts st text → Writes listed n (t ∷ ts) st (told_part listed n t.found ++ text)
  writes-on n t ts st text h =
      let part = told_part listed n t.found in
      record {
        begun = (h.begun.0, append_assoc part text h.begun.0 ∙ ap (λ x. part ++ x) h.begun.1);
        whole = λ s is f. let so = h.whole s is f in (ap (λ x. part ++ x) so.0, so.1);
      }

  -- what texts write from some state on
  abbrev WritesFrom : Join → ℕ → List SpanText → Type 0
  WritesFrom s n ts =
      Writes listed n ts (stand_after (goes s) (flat_map (shape_lines listed) ts))
      (wrote (goes s) (flat_map (shape_lines listed) ts))

  -- the first text was read, and then the others
  writes-text : (old : List ℕ) (n : ℕ) (r : Risen) (t : SpanText) (ts : List SpanText) → IsShort listed t
      → fits old t.digest ≡ true
      → ((q : Risen) → WritesFrom (rest_at listed t.digest (is_last t.span.until) t.span.until (n + t.count) q)
      (n + t.count) ts)
      → WritesFrom (rest_at listed old false t.span.from n r) n (t ∷ ts)
  writes-text old n r t ts short fit rest =
      let run = run-shape listed t old n (n + t.count) r short fit refl in
      let start = goes (rest_at listed old false t.span.from n r) in
      let more = flat_map (shape_lines listed) ts in
      rw (
        after-append start (shape_lines listed t) more,
        wrote-append start (shape_lines listed t) more,
        run.run.stands,
        run.run.says,
      )
      (writes-on n t ts _ _ (rest run.rising))

  pub chain-writes : (ts : List SpanText) (old row : List ℕ) (finished : Bool) (n : ℕ) (r : Risen)
      → AllByRecursion (IsShort listed) ts → AreShort row → WritesFrom (rest_at listed old finished row n r) n ts
  chain-writes [] old row finished n r each short = record {
    begun = ([], refl);
    whole = λ s is f. (refl, ap total_in (sym is));
  }
  chain-writes (t ∷ ts) old row finished n r each short = by_bool (fits old t.digest)
      (λ fit. by_bool (meets (rest_at listed old finished row n r) (row_text t.span.from))
      (λ meet.
      let so = meets-so (rest_at listed old finished row n r) (row_text t.span.from) meet in
      let from = rows-same t.span.from row each.0.from short so.1 in
      subst (λ f. WritesFrom (rest_at listed old f row n r) n (t ∷ ts)) (sym so.0)
      (subst (λ row. WritesFrom (rest_at listed old false row n r) n (t ∷ ts)) from
      (writes-text old n r t ts each.0 fit (λ q.
      chain-writes ts t.digest t.span.until (is_last t.span.until) (n + t.count) q each.1 each.0.until))))
      (λ other.
      let gap = gap-at listed finished old row n r t (flat_map (shape_lines listed) ts) each.0 fit other in
      writes-none n (t ∷ ts) _ _ gap.1 (λ s is. absurd (cc (sym gap.0 ∙ is)))))
      (λ other.
      let mixed_so = mixed-shape listed finished old row n r t (flat_map (shape_lines listed) ts) each.0 other in
      writes-none n (t ∷ ts) _ _ mixed_so.1 (λ s is. absurd (cc (sym mixed_so.0 ∙ is))))

-- from the beginning on
writes-start : (listed : Bool) (ts : List SpanText) → AllByRecursion (IsShort listed) ts
    → Writes listed 0 ts (stand_after (goes (start listed)) (flat_map (shape_lines listed) ts))
    (wrote (goes (start listed)) (flat_map (shape_lines listed) ts))
writes-start listed ts each = rw (start-is listed) (chain-writes listed ts [] [] false 0 none-yet each tt)

-- ---- a chain

-- each text is of the problem of the one before it
abbrev Alike : List ℕ → List SpanText → Type 0
Alike old [] = Unit {0}
Alike old (t ∷ ts) = (fits old t.digest ≡ true) × Alike t.digest ts

alike-one : (old digest : List ℕ) (ts : List SpanText) → fits old digest ≡ true
    → AllByRecursion (λ t. t.digest ≡ digest) ts → Alike old ts
alike-one old digest [] fit all = tt
alike-one old digest (t ∷ ts) fit all = (
  ap (fits old) all.0 ∙ fit,
  alike-one t.digest digest ts (ap (λ d. fits d digest) all.0 ∙ fits-same digest) all.1,
)

-- what is so of texts from a row on, by where their lines led
abbrev Says : Stand → List ℕ → List ℕ → List SpanText → Type 0
Says (goes s) old row ts = (s.found ≡ None) × (s.finished ≡ false → IsFirstGap row s.met (codes "-") (spans_in ts))
Says faulty old row ts = ⊥
Says mixed old row ts = Alike old ts → ⊥
Says (apart m n) old row ts = IsFirstGap row m n (spans_in ts)

-- a gap behind a span that ends here
abbrev GapBehind : List ℕ → List ℕ → List SearchedSpan → List ℕ → Type 0
GapBehind met next spans until = elim until as (λ u. Type 0) [
  | [] ↦ (t : SearchedSpan) × (others : List SearchedSpan) × (spans ≡ t ∷ others) × (met ≡ codes "-")
      × (next ≡ row_text t.from)
  | n ∷ u ↦ IsFirstGap (n ∷ u) met next spans
]

gap-behind : (met next : List ℕ) (t : SpanText) (ts : List SpanText) → GapBehind met next (spans_in ts) t.span.until
    → IsFirstGap t.span.from met next (spans_in (t ∷ ts))
gap-behind met next t ts h = inr (refl, h)

-- behind one that ends before the listing's end
says-behind : (st : Stand) (old : List ℕ) (t : SpanText) (ts : List SpanText) (n : ℕ) (u : List ℕ)
    → t.span.until ≡ n ∷ u → Says st t.digest (n ∷ u) ts → Says st old t.span.from (t ∷ ts)
says-behind (goes s) old t ts n u e h = (
  h.0,
  λ f. gap-behind s.met (codes "-") t ts (subst (GapBehind s.met (codes "-") (spans_in ts)) (sym e) (h.1 f)),
)
says-behind faulty old t ts n u e h = h
says-behind mixed old t ts n u e h = λ alike. h alike.1
says-behind (apart m k) old t ts n u e h =
    gap-behind m k t ts (subst (GapBehind m k (spans_in ts)) (sym e) h)

module _ (listed : Bool) where
  abbrev lines_in : List SpanText → List (List ℕ)
  lines_in ts = flat_map (shape_lines listed) ts

  says-apart : (m k : List ℕ) (st : Stand) (old row : List ℕ) (ts : List SpanText) → st ≡ apart m k
      → IsFirstGap row m k (spans_in ts) → Says st old row ts
  says-apart m k st old row ts e h = subst (λ z. Says z old row ts) (sym e) h

  says-mixed : (st : Stand) (old row : List ℕ) (ts : List SpanText) → st ≡ mixed → (Alike old ts → ⊥)
      → Says st old row ts
  says-mixed st old row ts e h = subst (λ z. Says z old row ts) (sym e) h

  -- behind one that ends at the listing's end
  says-last : (old : List ℕ) (t : SpanText) (ts : List SpanText) (j : ℕ) (q : Risen)
      → AllByRecursion (IsShort listed) ts → t.span.until ≡ []
      → Says (stand_after (goes (rest_at listed t.digest true [] j q)) (lines_in ts)) old t.span.from (t ∷ ts)
  says-last old t [] j q each e = (refl, λ f. absurd (cc f))
  says-last old t (t' ∷ ts) j q each e = by_bool (fits t.digest t'.digest)
      (λ fit.
      let gap = gap-at listed true t.digest [] j q t' (lines_in ts) each.0 fit refl in
      says-apart (row_text []) (row_text t'.span.from) _ old t.span.from (t ∷ t' ∷ ts) gap.0
      (gap-behind (row_text []) (row_text t'.span.from) t (t' ∷ ts)
      (subst (GapBehind (row_text []) (row_text t'.span.from) (spans_in (t' ∷ ts))) (sym e)
      (t'.span, spans_in ts, refl, refl, refl))))
      (λ other. says-mixed _ old t.span.from (t ∷ t' ∷ ts)
      ((mixed-shape listed true t.digest [] j q t' (lines_in ts) each.0 other).0)
      (λ alike. absurd (cc (sym other ∙ alike.1.0))))

  says-end : (old : List ℕ) (t : SpanText) (ts : List SpanText) (j : ℕ) (q : Risen) (until : List ℕ)
      → t.span.until ≡ until → AreShort until → AllByRecursion (IsShort listed) ts
      → ((n : ℕ) (u : List ℕ) → AreShort (n ∷ u)
      → Says (stand_after (goes (rest_at listed t.digest false (n ∷ u) j q)) (lines_in ts)) t.digest (n ∷ u) ts)
      → Says (stand_after (goes (rest_at listed t.digest (is_last until) until j q)) (lines_in ts)) old t.span.from
      (t ∷ ts)
  says-end old t ts j q [] e short each later = says-last old t ts j q each e
  says-end old t ts j q (n ∷ u) e short each later =
      rw (not-dash n u short) (says-behind _ old t ts n u e (later n u short))

  chain-says : (ts : List SpanText) (old row : List ℕ) (n : ℕ) (r : Risen) → AllByRecursion (IsShort listed) ts
      → AreShort row → Says (stand_after (goes (rest_at listed old false row n r)) (lines_in ts)) old row ts
  chain-says [] old row n r each short = (refl, λ f. (refl, refl))
  chain-says (t ∷ ts) old row n r each short = by_bool (fits old t.digest)
      (λ fit. by_bool (bytes_eq (row_text t.span.from) (row_text row))
      (λ yes.
      let from = rows-same t.span.from row each.0.from short
      ((bytes_eq-Decides (row_text t.span.from) (row_text row)).0 yes) in
      let run = run-shape listed t old n (n + t.count) r each.0 fit refl in
      let stands = after-append (goes (rest_at listed old false t.span.from n r)) (shape_lines listed t) (lines_in ts)
      ∙ ap (λ z. stand_after z (lines_in ts)) run.run.stands in
      subst (λ row. Says (stand_after (goes (rest_at listed old false row n r)) (lines_in (t ∷ ts))) old row (t
      ∷ ts)) from
      (subst (λ z. Says z old t.span.from (t ∷ ts)) (sym stands)
      (says-end old t ts (n + t.count) run.rising t.span.until refl each.0.until each.1
      (λ k u h. chain-says ts t.digest (k ∷ u) (n + t.count) run.rising each.1 h))))
      (λ other.
      let gap = gap-at listed false old row n r t (lines_in ts) each.0 fit other in
      let apart_so = λ (is : t.span.from ≡ row). absurd (cc (sym other
      ∙ ap (λ f. bytes_eq (row_text f) (row_text row)) is ∙ same (row_text row))) in
      says-apart (row_text row) (row_text t.span.from) _ old row (t ∷ ts) gap.0 (inl (apart_so, refl, refl))))
      (λ other. says-mixed _ old row (t ∷ ts) ((mixed-shape listed false old row n r t (lines_in ts) each.0 other).0)
      (λ alike. absurd (cc (sym other ∙ alike.0))))

  whole-shapes : (ts : List SpanText) → AllByRecursion (IsShort listed) ts → AreWhole (lines_in ts)
  whole-shapes [] each = tt
  whole-shapes (t ∷ ts) each =
      whole-append (shape_lines listed t) (lines_in ts) (whole-shape listed t each.0) (whole-shapes ts each.1)

  shorts : (ts : List SpanText) → AllByRecursion (HasShape listed) ts → AllByRecursion (IsShort listed) ts
  shorts [] each = tt
  shorts (t ∷ ts) each = (short-shape listed t each.0, shorts ts each.1)

  -- ---- the input

  module _ (texts : List SpanText) (bytes : List ℕ) (are : AreShapes listed texts bytes) (ls : List (List ℕ))
      (rest : List ℕ) (w : AreWhole ls) (e : bytes ≡ ended ls ++ rest) where
    each-short : AllByRecursion (IsShort listed) texts
    each-short = shorts texts (recursion_from_All (HasShape listed) texts are.each)

    bytes-are : bytes ≡ ended (lines_in texts)
    bytes-are = sym are.whole ∙ texts-ended listed texts

    lines-are : lines_in texts ≡ ls ++ lines_of rest
    lines-are = lines-first (lines_in texts) (whole-shapes texts each-short) bytes bytes-are ls rest w e

    says-all : Says (stand_after (stand_after (goes (start listed)) ls) (lines_of rest)) [] [] texts
    says-all =
        subst (λ z. Says z [] [] texts) (ap (stand_after (goes (start listed))) lines-are
        ∙ after-append (goes (start listed)) ls (lines_of rest))
        (rw (start-is listed) (chain-says texts [] [] 0 none-yet each-short tt))

    writes-all : Writes listed 0 texts (stand_after (goes (start listed)) (lines_in texts))
        (wrote (goes (start listed)) (lines_in texts))
    writes-all = writes-start listed texts each-short

    pub shapes-begun : IsBeginning (wrote (goes (start listed)) ls) (joined texts)
    shapes-begun =
        let tail = wrote (stand_after (goes (start listed)) ls) (lines_of rest) in
        let begun = writes-all.begun in (
          tail ++ begun.0,
          sym (append_assoc (wrote (goes (start listed)) ls) tail begun.0)
              ∙ ap (λ t. t ++ begun.0) (sym (ap (wrote (goes (start listed))) lines-are
              ∙ wrote-append (goes (start listed)) ls (lines_of rest)))
              ∙ begun.1 ∙ joined-is listed texts each-short,
        )

    pub shapes-not-faulty : stand_after (goes (start listed)) ls ≡ faulty → ⊥
    shapes-not-faulty f =
        subst (λ z. Says z [] [] texts) (ap (λ z. stand_after z (lines_of rest)) f
        ∙ after-faulty (lines_of rest)) says-all

    pub shapes-mixed : stand_after (goes (start listed)) ls ≡ mixed → AreOfOneProblem texts → ⊥
    shapes-mixed f one =
        subst (λ z. Says z [] [] texts) (ap (λ z. stand_after z (lines_of rest)) f
        ∙ after-mixed (lines_of rest)) says-all
        (alike-one [] one.0 texts refl (recursion_from_All (λ t. t.digest ≡ one.0) texts one.1))

    pub shapes-apart : (m n : List ℕ) → stand_after (goes (start listed)) ls ≡ apart m n
        → IsFirstGap [] m n (spans_in texts)
    shapes-apart m n f =
        subst (λ z. Says z [] [] texts) (ap (λ z. stand_after z (lines_of rest)) f ∙ after-apart m n (lines_of rest))
        says-all

    module _ (free : has 10 rest ≡ false) (s : Join) (at : stand_after (goes (start listed)) ls ≡ goes s) where
      pub shapes-cut : rest ≡ []
      shapes-cut = none-cut (lines_in texts) (whole-shapes texts each-short) bytes bytes-are ls rest w free e

      lines-all : lines_in texts ≡ ls
      lines-all = lines-are ∙ ap (λ r. ls ++ lines_of r) shapes-cut ∙ append-nil ls

      pub shapes-written : s.finished ≡ true → (wrote (goes (start listed)) ls ≡ joined texts)
          × ((if s.total == most_counted then Limit s.total else Done s.total) ≡ end_of_texts texts)
      shapes-written f =
          let so = writes-all.whole s (ap (stand_after (goes (start listed))) lines-all ∙ at) f in (
            sym (ap (wrote (goes (start listed))) lines-all) ∙ so.0 ∙ joined-is listed texts each-short,
            end-is (sum_by (λ t. t.count) texts) s.total
                (so.1 ∙ ap (min most_counted) (count-all texts)),
          )

      says-end-of : Says (goes s) [] [] texts
      says-end-of = subst (λ z. Says z [] [] texts) (ap (λ r. stand_after (stand_after (goes (start listed)) ls)
          (lines_of r)) shapes-cut ∙ at) says-all

      pub shapes-open : s.found ≡ None
      shapes-open = says-end-of.0

      pub shapes-unfinished : s.finished ≡ false → IsFirstGap [] s.met (codes "-") (spans_in texts)
      shapes-unfinished = says-end-of.1

-- spans that meet have no gap
meet-all : (row m n : List ℕ) (spans : List SearchedSpan) → DoMeet row spans → IsFirstGap row m n spans → ⊥
meet-all row m n [] meet gap = absurd meet
meet-all row m n (s ∷ spans) meet (inl gap) = gap.0 meet.0
meet-all row m n (s ∷ spans) meet (inr gap) = by-until s.until meet.1 gap.1 (λ row. meet-all row m n spans)
  where
    by-until : (until : List ℕ) → elim until as (λ u. Type 0) [ [] ↦ spans ≡ [] | k ∷ u ↦ DoMeet (k ∷ u) spans ]
        → GapBehind m n spans until → ((row : List ℕ) → DoMeet row spans → IsFirstGap row m n spans → ⊥) → ⊥
    by-until [] none some others = absurd (cc (sym none ∙ some.2))
    by-until (k ∷ u) meet gap others = others (k ∷ u) meet gap

-- the lines of texts of one problem that meet lead to the listing's end
pub ends-whole : (listed : Bool) (ts : List SpanText) → AllByRecursion (IsShort listed) ts → DoMeet [] (spans_in ts)
    → AreOfOneProblem ts
    → (s : Join) × (stand_after (goes (start listed)) (flat_map (shape_lines listed) ts) ≡ goes s)
    × (s.finished ≡ true)
ends-whole listed ts each meet one =
    by-stand _ refl (rw (start-is listed) (chain-says listed ts [] [] 0 none-yet each tt))
  where
    by-stand : (st : Stand) → stand_after (goes (start listed)) (flat_map (shape_lines listed) ts) ≡ st
        → Says st [] [] ts
        → (s : Join) × (stand_after (goes (start listed)) (flat_map (shape_lines listed) ts) ≡ goes s)
        × (s.finished ≡ true)
    by-stand (goes s) is h = by_bool s.finished (λ yes. (s, is, yes))
        (λ no. absurd (meet-all [] s.met (codes "-") (spans_in ts) meet (h.1 no)))
    by-stand faulty is h = absurd h
    by-stand mixed is h =
        absurd (h (alike-one [] one.0 ts refl (recursion_from_All (λ t. t.digest ≡ one.0) ts one.1)))
    by-stand (apart m n) is h = absurd (meet-all [] m n (spans_in ts) meet h)

-- the same bytes are read as texts in one way: what joining them writes, and their number
module _ (listed : Bool) (ts us : List SpanText) (bytes : List ℕ) (are : AreShapes listed ts bytes)
    (same : AreShapes listed us bytes) (meet : DoMeet [] (spans_in us)) (one : AreOfOneProblem us) where
  short-ts : AllByRecursion (IsShort listed) ts
  short-ts = shorts listed ts (recursion_from_All (HasShape listed) ts are.each)

  short-us : AllByRecursion (IsShort listed) us
  short-us = shorts listed us (recursion_from_All (HasShape listed) us same.each)

  same-lines : flat_map (shape_lines listed) ts ≡ flat_map (shape_lines listed) us
  same-lines =
      sym (lines_of-all _ (whole-shapes listed ts short-ts))
      ∙ ap lines_of (sym (texts-ended listed ts) ∙ are.whole ∙ sym same.whole ∙ texts-ended listed us)
      ∙ lines_of-all _ (whole-shapes listed us short-us)

  pub read-once : (joined ts ≡ joined us) × (end_of_texts ts ≡ end_of_texts us)
  read-once =
      let end = ends-whole listed us short-us meet one in
      let us_so = (writes-start listed us short-us).whole end.0 end.1 end.2 in
      let ts_so = (writes-start listed ts short-ts).whole end.0
      (ap (stand_after (goes (start listed))) same-lines ∙ end.1) end.2 in
      let total = end.0.total in (
        sym (joined-is listed ts short-ts) ∙ sym ts_so.0 ∙ ap (wrote (goes (start listed))) same-lines ∙ us_so.0
            ∙ joined-is listed us short-us,
        sym (end-is (sum_by (λ t. t.count) ts) total (ts_so.1 ∙ ap (min most_counted) (count-all ts)))
            ∙ end-is (sum_by (λ t. t.count) us) total (us_so.1 ∙ ap (min most_counted) (count-all us)),
      )
