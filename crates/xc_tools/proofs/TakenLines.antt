-- What words that were read stand for, and why a line was taken.
use Rattle.std.proofs.Common.{◌≡◌, ℕ, ◌^◌, ◌<◌, ◌≤◌, Bool, true, false, List, [], ◌∷◌, ◌++◌, Option, None, Some}
use Rattle.std.proofs.Common.{append-nil, refl, sym, ap, ◌∙◌, arith, map, min, ◌+◌, ◌-◌, ◌*◌, nat_lt}
use Rattle.std.specs.Prelude.{◌==◌, ◌&&◌, codes, decimal, fold, if◌then◌else◌, option_map}
use Rattle.std.specs.List.{join_with_byte, list_all}
use Rattle.std.specs.Str.{byte, bytes_eq}
use Rattle.std.proofs.lemmas.List.Splits.{join_with_byte-slice_split}
use Rattle.std.proofs.lemmas.Bool.Decides.{nat_tests}
use Rattle.xc_text.proofs.ListLemmas.{by_bool}
use Rattle.xc_check.specs.ListingLines.{words_in, branch_number}
use Rattle.xc_list.specs.SpanTexts.{most_counted, row_text}
use Rattle.xc_tools.specs.SpanShapes.{is_digest}
use Rattle.xc_tools.specs.inner.SpanLines.{ToldCounts, Headed, Told, are_counts, are_ends, begins, counts_of}
use Rattle.xc_tools.specs.inner.SpanLines.{heading_of, is_number, is_problem, is_row, numbers_in, record_of}
use Rattle.xc_tools.specs.inner.SpanLines.{recorded_counts, row_parts, saturating_number, Risen, risen_after}
use Rattle.xc_tools.specs.inner.SpanLines.{ends_before, Join, Stand, goes, faulty, mixed, apart, begins_at, begins_with}
use Rattle.xc_tools.specs.inner.SpanLines.{by_choice, by_header, by_heading, by_last, by_record, closed, ends_well}
use Rattle.xc_tools.specs.inner.SpanLines.{inside, is_header, is_last_record, is_same, meets, opened, recorded}
use Rattle.xc_tools.specs.inner.SpanLines.{before_digest, by_digest, line_noted}
use Rattle.xc_tools.proofs.SpanWords.{AreShort, AreShortIf, both, counts_words, heading_line, is-word, problem_words}
use Rattle.xc_tools.proofs.SpanWords.{record_line, some-if}

-- ======== What words that were read stand for.

-- ---- numbers and rows

low-from : (bs : List ℕ) (v : ℕ) → v ≤ most_counted
    → fold (λ n b. min most_counted (min most_counted (n * 10) + (b - byte "0"))) v bs ≤ most_counted
low-from [] v h = h
low-from (b ∷ bs) v h = low-from bs (min most_counted (min most_counted (v * 10) + (b - 48))) (omega arith)

pub low-number : (w : List ℕ) → saturating_number w < 2 ^ 64
low-number w = omega (arith, low-from w 0 (omega arith))

number-is : (w : List ℕ) → is_number w ≡ true → w ≡ decimal (saturating_number w)
number-is w h = is-word w (decimal (saturating_number w)) h

parts-are : (ps : List (List ℕ)) → list_all is_number ps ≡ true
    → (ps ≡ map decimal (map saturating_number ps)) × AreShort (map saturating_number ps)
parts-are [] h = (refl, tt)
parts-are (p ∷ ps) h =
    let parts = both (is_number p) (list_all is_number ps) h in
    let first = number-is p parts.0 in
    let rest = parts-are ps parts.1 in
    (cc (first, rest.0), (low-number p, rest.1))

-- numbers with points between
joined-row : (n : ℕ) (row : List ℕ) → join_with_byte 46 (map decimal (n ∷ row)) ≡ row_text (n ∷ row)
joined-row n [] = sym (append-nil (decimal n))
joined-row n (k ∷ row) = ap (λ t. decimal n ++ 46 ∷ t) (joined-row k row)

some-parts : (w : List ℕ) → (p : List ℕ) × (ps : List (List ℕ)) × (row_parts w ≡ p ∷ ps)
some-parts [] = ([], [], refl)
some-parts (b ∷ w) = by_bool (b == byte ".")
    (λ yes. ([], row_parts w, rw yes refl))
    (λ other. let rest = some-parts w in (b ∷ rest.0, rest.1, rw (other, rest.2) refl))

row-of-parts : (w p : List ℕ) (ps : List (List ℕ)) → row_parts w ≡ p ∷ ps → list_all is_number (row_parts w) ≡ true
    → w ≡ row_text (map saturating_number (row_parts w))
row-of-parts w p ps e h =
    let are = parts-are (p ∷ ps) (ap (list_all is_number) (sym e) ∙ h) in
    sym (join_with_byte-slice_split 46 w) ∙ ap (join_with_byte 46) (e ∙ are.0)
    ∙ joined-row (saturating_number p) (map saturating_number ps)
    ∙ ap (λ ps. row_text (map saturating_number ps)) (sym e)

pub row-is : (w : List ℕ) → is_row w ≡ true → (w ≡ row_text (numbers_in w)) × AreShort (numbers_in w)
row-is w h = by_bool (bytes_eq w (codes "-"))
    (λ dash. rw dash (is-word w (codes "-") dash, tt))
    (λ other.
    let all : list_all is_number (row_parts w) ≡ true = rw other at h in
    let some = some-parts w in
    rw other (row-of-parts w some.0 some.1 some.2 all, (parts-are (row_parts w) all).1))

-- ---- headings

pub heading-is : (ws : List (List ℕ)) (h : Headed) → heading_of ws ≡ Some h
    → (ws ≡ codes "from" ∷ h.row ∷ problem_words h.digest) × (is_row h.row ≡ true) × (is_digest h.digest ≡ true)
heading-is [] h e = absurd (cc e)
heading-is (a ∷ []) h e = absurd (cc e)
heading-is (a ∷ b ∷ []) h e = absurd (cc e)
heading-is (a ∷ b ∷ c ∷ []) h e = absurd (cc e)
heading-is (a ∷ row ∷ name ∷ digest ∷ []) h e =
    let so = some-if (begins a row && is_problem name digest) (record { row = row; digest = digest }) h e in
    let tests = both (begins a row) (is_problem name digest) so.0 in
    let first = both (bytes_eq a (codes "from")) (is_row row) tests.0 in
    let last = both (bytes_eq name (codes "problem")) (is_digest digest) tests.1 in
    let from = is-word a (codes "from") first.0 in
    let problem = is-word name (codes "problem") last.0 in
    rw (← so.1) (cc (from, problem), first.1, last.1)
heading-is (a ∷ b ∷ c ∷ d ∷ x ∷ ws) h e = absurd (cc e)

-- the line of words
pub line-of : (line : List ℕ) (ws : List (List ℕ)) → words_in line ≡ ws → line ≡ join_with_byte 32 ws
line-of line ws e = sym (join_with_byte-slice_split 32 line) ∙ ap (join_with_byte 32) e

-- a heading that was read
pub record HeadingIs (line : List ℕ) (h : Headed) : Type 0 where
  pub row : h.row ≡ row_text (numbers_in h.row)
  pub short : AreShort (numbers_in h.row)
  pub digest : is_digest h.digest ≡ true
  pub is : line ≡ heading_line (numbers_in h.row) h.digest

pub heading-so : (line : List ℕ) (h : Headed) → heading_of (words_in line) ≡ Some h → HeadingIs line h
heading-so line h e =
    let so = heading-is (words_in line) h e in
    let row = row-is h.row so.1 in
    record {
      row = row.0;
      short = row.1;
      digest = so.2;
      is = line-of line _ so.0 ∙ ap (λ r. codes "from " ++ (r ++ (codes " problem " ++ h.digest))) row.0;
    }

-- ---- records

counts-are : (ws : List (List ℕ)) (c : ToldCounts) → recorded_counts ws ≡ Some c
    → (steps : ℕ) × (ws ≡ counts_words (decimal c.solutions) (decimal steps) c.digest) × (c.solutions < 2 ^ 64)
    × (steps < 2 ^ 64) × (is_digest c.digest ≡ true)
counts-are [] c h = absurd (cc h)
counts-are (s ∷ []) c h = absurd (cc h)
counts-are (s ∷ n ∷ []) c h = absurd (cc h)
counts-are (s ∷ n ∷ t ∷ []) c h = absurd (cc h)
counts-are (s ∷ n ∷ t ∷ m ∷ []) c h = absurd (cc h)
counts-are (s ∷ n ∷ t ∷ m ∷ name ∷ []) c h = absurd (cc h)
counts-are (s ∷ n ∷ t ∷ m ∷ name ∷ digest ∷ []) c h =
    let so = some-if (are_counts s n t m && is_problem name digest)
    (record { solutions = saturating_number n; digest = digest }) c h in
    let tests = both (are_counts s n t m) (is_problem name digest) so.0 in
    let upto_n = both (bytes_eq s (codes "solutions") && bytes_eq t (codes "steps") && is_number n)
    (is_number m) tests.0 in
    let words = both (bytes_eq s (codes "solutions") && bytes_eq t (codes "steps")) (is_number n) upto_n.0 in
    let names = both (bytes_eq s (codes "solutions")) (bytes_eq t (codes "steps")) words.0 in
    let last = both (bytes_eq name (codes "problem")) (is_digest digest) tests.1 in
    let solutions = is-word s (codes "solutions") names.0 in
    let steps = is-word t (codes "steps") names.1 in
    let problem = is-word name (codes "problem") last.0 in
    let first = number-is n words.1 in
    let second = number-is m upto_n.1 in
    rw (← so.1) (saturating_number m, cc (solutions, steps, problem, first, second), low-number n, low-number m, last.1)
counts-are (s ∷ n ∷ t ∷ m ∷ name ∷ digest ∷ x ∷ ws) c h = absurd (cc h)

-- the words of a row's branches, if they are reported
abbrev pub branch_words : Option (List ℕ) → List (List ℕ)
branch_words None = []
branch_words (Some row) = codes "of" ∷ row_text row ∷ []

-- counts that were read
record CountsAre (ws : List (List ℕ)) (c : ToldCounts) : Type 0 where
  pub branches : Option (List ℕ)
  pub short : AreShortIf branches
  pub steps : ℕ
  pub is : ws ≡ branch_words branches ++ counts_words (decimal c.solutions) (decimal steps) c.digest
  pub few : c.solutions < 2 ^ 64
  pub few_steps : steps < 2 ^ 64
  pub digest : is_digest c.digest ≡ true

counts-alone : (ws : List (List ℕ)) (c : ToldCounts) → recorded_counts ws ≡ Some c → CountsAre ws c
counts-alone ws c h =
    let so = counts-are ws c h in
    record {
      branches = None;
      short = tt;
      steps = so.0;
      is = so.1;
      few = so.2;
      few_steps = so.3;
      digest = so.4;
    }

counts-so : (ws : List (List ℕ)) (c : ToldCounts) → counts_of ws ≡ Some c → CountsAre ws c
counts-so [] c h = counts-alone [] c h
counts-so (o ∷ []) c h = counts-alone (o ∷ []) c h
counts-so (o ∷ row ∷ rest) c h = by_bool (bytes_eq o (codes "of") && is_row row)
    (λ yes.
    let tests = both (bytes_eq o (codes "of")) (is_row row) yes in
    let so = counts-are rest c (rw yes at h) in
    let word = is-word o (codes "of") tests.0 in
    let numbers = row-is row tests.1 in
    record {
      branches = Some (numbers_in row);
      short = numbers.1;
      steps = so.0;
      is = cc (word, numbers.0, so.1);
      few = so.2;
      few_steps = so.3;
      digest = so.4;
    })
    (λ other. counts-alone (o ∷ row ∷ rest) c (rw other at h))

-- a record that was read
pub record RecordIs (line : List ℕ) (t : Told) : Type 0 where
  pub from : t.from ≡ row_text (numbers_in t.from)
  pub until : t.until ≡ row_text (numbers_in t.until)
  pub short_from : AreShort (numbers_in t.from)
  pub short_until : AreShort (numbers_in t.until)
  pub branches : Option (List ℕ)
  pub short : AreShortIf branches
  pub steps : ℕ
  pub few : t.counts.solutions < 2 ^ 64
  pub few_steps : steps < 2 ^ 64
  pub digest : is_digest t.counts.digest ≡ true
  pub is : line
      ≡ record_line (numbers_in t.from) (numbers_in t.until) branches t.counts.solutions steps t.counts.digest

-- its words
record WordsAre (ws : List (List ℕ)) (t : Told) : Type 0 where
  pub rest : List (List ℕ)
  pub is : ws ≡ codes "from" ∷ t.from ∷ codes "until" ∷ t.until ∷ rest
  pub counts : CountsAre rest t.counts
  pub from : is_row t.from ≡ true
  pub until : is_row t.until ≡ true

some-counts : (from until : List ℕ) (o : Option ToldCounts) (t : Told)
    → option_map (λ counts. record { from = from; until = until; counts = counts }) o ≡ Some t
    → (o ≡ Some t.counts) × (from ≡ t.from) × (until ≡ t.until)
some-counts from until None t h = absurd (cc h)
some-counts from until (Some c) t h =
    let is : record { from = from; until = until; counts = c } ≡ t = cc h in (
      ap (λ (t : Told). Some t.counts) is,
      ap (λ (t : Told). t.from) is,
      ap (λ (t : Told). t.until) is,
    )

words-are : (ws : List (List ℕ)) (t : Told) → record_of ws ≡ Some t → WordsAre ws t
words-are [] t h = absurd (cc h)
words-are (a ∷ []) t h = absurd (cc h)
words-are (a ∷ from ∷ []) t h = absurd (cc h)
words-are (a ∷ from ∷ b ∷ []) t h = absurd (cc h)
words-are (a ∷ from ∷ b ∷ until ∷ rest) t h = by_bool (are_ends a from b until)
    (λ yes.
    let so = some-counts from until (counts_of rest) t (rw yes at h) in
    let upto_until = both (bytes_eq a (codes "from") && bytes_eq b (codes "until") && is_row from) (is_row until) yes in
    let words = both (bytes_eq a (codes "from") && bytes_eq b (codes "until")) (is_row from) upto_until.0 in
    let names = both (bytes_eq a (codes "from")) (bytes_eq b (codes "until")) words.0 in
    let first = is-word a (codes "from") names.0 in
    let second = is-word b (codes "until") names.1 in
    record {
      rest = rest;
      is = cc (first, second, so.1, so.2);
      counts = counts-so rest t.counts so.0;
      from = ap is_row (sym so.1) ∙ words.1;
      until = ap is_row (sym so.2) ∙ upto_until.1;
    })
    (λ other. absurd (cc (rw other at h)))

-- the line of a record's words
record-words : (from until : List ℕ) (branches : Option (List ℕ)) (n steps : ℕ) (digest : List ℕ)
    → join_with_byte 32 (codes "from" ∷ row_text from ∷ codes "until" ∷ row_text until ∷ branch_words branches
    ++ counts_words (decimal n) (decimal steps) digest) ≡ record_line from until branches n steps digest
record-words from until None n steps digest = refl
record-words from until (Some row) n steps digest =
    ap (λ t. codes "from " ++ (row_text from ++ (codes " until " ++ (row_text until ++ (codes " of " ++ t))))) refl

pub record-so : (line : List ℕ) (t : Told) → record_of (words_in line) ≡ Some t → RecordIs line t
record-so line t h =
    let so = words-are (words_in line) t h in
    let from = row-is t.from so.from in
    let until = row-is t.until so.until in
    let c = so.counts in
    record {
      from = from.0;
      until = until.0;
      short_from = from.1;
      short_until = until.1;
      branches = c.branches;
      short = c.short;
      steps = c.steps;
      few = c.few;
      few_steps = c.few_steps;
      digest = c.digest;
      is = line-of line _ (so.is ∙ ap (λ ws. codes "from" ∷ t.from ∷ codes "until" ∷ t.until ∷ ws) c.is)
          ∙ ap (λ f. join_with_byte 32 (codes "from" ∷ f ∷ codes "until" ∷ t.until ∷ branch_words c.branches
          ++ counts_words (decimal t.counts.solutions) (decimal c.steps) t.counts.digest)) from.0
          ∙ ap (λ u. join_with_byte 32 (codes "from" ∷ row_text (numbers_in t.from) ∷ codes "until" ∷ u
          ∷ branch_words c.branches ++ counts_words (decimal t.counts.solutions) (decimal c.steps) t.counts.digest))
          until.0
          ∙ record-words (numbers_in t.from) (numbers_in t.until) c.branches t.counts.solutions c.steps t.counts.digest;
    }

-- ======== Why a line was taken.

-- the row behind the number of a branch, if there is one
abbrev next_of : Join → Option ℕ → Option Risen
next_of s o = elim o [ None ↦ None | Some k ↦ risen_after s.rising k ]

-- the state that a line led to, if it went on
abbrev state_in : Join → Stand → Join
state_in s (goes q) = q
state_in s faulty = s
state_in s mixed = s
state_in s (apart m n) = s

-- a step leads there, and this is written
abbrev pub Gives : Stand × List ℕ → Stand → List ℕ → Type 0
Gives z st text = z ≡ (st, text)

same-state : (p q : Join) (x y : List ℕ) → Gives (goes p, x) (goes q) y → p ≡ q
same-state p q x y e = ap (λ (r : Stand × List ℕ). state_in p r.0) e

module _ (q : Join) (text : List ℕ) where
  not-faulty : {x : List ℕ} → Gives (faulty, x) (goes q) text → ⊥
  not-faulty e = absurd (cc (ap (λ (r : Stand × List ℕ). r.0) e))

  not-mixed : {x : List ℕ} → Gives (mixed, x) (goes q) text → ⊥
  not-mixed e = absurd (cc (ap (λ (r : Stand × List ℕ). r.0) e))

  not-apart : {m n x : List ℕ} → Gives (apart m n, x) (goes q) text → ⊥
  not-apart e = absurd (cc (ap (λ (r : Stand × List ℕ). r.0) e))

  by-test : (b : Bool) (z : Stand × List ℕ) → Gives (if b then z else (faulty, [])) (goes q) text
      → (b ≡ true) × (z ≡ (goes q, text))
  by-test true z e = (refl, e)
  by-test false z e = absurd (not-faulty e)

  pub begun-went : (s : Join) (digest row : List ℕ) (p : Join) → begins_at s digest row (goes p) ≡ (goes q, text)
      → (is_same s digest ≡ true) × (meets s row ≡ true) × (p ≡ q)
  begun-went s digest row p e = by_bool (is_same s digest)
      (λ same. by_bool (meets s row)
      (λ meet. (same, meet, same-state p q [] text (rw (same, meet) at e)))
      (λ other. absurd (not-apart (rw (same, other) at e))))
      (λ other. absurd (not-mixed (rw other at e)))

  pub heading-went : (s : Join) (words : List (List ℕ)) → by_heading s words ≡ (goes q, text)
      → (h : Headed) × (heading_of words ≡ Some h) × (is_same s h.digest ≡ true) × (meets s h.row ≡ true)
      × (opened s h ≡ q)
  heading-went s words e = read (heading_of words) refl e
    where
      read : (o : Option Headed) → heading_of words ≡ o
          → Gives (elim o [ None ↦ (faulty, []) | Some h ↦ begins_at s h.digest h.row (goes (opened s h)) ])
          (goes q) text
          → (h : Headed) × (heading_of words ≡ Some h) × (is_same s h.digest ≡ true) × (meets s h.row ≡ true)
          × (opened s h ≡ q)
      read None is e = absurd (not-faulty e)
      read (Some h) is e = let so = begun-went s h.digest h.row (opened s h) e in (h, is, so.0, so.1, so.2)

  pub record-went : (s : Join) (words : List (List ℕ)) → by_record s words ≡ (goes q, text)
      → (t : Told) × (record_of words ≡ Some t) × (ends_before (numbers_in t.from) 0 (numbers_in t.until) ≡ true)
      × (is_same s t.counts.digest ≡ true) × (meets s t.from ≡ true) × (recorded s t ≡ q)
  record-went s words e = read (record_of words) refl e
    where
      read : (o : Option Told) → record_of words ≡ o
          → Gives (elim o [
            | None ↦ (faulty, [])
            | Some t ↦
                if ends_before (numbers_in t.from) 0 (numbers_in t.until)
                then begins_at s t.counts.digest t.from (goes (recorded s t))
                else (faulty, [])
          ]) (goes q) text
          → (t : Told) × (record_of words ≡ Some t) × (ends_before (numbers_in t.from) 0 (numbers_in t.until) ≡ true)
          × (is_same s t.counts.digest ≡ true) × (meets s t.from ≡ true) × (recorded s t ≡ q)
      read None is e = absurd (not-faulty e)
      read (Some t) is e =
          let test = by-test (ends_before (numbers_in t.from) 0 (numbers_in t.until)) _ e in
          let so = begun-went s t.counts.digest t.from (recorded s t) test.1 in
          (t, is, test.0, so.0, so.1, so.2)

  -- the last line of a text was taken by what is before its digest
  pub digest-went : (s : Join) (line : List ℕ) (next : List (List ℕ) → Stand × List ℕ)
      → by_digest s line next ≡ (goes q, text)
      → (front : List ℕ) × (before_digest s.text line ≡ Some front) × (next (words_in front) ≡ (goes q, text))
  digest-went s line next e = read (before_digest s.text line) refl e
    where
      read : (o : Option (List ℕ)) → before_digest s.text line ≡ o
          → Gives (elim o [ None ↦ (faulty, []) | Some front ↦ next (words_in front) ]) (goes q) text
          → (front : List ℕ) × (before_digest s.text line ≡ Some front) × (next (words_in front) ≡ (goes q, text))
      read None is e = absurd (not-faulty e)
      read (Some front) is e = (front, is, e)

  pub last-went : (s : Join) (k : ℕ) (words : List (List ℕ)) → by_last s k words ≡ (goes q, text)
      → (t : Told) × (record_of words ≡ Some t) × (is_last_record s k t ≡ true) × (closed s t.until ≡ q)
  last-went s k words e = read (record_of words) refl e
    where
      read : (o : Option Told) → record_of words ≡ o
          → Gives (elim o [
            | None ↦ (faulty, [])
            | Some t ↦ if is_last_record s k t then (goes (closed s t.until), []) else (faulty, [])
          ]) (goes q) text
          → (t : Told) × (record_of words ≡ Some t) × (is_last_record s k t ≡ true) × (closed s t.until ≡ q)
      read None is e = absurd (not-faulty e)
      read (Some t) is e =
          let test = by-test (is_last_record s k t) _ e in
          (t, is, test.0, same-state (closed s t.until) q [] text test.1)

  pub choice-went : (s : Join) (line : List ℕ) → by_choice s line ≡ (goes q, text)
      → (c : ℕ) × (r : Risen) × (branch_number line ≡ Some c) × (risen_after s.rising c ≡ Some r)
      × (record s { rising = r } ≡ q)
  choice-went s line e = read (branch_number line) refl e
    where
      take : (c : ℕ) → branch_number line ≡ Some c → (o : Option Risen) → risen_after s.rising c ≡ o
          → Gives (elim o [
            | None ↦ (faulty, [])
            | Some r ↦ (goes (record s { rising = r }), if s.full then [] else line ++ 10 ∷ [])
          ]) (goes q) text
          → (c : ℕ) × (r : Risen) × (branch_number line ≡ Some c) × (risen_after s.rising c ≡ Some r)
          × (record s { rising = r } ≡ q)
      take c is None f e = absurd (not-faulty e)
      take c is (Some r) f e = (c, r, is, f, same-state (record s { rising = r }) q _ text e)

      read : (o : Option ℕ) → branch_number line ≡ o
          → Gives (elim (next_of s o) [
            | None ↦ (faulty, [])
            | Some r ↦ (goes (record s { rising = r }), if s.full then [] else line ++ 10 ∷ [])
          ]) (goes q) text
          → (c : ℕ) × (r : Risen) × (branch_number line ≡ Some c) × (risen_after s.rising c ≡ Some r)
          × (record s { rising = r } ≡ q)
      read None is e = absurd (not-faulty e)
      read (Some c) is e = take c is (risen_after s.rising c) refl e

  -- the header of the next solution
  pub header-went : (s : Join) (n : ℕ) → by_header s n ≡ (goes q, text)
      → (full : Bool) × (total : ℕ) × (record s {
        found = Some n;
        rising = record s.rising { tied = Some 0 };
        full = full;
        total = total;
      } ≡ q)
  header-went s n e = by_bool (s.total == most_counted)
      (λ yes. (
        true,
        s.total,
        same-state (record s {
          found = Some n;
          rising = record s.rising { tied = Some 0 };
          full = true;
        }) q _ text (rw yes at e),
      ))
      (λ other. (
        s.full,
        s.total + 1,
        same-state (record s {
          found = Some n;
          rising = record s.rising { tied = Some 0 };
          total = s.total + 1;
        }) q _ text (rw other at e),
      ))

  -- a line of an open listing: what it was
  pub data Went (s : Join) (k : ℕ) (line : List ℕ) : Type 0 where
    a_choice : nat_lt 0 k ≡ true → by_choice (line_noted s line) line ≡ (goes q, text) → Went s k line
    a_last : by_digest s line (by_last s k) ≡ (goes q, text) → Went s k line
    a_header : is_header (k + 1) line ≡ true → ends_well s k ≡ true → nat_lt k most_counted ≡ true
        → by_header (line_noted s line) (k + 1) ≡ (goes q, text) → Went s k line

  pub inside-went : (s : Join) (k : ℕ) (line : List ℕ) → inside s k line ≡ (goes q, text) → Went s k line
  inside-went s k line e = by_bool (begins_with 32 line && nat_lt 0 k)
      (λ yes. a_choice (grind (arith, nat_tests)) (rw yes at e))
      (λ no_choice. by_bool (begins_with 102 line)
      (λ yes. a_last (rw (no_choice, yes) at e))
      (λ no_last.
      let test = by-test (nat_lt k most_counted && is_header (k + 1) line && ends_well s k)
      (by_header (line_noted s line) (k + 1))
      (rw (no_choice, no_last) at e) in
      let two = both (nat_lt k most_counted && is_header (k + 1) line) (ends_well s k) test.0 in
      let one = both (nat_lt k most_counted) (is_header (k + 1) line) two.0 in
      a_header one.1 two.1 one.0 test.1))
