-- The grammar against the checks, for the law that a text has a first fault or stands for one problem.
use Rattle.std.proofs.Common.{◌≡◌, ◌≢◌, ℕ, ◌+◌, ◌≤◌, List, [], ◌∷◌, ◌++◌, Option, None, Some, Bool, true, false, ◌&&◌}
use Rattle.std.proofs.Common.{not, nat_lt, nat_eq, length, map, refl, ap, ◌∙◌, arith, if◌then◌else◌, inl, inr, sym}
use Rattle.std.proofs.Common.{◌||◌, append-nil, nat_le, unwrap_or, is_some, append_assoc, subst}
use Rattle.std.proofs.Math.Bool.{and-false, or-false, or-true}
use Rattle.std.specs.Prelude.{◌↔◌, filter, flat_map, fold, ◌-◌, take}
use Rattle.std.specs.Option.{option_map}
use Rattle.std.specs.List.{AllByRecursion as Each, before_first, after_first, list_any, enumerate_from, AllZip}
use Rattle.std.proofs.lemmas.Bool.Decides.{nat_tests}
use Rattle.std.proofs.lemmas.Bool.{or_parts}
use Rattle.std.proofs.lemmas.List.{length-append, map_push as map-snoc, map-append, length-map}
use Rattle.std.proofs.lemmas.List.Elements.{filter-append}
use Rattle.std.proofs.lemmas.List.Folds.{list_any-append}
use Rattle.std.proofs.lemmas.List.Sums.{sum_by-append, sum_by-cons}
use Rattle.std.proofs.lemmas.Slice.Eq.{bytes_eq-Decides}
use Rattle.std.proofs.lemmas.Grind.{common_steps}
use Rattle.std.proofs.Math.Seq.{take-append_seam}
use Rattle.xc_input.specs.declared.kind.Kind.{Kind}
use Rattle.xc_input.specs.declared.fault.FaultKind.{FaultKind}
use Rattle.xc_input.specs.declared.fault.FaultKind.TheVariants.{NulByte, TwoBars, TooManyUses, EmptyName, NameTooLong}
use Rattle.xc_input.specs.declared.fault.FaultKind.TheVariants.{BadByteInName, UnknownItem, RepeatedInOption}
use Rattle.xc_input.specs.declared.fault.FaultKind.TheVariants.{ColourOnPrimary, BadColour, ColourNotHere}
use Rattle.xc_input.specs.Limits.{most_items, most_uses}
use Rattle.xc_text.specs.Words.{has, before, place}
use Rattle.xc_input.specs.Tokens.{tokens, parts, is_bar, is_skipped}
use Rattle.xc_input.specs.Sheets.{Written, Entry, number_uses}
use Rattle.xc_input.specs.Faults.{first, is_plain, checks_of_each, name_of, item_names, part_checks, Context}
use Rattle.xc_input.specs.Faults.{context_of, item_of, token_checks as checks_behind, token_checks, has_primary}
use Rattle.xc_input.specs.Faults.{is_bounds}
use Rattle.xc_input.specs.FirstFault.{line_number, content, is_kept, kept_uses, option_checks, content_checks}
use Rattle.xc_input.specs.FirstFault.{line_checks, line_fault}
use Rattle.xc_input.specs.Text.{IsEntry, IsUse, IsOptionLine, StandsFor, AreOptions as HaveOptions}
use Rattle.xc_input.specs.inner.Stages.{entry, staged_token_checks, context, written, item_number, numbered, Sheet}
use Rattle.xc_input.specs.inner.Stages.{names_of, with_uses, Row, row_checks, row_with_parts, no_row, with_part}
use Rattle.xc_input.specs.inner.Stages.{written_by, Stage, no_stage, with_option, with_row, stage_from, stage_of}
use Rattle.xc_input.specs.inner.Stages.{staged_part_checks as row_part_checks, staged_option_checks as tokens_checks}
use Rattle.xc_input.specs.inner.Stages.{staged_content_checks as stage_content}
use Rattle.xc_input.specs.Problem.{use_count, Puzzle}
use Rattle.xc_input.specs.declared.problem.Bounds.{Bounds}
use Rattle.xc_text.specs.declared.seed.Seed.{Seed}
use Rattle.xc_input.specs.Named.{Named}
use Rattle.xc_text.proofs.ListLemmas.{by_bool, each-append, each_front, EachTwo, each_weaker, each-of}
use Rattle.xc_text.proofs.ListLemmas.{AllPairs-from_each_two, each_two_from_AllPairs}
use Rattle.xc_input.proofs.FaultLemmas.{some-is, fails, none-append, clear-each, solid, item-clear, COLON, known}
use Rattle.xc_text.proofs.ByteLemmas.{cut-is, no-cut, cut-at}
use Rattle.xc_input.proofs.OptionLemmas.{before-cons, after-cons, no-bar, none-after, past-name, with_uses-append}
use Rattle.xc_input.proofs.OptionLemmas.{number-later}

-- ======== No check of parts, tokens and lines holds exactly where they stand for items, uses and options.

-- ONE ELEMENT MORE
each-snoc : {X : Type 0} (P : X → Type 0) (xs : List X) (x : X) → Each P (xs ++ x ∷ []) ↔ (Each P xs × P x)
each-snoc P xs x = grind (arith, each_front P xs (x ∷ []), each-append P xs (x ∷ []))

two-snoc : {X : Type 0} (R : X → X → Type 0) (xs : List X) (x : X)
    → EachTwo R (xs ++ x ∷ []) ↔ (EachTwo R xs × Each (λ y. R y x) xs)
two-snoc R [] x = (λ a. (tt, tt), λ h. (tt, tt))
two-snoc R (y ∷ ys) x = grind (arith, each-snoc (R y) ys x, two-snoc R ys x)

-- a name is unlike each where it has no place among them
new-name : (ns : List (List ℕ)) (n : List ℕ) → Each (λ m. m ≢ n) ns ↔ (place ns n ≡ None)
new-name [] n = grind (arith, nat_tests)
new-name (m ∷ ns) n = grind (arith, nat_tests, bytes_eq-Decides n m, new-name ns n)

-- THE ITEM LINE
before-snoc : (ps : List (List ℕ)) (p : List ℕ) → before_first is_bar (ps ++ p ∷ [])
    ≡ before_first is_bar ps ++ (if list_any is_bar ps || is_bar p then [] else p ∷ [])
before-snoc [] p = before-cons p [] (is_bar p) refl
before-snoc (q ∷ ps) p = by_bool (is_bar q)
    (λ f. rw (before-cons q (ps ++ p ∷ []) true f, before-cons q ps true f, f))
    (λ f. rw (before-cons q (ps ++ p ∷ []) false f, before-cons q ps false f, f, before-snoc ps p))

after-snoc : (ps : List (List ℕ)) (p : List ℕ) → after_first is_bar (ps ++ p ∷ [])
    ≡ after_first is_bar ps ++ (if list_any is_bar ps then p ∷ [] else [])
after-snoc [] p = by_bool (is_bar p) (λ f. after-cons p [] true f) (λ f. after-cons p [] false f)
after-snoc (q ∷ ps) p = grind (arith, by_bool, after-cons, after-snoc ps p)

pub names-snoc : (kind : Kind) (before : List (List ℕ)) (p : List ℕ)
    → item_names kind (before ++ p ∷ []) ≡ item_names kind before ++ (if is_bar p then [] else name_of kind p ∷ [])
names-snoc kind before p = grind (arith, nat_tests, filter-append, map-append (name_of kind))

-- parts before the first bar stand for primary items, those behind it for secondary ones
abbrev pub StandFor : Kind → Bool → List (List ℕ) → Type 0
StandFor kind sec ps = Each (λ p. IsEntry kind sec p (entry kind sec p)) ps

abbrev pub AreClearParts : Kind → List (List ℕ) → Type 0
AreClearParts kind ps = (StandFor kind false (before_first is_bar ps) × StandFor kind true (after_first is_bar ps))
    × EachTwo (λ m n. m ≢ n) (item_names kind ps) × (length (item_names kind ps) ≤ most_items)

module _ (kind : Kind) (earlier : List (List ℕ)) (p : List ℕ) where
  -- this holds of each part, before the first bar and behind it
  abbrev Sides : (Bool → List ℕ → Type 0) → List (List ℕ) → Type 0
  Sides F ps = Each (F false) (before_first is_bar ps) × Each (F true) (after_first is_bar ps)

  side-more : (F : Bool → List ℕ → Type 0) → is_bar p ≡ false
      → Sides F (earlier ++ p ∷ []) ↔ (Sides F earlier × F (list_any is_bar earlier) p)
  side-more F f = rw (before-snoc earlier p, after-snoc earlier p, f) (by_bool (list_any is_bar earlier)
      (λ b. let s = each-snoc (F true) (after_first is_bar earlier) p in
      rw (b, append-nil) (λ a. (let e = s.0 a.1 in ((a.0, e.0), e.1)), λ h. (h.0.0, s.1 (h.0.1, h.1))))
      (λ b. let s = each-snoc (F false) (before_first is_bar earlier) p in
      rw (b, append-nil) (λ a. (let e = s.0 a.0 in ((e.0, a.1), e.1)), λ h. (s.1 (h.0.0, h.1), h.0.1))))

  bar-more : (F : Bool → List ℕ → Type 0) → is_bar p ≡ true → (F true p → false ≡ true)
      → Sides F (earlier ++ p ∷ []) ↔ (Sides F earlier × (list_any is_bar earlier ≡ false))
  bar-more F f never = rw (before-snoc earlier p, after-snoc earlier p, f) (by_bool (list_any is_bar earlier)
      (λ b. let s = each-snoc (F true) (after_first is_bar earlier) p in
      rw b (λ a. absurd (let e = never (s.0 a.1).1 in cc), λ h. absurd (let e = h.1 in cc)))
      (λ b. rw (b, append-nil, append-nil) (λ a. (a, refl), λ h. h.0)))

  part-clear : AreClearParts kind (earlier ++ p ∷ [])
      ↔ (AreClearParts kind earlier × (first (part_checks kind earlier p) ≡ None))
  part-clear =
      let barred = list_any is_bar earlier in
      let names = item_names kind earlier in
      let stands : Bool → List ℕ → Type 0 = λ sec p. IsEntry kind sec p (entry kind sec p) in
      by_bool (is_bar p)
      (λ f. let s = bar-more stands f (λ e. sym (no-bar kind p _ e) ∙ f) in
      let n : item_names kind (earlier ++ p ∷ []) ≡ names = names-snoc kind earlier p ∙ rw f (append-nil names) in
      rw (n, f) (
        λ a. (let e = s.0 a.0 in ((e.0, a.1, a.2), rw e.1)),
        λ h. (s.1 (h.0.0, fails ((TwoBars, barred) ∷ []) h.1 TwoBars), h.0.1, h.0.2),
      ))
      (λ f. let s = side-more stands f in
      let t = two-snoc (λ m n. m ≢ n) names (name_of kind p) in
      let u = new-name names (name_of kind p) in
      let i = item-clear kind barred p names in
      let l = length-append names (name_of kind p ∷ []) in
      rw (names-snoc kind earlier p, f) (
        λ a. (let x = s.0 a.0 in
            let y = t.0 a.1 in
            ((x.0, y.0, omega (arith, a.2, l)), i.1 (x.1, u.0 y.1, omega (arith, a.2, l)))),
        λ h. (let e = i.0 h.1 in (s.1 (h.0.0, e.0), t.1 (h.0.1, u.1 e.1), omega (arith, e.2, l))),
      ))

pub parts-clear : (kind : Kind) (ps : List (List ℕ))
    → AreClearParts kind ps ↔ (first (checks_of_each (part_checks kind) [] ps) ≡ None)
parts-clear kind = clear-each (part_checks kind) (AreClearParts kind) (part-clear kind) ((tt, tt), tt, omega arith)

-- AN OPTION LINE
module _ (kind : Kind) (names : List (List ℕ)) (primaries : ℕ) (seen token : List ℕ) where
  abbrev checks : List (FaultKind × Bool)
  checks = staged_token_checks (context kind names primaries) seen token

  use-good : first checks ≡ None → IsUse (context kind names primaries) token (written names token)
      × (list_any (λ i. nat_eq i (item_number names (before COLON token))) seen ≡ false)
  use-good e =
      let no = fails checks e in
      let name = solid (before COLON token) (no EmptyName) (no NameTooLong) (no BadByteInName) in
      let item = some-is (place names (before COLON token)) (no UnknownItem) in
      let cut = cut-is COLON token in
      let whole = no-cut COLON token in
      let none = none-after COLON token in
      grind (arith, no ColourNotHere, no RepeatedInOption, no ColourOnPrimary, no BadColour)

  good-use : (u : Written) → IsUse (context kind names primaries) token u
      → list_any (λ j. nat_eq j u.item) seen ≡ false → (u ≡ written names token) × (first checks ≡ None)
  good-use u (name, i, n, p, q, inl h) once =
      let no : has COLON token ≡ false = ap (has COLON) h.0 ∙ n.no_colon in
      let own : before COLON token ≡ name = no-cut COLON token no ∙ h.0 in
      grind (arith, nat_tests, past-name, none-after COLON token no, and-false (is_plain kind))
  good-use u (name, i, n, p, q, inr h) once =
      let cut = cut-at COLON name u.colour n.no_colon in
      let own : before COLON token ≡ name = ap (before COLON) h.0 ∙ cut.0 in grind (arith, nat_tests)

-- a token stands for no other use
pub use-is : (c : Context) (token : List ℕ) (u : Written) → IsUse c token u → u ≡ written c.names token
use-is c token u h = (good-use c.kind c.names c.primaries [] token u h refl).0

-- tokens stand for uses of different items
abbrev pub AreClearTokens : Context → List (List ℕ) → Type 0
AreClearTokens c ts =
    Each (λ t. IsUse c t (written c.names t)) ts × EachTwo (λ u v. u.item ≢ v.item) (map (written c.names) ts)

unseen : (c : Context) (i : ℕ) (ts : List (List ℕ))
    → Each (λ (u : Written). u.item ≢ i) (map (written c.names) ts) ↔ (has i (map (item_of c) ts) ≡ false)
unseen c i [] = (λ a. refl, λ e. tt)
unseen c i (t ∷ ts) = grind (arith, or_parts, item_of, unseen c i ts)

token-clear : (c : Context) (earlier : List (List ℕ)) (t : List ℕ) → AreClearTokens c (earlier ++ t ∷ [])
    ↔ (AreClearTokens c earlier × (first (checks_behind c earlier t) ≡ None))
token-clear c earlier t =
    let e = each-snoc (λ t. IsUse c t (written c.names t)) earlier t in
    let d = two-snoc (λ u v. u.item ≢ v.item) (map (written c.names) earlier) (written c.names t) in
    let new = unseen c (item_of c t) earlier in
    let good = use-good c.kind c.names c.primaries (map (item_of c) earlier) t in
    let clear = good-use c.kind c.names c.primaries (map (item_of c) earlier) t (written c.names t) in
    rw (map-snoc (written c.names) earlier t) (grind (arith, e, d, new, good, clear))

tokens-clear : (c : Context) (ts : List (List ℕ))
    → AreClearTokens c ts ↔ (first (checks_of_each (checks_behind c) [] ts) ≡ None)
tokens-clear c = clear-each (checks_behind c) (AreClearTokens c) (token-clear c) (tt, tt)

-- option lines stand for options, and those that are kept have not too many uses
abbrev pub AreClearOptions : Context → List (List ℕ) → Type 0
AreClearOptions c os = Each (λ line. AreClearTokens c (tokens line)) os × (kept_uses c os ≤ most_uses)

uses-snoc : (c : Context) (os : List (List ℕ)) (line : List ℕ)
    → kept_uses c (os ++ line ∷ []) ≡ kept_uses c os + (if is_kept c line then length (tokens line) else 0)
uses-snoc c os line = grind (arith, filter-append, sum_by-append)

option-clear : (c : Context) (earlier : List (List ℕ)) (line : List ℕ) → AreClearOptions c (earlier ++ line ∷ [])
    ↔ (AreClearOptions c earlier × (first (option_checks c earlier line) ≡ None))
option-clear c earlier line =
    let e = each-snoc (λ line. AreClearTokens c (tokens line)) earlier line in
    let t = tokens-clear c (tokens line) in
    let n = none-append (checks_of_each (checks_behind c) [] (tokens line))
    ((TooManyUses, is_kept c line && nat_lt most_uses (kept_uses c earlier + length (tokens line))) ∷ []) in
    let s = uses-snoc c earlier line in grind (arith, nat_tests)

-- THE LINES
-- lines with content, first the item line
abbrev pub AreClear : Kind → List (List ℕ) → Type 0
AreClear kind [] = Unit {0}
AreClear kind (items ∷ os) = AreClearParts kind (parts items) × AreClearOptions (context_of kind (parts items)) os

content-clear : (kind : Kind) (done : List (List ℕ)) (line : List ℕ) → AreClear kind (done ++ line ∷ [])
    ↔ (AreClear kind done × (first (content_checks kind done line) ≡ None))
content-clear kind [] line = grind (arith, parts-clear kind (parts line))
content-clear kind (items ∷ os) line = grind (arith, option-clear (context_of kind (parts items)) os line)

-- the checks of a line, behind lines with this content
abbrev pub checks_of : Kind → List (List ℕ) → List ℕ → List (FaultKind × Bool)
checks_of kind done line = (NulByte, has 0 line) ∷ (if is_skipped line then [] else content_checks kind done line)

-- the first of them, with the number of the line
pub first-numbered : {N A : Type 0} (n : N) (cs : List (A × Bool))
    → first {A = N × A} (map (λ c. ((n, c.0), c.1)) cs) ≡ option_map (λ k. (n, k)) (first cs)
first-numbered n [] = refl
first-numbered n (c ∷ cs) = grind (arith, nat_tests, first-numbered n cs)

none-numbered : {N A : Type 0} (n : N) (o : Option A) → (option_map {U = N × A} (λ k. (n, k)) o ≡ None) ↔ (o ≡ None)
none-numbered n None = (λ e. refl, λ e. refl)
none-numbered n (Some k) = (λ e. absurd (cc), λ e. absurd (cc))

-- lines without a NUL byte
abbrev pub AreClearLines : Kind → List (List ℕ) → Type 0
AreClearLines kind lines = (list_any (has 0) lines ≡ false) × AreClear kind (content lines)

line-clear : (kind : Kind) (earlier : List (List ℕ)) (line : List ℕ) → AreClearLines kind (earlier ++ line ∷ [])
    ↔ (AreClearLines kind earlier × (first (line_checks kind earlier line) ≡ None))
line-clear kind earlier line =
    let content_more = filter-append (λ l. not (is_skipped l)) earlier (line ∷ []) in
    let nul_more = list_any-append (has 0) earlier (line ∷ []) in
    let n : ℕ = line_number (length earlier + 1) in
    rw (content_more, nul_more, first-numbered n (checks_of kind (content earlier) line)) (by_bool (has 0 line)
    (λ z. rw z (grind (arith, or_parts))) (λ z. by_bool (is_skipped line)
    (λ f. rw (z, f) (simp (append-nil, or-false) (λ a. (a, refl), λ h. h.0)))
    (λ f. let c = content-clear kind (content earlier) line in
    let m = none-numbered n (first (content_checks kind (content earlier) line)) in
    rw (z, f) (grind (arith, or-false)))))

pub lines-clear : (kind : Kind) (lines : List (List ℕ)) → AreClearLines kind lines ↔ (line_fault kind lines ≡ None)
lines-clear kind = clear-each (line_checks kind) (AreClearLines kind) (line-clear kind) (refl, tt)

-- ======== What lines give, by those with content, and that the checks behind it are those behind these lines.

-- THE ITEM LINE
-- the items of these parts of an item line
pub record IsRowOf (kind : Kind) (row : Row) (others : List (List ℕ)) : Type 0 where
  pub names : names_of row.entries ≡ item_names kind others
  pub barred : is_some row.bar ≡ list_any is_bar others

pub no-row : (kind : Kind) → IsRowOf kind no_row []
no-row kind = record { names = refl; barred = refl }

pub row-checks : {kind : Kind} {row : Row} {others : List (List ℕ)} (part : List ℕ) → IsRowOf kind row others
    → row_part_checks kind row part ≡ part_checks kind others part
row-checks {kind} part r = grind (arith)

pub row-more : {kind : Kind} {row : Row} {others : List (List ℕ)} (part : List ℕ) → IsRowOf kind row others
    → IsRowOf kind (with_part kind row part) (others ++ part ∷ [])
row-more {kind} {row} {others} part r =
    grind (arith, names-snoc, list_any-append, by_bool, append-nil, or-true, map-snoc, is_some, or-false)

pub parts-checked : {kind : Kind} (ps : List (List ℕ)) {row : Row} {before : List (List ℕ)} → IsRowOf kind row before
    → row_checks kind row ps ≡ checks_of_each (part_checks kind) before ps
parts-checked [] r = refl
parts-checked (p ∷ ps) r = λ i. row-checks p r i ++ parts-checked ps (row-more p r) i

row-names : {kind : Kind} (ps : List (List ℕ)) {row : Row} {before : List (List ℕ)} → IsRowOf kind row before
    → names_of (row_with_parts kind row ps).entries ≡ item_names kind (before ++ ps)
row-names {kind} [] {before = before} r = r.names ∙ ap (item_names kind) (sym (append-nil before))
row-names {kind} (p ∷ ps) {before = before} r = grind (arith, row-more, append_assoc, row-names ps (row-more p r))

-- the items that such parts stand for
abbrev pub items_in : Kind → List (List ℕ) → List Entry
items_in kind ps = map (entry kind false) (before_first is_bar ps) ++ map (entry kind true) (after_first is_bar ps)

abbrev pub P : Row → ℕ
P row = unwrap_or row.bar (length row.entries)

-- a row
abbrev R : List Entry → Option ℕ → Row
R entries bar = record { entries = entries; bar = bar }

row-behind : (kind : Kind) (es : List Entry) (n : ℕ) (ps : List (List ℕ)) → StandFor kind true ps
    → row_with_parts kind (R es (Some n)) ps ≡ R (es ++ map (entry kind true) ps) (Some n)
row-behind kind es n [] a = ap (λ es. R es (Some n)) (sym (append-nil es))
row-behind kind es n (p ∷ ps) a = rw (no-bar kind p _ a.0) (row-behind kind (es ++ entry kind true p ∷ []) n ps a.1
    ∙ ap (λ es. R es (Some n)) (append_assoc es (entry kind true p ∷ []) (map (entry kind true) ps)))

row-is : (kind : Kind) (es : List Entry) (ps : List (List ℕ)) → StandFor kind true (after_first is_bar ps)
    → ((row_with_parts kind (R es None) ps).entries ≡ es ++ items_in kind ps)
    × (P (row_with_parts kind (R es None) ps) ≡ length es + length (before_first is_bar ps))
row-is kind es [] a = (sym (append-nil es), omega arith)
row-is kind es (p ∷ ps) a = by_bool (is_bar p)
    (λ f. let r = row-behind kind es (length es) ps (rw (after-cons p ps true f) at a) in
    rw (after-cons p ps true f, before-cons p ps true f) (grind (arith, r)))
    (λ f. let r = row-is kind (es ++ entry kind false p ∷ []) ps (rw (after-cons p ps false f) at a) in
    rw (after-cons p ps false f, before-cons p ps false f) (grind (arith, r, append_assoc es, length-append es)))

-- the items of the item line, before any option
abbrev pub start : Kind → List ℕ → Sheet
start kind line = with_row no_stage.sheet (row_with_parts kind no_row (parts line))

abbrev pub said : Kind → Sheet → Context
said kind sheet = context kind (names_of sheet.entries) sheet.primaries

-- what parts of an item line say
pub context-is : (kind : Kind) (ps : List (List ℕ)) → StandFor kind true (after_first is_bar ps) → context_of kind ps
    ≡ context kind (names_of (row_with_parts kind no_row ps).entries) (P (row_with_parts kind no_row ps))
context-is kind ps a =
    let count : length (before_first is_bar ps) ≡ P (row_with_parts kind no_row ps) =
    omega (arith, (row-is kind [] ps a).1) in
    λ i. context kind (sym (row-names ps (no-row kind)) i) (count i)

pub start-is : (kind : Kind) (line : List ℕ) → StandFor kind true (after_first is_bar (parts line))
    → ((start kind line).entries ≡ items_in kind (parts line))
    × ((start kind line).primaries ≡ length (before_first is_bar (parts line)))
    × (context_of kind (parts line) ≡ said kind (start kind line))
start-is kind line a = grind (arith, row-is, parts, context-is)

-- OPTIONS
abbrev pub content_from : ℕ → List (List ℕ) → List (ℕ × List ℕ)
content_from k lines = filter (λ line. not (is_skipped line.1)) (enumerate_from k lines)

abbrev pub flat : List (List Written) → List Written
flat uss = flat_map (λ us. us) uss

abbrev pub ignored_of : ℕ → List (ℕ × List Written) → List ℕ
ignored_of p os = map (λ o. o.0) (filter (λ o. not (has_primary p o.1)) os)

abbrev pub kept_of : ℕ → List (ℕ × List Written) → List (List Written)
kept_of p os = map (λ o. o.1) (filter (λ o. has_primary p o.1) os)

-- the options of lines with their numbers, those that are kept, and the numbers of the others
abbrev pub written_in : Context → List (ℕ × List ℕ) → List (ℕ × List Written)
written_in c ls = map (λ l. (line_number l.0, map (written c.names) (tokens l.1))) ls

abbrev pub kept_in : Context → List (ℕ × List ℕ) → List (List Written)
kept_in c ls = kept_of c.primaries (written_in c ls)

abbrev pub ignored_in : Context → List (ℕ × List ℕ) → List ℕ
ignored_in c ls = ignored_of c.primaries (written_in c ls)

-- the sheet with these options more
abbrev pub with_kept : Sheet → List (List Written) → Sheet
with_kept sheet uss =
    let last = with_uses sheet.colours (flat uss) in
    record sheet { options = sheet.options ++ map (number_uses last) uss; colours = last }

-- the sheet with one option more
abbrev more : Sheet → List Written → Sheet
more sheet us = record sheet {
  options = sheet.options ++ numbered sheet.colours us ∷ [];
  colours = with_uses sheet.colours us;
}

with_kept-more : (sheet : Sheet) (us : List Written) (uss : List (List Written))
    → with_kept (more sheet us) uss ≡ with_kept sheet (us ∷ uss)
with_kept-more sheet us uss =
    let last = with_uses-append sheet.colours us (flat uss) in
    let here = number-later sheet.colours us (flat uss) in
    cc (append_assoc sheet.options (numbered sheet.colours us ∷ []) (map (number_uses (with_uses sheet.colours (us
    ++ flat uss))) uss))

-- THE LINES
-- behind the item line
abbrev S : Sheet → List ℕ → Stage
S sheet ignored = record { started = true; sheet = sheet; ignored = ignored }

-- what a line with content gives
abbrev with_content : Kind → Stage → ℕ × List ℕ → Stage
with_content kind stage l =
    (if stage.started then with_option (line_number l.0) stage (written_by stage.sheet l.1)
    else record stage { started = true; sheet = with_row stage.sheet (row_with_parts kind no_row (parts l.1)) })

stage-content : (kind : Kind) (n : ℕ) (stage : Stage) (lines : List (List ℕ))
    → stage_from kind n stage lines ≡ fold (with_content kind) stage (content_from (n + 1) lines)
stage-content kind n stage [] = refl
stage-content kind n stage (line ∷ lines) = by_bool (is_skipped line)
    (λ f. rw f (stage-content kind (n + 1) stage lines))
    (λ f. rw f (stage-content kind (n + 1) (with_content kind stage (n + 1, line)) lines))

abbrev stage_behind : Kind → Sheet → List ℕ → List (ℕ × List ℕ) → Stage
stage_behind kind sheet ignored ls =
    let c = said kind sheet in S (with_kept sheet (kept_in c ls)) (ignored ++ ignored_in c ls)

stage-behind : (kind : Kind) (sheet : Sheet) (ignored : List ℕ) (ls : List (ℕ × List ℕ))
    → fold (with_content kind) (S sheet ignored) ls ≡ stage_behind kind sheet ignored ls
stage-behind kind sheet ignored [] = grind (arith, append-nil)
stage-behind kind sheet ignored (l ∷ ls) =
    let us = written_by sheet l.1 in
    let with_one = with_kept-more sheet us (kept_in (said kind sheet) ls) in by_bool (has_primary sheet.primaries us)
    (λ g. rw g (grind (arith, stage-behind kind (more sheet us) ignored ls)))
    (λ g. rw g (grind (arith, append_assoc, stage-behind kind sheet (ignored ++ line_number l.0 ∷ []) ls)))

-- what all lines give, by those with content
abbrev pub stage_by : Kind → List (ℕ × List ℕ) → Stage
stage_by kind [] = no_stage
stage_by kind (item ∷ rest) = stage_behind kind (start kind item.1) [] rest

pub stage-by : (kind : Kind) (lines : List (List ℕ)) → stage_of kind lines ≡ stage_by kind (content_from 1 lines)
stage-by kind lines = stage-content kind 0 no_stage lines ∙ of-content (content_from 1 lines)
  where
    of-content : (ls : List (ℕ × List ℕ)) → fold (with_content kind) no_stage ls ≡ stage_by kind ls
    of-content [] = refl
    of-content (item ∷ rest) = stage-behind kind (start kind item.1) [] rest

-- THE CHECKS OF A LINE
-- lines without their numbers
abbrev pub plain : List (ℕ × List ℕ) → List (List ℕ)
plain ls = map (λ l. l.1) ls

pub plain-content : (k : ℕ) (lines : List (List ℕ)) → content lines ≡ plain (content_from k lines)
plain-content k [] = refl
plain-content k (line ∷ lines) = grind (arith, nat_tests, plain-content (k + 1) lines)

pub tokens-checked : (c : Context) (before ts : List (List ℕ)) → tokens_checks c (map (item_of c) before) ts
    ≡ checks_of_each (token_checks c) before ts
tokens-checked c before [] = refl
tokens-checked c before (t ∷ ts) = grind (arith, map-snoc, item_of, tokens-checked c (before ++ t ∷ []) ts)

kept-is : (c : Context) (ts : List (List ℕ)) → has_primary c.primaries (map (written c.names) ts)
    ≡ list_any (λ t. nat_le (item_of c t) c.primaries) ts
kept-is c [] = refl
kept-is c (t ∷ ts) = ap (λ b. nat_le (item_of c t) c.primaries || b) (kept-is c ts)

pub kept-count : (c : Context) (ls : List (ℕ × List ℕ)) → kept_uses c (plain ls) ≡ length (flat (kept_in c ls))
kept-count c [] = refl
kept-count c (l ∷ ls) =
    let later = kept-count c ls in
    grind (arith, common_steps, nat_tests, written, kept-is, by_bool, length-append, length-map, sum_by-cons, plain)

-- how many uses options have
pub all-counted : (cs : List (List ℕ)) (uss : List (List Written))
    → use_count (map (number_uses cs) uss) ≡ length (flat uss)
all-counted cs [] = refl
all-counted cs (us ∷ uss) = grind (arith, common_steps, length-map, length-append, sum_by-cons, all-counted cs uss)

pub content-checked : (kind : Kind) (ls : List (ℕ × List ℕ)) (line : List ℕ) → AreClear kind (plain ls)
    → stage_content kind (stage_by kind ls) line ≡ content_checks kind (plain ls) line
content-checked kind [] line h = parts-checked (parts line) (no-row kind)
content-checked kind (item ∷ rest) line h =
    let c = said kind (start kind item.1) in
    let count = all-counted (with_uses [] (flat (kept_in c rest))) (kept_in c rest) ∙ sym (kept-count c rest) in
    (λ i. tokens-checked c [] (tokens line) i
    ++ (TooManyUses, kept-is c (tokens line) i && nat_lt most_uses (count i + length (tokens line))) ∷ [])
    ∙ ap (λ c. option_checks c (plain rest) line) (sym (start-is kind item.1 h.0.0.1).2)

-- ======== The problem of a sheet, and the items that parts of the item line stand for.

-- the bounds of an item, and of items
abbrev pub entry_bounds : Entry → Bounds
entry_bounds e = record { low = e.low; high = e.high }

abbrev pub bounds_in : List Entry → List Bounds
bounds_in es = map entry_bounds es

-- the problem of a sheet, by a seed
abbrev pub named_of : Seed → Sheet → Named
named_of seed s =
    let puzzle : Puzzle = record {
      bounds = bounds_in (take s.primaries s.entries);
      secondary = length s.entries - s.primaries;
      options = s.options;
    } in
    record { names = names_of s.entries; colours = s.colours; puzzle = puzzle; seed = seed }

-- parts of the item line, so many of them before the bar, and the items that they stand for
abbrev pub AreItems : Kind → List Entry → ℕ → Type 0
AreItems kind entries n = (ps : List (List ℕ)) × StandFor kind true (after_first is_bar ps)
    × (entries ≡ items_in kind ps) × (n ≡ length (before_first is_bar ps))

-- ======== Lines stand for a problem exactly where no check of them holds, and for no other problem but for the
-- seed.

-- TWO LISTS
-- each stands beside its image
zip-each : {X Y : Type 0} (R : X → Y → Type 0) (f : X → Y) (xs : List X) → Each (λ x. R x (f x)) xs
    → AllZip R xs (map f xs)
zip-each R f [] a = tt
zip-each R f (x ∷ xs) a = (a.0, zip-each R f xs a.1)

-- and beside nothing else
zip-is : {X Y : Type 0} {R : X → Y → Type 0} (f : X → Y) → ((x : X) (y : Y) → R x y → y ≡ f x) → (xs : List X)
    (ys : List Y) → AllZip R xs ys → (ys ≡ map f xs) × Each (λ x. R x (f x)) xs
zip-is f u [] [] z = (refl, tt)
zip-is {R = R} f u (x ∷ xs) (y ∷ ys) z = grind (arith, zip-is f u xs ys z.1)
zip-is f u xs ys z = absurd z

entries-are : (kind : Kind) (sec : Bool) (ps : List (List ℕ)) (es : List Entry) → AllZip (IsEntry kind sec) ps es
    → (es ≡ map (entry kind sec) ps) × StandFor kind sec ps
entries-are kind sec = zip-is (entry kind sec) (λ p e k. (known kind sec p e k).0)

-- OPTION LINES
lines-stand : (c : Context) (ls : List (ℕ × List ℕ)) → Each (λ line. AreClearTokens c (tokens line)) (plain ls)
    → AllZip (IsOptionLine c) ls (written_in c ls)
lines-stand c ls a = zip-each (IsOptionLine c) _ ls (each_weaker _ _ ls
    (λ l k. (refl, zip-each _ (written c.names) (tokens l.1) k.0, AllPairs-from_each_two _ _ k.1)) (each-of _ _ ls a))

lines-are : (c : Context) (ls : List (ℕ × List ℕ)) (ws : List (ℕ × List Written)) → AllZip (IsOptionLine c) ls ws
    → (ws ≡ written_in c ls) × Each (λ line. AreClearTokens c (tokens line)) (plain ls)
lines-are c [] [] z = (refl, tt)
lines-are c (l ∷ ls) (w ∷ ws) z =
    let u = zip-is (written c.names) (use-is c) (tokens l.1) w.1 z.0.1 in
    grind (arith, u, each_two_from_AllPairs, lines-are c ls ws z.1)
lines-are c ls ws z = absurd z

-- THE TEXT
module _ (kind : Kind) (item : ℕ × List ℕ) (rest : List (ℕ × List ℕ)) where
  abbrev ps : List (List ℕ)
  ps = parts item.1

  abbrev c : Context
  c = context_of kind ps

  abbrev primary : List Entry
  primary = map (entry kind false) (before_first is_bar ps)

  -- the problem of an item line and option lines, by a seed
  abbrev pub named_in : Seed → Named
  named_in seed =
      let colours = with_uses [] (flat (kept_in c rest)) in record {
        names = c.names;
        colours = colours;
        puzzle = record {
          bounds = bounds_in primary;
          secondary = length (after_first is_bar ps);
          options = map (number_uses colours) (kept_in c rest);
        };
        seed = seed;
      }

  few : length primary ≡ c.primaries
  few = length-map (before_first is_bar ps) (entry kind false)

  pub names-are : StandFor kind true (after_first is_bar ps)
      → c.names ≡ names_of (primary ++ map (entry kind true) (after_first is_bar ps))
  names-are a = let s = start-is kind item.1 a in ap (λ (c : Context). c.names) s.2 ∙ ap names_of s.0

  pub clear-stands : (seed : Seed) (lines : List (List ℕ)) → content_from 1 lines ≡ item ∷ rest
      → list_any (has 0) lines ≡ false → AreClear kind (plain (item ∷ rest))
      → StandsFor kind lines (named_in seed) (ignored_in c rest)
  clear-stands seed lines e z h =
      let options : HaveOptions c rest (named_in seed) (ignored_in c rest) = record {
        options = written_in c rest;
        stand = lines-stand c rest h.1.0;
        others = refl;
        kept = kept_in c rest;
        are_kept = refl;
        few = omega (arith, h.1.1, kept-count c rest);
        colours = refl;
        numbered = refl;
      } in record {
        no_nul = z;
        item_line = item;
        option_lines = rest;
        content = e;
        items = record {
          primary = primary;
          secondary = map (entry kind true) (after_first is_bar ps);
          before_bar = zip-each _ (entry kind false) (before_first is_bar ps) h.0.0.0;
          behind_bar = zip-each _ (entry kind true) (after_first is_bar ps) h.0.0.1;
          names = names-are h.0.0.1;
          bounds = refl;
          count = sym (length-map (after_first is_bar ps) (entry kind true));
          distinct = AllPairs-from_each_two _ _ h.0.1;
          few = h.0.2;
        };
        options = grind (arith, rest, length-map, primary, few, options);
      }

  -- what the stage behind these lines says of them
  pub sheet-is : (seed : Seed) → StandFor kind true (after_first is_bar ps) → let st = stage_by kind (item ∷ rest) in
      ◌≡◌ {A = Named × List ℕ} (named_of seed st.sheet, st.ignored) (named_in seed, ignored_in c rest)
  sheet-is seed a = grind (arith, start-is, start, primary, few, take-append_seam, length-map, length-append)

pub stands-clear : (kind : Kind) (lines : List (List ℕ)) (named : Named) (ignored : List ℕ)
    (h : StandsFor kind lines named ignored) → AreClear kind (plain (h.item_line ∷ h.option_lines))
    × (named ≡ named_in kind h.item_line h.option_lines named.seed)
    × (ignored ≡ ignored_in (context_of kind (parts h.item_line.1)) h.option_lines)
stands-clear kind lines named ignored h =
    let ps = parts h.item_line.1 in
    let rest = h.option_lines in
    let c = context_of kind ps in
    let b = entries-are kind false (before_first is_bar ps) h.items.primary h.items.before_bar in
    let a = entries-are kind true (after_first is_bar ps) h.items.secondary h.items.behind_bar in
    let names = h.items.names ∙ (λ i. names_of (b.0 i ++ a.0 i)) ∙ sym (names-are kind h.item_line rest a.1) in
    let distinct = each_two_from_AllPairs _ _ (rw names at h.items.distinct) in
    let bounds = h.items.bounds ∙ ap bounds_in b.0 in
    let many = ap length bounds ∙ length-map (primary kind h.item_line rest) _ ∙ few kind h.item_line rest in
    let o = subst (λ (c : Context). HaveOptions c rest named ignored)
    (λ i. context kind (names i) (many i)) h.options in
    let w = lines-are c rest o.options o.stand in
    let kept : o.kept ≡ kept_in c rest = o.are_kept ∙ ap (kept_of c.primaries) w.0 in
    let colours = o.colours ∙ ap (λ uss. with_uses [] (flat uss)) kept in
    let uses : kept_uses c (plain rest) ≤ most_uses =
    omega (arith, o.few, ap (λ uss. length (flat uss)) kept, kept-count c rest) in (
      (((b.1, a.1), distinct, rw names at h.items.few), (w.1, uses)),
      λ i. record {
        names = names i;
        colours = colours i;
        puzzle = record {
          bounds = bounds i;
          secondary = (h.items.count ∙ ap length a.0 ∙ length-map (after_first is_bar ps) (entry kind true)) i;
          options = (o.numbered ∙ (λ j. map (number_uses (colours j)) (kept j))) i;
        };
        seed = named.seed;
      },
      o.others ∙ ap (ignored_of c.primaries) w.0,
    )

-- ======== What stands for a problem as one kind stands for it as each kind that allows more.

-- what holds of each and its other
zip-weaker : {X Y : Type 0} {R Q : X → Y → Type 0} → ((x : X) (y : Y) → R x y → Q x y) → (xs : List X) (ys : List Y)
    → AllZip R xs ys → AllZip Q xs ys
zip-weaker f [] [] z = tt
zip-weaker f (x ∷ xs) (y ∷ ys) z = (f x y z.0, zip-weaker f xs ys z.1)
zip-weaker f xs ys z = absurd z

-- b allows what a allows
module _ (a b : Kind) (bounds : is_bounds a ≡ true → is_bounds b ≡ true)
    (colours : is_plain a ≡ false → is_plain b ≡ false) where
  entry-also : (secondary : Bool) (token : List ℕ) (e : Entry) → IsEntry a secondary token e
      → IsEntry b secondary token e
  entry-also secondary token e (name, inl h) = (name, inl h)
  entry-also secondary token e (name, inr h) = (name, inr (h.0, bounds h.1, h.2, h.3, h.4, h.5, h.6, h.7))

  use-also : (names : List (List ℕ)) (primaries : ℕ) (token : List ℕ) (u : Written)
      → IsUse (context a names primaries) token u → IsUse (context b names primaries) token u
  use-also names primaries token u (name, i, n, p, q, inl h) = (name, i, n, p, q, inl h)
  use-also names primaries token u (name, i, n, p, q, inr h) = (name, i, n, p, q, inr (h.0, colours h.1, h.2, h.3))

  lines-also : (names : List (List ℕ)) (primaries : ℕ) (ls : List (ℕ × List ℕ)) (ws : List (ℕ × List Written))
      → AllZip (IsOptionLine (context a names primaries)) ls ws
      → AllZip (IsOptionLine (context b names primaries)) ls ws
  lines-also names primaries = zip-weaker (λ l w h. (h.0, zip-weaker (use-also names primaries) _ _ h.1, h.2))

  pub stands-also : (lines : List (List ℕ)) (named : Named) (ignored : List ℕ) → StandsFor a lines named ignored
      → StandsFor b lines named ignored
  stands-also lines named ignored h =
      grind (arith, zip-weaker (entry-also false), zip-weaker (entry-also true), lines-also)
