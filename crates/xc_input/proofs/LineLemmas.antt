-- Lines of a text and its first fault, that what was read is valid, and the pieces in which a source gives a text:
-- for `read`, `Reader`, `Problem` and the sources.
use Rattle.std.proofs.Common.{◌≡◌, ℕ, ◌+◌, List, [], ◌∷◌, ◌++◌, Option, None, Some, Bool, true, false, not, length}
use Rattle.std.proofs.Common.{refl, ap, ◌∙◌, sym, subst, arith, if◌then◌else◌, append-nil, ◌-◌, ◌^◌, Err, min}
use Rattle.std.proofs.Common.{MatchOption, zero, suc, ◌≤◌, map, drop, inl, inr, ◌≢◌, ◌*◌, ◌<◌, AllPairs, ◌⊎◌, nat_lt}
use Rattle.std.proofs.Common.{take, Result, Ok, append_assoc, IfOk, IfErr}
use Rattle.std.proofs.lemmas.Bool.Decides.{nat_tests}
use Rattle.std.specs.List.{list_any, list_all, before_first, after_first, AllByRecursion as Each, enumerate_from}
use Rattle.std.specs.List.{slice_split}
use Rattle.std.specs.Option.{option_map, option_or}
use Rattle.std.proofs.lemmas.Grind.{common_steps, pow_more}
use Rattle.std.proofs.lemmas.List.{length-append, length-map, drop-map, take-map}
use Rattle.std.proofs.lemmas.Option.{slice_get_within, get_or_from_slice_get, MatchOption-at_none}
use Rattle.std.proofs.lemmas.List.Elements.{All-get_or, All-from_recursion, All-nil, All-head, All-tail, All-push}
use Rattle.std.proofs.lemmas.List.Elements.{All-take, All-drop}
use Rattle.std.specs.Prelude.{All, flat_map}
use Rattle.std.proofs.Math.Seq.{drop-append_seam}
use Rattle.std.specs.Char.{is_ascii_digit}
use Rattle.std.specs.Str.{bytes_eq}
use Rattle.std.proofs.lemmas.Bool.{or_parts}
use Rattle.std.proofs.lemmas.List.Folds.{Any-from_list_any}
use Rattle.std.proofs.lemmas.List.Quantifiers.{all_pairs_push}
use Rattle.std.proofs.lemmas.List.Sums.{sum_by-cons}
use Rattle.std.proofs.Math.Nat.{pow-le-pow_right}
use Rattle.std.specs.Result.{result_err}
use Rattle.xc_input.specs.declared.kind.Kind.{Kind}
use Rattle.xc_input.specs.declared.fault.FaultKind.{FaultKind}
use Rattle.xc_text.specs.declared.seed.Seed.{Seed}
use Rattle.xc_input.specs.declared.fault.FaultKind.TheVariants.{NoItems}
use Rattle.xc_text.specs.Words.{has, place, are_digits, number, after, is_space}
use Rattle.xc_input.specs.Tokens.{parts, is_skipped, is_bar, tokens, split_bars}
use Rattle.xc_input.specs.Faults.{first, Context, has_primary, context_of}
use Rattle.xc_input.specs.FirstFault.{line_number, content, line_checks, line_fault, first_fault}
use Rattle.xc_input.specs.Named.{Named, IsName, IsColour, IsUnbroken, IsSound}
use Rattle.xc_input.specs.Text.{StandsFor, IsEntry, IsUse}
use Rattle.xc_input.specs.inner.Stages.{Stage, stage_of, staged_line_checks as stage_checks, staged_line_checks}
use Rattle.xc_input.specs.inner.Stages.{with_line, stage_from, no_stage, names_of, entry, written, with_uses}
use Rattle.xc_input.specs.declared.fault.InputError.{InputError}
use Rattle.xc_input.specs.declared.fault.InputError.TheVariants.{Fault, Device, Memory}
use Rattle.xc_input.specs.declared.line_error.LineError.{LineError}
use Rattle.xc_input.specs.declared.line_error.LineError.TheVariants.{Fault as Bad, Memory as NoMemory}
use Rattle.xc_input.specs.declared.stage.ProblemBuilder.{ProblemBuilder}
use Rattle.xc_input.specs.inner.Builders.{Judged, IsBuilder, stage_of_builder, error_at, entry_of, IsReadable, named_by}
use Rattle.xc_input.specs.inner.Builders.{sheet_of_builder}
use Rattle.xc_input.specs.Readings.{IsStateOf, Reading, error_of}
use Rattle.xc_input.specs.inner.Feeding.{IsErrorOf, IsEndOf, fed, IsBetween, Spoils, Ended, EndsAs, Recent}
use Rattle.xc_text.specs.inner.LineFeeds.{AreWhole, ended}
use Rattle.xc_input.specs.declared.problem.Use.{Use}
use Rattle.xc_input.specs.Problem.{Puzzle, numbered_get, IsValid, IsSoundOption, IsItem, AreSoundBounds, IsSoundUse}
use Rattle.xc_input.specs.Problem.{item_count, use_count}
use Rattle.xc_input.specs.declared.problem.Item.{Item}
use Rattle.xc_input.specs.ItemBounds.{secondary_bounds}
use Rattle.xc_input.specs.Sheets.{Entry, Written, with_colour, colour_number, number_uses}
use Rattle.xc_input.specs.inner.Stored.{IsOptional}
use Rattle.xc_input.specs.Limits.{greatest_bound}
use Rattle.xc_text.specs.Lines.{lines_of}
use Rattle.xc_text.specs.LinesRead.{Advanced, Came, LinesRead}
use Rattle.xc_input.specs.declared.outcome.Read.{Read}
use Rattle.xc_text.specs.Sources.{SourceState, Gave, GaveAll}
use Rattle.xc_input.specs.Pieces.{GaveFaultless, IsOpen, IsWhole, IsPart}
use Rattle.xc_text.specs.Calls.{Rose}
use Rattle.xc_text.specs.declared.line_reader.Unread.{Unread}
use Rattle.xc_text.proofs.ListLemmas.{by_bool, map-map, each_weaker, each-map, each-of, each-append, each-filter}
use Rattle.xc_text.proofs.ListLemmas.{each_passes, each_both, each_front, EachTwo, EachTwo-map, AllPairs-from_each_two}
use Rattle.xc_text.proofs.ListLemmas.{by_option}
use Rattle.xc_input.proofs.FaultLemmas.{first-each, checks-append, first-front}
use Rattle.xc_input.proofs.GrammarLemmas.{AreClear, lines-clear, first-numbered, checks_of, stage_by, stage-by}
use Rattle.xc_input.proofs.GrammarLemmas.{content_from, plain, plain-content, content-checked, start-is, named_of}
use Rattle.xc_input.proofs.GrammarLemmas.{AreItems, clear-stands, stands-clear, sheet-is, entry_bounds, named_in}
use Rattle.xc_input.proofs.GrammarLemmas.{names-are, kept_in, written_in, kept-count, StandFor, AreClearTokens}
use Rattle.xc_input.proofs.GrammarLemmas.{bounds_in, flat, all-counted}
use Rattle.xc_text.proofs.NumberLemmas.{value_from}
use Rattle.xc_input.proofs.TokenLemmas.{apart, unbroken-tokens, unbroken-parts, unbroken-behind}
use Rattle.xc_input.proofs.OptionLemmas.{Knows, met, kept, in-range, colours_more, primary-numbered, before-cons}
use Rattle.indexmap.specs.IndexSet.{hasher_of}
use Rattle.xc_text.specs.declared.line_reader.Unread.TheVariants as unread
use Rattle.xc_text.proofs.LineLemmas.{whole-more, ended-append, lines_of-ended, lines_of-all, last-of-part}
use Rattle.xc_text.proofs.LineLemmas.{lines_of-part, gave_none, came-gave, gave_then}

-- ======== The first fault of a text, by its lines one after another, and that a text has none exactly where it
-- stands for the problem that its lines give.

-- LINES
-- a fault stays the first one, whatever follows
-- with no fault so far, it is that of the next line, by what the lines gave
pub next-fault : (kind : Kind) (lines : List (List ℕ)) (line : List ℕ) → line_fault kind lines ≡ None
    → line_fault kind (lines ++ line ∷ []) ≡ option_map (λ k. (line_number (length lines + 1), k))
    (first (stage_checks kind (stage_of kind lines) line))
next-fault kind lines line e =
    let same = plain-content 1 lines in
    let clear = subst (AreClear kind) same ((lines-clear kind lines).1 e).1 in
    let checks = content-checked kind (content_from 1 lines) line clear in
    let now = first-each (line_checks kind) lines (line ∷ []) e in
    let number = first-numbered (line_number (length lines + 1)) (checks_of kind (content lines) line) in
    grind (arith, append-nil, stage-by)

-- THE TEXT
-- the fault of a text that ends without an item line
abbrev pub end_fault : ℕ → Bool → Option (ℕ × FaultKind)
end_fault n started = (if started then None else Some (line_number (n + 1), NoItems))

started-is : (kind : Kind) (lines : List (List ℕ)) → (stage_of kind lines).started ≡ not (list_all is_skipped lines)
started-is kind lines = ap (λ (st : Stage). st.started) (stage-by kind lines) ∙ of-content 1 lines
  where
    of-content : (k : ℕ) (lines : List (List ℕ)) → (stage_by kind (content_from k lines)).started
        ≡ not (list_all is_skipped lines)
    of-content k [] = refl
    of-content k (line ∷ lines) = by_bool (is_skipped line) (λ f. rw f (of-content (k + 1) lines)) (λ f. rw f)

-- the fault of a whole text is that of its lines, or that the item line isn't there
pub first_fault-is : (kind : Kind) (lines : List (List ℕ)) → first_fault kind lines
    ≡ option_or (line_fault kind lines) (end_fault (length lines) (stage_of kind lines).started)
first_fault-is kind lines = grind (arith, nat_tests, started-is)

none-of : (n : ℕ) (o : Option (ℕ × FaultKind)) (b : Bool) → option_or o (end_fault n b) ≡ None → (o ≡ None) × (b ≡ true)
none-of n None b e = grind (arith, nat_tests)
none-of n (Some q) b e = absurd (cc)

-- a text with no fault stands for what its lines give, by each seed, and its items are those of an item line
abbrev pub Stands : Kind → List (List ℕ) → Stage → Type 0
Stands kind lines st = AreItems kind st.sheet.entries st.sheet.primaries
    × ((seed : Seed) → StandsFor kind lines (named_of seed st.sheet) st.ignored)

pub stands : (kind : Kind) (lines : List (List ℕ)) → first_fault kind lines ≡ None
    → Stands kind lines (stage_of kind lines)
stands kind lines e =
    let a = none-of (length lines) (line_fault kind lines) (stage_of kind lines).started
    (sym (first_fault-is kind lines) ∙ e) in
    let clear = (lines-clear kind lines).1 a.0 in
    rw (stage-by kind lines) (by-content (content_from 1 lines) clear.0 refl (rw stage-by at a.1)
    (rw (plain-content 1 lines) at clear.1))
  where
    by-content : (ls : List (ℕ × List ℕ)) → list_any (has 0) lines ≡ false → content_from 1 lines ≡ ls
        → (stage_by kind ls).started ≡ true → AreClear kind (plain ls) → Stands kind lines (stage_by kind ls)
    by-content [] z d s h = absurd (cc)
    by-content (item ∷ rest) z d s h =
        let t = start-is kind item.1 h.0.0.1 in (
          (parts item.1, h.0.0.1, t.0, t.1),
          λ seed. let s = clear-stands kind item rest seed lines d z h in
              grind (arith, sheet-is kind item rest seed h.0.0.1),
        )

pub faultless-stands : (seed : Seed) (kind : Kind) (lines : List (List ℕ)) → first_fault kind lines ≡ None
    → StandsFor kind lines (named_of seed (stage_of kind lines).sheet) (stage_of kind lines).ignored
faultless-stands seed kind lines e = (stands kind lines e).1 seed

-- a text that stands for a problem has no fault, and this is what its lines give
pub stands-only : (kind : Kind) (lines : List (List ℕ)) (named : Named) (ignored : List ℕ)
    → StandsFor kind lines named ignored
    → (first_fault kind lines ≡ None) × (named ≡ named_of named.seed (stage_of kind lines).sheet)
    × (ignored ≡ (stage_of kind lines).ignored)
stands-only kind lines named ignored h =
    let r = stands-clear kind lines named ignored h in
    let same = stage-by kind lines ∙ ap (stage_by kind) h.content in
    let given = sheet-is kind h.item_line h.option_lines named.seed r.0.0.0.1 in
    let none = (lines-clear kind lines).0
    (h.no_nul, subst (AreClear kind) (sym (plain-content 1 lines ∙ ap plain h.content)) r.0) in
    grind (arith, first_fault-is)

-- ======== The first fault of lines and one more.

stage-snoc : (kind : Kind) (n : ℕ) (stage : Stage) (lines : List (List ℕ)) (line : List ℕ)
    → stage_from kind n stage (lines ++ line ∷ []) ≡ with_line kind (line_number (n + length (lines ++ line ∷ [])))
    (stage_from kind n stage lines) line
stage-snoc kind n stage [] line = refl
stage-snoc kind n stage (l ∷ lines) line =
    grind (arith, stage-snoc kind (n + 1) (with_line kind (line_number (n + 1)) stage l) lines line)

-- an error of some lines is that of all
pub IsErrorOf-more : (kind : Kind) (ls ms : List (List ℕ)) (e : InputError) → IsErrorOf kind ls e
    → IsErrorOf kind (ls ++ ms) e
IsErrorOf-more kind ls ms (Fault n k) h = grind (arith, first, checks-append, first-front)
IsErrorOf-more kind ls ms Device h = h
IsErrorOf-more kind ls ms Memory h = tt

-- one line more, after an error
pub stays : (kind : Kind) (old new : List (List ℕ)) (line : List ℕ) (o : Option InputError) (e : InputError)
    → new ≡ old ++ line ∷ [] → o ≡ Some e → IsStateOf kind old o → IsErrorOf kind new e
stays kind old new line o e f g h = grind (arith, IsErrorOf-more)

pub counts : (old new : List (List ℕ)) (line : List ℕ) (count next : ℕ) → new ≡ old ++ line ∷ []
    → count ≡ line_number (length old) → next ≡ min (count + 1) (2 ^ 64 - 1) → next ≡ line_number (length new)
counts old new line count next f g h = grind (arith, common_steps)

-- one line more, with no error so far
module _ (kind : Kind) (old new : List (List ℕ)) (line : List ℕ) (f : new ≡ old ++ line ∷ []) (o : Option InputError)
    (g : o ≡ None) (h : IsStateOf kind old o) (d : ProblemBuilder)
    (s : MatchOption o (IsBuilder d × (stage_of_builder d ≡ stage_of kind old)) (λ _. Unit {0})) where
  fault-is : line_fault kind new ≡ option_map (λ k. (line_number (length new), k))
      (first (staged_line_checks kind (stage_of_builder d) line))
  fault-is = grind (arith, nat_tests, next-fault, length-append old (line ∷ []))

  pub fails : (count : ℕ) (e : LineError) (T : Type 0) → count ≡ line_number (length new)
      → Judged {T = T} (first (staged_line_checks kind (stage_of_builder d) line)) (Err e)
      → IsErrorOf kind new (error_at count e)
  fails count (Bad k) T c j = fault-is ∙ (λ i. option_map (λ k. (sym c i, k)) (j i))
  fails count NoMemory T c j = tt

  pub goes : first (staged_line_checks kind (stage_of_builder d) line) ≡ None → line_fault kind new ≡ None
  goes j = fault-is ∙ ap (option_map (λ k. (line_number (length new), k))) j

  pub stage-is : (count : ℕ) (d' : ProblemBuilder) → count ≡ line_number (length new) → IsBuilder d'
      × (stage_of_builder d' ≡ with_line kind count (stage_of_builder d) line) → IsBuilder d'
      × (stage_of_builder d' ≡ stage_of kind new)
  stage-is count d' c t = grind (arith, nat_tests, stage-snoc kind 0 no_stage old line)

-- the end of the text
-- the error of the lines is that of the text
pub error-ends : (kind : Kind) (lines : List (List ℕ)) (e : InputError) → IsErrorOf kind lines e → IsEndOf kind lines e
error-ends kind lines (Fault n k) h = grind arith
error-ends kind lines Device h = h
error-ends kind lines Memory h = tt

pub end-is : (kind : Kind) (lines : List (List ℕ)) (b : Bool) (o : Option InputError) → o ≡ None
    → IsStateOf kind lines o → b ≡ (stage_of kind lines).started → first_fault kind lines ≡ end_fault (length lines) b
end-is kind lines b o f h s = grind (arith, first_fault-is)

-- ======== The uses of an option can be told.

pub at_number : {X : Type 0} (P : X → Type 0) (xs : List X) (i : ℕ) (x : X) → All P xs
    → numbered_get xs i ≡ Some x → P x
at_number P xs zero x all e = absurd (cc e)
at_number P xs (suc k) x all e =
    subst P (get_or_from_slice_get xs k x x e) (All-get_or P xs k x (slice_get_within xs k x e) all)

pub known_option : (p : Puzzle) (colours : List (List ℕ)) (o : ℕ) (us : List Use) → IsValid p
    → All (λ us. All (λ u. u.colour ≤ length colours) us) p.options → numbered_get p.options o ≡ Some us
    → All (λ u. IsItem p u.item × (u.colour ≤ length colours)) us
known_option p colours o us valid coloured e =
    let sound = (at_number (IsSoundOption p) p.options o us valid.options e).sound in
    let known = at_number (λ us. All (λ u. u.colour ≤ length colours) us) p.options o us coloured e in
    λ k d within. ((sound k d within).0, known k d within)

-- ======== The problem of a sheet.

-- THE PROBLEM THAT VECTORS HOLD
pub item-names : (items : List Item) → names_of (map entry_of items) ≡ map (λ x. x.name.items) items
item-names items = map-map entry_of (λ e. e.name) items

-- THE ITEM LINE
optional : (kind : Kind) (token : List ℕ) (e : Entry) → IsEntry kind true token e → entry_bounds e ≡ secondary_bounds
optional kind token e (n, inl h) = λ i. record { low = h.1 i; high = h.2 i }
optional kind token e (n, inr h) = let f : true ≡ false = h.2 in absurd (cc)

-- there are so many primary items, and the items behind them may be left out
pub behind-bounds : (kind : Kind) (items : List Item) {n : ℕ} → AreItems kind (map entry_of items) n
    → (n ≤ length items) × All IsOptional (drop n items)
behind-bounds kind items {n} (ps, a, are, k) =
    let IsFree : Entry → Type 0 = λ e. entry_bounds e ≡ secondary_bounds in
    let front = map (entry kind false) (before_first is_bar ps) in
    let back = map (entry kind true) (after_first is_bar ps) in
    let count : n ≡ length front = k ∙ sym (length-map (before_first is_bar ps) _) in
    let same : back ≡ map entry_of (drop n items) = sym (drop-append_seam front back)
    ∙ (λ i. drop (sym count i) (sym are i)) ∙ drop-map entry_of n items in (
      omega (arith, count, ap length are, length-append front back, length-map items entry_of),
      All-from_recursion IsOptional (drop n items) (each-of IsFree entry_of (drop n items)
          (grind (arith, same, each-map, each_weaker, optional))),
    )

-- ======== What stands for a text is sound.

-- LISTS
each-flat : (P : Written → Type 0) (uss : List (List Written)) → Each (Each P) uss → Each P (flat uss)
each-flat P [] a = tt
each-flat P (us ∷ uss) a = each-append P us (flat uss) a.0 (each-flat P uss a.1)

flat-each : (P : Written → Type 0) (uss : List (List Written)) → Each P (flat uss) → Each (Each P) uss
flat-each P [] a = tt
flat-each P (us ∷ uss) a = let both = each_front P us (flat uss) a in (both.0, flat-each P uss both.1)

all-both : {A : Type 0} (P Q : A → Type 0) (xs : List A) → Each (λ x. P x × Q x) xs → All P xs × All Q xs
all-both P Q xs a = (λ k d l. (All-from_recursion _ xs a k d l).0, λ k d l. (All-from_recursion _ xs a k d l).1)

-- NUMBERS
value-below : (n i : ℕ) (xs : List ℕ) → n < 10 ^ i → list_all is_ascii_digit xs ≡ true
    → value_from n xs < 10 ^ (i + length xs)
value-below n i [] h e = let z : i + 0 ≡ i = omega arith in subst (λ k. n < 10 ^ k) (sym z) h
value-below n i (x ∷ xs) h e = grind (arith, nat_tests, value-below (n * 10 + (x - 48)) (i + 1) xs, pow_more)

number-below : (text : List ℕ) → are_digits 9 text ≡ true → number text ≤ greatest_bound
number-below text e = grind (arith, nat_tests, value-below 0 0 text, pow-le-pow_right)

-- ITEMS
bounds-good : (kind : Kind) (ts : List (List ℕ)) → StandFor kind false ts
    → Each (λ b. AreSoundBounds b × (b.high ≤ greatest_bound)) (bounds_in (map (entry kind false) ts))
bounds-good kind [] a = tt
bounds-good kind (t ∷ ts) a = grind (arith, number-below, nat_tests, bounds-good kind ts a.1)

-- the name of an item
abbrev IsGoodName : List ℕ → Type 0
IsGoodName name = IsName name × IsUnbroken name

entries-good : (kind : Kind) (sec : Bool) (ts : List (List ℕ)) → All IsUnbroken ts → StandFor kind sec ts
    → Each (λ e. IsGoodName e.name) (map (entry kind sec) ts)
entries-good kind sec [] u a = tt
entries-good kind sec (t ∷ ts) u a =
    let here = All-head IsUnbroken t ts u in
    grind (arith, unbroken-behind, entries-good kind sec ts (All-tail IsUnbroken t ts u) a.1)

-- tokens with bytes, the first of which is no bar, begin with an item
some-primary : (ts : List (List ℕ)) → Each (λ t. nat_lt 0 (length t) ≡ true) ts → list_all is_bar (take 1 ts) ≡ false
    → 1 ≤ length (before_first is_bar (flat_map split_bars ts))
some-primary [] a f = absurd (cc)
some-primary ([] ∷ ts) a f = absurd (let e : false ≡ true = a.0 in cc)
some-primary ((b ∷ bs) ∷ ts) a f = grind (arith, common_steps, nat_tests, by_bool, before-cons)

-- USES AND COLOURS
-- a colour that stands in a text
abbrev IsGoodColour : List ℕ → Type 0
IsGoodColour colour = IsColour colour × IsUnbroken colour

abbrev IsGoodUse : Context → Written → Type 0
IsGoodUse c u = (1 ≤ u.item) × (u.item ≤ length c.names) × (u.item ≤ c.primaries → u.colour ≡ [])
    × ((u.colour ≡ []) ⊎ IsGoodColour u.colour)

use-good : (c : Context) (token : List ℕ) (u : Written) → IsUnbroken token → IsUse c token u → IsGoodUse c u
use-good c token u k (name, i, n, p, q, h) = grind (arith, in-range, unbroken-behind)

-- colours that stand in texts, no two of which are the same
abbrev AreGood : List (List ℕ) → Type 0
AreGood cs = All IsColour cs × All IsUnbroken cs × AllPairs (λ x y. x ≢ y) cs

good-more : (cs : List (List ℕ)) (x : List ℕ) → (x ≡ []) ⊎ IsGoodColour x → AreGood cs → AreGood (with_colour cs x)
good-more cs [] k g = g
good-more cs (b ∷ bs) (inl e) g = absurd (cc)
good-more cs (b ∷ bs) (inr k) g =
    let x = b ∷ bs in
    let new = all_pairs_push (λ x y. x ≢ y) cs x g.2 in
    by_option (place cs (b ∷ bs))
    (λ e. rw e (All-push IsColour cs x g.0 k.0, All-push IsUnbroken cs x g.1 k.1, new (apart cs x e))) (λ i e. rw e g)

good-colours : (c : Context) (us : List Written) (cs : List (List ℕ)) → Each (IsGoodUse c) us → AreGood cs
    → AreGood (with_uses cs us)
good-colours c [] cs a g = g
good-colours c (u ∷ us) cs a g = good-colours c us (with_colour cs u.colour) a.1 (good-more cs u.colour a.0.3 g)

few-colours : (us : List Written) (cs : List (List ℕ)) → length (with_uses cs us) ≤ length cs + length us
few-colours [] cs = omega arith
few-colours (u ∷ us) cs = omega (arith, few-colours us (with_colour cs u.colour), colours_more cs u.colour)

number-within : (cs : List (List ℕ)) (c : List ℕ) → Knows cs c → colour_number cs c ≤ length cs
number-within cs [] k = omega arith
number-within cs (b ∷ bs) (i, e) = rw e (omega (arith, in-range (bytes_eq (b ∷ bs)) cs i e))

numbers-within : (us : List Written) (cs : List (List ℕ))
    → Each (λ u. colour_number (with_uses cs us) u.colour ≤ length (with_uses cs us)) us
numbers-within [] cs = tt
numbers-within (u ∷ us) cs = search (arith, number-within, kept, met, numbers-within us (with_colour cs u.colour))

-- OPTIONS
abbrev IsGoodOption : Context → List Written → Type 0
IsGoodOption c us = Each (IsGoodUse c) us × EachTwo (λ u v. u.item ≢ v.item) us

no-more : (p : Puzzle) (os : List (List Use)) → Each (IsSoundOption p) os → length os ≤ use_count os
no-more p [] a = omega arith
no-more p (o ∷ os) a = grind (arith, common_steps, sum_by-cons, no-more p os a.1)

-- LINES
-- a line without a NUL byte and a line feed
abbrev IsClean : ℕ × List ℕ → Type 0
IsClean line = (has 0 line.1 ≡ false) × (has 10 line.1 ≡ false)

clean : (k : ℕ) (lines : List (List ℕ)) → list_any (has 0) lines ≡ false → AreWhole lines
    → Each IsClean (enumerate_from k lines)
clean k [] z w = tt
clean k (line ∷ lines) z w =
    let y = or_parts (has 0 line) (list_any (has 0) lines) z in ((y.0, w.0), clean (k + 1) lines y.1 w.1)

-- the options of clear lines
module _ (c : Context) (rest : List (ℕ × List ℕ)) (w : Each IsClean rest)
    (h : Each (λ line. AreClearTokens c (tokens line)) (plain rest)) where
  abbrev uss : List (List Written)
  uss = kept_in c rest

  abbrev cs : List (List ℕ)
  cs = with_uses [] (flat uss)

  lines-good : Each (λ o. IsGoodOption c o.1) (written_in c rest)
  lines-good = each-map _ _ rest (each_both _ _ _ rest (λ l t w. (
    each-map _ (written c.names) (tokens l.1) (each_both _ _ _ (tokens l.1) (λ t i u. use-good c t _ u i) t.0
        (unbroken-tokens l.1 w.0 w.1)),
    t.1,
  )) (each-of (λ line. AreClearTokens c (tokens line)) (λ l. l.1) rest h) w)

  options-good : Each (λ us. IsGoodOption c us × (has_primary c.primaries us ≡ true)) uss
  options-good = grind (arith, each-map, each_both, each-filter, lines-good, each_passes)

  colours-good : AreGood cs
  colours-good = good-colours c (flat uss) [] (each-flat _ uss (each_weaker _ _ uss (λ us g. g.0.0) options-good))
      (All-nil IsColour, All-nil IsUnbroken, λ i j d lt within. absurd (omega (arith, within)))

  module _ (p : Puzzle) (count : length c.names ≡ item_count p) (front : c.primaries ≡ length p.bounds) where
    sound-option : (us : List Written) → IsGoodOption c us → has_primary c.primaries us ≡ true
        → IsSoundOption p (number_uses cs us)
    sound-option us g e =
        let sound : (u : Written) → IsGoodUse c u
        → IsSoundUse p (record { item = u.item; colour = colour_number cs u.colour }) = λ u h. grind arith in
        let some = Any-from_list_any _ (number_uses cs us) (primary-numbered c.primaries cs us ∙ e) in
        record {
          sound = All-from_recursion _ _ (each-map (IsSoundUse p) _ us (each_weaker (IsGoodUse c) _ us sound g.0));
          distinct = AllPairs-from_each_two _ _ (EachTwo-map (λ u v. u.item ≢ v.item) _ us g.1);
          one_primary = (some.0, some.1, some.2, some.3, grind (arith, nat_tests, front));
        }

    options-sound : Each (λ os. IsSoundOption p os × All (λ u. u.colour ≤ length cs) os) (map (number_uses cs) uss)
    options-sound = each-map _ _ uss (each_both _ _ _ uss (λ us g k. (
      sound-option us g.0 g.1,
      All-from_recursion _ _ (each-map (λ u. u.colour ≤ length cs) _ us k),
    )) options-good (flat-each _ uss (numbers-within (flat uss) [])))

pub sound : (kind : Kind) (lines : List (List ℕ)) (named : Named) (ignored : List ℕ)
    → StandsFor kind lines named ignored → AreWhole lines → IsSound named
sound kind lines named ignored s w =
    let item = s.item_line in
    let rest = s.option_lines in
    let ps = parts item.1 in
    let c = context_of kind ps in
    let p = (named_in kind item rest named.seed).puzzle in
    let h = stands-clear kind lines named ignored s in
    let w : Each IsClean (item ∷ rest) = grind (arith, each-filter, s, clean) in
    let one = some-primary (tokens item.1) (each_passes _ (slice_split is_space item.1))
    (grind (arith, each_passes, s, nat_tests)) in
    let unbroken = All-from_recursion IsUnbroken ps (unbroken-parts item.1 w.0.0 w.0.1) in
    let front = entries-good kind false _ (All-take IsUnbroken _ ps unbroken) h.0.0.0.0 in
    let back = entries-good kind true _ (All-drop IsUnbroken _ ps unbroken) h.0.0.0.1 in
    let entries = each-map IsGoodName (λ e. e.name) _ (each-append _ _ _ front back) in
    let names = all-both IsName IsUnbroken c.names (rw (names-are kind item rest h.0.0.0.1) entries) in
    let distinct = AllPairs-from_each_two _ _ h.0.0.1 in
    let bounds = all-both AreSoundBounds (λ b. b.high ≤ greatest_bound) p.bounds (bounds-good kind _ h.0.0.0.0) in
    let primaries : c.primaries ≡ length p.bounds = grind (arith, length-map) in
    let items : length c.names ≡ item_count p = grind (arith, length-map, length-append) in
    let sound = options-sound c rest w.1 h.0.1.0 p items primaries in
    let options = all-both (IsSoundOption p) _ _ sound in
    let few = no-more p p.options (each_weaker _ _ _ (λ o g. g.0) sound) in
    let count = all-counted (named_in kind item rest named.seed).colours (kept_in c rest) in
    let kept = kept-count c rest in
    let colours = colours-good c rest w.1 h.0.1.0 in
    let met = few-colours (flat (kept_in c rest)) [] in
    subst IsSound (sym h.1) (search arith)

-- ======== The answer at the end of a text.

pub refutes : (kind : Kind) (lines : List (List ℕ)) (e : InputError) → IsEndOf kind lines e → e ≢ Memory
    → (p : Named) (ig : List ℕ) → StandsFor kind lines p ig → ⊥
refutes kind lines (Fault n k) h f p ig s = grind (arith, stands-only kind lines p ig s)
refutes kind lines Device h f p ig s = absurd h
refutes kind lines Memory h f p ig s = absurd (f refl)

by-builder : (d : ProblemBuilder) (seed : Seed)
    → named_of seed (sheet_of_builder d) ≡ record (named_by d) { seed = seed }
by-builder d seed = grind (arith, item-names, length-map, take-map, map-map, nat_tests)

module _ {v : Reading} {kind : Kind} {seeds : Seed × Seed} {lines : List (List ℕ)} {o : Option InputError}
    (is : v ≡ record { kind = kind; seeds = seeds; lines = lines; error = o }) (h : IsStateOf kind lines o) where
  -- what a reading stands for, its lines do
  StandsFor-given : {p : Named} {ig : List ℕ} → StandsFor v.kind v.lines p ig → StandsFor kind lines p ig
  StandsFor-given {p} {ig} = subst (λ (r : Reading). StandsFor r.kind r.lines p ig) is

  pub refuses : (e : InputError) → o ≡ Some e → e ≢ Memory → (p : Named) (ig : List ℕ)
      → StandsFor v.kind v.lines p ig → ⊥
  refuses e f w p ig s = refutes kind lines e (grind (arith, error-ends)) w p ig (StandsFor-given s)

  module _ (f : o ≡ None) (d : ProblemBuilder)
      (m : MatchOption o (IsBuilder d × (stage_of_builder d ≡ stage_of kind lines)) (λ _. Unit {0})) where
    whole : IsBuilder d × (stage_of_builder d ≡ stage_of kind lines)
    whole = MatchOption-at_none _ (λ _. Unit {0}) f m

    end_met : {b : Bool} → d.started ≡ b → first_fault kind lines ≡ end_fault (length lines) b
    end_met g = end-is kind lines _ o f h (sym g ∙ ap (λ (st : Stage). st.started) whole.1)

    pub no-items : d.started ≡ false → (count next : ℕ) → count ≡ line_number (length lines)
        → next ≡ min (count + 1) (2 ^ 64 - 1) → first_fault v.kind v.lines ≡ Some (next, NoItems)
    no-items g count next c s = grind (arith, is, end_met g)

    pub unstarted : d.started ≡ false → (p : Named) (ig : List ℕ) → StandsFor v.kind v.lines p ig → ⊥
    unstarted g p ig s = grind (arith, stands-only kind lines p ig (StandsFor-given s), end_met g)

    pub alone : (p : Named) (ig : List ℕ) → StandsFor v.kind v.lines p ig
        → (p ≡ record (named_by d) { seed = p.seed }) × (ig ≡ d.ignored.items)
    alone p ig s = grind (arith, stands-only kind lines p ig (StandsFor-given s), by-builder d p.seed, whole)

    module _ (g : d.started ≡ true) where
      stood : Stands kind lines (stage_of_builder d)
      stood = subst (Stands kind lines) (sym whole.1) (stands kind lines (end_met g))

      pub accepts : StandsFor v.kind v.lines (named_by d) d.ignored.items
      accepts = rw (is, ← (by-builder d (hasher_of d.tables.names))) (stood.1 (hasher_of d.tables.names))

      pub is-sound : AreWhole lines → IsSound (named_by d)
      is-sound w = sound kind lines (named_by d) d.ignored.items (StandsFor-given accepts) w

      pub readable : AreWhole lines → IsReadable d
      readable w =
          let names = whole.0.names ∙ item-names d.items.items in
          let items = behind-bounds kind d.items.items stood.0 in
          let starts = whole.0.starts g in
          let holds = is-sound w in
          let seed = whole.0.tables.seed in search

-- ======== What a text's lines are, once some of them were handed on.

-- and of the bytes of some lines
Spoils-ended : (kind : Kind) (ls : List (List ℕ)) (e : InputError) (bytes : List ℕ) → AreWhole ls → bytes ≡ ended ls
    → IsErrorOf kind ls e → Spoils kind bytes e
Spoils-ended kind ls e bytes w f h = grind (arith, lines_of-ended, IsErrorOf-more)

pub Spoils-more : (kind : Kind) (bytes more all : List ℕ) (e : InputError) → all ≡ bytes ++ more → Spoils kind bytes e
    → Spoils kind all e
Spoils-more kind bytes more all e f h =
    λ others. subst (λ bs. IsErrorOf kind (lines_of bs) e)
    (sym (ap (λ bs. bs ++ others) f ∙ append_assoc bytes more others)) (h (more ++ others))

-- the answer to a line
pub ends : (old new : Reading) (line bytes : List ℕ) (r : Result (Unit {0}) InputError) → IsBetween old []
    → has 10 line ≡ false → bytes ≡ line ++ 10 ∷ [] → new.kind ≡ old.kind
    → new.lines ≡ old.lines ++ line ∷ [] → new.error ≡ result_err r → IsStateOf new.kind new.lines (result_err r)
    → Ended old new bytes r
ends old new line bytes r b l f k g e s =
    let w = whole-more old.lines new.lines line g b.whole l in
    by-result r e s w (grind (arith, nat_tests, append_assoc, ended-append, append-nil))
  where
    by-result : (r : Result (Unit {0}) InputError) → new.error ≡ result_err r
        → IsStateOf new.kind new.lines (result_err r) → AreWhole new.lines
        → fed old [] ++ bytes ≡ ended new.lines → Ended old new bytes r
    by-result (Ok x) e s w a = grind (arith, append-nil)
    by-result (Err x) e s w a = record {
      bytes = tt;
      state = tt;
      err = rw (← k) (Spoils-ended new.kind new.lines x _ w a s);
    }

-- ======== What a source gave, piece after piece.

-- what a reader was given has no fault, where no error is known
pub faultless : (kind : Kind) (reading : Reading) (carry : List ℕ) {a b : SourceState} → reading.kind ≡ kind
    → IsBetween reading carry → Gave a b (fed reading carry) → GaveFaultless kind a b
faultless kind reading carry is between gave = grind (arith, ended, lines_of-all)

-- want of memory before the first read
pub part-none : (kind : Kind) (a : SourceState) → IsPart kind a a Memory
part-none kind a =
    let none : GaveFaultless kind a a =
    record { front = []; part = []; gave = gave_none a; no_fault = refl; partial = refl } in
    ([], a, [], inl (gave_none a), refl, none, sym (append-nil a.given), omega arith)

-- the answer at the end of the input
pub whole-last : {kind : Kind} {a c : SourceState} {bytes : List ℕ} (r : Result Read InputError)
    → EndsAs kind (lines_of bytes) r → GaveAll a c bytes → IfOk r (λ x. IsWhole kind a c x.problem x.ignored.items)
whole-last {bytes = bytes} (Ok x) h g = record { bytes = bytes; gave = g; text = h.accepted }
whole-last (Err e) h g = tt

pub part-last : {kind : Kind} {a c : SourceState} {bytes : List ℕ} (r : Result Read InputError)
    → EndsAs kind (lines_of bytes) r → (result_err r ≡ Some Memory → IsOpen bytes) → (g : GaveAll a c bytes)
    → GaveFaultless kind a g.before → IfErr r (IsPart kind a c)
part-last (Ok x) h m g f = tt
part-last {bytes = bytes} (Err (Fault n k)) h m g f = (bytes, inl (g, h.first))
part-last (Err Device) h m g f = absurd h.first
part-last {bytes = bytes} (Err Memory) h m g f =
    (bytes, g.before, [] ∷ [], inr (g, m refl), g.no_failure, f, g.ended, omega arith)

-- what is carried on ends within a line
pub open-carry : (reading : Reading) (carry : List ℕ) → IsBetween reading carry → 0 < length carry
    → IsOpen (fed reading carry)
open-carry reading carry between some =
    grind (arith, nat_tests, last-of-part carry between.partial some, append_assoc (ended reading.lines))

-- what was given before the first read
pub recent_none : (kind : Kind) (a : SourceState) → Recent kind a a
recent_none kind a = record {
  before = a;
  last = [];
  faultless = record { front = []; part = []; gave = gave_none a; no_fault = refl; partial = refl };
  added = sym (append-nil a.given);
  short = omega arith;
}

-- the same reader, with a part of a line
pub within : (reading : Reading) → IsBetween reading [] → (part : List ℕ) → has 10 part ≡ false → IsBetween reading part
within reading between part partial = record {
  no_error = between.no_error;
  no_fault = between.no_fault;
  whole = between.whole;
  partial = partial;
}

-- reads behind lines without a fault
pub recent-came : (kind : Kind) (reading : Reading) (left bytes : List ℕ) {a b c : SourceState} → reading.kind ≡ kind
    → IsBetween reading [] → Gave a b (fed reading left) → Recent kind a b → Came left b c bytes → Recent kind a c
recent-came kind reading left bytes {a = a} {b = b} is between g r (inl h) = subst (Recent kind a) (sym h.0) r
recent-came kind reading left bytes {a = a} {b = b} is between g r (inr h) = record {
  before = h.before;
  last = h.piece ∷ [];
  faultless = faultless kind reading (left ++ h.front) is (within reading between (left ++ h.front) h.partial)
      (subst (Gave a h.before) (append_assoc (ended reading.lines) left h.front)
      (gave_then a b h.before (fed reading left) h.front g h.gave));
  added = h.added;
  short = omega arith;
}

-- want of memory
pub part-memory : (kind : Kind) {a c : SourceState} (bytes : List ℕ) → Gave a c bytes → c.failures ≡ a.failures
    → Recent kind a c → IsPart kind a c Memory
part-memory kind bytes g same r = (bytes, r.before, r.last, inl g, same, r.faultless, r.added, r.short)

-- a failed read, or want of memory before it
pub part-unread : (kind : Kind) (reading : Reading) (old new : LinesRead) {a : SourceState} (b c : SourceState)
    (e : Unread) → reading.kind ≡ kind → IsBetween reading [] → b.failures ≡ a.failures
    → Gave a b (fed reading old.unread) → Recent kind a b → Advanced old new b c (Err e) → IsPart kind a c (error_of e)
part-unread kind reading old new {a = a} b c unread.Device is between same g r h = (
  faultless kind reading (old.unread ++ h.0) is (within reading between (old.unread ++ h.0) h.2)
      (subst (Gave a c) (append_assoc (ended reading.lines) old.unread h.0)
      (gave_then a b c (fed reading old.unread) h.0 g h.1)),
  subst (λ n. Rose n c.failures) same h.3,
)
part-unread kind reading old new {a = a} b c unread.Memory is between same g r h =
    part-memory kind (fed reading old.unread ++ h.0) (gave_then a b c (fed reading old.unread) h.0 g (came-gave h.1))
    (h.2 ∙ same) (recent-came kind reading old.unread h.0 is between g r h.1)

-- a line more was taken
pub fed-on : (old new : Reading) (left bytes line unread : List ℕ) → left ++ bytes ≡ line ++ unread
    → fed new [] ≡ fed old [] ++ line → fed old left ++ bytes ≡ fed new unread
fed-on old new left bytes line unread e f = grind (arith, append_assoc, append-nil)

-- and what was left behind it
pub fed-line : (old : Reading) (left bytes line unread : List ℕ) → left ++ bytes ≡ line ++ unread
    → fed old left ++ bytes ≡ (fed old [] ++ line) ++ unread
fed-line old left bytes line unread e = grind (arith, append_assoc, append-nil)

-- a fault that came before the end
pub part-spoiled : (kind : Kind) {a c : SourceState} {bytes : List ℕ} (e : InputError) → Spoils kind bytes e
    → Gave a c bytes → c.failures ≡ a.failures → Recent kind a c → IsPart kind a c e
part-spoiled kind {bytes = bytes} (Fault n k) h g same r =
    (bytes, inr (g, same, λ more. error-ends kind (lines_of (bytes ++ more)) (Fault n k) (h more)))
part-spoiled kind Device h g same r = absurd (h [])
part-spoiled kind {bytes = bytes} Memory h g same r = part-memory kind bytes g same r

-- ======== What the end of a source says of its text.

pub ends-as : (kind now : Kind) (lines told : List (List ℕ)) (r : Result Read InputError) → now ≡ kind → told ≡ lines
    → EndsAs now told r → EndsAs kind lines r
ends-as kind now lines told r e f h = subst (λ k. EndsAs k lines r) e (subst (λ ls. EndsAs now ls r) f h)

pub line-ends : (kind : Kind) (lines : List (List ℕ)) (e : InputError) → IsErrorOf kind lines e
    → EndsAs kind lines (Err e)
line-ends kind lines e h =
    grind (arith, nat_tests, error-ends kind lines e h, refutes kind lines e (error-ends kind lines e h))

-- the lines of what was fed
pub last-part : (reading : Reading) (carry : List ℕ) (after : List (List ℕ)) → IsBetween reading carry
    → 0 < length carry → after ≡ reading.lines ++ carry ∷ [] → after ≡ lines_of (fed reading carry)
last-part reading carry after between some e = grind (arith, lines_of-ended, lines_of-part)
