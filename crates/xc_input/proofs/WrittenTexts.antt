-- Each sound problem has a text: its items and options, written down.
use Prim.Native.Char.{code}
use Rattle.std.proofs.Common.{◌≡◌, ℕ, List, [], ◌∷◌, refl, ap, ◌∙◌, sym, subst, arith, map, flat_map, get_or, ◌<◌, ◌++◌}
use Rattle.std.proofs.Common.{Bool, true, false, length, filter, nat_lt, nat_eq, ◌≤◌, drop, inl, zero, suc, ◌+◌, Some}
use Rattle.std.proofs.Common.{inr, ◌≢◌, not}
use Rattle.std.specs.Prelude.{unwrap_or, decimal, slice_get, codes}
use Rattle.std.specs.List.{AllByRecursion as Each, list_any, slice_split, position_or_len, before_first, after_first}
use Rattle.std.specs.List.{AllZip, enumerate_from}
use Rattle.std.proofs.lemmas.List.{map-append, length-append, append-nil, length-map, length-drop}
use Rattle.std.proofs.lemmas.List.Quantifiers.{position-Some}
use Rattle.std.proofs.lemmas.Option.{unwrap_or-slice_get, slice_get-get_or}
use Rattle.std.proofs.lemmas.Slice.Eq.{bytes_eq-Decides}
use Rattle.std.proofs.Math.Seq.{take-append_seam, drop-append-add}
use Rattle.std.proofs.lemmas.Bool.Decides.{nat_tests}
use Rattle.std.proofs.lemmas.List.Folds.{list_any-append}
use Rattle.std.specs.Char.{is_ascii_digit}
use Rattle.std.proofs.lemmas.Grind.{common_steps}
use Rattle.std.proofs.lemmas.List.Elements.{recursion_from_All}
use Rattle.std.proofs.lemmas.List.Sums.{sum_by-cons}
use Rattle.xc_input.specs.declared.kind.Kind.{Kind}
use Rattle.xc_input.specs.Problem.{numbered_get, item_count, primary_count, IsSoundUse, IsSoundOption, use_count}
use Rattle.xc_input.specs.Named.{Named, IsName, IsUnbroken, IsColour, IsSound}
use Rattle.xc_input.specs.Sheets.{Written, with_colour, colours_of, colour_number, number_uses, Entry}
use Rattle.xc_input.specs.Text.{StandsFor, IsEntry, IsUse, IsOptionLine, AreItems, AreOptions}
use Rattle.xc_input.specs.Laws.{AreMetInOrder}
use Rattle.xc_input.specs.declared.problem.Use.{Use}
use Rattle.xc_input.specs.inner.Stages.{with_uses}
use Rattle.xc_text.specs.Words.{is_space, has, place}
use Rattle.xc_input.specs.Tokens.{tokens, parts, split_bars, is_bar, is_skipped}
use Rattle.xc_input.specs.declared.kind.Kind.TheVariants.{Bounds as ByBounds}
use Rattle.xc_input.specs.declared.problem.Bounds.{Bounds}
use Rattle.xc_input.specs.Limits.{greatest_bound}
use Rattle.xc_input.specs.Faults.{Context, has_primary}
use Rattle.xc_text.specs.Lines.{lines_of}
use Rattle.xc_input.specs.FirstFault.{line_number}
use Rattle.xc_text.specs.inner.LineFeeds.{AreWhole, ended}
use Rattle.xc_input.proofs.OptionLemmas.{Knows, met, kept}
use Rattle.xc_input.proofs.TokenLemmas.{number-decimal, are_digits-decimal, lacks-decimal, distinct-place}
use Rattle.xc_text.proofs.LineLemmas.{lines_of-all}
use Rattle.xc_text.proofs.ListLemmas.{each-append, each-map, each_weaker, AllPairs-from_each_two}
use Rattle.xc_text.proofs.ListLemmas.{each_two_from_AllPairs, EachTwo-map}

-- ======== The colours of each problem that lines stand for are numbered as its uses meet them.

-- a use as an option line writes it
abbrev pub written_use : List (List ℕ) → Use → Written
written_use colours u = record { item = u.item; colour = unwrap_or (numbered_get colours u.colour) [] }

all-known : (cs : List (List ℕ)) (us : List Written) → Each (λ u. Knows (with_uses cs us) u.colour) us
all-known cs [] = tt
all-known cs (u ∷ us) = grind (arith, kept, met, all-known (with_colour cs u.colour) us)

-- a known colour is that of its number
known-back : (cs : List (List ℕ)) (c : List ℕ) → Knows cs c → unwrap_or (numbered_get cs (colour_number cs c)) [] ≡ c
known-back cs [] k = refl
known-back cs (b ∷ bs) (i, e) = grind (arith, get_or, position-Some, bytes_eq-Decides, unwrap_or-slice_get)

written-back : (cs : List (List ℕ)) (us : List Written) → Each (λ u. Knows cs u.colour) us
    → map (written_use cs) (number_uses cs us) ≡ us
written-back cs [] g = refl
written-back cs (u ∷ us) g = λ i.
    (record { item = u.item; colour = known-back cs u.colour g.0 i }) ∷ written-back cs us g.1 i

-- the uses of options that are written so are numbered as the options are
flat-numbers : (cs : List (List ℕ)) (os : List (List Written)) → number_uses cs (flat_map (λ us. us) os)
    ≡ flat_map (λ us. us) (map (number_uses cs) os)
flat-numbers cs [] = refl
flat-numbers cs (us ∷ os) = grind (arith, map-append, flat-numbers cs os)

pub in-order : (kind : Kind) (lines : List (List ℕ)) (a : Named) (ignored : List ℕ) → StandsFor kind lines a ignored
    → AreMetInOrder a
in-order kind lines a ignored s = grind (arith, flat-numbers)

-- and then they are those of the problem's uses as lines write them
pub met-by-uses : (a : Named) → AreMetInOrder a
    → a.colours ≡ colours_of (map (written_use a.colours) (flat_map (λ us. us) a.puzzle.options))
met-by-uses a m =
    let known : Each (λ u. Knows a.colours u.colour) m.0 =
    subst (λ cs. Each (λ u. Knows cs u.colour) m.0) (sym m.1) (all-known [] m.0) in
    m.1 ∙ ap colours_of (sym (ap (λ us. map (written_use a.colours) us) (sym m.2) ∙ written-back a.colours m.0 known))

-- ======== Words with a space before each: the tokens of such a line are these words.

-- bytes, none of which is white space, a NUL byte or a line feed
pub record IsWord (w : List ℕ) : Type 0 where
  pub some : 0 < length w
  pub no_space : list_any is_space w ≡ false
  pub no_nul : has 0 w ≡ false
  pub no_feed : has 10 w ≡ false

-- a space before each word
abbrev pub spaced : List (List ℕ) → List ℕ
spaced [] = []
spaced (w ∷ ws) = code " " ∷ w ++ spaced ws

-- a word at the front
pub split-front : (p : ℕ → Bool) (w rest : List ℕ) (ws : List (List ℕ)) → list_any p w ≡ false
    → slice_split p rest ≡ [] ∷ ws → slice_split p (w ++ rest) ≡ w ∷ ws
split-front p [] rest ws h e = e
split-front p (b ∷ w) rest ws h e = grind (arith, nat_tests, split-front p w rest ws)

split-spaced : (ws : List (List ℕ)) → Each IsWord ws → slice_split is_space (spaced ws) ≡ [] ∷ ws
split-spaced [] a = refl
split-spaced (w ∷ ws) a = grind (arith, split-front, split-spaced ws a.1)

some-words : (ws : List (List ℕ)) → Each IsWord ws → filter (λ w. nat_lt 0 (length w)) ws ≡ ws
some-words [] a = refl
some-words (w ∷ ws) a = grind (arith, nat_tests, some-words ws a.1, a.0.some)

pub tokens-spaced : (ws : List (List ℕ)) → Each IsWord ws → tokens (spaced ws) ≡ ws
tokens-spaced ws a = grind (arith, nat_tests, split-spaced ws a, some-words ws a)

-- no word has the byte, nor is it a space
pub lacks-spaced : (b : ℕ) (ws : List (List ℕ)) → nat_eq (code " ") b ≡ false → Each (λ w. has b w ≡ false) ws
    → has b (spaced ws) ≡ false
lacks-spaced b [] h a = refl
lacks-spaced b (w ∷ ws) h a = grind (arith, list_any-append, lacks-spaced b ws h a.1)

-- a word that no bar begins is one part, and so is a bar
abbrev pub IsPart : List ℕ → Type 0
IsPart w = split_bars w ≡ w ∷ []

parts-of : (ws : List (List ℕ)) → Each IsPart ws → flat_map split_bars ws ≡ ws
parts-of [] a = refl
parts-of (w ∷ ws) a = grind (arith, parts-of ws a.1, a.0)

pub parts-spaced : (ws : List (List ℕ)) → Each IsWord ws → Each IsPart ws → parts (spaced ws) ≡ ws
parts-spaced ws a b = grind (arith, tokens-spaced ws a, parts-of ws b)

pub no_bar-part : (w : List ℕ) → 0 < length w → is_bar w ≡ false → IsPart w
no_bar-part [] h e = absurd (omega (arith, h))
no_bar-part (b ∷ bs) h e = grind (arith, nat_tests)

bar-place : (ps qs : List (List ℕ)) (bar : List ℕ) → Each (λ p. is_bar p ≡ false) ps → is_bar bar ≡ true
    → position_or_len is_bar (ps ++ bar ∷ qs) ≡ length ps
bar-place [] qs bar a e = grind (arith, e)
bar-place (p ∷ ps) qs bar a e = grind (arith, nat_tests, bar-place ps qs bar a.1 e, a.0)

-- the parts before a bar and after it
pub cut-at_bar : (ps qs : List (List ℕ)) (bar : List ℕ) → Each (λ p. is_bar p ≡ false) ps → is_bar bar ≡ true
    → (before_first is_bar (ps ++ bar ∷ qs) ≡ ps) × (after_first is_bar (ps ++ bar ∷ qs) ≡ qs)
cut-at_bar ps qs bar a e = grind (arith, bar-place, take-append_seam, drop-append-add)

-- ======== The item line of a problem: each primary item with both bounds, a bar, and the secondary items.

-- the bounds of an item, and a bar and its name after them
abbrev pub bounds_word : Bounds → List ℕ
bounds_word b = decimal b.low ++ code ":" ∷ decimal b.high

abbrev pub item_word : Bounds → List ℕ → List ℕ
item_word b name = bounds_word b ++ code "|" ∷ name

abbrev pub item_words : List Bounds → List (List ℕ) → List (List ℕ)
item_words [] ns = []
item_words (b ∷ bs) [] = []
item_words (b ∷ bs) (n ∷ ns) = item_word b n ∷ item_words bs ns

-- what these stand for
abbrev pub primary_entries : List Bounds → List (List ℕ) → List Entry
primary_entries [] ns = []
primary_entries (b ∷ bs) [] = []
primary_entries (b ∷ bs) (n ∷ ns) = record { name = n; low = b.low; high = b.high } ∷ primary_entries bs ns

abbrev pub secondary_entry : List ℕ → Entry
secondary_entry n = record { name = n; low = 0; high = 1 }

-- bounds that a text may have
pub record AreWritable (b : Bounds) : Type 0 where
  pub order : b.low ≤ b.high
  pub some : 1 ≤ b.high
  pub few : b.high ≤ greatest_bound

-- a name that a text may have
pub record IsPlainName (n : List ℕ) : Type 0 where
  pub name : IsName n
  pub unbroken : IsUnbroken n

lacks-bounds : (p : ℕ → Bool) → ((b : ℕ) → is_ascii_digit b ≡ true → p b ≡ false) → p (code ":") ≡ false → (b : Bounds)
    → AreWritable b → list_any p (bounds_word b) ≡ false
lacks-bounds p apart colon b w = grind (arith, lacks-decimal, list_any-append)

pub front-bar : (xs ys : List ℕ) → 0 < length xs → has (code "|") xs ≡ false → is_bar (xs ++ ys) ≡ false
front-bar [] ys h e = absurd (omega (arith, h))
front-bar (x ∷ xs) ys h e = grind (arith, nat_tests, e)

pub primary-stand : (bs : List Bounds) (ns : List (List ℕ)) → Each AreWritable bs → Each IsPlainName ns
    → AllZip (IsEntry ByBounds false) (item_words bs ns) (primary_entries bs ns)
primary-stand [] ns w g = tt
primary-stand (b ∷ bs) [] w g = tt
primary-stand (b ∷ bs) (n ∷ ns) w g =
    grind (arith, are_digits-decimal, number-decimal, lacks-bounds, primary-stand bs ns w.1 g.1)

pub secondary-stand : (ns : List (List ℕ)) → Each IsPlainName ns
    → AllZip (IsEntry ByBounds true) ns (map secondary_entry ns)
secondary-stand [] g = tt
secondary-stand (n ∷ ns) g = ((g.0.name, inl (refl, refl, refl)), secondary-stand ns g.1)

pub words-good : (bs : List Bounds) (ns : List (List ℕ)) → Each AreWritable bs → Each IsPlainName ns
    → Each IsWord (item_words bs ns) × Each (λ w. is_bar w ≡ false) (item_words bs ns)
words-good [] ns w g = (tt, tt)
words-good (b ∷ bs) [] w g = (tt, tt)
words-good (b ∷ bs) (n ∷ ns) w g =
    grind (arith, length-append, list_any-append, lacks-bounds, front-bar, words-good bs ns w.1 g.1)

-- a name is a word that no bar begins
pub name-word : (n : List ℕ) → IsPlainName n → IsWord n
name-word n g = grind (arith)

pub name-bar : (n : List ℕ) → IsPlainName n → is_bar n ≡ false
name-bar [] g = absurd (omega (arith, g.name.some))
name-bar (x ∷ xs) g = grind (arith, nat_tests, g.name.no_bar)

pub words-parts : (ws : List (List ℕ)) → Each IsWord ws → Each (λ w. is_bar w ≡ false) ws → Each IsPart ws
words-parts [] a b = tt
words-parts (w ∷ ws) a b = (no_bar-part w a.0.some b.0, words-parts ws a.1 b.1)

-- the names and bounds that entries have
pub names-back : (bs : List Bounds) (ns : List (List ℕ)) → length bs ≤ length ns
    → ns ≡ map (λ e. e.name) (primary_entries bs ns ++ map secondary_entry (drop (length bs) ns))
names-back [] [] h = refl
names-back [] (n ∷ ns) h = ap (λ t. n ∷ t) (names-back [] ns (omega arith))
names-back (b ∷ bs) [] h = absurd (omega (arith, h))
names-back (b ∷ bs) (n ∷ ns) h = ap (λ t. n ∷ t) (names-back bs ns (omega (arith, h)))

pub bounds-back : (bs : List Bounds) (ns : List (List ℕ)) → length bs ≤ length ns
    → bs ≡ map (λ e. record { low = e.low; high = e.high }) (primary_entries bs ns)
bounds-back [] ns h = refl
bounds-back (b ∷ bs) [] h = absurd (omega (arith, h))
bounds-back (b ∷ bs) (n ∷ ns) h = ap (λ t. b ∷ t) (bounds-back bs ns (omega (arith, h)))

-- ======== The option lines of a problem: each use by its item's name, and its colour after a colon.

-- a colour after a colon; nothing for none
abbrev pub colour_tail : List ℕ → List ℕ
colour_tail [] = []
colour_tail (b ∷ bs) = code ":" ∷ b ∷ bs

abbrev pub use_word : List (List ℕ) → List (List ℕ) → Use → List ℕ
use_word names colours u =
    unwrap_or (numbered_get names u.item) [] ++ colour_tail (unwrap_or (numbered_get colours u.colour) [])

-- what option lines are read by
abbrev pub context_of : Named → Context
context_of a = record { kind = ByBounds; names = a.names; primaries = length a.puzzle.bounds }

-- a use whose name and colour a text may have
abbrev pub IsWritable : Named → Use → Type 0
IsWritable a u = IsSoundUse a.puzzle u × (u.colour ≤ length a.colours)

name-at : (a : Named) → IsSound a → (k : ℕ) → suc k ≤ item_count a.puzzle
    → (slice_get a.names k ≡ Some (get_or a.names k [])) × IsName (get_or a.names k [])
    × (place a.names (get_or a.names k []) ≡ Some k) × IsUnbroken (get_or a.names k [])
name-at a s k within =
    let w = s.named in let inside : k < length a.names = omega (arith, w.count, within) in
    grind (arith, slice_get-get_or a.names k [] inside, distinct-place, get_or a.names k [])

colour-at : (a : Named) → IsSound a → (j : ℕ) → suc j ≤ length a.colours
    → (slice_get a.colours j ≡ Some (get_or a.colours j [])) × IsColour (get_or a.colours j [])
    × (place a.colours (get_or a.colours j []) ≡ Some j) × IsUnbroken (get_or a.colours j [])
colour-at a s j within =
    let w = s.named in let inside : j < length a.colours = omega (arith, within) in
    grind (arith, slice_get-get_or a.colours j [] inside, distinct-place, get_or a.colours j [])

-- a colour's number is that of what a line writes for it
number-back : (a : Named) → IsSound a → (c : ℕ) → c ≤ length a.colours
    → colour_number a.colours (unwrap_or (numbered_get a.colours c) []) ≡ c
number-back a s zero h = refl
number-back a s (suc j) h =
    let known = colour-at a s j h in
    ap (λ o. colour_number a.colours (unwrap_or o [])) known.0
    ∙ some (get_or a.colours j []) known.1 known.2 where
      some : (cs : List ℕ) → IsColour cs → place a.colours cs ≡ Some j → colour_number a.colours cs ≡ suc j
      some [] g e = absurd (omega (arith, g.0))
      some (b ∷ bs) g e = ap (λ o. unwrap_or o 0 + 1) e ∙ omega arith

pub uses-back : (a : Named) → IsSound a → (us : List Use) → Each (IsWritable a) us
    → us ≡ number_uses a.colours (map (written_use a.colours) us)
uses-back a s [] g = refl
uses-back a s (u ∷ us) g = λ i.
    (record { item = u.item; colour = sym (number-back a s u.colour g.0.1) i }) ∷ uses-back a s us g.1 i

-- the token of a use stands for it
use-of : (a : Named) → IsSound a → (k c : ℕ) → suc k ≤ item_count a.puzzle → c ≤ length a.colours
    → (suc k ≤ primary_count a.puzzle → c ≡ 0)
    → IsUse (context_of a) (use_word a.names a.colours (record { item = suc k; colour = c }))
    (written_use a.colours (record { item = suc k; colour = c }))
use-of a s k zero within few plain =
    let known = name-at a s k within in let name = get_or a.names k [] in (
      name,
      k,
      known.1,
      known.2,
      omega arith,
      inl (append-nil _ ∙ unwrap_or-slice_get a.names k [], refl),
    )
use-of a s k (suc j) within few plain =
    let known = name-at a s k within in let name = get_or a.names k [] in let colour = colour-at a s j few in (
      name,
      k,
      known.1,
      known.2,
      omega arith,
      inr (
        ap (λ n. n ++ colour_tail (unwrap_or (slice_get a.colours j) [])) (unwrap_or-slice_get a.names k [])
            ∙ ap (λ t. name ++ t) (tail (unwrap_or (slice_get a.colours j) [])
            (subst IsColour (sym (unwrap_or-slice_get a.colours j [])) colour.1)),
        refl,
        later,
        subst IsColour (sym (unwrap_or-slice_get a.colours j [])) colour.1,
      ),
    ) where
      tail : (cs : List ℕ) → IsColour cs → colour_tail cs ≡ code ":" ∷ cs
      tail [] g = absurd (omega (arith, g.0))
      tail (b ∷ bs) g = refl

      later : primary_count a.puzzle < suc k
      later = grind (arith, plain)

lacks-tail : (p : ℕ → Bool) → p (code ":") ≡ false → (n cs : List ℕ) → list_any p n ≡ false → list_any p cs ≡ false
    → list_any p (n ++ colour_tail cs) ≡ false
lacks-tail p colon n [] e f = list_any-append p n [] ∙ grind (arith, e)
lacks-tail p colon n (b ∷ bs) e f = list_any-append p n (code ":" ∷ b ∷ bs) ∙ grind (arith, e, f, colon)

-- what the name and the colour of a use lack, and the colon, its token lacks
plain-word : (n cs : List ℕ) → IsName n → IsUnbroken n → IsUnbroken cs → IsWord (n ++ colour_tail cs)
plain-word n cs name u v = grind (arith, length-append, lacks-tail)

colour-unbroken : (a : Named) → IsSound a → (c : ℕ) → c ≤ length a.colours
    → IsUnbroken (unwrap_or (numbered_get a.colours c) [])
colour-unbroken a s zero h = record { no_space = refl; no_nul = refl; no_feed = refl }
colour-unbroken a s (suc j) h = grind (arith, unwrap_or-slice_get, colour-at)

-- The token of a use is a word that no bar begins, and stands for the use.
pub record IsTokenOf (a : Named) (u : Use) : Type 0 where
  pub stands : IsUse (context_of a) (use_word a.names a.colours u) (written_use a.colours u)
  pub word : IsWord (use_word a.names a.colours u)
  pub no_bar : is_bar (use_word a.names a.colours u) ≡ false

by-numbers : (a : Named) → IsSound a → (i c : ℕ) → IsWritable a (record { item = i; colour = c })
    → IsTokenOf a (record { item = i; colour = c })
by-numbers a s zero c w = absurd (omega (arith, w.0.0.0))
by-numbers a s (suc k) c w =
    grind (arith, common_steps, name-at, unwrap_or-slice_get, use-of, plain-word, colour-unbroken, front-bar)

pub token-of : (a : Named) → IsSound a → (u : Use) → IsWritable a u → IsTokenOf a u
token-of a s u w = by-numbers a s u.item u.colour w

-- ======== The lines of a problem, and that they stand for it.

-- THE LINES
abbrev pub line_words : Named → List (List ℕ)
line_words a = item_words a.puzzle.bounds a.names ++ codes "|" ∷ drop (length a.puzzle.bounds) a.names

abbrev pub option_words : Named → List Use → List (List ℕ)
option_words a us = map (use_word a.names a.colours) us

abbrev pub lines_from : Named → List (List Use) → List (List ℕ)
lines_from a os = map (λ us. spaced (option_words a us)) os

abbrev pub lines_for : Named → List (List ℕ)
lines_for a = spaced (line_words a) ∷ lines_from a a.puzzle.options

-- an option that lines can have
pub record IsWritten (a : Named) (us : List Use) : Type 0 where
  pub option : IsSoundOption a.puzzle us
  pub uses : Each (IsWritable a) us

-- ---- options
words-of : (a : Named) (us : List Use) → Each (IsTokenOf a) us → Each IsWord (option_words a us)
words-of a us g = each-map IsWord _ us (each_weaker _ _ us (λ u t. t.word) g)

zip-uses : (a : Named) (us : List Use) → Each (IsTokenOf a) us
    → AllZip (IsUse (context_of a)) (option_words a us) (map (written_use a.colours) us)
zip-uses a [] g = tt
zip-uses a (u ∷ us) g = (g.0.stands, zip-uses a us g.1)

abbrev Differ : Written → Written → Type 0
Differ u v = u.item ≢ v.item

option-stands : (a : Named) → IsSound a → (k : ℕ) (us : List Use) → IsWritten a us
    → IsOptionLine (context_of a) (k, spaced (option_words a us)) (line_number k, map (written_use a.colours) us)
option-stands a s k us w =
    let good = each_weaker _ _ us (token-of a s) w.uses in (
      refl,
      grind (arith, tokens-spaced, words-of, zip-uses),
      AllPairs-from_each_two Differ _ (EachTwo-map Differ (written_use a.colours) us
          (each_two_from_AllPairs (λ u v. u.item ≢ v.item) us w.option.distinct)),
    )

-- the options as the grammar numbers them
abbrev stated : Named → ℕ → List (List Use) → List (ℕ × List Written)
stated a k [] = []
stated a k (us ∷ os) = (line_number k, map (written_use a.colours) us) ∷ stated a (k + 1) os

zip-lines : (a : Named) → IsSound a → (k : ℕ) (os : List (List Use)) → Each (IsWritten a) os
    → AllZip (IsOptionLine (context_of a)) (enumerate_from k (lines_from a os)) (stated a k os)
zip-lines a s k [] w = tt
zip-lines a s k (us ∷ os) w = (option-stands a s k us w.0, zip-lines a s (k + 1) os w.1)

primary-at : (a : Named) (us : List Use) (k : ℕ) (x : Use) → k < length us → get_or us k x ≡ x
    → x.item ≤ length a.puzzle.bounds
    → has_primary (length a.puzzle.bounds) (map (written_use a.colours) us) ≡ true
primary-at a [] k x h e p = absurd (omega (arith, h))
primary-at a (u ∷ us) zero x h e p = grind (arith)
primary-at a (u ∷ us) (suc k) x h e p = grind (arith, nat_tests, primary-at a us k x (omega (arith, h)) e p)

none-ignored : (a : Named) (k : ℕ) (os : List (List Use)) → Each (IsWritten a) os
    → [] ≡ map (λ o. o.0) (filter (λ o. not (has_primary (length a.puzzle.bounds) o.1)) (stated a k os))
none-ignored a k [] w = refl
none-ignored a k (us ∷ os) w = grind (arith, primary-at, none-ignored a (k + 1) os w.1)

all-kept : (a : Named) (k : ℕ) (os : List (List Use)) → Each (IsWritten a) os
    → map (λ us. map (written_use a.colours) us) os
    ≡ map (λ o. o.1) (filter (λ o. has_primary (length a.puzzle.bounds) o.1) (stated a k os))
all-kept a k [] w = refl
all-kept a k (us ∷ os) w = grind (arith, primary-at, all-kept a (k + 1) os w.1)

few-uses : (a : Named) (os : List (List Use))
    → length (flat_map (λ us. us) (map (λ us. map (written_use a.colours) us) os)) ≡ use_count os
few-uses a [] = refl
few-uses a (us ∷ os) =
    length-append (map (written_use a.colours) us) _ ∙ (λ i. length-map us (written_use a.colours) i + few-uses a os i)
    ∙ sym (sum_by-cons (λ vs. length vs) us os)

flat-uses : (a : Named) (os : List (List Use)) → map (written_use a.colours) (flat_map (λ us. us) os)
    ≡ flat_map (λ us. us) (map (λ us. map (written_use a.colours) us) os)
flat-uses a [] = refl
flat-uses a (us ∷ os) = grind (arith, map-append, flat-uses a os)

options-back : (a : Named) → IsSound a → (os : List (List Use)) → Each (IsWritten a) os
    → os ≡ map (number_uses a.colours) (map (λ us. map (written_use a.colours) us) os)
options-back a s [] w = refl
options-back a s (us ∷ os) w = λ i. uses-back a s us w.0.uses i ∷ options-back a s os w.1 i

options-stand : (a : Named) → IsSound a → AreMetInOrder a → Each (IsWritten a) a.puzzle.options
    → AreOptions (context_of a) (enumerate_from 2 (lines_from a a.puzzle.options)) a []
options-stand a s met w = let os = a.puzzle.options in record {
  options = stated a 2 os;
  stand = zip-lines a s 2 os w;
  others = none-ignored a 2 os w;
  kept = map (λ us. map (written_use a.colours) us) os;
  are_kept = all-kept a 2 os w;
  few = omega (arith, few-uses a os, s.limits.uses);
  colours = met-by-uses a met ∙ ap colours_of (flat-uses a os);
  numbered = options-back a s os w;
}

-- ---- items
plain-names : (a : Named) → IsSound a → Each IsPlainName a.names
plain-names a s = grind (arith, recursion_from_All)

each-drop : {X : Type 0} (P : X → Type 0) (n : ℕ) (xs : List X) → Each P xs → Each P (drop n xs)
each-drop P zero xs a = a
each-drop P (suc n) [] a = a
each-drop P (suc n) (x ∷ xs) a = each-drop P n xs a.1

bar-word : IsWord (codes "|")
bar-word = record { some = omega arith; no_space = refl; no_nul = refl; no_feed = refl }

record ItemWords (a : Named) : Type 0 where
  words : Each IsWord (line_words a)
  parts : Each IsPart (line_words a)
  front : Each (λ w. is_bar w ≡ false) (item_words a.puzzle.bounds a.names)

item-line : (a : Named) → IsSound a → ItemWords a
item-line a s =
    let bs = a.puzzle.bounds in let rest = each-drop IsPlainName (length bs) a.names (plain-names a s) in
    let front = words-good bs a.names (grind (arith, recursion_from_All)) (plain-names a s) in
    let back = each_weaker IsPlainName IsWord (drop (length bs) a.names) name-word rest in
    let no_bar = each_weaker IsPlainName (λ w. is_bar w ≡ false) (drop (length bs) a.names) name-bar rest in
    grind (arith, each-append, bar-word, words-parts)

items-stand : (a : Named) → IsSound a → AreItems ByBounds (parts (spaced (line_words a))) a
items-stand a s =
    let bs = a.puzzle.bounds in let ns = a.names in let w = item-line a s in let rest = drop (length bs) ns in
    let same : parts (spaced (line_words a)) ≡ line_words a = parts-spaced (line_words a) w.words w.parts in
    let cut = cut-at_bar (item_words bs ns) rest (codes "|") w.front refl in
    let long : length bs ≤ length ns = omega (arith, s.named.count) in
    subst (λ ps. AreItems ByBounds ps a) (sym same) (record {
      primary = primary_entries bs ns;
      secondary = map secondary_entry rest;
      before_bar = grind (arith, primary-stand, recursion_from_All, plain-names);
      behind_bar = subst (λ ps. AllZip (IsEntry ByBounds true) ps (map secondary_entry rest)) (sym cut.1)
          (secondary-stand rest (each-drop IsPlainName (length bs) ns (plain-names a s)));
      names = names-back bs ns long;
      bounds = bounds-back bs ns long;
      count = grind (arith, length-map rest secondary_entry, length-drop (length bs) ns, s.named.count);
      distinct = s.named.distinct;
      few = omega (arith, s.named.count, s.limits.items);
    })

-- ---- the whole
options-written : (a : Named) → IsSound a → Each (IsWritten a) a.puzzle.options
options-written a s = recursion_from_All (IsWritten a) a.puzzle.options (λ k d h.
    let option = s.valid.options k d h in let us = get_or a.puzzle.options k d in record {
      option = option;
      uses = recursion_from_All (IsWritable a) us (λ j e g. (option.sound j e g, s.coloured k d h j e g));
    })

-- each line is no comment, and has no NUL byte and no line feed
record IsClear (line : List ℕ) : Type 0 where
  shown : is_skipped line ≡ false
  no_nul : has 0 line ≡ false
  no_feed : has 10 line ≡ false

clear-option : (a : Named) (us : List Use) → Each (IsTokenOf a) us → 0 < length us
    → IsClear (spaced (option_words a us))
clear-option a [] g h = absurd (omega (arith, h))
clear-option a (u ∷ us) g h = grind (arith, common_steps, words-of, lacks-spaced, each_weaker, tokens-spaced)

clear-items : (a : Named) (bs : List Bounds) (ns qs : List (List ℕ)) → 0 < length bs → length bs ≤ length ns
    → Each IsWord (item_words bs ns ++ qs) → Each (λ w. is_bar w ≡ false) (item_words bs ns)
    → IsClear (spaced (item_words bs ns ++ qs))
clear-items a [] ns qs h l g e = absurd (omega (arith, h))
clear-items a (b ∷ bs) [] qs h l g e = absurd (omega (arith, l))
clear-items a (b ∷ bs) (n ∷ ns) qs h l g e = grind (arith, common_steps, lacks-spaced, each_weaker, tokens-spaced)

some-uses : (a : Named) (us : List Use) → IsWritten a us → 0 < length us
some-uses a us w = let one = w.option.one_primary in omega (arith, one.2)

clear-options : (a : Named) → IsSound a → (os : List (List Use)) → Each (IsWritten a) os
    → Each IsClear (lines_from a os)
clear-options a s [] w = tt
clear-options a s (us ∷ os) w =
    (clear-option a us (each_weaker _ _ us (token-of a s) w.0.uses) (some-uses a us w.0), clear-options a s os w.1)

clear-lines : (a : Named) → IsSound a → Each IsClear (lines_for a)
clear-lines a s = grind (arith, item-line, clear-items, clear-options, options-written)

numbered : (k : ℕ) (lines : List (List ℕ)) → Each IsClear lines
    → filter (λ line. not (is_skipped line.1)) (enumerate_from k lines) ≡ enumerate_from k lines
numbered k [] g = refl
numbered k (line ∷ lines) g = grind (arith, nat_tests, g.0.shown, numbered (k + 1) lines g.1)

no-nul : (lines : List (List ℕ)) → Each IsClear lines → list_any (has 0) lines ≡ false
no-nul [] g = refl
no-nul (line ∷ lines) g = grind (arith, nat_tests, g.0.no_nul, no-nul lines g.1)

whole : (lines : List (List ℕ)) → Each IsClear lines → AreWhole lines
whole [] g = tt
whole (line ∷ lines) g = (g.0.no_feed, whole lines g.1)

lines-stand : (a : Named) → IsSound a → AreMetInOrder a → StandsFor ByBounds (lines_for a) a []
lines-stand a s met = let clear = clear-lines a s in record {
  no_nul = no-nul (lines_for a) clear;
  item_line = (1, spaced (line_words a));
  option_lines = enumerate_from 2 (lines_from a a.puzzle.options);
  content = numbered 1 (lines_for a) clear;
  items = items-stand a s;
  options = options-stand a s met (options-written a s);
}

-- the text of these lines
pub has-text : (a : Named) → IsSound a → AreMetInOrder a → (text : List ℕ) × StandsFor ByBounds (lines_of text) a []
has-text a s met = (
  ended (lines_for a),
  subst (λ ls. StandsFor ByBounds ls a []) (sym (lines_of-all (lines_for a) (whole (lines_for a) (clear-lines a s))))
      (lines-stand a s met),
)
