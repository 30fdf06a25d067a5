-- What helps to prove what is printed, and what the checker says of it.
use Rattle.std.proofs.lemmas.Grind.{common_steps}
use Rattle.std.proofs.Common.{[], add-one, ℕ, zero, suc, ◌≡◌, ◌+◌, ◌-◌, ◌≤◌, List, ◌∷◌, ◌++◌, length, map, take, drop}
use Rattle.std.proofs.Common.{get_or, Some, refl, sym, ap, ◌∙◌, arith, length-append, length-drop, eq-eqb, append_assoc}
use Rattle.std.proofs.Common.{append-nil, ◌^◌, ◌<◌, true, false, None, ◌≢◌, ◌||◌, Option, inl, inr, subst, filter}
use Rattle.std.proofs.lemmas.Option.{slice_get-map, get_or_from_slice_get}
use Rattle.std.specs.Prelude.{option_map, flat_map, unwrap_or, codes, decimal, slice_get, All, is_some, MatchOption}
use Rattle.std.specs.Prelude.{IsTrue, IfOk, IfErr, MatchResult, Result, Ok, Err, Vec}
use Rattle.std.specs.declared.alloc.Global.{Global}
use Rattle.std.proofs.lemmas.Bool.Decides.{nat_tests}
use Rattle.std.proofs.Math.Seq.{take-append_seam, drop-append_seam, get_or-append_seam}
use Rattle.std.proofs.lemmas.List.{drop-append-le, drop-take, drop-drop, take-take, length-take, length-map, map-append}
use Rattle.std.proofs.lemmas.List.{take-append-drop}
use Rattle.std.proofs.lemmas.List.Concat.{flat_map-append}
use Rattle.std.proofs.lemmas.Fmt.{decimal_nonempty, digits_value-decimal, length-decimal-le}
use Rattle.std.specs.List.{list_all, list_any, AllByRecursion, enumerate_from, AllZip}
use Rattle.std.specs.Str.{bytes_eq}
use Rattle.std.proofs.lemmas.List.Elements.{All-head, recursion_from_All, All-from_recursion, All-contains}
use Rattle.std.proofs.lemmas.Slice.Eq.{bytes_eq-Decides}
use Rattle.std.proofs.lemmas.List.Folds.{flat_map-map}
use Rattle.xc_input.specs.declared.problem.Use.{Use}
use Rattle.xc_input.specs.UsePlaces.{place_in}
use Rattle.xc_input.specs.Problem.{numbered_get, IsPrimary, IsItem, uses_of, primary_count, colour_in, IsOption}
use Rattle.xc_input.specs.Problem.{numbered_options, Puzzle, Numbered, option_count, holds, holding}
use Rattle.xc_input.specs.Named.{Named, IsKnownUse, IsSound, IsName, IsUnbroken}
use Rattle.xc_text.specs.Words.{has, is_space, before_last}
use Rattle.xc_text.specs.Lines.{lines_of}
use Rattle.xc_text.specs.inner.LineFeeds.{ended, AreWhole}
use Rattle.xc_text.proofs.ListLemmas.{drop_at, each-append, in-slice_get, each-map, each_weaker, get_take, IsIn}
use Rattle.xc_text.proofs.ListLemmas.{in-map, in-filter, in-append, each_in, each_from, in-take, length-filter-le}
use Rattle.xc_text.proofs.ListLemmas.{each-filter, contains-in, by_option}
use Rattle.xc_input.proofs.TokenLemmas.{numbered_get-at, length-pieces, option_part, pieces-snoc, are_digits-decimal}
use Rattle.xc_input.proofs.TokenLemmas.{digits, digits_read, lacks-decimal}
use Rattle.xc_input.proofs.FaultLemmas.{not_false, and-both, COLON}
use Rattle.xc_input.proofs.LineLemmas.{at_number, known_option}
use Rattle.xc_text.proofs.LineLemmas.{lines_of-ended}
use Rattle.xc_moves.proofs.MoveLemmas.{length-numbered_from}
use Rattle.xc_search.specs.declared.choice.Choice.{Choice}
use Rattle.xc_search.specs.Listing.{Wanted, Residual, whole, branch_count, pick, none, Branch, branches_of, listing}
use Rattle.xc_search.specs.Cover.{members, options_of}
use Rattle.xc_input.specs.Cover.{IsCover}
use Rattle.xc_search.specs.inner.Levels.{take_branch}
use Rattle.xc_search.proofs.ListingLemmas.{in-nones, by_branches, listing_at, with_bounds, numbered_at, uses_known}
use Rattle.xc_search.proofs.ListingLemmas.{in-level, branch_item-in, nones, item-spend_one, goes_on}
use Rattle.xc_search.proofs.Completeness.{each_member_covers}
use Rattle.xc_list.specs.declared.places.TheConstants.{PADDING}
use Rattle.xc_list.specs.inner.Writing.{use_text, AreLaid, ArePadded, first_item, uses_text}
use Rattle.xc_check.specs.inner.Classes.{colour_text}
use Rattle.xc_check.specs.UseTexts.{from_item, bytes_at, use_word}
use Rattle.xc_list.specs.Output.{body_text, choice_text, member_text, is_printed, output}
use Rattle.xc_check.specs.ListingLines.{words_in, header_number, is_word, is_ending, body_of_words}
use Rattle.xc_check.specs.ListingLines.{branch_number, number_in_words}
use Rattle.xc_text.specs.LongNumbers.{long_number}
use Rattle.xc_check.specs.inner.Listings.{Header, Body, read, Listing, listing_of}
use Rattle.xc_check.specs.Listed.{stands_for, is_known, is_none, Solution, IsVerdictOn, AreVerdicts, IsListingFault}
use Rattle.xc_check.specs.Listed.{fault_in_lines, solutions_of, IsListedCover}
use Rattle.xc_list.specs.Known.{IsKnownChoice}
use Rattle.xc_check.specs.declared.verdict.Verdict.{Verdict}
use Rattle.xc_check.specs.declared.verdict.ListingFault.{ListingFault}
use Rattle.xc_check.specs.declared.verdict.ListingFault.TheVariants.{Memory}
use Rattle.xc_check.proofs.ClassLemmas.{numbered_some, place_held, All-turned, is-body, any-in, at_bytes, plain-word}
use Rattle.xc_check.proofs.ClassLemmas.{uses-in}
use Rattle.xc_check.proofs.CheckLemmas.{before_three, known-as, listed_solutions, lines-cons}
use Rattle.xc_text.proofs.NumberLemmas.{some_digits}
use Rattle.xc_list.proofs.Writing.{number_read}
use Rattle.xc_check.proofs.ClassLemmas.{colour_text-some}

-- ======== Texts of options laid out one behind another.

-- the elements behind the first ones
pub options_left : {X : Type 0} (os : List X) (o : ℕ) (x : X) → numbered_get os (o + 1) ≡ Some x
    → drop o os ≡ x ∷ drop (o + 1) os
options_left os o x e = rw add-one (drop_at os o x (sym (numbered_get-at os (o + 1) o (omega arith)) ∙ e))

-- as many starts as options, and the length
pub laid-count : (a : Named) (os : List (List Use)) (texts starts : List ℕ) → AreLaid a os texts starts
    → length starts ≡ length os + 1
laid-count a os texts starts l = grind (arith, length-pieces, length-map)

numbered-map : {X : Type 0} (f : List Use → X) (os : List (List Use)) (o : ℕ) → (1 ≤ o) × (o ≤ length os)
    → numbered_get (map f os) o ≡ Some (f (unwrap_or (numbered_get os o) []))
numbered-map f os zero is = absurd (omega (arith, is.0))
numbered-map f os (suc k) is = slice_get-map f os k ∙ ap (option_map f) (numbered_some os (suc k) [] is.0 is.1)

-- the text of uses, cut where an item's use starts
module _ (a : Named) (item : ℕ) (us : List Use) {text : List ℕ} {place : ℕ} (whole : text ≡ uses_text a us)
    (at : place ≡ length (uses_text a (take (place_in item us) us))) where
  halves : text ≡ uses_text a (take (place_in item us) us) ++ uses_text a (drop (place_in item us) us)
  halves = whole ∙ ap (uses_text a) (sym (take-append-drop (place_in item us) us))
      ∙ flat_map-append (use_text a) (take (place_in item us) us) (drop (place_in item us) us)

  pub cut_within : place ≤ length text
  cut_within = grind (arith, length-append, a, item, us, at, halves)

  -- the text behind the cut and the text before it are those of the uses from the item's on, cyclically
  pub cut_gives : flat_map (use_text a) (from_item item us) ≡ drop place text ++ take place text
  cut_gives = grind (arith, drop-append_seam, take-append_seam, halves, flat_map-append)

-- one option more
pub laid_more : (a : Named) (os : List (List Use)) (us : List Use) (texts more starts : List ℕ) (n : ℕ)
    → AreLaid a os texts starts → more ≡ texts ++ uses_text a us → n ≡ length more
    → AreLaid a (os ++ us ∷ []) more (starts ++ n ∷ [])
laid_more a os us texts more [] n l e f = absurd l.rising
laid_more a os us texts more (x ∷ starts) n l e f =
    let part = pieces-snoc _ _ _ _ _ l.rising (f ∙ ap length e ∙ length-append texts (uses_text a us)) in
    rw e (record { rising = part.0; parts = rw (part.1, l.parts, map-append) refl })

-- the text between two starts that were read, where a few bytes more come after the texts
pub padded_part : (a : Named) (os : List (List Use)) (texts starts : List ℕ) (o x y : ℕ) → ArePadded a os texts starts
    → (1 ≤ o) × (o ≤ length os) → x ≡ get_or starts (o - 1) x → y ≡ get_or starts o y
    → (x ≤ y) × (y + PADDING ≤ length texts)
    × (take (y - x) (drop x texts) ≡ uses_text a (unwrap_or (numbered_get os o) []))
padded_part a os texts starts o x y p known e f =
    let l = p.are_laid in
    let count = laid-count a os p.laid starts l in
    let part = option_part starts p.laid o x y l.rising known.0 (omega (arith, known.1, count)) e f in
    let within : y - x ≤ length (drop x p.laid) = omega (arith, length-drop x p.laid, part.0, part.1) in
    let front = drop-append-le x p.laid p.padding (omega (arith, part.0, part.1)) in
    let text = ap (λ ts. numbered_get ts o) l.parts ∙ numbered-map (uses_text a) os o known in
    grind (arith, common_steps)

pub span-length : (texts : List ℕ) (from count : ℕ) → from + count + PADDING ≤ length texts
    → length (take count (drop from texts)) ≡ count
span-length texts from count h = omega (arith, length-take count (drop from texts), length-drop from texts, h)

-- nothing is put where nothing stands before the cut
-- where an item's use starts in a text
module _ (a : Named) (item : ℕ) (us : List Use) (texts : List ℕ) (from count place : ℕ)
    (text : take count (drop from texts) ≡ uses_text a us)
    (there : place ≡ length (uses_text a (take (place_in item us) us)))
    (h : from + count + PADDING ≤ length texts) where
  pub cut_in_span : place ≤ count
  cut_in_span = omega (arith, cut_within a item us text there, span-length texts from count h)

  -- the part behind the cut is put on a page, and then the part before it
  pub text_put : (page one two : List ℕ) (at : ℕ)
      → take (at + (count - place)) one ≡ take at page ++ take (count - place) (drop (from + place) texts)
      → take (at + (count - place) + place) two ≡ take (at + (count - place)) one ++ take place (drop from texts)
      → take (at + count) two ≡ take at page ++ flat_map (use_text a) (from_item item us)
  text_put page one two at first second =
      let rest : List ℕ = drop from texts in
      let sum : place + (count - place) ≡ count = omega (arith, cut_in_span) in
      let end : at + (count - place) + place ≡ at + count = omega (arith, cut_in_span) in
      let before = take-take place count rest cut_in_span in
      let behind : take (count - place) (drop (from + place) texts) ≡ drop place (take count rest) =
      cc (drop-drop place from texts, drop-take place (count - place) rest, sum) in
      let both = append_assoc (take at page) (take (count - place) (drop (from + place) texts)) (take place rest) in
      cc (end, second, first, cut_gives a item us text there)

-- the item of an option's first use, as it was read
pub first_read : (os : List (List Use)) (firsts : List ℕ) (o x : ℕ) → firsts ≡ map first_item os
    → (1 ≤ o) × (o ≤ length os) → x ≡ get_or firsts (o - 1) x → first_item (unwrap_or (numbered_get os o) []) ≡ x
first_read os firsts o x e known at =
    let there = numbered_get-at (map first_item os) o (o - 1) (omega (arith, known.0)) in
    let stands = sym there ∙ numbered-map first_item os o known in
    sym (at ∙ ap (λ xs. get_or xs (o - 1) x) e ∙ get_or_from_slice_get (map first_item os) (o - 1) _ x stands)

-- from its first use's item on an option stands in file order
pub from_first : (item : ℕ) (us : List Use) → first_item us ≡ item → from_item item us ≡ us
from_first item [] e = refl
from_first item (u ∷ us) e = grind (arith, nat_tests, eq-eqb u.item item e, append-nil (u ∷ us))

-- ======== What the lines of an output are read as.

-- ---- headers

pub before_last-last : (b : ℕ) (front : List ℕ) → before_last b (front ++ b ∷ []) ≡ Some front
before_last-last b front = grind (arith, common_steps, length-append, get_or-append_seam, take-append_seam)

pub read-header : (n : ℕ) → n < 2 ^ 64 → read (decimal n ++ codes ":") ≡ Header n
read-header n h =
    let short = length-decimal-le 20 n (omega arith) (omega (arith, h)) h in
    let value = digits_value-decimal digits_read n h in
    grind (arith, digits, some_digits, decimal_nonempty, before_last-last)

-- ---- words

-- a word that no white space and no line feed breaks
pub record IsPlain (w : List ℕ) : Type 0 where
  pub some : 1 ≤ length w
  pub no_space : list_any is_space w ≡ false
  pub no_feed : has 10 w ≡ false

are_words : (ws : List (List ℕ)) → AllByRecursion IsPlain ws → list_all is_word ws ≡ true
are_words [] plain = refl
are_words (w ∷ ws) plain = grind (arith, nat_tests, plain.0.some, plain.0.no_space, are_words ws plain.1)

-- words with a space before each
abbrev pub spaced : List (List ℕ) → List ℕ
spaced ws = flat_map (λ w. 32 ∷ w) ws

-- a word at the front
words_in-front : (w rest : List ℕ) (ws : List (List ℕ)) → list_any is_space w ≡ false → words_in rest ≡ [] ∷ ws
    → words_in (w ++ rest) ≡ w ∷ ws
words_in-front [] rest ws h e = e
words_in-front (b ∷ w) rest ws h e = grind (arith, nat_tests, words_in-front w rest ws)

words_in-spaced : (w : List ℕ) (ws : List (List ℕ)) → AllByRecursion IsPlain (w ∷ ws)
    → words_in (w ++ spaced ws) ≡ w ∷ ws
words_in-spaced w [] plain = words_in-front w [] [] plain.0.no_space refl
words_in-spaced w (v ∷ ws) plain =
    words_in-front w (spaced (v ∷ ws)) (v ∷ ws) plain.0.no_space (ap (λ vs. [] ∷ vs) (words_in-spaced v ws plain.1))

no_feed-spaced : (ws : List (List ℕ)) → AllByRecursion IsPlain ws → has 10 (spaced ws) ≡ false
no_feed-spaced [] plain = refl
no_feed-spaced (w ∷ ws) plain = grind (arith, common_steps, plain.0.no_feed, no_feed-spaced ws plain.1)

-- ---- choice lines

-- the last three words of a choice line
abbrev pub ending_words : ℕ → ℕ → List (List ℕ)
ending_words k n = (codes "(" ++ decimal k) ∷ codes "of" ∷ (decimal n ++ codes ")") ∷ []

pub plain-append : (v w : List ℕ) → IsPlain v → list_any is_space w ≡ false → has 10 w ≡ false → IsPlain (v ++ w)
plain-append v w plain space feed = grind (arith, common_steps, plain.some, plain.no_space, plain.no_feed)

plain-ending : (k n : ℕ) → k < 2 ^ 64 → n < 2 ^ 64 → AllByRecursion IsPlain (ending_words k n)
plain-ending k n h l = grind (arith, common_steps, plain-append, decimal_nonempty, lacks-decimal)

is_ending-words : (k n : ℕ) → k < 10 ^ 10 → n < 10 ^ 10 → is_ending (ending_words k n) ≡ true
is_ending-words k n h l = grind (arith, nat_tests, are_digits-decimal, before_last-last)

-- no header begins with a space
no_header : (line : List ℕ) → header_number (32 ∷ line) ≡ None
no_header [] = refl
no_header (b ∷ line) = grind (arith, nat_tests)

pub read-choice : (body : List (List ℕ)) (k n : ℕ) → 1 ≤ length body → AllByRecursion IsPlain body → k < 10 ^ 10
    → n < 10 ^ 10
    → (read (spaced (body ++ ending_words k n)) ≡ Body body) × (has 10 (spaced (body ++ ending_words k n)) ≡ false)
read-choice [] k n some plain h l = absurd (omega (arith, some))
read-choice (w ∷ body) k n some plain h l =
    let all : AllByRecursion IsPlain ((w ∷ body) ++ ending_words k n) = grind (arith, each-append, plain-ending) in
    let is : body_of_words (words_in (w ++ spaced (body ++ ending_words k n))) ≡ Some (w ∷ body) =
    ap body_of_words (words_in-spaced w (body ++ ending_words k n) all)
    ∙ sym (before_three ((w ∷ body) ++ ending_words k n) (w ∷ body) (ending_words k n) (omega arith) refl refl
    (are_words ((w ∷ body) ++ ending_words k n) all) (is_ending-words k n h l)) in
    grind (arith, common_steps, no_header, no_feed-spaced)

get-seam : {X : Type 0} (xs : List X) (y : X) (ys : List X) → slice_get (xs ++ y ∷ ys) (length xs) ≡ Some y
get-seam [] y ys = refl
get-seam (x ∷ xs) y ys = get-seam xs y ys

-- the number of a choice line's branch
pub number-choice : (body : List (List ℕ)) (k n : ℕ) → 1 ≤ length body → AllByRecursion IsPlain body → k < 10 ^ 10
    → n < 10 ^ 10 → branch_number (spaced (body ++ ending_words k n)) ≡ Some k
number-choice [] k n some plain h l = absurd (omega (arith, some))
number-choice (w ∷ body) k n some plain h l =
    let all : AllByRecursion IsPlain ((w ∷ body) ++ ending_words k n) = grind (arith, each-append, plain-ending) in
    let words = words_in-spaced w (body ++ ending_words k n) all in
    let is : body_of_words ((w ∷ body) ++ ending_words k n) ≡ Some (w ∷ body) =
    sym (before_three ((w ∷ body) ++ ending_words k n) (w ∷ body) (ending_words k n) (omega arith) refl refl
    (are_words ((w ∷ body) ++ ending_words k n) all) (is_ending-words k n h l)) in
    let number : long_number (decimal k) ≡ Some k =
    number_read k (omega (arith, h)) in
    let place : length ((w ∷ body) ++ ending_words k n) - 3 ≡ length (w ∷ body) =
    omega (arith, length-append (w ∷ body) (ending_words k n)) in
    ap number_in_words words ∙ rw (is, place, get-seam (w ∷ body) (codes "(" ++ decimal k) _) number

pub no_feed-header : (n : ℕ) → n < 2 ^ 64 → has 10 (decimal n ++ codes ":") ≡ false
no_feed-header n h = grind (arith, common_steps, plain-append, decimal_nonempty, lacks-decimal)

-- ======== What the words of a choice stand for.

-- the words of a choice before its counts
abbrev pub body_words : Named → ℕ → Option ℕ → List (List ℕ)
body_words p i (Some o) = map (use_word p) (from_item i (uses_of p.puzzle o))
body_words p i None = codes "null" ∷ bytes_at p.names i ∷ []

-- that the words of a choice are read as such, and what they stand for
pub record IsTold (p : Named) (i : ℕ) (o : Option ℕ) : Type 0 where
  pub some : 1 ≤ length (body_words p i o)
  pub plain : AllByRecursion IsPlain (body_words p i o)
  pub accepted : (is_known p (body_words p i o) || is_none p (body_words p i o)) ≡ true
  pub stands : MatchOption o (is_known p (body_words p i o) ≡ false)
      (λ j. (is_known p (body_words p i o) ≡ true) × (stands_for p (body_words p i o) j ≡ true))

module _ (p : Named) (sound : IsSound p) where
  pub plain-name : (i : ℕ) → IsItem p.puzzle i → IsPlain (bytes_at p.names i)
  plain-name i item =
      let within : i ≤ length p.names = omega (arith, item.1, sound.named.count) in
      let unbroken = at_bytes IsUnbroken p.names i item.0 within sound.named.unbroken_names in
      let name = at_bytes IsName p.names i item.0 within sound.named.names in
      record { some = name.some; no_space = unbroken.no_space; no_feed = unbroken.no_feed }

  plain-colour : (c : ℕ) → c ≤ length p.colours
      → (list_any is_space (colour_text p.colours c) ≡ false) × (has 10 (colour_text p.colours c) ≡ false)
  plain-colour zero h = (refl, refl)
  plain-colour (suc c) h =
      let unbroken = at_bytes IsUnbroken p.colours (suc c) (omega arith) h sound.named.unbroken_colours in
      rw (colour_text-some p.colours (suc c) (omega arith)) (unbroken.no_space, unbroken.no_feed)

  pub plain-use : (u : Use) → IsKnownUse p u → IsPlain (use_word p u)
  plain-use u known =
      let colour = plain-colour u.colour known.1 in
      plain-append _ (colour_text p.colours u.colour) (plain-name u.item known.0) colour.0 colour.1

  module _ (none : All (λ n. n ≢ codes "null") p.names) where
    -- no use has the word null
    not_null : (us : List Use) (ws : List (List ℕ)) → All (IsKnownUse p) us
        → map (use_word p) us ≡ codes "null" ∷ ws → ⊥
    not_null [] ws known e = absurd (cc e)
    not_null (u ∷ us) ws known e =
        let is : use_word p u ≡ codes "null" = cc e in
        let name = plain-word p sound u (All-head (IsKnownUse p) u us known) (ap (has COLON) is) in
        at_number (λ n. n ≢ codes "null") p.names u.item (use_word p u) none name.0 is

    not_known : (ws : List (List ℕ)) → is_known p (codes "null" ∷ ws) ≡ false
    not_known ws = not_false (is_known p (codes "null" ∷ ws)) (λ e.
        let o = known-as p sound _ e in not_null _ ws o.3.known o.3.words_so)

    pub told : (i : ℕ) (o : Option ℕ) → IsPrimary p.puzzle i → MatchOption o (Unit {0}) (λ o. IsOption p.puzzle o
        × (is_some (colour_in (uses_of p.puzzle o) i) ≡ true)) → IsTold p i o
    told i (Some o) primary h =
        let us = uses_of p.puzzle o in
        let k = place_in i us in
        let within = place_held i us h.1 in
        let known = known_option p.puzzle p.colours o us sound.valid sound.coloured (numbered_some _ _ _ h.0.0 h.0.1) in
        let all = recursion_from_All _ _ (All-turned (IsKnownUse p) k us known) in
        let stands = is-body p (body_words p i (Some o)) us k within refl in
        let known : is_known p (body_words p i (Some o)) ≡ true = any-in _ _ _ (uses-in p.puzzle o h.0) stands in
        record {
          some = grind (arith, common_steps);
          plain = each-map _ _ _ (each_weaker _ _ _ plain-use all);
          accepted = rw known refl;
          stands = (known, stands);
        }
    told zero None primary h = absurd (omega (arith, primary.0))
    told (suc j) None primary h =
        let name = bytes_at p.names (suc j) in
        let at = numbered_some p.names (suc j) [] primary.0 (omega (arith, primary.1, sound.named.count)) in
        let first = get_take (primary_count p.puzzle) p.names j (omega (arith, primary.1)) ∙ at in
        let listed = any-in (bytes_eq name) (take (primary_count p.puzzle) p.names) name (in-slice_get _ j name first)
        ((bytes_eq-Decides name name).1 refl) in
        let is : is_none p (codes "null" ∷ name ∷ []) ≡ true =
        and-both _ _ ((bytes_eq-Decides (codes "null") (codes "null")).1 refl) listed in
        let null : IsPlain (codes "null") = record { some = omega arith; no_space = refl; no_feed = refl } in
        record {
          some = omega arith;
          plain = (null, (plain-name (suc j) (primary.0, omega (arith, primary.1)), tt));
          accepted = rw (not_known (name ∷ []), is) refl;
          stands = not_known (name ∷ []);
        }

-- ======== The choices of a member can be told, and the counts in them are small.

-- a residual of a problem: its items are primary, and its options are some of the problem's
record IsKnownResidual (p : Puzzle) (r : Residual) : Type 0 where
  pub items : (w : Wanted) → IsIn r.items w → IsPrimary p w.item
  pub options : (o : Numbered) → IsIn r.options o → IsIn (numbered_options p) o
  pub few : length r.options ≤ option_count p

-- a choice whose counts are at most the options and one
pub record IsCounted (p : Puzzle) (c : Choice) : Type 0 where
  pub known : IsKnownChoice p c
  pub k : c.k ≤ option_count p + 1
  pub n : c.n ≤ option_count p + 1

abbrev pub AreCounted : Puzzle → List Choice → Type 0
AreCounted p m = AllByRecursion (IsCounted p) m

abbrev IsKnownBranch : Puzzle → Branch → Type 0
IsKnownBranch p b = IsCounted p b.choice × IsKnownResidual p b.next

-- numbered elements, with numbers below b
pub each_numbered : {X : Type 0} (P : X → Type 0) (a b : ℕ) (xs : List X) → a + length xs ≤ b → AllByRecursion P xs
    → AllByRecursion (λ (kx : ℕ × X). (kx.0 < b) × P kx.1) (enumerate_from a xs)
each_numbered P a b [] h all = tt
each_numbered P a b (x ∷ xs) h all = ((omega (arith, h), all.0), each_numbered P (a + 1) b xs (omega (arith, h)) all.1)

pick_known : (p : Puzzle) (r : Residual) (i : ℕ) (x : Numbered) → IsKnownResidual p r → IsKnownResidual p (pick r i x)
pick_known p r i x known = grind (arith, in-map, in-filter, item-spend_one, length-filter-le, goes_on)

none_known : (p : Puzzle) (r : Residual) (i : ℕ) → IsKnownResidual p r → IsKnownResidual p (none r i)
none_known p r i known = grind (arith, in-filter, length-filter-le)

branch_known : (p : Puzzle) (r : Residual) (w : Wanted) (b : Branch) → IsKnownResidual p r → IsPrimary p w.item
    → IsIn (branches_of r w) b → IsKnownBranch p b
branch_known p r w b known item h =
    let n = branch_count r w in
    let held = holding w.item r.options in
    let few : n ≤ option_count p + 1 = omega (arith, length-filter-le (λ o. holds o w.item) r.options, known.few) in
    elim (in-append (map (take_branch r w.item n) (enumerate_from 1 (take n held))) (nones r w) b h) [
      | inl h ↦
          let from = in-map _ _ _ h in
          let at = each_in _ _ _ (each_numbered (IsIn held) 1 (n + 1) (take n held)
          (omega (arith, length-take n held)) (each_from _ _ (λ o. in-take n held o))) from.1 in
          let x = in-filter _ _ _ at.1 in
          let option = known.options _ x.0 in
          let number = numbered_at 0 p.options from.0.1 option in
          let is : IsOption p from.0.1.number = omega (arith, number.1, number.2) in
          subst (IsKnownBranch p) from.2 (
            record { known = (item, (is, rw (uses_known p _ option) x.1)); k = omega (arith, at.0, few); n = few },
            pick_known p r w.item from.0.1 known,
          )
      | inr h ↦ subst (IsKnownBranch p) (in-nones r w b h).1
          (record { known = (item, tt); k = few; n = few }, none_known p r w.item known)
    ]

counted_to : (p : Puzzle) (r : Residual) → IsKnownResidual p r → (m : List Choice) → IsIn (listing r) m
    → AreCounted p m
counted_to p = by_branches (λ r. IsKnownResidual p r → (m : List Choice) → IsIn (listing r) m → AreCounted p m)
    (λ r e known m h. elim (subst (λ ms. IsIn ms m) (listing_at r None e) h) [
      | inl q ↦ subst (AreCounted p) q tt
      | inr q ↦ absurd q
    ]) (λ r w e later known m h.
    let at = in-level listing w r m (subst (λ ms. IsIn ms m) (listing_at r (Some w) e) h) in
    let b = branch_known p r w at.0 known (known.items w (branch_item-in r w e)) at.2 in
    subst (AreCounted p) at.4 (b.0, later at.0 at.2 b.1 at.1 at.3))

whole_known : (p : Puzzle) → IsKnownResidual p (whole p)
whole_known p = record {
  items = λ w h. let at = with_bounds 0 p.bounds w h in (omega (arith, at.2), omega (arith, at.2, at.3));
  options = λ o h. h;
  few = omega (arith, length-numbered_from 1 p.options);
}

pub member_counted : (p : Puzzle) (m : List Choice) → IsIn (members p) m → AreCounted p m
member_counted p m h = counted_to p (whole p) (whole_known p) m h

pub members_known : (p : Puzzle) → All (All (IsKnownChoice p)) (members p)
members_known p =
    All-from_recursion (All (IsKnownChoice p)) (members p) (each_from _ _ (λ m h.
    All-from_recursion (IsKnownChoice p) m (each_weaker _ _ _ (λ c k. k.known) (member_counted p m h))))

-- ======== The lines of an output.

abbrev pub choice_words : Named → Choice → List (List ℕ)
choice_words p c = body_words p c.item c.option

abbrev pub choice_line : Named → Choice → List ℕ
choice_line p c = spaced (choice_words p c ++ ending_words c.k c.n)

abbrev pub header_line : ℕ → List ℕ
header_line n = decimal n ++ codes ":"

abbrev pub member_lines : Named → ℕ × List Choice → List (List ℕ)
member_lines p nm = header_line nm.0 ∷ map (choice_line p) nm.1

abbrev pub output_lines : Named → List (ℕ × List Choice) → List (List ℕ)
output_lines p nms = flat_map (member_lines p) nms

-- a member with its number
abbrev pub IsNumberedMember : Named → ℕ × List Choice → Type 0
IsNumberedMember p nm = (nm.0 < 2 ^ 64) × IsIn (members p.puzzle) nm.1

body-spaced : (p : Named) (i : ℕ) (o : Option ℕ) → body_text p i o ≡ spaced (body_words p i o)
body-spaced p i (Some o) = sym (flat_map-map (λ w. 32 ∷ w) (use_word p) (from_item i (uses_of p.puzzle o)))
body-spaced p i None = ap (λ t. codes " null " ++ t) (sym (append-nil (bytes_at p.names i)))

pub choice-ended : (p : Named) (c : Choice) → choice_text p c ≡ choice_line p c ++ 10 ∷ []
choice-ended p c = grind (arith, body-spaced, flat_map-append, append_assoc, append-nil)

choices-ended : (p : Named) (m : List Choice) → flat_map (choice_text p) m ≡ ended (map (choice_line p) m)
choices-ended p [] = refl
choices-ended p (c ∷ m) = grind (arith, choice-ended, append_assoc, choices-ended p m)

pub member-ended : (p : Named) (nm : ℕ × List Choice) → member_text p nm ≡ ended (member_lines p nm)
member-ended p nm = grind (arith, append_assoc, choices-ended)

module _ (p : Named) (sound : IsSound p) (none : All (λ n. n ≢ codes "null") p.names) where
  pub read-choice_line : (c : Choice) → IsCounted p.puzzle c → (read (choice_line p c) ≡ Body (choice_words p c))
      × (has 10 (choice_line p c) ≡ false)
  read-choice_line c h =
      let is = told p sound none c.item c.option h.known.0 h.known.1 in
      let few = sound.limits.options in
      read-choice (choice_words p c) c.k c.n is.some is.plain (omega (arith, h.k, few)) (omega (arith, h.n, few))

  choices-whole : (m : List Choice) → AreCounted p.puzzle m → AreWhole (map (choice_line p) m)
  choices-whole [] all = tt
  choices-whole (c ∷ m) all = ((read-choice_line c all.0).1, choices-whole m all.1)

  pub lines_of-members : (nms : List (ℕ × List Choice)) → AllByRecursion (IsNumberedMember p) nms
      → lines_of (flat_map (member_text p) nms) ≡ output_lines p nms
  lines_of-members [] all = refl
  lines_of-members (nm ∷ nms) all =
      ap (λ t. lines_of (t ++ flat_map (member_text p) nms)) (member-ended p nm)
      ∙ lines_of-ended (member_lines p nm) (flat_map (member_text p) nms)
      (no_feed-header nm.0 all.0.0, choices-whole nm.1 (member_counted p.puzzle nm.1 all.0.1))
      ∙ ap (λ ls. member_lines p nm ++ ls) (lines_of-members nms all.1)

-- ======== What is printed for a problem is a listing without a fault, and each listed solution is a cover.

abbrev solution_of : Named → ℕ × List Choice → Solution
solution_of p nm = record { number = nm.0; bodies = map (choice_words p) nm.1 }

each_yes : (p : Named) (ss : List Solution) (vs : List Verdict) → AllByRecursion (λ s. IsListedCover p s.bodies) ss
    → AllZip (IsVerdictOn p) ss vs → AllByRecursion (λ v. IsTrue v.cover) vs
each_yes p [] [] covers h = tt
each_yes p (s ∷ ss) (v ∷ vs) covers h = (h.0.1.1 covers.0, each_yes p ss vs covers.1 h.1)
each_yes p _ _ covers h = absurd h

module _ (p : Named) (sound : IsSound p) (none : All (λ n. n ≢ codes "null") p.names) where
  -- ---- faults

  no_fault-choices : (n : ℕ) (m : List Choice) (rest : List (List ℕ)) → 0 < n → AreCounted p.puzzle m
      → ((k : ℕ) → 0 < k → fault_in_lines p k rest ≡ None) → fault_in_lines p n (map (choice_line p) m ++ rest) ≡ None
  no_fault-choices n [] rest h all later = later n h
  no_fault-choices n (c ∷ m) rest h all later =
      let is = told p sound none c.item c.option all.0.known.0 all.0.known.1 in
      let reads = read-choice_line p sound none c all.0 in
      grind (arith, lines-cons, no_fault-choices (n + 1) m rest (omega arith) all.1 later)

  no_fault-members : (n : ℕ) (nms : List (ℕ × List Choice)) → AllByRecursion (IsNumberedMember p) nms
      → fault_in_lines p n (output_lines p nms) ≡ None
  no_fault-members n [] all = refl
  no_fault-members n (nm ∷ nms) all =
      let first = lines-cons p n (header_line nm.0) (map (choice_line p) nm.1 ++ output_lines p nms) in
      rw (first, read-header nm.0 all.0.0)
      (no_fault-choices (n + 1) nm.1 (output_lines p nms) (omega arith) (member_counted p.puzzle nm.1 all.0.1)
      (λ k h. no_fault-members k nms all.1))

  -- ---- what is listed

  listing_of-choices : (m : List Choice) (rest : List (List ℕ)) → AreCounted p.puzzle m
      → listing_of (map (choice_line p) m ++ rest)
      ≡ record { loose = map (choice_words p) m ++ (listing_of rest).loose; solutions = (listing_of rest).solutions }
  listing_of-choices [] rest all = refl
  listing_of-choices (c ∷ m) rest all = cc ((read-choice_line p sound none c all.0).0, listing_of-choices m rest all.1)

  listing_of-members : (nms : List (ℕ × List Choice)) → AllByRecursion (IsNumberedMember p) nms
      → listing_of (output_lines p nms) ≡ record { loose = []; solutions = map (solution_of p) nms }
  listing_of-members [] all = refl
  listing_of-members (nm ∷ nms) all =
      grind (arith, listing_of-choices, member_counted, read-header, append-nil, listing_of-members nms all.1)

  -- ---- covers

  each_stands : (m : List Choice) → AreCounted p.puzzle m
      → AllZip (λ words o. IsTrue (stands_for p words o)) (filter (is_known p) (map (choice_words p) m))
      (options_of m)
  each_stands [] all = tt
  each_stands (c ∷ m) all =
      let is = told p sound none c.item c.option all.0.known.0 all.0.known.1 in
      grind (arith, by_option, each_stands m all.1)

  listed_cover : (nm : ℕ × List Choice) → IsNumberedMember p nm → IsListedCover p (solution_of p nm).bodies
  listed_cover nm h = (
    options_of nm.1,
    each_stands nm.1 (member_counted p.puzzle nm.1 h.1),
    All-contains (λ m. IsCover p.puzzle (options_of m)) (members p.puzzle) nm.1
        (each_member_covers p.puzzle sound.valid) (contains-in (members p.puzzle) nm.1 h.1),
  )

  module _ (spacing limit : ℕ) (fits : limit < 2 ^ 64) where
    outputs_are_covers : (fault_in_lines p 0 (lines_of (output p spacing limit)) ≡ None)
        × AllByRecursion (λ s. IsListedCover p s.bodies) (solutions_of (lines_of (output p spacing limit)))
    outputs_are_covers =
        let first = take limit (members p.puzzle) in
        let nms = filter (λ nm. is_printed spacing nm.0) (enumerate_from 1 first) in
        let numbered = each_numbered (IsIn (members p.puzzle)) 1 (2 ^ 64) first
        (omega (arith, fits, length-take limit (members p.puzzle))) (each_from _ first (in-take limit _)) in
        let all = each-filter (IsNumberedMember p) _ (enumerate_from 1 first) numbered in
        let lines = lines_of-members p sound none nms all in
        let solutions = ap solutions_of lines ∙ sym (listed_solutions (output_lines p nms))
        ∙ ap (λ (l : Listing). l.solutions) (listing_of-members nms all) in (
          ap (fault_in_lines p 0) lines ∙ no_fault-members 0 nms all,
          subst (AllByRecursion (λ (s : Solution). IsListedCover p s.bodies)) (sym solutions)
              (each-map _ _ _ (each_weaker _ _ _ listed_cover all)),
        )

    wants_memory : (listing : List ℕ) (e : ListingFault) → listing ≡ output p spacing limit
        → IsListingFault p (lines_of listing) e → e ≡ Memory
    wants_memory listing e is first = grind (arith, nat_tests, outputs_are_covers)

    all_yes : (listing : List ℕ) (vs : List Verdict) → listing ≡ output p spacing limit
        → AreVerdicts p (lines_of listing) vs → All (λ v. IsTrue v.cover) vs
    all_yes listing vs is verdicts =
        All-from_recursion (λ v. IsTrue v.cover) vs
        (each_yes p (solutions_of (lines_of (output p spacing limit))) vs outputs_are_covers.1
        (subst (λ text. AreVerdicts p (lines_of text) vs) is verdicts))

    -- what the checker may answer
    pub judged : (listing : List ℕ) (r : Result (Vec Verdict Global) ListingFault) → listing ≡ output p spacing limit
        → IfOk r (λ vs. AreVerdicts p (lines_of listing) vs.items) → IfErr r (IsListingFault p (lines_of listing))
        → MatchResult r (λ vs. All (λ v. IsTrue v.cover) vs.items) (λ e. e ≡ Memory)
    judged listing (Ok vs) is verdicts fault = all_yes listing vs.items is verdicts
    judged listing (Err e) is verdicts fault = wants_memory listing e is fault
