-- What is written: texts, words, numbers and the members of a search, one after another.
use Rattle.std.proofs.Common.{◌≡◌, ℕ, ◌≤◌, ◌-◌, List, ◌++◌, Some, length, take, drop, ap, ◌∙◌}
use Rattle.std.proofs.Common.{append_assoc, arith, ◌+◌, ◌<◌, [], ◌∷◌, Result, Ok, Err, get_or, append-nil, subst, zero}
use Rattle.std.proofs.Common.{suc, refl, ◌^◌, ◌&&◌, true, false, map, take_all}
use Rattle.std.proofs.Common.{filter, sym, add-one, lt-ltb, ◌/◌, ◌%◌, Bool}
use Rattle.std.proofs.lemmas.Grind.{common_steps}
use Rattle.std.specs.Prelude.{flat_map, codes, All, ◌==◌, decimal, fold, slice_get, slice_set, ◌||◌}
use Rattle.std.specs.Prelude.{nat_le}
use Rattle.std.proofs.lemmas.Bool.Decides.{nat_tests}
use Rattle.std.proofs.lemmas.List.Concat.{flat_map-append}
use Rattle.std.proofs.Math.Seq.{take-append-add, take-add, drop-cons, drop-append-add}
use Rattle.std.proofs.lemmas.List.{drop_more, drop-drop, take-take, take-append-drop, length-drop}
use Rattle.std.proofs.lemmas.List.{drop-set-lt, drop-append-le, length-take, length-take-le, drop-set, drop-set-add}
use Rattle.std.proofs.lemmas.List.{length-map}
use Rattle.std.specs.Char.{is_ascii_digit}
use Rattle.std.specs.List.{list_all, AllByRecursion, slice_split, enumerate_from}
use Rattle.std.specs.Str.{byte, bytes_eq}
use Rattle.std.proofs.lemmas.Fmt.{decimal_nonempty, digits_value-decimal, digits_decimal}
use Rattle.std.proofs.lemmas.List.Elements.{recursion_from_All, All-head, All-drop, All-from_recursion}
use Rattle.std.proofs.lemmas.List.Splits.{slice_split_none, slice_split_at}
use Rattle.std.proofs.lemmas.Bool.{cases_Bool}
use Rattle.std.proofs.lemmas.Simd.{take_more_put_chunk, length-chunk}
use Rattle.std.proofs.lemmas.Slice.{between_is}
use Rattle.std.proofs.lemmas.List.FromFn.{length-enumerate_from}
use Rattle.std.specs.Int.{byte_at, bytes_high_first, to_be_bytes, w64}
use Rattle.std.proofs.lemmas.List.Folds.{list_all_at}
use Rattle.xc_input.specs.declared.problem.Use.{Use}
use Rattle.xc_input.specs.UsePlaces.{place_in}
use Rattle.xc_input.specs.Named.{Named, IsSound}
use Rattle.xc_input.proofs.TokenLemmas.{digits_read}
use Rattle.xc_text.proofs.ListLemmas.{drop_at, slice_get-drop, by_option, in-slice_get, each_in, by_bool}
use Rattle.xc_input.proofs.FaultLemmas.{COLON}
use Rattle.xc_search.specs.declared.choice.Choice.{Choice}
use Rattle.xc_search.specs.Cover.{members}
use Rattle.xc_search.specs.Outlook.{Outlook, shown_after}
use Rattle.xc_search.specs.Ends.{ends_after}
use Rattle.xc_search.specs.Listing.{Residual, whole, branch_item, branches_of}
use Rattle.xc_search.specs.InSpan.{branches_left, left_by_number, branches_along}
use Rattle.xc_search.specs.Nodes.{IsRowOf}
use Rattle.xc_search.specs.inner.Levels.{size_of}
use Rattle.xc_search.proofs.LoopSteps.{drop_past, shown_next, shown_past}
use Rattle.xc_search.proofs.ListingLemmas.{few_branches, branches_less}
use Rattle.xc_text.proofs.SinkLemmas.{then_took, then_broke, broke_before}
use Rattle.xc_text.proofs.NumberLemmas.{some_digits}
use Rattle.xc_list.specs.inner.Writing.{printed_text, StandsAt, Puts, held_text, digest_start}
use Rattle.xc_check.specs.UseTexts.{from_item}
use Rattle.xc_list.specs.Output.{output, is_printed, member_text}
use Rattle.xc_text.specs.Texts.{SinkState, Took, BrokeOff}
use Rattle.xc_text.specs.LongNumbers.{long_number}
use Rattle.xc_list.specs.Settings.{read_word}
use Rattle.xc_list.specs.SpanTexts.{row_text}
use Rattle.xc_list.specs.SpanWords.{row_numbers, row_word}
use Rattle.xc_list.specs.declared.words.Words.{Words}
use Rattle.xc_list.specs.declared.words.WordFault.{WordFault}
use Rattle.xc_list.specs.Runs.{StoppedAt, IsRun}
use Rattle.xc_list.specs.declared.ends.End.TheVariants.{Done}
use Rattle.xc_list.specs.declared.places.TheConstants.{ROOM}
use Rattle.xc_list.specs.SearchedSpans.{AreSmall}
use Rattle.xc_list.specs.Digests.{problem_numbers, digest_after, digest_of, digits_of}
use Rattle.xc_list.specs.inner.Writing.{digest_multiplier}
use Rattle.xc_list.specs.declared.text_digest.TextDigest.{TextDigest}
use Rattle.xc_text.specs.Hashing.{taken}
use lib.Lanes.{put_chunk, chunk}
use Rattle.hex.specs.Hex.{encode_with, lower_digits}
use Rattle.hex.proofs.HexLemmas.{length-encode_with}

-- ======== The texts of a list, one after another.

pub one_more : {X A : Type 0} (f : X → List A) (xs : List X) (x : X)
    → flat_map f (xs ++ x ∷ []) ≡ flat_map f xs ++ f x
one_more f xs x = flat_map-append f xs (x ∷ []) ∙ ap (λ ys. flat_map f xs ++ ys) (append-nil (f x))

pub option_texts : (f : Use → List ℕ) (item : ℕ) (all us before after : List Use) (p : ℕ) → us ≡ all
    → p ≡ place_in item us
    → before ≡ take p us → after ≡ drop p us → flat_map f (from_item item all) ≡ flat_map f after ++ flat_map f before
option_texts f item all us before after p e at b a = grind (arith, flat_map-append)

-- ======== A row is told by its text.

-- ---- one number

pub number_read : (n : ℕ) → n < 2 ^ 64 → long_number (decimal n) ≡ Some n
number_read n h = grind (arith, digits_value-decimal, digits_read, digits_decimal, some_digits, decimal_nonempty)

digits_lack : (bs : List ℕ) → list_all is_ascii_digit bs ≡ true
    → AllByRecursion (λ b. (b == byte ".") ≡ false) bs
digits_lack [] h = tt
digits_lack (b ∷ bs) h = grind (arith, nat_tests, digits_lack bs)

-- ---- the numbers of a row

pieces : (n : ℕ) (row : List ℕ) → n < 2 ^ 32 → AllByRecursion (λ k. k < 2 ^ 32) row
    → slice_split (λ b. b == byte ".") (decimal n ++ flat_map (λ k. codes "." ++ decimal k) row)
    ≡ decimal n ∷ map decimal row
pieces n [] h all =
    grind (arith, common_steps, append-nil, slice_split_none, digits_lack, digits_decimal, digits_read)
pieces n (k ∷ row) h all =
    grind (arith, common_steps, slice_split_at, digits_lack, digits_decimal, digits_read, pieces k row all.0 all.1)

numbers_read : (row : List ℕ) → AllByRecursion (λ k. k < 2 ^ 32) row → row_numbers (map decimal row) ≡ Some row
numbers_read [] all = refl
numbers_read (n ∷ row) all = grind (arith, number_read, numbers_read row all.1)

first_not_dash : (bs text : List ℕ) → list_all is_ascii_digit bs ≡ true → 0 < length bs
    → bytes_eq (bs ++ text) (codes "-") ≡ false
first_not_dash [] text h some = absurd (omega (arith, some))
first_not_dash (b ∷ bs) text h some = grind (arith, nat_tests)

not_dash : (n : ℕ) (text : List ℕ) → n < 2 ^ 64 → bytes_eq (decimal n ++ text) (codes "-") ≡ false
not_dash n text h = first_not_dash (decimal n) text (digits_decimal digits_read n h) (decimal_nonempty n h)

by_recursion : (row : List ℕ) → AllByRecursion (λ n. n < 2 ^ 32) row → row_word (row_text row) ≡ Some row
by_recursion [] all = refl
by_recursion (n ∷ row) all =
    grind (arith, not_dash, pieces n row all.0 all.1, numbers_read (n ∷ row) all)

-- the row that a row's text tells is that row
pub row_word-row_text : (row : List ℕ) → All (λ n. n < 2 ^ 32) row → row_word (row_text row) ≡ Some row
row_word-row_text row all = by_recursion row (recursion_from_All (λ n. n < 2 ^ 32) row all)

-- ======== Words of a command line, one after another.

-- what words make of those before them; the first faulty one ends it
abbrev pub read_on : ℕ → Result Words WordFault → List (List ℕ) → Result Words WordFault
read_on place (Err e) xs = Err e
read_on place (Ok w) [] = Ok w
read_on place (Ok w) (x ∷ xs) = read_on (place + 1) (read_word place w x) xs

pub in_turn : (n : ℕ) (r : Result Words WordFault) (xs : List (List ℕ))
    → fold (λ r word. elim r [ Ok w ↦ read_word word.0 w word.1 | Err e ↦ Err e ]) r (enumerate_from n xs) ≡
    read_on n r xs
in_turn n (Err e) [] = refl
in_turn n (Err e) (x ∷ xs) = in_turn (n + 1) (Err e) xs
in_turn n (Ok w) [] = refl
in_turn n (Ok w) (x ∷ xs) = in_turn (n + 1) (read_word n w x) xs

-- ======== The output grows member by member.

-- ---- the next element of a list

module _ {X : Type 0} (ms : List X) (k : ℕ) {m : X} {rest : List X} (e : drop k ms ≡ m ∷ rest) where
  pub take_next : take (k + 1) ms ≡ take k ms ++ m ∷ []
  take_next = take-add k 1 ms ∙ ap (λ l. take k ms ++ take 1 l) e

  pub rest_next : rest ≡ drop (k + 1) ms
  rest_next = sym (ap (drop 1) e) ∙ drop-drop 1 k ms

  pub within_next : k < length ms
  within_next = grind (arith, common_steps)

  -- what holds of all holds of the next
  pub holds_next : (P : X → Type 0) → All P ms → P m
  holds_next P all = All-head P m rest (subst (All P) e (All-drop P k ms all))

pub all_done : {X : Type 0} (ms : List X) (k : ℕ) → drop k ms ≡ [] → k ≤ length ms → k ≡ length ms
all_done ms k e h = omega (arith, ap length e, length-drop k ms, h)

enumerate_append : {X : Type 0} (n : ℕ) (xs ys : List X) → enumerate_from n
    (xs ++ ys) ≡ enumerate_from n xs ++ enumerate_from (n + length xs) ys
enumerate_append n [] ys = let e : n ≡ n + 0 = omega arith in ap (λ k. enumerate_from k ys) e
enumerate_append n (x ∷ xs) ys = grind (arith, nat_tests, enumerate_append (n + 1) xs ys)

-- ---- the texts of the first elements, numbered from 1

abbrev pub first_texts : {X : Type 0} → (ℕ × X → List ℕ) → List X → ℕ → List ℕ
first_texts f ms n = flat_map f (enumerate_from 1 (take n ms))

texts_append : {X : Type 0} (f : ℕ × X → List ℕ) (xs ys : List X) → flat_map f (enumerate_from 1 (xs ++ ys))
    ≡ flat_map f (enumerate_from 1 xs) ++ flat_map f (enumerate_from (1 + length xs) ys)
texts_append f xs ys = simp (enumerate_append, flat_map-append)

texts_behind : {X : Type 0} (f : ℕ × X → List ℕ) (ms : List X) (k limit : ℕ) → k ≤ limit
    → (tail : List ℕ) × (first_texts f ms limit ≡ first_texts f ms k ++ tail)
texts_behind f ms k limit h =
    let rest = drop k (take limit ms) in
    let whole = take-append-drop k (take limit ms) in
    let texts = texts_append f (take k ms) rest in
    (flat_map f (enumerate_from (1 + length (take k ms)) rest), cc (take-take k limit ms h))

module _ {X : Type 0} (f : ℕ × X → List ℕ) (ms : List X) (k : ℕ) where
  pub texts_all : (limit : ℕ) → length ms ≤ k → k ≤ limit → first_texts f ms limit ≡ first_texts f ms k
  texts_all limit e h = cc (take_all k ms e, take_all limit ms (omega (arith, e, h)))

  pub texts_next : {m : X} {rest : List X} → drop k ms ≡ m ∷ rest
      → first_texts f ms (k + 1) ≡ first_texts f ms k ++ f (k + 1, m)
  texts_next {m = m} e = grind (arith, common_steps, k, within_next, take_next, texts_append, append-nil)

  -- a sink that broke off in the next one broke off in all of them
  pub texts_broke : (limit : ℕ) {m : X} {rest : List X} {x y z : SinkState} → drop k ms ≡ m ∷ rest → k < limit
      → Took x y (first_texts f ms k) → BrokeOff y z (f (k + 1, m)) → BrokeOff x z (first_texts f ms limit)
  texts_broke limit {x = x} {z = z} e below so_far broke =
      let more = texts_behind f ms (k + 1) limit (omega (arith, below)) in
      subst (BrokeOff x z) (sym (more.1 ∙ ap (λ t. t ++ more.0) (texts_next e)))
      (broke_before more.0 (then_broke so_far broke))

-- ---- the output

printed_texts : (a : Named) (spacing : ℕ) (nms : List (ℕ × List Choice))
    → flat_map (member_text a) (filter (λ nm. is_printed spacing nm.0) nms) ≡ flat_map (printed_text a spacing) nms
printed_texts a spacing [] = refl
printed_texts a spacing (nm ∷ nms) = grind (arith, nat_tests, printed_texts a spacing nms)

pub output_texts : (a : Named) (spacing n : ℕ)
    → output a spacing n ≡ first_texts (printed_text a spacing) (members a.puzzle) n
output_texts a spacing n = printed_texts a spacing (enumerate_from 1 (take n (members a.puzzle)))

pub output_next : (a : Named) (spacing k : ℕ) {m : List Choice} {rest : List (List Choice)}
    → drop k (members a.puzzle) ≡ m ∷ rest
    → output a spacing (k + 1) ≡ output a spacing k ++ printed_text a spacing (k + 1, m)
output_next a spacing k e = grind (arith, texts_next, members, output_texts)

-- a sink that broke off in a member's text broke off in the output
pub stopped_broke : (a : Named) (spacing limit t : ℕ) {x z : SinkState} → StoppedAt a spacing limit t x z
    → BrokeOff x z (output a spacing limit)
stopped_broke a spacing limit zero s = absurd (omega (arith, s.within.0))
stopped_broke a spacing limit (suc k) {x = x} {z = z} s =
    let ms = members a.puzzle in
    let back : suc k - 1 ≡ k = omega arith in
    let again : k + 1 ≡ suc k = omega arith in
    let text : member_text a (suc k, s.member) ≡ printed_text a spacing (k + 1, s.member) =
    rw (again, s.printed) refl in
    subst (BrokeOff x z) (sym (output_texts a spacing limit))
    (grind (arith, texts_broke, drop_at, output_texts))

-- ======== A search that goes on to the next member that is printed.

next_of : {X : Type 0} (xs : List X) (n : ℕ) → n < length xs → (x : X) × (drop n xs ≡ x ∷ drop (n + 1) xs)
next_of [] n h = absurd (omega (arith, h))
next_of (x ∷ xs) n h = (get_or (x ∷ xs) n x, drop_more (x ∷ xs) n x h)

-- none of the members behind the k-th and before the one numbered end is printed
abbrev pub AreSilent : ℕ → ℕ → ℕ → Type 0
AreSilent spacing k end = (j : ℕ) → k < j → j < end → is_printed spacing j ≡ false

output_silent : (a : Named) (spacing k n : ℕ) → k + n ≤ length (members a.puzzle) → AreSilent spacing k (k + n + 1)
    → output a spacing (k + n) ≡ output a spacing k
output_silent a spacing k zero h s = let e : k + 0 ≡ k = omega arith in ap (output a spacing) e
output_silent a spacing k (suc n) h s =
    let next = output_next a spacing (k + n) (next_of (members a.puzzle) (k + n) (omega (arith, h))).1 in
    let before = output_silent a spacing k n (omega (arith, h)) (λ j from below. s j from (omega (arith, below))) in
    grind (arith, nat_tests, s ((k + n) + 1) (omega arith) (omega arith), append-nil (output a spacing (k + n)))

-- Behind the k-th member it reached the one numbered t, the next to print or the last up to the limit, and shows it.
pub record Reaches (a : Named) (spacing k t : ℕ) (o : Outlook) : Type 0 where
  pub last : ℕ
  pub number : last + 1 ≡ t
  pub next : drop last (members a.puzzle) ≡ o.shown ∷ o.to_come
  pub same : output a spacing last ≡ output a spacing k

pub reaches : (a : Named) (spacing k n : ℕ) (o p : Outlook) → o.to_come ≡ drop k (members a.puzzle)
    → p ≡ record o {
      to_come = drop n o.to_come;
      shown = shown_after n o.to_come o.shown;
      ahead = ends_after n o.ahead;
      made = p.made;
    } → 0 < n
    → n ≤ length o.to_come → AreSilent spacing k (k + n) → Reaches a spacing k (k + n) p
reaches a spacing k n o p come went some enough silent =
    let ms = members a.puzzle in
    let next = next_of o.to_come (n - 1) (omega (arith, some, enough)) in
    grind (arith, shown_next, drop-drop, output_silent, length-drop)

-- all members were passed over
pub ends : (a : Named) (spacing limit k n passed : ℕ) {x y : SinkState} → k ≤ length (members a.puzzle)
    → passed ≡ length (drop k (members a.puzzle)) → passed < n → k + n ≤ limit → AreSilent spacing k (k + n)
    → Took x y (output a spacing k) → IsRun a spacing limit x y (Done (k + passed))
ends a spacing limit k n passed {x = x} {y = y} within all less few silent so_far =
    let end : k + passed ≡ length (members a.puzzle) = omega (arith, all, within, length-drop k (members a.puzzle)) in
    grind (arith, common_steps, output_silent, texts_all, output_texts, lt-ltb)

module _ {a : Named} {spacing k t : ℕ} {o : Outlook} (to : Reaches a spacing k t o) where
  pub stands : StandsAt (members a.puzzle) t o
  stands = grind (arith, common_steps, members, rest_next, add-one, slice_get-drop, slice_get)

  pub within : t ≤ length (members a.puzzle)
  within = omega (arith, within_next (members a.puzzle) to.last to.next, to.number)

  -- its text was taken, or broke off
  pub takes : {x y z : SinkState} → Took x y (output a spacing k) → Took y z (printed_text a spacing (t, o.shown))
      → Took x z (output a spacing t)
  takes {x = x} {y = y} {z = z} so_far more = grind (arith, to, a, o, output_next, then_took)

  pub stops : (limit : ℕ) {x y z : SinkState} → t ≤ limit → Took x y (output a spacing k)
      → BrokeOff y z (printed_text a spacing (t, o.shown)) → StoppedAt a spacing limit t x z
  stops limit {x = x} {y = y} below so_far broke = grind (arith, cases_Bool, stands)

-- where there were no more, none is shown and none is to come
pub none_left : (n : ℕ) (o p : Outlook)
    → p ≡ record o {
      to_come = drop n o.to_come;
      shown = shown_after n o.to_come o.shown;
      ahead = ends_after n o.ahead;
      made = p.made;
    } → length o.to_come < n
    → (p.shown ≡ []) × (p.to_come ≡ [])
none_left n o p w h = grind (arith, nat_tests, shown_past n o.to_come o.shown h, drop_past n o.to_come)

-- ======== A text that is put together on a page.

-- a text put on the page is held behind what was held
pub held_more : (page more text : List ℕ) (from to end : ℕ) → from ≤ to → to ≤ length page
    → take end more ≡ take to page ++ text → held_text more from end ≡ held_text page from to ++ text
held_more page more text from to end h l e = grind (arith, length-take, drop-append-le)

-- the texts of the front of a list were put, up to where the rest begins
pub record PutsFront (a b : SinkState) {X : Type 0} (before held : List ℕ) (f : X → List ℕ) (rest all : List X) : Type 0
  where
    pub done : List X
    pub whole : done ++ rest ≡ all
    pub puts : Puts a b before held (flat_map f done)

-- the sink took all
pub puts_out : {a b : SinkState} {before text : List ℕ} → Took a b (before ++ text) → Puts a b before [] text
puts_out {before = before} {text = text} t = grind (arith, append-nil)

pub then_puts : {a b c : SinkState} {x y z t u : List ℕ} → Puts a b x y t → Puts b c y z u → Puts a c x z (t ++ u)
then_puts {x = x} {y = y} {z = z} {t = t} {u = u} p q = record {
  front = p.front ++ q.front;
  took = then_took p.took q.took;
  whole = cc (append_assoc x t u, p.whole, append_assoc p.front y u, q.whole, append_assoc p.front q.front z);
}

-- the sink broke off in what was held with a text behind it
pub puts_broke : {a b c : SinkState} {x y t : List ℕ} (u : List ℕ) → Puts a b x y t → BrokeOff b c (y ++ u)
    → BrokeOff a c (x ++ (t ++ u))
puts_broke {a = a} {c = c} {x = x} {y = y} {t = t} u p q = grind (arith, append_assoc, then_broke)

-- a short part, put by one store of 16 bytes
pub short_put : (page text : List ℕ) (at from count : ℕ) → count ≤ 16 → at + count + 16 ≤ length page
    → from + count + 16 ≤ length text
    → take (at + count) (put_chunk at page (chunk from 16 text)) ≡ take at page ++ take count (drop from text)
short_put page text at from count few room long =
    let put = take_more_put_chunk at page (chunk from 16 text) (at + 16)
    (omega (arith, length-chunk from 16 text (omega (arith, long)))) (omega (arith, room)) in
    let cut = take-take (at + count) (at + 16) (put_chunk at page (chunk from 16 text)) (omega (arith, few)) in
    let front = take-append-add (take at page) (chunk from 16 text) count in
    cc (length-take-le at page (omega (arith, room)), take-take count 16 (drop from text) few)

colon_line : (page : List ℕ) → length page ≡ ROOM
    → take 2 (drop 20 (slice_set (slice_set page 20 COLON) 21 10)) ≡ COLON ∷ 10 ∷ []
colon_line page size =
    let feed = drop-set-add 20 (slice_set page 20 COLON) 1 10 in
    cc (drop-set page 20 COLON (omega (arith, size)), drop-cons page 21 0 (omega (arith, size)))

-- digits that end at the place of the colon
pub header_held : (page put digits : List ℕ) (from : ℕ) → length page ≡ ROOM → from + length digits ≡ 20
    → drop from put ≡ digits ++ drop 20 (slice_set (slice_set page 20 COLON) 21 10)
    → held_text put from 22 ≡ digits ++ COLON ∷ 10 ∷ []
header_held page put digits from size ends e =
    let line = take-append-add digits (drop 20 (slice_set (slice_set page 20 COLON) 21 10)) 2 in
    grind (arith, nat_tests, between_is put from 22, e, ends, colon_line page size)

-- and nothing behind the line's end changes
pub header_behind : (page put digits : List ℕ) (from : ℕ) → from + length digits ≡ 20
    → drop from put ≡ digits ++ drop 20 (slice_set (slice_set page 20 COLON) 21 10) → drop 22 put ≡ drop 22 page
header_behind page put digits from ends e =
    let last = slice_set (slice_set page 20 COLON) 21 10 in
    let on : drop (length digits + 2) (drop from put) ≡ drop 2 (drop 20 last) =
    ap (drop (length digits + 2)) e ∙ drop-append-add digits (drop 20 last) 2 in
    let there : from + (length digits + 2) ≡ 22 = omega (arith, ends) in
    ap (λ n. drop n put) (sym there) ∙ sym (drop-drop (length digits + 2) from put) ∙ on ∙ drop-drop 2 20 last
    ∙ drop-set-lt 22 (slice_set page 20 COLON) 21 10 (omega arith) ∙ drop-set-lt 22 page 20 COLON (omega arith)

-- the texts of the first of a list, and the next one's
module _ {X : Type 0} {a b : SinkState} {before held : List ℕ} {f : X → List ℕ} {rest next all : List X} {x : X}
    (p : PutsFront a b before held f rest all) (cut : rest ≡ x ∷ next) where
  done : (p.done ++ x ∷ []) ++ next ≡ all
  done = grind (arith, common_steps, cut, p.whole)

  pub line_put : {c : SinkState} {text : List ℕ} → Puts b c held text (f x) → PutsFront a c before text f next all
  line_put {c = c} {text = text} q = search (arith, x, done, a, before, one_more f p.done x, then_puts)

  pub lines_broke : {c : SinkState} → BrokeOff b c (held ++ f x) → BrokeOff a c (before ++ flat_map f all)
  lines_broke q =
      let all_texts : flat_map f all ≡ (flat_map f p.done ++ f x) ++ flat_map f next =
      grind (arith, common_steps, cut, p.whole) in
      rw (all_texts, ← append_assoc before (flat_map f p.done ++ f x) (flat_map f next))
      (broke_before (flat_map f next) (puts_broke (f x) p.puts q))

-- ======== The numbers of a row of a problem that was read are small, and so are the numbers of branches along it.

few_left : (r : Residual) → length (branches_left r) ≤ size_of r + 1
few_left r =
    by_option (branch_item r) (λ e. rw e (omega arith)) (λ w e. rw e (omega (arith, few_branches r w)))

no_larger : (k : ℕ) (r : Residual) → size_of (left_by_number k r) ≤ size_of r
no_larger k r =
    by_option (branch_item r) (λ e. rw e (omega arith)) (λ w e. rw e (by_option (slice_get (branches_of r w) (k - 1))
    (λ f. rw f (omega arith))
    (λ b f. rw f (omega (arith, each_in _ _ _ (branches_less r w e) (in-slice_get _ (k - 1) b f))))))

along_small : (row : List ℕ) (r : Residual) → size_of r + 1 < 2 ^ 64
    → AllByRecursion (λ n. n < 2 ^ 64) (branches_along r row)
along_small [] r h = tt
along_small (k ∷ row) r h =
    (omega (arith, few_left r, h), along_small row (left_by_number k r) (omega (arith, no_larger k r, h)))

row_small : (row : List ℕ) (r : Residual) → size_of r + 1 < 2 ^ 64 → IsRowOf r row
    → AllByRecursion (λ n. n < 2 ^ 64) row
row_small [] r h is = tt
row_small (zero ∷ row) r h is = (omega arith, rw is.1 tt)
row_small (suc k ∷ row) r h is = (
  omega (arith, few_left r, h, is.0),
  row_small row (left_by_number (suc k) r) (omega (
    arith,
    no_larger (suc k) r,
    h,
  )) is.1,
)

module _ (a : Named) (sound : IsSound a) where
  size_small : size_of (whole a.puzzle) + 1 < 2 ^ 64
  size_small = grind (arith, length-map, length-enumerate_from, sound.limits.items, sound.limits.options)

  pub branches_small : (row : List ℕ) → AreSmall (branches_along (whole a.puzzle) row)
  branches_small row = All-from_recursion _ _ (along_small row (whole a.puzzle) size_small)

  pub numbers_small : (row : List ℕ) → IsRowOf (whole a.puzzle) row → AreSmall row
  numbers_small row is = All-from_recursion _ _ (row_small row (whole a.puzzle) size_small is)

-- ======== The digest of a problem is 16 hexadecimal digits in lower case.

-- a hexadecimal digit in lower case
abbrev pub is_lower_hex : ℕ → Bool
is_lower_hex b = is_ascii_digit b || (nat_le (byte "a") b && nat_le b (byte "f"))

abbrev AreBytes : List ℕ → Type 0
AreBytes bytes = AllByRecursion (λ b. b < 256) bytes

low-part : (m : ℕ) → m % 256 < 256
low-part m = omega arith

low-byte : (k n : ℕ) → byte_at k n < 256
low-byte zero n = low-part n
low-byte (suc k) n = low-part _

bytes-word : (k n : ℕ) → AreBytes (bytes_high_first k n)
bytes-word zero n = tt
bytes-word (suc k) n = (low-byte k n, bytes-word k n)

digit-at : (k : ℕ) → k < 16 → is_lower_hex (get_or lower_digits k 0) ≡ true
digit-at k h = by_bool (is_lower_hex (get_or lower_digits k 0)) (λ yes. yes)
    (λ other. absurd (cc (list_all_at is_lower_hex lower_digits k 0 h other)))

encoded : (bytes : List ℕ) → AreBytes bytes → list_all is_lower_hex (encode_with lower_digits bytes) ≡ true
unfolding encode_with
encoded [] h = refl
encoded (b ∷ bytes) h =
    rw (digit-at (b / 16) (omega (arith, h.0)), digit-at (b % 16) (omega arith)) (encoded bytes h.1)

-- the eight bytes of the last state
abbrev hash_bytes : Named → List ℕ
hash_bytes a = to_be_bytes w64 (digest_after digest_start (problem_numbers a))

pub digest-length : (a : Named) → length (digest_of a) ≡ 16
unfolding digest_of
digest-length a = length-encode_with lower_digits (hash_bytes a)

pub digest-digits : (a : Named) → list_all is_lower_hex (digest_of a) ≡ true
unfolding digest_of
digest-digits a = encoded (hash_bytes a) (bytes-word 8 (digest_after digest_start (problem_numbers a)))

-- and so is the digest of a text
abbrev last_state : TextDigest → ℕ
last_state d = taken digest_multiplier (taken digest_multiplier d.state d.word) d.held

pub digits-length : (d : TextDigest) → length (digits_of d) ≡ 16
unfolding digits_of
digits-length d = length-encode_with lower_digits (to_be_bytes w64 (last_state d))

pub digits-digits : (d : TextDigest) → list_all is_lower_hex (digits_of d) ≡ true
unfolding digits_of
digits-digits d = encoded (to_be_bytes w64 (last_state d)) (bytes-word 8 (last_state d))
