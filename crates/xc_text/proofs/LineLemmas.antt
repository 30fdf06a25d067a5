-- Lines of a text, lines that are cut off what was read, and what sources gave: for `line_reader` and what reads by it.
use Rattle.std.proofs.Common.{◌≡◌, ℕ, ◌+◌, List, [], ◌∷◌, ◌++◌, true, false, length, ◌≤◌, drop, inl, inr, ◌≢◌, ◌<◌}
use Rattle.std.proofs.Common.{refl, ap, ◌∙◌, sym, subst, arith, if◌then◌else◌, append-nil, ◌-◌}
use Rattle.std.proofs.Common.{take, nat_eq, append_assoc, get_or}
use Rattle.std.proofs.lemmas.Bool.Decides.{nat_tests}
use Rattle.std.specs.List.{onto_first}
use Rattle.std.proofs.lemmas.Grind.{common_steps, flat_map-append}
use Rattle.std.proofs.lemmas.List.{length-append, length-take, drop-take, drop-drop, take-append-drop}
use Rattle.std.proofs.Math.Seq.{take-append-add}
use Rattle.std.proofs.lemmas.Bool.{or_parts, or_from}
use Rattle.std.proofs.lemmas.List.Folds.{list_any-append}
use Rattle.std.specs.Io.KnownBytes.{Consumes, IsAtEnd, Keeps}
use Rattle.xc_text.specs.Words.{has, after}
use Rattle.xc_text.specs.inner.LineFeeds.{AreWhole, ended, ended_carry}
use Rattle.xc_text.specs.Lines.{lines_of}
use Rattle.xc_text.specs.LinesRead.{IsLine, Came, LastOf}
use Rattle.xc_text.specs.Sources.{SourceState, Gave, GaveAll}
use Rattle.xc_text.proofs.ListLemmas.{each-append}
use Rattle.xc_text.proofs.ByteLemmas.{cut-is, has-at}

pub lacks-append : (b : ℕ) (xs ys : List ℕ) → has b xs ≡ false → has b ys ≡ false → has b (xs ++ ys) ≡ false
lacks-append b xs ys p q = list_any-append (λ x. nat_eq x b) xs ys ∙ or_from (has b xs) (has b ys) p q

pub whole-more : (old new : List (List ℕ)) (line : List ℕ) → new ≡ old ++ line ∷ [] → AreWhole old → has 10 line ≡ false
    → AreWhole new
whole-more old new line e w l = subst AreWhole (sym e) (each-append (λ l. has 10 l ≡ false) old (line ∷ []) w (l, tt))

pub ended-append : (ls ms : List (List ℕ)) → ended (ls ++ ms) ≡ ended ls ++ ended ms
ended-append [] ms = refl
ended-append (l ∷ ls) ms = grind (arith, ended-append ls ms, append_assoc l (10 ∷ ended ls) (ended ms))

-- what stands before a last byte
pub before_end : (whole front : List ℕ) (b : ℕ) → whole ≡ front ++ b ∷ [] → take (length whole - 1) whole ≡ front
before_end whole front b e = grind (arith, common_steps, length-append front (b ∷ []))

-- a line and its line feed at the front
lines_of-line : (l rest : List ℕ) → has 10 l ≡ false → lines_of (l ++ 10 ∷ rest) ≡ l ∷ lines_of rest
lines_of-line [] rest h = refl
lines_of-line (x ∷ l) rest h = grind (arith, or_parts, has, lines_of-line l rest)

pub lines_of-ended : (ls : List (List ℕ)) (rest : List ℕ) → AreWhole ls
    → lines_of (ended ls ++ rest) ≡ ls ++ lines_of rest
lines_of-ended [] rest h = refl
lines_of-ended (l ∷ ls) rest h = grind (arith, append_assoc, ended, lines_of-line, lines_of-ended ls rest h.1)

-- the first line of a text
pub first_line : (text line rest : List ℕ) → has 10 line ≡ false → text ≡ line ++ 10 ∷ rest
    → lines_of text ≡ line ∷ lines_of rest
first_line text line rest h e = cc (append_assoc line (10 ∷ []) rest, lines_of-ended (line ∷ []) rest (h, tt))

-- lines that line feeds end
pub lines_of-all : (ls : List (List ℕ)) → AreWhole ls → lines_of (ended ls) ≡ ls
lines_of-all ls h = ap lines_of (sym (append-nil (ended ls))) ∙ lines_of-ended ls [] h ∙ append-nil ls

-- the last byte of a part of a line
pub last-of-part : (part : List ℕ) → has 10 part ≡ false → 0 < length part → (front : List ℕ) × (last : ℕ)
    × (part ≡ front ++ last ∷ []) × (last ≢ 10)
last-of-part [] h p = absurd (omega arith)
last-of-part (x ∷ []) h p = ([], x, refl, grind (arith, nat_tests))
last-of-part (x ∷ y ∷ l) h p =
    let more = last-of-part (y ∷ l) (or_parts (nat_eq x 10) (has 10 (y ∷ l)) h).1 (omega arith) in
    (x ∷ more.0, more.1, ap (λ r. x ∷ r) more.2, more.3)

-- a last line without its line feed
pub lines_of-part : (l : List ℕ) → has 10 l ≡ false → 0 < length l → lines_of l ≡ l ∷ []
lines_of-part [] h p = absurd (omega arith)
lines_of-part (x ∷ []) h p = grind (arith, nat_tests, or_parts (nat_eq x 10) false h)
lines_of-part (x ∷ y ∷ l) h p = grind (arith, or_parts, has, lines_of-part (y ∷ l))

onto-whole : (b : ℕ) (ls : List (List ℕ)) → nat_eq b 10 ≡ false → AreWhole ls → AreWhole (onto_first b ls)
onto-whole b [] h w = (grind (arith, nat_tests, h), tt)
onto-whole b (l ∷ ls) h w = (grind (arith, nat_tests, h, w.0), w.1)

-- no line of a text has a line feed in it
pub lines_of-whole : (bs : List ℕ) → AreWhole (lines_of bs)
lines_of-whole [] = tt
lines_of-whole (b ∷ bs) = grind (arith, onto-whole, lines_of-whole bs)

-- a list cut behind a byte
pub cut_behind : (xs ys : List ℕ) (k b : ℕ) → k < length xs → xs ≡ take k xs ++ b ∷ ys
    → (xs ≡ take (k + 1) xs ++ ys) × (take (k + 1) xs ≡ take k xs ++ b ∷ [])
cut_behind xs ys k b h e = grind (arith, common_steps, length-take, take-append-add, append_assoc)

-- the first line feed is found at k
pub found-line : (xs : List ℕ) (k : ℕ) → k < length xs → ((j : ℕ) → j < k → nat_eq (get_or xs j 0) 10 ≡ false)
    → nat_eq (get_or xs k 0) 10 ≡ true → (k + 1 ≤ length xs) × IsLine (take (k + 1) xs)
found-line xs k within none found =
    let at = has-at 10 xs k within none found in
    let cut = cut-is 10 xs at.0 in
    let whole : xs ≡ take k xs ++ 10 ∷ after 10 xs = rw at.1 cut.0 in (
      omega (arith, within),
      record {
        front = take k xs;
        is = (cut_behind xs (after 10 xs) k 10 within whole).1;
        free = ap (has 10) at.1 ∙ cut.1;
      },
    )

module _ (xs : List ℕ) (from to len : ℕ) (within : len ≤ length (take (to - from) (drop from xs))) where
  abbrev pub leftover : List ℕ
  leftover = take (to - from) (drop from xs)

  abbrev pub rest : List ℕ
  rest = take (to - (from + len)) (drop (from + len) xs)

  short : len ≤ to - from
  short = grind (arith, length-take)

  is-line : take ((from + len) - from) (drop from xs) ≡ take len leftover
  is-line =
      let front : take len (take (to - from) (drop from xs)) ≡ take len (drop from xs) =
      grind (arith, common_steps, short) in
      ap (λ n. take n (drop from xs)) (omega arith) ∙ sym front

  -- what was read, cut behind a number of bytes
  in_parts : leftover ≡ take len leftover ++ rest
  in_parts =
      let is : to - from ≡ len + (to - (from + len)) = omega (arith, short) in
      let back : drop len leftover ≡ rest =
      ap (λ n. drop len (take n (drop from xs))) is ∙ drop-take len (to - (from + len)) (drop from xs)
      ∙ ap (take (to - (from + len))) (drop-drop len from xs) in
      sym (take-append-drop len leftover) ∙ ap (λ t. take len leftover ++ t) back

  -- with what was carried on before it
  pub cut-line : (carry kept : List ℕ) → has 10 carry ≡ false → IsLine (take len leftover)
      → kept ≡ ended_carry carry (take len leftover) → (line : List ℕ)
      → line ≡ (if nat_eq (length kept) 0 then take ((from + len) - from) (drop from xs) else kept)
      → (carry ++ leftover ≡ line ++ rest) × IsLine line
  cut-line [] kept none is k line e =
      let same : line ≡ take len leftover = grind (arith, nat_tests, k, e, is-line) in
      (in_parts ∙ ap (λ t. t ++ rest) (sym same), subst IsLine (sym same) is)
  cut-line (b ∷ carry) kept none is k line e =
      let same : line ≡ (b ∷ carry) ++ take len leftover = grind (arith, nat_tests, k, e) in (
        ap (λ t. (b ∷ carry) ++ t) in_parts ∙ sym (append_assoc (b ∷ carry) (take len leftover) rest)
            ∙ ap (λ t. t ++ rest) (sym same),
        subst IsLine (sym same) (record {
          front = (b ∷ carry) ++ is.front;
          is = ap (λ t. (b ∷ carry) ++ t) is.is ∙ sym (append_assoc (b ∷ carry) is.front (10 ∷ []));
          free = lacks-append 10 (b ∷ carry) is.front none is.free;
        }),
      )

-- a line fewer is left
pub shorter : (left bytes line unread : List ℕ) (limit after : ℕ) → left ++ bytes ≡ line ++ unread → IsLine line
    → after + length bytes ≡ limit → after + length unread < limit + length left
shorter left bytes line unread limit after e is f =
    let same : length left + length bytes ≡ length line + length unread =
    sym (length-append left bytes) ∙ ap length e ∙ length-append line unread in
    let some : length line ≡ length is.front + 1 = ap length is.is ∙ length-append is.front (10 ∷ []) in
    omega (arith, same, some, f)

-- what was read without a line feed is carried on
pub carried-on : (carry unread was bytes on : List ℕ) → carry ++ unread ≡ was ++ bytes → has 10 carry ≡ false
    → has 10 unread ≡ false → on ≡ carry ++ unread
    → (on ≡ was ++ bytes) × (has 10 on ≡ false) × (has 10 (was ++ bytes) ≡ false)
carried-on carry unread was bytes on e none free is =
    let all = lacks-append 10 carry unread none free in
    (is ∙ e, ap (has 10) is ∙ all, ap (has 10) (sym e) ∙ all)

-- one read more gave some bytes
pub gave_more : (a b c : SourceState) (bytes piece : List ℕ) → Gave a b bytes → 0 < length piece
    → Consumes b.rest c.rest piece → c.given ≡ b.given ++ piece ∷ [] → Gave a c (bytes ++ piece)
gave_more a b c bytes piece g some told e = grind (arith, common_steps, append_assoc, flat_map-append, append-nil)

-- nothing was given yet
pub gave_none : (a : SourceState) → Gave a a []
gave_none a = grind (arith, append-nil)

-- what came after some bytes that were left
pub came-gave : {left bytes : List ℕ} {b c : SourceState} → Came left b c bytes → Gave b c bytes
came-gave {left = left} {bytes = bytes} {b = b} {c = c} (inl h) =
    subst (λ bs. Gave b c bs) (sym h.1) (subst (λ d. Gave b d []) (sym h.0) (gave_none b))
came-gave (inr h) = h.gave_all

-- a failed read
pub gave_kept : (a b c : SourceState) (bytes : List ℕ) → Gave a b bytes → c.given ≡ b.given → Keeps b.rest c.rest
    → Gave a c bytes
gave_kept a b c bytes g e k = grind arith

-- a read that gave nothing
pub gave_end : (a b c : SourceState) (bytes piece : List ℕ) → Gave a b bytes → b.failures ≡ a.failures
    → c.failures ≡ b.failures → Consumes b.rest c.rest piece → c.given ≡ b.given ++ piece ∷ [] → piece ≡ []
    → IsAtEnd c.rest → GaveAll a c bytes
gave_end a b c bytes piece g f f' told e none end = record {
  no_failure = f' ∙ f;
  told = grind (arith, append-nil);
  before = b;
  gave = g;
  ended = e ∙ ap (λ p. b.given ++ p ∷ []) none;
}

-- one read more, where no line feed came before
pub came-read : (left bytes piece : List ℕ) (a b c : SourceState) → Came left a b bytes
    → has 10 (left ++ bytes) ≡ false → 0 < length piece → Consumes b.rest c.rest piece
    → c.given ≡ b.given ++ piece ∷ [] → LastOf left a c (bytes ++ piece)
came-read left bytes piece a b c h none some told e = record {
  before = b;
  front = bytes;
  piece = piece;
  gave = came-gave h;
  partial = none;
  added = e;
  all = refl;
  gave_all = gave_more a b c bytes piece (came-gave h) some told e;
}

-- reads after reads
pub gave_then : (a b c : SourceState) (xs ys : List ℕ) → Gave a b xs → Gave b c ys → Gave a c (xs ++ ys)
gave_then a b c xs ys g h = grind (arith, common_steps, append_assoc, flat_map-append, append-nil)

pub all_then : (a b c : SourceState) (xs ys : List ℕ) → Gave a b xs → b.failures ≡ a.failures → GaveAll b c ys
    → GaveAll a c (xs ++ ys)
all_then a b c xs ys g f h = record {
  no_failure = h.no_failure ∙ f;
  told = grind (arith, common_steps);
  before = h.before;
  gave = gave_then a b h.before xs ys g h.gave;
  ended = h.ended;
}
