-- The words of headings, records and rows.
use Rattle.std.proofs.Common.{◌≡◌, ℕ, ◌+◌, ◌<◌, inl, inr, Bool, true, false, List, [], ◌∷◌, ◌++◌, Option, None, Some}
use Rattle.std.proofs.Common.{length, refl, sym, ap, ◌∙◌, arith, append_assoc, append-nil, length-append, nat_lt, take}
use Rattle.std.proofs.Common.{◌^◌, flat_map, map}
use Rattle.std.specs.Prelude.{◌==◌, ◌&&◌, slice_get, codes, decimal, nat_eq, nat_le, fold, ◌*◌, ◌-◌, min}
use Rattle.std.specs.Prelude.{drop, if◌then◌else◌}
use Rattle.std.proofs.lemmas.Bool.Decides.{nat_tests}
use Rattle.std.proofs.lemmas.Option.{slice_get_past}
use Rattle.std.proofs.Math.Seq.{take-append_seam, drop-append_seam}
use Rattle.std.proofs.lemmas.List.{take-append-drop}
use Rattle.std.specs.Char.{is_ascii_digit}
use Rattle.std.specs.List.{AllByRecursion, list_all, list_any, slice_split}
use Rattle.std.specs.Str.{byte, bytes_eq}
use Rattle.std.proofs.lemmas.Bool.{or_from}
use Rattle.std.proofs.lemmas.Fmt.{decimal_injective, digits_value-decimal}
use Rattle.std.proofs.lemmas.List.Folds.{list_any-append}
use Rattle.std.proofs.lemmas.Slice.Eq.{bytes_eq-Decides}
use Rattle.xc_text.specs.Words.{has}
use Rattle.xc_text.proofs.ListLemmas.{by_bool}
use Rattle.xc_text.proofs.LineLemmas.{lacks-append}
use Rattle.xc_input.proofs.TokenLemmas.{digits, lacks-decimal, digits_read}
use Rattle.xc_text.proofs.NumberLemmas.{value_from}
use Rattle.xc_input.proofs.WrittenTexts.{split-front}
use Rattle.xc_input.proofs.FaultLemmas.{not_false}
use Rattle.xc_search.specs.Spans.{precedes}
use Rattle.xc_search.proofs.RowLemmas.{before_first, less_before, less_behind, same_beginning}
use Rattle.xc_check.specs.ListingLines.{words_in}
use Rattle.xc_list.specs.Digests.{after_text, digits_of}
use Rattle.xc_list.specs.SpanTexts.{row_text, branches_text, most_counted}
use Rattle.xc_list.proofs.Writing.{digits-digits, digits-length}
use Rattle.xc_list.specs.declared.text_digest.TextDigest.{TextDigest}
use Rattle.xc_tools.specs.inner.SpanLines.{Risen, risen_after, has_risen, heading_of, is_number, is_row, numbers_in}
use Rattle.xc_tools.specs.inner.SpanLines.{before_digest, record_of, saturating_number}
use Rattle.xc_tools.specs.SpanShapes.{is_digest, is_hex}

-- ---- tests

pub both : (a b : Bool) → (a && b) ≡ true → (a ≡ true) × (b ≡ true)
both true b h = (refl, h)
both false b h = absurd (cc h)

pub some-if : {X : Type 0} (b : Bool) (x y : X) → (if b then Some x else None) ≡ Some y → (b ≡ true) × (x ≡ y)
some-if true x y h = (refl, cc h)
some-if false x y h = absurd (cc h)

pub is-word : (a b : List ℕ) → bytes_eq a b ≡ true → a ≡ b
is-word a b h = (bytes_eq-Decides a b).0 h

-- ======== The row of a solution whose numbers are taken one by one.

-- behind these numbers, if each may follow
abbrev pub pushed : Risen → List ℕ → Option Risen
pushed r [] = Some r
pushed r (k ∷ ks) = elim (risen_after r k) [ None ↦ None | Some q ↦ pushed q ks ]

-- the numbers behind a first one
abbrev on : List ℕ → Option Risen → Option Risen
on ks o = elim o [ None ↦ None | Some q ↦ pushed q ks ]

on-none : (o : Option Risen) → on [] o ≡ o
on-none None = refl
on-none (Some q) = refl

on-more : (o : Option Risen) (ks : List ℕ) (k : ℕ) (q : Risen)
    → ((z : Risen) → pushed z ks ≡ Some q → pushed z (ks ++ k ∷ []) ≡ risen_after q k) → on ks o ≡ Some q
    → on (ks ++ k ∷ []) o ≡ risen_after q k
on-more None ks k q more e = absurd (cc e)
on-more (Some z) ks k q more e = more z e

pub pushed-more : (r : Risen) (ks : List ℕ) (k : ℕ) (q : Risen) → pushed r ks ≡ Some q
    → pushed r (ks ++ k ∷ []) ≡ risen_after q k
pushed-more r [] k q e = let is : r ≡ q = cc e in on-none (risen_after r k) ∙ ap (λ z. risen_after z k) is
pushed-more r (j ∷ ks) k q e = on-more (risen_after r j) ks k q (λ z. pushed-more z ks k q) e

get-seam : (pre : List ℕ) (n : ℕ) (suf : List ℕ) → slice_get (pre ++ n ∷ suf) (length pre) ≡ Some n
get-seam [] n suf = refl
get-seam (x ∷ pre) n suf = get-seam pre n suf

-- past the row before
pub rise-past : (pre ks : List ℕ) → pushed (record { row = pre; tied = None }) ks
    ≡ Some (record { row = pre ++ ks; tied = None })
rise-past pre [] = ap (λ r. Some (record { row = r; tied = None })) (sym (append-nil pre))
rise-past pre (k ∷ ks) =
    rise-past (pre ++ k ∷ []) ks ∙ ap (λ r. Some (record { row = r; tied = None })) (append_assoc pre (k ∷ []) ks)

-- what taking one number more at a depth comes to, by what stands there
module _ (pre : List ℕ) (k : ℕ) where
  after-end : risen_after (record { row = pre ++ []; tied = Some (length pre) }) k
      ≡ Some (record { row = pre ++ k ∷ []; tied = None })
  after-end = rw (append-nil pre, slice_get_past pre (length pre) (omega arith)) (ap (λ r. Some (record {
    row = r ++ k ∷ [];
    tied = None;
  })) (ap (take (length pre)) (sym (append-nil pre)) ∙ take-append_seam pre []))

  module _ (n : ℕ) (suf : List ℕ) where
    after-past : nat_lt n k ≡ true → risen_after (record { row = pre ++ n ∷ suf; tied = Some (length pre) }) k
        ≡ Some (record { row = pre ++ k ∷ []; tied = None })
    after-past h =
        let low : nat_lt k n ≡ false = grind (arith, nat_tests) in
        let other : (k == n) ≡ false = grind (arith, nat_tests) in
        rw (get-seam pre n suf, low, other) (ap (λ r. Some (record { row = r ++ k ∷ []; tied = None }))
        (take-append_seam pre (n ∷ suf)))

    after-below : nat_lt k n ≡ true → risen_after (record { row = pre ++ n ∷ suf; tied = Some (length pre) }) k ≡ None
    after-below h = rw (get-seam pre n suf, h) refl

  after-same : (suf : List ℕ) → risen_after (record { row = pre ++ k ∷ suf; tied = Some (length pre) }) k
      ≡ Some (record { row = (pre ++ k ∷ []) ++ suf; tied = Some (length (pre ++ k ∷ [])) })
  after-same suf =
      let low : nat_lt k k ≡ false = grind (arith, nat_tests) in
      let is : (k == k) ≡ true = grind (arith, nat_tests) in
      let deep : length pre + 1 ≡ length (pre ++ k ∷ []) = sym (length-append pre (k ∷ [])) in
      rw (get-seam pre k suf, low, is) (ap (λ d. Some (record { row = pre ++ k ∷ suf; tied = Some d })) deep
      ∙ ap (λ r. Some (record { row = r; tied = Some (length (pre ++ k ∷ [])) })) (sym (append_assoc pre (k ∷ []) suf)))

-- tied with the row before up to a depth: what follows there comes before these numbers
pub rise-tied : (pre suf ks : List ℕ) → precedes suf ks ≡ true
    → pushed (record { row = pre ++ suf; tied = Some (length pre) }) ks ≡ Some (record { row = pre ++ ks; tied = None })
rise-tied pre suf [] h = absurd (none suf h)
  where
    none : (suf : List ℕ) → precedes suf [] ≡ true → ⊥
    none [] h = absurd (cc h)
    none (n ∷ suf) h = absurd (cc h)
rise-tied pre [] (k ∷ ks) h =
    ap (on ks) (after-end pre k) ∙ (rise-past (pre ++ k ∷ []) ks ∙ ap (λ r. Some (record { row = r; tied = None }))
    (append_assoc pre (k ∷ []) ks))
rise-tied pre (n ∷ suf) (k ∷ ks) h = elim (before_first n k suf ks h) [
  | inl less ↦
      let low : nat_lt n k ≡ true = grind (arith, nat_tests) in
      ap (on ks) (after-past pre k n suf low) ∙ (rise-past (pre ++ k ∷ []) ks
      ∙ ap (λ r. Some (record { row = r; tied = None }))
      (append_assoc pre (k ∷ []) ks))
  | inr same ↦
      rw (same.0) (ap (on ks) (after-same pre k suf) ∙ rise-tied (pre ++ k ∷ []) suf ks same.1
      ∙ ap (λ r. Some (record { row = r; tied = None })) (append_assoc pre (k ∷ []) ks))
]

-- the same numbers
pub rise-same : (pre ks : List ℕ) → pushed (record { row = pre ++ ks; tied = Some (length pre) }) ks
    ≡ Some (record { row = pre ++ ks; tied = Some (length (pre ++ ks)) })
rise-same pre [] = ap (λ d. Some (record { row = pre ++ []; tied = Some (length d) })) (sym (append-nil pre))
rise-same pre (k ∷ ks) =
    ap (on ks) (after-same pre k ks) ∙ (rise-same (pre ++ k ∷ []) ks
    ∙ ap (λ r. Some (record { row = r; tied = Some (length r) })) (append_assoc pre (k ∷ []) ks))

-- rows that don't come before one another are one row
pub neither : (a b : List ℕ) → precedes a b ≡ false → precedes b a ≡ false → a ≡ b
neither [] [] e f = refl
neither [] (y ∷ b) e f = absurd (cc e)
neither (x ∷ a) [] e f = absurd (cc f)
neither (x ∷ a) (y ∷ b) e f = grind (arith, nat_tests, neither a b)

-- the row of a whole solution beside the one before it, or the one at which the span begins
abbrev pub IsAfter : Bool → List ℕ → List ℕ → Type 0
IsAfter true last row = precedes row last ≡ false
IsAfter false last row = precedes last row ≡ true

-- a row that may follow is taken
pub rises : (first : Bool) (last row : List ℕ) → IsAfter first last row
    → (r : Risen) × (pushed (record { row = last; tied = Some 0 }) row ≡ Some r) × (r.row ≡ row)
    × (has_risen r first ≡ true)
rises false last row h = (record { row = row; tied = None }, rise-tied [] last row h, refl, refl)
rises true last row h = by_bool (precedes last row)
    (λ less. (record { row = row; tied = None }, rise-tied [] last row less, refl, refl))
    (λ no.
    let is = neither last row no h in
    let deep : (length row == length row) ≡ true = grind (arith, nat_tests) in
    (record { row = row; tied = Some (length row) }, rw is (rise-same [] row), refl, deep))

-- ---- what was taken

row-is : {r : Risen} {row : List ℕ} {tied : Option ℕ} → Some (record { row = row; tied = tied }) ≡ Some r → r.row ≡ row
row-is {r = r} {row = row} {tied = tied} e = ap (λ (o : Option Risen). elim o [ None ↦ row | Some q ↦ q.row ]) (sym e)

same-first : (first : Bool) (k : ℕ) (suf ks : List ℕ) → IsAfter first suf ks → IsAfter first (k ∷ suf) (k ∷ ks)
same-first true k suf ks h = same_beginning (k ∷ []) ks suf ∙ h
same-first false k suf ks h = same_beginning (k ∷ []) suf ks ∙ h

less-first : (first : Bool) (n k : ℕ) (suf ks : List ℕ) → n < k → IsAfter first (n ∷ suf) (k ∷ ks)
less-first true n k suf ks h = less_behind k n ks suf h
less-first false n k suf ks h = less_before n k suf ks h

none-first : (first : Bool) (k : ℕ) (ks : List ℕ) → IsAfter first [] (k ∷ ks)
none-first true k ks = refl
none-first false k ks = refl

-- tied to the end
tied-end : (pre suf : List ℕ) (first : Bool)
    → has_risen (record { row = pre ++ suf; tied = Some (length pre) }) first ≡ true
    → (suf ≡ []) × (first ≡ true)
tied-end pre [] true h = (refl, refl)
tied-end pre [] false h = absurd (cc h)
tied-end pre (n ∷ suf) true h =
    let deep : length pre ≡ length (pre ++ n ∷ suf) = grind (arith, nat_tests) in
    absurd (omega (arith, deep, length-append pre (n ∷ suf)))
tied-end pre (n ∷ suf) false h = absurd (cc h)

-- a row that was taken and ends well may follow
pub ends-after : (pre suf ks : List ℕ) (first : Bool) (r : Risen)
    → pushed (record { row = pre ++ suf; tied = Some (length pre) }) ks ≡ Some r → has_risen r first ≡ true
    → (r.row ≡ pre ++ ks) × IsAfter first suf ks
ends-after pre suf [] first r e h =
    let is : record { row = pre ++ suf; tied = Some (length pre) } ≡ r = cc e in
    let end = tied-end pre suf first (ap (λ z. has_risen z first) is ∙ h) in
    rw (end.0, end.1) (row-is (rw end.0 at e), refl)
ends-after pre [] (k ∷ ks) first r e h =
    let taken = sym (ap (on ks) (after-end pre k) ∙ rise-past (pre ++ k ∷ []) ks) ∙ e in
    (row-is taken ∙ append_assoc pre (k ∷ []) ks, none-first first k ks)
ends-after pre (n ∷ suf) (k ∷ ks) first r e h = by_bool (nat_lt k n)
    (λ less. absurd (cc (sym (ap (on ks) (after-below pre k n suf less)) ∙ e)))
    (λ not_less. by_bool (nat_lt n k)
    (λ more.
    let taken = sym (ap (on ks) (after-past pre k n suf more) ∙ rise-past (pre ++ k ∷ []) ks) ∙ e in
    let above : n < k = grind (arith, nat_tests) in
    (row-is taken ∙ append_assoc pre (k ∷ []) ks, less-first first n k suf ks above))
    (λ not_more.
    let is : n ≡ k = grind (arith, nat_tests) in
    let taken = sym (ap (on ks) (after-same pre k suf)) ∙ rw is at e in
    let so = ends-after (pre ++ k ∷ []) suf ks first r taken h in
    (so.0 ∙ append_assoc pre (k ∷ []) ks, rw is (same-first first k suf ks so.1))))

-- the first number was taken, and then the others
pub pushed-first : (r q : Risen) (k : ℕ) (ks : List ℕ) → pushed r (k ∷ ks) ≡ Some q
    → (z : Risen) × (risen_after r k ≡ Some z) × (pushed z ks ≡ Some q)
pushed-first r q k ks e = split (risen_after r k) e
  where
    split : (o : Option Risen) → on ks o ≡ Some q → (z : Risen) × (o ≡ Some z) × (pushed z ks ≡ Some q)
    split None e = absurd (cc e)
    split (Some z) e = (z, refl, e)

-- ======== The words of headings and records.

-- ---- digits

sat-from : (bs : List ℕ) (v w : ℕ) → w ≡ min most_counted v
    → fold (λ n b. min most_counted (min most_counted (n * 10) + (b - byte "0"))) w bs ≡ min most_counted
    (value_from v bs)
sat-from [] v w e = e
sat-from (b ∷ bs) v w e =
    sat-from bs (v * 10 + (b - 48)) (min most_counted (min most_counted (w * 10) + (b - 48))) (omega (arith, e))

pub saturated : (n : ℕ) → n < 2 ^ 64 → saturating_number (decimal n) ≡ n
saturated n h =
    let all = sat-from (decimal n) 0 0 refl ∙ ap (min most_counted) (digits_value-decimal digits_read n h) in
    omega (arith, all, h)

pub same : (w : List ℕ) → bytes_eq w w ≡ true
same w = (bytes_eq-Decides w w).1 refl

pub is_number-decimal : (n : ℕ) → n < 2 ^ 64 → is_number (decimal n) ≡ true
is_number-decimal n h = ap (λ m. bytes_eq (decimal n) (decimal m)) (saturated n h) ∙ same (decimal n)

-- ---- parts

abbrev pub is_blank : ℕ → Bool
is_blank b = b == byte " "

abbrev is_point : ℕ → Bool
is_point b = b == byte "."

-- a word and a space at the front
pub word-then : (w rest : List ℕ) → list_any is_blank w ≡ false → words_in (w ++ 32 ∷ rest) ≡ w ∷ words_in rest
word-then w rest h = split-front is_blank w (32 ∷ rest) (words_in rest) h refl

pub word-last : (w : List ℕ) → list_any is_blank w ≡ false → words_in w ≡ w ∷ []
word-last w h = ap words_in (sym (append-nil w)) ∙ split-front is_blank w [] [] h refl

-- ---- rows

abbrev pub AreShort : List ℕ → Type 0
AreShort row = AllByRecursion (λ n. n < 2 ^ 64) row

-- bytes of a row have no such byte
lacks-more : (q : ℕ → Bool) → ((b : ℕ) → is_ascii_digit b ≡ true → q b ≡ false) → q 46 ≡ false → (row : List ℕ)
    → AreShort row → list_any q (flat_map (λ k. codes "." ++ decimal k) row) ≡ false
lacks-more q apart point [] small = refl
lacks-more q apart point (n ∷ row) small =
    let first = lacks-decimal q apart n small.0 in
    let rest = lacks-more q apart point row small.1 in
    rw (list_any-append q (codes "." ++ decimal n) (flat_map (λ k. codes "." ++ decimal k) row))
    (or_from (list_any q (codes "." ++ decimal n)) (list_any q (flat_map (λ k. codes "." ++ decimal k) row))
    (or_from (q 46) (list_any q (decimal n)) point first) rest)

pub lacks-row : (q : ℕ → Bool) → ((b : ℕ) → is_ascii_digit b ≡ true → q b ≡ false) → q 46 ≡ false → q 45 ≡ false
    → (row : List ℕ) → AreShort row → list_any q (row_text row) ≡ false
lacks-row q apart point dash [] small = or_from (q 45) false dash refl
lacks-row q apart point dash (n ∷ row) small =
    let first = lacks-decimal q apart n small.0 in
    let rest = lacks-more q apart point row small.1 in
    rw (list_any-append q (decimal n) (flat_map (λ k. codes "." ++ decimal k) row))
    (or_from (list_any q (decimal n)) (list_any q (flat_map (λ k. codes "." ++ decimal k) row)) first rest)

numbers-more : (n : ℕ) (row : List ℕ) → n < 2 ^ 64 → AreShort row
    → slice_split is_point (decimal n ++ flat_map (λ k. codes "." ++ decimal k) row) ≡ map decimal (n ∷ row)
numbers-more n [] h small =
    split-front is_point (decimal n) [] [] (lacks-decimal is_point (λ b d. grind (arith, nat_tests)) n h) refl
numbers-more n (k ∷ row) h small =
    split-front is_point (decimal n) _ _ (lacks-decimal is_point (λ b d. grind (arith, nat_tests)) n h)
    (ap (λ ws. [] ∷ ws) (numbers-more k row small.0 small.1))

all-numbers : (row : List ℕ) → AreShort row → list_all is_number (map decimal row) ≡ true
all-numbers [] small = refl
all-numbers (n ∷ row) small = grind (arith, nat_tests, is_number-decimal n, all-numbers row small.1)

pub is_row-row : (row : List ℕ) → AreShort row → is_row (row_text row) ≡ true
is_row-row [] small = refl
is_row-row (n ∷ row) small =
    grind (arith, nat_tests, numbers-more n row small.0 small.1, all-numbers (n ∷ row) small)

apart-blank : (b : ℕ) → is_ascii_digit b ≡ true → is_blank b ≡ false
apart-blank b h = grind (arith, nat_tests)

pub blank-row : (row : List ℕ) → AreShort row → list_any is_blank (row_text row) ≡ false
blank-row row small = lacks-row is_blank apart-blank refl refl row small

pub blank-decimal : (n : ℕ) → n < 2 ^ 64 → list_any is_blank (decimal n) ≡ false
blank-decimal n h = lacks-decimal is_blank apart-blank n h

-- ---- dashes

pub dash_or_digits : (n : ℕ) (row : List ℕ) → n < 2 ^ 64 → AreShort row → row_text (n ∷ row) ≡ codes "-" → ⊥
dash_or_digits n row h short e =
    let parts : map decimal (n ∷ row) ≡ codes "-" ∷ [] = sym (numbers-more n row h short) ∙ ap
    (slice_split is_point) e in
    let first : decimal n ≡ codes "-" = cc parts in
    absurd (cc (sym (digits n h) ∙ ap (list_all is_ascii_digit) first))

pub not-dash : (n : ℕ) (row : List ℕ) → AreShort (n ∷ row) → bytes_eq (row_text (n ∷ row)) (codes "-") ≡ false
not-dash n row short = not_false _ (λ q.
    dash_or_digits n row short.0 short.1 ((bytes_eq-Decides (row_text (n ∷ row)) (codes "-")).0 q))

all-saturated : (row : List ℕ) → AreShort row → map saturating_number (map decimal row) ≡ row
all-saturated [] short = refl
all-saturated (n ∷ row) short = cc (saturated n short.0, all-saturated row short.1)

-- a row's numbers
pub numbers-row : (row : List ℕ) → AreShort row → numbers_in (row_text row) ≡ row
numbers-row [] short = refl
numbers-row (n ∷ row) short =
    rw (not-dash n row short, numbers-more n row short.0 short.1) (all-saturated (n ∷ row) short)

-- ---- digests

digest-lacks : (q : ℕ → Bool) → ((b : ℕ) → is_hex b ≡ true → q b ≡ false) → (d : List ℕ) → list_all is_hex d ≡ true
    → list_any q d ≡ false
digest-lacks q apart [] h = refl
digest-lacks q apart (b ∷ d) h = grind (arith, nat_tests, apart b, digest-lacks q apart d)

hex-blank : (b : ℕ) → is_hex b ≡ true → is_blank b ≡ false
hex-blank b h = grind (arith, nat_tests)

hex-feed : (b : ℕ) → is_hex b ≡ true → nat_eq b 10 ≡ false
hex-feed b h = grind (arith, nat_tests)

hexes : (d : List ℕ) → is_digest d ≡ true → list_all is_hex d ≡ true
hexes d h = grind (arith, nat_tests)

blank-digest : (d : List ℕ) → is_digest d ≡ true → list_any is_blank d ≡ false
blank-digest d h = digest-lacks is_blank hex-blank d (hexes d h)

feed-digest : (d : List ℕ) → is_digest d ≡ true → has 10 d ≡ false
feed-digest d h = digest-lacks (λ b. nat_eq b 10) hex-feed d (hexes d h)

-- ---- the lines of a heading and of a record

abbrev pub heading_line : List ℕ → List ℕ → List ℕ
heading_line row digest = codes "from " ++ (row_text row ++ (codes " problem " ++ digest))

abbrev pub record_line : List ℕ → List ℕ → Option (List ℕ) → ℕ → ℕ → List ℕ → List ℕ
record_line from until branches n steps digest =
    codes "from " ++ (row_text from ++ (codes " until " ++ (row_text until ++ (branches_text branches
    ++ (codes " solutions " ++ (decimal n ++ (codes " steps " ++ (decimal steps ++ (codes " problem " ++ digest)))))))))

abbrev pub problem_words : List ℕ → List (List ℕ)
problem_words digest = codes "problem" ∷ digest ∷ []

words-problem : (digest : List ℕ) → is_digest digest ≡ true → words_in (codes "problem " ++ digest)
    ≡ problem_words digest
words-problem digest d = ap (λ ws. codes "problem" ∷ ws) (word-last digest (blank-digest digest d))

pub heading-read : (row digest : List ℕ) → AreShort row → is_digest digest ≡ true
    → heading_of (words_in (heading_line row digest)) ≡ Some (record { row = row_text row; digest = digest })
heading-read row digest short d =
    let words : words_in (heading_line row digest) ≡ codes "from" ∷ row_text row ∷ problem_words digest =
    ap (λ ws. codes "from" ∷ ws) (word-then (row_text row) (codes "problem " ++ digest) (blank-row row short)
    ∙ ap (λ ws. row_text row ∷ ws) (words-problem digest d)) in
    rw (words, is_row-row row short, d) refl

abbrev counts_line : ℕ → ℕ → List ℕ → List ℕ
counts_line n steps digest =
    codes "solutions " ++ (decimal n ++ (codes " steps " ++ (decimal steps ++ (codes " problem " ++ digest))))

abbrev pub counts_words : List ℕ → List ℕ → List ℕ → List (List ℕ)
counts_words n steps digest = codes "solutions" ∷ n ∷ codes "steps" ∷ steps ∷ problem_words digest

words-counts : (n steps : ℕ) (digest : List ℕ) → n < 2 ^ 64 → steps < 2 ^ 64 → is_digest digest ≡ true
    → words_in (counts_line n steps digest) ≡ counts_words (decimal n) (decimal steps) digest
words-counts n steps digest h k d =
    ap (λ ws. codes "solutions" ∷ ws) (word-then (decimal n) (codes "steps " ++ (decimal steps
    ++ (codes " problem " ++ digest))) (blank-decimal n h)
    ∙ ap (λ ws. decimal n ∷ codes "steps" ∷ ws) (word-then (decimal steps) (codes "problem " ++ digest)
    (blank-decimal steps k)
    ∙ ap (λ ws. decimal steps ∷ ws) (words-problem digest d)))

-- the words from the end of a span on
module _ (until : List ℕ) (n steps : ℕ) (digest : List ℕ) (u : AreShort until) (h : n < 2 ^ 64) (k : steps < 2 ^ 64)
    (d : is_digest digest ≡ true) where
  words-end : words_in (row_text until ++ 32 ∷ counts_line n steps digest)
      ≡ row_text until ∷ counts_words (decimal n) (decimal steps) digest
  words-end = word-then (row_text until) (counts_line n steps digest) (blank-row until u)
      ∙ ap (λ ws. row_text until ∷ ws) (words-counts n steps digest h k d)

  words-stop : (row : List ℕ) → AreShort row
      → words_in (row_text until ++ (branches_text (Some row) ++ 32 ∷ counts_line n steps digest))
      ≡ row_text until ∷ codes "of" ∷ row_text row ∷ counts_words (decimal n) (decimal steps) digest
  words-stop row r =
      word-then (row_text until) (codes "of " ++ (row_text row ++ 32 ∷ counts_line n steps digest)) (blank-row until u)
      ∙ ap (λ ws. row_text until ∷ codes "of" ∷ ws) (word-then (row_text row) (counts_line n steps digest)
      (blank-row row r)
      ∙ ap (λ ws. row_text row ∷ ws) (words-counts n steps digest h k d))

abbrev pub AreShortIf : Option (List ℕ) → Type 0
AreShortIf None = Unit {0}
AreShortIf (Some row) = AreShort row

pub record-read : (from until : List ℕ) (branches : Option (List ℕ)) (n steps : ℕ) (digest : List ℕ) → AreShort from
    → AreShort until → AreShortIf branches → n < 2 ^ 64 → steps < 2 ^ 64 → is_digest digest ≡ true
    → record_of (words_in (record_line from until branches n steps digest))
    ≡ Some (record {
      from = row_text from;
      until = row_text until;
      counts = record { solutions = n; digest = digest };
    })
record-read from until None n steps digest f u b h k d =
    let words : words_in (record_line from until None n steps digest)
    ≡ codes "from" ∷ row_text from ∷ codes "until" ∷ row_text until ∷ counts_words (decimal n) (decimal steps) digest =
    ap (λ ws. codes "from" ∷ ws) (word-then (row_text from) (codes "until "
    ++ (row_text until ++ 32 ∷ counts_line n steps digest)) (blank-row from f)
    ∙ ap (λ ws. row_text from ∷ codes "until" ∷ ws) (words-end until n steps digest u h k d)) in
    rw (
      words,
      is_row-row from f,
      is_row-row until u,
      is_number-decimal n h,
      is_number-decimal steps k,
      d,
      saturated n h,
    ) refl
record-read from until (Some row) n steps digest f u b h k d =
    let words : words_in (record_line from until (Some row) n steps digest)
    ≡ codes "from" ∷ row_text from ∷ codes "until" ∷ row_text until ∷ codes "of" ∷ row_text row
    ∷ counts_words (decimal n) (decimal steps) digest =
    ap (λ ws. codes "from" ∷ ws) (word-then (row_text from) (codes "until "
    ++ (row_text until ++ (branches_text (Some row) ++ 32 ∷ counts_line n steps digest))) (blank-row from f)
    ∙ ap (λ ws. row_text from ∷ codes "until" ∷ ws) (words-stop until n steps digest u h k d row b)) in
    rw (
      words,
      is_row-row from f,
      is_row-row until u,
      is_row-row row b,
      is_number-decimal n h,
      is_number-decimal steps k,
      d,
      saturated n h,
    ) refl

-- ---- no line feed

apart-feed : (b : ℕ) → is_ascii_digit b ≡ true → nat_eq b 10 ≡ false
apart-feed b h = grind (arith, nat_tests)

pub feed-row : (row : List ℕ) → AreShort row → has 10 (row_text row) ≡ false
feed-row row short = lacks-row (λ b. nat_eq b 10) apart-feed refl refl row short

pub feed-decimal : (n : ℕ) → n < 2 ^ 64 → has 10 (decimal n) ≡ false
feed-decimal n h = lacks-decimal (λ b. nat_eq b 10) apart-feed n h

feed-branches : (branches : Option (List ℕ)) → AreShortIf branches → has 10 (branches_text branches) ≡ false
feed-branches None b = refl
feed-branches (Some row) b = feed-row row b

pub feed-heading : (row digest : List ℕ) → AreShort row → is_digest digest ≡ true
    → has 10 (heading_line row digest) ≡ false
feed-heading row digest short d = lacks-append 10 (row_text row) _ (feed-row row short) (feed-digest digest d)

pub feed-record : (from until : List ℕ) (branches : Option (List ℕ)) (n steps : ℕ) (digest : List ℕ) → AreShort from
    → AreShort until → AreShortIf branches → n < 2 ^ 64 → steps < 2 ^ 64 → is_digest digest ≡ true
    → has 10 (record_line from until branches n steps digest) ≡ false
feed-record from until branches n steps digest f u b h k d =
    lacks-append 10 (row_text from) _ (feed-row from f)
    (lacks-append 10 (row_text until) _ (feed-row until u)
    (lacks-append 10 (branches_text branches) _ (feed-branches branches b)
    (lacks-append 10 (decimal n) _ (feed-decimal n h)
    (lacks-append 10 (decimal steps) _ (feed-decimal steps k) (feed-digest digest d)))))

-- ---- the digest of a text

free-digits : (d : TextDigest) → has 10 (digits_of d) ≡ false
free-digits d = digest-lacks (λ b. nat_eq b 10) hex-feed (digits_of d) (digits-digits d)

-- the last line of a text: a front, and the digest of the text up to there
abbrev pub closing_line : TextDigest → List ℕ → List ℕ
closing_line text front = front ++ (codes " text " ++ digits_of (after_text text front))

pub feed-closing : (text : TextDigest) (front : List ℕ) → has 10 front ≡ false
    → has 10 (closing_line text front) ≡ false
feed-closing text front free =
    lacks-append 10 front (codes " text " ++ digits_of (after_text text front)) free
    (free-digits (after_text text front))

pub closing-read : (text : TextDigest) (front : List ℕ) → before_digest text (closing_line text front) ≡ Some front
closing-read text front =
    let digits = digits_of (after_text text front) in
    let last = codes " text " ++ digits in
    let name : length (codes " text ") ≡ 6 = refl in
    let long : length (front ++ last) ≡ length front + 22 = omega (
      arith,
      length-append front last,
      length-append (codes " text ") digits,
      digits-length (after_text text front),
      name,
    ) in
    let most : nat_le 22 (length (front ++ last)) ≡ true = grind (arith, nat_tests) in
    let at : length (front ++ last) - 22 ≡ length front = omega (arith, long) in
    rw (most, at, take-append_seam front last, drop-append_seam front last, same digits) refl

pub closing-is : (text : TextDigest) (line front : List ℕ) → before_digest text line ≡ Some front
    → line ≡ closing_line text front
closing-is text line front e =
    let n = length line - 22 in
    let last = drop n line in
    let digits = digits_of (after_text text (take n line)) in
    let so = some-if (nat_le 22 (length line) && bytes_eq (take 6 last) (codes " text ")
    && bytes_eq (drop 6 last) digits) (take n line) front e in
    let two = both (nat_le 22 (length line) && bytes_eq (take 6 last) (codes " text ")) (bytes_eq (drop 6 last) digits)
    so.0 in
    let one = both (nat_le 22 (length line)) (bytes_eq (take 6 last) (codes " text ")) two.0 in
    sym (take-append-drop n line)
    ∙ ap (λ t. take n line ++ t) (sym (take-append-drop 6 last)
    ∙ ap (λ t. t ++ drop 6 last) (is-word (take 6 last) (codes " text ") one.1)
    ∙ ap (λ t. codes " text " ++ t) (is-word (drop 6 last) digits two.1))
    ∙ ap (closing_line text) so.1

-- ---- rows by their texts

same-numbers : (a b : List ℕ) → AreShort a → AreShort b → map decimal a ≡ map decimal b → a ≡ b
same-numbers [] [] p q e = refl
same-numbers [] (y ∷ b) p q e = absurd (cc e)
same-numbers (x ∷ a) [] p q e = absurd (cc e)
same-numbers (x ∷ a) (y ∷ b) p q e =
    let first : decimal x ≡ decimal y = cc e in
    let rest : map decimal a ≡ map decimal b = cc e in
    cc (decimal_injective x y p.0 q.0 first, same-numbers a b p.1 q.1 rest)

-- rows with one text are one row
pub rows-same : (a b : List ℕ) → AreShort a → AreShort b → row_text a ≡ row_text b → a ≡ b
rows-same [] [] p q e = refl
rows-same [] (y ∷ b) p q e = absurd (dash_or_digits y b q.0 q.1 (sym e))
rows-same (x ∷ a) [] p q e = absurd (dash_or_digits x a p.0 p.1 e)
rows-same (x ∷ a) (y ∷ b) p q e =
    same-numbers (x ∷ a) (y ∷ b) p q
    (sym (numbers-more x a p.0 p.1) ∙ ap (slice_split is_point) e ∙ numbers-more y b q.0 q.1)
